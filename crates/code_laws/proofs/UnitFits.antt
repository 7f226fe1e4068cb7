-- The scheme's code of what unit generators do, after its operands, has a typing; and so has the
-- code of so many new ones in an array.
use Rattle.std.proofs.Common.{◌≡◌, ℕ, ◌+◌, List, [], ◌∷◌, pos, refl, subst}
use Rattle.ck_values.specs.declared.kind.Elem.TheVariants.{Int as IntElem, Unit as UnitElem}
use Rattle.ck_values.specs.declared.kind.Kind.{Kind}
use Rattle.ck_values.specs.declared.kind.Kind.TheVariants.{One, Row}
use Rattle.ck_values.specs.declared.trap.Place.{Place}
use Rattle.ugen_names.specs.declared.param.Param.{Param}
use Rattle.ugen_names.specs.declared.table.UgenKind.{UgenKind}
use Rattle.ck_typed.specs.declared.class.Class.{Class}
use Rattle.ck_typed.specs.Signatures.{parameter}
use Rattle.ck_typed.specs.Standing.{Stands}
use Rattle.ck_typed.specs.Tree.{Program}
use Rattle.ck_typed.specs.WellFormed.{HasParam, IsMade, IsWellFormed}
use Rattle.ck_code.specs.declared.instr.Instr.TheVariants.{Int, Row as RowInstr, Each, Turn, Ugen, Fill, Jump, Param as ReadParam, SetParam}
use Rattle.ck_code.specs.declared.code.Fun.{Fun}
use Rattle.ck_code.specs.declared.code.Step.{Step}
use Rattle.ck_code.specs.Verified.{Places, Typing, AreAt, OnUnits}
use Rattle.ck_code.proofs.Ranges.{finds_within}
use Rattle.ck_code.proofs.Standing.{unless, found_is, where_found, stands_refl}
use Rattle.ck_scheme.specs.Scheme.{at}
use Rattle.code_laws.proofs.Facts.{SetValue}
use Rattle.code_laws.proofs.Placed as laid
use Rattle.code_laws.proofs.SpotFits as spots

module _ (program : Program) (fine : IsWellFormed program) (locals : List Kind)
    (places : Places) (funs : List Fun) (typing : Typing) (fn : Fun) (f : ℕ)
    (at_locals : fn.locals ≡ locals) where
  abbrev classes : List Class
  classes = program.classes

  abbrev Placed : ℕ → List (List Kind) → Type 0
  Placed p shapes = laid.Placed program fine locals places p shapes

  abbrev Reached : ℕ → List Kind → Type 0
  Reached p ks = spots.Reached program fine locals places p ks

  reached : (p : ℕ) (ks : List Kind) → AreAt places p ks → Reached p ks
  reached = spots.reached program fine locals places

  abbrev Fine : ℕ → List Step → Type 0
  Fine p steps = spots.Fine program fine locals places funs typing fn f at_locals p steps

  -- a parameter of the unit generator on top
  pub param_fine : (q : Param) (place : Place) (of_ugen : Kind → Type 0) (k : Kind)
      (h : HasParam program of_ugen q (λ of_it. k ≡ One of_it.elem)) (under : List Kind) (p : ℕ)
      → AreAt places p (h.1.0 ∷ under) → Reached (p + 1) (k ∷ under)
      → Fine p (at (ReadParam q) place ∷ [])
  param_fine q place of_ugen k h under p ops end =
      let s = found_is (parameter h.0 q) _ h.2 in (
        (
          h.1.0 ∷ under,
          ops,
          unless h.1.0 _ (
            h.0,
            where_found (parameter h.0 q) _ s.0 s.1
                (h.1.2, subst (λ x. Reached (p + 1) (x ∷ under)) s.2 end),
          ),
        ),
        tt,
      )

  -- a parameter is set to the value on top
  pub set_param_fine : (q : Param) (place : Place) (u : UgenKind) (of_value : Kind → Type 0)
      (k : Kind) (v : SetValue program q u of_value k) (j : Kind) (under : List Kind) (p : ℕ)
      → Stands classes j (One (UnitElem u)) → AreAt places p (v.kind ∷ j ∷ under)
      → Reached (p + 1) (k ∷ under)
      → Fine p (at (SetParam q) place ∷ [])
  set_param_fine q place u of_value k v j under p is ops end = (
    (
      v.kind ∷ j ∷ under,
      ops,
      unless j _ (
        u,
        where_found (parameter u q) _ v.of_it v.at (
          v.is_set,
          v.stands,
          is,
          subst (λ x. Reached (p + 1) (x ∷ under)) v.is end,
        ),
      ),
    ),
    tt,
  )

  -- two unit generators, of which the upper one stays
  pub on_units : (u w : UgenKind) (j k : Kind) (under : List Kind) (p : ℕ)
      → Stands classes j (One (UnitElem u)) → Stands classes k (One (UnitElem w))
      → Reached p (k ∷ under)
      → OnUnits classes (k ∷ j ∷ under) (λ i beneath. Reached p (i ∷ beneath))
  on_units u w j k under p is_from is_to end =
      (u, w, is_to, is_from, unless j _ (unless k _ end))

  -- so many new unit generators in an array, after their number
  pub units_fine : (kind : UgenKind) (place : Place) (j : Kind) (under : List Kind) (q : ℕ)
      → IsMade kind → Stands classes j (One IntElem)
      → let array : Kind = Row (UnitElem kind) in
      let on : List Kind = One IntElem ∷ array ∷ under in
      let round = q + 1 + 1 in
      Placed q ((j ∷ under) ∷ (array ∷ under) ∷ on ∷ on ∷ on ∷ (One (UnitElem kind) ∷ on) ∷ on
      ∷ [])
      → Reached (round + 1 + 1 + 1 + 1 + 1) (array ∷ under)
      → Fine q (at (RowInstr (UnitElem kind)) place ∷ at (Int (pos 0)) place
      ∷ at (Each (round + 1 + 1 + 1 + 1 + 1)) place ∷ at Turn place ∷ at (Ugen kind) place
      ∷ at Fill place ∷ at (Jump round) place ∷ [])
  units_fine kind place j under q made is placed end =
      let round = q + 1 + 1 in
      let this : Kind = One (UnitElem kind) in
      let array : Kind = Row (UnitElem kind) in
      let on : List Kind = One IntElem ∷ array ∷ under in
      let filled = round + 1 + 1 + 1 in
      let each = placed.1.1 in
      let turn = each.1 in
      let new = turn.1 in
      let fill = new.1 in (
        (j ∷ under, placed.0, (tt, (is, reached (q + 1) (array ∷ under) placed.1.0))),
        (
          (array ∷ under, placed.1.0, reached round on each.0),
          (
            (
              on,
              each.0,
              (
                finds_within classes places (round + 1 + 1 + 1 + 1 + 1) (array ∷ under) end,
                (refl, (UnitElem kind, refl, (reached (round + 1) on turn.0, end))),
              ),
            ),
            (
              (on, turn.0, reached (round + 1 + 1) on new.0),
              (
                (on, new.0, (made, reached filled (this ∷ on) fill.0)),
                (
                  (
                    this ∷ on,
                    fill.0,
                    (
                      refl,
                      (
                        UnitElem kind,
                        refl,
                        (stands_refl classes this, reached (filled + 1) on fill.1.0),
                      ),
                    ),
                  ),
                  ((on, fill.1.0, reached round on each.0), tt),
                ),
              ),
            ),
          ),
        ),
      )
