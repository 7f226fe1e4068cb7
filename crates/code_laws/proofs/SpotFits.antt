-- The scheme's code that reads, sets and updates what stands somewhere has a typing.
use Rattle.std.proofs.Common.{◌≡◌, ℕ, ◌+◌, List, [], ◌∷◌, ◌++◌, length, pos, refl, ap, ◌∙◌, subst, arith}
use Rattle.std.specs.Prelude.{slice_get}
use Rattle.ck_values.specs.declared.kind.Elem.TheVariants.{Int as IntElem}
use Rattle.ck_values.specs.declared.kind.Kind.{Kind}
use Rattle.ck_values.specs.declared.kind.Kind.TheVariants.{One}
use Rattle.ck_values.specs.declared.operator.Op2.{Op2 as Operator}
use Rattle.ck_values.specs.declared.trap.Place.{Place}
use Rattle.ck_meaning.specs.Meaning.{undone_by}
use Rattle.ck_typed.specs.declared.expr.Direction.{Direction}
use Rattle.ck_typed.specs.declared.expr.Direction.TheVariants.{Up, Down}
use Rattle.ck_typed.specs.declared.class.Class.{Class}
use Rattle.ck_typed.specs.declared.expr.Spot.{Spot}
use Rattle.ck_typed.specs.declared.expr.Spot.TheVariants.{Local, Static, StaticOf, Field, Item}
use Rattle.ck_typed.specs.Standing.{Stands}
use Rattle.ck_typed.specs.Tree.{Program}
use Rattle.ck_typed.specs.WellFormed.{IsWellFormed}
use Rattle.ck_code.specs.declared.instr.Instr.TheVariants.{Int as IntInstr, Op2}
use Rattle.ck_code.specs.declared.code.CodeParts.{CodeParts}
use Rattle.ck_code.specs.declared.code.Fun.{Fun}
use Rattle.ck_code.specs.declared.code.Step.{Step}
use Rattle.ck_code.specs.Verified.{Places, Typing, AreAt, Finds, UpdatesWith, Fits}
use Rattle.ck_code.proofs.Standing.{unless, found_is, where_found, all_stand_refl, has_finds, finds_less}
use Rattle.ck_scheme.specs.Texts.{texts_of}
use Rattle.ck_scheme.specs.Scheme.{at, read_code, set_code, update_code, spot_end}
use Rattle.code_laws.proofs.Facts.{Updated, kinds_on, StandsAt}
use Rattle.code_laws.proofs.Typings.{spot_rest}
use Rattle.code_laws.proofs.Placed as laid

module _ (program : Program) (fine : IsWellFormed program) (locals : List Kind)
    (places : Places) where
  abbrev classes : List Class
  classes = program.classes

  abbrev Placed : ℕ → List (List Kind) → Type 0
  Placed p shapes = laid.Placed program fine locals places p shapes

  abbrev pub Reached : ℕ → List Kind → Type 0
  Reached p ks = Finds classes places p ks

  pub reached : (p : ℕ) (ks : List Kind) → AreAt places p ks → Reached p ks
  reached p ks h = has_finds classes places p ks h

  -- a value may stand on top in place of another
  pub on_less : (p : ℕ) (j k : Kind) (under : List Kind) → Stands classes j k
      → Reached p (k ∷ under) → Reached p (j ∷ under)
  on_less p j k under is h =
      finds_less classes places p (j ∷ under) (k ∷ under) (is, all_stand_refl classes under) h

  module _ (funs : List Fun) (typing : Typing) (fn : Fun) (f : ℕ) (at_locals : fn.locals ≡ locals)
    where
      abbrev pub parts : CodeParts
      parts = record {
        funs = funs;
        texts = texts_of program;
        classes = program.classes;
        statics = program.statics;
        mains = program.mains;
      }

      -- each instruction finds its operands
      abbrev pub Fine : ℕ → List Step → Type 0
      Fine p [] = Unit {0}
      Fine p (i ∷ is) =
          ((ops : List Kind) × AreAt places p ops × Fits parts typing fn f places p i.instr ops)
          × Fine (p + 1) is

      pub fine_join : (a b : List Step) (p q : ℕ) → p + length a ≡ q → Fine p a → Fine q b → Fine p
          (a ++ b)
      fine_join [] b p q e h g = let e1 : q ≡ p = omega arith in subst (λ n. Fine n b) e1 g
      fine_join (i ∷ a) b p q e h g =
          let e1 : p + 1 + length a ≡ q = omega arith in (h.0, fine_join a b (p + 1) q e1 h.1 g)

      -- what reads a spot, after its address
      pub read_fine : (spot : Spot) (place : Place) (js : List Kind) (k : Kind) (under : List Kind)
          (p : ℕ) → StandsAt program locals spot js k
          → Placed p (kinds_on js under ∷ spot_rest spot under)
          → Reached (spot_end p spot) (k ∷ under) → Fine p (read_code spot place)
      read_fine (Local i) place [] k under p is placed end = (
        (
          under,
          placed.0,
          where_found (slice_get fn.locals i) _ k (ap (λ l. slice_get l i) at_locals ∙ is) end,
        ),
        tt,
      )
      read_fine (Static i) place [] k under p is placed end =
          ((under, placed.0, where_found (slice_get program.statics i) _ k is end), tt)
      read_fine (StaticOf i) place (j ∷ []) k under p is placed end = (
        (j ∷ under, placed.0, reached (p + 1) under placed.1.0),
        ((under, placed.1.0, where_found (slice_get program.statics i) _ k is end), tt),
      )
      read_fine (Field i) place (j ∷ []) k under p is placed end =
          let class = found_is (slice_get program.classes is.0) _ is.2 in (
            (
              j ∷ under,
              placed.0,
              unless j _ (
                is.0,
                is.1,
                where_found (slice_get program.classes is.0) _ class.0 class.1
                    (where_found (slice_get class.0.fields i) (λ k.
                    Reached (p + 1) (k ∷ under)) k class.2 end),
              ),
            ),
            tt,
          )
      read_fine Item place (j ∷ i ∷ []) k under p is placed end =
          ((i ∷ j ∷ under, placed.0, (is.3, unless j _ (is.0, k, is.2, is.1, end))), tt)
      read_fine _ place js k under p is placed end = absurd is

      -- what sets it to the value beneath its address
      pub set_fine : (spot : Spot) (place : Place) (js : List Kind) (j k : Kind) (under : List Kind)
          (p : ℕ) → StandsAt program locals spot js k → Stands classes j k
          → Placed p (kinds_on js (j ∷ under) ∷ spot_rest spot (j ∷ under))
          → Reached (spot_end p spot) (k ∷ under) → Fine p (set_code spot place)
      set_fine (Local i) place [] j k under p is stands placed end = (
        (
          j ∷ under,
          placed.0,
          where_found (slice_get fn.locals i) _ k (ap (λ l. slice_get l i) at_locals ∙ is) (
            stands,
            on_less (p + 1) j k under stands end,
          ),
        ),
        tt,
      )
      set_fine (Static i) place [] j k under p is stands placed end = (
        (
          j ∷ under,
          placed.0,
          where_found (slice_get program.statics i) _ k is (
            stands,
            on_less (p + 1) j k under stands end,
          ),
        ),
        tt,
      )
      set_fine (StaticOf i) place (r ∷ []) j k under p is stands placed end = (
        (r ∷ j ∷ under, placed.0, reached (p + 1) (j ∷ under) placed.1.0),
        (
          (
            j ∷ under,
            placed.1.0,
            where_found (slice_get program.statics i) _ k is (
              stands,
              on_less (p + 1 + 1) j k under stands end,
            ),
          ),
          tt,
        ),
      )
      set_fine (Field i) place (r ∷ []) j k under p is stands placed end =
          let class = found_is (slice_get program.classes is.0) _ is.2 in (
            (
              r ∷ j ∷ under,
              placed.0,
              unless r _ (
                is.0,
                is.1,
                where_found (slice_get program.classes is.0) _ class.0 class.1
                    (where_found (slice_get class.0.fields i) (λ k.
                    Stands classes j k × Reached (p + 1) (j ∷ under)) k class.2 (
                      stands,
                      on_less (p + 1) j k under stands end,
                    )),
              ),
            ),
            tt,
          )
      set_fine Item place (r ∷ i ∷ []) j k under p is stands placed end = (
        (
          i ∷ r ∷ j ∷ under,
          placed.0,
          (is.3, unless r _ (is.0, k, is.2, is.1, (stands, on_less (p + 1) j k under stands end))),
        ),
        tt,
      )
      set_fine _ place js j k under p is stands placed end = absurd is

      -- what updates it by the value beneath its address
      pub update_fine : (spot : Spot) (o : Operator) (place : Place) (js : List Kind) (k : Kind)
          (has : Kind → Type 0) (u : Updated program o has k) (under : List Kind) (p : ℕ)
          → StandsAt program locals spot js k
          → Placed p (kinds_on js (u.value ∷ under) ∷ spot_rest spot (u.value ∷ under))
          → Reached (spot_end p spot) (k ∷ under) → Fine p (update_code spot o place)
      update_fine (Local i) o place [] k has u under p is placed end = (
        (
          u.value ∷ under,
          placed.0,
          where_found (slice_get fn.locals i) _ k (ap (λ l. slice_get l i) at_locals ∙ is)
              (u.with_value under (λ result beneath. Reached (p + 1) (One result ∷ beneath))
              (on_less (p + 1) (One u.result) k under u.stands end)),
        ),
        tt,
      )
      update_fine (Static i) o place [] k has u under p is placed end = (
        (
          u.value ∷ under,
          placed.0,
          where_found (slice_get program.statics i) _ k is
              (u.with_value under (λ result beneath. Reached (p + 1) (One result ∷ beneath))
              (on_less (p + 1) (One u.result) k under u.stands end)),
        ),
        tt,
      )
      update_fine (StaticOf i) o place (r ∷ []) k has u under p is placed end = (
        (r ∷ u.value ∷ under, placed.0, reached (p + 1) (u.value ∷ under) placed.1.0),
        (
          (
            u.value ∷ under,
            placed.1.0,
            where_found (slice_get program.statics i) _ k is
                (u.with_value under (λ result beneath. Reached (p + 1 + 1) (One result ∷ beneath))
                (on_less (p + 1 + 1) (One u.result) k under u.stands end)),
          ),
          tt,
        ),
      )
      update_fine (Field i) o place (r ∷ []) k has u under p is placed end =
          let class = found_is (slice_get program.classes is.0) _ is.2 in (
            (
              r ∷ u.value ∷ under,
              placed.0,
              unless r _ (
                is.0,
                is.1,
                where_found (slice_get program.classes is.0) _ class.0 class.1
                    (where_found (slice_get class.0.fields i) (λ k.
                    UpdatesWith classes o k (u.value ∷ under) (λ result beneath.
                    Reached (p + 1) (One result ∷ beneath))) k class.2
                    (u.with_value under (λ result beneath. Reached (p + 1) (One result ∷ beneath))
                    (on_less (p + 1) (One u.result) k under u.stands end))),
              ),
            ),
            tt,
          )
      update_fine Item o place (r ∷ i ∷ []) k has u under p is placed end = (
        (
          i ∷ r ∷ u.value ∷ under,
          placed.0,
          (
            is.3,
            unless r _ (
              is.0,
              k,
              is.2,
              is.1,
              u.with_value under (λ result beneath. Reached (p + 1) (One result ∷ beneath))
                  (on_less (p + 1) (One u.result) k under u.stands end),
            ),
          ),
        ),
        tt,
      )
      update_fine _ o place js k has u under p is placed end = absurd is

      -- the value before it was raised or lowered
      pub undone_fine : (direction : Direction) (place : Place) (under : List Kind) (p : ℕ)
          → AreAt places p (One IntElem ∷ under)
          → AreAt places (p + 1) (One IntElem ∷ One IntElem ∷ under)
          → Reached (p + 1 + 1) (One IntElem ∷ under)
          → Fine p (at (IntInstr (pos 1)) place ∷ at (Op2 (undone_by direction)) place ∷ [])
      undone_fine Up place under p at_one at_two end = (
        (One IntElem ∷ under, at_one, reached (p + 1) (One IntElem ∷ One IntElem ∷ under) at_two),
        ((One IntElem ∷ One IntElem ∷ under, at_two, (refl, (refl, end))), tt),
      )
      undone_fine Down place under p at_one at_two end = (
        (One IntElem ∷ under, at_one, reached (p + 1) (One IntElem ∷ One IntElem ∷ under) at_two),
        ((One IntElem ∷ One IntElem ∷ under, at_two, (refl, (refl, end))), tt),
      )
