-- The scheme's code of a call or a spork, after its operands, has a typing; and so has the code of
-- what a new object's classes do with it, and of so many new objects in an array.
use Rattle.std.proofs.Common.{◌≡◌, ℕ, ◌+◌, ◌<◌, List, [], ◌∷◌, ◌++◌, length, pos, reverse, take, drop, Some, suc, refl, sym, ap, ◌∙◌, subst}
use Rattle.std.specs.Prelude.{slice_get}
use Rattle.ck_values.specs.declared.kind.Elem.TheVariants.{Int as IntElem, Shred as ShredElem, Class as ClassElem}
use Rattle.ck_values.specs.declared.kind.Kind.{Kind}
use Rattle.ck_values.specs.declared.kind.Kind.TheVariants.{One, Row}
use Rattle.ck_values.specs.declared.trap.Place.{Place}
use Rattle.ck_store.specs.Objects.{bodies_of}
use Rattle.ck_typed.specs.declared.class.Class.{Class}
use Rattle.ck_typed.specs.Standing.{Stands}
use Rattle.ck_typed.specs.Tree.{Fun as TypedFun, Program}
use Rattle.ck_typed.specs.WellFormed.{params_of, Methods, IsWellFormed}
use Rattle.ck_code.specs.declared.instr.Instr.TheVariants.{Int, Row as RowInstr, Each, Turn, New, Fill, Jump, Swap, Call, Virtual, Spork, SporkVirtual}
use Rattle.ck_code.specs.declared.code.Fun.{Fun}
use Rattle.ck_code.specs.declared.code.Step.{Step}
use Rattle.ck_code.specs.Verified.{Places, Typing, AllStand, AreAt, OnTop, HasSlot}
use Rattle.ck_code.specs.Verified as code
use Rattle.ck_code.proofs.Ranges.{finds_within}
use Rattle.ck_code.proofs.Standing.{unless, where_found, stands_refl}
use Rattle.ck_scheme.specs.Scheme.{at, bodies_code, bodies_end}
use Rattle.ck_scheme.proofs.Stands.{bodies_length}
use Rattle.code_laws.proofs.Facts.{kinds_on, MethodIs, method_is, AllTakeThis, bodies_are}
use Rattle.code_laws.proofs.Typings.{bodies_shapes, bodies_shapes_length}
use Rattle.code_laws.proofs.Operands.{pushed_top, sent_on, calls_so, virtual_count, method_so}
use Rattle.code_laws.proofs.Placed as laid
use Rattle.code_laws.proofs.SpotFits as spots

module _ (program : Program) (fine : IsWellFormed program) (locals : List Kind)
    (places : Places) (funs : List Fun) (typing : Typing) (fn : Fun) (f : ℕ)
    (at_locals : fn.locals ≡ locals)
    (calls : (g : ℕ) (callee : TypedFun) → slice_get program.funs g ≡ Some callee
    → (c : Fun) × (slice_get funs g ≡ Some c) × (c.params ≡ callee.params) × (c.locals ≡ callee.locals)
    × (slice_get typing.results g ≡ Some callee.result)) where
  abbrev classes : List Class
  classes = program.classes

  abbrev Placed : ℕ → List (List Kind) → Type 0
  Placed p shapes = laid.Placed program fine locals places p shapes

  abbrev Reached : ℕ → List Kind → Type 0
  Reached p ks = spots.Reached program fine locals places p ks

  reached : (p : ℕ) (ks : List Kind) → AreAt places p ks → Reached p ks
  reached = spots.reached program fine locals places

  abbrev Fine : ℕ → List Step → Type 0
  Fine p steps = spots.Fine program fine locals places funs typing fn f at_locals p steps

  -- a call on operands of these kinds
  pub call_fine : (g : ℕ) (place : Place) (callee : TypedFun) (js under : List Kind) (q : ℕ)
      → slice_get program.funs g ≡ Some callee → AllStand classes js (params_of callee)
      → AreAt places q (kinds_on js under) → Reached (q + 1) (callee.result ∷ under)
      → Fine q (at (Call g) place ∷ [])
  call_fine g place callee js under q at_g stand ops end =
      let has = calls g callee at_g in
      let top : OnTop classes (reverse (params_of callee)) (kinds_on js under) (λ beneath.
      Reached (q + 1) (callee.result ∷ beneath)) =
      pushed_top classes js (params_of callee) under _ stand end in (
        (
          kinds_on js under,
          ops,
          calls_so classes funs typing g callee has.0 (kinds_on js under) (λ r beneath.
              Reached (q + 1) (r ∷ beneath)) has.1 has.2 has.3 has.4 top,
        ),
        tt,
      )

  -- a spork of the same function, which leaves the child
  pub spork_fine : (g : ℕ) (place : Place) (callee : TypedFun) (js under : List Kind) (q : ℕ)
      → slice_get program.funs g ≡ Some callee → AllStand classes js (params_of callee)
      → AreAt places q (kinds_on js under) → Reached (q + 1) (One ShredElem ∷ under)
      → Fine q (at (Spork g) place ∷ [])
  spork_fine g place callee js under q at_g stand ops end =
      let has = calls g callee at_g in
      let Takes : List Kind → Type 0 = λ ks. OnTop classes (reverse ks) (kinds_on js under)
      (λ beneath. Reached (q + 1) (One ShredElem ∷ beneath)) in
      let top : Takes (params_of callee) =
      pushed_top classes js (params_of callee) under _ stand end in (
        (
          kinds_on js under,
          ops,
          where_found (slice_get funs g) (λ c. Takes (code.params_of c)) has.0 has.1
              (subst (λ l. Takes (take has.0.params l)) (sym has.3)
              (subst (λ n. Takes (take n callee.locals)) (sym has.2) top)),
        ),
        tt,
      )

  -- the function in a slot of a class, on operands of these kinds
  slot_so : (c slot n : ℕ) (P : TypedFun → Type 0) (m : MethodIs program c slot P)
      (js under : List Kind) (Q : Kind → List Kind → Type 0)
      → n ≡ length (One (ClassElem c) ∷ drop 1 (params_of m.fn))
      → AllStand classes js (One (ClassElem c) ∷ drop 1 (params_of m.fn)) → Q m.fn.result under
      → HasSlot (spots.parts program fine locals places funs typing fn f at_locals) typing c slot
      (λ callee result. (n ≡ callee.params)
      × OnTop classes (reverse (One (ClassElem c) ∷ drop 1 (code.params_of callee)))
      (kinds_on js under) (Q result))
  slot_so c slot n P m js under Q count stand end =
      let has = calls m.g m.fn m.at_fun in
      let wanted : List Kind = One (ClassElem c) ∷ drop 1 (params_of m.fn) in
      let top : OnTop classes (reverse wanted) (kinds_on js under) (Q m.fn.result) =
      pushed_top classes js wanted under _ stand end in
      let params : n ≡ m.fn.params =
      count ∙ virtual_count program fine m.class c slot m.g m.fn m.at m.at_slot m.at_fun in
      where_found (slice_get program.classes c) _ m.class m.at
      (where_found (slice_get m.class.virtuals slot) _ m.g m.at_slot
      (method_so classes funs typing m.g m.fn has.0 c n (kinds_on js under) Q has.1 has.2 has.3
      has.4 params top))

  -- a call of a member function
  pub virtual_fine : (c slot n : ℕ) (P : TypedFun → Type 0) (m : MethodIs program c slot P)
      (place : Place) (js under : List Kind) (q : ℕ)
      → n ≡ length (One (ClassElem c) ∷ drop 1 (params_of m.fn))
      → AllStand classes js (One (ClassElem c) ∷ drop 1 (params_of m.fn))
      → AreAt places q (kinds_on js under) → Reached (q + 1) (m.fn.result ∷ under)
      → Fine q (at (Virtual slot n) place ∷ [])
  virtual_fine c slot n P m place js under q count stand ops end = (
    (
      kinds_on js under,
      ops,
      sent_on classes (One (ClassElem c)) (drop 1 (params_of m.fn)) js under n _ count stand
          (c, slot_so c slot n P m js under (λ r beneath. Reached (q + 1) (r ∷ beneath)) count stand end),
    ),
    tt,
  )

  -- a call of one, after its argument and the object
  pub chuck_virtual_fine : (c slot : ℕ) (place : Place) (p k i j : Kind) (under : List Kind) (q : ℕ)
      → Methods program c slot (λ fn. (drop 1 (params_of fn) ≡ p ∷ []) × (k ≡ fn.result))
      → Stands classes i p → Stands classes j (One (ClassElem c))
      → AreAt places q (j ∷ i ∷ under) → AreAt places (q + 1) (i ∷ j ∷ under)
      → Reached (q + 1 + 1) (k ∷ under)
      → Fine q (at Swap place ∷ at (Virtual slot 2) place ∷ [])
  chuck_virtual_fine c slot place p k i j under q methods is_argument is_object ops swapped end =
      let m = method_is program c slot _ methods in
      let has = calls m.g m.fn m.at_fun in
      let Takes : List Kind → Type 0 = λ ks. OnTop classes (reverse (One (ClassElem c) ∷ ks))
      (i ∷ j ∷ under) (λ beneath. Reached (q + 1 + 1) (m.fn.result ∷ beneath)) in
      let last = subst (λ x. Reached (q + 1 + 1) (x ∷ under)) m.holds.1 end in
      let top : Takes (drop 1 (params_of m.fn)) =
      subst Takes (sym m.holds.0) (is_argument, (is_object, last)) in
      let count : 2 ≡ m.fn.params =
      ap (λ ks. suc (length ks)) (sym m.holds.0)
      ∙ virtual_count program fine m.class c slot m.g m.fn m.at m.at_slot m.at_fun in (
        (j ∷ i ∷ under, ops, reached (q + 1) (i ∷ j ∷ under) swapped),
        (
          (
            i ∷ j ∷ under,
            swapped,
            (
              1,
              refl,
              unless j _ (
                c,
                where_found (slice_get program.classes c) _ m.class m.at
                    (where_found (slice_get m.class.virtuals slot) _ m.g m.at_slot
                    (method_so classes funs typing m.g m.fn has.0 c 2 (i ∷ j ∷ under)
                    (λ r beneath. Reached (q + 1 + 1) (r ∷ beneath)) has.1 has.2 has.3 has.4 count
                    top)),
              ),
            ),
          ),
          tt,
        ),
      )

  -- a spork of it
  pub spork_virtual_fine : (c slot n : ℕ) (P : TypedFun → Type 0) (m : MethodIs program c slot P)
      (place : Place) (js under : List Kind) (q : ℕ)
      → n ≡ length (One (ClassElem c) ∷ drop 1 (params_of m.fn))
      → AllStand classes js (One (ClassElem c) ∷ drop 1 (params_of m.fn))
      → AreAt places q (kinds_on js under) → Reached (q + 1) (One ShredElem ∷ under)
      → Fine q (at (SporkVirtual slot n) place ∷ [])
  spork_virtual_fine c slot n P m place js under q count stand ops end = (
    (
      kinds_on js under,
      ops,
      sent_on classes (One (ClassElem c)) (drop 1 (params_of m.fn)) js under n _ count stand (
        c,
        slot_so c slot n P m js under (λ r beneath. Reached (q + 1) (One ShredElem ∷ beneath)) count
            stand end,
      ),
    ),
    tt,
  )

  -- the place after an object is made, or after one of its classes has done its part
  pub bodies_first : (c : ℕ) (under : List Kind) (bodies : List ℕ)
      (h : AllTakeThis program c bodies) (p : ℕ) → Placed p (bodies_shapes program fine locals c under bodies h)
      → Reached (bodies_end p bodies) (One (ClassElem c) ∷ under)
      → Reached p (One (ClassElem c) ∷ under)
  bodies_first c under [] h p placed end = end
  bodies_first c under (b ∷ bodies) h p placed end =
      reached p (One (ClassElem c) ∷ under) placed.0

  pub bodies_code_fine : (c : ℕ) (place : Place) (under : List Kind) (bodies : List ℕ)
      (h : AllTakeThis program c bodies) (p : ℕ) → Placed p (bodies_shapes program fine locals c under bodies h)
      → Reached (bodies_end p bodies) (One (ClassElem c) ∷ under)
      → Fine p (bodies_code bodies place)
  bodies_code_fine c place under [] h p placed end = tt
  bodies_code_fine c place under (b ∷ bodies) h p placed end =
      let body = h.0 in
      let callee = calls b body.fn body.at in
      let this : Kind = One (ClassElem c) in
      let takes : OnTop classes (reverse (params_of body.fn)) (this ∷ this ∷ under)
      (λ beneath. Reached (p + 1 + 1) (body.fn.result ∷ beneath)) =
      subst (λ ks. OnTop classes (reverse ks) (this ∷ this ∷ under) (λ beneath.
      Reached (p + 1 + 1) (body.fn.result ∷ beneath))) (sym body.params) (
        body.below,
        reached (p + 1 + 1) (body.fn.result ∷ this ∷ under) placed.1.1.0,
      ) in (
        (this ∷ under, placed.0, reached (p + 1) (this ∷ this ∷ under) placed.1.0),
        (
          (
            this ∷ this ∷ under,
            placed.1.0,
            calls_so classes funs typing b body.fn callee.0 (this ∷ this ∷ under) (λ r beneath.
                Reached (p + 1 + 1) (r ∷ beneath)) callee.1 callee.2 callee.3 callee.4 takes,
          ),
          (
            (
              body.fn.result ∷ this ∷ under,
              placed.1.1.0,
              bodies_first c under bodies h.1 (p + 1 + 1 + 1) placed.1.1.1 end,
            ),
            bodies_code_fine c place under bodies h.1 (p + 1 + 1 + 1) placed.1.1.1 end,
          ),
        ),
      )

  -- so many new objects of a class in an array, after their number
  pub objects_fine : (c : ℕ) (place : Place) (j : Kind) (under : List Kind) (q : ℕ)
      → c < length program.classes → Stands classes j (One IntElem)
      → let array : Kind = Row (ClassElem c) in
      let on : List Kind = One IntElem ∷ array ∷ under in
      let round = q + 1 + 1 in
      let bodies = bodies_of program.classes c in
      let last = bodies_end (round + 1 + 1 + 1) bodies in
      Placed q ((j ∷ under) ∷ (array ∷ under) ∷ on ∷ on ∷ on
      ∷ (bodies_shapes program fine locals c on bodies (bodies_are program fine c)
      ++ ((One (ClassElem c) ∷ on) ∷ on ∷ [])))
      → Reached (last + 1 + 1) (array ∷ under)
      → Fine q (at (RowInstr (ClassElem c)) place ∷ at (Int (pos 0)) place
      ∷ at (Each (last + 1 + 1)) place ∷ at Turn place ∷ at (New c) place
      ∷ (bodies_code bodies place ++ at Fill place ∷ at (Jump round) place ∷ []))
  objects_fine c place j under q within is placed end =
      let round = q + 1 + 1 in
      let inner = round + 1 + 1 + 1 in
      let this : Kind = One (ClassElem c) in
      let array : Kind = Row (ClassElem c) in
      let on : List Kind = One IntElem ∷ array ∷ under in
      let bodies = bodies_of program.classes c in
      let are = bodies_are program fine c in
      let last = bodies_end inner bodies in
      let each = placed.1.1 in
      let turn = each.1 in
      let new = turn.1 in
      let rest = laid.placed_split program fine locals places
      (bodies_shapes program fine locals c on bodies are) _ inner last
      (bodies_shapes_length program fine locals c on bodies are inner) new.1 in
      let made = reached last (this ∷ on) rest.1.0 in (
        (j ∷ under, placed.0, (within, (is, reached (q + 1) (array ∷ under) placed.1.0))),
        (
          (array ∷ under, placed.1.0, reached round on each.0),
          (
            (
              on,
              each.0,
              (
                finds_within classes places (last + 1 + 1) (array ∷ under) end,
                (refl, (ClassElem c, refl, (reached (round + 1) on turn.0, end))),
              ),
            ),
            (
              (on, turn.0, reached (round + 1 + 1) on new.0),
              (
                (on, new.0, (within, bodies_first c on bodies are inner rest.0 made)),
                spots.fine_join program fine locals places funs typing fn f at_locals
                    (bodies_code bodies place) _ inner last (bodies_length bodies place inner)
                    (bodies_code_fine c place on bodies are inner rest.0 made) (
                      (
                        this ∷ on,
                        rest.1.0,
                        (
                          refl,
                          (
                            ClassElem c,
                            refl,
                            (stands_refl classes this, reached (last + 1) on rest.1.1.0),
                          ),
                        ),
                      ),
                      ((on, rest.1.1.0, reached round on each.0), tt),
                    ),
              ),
            ),
          ),
        ),
      )
