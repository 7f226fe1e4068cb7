-- The code of what a new object's classes do with it.
use Rattle.std.proofs.Common.{◌≡◌, ℕ, ◌-◌, ◌<◌, List, [], ◌∷◌, ◌++◌, length, Some, None, refl, sym, ap, ◌∙◌, append-nil, get_or, slice_get}
use Rattle.std.proofs.lemmas.Option.{slice_get-get_or}
use Rattle.ck_values.specs.declared.trap.Place.{Place}
use Rattle.ck_code.specs.declared.code.Step.{Step}
use Rattle.ck_code.specs.declared.instr.Instr.TheVariants.{Call, Drop, Dup}
use Rattle.ck_store.specs.Objects.{own_body, bodies_within}
use Rattle.ck_typed.specs.declared.class.Class.{Class}
use Rattle.ck_scheme.specs.Scheme.{at, bodies_code}
use Rattle.emit_code.proofs.NewObjects.{bodies-more}
use Rattle.emit_code.proofs.Emits.{one_after}

pub bodies-after : (xs ys : List ℕ) (place : Place)
    → bodies_code (xs ++ ys) place ≡ bodies_code xs place ++ bodies_code ys place
bodies-after [] ys place = refl
bodies-after (x ∷ xs) ys place =
    ap (λ steps. at Dup place ∷ at (Call x) place ∷ at Drop place ∷ steps)
    (bodies-after xs ys place)

-- no class is done where none is left to look at
pub bodies-stop : (classes : List Class) (n c : ℕ) (place : Place) (code : List Step)
    → bodies_within classes n c ≡ [] → code ≡ code ++ bodies_code (bodies_within classes n c) place
bodies-stop classes n c place code is =
    sym (append-nil code) ∙ ap (λ bodies. code ++ bodies_code bodies place) (sym is)

module _ (classes : List Class) (n c : ℕ) (class : Class) (place : Place) (some : 0 < n)
    (more : 0 < c) (within : c < length classes) (is : class ≡ get_or classes c class) where
  at_class : slice_get classes c ≡ Some class
  at_class = slice_get-get_or classes c class within ∙ ap Some (sym is)

  abbrev above : List ℕ
  above = bodies_within classes (n - 1) class.parent

  -- a class without statements does nothing after its ancestors
  pub bodies-kept : (c0 c1 : List Step) → class.body ≡ None → c1 ≡ c0 ++ bodies_code above place
      → c1 ≡ c0 ++ bodies_code (bodies_within classes n c) place
  bodies-kept c0 c1 none e =
      let same : above ≡ bodies_within classes n c =
      sym (append-nil above) ∙ ap (λ o. above ++ own_body o) (sym none)
      ∙ sym (bodies-more classes n c class some more at_class) in
      e ∙ ap (λ bodies. c0 ++ bodies_code bodies place) same

  -- and one with statements has them run
  pub bodies-pushed : (f : ℕ) (c0 c1 c2 c3 c4 : List Step) → class.body ≡ Some f
      → c1 ≡ c0 ++ bodies_code above place → c2 ≡ c1 ++ at Dup place ∷ []
      → c3 ≡ c2 ++ at (Call f) place ∷ [] → c4 ≡ c3 ++ at Drop place ∷ []
      → c4 ≡ c0 ++ bodies_code (bodies_within classes n c) place
  bodies-pushed f c0 c1 c2 c3 c4 own e0 e1 e2 e3 =
      let two : List Step = at Dup place ∷ at (Call f) place ∷ [] in
      let three : List Step = at Dup place ∷ at (Call f) place ∷ at Drop place ∷ [] in
      let whole : bodies_code (bodies_within classes n c) place ≡ bodies_code above place ++ three =
      ap (λ bodies. bodies_code bodies place)
      (bodies-more classes n c class some more at_class ∙ ap (λ o. above ++ own_body o) own)
      ∙ bodies-after above (f ∷ []) place in
      let pushed_two : c3 ≡ c1 ++ two =
      one_after c1 c2 c3 (at Dup place ∷ []) (at (Call f) place ∷ []) two e1 e2 refl in
      let pushed_three : c4 ≡ c1 ++ three =
      one_after c1 c3 c4 two (at Drop place ∷ []) three pushed_two e3 refl in
      one_after c0 c1 c4 (bodies_code above place) three
      (bodies_code (bodies_within classes n c) place) e0 pushed_three whole
