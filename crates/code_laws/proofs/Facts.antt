-- What a well-formed program says, part by part: the very kinds of a node's parts, and what they may
-- stand for.
use Rattle.std.proofs.Common.{◌≡◌, false, List, [], ◌∷◌, ◌++◌, reverse, length, All, ℕ, zero, suc, Option, None, Some, refl, sym, ap, ◌∙◌, subst, arith, append_assoc, slice_get, replicate}
use Rattle.std.proofs.lemmas.List.{reverse-append, length-take}
use Rattle.std.proofs.lemmas.List.Elements.{All-get_or}
use Rattle.std.proofs.lemmas.Option.{get_or_from_slice_get, slice_get_within}
use Rattle.ck_values.specs.declared.kind.Elem.{Elem}
use Rattle.ck_values.specs.declared.kind.Elem.TheVariants as elem
use Rattle.ck_values.specs.declared.kind.Kind.{Kind}
use Rattle.ck_values.specs.declared.kind.Kind.TheVariants.{One}
use Rattle.ck_values.specs.declared.operator.Op2.{Op2}
use Rattle.ck_values.specs.declared.operator.Op2.TheVariants.{EqRefRef, NeRefRef}
use Rattle.ugen_names.specs.declared.param.Param.{Param}
use Rattle.ugen_names.specs.declared.table.UgenKind.{UgenKind}
use Rattle.ck_store.specs.Objects.{own_body, with_class, bodies_within, bodies_of}
use Rattle.ck_typed.specs.declared.class.Class.{Class}
use Rattle.ck_meaning.specs.Meaning.{step_of}
use Rattle.ck_typed.specs.declared.expr.Direction.{Direction}
use Rattle.ck_typed.specs.declared.expr.Direction.TheVariants.{Up, Down}
use Rattle.ck_typed.specs.declared.expr.Spot.{Spot}
use Rattle.ck_typed.specs.declared.expr.Spot.TheVariants.{Local, Static, StaticOf, Field, Item}
use Rattle.ck_typed.specs.Tree.{Exprs, no_exprs, more_exprs, Fun as TypedFun, Program}
use Rattle.ck_typed.specs.WellFormed.{FoundWhere, params_of, Supplies, Joins, Updates, Sets, Methods, HasItems, HasKind, HaveKinds, AllGive, IsAt, FunLies, IsFineFun, IsVirtual, IsBody, IsWellFormed}
use Rattle.ck_typed.specs.Standing.{IsBelow, itself, step, Stands}
use Rattle.ck_typed.specs.Signatures.{binary, Parameter, parameter}
use Rattle.ck_code.specs.Verified.{AllStand, OnTop, OnTwo, UpdatesWith}
use Rattle.ck_code.proofs.Standing.{found_is, where_found, below_trans}
use Rattle.ck_scheme.specs.Scheme.{count_of}
use Rattle.code_laws.proofs.Shapes.{TakeObject}

-- the very kinds of an operator's operands, the type of its result, and that an instruction finds
-- such operands on top
pub record Joined (program : Program) (o : Op2) (of_left of_right : Kind → Type 0)
    (k : Kind) : Type 1 where
  pub left : Kind
  pub at_left : of_left left
  pub right : Kind
  pub at_right : of_right right
  pub result : Elem
  pub is : k ≡ One result
  pub on_two : (under : List Kind) (P : Elem → List Kind → Type 0) → P result under
      → OnTwo program.classes o (right ∷ left ∷ under) P

-- from what the operator's signature says
joined_as : (program : Program) (o : Op2) (of_left of_right : Kind → Type 0) (k : Kind)
    → ((ops : List Kind) (P : Elem → List Kind → Type 0) → FoundWhere (binary o) (λ kinds.
    OnTop program.classes (One kinds.right ∷ One kinds.left ∷ []) ops (λ beneath.
    P kinds.result beneath)) → OnTwo program.classes o ops P)
    → FoundWhere (binary o) (λ kinds. Supplies program of_left (One kinds.left)
    × Supplies program of_right (One kinds.right) × (k ≡ One kinds.result))
    → Joined program o of_left of_right k
joined_as program o of_left of_right k on_two h = let s = found_is (binary o) _ h in record {
  left = s.2.0.0;
  at_left = s.2.0.1;
  right = s.2.1.0;
  at_right = s.2.1.1;
  result = s.0.result;
  is = s.2.2;
  on_two = λ under P holds. on_two (s.2.1.0 ∷ s.2.0.0 ∷ under) P
      (where_found (binary o) (λ kinds.
      OnTop program.classes (One kinds.right ∷ One kinds.left ∷ []) (s.2.1.0 ∷ s.2.0.0 ∷ under)
      (λ beneath. P kinds.result beneath)) s.0 s.1 (s.2.1.2, (s.2.0.2, holds)));
}

-- what a well-formed tree says of an operator's operands
pub joins_is : (program : Program) (o : Op2) (of_left of_right : Kind → Type 0) (k : Kind)
    → Joins program o of_left of_right k → Joined program o of_left of_right k
joins_is program EqRefRef of_left of_right k h = record {
  left = h.0.0;
  at_left = h.0.1;
  right = h.1.0;
  at_right = h.1.1;
  result = elem.Int;
  is = h.2;
  on_two = λ under P holds. (h.1.2, (h.0.2, holds));
}
joins_is program NeRefRef of_left of_right k h = record {
  left = h.0.0;
  at_left = h.0.1;
  right = h.1.0;
  at_right = h.1.1;
  result = elem.Int;
  is = h.2;
  on_two = λ under P holds. (h.1.2, (h.0.2, holds));
}
joins_is program o of_left of_right k h =
    joined_as program o of_left of_right k (λ ops P g. g) h

-- the very kind of the value that updates what stands somewhere, the type of what the operator gives,
-- which may stand there, and that an instruction finds such a value on top
pub record Updated (program : Program) (o : Op2) (of_value : Kind → Type 0) (k : Kind) : Type 1
  where
    pub value : Kind
    pub at_value : of_value value
    pub result : Elem
    pub stands : Stands program.classes (One result) k
    pub with_value : (under : List Kind) (P : Elem → List Kind → Type 0) → P result under
        → UpdatesWith program.classes o k (value ∷ under) P

-- what a well-formed tree says of an update
pub updates_is : (program : Program) (o : Op2) (of_value : Kind → Type 0) (k : Kind)
    → Updates program o of_value k → Updated program o of_value k
updates_is program o of_value k h = let s = found_is (binary o) _ h in record {
  value = s.2.1.0;
  at_value = s.2.1.1;
  result = s.0.result;
  stands = s.2.2;
  with_value = λ under P holds.
      where_found (binary o) (λ kinds. Stands program.classes k (One kinds.left)
      × Stands program.classes (One kinds.result) k
      × OnTop program.classes (One kinds.right ∷ []) (s.2.1.0 ∷ under) (λ beneath.
      P kinds.result beneath)) s.0 s.1 (s.2.0, s.2.2, (s.2.1.2, holds));
}

-- an instruction finds an int for a step of `++` or `--`
pub step_finds : (program : Program) (direction : Direction) (k : Kind) → k ≡ One elem.Int
    → (under : List Kind) (P : Elem → List Kind → Type 0) → P elem.Int under
    → UpdatesWith program.classes (step_of direction) k (One elem.Int ∷ under) P
step_finds program Up k is under P holds = (
  subst (λ x. Stands program.classes x (One elem.Int)) (sym is) refl,
  subst (λ x. Stands program.classes (One elem.Int) x) (sym is) refl,
  (refl, holds),
)
step_finds program Down k is under P holds = (
  subst (λ x. Stands program.classes x (One elem.Int)) (sym is) refl,
  subst (λ x. Stands program.classes (One elem.Int) x) (sym is) refl,
  (refl, holds),
)

-- an int updates an int by such a step
abbrev pub steps_int : (program : Program) (direction : Direction) (k : Kind) → k ≡ One elem.Int
    → Updated program (step_of direction) (λ j. j ≡ One elem.Int) k
steps_int program direction k is = record {
  value = One elem.Int;
  at_value = refl;
  result = elem.Int;
  stands = subst (λ x. Stands program.classes (One elem.Int) x) (sym is) refl;
  with_value = step_finds program direction k is;
}

-- the very kind of the value that a parameter of a unit generator is set to, and what the parameter
-- is
pub record SetValue (program : Program) (q : Param) (u : UgenKind) (of_value : Kind → Type 0)
    (k : Kind) : Type 0 where
  pub kind : Kind
  pub has : of_value kind
  pub of_it : Parameter
  pub at : parameter u q ≡ Some of_it
  pub is_set : of_it.is_read_only ≡ false
  pub stands : Stands program.classes kind (One of_it.elem)
  pub is : k ≡ One of_it.elem

-- what a well-formed tree says of it
pub set_value : (program : Program) (q : Param) (of_ugen of_value : Kind → Type 0) (k : Kind)
    (h : Sets program of_ugen of_value q k) → SetValue program q h.0 of_value k
set_value program q of_ugen of_value k h = let s = found_is (parameter h.0 q) _ h.2 in record {
  kind = s.2.1.0;
  has = s.2.1.1;
  of_it = s.0;
  at = s.1;
  is_set = s.2.0;
  stands = s.2.1.2;
  is = s.2.2;
}

-- each function of a well-formed program is well formed
pub fine_at : (program : Program) → IsWellFormed program → (g : ℕ) (fn : TypedFun)
    → slice_get program.funs g ≡ Some fn → IsFineFun program fn
fine_at program fine g fn at_g =
    subst (IsFineFun program) (get_or_from_slice_get program.funs g fn fn at_g)
    (All-get_or (IsFineFun program) program.funs g fn
    (slice_get_within program.funs g fn at_g) fine.funs)

-- and lies in the program's files, of which each has a main
pub lies_at : (program : Program) → IsWellFormed program → (g : ℕ) (fn : TypedFun)
    → slice_get program.funs g ≡ Some fn → FunLies (length program.mains) fn
lies_at program fine g fn at_g =
    subst (λ files. FunLies files fn) fine.files
    (subst (FunLies program.files) (get_or_from_slice_get program.funs g fn fn at_g)
    (All-get_or (FunLies program.files) program.funs g fn
    (slice_get_within program.funs g fn at_g) fine.places))

-- kinds on top of others, the last one on top
abbrev pub kinds_on : (kinds under : List Kind) → List Kind
kinds_on [] under = under
kinds_on (k ∷ kinds) under = kinds_on kinds (k ∷ under)

pub kinds_on_is : (kinds under : List Kind) → kinds_on kinds under ≡ reverse kinds ++ under
kinds_on_is [] under = refl
kinds_on_is (k ∷ kinds) under =
    kinds_on_is kinds (k ∷ under) ∙ sym (append_assoc (reverse kinds) (k ∷ []) under)
    ∙ ap (λ l. l ++ under) (sym (reverse-append (k ∷ []) kinds))

module _ (program : Program) (locals : List Kind) where
  -- the expressions have these very kinds
  abbrev pub AllHave : Exprs → List Kind → Type 0
  AllHave no_exprs [] = Unit {0}
  AllHave no_exprs (j ∷ js) = ⊥
  AllHave (more_exprs e rest) [] = ⊥
  AllHave (more_exprs e rest) (j ∷ js) = HasKind program locals e j × AllHave rest js

  -- the very kinds of operands, which may stand where those are wanted
  pub record Operands (args : Exprs) (wanted : List Kind) : Type 0 where
    pub kinds : List Kind
    pub have : AllHave args kinds
    pub stand : AllStand program.classes kinds wanted

  pub operands_of : (args : Exprs) (ks : List Kind) → HaveKinds program locals args ks
      → Operands args ks
  operands_of no_exprs [] h = record { kinds = []; have = tt; stand = tt }
  operands_of no_exprs (k ∷ ks) h = absurd h
  operands_of (more_exprs e rest) [] h = absurd h
  operands_of (more_exprs e rest) (k ∷ ks) h =
      let more = operands_of rest ks h.1 in
      record { kinds = h.0.0 ∷ more.kinds; have = (h.0.1, more.have); stand = (h.0.2, more.stand) }

  -- operands that all may stand where one kind is wanted
  pub all_give : (args : Exprs) (k : Kind) → AllGive program locals args k
      → HaveKinds program locals args (replicate (count_of args) k)
  all_give no_exprs k h = tt
  all_give (more_exprs e rest) k h = (h.0, all_give rest k h.1)

  -- what stands at a spot, with an address of these kinds
  abbrev pub StandsAt : Spot → (address : List Kind) → Kind → Type 0
  StandsAt (Local i) [] k = slice_get locals i ≡ Some k
  StandsAt (Static i) [] k = slice_get program.statics i ≡ Some k
  StandsAt (StaticOf i) (j ∷ []) k = slice_get program.statics i ≡ Some k
  StandsAt (Field i) (j ∷ []) k =
      (c : ℕ) × Stands program.classes j (One (elem.Class c))
      × FoundWhere (slice_get program.classes c) (λ class. slice_get class.fields i ≡ Some k)
  StandsAt Item (j ∷ i ∷ []) k =
      (a : Kind) × Stands program.classes j a × HasItems a k
      × Stands program.classes i (One elem.Int)
  StandsAt _ address k = ⊥

  -- the very kinds of an address, and what stands there
  pub record Address (spot : Spot) (address : Exprs) (k : Kind) : Type 0 where
    pub kinds : List Kind
    pub have : AllHave address kinds
    pub at : StandsAt spot kinds k

  pub address_of : (spot : Spot) (address : Exprs) (k : Kind)
      → IsAt program locals spot address k → Address spot address k
  address_of (Local i) no_exprs k h = record { kinds = []; have = tt; at = h }
  address_of (Static i) no_exprs k h = record { kinds = []; have = tt; at = h }
  address_of _ no_exprs k h = absurd h
  address_of (StaticOf i) (more_exprs a no_exprs) k h =
      record { kinds = h.0.0 ∷ []; have = (h.0.1, tt); at = h.1 }
  address_of (Field i) (more_exprs a no_exprs) k h =
      record { kinds = h.1.0 ∷ []; have = (h.1.1, tt); at = (h.0, h.1.2, h.2) }
  address_of _ (more_exprs a no_exprs) k h = absurd h
  address_of Item (more_exprs a (more_exprs b no_exprs)) k h = record {
    kinds = h.1.0 ∷ h.3.0 ∷ [];
    have = (h.1.1, (h.3.1, tt));
    at = (h.0, h.1.2, h.2, h.3.2);
  }
  address_of _ (more_exprs a (more_exprs b no_exprs)) k h = absurd h
  address_of _ (more_exprs a (more_exprs b (more_exprs c rest))) k h = absurd h

-- member functions ----------------------------------------------------------------------------------

-- the function in a slot of a class
pub record MethodIs (program : Program) (c slot : ℕ) (P : TypedFun → Type 0) : Type 0 where
  pub class : Class
  pub at : slice_get program.classes c ≡ Some class
  pub g : ℕ
  pub at_slot : slice_get class.virtuals slot ≡ Some g
  pub fn : TypedFun
  pub at_fun : slice_get program.funs g ≡ Some fn
  pub holds : P fn

pub method_is : (program : Program) (c slot : ℕ) (P : TypedFun → Type 0)
    → Methods program c slot P → MethodIs program c slot P
method_is program c slot P h =
    let class = found_is (slice_get program.classes c) _ h in
    let g = found_is (slice_get class.0.virtuals slot) _ class.2 in
    let fn = found_is (slice_get program.funs g.0) _ g.2 in
    record {
      class = class.0;
      at = class.1;
      g = g.0;
      at_slot = g.1;
      fn = fn.0;
      at_fun = fn.1;
      holds = fn.2;
    }

-- each function in a slot is a member function
pub virtual_at : (program : Program) (c : ℕ) (virtuals : List ℕ)
    → All (IsVirtual program c) virtuals → (s g : ℕ) → slice_get virtuals s ≡ Some g
    → IsVirtual program c g
virtual_at program c virtuals all s g at =
    subst (IsVirtual program c) (get_or_from_slice_get virtuals s g g at)
    (All-get_or (IsVirtual program c) virtuals s g (slice_get_within virtuals s g at) all)

-- the statements in the braces of classes -----------------------------------------------------------

-- a function that takes an object of this class, or of one above it, and nothing else
pub record TakesThis (program : Program) (c f : ℕ) : Type 0 where
  pub fn : TypedFun
  pub at : slice_get program.funs f ≡ Some fn
  pub owner : ℕ
  pub params : params_of fn ≡ One (elem.Class owner) ∷ []
  pub below : IsBelow program.classes c owner

abbrev pub AllTakeThis : Program → (class : ℕ) → (bodies : List ℕ) → Type 0
AllTakeThis program c [] = Unit {0}
AllTakeThis program c (f ∷ bodies) = TakesThis program c f × AllTakeThis program c bodies

bodies_join : (program : Program) (c : ℕ) (xs ys : List ℕ) → AllTakeThis program c xs
    → AllTakeThis program c ys → AllTakeThis program c (xs ++ ys)
bodies_join program c [] ys h g = g
bodies_join program c (x ∷ xs) ys h g = (h.0, bodies_join program c xs ys h.1 g)

module _ (program : Program) (fine : IsWellFormed program) (c : ℕ) where
  own_bodies : (d : ℕ) (body : Option ℕ) → IsBelow program.classes c d → IsBody program d body
      → AllTakeThis program c (own_body body)
  own_bodies d None below h = tt
  own_bodies d (Some f) below h =
      let fn = found_is (slice_get program.funs f) _ h in
      (record { fn = fn.0; at = fn.1; owner = d; params = fn.2; below = below }, tt)

  bodies_from : (n d : ℕ) → ((e : ℕ) → IsBelow program.classes c e
      → AllTakeThis program c (bodies_within program.classes n e)) → IsBelow program.classes c d
      → (o : Option Class) → slice_get program.classes d ≡ o
      → AllTakeThis program c (with_class o [] (λ class.
      bodies_within program.classes n class.parent ++ own_body class.body))
  bodies_from n d rest below None e = tt
  bodies_from n d rest below (Some class) e =
      bodies_join program c (bodies_within program.classes n class.parent) (own_body class.body)
      (rest class.parent (below_trans program.classes below (step class e itself)))
      (own_bodies d class.body below (fine.classes d class e).body)

  bodies_fine : (n d : ℕ) → IsBelow program.classes c d
      → AllTakeThis program c (bodies_within program.classes n d)
  bodies_fine zero d below = tt
  bodies_fine (suc n) zero below = tt
  bodies_fine (suc n) (suc d) below =
      bodies_from n (suc d) (bodies_fine n) below (slice_get program.classes (suc d)) refl

  pub bodies_are : AllTakeThis program c (bodies_of program.classes c)
  unfolding bodies_of
  bodies_are = bodies_fine (length program.classes) c itself

  pub takes_object : (bodies : List ℕ) → AllTakeThis program c bodies → TakeObject program bodies
  takes_object [] h = tt
  takes_object (f ∷ bodies) h =
      let b = h.0 in
      let ff = fine_at program fine f b.fn b.at in
      let one : 1 ≡ b.fn.params =
      omega (arith, length-take b.fn.params b.fn.locals, ap length b.params, ff.params) in (
        where_found (slice_get program.funs f) (λ fn. 1 ≡ fn.params) b.fn b.at one,
        takes_object bodies h.1,
      )
