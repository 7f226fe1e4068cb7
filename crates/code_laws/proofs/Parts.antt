-- The very kinds of an operation's operands, which a well-formed tree says, and how many it works on:
-- each row of the tables of `WellFormed` read once, for all laws.
use Rattle.std.proofs.Common.{◌≡◌, ℕ, suc, List, [], ◌∷◌, ◌++◌, ◌∙◌, map, length, refl, sym, ap, subst, arith, Some, slice_get}
use Rattle.std.proofs.lemmas.List.{length-take}
use Rattle.ck_values.specs.declared.kind.Kind.{Kind}
use Rattle.ck_values.specs.declared.kind.Kind.TheVariants.{One, Row}
use Rattle.ck_typed.specs.Signatures.{built_in}
use Rattle.ck_typed.specs.declared.expr.Spot.{Spot}
use Rattle.ck_typed.specs.declared.expr.Spot.TheVariants.{Local, Static, StaticOf, Field, Item}
use Rattle.ck_typed.specs.declared.operation.Unary.{Unary as OfOne}
use Rattle.ck_typed.specs.declared.operation.Unary.TheVariants as op1
use Rattle.ck_typed.specs.declared.operation.Binary.{Binary as OfTwo}
use Rattle.ck_typed.specs.declared.operation.Binary.TheVariants as op2
use Rattle.ck_typed.specs.declared.operation.Variadic.{Variadic as OfMany}
use Rattle.ck_typed.specs.declared.operation.Variadic.TheVariants as opn
use Rattle.ck_store.specs.Store.{shape_at}
use Rattle.ck_code.proofs.Values.{native_count}
use Rattle.ck_code.proofs.Standing.{found_is, where_found}
use Rattle.ck_scheme.specs.Scheme.{count_of}
use Rattle.ck_typed.specs.Tree.{Exprs, no_exprs, more_exprs, Program, Fun as TypedFun}
use Rattle.ck_typed.specs.WellFormed.{params_of, IsWellFormed, HaveKinds, AllGive, IsAt, UnaryGives, BinaryGives, VariadicGives}
use Rattle.code_laws.proofs.Facts.{joins_is, set_value, fine_at, AllHave, operands_of, all_give, StandsAt, Address, address_of, method_is}
use Rattle.code_laws.proofs.Shapes.{Takes, HasAddress, OnTwo, OnMany}

module _ (program : Program) where
  pub record Operand (of_it : Kind → Type 0) : Type 0 where
    pub kind : Kind
    pub has : of_it kind

  abbrev pub operand_of : (o : OfOne) (a : Kind → Type 0) (k : Kind) → UnaryGives program o a k → Operand a
  operand_of (op1.Operator o) a k h = record { kind = h.0.0; has = h.0.1 }
  operand_of (op1.UnitInt n d) a k h = record { kind = h.0.0; has = h.0.1 }
  operand_of (op1.UnitFloat n d) a k h = record { kind = h.0.0; has = h.0.1 }
  operand_of (op1.NewRow e) a k h = record { kind = h.1.0; has = h.1.1 }
  operand_of (op1.Param q) a k h = record { kind = h.1.0; has = h.1.1 }
  operand_of op1.WaitDur a k h = record { kind = h.0.0; has = h.0.1 }
  operand_of op1.WaitTime a k h = record { kind = h.0.0; has = h.0.1 }
  operand_of op1.WaitEvent a k h = record { kind = h.0.0; has = h.0.1 }

  pub record TwoOperands (of_left of_right : Kind → Type 0) : Type 0 where
    pub left : Kind
    pub at_left : of_left left
    pub right : Kind
    pub at_right : of_right right

  abbrev pub two_of : (o : OfTwo) (a b : Kind → Type 0) (k : Kind) → BinaryGives program o a b k
      → TwoOperands a b
  two_of (op2.Operator o) a b k h =
      let s = joins_is program o a b k h in
      record { left = s.left; at_left = s.at_left; right = s.right; at_right = s.at_right }
  two_of (op2.NewGrid e) a b k h =
      record { left = h.1.0; at_left = h.1.1; right = h.2.0; at_right = h.2.1 }
  two_of op2.Append a b k h =
      record { left = h.1.0; at_left = h.1.1; right = h.2.0; at_right = h.2.1 }
  two_of (op2.ChuckMethod slot) a b k h =
      record { left = h.2.0; at_left = h.2.1; right = h.3.0; at_right = h.3.1 }
  two_of (op2.ChuckCallOf f) a b k h =
      record { left = h.1.0; at_left = h.1.1; right = h.2.0; at_right = h.2.1 }
  two_of (op2.ChuckNative n) a b k h =
      record { left = h.3.0; at_left = h.3.1; right = h.4.0; at_right = h.4.1 }
  two_of (op2.SetParam q) a b k h =
      let v = set_value program q a b k h in
      record { left = h.1.0; at_left = h.1.1; right = v.kind; at_right = v.has }
  two_of (op2.ChuckParam q) a b k h =
      let v = set_value program q b a k h in
      record { left = v.kind; at_left = v.has; right = h.1.0; at_right = h.1.1 }
  two_of op2.Connect a b k h =
      record { left = h.0.1.0; at_left = h.0.1.1; right = k; at_right = h.2 }
  two_of op2.Disconnect a b k h =
      record { left = h.0.1.0; at_left = h.0.1.1; right = k; at_right = h.2 }

  module _ (locals : List Kind) where
    pub record ManyOperands (args : Exprs) : Type 0 where
      pub kinds : List Kind
      pub have : AllHave program locals args kinds

    abbrev of_kinds : (args : Exprs) (ks : List Kind) → HaveKinds program locals args ks
        → ManyOperands args
    of_kinds args ks h =
        let o = operands_of program locals args ks h in
        record { kinds = o.kinds; have = o.have }

    abbrev pub many_of : (o : OfMany) (args : Exprs) (k : Kind)
        → VariadicGives program o (HaveKinds program locals args) (AllGive program locals args)
        (λ at. IsAt program locals at args) k → ManyOperands args
    many_of (opn.Read spot) args k h =
        let a = address_of program locals spot args k h in
        record { kinds = a.kinds; have = a.have }
    many_of (opn.Array e) args k h = of_kinds args _ (all_give program locals args (One e) h.1)
    many_of (opn.ArrayOfRows e) args k h =
        of_kinds args _ (all_give program locals args (Row e) h.1)
    many_of (opn.Call f) args k h =
        of_kinds args _ (found_is (slice_get program.funs f) _ h).2.0
    many_of (opn.Method slot) args k h =
        of_kinds args _ (method_is program h.0 slot _ h.1).holds.0
    many_of (opn.Native n) args k h = of_kinds args _ h.2
    many_of (opn.Spork f) args k h =
        of_kinds args _ (found_is (slice_get program.funs f) _ h.0).2
    many_of (opn.SporkMethod slot) args k h =
        of_kinds args _ (method_is program h.0 slot _ h.1).holds.0

-- an operation works on the operands that it wants
module _ (program : Program) (fine : IsWellFormed program) (locals : List Kind) where
  counts : (args : Exprs) (js : List Kind) → AllHave program locals args js
      → count_of args ≡ length js
  counts no_exprs [] h = refl
  counts no_exprs (j ∷ js) h = absurd h
  counts (more_exprs e rest) [] h = absurd h
  counts (more_exprs e rest) (j ∷ js) h = ap suc (counts rest js h.1)

  pub wanted : (args : Exprs) (ks : List Kind) → HaveKinds program locals args ks
      → count_of args ≡ length ks
  wanted no_exprs [] h = refl
  wanted no_exprs (k ∷ ks) h = absurd h
  wanted (more_exprs e rest) [] h = absurd h
  wanted (more_exprs e rest) (k ∷ ks) h = ap suc (wanted rest ks h.1)

  address_counts : (spot : Spot) (js : List Kind) (k : Kind) → StandsAt program locals spot js k
      → HasAddress spot (length js)
  address_counts (Local i) [] k h = tt
  address_counts (Static i) [] k h = tt
  address_counts (StaticOf i) (j ∷ []) k h = tt
  address_counts (Field i) (j ∷ []) k h = tt
  address_counts Item (j ∷ i ∷ []) k h = tt
  address_counts _ js k h = absurd h

  -- an address is as long as its spot wants
  pub has_address : (spot : Spot) (address : Exprs) (k : Kind) (a : Address program locals spot address k)
      → HasAddress spot (count_of address)
  has_address spot address k a =
      subst (HasAddress spot) (sym (counts address a.kinds a.have))
      (address_counts spot a.kinds k a.at)

  -- a call has the arguments that its function takes
  pub takes_arguments : (f : ℕ) (arguments : Exprs) (fn : TypedFun)
      → slice_get program.funs f ≡ Some fn
      → HaveKinds program locals arguments (params_of fn)
      → Takes (slice_get program.funs f) (count_of arguments)
  takes_arguments f arguments fn at have =
      let ff = fine_at program fine f fn at in
      let count : count_of arguments ≡ fn.params =
      omega (
        arith,
        wanted arguments (params_of fn) have,
        length-take fn.params fn.locals,
        ff.params,
      ) in
      where_found (slice_get program.funs f) (λ fn. count_of arguments ≡ fn.params) fn at count

  -- of two operands
  pub on_two : (o : OfTwo) (a b : Kind → Type 0) (k : Kind) → BinaryGives program o a b k
      → OnTwo program o
  on_two (op2.ChuckCallOf f) a b k h =
      let fn = found_is (slice_get program.funs f) _ h.3 in
      let ff = fine_at program fine f fn.0 fn.1 in
      let one : 1 ≡ fn.0.params =
      omega (arith, length-take fn.0.params fn.0.locals, ap length fn.2.0, ff.params) in
      where_found (slice_get program.funs f) (λ fn. 1 ≡ fn.params) fn.0 fn.1 one
  on_two (op2.ChuckNative call) a b k h =
      sym (native_count program.classes (shape_at [] []) call (h.0 ∷ []) h.2)
      ∙ ap (λ es. length (h.0 ∷ map One es)) h.5
  on_two _ a b k h = tt

  pub on_many : (o : OfMany) (args : Exprs) (k : Kind)
      → VariadicGives program o (HaveKinds program locals args) (AllGive program locals args)
      (λ at. IsAt program locals at args) k → OnMany program o (count_of args)
  on_many (opn.Read spot) args k h =
      has_address spot args k (address_of program locals spot args k h)
  on_many (opn.Call f) args k h =
      let fn = found_is (slice_get program.funs f) _ h in
      takes_arguments f args fn.0 fn.1 fn.2.0
  on_many (opn.Native call) args k h =
      sym (wanted args (h.0 ++ map One (built_in call).params) h.2
      ∙ native_count program.classes (shape_at [] []) call h.0 h.1)
  on_many (opn.Spork f) args k h =
      let fn = found_is (slice_get program.funs f) _ h.0 in
      takes_arguments f args fn.0 fn.1 fn.2
  on_many _ args k h = tt
