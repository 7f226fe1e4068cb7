-- The scheme's code of an operation, after those of its operands, has a typing.
use Rattle.std.proofs.Common.{◌≡◌, ℕ, ◌+◌, List, [], ◌∷◌, ◌++◌, length, map, reverse, Some, sym, subst}
use Rattle.std.specs.Prelude.{slice_get}
use Rattle.ck_values.specs.declared.kind.Elem.{Elem}
use Rattle.ck_values.specs.declared.kind.Elem.TheVariants.{Int as IntElem, Float as FloatElem, Dur as DurElem, Time as TimeElem, Shred as ShredElem, Unit as UnitElem}
use Rattle.ck_values.specs.declared.kind.Kind.{Kind}
use Rattle.ck_values.specs.declared.kind.Kind.TheVariants.{Null as NullKind, One, Row, Grid}
use Rattle.ck_values.specs.declared.trap.Place.{Place}
use Rattle.ugen_names.specs.declared.table.UgenKind.TheVariants.{UGen}
use Rattle.ck_typed.specs.declared.class.Class.{Class}
use Rattle.ck_typed.specs.declared.operation.Leaf.{Leaf as OfNone}
use Rattle.ck_typed.specs.declared.operation.Leaf.TheVariants as op0
use Rattle.ck_typed.specs.declared.operation.Unary.{Unary as OfOne}
use Rattle.ck_typed.specs.declared.operation.Unary.TheVariants as op1
use Rattle.ck_typed.specs.declared.operation.Binary.{Binary as OfTwo}
use Rattle.ck_typed.specs.declared.operation.Binary.TheVariants as op2
use Rattle.ck_typed.specs.declared.operation.Variadic.{Variadic as OfMany}
use Rattle.ck_typed.specs.declared.operation.Variadic.TheVariants as opn
use Rattle.ck_typed.specs.Signatures.{unary, built_in}
use Rattle.ck_typed.specs.Tree.{Exprs, Fun as TypedFun, Program}
use Rattle.ck_typed.specs.WellFormed.{params_of, HaveKinds, AllGive, IsAt, LeafGives, UnaryGives, BinaryGives, VariadicGives, IsWellFormed}
use Rattle.ck_code.specs.declared.code.Fun.{Fun}
use Rattle.ck_code.specs.declared.code.Step.{Step}
use Rattle.ck_code.specs.Verified.{Places, Typing, AreAt, OnTop, UnlessOnNull}
use Rattle.ck_code.proofs.Standing.{unless, found_is}
use Rattle.ck_scheme.specs.Scheme.{count_of}
use Rattle.ck_scheme.specs.Tails.{leaf_code, leaf_end, unary_code, unary_end, binary_code, binary_end, variadic_code, variadic_end}
use Rattle.code_laws.proofs.Facts.{joins_is, set_value, kinds_on, operands_of, all_give, address_of, method_is}
use Rattle.code_laws.proofs.Parts.{operand_of, two_of, many_of}
use Rattle.code_laws.proofs.Typings.{leaf_rest, unary_rest, binary_rest, variadic_rest}
use Rattle.code_laws.proofs.Operands.{pushed_top, called_on, all_on_top, calls_so, count_is}
use Rattle.code_laws.proofs.Placed as laid
use Rattle.code_laws.proofs.SpotFits as spots
use Rattle.code_laws.proofs.CallFits as calling
use Rattle.code_laws.proofs.UnitFits as units

module _ (program : Program) (fine : IsWellFormed program) (locals : List Kind)
    (places : Places) (funs : List Fun) (typing : Typing) (fn : Fun) (f : ℕ)
    (at_locals : fn.locals ≡ locals)
    (calls : (g : ℕ) (callee : TypedFun) → slice_get program.funs g ≡ Some callee
    → (c : Fun) × (slice_get funs g ≡ Some c) × (c.params ≡ callee.params) × (c.locals ≡ callee.locals)
    × (slice_get typing.results g ≡ Some callee.result)) where
  abbrev classes : List Class
  classes = program.classes

  abbrev Placed : ℕ → List (List Kind) → Type 0
  Placed p shapes = laid.Placed program fine locals places p shapes

  abbrev Reached : ℕ → List Kind → Type 0
  Reached p ks = spots.Reached program fine locals places p ks

  reached : (p : ℕ) (ks : List Kind) → AreAt places p ks → Reached p ks
  reached = spots.reached program fine locals places

  same_on : (p : ℕ) (j k : Kind) (under : List Kind) → j ≡ k → Reached p (j ∷ under)
      → Reached p (k ∷ under)
  same_on p j k under is h = subst (λ x. Reached p (x ∷ under)) is h

  abbrev Fine : ℕ → List Step → Type 0
  Fine p steps = spots.Fine program fine locals places funs typing fn f at_locals p steps

  -- what has no operand
  pub leaf_fine : (o : OfNone) (place : Place) (k : Kind) → LeafGives o k → (under : List Kind)
      (p : ℕ) → Placed p (under ∷ leaf_rest o under) → Reached (leaf_end p o) (k ∷ under)
      → Fine p (leaf_code o place)
  leaf_fine (op0.Int n) place k h under p placed end =
      ((under, placed.0, same_on (p + 1) k (One IntElem) under h end), tt)
  leaf_fine (op0.Float x) place k h under p placed end =
      ((under, placed.0, same_on (p + 1) k (One FloatElem) under h end), tt)
  leaf_fine (op0.Dur samples) place k h under p placed end =
      ((under, placed.0, same_on (p + 1) k (One DurElem) under h end), tt)
  leaf_fine (op0.Time samples) place k h under p placed end =
      ((under, placed.0, same_on (p + 1) k (One TimeElem) under h end), tt)
  leaf_fine op0.Null place k h under p placed end =
      ((under, placed.0, same_on (p + 1) k NullKind under h end), tt)
  leaf_fine op0.NoShred place k h under p placed end =
      ((under, placed.0, same_on (p + 1) k (One ShredElem) under h end), tt)
  leaf_fine op0.Now place k h under p placed end =
      ((under, placed.0, same_on (p + 1) k (One TimeElem) under h end), tt)
  leaf_fine op0.Me place k h under p placed end =
      ((under, placed.0, same_on (p + 1) k (One ShredElem) under h end), tt)
  leaf_fine op0.Dac place k h under p placed end =
      ((under, placed.0, same_on (p + 1) k (One (UnitElem UGen)) under h end), tt)
  leaf_fine op0.Blackhole place k h under p placed end =
      ((under, placed.0, same_on (p + 1) k (One (UnitElem UGen)) under h end), tt)
  leaf_fine (op0.NewUgen kind) place k h under p placed end =
      ((under, placed.0, (h.0, same_on (p + 1) k (One (UnitElem kind)) under h.1 end)), tt)
  leaf_fine op0.Yield place k h under p placed end = (
    (under, placed.0, reached (p + 1) under placed.1.0),
    ((under, placed.1.0, same_on (p + 1 + 1) k (One IntElem) under h end), tt),
  )
  leaf_fine op0.Exit place k h under p placed end = (
    (under, placed.0, tt),
    ((under, placed.1.0, same_on (p + 1 + 1) k (One IntElem) under h end), tt),
  )

  -- an operation on one operand
  pub unary_fine : (o : OfOne) (place : Place) (a : Kind → Type 0) (k : Kind)
      (h : UnaryGives program o a k) (under : List Kind) (q : ℕ)
      → Placed q (((operand_of program o a k h).kind ∷ under) ∷ unary_rest o under)
      → Reached (unary_end q o) (k ∷ under) → Fine q (unary_code o place)
  unary_fine (op1.Operator o) place a k h under q placed end = (
    (
      h.0.0 ∷ under,
      placed.0,
      (h.0.2, same_on (q + 1) k (One (unary o).result) under h.1 end),
    ),
    tt,
  )
  unary_fine (op1.UnitInt n d) place a k h under q placed end = (
    (h.0.0 ∷ under, placed.0, (h.1, (h.0.2, same_on (q + 1) k (One DurElem) under h.2 end))),
    tt,
  )
  unary_fine (op1.UnitFloat n d) place a k h under q placed end = (
    (h.0.0 ∷ under, placed.0, (h.1, (h.0.2, same_on (q + 1) k (One DurElem) under h.2 end))),
    tt,
  )
  unary_fine (op1.NewRow e) place a k h under q placed end =
      ((h.1.0 ∷ under, placed.0, (h.0, (h.1.2, same_on (q + 1) k (Row e) under h.2 end))), tt)
  unary_fine (op1.Param param) place a k h under q placed end =
      units.param_fine program fine locals places funs typing fn f at_locals param place a k h
      under q placed.0 end
  unary_fine op1.WaitDur place a k h under q placed end = (
    (h.0.0 ∷ under, placed.0, (h.0.2, reached (q + 1) under placed.1.0)),
    ((under, placed.1.0, same_on (q + 1 + 1) k (One TimeElem) under h.1 end), tt),
  )
  unary_fine op1.WaitTime place a k h under q placed end = (
    (h.0.0 ∷ under, placed.0, (h.0.2, reached (q + 1) under placed.1.0)),
    ((under, placed.1.0, same_on (q + 1 + 1) k (One TimeElem) under h.1 end), tt),
  )
  unary_fine op1.WaitEvent place a k h under q placed end = (
    (h.0.0 ∷ under, placed.0, unless h.0.0 _ (h.0.2, reached (q + 1) under placed.1.0)),
    ((under, placed.1.0, same_on (q + 1 + 1) k (One TimeElem) under h.1 end), tt),
  )

  -- on two
  pub binary_fine : (o : OfTwo) (place : Place) (a b : Kind → Type 0) (k : Kind)
      (h : BinaryGives program o a b k) (under : List Kind) (q : ℕ)
      → let x = two_of program o a b k h in
      Placed q ((x.right ∷ x.left ∷ under) ∷ binary_rest o x.left x.right under)
      → Reached (binary_end q o) (k ∷ under) → Fine q (binary_code o place)
  binary_fine (op2.Operator o) place a b k h under q placed end =
      let s = joins_is program o a b k h in (
        (
          s.right ∷ s.left ∷ under,
          placed.0,
          s.on_two under (λ result beneath. Reached (q + 1) (One result ∷ beneath))
              (same_on (q + 1) k (One s.result) under s.is end),
        ),
        tt,
      )
  binary_fine (op2.NewGrid e) place a b k h under q placed end = (
    (
      h.2.0 ∷ h.1.0 ∷ under,
      placed.0,
      (h.0, (h.2.2, (h.1.2, same_on (q + 1) k (Grid e) under h.3 end))),
    ),
    tt,
  )
  binary_fine op2.Append place a b k h under q placed end = (
    (
      h.2.0 ∷ h.1.0 ∷ under,
      placed.0,
      unless h.1.0 _ (h.0, h.1.2, (h.2.2, same_on (q + 1) k (Row h.0) under h.3 end)),
    ),
    tt,
  )
  binary_fine (op2.ChuckMethod slot) place a b k h under q placed end =
      calling.chuck_virtual_fine program fine locals places funs typing fn f at_locals calls
      h.0 slot place h.1 k h.2.0 h.3.0 under q h.4 h.2.2 h.3.2 placed.0 placed.1.0 end
  binary_fine (op2.ChuckCallOf g) place a b k h under q placed end =
      let i = h.1.0 in
      let j = h.2.0 in
      let callee = found_is (slice_get program.funs g) _ h.3 in
      let has = calls g callee.0 callee.1 in
      let Takes : List Kind → Type 0 = λ ks. OnTop classes (reverse ks) (i ∷ under)
      (λ beneath. Reached (q + 1 + 1) (callee.0.result ∷ beneath)) in
      let top : Takes (params_of callee.0) =
      subst Takes (sym callee.2.0)
      (h.1.2, same_on (q + 1 + 1) k callee.0.result under callee.2.1 end) in (
        (j ∷ i ∷ under, placed.0, reached (q + 1) (i ∷ under) placed.1.0),
        (
          (
            i ∷ under,
            placed.1.0,
            calls_so classes funs typing g callee.0 has.0 (i ∷ under) (λ r beneath.
                Reached (q + 1 + 1) (r ∷ beneath)) has.1 has.2 has.3 has.4 top,
          ),
          tt,
        ),
      )
  binary_fine (op2.ChuckNative call) place a b k h under q placed end =
      let i = h.3.0 in
      let j = h.4.0 in
      let gives : Kind = One (built_in call).gives in
      let Takes : List Elem → Type 0 = λ es.
      OnTop classes (reverse ((h.0 ∷ []) ++ map One es)) (i ∷ j ∷ under) (λ beneath.
      UnlessOnNull (h.0 ∷ []) (length es) (i ∷ j ∷ under)
      (Reached (q + 1 + 1) (gives ∷ beneath))) in
      let top : Takes (built_in call).params =
      subst Takes (sym h.5)
      (h.3.2, (h.4.2, unless j _ (same_on (q + 1 + 1) k gives under h.6 end))) in (
        (j ∷ i ∷ under, placed.0, reached (q + 1) (i ∷ j ∷ under) placed.1.0),
        ((i ∷ j ∷ under, placed.1.0, (h.0 ∷ [], h.2, top)), tt),
      )
  binary_fine (op2.SetParam param) place a b k h under q placed end =
      let v = set_value program param a b k h in
      units.set_param_fine program fine locals places funs typing fn f at_locals param place h.0
      b k v h.1.0 under q h.1.2 placed.0 end
  binary_fine (op2.ChuckParam param) place a b k h under q placed end =
      let v = set_value program param b a k h in (
        (
          h.1.0 ∷ v.kind ∷ under,
          placed.0,
          reached (q + 1) (v.kind ∷ h.1.0 ∷ under) placed.1.0,
        ),
        units.set_param_fine program fine locals places funs typing fn f at_locals param place h.0
            a k v h.1.0 under (q + 1) h.1.2 placed.1.0 end,
      )
  binary_fine op2.Connect place a b k h under q placed end = (
    (
      k ∷ h.0.1.0 ∷ under,
      placed.0,
      units.on_units program fine locals places funs typing fn f at_locals h.0.0 h.1.0
          h.0.1.0 k under (q + 1) h.0.1.2 h.1.1 end,
    ),
    tt,
  )
  binary_fine op2.Disconnect place a b k h under q placed end = (
    (
      k ∷ h.0.1.0 ∷ under,
      placed.0,
      units.on_units program fine locals places funs typing fn f at_locals h.0.0 h.1.0
          h.0.1.0 k under (q + 1) h.0.1.2 h.1.1 end,
    ),
    tt,
  )

  -- on any number
  pub variadic_fine : (o : OfMany) (place : Place) (args : Exprs) (k : Kind)
      (h : VariadicGives program o (HaveKinds program locals args) (AllGive program locals args)
      (λ at. IsAt program locals at args) k) (under : List Kind) (q : ℕ)
      → Placed q (kinds_on (many_of program locals o args k h).kinds under ∷ variadic_rest o under)
      → Reached (variadic_end q o) (k ∷ under) → Fine q (variadic_code o (count_of args) place)
  variadic_fine (opn.Read spot) place args k h under q placed end =
      let a = address_of program locals spot args k h in
      spots.read_fine program fine locals places funs typing fn f at_locals spot place a.kinds k
      under q a.at placed end
  variadic_fine (opn.Array e) place args k h under q placed end =
      let o = operands_of program locals args _ (all_give program locals args (One e) h.1) in (
        (
          kinds_on o.kinds under,
          placed.0,
          (
            h.0,
            all_on_top classes o.kinds (count_of args) (One e) under
                (λ beneath. Reached (q + 1) (Row e ∷ beneath)) o.stand
                (same_on (q + 1) k (Row e) under h.2 end),
          ),
        ),
        tt,
      )
  variadic_fine (opn.ArrayOfRows e) place args k h under q placed end =
      let o = operands_of program locals args _ (all_give program locals args (Row e) h.1) in (
        (
          kinds_on o.kinds under,
          placed.0,
          (
            h.0,
            all_on_top classes o.kinds (count_of args) (Row e) under
                (λ beneath. Reached (q + 1) (Grid e ∷ beneath)) o.stand
                (same_on (q + 1) k (Grid e) under h.2 end),
          ),
        ),
        tt,
      )
  variadic_fine (opn.Call g) place args k h under q placed end =
      let callee = found_is (slice_get program.funs g) _ h in
      let o = operands_of program locals args (params_of callee.0) callee.2.0 in
      calling.call_fine program fine locals places funs typing fn f at_locals calls g place
      callee.0 o.kinds under q callee.1 o.stand placed.0
      (same_on (q + 1) k callee.0.result under callee.2.1 end)
  variadic_fine (opn.Method slot) place args k h under q placed end =
      let m = method_is program h.0 slot _ h.1 in
      let o = operands_of program locals args _ m.holds.0 in
      let count = count_is program locals args o.kinds _ o.have o.stand in
      calling.virtual_fine program fine locals places funs typing fn f at_locals calls h.0 slot
      (count_of args) _ m place o.kinds under q count o.stand placed.0
      (same_on (q + 1) k m.fn.result under m.holds.1 end)
  variadic_fine (opn.Native call) place args k h under q placed end =
      let o = operands_of program locals args _ h.2 in
      let gives : Kind = One (built_in call).gives in (
        (
          kinds_on o.kinds under,
          placed.0,
          (
            h.0,
            h.1,
            pushed_top classes o.kinds (h.0 ++ map One (built_in call).params) under _ o.stand
                (called_on classes call h.0 o.kinds under (Reached (q + 1) (gives ∷ under)) h.1
                o.stand (same_on (q + 1) k gives under h.3 end)),
          ),
        ),
        tt,
      )
  variadic_fine (opn.Spork g) place args k h under q placed end =
      let callee = found_is (slice_get program.funs g) _ h.0 in
      let o = operands_of program locals args (params_of callee.0) callee.2 in
      calling.spork_fine program fine locals places funs typing fn f at_locals calls g place
      callee.0 o.kinds under q callee.1 o.stand placed.0
      (same_on (q + 1) k (One ShredElem) under h.1 end)
  variadic_fine (opn.SporkMethod slot) place args k h under q placed end =
      let m = method_is program h.0 slot _ h.1 in
      let o = operands_of program locals args _ m.holds.0 in
      let count = count_is program locals args o.kinds _ o.have o.stand in
      calling.spork_virtual_fine program fine locals places funs typing fn f at_locals calls h.0
      slot (count_of args) _ m place o.kinds under q count o.stand placed.0
      (same_on (q + 1) k (One ShredElem) under m.holds.1 end)
