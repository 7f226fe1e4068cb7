-- Where the operands at each place of an expression's code stand among those of a function, and the
-- operands at its first place.
use Rattle.std.proofs.Common.{◌≡◌, ℕ, ◌+◌, List, [], ◌∷◌, ◌++◌, length, subst, arith}
use Rattle.ck_values.specs.declared.kind.Elem.TheVariants as elem
use Rattle.ck_values.specs.declared.kind.Kind.{Kind}
use Rattle.ck_typed.specs.declared.class.Class.{Class}
use Rattle.ck_typed.specs.declared.expr.Spot.{Spot}
use Rattle.ck_typed.specs.Tree.{Expr, Exprs, no_exprs, more_exprs, Leaf, Text, Unary, Binary, Variadic, And, Or, Choice, Assign, AssignDeclared, Update, Prefix, Postfix, New as Making, NewObjects, Construct, CallOf, SporkOf, Program}
use Rattle.code_laws.proofs.Parts.{operand_of, two_of, many_of}
use Rattle.ck_typed.specs.WellFormed.{HasKind, IsWellFormed}
use Rattle.ck_code.specs.Verified.{Places, AreAt}
use Rattle.ck_scheme.specs.Scheme.{spot_end, expr_end, args_end}
use Rattle.code_laws.proofs.Facts.{updates_is, kinds_on, AllHave}
use Rattle.code_laws.proofs.Typings.{spot_rest, expr_shapes, args_shapes}
use Rattle.code_laws.proofs.Typings.{spot_length, shapes_length, args_shapes_length}

module _ (program : Program) (fine : IsWellFormed program) (locals : List Kind) where
  abbrev classes : List Class
  classes = program.classes

  module _ (places : Places) where
    abbrev pub Placed : ℕ → List (List Kind) → Type 0
    Placed p [] = Unit {0}
    Placed p (ops ∷ more) = AreAt places p ops × Placed (p + 1) more

    pub placed_split : (a b : List (List Kind)) (p q : ℕ) → p + length a ≡ q → Placed p (a ++ b)
        → (Placed p a) × (Placed q b)
    placed_split [] b p q e h = let e1 : p ≡ q = omega arith in (tt, subst (λ n. Placed n b) e1 h)
    placed_split (i ∷ a) b p q e h =
        let e1 : p + 1 + length a ≡ q = omega arith in
        let rest = placed_split a b (p + 1) q e1 h.1 in
        ((h.0, rest.0), rest.1)

    pub cut : (e : Expr) (k : Kind) (h : HasKind program locals e k) (under : List Kind) (p : ℕ)
        (b : List (List Kind)) → Placed p (expr_shapes program fine locals under e k h ++ b)
        → (Placed p (expr_shapes program fine locals under e k h))
        × (Placed (expr_end classes p e) b)
    cut e k h under p b placed =
        placed_split (expr_shapes program fine locals under e k h) b p (expr_end classes p e)
        (shapes_length program fine locals e k h under p) placed

    pub cut_args : (args : Exprs) (js : List Kind) (h : AllHave program locals args js)
        (under : List Kind) (p : ℕ) (b : List (List Kind))
        → Placed p (args_shapes program fine locals under args js h ++ b)
        → (Placed p (args_shapes program fine locals under args js h))
        × (Placed (args_end classes p args) b)
    cut_args args js h under p b placed =
        placed_split (args_shapes program fine locals under args js h) b p (args_end classes p args)
        (args_shapes_length program fine locals args js h under p) placed

    mutual
      -- a tree's first place has what is beneath it alone
      pub first : (e : Expr) (k : Kind) (h : HasKind program locals e k) (under : List Kind) (p : ℕ)
          → Placed p (expr_shapes program fine locals under e k h) → AreAt places p under
      first (Leaf o place) k h under p placed = placed.0
      first (Text bytes place) k h under p placed = placed.0
      first (Unary o a place) k h under p placed =
          let x = operand_of program o _ k h in
          first a x.kind x.has under p (cut a x.kind x.has under p _ placed).0
      first (Binary o a b place) k h under p placed =
          let x = two_of program o _ _ k h in
          first a x.left x.at_left under p (cut a x.left x.at_left under p _ placed).0
      first (Variadic o operands place) k h under p placed =
          let x = many_of program locals o operands k h in
          let c = cut_args operands x.kinds x.have under p _ placed in
          args_first operands x.kinds x.have under p c.0 c.1.0
      first (And a b place) k h under p placed =
          first a h.0.0 h.0.1 under p (cut a h.0.0 h.0.1 under p _ placed).0
      first (Or a b place) k h under p placed =
          first a h.0.0 h.0.1 under p (cut a h.0.0 h.0.1 under p _ placed).0
      first (Choice c a b place) k h under p placed =
          first c h.0.0 h.0.1 under p (cut c h.0.0 h.0.1 under p _ placed).0
      first (Assign e spot address place) k h under p placed =
          first e h.1.0 h.1.1 under p (cut e h.1.0 h.1.1 under p _ placed).0
      first (AssignDeclared e declaration spot address place) k h under p placed =
          first e h.1.0 h.1.1 under p (cut e h.1.0 h.1.1 under p _ placed).0
      first (Update o e spot address place) k h under p placed =
          let u = updates_is program o (HasKind program locals e) k h.1 in
          first e u.value u.at_value under p (cut e u.value u.at_value under p _ placed).0
      first (Prefix direction spot address place) k h under p placed = placed.0
      first (Postfix direction spot address place) k h under p placed = placed.0
      first (Making c place) k h under p placed = placed.0
      first (NewObjects (elem.Class c) n constructor place) k h under p placed =
          first n h.1.0 h.1.1 under p (cut n h.1.0 h.1.1 under p _ placed).0
      first (NewObjects (elem.Unit kind) n constructor place) k h under p placed =
          first n h.1.0 h.1.1 under p (cut n h.1.0 h.1.1 under p _ placed).0
      first (Construct o f arguments place) k h under p placed = first o k h.0 under p placed
      first (CallOf o f arguments place) k h under p placed =
          first o h.0.0 h.0.1 under p (cut o h.0.0 h.0.1 under p _ placed).0
      first (SporkOf o f arguments place) k h under p placed =
          first o h.0.0 h.0.1 under p (cut o h.0.0 h.0.1 under p _ placed).0
      first (NewObjects _ n constructor place) k h under p placed = absurd h.0

      pub args_first : (args : Exprs) (js : List Kind) (h : AllHave program locals args js)
          (under : List Kind) (p : ℕ) → Placed p (args_shapes program fine locals under args js h)
          → AreAt places (args_end classes p args) (kinds_on js under) → AreAt places p under
      args_first no_exprs [] h under p placed end = end
      args_first no_exprs (j ∷ js) h under p placed end = absurd h
      args_first (more_exprs e rest) [] h under p placed end = absurd h
      args_first (more_exprs e rest) (j ∷ js) h under p placed end =
          first e j h.0 under p (cut e j h.0 under p _ placed).0

    -- what stands after what reads, sets or updates a spot
    pub placed_after : (spot : Spot) (ks under : List Kind) (more : List (List Kind)) (q : ℕ)
        → Placed q (ks ∷ (spot_rest spot under ++ more))
        → Placed q (ks ∷ spot_rest spot under) × Placed (spot_end q spot) more
    placed_after spot ks under more q placed =
        placed_split (ks ∷ spot_rest spot under) more q (spot_end q spot)
        (omega (arith, spot_length spot under q)) placed
