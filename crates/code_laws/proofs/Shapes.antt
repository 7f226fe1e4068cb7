-- What the law needs to know of a tree beforehand: what neither an instruction nor the meaning tests.
use Rattle.std.proofs.Common.{◌≡◌, ℕ, zero, suc, Option, Bool, true, IsTrue, refl}
use Rattle.std.specs.Prelude.{List, [], ◌∷◌, length, slice_get}
use Rattle.ck_values.specs.declared.kind.Elem.TheVariants as elem
use Rattle.ck_values.specs.declared.kind.Kind.{Kind}
use Rattle.ck_store.specs.Natives.{operand_count}
use Rattle.ck_store.specs.Objects.{bodies_of}
use Rattle.ck_typed.specs.WellFormed.{FoundWhere, IsFine, AreFine}
use Rattle.ck_typed.specs.declared.expr.Spot.{Spot}
use Rattle.ck_typed.specs.declared.expr.Spot.TheVariants.{Local, Static, StaticOf, Field, Item}
use Rattle.ck_scheme.specs.Texts.{texts_of}
use Rattle.code_laws.proofs.Numbered.{IsNumbered}
use Rattle.ck_scheme.specs.Scheme.{count_of}
use Rattle.ck_typed.specs.declared.operation.Binary.{Binary as OfTwo}
use Rattle.ck_typed.specs.declared.operation.Binary.TheVariants as binary
use Rattle.ck_typed.specs.declared.operation.Variadic.{Variadic as OfMany}
use Rattle.ck_typed.specs.declared.operation.Variadic.TheVariants as variadic
use Rattle.ck_typed.specs.Tree.{Expr, Exprs, no_exprs, more_exprs, Leaf, Text, Unary, Binary, Variadic, And, Or, Choice, Assign, AssignDeclared, Update, Prefix, Postfix, New, NewObjects, Construct, CallOf, SporkOf, Stmt, Stmts, no_stmts, more_stmts, Simple, Block, Print, If, Loop, LoopLast, For, ForEver, Repeat, ForEach, Break, Continue, Return, Fun as TypedFun, Program}

-- the function is there, and takes so many arguments
abbrev pub Takes : Option TypedFun → ℕ → Type 0
Takes o count = FoundWhere o (λ fn. count ≡ fn.params)

-- so many values are the address of a spot
abbrev pub HasAddress : Spot → ℕ → Type 0
HasAddress (Local i) zero = Unit {0}
HasAddress (Static i) zero = Unit {0}
HasAddress (StaticOf i) (suc zero) = Unit {0}
HasAddress (Field i) (suc zero) = Unit {0}
HasAddress Item (suc (suc zero)) = Unit {0}
HasAddress _ n = ⊥

-- each of these functions is there, and takes an object alone
abbrev pub TakeObject : Program → (bodies : List ℕ) → Type 0
TakeObject program [] = Unit {0}
TakeObject program (f ∷ bodies) = Takes (slice_get program.funs f) 1 × TakeObject program bodies

-- an operation works on so many operands
abbrev pub OnTwo : Program → OfTwo → Type 0
OnTwo program (binary.ChuckCallOf f) = Takes (slice_get program.funs f) 1
OnTwo program (binary.ChuckNative call) = operand_count call ≡ 2
OnTwo program _ = Unit {0}

abbrev pub OnMany : Program → OfMany → (count : ℕ) → Type 0
OnMany program (variadic.Read spot) n = HasAddress spot n
OnMany program (variadic.Call f) n = Takes (slice_get program.funs f) n
OnMany program (variadic.Native call) n = operand_count call ≡ n
OnMany program (variadic.Spork f) n = Takes (slice_get program.funs f) n
OnMany program _ n = Unit {0}

module _ (program : Program) where
  abbrev mutual
    -- each address is as long as its spot wants, each call and spork has the arguments that its function takes,
    -- and each string has its number
    pub Shaped : Expr → Type 0
    Shaped (Leaf o place) = Unit {0}
    Shaped (Text bytes place) = IsNumbered (texts_of program) bytes
    Shaped (Unary o a place) = Shaped a
    Shaped (Binary o a b place) = OnTwo program o × Shaped a × Shaped b
    Shaped (Variadic o operands place) = OnMany program o (count_of operands) × AllShaped operands
    Shaped (And a b place) = Shaped a × Shaped b
    Shaped (Or a b place) = Shaped a × Shaped b
    Shaped (Choice c a b place) = Shaped c × Shaped a × Shaped b
    Shaped (Assign e spot address place) = Shaped e × HasAddress spot (count_of address) × AllShaped address
    Shaped (AssignDeclared e declaration spot address place) =
        Shaped e × Shaped declaration × HasAddress spot (count_of address) × AllShaped address
    Shaped (Update o e spot address place) =
        Shaped e × HasAddress spot (count_of address) × AllShaped address
    Shaped (Prefix direction spot address place) =
        HasAddress spot (count_of address) × AllShaped address
    Shaped (Postfix direction spot address place) =
        HasAddress spot (count_of address) × AllShaped address
    Shaped (New c place) = TakeObject program (bodies_of program.classes c)
    Shaped (NewObjects (elem.Class c) n constructor place) =
        Shaped n × TakeObject program (bodies_of program.classes c)
    Shaped (NewObjects (elem.Unit kind) n constructor place) = Shaped n
    Shaped (Construct o f arguments place) = Shaped o
    Shaped (CallOf o f arguments place) =
        Shaped o × Takes (slice_get program.funs f) (count_of arguments) × AllShaped arguments
    Shaped (SporkOf o f arguments place) =
        Shaped o × Takes (slice_get program.funs f) (count_of arguments) × AllShaped arguments
    Shaped _ = ⊥

    pub AllShaped : Exprs → Type 0
    AllShaped no_exprs = Unit {0}
    AllShaped (more_exprs e rest) = Shaped e × AllShaped rest

  abbrev mutual
    -- each break and continue stands in a loop, and each printed item has its kind
    pub ShapedStmt : (in_loop : Bool) → Stmt → Type 0
    ShapedStmt in_loop (Simple e place) = Shaped e
    ShapedStmt in_loop (Block all) = ShapedStmts in_loop all
    ShapedStmt in_loop (Print items kinds place) =
        (count_of items ≡ length kinds) × AllShaped items
    ShapedStmt in_loop (If c a b place) = Shaped c × ShapedStmt in_loop a × ShapedStmt in_loop b
    ShapedStmt in_loop (Loop until c body place) = Shaped c × ShapedStmt true body
    ShapedStmt in_loop (LoopLast until body c place) = Shaped c × ShapedStmt true body
    ShapedStmt in_loop (For start c step body place) =
        Shaped c × ShapedStmt in_loop start × ShapedStmt true step × ShapedStmt true body
    ShapedStmt in_loop (ForEver start step body place) =
        ShapedStmt in_loop start × ShapedStmt true step × ShapedStmt true body
    ShapedStmt in_loop (Repeat count body place) = Shaped count × ShapedStmt true body
    ShapedStmt in_loop (ForEach array local widens body place) = Unit {0}
    ShapedStmt in_loop (Break place) = IsTrue in_loop
    ShapedStmt in_loop (Continue place) = IsTrue in_loop
    ShapedStmt in_loop (Return e place) = Shaped e

    pub ShapedStmts : (in_loop : Bool) → Stmts → Type 0
    ShapedStmts in_loop no_stmts = Unit {0}
    ShapedStmts in_loop (more_stmts t rest) = ShapedStmt in_loop t × ShapedStmts in_loop rest

-- what may stand outside a loop may stand in one
module _ (program : Program) (locals : List Kind) (result : Kind) where
  mutual
    -- a statement
    pub in_a_loop : (t : Stmt) (in_loop : Bool) → IsFine program locals result in_loop t
        → IsFine program locals result true t
    in_a_loop (Simple e place) in_loop h = h
    in_a_loop (Block all) in_loop h = all_in_a_loop all in_loop h
    in_a_loop (Print items kinds place) in_loop h = h
    in_a_loop (If c a b place) in_loop h =
        (h.0, in_a_loop a in_loop h.1, in_a_loop b in_loop h.2)
    in_a_loop (Loop until c body place) in_loop h = h
    in_a_loop (LoopLast until body c place) in_loop h = h
    in_a_loop (For start c step body place) in_loop h =
        (h.0, in_a_loop start in_loop h.1, in_a_loop step in_loop h.2, h.3)
    in_a_loop (ForEver start step body place) in_loop h =
        (in_a_loop start in_loop h.0, in_a_loop step in_loop h.1, h.2)
    in_a_loop (Repeat count body place) in_loop h = h
    in_a_loop (ForEach array local widens body place) in_loop h = h
    in_a_loop (Break place) in_loop h = refl
    in_a_loop (Continue place) in_loop h = refl
    in_a_loop (Return e place) in_loop h = h

    -- statements, one after another
    all_in_a_loop : (all : Stmts) (in_loop : Bool) → AreFine program locals result in_loop all
        → AreFine program locals result true all
    all_in_a_loop no_stmts in_loop h = tt
    all_in_a_loop (more_stmts t rest) in_loop h =
        (in_a_loop t in_loop h.0, all_in_a_loop rest in_loop h.1)
