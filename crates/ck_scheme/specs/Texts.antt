-- The strings of a code, which its instructions name by numbers: each once, in the order of their
-- first uses.
use Rattle.std.specs.Prelude.{ℕ, suc, List, [], ◌∷◌, ◌++◌, if◌then◌else◌}
use Rattle.std.specs.List.{list_any}
use Rattle.std.specs.Str.{bytes_eq}
use Rattle.ck_values.specs.declared.kind.Elem.TheVariants as elem
use Rattle.ck_values.specs.declared.kind.Kind.{Kind}
use Rattle.ck_values.specs.declared.kind.Kind.TheVariants.{One}
use Rattle.ck_typed.specs.Tree.{Expr, Exprs, no_exprs, more_exprs, Text, Unary, Binary, Variadic, And, Or, Choice, Assign, AssignDeclared, Update, Prefix, Postfix, NewObjects, Construct, CallOf, SporkOf, Stmt, Stmts, no_stmts, more_stmts, Simple, Block, Print, If, Loop, LoopLast, For, ForEver, Repeat, Return, Fun, Program}

abbrev mutual
  -- the strings of an expression, in the order of its code
  pub expr_texts : Expr → List (List ℕ)
  expr_texts (Text bytes place) = bytes ∷ []
  expr_texts (Unary o a place) = expr_texts a
  expr_texts (Binary o a b place) = expr_texts a ++ expr_texts b
  expr_texts (Variadic o operands place) = exprs_texts operands
  expr_texts (And a b place) = expr_texts a ++ expr_texts b
  expr_texts (Or a b place) = expr_texts a ++ expr_texts b
  expr_texts (Choice c a b place) = expr_texts c ++ (expr_texts a ++ expr_texts b)
  expr_texts (Assign e spot address place) = expr_texts e ++ exprs_texts address
  expr_texts (AssignDeclared e declaration spot address place) =
      expr_texts e ++ (expr_texts declaration ++ exprs_texts address)
  expr_texts (Update o e spot address place) = expr_texts e ++ exprs_texts address
  expr_texts (Prefix direction spot address place) = exprs_texts address
  expr_texts (Postfix direction spot address place) = exprs_texts address
  expr_texts (NewObjects item n constructor place) = expr_texts n
  expr_texts (Construct o f arguments place) = expr_texts o
  expr_texts (CallOf o f arguments place) = expr_texts o ++ exprs_texts arguments
  expr_texts (SporkOf o f arguments place) = expr_texts o ++ exprs_texts arguments
  expr_texts _ = []

  pub exprs_texts : Exprs → List (List ℕ)
  exprs_texts no_exprs = []
  exprs_texts (more_exprs e rest) = expr_texts e ++ exprs_texts rest

abbrev mutual
  -- those of a statement
  pub stmt_texts : Stmt → List (List ℕ)
  stmt_texts (Simple e place) = expr_texts e
  stmt_texts (Block all) = stmts_texts all
  stmt_texts (Print items kinds place) = exprs_texts items
  stmt_texts (If c a b place) = expr_texts c ++ (stmt_texts a ++ stmt_texts b)
  stmt_texts (Loop until c body place) = expr_texts c ++ stmt_texts body
  stmt_texts (LoopLast until body c place) = stmt_texts body ++ expr_texts c
  stmt_texts (For start test step body place) =
      stmt_texts start ++ (expr_texts test ++ (stmt_texts body ++ stmt_texts step))
  stmt_texts (ForEver start step body place) =
      stmt_texts start ++ (stmt_texts body ++ stmt_texts step)
  stmt_texts (Repeat count body place) = expr_texts count ++ stmt_texts body
  stmt_texts (Return e place) = expr_texts e
  stmt_texts _ = []

  pub stmts_texts : Stmts → List (List ℕ)
  stmts_texts no_stmts = []
  stmts_texts (more_stmts t rest) = stmt_texts t ++ stmts_texts rest

-- a function whose result is a string ends with the empty one
abbrev pub default_texts : (result : Kind) → List (List ℕ)
default_texts (One elem.Text) = [] ∷ []
default_texts _ = []

-- the strings of all functions
abbrev pub funs_texts : List Fun → List (List ℕ)
funs_texts [] = []
funs_texts (fn ∷ rest) = (stmt_texts fn.body ++ default_texts fn.result) ++ funs_texts rest

-- these strings, each that was not among those before
abbrev pub once_each : (before texts : List (List ℕ)) → List (List ℕ)
once_each before [] = before
once_each before (t ∷ rest) =
    once_each (if list_any (bytes_eq t) before then before else before ++ t ∷ []) rest

-- the number of a string: where it stands first, and how many there are where it stands nowhere
abbrev pub number_of : (texts : List (List ℕ)) → (bytes : List ℕ) → ℕ
number_of [] bytes = 0
number_of (t ∷ rest) bytes = if bytes_eq bytes t then 0 else suc (number_of rest bytes)

-- the strings of a program's code
abbrev pub texts_of : Program → List (List ℕ)
texts_of program = once_each [] (funs_texts program.funs)
