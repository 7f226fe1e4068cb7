-- The lists in trees.
use Rattle.std.proofs.Common.{◌≡◌, List, [], ◌∷◌, map, refl, ap}
use Rattle.ck_typed.specs.declared.stmt.TypedStmt.{TypedStmt}
use Rattle.ck_typed.specs.declared.stmt.TypedStmt.TheViews as stmts
use Rattle.ck_typed.specs.Tree.{more_stmts}
use Rattle.ck_typed.specs.View.{view_stmt, stmts_of}
use Rattle.ck_typed.proofs.Views.{view_stmts-row}
use Rattle.program_laws.specs.Statements.{in_order}

-- the statements of a block
pub in_order-map : (xs : List TypedStmt) → in_order (map view_stmt xs) ≡ stmts_of xs
in_order-map [] = refl
in_order-map (x ∷ xs) = ap (more_stmts (view_stmt x)) (in_order-map xs)

pub ruleset rows = (stmts.the_lemmas, view_stmts-row, in_order-map)
