-- What a file settles had no kind before.
use Rattle.std.proofs.Common.{ℕ, [], None}
use Rattle.ck_syntax.specs.Tree as tree
use Rattle.ck_syntax.specs.Tree.{no_items, and_item, class_item, fun_item, stmt_item}
use Rattle.type_table.specs.Answer.{gives}
use Rattle.type_table.specs.Table.{Table}
use Rattle.program_laws.specs.Statements.{Stated, and_stated, statement}
use Rattle.program_laws.specs.Programs.{in_no_fun, fun_typed, Walked, settled_by, and_fun, class_typed}
use Rattle.program_laws.specs.Programs.{and_funs, next_fun, and_item_typed, items_typed}
use Rattle.expr_laws.proofs.FineDeclarations.{anything}
use Rattle.expr_laws.proofs.Growing.{Keeps}
use Rattle.expr_laws.proofs.Oks.{ok_then}
use Rattle.expr_laws.proofs.Premises.{Ok}
use Rattle.expr_laws.proofs.Settling.{Settles, as_before, settles_trans}
use Rattle.program_laws.proofs.StatementsGrow.{statement_keeps}

module _ (t : Table) (file : ℕ) where
  abbrev Settled : Walked → Type 0
  Settled w = Settles t [] (settled_by w)

  item_settles : (w : Walked) (x : tree.Item) → Settled w → Ok Settled (and_item_typed t file w x)
  item_settles w (stmt_item x) before =
      ok_then (λ (y : Stated). Keeps t w.stated.scope y.scope) Settled
      (statement t in_no_fun w.stated.scope x)
      (λ y. gives (record w { stated = and_stated w.stated y }))
      (statement_keeps t in_no_fun w.stated.scope x) (λ y keeps. settles_trans before keeps.3)
  item_settles w (fun_item f) before =
      ok_then (λ g. Unit {0}) Settled
      (fun_typed t file None (next_fun t file w) (settled_by w) f) (λ g. gives (and_fun w g))
      (anything (fun_typed t file None (next_fun t file w) (settled_by w) f)) (λ g _. before)
  item_settles w (class_item c) before =
      ok_then (λ fs. Unit {0}) Settled (class_typed t file (next_fun t file w) (settled_by w) c)
      (λ fs. gives (and_funs w fs))
      (anything (class_typed t file (next_fun t file w) (settled_by w) c)) (λ fs _. before)

  pub items_settle : (raw : tree.File) → Ok Settled (items_typed t file raw)
  items_settle no_items = as_before
  items_settle (and_item xs x) =
      ok_then Settled Settled (items_typed t file xs) (λ w. and_item_typed t file w x)
      (items_settle xs) (λ w before. item_settles w x before)
