-- The sizes of statements and of parameters: those of all items together are at most that of a list of the grammar.
use Rattle.std.proofs.Common.{ℕ, ◌+◌, ◌≤◌, List, [], ◌∷◌, arith}
use Rattle.ck_syntax.specs.declared.file.Param.{Param}
use Rattle.ck_syntax.specs.declared.stmt.Stmt.{Stmt}
use Rattle.ck_syntax.specs.Size.{stmt_size, stmts_size, param_size, params_size, params_before_comma}
use Rattle.ck_syntax.specs.Tree.{Stmts, no_stmts, and_stmt, Params, no_params, and_param}
use Rattle.ck_syntax.specs.View.{view_stmt, stmts_of, params_of}
use Rattle.type_table.proofs.Weights.{weight}

abbrev pub one_stmt : Stmt → ℕ
one_stmt s = stmt_size (view_stmt s)

stmts_behind : (before : Stmts) (ss : List Stmt)
    → stmts_size before + weight one_stmt ss ≤ stmts_size (stmts_of before ss)
stmts_behind before [] = omega arith
stmts_behind before (s ∷ ss) = omega (arith, stmts_behind (and_stmt before (view_stmt s)) ss)

pub stmts_weigh : (ss : List Stmt) → weight one_stmt ss ≤ stmts_size (stmts_of no_stmts ss)
stmts_weigh ss = omega (arith, stmts_behind no_stmts ss)

params_comma : (ps : Params) → params_size ps ≤ params_before_comma ps
params_comma no_params = omega arith
params_comma (and_param ps p) = omega arith

params_behind : (before : Params) (ps : List Param)
    → params_size before + weight param_size ps ≤ params_size (params_of before ps)
params_behind before [] = omega arith
params_behind before (p ∷ ps) =
    omega (arith, params_comma before, params_behind (and_param before p) ps)

pub params_weigh : (ps : List Param) → weight param_size ps ≤ params_size (params_of no_params ps)
params_weigh ps = omega (arith, params_behind no_params ps)
