-- Only the statements of a file settle types: functions and classes give back what was settled.
use Rattle.std.proofs.Common.{◌≡◌, ℕ, ◌+◌, Bool, true, false, List, length, Option, Some, None}
use Rattle.std.proofs.Common.{refl, ap, subst}
use Rattle.ck_values.specs.declared.kind.Kind.{Kind}
use Rattle.ck_syntax.specs.Tree as tree
use Rattle.ck_syntax.specs.Tree.{Params, no_params, and_param, Stmts}
use Rattle.ck_syntax.specs.Tree.{Members, no_members, and_member, stmt_member, fun_member}
use Rattle.ck_typed.specs.Tree.{Fun}
use Rattle.type_table.specs.Answer.{Answer, gives}
use Rattle.type_table.specs.Table.{Table, with_settled}
use Rattle.check_scope.specs.Scope.{Scope, is_declared, with_block}
use Rattle.expr_laws.proofs.FineDeclarations.{anything}
use Rattle.expr_laws.proofs.Growing.{Keeps, keeps_refl, keeps_trans}
use Rattle.expr_laws.proofs.Oks.{ok_then, ok_if}
use Rattle.expr_laws.proofs.Premises.{Ok}
use Rattle.first_walk.specs.Room.{entries}
use Rattle.program_laws.specs.declared.surroundings.Surroundings.{Surroundings}
use Rattle.program_laws.specs.Programs.{fun_scope, with_params, Walked, in_no_fun, fun_typed}
use Rattle.program_laws.specs.Programs.{and_fun, settled_by}
use Rattle.program_laws.specs.Programs.{and_member_typed, members_typed}
use Rattle.program_laws.specs.Statements.{Stated, AllStated, and_stated, statement, statements}
use Rattle.program_laws.proofs.FineStatements.{nothing_settles}
use Rattle.program_laws.proofs.Matching.{class_scope}
use Rattle.program_laws.proofs.SettledTables.{settled_length}
use Rattle.program_laws.proofs.StatementsGrow.{statement_keeps, statements_keep}

-- what is found is so
found : {A : Type 0} (P : A → Type 0) (a : Answer A) (x : A) → a ≡ gives x → Ok P a → P x
found P a x is ok = subst (Ok P) is ok

-- parameters
params_stay : (types : List Kind) (s : Scope) (l : ℕ) (ps : Params)
    → Ok (λ u. u.settled ≡ s.settled) (with_params types s l ps)
params_stay types s l no_params = refl
params_stay types s l (and_param ps p) =
    ok_then (λ u. u.settled ≡ s.settled) (λ u. u.settled ≡ s.settled) (with_params types s l ps) _
    (params_stay types s l ps) (λ u same.
    ok_if (λ v. v.settled ≡ s.settled) (is_declared u p.name) _ _ (λ is. tt) (λ is. same))

pub params_settle : (types : List Kind) (s u : Scope) (l : ℕ) (ps : Params)
    → with_params types s l ps ≡ gives u → u.settled ≡ s.settled
params_settle types s u l ps is =
    found (λ v. v.settled ≡ s.settled) (with_params types s l ps) u is (params_stay types s l ps)

-- a function begins with what was settled before
pub scope_settles : (file : ℕ) (class : Option ℕ) (f : ℕ) (is_static : Bool)
    (settled : List (ℕ × Kind)) → (fun_scope file class f is_static settled).settled ≡ settled
scope_settles file None f true settled = refl
scope_settles file None f false settled = refl
scope_settles file (Some c) f true settled = refl
scope_settles file (Some c) f false settled = refl

module _ (t : Table) where
  -- the body of a function
  pub body_settles : (o : Surroundings) (s u : Scope) (xs : Stmts) (all : AllStated)
      → u ≡ with_block s → statements t o u xs ≡ gives all → all.scope.settled ≡ s.settled
  body_settles o s u xs all opened is =
      let keeps : Keeps t (with_block s) all.scope =
      subst (λ v. Keeps t v all.scope) opened
      (found (λ (y : AllStated). Keeps t u y.scope) (statements t o u xs) all is
      (statements_keep t o u xs)) in
      keeps.2 (nothing_settles s)

  -- the members of a class
  module _ (file c first : ℕ) (settled : List (ℕ × Kind)) where
    abbrev InClass : Walked → Type 0
    InClass w = Keeps t (class_scope file c settled) w.stated.scope

    member_keeps : (w : Walked) (m : tree.Member) → InClass w
        → Ok InClass (and_member_typed t file c first w m)
    member_keeps w (stmt_member x) keeps =
        let u : Scope = w.stated.scope in
        ok_then (λ (y : Stated). Keeps t u y.scope) InClass (statement t in_no_fun u x)
        (λ y. gives (record w { stated = and_stated w.stated y })) (statement_keeps t in_no_fun u x)
        (λ y more. keeps_trans (class_scope file c settled) u y.scope keeps more)
    member_keeps w (fun_member f) keeps =
        ok_then (λ (g : Fun). Unit {0}) InClass
        (fun_typed t file (Some c) (first + length w.funs) (settled_by w) f)
        (λ g. gives (and_fun w g))
        (anything (fun_typed t file (Some c) (first + length w.funs) (settled_by w) f))
        (λ g any. keeps)

    members_keep : (ms : Members) → Ok InClass (members_typed t file c first settled ms)
    members_keep no_members = keeps_refl (class_scope file c settled)
    members_keep (and_member ms m) =
        ok_then InClass InClass (members_typed t file c first settled ms)
        (λ w. and_member_typed t file c first w m) (members_keep ms)
        (λ w keeps. member_keeps w m keeps)

    pub class_settles : (ms : Members) (w : Walked)
        → members_typed t file c first settled ms ≡ gives w → w.stated.scope.settled ≡ settled
    class_settles ms w is =
        let keeps : Keeps t (class_scope file c settled) w.stated.scope =
        found InClass (members_typed t file c first settled ms) w is (members_keep ms) in
        keeps.2 refl

-- what was settled stands in the table, which has no more entries for it
pub settled_entries : (t : Table) (settled : List (ℕ × Kind))
    → entries (with_settled t settled) ≡ entries t
settled_entries t settled =
    ap (λ n. length t.classes + length t.parents + length t.funs + n)
    (settled_length t.statics settled)
