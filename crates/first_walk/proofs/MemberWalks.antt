-- The walks over the parameters of a function and the members of a class.
use Rattle.std.proofs.Common.{◌≡◌, ℕ, Bool, true, ◌||◌, List, [], ◌∷◌, Option, refl}
use Rattle.ck_values.specs.declared.kind.Kind.{Kind}
use Rattle.ck_syntax.specs.declared.file.FunDef.{FunDef}
use Rattle.ck_syntax.specs.declared.file.FunHead.{FunHead}
use Rattle.ck_syntax.specs.declared.file.FunHead.TheVariants as head
use Rattle.ck_syntax.specs.declared.file.Member.{Member}
use Rattle.ck_syntax.specs.declared.file.Member.TheVariants.{Fun, Stmt}
use Rattle.ck_syntax.specs.declared.file.Param.{Param}
use Rattle.ck_syntax.specs.Tree.{Params, no_params, and_param, Stmts, no_stmts, Members, and_member, fun_member, stmt_member}
use Rattle.ck_syntax.specs.View.{params_of, stmts_of, headed, view_fun, view_stmt, view_member, members_of}
use Rattle.type_table.specs.Answer.{Answer}
use Rattle.type_table.specs.Table.{Table}
use Rattle.type_table.specs.Types.{named_by, is_unknown}
use Rattle.first_walk.specs.FirstWalk.{and_kind, param_kind, param_kinds, head_with, head_of, names_unknown, has_unknown, with_head, with_heads_of, enter_member, enter_members, has_statement}
use Rattle.first_walk.specs.Steps.{result_of, says_static, has_unknown_result}
use Rattle.type_table.proofs.Walks.{run, on}

module _ (t : Table) (f : ℕ) where
  abbrev pub one_kind : Option (List Kind) → Param → Option (List Kind)
  one_kind kinds p = and_kind kinds (param_kind t f p)

  pub kinds_run : (before : Params) (params : List Param)
      → param_kinds t f (params_of before params) ≡ run one_kind (param_kinds t f before) params
  kinds_run before [] = refl
  kinds_run before (p ∷ params) = kinds_run (and_param before p) params

  abbrev pub one_unknown : Bool → Param → Bool
  one_unknown b p = b || is_unknown (named_by t f p.kind.base)

  pub unknown_run : (before : Params) (params : List Param)
      → names_unknown t f (params_of before params) ≡ run one_unknown (names_unknown t f before) params
  unknown_run before [] = refl
  unknown_run before (p ∷ params) = unknown_run (and_param before p) params

-- what a head says
module _ (t : Table) (f l : ℕ) (ps : Params) (body : Stmts) where
  head_says : (x : FunHead) → head_of t f (headed l x ps body)
      ≡ head_with (says_static x) (param_kinds t f ps) (result_of t f x)
  head_says (head.Named is_static result name) = refl
  head_says head.Construct = refl

  unknown_says : (x : FunHead) → has_unknown t f (headed l x ps body) ≡ has_unknown_result t f x || names_unknown t f ps
  unknown_says (head.Named is_static result name) = refl
  unknown_says head.Construct = refl

-- the types of a function of the program
module _ (t : Table) (f : ℕ) (x : FunDef) where
  pub headed_is : head_of t f (view_fun x) ≡ head_with (says_static x.head)
      (param_kinds t f (params_of no_params x.params)) (result_of t f x.head)
  headed_is = head_says t f x.line (params_of no_params x.params) (stmts_of no_stmts x.body) x.head

  pub unknown_is : has_unknown t f (view_fun x) ≡ has_unknown_result t f x.head
      || names_unknown t f (params_of no_params x.params)
  unknown_is = unknown_says t f x.line (params_of no_params x.params) (stmts_of no_stmts x.body) x.head

module _ (f c : ℕ) where
  abbrev pub one_head : Table → Member → Table
  one_head u m = with_head f c u (view_member m)

  pub heads_run : (t : Table) (before : Members) (members : List Member)
      → with_heads_of f c t (members_of before members)
      ≡ run one_head (with_heads_of f c t before) members
  heads_run t before [] = refl
  heads_run t before (m ∷ members) = heads_run t (and_member before (view_member m)) members

  abbrev pub one_member : Table → Member → Answer Table
  one_member u m = enter_member f c u (view_member m)

  pub members_run : (t : Table) (before : Members) (members : List Member)
      → enter_members f c t (members_of before members)
      ≡ run (on one_member) (enter_members f c t before) members
  members_run t before [] = refl
  members_run t before (m ∷ members) = members_run t (and_member before (view_member m)) members

abbrev pub one_statement : Bool → Member → Bool
one_statement b (Fun f) = b
one_statement b (Stmt s) = true

pub statements_run : (before : Members) (members : List Member)
    → has_statement (members_of before members) ≡ run one_statement (has_statement before) members
statements_run before [] = refl
statements_run before (Fun f ∷ members) = statements_run (and_member before (fun_member (view_fun f.value))) members
statements_run before (Stmt s ∷ members) = statements_run (and_member before (stmt_member (view_stmt s))) members

pub has_one : (m : Member) → one_statement true m ≡ true
has_one (Fun f) = refl
has_one (Stmt s) = refl
