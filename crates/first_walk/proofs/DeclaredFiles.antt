-- What each declaration of a text that is a file variable or a member finds in the table after the first walk: its own
-- name, with the type that it writes.
use Rattle.std.specs.Prelude.{ℕ, Option, Some, None}
use Rattle.ck_syntax.specs.declared.declaration.DeclHead.{DeclHead}
use Rattle.ck_syntax.specs.Tree as tree
use Rattle.ck_syntax.specs.Tree.{Expr, Declrs, no_declrs, and_declr, Stmt, Members, no_members, and_member, fun_member, stmt_member, no_items, and_item, class_item, fun_item, stmt_item}
use Rattle.type_table.specs.Table.{Table}
use Rattle.type_table.proofs.Declared.{Declared, AllDeclared, BehindDeclared, IsDeclared}
use Rattle.first_walk.specs.FirstWalk.{own_class}

abbrev pub ListDeclared : Table → (file : ℕ) → (class : Option ℕ) → DeclHead → Declrs → Type 0
ListDeclared t f o h no_declrs = Unit {0}
ListDeclared t f o h (and_declr ds x) = ListDeclared t f o h ds × BehindDeclared t f o x × IsDeclared t f o h x

abbrev pub OptionDeclared : Table → (file : ℕ) → (class : Option ℕ) → Option Expr → Type 0
OptionDeclared t f o None = Unit {0}
OptionDeclared t f o (Some e) = Declared t f o e

-- those of a statement that stand in no block
abbrev pub StmtDeclared : Table → (file : ℕ) → (class : Option ℕ) → Stmt → Type 0
StmtDeclared t f o (tree.simple l e) = Declared t f o e
StmtDeclared t f o (tree.declares l h ds) = ListDeclared t f o h ds
StmtDeclared t f o (tree.print l es) = AllDeclared t f o es
StmtDeclared t f o (tree.if_then l e s) = Declared t f o e
StmtDeclared t f o (tree.if_else l e s r) = Declared t f o e
StmtDeclared t f o (tree.while_do l e s) = Declared t f o e
StmtDeclared t f o (tree.until_do l e s) = Declared t f o e
StmtDeclared t f o (tree.do_while l s e) = Declared t f o e
StmtDeclared t f o (tree.do_until l s e) = Declared t f o e
StmtDeclared t f o (tree.repeat l e s) = Declared t f o e
StmtDeclared t f o (tree.return l e) = OptionDeclared t f o e
StmtDeclared t f o _ = Unit {0}

abbrev pub MembersDeclared : Table → (file class : ℕ) → Members → Type 0
MembersDeclared t f c no_members = Unit {0}
MembersDeclared t f c (and_member ms (fun_member g)) = MembersDeclared t f c ms
MembersDeclared t f c (and_member ms (stmt_member s)) = MembersDeclared t f c ms × StmtDeclared t f (Some c) s

abbrev pub ItemDeclared : Table → (file : ℕ) → tree.Item → Type 0
ItemDeclared t f (class_item (tree.class l is_public n parent ms)) = MembersDeclared t f (own_class t f n) ms
ItemDeclared t f (fun_item g) = Unit {0}
ItemDeclared t f (stmt_item s) = StmtDeclared t f None s

-- all declarations of a file that stand in no function and in no block
abbrev pub FileDeclared : Table → (file : ℕ) → tree.File → Type 0
FileDeclared t f no_items = Unit {0}
FileDeclared t f (and_item xs x) = FileDeclared t f xs × ItemDeclared t f x
