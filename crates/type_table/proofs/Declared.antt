-- What a declaration that is a file variable or a member finds in the table: its own name, with the type that it
-- writes. So all declarations of an expression.
use Rattle.std.specs.Prelude.{◌≡◌, ℕ, Option, Some, None}
use Rattle.ck_values.specs.declared.kind.Kind.{Kind}
use Rattle.ck_values.specs.declared.kind.Kind.TheVariants.{Void}
use Rattle.ck_syntax.specs.declared.declaration.Base.{Base}
use Rattle.ck_syntax.specs.declared.declaration.DeclHead.{DeclHead}
use Rattle.ck_syntax.specs.Tree as tree
use Rattle.ck_syntax.specs.Tree.{Name, Expr, Exprs, no_exprs, and_expr, Brackets, no_brackets, and_empty, and_size, Declr, declr, declr_with, declr_name}
use Rattle.type_table.specs.declared.table.Member.{Member}
use Rattle.type_table.specs.declared.table.Member.TheVariants as member
use Rattle.type_table.specs.declared.table.Variable.{Variable}
use Rattle.type_table.specs.Table.{Table, member_named, variable_named}
use Rattle.type_table.specs.Types.{named_by, written_kind}

-- a field or a static member of this kind
abbrev pub IsOfKind : Member → Kind → Type 0
IsOfKind (member.Field i j) k = j ≡ k
IsOfKind (member.Static i j) k = j ≡ k
IsOfKind member.Auto k = ⊥
IsOfKind (member.Fun f slot) k = ⊥

-- the name is that of a file variable, or of a member, of this kind
abbrev pub HasName : Table → (file : ℕ) → (class : Option ℕ) → Name → Kind → Type 0
HasName t file None n k = (v : Variable) × (variable_named t file n ≡ Some v) × (v.kind ≡ k)
HasName t file (Some c) n k = (m : Member) × (member_named t c n ≡ Some m) × IsOfKind m k

-- a declaration with `auto`: a file variable has no type yet, and a class has no such member
abbrev pub IsAuto : Table → (file : ℕ) → (class : Option ℕ) → Name → Type 0
IsAuto t file None n = HasName t file None n Void
IsAuto t file (Some c) n = Unit {0}

-- a declaration
abbrev pub IsDeclaredAs : Table → (file : ℕ) → (class : Option ℕ) → DeclHead → Option Base → Declr → Type 0
IsDeclaredAs t file class h None x = IsAuto t file class (declr_name x)
IsDeclaredAs t file class h (Some b) x =
    (k : Kind) × (written_kind h (named_by t file b) x ≡ Some k) × HasName t file class (declr_name x) k

abbrev pub IsDeclared : Table → (file : ℕ) → (class : Option ℕ) → DeclHead → Declr → Type 0
IsDeclared t file class h x = IsDeclaredAs t file class h h.base x

-- all declarations of an expression
abbrev mutual
  pub Declared : Table → (file : ℕ) → (class : Option ℕ) → Expr → Type 0
  Declared t f o (tree.paren l e) = Declared t f o e
  Declared t f o (tree.array l es) = AllDeclared t f o es
  Declared t f o (tree.call l e es) = Declared t f o e × AllDeclared t f o es
  Declared t f o (tree.index l e i) = Declared t f o e × Declared t f o i
  Declared t f o (tree.member l e n) = Declared t f o e
  Declared t f o (tree.postfix l e p) = Declared t f o e
  Declared t f o (tree.dur l e d) = Declared t f o e × Declared t f o d
  Declared t f o (tree.prefix l p e) = Declared t f o e
  Declared t f o (tree.new l b es) = AllDeclared t f o es
  Declared t f o (tree.new_with l b es) = AllDeclared t f o es
  Declared t f o (tree.spork l e) = Declared t f o e
  Declared t f o (tree.cast l e k) = Declared t f o e
  Declared t f o (tree.binary l a p b) = Declared t f o a × Declared t f o b
  Declared t f o (tree.choice l c a b) = Declared t f o c × Declared t f o a × Declared t f o b
  Declared t f o (tree.declare l h x) = BehindDeclared t f o x × IsDeclared t f o h x
  Declared t f o (tree.chuck l a p b) = Declared t f o a × Declared t f o b
  Declared t f o _ = Unit {0}

  pub AllDeclared : Table → (file : ℕ) → (class : Option ℕ) → Exprs → Type 0
  AllDeclared t f o no_exprs = Unit {0}
  AllDeclared t f o (and_expr es e) = AllDeclared t f o es × Declared t f o e

  -- what stands behind a declared name
  pub BehindDeclared : Table → (file : ℕ) → (class : Option ℕ) → Declr → Type 0
  BehindDeclared t f o (declr n bs) = SizesDeclared t f o bs
  BehindDeclared t f o (declr_with n es) = AllDeclared t f o es

  pub SizesDeclared : Table → (file : ℕ) → (class : Option ℕ) → Brackets → Type 0
  SizesDeclared t f o no_brackets = Unit {0}
  SizesDeclared t f o (and_empty bs) = SizesDeclared t f o bs
  SizesDeclared t f o (and_size bs e) = SizesDeclared t f o bs × Declared t f o e
