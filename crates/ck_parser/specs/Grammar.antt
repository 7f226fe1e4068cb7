-- The grammar, one case for each alternative. `IsStmt ts s rest` says that ts is the tokens of
-- the statement s, and then rest.
use Rattle.std.specs.Prelude.{◌≡◌, ℕ, zero, suc, List, [], ◌++◌, Bool, true, false, Option, Some}
use Rattle.std.specs.Prelude.{None}
use Rattle.ck_lexer.specs.declared.mark.Mark.TheVariants as m
use Rattle.ck_lexer.specs.declared.token.Token.{Token}
use Rattle.ck_lexer.specs.declared.token.TokenKind.{TokenKind}
use Rattle.ck_lexer.specs.declared.token.TokenKind.TheVariants.{Word, Mark, Name, End}
use Rattle.ck_lexer.specs.declared.word.Word.TheVariants as w
use Rattle.parse_exprs.specs.declared.follow.Follow.TheVariants as f
use Rattle.parse_exprs.specs.Tokens.{Begins, Then, atom, prefixed, based, opening, follow, level}
use Rattle.parse_exprs.specs.Tokens.{a_word, has, construct}
use Rattle.ck_syntax.specs.Tree as t
use Rattle.ck_syntax.specs.Tree.{Expr, Exprs, Brackets, Declr, Declrs, Stmt, Stmts, Fun, Params}
use Rattle.ck_syntax.specs.Tree.{Member, Members, Class, Item, File, expr_line, no_exprs, and_expr}
use Rattle.ck_syntax.specs.Tree.{no_brackets, and_empty, and_size, no_declrs, and_declr, no_stmts}
use Rattle.ck_syntax.specs.Tree.{and_stmt, no_params, and_param, no_members, and_member, no_items}
use Rattle.ck_syntax.specs.Tree.{and_item}
use Rattle.ck_syntax.specs.declared.declaration.Base.{Base}
use Rattle.ck_syntax.specs.declared.declaration.Base.TheVariants.{Class as a_class}
use Rattle.ck_syntax.specs.declared.declaration.DeclHead.{DeclHead}
use Rattle.ck_syntax.specs.declared.declaration.TypeName.{TypeName}
use Rattle.ck_syntax.specs.declared.file.Param.{Param}
use Rattle.ck_syntax.specs.declared.operator.BinaryOp.{BinaryOp}
use Rattle.ck_syntax.specs.declared.operator.ChuckOp.{ChuckOp}
use Rattle.ck_syntax.specs.declared.operator.PostfixOp.{PostfixOp}
use Rattle.ck_syntax.specs.declared.operator.PrefixOp.{PrefixOp}

-- Base, with the line where it stands
pub data IsBase : List Token → ℕ → Base → List Token → Type 0 where
  of_word : {k : TokenKind} {l : ℕ} {b : Base} {ts rest : List Token}
      → Begins k l ts rest → opening l k ≡ based b
      → IsBase ts l b rest
  of_class : {l : ℕ} {n : t.Name} {ts rest : List Token}
      → Begins (Name n) l ts rest
      → IsBase ts l (a_class n) rest

-- ('[' ']')*
pub data IsPairs : List Token → ℕ → List Token → Type 0 where
  of_no_pairs : {ts : List Token} → IsPairs ts zero ts
  of_pair : {n : ℕ} {ts a b rest : List Token}
      → IsPairs ts n a → Then (Mark m.LeftBracket) a b → Then (Mark m.RightBracket) b rest
      → IsPairs ts (suc n) rest

-- Type
pub data IsType : List Token → TypeName → List Token → Type 0 where
  of_base : {l n : ℕ} {b : Base} {ts a rest : List Token}
      → IsBase ts l b a → IsPairs a n rest
      → IsType ts (record { base = b; brackets = n }) rest

-- '@'?
pub data IsAt : List Token → Bool → List Token → Type 0 where
  of_no_at : {ts : List Token} → IsAt ts false ts
  of_at : {ts rest : List Token} → Then (Mark m.At) ts rest → IsAt ts true rest

-- Base | 'auto', with the line where it stands
pub data IsHeadBase : List Token → ℕ → Option Base → List Token → Type 0 where
  of_typed : {l : ℕ} {b : Base} {ts rest : List Token}
      → IsBase ts l b rest
      → IsHeadBase ts l (Some b) rest
  of_auto : {l : ℕ} {ts rest : List Token}
      → Begins (Word w.Auto) l ts rest
      → IsHeadBase ts l None rest

-- DeclHead, with the line where it stands
pub data IsHead : List Token → ℕ → DeclHead → List Token → Type 0 where
  of_head : {l : ℕ} {b : Option Base} {r : Bool} {ts a rest : List Token}
      → IsHeadBase ts l b a → IsAt a r rest
      → IsHead ts l (record { is_static = false; base = b; is_reference = r }) rest
  of_static : {l k : ℕ} {b : Option Base} {r : Bool} {ts a c rest : List Token}
      → Begins (Word w.Static) l ts a → IsHeadBase a k b c → IsAt c r rest
      → IsHead ts l (record { is_static = true; base = b; is_reference = r }) rest

mutual
  -- Primary
  pub data IsPrimary : List Token → Expr → List Token → Type 0 where
    of_atom : {k : TokenKind} {l : ℕ} {e : Expr} {ts rest : List Token}
        → Begins k l ts rest → opening l k ≡ atom e
        → IsPrimary ts e rest
    of_name : {l : ℕ} {n : t.Name} {ts rest : List Token}
        → Begins (Name n) l ts rest
        → IsPrimary ts (t.name l n) rest
    of_paren : {l : ℕ} {e : Expr} {ts a b rest : List Token}
        → Begins (Mark m.LeftParen) l ts a → IsExpr a e b → Then (Mark m.RightParen) b rest
        → IsPrimary ts (t.paren l e) rest
    of_array : {l : ℕ} {es : Exprs} {ts a b rest : List Token}
        → Begins (Mark m.LeftBracket) l ts a → IsExprs a es b → Then (Mark m.RightBracket) b rest
        → IsPrimary ts (t.array l es) rest

  -- Expr (',' Expr)*
  pub data IsExprs : List Token → Exprs → List Token → Type 0 where
    of_first : {e : Expr} {ts rest : List Token}
        → IsExpr ts e rest
        → IsExprs ts (and_expr no_exprs e) rest
    of_next : {e : Expr} {es : Exprs} {ts a b rest : List Token}
        → IsExprs ts es a → Then (Mark m.Comma) a b → IsExpr b e rest
        → IsExprs ts (and_expr es e) rest

  -- Postfix
  pub data IsPostfix : List Token → Expr → List Token → Type 0 where
    of_primary : {e : Expr} {ts rest : List Token} → IsPrimary ts e rest → IsPostfix ts e rest
    of_call_empty : {e : Expr} {ts a b rest : List Token}
        → IsPostfix ts e a → Then (Mark m.LeftParen) a b → Then (Mark m.RightParen) b rest
        → IsPostfix ts (t.call (expr_line e) e no_exprs) rest
    of_call : {e : Expr} {es : Exprs} {ts a b c rest : List Token}
        → IsPostfix ts e a → Then (Mark m.LeftParen) a b → IsExprs b es c
        → Then (Mark m.RightParen) c rest
        → IsPostfix ts (t.call (expr_line e) e es) rest
    of_index : {e i : Expr} {ts a b c rest : List Token}
        → IsPostfix ts e a → Then (Mark m.LeftBracket) a b → IsExpr b i c
        → Then (Mark m.RightBracket) c rest
        → IsPostfix ts (t.index (expr_line e) e i) rest
    of_member : {e : Expr} {n : t.Name} {ts a b rest : List Token}
        → IsPostfix ts e a → Then (Mark m.Dot) a b → Then (Name n) b rest
        → IsPostfix ts (t.member (expr_line e) e n) rest
    of_postfix : {k : TokenKind} {o : PostfixOp} {e : Expr} {ts a rest : List Token}
        → IsPostfix ts e a → Then k a rest → follow k ≡ f.Postfix o
        → IsPostfix ts (t.postfix (expr_line e) e o) rest

  -- Dur
  pub data IsDur : List Token → Expr → List Token → Type 0 where
    of_one : {e : Expr} {ts rest : List Token} → IsPostfix ts e rest → IsDur ts e rest
    of_dur : {e u : Expr} {ts a b rest : List Token}
        → IsDur ts e a → Then (Mark m.ColonColon) a b → IsPostfix b u rest
        → IsDur ts (t.dur (expr_line e) e u) rest

  -- '(' (Expr (',' Expr)*)? ')'
  pub data IsArguments : List Token → Exprs → List Token → Type 0 where
    of_none_given : {ts a rest : List Token}
        → Then (Mark m.LeftParen) ts a → Then (Mark m.RightParen) a rest
        → IsArguments ts no_exprs rest
    of_arguments : {es : Exprs} {ts a b rest : List Token}
        → Then (Mark m.LeftParen) ts a → IsExprs a es b → Then (Mark m.RightParen) b rest
        → IsArguments ts es rest

  -- ('[' Expr ']')*
  pub data IsSizes : List Token → Exprs → List Token → Type 0 where
    of_no_sizes : {ts : List Token} → IsSizes ts no_exprs ts
    of_size : {e : Expr} {es : Exprs} {ts a b c rest : List Token}
        → IsSizes ts es a → Then (Mark m.LeftBracket) a b → IsExpr b e c
        → Then (Mark m.RightBracket) c rest
        → IsSizes ts (and_expr es e) rest

  -- Unary
  pub data IsUnary : List Token → Expr → List Token → Type 0 where
    of_plain : {e : Expr} {ts rest : List Token} → IsDur ts e rest → IsUnary ts e rest
    of_prefix : {k : TokenKind} {o : PrefixOp} {l : ℕ} {e : Expr} {ts a rest : List Token}
        → Begins k l ts a → opening l k ≡ prefixed o → IsUnary a e rest
        → IsUnary ts (t.prefix l o e) rest
    of_new : {l k : ℕ} {b : Base} {es : Exprs} {ts a c rest : List Token}
        → Begins (Word w.New) l ts a → IsBase a k b c → IsSizes c es rest
        → IsUnary ts (t.new l b es) rest
    of_new_with : {l k : ℕ} {b : Base} {es : Exprs} {ts a c rest : List Token}
        → Begins (Word w.New) l ts a → IsBase a k b c → IsArguments c es rest
        → IsUnary ts (t.new_with l b es) rest
    of_spork : {l : ℕ} {e : Expr} {ts a b rest : List Token}
        → Begins (Word w.Spork) l ts a → Then (Mark m.Tilde) a b → IsPostfix b e rest
        → IsUnary ts (t.spork l e) rest

  -- Cast
  pub data IsCast : List Token → Expr → List Token → Type 0 where
    of_unary : {e : Expr} {ts rest : List Token} → IsUnary ts e rest → IsCast ts e rest
    of_cast : {e : Expr} {k : TypeName} {ts a b rest : List Token}
        → IsCast ts e a → Then (Mark m.Dollar) a b → IsType b k rest
        → IsCast ts (t.cast (expr_line e) e k) rest

  -- Cast, or what the levels below n join
  pub data IsLevel : ℕ → List Token → Expr → List Token → Type 0 where
    of_operand : {e : Expr} {ts rest : List Token} → IsCast ts e rest → IsLevel zero ts e rest
    of_tighter : {n : ℕ} {e : Expr} {ts rest : List Token}
        → IsLevel n ts e rest
        → IsLevel (suc n) ts e rest
    of_binary : {n : ℕ} {k : TokenKind} {o : BinaryOp} {e g : Expr} {ts a b rest : List Token}
        → IsLevel (suc n) ts e a → Then k a b → follow k ≡ f.Binary o → level o ≡ n
        → IsLevel n b g rest
        → IsLevel (suc n) ts (t.binary (expr_line e) e o g) rest

  -- Cond
  pub data IsCond : List Token → Expr → List Token → Type 0 where
    of_or : {e : Expr} {ts rest : List Token} → IsLevel 10 ts e rest → IsCond ts e rest
    of_choice : {c e g : Expr} {ts a b x y rest : List Token}
        → IsLevel 10 ts c a → Then (Mark m.Question) a b → IsExpr b e x → Then (Mark m.Colon) x y
        → IsCond y g rest
        → IsCond ts (t.choice (expr_line c) c e g) rest

  -- ('[' Expr? ']')*
  pub data IsBrackets : List Token → Brackets → List Token → Type 0 where
    of_no_brackets : {ts : List Token} → IsBrackets ts no_brackets ts
    of_empty_bracket : {bs : Brackets} {ts a b rest : List Token}
        → IsBrackets ts bs a → Then (Mark m.LeftBracket) a b → Then (Mark m.RightBracket) b rest
        → IsBrackets ts (and_empty bs) rest
    of_bracket : {e : Expr} {bs : Brackets} {ts a b c rest : List Token}
        → IsBrackets ts bs a → Then (Mark m.LeftBracket) a b → IsExpr b e c
        → Then (Mark m.RightBracket) c rest
        → IsBrackets ts (and_size bs e) rest

  -- Declr
  pub data IsDeclr : List Token → Declr → List Token → Type 0 where
    of_declr : {n : t.Name} {bs : Brackets} {ts a rest : List Token}
        → Then (Name n) ts a → IsBrackets a bs rest
        → IsDeclr ts (t.declr n bs) rest
    of_declr_with : {n : t.Name} {es : Exprs} {ts a rest : List Token}
        → Then (Name n) ts a → IsArguments a es rest
        → IsDeclr ts (t.declr_with n es) rest

  -- Operand
  pub data IsOperand : List Token → Expr → List Token → Type 0 where
    of_declare : {l : ℕ} {h : DeclHead} {x : Declr} {ts a rest : List Token}
        → IsHead ts l h a → IsDeclr a x rest
        → IsOperand ts (t.declare l h x) rest
    of_cond : {e : Expr} {ts rest : List Token} → IsCond ts e rest → IsOperand ts e rest

  -- Expr
  pub data IsExpr : List Token → Expr → List Token → Type 0 where
    of_single : {e : Expr} {ts rest : List Token} → IsOperand ts e rest → IsExpr ts e rest
    of_chuck : {k : TokenKind} {o : ChuckOp} {e g : Expr} {ts a b rest : List Token}
        → IsExpr ts e a → Then k a b → follow k ≡ f.Chuck o → IsOperand b g rest
        → IsExpr ts (t.chuck (expr_line e) e o g) rest

-- Declr (',' Declr)+
pub data IsDeclrs : List Token → Declrs → List Token → Type 0 where
  of_two : {x y : Declr} {ts a b rest : List Token}
      → IsDeclr ts x a → Then (Mark m.Comma) a b → IsDeclr b y rest
      → IsDeclrs ts (and_declr (and_declr no_declrs x) y) rest
  of_another : {x : Declr} {xs : Declrs} {ts a b rest : List Token}
      → IsDeclrs ts xs a → Then (Mark m.Comma) a b → IsDeclr b x rest
      → IsDeclrs ts (and_declr xs x) rest

-- ExprStmt
pub data IsExprStmt : List Token → Stmt → List Token → Type 0 where
  of_empty : {l : ℕ} {ts rest : List Token}
      → Begins (Mark m.Semicolon) l ts rest
      → IsExprStmt ts (t.empty l) rest
  of_expr : {e : Expr} {ts a rest : List Token}
      → IsExpr ts e a → Then (Mark m.Semicolon) a rest
      → IsExprStmt ts (t.simple (expr_line e) e) rest
  of_declares : {l : ℕ} {h : DeclHead} {xs : Declrs} {ts a b rest : List Token}
      → IsHead ts l h a → IsDeclrs a xs b → Then (Mark m.Semicolon) b rest
      → IsExprStmt ts (t.declares l h xs) rest

-- '(' Expr ')'
pub data IsTest : List Token → Expr → List Token → Type 0 where
  of_test : {e : Expr} {ts a b rest : List Token}
      → Then (Mark m.LeftParen) ts a → IsExpr a e b → Then (Mark m.RightParen) b rest
      → IsTest ts e rest

-- Expr?
pub data IsMaybe : List Token → Option Expr → List Token → Type 0 where
  of_none : {ts : List Token} → IsMaybe ts None ts
  of_some : {e : Expr} {ts rest : List Token} → IsExpr ts e rest → IsMaybe ts (Some e) rest

mutual
  -- Stmt
  pub data IsStmt : List Token → Stmt → List Token → Type 0 where
    of_block : {l : ℕ} {ss : Stmts} {ts a b rest : List Token}
        → Begins (Mark m.LeftBrace) l ts a → IsStmts a ss b → Then (Mark m.RightBrace) b rest
        → IsStmt ts (t.block l ss) rest
    of_expr_stmt : {s : Stmt} {ts rest : List Token} → IsExprStmt ts s rest → IsStmt ts s rest
    of_print : {l : ℕ} {es : Exprs} {ts a b c rest : List Token}
        → Begins (Mark m.PrintOpen) l ts a → IsExprs a es b → Then (Mark m.PrintClose) b c
        → Then (Mark m.Semicolon) c rest
        → IsStmt ts (t.print l es) rest
    of_if : {l : ℕ} {e : Expr} {s : Stmt} {ts a b rest : List Token}
        → Begins (Word w.If) l ts a → IsTest a e b → IsStmt b s rest
        → has (a_word w.Else) rest ≡ false
        → IsStmt ts (t.if_then l e s) rest
    of_if_else : {l : ℕ} {e : Expr} {s r : Stmt} {ts a b c d rest : List Token}
        → Begins (Word w.If) l ts a → IsTest a e b → IsStmt b s c → Then (Word w.Else) c d
        → IsStmt d r rest
        → IsStmt ts (t.if_else l e s r) rest
    of_while : {l : ℕ} {e : Expr} {s : Stmt} {ts a b rest : List Token}
        → Begins (Word w.While) l ts a → IsTest a e b → IsStmt b s rest
        → IsStmt ts (t.while_do l e s) rest
    of_until : {l : ℕ} {e : Expr} {s : Stmt} {ts a b rest : List Token}
        → Begins (Word w.Until) l ts a → IsTest a e b → IsStmt b s rest
        → IsStmt ts (t.until_do l e s) rest
    of_do_while : {l : ℕ} {e : Expr} {s : Stmt} {ts a b c d rest : List Token}
        → Begins (Word w.Do) l ts a → IsStmt a s b → Then (Word w.While) b c → IsTest c e d
        → Then (Mark m.Semicolon) d rest
        → IsStmt ts (t.do_while l s e) rest
    of_do_until : {l : ℕ} {e : Expr} {s : Stmt} {ts a b c d rest : List Token}
        → Begins (Word w.Do) l ts a → IsStmt a s b → Then (Word w.Until) b c → IsTest c e d
        → Then (Mark m.Semicolon) d rest
        → IsStmt ts (t.do_until l s e) rest
    of_for : {l : ℕ} {x y s : Stmt} {e : Option Expr} {ts a b c d g h rest : List Token}
        → Begins (Word w.For) l ts a → Then (Mark m.LeftParen) a b → IsExprStmt b x c
        → IsExprStmt c y d → IsMaybe d e g → Then (Mark m.RightParen) g h → IsStmt h s rest
        → IsStmt ts (t.for_do l x y e s) rest
    of_for_each : {l k q : ℕ} {b : Option Base} {r : Bool} {n : t.Name} {e : Expr} {s : Stmt}
        {ts a c d f g h i j o rest : List Token}
        → Begins (Word w.For) l ts a → Then (Mark m.LeftParen) a c → IsHeadBase c k b d
        → IsAt d r f → Then (Name n) f g → IsPairs g q h → Then (Mark m.Colon) h i → IsExpr i e j
        → Then (Mark m.RightParen) j o → IsStmt o s rest
        → IsStmt ts
        (t.for_each l (record { is_static = false; base = b; is_reference = r }) n q e s) rest
    of_repeat : {l : ℕ} {e : Expr} {s : Stmt} {ts a b rest : List Token}
        → Begins (Word w.Repeat) l ts a → IsTest a e b → IsStmt b s rest
        → IsStmt ts (t.repeat l e s) rest
    of_break : {l : ℕ} {ts a rest : List Token}
        → Begins (Word w.Break) l ts a → Then (Mark m.Semicolon) a rest
        → IsStmt ts (t.break l) rest
    of_continue : {l : ℕ} {ts a rest : List Token}
        → Begins (Word w.Continue) l ts a → Then (Mark m.Semicolon) a rest
        → IsStmt ts (t.continue l) rest
    of_return : {l : ℕ} {e : Option Expr} {ts a b rest : List Token}
        → Begins (Word w.Return) l ts a → IsMaybe a e b → Then (Mark m.Semicolon) b rest
        → IsStmt ts (t.return l e) rest

  -- Stmt*
  pub data IsStmts : List Token → Stmts → List Token → Type 0 where
    of_no_stmts : {ts : List Token} → IsStmts ts no_stmts ts
    of_more_stmts : {s : Stmt} {ss : Stmts} {ts a rest : List Token}
        → IsStmts ts ss a → IsStmt a s rest
        → IsStmts ts (and_stmt ss s) rest

-- Block
pub data IsBlock : List Token → Stmts → List Token → Type 0 where
  of_braces : {ss : Stmts} {ts a b rest : List Token}
      → Then (Mark m.LeftBrace) ts a → IsStmts a ss b → Then (Mark m.RightBrace) b rest
      → IsBlock ts ss rest

-- Par
pub data IsParam : List Token → Param → List Token → Type 0 where
  of_param : {k : TypeName} {n : t.Name} {q : ℕ} {ts a b rest : List Token}
      → IsType ts k a → Then (Name n) a b → IsPairs b q rest
      → IsParam ts (record { kind = k; name = n; brackets = q }) rest

-- Par (',' Par)*
pub data IsSomeParams : List Token → Params → List Token → Type 0 where
  of_first_param : {p : Param} {ts rest : List Token}
      → IsParam ts p rest
      → IsSomeParams ts (and_param no_params p) rest
  of_next_param : {p : Param} {ps : Params} {ts a b rest : List Token}
      → IsSomeParams ts ps a → Then (Mark m.Comma) a b → IsParam b p rest
      → IsSomeParams ts (and_param ps p) rest

-- (Par (',' Par)*)?
pub data IsParams : List Token → Params → List Token → Type 0 where
  of_no_params : {ts : List Token} → IsParams ts no_params ts
  of_params : {ps : Params} {ts rest : List Token} → IsSomeParams ts ps rest → IsParams ts ps rest

-- 'static'?
pub data IsStatic : List Token → Bool → List Token → Type 0 where
  of_not_static : {ts : List Token} → IsStatic ts false ts
  of_static_word : {ts rest : List Token} → Then (Word w.Static) ts rest → IsStatic ts true rest

-- FunDef
pub data IsFun : List Token → Fun → List Token → Type 0 where
  of_fun : {l : ℕ} {s : Bool} {k : TypeName} {n : t.Name} {ps : Params} {ss : Stmts}
      {ts a b c d g h i rest : List Token}
      → Begins (Word w.Fun) l ts a → IsStatic a s b → IsType b k c → Then (Name n) c d
      → Then (Mark m.LeftParen) d g → IsParams g ps h → Then (Mark m.RightParen) h i
      → IsBlock i ss rest
      → IsFun ts (t.fun l s k n ps ss) rest
  of_constructor : {l : ℕ} {ps : Params} {ss : Stmts} {ts a b c d g h rest : List Token}
      → Begins (Word w.Fun) l ts a → Then (Mark m.At) a b → Then (Name construct) b c
      → Then (Mark m.LeftParen) c d → IsParams d ps g → Then (Mark m.RightParen) g h
      → IsBlock h ss rest
      → IsFun ts (t.constructor l ps ss) rest

-- FunDef | Stmt
pub data IsMember : List Token → Member → List Token → Type 0 where
  of_fun_member : {x : Fun} {ts rest : List Token}
      → IsFun ts x rest
      → IsMember ts (t.fun_member x) rest
  of_stmt_member : {s : Stmt} {ts rest : List Token}
      → IsStmt ts s rest
      → IsMember ts (t.stmt_member s) rest

-- (FunDef | Stmt)*
pub data IsMembers : List Token → Members → List Token → Type 0 where
  of_no_members : {ts : List Token} → IsMembers ts no_members ts
  of_more_members : {x : Member} {xs : Members} {ts a rest : List Token}
      → IsMembers ts xs a → IsMember a x rest
      → IsMembers ts (and_member xs x) rest

-- 'public'? 'class', with the line where it stands
pub data IsClassWord : List Token → ℕ → Bool → List Token → Type 0 where
  of_class_word : {l : ℕ} {ts rest : List Token}
      → Begins (Word w.Class) l ts rest
      → IsClassWord ts l false rest
  of_public_class : {l : ℕ} {ts a rest : List Token}
      → Begins (Word w.Public) l ts a → Then (Word w.Class) a rest
      → IsClassWord ts l true rest

-- ('extends' Name)?
pub data IsParent : List Token → Option t.Name → List Token → Type 0 where
  of_no_parent : {ts : List Token} → IsParent ts None ts
  of_extends : {n : t.Name} {ts a rest : List Token}
      → Then (Word w.Extends) ts a → Then (Name n) a rest
      → IsParent ts (Some n) rest

-- ClassDef
pub data IsClass : List Token → Class → List Token → Type 0 where
  of_class_def : {l : ℕ} {p : Bool} {n : t.Name} {parent : Option t.Name} {xs : Members}
      {ts a b c d g rest : List Token}
      → IsClassWord ts l p a → Then (Name n) a b → IsParent b parent c → Then (Mark m.LeftBrace) c d
      → IsMembers d xs g → Then (Mark m.RightBrace) g rest
      → IsClass ts (t.class l p n parent xs) rest

-- Item
pub data IsItem : List Token → Item → List Token → Type 0 where
  of_class_item : {x : Class} {ts rest : List Token}
      → IsClass ts x rest
      → IsItem ts (t.class_item x) rest
  of_fun_item : {x : Fun} {ts rest : List Token} → IsFun ts x rest → IsItem ts (t.fun_item x) rest
  of_stmt_item : {s : Stmt} {ts rest : List Token}
      → IsStmt ts s rest
      → IsItem ts (t.stmt_item s) rest

-- Item*
pub data IsItems : List Token → File → List Token → Type 0 where
  of_no_items : {ts : List Token} → IsItems ts no_items ts
  of_more_items : {x : Item} {xs : File} {ts a rest : List Token}
      → IsItems ts xs a → IsItem a x rest
      → IsItems ts (and_item xs x) rest

-- File: all of the tokens
pub data IsFile : List Token → File → Type 0 where
  of_file : {x : File} {ts a : List Token} → IsItems ts x a → Then End a [] → IsFile ts x

-- some file's tokens begin with these
abbrev pub IsViable : List Token → Type 0
IsViable ts = (more : List Token) × (x : File) × IsFile (ts ++ more) x
