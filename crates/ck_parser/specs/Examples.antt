-- Short files, each token on line 1.
use Rattle.std.specs.Prelude.{List, [], ◌∷◌, Some, false, pos}
use Rattle.ck_lexer.specs.declared.mark.Mark.TheVariants as m
use Rattle.ck_lexer.specs.declared.token.Token.{Token}
use Rattle.ck_lexer.specs.declared.token.TokenKind.{TokenKind}
use Rattle.ck_lexer.specs.declared.token.TokenKind.TheVariants.{Word, Mark, Name, Int, End}
use Rattle.ck_lexer.specs.declared.word.Word.TheVariants as w
use Rattle.ck_syntax.specs.Tree as t
use Rattle.ck_syntax.specs.declared.declaration.Base.TheVariants as base
use Rattle.ck_syntax.specs.declared.operator.BinaryOp.TheVariants as binary
use Rattle.ck_syntax.specs.declared.operator.ChuckOp.TheVariants as chuck
use Rattle.ck_syntax.specs.declared.operator.PrefixOp.TheVariants as prefix

abbrev pub one : TokenKind → Token
one k = record { kind = k; line = 1; at = 0 }

-- `1 => int a; 0 => int b; if (a) if (b) <<<1>>>; else <<<2>>>;`
abbrev pub nested_if : List Token
nested_if = one (Int (pos 1)) ∷ one (Mark m.Chuck) ∷ one (Word w.Int) ∷ one (Name (97 ∷ []))
    ∷ one (Mark m.Semicolon) ∷ one (Int (pos 0)) ∷ one (Mark m.Chuck) ∷ one (Word w.Int)
    ∷ one (Name (98 ∷ [])) ∷ one (Mark m.Semicolon) ∷ one (Word w.If) ∷ one (Mark m.LeftParen)
    ∷ one (Name (97 ∷ [])) ∷ one (Mark m.RightParen) ∷ one (Word w.If) ∷ one (Mark m.LeftParen)
    ∷ one (Name (98 ∷ [])) ∷ one (Mark m.RightParen) ∷ one (Mark m.PrintOpen)
    ∷ one (Int (pos 1)) ∷ one (Mark m.PrintClose) ∷ one (Mark m.Semicolon) ∷ one (Word w.Else)
    ∷ one (Mark m.PrintOpen) ∷ one (Int (pos 2)) ∷ one (Mark m.PrintClose)
    ∷ one (Mark m.Semicolon) ∷ one (End) ∷ []

-- the same, cut after `else`
abbrev pub cut_if : List Token
cut_if = one (Int (pos 1)) ∷ one (Mark m.Chuck) ∷ one (Word w.Int) ∷ one (Name (97 ∷ []))
    ∷ one (Mark m.Semicolon) ∷ one (Int (pos 0)) ∷ one (Mark m.Chuck) ∷ one (Word w.Int)
    ∷ one (Name (98 ∷ [])) ∷ one (Mark m.Semicolon) ∷ one (Word w.If) ∷ one (Mark m.LeftParen)
    ∷ one (Name (97 ∷ [])) ∷ one (Mark m.RightParen) ∷ one (Word w.If) ∷ one (Mark m.LeftParen)
    ∷ one (Name (98 ∷ [])) ∷ one (Mark m.RightParen) ∷ one (Mark m.PrintOpen)
    ∷ one (Int (pos 1)) ∷ one (Mark m.PrintClose) ∷ one (Mark m.Semicolon) ∷ one (Word w.Else)
    ∷ one (End) ∷ []

-- `-a.b * c + c;`
abbrev pub member_first : List Token
member_first = one (Mark m.Minus) ∷ one (Name (97 ∷ [])) ∷ one (Mark m.Dot)
    ∷ one (Name (98 ∷ [])) ∷ one (Mark m.Star) ∷ one (Name (99 ∷ [])) ∷ one (Mark m.Plus)
    ∷ one (Name (99 ∷ [])) ∷ one (Mark m.Semicolon) ∷ one (End) ∷ []

-- `a[0] => -b;`
abbrev pub indexed : List Token
indexed = one (Name (97 ∷ [])) ∷ one (Mark m.LeftBracket) ∷ one (Int (pos 0))
    ∷ one (Mark m.RightBracket) ∷ one (Mark m.Chuck) ∷ one (Mark m.Minus) ∷ one (Name (98 ∷ []))
    ∷ one (Mark m.Semicolon) ∷ one (End) ∷ []

-- `1 + ;`
abbrev pub unfinished : List Token
unfinished = one (Int (pos 1)) ∷ one (Mark m.Plus) ∷ one (Mark m.Semicolon) ∷ one (End) ∷ []

-- the `else` belongs to the inner `if`
abbrev pub nested_if_tree : t.File
nested_if_tree = t.and_item (t.and_item (t.and_item t.no_items
    (t.stmt_item (t.simple 1 (t.chuck 1 (t.int 1 (pos 1)) chuck.Chuck
    (t.declare 1 (record { is_static = false; base = Some base.Int; is_reference = false })
    (t.declr (97 ∷ []) t.no_brackets)))))) (t.stmt_item
    (t.simple 1 (t.chuck 1 (t.int 1 (pos 0)) chuck.Chuck
    (t.declare 1 (record { is_static = false; base = Some base.Int; is_reference = false })
    (t.declr (98 ∷ []) t.no_brackets)))))) (t.stmt_item
    (t.if_then 1 (t.name 1 (97 ∷ [])) (t.if_else 1 (t.name 1 (98 ∷ []))
    (t.print 1 (t.and_expr t.no_exprs (t.int 1 (pos 1))))
    (t.print 1 (t.and_expr t.no_exprs (t.int 1 (pos 2)))))))

-- a member binds tighter than a prefix, that tighter than `*`, that tighter than `+`
abbrev pub member_first_tree : t.File
member_first_tree = t.and_item t.no_items (t.stmt_item
    (t.simple 1 (t.binary 1 (t.binary 1 (t.prefix 1 prefix.Negate
    (t.member 1 (t.name 1 (97 ∷ [])) (98 ∷ []))) binary.Mul (t.name 1 (99 ∷ []))) binary.Add
    (t.name 1 (99 ∷ [])))))

abbrev pub indexed_tree : t.File
indexed_tree = t.and_item t.no_items (t.stmt_item
    (t.simple 1 (t.chuck 1 (t.index 1 (t.name 1 (97 ∷ [])) (t.int 1 (pos 0))) chuck.Chuck
    (t.prefix 1 prefix.Negate (t.name 1 (98 ∷ []))))))
