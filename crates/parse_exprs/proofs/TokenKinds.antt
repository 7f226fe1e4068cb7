-- What a kind of token is known by.
use Rattle.std.proofs.Common.{◌≡◌, ℕ, List, ◌∷◌, true, cond, Option, Some, None, refl, sym, ◌∙◌, ap}
use Rattle.std.proofs.Common.{subst, ◌==◌}
use Rattle.std.proofs.lemmas.Bool.{eqb-true}
use Rattle.std.proofs.lemmas.Slice.Eq.{bytes_eq-Decides}
use Rattle.ck_lexer.specs.declared.mark.Mark.{Mark as AMark}
use Rattle.ck_lexer.specs.declared.mark.Mark.TheVariants as m
use Rattle.ck_lexer.specs.declared.token.Token.{Token}
use Rattle.ck_lexer.specs.declared.token.TokenKind.{TokenKind}
use Rattle.ck_lexer.specs.declared.token.TokenKind.TheVariants.{Word, Mark, Name}
use Rattle.ck_lexer.specs.declared.word.Word.{Word as AWord}
use Rattle.ck_lexer.specs.declared.word.Word.TheVariants as w
use Rattle.parse_exprs.specs.declared.follow.Follow.{Follow}
use Rattle.parse_exprs.specs.declared.follow.Follow.TheVariants as f
use Rattle.parse_exprs.specs.Tokens.{Begins, begins, Then, then, Opening, named, opens_paren}
use Rattle.parse_exprs.specs.Tokens.{opens_array, opens_new, opens_spork, opens_static, opens_auto}
use Rattle.parse_exprs.specs.Tokens.{opens_empty}
use Rattle.parse_exprs.specs.Tokens.{opens_block, opens_print, opens_if, opens_while, opens_until}
use Rattle.parse_exprs.specs.Tokens.{opens_do, opens_for, opens_repeat, opens_break, opens_continue}
use Rattle.parse_exprs.specs.Tokens.{opens_return, opens_fun, opens_class, opens_public, opening}
use Rattle.parse_exprs.specs.Tokens.{follow, Sign, a_word, a_mark, a_construct, construct, kind_of}
use Rattle.parse_exprs.specs.Tokens.{word_number}
use Rattle.parse_exprs.specs.Tokens.{mark_number, is_sign}

-- ---- words and marks by their numbers

abbrev word_of : ℕ → AWord
word_of c = (cond (c == 0) w.Int (cond (c == 1) w.Float
    (cond (c == 2) w.Dur (cond (c == 3) w.Time
    (cond (c == 4) w.String (cond (c == 5) w.Void
    (cond (c == 6) w.If (cond (c == 7) w.Else
    (cond (c == 8) w.While (cond (c == 9) w.Do
    (cond (c == 10) w.Until (cond (c == 11) w.For
    (cond (c == 12) w.Repeat (cond (c == 13) w.Break
    (cond (c == 14) w.Continue (cond (c == 15) w.Return
    (cond (c == 16) w.Fun (cond (c == 17) w.Class
    (cond (c == 18) w.Extends (cond (c == 19) w.Public
    (cond (c == 20) w.Static (cond (c == 21) w.New
    (cond (c == 22) w.Spork (cond (c == 23) w.True
    (cond (c == 24) w.False (cond (c == 25) w.Null
    (cond (c == 26) w.Now (cond (c == 27) w.Me
    (cond (c == 28) w.Dac (cond (c == 29) w.Blackhole
    (cond (c == 30) w.This (cond (c == 31) w.Samp
    (cond (c == 32) w.Ms (cond (c == 33) w.Second
    (cond (c == 34) w.Minute (cond (c == 35) w.Hour
    (cond (c == 36) w.Day (cond (c == 37) w.Week w.Auto))))))))))))))))))))))))))))))))))))))

abbrev mark_of : ℕ → AMark
mark_of c = (cond (c == 0) m.Chuck (cond (c == 1) m.AtChuck
    (cond (c == 2) m.PlusChuck (cond (c == 3) m.MinusChuck
    (cond (c == 4) m.StarChuck (cond (c == 5) m.SlashChuck
    (cond (c == 6) m.PercentChuck (cond (c == 7) m.AmpersandChuck
    (cond (c == 8) m.PipeChuck (cond (c == 9) m.CaretChuck
    (cond (c == 10) m.Unchuck (cond (c == 11) m.PlusPlus
    (cond (c == 12) m.MinusMinus (cond (c == 13) m.Plus
    (cond (c == 14) m.Minus (cond (c == 15) m.Star
    (cond (c == 16) m.Slash (cond (c == 17) m.Percent
    (cond (c == 18) m.ColonColon (cond (c == 19) m.EqualEqual
    (cond (c == 20) m.BangEqual (cond (c == 21) m.Less
    (cond (c == 22) m.Greater (cond (c == 23) m.LessEqual
    (cond (c == 24) m.GreaterEqual (cond (c == 25) m.AmpersandAmpersand
    (cond (c == 26) m.PipePipe (cond (c == 27) m.Ampersand
    (cond (c == 28) m.Pipe (cond (c == 29) m.Caret
    (cond (c == 30) m.LessLess (cond (c == 31) m.GreaterGreater
    (cond (c == 32) m.PrintOpen (cond (c == 33) m.PrintClose
    (cond (c == 34) m.Bang (cond (c == 35) m.Tilde
    (cond (c == 36) m.Question (cond (c == 37) m.Colon
    (cond (c == 38) m.Semicolon (cond (c == 39) m.Comma
    (cond (c == 40) m.Dot (cond (c == 41) m.LeftParen
    (cond (c == 42) m.RightParen (cond (c == 43) m.LeftBracket
    (cond (c == 44) m.RightBracket (cond (c == 45) m.LeftBrace
    (cond (c == 46) m.RightBrace (cond (c == 47) m.At
    m.Dollar))))))))))))))))))))))))))))))))))))))))))))))))

word_of-number : (x : AWord) → word_of (word_number x) ≡ x
word_of-number w.Int = refl
word_of-number w.Float = refl
word_of-number w.Dur = refl
word_of-number w.Time = refl
word_of-number w.String = refl
word_of-number w.Void = refl
word_of-number w.If = refl
word_of-number w.Else = refl
word_of-number w.While = refl
word_of-number w.Do = refl
word_of-number w.Until = refl
word_of-number w.For = refl
word_of-number w.Repeat = refl
word_of-number w.Break = refl
word_of-number w.Continue = refl
word_of-number w.Return = refl
word_of-number w.Fun = refl
word_of-number w.Class = refl
word_of-number w.Extends = refl
word_of-number w.Public = refl
word_of-number w.Static = refl
word_of-number w.New = refl
word_of-number w.Spork = refl
word_of-number w.True = refl
word_of-number w.False = refl
word_of-number w.Null = refl
word_of-number w.Now = refl
word_of-number w.Me = refl
word_of-number w.Dac = refl
word_of-number w.Blackhole = refl
word_of-number w.This = refl
word_of-number w.Samp = refl
word_of-number w.Ms = refl
word_of-number w.Second = refl
word_of-number w.Minute = refl
word_of-number w.Hour = refl
word_of-number w.Day = refl
word_of-number w.Week = refl
word_of-number w.Auto = refl

mark_of-number : (x : AMark) → mark_of (mark_number x) ≡ x
mark_of-number m.Chuck = refl
mark_of-number m.AtChuck = refl
mark_of-number m.PlusChuck = refl
mark_of-number m.MinusChuck = refl
mark_of-number m.StarChuck = refl
mark_of-number m.SlashChuck = refl
mark_of-number m.PercentChuck = refl
mark_of-number m.AmpersandChuck = refl
mark_of-number m.PipeChuck = refl
mark_of-number m.CaretChuck = refl
mark_of-number m.Unchuck = refl
mark_of-number m.PlusPlus = refl
mark_of-number m.MinusMinus = refl
mark_of-number m.Plus = refl
mark_of-number m.Minus = refl
mark_of-number m.Star = refl
mark_of-number m.Slash = refl
mark_of-number m.Percent = refl
mark_of-number m.ColonColon = refl
mark_of-number m.EqualEqual = refl
mark_of-number m.BangEqual = refl
mark_of-number m.Less = refl
mark_of-number m.Greater = refl
mark_of-number m.LessEqual = refl
mark_of-number m.GreaterEqual = refl
mark_of-number m.AmpersandAmpersand = refl
mark_of-number m.PipePipe = refl
mark_of-number m.Ampersand = refl
mark_of-number m.Pipe = refl
mark_of-number m.Caret = refl
mark_of-number m.LessLess = refl
mark_of-number m.GreaterGreater = refl
mark_of-number m.PrintOpen = refl
mark_of-number m.PrintClose = refl
mark_of-number m.Bang = refl
mark_of-number m.Tilde = refl
mark_of-number m.Question = refl
mark_of-number m.Colon = refl
mark_of-number m.Semicolon = refl
mark_of-number m.Comma = refl
mark_of-number m.Dot = refl
mark_of-number m.LeftParen = refl
mark_of-number m.RightParen = refl
mark_of-number m.LeftBracket = refl
mark_of-number m.RightBracket = refl
mark_of-number m.LeftBrace = refl
mark_of-number m.RightBrace = refl
mark_of-number m.At = refl
mark_of-number m.Dollar = refl

pub is_that : (k : TokenKind) (j : Sign) → is_sign k j ≡ true → k ≡ kind_of j
is_that (Word x) (a_word y) h = ap Word (sym (word_of-number x)
    ∙ ap word_of (eqb-true (word_number x) (word_number y) h) ∙ word_of-number y)
is_that (Mark x) (a_mark y) h = ap Mark (sym (mark_of-number x)
    ∙ ap mark_of (eqb-true (mark_number x) (mark_number y) h) ∙ mark_of-number y)
is_that (Name n) a_construct h = ap Name ((bytes_eq-Decides n construct).0 h)
is_that _ _ h = cc

-- ---- what opens or goes on by itself has one kind

abbrev plain : Opening → Option TokenKind
plain (named n) = Some (Name n)
plain opens_paren = Some (Mark m.LeftParen)
plain opens_array = Some (Mark m.LeftBracket)
plain opens_new = Some (Word w.New)
plain opens_spork = Some (Word w.Spork)
plain opens_static = Some (Word w.Static)
plain opens_auto = Some (Word w.Auto)
plain opens_block = Some (Mark m.LeftBrace)
plain opens_empty = Some (Mark m.Semicolon)
plain opens_print = Some (Mark m.PrintOpen)
plain opens_if = Some (Word w.If)
plain opens_while = Some (Word w.While)
plain opens_until = Some (Word w.Until)
plain opens_do = Some (Word w.Do)
plain opens_for = Some (Word w.For)
plain opens_repeat = Some (Word w.Repeat)
plain opens_break = Some (Word w.Break)
plain opens_continue = Some (Word w.Continue)
plain opens_return = Some (Word w.Return)
plain opens_fun = Some (Word w.Fun)
plain opens_class = Some (Word w.Class)
plain opens_public = Some (Word w.Public)
plain _ = None

abbrev plain_follow : Follow → Option TokenKind
plain_follow f.Call = Some (Mark m.LeftParen)
plain_follow f.Index = Some (Mark m.LeftBracket)
plain_follow f.Member = Some (Mark m.Dot)
plain_follow f.Dur = Some (Mark m.ColonColon)
plain_follow f.Cast = Some (Mark m.Dollar)
plain_follow f.Cond = Some (Mark m.Question)
plain_follow _ = None

abbrev Matches : TokenKind → Option TokenKind → Type 0
Matches k None = Unit {0}
Matches k (Some j) = k ≡ j

matches_word : (l : ℕ) (x : AWord) → Matches (Word x) (plain (opening l (Word x)))
matches_word l w.New = refl
matches_word l w.Spork = refl
matches_word l w.Static = refl
matches_word l w.Auto = refl
matches_word l w.If = refl
matches_word l w.While = refl
matches_word l w.Until = refl
matches_word l w.Do = refl
matches_word l w.For = refl
matches_word l w.Repeat = refl
matches_word l w.Break = refl
matches_word l w.Continue = refl
matches_word l w.Return = refl
matches_word l w.Fun = refl
matches_word l w.Class = refl
matches_word l w.Public = refl
matches_word l _ = tt

matches_mark : (l : ℕ) (x : AMark) → Matches (Mark x) (plain (opening l (Mark x)))
matches_mark l m.LeftParen = refl
matches_mark l m.LeftBracket = refl
matches_mark l m.LeftBrace = refl
matches_mark l m.Semicolon = refl
matches_mark l m.PrintOpen = refl
matches_mark l _ = tt

matches : (l : ℕ) (k : TokenKind) → Matches k (plain (opening l k))
matches l (Word x) = matches_word l x
matches l (Mark x) = matches_mark l x
matches l (Name n) = refl
matches l _ = tt

matches_follow_mark : (x : AMark) → Matches (Mark x) (plain_follow (follow (Mark x)))
matches_follow_mark m.LeftParen = refl
matches_follow_mark m.LeftBracket = refl
matches_follow_mark m.Dot = refl
matches_follow_mark m.ColonColon = refl
matches_follow_mark m.Dollar = refl
matches_follow_mark m.Question = refl
matches_follow_mark _ = tt

matches_follow : (k : TokenKind) → Matches k (plain_follow (follow k))
matches_follow (Mark x) = matches_follow_mark x
matches_follow _ = tt

-- the kind of a token that opens so
pub opened : (l : ℕ) (k j : TokenKind) (o : Opening) → opening l k ≡ o → plain o ≡ Some j → k ≡ j
opened l k j o h e = subst (Matches k) (ap plain h ∙ e) (matches l k)

pub followed : (k j : TokenKind) (o : Follow) → follow k ≡ o → plain_follow o ≡ Some j → k ≡ j
followed k j o h e = subst (Matches k) (ap plain_follow h ∙ e) (matches_follow k)

-- ---- a first token

pub begins_at : (x : Token) (ts : List Token) (j : TokenKind) → x.kind ≡ j
    → Begins j x.line (x ∷ ts) ts
begins_at x ts j h = subst (λ k. Begins k x.line (x ∷ ts) ts) h begins

pub then_at : (x : Token) (ts : List Token) (j : TokenKind) → x.kind ≡ j → Then j (x ∷ ts) ts
then_at x ts j h = subst (λ k. Then k (x ∷ ts) ts) h then
