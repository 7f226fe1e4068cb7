-- The words and the marks of the language with their spellings, and how a spelling is looked up.
use Rattle.std.specs.Prelude.{ℕ, List, [], ◌∷◌, length, nat_eq, codes, Option, Some, None, if◌then◌else◌}
use Rattle.std.specs.List.{starts_with}
use Rattle.std.specs.Str.{bytes_eq}
use Rattle.ck_lexer.specs.declared.mark.Mark.{Mark}
use Rattle.ck_lexer.specs.declared.mark.Mark.TheVariants as mark
use Rattle.ck_lexer.specs.declared.word.Word.{Word}
use Rattle.ck_lexer.specs.declared.word.Word.TheVariants as word

-- what stands in a table beside this spelling
abbrev pub look_up : {A : Type 0} → List (List ℕ × A) → List ℕ → Option A
look_up [] w = None
look_up (row ∷ rows) w = if bytes_eq row.0 w then Some row.1 else look_up rows w

-- the first row whose spelling these bytes begin with, and how long it is
abbrev pub first_front : {A : Type 0} → List (List ℕ × A) → List ℕ → Option (A × ℕ)
first_front [] bytes = None
first_front (row ∷ rows) bytes =
    if starts_with nat_eq bytes row.0 then Some (row.1, length row.0) else first_front rows bytes

-- the words; `fun` and `null` have two spellings
unfoldable pub words : List (List ℕ × Word)
words =
    (codes "int", word.Int) ∷
    (codes "float", word.Float) ∷
    (codes "dur", word.Dur) ∷
    (codes "time", word.Time) ∷
    (codes "string", word.String) ∷
    (codes "void", word.Void) ∷
    (codes "if", word.If) ∷
    (codes "else", word.Else) ∷
    (codes "while", word.While) ∷
    (codes "do", word.Do) ∷
    (codes "until", word.Until) ∷
    (codes "for", word.For) ∷
    (codes "repeat", word.Repeat) ∷
    (codes "break", word.Break) ∷
    (codes "continue", word.Continue) ∷
    (codes "return", word.Return) ∷
    (codes "fun", word.Fun) ∷
    (codes "function", word.Fun) ∷
    (codes "class", word.Class) ∷
    (codes "extends", word.Extends) ∷
    (codes "public", word.Public) ∷
    (codes "static", word.Static) ∷
    (codes "new", word.New) ∷
    (codes "spork", word.Spork) ∷
    (codes "true", word.True) ∷
    (codes "false", word.False) ∷
    (codes "null", word.Null) ∷
    (codes "NULL", word.Null) ∷
    (codes "now", word.Now) ∷
    (codes "me", word.Me) ∷
    (codes "dac", word.Dac) ∷
    (codes "blackhole", word.Blackhole) ∷
    (codes "this", word.This) ∷
    (codes "samp", word.Samp) ∷
    (codes "ms", word.Ms) ∷
    (codes "second", word.Second) ∷
    (codes "minute", word.Minute) ∷
    (codes "hour", word.Hour) ∷
    (codes "day", word.Day) ∷
    (codes "week", word.Week) ∷
    (codes "auto", word.Auto) ∷ []

-- the marks, the longer ones first
unfoldable pub marks : List (List ℕ × Mark)
marks =
    (codes "@=>", mark.AtChuck) ∷
    (codes "+=>", mark.PlusChuck) ∷
    (codes "-=>", mark.MinusChuck) ∷
    (codes "*=>", mark.StarChuck) ∷
    (codes "/=>", mark.SlashChuck) ∷
    (codes "%=>", mark.PercentChuck) ∷
    (codes "&=>", mark.AmpersandChuck) ∷
    (codes "|=>", mark.PipeChuck) ∷
    (codes "^=>", mark.CaretChuck) ∷
    (codes "<<<", mark.PrintOpen) ∷
    (codes ">>>", mark.PrintClose) ∷
    (codes "=>", mark.Chuck) ∷
    (codes "=<", mark.Unchuck) ∷
    (codes "++", mark.PlusPlus) ∷
    (codes "--", mark.MinusMinus) ∷
    (codes "::", mark.ColonColon) ∷
    (codes "==", mark.EqualEqual) ∷
    (codes "!=", mark.BangEqual) ∷
    (codes "<=", mark.LessEqual) ∷
    (codes ">=", mark.GreaterEqual) ∷
    (codes "&&", mark.AmpersandAmpersand) ∷
    (codes "||", mark.PipePipe) ∷
    (codes "<<", mark.LessLess) ∷
    (codes ">>", mark.GreaterGreater) ∷
    (codes "+", mark.Plus) ∷
    (codes "-", mark.Minus) ∷
    (codes "*", mark.Star) ∷
    (codes "/", mark.Slash) ∷
    (codes "%", mark.Percent) ∷
    (codes "<", mark.Less) ∷
    (codes ">", mark.Greater) ∷
    (codes "&", mark.Ampersand) ∷
    (codes "|", mark.Pipe) ∷
    (codes "^", mark.Caret) ∷
    (codes "!", mark.Bang) ∷
    (codes "~", mark.Tilde) ∷
    (codes "?", mark.Question) ∷
    (codes ":", mark.Colon) ∷
    (codes ";", mark.Semicolon) ∷
    (codes ",", mark.Comma) ∷
    (codes ".", mark.Dot) ∷
    (codes "(", mark.LeftParen) ∷
    (codes ")", mark.RightParen) ∷
    (codes "[", mark.LeftBracket) ∷
    (codes "]", mark.RightBracket) ∷
    (codes "{", mark.LeftBrace) ∷
    (codes "}", mark.RightBrace) ∷
    (codes "@", mark.At) ∷
    (codes "$", mark.Dollar) ∷ []
