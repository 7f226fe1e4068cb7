-- What a token is to the grammar.
use Rattle.std.specs.Prelude.{ℕ, List, [], ◌∷◌, Bool, false, ◌==◌, codes}
use Rattle.std.specs.Str.{bytes_eq}
use Rattle.ck_lexer.specs.declared.mark.Mark.{Mark as AMark}
use Rattle.ck_lexer.specs.declared.mark.Mark.TheVariants as m
use Rattle.ck_lexer.specs.declared.token.Token.{Token}
use Rattle.ck_lexer.specs.declared.token.TokenKind.{TokenKind}
use Rattle.ck_lexer.specs.declared.token.TokenKind.TheVariants.{Word, Name, Int, Float, Text, End}
use Rattle.ck_lexer.specs.declared.token.TokenKind.TheVariants as kind
use Rattle.ck_lexer.specs.declared.word.Word.{Word as AWord}
use Rattle.ck_lexer.specs.declared.word.Word.TheVariants as w
use Rattle.parse_exprs.specs.declared.follow.Follow.{Follow}
use Rattle.parse_exprs.specs.declared.follow.Follow.TheVariants as f
use Rattle.ck_syntax.specs.Tree as t
use Rattle.ck_syntax.specs.declared.declaration.Base.{Base}
use Rattle.ck_syntax.specs.declared.declaration.Base.TheVariants as base
use Rattle.ck_syntax.specs.declared.operator.BinaryOp.{BinaryOp}
use Rattle.ck_syntax.specs.declared.operator.BinaryOp.TheVariants as binary
use Rattle.ck_syntax.specs.declared.operator.ChuckOp.TheVariants as chuck
use Rattle.ck_syntax.specs.declared.operator.Constant.TheVariants as constant
use Rattle.ck_syntax.specs.declared.operator.PostfixOp.TheVariants as postfix
use Rattle.ck_syntax.specs.declared.operator.PrefixOp.{PrefixOp}
use Rattle.ck_syntax.specs.declared.operator.PrefixOp.TheVariants as prefix
use Rattle.ck_syntax.specs.declared.operator.TimeUnit.TheVariants as time_unit

-- ts is a token of this kind and line, and then rest
pub data Begins : TokenKind → ℕ → List Token → List Token → Type 0 where
  begins : {k : TokenKind} {l a : ℕ} {rest : List Token}
      → Begins k l (record { kind = k; line = l; at = a } ∷ rest) rest

-- ts is a token of this kind, and then rest
pub data Then : TokenKind → List Token → List Token → Type 0 where
  then : {k : TokenKind} {l a : ℕ} {rest : List Token}
      → Then k (record { kind = k; line = l; at = a } ∷ rest) rest

-- What a token begins, as the first one of an expression, a statement or an item.
pub data Opening : Type 0 where
  atom : t.Expr → Opening
  named : t.Name → Opening
  prefixed : PrefixOp → Opening
  based : Base → Opening
  opens_paren : Opening
  opens_array : Opening
  opens_new : Opening
  opens_spork : Opening
  opens_static : Opening
  opens_auto : Opening
  opens_block : Opening
  opens_empty : Opening
  opens_print : Opening
  opens_if : Opening
  opens_while : Opening
  opens_until : Opening
  opens_do : Opening
  opens_for : Opening
  opens_repeat : Opening
  opens_break : Opening
  opens_continue : Opening
  opens_return : Opening
  opens_fun : Opening
  opens_class : Opening
  opens_public : Opening
  opens_nothing : Opening

-- what a token of this line and kind begins
abbrev pub opening : ℕ → TokenKind → Opening
opening l (Int v) = atom (t.int l v)
opening l (Float v) = atom (t.float l v)
opening l (Text v) = atom (t.text l v)
opening l (Name n) = named n
opening l (Word w.True) = atom (t.constant l constant.True)
opening l (Word w.False) = atom (t.constant l constant.False)
opening l (Word w.Null) = atom (t.constant l constant.Null)
opening l (Word w.Now) = atom (t.constant l constant.Now)
opening l (Word w.Me) = atom (t.constant l constant.Me)
opening l (Word w.Dac) = atom (t.constant l constant.Dac)
opening l (Word w.Blackhole) = atom (t.constant l constant.Blackhole)
opening l (Word w.This) = atom (t.constant l constant.This)
opening l (Word w.Samp) = atom (t.time_unit l time_unit.Samp)
opening l (Word w.Ms) = atom (t.time_unit l time_unit.Ms)
opening l (Word w.Second) = atom (t.time_unit l time_unit.Second)
opening l (Word w.Minute) = atom (t.time_unit l time_unit.Minute)
opening l (Word w.Hour) = atom (t.time_unit l time_unit.Hour)
opening l (Word w.Day) = atom (t.time_unit l time_unit.Day)
opening l (Word w.Week) = atom (t.time_unit l time_unit.Week)
opening l (Word w.Int) = based base.Int
opening l (Word w.Float) = based base.Float
opening l (Word w.Dur) = based base.Dur
opening l (Word w.Time) = based base.Time
opening l (Word w.String) = based base.String
opening l (Word w.Void) = based base.Void
opening l (kind.Mark m.Minus) = prefixed prefix.Negate
opening l (kind.Mark m.Bang) = prefixed prefix.Not
opening l (kind.Mark m.PlusPlus) = prefixed prefix.Increment
opening l (kind.Mark m.MinusMinus) = prefixed prefix.Decrement
opening l (kind.Mark m.LeftParen) = opens_paren
opening l (kind.Mark m.LeftBracket) = opens_array
opening l (Word w.New) = opens_new
opening l (Word w.Spork) = opens_spork
opening l (Word w.Static) = opens_static
opening l (Word w.Auto) = opens_auto
opening l (kind.Mark m.LeftBrace) = opens_block
opening l (kind.Mark m.Semicolon) = opens_empty
opening l (kind.Mark m.PrintOpen) = opens_print
opening l (Word w.If) = opens_if
opening l (Word w.While) = opens_while
opening l (Word w.Until) = opens_until
opening l (Word w.Do) = opens_do
opening l (Word w.For) = opens_for
opening l (Word w.Repeat) = opens_repeat
opening l (Word w.Break) = opens_break
opening l (Word w.Continue) = opens_continue
opening l (Word w.Return) = opens_return
opening l (Word w.Fun) = opens_fun
opening l (Word w.Class) = opens_class
opening l (Word w.Public) = opens_public
opening l _ = opens_nothing

-- how a token goes on with the expression before it
abbrev pub follow : TokenKind → Follow
follow (kind.Mark m.LeftParen) = f.Call
follow (kind.Mark m.LeftBracket) = f.Index
follow (kind.Mark m.Dot) = f.Member
follow (kind.Mark m.PlusPlus) = f.Postfix postfix.Increment
follow (kind.Mark m.MinusMinus) = f.Postfix postfix.Decrement
follow (kind.Mark m.ColonColon) = f.Dur
follow (kind.Mark m.Dollar) = f.Cast
follow (kind.Mark m.Question) = f.Cond
follow (kind.Mark m.PipePipe) = f.Binary binary.OrElse
follow (kind.Mark m.AmpersandAmpersand) = f.Binary binary.AndAlso
follow (kind.Mark m.Pipe) = f.Binary binary.Or
follow (kind.Mark m.Caret) = f.Binary binary.Xor
follow (kind.Mark m.Ampersand) = f.Binary binary.And
follow (kind.Mark m.EqualEqual) = f.Binary binary.Equal
follow (kind.Mark m.BangEqual) = f.Binary binary.NotEqual
follow (kind.Mark m.Less) = f.Binary binary.Less
follow (kind.Mark m.Greater) = f.Binary binary.Greater
follow (kind.Mark m.LessEqual) = f.Binary binary.LessEqual
follow (kind.Mark m.GreaterEqual) = f.Binary binary.GreaterEqual
follow (kind.Mark m.LessLess) = f.Binary binary.ShiftLeft
follow (kind.Mark m.GreaterGreater) = f.Binary binary.ShiftRight
follow (kind.Mark m.Plus) = f.Binary binary.Add
follow (kind.Mark m.Minus) = f.Binary binary.Sub
follow (kind.Mark m.Star) = f.Binary binary.Mul
follow (kind.Mark m.Slash) = f.Binary binary.Div
follow (kind.Mark m.Percent) = f.Binary binary.Mod
follow (kind.Mark m.Chuck) = f.Chuck chuck.Chuck
follow (kind.Mark m.AtChuck) = f.Chuck chuck.Assign
follow (kind.Mark m.PlusChuck) = f.Chuck chuck.Add
follow (kind.Mark m.MinusChuck) = f.Chuck chuck.Sub
follow (kind.Mark m.StarChuck) = f.Chuck chuck.Mul
follow (kind.Mark m.SlashChuck) = f.Chuck chuck.Div
follow (kind.Mark m.PercentChuck) = f.Chuck chuck.Mod
follow (kind.Mark m.AmpersandChuck) = f.Chuck chuck.And
follow (kind.Mark m.PipeChuck) = f.Chuck chuck.Or
follow (kind.Mark m.CaretChuck) = f.Chuck chuck.Xor
follow (kind.Mark m.Unchuck) = f.Chuck chuck.Unchuck
follow _ = f.Nothing

-- the binary levels, from the tightest, 0, to the loosest, 9
abbrev pub level : BinaryOp → ℕ
level binary.Mul = 0
level binary.Div = 0
level binary.Mod = 0
level binary.Add = 1
level binary.Sub = 1
level binary.ShiftLeft = 2
level binary.ShiftRight = 2
level binary.Less = 3
level binary.Greater = 3
level binary.LessEqual = 3
level binary.GreaterEqual = 3
level binary.Equal = 4
level binary.NotEqual = 4
level binary.And = 5
level binary.Xor = 6
level binary.Or = 7
level binary.AndAlso = 8
level binary.OrElse = 9

-- words and marks by number, so that they can be compared
abbrev pub word_number : AWord → ℕ
word_number w.Int = 0
word_number w.Float = 1
word_number w.Dur = 2
word_number w.Time = 3
word_number w.String = 4
word_number w.Void = 5
word_number w.If = 6
word_number w.Else = 7
word_number w.While = 8
word_number w.Do = 9
word_number w.Until = 10
word_number w.For = 11
word_number w.Repeat = 12
word_number w.Break = 13
word_number w.Continue = 14
word_number w.Return = 15
word_number w.Fun = 16
word_number w.Class = 17
word_number w.Extends = 18
word_number w.Public = 19
word_number w.Static = 20
word_number w.New = 21
word_number w.Spork = 22
word_number w.True = 23
word_number w.False = 24
word_number w.Null = 25
word_number w.Now = 26
word_number w.Me = 27
word_number w.Dac = 28
word_number w.Blackhole = 29
word_number w.This = 30
word_number w.Samp = 31
word_number w.Ms = 32
word_number w.Second = 33
word_number w.Minute = 34
word_number w.Hour = 35
word_number w.Day = 36
word_number w.Week = 37
word_number w.Auto = 38

abbrev pub mark_number : AMark → ℕ
mark_number m.Chuck = 0
mark_number m.AtChuck = 1
mark_number m.PlusChuck = 2
mark_number m.MinusChuck = 3
mark_number m.StarChuck = 4
mark_number m.SlashChuck = 5
mark_number m.PercentChuck = 6
mark_number m.AmpersandChuck = 7
mark_number m.PipeChuck = 8
mark_number m.CaretChuck = 9
mark_number m.Unchuck = 10
mark_number m.PlusPlus = 11
mark_number m.MinusMinus = 12
mark_number m.Plus = 13
mark_number m.Minus = 14
mark_number m.Star = 15
mark_number m.Slash = 16
mark_number m.Percent = 17
mark_number m.ColonColon = 18
mark_number m.EqualEqual = 19
mark_number m.BangEqual = 20
mark_number m.Less = 21
mark_number m.Greater = 22
mark_number m.LessEqual = 23
mark_number m.GreaterEqual = 24
mark_number m.AmpersandAmpersand = 25
mark_number m.PipePipe = 26
mark_number m.Ampersand = 27
mark_number m.Pipe = 28
mark_number m.Caret = 29
mark_number m.LessLess = 30
mark_number m.GreaterGreater = 31
mark_number m.PrintOpen = 32
mark_number m.PrintClose = 33
mark_number m.Bang = 34
mark_number m.Tilde = 35
mark_number m.Question = 36
mark_number m.Colon = 37
mark_number m.Semicolon = 38
mark_number m.Comma = 39
mark_number m.Dot = 40
mark_number m.LeftParen = 41
mark_number m.RightParen = 42
mark_number m.LeftBracket = 43
mark_number m.RightBracket = 44
mark_number m.LeftBrace = 45
mark_number m.RightBrace = 46
mark_number m.At = 47
mark_number m.Dollar = 48

-- the name of a constructor
abbrev pub construct : t.Name
construct = codes "construct"

-- a word, a mark, or the name of a constructor
pub data Sign : Type 0 where
  a_word : AWord → Sign
  a_mark : AMark → Sign
  a_construct : Sign

abbrev pub kind_of : Sign → TokenKind
kind_of (a_word x) = Word x
kind_of (a_mark x) = kind.Mark x
kind_of a_construct = Name construct

-- whether a token is that word, mark or name
abbrev pub is_sign : TokenKind → Sign → Bool
is_sign (Word x) (a_word y) = word_number x == word_number y
is_sign (kind.Mark x) (a_mark y) = mark_number x == mark_number y
is_sign (Name n) a_construct = bytes_eq n construct
is_sign _ _ = false

-- whether that word, mark or name comes next
abbrev pub has : Sign → List Token → Bool
has j [] = false
has j (t ∷ ts) = is_sign t.kind j
