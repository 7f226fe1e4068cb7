-- The words of an instruction as the code holds them.
use Rattle.std.specs.Prelude.{ℕ, List, [], ◌∷◌, length, map, decimal}
use Rattle.std.specs.Fmt.{signed_decimal}
use Rattle.ck_typed.specs.declared.class.Class.{Class}
use Rattle.ck_store.specs.Prints.{kind_name}
use Rattle.code_listing.specs.declared.words.Argument.{Argument}
use Rattle.code_listing.specs.declared.words.Argument.TheVariants.{Number, Count, Signed, Word}
use Rattle.code_listing.specs.declared.words.Words.{Words}
use Rattle.code_listing.specs.declared.words.Words.TheVariants.{Alone, One, Two, Kinds}

-- an argument as a word
abbrev pub argument_word : Argument → List ℕ
argument_word (Number n) = decimal n
argument_word (Count n) = decimal n
argument_word (Signed n) = signed_decimal n
argument_word (Word word) = word.now

-- the words that these stand for
abbrev pub words_meant : List Class → Words → List (List ℕ)
words_meant classes (Alone name) = name.now ∷ []
words_meant classes (One name a) = name.now ∷ argument_word a ∷ []
words_meant classes (Two name a b) = name.now ∷ argument_word a ∷ argument_word b ∷ []
words_meant classes (Kinds name kinds) =
    name.now ∷ decimal (length kinds.now) ∷ map (kind_name classes) kinds.now
