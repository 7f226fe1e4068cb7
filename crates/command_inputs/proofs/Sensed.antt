-- Each file says one thing.
use Rattle.std.proofs.Common.{◌≡◌, ℕ, List, [], ◌∷◌, refl, ◌∙◌, ap, subst, codes}
use Rattle.ck_lexer.specs.declared.token.Token.{Token}
use Rattle.ck_lexer.specs.Tokens.{AreTokens, IsFault, with_tokens, with_fault, IsRead}
use Rattle.ck_lexer.proofs.Readings.{one_list, not_both, one_fault}
use Rattle.ck_lexer.proofs.Total.{read}
use Rattle.ck_parser.specs.Depth.{file_depths}
use Rattle.ck_parser.specs.Grammar.{IsFile}
use Rattle.ck_parser.specs.Parse.{AreShallow, IsSyntaxFault, IsDepthFault, StandsAt, Verdict, reads}
use Rattle.ck_parser.specs.Parse.{syntax, too_deep}
use Rattle.ck_parser.proofs.Ends.{ends_of_tokens}
use Rattle.ck_parser.proofs.Faults.{verdict, no_fault}
use Rattle.ck_parser.proofs.PassesFile.{one_tree}
use Rattle.ck_parser.proofs.Verdicts.{one_faulty_place, one_deep_place, faulty_or_deep}
use Rattle.ck_parser.proofs.Verdicts.{tree_or_deep, one_line}
use Rattle.ck_syntax.specs.Tree.{File}
use Rattle.command_inputs.specs.Sense.{Sense, HasTree, HasFault, Says, a_tree, no_token_begins}
use Rattle.command_inputs.specs.Sense.{no_grammar, stands_too_deep, AllSay, none_says, and_says}

-- the verdict of one list of tokens, as a sense
data Judged (ts : List Token) : Sense → Type 0 where
  tree : {x : File} → IsFile ts x → AreShallow (file_depths x) → Judged ts (HasTree x)
  fault : {line : ℕ} → IsSyntaxFault ts line → Judged ts (HasFault line (codes "syntax"))
  deep : {line : ℕ} → IsDepthFault ts line → Judged ts (HasFault line (codes "too deep"))

one_judged : (ts : List Token) (s t : Sense) → Judged ts s → Judged ts t → s ≡ t
one_judged ts s t (tree f a) (tree g b) = ap HasTree (one_tree ts _ _ f g)
one_judged ts s t (tree f a) (fault g) = absurd (no_fault ts _ g.place f g.faulty)
one_judged ts s t (tree f a) (deep g) = absurd (tree_or_deep ts _ g.place _ f a g.too_deep g.stands)
one_judged ts s t (fault f) (tree g b) = absurd (no_fault ts _ f.place g f.faulty)
one_judged ts s t (fault {line} f) (fault {line = on} g) =
    let same = one_faulty_place ts f.place g.place f.faulty g.faulty in
    ap (λ l. HasFault l (codes "syntax"))
    (one_line ts g.place line on (subst (λ k. StandsAt ts k line) same f.stands) g.stands)
one_judged ts s t (fault f) (deep g) =
    absurd (faulty_or_deep ts f.place g.place _ f.faulty g.too_deep g.stands)
one_judged ts s t (deep f) (tree g b) = absurd (tree_or_deep ts _ f.place _ g b f.too_deep f.stands)
one_judged ts s t (deep f) (fault g) =
    absurd (faulty_or_deep ts g.place f.place _ g.faulty f.too_deep f.stands)
one_judged ts s t (deep {line} f) (deep {line = on} g) =
    let same = one_deep_place ts f.place g.place line on f.too_deep g.too_deep f.stands g.stands in
    ap (λ l. HasFault l (codes "too deep"))
    (one_line ts g.place line on (subst (λ k. StandsAt ts k line) same f.stands) g.stands)

-- what a file says is of its tokens, or of a place where none begins
data Sorted (bytes : List ℕ) : Sense → Type 0 where
  of_tokens : {ts : List Token} {s : Sense} → AreTokens bytes ts → Judged ts s → Sorted bytes s
  of_none : {at line : ℕ} → IsFault bytes at line → Sorted bytes (HasFault line (codes "lex"))

sorted : {bytes : List ℕ} {s : Sense} → Says bytes s → Sorted bytes s
sorted (a_tree t f a) = of_tokens t (tree f a)
sorted (no_token_begins f) = of_none f
sorted (no_grammar t f) = of_tokens t (fault f)
sorted (stands_too_deep t f) = of_tokens t (deep f)

one_sorted : (bytes : List ℕ) (s t : Sense) → Sorted bytes s → Sorted bytes t → s ≡ t
one_sorted bytes s t (of_tokens {ts} a j) (of_tokens {ts = us} b k) =
    one_judged us s t (subst (λ l. Judged l s) (one_list bytes ts us a b) j) k
one_sorted bytes s t (of_tokens a j) (of_none f) = absurd (not_both bytes _ _ _ a f)
one_sorted bytes s t (of_none f) (of_tokens a j) = absurd (not_both bytes _ _ _ a f)
one_sorted bytes s t (of_none f) (of_none g) =
    ap (λ l. HasFault l (codes "lex")) (one_fault bytes _ _ _ _ f g).1

pub one_sense : (bytes : List ℕ) (s t : Sense) → Says bytes s → Says bytes t → s ≡ t
one_sense bytes s t a b = one_sorted bytes s t (sorted a) (sorted b)

judged : (bytes : List ℕ) (ts : List Token) → AreTokens bytes ts → Verdict ts
    → (s : Sense) × Says bytes s
judged bytes ts t (reads x f a) = (HasTree x, a_tree t f a)
judged bytes ts t (syntax line f) = (HasFault line (codes "syntax"), no_grammar t f)
judged bytes ts t (too_deep line f) = (HasFault line (codes "too deep"), stands_too_deep t f)

pub a_sense : (bytes : List ℕ) → (s : Sense) × Says bytes s
a_sense bytes = go (read bytes)
  where
    go : IsRead bytes → (s : Sense) × Says bytes s
    go (with_tokens ts t) = judged bytes ts t (verdict ts (ends_of_tokens bytes ts t))
    go (with_fault at line f) = (HasFault line (codes "lex"), no_token_begins f)

-- so do all files
pub all_say : (files : List (List ℕ)) → (senses : List Sense) × AllSay files senses
all_say [] = ([], none_says)
all_say (bytes ∷ files) = let s = a_sense bytes in let rest = all_say files in
    (s.0 ∷ rest.0, and_says s.1 rest.1)

pub one_saying : (files : List (List ℕ)) (ss ts : List Sense) → AllSay files ss → AllSay files ts
    → ss ≡ ts
one_saying [] ss ts none_says none_says = refl
one_saying (bytes ∷ files) (s ∷ ss) (t ∷ ts) (and_says a more) (and_says b others) =
    ap (λ x. x ∷ ss) (one_sense bytes s t a b)
    ∙ ap (λ xs. t ∷ xs) (one_saying files ss ts more others)
one_saying (bytes ∷ files) [] ts say _ = elim say [ ]
one_saying (bytes ∷ files) (s ∷ ss) [] _ say = elim say [ ]
