-- Readings of a file: how they go on, and that there is one.
use Rattle.std.proofs.Common.{◌≡◌, ℕ, suc, zero, ◌+◌, ◌<◌, ◌≤◌, List, [], ◌∷◌, ◌++◌, length, take, drop, true, refl, sym, ◌∙◌, ap, subst, arith, length-drop, count_by}
use Rattle.std.proofs.lemmas.List.{take-append-drop}
use Rattle.ck_lexer.specs.declared.token.Token.{Token}
use Rattle.ck_lexer.specs.declared.token.TokenKind.{TokenKind}
use Rattle.ck_lexer.specs.declared.token.TokenKind.TheVariants as token
use Rattle.ck_lexer.specs.Bytes.{is_space, is_line_end}
use Rattle.ck_lexer.specs.Gaps.{Closes, here, later, Gap, a_space, a_line_comment, a_block_comment}
use Rattle.ck_lexer.specs.Tokens.{IsToken, BeginsNoToken, BeginsNothing, Reads, nothing, a_gap, a_token, token_at, line_at, AreTokens, IsFault}
use Rattle.ck_lexer.proofs.Classes.{first_class, class_space}
use Rattle.ck_lexer.proofs.Fronts.{in_front_class, high-bound}
use Rattle.ck_lexer.proofs.Stands.{same_longest}
use Rattle.ck_lexer.proofs.Lines.{ends, token_in_line, line_at-more}

-- a reading goes on with a gap or a token
pub gap_behind : {bytes : List ℕ} {n m k : ℕ} {ts : List Token} → Reads bytes n ts m → Gap (drop m bytes) k → Reads bytes n ts (m + k)
gap_behind nothing g = a_gap g nothing
gap_behind (a_gap h r) g = a_gap h (gap_behind r g)
gap_behind (a_token t r) g = a_token t (gap_behind r g)

pub token_behind : {bytes : List ℕ} {n m k : ℕ} {ts : List Token} {kind : TokenKind} → Reads bytes n ts m → IsToken (drop m bytes) k kind → Reads bytes n (ts ++ token_at bytes m kind ∷ []) (m + k)
token_behind nothing t = a_token t nothing
token_behind (a_gap h r) t = a_gap h (token_behind r t)
token_behind (a_token u r) t = a_token u (token_behind r t)

-- a comment has one end
same_end : {bs : List ℕ} {n m : ℕ} → Closes bs n → Closes bs m → n ≡ m
same_end here here = refl
same_end here (later h d) = cc
same_end (later h c) here = cc
same_end (later h c) (later g d) = ap suc (same_end c d)

-- a gap has one length
comment_space : (b : ℕ) → is_space 47 ≡ true → ⊥
comment_space b h = cc

same_gap : {bs : List ℕ} {n m : ℕ} → Gap bs n → Gap bs m → n ≡ m
same_gap (a_space h) (a_space g) = refl
same_gap (a_space h) a_line_comment = cc
same_gap (a_space h) (a_block_comment d) = cc
same_gap a_line_comment (a_space g) = cc
same_gap a_line_comment a_line_comment = refl
same_gap (a_block_comment c) (a_space g) = cc
same_gap (a_block_comment c) (a_block_comment d) = ap (λ x. 2 + x) (same_end c d)

-- no gap is also a token
space-class : (b : ℕ) (bs : List ℕ) → is_space b ≡ true → first_class (b ∷ bs) ≡ 5
unfolding first_class
space-class b bs h = class_space b h

gap_token : {bs : List ℕ} {n m : ℕ} {kind : TokenKind} → Gap bs n → IsToken bs m kind → ⊥
gap_token {kind = kind} (a_space {b} {bs} h) t =
    let p = in_front_class (b ∷ bs) (drop _ (b ∷ bs)) (sym (take-append-drop _ (b ∷ bs))) t.form.form in
    let c = space-class b bs h in
    let l = high-bound kind in
    omega (arith, p.1, c, l)
gap_token a_line_comment t = let h = t.no_comment in cc
gap_token (a_block_comment d) t = let h = t.no_comment in cc

-- a place has one token
token_token : {bs : List ℕ} {n m : ℕ} {k j : TokenKind} → IsToken bs n k → IsToken bs m j → (n ≡ m) × (k ≡ j)
token_token t u = let s = same_longest t.form u.form in (s.long, s.kind)

-- readings to places at which nothing begins are one reading
pub same_reading : {bytes : List ℕ} {n m k : ℕ} {ts us : List Token} → Reads bytes n ts m → Reads bytes n us k → BeginsNothing (drop m bytes) → BeginsNothing (drop k bytes) → (ts ≡ us) × (m ≡ k)
same_reading nothing nothing x y = (refl, refl)
same_reading nothing (a_gap g r) x y = absurd (x.no_gap _ g)
same_reading nothing (a_token t r) x y = absurd (x.no_token _ _ t)
same_reading (a_gap g r) nothing x y = absurd (y.no_gap _ g)
same_reading {bytes} {n} {m} {k} {ts} {us} (a_gap {k = l} g r) (a_gap {k = l'} h q) x y =
    same_reading r (subst (λ i. Reads bytes (n + i) us k) (sym (same_gap g h)) q) x y
same_reading (a_gap g r) (a_token t q) x y = absurd (gap_token g t)
same_reading (a_token t r) nothing x y = absurd (y.no_token _ _ t)
same_reading (a_token t r) (a_gap g q) x y = absurd (gap_token g t)
same_reading {bytes} {n} {m} {k} (a_token {k = l} {kind = a} {ts = ts} t r) (a_token {k = l'} {kind = b} {ts = us} u q) x y =
    let s = token_token t u in
    let i = same_reading r (subst (λ i. Reads bytes (n + i) us k) (sym s.0) q) x y in
    (ap (λ j. token_at bytes n j ∷ ts) s.1 ∙ ap (λ v. token_at bytes n b ∷ v) i.0, i.1)

-- at the end of a file nothing begins
no_gap-end : {n : ℕ} → Gap [] n → ⊥
no_gap-end g = elim g [ ]

empty-class : first_class [] ≡ 9
unfolding first_class
empty-class = refl

no_token-end : (n : ℕ) (kind : TokenKind) → IsToken [] n kind → ⊥
no_token-end n kind t =
    let p = in_front_class [] (drop n []) (sym (take-append-drop n [])) t.form.form in
    let l = high-bound kind in
    omega (arith, p.1, empty-class, l)

drop-length : (bs : List ℕ) → drop (length bs) bs ≡ []
drop-length [] = refl
drop-length (b ∷ bs) = drop-length bs

pub nothing_at_end : (bytes : List ℕ) → BeginsNothing (drop (length bytes) bytes)
nothing_at_end bytes = subst BeginsNothing (sym (drop-length bytes)) (record { no_gap = λ n g. no_gap-end g; no_token = no_token-end })

-- a file has one list of tokens, or one fault, and not both
pub one_list : (bytes : List ℕ) (ts us : List Token) → AreTokens bytes ts → AreTokens bytes us → ts ≡ us
one_list bytes ts us t u =
    let s = same_reading t.reads u.reads (nothing_at_end bytes) (nothing_at_end bytes) in
    t.all ∙ ap (λ x. x ++ token_at bytes (length bytes) token.End ∷ []) s.0 ∙ sym u.all

pub not_both : (bytes : List ℕ) (ts : List Token) (at line : ℕ) → AreTokens bytes ts → IsFault bytes at line → ⊥
not_both bytes ts at line t f =
    let s = same_reading t.reads f.reads (nothing_at_end bytes) f.nothing_begins in
    let w = f.within in
    omega (arith, s.1, w)

pub one_fault : (bytes : List ℕ) (at line other on : ℕ) → IsFault bytes at line → IsFault bytes other on → (at ≡ other) × (line ≡ on)
one_fault bytes at line other on f g =
    let s = same_reading f.reads g.reads f.nothing_begins g.nothing_begins in
    (s.1, f.on_line ∙ ap (line_at bytes) s.1 ∙ sym g.on_line)

-- a token has a byte at least
pub token_some : (bytes : List ℕ) (n : ℕ) (kind : TokenKind) → IsToken bytes n kind → 0 < n
token_some bytes zero kind t =
    let p = in_front_class [] [] refl t.form.form in
    let l = high-bound kind in
    absurd (omega (arith, p.1, empty-class, l))
token_some bytes (suc n) kind t = omega arith

-- a file's places, as the loop goes on
pub record ReadTo (bytes : List ℕ) (ts : List Token) (at line : ℕ) : Type 0 where
  pub within : at ≤ length bytes
  pub reads : Reads bytes 0 ts at
  pub on_line : line ≡ line_at bytes at

pub past_gap : (bytes ahead skipped : List ℕ) (ts : List Token) (at line n l : ℕ) → ReadTo bytes ts at line → ahead ≡ drop at bytes → Gap ahead n → n ≤ length ahead → skipped ≡ take n ahead → l ≡ count_by is_line_end skipped → ReadTo bytes ts (at + n) (line + l)
past_gap bytes ahead skipped ts at line n l r e g m s c =
    let i = length-drop at bytes in
    let j = ap length e in
    let w = r.within in
    let k : l ≡ ends (take n (drop at bytes)) = c ∙ ap ends (s ∙ ap (take n) e) in
    let o = r.on_line in
    let more = line_at-more bytes at n in
    record {
      within = omega (arith, i, j, w, m);
      reads = gap_behind r.reads (subst (λ x. Gap x n) e g);
      on_line = omega (arith, k, o, more);
    }

pub past_token : (bytes ahead : List ℕ) (ts : List Token) (at line n : ℕ) (kind : TokenKind) → ReadTo bytes ts at line → ahead ≡ drop at bytes → IsToken ahead n kind → ReadTo bytes (ts ++ record { kind = kind; line = line; at = at } ∷ []) (at + n) line
past_token bytes ahead ts at line n kind r e t =
    let u : IsToken (drop at bytes) n kind = subst (λ x. IsToken x n kind) e t in
    let i = length-drop at bytes in
    let w = r.within in
    let v = u.form.within in
    let none = token_in_line u.form.form in
    let more = line_at-more bytes at n in
    let o = r.on_line in
    record {
      within = omega (arith, i, w, v);
      reads = subst (λ x. Reads bytes 0 (ts ++ record { kind = kind; line = x; at = at } ∷ []) (at + n)) (sym o) (token_behind r.reads u);
      on_line = omega (arith, o, more, none);
    }

pub fault_at : (bytes ahead : List ℕ) (ts : List Token) (at line : ℕ) → ReadTo bytes ts at line → at < length bytes → ahead ≡ drop at bytes → ((n : ℕ) → Gap ahead n → ⊥) → BeginsNoToken ahead → IsFault bytes at line
fault_at bytes ahead ts at line r w e g t = record {
  before = ts;
  reads = r.reads;
  within = w;
  nothing_begins = subst BeginsNothing e (record { no_gap = g; no_token = t });
  on_line = r.on_line;
}

pub all_tokens : (bytes : List ℕ) (ts : List Token) (at line : ℕ) → ReadTo bytes ts at line → length bytes ≤ at → AreTokens bytes (ts ++ record { kind = token.End; line = line; at = at } ∷ [])
all_tokens bytes ts at line r h =
    let w = r.within in
    let e : at ≡ length bytes = omega arith in
    record {
      before_end = ts;
      reads = subst (λ x. Reads bytes 0 ts x) e r.reads;
      all = ap (λ x. ts ++ record { kind = token.End; line = x; at = at } ∷ []) r.on_line ∙ ap (λ x. ts ++ token_at bytes x token.End ∷ []) e;
    }
