-- A text from its opening quote to its closing one.
use Rattle.std.proofs.Common.{◌≡◌, ℕ, suc, zero, ◌+◌, ◌<◌, ◌≤◌, List, [], ◌∷◌, ◌++◌, length, drop, Bool, true, false, ◌==◌, cond, Option, Some, None, refl, sym, ◌∙◌, ap, subst, arith, one-add, add-one, get_or, drop-cons, append_assoc, append-nil}
use Rattle.std.proofs.lemmas.Bool.Decides.{nat_tests}
use Rattle.std.proofs.lemmas.Option.{some_pair_parts, none-some}
use Rattle.ck_lexer.specs.Bytes.{is_plain, is_line_end}
use Rattle.ck_lexer.specs.Texts.{escaped, TextStands, Quoted, nothing, a_byte, an_escape}

-- nothing but the closing quote
abbrev ended : Option (List ℕ × ℕ)
ended = Some ([], 1)

-- what was read before, and then this
unfoldable pub after : List ℕ → ℕ → Option (List ℕ × ℕ) → Option (List ℕ × ℕ)
after value n None = None
after value n (Some x) = Some (value ++ x.0, n + x.1)

-- behind a backslash
unfoldable pub escape : Option ℕ → Option (List ℕ × ℕ) → Option (List ℕ × ℕ)
escape None x = None
escape (Some b) x = after (b ∷ []) 2 x

-- the value of the text behind its opening quote, and how many bytes it has with its closing one
unfoldable pub text_in : List ℕ → Option (List ℕ × ℕ)
text_in [] = None
text_in (b ∷ []) = cond (b == 34) (Some ([], 1)) None
text_in (b ∷ e ∷ bs) = cond (b == 34) (Some ([], 1)) (cond (b == 92) (escape (escaped e) (text_in bs)) (cond (is_line_end b) None (after (b ∷ []) 1 (text_in (e ∷ bs)))))

pub after-after : (v w : List ℕ) (n m : ℕ) (x : Option (List ℕ × ℕ)) → after v n (after w m x) ≡ after (v ++ w) (n + m) x
unfolding after
after-after v w n m None = refl
after-after v w n m (Some x) = let e : n + (m + x.1) ≡ n + m + x.1 = omega arith in rw (← append_assoc, e) refl

plain_parts : (b : ℕ) → is_plain b ≡ true → ((b == 34) ≡ false) × ((b == 92) ≡ false) × (is_line_end b ≡ false)
plain_parts b h = (grind (arith, nat_tests), grind (arith, nat_tests), grind (arith, nat_tests))

-- by the first byte
pub text_in-end : (bs : List ℕ) → text_in (34 ∷ bs) ≡ Some ([], 1)
unfolding text_in
text_in-end [] = refl
text_in-end (b ∷ bs) = refl

pub text_in-plain : (b : ℕ) (bs : List ℕ) → is_plain b ≡ true → text_in (b ∷ bs) ≡ after (b ∷ []) 1 (text_in bs)
unfolding text_in after
text_in-plain b [] h = let p = plain_parts b h in rw (p.0) refl
text_in-plain b (c ∷ bs) h = let p = plain_parts b h in rw (p.0, p.1, p.2) refl

pub text_in-line_end : (bs : List ℕ) → text_in (10 ∷ bs) ≡ None
unfolding text_in
text_in-line_end [] = refl
text_in-line_end (b ∷ bs) = refl

text_in-nothing : text_in [] ≡ None
unfolding text_in
text_in-nothing = refl

drop-none : (bytes : List ℕ) (n : ℕ) → length bytes ≤ n → drop n bytes ≡ []
drop-none [] zero h = refl
drop-none [] (suc n) h = refl
drop-none (b ∷ bs) zero h = absurd (omega arith)
drop-none (b ∷ bs) (suc n) h = drop-none bs n (omega arith)

pub text_in-none_after : (bytes : List ℕ) → text_in bytes ≡ after [] 0 (text_in bytes)
unfolding after
text_in-none_after bytes = go (text_in bytes)
  where
    go : (x : Option (List ℕ × ℕ)) → x ≡ after [] 0 x
    go None = refl
    go (Some x) = let e : x.1 ≡ 0 + x.1 = omega arith in ap (λ n. Some (x.0, n)) e

pub text_in-escape : (e : ℕ) (bs : List ℕ) → text_in (92 ∷ e ∷ bs) ≡ escape (escaped e) (text_in bs)
unfolding text_in
text_in-escape e bs = refl

pub text_in-backslash : text_in (92 ∷ []) ≡ None
unfolding text_in
text_in-backslash = refl

-- each text is found
pub text_in-quoted : {w value : List ℕ} (rest : List ℕ) → Quoted w value → text_in (w ++ 34 ∷ rest) ≡ Some (value, suc (length w))
unfolding after escape
text_in-quoted rest nothing = text_in-end rest
text_in-quoted rest (a_byte {b} {w} {value} h q) = one (text_in-quoted rest q)
  where
    one : text_in (w ++ 34 ∷ rest) ≡ Some (value, suc (length w)) → text_in (b ∷ w ++ 34 ∷ rest) ≡ Some (b ∷ value, suc (suc (length w)))
    one i = text_in-plain b (w ++ 34 ∷ rest) h ∙ rw i (rw one-add refl)
text_in-quoted rest (an_escape {e} {b} {w} {value} h q) = two (text_in-quoted rest q)
  where
    two : text_in (w ++ 34 ∷ rest) ≡ Some (value, suc (length w)) → text_in (92 ∷ e ∷ w ++ 34 ∷ rest) ≡ Some (b ∷ value, suc (suc (suc (length w))))
    two i = text_in-escape e (w ++ 34 ∷ rest) ∙ rw (h, i) (let k : 2 + suc (length w) ≡ suc (suc (suc (length w))) = omega arith in rw k refl)

-- what is found is a text
one_more : (b n : ℕ) (bs value : List ℕ) (x : Option (List ℕ × ℕ)) → is_plain b ≡ true → ((v : List ℕ) (m : ℕ) → x ≡ Some (v, m) → TextStands bs v m) → after (b ∷ []) 1 x ≡ Some (value, n) → TextStands (b ∷ bs) value n
unfolding after
one_more b n bs value None h i e = cc
one_more b n bs value (Some x) h i e =
    let t = i x.0 x.1 refl in
    let p = some_pair_parts (b ∷ x.0) value (1 + x.1) n e in
    let v = p.0 in
    let m = p.1 in
    record { inner = b ∷ t.inner; rest = t.rest; quoted = subst (λ y. Quoted (b ∷ t.inner) y) v (a_byte h t.quoted); stands = ap (λ y. b ∷ y) t.stands; long = let l = t.long in omega arith }

two_more : (e n : ℕ) (bs value : List ℕ) (o : Option ℕ) (x : Option (List ℕ × ℕ)) → escaped e ≡ o → ((v : List ℕ) (m : ℕ) → x ≡ Some (v, m) → TextStands bs v m) → escape o x ≡ Some (value, n) → TextStands (92 ∷ e ∷ bs) value n
unfolding escape after
two_more e n bs value None x h i j = cc
two_more e n bs value (Some b) None h i j = cc
two_more e n bs value (Some b) (Some x) h i j =
    let t = i x.0 x.1 refl in
    let p = some_pair_parts (b ∷ x.0) value (2 + x.1) n j in
    let v = p.0 in
    let m = p.1 in
    record { inner = 92 ∷ e ∷ t.inner; rest = t.rest; quoted = subst (λ y. Quoted (92 ∷ e ∷ t.inner) y) v (an_escape h t.quoted); stands = ap (λ y. 92 ∷ e ∷ y) t.stands; long = let l = t.long in omega arith }

done : (n : ℕ) (bs value : List ℕ) → ended ≡ Some (value, n) → TextStands (34 ∷ bs) value n
done n bs value h =
    let p = some_pair_parts [] value 1 n h in
    let v = p.0 in
    let m = sym p.1 in
    record { inner = []; rest = bs; quoted = subst (λ y. Quoted [] y) v nothing; stands = refl; long = m }

pub text_in-is : (bs value : List ℕ) (n : ℕ) → text_in bs ≡ Some (value, n) → TextStands bs value n
unfolding text_in
text_in-is [] value n h = cc
text_in-is (b ∷ []) value n h = go (b == 34) refl h
  where
    go : (c : Bool) → (b == 34) ≡ c → cond c ended None ≡ Some (value, n) → TextStands (b ∷ []) value n
    go true e h = let i : b ≡ 34 = grind (arith, nat_tests) in subst (λ x. TextStands (x ∷ []) value n) (sym i) (done n [] value h)
    go false e h = cc
text_in-is (b ∷ e ∷ bs) value n h = at_quote (λ v m. text_in-is bs v m) (λ v m. text_in-is (e ∷ bs) v m) (b == 34) refl h
  where
    Found : List ℕ → Type 0
    Found ds = (v : List ℕ) (m : ℕ) → text_in ds ≡ Some (v, m) → TextStands ds v m

    at_line_end : Found (e ∷ bs) → (b == 34) ≡ false → (b == 92) ≡ false → (c : Bool) → is_line_end b ≡ c → cond c None (after (b ∷ []) 1 (text_in (e ∷ bs))) ≡ Some (value, n) → TextStands (b ∷ e ∷ bs) value n
    at_line_end one p q true r h = cc
    at_line_end one p q false r h = let i : is_plain b ≡ true = grind (arith, nat_tests) in one_more b n (e ∷ bs) value (text_in (e ∷ bs)) i one h

    at_backslash : Found bs → Found (e ∷ bs) → (b == 34) ≡ false → (c : Bool) → (b == 92) ≡ c → cond c (escape (escaped e) (text_in bs)) (cond (is_line_end b) None (after (b ∷ []) 1 (text_in (e ∷ bs)))) ≡ Some (value, n) → TextStands (b ∷ e ∷ bs) value n
    at_backslash two one p true q h = let i : b ≡ 92 = grind (arith, nat_tests) in subst (λ x. TextStands (x ∷ e ∷ bs) value n) (sym i) (two_more e n bs value (escaped e) (text_in bs) refl two h)
    at_backslash two one p false q h = at_line_end one p q (is_line_end b) refl h

    at_quote : Found bs → Found (e ∷ bs) → (c : Bool) → (b == 34) ≡ c → cond c ended (cond (b == 92) (escape (escaped e) (text_in bs)) (cond (is_line_end b) None (after (b ∷ []) 1 (text_in (e ∷ bs))))) ≡ Some (value, n) → TextStands (b ∷ e ∷ bs) value n
    at_quote two one true p h = let i : b ≡ 34 = grind (arith, nat_tests) in subst (λ x. TextStands (x ∷ e ∷ bs) value n) (sym i) (done n (e ∷ bs) value h)
    at_quote two one false p h = at_backslash two one p (b == 92) refl h

pub text_in-closes : (bs value : List ℕ) (n : ℕ) → TextStands bs value n → text_in bs ≡ Some (value, n)
text_in-closes bs value n t = ap text_in t.stands ∙ text_in-quoted t.rest t.quoted ∙ ap (λ m. Some (value, m)) (sym t.long)

pub text_in-none : (bs : List ℕ) → ((value : List ℕ) (n : ℕ) → TextStands bs value n → ⊥) → text_in bs ≡ None
text_in-none bs h = go (text_in bs) refl
  where
    go : (x : Option (List ℕ × ℕ)) → text_in bs ≡ x → x ≡ None
    go None e = refl
    go (Some x) e = absurd (h x.0 x.1 (text_in-is bs x.0 x.1 e))

pub none-closes : (bs : List ℕ) → text_in bs ≡ None → (value : List ℕ) (n : ℕ) → TextStands bs value n → ⊥
none-closes bs e value n t = none-some (value, n) (sym e ∙ text_in-closes bs value n t)

-- the loop, by the byte that it stands at
pub loop_at : (bytes value bs : List ℕ) (n : ℕ) → text_in bytes ≡ after value n (text_in bs) → text_in bs ≡ None → text_in bytes ≡ None
unfolding after
loop_at bytes value bs n e f = e ∙ ap (after value n) f

pub loop_end : (bytes value : List ℕ) (n : ℕ) (bs : List ℕ) → text_in bytes ≡ after value n (text_in (34 ∷ bs)) → text_in bytes ≡ Some (value, n + 1)
unfolding after
loop_end bytes value n bs e = e ∙ ap (after value n) (text_in-end bs) ∙ ap (λ v. Some (v, n + 1)) (append-nil value)

pub loop_plain : (bytes value : List ℕ) (n b : ℕ) (bs : List ℕ) → is_plain b ≡ true → text_in bytes ≡ after value n (text_in (b ∷ bs)) → text_in bytes ≡ after (value ++ b ∷ []) (n + 1) (text_in bs)
loop_plain bytes value n b bs h e = e ∙ ap (after value n) (text_in-plain b bs h) ∙ after-after value (b ∷ []) n 1 (text_in bs)

pub loop_escape : (bytes value : List ℕ) (n e b : ℕ) (bs : List ℕ) → escaped e ≡ Some b → text_in bytes ≡ after value n (text_in (92 ∷ e ∷ bs)) → text_in bytes ≡ after (value ++ b ∷ []) (n + 2) (text_in bs)
unfolding escape
loop_escape bytes value n e b bs h i = i ∙ ap (after value n) (text_in-escape e bs ∙ ap (λ x. escape x (text_in bs)) h) ∙ after-after value (b ∷ []) n 2 (text_in bs)

pub other_escape : (e : ℕ) (bs : List ℕ) → escaped e ≡ None → text_in (92 ∷ e ∷ bs) ≡ None
unfolding escape
other_escape e bs h = text_in-escape e bs ∙ ap (λ x. escape x (text_in bs)) h

-- the same, by the index of the loop
module _ (bytes value : List ℕ) (n : ℕ) (so_far : text_in bytes ≡ after value n (text_in (drop n bytes))) where
  at_byte : (b : ℕ) → n < length bytes → get_or bytes n 0 ≡ b → drop n bytes ≡ b ∷ drop (n + 1) bytes
  at_byte b h e = drop-cons bytes n 0 h ∙ ap (λ x. x ∷ drop (suc n) bytes) e ∙ ap (λ m. b ∷ drop m bytes) (sym (add-one n))

  at_escape : n + 1 < length bytes → get_or bytes n 0 ≡ 92 → drop n bytes ≡ 92 ∷ get_or bytes (n + 1) 0 ∷ drop (n + 2) bytes
  at_escape h e =
      let two : suc (n + 1) ≡ n + 2 = omega arith in
      at_byte 92 (omega arith) e ∙ ap (λ x. 92 ∷ x) (drop-cons bytes (n + 1) 0 h ∙ ap (λ m. get_or bytes (n + 1) 0 ∷ drop m bytes) two)

  pub at_quote : n < length bytes → get_or bytes n 0 ≡ 34 → TextStands bytes value (n + 1)
  at_quote h e = text_in-is bytes value (n + 1) (loop_end bytes value n (drop (n + 1) bytes) (so_far ∙ ap (λ x. after value n (text_in x)) (at_byte 34 h e)))

  pub at_line_end : n < length bytes → get_or bytes n 0 ≡ 10 → (v : List ℕ) (m : ℕ) → TextStands bytes v m → ⊥
  at_line_end h e = none-closes bytes (loop_at bytes value (drop n bytes) n so_far (ap text_in (at_byte 10 h e) ∙ text_in-line_end (drop (n + 1) bytes)))

  pub at_last_backslash : n < length bytes → get_or bytes n 0 ≡ 92 → length bytes ≤ n + 1 → (v : List ℕ) (m : ℕ) → TextStands bytes v m → ⊥
  at_last_backslash h e l = none-closes bytes (loop_at bytes value (drop n bytes) n so_far (ap text_in (at_byte 92 h e ∙ ap (λ x. 92 ∷ x) (drop-none bytes (n + 1) l)) ∙ text_in-backslash))

  pub at_other_escape : n + 1 < length bytes → get_or bytes n 0 ≡ 92 → escaped (get_or bytes (n + 1) 0) ≡ None → (v : List ℕ) (m : ℕ) → TextStands bytes v m → ⊥
  at_other_escape h e i = none-closes bytes (loop_at bytes value (drop n bytes) n so_far (ap text_in (at_escape h e) ∙ other_escape _ _ i))

  pub past_escape : (b : ℕ) → n + 1 < length bytes → get_or bytes n 0 ≡ 92 → escaped (get_or bytes (n + 1) 0) ≡ Some b → text_in bytes ≡ after (value ++ b ∷ []) (n + 2) (text_in (drop (n + 2) bytes))
  past_escape b h e i = loop_escape bytes value n (get_or bytes (n + 1) 0) b (drop (n + 2) bytes) i (so_far ∙ ap (λ x. after value n (text_in x)) (at_escape h e))

  pub past_plain : (b : ℕ) → n < length bytes → get_or bytes n 0 ≡ b → is_plain b ≡ true → text_in bytes ≡ after (value ++ b ∷ []) (n + 1) (text_in (drop (n + 1) bytes))
  past_plain b h e i = loop_plain bytes value n b (drop (n + 1) bytes) i (so_far ∙ ap (λ x. after value n (text_in x)) (at_byte b h e))

  pub at_end : length bytes ≤ n → (v : List ℕ) (m : ℕ) → TextStands bytes v m → ⊥
  at_end l = none-closes bytes (loop_at bytes value (drop n bytes) n so_far (ap text_in (drop-none bytes n l) ∙ text_in-nothing))
