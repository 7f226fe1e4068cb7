-- Numbers in bytes, and the fields of a format: what was read was written, and the other way round.
use Rattle.std.proofs.Common.{◌≡◌, ℕ, ◌+◌, ◌-◌, ◌<◌, ◌≤◌, List, ◌++◌, length, get_or, take, drop, refl, sym, ap, subst, ◌∙◌, arith, inl, inr}
use Rattle.std.proofs.lemmas.Bool.{cases_lt}
use Rattle.std.proofs.lemmas.List.{drop_at, drop-drop, take_all, take-append-drop, length-append, length-take, length-drop, get_or-drop, get_or-take, get_or_past}
use Rattle.std.proofs.lemmas.Nat.{le_bytes_2, le_bytes_4}
use Rattle.byteorder.specs.Endian.{little_bytes, little_number}
use Rattle.byteorder.specs.Numbers.{little_number-reads_back}
use Rattle.sample_buf.specs.declared.format.Format.{Format}
use Rattle.sample_buf.specs.Formats.{SaysFormat}

abbrev pub IsBytes : List ℕ → Type 0
IsBytes bytes = (i : ℕ) → get_or bytes i 0 < 256

pub bytes_behind : (n : ℕ) (bytes : List ℕ) → IsBytes bytes → IsBytes (drop n bytes)
bytes_behind n bytes h i = rw get_or-drop (h (n + i))

pub bytes_in_front : (n : ℕ) (bytes : List ℕ) → IsBytes bytes → IsBytes (take n bytes)
bytes_in_front n bytes h i =
    elim (cases_lt i n) [
      | inl lt ↦ rw (get_or-take n bytes i 0 lt) (h i)
      | inr le ↦ rw (get_or_past (take n bytes) i 0 (omega (arith, length-take n bytes))) (omega arith)
    ]

-- the bytes of the number that was read
pub short_back : (bytes : List ℕ) → length bytes ≡ 2 → IsBytes bytes → little_bytes 2 (little_number 2 bytes) ≡ bytes
short_back bytes len fits = le_bytes_2 bytes (little_number 2 bytes) len fits (omega arith)

pub long_back : (bytes : List ℕ) → length bytes ≡ 4 → IsBytes bytes → little_bytes 4 (little_number 4 bytes) ≡ bytes
long_back bytes len fits = le_bytes_4 bytes (little_number 4 bytes) len fits (omega arith)

-- the same of the bytes in front of others
short_in_front : (bytes : List ℕ) → 2 ≤ length bytes → IsBytes bytes → little_bytes 2 (little_number 2 bytes) ++ drop 2 bytes ≡ bytes
short_in_front bytes len fits =
    let same : little_number 2 (take 2 bytes) ≡ little_number 2 bytes = rw (get_or-take 2 bytes 0 0 (omega arith), get_or-take 2 bytes 1 0 (omega arith)) refl in
    let back = short_back (take 2 bytes) (omega (arith, length-take 2 bytes)) (bytes_in_front 2 bytes fits) in
    ap (λ (n : ℕ). little_bytes 2 n ++ drop 2 bytes) (sym same) ∙ ap (λ (t : List ℕ). t ++ drop 2 bytes) back ∙ take-append-drop 2 bytes

long_in_front : (bytes : List ℕ) → 4 ≤ length bytes → IsBytes bytes → little_bytes 4 (little_number 4 bytes) ++ drop 4 bytes ≡ bytes
long_in_front bytes len fits =
    let same : little_number 4 (take 4 bytes) ≡ little_number 4 bytes =
    rw (get_or-take 4 bytes 0 0 (omega arith), get_or-take 4 bytes 1 0 (omega arith), get_or-take 4 bytes 2 0 (omega arith), get_or-take 4 bytes 3 0 (omega arith)) refl in
    let back = long_back (take 4 bytes) (omega (arith, length-take 4 bytes)) (bytes_in_front 4 bytes fits) in
    ap (λ (n : ℕ). little_bytes 4 n ++ drop 4 bytes) (sym same) ∙ ap (λ (t : List ℕ). t ++ drop 4 bytes) back ∙ take-append-drop 4 bytes

-- the fields of a body that says a format
pub record HasFields (body : List ℕ) (format : Format) : Type 0 where
  pub long : 16 ≤ length body
  pub coding : little_number 2 body ≡ 1
  pub channels : format.channels ≡ little_number 2 (drop 2 body)
  pub rate : format.rate ≡ little_number 4 (drop 4 body)
  pub bits : little_number 2 (drop 14 body) ≡ 16
  pub a_channel : 1 ≤ format.channels
  pub two_at_most : format.channels ≤ 2
  pub above_zero : 1 ≤ format.rate
  pub below_limit : format.rate ≤ 192_000

pub says : (body : List ℕ) (format : Format) → IsBytes body → HasFields body format → SaysFormat body format
says body format fits h =
    let e5 : little_bytes 2 16 ++ drop 16 body ≡ drop 14 body =
    ap (λ (n : ℕ). little_bytes 2 n ++ drop 16 body) (sym h.bits) ∙ ap (λ (t : List ℕ). little_bytes 2 (little_number 2 (drop 14 body)) ++ t) (sym (drop-drop 2 14 body))
    ∙ short_in_front (drop 14 body) (omega (arith, length-drop 14 body, h.long)) (bytes_behind 14 body fits) in
    let e4 : take 6 (drop 8 body) ++ drop 14 body ≡ drop 8 body = ap (λ (t : List ℕ). take 6 (drop 8 body) ++ t) (sym (drop-drop 6 8 body)) ∙ take-append-drop 6 (drop 8 body) in
    let e3 : little_bytes 4 format.rate ++ drop 8 body ≡ drop 4 body =
    ap (λ (n : ℕ). little_bytes 4 n ++ drop 8 body) h.rate ∙ ap (λ (t : List ℕ). little_bytes 4 (little_number 4 (drop 4 body)) ++ t) (sym (drop-drop 4 4 body))
    ∙ long_in_front (drop 4 body) (omega (arith, length-drop 4 body, h.long)) (bytes_behind 4 body fits) in
    let e2 : little_bytes 2 format.channels ++ drop 4 body ≡ drop 2 body =
    ap (λ (n : ℕ). little_bytes 2 n ++ drop 4 body) h.channels ∙ ap (λ (t : List ℕ). little_bytes 2 (little_number 2 (drop 2 body)) ++ t) (sym (drop-drop 2 2 body))
    ∙ short_in_front (drop 2 body) (omega (arith, length-drop 2 body, h.long)) (bytes_behind 2 body fits) in
    let e1 : little_bytes 2 1 ++ drop 2 body ≡ body =
    ap (λ (n : ℕ). little_bytes 2 n ++ drop 2 body) (sym h.coding) ∙ short_in_front body (omega (arith, h.long)) fits in
    record {
      sizes = take 6 (drop 8 body);
      more = drop 16 body;
      six = omega (arith, length-take 6 (drop 8 body), length-drop 8 body, h.long);
      stands = sym (ap (λ (t : List ℕ). little_bytes 2 1 ++ (little_bytes 2 format.channels ++ (little_bytes 4 format.rate ++ (take 6 (drop 8 body) ++ t)))) e5
          ∙ ap (λ (t : List ℕ). little_bytes 2 1 ++ (little_bytes 2 format.channels ++ (little_bytes 4 format.rate ++ t))) e4
          ∙ ap (λ (t : List ℕ). little_bytes 2 1 ++ (little_bytes 2 format.channels ++ t)) e3
          ∙ ap (λ (t : List ℕ). little_bytes 2 1 ++ t) e2 ∙ e1);
      a_channel = h.a_channel;
      two_at_most = h.two_at_most;
      above_zero = h.above_zero;
      below_limit = h.below_limit;
    }

-- the fields of bytes that are spelled so
fields_of : (format : Format) (sizes more : List ℕ) → length sizes ≡ 6 → 1 ≤ format.channels → format.channels ≤ 2 → 1 ≤ format.rate → format.rate ≤ 192_000
    → HasFields (little_bytes 2 1 ++ (little_bytes 2 format.channels ++ (little_bytes 4 format.rate ++ (sizes ++ (little_bytes 2 16 ++ more))))) format
fields_of format sizes more six a b c d =
    let behind : drop 6 (sizes ++ (little_bytes 2 16 ++ more)) ≡ little_bytes 2 16 ++ more = drop_at sizes (little_bytes 2 16 ++ more) 6 six in
    record {
      long = omega (arith, length-append sizes (little_bytes 2 16 ++ more), six);
      coding = refl;
      channels = sym (little_number-reads_back 2 format.channels (little_bytes 4 format.rate ++ (sizes ++ (little_bytes 2 16 ++ more))) (omega arith));
      rate = sym (little_number-reads_back 4 format.rate (sizes ++ (little_bytes 2 16 ++ more)) (omega arith));
      bits = ap (little_number 2) behind;
      a_channel = a;
      two_at_most = b;
      above_zero = c;
      below_limit = d;
    }

pub fields : (body : List ℕ) (format : Format) → SaysFormat body format → HasFields body format
fields body format s =
    subst (λ (t : List ℕ). HasFields t format) (sym s.stands) (fields_of format s.sizes s.more s.six s.a_channel s.two_at_most s.above_zero s.below_limit)

-- a field behind others, as a slice of the body has it
pub field_at : (n k : ℕ) (body : List ℕ) → little_number n (take (length body - k) (drop k body)) ≡ little_number n (drop k body)
field_at n k body = ap (little_number n) (take_all (length body - k) (drop k body) (omega (arith, length-drop k body)))

-- the numbers that a body of 16 bytes has
pub record HasNumbers (body : List ℕ) (coding channels rate bits : ℕ) : Type 0 where
  pub long : 16 ≤ length body
  pub coding_is : coding ≡ little_number 2 body
  pub channels_is : channels ≡ little_number 2 (take (length body - 2) (drop 2 body))
  pub rate_is : rate ≡ little_number 4 (take (length body - 4) (drop 4 body))
  pub bits_is : bits ≡ little_number 2 (take (length body - 14) (drop 14 body))

pub read_format : (body : List ℕ) (coding channels rate bits : ℕ) → IsBytes body → HasNumbers body coding channels rate bits → coding ≡ 1 → bits ≡ 16 → 1 ≤ channels → channels ≤ 2 → 1 ≤ rate → rate ≤ 192_000
    → SaysFormat body (record { channels = channels; rate = rate })
read_format body coding channels rate bits fits h pcm sixteen a b c d =
    says body (record { channels = channels; rate = rate }) fits (record {
      long = h.long;
      coding = sym h.coding_is ∙ pcm;
      channels = h.channels_is ∙ field_at 2 2 body;
      rate = h.rate_is ∙ field_at 4 4 body;
      bits = sym (h.bits_is ∙ field_at 2 14 body) ∙ sixteen;
      a_channel = a;
      two_at_most = b;
      above_zero = c;
      below_limit = d;
    })

-- what those numbers are where the body says a format
pub record AreFit (coding channels rate bits : ℕ) : Type 0 where
  pub pcm : coding ≡ 1
  pub sixteen : bits ≡ 16
  pub a_channel : 1 ≤ channels
  pub two_at_most : channels ≤ 2
  pub above_zero : 1 ≤ rate
  pub below_limit : rate ≤ 192_000

pub fit_numbers : (body : List ℕ) (coding channels rate bits : ℕ) (format : Format) → HasNumbers body coding channels rate bits → SaysFormat body format → AreFit coding channels rate bits
fit_numbers body coding channels rate bits format h s =
    let f = fields body format s in
    let c : channels ≡ format.channels = h.channels_is ∙ field_at 2 2 body ∙ sym f.channels in
    let r : rate ≡ format.rate = h.rate_is ∙ field_at 4 4 body ∙ sym f.rate in
    record {
      pcm = h.coding_is ∙ f.coding;
      sixteen = h.bits_is ∙ field_at 2 14 body ∙ f.bits;
      a_channel = omega (arith, c, f.a_channel);
      two_at_most = omega (arith, c, f.two_at_most);
      above_zero = omega (arith, r, f.above_zero);
      below_limit = omega (arith, r, f.below_limit);
    }

pub too_short : (body : List ℕ) (format : Format) → length body < 16 → SaysFormat body format → ⊥
too_short body format short s = let f = fields body format s in absurd (omega (arith, f.long, short))
