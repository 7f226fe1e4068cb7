-- Lists of which the same shreds stand at each key in the same order.
use Rattle.std.proofs.Common.{◌≡◌, ℕ, ◌+◌, Bool, true, false, cond, not, List, [], ◌∷◌, ◌++◌, map, filter}
use Rattle.std.proofs.Common.{find, option_map, Some, slice_get, refl, sym, ap, ◌∙◌, arith, append-nil}
use Rattle.std.proofs.lemmas.List.{map-append}
use Rattle.std.proofs.lemmas.List.Elements.{filter-append}

module _ {T K : Type 0} (same : K → K → Bool) (means : (a b : K) → same a b ≡ true → a ≡ b)
    (self : (a : K) → same a a ≡ true) (key : T → K) (shred : T → ℕ) where
  -- the shreds at a key, in their order
  abbrev pub at : K → List T → List ℕ
  at k items = map shred (filter (λ item. same (key item) k) items)

  abbrev pub Alike : List T → List T → Type 0
  Alike one two = (k : K) → at k one ≡ at k two

  at-append : (k : K) (one two : List T) → at k (one ++ two) ≡ at k one ++ at k two
  at-append k one two =
      ap (map shred) (filter-append (λ item. same (key item) k) one two)
      ∙ map-append shred (filter (λ item. same (key item) k) one) (filter (λ item. same (key item) k) two)

  pub appended : (one two more : List T) → Alike one two → Alike (one ++ more) (two ++ more)
  appended one two more alike k =
      at-append k one more ∙ ap (λ front. front ++ at k more) (alike k) ∙ sym (at-append k two more)

  here : (k : K) (item : T) (rest : List T) → same (key item) k ≡ true
      → at k (item ∷ rest) ≡ shred item ∷ at k rest
  here k item rest is =
      ap (λ b. map shred (cond b (item ∷ filter (λ item. same (key item) k) rest)
      (filter (λ item. same (key item) k) rest))) is

  elsewhere : (k : K) (item : T) (rest : List T) → same (key item) k ≡ false
      → at k (item ∷ rest) ≡ at k rest
  elsewhere k item rest is =
      ap (λ b. map shred (cond b (item ∷ filter (λ item. same (key item) k) rest)
      (filter (λ item. same (key item) k) rest))) is

  -- of a part that is told by the keys all of a key stand in it, or none
  part : (p : K → Bool) (k : K) (items : List T)
      → at k (filter (λ item. p (key item)) items) ≡ cond (p k) (at k items) []
  part p k [] = by (p k)
    where
      by : (b : Bool) → ◌≡◌ {A = List ℕ} [] (cond b [] [])
      by true = refl
      by false = refl
  part p k (item ∷ items) =
      by (same (key item) k) refl (p (key item)) refl (p k) refl (part p k items)
    where
      left : List T
      left = filter (λ item. p (key item)) items

      by : (s : Bool) → same (key item) k ≡ s → (b : Bool) → p (key item) ≡ b → (c : Bool) → p k ≡ c
          → at k (filter (λ item. p (key item)) items) ≡ cond c (at k items) []
          → at k (cond b (item ∷ filter (λ item. p (key item)) items) (filter (λ item. p (key item)) items))
          ≡ cond c (at k (item ∷ items)) []
      by true is true stays true all ih =
          here k item (filter (λ item. p (key item)) items) is ∙ ap (λ l. shred item ∷ l) ih
          ∙ sym (here k item items is)
      by true is true stays false no_more ih =
          absurd (cc (sym stays ∙ ap p (means (key item) k is) ∙ no_more))
      by true is false goes true all ih =
          absurd (cc (sym goes ∙ ap p (means (key item) k is) ∙ all))
      by true is false goes false no_more ih = ih
      by false is true stays true all ih =
          elsewhere k item (filter (λ item. p (key item)) items) is ∙ ih ∙ sym (elsewhere k item items is)
      by false is true stays false no_more ih =
          elsewhere k item (filter (λ item. p (key item)) items) is ∙ ih
      by false is false goes true all ih = ih ∙ sym (elsewhere k item items is)
      by false is false goes false no_more ih = ih

  -- what comes behind all of its key and of lower ones might as well come behind all
  pub arrived_alike : (lt : K → K → Bool) → ((a b : K) → lt a b ≡ true → same a b ≡ false)
      → (item : T) (items : List T)
      → Alike (filter (λ e. not (lt (key item) (key e))) items ++ item ∷ filter (λ e. lt (key item) (key e)) items)
      (items ++ item ∷ [])
  arrived_alike lt apart item items k =
      let back = at k (item ∷ []) in
      at-append k (filter (λ e. not (lt (key item) (key e))) items)
      (item ∷ filter (λ e. lt (key item) (key e)) items)
      ∙ ap (λ l. at k (filter (λ e. not (lt (key item) (key e))) items) ++ l)
      (at-append k (item ∷ []) (filter (λ e. lt (key item) (key e)) items))
      ∙ ap (λ l. l ++ (back ++ at k (filter (λ e. lt (key item) (key e)) items)))
      (part (λ j. not (lt (key item) j)) k items)
      ∙ ap (λ l. cond (not (lt (key item) k)) (at k items) [] ++ (back ++ l))
      (part (lt (key item)) k items)
      ∙ by (lt (key item) k) refl
      ∙ sym (at-append k items (item ∷ []))
    where
      by : (b : Bool) → lt (key item) k ≡ b
          → cond (not b) (at k items) [] ++ (at k (item ∷ []) ++ cond b (at k items) [])
          ≡ at k items ++ at k (item ∷ [])
      by true below =
          let none : at k (item ∷ []) ≡ [] = elsewhere k item [] (apart (key item) k below) in
          ap (λ l. l ++ at k items) none ∙ sym (append-nil (at k items)) ∙ ap (λ l. at k items ++ l) (sym none)
      by false no_more = ap (λ l. at k items ++ l) (append-nil (at k (item ∷ [])))

  -- only some shreds stay
  at-stay : (stays : ℕ → Bool) (k : K) (items : List T)
      → at k (filter (λ item. stays (shred item)) items) ≡ filter stays (at k items)
  at-stay stays k [] = refl
  at-stay stays k (item ∷ items) =
      by (same (key item) k) refl (stays (shred item)) refl (at-stay stays k items)
    where
      by : (s : Bool) → same (key item) k ≡ s → (b : Bool) → stays (shred item) ≡ b
          → at k (filter (λ item. stays (shred item)) items) ≡ filter stays (at k items)
          → at k (cond b (item ∷ filter (λ item. stays (shred item)) items)
          (filter (λ item. stays (shred item)) items))
          ≡ filter stays (at k (item ∷ items))
      by true is true stay ih =
          here k item (filter (λ item. stays (shred item)) items) is ∙ ap (λ l. shred item ∷ l) ih
          ∙ sym (ap (filter stays) (here k item items is)
          ∙ ap (λ b. cond b (shred item ∷ filter stays (at k items)) (filter stays (at k items))) stay)
      by true is false gone ih =
          ih ∙ sym (ap (filter stays) (here k item items is)
          ∙ ap (λ b. cond b (shred item ∷ filter stays (at k items)) (filter stays (at k items))) gone)
      by false is true stay ih =
          elsewhere k item (filter (λ item. stays (shred item)) items) is ∙ ih
          ∙ sym (ap (filter stays) (elsewhere k item items is))
      by false is false gone ih = ih ∙ sym (ap (filter stays) (elsewhere k item items is))

  pub stay_alike : (stays : ℕ → Bool) (one two : List T) → Alike one two
      → Alike (filter (λ item. stays (shred item)) one) (filter (λ item. stays (shred item)) two)
  stay_alike stays one two alike k =
      at-stay stays k one ∙ ap (filter stays) (alike k) ∙ sym (at-stay stays k two)

  -- a sum over the shreds
  abbrev pub total : (ℕ → ℕ) → List T → ℕ
  total f [] = 0
  total f (item ∷ items) = f (shred item) + total f items

  -- without the first of a key
  abbrev taken : K → List T → List T
  taken k [] = []
  taken k (item ∷ items) = cond (same (key item) k) items (item ∷ taken k items)

  taken-here : (k : K) (item : T) (items : List T) → same (key item) k ≡ true → taken k (item ∷ items) ≡ items
  taken-here k item items is = ap (λ b. cond b items (item ∷ taken k items)) is

  taken-elsewhere : (k : K) (item : T) (items : List T) → same (key item) k ≡ false
      → taken k (item ∷ items) ≡ item ∷ taken k items
  taken-elsewhere k item items is = ap (λ b. cond b items (item ∷ taken k items)) is

  abbrev behind : List ℕ → List ℕ
  behind [] = []
  behind (n ∷ rest) = rest

  at-taken : (j k : K) (items : List T)
      → at k (taken j items) ≡ cond (same j k) (behind (at k items)) (at k items)
  at-taken j k [] = by (same j k)
    where
      by : (b : Bool) → ◌≡◌ {A = List ℕ} [] (cond b [] [])
      by true = refl
      by false = refl
  at-taken j k (item ∷ items) =
      by (same (key item) j) refl (same (key item) k) refl (same j k) refl (at-taken j k items)
    where
      by : (r : Bool) → same (key item) j ≡ r → (s : Bool) → same (key item) k ≡ s → (b : Bool) → same j k ≡ b
          → at k (taken j items) ≡ cond b (behind (at k items)) (at k items)
          → at k (taken j (item ∷ items)) ≡ cond b (behind (at k (item ∷ items))) (at k (item ∷ items))
      by true first true is true both ih =
          ap (at k) (taken-here j item items first) ∙ sym (ap behind (here k item items is))
      by true first true is false apart ih =
          absurd (cc (sym (ap (λ j. same j k) (means (key item) j first)) ∙ is, apart))
      by true first false is true both ih =
          absurd (cc (sym (ap (λ j. same j k) (means (key item) j first)) ∙ is, both))
      by true first false is false apart ih =
          ap (at k) (taken-here j item items first) ∙ sym (elsewhere k item items is)
      by false later true is true both ih =
          absurd (cc (later, ap (same (key item)) (means j k both) ∙ is))
      by false later true is false apart ih =
          ap (at k) (taken-elsewhere j item items later) ∙ here k item (taken j items) is
          ∙ ap (λ l. shred item ∷ l) ih ∙ sym (here k item items is)
      by false later false is true both ih =
          ap (at k) (taken-elsewhere j item items later) ∙ elsewhere k item (taken j items) is ∙ ih
          ∙ sym (ap behind (elsewhere k item items is))
      by false later false is false apart ih =
          ap (at k) (taken-elsewhere j item items later) ∙ elsewhere k item (taken j items) is ∙ ih
          ∙ sym (elsewhere k item items is)

  total-taken : (f : ℕ → ℕ) (k : K) (n : ℕ) (rest : List ℕ) (items : List T) → at k items ≡ n ∷ rest
      → total f items ≡ f n + total f (taken k items)
  total-taken f k n rest [] is = absurd (cc is)
  total-taken f k n rest (item ∷ items) is =
      by (same (key item) k) refl (λ later. total-taken f k n rest items later)
    where
      by : (s : Bool) → same (key item) k ≡ s
          → (at k items ≡ n ∷ rest → total f items ≡ f n + total f (taken k items))
          → f (shred item) + total f items ≡ f n + total f (taken k (item ∷ items))
      by true first ih =
          let one : shred item ∷ at k items ≡ n ∷ rest = sym (here k item items first) ∙ is in
          let number : shred item ≡ n = cc one in
          ap (λ m. f m + total f items) number
          ∙ ap (λ l. f n + total f l) (sym (taken-here k item items first))
      by false later ih =
          let more : total f (taken k (item ∷ items)) ≡ f (shred item) + total f (taken k items) =
          ap (total f) (taken-elsewhere k item items later) in
          omega (arith, more, ih (sym (elsewhere k item items later) ∙ is))

  -- what is summed over alike lists is the same
  pub total_alike : (f : ℕ → ℕ) (one two : List T) → Alike one two → total f one ≡ total f two
  total_alike f [] [] alike = refl
  total_alike f [] (item ∷ two) alike =
      let none : [] ≡ shred item ∷ at (key item) two =
      alike (key item) ∙ here (key item) item two (self (key item)) in
      absurd (cc none)
  total_alike f (item ∷ one) two alike =
      let j = key item in
      let first : at j two ≡ shred item ∷ at j one = sym (alike j) ∙ here j item one (self j) in
      ap (λ n. f (shred item) + n) (total_alike f one (taken j two) (λ k. rest k (same j k) refl))
      ∙ sym (total-taken f j (shred item) (at j one) two first)
    where
      rest : (k : K) (b : Bool) → same (key item) k ≡ b → at k one ≡ at k (taken (key item) two)
      rest k true is =
          ap behind (sym (here k item one is) ∙ alike k)
          ∙ sym (at-taken (key item) k two ∙ ap (λ b. cond b (behind (at k two)) (at k two)) is)
      rest k false is =
          sym (elsewhere k item one is) ∙ alike k
          ∙ sym (at-taken (key item) k two ∙ ap (λ b. cond b (behind (at k two)) (at k two)) is)

  -- the first of a key is the same
  pub first_at : (k : K) (items : List T)
      → option_map shred (find (λ item. same (key item) k) items) ≡ slice_get (at k items) 0
  first_at k [] = refl
  first_at k (item ∷ items) = by (same (key item) k) (first_at k items)
    where
      by : (s : Bool) → option_map shred (find (λ item. same (key item) k) items) ≡ slice_get (at k items) 0
          → option_map shred (cond s (Some item) (find (λ item. same (key item) k) items))
          ≡ slice_get (map shred (cond s (item ∷ filter (λ item. same (key item) k) items)
          (filter (λ item. same (key item) k) items))) 0
      by true ih = refl
      by false ih = ih
