-- Items of lists in chunks.
use Rattle.std.proofs.Common.{◌≡◌, ℕ, zero, suc, ◌+◌, ◌-◌, ◌*◌, ◌/◌, ◌%◌, ◌<◌, ◌≤◌, List, [], ◌∷◌, ◌++◌, length, take, drop, slice_get, slice_set, get_or, Some, refl, sym, ap, subst, ◌∙◌, arith, append_assoc, length-append, length-set}
use Rattle.std.proofs.lemmas.List.{append-nil, take_all, take_at}
use Rattle.std.proofs.lemmas.Option.{same_Some, slice_get_within, get_or_from_slice_get}
use Rattle.shared_list.specs.declared.chunk.TheConstants.{CHUNK}
use Rattle.shared_list.specs.Chunks.{joined, AreChunks}

module _ {A : Type 0} where
  get_front : (xs ys : List A) (i : ℕ) → i < length xs → slice_get (xs ++ ys) i ≡ slice_get xs i
  get_front [] ys i lt = absurd (omega (arith, lt))
  get_front (x ∷ xs) ys zero lt = refl
  get_front (x ∷ xs) ys (suc i) lt = get_front xs ys i (omega (arith, lt))

  get_back : (xs ys : List A) (i j : ℕ) → i ≡ length xs + j → slice_get (xs ++ ys) i ≡ slice_get ys j
  get_back [] ys i j is = ap (slice_get ys) (omega (arith, is))
  get_back (x ∷ xs) ys zero j is = absurd (omega (arith, is))
  get_back (x ∷ xs) ys (suc i) j is = get_back xs ys i j (omega (arith, is))

  pub drop_back : (xs ys : List A) (i j : ℕ) → i ≡ length xs + j → drop i (xs ++ ys) ≡ drop j ys
  drop_back [] ys i j is = ap (λ k. drop k ys) (omega (arith, is))
  drop_back (x ∷ xs) ys zero j is = absurd (omega (arith, is))
  drop_back (x ∷ xs) ys (suc i) j is = drop_back xs ys i j (omega (arith, is))

  pub set_back : (xs ys : List A) (i j : ℕ) (x : A) → i ≡ length xs + j → slice_set (xs ++ ys) i x ≡ xs ++ slice_set ys j x
  set_back [] ys i j x is = ap (λ k. slice_set ys k x) (omega (arith, is))
  set_back (y ∷ xs) ys zero j x is = absurd (omega (arith, is))
  set_back (y ∷ xs) ys (suc i) j x is = ap (λ l. y ∷ l) (set_back xs ys i j x (omega (arith, is)))

  pub set_front : (xs ys : List A) (i : ℕ) (x : A) → i < length xs → slice_set (xs ++ ys) i x ≡ slice_set xs i x ++ ys
  set_front [] ys i x lt = absurd (omega (arith, lt))
  set_front (y ∷ xs) ys zero x lt = refl
  set_front (y ∷ xs) ys (suc i) x lt = ap (λ l. y ∷ l) (set_front xs ys i x (omega (arith, lt)))

  -- how many items they have ----------------------------------------------------------------------

  pub enough : (cs : List (List A)) → AreChunks cs → length (joined cs) ≤ CHUNK * length cs
  enough [] are = omega arith
  enough (c ∷ cs) are = omega (arith, length-append c (joined cs), are.1, enough cs are.3)

  pub no_more : (cs : List (List A)) → AreChunks cs → CHUNK * length cs < length (joined cs) + CHUNK
  no_more [] are = omega arith
  no_more (c ∷ []) are = omega (arith, length-append c [], are.0)
  no_more (c ∷ d ∷ cs) are = omega (arith, length-append c (joined (d ∷ cs)), are.2, no_more (d ∷ cs) are.3)

  -- all but the last are full
  pub last_is : (cs : List (List A)) (q : ℕ) (c : List A) → AreChunks cs → slice_get cs q ≡ Some c → length cs ≡ q + 1 → length (joined cs) ≡ CHUNK * q + length c
  last_is [] q c are here is = absurd (cc)
  last_is (b ∷ []) zero c are here is = omega (arith, length-append b [], ap length (same_Some b c here))
  last_is (b ∷ []) (suc q) c are here is = absurd (cc)
  last_is (b ∷ d ∷ cs) zero c are here is = absurd (omega (arith, is))
  last_is (b ∷ d ∷ cs) (suc q) c are here is =
      omega (arith, length-append b (joined (d ∷ cs)), are.2 (omega arith), last_is (d ∷ cs) q c are.3 here (omega (arith, is)))

  pub at_most_full : (cs : List (List A)) (q : ℕ) (c : List A) → AreChunks cs → slice_get cs q ≡ Some c → length c ≤ CHUNK
  at_most_full [] q c are here = absurd (cc)
  at_most_full (b ∷ cs) zero c are here = omega (arith, are.1, ap length (same_Some b c here))
  at_most_full (b ∷ cs) (suc q) c are here = at_most_full cs q c are.3 here

  -- an item is found in its chunk -----------------------------------------------------------------

  pub record IsIn (cs : List (List A)) (q r i : ℕ) : Type 0 where
    pub chunk : List A
    pub found : slice_get cs q ≡ Some chunk
    pub within : r < length chunk
    pub same : slice_get (joined cs) i ≡ slice_get chunk r

  pub is_in : (cs : List (List A)) (q r i : ℕ) → AreChunks cs → r < CHUNK → i ≡ CHUNK * q + r → i < length (joined cs) → IsIn cs q r i
  is_in [] q r i are few is lt = absurd (omega (arith, lt))
  is_in (c ∷ []) zero r i are few is lt =
      let inside : i < length c = omega (arith, length-append c [], lt) in
      let first : i ≡ r = omega (arith, is) in
      record {
        chunk = c;
        found = refl;
        within = omega (arith, inside, is);
        same = get_front c [] i inside ∙ ap (slice_get c) first;
      }
  is_in (c ∷ []) (suc q) r i are few is lt = absurd (omega (arith, length-append c [], are.1, is, lt))
  is_in (c ∷ d ∷ cs) zero r i are few is lt =
      let full : length c ≡ CHUNK = are.2 (omega arith) in
      let inside : i < length c = omega (arith, full, few, is) in
      let first : i ≡ r = omega (arith, is) in
      record {
        chunk = c;
        found = refl;
        within = omega (arith, inside, is);
        same = get_front c (joined (d ∷ cs)) i inside ∙ ap (slice_get c) first;
      }
  is_in (c ∷ d ∷ cs) (suc q) r i are few is lt =
      let full : length c ≡ CHUNK = are.2 (omega arith) in
      let j = i - CHUNK in
      let j_is : j ≡ CHUNK * q + r = omega (arith, is) in
      let i_is : i ≡ length c + j = omega (arith, is, full) in
      let rest = is_in (d ∷ cs) q r j are.3 few j_is (omega (arith, lt, i_is, length-append c (joined (d ∷ cs)))) in
      record {
        chunk = rest.chunk;
        found = rest.found;
        within = rest.within;
        same = get_back c (joined (d ∷ cs)) i j i_is ∙ rest.same;
      }

  -- the items of one chunk ------------------------------------------------------------------------

  pub items_of : (cs : List (List A)) (q : ℕ) (c : List A) → AreChunks cs → slice_get cs q ≡ Some c → take CHUNK (drop (CHUNK * q) (joined cs)) ≡ c
  items_of [] q c are is = absurd (cc)
  items_of (b ∷ []) zero c are is =
      ap (take CHUNK) (append-nil b) ∙ take_all CHUNK b are.1 ∙ same_Some b c is
  items_of (b ∷ []) (suc q) c are is = absurd (cc)
  items_of (b ∷ d ∷ cs) zero c are is = take_at b (joined (d ∷ cs)) CHUNK (are.2 (omega arith)) ∙ same_Some b c is
  items_of (b ∷ d ∷ cs) (suc q) c are is =
      let full : length b ≡ CHUNK = are.2 (omega arith) in
      ap (take CHUNK) (drop_back b (joined (d ∷ cs)) (CHUNK * suc q) (CHUNK * q) (omega (arith, full))) ∙ items_of (d ∷ cs) q c are.3 is

  -- changes ---------------------------------------------------------------------------------------

  -- another chunk of the same length
  pub changed_are : (cs : List (List A)) (q : ℕ) (c d : List A) → AreChunks cs → slice_get cs q ≡ Some c → length d ≡ length c → AreChunks (slice_set cs q d)
  changed_are [] q c d are is same = tt
  changed_are (b ∷ cs) zero c d are is same =
      let long : length d ≡ length b = same ∙ ap length (sym (same_Some b c is)) in
      (omega (arith, long, are.0), omega (arith, long, are.1), λ some. long ∙ are.2 some, are.3)
  changed_are (b ∷ cs) (suc q) c d are is same =
      (are.0, are.1, λ some. are.2 (omega (arith, some, length-set cs q d)), changed_are cs q c d are.3 is same)

  -- an item in the place of another, where the chunk has one
  pub set_in : (cs : List (List A)) (q r i : ℕ) (c : List A) (x : A) → AreChunks cs → slice_get cs q ≡ Some c → r < CHUNK → i ≡ CHUNK * q + r
      → joined (slice_set cs q (slice_set c r x)) ≡ slice_set (joined cs) i x
  set_in [] q r i c x are here few is = absurd (cc)
  set_in (b ∷ []) zero r i c x are here few is =
      append-nil (slice_set c r x)
      ∙ ap (λ k. slice_set c k x) (omega (arith, is))
      ∙ ap (λ e. slice_set e i x) (sym (append-nil b ∙ same_Some b c here))
  set_in (b ∷ d ∷ cs) zero r i c x are here few is =
      let same : b ≡ c = same_Some b c here in
      let full : length b ≡ CHUNK = are.2 (omega arith) in
      ap (λ e. slice_set e r x ++ joined (d ∷ cs)) (sym same)
      ∙ ap (λ k. slice_set b k x ++ joined (d ∷ cs)) (omega (arith, is))
      ∙ sym (set_front b (joined (d ∷ cs)) i x (omega (arith, is, few, full)))
  set_in (b ∷ cs) (suc q) r i c x are here few is =
      let full : length b ≡ CHUNK = are.2 (omega (arith, slice_get_within cs q c here)) in
      let j = i - CHUNK in
      ap (λ l. b ++ l) (set_in cs q r j c x are.3 here few (omega (arith, is)))
      ∙ sym (set_back b (joined cs) i j x (omega (arith, is, full)))

  -- an item more ----------------------------------------------------------------------------------

  joined_more : (cs : List (List A)) (c : List A) → joined (cs ++ c ∷ []) ≡ joined cs ++ c
  joined_more [] c = append-nil c
  joined_more (b ∷ cs) c = ap (λ l. b ++ l) (joined_more cs c) ∙ sym (append_assoc b (joined cs) c)

  -- where all chunks are full it makes a chunk
  pub begun_is : (cs : List (List A)) (x : A) → joined (cs ++ (x ∷ []) ∷ []) ≡ joined cs ++ x ∷ []
  begun_is cs x = joined_more cs (x ∷ [])

  pub begun_are : (cs : List (List A)) (x : A) → AreChunks cs → CHUNK * length cs ≤ length (joined cs) → AreChunks (cs ++ (x ∷ []) ∷ [])
  begun_are [] x are full = (omega arith, omega arith, λ none. absurd (omega (arith, none)), tt)
  begun_are (c ∷ cs) x are full =
      let most = enough cs are.3 in
      let both = length-append c (joined cs) in
      (are.0, are.1, λ some. omega (arith, are.1, full, most, both), begun_are cs x are.3 (omega (arith, are.1, full, both)))

  -- else it comes into the last
  pub record TakesMore (cs : List (List A)) (q r : ℕ) (c : List A) (x : A) : Type 0 where
    pub room : length c ≡ r
    pub is : joined (slice_set cs q (c ++ x ∷ [])) ≡ joined cs ++ x ∷ []
    pub are : AreChunks (slice_set cs q (c ++ x ∷ []))

  pub takes_more : (cs : List (List A)) (q r : ℕ) (c : List A) (x : A) → AreChunks cs → length (joined cs) ≡ CHUNK * q + r → r < CHUNK → slice_get cs q ≡ Some c → TakesMore cs q r c x
  takes_more [] q r c x are many few here = absurd (cc)
  takes_more (b ∷ []) zero r c x are many few here =
      let same : b ≡ c = same_Some b c here in
      let long : length c ≡ r = omega (arith, many, length-append b [], ap length same) in
      record {
        room = long;
        is = append-nil (c ++ x ∷ []) ∙ ap (λ e. e ++ x ∷ []) (sym (append-nil b ∙ same));
        are = (omega (arith, length-append c (x ∷ [])), omega (arith, length-append c (x ∷ []), long, few), λ none. absurd (omega (arith, none)), tt);
      }
  takes_more (b ∷ d ∷ cs) zero r c x are many few here =
      absurd (omega (arith, are.2 (omega arith), many, few, length-append b (joined (d ∷ cs))))
  takes_more (b ∷ cs) (suc q) r c x are many few here =
      let full : length b ≡ CHUNK = are.2 (omega (arith, slice_get_within cs q c here)) in
      let rest = takes_more cs q r c x are.3 (omega (arith, many, full, length-append b (joined cs))) few here in
      record {
        room = rest.room;
        is = ap (λ l. b ++ l) rest.is ∙ sym (append_assoc b (joined cs) (x ∷ []));
        are = (are.0, are.1, λ some. full, rest.are);
      }

  -- by the number of an item ----------------------------------------------------------------------

  pub record IsAt (cs : List (List A)) (i : ℕ) (c : List A) : Type 0 where
    pub found : slice_get cs (i / CHUNK) ≡ Some c
    pub within : i % CHUNK < length c
    pub same : slice_get (joined cs) i ≡ slice_get c (i % CHUNK)

  at_number : (cs : List (List A)) (i : ℕ) → AreChunks cs → i < length (joined cs) → IsIn cs (i / CHUNK) (i % CHUNK) i
  at_number cs i are lt = is_in cs (i / CHUNK) (i % CHUNK) i are (omega arith) (omega arith) lt

  pub in_chunks : (cs : List (List A)) (i : ℕ) → AreChunks cs → i < length (joined cs) → i / CHUNK < length cs
  in_chunks cs i are lt = let p = at_number cs i are lt in slice_get_within cs (i / CHUNK) p.chunk p.found

  pub is_at : (cs : List (List A)) (i : ℕ) (c : List A) → AreChunks cs → i < length (joined cs) → c ≡ get_or cs (i / CHUNK) c → IsAt cs i c
  is_at cs i c are lt is =
      let p = at_number cs i are lt in
      let same : p.chunk ≡ c = sym (is ∙ get_or_from_slice_get cs (i / CHUNK) p.chunk c p.found) in
      record {
        found = p.found ∙ ap Some same;
        within = subst (λ d. i % CHUNK < length d) same p.within;
        same = p.same ∙ ap (λ d. slice_get d (i % CHUNK)) same;
      }

  -- a chunk that stays as it was
  pub kept_is : (cs : List (List A)) (i : ℕ) (c : List A) → slice_get cs i ≡ Some c → slice_set cs i c ≡ cs
  kept_is [] i c is = refl
  kept_is (b ∷ cs) zero c is = ap (λ d. d ∷ cs) (sym (same_Some b c is))
  kept_is (b ∷ cs) (suc i) c is = ap (λ l. b ∷ l) (kept_is cs i c is)

  -- a chunk in front of others --------------------------------------------------------------------

  pub first_chunk : (first rest : List A) → length first ≤ CHUNK → (0 < length rest → length first ≡ CHUNK) → take CHUNK (first ++ rest) ≡ first
  first_chunk first [] few full = ap (take CHUNK) (append-nil first) ∙ take_all CHUNK first few
  first_chunk first (x ∷ rest) few full = take_at first (x ∷ rest) CHUNK (full (omega arith))

  pub later_chunk : (first rest : List A) (n : ℕ) → length first ≤ CHUNK → (0 < length rest → length first ≡ CHUNK) → 0 < n → CHUNK * n < length (first ++ rest)
      → take CHUNK (drop (CHUNK * (n - 1)) rest) ≡ take CHUNK (drop (CHUNK * n) (first ++ rest))
  later_chunk first rest n few full some lt =
      let more : 0 < length rest = omega (arith, few, some, lt, length-append first rest) in
      let long : CHUNK * n ≡ length first + CHUNK * (n - 1) = omega (arith, full more, some) in
      ap (take CHUNK) (sym (drop_back first rest (CHUNK * n) (CHUNK * (n - 1)) long))
