-- How far a shred came that ends makes no difference.
use Rattle.std.proofs.Common.{◌≡◌, ℕ, ◌+◌, ℤ, pos, negsuc, nat_eq, true, false, Bool, cond, List, [], ◌∷◌, ◌++◌, fold, filter, find, map, not, option_map, ◌||◌, Option, Some, None, refl, sym, ap, ◌∙◌}
use Rattle.std.proofs.lemmas.Bool.{ne_eqb}
use Rattle.ck_store.specs.Steps.{pick}
use Rattle.ck_store.specs.Store.{Act, Printed, Sporked, WokeOne, WokeAll, Removed, At, On, End}
use Rattle.ck_run.proofs.Family.{has-push, or-true}
use Rattle.ck_run.proofs.Lists.{found_times}
use Rattle.ck_run.specs.Run.{Stop, Asked, Trapped, WentWrong, Slice, Runner, Shred, Wait, Line, Wake, Run, has, live, with_due, one_more_ends, end_with, without, ended, with_child, woken, ended_where, live_at, applied, carried_out, carried_out_where, trap_of, came, noted, after_slice}

module _ {P : Type 0} (n : ℕ) (x : P) where
  -- all shreds of this number came so far
  abbrev pub blurred : Run P → Run P
  blurred run = record run { shreds = map (came n x) run.shreds }

  pub number-came : (s : Shred P) → (came n x s).number ≡ s.number
  number-came s = by (nat_eq s.number n)
    where
      by : (b : Bool) → (pick b (record s { progress = x }) s).number ≡ s.number
      by true = refl
      by false = refl

  parent-came : (s : Shred P) → (came n x s).parent ≡ s.parent
  parent-came s = by (nat_eq s.number n)
    where
      by : (b : Bool) → (pick b (record s { progress = x }) s).parent ≡ s.parent
      by true = refl
      by false = refl

  map-came-append : (ss ts : List (Shred P)) → map (came n x) (ss ++ ts) ≡ map (came n x) ss ++ map (came n x) ts
  map-came-append [] ts = refl
  map-came-append (s ∷ ss) ts = ap (λ r. came n x s ∷ r) (map-came-append ss ts)

  -- a later way of the same number is all that counts
  came-again : (y : P) (s : Shred P) → came n x (came n y s) ≡ came n x s
  came-again y s = by (nat_eq s.number n) refl
    where
      by : (b : Bool) → nat_eq s.number n ≡ b → came n x (pick b (record s { progress = y }) s) ≡ pick b
          (record s { progress = x }) s
      by true e = ap (λ c. pick c (record s { progress = x }) (record s { progress = y })) e
      by false e = ap (λ c. pick c (record s { progress = x }) s) e

  pub again : (y : P) (ss : List (Shred P)) → map (came n x) (map (came n y) ss) ≡ map (came n x) ss
  again y [] = refl
  again y (s ∷ ss) = ap (λ t. t ∷ map (came n x) (map (came n y) ss)) (came-again y s)
      ∙ ap (λ r. came n x s ∷ r) (again y ss)

  -- who is live and who ends is the same
  pub find-came : (m : ℕ) (ss : List (Shred P)) → find (λ s. nat_eq s.number m) (map (came n x) ss) ≡ option_map
      (came n x) (find (λ s. nat_eq s.number m) ss)
  find-came m [] = refl
  find-came m (s ∷ ss) =
      ap (λ k. cond (nat_eq k m) (Some (came n x s)) (find (λ s. nat_eq s.number m) (map (came n x) ss)))
      (number-came s)
      ∙ ap (λ r. cond (nat_eq s.number m) (Some (came n x s)) r) (find-came m ss)
      ∙ by (nat_eq s.number m)
    where
      by : (b : Bool) → cond b (Some (came n x s)) (option_map (came n x) (find (λ s. nat_eq s.number m) ss)) ≡
          option_map (came n x) (cond b (Some s) (find (λ s. nat_eq s.number m) ss))
      by true = refl
      by false = refl

  ends-came : (k : ℕ) (gone : List ℕ) (ss : List (Shred P)) → fold (one_more_ends k) gone (map (came n x) ss) ≡ fold
      (one_more_ends k) gone ss
  ends-came k gone [] = refl
  ends-came k gone (s ∷ ss) =
      ap (λ gone2. fold (one_more_ends k) gone2 (map (came n x) ss)) same ∙ ends-came k (one_more_ends k gone s) ss
    where
      same : one_more_ends k gone (came n x s) ≡ one_more_ends k gone s
      same =
          ap (λ m. pick (nat_eq m k || has gone (came n x s).parent) (gone ++ m ∷ []) gone) (number-came s)
          ∙ ap (λ m. pick (nat_eq s.number k || has gone m) (gone ++ s.number ∷ []) gone) (parent-came s)

  filter-came : (gone : List ℕ) (ss : List (Shred P)) → filter (λ s. not (has gone s.number)) (map (came n x) ss) ≡
      map (came n x) (filter (λ s. not (has gone s.number)) ss)
  filter-came gone [] = refl
  filter-came gone (s ∷ ss) =
      ap (λ m. cond (not (has gone m)) (came n x s ∷ filter (λ s. not (has gone s.number)) (map (came n x) ss))
      (filter (λ s. not (has gone s.number)) (map (came n x) ss))) (number-came s)
      ∙ ap (λ r. cond (not (has gone s.number)) (came n x s ∷ r) r) (filter-came gone ss)
      ∙ by (has gone s.number)
    where
      by : (b : Bool) → cond (not b) (came n x s ∷ map (came n x) (filter (λ s. not (has gone s.number)) ss))
          (map (came n x) (filter (λ s. not (has gone s.number)) ss))
          ≡ map (came n x) (cond (not b) (s ∷ filter (λ s. not (has gone s.number)) ss)
          (filter (λ s. not (has gone s.number)) ss))
      by true = refl
      by false = refl

  blurred-ended : (run : Run P) (k : ℕ) → ended (blurred run) k ≡ blurred (ended run k)
  blurred-ended run k =
      ap (without (blurred run)) (ends-came k [] run.shreds)
      ∙ ap (λ shreds. record (without run (end_with k run.shreds)) { shreds = shreds })
      (filter-came (end_with k run.shreds) run.shreds)

  blurred-woken : (run : Run P) (w : Option Wait) → woken (blurred run) w ≡ blurred (woken run w)
  blurred-woken run None = refl
  blurred-woken run (Some w) = refl

  blurred-all : (waits : List Wait) (run : Run P) → fold (λ now wait. woken now (Some wait)) (blurred run) waits ≡
      blurred (fold (λ now wait. woken now (Some wait)) run waits)
  blurred-all [] run = refl
  blurred-all (w ∷ waits) run = blurred-all waits (woken run (Some w))

  blurred-end : (run : Run P) (s : Option (Shred P)) → ended_where (blurred run) (option_map (came n x) s) ≡ blurred
      (ended_where run s)
  blurred-end run None = refl
  blurred-end run (Some s) = ap (ended (blurred run)) (number-came s) ∙ blurred-ended run s.number

  blurred-removed : (run : Run P) (k : ℤ) → ended_where (blurred run) (live_at (blurred run) k) ≡ blurred
      (ended_where run (live_at run k))
  blurred-removed run (pos k) = ap (ended_where (blurred run)) (find-came k run.shreds)
      ∙ blurred-end run (live run k)
  blurred-removed run (negsuc k) = refl

  -- a child is begun by itself: here the shreds are blurred after it
  blurred-child : (run : Run P) (m k : ℕ) (p : P) (s : Option (Shred P))
      → blurred (with_child (blurred run) m k p (option_map (came n x) s)) ≡ blurred (with_child run m k p s)
  blurred-child run m k p None = ap (λ shreds. record run { shreds = shreds }) (again x run.shreds)
  blurred-child run m k p (Some s) =
      let child : Shred P = record { number = k; parent = m; progress = p } in
      ap (λ shreds. with_due (record run { shreds = shreds }) run.store.now k)
      (map-came-append (map (came n x) run.shreds) (child ∷ []) ∙ ap (λ ss. ss ++ came n x child ∷ [])
      (again x run.shreds) ∙ sym (map-came-append run.shreds (child ∷ [])))

  twice : (run : Run P) → blurred (blurred run) ≡ blurred run
  twice run = ap (λ shreds. record run { shreds = shreds }) (again x run.shreds)

  blurred-applied : (runner : Runner P) (run : Run P) (act : Act)
      → blurred (applied runner n (blurred run) act) ≡ blurred (applied runner n run act)
  blurred-applied runner run (Printed line) = twice (record run { text = run.text ++ Line line ∷ [] })
  blurred-applied runner run (Sporked number f arguments) =
      ap (λ s. blurred (with_child (blurred run) n number (runner.begin f arguments) s)) (find-came n run.shreds)
      ∙ blurred-child run n number (runner.begin f arguments) (live run n)
  blurred-applied runner run (WokeOne event) =
      ap blurred (blurred-woken run (find (λ wait. nat_eq wait.event event) run.waits)) ∙ twice _
  blurred-applied runner run (WokeAll event) =
      ap blurred (blurred-all (filter (λ wait. nat_eq wait.event event) run.waits) run) ∙ twice _
  blurred-applied runner run (Removed k) = ap blurred (blurred-removed run k) ∙ twice _

  pub blurred-acts : (runner : Runner P) (acts : List Act) (one other : Run P) → blurred one ≡ blurred other
      → blurred (fold (applied runner n) one acts) ≡ blurred (fold (applied runner n) other acts)
  blurred-acts runner [] one other same = same
  blurred-acts runner (act ∷ acts) one other same =
      blurred-acts runner acts (applied runner n one act) (applied runner n other act)
      (sym (blurred-applied runner one act) ∙ ap (λ r. blurred (applied runner n r act)) same
      ∙ blurred-applied runner other act)

  -- the end of this shred is the same
  no_one : (gone : List ℕ) (ss : List (Shred P)) → has gone n ≡ true
      → map (came n x) (filter (λ s. not (has gone s.number)) ss) ≡ filter (λ s. not (has gone s.number)) ss
  no_one gone [] is = refl
  no_one gone (s ∷ ss) is = by (has gone s.number) refl (no_one gone ss is)
    where
      by : (b : Bool) → has gone s.number ≡ b → map (came n x) (filter (λ s. not (has gone s.number)) ss) ≡ filter
          (λ s. not (has gone s.number)) ss
          → map (came n x) (cond (not b) (s ∷ filter (λ s. not (has gone s.number)) ss)
          (filter (λ s. not (has gone s.number)) ss)) ≡ cond (not b)
          (s ∷ filter (λ s. not (has gone s.number)) ss) (filter (λ s. not (has gone s.number)) ss)
      by true e ih = ih
      by false e ih =
          let ne : nat_eq s.number n ≡ false = ne_eqb s.number n (λ e2. let t : has gone s.number ≡ true =
          ap (has gone) e2 ∙ is in absurd (cc)) in
          ap (λ c. pick c (record s { progress = x }) s ∷ map (came n x) (filter (λ s. not (has gone s.number)) ss))
          ne ∙ ap (λ r. s ∷ r) ih

  none_came : (ss : List (Shred P)) → find (λ s. nat_eq s.number n) ss ≡ None → map (came n x) ss ≡ ss
  none_came [] none = refl
  none_came (s ∷ ss) none = by (nat_eq s.number n) none (none_came ss)
    where
      by : (b : Bool) → cond b (Some s) (find (λ s. nat_eq s.number n) ss) ≡ None
          → (find (λ s. nat_eq s.number n) ss ≡ None → map (came n x) ss ≡ ss)
          → pick b (record s { progress = x }) s ∷ map (came n x) ss ≡ s ∷ ss
      by true is ih = absurd (cc is)
      by false is ih = ap (λ r. s ∷ r) (ih is)

-- who is gone stays gone
pub gone-grows : {P : Type 0} (n m : ℕ) (gone : List ℕ) (ss : List (Shred P)) → has gone m ≡ true
    → has (fold (one_more_ends n) gone ss) m ≡ true
gone-grows n m gone [] is = is
gone-grows n m gone (s ∷ ss) is = gone-grows n m (one_more_ends n gone s) ss
    (by (nat_eq s.number n || has gone s.parent))
  where
    by : (b : Bool) → has (pick b (gone ++ s.number ∷ []) gone) m ≡ true
    by true = has-push gone s.number m ∙ ap (λ b. b || nat_eq s.number m) is
    by false = is

-- a live shred ends with itself
pub ends_itself : {P : Type 0} (n : ℕ) (gone : List ℕ) (ss : List (Shred P)) (s : Shred P)
    → find (λ s. nat_eq s.number n) ss ≡ Some s → has (fold (one_more_ends n) gone ss) n ≡ true
ends_itself n gone [] s is = absurd (cc is)
ends_itself n gone (t ∷ ss) s is = by (nat_eq t.number n) refl is (λ gone2. ends_itself n gone2 ss s)
  where
    by : (b : Bool) → nat_eq t.number n ≡ b → cond b (Some t) (find (λ s. nat_eq s.number n) ss) ≡ Some s
        → ((gone2 : List ℕ) → find (λ s. nat_eq s.number n) ss ≡ Some s
        → has (fold (one_more_ends n) gone2 ss) n ≡ true)
        → has (fold (one_more_ends n) (one_more_ends n gone t) ss) n ≡ true
    by true e found ih =
        gone-grows n n (one_more_ends n gone t) ss
        (ap (λ b. has (pick (b || has gone t.parent) (gone ++ t.number ∷ []) gone) n) e ∙ has-push gone t.number n
        ∙ ap (λ b. has gone n || b) e ∙ or-true (has gone n))
    by false e found ih = ih (one_more_ends n gone t) found

-- the stop lets no shred go on
abbrev pub Ends : Stop → Type 0
Ends (Asked (At time)) = ⊥
Ends (Asked (On event)) = ⊥
Ends (Asked End) = Unit {0}
Ends (Trapped trap place) = Unit {0}
Ends WentWrong = Unit {0}

module _ {P : Type 0} (n : ℕ) (x : P) where
  ends-carried : (run : Run P) (k : ℕ) (stop : Stop) → Ends stop → carried_out run k stop ≡ ended run k
  ends-carried run k (Asked (At time)) ends = absurd ends
  ends-carried run k (Asked (On event)) ends = absurd ends
  ends-carried run k (Asked End) ends = refl
  ends-carried run k (Trapped trap place) ends = refl
  ends-carried run k WentWrong ends = refl

  carried-blurred : (run : Run P) (s : Option (Shred P)) (stop : Stop) → Ends stop → live run n ≡ s
      → carried_out_where (blurred n x run) (option_map (came n x) s) stop ≡ carried_out_where run s stop
  carried-blurred run None stop ends is = ap (λ shreds. record run { shreds = shreds })
      (none_came n x run.shreds is)
  carried-blurred run (Some s) stop ends is =
      let number : s.number ≡ n = (found_times (λ (s : Shred P). s.number) n run.shreds s is).0 in
      let e : (run2 : Run P) (k : ℕ) → k ≡ n → carried_out run2 k stop ≡ ended run2 n =
      λ run2 k same. ends-carried run2 k stop ends ∙ ap (ended run2) same in
      e (blurred n x run) (came n x s).number (number-came n x s ∙ number)
      ∙ blurred-ended n x run n
      ∙ ap (λ shreds. record (ended run n) { shreds = shreds })
      (no_one n x (end_with n run.shreds) run.shreds (ends_itself n [] run.shreds s is))
      ∙ sym (e run s.number number)

  -- where its slice ends a shred, it makes no difference how far that one came
  pub after_ends : (runner : Runner P) (run : Run P) (slice : Slice P) → Ends slice.stop
      → after_slice runner run n (record slice { progress = x }) ≡ after_slice runner run n slice
  after_ends runner run slice ends =
      let left : P → Run P = λ p. record run {
        store = slice.store;
        shreds = map (came n p) run.shreds;
        begun =
            run.begun + slice.begun;
      } in
      let wake : Wake = record { time = slice.store.now; shred = n; trap = trap_of slice.stop } in
      let acted : P → Run P = λ p. noted (fold (applied runner n) (left p) slice.acts) wake in
      let last : Run P → Run P = λ r. carried_out_where r (live r n) slice.stop in
      let blur : (r : Run P) → last r ≡ last (blurred n x r) =
      λ r. sym (ap (λ s. carried_out_where (blurred n x r) s slice.stop) (find-came n x n r.shreds)
      ∙ carried-blurred r (live r n) slice.stop ends refl) in
      let lefts : blurred n x (left x) ≡ blurred n x (left slice.progress) =
      ap (λ shreds. record run { store = slice.store; shreds = shreds; begun = run.begun + slice.begun })
      (again n x x run.shreds ∙ sym (again n x slice.progress run.shreds)) in
      let same : blurred n x (acted x) ≡ blurred n x (acted slice.progress) =
      ap (λ r. noted r wake) (blurred-acts n x runner slice.acts (left x) (left slice.progress) lefts) in
      blur (acted x) ∙ ap last same ∙ sym (blur (acted slice.progress))
