-- Shreds end one by one: who has ended, and what is left.
use Rattle.std.proofs.Common.{◌≡◌, ℕ, Bool, true, false, cond, not, ◌||◌, nat_eq, List, [], ◌∷◌, ◌++◌, filter, fold, Option, Some, None, inl, inr, refl, sym, ap, ◌∙◌}
use Rattle.std.proofs.lemmas.Bool.{eq-eqb, ne_eqb, eqb-true, cases_eq}
use Rattle.ugen_sample.specs.Connection.{Connection}
use Rattle.ugen_sample.specs.declared.unit.UnitState.{UnitState}
use Rattle.ugen_sample.specs.UnitState.{Units, unit_at}
use Rattle.ugen_graph.specs.Links as links
use Rattle.ck_store.specs.Store.{Store}
use Rattle.ck_store.specs.Steps.{pick}
use Rattle.ck_meaning.specs.Replay.{Stopped}
use Rattle.ck_run.specs.Run.{Shred, Due, Wait, Run, has, one_more_ends, end_with, without, is_made_by, touches}
use Rattle.ck_run.specs.Family.{IsFamily}
use Rattle.ck_run.proofs.Family.{has-push, ends_those}
use Rattle.machine_world.specs.Units.{detached}
use Rattle.machine_world.specs.Units as made
use Rattle.chuck_vm.proofs.Among.{Among, all_at}

abbrev pub dues_but : ℕ → List Due → List Due
dues_but n dues = filter (λ d. not (nat_eq d.shred n)) dues

abbrev pub waits_but : ℕ → List Wait → List Wait
waits_but n waits = filter (λ w. not (nat_eq w.shred n)) waits

-- the store without the connections of what these shreds made
abbrev pub cut : (gone : List ℕ) → Store → Store
cut gone store = record store {
  connections = filter (λ c. not (touches store.units gone c)) store.connections;
}

pub filter-all : {A : Type 0} (f : A → ℕ) (xs : List A) → xs ≡ filter (λ x. not (has [] (f x))) xs
filter-all f [] = refl
filter-all f (x ∷ xs) = ap (λ r. x ∷ r) (filter-all f xs)

-- nobody made anything
none_made : (o : Option UnitState) → is_made_by [] o ≡ false
none_made None = refl
none_made (Some unit) = refl

pub none_touched : (units : Units) (cs : List Connection)
    → cs ≡ filter (λ c. not (touches units [] c)) cs
none_touched units [] = refl
none_touched units (c ∷ cs) =
    let none : touches units [] c ≡ false =
    ap (λ b. b || is_made_by [] (unit_at units c.to)) (none_made (unit_at units c.from))
    ∙ none_made (unit_at units c.to) in
    let rest = filter (λ c. not (touches units [] c)) cs in
    ap (λ r. c ∷ r) (none_touched units cs)
    ∙ sym (ap (λ b. cond (not b) (c ∷ rest) rest) none)

-- two filters, one after another
filter-two : {A : Type 0} (p q r : A → Bool) → ((x : A) → (p x || q x) ≡ r x) → (xs : List A)
    → filter (λ x. not (q x)) (filter (λ x. not (p x)) xs) ≡ filter (λ x. not (r x)) xs
filter-two p q r both [] = refl
filter-two p q r both (x ∷ xs) =
    by (p x) (q x) refl (filter-two p q r both xs)
    ∙ ap (λ b. cond (not b) (x ∷ filter (λ x. not (r x)) xs) (filter (λ x. not (r x)) xs)) (both x)
  where
    by : (b c : Bool) → q x ≡ c
        → filter (λ x. not (q x)) (filter (λ x. not (p x)) xs) ≡ filter (λ x. not (r x)) xs
        → filter (λ x. not (q x))
        (cond (not b) (x ∷ filter (λ x. not (p x)) xs) (filter (λ x. not (p x)) xs))
        ≡ cond (not (b || c)) (x ∷ filter (λ x. not (r x)) xs) (filter (λ x. not (r x)) xs)
    by true c e ih = ih
    by false true e ih =
        ap (λ d. cond (not d) (x ∷ filter (λ x. not (q x)) (filter (λ x. not (p x)) xs))
        (filter (λ x. not (q x)) (filter (λ x. not (p x)) xs))) e ∙ ih
    by false false e ih =
        ap (λ d. cond (not d) (x ∷ filter (λ x. not (q x)) (filter (λ x. not (p x)) xs))
        (filter (λ x. not (q x)) (filter (λ x. not (p x)) xs))) e ∙ ap (λ r. x ∷ r) ih

-- one more has ended
pushed : (gone : List ℕ) (m k : ℕ) → (has gone k || nat_eq k m) ≡ has (gone ++ m ∷ []) k
pushed gone m k =
    ap (λ b. has gone k || b) (turned k m) ∙ sym (has-push gone m k)
  where
    turned : (a b : ℕ) → nat_eq a b ≡ nat_eq b a
    turned a b = elim (cases_eq a b) [
      | inl e ↦ eq-eqb a b e ∙ sym (eq-eqb b a (sym e))
      | inr ne ↦ ne_eqb a b ne
          ∙ sym (ne_eqb b a (λ e. ne (sym e)))
    ]

pub filter-more : {A : Type 0} (f : A → ℕ) (gone : List ℕ) (m : ℕ) (xs : List A)
    → filter (λ x. not (nat_eq (f x) m)) (filter (λ x. not (has gone (f x))) xs)
    ≡ filter (λ x. not (has (gone ++ m ∷ []) (f x))) xs
filter-more f gone m xs =
    filter-two (λ x. has gone (f x)) (λ x. nat_eq (f x) m) (λ x. has (gone ++ m ∷ []) (f x))
    (λ x. pushed gone m (f x)) xs

made_more : (gone : List ℕ) (m : ℕ) (o : Option UnitState)
    → (is_made_by gone o || links.is_made_by m o) ≡ is_made_by (gone ++ m ∷ []) o
made_more gone m None = refl
made_more gone m (Some unit) = pushed gone m unit.maker

exchanged : (a b c d : Bool) → ((a || b) || (c || d)) ≡ ((a || c) || (b || d))
exchanged true b c d = refl
exchanged false true true d = refl
exchanged false true false d = refl
exchanged false false c d = refl

touched_more : (units : Units) (gone : List ℕ) (m : ℕ) (c : Connection)
    → (touches units gone c || made.touches units m c) ≡ touches units (gone ++ m ∷ []) c
touched_more units gone m c =
    let from = unit_at units c.from in
    let to = unit_at units c.to in
    exchanged (is_made_by gone from) (is_made_by gone to) (links.is_made_by m from)
    (links.is_made_by m to)
    ∙ ap (λ b. b || (is_made_by gone to || links.is_made_by m to)) (made_more gone m from)
    ∙ ap (λ b. is_made_by (gone ++ m ∷ []) from || b) (made_more gone m to)

-- its connections are taken out too
pub cut_more : (gone : List ℕ) (m : ℕ) (store : Store)
    → detached m (cut gone store) ≡ cut (gone ++ m ∷ []) store
cut_more gone m store =
    ap (λ cs. record store { connections = cs })
    (filter-two (touches store.units gone) (made.touches store.units m)
    (touches store.units (gone ++ m ∷ [])) (touched_more store.units gone m) store.connections)

-- the same have ended
filter_same : {A : Type 0} (p q : A → Bool) → ((x : A) → p x ≡ q x) → (xs : List A)
    → filter (λ x. not (p x)) xs ≡ filter (λ x. not (q x)) xs
filter_same p q same [] = refl
filter_same p q same (x ∷ xs) =
    ap (λ b. cond (not b) (x ∷ filter (λ x. not (p x)) xs) (filter (λ x. not (p x)) xs)) (same x)
    ∙ ap (λ ys. cond (not (q x)) (x ∷ ys) ys) (filter_same p q same xs)

made_same : (a b : List ℕ) → ((m : ℕ) → has a m ≡ has b m) → (o : Option UnitState)
    → is_made_by a o ≡ is_made_by b o
made_same a b same None = refl
made_same a b same (Some unit) = same unit.maker

touched_same : (units : Units) (a b : List ℕ) → ((m : ℕ) → has a m ≡ has b m) → (c : Connection)
    → touches units a c ≡ touches units b c
touched_same units a b same c =
    ap (λ t. t || is_made_by a (unit_at units c.to)) (made_same a b same (unit_at units c.from))
    ∙ ap (λ t. is_made_by b (unit_at units c.from) || t) (made_same a b same (unit_at units c.to))

pub same_gone : (run : Run Stopped) (a b : List ℕ) → ((m : ℕ) → has a m ≡ has b m)
    → without run a ≡ without run b
same_gone run a b same =
    let one = without run a in
    let two = without run b in
    ap (λ ss. record one { shreds = ss })
    (filter_same (λ (s : Shred Stopped). has a s.number) (λ s. has b s.number) (λ s. same s.number) run.shreds)
    ∙ ap (λ ds. record one { shreds = two.shreds; due = ds })
    (filter_same (λ (d : Due). has a d.shred) (λ d. has b d.shred) (λ d. same d.shred) run.due)
    ∙ ap (λ ws. record one { shreds = two.shreds; due = two.due; waits = ws })
    (filter_same (λ (w : Wait). has a w.shred) (λ w. has b w.shred) (λ w. same w.shred) run.waits)
    ∙ ap (λ cs. record two { store = record run.store { connections = cs } })
    (filter_same (touches run.store.units a) (touches run.store.units b)
    (touched_same run.store.units a b same) run.store.connections)

-- nobody has ended yet
pub none_gone : (run : Run Stopped) → run ≡ without run []
none_gone run =
    let none = without run [] in
    ap (λ ss. record run { shreds = ss }) (filter-all (λ (s : Shred Stopped). s.number) run.shreds)
    ∙ ap (λ ds. record run { shreds = none.shreds; due = ds }) (filter-all (λ (d : Due). d.shred) run.due)
    ∙ ap (λ ws. record run { shreds = none.shreds; due = none.due; waits = ws })
    (filter-all (λ (w : Wait). w.shred) run.waits)
    ∙ ap (λ cs. record none { store = record run.store { connections = cs } })
    (none_touched run.store.units run.store.connections)

-- those that end are the least that hold the shred and the children of each of theirs
covered : (n : ℕ) (S : ℕ → Bool) (shreds : List (Shred Stopped)) (gone : List ℕ)
    → ((m : ℕ) → has gone m ≡ true → S m ≡ true)
    → ((s : Shred Stopped) → Among shreds s → s.number ≡ n → S s.number ≡ true)
    → ((s : Shred Stopped) → Among shreds s → S s.parent ≡ true → S s.number ≡ true) → (m : ℕ)
    → has (fold (one_more_ends n) gone shreds) m ≡ true → S m ≡ true
covered n S [] gone so_far itself children m is = so_far m is
covered n S (s ∷ shreds) gone so_far itself children m is =
    covered n S shreds (one_more_ends n gone s)
    (next (nat_eq s.number n) refl (has gone s.parent) refl)
    (λ t among. itself t (inr among)) (λ t among. children t (inr among)) m is
  where
    more : S s.number ≡ true → (k : ℕ) → has (gone ++ s.number ∷ []) k ≡ true → S k ≡ true
    more it k is = by (has gone k) refl (sym (has-push gone s.number k) ∙ is)
      where
        by : (b : Bool) → has gone k ≡ b → (b || nat_eq s.number k) ≡ true → S k ≡ true
        by true e h = so_far k e
        by false e h = ap S (sym (eqb-true s.number k h)) ∙ it

    next : (b : Bool) → nat_eq s.number n ≡ b → (c : Bool) → has gone s.parent ≡ c → (k : ℕ)
        → has (pick (b || c) (gone ++ s.number ∷ []) gone) k ≡ true → S k ≡ true
    next true e c h k is = more (itself s (inl refl) (eqb-true s.number n e)) k is
    next false e true h k is = more (children s (inl refl) (so_far s.parent h)) k is
    next false e false h k is = so_far k is

same_truth : (a b : Bool) → (a ≡ true → b ≡ true) → (b ≡ true → a ≡ true) → a ≡ b
same_truth true b to back = sym (to refl)
same_truth false true to back = back refl
same_truth false false to back = refl

module _ (n next : ℕ) (start : List (Shred Stopped)) (family : IsFamily next start) where
  abbrev ends : ℕ → Bool
  ends = has (end_with n start)

  those : (s : Shred Stopped) → Among start s → ends s.number ≡ (nat_eq s.number n || ends s.parent)
  those s among =
      all_at (λ (s : Shred Stopped). ends s.number ≡ (nat_eq s.number n || ends s.parent)) start s
      (ends_those n next start family).1 among

  -- the shred ends, and the children of those that end
  pub itself_ends : (s : Shred Stopped) → Among start s → s.number ≡ n → ends s.number ≡ true
  itself_ends s among is = those s among ∙ ap (λ b. b || ends s.parent) (eq-eqb s.number n is)

  pub child_ends : (s : Shred Stopped) → Among start s → ends s.parent ≡ true → ends s.number ≡ true
  child_ends s among is = those s among ∙ ap (λ b. nat_eq s.number n || b) is ∙ by (nat_eq s.number n)
    where
      by : (b : Bool) → (b || true) ≡ true
      by true = refl
      by false = refl

  -- and so does the parent of another that ends
  pub parent_ends : (s : Shred Stopped) → Among start s → (s.number ≡ n → ⊥) → ends s.number ≡ true
      → ends s.parent ≡ true
  parent_ends s among other is =
      ap (λ b. b || ends s.parent) (sym (ne_eqb s.number n other)) ∙ sym (those s among) ∙ is

  -- who ends is there
  pub end_there : (m : ℕ) → ends m ≡ true → (s : Shred Stopped) × Among start s × (s.number ≡ m)
  end_there m is =
      numbered start m (covered n (has (numbers start)) start [] (λ k none. absurd (cc none))
      (λ s among e. among_number start s among) (λ s among up. among_number start s among) m is)
    where
      numbers : List (Shred Stopped) → List ℕ
      numbers [] = []
      numbers (s ∷ shreds) = s.number ∷ numbers shreds

      among_number : (shreds : List (Shred Stopped)) (s : Shred Stopped) → Among shreds s
          → has (numbers shreds) s.number ≡ true
      among_number [] s is = absurd is
      among_number (t ∷ shreds) s (inl is) =
          ap (λ b. b || has (numbers shreds) s.number)
          (eq-eqb t.number s.number (ap (λ (s : Shred Stopped). s.number) (sym is)))
      among_number (t ∷ shreds) s (inr more) = by (nat_eq t.number s.number) (among_number shreds s more)
        where
          by : (b : Bool) → has (numbers shreds) s.number ≡ true → (b || has (numbers shreds) s.number) ≡ true
          by true h = refl
          by false h = h

      numbered : (shreds : List (Shred Stopped)) (m : ℕ) → has (numbers shreds) m ≡ true
          → (s : Shred Stopped) × Among shreds s × (s.number ≡ m)
      numbered [] m is = absurd (cc is)
      numbered (s ∷ shreds) m is = by (nat_eq s.number m) refl is (numbered shreds m)
        where
          by : (b : Bool) → nat_eq s.number m ≡ b → (b || has (numbers shreds) m) ≡ true
              → (has (numbers shreds) m ≡ true → (t : Shred Stopped) × Among shreds t × (t.number ≡ m))
              → (t : Shred Stopped) × Among (s ∷ shreds) t × (t.number ≡ m)
          by true e h ih = (s, inl refl, eqb-true s.number m e)
          by false e h ih = let more = ih h in (more.0, inr more.1, more.2)

  -- these have ended: some that end, and with each its children
  pub record AreGone (gone : List ℕ) : Type 0 where
    pub within : (m : ℕ) → has gone m ≡ true → ends m ≡ true
    pub closed : (s : Shred Stopped) → Among start s → has gone s.parent ≡ true → has gone s.number ≡ true

  pub none_are_gone : AreGone []
  none_are_gone = record { within = λ m is. absurd (cc is); closed = λ s among is. absurd (cc is) }

  -- one more
  pub one_more : (gone : List ℕ) (s : Shred Stopped) → AreGone gone → ends s.number ≡ true
      → ((t : Shred Stopped) → Among start t → t.parent ≡ s.number → has gone t.number ≡ true)
      → AreGone (gone ++ s.number ∷ [])
  one_more gone s are it children = record {
    within = λ m is. within m (has gone m) refl (sym (has-push gone s.number m) ∙ is);
    closed = λ t among is.
        has-push gone s.number t.number
        ∙ ap (λ b. b || nat_eq s.number t.number)
        (closed t among (has gone t.parent) refl (sym (has-push gone s.number t.parent) ∙ is));
  }
    where
      within : (m : ℕ) (b : Bool) → has gone m ≡ b → (b || nat_eq s.number m) ≡ true → ends m ≡ true
      within m true e is = are.within m e
      within m false e is = ap ends (sym (eqb-true s.number m is)) ∙ it

      closed : (t : Shred Stopped) → Among start t → (b : Bool) → has gone t.parent ≡ b
          → (b || nat_eq s.number t.parent) ≡ true → has gone t.number ≡ true
      closed t among true e is = are.closed t among e
      closed t among false e is = children t among (sym (eqb-true s.number t.parent is))

  -- all have ended once the shred has, where there is one
  pub all_gone : (gone : List ℕ) → AreGone gone
      → ((s : Shred Stopped) → Among start s → s.number ≡ n → has gone s.number ≡ true) → (m : ℕ)
      → has gone m ≡ ends m
  all_gone gone are itself m =
      same_truth (has gone m) (ends m) (are.within m)
      (covered n (has gone) start [] (λ k none. absurd (cc none)) itself are.closed m)
