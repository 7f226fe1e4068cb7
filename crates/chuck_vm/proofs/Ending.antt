-- A shred of a machine ends, and those that end with it.
use Rattle.std.proofs.Common.{◌≡◌, ℕ, ◌<◌, Bool, true, false, cond, not, nat_eq, List, [], ◌∷◌, ◌++◌, map, filter, find, length, is_some, Some, None, ◌⊎◌, inl, inr, refl, sym, ap, ◌∙◌, subst, arith}
use Rattle.std.specs.List.{IsAmong}
use Rattle.std.proofs.lemmas.Bool.{eq-eqb, eqb-true}
use Rattle.keyed_lists.proofs.Changes.{map-without}
use Rattle.ck_code.specs.declared.code.CodeParts.{CodeParts}
use Rattle.ck_store.specs.Store.{Store}
use Rattle.ck_meaning.specs.Replay.{Stopped}
use Rattle.ck_run.specs.Family.{IsFamily}
use Rattle.ck_run.specs.Run.{Shred, Due, Wait, Run, has, end_with, ended, without}
use Rattle.ck_run.proofs.Family.{has-this, has-other}
use Rattle.shred_state.specs.Frames.{Standing}
use Rattle.live_shreds.specs.Live as live
use Rattle.live_shreds.specs.Live.{EndsWith, Itself, Child}
use Rattle.shreduler.specs.Queue as queue
use Rattle.event_queue.specs.Waiters as waiters
use Rattle.machine_world.specs.Units.{detached}
use Rattle.machine_world.specs.Worlds.{StandsFor}
use Rattle.chuck_vm.specs.declared.machine.Machine.{Machine}
use Rattle.chuck_vm.specs.Machine.{shred_of, shreds_of, due_of, wait_of, AreDueAlike, WaitAlike, Stands, Does}
use Rattle.chuck_vm.proofs.Among.{Among, among, among-map, among-filter, filter-among, among-find, find-among, fewer}
use Rattle.chuck_vm.proofs.Ends.{cut, cut_more, filter-more, same_gone, none_gone, itself_ends, child_ends, parent_ends, end_there, AreGone, none_are_gone, one_more, all_gone}
use Rattle.chuck_vm.proofs.Stands.{taken_due, taken_waits}

-- a machine in which one more has ended
pub one_gone : (now new : Machine) (run : Run Stopped) (gone : List ℕ) (m : ℕ)
    → Stands now (without run gone) → new.code ≡ now.code → new.shreds ≡ live.without m now.shreds
    → new.due ≡ queue.without m now.due → new.waits ≡ waiters.without m now.waits
    → ((store : Store) → StandsFor now.world store → StandsFor new.world (detached m store))
    → Stands new (without run (gone ++ m ∷ []))
one_gone now new run gone m stands code shreds due waits world = record {
  store = subst (StandsFor new.world) (cut_more gone m run.store) (world (cut gone run.store) stands.store);
  shreds = ap (λ code. shreds_of code new.shreds) code ∙ ap (shreds_of now.code) shreds
      ∙ map-without (shred_of now.code) (λ s. s.number) m now.shreds
      ∙ ap (filter (λ (s : Shred Stopped). not (nat_eq s.number m))) stands.shreds
      ∙ filter-more (λ (s : Shred Stopped). s.number) gone m run.shreds;
  due = subst (AreDueAlike (map due_of new.due)) (filter-more (λ (d : Due). d.shred) gone m run.due)
      (taken_due m now.due new.due (without run gone).due due stands.due);
  waits = subst (WaitAlike (map wait_of new.waits)) (filter-more (λ (w : Wait). w.shred) gone m run.waits)
      (taken_waits m now.waits new.waits (without run gone).waits waits stands.waits);
}

-- the shreds of a machine that is on its way: those of the start that haven't ended
abbrev Left : CodeParts → List ℕ → (start : List (Shred Stopped)) → List Standing → Type 0
Left code gone start shreds =
    shreds_of code shreds ≡ filter (λ (s : Shred Stopped). not (has gone s.number)) start

not_true : (b : Bool) → not b ≡ true → b ≡ false
not_true true is = absurd (cc is)
not_true false is = refl

module _ (code : CodeParts) (n next : ℕ) (start : List (Shred Stopped)) (family : IsFamily next start)
    (gone : List ℕ) (are : AreGone n next start family gone) (shreds : List Standing)
    (left : Left code gone start shreds) where
  started : (s : Standing) → IsAmong shreds s → Among start (shred_of code s) × (has gone s.number ≡ false)
  started s is =
      let both = among-filter (λ (s : Shred Stopped). not (has gone s.number)) start (shred_of code s)
      (subst (λ ss. Among ss (shred_of code s)) left (among-map (shred_of code) shreds s (among shreds s is))) in
      (both.0, not_true (has gone s.number) both.1)

  -- who is left is live
  standing : (t : Shred Stopped) → Among start t → has gone t.number ≡ false
      → Among (shreds_of code shreds) t
  standing t is stays =
      subst (λ ss. Among ss t) (sym left)
      (filter-among (λ (s : Shred Stopped). not (has gone s.number)) start t is (ap not stays))

  find-shreds : (p : Shred Stopped → Bool) (ss : List Standing)
      → is_some (find p (shreds_of code ss)) ≡ is_some (find (λ s. p (shred_of code s)) ss)
  find-shreds p [] = refl
  find-shreds p (s ∷ ss) = by (p (shred_of code s)) (find-shreds p ss)
    where
      by : (b : Bool) → is_some (find p (shreds_of code ss)) ≡ is_some (find (λ s. p (shred_of code s)) ss)
          → is_some (cond b (Some (shred_of code s)) (find p (shreds_of code ss)))
          ≡ is_some (cond b (Some s) (find (λ s. p (shred_of code s)) ss))
      by true ih = refl
      by false ih = ih

  -- who ends with one that ends, ends
  down : (m k : ℕ) → EndsWith shreds m k → has (end_with n start) m ≡ true → has (end_with n start) k ≡ true
  down m k Itself is = is
  down m k (Child s there up) is =
      child_ends n next start family (shred_of code s) (started s there).0 (down m s.parent up is)

  -- the one from which the way goes down ends, as it is live
  pub from_ends : (at : ℕ) → (at ≡ n) ⊎ (has (end_with n start) at ≡ true)
      → is_some (live.numbered at shreds) ≡ true → has (end_with n start) at ≡ true
  from_ends at (inr is) some = is
  from_ends at (inl is) some =
      let found = find-among (λ (s : Shred Stopped). nat_eq s.number at) (shreds_of code shreds)
      (find-shreds (λ s. nat_eq s.number at) shreds ∙ some) in
      let start_has = (among-filter (λ (s : Shred Stopped). not (has gone s.number)) start found.0
      (subst (λ ss. Among ss found.0) left found.1)).0 in
      let number = eqb-true found.0.number at found.2 in
      ap (has (end_with n start)) (sym number)
      ∙ itself_ends n next start family found.0 start_has (number ∙ is)

  -- no live one has children here
  no_child : (m : ℕ) → live.child_of m shreds ≡ None → (t : Shred Stopped) → Among start t → t.parent ≡ m
      → has gone t.number ≡ true
  no_child m none t there parent = by (has gone t.number) refl
    where
      by : (b : Bool) → has gone t.number ≡ b → has gone t.number ≡ true
      by true e = e
      by false e =
          let some = among-find (λ (s : Shred Stopped). nat_eq s.parent m) (shreds_of code shreds) t
          (standing t there e) (eq-eqb t.parent m parent) in
          let other = find-shreds (λ s. nat_eq s.parent m) shreds ∙ ap is_some none in
          absurd (cc (some, other))

  -- one more is gone
  pub more_gone : (at : ℕ) (s : Standing) → (at ≡ n) ⊎ (has (end_with n start) at ≡ true)
      → is_some (live.numbered at shreds) ≡ true → EndsWith shreds at s.number → IsAmong shreds s
      → live.child_of s.number shreds ≡ None → AreGone n next start family (gone ++ s.number ∷ [])
  more_gone at s inside some ends there none =
      one_more n next start family gone (shred_of code s) are
      (down at s.number ends (from_ends at inside some)) (no_child s.number none)

  -- the way goes back to its parent, which hasn't ended
  pub back : (at : ℕ) (s : Standing) → (at ≡ n) ⊎ (has (end_with n start) at ≡ true)
      → is_some (live.numbered at shreds) ≡ true → EndsWith shreds at s.number → IsAmong shreds s
      → s.parent < s.number → (s.number ≡ n → ⊥)
      → (has (gone ++ s.number ∷ []) s.parent ≡ false) × (has (end_with n start) s.parent ≡ true)
  back at s inside some ends there older other = (
    has-other gone s.number s.parent (λ e. omega (arith, older, e)) ∙ stays (has gone s.parent) refl,
    parent_ends n next start family (shred_of code s) (started s there).0 other
        (down at s.number ends (from_ends at inside some)),
  )
    where
      stays : (b : Bool) → has gone s.parent ≡ b → has gone s.parent ≡ false
      stays true e =
          let so = are.closed (shred_of code s) (started s there).0 e in
          absurd (cc (so, (started s there).1))
      stays false e = e

  -- where the way ends at none, the shred was not there
  pub nobody : (at : ℕ) → (at ≡ n) ⊎ (has (end_with n start) at ≡ true) → has gone at ≡ false
      → is_some (live.numbered at shreds) ≡ false
      → (t : Shred Stopped) → Among start t → t.number ≡ n → has gone t.number ≡ true
  nobody at inside stays none t there is = absurd (by inside)
    where
      missing : (u : Shred Stopped) → Among start u → u.number ≡ at → ⊥
      missing u is number =
          let some = among-find (λ (s : Shred Stopped). nat_eq s.number at) (shreds_of code shreds) u
          (standing u is (ap (has gone) number ∙ stays)) (eq-eqb u.number at number) in
          let other = find-shreds (λ s. nat_eq s.number at) shreds ∙ none in
          absurd (cc (some, other))

      by : (at ≡ n) ⊎ (has (end_with n start) at ≡ true) → ⊥
      by (inl same) = missing t there (is ∙ sym same)
      by (inr ends) = let u = end_there n next start family at ends in missing u.0 u.1 u.2

-- a machine on the way of an end: these have ended, and the way goes on from this one
pub record EndsAt (old : Machine) (n next : ℕ) (family : IsFamily next (shreds_of old.code old.shreds))
    (at : ℕ) (now : Machine) : Type 0 where
  pub gone : List ℕ
  pub does : Does old (λ run. without run gone) now
  pub are : AreGone n next (shreds_of old.code old.shreds) family gone
  pub stays : has gone at ≡ false
  pub inside : (at ≡ n) ⊎ (has (end_with n (shreds_of old.code old.shreds)) at ≡ true)

pub at_first : (old : Machine) (n next : ℕ) (family : IsFamily next (shreds_of old.code old.shreds))
    → EndsAt old n next family n old
at_first old n next family = record {
  gone = [];
  does = λ run stands. subst (Stands old) (none_gone run) stands;
  are = none_are_gone n next (shreds_of old.code old.shreds) family;
  stays = refl;
  inside = inl refl;
}

-- over
pub ended_by : (old new : Machine) (n next : ℕ) (family : IsFamily next (shreds_of old.code old.shreds))
    (gone : List ℕ) → Does old (λ run. without run gone) new
    → AreGone n next (shreds_of old.code old.shreds) family gone
    → ((s : Shred Stopped) → Among (shreds_of old.code old.shreds) s → s.number ≡ n → has gone s.number ≡ true)
    → Does old (λ run. ended run n) new
ended_by old new n next family gone does are itself = λ run stands.
    subst (Stands new)
    (same_gone run gone (end_with n run.shreds) (λ m.
    all_gone n next (shreds_of old.code old.shreds) family gone are itself m
    ∙ ap (λ ss. has (end_with n ss) m) stands.shreds)) (does run stands)

module _ (old now new : Machine) (n next : ℕ) (family : IsFamily next (shreds_of old.code old.shreds))
    (at : ℕ) (so_far : EndsAt old n next family at now) (some : (run : Run Stopped) × Stands old run)
    (code : now.code ≡ old.code) where
  left : Left old.code so_far.gone (shreds_of old.code old.shreds) now.shreds
  left =
      ap (λ code. shreds_of code now.shreds) (sym code) ∙ (so_far.does some.0 some.1).shreds
      ∙ ap (filter (λ (s : Shred Stopped). not (has so_far.gone s.number))) (sym some.1.shreds)

  -- it was not there
  pub over_by_none : is_some (live.numbered at now.shreds) ≡ false → Does old (λ run. ended run n) now
  over_by_none none =
      ended_by old now n next family so_far.gone so_far.does so_far.are
      (nobody old.code n next (shreds_of old.code old.shreds) family so_far.gone so_far.are now.shreds left at
      so_far.inside so_far.stays none)

  -- what was taken out, and what was done to the others
  pub record Took (s : Standing) : Type 0 where
    pub is_live : is_some (live.numbered at now.shreds) ≡ true
    pub ends : EndsWith now.shreds at s.number
    pub there : IsAmong now.shreds s
    pub childless : live.child_of s.number now.shreds ≡ None
    pub older : s.parent < s.number
    pub code_is : new.code ≡ now.code
    pub shreds_are : new.shreds ≡ live.without s.number now.shreds
    pub due_is : new.due ≡ queue.without s.number now.due
    pub waits_are : new.waits ≡ waiters.without s.number now.waits
    pub world_is : (store : Store) → StandsFor now.world store → StandsFor new.world (detached s.number store)

  module _ (s : Standing) (took : Took s) where
    does_more : Does old (λ run. without run (so_far.gone ++ s.number ∷ [])) new
    does_more = λ run stands.
        one_gone now new run so_far.gone s.number (so_far.does run stands) took.code_is took.shreds_are
        took.due_is took.waits_are took.world_is

    are_more : AreGone n next (shreds_of old.code old.shreds) family (so_far.gone ++ s.number ∷ [])
    are_more =
        more_gone old.code n next (shreds_of old.code old.shreds) family so_far.gone so_far.are now.shreds left
        at s so_far.inside took.is_live took.ends took.there took.childless

    -- it was the shred itself
    pub over_by_itself : s.number ≡ n → Does old (λ run. ended run n) new
    over_by_itself is =
        ended_by old new n next family (so_far.gone ++ s.number ∷ []) does_more are_more
        (λ t there number.
        ap (λ m. has (so_far.gone ++ m ∷ []) t.number) (is ∙ sym number) ∙ has-this so_far.gone t.number)

    -- or one of its line
    pub on_to_parent : (s.number ≡ n → ⊥) → EndsAt old n next family s.parent new
    on_to_parent other =
        let more = back old.code n next (shreds_of old.code old.shreds) family so_far.gone so_far.are now.shreds
        left at s so_far.inside took.is_live took.ends took.there took.older other in
        record {
          gone = so_far.gone ++ s.number ∷ [];
          does = does_more;
          are = are_more;
          stays = more.0;
          inside = inr more.1;
        }

    -- fewer are left
    pub fewer_left : length new.shreds < length now.shreds
    fewer_left =
        subst (λ ss. length ss < length now.shreds) (sym took.shreds_are)
        (fewer (λ (t : Standing). not (nat_eq t.number s.number)) now.shreds s (among now.shreds s took.there)
        (ap not (eq-eqb s.number s.number refl)))
