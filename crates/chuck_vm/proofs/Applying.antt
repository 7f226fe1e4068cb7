-- The acts of a slice, one after another.
use Rattle.std.proofs.Common.{◌≡◌, ℕ, suc, ◌≤◌, nat_eq, List, [], ◌∷◌, ◌++◌, fold, filter, find, Option, Some, None, refl, sym, ap, ◌∙◌, subst, arith, append_assoc, append-nil}
use Rattle.std.proofs.lemmas.List.Concat.{flat_map-append}
use Rattle.ck_code.specs.declared.code.CodeParts.{CodeParts}
use Rattle.ck_store.specs.Store.{Act, Printed, Sporked, WokeOne, WokeAll, Removed}
use Rattle.ck_meaning.specs.Replay.{Stopped}
use Rattle.ck_run.specs.Run.{Runner, Shred, Wait, Piece, Run, live, live_at, with_child, woken, ended_where, applied, written}
use Rattle.ck_run.specs.Report.{text_bytes, piece_bytes}
use Rattle.ck_run.specs.Told.{AddsFront}
use Rattle.ck_run.specs.Sound.{IsOrderly, AreNumbered, AllSporks}
use Rattle.ck_run.proofs.Lists.{times-filter_le}
use Rattle.ck_run.proofs.Orderly.{orderly_child, orderly_end, orderly_woken, orderly_all}
use Rattle.chuck_vm.specs.declared.machine.Machine.{Machine}
use Rattle.chuck_vm.specs.Machine.{Stands, HasRun, OfEach, Does}
use Rattle.chuck_vm.specs.Running.{IsNumbered}
use Rattle.chuck_vm.specs.Telling.{CanBegin, IsNext}

-- the acts that are left, and the numbers of their sporks
pub record Next (next to : ℕ) (run : Run Stopped) (rest : List Act) : Type 0 where
  pub after : ℕ
  pub some : 1 ≤ after
  pub orderly : IsOrderly after run
  pub numbered : AreNumbered after to rest

orderly_applied : (runner : Runner Stopped) (n next to : ℕ) (run : Run Stopped) (act : Act) (rest : List Act)
    → 1 ≤ next → IsOrderly next run → AreNumbered next to (act ∷ rest)
    → Next next to (applied runner n run act) rest
orderly_applied runner n next to run (Printed line) rest le orderly are =
    record {
      after = next;
      some = le;
      orderly = record { family = orderly.family; once = orderly.once };
      numbered = are;
    }
orderly_applied runner n next to run (Sporked number f vs) rest le orderly are =
    record {
      after = suc next;
      some = omega arith;
      orderly =
          orderly_child next n number run (runner.begin f vs) (live run n) orderly le are.0 refl;
      numbered = are.1;
    }
orderly_applied runner n next to run (WokeOne event) rest le orderly are =
    record {
      after = next;
      some = le;
      orderly =
          orderly_woken next event run (find (λ wait. nat_eq wait.event event) run.waits) orderly refl;
      numbered =
          are;
    }
orderly_applied runner n next to run (WokeAll event) rest le orderly are =
    record {
      after = next;
      some = le;
      orderly =
          orderly_all next (filter (λ wait. nat_eq wait.event event) run.waits) run orderly
          (λ m. times-filter_le (λ (w : Wait). w.shred) m (λ wait. nat_eq wait.event event) run.waits);
      numbered =
          are;
    }
orderly_applied runner n next to run (Removed number) rest le orderly are =
    record {
      after = next;
      some = le;
      orderly = orderly_end next run (live_at run number) orderly;
      numbered =
          are;
    }

-- what was told between: some text
pub record TellsText (before after : Run Stopped) (pieces : List Piece) : Type 0 where
  pub samples_are : after.samples ≡ before.samples
  pub text_is : after.text ≡ before.text ++ pieces
  pub wakes_are : after.wakes ≡ before.wakes
  pub begun_are : after.begun ≡ before.begun

same_told : (before after : Run Stopped) → after.samples ≡ before.samples → after.text ≡ before.text
    → after.wakes ≡ before.wakes → after.begun ≡ before.begun → TellsText before after []
same_told before after samples text wakes begun = record {
  samples_are = samples;
  text_is = text ∙ sym (append-nil before.text);
  wakes_are = wakes;
  begun_are = begun;
}

child_text : (run : Run Stopped) (n k : ℕ) (p : Stopped) (o : Option (Shred Stopped))
    → TellsText run (with_child run n k p o) []
child_text run n k p None = same_told run run refl refl refl refl
child_text run n k p (Some s) = same_told run (with_child run n k p (Some s)) refl refl refl refl

woken_text : (run : Run Stopped) (o : Option Wait) → TellsText run (woken run o) []
woken_text run None = same_told run run refl refl refl refl
woken_text run (Some w) = same_told run (woken run (Some w)) refl refl refl refl

all_text : (waits : List Wait) (run : Run Stopped)
    → TellsText run (fold (λ now wait. woken now (Some wait)) run waits) []
all_text [] run = same_told run run refl refl refl refl
all_text (w ∷ waits) run = let h = all_text waits (woken run (Some w)) in record {
  samples_are = h.samples_are;
  text_is = h.text_is;
  wakes_are = h.wakes_are;
  begun_are = h.begun_are;
}

end_text : (run : Run Stopped) (o : Option (Shred Stopped)) → TellsText run (ended_where run o) []
end_text run None = same_told run run refl refl refl refl
end_text run (Some s) = same_told run (ended_where run (Some s)) refl refl refl refl

applied_text : (runner : Runner Stopped) (n : ℕ) (run : Run Stopped) (act : Act)
    → TellsText run (applied runner n run act) (written (act ∷ []))
applied_text runner n run (Printed line) =
    record { samples_are = refl; text_is = refl; wakes_are = refl; begun_are = refl }
applied_text runner n run (Sporked number f vs) = child_text run n number (runner.begin f vs) (live run n)
applied_text runner n run (WokeOne event) = woken_text run (find (λ wait. nat_eq wait.event event) run.waits)
applied_text runner n run (WokeAll event) = all_text (filter (λ wait. nat_eq wait.event event) run.waits) run
applied_text runner n run (Removed number) = end_text run (live_at run number)

-- what acts print comes in their order
written-cons : (act : Act) (acts : List Act) → written (act ∷ acts) ≡ written (act ∷ []) ++ written acts
written-cons (Printed line) acts = refl
written-cons (Sporked number f vs) acts = refl
written-cons (WokeOne event) acts = refl
written-cons (WokeAll event) acts = refl
written-cons (Removed number) acts = refl

pub acts_text : (runner : Runner Stopped) (n : ℕ) (acts : List Act) (run : Run Stopped)
    → TellsText run (fold (applied runner n) run acts) (written acts)
acts_text runner n [] run = same_told run run refl refl refl refl
acts_text runner n (act ∷ acts) run =
    let one = applied_text runner n run act in
    let rest = acts_text runner n acts (applied runner n run act) in
    record {
      samples_are = rest.samples_are ∙ one.samples_are;
      text_is = rest.text_is ∙ ap (λ ts. ts ++ written acts) one.text_is
          ∙ append_assoc run.text (written (act ∷ [])) (written acts)
          ∙ ap (λ ts. run.text ++ ts) (sym (written-cons act acts));
      wakes_are = rest.wakes_are ∙ one.wakes_are;
      begun_are = rest.begun_are ∙ one.begun_are;
    }

pub text-append : (names : List (List ℕ)) (one two : List Piece) → text_bytes names (one ++ two)
    ≡ text_bytes names one ++ text_bytes names two
text-append names one two = flat_map-append (piece_bytes names) one two

-- the next act is a spork that can begin, or none
next_is : (code : CodeParts) (next to : ℕ) (act : Act) (rest : List Act) → AreNumbered next to (act ∷ rest)
    → AllSporks (CanBegin code) (act ∷ rest) → IsNext code next act
next_is code next to (Printed line) rest are can = tt
next_is code next to (Sporked number f vs) rest are can = (are.0, can.0)
next_is code next to (WokeOne event) rest are can = tt
next_is code next to (WokeAll event) rest are can = tt
next_is code next to (Removed number) rest are can = tt

rest_can : (code : CodeParts) (act : Act) (rest : List Act) → AllSporks (CanBegin code) (act ∷ rest)
    → AllSporks (CanBegin code) rest
rest_can code (Printed line) rest can = can
rest_can code (Sporked number f vs) rest can = can.1
rest_can code (WokeOne event) rest can = can
rest_can code (WokeAll event) rest can = can
rest_can code (Removed number) rest can = can

module _ (code : CodeParts) (runner : Runner Stopped) (n : ℕ) where
  abbrev by : Run Stopped → List Act → Run Stopped
  by run acts = fold (applied runner n) run acts

  -- some acts have been applied and have printed a front, and others are to be
  pub record Applied (first : Machine) (acts : List Act) (now : Machine) (rest : List Act)
      (text text2 : List ℕ) : Type 0 where
    pub next : ℕ
    pub to : ℕ
    pub some : 1 ≤ next
    pub orderly : IsNumbered next now
    pub numbered : AreNumbered next to rest
    pub can : AllSporks (CanBegin code) rest
    pub front : List Piece
    pub front_is : written acts ≡ front ++ written rest
    pub text_is : (names : List (List ℕ)) → text2 ≡ text ++ text_bytes names front
    pub goes : OfEach first (λ start. HasRun now (λ run. by start acts ≡ by run rest))

  pub none_applied : (first : Machine) (acts : List Act) (text : List ℕ) (next to : ℕ) → 1 ≤ next
      → IsNumbered next first → AreNumbered next to acts → AllSporks (CanBegin code) acts
      → Applied first acts first acts text text
  none_applied first acts text next to some orderly numbered can = record {
    next = next;
    to = to;
    some = some;
    orderly = orderly;
    numbered = numbered;
    can = can;
    front = [];
    front_is = refl;
    text_is = λ names. sym (append-nil text);
    goes = λ start stands. record { run = start; stands = stands; so = refl };
  }

  pub one_applied : (first now now2 : Machine) (acts rest : List Act) (act : Act) (text text2 text3 : List ℕ)
      → Does now (λ run. applied runner n run act) now2
      → ((names : List (List ℕ)) → text3 ≡ text2 ++ text_bytes names (written (act ∷ [])))
      → Applied first acts now (act ∷ rest) text text2 → Applied first acts now2 rest text text3
  one_applied first now now2 acts rest act text text2 text3 becomes more so_far =
      let run = so_far.orderly.run in
      let next = orderly_applied runner n so_far.next so_far.to run act rest so_far.some so_far.orderly.so
      so_far.numbered in
      record {
        next = next.after;
        to = so_far.to;
        some = next.some;
        orderly = record {
          run = applied runner n run act;
          stands = becomes run so_far.orderly.stands;
          so = next.orderly;
        };
        numbered = next.numbered;
        can = rest_can code act rest so_far.can;
        front = so_far.front ++ written (act ∷ []);
        front_is = so_far.front_is ∙ ap (λ ps. so_far.front ++ ps) (written-cons act rest)
            ∙ sym (append_assoc so_far.front (written (act ∷ [])) (written rest));
        text_is = λ names. more names ∙ ap (λ t. t ++ text_bytes names (written (act ∷ []))) (so_far.text_is names)
            ∙ append_assoc text (text_bytes names so_far.front) (text_bytes names (written (act ∷ [])))
            ∙ ap (λ t. text ++ t) (sym (text-append names so_far.front (written (act ∷ []))));
        goes = λ start stands.
            let now_run = so_far.goes start stands in
            record {
              run = applied runner n now_run.run act;
              stands = becomes now_run.run now_run.stands;
              so = now_run.so;
            };
      }

  -- all have been applied
  module _ (first now : Machine) (acts rest : List Act) (text text2 : List ℕ) (none : rest ≡ [])
      (so_far : Applied first acts now rest text text2) where
    pub all_applied : Does first (λ run. by run acts) now
    all_applied = λ run stands.
        let now_run = so_far.goes run stands in
        subst (Stands now) (sym (now_run.so ∙ ap (by now_run.run) none)) now_run.stands

    pub all_written : (names : List (List ℕ)) → text2 ≡ text ++ text_bytes names (written acts)
    all_written names =
        let whole : written acts ≡ so_far.front = so_far.front_is
        ∙ ap (λ acts. so_far.front ++ written acts) none ∙ append-nil so_far.front in
        so_far.text_is names ∙ ap (λ ps. text ++ text_bytes names ps) (sym whole)

  -- at a failure a front was told
  pub front_applied : (first now : Machine) (acts rest : List Act) (text text2 text3 : List ℕ)
      → text3 ≡ text2 → Applied first acts now rest text text2 → (names : List (List ℕ))
      → AddsFront (text_bytes names (written acts)) text text3
  front_applied first now acts rest text text2 text3 same_text so_far names = (
    text_bytes names so_far.front,
    text_bytes names (written rest),
    ap (text_bytes names) so_far.front_is ∙ text-append names so_far.front (written rest),
    same_text ∙ so_far.text_is names,
  )

  -- the next one may be applied
  pub next_act : (first now : Machine) (acts rest : List Act) (act : Act) (text text2 : List ℕ)
      → Applied first acts now (act ∷ rest) text text2 → (next : ℕ) × IsNumbered next now × IsNext code next act
  next_act first now acts rest act text text2 so_far =
      (so_far.next, so_far.orderly, next_is code so_far.next so_far.to act rest so_far.numbered so_far.can)
