-- Frames that fit go on to fit, at the next place and as the store grows, and after each step that
-- is fine.

use Rattle.std.proofs.Common.{◌≡◌, ℕ, zero, suc, ◌+◌, ◌≤◌, Bool, true, false, nat_lt, List, [], ◌∷◌, ◌++◌, length, All, Some, refl, ◌∙◌, arith, slice_get}
use Rattle.std.proofs.lemmas.Bool.{ltb-true}
use Rattle.std.proofs.lemmas.List.Elements.{All-nil, All-cons, All-append}
use Rattle.ck_base.specs.declared.limits.TheConstants.{MAX_CALLS}
use Rattle.ck_values.specs.declared.kind.Elem.{Elem}
use Rattle.ck_values.specs.declared.kind.Kind.{Kind}
use Rattle.ck_values.specs.declared.kind.Kind.TheVariants.{One}
use Rattle.ck_values.specs.declared.trap.Place.{Place}
use Rattle.ck_values.specs.declared.trap.Trap.{Trap}
use Rattle.ck_values.specs.declared.trap.Trap.TheVariants.{CallDepth}
use Rattle.ck_values.specs.Datum.{Datum}
use Rattle.ck_store.specs.Store.{Keeps, Store, State, Request, At, On, End, Act, Try, Gives, Fails, Misfit, Shapes, shapes_of}
use Rattle.ck_store.specs.Steps.{pick, spent_from, room_for_call}
use Rattle.ck_store.specs.Objects.{Made}
use Rattle.ck_store.specs.Shreds.{with_act}
use Rattle.ck_typed.specs.declared.class.Class.{Class}
use Rattle.ck_typed.specs.WellFormed.{FoundWhere}
use Rattle.ck_code.specs.declared.code.Fun.{Fun}
use Rattle.ck_code.specs.declared.code.CodeParts.{CodeParts}
use Rattle.ck_code.specs.Machine.{Frame, frame, Effect, Next, Stops, Breaks, tried, on_top, step_at}
use Rattle.ck_code.specs.Verified.{Places, operands_at, Typing, AreAt, Finds, Topped, OnTop}
use Rattle.ck_code.specs.Fitting.{IsOf, Suits, Suit, AreCalling, AreFit, IsFitAct, IsFitState, IsFitEffect, IsFitRequest, IsWait, WhereItGoesOn}
use Rattle.ck_code.proofs.Standing.{found_is, where_found, found_more, kept_trans, stands_suits, all_stand_suit, suit_kept, act_kept}
use Rattle.ck_code.proofs.Suiting.{Fine}
use Rattle.ck_code.proofs.Nulls.{Traps, Headed}
use Rattle.ck_code.proofs.Tables.{Grown, Makes}

-- what holds anyway holds where a shred goes on
pub where_goes : (q : Request) (P : Type 0) → P → WhereItGoesOn q P
where_goes (At time) P h = h
where_goes (On event) P h = h
where_goes End P h = tt

module _ (code : CodeParts) (typing : Typing) (main : ℕ) where
  -- frames that wait go on to fit as the store grows
  calling_kept : (before after : Shapes) → Keeps before after → (g : ℕ) (rest : List Frame)
      → AreCalling code typing main before g rest → AreCalling code typing main after g rest
  calling_kept before after kept g [] h = h
  calling_kept before after kept g (below ∷ rest) h =
      let c = h.0 in (
        record {
          call = c.call;
          after = c.after;
          called = c.called;
          kind = c.kind;
          kinds = c.kinds;
          asked = c.asked;
          result = c.result;
          held = suit_kept code.classes before after kept c.kinds below.operands c.held;
          locals = found_more (slice_get code.funs below.fun) _ _ (λ fn suit.
              suit_kept code.classes before after kept fn.locals below.locals suit) c.locals;
        },
        calling_kept before after kept below.fun rest h.1,
      )

  -- so do all frames
  pub frames_kept : (before after : Shapes) → Keeps before after → (frames : List Frame)
      → AreFit code typing main before frames → AreFit code typing main after frames
  frames_kept before after kept [] h = h
  frames_kept before after kept (top ∷ rest) h =
      let r = h.0 in (
        record {
          kinds = r.kinds;
          asked = r.asked;
          held = suit_kept code.classes before after kept r.kinds top.operands r.held;
          locals = found_more (slice_get code.funs top.fun) _ _ (λ fn suit.
              suit_kept code.classes before after kept fn.locals top.locals suit) r.locals;
        },
        calling_kept before after kept top.fun rest h.1,
        h.2,
      )

  -- where a frame on top of others stands
  pub record Stand (fn : Fun) (places : Places) (f : ℕ) (rest : List Frame)
      (shapes : Shapes) : Type 0 where
    pub fun : slice_get code.funs f ≡ Some fn
    pub operands : slice_get typing.operands f ≡ Some places
    pub beneath : AreCalling code typing main shapes f rest
    pub few : length rest ≤ MAX_CALLS

  pub stand_kept : (fn : Fun) (places : Places) (f : ℕ) (rest : List Frame)
      (before after : Shapes) → Keeps before after → Stand fn places f rest before
      → Stand fn places f rest after
  stand_kept fn places f rest before after kept h =
      record {
        fun = h.fun;
        operands = h.operands;
        beneath = calling_kept before after kept f rest h.beneath;
        few = h.few;
      }

-- a call beyond the thousandth is a trap
few_fine : (active : ℕ) (b : Bool) → nat_lt active MAX_CALLS ≡ b
    → Fine {A = Unit {0}} (λ ok. suc active ≤ MAX_CALLS) (pick b (Gives tt) (Fails CallDepth))
few_fine active true e = omega (arith, ltb-true active MAX_CALLS e)
few_fine active false e = tt

pub room_fine : (active : ℕ) → Fine (λ ok. suc active ≤ MAX_CALLS) (room_for_call active)
room_fine active = few_fine active (nat_lt active MAX_CALLS) refl

-- one more element
All-snoc : {A : Type 0} (P : A → Type 0) (xs : List A) (x : A) → All P xs → P x
    → All P (xs ++ x ∷ [])
All-snoc P xs x all h = All-append P xs (x ∷ []) all (All-cons P x [] h (All-nil P))

module _ {code : CodeParts} {start : State} where
  -- a turn is spent, or none is left
  pub spent_fine : (turns : ℕ) (s : State) → turns ≡ s.turns → IsFitState code start s
      → Fine (λ s1. IsFitState code start s1 × (s1.store ≡ s.store)) (spent_from turns s)
  spent_fine zero s e h = tt
  spent_fine (suc turns) s e h = (
    record {
      store = h.store;
      time = h.time;
      turns = omega (arith, e, h.turns);
      acts = h.acts;
      kept = h.kept;
    },
    refl,
  )

  -- a state with a store that has grown
  pub grown_state : (s : State) (store : Store) → IsFitState code start s → Grown code s.store store
      → IsFitState code start (record s { store = store })
  grown_state s store h g =
      record {
        store = g.0;
        time = g.1 ∙ h.time;
        turns = h.turns;
        acts = λ all i d lt. act_kept code (shapes_of s.store) (shapes_of store) g.2 _ (h.acts all i d lt);
        kept = kept_trans (shapes_of start.store) (shapes_of s.store) (shapes_of store) h.kept g.2;
      }

  -- a state with one act more
  pub acted_state : (s : State) (act : Act) → IsFitState code start s
      → IsFitAct code (shapes_of s.store) act → IsFitState code start (with_act act s)
  acted_state s act h fits =
      record {
        store = h.store;
        time = h.time;
        turns = h.turns;
        acts = λ all. All-snoc (IsFitAct code (shapes_of s.store)) s.acts act (h.acts all) fits;
        kept = h.kept;
      }

-- what holds of an instruction's effect
module _ (Good : Effect → Type 0) where
  -- after a step that is fine
  pub good_try : {A : Type 0} (P : A → Type 0) (t : Try A) (place : Place) (s : State)
      (go : A → Effect) → Fine P t → ((trap : Trap) → Good (Breaks trap place s))
      → ((a : A) → P a → Good (go a)) → Good (tried t place s go)
  good_try P (Gives a) place s go fine fails next = next a fine
  good_try P (Fails trap) place s go fine fails next = fails trap
  good_try P Misfit place s go fine fails next = absurd fine

  -- a step that traps
  pub good_trap : {A : Type 0} (t : Try A) (place : Place) (s : State) (go : A → Effect) → Traps t
      → ((trap : Trap) → Good (Breaks trap place s)) → Good (tried t place s go)
  good_trap t place s go traps fails =
      good_try (λ a. ⊥) t place s go traps fails (λ a never. absurd never)

  -- after the top operand is taken
  pub good_top : (classes : List Class) (shapes : Shapes)
      (P : Kind → List Kind → Type 0) (kinds : List Kind) (ops : List Datum)
      (go : Datum → List Datum → Effect) → Topped kinds P
      → Suit classes shapes kinds ops
      → ((j : Kind) (beneath : List Kind) (v : Datum) (under : List Datum) → P j beneath
      → Suits classes shapes j v → Suit classes shapes beneath under → Good (go v under))
      → Good (on_top ops go)
  good_top classes shapes P [] ops go top held next = absurd top
  good_top classes shapes P (j ∷ kinds) [] go top held next = absurd held
  good_top classes shapes P (j ∷ kinds) (v ∷ under) go top held next =
      next j kinds v under top held.0 held.1

  -- after the first of what was taken
  pub good_headed : (P : Datum → Type 0) (vs : List Datum) (go : Datum → List Datum → Effect)
      → Headed vs P → ((v : Datum) (others : List Datum) → P v → Good (go v others))
      → Good (on_top vs go)
  good_headed P [] go first next = absurd first
  good_headed P (v ∷ others) go first next = next v others first

-- what an instruction leads to, in a slice that began in a state
module _ {code : CodeParts} {typing : Typing} {main : ℕ} {start : State} (fn : Fun)
    (places : Places) (f : ℕ) (rest : List Frame) where
  -- the function goes on at a place that is reached with what it holds
  pub next_fits : (q : ℕ) (kinds : List Kind) (l ops : List Datum) (s : State)
      → Stand code typing main fn places f rest (shapes_of s.store)
      → Finds code.classes places q kinds
      → Suit code.classes (shapes_of s.store) kinds ops
      → Suit code.classes (shapes_of s.store) fn.locals l
      → IsFitState code start s
      → IsFitEffect code typing main start (Next (frame f q l ops ∷ rest) s)
  next_fits q kinds l ops s stands finds held locals state =
      let at = found_is (operands_at places q) _ finds in (
        (
          record {
            kinds = at.0;
            asked = where_found (slice_get typing.operands f) (λ places.
                AreAt places q at.0) places stands.operands at.1;
            held = all_stand_suit code.classes (shapes_of s.store) kinds at.0 ops at.2 held;
            locals = where_found (slice_get code.funs f) (λ fn.
                Suit code.classes (shapes_of s.store) fn.locals l) fn stands.fun locals;
          },
          stands.beneath,
          stands.few,
        ),
        state,
      )

  -- the same where the store has grown
  pub grown_fits : (q : ℕ) (kinds : List Kind) (l ops : List Datum) (s : State) (store : Store)
      → Stand code typing main fn places f rest (shapes_of s.store)
      → Finds code.classes places q kinds
      → Suit code.classes (shapes_of s.store) kinds ops
      → Suit code.classes (shapes_of s.store) fn.locals l
      → IsFitState code start s → Grown code s.store store
      → IsFitEffect code typing main start
      (Next (frame f q l ops ∷ rest) (record s { store = store }))
  grown_fits q kinds l ops s store stands finds held locals state grown =
      let kept = grown.2 in
      next_fits q kinds l ops (record s { store = store })
      (stand_kept code typing main fn places f rest (shapes_of s.store) (shapes_of store) kept stands)
      finds
      (suit_kept code.classes (shapes_of s.store) (shapes_of store) kept kinds ops held)
      (suit_kept code.classes (shapes_of s.store) (shapes_of store) kept fn.locals l locals)
      (grown_state s store state grown)

  -- the top operand is replaced by what a step makes of it
  pub replaced_fits : (e r : Elem) (step : Datum → Try Datum) (place : Place) (p : ℕ)
      (kinds : List Kind) (l ops : List Datum) (s : State)
      → ((x : Datum) → IsOf code.classes (shapes_of s.store) e x
      → Fine (IsOf code.classes (shapes_of s.store) r) (step x))
      → Stand code typing main fn places f rest (shapes_of s.store)
      → Suit code.classes (shapes_of s.store) kinds ops
      → Suit code.classes (shapes_of s.store) fn.locals l → IsFitState code start s
      → OnTop code.classes (One e ∷ []) kinds (λ beneath.
      Finds code.classes places (p + 1) (One r ∷ beneath))
      → IsFitEffect code typing main start (on_top ops (λ x under. tried (step x) place s (λ v.
      Next (frame f (p + 1) l (v ∷ under) ∷ rest) s)))
  replaced_fits e r step place p kinds l ops s fine stands held locals state fits =
      good_top (IsFitEffect code typing main start) code.classes (shapes_of s.store) _ kinds ops _
      fits held (λ j beneath x under top is suit.
      good_try (IsFitEffect code typing main start) (IsOf code.classes (shapes_of s.store) r) (step x)
      place s _
      (fine x (stands_suits code.classes (shapes_of s.store) j (One e) x top.0 is)) (λ trap. state)
      (λ v is_v.
      next_fits (p + 1) (One r ∷ beneath) l (v ∷ under) s stands top.1 (is_v, suit) locals state))

  -- the shred stops, and goes on at the next place
  pub stops_fit : (q : Request) (place : Place) (p : ℕ) (kinds : List Kind) (l ops : List Datum)
      (s : State) → IsFitRequest code.classes (shapes_of s.store) s.store.now q
      → FoundWhere (step_at code f p) (λ step. IsWait step.instr)
      → Stand code typing main fn places f rest (shapes_of s.store)
      → Finds code.classes places (p + 1) kinds
      → Suit code.classes (shapes_of s.store) kinds ops
      → Suit code.classes (shapes_of s.store) fn.locals l → IsFitState code start s
      → IsFitEffect code typing main start (Stops q place (frame f (p + 1) l ops ∷ rest) s)
  stops_fit q place p kinds l ops s asked wait stands finds held locals state =
      let next = next_fits (p + 1) kinds l ops s stands finds held locals state in
      record {
        frames_fit = where_goes q _ next.0;
        state = next.1;
        after = (p, refl, wait);
        request = asked;
      }

  -- the shred waits as the top operand says
  pub waits_fit : (e : Elem) (asks : Datum → Store → Try Request) (place : Place) (p : ℕ)
      (kinds : List Kind) (l ops : List Datum) (s : State)
      → ((v : Datum) → IsOf code.classes (shapes_of s.store) e v
      → Fine (IsFitRequest code.classes (shapes_of s.store) s.store.now) (asks v s.store))
      → FoundWhere (step_at code f p) (λ step. IsWait step.instr)
      → Stand code typing main fn places f rest (shapes_of s.store)
      → Suit code.classes (shapes_of s.store) kinds ops
      → Suit code.classes (shapes_of s.store) fn.locals l → IsFitState code start s
      → OnTop code.classes (One e ∷ []) kinds
      (λ beneath. Finds code.classes places (p + 1) beneath)
      → IsFitEffect code typing main start
      (on_top ops (λ v under. tried (asks v s.store) place s (λ q.
      Stops q place (frame f (p + 1) l under ∷ rest) s)))
  waits_fit e asks place p kinds l ops s fine wait stands held locals state fits =
      good_top (IsFitEffect code typing main start) code.classes (shapes_of s.store) _ kinds ops _
      fits held (λ j beneath v under top is suit.
      good_try (IsFitEffect code typing main start)
      (IsFitRequest code.classes (shapes_of s.store) s.store.now) (asks v s.store) place s _
      (fine v (stands_suits code.classes (shapes_of s.store) j (One e) v top.0 is)) (λ trap. state)
      (λ q asked. stops_fit q place p beneath l under s asked wait stands top.1 suit locals state))

  -- an object was made
  pub made_fits : (q : ℕ) (k : Kind) (kinds : List Kind) (l ops : List Datum) (s : State)
      (made : Made) → Stand code typing main fn places f rest (shapes_of s.store)
      → Finds code.classes places q (k ∷ kinds)
      → Suit code.classes (shapes_of s.store) kinds ops
      → Suit code.classes (shapes_of s.store) fn.locals l
      → IsFitState code start s → Makes code s.store k made
      → IsFitEffect code typing main start
      (Next (frame f q l (made.reference ∷ ops) ∷ rest) (record s { store = made.store }))
  made_fits q k kinds l ops s made stands finds held locals state h =
      let kept = h.1.2 in
      next_fits q (k ∷ kinds) l (made.reference ∷ ops) (record s { store = made.store })
      (stand_kept code typing main fn places f rest (shapes_of s.store) (shapes_of made.store) kept
      stands) finds (
        h.0,
        suit_kept code.classes (shapes_of s.store) (shapes_of made.store) kept kinds ops held,
      ) (suit_kept code.classes (shapes_of s.store) (shapes_of made.store) kept fn.locals l locals)
      (grown_state s made.store state h.1)
