-- What a slice keeps: each fact about a state that still stands when a turn is spent, when a static is
-- set, when the objects, the unit generators or the connections change, when an act is recorded, and
-- when a child is sporked.
use Rattle.std.proofs.Common.{◌≡◌, inl, inr, ℕ, zero, suc, ◌+◌, ◌<◌, List, [], ◌∷◌, Option, Some, None, refl, sym, subst, Bool, true, false}
use Rattle.std.specs.Prelude.{nat_eq, nat_lt, slice_get, slice_set, length}
use Rattle.std.proofs.lemmas.Bool.{ltb-true}
use Rattle.ck_base.specs.declared.limits.TheConstants.{MAX_SPORKS}
use Rattle.ck_values.specs.declared.trap.Place.{Place}
use Rattle.ck_values.specs.declared.trap.Trap.TheVariants.{SporkLimit}
use Rattle.ck_values.specs.declared.kind.Elem.{Elem}
use Rattle.ck_values.specs.Datum.{Datum}
use Rattle.rand_pcg.specs.Lcg.{Lcg}
use Rattle.ugen_sample.specs.Connection.{Connection}
use Rattle.ugen_sample.specs.UnitState.{Units}
use Rattle.ck_store.specs.Store.{Object, Store, State, Act, Printed, Sporked, Request, At, End, Try, Gives, Fails, Misfit}
use Rattle.ck_store.specs.Objects.{field_of, with_field, Made, object_made, method_of}
use Rattle.ck_store.specs.Arrays.{item_of, with_item, appended, row_made, array_made, grid_made, has_item, Filled, filled}
use Rattle.ck_store.specs.Steps.{and_then, pick, spent_from, local_of, with_local, static_of, with_static}
use Rattle.ck_store.specs.Operators.{binary}
use Rattle.ck_store.specs.Shreds.{with_act, Child, sporked}
use Rattle.ck_store.specs.Natives.{Given, operand_count, native}
use Rattle.ck_store.specs.Prints.{print_line}
use Rattle.ck_store.specs.Graph.{unit_made, connected, disconnected, parameter_of, ReadBack, parameter_set}
use Rattle.ck_code.proofs.Natives.{Given as Gave, IsNoSpork, KeepsRest, native_keeps}
use Rattle.ck_code.specs.declared.instr.Instr.{Instr}
use Rattle.ck_code.specs.declared.instr.Instr.TheVariants.{Int, Float, Dur, Time, Text, Null, NoShred, Now, Me, Dac, Hole, Local, Static, SetLocal, SetStatic, OpLocal, OpStatic, Field, SetField, OpField, Item, SetItem, OpItem, Dup, Drop, Swap, Op1, Op2, UnitInt, UnitFix, Jump, JumpZero, Turn, Call, Virtual, Native, Return, New, Ugen, Row, Grid, Lit, LitGrid, Each, Fill, Append, Spork, SporkVirtual, WaitDur, WaitTime, WaitEvent, Yield, Exit, Print, Connect, Disconnect, Param, SetParam}
use Rattle.ck_code.specs.declared.code.CodeParts.{CodeParts}
use Rattle.ck_code.specs.declared.code.Fun.{Fun}
use Rattle.ck_code.specs.declared.code.Step.{Step}
use Rattle.ck_code.specs.Machine.{Frame, frame, Effect, Next, Stops, Over, Breaks, Bad, Halt, Ended, Waits, Broke, Unfinished, Stuck, taken, tried, on_top, with_fun, entered, returned, makes_array, sporks_child, effect, step_at, with_step, next_effect, go_on, exec}
use Rattle.run_laws.proofs.Changes.{Changes, Makes, field_changes, made_changes, row_changes, array_changes, item_changes, appended_changes, filled_changes, grid_changes, unit_changes, connected_changes, disconnected_changes, parameter_changes}

-- a slice ended in a state of which this holds
abbrev pub EndsWith : (State → Type 0) → Halt → Type 0
EndsWith P (Ended v s) = P s
EndsWith P (Waits q place frames s) = P s
EndsWith P (Broke trap place s) = P s
EndsWith P Unfinished = Unit {0}
EndsWith P Stuck = Unit {0}

-- the state in which a child was sporked
abbrev pub with_child : (f : ℕ) → (arguments : List Datum) → State → State
with_child f arguments s =
    with_act (Sporked s.store.next_shred f arguments) (record s {
      store = record s.store {
        sporks = suc s.store.sporks;
        next_shred = suc s.store.next_shred;
      };
    })

module _ (P : State → Type 0) (on_turn : (s : State) (turns : ℕ) → suc turns ≡ s.turns → P s
    → P (record s { turns = turns }))
    (on_static : (s : State) (values : List Datum) → P s
    → P (record s { store = record s.store { statics = values } }))
    (on_objects : (s : State) (objects : List Object) (units : Units)
    (connections : List Connection) (words : Lcg) → P s
    → P (record s {
      store = record s.store {
        objects = objects;
        units = units;
        connections = connections;
        words = words;
      };
    }))
    (on_act : (s : State) (act : Act) → IsNoSpork act → P s → P (with_act act s))
    (on_child : (s : State) (f : ℕ) (arguments : List Datum) → s.store.sporks < MAX_SPORKS → P s
    → P (with_child f arguments s)) where
  -- an effect leaves a state of which it holds
  abbrev Leaves : Effect → Type 0
  Leaves (Next frames s) = P s
  Leaves (Stops q place frames s) = P s
  Leaves (Over v s) = P s
  Leaves (Breaks trap place s) = P s
  Leaves Bad = Unit {0}

  -- the same as a record, whose parts a call needs not name
  record Keeps (e : Effect) : Type 0 where
    so : Leaves e

  try_so : {A : Type 0} (t : Try A) (place : Place) (s : State) (go : A → Effect) → P s
      → ((x : A) → Keeps (go x)) → Leaves (tried t place s go)
  try_so (Gives x) place s go holds rest = (rest x).so
  try_so (Fails trap) place s go holds rest = holds
  try_so Misfit place s go holds rest = tt

  try_keeps : {A : Type 0} (t : Try A) (place : Place) (s : State) (go : A → Effect) → P s
      → ((x : A) → Keeps (go x)) → Keeps (tried t place s go)
  try_keeps t place s go holds rest = record { so = try_so t place s go holds rest }

  top_so : (ops : List Datum) (go : Datum → List Datum → Effect)
      → ((v : Datum) (under : List Datum) → Keeps (go v under)) → Leaves (on_top ops go)
  top_so [] go rest = tt
  top_so (v ∷ under) go rest = (rest v under).so

  top_keeps : (ops : List Datum) (go : Datum → List Datum → Effect)
      → ((v : Datum) (under : List Datum) → Keeps (go v under)) → Keeps (on_top ops go)
  top_keeps ops go rest = record { so = top_so ops go rest }

  spent_so : (turns : ℕ) (place : Place) (s : State) (go : State → Effect) → turns ≡ s.turns → P s
      → ((s1 : State) → P s1 → Keeps (go s1)) → Leaves (tried (spent_from turns s) place s go)
  spent_so zero place s go same holds rest = holds
  spent_so (suc turns) place s go same holds rest =
      (rest (record s { turns = turns }) (on_turn s turns same holds)).so

  set_so : (t : Try Datum) (values : List Datum) (place : Place) (s : State) (go : Store → Effect)
      → P s → ((values : List Datum) → Keeps (go (record s.store { statics = values })))
      → Leaves (tried (and_then t (λ old. Gives (record s.store { statics = values }))) place s go)
  set_so (Gives old) values place s go holds rest = (rest values).so
  set_so (Fails trap) values place s go holds rest = holds
  set_so Misfit values place s go holds rest = tt

  static_so : (i : ℕ) (v : Datum) (place : Place) (s : State) (go : Store → Effect) → P s
      → ((values : List Datum) → Keeps (go (record s.store { statics = values })))
      → Leaves (tried (with_static s.store i v) place s go)
  unfolding with_static
  static_so i v place s go holds rest =
      set_so (static_of s.store i) (slice_set s.store.statics i v) place s go holds rest

  static_keeps : (i : ℕ) (v : Datum) (place : Place) (s : State) (go : Store → Effect) → P s
      → ((values : List Datum) → Keeps (go (record s.store { statics = values })))
      → Keeps (tried (with_static s.store i v) place s go)
  static_keeps i v place s go holds rest = record { so = static_so i v place s go holds rest }

  next_to : (frames : List Frame) (s : State) → P s → Keeps (Next frames s)
  next_to frames s holds = record { so = holds }

  -- a step that changes the objects alone
  on_change : (s : State) (store : Store) → P s → Changes s.store store
      → P (record s { store = store })
  on_change s store holds h =
      subst (λ x. P (record s { store = x })) (sym h)
      (on_objects s store.objects store.units store.connections s.store.words holds)

  changed_so : {A : Type 0} (store_of : A → Store) (t : Try A) (place : Place) (s : State)
      (go : A → Effect) → P s → Gave (λ a. Changes s.store (store_of a)) t
      → ((a : A) → P (record s { store = store_of a }) → Keeps (go a))
      → Leaves (tried t place s go)
  changed_so store_of (Gives a) place s go holds fact rest =
      (rest a (on_change s (store_of a) holds fact)).so
  changed_so store_of (Fails trap) place s go holds fact rest = holds
  changed_so store_of Misfit place s go holds fact rest = tt

  -- such a step, and then the next instruction
  set_keeps : (t : Try Store) (place : Place) (s : State) (frames : List Frame) → P s
      → Gave (Changes s.store) t
      → Keeps (tried t place s (λ store. Next frames (record s { store = store })))
  set_keeps t place s frames holds fact =
      record { so = changed_so (λ store. store) t place s _ holds fact (λ store. next_to frames _) }

  -- also where it made something
  made_keeps : (t : Try Made) (place : Place) (s : State) (frames : Datum → List Frame) → P s
      → Gave (Makes s.store) t
      → Keeps (tried t place s (λ made.
      Next (frames made.reference) (record s { store = made.store })))
  made_keeps t place s frames holds fact = record {
    so = changed_so (λ (made : Made). made.store) t place s _ holds fact (λ made.
        next_to (frames made.reference) _);
  }

  -- a built-in call changes the objects, the unit generators and the random words, or records an act
  on_given : (s : State) (g : Given) → P s → KeepsRest s g → P g.state
  on_given s g holds kept = elim kept [
    | inl same ↦
        subst P (sym same)
        (on_objects s g.state.store.objects g.state.store.units s.store.connections
        g.state.store.words holds)
    | inr acted ↦ subst P (sym acted.2) (on_act s acted.0 acted.1 holds)
  ]

  given_so : (t : Try Given) (place : Place) (s : State) (go : Given → Effect) → P s
      → Gave (KeepsRest s) t
      → ((g : Given) → P g.state → Keeps (go g))
      → Leaves (tried t place s go)
  given_so (Gives g) place s go holds fact rest =
      (rest g (on_given s g holds fact)).so
  given_so (Fails trap) place s go holds fact rest = holds
  given_so Misfit place s go holds fact rest = tt

  -- a child is sporked, where there is room for it
  child_where : (b : Bool) (child : Child) (place : Place) (s : State) (go : Child → Effect) → P s
      → (b ≡ true → Keeps (go child))
      → Leaves (tried (pick b (Gives child) (Fails SporkLimit)) place s go)
  child_where true child place s go holds rest = (rest refl).so
  child_where false child place s go holds rest = holds

  sporked_so : (f : ℕ) (arguments : List Datum) (place : Place) (s : State) (go : Child → Effect)
      → P s → ((child : Child) → P child.state → Keeps (go child))
      → Leaves (tried (sporked f arguments s) place s go)
  unfolding sporked
  sporked_so f arguments place s go holds rest =
      child_where (nat_lt s.store.sporks MAX_SPORKS) _ place s go holds (λ room.
      rest _ (on_child s f arguments (ltb-true s.store.sporks MAX_SPORKS room) holds))

  -- the same after a turn is spent
  sporks_so : (g : ℕ) (arguments : List Datum) (place : Place) (f p : ℕ) (l ops : List Datum)
      (rest : List Frame) (s : State) → P s
      → Leaves (sporks_child place g arguments f p l ops rest s)
  sporks_so g arguments place f p l ops rest s holds =
      spent_so s.turns place s _ refl holds (λ s1 holds1. record {
        so = sporked_so g arguments place s1 _ holds1 (λ child. next_to _ child.state);
      })

  pick_so : (b : Bool) (e1 e2 : Effect) → Leaves e1 → Leaves e2 → Leaves (pick b e1 e2)
  pick_so true e1 e2 h g = h
  pick_so false e1 e2 h g = g

  fun_so : (o : Option Fun) (go : Fun → Effect) → ((fn : Fun) → Keeps (go fn))
      → Leaves (with_fun o go)
  fun_so None go rest = tt
  fun_so (Some fn) go rest = (rest fn).so

  returned_so : (v : Datum) (rest : List Frame) (s : State) → P s → Leaves (returned v rest s)
  returned_so v [] s holds = holds
  returned_so v (below ∷ rest) s holds = holds

  stops_at : (q : Request) (place : Place) (frames : List Frame) (s : State) → P s
      → Keeps (Stops q place frames s)
  stops_at q place frames s holds = record { so = holds }

  -- an array is made of the topmost operands
  array_keeps : (e : Elem) (of_arrays : Bool) (n : ℕ) (place : Place) (f p : ℕ)
      (l ops : List Datum) (rest : List Frame) (s : State) → P s
      → Keeps (makes_array place e of_arrays n f p l ops rest s)
  array_keeps e of_arrays n place f p l ops rest s holds =
      try_keeps (taken n [] ops) place s _ holds (λ t.
      made_keeps (array_made e of_arrays t.arguments s.store) place s
      (λ r. frame f (p + 1) l (r ∷ t.beneath) ∷ rest) holds
      (array_changes e of_arrays t.arguments s.store))

  effect_keeps : (code : CodeParts) (shred : ℕ) (i : Instr) (place : Place) (f p : ℕ)
      (l ops : List Datum) (rest : List Frame) (s : State) → P s
      → Keeps (effect code shred i place f p l ops rest s)
  effect_keeps code shred (Int n) place f p l ops rest s holds = next_to _ s holds
  effect_keeps code shred (Float x) place f p l ops rest s holds = next_to _ s holds
  effect_keeps code shred (Dur samples) place f p l ops rest s holds = next_to _ s holds
  effect_keeps code shred (Time samples) place f p l ops rest s holds = next_to _ s holds
  effect_keeps code shred (Text k) place f p l ops rest s holds =
      try_keeps _ place s _ holds (λ v. next_to _ s holds)
  effect_keeps code shred Null place f p l ops rest s holds = next_to _ s holds
  effect_keeps code shred NoShred place f p l ops rest s holds = next_to _ s holds
  effect_keeps code shred Now place f p l ops rest s holds = next_to _ s holds
  effect_keeps code shred Me place f p l ops rest s holds = next_to _ s holds
  effect_keeps code shred Dac place f p l ops rest s holds = next_to _ s holds
  effect_keeps code shred Hole place f p l ops rest s holds = next_to _ s holds
  effect_keeps code shred (Local i) place f p l ops rest s holds =
      try_keeps _ place s _ holds (λ v. next_to _ s holds)
  effect_keeps code shred (Static i) place f p l ops rest s holds =
      try_keeps _ place s _ holds (λ v. next_to _ s holds)
  effect_keeps code shred (SetLocal i) place f p l ops rest s holds =
      top_keeps ops _ (λ v under. try_keeps _ place s _ holds (λ l1. next_to _ s holds))
  effect_keeps code shred (SetStatic i) place f p l ops rest s holds =
      top_keeps ops _ (λ v under. static_keeps i v place s (λ store.
      Next (frame f (p + 1) l (v ∷ under) ∷ rest) (record s { store = store })) holds (λ values.
      next_to _ _ (on_static s values holds)))
  effect_keeps code shred (OpLocal i o) place f p l ops rest s holds =
      top_keeps ops _ (λ e under. try_keeps (local_of l i) place s _ holds (λ old.
      try_keeps (binary o old e) place s _ holds (λ w.
      try_keeps (with_local l i w) place s _ holds (λ l1. next_to _ s holds))))
  effect_keeps code shred (OpStatic i o) place f p l ops rest s holds =
      top_keeps ops _ (λ e under. try_keeps (static_of s.store i) place s _ holds (λ old.
      try_keeps (binary o old e) place s _ holds (λ w. static_keeps i w place s (λ store.
      Next (frame f (p + 1) l (w ∷ under) ∷ rest) (record s { store = store })) holds (λ values.
      next_to _ _ (on_static s values holds)))))
  effect_keeps code shred (Field i) place f p l ops rest s holds =
      top_keeps ops _ (λ r under. try_keeps _ place s _ holds (λ v. next_to _ s holds))
  effect_keeps code shred (SetField i) place f p l ops rest s holds =
      top_keeps ops _ (λ r under. top_keeps under _ (λ v beneath.
      set_keeps (with_field s.store r i v) place s _ holds (field_changes s.store r i v)))
  effect_keeps code shred (OpField i o) place f p l ops rest s holds =
      top_keeps ops _ (λ r under. top_keeps under _ (λ e beneath.
      try_keeps (field_of s.store r i) place s _ holds (λ old.
      try_keeps (binary o old e) place s _ holds (λ w.
      set_keeps (with_field s.store r i w) place s _ holds (field_changes s.store r i w)))))
  effect_keeps code shred Item place f p l ops rest s holds =
      top_keeps ops _ (λ i under. top_keeps under _ (λ r beneath.
      try_keeps _ place s _ holds (λ v. next_to _ s holds)))
  effect_keeps code shred SetItem place f p l ops rest s holds =
      top_keeps ops _ (λ i under. top_keeps under _ (λ r lower. top_keeps lower _ (λ v beneath.
      set_keeps (with_item s.store r i v) place s _ holds (item_changes s.store r i v))))
  effect_keeps code shred (OpItem o) place f p l ops rest s holds =
      top_keeps ops _ (λ i under. top_keeps under _ (λ r lower. top_keeps lower _ (λ e beneath.
      try_keeps (item_of s.store.objects r i) place s _ holds (λ old.
      try_keeps (binary o old e) place s _ holds (λ w.
      set_keeps (with_item s.store r i w) place s _ holds (item_changes s.store r i w))))))
  effect_keeps code shred Dup place f p l ops rest s holds =
      top_keeps ops _ (λ v under. next_to _ s holds)
  effect_keeps code shred Drop place f p l ops rest s holds =
      top_keeps ops _ (λ v under. next_to _ s holds)
  effect_keeps code shred Swap place f p l ops rest s holds =
      top_keeps ops _ (λ y under. top_keeps under _ (λ x beneath. next_to _ s holds))
  effect_keeps code shred (Op1 o) place f p l ops rest s holds =
      top_keeps ops _ (λ x under. try_keeps _ place s _ holds (λ v. next_to _ s holds))
  effect_keeps code shred (Op2 o) place f p l ops rest s holds =
      top_keeps ops _ (λ y under. top_keeps under _ (λ x beneath.
      try_keeps _ place s _ holds (λ v. next_to _ s holds)))
  effect_keeps code shred (UnitInt n d) place f p l ops rest s holds =
      top_keeps ops _ (λ x under. try_keeps _ place s _ holds (λ v. next_to _ s holds))
  effect_keeps code shred (UnitFix n d) place f p l ops rest s holds =
      top_keeps ops _ (λ x under. try_keeps _ place s _ holds (λ v. next_to _ s holds))
  effect_keeps code shred (Jump t) place f p l ops rest s holds = next_to _ s holds
  effect_keeps code shred (JumpZero t) place f p l ops rest s holds =
      top_keeps ops _ (λ v under. try_keeps _ place s _ holds (λ is. next_to _ s holds))
  effect_keeps code shred Turn place f p l ops rest s holds =
      record {
        so = spent_so s.turns place s _ refl holds (λ s1 holds1.
            next_to (frame f (p + 1) l ops ∷ rest) s1 holds1);
      }
  effect_keeps code shred (Call g) place f p l ops rest s holds = record {
    so = fun_so (slice_get code.funs g) _ (λ fn.
        try_keeps (taken fn.params [] ops) place s _ holds (λ t. record {
          so = spent_so s.turns place s _ refl holds (λ s1 holds1.
              try_keeps _ place s1 _ holds1 (λ ok. next_to _ s1 holds1));
        }));
  }
  effect_keeps code shred (Virtual slot n) place f p l ops rest s holds =
      try_keeps (taken n [] ops) place s _ holds (λ t. top_keeps t.arguments _ (λ r others.
      try_keeps (method_of code.classes s.store.objects r slot) place s _ holds (λ g. record {
        so = fun_so (slice_get code.funs g) _ (λ fn. record {
          so = pick_so (nat_eq (length (r ∷ others)) fn.params)
              (entered fn g (r ∷ others) place f p l t.beneath rest s) Bad
              (spent_so s.turns place s _ refl holds (λ s1 holds1.
              try_keeps _ place s1 _ holds1 (λ ok. next_to _ s1 holds1))) tt;
        });
      })))
  effect_keeps code shred (Spork g) place f p l ops rest s holds = record {
    so = fun_so (slice_get code.funs g) _ (λ fn.
        try_keeps (taken fn.params [] ops) place s _ holds (λ t. record {
          so = sporks_so g t.arguments place f p l t.beneath rest s holds;
        }));
  }
  effect_keeps code shred (SporkVirtual slot n) place f p l ops rest s holds =
      try_keeps (taken n [] ops) place s _ holds (λ t. top_keeps t.arguments _ (λ r others.
      try_keeps (method_of code.classes s.store.objects r slot) place s _ holds (λ g. record {
        so = fun_so (slice_get code.funs g) _ (λ fn. record {
          so = pick_so (nat_eq (length (r ∷ others)) fn.params)
              (sporks_child place g (r ∷ others) f p l t.beneath rest s) Bad
              (sporks_so g (r ∷ others) place f p l t.beneath rest s holds) tt;
        });
      })))
  effect_keeps code shred (Native call) place f p l ops rest s holds =
      try_keeps (taken (operand_count call) [] ops) place s _ holds (λ t. record {
        so = given_so (native call t.arguments s) place s _ holds
            (native_keeps call t.arguments s) (λ g kept. next_to _ g.state kept);
      })
  effect_keeps code shred (New c) place f p l ops rest s holds =
      made_keeps (object_made code.classes c s.store) place s
      (λ r. frame f (p + 1) l (r ∷ ops) ∷ rest) holds (made_changes code.classes c s.store)
  effect_keeps code shred (Ugen kind) place f p l ops rest s holds =
      made_keeps (unit_made kind shred s.store) place s
      (λ r. frame f (p + 1) l (r ∷ ops) ∷ rest) holds (unit_changes kind shred s.store)
  effect_keeps code shred (Row e) place f p l ops rest s holds =
      top_keeps ops _ (λ n under.
      made_keeps (row_made e n s.store) place s
      (λ r. frame f (p + 1) l (r ∷ under) ∷ rest) holds (row_changes e n s.store))
  effect_keeps code shred (Grid e) place f p l ops rest s holds =
      top_keeps ops _ (λ m under. top_keeps under _ (λ n beneath.
      let part = grid_made e n m s.store in
      let after = record s { store = part.store } in
      let kept : P after = on_change s part.store holds (grid_changes e n m s.store) in
      try_keeps part.end place after _ kept (λ r. next_to _ after kept)))
  effect_keeps code shred (Lit e n) place f p l ops rest s holds =
      array_keeps e false n place f p l ops rest s holds
  effect_keeps code shred (LitGrid e n) place f p l ops rest s holds =
      array_keeps e true n place f p l ops rest s holds
  effect_keeps code shred (Each t) place f p l ops rest s holds =
      top_keeps ops _ (λ i under. top_keeps under _ (λ r beneath.
      try_keeps (has_item s.store.objects r i) place s _ holds (λ is.
      record {
        so = pick_so is (Next (frame f (p + 1) l (i ∷ r ∷ beneath) ∷ rest) s)
            (Next (frame f t l (r ∷ beneath) ∷ rest) s) holds holds;
      })))
  effect_keeps code shred Fill place f p l ops rest s holds =
      top_keeps ops _ (λ v under. top_keeps under _ (λ i lower. top_keeps lower _ (λ r beneath.
      record {
        so = changed_so (λ (done : Filled). done.store) (filled s.store r i v) place s _ holds
            (filled_changes s.store r i v) (λ done kept. next_to _ _ kept);
      })))
  effect_keeps code shred Append place f p l ops rest s holds =
      top_keeps ops _ (λ v under. top_keeps under _ (λ r beneath.
      set_keeps (appended s.store r v) place s _ holds (appended_changes s.store r v)))
  effect_keeps code shred Return place f p l ops rest s holds =
      top_keeps ops _ (λ v under. record { so = returned_so v rest s holds })
  effect_keeps code shred WaitDur place f p l ops rest s holds =
      top_keeps ops _ (λ d under. try_keeps _ place s _ holds (λ q. stops_at q place _ s holds))
  effect_keeps code shred WaitTime place f p l ops rest s holds =
      top_keeps ops _ (λ d under. try_keeps _ place s _ holds (λ q. stops_at q place _ s holds))
  effect_keeps code shred WaitEvent place f p l ops rest s holds =
      top_keeps ops _ (λ r under. try_keeps _ place s _ holds (λ q. stops_at q place _ s holds))
  effect_keeps code shred Yield place f p l ops rest s holds =
      stops_at (At s.store.now) place _ s holds
  effect_keeps code shred Exit place f p l ops rest s holds = stops_at End place _ s holds
  effect_keeps code shred (Print kinds) place f p l ops rest s holds =
      try_keeps (taken (length kinds) [] ops) place s _ holds (λ t.
      next_to _ _ (on_act s (Printed (print_line code.classes kinds t.arguments)) tt holds))
  effect_keeps code shred Connect place f p l ops rest s holds =
      top_keeps ops _ (λ b under. top_keeps under _ (λ a beneath.
      set_keeps (connected a b s.store) place s _ holds (connected_changes a b s.store)))
  effect_keeps code shred Disconnect place f p l ops rest s holds =
      top_keeps ops _ (λ b under. top_keeps under _ (λ a beneath.
      set_keeps (disconnected a b s.store) place s _ holds (disconnected_changes a b s.store)))
  effect_keeps code shred (Param q) place f p l ops rest s holds =
      top_keeps ops _ (λ u under. try_keeps (parameter_of q u s.store) place s _ holds (λ v.
      next_to _ s holds))
  effect_keeps code shred (SetParam q) place f p l ops rest s holds =
      top_keeps ops _ (λ v under. top_keeps under _ (λ u beneath. record {
        so = changed_so (λ (set : ReadBack). set.store) (parameter_set q u v s.store) place s _
            holds (parameter_changes q u v s.store) (λ set kept. next_to _ _ kept);
      }))

  step_keeps : (code : CodeParts) (shred : ℕ) (o : Option Step) (top : Frame) (rest : List Frame)
      (s : State) → P s → Leaves (with_step o (λ step.
      effect code shred step.instr step.place top.fun top.place top.locals top.operands rest s))
  step_keeps code shred None top rest s holds = tt
  step_keeps code shred (Some step) top rest s holds =
      (effect_keeps code shred step.instr step.place top.fun top.place top.locals top.operands rest s holds).so

  next_keeps : (code : CodeParts) (shred : ℕ) (frames : List Frame) (s : State) → P s
      → Leaves (next_effect code shred frames s)
  next_keeps code shred [] s holds = tt
  next_keeps code shred (top ∷ rest) s holds =
      step_keeps code shred (step_at code top.fun top.place) top rest s holds

  on_keeps : (e : Effect) (next : List Frame → State → Halt) → Leaves e
      → ((frames : List Frame) (s : State) → P s → EndsWith P (next frames s))
      → EndsWith P (go_on e next)
  on_keeps (Next frames s) next h rest = rest frames s h
  on_keeps (Stops q place frames s) next h rest = h
  on_keeps (Over v s) next h rest = h
  on_keeps (Breaks trap place s) next h rest = h
  on_keeps Bad next h rest = tt

  pub exec_keeps : (code : CodeParts) (shred k : ℕ) (frames : List Frame) (s : State) → P s
      → EndsWith P (exec code shred k frames s)
  exec_keeps code shred zero frames s holds = tt
  exec_keeps code shred (suc k) frames s holds =
      on_keeps (next_effect code shred frames s) (exec code shred k)
      (next_keeps code shred frames s holds) (λ frames1 s1 holds1.
      exec_keeps code shred k frames1 s1 holds1)
