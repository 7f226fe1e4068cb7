-- What the machine does: an instruction, a slice of a shred, and all its slices.
use Rattle.std.specs.Prelude.{ℕ, zero, suc, pred, ◌+◌, ◌*◌, max, nat_eq, ℤ, Bool, true, false, List, [], ◌∷◌, length, Option, Some, None, slice_get}
use Rattle.ck_values.specs.declared.trap.Place.{Place}
use Rattle.ck_values.specs.declared.trap.Trap.{Trap}
use Rattle.ck_values.specs.declared.kind.Elem.{Elem}
use Rattle.ck_values.specs.declared.kind.Kind.{Kind}
use Rattle.ck_values.specs.declared.operator.Op2.{Op2 as Operator}
use Rattle.ugen_names.specs.declared.param.Param.{Param as Parameter}
use Rattle.ugen_names.specs.declared.table.UgenKind.{UgenKind}
use Rattle.ck_values.specs.Datum.{Datum, AnInt, AFloat, ADur, ATime, AText, AShred, ARef, first_locals}
use Rattle.ck_typed.specs.declared.class.Class.{Class}
use Rattle.ck_typed.specs.declared.native.Native.{Native as BuiltIn}
use Rattle.ck_store.specs.Store.{Store, State, Request, At, End, Try, Gives, Fails, Misfit}
use Rattle.ck_store.specs.Steps.{and_then, found, pick, int_units, float_units, is_zero, local_of, with_local, static_of, with_static, wait_dur, wait_time, where_it_goes_on, turn_spent, room_for_call, resumed}
use Rattle.ck_store.specs.Operators.{unary, binary}
use Rattle.ck_store.specs.Natives.{operand_count, native}
use Rattle.ck_store.specs.Prints.{print_line, with_line}
use Rattle.ck_store.specs.Objects.{field_of, with_field, Made, object_made, method_of}
use Rattle.ck_store.specs.Arrays.{item_of, with_item, appended, row_made, array_made, grid_made, has_item, filled}
use Rattle.ck_store.specs.Shreds.{wait_event, sporked}
use Rattle.ck_store.specs.Graph.{unit_made, connected, disconnected, parameter_of, parameter_set}
use Rattle.ck_code.specs.declared.instr.Instr.{Instr}
use Rattle.ck_code.specs.declared.instr.Instr.TheVariants.{Int, Float, Dur, Time, Text, Null, NoShred, Now, Me, Dac, Hole, Local, Static, SetLocal, SetStatic, OpLocal, OpStatic, Field, SetField, OpField, Item, SetItem, OpItem, Dup, Drop, Swap, Op1, Op2, UnitInt, UnitFix, Jump, JumpZero, Turn, Call, Virtual, Native, Return, New, Ugen, Row, Grid, Lit, LitGrid, Each, Fill, Append, Spork, SporkVirtual, WaitDur, WaitTime, WaitEvent, Yield, Exit, Print, Connect, Disconnect, Param, SetParam}
use Rattle.ck_code.specs.declared.code.Step.{Step}
use Rattle.ck_code.specs.declared.code.Fun.{Fun}
use Rattle.ck_code.specs.declared.code.CodeParts.{CodeParts}

-- a function that runs: its number, the place of its next instruction, its locals, and its
-- operands with the top first
pub record Frame : Type 0 where
  pub fun : ℕ
  pub place : ℕ
  pub locals : List Datum
  pub operands : List Datum

abbrev pub frame : (f p : ℕ) → (locals operands : List Datum) → Frame
frame f p locals operands = record { fun = f; place = p; locals = locals; operands = operands }

-- what an instruction leads to: the next one, a stop, the end of the first function, a trap, or
-- nothing, where an operand is none that it can take
pub data Effect : Type 0 where
  Next : List Frame → State → Effect
  Stops : Request → Place → List Frame → State → Effect
  Over : Datum → State → Effect
  Breaks : Trap → Place → State → Effect
  Bad : Effect

-- goes on with what a step gives
abbrev pub tried : {A : Type 0} → Try A → Place → State → (A → Effect) → Effect
tried (Gives a) place s go = go a
tried (Fails trap) place s go = Breaks trap place s
tried Misfit place s go = Bad

-- goes on with the top operand and those beneath
abbrev pub on_top : List Datum → (Datum → List Datum → Effect) → Effect
on_top [] go = Bad
on_top (v ∷ beneath) go = go v beneath

-- arguments that were taken, the first one first, and the operands beneath
pub record Taken : Type 0 where
  pub arguments : List Datum
  pub beneath : List Datum

-- the n topmost operands are taken, in front of what was taken before
abbrev pub taken : (n : ℕ) → (before operands : List Datum) → Try Taken
taken zero before operands = Gives (record { arguments = before; beneath = operands })
taken (suc n) before [] = Misfit
taken (suc n) before (v ∷ operands) = taken n (v ∷ before) operands

abbrev pub with_fun : Option Fun → (Fun → Effect) → Effect
with_fun None go = Bad
with_fun (Some fn) go = go fn

-- function g begins on its arguments, above its caller: a turn is spent, and then there must be
-- room for one more call
abbrev pub entered : Fun → (g : ℕ) → (arguments : List Datum) → Place → (f p : ℕ)
    → (locals operands : List Datum) → List Frame → State → Effect
entered fn g arguments place f p l ops rest s =
    tried (turn_spent s) place s (λ s1. tried (room_for_call (length rest)) place s1 (λ ok.
    Next (frame g 0 (first_locals fn.locals arguments) [] ∷ frame f (p + 1) l ops ∷ rest) s1))

-- a function that was found for an object begins, where it takes so many arguments
abbrev pub sent : CodeParts → (g : ℕ) → (arguments : List Datum) → Place → (f p : ℕ)
    → (locals operands : List Datum) → List Frame → State → Effect
sent code g arguments place f p l ops rest s =
    with_fun (slice_get code.funs g) (λ fn. pick (nat_eq (length arguments) fn.params)
    (entered fn g arguments place f p l ops rest s) Bad)

-- the frame beneath takes the value; where there is none, the shred has ended
abbrev pub returned : Datum → List Frame → State → Effect
returned v [] s = Over v s
returned v (below ∷ rest) s =
    Next (frame below.fun below.place below.locals (v ∷ below.operands) ∷ rest) s

-- what is done for function f at place p, with its locals, its operands, the
-- frames beneath and the state
abbrev pub Action : Type 0
Action = (f p : ℕ) → (locals operands : List Datum) → List Frame → State → Effect

-- goes on at a place
abbrev pub goes_to : ℕ → Action
goes_to t f p l ops rest s = Next (frame f t l ops ∷ rest) s

-- goes on at the next place
abbrev pub goes_on : Action
goes_on f p l ops rest s = goes_to (p + 1) f p l ops rest s

-- pushes a value
abbrev pub pushes : Datum → Action
pushes v f p l ops rest s = goes_on f p l (v ∷ ops) rest s

-- pushes what is found in the locals or the store
abbrev pub pushes_found : Place → (List Datum → Store → Try Datum) → Action
pushes_found place find f p l ops rest s =
    tried (find l s.store) place s (λ v. pushes v f p l ops rest s)

-- the string with a number
unfoldable pub text_at : (texts : List (List ℕ)) → ℕ → Try Datum
text_at texts k = and_then (found (slice_get texts k)) (λ bytes. Gives (AText bytes))

-- pushes the top once more
abbrev pub doubles : Action
doubles f p l ops rest s = on_top ops (λ v beneath. pushes v f p l (v ∷ beneath) rest s)

-- drops the top
abbrev pub drops : Action
drops f p l ops rest s = on_top ops (λ v beneath. goes_on f p l beneath rest s)

-- replaces the top by what a step makes of it
abbrev pub replaces : Place → (Datum → Try Datum) → Action
replaces place step f p l ops rest s =
    on_top ops (λ x beneath. tried (step x) place s (λ v. pushes v f p l beneath rest s))

-- replaces the two topmost ones, of which the right operand is on top
abbrev pub replaces_two : Place → (Datum → Datum → Try Datum) → Action
replaces_two place step f p l ops rest s =
    on_top ops (λ y under. on_top under (λ x beneath.
    tried (step x y) place s (λ v. pushes v f p l beneath rest s)))

-- sets a local to the top, which stays
abbrev pub sets_local : Place → ℕ → Action
sets_local place i f p l ops rest s =
    on_top ops (λ v beneath. tried (with_local l i v) place s (λ l1.
    pushes v f p l1 beneath rest s))

-- sets a static to the top, which stays
abbrev pub sets_static : Place → ℕ → Action
sets_static place i f p l ops rest s =
    on_top ops (λ v beneath. tried (with_static s.store i v) place s (λ store.
    pushes v f p l beneath rest (record s { store = store })))

-- replaces the object on top by one of its fields
abbrev pub reads_field : Place → ℕ → Action
reads_field place i f p l ops rest s =
    on_top ops (λ r beneath. tried (field_of s.store r i) place s (λ v.
    pushes v f p l beneath rest s))

-- sets a local to what an operator makes of it and the top, which it replaces
abbrev pub updates_local : Place → ℕ → Operator → Action
updates_local place i o f p l ops rest s =
    on_top ops (λ e beneath. tried (local_of l i) place s (λ old.
    tried (binary o old e) place s (λ w. tried (with_local l i w) place s (λ l1.
    pushes w f p l1 beneath rest s))))

-- the same for a static
abbrev pub updates_static : Place → ℕ → Operator → Action
updates_static place i o f p l ops rest s =
    on_top ops (λ e beneath. tried (static_of s.store i) place s (λ old.
    tried (binary o old e) place s (λ w. tried (with_static s.store i w) place s (λ store.
    pushes w f p l beneath rest (record s { store = store })))))

-- the same for a field of the object on top, with the value beneath it
abbrev pub updates_field : Place → ℕ → Operator → Action
updates_field place i o f p l ops rest s =
    on_top ops (λ r under. on_top under (λ e beneath. tried (field_of s.store r i) place s (λ old.
    tried (binary o old e) place s (λ w. tried (with_field s.store r i w) place s (λ store.
    pushes w f p l beneath rest (record s { store = store }))))))

-- sets a field of the object on top to the value beneath it, which stays
abbrev pub sets_field : Place → ℕ → Action
sets_field place i f p l ops rest s =
    on_top ops (λ r under. on_top under (λ v beneath.
    tried (with_field s.store r i v) place s (λ store.
    pushes v f p l beneath rest (record s { store = store }))))

-- replaces an array and the index on top of it by the item
abbrev pub reads_item : Place → Action
reads_item place f p l ops rest s =
    on_top ops (λ i under. on_top under (λ r beneath.
    tried (item_of s.store.objects r i) place s (λ v. pushes v f p l beneath rest s)))

-- sets an item of the array beneath the index on top to the value beneath them, which stays
abbrev pub sets_item : Place → Action
sets_item place f p l ops rest s =
    on_top ops (λ i under. on_top under (λ r lower. on_top lower (λ v beneath.
    tried (with_item s.store r i v) place s (λ store.
    pushes v f p l beneath rest (record s { store = store })))))

-- sets that item to what an operator makes of it and the value beneath them, which it replaces
abbrev pub updates_item : Place → Operator → Action
updates_item place o f p l ops rest s =
    on_top ops (λ i under. on_top under (λ r lower. on_top lower (λ e beneath.
    tried (item_of s.store.objects r i) place s (λ old. tried (binary o old e) place s (λ w.
    tried (with_item s.store r i w) place s (λ store.
    pushes w f p l beneath rest (record s { store = store })))))))

-- exchanges the two topmost operands
abbrev pub exchanges : Action
exchanges f p l ops rest s =
    on_top ops (λ y under. on_top under (λ x beneath. goes_on f p l (x ∷ y ∷ beneath) rest s))

-- replaces the operands of a built-in call, of which the deepest is what it is made on, by what the
-- call gives
abbrev pub calls_native : Place → BuiltIn → Action
calls_native place call f p l ops rest s =
    tried (taken (operand_count call) [] ops) place s (λ t.
    tried (native call t.arguments s) place s (λ given.
    pushes given.value f p l t.beneath rest given.state))

-- prints an operand of each kind, the deepest first
abbrev pub prints : List Class → Place → List Kind → Action
prints classes place kinds f p l ops rest s =
    tried (taken (length kinds) [] ops) place s (λ t.
    goes_on f p l t.beneath rest (with_line (print_line classes kinds t.arguments) s))

-- pushes what a step made
abbrev pub pushes_made : Try Made → Place → Action
pushes_made step place f p l ops rest s =
    tried step place s (λ made.
    pushes made.reference f p l ops rest (record s { store = made.store }))

-- pushes a new object of a class
abbrev pub makes : CodeParts → Place → (class : ℕ) → Action
makes code place c f p l ops rest s =
    pushes_made (object_made code.classes c s.store) place f p l ops rest s

-- pushes a new unit generator that this shred made
abbrev pub makes_unit : (shred : ℕ) → Place → UgenKind → Action
makes_unit shred place kind f p l ops rest s =
    pushes_made (unit_made kind shred s.store) place f p l ops rest s

-- connects the unit generator beneath the top to the one on top, or takes the earliest such
-- connection away; the top stays
abbrev pub joins : Place → ((from to : Datum) → Store → Try Store) → Action
joins place step f p l ops rest s =
    on_top ops (λ b under. on_top under (λ a beneath. tried (step a b s.store) place s (λ store.
    pushes b f p l beneath rest (record s { store = store }))))

-- replaces the unit generator on top by one of its parameters
abbrev pub reads_parameter : Place → Parameter → Action
reads_parameter place q f p l ops rest s =
    on_top ops (λ u beneath. tried (parameter_of q u s.store) place s (λ v.
    pushes v f p l beneath rest s))

-- sets a parameter of the unit generator beneath the top to the top, and reads it back
abbrev pub sets_parameter : Place → Parameter → Action
sets_parameter place q f p l ops rest s =
    on_top ops (λ v under. on_top under (λ u beneath. tried (parameter_set q u v s.store) place s
    (λ set. pushes set.value f p l beneath rest (record s { store = set.store }))))

-- replaces the size on top by a new array of so many first values
abbrev pub makes_row : Place → Elem → Action
makes_row place e f p l ops rest s =
    on_top ops (λ n beneath. pushes_made (row_made e n s.store) place f p l beneath rest s)

-- replaces the two sizes on top, the second one at the very top, by a new array of arrays; what was
-- made stays where it fails
abbrev pub makes_grid : Place → Elem → Action
makes_grid place e f p l ops rest s =
    on_top ops (λ m under. on_top under (λ n beneath.
    let part = grid_made e n m s.store in let after = record s { store = part.store } in
    tried part.end place after (λ r. pushes r f p l beneath rest after)))

-- replaces so many values by a new array of them, the deepest first
abbrev pub makes_array : Place → Elem → (of_arrays : Bool) → (n : ℕ) → Action
makes_array place e b n f p l ops rest s =
    tried (taken n [] ops) place s (λ t.
    pushes_made (array_made e b t.arguments s.store) place f p l t.beneath rest s)

-- goes on where the array beneath the index on top has such an item; else takes the index, and goes
-- to a place
abbrev pub goes_past_items : Place → ℕ → Action
goes_past_items place t f p l ops rest s =
    on_top ops (λ i under. on_top under (λ r beneath.
    tried (has_item s.store.objects r i) place s (λ is.
    pick is (goes_on f p l (i ∷ r ∷ beneath) rest s) (goes_to t f p l (r ∷ beneath) rest s))))

-- takes the top and stores it in the item of the index beneath it, where the array has that item
-- still; the next index replaces the index
abbrev pub fills : Place → Action
fills place f p l ops rest s =
    on_top ops (λ v under. on_top under (λ i lower. on_top lower (λ r beneath.
    tried (filled s.store r i v) place s (λ done.
    goes_on f p l (done.next ∷ r ∷ beneath) rest (record s { store = done.store })))))

-- takes the top and puts it at the end of the array beneath it
abbrev pub appends : Place → Action
appends place f p l ops rest s =
    on_top ops (λ v under. on_top under (λ r beneath.
    tried (appended s.store r v) place s (λ store.
    goes_on f p l (r ∷ beneath) rest (record s { store = store }))))

-- takes the top, and goes to a place where it is 0
abbrev pub goes_where_zero : Place → ℕ → Action
goes_where_zero place t f p l ops rest s =
    on_top ops (λ v beneath. tried (is_zero v) place s (λ is.
    goes_to (pick is t (p + 1)) f p l beneath rest s))

-- spends a turn
abbrev pub spends_turn : Place → Action
spends_turn place f p l ops rest s =
    tried (turn_spent s) place s (λ s1. goes_on f p l ops rest s1)

-- calls function g on the topmost operands
abbrev pub calls : CodeParts → Place → (g : ℕ) → Action
calls code place g f p l ops rest s =
    with_fun (slice_get code.funs g) (λ fn.
    tried (taken fn.params [] ops) place s (λ t.
    entered fn g t.arguments place f p l t.beneath rest s))

-- calls the function in a slot of the object that is the deepest of the n topmost operands
abbrev pub sends : CodeParts → Place → (slot n : ℕ) → Action
sends code place slot n f p l ops rest s =
    tried (taken n [] ops) place s (λ t. on_top t.arguments (λ r others.
    tried (method_of code.classes s.store.objects r slot) place s (λ g.
    sent code g (r ∷ others) place f p l t.beneath rest s)))

-- sporks a child that will run function g on its arguments: a turn is spent, and then the child
-- must be one of those that may be sporked at a sample
abbrev pub sporks_child : Place → (g : ℕ) → (arguments : List Datum) → Action
sporks_child place g arguments f p l ops rest s =
    tried (turn_spent s) place s (λ s1. tried (sporked g arguments s1) place s1 (λ child.
    pushes (AShred child.number) f p l ops rest child.state))

-- sporks a child that will run function g on the topmost operands
abbrev pub sporks : CodeParts → Place → (g : ℕ) → Action
sporks code place g f p l ops rest s =
    with_fun (slice_get code.funs g) (λ fn.
    tried (taken fn.params [] ops) place s (λ t.
    sporks_child place g t.arguments f p l t.beneath rest s))

-- the same for a function that was found for an object, where it takes so many arguments
abbrev pub sporks_found : CodeParts → Place → (g : ℕ) → (arguments : List Datum) → Action
sporks_found code place g arguments f p l ops rest s =
    with_fun (slice_get code.funs g) (λ fn. pick (nat_eq (length arguments) fn.params)
    (sporks_child place g arguments f p l ops rest s) Bad)

-- sporks a child that will run the function in a slot of the object that is the deepest of the n
-- topmost operands
abbrev pub sporks_sent : CodeParts → Place → (slot n : ℕ) → Action
sporks_sent code place slot n f p l ops rest s =
    tried (taken n [] ops) place s (λ t. on_top t.arguments (λ r others.
    tried (method_of code.classes s.store.objects r slot) place s (λ g.
    sporks_found code place g (r ∷ others) f p l t.beneath rest s)))

-- returns the top
abbrev pub returns : Action
returns f p l ops rest s = on_top ops (λ v beneath. returned v rest s)

-- takes the top, and stops with the request that a step makes of it
abbrev pub waits : Place → (Datum → Store → Try Request) → Action
waits place asks f p l ops rest s =
    on_top ops (λ v beneath. tried (asks v s.store) place s (λ q.
    Stops q place (frame f (p + 1) l beneath ∷ rest) s))

-- stops with a request
abbrev pub stops : Place → (Store → Request) → Action
stops place asks f p l ops rest s =
    Stops (asks s.store) place (frame f (p + 1) l ops ∷ rest) s

-- what an instruction does, for the shred with this number
abbrev pub effect : CodeParts → (shred : ℕ) → Instr → Place → Action
effect code shred (Int n) place = pushes (AnInt n)
effect code shred (Float x) place = pushes (AFloat x)
effect code shred (Dur samples) place = pushes (ADur samples)
effect code shred (Time samples) place = pushes (ATime samples)
effect code shred (Text k) place = pushes_found place (λ locals store. text_at code.texts k)
effect code shred Null place = pushes (ARef 0)
effect code shred NoShred place = pushes (AShred 0)
effect code shred Now place = pushes_found place (λ locals store. Gives (ATime store.now))
effect code shred Me place = pushes (AShred shred)
effect code shred Dac place = pushes (ARef 1)
effect code shred Hole place = pushes (ARef 2)
effect code shred (Local i) place = pushes_found place (λ locals store. local_of locals i)
effect code shred (Static i) place = pushes_found place (λ locals store. static_of store i)
effect code shred (SetLocal i) place = sets_local place i
effect code shred (SetStatic i) place = sets_static place i
effect code shred (OpLocal i o) place = updates_local place i o
effect code shred (OpStatic i o) place = updates_static place i o
effect code shred (Field i) place = reads_field place i
effect code shred (SetField i) place = sets_field place i
effect code shred (OpField i o) place = updates_field place i o
effect code shred Item place = reads_item place
effect code shred SetItem place = sets_item place
effect code shred (OpItem o) place = updates_item place o
effect code shred Dup place = doubles
effect code shred Drop place = drops
effect code shred Swap place = exchanges
effect code shred (Op1 o) place = replaces place (unary o)
effect code shred (Op2 o) place = replaces_two place (binary o)
effect code shred (UnitInt n d) place = replaces place (int_units n d)
effect code shred (UnitFix n d) place = replaces place (float_units n d)
effect code shred (Jump t) place = goes_to t
effect code shred (JumpZero t) place = goes_where_zero place t
effect code shred Turn place = spends_turn place
effect code shred (Call g) place = calls code place g
effect code shred (Virtual slot n) place = sends code place slot n
effect code shred (Native call) place = calls_native place call
effect code shred Return place = returns
effect code shred (New c) place = makes code place c
effect code shred (Ugen kind) place = makes_unit shred place kind
effect code shred (Row e) place = makes_row place e
effect code shred (Grid e) place = makes_grid place e
effect code shred (Lit e n) place = makes_array place e false n
effect code shred (LitGrid e n) place = makes_array place e true n
effect code shred (Each t) place = goes_past_items place t
effect code shred Fill place = fills place
effect code shred Append place = appends place
effect code shred (Spork g) place = sporks code place g
effect code shred (SporkVirtual slot n) place = sporks_sent code place slot n
effect code shred WaitDur place = waits place wait_dur
effect code shred WaitTime place = waits place wait_time
effect code shred WaitEvent place = waits place (λ event store. wait_event event)
effect code shred Yield place = stops place (λ store. At store.now)
effect code shred Exit place = stops place (λ store. End)
effect code shred (Print kinds) place = prints code.classes place kinds
effect code shred Connect place = joins place connected
effect code shred Disconnect place = joins place disconnected
effect code shred (Param q) place = reads_parameter place q
effect code shred (SetParam q) place = sets_parameter place q

-- the instruction at a place of a function
abbrev pub steps_of : Option Fun → List Step
steps_of None = []
steps_of (Some fn) = fn.code

abbrev pub step_at : CodeParts → (f p : ℕ) → Option Step
step_at code f p = slice_get (steps_of (slice_get code.funs f)) p

abbrev pub with_step : Option Step → (Step → Effect) → Effect
with_step None go = Bad
with_step (Some step) go = go step

-- what the next instruction does
abbrev pub next_effect : CodeParts → (shred : ℕ) → List Frame → State → Effect
next_effect code shred [] s = Bad
next_effect code shred (top ∷ rest) s =
    with_step (step_at code top.fun top.place)
    (λ step. effect code shred step.instr step.place top.fun top.place top.locals top.operands
    rest s)

-- how a slice ends: with the first function's value, at a wait, at a trap; or it was given too
-- few instructions; or it is stuck, which never comes in a verified code
pub data Halt : Type 0 where
  Ended : Datum → State → Halt
  Waits : Request → Place → List Frame → State → Halt
  Broke : Trap → Place → State → Halt
  Unfinished : Halt
  Stuck : Halt

abbrev pub go_on : Effect → (List Frame → State → Halt) → Halt
go_on (Next frames s) next = next frames s
go_on (Stops q place frames s) next = Waits q place frames s
go_on (Over v s) next = Ended v s
go_on (Breaks trap place s) next = Broke trap place s
go_on Bad next = Stuck

-- a slice from here on, of at most k instructions
abbrev pub exec : CodeParts → (shred k : ℕ) → List Frame → State → Halt
exec code shred zero frames s = Unfinished
exec code shred (suc k) frames s = go_on (next_effect code shred frames s) (exec code shred k)

abbrev pub one_more : Effect → (List Frame → State → ℕ) → ℕ
one_more (Next frames s) next = suc (next frames s)
one_more _ next = 1

-- how many instructions that slice begins
abbrev pub begun : CodeParts → (shred k : ℕ) → List Frame → State → ℕ
begun code shred zero frames s = 0
begun code shred (suc k) frames s = one_more (next_effect code shred frames s) (begun code shred k)

-- a slice's own turn is spent first; where none is left, it traps at the place of the wait
abbrev pub with_turn : Try State → Place → State → (State → Halt) → Halt
with_turn (Gives s1) place s next = next s1
with_turn (Fails trap) place s next = Broke trap place s
with_turn Misfit place s next = Stuck

-- a slice of a shred whose last slice was at a time, stopped at a place, and left these turns
abbrev pub slice_on : CodeParts → (shred k : ℕ) → Place → (last : ℤ) → (turns : ℕ) → List Frame →
    Store → Halt
slice_on code shred k place last turns frames store =
    with_turn (turn_spent (resumed last turns store)) place (resumed last turns store)
    (exec code shred k frames)

-- how many instructions it begins: none where no turn is left
abbrev pub begun_where : Try State → (State → ℕ) → ℕ
begun_where (Gives s) go = go s
begun_where (Fails trap) go = 0
begun_where Misfit go = 0

abbrev pub begun_on : CodeParts → (shred k : ℕ) → (last : ℤ) → (turns : ℕ) → List Frame → Store → ℕ
begun_on code shred k last turns frames store =
    begun_where (turn_spent (resumed last turns store)) (begun code shred k frames)

-- one slice on each store that is found, up to the first slice that ends or traps
abbrev pub slices : CodeParts → (shred k : ℕ) → Halt → List Store → Halt
slices code shred k (Waits q place frames s) (store ∷ others) =
    where_it_goes_on q (Waits q place frames s)
    (slices code shred k (slice_on code shred k place s.store.now s.turns frames store) others)
slices code shred k (Waits q place frames s) [] = Waits q place frames s
slices code shred k (Ended v s) stores = Ended v s
slices code shred k (Broke trap place s) stores = Broke trap place s
slices code shred k Unfinished stores = Unfinished
slices code shred k Stuck stores = Stuck

-- a shred on all the stores that it finds, of at most k instructions a slice
abbrev pub code_run : CodeParts → (shred k : ℕ) → List Frame → State → List Store → Halt
code_run code shred k frames s stores = slices code shred k (exec code shred k frames s) stores

-- where an instruction stands in the source
abbrev pub source_of : Option Step → Place
source_of None = record { file = 0; line = 1 }
source_of (Some step) = step.place

-- where a shred with these frames stopped: at the instruction before the one at which it goes on
abbrev pub stopped_at : CodeParts → List Frame → Place
stopped_at code [] = source_of None
stopped_at code (top ∷ rest) = source_of (step_at code top.fun (pred top.place))

-- the length of the longest function
abbrev pub longest : List Fun → ℕ
longest [] = 0
longest (fn ∷ rest) = max (length fn.code) (longest rest)

-- more instructions than a slice of a verified code can begin: between two turns each place of a
-- function is passed at most once for each place that jumps back over it, and there are at most a
-- million turns and a thousand frames
unfoldable pub enough : CodeParts → ℕ
enough code = 1_001_002 * suc (longest code.funs * suc (longest code.funs))
