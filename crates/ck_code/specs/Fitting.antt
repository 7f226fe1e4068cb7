-- When what a shred runs with fits a code: its values suit the kinds that a typing says.
use Rattle.std.specs.Prelude.{◌≡◌, ◌⊎◌, ℕ, zero, suc, ◌+◌, ◌^◌, ◌<◌, ◌≤◌, ℤ, pos, ◌+ℤ◌, ◌*ℤ◌, ◌≤ℤ◌, Bool, true, false, List, [], ◌∷◌, All, length, Some, slice_get}
use Rattle.ck_base.specs.declared.limits.TheConstants.{MAX_CALLS, MAX_SPORKS, MAX_SAMPLES}
use Rattle.ck_values.specs.declared.kind.Elem.{Elem}
use Rattle.ck_values.specs.declared.kind.Elem.TheVariants.{Int, Float, Dur, Time, Text, Shred, Class as ClassElem, Unit as UnitElem}
use Rattle.ck_values.specs.declared.kind.Kind.{Kind}
use Rattle.ck_values.specs.declared.kind.Kind.TheVariants.{Void, Null, One, Row, Grid}
use Rattle.ugen_names.specs.declared.table.UgenKind.{UgenKind}
use Rattle.ugen_names.specs.declared.table.UgenKind.TheVariants.{UGen, Dac, Blackhole}
use Rattle.ck_values.specs.Datum.{Datum, AnInt, AFloat, ADur, ATime, AText, AShred, ARef}
use Rattle.ugen_sample.specs.Connection.{Connection}
use Rattle.ugen_sample.specs.UnitState.{Units}
use Rattle.ck_store.specs.Store.{Object, Instance, Items, UnitGenerator, Shape, OfClass, OfItems, OfUnit, Shapes, Keeps, Store, shapes_of, State, Act, Printed, Sporked, WokeOne, WokeAll, Removed, Request, At, On, End}
use Rattle.ck_typed.specs.declared.class.Class.{Class}
use Rattle.ck_typed.specs.Standing.{IsBelow, Stands}
use Rattle.ck_typed.specs.WellFormed.{FoundWhere}
use Rattle.ck_code.specs.declared.instr.Instr.{Instr}
use Rattle.ck_code.specs.declared.instr.Instr.TheVariants.{Call, Virtual, WaitDur, WaitTime, WaitEvent, Yield, Exit}
use Rattle.ck_code.specs.declared.code.CodeParts.{CodeParts}
use Rattle.ck_code.specs.Machine.{Frame, step_at, Effect, Next, Stops, Over, Breaks, Bad, Halt, Ended, Waits, Broke, Unfinished, Stuck, slice_on}
use Rattle.ck_code.specs.Verified.{Typing, AreAt, params_of}

-- the value is null, or refers to an object whose shape is such
abbrev pub Refers : Shapes → (Shape → Type 0) → Datum → Type 0
Refers shapes P (ARef zero) = Unit {0}
Refers shapes P (ARef (suc n)) = FoundWhere (shapes n) P
Refers shapes P _ = ⊥

-- the shapes of what a type of references takes
abbrev pub IsOfClass : List Class → ℕ → Shape → Type 0
IsOfClass classes c (OfClass d) = IsBelow classes d c
IsOfClass classes c _ = ⊥

abbrev pub IsOfUnit : UgenKind → Shape → Type 0
IsOfUnit u (OfUnit kind) = (u ≡ UGen) ⊎ (kind ≡ u)
IsOfUnit u _ = ⊥

abbrev pub IsOfItems : Elem → (of_arrays : Bool) → Shape → Type 0
IsOfItems e b (OfItems elem of_arrays) = (elem ≡ e) × (of_arrays ≡ b)
IsOfItems e b _ = ⊥

-- the value is the null of references
abbrev pub IsNull : Datum → Type 0
IsNull (ARef zero) = Unit {0}
IsNull _ = ⊥

-- the value is of this type
abbrev pub IsOf : List Class → Shapes → Elem → Datum → Type 0
IsOf classes shapes Int (AnInt n) = Unit {0}
IsOf classes shapes Float (AFloat raw) = Unit {0}
IsOf classes shapes Dur (ADur samples) = Unit {0}
IsOf classes shapes Time (ATime samples) = Unit {0}
IsOf classes shapes Text (AText bytes) = Unit {0}
IsOf classes shapes Shred (AShred number) = Unit {0}
IsOf classes shapes (ClassElem c) v = Refers shapes (IsOfClass classes c) v
IsOf classes shapes (UnitElem u) v = Refers shapes (IsOfUnit u) v
IsOf classes shapes _ v = ⊥

-- the value suits this kind, beside objects of these shapes; no value suits `Void`
abbrev pub Suits : List Class → Shapes → Kind → Datum → Type 0
Suits classes shapes Void v = ⊥
Suits classes shapes Null v = IsNull v
Suits classes shapes (One e) v = IsOf classes shapes e v
Suits classes shapes (Row e) v = Refers shapes (IsOfItems e false) v
Suits classes shapes (Grid e) v = Refers shapes (IsOfItems e true) v

-- the values suit these kinds, one each
abbrev pub Suit : List Class → Shapes → List Kind → List Datum → Type 0
Suit classes shapes [] [] = Unit {0}
Suit classes shapes [] (v ∷ values) = ⊥
Suit classes shapes (k ∷ kinds) [] = ⊥
Suit classes shapes (k ∷ kinds) (v ∷ values) =
    Suits classes shapes k v × Suit classes shapes kinds values

-- the values all suit one kind
abbrev pub AllSuit : List Class → Shapes → Kind → List Datum → Type 0
AllSuit classes shapes k [] = Unit {0}
AllSuit classes shapes k (v ∷ values) =
    Suits classes shapes k v × AllSuit classes shapes k values

-- what an object holds suits it
abbrev pub IsFitObject : List Class → Shapes → Object → Type 0
IsFitObject classes shapes (Instance c fields) =
    FoundWhere (slice_get classes c) (λ class. Suit classes shapes class.fields fields)
IsFitObject classes shapes (Items e false items) = AllSuit classes shapes (One e) items
IsFitObject classes shapes (Items e true items) = AllSuit classes shapes (Row e) items
IsFitObject classes shapes (UnitGenerator place) = Unit {0}

-- each of these objects fits, beside objects of these shapes
pub record AreFitObjects (classes : List Class) (shapes : Shapes) (objects : List Object) : Type 0 where
  pub each : (n : ℕ) (o : Object) → slice_get objects n ≡ Some o → IsFitObject classes shapes o

-- the unit generators fit: the output and what pulls without being heard are there, and each
-- connection leads from one place to another
pub record IsFitGraph (shapes : Shapes) (units : Units) (connections : List Connection) :
    Type 0 where
  pub output : shapes 0 ≡ Some (OfUnit Dac)
  pub hole : shapes 1 ≡ Some (OfUnit Blackhole)
  pub within : All (λ c. (c.from < length units) × (c.to < length units)) connections

-- the store fits the code: its objects fit, its statics suit their kinds, its unit generators fit,
-- its time is within the longest run, and no more shreds were numbered than could be sporked by then
pub record IsFitStore (code : CodeParts) (store : Store) : Type 0 where
  pub objects : AreFitObjects code.classes (shapes_of store) store.objects
  pub statics : Suit code.classes (shapes_of store) code.statics store.statics
  pub graph : IsFitGraph (shapes_of store) store.units store.connections
  pub begun : pos 0 ≤ℤ store.now
  pub within : store.now ≤ℤ pos MAX_SAMPLES
  pub sporks : store.sporks ≤ MAX_SPORKS
  pub next_shred : pos store.next_shred ≤ℤ
      ((pos (2 ^ 33) +ℤ (pos MAX_SPORKS *ℤ store.now)) +ℤ pos store.sporks)

-- place p of function f asks for these operands
abbrev pub Asks : Typing → (f p : ℕ) → List Kind → Type 0
Asks typing f p kinds = FoundWhere (slice_get typing.operands f) (λ places. AreAt places p kinds)

-- the frame's locals suit its function
abbrev pub AreLocalsFit : CodeParts → Shapes → Frame → Type 0
AreLocalsFit code shapes frame =
    FoundWhere (slice_get code.funs frame.fun)
    (λ fn. Suit code.classes shapes fn.locals frame.locals)

-- the frame can go on: it holds exactly what its place asks for
pub record IsReady (code : CodeParts) (typing : Typing) (shapes : Shapes) (frame : Frame) :
    Type 0 where
  pub kinds : List Kind
  pub asked : Asks typing frame.fun frame.place kinds
  pub held : Suit code.classes shapes kinds frame.operands
  pub locals : AreLocalsFit code shapes frame

abbrev pub IsCall : Instr → Type 0
IsCall (Call g) = Unit {0}
IsCall (Virtual slot n) = Unit {0}
IsCall _ = ⊥

-- the frame waits for the value of function g: it stands directly after a call, and its place asks
-- for a kind that the result of g fits on top of exactly what it holds
pub record IsCalling (code : CodeParts) (typing : Typing) (shapes : Shapes) (g : ℕ)
    (frame : Frame) : Type 0 where
  pub call : ℕ
  pub after : frame.place ≡ call + 1
  pub called : FoundWhere (step_at code frame.fun call) (λ step. IsCall step.instr)
  pub kind : Kind
  pub kinds : List Kind
  pub asked : Asks typing frame.fun frame.place (kind ∷ kinds)
  pub result : FoundWhere (slice_get typing.results g) (λ result. Stands code.classes result kind)
  pub held : Suit code.classes shapes kinds frame.operands
  pub locals : AreLocalsFit code shapes frame

-- beneath a frame of function g, each frame waits for the one above; the last is of `main`
abbrev pub AreCalling : CodeParts → Typing → (main : ℕ) → Shapes → (g : ℕ) → List Frame →
    Type 0
AreCalling code typing main shapes g [] = g ≡ main
AreCalling code typing main shapes g (below ∷ rest) =
    IsCalling code typing shapes g below × AreCalling code typing main shapes below.fun rest

-- the frames fit beside objects of these shapes, of a shred that runs `main`: the top one can go on, those
-- beneath wait, and at most a thousand calls are active
abbrev pub AreFit : CodeParts → Typing → (main : ℕ) → Shapes → List Frame → Type 0
AreFit code typing main shapes [] = ⊥
AreFit code typing main shapes (top ∷ rest) =
    IsReady code typing shapes top × AreCalling code typing main shapes top.fun rest
    × (length rest ≤ MAX_CALLS)

-- the event with this number is there
abbrev pub IsEvent : List Class → Shapes → ℕ → Type 0
IsEvent classes shapes zero = ⊥
IsEvent classes shapes (suc n) = FoundWhere (shapes n) (IsOfClass classes 1)

-- the act fits: what it sporks has arguments that suit their function, and what it wakes is an
-- event
abbrev pub IsFitAct : CodeParts → Shapes → Act → Type 0
IsFitAct code shapes (Printed line) = Unit {0}
IsFitAct code shapes (Sporked number f arguments) =
    FoundWhere (slice_get code.funs f)
    (λ fn. Suit code.classes shapes (params_of fn) arguments)
IsFitAct code shapes (WokeOne event) = IsEvent code.classes shapes event
IsFitAct code shapes (WokeAll event) = IsEvent code.classes shapes event
IsFitAct code shapes (Removed number) = Unit {0}

-- the state fits the code, in a slice that began in another: it is the same time, with all the
-- objects and no turns more, and the acts fit where those at the beginning did
pub record IsFitState (code : CodeParts) (start s : State) : Type 0 where
  pub store : IsFitStore code s.store
  pub time : s.store.now ≡ start.store.now
  pub turns : s.turns ≤ start.turns
  pub acts : All (IsFitAct code (shapes_of start.store)) start.acts
      → All (IsFitAct code (shapes_of s.store)) s.acts
  pub kept : Keeps (shapes_of start.store) (shapes_of s.store)

-- the request fits: it is for no time before now, and for an event that is there
abbrev pub IsFitRequest : List Class → Shapes → (now : ℤ) → Request → Type 0
IsFitRequest classes shapes now (At time) = now ≤ℤ time
IsFitRequest classes shapes now (On event) = IsEvent classes shapes event
IsFitRequest classes shapes now End = Unit {0}

abbrev pub IsWait : Instr → Type 0
IsWait WaitDur = Unit {0}
IsWait WaitTime = Unit {0}
IsWait WaitEvent = Unit {0}
IsWait Yield = Unit {0}
IsWait Exit = Unit {0}
IsWait _ = ⊥

-- the top frame stands directly after an instruction at which a slice stops
abbrev pub IsAfterWait : CodeParts → List Frame → Type 0
IsAfterWait code [] = ⊥
IsAfterWait code (top ∷ rest) =
    (wait : ℕ) × (top.place ≡ wait + 1)
    × FoundWhere (step_at code top.fun wait) (λ step. IsWait step.instr)

-- it holds, where a shred goes on after its request
abbrev pub WhereItGoesOn : Request → Type 0 → Type 0
WhereItGoesOn (At time) P = P
WhereItGoesOn (On event) P = P
WhereItGoesOn End P = Unit {0}

-- a shred fits that stopped with this request, in a slice that began in this state
pub record IsFitStop (code : CodeParts) (typing : Typing) (main : ℕ) (start : State) (q : Request)
    (frames : List Frame) (s : State) : Type 0 where
  pub frames_fit : WhereItGoesOn q (AreFit code typing main (shapes_of s.store) frames)
  pub state : IsFitState code start s
  pub after : IsAfterWait code frames
  pub request : IsFitRequest code.classes (shapes_of s.store) s.store.now q

-- the value is a result of this function
abbrev pub IsResult : CodeParts → Typing → (main : ℕ) → Shapes → Datum → Type 0
IsResult code typing main shapes v =
    FoundWhere (slice_get typing.results main) (λ result. Suits code.classes shapes result v)

-- what an instruction leads to fits, in a slice that began in this state; it is never `Bad`
abbrev pub IsFitEffect : CodeParts → Typing → (main : ℕ) → (start : State) → Effect → Type 0
IsFitEffect code typing main start (Next frames s) =
    AreFit code typing main (shapes_of s.store) frames × IsFitState code start s
IsFitEffect code typing main start (Stops q place frames s) =
    IsFitStop code typing main start q frames s
IsFitEffect code typing main start (Over v s) =
    IsResult code typing main (shapes_of s.store) v × IsFitState code start s
IsFitEffect code typing main start (Breaks trap place s) = IsFitState code start s
IsFitEffect code typing main start Bad = ⊥

-- how a slice that began in this state ends fits; it is never `Stuck`
abbrev pub IsFitHalt : CodeParts → Typing → (main : ℕ) → (start : State) → Halt → Type 0
IsFitHalt code typing main start (Ended v s) =
    IsResult code typing main (shapes_of s.store) v × IsFitState code start s
IsFitHalt code typing main start (Waits q place frames s) =
    IsFitStop code typing main start q frames s
IsFitHalt code typing main start (Broke trap place s) = IsFitState code start s
IsFitHalt code typing main start Unfinished = Unit {0}
IsFitHalt code typing main start Stuck = ⊥

-- a store may be the next one that a shred finds after it left one: it fits, it isn't earlier, and
-- it has all the objects
pub record ComesAfter (code : CodeParts) (before after : Store) : Type 0 where
  pub fits : IsFitStore code after
  pub later : before.now ≤ℤ after.now
  pub kept : Keeps (shapes_of before) (shapes_of after)

-- the stores follow one another: each comes after the one that the slice before left, with at most
-- k instructions a slice
abbrev pub FollowOneAnother : CodeParts → (shred k : ℕ) → Halt → List Store → Type 0
FollowOneAnother code shred k (Waits q place frames s) (store ∷ others) =
    WhereItGoesOn q (ComesAfter code s.store store
    × FollowOneAnother code shred k (slice_on code shred k place s.store.now s.turns frames store)
    others)
FollowOneAnother code shred k (Waits q place frames s) [] = Unit {0}
FollowOneAnother code shred k (Ended v s) stores = Unit {0}
FollowOneAnother code shred k (Broke trap place s) stores = Unit {0}
FollowOneAnother code shred k Unfinished stores = Unit {0}
FollowOneAnother code shred k Stuck stores = Unit {0}
