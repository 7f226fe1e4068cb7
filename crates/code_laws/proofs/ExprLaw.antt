-- The code of an expression does what the expression does.
use Rattle.std.proofs.Common.{◌≡◌, ℕ, zero, suc, ◌+◌, ◌≤◌, ◌<◌, List, [], ◌∷◌, ◌++◌, length, Some, refl, sym, ap, ◌∙◌, subst, Bool, true, false, pos, arith, append-nil}
use Rattle.std.specs.Prelude.{slice_get}
use Rattle.ck_values.specs.declared.kind.Elem.{Elem}
use Rattle.ck_values.specs.declared.kind.Elem.TheVariants as elem
use Rattle.ck_values.specs.declared.kind.Kind.{Kind}
use Rattle.ck_values.specs.declared.operator.Op2.{Op2}
use Rattle.ck_values.specs.declared.trap.Place.{Place}
use Rattle.ck_values.specs.Datum.{Datum, AnInt, AText}
use Rattle.ck_store.specs.Store.{Store, State, Try, Gives, Fails, Misfit}
use Rattle.ck_store.specs.Operators.{binary}
use Rattle.ck_store.specs.Steps.{and_then, found, local_of, with_local, static_of, with_static}
use Rattle.ck_store.specs.Natives.{operand_count, native}
use Rattle.ck_store.specs.Prints.{print_line, with_line}
use Rattle.ck_store.specs.Arrays.{item_of, with_item, array_made, grid_made, Filled}
use Rattle.ck_store.specs.Graph.{ReadBack}
use Rattle.ck_store.specs.Objects.{Made, field_of, with_field, bodies_of, object_made, method_of}
use Rattle.ck_typed.specs.declared.class.Class.{Class}
use Rattle.ck_typed.specs.declared.expr.Spot.{Spot}
use Rattle.ck_typed.specs.declared.native.Native.{Native as BuiltIn}
use Rattle.ck_typed.specs.declared.expr.Spot.TheVariants.{Local, Static, StaticOf, Field, Item}
use Rattle.ck_typed.specs.declared.operation.Leaf.{Leaf as OfNone}
use Rattle.ck_typed.specs.declared.operation.Leaf.TheVariants as leaf
use Rattle.ck_typed.specs.declared.operation.Unary.{Unary as OfOne}
use Rattle.ck_typed.specs.declared.operation.Unary.TheVariants as unary
use Rattle.ck_typed.specs.declared.operation.Binary.{Binary as OfTwo}
use Rattle.ck_typed.specs.declared.operation.Binary.TheVariants as binary_op
use Rattle.ck_typed.specs.declared.operation.Variadic.{Variadic as OfMany}
use Rattle.ck_typed.specs.declared.operation.Variadic.TheVariants as variadic
use Rattle.ck_typed.specs.Tree.{Expr, Exprs, no_exprs, more_exprs, Leaf, Text as TextLiteral, Unary, Binary, Variadic, And, Or, Choice, Assign, AssignDeclared, Update, Prefix, Postfix, New as Making, NewObjects, Construct, CallOf, SporkOf, Program}
use Rattle.ck_code.specs.declared.instr.Instr.TheVariants.{Call, Virtual, Native, Print, Spork, Text, Grid, Each, Turn, Fill, Jump}
use Rattle.ck_code.specs.declared.code.CodeParts.{CodeParts}
use Rattle.ck_code.proofs.Natives.{Given, KeepsRest, native_keeps}
use Rattle.ck_code.proofs.Ends.{kept_turns}
use Rattle.ck_code.specs.Machine.{Effect, Frame, frame, Next, step_at, Taken, taken, tried, on_top, text_at, makes_array, pushes_made, sent, sporks_found}
use Rattle.ck_meaning.specs.Outcome.{Point, with_locals, with_state, with_store, Outcome, Done, Left, Asks, Trapped, Wrong, then_do, try}
use Rattle.ck_meaning.specs.Meaning.{fuel, Nothing, Calls, Setting, setting, read_at, put_at, updated, step_of, native_called, constructed, new_object, made_by, made_partly, each_made, sent_to, sporked_by, spork_sent, of_none, of_one, of_two, of_many, eval, eval_all}
use Rattle.ck_scheme.specs.Texts.{number_of, texts_of}
use Rattle.ck_scheme.specs.Scheme.{at, bodies_code, bodies_end, count_of, read_code, set_code, update_code, spot_end, expr_end, args_end, expr_code, args_code}
use Rattle.ck_scheme.specs.Tails.{leaf_code, leaf_end, unary_code, unary_end, binary_code, binary_end, variadic_code, variadic_end}
use Rattle.code_laws.proofs.Lands.{go_over, fused, Stand, Way, Lands, Land, Within, Of, no_way, Does, goes, here, then, then_of, does, after_try, picked, either, next, turned, more, stops, backed, onward}
use Rattle.ck_scheme.proofs.Stands.{HasAt, split, update_length, bodies_length, split_expr, split_args}
use Rattle.code_laws.proofs.Numbered.{IsNumbered}
use Rattle.code_laws.proofs.UnitLaw.{unit_lands, units_land}
use Rattle.code_laws.proofs.Shapes.{OnTwo, OnMany, Takes, HasAddress, TakeObject, Shaped, AllShaped}

-- the arguments on the operands, the last one on top
abbrev pub pushed : (arguments operands : List Datum) → List Datum
pushed [] ops = ops
pushed (v ∷ vs) ops = pushed vs (v ∷ ops)

-- the arguments come off as they went on
taken_more : (vs before ops : List Datum) (m k : ℕ) → m ≡ length vs + k
    → taken m before (pushed vs ops) ≡ taken k (vs ++ before) ops
taken_more [] before ops m k e = let e1 : m ≡ k = omega arith in ap (λ n. taken n before ops) e1
taken_more (v ∷ vs) before ops m k e = taken_more vs before (v ∷ ops) m (suc k) (omega arith)

pub taken_pushed : (vs ops : List Datum) (n : ℕ) → n ≡ length vs
    → taken n [] (pushed vs ops) ≡ Gives (record { arguments = vs; beneath = ops })
taken_pushed vs ops n e =
    taken_more vs [] ops n 0 (omega arith) ∙ ap (λ l.
    Gives (record { arguments = l; beneath = ops })) (append-nil vs)

-- a string with a number goes on the operands
pub text_does : (code : CodeParts) (n f p : ℕ) (texts : List (List ℕ)) (bytes : List ℕ)
    (place : Place) (l ops : List Datum) (rest : List Frame) (s : State) → code.texts ≡ texts
    → IsNumbered texts bytes
    → step_at code f p ≡ Some (at (Text (number_of texts bytes)) place)
    → Does code n (frame f p l ops ∷ rest) s
    (Next (frame f (p + 1) l (AText bytes ∷ ops) ∷ rest) s)
unfolding text_at
text_does code n f p texts bytes place l ops rest s strings numbered has =
    let k = number_of texts bytes in
    let given : text_at code.texts k ≡ Gives (AText bytes) =
    ap (λ t. text_at t k) strings
    ∙ ap (λ o. and_then (found o) (λ bytes. Gives (AText bytes))) numbered in
    let go = λ (t : Try Datum). Does code n (frame f p l ops ∷ rest) s
    (tried t place s (λ v. Next (frame f (p + 1) l (v ∷ ops) ∷ rest) s)) in
    subst go given (does has)

-- a call's instruction, with the arguments on top, at less fuel than the bound, and the beginning of
-- a function that was found for an object; and the same of a spork, at any fuel
pub record CallLaw (code : CodeParts) (program : Program) (n bound : ℕ)
    (call : Calls) : Type 0 where
  pub by : (f p g : ℕ) (place : Place) (k : ℕ) (ops vs : List Datum) (rest : List Frame)
      (pt : Point) → k < bound → Takes (slice_get program.funs g) (length vs) → Within k pt
      → step_at code f p ≡ Some (at (Call g) place)
      → Land code n k (λ v l. frame f (p + 1) pt.locals (v ∷ ops)
      ∷ rest) no_way (frame f p pt.locals (pushed vs ops)
      ∷ rest) pt.state pt.stores (call g vs (length rest) place pt)
  pub sends : (f p g : ℕ) (place : Place) (k : ℕ) (ops vs : List Datum) (rest fs : List Frame)
      (pt : Point) → k < bound → Within k pt
      → Does code n fs pt.state (sent code g vs place f p pt.locals ops rest pt.state)
      → Land code n k (λ v l. frame f (p + 1) pt.locals (v ∷ ops) ∷ rest) no_way fs pt.state
      pt.stores (call g vs (length rest) place pt)
  pub sporks : (f p g : ℕ) (place : Place) (k : ℕ) (ops vs : List Datum) (rest : List Frame)
      (pt : Point) → Takes (slice_get program.funs g) (length vs) → Within k pt
      → step_at code f p ≡ Some (at (Spork g) place)
      → Land code n k (λ v l. frame f (p + 1) l (v ∷ ops) ∷ rest) no_way
      (frame f p pt.locals (pushed vs ops) ∷ rest) pt.state pt.stores
      (sporked_by (setting program n bound call (length rest)) g vs place pt)
  pub sporks_sent : (f p g : ℕ) (place : Place) (k : ℕ) (ops vs : List Datum)
      (rest fs : List Frame) (pt : Point) → Within k pt
      → Does code n fs pt.state (sporks_found code place g vs f p pt.locals ops rest pt.state)
      → Land code n k (λ v l. frame f (p + 1) l (v ∷ ops) ∷ rest) no_way fs pt.state pt.stores
      (sporked_by (setting program n bound call (length rest)) g vs place pt)

after_given_so : {A W : Type 0} {code : CodeParts} {n k : ℕ} {done : Stand W} {left : Way}
    {fs : List Frame} {s : State} {ws : List Store} (P : A → Type 0) (s0 : State) (place : Place)
    (o : Try A) (r : A → Effect) (go : A → Outcome W) → Given P o →
    Does code n fs s (tried o place s0 r)
    → ((a : A) → P a → Does code n fs s (r a) → Land code n k done left fs s ws (go a))
    → Lands code n k done left fs s ws (try o place s0 go)
after_given_so P s0 place (Gives a) r go fact d h = (h a fact d).so
after_given_so {code = code} {n = n} {ws = ws} P s0 place (Fails t) r go fact d h =
    (1, ap (λ x. go_over x ws (fused code n 0)) d.now)
after_given_so {code = code} {n = n} {ws = ws} P s0 place Misfit r go fact d h =
    (1, ap (λ x. go_over x ws (fused code n 0)) d.now)

-- a step on values, which may trap, with a fact of what it gives
pub after_given : {A W : Type 0} {code : CodeParts} {n k : ℕ} {done : Stand W} {left : Way}
    {fs : List Frame} {s : State} {ws : List Store} (P : A → Type 0) (s0 : State) (place : Place)
    (o : Try A) {r : A → Effect} {go : A → Outcome W} → Given P o →
    Does code n fs s (tried o place s0 r)
    → ((a : A) → P a → Does code n fs s (r a) → Land code n k done left fs s ws (go a))
    → Land code n k done left fs s ws (try o place s0 go)
after_given P s0 place o {r = r} {go = go} fact d h =
    record { so = after_given_so P s0 place o r go fact d h }

-- what stands somewhere is found, worked on and put, each of which may trap
after_three : {A W : Type 0} {code : CodeParts} {n k : ℕ} {done : Stand W} {left : Way}
    {fs : List Frame} {s : State} {ws : List Store} (s0 : State) (place : Place) (old : Try Datum)
    (work : Datum → Try Datum) (put : Datum → Try A) (r : Datum → A → Effect)
    (go : Datum → A → Outcome W) → Does code n fs s (tried old place s0 (λ v.
    tried (work v) place s0 (λ w. tried (put w) place s0 (λ a. r w a))))
    → ((w : Datum) (a : A) → Does code n fs s (r w a) → Land code n k done left fs s ws (go w a))
    → Land code n k done left fs s ws (try old place s0 (λ v.
    try (work v) place s0 (λ w. try (put w) place s0 (λ a. go w a))))
after_three s0 place old work put r go d h =
    after_try s0 place old d (λ v d1. after_try s0 place (work v) d1 (λ w d2.
    after_try s0 place (put w) d2 (λ a d3. h w a d3)))

then_do_of : {V W : Type 0} (ok : V → Type 0) (ok2 : W → Type 0) (e : Outcome V)
    (go : V → Point → Outcome W) → Of ok e → ((v : V) (pt : Point) → ok v → Of ok2 (go v pt))
    → Of ok2 (then_do e go)
then_do_of ok ok2 (Done v pt) go h rest = rest v pt h
then_do_of ok ok2 (Left x pt) go h rest = tt
then_do_of ok ok2 (Asks q place s) go h rest = tt
then_do_of ok ok2 (Trapped t place s) go h rest = tt
then_do_of ok ok2 Wrong go h rest = tt

always : {V : Type 0} (e : Outcome V) → Of (λ v. Unit {0}) e
always (Done v pt) = tt
always (Left x pt) = tt
always (Asks q place s) = tt
always (Trapped t place s) = tt
always Wrong = tt

-- as many values as expressions
pub counted : (se : Setting) (args : Exprs) (pt : Point)
    → Of (λ vs. length vs ≡ count_of args) (eval_all se args pt)
counted se no_exprs pt = refl
counted se (more_exprs e rest) pt =
    then_do_of (λ v. Unit {0}) (λ vs. length vs
    ≡ suc (count_of rest)) (eval se e pt) _ (always (eval se e pt)) (λ v pt1 ok.
    then_do_of (λ vs. length vs ≡ count_of rest) (λ vs. length vs
    ≡ suc (count_of rest)) (eval_all se rest pt1) _ (counted se rest pt1) (λ vs pt2 same.
    ap suc same))

module _ (code : CodeParts) (program : Program) (tables : code.classes ≡ program.classes)
    (strings : code.texts ≡ texts_of program) (n bound : ℕ) (call : Calls)
    (calls : CallLaw code program n bound call) (f : ℕ) (rest : List Frame) where
  abbrev classes : List Class
  classes = program.classes

  abbrev se : Setting
  se = setting program n bound call (length rest)

  -- a read, after its address
  read_lands : (spot : Spot) (vs : List Datum) (place : Place) (k p : ℕ) (ops : List Datum)
      (pt : Point) → HasAddress spot (length vs) → Within k pt
      → HasAt code f p (read_code spot place)
      → Land code n k (λ v l. frame f (spot_end p spot) l (v ∷ ops)
      ∷ rest) no_way (frame f p pt.locals (pushed vs ops)
      ∷ rest) pt.state pt.stores (try (read_at spot vs pt) place pt.state (λ v. Done v pt))
  read_lands (Local i) [] place k p ops pt address le has =
      after_try _ _ _ (does has.0) (λ v d. next d (here v pt le))
  read_lands (Static i) [] place k p ops pt address le has =
      after_try _ _ _ (does has.0) (λ v d. next d (here v pt le))
  read_lands (StaticOf i) (r ∷ []) place k p ops pt address le has =
      next (does has.0) (after_try _ _ _ (does has.1.0) (λ v d. next d (here v pt le)))
  read_lands (Field i) (r ∷ []) place k p ops pt address le has =
      after_try _ _ _ (does has.0) (λ v d. next d (here v pt le))
  read_lands Item (r ∷ i ∷ []) place k p ops pt address le has =
      after_try _ _ _ (does has.0) (λ v d. next d (here v pt le))
  read_lands _ vs place k p ops pt address le has = absurd address

  -- a value is put, after the address
  put_lands : (spot : Spot) (vs : List Datum) (v : Datum) (place : Place) (k p : ℕ)
      (ops : List Datum) (pt : Point) → HasAddress spot (length vs) → Within k pt
      → HasAt code f p (set_code spot place)
      → Land code n k (λ v l. frame f (spot_end p spot) l (v ∷ ops)
      ∷ rest) no_way (frame f p pt.locals (pushed vs (v ∷ ops))
      ∷ rest) pt.state pt.stores (put_at spot vs v place pt)
  put_lands (Local i) [] v place k p ops pt address le has =
      after_try _ _ _ (does has.0) (λ l d. next d (here v (with_locals pt l) le))
  put_lands (Static i) [] v place k p ops pt address le has =
      after_try _ _ _ (does has.0) (λ store d. next d (here v (with_store pt store) le))
  put_lands (StaticOf i) (r ∷ []) v place k p ops pt address le has =
      next (does has.0)
      (after_try _ _ _ (does has.1.0) (λ store d. next d (here v (with_store pt store) le)))
  put_lands (Field i) (r ∷ []) v place k p ops pt address le has =
      after_try _ _ _ (does has.0) (λ store d. next d (here v (with_store pt store) le))
  put_lands Item (r ∷ i ∷ []) v place k p ops pt address le has =
      after_try _ _ _ (does has.0) (λ store d. next d (here v (with_store pt store) le))
  put_lands _ vs v place k p ops pt address le has = absurd address

  -- what stands somewhere is updated, after the address
  update_lands : (spot : Spot) (vs : List Datum) (o : Op2) (x : Datum) (place : Place) (k p : ℕ)
      (ops : List Datum) (pt : Point) → HasAddress spot (length vs) → Within k pt
      → HasAt code f p (update_code spot o place)
      → Land code n k (λ v l. frame f (spot_end p spot) l (v ∷ ops)
      ∷ rest) no_way (frame f p pt.locals (pushed vs (x ∷ ops))
      ∷ rest) pt.state pt.stores (updated spot vs o x place pt)
  update_lands (Local i) [] o x place k p ops pt address le has =
      after_three pt.state place (local_of pt.locals i) (λ old. binary o old x)
      (λ w. with_local pt.locals i w)
      (λ w l. Next (frame f (p + 1) l (w ∷ ops) ∷ rest) pt.state)
      (λ w l. Done w (with_locals pt l)) (does has.0)
      (λ w l d. next d (here w (with_locals pt l) le))
  update_lands (Static i) [] o x place k p ops pt address le has =
      after_three pt.state place (static_of pt.state.store i) (λ old. binary o old x)
      (λ w. with_static pt.state.store i w)
      (λ w store. Next (frame f (p + 1) pt.locals (w ∷ ops) ∷ rest)
      (record pt.state { store = store })) (λ w store. Done w (with_store pt store)) (does has.0)
      (λ w store d. next d (here w (with_store pt store) le))
  update_lands (StaticOf i) (r ∷ []) o x place k p ops pt address le has =
      next (does has.0) (after_three pt.state place (static_of pt.state.store i)
      (λ old. binary o old x) (λ w. with_static pt.state.store i w)
      (λ w store. Next (frame f (p + 1 + 1) pt.locals (w ∷ ops) ∷ rest)
      (record pt.state { store = store })) (λ w store. Done w (with_store pt store)) (does has.1.0)
      (λ w store d. next d (here w (with_store pt store) le)))
  update_lands (Field i) (r ∷ []) o x place k p ops pt address le has =
      after_three pt.state place (field_of pt.state.store r i) (λ old. binary o old x)
      (λ w. with_field pt.state.store r i w)
      (λ w store. Next (frame f (p + 1) pt.locals (w ∷ ops) ∷ rest)
      (record pt.state { store = store })) (λ w store. Done w (with_store pt store)) (does has.0)
      (λ w store d. next d (here w (with_store pt store) le))
  update_lands Item (r ∷ i ∷ []) o x place k p ops pt address le has =
      after_three pt.state place (item_of pt.state.store.objects r i) (λ old. binary o old x)
      (λ w. with_item pt.state.store r i w)
      (λ w store. Next (frame f (p + 1) pt.locals (w ∷ ops) ∷ rest)
      (record pt.state { store = store })) (λ w store. Done w (with_store pt store)) (does has.0)
      (λ w store d. next d (here w (with_store pt store) le))
  update_lands _ vs o x place k p ops pt address le has = absurd address

  -- a built-in call, after its operands
  native_lands : (call : BuiltIn) (vs : List Datum) (place : Place) (k p : ℕ) (ops : List Datum)
      (pt : Point) → operand_count call ≡ length vs → Within k pt
      → step_at code f p ≡ Some (at (Native call) place)
      → Land code n k (λ v l. frame f (p + 1) l (v ∷ ops) ∷ rest) no_way
      (frame f p pt.locals (pushed vs ops) ∷ rest) pt.state pt.stores
      (native_called call vs place pt)
  native_lands call vs place k p ops pt count le has =
      let go = λ (t : Try Taken). Does code n (frame f p pt.locals (pushed vs ops) ∷ rest) pt.state
      (tried t place pt.state (λ t. tried (native call t.arguments pt.state) place pt.state (λ given.
      Next (frame f (p + 1) pt.locals (given.value ∷ t.beneath) ∷ rest) given.state))) in
      after_given (KeepsRest pt.state) _ _ _ (native_keeps call vs pt.state)
      (subst go (taken_pushed vs ops (operand_count call) count) (does has)) (λ given kept d.
      next d (here given.value (with_state pt given.state)
      (subst (λ t. fuel t pt.stores ≤ k) (sym (kept_turns pt.state given kept)) le)))

  -- the statements in the braces of a new object's classes
  bodies_land : (bodies : List ℕ) (r : Datum) (place : Place) (k p : ℕ) (ops : List Datum)
      (pt : Point) → k < bound → TakeObject program bodies → Within k pt
      → HasAt code f p (bodies_code bodies place)
      → Land code n k (λ v l. frame f (bodies_end p bodies) l (v ∷ ops) ∷ rest) no_way
      (frame f p pt.locals (r ∷ ops) ∷ rest) pt.state pt.stores (constructed se bodies r place pt)
  bodies_land [] r place k p ops pt lt take le has = here r pt le
  bodies_land (b ∷ bodies) r place k p ops pt lt take le has =
      next (does has.0) (then {done = λ v l. frame f (p + 1 + 1) l (v ∷ r ∷ ops) ∷ rest}
      (backed pt.locals (calls.by f (p + 1) b place k (r ∷ ops) (r ∷ []) rest pt lt take.0 le
      has.1.0)) (λ v pt1 le1.
      next (does has.1.1.0)
      (bodies_land bodies r place k (p + 1 + 1 + 1) ops pt1 lt take.1 le1 has.1.1.1)))

  -- a new object
  new_lands : (c : ℕ) (place : Place) (k p : ℕ) (ops : List Datum) (pt : Point) → k < bound
      → TakeObject program (bodies_of program.classes c) → Within k pt
      → HasAt code f p (expr_code classes (texts_of program) p (Making c place))
      → Land code n k (λ v l. frame f (bodies_end (p + 1) (bodies_of program.classes c)) l (v ∷ ops)
      ∷ rest) no_way (frame f p pt.locals ops ∷ rest) pt.state pt.stores (new_object se c place pt)
  new_lands c place k p ops pt lt take le has =
      let go = λ (classes : List Class). Does code n (frame f p pt.locals ops ∷ rest) pt.state
      (tried (object_made classes c pt.state.store) place pt.state (λ made.
      Next (frame f (p + 1) pt.locals (made.reference ∷ ops) ∷ rest)
      (record pt.state { store = made.store }))) in
      after_try {A = Made} _ _ _ (subst go tables (does has.0)) (λ made d.
      next d (bodies_land (bodies_of program.classes c) made.reference place k (p + 1) ops
      (with_store pt made.store) lt take le has.1))

  -- objects for the items of an array, from an index on, whose code stands from the place round on
  each_lands : (c : ℕ) (place : Place) (round : ℕ)
      → TakeObject program (bodies_of program.classes c)
      → step_at code f round ≡ Some (at (Each (bodies_end (round + 1 + 1 + 1)
      (bodies_of program.classes c) + 1 + 1)) place)
      → step_at code f (round + 1) ≡ Some (at Turn place)
      → HasAt code f (round + 1 + 1)
      (expr_code classes (texts_of program) (round + 1 + 1) (Making c place))
      → step_at code f (bodies_end (round + 1 + 1 + 1) (bodies_of program.classes c))
      ≡ Some (at Fill place)
      → step_at code f (bodies_end (round + 1 + 1 + 1) (bodies_of program.classes c) + 1)
      ≡ Some (at (Jump round) place)
      → (m k : ℕ) → k < m → m ≤ bound → (i r : Datum) (ops : List Datum) (pt : Point)
      → Within k pt
      → Land code n k (λ v l. frame f (bodies_end (round + 1 + 1 + 1)
      (bodies_of program.classes c) + 1 + 1) l (v ∷ ops) ∷ rest) no_way
      (frame f round pt.locals (i ∷ r ∷ ops) ∷ rest) pt.state pt.stores
      (each_made m se (elem.Class c) r i place pt)
  each_lands c place round take at_each at_turn at_new at_fill at_jump zero k lt top i r ops pt le =
      absurd (omega arith)
  each_lands c place round take at_each at_turn at_new at_fill at_jump
      (suc m) k lt top i r ops pt le =
      let made = bodies_end (round + 1 + 1 + 1) (bodies_of program.classes c) in
      after_try {A = Bool} _ _ _ (does at_each) (λ is d. either is d
      (λ d1. next d1 (turned place k le (does at_turn) (λ s2 j same le2 d2.
      next d2 (more {j = j} (omega arith)
      (then {done = λ v l. frame f made l (v ∷ i ∷ r ∷ ops) ∷ rest}
      (new_lands c place j (round + 1 + 1) (i ∷ r ∷ ops) (with_state pt s2) (omega arith) take le2
      at_new) (λ v pt1 le1.
      after_try {A = Filled} _ _ _ (does at_fill) (λ done d3.
      next d3 (next (does at_jump) (each_lands c place round take at_each at_turn at_new at_fill
      at_jump m j (omega arith) (omega arith) done.next r ops
      (with_store pt1 done.store) le1)))))))))
      (λ d1. next d1 (here r pt le)))

  -- an array of arrays; where it fails, what was made stays
  grid_lands : (e : Elem) (x y : Datum) (place : Place) (k p : ℕ) (ops : List Datum) (pt : Point)
      → Within k pt → step_at code f p ≡ Some (at (Grid e) place)
      → Land code n k (λ v l. frame f (p + 1) l (v ∷ ops) ∷ rest) no_way
      (frame f p pt.locals (y ∷ x ∷ ops) ∷ rest) pt.state pt.stores
      (made_partly (grid_made e x y pt.state.store) place pt)
  grid_lands e x y place k p ops pt le has =
      let part = grid_made e x y pt.state.store in
      let after : Point = with_store pt part.store in
      after_try after.state place part.end (does has) (λ r d. next d (here r after le))

  -- an array of the values that were pushed
  array_lands : (e : Elem) (of_arrays : Bool) (count : ℕ) (vs : List Datum) (place : Place)
      (k p : ℕ) (ops : List Datum) (pt : Point) → count ≡ length vs → Within k pt
      → Does code n (frame f p pt.locals (pushed vs ops) ∷ rest) pt.state
      (makes_array place e of_arrays count f p pt.locals (pushed vs ops) rest pt.state)
      → Land code n k (λ v l. frame f (p + 1) l (v ∷ ops) ∷ rest) no_way
      (frame f p pt.locals (pushed vs ops) ∷ rest) pt.state pt.stores
      (made_by (array_made e of_arrays vs pt.state.store) place pt Done)
  array_lands e of_arrays count vs place k p ops pt same le d =
      let go = λ (t : Try Taken). Does code n (frame f p pt.locals (pushed vs ops) ∷ rest) pt.state
      (tried t place pt.state (λ t.
      pushes_made (array_made e of_arrays t.arguments pt.state.store) place f p pt.locals t.beneath
      rest pt.state)) in
      after_try {A = Made} _ _ _ (subst go (taken_pushed vs ops count same) d) (λ made d1.
      next d1 (here made.reference (with_store pt made.store) le))

  -- a call of a member function, once its operands are taken
  sent_lands : (slot : ℕ) (vs : List Datum) (place : Place) (k p : ℕ) (ops : List Datum)
      (fs : List Frame) (pt : Point) → k < bound → Within k pt
      → Does code n fs pt.state (on_top vs (λ r others.
      tried (method_of code.classes pt.state.store.objects r slot) place pt.state (λ g.
      sent code g (r ∷ others) place f p pt.locals ops rest pt.state)))
      → Land code n k (λ v l. frame f (p + 1) l (v ∷ ops) ∷ rest) no_way fs pt.state pt.stores
      (sent_to se slot vs place pt)
  sent_lands slot [] place k p ops fs pt lt le d =
      record { so = (1, ap (λ x. go_over x pt.stores (fused code n 0)) d.now) }
  sent_lands slot (r ∷ others) place k p ops fs pt lt le d =
      let go = λ (classes : List Class). Does code n fs pt.state
      (tried (method_of classes pt.state.store.objects r slot) place pt.state (λ g.
      sent code g (r ∷ others) place f p pt.locals ops rest pt.state)) in
      after_try _ _ _ (subst go tables d) (λ g d1.
      backed pt.locals (calls.sends f p g place k ops (r ∷ others) rest fs pt lt le d1))

  -- a spork of a member function, once its operands are taken
  spork_sent_lands : (slot : ℕ) (vs : List Datum) (place : Place) (k p : ℕ) (ops : List Datum)
      (fs : List Frame) (pt : Point) → Within k pt
      → Does code n fs pt.state (on_top vs (λ r others.
      tried (method_of code.classes pt.state.store.objects r slot) place pt.state (λ g.
      sporks_found code place g (r ∷ others) f p pt.locals ops rest pt.state)))
      → Land code n k (λ v l. frame f (p + 1) l (v ∷ ops) ∷ rest) no_way fs pt.state pt.stores
      (spork_sent se slot vs place pt)
  spork_sent_lands slot [] place k p ops fs pt le d =
      record { so = (1, ap (λ x. go_over x pt.stores (fused code n 0)) d.now) }
  spork_sent_lands slot (r ∷ others) place k p ops fs pt le d =
      let go = λ (classes : List Class). Does code n fs pt.state
      (tried (method_of classes pt.state.store.objects r slot) place pt.state (λ g.
      sporks_found code place g (r ∷ others) f p pt.locals ops rest pt.state)) in
      after_try _ _ _ (subst go tables d) (λ g d1.
      calls.sporks_sent f p g place k ops (r ∷ others) rest fs pt le d1)

  -- a line is printed, after its items
  pub print_lands : (kinds : List Kind) (vs : List Datum) (place : Place) (left : Way) (k p : ℕ)
      (ops : List Datum) (pt : Point) → length kinds ≡ length vs → Within k pt
      → step_at code f p ≡ Some (at (Print kinds) place)
      → Land {V = Nothing} code n k (λ v l. frame f (p + 1) l ops ∷ rest) left
      (frame f p pt.locals (pushed vs ops) ∷ rest) pt.state pt.stores
      (Done tt (with_state pt (with_line (print_line program.classes kinds vs) pt.state)))
  print_lands kinds vs place left k p ops pt count le has =
      let go = λ (t : Try Taken) (classes : List Class).
      Does code n (frame f p pt.locals (pushed vs ops) ∷ rest) pt.state (tried t place pt.state (λ t.
      Next (frame f (p + 1) pt.locals t.beneath ∷ rest)
      (with_line (print_line classes kinds t.arguments) pt.state))) in
      let at_line = subst (λ t. go t program.classes) (taken_pushed vs ops (length kinds) count)
      (subst (go (taken (length kinds) [] (pushed vs ops))) tables (does has)) in
      next at_line
      (here tt (with_state pt (with_line (print_line program.classes kinds vs) pt.state)) le)

  -- a call of a member function on operands that were pushed
  method_lands : (slot : ℕ) (vs : List Datum) (count : ℕ) (place : Place) (k p : ℕ)
      (ops : List Datum) (pt : Point) → count ≡ length vs → k < bound → Within k pt
      → step_at code f p ≡ Some (at (Virtual slot count) place)
      → Land code n k (λ v l. frame f (p + 1) l (v ∷ ops) ∷ rest) no_way
      (frame f p pt.locals (pushed vs ops) ∷ rest) pt.state pt.stores (sent_to se slot vs place pt)
  method_lands slot vs count place k p ops pt same lt le has =
      let fs : List Frame = frame f p pt.locals (pushed vs ops) ∷ rest in
      let go = λ (t : Try Taken). Does code n fs pt.state (tried t place pt.state (λ t.
      on_top t.arguments (λ r others.
      tried (method_of code.classes pt.state.store.objects r slot) place pt.state (λ g.
      sent code g (r ∷ others) place f p pt.locals t.beneath rest pt.state)))) in
      sent_lands slot vs place k p ops fs pt lt le
      (subst go (taken_pushed vs ops count same) (does has))

  -- an operation's code does what the operation does: without operands
  leaf_lands : (o : OfNone) (place : Place) (k p : ℕ) (ops : List Datum) (pt : Point) → Within k pt
      → HasAt code f p (leaf_code o place)
      → Land code n k (λ v l. frame f (leaf_end p o) l (v ∷ ops) ∷ rest) no_way
      (frame f p pt.locals ops ∷ rest) pt.state pt.stores (of_none se o place pt)
  leaf_lands (leaf.NewUgen kind) place k p ops pt le has =
      unit_lands code program n bound call f rest kind place k p ops pt le has.0
  leaf_lands leaf.Yield place k p ops pt le has =
      stops _ pt le (does has.0) (λ s2 ws2 le2. next (does has.1.0) (here _ _ le2))
  leaf_lands leaf.Exit place k p ops pt le has =
      stops _ pt le (does has.0) (λ s2 ws2 le2. next (does has.1.0) (here _ _ le2))
  leaf_lands _ place k p ops pt le has = next (does has.0) (here _ pt le)

  -- on the value of one operand
  unary_lands : (o : OfOne) (x : Datum) (place : Place) (k p : ℕ) (ops : List Datum) (pt : Point)
      → Within k pt → HasAt code f p (unary_code o place)
      → Land code n k (λ v l. frame f (unary_end p o) l (v ∷ ops) ∷ rest) no_way
      (frame f p pt.locals (x ∷ ops) ∷ rest) pt.state pt.stores (of_one o x place pt)
  unary_lands (unary.NewRow e) x place k p ops pt le has =
      after_try {A = Made} _ _ _ (does has.0) (λ made d.
      next d (here made.reference (with_store pt made.store) le))
  unary_lands unary.WaitDur x place k p ops pt le has =
      after_try _ _ _ (does has.0) (λ q at_q.
      stops _ pt le at_q (λ s2 ws2 le2. next (does has.1.0) (here _ _ le2)))
  unary_lands unary.WaitTime x place k p ops pt le has =
      after_try _ _ _ (does has.0) (λ q at_q.
      stops _ pt le at_q (λ s2 ws2 le2. next (does has.1.0) (here _ _ le2)))
  unary_lands unary.WaitEvent x place k p ops pt le has =
      after_try _ _ _ (does has.0) (λ q at_q.
      stops _ pt le at_q (λ s2 ws2 le2. next (does has.1.0) (here _ _ le2)))
  unary_lands _ x place k p ops pt le has =
      after_try _ _ _ (does has.0) (λ v d. next d (here v pt le))

  -- on the values of two
  binary_lands : (o : OfTwo) (x y : Datum) (place : Place) (k p : ℕ) (ops : List Datum) (pt : Point)
      → OnTwo program o → k < bound → Within k pt → HasAt code f p (binary_code o place)
      → Land code n k (λ v l. frame f (binary_end p o) l (v ∷ ops) ∷ rest) no_way
      (frame f p pt.locals (y ∷ x ∷ ops) ∷ rest) pt.state pt.stores (of_two se o x y place pt)
  binary_lands (binary_op.Operator o) x y place k p ops pt on lt le has =
      after_try _ _ _ (does has.0) (λ v d. next d (here v pt le))
  binary_lands (binary_op.NewGrid e) x y place k p ops pt on lt le has =
      grid_lands e x y place k p ops pt le has.0
  binary_lands binary_op.Append r v place k p ops pt on lt le has =
      after_try {A = Store} _ _ _ (does has.0) (λ store d.
      next d (here r (with_store pt store) le))
  binary_lands (binary_op.ChuckMethod slot) x r place k p ops pt on lt le has =
      next (does has.0) (method_lands slot (r ∷ x ∷ []) 2 place k (p + 1) ops pt refl lt le has.1.0)
  binary_lands (binary_op.ChuckCallOf g) x r place k p ops pt on lt le has =
      next (does has.0)
      (backed pt.locals (calls.by f (p + 1) g place k ops (x ∷ []) rest pt lt on le has.1.0))
  binary_lands (binary_op.ChuckNative call) x r place k p ops pt on lt le has =
      next (does has.0) (native_lands call (r ∷ x ∷ []) place k (p + 1) ops pt on le has.1.0)
  binary_lands (binary_op.SetParam q) u v place k p ops pt on lt le has =
      after_try {A = ReadBack} _ _ _ (does has.0) (λ set d.
      next d (here set.value (with_store pt set.store) le))
  binary_lands (binary_op.ChuckParam q) v u place k p ops pt on lt le has =
      next (does has.0) (after_try {A = ReadBack} _ _ _ (does has.1.0) (λ set d.
      next d (here set.value (with_store pt set.store) le)))
  binary_lands binary_op.Connect a b place k p ops pt on lt le has =
      after_try {A = Store} _ _ _ (does has.0) (λ store d.
      next d (here b (with_store pt store) le))
  binary_lands binary_op.Disconnect a b place k p ops pt on lt le has =
      after_try {A = Store} _ _ _ (does has.0) (λ store d.
      next d (here b (with_store pt store) le))

  -- on the values of any number
  variadic_lands : (o : OfMany) (vs : List Datum) (count : ℕ) (place : Place) (k p : ℕ)
      (ops : List Datum) (pt : Point) → OnMany program o count → count ≡ length vs → k < bound
      → Within k pt → HasAt code f p (variadic_code o count place)
      → Land code n k (λ v l. frame f (variadic_end p o) l (v ∷ ops) ∷ rest) no_way
      (frame f p pt.locals (pushed vs ops) ∷ rest) pt.state pt.stores (of_many se o vs place pt)
  variadic_lands (variadic.Read spot) vs count place k p ops pt on same lt le has =
      read_lands spot vs place k p ops pt (subst (HasAddress spot) same on) le has
  variadic_lands (variadic.Array e) vs count place k p ops pt on same lt le has =
      array_lands e false count vs place k p ops pt same le (does has.0)
  variadic_lands (variadic.ArrayOfRows e) vs count place k p ops pt on same lt le has =
      array_lands e true count vs place k p ops pt same le (does has.0)
  variadic_lands (variadic.Call g) vs count place k p ops pt on same lt le has =
      backed pt.locals (calls.by f p g place k ops vs rest pt lt
      (subst (Takes (slice_get program.funs g)) same on) le has.0)
  variadic_lands (variadic.Method slot) vs count place k p ops pt on same lt le has =
      method_lands slot vs count place k p ops pt same lt le has.0
  variadic_lands (variadic.Native call) vs count place k p ops pt on same lt le has =
      native_lands call vs place k p ops pt (on ∙ same) le has.0
  variadic_lands (variadic.Spork g) vs count place k p ops pt on same lt le has =
      calls.sporks f p g place k ops vs rest pt (subst (Takes (slice_get program.funs g)) same on) le
      has.0
  variadic_lands (variadic.SporkMethod slot) vs count place k p ops pt on same lt le has =
      let go = λ (t : Try Taken). Does code n (frame f p pt.locals (pushed vs ops) ∷ rest)
      pt.state (tried t place pt.state (λ t. on_top t.arguments (λ r others.
      tried (method_of code.classes pt.state.store.objects r slot) place pt.state (λ g.
      sporks_found code place g (r ∷ others) f p pt.locals t.beneath rest pt.state)))) in
      spork_sent_lands slot vs place k p ops (frame f p pt.locals (pushed vs ops) ∷ rest) pt le
      (subst go (taken_pushed vs ops count same) (does has.0))

  mutual
    -- an expression's code leaves its value on the operands beneath, and takes the same stores
    pub eval_lands : (e : Expr) → Shaped program e → (k p : ℕ) → k < bound
        → (ops : List Datum) (pt : Point) → Within k pt → HasAt code f p (expr_code classes (texts_of program) p e)
        → Land code n k (λ v l. frame f (expr_end classes p e) l (v ∷ ops)
        ∷ rest) no_way (frame f p pt.locals ops ∷ rest) pt.state pt.stores (eval se e pt)
    eval_lands (Leaf o place) shaped k p lt ops pt le has = leaf_lands o place k p ops pt le has
    eval_lands (TextLiteral bytes place) shaped k p lt ops pt le has =
        next (text_does code n f p (texts_of program) bytes place pt.locals ops rest pt.state strings
        shaped has.0) (here _ pt le)
    eval_lands (Unary o a place) shaped k p lt ops pt le has =
        let h = split_expr classes (texts_of program) code f a p _ has in
        then (eval_lands a shaped k p lt ops pt le h.0) (λ x pt1 le1.
        unary_lands o x place k (expr_end classes p a) ops pt1 le1 h.1)
    eval_lands (Binary o a b place) shaped k p lt ops pt le has =
        let m = expr_end classes p a in
        let h = split_expr classes (texts_of program) code f a p _ has in
        let h2 = split_expr classes (texts_of program) code f b m _ h.1 in
        then (eval_lands a shaped.1 k p lt ops pt le h.0) (λ x pt1 le1.
        then (eval_lands b shaped.2 k m lt (x ∷ ops) pt1 le1 h2.0) (λ y pt2 le2.
        binary_lands o x y place k (expr_end classes m b) ops pt2 shaped.0 lt le2 h2.1))
    eval_lands (Variadic o operands place) shaped k p lt ops pt le has =
        let h = split_args classes (texts_of program) code f operands p _ has in
        then_of (λ vs. length vs ≡ count_of operands) (counted se operands pt)
        (eval_all_lands operands shaped.1 k p lt ops pt le h.0) (λ vs pt1 same le1.
        variadic_lands o vs (count_of operands) place k (args_end classes p operands) ops pt1
        shaped.0 (sym same) lt le1 h.1)
    eval_lands (And a b place) shaped k p lt ops pt le has =
        let h = split_expr classes (texts_of program) code f a p _ has in
        let h2 = split_expr classes (texts_of program) code f b (expr_end classes p a + 1) _ h.1.1 in
        then (eval_lands a shaped.0 k p lt ops pt le h.0) (λ x pt1 le1.
        after_try _ _ _ (does h.1.0) (λ is d0. picked is d0
        (λ d. next d (next (does h2.1.1.1.0) (here (AnInt (pos 0)) pt1 le1)))
        (λ d. next d (then (eval_lands b shaped.1 k (expr_end classes p a + 1) lt ops pt1 le1 h2.0)
        (λ y pt2 le2.
        after_try _ _ _ (does h2.1.0) (λ v d1. next d1 (next (does h2.1.1.0) (here v pt2 le2))))))))
    eval_lands (Or a b place) shaped k p lt ops pt le has =
        let h = split_expr classes (texts_of program) code f a p _ has in
        let second = expr_end classes p a + 1 + 1 + 1 in
        let h2 = split_expr classes (texts_of program) code f b second _ h.1.1.1.1 in
        then (eval_lands a shaped.0 k p lt ops pt le h.0) (λ x pt1 le1.
        after_try _ _ _ (does h.1.0) (λ is d0. picked is d0
        (λ d. next d (then (eval_lands b shaped.1 k second lt ops pt1 le1 h2.0) (λ y pt2 le2.
        after_try _ _ _ (does h2.1.0) (λ v d1. next d1 (here v pt2 le2)))))
        (λ d. next d (next (does h.1.1.0) (next (does h.1.1.1.0) (here (AnInt (pos 1)) pt1 le1))))))
    eval_lands (Choice c a b place) shaped k p lt ops pt le has =
        let h = split_expr classes (texts_of program) code f c p _ has in
        let h2 = split_expr classes (texts_of program) code f a (expr_end classes p c + 1) _ h.1.1 in
        then (eval_lands c shaped.0 k p lt ops pt le h.0) (λ v pt1 le1.
        after_try _ _ _ (does h.1.0) (λ is d0. picked is d0
        (λ d. next d (eval_lands b shaped.2 k
        (expr_end classes (expr_end classes p c + 1) a + 1) lt ops pt1 le1 h2.1.1))
        (λ d. next d (onward (eval_lands a shaped.1 k (expr_end classes p c + 1) lt ops pt1 le1 h2.0)
        (λ v1 pt2. goes (does h2.1.0))))))
    eval_lands (Assign e spot address place) shaped k p lt ops pt le has =
        let h = split_expr classes (texts_of program) code f e p _ has in
        let h2 = split_args classes (texts_of program) code f address (expr_end classes p e) _ h.1 in
        then (eval_lands e shaped.0 k p lt ops pt le h.0) (λ v pt1 le1.
        then_of (λ vs. length vs ≡ count_of address) (counted se address pt1)
        (eval_all_lands address shaped.2 k (expr_end classes p e) lt (v ∷ ops) pt1 le1 h2.0)
        (λ vs pt2 same le2.
        put_lands spot vs v place k (args_end classes (expr_end classes p e) address) ops pt2
        (subst (HasAddress spot) (sym same) shaped.1) le2 h2.1))
    eval_lands (AssignDeclared e declaration spot address place) shaped k p lt ops pt le has =
        let texts = texts_of program in
        let m = expr_end classes p e in
        let made = expr_end classes m declaration in
        let h = split_expr classes texts code f e p _ has in
        let h2 = split_expr classes texts code f declaration m _ h.1 in
        let h3 = split_args classes texts code f address (made + 1) _ h2.1.1 in
        then (eval_lands e shaped.0 k p lt ops pt le h.0) (λ v pt1 le1.
        then (eval_lands declaration shaped.1 k m lt (v ∷ ops) pt1 le1 h2.0) (λ w pt2 le2.
        next (does h2.1.0) (then_of (λ vs. length vs ≡ count_of address) (counted se address pt2)
        (eval_all_lands address shaped.3 k (made + 1) lt (v ∷ ops) pt2 le2 h3.0)
        (λ vs pt3 same le3. put_lands spot vs v place k (args_end classes (made + 1) address) ops pt3
        (subst (HasAddress spot) (sym same) shaped.2) le3 h3.1))))
    eval_lands (Update o e spot address place) shaped k p lt ops pt le has =
        let h = split_expr classes (texts_of program) code f e p _ has in
        let m = expr_end classes p e in
        let h2 = split_args classes (texts_of program) code f address m _ h.1 in
        then (eval_lands e shaped.0 k p lt ops pt le h.0) (λ x pt1 le1.
        then_of (λ vs. length vs ≡ count_of address) (counted se address pt1)
        (eval_all_lands address shaped.2 k m lt (x ∷ ops) pt1 le1 h2.0) (λ vs pt2 same le2.
        update_lands spot vs o x place k (args_end classes m address) ops pt2
        (subst (HasAddress spot) (sym same) shaped.1) le2 h2.1))
    eval_lands (Prefix direction spot address place) shaped k p lt ops pt le has =
        let h = split_args classes (texts_of program) code f address (p + 1) _ has.1 in
        next (does has.0) (then_of (λ vs. length vs ≡ count_of address) (counted se address pt)
        (eval_all_lands address shaped.1 k (p + 1) lt (AnInt (pos 1) ∷ ops) pt le h.0)
        (λ vs pt1 same le1. update_lands spot vs (step_of direction) (AnInt (pos 1)) place k
        (args_end classes (p + 1) address) ops pt1
        (subst (HasAddress spot) (sym same) shaped.0) le1 h.1))
    eval_lands (Postfix direction spot address place) shaped k p lt ops pt le has =
        let h = split_args classes (texts_of program) code f address (p + 1) _ has.1 in
        let q = args_end classes (p + 1) address in
        let o = step_of direction in
        let u = split code f (update_code spot o place) _ q (spot_end q spot)
        (update_length spot o place q) h.1 in
        next (does has.0) (then_of (λ vs. length vs ≡ count_of address) (counted se address pt)
        (eval_all_lands address shaped.1 k (p + 1) lt (AnInt (pos 1) ∷ ops) pt le h.0)
        (λ vs pt1 same le1. then (update_lands spot vs o (AnInt (pos 1)) place k q ops pt1
        (subst (HasAddress spot) (sym same) shaped.0) le1 u.0) (λ w pt2 le2.
        next (does u.1.0) (after_try _ _ _ (does u.1.1.0) (λ v d. next d (here v pt2 le2))))))
    eval_lands (Making c place) shaped k p lt ops pt le has =
        new_lands c place k p ops pt lt shaped le has
    eval_lands (NewObjects (elem.Class c) size constructor place) shaped k p lt ops pt le has =
        let h = split_expr classes (texts_of program) code f size p _ has in
        let round = expr_end classes p size + 1 + 1 in
        let bodies = bodies_of program.classes c in
        let first = round + 1 + 1 + 1 in
        let h2 = split code f (bodies_code bodies place) _ first (bodies_end first bodies)
        (bodies_length bodies place first) h.1.1.1.1.1.1 in
        then (eval_lands size shaped.0 k p lt ops pt le h.0) (λ x pt1 le1.
        after_try {A = Made} _ _ _ (does h.1.0) (λ made d. next d (next (does h.1.1.0)
        (each_lands c place round shaped.1 h.1.1.1.0 h.1.1.1.1.0 (h.1.1.1.1.1.0, h2.0) h2.1.0
        h2.1.1.0 bound k lt (omega arith) (AnInt (pos 0)) made.reference ops
        (with_store pt1 made.store) le1))))
    eval_lands (NewObjects (elem.Unit kind) size constructor place) shaped k p lt ops pt le has =
        let h = split_expr classes (texts_of program) code f size p _ has in
        let round = expr_end classes p size + 1 + 1 in
        then (eval_lands size shaped k p lt ops pt le h.0) (λ x pt1 le1.
        after_try {A = Made} _ _ _ (does h.1.0) (λ made d. next d (next (does h.1.1.0)
        (units_land code program n bound call f rest kind place round h.1.1.1.0 h.1.1.1.1.0
        h.1.1.1.1.1.0 h.1.1.1.1.1.1.0 h.1.1.1.1.1.1.1.0 bound k lt (AnInt (pos 0))
        made.reference ops (with_store pt1 made.store) le1))))
    eval_lands (Construct o g arguments place) shaped k p lt ops pt le has = eval_lands o shaped k p lt ops pt le has
    eval_lands (CallOf o g arguments place) shaped k p lt ops pt le has =
        let h = split_expr classes (texts_of program) code f o p _ has in
        let m = expr_end classes p o + 1 in
        let h2 = split_args classes (texts_of program) code f arguments m _ h.1.1 in
        then (eval_lands o shaped.0 k p lt ops pt le h.0) (λ r pt1 le1. next (does h.1.0)
        (then_of (λ vs. length vs ≡ count_of arguments) (counted se arguments pt1)
        (eval_all_lands arguments shaped.2 k m lt ops pt1 le1 h2.0) (λ vs pt2 same le2.
        backed pt2.locals (calls.by f (args_end classes m arguments) g place k ops vs rest pt2 lt
        (subst (Takes (slice_get program.funs g)) (sym same) shaped.1) le2 h2.1.0))))
    eval_lands (SporkOf o g arguments place) shaped k p lt ops pt le has =
        let h = split_expr classes (texts_of program) code f o p _ has in
        let m = expr_end classes p o + 1 in
        let h2 = split_args classes (texts_of program) code f arguments m _ h.1.1 in
        then (eval_lands o shaped.0 k p lt ops pt le h.0) (λ r pt1 le1. next (does h.1.0)
        (then_of (λ vs. length vs ≡ count_of arguments) (counted se arguments pt1)
        (eval_all_lands arguments shaped.2 k m lt ops pt1 le1 h2.0) (λ vs pt2 same le2.
        calls.sporks f (args_end classes m arguments) g place k ops vs rest pt2
        (subst (Takes (slice_get program.funs g)) (sym same) shaped.1) le2 h2.1.0)))
    eval_lands _ shaped k p lt ops pt le has = absurd shaped

    pub eval_all_lands : (args : Exprs) → AllShaped program args → (k p : ℕ) → k < bound
        → (ops : List Datum) (pt : Point) → Within k pt
        → HasAt code f p (args_code classes (texts_of program) p args)
        → Land code n k (λ vs l. frame f (args_end classes p args) l (pushed vs ops)
        ∷ rest) no_way (frame f p pt.locals ops ∷ rest) pt.state pt.stores (eval_all se args pt)
    eval_all_lands no_exprs shaped k p lt ops pt le has = here [] pt le
    eval_all_lands (more_exprs e others) shaped k p lt ops pt le has =
        let h = split_expr classes (texts_of program) code f e p _ has in
        then (eval_lands e shaped.0 k p lt ops pt le h.0) (λ v pt1 le1.
        then (eval_all_lands others shaped.1 k (expr_end classes p e) lt (v ∷ ops) pt1 le1 h.1)
        (λ vs pt2 le2. here (v ∷ vs) pt2 le2))
