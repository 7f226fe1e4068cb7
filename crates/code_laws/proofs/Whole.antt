-- Calls, and whole functions.
use Rattle.std.proofs.Common.{◌≡◌, ℕ, zero, suc, pred, ◌+◌, ◌<◌, ◌≤◌, List, [], ◌∷◌, length, Option, Some, None, refl, sym, ap, ◌∙◌, subst, Bool, true, false, arith, eq-eqb}
use Rattle.std.specs.Prelude.{slice_get, nat_eq}
use Rattle.ck_values.specs.declared.kind.Elem.TheVariants as elem
use Rattle.ck_values.specs.declared.kind.Kind.{Kind}
use Rattle.ck_values.specs.declared.kind.Kind.TheVariants.{One}
use Rattle.ck_values.specs.declared.trap.Place.{Place}
use Rattle.ck_values.specs.Datum.{Datum, AShred, first_value, first_locals}
use Rattle.ck_store.specs.Store.{Store, State}
use Rattle.ck_store.specs.Steps.{fresh, pick, turn_spent, room_for_call}
use Rattle.ck_store.specs.Shreds.{Child}
use Rattle.ck_typed.specs.Tree.{Fun as TypedFun, Program}
use Rattle.ck_code.specs.declared.instr.Instr.TheVariants.{Spork, Return}
use Rattle.ck_code.specs.declared.code.CodeParts.{CodeParts}
use Rattle.ck_code.specs.declared.code.Fun.{Fun}
use Rattle.ck_code.specs.declared.code.Step.{Step}
use Rattle.ck_code.specs.Machine.{Frame, frame, Effect, Next, Over, Bad, Ended, Waits, Broke, Stuck, step_at, steps_of, taken, with_fun, entered, sent, sporks_child, sporks_found, tried, code_run}
use Rattle.ck_code.proofs.Ends.{sporked_given}
use Rattle.ck_meaning.specs.Outcome.{Point, with_locals, with_state, Outcome, Done, Left, Asks, Trapped, Wrong, Broken, Continued, Returned}
use Rattle.ck_meaning.specs.Meaning.{Setting, setting, Nothing, in_callee, call_within, body_of, value_of, child_of, sporked_by, exec, shred_from, fuel}
use Rattle.ck_meaning.specs.Meaning as meaning
use Rattle.ck_scheme.specs.Texts.{default_texts, texts_of}
use Rattle.code_laws.proofs.Numbered.{AreNumbered}
use Rattle.ck_scheme.specs.Scheme.{at, default_instr, stmt_end, IsCodeOf, SameFun, IsScheme}
use Rattle.ck_scheme.specs.Follows.{Agrees, first_state, fun_frames, Follows}
use Rattle.code_laws.proofs.Slices.{fused_slices}
use Rattle.code_laws.proofs.Lands.{go_over, fused, Goes, Stand, Land, Lands, Within, no_way, Does, goes, goes_on, here, does, after_try, turned, next, more}
use Rattle.ck_scheme.proofs.Stands.{HasAt, split_stmt, stands_all}
use Rattle.code_laws.proofs.Shapes.{Takes, ShapedStmt}
use Rattle.code_laws.proofs.Rounds.{exits}
use Rattle.code_laws.proofs.ExprLaw.{pushed, taken_pushed, text_does, CallLaw, after_given}
use Rattle.code_laws.proofs.Law.{exec_lands}

-- with instructions enough, the run's halt agrees with the tree's outcome
abbrev Ends : CodeParts → ℕ → List Frame → State → List Store → Outcome Datum → Type 0
Ends code n fs s ws e = (k : ℕ) × ((m : ℕ) → k ≤ m → Agrees (code_run code n m fs s ws) e)

-- what the law needs to know of a function
pub record IsShapedFun (program : Program) (fn : TypedFun) : Type 0 where
  pub result : AreNumbered (texts_of program) (default_texts fn.result)
  pub body : ShapedStmt program false fn.body

module _ (program : Program) (code : CodeParts) (strings : code.texts ≡ texts_of program)
    (n g : ℕ) where
  -- the default of the result goes on the operands
  default_does : (k : Kind) (place : Place) (last : ℕ) (l ops : List Datum) (rest : List Frame)
      (s : State) → AreNumbered (texts_of program) (default_texts k)
      → step_at code g last ≡ Some (at (default_instr (texts_of program) k) place)
      → Does code n (frame g last l ops ∷ rest) s
      (Next (frame g (last + 1) l (first_value k ∷ ops) ∷ rest) s)
  default_does (One elem.Int) place last l ops rest s has h = does h
  default_does (One elem.Float) place last l ops rest s has h = does h
  default_does (One elem.Dur) place last l ops rest s has h = does h
  default_does (One elem.Time) place last l ops rest s has h = does h
  default_does (One elem.Text) place last l ops rest s has h =
      text_does code n g last (texts_of program) [] place l ops rest s strings has.0 h
  default_does (One elem.Shred) place last l ops rest s has h = does h
  default_does (One (elem.Class c)) place last l ops rest s has h = does h
  default_does (One (elem.Unit kind)) place last l ops rest s has h = does h
  default_does _ place last l ops rest s has h = does h

  -- the body's end, back in the frame beneath
  value_so : (result : Kind) → AreNumbered (texts_of program) (default_texts result)
      → (k f p last : ℕ) (place : Place) (l0 ops : List Datum) (rest fs : List Frame) (s : State)
      (ws : List Store) (e : Outcome Nothing)
      → step_at code g last ≡ Some (at (default_instr (texts_of program) result) place)
      → step_at code g (last + 1) ≡ Some (at Return place)
      → Lands code n k (λ v l1. frame g last l1 [] ∷ frame f p l0 ops
      ∷ rest) (exits code n g (frame f p l0 ops ∷ rest) false 0 0 []) fs s ws e
      → Lands code n k (λ v l1. frame f p l0 (v ∷ ops)
      ∷ rest) no_way fs s ws (value_of (first_value result) e)
  value_so result has k f p last place l0 ops rest fs s ws (Done v pt) at_default at_return h = (
    h.0,
    goes_on h.1
        (goes_on (goes (default_does result place last pt.locals [] _ pt.state has at_default))
        (goes (does at_return))),
  )
  value_so result has k f p last place l0 ops rest fs s ws (Left Broken pt) at_default at_return h =
      cc h.1.0
  value_so result has k f p last place l0 ops rest fs s ws
      (Left Continued pt) at_default at_return h = cc h.1.0
  value_so result has k f p last place l0 ops rest fs s ws
      (Left (Returned v) pt) at_default at_return h = (
        h.3,
        goes_on (subst (λ fs1. Goes code n fs s ws fs1 pt.state pt.stores) h.1.4 h.2)
            (goes (does h.1.3)),
      )
  value_so result has k f p last place l0 ops rest fs s ws (Asks q at_q s1) at_default at_return h =
      h
  value_so result has k f p last place l0 ops rest fs s ws
      (Trapped t at_t s1) at_default at_return h = h
  value_so result has k f p last place l0 ops rest fs s ws Wrong at_default at_return h = h

  over : (fs : List Frame) (s : State) (ws : List Store) (r : ℕ) (place : Place) (v : Datum)
      (l ops : List Datum) (s1 : State) (ws1 : List Store)
      → step_at code g r ≡ Some (at Return place)
      → Goes code n fs s ws (frame g r l (v ∷ ops) ∷ []) s1 ws1
      → (k : ℕ) × ((m : ℕ) → k ≤ m → code_run code n m fs s ws ≡ Ended v s1)
  over fs s ws r place v l ops s1 ws1 at_return h =
      let d : Does code n (frame g r l (v ∷ ops) ∷ []) s1 (Over v s1) = does at_return in
      let a = h.by 1 in (
        a.0,
        λ m le. fused_slices code n m (Ended v s1) tt a.0 le fs s ws (a.1
            ∙ ap (λ x. go_over x ws1 (fused code n 0)) d.now),
      )

  -- the first function's end
  end_so : (result : Kind) → AreNumbered (texts_of program) (default_texts result)
      → (k last : ℕ) (place : Place) (fs : List Frame) (s : State) (ws : List Store)
      (e : Outcome Nothing) → step_at code g last ≡ Some (at (default_instr (texts_of program) result) place)
      → step_at code g (last + 1) ≡ Some (at Return place)
      → Lands code n k (λ v l1. frame g last l1 [] ∷ []) (exits code n g [] false 0 0 []) fs s ws e
      → Ends code n fs s ws (value_of (first_value result) e)
  end_so result has k last place fs s ws (Done v pt) at_default at_return h =
      over fs s ws (last + 1) place (first_value result) pt.locals [] pt.state pt.stores at_return
      (goes_on h.1 (goes (default_does result place last pt.locals [] [] pt.state has at_default)))
  end_so result has k last place fs s ws (Left Broken pt) at_default at_return h = cc h.1.0
  end_so result has k last place fs s ws (Left Continued pt) at_default at_return h = cc h.1.0
  end_so result has k last place fs s ws (Left (Returned v) pt) at_default at_return h =
      over fs s ws h.1.0 h.1.1 v pt.locals h.1.2 pt.state pt.stores h.1.3
      (subst (λ fs1. Goes code n fs s ws fs1 pt.state pt.stores) h.1.4 h.2)
  end_so result has k last place fs s ws (Asks q at_q s1) at_default at_return h =
      (h.0, λ m le. (h.1, fused_slices code n m (Waits q at_q h.1 s1) tt h.0 le fs s ws h.2))
  end_so result has k last place fs s ws (Trapped t at_t s1) at_default at_return h =
      (h.0, λ m le. fused_slices code n m (Broke t at_t s1) tt h.0 le fs s ws h.1)
  end_so result has k last place fs s ws Wrong at_default at_return h =
      (h.0, λ m le. fused_slices code n m Stuck tt h.0 le fs s ws h.1)

-- a function's steps stand in it from its first place on
body_stands : (code : CodeParts) (g : ℕ) (fc : Fun) (steps : List Step)
    → slice_get code.funs g ≡ Some fc → fc.code ≡ steps → HasAt code g 0 steps
body_stands code g fc steps e same = stands_all code g [] steps (ap steps_of e ∙ same)

module _ (program : Program) (shaped : (g : ℕ) (fn : TypedFun) → slice_get program.funs g ≡ Some fn
    → IsShapedFun program fn) (code : CodeParts) (scheme : IsScheme program code) (n : ℕ) where
  -- what a call does, within a bound
  abbrev inner : (bound d : ℕ) → Setting
  inner bound d = setting program n bound (call_within program n bound) d

  -- a function begins, in any frame
  entered_lands : (bound : ℕ) → CallLaw code program n bound (call_within program n bound)
      → (f p g : ℕ) (place : Place) (k : ℕ) (ops vs : List Datum) (rest fs : List Frame)
      (pt : Point) (fn : TypedFun) (fc : Fun) → k < suc bound → Within k pt
      → slice_get program.funs g ≡ Some fn → slice_get code.funs g ≡ Some fc
      → IsCodeOf program.classes (texts_of program) fn fc
      → Does code n fs pt.state (entered fc g vs place f p pt.locals ops rest pt.state)
      → Land code n k (λ v l. frame f (p + 1) pt.locals (v ∷ ops)
      ∷ rest) no_way fs pt.state pt.stores
      (in_callee place (length rest) pt (body_of (inner bound (suc (length rest))) fn vs))
  entered_lands bound law f p g place k ops vs rest fs pt fn fc lt le at_f at_g same d =
      let ff = shaped g fn at_f in
      let has = split_stmt program.classes (texts_of program) code g fn.body 0 0 0 _
      (body_stands code g fc _ at_g same.steps) in
      let go = λ (kinds : List Kind). tried (turn_spent pt.state) place pt.state (λ s1.
      tried (room_for_call (length rest)) place s1 (λ ok.
      Next (frame g 0 (first_locals kinds vs) [] ∷ frame f (p + 1) pt.locals ops ∷ rest) s1)) in
      let d1 : Does code n fs pt.state (go fn.locals) =
      subst (λ kinds. Does code n fs pt.state (go kinds)) same.locals d in
      turned place k le d1 (λ s1 i is le1 d2.
      after_try {A = Unit {0}} _ _ _ d2 (λ ok d3. next d3 (more (omega arith) (record {
        so = value_so program code scheme.texts n g fn.result ff.result i f (p + 1)
            (stmt_end program.classes 0 fn.body) fn.place pt.locals ops rest _ s1 pt.stores _ has.1.0 has.1.1.0
            (exec_lands code program scheme.classes scheme.texts n bound (call_within program n bound) law g
            (frame f (p + 1) pt.locals ops
            ∷ rest) fn.body false ff.body 0 0 i 0 (omega arith) []
            (with_locals (with_state pt s1) (first_locals fn.locals vs)) le1 has.0).so;
      }))))

  -- whatever function is there, where the number of arguments is right or isn't
  picked_case : (b : Bool) (k : ℕ) (done : Stand Datum) (fs : List Frame) (s : State)
      (ws : List Store) (r : Effect) (e : Outcome Datum)
      → (Does code n fs s r → Land code n k done no_way fs s ws e)
      → Does code n fs s (pick b r Bad) → Land code n k done no_way fs s ws (pick b e Wrong)
  picked_case true k done fs s ws r e lands d = lands d
  picked_case false k done fs s ws r e lands d =
      record { so = (1, ap (λ x. go_over x ws (fused code n 0)) d.now) }

  fun_case : (k : ℕ) (done : Stand Datum) (fs : List Frame) (s : State) (ws : List Store)
      (count g : ℕ) (r : Fun → Effect) (e : TypedFun → Outcome Datum) (o : Option TypedFun)
      (oc : Option Fun) → slice_get program.funs g ≡ o → slice_get code.funs g ≡ oc
      → SameFun program.classes (texts_of program) o oc
      → ((fn : TypedFun) (fc : Fun) → slice_get program.funs g ≡ Some fn
      → slice_get code.funs g ≡ Some fc → IsCodeOf program.classes (texts_of program) fn fc
      → Does code n fs s (r fc) → Land code n k done no_way fs s ws (e fn))
      → Does code n fs s (with_fun oc (λ fc. pick (nat_eq count fc.params) (r fc) Bad))
      → Land code n k done no_way fs s ws
      (meaning.with_fun o (λ fn. pick (nat_eq count fn.params) (e fn) Wrong))
  fun_case k done fs s ws count g r e None None at_f at_g same lands d =
      record { so = (1, ap (λ x. go_over x ws (fused code n 0)) d.now) }
  fun_case k done fs s ws count g r e None (Some fc) at_f at_g same lands d = absurd same
  fun_case k done fs s ws count g r e (Some fn) None at_f at_g same lands d = absurd same
  fun_case k done fs s ws count g r e (Some fn) (Some fc) at_f at_g same lands d =
      picked_case (nat_eq count fn.params) k done fs s ws (r fc) (e fn)
      (lands fn fc at_f at_g same)
      (subst (λ m. Does code n fs s (pick (nat_eq count m) (r fc) Bad)) same.params d)

  -- a function that was found for an object begins
  sent_lands : (bound : ℕ) → CallLaw code program n bound (call_within program n bound)
      → (f p g : ℕ) (place : Place) (k : ℕ) (ops vs : List Datum) (rest fs : List Frame)
      (pt : Point) → k < suc bound → Within k pt
      → Does code n fs pt.state (sent code g vs place f p pt.locals ops rest pt.state)
      → Land code n k (λ v l. frame f (p + 1) pt.locals (v ∷ ops) ∷ rest) no_way fs pt.state
      pt.stores (call_within program n (suc bound) g vs (length rest) place pt)
  sent_lands bound law f p g place k ops vs rest fs pt lt le d =
      fun_case k _ fs pt.state pt.stores (length vs) g
      (λ fc. entered fc g vs place f p pt.locals ops rest pt.state)
      (λ fn. in_callee place (length rest) pt (body_of (inner bound (suc (length rest))) fn vs))
      (slice_get program.funs g) (slice_get code.funs g) refl refl (scheme.funs g)
      (λ fn fc at_f at_g same d1.
      entered_lands bound law f p g place k ops vs rest fs pt fn fc lt le at_f at_g same d1) d

  -- a child is sporked
  child_lands : (f p g : ℕ) (place : Place) (k : ℕ) (ops vs : List Datum) (rest fs : List Frame)
      (pt : Point) → Within k pt
      → Does code n fs pt.state (sporks_child place g vs f p pt.locals ops rest pt.state)
      → Land code n k (λ v l. frame f (p + 1) l (v ∷ ops) ∷ rest) no_way fs pt.state pt.stores
      (child_of g vs place pt)
  child_lands f p g place k ops vs rest fs pt le d =
      turned place k le d (λ s1 i is le1 d1.
      after_given (λ (child : Child). child.state.turns ≡ s1.turns) _ _ _ (sporked_given g vs s1) d1
      (λ child same d2.
      let within : fuel child.state.turns pt.stores ≤ k =
      subst (λ t. fuel t pt.stores ≤ k) (sym same) (omega (arith, is, le1)) in
      next d2 (here (AShred child.number) (with_state pt child.state) within)))

  -- one that will run a function that was found for an object
  sporks_sent_land : (bound : ℕ) (f p g : ℕ) (place : Place) (k : ℕ) (ops vs : List Datum)
      (rest fs : List Frame) (pt : Point) → Within k pt
      → Does code n fs pt.state (sporks_found code place g vs f p pt.locals ops rest pt.state)
      → Land code n k (λ v l. frame f (p + 1) l (v ∷ ops) ∷ rest) no_way fs pt.state pt.stores
      (sporked_by (inner bound (length rest)) g vs place pt)
  sporks_sent_land bound f p g place k ops vs rest fs pt le d =
      fun_case k _ fs pt.state pt.stores (length vs) g
      (λ fc. sporks_child place g vs f p pt.locals ops rest pt.state)
      (λ fn. child_of g vs place pt) (slice_get program.funs g) (slice_get code.funs g) refl refl
      (scheme.funs g) (λ fn fc at_f at_g same d1.
      child_lands f p g place k ops vs rest fs pt le d1) d

  -- arguments that are on top are taken as they went on
  by_is : (place : Place) (ops vs : List Datum) (s : State)
      (go : Fun → (arguments beneath : List Datum) → Effect) (o : Option TypedFun)
      (oc : Option Fun) → SameFun program.classes (texts_of program) o oc → Takes o (length vs)
      → with_fun oc (λ fc. tried (taken fc.params [] (pushed vs ops)) place s (λ t.
      go fc t.arguments t.beneath))
      ≡ with_fun oc (λ fc. pick (nat_eq (length vs) fc.params) (go fc vs ops) Bad)
  by_is place ops vs s go None oc same takes = absurd takes
  by_is place ops vs s go (Some fn) None same takes = absurd same
  by_is place ops vs s go (Some fn) (Some fc) same takes =
      let count : fc.params ≡ length vs = same.params ∙ sym takes in
      ap (λ t. tried t place s (λ t. go fc t.arguments t.beneath))
      (taken_pushed vs ops fc.params count)
      ∙ sym (ap (λ b. pick b (go fc vs ops) Bad) (eq-eqb (length vs) fc.params (sym count)))

  -- a spork's instruction makes the child on the arguments
  sporks_land : (bound : ℕ) (f p g : ℕ) (place : Place) (k : ℕ) (ops vs : List Datum)
      (rest : List Frame) (pt : Point) → Takes (slice_get program.funs g) (length vs)
      → Within k pt → step_at code f p ≡ Some (at (Spork g) place)
      → Land code n k (λ v l. frame f (p + 1) l (v ∷ ops) ∷ rest) no_way
      (frame f p pt.locals (pushed vs ops) ∷ rest) pt.state pt.stores
      (sporked_by (inner bound (length rest)) g vs place pt)
  sporks_land bound f p g place k ops vs rest pt takes le h =
      let d : Does code n (frame f p pt.locals (pushed vs ops) ∷ rest) pt.state
      (with_fun (slice_get code.funs g) (λ fc.
      tried (taken fc.params [] (pushed vs ops)) place pt.state (λ t.
      sporks_child place g t.arguments f p pt.locals t.beneath rest pt.state))) = does h in
      sporks_sent_land bound f p g place k ops vs rest (frame f p pt.locals (pushed vs ops) ∷ rest)
      pt le (record {
        now = d.now ∙ by_is place ops vs pt.state (λ fc arguments beneath.
            sporks_child place g arguments f p pt.locals beneath rest pt.state)
            (slice_get program.funs g) (slice_get code.funs g) (scheme.funs g) takes;
      })

  pub calls_land : (bound : ℕ) → CallLaw code program n bound (call_within program n bound)
  calls_land zero = record {
    by = λ f p g place k ops vs rest pt lt takes le h. absurd (omega arith);
    sends = λ f p g place k ops vs rest fs pt lt le d. absurd (omega arith);
    sporks = sporks_land zero;
    sporks_sent = sporks_sent_land zero;
  }
  calls_land (suc bound) = record {
    by = λ f p g place k ops vs rest pt lt takes le h.
        let d : Does code n (frame f p pt.locals (pushed vs ops)
        ∷ rest) pt.state (with_fun (slice_get code.funs g) (λ fc.
        tried (taken fc.params [] (pushed vs ops)) place pt.state (λ t.
        entered fc g t.arguments place f p pt.locals t.beneath rest pt.state))) = does h in
        sent_lands bound (calls_land bound) f p g place k ops vs rest
        (frame f p pt.locals (pushed vs ops) ∷ rest) pt lt le
        (record {
          now = d.now ∙ by_is place ops vs pt.state (λ fc arguments beneath.
              entered fc g arguments place f p pt.locals beneath rest pt.state)
              (slice_get program.funs g) (slice_get code.funs g) (scheme.funs g) takes;
        });
    sends = sent_lands bound (calls_land bound);
    sporks = sporks_land (suc bound);
    sporks_sent = sporks_sent_land (suc bound);
  }

  first_case : (bound g : ℕ) (fn : TypedFun) (fc : Fun) (vs : List Datum) (pt : Point)
      → fuel pt.state.turns pt.stores < bound → slice_get program.funs g ≡ Some fn
      → slice_get code.funs g ≡ Some fc → IsCodeOf program.classes (texts_of program) fn fc
      → Ends code n (fun_frames g fn vs) pt.state pt.stores (body_of (inner bound 0) fn vs pt)
  first_case bound g fn fc vs pt lt at_f at_g same =
      let ff = shaped g fn at_f in
      let has = split_stmt program.classes (texts_of program) code g fn.body 0 0 0 _
      (body_stands code g fc _ at_g same.steps) in
      end_so program code scheme.texts n g fn.result ff.result (fuel pt.state.turns pt.stores)
      (stmt_end program.classes 0 fn.body) fn.place _ pt.state pt.stores _ has.1.0 has.1.1.0
      (exec_lands code program scheme.classes scheme.texts n bound (call_within program n bound)
      (calls_land bound) g [] fn.body false ff.body 0 0 (fuel pt.state.turns pt.stores) 0 lt []
      (with_locals pt (first_locals fn.locals vs)) (omega arith) has.0).so

  first : (bound g : ℕ) (fn : TypedFun) (vs : List Datum) (pt : Point) (oc : Option Fun)
      → fuel pt.state.turns pt.stores < bound → slice_get program.funs g ≡ Some fn
      → slice_get code.funs g ≡ oc → SameFun program.classes (texts_of program) (Some fn) oc
      → Ends code n (fun_frames g fn vs) pt.state pt.stores (body_of (inner bound 0) fn vs pt)
  first bound g fn vs pt None lt at_f at_g same = absurd same
  first bound g fn vs pt (Some fc) lt at_f at_g same =
      first_case bound g fn fc vs pt lt at_f at_g same

-- the scheme's code does what the program does
pub follows : (program : Program) → ((g : ℕ) (fn : TypedFun) → slice_get program.funs g ≡ Some fn
    → IsShapedFun program fn) → (code : CodeParts) → IsScheme program code → Follows program code
follows program shaped code scheme = record {
  agrees = λ n g fn vs w ws at_g.
      first program shaped code scheme n (suc (fuel (pred fresh) ws)) g fn vs (record {
        locals = [];
        state = first_state w;
        stores = ws;
      }) (slice_get code.funs g) (omega arith) at_g refl
      (subst (λ o. SameFun program.classes (texts_of program) o (slice_get code.funs g)) at_g (scheme.funs g));
}
