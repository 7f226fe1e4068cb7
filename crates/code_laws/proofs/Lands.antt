-- What the machine does beside a piece of the source meaning: the tools of the law.
use Rattle.std.proofs.Common.{◌≡◌, ℕ, zero, suc, ◌+◌, ◌*◌, ◌≤◌, length, arith, List, [], ◌∷◌, Some, refl, ap, ◌∙◌, Bool, true, false}
use Rattle.std.specs.Prelude.{int_lt}
use Rattle.ck_values.specs.declared.trap.Place.{Place}
use Rattle.ck_values.specs.Datum.{Datum}
use Rattle.ck_store.specs.Store.{Store, State, Request, At, On, End, Try, Gives, Fails, Misfit}
use Rattle.ck_store.specs.Steps.{pick, fresh, spent_from, turn_spent, resumed, where_it_goes_on}
use Rattle.ck_code.specs.declared.code.CodeParts.{CodeParts}
use Rattle.ck_code.specs.declared.code.Step.{Step}
use Rattle.ck_code.specs.Machine.{Frame, frame, Effect, Next, Stops, Over, Breaks, Bad, Halt, Ended, Waits, Broke, Unfinished, Stuck, tried, effect, with_step, step_at, next_effect, with_turn}
use Rattle.ck_meaning.specs.Outcome.{Point, Exit, Outcome, Done, Left, Asks, Trapped, Wrong, then_do, try}
use Rattle.ck_meaning.specs.Meaning.{fuel, next_slice, asked, back}

-- one run over all the worlds: the slices of code_run, one after another
abbrev pub go_over : Effect → List Store → (List Frame → State → List Store → Halt) → Halt
go_over (Next fs s) ws next = next fs s ws
go_over (Stops q place fs s) [] next = Waits q place fs s
go_over (Stops q place fs s) (w ∷ ws) next =
    where_it_goes_on q (Waits q place fs s)
    (with_turn (turn_spent (resumed s.store.now s.turns w)) place (resumed s.store.now s.turns w)
    (λ s1. next fs s1 ws))
go_over (Over v s) ws next = Ended v s
go_over (Breaks t place s) ws next = Broke t place s
go_over Bad ws next = Stuck

abbrev pub fused : CodeParts → ℕ → ℕ → List Frame → State → List Store → Halt
fused code n zero fs s ws = Unfinished
fused code n (suc k) fs s ws = go_over (next_effect code n fs s) ws (fused code n k)

-- the machine goes from one state to another, in some number of steps
pub record Goes (code : CodeParts) (n : ℕ) (fs : List Frame) (s : State) (ws : List Store)
    (fs1 : List Frame) (s1 : State) (ws1 : List Store) : Type 0 where
  pub by : (k : ℕ) → (j : ℕ) × (fused code n j fs s ws ≡ fused code n k fs1 s1 ws1)

-- the machine's next instruction leads to this
pub record Does (code : CodeParts) (n : ℕ) (fs : List Frame) (s : State) (r : Effect) : Type 0 where
  pub now : next_effect code n fs s ≡ r

-- where the machine stands when a part is done with a value and locals, and when it is left
abbrev pub Stand : Type 0 → Type 0
Stand V = V → List Datum → List Frame

abbrev pub Way : Type 1
Way = Exit → List Datum → List Frame → Type 0

-- an expression is never left
abbrev pub no_way : Way
no_way x l fs = ⊥

-- the fuel that is left at a point
abbrev pub Within : ℕ → Point → Type 0
Within k pt = fuel pt.state.turns pt.stores ≤ k

-- the machine ends a part as the source does
abbrev pub Lands : {V : Type 0} → CodeParts → ℕ → ℕ → Stand V → Way → List Frame → State
    → List Store → Outcome V → Type 0
Lands code n k done left fs s ws (Done v pt) =
    Within k pt × Goes code n fs s ws (done v pt.locals) pt.state pt.stores
Lands code n k done left fs s ws (Left x pt) =
    (fs1 : List Frame) × (left x pt.locals fs1) × Goes code n fs s ws fs1 pt.state pt.stores
    × Within k pt
Lands code n k done left fs s ws (Asks q place s1) =
    (j : ℕ) × (fs1 : List Frame) × (fused code n j fs s ws ≡ Waits q place fs1 s1)
Lands code n k done left fs s ws (Trapped t place s1) =
    (j : ℕ) × (fused code n j fs s ws ≡ Broke t place s1)
Lands code n k done left fs s ws Wrong = (j : ℕ) × (fused code n j fs s ws ≡ Stuck)

-- the same as a record, whose parts a call needs not name
pub record Land {V : Type 0} (code : CodeParts) (n k : ℕ) (done : Stand V) (left : Way)
    (fs : List Frame) (s : State) (ws : List Store) (e : Outcome V) : Type 0 where
  pub so : Lands code n k done left fs s ws e

pub stays : {code : CodeParts} {n : ℕ} {fs : List Frame} {s : State} {ws : List Store}
    → Goes code n fs s ws fs s ws
stays = record { by = λ k. (k, refl) }

pub goes : {code : CodeParts} {n : ℕ} {fs fs1 : List Frame} {s s1 : State} {ws : List Store}
    → Does code n fs s (Next fs1 s1) → Goes code n fs s ws fs1 s1 ws
goes {code} {n} {ws = ws} d =
    record { by = λ k. (suc k, ap (λ r. go_over r ws (fused code n k)) d.now) }

pub goes_on : {code : CodeParts} {n : ℕ} {fs fs1 fs2 : List Frame} {s s1 s2 : State}
    {ws ws1 ws2 : List Store} → Goes code n fs s ws fs1 s1 ws1 → Goes code n fs1 s1 ws1 fs2 s2 ws2
    → Goes code n fs s ws fs2 s2 ws2
goes_on g h = record { by = λ k. let b = h.by k in let a = g.by b.0 in (a.0, a.1 ∙ b.1) }

-- a part is done at once
pub here : {V : Type 0} {code : CodeParts} {n k : ℕ} {done : Stand V} {left : Way} (v : V)
    (pt : Point) → Within k pt → Land code n k done left (done v pt.locals) pt.state pt.stores
    (Done v pt)
here v pt le = record { so = (le, stays) }

pub after_so : {V : Type 0} {code : CodeParts} {n : ℕ} (k : ℕ) (done : Stand V) (left : Way)
    {fs fs1 : List Frame} {s s1 : State} {ws ws1 : List Store} (e : Outcome V)
    → Goes code n fs s ws fs1 s1 ws1 → Lands code n k done left fs1 s1 ws1 e
    → Lands code n k done left fs s ws e
after_so k done left (Done v pt) g h = (h.0, goes_on g h.1)
after_so k done left (Left x pt) g h = (h.0, h.1, goes_on g h.2, h.3)
after_so k done left (Asks q place s2) g h = let a = g.by h.0 in (a.0, h.1, a.1 ∙ h.2)
after_so k done left (Trapped t place s2) g h = let a = g.by h.0 in (a.0, a.1 ∙ h.1)
after_so k done left Wrong g h = let a = g.by h.0 in (a.0, a.1 ∙ h.1)

-- a part after some steps
pub after : {V : Type 0} {code : CodeParts} {n k : ℕ} {done : Stand V} {left : Way}
    {fs fs1 : List Frame} {s s1 : State} {ws ws1 : List Store} {e : Outcome V}
    → Goes code n fs s ws fs1 s1 ws1 → Land code n k done left fs1 s1 ws1 e
    → Land code n k done left fs s ws e
after {k = k} {done = done} {left = left} {e = e} g h =
    record { so = after_so k done left e g h.so }

bound_so : {V W : Type 0} {code : CodeParts} {n k : ℕ} (done : Stand V) (done2 : Stand W)
    (left left2 : Way) (fs : List Frame) (s : State) (ws : List Store) (e : Outcome V)
    (go : V → Point → Outcome W) → ((x : Exit) (l : List Datum) (fs1 : List Frame) → left x l fs1
    → left2 x l fs1) → Lands code n k done left fs s ws e →
    ((v : V) (pt : Point) → Within k pt → Land code n k done2 left2
    (done v pt.locals) pt.state pt.stores (go v pt)) → Lands code n k done2 left2 fs s ws
    (then_do e go)
bound_so done done2 left left2 fs s ws (Done v pt) go more h rest =
    after_so _ done2 left2 (go v pt) h.1 (rest v pt h.0).so
bound_so done done2 left left2 fs s ws (Left x pt) go more h rest =
    (h.0, more x pt.locals h.0 h.1, h.2, h.3)
bound_so done done2 left left2 fs s ws (Asks q place s1) go more h rest = h
bound_so done done2 left left2 fs s ws (Trapped t place s1) go more h rest = h
bound_so done done2 left left2 fs s ws Wrong go more h rest = h

-- an expression, and what goes on from it
pub then : {V W : Type 0} {code : CodeParts} {n k : ℕ} {done : Stand V} {done2 : Stand W}
    {left2 : Way} {fs : List Frame} {s : State} {ws : List Store} {e : Outcome V}
    {go : V → Point → Outcome W} → Land code n k done no_way fs s ws e →
    ((v : V) (pt : Point) → Within k pt → Land code n k done2 left2
    (done v pt.locals) pt.state pt.stores (go v pt)) → Land code n k done2 left2 fs s ws
    (then_do e go)
then {done = done} {done2 = done2} {left2 = left2} {fs = fs} {s = s} {ws = ws} {e = e}
    {go = go} h rest = record {
      so = bound_so done done2 no_way left2 fs s ws e go
          (λ x l fs1 no. absurd no) h.so rest;
    }

-- a statement, and what goes on from it
pub and_next : {V W : Type 0} {code : CodeParts} {n k : ℕ} {done : Stand V} {done2 : Stand W}
    {left : Way} {fs : List Frame} {s : State} {ws : List Store} {e : Outcome V}
    {go : V → Point → Outcome W} → Land code n k done left fs s ws e →
    ((v : V) (pt : Point) → Within k pt → Land code n k done2 left
    (done v pt.locals) pt.state pt.stores (go v pt)) → Land code n k done2 left fs s ws
    (then_do e go)
and_next {done = done} {done2 = done2} {left = left} {fs = fs} {s = s} {ws = ws} {e = e}
    {go = go} h rest = record {
      so = bound_so done done2 left left fs s ws e go
          (λ x l fs1 yes. yes) h.so rest;
    }

-- the instruction at the place
pub does : {code : CodeParts} {n : ℕ} {f p : ℕ} {l ops : List Datum} {rest : List Frame} {s : State}
    {step : Step} → step_at code f p ≡ Some step → Does code n (frame f p l ops ∷ rest) s
    (effect code n step.instr step.place f p l ops rest s)
does {code} {n} {f} {p} {l} {ops} {rest} {s} h =
    record
    { now = ap (λ o. with_step o (λ step. effect code n step.instr step.place f p l ops rest s)) h }

after_try_so : {A W : Type 0} {code : CodeParts} {n k : ℕ} {done : Stand W} {left : Way}
    {fs : List Frame} {s : State} {ws : List Store} (s0 : State) (place : Place) (o : Try A)
    (r : A → Effect) (go : A → Outcome W) → Does code n fs s (tried o place s0 r) →
    ((a : A) → Does code n fs s (r a) → Land code n k done left fs s ws (go a))
    → Lands code n k done left fs s ws (try o place s0 go)
after_try_so s0 place (Gives a) r go d h = (h a d).so
after_try_so {code} {n} {ws = ws} s0 place (Fails t) r go d h =
    (1, ap (λ x. go_over x ws (fused code n 0)) d.now)
after_try_so {code} {n} {ws = ws} s0 place Misfit r go d h =
    (1, ap (λ x. go_over x ws (fused code n 0)) d.now)

-- a step on values, which may trap
pub after_try : {A W : Type 0} {code : CodeParts} {n k : ℕ} {done : Stand W} {left : Way}
    {fs : List Frame} {s : State} {ws : List Store} (s0 : State) (place : Place) (o : Try A)
    {r : A → Effect} {go : A → Outcome W} → Does code n fs s (tried o place s0 r) →
    ((a : A) → Does code n fs s (r a) → Land code n k done left fs s ws (go a))
    → Land code n k done left fs s ws (try o place s0 go)
after_try s0 place o {r = r} {go = go} d h = record { so = after_try_so s0 place o r go d h }

picked_so : {W : Type 0} {code : CodeParts} {n k : ℕ} {done : Stand W} {left : Way}
    {fs : List Frame} {s : State} {ws : List Store} (b : Bool) (f t q : ℕ) (l ops : List Datum)
    (rest : List Frame) (s0 : State) (e1 e2 : Outcome W) → Does code n fs s
    (Next (frame f (pick b t q) l ops ∷ rest) s0) →
    (Does code n fs s (Next (frame f t l ops ∷ rest) s0) → Land code n k done left fs s ws e1) →
    (Does code n fs s (Next (frame f q l ops ∷ rest) s0) → Land code n k done left fs s ws e2)
    → Lands code n k done left fs s ws (pick b e1 e2)
picked_so true f t q l ops rest s0 e1 e2 d h1 h2 = (h1 d).so
picked_so false f t q l ops rest s0 e1 e2 d h1 h2 = (h2 d).so

-- a test, which goes on at one of two places
pub picked : {W : Type 0} {code : CodeParts} {n k : ℕ} {done : Stand W} {left : Way}
    {fs : List Frame} {s : State} {ws : List Store} (b : Bool) {f t q : ℕ} {l ops : List Datum}
    {rest : List Frame} {s0 : State} {e1 e2 : Outcome W} → Does code n fs s
    (Next (frame f (pick b t q) l ops ∷ rest) s0) →
    (Does code n fs s (Next (frame f t l ops ∷ rest) s0) → Land code n k done left fs s ws e1) →
    (Does code n fs s (Next (frame f q l ops ∷ rest) s0) → Land code n k done left fs s ws e2)
    → Land code n k done left fs s ws (pick b e1 e2)
picked b {f = f} {t = t} {q = q} {l = l} {ops = ops} {rest = rest} {s0 = s0} {e1 = e1}
    {e2 = e2} d h1 h2 = record { so = picked_so b f t q l ops rest s0 e1 e2 d h1 h2 }

either_so : {W : Type 0} {code : CodeParts} {n k : ℕ} {done : Stand W} {left : Way}
    {fs : List Frame} {s : State} {ws : List Store} (b : Bool) (r1 r2 : Effect) (e1 e2 : Outcome W)
    → Does code n fs s (pick b r1 r2) → (Does code n fs s r1 → Land code n k done left fs s ws e1) →
    (Does code n fs s r2 → Land code n k done left fs s ws e2) → Lands code n k done left fs s ws
    (pick b e1 e2)
either_so true r1 r2 e1 e2 d h1 h2 = (h1 d).so
either_so false r1 r2 e1 e2 d h1 h2 = (h2 d).so

-- a test that leaves different operands
pub either : {W : Type 0} {code : CodeParts} {n k : ℕ} {done : Stand W} {left : Way}
    {fs : List Frame} {s : State} {ws : List Store} (b : Bool) {r1 r2 : Effect} {e1 e2 : Outcome W}
    → Does code n fs s (pick b r1 r2) → (Does code n fs s r1 → Land code n k done left fs s ws e1) →
    (Does code n fs s r2 → Land code n k done left fs s ws e2) → Land code n k done left fs s ws
    (pick b e1 e2)
either b {r1 = r1} {r2 = r2} {e1 = e1} {e2 = e2} d h1 h2 =
    record { so = either_so b r1 r2 e1 e2 d h1 h2 }

-- one instruction, and what goes on from it
pub next : {W : Type 0} {code : CodeParts} {n k : ℕ} {done : Stand W} {left : Way}
    {fs fs1 : List Frame} {s s1 : State} {ws : List Store} {e : Outcome W} → Does code n fs s
    (Next fs1 s1) → Land code n k done left fs1 s1 ws e → Land code n k done left fs s ws e
next d h = after (goes d) h

-- a turn that is spent lowers the fuel
spent_so : {W : Type 0} {code : CodeParts} {n : ℕ} {j : ℕ} (done : Stand W) (left : Way)
    (fs : List Frame) (s s0 : State) (ws : List Store) (place : Place) (t k : ℕ)
    (r : State → Effect) (go : State → Outcome W) → fuel t ws ≤ k → Does code n fs s
    (tried (spent_from t s0) place s0 r) → ((s2 : State) (i : ℕ) → k ≡ suc i → fuel s2.turns ws ≤ i
    → Does code n fs s (r s2) → Land code n j done left fs s ws (go s2))
    → Lands code n j done left fs s ws (try (spent_from t s0) place s0 go)
spent_so {code = code} {n = n} done left fs s s0 ws place zero k r go le d h =
    (1, ap (λ x. go_over x ws (fused code n 0)) d.now)
spent_so done left fs s s0 ws place (suc t) zero r go le d h = absurd (omega arith)
spent_so done left fs s s0 ws place (suc t) (suc i) r go le d h =
    (h (record s0 { turns = t }) i refl (omega arith) d).so

-- the instruction that spends a turn
pub turned : {W : Type 0} {code : CodeParts} {n : ℕ} {j : ℕ} {done : Stand W} {left : Way}
    {fs : List Frame} {s : State} {ws : List Store} {r : State → Effect} {go : State → Outcome W}
    (place : Place) (k : ℕ) → fuel s.turns ws ≤ k → Does code n fs s
    (tried (turn_spent s) place s r) → ((s2 : State) (i : ℕ) → k ≡ suc i → fuel s2.turns ws ≤ i
    → Does code n fs s (r s2) → Land code n j done left fs s ws (go s2))
    → Land code n j done left fs s ws (try (turn_spent s) place s go)
turned {done = done} {left = left} {fs = fs} {s = s} {ws = ws} {r = r} {go = go} place k le d h =
    record { so = spent_so done left fs s s ws place s.turns k r go le d h }

renewed_le : (b : Bool) (t k n : ℕ) → t + suc fresh * suc n ≤ k → pick b fresh t + suc fresh * n ≤ k
renewed_le true t k n le = omega arith
renewed_le false t k n le = omega arith

woken : {code : CodeParts} {n k : ℕ} {done : Stand Datum} {left : Way} {fs1 : List Frame}
    (fs : List Frame) (s s0 : State) (l : List Datum) (ws ws1 : List Store) (place : Place) (t : ℕ)
    (go : Point → Outcome Datum) → fuel t ws1 ≤ k →
    ((j : ℕ) → fused code n (suc j) fs s ws ≡ with_turn (spent_from t s0) place s0
    (λ s2. fused code n j fs1 s2 ws1)) → ((s2 : State) (ws2 : List Store) → fuel s2.turns ws2 ≤ k
    → Land code n k done left fs1 s2 ws2 (go (record { locals = l; state = s2; stores = ws2 })))
    → Lands code n k done left fs s ws (try (spent_from t s0) place s0
    (λ s2. go (record { locals = l; state = s2; stores = ws1 })))
woken fs s s0 l ws ws1 place zero go le d h = (1, d 0)
woken {done = done} {left = left} fs s s0 l ws ws1 place (suc t) go le d h =
    let pt : Point = record { locals = l; state = record s0 { turns = t }; stores = ws1 } in
    after_so _ done left (go pt) (record { by = λ j. (suc j, d j) })
    (h pt.state ws1 (omega arith)).so

-- a shred that goes on in the next world
resumes : {code : CodeParts} {n k : ℕ} {done : Stand Datum} {left : Way} {fs1 : List Frame}
    (fs : List Frame) (s : State) (pt : Point) (place : Place) (w : Store) (ws : List Store)
    (go : Point → Outcome Datum) → fuel pt.state.turns (w ∷ ws) ≤ k →
    ((j : ℕ) → fused code n (suc j) fs s (w ∷ ws)
    ≡ with_turn (turn_spent (resumed pt.state.store.now pt.state.turns w)) place
    (resumed pt.state.store.now pt.state.turns w) (λ s1. fused code n j fs1 s1 ws))
    → ((s2 : State) (ws2 : List Store) → fuel s2.turns ws2 ≤ k
    → Land code n k done left fs1 s2 ws2 (go (record
    { locals = pt.locals; state = s2; stores = ws2 }))) → Lands code n k done left fs s (w ∷ ws)
    (next_slice w ws place pt go)
resumes {k = k} fs s pt place w ws go le d h =
    let b = int_lt pt.state.store.now w.now in
    woken fs s (resumed pt.state.store.now pt.state.turns w) pt.locals (w ∷ ws) ws place
    (pick b fresh pt.state.turns) go (renewed_le b pt.state.turns k (length ws) le) d h

awaited : {code : CodeParts} {n k : ℕ} {done : Stand Datum} {left : Way} {fs1 : List Frame}
    (fs : List Frame) (s : State) (pt : Point) (place : Place) (q : Request) (ws : List Store)
    (go : Point → Outcome Datum) → fuel pt.state.turns ws ≤ k →
    ((j : ℕ) → fused code n (suc j) fs s ws ≡ go_over (Stops q place fs1 pt.state) ws
    (fused code n j)) → ((s2 : State) (ws2 : List Store) → fuel s2.turns ws2 ≤ k
    → Land code n k done left fs1 s2 ws2 (go (record
    { locals = pt.locals; state = s2; stores = ws2 }))) → Lands code n k done left fs s ws
    (asked ws q place pt go)
awaited {fs1 = fs1} fs s pt place q [] go le d h = (1, fs1, d 0)
awaited fs s pt place (At time) (w ∷ ws) go le d h = resumes fs s pt place w ws go le d h
awaited fs s pt place (On event) (w ∷ ws) go le d h = resumes fs s pt place w ws go le d h
awaited {fs1 = fs1} fs s pt place End (w ∷ ws) go le d h = (1, fs1, d 0)

-- a stop, and what goes on from it in the next world, if the shred does
pub stops : {code : CodeParts} {n k : ℕ} {done : Stand Datum} {left : Way} {fs fs1 : List Frame}
    {s : State} {place : Place} {q : Request} (go : Point → Outcome Datum) (pt : Point)
    → Within k pt → Does code n fs s (Stops q place fs1 pt.state) →
    ((s2 : State) (ws2 : List Store) → fuel s2.turns ws2 ≤ k → Land code n k done left fs1 s2 ws2
    (go (record { locals = pt.locals; state = s2; stores = ws2 })))
    → Land code n k done left fs s pt.stores (asked pt.stores q place pt go)
stops {code} {n} {fs = fs} {s = s} {place = place} {q = q} go pt le d h =
    record {
      so = awaited fs s pt place q pt.stores go le
          (λ j. ap (λ r. go_over r pt.stores (fused code n j)) d.now) h;
    }

onward_so : {V : Type 0} {code : CodeParts} {n : ℕ} (k : ℕ) (done done2 : Stand V) (left : Way)
    (fs : List Frame) (s : State) (ws : List Store) (e : Outcome V)
    → Lands code n k done left fs s ws e → ((v : V) (pt : Point) → Goes code n
    (done v pt.locals) pt.state pt.stores (done2 v pt.locals) pt.state pt.stores)
    → Lands code n k done2 left fs s ws e
onward_so k done done2 left fs s ws (Done v pt) h g = (h.0, goes_on h.1 (g v pt))
onward_so k done done2 left fs s ws (Left x pt) h g = h
onward_so k done done2 left fs s ws (Asks q place s1) h g = h
onward_so k done done2 left fs s ws (Trapped t place s1) h g = h
onward_so k done done2 left fs s ws Wrong h g = h

-- a part, and steps after it that only move the place
pub onward : {V : Type 0} {code : CodeParts} {n k : ℕ} {done done2 : Stand V} {left : Way}
    {fs : List Frame} {s : State} {ws : List Store} {e : Outcome V}
    → Land code n k done left fs s ws e → ((v : V) (pt : Point) → Goes code n
    (done v pt.locals) pt.state pt.stores (done2 v pt.locals) pt.state pt.stores)
    → Land code n k done2 left fs s ws e
onward {k = k} {done = done} {done2 = done2} {left = left} {fs = fs} {s = s} {ws = ws} {e = e} h g =
    record { so = onward_so k done done2 left fs s ws e h.so g }

back_so : (code : CodeParts) (n k : ℕ) (done : Stand Datum) (fs : List Frame) (s : State)
    (ws : List Store) (l : List Datum) (e : Outcome Datum) → Lands code n k
    (λ v l1. done v l) no_way fs s ws e → Lands code n k done no_way fs s ws (back l e)
back_so code n k done fs s ws l (Done v pt) h = h
back_so code n k done fs s ws l (Left x pt) h = absurd h.1
back_so code n k done fs s ws l (Asks q place s1) h = h
back_so code n k done fs s ws l (Trapped t place s1) h = h
back_so code n k done fs s ws l Wrong h = h

-- a call, after which the locals are as before
pub backed : {code : CodeParts} {n k : ℕ} {done : Stand Datum} {fs : List Frame} {s : State}
    {ws : List Store} (l : List Datum) {e : Outcome Datum} → Land code n k
    (λ v l1. done v l) no_way fs s ws e → Land code n k done no_way fs s ws (back l e)
backed {code = code} {n = n} {k = k} {done = done} {fs = fs} {s = s} {ws = ws} l {e = e} h =
    record { so = back_so code n k done fs s ws l e h.so }

-- what holds of the value, if there is one
abbrev pub Of : {V : Type 0} → (V → Type 0) → Outcome V → Type 0
Of ok (Done v pt) = ok v
Of ok _ = Unit {0}

then_of_so : {V W : Type 0} {code : CodeParts} {n : ℕ} (k : ℕ) (ok : V → Type 0) (done : Stand V)
    (done2 : Stand W) (left2 : Way) (fs : List Frame) (s : State) (ws : List Store) (e : Outcome V)
    (go : V → Point → Outcome W) → Of ok e → Lands code n k done no_way fs s ws e →
    ((v : V) (pt : Point) → ok v → Within k pt → Land code n k done2 left2
    (done v pt.locals) pt.state pt.stores (go v pt)) → Lands code n k done2 left2 fs s ws
    (then_do e go)
then_of_so k ok done done2 left2 fs s ws (Done v pt) go fact h rest =
    after_so k done2 left2 (go v pt) h.1 (rest v pt fact h.0).so
then_of_so k ok done done2 left2 fs s ws (Left x pt) go fact h rest = absurd h.1
then_of_so k ok done done2 left2 fs s ws (Asks q place s1) go fact h rest = h
then_of_so k ok done done2 left2 fs s ws (Trapped t place s1) go fact h rest = h
then_of_so k ok done done2 left2 fs s ws Wrong go fact h rest = h

-- the same with a fact of the value
pub then_of : {V W : Type 0} {code : CodeParts} {n k : ℕ} (ok : V → Type 0) {done : Stand V}
    {done2 : Stand W} {left2 : Way} {fs : List Frame} {s : State} {ws : List Store} {e : Outcome V}
    {go : V → Point → Outcome W} → Of ok e → Land code n k done no_way fs s ws e →
    ((v : V) (pt : Point) → ok v → Within k pt → Land code n k done2 left2
    (done v pt.locals) pt.state pt.stores (go v pt)) → Land code n k done2 left2 fs s ws
    (then_do e go)
then_of {k = k} ok {done = done} {done2 = done2} {left2 = left2} {fs = fs} {s = s} {ws = ws} {e = e}
    {go = go} fact h rest = record
    { so = then_of_so k ok done done2 left2 fs s ws e go fact h.so rest }

more_so : {V : Type 0} (code : CodeParts) (n : ℕ) (j k : ℕ) (done : Stand V) (left : Way)
    (fs : List Frame) (s : State) (ws : List Store) (e : Outcome V) → j ≤ k
    → Lands code n j done left fs s ws e → Lands code n k done left fs s ws e
more_so code n j k done left fs s ws (Done v pt) le h = (omega (arith, h.0), h.1)
more_so code n j k done left fs s ws (Left x pt) le h = (h.0, h.1, h.2, omega (arith, h.3))
more_so code n j k done left fs s ws (Asks q place s1) le h = h
more_so code n j k done left fs s ws (Trapped t place s1) le h = h
more_so code n j k done left fs s ws Wrong le h = h

-- under a higher bound
pub more : {V : Type 0} {code : CodeParts} {n : ℕ} {j k : ℕ} {done : Stand V} {left : Way}
    {fs : List Frame} {s : State} {ws : List Store} {e : Outcome V} → j ≤ k
    → Land code n j done left fs s ws e → Land code n k done left fs s ws e
more {code = code} {n = n} {j = j} {k = k} {done = done} {left = left} {fs = fs} {s = s} {ws = ws}
    {e = e} le h = record { so = more_so code n j k done left fs s ws e le h.so }
