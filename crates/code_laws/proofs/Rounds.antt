-- The rounds of a loop: what the code of a loop does, where the code of its parts does what they
-- mean.
use Rattle.std.proofs.Common.{◌≡◌, ℕ, zero, suc, ◌+◌, ◌<◌, ◌≤◌, List, ◌∷◌, Some, subst, Bool, true, IsTrue, pos, arith}
use Rattle.ck_values.specs.declared.operator.Op1.TheVariants.{NotInt}
use Rattle.ck_values.specs.declared.operator.Op2.TheVariants.{SubIntInt, GtIntInt}
use Rattle.ck_values.specs.declared.trap.Place.{Place}
use Rattle.ck_values.specs.Datum.{Datum, AnInt}
use Rattle.ck_store.specs.Store.{Store, State}
use Rattle.ck_store.specs.Steps.{is_zero}
use Rattle.ck_store.specs.Operators.{binary}
use Rattle.ck_code.specs.declared.instr.Instr.TheVariants.{Int, Dup, Drop, Op1, Op2, Return, Jump, JumpZero, Turn}
use Rattle.ck_code.specs.declared.code.CodeParts.{CodeParts}
use Rattle.ck_code.specs.Machine.{Frame, frame, step_at}
use Rattle.ck_meaning.specs.Outcome.{Point, with_state, Outcome, Done, Left, Asks, Trapped, Wrong, Broken, Continued, Returned, then_do, try}
use Rattle.ck_meaning.specs.Meaning.{Nothing, where_zero, round_end, rounds, rounds_first, rounds_left, test_of, always, stepped}
use Rattle.ck_scheme.specs.Scheme.{at}
use Rattle.code_laws.proofs.Lands.{Goes, Land, Lands, Within, Way, no_way, goes, goes_on, here, then, does, after_try, turned, picked, next, after_so, more}

module _ (code : CodeParts) (n f : ℕ) (rest : List Frame) where
  -- where the code stands when a statement is left: at the place for a break or for a continue, or
  -- at a return with the value on top
  abbrev pub exits : (in_loop : Bool) → (out again : ℕ) → (operands : List Datum) → Way
  exits in_loop out again ops Broken l fs1 = IsTrue in_loop × (fs1 ≡ frame f out l ops ∷ rest)
  exits in_loop out again ops Continued l fs1 = IsTrue in_loop × (fs1 ≡ frame f again l ops ∷ rest)
  exits in_loop out again ops (Returned v) l fs1 =
      (r : ℕ) × (place : Place) × (under : List Datum) × (step_at code f r ≡ Some (at Return place))
      × (fs1 ≡ frame f r l (v ∷ under) ∷ rest)

  -- a round of a loop, whose body's code ends at the place last with a jump to the place again
  round_so : (k : ℕ) (in_loop : Bool) (out before end again last : ℕ) (ops : List Datum)
      (fs : List Frame) (s : State) (ws : List Store) (e : Outcome Nothing)
      (more_rounds : Point → Outcome Nothing)
      → Lands code n k (λ v l1. frame f last l1 ops ∷ rest) (exits true end again ops) fs s ws e
      → ((pt : Point) → Within k pt → Land code n k (λ v l1. frame f end l1 ops
      ∷ rest) (exits in_loop out before ops) (frame f last pt.locals ops
      ∷ rest) pt.state pt.stores (more_rounds pt))
      → ((pt : Point) → Within k pt → Land code n k (λ v l1. frame f end l1 ops
      ∷ rest) (exits in_loop out before ops) (frame f again pt.locals ops
      ∷ rest) pt.state pt.stores (more_rounds pt))
      → Lands code n k (λ v l1. frame f end l1 ops
      ∷ rest) (exits in_loop out before ops) fs s ws (round_end e more_rounds)
  round_so k in_loop out before end again last ops fs s ws (Done v pt) go h g g2 =
      after_so k (λ v l1. frame f end l1 ops
      ∷ rest) (exits in_loop out before ops) (go pt) h.1 (g pt h.0).so
  round_so k in_loop out before end again last ops fs s ws (Left Broken pt) go h g g2 =
      (h.3, subst (λ fs1. Goes code n fs s ws fs1 pt.state pt.stores) h.1.1 h.2)
  round_so k in_loop out before end again last ops fs s ws (Left Continued pt) go h g g2 =
      after_so k (λ v l1. frame f end l1 ops
      ∷ rest) (exits in_loop out before ops) (go pt)
      (subst (λ fs1. Goes code n fs s ws fs1 pt.state pt.stores) h.1.1 h.2) (g2 pt h.3).so
  round_so k in_loop out before end again last ops fs s ws (Left (Returned v) pt) go h g g2 = h
  round_so k in_loop out before end again last ops fs s ws (Asks q place s1) go h g g2 = h
  round_so k in_loop out before end again last ops fs s ws (Trapped t place s1) go h g g2 = h
  round_so k in_loop out before end again last ops fs s ws Wrong go h g g2 = h

  -- the rounds of a loop whose test stands from the place p on, and its jump back at the place last
  pub rounds_land : (bound : ℕ) (in_loop : Bool) (out before p mid last : ℕ) (place : Place)
      (ops : List Datum) (test : Point → Outcome Datum) (body : Point → Outcome Nothing)
      → step_at code f mid ≡ Some (at (JumpZero (last + 1)) place)
      → step_at code f (mid + 1) ≡ Some (at Turn place)
      → step_at code f last ≡ Some (at (Jump p) place)
      → ((k : ℕ) → k < bound → (pt : Point) → Within k pt
      → Land code n k (λ v l1. frame f mid l1 (v ∷ ops) ∷ rest) no_way (frame f p pt.locals ops
      ∷ rest) pt.state pt.stores (test pt))
      → ((k : ℕ) → k < bound → (pt : Point) → Within k pt
      → Land code n k (λ v l1. frame f last l1 ops
      ∷ rest) (exits true (last + 1) p ops) (frame f (mid + 1 + 1) pt.locals ops
      ∷ rest) pt.state pt.stores (body pt))
      → (m k : ℕ) → k < m → m ≤ bound → (pt : Point) → Within k pt
      → Land code n k (λ v l1. frame f (last + 1) l1 ops
      ∷ rest) (exits in_loop out before ops) (frame f p pt.locals ops
      ∷ rest) pt.state pt.stores (rounds m place test body pt)
  rounds_land bound in_loop out before p mid last place ops test body at_test at_turn at_jump tests
      bodies zero k lt top pt le = absurd (omega arith)
  rounds_land bound in_loop out before p mid last place ops test body at_test at_turn at_jump tests
      bodies (suc m) k lt top pt le =
      then (tests k (omega arith) pt le) (λ v pt1 le1.
      after_try _ _ _ (does at_test) (λ is d0. picked is d0
      (λ d. next d (here tt pt1 le1))
      (λ d. next d (turned place k le1 (does at_turn) (λ s2 i is le2 d2.
      next d2 (more (omega arith) (record {
        so = round_so i in_loop out before (last + 1) p last ops _ s2 pt1.stores
            (body (with_state pt1 s2)) (rounds m place test body)
            (bodies i (omega arith) (with_state pt1 s2) le2).so
            (λ pt3 le3. next (does at_jump)
            (rounds_land bound in_loop out before p mid last place ops test body at_test at_turn
            at_jump tests bodies m i (omega arith) (omega arith) pt3 le3))
            (λ pt3 le3.
            rounds_land bound in_loop out before p mid last place ops test body at_test at_turn
            at_jump tests bodies m i (omega arith) (omega arith) pt3 le3);
      })))))))

  -- the same, where the body's code ends at the place that a continue goes to
  round_on : (k : ℕ) (in_loop : Bool) (out before end again : ℕ) (ops : List Datum)
      (fs : List Frame) (s : State) (ws : List Store) (e : Outcome Nothing)
      (more_rounds : Point → Outcome Nothing)
      → Lands code n k (λ v l1. frame f again l1 ops ∷ rest) (exits true end again ops) fs s ws e
      → ((pt : Point) → Within k pt → Land code n k (λ v l1. frame f end l1 ops
      ∷ rest) (exits in_loop out before ops) (frame f again pt.locals ops
      ∷ rest) pt.state pt.stores (more_rounds pt))
      → Lands code n k (λ v l1. frame f end l1 ops
      ∷ rest) (exits in_loop out before ops) fs s ws (round_end e more_rounds)
  round_on k in_loop out before end again ops fs s ws e go h g =
      round_so k in_loop out before end again again ops fs s ws e go h g g

  -- the test of a loop that ends where it holds
  pub not_lands : (k mid : ℕ) (place : Place) (ops : List Datum) (fs : List Frame) (s : State)
      (ws : List Store) (test : Outcome Datum)
      → step_at code f mid ≡ Some (at (Op1 NotInt) place)
      → Land code n k (λ v l1. frame f mid l1 (v ∷ ops) ∷ rest) no_way fs s ws test
      → Land code n k (λ v l1. frame f (mid + 1) l1 (v ∷ ops)
      ∷ rest) no_way fs s ws (test_of true place test)
  not_lands k mid place ops fs s ws test at_not h =
      then h (λ v pt le. after_try _ _ _ (does at_not) (λ w d. next d (here w pt le)))

  stepped_so : (k end again between last : ℕ) (ops : List Datum) (fs : List Frame) (s : State)
      (ws : List Store) (e : Outcome Nothing) (step : Point → Outcome Nothing)
      → Lands code n k (λ v l1. frame f between l1 ops
      ∷ rest) (exits true end between ops) fs s ws e
      → ((pt : Point) → Within k pt → Land code n k (λ v l1. frame f last l1 ops
      ∷ rest) (exits true end again ops) (frame f between pt.locals ops
      ∷ rest) pt.state pt.stores (step pt))
      → Lands code n k (λ v l1. frame f last l1 ops
      ∷ rest) (exits true end again ops) fs s ws (stepped e step)
  stepped_so k end again between last ops fs s ws (Done v pt) step h g =
      after_so k (λ v l1. frame f last l1 ops
      ∷ rest) (exits true end again ops) (step pt) h.1 (g pt h.0).so
  stepped_so k end again between last ops fs s ws (Left Broken pt) step h g = h
  stepped_so k end again between last ops fs s ws (Left Continued pt) step h g =
      after_so k (λ v l1. frame f last l1 ops
      ∷ rest) (exits true end again ops) (step pt)
      (subst (λ fs1. Goes code n fs s ws fs1 pt.state pt.stores) h.1.1 h.2) (g pt h.3).so
  stepped_so k end again between last ops fs s ws (Left (Returned v) pt) step h g = h
  stepped_so k end again between last ops fs s ws (Asks q place s1) step h g = h
  stepped_so k end again between last ops fs s ws (Trapped t place s1) step h g = h
  stepped_so k end again between last ops fs s ws Wrong step h g = h

  -- the body of a `for`, whose continue goes to the place between, and then its step
  pub stepped_lands : (k end again between last : ℕ) (ops : List Datum) (fs : List Frame) (s :
      State)
      (ws : List Store) (e : Outcome Nothing) (step : Point → Outcome Nothing)
      → Land code n k (λ v l1. frame f between l1 ops
      ∷ rest) (exits true end between ops) fs s ws e
      → ((pt : Point) → Within k pt → Land code n k (λ v l1. frame f last l1 ops
      ∷ rest) (exits true end again ops) (frame f between pt.locals ops
      ∷ rest) pt.state pt.stores (step pt))
      → Land code n k (λ v l1. frame f last l1 ops
      ∷ rest) (exits true end again ops) fs s ws (stepped e step)
  stepped_lands k end again between last ops fs s ws e step h g =
      record { so = stepped_so k end again between last ops fs s ws e step h.so g }

  -- the rounds of a loop whose turn stands at the place p, its body after it, and its test from the
  -- place check on
  pub rounds_first_land : (bound : ℕ) (in_loop : Bool) (out before p check mid : ℕ) (place : Place)
      (ops : List Datum) (test : Point → Outcome Datum) (body : Point → Outcome Nothing)
      → step_at code f p ≡ Some (at Turn place)
      → step_at code f mid ≡ Some (at (JumpZero (mid + 1 + 1)) place)
      → step_at code f (mid + 1) ≡ Some (at (Jump p) place)
      → ((k : ℕ) → k < bound → (pt : Point) → Within k pt
      → Land code n k (λ v l1. frame f check l1 ops
      ∷ rest) (exits true (mid + 1 + 1) check ops) (frame f (p + 1) pt.locals ops
      ∷ rest) pt.state pt.stores (body pt))
      → ((k : ℕ) → k < bound → (pt : Point) → Within k pt
      → Land code n k (λ v l1. frame f mid l1 (v ∷ ops) ∷ rest) no_way (frame f check pt.locals ops
      ∷ rest) pt.state pt.stores (test pt))
      → (m k : ℕ) → k < m → m ≤ bound → (pt : Point) → Within k pt
      → Land code n k (λ v l1. frame f (mid + 1 + 1) l1 ops
      ∷ rest) (exits in_loop out before ops) (frame f p pt.locals ops
      ∷ rest) pt.state pt.stores (rounds_first m place test body pt)
  rounds_first_land bound in_loop out before p check mid place ops test body at_turn at_test at_jump
      bodies tests zero k lt top pt le = absurd (omega arith)
  rounds_first_land bound in_loop out before p check mid place ops test body at_turn at_test at_jump
      bodies tests (suc m) k lt top pt le =
      turned place k le (does at_turn) (λ s2 i is le2 d2.
      next d2 (more (omega arith) (record {
        so = round_on i in_loop out before (mid + 1 + 1) check ops _ s2 pt.stores
            (body (with_state pt s2)) (λ pt1. then_do (test pt1) (λ v pt2.
            where_zero v place pt2.state (Done tt pt2) (rounds_first m place test body pt2)))
            (bodies i (omega arith) (with_state pt s2) le2).so
            (λ pt3 le3. then (tests i (omega arith) pt3 le3) (λ v pt4 le4.
            after_try _ _ _ (does at_test) (λ ends d0. picked ends d0
            (λ d. next d (here tt pt4 le4))
            (λ d. next d (next (does at_jump)
            (rounds_first_land bound in_loop out before p check mid place ops test body at_turn
            at_test at_jump bodies tests m i (omega arith) (omega arith) pt4 le4))))));
      })))

  -- the rounds of a loop without a test: its turn stands at the place p, and its jump back at the
  -- place last
  pub endless_land : (bound : ℕ) (in_loop : Bool) (out before p last : ℕ) (place : Place)
      (ops : List Datum) (body : Point → Outcome Nothing)
      → step_at code f p ≡ Some (at Turn place)
      → step_at code f last ≡ Some (at (Jump p) place)
      → ((k : ℕ) → k < bound → (pt : Point) → Within k pt
      → Land code n k (λ v l1. frame f last l1 ops
      ∷ rest) (exits true (last + 1) p ops) (frame f (p + 1) pt.locals ops
      ∷ rest) pt.state pt.stores (body pt))
      → (m k : ℕ) → k < m → m ≤ bound → (pt : Point) → Within k pt
      → Land code n k (λ v l1. frame f (last + 1) l1 ops
      ∷ rest) (exits in_loop out before ops) (frame f p pt.locals ops
      ∷ rest) pt.state pt.stores (rounds m place always body pt)
  unfolding is_zero
  endless_land bound in_loop out before p last place ops body at_turn at_jump bodies
      zero k lt top pt le = absurd (omega arith)
  endless_land bound in_loop out before p last place ops body at_turn at_jump bodies
      (suc m) k lt top pt le =
      turned place k le (does at_turn) (λ s2 i is le2 d2.
      next d2 (more (omega arith) (record {
        so = round_so i in_loop out before (last + 1) p last ops _ s2 pt.stores
            (body (with_state pt s2)) (rounds m place always body)
            (bodies i (omega arith) (with_state pt s2) le2).so
            (λ pt3 le3. next (does at_jump)
            (endless_land bound in_loop out before p last place ops body at_turn at_jump
            bodies m i (omega arith) (omega arith) pt3 le3))
            (λ pt3 le3.
            endless_land bound in_loop out before p last place ops body at_turn at_jump
            bodies m i (omega arith) (omega arith) pt3 le3);
      })))

  -- a round of a `repeat`, whose body has the count beneath; at the loop's end the count is dropped
  round_left_so : (k : ℕ) (in_loop : Bool) (out before end again : ℕ) (place : Place)
      (left : Datum) (ops : List Datum) (fs : List Frame) (s : State) (ws : List Store)
      (e : Outcome Nothing) (more_rounds : Point → Outcome Nothing)
      → step_at code f end ≡ Some (at Drop place)
      → Lands code n k (λ v l1. frame f again l1 (left ∷ ops)
      ∷ rest) (exits true end again (left ∷ ops)) fs s ws e
      → ((pt : Point) → Within k pt → Land code n k (λ v l1. frame f (end + 1) l1 ops
      ∷ rest) (exits in_loop out before ops) (frame f again pt.locals (left ∷ ops)
      ∷ rest) pt.state pt.stores (more_rounds pt))
      → Lands code n k (λ v l1. frame f (end + 1) l1 ops
      ∷ rest) (exits in_loop out before ops) fs s ws (round_end e more_rounds)
  round_left_so k in_loop out before end again place left ops fs s ws (Done v pt) go at_drop h g =
      after_so k (λ v l1. frame f (end + 1) l1 ops
      ∷ rest) (exits in_loop out before ops) (go pt) h.1 (g pt h.0).so
  round_left_so k in_loop out before end again place left ops fs s ws
      (Left Broken pt) go at_drop h g = (
        h.3,
        goes_on (subst (λ fs1. Goes code n fs s ws fs1 pt.state pt.stores) h.1.1 h.2)
            (goes (does at_drop)),
      )
  round_left_so k in_loop out before end again place left ops fs s ws
      (Left Continued pt) go at_drop h g =
      after_so k (λ v l1. frame f (end + 1) l1 ops
      ∷ rest) (exits in_loop out before ops) (go pt)
      (subst (λ fs1. Goes code n fs s ws fs1 pt.state pt.stores) h.1.1 h.2) (g pt h.3).so
  round_left_so k in_loop out before end again place left ops fs s ws
      (Left (Returned v) pt) go at_drop h g = h
  round_left_so k in_loop out before end again place left ops fs s ws
      (Asks q at_q s1) go at_drop h g = h
  round_left_so k in_loop out before end again place left ops fs s ws
      (Trapped t at_t s1) go at_drop h g = h
  round_left_so k in_loop out before end again place left ops fs s ws Wrong go at_drop h g = h

  -- the rounds of a `repeat`: from the place p on the count is tested, and from the place count on
  -- it
  -- is lowered
  pub rounds_left_land : (bound : ℕ) (in_loop : Bool) (out before p count : ℕ) (place : Place)
      (ops : List Datum) (body : Point → Outcome Nothing)
      → step_at code f p ≡ Some (at Dup place)
      → step_at code f (p + 1) ≡ Some (at (Int (pos 0)) place)
      → step_at code f (p + 1 + 1) ≡ Some (at (Op2 GtIntInt) place)
      → step_at code f (p + 1 + 1 + 1) ≡ Some (at (JumpZero (count + 1 + 1 + 1)) place)
      → step_at code f (p + 1 + 1 + 1 + 1) ≡ Some (at Turn place)
      → step_at code f count ≡ Some (at (Int (pos 1)) place)
      → step_at code f (count + 1) ≡ Some (at (Op2 SubIntInt) place)
      → step_at code f (count + 1 + 1) ≡ Some (at (Jump p) place)
      → step_at code f (count + 1 + 1 + 1) ≡ Some (at Drop place)
      → ((left : Datum) (k : ℕ) → k < bound → (pt : Point) → Within k pt
      → Land code n k (λ v l1. frame f count l1 (left ∷ ops)
      ∷ rest) (exits true (count + 1 + 1 + 1) count (left
      ∷ ops)) (frame f (p + 1 + 1 + 1 + 1 + 1) pt.locals (left ∷ ops)
      ∷ rest) pt.state pt.stores (body pt))
      → (m k : ℕ) → k < m → m ≤ bound → (left : Datum) (pt : Point) → Within k pt
      → Land code n k (λ v l1. frame f (count + 1 + 1 + 1 + 1) l1 ops
      ∷ rest) (exits in_loop out before ops) (frame f p pt.locals (left ∷ ops)
      ∷ rest) pt.state pt.stores (rounds_left m place left body pt)
  rounds_left_land bound in_loop out before p count place ops body at_dup at_none at_more at_test
      at_turn at_one at_fewer at_jump at_drop bodies zero k lt top left pt le = absurd (omega arith)
  rounds_left_land bound in_loop out before p count place ops body at_dup at_none at_more at_test
      at_turn at_one at_fewer at_jump at_drop bodies (suc m) k lt top left pt le =
      next (does at_dup) (next (does at_none) (after_try _ _ _ (does at_more) (λ has_more d.
      next d (after_try _ _ _ (does at_test) (λ ends d0. picked ends d0
      (λ d1. next d1 (next (does at_drop) (here tt pt le)))
      (λ d1. next d1 (turned place k le (does at_turn) (λ s2 i is le2 d2.
      next d2 (more {j = i} (omega arith) (record {
        so = round_left_so i in_loop out before (count + 1 + 1 + 1) count place left ops _ s2
            pt.stores (body (with_state pt s2)) (λ pt1.
            try (binary SubIntInt left (AnInt (pos 1))) place pt1.state (λ fewer.
            rounds_left m place fewer body pt1)) at_drop
            (bodies left i (omega arith) (with_state pt s2) le2).so
            (λ pt3 le3. next (does at_one) (after_try _ _ _ (does at_fewer) (λ fewer d3.
            next d3 (next (does at_jump)
            (rounds_left_land bound in_loop out before p count place ops body at_dup at_none
            at_more at_test at_turn at_one at_fewer at_jump at_drop bodies m i (omega arith)
            (omega arith) fewer pt3 le3)))));
      }))))))))))
