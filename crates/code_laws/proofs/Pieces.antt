-- Each jump back of the scheme's code has a turn between, which no jump passes by. The code is made
-- of pieces: of parts one after another, of choices and of loops.
use Rattle.std.proofs.Common.{◌≡◌, ℕ, ◌+◌, ◌<◌, ◌≤◌, ◌⊎◌, inl, inr, List, [], ◌∷◌, ◌++◌, length, Some, refl, sym, subst, arith, Bool, true, false, IsTrue}
use Rattle.std.proofs.lemmas.Bool.{cases_lt}
use Rattle.std.specs.Prelude.{slice_get}
use Rattle.ck_typed.specs.WellFormed.{FoundWhere}
use Rattle.ck_code.specs.declared.instr.Instr.TheVariants.{Turn}
use Rattle.ck_code.specs.declared.code.Step.{Step}
use Rattle.ck_code.specs.Verified.{JumpsTo, HasJump, HasTurnBetween}

-- a jump stays between two places, or leaves the loop's body
abbrev pub Stays : (in_loop : Bool) → (out again low high : ℕ) → ℕ → ℕ → Type 0
Stays in_loop out again low high from to =
    ((low ≤ to) × (to ≤ high)) ⊎ (IsTrue in_loop × ((to ≡ out) ⊎ (to ≡ again)))

wider : (in_loop : Bool) (out again a b c d : ℕ) → c ≤ a → b ≤ d → (from to : ℕ)
    → Stays in_loop out again a b from to → Stays in_loop out again c d from to
wider in_loop out again a b c d le1 le2 from to (inl h) =
    inl (omega (arith, h.0), omega (arith, h.1))
wider in_loop out again a b c d le1 le2 from to (inr h) = inr h

-- the loop's own body, seen from around it
pub inner_stays : (in_loop : Bool) (out again low high a b end start : ℕ) → low ≤ a → b ≤ high
    → low ≤ end → end ≤ high → low ≤ start → start ≤ high → (from to : ℕ)
    → Stays true end start a b from to → Stays in_loop out again low high from to
inner_stays in_loop out again low high a b end start l1 l2 l3 l4 l5 l6 from to (inl h) =
    inl (omega (arith, h.0), omega (arith, h.1))
inner_stays in_loop out again low high a b end start l1 l2 l3 l4 l5 l6 from to (inr (t, inl e)) =
    inl (omega (arith, e), omega (arith, e))
inner_stays in_loop out again low high a b end start l1 l2 l3 l4 l5 l6 from to (inr (t, inr e)) =
    inl (omega (arith, e), omega (arith, e))

module _ (w : List Step) where
  -- these steps stand in the code from a place on
  abbrev pub At : ℕ → List Step → Type 0
  At p [] = Unit {0}
  At p (step ∷ steps) = (slice_get w p ≡ Some step) × At (p + 1) steps

  pub at_split : (a b : List Step) (p q : ℕ) → p + length a ≡ q → At p (a ++ b)
      → (At p a) × (At q b)
  at_split [] b p q e h = let e1 : p ≡ q = omega arith in (tt, subst (λ n. At n b) e1 h)
  at_split (i ∷ a) b p q e h =
      let e1 : p + 1 + length a ≡ q = omega arith in
      let rest = at_split a b (p + 1) q e1 h.1 in
      ((h.0, rest.0), rest.1)

  -- the step at a place is the one that jumps
  pub one_jump : (p to : ℕ) (step : Step) → slice_get w p ≡ Some step → HasJump w p to
      → JumpsTo step.instr to
  one_jump p to step e h = subst (λ o. FoundWhere o (λ s. JumpsTo s.instr to)) e h

  -- no jump from outside these places lands strictly within them
  pub record Apart (p e : ℕ) : Type 0 where
    pub by : (f to : ℕ) → HasJump w f to → (f < p) ⊎ (e ≤ f) → (to ≤ p) ⊎ (e ≤ to)

  -- the loop around these places: its turn, which no jump passes by to them; a continue goes to the
  -- turn or to a place before it, or to a place after these
  pub record Loop (out again p e : ℕ) : Type 0 where
    pub q : ℕ
    pub after : (again ≤ q) ⊎ (e ≤ again)
    pub before : q < p
    pub turn : FoundWhere (slice_get w q) (λ step. step.instr ≡ Turn)
    pub above : e ≤ out
    pub earlier : (f to : ℕ) → HasJump w f to → f < q → q < to → e ≤ to
    pub later : (f to : ℕ) → HasJump w f to → e ≤ f → q < to → e ≤ to

  pub narrow_apart : (p e p2 e2 : ℕ) → p ≤ p2 → e2 ≤ e → Apart p e
      → ((f to : ℕ) → HasJump w f to → p ≤ f → f < e → (f < p2) ⊎ (e2 ≤ f) → (to ≤ p2) ⊎ (e2 ≤ to))
      → Apart p2 e2
  narrow_apart p e p2 e2 l1 l2 apart others = record {
    by = λ f to jump out.
        let widen : (to ≤ p) ⊎ (e ≤ to) → (to ≤ p2) ⊎ (e2 ≤ to) =
        λ r. elim r [
          | inl x ↦ inl (omega (arith, x, l1))
          | inr x ↦ inr (omega (
            arith,
            x,
            l2,
          ))
        ] in
        elim (cases_lt f p) [
          | inl low ↦ widen (apart.by f to jump (inl low))
          | inr not_low ↦ elim
              (cases_lt f e) [
                | inl within ↦ others f to jump not_low within out
                | inr high ↦ widen
                    (apart.by f to jump (inr high))
              ]
        ];
  }

  narrow_loop : (out again p e p2 e2 : ℕ) → p ≤ p2 → e2 ≤ e → (loop : Loop out again p e)
      → ((f to : ℕ) → HasJump w f to → e2 ≤ f → f < e → loop.q < to → e2 ≤ to)
      → Loop out again p2 e2
  narrow_loop out again p e p2 e2 l1 l2 loop others = record {
    q = loop.q;
    after = elim loop.after [ inl x ↦ inl x | inr x ↦ inr (omega (arith, x, l2)) ];
    before = omega (arith, loop.before, l1);
    turn = loop.turn;
    above = omega (arith, loop.above, l2);
    earlier =
        λ f to jump lt q_lt. let h : e ≤ to =
        loop.earlier f to jump lt q_lt in omega (arith, h, l2);
    later = λ f to jump le q_lt.
        elim (cases_lt f e) [
          | inl within ↦ others f to jump le within q_lt
          | inr high ↦
              (let h : e ≤ to = loop.later f to jump high q_lt in omega (arith, h, l2))
        ];
  }

  -- what stays within other places doesn't land strictly within these
  stays_apart : (in_loop : Bool) (out again low high p e p2 e2 from to : ℕ)
      → (IsTrue in_loop → Loop out again p e) → p ≤ p2 → e2 ≤ e → (high ≤ p2) ⊎ (e2 ≤ low)
      → Stays in_loop out again low high from to → (to ≤ p2) ⊎ (e2 ≤ to)
  stays_apart in_loop out again low high p e p2 e2 from to loop l1 l2 (inl below) (inl h) =
      inl (omega (arith, below, h.1))
  stays_apart in_loop out again low high p e p2 e2 from to loop l1 l2 (inr beyond) (inl h) =
      inr (omega (arith, beyond, h.0))
  stays_apart in_loop out again low high p e p2 e2 from to loop l1 l2 side (inr (t, inl is)) =
      let up = (loop t).above in inr (omega (arith, up, l2, is))
  stays_apart in_loop out again low high p e p2 e2 from to loop l1 l2 side (inr (t, inr is)) =
      let b = (loop t).before in
      elim (loop t).after [
        | inl a ↦ inl (omega (arith, a, b, l1, is))
        | inr a ↦ inr (omega (arith, a, l2, is))
      ]

  -- a later part's jump past the turn lands after these places
  stays_later : (in_loop : Bool) (out again low high p e e2 from to : ℕ) (loop : Loop out again p e)
      → e2 ≤ e → e2 ≤ low → loop.q < to → Stays in_loop out again low high from to → e2 ≤ to
  stays_later in_loop out again low high p e e2 from to loop l2 l3 lt (inl h) =
      omega (arith, l3, h.0)
  stays_later in_loop out again low high p e e2 from to loop l2 l3 lt (inr (t, inl is)) =
      omega (arith, loop.above, l2, is)
  stays_later in_loop out again low high p e e2 from to loop l2 l3 lt (inr (t, inr is)) =
      elim loop.after [
        | inl a ↦ absurd (omega (arith, a, lt, is))
        | inr a ↦ omega (arith, a, l2, is)
      ]

  -- a continue's jump back
  continue_turn : (out again p : ℕ) → again ≤ p → Loop out again p (p + 1)
      → HasTurnBetween w again p
  continue_turn out again p back loop = record {
    q = loop.q;
    after = elim loop.after [ inl a ↦ a | inr a ↦ absurd (omega (arith, a, back)) ];
    before = loop.before;
    turn = loop.turn;
    only = λ f to jump q_lt to_le. (
      elim (cases_lt f loop.q) [
        | inl under ↦
            (let h : p + 1 ≤ to = loop.earlier f to jump under q_lt in
            absurd (omega (arith, h, to_le)))
        | inr x ↦ x
      ],
      elim (cases_lt p f) [
        | inl past ↦ (let h : p + 1 ≤ to = loop.later f to jump (omega (
          arith,
          past,
        )) q_lt in absurd (omega (arith, h, to_le)))
        | inr x ↦ x
      ],
    );
  }

  -- a piece of code: its jumps stay in it, or leave the loop around it, and each jump back has a
  -- turn between, where no jump from outside lands strictly within it
  pub record Piece (in_loop : Bool) (out again a b : ℕ) : Type 0 where
    pub le : a ≤ b
    pub stays : (f to : ℕ) → a ≤ f → f < b → HasJump w f to → Stays in_loop out again a b f to
    pub turns : Apart a b → (IsTrue in_loop → Loop out again a b) → (f to : ℕ) → a ≤ f → f < b
        → HasJump w f to → to ≤ f → HasTurnBetween w to f

  -- a piece that is in no loop
  abbrev pub Closed : (a b : ℕ) → Type 0
  Closed a b = Piece false 0 0 a b

  closed_stays : (a b f to : ℕ) → Stays false 0 0 a b f to → (a ≤ to) × (to ≤ b)
  closed_stays a b f to (inl h) = h
  closed_stays a b f to (inr h) = absurd (cc h.0)

  closed : {a b : ℕ} → Closed a b → (f to : ℕ) → a ≤ f → f < b → HasJump w f to
      → (a ≤ to) × (to ≤ b)
  closed {a} {b} c f to le lt jump = closed_stays a b f to (c.stays f to le lt jump)

  pub lifted : (in_loop : Bool) (out again a b : ℕ) → Closed a b → Piece in_loop out again a b
  lifted in_loop out again a b c = record {
    le = c.le;
    stays = λ f to le lt jump. inl (closed c f to le lt jump);
    turns = λ apart loop. c.turns apart (λ never. absurd (cc never));
  }

  -- nothing
  pub nothing : (in_loop : Bool) (out again p : ℕ) → Piece in_loop out again p p
  nothing in_loop out again p = record {
    le = omega arith;
    stays = λ f to le lt jump. absurd (omega (arith, le, lt));
    turns = λ apart loop f to le lt jump back. absurd (omega (arith, le, lt));
  }

  -- a step that doesn't jump
  pub plain : (in_loop : Bool) (out again p : ℕ) → ((to : ℕ) → HasJump w p to → ⊥)
      → Piece in_loop out again p (p + 1)
  plain in_loop out again p none = record {
    le = omega arith;
    stays = λ f to le lt jump. let is : p ≡ f =
        omega (arith, le, lt) in absurd (none to (subst (λ x. HasJump w x to) (sym is) jump));
    turns = λ apart loop f to le lt jump back. let is : p ≡ f =
        omega (arith, le, lt) in absurd (none to (subst (λ x. HasJump w x to) (sym is) jump));
  }

  -- a break, and a continue
  pub breaks : (out again p : ℕ) → ((to : ℕ) → HasJump w p to → out ≡ to)
      → Piece true out again p (p + 1)
  breaks out again p jumps = record {
    le = omega arith;
    stays = λ f to le lt jump. let is : p ≡ f =
        omega (arith, le, lt) in inr (
          refl,
          inl (sym (jumps to (subst (λ x. HasJump w x to) (sym is) jump))),
        );
    turns = λ apart loop f to le lt jump back.
        let is_p : p ≡ f = omega (arith, le, lt) in
        let is : out ≡ to = jumps to (subst (λ x. HasJump w x to) (sym is_p) jump) in
        let up = (loop refl).above in
        absurd (omega (arith, is, up, back, is_p));
  }

  pub continues : (out again p : ℕ) → ((to : ℕ) → HasJump w p to → again ≡ to)
      → Piece true out again p (p + 1)
  continues out again p jumps = record {
    le = omega arith;
    stays = λ f to le lt jump. let is : p ≡ f =
        omega (arith, le, lt) in inr (
          refl,
          inr (sym (jumps to (subst (λ x. HasJump w x to) (sym is) jump))),
        );
    turns = λ apart loop f to le lt jump back.
        let is_p : p ≡ f = omega (arith, le, lt) in
        let is : again ≡ to = jumps to (subst (λ x. HasJump w x to) (sym is_p) jump) in
        subst (λ x. HasTurnBetween w x f) is
        (subst (λ x. HasTurnBetween w again x) is_p
        (continue_turn out again p (omega (arith, is, is_p, back)) (loop refl)));
  }

  -- two pieces, one after the other
  pub joined : (in_loop : Bool) (out again p e1 e : ℕ) → Piece in_loop out again p e1
      → Piece in_loop out again e1 e → Piece in_loop out again p e
  joined in_loop out again p e1 e t rest = record {
    le = omega (arith, t.le, rest.le);
    stays = λ f to le lt jump. elim (cases_lt f e1) [
      | inl y ↦ wider in_loop out again p e1 p e (omega arith) rest.le f to (t.stays f to le y jump)
      | inr y ↦ wider in_loop out again e1 e p e t.le (omega arith) f to (rest.stays f to y lt jump)
    ];
    turns = λ apart loop f to le lt jump back.
        let l1 : p ≤ e1 = t.le in
        let l2 : e1 ≤ e = rest.le in
        let apart_t : Apart p e1 = narrow_apart p e p e1 (omega arith) l2 apart (λ x to2 j g i o.
        elim o [
          | inl y ↦ absurd (omega (
            arith,
            g,
            y,
          ))
          | inr y ↦ stays_apart in_loop out again e1 e p e p e1 x to2 loop (omega arith) l2
              (inr (omega arith)) (rest.stays x to2 y i j)
        ]) in
        let apart_rest : Apart e1 e = narrow_apart p e e1 e l1 (omega arith) apart (λ x to2 j g i o.
        elim o [
          | inl y ↦ stays_apart in_loop out again p e1 p e e1 e x to2 loop l1 (omega arith)
              (inl (omega arith)) (t.stays x to2 g y j)
          | inr y ↦ absurd (omega (arith, y, i))
        ]) in
        let loop_t : IsTrue in_loop → Loop out again p e1 =
        λ tr. narrow_loop out again p e p e1 (omega arith) l2 (loop tr) (λ x to2 j g i q_lt.
        stays_later in_loop out again e1 e p e e1 x to2 (loop tr) l2 (omega arith) q_lt
        (rest.stays x to2 g i j)) in
        let loop_rest : IsTrue in_loop → Loop out again e1 e =
        λ tr. narrow_loop out again p e e1 e l1 (omega arith) (loop tr) (λ x to2 j g i q_lt.
        absurd (omega (arith, g, i))) in
        elim (cases_lt f e1) [
          | inl y ↦ t.turns apart_t loop_t f to le y jump back
          | inr y ↦ rest.turns apart_rest loop_rest f to y lt jump back
        ];
  }

  -- a test, and two pieces of which one is gone through
  pub chosen : (in_loop : Bool) (out again p m m1 e : ℕ) → Closed p m
      → Piece in_loop out again (m + 1) m1 → Piece in_loop out again (m1 + 1) e
      → ((t : ℕ) → HasJump w m t → m1 + 1 ≡ t) → ((t : ℕ) → HasJump w m1 t → e ≡ t)
      → Piece in_loop out again p e
  chosen in_loop out again p m m1 e c a b at_test at_jump =
      let first = m + 1 in
      let second = m1 + 1 in
      let l1 : p ≤ m = c.le in
      let l2 : first ≤ m1 = a.le in
      let l3 : second ≤ e = b.le in
      let at_m : (x t : ℕ) → m ≡ x → HasJump w x t → second ≡ t =
      λ x t is j. at_test t (subst (λ y. HasJump w y t) (sym is) j) in
      let at_m1 : (x t : ℕ) → m1 ≡ x → HasJump w x t → e ≡ t =
      λ x t is j. at_jump t (subst (λ y. HasJump w y t) (sym is) j) in
      record {
        le = omega (arith, l1, l2, l3);
        stays = λ f to le lt jump. elim (cases_lt f m) [
          | inl y ↦ (let h = closed c f to le y jump in inl (h.0, omega (arith, h.1, l2, l3)))
          | inr y ↦ elim (cases_lt m f) [
            | inr z ↦ (let is : second ≡ to = at_m f to (omega (arith, y, z)) jump in
                inl (omega (arith, is, l1, l2), omega (arith, is, l3)))
            | inl z ↦ elim (cases_lt f m1) [
              | inl u ↦ wider in_loop out again first m1 p e (omega (arith, l1)) (omega (
                arith,
                l3,
              )) f to (a.stays f to (omega (arith, z)) u jump)
              | inr u ↦ elim (cases_lt m1 f) [
                | inr v ↦ (let is : e ≡ to = at_m1 f to (omega (arith, u, v)) jump in
                    inl (omega (arith, is, l1, l2, l3), omega (arith, is)))
                | inl v ↦ wider in_loop out again second e p e (omega (arith, l1, l2))
                    (omega arith) f to (b.stays f to (omega (arith, v)) lt jump)
              ]
            ]
          ]
        ];
        turns = λ apart loop f to le lt jump back.
            let apart_c : Apart p m = narrow_apart p e p m (omega arith) (omega (
              arith,
              l2,
              l3,
            )) apart (λ x t j g i o.
            elim (cases_lt m x) [
              | inr z ↦ elim o [
                | inl v ↦ absurd (omega (arith, v, g))
                | inr v ↦
                    (let is : second ≡ t = at_m x t (omega (arith, v, z)) j in
                    inr (omega (arith, is, l2)))
              ]
              | inl z ↦ elim (cases_lt x m1) [
                | inl u ↦ stays_apart in_loop out again first m1 p e p m x t loop (omega arith)
                    (omega (arith, l2, l3)) (inr (omega arith)) (a.stays x t (omega (arith, z)) u j)
                | inr u ↦ elim (cases_lt m1 x) [
                  | inr v ↦ (let is : e ≡ t = at_m1 x t (omega (arith, u, v)) j in
                      inr (omega (arith, is, l2, l3)))
                  | inl v ↦ stays_apart in_loop out again second e p e p m x t loop (omega arith)
                      (omega (arith, l2, l3)) (inr (omega (arith, l2)))
                      (b.stays x t (omega (arith, v)) i j)
                ]
              ]
            ]) in
            let apart_a : Apart first m1 = narrow_apart p e first m1 (omega (arith, l1))
            (omega (arith, l3)) apart (λ x t j g i o.
            elim (cases_lt x m) [
              | inl y ↦ (let h = closed c x t g y j in inl (omega (arith, h.1)))
              | inr y ↦
                  elim (cases_lt m x) [
                    | inr z ↦ (let is : second ≡ t = at_m x t (omega (arith, y, z)) j in
                        inr (omega (arith, is)))
                    | inl z ↦
                        elim (cases_lt x m1) [
                          | inl u ↦ elim o [
                            | inl v ↦ absurd (omega (arith, v, z))
                            | inr v ↦ absurd
                                (omega (arith, u, v))
                          ]
                          | inr u ↦
                              elim (cases_lt m1 x) [
                                | inr v ↦ (let is : e ≡ t = at_m1 x t (omega (arith, u, v)) j in
                                    inr (omega (arith, is, l3)))
                                | inl v ↦ stays_apart in_loop out again second e p e first m1 x t
                                    loop (omega (arith, l1)) (omega (arith, l3)) (inr (omega arith))
                                    (b.stays x t (omega (arith, v)) i j)
                              ]
                        ]
                  ]
            ]) in
            let apart_b : Apart second e = narrow_apart p e second e (omega (arith, l1, l2))
            (omega arith) apart (λ x t j g i o.
            elim (cases_lt x m) [
              | inl y ↦ (let h = closed c x t g y j in inl (omega (arith, h.1, l2)))
              | inr y ↦
                  elim (cases_lt m x) [
                    | inr z ↦ (let is : second ≡ t = at_m x t (omega (arith, y, z)) j in
                        inl (omega (arith, is)))
                    | inl z ↦
                        elim (cases_lt x m1) [
                          | inl u ↦ stays_apart in_loop out again first m1 p e second e x t loop
                              (omega (arith, l1, l2)) (omega arith) (inl (omega arith))
                              (a.stays x t (omega (arith, z)) u j)
                          | inr u ↦
                              elim (cases_lt m1 x) [
                                | inr v ↦ (let is : e ≡ t = at_m1 x t (omega (arith, u, v)) j in
                                    inr (omega (arith, is)))
                                | inl v ↦ elim o [
                                  | inl k ↦ absurd (omega (
                                    arith,
                                    k,
                                    v,
                                  ))
                                  | inr k ↦ absurd (omega (arith, k, i))
                                ]
                              ]
                        ]
                  ]
            ]) in
            let loop_a : IsTrue in_loop → Loop out again first m1 =
            λ t. narrow_loop out again p e first m1 (omega (arith, l1)) (omega (arith, l3))
            (loop t) (λ x to2 j g i q_lt.
            elim (cases_lt m1 x) [
              | inr v ↦ (let is : e ≡ to2 = at_m1 x to2 (omega (arith, g, v)) j in
                  omega (arith, is, l3))
              | inl v ↦ stays_later in_loop out again second e p e m1 x to2 (loop t) (omega (
                arith,
                l3,
              )) (omega arith) q_lt (b.stays x to2 (omega (arith, v)) i j)
            ]) in
            let loop_b : IsTrue in_loop → Loop out again second e =
            λ t. narrow_loop out again p e second e (omega (arith, l1, l2)) (omega arith)
            (loop t) (λ x to2 j g i q_lt. absurd (omega (arith, g, i))) in
            elim (cases_lt f m) [
              | inl y ↦ c.turns apart_c (λ never. absurd (cc never)) f to le y jump back
              | inr y ↦
                  elim (cases_lt m f) [
                    | inr z ↦ (let is : second ≡ to = at_m f to (omega (arith, y, z)) jump in
                        absurd (omega (arith, is, back, z, l2)))
                    | inl z ↦
                        elim (cases_lt f m1) [
                          | inl u ↦ a.turns apart_a loop_a f to (omega (arith, z)) u jump back
                          | inr u ↦
                              elim (cases_lt m1 f) [
                                | inr v ↦ (let is : e
                                    ≡ to = at_m1 f to (omega (arith, u, v)) jump in
                                    absurd (omega (arith, is, back, v, l3)))
                                | inl v ↦ b.turns apart_b loop_b f to (omega (
                                  arith,
                                  v,
                                )) lt jump back
                              ]
                        ]
                  ]
            ];
      }

  -- the jumps of a loop's own steps
  own_turns : (p m first last e : ℕ) → first ≡ m + 1 + 1 → e ≡ last + 1 → first ≤ last → Closed p m
      → ((t : ℕ) → HasJump w m t → e ≡ t) → FoundWhere (slice_get w (m + 1)) (λ step. step.instr
      ≡ Turn) → ((t : ℕ) → HasJump w last t → p ≡ t) → Apart p e
      → Loop e p first last × HasTurnBetween w p last
  own_turns p m first last e is_first is_e le c at_test turn at_jump apart =
      let low : p ≤ m = c.le in
      let before : (f to : ℕ) → HasJump w f to → f < m + 1 → m + 1 < to → e ≤ to =
      λ f to jump lt q_lt.
      elim (cases_lt f p) [
        | inl under ↦ elim (apart.by f to jump (inl under)) [
          | inl x ↦ absurd (omega (
            arith,
            x,
            low,
            q_lt,
          ))
          | inr x ↦ x
        ]
        | inr over ↦ elim (cases_lt f m) [
          | inl inside ↦ (let h = closed c f to over inside jump in
              absurd (omega (arith, h.1, q_lt)))
          | inr at_m ↦ (let is_m : m ≡ f = omega (arith, at_m, lt) in let target : e
              ≡ to = at_test to (subst (λ x. HasJump w x to) (sym is_m) jump) in
              omega (arith, target))
        ]
      ] in
      let beyond : (f to : ℕ) → HasJump w f to → e ≤ f → m + 1 < to → e ≤ to = λ f to jump le q_lt.
      elim (apart.by f to jump (inr le)) [
        | inl x ↦ absurd (omega (
          arith,
          x,
          low,
          q_lt,
        ))
        | inr x ↦ x
      ] in (
        record {
          q = m + 1;
          after = inl (omega (arith, low));
          before = omega (arith, is_first);
          turn = turn;
          above = omega (arith, is_e);
          earlier =
              λ f to jump lt q_lt. let h : e ≤ to =
              before f to jump lt q_lt in omega (arith, h, is_e);
          later = λ f to jump le_f q_lt. elim (cases_lt last f) [
            | inl past ↦ (let h : e ≤ to = beyond f to jump (omega (arith, past, is_e)) q_lt in
                omega (arith, h, is_e))
            | inr at_last ↦ (let is_last : last ≡ f = omega (arith, at_last, le_f) in let target : p
                ≡ to = at_jump to (subst (λ x. HasJump w x to) (sym is_last) jump) in
                absurd (omega (arith, target, low, q_lt)))
          ];
        },
        record {
          q = m + 1;
          after = omega (arith, low);
          before = omega (arith, is_first, le);
          turn = turn;
          only = λ f to jump q_lt to_le. (
            elim (cases_lt f (m + 1)) [
              | inl under ↦
                  (let h : e ≤ to = before f to jump under q_lt in
                  absurd (omega (arith, h, is_e, to_le)))
              | inr x ↦ x
            ],
            elim (cases_lt last f) [
              | inl past ↦
                  (let h : e ≤ to = beyond f to jump (omega (arith, past, is_e)) q_lt in
                  absurd (omega (arith, h, is_e, to_le)))
              | inr x ↦ x
            ],
          );
        },
      )

  -- a test, a turn, a body and a jump back to the test
  pub looped : (in_loop : Bool) (out again p m last : ℕ) → Closed p m
      → Piece true (last + 1) p (m + 1 + 1) last → ((t : ℕ) → HasJump w m t → last + 1 ≡ t)
      → FoundWhere (slice_get w (m + 1)) (λ step. step.instr ≡ Turn)
      → ((t : ℕ) → HasJump w (m + 1) t → ⊥) → ((t : ℕ) → HasJump w last t → p ≡ t)
      → Piece in_loop out again p (last + 1)
  looped in_loop out again p m last c body at_test turn no_jump at_jump =
      let first = m + 1 + 1 in
      let e = last + 1 in
      let l1 : p ≤ m = c.le in
      let l2 : first ≤ last = body.le in
      let at_m : (x t : ℕ) → m ≡ x → HasJump w x t → e ≡ t =
      λ x t is j. at_test t (subst (λ y. HasJump w y t) (sym is) j) in
      let at_turn : (x t : ℕ) → m + 1 ≡ x → HasJump w x t → ⊥ =
      λ x t is j. no_jump t (subst (λ y. HasJump w y t) (sym is) j) in
      let at_last : (x t : ℕ) → last ≡ x → HasJump w x t → p ≡ t =
      λ x t is j. at_jump t (subst (λ y. HasJump w y t) (sym is) j) in
      record {
        le = omega (arith, l1, l2);
        stays = λ f to le lt jump. elim (cases_lt f m) [
          | inl y ↦ (let h = closed c f to le y jump in inl (h.0, omega (arith, h.1, l2)))
          | inr y ↦ elim (cases_lt m f) [
            | inr z ↦ (let is : e ≡ to = at_m f to (omega (arith, y, z)) jump in
                inl (omega (arith, is, l1, l2), omega (arith, is)))
            | inl z ↦ elim (cases_lt f first) [
              | inl u ↦ absurd (at_turn f to (omega (arith, z, u)) jump)
              | inr u ↦ elim (cases_lt f last) [
                | inl v ↦ inner_stays in_loop out again p e first last e p (omega (arith, l1))
                    (omega arith) (omega (arith, l1, l2)) (omega arith) (omega arith) (omega (
                      arith,
                      l1,
                      l2,
                    )) f to (body.stays f to u v jump)
                | inr v ↦ (let is : p ≡ to = at_last f to (omega (arith, v, lt)) jump in
                    inl (omega (arith, is), omega (arith, is, l1, l2)))
              ]
            ]
          ]
        ];
        turns = λ apart loop f to le lt jump back.
            let own = own_turns p m first last e refl refl l2 c at_test turn at_jump apart in
            let apart_c : Apart p m = narrow_apart p e p m (omega arith) (omega (arith, l2)) apart
            (λ x t j g i o.
            elim (cases_lt m x) [
              | inr z ↦ elim o [
                | inl v ↦ absurd (omega (arith, v, g))
                | inr v ↦
                    (let is : e ≡ t = at_m x t (omega (arith, v, z)) j in
                    inr (omega (arith, is, l2)))
              ]
              | inl z ↦ elim (cases_lt x first) [
                | inl u ↦ absurd (at_turn x t (omega (arith, z, u)) j)
                | inr u ↦ elim (cases_lt x last) [
                  | inl v ↦ elim (body.stays x t u v j) [
                    | inl h ↦ inr (omega (
                      arith,
                      h.0,
                    ))
                    | inr h ↦ elim h.1 [
                      | inl is ↦ inr (omega (arith, is, l2))
                      | inr is ↦ inl
                          (omega (arith, is))
                    ]
                  ]
                  | inr v ↦ (let is : p ≡ t = at_last x t (omega (arith, v, i)) j in
                      inl (omega (arith, is)))
                ]
              ]
            ]) in
            let apart_body : Apart first last =
            narrow_apart p e first last (omega (arith, l1)) (omega arith) apart (λ x t j g i o.
            elim (cases_lt x m) [
              | inl y ↦ (let h = closed c x t g y j in inl (omega (arith, h.1)))
              | inr y ↦
                  elim (cases_lt m x) [
                    | inr z ↦ (let is : e ≡ t = at_m x t (omega (arith, y, z)) j in
                        inr (omega (arith, is)))
                    | inl z ↦
                        elim o [
                          | inl u ↦ absurd (at_turn x t (omega (arith, z, u)) j)
                          | inr u ↦
                              (let is : p ≡ t = at_last x t (omega (arith, u, i)) j in
                              inl (omega (arith, is, l1)))
                        ]
                  ]
            ]) in
            elim (cases_lt f m) [
              | inl y ↦ c.turns apart_c (λ never. absurd (cc never)) f to le y jump back
              | inr y ↦
                  elim (cases_lt m f) [
                    | inr z ↦ (let is : e ≡ to = at_m f to (omega (arith, y, z)) jump in
                        absurd (omega (arith, is, back, z, l2)))
                    | inl z ↦
                        elim (cases_lt f first) [
                          | inl u ↦ absurd (at_turn f to (omega (arith, z, u)) jump)
                          | inr u ↦
                              elim (cases_lt f last) [
                                | inl v ↦ body.turns apart_body (λ t. own.0) f to u v jump back
                                | inr v ↦
                                    (let is_last : last ≡ f = omega (arith, v, lt) in let is : p
                                    ≡ to =
                                    at_last f to is_last jump in
                                    subst (λ x.
                                    HasTurnBetween w x f) is
                                    (subst (λ x. HasTurnBetween w p x) is_last own.1))
                              ]
                        ]
                  ]
            ];
      }
