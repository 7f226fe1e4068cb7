-- The order of pull is the same whatever the numbers are.
use Rattle.std.proofs.Common.{◌≡◌, ℕ, zero, suc, Bool, true, false, ◌||◌, ◌&&◌, nat_eq, cond, List, [], ◌∷◌, ◌++◌, length, map, refl, ap, sym, ◌∙◌, inl, inr, arith}
use Rattle.std.specs.List.{filter}
use Rattle.std.proofs.lemmas.Bool.Decides.{nat_tests}
use Rattle.ck_values.specs.declared.side.Side.{Side}
use Rattle.ugen_sample.specs.Connection.{Connection}
use Rattle.ugen_sample.specs.Renaming.{Renames, renamed, Ends}
use Rattle.ugen_sample.specs.Sample.{sources_by}
use Rattle.ugen_sample.specs.Order.{sources_of, is_among, visit_all, visit, order}
use Rattle.ugen_sample.proofs.Among.{either, equal, Each}
use Rattle.ugen_sample.proofs.Visits.{passed, entered}

-- those of some connections that pass a test, by where they come from
abbrev starts : List Connection → List ℕ
starts cs = map (λ c. c.from) cs

abbrev kept_if : (Connection → Bool) → List Connection → List Connection
kept_if test cs = filter (λ c. test c) cs

-- two visits that go alike, one of the numbers and one of their names
pub record Alike (f : ℕ → ℕ) (P : ℕ → Type 0) (now named : List ℕ) : Type 0 where
  pub same : named ≡ map f now
  pub inside : Each P now

push_in : (P : ℕ → Type 0) (ms : List ℕ) (n : ℕ) → Each P ms → P n → Each P (ms ++ n ∷ [])
push_in P [] n e p = (p, tt)
push_in P (m ∷ ms) n e p = (e.0, push_in P ms n e.1 p)

push_map : (f : ℕ → ℕ) (ms : List ℕ) (n : ℕ) → map f (ms ++ n ∷ []) ≡ map f ms ++ f n ∷ []
push_map f [] n = refl
push_map f (m ∷ ms) n = ap (λ (ks : List ℕ). f m ∷ ks) (push_map f ms n)

-- the ends of connections stay inside
pub sources_in : (P : ℕ → Type 0) (links : List Connection) (n : ℕ) → Ends P links
    → Each P (sources_of links n)
sources_in P [] n e = tt
sources_in P (l ∷ ls) n e =
    let T : Connection → Bool = λ c. nat_eq c.to n in
    elim (nat_eq l.to n) as (λ b. Each P (starts (cond b (l ∷ kept_if T ls) (kept_if T ls)))) [
      | true ↦ (e.0, sources_in P ls n e.2)
      | false ↦ sources_in P ls n e.2
    ]

-- and so do those on one side
pub by_in : (test : Side → Bool) (P : ℕ → Type 0) (links : List Connection) (n : ℕ)
    → Ends P links → Each P (sources_by test links n)
by_in test P [] n e = tt
by_in test P (l ∷ ls) n e =
    let T : Connection → Bool = λ c. nat_eq c.to n && test c.side in
    elim (nat_eq l.to n && test l.side)
    as (λ b. Each P (starts (cond b (l ∷ kept_if T ls) (kept_if T ls)))) [
      | true ↦ (e.0, by_in test P ls n e.2)
      | false ↦ by_in test P ls n e.2
    ]

module _ (f : ℕ → ℕ) (P : ℕ → Type 0) (r : Renames f P) where
  pub same_test : (m n : ℕ) → P m → P n → nat_eq (f m) (f n) ≡ nat_eq m n
  same_test m n p q =
      elim (either (nat_eq m n)) [
        | inl e ↦
            let t : f m ≡ f n = ap f (equal m n e) in
            let u : nat_eq (f m) (f n) ≡ true = grind (arith, nat_tests) in
            u ∙ sym e
        | inr e ↦
            elim (either (nat_eq (f m) (f n))) [
              | inl g ↦
                  let s = r.apart m n p q (equal (f m) (f n) g) in
                  absurd (let h : nat_eq m n ≡ true = grind (arith, nat_tests) in cc)
              | inr g ↦ g ∙ sym e
            ]
      ]

  among_same : (n : ℕ) (ms : List ℕ) → P n → Each P ms
      → is_among (f n) (map f ms) ≡ is_among n ms
  among_same n [] p e = refl
  among_same n (m ∷ ms) p e = rw (same_test m n e.0 p, among_same n ms p e.1) refl

  pub sources_same : (links : List Connection) (n : ℕ) → Ends P links → P n
      → sources_of (map (renamed f) links) (f n) ≡ map f (sources_of links n)
  sources_same [] n e p = refl
  sources_same (l ∷ ls) n e p =
      let T : Connection → Bool = λ c. nat_eq c.to n in
      let U : Connection → Bool = λ c. nat_eq c.to (f n) in
      let others = map (renamed f) ls in
      rw (same_test l.to n e.1 p) (elim (nat_eq l.to n)
      as (λ b. starts (cond b (renamed f l ∷ kept_if U others) (kept_if U others))
      ≡ map f (starts (cond b (l ∷ kept_if T ls) (kept_if T ls)))) [
        | true ↦ ap (λ (ms : List ℕ). f l.from ∷ ms) (sources_same ls n e.2 p)
        | false ↦ sources_same ls n e.2 p
      ])

  -- the same of those on one side
  pub by_same : (test : Side → Bool) (links : List Connection) (n : ℕ) → Ends P links → P n
      → sources_by test (map (renamed f) links) (f n) ≡ map f (sources_by test links n)
  by_same test [] n e p = refl
  by_same test (l ∷ ls) n e p =
      let T : Connection → Bool = λ c. nat_eq c.to n && test c.side in
      let U : Connection → Bool = λ c. nat_eq c.to (f n) && test c.side in
      let others = map (renamed f) ls in
      rw (same_test l.to n e.1 p) (elim (nat_eq l.to n && test l.side)
      as (λ b. starts (cond b (renamed f l ∷ kept_if U others) (kept_if U others))
      ≡ map f (starts (cond b (l ∷ kept_if T ls) (kept_if T ls)))) [
        | true ↦ ap (λ (ms : List ℕ). f l.from ∷ ms) (by_same test ls n e.2 p)
        | false ↦ by_same test ls n e.2 p
      ])

  all_alike : (v w : ℕ → List ℕ → List ℕ)
      → ((m : ℕ) → P m → (ps qs : List ℕ) → Alike f P ps qs → Alike f P (v m ps) (w (f m) qs))
      → (ms ps qs : List ℕ) → Each P ms → Alike f P ps qs
      → Alike f P (visit_all v ms ps) (visit_all w (map f ms) qs)
  all_alike v w step [] ps qs e a = a
  all_alike v w step (m ∷ ms) ps qs e a =
      all_alike v w step ms (v m ps) (w (f m) qs) e.1 (step m e.0 ps qs a)

  visit_alike : (links : List Connection) → Ends P links → (k : ℕ) (path : List ℕ)
      → Each P path → (n : ℕ) → P n → (ps qs : List ℕ) → Alike f P ps qs
      → Alike f P (visit k links path n ps) (visit k (map (renamed f) links) (map f path) (f n) qs)
  visit_alike links e zero path in_p n p ps qs a = a
  visit_alike links e (suc k) path in_p n p ps qs a =
      let others = map (renamed f) links in
      let test : is_among (f n) (map f path) || is_among (f n) qs
      ≡ is_among n path || is_among n ps =
      rw (a.same, among_same n path p in_p, among_same n ps p a.inside) refl in
      elim (either (is_among n path || is_among n ps)) [
        | inl on ↦
            rw (
              passed (suc k) links path n ps on,
              passed (suc k) others (map f path) (f n) qs (test ∙ on),
            ) a
        | inr off ↦
            let all = all_alike (visit k links (n ∷ path)) (visit k others (f n ∷ map f path))
            (λ m pm ps1 qs1 a1. visit_alike links e k (n ∷ path) (p, in_p) m pm ps1 qs1 a1)
            (sources_of links n) ps qs (sources_in P links n e) a in
            rw (
              entered k links path n ps off,
              entered k others (map f path) (f n) qs (test ∙ off),
              sources_same links n e p,
            )
            (record {
              same = ap (λ (ms : List ℕ). ms ++ f n ∷ []) all.same ∙ sym (push_map f _ n);
              inside = push_in P _ n all.inside p;
            })
      ]

  length_renamed : (links : List Connection) → length (map (renamed f) links) ≡ length links
  length_renamed [] = refl
  length_renamed (l ∷ ls) = ap suc (length_renamed ls)

  pub order_renamed : (links : List Connection) → Ends P links → (roots : List ℕ) → Each P roots
      → Alike f P (order roots links) (order (map f roots) (map (renamed f) links))
  unfolding order
  order_renamed links e roots in_r =
      let k = suc (suc (length links)) in
      rw (length_renamed links) (all_alike _ _
      (λ m p ps qs a. visit_alike links e k [] tt m p ps qs a) roots [] [] in_r
      (record { same = refl; inside = tt }))
