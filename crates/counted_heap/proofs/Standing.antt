-- Each call of the heap keeps that it stands for the objects of a plain one.
use Rattle.std.proofs.lemmas.Bool.Decides.{nat_tests}
use Rattle.std.proofs.lemmas.Bool.{cases_eq}
use Rattle.std.proofs.Common.{Bool, true, false, ◌≡◌, ◌≢◌, inl, inr, ℕ, zero, suc, ◌+◌, ◌-◌, ◌<◌, ◌≤◌, List, [], ◌∷◌, ◌++◌, length, length-append, set, Option, Some, None, refl, sym, ap, ◌∙◌, arith, subst}
use Rattle.std.specs.Prelude.{slice_get, nat_lt}
use Rattle.std.proofs.Math.ListN.{length-set}
use Rattle.ck_values.specs.declared.reference.Ref.{Ref}
use Rattle.counted_heap.specs.Places.{places}
use Rattle.object_heap.specs.declared.body.Body.{Body}
use Rattle.object_heap.specs.Objects.{Objects, values_of, with_body, next}
use Rattle.counted_heap.specs.Counted.{Counted, object, count, SameObjects, Rewrites, Makes, Takes, IsLawful}
use Rattle.counted_heap.specs.Stands.{numbered, Points, Leads, Step, More, IsDead, StandsFor}

abbrev pub Content : Counted → Objects → Type 0
Content h t = (r : Ref) (b : Body) → object h r ≡ Some b → numbered t r.serial ≡ Some b

-- a number of an object is one of those that were made
pub record Within (s : Objects) (n : ℕ) (b : Body) : Type 0 where
  pub first : s.first ≤ n
  pub last : n < next s
  pub at : slice_get s.bodies (n - s.first) ≡ Some b

get-within : (xs : List Body) (k : ℕ) (b : Body) → slice_get xs k ≡ Some b → k < length xs
get-within [] k b e = absurd (cc)
get-within (x ∷ xs) zero b e = omega arith
get-within (x ∷ xs) (suc k) b e = omega (arith, get-within xs k b e)

numbered-at : (s : Objects) (n : ℕ) → s.first ≤ n → numbered s n ≡ slice_get s.bodies (n - s.first)
numbered-at s n low = grind (arith, nat_tests)

numbered-low : (s : Objects) (n : ℕ) → n < s.first → numbered s n ≡ None
numbered-low s n low = grind (arith, nat_tests)

pub within : (s : Objects) (n : ℕ) (b : Body) → numbered s n ≡ Some b → Within s n b
within s n b e = by_bool (nat_lt n s.first) refl
  where
    by_bool : (x : Bool) → nat_lt n s.first ≡ x → Within s n b
    by_bool true low = let none = numbered-low s n (grind (arith, nat_tests)) in absurd (cc)
    by_bool false high =
        let low : s.first ≤ n = grind (arith, nat_tests) in
        let at = sym (numbered-at s n low) ∙ e in
        record {
          first = low;
          last = omega (arith, low, get-within s.bodies (n - s.first) b at);
          at = at;
        }

get-set-same : (xs : List Body) (k : ℕ) (x : Body) → k < length xs
    → slice_get (set xs k x) k ≡ Some x
get-set-same [] k x h = absurd (omega arith)
get-set-same (y ∷ ys) zero x h = refl
get-set-same (y ∷ ys) (suc k) x h = get-set-same ys k x (omega arith)

get-set-other : (xs : List Body) (j k : ℕ) (x : Body) → j ≢ k
    → slice_get (set xs k x) j ≡ slice_get xs j
get-set-other [] j k x h = refl
get-set-other (y ∷ ys) zero zero x h = absurd (h refl)
get-set-other (y ∷ ys) zero (suc k) x h = refl
get-set-other (y ∷ ys) (suc j) zero x h = refl
get-set-other (y ∷ ys) (suc j) (suc k) x h = get-set-other ys j k x (λ e. h (omega arith))

get-push-last : (xs : List Body) (x : Body) → slice_get (xs ++ x ∷ []) (length xs) ≡ Some x
get-push-last [] x = refl
get-push-last (y ∷ ys) x = get-push-last ys x

get-push-before : (xs : List Body) (k : ℕ) (x : Body) → k < length xs
    → slice_get (xs ++ x ∷ []) k ≡ slice_get xs k
get-push-before [] k x h = absurd (omega arith)
get-push-before (y ∷ ys) zero x h = refl
get-push-before (y ∷ ys) (suc k) x h = get-push-before ys k x (omega arith)

-- a plain heap with another body in the place of one
module _ (s : Objects) (at : Ref) (b c : Body) (was : Within s at.serial b) where
  with-same : numbered (with_body s at c) at.serial ≡ Some c
  with-same =
      numbered-at (with_body s at c) at.serial was.first
      ∙ get-set-same s.bodies (at.serial - s.first) c
      (get-within s.bodies (at.serial - s.first) b was.at)

  with-other : (n : ℕ) → n ≢ at.serial → numbered (with_body s at c) n ≡ numbered s n
  with-other n other = by_bool (nat_lt n s.first) refl
    where
      by_bool : (x : Bool) → nat_lt n s.first ≡ x → numbered (with_body s at c) n ≡ numbered s n
      by_bool true low =
          let l : n < s.first = grind (arith, nat_tests) in
          numbered-low (with_body s at c) n l ∙ sym (numbered-low s n l)
      by_bool false high =
          let l : s.first ≤ n = grind (arith, nat_tests) in
          numbered-at (with_body s at c) n l
          ∙ get-set-other s.bodies (n - s.first) (at.serial - s.first) c
          (λ e. other (omega (arith, l, was.first)))
          ∙ sym (numbered-at s n l)

abbrev pushed : Objects → Body → Objects
pushed s b = record s { bodies = s.bodies ++ b ∷ [] }

pushed-last : (s : Objects) (b : Body) (n : ℕ) → n ≡ next s → numbered (pushed s b) n ≡ Some b
pushed-last s b n is =
    let k : n - s.first ≡ length s.bodies = omega arith in
    numbered-at (pushed s b) n (omega arith)
    ∙ ap (slice_get (s.bodies ++ b ∷ [])) k
    ∙ get-push-last s.bodies b

pushed-before : (s : Objects) (b : Body) (n : ℕ) → n < next s
    → numbered (pushed s b) n ≡ numbered s n
pushed-before s b n before = by_bool (nat_lt n s.first) refl
  where
    by_bool : (x : Bool) → nat_lt n s.first ≡ x → numbered (pushed s b) n ≡ numbered s n
    by_bool true low =
        let l : n < s.first = grind (arith, nat_tests) in
        numbered-low (pushed s b) n l ∙ sym (numbered-low s n l)
    by_bool false high =
        let l : s.first ≤ n = grind (arith, nat_tests) in
        numbered-at (pushed s b) n l
        ∙ get-push-before s.bodies (n - s.first) b (omega arith)
        ∙ sym (numbered-at s n l)

-- what a live object refers to has a count
pub points_live : (h : Counted) (t : Objects) → IsLawful h → Content h t → (x m : ℕ) → Points t x m
    → (r : Ref) → r.serial ≡ x → (b : Body) → object h r ≡ Some b → (q : Ref) × (q.serial ≡ m)
    × (0 < count h q)
points_live h t law content x m points r same b e =
    let f : Some points.body ≡ Some b = sym points.at ∙ ap (numbered t) (sym same)
    ∙ content r b e in
    let g : points.body ≡ b = cc in
    let n = ap (λ (y : Body). places points.to (values_of y)) g in
    (points.to, points.number, omega (arith, law.fields r b e points.to, points.has))

-- what refers to a dead object is dead
from_dead : (h : Counted) (t : Objects) → IsLawful h → Content h t → (x m : ℕ) → Points t x m
    → IsDead h m → IsDead h x
from_dead h t law content x m points dead = λ r same. by_body r same (object h r) refl
  where
    by_body : (r : Ref) → r.serial ≡ x → (o : Option Body) → object h r ≡ o → object h r ≡ None
    by_body r same None e = e
    by_body r same (Some b) e =
        let n = points_live h t law content x m points r same b e in
        let live = law.live n.0 n.2 in
        let none = dead n.0 n.1 in
        absurd (cc)

-- a cycle through a dead object stood among the old objects
module _ (new : Counted) (s t : Objects) (law : IsLawful new) (content : Content new t)
    (kept : (x : ℕ) → IsDead new x → (b : Body) → numbered t x ≡ Some b
    → numbered s x ≡ Some b) where
  point_back : (x m : ℕ) → Points t x m → IsDead new x → Points s x m
  point_back x m p dead =
      record {
        body = p.body;
        at = kept x dead p.body p.at;
        to = p.to;
        number = p.number;
        has =
            p.has;
      }

  path_back : (x m : ℕ) → Leads t x m → IsDead new m → Leads s x m × IsDead new x
  path_back x m (Step p) dead = let d = from_dead new t law content x m p dead in
      (Step (point_back x m p d), d)
  path_back x m (More {y = y} l p) dead =
      let d = from_dead new t law content y m p dead in
      let back = path_back x y l d in
      (More back.0 (point_back y m p d), back.1)

pub lead_on : (s : Objects) (x y z : ℕ) → Points s x y → Leads s y z → Leads s x z
lead_on s x y z p (Step q) = More (Step p) q
lead_on s x y z p (More {y = w} l q) = More (lead_on s x y w p l) q

-- `hold`, `release`
pub stands_same : (old new : Counted) (s : Objects) → SameObjects old new → StandsFor old s
    → StandsFor new s
stands_same old new s same was =
    record {
      made = same.next ∙ was.made;
      content = λ r b e. was.content r b (sym (same.each r) ∙ e);
      no_cycle = λ m dead cycle. was.no_cycle m (λ r e. sym (same.each r) ∙ dead r e) cycle;
    }

-- `set`, `grow`, `clear_one`
pub stands_written : (old new : Counted) (s : Objects) (at : Ref) (b c : Body) → IsLawful old
    → IsLawful new → object old at ≡ Some b → Rewrites old new at c → StandsFor old s
    → StandsFor new (with_body s at c)
stands_written old new s at b c law_old law live writes was =
    record {
      made = writes.next ∙ was.made
          ∙ ap (λ n. s.first + n) (sym (length-set s.bodies (at.serial - s.first) c));
      content = content;
      no_cycle = λ m dead cycle. was.no_cycle m (before m dead)
          ((path_back new s (with_body s at c) law content kept m m cycle dead).0);
    }
  where
    there : Within s at.serial b
    there = within s at.serial b (was.content at b live)

    content : Content new (with_body s at c)
    content r d e = elim (cases_eq r.serial at.serial) [
      | inl same ↦
          let q = law.one r at (rw e refl) (rw writes.here refl) same in
          let f : Some d ≡ Some c = sym e ∙ ap (object new) q ∙ writes.here in
          ap (numbered (with_body s at c)) same ∙ with-same s at b c there ∙ sym f
      | inr other ↦
          with-other s at b c there r.serial other
          ∙ was.content r d (sym (writes.there r (λ same. other (ap (λ (q : Ref). q.serial) same)))
          ∙ e)
    ]

    -- what is dead has another number
    differs : (x : ℕ) → IsDead new x → x ≢ at.serial
    differs x dead same = let f = dead at (sym same) in let g = writes.here in absurd (cc)

    kept : (x : ℕ) → IsDead new x → (d : Body) → numbered (with_body s at c) x ≡ Some d
        → numbered s x ≡ Some d
    kept x dead d e = sym (with-other s at b c there x (differs x dead)) ∙ e

    before : (m : ℕ) → IsDead new m → IsDead old m
    before m dead = λ r e. sym
        (writes.there r (λ same. differs m dead (sym e ∙ ap (λ (q : Ref). q.serial) same)))
        ∙ dead r e

-- `make`
pub stands_made : (old new : Counted) (s : Objects) (at : Ref) (b : Body) → IsLawful new
    → Makes old new at b → StandsFor old s
    → StandsFor new (record s { bodies = s.bodies ++ b ∷ [] })
stands_made old new s at b law makes was =
    record {
      made = omega (arith, makes.next, was.made, length-append {A = Body} s.bodies (b ∷ []));
      content = content;
      no_cycle = λ m dead cycle. was.no_cycle m (before m dead)
          ((path_back new s (pushed s b) law content kept m m cycle dead).0);
    }
  where
    last : at.serial ≡ next s
    last = makes.number ∙ was.made

    content : Content new (pushed s b)
    content r d e = elim (cases_eq r.serial at.serial) [
      | inl same ↦
          let q = law.one r at (rw e refl) (rw makes.here refl) same in
          let f : Some d ≡ Some b = sym e ∙ ap (object new) q ∙ makes.here in
          pushed-last s b r.serial (same ∙ last) ∙ sym f
      | inr other ↦
          let n = law.numbered r (rw e refl) in
          pushed-before s b r.serial (omega (arith, n.1, makes.next, makes.number, was.made))
          ∙ was.content r d (sym (makes.there r (λ same. other (ap (λ (q : Ref). q.serial) same)))
          ∙ e)
    ]

    differs : (x : ℕ) → IsDead new x → x ≢ at.serial
    differs x dead same = let f = dead at (sym same) in let g = makes.here in absurd (cc)

    kept : (x : ℕ) → IsDead new x → (d : Body) → numbered (pushed s b) x ≡ Some d
        → numbered s x ≡ Some d
    kept x dead d e =
        let w = within (pushed s b) x d e in
        let l = length-append {A = Body} s.bodies (b ∷ []) in
        let other : x ≢ next s = λ same. differs x dead (same ∙ sym last) in
        sym (pushed-before s b x (omega (arith, w.last))) ∙ e

    before : (m : ℕ) → IsDead new m → IsDead old m
    before m dead = λ r e. sym
        (makes.there r (λ same. differs m dead (sym e ∙ ap (λ (q : Ref). q.serial) same)))
        ∙ dead r e

-- `reap`
pub stands_taken : (old new : Counted) (s : Objects) (b : Body) → IsLawful old → IsLawful new
    → Takes old new b → StandsFor old s → StandsFor new s
stands_taken old new s b law_old law takes was =
    record {
      made = takes.next ∙ was.made;
      content = content;
      no_cycle = no_cycle;
    }
  where
    content : Content new s
    content r c e = was.content r c
        (sym (takes.there r (λ same. let f = ap (object new) same ∙ takes.here in absurd (cc))) ∙ e)

    -- no number but that of the one that went is dead now and wasn't before
    before : (m : ℕ) → m ≢ takes.gone.serial → IsDead new m → IsDead old m
    before m other dead =
        λ r e. sym (takes.there r (λ same. other (sym e ∙ ap (λ (q : Ref). q.serial) same)))
        ∙ dead r e

    -- nothing live refers to it, itself included
    not_itself : (x y : ℕ) → x ≡ takes.gone.serial → y ≡ takes.gone.serial → Points s x y → ⊥
    not_itself x y e f p =
        let n = points_live old s law_old was.content x y p takes.gone (sym e) b takes.was in
        let q = law_old.one n.0 takes.gone (law_old.live n.0 n.2) (rw takes.was refl) (n.1 ∙ f) in
        let z = ap (count old) q ∙ takes.chained in
        absurd (omega (arith, n.2))

    -- a cycle through the one that went passes through one that was dead before
    through : (x m : ℕ) → x ≡ m → m ≡ takes.gone.serial → IsDead new m → Leads s x m → ⊥
    through x m round same dead (Step p) = not_itself x m (round ∙ same) same p
    through x m round same dead (More {y = y} l p) =
        let d = from_dead new s law content y m p dead in
        elim (cases_eq y takes.gone.serial) [
          | inl here ↦ not_itself y m here same p
          | inr other ↦
              let P : ℕ → Type 0 = λ z. Leads s z y in
              was.no_cycle y (before y other d) (lead_on s y m y p (subst P round l))
        ]

    no_cycle : (m : ℕ) → IsDead new m → Leads s m m → ⊥
    no_cycle m dead cycle = elim (cases_eq m takes.gone.serial) [
      | inr other ↦ was.no_cycle m (before m other dead) cycle
      | inl same ↦ through m m refl same dead cycle
    ]
