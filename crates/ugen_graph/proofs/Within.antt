-- What the graph names is among its nodes.
use Rattle.std.proofs.Common.{◌≡◌, ℕ, zero, suc, ◌<◌, ◌≤◌, ◌||◌, ◌&&◌, Bool, nat_eq, cond, true, false, List, [], ◌∷◌, ◌++◌, length, map, slice_index_or, refl, ap, subst, ◌∙◌, inl, inr, arith}
use Rattle.std.specs.List.{All, filter}
use Rattle.std.proofs.lemmas.List.{get_or_default}
use Rattle.ugen_sample.specs.Connection.{Connection}
use Rattle.ugen_sample.specs.Order.{sources_of, is_among, visit_all, visit, order, roots}
use Rattle.ck_values.specs.declared.side.Side.{Side}
use Rattle.ugen_sample.specs.Sample.{sources_by, dac}
use Rattle.ugen_sample.proofs.Among.{either, Each}
use Rattle.ugen_sample.proofs.Visits.{passed, entered}
use Rattle.ugen_graph.specs.declared.link.Link.{Link}
use Rattle.ugen_graph.specs.Hands.{IsAllOf}
use Rattle.ugen_graph.specs.Walks.{AreWithin}
use Rattle.ugen_graph.specs.Wiring.{connection_of, connections_of}
use Rattle.ugen_graph.specs.Wires.{IsWired, IsBetween}

abbrev starts : List Connection → List ℕ
starts cs = map (λ (c : Connection). c.from) cs

abbrev pub Below : ℕ → List ℕ → Type 0
Below size ms = Each (λ m. m < size) ms

pub all_below : (size : ℕ) (ms : List ℕ) → Below size ms → All (λ m. m < size) ms
all_below size [] e k d h = absurd (omega arith)
all_below size (m ∷ ms) e zero d h = e.0
all_below size (m ∷ ms) e (suc k) d h = all_below size ms e.1 k d (omega arith)

Below-push : (size n : ℕ) (ms : List ℕ) → Below size ms → n < size → Below size (ms ++ n ∷ [])
Below-push size n [] e h = (h, tt)
Below-push size n (m ∷ ms) e h = (e.0, Below-push size n ms e.1 h)

-- the ends of connections between nodes are nodes
pub sources_below : (size : ℕ) (links : List Link) → All (IsBetween size) links → (n : ℕ)
    → Below size (sources_of (connections_of links) n)
sources_below size [] h n = tt
sources_below size (l ∷ ls) h n =
    let rest = sources_below size ls (λ k d b. h (suc k) d (omega arith)) n in
    elim (nat_eq l.to.node n) as (λ b. Below size (map (λ (c : Connection). c.from)
    (cond b (connection_of l ∷ filter (λ (c : Connection). nat_eq c.to n) (connections_of ls))
    (filter (λ (c : Connection). nat_eq c.to n) (connections_of ls))))) [
      | true ↦ ((h 0 l (omega arith)).0, rest)
      | false ↦ rest
    ]

visit_all_below : (size : ℕ) (f : ℕ → List ℕ → List ℕ)
    → ((m : ℕ) → m < size → (ps : List ℕ) → Below size ps → Below size (f m ps))
    → (ms ps : List ℕ) → Below size ms → Below size ps → Below size (visit_all f ms ps)
visit_all_below size f step [] ps e b = b
visit_all_below size f step (m ∷ ms) ps e b =
    visit_all_below size f step ms (f m ps) e.1 (step m e.0 ps b)

visit_below : (size k : ℕ) (cs : List Connection) → ((n : ℕ) → Below size (sources_of cs n))
    → (path : List ℕ) (n : ℕ) → n < size → (ps : List ℕ) → Below size ps
    → Below size (visit k cs path n ps)
visit_below size zero cs within path n h ps b = b
visit_below size (suc k) cs within path n h ps b =
    elim (either (is_among n path || is_among n ps)) [
      | inl on ↦ rw (passed (suc k) cs path n ps on) b
      | inr off ↦
          let all = visit_all_below size (visit k cs (n ∷ path))
          (λ m h1 qs b1. visit_below size k cs within (n ∷ path) m h1 qs b1)
          (sources_of cs n) ps (within n) b in
          rw (entered k cs path n ps off) (Below-push size n _ all h)
    ]

pub order_below : (size : ℕ) (cs : List Connection) → 1 < size
    → ((n : ℕ) → Below size (sources_of cs n)) → Below size (order roots cs)
unfolding order
order_below size cs two within =
    visit_all_below size _
    (λ m h ps b. visit_below size (suc (suc (length cs))) cs within [] m h ps b) roots []
    (omega arith, (omega arith, tt)) tt

-- so are the lists that the graph has at hand
pub wired_within : (size : ℕ) (links : List Link) (sources : List (List ℕ))
    → IsWired (connections_of links) sources → All (IsBetween size) links → length sources ≡ size
    → AreWithin (length sources) sources
wired_within size links sources wired between count k d h =
    let e : slice_index_or sources k d ≡ sources_of (connections_of links) k =
    get_or_default sources k d [] h ∙ wired.wired k in
    rw (count, e) (all_below size _ (sources_below size links between k))

-- the sources on a side are all sources where they are as many
side_few : (test : Side → Bool) (cs : List Connection) (n : ℕ)
    → length (sources_by test cs n) ≤ length (sources_of cs n)
side_few test [] n = omega arith
side_few test (c ∷ cs) n =
    let T : Connection → Bool = λ d. nat_eq d.to n && test d.side in
    let U : Connection → Bool = λ d. nat_eq d.to n in
    elim (nat_eq c.to n) as (λ b. length (starts (cond (b && test c.side) (c ∷ filter T cs) (filter T cs)))
    ≤ length (starts (cond b (c ∷ filter U cs) (filter U cs)))) [
      | true ↦
          elim (test c.side) as (λ b. length (starts (cond b (c ∷ filter T cs) (filter T cs)))
          ≤ suc (length (starts (filter U cs)))) [
            | true ↦ omega (arith, side_few test cs n)
            | false ↦ omega (arith, side_few test cs n)
          ]
      | false ↦ side_few test cs n
    ]

pub side_all : (test : Side → Bool) (cs : List Connection) (n : ℕ)
    → IsAllOf (sources_by test cs n) (sources_of cs n)
side_all test [] n = λ e. refl
side_all test (c ∷ cs) n =
    let T : Connection → Bool = λ d. nat_eq d.to n && test d.side in
    let U : Connection → Bool = λ d. nat_eq d.to n in
    elim (nat_eq c.to n) as (λ b.
    IsAllOf (starts (cond (b && test c.side) (c ∷ filter T cs) (filter T cs)))
    (starts (cond b (c ∷ filter U cs) (filter U cs)))) [
      | true ↦
          elim (test c.side) as (λ b.
          IsAllOf (starts (cond b (c ∷ filter T cs) (filter T cs))) (c.from ∷ starts (filter U cs))) [
            | true ↦ λ e. ap (λ (ms : List ℕ). c.from ∷ ms) (side_all test cs n (omega (arith, e)))
            | false ↦ λ e. absurd (let few = side_few test cs n in omega (arith, e, few))
          ]
      | false ↦ side_all test cs n
    ]

-- so are those at hand
pub hand_all : (test : Side → Bool) (cs : List Connection) (sources : List (List ℕ))
    (some : List ℕ) → some ≡ sources_by test cs dac
    → slice_index_or sources dac [] ≡ sources_of cs dac
    → IsAllOf some (slice_index_or sources dac [])
hand_all test cs sources some is e = rw (is, e) (side_all test cs dac)

-- a source on a side is a source
side_below : (test : Side → Bool) (cs : List Connection) (n size : ℕ)
    → Below size (sources_of cs n) → Below size (sources_by test cs n)
side_below test [] n size = λ e. tt
side_below test (c ∷ cs) n size =
    let T : Connection → Bool = λ d. nat_eq d.to n && test d.side in
    let U : Connection → Bool = λ d. nat_eq d.to n in
    elim (nat_eq c.to n) as (λ b. Below size (starts (cond b (c ∷ filter U cs) (filter U cs)))
    → Below size (starts (cond (b && test c.side) (c ∷ filter T cs) (filter T cs)))) [
      | true ↦
          elim (test c.side) as (λ b. Below size (c.from ∷ starts (filter U cs))
          → Below size (starts (cond b (c ∷ filter T cs) (filter T cs)))) [
            | true ↦ λ e. (e.0, side_below test cs n size e.1)
            | false ↦ λ e. side_below test cs n size e.1
          ]
      | false ↦ λ e. side_below test cs n size e
    ]

each_below : (size : ℕ) (ms : List ℕ) → All (λ m. m < size) ms → Below size ms
each_below size [] h = tt
each_below size (m ∷ ms) h =
    (h 0 m (omega arith), each_below size ms (λ k d b. h (suc k) d (omega arith)))

dac_below : (size : ℕ) (sources : List (List ℕ)) → AreWithin size sources
    → Below size (slice_index_or sources dac [])
dac_below size [] h = tt
dac_below size (ms ∷ rest) h = each_below size ms (h 0 [] (omega arith))

-- so those of `dac` on a side are nodes
pub side_within : (test : Side → Bool) (cs : List Connection) (sources : List (List ℕ))
    (some : List ℕ) (size : ℕ) → some ≡ sources_by test cs dac
    → slice_index_or sources dac [] ≡ sources_of cs dac → AreWithin size sources
    → All (λ m. m < size) some
side_within test cs sources some size is e within =
    rw is (all_below size _ (side_below test cs dac size
    (subst (λ (ms : List ℕ). Below size ms) e (dac_below size sources within))))
