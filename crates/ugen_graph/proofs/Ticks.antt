-- A tick is a sample by the definition.
use Rattle.std.proofs.Common.{◌≡◌, ℕ, ◌<◌, ◌≤◌, Bool, false, List, [], ◌++◌, take, drop, length, replicate, ap, ◌∙◌}
use Rattle.std.specs.List.{All}
use Rattle.std.proofs.lemmas.List.{take_at}
use Rattle.ugen_sample.specs.Order.{order, roots}
use Rattle.ugen_graph.specs.declared.link.Link.{Link}
use Rattle.ugen_graph.specs.declared.turn.Turn.{Turn}
use Rattle.ugen_graph.specs.Walks.{AreWithin, AreOnly, Walk, walk, walk_all}
use Rattle.ugen_graph.specs.Wiring.{Laid, connections_of, found}
use Rattle.ugen_sample.specs.Sample.{dac, sources_by, is_left, is_right}
use Rattle.ugen_graph.specs.Wires.{IsWired, IsBetween}
use Rattle.ugen_graph.proofs.Shows.{order_found, marks_found}
use Rattle.ugen_graph.proofs.Within.{sources_below, order_below, all_below, wired_within}

-- the lists at hand, as a call finds them
pub record Hand (size : ℕ) (links : List Link) (sources now : List (List ℕ)) : Type 0 where
  pub same : now ≡ sources
  pub wired : IsWired (connections_of links) sources
  pub between : All (IsBetween size) links
  pub count : length now ≡ size
  pub two : 1 < size

wired_now : (size : ℕ) (links : List Link) (sources now : List (List ℕ))
    → Hand size links sources now → IsWired (connections_of links) now
wired_now size links sources now h = rw h.same h.wired

pub hand_within : (size : ℕ) (links : List Link) (sources now : List (List ℕ))
    → Hand size links sources now → AreWithin (length now) now
hand_within size links sources now h =
    wired_within size links now (wired_now size links sources now h) h.between h.count

pub found_order : (size : ℕ) (links : List Link) (sources now : List (List ℕ)) (placed : List ℕ)
    → Hand size links sources now → (marks : List Bool)
    → ((k : ℕ) → length now ≤ k → record { marks = marks; placed = placed }
    ≡ walk_all (walk k now) roots
    (record { marks = replicate (length now) false; placed = [] }))
    → placed ≡ order roots (connections_of links)
found_order size links sources now placed h marks walks =
    order_found (connections_of links) now (wired_now size links sources now h)
    (λ n b. rw h.count (sources_below size links h.between n)) (rw h.count h.two) placed
    (λ k b. ap (λ (w : Walk). w.placed) (walks k b))

pub found_marks : (size : ℕ) (links : List Link) (sources now : List (List ℕ)) (placed : List ℕ)
    → Hand size links sources now → (marks : List Bool)
    → ((k : ℕ) → length now ≤ k → record { marks = marks; placed = placed }
    ≡ walk_all (walk k now) roots
    (record { marks = replicate (length now) false; placed = [] }))
    → AreOnly marks placed
found_marks size links sources now placed h marks walks =
    marks_found (connections_of links) now (wired_now size links sources now h)
    (λ n b. rw h.count (sources_below size links h.between n)) (rw h.count h.two)
    (record { marks = marks; placed = placed }) walks

pub placed_within : (size : ℕ) (links : List Link) (sources now : List (List ℕ)) (placed : List ℕ)
    → Hand size links sources now → placed ≡ order roots (connections_of links)
    → All (λ n. n < length now) placed
placed_within size links sources now placed h is =
    rw (is, h.count) (all_below size _
    (order_below size (connections_of links) h.two (sources_below size links h.between)))

-- a list written over as many items is that list
pub whole : {X : Type 0} → (n : ℕ) (ws xs : List X) → length ws ≡ n
    → take n (ws ++ drop (length ws) xs) ≡ ws
whole n ws xs e = take_at ws (drop (length ws) xs) n e

-- all is found
pub laid_found : (size : ℕ) (links now also : List Link) (order1 : List ℕ) (turns : List Turn)
    (left right : List ℕ) → order1 ≡ order roots (connections_of links)
    → now ≡ links → left ≡ sources_by is_left (connections_of now) dac
    → also ≡ links → right ≡ sources_by is_right (connections_of also) dac
    → record {
      size = size;
      links = links;
      order = order1;
      turns = turns;
      left = left;
      right = right;
    }
    ≡ found (record { size = size; links = links; order = []; turns = []; left = []; right = [] }) turns
laid_found size links now also order1 turns left right is a l b r =
    ap (λ (ns : List ℕ). let w : Laid = record {
      size = size;
      links = links;
      order = ns;
      turns = turns;
      left = left;
      right = right;
    } in w) is
    ∙ ap (λ (ns : List ℕ). let w : Laid = record {
      size = size;
      links = links;
      order = order roots (connections_of links);
      turns = turns;
      left = ns;
      right = right;
    } in w) (l ∙ ap (λ (ls : List Link). sources_by is_left (connections_of ls) dac) a)
    ∙ ap (λ (ns : List ℕ). let w : Laid = record {
      size = size;
      links = links;
      order = order roots (connections_of links);
      turns = turns;
      left = sources_by is_left (connections_of links) dac;
      right = ns;
    } in w) (r ∙ ap (λ (ls : List Link). sources_by is_right (connections_of ls) dac) b)
