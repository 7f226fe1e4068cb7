-- The turns of a sample are those of the order of pull.
use Rattle.std.proofs.Common.{◌≡◌, ℕ, zero, suc, ◌+◌, ◌-◌, ◌<◌, ◌≤◌, ◌++◌, Bool, if◌then◌else◌, true, false, nat_eq, nat_lt, List, [], ◌∷◌, Some, None, refl, ap, sym, subst, ◌∙◌, inl, inr, arith, append-nil, append_assoc}
use Rattle.std.specs.List.{fold, flat_map, range_with_len}
use Rattle.std.proofs.lemmas.List.Elements.{All-push, All-pop}
use Rattle.std.proofs.lemmas.List.Concat.{flat_map-append}
use Rattle.std.proofs.lemmas.List.Sums.{fold-append}
use Rattle.std.proofs.lemmas.Bool.Decides.{nat_tests}
use Rattle.std.proofs.lemmas.Option.{same_Some}
use Rattle.ugen_kinds.specs.SoundFile.{no_waves}
use Rattle.ugen_sample.specs.Connection.{Connection}
use Rattle.ugen_sample.specs.UnitState.{Units}
use Rattle.ugen_sample.specs.Order.{sources_of, order, roots}
use Rattle.ugen_sample.proofs.Among.{either, equal}
use Rattle.ugen_sample.specs.Sample.{dac, made_from, sampled, sources_on}
use Rattle.ugen_graph.specs.declared.turn.Turn.{Turn}
use Rattle.ugen_graph.specs.declared.turn.Turn.TheVariants.{Alone, Fed, Joined}
use Rattle.ugen_graph.specs.Turns.{nodes_of, as_one, IsTurn, AreTurns}
use Rattle.ugen_graph.proofs.Sounds.{turn_own}

-- what is made at a turn is made of the sources of the node
pub fed_turn : (size : ℕ) (cs : List Connection) (turn : Turn) (n m : ℕ) (units new : Units)
    → turn ≡ Fed n m → IsTurn size cs turn → new ≡ made_from no_waves (λ _ _. m ∷ []) units n
    → new ≡ fold (made_from no_waves (sources_on cs)) units (nodes_of turn)
fed_turn size cs turn n m units new is right made =
    let t : IsTurn size cs (Fed n m) = subst (IsTurn size cs) is right in
    rw is (turn_own cs (m ∷ []) units new n t.1 t.2 made)

-- of those without sources one after another
each_alone : (cs : List Connection) (count first : ℕ) (units : Units) → dac < first
    → ((n : ℕ) → first ≤ n → n < first + count → sources_of cs n ≡ [])
    → fold (made_from no_waves (λ _ _. [])) units (range_with_len first count)
    ≡ fold (made_from no_waves (sources_on cs)) units (range_with_len first count)
each_alone cs zero first units past none = refl
each_alone cs (suc count) first units past none =
    let other : nat_eq first dac ≡ false = grind (arith, nat_tests) in
    let one = turn_own cs [] units (made_from no_waves (λ _ _. []) units first) first other
    (none first (omega arith) (omega arith)) refl in
    ap (λ (us : Units). fold (made_from no_waves (λ _ _. [])) us (range_with_len (first + 1) count)) one
    ∙ each_alone cs count (first + 1) (made_from no_waves (sources_on cs) units first) (omega arith)
    (λ n low high. none n (omega arith) (omega arith))

pub alone_turn : (size : ℕ) (cs : List Connection) (turn : Turn) (first end : ℕ) (units new : Units)
    → turn ≡ Alone first end → IsTurn size cs turn
    → new ≡ fold (made_from no_waves (λ _ _. [])) units (range_with_len first (end - first))
    → new ≡ fold (made_from no_waves (sources_on cs)) units (nodes_of turn)
alone_turn size cs turn first end units new is right made =
    let t : IsTurn size cs (Alone first end) = subst (IsTurn size cs) is right in
    rw is (made ∙ each_alone cs (end - first) first units t.0 (λ n low high. t.3 n low (omega (arith, t.1))))

-- two turns as one are the turns of their nodes
ranges : (a m n : ℕ) → range_with_len a (m + n) ≡ range_with_len a m ++ range_with_len (a + m) n
ranges a zero n =
    let none : zero + n ≡ n = omega arith in
    let here : a ≡ a + zero = omega arith in
    ap (range_with_len a) none ∙ ap (λ (b : ℕ). range_with_len b n) here
ranges a (suc m) n =
    let one : suc m + n ≡ suc (m + n) = omega arith in
    let on : (a + 1) + m ≡ a + suc m = omega arith in
    ap (range_with_len a) one
    ∙ ap (λ (ns : List ℕ). a ∷ ns) (ranges (a + 1) m n
    ∙ ap (λ (b : ℕ). range_with_len (a + 1) m ++ range_with_len b n) on)

pub record IsOne (size : ℕ) (cs : List Connection) (last turn both : Turn) : Type 0 where
  pub right : IsTurn size cs both
  pub nodes : nodes_of both ≡ nodes_of last ++ nodes_of turn

if_some : (b : Bool) (turn both : Turn) → (if b then Some turn else None) ≡ Some both
    → (b ≡ true) × (turn ≡ both)
if_some true turn both e = (refl, same_Some _ _ e)
if_some false turn both e = absurd cc

pub one_turn : (size : ℕ) (cs : List Connection) (last turn both : Turn)
    → as_one last turn ≡ Some both → IsTurn size cs last → IsTurn size cs turn
    → IsOne size cs last turn both
one_turn size cs (Alone first end) (Alone next after) both is a b =
    let parts = if_some (nat_eq end next) (Alone first after) both is in
    let there : end ≡ next = equal end next parts.0 in
    let count : after - first ≡ (end - first) + (after - next) = omega (arith, a.1, b.1, there) in
    let behind : first + (end - first) ≡ next = omega (arith, a.1, there) in
    subst (IsOne size cs (Alone first end) (Alone next after)) parts.1 (record {
      right = (
        a.0,
        omega (arith, a.1, b.1, there),
        b.2,
        λ n low high.
            elim (either (nat_lt n end)) [
              | inl early ↦ a.3 n low (grind (arith, nat_tests))
              | inr late ↦ b.3 n (grind (arith, nat_tests)) high
            ],
      );
      nodes = ap (range_with_len first) count ∙ ranges first (end - first) (after - next)
          ∙ ap (λ (k : ℕ). range_with_len first (end - first) ++ range_with_len k (after - next))
          behind;
    })
one_turn size cs (Alone first end) (Fed n m) both is a b = absurd cc
one_turn size cs (Alone first end) (Joined n) both is a b = absurd cc
one_turn size cs (Fed n m) turn both is a b = absurd cc
one_turn size cs (Joined n) turn both is a b = absurd cc

-- a turn at the end
pub turn_added : (size : ℕ) (cs : List Connection) (ns : List ℕ) (turns : List Turn) (turn : Turn)
    → AreTurns size cs ns turns → IsTurn size cs turn
    → AreTurns size cs (ns ++ nodes_of turn) (turns ++ turn ∷ [])
turn_added size cs ns turns turn are right =
    record {
      nodes = flat_map-append nodes_of turns (turn ∷ [])
          ∙ ap (λ (ms : List ℕ). flat_map nodes_of turns ++ ms) (append-nil (nodes_of turn))
          ∙ ap (λ (ms : List ℕ). ms ++ nodes_of turn) are.nodes;
      each = All-push (IsTurn size cs) turns turn are.each right;
    }

-- as one with the last
pub turn_joined : (size : ℕ) (cs : List Connection) (ns : List ℕ) (rest : List Turn)
    (last turn both : Turn) → AreTurns size cs ns (rest ++ last ∷ []) → IsTurn size cs turn
    → as_one last turn ≡ Some both → AreTurns size cs (ns ++ nodes_of turn) (rest ++ both ∷ [])
turn_joined size cs ns rest last turn both are right is =
    let parts = All-pop (IsTurn size cs) (rest ++ last ∷ []) rest (Some last) refl are.each in
    let one = one_turn size cs last turn both is parts.1 right in
    let had : flat_map nodes_of rest ++ nodes_of last ≡ ns =
    ap (λ (ms : List ℕ). flat_map nodes_of rest ++ ms) (sym (append-nil (nodes_of last)))
    ∙ sym (flat_map-append nodes_of rest (last ∷ [])) ∙ are.nodes in
    record {
      nodes = flat_map-append nodes_of rest (both ∷ [])
          ∙ ap (λ (ms : List ℕ). flat_map nodes_of rest ++ ms) (append-nil (nodes_of both) ∙ one.nodes)
          ∙ sym (append_assoc (flat_map nodes_of rest) (nodes_of last) (nodes_of turn))
          ∙ ap (λ (ms : List ℕ). ms ++ nodes_of turn) had;
      each = All-push (IsTurn size cs) rest both parts.0 one.right;
    }

-- the sample goes by turns
abbrev pub by_turn : List Connection → Units → Turn → Units
by_turn cs units turn = fold (made_from no_waves (sources_on cs)) units (nodes_of turn)

fold_turns : (cs : List Connection) (units : Units) (turns : List Turn)
    → fold (by_turn cs) units turns
    ≡ fold (made_from no_waves (sources_on cs)) units (flat_map nodes_of turns)
fold_turns cs units [] = refl
fold_turns cs units (turn ∷ turns) =
    fold_turns cs (by_turn cs units turn) turns
    ∙ sym (fold-append (made_from no_waves (sources_on cs)) units (nodes_of turn) (flat_map nodes_of turns))

pub sample_is : (size : ℕ) (cs : List Connection) (turns : List Turn) (units : Units)
    → AreTurns size cs (order roots cs) turns
    → fold (by_turn cs) units turns ≡ sampled no_waves roots cs units
unfolding sampled
sample_is size cs turns units are =
    fold_turns cs units turns ∙ ap (fold (made_from no_waves (sources_on cs)) units) are.nodes
