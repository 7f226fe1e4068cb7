-- More pieces: bodies whose continue goes to their end, and loops that begin with their turn.
use Rattle.std.proofs.Common.{◌≡◌, ℕ, ◌+◌, ◌<◌, ◌≤◌, ◌⊎◌, inl, inr, List, refl, sym, subst, arith, Bool, true}
use Rattle.std.proofs.lemmas.Bool.{cases_lt}
use Rattle.std.specs.Prelude.{slice_get}
use Rattle.ck_typed.specs.WellFormed.{FoundWhere}
use Rattle.ck_code.specs.declared.instr.Instr.TheVariants.{Turn}
use Rattle.ck_code.specs.declared.code.Step.{Step}
use Rattle.ck_code.specs.Verified.{HasJump, HasTurnBetween}
use Rattle.code_laws.proofs.Pieces.{Stays, inner_stays, Apart, Loop, narrow_apart, Piece}

module _ (w : List Step) where
  contained_stays : (out again a b from to : ℕ) → a ≤ b → Stays true out b a b from to
      → Stays true out again a b from to
  contained_stays out again a b from to le (inl h) = inl h
  contained_stays out again a b from to le (inr (t, inl is)) = inr (t, inl is)
  contained_stays out again a b from to le (inr (t, inr is)) =
      inl (omega (arith, is, le), omega (arith, is))

  -- a piece whose continue goes to its own end may stand in a loop whose continue goes elsewhere
  pub contained : (out again a b : ℕ) → Piece w true out b a b → Piece w true out again a b
  contained out again a b piece = record {
    le = piece.le;
    stays = λ f to le lt jump.
        contained_stays out again a b f to piece.le (piece.stays f to le lt jump);
    turns = λ apart loop. piece.turns apart (λ t.
        let around : Loop w out again a b = loop t in
        record {
          q = around.q;
          after = inr (omega arith);
          before = around.before;
          turn = around.turn;
          above = around.above;
          earlier = around.earlier;
          later = around.later;
        });
  }

  -- the jumps of a loop's own steps, where its turn comes first
  first_turns : (p last e : ℕ) → e ≡ last + 1 → p + 1 ≤ last
      → FoundWhere (slice_get w p) (λ step. step.instr ≡ Turn)
      → ((t : ℕ) → HasJump w last t → p ≡ t) → Apart w p e
      → Loop w e p (p + 1) last × HasTurnBetween w p last
  first_turns p last e is_e le turn at_jump apart =
      let outside : (f to : ℕ) → HasJump w f to → (f < p) ⊎ (e ≤ f) → p < to → e ≤ to =
      λ f to jump out beyond. elim (apart.by f to jump out) [
        | inl x ↦ absurd (omega (arith, x, beyond))
        | inr x ↦ x
      ] in (
        record {
          q = p;
          after = inl (omega arith);
          before = omega arith;
          turn = turn;
          above = omega (arith, is_e);
          earlier = λ f to jump lt beyond. let h : e ≤ to = outside f to jump (inl lt) beyond in
              omega (arith, h, is_e);
          later = λ f to jump le_f beyond. elim (cases_lt last f) [
            | inl past ↦ (let h : e ≤ to =
                outside f to jump (inr (omega (arith, past, is_e))) beyond in
                omega (arith, h, is_e))
            | inr at_last ↦ (let is_last : last ≡ f = omega (arith, at_last, le_f) in
                let target : p ≡ to =
                at_jump to (subst (λ x. HasJump w x to) (sym is_last) jump) in
                absurd (omega (arith, target, beyond)))
          ];
        },
        record {
          q = p;
          after = omega arith;
          before = omega (arith, le);
          turn = turn;
          only = λ f to jump beyond to_le. (
            elim (cases_lt f p) [
              | inl under ↦ (let h : e ≤ to = outside f to jump (inl under) beyond in
                  absurd (omega (arith, h, is_e, to_le)))
              | inr x ↦ x
            ],
            elim (cases_lt last f) [
              | inl past ↦ (let h : e ≤ to =
                  outside f to jump (inr (omega (arith, past, is_e))) beyond in
                  absurd (omega (arith, h, is_e, to_le)))
              | inr x ↦ x
            ],
          );
        },
      )

  -- a turn, a body and a jump back to the turn
  pub looped_first : (in_loop : Bool) (out again p last : ℕ)
      → FoundWhere (slice_get w p) (λ step. step.instr ≡ Turn)
      → ((t : ℕ) → HasJump w p t → ⊥) → Piece w true (last + 1) p (p + 1) last
      → ((t : ℕ) → HasJump w last t → p ≡ t) → Piece w in_loop out again p (last + 1)
  looped_first in_loop out again p last turn no_jump body at_jump =
      let first = p + 1 in
      let e = last + 1 in
      let l : first ≤ last = body.le in
      let at_turn : (x t : ℕ) → p ≡ x → HasJump w x t → ⊥ =
      λ x t is j. no_jump t (subst (λ y. HasJump w y t) (sym is) j) in
      let at_last : (x t : ℕ) → last ≡ x → HasJump w x t → p ≡ t =
      λ x t is j. at_jump t (subst (λ y. HasJump w y t) (sym is) j) in
      record {
        le = omega (arith, l);
        stays = λ f to le lt jump. elim (cases_lt f first) [
          | inl u ↦ absurd (at_turn f to (omega (arith, le, u)) jump)
          | inr u ↦ elim (cases_lt f last) [
            | inl v ↦ inner_stays in_loop out again p e first last e p (omega arith) (omega arith)
                (omega (arith, l)) (omega arith) (omega arith) (omega (arith, l)) f to
                (body.stays f to u v jump)
            | inr v ↦ (let is : p ≡ to = at_last f to (omega (arith, v, lt)) jump in
                inl (omega (arith, is), omega (arith, is, l)))
          ]
        ];
        turns = λ apart loop f to le lt jump back.
            let own = first_turns p last e refl l turn at_jump apart in
            let apart_body : Apart w first last =
            narrow_apart w p e first last (omega arith) (omega arith) apart (λ x t j g i o.
            elim o [
              | inl u ↦ absurd (at_turn x t (omega (arith, g, u)) j)
              | inr u ↦ (let is : p ≡ t = at_last x t (omega (arith, u, i)) j in
                  inl (omega (arith, is)))
            ]) in
            elim (cases_lt f first) [
              | inl u ↦ absurd (at_turn f to (omega (arith, le, u)) jump)
              | inr u ↦ elim (cases_lt f last) [
                | inl v ↦ body.turns apart_body (λ t. own.0) f to u v jump back
                | inr v ↦ (let is_last : last ≡ f = omega (arith, v, lt) in
                    let is : p ≡ to = at_last f to is_last jump in
                    subst (λ x. HasTurnBetween w x f) is
                    (subst (λ x. HasTurnBetween w p x) is_last own.1))
              ]
            ];
      }
