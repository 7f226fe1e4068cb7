-- A slice that begins, by what the shred's values mean.
use Rattle.std.proofs.Common.{◌≡◌, ◌≤◌, suc, ℤ, Bool, true, false, int_lt, if◌then◌else◌, refl, ap, ◌∙◌}
use Rattle.ck_base.specs.declared.limits.TheConstants.{FRESH_TURNS}
use Rattle.ck_store.specs.Steps.{pick, fresh}
use Rattle.shred_state.specs.Frames.{Standing, turns_at}
use Rattle.machine_world.specs.Shown.{shown}
use Rattle.machine_world.proofs.Changed.{resumed_at}

picked : {A : Type 0} (b : Bool) (x y : A) → (if b then x else y) ≡ pick b x y
picked true x y = refl
picked false x y = refl

-- its turns are fresh where time has gone on
pub fresh_meant : (old new : Standing) (now : ℤ)
    → new ≡ record old { turns = turns_at now old; last = now }
    → shown new ≡ resumed_at now (shown old)
unfolding shown fresh
fresh_meant old new now is =
    ap shown is
    ∙ ap (λ turns. record (shown old) { turns = turns; last = now })
    (picked (int_lt old.last now) FRESH_TURNS old.turns)

pub few_meant : (old : Standing) → old.turns ≤ FRESH_TURNS → (shown old).turns ≤ FRESH_TURNS
unfolding shown
few_meant old few = few

-- and one was spent, or there is none
pub spent_meant : (old new : Standing) → old ≡ record new { turns = suc new.turns }
    → shown old ≡ record (shown new) { turns = suc (shown new).turns }
unfolding shown
spent_meant old new is = ap shown is

pub none_meant : (old : Standing) → old.turns ≡ 0 → (shown old).turns ≡ 0
unfolding shown
none_meant old none = none
