-- Small graphs, worked out by hand.
use Rattle.std.proofs.Common.{◌≡◌, ℕ, [], ◌∷◌, refl}
use Rattle.ck_values.specs.declared.side.Side.TheVariants.{Both}
use Rattle.ugen_sample.specs.Connection.{Connection}
use Rattle.ugen_sample.specs.Order.{order, roots}

abbrev leads : (from to : ℕ) → Connection
leads a b = record { from = a; to = b; side = Both }

-- Step s => Gain a => dac; a => Gain b => a; b => dac: with s 2, a 3, b 4
a_loop : order roots (leads 2 3 ∷ leads 3 0 ∷ leads 3 4 ∷ leads 4 3 ∷ leads 4 0 ∷ [])
    ≡ 2 ∷ 4 ∷ 3 ∷ 0 ∷ 1 ∷ []
unfolding order
a_loop = refl

-- what only blackhole pulls comes after dac, and what nobody pulls has no turn
pulled_without_being_heard : order roots (leads 2 1 ∷ leads 3 4 ∷ []) ≡ 0 ∷ 2 ∷ 1 ∷ []
unfolding order
pulled_without_being_heard = refl
