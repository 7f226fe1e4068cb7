-- What is told of each store that a world stands for and that fits, where there is an answer.
use Rattle.std.proofs.Common.{◌≡◌, Result, Ok, Err, IfOk, OnOk, sym, subst}
use Rattle.ck_store.specs.Store.{Store}
use Rattle.machine_world.specs.Worlds.{Parts, StandsFor}

module _ {world : Parts} {T E : Type 0} (r : Result T E) (Over Fits : Store → Type 0)
    (over : (store : Store) → StandsFor world store → Fits store → Over store) where
  pub ok_each : (P Q : T → Store → Type 0)
      → ((x : T) (store : Store) → StandsFor world store → P x store → Q x store)
      → ((store : Store) → StandsFor world store → Over store → IfOk r (λ x. P x store))
      → IfOk r (λ x. (store : Store) → StandsFor world store → Fits store → Q x store)
  ok_each P Q go all = by r all
    where
      by : (r : Result T E)
          → ((store : Store) → StandsFor world store → Over store → IfOk r (λ x. P x store))
          → IfOk r (λ x. (store : Store) → StandsFor world store → Fits store → Q x store)
      by (Ok x) all = λ store stands fits.
          go x store stands (all store stands (over store stands fits))
      by (Err e) all = tt

  pub on_each : (P Q : Store → Type 0)
      → ((store : Store) → StandsFor world store → P store → Q store)
      → ((store : Store) → StandsFor world store → Over store → OnOk r (P store))
      → OnOk r ((store : Store) → StandsFor world store → Fits store → Q store)
  on_each P Q go all = by r all
    where
      by : (r : Result T E)
          → ((store : Store) → StandsFor world store → Over store → OnOk r (P store))
          → OnOk r ((store : Store) → StandsFor world store → Fits store → Q store)
      by (Ok x) all = λ store stands fits.
          go store stands (all store stands (over store stands fits))
      by (Err e) all = tt

-- the answer is this one, where there is one, and three things hold
pub ok_is : {T E : Type 0} (r : Result T E) (is : T) (A B C : Type 0) (Q : T → Type 0)
    → IfOk r (λ x. x ≡ is) → OnOk r A → OnOk r B → OnOk r C → (A → B → C → Q is) → IfOk r Q
ok_is (Ok x) is A B C Q same a b c go = subst Q (sym same) (go a b c)
ok_is (Err e) is A B C Q same a b c go = tt
