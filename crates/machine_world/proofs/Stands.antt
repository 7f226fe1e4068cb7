-- A world stands for one store, so that what is said of this one is said of each.
use Rattle.std.proofs.Common.{◌≡◌, suc, ap, refl, sym, subst}
use Rattle.ck_values.specs.Datum.{Datum}
use Rattle.ck_store.specs.Arrays.{Partly}
use Rattle.ck_store.specs.Store.{Store, Try, Gives, Fails}
use Rattle.value_ops.specs.declared.end.OpEnd.{OpEnd}
use Rattle.value_ops.specs.declared.end.OpEnd.TheVariants.{Trap, Memory}
use Rattle.value_ops.specs.Ends.{OnTrap, IsPartEnd}
use Rattle.machine_world.specs.Tries.{HasStore, Does, DoesPartly, Becomes}
use Rattle.machine_world.specs.Worlds.{Parts, StandsFor, store_of}

-- what holds of some store that the world stands for holds of this one, and the other way round
pub of_some : (world : Parts) (such : Store → Type 0) → HasStore world such → such (store_of world)
of_some world such has = subst such (sym has.stands.is) has.so

pub to_some : (world : Parts) (such : Store → Type 0) → such (store_of world) → HasStore world such
to_some world such so = record { store = store_of world; stands = record { is = refl }; so = so }

-- what holds of each holds of this one, and the other way round
pub of_each : (world : Parts) (such : Store → Type 0)
    → ((store : Store) → StandsFor world store → such store) → such (store_of world)
of_each world such all = all (store_of world) (record { is = refl })

pub to_each : (world : Parts) (such : Store → Type 0) → such (store_of world) → (store : Store)
    → StandsFor world store → such store
to_each world such so store stands = subst such stands.is so

-- and what holds of some store of each
pub each_so : (world : Parts) (such : Store → Type 0) → HasStore world such → (store : Store)
    → StandsFor world store → such store
each_so world such has = to_each world such (of_some world such has)

pub does_so : {A : Type 0} (old : Parts) (step : Store → Try A) (made : Store → A) (new : Parts)
    → step (store_of old) ≡ Gives (made (store_of new)) → Does old step made new
does_so old step made new so =
    to_each old (λ store. HasStore new (λ after. step store ≡ Gives (made after)))
    (to_some new (λ after. step (store_of old) ≡ Gives (made after)) so)

pub does_partly : (old : Parts) (step : Store → Partly) (end : Try Datum) (new : Parts)
    → step (store_of old) ≡ record { store = store_of new; end = end } → DoesPartly old step end new
does_partly old step end new so =
    to_each old (λ store. HasStore new (λ after. step store ≡ record { store = after; end = end }))
    (to_some new (λ after. step (store_of old) ≡ record { store = after; end = end }) so)

pub partly_on : (old : Parts) (end : OpEnd) (step : Store → Partly) (new : Parts)
    → IsPartEnd end (step (store_of old)) (store_of new)
    → OnTrap end (λ trap. DoesPartly old step (Fails trap) new)
partly_on old (Trap trap) step new so = does_partly old step (Fails trap) new so
partly_on old (Memory back) step new so = tt

pub becomes_so : (old : Parts) (change : Store → Store) (new : Parts)
    → store_of new ≡ change (store_of old) → Becomes old change new
becomes_so old change new so =
    to_each old (λ store. StandsFor new (change store)) (record { is = so })

-- what a store has of the world's counts
module _ (world : Parts) (store : Store) (stands : StandsFor world store) where
  pub sporks_of : store.sporks ≡ world.sporks
  unfolding store_of
  sporks_of = sym (ap (λ (s : Store). s.sporks) stands.is)

  pub next_of : store.next_shred ≡ world.next_shred
  unfolding store_of
  next_of = sym (ap (λ (s : Store). s.next_shred) stands.is)

  pub time_of : store.now ≡ world.time
  unfolding store_of
  time_of = sym (ap (λ (s : Store). s.now) stands.is)

-- a child has the next number
abbrev pub one_spork : Store → Store
one_spork store = record store { sporks = suc store.sporks; next_shred = suc store.next_shred }

pub spork_on : (old new : Parts)
    → new ≡ record old { sporks = suc old.sporks; next_shred = suc old.next_shred }
    → Becomes old one_spork new
unfolding store_of
spork_on old new is = becomes_so old one_spork new (ap store_of is)
