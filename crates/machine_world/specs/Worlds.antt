-- What all shreds work on.
use Rattle.std.specs.Prelude.{ℕ, ◌+◌, ◌-◌, ◌^◌, ◌≤◌, min, ℤ, pos, ◌+ℤ◌, ◌*ℤ◌, ◌≤ℤ◌, ◌≡◌, List, map}
use Rattle.ck_base.specs.declared.limits.TheConstants.{MAX_SAMPLES, MAX_SPORKS}
use Rattle.ck_values.specs.declared.value.Value.{Value}
use Rattle.ck_values.specs.Datum.{Datum, all_meant}
use Rattle.rand_pcg.specs.Lcg.{Lcg}
use Rattle.object_heap.specs.Objects.{Objects}
use Rattle.object_heap.specs.declared.body.Body.{Body}
use Rattle.ugen_graph.specs.Wiring.{Network, connections_of}
use Rattle.ck_store.specs.Store.{Store}
use Rattle.value_ops.specs.Heaps.{shown_body}

-- the time in samples, the objects, the statics, the unit generators and their connections, the
-- generator of random words, the sporks made at this sample, the number of the next shred, and how
-- many instructions were begun
pub record Parts : Type 0 where
  pub time : ℤ
  pub heap : Objects
  pub statics : List Value
  pub graph : Network
  pub words : Lcg
  pub sporks : ℕ
  pub next_shred : ℕ
  pub ran : ℕ

-- a store of these
abbrev pub plain_store : (now : ℤ) → List Body → (statics : List Datum) → Network → Lcg
    → (sporks next_shred : ℕ) → Store
plain_store now bodies statics graph words sporks next_shred = record {
  now = now;
  objects = map shown_body bodies;
  statics = statics;
  units = graph.units;
  connections = connections_of graph.links;
  words = words;
  sporks = sporks;
  next_shred = next_shred;
}

-- the store of a world
unfoldable pub store_of : Parts → Store
store_of w =
    plain_store w.time w.heap.bodies (all_meant w.statics) w.graph w.words w.sporks w.next_shred

-- a world stands for a store
pub record StandsFor (world : Parts) (store : Store) : Type 0 where
  pub is : store_of world ≡ store

-- no run is so long that its shreds could have numbers past 64 bits: at most half of them are taken
-- when it begins
pub record HasNumbers (time : ℤ) (sporks next_shred : ℕ) : Type 0 where
  pub begun : pos 0 ≤ℤ time
  pub within : time ≤ℤ pos MAX_SAMPLES
  pub few : sporks ≤ MAX_SPORKS
  pub next : pos next_shred ≤ℤ
      ((pos (2 ^ 63) +ℤ (pos MAX_SPORKS *ℤ time)) +ℤ pos sporks)

-- a count of 64 bits, which stays at its greatest
abbrev pub counted : (ran more : ℕ) → ℕ
counted ran more = min (ran + more) (2 ^ 64 - 1)
