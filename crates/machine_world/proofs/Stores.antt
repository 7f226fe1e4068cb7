-- What operations on a heap do to the store of the world around it.
use Rattle.std.proofs.Common.{◌≡◌, ℕ, List, sym, subst}
use Rattle.ck_values.specs.Datum.{ARef}
use Rattle.ck_store.specs.Store.{Object, Store, IsFitting}
use Rattle.ck_store.specs.Arrays.{array_at}
use Rattle.object_heap.specs.Objects.{Objects}
use Rattle.value_ops.specs.Heaps.{objects_of, with_heap}
use Rattle.machine_world.specs.Worlds.{Parts, store_of}
use Rattle.machine_world.proofs.Held.{shown_objects}

-- what holds of every store with the objects of a heap, before and after, holds of the world's
pub of_heap : (P : (before after : Store) → Type 0) (inside world : Parts) (heap : Objects)
    → inside ≡ world → ((store : Store) → P (with_heap store inside.heap) (with_heap store heap))
    → P (store_of world) (store_of (record inside { heap = heap }))
unfolding store_of
of_heap P inside world heap is all =
    subst (λ (w : Parts). P (store_of w) (store_of (record inside { heap = heap }))) is
    (all (store_of inside))

-- an array of the world's store is one of its heap
pub array_there : (inside world : Parts) (s : ℕ) → inside ≡ world
    → IsFitting (array_at (store_of world).objects (ARef s))
    → IsFitting (array_at (objects_of inside.heap) (ARef s))
array_there inside world s is fits =
    subst (λ (objects : List Object). IsFitting (array_at objects (ARef s)))
    (sym (shown_objects inside world is)) fits
