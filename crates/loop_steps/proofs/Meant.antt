-- A local that is set, and what it means.
use Rattle.std.proofs.Common.{◌≡◌, ◌<◌, ℕ, Some, length, slice_get, slice_set, ap, sym, ◌∙◌, arith}
use Rattle.ck_values.specs.declared.value.Value.{Value}
use Rattle.ck_values.specs.Datum.{Datum, meant, all_meant}
use Rattle.ck_store.specs.Steps.{with_local}
use Rattle.ck_store.specs.Store.{Gives, IsFitting}
use Rattle.shred_state.specs.Frames.{Standing, with_locals}
use Rattle.machine_world.specs.Shown.{shown, locals_of}
use Rattle.machine_world.proofs.Numbered.{length-meant, set_local_within, set_local_meant}

-- a local that was set
module _ (old new : Standing) (i : ℕ) (v : Value)
    (is : new ≡ with_locals old (slice_set old.top.locals i v)) where
  pub set_kept : new ≡ with_locals old new.top.locals
  set_kept = is ∙ ap (with_locals old) (ap (λ (s : Standing). s.top.locals) (sym is))

  pub set_meant : (was : Value) → slice_get old.top.locals i ≡ Some was
      → with_local (locals_of old) i (meant v) ≡ Gives (locals_of new)
  unfolding shown
  set_meant was there =
      set_local_meant old.top.locals i was v there
      ∙ ap (λ (s : Standing). Gives (all_meant s.top.locals)) (sym is)

-- a local that can be set is there
pub set_there : (shred : Standing) (i : ℕ) (d : Datum) → IsFitting (with_local (locals_of shred) i d)
    → i < length shred.top.locals
unfolding shown
set_there shred i d fits =
    omega (arith, length-meant shred.top.locals, set_local_within (locals_of shred) i d fits)
