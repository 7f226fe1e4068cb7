-- What an update of a variable finds.
use Rattle.std.proofs.Common.{◌≡◌, ℕ, List, [], ◌∷◌, subst}
use Rattle.ck_values.specs.declared.operator.Op2.{Op2}
use Rattle.ck_values.specs.declared.trap.Place.{Place}
use Rattle.ck_values.specs.Datum.{Datum}
use Rattle.ck_store.specs.Store.{Store, State, Try, Gives, Fails, Misfit, IsFitting}
use Rattle.ck_store.specs.Steps.{and_then, local_of, with_local, static_of, with_static}
use Rattle.ck_store.specs.Objects.{field_of, with_field}
use Rattle.ck_store.specs.Operators.{binary}
use Rattle.ck_code.specs.Machine.{Frame, Effect, tried, updates_local, updates_static, updates_field}
use Rattle.machine_world.specs.Steps.{IsGood, of_top, of_two, updated}
use Rattle.machine_world.specs.Shown.{Shown}
use Rattle.machine_world.proofs.Changed.{with_operands}
use Rattle.machine_world.specs.Tries.{IsReference}
use Rattle.machine_world.proofs.Parts.{fits_first, field_refers, refers}
use Rattle.machine_world.proofs.Sends.{good_fits}

pub tried_fits : {A B : Type 0} (t : Try A) (place : Place) (s : State) (go : A → Effect)
    (then : A → Try B) → ((a : A) → IsGood (go a) → IsFitting (then a))
    → IsGood (tried t place s go) → IsFitting (and_then t then)
tried_fits (Gives a) place s go then on good = on a good
tried_fits (Fails trap) place s go then on good = tt
tried_fits Misfit place s go then on good = absurd good

update_fits : {A : Type 0} (old : Try Datum) (o : Op2) (put : Datum → Try A) (e : Datum) (place : Place)
    (s : State) (go : Datum → A → Effect)
    → IsGood (tried old place s (λ v. tried (binary o v e) place s (λ w. tried (put w) place s (go w))))
    → IsFitting (updated old o put e)
update_fits old o put e place s go good =
    tried_fits old place s (λ v. tried (binary o v e) place s (λ w. tried (put w) place s (go w)))
    (λ v. and_then (binary o v e) put) (λ v good.
    tried_fits (binary o v e) place s (λ w. tried (put w) place s (go w)) put (λ w good.
    good_fits (put w) place s (go w) good) good) good

pub local_updates : (place : Place) (i : ℕ) (o : Op2) (f p : ℕ) (l ops : List Datum)
    (rest : List Frame) (s : State) → IsGood (updates_local place i o f p l ops rest s)
    → IsFitting (of_top ops (updated (local_of l i) o (with_local l i)))
local_updates place i o f p l [] rest s good = absurd good
local_updates place i o f p l (e ∷ beneath) rest s good =
    update_fits (local_of l i) o (with_local l i) e place s _ good

pub static_updates : (place : Place) (i : ℕ) (o : Op2) (f p : ℕ) (l ops : List Datum)
    (rest : List Frame) (s : State) → IsGood (updates_static place i o f p l ops rest s)
    → IsFitting (of_top ops (updated (static_of s.store i) o (with_static s.store i)))
static_updates place i o f p l [] rest s good = absurd good
static_updates place i o f p l (e ∷ beneath) rest s good =
    update_fits (static_of s.store i) o (with_static s.store i) e place s _ good

pub field_updates : (place : Place) (i : ℕ) (o : Op2) (f p : ℕ) (l ops : List Datum)
    (rest : List Frame) (s : State) → IsGood (updates_field place i o f p l ops rest s)
    → IsFitting (of_two ops (λ e r. updated (field_of s.store r i) o (with_field s.store r i) e))
field_updates place i o f p l [] rest s good = absurd good
field_updates place i o f p l (r ∷ []) rest s good = absurd good
field_updates place i o f p l (r ∷ e ∷ beneath) rest s good =
    update_fits (field_of s.store r i) o (with_field s.store r i) e place s _ good

-- what fits goes on with what was given
pub fits_next : {A B : Type 0} (t : Try A) (go : A → Try B) (a : A) → t ≡ Gives a
    → IsFitting (and_then t go) → IsFitting (go a)
fits_next t go a is fits = subst (λ t. IsFitting (and_then t go)) is fits

module _ {A : Type 0} (old : Try Datum) (o : Op2) (put : Datum → Try A) (e : Datum)
    (fits : IsFitting (updated old o put e)) where
  pub old_fits : IsFitting old
  old_fits = fits_first old _ fits

  module _ (v : Datum) (is : old ≡ Gives v) where
    pub operator_fits : IsFitting (binary o v e)
    operator_fits = fits_first (binary o v e) put (fits_next old _ v is fits)

    pub put_fits : (w : Datum) → binary o v e ≡ Gives w → IsFitting (put w)
    put_fits w gives = fits_next (binary o v e) put w gives (fits_next old _ v is fits)

-- an object whose field is updated with the operand beneath it is one
pub refers_under : (store : Store) (d : Datum) (i : ℕ) (o : Op2) (under : List Datum)
    → IsFitting (of_top under (λ e. updated (field_of store d i) o (with_field store d i) e))
    → IsReference d
refers_under store d i o [] fits = absurd fits
refers_under store d i o (e ∷ beneath) fits =
    refers store.objects d (field_refers store d i
    (old_fits (field_of store d i) o (with_field store d i) e fits))

-- the operand beneath an object that was taken
pub under_object : (store : Store) (i : ℕ) (o : Op2) (old new : Shown) (r : Datum)
    → old ≡ with_operands new (r ∷ new.top.operands)
    → IsFitting (of_two old.top.operands (λ e r. updated (field_of store r i) o (with_field store r i) e))
    → IsFitting (of_top new.top.operands (λ e. updated (field_of store r i) o (with_field store r i) e))
under_object store i o old new r is fits =
    subst (λ (s : Shown). IsFitting (of_two s.top.operands
    (λ e r. updated (field_of store r i) o (with_field store r i) e))) is fits
