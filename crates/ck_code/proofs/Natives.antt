-- What the built-in calls leave.
use Rattle.std.proofs.Common.{◌≡◌, ◌⊎◌, inl, inr, suc, pos, true, false, not, List, [], ◌∷◌, Option, refl, sym, subst}
use Rattle.std.specs.Ordering.{int_eq}
use Rattle.ck_values.specs.Datum.{Datum, AnInt, AFloat, ADur, AText, ARef}
use Rattle.ck_typed.specs.declared.native.Native.{Native}
use Rattle.ck_typed.specs.declared.native.Native.TheVariants.{ShredId, Signal, Broadcast, Remove, Size, Clear, Length, CharAt, Substring, Abs, Fabs, Random2, Random2f, Srandom, KeyOn, KeyOff, KeyOnWhere, KeyOffWhere, SetAdsr}
use Rattle.ck_store.specs.Store.{Object, Store, State, Act, Sporked, WokeOne, WokeAll, Removed, Try, Gives, Fails, Misfit}
use Rattle.ugen_kinds.specs.declared.generator.Generator.{Generator}
use Rattle.ugen_kinds.specs.Generator.{keyed, staged}
use Rattle.ck_store.specs.Steps.{and_then, found}
use Rattle.ck_store.specs.Strings.{char_at, substring}
use Rattle.ck_store.specs.Objects.{with_object}
use Rattle.ck_store.specs.Arrays.{Line, array_at, with_items, item_count, cleared}
use Rattle.ck_store.specs.Shreds.{with_act, event_of, shred_of}
use Rattle.ck_store.specs.Graph.{unit_of, generator_changed}
use Rattle.ck_store.specs.Natives.{Given as Result, plain, acting, leaving, native}
use Rattle.ck_store.specs.Operators.{wrapped}

-- what a step gives, if it gives something
abbrev pub Given : {A : Type 0} → (A → Type 0) → Try A → Type 0
Given P (Gives a) = P a
Given P _ = Unit {0}

-- what a step after a step gives
pub given_then : {A B : Type 0} (P : B → Type 0) (t : Try A) (go : A → Try B)
    → ((a : A) → Given P (go a)) → Given P (and_then t go)
given_then P (Gives a) go next = next a
given_then P (Fails trap) go next = tt
given_then P Misfit go next = tt

-- a state with the objects, the unit generators and the random words of another store
abbrev pub with_work : State → Store → State
with_work s store = record s {
  store = record s.store {
    objects = store.objects;
    units = store.units;
    words = store.words;
  };
}

-- a store in which an object was replaced is the same but for the objects
pub object_keeps : (store : Store) (r : Datum) (o : Object)
    → with_object store r o ≡ record store { objects = (with_object store r o).objects }
object_keeps store (ARef (suc n)) o = refl
object_keeps store _ o = refl

-- the act sporks no shred
abbrev pub IsNoSpork : Act → Type 0
IsNoSpork (Sporked number f arguments) = ⊥
IsNoSpork _ = Unit {0}

-- nothing changed but the objects, the unit generators and the random words; or nothing at all, and
-- an act was recorded that sporks no shred
abbrev pub KeepsRest : State → Result → Type 0
KeepsRest s given =
    (given.state ≡ with_work s given.state.store)
    ⊎ ((act : Act) × IsNoSpork act × (given.state ≡ with_act act s))

plainly : {A : Type 0} (s : State) (t : Try A) (value : A → Datum)
    → Given (KeepsRest s) (and_then t (λ a. Gives (plain s (value a))))
plainly s t value = given_then (KeepsRest s) t _ (λ a. inl refl)

acting_so : {A : Type 0} (s : State) (t : Try A) (act : A → Act) (value : A → Datum)
    → ((a : A) → IsNoSpork (act a))
    → Given (KeepsRest s) (and_then t (λ a. Gives (acting s (act a) (value a))))
acting_so s t act value none = given_then (KeepsRest s) t _ (λ a. inr (act a, none a, refl))

-- a step leaves another store, which differs in its work alone
leaving_so : (s : State) (t : Try Store)
    → Given (λ store. record s { store = store } ≡ with_work s store) t
    → Given (KeepsRest s) (leaving s t)
leaving_so s (Gives store) same = inl same
leaving_so s (Fails trap) same = tt
leaving_so s Misfit same = tt

clear_keeps : (r : Datum) (s : State) → Given (KeepsRest s) (leaving s (cleared s.store r))
unfolding cleared
clear_keeps r s = leaving_so s _ (cleared_by (array_at s.store.objects r))
  where
    cleared_by : (t : Try Line)
        → Given (λ store. record s { store = store } ≡ with_work s store)
        (and_then t (λ line. Gives (with_items s.store r line [])))
    cleared_by t =
        given_then (λ store. record s { store = store } ≡ with_work s store) t _ (λ line.
        subst (λ store. record s { store = store } ≡ with_work s store)
        (sym (object_keeps s.store r _)) refl)

changed_keeps : (change : Generator → Option Generator) (u : Datum) (s : State)
    → Given (KeepsRest s) (leaving s (generator_changed change u s.store))
unfolding generator_changed
changed_keeps change u s =
    leaving_so s _ (given_then (λ store. record s { store = store } ≡ with_work s store)
    (unit_of s.store u) _ (λ at.
    given_then (λ store. record s { store = store } ≡ with_work s store)
    (found (change at.unit.generator)) _ (λ generator. refl)))

-- none changes anything else
pub native_keeps : (call : Native) (operands : List Datum) (s : State)
    → Given (KeepsRest s) (native call operands s)
unfolding native
native_keeps ShredId (v ∷ []) s = plainly s (shred_of v) (λ n. AnInt (wrapped (pos n)))
native_keeps Signal (r ∷ []) s = acting_so s (event_of r) WokeOne (λ n. AnInt (pos 0)) (λ n. tt)
native_keeps Broadcast (r ∷ []) s =
    acting_so s (event_of r) WokeAll (λ n. AnInt (pos 0)) (λ n. tt)
native_keeps Remove (AnInt n ∷ []) s = inr (Removed n, tt, refl)
native_keeps Abs (AnInt n ∷ []) s = inl refl
native_keeps Fabs (AFloat x ∷ []) s = inl refl
native_keeps Length (AText bytes ∷ []) s = inl refl
native_keeps CharAt (AText bytes ∷ AnInt i ∷ []) s =
    plainly s (char_at bytes i) (λ byte. AnInt byte)
native_keeps Substring (AText bytes ∷ AnInt start ∷ AnInt count ∷ []) s =
    plainly s (substring bytes start count) (λ part. AText part)
native_keeps Size (r ∷ []) s = plainly s (item_count s.store.objects r) (λ n. n)
native_keeps Clear (r ∷ []) s = clear_keeps r s
native_keeps Random2 (AnInt a ∷ AnInt b ∷ []) s = inl refl
native_keeps Random2f (AFloat a ∷ AFloat b ∷ []) s = inl refl
native_keeps Srandom (AnInt n ∷ []) s = inl refl
native_keeps KeyOn (u ∷ []) s = changed_keeps (keyed true) u s
native_keeps KeyOff (u ∷ []) s = changed_keeps (keyed false) u s
native_keeps KeyOnWhere (u ∷ AnInt n ∷ []) s =
    changed_keeps (keyed (not (int_eq n (pos 0)))) u s
native_keeps KeyOffWhere (u ∷ AnInt n ∷ []) s = changed_keeps (keyed (int_eq n (pos 0))) u s
native_keeps SetAdsr (u ∷ ADur a ∷ ADur d ∷ AFloat level ∷ ADur r ∷ []) s =
    changed_keeps (staged a d level r) u s
native_keeps call operands s = tt
