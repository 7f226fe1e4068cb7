-- One object is changed.
use Rattle.std.proofs.Common.{◌≡◌, ℕ, ◌-◌, ◌<◌, List, [], ◌∷◌, ◌++◌, length, Option, Some, None, IfSome, slice_get, slice_set, slice_index_or, refl, ap, ◌∙◌}
use Rattle.std.proofs.lemmas.Option.{slice_get_read}
use Rattle.ck_values.specs.declared.reference.Ref.{Ref}
use Rattle.ck_values.specs.declared.value.Value.{Value}
use Rattle.object_heap.specs.declared.body.Body.{Body}
use Rattle.object_heap.specs.Objects.{Objects, object, values_of, with_body, with_values}

-- the object's body is the one that was read
pub found : (h k : Objects) (at : Ref) (slot : ℕ) (read : Body) → k ≡ h → slot < length h.bodies
    → object h at ≡ slice_get h.bodies slot → read ≡ slice_index_or k.bodies slot read
    → object h at ≡ Some read
found h k at slot read same within is value =
    is ∙ slice_get_read h.bodies _ slot read refl within
    (value ∙ ap (λ (objects : Objects). slice_index_or objects.bodies slot read) same)

-- the objects with the changed body
pub changed : (h k : Objects) (at : Ref) (slot : ℕ) (new body : Body) → k ≡ h
    → slot ≡ at.serial - h.first → new ≡ body
    → (record k { bodies = slice_set k.bodies slot new }) ≡ with_body h at body
changed h k at slot new body same place is = rw (same, place, is) refl

-- what is left of an array without its last item
pub shorter : (o : Option Value) (h new : Objects) (at : Ref) (read rest : Body)
    → object h at ≡ Some read
    → IfSome o (λ v. values_of read ≡ values_of rest ++ v ∷ [])
    → new ≡ with_body h at (with_values read (values_of rest))
    → IfSome o (λ v. IfSome (object h at) (λ body. (items : List Value)
    × (values_of body ≡ items ++ v ∷ []) × (new ≡ with_body h at (with_values body items))))
shorter None h new at read rest is last made = last
shorter (Some v) h new at read rest is last made = rw is (values_of rest, last, made)
