-- What class tables and objects keep: the fields and slots of the classes above, and a store that
-- fits as an object is made or one of its fields is set.
use Rattle.std.proofs.Common.{◌≡◌, ℕ, zero, suc, ◌<◌, ◌≤◌, List, [], ◌∷◌, ◌++◌, length, drop, map, Option, Some, None, refl, sym, ap, ◌∙◌, subst, arith, slice_get, slice_set, option_and_then}
use Rattle.std.proofs.lemmas.List.{length-take}
use Rattle.std.proofs.lemmas.Option.{slice_get_within}
use Rattle.ck_values.specs.declared.kind.Elem.TheVariants.{Class as ClassElem}
use Rattle.ck_values.specs.declared.kind.Kind.{Kind}
use Rattle.ck_values.specs.declared.kind.Kind.TheVariants.{One}
use Rattle.ck_values.specs.Datum.{Datum, ARef, first_value}
use Rattle.ugen_sample.specs.UnitState.{Units, unit_at}
use Rattle.ck_store.specs.Store.{Object, shape, Instance, Items, UnitGenerator, OfClass, Shapes, shape_at, Store, shapes_of}
use Rattle.ck_store.specs.Steps.{and_then, found}
use Rattle.ck_store.specs.Objects.{Inside, inside_of, referred, field_of, with_object, with_field, added, object_made, method_of}
use Rattle.ck_typed.specs.declared.class.Class.{Class}
use Rattle.ck_typed.specs.Standing.{IsBelow, itself, step}
use Rattle.ck_typed.specs.WellFormed.{FoundWhere}
use Rattle.ck_code.specs.declared.code.Fun.{Fun}
use Rattle.ck_code.specs.declared.code.CodeParts.{CodeParts}
use Rattle.ck_code.specs.Verified.{Typing, HasField, HasSlot, params_of, HaveSameTypes, IsVerified}
use Rattle.ck_code.specs.Fitting.{IsOfClass, Suits, Suit, IsFitObject, IsFitStore}
use Rattle.ck_code.proofs.Standing.{found_is, where_found, same_found, found_more, refers_more}
use Rattle.ck_code.proofs.Suiting.{Fine, fine_then, fine_map, suit_get, suit_set, first_all}
use Rattle.ck_code.proofs.Placed.{of_unit}
use Rattle.ck_code.proofs.Tables.{Grown, IsAdded, Makes, get_within, set_grown, added_fine}

-- the front of a list
get_front : {A : Type 0} (xs ys : List A) (i : ℕ) (x : A) → slice_get xs i ≡ Some x
    → slice_get (xs ++ ys) i ≡ Some x
get_front [] ys i x e = absurd (cc)
get_front (y ∷ xs) ys zero x e = e
get_front (y ∷ xs) ys (suc i) x e = get_front xs ys i x e

-- the instance that a value refers to, which is of a class or one below it
record IsInside (classes : List Class) (objects : List Object) (r : Datum) (c : ℕ)
    (o : Inside) : Type 0 where
  n : ℕ
  is : r ≡ ARef (suc n)
  at : slice_get objects n ≡ Some (Instance o.class o.fields)
  below : IsBelow classes o.class c

inside_so : (classes : List Class) (units : Units) (objects : List Object) (n c : ℕ)
    (o : Option Object) → slice_get objects n ≡ o
    → FoundWhere (option_and_then (shape units) o) (IsOfClass classes c)
    → Fine (IsInside classes objects (ARef (suc n)) c) (inside_of o)
inside_so classes units objects n c None e h = absurd h
inside_so classes units objects n c (Some (Instance d fields)) e h =
    record { n = n; is = refl; at = e; below = h }
inside_so classes units objects n c (Some (Items el b items)) e h = absurd h
inside_so classes units objects n c (Some (UnitGenerator place)) e h =
    let unit = found_is (unit_at units place) _ (of_unit (IsOfClass classes c) units place h) in
    absurd unit.2

referred_fine : (classes : List Class) (units : Units) (objects : List Object) (r : Datum) (c : ℕ)
    → Suits classes (shape_at units objects) (One (ClassElem c)) r
    → Fine (IsInside classes objects r c) (referred objects r)
unfolding referred
referred_fine classes units objects (ARef zero) c h = tt
referred_fine classes units objects (ARef (suc n)) c h =
    inside_so classes units objects n c (slice_get objects n) refl h
referred_fine classes units objects _ c h = absurd h

module _ (code : CodeParts) (verified : IsVerified code) where
  abbrev classes : List Class
  classes = code.classes

  abbrev typing : Typing
  typing = verified.typing

  -- tables ----------------------------------------------------------------------------------------

  -- a class has the fields of the classes above it
  field_below : {c d : ℕ} → IsBelow classes c d → (i : ℕ) (k : Kind)
      → HasField code d i (λ j. j ≡ k) → HasField code c i (λ j. j ≡ k)
  field_below itself i k h = h
  field_below {c} (step class at below) i k h =
      let parent = found_is (slice_get classes class.parent) _
      (verified.classes c class at).parent in
      let above = same_found (slice_get classes class.parent) _ parent.0 parent.1
      (field_below below i k h) in
      let field = found_is (slice_get parent.0.fields i) _ above in
      let here : slice_get class.fields i ≡ Some field.0 =
      ap (λ l. slice_get l i) parent.2.fields.1
      ∙ get_front parent.0.fields parent.2.fields.0 i field.0 field.1 in
      where_found (slice_get classes c) _ class at
      (where_found (slice_get class.fields i) _ field.0 here field.2)

  same_trans : (f g h : ℕ) → HaveSameTypes code typing f g → HaveSameTypes code typing g h
      → HaveSameTypes code typing f h
  same_trans f g h a b =
      let fn = found_is (slice_get code.funs f) _ a in
      let gn = found_is (slice_get code.funs g) _ fn.2 in
      let hn = found_is (slice_get code.funs h) _
      (same_found (slice_get code.funs g) _ gn.0 gn.1 b) in
      where_found (slice_get code.funs f) _ fn.0 fn.1
      (where_found (slice_get code.funs h) _ hn.0 hn.1 (gn.2.0 ∙ hn.2.0, gn.2.1 ∙ hn.2.1))

  -- a slot of a class has a function of the types of that above
  slot_below : {c d : ℕ} → IsBelow classes c d → (s g : ℕ) → HaveSameTypes code typing g g
      → FoundWhere (slice_get classes d) (λ class. slice_get class.virtuals s ≡ Some g)
      → FoundWhere (slice_get classes c) (λ class.
      FoundWhere (slice_get class.virtuals s) (λ f. HaveSameTypes code typing f g))
  slot_below {c} itself s g same h =
      found_more (slice_get classes c) _ _ (λ class e.
      where_found (slice_get class.virtuals s) _ g e same) h
  slot_below {c} (step class at below) s g same h =
      let parent = found_is (slice_get classes class.parent) _
      (verified.classes c class at).parent in
      let above = found_is (slice_get parent.0.virtuals s) _
      (same_found (slice_get classes class.parent) _ parent.0 parent.1
      (slot_below below s g same h)) in
      let own = found_is (slice_get class.virtuals s) _ (parent.2.slots s above.0 above.1) in
      where_found (slice_get classes c) _ class at
      (where_found (slice_get class.virtuals s) _ own.0 own.1
      (same_trans own.0 above.0 g own.2 above.2))

  -- fields ----------------------------------------------------------------------------------------

  -- a field suits its kind
  pub field_fine : (store : Store) (r : Datum) (c i : ℕ) (k : Kind) → IsFitStore code store
      → Suits classes (shapes_of store) (One (ClassElem c)) r → HasField code c i (λ j. j ≡ k)
      → Fine (Suits classes (shapes_of store) k) (field_of store r i)
  unfolding field_of
  field_fine store r c i k fit suits has =
      fine_then (IsInside classes store.objects r c) (Suits classes (shapes_of store) k)
      (referred store.objects r) _ (referred_fine classes store.units store.objects r c suits) (λ o is.
      let class = found_is (slice_get classes o.class) _ (field_below is.below i k has) in
      let field = found_is (slice_get class.0.fields i) _ class.2 in
      let inside = same_found (slice_get classes o.class) (λ class.
      Suit classes (shapes_of store) class.fields o.fields) class.0 class.1
      (fit.objects.each is.n _ is.at) in
      subst (λ x. Fine (Suits classes (shapes_of store) x) (found (slice_get o.fields i))) field.2
      (suit_get classes (shapes_of store) class.0.fields o.fields i field.0 inside field.1))

  -- a store with one field replaced fits
  pub with_field_fine : (store : Store) (r : Datum) (c i : ℕ) (k : Kind) (v : Datum)
      → IsFitStore code store → Suits classes (shapes_of store) (One (ClassElem c)) r
      → HasField code c i (λ j. j ≡ k) → Suits classes (shapes_of store) k v
      → Fine (Grown code store) (with_field store r i v)
  unfolding with_field
  with_field_fine store r c i k v fit suits has is_v =
      fine_then (IsInside classes store.objects r c) (Grown code store)
      (referred store.objects r) _ (referred_fine classes store.units store.objects r c suits) (λ o is.
      let class = found_is (slice_get classes o.class) _ (field_below is.below i k has) in
      let field = found_is (slice_get class.0.fields i) _ class.2 in
      let inside = same_found (slice_get classes o.class) (λ class.
      Suit classes (shapes_of store) class.fields o.fields) class.0 class.1
      (fit.objects.each is.n _ is.at) in
      let suits_v : Suits classes (shapes_of store) field.0 v =
      subst (λ x. Suits classes (shapes_of store) x v) (sym field.2) is_v in
      fine_then (Suits classes (shapes_of store) field.0) (Grown code store)
      (found (slice_get o.fields i)) _
      (suit_get classes (shapes_of store) class.0.fields o.fields i field.0 inside field.1) (λ old was.
      let new : Object = Instance o.class (slice_set o.fields i v) in
      let again : IsFitObject classes (shapes_of store) new =
      where_found (slice_get classes o.class) (λ class.
      Suit classes (shapes_of store) class.fields (slice_set o.fields i v)) class.0 class.1
      (suit_set classes (shapes_of store) class.0.fields o.fields i field.0 v inside field.1 suits_v) in
      subst (λ x. Grown code store (with_object store x new)) (sym is.is)
      (set_grown code store is.n (Instance o.class o.fields) new fit is.at refl again)))

  -- new objects -----------------------------------------------------------------------------------

  -- an object of a class
  pub object_made_fine : (store : Store) (c : ℕ) → c < length classes → IsFitStore code store
      → Fine (Makes code store (One (ClassElem c))) (object_made classes c store)
  unfolding object_made
  object_made_fine store c lt fit =
      at_class (slice_get classes c) refl (get_within classes c lt)
    where
      made_fine : (class : Class) → slice_get classes c ≡ Some class
          → Fine (Makes code store (One (ClassElem c)))
          (added (Instance c (map first_value class.fields)) store)
      made_fine class at =
          let new : Object = Instance c (map first_value class.fields) in
          let fields =
          first_all classes (shapes_of store) class.fields (verified.classes c class at).fields in
          let fits : IsFitObject classes (shapes_of store) new =
          where_found (slice_get classes c) (λ class1.
          Suit classes (shapes_of store) class1.fields (map first_value class.fields)) class at
          fields in
          fine_map (IsAdded code store (OfClass c)) (Makes code store (One (ClassElem c)))
          (added new store)
          (added_fine code store new (OfClass c) fit fits refl) (λ made h. (
            refers_more classes (shapes_of made.store) (λ y. y ≡ OfClass c) (IsOfClass classes c)
                (λ y e. subst (IsOfClass classes c) (sym e) itself) made.reference h.0,
            h.1,
          ))

      at_class : (o : Option Class) → slice_get classes c ≡ o
          → (x : Class) × (slice_get classes c ≡ Some x)
          → Fine (Makes code store (One (ClassElem c))) (and_then (found o) (λ class.
          added (Instance c (map first_value class.fields)) store))
      at_class None e there = absurd (cc (there.1, e))
      at_class (Some class) e there = made_fine class e

  -- slots -----------------------------------------------------------------------------------------

  -- the function that was found for an object: it takes the object, and besides it what that of
  -- the slot takes
  pub record IsMethod (shapes : Shapes) (r : Datum) (old : Fun) (result : Kind)
      (f : ℕ) : Type 0 where
    pub fn : Fun
    pub at : slice_get code.funs f ≡ Some fn
    pub result_is : slice_get typing.results f ≡ Some result
    pub this : Kind
    pub others : List Kind
    pub params : params_of fn ≡ this ∷ others
    pub takes : Suits classes shapes this r
    pub same : others ≡ drop 1 (params_of old)

  -- what stands in a slot of a class
  pub record SlotIs (c slot : ℕ) (P : Fun → Kind → Type 0) : Type 0 where
    pub class : Class
    pub at : slice_get classes c ≡ Some class
    pub g : ℕ
    pub at_slot : slice_get class.virtuals slot ≡ Some g
    pub old : Fun
    pub at_fun : slice_get code.funs g ≡ Some old
    pub result : Kind
    pub at_result : slice_get typing.results g ≡ Some result
    pub count : suc (length (drop 1 (params_of old))) ≡ old.params
    pub holds : P old result

  counted : (fn : Fun) (this : Kind) (others : List Kind) → fn.params ≤ length fn.locals
      → params_of fn ≡ this ∷ others → suc (length (drop 1 (params_of fn))) ≡ fn.params
  counted fn this others le is =
      let one : length (drop 1 (params_of fn)) ≡ length others = ap (λ l. length (drop 1 l)) is in
      omega (arith, length-take fn.params fn.locals, ap length is, one)

  pub slot_is : (c slot : ℕ) (P : Fun → Kind → Type 0) → HasSlot code typing c slot P
      → SlotIs c slot P
  slot_is c slot P h =
      let class = found_is (slice_get classes c) _ h in
      let g = found_is (slice_get class.0.virtuals slot) _ class.2 in
      let old = found_is (slice_get code.funs g.0) _ g.2 in
      let result = found_is (slice_get typing.results g.0) _ old.2 in
      let virtual = same_found (slice_get code.funs g.0) _ old.0 old.1
      ((verified.classes c class.0 class.1).virtuals slot g.0 g.1) in
      let within : g.0 < length typing.operands =
      omega (arith, slice_get_within code.funs g.0 old.0 old.1, verified.same_places) in
      let places = get_within typing.operands g.0 within in
      let fun = verified.funs g.0 old.0 places.0 old.1 places.1 in
      record {
        class = class.0;
        at = class.1;
        g = g.0;
        at_slot = g.1;
        old = old.0;
        at_fun = old.1;
        result = result.0;
        at_result = result.1;
        count = counted old.0 (One (ClassElem virtual.0)) virtual.1 fun.params virtual.2;
        holds = result.2;
      }

  module _ (units : Units) (objects : List Object) (r : Datum) (c slot : ℕ)
      (P : Fun → Kind → Type 0) (has : SlotIs c slot P) where
    abbrev shapes : Shapes
    shapes = shape_at units objects

    -- for an instance of the class or of one below it
    method_of_inside : (o : Inside) → IsInside classes objects r c o
        → Fine (IsMethod shapes r has.old has.result)
        (and_then (found (slice_get classes o.class))
        (λ class. found (slice_get class.virtuals slot)))
    method_of_inside o is =
        let same : HaveSameTypes code typing has.g has.g =
        where_found (slice_get code.funs has.g) _ has.old has.at_fun
        (where_found (slice_get code.funs has.g) _ has.old has.at_fun (refl, refl)) in
        let slots = slot_below is.below slot has.g same
        (where_found (slice_get classes c) (λ class.
        slice_get class.virtuals slot ≡ Some has.g) has.class has.at has.at_slot) in
        let own = found_is (slice_get classes o.class) _ slots in
        let f = found_is (slice_get own.0.virtuals slot) _ own.2 in
        let fn = found_is (slice_get code.funs f.0) _ f.2 in
        let as_old = same_found (slice_get code.funs has.g) _ has.old has.at_fun fn.2 in
        let virtual = same_found (slice_get code.funs f.0) _ fn.0 fn.1
        ((verified.classes o.class own.0 own.1).virtuals slot f.0 f.1) in
        let shaped : shapes is.n ≡ Some (OfClass o.class) =
        ap (option_and_then (shape units)) is.at in
        let method : IsMethod shapes r has.old has.result f.0 = record {
          fn = fn.0;
          at = fn.1;
          result_is = as_old.1 ∙ has.at_result;
          this = One (ClassElem virtual.0);
          others = virtual.1;
          params = virtual.2;
          takes = subst (λ x. Suits classes shapes (One (ClassElem virtual.0)) x) (sym is.is)
              (where_found (shapes is.n) (IsOfClass classes virtual.0) (OfClass o.class)
              shaped virtual.3);
          same = ap (drop 1) (sym virtual.2) ∙ as_old.0;
        } in
        subst (λ x. Fine (IsMethod shapes r has.old has.result)
        (and_then (found x) (λ class. found (slice_get class.virtuals slot)))) (sym own.1)
        (subst (λ x. Fine (IsMethod shapes r has.old has.result) (found x)) (sym f.1) method)

    -- for whatever suits the class
    pub method_fine : Suits classes shapes (One (ClassElem c)) r
        → Fine (IsMethod shapes r has.old has.result) (method_of classes objects r slot)
    unfolding method_of
    method_fine suits =
        fine_then (IsInside classes objects r c) (IsMethod shapes r has.old has.result)
        (referred objects r) _ (referred_fine classes units objects r c suits) method_of_inside
