-- The classes of a program that was checked are well formed.
use Rattle.std.proofs.Common.{◌≡◌, ℕ, ◌<◌, List, [], ◌∷◌, length, drop, All, Option, Some, None}
use Rattle.std.proofs.Common.{slice_get, sym, ap, ◌∙◌, subst, arith}
use Rattle.std.proofs.lemmas.Option.{slice_get_within}
use Rattle.ck_values.specs.declared.kind.Elem.{Elem}
use Rattle.ck_values.specs.declared.kind.Elem.TheVariants as elem
use Rattle.ck_values.specs.declared.kind.Kind.{Kind}
use Rattle.ck_values.specs.declared.kind.Kind.TheVariants.{Void, Null, One, Row, Grid}
use Rattle.ck_typed.specs.declared.class.Class.{Class}
use Rattle.ck_typed.specs.Tree.{Fun, Program}
use Rattle.type_rules.specs.Fitting.{parent_or}
use Rattle.type_table.specs.Finished.{all_fields, all_slots, finished_class, finished_classes}
use Rattle.type_table.specs.Table.{or_no_head, class_of, fun_of, line, parent}
use Rattle.type_table.proofs.Ranges.{Each, ElemIn, ValueIn, many}
use Rattle.first_walk.proofs.TableFacts.{Entry, owners_of, IsBodyOf}
use Rattle.program_laws.specs.Programs.{Checked, program_of}
use Rattle.ck_typed.specs.Standing.{given}
use Rattle.ck_typed.specs.Standing.{IsBelow}
use Rattle.ck_typed.specs.WellFormed.{IsNamed, IsValueKind, FoundWhere, params_of, IsBody, IsVirtual}
use Rattle.ck_typed.specs.WellFormed.{AreSame, Extends, IsFineClass, IsBelowObject}
use Rattle.program_laws.proofs.BelowOf.{parent_in, below_of}
use Rattle.program_laws.proofs.Found.{some_is, found_where, all_within, each_at, each_more, all_of}
use Rattle.program_laws.proofs.Known.{IsNumbered, IsTyped, later_self, typed_fun}
use Rattle.program_laws.proofs.TableLaws.{IsSlotOf, ClassLaws, LaterLaws}

-- a kind with classes of the table has classes of the program
pub elem_of : (p : Program) (n : ℕ) → n ≡ length p.classes → (e : Elem) → ElemIn n e → IsNamed p.classes e
elem_of p n are (elem.Class c) is = subst (λ m. c < m) are is
elem_of p n are _ is = tt

pub value_of : (p : Program) (n : ℕ) → n ≡ length p.classes → (k : Kind) → ValueIn n k
    → IsValueKind p.classes k
value_of p n are Void is = is
value_of p n are Null is = is
value_of p n are (One e) is = elem_of p n are e is
value_of p n are (Row e) is = elem_of p n are e is
value_of p n are (Grid e) is = elem_of p n are e is

module _ (c : Checked) (entries : List Entry) (numbered : IsNumbered c entries)
    (laws : ClassLaws c.table (owners_of entries)) (later : LaterLaws c.table c.table) where
  pub values_of : (ks : List Kind) → Each (ValueIn (many c.table)) ks
      → All (IsValueKind (program_of c).classes) ks
  values_of ks are =
      all_of (IsValueKind (program_of c).classes) ks
      (each_more (ValueIn (many c.table)) (IsValueKind (program_of c).classes) ks
      (value_of (program_of c) (many c.table) (sym laws.finished_length)) are)

  pub typed_of : (f : ℕ) (o : Option ℕ) → slice_get (owners_of entries) f ≡ Some o
      → (fn : Fun) × (slice_get c.funs f ≡ Some fn) × IsTyped c c.table o f fn
  typed_of =
      typed_fun c entries numbered c.table (owners_of entries) numbered.table
      (all_within (owners_of entries)) (later_self c.table)

  pub slot_owned : (k s f : ℕ) → k < many c.table
      → slice_get (all_slots c.table (line c.table k)) s ≡ Some f
      → IsSlotOf c.table (owners_of entries) k f
  slot_owned k s f lt is =
      each_at (IsSlotOf c.table (owners_of entries) k) (all_slots c.table (line c.table k)) s f
      (laws.virtuals_are k lt) is

  -- a slot of the parent has a function of the same types in the class
  pub slot_kept : (k s g : ℕ) → k < many c.table
      → slice_get (all_slots c.table (line c.table (parent c.table k))) s ≡ Some g
      → FoundWhere (slice_get (all_slots c.table (line c.table k)) s)
      (λ f. AreSame (program_of c) f g)
  slot_kept k s g lt is =
      let f = laws.slots_extend k s g lt is in
      let own = slot_owned k s f.0 lt f.1 in
      let above =
      slot_owned (parent c.table k) s g
      (parent_in c.table (owners_of entries) numbered.table laws k lt) is in
      let fn = typed_of f.0 (Some own.0) own.1 in
      let old = typed_of g (Some above.0) above.1 in
      found_where (λ h. AreSame (program_of c) h g)
      (slice_get (all_slots c.table (line c.table k)) s) f.0 f.1
      (found_where (λ (x : Fun). FoundWhere (slice_get c.funs g)
      (λ (y : Fun). (drop 1 (params_of x) ≡ drop 1 (params_of y)) × (x.result ≡ y.result)))
      (slice_get c.funs f.0) fn.0 fn.1
      (found_where (λ (y : Fun). (drop 1 (params_of fn.0) ≡ drop 1 (params_of y))
      × (fn.0.result ≡ y.result)) (slice_get c.funs g) old.0 old.1 (
        ap (drop 1) fn.2.0 ∙ f.2.0 ∙ sym (ap (drop 1) old.2.0),
        fn.2.1 ∙ ap given f.2.1 ∙ sym old.2.1,
      )))

  pub virtual_is : (k f : ℕ) → k < many c.table → IsSlotOf c.table (owners_of entries) k f
      → IsVirtual (program_of c) k f
  virtual_is k f lt own =
      let fn = typed_of f (Some own.0) own.1 in
      found_where (λ (x : Fun). (a : ℕ) × (ks : List Kind) × (params_of x ≡ One (elem.Class a) ∷ ks)
      × IsBelow (finished_classes c.table) k a) (slice_get c.funs f) fn.0 fn.1 (
        own.0,
        (fun_of c.table f).params,
        fn.2.0,
        below_of c.table (owners_of entries) numbered.table laws k own.0 lt own.2,
      )

  pub body_is : (k : ℕ) (body : Option ℕ) → IsBodyOf c.table (owners_of entries) k body
      → IsBody (program_of c) k body
  body_is k None is = tt
  body_is k (Some f) is =
      let fn = typed_of f (Some k) is.0 in
      found_where (λ (x : Fun). params_of x ≡ One (elem.Class k) ∷ [])
      (slice_get c.funs f) fn.0 fn.1
      (fn.2.0 ∙ ap (λ o. One (elem.Class k) ∷ (or_no_head o).params) is.1)

  pub class_fine : (k : ℕ) → k < many c.table
      → IsFineClass (program_of c) k (finished_class c.table k)
  class_fine k lt =
      record {
        parent =
            let above = parent_in c.table (owners_of entries) numbered.table laws k lt in
            found_where (λ (above_class : Class). Extends (program_of c)
            (finished_class c.table k) above_class)
            (slice_get (finished_classes c.table) (parent c.table k))
            (finished_class c.table (parent c.table k))
            (laws.finished (parent c.table k) above)
            (record { fields = laws.extends k lt; slots = λ s g is. slot_kept k s g lt is });
        line =
            below_of c.table (owners_of entries) numbered.table laws k 0 lt
            (later.below k 0 lt (numbered.table.lines k lt));
        fields = values_of (all_fields c.table (line c.table k)) (laws.fields_in k lt);
        virtuals =
            all_of (IsVirtual (program_of c) k) (all_slots c.table (line c.table k))
            (each_more (IsSlotOf c.table (owners_of entries) k) (IsVirtual (program_of c) k)
            (all_slots c.table (line c.table k)) (λ f own. virtual_is k f lt own)
            (laws.virtuals_are k lt));
        body = body_is k (class_of c.table k).body (numbered.table.classes k lt).body;
      }

  -- each class is well formed
  pub classes : (k : ℕ) (class : Class) → slice_get (finished_classes c.table) k ≡ Some class
      → IsFineClass (program_of c) k class
  classes k class is =
      let lt =
      subst (λ n. k < n) laws.finished_length
      (slice_get_within (finished_classes c.table) k class is) in
      subst (IsFineClass (program_of c) k) (some_is (sym (laws.finished k lt) ∙ is))
      (class_fine k lt)

  -- Object and Event stand below Object
  pub below_object : (k : ℕ) → k < many c.table → slice_get c.table.parents k ≡ Some 0
      → IsBelowObject (program_of c) k
  below_object k lt is =
      found_where (λ (class : Class). class.parent ≡ 0) (slice_get (finished_classes c.table) k)
      (finished_class c.table k) (laws.finished k lt) (ap parent_or is)

  pub object : IsBelowObject (program_of c) 0
  object = below_object 0 (omega (arith, numbered.table.two)) numbered.table.object

  pub event : IsBelowObject (program_of c) 1
  event = below_object 1 (omega (arith, numbered.table.two)) numbered.table.event
