-- No class of a checked program has more than 128 ancestors, so the making of an object runs no more
-- functions of statements in braces.
use Rattle.std.proofs.Common.{◌≡◌, ℕ, zero, suc, ◌<◌, ◌≤◌, Bool, true, false, ◌||◌, nat_eq, List, [], ◌++◌, length}
use Rattle.std.proofs.Common.{Option, Some, None, slice_get, refl, sym, ap, ◌∙◌, subst, zero-le, arith, length-append}
use Rattle.std.proofs.lemmas.Bool.{eqb-true}
use Rattle.std.proofs.lemmas.Option.{slice_get_within}
use Rattle.ck_base.specs.declared.limits.TheConstants.{MAX_ANCESTORS}
use Rattle.ck_store.specs.Objects.{own_body, with_class, bodies_within, bodies_of}
use Rattle.ck_typed.specs.declared.class.Class.{Class}
use Rattle.type_rules.specs.Fitting.{below, is_below}
use Rattle.type_table.specs.Finished.{finished_classes}
use Rattle.type_table.specs.Table.{Table, parent}
use Rattle.type_table.proofs.Ranges.{many}
use Rattle.first_walk.proofs.TableFacts.{IsTable}
use Rattle.program_laws.proofs.Found.{some_is}
use Rattle.program_laws.proofs.TableLaws.{ClassLaws}

own_few : (body : Option ℕ) → length (own_body body) ≤ 1
own_few None = omega arith
own_few (Some f) = omega arith

-- a class that isn't there has none
absent : (classes : List Class) (n c : ℕ) → slice_get classes c ≡ None → bodies_within classes n c ≡ []
absent classes zero c is = refl
absent classes (suc n) zero is = refl
absent classes (suc n) (suc c) is = ap (λ (o : Option Class). with_class o []
    (λ class. bodies_within classes n class.parent ++ own_body class.body)) is

module _ (t : Table) (owners : List (Option ℕ)) (table : IsTable t owners)
    (laws : ClassLaws t owners) where
  abbrev classes : List Class
  classes = finished_classes t

  there : (c : ℕ) (class : Class) → slice_get classes c ≡ Some class → c < many t
  there c class is = subst (λ n. c < n) laws.finished_length (slice_get_within classes c class is)

  parent_is : (c : ℕ) (class : Class) → slice_get classes c ≡ Some class → class.parent ≡ parent t c
  parent_is c class is = ap (λ (k : Class). k.parent) (some_is (sym is ∙ laws.finished c (there c class is)))

  -- a class that isn't Object stands above it where its parent does
  beyond : (steps c : ℕ) → below t.parents (suc steps) (suc c) 0 ≡ true
      → below t.parents steps (parent t (suc c)) 0 ≡ true
  beyond steps c is = go (nat_eq (suc c) 0) refl is
    where
      go : (b : Bool) → nat_eq (suc c) 0 ≡ b → b || below t.parents steps (parent t (suc c)) 0 ≡ true
          → below t.parents steps (parent t (suc c)) 0 ≡ true
      go true at so = absurd (omega (arith, eqb-true (suc c) 0 at))
      go false at so = so

  -- as many as the class has steps to Object
  bodies_by : (steps n c : ℕ) → below t.parents steps c 0 ≡ true → length (bodies_within classes n c) ≤ steps
  bodies_by steps zero c is = zero-le
  bodies_by steps (suc n) zero is = zero-le
  bodies_by zero (suc n) (suc c) is = absurd (omega (arith, eqb-true (suc c) 0 is))
  bodies_by (suc steps) (suc n) (suc c) is = go (slice_get classes (suc c)) refl (λ k above. bodies_by steps n k above)
    where
      go : (o : Option Class) → slice_get classes (suc c) ≡ o → ((k : ℕ) → below t.parents steps k 0 ≡ true
          → length (bodies_within classes n k) ≤ steps) → length (with_class o []
          (λ class. bodies_within classes n class.parent ++ own_body class.body)) ≤ suc steps
      go None found more = zero-le
      go (Some class) found more =
          let above =
          subst (λ k. below t.parents steps k 0 ≡ true)
          (sym (parent_is (suc c) class found)) (beyond steps c is) in
          omega (
            arith,
            length-append (bodies_within classes n class.parent) (own_body class.body),
            more class.parent above,
            own_few class.body,
          )

  pub bodies_few : (c : ℕ) → length (bodies_of classes c) ≤ MAX_ANCESTORS
  unfolding bodies_of is_below
  bodies_few c = go (slice_get classes c) refl
    where
      go : (o : Option Class) → slice_get classes c ≡ o
          → length (bodies_within classes (length classes) c) ≤ MAX_ANCESTORS
      go None is = subst (λ bodies. length bodies ≤ MAX_ANCESTORS) (sym (absent classes (length classes) c is)) zero-le
      go (Some class) is = bodies_by MAX_ANCESTORS (length classes) c (table.lines c (there c class is))
