-- What is found in the table by a name.
use Rattle.std.proofs.Common.{◌≡◌, ℕ, Bool, true, false, cond, List, [], ◌∷◌, ◌++◌, Option, Some, None, option_map, IsTrue, refl, sym, ap, ◌∙◌, subst}
use Rattle.std.proofs.lemmas.List.{append-nil}
use Rattle.std.proofs.lemmas.Option.{same_Some}
use Rattle.std.specs.Prelude.{find, is_some}
use Rattle.std.specs.Str.{bytes_eq}
use denote.Enum.Bare.{sameb, same_true}
use Rattle.ugen_names.specs.contracts.param.Param as param
use Rattle.ugen_names.specs.declared.param.Param.{Param}
use Rattle.ugen_names.specs.declared.param.Param.TheVariants.{Gain}
use Rattle.ugen_names.specs.contracts.table.UgenKind as ugen_kind
use Rattle.ugen_names.specs.declared.table.UgenKind.{UgenKind}
use Rattle.ugen_names.specs.declared.table.UgenKind.TheVariants.{UGen, Dac, Blackhole, Pan2, SndBuf}
use Rattle.ugen_names.specs.ParameterNames.{parameter_name}
use Rattle.ugen_names.specs.Table.{Row, rows, is_of, is_named, has_row, unit_name, unit_named}
use Rattle.ugen_names.specs.Table.{Parameter, common, own_parameters, parameters, among, is_called}
use Rattle.ugen_names.specs.Table.{are_distinct}

-- searches in two lists -------------------------------------------------------------------------

module _ {A : Type 0} (test : A → Bool) where
  -- what is found in the first is found in both
  pub found_first : (xs ys : List A) (a : A) → find test xs ≡ Some a → find test (xs ++ ys) ≡ Some a
  found_first [] ys a e = absurd cc
  found_first (x ∷ xs) ys a e = go (test x) e (found_first xs ys a)
    where
      go : (b : Bool) → cond b (Some x) (find test xs) ≡ Some a
          → (find test xs ≡ Some a → find test (xs ++ ys) ≡ Some a)
          → cond b (Some x) (find test (xs ++ ys)) ≡ Some a
      go true e later = e
      go false e later = later e

  -- what isn't there is sought in the second
  pub found_then : (xs ys : List A) → find test xs ≡ None → find test (xs ++ ys) ≡ find test ys
  found_then [] ys e = refl
  found_then (x ∷ xs) ys e = go (test x) e (found_then xs ys)
    where
      go : (b : Bool) → cond b (Some x) (find test xs) ≡ None
          → (find test xs ≡ None → find test (xs ++ ys) ≡ find test ys)
          → cond b (Some x) (find test (xs ++ ys)) ≡ find test ys
      go true e later = absurd cc
      go false e later = later e

  -- what is found passes
  pub found_passes : (xs : List A) (a : A) → find test xs ≡ Some a → test a ≡ true
  found_passes [] a e = absurd cc
  found_passes (x ∷ xs) a e = go (test x) refl e (found_passes xs a)
    where
      go : (b : Bool) → test x ≡ b → cond b (Some x) (find test xs) ≡ Some a
          → (find test xs ≡ Some a → test a ≡ true) → test a ≡ true
      go true is e later = subst (λ y. test y ≡ true) (same_Some x a e) is
      go false is e later = later e

-- kinds that are named --------------------------------------------------------------------------

unlike : false ≡ true → ⊥
unlike e = cc

same_self : (k : UgenKind) → sameb ugen_kind.the_type k k ≡ true
same_self UGen = refl
same_self _ = refl

some_either : (b : Bool) (x : Row) (o : Option Row) → IsTrue (is_some o)
    → IsTrue (is_some (cond b (Some x) o))
some_either true x o is = refl
some_either false x o is = is

-- of what is found in a list its kind is found there
kind_found : (test : Row → Bool) (rs : List Row) (r : Row) → find test rs ≡ Some r
    → IsTrue (is_some (find (is_of r.kind) rs))
kind_found test [] r e = absurd cc
kind_found test (x ∷ rs) r e = go (test x) e (kind_found test rs r)
  where
    first : IsTrue (is_some (cond (is_of x.kind x) (Some x) (find (is_of x.kind) rs)))
    first = ap (λ b. is_some (cond b (Some x) (find (is_of x.kind) rs))) (same_self x.kind)

    go : (b : Bool) → cond b (Some x) (find test rs) ≡ Some r
        → (find test rs ≡ Some r → IsTrue (is_some (find (is_of r.kind) rs)))
        → IsTrue (is_some (cond (is_of r.kind x) (Some x) (find (is_of r.kind) rs)))
    go true e later =
        subst (λ (y : Row). IsTrue (is_some (cond (is_of y.kind x) (Some x) (find (is_of y.kind) rs)))) (same_Some x r e) first
    go false e later = some_either (is_of r.kind x) x (find (is_of r.kind) rs) (later e)

-- a kind that a name stands for is a type
pub named_has_row : (n : List ℕ) (k : UgenKind) → unit_named n ≡ Some k → IsTrue (has_row k)
named_has_row n k e = go (find (is_named n) rows) refl e
  where
    go : (o : Option Row) → find (is_named n) rows ≡ o → option_map (λ (r : Row). r.kind) o ≡ Some k
        → IsTrue (has_row k)
    go None found e = absurd cc
    go (Some r) found e =
        subst (λ (k : UgenKind). IsTrue (has_row k)) (same_Some r.kind k e) (kind_found (is_named n) rows r found)

-- its name stands for each type
pub name_is_of_one : (kind : UgenKind) → IsTrue (has_row kind) → unit_named (unit_name kind) ≡ Some kind
unfolding rows
name_is_of_one Dac has = absurd (unlike has)
name_is_of_one Blackhole has = absurd (unlike has)
name_is_of_one Pan2 has = absurd (unlike has)
name_is_of_one SndBuf has = absurd (unlike has)
name_is_of_one _ has = refl

-- parameters ------------------------------------------------------------------------------------

pub all_distinct : (kind : UgenKind) → IsTrue (are_distinct (parameters kind))
unfolding common rows
all_distinct UGen = refl
all_distinct _ = refl

param_self : (p : Param) → sameb param.the_type p p ≡ true
param_self Gain = refl
param_self _ = refl

-- what is found by a name is what is found by the parameter
pub found_by_param : (n : List ℕ) (ps : List Parameter) (q : Parameter) → find (is_called n) ps ≡ Some q
    → among q.param ps ≡ Some q
found_by_param n [] q e = absurd cc
found_by_param n (x ∷ ps) q e = go (is_called n x) refl e (found_by_param n ps q)
  where
    later : (b : Bool) → sameb param.the_type x.param q.param ≡ b → is_called n x ≡ false
        → find (is_called n) ps ≡ Some q → among q.param ps ≡ Some q
        → cond b (Some x) (among q.param ps) ≡ Some q
    later true same other e there =
        let alike = same_true param.the_type tt x.param q.param same in
        let called = found_passes (is_called n) ps q e in
        absurd (unlike (sym other ∙ ap (λ (p : Param). bytes_eq (parameter_name p) n) alike ∙ called))
    later false same other e there = there

    go : (b : Bool) → is_called n x ≡ b → cond b (Some x) (find (is_called n) ps) ≡ Some q
        → (find (is_called n) ps ≡ Some q → among q.param ps ≡ Some q)
        → cond (sameb param.the_type x.param q.param) (Some x) (among q.param ps) ≡ Some q
    go true is e rest =
        subst (λ (y : Parameter). cond (sameb param.the_type x.param y.param) (Some x) (among y.param ps) ≡ Some y)
        (same_Some x q e) (ap (λ b. cond b (Some x) (among x.param ps)) (param_self x.param))
    go false is e rest = later (sameb param.the_type x.param q.param) refl is e (rest e)

-- what every kind has, each has
pub every_kind_has : (kind : UgenKind) (p : Param) (q : Parameter)
    → among p (parameters UGen) ≡ Some q → among p (parameters kind) ≡ Some q
unfolding rows
every_kind_has kind p q e =
    let test : Parameter → Bool = λ r. sameb param.the_type r.param p in
    found_first test common (own_parameters kind) q (sym (ap (find test) (append-nil common)) ∙ e)
