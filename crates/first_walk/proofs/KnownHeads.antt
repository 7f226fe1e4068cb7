-- A function whose types are types names none that is unknown.
use Rattle.std.proofs.Common.{◌≡◌, ℕ, Bool, false, ◌||◌, List, [], ◌∷◌, ◌++◌, Option, Some, None, refl, sym, ap, ◌∙◌}
use Rattle.ck_values.specs.declared.kind.Kind.{Kind}
use Rattle.ck_values.specs.declared.kind.Kind.TheVariants.{Void}
use Rattle.ck_syntax.specs.Tree as tree
use Rattle.ck_syntax.specs.Tree.{Params, no_params, and_param}
use Rattle.type_table.specs.declared.class.Head.{Head}
use Rattle.type_table.specs.declared.types.Named.{Named}
use Rattle.type_table.specs.declared.types.Named.TheVariants as named
use Rattle.type_table.specs.Table.{Table}
use Rattle.type_table.specs.Types.{named_by, is_unknown, value_kind, result_kind}
use Rattle.first_walk.specs.FirstWalk.{and_kind, param_kind, param_kinds, head_with, head_of, names_unknown, has_unknown}

-- a list of kinds with one more
pub kinds_of : (found : Option (List Kind)) (k : Option Kind) (ks : List Kind) → and_kind found k ≡ Some ks
    → (js : List Kind) × (j : Kind) × (found ≡ Some js) × (k ≡ Some j) × (ks ≡ js ++ j ∷ [])
kinds_of (Some js) (Some j) ks is = (js, j, refl, refl, cc)
kinds_of (Some js) None ks is = absurd (cc)
kinds_of None k ks is = absurd (cc)

-- the parts of a head
pub head_parts : (s : Bool) (ks : Option (List Kind)) (k : Option Kind) (h : Head) → head_with s ks k ≡ Some h
    → (ks ≡ Some h.params) × (k ≡ Some h.result) × (h.is_static ≡ s)
head_parts s (Some ks) (Some k) h is =
    let same : h ≡ record { params = ks; result = k; is_static = s } = cc in (
      ap (λ (g : Head). Some g.params) (sym same),
      ap (λ (g : Head). Some g.result) (sym same),
      ap
          (λ (g : Head). g.is_static) same,
    )
head_parts s (Some ks) None h is = absurd (cc)
head_parts s None k h is = absurd (cc)

-- known names
value_known : (n : Named) (b : ℕ) (k : Kind) → value_kind n b ≡ Some k → is_unknown n ≡ false
value_known named.Unknown b k is = absurd (cc)
value_known named.NoType b k is = refl
value_known named.Void b k is = refl
value_known (named.Elem e) b k is = refl

result_known : (n : Named) (b : ℕ) (k : Kind) → result_kind n b ≡ Some k → is_unknown n ≡ false
result_known named.Unknown b k is = absurd (cc)
result_known named.NoType b k is = refl
result_known named.Void b k is = refl
result_known (named.Elem e) b k is = refl

module _ (t : Table) (f : ℕ) where
  params_known : (ps : Params) (ks : List Kind) → param_kinds t f ps ≡ Some ks → names_unknown t f ps ≡ false
  params_known no_params ks is = refl
  params_known (and_param ps p) ks is =
      let k = kinds_of (param_kinds t f ps) (param_kind t f p) ks is in
      ap (λ b. b || is_unknown (named_by t f p.kind.base)) (params_known ps k.0 k.2)
      ∙ value_known (named_by t f p.kind.base) _ k.1 k.3

  pub known : (g : tree.Fun) (h : Head) → head_of t f g ≡ Some h → has_unknown t f g ≡ false
  known (tree.fun l s result n ps body) h is =
      let parts = head_parts s (param_kinds t f ps) (result_kind (named_by t f result.base) result.brackets) h is in
      ap (λ b. b || names_unknown t f ps) (result_known (named_by t f result.base) result.brackets h.result parts.1)
      ∙ params_known ps h.params parts.0
  known (tree.constructor l ps body) h is =
      params_known ps h.params (head_parts false (param_kinds t f ps) (Some Void) h is).0
