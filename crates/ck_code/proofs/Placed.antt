-- The unit generators of a store go on to fit: as objects are made, as one more is made, and as they
-- stay what they are.
use Rattle.std.proofs.Common.{◌≡◌, ℕ, zero, suc, ◌<◌, ◌≤◌, List, [], ◌∷◌, ◌++◌, length, Option, Some, None, option_map, All, refl, ap, ◌∙◌, arith, slice_get, option_and_then}
use Rattle.std.proofs.lemmas.List.Elements.{All-weaker}
use Rattle.ugen_names.specs.declared.table.UgenKind.{UgenKind}
use Rattle.ugen_kinds.specs.Generator.{kind_of}
use Rattle.ugen_sample.specs.Connection.{Connection}
use Rattle.ugen_sample.specs.declared.unit.UnitState.{UnitState}
use Rattle.ugen_sample.specs.UnitState.{Units, unit_at}
use Rattle.ugen_sample.specs.Origins.{origins_of}
use Rattle.ugen_sample.proofs.Origins.{afterwards, same_count}
use Rattle.ck_store.specs.Store.{Object, shape, Instance, Items, UnitGenerator, Shape, OfUnit, Shapes, shape_at, Keeps}
use Rattle.ck_typed.specs.WellFormed.{FoundWhere}
use Rattle.ck_code.specs.Fitting.{IsFitGraph}
use Rattle.ck_code.proofs.Standing.{found_is, where_found}

-- a unit generator of a kind stands at a place
abbrev pub IsAt : Units → (place : ℕ) → UgenKind → Type 0
IsAt units place kind = FoundWhere (unit_at units place) (λ unit. kind_of unit.generator ≡ kind)

-- what the place of a unit generator fulfils, it fulfils by its kind
pub of_unit : (P : Shape → Type 0) (units : Units) (place : ℕ)
    → FoundWhere (option_and_then (shape units) (Some (UnitGenerator place))) P
    → FoundWhere (unit_at units place) (λ unit. P (OfUnit (kind_of unit.generator)))
of_unit P units place h = by (unit_at units place) h
  where
    by : (o : Option UnitState)
        → FoundWhere (option_map (λ unit. OfUnit (kind_of unit.generator)) o) P
        → FoundWhere o (λ unit. P (OfUnit (kind_of unit.generator)))
    by None h = h
    by (Some unit) h = h

-- the objects go on
pub graph_shapes : (before after : Shapes) (units : Units) (connections : List Connection)
    → Keeps before after → IsFitGraph before units connections → IsFitGraph after units connections
graph_shapes before after units connections kept graph = record {
  output = kept.each 0 _ graph.output;
  hole = kept.each 1 _ graph.hole;
  within = graph.within;
}

-- a connection leads from one place to another
abbrev pub IsWithin : Units → Connection → Type 0
IsWithin units c = (c.from < length units) × (c.to < length units)

-- later unit generators: each stays at its place, and is of its kind
pub record GoOn (before after : Units) : Type 0 where
  pub kept : (place : ℕ) (kind : UgenKind) → IsAt before place kind → IsAt after place kind
  pub long : length before ≤ length after

-- beside them objects keep their shapes
pub units_keep : (objects : List Object) (before after : Units) → GoOn before after
    → Keeps (shape_at before objects) (shape_at after objects)
units_keep objects before after on = record { each = λ n x e. keeps (slice_get objects n) x e }
  where
    at_place : (place : ℕ) (x : Shape) (o : Option UnitState) → unit_at before place ≡ o
        → option_map (λ unit. OfUnit (kind_of unit.generator)) o ≡ Some x
        → option_and_then (shape after) (Some (UnitGenerator place)) ≡ Some x
    at_place place x None there e = absurd cc
    at_place place x (Some unit) there e =
        let kind = kind_of unit.generator in
        let is : IsAt before place kind =
        where_found (unit_at before place) (λ unit. kind_of unit.generator ≡ kind) unit there refl in
        let later = found_is (unit_at after place) _ (on.kept place kind is) in
        ap (option_map (λ (unit : UnitState). OfUnit (kind_of unit.generator))) later.1
        ∙ ap (λ (k : UgenKind). let o : Option Shape = Some (OfUnit k) in o) later.2 ∙ e

    keeps : (o : Option Object) (x : Shape) → option_and_then (shape before) o ≡ Some x
        → option_and_then (shape after) o ≡ Some x
    keeps None x e = e
    keeps (Some (Instance class fields)) x e = e
    keeps (Some (Items elem of_arrays items)) x e = e
    keeps (Some (UnitGenerator place)) x e = at_place place x (unit_at before place) refl e

pub graph_units : (objects : List Object) (before after : Units) (connections : List Connection)
    → GoOn before after → IsFitGraph (shape_at before objects) before connections
    → IsFitGraph (shape_at after objects) after connections
graph_units objects before after connections on graph =
    let kept = units_keep objects before after on in
    record {
      output = kept.each 0 _ graph.output;
      hole = kept.each 1 _ graph.hole;
      within = All-weaker (IsWithin before) (IsWithin after)
          (λ c h. (omega (arith, h.0, on.long), omega (arith, h.1, on.long))) connections
          graph.within;
    }

pub graph_connections : (shapes : Shapes) (units : Units) (before after : List Connection)
    → All (IsWithin units) after → IsFitGraph shapes units before → IsFitGraph shapes units after
graph_connections shapes units before after within graph =
    record { output = graph.output; hole = graph.hole; within = within }

-- those whose origins stay go on
pub stay_on : (before after : Units) → origins_of after ≡ origins_of before → GoOn before after
stay_on before after same = record {
  kept = λ place kind h.
      let unit = found_is (unit_at before place) _ h in
      let there = afterwards before after same place unit.0 unit.1 in
      where_found (unit_at after place) (λ unit. kind_of unit.generator ≡ kind) there.later
      there.there (there.kind ∙ unit.2);
  long = omega (arith, same_count before after same);
}

-- one more is made
more_at : (units : Units) (new : UnitState) (place : ℕ) (kind : UgenKind)
    → IsAt units place kind → IsAt (units ++ Some new ∷ []) place kind
more_at [] new place kind h = absurd h
more_at (unit ∷ units) new zero kind h = h
more_at (unit ∷ units) new (suc place) kind h = more_at units new place kind h

more_long : (units : Units) (new : UnitState) → length units ≤ length (units ++ Some new ∷ [])
more_long [] new = omega arith
more_long (unit ∷ units) new = omega (arith, more_long units new)

pub more_on : (units : Units) (new : UnitState) → GoOn units (units ++ Some new ∷ [])
more_on units new = record { kept = more_at units new; long = more_long units new }
