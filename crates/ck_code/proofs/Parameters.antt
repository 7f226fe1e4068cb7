-- The parameters of unit generators are there as the table of kinds says.
use Rattle.std.proofs.Common.{◌≡◌, ◌⊎◌, inl, inr, true, false, not, ◌&&◌, List, Option, Some, None, option_map, refl, sym, ap, ◌∙◌, subst}
use Rattle.std.proofs.lemmas.Option.{same_Some}
use Rattle.std.specs.Prelude.{is_some}
use Rattle.ck_values.specs.declared.kind.Elem.{Elem}
use Rattle.ck_values.specs.ParamTypes.{elem_of}
use Rattle.ugen_names.specs.declared.param.ParamType.{ParamType}
use Rattle.ugen_names.specs.declared.param.ParamType.TheVariants.{Int, Float, Dur, Text}
use Rattle.ugen_names.specs.declared.param.Param.{Param}
use Rattle.ugen_names.specs.declared.param.Param.TheVariants as param
use Rattle.ugen_names.specs.declared.table.UgenKind.{UgenKind}
use Rattle.ugen_names.specs.declared.table.UgenKind.TheVariants as ugen
use Rattle.ck_values.specs.Datum.{Datum, AnInt, AFloat, ADur, AText}
use Rattle.ugen_names.specs.Table as table
use Rattle.ugen_names.specs.Table.{rows, common, among, parameters}
use Rattle.ugen_names.proofs.Named.{every_kind_has}
use Rattle.ugen_kinds.specs.SoundFile.{no_waves}
use Rattle.ugen_kinds.specs.Generator.{kind_of}
use Rattle.ugen_kinds.specs.Table.{is_in_table, is_of_type, reads, can_be_set}
use Rattle.ugen_sample.specs.declared.unit.UnitState.{UnitState}
use Rattle.ugen_sample.specs.Origins.{origin_of}
use Rattle.ugen_sample.specs.Parameters.{unit_parameter, with_unit_parameter}
use Rattle.ugen_sample.specs.Table.{parameter_row}
use Rattle.ugen_sample.proofs.Among.{either}
use Rattle.ugen_sample.proofs.Origins.{origin_set}
use Rattle.ugen_sample.proofs.Tables.{unit_reads, unit_sets}
use Rattle.ck_store.specs.Store.{Shapes}
use Rattle.ck_store.specs.Steps.{found}
use Rattle.ck_typed.specs.declared.class.Class.{Class}
use Rattle.ck_typed.specs.Signatures.{Parameter, parameter_by, parameter}
use Rattle.ck_code.specs.Fitting.{IsOf}
use Rattle.ck_code.proofs.Suiting.{Fine}

-- what fits a type of unit generators has its parameters
of_all : (kind : UgenKind) (q : Param) (w : Parameter) (o : Option table.Parameter)
    → among q (parameters ugen.UGen) ≡ o → option_map parameter_by o ≡ Some w
    → parameter kind q ≡ Some w
of_all kind q w None is e = absurd cc
of_all kind q w (Some r) is e = ap (option_map parameter_by) (every_kind_has kind q r is) ∙ e

kind_has : (u kind : UgenKind) (q : Param) (w : Parameter) → (u ≡ ugen.UGen) ⊎ (kind ≡ u)
    → parameter u q ≡ Some w → parameter kind q ≡ Some w
kind_has u kind q w of_it e = elim of_it [
  | inl all ↦ of_all kind q w (among q (parameters ugen.UGen)) refl (subst (λ k. parameter k q ≡ Some w) all e)
  | inr same ↦ subst (λ k. parameter k q ≡ Some w) (sym same) e
]

-- it is of this type of unit generators
abbrev pub IsOfType : UgenKind → UnitState → Type 0
IsOfType u unit = (u ≡ ugen.UGen) ⊎ (kind_of unit.generator ≡ u)

-- two states of one unit generator: its maker and its kind stay
abbrev pub Stays : (before after : UnitState) → Type 0
Stays before after = origin_of after ≡ origin_of before

-- a parameter is set, where it can be
set_stays : (q : Param) (v : Datum) (unit : UnitState) (o : Option UnitState)
    → with_unit_parameter no_waves q v unit ≡ o → is_some o ≡ true → Fine (Stays unit) (found o)
set_stays q v unit None e there = absurd cc
set_stays q v unit (Some after) e there = origin_set no_waves q v unit after e

-- by what the table says of a kind ------------------------------------------------------------------

-- a kind that has no row has only what every kind has
no_row : (kind : UgenKind) → is_in_table kind ≡ false → kind ≡ ugen.Pan2
no_row ugen.Pan2 e = refl
no_row _ e = absurd cc

unlike : false ≡ true → ⊥
unlike e = cc

pan_reads : (q : Param) (unit : UnitState) → is_some (parameter_row ugen.Pan2 q) ≡ true
    → reads (parameter_row ugen.Pan2 q) (unit_parameter no_waves q unit) ≡ true
unfolding unit_parameter common rows
pan_reads param.Gain unit some = refl
pan_reads param.Op unit some = refl
pan_reads param.Last unit some = refl
pan_reads _ unit some = absurd (unlike some)

pan_sets : (q : Param) (v : Datum) (unit : UnitState)
    → is_some (parameter_row ugen.Pan2 q) ≡ true
    → is_some (with_unit_parameter no_waves q v unit) ≡ can_be_set (parameter_row ugen.Pan2 q) v
unfolding with_unit_parameter common rows
pan_sets param.Gain (AFloat x) unit some = refl
pan_sets param.Gain _ unit some = refl
pan_sets param.Op (AnInt n) unit some = refl
pan_sets param.Op _ unit some = refl
pan_sets param.Last v unit some = refl
pan_sets _ v unit some = absurd (unlike some)

-- what the table has of a kind, each of the kind has
module _ (q : Param) (unit : UnitState)
    (some : is_some (parameter_row (kind_of unit.generator) q) ≡ true) where
  abbrev HasRow : UgenKind → Type 0
  HasRow kind = is_some (parameter_row kind q) ≡ true

  row_reads : reads (parameter_row (kind_of unit.generator) q) (unit_parameter no_waves q unit)
      ≡ true
  row_reads = elim (either (is_in_table (kind_of unit.generator))) [
    | inl is ↦ unit_reads no_waves q unit is
    | inr isnt ↦
        let pan = no_row (kind_of unit.generator) isnt in
        subst (λ kind. reads (parameter_row kind q) (unit_parameter no_waves q unit) ≡ true)
        (sym pan) (pan_reads q unit (subst HasRow pan some))
  ]

  row_sets : (v : Datum) → is_some (with_unit_parameter no_waves q v unit)
      ≡ can_be_set (parameter_row (kind_of unit.generator) q) v
  row_sets v = elim (either (is_in_table (kind_of unit.generator))) [
    | inl is ↦ unit_sets no_waves q v unit is
    | inr isnt ↦
        let pan = no_row (kind_of unit.generator) isnt in
        subst (λ kind. is_some (with_unit_parameter no_waves q v unit)
        ≡ can_be_set (parameter_row kind q) v) (sym pan)
        (pan_sets q v unit (subst HasRow pan some))
  ]

module _ (classes : List Class) (shapes : Shapes) where
  abbrev Is : Elem → Datum → Type 0
  Is e v = IsOf classes shapes e v

  -- a unit generator has a parameter: it has a value of its type, and where it isn't read only it
  -- can be set to any, and stays what it is
  pub record Has (q : Param) (unit : UnitState) (w : Parameter) : Type 0 where
    pub value : Fine (IsOf classes shapes w.elem) (found (unit_parameter no_waves q unit))
    pub set : (v : Datum) → w.is_read_only ≡ false → IsOf classes shapes w.elem v
        → Fine (Stays unit) (found (with_unit_parameter no_waves q v unit))

  -- a value of the type of a parameter is one of the type
  of_type : (t : ParamType) (v : Datum) → is_of_type t v ≡ true → Is (elem_of t) v
  of_type Int (AnInt n) is = tt
  of_type Float (AFloat x) is = tt
  of_type Dur (ADur n) is = tt
  of_type Text (AText bytes) is = tt
  of_type _ _ is = absurd cc

  has_type : (t : ParamType) (v : Datum) → Is (elem_of t) v → is_of_type t v ≡ true
  has_type Int (AnInt n) is = refl
  has_type Int _ is = absurd is
  has_type Float (AFloat x) is = refl
  has_type Float _ is = absurd is
  has_type Dur (ADur n) is = refl
  has_type Dur _ is = absurd is
  has_type Text (AText bytes) is = refl
  has_type Text _ is = absurd is

  value_of : (r : table.Parameter) (o : Option Datum) → reads (Some r) o ≡ true → Fine (Is (elem_of r.values)) (found o)
  value_of r None is = absurd cc
  value_of r (Some v) is = of_type r.values v is

  settable : (r : table.Parameter) (v : Datum) → r.is_read_only ≡ false → is_of_type r.values v ≡ true
      → can_be_set (Some r) v ≡ true
  settable r v free is = ap (λ b. not b && is_of_type r.values v) free ∙ is

  has_row : (q : Param) (w : Parameter) (unit : UnitState) (o : Option table.Parameter)
      → parameter_row (kind_of unit.generator) q ≡ o → option_map parameter_by o ≡ Some w
      → Has q unit w
  has_row q w unit None is e = absurd cc
  has_row q w unit (Some r) is e =
      let some = ap is_some is in
      subst (λ w. Has q unit w) (same_Some (parameter_by r) w e) (record {
        value =
            value_of r (unit_parameter no_waves q unit)
            (subst (λ o. reads o (unit_parameter no_waves q unit) ≡ true) is
            (row_reads q unit some));
        set = λ v free of.
            set_stays q v unit (with_unit_parameter no_waves q v unit) refl
            (row_sets q unit some v
            ∙ ap (λ o. can_be_set o v) is
            ∙ settable r v free (has_type r.values v of));
      })

  -- one that fits a type has each parameter of that type
  pub has_parameter : (u : UgenKind) (q : Param) (w : Parameter) (unit : UnitState)
      → IsOfType u unit → parameter u q ≡ Some w → Has q unit w
  has_parameter u q w unit of_it e =
      has_row q w unit (parameter_row (kind_of unit.generator) q) refl
      (kind_has u (kind_of unit.generator) q w of_it e)
