-- The maker and the kind of a unit generator stay.
use Rattle.std.proofs.Common.{◌≡◌, ℕ, zero, suc, ℤ, ◌<◌, Bool, nat_eq, List, [], ◌∷◌, length, fold, Option, Some, None, option_map, slice_index_or, slice_set, refl, ap, sym, ◌∙◌, inl, inr, arith}
use Rattle.std.proofs.lemmas.List.{length-map}
use Rattle.std.proofs.lemmas.Option.{same_Some}
use Rattle.ck_values.specs.Datum.{Datum, AnInt, AFloat}
use Rattle.ugen_names.specs.declared.param.Param.{Param}
use Rattle.ugen_names.specs.declared.param.Param.TheVariants as param
use Rattle.ugen_names.specs.declared.table.UgenKind.{UgenKind}
use Rattle.ugen_kinds.specs.declared.generator.Generator.{Generator}
use Rattle.ugen_kinds.specs.SoundFile.{SoundFile}
use Rattle.ugen_kinds.specs.Generator.{kind_of, with_own_parameter}
use Rattle.ugen_kinds.proofs.Tables.{kind_ticked, kind_set}
use Rattle.ugen_sample.specs.declared.choices.Channel.{Channel}
use Rattle.ugen_sample.specs.declared.choices.Joining.{Joining}
use Rattle.ugen_sample.specs.declared.choices.Joining.TheVariants.{Through, Off, Sum, Difference, Product, Quotient}
use Rattle.ugen_sample.specs.declared.unit.UnitState.{UnitState}
use Rattle.ugen_sample.specs.Connection.{Connection}
use Rattle.ugen_sample.specs.UnitState.{Units, unit_at}
use Rattle.ugen_sample.specs.Order.{order}
use Rattle.ugen_sample.specs.Sample.{dac, numbers_of, sources_on, result_of, sounded, sounded_where, made_from, sampled}
use Rattle.ugen_sample.specs.Parameters.{with_unit_parameter}
use Rattle.ugen_sample.specs.Origins.{origin_of, origins_of}
use Rattle.ugen_sample.proofs.Among.{either}

-- in a sample -----------------------------------------------------------------------------------

kind_result : (waves : List SoundFile) (j : Joining) (g : Generator) (x : ℤ) (fed : Bool)
    → kind_of (result_of waves j g x fed).0 ≡ kind_of g
kind_result waves Through g x fed = refl
kind_result waves Off g x fed = refl
kind_result waves Sum g x fed = kind_ticked waves g x fed
kind_result waves Difference g x fed = kind_ticked waves g x fed
kind_result waves Product g x fed = kind_ticked waves g x fed
kind_result waves Quotient g x fed = kind_ticked waves g x fed

abbrev made_by : ℕ → UgenKind → ℕ × UgenKind
made_by maker kind = (maker, kind)

origin_sounded : (waves : List SoundFile) (n : ℕ) (unit : UnitState) (heard : Channel → List ℤ)
    → origin_of (sounded waves n unit heard) ≡ origin_of unit
unfolding sounded
origin_sounded waves n unit heard =
    elim (either (nat_eq n dac)) [
      | inl is ↦ rw (is, sounded) refl
      | inr isnt ↦
          rw (isnt, sounded) (ap (made_by unit.maker)
          (kind_result waves unit.joining unit.generator _ _))
    ]

origin_where : (waves : List SoundFile) (n : ℕ) (o : Option UnitState) (heard : Channel → List ℤ)
    → option_map origin_of (sounded_where waves n o heard) ≡ option_map origin_of o
origin_where waves n None heard = refl
origin_where waves n (Some unit) heard =
    ap (λ (p : ℕ × UgenKind). let o : Option (ℕ × UgenKind) = Some p in o)
    (origin_sounded waves n unit heard)

-- a unit generator is replaced by another state of it
pub origins_set : (units : Units) (n : ℕ) (new : Option UnitState)
    → option_map origin_of new ≡ option_map origin_of (unit_at units n)
    → origins_of (slice_set units n new) ≡ origins_of units
origins_set [] n new e = refl
origins_set (u ∷ us) zero new e = ap (λ o. o ∷ origins_of us) e
origins_set (u ∷ us) (suc n) new e =
    ap (λ os. option_map origin_of u ∷ os) (origins_set us n new e)

all_origins : (waves : List SoundFile) (sources : Channel → ℕ → List ℕ) (ns : List ℕ)
    (units : Units) → origins_of (fold (made_from waves sources) units ns) ≡ origins_of units
all_origins waves sources [] units = refl
all_origins waves sources (n ∷ ns) units =
    all_origins waves sources ns (made_from waves sources units n)
    ∙ origins_set units n _ (origin_where waves n (unit_at units n)
    (λ channel. numbers_of units channel (sources channel n)))

pub origins_sampled : (waves : List SoundFile) (roots : List ℕ) (cs : List Connection)
    (units : Units) → origins_of (sampled waves roots cs units) ≡ origins_of units
unfolding sampled
origins_sampled waves roots cs units = all_origins waves (sources_on cs) (order roots cs) units

-- where a parameter is set -----------------------------------------------------------------------

mapped_origin : (unit after : UnitState) (o : Option Generator)
    → ((g : Generator) → o ≡ Some g → kind_of g ≡ kind_of unit.generator)
    → option_map (λ g. let u : UnitState = record unit { generator = g } in u) o ≡ Some after
    → origin_of after ≡ origin_of unit
mapped_origin unit after None same e = absurd cc
mapped_origin unit after (Some g) same e =
    ap origin_of (sym (same_Some _ after e)) ∙ ap (made_by unit.maker) (same g refl)

pub origin_set : (waves : List SoundFile) (p : Param) (v : Datum) (unit after : UnitState)
    → with_unit_parameter waves p v unit ≡ Some after → origin_of after ≡ origin_of unit
unfolding with_unit_parameter
origin_set waves param.Gain (AFloat x) unit after e = ap origin_of (sym (same_Some _ after e))
origin_set waves param.Gain _ unit after e = absurd cc
origin_set waves param.Op (AnInt n) unit after e = ap origin_of (sym (same_Some _ after e))
origin_set waves param.Op _ unit after e = absurd cc
origin_set waves param.Last v unit after e = absurd cc
origin_set waves p v unit after e =
    mapped_origin unit after (with_own_parameter waves p v unit.generator)
    (λ g s. kind_set waves p v unit.generator g s) e

-- at a place ------------------------------------------------------------------------------------

-- what is there is within
pub there_within : (units : Units) (n : ℕ) (unit : UnitState) → unit_at units n ≡ Some unit
    → n < length units
there_within [] n unit e = absurd cc
there_within (u ∷ us) zero unit e = omega arith
there_within (u ∷ us) (suc n) unit e = omega (arith, there_within us n unit e)

origin_there : (units : Units) (n : ℕ)
    → slice_index_or (origins_of units) n None ≡ option_map origin_of (unit_at units n)
origin_there [] n = refl
origin_there (u ∷ us) zero = refl
origin_there (u ∷ us) (suc n) = origin_there us n

-- where all origins stay, there are as many, and each stays at its place
pub same_count : (before after : Units) → origins_of after ≡ origins_of before
    → length after ≡ length before
same_count before after same =
    sym (length-map after (λ u. option_map origin_of u))
    ∙ ap (λ (os : List (Option (ℕ × UgenKind))). length os) same
    ∙ length-map before (λ u. option_map origin_of u)

pub same_origin : (before after : Units) → origins_of after ≡ origins_of before → (n : ℕ)
    → option_map origin_of (unit_at after n) ≡ option_map origin_of (unit_at before n)
same_origin before after same n =
    sym (origin_there after n)
    ∙ ap (λ (os : List (Option (ℕ × UgenKind))). slice_index_or os n None) same
    ∙ origin_there before n

-- a unit generator at a place, afterwards
pub record Afterwards (unit : UnitState) (after : Units) (n : ℕ) : Type 0 where
  pub later : UnitState
  pub there : unit_at after n ≡ Some later
  pub maker : later.maker ≡ unit.maker
  pub kind : kind_of later.generator ≡ kind_of unit.generator

pub afterwards : (before after : Units) → origins_of after ≡ origins_of before → (n : ℕ)
    (unit : UnitState) → unit_at before n ≡ Some unit → Afterwards unit after n
afterwards before after same n unit there =
    at (unit_at after n) refl (same_origin before after same n ∙ ap (option_map origin_of) there)
  where
    at : (o : Option UnitState) → unit_at after n ≡ o
        → option_map origin_of o ≡ Some (origin_of unit) → Afterwards unit after n
    at None e h = absurd cc
    at (Some later) e h =
        let same_pair = same_Some (origin_of later) (origin_of unit) h in
        record {
          later = later;
          there = e;
          maker = ap (λ (p : ℕ × UgenKind). p.0) same_pair;
          kind = ap (λ (p : ℕ × UgenKind). p.1) same_pair;
        }
