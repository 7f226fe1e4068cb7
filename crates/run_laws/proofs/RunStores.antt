-- A store that fits goes on to fit where connections are cut, and where all have made a sample.
use Rattle.std.proofs.Common.{filter, arith, Bool}
use Rattle.std.proofs.lemmas.Int.{ints}
use Rattle.std.proofs.lemmas.List.Elements.{All-filter}
use Rattle.std.specs.Prelude.{pos, ◌<ℤ◌}
use Rattle.ck_base.specs.declared.limits.TheConstants.{MAX_SAMPLES}
use Rattle.ugen_sample.specs.Connection.{Connection}
use Rattle.ugen_kinds.specs.SoundFile.{no_waves}
use Rattle.ugen_sample.specs.Order.{roots}
use Rattle.ugen_sample.proofs.Origins.{origins_sampled}
use Rattle.ck_store.specs.Store.{Keeps, Store, shapes_of}
use Rattle.ck_store.specs.Steps.{ticked}
use Rattle.ck_store.specs.Graph.{units_sounded, sounded}
use Rattle.ck_code.specs.declared.code.CodeParts.{CodeParts}
use Rattle.ck_code.specs.Fitting.{IsFitStore}
use Rattle.ck_code.proofs.Placed.{IsWithin, units_keep, stay_on}
use Rattle.ck_code.proofs.Units.{units_fit, connections_fit}

module _ (code : CodeParts) where
  pub cut_fits : (store : Store) (keep : Connection → Bool) → IsFitStore code store
      → IsFitStore code (record store { connections = filter keep store.connections })
  cut_fits store keep fit =
      connections_fit code store (filter keep store.connections) fit
      (All-filter keep (IsWithin store.units) store.connections fit.graph.within)

  pub sample_fits : (store : Store) → store.now <ℤ pos MAX_SAMPLES → IsFitStore code store
      → IsFitStore code (ticked (sounded store))
  sample_fits store lt fit =
      let units = units_sounded store.connections store.units in
      let sounds = units_fit code store units fit
      (stay_on store.units units (origins_sampled no_waves roots store.connections store.units)) in
      record {
        objects = sounds.objects;
        statics = sounds.statics;
        graph = sounds.graph;
        begun = omega (arith, ints, fit.begun);
        within = omega (arith, ints, lt);
        sporks = omega arith;
        next_shred = omega (arith, ints, fit.next_shred, fit.sporks);
      }

-- all objects keep their shapes in a sample
pub sample_keeps : (store : Store) → Keeps (shapes_of store) (shapes_of (ticked (sounded store)))
sample_keeps store =
    let units = units_sounded store.connections store.units in
    units_keep store.objects store.units units
    (stay_on store.units units (origins_sampled no_waves roots store.connections store.units))
