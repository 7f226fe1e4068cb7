use Rattle.std.proofs.Common.{◌≡◌, ◌+◌, [], length, pos, ap, ◌∙◌, rules}
use Rattle.rand_pcg.specs.Lcg.{Lcg}
use Rattle.ck_values.specs.Datum.{all_meant}
use Rattle.ugen_sample.specs.UnitState.{first_units}
use Rattle.ugen_kinds.specs.Words.{words_from, first_words}
use Rattle.ugen_graph.specs.Wiring.{Network}
use Rattle.ck_store.specs.Store.{Store, first_store}
use Rattle.ck_code.proofs.Runs.{first_store_fits}
use Rattle.machine_world.specs.Worlds.{plain_store, store_of}
use Rattle.machine_world.proofs.Kept.{kept}
use Rattle.machine_world.proofs.world.World.new.Goals as goal

pub returns-clause-store : goal.returns-clause-store
unfolding store_of words_from
returns-clause-store c =
    let code = c.args.code.now in
    let made : Network → Lcg → Store = λ graph words. plain_store (pos 0) c.in_ok-heap.heap.bodies
    (all_meant c.from_vec.result) graph words 0 (length c.items-2.result.now + 1) in
    let is : made (record { units = first_units; links = [] }) first_words
    ≡ first_store (length code.mains) code.statics = search (rules, kept) in
    let words : c.new-2.result ≡ first_words = c.new-2.ensures in
    record {
      is = ap (λ g. made g c.new-2.result) c.in_ok-graph.ensures
          ∙ ap (made (record { units = first_units; links = [] })) words ∙ is;
    }

pub returns-clause-fits : goal.returns-clause-fits
returns-clause-fits c = λ few.
    first_store_fits c.args.code.now (length c.args.code.now.mains) c.parts-parts.ensures.verified few
