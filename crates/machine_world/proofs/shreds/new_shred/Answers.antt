use Rattle.std.proofs.Common.{◌≡◌, ◌≤◌, rules, length, slice_get, subst}
use Rattle.machine_world.specs.Shown.{kinds_of}
use Rattle.machine_world.proofs.Begins.{params_few}
use Rattle.machine_world.proofs.shreds.new_shred.Goals as goal

pub new-requires : goal.new-requires
new-requires c =
    let code = c.args.code.now in
    let kinds : kinds_of (slice_get code.funs c.args.fun) ≡ c.items-kinds.result.now = search rules in
    record {
      few = subst (λ ks. length c.args.args.items ≤ length ks) kinds
          (params_few code c.parts.ensures.verified c.args.fun _ c.requires);
    }
