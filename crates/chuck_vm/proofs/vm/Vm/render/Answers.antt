use Rattle.std.proofs.Common.{◌≡◌, ◌+◌, ◌≤◌, List, String, length, rules, sym, ap, ◌∙◌, subst}
use Rattle.std.specs.declared.alloc.Global.{Global}
use Rattle.ck_base.specs.declared.limits.TheConstants.{MAX_FILES, MAX_SAMPLES}
use Rattle.ck_code.specs.declared.code.CodeParts.{CodeParts}
use Rattle.ck_code.specs.Verified.{IsVerified}
use Rattle.ck_meaning.specs.Replay.{run_code}
use Rattle.chuck_vm.specs.declared.wake.Wake.{Wake as MachineWake}
use Rattle.chuck_vm.specs.Machine.{Stands}
use Rattle.chuck_vm.specs.Tallies.{as_counted, trap_count}
use Rattle.chuck_vm.specs.Telling.{Adds}
use Rattle.chuck_vm.specs.Vm.{Sight, block_of}
use Rattle.chuck_vm.specs.Wakes.{names_of, wakes_meant}
use Rattle.chuck_vm.proofs.Tallying.{rest_is, slices_on, traps_on}
use Rattle.chuck_vm.proofs.vm.Vm.render.Goals as goal

pub returns-clause-adds : goal.returns-clause-adds
returns-clause-adds c =
    let S : Sight → Type 0 = λ vm. Adds vm.names (block_of vm.code vm.samples c.args.count)
    c.args.samples.now.items c.make.new.samples.items c.args.text.now.items c.make.new.text.items
    c.args.wakes.now.items c.make.new.wakes.items in
    let N : List (String Global) → Type 0 = λ names. Adds (names_of names)
    (block_of c.self.inside.machine.code c.self.inside.made c.args.count)
    c.args.samples.now.items c.make.new.samples.items c.args.text.now.items c.make.new.text.items
    c.args.wakes.now.items c.make.new.wakes.items in
    subst S c.self.view_is (subst N c.as_slice.ensures.value c.in_ok-make.ensures.adds)

pub invariant_of-result : goal.invariant_of-result
invariant_of-result c =
    let vm = c.self.inside in
    let code = vm.machine.code in
    let after = vm.made + c.args.count in
    let facts = c.in_ok-make.ensures in
    let same : c.make.new.self.code ≡ code = facts.code in
    let place : c.len-before.result ≡ length c.args.wakes.now.items = search rules in
    let rest = rest_is c.deref.result.now c.make.new.wakes.items c.args.wakes.now.items
    c.len-before.result c.deref.ensures.value place in
    let few : after ≤ MAX_SAMPLES = search rules in
    record {
      stands = subst (λ code. Stands c.make.new.self (run_code code after)) (sym same) facts.stands;
      wakes_is = slices_on code vm.made c.args.count c.args.wakes.now.items c.make.new.wakes.items
          facts.adds.wakes_are vm.slices _ c.saturating_add.result c.self.invariant.wakes_is (ap (length {A = MachineWake}) rest)
          c.saturating_add.ensures
          ∙ ap (λ code. as_counted (length (run_code code after).wakes)) (sym same);
      traps_is = traps_on code vm.made c.args.count c.args.wakes.now.items c.make.new.wakes.items
          facts.adds.wakes_are vm.traps c.trap_count.result c.saturating_add-2.result
          c.self.invariant.traps_is
          (c.trap_count.ensures ∙ ap (λ new. trap_count (wakes_meant new)) rest)
          c.saturating_add-2.ensures
          ∙ ap (λ code. as_counted (trap_count (run_code code after).wakes)) (sym same);
      ran_is = facts.ran ∙ ap (λ code. as_counted (run_code code after).begun) (sym same);
      verified = subst IsVerified (sym same) c.self.invariant.verified;
      files = subst (λ (code : CodeParts). length code.mains ≤ MAX_FILES) (sym same)
          c.self.invariant.files;
      few = few;
    }
