use Rattle.std.proofs.lemmas.Int.{ints}
use Rattle.std.proofs.Common.{◌<ℤ◌, arith}
use Rattle.chuck_vm.specs.Wakes.{names_of}
use Rattle.chuck_vm.proofs.Settles.{none_runs, none_begun}
use Rattle.chuck_vm.proofs.Stands.{now_is}
use Rattle.chuck_vm.proofs.machine.Machine.settle_from.Goals as goal

pub returns-then-now-next-clause-becomes : goal.returns-then-now-next-clause-becomes
returns-then-now-next-clause-becomes c = λ run stands can bound le.
    let m = c.args.self.now in
    let soon : run.store.now <ℤ c.args.next =
    omega (arith, ints, c.now.ensures.now, now_is m.world run.store stands.store, c.if-now-next.true) in
    none_runs m.code (names_of c.args.names.now) can.verified m run bound c.args.text.now.items
    c.args.wakes.now.items stands (c.requires.none_before run stands run.store.now soon)

pub returns-then-now-next-clause-counts : goal.returns-then-now-next-clause-counts
returns-then-now-next-clause-counts c = λ run stands can bound le.
    let m = c.args.self.now in
    let soon : run.store.now <ℤ c.args.next =
    omega (arith, ints, c.now.ensures.now, now_is m.world run.store stands.store, c.if-now-next.true) in
    none_begun m.code (names_of c.args.names.now) can.verified run bound m.world.ran
    (c.requires.none_before run stands run.store.now soon)
