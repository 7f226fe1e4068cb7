use Rattle.std.proofs.Common.{◌≡◌, IfSome, Some, slice_get, slice_set, sym, subst, ap, ◌∙◌}
use Rattle.std.specs.BTreeMap.{is_at}
use Rattle.std.specs.Map.{remove_entry, values_of}
use Rattle.std.specs.Option.{option_copied_mut}
use Rattle.std.specs.Ordering.{nat_cmp}
use Rattle.shred_state.specs.Frames.{Standing}
use Rattle.machine_world.specs.Tries.{HasStore}
use Rattle.stack_machine.specs.Fitting.{AreSuited}
use Rattle.live_shreds.specs.Live.{numbered}
use Rattle.live_shreds.proofs.Entries.{lookup-live, set-placed, removed-anew}
use Rattle.live_shreds.proofs.Tied.{tied_left, tied_anew, found_number, none_by}
use Rattle.live_shreds.proofs.shreds.Shreds.run_slice.Goals as goal

pub returns-in_default-clause-none : goal.returns-in_default-clause-none
returns-in_default-clause-none c =
    let n = c.args.number in
    ap (numbered n) (sym c.self.view_is)
    ∙ sym (lookup-live n c.self.inside.live.entries c.self.invariant.named)
    ∙ sym c.get_mut.ensures.value ∙ ap option_copied_mut (none_by c.get_mut.result c.in_default.not-Some)

pub slice-requires-clause-fit : goal.slice-requires-clause-fit
slice-requires-clause-fit c =
    let n = c.args.number in
    let found = ap (numbered n) (sym c.self.view_is)
    ∙ sym (lookup-live n c.self.inside.live.entries c.self.invariant.named)
    ∙ sym c.get_mut.ensures.value ∙ ap option_copied_mut c.in-Some.is in
    subst (λ o. IfSome o (λ (s : Standing). HasStore c.args.world.now (AreSuited c.args.code.now s))) found
    c.requires.suited

pub invariant_of-self-in-Ok : goal.invariant_of-self-in-Ok
invariant_of-self-in-Ok c =
    let holds = c.get_mut.follows.holds c.slice.new.shred in
    tied_anew c.self.inside.live _ c.self.inside.children c.self.invariant c.args.number c.in-Some.shred.now
    c.slice.new.shred (sym c.get_mut.ensures.value ∙ ap option_copied_mut c.in-Some.is) holds.0 holds.4
    c.in-Ok.ensures.number c.in-Ok.ensures.parent

pub invariant_of-self-in-Err : goal.invariant_of-self-in-Err
invariant_of-self-in-Err c =
    let holds = c.get_mut.follows.holds c.slice.new.shred in
    let test = is_at (nat_cmp c.args.number) in
    tied_left c.self.inside.live c.self.inside.children c.self.invariant c.args.number _ _
    c.remove.ensures.ordered
    (c.remove.ensures.entries ∙ ap (remove_entry test) holds.0
    ∙ removed-anew test c.self.inside.live.entries c.slice.new.shred)
    c.remove-in-Err.ensures.without

pub returns-in-Ok-clause-ran : goal.returns-in-Ok-clause-ran
returns-in-Ok-clause-ran c =
    let n = c.args.number in
    let holds = c.get_mut.follows.holds c.slice.new.shred in
    let found = sym c.get_mut.ensures.value ∙ ap option_copied_mut c.in-Some.is in
    let placed = set-placed (is_at (nat_cmp n)) c.self.inside.live.entries c.in-Some.shred.now
    c.slice.new.shred found in
    record {
      place = placed.0;
      shred = c.in-Some.shred.now;
      after = c.slice.new.shred;
      at = subst (λ ss. slice_get ss placed.0 ≡ Some c.in-Some.shred.now) c.self.view_is placed.1;
      is = found_number c.self.inside.live n c.in-Some.shred.now c.self.invariant.named found;
      tells = c.in-Ok.ensures.tells;
      time_is = c.in-Ok.ensures.time;
      number_is = c.in-Ok.ensures.number;
      parent_is = c.in-Ok.ensures.parent;
      last_is = c.in-Ok.ensures.last;
      ran_is = c.in-Ok.ensures.ran;
      shreds_are = ap values_of holds.0 ∙ placed.2
          ∙ ap (λ ss. slice_set ss placed.0 c.slice.new.shred) c.self.view_is;
    }
