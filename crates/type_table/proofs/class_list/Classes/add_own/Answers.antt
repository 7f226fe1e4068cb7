use Rattle.std.proofs.Common.{◌<◌, length, Some, refl, sym, ap, ◌∙◌, arith}
use Rattle.std.proofs.lemmas.Option.{slice_get-get_or}
use Rattle.type_table.specs.NameMarks.{is_member, adds_slot}
use Rattle.type_table.specs.Names.{is_some}
use Rattle.type_table.proofs.MarkFacts.{after_marking}
use Rattle.type_table.proofs.OwnerFacts.{after_adding}
use Rattle.type_table.proofs.class_list.Classes.add_own.Goals as goal

pub invariant_of-self-2 : goal.invariant_of-self-2
invariant_of-self-2 c =
    let inside = c.self.inside in
    let classes = inside.all.items in
    let name = c.args.name.now in
    let hash = c.hash_of-hash.result in
    let was = c.index_mut.result.now in
    let now = c.add_own.new.self in
    let within : c.args.class < length classes =
    omega (arith, c.if-class-len.false, c.len.ensures, ap length c.self.view_is) in
    let at = slice_get-get_or classes c.args.class _ within
    ∙ sym (ap (λ k. Some k) c.index_mut.ensures.value) in
    let done = c.add_own.ensures.added in
    let kept = c.add_own.ensures.kept in
    record {
      owners = after_adding classes inside.owners c.add.new.self c.args.class name c.args.own c.add_own.result was now
          within at c.in_ok-add.ensures.added done kept c.self.invariant.owners;
      members = after_marking is_member refl classes inside.members c.mark.new.self c.args.class name c.args.own hash _
          c.add_own.result was now within at c.hash_of-hash.ensures (λ is. refl) c.mark.ensures done kept
          c.self.invariant.members;
      slots = after_marking adds_slot refl classes inside.slots c.mark-2.new.self c.args.class name c.args.own hash _
          c.add_own.result was now within at c.hash_of-hash.ensures
          (λ is. c.is_some.ensures ∙ ap (λ o. is_some o) c.new_slot.ensures.is ∙ is) c.mark-2.ensures done kept
          c.self.invariant.slots;
    }
