use Rattle.std.proofs.Common.{rules, ◌≡◌, ◌∙◌, true, false, refl, sym}
use Rattle.ck_syntax.specs.Tree.{no_members}
use Rattle.ck_syntax.specs.View.{view_member}
use Rattle.type_table.proofs.Walks.{ran_stop, ran_all}
use Rattle.built_forms.specs.Built.{member_built}
use Rattle.built_forms.proofs.Runs.{one_member, members_run}
use Rattle.built_forms.proofs.files.are_members_built.Goals as goal

pub returns-then-not-is_member_built : goal.returns-then-not-is_member_built
returns-then-not-is_member_built c =
    let no : member_built (view_member c.member-item.result) ≡ false = search rules in
    sym (members_run no_members c.args.all.now ∙ ran_stop one_member true c.args.all.now c.loop-member.member-index true
    c.member-item.result false
    c.loop-member-test.true c.member-item.is no (λ y. refl) c.loop-member.invariant)

pub returns : goal.returns
returns c =
    sym (members_run no_members c.args.all.now ∙ ran_all one_member true c.args.all.now c.loop-member.member-index true
    c.loop-member-test.false c.loop-member.invariant)
