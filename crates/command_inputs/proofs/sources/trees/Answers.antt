use Rattle.std.proofs.Common.{◌∷◌, [], ℕ, List, length, subst, sym, ap, ◌∙◌, arith, length-append}
use Rattle.ck_syntax.specs.declared.file.File.{File}
use Rattle.ck_syntax.specs.View.{view_file}
use Rattle.command_inputs.specs.Sense.{AllSay, none_says, HasFault, Says, HasTree}
use Rattle.command_inputs.specs.Senses.{said, sense_of, wrong_text}
use Rattle.command_inputs.specs.declared.sense.Sense.{Sense as Found}
use Rattle.command_inputs.proofs.Saying.{said_more, said_all, first_said}
use Rattle.command_inputs.proofs.Stopped.{refused_is, refused_there}
use Rattle.command_inputs.proofs.sources.trees.Goals as goal

pub read_source-requires : goal.read_source-requires
read_source-requires c =
    let short = c.requires c.loop-place.place c.index-files-place.result c.loop-place-test.true in
    let item = ap (λ f. length f.items) c.index-files-place.is in
    omega (arith, short, item, ap length c.as_slice.ensures.value)

pub loop-place-init : goal.loop-place-init
loop-place-init c =
    let none = c.new-trees.ensures.items in
    let S : List File → Type 0 = λ items. AllSay [] (said items) in
    record { say = subst S (sym none) none_says; count = ap length none }

pub loop-place-preserved : goal.loop-place-preserved
loop-place-preserved c =
    let tree = c.in-Tree.tree in
    let file = c.index-files-place.result in
    let P : Found → Type 0 = λ s. Says c.as_slice.result.now (sense_of s) in
    let S : List ℕ → Type 0 = λ bytes. Says bytes (HasTree (view_file tree)) in
    let says : S file.items =
    subst S c.as_slice.ensures.value (subst P c.in-Tree.is c.in_ok-tree.ensures) in
    record {
      say = said_more c.args.files.now c.loop-place.place file c.loop-place.trees.items
          c.push.new.self.items tree c.loop-place-test.true c.index-files-place.is
          c.in_ok-push-in-Tree.ensures.items c.loop-place.invariant.say says;
      count = ap length c.in_ok-push-in-Tree.ensures.items
          ∙ omega (
            arith,
            length-append c.loop-place.trees.items
                (tree ∷ []),
            c.loop-place.invariant.count,
          );
    }

pub returns-in-Refused-clause-refused : goal.returns-in-Refused-clause-refused
returns-in-Refused-clause-refused c = λ place line wrong same.
    let P : Found → Type 0 = λ s. Says c.as_slice.result.now (sense_of s) in
    let S : List ℕ
    → Type 0 = λ bytes. Says bytes
    (HasFault c.in-Refused.line (wrong_text c.in-Refused.wrong)) in
    let says : S c.index-files-place.result.items =
    subst S c.as_slice.ensures.value
    (subst P c.in-Refused.is c.in_ok-tree.ensures) in
    refused_there c.args.files.now c.loop-place.place place c.in-Refused.line line
    c.in-Refused.wrong wrong (refused_is same)
    (first_said c.args.files.now c.loop-place.place c.index-files-place.result
    c.loop-place.trees.items c.in-Refused.line (wrong_text c.in-Refused.wrong)
    c.loop-place-test.true c.index-files-place.is c.loop-place.invariant.say says)

pub returns : goal.returns
returns c = record {
  say = said_all c.args.files.now c.loop-place.place c.loop-place.trees.items
      c.loop-place-test.false c.loop-place.invariant.say;
  count = omega
      (arith, c.loop-place.invariant.count, c.loop-place.auto.place-end, c.loop-place-test.false);
  refused = λ place line wrong same. absurd (cc);
}
