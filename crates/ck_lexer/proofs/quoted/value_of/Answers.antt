use Rattle.std.proofs.Common.{◌≡◌, true, refl, sym, ◌∙◌, ap, arith, get_or}
use Rattle.std.proofs.lemmas.Bool.Decides.{nat_tests}
use Rattle.ck_lexer.specs.Bytes.{is_plain}
use Rattle.ck_lexer.specs.Texts.{escaped}
use Rattle.ck_lexer.proofs.TextLemmas.{text_in-none_after, at_quote, at_line_end, at_last_backslash, at_other_escape, past_escape, past_plain, at_end}
use Rattle.ck_lexer.proofs.quoted.value_of.Goals as goal

pub loop-n-init : goal.loop-n-init
loop-n-init c = record { within = omega arith; so_far = rw c.new-value.ensures.items (text_in-none_after c.args.bytes.now) }

pub returns-in-34 : goal.returns-in-34
returns-in-34 c = at_quote _ _ _ c.loop-n.invariant.so_far c.loop-n-test.true c.in-34.is

pub returns-in-10 : goal.returns-in-10
returns-in-10 c = at_line_end _ _ _ c.loop-n.invariant.so_far c.loop-n-test.true c.in-10.is

pub returns-in_default-get : goal.returns-in_default-get
returns-in_default-get c = at_last_backslash _ _ _ c.loop-n.invariant.so_far c.loop-n-test.true c.in-92.is c.in_default-get.ensures.lookup.3

pub returns-in_default-escaped : goal.returns-in_default-escaped
returns-in_default-escaped c =
    let e = c.in-Some.ensures.lookup.3 in
    at_other_escape _ _ _ c.loop-n.invariant.so_far e.0 c.in-92.is (ap escaped (sym (e.1 0)) ∙ sym c.escaped.ensures ∙ c.in_default-escaped.is)

pub loop-n-preserved-in-92 : goal.loop-n-preserved-in-92
loop-n-preserved-in-92 c =
    let e = c.in-Some.ensures.lookup.3 in
    record {
      within = omega (arith, e.0);
      so_far = rw c.in_ok-push-in-92.ensures.items (past_escape _ _ _ c.loop-n.invariant.so_far _ e.0 c.in-92.is (ap escaped (sym (e.1 0)) ∙ sym c.in-Some-escaped.ensures));
    }

pub loop-n-preserved : goal.loop-n-preserved
loop-n-preserved c =
    let plain : is_plain (get_or c.args.bytes.now c.loop-n.n 0) ≡ true = grind (arith, nat_tests) in
    record {
      within = omega arith;
      so_far = rw c.in_ok-push-in_default.ensures.items (past_plain _ _ _ c.loop-n.invariant.so_far _ c.loop-n-test.true refl plain);
    }

pub returns : goal.returns
returns c = at_end _ _ c.loop-n.n c.loop-n.invariant.so_far (omega arith)
