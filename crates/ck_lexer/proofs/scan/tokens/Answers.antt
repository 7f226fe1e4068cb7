use Rattle.std.proofs.Common.{◌∙◌, ap, arith, refl, inl}
use Rattle.ck_lexer.specs.declared.fault.LexFault.TheVariants.{Lex}
use Rattle.ck_lexer.specs.Tokens.{AreTokens, IsFault, IsToken, nothing}
use Rattle.ck_lexer.proofs.Readings.{past_gap, past_token, fault_at, all_tokens, token_some, one_list, not_both, one_fault}
use Rattle.ck_lexer.proofs.scan.tokens.Goals as goal
use Rattle.ck_lexer.proofs.scan.tokens.Goals.{After-drop-tokens-in_default-2, In_ok-push, In_ok-push-2}

pub loop-at-init : goal.loop-at-init
loop-at-init c = record { within = omega arith; reads = rw c.new-tokens.ensures.items nothing; on_line = refl }

pub loop-at-preserved-in-Some : goal.loop-at-preserved-in-Some
loop-at-preserved-in-Some c =
    let g = c.in-Some.ensures in
    past_gap _ c.behind-ahead.result.now c.split_at.result.0.now _ _ _ _ _ c.loop-at.invariant c.behind-ahead.ensures g.0 g.2 c.split_at.ensures.front c.line_ends.ensures

fault : (c : After-drop-tokens-in_default-2) → IsFault c.args.bytes.now c.loop-at.at c.loop-at.line
fault c =
    fault_at _ c.behind-ahead.result.now c.loop-at.tokens.items _ _ c.loop-at.invariant c.loop-at-test.true c.behind-ahead.ensures c.in_default.ensures
    (rw c.in_default-2.is at c.in_ok-kind.ensures)

pub returns-in_default-2-clause-accepts : goal.returns-in_default-2-clause-accepts
returns-in_default-2-clause-accepts c ts t = absurd (not_both _ ts _ _ t (fault c))

pub returns-in_default-2-clause-refuses : goal.returns-in_default-2-clause-refuses
returns-in_default-2-clause-refuses c at line f =
    let same = one_fault _ c.loop-at.at c.loop-at.line at line (fault c) f in
    inl (ap (λ x. Lex x c.loop-at.line) same.0 ∙ ap (λ x. Lex at x) same.1)

stands : (c : In_ok-push) → IsToken c.behind-ahead.result.now c.in-Some-2.length c.in-Some-2.kind
stands c = rw c.in-Some-2.is at c.in_ok-kind.ensures

pub loop-at-smaller : goal.loop-at-smaller
loop-at-smaller c =
    let some = token_some _ _ _ (stands c) in
    let w = past_token _ c.behind-ahead.result.now _ _ _ _ _ c.loop-at.invariant c.behind-ahead.ensures (stands c) in
    let in_file = w.within in
    omega (arith, some, in_file)

pub loop-at-preserved : goal.loop-at-preserved
loop-at-preserved c = rw c.in_ok-push.ensures.items (past_token _ c.behind-ahead.result.now _ _ _ _ _ c.loop-at.invariant c.behind-ahead.ensures (stands c))

all : (c : In_ok-push-2) → AreTokens c.args.bytes.now c.push-2.new.self.items
all c = rw c.in_ok-push-2.ensures.items (all_tokens _ _ _ _ c.loop-at.invariant c.loop-at-test.false)

pub returns-clause-accepts : goal.returns-clause-accepts
returns-clause-accepts c ts t = one_list _ _ ts (all c) t

pub returns-clause-refuses : goal.returns-clause-refuses
returns-clause-refuses c at line f = not_both _ _ at line (all c) f
