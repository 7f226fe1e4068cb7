use Rattle.std.proofs.Common.{true, false}
use Rattle.ck_syntax.specs.View.{view_fun}
use Rattle.parse_exprs.specs.Machine.{after_at, signature}
use Rattle.ck_parser.proofs.MadeItem.{constructor_fun, reads_in, static_fun, plain_fun}
use Rattle.ck_parser.proofs.item.fun_def.Goals as goal

pub returns-in-Some-clause-reads : goal.returns-in-Some-clause-reads
returns-in-Some-clause-reads c = reads_in (λ k. after_at c.args.line k)
    (λ x k. k (view_fun x.0)) (λ x. x.1.now) (λ k. k) c.constructor.result
    (constructor_fun c.args.line c.in-Some.ensures.token) c.constructor.ensures.reads

pub returns-in-Some-eat_word-clause-reads : goal.returns-in-Some-eat_word-clause-reads
returns-in-Some-eat_word-clause-reads c = reads_in (λ k. signature c.args.line true k)
    (λ x k. k (view_fun x.0)) (λ x. x.1.now) (λ k. k) c.signature.result
    (static_fun c.args.line c.args.tokens.now c.in_default.ensures.token
    c.in-Some-eat_word.ensures.token) c.signature.ensures.reads

pub returns-in-None-clause-reads : goal.returns-in-None-clause-reads
returns-in-None-clause-reads c = reads_in (λ k. signature c.args.line false k)
    (λ x k. k (view_fun x.0)) (λ x. x.1.now) (λ k. k) c.signature-in-None.result
    (plain_fun c.args.line c.args.tokens.now c.in_default.ensures.token c.in-None.ensures.token)
    c.signature-in-None.ensures.reads
