use Rattle.std.proofs.Common.{◌∙◌, sym, ap}
use Rattle.parse_exprs.specs.Operands.{suffix_of}
use Rattle.parse_exprs.proofs.Suffixes.{into_suffix}
use Rattle.parse_exprs.proofs.ahead.suffix.Goals as goal

pub returns-clause-reads : goal.returns-clause-reads
returns-clause-reads c = λ e.
    let (p, i) = c.in_ok-inside.ensures in
    into_suffix _ c.args.depth _ e (ap suffix_of (sym c.next-follow.ensures.follow)
    ∙ sym c.in-Some.ensures) c.next-follow.ensures.behind p i
