use Rattle.std.proofs.Common.{arith}
use Rattle.std.proofs.lemmas.Int.{ints}
use Rattle.fixed_point.proofs.fix.Fix.scale.Goals as goal

pub nearest_quotient-requires-clause-nonzero : goal.nearest_quotient-requires-clause-nonzero
nearest_quotient-requires-clause-nonzero c =
    omega (arith, ints, c.exact_product-2.ensures.value, c.requires)
