use Rattle.fixed_point.proofs.Products.{product_most, widened, held, exact}
use Rattle.fixed_point.proofs.rounding.exact_product.Goals as goal

pub overflow_mul-result : goal.overflow_mul-result
overflow_mul-result c =
    held c.args.a c.args.b _ _ c.ranges.a c.ranges.b
    (widened _ _ c.ranges.a c.from.ensures) (widened _ _ c.ranges.b c.from-2.ensures)

pub returns-clause-value : goal.returns-clause-value
returns-clause-value c =
    exact c.args.a c.args.b _ _ c.ranges.a c.ranges.b
    (widened _ _ c.ranges.a c.from.ensures) (widened _ _ c.ranges.b c.from-2.ensures)

pub returns-clause-bound : goal.returns-clause-bound
returns-clause-bound c =
    let value = exact c.args.a c.args.b _ _ c.ranges.a c.ranges.b
    (widened _ _ c.ranges.a c.from.ensures) (widened _ _ c.ranges.b c.from-2.ensures) in
    rw value (product_most c.args.a c.args.b c.ranges.a c.ranges.b)
