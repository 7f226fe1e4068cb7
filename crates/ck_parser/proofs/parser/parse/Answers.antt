use Rattle.ck_syntax.specs.Tree.{no_items}
use Rattle.parse_exprs.specs.Machine.{start}
use Rattle.ck_parser.proofs.Faults.{is_file, is_shallow_file, is_faulty, is_too_deep, faulty-le}
use Rattle.ck_parser.proofs.Faults.{deep-le, deep-positive, faulty-positive}
use Rattle.ck_parser.proofs.parser.parse.Goals as goal

pub line_at-requires-clause-some : goal.line_at-requires-clause-some
line_at-requires-clause-some c =
    let h = rw c.in-Err-Syntax.field-0-is at c.in-Err-Syntax.ensures in
    faulty-positive c.args.tokens.now start c.in-Err-Syntax.left c.requires (h.at no_items)

pub line_at-requires-clause-within : goal.line_at-requires-clause-within
line_at-requires-clause-within c =
    let h = rw c.in-Err-Syntax.field-0-is at c.in-Err-Syntax.ensures in
    faulty-le c.args.tokens.now c.in-Err-Syntax.left (h.at no_items)

pub line_at-requires-in-Err-TooDeep-clause-some : goal.line_at-requires-in-Err-TooDeep-clause-some
line_at-requires-in-Err-TooDeep-clause-some c =
    let h = rw c.in-Err-TooDeep.field-0-is at c.in-Err-TooDeep.ensures in
    deep-positive c.args.tokens.now c.in-Err-TooDeep.left (h.at no_items)

pub line_at-requires-in-Err-TooDeep-clause-within :
    goal.line_at-requires-in-Err-TooDeep-clause-within
line_at-requires-in-Err-TooDeep-clause-within c =
    let h = rw c.in-Err-TooDeep.field-0-is at c.in-Err-TooDeep.ensures in
    deep-le c.args.tokens.now c.in-Err-TooDeep.left (h.at no_items)

pub returns-in-Ok-clause-tree : goal.returns-in-Ok-clause-tree
returns-in-Ok-clause-tree c = is_file c.args.tokens.now _ (c.in-Ok.ensures.by no_items)

pub returns-in-Ok-clause-shallow : goal.returns-in-Ok-clause-shallow
returns-in-Ok-clause-shallow c = is_shallow_file c.args.tokens.now _ (c.in-Ok.ensures.by no_items)

pub returns-in-Err-Syntax-clause-fault : goal.returns-in-Err-Syntax-clause-fault
returns-in-Err-Syntax-clause-fault c =
    let h = rw c.in-Err-Syntax.field-0-is at c.in-Err-Syntax.ensures in
    record {
      place = _;
      faulty = is_faulty c.args.tokens.now c.in-Err-Syntax.left
          (h.at no_items) (faulty-positive c.args.tokens.now start c.in-Err-Syntax.left c.requires
          (h.at no_items));
      stands = c.line_at.ensures;
    }

pub returns-in-Err-TooDeep-clause-fault : goal.returns-in-Err-TooDeep-clause-fault
returns-in-Err-TooDeep-clause-fault c =
    let h = rw c.in-Err-TooDeep.field-0-is at c.in-Err-TooDeep.ensures in
    record {
      place = _;
      too_deep = is_too_deep c.args.tokens.now c.in-Err-TooDeep.left
          (h.at no_items);
      stands = c.line_at-in-Err-TooDeep.ensures;
    }
