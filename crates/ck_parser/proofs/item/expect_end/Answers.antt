use Rattle.std.proofs.Common.{◌<◌, length, arith}
use Rattle.std.proofs.lemmas.Bool.Decides.{nat_tests}
use Rattle.ck_parser.proofs.MadeItem.{behind_end}
use Rattle.ck_parser.proofs.item.expect_end.Goals as goal

pub returns-else-is_empty : goal.returns-else-is_empty
returns-else-is_empty c =
    let p : 0 < length c.in-Some.behind.now = grind (arith, nat_tests) in
    behind_end c.in-Some.ensures.token c.requires p
