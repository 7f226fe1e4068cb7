use Rattle.ck_parser.proofs.Verdicts.{one_faulty_place, one_deep_place, faulty_or_deep}
use Rattle.ck_parser.proofs.Verdicts.{tree_or_deep, one_line}
use Rattle.ck_parser.proofs.laws.one_verdict.Goals as goal

pub returns : goal.returns
returns c = record {
  one_place = one_faulty_place;
  one_deep_place = one_deep_place;
  one_kind = faulty_or_deep;
  tree_or_deep = tree_or_deep;
  one_line = one_line;
}
