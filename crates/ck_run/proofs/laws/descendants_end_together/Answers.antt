use Rattle.ck_run.proofs.Family.{ends_those, only_those}
use Rattle.ck_run.proofs.laws.descendants_end_together.Goals as goal

pub returns-clause-those : goal.returns-clause-those
returns-clause-those c = λ start next number shreds family. ends_those number next shreds family

pub returns-clause-only : goal.returns-clause-only
returns-clause-only c = λ start next number shreds ends family are. only_those number next shreds ends family are
