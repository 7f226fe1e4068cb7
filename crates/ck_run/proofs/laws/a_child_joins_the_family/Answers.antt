use Rattle.ck_run.proofs.Children.{family-push}
use Rattle.ck_run.proofs.laws.a_child_joins_the_family.Goals as goal

pub returns : goal.returns
returns c =
    λ start next shreds child parent family first number found.
    family-push next shreds child parent family first number found
