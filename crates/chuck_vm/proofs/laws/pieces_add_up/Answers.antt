use Rattle.chuck_vm.proofs.Pieces.{adds_both}
use Rattle.chuck_vm.proofs.laws.pieces_add_up.Goals as goal

pub returns : goal.returns
returns c = λ code names made first next samples samples2 samples3 text text2 text3 wakes wakes2 wakes3 one two.
    adds_both code names made first next samples samples2 samples3 text text2 text3 wakes wakes2 wakes3 one two
