use Rattle.jr_pieces.proofs.InFront as in_front
use Rattle.jr_pieces.proofs.Cases as cases
use Rattle.jr_pieces.proofs.laws.what_comes_before_stands_in_front.Goals as goal

pub returns : goal.returns
returns g c = let a = cases.use_of_operand in in_front.what_comes_before_stands_in_front
