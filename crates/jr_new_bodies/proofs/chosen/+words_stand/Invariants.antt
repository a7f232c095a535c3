use Rattle.jr_ast.specs.View.{expr_of}
use Rattle.jr_ast.proofs.Sizes.{exp_size}
use Rattle.jr_new_bodies.proofs.chosen.+words_stand.Given as goal

abbrev pub decreases-words_stand : goal.decreases-words_stand
decreases-words_stand g l = exp_size (expr_of l.of.now)
