use Rattle.std.proofs.Common.{◌≡◌}
use Rattle.jr_ast.specs.View.{expr_of}
use Rattle.jr_ast.proofs.Sizes.{exp_size}
use Rattle.jr_new_words.specs.Mappings.{read_name}
use Rattle.jr_new_bodies.proofs.new_types.read_name.Given as goal

abbrev pub invariant-loop-part : goal.invariant-loop-part
invariant-loop-part g l = read_name (expr_of l.of) ≡ read_name (expr_of l.fn.of)

abbrev pub decreases-loop-part : goal.decreases-loop-part
decreases-loop-part g l = exp_size (expr_of l.of)
