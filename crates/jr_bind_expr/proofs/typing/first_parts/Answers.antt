use Rattle.std.proofs.Common.{suc, sym, ap}
use Rattle.jr_ast.specs.View.{target_of}
use Rattle.jr_expr_types.specs.Trees.{count}
use Rattle.jr_expr_types.specs.TypedTrees.{target_parts}
use Rattle.jr_bind_expr.proofs.typing.first_parts.Goals as goal

pub returns-in-None : goal.returns-in-None
unfolding target_parts
returns-in-None g c = λ rows ctx. sym (ap (λ o. suc (count (target_parts rows ctx (target_of o)))) c.in-None.is)

pub returns-in-Some : goal.returns-in-Some
unfolding target_parts
returns-in-Some g c = λ rows ctx. sym (ap (λ o. suc (count (target_parts rows ctx (target_of o)))) c.in-Some.is)
