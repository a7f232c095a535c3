use Rattle.jr_expr_types.proofs.TypedMembers.{typed_member}
use Rattle.jr_expr_types.proofs.laws.types_are_at.Goals as goal

pub returns : goal.returns
returns g c = λ begins rows are keys k x path t. typed_member begins rows (λ d. (c.types_are_exact.ensures.bound rows are keys d).types) k x path t
