use Rattle.std.proofs.Common.{sym, ◌∙◌}
use Rattle.jr_bind_expr.proofs.TypedKinds.{typed_so}
use Rattle.jr_bind_expr.proofs.typing.type_of_kind.Goals as goal

pub returns-in-Some : goal.returns-in-Some
returns-in-Some c = λ t e r. typed_so c.args.table.now t c.in-Some.kind c.kind_type.result (sym c.in-Some.is ∙ e) r c.kind_type.ensures
