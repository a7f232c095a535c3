use Rattle.std.proofs.Common.{◌≡◌, Some, sym, subst, ◌∙◌}
use Rattle.std.specs.Prelude.{option_map}
use Rattle.std.specs.Result.{IfOk}
use Rattle.jr_table.specs.Keys.{Ty}
use Rattle.jr_table.specs.TypeView.{ty_of}
use Rattle.jr_bind_expr.proofs.TypedKinds.{class_kind}
use Rattle.jr_bind_expr.proofs.typing.kind_type.Goals as goal

pub returns-in-Class : goal.returns-in-Class
returns-in-Class c = λ t e r.
    let q = class_kind c.args.table.now c.in-Class.number t (sym c.in-Class.is ∙ e) r in
    subst (λ (x : Ty). IfOk c.class_type.result (λ u. option_map ty_of u ≡ Some x)) (sym q.is) (c.class_type.ensures q.key q.there)
