use Rattle.std.proofs.Common.{ap, ◌∙◌}
use Rattle.jr_table.specs.Context.{scope_of}
use Rattle.jr_table.specs.Lookup.{shown}
use Rattle.jr_bind_expr.specs.Places.{context_of}
use Rattle.jr_bind_expr.proofs.Scoped.{place_class}
use Rattle.jr_bind_expr.proofs.Numbers.{named_is}
use Rattle.jr_bind_expr.proofs.type_names.type_named.Goals as goal

pub returns : goal.returns
returns c =
    let rows = c.args.table.now in
    let p = c.args.place.now in
    ap (shown rows) c.type_at.ensures ∙ named_is rows (scope_of (context_of p)) p.class (place_class rows p c.requires) c.args.name.now
