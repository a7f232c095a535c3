use Rattle.std.proofs.Common.{None, map}
use Rattle.jr_table.proofs.RowLaws.{number_stands, within}
use Rattle.jr_table.specs.KeyView.{member_key_of}
use Rattle.jr_scopes.specs.Helds.{held_of, local_of}
use Rattle.jr_bind_expr.specs.Places.{context_of, decl_of}
use Rattle.jr_bind_parts.proofs.member_places.plain_place.Goals as goal

pub class_of-requires : goal.class_of-requires
class_of-requires c =
    let rows = c.args.table.now in
    let d = decl_of (member_key_of c.args.key.now) in
    within rows d c.args.row (number_stands rows d c.args.row c.requires)

pub returns-clause-context : goal.returns-clause-context
unfolding context_of
returns-clause-context c =
    let k = member_key_of c.args.key.now in
    λ i. record { member = k; is_static = c.args.is_static; locals = map (local_of k) (map held_of (c.new.ensures.locals i)); own = None }
