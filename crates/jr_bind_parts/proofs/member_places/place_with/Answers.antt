use Rattle.std.proofs.Common.{◌≡◌, None, map, sym, ap, subst, ◌∙◌}
use Rattle.jr_ast.specs.View.{param_of}
use Rattle.jr_table.proofs.RowLaws.{number_stands, within}
use Rattle.jr_table.specs.KeyView.{member_key_of}
use Rattle.jr_table.specs.Context.{parameters}
use Rattle.jr_table.specs.HeadRules.{types_of}
use Rattle.jr_scopes.specs.Helds.{local_of}
use Rattle.jr_scopes.specs.Tracked.{helds_of}
use Rattle.jr_bind_expr.specs.Places.{context_of, decl_of, AreTyped}
use Rattle.jr_bind_parts.specs.Parameters.{held_parameters}
use Rattle.jr_bind_parts.proofs.ParamSteps.{held_are, parameters_typed}
use Rattle.jr_bind_parts.proofs.member_places.place_with.Goals as goal

pub class_of-class-requires : goal.class_of-class-requires
class_of-class-requires g c =
    let rows = c.args.table.now in
    let d = decl_of (member_key_of c.args.key.now) in
    within rows d c.args.row (number_stands rows d c.args.row c.requires)

pub returns-clause-context : goal.returns-clause-context
unfolding context_of
returns-clause-context g c =
    let rows = c.args.table.now in
    let k = member_key_of c.args.key.now in
    let ps = map param_of c.args.params.now in
    let held = c.in_ok-locals.ensures.held ∙ ap (held_parameters rows 0 ps) c.param_types.ensures in
    let all : map (local_of k) (helds_of c.in_ok-locals.locals) ≡ parameters k 0 ps (types_of k) = ap (map (local_of k)) held ∙ held_are rows k 0 ps (types_of k) in
    λ i. record { member = k; is_static = c.args.is_static; locals = all i; own = None }

pub returns-clause-knows : goal.returns-clause-knows
returns-clause-knows g c =
    let rows = c.args.table.now in
    let k = member_key_of c.args.key.now in
    let ps = map param_of c.args.params.now in
    let held = c.in_ok-locals.ensures.held ∙ ap (held_parameters rows 0 ps) c.param_types.ensures in
    record {
      row = c.requires;
      class = c.class_of-class.ensures k c.requires;
      typed = subst (AreTyped rows k) (sym held) (parameters_typed rows c.keeps_rows.ensures k c.args.row c.requires ps);
      tracked = c.in_ok-locals.ensures.tracked;
    }
