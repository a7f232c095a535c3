use Rattle.std.proofs.Common.{◌+◌, ◌++◌, Some, drop, ap}
use Rattle.std.proofs.lemmas.List.{drop_all}
use Rattle.jr_ast.specs.View.{exprs_of}
use Rattle.jr_table.specs.TypeView.{ty_of}
use Rattle.jr_bind_expr.proofs.Steps.{left_is}
use Rattle.jr_bind_parts.proofs.ParamSteps.{none_left}
use Rattle.jr_new_words.specs.Mappings.{types_where}
use Rattle.jr_new_words.specs.MappingView.{gone_of}
use Rattle.jr_new_bodies.specs.Known.{context_of}
use Rattle.jr_new_bodies.specs.MeaningView.{types_of}
use Rattle.jr_new_bodies.proofs.NewTypes.{no_types, no_parts, one_more}
use Rattle.jr_new_bodies.proofs.new_types.types_where.Goals as goal

pub loop-part-init : goal.loop-part-init
loop-part-init g c =
    ap (λ ts. types_of ts ++ types_where (Some (gone_of c.args.gone.now)) (context_of c.args.here.now) (exprs_of c.args.parts.now) (types_of c.args.types.now)) c.new-then.ensures.items

pub returns-in_default : goal.returns-in_default
returns-in_default g c =
    let l = c.loop-part in
    no_types (gone_of c.args.gone.now) (context_of c.args.here.now) (types_of l.then.items) (drop l.part-index c.args.parts.now) (types_of l.rest.now) _ l.invariant
    (ap types_of (none_left l.rest.now c.in_default.ensures.cases))

pub loop-part-preserved : goal.loop-part-preserved
loop-part-preserved g c =
    let l = c.loop-part in
    let parts = c.args.parts.now in
    let i = l.part-index in
    one_more (gone_of c.args.gone.now) (context_of c.args.here.now) (types_of l.then.items) (drop i parts) (types_of l.rest.now) _ l.invariant c.part-item.result (drop (i + 1) parts)
    (ty_of c.in-Some.ty.now) (types_of c.in-Some.others.now) (types_of c.put_type.new.types.items) (left_is parts i c.part-item.result c.loop-part-test.true c.part-item.is) (ap types_of c.in-Some.ensures.cases.0) c.in_ok-put_type.ensures

pub returns : goal.returns
returns g c =
    let l = c.loop-part in
    no_parts (gone_of c.args.gone.now) (context_of c.args.here.now) (types_of l.then.items) (drop l.part-index c.args.parts.now) (types_of l.rest.now) _ l.invariant (drop_all l.part-index c.args.parts.now c.loop-part-test.false)
