use Rattle.std.proofs.Common.{Some, ap, ◌∙◌}
use Rattle.std.proofs.lemmas.Result.{IfOk-weaker}
use Rattle.jr_ast.specs.View.{exprs_of}
use Rattle.jr_new_words.specs.Mappings.{types_to, types_where}
use Rattle.jr_new_words.specs.MappingView.{gone_of}
use Rattle.jr_new_bodies.specs.Known.{mapping_of, context_of}
use Rattle.jr_new_bodies.proofs.new_types.images_where.Goals as goal

pub returns : goal.returns
returns g c =
    let h = c.args.here.now in
    let then = c.in_ok-then.ensures ∙ c.in_ok-types.ensures ∙ ap (types_where (Some (gone_of c.args.gone.now)) (context_of h) (exprs_of c.args.parts.now)) c.as_slice.ensures in
    IfOk-weaker c.types_to.result _ _ (λ us e. e ∙ ap (types_to (mapping_of h)) then) c.types_to.ensures
