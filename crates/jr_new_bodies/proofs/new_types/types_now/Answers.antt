use Rattle.std.proofs.Common.{Option, ap, ◌∙◌}
use Rattle.std.proofs.lemmas.Result.{IfOk-weaker}
use Rattle.jr_ast.specs.View.{exprs_of}
use Rattle.jr_new_words.specs.Mappings.{GoneLocal, types_to, types_where}
use Rattle.jr_new_bodies.specs.Known.{mapping_of, context_of}
use Rattle.jr_new_bodies.proofs.new_types.types_now.Goals as goal

pub returns-in-None : goal.returns-in-None
returns-in-None g c =
    let h = c.args.here.now in
    let stand = λ (o : Option GoneLocal). types_to (mapping_of h) (types_where o (context_of h) (exprs_of c.args.parts.now) c.args.types.now) in
    IfOk-weaker c.types_to.result _ _ (λ us e. e ∙ ap stand c.in-None.ensures) c.types_to.ensures

pub returns-in-Some : goal.returns-in-Some
returns-in-Some g c =
    let h = c.args.here.now in
    let stand = λ (o : Option GoneLocal). types_to (mapping_of h) (types_where o (context_of h) (exprs_of c.args.parts.now) c.args.types.now) in
    IfOk-weaker c.images_where.result _ _ (λ us e. e ∙ ap stand c.in-Some.ensures) c.images_where.ensures
