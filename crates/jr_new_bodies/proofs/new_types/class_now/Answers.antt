use Rattle.std.proofs.Common.{Option, ap, ◌∙◌}
use Rattle.std.proofs.lemmas.Result.{IfOk-weaker}
use Rattle.jr_ast.specs.View.{expr_of}
use Rattle.jr_table.specs.Keys.{class}
use Rattle.jr_table.specs.TypeView.{class_key_of}
use Rattle.jr_new_words.specs.Mappings.{GoneLocal, type_to, type_where}
use Rattle.jr_new_bodies.specs.Known.{mapping_of, context_of}
use Rattle.jr_new_bodies.proofs.new_types.class_now.Goals as goal

pub returns-in-None : goal.returns-in-None
returns-in-None g c =
    let h = c.args.here.now in
    let stands = λ (o : Option GoneLocal). type_to (mapping_of h) (type_where o (context_of h) (expr_of c.args.of.now) (class (class_key_of c.args.class.now))) in
    IfOk-weaker c.class_type_to.result _ _ (λ t e. e ∙ ap stands c.in-None.ensures) c.class_type_to.ensures

pub returns-in-Some : goal.returns-in-Some
returns-in-Some g c =
    let h = c.args.here.now in
    let stands = λ (o : Option GoneLocal). type_to (mapping_of h) (type_where o (context_of h) (expr_of c.args.of.now) (class (class_key_of c.args.class.now))) in
    IfOk-weaker c.class_where.result _ _ (λ t e. e ∙ ap stands c.in-Some.ensures) c.class_where.ensures
