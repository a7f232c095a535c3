use Rattle.std.proofs.Common.{Option, ap, ◌∙◌}
use Rattle.std.specs.Prelude.{unwrap_or}
use Rattle.std.proofs.lemmas.Result.{IfOk-weaker}
use Rattle.jr_table.specs.Keys.{Ty, class}
use Rattle.jr_table.specs.TypeView.{class_key_of}
use Rattle.jr_new_words.specs.Mappings.{type_to}
use Rattle.jr_new_bodies.specs.Known.{mapping_of}
use Rattle.jr_new_bodies.proofs.new_types.class_where.Goals as goal

pub returns-in-None : goal.returns-in-None
returns-in-None g c =
    let stands = λ (o : Option Ty). type_to (mapping_of c.args.here.now) (unwrap_or o (class (class_key_of c.args.class.now))) in
    IfOk-weaker c.class_type_to.result _ _ (λ t e. e ∙ ap stands c.in-None.ensures) c.class_type_to.ensures

pub returns-in-Some : goal.returns-in-Some
returns-in-Some g c =
    let stands = λ (o : Option Ty). type_to (mapping_of c.args.here.now) (unwrap_or o (class (class_key_of c.args.class.now))) in
    IfOk-weaker c.type_to.result _ _ (λ t e. e ∙ ap stands c.in-Some.ensures) c.type_to.ensures
