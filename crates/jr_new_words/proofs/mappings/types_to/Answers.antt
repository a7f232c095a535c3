use Rattle.std.proofs.Common.{◌≡◌, sym, subst, ◌∙◌}
use Rattle.std.specs.Prelude.{IfOk}
use Rattle.std.proofs.lemmas.Result.{IfOk-weaker}
use Rattle.jr_new_words.specs.declared.mappings.KeyMapping.{KeyMapping}
use Rattle.jr_new_words.specs.MappingView.{keys_of}
use Rattle.jr_new_words.specs.Mappings.{types_by}
use Rattle.jr_new_words.proofs.Images.{same_types}
use Rattle.jr_new_words.proofs.mappings.types_to.Goals as goal

pub returns-in-Same : goal.returns-in-Same
returns-in-Same c =
    let ts = c.args.types.now in
    subst (λ (x : KeyMapping). IfOk c.copy.result (λ us. us ≡ types_by (keys_of x) ts)) (sym c.in-Same.is)
    (IfOk-weaker c.copy.result _ _ (λ us e. e ∙ sym (same_types ts)) c.copy.ensures)
