use Rattle.std.proofs.Common.{◌≡◌, sym, subst, ◌∙◌}
use Rattle.std.specs.Prelude.{IfOk}
use Rattle.std.proofs.lemmas.Result.{IfOk-weaker}
use Rattle.jr_table.specs.TypeView.{ty_of}
use Rattle.jr_images.specs.ImageView.{renaming_of}
use Rattle.jr_new_words.specs.declared.mappings.KeyMapping.{KeyMapping}
use Rattle.jr_new_words.specs.MappingView.{keys_of}
use Rattle.jr_new_words.specs.Mappings.{type_by}
use Rattle.jr_new_words.proofs.Images.{same_type, type_is}
use Rattle.jr_new_words.proofs.mappings.type_to.Goals as goal

pub returns-in-Same : goal.returns-in-Same
returns-in-Same c =
    let t = ty_of c.args.ty.now in
    subst (λ (x : KeyMapping). IfOk c.copy.result (λ u. ty_of u ≡ type_by (keys_of x) t)) (sym c.in-Same.is)
    (IfOk-weaker c.copy.result _ _ (λ u e. e ∙ sym (same_type t)) c.copy.ensures)

pub returns-in-Renamed : goal.returns-in-Renamed
returns-in-Renamed c =
    let t = ty_of c.args.ty.now in
    subst (λ (x : KeyMapping). IfOk c.type_to.result (λ u. ty_of u ≡ type_by (keys_of x) t)) (sym c.in-Renamed.is)
    (IfOk-weaker c.type_to.result _ _ (λ u e. e ∙ sym (type_is (renaming_of c.in-Renamed.name.now) t)) c.type_to.ensures)
