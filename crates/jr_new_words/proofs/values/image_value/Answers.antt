use Rattle.std.proofs.Common.{◌≡◌, ap, sym, subst, ◌∙◌}
use Rattle.jr_table.specs.Decls.{class_decl}
use Rattle.jr_table.specs.TypeView.{class_key_of}
use Rattle.jr_images.specs.ImageView.{renaming_of}
use Rattle.jr_images.specs.Words.{value_of}
use Rattle.jr_new_words.specs.declared.mappings.KeyMapping.{KeyMapping}
use Rattle.jr_new_words.specs.FrontView.{in_front_of}
use Rattle.jr_new_words.specs.MappingView.{keys_of}
use Rattle.jr_new_words.specs.Mappings.{HaveImages, class_by}
use Rattle.jr_new_words.specs.Scopes.{rows_of}
use Rattle.jr_new_words.specs.Valued.{of_decl}
use Rattle.jr_new_words.proofs.Images.{renamed_class}
use Rattle.jr_new_words.proofs.values.image_value.Goals as goal

pub same_value-requires : goal.same_value-requires
same_value-requires c =
    let s = c.args.scopes.now in
    let have = subst (λ (x : KeyMapping). HaveImages (keys_of x) (rows_of s) s.programs.after.now) c.in-Same.is c.requires.kept.images in
    have (class_decl (class_key_of c.args.class.now)) c.args.number c.requires.row

pub returns-in-Same : goal.returns-in-Same
returns-in-Same c =
    let k = class_key_of c.args.class.now in
    subst (λ (x : KeyMapping). in_front_of c.same_value.result ≡ value_of (class_by (keys_of x) k)) (sym c.in-Same.is) c.same_value.ensures

pub returns-in-Renamed : goal.returns-in-Renamed
returns-in-Renamed c =
    let s = c.args.scopes.now in
    let k = class_key_of c.args.class.now in
    let are = subst (λ (x : KeyMapping). HaveImages (keys_of x) (rows_of s) s.programs.after.now) c.in-Renamed.is c.requires.kept.images in
    let image = renamed_class (renaming_of c.in-Renamed.field-0.now) (rows_of s) s.programs.after.now are k c.args.number c.requires.row in
    subst (λ (x : KeyMapping). in_front_of c.row_value.result ≡ value_of (class_by (keys_of x) k)) (sym c.in-Renamed.is) (c.row_value.ensures ∙ ap of_decl image)
