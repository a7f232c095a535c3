use Rattle.std.proofs.Common.{sym, subst}
use Rattle.std.specs.Prelude.{◌==◌, IsTrue}
use Rattle.std.proofs.lemmas.Bool.Decides.{Decides-eqb}
use Rattle.jr_images.specs.ImageView.{renaming_of}
use Rattle.jr_new_words.specs.declared.mappings.KeyMapping.{KeyMapping}
use Rattle.jr_new_words.specs.MappingView.{keys_of}
use Rattle.jr_new_words.specs.Mappings.{HaveImages, BecomesAt}
use Rattle.jr_new_words.proofs.Images.{same_becomes, renamed_becomes}
use Rattle.jr_new_words.proofs.staying.becomes.Goals as goal

pub returns-in-Same : goal.returns-in-Same
returns-in-Same c =
    let p = c.args.tables.now in
    let old = p.before.now in
    let new = p.after.now in
    subst (λ (x : KeyMapping). IsTrue c.declare_one.result → BecomesAt (keys_of x) old new c.args.before c.args.after) (sym c.in-Same.is)
    (λ t. let both = c.declare_one.ensures t in same_becomes old new c.args.before c.args.after both.0 both.1 both.2)

pub returns-in-Renamed : goal.returns-in-Renamed
returns-in-Renamed c =
    let p = c.args.tables.now in
    let old = p.before.now in
    let new = p.after.now in
    let i = c.args.before in
    let j = c.args.after in
    let are = subst (λ (x : KeyMapping). HaveImages (keys_of x) old new) c.in-Renamed.is c.requires in
    subst (λ (x : KeyMapping). IsTrue (i == j) → BecomesAt (keys_of x) old new i j) (sym c.in-Renamed.is)
    (λ t. renamed_becomes (renaming_of c.in-Renamed.field-0.now) old new are i j ((Decides-eqb i j).0 t))
