use Rattle.std.proofs.Common.{List, map, subst}
use Rattle.std.specs.Prelude.{IfSome}
use Rattle.jr_table.specs.KeyView.{decl_of}
use Rattle.jr_table.specs.Rows.{Row}
use Rattle.jr_mentions.specs.Apart.{AreApart}
use Rattle.jr_mentions.specs.ApartView.{names_in}
use Rattle.jr_images.specs.ImageView.{renaming_of}
use Rattle.jr_new_files.proofs.Among.{is_unaffected}
use Rattle.jr_new_files.proofs.unaffected.Unaffected.of_rename.Goals as goal

pub returns-in-Some : goal.returns-in-Some
returns-in-Some c =
    let old = c.args.before.now in
    let names = c.in-Some.names in
    let apart = subst (λ o. IfSome o (λ a. AreApart (names_in a) old c.args.after.now)) c.in-Some.is c.apart.ensures.some in
    is_unaffected old (renaming_of c.args.name.now) names (map decl_of c.as_slice.result.now) (subst (λ (rows : List Row). AreApart (names_in names) old rows) c.requires apart) c.as_slice.ensures c.unaffected_by.result c.unaffected_by.ensures
