use Rattle.std.proofs.Common.{map, sym, ◌∙◌}
use Rattle.jr_table.specs.KeyView.{decl_of}
use Rattle.jr_rename.specs.RowClashes.{takes_place, one_takes_place}
use Rattle.jr_images.proofs.Imaging.{any_map}
use Rattle.jr_rename.proofs.ClashTests.{none_takes}
use Rattle.jr_rename.proofs.row_clashes.one_takes_place.Goals as goal

pub returns-then-is_named : goal.returns-then-is_named
unfolding one_takes_place
returns-then-is_named c = c.some_takes_place.ensures ∙ any_map (λ r. takes_place r c.args.new.now (decl_of c.args.decl.now)) decl_of c.args.renamed.now

pub returns-else-is_named : goal.returns-else-is_named
unfolding one_takes_place
returns-else-is_named c = sym (none_takes (map decl_of c.args.renamed.now) c.args.new.now (decl_of c.args.decl.now) (sym c.is_named.ensures ∙ c.if-is_named.false))
