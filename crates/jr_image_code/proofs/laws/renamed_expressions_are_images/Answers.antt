use Rattle.jr_image_code.proofs.Renamed.{renamed_images}
use Rattle.jr_image_code.proofs.laws.renamed_expressions_are_images.Goals as goal

pub returns : goal.returns
returns g c tells rows renaming super_at keys declared size from to role base e o are fair stand maps has below casts made none i x z old new =
    renamed_images tells rows renaming fair from to stand (record {
      are = fair.are;
      one_old = c.lookups_are_exact.ensures.one rows are;
      one_new = c.lookups_are_exact.ensures.one _ fair.are;
      old = c.types_are_exact.ensures.bound rows are (c.lookups_are_exact.ensures.keys rows are) from;
      new = c.types_are_exact.ensures.bound _ fair.are (c.lookups_are_exact.ensures.keys _ fair.are) to;
      rebind = c.spellings_rebind.ensures.bound;
      classes = c.spellings_rebind.ensures.classes;
      fronts = c.spellings_rebind.ensures.fronts _ to;
      stand = stand;
      whole = fair.names;
      string = fair.string;
      class = fair.class;
    }) keys declared maps has size below casts super_at role base e o made none i x z old new
