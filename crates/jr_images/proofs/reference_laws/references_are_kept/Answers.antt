use Rattle.jr_images.proofs.Members.{units_along}
use Rattle.jr_images.proofs.reference_laws.references_are_kept.Goals as goal

pub returns : goal.returns
returns g c tells rows renaming super_at units files are fair made none = units_along tells rows renaming super_at
    (λ from to stand. record {
      are = fair.are;
      one_old = c.lookups_are_exact.ensures.one rows are;
      one_new = c.lookups_are_exact.ensures.one _ fair.are;
      old = c.types_are_exact.ensures.bound rows are (c.lookups_are_exact.ensures.keys rows are) from;
      new = c.types_are_exact.ensures.bound _ fair.are (c.lookups_are_exact.ensures.keys _ fair.are) to;
      rebind = c.spellings_rebind.ensures.bound;
      classes = c.spellings_rebind.ensures.classes;
      fronts = c.spellings_rebind.ensures.fronts _ to;
      stand = stand;
      whole = fair.names;
      string = fair.string;
      class = fair.class;
    }) _ units files made none
