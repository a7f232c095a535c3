use Rattle.jr_kept_references.proofs.Renamed.{renamed_kept}
use Rattle.jr_kept_references.proofs.laws.renamed_expressions_are_kept.Goals as goal

pub returns : goal.returns
returns g c tells rows renaming super_at from to r base e o are fair stand made none b i =
    renamed_kept rows renaming from to stand tells super_at fair (record {
      are = fair.are;
      one_old = c.lookups_are_exact.ensures.one rows are;
      one_new = c.lookups_are_exact.ensures.one _ fair.are;
      old = c.types_are_exact.ensures.bound rows are (c.lookups_are_exact.ensures.keys rows are) from;
      new = c.types_are_exact.ensures.bound _ fair.are (c.lookups_are_exact.ensures.keys _ fair.are) to;
      rebind = c.spellings_rebind.ensures.bound;
      classes = c.spellings_rebind.ensures.classes;
      fronts = c.spellings_rebind.ensures.fronts _ to;
      stand = stand;
      whole = fair.names;
      string = fair.string;
      class = fair.class;
    }) r base e o made none b i
