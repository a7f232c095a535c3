use Rattle.jr_moved_references.proofs.MovedTexts.{expressions_move, statements_move}
use Rattle.jr_moved_references.proofs.FilePlaces.{files_move}
use Rattle.jr_moved_references.proofs.laws.references_move.Goals as goal

pub returns : goal.returns
returns c = record {
  expressions = λ rows g super_at from to r bytes e o y are fair named stand h made none k eq at x refers untouched.
      expressions_move c.one_answer.ensures.items c.items_are_placed.ensures.items rows g super_at fair named (λ from to stand. record {
        are = fair.are;
        one_old = c.lookups_are_exact.ensures.one rows are;
        one_new = c.lookups_are_exact.ensures.one _ fair.are;
        old = c.types_are_exact.ensures.bound rows are (c.lookups_are_exact.ensures.keys rows are) from;
        new = c.types_are_exact.ensures.bound _ fair.are (c.lookups_are_exact.ensures.keys _ fair.are) to;
        rebind = c.spellings_rebind.ensures.bound;
        classes = c.spellings_rebind.ensures.classes;
        fronts = c.spellings_rebind.ensures.fronts _ to;
        stand = stand;
        whole = fair.names;
        string = fair.string;
        class = fair.class;
      }) from to stand r bytes e o y h made none k eq at x refers untouched;
  statements = λ rows g super_at from to n bytes s o y are fair named stand h made none k eq at x refers untouched.
      statements_move c.one_answer.ensures.items c.items_are_placed.ensures.items rows g super_at fair named (λ from to stand. record {
        are = fair.are;
        one_old = c.lookups_are_exact.ensures.one rows are;
        one_new = c.lookups_are_exact.ensures.one _ fair.are;
        old = c.types_are_exact.ensures.bound rows are (c.lookups_are_exact.ensures.keys rows are) from;
        new = c.types_are_exact.ensures.bound _ fair.are (c.lookups_are_exact.ensures.keys _ fair.are) to;
        rebind = c.spellings_rebind.ensures.bound;
        classes = c.spellings_rebind.ensures.classes;
        fronts = c.spellings_rebind.ensures.fronts _ to;
        stand = stand;
        whole = fair.names;
        string = fair.string;
        class = fair.class;
      }) from to stand n bytes s o y h made none k eq at x refers untouched;
  files = λ rows g super_at packages units news old_at new_at i bytes u v o are program named images e f h made none n eq k at x refers not untouched.
      files_move c.one_answer.ensures.items c.items_are_placed.ensures.items rows g super_at packages units news are program named images (λ from to stand. record {
        are = images.fair.are;
        one_old = c.lookups_are_exact.ensures.one rows are;
        one_new = c.lookups_are_exact.ensures.one _ images.fair.are;
        old = c.types_are_exact.ensures.bound rows are (c.lookups_are_exact.ensures.keys rows are) from;
        new = c.types_are_exact.ensures.bound _ images.fair.are (c.lookups_are_exact.ensures.keys _ images.fair.are) to;
        rebind = c.spellings_rebind.ensures.bound;
        classes = c.spellings_rebind.ensures.classes;
        fronts = c.spellings_rebind.ensures.fronts _ to;
        stand = stand;
        whole = images.fair.names;
        string = images.fair.string;
        class = images.fair.class;
      }) old_at new_at i bytes u v o e f h made none n eq k at x refers not untouched;
}
