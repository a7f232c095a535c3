-- The sources alone say what is shown of a file.
use Rattle.std.proofs.Common.{◌≡◌, ℕ, List}
use Rattle.jr_names.specs.declared.steps.What.{What}
use Rattle.jr_names.specs.declared.steps.What.TheVariants as what
use Rattle.jr_lines.specs.LineLaws.{OneInOrder}
use Rattle.jr_dependence_lines.specs.LineLaws.{LinesAreOne, LargeIsOne, NeverBoth}
use Rattle.jr_sources.specs.ReadingLaws.{HasOneReading}
use Rattle.jr_sources.specs.Sources.{Source}
use Rattle.jr_sources.proofs.Analysing.{OneItems}
use Rattle.jr_session.specs.Shows.{AreShownTexts}
use Rattle.jr_session.specs.StepLaws.{HasOneShow}
use Rattle.jr_session.proofs.ShownLines.{one_shown}
use Rattle.jr_session.proofs.DependenceShows.{one_texts, one_large, never_both}

module _ (reading : HasOneReading) (items_once : OneItems) (order : OneInOrder) (lines_once : LinesAreOne) (large_once : LargeIsOne) (never : NeverBoth) where
  one_list : (sources : List Source) (number : ℕ) (of : What) (xs ys : List (List ℕ)) → AreShownTexts sources number of xs → AreShownTexts sources number of ys → xs ≡ ys
  one_list sources number what.Bindings xs ys g h = one_shown reading items_once order sources number xs ys g h
  one_list sources number what.Dependences xs ys g h = one_texts reading items_once sources number lines_once xs ys g h

  pub shown_once : HasOneShow
  shown_once = record {
    lines = one_list;
    large = λ sources number k l m n g h. one_large reading items_once sources number large_once k l m n g h;
    never_both = λ sources number xs k n g h. never_both reading items_once sources number never xs k n g h;
  }
