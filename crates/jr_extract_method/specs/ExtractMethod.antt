-- Extract method: statements of a list, or an expression, become the body of a new method, which is
-- called in their place (JLS 8.4, 15.12).
use Rattle.std.specs.Prelude.{◌≡◌, ℕ, false, List, Some, slice_get}
use Rattle.jr_text.specs.declared.spans.Span.{Span}
use Rattle.jr_table.specs.Decls.{method}
use Rattle.jr_table.specs.Rows.{Row}
use Rattle.jr_bind.specs.Programs.{Program}
use Rattle.jr_plan.specs.Transforms.{Refactoring}
use Rattle.jr_member_parts.specs.InTheWay.{is_in_the_way}
use Rattle.jr_extract_method.specs.Selecting.{Piece, Outside, AreOuter}
use Rattle.jr_extract_method.specs.Results.{Returned, Returns}
use Rattle.jr_extract_method.specs.Refusing.{IsGranted, class_at, key_with, RefusesExtractMethod}
use Rattle.jr_extract_method.specs.Extracting.{Carried, extracts}

module _ (p : Program Span) (file from to : ℕ) (name : List ℕ) where
  -- what is found where nothing refuses
  pub record Found : Type 0 where
    pub piece : Piece p file from to
    pub granted : IsGranted p file from to name piece
    pub outer : List Outside
    pub are_outer : AreOuter piece outer
    pub free : (i : ℕ) (r : Row) → slice_get p.rows i ≡ Some r
        → is_in_the_way (class_at p file from to name piece)
        (method (key_with p file from to name piece outer)) r ≡ false
    pub returned : Returned
    pub returns : Returns piece outer returned
    pub carried : Carried p file from to name piece outer returned

  abbrev pub extract_method : Refactoring
  extract_method = record {
    Refuses = RefusesExtractMethod p file from to name;
    Found = Found;
    transform = λ (f : Found). extracts p file from to name f.piece f.outer f.returned f.carried;
  }
