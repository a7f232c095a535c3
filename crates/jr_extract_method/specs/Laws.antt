-- What holds of what extract method makes of a program.
use Rattle.std.specs.Prelude.{ℕ, List}
use Rattle.jr_text.specs.declared.spans.Span.{Span}
use Rattle.jr_bind.specs.Programs.{Program}
use Rattle.jr_rewrite.specs.Spots.{AreApart, SpotsAreApart}
use Rattle.jr_plan.specs.Transforms.{Transform}
use Rattle.jr_extract_method.specs.Extracting.{in_member}
use Rattle.jr_extract_method.specs.ExtractMethod.{Found, extract_method}

module _ (p : Program Span) (file from to : ℕ) (name : List ℕ)
    (f : Found p file from to name) where
  abbrev pub extracted : Transform
  extracted = (extract_method p file from to name).transform f

  -- Its spots are used, and those within the member that holds the piece.
  pub record IsApart : Type 0 where
    pub files : (n : ℕ) → SpotsAreApart (extracted.spots n)
    pub member : AreApart (in_member p file from to name f.piece f.outer f.returned
        f.carried.parts f.carried.text f.carried.items f.carried.gap)

abbrev pub ExtractMethodIsApart : Type 0
ExtractMethodIsApart = (p : Program Span) (file from to : ℕ) (name : List ℕ)
    (f : Found p file from to name) → IsApart p file from to name f
