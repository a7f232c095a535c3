-- What holds of what inline method makes of a program.
use Rattle.std.specs.Prelude.{ℕ}
use Rattle.jr_text.specs.declared.spans.Span.{Span}
use Rattle.jr_bind.specs.Programs.{Program}
use Rattle.jr_rewrite.specs.Spots.{SpotsAreApart}
use Rattle.jr_plan.specs.Transforms.{Transform}
use Rattle.jr_inline_method.specs.InlineMethod.{Found, inline_method}

module _ (p : Program Span) (file at : ℕ) (f : Found p file at) where
  abbrev pub inlined : Transform
  inlined = (inline_method p file at).transform f

-- Its spot is used: the list from the call's statement on.
abbrev pub InlineMethodIsApart : Type 0
InlineMethodIsApart = (p : Program Span) (file at : ℕ) (f : Found p file at) (n : ℕ)
    → SpotsAreApart ((inlined p file at f).spots n)
