-- Inline method: a call becomes a block with a copy of the body of the method that it means (JLS
-- 15.12.4).
use Rattle.std.specs.Prelude.{ℕ}
use Rattle.jr_text.specs.declared.spans.Span.{Span}
use Rattle.jr_bind.specs.Programs.{Program}
use Rattle.jr_plan.specs.Transforms.{Refactoring}
use Rattle.jr_inline_method.specs.Refusing.{Written, IsGranted, RefusesInlineMethod}
use Rattle.jr_inline_method.specs.Inlining.{Carried, inlines}

module _ (p : Program Span) (file at : ℕ) where
  -- what is found where nothing refuses
  pub record Found : Type 0 where
    pub call : Written p file at
    pub granted : IsGranted p file at call
    pub carried : Carried p file at call

  abbrev pub inline_method : Refactoring
  inline_method = record {
    Refuses = RefusesInlineMethod p file at;
    Found = Found;
    transform = λ (f : Found). inlines p file at f.call f.carried;
  }
