-- What inline method makes of the list of the call's statement it makes of the program: all around
-- it is as it was.
use Rattle.std.specs.Prelude.{ℕ, ◌++◌}
use Rattle.jr_text.specs.declared.spans.Span.{Span}
use Rattle.jr_ast.specs.StatementTree as statement
use Rattle.jr_grammar.specs.Layout.{itself}
use Rattle.jr_bind.specs.Programs.{Program, IsProgram}
use Rattle.jr_rewrite.specs.Rewritten.{Rewritten}
use Rattle.jr_inline_method.specs.Calling.{form_statement}
use Rattle.jr_inline_method.specs.Inlining.{call, stands, Inlines, lost_copies, lost_made}
use Rattle.jr_inline_method.specs.InlineMethod.{Found, inline_method}
use Rattle.jr_untouched_parts.specs.Around.{IsWhole}

module _ (p : Program Span) (file at : ℕ) (f : Found p file at) where
  -- the list from the call's statement on
  abbrev pub called_list : statement.Stmts Span
  called_list = statement.more
      (form_statement (call p file at f.call).form (call p file at f.call).call)
      (call p file at f.call).rest

  -- what becomes of it
  abbrev pub BecomesBlock : Rewritten (statement.Stmts Span) → Type 0
  BecomesBlock o = Inlines p file at f.call f.carried.parts f.carried.text f.carried.body_text
      f.carried.gap (stands p file at f.call).next (stands p file at f.call).context
      (stands p file at f.call).base called_list o

abbrev pub InlineMethodsAreWhole : Type 0
InlineMethodsAreWhole = (p : Program Span) → IsProgram itself (λ m b. Unit {0}) p → (file at : ℕ)
    (f : Found p file at) (o : Rewritten (statement.Stmts Span)) → BecomesBlock p file at f o
    → IsWhole p ((inline_method p file at).transform f)
    (lost_copies p file at f.call f.carried ++ lost_made p file at f.call f.carried) file o
