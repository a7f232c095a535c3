-- The machine over tokens with their places.
use Rattle.std.specs.Prelude.{List, Option}
use Rattle.jr_text.specs.declared.spans.Span.{Span}
use Rattle.jr_ast.specs.Tree.{Exp}
use Rattle.jr_grammar.specs.Tokens.{Placed}
use Rattle.jr_pexpr.specs.Machine.{State, step, whole, statement_step, statement_whole}
use Rattle.jr_pexpr.specs.Runs.{run}

-- from where the one begins to where the other ends
abbrev pub join : Span → Span → Span
join a b = record { from = a.from; to = b.to }

abbrev pub span_step : State Span → Placed Span → Option (State Span)
span_step s p = step join s p.mark p.token

abbrev pub span_whole : State Span → Option (Exp Span)
span_whole s = whole join s

abbrev pub span_run : State Span → List (Placed Span) → Option (State Span)
span_run s ps = run (State Span) (Placed Span) (Exp Span) span_step span_whole s ps

abbrev pub span_statement_step : State Span → Placed Span → Option (State Span)
span_statement_step s p = statement_step join s p.mark p.token

abbrev pub span_statement_whole : State Span → Option (Exp Span)
span_statement_whole s = statement_whole join s

abbrev pub span_statement_run : State Span → List (Placed Span) → Option (State Span)
span_statement_run s ps =
    run (State Span) (Placed Span) (Exp Span) span_statement_step span_statement_whole s ps
