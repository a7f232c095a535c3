-- How the items of a text are walked: the item behind the longest tree, the item where reading
-- stops, and the state there.
use Rattle.std.specs.Prelude.{
  ℕ,
  ◌+◌,
  Bool,
  true,
  false,
  List,
  [],
  ◌∷◌,
  Option,
  Some,
  None,
  is_some,
  option_map,
  unwrap_or,
  if◌then◌else◌,
}
use Rattle.jr_text.specs.declared.spans.Span.{Span}
use Rattle.jr_lex.specs.declared.items.Item.{Item}
use Rattle.jr_ast.specs.Tree.{Exp}
use Rattle.jr_grammar.specs.Tokens.{Token, Placed, token_of}
use Rattle.jr_grammar.specs.Stands.{Tokens}
use Rattle.jr_pexpr.specs.Runs.{run, longest, stop_of}
use Rattle.jr_pexpr.specs.declared.rules.Rule.{Rule}
use Rattle.jr_pexpr.specs.declared.rules.Rule.TheVariants as rule
use Rattle.jr_pexpr.specs.Pieces.{Piece, a_close, a_comma, a_class, another}
use Rattle.jr_pexpr.specs.Machine.{State}
use Rattle.jr_pexpr.specs.ExpView.{placed}
use Rattle.jr_pexpr.specs.Marked.{span_step, span_whole, span_statement_step, span_statement_whole}

-- the machine of a rule
abbrev pub rule_step : Rule → State Span → Placed Span → Option (State Span)
rule_step rule.Expression s p = span_step s p
rule_step rule.StatementExpression s p = span_statement_step s p

abbrev pub rule_whole : Rule → State Span → Option (Exp Span)
rule_whole rule.Expression s = span_whole s
rule_whole rule.StatementExpression s = span_statement_whole s

abbrev pub rule_run : Rule → State Span → Tokens → Option (State Span)
rule_run r s ps = run (State Span) (Placed Span) (Exp Span) (rule_step r) (rule_whole r) s ps

abbrev pub rule_length : Rule → State Span → Tokens → Option ℕ
rule_length r s ps = longest (State Span) (Placed Span) (Exp Span) (rule_step r) (rule_whole r) s ps

abbrev pub rule_stop : Rule → State Span → Tokens → ℕ
rule_stop r s ps = stop_of (State Span) (Placed Span) (Exp Span) (rule_step r) (rule_whole r) s ps

abbrev pub next_of : Rule → State Span → Span → Option Token → Option (State Span)
next_of r s at (Some token) = rule_step r s (placed at token)
next_of r s at None = Some s

-- what nothing whole goes on with
abbrev pub is_end : Piece → Bool
is_end a_close = true
is_end a_comma = true
is_end a_class = true
is_end (another token) = true
is_end _ = false

module _ (r : Rule) (bytes : List ℕ) where
  -- the item `at`, where what has been read is whole in front of it, and else the one before
  abbrev pub end_at : State Span → ℕ → Option ℕ → Option ℕ
  end_at s at end = if is_some (rule_whole r s) then Some at else end

  -- the item behind the last token with which what has been read was whole; `end` where there is
  -- none
  abbrev pub walk_end : State Span → ℕ → Option ℕ → List Item → Option ℕ
  walk_end s at end [] = end
  walk_end s at end (i ∷ is) =
      unwrap_or
      (option_map
      (λ (token : Token). unwrap_or
      (option_map (λ (n : State Span). walk_end n (at + 1) (end_at n (at + 1) end) is)
      (rule_step r s (placed i.span token))) end)
      (token_of bytes i.span i.kind))
      (walk_end s (at + 1) end is)

  -- the item of the first token that can't be read, or that behind all items
  abbrev pub walk_stop : State Span → ℕ → List Item → ℕ
  walk_stop s at [] = at
  walk_stop s at (i ∷ is) =
      unwrap_or
      (option_map (λ (n : State Span). walk_stop n (at + 1) is)
      (next_of r s i.span (token_of bytes i.span i.kind))) at

  -- the state there
  abbrev pub walk_last : State Span → List Item → State Span
  walk_last s [] = s
  walk_last s (i ∷ is) =
      unwrap_or
      (option_map (λ (n : State Span). walk_last n is)
      (next_of r s i.span (token_of bytes i.span i.kind))) s
