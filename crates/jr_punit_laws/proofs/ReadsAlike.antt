-- With places the machines read, find and stop as without them.
use Rattle.std.proofs.Common.{◌≡◌, Option, Some, None, refl, ap, ◌∙◌}
use Rattle.std.specs.Prelude.{option_and_then, option_map}
use Rattle.jr_text.specs.declared.spans.Span.{Span}
use Rattle.jr_ast.specs.StatementTree.{Stmts}
use Rattle.jr_ast.specs.MemberTree.{Member, Unit as UnitTree}
use Rattle.jr_ast.specs.Remarked.{map_stmts}
use Rattle.jr_grammar.specs.Tokens.{Token, Placed, kinds}
use Rattle.jr_grammar.specs.Stands.{Tokens}
use Rattle.jr_grammar.specs.Bare.{Bare, bare_stmts, bare_member, bare_unit}
use Rattle.jr_pexpr.specs.Runs.{run}
use Rattle.jr_pexpr.proofs.Maps.{run_map, stop_map, longest_map}
use Rattle.jr_pstmt.specs.StatementMachine as Statements
use Rattle.jr_punit_laws.specs.MemberMachine as Members
use Rattle.jr_punit_laws.specs.UnitMachine as Units
use Rattle.jr_punit_laws.specs.Machines.{list_step, list_whole, member_step, member_whole, unit_step, unit_whole}
use Rattle.jr_punit_laws.specs.Marked.{span_list_step, span_list_whole, span_member_step, span_member_whole, span_unit_step, span_unit_whole, file_of}
use Rattle.jr_punit_laws.specs.MarkedAlike.{ReadsAlike}
use Rattle.jr_punit_laws.proofs.BareStatements.{bare_list_state, list_step-bare, list_whole-bare}
use Rattle.jr_punit_laws.proofs.BareMembers.{bare_member_state, member_step-bare, member_whole-bare, bare_unit_state, unit_step-bare, unit_whole-bare}

module _ (S T S' T' : Type 0) (step : S → Placed Span → Option S) (whole : S → Option T) (step' : S' → Token → Option S') (whole' : S' → Option T') (f : S → S') (h : T → T')
    (steps : (s : S) (p : Placed Span) → option_map f (step s p) ≡ step' (f s) p.token) (wholes : (s : S) → option_map h (whole s) ≡ whole' (f s)) where
  read_map : (s : S) (ps : Tokens) → option_map h (option_and_then whole (run S (Placed Span) T step whole s ps)) ≡ option_and_then whole' (run S' Token T' step' whole' (f s) (kinds ps))
  read_map s ps = go (run S (Placed Span) T step whole s ps) ∙ ap (option_and_then whole') (run_map S (Placed Span) T S' Token T' step whole step' whole' f (λ p. p.token) h steps wholes s ps)
    where
      go : (o : Option S) → option_map h (option_and_then whole o) ≡ option_and_then whole' (option_map f o)
      go None = refl
      go (Some n) = wholes n

pub reads_alike : ReadsAlike
unfolding map_stmts
reads_alike = record {
  list = λ ts. read_map (Statements.State Span) (Stmts Span) (Statements.State Bare) (Stmts Bare) span_list_step span_list_whole list_step list_whole bare_list_state bare_stmts (λ s p. list_step-bare s p.mark p.token) list_whole-bare Statements.start ts;
  list_stops = λ ts.
      stop_map (Statements.State Span) (Placed Span) (Stmts Span) (Statements.State Bare) Token (Stmts Bare) span_list_step span_list_whole list_step list_whole bare_list_state (λ p. p.token) bare_stmts (λ s p. list_step-bare s p.mark p.token)
      list_whole-bare Statements.start ts;
  member = λ nested name ts.
      read_map (Members.State Span) (Member Span) (Members.State Bare) (Member Bare) (span_member_step nested name) span_member_whole (member_step nested name) member_whole bare_member_state bare_member (λ s p. member_step-bare nested name s p.mark p.token)
      member_whole-bare Members.start ts;
  member_lengths = λ nested name ts.
      longest_map (Members.State Span) (Placed Span) (Member Span) (Members.State Bare) Token (Member Bare) (span_member_step nested name) span_member_whole (member_step nested name) member_whole bare_member_state (λ p. p.token) bare_member
      (λ s p. member_step-bare nested name s p.mark p.token) member_whole-bare Members.start ts;
  member_stops = λ nested name ts.
      stop_map (Members.State Span) (Placed Span) (Member Span) (Members.State Bare) Token (Member Bare) (span_member_step nested name) span_member_whole (member_step nested name) member_whole bare_member_state (λ p. p.token) bare_member
      (λ s p. member_step-bare nested name s p.mark p.token) member_whole-bare Members.start ts;
  unit = λ size ts.
      read_map (Units.State Span) (UnitTree Span) (Units.State Bare) (UnitTree Bare) span_unit_step (span_unit_whole size) unit_step unit_whole bare_unit_state bare_unit (λ s p. unit_step-bare s p.mark p.token) (unit_whole-bare (file_of size)) Units.start ts;
  unit_stops = λ size ts.
      stop_map (Units.State Span) (Placed Span) (UnitTree Span) (Units.State Bare) Token (UnitTree Bare) span_unit_step (span_unit_whole size) unit_step unit_whole bare_unit_state (λ p. p.token) bare_unit (λ s p. unit_step-bare s p.mark p.token)
      (unit_whole-bare (file_of size)) Units.start ts;
}
