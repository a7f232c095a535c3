-- With places the machines read, find and stop as without them, and what they build has its spans.
use Rattle.std.specs.Prelude.{◌≡◌, ℕ, Bool, List, Some, option_map}
use Rattle.jr_text.specs.declared.spans.Span.{Span}
use Rattle.jr_ast.specs.StatementTree.{Stmts}
use Rattle.jr_ast.specs.MemberTree.{Member, Unit as UnitTree}
use Rattle.jr_grammar.specs.Tokens.{kinds}
use Rattle.jr_grammar.specs.Stands.{Tokens}
use Rattle.jr_grammar.specs.Bare.{bare_stmts, bare_member, bare_unit}
use Rattle.jr_grammar.specs.Units.{IsMarkedUnit, IsMarkedMember, AreMarkedStatements}
use Rattle.jr_punit_laws.specs.Machines.{
  list_read,
  list_stop,
  member_read,
  member_length,
  member_stop,
  unit_read,
  unit_stop,
}
use Rattle.jr_punit_laws.specs.Marked.{
  span_list_read,
  span_list_stop,
  span_member_read,
  span_member_length,
  span_member_stop,
  span_unit_read,
  span_unit_stop,
}

pub record ReadsAlike : Type 0 where
  pub list : (tokens : Tokens) →
      option_map bare_stmts (span_list_read tokens) ≡ list_read (kinds tokens)
  pub list_stops : (tokens : Tokens) → span_list_stop tokens ≡ list_stop (kinds tokens)
  pub member : (nested : Bool) (name : List ℕ) (tokens : Tokens) →
      option_map bare_member (span_member_read nested name tokens) ≡ member_read nested name
      (kinds tokens)
  pub member_lengths : (nested : Bool) (name : List ℕ) (tokens : Tokens) →
      span_member_length nested name tokens ≡ member_length nested name (kinds tokens)
  pub member_stops : (nested : Bool) (name : List ℕ) (tokens : Tokens) →
      span_member_stop nested name tokens ≡ member_stop nested name (kinds tokens)
  pub unit : (size : ℕ) (tokens : Tokens) →
      option_map bare_unit (span_unit_read size tokens) ≡ unit_read (kinds tokens)
  pub unit_stops : (size : ℕ) (tokens : Tokens) →
      span_unit_stop size tokens ≡ unit_stop (kinds tokens)

-- what the machines read over tokens with places
pub record ReadsMarked : Type 0 where
  pub list : (tokens : Tokens) (stmts : Stmts Span) → span_list_read tokens ≡ Some stmts →
      AreMarkedStatements tokens stmts
  pub member : (nested : Bool) (name : List ℕ) (tokens : Tokens) (member : Member Span) →
      span_member_read nested name tokens ≡ Some member → IsMarkedMember nested name tokens member
  pub unit : (size : ℕ) (tokens : Tokens) (unit : UnitTree Span) →
      span_unit_read size tokens ≡ Some unit → IsMarkedUnit size tokens unit
