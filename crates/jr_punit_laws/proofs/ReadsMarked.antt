-- What the machines read over tokens with places: the trees, with their spans.
use Rattle.std.proofs.Common.{◌≡◌, ℕ, Bool, List, Option, Some, sym, ap, subst, ◌∙◌}
use Rattle.std.specs.Prelude.{option_map, MatchOption}
use Rattle.jr_text.specs.declared.spans.Span.{Span}
use Rattle.jr_ast.specs.StatementTree.{Stmts}
use Rattle.jr_ast.specs.MemberTree.{Member, Unit as UnitTree}
use Rattle.jr_grammar.specs.Tokens.{kinds}
use Rattle.jr_grammar.specs.Stands.{Tokens}
use Rattle.jr_grammar.specs.Bare.{Bare, no_mark, bare_stmts, bare_member, bare_unit}
use Rattle.jr_grammar.specs.IgnoresMarks.{StatementIgnoresMarks, MemberIgnoresMarks, UnitIgnoresMarks}
use Rattle.jr_grammar.specs.Units.{IsMarkedUnit, IsMarkedMember, AreMarkedStatements, IsUnit, IsNoUnit, IsMember}
use Rattle.jr_pexpr.proofs.Found.{both_some}
use Rattle.jr_pstmt.specs.StatementMachine as Statements
use Rattle.jr_punit_laws.specs.MemberMachine as Members
use Rattle.jr_punit_laws.specs.UnitMachine as Units
use Rattle.jr_punit_laws.specs.Machines.{list_read, member_read, unit_read}
use Rattle.jr_punit_laws.specs.Marked.{span_list_whole, span_list_run, span_list_read, span_member_whole, span_member_run, span_member_read, span_unit_whole, span_unit_run, span_unit_read}
use Rattle.jr_grammar.specs.Units.{AreStatements, AreNoStatements, IsNoMember}
use Rattle.jr_punit_laws.specs.MarkedAlike.{ReadsMarked}
use Rattle.jr_punit_laws.proofs.Readings.{list_is_read, member_is_read, unit_is_read}
use Rattle.jr_punit_laws.proofs.ReadsAlike.{reads_alike}
use Rattle.jr_punit_laws.proofs.StatementStands.{list_stands, list_whole_stands}
use Rattle.jr_punit_laws.proofs.MemberStands.{member_builds}
use Rattle.jr_punit_laws.proofs.UnitStands.{unit_builds}

some_match : {T : Type 0} (o : Option T) (x : T) (P : Type 0) (Q : T → Type 0) → o ≡ Some x → MatchOption o P Q → Q x
some_match o x P Q e h = subst (λ o. MatchOption o P Q) e h

-- what holds of trees whatever their marks
pub record Ignores : Type 0 where
  pub statements : StatementIgnoresMarks Span Bare
  pub members : MemberIgnoresMarks Span Bare
  pub units : UnitIgnoresMarks Span Bare

abbrev no_span : Span → Bare
no_span = no_mark

list_marked : Ignores → (ts : Tokens) (ss : Stmts Span) → span_list_read ts ≡ Some ss → AreMarkedStatements ts ss
list_marked g ts ss h =
    let r = both_some span_list_whole (span_list_run Statements.start ts) ss h in
    let q = some_match (list_read (kinds ts)) (bare_stmts ss) (AreNoStatements (kinds ts)) (AreStatements (kinds ts)) (sym (reads_alike.list ts) ∙ ap (option_map bare_stmts) h) (list_is_read (kinds ts)) in
    record {
      shaped = (g.statements.list_shape no_span ss).0 q.shaped;
      spells = sym (g.statements.list_spelling no_span ss) ∙ q.spells;
      marks = list_whole_stands r.0 ss ts (list_stands ts r.0 r.1) r.2;
    }

member_marked : Ignores → (nested : Bool) (name : List ℕ) (ts : Tokens) (d : Member Span) → span_member_read nested name ts ≡ Some d → IsMarkedMember nested name ts d
member_marked g nested name ts d h =
    let r = both_some span_member_whole (span_member_run nested name Members.start ts) d h in
    let q = some_match (member_read nested name (kinds ts)) (bare_member d) (IsNoMember nested name (kinds ts)) (IsMember nested name (kinds ts)) (sym (reads_alike.member nested name ts) ∙ ap (option_map bare_member) h)
    (member_is_read nested name (kinds ts)) in
    record {
      shaped = (g.members.shape no_span nested name d).0 q.shaped;
      spells = sym (g.members.spelling no_span d) ∙ q.spells;
      marks = member_builds nested name ts r.0 d r.1 r.2;
    }

unit_marked : Ignores → (size : ℕ) (ts : Tokens) (u : UnitTree Span) → span_unit_read size ts ≡ Some u → IsMarkedUnit size ts u
unit_marked g size ts u h =
    let r = both_some (span_unit_whole size) (span_unit_run size Units.start ts) u h in
    let q = some_match (unit_read (kinds ts)) (bare_unit u) (IsNoUnit (kinds ts)) (IsUnit (kinds ts)) (sym (reads_alike.unit size ts) ∙ ap (option_map bare_unit) h) (unit_is_read (kinds ts)) in
    let b = unit_builds size ts r.0 u r.1 r.2 in
    record {
      shaped = (g.units.shape no_span u).0 q.shaped;
      spells = sym (g.units.spelling no_span u) ∙ q.spells;
      marks = b.0;
      file = b.1;
    }

pub reads_marked : Ignores → ReadsMarked
reads_marked g = record { list = list_marked g; member = member_marked g; unit = unit_marked g }
