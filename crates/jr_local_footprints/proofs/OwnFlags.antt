-- A member's own flags tell what is never null in its body, so they are a test for null.
use Rattle.std.proofs.Common.{◌≡◌, ℕ, Bool, List, [], Option, Some, refl, sym, ap, subst, ◌∙◌}
use Rattle.std.specs.Prelude.{IsTrue}
use Rattle.jr_text.specs.declared.spans.Span.{Span}
use Rattle.jr_ast.specs.Tree as tree
use Rattle.jr_ast.specs.MemberTree as syntax
use Rattle.jr_grammar.specs.Layout.{itself}
use Rattle.jr_grammar.specs.StatementShape.{StmtsShaped}
use Rattle.jr_table.specs.LookupLaws.{KeysFound}
use Rattle.jr_table.specs.BindingLaws.{AreBound}
use Rattle.jr_table.specs.Decls.{MemberKey}
use Rattle.jr_table.specs.Errors.{Part, class_part, member_part}
use Rattle.jr_expr_types.specs.Slots.{find_type}
use Rattle.jr_members.specs.WrittenLaws.{MembersAreWritten}
use Rattle.jr_bind.specs.Bounds.{decl_in}
use Rattle.jr_bind.specs.Programs.{Program, IsProgram}
use Rattle.jr_never_null.proofs.Flagging.{flags_tell}
use Rattle.jr_expr_sites.specs.KnownFacts.{is_never_null}
use Rattle.jr_expr_sites.specs.Routes.{spots}
use Rattle.jr_program_laws.specs.PlaceLaws.{PartsArePlaced}
use Rattle.jr_way_places.specs.PlacedWays.{WaysAreWalked}
use Rattle.jr_member_graphs.specs.GivenFlags.{FlagsTellTheMember}
use Rattle.jr_member_graphs.specs.OwnFlags.{own_flags}
use Rattle.jr_bodies.proofs.Coded.{no_body, key_of}
use Rattle.jr_local_search.specs.DeclarationLaws.{DeclarationsHaveWays, WaysAreDeclared}
use Rattle.jr_local_reads.specs.BehindLaws.{BodiesBeginBelow}
use Rattle.jr_local.specs.Bodies.{Body, body_of, HasBody}
use Rattle.jr_local.specs.BodyFacts.{TellsNeverNull}
use Rattle.jr_local_footprints.specs.Givens.{IsMemberOf, given_of, FlagsTell}
use Rattle.jr_local_footprints.specs.NullTests.{OwnFlagsTell, TestsAreThere}
use Rattle.jr_local_footprints.proofs.Declared.{declares_or_not}
use Rattle.jr_local_footprints.proofs.AssignsBack.{assigns_or_not}
use Rattle.jr_local_footprints.proofs.Flags.{own_flags_tell}
use Rattle.jr_local_footprints.proofs.SuperArgs.{spare}

pub flags_of_members : MembersAreWritten Span → PartsArePlaced → WaysAreWalked Span → KeysFound → AreBound Span → BodiesBeginBelow → DeclarationsHaveWays → WaysAreDeclared → FlagsTellTheMember → OwnFlagsTell
flags_of_members written placed walked found are_bound below have declared member_flags p program file b h shaped base m part is =
    own_flags_tell member_flags (λ facts a rows e. flags_tell facts a rows e) (λ facts a rows e. flags_tell facts a rows e) p b base m is (declares_or_not have declared p b shaped) (assigns_or_not written placed walked found are_bound p program file b h shaped)
    (spare written placed found below p program file b h m part)

-- the member of a body
record MemberOf (p : Program Span) (file : ℕ) (b : Body) (h : HasBody p file b) : Type 0 where
  of : syntax.Member Span
  part : h.member.part ≡ member_part of
  is : IsMemberOf b h.member.base of

member_of : (p : Program Span) (file : ℕ) (b : Body) (h : HasBody p file b) → MemberOf p file b h
member_of p file b h = by h.member.part refl
  where
    by : (part : Part Span) → h.member.part ≡ part → MemberOf p file b h
    by (class_part c) e = absurd (no_body b (ap (λ (z : Part Span). body_of h.member.key h.member.base z b.bound) (sym e) ∙ h.is))
    by (member_part m) e = record {
      of = m;
      part = e;
      is = ap (λ (k : MemberKey). body_of k h.member.base (member_part m) b.bound) (sym (key_of h.member.key h.member.base h.member.part b.bound b h.is)) ∙ ap (λ (z : Part Span). body_of h.member.key h.member.base z b.bound) (sym e) ∙ h.is;
    }

pub tests_are_there : OwnFlagsTell → TestsAreThere
tests_are_there law p program file b h shaped =
    let m = member_of p file b h in
    let flags = own_flags itself p.rows b.key (decl_in b.bound.references) (find_type b.bound.types) h.member.base m.of in
    let tell = law p program file b h shaped h.member.base m.of m.part m.is in
    (λ e. is_never_null (given_of p b flags h.member.base m.of) (spots itself [] 0 e), λ e. tell e 0 [])
