-- Written members can be asked for their dependences: the key of a field is one of fields.
use Rattle.std.proofs.Common.{◌≡◌, ℕ, List, [], ◌∷◌, subst, inl, inr}
use Rattle.std.specs.Prelude.{Option, None, Some, Contains}
use Rattle.jr_text.specs.declared.spans.Span.{Span}
use Rattle.jr_ast.specs.MemberTree as syntax
use Rattle.jr_table.specs.Keys.{ClassKey}
use Rattle.jr_table.specs.Decls.{MemberKey}
use Rattle.jr_table.specs.DeclaredItems.{DeclaredItem, declarations_of}
use Rattle.jr_table.specs.Errors.{Part, member_part, Declares, InClass, InMembers, InInner, InClasses}
use Rattle.jr_table.specs.Rows.{Row}
use Rattle.jr_members.specs.WrittenMembers.{WrittenMember}
use Rattle.jr_members.specs.WrittenLaws.{AreWritten}
use Rattle.jr_program_laws.specs.FileParts.{begins}
use Rattle.jr_program.specs.Members.{EachOf}
use Rattle.jr_dependence_lines.specs.MemberLines.{CanShowPart, CanShow}
use Rattle.jr_sources.proofs.InFiles.{each_from}
use Rattle.jr_sources.proofs.PartsFit.{whole_fits}

module _ (declarations : List DeclaredItem) (base : ℕ) (part : Part Span) where
  -- the member is this part
  abbrev Is : MemberKey → ℕ → Part Span → Type 0
  Is k b p = (b ≡ base) × (p ≡ part)

  declared_can : (at : ℕ) (of : ClassKey) (x : syntax.Member Span) (k : MemberKey) → Declares begins declarations at of x k → CanShowPart k base (member_part x)
  declared_can at of (syntax.field m mods t w init) k h = ((record { class = of; name = w.text }, h), whole_fits begins base (member_part (syntax.field m mods t w init)))
  declared_can at of (syntax.method m mods t w ps body) k h = (tt, whole_fits begins base (member_part (syntax.method m mods t w ps body)))
  declared_can at of (syntax.constructor m mods w ps args body) k h = (tt, whole_fits begins base (member_part (syntax.constructor m mods w ps args body)))
  declared_can at of (syntax.inner m c) k h = absurd h

  mutual
    unfolding InClass InMembers InInner

    in_class : (at : ℕ) (o : Option (List ℕ)) (c : syntax.Class Span) (k : MemberKey) → InClass begins declarations Is at o c k → CanShowPart k base part
    in_class at o (syntax.class m mods w t ms) k (inl h) = subst (CanShowPart k base) h.1.1 tt
    in_class at o (syntax.class m mods w t ms) k (inr h) = in_members (begins m at) _ ms k h

    in_members : (at : ℕ) (of : ClassKey) (ms : syntax.Members Span) (k : MemberKey) → InMembers begins declarations Is at of ms k → CanShowPart k base part
    in_members at of syntax.end k h = absurd h
    in_members at of (syntax.more x xs) k (inl (inl h)) = subst (CanShowPart k base) h.1.1 (declared_can at of x k h.0)
    in_members at of (syntax.more x xs) k (inl (inr h)) = in_inner at of x k h
    in_members at of (syntax.more x xs) k (inr h) = in_members at of xs k h

    in_inner : (at : ℕ) (of : ClassKey) (x : syntax.Member Span) (k : MemberKey) → InInner begins declarations Is at of x k → CanShowPart k base part
    in_inner at of (syntax.inner m c) k h = in_class (begins m at) (Some of.name) c k h
    in_inner at of (syntax.field m mods t w init) k h = absurd h
    in_inner at of (syntax.method m mods t w ps body) k h = absurd h
    in_inner at of (syntax.constructor m mods w ps args body) k h = absurd h

  in_classes : (at : ℕ) (cs : List (syntax.Class Span)) (k : MemberKey) → InClasses begins declarations Is at cs k → CanShowPart k base part
  in_classes at [] k h = absurd h
  in_classes at (c ∷ cs) k (inl h) = in_class at None c k h
  in_classes at (c ∷ cs) k (inr h) = in_classes at cs k h

pub written_can : (units : List (syntax.Unit Span)) (rows : List Row) (members : List (WrittenMember Span)) → AreWritten begins units rows members → EachOf CanShow members
written_can units rows members are = each_from CanShow members each
  where
    each : (w : WrittenMember Span) → Contains members w → CanShow w
    each w at = let is = are.each w at in in_classes (declarations_of begins units) w.base w.part (begins is.unit.mark 0) is.unit.classes w.key is.writes
