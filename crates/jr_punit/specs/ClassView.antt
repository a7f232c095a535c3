-- How far classes, members of any kind and what holds them have been read, as the machines have it.
use Rattle.std.specs.Prelude.{
  ◌≡◌,
  Bool,
  true,
  false,
  ◌&&◌,
  not,
  Option,
  Some,
  None,
  option_map,
  Result,
  IfOk,
}
use Rattle.jr_text.specs.declared.spans.Span.{Span}
use Rattle.jr_ast.specs.Tree.{Word}
use Rattle.jr_ast.specs.MemberTree as tree
use Rattle.jr_ast.specs.View.{word_of, type_of, class_of, members_of}
use Rattle.jr_punit.specs.declared.class_heads.ClassHead.{ClassHead}
use Rattle.jr_punit.specs.declared.class_heads.ClassStart.{ClassStart}
use Rattle.jr_punit.specs.declared.class_heads.ClassStart.TheVariants as starts
use Rattle.jr_punit.specs.declared.class_heads.BegunClass.{BegunClass}
use Rattle.jr_punit.specs.declared.class_heads.BegunClass.TheVariants as begun
use Rattle.jr_punit.specs.declared.inner_class.InnerClass.{InnerClass}
use Rattle.jr_punit.specs.declared.inner_class.InnerClass.TheVariants as inner
use Rattle.jr_punit.specs.declared.member_state.MemberState.{MemberState}
use Rattle.jr_punit.specs.declared.member_state.MemberState.TheVariants as member
use Rattle.jr_punit.specs.declared.class_state.ClassState.{ClassState}
use Rattle.jr_punit.specs.declared.class_state.ClassState.TheVariants as class
use Rattle.jr_grammar.specs.Tokens.{Token}
use Rattle.jr_punit_members.specs.LeadView.{modifiers_view, lead_view}
use Rattle.jr_pstmt.specs.TypeStateView.{type_state}
use Rattle.jr_punit_members.specs.OwnView.{own_state}
use Rattle.jr_pstmt.specs.Cues.{Cue, a_class, cue_of}
use Rattle.jr_pexpr.specs.Marked.{join}
use Rattle.jr_pstmt.specs.TypeMachine as T
use Rattle.jr_pstmt.specs.OwnMachine as Own
use Rattle.jr_punit_laws.specs.ClassMachine as Classes
use Rattle.jr_punit_laws.specs.MemberMachine as Members
use Rattle.jr_punit_laws.specs.UnitMachine as Units

-- ---- up to the members, whatever reads these

abbrev pub class_head : ClassHead → Classes.Head Span
class_head h =
    record { lead = lead_view h.lead; word = word_of h.name; parent = option_map type_of h.parent }

abbrev pub class_start : {S : Type 0} → ClassStart → Classes.State Span S
class_start (starts.Modified ms) = Classes.modified (modifiers_view ms)
class_start (starts.AtClass lead) = Classes.at_class (lead_view lead)
class_start (starts.Named lead name) = Classes.named (lead_view lead) (word_of name)
class_start (starts.InParent lead name type) =
    Classes.in_parent (lead_view lead) (word_of name) (type_state type)

-- `fresh` is the state in which no member has been begun
abbrev pub begun_class : {S : Type 0} → S → BegunClass → Classes.State Span S
begun_class fresh (begun.Start s) = class_start s
begun_class fresh (begun.Opened b) = Classes.in_members (class_head b.value) tree.end fresh

abbrev pub IsBegun : {S E : Type 0} → S → Result (Option BegunClass) E →
    Option (Classes.State Span S) → Type 0
IsBegun fresh result next = IfOk result (λ b. option_map (begun_class fresh) b ≡ next)

-- what the machines of member classes and of top-level classes answer there
abbrev pub inner_named : Own.Lead Span → Word Span → Cue →
    Option (Classes.State Span (Own.State Span))
inner_named =
    Classes.from_named Span (Own.State Span) join Own.start Own.is_start (Own.step join) Own.whole

abbrev pub top_named : Own.Lead Span → Word Span → Cue → Option (Units.ClassState Span)
top_named =
    Classes.from_named Span (Members.State Span) join Members.start Members.is_start
    (Members.step join false) Members.whole

abbrev pub inner_parent : Own.Lead Span → Word Span → T.State Span → Span → Cue →
    Option (Classes.State Span (Own.State Span))
inner_parent =
    Classes.from_parent Span (Own.State Span) join Own.start Own.is_start (Own.step join) Own.whole

abbrev pub top_parent : Own.Lead Span → Word Span → T.State Span → Span → Cue →
    Option (Units.ClassState Span)
top_parent =
    Classes.from_parent Span (Members.State Span) join Members.start Members.is_start
    (Members.step join false) Members.whole

-- the class, which ends behind its members
abbrev pub closed_at : {S : Type 0} → Classes.State Span S → Span → Option (Classes.State Span S)
closed_at (Classes.in_members head all m) at =
    Some (Classes.done (Classes.class_of join head at all))
closed_at (Classes.modified ms) at = None
closed_at (Classes.at_class lead) at = None
closed_at (Classes.named lead name) at = None
closed_at (Classes.in_parent lead name type) at = None
closed_at (Classes.done of) at = None

-- ---- member classes

abbrev pub inner_class : InnerClass → Classes.State Span (Own.State Span)
inner_class (inner.Start s) = class_start s
inner_class (inner.Members head all m) =
    Classes.in_members (class_head head.value) (members_of all.items) (own_state m.value)
inner_class (inner.Done c) = Classes.done (class_of c.value)

abbrev pub IsNextInner : {E : Type 0} → Result (Option InnerClass) E →
    Option (Classes.State Span (Own.State Span)) → Type 0
IsNextInner result next = IfOk result (λ s. option_map inner_class s ≡ next)

-- the machine's words for its members
abbrev pub inner_read : Classes.Head Span → tree.Members Span → Own.State Span →
    Classes.State Span (Own.State Span)
inner_read =
    Classes.member_read Span (Own.State Span) join Own.start Own.is_start (Own.step join) Own.whole

abbrev pub inner_members : Classes.Head Span → tree.Members Span → Own.State Span → Span → Token →
    Cue → Option (Classes.State Span (Own.State Span))
inner_members =
    Classes.from_members Span (Own.State Span) join Own.start Own.is_start (Own.step join) Own.whole

-- ---- members

abbrev pub member_state : MemberState → Members.State Span
member_state (member.Own s) = Members.own (own_state s.value)
member_state (member.InClass s) = Members.in_class (inner_class s)

-- ---- top-level classes

abbrev pub class_state : ClassState → Units.ClassState Span
class_state (class.Start s) = class_start s
class_state (class.Members head all m) =
    Classes.in_members (class_head head.value) (members_of all.items) (member_state m)
class_state (class.Done c) = Classes.done (class_of c.value)

abbrev pub IsNextClass : {E : Type 0} → Result (Option ClassState) E →
    Option (Units.ClassState Span) → Type 0
IsNextClass result next = IfOk result (λ s. option_map class_state s ≡ next)

abbrev pub top_read : Classes.Head Span → tree.Members Span → Members.State Span →
    Units.ClassState Span
top_read =
    Classes.member_read Span (Members.State Span) join Members.start Members.is_start
    (Members.step join false) Members.whole

abbrev pub top_members : Classes.Head Span → tree.Members Span → Members.State Span → Span → Token →
    Cue → Option (Units.ClassState Span)
top_members =
    Classes.from_members Span (Members.State Span) join Members.start Members.is_start
    (Members.step join false) Members.whole

-- ---- tests

-- only modifiers have been read, if any
abbrev pub is_modified : {A : Type 0} → Own.State A → Bool
is_modified (Own.modified ms) = true
is_modified _ = false

abbrev pub is_class : Cue → Bool
is_class a_class = true
is_class _ = false

-- a class begins: `class` behind modifiers, in a class that may hold one
abbrev pub begins_class : {A : Type 0} → Bool → Own.State A → Token → Bool
begins_class nested s t = (not nested && is_modified s) && is_class (cue_of t)
