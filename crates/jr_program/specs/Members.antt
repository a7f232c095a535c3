-- What binding knows of the written members of a program, each with the file and the byte where it
-- stands.
use Rattle.std.specs.Prelude.{
  ◌≡◌,
  ℕ,
  ◌+◌,
  ◌<◌,
  ◌≤◌,
  ◌⊎◌,
  ◌↔◌,
  List,
  [],
  ◌∷◌,
  length,
  slice_get,
  Option,
  Some,
  None,
}
use Rattle.std.specs.List.{AllZip}
use Rattle.std.specs.List.Sorted.{IsNonDecreasingBy}
use Rattle.jr_text.specs.declared.spans.Span.{Span}
use Rattle.jr_lex.specs.declared.items.Item.{Item}
use Rattle.jr_ast.specs.Tree as tree
use Rattle.jr_ast.specs.MemberTree as syntax
use Rattle.jr_table.specs.Decls.{Decl}
use Rattle.jr_table.specs.Rows.{Row}
use Rattle.jr_table.specs.Entries.{number_of}
use Rattle.jr_table.specs.Errors.{Part, class_part, member_part, part_mark, Error, Among}
use Rattle.jr_table.specs.declared.rules.Rule.{Rule}
use Rattle.jr_members.specs.WrittenMembers.{WrittenMember, decl_of_member}
use Rattle.jr_bind.specs.Bounds.{FitsWhole, IsBound, decl_in}
use Rattle.jr_program_laws.specs.FileParts.{begins, IsSuperAt, BindsAt, BreaksAt}
use Rattle.jr_program.specs.declared.bounds.MemberBound.{MemberBound}

-- some element has the property
abbrev pub AnyOf : {X : Type 0} → (X → Type 0) → List X → Type 0
AnyOf P [] = ⊥
AnyOf P (x ∷ xs) = P x ⊎ AnyOf P xs

-- each element has it
abbrev pub EachOf : {X : Type 0} → (X → Type 0) → List X → Type 0
EachOf P [] = Unit {0}
EachOf P (x ∷ xs) = P x × EachOf P xs

-- ---- where a written `super(..)` stands

abbrev pub IsArgsPlace : List Item → Span → Option (tree.Exps Span) → (at : ℕ) → Type 0
IsArgsPlace items span None at = at ≡ 0
IsArgsPlace items span (Some args) at = IsSuperAt items span at

-- 0 where none is written
abbrev pub IsMemberPlace : List Item → syntax.Member Span → (at : ℕ) → Type 0
IsMemberPlace items (syntax.field m mods t w init) at = at ≡ 0
IsMemberPlace items (syntax.method m mods t w ps body) at = at ≡ 0
IsMemberPlace items (syntax.constructor m mods w ps args body) at = IsArgsPlace items m args at
IsMemberPlace items (syntax.inner m of) at = at ≡ 0

abbrev pub IsSuperPlace : List Item → Part Span → (at : ℕ) → Type 0
IsSuperPlace items (class_part of) at = at ≡ 0
IsSuperPlace items (member_part x) at = IsMemberPlace items x at

-- ---- what is known

-- a reference of a member of the file begins there, and is bound to the declaration
abbrev pub MemberRefers : (file at : ℕ) → Decl → MemberBound → Type 0
MemberRefers file at d b = (b.file ≡ file) × ((n : ℕ) × (at ≡ b.start + n)
    × (decl_in b.bound.references n ≡ Some d))

-- a member of the file breaks the rule there
abbrev pub MemberErrs : (file at : ℕ) → Rule → MemberBound → Type 0
MemberErrs file at r b = (b.file ≡ file) × ((e : Error) × (at ≡ b.start + e.at) × (r ≡ e.rule)
    × Among b.bound.errors e)

-- the members of a file stand behind those of the files before it
abbrev pub AreInFileOrder : List MemberBound → Type 0
AreInFileOrder bounds = IsNonDecreasingBy (λ (b : MemberBound). b.file) bounds

abbrev pub AreWrittenInOrder : List (WrittenMember Span) → Type 0
AreWrittenInOrder written = IsNonDecreasingBy (λ (w : WrittenMember Span). w.file) written

-- what is known is right of a written member, whose `super(..)` stands at `super_at`
pub record IsMemberBound (rows : List Row) (super_at : ℕ) (w : WrittenMember Span)
    (b : MemberBound) : Type 0 where
  pub file : b.file ≡ w.file
  pub start : b.start ≡ begins (part_mark w.part) w.base
  pub bound : IsBound begins rows super_at w.key w.base w.part b.bound

-- what written members have, from the trees and the files' items
module _ (rows : List Row) (files : List (List Item)) where
  abbrev pub WrittenRefers : (file at : ℕ) → Decl → WrittenMember Span → Type 0
  WrittenRefers file at d w = (w.file ≡ file) × ((items : List Item)
      × (slice_get files file ≡ Some items) × BindsAt rows items w.key w.base w.part at d)

  abbrev pub WrittenErrs : (file at : ℕ) → Rule → WrittenMember Span → Type 0
  WrittenErrs file at r w = (w.file ≡ file) × ((items : List Item)
      × (slice_get files file ≡ Some items) × BreaksAt rows items w.key w.base w.part at r)

  -- what is known of members is what the written ones have
  pub record AreKnown (written : List (WrittenMember Span)) (bounds : List MemberBound) : Type 0
    where
      pub references : (file at : ℕ) (d : Decl) → AnyOf (MemberRefers file at d) bounds
          ↔ AnyOf (WrittenRefers file at d) written
      pub errors : (file at : ℕ) (r : Rule) → AnyOf (MemberErrs file at r) bounds
          ↔ AnyOf (WrittenErrs file at r) written

  -- this is known of a written member, with the place of its `super(..)`
  pub record IsEachBound (w : WrittenMember Span) (b : MemberBound) : Type 0 where
    pub items : List Item
    pub stands : slice_get files w.file ≡ Some items
    pub place : IsSuperPlace items w.part b.super_at
    pub is : IsMemberBound rows b.super_at w b

  -- one of each, in the same order
  abbrev pub AreEachBound : List (WrittenMember Span) → List MemberBound → Type 0
  AreEachBound written bounds = AllZip IsEachBound written bounds

  -- what has to hold of a written member that is bound
  pub record CanBind (w : WrittenMember Span) : Type 0 where
    pub row : number_of rows (decl_of_member w.key) ≡ Some w.row
    pub fits : FitsWhole begins (λ m base. Unit {0}) w.base w.part
    pub file : w.file < length files
    -- a written `super(..)` stands somewhere
    pub stands : (items : List Item) → slice_get files w.file ≡ Some items
        → (at : ℕ) × IsSuperPlace items w.part at
    -- no two of its references begin at one byte
    pub once : (items : List Item) → slice_get files w.file ≡ Some items → (at : ℕ) (d e : Decl)
        → BindsAt rows items w.key w.base w.part at d
        → BindsAt rows items w.key w.base w.part at e → d ≡ e
    -- what it has stands behind its first byte
    pub refers_within : (items : List Item) → slice_get files w.file ≡ Some items
        → (at : ℕ) (d : Decl) → BindsAt rows items w.key w.base w.part at d
        → begins (part_mark w.part) w.base ≤ at
    pub breaks_within : (items : List Item) → slice_get files w.file ≡ Some items
        → (at : ℕ) (r : Rule) → BreaksAt rows items w.key w.base w.part at r
        → begins (part_mark w.part) w.base ≤ at
