-- Laws of places, as statements: in a text that reads as a unit no two references begin at one
-- byte, and what a part has stands in it.
use Rattle.std.specs.Prelude.{◌≡◌, ◌↔◌, ℕ, ◌<◌, ◌≤◌, List, [], ◌∷◌, length, slice_get, Option, Some}
use Rattle.jr_text.specs.declared.spans.Span.{Span}
use Rattle.jr_lex.specs.declared.items.Item.{Item}
use Rattle.jr_lex.specs.Lexes.{Lexes}
use Rattle.jr_ast.specs.MemberTree as syntax
use Rattle.jr_ast.specs.MemberTree.{Unit as UnitTree}
use Rattle.jr_ast.specs.Marks.{class_mark, member_mark}
use Rattle.jr_grammar.specs.Tokens.{placed_of}
use Rattle.jr_grammar.specs.Units.{IsMarkedUnit}
use Rattle.jr_table.specs.Decls.{MemberKey, Decl}
use Rattle.jr_table.specs.Rows.{Row}
use Rattle.jr_table.specs.DeclaredItems.{declarations_of}
use Rattle.jr_table.specs.Faults.{PackageLine, IsClean}
use Rattle.jr_table.specs.Conditions.{AreRows}
use Rattle.jr_table.specs.Errors.{Part, class_part, member_part, Breaks, Binds}
use Rattle.jr_table.specs.declared.rules.Rule.{Rule}
use Rattle.jr_program_laws.specs.FileParts.{
  begins,
  BeginsToken,
  SuperStands,
  BindsAt,
  BreaksAt,
  InFile,
}

-- the file of the number is the text: its tokens are the unit, and each mark is the span of its
-- node's tokens
pub record IsFile (units : List (UnitTree Span)) (file : ℕ) (text : List ℕ)
    (items : List Item) : Type 0 where
  pub unit : UnitTree Span
  pub stands : slice_get units file ≡ Some unit
  pub lexes : Lexes text items
  pub is : IsMarkedUnit (length text) (placed_of text items) unit

-- at one byte of a file of a program without faults one declaration is bound at most
abbrev pub OneIsBound : Type 0
OneIsBound = (packages : List (Option PackageLine)) (units : List (UnitTree Span)) (file : ℕ)
    (text : List ℕ) (items : List Item) (rows : List Row)
    → IsFile units file text items → IsClean packages (declarations_of begins units) → AreRows rows
    → (at : ℕ) (d e : Decl) → InFile units file (λ k base part. BindsAt rows items k base part at d)
    → InFile units file (λ k base part. BindsAt rows items k base part at e) → d ≡ e

-- two items of a text that begin at one byte are one
abbrev pub ItemsBeginOnce : Type 0
ItemsBeginOnce = (text : List ℕ) (items : List Item) → Lexes text items
    → (i j : ℕ) (x y : Item) → slice_get items i ≡ Some x → slice_get items j ≡ Some y
    → x.span.from ≡ y.span.from → i ≡ j

-- ---- classes and members in text order

-- it has a byte at least, and stands between these places
abbrev pub StandsBetween : (from to : ℕ) → Span → Type 0
StandsBetween from to s = (from ≤ s.from) × (s.from < s.to) × (s.to ≤ to)

-- the members of a class stand in it, each behind the one in front of it
abbrev mutual
  pub ClassInOrder : syntax.Class Span → Type 0
  ClassInOrder (syntax.class m mods w t ms) = MembersInOrder m.from m.to ms

  pub MemberInOrder : syntax.Member Span → Type 0
  MemberInOrder (syntax.field m mods t w init) = Unit {0}
  MemberInOrder (syntax.method m mods t w ps body) = Unit {0}
  MemberInOrder (syntax.constructor m mods w ps args body) = Unit {0}
  MemberInOrder (syntax.inner m of) = (class_mark of ≡ m) × ClassInOrder of

  pub MembersInOrder : (from to : ℕ) → syntax.Members Span → Type 0
  MembersInOrder from to syntax.end = Unit {0}
  MembersInOrder from to (syntax.more x xs) = StandsBetween from to (member_mark x)
      × MemberInOrder x × MembersInOrder (member_mark x).to to xs

abbrev pub ClassesInOrder : (from to : ℕ) → List (syntax.Class Span) → Type 0
ClassesInOrder from to [] = Unit {0}
ClassesInOrder from to (c ∷ cs) = StandsBetween from to (class_mark c) × ClassInOrder c
    × ClassesInOrder (class_mark c).to to cs

-- the unit of a file of the number has its classes in order, within the text
abbrev pub FilesAreInOrder : Type 0
FilesAreInOrder = (units : List (UnitTree Span)) (file : ℕ) (text : List ℕ) (items : List Item)
    → (is : IsFile units file text items) → ClassesInOrder 0 (length text) is.unit.classes

-- ---- what a part has

-- a part of the file, with its key, and where its parent begins
abbrev pub IsPart : List (UnitTree Span) → (file : ℕ) → MemberKey → (base : ℕ) → Part Span → Type 0
IsPart units file k base part = InFile units file (λ l b p. (l ≡ k) × (b ≡ base) × (p ≡ part))

-- what the file has, one of its parts has
pub record HaveParts (units : List (UnitTree Span)) (file : ℕ) (rows : List Row)
    (items : List Item) : Type 0 where
  pub binds : (at : ℕ) (d : Decl)
      → InFile units file (λ k base part. BindsAt rows items k base part at d)
      ↔ ((k : MemberKey) × (base : ℕ) × (part : Part Span) × IsPart units file k base part
      × BindsAt rows items k base part at d)
  pub breaks : (at : ℕ) (r : Rule)
      → InFile units file (λ k base part. BreaksAt rows items k base part at r)
      ↔ ((k : MemberKey) × (base : ℕ) × (part : Part Span) × IsPart units file k base part
      × BreaksAt rows items k base part at r)

abbrev pub FilesHaveParts : Type 0
FilesHaveParts = (units : List (UnitTree Span)) (file : ℕ) (rows : List Row) (items : List Item)
    → HaveParts units file rows items

abbrev pub LiesWithin : Span → (at : ℕ) → Type 0
LiesWithin s at = (s.from ≤ at) × (at < s.to)

abbrev pub BeforeMembers : syntax.Members Span → (at : ℕ) → Type 0
BeforeMembers syntax.end at = Unit {0}
BeforeMembers (syntax.more x xs) at = at < (member_mark x).from

-- where a part may have something: a member in its span, the head of a class in front of the first
-- member
abbrev pub Owns : Part Span → (at : ℕ) → Type 0
Owns (class_part (syntax.class m mods w t ms)) at = LiesWithin m at × BeforeMembers ms at
Owns (member_part of) at = LiesWithin (member_mark of) at

-- of a part whose `super(..)`, where one is written, stands at `super_at`
pub record IsPlaced (rows : List Row) (items : List Item) (super_at : ℕ) (k : MemberKey) (base : ℕ)
    (part : Part Span) : Type 0 where
  -- what it has in its file
  pub binds_there : (at : ℕ) (d : Decl)
      → BindsAt rows items k base part at d ↔ Binds begins rows super_at k base part at d
  pub breaks_there : (at : ℕ) (r : Rule)
      → BreaksAt rows items k base part at r ↔ Breaks begins rows super_at k base part at r
  -- and where
  pub binds_within : (at : ℕ) (d : Decl) → Binds begins rows super_at k base part at d
      → Owns part at
  pub breaks_within : (at : ℕ) (r : Rule) → Breaks begins rows super_at k base part at r
      → Owns part at
  -- and a token begins there
  pub binds_token : (at : ℕ) (d : Decl) → Binds begins rows super_at k base part at d
      → BeginsToken items at
  pub breaks_token : (at : ℕ) (r : Rule) → Breaks begins rows super_at k base part at r
      → BeginsToken items at
  -- at one place one declaration is bound at most
  pub one : AreRows rows → (at : ℕ) (d e : Decl) → Binds begins rows super_at k base part at d
      → Binds begins rows super_at k base part at e → d ≡ e

abbrev pub PartsArePlaced : Type 0
PartsArePlaced = (units : List (UnitTree Span)) (file : ℕ) (text : List ℕ) (items : List Item)
    → IsFile units file text items
    → (k : MemberKey) (base : ℕ) (part : Part Span) → IsPart units file k base part
    → (super_at : ℕ) → SuperStands items part super_at → (rows : List Row)
    → IsPlaced rows items super_at k base part

-- where a `super(..)` is written, it stands somewhere
abbrev pub SupersStand : Type 0
SupersStand = (units : List (UnitTree Span)) (file : ℕ) (text : List ℕ) (items : List Item)
    → IsFile units file text items
    → (k : MemberKey) (base : ℕ) (part : Part Span) → IsPart units file k base part
    → (super_at : ℕ) × SuperStands items part super_at
