-- The program that analysed sources are, as refactorings see it.
use Rattle.std.specs.Prelude.{◌≡◌, ℕ, ◌<◌, ◌^◌, List, [], ◌∷◌, map, length, if◌then◌else◌}
use Rattle.jr_text.specs.declared.spans.Span.{Span}
use Rattle.jr_lex.specs.declared.items.Item.{Item}
use Rattle.jr_ast.specs.MemberTree.{Unit as UnitTree}
use Rattle.jr_grammar.specs.Layout.{itself}
use Rattle.jr_table.specs.Decls.{MemberKey}
use Rattle.jr_table.specs.Rows.{Row}
use Rattle.jr_table.specs.SameDecls.{same_member}
use Rattle.jr_bind.specs.Bounds.{Bound}
use Rattle.jr_bind.specs.Programs.{File, Program, IsProgram}
use Rattle.jr_program.specs.declared.bounds.MemberBound.{MemberBound}
use Rattle.jr_sources.specs.Analysed.{AreLexed}
use Rattle.jr_sources.specs.FirstFault.{AreProgram}
use Rattle.jr_sources.specs.Sources.{Source, texts_of}

-- each source with its unit
abbrev pub files_of : List Source → List (UnitTree Span) → List (File Span)
files_of [] us = []
files_of (s ∷ ss) [] = []
files_of (s ∷ ss) (u ∷ us) = record { name = s.name; text = s.text; unit = u } ∷ files_of ss us

-- where the word `super` of a member's written `super(..)` stands
abbrev pub super_in : List MemberBound → MemberKey → ℕ
super_in [] k = 0
super_in (b ∷ bs) k = if same_member b.bound.member k then b.super_at else super_in bs k

abbrev pub bounds_of : List MemberBound → List Bound
bounds_of members = map (λ (b : MemberBound). b.bound) members

abbrev pub program_of : List Source → List (UnitTree Span) → List Row → List MemberBound
    → Program Span
program_of sources units rows members = record {
  files = files_of sources units;
  rows = rows;
  super_at = super_in members;
  bounds = bounds_of members;
}

-- the places of such a mark fit, wherever the parent begins
abbrev pub Anywhere : Span → ℕ → Type 0
Anywhere m base = Unit {0}

-- the sources have no fault and no member that breaks a rule, and this is the program that they are
pub record IsProgramOf (sources : List Source) (p : Program Span) : Type 0 where
  pub units : List (UnitTree Span)
  pub words : List ℕ
  pub program : AreProgram sources units words
  pub files : p.files ≡ files_of sources units
  pub is : IsProgram itself Anywhere p

-- they are a program without faults and errors, and their texts have these tokens
pub record AreWhole (sources : List Source) (units : List (UnitTree Span))
    (tokens : List (List Item)) (rows : List Row) (members : List MemberBound) : Type 0 where
  pub many : length units ≡ length sources
  pub lexed : AreLexed (texts_of sources) tokens
  pub few : length members < 2 ^ 32
  pub program : IsProgram itself Anywhere (program_of sources units rows members)
