-- The rules that the members of sources break where the sources have no fault, and the first of
-- them; and what is wrong with sources first: their first fault, or else the first broken rule.
use Rattle.std.specs.Prelude.{◌≡◌, ℕ, ◌<◌, ◌≤◌, ◌⊎◌, List, slice_get, Some}
use Rattle.jr_text.specs.declared.spans.Span.{Span}
use Rattle.jr_lex.specs.declared.items.Item.{Item}
use Rattle.jr_lex.specs.Lexes.{Lexes}
use Rattle.jr_ast.specs.MemberTree.{Unit as UnitTree}
use Rattle.jr_table.specs.Rows.{Row}
use Rattle.jr_table.specs.Names.{rule_name}
use Rattle.jr_table.specs.Errors.{rule_rank}
use Rattle.jr_table.specs.DeclaredItems.{declarations_of}
use Rattle.jr_table.specs.ProgramRows.{AreProgramRows}
use Rattle.jr_table.specs.declared.rules.Rule.{Rule}
use Rattle.jr_program_laws.specs.FileParts.{begins, BreaksAt, InFile}
use Rattle.jr_sources.specs.Sources.{Source, HasName}
use Rattle.jr_sources.specs.FirstFault.{IsFirstFaultOf, AreProgram}

-- the sources have no fault, and a member of the file of this number breaks the rule there
pub record BreaksRule (sources : List Source) (file at : ℕ) (r : Rule) : Type 0 where
  pub units : List (UnitTree Span)
  pub words : List ℕ
  pub program : AreProgram sources units words
  pub rows : List Row
  pub are_rows : AreProgramRows (declarations_of begins units) rows
  pub source : Source
  pub stands : slice_get sources file ≡ Some source
  pub items : List Item
  pub lexes : Lexes source.text items
  pub breaks : InFile units file (λ k base part. BreaksAt rows items k base part at r)

-- the first stands no later than the second: by file, then by place, and at one place in the order
-- of the rules
abbrev pub IsNoLater : (file at : ℕ) → Rule → (other place : ℕ) → Rule → Type 0
IsNoLater file at r other place q = (file < other)
    ⊎ ((file ≡ other) × ((at < place) ⊎ ((at ≡ place) × (rule_rank r ≤ rule_rank q))))

-- it has the property, and none that has it stands before it
pub record IsFirst (Has : (file at : ℕ) → Rule → Type 0) (file at : ℕ) (r : Rule) : Type 0 where
  pub has : Has file at r
  pub first : (other place : ℕ) (q : Rule) → Has other place q
      → IsNoLater file at r other place q

-- the first binding error of all members
abbrev pub IsFirstError : List Source → (file at : ℕ) → Rule → Type 0
IsFirstError sources file at r = IsFirst (BreaksRule sources) file at r

-- no member breaks a rule
abbrev pub AreSound : List Source → Type 0
AreSound sources = (file at : ℕ) (r : Rule) → BreaksRule sources file at r → ⊥

-- ---- what is wrong first

-- in the file of this name, with the name of the fault's kind or that of the rule
abbrev pub IsFirstWrong : List Source → (file : List ℕ) → (at : ℕ) → (kind : List ℕ) → Type 0
IsFirstWrong sources file at kind = IsFirstFaultOf sources file at kind
    ⊎ ((number : ℕ) × (r : Rule) × HasName sources number file × IsFirstError sources number at r
    × (kind ≡ rule_name r))
