-- The first fault of sources, and the program that they read as where there is none.
use Rattle.std.specs.Prelude.{
  ◌≡◌,
  ℕ,
  ◌<◌,
  ◌⊎◌,
  List,
  [],
  ◌∷◌,
  map,
  slice_get,
  Option,
  Some,
  None,
}
use Rattle.jr_text.specs.declared.spans.Span.{Span}
use Rattle.jr_ast.specs.Tree as tree
use Rattle.jr_ast.specs.MemberTree.{Unit as UnitTree}
use Rattle.jr_table.specs.declared.kinds.DeclKind.{DeclKind}
use Rattle.jr_table.specs.Names.{kind_name}
use Rattle.jr_table.specs.DeclaredItems.{declarations_of}
use Rattle.jr_table.specs.Faults.{Place, PackageLine, IsFirstFault, IsClean}
use Rattle.jr_program_laws.specs.FileParts.{begins}
use Rattle.jr_sources.specs.declared.faults.ReadingFault.{ReadingFault}
use Rattle.jr_sources.specs.FaultNames.{fault_name}
use Rattle.jr_sources.specs.ReadingFaults.{HasFault, ReadsAs}
use Rattle.jr_sources.specs.Sources.{Source}

-- each source reads as its unit, and its first token begins at its place
abbrev pub AreRead : List Source → List (UnitTree Span) → List ℕ → Type 0
AreRead [] units words = (units ≡ []) × (words ≡ [])
AreRead (s ∷ ss) units words = (u : UnitTree Span) × (us : List (UnitTree Span)) × (w : ℕ)
    × (ws : List ℕ) × (units ≡ u ∷ us) × (words ≡ w ∷ ws) × ReadsAs s.text u w × AreRead ss us ws

-- the package line of a unit whose first token begins at the place (JLS 7.4)
abbrev pub package_line : UnitTree Span → ℕ → Option PackageLine
package_line unit word = line_of unit.package_name
  where
    line_of : List (tree.Word Span) → Option PackageLine
    line_of [] = None
    line_of (n ∷ ns) = Some (record
        { at = word; names = map (λ (w : tree.Word Span). w.text) (n ∷ ns) })

abbrev pub package_lines : List (UnitTree Span) → List ℕ → List (Option PackageLine)
package_lines [] words = []
package_lines (u ∷ us) [] = []
package_lines (u ∷ us) (w ∷ ws) = package_line u w ∷ package_lines us ws

-- ---- the first fault

-- the first file that has a fault by itself, and its first: a lexical one, or else one of depth, or
-- else one of syntax
pub record IsFileFault (sources : List Source) (file : List ℕ) (at : ℕ)
    (kind : List ℕ) : Type 0 where
  pub number : ℕ
  pub text : List ℕ
  pub stands : slice_get sources number ≡ Some (record { name = file; text = text })
  pub fault : ReadingFault
  pub has : HasFault text fault
  pub place : at ≡ fault.at
  pub told : kind ≡ fault_name fault.kind
  pub first : (i : ℕ) (other : Source) (f : ReadingFault) → i < number
      → slice_get sources i ≡ Some other → HasFault other.text f → ⊥

-- or else all files read as units, and this is the first fault of their declarations
pub record IsDeclarationFault (sources : List Source) (file : List ℕ) (at : ℕ)
    (kind : List ℕ) : Type 0 where
  pub units : List (UnitTree Span)
  pub words : List ℕ
  pub read : AreRead sources units words
  pub of : DeclKind
  pub place : Place
  pub first : IsFirstFault (package_lines units words) (declarations_of begins units) of place
  pub text : List ℕ
  pub stands : slice_get sources place.file ≡ Some (record { name = file; text = text })
  pub told_at : at ≡ place.at
  pub told : kind ≡ kind_name of

abbrev pub IsFirstFaultOf : List Source → (file : List ℕ) → (at : ℕ) → (kind : List ℕ) → Type 0
IsFirstFaultOf sources file at kind =
    IsFileFault sources file at kind ⊎ IsDeclarationFault sources file at kind

-- ---- programs

-- the sources have no fault, and read as these units
pub record AreProgram (sources : List Source) (units : List (UnitTree Span))
    (words : List ℕ) : Type 0 where
  pub read : AreRead sources units words
  pub clean : IsClean (package_lines units words) (declarations_of begins units)
