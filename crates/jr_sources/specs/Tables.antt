-- A table that is known to be that of sources before they are looked at.
use Rattle.std.specs.Prelude.{◌≡◌, ℕ, List, Option, Some}
use Rattle.jr_text.specs.declared.spans.Span.{Span}
use Rattle.jr_ast.specs.MemberTree.{Unit as UnitTree}
use Rattle.jr_table.specs.Rows.{Row}
use Rattle.jr_table.specs.DeclaredItems.{declarations_of}
use Rattle.jr_table.specs.ProgramRows.{AreProgramRows}
use Rattle.jr_program_laws.specs.FileParts.{begins}
use Rattle.jr_sources.specs.declared.analyses.EarlierAnalysis.{EarlierAnalysis}
use Rattle.jr_sources.specs.Sources.{Source}
use Rattle.jr_sources.specs.FirstFault.{AreRead, AreProgram}

-- where the sources read, they have no fault of declarations, and these are their rows
abbrev pub IsTableOf : List Source → List Row → Type 0
IsTableOf sources rows = (units : List (UnitTree Span)) (words : List ℕ)
    → AreRead sources units words
    → AreProgram sources units words × AreProgramRows (declarations_of begins units) rows

-- the same of the table of earlier sources, if these are given
abbrev pub HaveSameTable : List Source → Option EarlierAnalysis → Type 0
HaveSameTable sources given = (e : EarlierAnalysis) → given ≡ Some e
    → IsTableOf sources e.analysis.table
