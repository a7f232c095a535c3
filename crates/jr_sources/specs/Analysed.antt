-- What was analysed of sources: it is what they give from scratch.
use Rattle.std.specs.Prelude.{◌≡◌, ◌↔◌, ℕ, ◌+◌, ◌≤◌, List, slice_get, Option, Some}
use Rattle.std.specs.List.{AllZip}
use Rattle.jr_text.specs.declared.spans.Span.{Span}
use Rattle.jr_lex.specs.declared.items.Item.{Item}
use Rattle.jr_lex.specs.Lexes.{Lexes}
use Rattle.jr_ast.specs.MemberTree.{Unit as UnitTree}
use Rattle.jr_table.specs.Decls.{Decl}
use Rattle.jr_table.specs.DeclaredItems.{declarations_of}
use Rattle.jr_table.specs.ProgramRows.{AreProgramRows}
use Rattle.jr_table.specs.declared.rules.Rule.{Rule}
use Rattle.jr_program_laws.specs.FileParts.{begins, BindsAt, BreaksAt, InFile}
use Rattle.jr_members.specs.WrittenMembers.{written_members}
use Rattle.jr_program_laws.specs.FileParts.{BeginsToken}
use Rattle.jr_program.specs.Members.{AnyOf, MemberRefers, MemberErrs, AreEachBound, AreInFileOrder}
use Rattle.jr_sources.specs.declared.analyses.Analysis.{Analysis}
use Rattle.jr_sources.specs.declared.analyses.Analysed.{Analysed}
use Rattle.jr_sources.specs.declared.analyses.Analysed.TheVariants as what
use Rattle.jr_sources.specs.declared.analyses.SourceFault.{SourceFault}
use Rattle.jr_sources.specs.Sources.{Source, texts_of, HasName}
use Rattle.jr_sources.specs.FirstFault.{IsFirstFaultOf, AreProgram}
use Rattle.jr_sources.specs.BindingErrors.{IsFirstWrong}
use Rattle.jr_sources.specs.MemberCount.{member_count}

-- each text has these items
abbrev pub AreLexed : (texts : List (List ℕ)) → (tokens : List (List Item)) → Type 0
AreLexed texts tokens = AllZip Lexes texts tokens

-- the sources have no fault, and this is what their members have
pub record IsAnalysis (sources : List Source) (a : Analysis) : Type 0 where
  pub units : List (UnitTree Span)
  pub words : List ℕ
  pub program : AreProgram sources units words
  pub rows : AreProgramRows (declarations_of begins units) a.table
  pub tokens : List (List Item)
  pub lexed : AreLexed (texts_of sources) tokens
  pub order : AreInFileOrder a.members.items
  pub references : (file : ℕ) (items : List Item) (at : ℕ) (d : Decl)
      → slice_get tokens file ≡ Some items
      → AnyOf (MemberRefers file at d) a.members.items
      ↔ InFile units file (λ k base part. BindsAt a.table items k base part at d)
  pub errors : (file : ℕ) (items : List Item) (at : ℕ) (r : Rule)
      → slice_get tokens file ≡ Some items
      → AnyOf (MemberErrs file at r) a.members.items
      ↔ InFile units file (λ k base part. BreaksAt a.table items k base part at r)
  -- one of each written member, in their order
  pub each : AreEachBound a.table tokens (written_members begins a.table units)
      a.members.items
  -- and each error stands at a token of its file
  pub placed : (file at : ℕ) (r : Rule) → AnyOf (MemberErrs file at r) a.members.items
      → (items : List Item) × (slice_get tokens file ≡ Some items) × BeginsToken items at
  pub once : (file at : ℕ) (d e : Decl) → AnyOf (MemberRefers file at d) a.members.items
      → AnyOf (MemberRefers file at e) a.members.items → d ≡ e

-- the fault is the first of the sources
pub record IsSourceFault (sources : List Source) (f : SourceFault) : Type 0 where
  pub name : List ℕ
  pub named : HasName sources f.file name
  pub first : IsFirstFaultOf sources name f.at f.kind.now

-- it is what is first wrong with the sources
pub record IsSourceWrong (sources : List Source) (f : SourceFault) : Type 0 where
  pub name : List ℕ
  pub named : HasName sources f.file name
  pub first : IsFirstWrong sources name f.at f.kind.now

abbrev pub IsAnalysed : List Source → Analysed → Type 0
IsAnalysed sources (what.Program a former) = IsAnalysis sources a
IsAnalysed sources (what.Fault f) = IsSourceFault sources f

-- what was analysed, if anything was
abbrev pub IsKeptAnalysis : List Source → Option Analysis → Type 0
IsKeptAnalysis sources kept = (a : Analysis) → kept ≡ Some a → IsAnalysis sources a

abbrev pub IsFilled : Option Analysis → Type 0
IsFilled kept = (a : Analysis) × (kept ≡ Some a)

-- members are bound only where there is a program, and each once at most
pub record CostsBinding (sources : List Source) (before after : ℕ) : Type 0 where
  pub faulty : (file : List ℕ) (at : ℕ) (kind : List ℕ) → IsFirstFaultOf sources file at kind
      → after ≡ before
  pub program : (units : List (UnitTree Span)) (words : List ℕ) → AreProgram sources units words
      → after ≤ before + member_count units
