-- The first fault of sources, by the file's number.
use Rattle.std.proofs.Common.{◌≡◌, ℕ, zero, suc, ◌<◌, List, [], ◌∷◌, length, refl, sym, ap, subst, ◌∙◌, arith, inl, inr}
use Rattle.std.specs.Prelude.{Option, Some, None, slice_get}
use Rattle.std.proofs.lemmas.Option.{none-some, same_Some, slice_get_within}
use Rattle.jr_text.specs.declared.spans.Span.{Span}
use Rattle.jr_ast.specs.MemberTree.{Unit as UnitTree}
use Rattle.jr_table.specs.declared.kinds.DeclKind.{DeclKind}
use Rattle.jr_table.specs.Names.{kind_name}
use Rattle.jr_table.specs.DeclaredItems.{declarations_of}
use Rattle.jr_table.specs.Faults.{IsFirstFault}
use Rattle.jr_build_declared.specs.Packages.{lines_of}
use Rattle.jr_program_laws.specs.FileParts.{begins}
use Rattle.jr_sources.specs.declared.faults.ReadingFault.{ReadingFault}
use Rattle.jr_sources.specs.declared.analyses.SourceFault.{SourceFault}
use Rattle.jr_sources.specs.Analysed.{IsSourceFault}
use Rattle.jr_sources.specs.FaultNames.{fault_name}
use Rattle.jr_sources.specs.FirstFault.{AreRead, IsFileFault, IsFirstFaultOf}
use Rattle.jr_sources.specs.FirstOf.{IsFileFaultAt}
use Rattle.jr_sources.specs.Sources.{Source, HasName, names_of}
use Rattle.jr_sources.proofs.AllRead.{element}
use Rattle.jr_sources.proofs.Analysing.{counts}
use Rattle.jr_sources.proofs.DeclarationFiles.{lines_are, fault_file}

pub name_there : (ss : List Source) (i : ℕ) (s : Source) → slice_get ss i ≡ Some s → HasName ss i s.name
name_there [] i s e = absurd (none-some s e)
name_there (x ∷ xs) zero s e = ap (λ (o : Source). Some o.name) (same_Some x s e)
name_there (x ∷ xs) (suc i) s e = name_there xs i s e

-- which file, and that it is the first fault, however the kind is told
abbrev pub ToldOf : (sources : List Source) (file at : ℕ) (kind : List ℕ) → Type 0
ToldOf sources file at kind = (name : List ℕ) × HasName sources file name × ((told : List ℕ) → told ≡ kind → IsFirstFaultOf sources name at told)

pub file_fault_told : (sources : List Source) (number : ℕ) (f : ReadingFault) → IsFileFaultAt sources number f → ToldOf sources number f.at (fault_name f.kind)
file_fault_told sources number f h = (
  h.source.name,
  name_there sources number h.source h.stands,
  λ told e. inl (subst (λ (k : List ℕ). IsFileFault sources h.source.name f.at k) (sym e) h.fault),
)

pub build_fault_told : (sources : List Source) (units : List (UnitTree Span)) (words : List ℕ) → AreRead sources units words → (kind : DeclKind) (file at : ℕ)
    → IsFirstFault (lines_of words units) (declarations_of begins units) kind (record { file = file; at = at }) → ToldOf sources file at (kind_name kind)
build_fault_told sources units words read kind file at h =
    let first = subst (λ ps. IsFirstFault ps (declarations_of begins units) kind (record { file = file; at = at })) (sym (lines_are units words)) h in
    let lt = fault_file units words kind (record { file = file; at = at }) first.has in
    let n = (counts sources units words read).0 in
    let s = element sources file (omega (arith, lt, n)) in (
      s.0.name,
      name_there sources file s.0 s.1,
      λ told e. inr (record { units = units; words = words; read = read; of = kind; place = record { file = file; at = at }; first = first; text = s.0.text; stands = s.1; told_at = refl; told = e }),
    )

-- and the fault as it is kept
pub source_fault : (sources : List Source) (units : List (UnitTree Span)) (words : List ℕ) → AreRead sources units words → (kind : DeclKind) (file at : ℕ)
    → IsFirstFault (lines_of words units) (declarations_of begins units) kind (record { file = file; at = at }) → (f : SourceFault) → f.file ≡ file → f.at ≡ at → f.kind.now ≡ kind_name kind → IsSourceFault sources f
source_fault sources units words read kind file at h f e e' told =
    let t = build_fault_told sources units words read kind file at h in record {
      name = t.0;
      named = subst (λ n. HasName sources n t.0) (sym e) t.1;
      first = subst (λ n. IsFirstFaultOf sources t.0 n f.kind.now) (sym e') (t.2 f.kind.now told);
    }
