-- What is known of members is what the sources' members break, and the first is the first.
use Rattle.std.proofs.Common.{◌≡◌, ℕ, ◌<◌, List, length, sym, ap, subst, ◌∙◌, arith, inr}
use Rattle.std.specs.Prelude.{Option, Some, slice_get}
use Rattle.std.proofs.lemmas.Option.{slice_get_within, get_or_from_slice_get}
use Rattle.jr_text.specs.declared.spans.Span.{Span}
use Rattle.jr_lex.specs.declared.items.Item.{Item}
use Rattle.jr_lex.specs.Lexes.{Lexes}
use Rattle.jr_lex.specs.Places.{ItemsPlaced}
use Rattle.jr_ast.specs.MemberTree.{Unit as UnitTree}
use Rattle.jr_table.specs.Rows.{Row}
use Rattle.jr_table.specs.Names.{rule_name}
use Rattle.jr_table.specs.DeclaredItems.{DeclaredItem, declarations_of}
use Rattle.jr_table.specs.ProgramRows.{AreProgramRows}
use Rattle.jr_table.specs.Faults.{PackageLine, IsClean}
use Rattle.jr_table.specs.declared.rules.Rule.{Rule}
use Rattle.jr_build_rows.proofs.OneRows.{program_once}
use Rattle.jr_program_laws.specs.FileParts.{begins, BreaksAt, BeginsToken, InFile}
use Rattle.jr_program_laws.proofs.MeansOnce.{means_once, parent_once}
use Rattle.jr_program.proofs.TokenPlaces.{is_placed}
use Rattle.jr_sources.specs.declared.analyses.Analysis.{Analysis}
use Rattle.jr_sources.specs.declared.analyses.SourceFault.{SourceFault}
use Rattle.jr_sources.specs.Analysed.{IsAnalysis, IsSourceWrong}
use Rattle.jr_sources.specs.BindingErrors.{BreaksRule, IsFirst, IsFirstError, AreSound}
use Rattle.jr_sources.specs.Broken.{SomeErrs}
use Rattle.jr_sources.specs.FirstFault.{package_lines}
use Rattle.jr_sources.specs.ReadingLaws.{HasOneReading}
use Rattle.jr_sources.specs.Sources.{Source, HasName, texts_of}
use Rattle.jr_sources.proofs.AllRead.{element, text_there}
use Rattle.jr_sources.proofs.Analysing.{OneItems, lexed_count, lexed_each, read_once}
use Rattle.jr_sources.proofs.SourceFaults.{name_there}
use Rattle.jr_sources.proofs.SourceLaws.{length-texts}

-- a program has one table
pub rows_once : (packages : List (Option PackageLine)) (declarations : List DeclaredItem) → IsClean packages declarations → (rows others : List Row) → AreProgramRows declarations rows → AreProgramRows declarations others → rows ≡ others
rows_once packages declarations clean rows others g h = program_once declarations (means_once packages declarations clean) (parent_once packages declarations clean) rows others g h

-- a token begins within the text
begins_within : (bytes : List ℕ) (items : List Item) → ItemsPlaced → Lexes bytes items → (at : ℕ) → BeginsToken items at → at < length bytes
begins_within bytes items law lexes at (kind, t) =
    let lt = slice_get_within items t.number t.token t.stands in
    let is = get_or_from_slice_get items t.number t.token t.token t.stands in
    let p = is_placed bytes items law lexes t.number t.token lt in
    let some = p.some in
    let within = p.cut.within in
    let from = ap (λ (x : Item). x.span.from) is ∙ t.place in
    omega (arith, some, within, from)

module _ (sources : List Source) (a : Analysis) (is : IsAnalysis sources a) where
  -- where it stands, it does so in a file
  its_file : (f at : ℕ) (r : Rule) → SomeErrs a.members.items f at r → (s : Source) × (slice_get sources f ≡ Some s)
  its_file f at r h =
      let p = is.placed f at r h in
      let lt = slice_get_within is.tokens f p.0 p.1 in
      let n = lexed_count (texts_of sources) is.tokens is.lexed in
      let m = length-texts sources in
      element sources f (omega (arith, lt, n, m))

  breaks_from : (f at : ℕ) (r : Rule) → SomeErrs a.members.items f at r → BreaksRule sources f at r
  breaks_from f at r h =
      let p = is.placed f at r h in
      let s = its_file f at r h in record {
        units = is.units;
        words = is.words;
        program = is.program;
        rows = a.table;
        are_rows = is.rows;
        source = s.0;
        stands = s.1;
        items = p.0;
        lexes = lexed_each (texts_of sources) is.tokens is.lexed f s.0.text p.0 (text_there sources f s.0 s.1) p.1;
        breaks = (is.errors f p.0 at r p.1).0 h;
      }

  errs_from : HasOneReading → OneItems → (f at : ℕ) (r : Rule) → BreaksRule sources f at r → SomeErrs a.members.items f at r
  errs_from reading items_once f at r h =
      let units : h.units ≡ is.units = (read_once reading sources h.units is.units h.words is.words h.program.read is.program.read).0 in
      let others : AreProgramRows (declarations_of begins is.units) h.rows = subst (λ (us : List (UnitTree Span)). AreProgramRows (declarations_of begins us) h.rows) units h.are_rows in
      let rows : h.rows ≡ a.table = rows_once (package_lines is.units is.words) (declarations_of begins is.units) is.program.clean h.rows a.table others is.rows in
      let lt = slice_get_within sources f h.source h.stands in
      let n = lexed_count (texts_of sources) is.tokens is.lexed in
      let m = length-texts sources in
      let there = element is.tokens f (omega (arith, lt, n, m)) in
      let lexes : Lexes h.source.text there.0 = lexed_each (texts_of sources) is.tokens is.lexed f h.source.text there.0 (text_there sources f h.source h.stands) there.1 in
      let items : h.items ≡ there.0 = items_once h.source.text h.items there.0 h.lexes lexes in
      let breaks : InFile is.units f (λ k base part. BreaksAt a.table there.0 k base part at r) =
      subst (λ (P : Type 0). P) (λ i. InFile (units i) f (λ k base part. BreaksAt (rows i) (items i) k base part at r)) h.breaks in
      (is.errors f there.0 at r there.1).1 breaks

  pub are_sound : HasOneReading → OneItems → ((f at : ℕ) (r : Rule) → SomeErrs a.members.items f at r → ⊥) → AreSound sources
  are_sound reading items_once none f at r h = none f at r (errs_from reading items_once f at r h)

  pub none_err : AreSound sources → (f at : ℕ) (r : Rule) → SomeErrs a.members.items f at r → ⊥
  none_err sound f at r h = sound f at r (breaks_from f at r h)

  module _ (f at : ℕ) (r : Rule) (first : IsFirst (SomeErrs a.members.items) f at r) where
    pub in_file : f < length sources
    in_file = let s = its_file f at r first.has in slice_get_within sources f s.0 s.1

    pub in_text : ItemsPlaced → (text : List ℕ) → slice_get (texts_of sources) f ≡ Some text → at < length text
    in_text law text stands =
        let p = is.placed f at r first.has in
        begins_within text p.0 law (lexed_each (texts_of sources) is.tokens is.lexed f text p.0 stands p.1) at p.2

    pub is_wrong : HasOneReading → OneItems → (g : SourceFault) → g.file ≡ f → g.at ≡ at → g.kind.now ≡ rule_name r → IsSourceWrong sources g
    is_wrong reading items_once g e place told =
        let s = its_file f at r first.has in
        let error : IsFirstError sources f at r = record { has = breaks_from f at r first.has; first = λ other b q h. first.first other b q (errs_from reading items_once other b q h) } in
        let named : HasName sources f s.0.name = name_there sources f s.0 s.1 in
        record {
          name = s.0.name;
          named = subst (λ (n : ℕ). HasName sources n s.0.name) (sym e) named;
          first = inr (f, r, named, subst (λ (n : ℕ). IsFirstError sources f n r) (sym place) error, told);
        }
