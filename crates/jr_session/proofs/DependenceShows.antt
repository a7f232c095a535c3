-- Shown dependences: from what was analysed, and no others.
use Rattle.std.proofs.Common.{◌≡◌, ℕ, List, refl, sym, ap, subst, ◌∙◌}
use Rattle.std.specs.Prelude.{slice_get, Some}
use Rattle.std.proofs.lemmas.Option.{same_Some}
use Rattle.jr_text.specs.declared.spans.Span.{Span}
use Rattle.jr_lex.specs.declared.items.Item.{Item}
use Rattle.jr_lex.specs.Lexes.{Lexes}
use Rattle.jr_ast.specs.MemberTree.{Unit as UnitTree}
use Rattle.jr_table.specs.Decls.{MemberKey}
use Rattle.jr_table.specs.Rows.{Row}
use Rattle.jr_table.specs.DeclaredItems.{declarations_of}
use Rattle.jr_table.specs.ProgramRows.{AreProgramRows}
use Rattle.jr_members.specs.WrittenMembers.{WrittenMember, written_members}
use Rattle.jr_program_laws.specs.FileParts.{begins}
use Rattle.jr_dependence_lines.specs.declared.file_lines.Shown.{Shown}
use Rattle.jr_dependence_lines.specs.declared.file_lines.Shown.TheVariants as shows
use Rattle.jr_dependence_lines.specs.Lines.{texts_of}
use Rattle.jr_dependence_lines.specs.LineLaws.{LinesAreOne, LargeIsOne, NeverBoth}
use Rattle.jr_dependence_lines.specs.MemberLines.{HaveLines, IsFirstLarge, in_file}
use Rattle.jr_dependence_lines.specs.Tallies.{IsShown}
use Rattle.jr_sources.specs.declared.analyses.Analysis.{Analysis}
use Rattle.jr_sources.specs.Analysed.{IsAnalysis}
use Rattle.jr_sources.specs.FirstFault.{package_lines}
use Rattle.jr_sources.specs.ReadingLaws.{HasOneReading}
use Rattle.jr_sources.specs.Sources.{Source, texts_of as source_texts}
use Rattle.jr_sources.proofs.AllRead.{text_there}
use Rattle.jr_sources.proofs.Analysing.{OneItems, lexed_each, read_once}
use Rattle.jr_sources.proofs.FirstErrors.{rows_once}
use Rattle.jr_sources.proofs.Lexing.{text_source}
use Rattle.jr_session.specs.Dependences.{AreMembersOf, AreDependenceTexts, IsLargeMember}
use Rattle.jr_session.specs.Shows.{IsDependenceShow, shown_limit}

-- ---- from what was analysed

-- the members of a file, by its text and items
pub own_members : (sources : List Source) (a : Analysis) (is : IsAnalysis sources a) (number : ℕ) (text : List ℕ) (items : List Item) → slice_get (source_texts sources) number ≡ Some text → slice_get is.tokens number ≡ Some items
    → AreMembersOf sources number a.table items (in_file number (written_members begins a.table is.units))
own_members sources a is number text items at tokens =
    let s = text_source sources number text at in
    record {
      units = is.units;
      words = is.words;
      program = is.program;
      are_rows = is.rows;
      source = s.0;
      stands = s.1;
      lexes = lexed_each (source_texts sources) is.tokens is.lexed number s.0.text items (text_there sources number s.0 s.1) tokens;
      written = refl;
    }

pub shown_is : (sources : List Source) (number before : ℕ) (rows : List Row) (items : List Item) (members : List (WrittenMember Span)) → AreMembersOf sources number rows items members → (x : Shown) → IsShown rows items before shown_limit members x → IsDependenceShow sources number before x
shown_is sources number before rows items members of (shows.TooManySites member count) h = record { rows = rows; items = items; members = members; of = of; first = h }
shown_is sources number before rows items members of (shows.Lines texts len) h = (
  texts_of h.0,
  record { rows = rows; items = items; members = members; of = of; lines = h.0; have = h.1; texts_are = refl },
  h.2,
  h.3,
)

-- ---- no others

module _ (reading : HasOneReading) (items_once : OneItems) (sources : List Source) (number : ℕ) where
  -- P: of rows, items and members
  same_members : (P : List Row → List Item → List (WrittenMember Span) → Type 0) (rows others : List Row) (items tokens : List Item) (ms ws : List (WrittenMember Span))
      → AreMembersOf sources number rows items ms → AreMembersOf sources number others tokens ws → P rows items ms → P others tokens ws
  same_members P rows others items tokens ms ws g h p =
      let units : g.units ≡ h.units = (read_once reading sources g.units h.units g.words h.words g.program.read h.program.read).0 in
      let theirs : AreProgramRows (declarations_of begins g.units) others = subst (λ (us : List (UnitTree Span)). AreProgramRows (declarations_of begins us) others) (sym units) h.are_rows in
      let same_rows : rows ≡ others = rows_once (package_lines g.units g.words) (declarations_of begins g.units) g.program.clean rows others g.are_rows theirs in
      let source : g.source ≡ h.source = same_Some g.source h.source (sym g.stands ∙ h.stands) in
      let same_items : items ≡ tokens = items_once g.source.text items tokens g.lexes (subst (λ (s : Source). Lexes s.text tokens) (sym source) h.lexes) in
      let same : ms ≡ ws = g.written ∙ (λ i. in_file number (written_members begins (same_rows i) (units i))) ∙ sym h.written in
      subst (λ (z : List (WrittenMember Span)). P others tokens z) same (subst (λ (z : List Item). P others z ms) same_items (subst (λ (z : List Row). P z items ms) same_rows p))

  pub one_texts : LinesAreOne → (xs ys : List (List ℕ)) → AreDependenceTexts sources number xs → AreDependenceTexts sources number ys → xs ≡ ys
  one_texts once xs ys g h =
      let have : HaveLines h.rows h.items h.members g.lines = same_members (λ r i m. HaveLines r i m g.lines) g.rows h.rows g.items h.items g.members h.members g.of h.of g.have in
      g.texts_are ∙ ap texts_of (once h.rows h.items h.members g.lines h.lines have h.have) ∙ sym h.texts_are

  pub one_large : LargeIsOne → (k l : MemberKey) (m n : ℕ) → IsLargeMember sources number k m → IsLargeMember sources number l n → (k ≡ l) × (m ≡ n)
  one_large once k l m n g h = once h.rows h.items h.members k l m n (same_members (λ r i ws. IsFirstLarge r i ws k m) g.rows h.rows g.items h.items g.members h.members g.of h.of g.first) h.first

  pub never_both : NeverBoth → (xs : List (List ℕ)) (k : MemberKey) (n : ℕ) → AreDependenceTexts sources number xs → IsLargeMember sources number k n → ⊥
  never_both never xs k n g h = never h.rows h.items h.members g.lines k n (same_members (λ r i m. HaveLines r i m g.lines) g.rows h.rows g.items h.items g.members h.members g.of h.of g.have) h.first
