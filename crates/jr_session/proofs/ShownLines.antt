-- The lines of a show: from what was analysed, and no others.
use Rattle.std.proofs.Common.{◌≡◌, ℕ, List, map, sym, ap, subst, ◌∙◌, eq-eqb}
use Rattle.std.specs.Prelude.{◌↔◌, Some, slice_get, filter, ◌==◌}
use Rattle.std.proofs.lemmas.Option.{same_Some}
use Rattle.jr_text.specs.declared.spans.Span.{Span}
use Rattle.jr_lex.specs.declared.items.Item.{Item}
use Rattle.jr_lex.specs.Lexes.{Lexes}
use Rattle.jr_ast.specs.MemberTree.{Unit as UnitTree}
use Rattle.jr_table.specs.Decls.{Decl}
use Rattle.jr_table.specs.declared.rules.Rule.{Rule}
use Rattle.jr_table.specs.DeclaredItems.{declarations_of}
use Rattle.jr_table.specs.ProgramRows.{AreProgramRows}
use Rattle.jr_program_laws.specs.FileParts.{begins}
use Rattle.jr_program.specs.declared.bounds.MemberBound.{MemberBound}
use Rattle.jr_lines.specs.Lines.{Line, reference, broken, line_text, AreLines}
use Rattle.jr_lines.specs.LineLaws.{OneInOrder}
use Rattle.jr_program.specs.Members.{AnyOf, MemberRefers, MemberErrs}
use Rattle.jr_lines.specs.MemberLines.{IsLineOf}
use Rattle.jr_program.proofs.Membership.{chain, any_filter}
use Rattle.jr_sources.specs.declared.analyses.Analysis.{Analysis}
use Rattle.jr_sources.specs.Analysed.{IsAnalysis}
use Rattle.jr_sources.specs.FirstFault.{package_lines}
use Rattle.jr_session.specs.Lines.{HasLine, AreLinesOf, AreLineTexts}
use Rattle.jr_sources.specs.ReadingLaws.{HasOneReading}
use Rattle.jr_sources.specs.Sources.{Source, texts_of}
use Rattle.jr_sources.proofs.AllRead.{text_there}
use Rattle.jr_sources.proofs.Analysing.{OneItems, lexed_each, read_once}
use Rattle.jr_sources.proofs.FirstErrors.{rows_once}
use Rattle.jr_sources.proofs.Lexing.{text_source}

-- ---- the members of a file have all that is known of it

abbrev pub own_members : (file : ℕ) → List MemberBound → List MemberBound
own_members file members = filter (λ (b : MemberBound). b.file == file) members

pub own_refers : (file at : ℕ) (d : Decl) (members : List MemberBound) → AnyOf (MemberRefers file at d) (own_members file members) ↔ AnyOf (MemberRefers file at d) members
own_refers file at d members = any_filter (MemberRefers file at d) (λ (b : MemberBound). b.file == file) (λ b h. eq-eqb b.file file h.0) members

own_errs : (file at : ℕ) (r : Rule) (members : List MemberBound) → AnyOf (MemberErrs file at r) (own_members file members) ↔ AnyOf (MemberErrs file at r) members
own_errs file at r members = any_filter (MemberErrs file at r) (λ (b : MemberBound). b.file == file) (λ b h. eq-eqb b.file file h.0) members

-- ---- the lines

module _ (sources : List Source) (a : Analysis) (is : IsAnalysis sources a) (number : ℕ) (source : Source) (stands : slice_get sources number ≡ Some source)
    (items : List Item) (tokens : slice_get is.tokens number ≡ Some items) where
  lexes : Lexes source.text items
  lexes = lexed_each (texts_of sources) is.tokens is.lexed number source.text items (text_there sources number source stands) tokens

  line_is : (l : Line) → IsLineOf source.text items (own_members number a.members.items) number l ↔ HasLine is.units a.table number source.text items l
  line_is (reference at name d) =
      let f = is.references number items at d tokens in
      let g = own_refers number at d a.members.items in
      (λ h. (f.0 (g.0 h.0), h.1), λ h. (g.1 (f.1 h.0), h.1))
  line_is (broken at r) = chain (own_errs number at r a.members.items) (is.errors number items at r tokens)

  pub lines_shown : (texts : List (List ℕ)) → ((lines : List Line) × AreLines (IsLineOf source.text items (own_members number a.members.items) number) lines × (texts ≡ map line_text lines)) → AreLineTexts sources number texts
  lines_shown texts h = record {
    lines = h.0;
    are = record {
      units = is.units;
      words = is.words;
      program = is.program;
      rows = a.table;
      are_rows = is.rows;
      source = source;
      stands = stands;
      items = items;
      lexes = lexes;
      are = record { in_order = h.1.in_order; exact = λ l. let f = h.1.exact l in let g = line_is l in (λ x. g.0 (f.0 x), λ x. f.1 (g.1 x)) };
    };
    texts_are = h.2;
  }

-- the same, by the text and the members that were walked
pub lines_of_text : (sources : List Source) (a : Analysis) (is : IsAnalysis sources a) (number : ℕ) (text : List ℕ) (items : List Item) (members : List MemberBound) → slice_get (texts_of sources) number ≡ Some text → slice_get is.tokens number ≡ Some items → members ≡ own_members number a.members.items
    → (texts : List (List ℕ)) → ((lines : List Line) × AreLines (IsLineOf text items members number) lines × (texts ≡ map line_text lines)) → AreLineTexts sources number texts
lines_of_text sources a is number text items members at tokens same texts h =
    let s = text_source sources number text at in
    let are : AreLines (IsLineOf s.0.text items (own_members number a.members.items) number) h.0 = subst (λ ms. AreLines (IsLineOf s.0.text items ms number) h.0) same (subst (λ t. AreLines (IsLineOf t items members number) h.0) (sym s.2) h.1) in
    lines_shown sources a is number s.0 s.1 items tokens texts (h.0, are, h.2)

-- ---- no others

module _ (reading : HasOneReading) (items_once : OneItems) (order : OneInOrder) (sources : List Source) (number : ℕ) where
  one_lines : (xs ys : List Line) → AreLinesOf sources number xs → AreLinesOf sources number ys → xs ≡ ys
  one_lines xs ys g h =
      let units : g.units ≡ h.units = (read_once reading sources g.units h.units g.words h.words g.program.read h.program.read).0 in
      let others : AreProgramRows (declarations_of begins g.units) h.rows = subst (λ (us : List (UnitTree Span)). AreProgramRows (declarations_of begins us) h.rows) (sym units) h.are_rows in
      let rows : g.rows ≡ h.rows = rows_once (package_lines g.units g.words) (declarations_of begins g.units) g.program.clean g.rows h.rows g.are_rows others in
      let source : g.source ≡ h.source = same_Some g.source h.source (sym g.stands ∙ h.stands) in
      let items : g.items ≡ h.items = items_once g.source.text g.items h.items g.lexes (subst (λ (s : Source). Lexes s.text h.items) (sym source) h.lexes) in
      let same : (l : Line) → HasLine g.units g.rows number g.source.text g.items l ≡ HasLine h.units h.rows number h.source.text h.items l = λ l i. HasLine (units i) (rows i) number (source i).text (items i) l in
      order xs ys g.are.in_order h.are.in_order
      (λ l. (λ x. (h.are.exact l).1 (subst (λ (P : Type 0). P) (same l) ((g.are.exact l).0 x)), λ x. (g.are.exact l).1 (subst (λ (P : Type 0). P) (sym (same l)) ((h.are.exact l).0 x))))

  pub one_shown : (xs ys : List (List ℕ)) → AreLineTexts sources number xs → AreLineTexts sources number ys → xs ≡ ys
  one_shown xs ys g h = g.texts_are ∙ ap (map line_text) (one_lines g.lines h.lines g.are h.are) ∙ sym h.texts_are
