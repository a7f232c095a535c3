-- What comes of binding the members of sources whose table is known.
use Rattle.std.proofs.Common.{◌≡◌, ◌≤◌, ◌+◌, ℕ, List, length, map, sym, ap, subst, ◌∙◌, arith}
use Rattle.jr_text.specs.declared.spans.Span.{Span}
use Rattle.jr_lex.specs.declared.items.Item.{Item}
use Rattle.jr_ast.specs.MemberTree.{Unit as UnitTree}
use Rattle.jr_table.specs.Rows.{Row}
use Rattle.jr_table.specs.Conditions.{AreRows}
use Rattle.jr_table.specs.DeclaredItems.{declarations_of}
use Rattle.jr_table.specs.ProgramRows.{AreProgramRows}
use Rattle.jr_members.specs.WrittenMembers.{WrittenMember, written_members}
use Rattle.jr_members.specs.WrittenLaws.{AreWritten, MembersAreWritten}
use Rattle.jr_program_laws.specs.FileParts.{begins}
use Rattle.jr_program_laws.specs.PlaceLaws.{OneIsBound, PartsArePlaced, SupersStand}
use Rattle.jr_program.specs.Members.{EachOf, CanBind, AreKnown, AreEachBound, AreWrittenInOrder, AreInFileOrder}
use Rattle.jr_sources.specs.declared.analyses.Analysis.{Analysis}
use Rattle.jr_sources.specs.ReadingLaws.{HasOneReading}
use Rattle.jr_sources.specs.Sources.{Source, texts_of}
use Rattle.jr_sources.specs.FirstFault.{AreRead, AreProgram}
use Rattle.jr_sources.specs.Analysed.{AreLexed, IsAnalysis, CostsBinding}
use Rattle.jr_sources.specs.Tables.{IsTableOf}
use Rattle.jr_sources.proofs.Analysing.{OneItems, read_once, costs, written_few, all_bind, known_refers, known_errs, known_token, known_once}
use Rattle.jr_sources.proofs.WrittenOrder.{written_rise}

-- the rows of a program are a table of its sources
pub table_of : HasOneReading → (sources : List Source) (units : List (UnitTree Span)) (words : List ℕ) → AreProgram sources units words
    → (rows : List Row) → AreProgramRows (declarations_of begins units) rows → IsTableOf sources rows
table_of law sources units words program rows are us ws read =
    let one = read_once law sources units us words ws program.read read in (
      subst (AreProgram sources us) one.1 (subst (λ (u : List (UnitTree Span)). AreProgram sources u words) one.0 program),
      subst (λ (u : List (UnitTree Span)). AreProgramRows (declarations_of begins u) rows) one.0 are,
    )

-- what binding counts
pub counted : HasOneReading → (sources : List Source) (units : List (UnitTree Span)) (words : List ℕ) → AreRead sources units words
    → (rows : List Row) → IsTableOf sources rows → (ws : List (WrittenMember Span)) → ws ≡ written_members begins rows units
    → (count : ℕ) → length ws ≡ count → (before after : ℕ) → before ≤ after → after ≤ before + count → CostsBinding sources before after
counted law sources units words read rows table ws written count is before after least most =
    let few = written_few rows units in
    let long : length ws ≡ length (written_members begins rows units) = ap length written in
    costs law sources units words (table units words read).0 before after least (omega (arith, most, is, long, few))

module _ (reading : HasOneReading) (items : OneItems) (parts : PartsArePlaced) (supers : SupersStand) (once : OneIsBound) (members : MembersAreWritten Span)
    (sources : List Source) (units : List (UnitTree Span)) (words : List ℕ) (read : AreRead sources units words)
    (tokens : List (List Item)) (lexed : AreLexed (texts_of sources) tokens) where
  are_written : (rows : List Row) → IsTableOf sources rows → AreRows rows → (ws : List (WrittenMember Span)) → ws ≡ written_members begins rows units → AreWritten begins units rows ws
  are_written rows table fit ws written = subst (AreWritten begins units rows) (sym written) (members begins units rows fit (table units words read).1)

  pub can_bind : (rows : List Row) → IsTableOf sources rows → AreRows rows → (ws : List (WrittenMember Span)) → ws ≡ written_members begins rows units → EachOf (CanBind rows tokens) ws
  can_bind rows table fit ws written =
      all_bind sources units words (table units words read).0 rows fit tokens lexed items parts supers once ws (are_written rows table fit ws written)

  pub analysis : (a : Analysis) → IsTableOf sources a.table → AreRows a.table → (ws : List (WrittenMember Span)) → ws ≡ written_members begins a.table units
      → AreKnown a.table tokens ws a.members.items → AreEachBound a.table tokens ws a.members.items → (AreWrittenInOrder ws → AreInFileOrder a.members.items)
      → IsAnalysis sources a
  analysis a table fit ws written known each order =
      let program = (table units words read).0 in
      let law = are_written a.table table fit ws written in
      let bounds = a.members.items in
      record {
        units = units;
        words = words;
        program = program;
        rows = (table units words read).1;
        tokens = tokens;
        lexed = lexed;
        order = order (subst (λ (xs : List (WrittenMember Span)). AreWrittenInOrder xs) (sym written) (written_rise a.table units));
        references = λ file its at d stands. known_refers sources units words program a.table fit tokens lexed items parts supers once ws law bounds known file its stands at d;
        errors = λ file its at r stands. known_errs sources units words program a.table fit tokens lexed items parts supers once ws law bounds known file its stands at r;
        each = subst (λ (xs : List (WrittenMember Span)). AreEachBound a.table tokens xs bounds) written each;
        placed = λ file at r. known_token sources units words program a.table fit tokens lexed items parts supers once ws law bounds known file at r;
        once = known_once sources units words program a.table fit tokens lexed items parts supers once ws law bounds known;
      }
