-- What was analysed of earlier sources serves where files have the same texts: they read as the same units, and have
-- the same tokens.
use Rattle.std.proofs.Common.{◌≡◌, ℕ, zero, suc, List, [], ◌∷◌, length, map, refl, sym, ap, subst, ◌∙◌}
use Rattle.std.specs.Prelude.{Option, Some, None, true, slice_get}
use Rattle.std.proofs.lemmas.Option.{same_Some, none-some}
use Rattle.jr_text.specs.declared.spans.Span.{Span}
use Rattle.jr_lex.specs.declared.items.Item.{Item}
use Rattle.jr_lex.specs.Lexes.{Lexes}
use Rattle.jr_ast.specs.MemberTree.{Unit as UnitTree}
use Rattle.jr_table.specs.Rows.{Row}
use Rattle.jr_table.specs.Conditions.{AreRows}
use Rattle.jr_members.specs.WrittenMembers.{WrittenMember, written_members}
use Rattle.jr_program_laws.specs.FileParts.{begins}
use Rattle.jr_cache.specs.Rebinding.{IsRebinding}
use Rattle.jr_sources.specs.Sources.{Source, texts_of}
use Rattle.jr_sources.specs.ReadingFaults.{ReadsAs}
use Rattle.jr_sources.specs.ReadingLaws.{HasOneReading}
use Rattle.jr_sources.specs.FirstFault.{AreRead}
use Rattle.jr_sources.specs.Analysed.{AreLexed, IsAnalysis}
use Rattle.jr_sources.specs.Earlier.{IsEarlier}
use Rattle.jr_sources.specs.declared.analyses.EarlierAnalysis.{EarlierAnalysis}
use Rattle.jr_sources.proofs.Analysing.{OneItems}

-- what a text at a number reads as, and what it has
Read : Option (List ℕ) → Option (UnitTree Span) → Type 0
Read None u = u ≡ None
Read (Some text) u = (unit : UnitTree Span) × (word : ℕ) × (u ≡ Some unit) × ReadsAs text unit word

read_at : (ss : List Source) (us : List (UnitTree Span)) (ws : List ℕ) → AreRead ss us ws → (i : ℕ) → Read (slice_get (texts_of ss) i) (slice_get us i)
unfolding Read
read_at [] us ws h i = ap (λ (l : List (UnitTree Span)). slice_get l i) h.0
read_at (s ∷ ss) us ws (u, vs, w, xs, eu, ew, r, rest) zero = (u, w, ap (λ (l : List (UnitTree Span)). slice_get l 0) eu, r)
read_at (s ∷ ss) us ws (u, vs, w, xs, eu, ew, r, rest) (suc i) = subst (Read (slice_get (texts_of ss) i)) (sym (ap (λ (l : List (UnitTree Span)). slice_get l (suc i)) eu)) (read_at ss vs xs rest i)

one_unit : HasOneReading → (t : Option (List ℕ)) (u v : Option (UnitTree Span)) → Read t u → Read t v → u ≡ v
unfolding Read
one_unit law None u v g h = g ∙ sym h
one_unit law (Some text) u v (a, w, ea, ra) (b, x, eb, rb) = ea ∙ ap (λ (y : UnitTree Span). Some y) (law.unit text a b w x ra rb).0 ∙ sym eb

Lexed : Option (List ℕ) → Option (List Item) → Type 0
Lexed None is = is ≡ None
Lexed (Some text) is = (items : List Item) × (is ≡ Some items) × Lexes text items

lexed_at : (ts : List (List ℕ)) (is : List (List Item)) → AreLexed ts is → (i : ℕ) → Lexed (slice_get ts i) (slice_get is i)
unfolding Lexed
lexed_at [] [] h i = refl
lexed_at [] (x ∷ is) h i = absurd h
lexed_at (t ∷ ts) [] h i = absurd h
lexed_at (t ∷ ts) (x ∷ is) h zero = (x, refl, h.0)
lexed_at (t ∷ ts) (x ∷ is) h (suc i) = lexed_at ts is h.1 i

one_list : OneItems → (t : Option (List ℕ)) (x y : Option (List Item)) → Lexed t x → Lexed t y → x ≡ y
unfolding Lexed
one_list law None x y g h = g ∙ sym h
one_list law (Some text) x y (a, ea, la) (b, eb, lb) = ea ∙ ap (λ (z : List Item). Some z) (law text a b la lb) ∙ sym eb

pub rebinding : HasOneReading → OneItems → (sources : List Source) (units : List (UnitTree Span)) (words : List ℕ) → AreRead sources units words
    → (tokens : List (List Item)) → AreLexed (texts_of sources) tokens → (rows : List Row) (ws : List (WrittenMember Span)) → ws ≡ written_members begins rows units
    → (e : EarlierAnalysis) → IsEarlier sources e
    → IsRebinding e.analysis.table rows tokens ws e.stays.items e.analysis.members.items
rebinding law one sources units words read tokens lexed rows ws written e (before, a, stay) = record {
  units = units;
  units_before = a.units;
  files_before = a.tokens;
  is = written;
  bound = a.each;
  unit_stays = λ file h. one_unit law (slice_get (texts_of sources) file) _ _
      (subst (λ t. Read t (slice_get a.units file)) (stay file h) (read_at before a.units a.words a.program.read file))
      (read_at sources units words read file);
  items_stay = λ file h. one_list one (slice_get (texts_of sources) file) _ _
      (subst (λ t. Lexed t (slice_get a.tokens file)) (stay file h) (lexed_at (texts_of before) a.tokens a.lexed file))
      (lexed_at (texts_of sources) tokens lexed file);
}
