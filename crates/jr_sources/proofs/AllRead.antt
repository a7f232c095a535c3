-- What the kept readings say of sources: the first file with a fault, or that all read as units and have these tokens.
use Rattle.std.proofs.Common.{◌≡◌, ℕ, zero, suc, ◌<◌, ◌≤◌, List, [], ◌∷◌, map, length, refl, sym, ap, subst, ◌∙◌, arith}
use Rattle.std.specs.List.{slice_get}
use Rattle.std.specs.Prelude.{Option, Some, None}
use Rattle.std.proofs.lemmas.Option.{none-some, same_Some, slice_get_within}
use Rattle.jr_text.specs.declared.spans.Span.{Span}
use Rattle.jr_lex.specs.declared.items.Item.{Item}
use Rattle.jr_lex.specs.Lexes.{Lexes}
use Rattle.jr_ast.specs.declared.members.Unit.{Unit}
use Rattle.jr_ast.specs.View.{unit_of}
use Rattle.jr_sources.specs.declared.faults.ReadingFault.{ReadingFault}
use Rattle.jr_sources.specs.declared.kept.Readings.{Readings}
use Rattle.jr_sources.specs.FaultNames.{fault_name}
use Rattle.jr_sources.specs.ReadingFaults.{IsReading, ReadsAs, HasFault}
use Rattle.jr_sources.specs.ReadingLaws.{HasOneReading}
use Rattle.jr_sources.specs.Sources.{Source, texts_of}
use Rattle.jr_sources.specs.KeptReadings.{AreReadings}
use Rattle.jr_sources.specs.Analysed.{AreLexed}
use Rattle.jr_sources.specs.FirstFault.{AreRead, IsFileFault}
use Rattle.jr_sources.specs.FirstOf.{HaveNone, IsFirstOf, IsFileFaultAt}
use Rattle.jr_sources.proofs.SourceLaws.{length-texts}

-- an element within
pub element : {X : Type 0} (xs : List X) (i : ℕ) → i < length xs → (x : X) × (slice_get xs i ≡ Some x)
element [] i h = absurd (omega arith)
element (x ∷ xs) zero h = (x, refl)
element (x ∷ xs) (suc i) h = element xs i (omega arith)

pub text_there : (ss : List Source) (i : ℕ) (s : Source) → slice_get ss i ≡ Some s → slice_get (texts_of ss) i ≡ Some s.text
text_there [] i s h = absurd (none-some s h)
text_there (x ∷ xs) zero s h = ap (λ (o : Source). Some o.text) (same_Some x s h)
text_there (x ∷ xs) (suc i) s h = text_there xs i s h

-- one after the other, texts read as units
each_read : (ss : List Source) (us : List (Unit Span)) (ws : List ℕ) → length us ≡ length ss → length ws ≡ length ss → ((i : ℕ) (s : Source) (u : Unit Span) (w : ℕ) → slice_get ss i ≡ Some s → slice_get us i ≡ Some u → slice_get ws i ≡ Some w → ReadsAs s.text (unit_of u) w) → AreRead ss (map unit_of us) ws
each_read [] [] [] p q each = (refl, refl)
each_read [] [] (w ∷ ws) p q each = absurd (omega arith)
each_read [] (u ∷ us) ws p q each = absurd (omega arith)
each_read (s ∷ ss) [] ws p q each = absurd (omega arith)
each_read (s ∷ ss) (u ∷ us) [] p q each = absurd (omega arith)
each_read (s ∷ ss) (u ∷ us) (w ∷ ws) p q each = (
  unit_of u,
  map unit_of us,
  w,
  ws,
  refl,
  refl,
  each 0 s u w refl refl refl,
  each_read ss us ws (omega arith) (omega arith) (λ i t v x a b c. each (suc i) t v x a b c),
)

-- one after the other, texts have items
each_lexed : (ts : List (List ℕ)) (is : List (List Item)) → length is ≡ length ts → ((i : ℕ) (t : List ℕ) (x : List Item) → slice_get ts i ≡ Some t → slice_get is i ≡ Some x → Lexes t x) → AreLexed ts is
each_lexed [] [] p each = tt
each_lexed [] (x ∷ is) p each = absurd (omega arith)
each_lexed (t ∷ ts) [] p each = absurd (omega arith)
each_lexed (t ∷ ts) (x ∷ is) p each = (each 0 t x refl refl, each_lexed ts is (omega arith) (λ i u y a b. each (suc i) u y a b))

module _ (sources : List Source) (r : Readings) (h : AreReadings (texts_of sources) r) where
  -- what is kept of the file of a number
  pub kept : (i : ℕ) (t : List ℕ) (f : Option ReadingFault) → slice_get (texts_of sources) i ≡ Some t → slice_get r.faults.items i ≡ Some f → (u : Unit Span) × (w : ℕ) × (x : List Item) × (slice_get r.units.items i ≡ Some u) × (slice_get r.words.items i ≡ Some w) × (slice_get r.tokens.items i ≡ Some x) × IsReading t (unit_of u) w x f
  kept i t f a b =
      let in' = slice_get_within (texts_of sources) i t a in
      let hu = h.units in
      let hw = h.words in
      let ht = h.tokens in
      let u = element r.units.items i (omega arith) in
      let w = element r.words.items i (omega arith) in
      let x = element r.tokens.items i (omega arith) in
      (u.0, w.0, x.0, u.1, w.1, x.1, h.each i t u.0 w.0 x.0 f a u.1 w.1 x.1 b)

  pub read_units : HaveNone r.faults.items → AreRead sources (map unit_of r.units.items) r.words.items
  read_units none =
      let lt = length-texts sources in
      let hf = h.faults in
      each_read sources r.units.items r.words.items (h.units ∙ lt) (h.words ∙ lt)
      (λ i s u w a b c.
      let in' = slice_get_within sources i s a in
      let ht = h.tokens in
      let x = element r.tokens.items i (omega arith) in
      (h.each i s.text u w x.0 None (text_there sources i s a) b c x.1 (none i (omega arith))).0)

  pub lexed_tokens : HaveNone r.faults.items → AreLexed (texts_of sources) r.tokens.items
  lexed_tokens none = each_lexed (texts_of sources) r.tokens.items h.tokens
      (λ i t x a b.
      let in' = slice_get_within (texts_of sources) i t a in
      let hf = h.faults in
      let hu = h.units in
      let hw = h.words in
      let u = element r.units.items i (omega arith) in
      let w = element r.words.items i (omega arith) in
      (h.each i t u.0 w.0 x None a u.1 w.1 b (none i (omega arith))).1)

  pub fault_at : HasOneReading → (number : ℕ) (f : ReadingFault) → IsFirstOf r.faults.items number f → IsFileFaultAt sources number f
  fault_at law number f first =
      let lt = length-texts sources in
      let hf = h.faults in
      let within = slice_get_within r.faults.items number (Some f) first.stands in
      let there = element sources number (omega arith) in
      let its = kept number there.0.text (Some f) (text_there sources number there.0 there.1) first.stands in
      record {
        source = there.0;
        stands = there.1;
        fault = record {
          number = number;
          text = there.0.text;
          stands = there.1;
          fault = f;
          has = its.6;
          place = refl;
          told = refl;
          first = λ i other g below at has.
              let before = kept i other.text None (text_there sources i other at) (first.before i below) in
              law.never_both other.text (unit_of before.0) before.1 g before.6.0 has;
        };
        its = refl;
      }
