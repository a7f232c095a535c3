-- Readings of texts, where one text was read anew, and where one more was read.
use Rattle.std.proofs.Common.{◌≡◌, ◌≢◌, ℕ, ◌+◌, ◌<◌, List, [], ◌∷◌, ◌++◌, set, length, Bool, true, false, true≢false, eqb, refl, sym, ap, subst, ◌∙◌, arith}
use Rattle.std.specs.List.{slice_get}
use Rattle.std.specs.Prelude.{Option, Some}
use Rattle.std.proofs.lemmas.Option.{slice_get_within, same_Some}
use Rattle.std.proofs.lemmas.List.{length-set}
use Rattle.std.proofs.lemmas.Bool.Decides.{Decides-eqb}
use Rattle.jr_text.specs.declared.spans.Span.{Span}
use Rattle.jr_lex.specs.declared.items.Item.{Item}
use Rattle.jr_ast.specs.declared.members.Unit.{Unit}
use Rattle.jr_ast.specs.View.{unit_of}
use Rattle.jr_sources.specs.declared.faults.ReadingFault.{ReadingFault}
use Rattle.jr_sources.specs.declared.kept.Readings.{Readings}
use Rattle.jr_sources.specs.ReadingFaults.{IsReading}
use Rattle.jr_sources.specs.KeptReadings.{AreReadings}
use Rattle.jr_session.proofs.Places.{written_at, kept_at, before_pushed, at_pushed, length-pushed}

module _ (texts : List (List ℕ)) (r s : Readings) (t : List ℕ) (u : Unit Span) (w : ℕ) (x : List Item) (f : Option ReadingFault) (is : IsReading t (unit_of u) w x f) where
  agree : {text : List ℕ} {unit : Unit Span} {word : ℕ} {items : List Item} {fault : Option ReadingFault} → t ≡ text → u ≡ unit → w ≡ word → x ≡ items → f ≡ fault → IsReading text (unit_of unit) word items fault
  agree {text} {unit} {word} {items} {fault} p q m z y =
      subst (λ (l : Option ReadingFault). IsReading text (unit_of unit) word items l) y
      (subst (λ (is : List Item). IsReading text (unit_of unit) word is f) z
      (subst (λ (n : ℕ). IsReading text (unit_of unit) n x f) m
      (subst (λ (v : Unit Span). IsReading text (unit_of v) w x f) q
      (subst (λ (bs : List ℕ). IsReading bs (unit_of u) w x f) p is))))

  pub read_anew : (n : ℕ) → AreReadings texts r → s.units.items ≡ set r.units.items n u → s.words.items ≡ set r.words.items n w → s.tokens.items ≡ set r.tokens.items n x → s.faults.items ≡ set r.faults.items n f → AreReadings (set texts n t) s
  read_anew n h us ws xs fs = record {
    units = ap length us ∙ length-set r.units.items n u ∙ h.units ∙ sym (length-set texts n t);
    words = ap length ws ∙ length-set r.words.items n w ∙ h.words ∙ sym (length-set texts n t);
    tokens = ap length xs ∙ length-set r.tokens.items n x ∙ h.tokens ∙ sym (length-set texts n t);
    faults = ap length fs ∙ length-set r.faults.items n f ∙ h.faults ∙ sym (length-set texts n t);
    each = λ i text unit word items fault a b c e d. by i text unit word items fault (eqb i n) refl a (ap (λ l. slice_get l i) (sym us) ∙ b) (ap (λ l. slice_get l i) (sym ws) ∙ c) (ap (λ l. slice_get l i) (sym xs) ∙ e) (ap (λ l. slice_get l i) (sym fs) ∙ d);
  }
    where
      same : (i : ℕ) (text : List ℕ) (unit : Unit Span) (word : ℕ) (items : List Item) (fault : Option ReadingFault) → i ≡ n → slice_get (set texts n t) i ≡ Some text → slice_get (set r.units.items n u) i ≡ Some unit → slice_get (set r.words.items n w) i ≡ Some word → slice_get (set r.tokens.items n x) i ≡ Some items → slice_get (set r.faults.items n f) i ≡ Some fault
          → IsReading text (unit_of unit) word items fault
      same i text unit word items fault e a b c d g =
          let p = written_at texts n t text (subst (λ k. slice_get (set texts n t) k ≡ Some text) e a) in
          let q = written_at r.units.items n u unit (subst (λ k. slice_get (set r.units.items n u) k ≡ Some unit) e b) in
          let m = written_at r.words.items n w word (subst (λ k. slice_get (set r.words.items n w) k ≡ Some word) e c) in
          let z = written_at r.tokens.items n x items (subst (λ k. slice_get (set r.tokens.items n x) k ≡ Some items) e d) in
          let y = written_at r.faults.items n f fault (subst (λ k. slice_get (set r.faults.items n f) k ≡ Some fault) e g) in
          agree p q m z y

      by : (i : ℕ) (text : List ℕ) (unit : Unit Span) (word : ℕ) (items : List Item) (fault : Option ReadingFault) (b : Bool) → eqb i n ≡ b → slice_get (set texts n t) i ≡ Some text → slice_get (set r.units.items n u) i ≡ Some unit → slice_get (set r.words.items n w) i ≡ Some word → slice_get (set r.tokens.items n x) i ≡ Some items → slice_get (set r.faults.items n f) i ≡ Some fault
          → IsReading text (unit_of unit) word items fault
      by i text unit word items fault true e a b c d g = same i text unit word items fault ((Decides-eqb i n).0 e) a b c d g
      by i text unit word items fault false e a b c d g =
          let other : i ≢ n = λ s. true≢false (sym ((Decides-eqb i n).1 s) ∙ e) in
          h.each i text unit word items fault (sym (kept_at texts n i t other) ∙ a) (sym (kept_at r.units.items n i u other) ∙ b) (sym (kept_at r.words.items n i w other) ∙ c) (sym (kept_at r.tokens.items n i x other) ∙ d) (sym (kept_at r.faults.items n i f other) ∙ g)

  pub read_more : AreReadings texts r → s.units.items ≡ r.units.items ++ u ∷ [] → s.words.items ≡ r.words.items ++ w ∷ [] → s.tokens.items ≡ r.tokens.items ++ x ∷ [] → s.faults.items ≡ r.faults.items ++ f ∷ [] → AreReadings (texts ++ t ∷ []) s
  read_more h us ws xs fs = record {
    units = ap length us ∙ length-pushed r.units.items u ∙ ap (λ (k : ℕ). k + 1) h.units ∙ sym (length-pushed texts t);
    words = ap length ws ∙ length-pushed r.words.items w ∙ ap (λ (k : ℕ). k + 1) h.words ∙ sym (length-pushed texts t);
    tokens = ap length xs ∙ length-pushed r.tokens.items x ∙ ap (λ (k : ℕ). k + 1) h.tokens ∙ sym (length-pushed texts t);
    faults = ap length fs ∙ length-pushed r.faults.items f ∙ ap (λ (k : ℕ). k + 1) h.faults ∙ sym (length-pushed texts t);
    each = λ i text unit word items fault a b c e d. by i text unit word items fault (eqb i (length texts)) refl a (ap (λ l. slice_get l i) (sym us) ∙ b) (ap (λ l. slice_get l i) (sym ws) ∙ c) (ap (λ l. slice_get l i) (sym xs) ∙ e) (ap (λ l. slice_get l i) (sym fs) ∙ d);
  }
    where
      last : (i : ℕ) (text : List ℕ) (unit : Unit Span) (word : ℕ) (items : List Item) (fault : Option ReadingFault) → i ≡ length texts → slice_get (texts ++ t ∷ []) i ≡ Some text → slice_get (r.units.items ++ u ∷ []) i ≡ Some unit → slice_get (r.words.items ++ w ∷ []) i ≡ Some word → slice_get (r.tokens.items ++ x ∷ []) i ≡ Some items → slice_get (r.faults.items ++ f ∷ []) i ≡ Some fault
          → IsReading text (unit_of unit) word items fault
      last i text unit word items fault e a b c d g =
          agree
          (same_Some t text (sym (at_pushed texts t) ∙ subst (λ k. slice_get (texts ++ t ∷ []) k ≡ Some text) e a))
          (same_Some u unit (sym (at_pushed r.units.items u) ∙ subst (λ k. slice_get (r.units.items ++ u ∷ []) k ≡ Some unit) (e ∙ sym h.units) b))
          (same_Some w word (sym (at_pushed r.words.items w) ∙ subst (λ k. slice_get (r.words.items ++ w ∷ []) k ≡ Some word) (e ∙ sym h.words) c))
          (same_Some x items (sym (at_pushed r.tokens.items x) ∙ subst (λ k. slice_get (r.tokens.items ++ x ∷ []) k ≡ Some items) (e ∙ sym h.tokens) d))
          (same_Some f fault (sym (at_pushed r.faults.items f) ∙ subst (λ k. slice_get (r.faults.items ++ f ∷ []) k ≡ Some fault) (e ∙ sym h.faults) g))

      by : (i : ℕ) (text : List ℕ) (unit : Unit Span) (word : ℕ) (items : List Item) (fault : Option ReadingFault) (b : Bool) → eqb i (length texts) ≡ b → slice_get (texts ++ t ∷ []) i ≡ Some text → slice_get (r.units.items ++ u ∷ []) i ≡ Some unit → slice_get (r.words.items ++ w ∷ []) i ≡ Some word → slice_get (r.tokens.items ++ x ∷ []) i ≡ Some items → slice_get (r.faults.items ++ f ∷ []) i ≡ Some fault
          → IsReading text (unit_of unit) word items fault
      by i text unit word items fault true e a b c d g = last i text unit word items fault ((Decides-eqb i (length texts)).0 e) a b c d g
      by i text unit word items fault false e a b c d g =
          let other : i ≢ length texts = λ s. true≢false (sym ((Decides-eqb i (length texts)).1 s) ∙ e) in
          let all : i < length (texts ++ t ∷ []) = slice_get_within (texts ++ t ∷ []) i text a in
          let one : length (texts ++ t ∷ []) ≡ length texts + 1 = length-pushed texts t in
          let in' : i < length texts = omega arith in
          let hu : length r.units.items ≡ length texts = h.units in
          let hw : length r.words.items ≡ length texts = h.words in
          let ht : length r.tokens.items ≡ length texts = h.tokens in
          let hf : length r.faults.items ≡ length texts = h.faults in
          h.each i text unit word items fault (sym (before_pushed texts t i in') ∙ a) (sym (before_pushed r.units.items u i (omega arith)) ∙ b) (sym (before_pushed r.words.items w i (omega arith)) ∙ c) (sym (before_pushed r.tokens.items x i (omega arith)) ∙ d) (sym (before_pushed r.faults.items f i (omega arith)) ∙ g)
