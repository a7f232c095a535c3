-- What was read is the unit, and else there is none, by the laws of the machine.
use Rattle.std.proofs.Common.{◌≡◌, ℕ, List, Option, Some, None, refl, sym, ap, subst, ◌∙◌}
use Rattle.std.specs.Prelude.{length, option_map, option_and_then, MatchOption, Result, Ok, Err, IfOk, IfErr, OnOk, IsErr}
use Rattle.jr_text.specs.declared.spans.Span.{Span}
use Rattle.jr_lex.specs.declared.items.Item.{Item}
use Rattle.jr_lex.specs.Lexes.{Lexes}
use Rattle.jr_ast.specs.declared.members.Unit.{Unit}
use Rattle.jr_ast.specs.MemberTree.{Unit as UnitTree}
use Rattle.jr_ast.specs.View.{unit_of}
use Rattle.jr_grammar.specs.Tokens.{Token, kinds, tokens_of, placed_of}
use Rattle.jr_grammar.specs.Bare.{Bare, no_mark, bare_unit}
use Rattle.jr_grammar.specs.Units.{IsUnit, IsNoUnit, IsMarkedUnit, OneUnitReading}
use Rattle.jr_grammar.specs.Reads.{Reads}
use Rattle.jr_grammar.specs.IgnoresMarks.{UnitIgnoresMarks}
use Rattle.jr_punit_laws.specs.OneReading.{OneMarkedTree}
use Rattle.jr_pexpr.specs.declared.faults.ParseFault.{ParseFault}
use Rattle.jr_pexpr.specs.declared.faults.ParseFault.TheVariants.{Syntax, Memory}
use Rattle.jr_pexpr.specs.Parsing.{IsFault}
use Rattle.jr_punit_laws.specs.Unread.{IsUnread}
use Rattle.jr_punit_laws.specs.Exact.{UnitIsRead, UnitStopIsExact}
use Rattle.jr_punit_laws.specs.Machines.{unit_read, unit_stop}
use Rattle.jr_punit_laws.specs.Marked.{span_unit_read, span_unit_stop}
use Rattle.jr_punit_laws.specs.MarkedAlike.{ReadsAlike, ReadsMarked}
use Rattle.jr_punit_laws.specs.Parsing.{AreUnit, IsUnitOf, IsNoUnitAt, OneAnswer}
use Rattle.jr_punit_laws.specs.StopPlaces.{byte_of, item_of, stop_byte, StandsAt, StopsHavePlaces, StopsHaveOnePlace}

-- the laws that the answers rest on
pub record Laws : Type 0 where
  pub is_read : UnitIsRead
  pub stop : UnitStopIsExact
  pub places : StopsHavePlaces
  pub alike : ReadsAlike
  pub marked : ReadsMarked

matched : {A : Type 0} (o : Option A) (P : Type 0) (Q : A → Type 0) (r : Option A) → r ≡ o → MatchOption r P Q → MatchOption o P Q
matched {A} o P Q r e h = subst (λ (r : Option A). MatchOption r P Q) e h

module _ (laws : Laws) (bytes : List ℕ) (items : List Item) where
  abbrev size : ℕ
  size = length bytes

  abbrev tokens : List Token
  tokens = tokens_of bytes items

  pub is_unit : (unit : UnitTree Span) → span_unit_read size (placed_of bytes items) ≡ Some unit → IsUnitOf bytes items unit
  is_unit unit e = laws.marked.unit size (placed_of bytes items) unit e

  pub reads_unit : Lexes bytes items → (unit : UnitTree Span) → span_unit_read size (placed_of bytes items) ≡ Some unit → Reads bytes unit
  reads_unit l unit e =
      let m = is_unit unit e in
      record { items = items; lexes = l; is = record { shaped = m.shaped; spells = m.spells } }

  -- some unit is there
  pub are_unit : (unit : UnitTree Span) → span_unit_read size (placed_of bytes items) ≡ Some unit → AreUnit tokens
  are_unit unit e =
      let b : unit_read tokens ≡ Some (bare_unit unit) = sym (laws.alike.unit size (placed_of bytes items)) ∙ ap (option_map bare_unit) e in
      (bare_unit unit, matched (Some (bare_unit unit)) (IsNoUnit tokens) (IsUnit tokens) (unit_read tokens) b (laws.is_read tokens))

  pub some_unit : (unit : UnitTree Span) → span_unit_read size (placed_of bytes items) ≡ Some unit → IsNoUnit tokens → ⊥
  some_unit unit e none = let u = are_unit unit e in none u.0 u.1

  pub no_unit : span_unit_read size (placed_of bytes items) ≡ None → IsNoUnit tokens
  no_unit e =
      let b : unit_read tokens ≡ None = sym (laws.alike.unit size (placed_of bytes items)) ∙ ap (option_map bare_unit) e in
      matched None (IsNoUnit tokens) (IsUnit tokens) (unit_read tokens) b (laws.is_read tokens)

  pub no_unit_at : (at : ℕ) → span_unit_read size (placed_of bytes items) ≡ None → at ≡ byte_of size (placed_of bytes items) (span_unit_stop size (placed_of bytes items)) → IsNoUnitAt bytes items at
  no_unit_at at e b =
      let n = unit_stop tokens in
      let exact = laws.stop tokens in
      let same : at ≡ stop_byte bytes items n = b ∙ ap (byte_of size (placed_of bytes items)) (laws.alike.unit_stops size (placed_of bytes items)) in
      record {
        none = no_unit e;
        tokens_read = n;
        exact = exact;
        item = item_of items n;
        place = subst (λ (a : ℕ). StandsAt bytes items n a (item_of items n)) (sym same) (laws.places bytes items n exact.within);
      }

  pub never_a_unit : span_unit_read size (placed_of bytes items) ≡ None → AreUnit tokens → ⊥
  never_a_unit e h = no_unit e h.0 h.1

-- ---- one answer

pub one_answer : OneMarkedTree → StopsHaveOnePlace → OneUnitReading → UnitIgnoresMarks Span Bare → OneAnswer
one_answer trees places stops marks = record {
  unit = λ bytes items a b h k. trees.unit (length bytes) (placed_of bytes items) a b h k;
  place = λ bytes items i j h k.
      let n : h.tokens_read ≡ k.tokens_read = stops.stop (tokens_of bytes items) h.tokens_read k.tokens_read h.exact k.exact in
      (places bytes items h.tokens_read i h.item h.exact.within h.place).0
      ∙ ap (λ (m : ℕ). stop_byte bytes items m) n
      ∙ sym (places bytes items k.tokens_read j k.item k.exact.within k.place).0;
  never_both = λ bytes items a at h k.
      let no : Span → Bare = (λ m. no_mark m) in
      k.none (bare_unit a) (record { shaped = (marks.shape no a).1 h.shaped; spells = marks.spelling no a ∙ h.spells });
}

-- ---- what code answers

module _ (laws : Laws) (bytes : List ℕ) (items : List Item) (result : Result (Unit Span) ParseFault) where
  abbrev Read : Type 0
  Read = IfOk result (λ unit. span_unit_read (length bytes) (placed_of bytes items) ≡ Some (unit_of unit))

  abbrev Unread : Type 0
  Unread = IfErr result (IsFault (IsUnread bytes items))

  pub read_answer : Read → IfOk result (λ unit. IsUnitOf bytes items (unit_of unit))
  read_answer h = go result h
    where
      go : (r : Result (Unit Span) ParseFault) → IfOk r (λ unit. span_unit_read (length bytes) (placed_of bytes items) ≡ Some (unit_of unit)) → IfOk r (λ unit. IsUnitOf bytes items (unit_of unit))
      go (Ok unit) h = is_unit laws bytes items (unit_of unit) h
      go (Err f) h = tt

  pub reads_answer : Lexes bytes items → Read → IfOk result (λ unit. Reads bytes (unit_of unit))
  reads_answer l h = go result h
    where
      go : (r : Result (Unit Span) ParseFault) → IfOk r (λ unit. span_unit_read (length bytes) (placed_of bytes items) ≡ Some (unit_of unit)) → IfOk r (λ unit. Reads bytes (unit_of unit))
      go (Ok unit) h = reads_unit laws bytes items l (unit_of unit) h
      go (Err f) h = tt

  pub unit_answer : Read → OnOk result (AreUnit (tokens_of bytes items))
  unit_answer h = go result h
    where
      go : (r : Result (Unit Span) ParseFault) → IfOk r (λ unit. span_unit_read (length bytes) (placed_of bytes items) ≡ Some (unit_of unit)) → OnOk r (AreUnit (tokens_of bytes items))
      go (Ok unit) h = are_unit laws bytes items (unit_of unit) h
      go (Err f) h = tt

  pub fault_answer : Unread → IfErr result (IsFault (IsNoUnitAt bytes items))
  fault_answer h = go result h
    where
      go : (r : Result (Unit Span) ParseFault) → IfErr r (IsFault (IsUnread bytes items)) → IfErr r (IsFault (IsNoUnitAt bytes items))
      go (Ok unit) h = tt
      go (Err (Syntax at)) h = no_unit_at laws bytes items at h.read h.byte
      go (Err Memory) h = tt

  pub only_read_answer : Unread → AreUnit (tokens_of bytes items) → IfErr result (λ fault. fault ≡ Memory)
  only_read_answer h u = go result h
    where
      go : (r : Result (Unit Span) ParseFault) → IfErr r (IsFault (IsUnread bytes items)) → IfErr r (λ fault. fault ≡ Memory)
      go (Ok unit) h = tt
      go (Err (Syntax at)) h = absurd (never_a_unit laws bytes items h.read u)
      go (Err Memory) h = refl

  pub only_fault_answer : Read → IsNoUnit (tokens_of bytes items) → IsErr result
  only_fault_answer h none = go result h
    where
      go : (r : Result (Unit Span) ParseFault) → IfOk r (λ unit. span_unit_read (length bytes) (placed_of bytes items) ≡ Some (unit_of unit)) → IsErr r
      go (Ok unit) h = absurd (some_unit laws bytes items (unit_of unit) h none)
      go (Err f) h = refl
