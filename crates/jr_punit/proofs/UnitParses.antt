-- The way through a text by the machine for units.
use Rattle.std.proofs.Common.{◌≡◌, ℕ, ◌<◌, ◌≤◌, List, [], length, drop, get_or, Option, Some, None, refl, sym, ap, subst, ◌∙◌, arith}
use Rattle.std.proofs.lemmas.List.{drop_all}
use Rattle.std.specs.Prelude.{option_and_then}
use Rattle.jr_text.specs.declared.spans.Span.{Span}
use Rattle.jr_lex.specs.declared.items.Item.{Item}
use Rattle.jr_ast.specs.MemberTree.{Unit as UnitTree}
use Rattle.jr_grammar.specs.Tokens.{Token, token_of, placed_of}
use Rattle.jr_pexpr.specs.ExpView.{placed}
use Rattle.jr_punit_laws.specs.Marked.{span_unit_step, span_unit_whole, span_unit_read, span_unit_stop}
use Rattle.jr_punit_laws.specs.StopPlaces.{byte_of}
use Rattle.jr_punit_laws.specs.UnitMachine.{State, start}
use Rattle.jr_punit.proofs.UnitWalks as W

-- what is read from item i on
abbrev pub read_on : List ℕ → List Item → State Span → ℕ → Option (State Span)
read_on bytes items s i = W.run_from (State Span) (UnitTree Span) span_unit_step (span_unit_whole (length bytes)) bytes items s i

-- and the byte where reading stops
abbrev pub byte_on : List ℕ → List Item → State Span → ℕ → ℕ
byte_on bytes items s i = W.byte_from (State Span) (UnitTree Span) span_unit_step (span_unit_whole (length bytes)) bytes items (length bytes) s i

abbrev pub Goes : List ℕ → List Item → ℕ → State Span → State Span → Type 0
Goes bytes items i s n = W.GoesOn (State Span) (UnitTree Span) span_unit_step (span_unit_whole (length bytes)) bytes items i s (length bytes) n

abbrev pub Stops : List ℕ → List Item → ℕ → State Span → Type 0
Stops bytes items i s = W.Halts (State Span) (UnitTree Span) span_unit_step (span_unit_whole (length bytes)) bytes items i s (length bytes)

abbrev pub item_at : List Item → ℕ → Item
item_at items i = get_or items i W.no_item

pub goes : (bytes : List ℕ) (items : List Item) (i : ℕ) (s : State Span) (t : Token) (n : State Span) → i < length items → token_of bytes (item_at items i).span (item_at items i).kind ≡ Some t
    → span_unit_step s (placed (item_at items i).span t) ≡ Some n → Goes bytes items i s n
goes bytes items i s t n = W.by_token (State Span) (UnitTree Span) span_unit_step (span_unit_whole (length bytes)) bytes items i s (length bytes) t n

pub skips : (bytes : List ℕ) (items : List Item) (i : ℕ) (s : State Span) → i < length items → token_of bytes (item_at items i).span (item_at items i).kind ≡ None → Goes bytes items i s s
skips bytes items i s = W.by_blank (State Span) (UnitTree Span) span_unit_step (span_unit_whole (length bytes)) bytes items i s (length bytes)

pub stops : (bytes : List ℕ) (items : List Item) (i : ℕ) (s : State Span) (t : Token) → i < length items → token_of bytes (item_at items i).span (item_at items i).kind ≡ Some t
    → span_unit_step s (placed (item_at items i).span t) ≡ None → Stops bytes items i s
stops bytes items i s t = W.by_halt (State Span) (UnitTree Span) span_unit_step (span_unit_whole (length bytes)) bytes items i s (length bytes) t

-- ---- at the end

pub read_whole : (bytes : List ℕ) (items : List Item) (i : ℕ) (s : State Span) → length items ≤ i → read_on bytes items s i ≡ read_on bytes items start 0 → span_unit_read (length bytes) (placed_of bytes items) ≡ span_unit_whole (length bytes) s
read_whole bytes items i s h e =
    let all : read_on bytes items s i ≡ Some s = let none = drop_all i items h in rw none refl in
    ap (option_and_then (span_unit_whole (length bytes))) (sym e ∙ all)

pub byte_whole : (bytes : List ℕ) (items : List Item) (i : ℕ) (s : State Span) → length items ≤ i → byte_on bytes items s i ≡ byte_on bytes items start 0 → length bytes ≡ byte_of (length bytes) (placed_of bytes items) (span_unit_stop (length bytes) (placed_of bytes items))
byte_whole bytes items i s h e =
    let all : byte_on bytes items s i ≡ length bytes = let none = drop_all i items h in rw none refl in
    sym all ∙ e

pub read_none : (bytes : List ℕ) (items : List Item) (i : ℕ) (s : State Span) → Stops bytes items i s → read_on bytes items s i ≡ read_on bytes items start 0 → span_unit_read (length bytes) (placed_of bytes items) ≡ None
read_none bytes items i s h e = ap (option_and_then (span_unit_whole (length bytes))) (sym e ∙ h.read)
