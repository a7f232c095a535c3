-- One item of the way through a text, by any machine.
use Rattle.std.proofs.Common.{◌≡◌, ℕ, suc, ◌+◌, ◌<◌, ◌≤◌, List, [], ◌∷◌, ◌++◌, length, take, drop, get_or, Option, Some, None, refl, sym, ap, subst, ◌∙◌, add-one, arith}
use Rattle.std.proofs.Math.Seq.{drop-cons}
use Rattle.std.proofs.lemmas.List.{take-append-drop}
use Rattle.jr_text.specs.declared.spans.Span.{Span}
use Rattle.jr_lex.specs.declared.items.Item.{Item}
use Rattle.jr_lex.specs.declared.items.ItemKind.TheVariants.{Token as TokenItem}
use Rattle.jr_lex.specs.declared.items.TokenKind.TheVariants.{Word}
use Rattle.jr_lex.specs.Lexes.{Lexes}
use Rattle.jr_lex.specs.Places.{IsPlaced, ItemsPlaced}
use Rattle.jr_grammar.specs.Tokens.{Token, Placed, token_of, placed_of}
use Rattle.jr_pexpr.specs.ExpView.{placed}
use Rattle.jr_pexpr.specs.Runs as Runs
use Rattle.jr_punit_laws.specs.StopPlaces.{byte_of}

-- what stands for the item behind the last
abbrev pub no_item : Item
no_item = record { kind = TokenItem Word; span = record { from = 0; to = 0 } }

drop_at : (items : List Item) (i : ℕ) → i < length items → drop i items ≡ get_or items i no_item ∷ drop (i + 1) items
drop_at items i h = rw add-one (drop-cons items i no_item h)

pub placed_at : (bytes : List ℕ) (items : List Item) (i : ℕ) → ItemsPlaced → Lexes bytes items → i < length items → IsPlaced bytes (get_or items i no_item)
placed_at bytes items i p l h =
    let split : items ≡ take i items ++ get_or items i no_item ∷ drop (i + 1) items =
    sym (take-append-drop i items) ∙ ap (λ (is : List Item). take i items ++ is) (drop_at items i h) in
    (p bytes (take i items) (get_or items i no_item) (drop (i + 1) items) (subst (Lexes bytes) split l)).0

module _ (S T : Type 0) (step : S → Placed Span → Option S) (whole : S → Option T) (bytes : List ℕ) (items : List Item) where
  -- what is read from item i on
  abbrev pub run_from : S → ℕ → Option S
  run_from s i = Runs.run S (Placed Span) T step whole s (placed_of bytes (drop i items))

  -- and the byte where reading stops
  abbrev pub byte_from : ℕ → S → ℕ → ℕ
  byte_from size s i = byte_of size (placed_of bytes (drop i items)) (Runs.stop_of S (Placed Span) T step whole s (placed_of bytes (drop i items)))

  module _ (i : ℕ) (s : S) where
    abbrev item : Item
    item = get_or items i no_item

    -- with the item at i the way goes on in another state
    pub record GoesOn (size : ℕ) (n : S) : Type 0 where
      pub read : run_from n (i + 1) ≡ run_from s i
      pub byte : byte_from size n (i + 1) ≡ byte_from size s i

    -- or stops there
    pub record Halts (size : ℕ) : Type 0 where
      pub read : run_from s i ≡ None
      pub byte : item.span.from ≡ byte_from size s i

    pub by_token : (size : ℕ) (t : Token) (n : S) → i < length items → token_of bytes item.span item.kind ≡ Some t → step s (placed item.span t) ≡ Some n → GoesOn size n
    by_token size t n h e f =
        let at = drop_at items i h in
        record {
          read = rw (at, e, f) refl;
          byte = rw (at, e, f) refl;
        }

    pub by_blank : (size : ℕ) → i < length items → token_of bytes item.span item.kind ≡ None → GoesOn size s
    by_blank size h e =
        let at = drop_at items i h in
        record {
          read = rw (at, e) refl;
          byte = rw (at, e) refl;
        }

    pub by_halt : (size : ℕ) (t : Token) → i < length items → token_of bytes item.span item.kind ≡ Some t → step s (placed item.span t) ≡ None → Halts size
    by_halt size t h e f =
        let at = drop_at items i h in
        record {
          read = rw (at, e, f) refl;
          byte = rw (at, e, f) refl;
        }
