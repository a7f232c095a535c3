-- Where a stop stands in a text: its byte and its item.
use Rattle.std.specs.Prelude.{
  ◌≡◌,
  ℕ,
  zero,
  suc,
  ◌≤◌,
  List,
  [],
  ◌∷◌,
  length,
  take,
  slice_get,
  MatchOption,
}
use Rattle.jr_lex.specs.declared.items.ItemKind.{ItemKind}
use Rattle.jr_lex.specs.declared.items.ItemKind.TheVariants.{Token as TokenItem, Blank, Comment}
use Rattle.jr_lex.specs.declared.items.Item.{Item}
use Rattle.jr_grammar.specs.Tokens.{tokens_of, placed_of}
use Rattle.jr_grammar.specs.Stands.{Tokens}

-- ---- what is meant

abbrev pub IsTokenItem : ItemKind → Type 0
IsTokenItem (TokenItem k) = Unit {0}
IsTokenItem Blank = ⊥
IsTokenItem Comment = ⊥

-- In front of the item numbered k stand the text's first n tokens. The item is a token, and begins
-- at the byte; or there is none, and the byte is the text's length.
pub record StandsAt (bytes : List ℕ) (items : List Item) (n byte k : ℕ) : Type 0 where
  pub within : k ≤ length items
  pub before : tokens_of bytes (take k items) ≡ take n (tokens_of bytes items)
  pub there : MatchOption (slice_get items k) (byte ≡ length bytes) (λ i. IsTokenItem i.kind
      × (i.span.from ≡ byte))

-- ---- how it is found

-- the first byte of the token numbered n, or the text's length
abbrev pub byte_of : ℕ → Tokens → ℕ → ℕ
byte_of size [] n = size
byte_of size (p ∷ ps) zero = p.mark.from
byte_of size (p ∷ ps) (suc n) = byte_of size ps n

abbrev pub item_behind : ItemKind → (ℕ → ℕ) → ℕ → ℕ
item_behind (TokenItem k) next zero = zero
item_behind (TokenItem k) next (suc n) = suc (next n)
item_behind Blank next n = suc (next n)
item_behind Comment next n = suc (next n)

-- the number of the item that is the token numbered n, or how many items there are
abbrev pub item_of : List Item → ℕ → ℕ
item_of [] n = zero
item_of (i ∷ is) n = item_behind i.kind (item_of is) n

abbrev pub stop_byte : List ℕ → List Item → ℕ → ℕ
stop_byte bytes items n = byte_of (length bytes) (placed_of bytes items) n

-- ---- laws

-- each number of tokens, up to all of them, has its place
abbrev pub StopsHavePlaces : Type 0
StopsHavePlaces = (bytes : List ℕ) (items : List Item) (n : ℕ) →
    n ≤ length (tokens_of bytes items) →
    StandsAt bytes items n (stop_byte bytes items n) (item_of items n)

-- and no other
abbrev pub StopsHaveOnePlace : Type 0
StopsHaveOnePlace = (bytes : List ℕ) (items : List Item) (n byte k : ℕ) →
    n ≤ length (tokens_of bytes items) → StandsAt bytes items n byte k
    → (byte ≡ stop_byte bytes items n) × (k ≡ item_of items n)
