-- Rows of bits: each row has `width` words of 64 bits, and they stand one behind the other.
use Rattle.std.specs.Prelude.{
  ◌≡◌,
  ◌⊎◌,
  ℕ,
  ◌+◌,
  ◌-◌,
  ◌*◌,
  ◌/◌,
  ◌%◌,
  ◌^◌,
  ◌<◌,
  Bool,
  true,
  false,
  List,
  slice_index,
  slice_set,
  bit_or,
  sum_by,
}
use Rattle.std.specs.Int.{bit_at}

-- how many words have a bit for each number below the size
abbrev pub width_of : (size : ℕ) → ℕ
width_of size = (size + 63) / 64

-- The row has the bit for the column.
unfoldable pub Has : (words : List ℕ) (width row column : ℕ) → Type 0
Has words width row column =
    bit_at (slice_index words (row * width + column / 64)) (column % 64) ≡ 1

-- with these bits more in one word
abbrev pub added : (words : List ℕ) (place bits : ℕ) → List ℕ
added words place bits = slice_set words place (bit_or (slice_index words place) bits)

-- One bit more is set.
pub record Puts (width row column : ℕ) (old new : List ℕ) : Type 0 where
  pub has : Has new width row column
  pub kept : (a c : ℕ) → Has old width a c → Has new width a c
  pub only : (a c : ℕ) → c / 64 < width → Has new width a c
      → Has old width a c ⊎ ((a ≡ row) × (c ≡ column))

-- The first words of one row have got the bits that those of another have.
pub record Merges (width from to count : ℕ) (old new : List ℕ) : Type 0 where
  pub has : (c : ℕ) → c / 64 < count → Has old width from c → Has new width to c
  pub kept : (a c : ℕ) → Has old width a c → Has new width a c
  pub only : (a c : ℕ) → c / 64 < width → Has new width a c
      → Has old width a c ⊎ ((a ≡ to) × Has old width from c)

-- how far words are from having all bits
unfoldable pub room : List ℕ → ℕ
room words = sum_by (λ word. 2 ^ 64 - word) words

-- Words have changed, and then they have less room; or they are the same.
pub record Moves (old new : List ℕ) (changed : Bool) : Type 0 where
  pub same : changed ≡ false → new ≡ old
  pub less : changed ≡ true → room new < room old
