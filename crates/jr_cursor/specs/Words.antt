-- The identifier that holds a byte, among the items of a text.
use Rattle.std.specs.Prelude.{◌≡◌, ℕ, ◌<◌, ◌≤◌, List, Some, slice_get}
use Rattle.jr_lex.specs.declared.items.Item.{Item}
use Rattle.jr_lex.specs.declared.items.ItemKind.TheVariants as item
use Rattle.jr_lex.specs.declared.items.TokenKind.TheVariants as token

abbrev pub Holds : Item → (at : ℕ) → Type 0
Holds x at = (x.kind ≡ item.Token token.Word) × (x.span.from ≤ at) × (at < x.span.to)

-- one of them, which begins there, holds the byte
abbrev pub IsHolder : List Item → (at from : ℕ) → Type 0
IsHolder items at from = (n : ℕ) × (x : Item) × (slice_get items n ≡ Some x) × Holds x at
    × (x.span.from ≡ from)
