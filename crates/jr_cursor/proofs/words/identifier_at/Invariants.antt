use Rattle.std.proofs.Common.{◌≡◌, ℕ, ◌<◌, Some}
use Rattle.std.specs.Prelude.{slice_get}
use Rattle.jr_lex.specs.declared.items.Item.{Item}
use Rattle.jr_cursor.specs.Words.{Holds}
use Rattle.jr_cursor.proofs.words.identifier_at.Given as goal

-- none of those so far holds the byte
abbrev pub invariant-loop-item : goal.invariant-loop-item
invariant-loop-item l = (n : ℕ) (x : Item) → n < l.item-index → slice_get l.items n ≡ Some x → Holds x l.at → ⊥
