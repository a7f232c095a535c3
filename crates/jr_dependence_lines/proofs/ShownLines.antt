-- What is shown where all was counted first, and kept only where it fits.
use Rattle.std.proofs.Common.{◌≡◌, ◌≤◌, ℕ, List, true, false, refl}
use Rattle.jr_text.specs.declared.spans.Span.{Span}
use Rattle.jr_lex.specs.declared.items.Item.{Item}
use Rattle.jr_table.specs.Rows.{Row}
use Rattle.jr_members.specs.WrittenMembers.{WrittenMember}
use Rattle.jr_dependence_lines.specs.declared.file_lines.Shown.{Shown}
use Rattle.jr_dependence_lines.specs.declared.file_lines.Shown.TheVariants as shows
use Rattle.jr_dependence_lines.specs.Tallies.{IsTold, IsShown, HasLen}

module _ (rows : List Row) (items : List Item) (before most : ℕ) (ws : List (WrittenMember Span)) where
  pub told_shown : (s : Shown) → IsTold rows items before (true ≡ true) ws s → IsShown rows items before most ws s
  told_shown (shows.TooManySites member count) h = h
  told_shown (shows.Lines texts len) h = (h.0, h.1, h.2, λ le. h.3 refl)

  pub counted_shown : (s : Shown) → IsTold rows items before (false ≡ true) ws s → ((n : ℕ) → HasLen s n → n ≤ most → ⊥) → IsShown rows items before most ws s
  counted_shown (shows.TooManySites member count) h large = h
  counted_shown (shows.Lines texts len) h large = (h.0, h.1, h.2, λ le. absurd (large len refl le))
