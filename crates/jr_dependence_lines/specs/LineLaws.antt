-- Laws of the lines of written members, as statements.
use Rattle.std.specs.Prelude.{◌≡◌, ℕ, List}
use Rattle.jr_text.specs.declared.spans.Span.{Span}
use Rattle.jr_lex.specs.declared.items.Item.{Item}
use Rattle.jr_table.specs.Decls.{MemberKey}
use Rattle.jr_table.specs.Rows.{Row}
use Rattle.jr_members.specs.WrittenMembers.{WrittenMember}
use Rattle.jr_dependence_lines.specs.Lines.{Line}
use Rattle.jr_dependence_lines.specs.MemberLines.{HaveLines, IsFirstLarge}

-- members have one list of lines
abbrev pub LinesAreOne : Type 0
LinesAreOne = (rows : List Row) (items : List Item) (ws : List (WrittenMember Span))
    (xs ys : List Line) → HaveLines rows items ws xs → HaveLines rows items ws ys → xs ≡ ys

-- or one first member with too many sites, with its number of sites
abbrev pub LargeIsOne : Type 0
LargeIsOne = (rows : List Row) (items : List Item) (ws : List (WrittenMember Span))
    (k l : MemberKey) (m n : ℕ) → IsFirstLarge rows items ws k m → IsFirstLarge rows items ws l n
    → (k ≡ l) × (m ≡ n)

-- and never both
abbrev pub NeverBoth : Type 0
NeverBoth = (rows : List Row) (items : List Item) (ws : List (WrittenMember Span))
    (lines : List Line) (k : MemberKey) (n : ℕ) → HaveLines rows items ws lines
    → IsFirstLarge rows items ws k n → ⊥
