-- A top-level class by its name.
use Rattle.std.proofs.Common.{◌≡◌, ℕ, List, Some, None, refl, sym, ◌∙◌, inl, inr}
use Rattle.jr_table.specs.Rows.{Row}
use Rattle.jr_table.specs.Entries.{number_of, top_class}
use Rattle.jr_table.specs.Conditions.{AreRows}
use Rattle.jr_table.specs.Found.{Found, one, nothing}
use Rattle.jr_table.specs.HeadRules.{TopFinds}
use Rattle.jr_new_words.proofs.Parents.{row_stands, the_number}

pub top_one : (rows : List Row) (name : List ℕ) (a b : Found) → TopFinds rows name a → TopFinds rows name b → a ≡ b
top_one rows name a b (inl (j, row, is)) (inl (k, other, also)) = is ∙ sym also
top_one rows name a b (inl (j, row, is)) (inr (never, also)) = absurd (never j row)
top_one rows name a b (inr (never, is)) (inl (k, other, also)) = absurd (never k other)
top_one rows name a b (inr (never, is)) (inr (none, also)) = is ∙ sym also

pub no_top : (rows : List Row) → AreRows rows → (name : List ℕ) → None ≡ number_of rows (top_class name) → TopFinds rows name nothing
no_top rows are name none = inr ((λ j row. let e : None ≡ Some j = none ∙ the_number rows are (top_class name) j row in cc), refl)

pub a_top : (rows : List Row) (name : List ℕ) (j : ℕ) → Some j ≡ number_of rows (top_class name) → TopFinds rows name (one (top_class name))
a_top rows name j is = inl (j, row_stands rows (top_class name) j (sym is), refl)
