use Rattle.std.proofs.Common.{◌∷◌, [], map, subst, ℕ, List}
use Rattle.std.specs.Prelude.{IfSome, IfNone}
use Rattle.jr_table.specs.RowView.{row_of}
use Rattle.jr_mentions.specs.Apart.{AreApart}
use Rattle.jr_mentions.specs.ApartView.{names_in}
use Rattle.jr_mentions.proofs.rows.apart.Goals as goal

pub returns : goal.returns
returns c = record {
  some =
      subst (λ xs. IfSome c.rows_apart.result (λ a. AreApart (names_in a) xs c.args.after.now)) c.rows.ensures
      (subst (λ ys. IfSome c.rows_apart.result (λ a. AreApart (names_in a) (map row_of c.rows.result.now) ys)) c.rows-2.ensures c.rows_apart.ensures.some);
  none =
      subst (λ xs. IfNone c.rows_apart.result ((old new : List ℕ) → AreApart (old ∷ new ∷ []) xs c.args.after.now → ⊥)) c.rows.ensures
      (subst (λ ys. IfNone c.rows_apart.result ((old new : List ℕ) → AreApart (old ∷ new ∷ []) (map row_of c.rows.result.now) ys → ⊥)) c.rows-2.ensures c.rows_apart.ensures.none);
}
