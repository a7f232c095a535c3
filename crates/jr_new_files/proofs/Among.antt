-- Declarations that are all fields and methods of these names, walked one by one.
use Rattle.std.proofs.Common.{◌≡◌, ℕ, suc, ◌+◌, ◌<◌, ◌≤◌, List, ◌∷◌, length, get_or, drop, map, add-one, sym, ap, subst, ◌∙◌}
use Rattle.std.proofs.Math.Seq.{drop-cons}
use Rattle.std.proofs.lemmas.List.{drop_all}
use Rattle.std.specs.Prelude.{Option, Some, None, IfSome}
use Rattle.jr_table.specs.Rows.{Row}
use Rattle.jr_table.specs.Decls.{Decl}
use Rattle.jr_bind_expr.proofs.Steps.{left_is}
use Rattle.jr_mentions.specs.Apart.{AreApart}
use Rattle.jr_mentions.specs.ApartView.{names_in}
use Rattle.jr_mentions.specs.declared.names.Apart.{Apart}
use Rattle.jr_images.specs.Images.{Renaming, rows_to}
use Rattle.jr_new_files.specs.declared.unaffected.Unaffected as raw
use Rattle.jr_new_files.specs.Unaffected.{IsAmong, AreAmong, AreAvoidable, local_in, IsUnaffectedBy}

module _ {X : Type 0} (decl : X → Decl) (names : List (List ℕ)) (xs : List X) where
  -- if those that are left are of these names, so are all
  abbrev pub AllByLeft : (i : ℕ) → Type 0
  AllByLeft i = AreAmong names (map decl (drop i xs)) → AreAmong names (map decl xs)

  pub among_goes : (i : ℕ) (x : X) → i < length xs → x ≡ get_or xs i x → IsAmong names (decl x) → AllByLeft i → AllByLeft (i + 1)
  among_goes i x lt is here all = λ rest. all (subst (λ (ys : List X). AreAmong names (map decl ys)) (sym (left_is xs i x lt is)) (here, rest))

  pub among_ends : (i : ℕ) → length xs ≤ i → AllByLeft i → AreAmong names (map decl xs)
  among_ends i past all = all (subst (λ (ys : List X). AreAmong names (map decl ys)) (sym (drop_all i xs past)) tt)

-- where the names are those by which the rows differ
pub is_unaffected : (rows : List Row) (g : Renaming) (names : Apart) (ds : List Decl) → AreApart (names_in names) rows (rows_to g rows) → ds ≡ g.decls
    → (o : Option raw.Unaffected) → IfSome o (λ u. (u.names ≡ names) × AreAvoidable (names_in u.names) (local_in u) ds) → IfSome o (IsUnaffectedBy rows g)
is_unaffected rows g names ds apart are None h = tt
is_unaffected rows g names ds apart are (Some u) h = record {
  apart = subst (λ (a : Apart). AreApart (names_in a) rows (rows_to g rows)) (sym h.0) apart;
  avoidable = subst (λ (xs : List Decl). AreAvoidable (names_in u.names) (local_in u) xs) are h.1;
}
