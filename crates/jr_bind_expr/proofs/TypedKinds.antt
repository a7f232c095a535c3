-- Types by kinds, where each class has a row.
use Rattle.std.proofs.Common.{◌≡◌, ℕ, List, Option, Some, None, refl, ap, ◌∙◌}
use Rattle.std.specs.Prelude.{Result, option_map, unwrap_or, length}
use Rattle.std.specs.Result.{IfOk}
use Rattle.jr_table.specs.declared.entries.Kind.{Kind}
use Rattle.jr_table.specs.declared.entries.Kind.TheVariants as kind
use Rattle.jr_table.specs.declared.types.Ty as raw
use Rattle.jr_table.specs.Keys.{ClassKey, Ty, int, boolean, void, null, class}
use Rattle.jr_table.specs.Decls.{class_decl}
use Rattle.jr_table.specs.Rows.{Row}
use Rattle.jr_table.specs.Entries.{class_number, kind_of}
use Rattle.jr_table.specs.Lookup.{decl_at}
use Rattle.jr_table.specs.TypeView.{ty_of}
use Rattle.jr_table.proofs.RowLaws.{number_stands}
use Rattle.jr_bind_expr.specs.Places.{IsRowed, IsRowedIf}

inside : {X : Type 0} (x y : X) → Some x ≡ Some y → x ≡ y
inside x y e = cc

module _ (rows : List Row) where
  pub record ClassAt (n : ℕ) (t : Ty) : Type 0 where
    pub key : ClassKey
    pub is : t ≡ class key
    pub there : decl_at rows n ≡ Some (class_decl key)

  pub class_kind : (n : ℕ) (t : Ty) → kind.Class n ≡ kind_of rows t → IsRowed rows t → ClassAt n t
  class_kind n int e r = absurd cc
  class_kind n boolean e r = absurd cc
  class_kind n void e r = absurd cc
  class_kind n null e r = absurd cc
  class_kind n (class k) e (j, is) =
      let same : n ≡ class_number rows k = cc in
      let number : class_number rows k ≡ j = ap (λ o. unwrap_or o (length rows)) is in
      let row = number_stands rows (class_decl k) j is in
      record { key = k; is = refl; there = ap (decl_at rows) (same ∙ number) ∙ ap (option_map (λ (r : Row). r.decl)) row.stands ∙ ap Some row.declares }

  pub typed_so : {E : Type 0} (o : Option Ty) (k : Kind) (r : Result (Option raw.Ty) E) → Some k ≡ option_map (kind_of rows) o → IsRowedIf rows o
      → ((t : Ty) → k ≡ kind_of rows t → IsRowed rows t → IfOk r (λ u. option_map ty_of u ≡ Some t)) → IfOk r (λ u. option_map ty_of u ≡ o)
  typed_so None k r e h f = absurd cc
  typed_so (Some t) k r e h f = f t (inside k (kind_of rows t) e) h
