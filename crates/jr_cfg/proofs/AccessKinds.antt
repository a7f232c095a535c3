-- The kind of a field's accesses, by the words of its row.
use Rattle.std.proofs.Common.{◌≡◌, List, true, false, Option, Some, None, refl, sym, ap, ◌∙◌}
use Rattle.std.specs.Prelude.{option_map, unwrap_or}
use Rattle.std.specs.List.{list_any}
use Rattle.jr_ast.specs.declared.operators.ModWord.{ModWord}
use Rattle.jr_sync.specs.declared.kinds.Kind.{Kind}
use Rattle.jr_sync.specs.declared.kinds.Kind.TheVariants.{Load, Store, VolatileLoad, VolatileStore, Still}
use Rattle.jr_runs.specs.Actions.{FieldKind, plain, volatile, final}
use Rattle.jr_runs.specs.Reordering.{load_kind, store_kind}
use Rattle.jr_code.specs.RunRows.{kind_of_words, kind_by, is_volatile_word}
use Rattle.jr_table.specs.Context.{is_final_word}
use Rattle.jr_table.specs.Keys.{FieldKey}
use Rattle.jr_table.specs.Rows.{Row}
use Rattle.jr_expr_sites.specs.Meanings.{field_kind, row_of}
use Rattle.jr_cfg.specs.Placed.{by_kind}

pub loads_by : (k : FieldKind) → by_kind Load VolatileLoad k ≡ load_kind k
loads_by plain = refl
loads_by volatile = refl
loads_by final = refl

pub stores_by : (k : FieldKind) → by_kind Store VolatileStore k ≡ store_kind k
stores_by plain = refl
stores_by volatile = refl
stores_by final = refl

module _ (rows : List Row) (k : FieldKey) (w : Option (List ModWord)) (is : w ≡ option_map (λ (r : Row). r.modifiers) (row_of rows k)) where
  kind_told : unwrap_or (option_map kind_of_words w) plain ≡ field_kind rows k
  kind_told = ap (λ o. unwrap_or (option_map kind_of_words o) plain) is ∙ by (row_of rows k)
    where
      by : (o : Option Row) → unwrap_or (option_map kind_of_words (option_map (λ (r : Row). r.modifiers) o)) plain ≡ unwrap_or (option_map (λ (r : Row). kind_of_words r.modifiers) o) plain
      by None = refl
      by (Some r) = refl

  pub told : (p v x : Kind) → x ≡ by_kind p v (unwrap_or (option_map kind_of_words w) plain) → x ≡ by_kind p v (field_kind rows k)
  told p v x e = e ∙ ap (by_kind p v) kind_told

module _ (p v : Kind) (ws : List ModWord) where
  pub by_final : list_any is_final_word ws ≡ true → Still ≡ by_kind p v (kind_of_words ws)
  by_final f = sym (ap (λ b. by_kind p v (kind_by b (list_any is_volatile_word ws))) f)

  pub by_volatile : list_any is_final_word ws ≡ false → list_any is_volatile_word ws ≡ true → v ≡ by_kind p v (kind_of_words ws)
  by_volatile f h = sym (λ i. by_kind p v (kind_by (f i) (h i)))

  pub by_plain : list_any is_final_word ws ≡ false → list_any is_volatile_word ws ≡ false → p ≡ by_kind p v (kind_of_words ws)
  by_plain f h = sym (λ i. by_kind p v (kind_by (f i) (h i)))
