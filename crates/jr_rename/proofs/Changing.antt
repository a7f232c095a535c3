-- Declarations that become others, gathered row by row.
use Rattle.std.proofs.Common.{◌≡◌, ℕ, suc, ◌+◌, ◌<◌, List, [], ◌∷◌, ◌++◌, Some, length, get_or, take, refl, sym, ap, ◌∙◌, inl, inr, arith}
use Rattle.std.proofs.Math.Seq.{take-suc}
use Rattle.std.specs.Prelude.{map, filter, not, slice_get, option_map}
use Rattle.std.proofs.lemmas.Bool.{cases_Bool}
use Rattle.std.proofs.lemmas.List.{map-append, length-map}
use Rattle.std.proofs.lemmas.List.Elements.{filter-append}
use Rattle.std.proofs.lemmas.Option.{slice_get-map, slice_get-get_or, get_or_from_slice_get}
use Rattle.jr_table.specs.declared.rows.Row as raw_row
use Rattle.jr_table.specs.declared.decls.Decl as raw
use Rattle.jr_table.specs.Decls.{Decl}
use Rattle.jr_table.specs.SameDecls.{same_decl}
use Rattle.jr_table.specs.KeyView.{decl_of}
use Rattle.jr_table.specs.RowView.{row_of}
use Rattle.jr_table.specs.Rows.{Row}
use Rattle.jr_images.specs.Images.{Renaming, decl_to, row_to, rows_to}
use Rattle.jr_images.specs.Renames.{pairs_of}
use Rattle.jr_rename.specs.Pairs.{pairs_view, changed}

-- ---- one

pub pushed : (ps now : List (raw.Decl × raw.Decl)) (old new : raw.Decl) → now ≡ ps ++ (old, new) ∷ [] → pairs_view now ≡ pairs_view ps ++ (decl_of old, decl_of new) ∷ []
pushed ps now old new e = ap pairs_view e ∙ map-append (λ (p : raw.Decl × raw.Decl). (decl_of p.0, decl_of p.1)) ps ((old, new) ∷ [])

-- the same of copies
pub both : (ps now : List (Decl × Decl)) (a b c d : Decl) → now ≡ ps ++ (a, b) ∷ [] → a ≡ c → b ≡ d → now ≡ ps ++ (c, d) ∷ []
both ps now a b c d e f s = e ∙ (λ k. ps ++ (f k, s k) ∷ [])

-- ---- those of so many rows

some_same : (x y : Row) → Some x ≡ Some y → x ≡ y
some_same x y e = cc

module _ (g : Renaming) where
  one_pair : (r : Row) → pairs_of (r ∷ []) g ≡ changed r.decl (decl_to g r.decl)
  one_pair r =
      elim (cases_Bool (same_decl r.decl (decl_to g r.decl))) [
        | inl e ↦ rw e refl
        | inr e ↦ rw e refl
      ]

  pairs_join : (some more : List Row) → pairs_of (some ++ more) g ≡ pairs_of some g ++ pairs_of more g
  pairs_join some more =
      ap (λ (rs : List Row). map (λ (r : Row). (r.decl, decl_to g r.decl)) rs) (filter-append (λ (r : Row). not (same_decl r.decl (decl_to g r.decl))) some more)
      ∙ map-append (λ (r : Row). (r.decl, decl_to g r.decl)) (filter (λ (r : Row). not (same_decl r.decl (decl_to g r.decl))) some) (filter (λ (r : Row). not (same_decl r.decl (decl_to g r.decl))) more)

  pairs_next : (rows : List Row) (n : ℕ) (r : Row) → n < length rows → slice_get rows n ≡ Some r → pairs_of (take (n + 1) rows) g ≡ pairs_of (take n rows) g ++ changed r.decl (decl_to g r.decl)
  pairs_next rows n r inside at =
      ap (λ k. pairs_of (take k rows) g) (let h : n + 1 ≡ suc n = omega arith in h)
      ∙ ap (λ (rs : List Row). pairs_of rs g) (take-suc rows n r inside ∙ ap (λ (x : Row). take n rows ++ x ∷ []) (get_or_from_slice_get rows n r r at))
      ∙ pairs_join (take n rows) (r ∷ [])
      ∙ ap (λ (ps : List (Decl × Decl)). pairs_of (take n rows) g ++ ps) (one_pair r)

  module _ (rows : List Row) (before after : List raw_row.Row) (are : map row_of before ≡ rows) (images : map row_of after ≡ rows_to g rows) where
    pub as_many : length after ≡ length before
    as_many = sym (length-map after row_of) ∙ ap length images ∙ length-map rows (row_to g) ∙ sym (ap length are) ∙ length-map before row_of

    row_at : (n : ℕ) (d : raw_row.Row) → n < length before → slice_get rows n ≡ Some (row_of (get_or before n d))
    row_at n d inside = ap (λ (rs : List Row). slice_get rs n) (sym are) ∙ slice_get-map row_of before n ∙ ap (option_map row_of) (slice_get-get_or before n d inside)

    image_at : (n : ℕ) (d f : raw_row.Row) → n < length before → decl_of (get_or after n f).decl ≡ decl_to g (decl_of (get_or before n d).decl)
    image_at n d f inside =
        let there : slice_get (rows_to g rows) n ≡ Some (row_of (get_or after n f)) =
        ap (λ (rs : List Row). slice_get rs n) (sym images) ∙ slice_get-map row_of after n ∙ ap (option_map row_of) (slice_get-get_or after n f (omega (arith, inside, as_many))) in
        let same : row_of (get_or after n f) ≡ row_to g (row_of (get_or before n d)) =
        some_same (row_of (get_or after n f)) (row_to g (row_of (get_or before n d))) (sym there ∙ slice_get-map (row_to g) rows n ∙ ap (option_map (row_to g)) (row_at n d inside)) in
        ap (λ (r : Row). r.decl) same

    pub next : (n : ℕ) (d f : raw_row.Row) (ps now : List (Decl × Decl)) → n < length before → ps ≡ pairs_of (take n rows) g → now ≡ ps ++ changed (decl_of (get_or before n d).decl) (decl_of (get_or after n f).decl) → now ≡ pairs_of (take (n + 1) rows) g
    next n d f ps now inside so e =
        e
        ∙ (λ k. so k ++ changed (decl_of (get_or before n d).decl) (image_at n d f inside k))
        ∙ sym (pairs_next rows n (row_of (get_or before n d)) (omega (arith, inside, sym (length-map before row_of) ∙ ap length are)) (row_at n d inside))
