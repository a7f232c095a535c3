-- Images of keys and rows under a renaming: what they are of, and what keeps its name.
use Rattle.std.proofs.Common.{◌≡◌, ℕ, List, [], ◌∷◌, Option, Some, None, false, refl, sym, ap, ◌∙◌}
use Rattle.std.specs.Prelude.{if◌then◌else◌, slice_get, option_map}
use Rattle.std.proofs.lemmas.Option.{slice_get-map}
use Rattle.jr_table.specs.declared.entries.Entry.{Entry}
use Rattle.jr_table.specs.Keys.{ClassKey, Ty, int, boolean, void, null, class}
use Rattle.jr_table.specs.Decls.{MemberKey, head, field, method, constructor, Decl, class_decl, field_decl, method_decl, constructor_decl, local_decl}
use Rattle.jr_table.specs.Rows.{Row}
use Rattle.jr_table.specs.Prelude.{top_key}
use Rattle.jr_table.specs.Entries.{IsRowOf, class_of_member, class_of, params_of, sort_of, entry_of, entries_of}
use Rattle.jr_table.proofs.RowLaws.{entry_at}
use Rattle.jr_images.specs.Images.{Renaming, is_renamed, name_to, outer_to, class_to, type_to, types_to, member_to, decl_to, row_to, rows_to}
use Rattle.jr_images.proofs.Imaging.{map_some}

pub keeps_name : (g : Renaming) (d : Decl) (old : List ℕ) → is_renamed g d ≡ false → name_to g d old ≡ old
keeps_name g d old h = ap (λ b. if b then g.name else old) h

module _ (g : Renaming) where
  -- ---- the parts of an image

  pub member_class_to : (k : MemberKey) → class_of_member (member_to g k) ≡ class_to g (class_of_member k)
  member_class_to (head k) = refl
  member_class_to (field k) = refl
  member_class_to (method k) = refl
  member_class_to (constructor k) = refl

  pub decl_class_to : (d : Decl) → class_of (decl_to g d) ≡ class_to g (class_of d)
  decl_class_to (class_decl k) = refl
  decl_class_to (field_decl k) = refl
  decl_class_to (method_decl k) = refl
  decl_class_to (constructor_decl k) = refl
  decl_class_to (local_decl k) = member_class_to k.member

  pub params_to : (d : Decl) → params_of (decl_to g d) ≡ types_to g (params_of d)
  params_to (class_decl k) = refl
  params_to (field_decl k) = refl
  params_to (method_decl k) = refl
  params_to (constructor_decl k) = refl
  params_to (local_decl k) = refl

  pub sort_to : (d : Decl) → sort_of (decl_to g d) ≡ sort_of d
  sort_to (class_decl k) = refl
  sort_to (field_decl k) = refl
  sort_to (method_decl k) = refl
  sort_to (constructor_decl k) = refl
  sort_to (local_decl k) = refl

  -- ---- rows and their entries

  module _ (rows : List Row) where
    abbrev pub new_entry : Row → Entry
    new_entry r = entry_of (rows_to g rows) (row_to g r)

    map_twice : (o : Option Row) → option_map (entry_of (rows_to g rows)) (option_map (row_to g) o) ≡ option_map new_entry o
    map_twice None = refl
    map_twice (Some r) = refl

    pub at_new : (j : ℕ) → slice_get (entries_of (rows_to g rows)) j ≡ option_map new_entry (slice_get rows j)
    at_new j = entry_at (rows_to g rows) j ∙ ap (option_map (entry_of (rows_to g rows))) (slice_get-map (row_to g) rows j) ∙ map_twice (slice_get rows j)

    -- the old row of a new one
    pub old_row : (d : Decl) (i : ℕ) → IsRowOf (rows_to g rows) d i → (r : Row) × (slice_get rows i ≡ Some r) × (decl_to g r.decl ≡ d)
    old_row d i is =
        let r = map_some (row_to g) (slice_get rows i) is.row (sym (slice_get-map (row_to g) rows i) ∙ is.stands) in
        (r.0, r.1, ap (λ (z : Row). z.decl) r.2 ∙ is.declares)

-- ---- where no class is renamed

module _ (g : Renaming) (unnamed : (k : ClassKey) → is_renamed g (class_decl k) ≡ false) where
  outer_same : (o : Option (List ℕ)) → outer_to g o ≡ o
  outer_same None = refl
  outer_same (Some name) = ap (λ (n : List ℕ). Some n) (keeps_name g (class_decl (top_key name)) name (unnamed (top_key name)))

  pub class_same : (k : ClassKey) → class_to g k ≡ k
  class_same k = λ i. record { outer = outer_same k.outer i; name = keeps_name g (class_decl k) k.name (unnamed k) i }

  pub type_same : (t : Ty) → type_to g t ≡ t
  type_same int = refl
  type_same boolean = refl
  type_same void = refl
  type_same null = refl
  type_same (class k) = ap class (class_same k)

  pub types_same : (ts : List Ty) → types_to g ts ≡ ts
  types_same [] = refl
  types_same (t ∷ ts) = λ i. type_same t i ∷ types_same ts i
