-- Methods are connected by overriding exactly where their images are: one overrides another where a call of that one is dispatched to it on its own class, and dispatch is kept.
use Rattle.std.proofs.Common.{◌≡◌, ◌≢◌, ℕ, List, [], ◌∷◌, Some, refl, sym, ap, subst, ◌∙◌, inl, inr}
use Rattle.std.specs.Prelude.{◌⊎◌, slice_get}
use Rattle.std.proofs.lemmas.Option.{slice_get-map}
use Rattle.jr_table.specs.declared.entries.Entry.{Entry}
use Rattle.jr_table.specs.declared.entries.Kind.{Kind}
use Rattle.jr_table.specs.Keys.{ClassKey, MethodKey}
use Rattle.jr_table.specs.Decls.{Decl, class_decl, field_decl, method_decl, constructor_decl, local_decl}
use Rattle.jr_table.specs.Rows.{Row}
use Rattle.jr_table.specs.Entries.{IsRowOf, class_of, entries_of}
use Rattle.jr_table.specs.Conditions.{AreRows, as_declarer}
use Rattle.jr_table.specs.Chains.{IsChain, IsAcyclic, IsSubclassAt}
use Rattle.jr_table.specs.Looking.{is_virtual, nearest}
use Rattle.jr_table.specs.Members.{DeclaresVirtual, OverridesAt}
use Rattle.jr_table.specs.Keyed.{Overrides}
use Rattle.jr_table.proofs.RowLaws.{row_at}
use Rattle.jr_table.proofs.OneEach.{class_stands}
use Rattle.jr_images.specs.Families.{InFamily, itself, above, below}
use Rattle.jr_images.specs.Images.{Renaming, method_to, decl_to, row_to, rows_to}
use Rattle.jr_images.specs.Regions.{images_of}
use Rattle.jr_images.proofs.Imaging.{map_some}
use Rattle.jr_plan.specs.Reasons.{ChangesDispatch}
use Rattle.jr_dispatch.proofs.Connected.{same_row, one_key}
use Rattle.jr_dispatch.proofs.ImageEntries.{row_goes}
use Rattle.jr_dispatch.proofs.KeyedChanges.{programs, by_keys}
use Rattle.jr_dispatch.proofs.Parting.{Programs, same_or_not, nearest_is, nearest_declares, image_of, was_of, subclass_goes}
use Rattle.jr_reference_changes.specs.Family.{KeepsFamilies}

-- what a class declares itself is found there first
found_own : (rs : List Entry) → IsAcyclic rs → ((name : List ℕ) (params : List Kind) (c i j : ℕ) → DeclaresVirtual rs name params c i → DeclaresVirtual rs name params c j → i ≡ j)
    → (name : List ℕ) (params : List Kind) (c j : ℕ) → DeclaresVirtual rs name params c j → (chain : List ℕ) → IsChain rs c chain → nearest rs (is_virtual name params) c ≡ Some j
found_own rs acyclic one name params c j v [] up = absurd up
found_own rs acyclic one name params c j v (x ∷ xs) up =
    nearest_is rs acyclic one name params c j (record { chain = x ∷ xs; goes_up = up; among = inl (subst (λ (y : ℕ). DeclaresVirtual rs name params y j) up.0 v) })

method_back : (g : Renaming) (d : Decl) (o : MethodKey) → decl_to g d ≡ method_decl o → (k : MethodKey) × (d ≡ method_decl k) × (method_to g k ≡ o)
method_back g (method_decl k) o e = (k, refl, (let z : method_to g k ≡ o = cc in z))
method_back g (class_decl k) o e = absurd cc
method_back g (field_decl k) o e = absurd cc
method_back g (constructor_decl k) o e = absurd cc
method_back g (local_decl k) o e = absurd cc

module _ (g : Renaming) (rows : List Row) (are : AreRows rows) (fit : AreRows (rows_to g rows)) (none : (of : ClassKey) (m : MethodKey) → ChangesDispatch rows (images_of rows g) of m → ⊥) where
  abbrev old : List Entry
  old = entries_of rows

  abbrev new : List Entry
  new = entries_of (rows_to g rows)

  abbrev both : Programs old new
  both = programs g rows are fit

  -- the class of a row
  its_class : (name : List ℕ) (params : List Kind) (c j : ℕ) → DeclaresVirtual old name params c j → (k : ClassKey) × IsRowOf rows (class_decl k) c
  its_class name params c j v =
      let r = row_at rows j v.declared.row v.declared.stands in
      let n = are.named j r.row (class_of r.row.decl) r.stands (as_declarer refl) in
      let there : n.0 ≡ c = sym (class_stands rows are (class_of r.row.decl) n.0 n.1) ∙ sym (ap (λ (e : Entry). e.class) r.is) ∙ v.declared.class in
      (class_of r.row.decl, subst (λ (i : ℕ). IsRowOf rows (class_decl (class_of r.row.decl)) i) there n.1)

  -- on a class below it, a method is dispatched to one row in both
  found_alike : (was now : List ℕ) (params : List Kind) (c d k : ℕ) (of : ClassKey) (n : MethodKey) → IsRowOf rows (class_decl of) c → IsRowOf rows (method_decl n) k → DeclaresVirtual old was params d k → DeclaresVirtual new now params d k → IsSubclassAt old c d
      → nearest old (is_virtual was params) c ≡ nearest new (is_virtual now params) c
  found_alike was now params c d k of n class method before after under = by (same_or_not (nearest old (is_virtual was params) c) (nearest new (is_virtual now params) c))
    where
      by : (nearest old (is_virtual was params) c ≡ nearest new (is_virtual now params) c) ⊎ (nearest old (is_virtual was params) c ≢ nearest new (is_virtual now params) c) → nearest old (is_virtual was params) c ≡ nearest new (is_virtual now params) c
      by (inl e) = e
      by (inr differs) = absurd (none of n (by_keys g rows are fit of n c k class method (record { was = was; now = now; params = params; class = d; names = record { before = before; after = after }; below = under; differs = differs })))

  -- ---- one overrides another

  over_goes : (n : MethodKey) (j k : ℕ) → IsRowOf rows (method_decl n) k → OverridesAt old j k → OverridesAt new j k
  over_goes n j k method h =
      let class = its_class h.name h.params h.c j h.over in
      let over = image_of old new both h.name h.params h.c j h.over in
      let under = image_of old new both h.name h.params h.d k h.under in
      let here = found_own old both.old_acyclic both.one_old h.name h.params h.c j h.over h.below.chain h.below.goes_up in
      let there = sym (found_alike h.name under.0 h.params h.c h.d k class.0 n class.1 method h.under under.1 h.below) ∙ here in
      let declared = nearest_declares new both.new_acyclic both.one_new under.0 h.params h.c j there in
      let same = same_row new over.0 under.0 h.params h.params h.c declared.0 j over.1 declared.1 in
      record {
        name = under.0;
        params = h.params;
        c = h.c;
        d = h.d;
        over = subst (λ (w : List ℕ). DeclaresVirtual new w h.params h.c j) (sym same.named) over.1;
        under = under.1;
        below = subclass_goes old new both.alike.parents h.c h.d h.below;
        strict = h.strict;
      }

  over_back : (n : MethodKey) (j k : ℕ) → IsRowOf rows (method_decl n) k → OverridesAt new j k → OverridesAt old j k
  over_back n j k method h =
      let over = was_of old new both h.name h.params h.c j h.over in
      let under = was_of old new both h.name h.params h.d k h.under in
      let class = its_class over.0 h.params h.c j over.1 in
      let below = subclass_goes new old (λ c. sym (both.alike.parents c)) h.c h.d h.below in
      let here = found_own new both.new_acyclic both.one_new h.name h.params h.c j h.over h.below.chain h.below.goes_up in
      let there = found_alike under.0 h.name h.params h.c h.d k class.0 n class.1 method under.1 h.under below ∙ here in
      let declared = nearest_declares old both.old_acyclic both.one_old under.0 h.params h.c j there in
      let same = same_row old over.0 under.0 h.params h.params h.c declared.0 j over.1 declared.1 in
      record {
        name = under.0;
        params = h.params;
        c = h.c;
        d = h.d;
        over = subst (λ (w : List ℕ). DeclaresVirtual old w h.params h.c j) (sym same.named) over.1;
        under = under.1;
        below = below;
        strict = h.strict;
      }

  overrides_to : (m n : MethodKey) → Overrides rows m n → Overrides (rows_to g rows) (method_to g m) (method_to g n)
  overrides_to m n o = record {
    j = o.j;
    k = o.k;
    over = row_goes g rows (method_decl m) o.j o.over;
    under = row_goes g rows (method_decl n) o.k o.under;
    overrides = over_goes n o.j o.k o.under o.overrides;
  }

  overrides_back : (m n : MethodKey) (j k : ℕ) → IsRowOf rows (method_decl m) j → IsRowOf rows (method_decl n) k → Overrides (rows_to g rows) (method_to g m) (method_to g n) → Overrides rows m n
  overrides_back m n j k first second o =
      let over : o.j ≡ j = fit.one_each (method_decl (method_to g m)) o.j j o.over (row_goes g rows (method_decl m) j first) in
      let under : o.k ≡ k = fit.one_each (method_decl (method_to g n)) o.k k o.under (row_goes g rows (method_decl n) k second) in
      record {
        j = j;
        k = k;
        over = first;
        under = second;
        overrides = over_back n j k second (subst (λ (y : ℕ). OverridesAt new j y) under (subst (λ (x : ℕ). OverridesAt new x o.k) over o.overrides));
      }

  -- ---- families

  connects_to : (m n : MethodKey) → InFamily rows m n → InFamily (rows_to g rows) (method_to g m) (method_to g n)
  connects_to m n itself = itself
  connects_to m n (above {n = o} h more) = above (overrides_to m o h) (connects_to o n more)
  connects_to m n (below {n = o} h more) = below (overrides_to o m h) (connects_to o n more)

  -- a method of the new rows is an image
  row_back : (o : MethodKey) (k : ℕ) → IsRowOf (rows_to g rows) (method_decl o) k → (n : MethodKey) × IsRowOf rows (method_decl n) k × (method_to g n ≡ o)
  row_back o k r =
      let was = map_some (row_to g) (slice_get rows k) r.row (sym (slice_get-map (row_to g) rows k) ∙ r.stands) in
      let key = method_back g was.0.decl o (ap (λ (x : Row). x.decl) was.2 ∙ r.declares) in
      (key.0, record { row = was.0; stands = was.1; declares = key.1 }, key.2)

  connects_back : (m n x y : MethodKey) (j k : ℕ) → IsRowOf rows (method_decl m) j → IsRowOf rows (method_decl n) k → x ≡ method_to g m → y ≡ method_to g n → InFamily (rows_to g rows) x y → InFamily rows m n
  connects_back m n x y j k first second e f itself =
      let there = subst (λ (z : MethodKey). IsRowOf (rows_to g rows) (method_decl z) k) (sym f ∙ e) (row_goes g rows (method_decl n) k second) in
      let same : j ≡ k = fit.one_each (method_decl (method_to g m)) j k (row_goes g rows (method_decl m) j first) there in
      subst (InFamily rows m) (one_key rows are m n j k first second same) itself
  connects_back m n x y j k first second e f (above {n = o} h more) =
      let z = row_back o h.k h.under in
      above (overrides_back m z.0 j h.k first z.1 (subst (λ (v : MethodKey). Overrides (rows_to g rows) (method_to g m) v) (sym z.2) (subst (λ (v : MethodKey). Overrides (rows_to g rows) v o) e h)))
      (connects_back z.0 n o y h.k k z.1 second (sym z.2) f more)
  connects_back m n x y j k first second e f (below {n = o} h more) =
      let z = row_back o h.j h.over in
      below (overrides_back z.0 m h.j j z.1 first (subst (λ (v : MethodKey). Overrides (rows_to g rows) v (method_to g m)) (sym z.2) (subst (λ (v : MethodKey). Overrides (rows_to g rows) o v) e h)))
      (connects_back z.0 n o y h.j k z.1 second (sym z.2) f more)

  pub families_kept : KeepsFamilies rows g (rows_to g rows)
  families_kept = record {
    overrides = λ m n j k first second. (overrides_to m n, overrides_back m n j k first second);
    connects = λ m n j k first second. (connects_to m n, connects_back m n (method_to g m) (method_to g n) j k first second refl refl);
  }
