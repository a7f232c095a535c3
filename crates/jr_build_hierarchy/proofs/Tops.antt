-- The superclasses of top-level and prelude classes, in a row.
use Rattle.std.proofs.Common.{◌≡◌, ℕ, zero, suc, ◌+◌, ◌<◌, ◌≤◌, List, [], ◌∷◌, ◌++◌, length, map, Option, Some, None, refl, sym, ap, subst, ◌∙◌, inl, inr, arith}
use Rattle.std.specs.Prelude.{slice_get, option_and_then, codes, ◌⊎◌}
use Rattle.jr_index.specs.Parents.{next}
use Rattle.jr_table.specs.Keys.{ClassKey}
use Rattle.jr_table.specs.Prelude.{top_key, object_key}
use Rattle.jr_table.specs.DeclaredItems.{Written, int, boolean, named, DeclaredClass, Item, class_item, field_item, method_item, ctor_item, DeclaredItem}
use Rattle.jr_table.specs.Faults.{At}
use Rattle.jr_table.specs.Resolving.{DeclaresClass, TopParent, IsParent, IsPreludeSubclass}
use Rattle.jr_build_hierarchy.specs.Hierarchies.{Hierarchy, key_at, class_keys, declaration_keys, parent_of_top, parent_of_outer, parent_of_outer_item, prelude_parents, declaration_parents, top_parents}
use Rattle.jr_build_hierarchy.specs.Superclasses.{HasClasses, KnowsTops, IsParentAt, HasParent}
use Rattle.jr_build_hierarchy.proofs.ClassNumbers.{inside, IsPreludeAt, Declares, prelude_class, prelude_stands, no_subclass, from_within, number_has, number_is, declares_at, declared_number, one_class, one_declaration, same_class_declaration, not_reserved, top_number, stands_at}
use Rattle.jr_build_hierarchy.proofs.Settling.{top_named, parent_of_top_is}

-- a number is a declaration's, or stands behind all declarations'
place : (declarations : List DeclaredItem) (j : ℕ) → ((s : DeclaredItem) × (slice_get declarations j ≡ Some s)) ⊎ ((m : ℕ) × (j ≡ length declarations + m))
place [] j = inr (j, omega arith)
place (s ∷ ss) zero = inl (s, refl)
place (s ∷ ss) (suc j) = by (place ss j)
  where
    by : ((x : DeclaredItem) × (slice_get ss j ≡ Some x)) ⊎ ((m : ℕ) × (j ≡ length ss + m)) → ((x : DeclaredItem) × (slice_get (s ∷ ss) (suc j) ≡ Some x)) ⊎ ((m : ℕ) × (suc j ≡ length (s ∷ ss) + m))
    by (inl h) = inl h
    by (inr (m, e)) = inr (m, omega (arith, e))

module _ (h : Hierarchy) where
  at_declaration : (declarations : List DeclaredItem) (j : ℕ) (s : DeclaredItem) → slice_get declarations j ≡ Some s → next (top_parents h declarations) j ≡ parent_of_outer_item h s.item
  at_declaration [] j s e = absurd cc
  at_declaration (x ∷ xs) zero s e = ap (λ (y : DeclaredItem). parent_of_outer_item h y.item) (inside _ _ e)
  at_declaration (x ∷ xs) (suc j) s e = at_declaration xs j s e

  behind : (declarations : List DeclaredItem) (m : ℕ) → next (top_parents h declarations) (length declarations + m) ≡ next (prelude_parents h) m
  behind [] m = let e : 0 + m ≡ m = omega arith in ap (next (prelude_parents h)) e
  behind (s ∷ ss) m = let e : suc (length ss) + m ≡ suc (length ss + m) = omega arith in ap (next (top_parents h (s ∷ ss))) e ∙ behind ss m

  size_of : (declarations : List DeclaredItem) → length (top_parents h declarations) ≡ length (class_keys declarations)
  size_of [] = refl
  size_of (s ∷ ss) = ap suc (size_of ss)

module _ (declarations : List DeclaredItem) (h : Hierarchy) (has : HasClasses declarations h) (row : h.parents ≡ top_parents h declarations) where
  in_row : (j : ℕ) → next h.parents j ≡ next (top_parents h declarations) j
  in_row j = ap (λ ps. next ps j) row

  -- each is the superclass
  of_class : (j file : ℕ) (c : DeclaredClass) (p : ℕ) (outer : Option (List ℕ)) → At declarations j file (class_item c) → c.key.outer ≡ outer → parent_of_outer h outer c.parent ≡ Some p → IsParentAt declarations h j p
  of_class j file c p (Some outer) at o e = absurd cc
  of_class j file c p None at o e =
      let d : DeclaresClass declarations c.key c = record { number = j; file = file; stands = at.stands; is = refl } in
      let q = key_of c.parent e in
      record {
        class = c.key;
        parent = q.0;
        is_class = from_within declarations h has j c.key (stands_at declarations j file c at.stands);
        is_parent = q.1;
        extends = inl (o, parent_of_top_is declarations h has c d p q.0 o e q.1);
      }
    where
      key_of : (w : Option Written) → parent_of_top h w ≡ Some p → (q : ClassKey) × (key_at h p ≡ Some q)
      key_of None e = (object_key, number_has declarations h has object_key p e)
      key_of (Some int) e = absurd cc
      key_of (Some boolean) e = absurd cc
      key_of (Some (named at None name)) e = (top_key name, number_has declarations h has (top_key name) p e)
      key_of (Some (named at (Some left) name)) e = absurd cc

  of_item : (j file p : ℕ) (item : Item) → At declarations j file item → parent_of_outer_item h item ≡ Some p → IsParentAt declarations h j p
  of_item j file p (class_item c) at e = of_class j file c p c.key.outer at refl e
  of_item j file p (field_item f) at e = absurd cc
  of_item j file p (method_item m) at e = absurd cc
  of_item j file p (ctor_item c) at e = absurd cc

  -- the prelude's classes but Object have Object
  object_above : (m p : ℕ) → next (prelude_parents h) m ≡ Some p → (k : ClassKey) × IsPreludeAt m k × IsPreludeSubclass k.name × (h.number object_key ≡ Some p)
  object_above zero p e = absurd cc
  object_above (suc zero) p e = (top_key (codes "String"), refl, inl refl, e)
  object_above (suc (suc zero)) p e = (top_key (codes "Class"), refl, inr (inl refl), e)
  object_above (suc (suc (suc zero))) p e = (top_key (codes "Thread"), refl, inr (inr refl), e)
  object_above (suc (suc (suc (suc m)))) p e = absurd cc

  of_prelude : (m p : ℕ) → next (prelude_parents h) m ≡ Some p → IsParentAt declarations h (length declarations + m) p
  of_prelude m p e =
      let o = object_above m p e in
      record {
        class = o.0;
        parent = object_key;
        is_class = from_within declarations h has (length declarations + m) o.0 (prelude_stands declarations m o.0 o.1);
        is_parent = number_has declarations h has object_key p o.3;
        extends = inl ((prelude_class m o.0 o.1).0, inr (o.2, refl));
      }

  each : (j p : ℕ) → next h.parents j ≡ Some p → IsParentAt declarations h j p
  each j p e = by (place declarations j)
    where
      by : ((s : DeclaredItem) × (slice_get declarations j ≡ Some s)) ⊎ ((m : ℕ) × (j ≡ length declarations + m)) → IsParentAt declarations h j p
      by (inl (s, at)) = of_item j s.file p s.item (record { stands = at }) (sym (at_declaration h declarations j s at) ∙ sym (in_row j) ∙ e)
      by (inr (m, same)) =
          subst (λ i. IsParentAt declarations h i p) (sym same)
          (of_prelude m p (sym (behind h declarations m) ∙ ap (next (top_parents h declarations)) (sym same) ∙ sym (in_row j) ∙ e))

  -- and all of them are there
  declared_top : (j : ℕ) (name : List ℕ) (p : ClassKey) → Declares declarations j (top_key name) → TopParent declarations name p → HasParent h j p
  declared_top j name p (f, c, at, is) (inr (sub, e)) = absurd (not_reserved declarations has.unique j (top_key name) (f, c, at, is) (inr sub))
  declared_top j name p (f, c, at, is) (inl (c', d, names)) =
      let one = one_class declarations h has (top_key name) c' c d (record { number = j; file = f; stands = at.stands; is = is }) in
      let t = top_named declarations h has c'.parent p names in
      let outer : c.key.outer ≡ None = ap (λ (k : ClassKey). k.outer) is in
      record {
        number = t.0;
        known = in_row j ∙ at_declaration h declarations j (record { file = f; item = class_item c }) at.stands ∙ ap (λ o. parent_of_outer h o c.parent) outer
            ∙ ap (λ (x : DeclaredClass). parent_of_top h x.parent) (sym one) ∙ t.2;
        is = t.1;
      }

  prelude_top : (j m : ℕ) (name : List ℕ) (p : ClassKey) → key_at h j ≡ Some (top_key name) → j ≡ length declarations + m → IsPreludeAt m (top_key name) → TopParent declarations name p → HasParent h j p
  prelude_top j m name p key same pre (inl (c, d, names)) =
      absurd (not_reserved declarations has.unique d.number (top_key name) (d.file, c, record { stands = d.stands }, d.is) (prelude_class m (top_key name) pre).1)
  prelude_top j m name p key same pre (inr (sub, e)) =
      let o = top_number declarations h has (codes "Object") (inr (inl refl)) in
      let n = number_is declarations h has object_key o.0 o.1 in
      record { number = o.0; known = in_row j ∙ ap (next (top_parents h declarations)) same ∙ behind h declarations m ∙ above m pre ∙ n; is = o.1 ∙ ap Some (sym e) }
    where
      above : (m : ℕ) → IsPreludeAt m (top_key name) → next (prelude_parents h) m ≡ h.number object_key
      above zero pre = absurd (no_subclass (subst IsPreludeSubclass (ap (λ (k : ClassKey). k.name) (sym (inside _ _ pre))) sub))
      above (suc zero) pre = refl
      above (suc (suc zero)) pre = refl
      above (suc (suc (suc zero))) pre = refl
      above (suc (suc (suc (suc m)))) pre = absurd cc

  pub tops_known : KnowsTops declarations h
  tops_known = record { classes = has; size = ap length row ∙ size_of h declarations ∙ ap length (sym has.keys); each = each; tops = tops }
    where
      tops : (j : ℕ) (name : List ℕ) (p : ClassKey) → key_at h j ≡ Some (top_key name) → TopParent declarations name p → HasParent h j p
      tops j name p key parent = by (declares_at declarations h has j (top_key name) key)
        where
          by : (Declares declarations j (top_key name) ⊎ ((m : ℕ) × (j ≡ length declarations + m) × IsPreludeAt m (top_key name))) → HasParent h j p
          by (inl d) = declared_top j name p d parent
          by (inr (m, same, pre)) = prelude_top j m name p key same pre parent
