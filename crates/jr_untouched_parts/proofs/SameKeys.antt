-- Where keys and rows stay no method is dispatched otherwise, and no declaration becomes another.
use Rattle.std.proofs.Common.{◌≡◌, ℕ, List, [], ◌∷◌, Bool, false, map, refl, sym, ap, subst, ◌∙◌}
use Rattle.std.specs.Prelude.{filter, not, if◌then◌else◌}
use Rattle.jr_text.specs.declared.spans.Span.{Span}
use Rattle.jr_table.specs.Keys.{ClassKey, MethodKey}
use Rattle.jr_table.specs.Decls.{MemberKey, head, field, method, constructor, Decl, class_decl, field_decl, method_decl, constructor_decl, local_decl}
use Rattle.jr_table.specs.SameDecls.{same_decl, decl_decides}
use Rattle.jr_table.specs.Rows.{Row}
use Rattle.jr_table.specs.Entries.{kind_of, entries_of}
use Rattle.jr_table.specs.Conditions.{AreRows}
use Rattle.jr_table.specs.Keyed.{DispatchesTo}
use Rattle.jr_table.specs.Members.{DeclaresVirtual, Dispatches}
use Rattle.jr_table.specs.Looking.{is_virtual}
use Rattle.jr_table.proofs.RowLaws.{acyclic_rows}
use Rattle.jr_table.proofs.Testing.{virtual_says}
use Rattle.jr_table.proofs.OneEach.{one_virtual}
use Rattle.jr_table.proofs.MemberLaws.{one_nearest}
use Rattle.jr_bind.specs.Programs.{Program}
use Rattle.jr_images.specs.Regions.{Images, image_of_member}
use Rattle.jr_plan.specs.Transforms.{Transform}
use Rattle.jr_plan.specs.Reasons.{ChangesDispatch, KeepsDispatch, images_in, row_image, pairs_of}
use Rattle.jr_one_plans.proofs.OneDispatch.{one_of_row}
use Rattle.jr_local.specs.Scopes.{same_images}

method_is : (j k : MethodKey) → method_decl j ≡ method_decl k → j ≡ k
method_is j k e = cc

-- one method is found
one_dispatch : (rows : List Row) → AreRows rows → (of : ClassKey) (m j k : MethodKey) → DispatchesTo rows of m j → DispatchesTo rows of m k → j ≡ k
one_dispatch rows are of m j k x y =
    let same = are.one_each (class_decl of) x.c y.c x.place y.place in
    let near = subst (λ (n : ℕ). Dispatches (entries_of rows) m.name (map (kind_of rows) m.params) n x.k) same x.nearest in
    let found = one_nearest (entries_of rows) (DeclaresVirtual (entries_of rows) m.name (map (kind_of rows) m.params)) (is_virtual m.name (map (kind_of rows) m.params)) (virtual_says (entries_of rows) m.name (map (kind_of rows) m.params))
    (one_virtual rows are m.name (map (kind_of rows) m.params)) (acyclic_rows rows are) y.c x.k y.k near y.nearest in
    method_is j k (one_of_row rows (method_decl j) (method_decl k) x.k y.k found x.found_row y.found_row)

pub dispatch_stays : (p : Program Span) (t : Transform) → AreRows p.rows → images_in t ≡ same_images p.rows → KeepsDispatch p t
dispatch_stays p t are keys = subst (λ (m : Images). (k : ClassKey) (n : MethodKey) → ChangesDispatch p.rows m k n → ⊥) (sym keys)
    (λ k n c. c.changed (one_dispatch p.rows are k n c.now c.was c.new c.old))

-- ---- declarations

module _ (p : Program Span) (t : Transform) (keys : images_in t ≡ same_images p.rows) where
  same_key : (k : MemberKey) → image_of_member (same_images p.rows) k ≡ k
  same_key (head k) = refl
  same_key (field k) = refl
  same_key (method k) = refl
  same_key (constructor k) = refl

  row_stays : (d : Decl) → row_image p t d ≡ d
  row_stays (class_decl k) = ap (λ (m : Images). class_decl (m.class_to k)) keys
  row_stays (field_decl k) = ap (λ (m : Images). field_decl (m.field_to k)) keys
  row_stays (method_decl k) = ap (λ (m : Images). method_decl (m.method_to k)) keys
  row_stays (constructor_decl k) = ap (λ (m : Images). constructor_decl (m.ctor_to k)) keys
  row_stays (local_decl k) =
      ap (λ (m : Images). local_decl (record { member = image_of_member m k.member; number = k.number })) keys ∙ ap (λ (j : MemberKey). local_decl (record { member = j; number = k.number })) (same_key k.member)

  -- a row whose declaration becomes another
  abbrev moves : Row → Bool
  moves r = not (same_decl r.decl (row_image p t r.decl))

  none_moves : (r : Row) → moves r ≡ false
  none_moves r = ap not ((decl_decides r.decl (row_image p t r.decl)).1 (sym (row_stays r.decl)))

  none_filtered : (rs : List Row) → filter (λ (r : Row). moves r) rs ≡ []
  none_filtered [] = refl
  none_filtered (r ∷ rs) = ap (λ (b : Bool). if b then r ∷ filter (λ (x : Row). moves x) rs else filter (λ (x : Row). moves x) rs) (none_moves r) ∙ none_filtered rs

  pub no_pairs : pairs_of p t ≡ []
  no_pairs = ap (map (λ (r : Row). (r.decl, row_image p t r.decl))) (none_filtered p.rows)
