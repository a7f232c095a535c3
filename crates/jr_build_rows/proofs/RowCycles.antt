-- No class is its own superclass through others, by the numbers of rows.
use Rattle.std.proofs.Common.{◌≡◌, ℕ, zero, suc, List, [], ◌∷◌, ◌++◌, map, Option, Some, None, Bool, true, false, cond, refl, sym, ap, subst, ◌∙◌, inl, inr}
use Rattle.std.specs.Prelude.{slice_get, ◌⊎◌, ◌↔◌, option_map, option_and_then, codes}
use Rattle.jr_table.specs.declared.entries.Entry.{Entry}
use Rattle.jr_table.specs.Keys.{ClassKey}
use Rattle.jr_table.specs.Decls.{Decl, class_decl}
use Rattle.jr_table.specs.Rows.{Row}
use Rattle.jr_table.specs.SameDecls.{same_decl, decl_decides}
use Rattle.jr_table.specs.Firsts.{first_that}
use Rattle.jr_table.specs.Entries.{IsRowOf, number_of, entry_of, entries_of}
use Rattle.jr_table.specs.Chains.{parent_of}
use Rattle.jr_table.specs.Chains as chains
use Rattle.jr_table.specs.Prelude.{prelude_rows, top_key, object_key}
use Rattle.jr_table.specs.Resolving.{IsParent, Climbs, IsPreludeSubclass}
use Rattle.jr_table.specs.DeclaredItems.{DeclaredClass, Item, class_item, field_item, method_item, ctor_item, DeclaredItem}
use Rattle.jr_build_rows.specs.ExactRows.{unwritten, class_row, field_row, method_row, ctor_row, rows_of_item, rows_of_declarations}
use Rattle.jr_build_hierarchy.specs.Hierarchies.{Hierarchy, parent_key}
use Rattle.jr_build_hierarchy.specs.Superclasses.{HasNoCycle}
use Rattle.jr_build_rows.proofs.Apart.{In, in_either, stands_in}
use Rattle.jr_build_declared.proofs.Earliest.{inside}
use Rattle.jr_build_rows.proofs.OwnRows.{item_of_row, in_class_rows, only}

then_of : {X Y : Type 0} (f : X → Option Y) (o : Option X) (y : Y) → option_and_then f o ≡ Some y → (x : X) × (o ≡ Some x) × (f x ≡ Some y)
then_of f None y e = absurd cc
then_of f (Some x) y e = (x, refl, e)

mapped : {X Y : Type 0} (f : X → Y) (xs : List X) (i : ℕ) (y : Y) → slice_get (map f xs) i ≡ Some y → (x : X) × (slice_get xs i ≡ Some x) × (f x ≡ y)
mapped f [] i y e = absurd cc
mapped f (x ∷ xs) zero y e = (x, refl, inside (f x) y e)
mapped f (x ∷ xs) (suc i) y e = mapped f xs i y e

abbrev Passes : (Row → Bool) → List Row → ℕ → Type 0
Passes test rows n = (r : Row) × (slice_get rows n ≡ Some r) × (test r ≡ true)

passes_later : (test : Row → Bool) (r : Row) (rs : List Row) (n : ℕ) (o : Option ℕ) → ((m : ℕ) → o ≡ Some m → Passes test rs m)
    → option_map suc o ≡ Some n → Passes test (r ∷ rs) n
passes_later test r rs n None f g = absurd cc
passes_later test r rs n (Some m) f g = let p = f m refl in (p.0, ap (slice_get (r ∷ rs)) (sym (inside _ _ g)) ∙ p.1, p.2)

passes_by : (test : Row → Bool) (r : Row) (rs : List Row) (n : ℕ) (b : Bool) → test r ≡ b → ((m : ℕ) → first_that test rs ≡ Some m → Passes test rs m)
    → cond b (Some 0) (option_map suc (first_that test rs)) ≡ Some n → Passes test (r ∷ rs) n
passes_by test r rs n true t f g = (r, ap (slice_get (r ∷ rs)) (sym (inside _ _ g)), t)
passes_by test r rs n false t f g = passes_later test r rs n (first_that test rs) f g

first_passes : (test : Row → Bool) (rows : List Row) (n : ℕ) → first_that test rows ≡ Some n → Passes test rows n
first_passes test [] n e = absurd cc
first_passes test (r ∷ rs) n e = passes_by test r rs n (test r) refl (λ m f. first_passes test rs m f) e

pub number_found : (rows : List Row) (d : Decl) (n : ℕ) → number_of rows d ≡ Some n → IsRowOf rows d n
unfolding number_of
number_found rows d n e = let p = first_passes (λ (r : Row). same_decl r.decl d) rows n e in
    record { row = p.0; stands = p.1; declares = (decl_decides p.0.decl d).0 p.2 }

-- a row's superclass
step : (rows : List Row) (c p : ℕ) → parent_of (entries_of rows) c ≡ Some p
    → (r : Row) × (k : ClassKey) × (slice_get rows c ≡ Some r) × (r.parent ≡ Some k) × IsRowOf rows (class_decl k) p
unfolding entries_of
step rows c p e =
    let x = then_of (λ (r : Entry). r.parent) (slice_get (entries_of rows) c) p e in
    let m = mapped (entry_of rows) rows c x.0 x.1 in
    let k = then_of (λ k. number_of rows (class_decl k)) m.0.parent p (ap (λ (y : Entry). y.parent) m.2 ∙ x.2) in
    (m.0, k.0, m.1, k.1, number_found rows (class_decl k.0) p k.2)

class_of_decl : (x y : ClassKey) → class_decl x ≡ class_decl y → x ≡ y
class_of_decl x y e = cc

module _ (declarations : List DeclaredItem) (h : Hierarchy) (extends : (k p : ClassKey) → (parent_key h k ≡ Some p) ↔ IsParent declarations k p) where
  abbrev Rows : List Row
  Rows = prelude_rows ++ rows_of_declarations h declarations

  -- a row with a superclass is that of a class, and says what the class extends
  abbrev Extends : Row → ClassKey → Type 0
  Extends r k = (q : ClassKey) × (r.decl ≡ class_decl q) × IsParent declarations q k

  prelude_extends : (name : List ℕ) (k : ClassKey) → IsPreludeSubclass name → Some object_key ≡ Some k → IsParent declarations (top_key name) k
  prelude_extends name k sub e = inl (refl, inr (sub, sym (inside _ _ e)))

  prelude_row_extends : (r : Row) (k : ClassKey) → In prelude_rows r → r.parent ≡ Some k → Extends r k
  prelude_row_extends r k (inl e) p = let z = ap (λ (y : Row). y.parent) e ∙ p in absurd cc
  prelude_row_extends r k (inr (inl e)) p = let z = ap (λ (y : Row). y.parent) e ∙ p in absurd cc
  prelude_row_extends r k (inr (inr (inl e))) p = (top_key (codes "String"), sym (ap (λ (y : Row). y.decl) e), prelude_extends (codes "String") k (inl refl) (ap (λ (y : Row). y.parent) e ∙ p))
  prelude_row_extends r k (inr (inr (inr (inl e)))) p = (top_key (codes "Class"), sym (ap (λ (y : Row). y.decl) e), prelude_extends (codes "Class") k (inr (inl refl)) (ap (λ (y : Row). y.parent) e ∙ p))
  prelude_row_extends r k (inr (inr (inr (inr (inl e))))) p = (top_key (codes "Thread"), sym (ap (λ (y : Row). y.decl) e), prelude_extends (codes "Thread") k (inr (inr refl)) (ap (λ (y : Row). y.parent) e ∙ p))
  prelude_row_extends r k (inr (inr (inr (inr (inr (inl e)))))) p = let z = ap (λ (y : Row). y.parent) e ∙ p in absurd cc
  prelude_row_extends r k (inr (inr (inr (inr (inr (inr (inl e))))))) p = let z = ap (λ (y : Row). y.parent) e ∙ p in absurd cc
  prelude_row_extends r k (inr (inr (inr (inr (inr (inr (inr (inl e)))))))) p = let z = ap (λ (y : Row). y.parent) e ∙ p in absurd cc
  prelude_row_extends r k (inr (inr (inr (inr (inr (inr (inr (inr z)))))))) p = absurd z

  item_row_extends : (item : Item) (r : Row) (k : ClassKey) → In (rows_of_item h item) r → r.parent ≡ Some k → Extends r k
  item_row_extends (class_item c) r k z p = elim (in_class_rows h c c.has_ctor r z) [
    | inl e ↦ (c.key, sym (ap (λ (y : Row). y.decl) e), (extends c.key k).0 (ap (λ (y : Row). y.parent) e ∙ p))
    | inr e ↦ (let x = ap (λ (y : Row). y.parent) e.1 ∙ p in absurd cc)
  ]
  item_row_extends (field_item x) r k z p = let y = ap (λ (y : Row). y.parent) (only h (field_row h x) r z) ∙ p in absurd cc
  item_row_extends (method_item x) r k z p = let y = ap (λ (y : Row). y.parent) (only h (method_row h x) r z) ∙ p in absurd cc
  item_row_extends (ctor_item x) r k z p = let y = ap (λ (y : Row). y.parent) (only h (ctor_row h x) r z) ∙ p in absurd cc

  row_extends : (j : ℕ) (r : Row) (k : ClassKey) → slice_get Rows j ≡ Some r → r.parent ≡ Some k → Extends r k
  row_extends j r k at p = elim (in_either prelude_rows (rows_of_declarations h declarations) r (stands_in Rows j r at)) [
    | inl pre ↦ prelude_row_extends r k pre p
    | inr own ↦ (let x = item_of_row h declarations r own in item_row_extends x.1.item r k x.3 p)
  ]

  climbs : (n c d : ℕ) → chains.Climbs (entries_of Rows) n c d → (q : ClassKey) → IsRowOf Rows (class_decl q) c → (z : ClassKey) × IsRowOf Rows (class_decl z) d × Climbs declarations n q z
  climbs zero c d e q row = (q, subst (IsRowOf Rows (class_decl q)) e row, refl)
  climbs (suc n) c d (p, parent, rest) q row =
      let s = step Rows c p parent in
      let x = row_extends c s.0 s.1 s.2 s.3 in
      let same = class_of_decl x.0 q (sym x.1 ∙ ap (λ (y : Row). y.decl) (inside _ _ (sym s.2 ∙ row.stands)) ∙ row.declares) in
      let more = climbs n p d rest s.1 s.4 in
      (more.0, more.1, (s.1, subst (λ k. IsParent declarations k s.1) same x.2, more.2))

  pub no_cycle : HasNoCycle declarations → chains.HasNoCycle (entries_of Rows)
  no_cycle none c n (p, parent, rest) =
      let s = step Rows c p parent in
      let x = row_extends c s.0 s.1 s.2 s.3 in
      let row : IsRowOf Rows (class_decl x.0) c = record { row = s.0; stands = s.2; declares = x.1 } in
      let back = climbs (suc n) c c (p, parent, rest) x.0 row in
      let same = class_of_decl back.0 x.0 (sym back.1.declares ∙ ap (λ (y : Row). y.decl) (inside _ _ (sym back.1.stands ∙ s.2)) ∙ x.1) in
      none x.0 n (subst (Climbs declarations (suc n) x.0) same back.2)
