-- The pairs of a rename are those of its family.
use Rattle.std.proofs.Common.{◌≡◌, ◌≢◌, ℕ, zero, suc, List, [], ◌∷◌, map, filter, not, Some, Bool, true, false, cond, if◌then◌else◌, refl, sym, ap, subst, ◌∙◌}
use Rattle.std.specs.Prelude.{slice_get, option_map}
use Rattle.std.specs.List.{list_any}
use Rattle.std.proofs.lemmas.Bool.Decides.{Decides-or, Decides-like}
use Rattle.std.specs.Prelude.{Decides}
use Rattle.std.proofs.lemmas.Option.{slice_get-map}
use Rattle.jr_text.specs.declared.spans.Span.{Span}
use Rattle.jr_table.specs.Decls.{Decl, class_decl, field_decl, method_decl, constructor_decl, local_decl}
use Rattle.jr_table.specs.SameDecls.{same_decl, decl_decides}
use Rattle.jr_table.specs.Rows.{Row}
use Rattle.jr_table.specs.Entries.{IsRowOf, name_of}
use Rattle.jr_bind.specs.Programs.{Program}
use Rattle.jr_images.specs.Families.{Among, AreRenamed, IsRenamedWith}
use Rattle.jr_images.specs.Images.{Renaming, is_renamed, name_to, decl_to, row_to, rows_to}
use Rattle.jr_plan.specs.Reasons.{row_image, pairs_of}
use Rattle.jr_plan.specs.Renaming.{rename_of}
use Rattle.jr_reference_changes.specs.Family.{HasOwnName, RenamesFamily}

-- ---- items that pass a test

module _ {X : Type 0} (test : X → Bool) where
  -- an item that passes is among those that do
  passes : (xs : List X) (j : ℕ) (x : X) → slice_get xs j ≡ Some x → test x ≡ true → (i : ℕ) × (slice_get (filter test xs) i ≡ Some x)
  passes [] j x e t = absurd cc
  passes (y ∷ xs) zero x e t = let same : y ≡ x = cc in (0, by (test y) (ap test same ∙ t) same)
    where
      by : (b : Bool) → b ≡ true → y ≡ x → slice_get (cond b (y ∷ filter test xs) (filter test xs)) 0 ≡ Some x
      by true h same = ap (λ (z : X). Some z) same
      by false h same = absurd cc
  passes (y ∷ xs) (suc j) x e t = let rest = passes xs j x e t in by (test y) rest
    where
      by : (b : Bool) → (i : ℕ) × (slice_get (filter test xs) i ≡ Some x) → (i : ℕ) × (slice_get (cond b (y ∷ filter test xs) (filter test xs)) i ≡ Some x)
      by true (i, is) = (suc i, is)
      by false (i, is) = (i, is)

  -- and each of those is one of the items
  passed : (xs : List X) (i : ℕ) (x : X) → slice_get (filter test xs) i ≡ Some x → (test x ≡ true) × ((j : ℕ) × (slice_get xs j ≡ Some x))
  passed [] i x e = absurd cc
  passed (y ∷ xs) i x e = by (test y) refl i e (λ k f. passed xs k x f)
    where
      by : (b : Bool) → test y ≡ b → (i : ℕ) → slice_get (cond b (y ∷ filter test xs) (filter test xs)) i ≡ Some x
          → ((k : ℕ) → slice_get (filter test xs) k ≡ Some x → (test x ≡ true) × ((j : ℕ) × (slice_get xs j ≡ Some x)))
          → (test x ≡ true) × ((j : ℕ) × (slice_get (y ∷ xs) j ≡ Some x))
      by true h zero f later = let same : y ≡ x = cc in (ap test (sym same) ∙ h, (0, ap (λ (z : X). Some z) same))
      by true h (suc i) f later = let rest = later i f in (rest.0, (suc rest.1.0, rest.1.1))
      by false h i f later = let rest = later i f in (rest.0, (suc rest.1.0, rest.1.1))

mapped : {X Y : Type 0} (f : X → Y) (xs : List X) (i : ℕ) (y : Y) → slice_get (map f xs) i ≡ Some y → (x : X) × (slice_get xs i ≡ Some x) × (f x ≡ y)
mapped f [] i y e = absurd cc
mapped f (x ∷ xs) zero y e = (x, refl, (let p : f x ≡ y = cc in p))
mapped f (x ∷ xs) (suc i) y e = mapped f xs i y e

to_map : {X Y : Type 0} (f : X → Y) (xs : List X) (i : ℕ) (x : X) → slice_get xs i ≡ Some x → slice_get (map f xs) i ≡ Some (f x)
to_map f xs i x e = slice_get-map f xs i ∙ ap (option_map f) e

-- ---- names

is_among : (d : Decl) (xs : List Decl) → Decides (list_any (same_decl d) xs) (Among xs d)
is_among d [] = (λ e. absurd cc, λ h. absurd h)
is_among d (x ∷ xs) = Decides-or (same_decl d x) (list_any (same_decl d) xs) (Decides-like (same_decl d x) (λ e. sym e) (λ e. sym e) (decl_decides d x)) (is_among d xs)

module _ (g : Renaming) where
  gets : (d : Decl) (old : List ℕ) → is_renamed g d ≡ true → name_to g d old ≡ g.name
  gets d old e = ap (λ (b : Bool). if b then g.name else old) e

  got : (d : Decl) (old : List ℕ) → name_to g d old ≢ old → (is_renamed g d ≡ true) × (name_to g d old ≡ g.name)
  got d old other = by (is_renamed g d) refl other
    where
      by : (b : Bool) → is_renamed g d ≡ b → (if b then g.name else old) ≢ old → (is_renamed g d ≡ true) × (name_to g d old ≡ g.name)
      by true h other = (h, gets d old h)
      by false h other = absurd (other refl)

  named : (e : Decl) → HasOwnName e → is_renamed g e ≡ true → name_of (decl_to g e) ≡ g.name
  named (class_decl k) own e = gets (class_decl k) k.name e
  named (field_decl k) own e = gets (field_decl k) k.name e
  named (method_decl k) own e = gets (method_decl k) k.name e
  named (constructor_decl k) own e = absurd own
  named (local_decl k) own e = absurd own

  renamed : (e : Decl) → name_of (decl_to g e) ≢ name_of e → (is_renamed g e ≡ true) × (name_of (decl_to g e) ≡ g.name)
  renamed (class_decl k) other = got (class_decl k) k.name other
  renamed (field_decl k) other = got (field_decl k) k.name other
  renamed (method_decl k) other = got (method_decl k) k.name other
  renamed (constructor_decl k) other = absurd (other refl)
  renamed (local_decl k) other = absurd (other refl)

-- ---- pairs

module _ (p : Program Span) (g : Renaming) (d : Decl) (new : List ℕ) (are : AreRenamed p.rows d g.decls) (name : g.name ≡ new) where
  image_is : (e : Decl) → row_image p (rename_of p g) e ≡ decl_to g e
  image_is (class_decl k) = refl
  image_is (field_decl k) = refl
  image_is (method_decl k) = refl
  image_is (constructor_decl k) = refl
  image_is (local_decl k) = refl

  abbrev changes : Row → Bool
  changes r = not (same_decl r.decl (row_image p (rename_of p g) r.decl))

  abbrev pair : Row → Decl × Decl
  pair r = (r.decl, row_image p (rename_of p g) r.decl)

  abbrev pairs : List (Decl × Decl)
  pairs = pairs_of p (rename_of p g)

  -- what has another name is another
  other_changes : (r : Row) → name_of (decl_to g r.decl) ≢ name_of r.decl → changes r ≡ true
  other_changes r other = by (same_decl r.decl (row_image p (rename_of p g) r.decl)) refl
    where
      by : (b : Bool) → same_decl r.decl (row_image p (rename_of p g) r.decl) ≡ b → not b ≡ true
      by false h = refl
      by true h = absurd (other (ap name_of (sym (image_is r.decl)) ∙ sym (ap name_of ((decl_decides r.decl (row_image p (rename_of p g) r.decl)).0 h))))

  changes_other : (r : Row) → changes r ≡ true → row_image p (rename_of p g) r.decl ≢ r.decl
  changes_other r t same = apart (same_decl r.decl (row_image p (rename_of p g) r.decl)) ((decl_decides r.decl (row_image p (rename_of p g) r.decl)).1 (sym same)) t
    where
      apart : (b : Bool) → b ≡ true → not b ≡ true → ⊥
      apart true h t = cc
      apart false h t = cc

  whole : (e : Decl) (j : ℕ) → HasOwnName e → IsRenamedWith p.rows d e → IsRowOf p.rows e j → name_of e ≢ new
      → (i : ℕ) × (x : Decl) × (slice_get pairs i ≡ Some (e, x)) × (name_of x ≡ new) × IsRowOf (rows_to g p.rows) x j
  whole e j own with_it row other =
      let r : Row = row.row in
      let is : is_renamed g e ≡ true = (is_among e g.decls).1 ((are e).1 with_it) in
      let gets_it : name_of (decl_to g e) ≡ new = named g e own is ∙ name in
      let differs : name_of (decl_to g r.decl) ≢ name_of r.decl = subst (λ (x : Decl). name_of (decl_to g x) ≢ name_of x) (sym row.declares) (λ q. other (sym q ∙ gets_it)) in
      let found = passes changes p.rows j r row.stands (other_changes r differs) in
      let there : slice_get pairs found.0 ≡ Some (pair r) = to_map pair (filter changes p.rows) found.0 r found.1 in (
        found.0,
        decl_to g e,
        there ∙ ap (λ (x : Decl × Decl). Some x) (λ i. (row.declares i, (image_is r.decl ∙ ap (decl_to g) row.declares) i)),
        gets_it,
        record { row = row_to g r; stands = to_map (row_to g) p.rows j r row.stands; declares = ap (decl_to g) row.declares },
      )

  -- the row of a pair
  of_pair : (i : ℕ) (e x : Decl) → slice_get pairs i ≡ Some (e, x) → (r : Row) × (changes r ≡ true) × ((j : ℕ) × (slice_get p.rows j ≡ Some r)) × (r.decl ≡ e) × (row_image p (rename_of p g) r.decl ≡ x)
  of_pair i e x there =
      let m = mapped pair (filter changes p.rows) i (e, x) there in
      let from = passed changes p.rows i m.0 m.1 in
      (m.0, from.0, from.1, ap (λ (y : Decl × Decl). y.0) m.2, ap (λ (y : Decl × Decl). y.1) m.2)

  pair_image : (i : ℕ) (e x : Decl) → slice_get pairs i ≡ Some (e, x) → (x ≡ decl_to g e) × (x ≢ e) × ((j : ℕ) × IsRowOf p.rows e j)
  pair_image i e x there =
      let m = of_pair i e x there in (
        sym m.4 ∙ image_is m.0.decl ∙ ap (decl_to g) m.3,
        (λ same. changes_other m.0 m.1 (m.4 ∙ same ∙ sym m.3)),
        (m.2.0, record { row = m.0; stands = m.2.1; declares = m.3 }),
      )

  alone : (i : ℕ) (e x : Decl) → slice_get pairs i ≡ Some (e, x) → name_of x ≢ name_of e → IsRenamedWith p.rows d e × (name_of x ≡ new)
  alone i e x there other =
      let is = (pair_image i e x there).0 in
      let r = renamed g e (λ q. other (ap name_of is ∙ q)) in
      ((are e).0 ((is_among e g.decls).0 r.0), ap name_of is ∙ r.1 ∙ name)

  pub family_whole : RenamesFamily p.rows g d new pairs
  family_whole = record { whole = whole; alone = alone; images = pair_image }
