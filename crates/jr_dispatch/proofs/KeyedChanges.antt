-- Changes of dispatch by numbers and by keys.
use Rattle.std.proofs.Common.{◌≡◌, ◌≢◌, ℕ, ◌≤◌, List, map, Option, Some, None, refl, sym, ap, subst, ◌∙◌}
use Rattle.std.specs.Prelude.{slice_get, option_and_then}
use Rattle.jr_table.specs.declared.entries.Kind.{Kind}
use Rattle.jr_table.specs.declared.entries.Sort.TheVariants as sort
use Rattle.jr_table.specs.declared.entries.Entry.{Entry}
use Rattle.jr_table.specs.Keys.{ClassKey, MethodKey}
use Rattle.jr_table.specs.Decls.{Decl, class_decl, field_decl, method_decl, constructor_decl, local_decl}
use Rattle.jr_table.specs.Rows.{Row}
use Rattle.jr_table.specs.Entries.{IsRowOf, kind_of, sort_of, method_of, method_at, entry_of, entries_of}
use Rattle.jr_table.specs.Conditions.{AreRows}
use Rattle.jr_table.specs.Chains.{IsSubclassAt}
use Rattle.jr_table.specs.Members.{DeclaresVirtual, Dispatches}
use Rattle.jr_table.specs.Keyed.{DispatchesTo}
use Rattle.jr_table.specs.Looking.{is_virtual, nearest}
use Rattle.jr_table.proofs.RowLaws.{the_number, row_at, entry_stands, acyclic_rows}
use Rattle.jr_table.proofs.OneEach.{is_class_decl, one_virtual}
use Rattle.jr_table.proofs.Border.{is_virtual_at, MethodHere, method_here, MethodFound, the_method}
use Rattle.jr_images.specs.Images.{Renaming, class_to, method_to, decl_to, row_to, rows_to}
use Rattle.jr_images.specs.Regions.{images_of}
use Rattle.jr_plan.specs.Reasons.{ChangesDispatch, IsFirstChange}
use Rattle.jr_dispatch.specs.Keys.{declared_class, class_at}
use Rattle.jr_dispatch.specs.Changes.{AreAlike, HasNames, ChangesAt, IsClassAt, IsFirstChangeAt}
use Rattle.jr_dispatch.proofs.Connected.{same_row, one_key}
use Rattle.jr_dispatch.proofs.Parting.{Programs, image_of, nearest_is, nearest_some, subclass_goes}
use Rattle.jr_dispatch.proofs.ImageEntries.{row_goes, alike}

-- ---- rows and keys

pub class_row : (rows : List Row) (j : ℕ) (k : ClassKey) → class_at rows j ≡ Some k → IsRowOf rows (class_decl k) j
class_row rows j k h = of (slice_get rows j) refl h
  where
    by : (r : Row) (d : Decl) → slice_get rows j ≡ Some r → r.decl ≡ d → declared_class d ≡ Some k → IsRowOf rows (class_decl k) j
    by r (class_decl l) at is e = record { row = r; stands = at; declares = is ∙ ap class_decl (let z : l ≡ k = cc in z) }
    by r (field_decl l) at is e = absurd cc
    by r (method_decl l) at is e = absurd cc
    by r (constructor_decl l) at is e = absurd cc
    by r (local_decl l) at is e = absurd cc

    of : (o : Option Row) → slice_get rows j ≡ o → option_and_then (λ (r : Row). declared_class r.decl) o ≡ Some k → IsRowOf rows (class_decl k) j
    of None at e = absurd cc
    of (Some r) at e = by r r.decl at refl e

pub method_row : (rows : List Row) (j : ℕ) (k : MethodKey) → method_at rows j ≡ Some k → IsRowOf rows (method_decl k) j
method_row rows j k h = of (slice_get rows j) refl h
  where
    by : (r : Row) (d : Decl) → slice_get rows j ≡ Some r → r.decl ≡ d → method_of d ≡ Some k → IsRowOf rows (method_decl k) j
    by r (method_decl l) at is e = record { row = r; stands = at; declares = is ∙ ap method_decl (let z : l ≡ k = cc in z) }
    by r (field_decl l) at is e = absurd cc
    by r (class_decl l) at is e = absurd cc
    by r (constructor_decl l) at is e = absurd cc
    by r (local_decl l) at is e = absurd cc

    of : (o : Option Row) → slice_get rows j ≡ o → option_and_then (λ (r : Row). method_of r.decl) o ≡ Some k → IsRowOf rows (method_decl k) j
    of None at e = absurd cc
    of (Some r) at e = by r r.decl at refl e

-- a class's row shows its key
pub class_shows : (rows : List Row) (j : ℕ) → IsClassAt (entries_of rows) j → (k : ClassKey) × (class_at rows j ≡ Some k)
class_shows rows j h =
    let r = row_at rows j h.row h.stands in
    let k = is_class_decl r.row.decl (sym (ap (λ (x : Entry). x.sort) r.is) ∙ h.is) in
    (k.0, ap (option_and_then (λ (x : Row). declared_class x.decl)) r.stands ∙ ap declared_class k.1)

pub is_class_at : (rows : List Row) (k : ClassKey) (j : ℕ) → IsRowOf rows (class_decl k) j → IsClassAt (entries_of rows) j
is_class_at rows k j r = record { row = entry_of rows r.row; stands = entry_stands rows j r.row r.stands; is = ap sort_of r.declares }

-- ---- programs

module _ (g : Renaming) (rows : List Row) (are : AreRows rows) (news : AreRows (rows_to g rows)) where
  abbrev pub old : List Entry
  old = entries_of rows

  abbrev pub new : List Entry
  new = entries_of (rows_to g rows)

  pub programs : Programs old new
  programs = record {
    alike = alike g rows are news;
    old_acyclic = acyclic_rows rows are;
    new_acyclic = acyclic_rows (rows_to g rows) news;
    one_old = one_virtual rows are;
    one_new = one_virtual (rows_to g rows) news;
  }

  -- dispatch that changes, by numbers
  pub record IsChange (of : ClassKey) (m : MethodKey) : Type 0 where
    pub c : ℕ
    pub j : ℕ
    pub class : IsRowOf rows (class_decl of) c
    pub method : IsRowOf rows (method_decl m) j
    pub changes : ChangesAt old new c j

  pub by_numbers : (of : ClassKey) (m : MethodKey) → ChangesDispatch rows (images_of rows g) of m → IsChange of m
  by_numbers of m h =
      let o = h.old in
      let n = h.new in
      let params = map (kind_of rows) m.params in
      let to = method_to g m in
      let image = image_of old new programs m.name params o.d o.j o.virtual in
      let same_class : n.c ≡ o.c = news.one_each (class_decl (class_to g of)) n.c o.c n.place (row_goes g rows (class_decl of) o.c o.place) in
      let same_method : n.j ≡ o.j = news.one_each (method_decl to) n.j o.j n.row (row_goes g rows (method_decl m) o.j o.row) in
      let here = subst (λ (i : ℕ). DeclaresVirtual new to.name (map (kind_of (rows_to g rows)) to.params) n.d i) same_method n.virtual in
      let like = same_row new image.0 to.name params (map (kind_of (rows_to g rows)) to.params) o.d n.d o.j image.1 here in
      let after = subst (λ (d : ℕ). DeclaresVirtual new to.name params d o.j) like.class (subst (λ (p : List Kind). DeclaresVirtual new to.name p n.d o.j) like.takes here) in
      let near = subst (λ (c : ℕ). Dispatches new to.name params c n.k) same_class (subst (λ (p : List Kind). Dispatches new to.name p n.c n.k) like.takes n.nearest) in
      let old_found = nearest_is old programs.old_acyclic programs.one_old m.name params o.c o.k o.nearest in
      let new_found = nearest_is new programs.new_acyclic programs.one_new to.name params o.c n.k near in
      record {
        c = o.c;
        j = o.j;
        class = o.place;
        method = o.row;
        changes = record {
          was = m.name;
          now = to.name;
          params = params;
          class = o.d;
          names = record { before = o.virtual; after = after };
          below = o.below;
          differs = λ e.
              let z : Some o.k ≡ Some n.k = sym old_found ∙ e ∙ new_found in
              let k : n.k ≡ o.k = cc in
              h.changed (one_key (rows_to g rows) news h.now (method_to g h.was) n.k o.k n.found_row (row_goes g rows (method_decl h.was) o.k o.found_row) k);
        };
      }

  pub found : (qs : List Row) (fit : AreRows qs) (of : ClassKey) (m : MethodKey) (c d j k : ℕ) (name : List ℕ) (params : List Kind) → IsRowOf qs (class_decl of) c → IsRowOf qs (method_decl m) j
      → DeclaresVirtual (entries_of qs) name params d j → IsSubclassAt (entries_of qs) c d → nearest (entries_of qs) (is_virtual name params) c ≡ Some k → MethodFound qs fit of m k
  found qs fit of m c d j k name params class method v below near =
      let e = v.declared.row in
      the_method qs fit of m c j k e (the_number qs fit (class_decl of) c class) (the_number qs fit (method_decl m) j method) (is_virtual_at qs name params d j v)
      (subst (IsSubclassAt (entries_of qs) c) (sym v.declared.class) below)
      ((λ i. nearest (entries_of qs) (is_virtual (v.declared.named i) (v.declared.takes i)) c) ∙ near)

  pub by_keys : (of : ClassKey) (m : MethodKey) (c j : ℕ) → IsRowOf rows (class_decl of) c → IsRowOf rows (method_decl m) j → ChangesAt old new c j → ChangesDispatch rows (images_of rows g) of m
  by_keys of m c j class method h =
      let below = subclass_goes old new programs.alike.parents c h.class h.below in
      let k = nearest_some old programs.old_acyclic programs.one_old h.was h.params c h.class j h.below h.names.before in
      let n = nearest_some new programs.new_acyclic programs.one_new h.now h.params c h.class j below h.names.after in
      let before = found rows are of m c h.class j k.0 h.was h.params class method h.names.before h.below k.1 in
      let later = found (rows_to g rows) news (class_to g of) (method_to g m) c h.class j n.0 h.now h.params (row_goes g rows (class_decl of) c class) (row_goes g rows (method_decl m) j method) h.names.after below n.1 in
      record {
        was = before.key;
        now = later.key;
        old = before.is;
        new = later.is;
        changed = λ e.
            let a = row_goes g rows (method_decl before.key) k.0 (method_row rows k.0 before.key before.at) in
            let b = method_row (rows_to g rows) n.0 later.key later.at in
            let same : k.0 ≡ n.0 = news.one_each (method_decl (method_to g before.key)) k.0 n.0 a (subst (λ (x : MethodKey). IsRowOf (rows_to g rows) (method_decl x) n.0) e b) in
            h.differs (k.1 ∙ ap Some same ∙ sym n.1);
      }

  pub first_is : (of : ClassKey) (m : MethodKey) (c j : ℕ) → class_at rows c ≡ Some of → method_at rows j ≡ Some m → IsFirstChangeAt old new c j → IsFirstChange rows (images_of rows g) of m
  first_is of m c j at mt h =
      let class = class_row rows c of at in
      let method = method_row rows j m mt in
      record {
        changes = by_keys of m c j class method h.changes;
        class_at = c;
        method_at = j;
        class_row = class;
        method_row = method;
        first_class = λ k n i x r.
            let y = by_numbers k n x in
            subst (λ (z : ℕ). c ≤ z) (are.one_each (class_decl k) y.c i y.class r) (h.first_class y.c y.j (is_class_at rows k y.c y.class) y.changes);
        first_method = λ n i x r.
            let y = by_numbers of n x in
            let changes = subst (λ (z : ℕ). ChangesAt old new z y.j) (are.one_each (class_decl of) y.c c y.class class) y.changes in
            subst (λ (z : ℕ). j ≤ z) (are.one_each (method_decl n) y.j i y.method r) (h.first_method y.j changes);
      }

  pub none_is : ((c j : ℕ) → IsClassAt old c → ChangesAt old new c j → ⊥) → (of : ClassKey) (m : MethodKey) → ChangesDispatch rows (images_of rows g) of m → ⊥
  none_is none of m x = let y = by_numbers of m x in none y.c y.j (is_class_at rows of y.c y.class) y.changes

-- ---- a table of the images

module _ (g : Renaming) (rows qs : List Row) (are : AreRows rows) (fit : AreRows qs) (is : qs ≡ rows_to g rows) where
  news : AreRows (rows_to g rows)
  news = subst AreRows is fit

  pub are_alike : AreAlike (entries_of rows) (entries_of qs)
  are_alike = subst (λ (ps : List Row). AreAlike (entries_of rows) (entries_of ps)) (sym is) (alike g rows are news)

  pub no_change : ((c j : ℕ) → IsClassAt (entries_of rows) c → ChangesAt (entries_of rows) (entries_of qs) c j → ⊥) → (of : ClassKey) (m : MethodKey) → ChangesDispatch rows (images_of rows g) of m → ⊥
  no_change none = none_is g rows are news (λ c j k h. none c j k (subst (λ (ps : List Row). ChangesAt (entries_of rows) (entries_of ps) c j) (sym is) h))

  pub first_of : (c j : ℕ) → IsFirstChangeAt (entries_of rows) (entries_of qs) c j → (of : ClassKey) (m : MethodKey) → class_at rows c ≡ Some of → method_at rows j ≡ Some m → IsFirstChange rows (images_of rows g) of m
  first_of c j h of m at mt = first_is g rows are news of m c j at mt (subst (λ (ps : List Row). IsFirstChangeAt (entries_of rows) (entries_of ps) c j) is h)

  pub shows_class : (c j : ℕ) → IsFirstChangeAt (entries_of rows) (entries_of qs) c j → None ≡ class_at rows c → ⊥
  shows_class c j h none = let k = class_shows rows c h.is_class in let z = none ∙ k.1 in absurd cc

  pub shows_method : (c j : ℕ) → IsFirstChangeAt (entries_of rows) (entries_of qs) c j → None ≡ method_at rows j → ⊥
  shows_method c j h none =
      let x = h.changes in
      let k = method_here rows x.was x.params x.class j x.names.before.declared in
      let z = none ∙ k.at in
      absurd cc
