-- The tests of clashes among rows tell what they are to tell, and the first row that passes is the
-- first that has the property.
use Rattle.std.proofs.Common.{◌≡◌, ℕ, ◌<◌, ◌≤◌, List, [], ◌∷◌, Option, Some, None, Bool, true, false, not, map, refl, sym, ap, subst, ◌∙◌, inl, inr, arith}
use Rattle.std.specs.Prelude.{◌⊎◌, ◌||◌, ◌&&◌, Decides, IfSome, nat_eq, option_map, slice_get}
use Rattle.std.specs.List.{list_any}
use Rattle.std.specs.Cmp.Lexicographic.{pointwise, bytes_decides}
use Rattle.std.proofs.lemmas.Bool.Decides.{Decides-and, Decides-or, Decides-not, Decides-like}
use Rattle.std.proofs.lemmas.Option.{slice_get-map}
use Rattle.jr_table.specs.declared.rows.Row as raw
use Rattle.jr_table.specs.Keys.{ClassKey, FieldKey, MethodKey}
use Rattle.jr_table.specs.Decls.{Decl, class_decl, field_decl, method_decl, constructor_decl, local_decl}
use Rattle.jr_table.specs.SameKeys.{same_name, same_class, same_types, maybe_name_decides, class_decides, field_decides, method_decides}
use Rattle.jr_table.specs.KeyView.{decl_of}
use Rattle.jr_table.specs.Rows.{Row}
use Rattle.jr_table.specs.RowView.{row_of}
use Rattle.jr_table.specs.Entries.{IsRowOf}
use Rattle.jr_table.proofs.Testing.{and_both}
use Rattle.jr_images.proofs.Imaging.{unless}
use Rattle.jr_images.specs.Clashes.{TakesPlace, ClassClashes, member_class}
use Rattle.jr_rename.specs.RowClashes.{has_none, is_outer, is_member_class, takes_place, is_named, is_within, class_clashes, one_takes_place, OneTakesPlace, IsFirstRow, NoRowHas}

none_decides : (o : Option (List ℕ)) → Decides (has_none o) (o ≡ None)
none_decides o = Decides-like (has_none o) (λ e. sym e) (λ e. sym e) (maybe_name_decides None o)

member_class_decides : (o k : ClassKey) (name : List ℕ) → Decides (is_member_class o k name) ((k.outer ≡ None) × (o ≡ member_class k name))
member_class_decides o k name = Decides-and (has_none k.outer) (same_class o (member_class k name)) (none_decides k.outer) (class_decides o (member_class k name))

member_named : (o k : ClassKey) (name : List ℕ) → is_member_class o k name ≡ true → same_name o.name name ≡ true
member_named o k name h =
    (and_both (same_name o.name name) (is_outer o.outer k.name) (and_both (has_none k.outer) (same_name o.name name && is_outer o.outer k.name) h).1).0

-- ---- what takes the place of another

never : {P : Type 0} → (P → ⊥) → Decides false P
never no_one = (λ e. absurd cc, λ p. absurd (no_one p))

field_back : {X : Type 0} (o k : FieldKey) (q : ClassKey) → (field_decl o ≡ field_decl k) ⊎ (X × (field_decl o ≡ class_decl q)) → o ≡ k
field_back o k q (inl e) = cc
field_back o k q (inr x) = (let e = x.1 in absurd cc)

method_back : {X : Type 0} (o k : MethodKey) (q : ClassKey) → (method_decl o ≡ method_decl k) ⊎ (X × (method_decl o ≡ class_decl q)) → o ≡ k
method_back o k q (inl e) = cc
method_back o k q (inr x) = (let e = x.1 in absurd cc)

class_back_field : {X : Type 0} (o q : ClassKey) (k : FieldKey) → (class_decl o ≡ field_decl k) ⊎ (X × (class_decl o ≡ class_decl q)) → X × (o ≡ q)
class_back_field o q k (inl e) = absurd cc
class_back_field o q k (inr x) = (x.0, let e = x.1 in cc)

class_back_method : {X : Type 0} (o q : ClassKey) (k : MethodKey) → (class_decl o ≡ method_decl k) ⊎ (X × (class_decl o ≡ class_decl q)) → X × (o ≡ q)
class_back_method o q k (inl e) = absurd cc
class_back_method o q k (inr x) = (x.0, let e = x.1 in cc)

takes_decides : (r : Decl) (new : List ℕ) (d : Decl) → Decides (takes_place r new d) (TakesPlace r new d)
takes_decides (field_decl f) new (field_decl o) =
    let k : FieldKey = record { class = f.class; name = new } in
    Decides-like (takes_place (field_decl f) new (field_decl o)) (λ e. inl (ap field_decl e)) (field_back o k (member_class f.class new)) (field_decides o k)
takes_decides (field_decl f) new (class_decl o) =
    Decides-like (is_member_class o f.class new) (λ p. inr (p.0, ap class_decl p.1)) (class_back_field o (member_class f.class new) (record { class = f.class; name = new })) (member_class_decides o f.class new)
takes_decides (field_decl f) new (method_decl o) = never (λ h. elim h [ inl e ↦ absurd cc | inr x ↦ (let e = x.1 in absurd cc) ])
takes_decides (field_decl f) new (constructor_decl o) = never (λ h. elim h [ inl e ↦ absurd cc | inr x ↦ (let e = x.1 in absurd cc) ])
takes_decides (field_decl f) new (local_decl o) = never (λ h. elim h [ inl e ↦ absurd cc | inr x ↦ (let e = x.1 in absurd cc) ])
takes_decides (method_decl m) new (method_decl o) =
    let k : MethodKey = record { class = m.class; name = new; params = m.params } in
    Decides-like (takes_place (method_decl m) new (method_decl o)) (λ e. inl (ap method_decl e)) (method_back o k (member_class m.class new)) (method_decides o k)
takes_decides (method_decl m) new (class_decl o) =
    Decides-like (is_member_class o m.class new) (λ p. inr (p.0, ap class_decl p.1)) (class_back_method o (member_class m.class new) (record { class = m.class; name = new; params = m.params }))
    (member_class_decides o m.class new)
takes_decides (method_decl m) new (field_decl o) = never (λ h. elim h [ inl e ↦ absurd cc | inr x ↦ (let e = x.1 in absurd cc) ])
takes_decides (method_decl m) new (constructor_decl o) = never (λ h. elim h [ inl e ↦ absurd cc | inr x ↦ (let e = x.1 in absurd cc) ])
takes_decides (method_decl m) new (local_decl o) = never (λ h. elim h [ inl e ↦ absurd cc | inr x ↦ (let e = x.1 in absurd cc) ])
takes_decides (class_decl k) new d = never (λ h. h)
takes_decides (constructor_decl k) new d = never (λ h. h)
takes_decides (local_decl k) new d = never (λ h. h)

-- only what has the name can lose its place
takes_named : (r : Decl) (new : List ℕ) (d : Decl) → takes_place r new d ≡ true → is_named d new ≡ true
takes_named (field_decl f) new (field_decl o) h = (and_both (same_name o.name new) (same_class o.class f.class) h).0
takes_named (field_decl f) new (class_decl o) h = member_named o f.class new h
takes_named (field_decl f) new (method_decl o) h = absurd cc
takes_named (field_decl f) new (constructor_decl o) h = absurd cc
takes_named (field_decl f) new (local_decl o) h = absurd cc
takes_named (method_decl m) new (method_decl o) h =
    let both = and_both (same_name o.name new && same_class o.class m.class) (same_types o.params m.params) h in
    (and_both (same_name o.name new) (same_class o.class m.class) both.0).0
takes_named (method_decl m) new (class_decl o) h = member_named o m.class new h
takes_named (method_decl m) new (field_decl o) h = absurd cc
takes_named (method_decl m) new (constructor_decl o) h = absurd cc
takes_named (method_decl m) new (local_decl o) h = absurd cc
takes_named (class_decl k) new d h = absurd cc
takes_named (constructor_decl k) new d h = absurd cc
takes_named (local_decl k) new d h = absurd cc

pub none_takes : (rs : List Decl) (new : List ℕ) (d : Decl) → is_named d new ≡ false → list_any (λ r. takes_place r new d) rs ≡ false
none_takes [] new d other = refl
none_takes (r ∷ rs) new d other =
    ap (λ b. b || list_any (λ x. takes_place x new d) rs) (unless (takes_place r new d) (is_named d new) (takes_named r new d) other) ∙ none_takes rs new d other

one_more : (r x : Decl) (rs : List Decl) (new : List ℕ) (d : Decl) → TakesPlace x new d ⊎ OneTakesPlace rs new d → OneTakesPlace (x ∷ rs) new d
one_more r x rs new d (inl h) = (x, inl refl, h)
one_more r x rs new d (inr h) = (h.0, inr h.1, h.2)

one_less : (x : Decl) (rs : List Decl) (new : List ℕ) (d : Decl) → OneTakesPlace (x ∷ rs) new d → TakesPlace x new d ⊎ OneTakesPlace rs new d
one_less x rs new d (r, inl e, h) = inl (subst (λ y. TakesPlace y new d) (sym e) h)
one_less x rs new d (r, inr a, h) = inr (r, a, h)

any_takes_decides : (rs : List Decl) (new : List ℕ) (d : Decl) → Decides (list_any (λ r. takes_place r new d) rs) (OneTakesPlace rs new d)
any_takes_decides [] new d = never (λ h. h.1)
any_takes_decides (r ∷ rs) new d = Decides-like (takes_place r new d || list_any (λ x. takes_place x new d) rs)
    (one_more d r rs new d) (one_less r rs new d)
    (Decides-or (takes_place r new d) (list_any (λ x. takes_place x new d) rs) (takes_decides r new d) (any_takes_decides rs new d))

pub one_takes_decides : (rs : List Decl) (new : List ℕ) (d : Decl) → Decides (one_takes_place rs new d) (OneTakesPlace rs new d)
unfolding one_takes_place
one_takes_decides rs new d = any_takes_decides rs new d

-- ---- what clashes with a class

within_decides : (k of : ClassKey) → Decides (is_within k of) ((k.outer ≡ Some of.name) × (of.outer ≡ None))
within_decides k of = Decides-and (is_outer k.outer of.name) (has_none of.outer) (maybe_name_decides k.outer (Some of.name)) (none_decides of.outer)

pub class_clash_decides : (k : ClassKey) (new : List ℕ) (d : Decl) → Decides (class_clashes k new d) (ClassClashes k new d)
class_clash_decides k new (class_decl o) = Decides-and (pointwise nat_eq o.name new) (not (same_class o k)) (bytes_decides o.name new) (Decides-not (same_class o k) (class_decides o k))
class_clash_decides k new (field_decl f) = Decides-like (class_clashes k new (field_decl f)) (λ p. (p.0, p.1.0, p.1.1)) (λ p. (p.0, (p.1, p.2)))
    (Decides-and (pointwise nat_eq f.name new) (is_within k f.class) (bytes_decides f.name new) (within_decides k f.class))
class_clash_decides k new (method_decl m) = Decides-like (class_clashes k new (method_decl m)) (λ p. (p.0, p.1.0, p.1.1)) (λ p. (p.0, (p.1, p.2)))
    (Decides-and (pointwise nat_eq m.name new) (is_within k m.class) (bytes_decides m.name new) (within_decides k m.class))
class_clash_decides k new (constructor_decl q) = never (λ h. h)
class_clash_decides k new (local_decl l) = never (λ h. h)

-- ---- the first row

pub if_some : {X : Type 0} {P Q : X → Type 0} (o : Option X) → ((x : X) → P x → Q x) → IfSome o P → IfSome o Q
if_some None f h = tt
if_some (Some x) f h = f x h

module _ (rows : List raw.Row) (test : Decl → Bool) (Has : Decl → Type 0) (decides : (d : Decl) → Decides (test d) (Has d)) where
  some_row : (o : Option raw.Row) (is : Row) → option_map row_of o ≡ Some is → (x : raw.Row) × (o ≡ Some x) × (row_of x ≡ is)
  some_row None is e = absurd cc
  some_row (Some x) is e = (x, refl, cc)

  pub row_passes : (d : Decl) (n : ℕ) → IsRowOf (map row_of rows) d n → Has d → (x : raw.Row) × (slice_get rows n ≡ Some x) × (test (decl_of x.decl) ≡ true)
  row_passes d n is h =
      let x = some_row (slice_get rows n) is.row (sym (slice_get-map row_of rows n) ∙ is.stands) in
      (x.0, x.1, ap test (ap (λ (r : Row). r.decl) x.2 ∙ is.declares) ∙ (decides d).1 h)

  order : (a b : ℕ) → (a ≤ b) ⊎ (b < a)
  order a b = grind arith

  pub first_row : (d : Decl) (n : ℕ) (r : raw.Row) → slice_get rows n ≡ Some r → test (decl_of r.decl) ≡ true → d ≡ decl_of r.decl
      → ((m : ℕ) (x : raw.Row) → m < n → slice_get rows m ≡ Some x → test (decl_of x.decl) ≡ true → ⊥)
      → IsFirstRow (map row_of rows) Has d
  first_row d n r get hit is none = record {
    number = n;
    stands = record { row = row_of r; stands = slice_get-map row_of rows n ∙ ap (option_map row_of) get; declares = sym is };
    has = subst Has (sym is) ((decides (decl_of r.decl)).0 hit);
    first = λ e m stands has. elim (order n m) [
      | inl le ↦ le
      | inr lt ↦ (let p = row_passes e m stands has in absurd (none m p.0 lt p.1 p.2))
    ];
  }

  pub no_row : ((m : ℕ) (x : raw.Row) → slice_get rows m ≡ Some x → test (decl_of x.decl) ≡ true → ⊥) → NoRowHas (map row_of rows) Has
  no_row none d n stands has = (let p = row_passes d n stands has in none n p.0 p.1 p.2)
