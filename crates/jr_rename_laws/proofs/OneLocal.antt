-- Where one local is renamed, each key is its own image.
use Rattle.std.proofs.Common.{◌≡◌, ℕ, List, [], ◌∷◌, Option, Some, None, refl, sym, subst}
use Rattle.std.specs.Prelude.{option_map, codes}
use Rattle.jr_table.specs.Keys.{ClassKey, FieldKey, MethodKey, CtorKey, Ty, int, boolean, void, null, class}
use Rattle.jr_table.specs.Decls.{MemberKey, head, field, method, constructor, LocalKey, Decl, class_decl, field_decl, method_decl, constructor_decl, local_decl}
use Rattle.jr_table.specs.Rows.{Row}
use Rattle.jr_table.specs.Prelude.{top_key}
use Rattle.jr_table.specs.Conditions.{AreRows}
use Rattle.jr_images.specs.Images.{Renaming, outer_to, class_to, type_to, types_to, field_to, method_to, ctor_to, member_to, local_to, decl_to, row_to, rows_to}
use Rattle.jr_images.specs.RenameLaws.{IsFair}
use Rattle.jr_images.specs.OneLocal.{one_local, HaveNoDots}

module _ (j : LocalKey) (name : List ℕ) where
  abbrev g : Renaming
  g = one_local j name

  outer_same : (o : Option (List ℕ)) → outer_to g o ≡ o
  outer_same None = refl
  outer_same (Some n) = refl

  class_same : (k : ClassKey) → class_to g k ≡ k
  class_same k = λ i. record { outer = outer_same k.outer i; name = k.name }

  type_same : (t : Ty) → type_to g t ≡ t
  type_same int = refl
  type_same boolean = refl
  type_same void = refl
  type_same null = refl
  type_same (class k) = λ i. class (class_same k i)

  types_same : (ts : List Ty) → types_to g ts ≡ ts
  types_same [] = refl
  types_same (t ∷ ts) = λ i. type_same t i ∷ types_same ts i

  field_same : (k : FieldKey) → field_to g k ≡ k
  field_same k = λ i. record { class = class_same k.class i; name = k.name }

  method_same : (k : MethodKey) → method_to g k ≡ k
  method_same k = λ i. record { class = class_same k.class i; name = k.name; params = types_same k.params i }

  ctor_same : (k : CtorKey) → ctor_to g k ≡ k
  ctor_same k = λ i. record { class = class_same k.class i; params = types_same k.params i }

  pub member_same : (k : MemberKey) → member_to g k ≡ k
  member_same (head k) = λ i. head (class_same k i)
  member_same (field k) = λ i. field (field_same k i)
  member_same (method k) = λ i. method (method_same k i)
  member_same (constructor k) = λ i. constructor (ctor_same k i)

  pub local_same : (k : LocalKey) → local_to g k ≡ k
  local_same k = λ i. record { member = member_same k.member i; number = k.number }

  pub decl_same : (d : Decl) → decl_to g d ≡ d
  decl_same (class_decl k) = λ i. class_decl (class_same k i)
  decl_same (field_decl k) = λ i. field_decl (field_same k i)
  decl_same (method_decl k) = λ i. method_decl (method_same k i)
  decl_same (constructor_decl k) = λ i. constructor_decl (ctor_same k i)
  decl_same (local_decl k) = λ i. local_decl (local_same k i)

  maybe_type_same : (t : Option Ty) → option_map (type_to g) t ≡ t
  maybe_type_same None = refl
  maybe_type_same (Some t) = λ i. Some (type_same t i)

  maybe_class_same : (k : Option ClassKey) → option_map (class_to g) k ≡ k
  maybe_class_same None = refl
  maybe_class_same (Some k) = λ i. Some (class_same k i)

  row_same : (r : Row) → row_to g r ≡ r
  row_same r = λ i. record {
    decl = decl_same r.decl i;
    modifiers = r.modifiers;
    type = maybe_type_same r.type i;
    parent = maybe_class_same r.parent i;
    has_init = r.has_init;
  }

  pub rows_same : (rows : List Row) → rows_to g rows ≡ rows
  rows_same [] = refl
  rows_same (r ∷ rows) = λ i. row_same r i ∷ rows_same rows i

  pub fair : (rows : List Row) → AreRows rows → HaveNoDots rows → IsFair rows g
  fair rows are dots = record {
    are = subst AreRows (sym (rows_same rows)) are;
    names = λ k n is. dots k n is;
    string = class_same (top_key (codes "String"));
    class = class_same (top_key (codes "Class"));
  }
