-- What rows and scopes know of a declaration: what is looked up is what the relations say.
use Rattle.std.proofs.Common.{◌≡◌, ◌≢◌, ℕ, zero, suc, ◌<◌, List, [], ◌∷◌, Option, Some, None, Bool, true, false, refl, sym, ap, subst, ◌∙◌, arith, inl, inr}
use Rattle.std.specs.Prelude.{◌⊎◌, ◌↔◌, slice_get, option_and_then, option_map, if◌then◌else◌}
use Rattle.jr_ast.specs.Tree as tree
use Rattle.jr_table.specs.Keys.{ClassKey, Ty, int, boolean, void, null, class}
use Rattle.jr_table.specs.Decls.{LocalKey, Decl, class_decl, field_decl, method_decl, constructor_decl, local_decl}
use Rattle.jr_table.specs.Rows.{Row}
use Rattle.jr_table.specs.Conditions.{AreRows}
use Rattle.jr_table.specs.Entries.{IsRowOf, number_of}
use Rattle.jr_table.specs.SameDecls.{same_local, local_decides}
use Rattle.jr_table.specs.Found.{Found, one, nothing, many, not_accessible, from_static}
use Rattle.jr_table.specs.Scope.{Scope}
use Rattle.jr_table.specs.Lookup.{FindsTypeNamed, find_type_named, FindsTypeOf, find_type_of}
use Rattle.jr_table.specs.LookupLaws.{KeysAreFound}
use Rattle.jr_table.specs.Context.{LocalType, known, written, Local, Context, scope_of, outer_text, NamesClass, WritesType, IsLocalType, Knows, IsTypeOf, IsSuperclass}
use Rattle.jr_table.specs.Meanings.{first_some, row_of, test_row, class_found, named_class, written_type, type_of_local, local_of_key, type_of_decl, superclass_of, class_in}
use Rattle.jr_table.proofs.RowLaws.{number_stands, number_none}

pub chain : {P Q R : Type 0} → (P ↔ Q) → (Q ↔ R) → P ↔ R
chain f g = (λ p. g.0 (f.0 p), λ r. f.1 (g.1 r))

pub some_iff : {X : Type 0} (x y : X) → (Some x ≡ Some y) ↔ (y ≡ x)
some_iff x y = (λ e. let i : x ≡ y = cc in sym i, λ e. ap Some (sym e))

-- what follows where there is something
pub then_iff : {X Y : Type 0} (o : Option X) (f : X → Option Y) (y : Y) → (option_and_then f o ≡ Some y) ↔ ((x : X) × (o ≡ Some x) × (f x ≡ Some y))
then_iff None f y = (λ e. absurd cc, λ h. let x = h.1 in absurd cc)
then_iff (Some x) f y = (λ e. (x, refl, e), λ h. let i : x ≡ h.0 = cc in ap f i ∙ h.2)

pub map_iff : {X Y : Type 0} (o : Option X) (f : X → Y) (y : Y) → (option_map f o ≡ Some y) ↔ ((x : X) × (o ≡ Some x) × (y ≡ f x))
map_iff None f y = (λ e. absurd cc, λ h. let x = h.1 in absurd cc)
map_iff (Some x) f y = (λ e. let i : f x ≡ y = cc in (x, refl, sym i), λ h. let i : x ≡ h.0 = cc in ap Some (ap f i ∙ sym h.2))

pub class_found_iff : (f : Found) (k : ClassKey) → (class_found f ≡ Some k) ↔ (f ≡ one (class_decl k))
class_found_iff (one (class_decl j)) k = (λ e. let i : j ≡ k = cc in ap (λ x. one (class_decl x)) i, λ e. let i : j ≡ k = cc in ap Some i)
class_found_iff (one (field_decl j)) k = (λ e. absurd cc, λ e. absurd cc)
class_found_iff (one (method_decl j)) k = (λ e. absurd cc, λ e. absurd cc)
class_found_iff (one (constructor_decl j)) k = (λ e. absurd cc, λ e. absurd cc)
class_found_iff (one (local_decl j)) k = (λ e. absurd cc, λ e. absurd cc)
class_found_iff nothing k = (λ e. absurd cc, λ e. absurd cc)
class_found_iff (many a b) k = (λ e. absurd cc, λ e. absurd cc)
class_found_iff (not_accessible a) k = (λ e. absurd cc, λ e. absurd cc)
class_found_iff (from_static a) k = (λ e. absurd cc, λ e. absurd cc)

pub class_in_iff : (o : Option Ty) (k : ClassKey) → (class_in o ≡ Some k) ↔ (o ≡ Some (class k))
class_in_iff None k = (λ e. absurd cc, λ e. absurd cc)
class_in_iff (Some int) k = (λ e. absurd cc, λ e. absurd cc)
class_in_iff (Some boolean) k = (λ e. absurd cc, λ e. absurd cc)
class_in_iff (Some void) k = (λ e. absurd cc, λ e. absurd cc)
class_in_iff (Some null) k = (λ e. absurd cc, λ e. absurd cc)
class_in_iff (Some (class j)) k = (λ e. let i : j ≡ k = cc in ap (λ x. Some (class x)) i, λ e. let i : j ≡ k = cc in ap Some i)

-- locals

-- the last local of the key stands at some place
record LastAt (ls : List Local) (k : LocalKey) (l : Local) : Type 0 where
  pub number : ℕ
  pub stands : slice_get ls number ≡ Some l
  pub is : l.key ≡ k
  pub last : (i : ℕ) (other : Local) → number < i → slice_get ls i ≡ Some other → other.key ≢ k

none_of_key : (ls : List Local) (k : LocalKey) → local_of_key k ls ≡ None → (i : ℕ) (other : Local) → slice_get ls i ≡ Some other → other.key ≢ k
none_of_key [] k e i other at = absurd cc
none_of_key (l ∷ ls) k e i other at = of (local_of_key k ls) refl (same_local l.key k) refl e
    (λ none j there. none_of_key ls k none j other there)
  where
    later : (again : local_of_key k ls ≡ None → (j : ℕ) → slice_get ls j ≡ Some other → other.key ≢ k)
        → local_of_key k ls ≡ None → same_local l.key k ≡ false → (i : ℕ) → slice_get (l ∷ ls) i ≡ Some other → other.key ≢ k
    later again none differs zero at = λ same. let i : l ≡ other = cc in let t = (local_decides l.key k).1 (ap (λ (x : Local). x.key) i ∙ same) in absurd cc
    later again none differs (suc i) at = again none i at

    of : (o : Option Local) → local_of_key k ls ≡ o → (b : Bool) → same_local l.key k ≡ b → first_some o (if b then Some l else None) ≡ None
        → (again : local_of_key k ls ≡ None → (j : ℕ) → slice_get ls j ≡ Some other → other.key ≢ k) → other.key ≢ k
    of (Some x) oe b be h again = absurd cc
    of None oe true be h again = absurd cc
    of None oe false be h again = later again oe be i at

some_of_key : (ls : List Local) (k : LocalKey) (l : Local) → local_of_key k ls ≡ Some l → LastAt ls k l
some_of_key [] k l e = absurd cc
some_of_key (x ∷ ls) k l e = of (local_of_key k ls) refl (same_local x.key k) refl e (λ later. some_of_key ls k l later)
  where
    onward : (h : LastAt ls k l) → LastAt (x ∷ ls) k l
    onward h = record { number = suc h.number; stands = h.stands; is = h.is; last = after }
      where
        after : (i : ℕ) (other : Local) → suc h.number < i → slice_get (x ∷ ls) i ≡ Some other → other.key ≢ k
        after zero other lt at = absurd (omega arith)
        after (suc i) other lt at = h.last i other (omega arith) at

    here : local_of_key k ls ≡ None → same_local x.key k ≡ true → x ≡ l → LastAt (x ∷ ls) k l
    here none same is = record { number = 0; stands = ap Some is; is = sym (ap (λ (y : Local). y.key) is) ∙ (local_decides x.key k).0 same; last = after }
      where
        after : (i : ℕ) (other : Local) → 0 < i → slice_get (x ∷ ls) i ≡ Some other → other.key ≢ k
        after zero other lt at = absurd (omega arith)
        after (suc i) other lt at = none_of_key ls k none i other at

    of : (o : Option Local) → local_of_key k ls ≡ o → (b : Bool) → same_local x.key k ≡ b → first_some o (if b then Some x else None) ≡ Some l
        → (again : local_of_key k ls ≡ Some l → LastAt ls k l) → LastAt (x ∷ ls) k l
    of (Some y) oe b be h again = onward (again (oe ∙ h))
    of None oe true be h again = here oe be cc
    of None oe false be h again = absurd cc

-- two that stand last are one
one_last : (ls : List Local) (k : LocalKey) (x y : Local) → LastAt ls k x → LastAt ls k y → x ≡ y
one_last ls k x y h g = by (order h.number g.number)
  where
    order : (i j : ℕ) → ((i < j) ⊎ (j < i)) ⊎ (i ≡ j)
    order i j = grind arith

    by : (((h.number < g.number) ⊎ (g.number < h.number)) ⊎ (h.number ≡ g.number)) → x ≡ y
    by (inl (inl lt)) = absurd (h.last g.number y lt g.stands g.is)
    by (inl (inr lt)) = absurd (g.last h.number x lt h.stands h.is)
    by (inr e) = let s : Some x ≡ Some y = sym h.stands ∙ ap (slice_get ls) e ∙ g.stands in cc

pub local_iff : (c : Context) (k : LocalKey) (l : Local) → (local_of_key k c.locals ≡ Some l) ↔ Knows c k l
local_iff c k l = (to, back)
  where
    to : local_of_key k c.locals ≡ Some l → Knows c k l
    to e = let h = some_of_key c.locals k l e in record { number = h.number; stands = h.stands; is = h.is; last = h.last }

    back : Knows c k l → local_of_key k c.locals ≡ Some l
    back h = of (local_of_key k c.locals) refl
      where
        of : (o : Option Local) → local_of_key k c.locals ≡ o → local_of_key k c.locals ≡ Some l
        of None e = absurd (none_of_key c.locals k e h.number l h.stands h.is)
        of (Some x) e = e ∙ ap Some (one_last c.locals k x l (some_of_key c.locals k x e) (record { number = h.number; stands = h.stands; is = h.is; last = h.last }))

module _ (rows : List Row) (fit : AreRows rows) where
  pub row_iff : (d : Decl) (r : Row) → (row_of rows d ≡ Some r) ↔ ((j : ℕ) × (i : IsRowOf rows d j) × (i.row ≡ r))
  unfolding row_of
  row_iff d r = (to (number_of rows d) refl, back (number_of rows d) refl)
    where
      to : (o : Option ℕ) → number_of rows d ≡ o → option_and_then (λ j. slice_get rows j) o ≡ Some r → (j : ℕ) × (i : IsRowOf rows d j) × (i.row ≡ r)
      to None e h = absurd cc
      to (Some j) e h = let i = number_stands rows d j e in (j, i, let s : Some i.row ≡ Some r = sym i.stands ∙ h in cc)

      back : (o : Option ℕ) → number_of rows d ≡ o → ((j : ℕ) × (i : IsRowOf rows d j) × (i.row ≡ r)) → option_and_then (λ j. slice_get rows j) o ≡ Some r
      back None e (j, i, is) = absurd (number_none rows d e j i)
      back (Some n) e (j, i, is) = let same = fit.one_each d n j (number_stands rows d n e) i in ap (slice_get rows) same ∙ i.stands ∙ ap Some is

  -- a part of the row
  pub part_iff : {X : Type 0} (f : Row → Option X) (d : Decl) (x : X) → (option_and_then f (row_of rows d) ≡ Some x) ↔ ((j : ℕ) × (i : IsRowOf rows d j) × (f i.row ≡ Some x))
  part_iff f d x = chain (then_iff (row_of rows d) f x) (to, back)
    where
      to : ((r : Row) × (row_of rows d ≡ Some r) × (f r ≡ Some x)) → (j : ℕ) × (i : IsRowOf rows d j) × (f i.row ≡ Some x)
      to (r, e, h) = let s = (row_iff d r).0 e in (s.0, s.1, ap f s.2 ∙ h)

      back : ((j : ℕ) × (i : IsRowOf rows d j) × (f i.row ≡ Some x)) → (r : Row) × (row_of rows d ≡ Some r) × (f r ≡ Some x)
      back (j, i, h) = (i.row, (row_iff d i.row).1 (j, i, refl), h)

  -- a test of the row
  pub test_iff : (test : Row → Bool) (d : Decl) → (test_row test (row_of rows d) ≡ true) ↔ ((j : ℕ) × (i : IsRowOf rows d j) × (test i.row ≡ true))
  test_iff test d = (to (row_of rows d) refl, back (row_of rows d) refl)
    where
      to : (o : Option Row) → row_of rows d ≡ o → test_row test o ≡ true → (j : ℕ) × (i : IsRowOf rows d j) × (test i.row ≡ true)
      to None e h = absurd cc
      to (Some r) e h = let s = (row_iff d r).0 e in (s.0, s.1, ap test s.2 ∙ h)

      back : (o : Option Row) → row_of rows d ≡ o → ((j : ℕ) × (i : IsRowOf rows d j) × (test i.row ≡ true)) → test_row test o ≡ true
      back None e (j, i, h) = let s = (row_iff d i.row).1 (j, i, refl) in absurd cc
      back (Some r) e (j, i, h) = let s = (row_iff d i.row).1 (j, i, refl) in let same : r ≡ i.row = cc in ap test same ∙ h

  pub superclass_iff : (k p : ClassKey) → (superclass_of rows k ≡ Some p) ↔ IsSuperclass rows k p
  superclass_iff k p = part_iff (λ (r : Row). r.parent) (class_decl k) p

  module _ (found : KeysAreFound rows) where
    pub named_iff : (s : Scope) (outer : Option (List ℕ)) (name : List ℕ) (k : ClassKey) → (named_class rows s outer name ≡ Some k) ↔ NamesClass rows s outer name k
    named_iff s None name k = chain (class_found_iff (find_type_named rows s name) k) (found.type_named s name (one (class_decl k)))
    named_iff s (Some outer) name k = chain (then_iff (class_found (find_type_named rows s outer)) (λ o. class_found (find_type_of rows s o name)) k) (to, back)
      where
        left : (o : ClassKey) → (class_found (find_type_named rows s outer) ≡ Some o) ↔ FindsTypeNamed rows s outer (one (class_decl o))
        left o = chain (class_found_iff (find_type_named rows s outer) o) (found.type_named s outer (one (class_decl o)))

        right : (o : ClassKey) → (class_found (find_type_of rows s o name) ≡ Some k) ↔ FindsTypeOf rows s o name (one (class_decl k))
        right o = chain (class_found_iff (find_type_of rows s o name) k) (found.type_of s o name (one (class_decl k)))

        to : ((o : ClassKey) × (class_found (find_type_named rows s outer) ≡ Some o) × (class_found (find_type_of rows s o name) ≡ Some k)) → NamesClass rows s (Some outer) name k
        to (o, e, h) = (o, (left o).0 e, (right o).0 h)

        back : NamesClass rows s (Some outer) name k → (o : ClassKey) × (class_found (find_type_named rows s outer) ≡ Some o) × (class_found (find_type_of rows s o name) ≡ Some k)
        back (o, e, h) = (o, (left o).1 e, (right o).1 h)

    named_type_iff : (s : Scope) (outer : Option (List ℕ)) (name : List ℕ) (t : Ty) → (option_map class (named_class rows s outer name) ≡ Some t) ↔ ((k : ClassKey) × NamesClass rows s outer name k × (t ≡ class k))
    named_type_iff s outer name t = chain (map_iff (named_class rows s outer name) class t) (λ h. (h.0, (named_iff s outer name h.0).0 h.1, h.2), λ h. (h.0, (named_iff s outer name h.0).1 h.1, h.2))

    pub written_iff : {A : Type 0} (s : Scope) (of : tree.TypeName A) (t : Ty) → (written_type rows s of ≡ Some t) ↔ WritesType rows s of t
    written_iff s (tree.int m) t = some_iff int t
    written_iff s (tree.boolean m) t = some_iff boolean t
    written_iff s (tree.named m outer w) t = named_type_iff s (outer_text outer) w.text t

    pub local_type_iff : (s : Scope) (of : LocalType) (t : Ty) → (type_of_local rows s of ≡ Some t) ↔ IsLocalType rows s of t
    local_type_iff s (known u) t = some_iff u t
    local_type_iff s (written outer name) t = named_type_iff s outer name t

    pub decl_type_iff : (c : Context) (d : Decl) (t : Ty) → (type_of_decl rows c d ≡ Some t) ↔ IsTypeOf rows c d t
    decl_type_iff c (local_decl k) t = chain (then_iff (local_of_key k c.locals) (λ (l : Local). type_of_local rows (scope_of c) l.type) t)
        (λ h. (h.0, (local_iff c k h.0).0 h.1, (local_type_iff (scope_of c) h.0.type t).0 h.2), λ h. (h.0, (local_iff c k h.0).1 h.1, (local_type_iff (scope_of c) h.0.type t).1 h.2))
    decl_type_iff c (class_decl k) t = part_iff (λ (r : Row). r.type) (class_decl k) t
    decl_type_iff c (field_decl k) t = part_iff (λ (r : Row). r.type) (field_decl k) t
    decl_type_iff c (method_decl k) t = part_iff (λ (r : Row). r.type) (method_decl k) t
    decl_type_iff c (constructor_decl k) t = part_iff (λ (r : Row). r.type) (constructor_decl k) t
