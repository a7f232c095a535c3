-- An image is its own image: where a class is renamed, and where none is.
use Rattle.std.proofs.Common.{◌≡◌, ℕ, List, [], ◌∷◌, Option, Some, None, Bool, true, false, refl, sym, ap, subst, ◌∙◌}
use Rattle.std.specs.Prelude.{if◌then◌else◌}
use Rattle.jr_table.specs.Keys.{ClassKey, FieldKey, MethodKey, Ty, int, boolean, void, null, class}
use Rattle.jr_table.specs.Decls.{Decl, class_decl, field_decl, method_decl, constructor_decl, local_decl}
use Rattle.jr_table.specs.Rows.{Row}
use Rattle.jr_table.specs.Prelude.{top_key}
use Rattle.jr_images.specs.Families.{AreRenamed}
use Rattle.jr_images.specs.Images.{Renaming, is_renamed, name_to, outer_to, class_to, type_to, types_to, field_to, method_to}
use Rattle.jr_images.proofs.KeyImages.{keeps_name, class_same, types_same}
use Rattle.jr_rename_laws.proofs.Still.{with_target, is_with, without_target, gets_name}
use Rattle.jr_kept_runs.specs.TablesAgree.{StaysOnce}

-- ---- names

gets_again : (g : Renaming) (d : Decl) → name_to g d g.name ≡ g.name
gets_again g d = by (is_renamed g d)
  where
    by : (b : Bool) → (if b then g.name else g.name) ≡ g.name
    by true = refl
    by false = refl

-- what keeps its name has an image that keeps it
name_twice : (g : Renaming) (d e : Decl) (old : List ℕ) → (is_renamed g d ≡ false → is_renamed g e ≡ false) → name_to g e (name_to g d old) ≡ name_to g d old
name_twice g d e old later = by (is_renamed g d) refl
  where
    by : (b : Bool) → is_renamed g d ≡ b → name_to g e (name_to g d old) ≡ name_to g d old
    by true h = ap (λ (n : List ℕ). name_to g e n) (gets_name g d old h) ∙ gets_again g e ∙ sym (gets_name g d old h)
    by false h = ap (λ (n : List ℕ). name_to g e n) (keeps_name g d old h) ∙ keeps_name g e old (later h) ∙ sym (keeps_name g d old h)

outer_twice : (g : Renaming) (o : Option (List ℕ)) → outer_to g (outer_to g o) ≡ outer_to g o
outer_twice g None = refl
outer_twice g (Some n) = ap (λ (x : List ℕ). Some x) (name_twice g (class_decl (top_key n)) (class_decl (top_key (name_to g (class_decl (top_key n)) n))) n
    (λ h. subst (λ (x : List ℕ). is_renamed g (class_decl (top_key x)) ≡ false) (sym (keeps_name g (class_decl (top_key n)) n h)) h))

-- ---- keys, by classes and names

module _ (g : Renaming) (classes : (k : ClassKey) → class_to g (class_to g k) ≡ class_to g k) (fields : (k : FieldKey) → is_renamed g (field_decl k) ≡ false → is_renamed g (field_decl (field_to g k)) ≡ false)
    (methods : (k : MethodKey) → is_renamed g (method_decl k) ≡ false → is_renamed g (method_decl (method_to g k)) ≡ false) where
  type_twice : (t : Ty) → type_to g (type_to g t) ≡ type_to g t
  type_twice int = refl
  type_twice boolean = refl
  type_twice void = refl
  type_twice null = refl
  type_twice (class k) = ap class (classes k)

  types_twice : (ts : List Ty) → types_to g (types_to g ts) ≡ types_to g ts
  types_twice [] = refl
  types_twice (t ∷ ts) = λ i. type_twice t i ∷ types_twice ts i

  stays : StaysOnce g
  stays = record {
    class = classes;
    field = λ k i. record { class = classes k.class i; name = name_twice g (field_decl k) (field_decl (field_to g k)) k.name (fields k) i };
    method = λ k i. record { class = classes k.class i; name = name_twice g (method_decl k) (method_decl (method_to g k)) k.name (methods k) i; params = types_twice k.params i };
    constructor = λ k i. record { class = classes k.class i; params = types_twice k.params i };
  }

-- ---- where no class is renamed

module _ (g : Renaming) (unnamed : (k : ClassKey) → is_renamed g (class_decl k) ≡ false) where
  field_same : (k : FieldKey) → is_renamed g (field_decl k) ≡ false → field_to g k ≡ k
  field_same k h = λ i. record { class = class_same g unnamed k.class i; name = keeps_name g (field_decl k) k.name h i }

  method_same : (k : MethodKey) → is_renamed g (method_decl k) ≡ false → method_to g k ≡ k
  method_same k h = λ i. record { class = class_same g unnamed k.class i; name = keeps_name g (method_decl k) k.name h i; params = types_same g unnamed k.params i }

  of_member : StaysOnce g
  of_member = stays g (λ k. class_same g unnamed (class_to g k))
      (λ k h. subst (λ (z : FieldKey). is_renamed g (field_decl z) ≡ false) (sym (field_same k h)) h)
      (λ k h. subst (λ (z : MethodKey). is_renamed g (method_decl z) ≡ false) (sym (method_same k h)) h)

-- ---- where class t is renamed, and nothing else

module _ (rows : List Row) (t : ClassKey) (g : Renaming) (are : AreRenamed rows (class_decl t) g.decls) where
  itself_named : (k : ClassKey) → k ≡ t → is_renamed g (class_decl k) ≡ false → ⊥
  itself_named k e h = (let p : true ≡ false = sym (is_with rows (class_decl t) g are (class_decl k) (ap class_decl e)) ∙ h in cc)

  -- a class in one that is renamed is another
  outer_kept : (o : Option (List ℕ)) → outer_to g o ≡ t.outer → o ≡ t.outer
  outer_kept None e = e
  outer_kept (Some n) e = by (is_renamed g (class_decl (top_key n))) refl
    where
      by : (b : Bool) → is_renamed g (class_decl (top_key n)) ≡ b → Some n ≡ t.outer
      by true h =
          let same : class_decl (top_key n) ≡ class_decl t = with_target rows (class_decl t) g are (class_decl (top_key n)) h in
          let keys : top_key n ≡ t = cc in
          let none : None ≡ t.outer = ap (λ (z : ClassKey). z.outer) keys in
          absurd (let p : outer_to g (Some n) ≡ None = e ∙ sym none in cc)
      by false h = ap (λ (x : List ℕ). Some x) (sym (keeps_name g (class_decl (top_key n)) n h)) ∙ e

  class_later : (k : ClassKey) → is_renamed g (class_decl k) ≡ false → is_renamed g (class_decl (class_to g k)) ≡ false
  class_later k h = by (is_renamed g (class_decl (class_to g k))) refl
    where
      by : (b : Bool) → is_renamed g (class_decl (class_to g k)) ≡ b → b ≡ false
      by false e = refl
      by true e =
          let same : class_decl (class_to g k) ≡ class_decl t = with_target rows (class_decl t) g are (class_decl (class_to g k)) e in
          let keys : class_to g k ≡ t = cc in
          let outers : k.outer ≡ t.outer = outer_kept k.outer (ap (λ (z : ClassKey). z.outer) keys) in
          let names : k.name ≡ t.name = sym (keeps_name g (class_decl k) k.name h) ∙ ap (λ (z : ClassKey). z.name) keys in
          absurd (itself_named k (λ i. record { outer = outers i; name = names i }) h)

  field_never : (k : FieldKey) → is_renamed g (field_decl k) ≡ false
  field_never k = without_target rows (class_decl t) g are (field_decl k) (λ e. (let p : field_decl k ≡ class_decl t = e in cc))

  method_never : (k : MethodKey) → is_renamed g (method_decl k) ≡ false
  method_never k = without_target rows (class_decl t) g are (method_decl k) (λ e. (let p : method_decl k ≡ class_decl t = e in cc))

  of_class : StaysOnce g
  of_class = stays g (λ k i. record { outer = outer_twice g k.outer i; name = name_twice g (class_decl k) (class_decl (class_to g k)) k.name (class_later k) i })
      (λ k h. field_never (field_to g k)) (λ k h. method_never (method_to g k))

pub stays_once : (rows : List Row) (d : Decl) (g : Renaming) → AreRenamed rows d g.decls → StaysOnce g
stays_once rows (class_decl t) g are = of_class rows t g are
stays_once rows (field_decl t) g are = of_member g (λ k. without_target rows (field_decl t) g are (class_decl k) (λ e. (let p : class_decl k ≡ field_decl t = e in cc)))
stays_once rows (method_decl t) g are = of_member g (λ k. without_target rows (method_decl t) g are (class_decl k) (λ h. (let p : class_decl k ≡ method_decl h.0 = h.1 in cc)))
stays_once rows (constructor_decl t) g are = of_member g (λ k. without_target rows (constructor_decl t) g are (class_decl k) (λ e. (let p : class_decl k ≡ constructor_decl t = e in cc)))
stays_once rows (local_decl t) g are = of_member g (λ k. without_target rows (local_decl t) g are (class_decl k) (λ e. (let p : class_decl k ≡ local_decl t = e in cc)))
