-- Of the prelude's methods one is told, of changes of dispatch one is the first.
use Rattle.std.proofs.Common.{◌≡◌, ℕ, zero, suc, ◌<◌, ◌≤◌, List, [], ◌∷◌, ◌++◌, All, Some, codes, refl, sym, ap, subst, ◌∙◌, inl, inr, le_antisymm, arith}
use Rattle.std.specs.Prelude.{◌⊎◌, slice_get}
use Rattle.std.proofs.lemmas.Option.{same_Some}
use Rattle.jr_table.specs.declared.entries.Entry.{Entry}
use Rattle.jr_table.specs.declared.entries.Kind.{Kind}
use Rattle.jr_table.specs.Keys.{ClassKey, MethodKey, CtorKey}
use Rattle.jr_table.specs.Decls.{Decl, class_decl, field_decl, method_decl, constructor_decl, local_decl}
use Rattle.jr_table.specs.Rows.{Row}
use Rattle.jr_table.specs.Prelude.{prelude_rows, top_key, object_key, thread_key}
use Rattle.jr_table.specs.Entries.{IsRowOf, name_of, entry_of, entries_of}
use Rattle.jr_table.specs.Conditions.{AreRows}
use Rattle.jr_table.specs.Members.{DeclaresVirtual}
use Rattle.jr_table.specs.Keyed.{Overrides, DispatchesTo}
use Rattle.jr_table.proofs.RowLaws.{some_inside, entry_stands}
use Rattle.jr_names.specs.DeclTexts.{decl_text}
use Rattle.jr_images.specs.Targets.{IsOfPrelude}
use Rattle.jr_images.specs.Families.{InFamily, itself, above, below}
use Rattle.jr_images.specs.Images.{Renaming}
use Rattle.jr_images.specs.Refusals.{HasPreludeMethod, ChangesPrelude}
use Rattle.jr_images.specs.Regions.{images_of}
use Rattle.jr_plan.specs.Reasons.{ChangesDispatch, IsFirstChange}
use Rattle.jr_rename_laws.specs.OnePlan.{AreAlike}
use Rattle.jr_rename_laws.proofs.Alike.{class_same, method_same, rows_same}
use Rattle.jr_rename_laws.proofs.OneClash.{one_of_row}

-- ---- a family has one name

named_so : (rows : List Row) (name : List ℕ) (params : List Kind) (c j : ℕ) (m : MethodKey) → DeclaresVirtual (entries_of rows) name params c j → IsRowOf rows (method_decl m) j → m.name ≡ name
named_so rows name params c j m v is =
    ap name_of (sym is.declares) ∙ ap (λ (e : Entry). e.name) (some_inside (slice_get (entries_of rows) j) (entry_of rows is.row) v.declared.row (entry_stands rows j is.row is.stands) v.declared.stands) ∙ v.declared.named

over_named : (rows : List Row) (m n : MethodKey) → Overrides rows m n → m.name ≡ n.name
over_named rows m n h =
    let o = h.overrides in
    named_so rows o.name o.params o.c h.j m o.over h.over ∙ sym (named_so rows o.name o.params o.d h.k n o.under h.under)

family_named : (rows : List Row) (m n : MethodKey) → InFamily rows m n → m.name ≡ n.name
family_named rows m n itself = refl
family_named rows m n (above {n = k} o h) = over_named rows m k o ∙ family_named rows k n h
family_named rows m n (below {n = k} o h) = sym (over_named rows k m o) ∙ family_named rows k n h

-- ---- the prelude's methods

no_class : (c : ClassKey) (k : MethodKey) → class_decl c ≡ method_decl k → ⊥
no_class c k e = absurd cc

no_ctor : (c : CtorKey) (k : MethodKey) → constructor_decl c ≡ method_decl k → ⊥
no_ctor c k e = absurd cc

method_key : (m k : MethodKey) → method_decl m ≡ method_decl k → m ≡ k
method_key m k e = cc

decl_is : (x row : Row) (d : Decl) → Some x ≡ Some row → row.decl ≡ d → x.decl ≡ d
decl_is x row d e is = ap (λ (r : Row). r.decl) (same_Some x row e) ∙ is

-- `run` and `start` of Thread
method_at : (own : List Row) (j : ℕ) (row : Row) (k : MethodKey) → j < 8 → slice_get (prelude_rows ++ own) j ≡ Some row → row.decl ≡ method_decl k → (k ≡ thread_key (codes "run")) ⊎ (k ≡ thread_key (codes "start"))
method_at own zero row k lt e is = absurd (no_class (top_key (codes "Object")) k (decl_is _ row (method_decl k) e is))
method_at own (suc zero) row k lt e is = absurd (no_ctor (record { class = object_key; params = [] }) k (decl_is _ row (method_decl k) e is))
method_at own (suc (suc zero)) row k lt e is = absurd (no_class (top_key (codes "String")) k (decl_is _ row (method_decl k) e is))
method_at own (suc (suc (suc zero))) row k lt e is = absurd (no_class (top_key (codes "Class")) k (decl_is _ row (method_decl k) e is))
method_at own (suc (suc (suc (suc zero)))) row k lt e is = absurd (no_class (top_key (codes "Thread")) k (decl_is _ row (method_decl k) e is))
method_at own (suc (suc (suc (suc (suc zero))))) row k lt e is = absurd (no_ctor (record { class = top_key (codes "Thread"); params = [] }) k (decl_is _ row (method_decl k) e is))
method_at own (suc (suc (suc (suc (suc (suc zero)))))) row k lt e is = inl (sym (method_key (thread_key (codes "run")) k (decl_is _ row (method_decl k) e is)))
method_at own (suc (suc (suc (suc (suc (suc (suc zero))))))) row k lt e is = inr (sym (method_key (thread_key (codes "start")) k (decl_is _ row (method_decl k) e is)))
method_at own (suc (suc (suc (suc (suc (suc (suc (suc j)))))))) row k lt e is = absurd (omega (arith, lt))

abbrev first_code : List ℕ → ℕ
first_code [] = 0
first_code (x ∷ xs) = x

apart : codes "run" ≡ codes "start" → ⊥
apart e = let n : 114 ≡ 115 = ap first_code e in omega (arith, n)

module _ (rows : List Row) (fit : AreRows rows) where
  in_prelude : (m : MethodKey) → IsOfPrelude rows (method_decl m) → (m ≡ thread_key (codes "run")) ⊎ (m ≡ thread_key (codes "start"))
  in_prelude m p = method_at fit.own p.0 p.2.row m p.1 (sym (ap (λ (rs : List Row). slice_get rs p.0) fit.prelude) ∙ p.2.stands) p.2.declares

  one_of_prelude : (m n : MethodKey) → m.name ≡ n.name → IsOfPrelude rows (method_decl m) → IsOfPrelude rows (method_decl n) → m ≡ n
  one_of_prelude m n e p q = by (in_prelude m p) (in_prelude n q)
    where
      by : (m ≡ thread_key (codes "run")) ⊎ (m ≡ thread_key (codes "start")) → (n ≡ thread_key (codes "run")) ⊎ (n ≡ thread_key (codes "start")) → m ≡ n
      by (inl a) (inl b) = a ∙ sym b
      by (inr a) (inr b) = a ∙ sym b
      by (inl a) (inr b) = absurd (apart (sym (ap (λ (k : MethodKey). k.name) a) ∙ e ∙ ap (λ (k : MethodKey). k.name) b))
      by (inr a) (inl b) = absurd (apart (sym (ap (λ (k : MethodKey). k.name) b) ∙ sym e ∙ ap (λ (k : MethodKey). k.name) a))

  one_text : (d : Decl) (t u : List ℕ) → HasPreludeMethod rows d t → HasPreludeMethod rows d u → t ≡ u
  one_text (method_decl k) t u x y =
      x.3 ∙ ap (λ (m : MethodKey). decl_text (method_decl m)) (one_of_prelude x.0 y.0 (sym (family_named rows k x.0 x.1) ∙ family_named rows k y.0 y.1) x.2 y.2) ∙ sym y.3
  one_text (class_decl k) t u x y = absurd x
  one_text (field_decl k) t u x y = absurd x
  one_text (constructor_decl k) t u x y = absurd x
  one_text (local_decl k) t u x y = absurd x

  pub one_told : (d : Decl) (new t u : List ℕ) → ChangesPrelude rows d new t → ChangesPrelude rows d new u → t ≡ u
  one_told d new t u (inl x) (inl y) = one_text d t u x y
  one_told d new t u (inl x) (inr y) = absurd (y.0 t x)
  one_told d new t u (inr x) (inl y) = absurd (x.0 u y)
  one_told d new t u (inr x) (inr y) = x.3 ∙ sym y.3

-- ---- dispatch

pub other_way : (g h : Renaming) → AreAlike g h → AreAlike h g
other_way g h alike = record { members = λ e. ((alike.members e).1, (alike.members e).0); name = sym alike.name }

pub change_to : (rows : List Row) (g h : Renaming) → AreAlike g h → (k : ClassKey) (m : MethodKey) → ChangesDispatch rows (images_of rows h) k m → ChangesDispatch rows (images_of rows g) k m
change_to rows g h alike k m x = record {
  was = x.was;
  now = x.now;
  old = x.old;
  new = subst (λ (z : List Row × ClassKey × MethodKey). DispatchesTo z.0 z.1 z.2 x.now) (λ i. (sym (rows_same g h alike rows) i, sym (class_same g h alike k) i, sym (method_same g h alike m) i)) x.new;
  changed = λ e. x.changed (e ∙ method_same g h alike x.was);
}

pub one_change : (rows : List Row) (g h : Renaming) → AreAlike g h → (k l : ClassKey) (m n : MethodKey) → IsFirstChange rows (images_of rows g) k m → IsFirstChange rows (images_of rows h) l n → (k ≡ l) × (m ≡ n)
one_change rows g h alike k l m n x y =
    let there = change_to rows g h alike l n y.changes in
    let here = change_to rows h g (other_way g h alike) k m x.changes in
    let class = class_key k l (one_of_row rows (class_decl k) (class_decl l) x.class_at y.class_at (le_antisymm (x.first_class l n y.class_at there y.class_row) (y.first_class k m x.class_at here x.class_row)) x.class_row y.class_row) in
    let below = x.first_method n y.method_at (subst (λ (z : ClassKey). ChangesDispatch rows (images_of rows g) z n) (sym class) there) y.method_row in
    let over = y.first_method m x.method_at (subst (λ (z : ClassKey). ChangesDispatch rows (images_of rows h) z m) class here) x.method_row in
    (class, method_key m n (one_of_row rows (method_decl m) (method_decl n) x.method_at y.method_at (le_antisymm below over) x.method_row y.method_row))
  where
    class_key : (a b : ClassKey) → class_decl a ≡ class_decl b → a ≡ b
    class_key a b e = cc
