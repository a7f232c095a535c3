-- Rows and locals of the new program: types of declarations go to their images.
use Rattle.std.proofs.Common.{◌≡◌, ℕ, zero, suc, List, [], ◌∷◌, Some, refl, sym, ap, subst, ◌∙◌}
use Rattle.std.specs.Prelude.{option_map, map, slice_get}
use Rattle.std.proofs.lemmas.Option.{slice_get-map}
use Rattle.jr_table.specs.Keys.{ClassKey, Ty}
use Rattle.jr_table.specs.Decls.{LocalKey, Decl, class_decl, field_decl, method_decl, constructor_decl, local_decl}
use Rattle.jr_table.specs.Rows.{Row}
use Rattle.jr_table.specs.Entries.{IsRowOf, class_of_member}
use Rattle.jr_table.specs.Scope.{Scope}
use Rattle.jr_table.specs.Context.{Context, Local, Knows, IsTypeOf, IsSuperclass, scope_of, scope_local}
use Rattle.jr_images.specs.Images.{Renaming, class_to, type_to, local_to, decl_to, row_to, rows_to, scope_to, scope_local_to}
use Rattle.jr_images.proofs.KeyImages.{member_class_to}
use Rattle.jr_images.specs.Standing.{LocalTo, LocalsTo, ContextTo}

module _ (g : Renaming) (rows : List Row) where
  -- a declaration's row has become that of its image
  abbrev pub row_image : (d : Decl) (j : ℕ) → IsRowOf rows d j → IsRowOf (rows_to g rows) (decl_to g d) j
  row_image d j i = record {
    row = row_to g i.row;
    stands = slice_get-map (row_to g) rows j ∙ ap (option_map (row_to g)) i.stands;
    declares = ap (decl_to g) i.declares;
  }

  row_type : (d e : Decl) (t : Ty) → e ≡ decl_to g d → ((j : ℕ) × (i : IsRowOf rows d j) × (i.row.type ≡ Some t))
      → (j : ℕ) × (i : IsRowOf (rows_to g rows) e j) × (i.row.type ≡ Some (type_to g t))
  row_type d e t same (j, i, type) = subst (λ (x : Decl). (j : ℕ) × (i : IsRowOf (rows_to g rows) x j) × (i.row.type ≡ Some (type_to g t))) (sym same)
      (j, row_image d j i, ap (option_map (type_to g)) type)

  pub superclass_image : (k p : ClassKey) → IsSuperclass rows k p → IsSuperclass (rows_to g rows) (class_to g k) (class_to g p)
  superclass_image k p (j, i, parent) = (j, row_image (class_decl k) j i, ap (option_map (class_to g)) parent)

  -- ---- locals

  module _ (s z : Scope) where
    local_there : (ls ms : List Local) → LocalsTo g rows s z ls ms → (n : ℕ) (l : Local) → slice_get ls n ≡ Some l
        → (m : Local) × (slice_get ms n ≡ Some m) × LocalTo g rows s z l m
    local_there [] ms h n l e = absurd cc
    local_there (x ∷ ls) [] h n l e = absurd h
    local_there (x ∷ ls) (y ∷ ms) h zero l e = (y, refl, let p : x ≡ l = cc in subst (λ (a : Local). LocalTo g rows s z a y) p h.0)
    local_there (x ∷ ls) (y ∷ ms) h (suc n) l e = local_there ls ms h.1 n l e

    local_back : (ls ms : List Local) → LocalsTo g rows s z ls ms → (n : ℕ) (m : Local) → slice_get ms n ≡ Some m
        → (l : Local) × (slice_get ls n ≡ Some l) × LocalTo g rows s z l m
    local_back [] [] h n m e = absurd cc
    local_back [] (y ∷ ms) h n m e = absurd h
    local_back (x ∷ ls) [] h n m e = absurd h
    local_back (x ∷ ls) (y ∷ ms) h zero m e = (x, refl, let p : y ≡ m = cc in subst (λ (a : Local). LocalTo g rows s z x a) p h.0)
    local_back (x ∷ ls) (y ∷ ms) h (suc n) m e = local_back ls ms h.1 n m e

    scope_locals : (ls ms : List Local) → LocalsTo g rows s z ls ms → map scope_local ms ≡ map (scope_local_to g) ls
    scope_locals [] [] h = refl
    scope_locals [] (m ∷ ms) h = absurd h
    scope_locals (l ∷ ls) [] h = absurd h
    scope_locals (l ∷ ls) (m ∷ ms) h = λ i. record { name = h.0.named i; key = h.0.key i } ∷ scope_locals ls ms h.1 i

  module _ (c d : Context) (stand : ContextTo g rows c d) where
    -- what lookup sees there
    pub scope_image : scope_of d ≡ scope_to g c
    scope_image = λ i. record {
      class = (ap class_of_member stand.member ∙ member_class_to g c.member) i;
      is_static = stand.static i;
      locals = scope_locals (scope_of c) (scope_of d) c.locals d.locals stand.locals i;
    }

    -- keys of one member are told apart by their numbers
    one_key : (j k : LocalKey) → j.member ≡ c.member → k.member ≡ c.member → local_to g j ≡ local_to g k → j ≡ k
    one_key j k a b e = let n : j.number ≡ k.number = ap (λ (x : LocalKey). x.number) e in λ i. record { member = (a ∙ sym b) i; number = n i }

    knows_image : (k : LocalKey) (l : Local) → Knows c k l → (m : Local) × Knows d (local_to g k) m × LocalTo g rows (scope_of c) (scope_of d) l m
    knows_image k l h = let there = local_there (scope_of c) (scope_of d) c.locals d.locals stand.locals h.number l h.stands in (
      there.0,
      record {
        number = h.number;
        stands = there.1;
        is = there.2.key ∙ ap (local_to g) h.is;
        last = λ i other below at e. let back = local_back (scope_of c) (scope_of d) c.locals d.locals stand.locals i other at in
            h.last i back.0 below back.1
            (one_key back.0.key k (stand.own i back.0 back.1) (sym (ap (λ (x : LocalKey). x.member) h.is) ∙ stand.own h.number l h.stands) (sym back.2.key ∙ e));
      },
      there.2,
    )

    -- declared types go to their images
    pub type_image : (x : Decl) (t : Ty) → IsTypeOf rows c x t → IsTypeOf (rows_to g rows) d (decl_to g x) (type_to g t)
    type_image (local_decl k) t (l, knows, type) = let m = knows_image k l knows in (m.0, m.1, m.2.type t type)
    type_image (class_decl k) t h = row_type (class_decl k) (class_decl (class_to g k)) t refl h
    type_image (field_decl k) t h = row_type (field_decl k) (decl_to g (field_decl k)) t refl h
    type_image (method_decl k) t h = row_type (method_decl k) (decl_to g (method_decl k)) t refl h
    type_image (constructor_decl k) t h = row_type (constructor_decl k) (decl_to g (constructor_decl k)) t refl h
