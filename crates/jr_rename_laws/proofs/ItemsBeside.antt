-- Sites of two programs side by side, where a class is renamed: keys are images, and each written
-- type of the new program names the image of what the old one does.
use Rattle.std.proofs.Common.{◌≡◌, ℕ, zero, suc, List, [], ◌∷◌, ◌++◌, Option, Some, None, true, refl, ap, subst}
use Rattle.std.specs.Prelude.{slice_get, map, is_some}
use Rattle.jr_table.specs.Keys.{ClassKey, Ty}
use Rattle.jr_table.specs.Decls.{class_decl}
use Rattle.jr_table.specs.Rows.{Row}
use Rattle.jr_table.specs.Prelude.{top_key}
use Rattle.jr_table.specs.Found.{one}
use Rattle.jr_table.specs.HeadRules.{TopFinds}
use Rattle.jr_table.specs.DeclaredItems.{DeclaredInit, Written, named, DeclaredParam, DeclaredClass, DeclaredField, DeclaredMethod, DeclaredCtor, Item, class_item, field_item, method_item, ctor_item, DeclaredItem}
use Rattle.jr_images.specs.Images.{Renaming, class_to, type_to, rows_to}
use Rattle.jr_rename_laws.proofs.WrittenTypes.{WrittenAs}

module _ (rows : List Row) (g : Renaming) where
  -- in the body of a class: the type that is written, and its image
  pub record TypeTo (of : ClassKey) (w v : Written) : Type 0 where
    pub type : Ty
    pub old : WrittenAs rows of w type
    pub new : WrittenAs (rows_to g rows) (class_to g of) v (type_to g type)

  -- of a top-level class the superclass is a top-level class
  pub record TopTo (w v : List ℕ) : Type 0 where
    pub class : ClassKey
    pub old : TopFinds rows w (one (class_decl class))
    pub new : TopFinds (rows_to g rows) v (one (class_decl (class_to g class)))

  abbrev pub ParentTo : Option (List ℕ) → Option Written → Option Written → Type 0
  ParentTo o None None = Unit {0}
  ParentTo o None (Some v) = ⊥
  ParentTo o (Some w) None = ⊥
  ParentTo None (Some (named a None w)) (Some (named b None v)) = TopTo w v
  ParentTo None _ _ = ⊥
  ParentTo (Some o) (Some w) (Some v) = TypeTo (top_key o) w v

  abbrev pub ResultTo : ClassKey → Option Written → Option Written → Type 0
  ResultTo of None None = Unit {0}
  ResultTo of (Some w) (Some v) = TypeTo of w v
  ResultTo of _ _ = ⊥

  abbrev pub ParamsTo : ClassKey → List DeclaredParam → List DeclaredParam → Type 0
  ParamsTo of [] [] = Unit {0}
  ParamsTo of (p ∷ ps) (q ∷ qs) = TypeTo of p.type q.type × (q.name ≡ p.name) × ParamsTo of ps qs
  ParamsTo of _ _ = ⊥

  pub record ClassTo (c d : DeclaredClass) : Type 0 where
    pub key : d.key ≡ class_to g c.key
    pub words : d.modifiers ≡ c.modifiers
    pub ctor : d.has_ctor ≡ c.has_ctor
    pub parent : ParentTo c.key.outer c.parent d.parent

  pub record FieldTo (f h : DeclaredField) : Type 0 where
    pub of : h.of ≡ class_to g f.of
    pub name : h.name ≡ f.name
    pub words : h.modifiers ≡ f.modifiers
    pub type : TypeTo f.of f.type h.type
    pub init : is_some h.init ≡ is_some f.init
    -- one that a static field may have stays so
    pub simple : (i j : DeclaredInit) → f.init ≡ Some i → h.init ≡ Some j → i.is_simple ≡ true → j.is_simple ≡ true

  pub record MethodTo (m n : DeclaredMethod) : Type 0 where
    pub of : n.of ≡ class_to g m.of
    pub name : n.name ≡ m.name
    pub words : n.modifiers ≡ m.modifiers
    pub result : ResultTo m.of m.result n.result
    pub params : ParamsTo m.of m.params n.params

  pub record CtorTo (c d : DeclaredCtor) : Type 0 where
    pub of : d.of ≡ class_to g c.of
    pub words : d.modifiers ≡ c.modifiers
    pub params : ParamsTo c.of c.params d.params

  abbrev pub ItemTo : Item → Item → Type 0
  ItemTo (class_item c) (class_item d) = ClassTo c d
  ItemTo (field_item c) (field_item d) = FieldTo c d
  ItemTo (method_item c) (method_item d) = MethodTo c d
  ItemTo (ctor_item c) (ctor_item d) = CtorTo c d
  ItemTo _ _ = ⊥

  abbrev pub ItemsTo : List Item → List Item → Type 0
  ItemsTo [] [] = Unit {0}
  ItemsTo (x ∷ xs) (y ∷ ys) = ItemTo x y × ItemsTo xs ys
  ItemsTo _ _ = ⊥

  abbrev pub DeclarationsTo : List DeclaredItem → List DeclaredItem → Type 0
  DeclarationsTo [] [] = Unit {0}
  DeclarationsTo (s ∷ ss) (t ∷ ts) = (s.file ≡ t.file) × ItemTo s.item t.item × DeclarationsTo ss ts
  DeclarationsTo _ _ = ⊥

  pub items_join : (xs ys us vs : List Item) → ItemsTo xs ys → ItemsTo us vs → ItemsTo (xs ++ us) (ys ++ vs)
  items_join [] [] us vs h k = k
  items_join [] (y ∷ ys) us vs h k = absurd h
  items_join (x ∷ xs) [] us vs h k = absurd h
  items_join (x ∷ xs) (y ∷ ys) us vs h k = (h.0, items_join xs ys us vs h.1 k)

  pub declarations_join : (file : ℕ) (xs ys : List Item) (ss ts : List DeclaredItem) → ItemsTo xs ys → DeclarationsTo ss ts
      → DeclarationsTo (map (λ (i : Item). record { file = file; item = i }) xs ++ ss) (map (λ (i : Item). record { file = file; item = i }) ys ++ ts)
  declarations_join file [] [] ss ts h k = k
  declarations_join file [] (y ∷ ys) ss ts h k = absurd h
  declarations_join file (x ∷ xs) [] ss ts h k = absurd h
  declarations_join file (x ∷ xs) (y ∷ ys) ss ts h k = (refl, h.0, declarations_join file xs ys ss ts h.1 k)

  -- the class in the place of a class
  abbrev pub ClassAt : List DeclaredItem → ℕ → DeclaredClass → Type 0
  ClassAt ss i c = (file : ℕ) × (slice_get ss i ≡ Some (record { file = file; item = class_item c }))

  class_beside : (x y : Item) → ItemTo x y → (c : DeclaredClass) → x ≡ class_item c → (d : DeclaredClass) × (y ≡ class_item d) × ClassTo c d
  class_beside (class_item c) (class_item d) h b e = let same : c ≡ b = cc in (d, refl, subst (λ (z : DeclaredClass). ClassTo z d) same h)
  class_beside (class_item c) (field_item d) h b e = absurd h
  class_beside (class_item c) (method_item d) h b e = absurd h
  class_beside (class_item c) (ctor_item d) h b e = absurd h
  class_beside (field_item c) y h b e = absurd cc
  class_beside (method_item c) y h b e = absurd cc
  class_beside (ctor_item c) y h b e = absurd cc

  class_behind : (x y : Item) → ItemTo x y → (d : DeclaredClass) → y ≡ class_item d → (c : DeclaredClass) × (x ≡ class_item c) × ClassTo c d
  class_behind (class_item c) (class_item d) h b e = let same : d ≡ b = cc in (c, refl, subst (λ (z : DeclaredClass). ClassTo c z) same h)
  class_behind (class_item c) (field_item d) h b e = absurd cc
  class_behind (class_item c) (method_item d) h b e = absurd cc
  class_behind (class_item c) (ctor_item d) h b e = absurd cc
  class_behind (field_item c) (class_item d) h b e = absurd h
  class_behind (field_item c) (field_item d) h b e = absurd cc
  class_behind (field_item c) (method_item d) h b e = absurd cc
  class_behind (field_item c) (ctor_item d) h b e = absurd cc
  class_behind (method_item c) (class_item d) h b e = absurd h
  class_behind (method_item c) (field_item d) h b e = absurd cc
  class_behind (method_item c) (method_item d) h b e = absurd cc
  class_behind (method_item c) (ctor_item d) h b e = absurd cc
  class_behind (ctor_item c) (class_item d) h b e = absurd h
  class_behind (ctor_item c) (field_item d) h b e = absurd cc
  class_behind (ctor_item c) (method_item d) h b e = absurd cc
  class_behind (ctor_item c) (ctor_item d) h b e = absurd cc

  some_declaration : (s t : DeclaredItem) → Some s ≡ Some t → s ≡ t
  some_declaration s t e = cc

  pub class_forth : (ss ts : List DeclaredItem) → DeclarationsTo ss ts → (i : ℕ) (c : DeclaredClass) → ClassAt ss i c → (d : DeclaredClass) × ClassAt ts i d × ClassTo c d
  class_forth [] ts h i c (f, e) = absurd cc
  class_forth (s ∷ ss) [] h i c (f, e) = absurd h
  class_forth (s ∷ ss) (t ∷ ts) h zero c (f, e) =
      let r = class_beside s.item t.item h.1 c (ap (λ (x : DeclaredItem). x.item) (some_declaration s (record { file = f; item = class_item c }) e)) in
      (r.0, (t.file, λ n. Some (record { file = t.file; item = r.1 n })), r.2)
  class_forth (s ∷ ss) (t ∷ ts) h (suc i) c (f, e) = class_forth ss ts h.2 i c (f, e)

  pub class_back : (ss ts : List DeclaredItem) → DeclarationsTo ss ts → (i : ℕ) (d : DeclaredClass) → ClassAt ts i d → (c : DeclaredClass) × ClassAt ss i c × ClassTo c d
  class_back [] [] h i d (f, e) = absurd cc
  class_back [] (t ∷ ts) h i d (f, e) = absurd h
  class_back (s ∷ ss) [] h i d (f, e) = absurd h
  class_back (s ∷ ss) (t ∷ ts) h zero d (f, e) =
      let r = class_behind s.item t.item h.1 d (ap (λ (x : DeclaredItem). x.item) (some_declaration t (record { file = f; item = class_item d }) e)) in
      (r.0, (s.file, λ n. Some (record { file = s.file; item = r.1 n })), r.2)
  class_back (s ∷ ss) (t ∷ ts) h (suc i) d (f, e) = class_back ss ts h.2 i d (f, e)
