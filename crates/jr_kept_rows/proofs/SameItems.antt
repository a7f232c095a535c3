-- The declarations of the new program beside those of the old one: the same, at other places.
use Rattle.std.proofs.Common.{◌≡◌, ℕ, zero, suc, List, [], ◌∷◌, ◌++◌, Some, refl, sym, ap, subst, ◌∙◌}
use Rattle.std.specs.Prelude.{map, is_some, slice_get}
use Rattle.jr_table.specs.DeclaredItems.{DeclaredParam, DeclaredClass, DeclaredField, DeclaredMethod, DeclaredCtor, Item, class_item, field_item, method_item, ctor_item, DeclaredItem}
use Rattle.jr_kept_rows.proofs.SameClasses.{Alike, MaybeAlike, maybe_back, ClassesGo}

pub record ClassTo (c d : DeclaredClass) : Type 0 where
  pub key : d.key ≡ c.key
  pub words : d.modifiers ≡ c.modifiers
  pub parent : MaybeAlike c.parent d.parent
  pub ctor : d.has_ctor ≡ c.has_ctor

-- parameters may have other names
abbrev pub ParamsTo : List DeclaredParam → List DeclaredParam → Type 0
ParamsTo [] [] = Unit {0}
ParamsTo (p ∷ ps) (q ∷ qs) = Alike p.type q.type × ParamsTo ps qs
ParamsTo _ _ = ⊥

pub record FieldTo (f h : DeclaredField) : Type 0 where
  pub of : h.of ≡ f.of
  pub name : h.name ≡ f.name
  pub words : h.modifiers ≡ f.modifiers
  pub type : Alike f.type h.type
  pub init : is_some h.init ≡ is_some f.init

pub record MethodTo (m n : DeclaredMethod) : Type 0 where
  pub of : n.of ≡ m.of
  pub name : n.name ≡ m.name
  pub words : n.modifiers ≡ m.modifiers
  pub result : MaybeAlike m.result n.result
  pub params : ParamsTo m.params n.params

pub record CtorTo (c d : DeclaredCtor) : Type 0 where
  pub of : d.of ≡ c.of
  pub words : d.modifiers ≡ c.modifiers
  pub params : ParamsTo c.params d.params

abbrev pub ItemTo : Item → Item → Type 0
ItemTo (class_item c) (class_item d) = ClassTo c d
ItemTo (field_item f) (field_item h) = FieldTo f h
ItemTo (method_item m) (method_item n) = MethodTo m n
ItemTo (ctor_item c) (ctor_item d) = CtorTo c d
ItemTo _ _ = ⊥

abbrev pub ItemsTo : List Item → List Item → Type 0
ItemsTo [] [] = Unit {0}
ItemsTo (x ∷ xs) (y ∷ ys) = ItemTo x y × ItemsTo xs ys
ItemsTo _ _ = ⊥

abbrev pub DeclarationsTo : List DeclaredItem → List DeclaredItem → Type 0
DeclarationsTo [] [] = Unit {0}
DeclarationsTo (s ∷ xs) (t ∷ ys) = (t.file ≡ s.file) × ItemTo s.item t.item × DeclarationsTo xs ys
DeclarationsTo _ _ = ⊥

pub items_join : (xs zs ys ws : List Item) → ItemsTo xs zs → ItemsTo ys ws → ItemsTo (xs ++ ys) (zs ++ ws)
items_join [] [] ys ws h i = i
items_join [] (z ∷ zs) ys ws h i = absurd h
items_join (x ∷ xs) [] ys ws h i = absurd h
items_join (x ∷ xs) (z ∷ zs) ys ws h i = (h.0, items_join xs zs ys ws h.1 i)

abbrev pub in_file : ℕ → List Item → List DeclaredItem
in_file file items = map (λ (i : Item). record { file = file; item = i }) items

pub declarations_join : (file : ℕ) (xs zs : List Item) (ys ws : List DeclaredItem) → ItemsTo xs zs → DeclarationsTo ys ws → DeclarationsTo (in_file file xs ++ ys) (in_file file zs ++ ws)
declarations_join file [] [] ys ws h i = i
declarations_join file [] (z ∷ zs) ys ws h i = absurd h
declarations_join file (x ∷ xs) [] ys ws h i = absurd h
declarations_join file (x ∷ xs) (z ∷ zs) ys ws h i = (refl, h.0, declarations_join file xs zs ys ws h.1 i)

-- by numbers
pub record Beside (i file : ℕ) (x y : Item) (xs ys : List DeclaredItem) : Type 0 where
  pub old : slice_get xs i ≡ Some (record { file = file; item = x })
  pub new : slice_get ys i ≡ Some (record { file = file; item = y })
  pub to : ItemTo x y

pub declaration_back : (xs ys : List DeclaredItem) → DeclarationsTo xs ys → (i file : ℕ) (y : Item) → slice_get ys i ≡ Some (record { file = file; item = y }) → (x : Item) × Beside i file x y xs ys
declaration_back [] [] h i file y e = absurd cc
declaration_back [] (t ∷ ys) h i file y e = absurd h
declaration_back (s ∷ xs) [] h i file y e = absurd h
declaration_back (s ∷ xs) (t ∷ ys) h zero file y e =
    let same : t ≡ record { file = file; item = y } = cc in (
      s.item,
      record {
        old = λ i. Some (record { file = (sym h.0 ∙ ap (λ (z : DeclaredItem). z.file) same) i; item = s.item });
        new = e;
        to = subst (λ (z : Item). ItemTo s.item z) (ap (λ (z : DeclaredItem). z.item) same) h.1;
      },
    )
declaration_back (s ∷ xs) (t ∷ ys) h (suc i) file y e = let r = declaration_back xs ys h.2 i file y e in (r.0, record { old = r.1.old; new = e; to = r.1.to })

pub declaration_forth : (xs ys : List DeclaredItem) → DeclarationsTo xs ys → (i file : ℕ) (x : Item) → slice_get xs i ≡ Some (record { file = file; item = x }) → (y : Item) × Beside i file x y xs ys
declaration_forth [] [] h i file x e = absurd cc
declaration_forth [] (t ∷ ys) h i file x e = absurd cc
declaration_forth (s ∷ xs) [] h i file x e = absurd h
declaration_forth (s ∷ xs) (t ∷ ys) h zero file x e =
    let same : s ≡ record { file = file; item = x } = cc in (
      t.item,
      record {
        old = e;
        new = λ i. Some (record { file = (h.0 ∙ ap (λ (z : DeclaredItem). z.file) same) i; item = t.item });
        to = subst (λ (z : Item). ItemTo z t.item) (ap (λ (z : DeclaredItem). z.item) same) h.1;
      },
    )
declaration_forth (s ∷ xs) (t ∷ ys) h (suc i) file x e = let r = declaration_forth xs ys h.2 i file x e in (r.0, record { old = e; new = r.1.new; to = r.1.to })

-- what an item of a kind stands beside
pub class_beside : (x : Item) (d : DeclaredClass) → ItemTo x (class_item d) → (c : DeclaredClass) × (x ≡ class_item c) × ClassTo c d
class_beside (class_item c) d h = (c, refl, h)
class_beside (field_item c) d h = absurd h
class_beside (method_item c) d h = absurd h
class_beside (ctor_item c) d h = absurd h

pub class_behind : (c : DeclaredClass) (y : Item) → ItemTo (class_item c) y → (d : DeclaredClass) × (y ≡ class_item d) × ClassTo c d
class_behind c (class_item d) h = (d, refl, h)
class_behind c (field_item d) h = absurd h
class_behind c (method_item d) h = absurd h
class_behind c (ctor_item d) h = absurd h

module _ (xs ys : List DeclaredItem) (to : DeclarationsTo xs ys) where
  pub classes_forth : ClassesGo xs ys
  classes_forth k at is =
      let r = declaration_forth xs ys to is.number is.file (class_item at) is.stands in
      let b = class_behind at r.0 r.1.to in (
        b.0,
        record {
          number = is.number;
          file = is.file;
          stands = r.1.new ∙ ap (λ (z : Item). Some (record { file = is.file; item = z })) b.1;
          is = b.2.key ∙ is.is;
        },
        b.2.words,
        b.2.parent,
      )

  pub classes_back : ClassesGo ys xs
  classes_back k at is =
      let r = declaration_back xs ys to is.number is.file (class_item at) is.stands in
      let b = class_beside r.0 at r.1.to in (
        b.0,
        record {
          number = is.number;
          file = is.file;
          stands = r.1.old ∙ ap (λ (z : Item). Some (record { file = is.file; item = z })) b.1;
          is = sym b.2.key ∙ is.is;
        },
        sym b.2.words,
        maybe_back b.0.parent at.parent b.2.parent,
      )
