-- What a region keeps: each reference that is rewritten there is bound, by the new rows and by
-- binding's own relations, to the image of the declaration that it was bound to; each written type
-- means the image of the one that it meant; and what stands there now has the type that the region
-- tells.
use Rattle.std.specs.Prelude.{◌≡◌, ◌⊎◌, ℕ, List, [], Option, Some, None, false}
use Rattle.jr_ast.specs.Tree as tree
use Rattle.jr_table.specs.Keys.{ClassKey, CtorKey, Ty}
use Rattle.jr_table.specs.Decls.{Decl, class_decl, constructor_decl, head}
use Rattle.jr_table.specs.Rows.{Row}
use Rattle.jr_table.specs.Prelude.{top_key}
use Rattle.jr_table.specs.Found.{one}
use Rattle.jr_table.specs.Scope.{Scope}
use Rattle.jr_table.specs.Lookup.{FindsTypeNamed, FindsTypeOf}
use Rattle.jr_table.specs.Context.{Context, scope_of, NamesClass, WritesType}
use Rattle.jr_table.specs.HeadRules.{plain, TopFinds}
use Rattle.jr_table.specs.Binding.{
  HasType,
  IsClassName,
  Role,
  BindsItself,
  CreationFinds,
  SuperCtorFinds,
}
use Rattle.jr_rewrite.specs.Rewritten.{Rewritten}
use Rattle.jr_rewrite.specs.Spots.{Asks, Spotted, nowhere, spotted}
use Rattle.jr_images.specs.Regions.{image_at, itself, Region}
use Rattle.jr_images.specs.Keeping.{WasOnClass}
use Rattle.jr_kept_references.specs.InRegions.{
  rows_in,
  class_in,
  ctor_in,
  member_in,
  type_in,
}

-- ---- written types (JLS 6.5.5)

module _ {A : Type 0} (R : Region A) where
  -- as a type the one word finds the image of class o, and the other behind it that of class k
  abbrev pub FindBothIn : Scope → (o k : ClassKey) → (front back : List ℕ) → Type 0
  FindBothIn s o k front back =
      FindsTypeNamed (rows_in R) s front (one (class_decl (class_in R o)))
      × FindsTypeOf (rows_in R) s (class_in R o) back (one (class_decl (class_in R k)))

  -- a type is written by the new name of class k alone, or behind that of the class around it
  abbrev pub IsRespelledIn : {B : Type 0} → ClassKey → tree.TypeName B → Type 0
  IsRespelledIn {B} k u = (j : B) × (w : tree.Word B) × (w.text ≡ (class_in R k).name)
      × ((u ≡ tree.named j None w) ⊎ ((v : tree.Word B) × ((class_in R k).outer ≡ Some v.text)
      × (u ≡ tree.named j (Some v) w)))

  module _ {B : Type 0} (rows : List Row) where
    -- Of a type behind the name of class o, which was class k: a class stands in front of its dot,
    -- and is bound to the image of o, and the name behind it to that of k. Or else the two new
    -- names, looked up as they are, would not find the image of k, and the type is respelled, the
    -- old class in front gone.
    abbrev pub IsFrontKeptIn : (old new : Scope) → tree.TypeName A → tree.TypeName B → Type 0
    IsFrontKeptIn old new (tree.named m (Some v) w) u = (o k : ClassKey)
        → FindsTypeNamed rows old v.text (one (class_decl o))
        → FindsTypeOf rows old o w.text (one (class_decl k))
        → ((j : B) × (x y : tree.Word B) × (u ≡ tree.named j (Some x) y)
        × FindBothIn new o k x.text y.text)
        ⊎ ((NamesClass (rows_in R) new (Some (class_in R o).name) (class_in R k).name
        (class_in R k) → ⊥) × IsRespelledIn k u)
    IsFrontKeptIn old new _ u = Unit {0}

    pub record IsTypeKeptIn (old new : Scope) (t : tree.TypeName A) (u : tree.TypeName B)
        : Type 0 where
      pub means : (k : Ty) → WritesType rows old t k → WritesType (rows_in R) new u (type_in R k)
      pub front : IsFrontKeptIn old new t u

-- ---- expressions

module _ {A : Type 0} (begins : A → ℕ → ℕ) (rows : List Row) (R : Region A) (c d : Context) where
  -- what stands now in an expression's place: it has the type that the region tells, and is the
  -- image's name in front of a dot where it was a class's name
  pub record Becomes (x y : tree.Exp A) : Type 0 where
    pub typed : (t : Ty) → HasType rows c x t → HasType (rows_in R) d y (R.type_now c x t)
    pub named : (k : ClassKey) → IsClassName rows c x k
        → IsClassName (rows_in R) d y (class_in R k)
    pub apart : ((k : ClassKey) → IsClassName rows c x k → ⊥) → (k : ClassKey)
        → IsClassName (rows_in R) d y k → ⊥

  -- some reference of y itself is bound to the image of the declaration, which is not gone
  abbrev pub IsBoundToImage : Role → (base : ℕ) → tree.Exp A → Decl → Type 0
  IsBoundToImage r base y x = (z : Decl) × (image_at R.seen c x ≡ Some z)
      × ((at : ℕ) × BindsItself begins (rows_in R) d r base y at z)

  -- The reference of x itself has become that of y. A creation's is its constructor's: the names of
  -- classes as types are spoken of by `IsTypeKeptIn`.
  abbrev pub IsKeptIn : Role → (base : ℕ) → tree.Exp A → (base' : ℕ) → tree.Exp A → Type 0
  IsKeptIn r b (tree.create m t args) i y = (x : Decl) → CreationFinds rows c t args (one x)
      → IsBoundToImage r i y x
  IsKeptIn r b (tree.class_literal m t) i y = Unit {0}
  IsKeptIn r b (tree.cast m t e) i y = Unit {0}
  IsKeptIn r b (tree.field m e w) i y = ((at : ℕ) (x : Decl)
      → BindsItself begins rows c r b (tree.field m e w) at x → IsBoundToImage r i y x)
      × WasOnClass rows c e y
  IsKeptIn r b e i y = (at : ℕ) (x : Decl) → BindsItself begins rows c r b e at x
      → IsBoundToImage r i y x

  -- x has become y, and its own reference is kept
  pub record KeptIn (r : Role) (x y : tree.Exp A) : Type 0 where
    pub becomes : Becomes x y
    pub bound : (b i : ℕ) → IsKeptIn r b x i y

  -- a written `super(..)` finds a constructor, and what has become of it finds its image
  abbrev pub IsSuperKeptIn : (args es : tree.Exps A) → Type 0
  IsSuperKeptIn args es = (q : CtorKey) × SuperCtorFinds rows c args (one (constructor_decl q))
      × SuperCtorFinds (rows_in R) d es (one (constructor_decl (ctor_in R q)))

-- ---- spots

-- At a place and the one that stands for it: `this` stays only where nothing else stands for it;
-- and what a spot makes of an expression has the type that the region tells, and is a class's name
-- where the expression was one. A refactoring owes it of places that it knows (`RegionPlaces:
-- Standing`), where it loses nothing.
abbrev pub PartsBecome : {A : Type 0} (begins : A → ℕ → ℕ) (rows : List Row) → Region A → Spotted A
    → (c d : Context) → Type 0
PartsBecome begins rows R nowhere c d = R.receiver ≡ itself
PartsBecome {A} begins rows R (spotted s) c d = (s.this_stays → R.receiver ≡ itself)
    × ((k : Asks) (r : Role) (base : ℕ) (e : tree.Exp A) (o : Rewritten (tree.Exp A))
    → s.part k c r base e o → o.losses ≡ [] → Becomes begins rows R c d e o.tree)

-- ---- superclasses

module _ {A : Type 0} (rows : List Row) (R : Region A) where
  -- The superclass is the image of the one that it was: of a member class as it is seen from the
  -- body of the class around, of a top-level class among the top-level classes (JLS 8.1.4).
  abbrev pub IsTopKeptIn : tree.TypeName A → tree.TypeName A → Type 0
  IsTopKeptIn (tree.named m None w) u = (j : A) × (v : tree.Word A) × (u ≡ tree.named j None v)
      × ((k : ClassKey) → TopFinds rows w.text (one (class_decl k))
      → TopFinds (rows_in R) v.text (one (class_decl (class_in R k))))
  IsTopKeptIn _ u = Unit {0}

  abbrev pub IsParentKeptIn : Option (List ℕ) → (base : ℕ) → tree.TypeName A → (base' : ℕ)
      → tree.TypeName A → Type 0
  IsParentKeptIn None b t i u = IsTopKeptIn t u
  IsParentKeptIn (Some outer) b t i u =
      IsTypeKeptIn R rows (scope_of (plain (head (top_key outer)) false))
      (scope_of (plain (member_in R (head (top_key outer))) false)) t u
