-- What a renaming keeps: each reference is bound, in the new program's own binding, to the image of
-- the declaration that it was bound to; each written type means the image of the one that it meant,
-- and so does the class in front of its dot, unless the type is spelled otherwise.
use Rattle.std.specs.Prelude.{◌≡◌, ◌⊎◌, ℕ, List, Option, Some, None, false}
use Rattle.jr_ast.specs.Tree as tree
use Rattle.jr_table.specs.Keys.{ClassKey, CtorKey, Ty}
use Rattle.jr_table.specs.Decls.{Decl, class_decl, constructor_decl, head}
use Rattle.jr_table.specs.Rows.{Row}
use Rattle.jr_table.specs.Prelude.{top_key}
use Rattle.jr_table.specs.Found.{one}
use Rattle.jr_table.specs.Scope.{Scope}
use Rattle.jr_table.specs.Lookup.{FindsTypeNamed, FindsTypeOf}
use Rattle.jr_table.specs.Context.{Context, scope_of, NamesClass, WritesType}
use Rattle.jr_table.specs.Binding.{
  Role,
  IsClassName,
  BindsItself,
  CreationFinds,
  SuperCtorFinds,
}
use Rattle.jr_table.specs.HeadRules.{plain, TopFinds}
use Rattle.jr_images.specs.Images.{
  Renaming,
  class_to,
  ctor_to,
  member_to,
  type_to,
  decl_to,
  rows_to,
}

-- ---- written types (JLS 6.5.5)

module _ (g : Renaming) (rows : List Row) where
  -- as a type the one word finds the image of class o, and the other behind it that of class k
  abbrev pub FindBoth : Scope → (o k : ClassKey) → (front back : List ℕ) → Type 0
  FindBoth s o k front back =
      FindsTypeNamed (rows_to g rows) s front (one (class_decl (class_to g o)))
      × FindsTypeOf (rows_to g rows) s (class_to g o) back (one (class_decl (class_to g k)))

  -- a type is written by the new name of class k alone, or behind that of the class around it
  abbrev pub IsRespelled : {B : Type 0} → ClassKey → tree.TypeName B → Type 0
  IsRespelled {B} k u = (j : B) × (w : tree.Word B) × (w.text ≡ (class_to g k).name)
      × ((u ≡ tree.named j None w) ⊎ ((v : tree.Word B) × ((class_to g k).outer ≡ Some v.text)
      × (u ≡ tree.named j (Some v) w)))

module _ {A B : Type 0} (g : Renaming) (rows : List Row) where
  -- Of a type behind the name of class o, which was class k: a class stands in front of its dot,
  -- and is bound to the image of o, and the name behind it to that of k. Or else the two new names,
  -- looked up as they are, would not find the image of k, and the type is respelled, the old class
  -- in front gone.
  abbrev pub IsFrontKept : (old new : Scope) → tree.TypeName A → tree.TypeName B → Type 0
  IsFrontKept old new (tree.named m (Some v) w) u = (o k : ClassKey)
      → FindsTypeNamed rows old v.text (one (class_decl o))
      → FindsTypeOf rows old o w.text (one (class_decl k))
      → ((j : B) × (x y : tree.Word B) × (u ≡ tree.named j (Some x) y)
      × FindBoth g rows new o k x.text y.text)
      ⊎ ((NamesClass (rows_to g rows) new (Some (class_to g o).name) (class_to g k).name
      (class_to g k) → ⊥) × IsRespelled g rows k u)
  IsFrontKept old new _ u = Unit {0}

  pub record IsTypeKept (old new : Scope) (t : tree.TypeName A) (u : tree.TypeName B)
      : Type 0 where
    pub means : (k : Ty) → WritesType rows old t k → WritesType (rows_to g rows) new u (type_to g k)
    pub front : IsFrontKept old new t u

-- where nothing stands in front of it any more, a class stood there
abbrev pub WasOnClass : {A B : Type 0} → List Row → Context → tree.Exp A → tree.Exp B → Type 0
WasOnClass rows c e (tree.name k w) = (o : ClassKey) × IsClassName rows c e o
WasOnClass rows c e _ = Unit {0}

module _ {B : Type 0} (begins : B → ℕ → ℕ) (g : Renaming) (rows : List Row) where
  -- some reference of y itself is bound to the declaration, in the new program
  abbrev pub IsBoundTo : Context → Role → (base : ℕ) → tree.Exp B → Decl → Type 0
  IsBoundTo d r base y x = (at : ℕ) × BindsItself begins (rows_to g rows) d r base y at x

module _ {A B : Type 0} (begins : A → ℕ → ℕ) (begins' : B → ℕ → ℕ) (g : Renaming) (rows : List Row)
  where
    -- The reference of x itself has become that of y. A creation's is its constructor's: the names
    -- of classes as types are spoken of by `IsWritten`.
    abbrev pub IsKept : Context → Context → Role → (base : ℕ) → tree.Exp A → (base' : ℕ)
        → tree.Exp B → Type 0
    IsKept c d r b (tree.create m t args) i y = (x : Decl) → CreationFinds rows c t args (one x)
        → IsBoundTo begins' g rows d r i y (decl_to g x)
    IsKept c d r b (tree.class_literal m t) i y = Unit {0}
    IsKept c d r b (tree.cast m t e) i y = Unit {0}
    IsKept c d r b (tree.field m e w) i y = ((at : ℕ) (x : Decl)
        → BindsItself begins rows c r b (tree.field m e w) at x
        → IsBoundTo begins' g rows d r i y (decl_to g x)) × WasOnClass rows c e y
    IsKept c d r b e i y = (at : ℕ) (x : Decl) → BindsItself begins rows c r b e at x
        → IsBoundTo begins' g rows d r i y (decl_to g x)

    abbrev pub IsWritten : Context → Context → (base : ℕ) → tree.TypeName A → (base' : ℕ)
        → tree.TypeName B → Type 0
    IsWritten c d b t i u = IsTypeKept g rows (scope_of c) (scope_of d) t u

module _ {A B : Type 0} (g : Renaming) (rows : List Row) where
  -- a written `super(..)` finds a constructor, and what has become of it finds its image
  abbrev pub IsSuperKept : Context → Context → tree.Exps A → tree.Exps B → Type 0
  IsSuperKept c d args es = (q : CtorKey) × SuperCtorFinds rows c args (one (constructor_decl q))
      × SuperCtorFinds (rows_to g rows) d es (one (constructor_decl (ctor_to g q)))

  -- The superclass is the image of the one that it was: of a member class as it is seen from the
  -- body of the class around, of a top-level class among the top-level classes (JLS 8.1.4).
  abbrev pub IsTopKept : tree.TypeName A → tree.TypeName B → Type 0
  IsTopKept (tree.named m None w) u = (j : B) × (v : tree.Word B) × (u ≡ tree.named j None v)
      × ((k : ClassKey) → TopFinds rows w.text (one (class_decl k))
      → TopFinds (rows_to g rows) v.text (one (class_decl (class_to g k))))
  IsTopKept _ u = Unit {0}

  abbrev pub IsParentKept : Option (List ℕ) → (base : ℕ) → tree.TypeName A → (base' : ℕ)
      → tree.TypeName B → Type 0
  IsParentKept None b t i u = IsTopKept t u
  IsParentKept (Some outer) b t i u =
      IsTypeKept g rows (scope_of (plain (head (top_key outer)) false))
      (scope_of (plain (member_to g (head (top_key outer))) false)) t u
