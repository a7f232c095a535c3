-- What stands in front of a dot, and the types of arguments.
use Rattle.std.specs.Prelude.{
  ◌≡◌,
  ℕ,
  suc,
  List,
  [],
  ◌∷◌,
  Option,
  Some,
  None,
  map,
}
use Rattle.jr_ast.specs.Tree as tree
use Rattle.jr_table.specs.Keys.{ClassKey, Ty, class}
use Rattle.jr_table.specs.Decls.{Decl, class_decl}
use Rattle.jr_table.specs.declared.types.Ty as raw_ty
use Rattle.jr_table.specs.TypeView.{class_key_of, ty_of}
use Rattle.jr_table.specs.Rows.{Row}
use Rattle.jr_table.specs.Context.{Context}
use Rattle.jr_table.specs.Binding.{HasType, IsClassName, IsOn, HaveTypes}
use Rattle.jr_table.specs.Meanings.{with_first}
use Rattle.jr_new_bodies.specs.declared.meanings.Before as raw
use Rattle.jr_new_bodies.specs.declared.meanings.Before.TheVariants as before

abbrev pub class_in : Decl → Option ClassKey
class_in (class_decl k) = Some k
class_in _ = None

-- a value of this type
abbrev pub IsValueIn : Option Ty → raw.Before → Type 0
IsValueIn t (before.Class k) = ⊥
IsValueIn t (before.Value k) = t ≡ Some (class (class_key_of k.now))
IsValueIn t before.Neither = (k : ClassKey) → t ≡ Some (class k) → ⊥

-- the words of what may be a class's name: the last one, and what stands in front of it
module _ {A : Type 0} where
  abbrev pub last_word : tree.Exp A → Option (tree.Word A)
  last_word (tree.name m w) = Some w
  last_word (tree.field m e w) = Some w
  last_word _ = None

  abbrev pub front : tree.Exp A → Option (tree.Exp A)
  front (tree.field m e w) = Some e
  front _ = None

  -- the expression in parentheses, or that is assigned, and a simple name
  abbrev pub within : tree.Exp A → Option (tree.Exp A)
  within (tree.paren m e) = Some e
  within (tree.assign m e f) = Some e
  within _ = None

  abbrev pub simple_name : tree.Exp A → Option (List ℕ)
  simple_name (tree.name m w) = Some w.text
  simple_name _ = None

module _ {A : Type 0} (rows : List Row) (c : Context) where
  -- in front of a dot the expression names this class
  abbrev pub IsNamed : tree.Exp A → Option ClassKey → Type 0
  IsNamed e None = (k : ClassKey) → IsClassName rows c e k → ⊥
  IsNamed e (Some k) = IsClassName rows c e k

  abbrev pub IsBefore : tree.Exp A → raw.Before → Type 0
  IsBefore e (before.Class k) = IsClassName rows c e (class_key_of k.now)
  IsBefore e (before.Value k) = ((j : ClassKey) → IsClassName rows c e j → ⊥)
      × HasType rows c e (class (class_key_of k.now))
  IsBefore e before.Neither = (k : ClassKey) → IsOn rows c e k → ⊥

  abbrev pub AreTypes : tree.Exps A → Option (List Ty) → Type 0
  AreTypes es None = (ts : List Ty) → HaveTypes rows c es ts → ⊥
  AreTypes es (Some ts) = HaveTypes rows c es ts

module _ {A : Type 0} (type_of : ℕ → Option Ty) where
  -- the types of arguments that have numbers from this one on, if each has one
  unfoldable pub types_from : (first : ℕ) → (count : List A) → Option (List Ty)
  types_from first [] = Some []
  types_from first (x ∷ xs) = with_first (type_of first) (types_from (suc first) xs)

abbrev pub types_of : List raw_ty.Ty → List Ty
types_of ts = map ty_of ts
