-- The types and superclasses that members declare, as lookup finds them by the rows.
use Rattle.std.specs.Prelude.{ℕ, List, [], ◌∷◌, Option, Some, None, false, Contains, ◌⊎◌}
use Rattle.jr_ast.specs.Tree as tree
use Rattle.jr_ast.specs.MemberTree as syntax
use Rattle.jr_table.specs.Keys.{ClassKey}
use Rattle.jr_table.specs.Decls.{MemberKey, class_decl, head}
use Rattle.jr_table.specs.Rows.{Row}
use Rattle.jr_table.specs.Prelude.{top_key}
use Rattle.jr_table.specs.Entries.{class_of_member}
use Rattle.jr_table.specs.Conditions.{AreRows}
use Rattle.jr_table.specs.DeclaredItems.{declarations_of}
use Rattle.jr_table.specs.ProgramRows.{AreProgramRows}
use Rattle.jr_table.specs.Faults.{PackageLine, IsClean}
use Rattle.jr_table.specs.Found.{Found, one, not_accessible}
use Rattle.jr_table.specs.Scope.{Scope}
use Rattle.jr_table.specs.Lookup.{FindsTypeNamed, FindsTypeOf}
use Rattle.jr_table.specs.Context.{scope_of}
use Rattle.jr_table.specs.HeadRules.{plain, TopFinds}
use Rattle.jr_table.specs.Errors.{Part, class_part, member_part}
use Rattle.jr_members.specs.WrittenMembers.{WrittenMember, written_members}

-- the class is found, accessible or not
abbrev pub Tells : ClassKey → (Found → Type 0) → Type 0
Tells k Finds = Finds (one (class_decl k)) ⊎ Finds (not_accessible (class_decl k))

module _ {A : Type 0} (rows : List Row) where
  -- each name in the type finds a class
  abbrev pub TypeIsFound : Scope → tree.TypeName A → Type 0
  TypeIsFound s (tree.int m) = Unit {0}
  TypeIsFound s (tree.boolean m) = Unit {0}
  TypeIsFound s (tree.named m None w) = (k : ClassKey) × Tells k (FindsTypeNamed rows s w.text)
  TypeIsFound s (tree.named m (Some v) w) = (o : ClassKey) × (k : ClassKey)
      × Tells o (FindsTypeNamed rows s v.text) × Tells k (FindsTypeOf rows s o w.text)

  abbrev pub MaybeTypeIsFound : Scope → Option (tree.TypeName A) → Type 0
  MaybeTypeIsFound s None = Unit {0}
  MaybeTypeIsFound s (Some t) = TypeIsFound s t

  abbrev pub ParamTypesAreFound : Scope → List (syntax.Param A) → Type 0
  ParamTypesAreFound s [] = Unit {0}
  ParamTypesAreFound s (p ∷ ps) = TypeIsFound s p.type × ParamTypesAreFound s ps

  -- a superclass, by the class around; that of a top-level class is a simple name (JLS 8.1.4)
  abbrev pub ParentIsFound : Option (List ℕ) → tree.TypeName A → Type 0
  ParentIsFound (Some outer) t = TypeIsFound (scope_of (plain (head (top_key outer)) false)) t
  ParentIsFound None (tree.int m) = ⊥
  ParentIsFound None (tree.boolean m) = ⊥
  ParentIsFound None (tree.named m None w) =
      (k : ClassKey) × TopFinds rows w.text (one (class_decl k))
  ParentIsFound None (tree.named m (Some v) w) = ⊥

  abbrev pub MaybeParentIsFound : Option (List ℕ) → Option (tree.TypeName A) → Type 0
  MaybeParentIsFound outer None = Unit {0}
  MaybeParentIsFound outer (Some t) = ParentIsFound outer t

  -- those of a member
  abbrev pub DeclaresFound : MemberKey → Part A → Type 0
  DeclaresFound k (class_part (syntax.class m mods w t ms)) =
      MaybeParentIsFound (class_of_member k).outer t
  DeclaresFound k (member_part (syntax.field m mods t w init)) =
      TypeIsFound (scope_of (plain k false)) t
  DeclaresFound k (member_part (syntax.method m mods t w ps body)) =
      MaybeTypeIsFound (scope_of (plain k false)) t
      × ParamTypesAreFound (scope_of (plain k false)) ps
  DeclaresFound k (member_part (syntax.constructor m mods w ps args body)) =
      ParamTypesAreFound (scope_of (plain k false)) ps
  DeclaresFound k (member_part (syntax.inner m of)) = Unit {0}

abbrev pub DeclaredTypesAreFound : Type 0 → Type 0
DeclaredTypesAreFound A = (begins : A → ℕ → ℕ) (packages : List (Option PackageLine))
    (rows : List Row) (units : List (syntax.Unit A)) → AreRows rows
    → AreProgramRows (declarations_of begins units) rows → IsClean packages (declarations_of begins units)
    → (w : WrittenMember A) → Contains (written_members begins rows units) w
    → DeclaresFound rows w.key w.part
