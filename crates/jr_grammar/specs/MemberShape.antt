-- Which trees are members, classes and compilation units: the side conditions (JLS 7.3, 8).
use Rattle.std.specs.Prelude.{◌≡◌, ℕ, Bool, true, false, List, [], ◌∷◌, Option, Some, None}
use Rattle.jr_ast.specs.Tree.{Word, TypeName, Exps}
use Rattle.jr_ast.specs.MemberTree.{Class, class, Member, field, method, constructor, inner}
use Rattle.jr_ast.specs.MemberTree.{Members, end, more, Unit as UnitTree}
use Rattle.jr_grammar.specs.Shape.{IsNamed, AllShaped}
use Rattle.jr_grammar.specs.StatementShape.{ShapedValue, StmtsShaped}

-- A superclass is named; `int` and `boolean` are none (JLS 8.1.4).
abbrev pub IsParent : {A : Type 0} → Option (TypeName A) → Type 0
IsParent None = Unit {0}
IsParent (Some t) = IsNamed t

-- The word of a constructor is its class's name (JLS 8.8).
abbrev pub IsNamedAs : {A : Type 0} → List ℕ → Word A → Type 0
IsNamedAs name w = w.text ≡ name

-- the arguments of a written `super(..)` (JLS 8.8.7.1)
abbrev pub ShapedArgs : {A : Type 0} → Option (Exps A) → Type 0
ShapedArgs None = Unit {0}
ShapedArgs (Some es) = AllShaped es

-- Whether a class may hold classes: one that is itself a member of a class may not.
abbrev pub HoldsClasses : Bool → Type 0
HoldsClasses true = ⊥
HoldsClasses false = Unit {0}

-- `nested` says whether the class is itself a member of a class (JLS 8.5).
abbrev mutual
  pub ClassShaped : {A : Type 0} → Bool → Class A → Type 0
  ClassShaped nested (class m ms w parent all) = IsParent parent × MembersShaped nested w.text all

  -- a member of the class that has the name
  pub MemberShaped : {A : Type 0} → Bool → List ℕ → Member A → Type 0
  MemberShaped nested name (field m ms t w init) = ShapedValue init
  MemberShaped nested name (method m ms t w ps body) = StmtsShaped body
  MemberShaped nested name (constructor m ms w ps args body) =
      IsNamedAs name w × ShapedArgs args × StmtsShaped body
  MemberShaped nested name (inner m c) = HoldsClasses nested × ClassShaped true c

  pub MembersShaped : {A : Type 0} → Bool → List ℕ → Members A → Type 0
  MembersShaped nested name end = Unit {0}
  MembersShaped nested name (more d ds) = MemberShaped nested name d × MembersShaped nested name ds

abbrev pub ClassesShaped : {A : Type 0} → List (Class A) → Type 0
ClassesShaped [] = Unit {0}
ClassesShaped (c ∷ cs) = ClassShaped false c × ClassesShaped cs

abbrev pub UnitShaped : {A : Type 0} → UnitTree A → Type 0
UnitShaped u = ClassesShaped u.classes
