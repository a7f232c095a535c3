-- Members, classes and files side by side, of one shape but for references, written types, declared
-- names and spots. jr_rewrite has the same without spots (`AlongMembers`).
use Rattle.std.specs.Prelude.{◌≡◌, ◌⊎◌, ℕ, List, [], ◌∷◌, length, Option, Some, None, true, false}
use Rattle.jr_ast.specs.Tree as tree
use Rattle.jr_ast.specs.StatementTree as statement
use Rattle.jr_ast.specs.MemberTree as syntax
use Rattle.jr_table.specs.Keys.{ClassKey}
use Rattle.jr_table.specs.Decls.{MemberKey}
use Rattle.jr_table.specs.Binding.{Role}
use Rattle.jr_table.specs.Context.{Context}
use Rattle.jr_table.specs.HeadRules.{plain, with_parameters, is_static_member}
use Rattle.jr_table.specs.DeclaredItems.{DeclaredItem, class_key}
use Rattle.jr_table.specs.Errors.{Declares}
use Rattle.jr_rewrite.specs.Rewritten.{Rewritten}
use Rattle.jr_rewrite.specs.Spots.{Asks, Spotted, nowhere, spotted}
use Rattle.jr_rewrite.specs.AlongMembers.{mod_words, AlongParams, AlongResult, AlongParent}
use Rattle.jr_kept_references.specs.AlongSpots.{RowAlong}
use Rattle.jr_kept_references.specs.StatementsAlong.{MaybeBeside, ListBeside}

-- members of a class, or a class, have become what a spot makes of them, without a loss
abbrev pub MembersSpotStands : {A : Type 0} → Spotted A → (base : ℕ) → ClassKey → syntax.Members A
    → syntax.Members A → Type 0
MembersSpotStands nowhere b of xs ys = ⊥
MembersSpotStands {A} (spotted s) b of xs ys =
    (o : Rewritten (syntax.Members A)) × s.members b of xs o × (o.losses ≡ []) × (ys ≡ o.tree)

abbrev pub ClassSpotStands : {A : Type 0} → Spotted A → (base : ℕ) → Option (List ℕ)
    → syntax.Class A → syntax.Class A → Type 0
ClassSpotStands nowhere b outer x y = ⊥
ClassSpotStands {A} (spotted s) b outer x y =
    (o : Rewritten (syntax.Class A)) × s.whole b outer x o × (o.losses ≡ []) × (y ≡ o.tree)

-- members, and a class, may be rewritten node by node
abbrev pub MembersStay : {A : Type 0} → Spotted A → (base : ℕ) → ClassKey → syntax.Members A
    → Type 0
MembersStay nowhere b of xs = Unit {0}
MembersStay (spotted s) b of xs = s.members_stay b of xs

abbrev pub ClassStays : {A : Type 0} → Spotted A → (base : ℕ) → Option (List ℕ) → syntax.Class A
    → Type 0
ClassStays nowhere b outer x = Unit {0}
ClassStays (spotted s) b outer x = s.whole_stays b outer x

-- What holds of references, written types, expressions and lists that are spots as in
-- `StatementsAlong`; `S` of the arguments of a written `super(..)`, `H` of a superclass, by the
-- class around it; `M` of members that are a spot, `N` of a class that is. `to`: what a member's
-- key has become.
module _ {A B : Type 0} (begins : A → ℕ → ℕ) (begins' : B → ℕ → ℕ)
    (P : Context → Context → Role → (base : ℕ) → tree.Exp A → (base' : ℕ) → tree.Exp B → Type 0)
    (T : Context → Context → (base : ℕ) → tree.TypeName A → (base' : ℕ) → tree.TypeName B → Type 0)
    (Q : Asks → Context → Context → Role → (base : ℕ) → tree.Exp A → (base' : ℕ) → tree.Exp B
    → Type 0)
    (L : (next next' : ℕ) → Context → Context → (base : ℕ) → statement.Stmts A → (base' : ℕ)
    → statement.Stmts B → Type 0)
    (S : Context → Context → tree.Exps A → tree.Exps B → Type 0)
    (H : Option (List ℕ) → (base : ℕ) → tree.TypeName A → (base' : ℕ) → tree.TypeName B → Type 0)
    (M : (base : ℕ) → ClassKey → syntax.Members A → syntax.Members B → Type 0)
    (N : (base : ℕ) → Option (List ℕ) → syntax.Class A → syntax.Class B → Type 0)
    (to : MemberKey → MemberKey) where
  abbrev pub SuperBeside : Context → Context → (base base' : ℕ) → Option (tree.Exps A)
      → Option (tree.Exps B) → Type 0
  SuperBeside c d b i None es = es ≡ None
  SuperBeside c d b i (Some args) es = (xs : tree.Exps B) × (es ≡ Some xs) × S c d args xs
      × RowAlong begins begins' P T Q c d b i args xs

  -- a member that is no class
  abbrev pub MemberBeside : MemberKey → (base base' : ℕ) → syntax.Member A → syntax.Member B
      → Type 0
  MemberBeside k b i (syntax.field m mods t w init) y = (j : B) × (ms : List (syntax.Modifier B))
      × (u : tree.TypeName B) × (v : tree.Word B) × (z : Option (tree.Exp B))
      × (y ≡ syntax.field j ms u v z) × (mod_words ms ≡ mod_words mods)
      × T (plain k false) (plain (to k) false) (begins m b) t (begins' j i) u
      × MaybeBeside begins begins' P T Q L (plain k (is_static_member begins mods))
      (plain (to k) (is_static_member begins' ms)) (begins m b) (begins' j i) init z
  MemberBeside k b i (syntax.method m mods t w ps body) y = (j : B)
      × (ms : List (syntax.Modifier B)) × (u : Option (tree.TypeName B)) × (v : tree.Word B)
      × (qs : List (syntax.Param B)) × (z : statement.Stmts B)
      × (y ≡ syntax.method j ms u v qs z) × (mod_words ms ≡ mod_words mods)
      × AlongResult begins begins' P T S H to k (begins m b) (begins' j i) t u
      × AlongParams begins begins' P T S H to k (begins m b) (begins' j i) ps qs
      × ListBeside begins begins' P T Q L (length ps) (length ps)
      (with_parameters k (is_static_member begins mods) ps)
      (with_parameters (to k) (is_static_member begins' ms) qs) (begins m b) (begins' j i) body z
  MemberBeside k b i (syntax.constructor m mods w ps args body) y = (j : B)
      × (ms : List (syntax.Modifier B)) × (v : tree.Word B) × (qs : List (syntax.Param B))
      × (es : Option (tree.Exps B)) × (z : statement.Stmts B)
      × (y ≡ syntax.constructor j ms v qs es z) × (mod_words ms ≡ mod_words mods)
      × AlongParams begins begins' P T S H to k (begins m b) (begins' j i) ps qs
      × SuperBeside (with_parameters k true ps) (with_parameters (to k) true qs) (begins m b)
      (begins' j i) args es
      × ListBeside begins begins' P T Q L (length ps) (length ps) (with_parameters k false ps)
      (with_parameters (to k) false qs) (begins m b) (begins' j i) body z
  MemberBeside k b i (syntax.inner m of) y = ⊥

  module _ (declarations : List DeclaredItem) where
    unfoldable mutual
      pub ClassBeside : (base base' : ℕ) → Option (List ℕ) → syntax.Class A → syntax.Class B
          → Type 0
      ClassBeside b i outer (syntax.class m mods w t ms) y = (j : B)
          × (ns : List (syntax.Modifier B)) × (v : tree.Word B) × (u : Option (tree.TypeName B))
          × (ys : syntax.Members B) × (y ≡ syntax.class j ns v u ys)
          × (mod_words ns ≡ mod_words mods)
          × AlongParent begins begins' P T S H to outer (begins m b) (begins' j i) t u
          × (MembersBeside (begins m b) (begins' j i) (class_key begins outer w.text) ms ys
          ⊎ M (begins m b) (class_key begins outer w.text) ms ys)

      pub MembersBeside : (base base' : ℕ) → ClassKey → syntax.Members A → syntax.Members B
          → Type 0
      MembersBeside b i of syntax.end ys = ys ≡ syntax.end
      MembersBeside b i of (syntax.more x xs) ys = (z : syntax.Member B) × (zs : syntax.Members B)
          × (ys ≡ syntax.more z zs) × OneBeside b i of x z
          × (MembersBeside b i of xs zs ⊎ M b of xs zs)

      -- a member of the class by its key, or a member class
      pub OneBeside : (base base' : ℕ) → ClassKey → syntax.Member A → syntax.Member B → Type 0
      OneBeside b i of (syntax.inner m c) y = (j : B) × (d : syntax.Class B)
          × (y ≡ syntax.inner j d) × (ClassBeside (begins m b) (begins' j i) (Some of.name) c d
          ⊎ N (begins m b) (Some of.name) c d)
      OneBeside b i of (syntax.field m mods t w init) y = (k : MemberKey)
          × Declares begins declarations b of (syntax.field m mods t w init) k
          × MemberBeside k b i (syntax.field m mods t w init) y
      OneBeside b i of (syntax.method m mods t w ps body) y = (k : MemberKey)
          × Declares begins declarations b of (syntax.method m mods t w ps body) k
          × MemberBeside k b i (syntax.method m mods t w ps body) y
      OneBeside b i of (syntax.constructor m mods w ps args body) y = (k : MemberKey)
          × Declares begins declarations b of (syntax.constructor m mods w ps args body) k
          × MemberBeside k b i (syntax.constructor m mods w ps args body) y

    abbrev pub ClassesBeside : (base base' : ℕ) → List (syntax.Class A) → List (syntax.Class B)
        → Type 0
    ClassesBeside b i [] ys = ys ≡ []
    ClassesBeside b i (c ∷ cs) ys = (d : syntax.Class B) × (ds : List (syntax.Class B))
        × (ys ≡ d ∷ ds) × (ClassBeside b i None c d ⊎ N b None c d) × ClassesBeside b i cs ds

    abbrev pub UnitBeside : syntax.Unit A → syntax.Unit B → Type 0
    UnitBeside u v = ClassesBeside (begins u.mark 0) (begins' v.mark 0) u.classes v.classes
