-- The references and declared names of statements, members and files that stay.
use Rattle.std.specs.Prelude.{
  ◌≡◌,
  ◌⊎◌,
  ℕ,
  suc,
  ◌+◌,
  List,
  [],
  ◌∷◌,
  length,
  Option,
  Some,
  None,
  true,
  false,
  slice_get,
}
use Rattle.jr_text.specs.declared.spans.Span.{Span}
use Rattle.jr_text.specs.Edits.{Entry}
use Rattle.jr_ast.specs.Tree as tree
use Rattle.jr_ast.specs.StatementTree as statement
use Rattle.jr_ast.specs.MemberTree as syntax
use Rattle.jr_grammar.specs.Layout.{itself}
use Rattle.jr_table.specs.Keys.{ClassKey}
use Rattle.jr_table.specs.Decls.{MemberKey, Decl, class_decl, local_decl}
use Rattle.jr_table.specs.Binding.{value}
use Rattle.jr_table.specs.Binding as role
use Rattle.jr_table.specs.Context.{Context, local_of, local_key, in_own, after, locals_in}
use Rattle.jr_table.specs.HeadRules.{plain as no_locals, with_parameters, is_static_member}
use Rattle.jr_table.specs.DeclaredItems.{DeclaredItem, declarations_of, class_key}
use Rattle.jr_table.specs.Errors.{Declares}
use Rattle.jr_bind.specs.Programs.{Program, units_of}
use Rattle.jr_rewrite.specs.Rewritten.{Rewritten}
use Rattle.jr_rewrite.specs.Edited.{entries_of}
use Rattle.jr_rewrite.specs.Rewrites.{Choosing, declared_by}
use Rattle.jr_images.specs.Images.{Renaming}
use Rattle.jr_plan.specs.Transforms.{choosing_of}
use Rattle.jr_plan.specs.Renaming.{rename_of}
use Rattle.jr_rename_laws.specs.PlanLaws.{IsPlanIn}
use Rattle.jr_reference_changes.specs.Places.{
  Place,
  StandOnce,
  of_super,
  of_parent,
  of_parent_qualifier,
  of_declared,
  TypeStays,
  WrittenStays,
  ExpStays,
  RowStays,
  IsOfPlaces,
}

module _ {A : Type 0} (tells : A → ℕ → Span) (C : Choosing A) where
  abbrev pub begins : A → ℕ → ℕ
  begins m base = (tells m base).from

  abbrev pub MaybeStays : Context → (at : ℕ) → Option (tree.Exp A) → Place A → Type 0
  MaybeStays c b None s = ⊥
  MaybeStays c b (Some e) s = ExpStays tells C c value b e s

  unfoldable mutual
    -- the next local has this number
    pub StmtStays : (number : ℕ) → Context → (base : ℕ) → statement.Stmt A → Place A → Type 0
    StmtStays n c b (statement.local m f t w e) s = (WrittenStays tells C c (begins m b) t s
        ⊎ (s ≡ of_declared (local_decl (local_key c n)) (begins m b) w))
        ⊎ ExpStays tells C (in_own c (local_of c n f t w)) value (begins m b) e s
    StmtStays n c b (statement.eval m e) s = ExpStays tells C c role.statement (begins m b) e s
    StmtStays n c b (statement.branch m e x other) s = (ExpStays tells C c value (begins m b) e s
        ⊎ StmtStays n c (begins m b) x s) ⊎ ElseStays (n + locals_in x) c (begins m b) other s
    StmtStays n c b (statement.loop m e x) s =
        ExpStays tells C c value (begins m b) e s ⊎ StmtStays n c (begins m b) x s
    StmtStays n c b (statement.return m e) s = MaybeStays c (begins m b) e s
    StmtStays n c b (statement.block m body) s = StmtsStays n c (begins m b) body s
    StmtStays n c b (statement.sync m e body) s =
        ExpStays tells C c value (begins m b) e s ⊎ StmtsStays n c (begins m b) body s
    StmtStays n c b (statement.empty m) s = ⊥

    pub ElseStays : (number : ℕ) → Context → (base : ℕ) → statement.Else A → Place A → Type 0
    ElseStays n c b statement.no_else s = ⊥
    ElseStays n c b (statement.otherwise x) s = StmtStays n c b x s

    pub StmtsStays : (number : ℕ) → Context → (base : ℕ) → statement.Stmts A → Place A → Type 0
    StmtsStays n c b statement.end s = ⊥
    StmtsStays n c b (statement.more x xs) s =
        StmtStays n c b x s ⊎ StmtsStays (n + locals_in x) (after n c x) b xs s

  -- ---- members

  -- parameters, which have numbers from this one on
  abbrev pub ParamsStay : MemberKey → (number : ℕ) → (base : ℕ) → List (syntax.Param A) → Place A
      → Type 0
  ParamsStay k n b [] s = ⊥
  ParamsStay k n b (p ∷ ps) s =
      (WrittenStays tells C (no_locals k false) (begins p.mark b) p.type s
      ⊎ (s ≡ of_declared (local_decl (record { member = k; number = n })) (begins p.mark b) p.name))
      ⊎ ParamsStay k (suc n) b ps s

  abbrev pub ResultStays : MemberKey → (base : ℕ) → Option (tree.TypeName A) → Place A → Type 0
  ResultStays k b None s = ⊥
  ResultStays k b (Some t) s = WrittenStays tells C (no_locals k false) b t s

  -- the arguments of a written `super(..)`, and its constructor
  abbrev pub SuperStays : MemberKey → List (syntax.Param A) → (base : ℕ) → Option (tree.Exps A)
      → Place A → Type 0
  SuperStays k ps b None s = ⊥
  SuperStays k ps b (Some args) s =
      (s ≡ of_super k b ps args) ⊎ RowStays tells C (with_parameters k true ps) b args s

  -- the member of this key, which is no class
  abbrev pub MemberStays : MemberKey → (base : ℕ) → syntax.Member A → Place A → Type 0
  MemberStays k b (syntax.field m mods t w init) s =
      (WrittenStays tells C (no_locals k false) (begins m b) t s
      ⊎ (s ≡ of_declared (declared_by k) (begins m b) w))
      ⊎ MaybeStays (no_locals k (is_static_member begins mods)) (begins m b) init s
  MemberStays k b (syntax.method m mods t w ps body) s =
      (ResultStays k (begins m b) t s ⊎ (s ≡ of_declared (declared_by k) (begins m b) w))
      ⊎ (ParamsStay k 0 (begins m b) ps s
      ⊎ StmtsStays (length ps) (with_parameters k (is_static_member begins mods) ps) (begins m b)
      body s)
  MemberStays k b (syntax.constructor m mods w ps args body) s =
      ((s ≡ of_declared (declared_by k) (begins m b) w) ⊎ ParamsStay k 0 (begins m b) ps s)
      ⊎ (SuperStays k ps (begins m b) args s
      ⊎ StmtsStays (length ps) (with_parameters k false ps) (begins m b) body s)
  MemberStays k b (syntax.inner m of) s = ⊥

  -- the superclass of a class, by the class around it
  abbrev pub ParentStays : Option (List ℕ) → (base : ℕ) → Option (tree.TypeName A) → Place A
      → Type 0
  ParentStays outer b None s = ⊥
  ParentStays outer b (Some t) s =
      TypeStays tells C (of_parent outer b t) (of_parent_qualifier outer b t) t s

  -- ---- programs

  module _ (declarations : List DeclaredItem) where
    abbrev pub KeyedStays : (base : ℕ) → ClassKey → syntax.Member A → Place A → Type 0
    KeyedStays b of x s =
        (k : MemberKey) × Declares begins declarations b of x k × MemberStays k b x s

    unfoldable mutual
      pub ClassStays : (base : ℕ) → Option (List ℕ) → syntax.Class A → Place A → Type 0
      ClassStays b outer (syntax.class m mods w t ms) s =
          ((s ≡ of_declared (class_decl (class_key begins outer w.text)) (begins m b) w)
          ⊎ ParentStays outer (begins m b) t s)
          ⊎ MembersStay (begins m b) (class_key begins outer w.text) ms s

      pub MembersStay : (base : ℕ) → ClassKey → syntax.Members A → Place A → Type 0
      MembersStay b of syntax.end s = ⊥
      MembersStay b of (syntax.more x xs) s = OneStays b of x s ⊎ MembersStay b of xs s

      pub OneStays : (base : ℕ) → ClassKey → syntax.Member A → Place A → Type 0
      OneStays b of (syntax.inner m c) s = ClassStays (begins m b) (Some of.name) c s
      OneStays b of (syntax.field m mods t w init) s =
          KeyedStays b of (syntax.field m mods t w init) s
      OneStays b of (syntax.method m mods t w ps body) s =
          KeyedStays b of (syntax.method m mods t w ps body) s
      OneStays b of (syntax.constructor m mods w ps args body) s =
          KeyedStays b of (syntax.constructor m mods w ps args body) s

    abbrev pub ClassesStay : (base : ℕ) → List (syntax.Class A) → Place A → Type 0
    ClassesStay b [] s = ⊥
    ClassesStay b (c ∷ cs) s = ClassStays b None c s ⊎ ClassesStay b cs s

    abbrev pub UnitStays : syntax.Unit A → Place A → Type 0
    UnitStays u s = ClassesStay (begins u.mark 0) u.classes s

-- ---- renames

-- the files of a program, in their order, as a rename of these declarations makes them, and the
-- edits of each
module _ (p : Program Span) (g : Renaming) (files : List (Rewritten (syntax.Unit Span)))
    (edits : List (List Entry)) where
  abbrev pub chosen : Choosing Span
  chosen = choosing_of p (rename_of p g)

  -- the file is rewritten at the places that stay in it, and nowhere else
  pub record IsOfItsPlaces (number : ℕ) (u : syntax.Unit Span) : Type 0 where
    pub file : Rewritten (syntax.Unit Span)
    pub made : slice_get files number ≡ Some file
    pub edits_are : slice_get edits number ≡ Some (entries_of file.changes)
    pub of_places : IsOfPlaces itself chosen (UnitStays itself chosen
        (declarations_of (begins itself chosen) (units_of p)) u) file
    pub once : StandOnce of_places.all

  abbrev pub AreOfPlaces : Type 0
  AreOfPlaces = (number : ℕ) (u : syntax.Unit Span) → slice_get (units_of p) number ≡ Some u
      → IsOfItsPlaces number u

-- whatever rename is planned
abbrev pub PlansAreOfPlaces : Type 0
PlansAreOfPlaces = (p : Program Span) (text : List ℕ) (file at : ℕ) (new : List ℕ)
    (edits : List (List Entry)) (renaming : List (Decl × Decl)) (respelled : ℕ)
    → (is : IsPlanIn p text file at new edits renaming respelled)
    → AreOfPlaces p is.planned.found.g is.planned.becomes.files edits
