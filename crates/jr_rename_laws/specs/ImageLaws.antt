-- Laws of the program that a renaming makes, as statements: its rows are the images of the old
-- rows, its declarations have no fault, and each member stands where the one stood whose image it
-- is.
use Rattle.std.specs.Prelude.{◌≡◌, ℕ, List, [], Option, Some, map, slice_get, length}
use Rattle.std.specs.List.{position_or_len}
use Rattle.jr_text.specs.declared.spans.Span.{Span}
use Rattle.jr_text.specs.Edits.{Entry}
use Rattle.jr_ast.specs.MemberTree as syntax
use Rattle.jr_ast.specs.Remarked.{map_unit}
use Rattle.jr_grammar.specs.Layout.{itself}
use Rattle.jr_table.specs.Keys.{ClassKey, FieldKey, MethodKey}
use Rattle.jr_table.specs.Decls.{
  MemberKey,
  LocalKey,
  Decl,
  class_decl,
  field_decl,
  method_decl,
  local_decl,
}
use Rattle.jr_table.specs.Rows.{Row}
use Rattle.jr_table.specs.Entries.{IsRowOf}
use Rattle.jr_table.specs.Conditions.{AreRows}
use Rattle.jr_table.specs.DeclaredItems.{DeclaredItem, declarations_of, class_key}
use Rattle.jr_table.specs.ProgramRows.{AreProgramRows}
use Rattle.jr_table.specs.Faults.{PackageLine, names_of, IsClean}
use Rattle.jr_table.specs.Errors.{Declares}
use Rattle.jr_bind.specs.Programs.{Program, units_of}
use Rattle.jr_spell.specs.Binds.{is_dot}
use Rattle.jr_rewrite.specs.Rewritten.{Rewritten}
use Rattle.jr_images.specs.Targets.{IsOfPrelude}
use Rattle.jr_images.specs.Families.{AreRenamed}
use Rattle.jr_images.specs.Images.{Renaming, class_to, member_to, rows_to}
use Rattle.jr_images.specs.Clashes.{IsClear}
use Rattle.jr_images.specs.Refusals.{HasPreludeMethod}
use Rattle.jr_images.specs.RenameLaws.{IsFair}
use Rattle.jr_images.specs.Renames.{Rewrite}
use Rattle.jr_plan.specs.Reasons.{IsPlanned}
use Rattle.jr_plan.specs.Renaming as rename
use Rattle.jr_rename_laws.specs.Beside.{UnitsBeside}

-- a mark that says nothing
abbrev pub no_mark : {A : Type 0} → A → Unit {0}
no_mark m = tt

-- a file's tree without its marks
abbrev pub without_marks : {A : Type 0} → syntax.Unit A → syntax.Unit (Unit {0})
without_marks u = map_unit no_mark u

module _ {A B : Type 0} (tells : A → ℕ → Span) (begins' : B → ℕ → ℕ) where
  -- where a node begins in the old program
  abbrev pub begins : A → ℕ → ℕ
  begins m base = (tells m base).from

  -- declaration d of a program without faults of declarations is renamed, which collides with
  -- nothing and loses nothing, and the new trees are read again as these units
  pub record Becomes (packages : List (Option PackageLine)) (rows : List Row)
      (super_at : MemberKey → ℕ) (units : List (syntax.Unit A)) (d : Decl) (g : Renaming)
      (news : List (syntax.Unit B)) : Type 0 where
    pub are : AreRows rows
    pub of_declarations : AreProgramRows (declarations_of begins units) rows
    pub clean : IsClean packages (declarations_of begins units)
    -- no byte of a class's name is a dot
    pub whole : (k : ClassKey) (j : ℕ) → IsRowOf rows (class_decl k) j
        → position_or_len is_dot k.name ≡ length k.name
    pub renamed : AreRenamed rows d g.decls
    pub own : IsOfPrelude rows d → ⊥
    pub no_prelude : (text : List ℕ) → HasPreludeMethod rows d text → ⊥
    pub clear : IsClear begins rows units d g.name
    pub files : List (Rewritten (syntax.Unit A))
    pub rewrite : Rewrite tells rows super_at units g files
    pub kept : (i : ℕ) (o : Rewritten (syntax.Unit A)) → slice_get files i ≡ Some o
        → o.losses ≡ []
    pub read : map without_marks news
        ≡ map (λ (o : Rewritten (syntax.Unit A)). without_marks o.tree) files

  -- class d is named as the image of class c
  abbrev pub IsClassImage : Renaming → (base base' : ℕ) → (outer outer' : Option (List ℕ))
      → syntax.Class A → syntax.Class B → Type 0
  IsClassImage g b i o p (syntax.class m mods w t ms) (syntax.class k words v u ns) =
      class_key begins' p v.text ≡ class_to g (class_key begins o w.text)

  -- member y declares the image of what member x does
  abbrev pub IsMemberImage : Renaming → (declarations declarations' : List DeclaredItem) → (base base' : ℕ)
      → (of of' : ClassKey) → syntax.Member A → syntax.Member B → Type 0
  IsMemberImage g declarations declarations' b i of of' x y = (k : MemberKey)
      → Declares begins declarations b of x k → Declares begins' declarations' i of' y (member_to g k)

  pub record AreImages (packages : List (Option PackageLine)) (rows : List Row)
      (units : List (syntax.Unit A)) (g : Renaming) (news : List (syntax.Unit B)) : Type 0 where
    pub rows_are : AreProgramRows (declarations_of begins' news) (rows_to g rows)
    -- so that all references are kept
    pub fair : IsFair rows g
    pub clean : (lines : List (Option PackageLine)) → map names_of lines ≡ map names_of packages
        → IsClean lines (declarations_of begins' news)
    pub members : UnitsBeside begins begins' (IsClassImage g)
        (IsMemberImage g (declarations_of begins units) (declarations_of begins' news)) units news

  -- for a declaration
  abbrev pub GivesImages : Decl → Type 0
  GivesImages d = (packages : List (Option PackageLine)) (rows : List Row)
      (super_at : MemberKey → ℕ) (units : List (syntax.Unit A)) (g : Renaming)
      (news : List (syntax.Unit B)) → Becomes packages rows super_at units d g news
      → AreImages packages rows units g news

abbrev pub LocalsGiveImages : Type 0 → Type 0 → Type 0
LocalsGiveImages A B = (tells : A → ℕ → Span) (begins' : B → ℕ → ℕ) (k : LocalKey)
    → GivesImages tells begins' (local_decl k)

abbrev pub FieldsGiveImages : Type 0 → Type 0 → Type 0
FieldsGiveImages A B = (tells : A → ℕ → Span) (begins' : B → ℕ → ℕ) (k : FieldKey)
    → GivesImages tells begins' (field_decl k)

abbrev pub MethodsGiveImages : Type 0 → Type 0 → Type 0
MethodsGiveImages A B = (tells : A → ℕ → Span) (begins' : B → ℕ → ℕ) (k : MethodKey)
    → GivesImages tells begins' (method_decl k)

-- what is planned is so renamed, whatever the refactored declaration is
abbrev pub PlansBecome : Type 0 → Type 0
PlansBecome B = (begins' : B → ℕ → ℕ) (packages : List (Option PackageLine)) (p : Program Span)
    (news : List (syntax.Unit B)) (text : List ℕ) (file at : ℕ) (new : List ℕ)
    (edits : List (List Entry)) (renaming : List (Decl × Decl)) (respelled : ℕ)
    → (is : IsPlanned p (rename.renaming p text file at new) edits renaming respelled)
    → AreRows p.rows → AreProgramRows (declarations_of (begins itself begins') (units_of p)) p.rows
    → IsClean packages (declarations_of (begins itself begins') (units_of p))
    → ((k : ClassKey) (j : ℕ) → IsRowOf p.rows (class_decl k) j
    → position_or_len is_dot k.name ≡ length k.name)
    → map without_marks news
    ≡ map (λ (o : Rewritten (syntax.Unit Span)). without_marks o.tree) is.becomes.files
    → Becomes itself begins' packages p.rows p.super_at (units_of p) is.found.target is.found.g
    news

-- where a class is renamed, the images of the rows meet what rows must
abbrev pub ClassesStayFair : Type 0 → Type 0
ClassesStayFair A = (begins : A → ℕ → ℕ) (rows : List Row) (units : List (syntax.Unit A))
    (k : ClassKey) (g : Renaming) → AreRows rows → AreProgramRows (declarations_of begins units) rows
    → AreRenamed rows (class_decl k) g.decls → (IsOfPrelude rows (class_decl k) → ⊥)
    → IsClear begins rows units (class_decl k) g.name
    → ((j : ClassKey) (i : ℕ) → IsRowOf rows (class_decl j) i
    → position_or_len is_dot j.name ≡ length j.name)
    → position_or_len is_dot g.name ≡ length g.name
    → IsFair rows g

-- Whatever is renamed, where it collides with nothing and no method of the prelude is renamed with
-- it, the images of the rows meet what rows must.
abbrev pub RenamingsStayFair : Type 0 → Type 0
RenamingsStayFair A = (begins : A → ℕ → ℕ) (rows : List Row) (units : List (syntax.Unit A))
    (d : Decl) (g : Renaming) → AreRows rows → AreProgramRows (declarations_of begins units) rows
    → AreRenamed rows d g.decls → (IsOfPrelude rows d → ⊥)
    → ((text : List ℕ) → HasPreludeMethod rows d text → ⊥) → IsClear begins rows units d g.name
    → ((j : ClassKey) (i : ℕ) → IsRowOf rows (class_decl j) i
    → position_or_len is_dot j.name ≡ length j.name)
    → position_or_len is_dot g.name ≡ length g.name
    → IsFair rows g
