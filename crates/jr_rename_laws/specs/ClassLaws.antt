-- The law of the program that the renaming of a class makes, as a statement.
use Rattle.std.specs.Prelude.{◌≡◌, ℕ, List, Option, length, map}
use Rattle.std.specs.List.{position_or_len}
use Rattle.jr_text.specs.declared.spans.Span.{Span}
use Rattle.jr_ast.specs.MemberTree as syntax
use Rattle.jr_table.specs.Keys.{ClassKey, CtorKey}
use Rattle.jr_table.specs.Decls.{MemberKey, class_decl, constructor_decl}
use Rattle.jr_table.specs.Rows.{Row}
use Rattle.jr_table.specs.DeclaredItems.{DeclaredClass, DeclaredItem, declarations_of}
use Rattle.jr_table.specs.Resolving.{DeclaresClass, IsParent}
use Rattle.jr_table.specs.ProgramRows.{AreProgramRows}
use Rattle.jr_table.specs.Faults.{PackageLine, names_of, IsClean}
use Rattle.jr_build_rows.specs.Heads.{UnitsHeads}
use Rattle.jr_spell.specs.Binds.{is_dot}
use Rattle.jr_images.specs.Images.{Renaming, rows_to}
use Rattle.jr_rename_laws.specs.ImageLaws.{Becomes, AreImages}

-- each class that is declared has a superclass (JLS 8.1.4)
abbrev pub HaveSuperclasses : List DeclaredItem → Type 0
HaveSuperclasses declarations = (k : ClassKey) (c : DeclaredClass) → DeclaresClass declarations k c
    → (p : ClassKey) × IsParent declarations k p

module _ {A B : Type 0} (tells : A → ℕ → Span) (begins' : B → ℕ → ℕ) where
  -- the class is renamed, to a name without a dot, where no member class holds classes
  pub record ClassBecomes (packages : List (Option PackageLine)) (rows : List Row)
      (super_at : MemberKey → ℕ) (units : List (syntax.Unit A)) (k : ClassKey) (g : Renaming)
      (news : List (syntax.Unit B)) : Type 0 where
    pub becomes : Becomes tells begins' packages rows super_at units (class_decl k) g news
    pub heads : UnitsHeads units
    pub whole : position_or_len is_dot g.name ≡ length g.name

-- where each class of the new trees has a superclass, they are a program
abbrev pub ClassesGiveImages : Type 0 → Type 0 → Type 0
ClassesGiveImages A B = (tells : A → ℕ → Span) (begins' : B → ℕ → ℕ)
    (packages : List (Option PackageLine)) (rows : List Row) (super_at : MemberKey → ℕ)
    (units : List (syntax.Unit A)) (k : ClassKey) (g : Renaming) (news : List (syntax.Unit B))
    → ClassBecomes tells begins' packages rows super_at units k g news
    → HaveSuperclasses (declarations_of begins' news) → AreImages tells begins' packages rows units g news

-- the rows that are made of the new trees
abbrev pub BuiltRowsAreImages : Type 0 → Type 0 → Type 0
BuiltRowsAreImages A B = (tells : A → ℕ → Span) (begins' : B → ℕ → ℕ)
    (packages : List (Option PackageLine)) (rows others : List Row) (super_at : MemberKey → ℕ)
    (units : List (syntax.Unit A)) (k : ClassKey) (g : Renaming) (news : List (syntax.Unit B))
    → ClassBecomes tells begins' packages rows super_at units k g news
    → AreProgramRows (declarations_of begins' news) others
    → (others ≡ rows_to g rows) × AreImages tells begins' packages rows units g news

module _ {A B : Type 0} (tells : A → ℕ → Span) (begins' : B → ℕ → ℕ) where
  -- A constructor is renamed, whose name is that of its class, so that nothing gets another one.
  -- The new trees have these rows, and no fault.
  pub record ConstructorBecomes (packages : List (Option PackageLine)) (rows others : List Row)
      (super_at : MemberKey → ℕ) (units : List (syntax.Unit A)) (k : CtorKey) (g : Renaming)
      (news : List (syntax.Unit B)) : Type 0 where
    pub becomes : Becomes tells begins' packages rows super_at units (constructor_decl k) g news
    pub headed : UnitsHeads units
    pub dotless : position_or_len is_dot g.name ≡ length g.name
    pub new_rows : AreProgramRows (declarations_of begins' news) others
    pub clean : (lines : List (Option PackageLine)) → map names_of lines ≡ map names_of packages
        → IsClean lines (declarations_of begins' news)

-- they are the images too
abbrev pub ConstructorsGiveImages : Type 0 → Type 0 → Type 0
ConstructorsGiveImages A B = (tells : A → ℕ → Span) (begins' : B → ℕ → ℕ)
    (packages : List (Option PackageLine)) (rows others : List Row) (super_at : MemberKey → ℕ)
    (units : List (syntax.Unit A)) (k : CtorKey) (g : Renaming) (news : List (syntax.Unit B))
    → ConstructorBecomes tells begins' packages rows others super_at units k g news
    → AreImages tells begins' packages rows units g news × (others ≡ rows_to g rows)
