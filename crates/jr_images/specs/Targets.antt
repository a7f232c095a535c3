-- What is to be renamed: the declaration that the identifier at a place declares or is bound to.
use Rattle.std.specs.Prelude.{
  ◌≡◌,
  ℕ,
  suc,
  ◌<◌,
  ◌≤◌,
  ◌⊎◌,
  List,
  [],
  ◌∷◌,
  length,
  Some,
  slice_get,
}
use Rattle.jr_lex.specs.declared.items.Item.{Item}
use Rattle.jr_lex.specs.declared.items.ItemKind.TheVariants as item
use Rattle.jr_lex.specs.declared.items.TokenKind.TheVariants as token
use Rattle.jr_lex.specs.Lexes.{Lexes}
use Rattle.jr_ast.specs.Tree as tree
use Rattle.jr_ast.specs.StatementTree as statement
use Rattle.jr_ast.specs.MemberTree as syntax
use Rattle.jr_table.specs.Decls.{MemberKey, head, Decl, class_decl, local_decl}
use Rattle.jr_table.specs.Rows.{Row}
use Rattle.jr_table.specs.Entries.{IsRowOf}
use Rattle.jr_table.specs.Prelude.{prelude_rows}
use Rattle.jr_table.specs.DeclaredItems.{declarations_of}
use Rattle.jr_table.specs.Context.{Context, local_key}
use Rattle.jr_table.specs.Errors.{Part, class_part, member_part, InMember, InClasses, Binds}
use Rattle.jr_rewrite.specs.Rewrites.{declared_by}

-- an identifier begins there and holds the byte (JLS 3.8)
pub record HoldsIdentifier (text : List ℕ) (at from : ℕ) : Type 0 where
  pub items : List Item
  pub lexes : Lexes text items
  pub number : ℕ
  pub holder : Item
  pub stands : slice_get items number ≡ Some holder
  pub is : holder.kind ≡ item.Token token.Word
  pub begins : holder.span.from ≡ from
  pub behind : from ≤ at
  pub inside : at < holder.span.to

-- a declaration of the prelude
abbrev pub IsOfPrelude : List Row → Decl → Type 0
IsOfPrelude rows d = (j : ℕ) × (j < length prelude_rows) × IsRowOf rows d j

module _ {A : Type 0} (begins : A → ℕ → ℕ) where
  -- the word, of a node whose span begins at base, begins there
  abbrev pub StandsAt : (base : ℕ) → tree.Word A → (at : ℕ) → Type 0
  StandsAt base w at = at ≡ begins w.mark base

  -- a parameter's declared name, the first of which has this number (JLS 8.4.1)
  abbrev pub ParamDeclares : MemberKey → (number : ℕ) → (base : ℕ) → List (syntax.Param A)
      → (at : ℕ) → Decl → Type 0
  ParamDeclares k n base [] at d = ⊥
  ParamDeclares k n base (p ∷ ps) at d = (StandsAt (begins p.mark base) p.name at
      × (d ≡ local_decl (record { member = k; number = n })))
      ⊎ ParamDeclares k (suc n) base ps at d

  -- a local's declared name (JLS 14.4)
  abbrev pub LocalDeclares : (number : ℕ) → Context → (base : ℕ) → statement.Stmt A → (at : ℕ)
      → Decl → Type 0
  LocalDeclares n c base (statement.local m f t w e) at d =
      StandsAt (begins m base) w at × (d ≡ local_decl (local_key c n))
  LocalDeclares n c base _ at d = ⊥

  -- a member's own name; a constructor's stands for its class (JLS 8.3, 8.4, 8.8)
  abbrev pub MemberDeclares : MemberKey → (base : ℕ) → syntax.Member A → (at : ℕ) → Decl → Type 0
  MemberDeclares k base (syntax.field m mods t w init) at d =
      StandsAt (begins m base) w at × (d ≡ declared_by k)
  MemberDeclares k base (syntax.method m mods t w ps body) at d =
      (StandsAt (begins m base) w at × (d ≡ declared_by k))
      ⊎ ParamDeclares k 0 (begins m base) ps at d
  MemberDeclares k base (syntax.constructor m mods w ps args body) at d =
      (StandsAt (begins m base) w at × (d ≡ declared_by k))
      ⊎ ParamDeclares k 0 (begins m base) ps at d
  MemberDeclares k base (syntax.inner m of) at d = ⊥

  -- a name that a part of a program declares stands there
  abbrev pub PartDeclares : MemberKey → (base : ℕ) → Part A → (at : ℕ) → Decl → Type 0
  PartDeclares (head k) base (class_part (syntax.class m mods w t ms)) at d =
      StandsAt (begins m base) w at × (d ≡ class_decl k)
  PartDeclares k base (member_part x) at d = MemberDeclares k base x at d
      ⊎ InMember begins (λ c role b e. ⊥) (λ n c b s. LocalDeclares n c b s at d) (λ b ss. ⊥) k
      base x
  PartDeclares _ base _ at d = ⊥

-- `super_at`: where the written `super(..)` of a constructor stands, which has no mark
module _ {A : Type 0} (begins : A → ℕ → ℕ) (rows : List Row) (super_at : MemberKey → ℕ)
    (units : List (syntax.Unit A)) where
  -- the word that begins there in the file declares the declaration, or is bound to it
  pub record Names (file at : ℕ) (d : Decl) : Type 0 where
    pub unit : syntax.Unit A
    pub stands : slice_get units file ≡ Some unit
    pub member : MemberKey
    pub names : InClasses begins (declarations_of begins units)
        (λ k base part. PartDeclares begins k base part at d
        ⊎ Binds begins rows (super_at k) k base part at d) (begins unit.mark 0) unit.classes member

  -- the identifier at the byte names this declaration, which is none of the prelude's
  pub record IsTarget (text : List ℕ) (file at : ℕ) (d : Decl) : Type 0 where
    pub from : ℕ
    pub holds : HoldsIdentifier text at from
    pub names : Names file from d
    pub own : IsOfPrelude rows d → ⊥

  -- it names none: there is no identifier, or it is bound to none but the prelude's, or it is of
  -- the package
  abbrev pub HasNoTarget : (text : List ℕ) → (file at : ℕ) → Type 0
  HasNoTarget text file at = (d : Decl) → IsTarget text file at d → ⊥
