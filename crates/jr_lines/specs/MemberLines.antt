-- The lines of a file's members.
use Rattle.std.specs.Prelude.{◌≡◌, ℕ, ◌+◌, ◌⊎◌, ◌↔◌, List, Some}
use Rattle.jr_lex.specs.declared.items.Item.{Item}
use Rattle.jr_table.specs.Decls.{Decl}
use Rattle.jr_table.specs.Errors.{Error}
use Rattle.jr_bind.specs.Bounds.{Reference, decl_in}
use Rattle.jr_program.specs.declared.bounds.MemberBound.{MemberBound}
use Rattle.jr_lines.specs.Lines.{Line, reference, broken, Among}
use Rattle.jr_program.specs.Tokens.{IsTokenText}
use Rattle.jr_program.specs.Members.{AnyOf, MemberRefers, MemberErrs}

-- what the members of the file have, of which this is known
abbrev pub IsLineOf : (text : List ℕ) → List Item → List MemberBound → (file : ℕ) → Line → Type 0
IsLineOf text items bounds file (reference at name d) =
    AnyOf (MemberRefers file at d) bounds × IsTokenText text items at name
IsLineOf text items bounds file (broken at r) = AnyOf (MemberErrs file at r) bounds

-- ---- for private clauses

-- the new lines are the old ones and those that have the property
pub record Adds (Has : Line → Type 0) (old new : List Line) : Type 0 where
  pub each : (l : Line) → Among new l ↔ (Among old l ⊎ Has l)

module _ (text : List ℕ) (items : List Item) where
  -- the token there is bound to the declaration
  pub record IsLineAt (at : ℕ) (d : Decl) (l : Line) : Type 0 where
    pub name : List ℕ
    pub stands : IsTokenText text items at name
    pub is : l ≡ reference at name d

  -- what the reference at the place of a member means
  pub record IsReferenceAt (start : ℕ) (references : List Reference) (n : ℕ) (l : Line) : Type 0
    where
      pub decl : Decl
      pub means : decl_in references n ≡ Some decl
      pub line : IsLineAt (start + n) decl l

  pub record HasReference (start : ℕ) (references : List Reference) (l : Line) : Type 0 where
    pub place : ℕ
    pub has : IsReferenceAt start references place l

abbrev pub IsErrorAt : (start : ℕ) → Error → Line → Type 0
IsErrorAt start e l = l ≡ broken (start + e.at) e.rule

abbrev pub HasError : (start : ℕ) → List Error → Line → Type 0
HasError start errors l = AnyOf (λ (e : Error). IsErrorAt start e l) errors

-- the lines of one member, where it is one of the file
abbrev pub IsMemberLine : (text : List ℕ) → List Item → MemberBound → (file : ℕ) → Line → Type 0
IsMemberLine text items b file l = (b.file ≡ file)
    × (HasReference text items b.start b.bound.references l ⊎ HasError b.start b.bound.errors l)
