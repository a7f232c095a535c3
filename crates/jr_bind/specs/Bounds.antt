-- What binding knows of one member, as contracts see it, and when that is right.
use Rattle.std.specs.Prelude.{
  ◌≡◌,
  ◌↔◌,
  ℕ,
  ◌+◌,
  ◌==◌,
  List,
  [],
  ◌∷◌,
  Option,
  Some,
  None,
  if◌then◌else◌,
}
use Rattle.jr_table.specs.Keys.{Ty}
use Rattle.jr_table.specs.Decls.{MemberKey, Decl}
use Rattle.jr_table.specs.Rows.{Row}
use Rattle.jr_table.specs.Errors.{
  Part,
  class_part,
  member_part,
  part_mark,
  Binds,
  Breaks,
  Error,
  AreErrors,
}
use Rattle.jr_table.specs.TypesAt.{TypeAt}
use Rattle.jr_expr_types.specs.Slots.{Slot, find_type}
use Rattle.jr_bind_parts.specs.PartFits.{FitsPart}

-- a reference, by the place of its first byte, and what it means
pub record Reference : Type 0 where
  pub at : ℕ
  pub decl : Decl

-- what the reference at the place means, if one that is bound is there
abbrev pub decl_in : List Reference → (at : ℕ) → Option Decl
decl_in [] at = None
decl_in (r ∷ rs) at = if r.at == at then Some r.decl else decl_in rs at

-- places are counted from the member's first byte
pub record Bound : Type 0 where
  pub member : MemberKey
  pub references : List Reference
  pub errors : List Error
  -- a tree of types, in which a path finds one
  pub types : List Slot

-- a path leads from a part to an expression that has the type; in the head of a class stands none
abbrev pub TypeInPart : {A : Type 0} (begins : A → ℕ → ℕ) → List Row → MemberKey → Part A
    → List ℕ → Ty → Type 0
TypeInPart begins rows k (class_part of) path t = ⊥
TypeInPart begins rows k (member_part x) path t = TypeAt begins rows k x path t

-- a member whose parent begins at base, and whose written `super(..)` stands at super_at
module _ {A : Type 0} (begins : A → ℕ → ℕ) (rows : List Row) (super_at : ℕ) (k : MemberKey)
    (base : ℕ) (part : Part A) where
  -- no two of its references begin at one byte
  abbrev pub BindsOnce : Type 0
  BindsOnce = (at : ℕ) (d e : Decl) → Binds begins rows super_at k base part at d
      → Binds begins rows super_at k base part at e → d ≡ e

  -- what is known of it is what its references are bound to, which rules it breaks, and which types
  -- its expressions have
  pub record IsBound (b : Bound) : Type 0 where
    pub member : b.member ≡ k
    pub declarations : (at : ℕ) (d : Decl) → (decl_in b.references at ≡ Some d)
        ↔ Binds begins rows super_at k base part (begins (part_mark part) base + at) d
    pub errors : AreErrors (λ e. Breaks begins rows super_at k base part
        (begins (part_mark part) base + e.at) e.rule) b.errors
    pub types : (path : List ℕ) (t : Ty) → (find_type b.types path ≡ Some t)
        ↔ TypeInPart begins rows k part path t

-- the places of a whole part fit, those of its own mark too
abbrev pub FitsWhole : {A : Type 0} (begins : A → ℕ → ℕ) (Fits : A → ℕ → Type 0) → (base : ℕ)
    → Part A → Type 0
FitsWhole begins Fits base part = Fits (part_mark part) base × FitsPart begins Fits base part
