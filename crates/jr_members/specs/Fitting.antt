-- The marks of units and classes tell places below 2^32, read downwards from the root, whose parent
-- begins at 0.
use Rattle.std.specs.Prelude.{ℕ, List, [], ◌∷◌}
use Rattle.jr_text.specs.declared.spans.Span.{Span}
use Rattle.jr_ast.specs.MemberTree as syntax

-- where a node begins, of the span that its mark tells
abbrev pub begins_by : {A : Type 0} → (A → ℕ → Span) → A → ℕ → ℕ
begins_by tells m base = (tells m base).from

-- `fits m base`: the mark's places fit where the node's parent begins at the base
module _ {A : Type 0} (begins : A → ℕ → ℕ) (fits : A → ℕ → Type 0) where
  unfoldable mutual
    pub ClassFits : (base : ℕ) → syntax.Class A → Type 0
    ClassFits base (syntax.class m mods w t ms) = fits m base × MembersFit (begins m base) ms

    pub MembersFit : (base : ℕ) → syntax.Members A → Type 0
    MembersFit base syntax.end = Unit {0}
    MembersFit base (syntax.more m ms) = MemberFits base m × MembersFit base ms

    -- a member class
    pub MemberFits : (base : ℕ) → syntax.Member A → Type 0
    MemberFits base (syntax.inner m c) = fits m base × ClassFits (begins m base) c
    MemberFits base (syntax.field m mods t w init) = Unit {0}
    MemberFits base (syntax.method m mods t w ps body) = Unit {0}
    MemberFits base (syntax.constructor m mods w ps args body) = Unit {0}

  abbrev pub ClassesFit : (base : ℕ) → List (syntax.Class A) → Type 0
  ClassesFit base [] = Unit {0}
  ClassesFit base (c ∷ cs) = ClassFits base c × ClassesFit base cs

  abbrev pub UnitFits : syntax.Unit A → Type 0
  UnitFits u = fits u.mark 0 × ClassesFit (begins u.mark 0) u.classes

  abbrev pub UnitsFit : List (syntax.Unit A) → Type 0
  UnitsFit [] = Unit {0}
  UnitsFit (u ∷ us) = UnitFits u × UnitsFit us
