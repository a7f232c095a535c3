-- The marks of what a program declares tell places below 2^32, read downwards from the root,
-- whose parent begins at 0.
use Rattle.std.specs.Prelude.{ℕ, List, [], ◌∷◌, Option, Some, None}
use Rattle.jr_text.specs.declared.spans.Span.{Span}
use Rattle.jr_ast.specs.Tree as tree
use Rattle.jr_ast.specs.MemberTree as syntax
use Rattle.jr_ast.specs.Marks.{type_mark, exp_mark}

-- where a node begins, of the span that its mark tells
abbrev pub begins_by : {A : Type 0} → (A → ℕ → Span) → A → ℕ → ℕ
begins_by tells m base = (tells m base).from

-- `fits m base`: the mark's places fit where the node's parent begins at the base
module _ {A : Type 0} (begins : A → ℕ → ℕ) (fits : A → ℕ → Type 0) where
  abbrev pub WordFits : ℕ → tree.Word A → Type 0
  WordFits base w = fits w.mark base

  abbrev pub TypeFits : ℕ → tree.TypeName A → Type 0
  TypeFits base t = fits (type_mark t) base

  abbrev pub MaybeTypeFits : ℕ → Option (tree.TypeName A) → Type 0
  MaybeTypeFits base None = Unit {0}
  MaybeTypeFits base (Some t) = TypeFits base t

  abbrev pub InitFits : ℕ → Option (tree.Exp A) → Type 0
  InitFits base None = Unit {0}
  InitFits base (Some e) = fits (exp_mark e) base

  pub record ParamFits (base : ℕ) (p : syntax.Param A) : Type 0 where
    pub own : fits p.mark base
    pub word : WordFits (begins p.mark base) p.name
    pub written : TypeFits (begins p.mark base) p.type

  abbrev pub ParamsFit : ℕ → List (syntax.Param A) → Type 0
  ParamsFit base [] = Unit {0}
  ParamsFit base (p ∷ ps) = ParamFits base p × ParamsFit base ps

  unfoldable mutual
    pub MemberFits : ℕ → syntax.Member A → Type 0
    MemberFits base (syntax.field m mods t w init) = fits m base × WordFits (begins m base) w
        × TypeFits (begins m base) t × InitFits (begins m base) init
    MemberFits base (syntax.method m mods t w ps body) = fits m base × WordFits (begins m base) w
        × MaybeTypeFits (begins m base) t × ParamsFit (begins m base) ps
    MemberFits base (syntax.constructor m mods w ps args body) = fits m base
        × WordFits (begins m base) w × ParamsFit (begins m base) ps
    MemberFits base (syntax.inner m c) = fits m base × ClassFits (begins m base) c

    pub ClassFits : ℕ → syntax.Class A → Type 0
    ClassFits base (syntax.class m mods w t ms) = fits m base × WordFits (begins m base) w
        × MaybeTypeFits (begins m base) t × MembersFit (begins m base) ms

    pub MembersFit : ℕ → syntax.Members A → Type 0
    MembersFit base syntax.end = Unit {0}
    MembersFit base (syntax.more m ms) = MemberFits base m × MembersFit base ms

  abbrev pub ClassesFit : ℕ → List (syntax.Class A) → Type 0
  ClassesFit base [] = Unit {0}
  ClassesFit base (c ∷ cs) = ClassFits base c × ClassesFit base cs

  abbrev pub UnitFits : syntax.Unit A → Type 0
  UnitFits u = fits u.mark 0 × ClassesFit (begins u.mark 0) u.classes

  abbrev pub UnitsFit : List (syntax.Unit A) → Type 0
  UnitsFit [] = Unit {0}
  UnitsFit (u ∷ us) = UnitFits u × UnitsFit us
