-- Spans tell places from the start of their file: each fits.
use Rattle.std.proofs.Common.{◌≡◌, ℕ, List, [], ◌∷◌, Option, Some, None}
use Rattle.jr_ast.specs.Tree as tree
use Rattle.jr_ast.specs.MemberTree as syntax
use Rattle.jr_build_declared.specs.Fitting.{InitFits, MaybeTypeFits, ParamsFit, MemberFits, ClassFits, MembersFit, ClassesFit, UnitsFit}

module _ {A : Type 0} (begins : A → ℕ → ℕ) where
  abbrev Fits : A → ℕ → Type 0
  Fits m base = Unit {0}

  init_fits : (base : ℕ) (e : Option (tree.Exp A)) → InitFits begins Fits base e
  init_fits base None = tt
  init_fits base (Some e) = tt

  type_fits : (base : ℕ) (t : Option (tree.TypeName A)) → MaybeTypeFits begins Fits base t
  type_fits base None = tt
  type_fits base (Some t) = tt

  params_fit : (base : ℕ) (ps : List (syntax.Param A)) → ParamsFit begins Fits base ps
  params_fit base [] = tt
  params_fit base (p ∷ ps) = (record { own = tt; word = tt; written = tt }, params_fit base ps)

  mutual
    unfolding MemberFits ClassFits MembersFit

    member_fits : (base : ℕ) (d : syntax.Member A) → MemberFits begins Fits base d
    member_fits base (syntax.field m mods t w init) = (tt, tt, tt, init_fits (begins m base) init)
    member_fits base (syntax.method m mods t w ps body) = (tt, tt, type_fits (begins m base) t, params_fit (begins m base) ps)
    member_fits base (syntax.constructor m mods w ps args body) = (tt, tt, params_fit (begins m base) ps)
    member_fits base (syntax.inner m c) = (tt, class_fits (begins m base) c)

    class_fits : (base : ℕ) (c : syntax.Class A) → ClassFits begins Fits base c
    class_fits base (syntax.class m mods w t ms) = (tt, tt, type_fits (begins m base) t, members_fit (begins m base) ms)

    members_fit : (base : ℕ) (ds : syntax.Members A) → MembersFit begins Fits base ds
    members_fit base syntax.end = tt
    members_fit base (syntax.more d ds) = (member_fits base d, members_fit base ds)

  classes_fit : (base : ℕ) (cs : List (syntax.Class A)) → ClassesFit begins Fits base cs
  classes_fit base [] = tt
  classes_fit base (c ∷ cs) = (class_fits base c, classes_fit base cs)

  pub units_fit : (us : List (syntax.Unit A)) → UnitsFit begins Fits us
  units_fit [] = tt
  units_fit (u ∷ us) = ((tt, classes_fit (begins u.mark 0) u.classes), units_fit us)
