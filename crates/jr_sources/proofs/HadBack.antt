-- What was analysed of earlier sources, as far as it is given.
use Rattle.std.proofs.Common.{◌≡◌, List, refl, sym, subst}
use Rattle.std.specs.Prelude.{Option, Some, None, is_some, false}
use Rattle.jr_table.specs.Rows.{Row}
use Rattle.jr_program.specs.declared.bounds.MemberBound.{MemberBound}
use Rattle.jr_sources.specs.declared.analyses.Analysed.{Analysed}
use Rattle.jr_sources.specs.declared.analyses.EarlierAnalysis.{EarlierAnalysis}
use Rattle.jr_sources.specs.declared.analyses.FormerAnalysis.{FormerAnalysis}
use Rattle.jr_sources.specs.HadBack.{HasBack, CanHaveBack, IsNotLost}

module _ (rows : List Row) (members : List MemberBound) (former : Option FormerAnalysis) where
  -- this was given
  pub of_given : (given : Option EarlierAnalysis) (e : EarlierAnalysis) → given ≡ Some e → HasBack e rows members former → CanHaveBack given rows members former
  of_given given e is has = subst (λ (o : Option EarlierAnalysis). CanHaveBack o rows members former) (sym is) has

  -- nothing was given
  pub of_none : (given : Option EarlierAnalysis) → given ≡ None → former ≡ None → CanHaveBack given rows members former
  of_none given is none = subst (λ (o : Option EarlierAnalysis). CanHaveBack o rows members former) (sym is) none

-- the same of what is given, and what is left of it
pub as_given : (given other left gone : Option EarlierAnalysis) → given ≡ other → left ≡ gone → (a : Analysed) → IsNotLost given left a → IsNotLost other gone a
as_given given other left gone e f a h =
    subst (λ (o : Option EarlierAnalysis). IsNotLost o gone a) e (subst (λ (o : Option EarlierAnalysis). IsNotLost given o a) f h)

pub is_none : {X : Type 0} (o : Option X) → is_some o ≡ false → o ≡ None
is_none None h = refl
is_none (Some x) h = absurd cc
