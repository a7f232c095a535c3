-- One reference is the first that is lost.
use Rattle.std.proofs.Common.{◌≡◌, Option, Some, refl, sym, ◌∙◌, subst, inl, inr, arith}
use Rattle.std.proofs.lemmas.Bool.{cases_lt}
use Rattle.std.specs.Prelude.{slice_get}
use Rattle.jr_plan.specs.Transforms.{Lost}
use Rattle.jr_plan.specs.Reasons.{OneFirstLoss}

same_item : (x y : Lost) → (let a : Option Lost = Some x in let b : Option Lost = Some y in a ≡ b) → x ≡ y
same_item x y e = cc

pub one_first : OneFirstLoss
one_first all x y a b =
    elim (cases_lt a.number b.number) [
      | inl before ↦ absurd (a.least b.number y b.stands (b.earlier a.number x before a.stands))
      | inr behind ↦ elim (cases_lt b.number a.number) [
        | inl before ↦ absurd (b.least a.number x a.stands (a.earlier b.number y before b.stands))
        | inr ahead ↦
            (let same : a.number ≡ b.number = omega (arith, behind, ahead) in
            same_item x y (sym a.stands ∙ subst (λ n. slice_get all a.number ≡ slice_get all n) same refl ∙ b.stands))
      ]
    ]
