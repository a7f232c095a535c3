use Rattle.std.proofs.Common.{◌≡◌, List, ℕ, sym, subst, ◌∙◌}
use Rattle.std.specs.Prelude.{MatchOption}
use Rattle.std.specs.List.Sorted.{IsNonDecreasingBy}
use Rattle.jr_lex.specs.declared.items.Item.{Item}
use Rattle.jr_program_laws.specs.FileParts.{IsSuperAt}
use Rattle.jr_program.proofs.SuperWords.{rising, super_answer}
use Rattle.jr_program.proofs.tokens.Tokens.super_in.Goals as goal

pub first_in-requires : goal.first_in-requires
first_in-requires c = subst (IsNonDecreasingBy (λ (n : ℕ). n)) (sym (c.as_slice.ensures.value ∙ c.self.invariant.places)) (rising c.self.inside.items.items c.self.invariant.rising)

pub returns : goal.returns
returns c = subst (λ (is : List Item). MatchOption c.first_in.result ((at : ℕ) → IsSuperAt is c.args.span at → ⊥) (IsSuperAt is c.args.span)) c.self.view_is
    (super_answer c.self.inside.items.items c.args.span c.as_slice.result.now c.first_in.result (c.as_slice.ensures.value ∙ c.self.invariant.places) c.first_in.ensures.there c.first_in.ensures.within c.first_in.ensures.first c.first_in.ensures.none)
