use Rattle.std.proofs.Common.{◌≡◌, List, ℕ, subst, ◌∙◌}
use Rattle.std.specs.Prelude.{MatchOption}
use Rattle.jr_lex.specs.declared.items.Item.{Item}
use Rattle.jr_program.specs.Tokens.{IsTokenText}
use Rattle.jr_program.proofs.tokens.Tokens.text_at.Goals as goal

pub returns : goal.returns
returns c = subst (λ (is : List Item). MatchOption c.token_at.result ((name : List ℕ) → IsTokenText c.args.text.now is c.args.at name → ⊥) (λ name. IsTokenText c.args.text.now is c.args.at name.now)) (c.as_slice.ensures.value ∙ c.self.view_is) c.token_at.ensures
