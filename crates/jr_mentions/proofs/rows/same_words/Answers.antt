use Rattle.std.proofs.Common.{◌≡◌, sym, ◌∙◌, subst}
use Rattle.std.specs.Prelude.{Decides}
use Rattle.std.specs.Cmp.Lexicographic.{pointwise, pointwise_decides}
use Rattle.jr_ast.specs.declared.operators.ModWord.{ModWord}
use Rattle.jr_ast.specs.contracts.operators.ModWord.{the_type}
use denote.Enum.Bare.{sameb, same_true, true_same}
use Rattle.jr_mentions.proofs.rows.same_words.Goals as goal

word_decides : (x y : ModWord) → Decides (sameb the_type x y) (x ≡ y)
word_decides x y = (same_true the_type tt x y, true_same the_type x y)

pub returns : goal.returns
returns c =
    let is = c.eq.ensures ∙ (λ i. pointwise (sameb the_type) (c.as_slice.ensures i) (c.as_slice-2.ensures i)) in
    subst (λ b. Decides b (c.args.mods.now ≡ c.args.other.now)) (sym is) (pointwise_decides word_decides c.args.mods.now c.args.other.now)
