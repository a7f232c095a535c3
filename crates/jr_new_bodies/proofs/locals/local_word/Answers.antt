use Rattle.std.proofs.Common.{ap, ◌∙◌, refl}
use Rattle.jr_text.specs.declared.spans.Span.{Span}
use Rattle.jr_ast.specs.View.{word_of}
use Rattle.jr_new_words.specs.Scopes as scopes
use Rattle.jr_new_words.specs.ChoiceView.{choice_of}
use Rattle.jr_new_bodies.specs.Effects.{both}
use Rattle.jr_new_bodies.specs.OutputView as out
use Rattle.jr_new_bodies.specs.OutputView.{gathered}
use Rattle.jr_new_bodies.proofs.Oks.{on_ok}
use Rattle.jr_rewrite.specs.Rewritten.{word_out}
use Rattle.jr_new_bodies.proofs.locals.local_word.Goals as goal

pub returns : goal.returns
unfolding scopes.context_of
returns g c =
    let T = g.A.Mark.span_from in
    let old = gathered c.args.out.now in
    let w = word_of c.args.name.now in
    let ch = choice_of c.in_ok-choice.choice in
    on_ok c.put_alone.result (λ e. λ s. (
      word_out T ch c.args.at w,
      (ch, c.in_ok-choice.ensures, refl),
      e ∙ ap (λ (z : Span). both old (out.alone ch z)) c.span-word.ensures,
    )) c.put_alone.ensures
