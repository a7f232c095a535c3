use Rattle.std.proofs.Common.{refl}
use Rattle.jr_ast.specs.View.{word_of}
use Rattle.jr_grammar.specs.Layout.{itself}
use Rattle.jr_rewrite.specs.Rewritten.{word_out}
use Rattle.jr_new_words.specs.ChoiceView.{choice_of}
use Rattle.jr_new_bodies.proofs.Oks.{on_ok}
use Rattle.jr_new_files.proofs.words.param_word.Goals as goal

pub returns : goal.returns
returns c =
    let ch = choice_of c.in_ok-choice.choice in
    on_ok c.put_alone.result (λ e. λ s at. (word_out itself ch at (word_of c.args.name.now), (ch, c.in_ok-choice.ensures, refl), e)) c.put_alone.ensures
