use Rattle.jr_new_words.specs.ChoiceView.{choice_of}
use Rattle.jr_new_bodies.proofs.Oks.{on_ok}
use Rattle.jr_new_files.proofs.supers.lost_at.Goals as goal

pub super_ctor_choice-requires : goal.super_ctor_choice-requires
super_ctor_choice-requires c = record { known = c.requires.known; types = c.requires.ready.0; bound = c.requires.ready.1 }

pub returns : goal.returns
returns c = on_ok c.keep_loss.result (λ e. (choice_of c.in_ok-choice.choice, c.in_ok-choice.ensures, e)) c.keep_loss.ensures
