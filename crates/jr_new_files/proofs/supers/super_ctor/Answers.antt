use Rattle.std.proofs.Common.{sym, ◌∙◌}
use Rattle.jr_ast.specs.View.{exprs_of}
use Rattle.jr_new_bodies.specs.OutputView.{gathered}
use Rattle.jr_new_words.specs.ChoiceView.{choice_of}
use Rattle.jr_new_files.proofs.Giving.{not_lost}
use Rattle.jr_new_files.proofs.supers.super_ctor.Goals as goal

pub super_ctor_choice-requires : goal.super_ctor_choice-requires
super_ctor_choice-requires g c = record { known = c.requires.known; types = c.requires.ready.0; bound = c.requires.ready.1 }

pub returns-then-lost : goal.returns-then-lost
returns-then-lost g c = c.lost_super.ensures

pub returns-else-lost : goal.returns-else-lost
returns-else-lost g c = λ n stands. not_lost c.args.here.now n (exprs_of c.args.args.now) (choice_of c.in_ok-choice.choice) (gathered c.args.out.now) (sym c.is_lost-lost.ensures ∙ c.if-lost.false) c.in_ok-choice.ensures
