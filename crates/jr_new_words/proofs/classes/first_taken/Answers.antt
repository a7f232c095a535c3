use Rattle.std.proofs.lemmas.Result.{IfOk-weaker}
use Rattle.jr_new_words.specs.FrontView.{in_front_of}
use Rattle.jr_new_words.proofs.classes.first_taken.Goals as goal

pub returns : goal.returns
returns c = IfOk-weaker c.first_in_front.result _ _ (λ o takes. (in_front_of c.in_ok-words.words, c.in_ok-words.ensures, takes)) c.first_in_front.ensures
