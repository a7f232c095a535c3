use Rattle.std.proofs.lemmas.Result.{IfOk-weaker}
use Rattle.jr_table.specs.FoundView.{found_of}
use Rattle.jr_new_words.proofs.classes.first_lost.Goals as goal

pub returns : goal.returns
returns c = IfOk-weaker c.lost_class.result _ _ (λ h is. (found_of c.in_ok-found.found, c.in_ok-found.ensures, is)) c.lost_class.ensures
