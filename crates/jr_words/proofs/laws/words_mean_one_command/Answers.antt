use Rattle.jr_words.proofs.OneCommand.{one_command}
use Rattle.jr_words.proofs.laws.words_mean_one_command.Goals as goal

pub returns : goal.returns
returns c = one_command
