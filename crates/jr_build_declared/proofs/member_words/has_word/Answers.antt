use Rattle.jr_build_declared.proofs.WordLaws.{contained, contains_it, same_as}
use Rattle.jr_build_declared.proofs.member_words.has_word.Goals as goal

pub returns : goal.returns
returns c = same_as c.holds_word.result (contained c.args.words.now c.args.word) (contains_it c.args.words.now c.args.word) c.holds_word.ensures
