use Rattle.jr_build_declared.proofs.WordLaws.{both}
use Rattle.jr_build_declared.proofs.member_words.has_final_volatile.Goals as goal

pub returns : goal.returns
returns c = both c.has_word.result c.has_word-2.result c.has_word.ensures c.has_word-2.ensures
