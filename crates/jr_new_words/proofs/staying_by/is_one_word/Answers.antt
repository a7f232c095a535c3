use Rattle.std.proofs.Common.{◌≡◌, ◌<◌, length, subst, arith}
use Rattle.std.specs.Prelude.{MatchOption}
use Rattle.std.specs.List.{position_or_len, before_first, after_first}
use Rattle.std.proofs.lemmas.Str.Pattern.{split_once_first}
use Rattle.jr_spell.specs.Binds.{is_dot}
use Rattle.jr_new_words.proofs.staying_by.is_one_word.Goals as goal

pub returns-in-None : goal.returns-in-None
returns-in-None c = λ t.
    let text = c.as_str.result.now in
    let split = split_once_first 46 text c.split_once.result c.split_once.ensures.cases (omega arith) in
    let none : position_or_len is_dot text ≡ length text =
    subst (λ o. MatchOption o (position_or_len is_dot text ≡ length text) (λ x. (position_or_len is_dot text < length text)
    × (x.0.now ≡ before_first is_dot text) × (x.1.now ≡ after_first is_dot text))) c.in-None.is split in
    subst (λ t. position_or_len is_dot t ≡ length t) c.as_str.ensures none
