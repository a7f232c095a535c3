use Rattle.std.proofs.Common.{◌≡◌, codes, rules}
use Rattle.jr_words.specs.Words.{IsPlain, IsPlace}
use Rattle.jr_words.proofs.WordLaws.{Mean-rename}
use Rattle.jr_words.proofs.words.read_parts.Goals as goal

pub returns-in-Some : goal.returns-in-Some
returns-in-Some c =
    let first : c.args.command.now ≡ codes "rename" = search rules in
    let file : IsPlain c.args.file.now = search rules in
    let name : IsPlain c.args.name.now = search rules in
    let place : IsPlace c.args.at.now c.in-Some.at = search rules in
    Mean-rename _ _ _ _ _ first file name place
