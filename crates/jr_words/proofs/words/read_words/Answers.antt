use Rattle.std.proofs.Common.{◌≡◌, ◌∙◌, codes, rules, slice_get, Some, string_bytes, sym}
use Rattle.std.proofs.lemmas.Slice.Eq.{bytes_eq-Decides}
use Rattle.jr_words.proofs.WordLaws.{first_word}
use Rattle.jr_words.proofs.words.read_words.Goals as goal

pub read_run-requires : goal.read_run-requires
read_run-requires c =
    let at : slice_get c.args.words.now 0 ≡ Some c.in-Some.command.now = search rules in
    let is : c.as_str.result.now ≡ codes "run" = (bytes_eq-Decides c.as_str.result.now (codes "run")).0 (sym c.eq.ensures ∙ c.if-eq.true) in
    record {
      well_formed = c.are_words.ensures.0 c.if-not-are_words.false;
      rest = _;
      begins = first_word c.args.words.now c.in-Some.command.now (codes "run") at (sym c.as_str.ensures.value ∙ is);
    }
