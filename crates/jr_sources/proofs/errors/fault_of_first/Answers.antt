use Rattle.std.proofs.Common.{◌≡◌, ◌<◌, ◌≤◌, refl, arith}
use Rattle.jr_sources.proofs.FirstErrors.{in_file, in_text, is_wrong}
use Rattle.jr_sources.proofs.errors.fault_of_first.Goals as goal

pub text-requires : goal.text-requires
text-requires c = in_file c.args.sources.now c.args.analysis.now c.requires.analysis c.args.broken.file c.args.broken.at c.args.broken.rule c.requires.first

pub overflow_cast-result : goal.overflow_cast-result
overflow_cast-result c =
    let lt = in_text c.args.sources.now c.args.analysis.now c.requires.analysis c.args.broken.file c.args.broken.at c.args.broken.rule c.requires.first c.items_are_placed.ensures.items c.text.result.now c.text.ensures in
    let le = c.len-len.ensures.valid.within in
    omega (arith, lt, le)

pub returns : goal.returns
returns c = is_wrong c.args.sources.now c.args.analysis.now c.requires.analysis c.args.broken.file c.args.broken.at c.args.broken.rule c.requires.first c.text_has_one_reading.ensures c.one_answer.ensures.items _ refl refl c.name.ensures
