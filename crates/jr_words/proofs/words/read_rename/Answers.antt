use Rattle.std.proofs.Common.{sym}
use Rattle.jr_words.proofs.WordLaws.{four}
use Rattle.jr_words.proofs.words.read_rename.Goals as goal

pub returns : goal.returns
returns c =
    let words = four c.args.words.now c.command-item.result c.file-item.result c.at-item.result c.name-item.result c.in-len4.len_at_least c.in-len4.len_below c.command-item.is c.file-item.is c.at-item.is c.name-item.is in
    rw words (rw (sym c.as_str.ensures.value, sym c.as_str-2.ensures.value, sym c.as_str-3.ensures.value, sym c.as_str-4.ensures.value) c.read_parts.ensures)
