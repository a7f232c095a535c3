use Rattle.std.proofs.Common.{◌+◌, drop, sym, ap, ◌∙◌}
use Rattle.std.proofs.lemmas.List.{drop_more}
use Rattle.jr_table.specs.HeadRules.{access_of}
use Rattle.jr_bind_parts.proofs.Accesses.{access_some}
use Rattle.jr_bind_parts.proofs.override_words.access.Goals as goal

pub returns-in-Some : goal.returns-in-Some
returns-in-Some c =
    let words = c.args.words.now in
    let i = c.loop-word.word-index in
    access_some _ (drop (i + 1) words) c.in-Some.access (sym c.word_access.ensures ∙ c.in-Some.is)
    ∙ ap access_of (sym (drop_more words i _ c.loop-word-test.true)) ∙ c.loop-word.invariant
