use Rattle.std.proofs.Common.{inl, refl, []}
use Rattle.jr_shelf.specs.Counts.{Rose}
use Rattle.jr_words.specs.Words.{Operand, rename}
use Rattle.jr_top.proofs.EarlyEnds.{ends_unread, script_unread, where_failed, where_missed}
use Rattle.jr_top.proofs.renames.fetch_source.Goals as goal

pub returns-in-Err-Failed-clause-err : goal.returns-in-Err-Failed-clause-err
returns-in-Err-Failed-clause-err g c = λ at name.
    let is = c.in-Err-Failed.field-0-is in
    let word : Operand = record { word = 1; text = c.args.file.now } in
    ends_unread (rename c.args.file.now at name) 1
    (script_unread (g.S.Shelf.holds c.args.shelf.now) word ([]) (g.S.Shelf.missed c.fetch.new.self) (g.S.Shelf.faults c.args.shelf.now) (g.S.Shelf.faults c.fetch.new.self) (g.S.Shelf.served c.args.shelf.now) (g.S.Shelf.served c.fetch.new.self)
    (where_failed c.fetch.result (Rose (g.S.Shelf.faults c.args.shelf.now) (g.S.Shelf.faults c.fetch.new.self)) c.in-Err-Failed.field-0 is c.in-Err-Failed.ensures.failed)
    (where_missed c.fetch.result (g.S.Shelf.holds c.args.shelf.now) (g.S.Shelf.missed c.args.shelf.now) (g.S.Shelf.missed c.fetch.new.self) c.args.file.now c.in-Err-Failed.field-0 is c.in-Err-Failed.ensures.missed)
    c.in-Err-Failed.ensures.served)
    refl c.in-Err-Failed.ensures.keeps c.in-Err-Failed.ensures.faults
