use Rattle.jr_session.proofs.Trying.{files_again}
use Rattle.jr_session.proofs.tries.try_by.Goals as goal

pub exchange_all-requires-in-Ok-Wrong-clause-files : goal.exchange_all-requires-in-Ok-Wrong-clause-files
exchange_all-requires-in-Ok-Wrong-clause-files g c =
    files_again c.args.sources.now c.exchange_all.new.sources c.args.texts.changes.items c.in_ok-had.had.items c.exchange_all.new.had.items c.in_ok-had.ensures.items c.exchange_all.ensures.changed

pub exchange_all-requires-in-Ok-Crossed-clause-files : goal.exchange_all-requires-in-Ok-Crossed-clause-files
exchange_all-requires-in-Ok-Crossed-clause-files g c =
    files_again c.args.sources.now c.exchange_all.new.sources c.args.texts.changes.items c.in_ok-had.had.items c.exchange_all.new.had.items c.in_ok-had.ensures.items c.exchange_all.ensures.changed

pub exchange_all-requires-in-Err-clause-files : goal.exchange_all-requires-in-Err-clause-files
exchange_all-requires-in-Err-clause-files g c =
    files_again c.args.sources.now c.exchange_all.new.sources c.args.texts.changes.items c.in_ok-had.had.items c.exchange_all.new.had.items c.in_ok-had.ensures.items c.exchange_all.ensures.changed
