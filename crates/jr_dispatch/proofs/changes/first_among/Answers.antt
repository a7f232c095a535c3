use Rattle.std.proofs.Common.{sym}
use Rattle.jr_table.specs.Entries.{entries_of}
use Rattle.jr_dispatch.proofs.Lows.{programs_of, low_changes, change_low, first_is}
use Rattle.jr_dispatch.proofs.changes.first_among.Goals as goal

pub returns-in_default-clause-none : goal.returns-in_default-clause-none
returns-in_default-clause-none c = λ d j is h.
    let ps = programs_of c.args.old.now c.args.new.now c.keeps_rows.ensures c.keeps_rows-2.ensures c.requires.alike in
    c.in_default.ensures.none d (change_low (entries_of c.args.old.now) (entries_of c.args.new.now) ps c.args.lows.now c.requires.lows d j is h)

pub returns-in_default-first_method-clause-none : goal.returns-in_default-first_method-clause-none
returns-in_default-first_method-clause-none c = λ d j is h.
    let ps = programs_of c.args.old.now c.args.new.now c.keeps_rows.ensures c.keeps_rows-2.ensures c.requires.alike in
    let x = low_changes (entries_of c.args.old.now) (entries_of c.args.new.now) ps c.args.lows.now c.requires.lows c.in-Some.class c.in-Some.ensures.some.has in
    c.in_default-first_method.ensures.none x.0 x.1

pub returns-clause-some : goal.returns-clause-some
returns-clause-some c =
    let ps = programs_of c.args.old.now c.args.new.now c.keeps_rows.ensures c.keeps_rows-2.ensures c.requires.alike in
    first_is (entries_of c.args.old.now) (entries_of c.args.new.now) ps c.args.lows.now c.requires.lows c.in-Some.class c.in-Some-first_method.method c.in-Some.ensures.some c.in-Some-first_method.ensures.some
