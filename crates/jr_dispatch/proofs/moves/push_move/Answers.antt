use Rattle.std.proofs.Common.{sym, ap, ◌∙◌}
use Rattle.std.specs.List.{list_any}
use Rattle.jr_table.specs.Entries.{entries_of}
use Rattle.jr_dispatch.specs.Moves.{goes_from}
use Rattle.jr_dispatch.proofs.Moving.{no_old, no_new, stays, is_there, is_put}
use Rattle.jr_dispatch.proofs.moves.push_move.Goals as goal

pub returns-in_default : goal.returns-in_default
returns-in_default c = no_old (entries_of c.args.old.now) (entries_of c.args.new.now) c.args.number c.args.numbers.now.items (sym c.in_default.ensures)

pub returns-in_default-entry : goal.returns-in_default-entry
returns-in_default-entry c = no_new (entries_of c.args.old.now) (entries_of c.args.new.now) c.args.number c.args.numbers.now.items (sym c.in_default-entry.ensures)

pub returns-then-eq : goal.returns-then-eq
returns-then-eq c =
    stays (entries_of c.args.old.now) (entries_of c.args.new.now) c.args.number c.in-Some.entry.now c.in-Some-entry.image.now (sym c.in-Some.ensures) (sym c.in-Some-entry.ensures)
    c.as_str-was.result.now c.as_str-now.result.now (sym c.as_str-was.ensures) (sym c.as_str-now.ensures) c.args.numbers.now.items (sym c.eq.ensures ∙ c.if-eq.true)

pub returns-then-one_goes : goal.returns-then-one_goes
returns-then-one_goes c =
    is_there (entries_of c.args.old.now) (entries_of c.args.new.now) c.args.number c.in-Some.entry.now c.in-Some-entry.image.now (sym c.in-Some.ensures) (sym c.in-Some-entry.ensures)
    c.as_str-was.result.now c.as_str-now.result.now (sym c.as_str-was.ensures) (sym c.as_str-now.ensures) c.args.numbers.now.items
    (sym (ap (list_any (goes_from (entries_of c.args.old.now) (entries_of c.args.new.now) c.as_str-was.result.now c.as_str-now.result.now)) c.as_slice.ensures.value) ∙ sym c.one_goes.ensures ∙ c.if-one_goes.true)

pub returns : goal.returns
returns c =
    is_put (entries_of c.args.old.now) (entries_of c.args.new.now) c.args.number c.in-Some.entry.now c.in-Some-entry.image.now (sym c.in-Some.ensures) (sym c.in-Some-entry.ensures)
    c.as_str-was.result.now c.as_str-now.result.now (sym c.as_str-was.ensures) (sym c.as_str-now.ensures) c.args.numbers.now.items _ c.in_ok-push.ensures.items
