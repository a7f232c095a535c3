use Rattle.std.specs.Prelude.{option_map}
use Rattle.std.proofs.lemmas.Result.{IfOk-weaker}
use Rattle.jr_members.specs.PartView.{written_of}
use Rattle.jr_local_finds.specs.ValueView.{chosen_of}
use Rattle.jr_local_finds.proofs.Members.{of_file, of_other}
use Rattle.jr_local_finds.proofs.selecting.in_written.Goals as goal

pub returns-then-written-file : goal.returns-then-written-file
returns-then-written-file g c =
    let p = g.V.View.program c.args.view.now in
    IfOk-weaker c.in_part.result _ _ (λ o h. of_file p c.args.file c.args.span.now c.args.number (written_of c.args.written.now) c.if-written-file.true c.bound.result.now c.bound.ensures (option_map chosen_of o) h) c.in_part.ensures

pub returns-else-written-file : goal.returns-else-written-file
returns-else-written-file g c =
    let p = g.V.View.program c.args.view.now in
    of_other p c.args.file c.args.span.now c.args.number (written_of c.args.written.now) c.if-written-file.false
