use Rattle.std.proofs.Common.{map}
use Rattle.std.proofs.lemmas.Result.{IfOk-weaker}
use Rattle.jr_members.specs.PartView.{written_of}
use Rattle.jr_dependence_lines.specs.MemberLines.{in_file}
use Rattle.jr_dependence_lines.proofs.ShownLines.{told_shown, counted_shown}
use Rattle.jr_dependence_lines.proofs.file_lines.dependence_lines.Goals as goal

pub returns-then-fits : goal.returns-then-fits
returns-then-fits c files items each there =
    let ws = in_file c.args.file (map written_of c.args.written.now) in
    IfOk-weaker c.tell_lines-then-fits.result _ _ (λ s h. told_shown c.args.table.now items c.args.before c.args.most ws s h) (c.tell_lines-then-fits.ensures files items each there)

pub returns : goal.returns
returns c files items each there =
    let ws = in_file c.args.file (map written_of c.args.written.now) in
    counted_shown c.args.table.now items c.args.before c.args.most ws c.in_ok-counted.counted (c.in_ok-counted.ensures files items each there) (c.fits.ensures c.if-fits.false)
