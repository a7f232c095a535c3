use Rattle.jr_table.proofs.SpanLaws.{are_spans}
use Rattle.jr_table.proofs.spans.Spans.of_rows.Goals as goal

pub returns-then-all_fit : goal.returns-then-all_fit
returns-then-all_fit c = are_spans c.args.entries.now c.requires.stand c.requires.acyclic c.in_ok-numbered.numbered (c.all_fit.ensures c.if-all_fit.true)
