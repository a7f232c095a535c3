use Rattle.jr_flow.proofs.search.search.Goals as goal

pub returns : goal.returns
returns c edges none holds = record {
  filled = c.args.rows.now;
  started = c.start.new.rows;
  holds = holds;
  starts = c.start.ensures;
  searches = c.spread.ensures;
}
