use Rattle.std.proofs.Common.{sym}
use Rattle.std.proofs.lemmas.Bool.{iff_false}
use Rattle.std.proofs.lemmas.Option.{slice_get-get_or}
use Rattle.jr_dependences.specs.Numbers.{SameNumber}
use Rattle.jr_dependences.proofs.Stopping.{stops_as, flow_none, flow_some}
use Rattle.jr_dependences.proofs.stops.flow_of.Goals as goal

pub returns-then-not-is_read_in : goal.returns-then-not-is_read_in
returns-then-not-is_read_in c edges rows =
    flow_none SameNumber SameNumber c.args.sites.now edges c.args.first _ (slice_get-get_or c.args.sites.now c.args.first _ c.requires.first)
    (iff_false c.is_read_in.ensures c.if-not-is_read_in.true)

pub returns : goal.returns
returns c edges rows =
    flow_some SameNumber SameNumber c.args.sites.now edges c.args.first _ (slice_get-get_or c.args.sites.now c.args.first _ c.requires.first)
    c.deref.result.now c.in_ok-reached.reached
    (stops_as SameNumber SameNumber c.args.sites.now _ _ _ (sym c.deref.ensures.value) c.in_ok-stops.ensures)
    (c.in_ok-reached.ensures edges rows)
