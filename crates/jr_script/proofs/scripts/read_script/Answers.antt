use Rattle.std.proofs.Common.{Some, map, sym, ap, ◌∙◌, arith}
use Rattle.std.proofs.lemmas.List.{length-map}
use Rattle.serde_json.specs.View.{view, items_of}
use Rattle.jr_script.proofs.CountLaws.{elements-short}
use Rattle.jr_script.proofs.MemberLaws.{array_from}
use Rattle.jr_script.proofs.scripts.read_script.Goals as goal

pub overflow_cast-result : goal.overflow_cast-result
overflow_cast-result c =
    let ds = map view c.in-Some.elements.now.items in
    let is = array_from (view c.in_ok-value.value) (items_of ds) c.in-Some.ensures in
    let short = elements-short c.args.bytes.now ds (c.in_ok-value.ensures.ok.1 ∙ ap Some (sym is)) in
    let long = length-map c.in-Some.elements.now.items view in
    omega (arith, short, long, c.len-then-len.ensures, c.in-Some.elements.now.ok.0)
