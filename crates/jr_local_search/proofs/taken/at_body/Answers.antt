use Rattle.std.proofs.Common.{map}
use Rattle.jr_ast.specs.View.{param_of}
use Rattle.jr_local_search.proofs.FirstNamed.{is_at_body, counted}
use Rattle.jr_local_search.proofs.taken.at_body.Goals as goal

pub returns : goal.returns
returns c = λ k is_static base count.
    is_at_body c.args.name.now k is_static base (map param_of c.args.params.now) c.args.types (record { next = c.in_ok-next.next; named = c.in_ok-named.named }) count
    (counted c.args.params.now c.in_ok-next.next c.in_ok-next.ensures) c.in_ok-named.ensures
