-- Each by computation.
use Rattle.std.proofs.Common.{refl}
use Rattle.jr_cover_cases.specs.EdgeCases.{OrderEdges, BranchEdges, LoopEdges, ReturnEdges, EdgeCases}

order_edges : OrderEdges
order_edges = record {
  one_behind_another = refl;
  past_what_has_no_site = refl;
}

branch_edges : BranchEdges
branch_edges = record {
  two_branches = refl;
  one_branch = refl;
  and_may_stop = refl;
  or_may_stop = refl;
  past_the_right_operand = refl;
  both_last_sites_to_both = refl;
}

loop_edges : LoopEdges
loop_edges = record {
  with_condition = refl;
  with_two_last_sites = refl;
  without_condition = refl;
  past_its_condition = refl;
  without_body = refl;
  past_its_body = refl;
  body_that_returns = refl;
  alone = refl;
}

return_edges : ReturnEdges
return_edges = record {
  return_to_exit = refl;
  return_to_both_exits = refl;
  return_in_a_loop = refl;
  nothing_behind_return = refl;
  empty_block = refl;
}

pub edge_cases : EdgeCases
edge_cases = record {
  in_order = order_edges;
  of_branches = branch_edges;
  of_loops = loop_edges;
  of_returns = return_edges;
}
