-- The run and the sites by computation, the paths along listed edges.
use Rattle.std.proofs.Common.{ℕ, refl, inl, inr}
use Rattle.jr_cover.specs.Paths.{Path, edge, onward}
use Rattle.jr_cover.specs.Ways.{Edge}
use Rattle.jr_cover.proofs.FlowLaws.{In, flow_is}
use Rattle.jr_cover_cases.specs.Samples.{edges}
use Rattle.jr_cover_cases.specs.ThrowCases.{guarded_way, ThrowCases}

listed : (i j : ℕ) → In (i, j) (edges guarded_way) → Edge 0 guarded_way i j
listed i j p = ((flow_is 0 guarded_way).edges i j).to p

to_store : Edge 0 guarded_way 3 4
to_store = listed 3 4 (inl refl)

to_check : Edge 0 guarded_way 2 3
to_check = listed 2 3 (inr (inl refl))

to_value : Edge 0 guarded_way 1 2
to_value = listed 1 2 (inr (inr (inl refl)))

into_block : Edge 0 guarded_way 0 1
into_block = listed 0 1 (inr (inr (inr (inl refl))))

to_exit : Edge 0 guarded_way 4 5
to_exit = listed 4 5 (inr (inr (inr (inr (inl refl)))))

from_check : Path (Edge 0 guarded_way) 3 5
from_check = onward 3 4 5 to_store (edge 4 5 to_exit)

pub throw_cases : ThrowCases
throw_cases = record {
  guarded_sites = refl;
  guarded_edges = refl;
  exit_behind_the_check = from_check;
  trace_is = refl;
  end_is = refl;
  entered_at = (refl, tt);
  exited_at = (refl, tt);
  path_is = onward 0 1 5 into_block (onward 1 2 5 to_value (onward 2 3 5 to_check from_check));
}
