-- Pieces whose pairs are all free change places.
use Rattle.std.proofs.Common.{[], ◌∷◌, ◌++◌}
use Rattle.jr_plans.specs.Swaps.{same, exchange, behind, chain}
use Rattle.jr_plans.specs.Follow.{Joins}
use Rattle.jr_plans.proofs.Swapping.{swaps_join, swaps_front}
use Rattle.jr_runs.specs.Keys.{Keys}
use Rattle.jr_runs.specs.Actions.{Action, Trace}
use Rattle.jr_runs.specs.Reordering.{Free, Reordered}
use Rattle.jr_runs.specs.Pieces.{FreeOfAll, AllFree}

module _ {K : Keys} where
  -- one action moves behind a piece
  one_behind : (a : Action K) (v w : Trace K) → FreeOfAll a v → Reordered (a ∷ (v ++ w)) (v ++ (a ∷ w))
  one_behind a [] w h = same (a ∷ w)
  one_behind a (b ∷ v) w h = chain (a ∷ b ∷ (v ++ w)) (b ∷ a ∷ (v ++ w)) (b ∷ (v ++ (a ∷ w))) (exchange a b (v ++ w) h.0) (behind b (a ∷ (v ++ w)) (v ++ (a ∷ w)) (one_behind a v w h.1))

  two_pieces : (u v w : Trace K) → AllFree u v → Reordered (u ++ (v ++ w)) (v ++ (u ++ w))
  two_pieces [] v w h = same (v ++ w)
  two_pieces (a ∷ u) v w h = chain (a ∷ (u ++ (v ++ w))) (a ∷ (v ++ (u ++ w))) (v ++ (a ∷ (u ++ w))) (behind a (u ++ (v ++ w)) (v ++ (u ++ w)) (two_pieces u v w h.1)) (one_behind a v (u ++ w) h.0)

  pub pieces_change_places : (front u v rest : Trace K) → AllFree u v → Reordered (front ++ (u ++ (v ++ rest))) (front ++ (v ++ (u ++ rest)))
  pieces_change_places front u v rest h = swaps_front Free front (u ++ (v ++ rest)) (v ++ (u ++ rest)) (two_pieces u v rest h)

  pub reorderings_join : Joins (λ (u : Trace K) (t : Trace K). Reordered u t)
  reorderings_join = swaps_join Free
