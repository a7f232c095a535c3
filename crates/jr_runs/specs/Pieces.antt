-- Two pieces of a trace of which each pair of actions may change places.
use Rattle.std.specs.Prelude.{List, [], ◌∷◌, ◌++◌}
use Rattle.jr_plans.specs.Follow.{Joins}
use Rattle.jr_runs.specs.Keys.{Keys, keys_of}
use Rattle.jr_runs.specs.Actions.{Action, Trace}
use Rattle.jr_runs.specs.Reordering.{Free, Reordered}

abbrev pub FreeOfAll : {K : Keys} → Action K → List (Action K) → Type 0
FreeOfAll a [] = Unit {0}
FreeOfAll a (b ∷ v) = Free a b × FreeOfAll a v

-- each action of the first with each of the second, in this order
abbrev pub AllFree : {K : Keys} → List (Action K) → List (Action K) → Type 0
AllFree [] v = Unit {0}
AllFree (a ∷ u) v = FreeOfAll a v × AllFree u v

-- reordered traces are joined to reordered traces
abbrev pub ReorderingsJoin : (C F M N A : Type 0) → Type 0
ReorderingsJoin C F M N A =
    Joins (λ (u : Trace (keys_of C F M N A)) (t : Trace (keys_of C F M N A)). Reordered u t)

-- such pieces change places, whatever stands in front of them and behind
abbrev pub PiecesChangePlaces : (C F M N A : Type 0) → Type 0
PiecesChangePlaces C F M N A = (front u v behind : Trace (keys_of C F M N A)) → AllFree u v
    → Reordered (front ++ (u ++ (v ++ behind))) (front ++ (v ++ (u ++ behind)))
