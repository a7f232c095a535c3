-- The runs of a program match those of another that is its image, but for changed statement lists.
use Rattle.std.proofs.Common.{◌≡◌, ℕ, List, [], ◌∷◌, map, None, refl}
use Rattle.jr_plans.specs.Follow.{Joins, Sides, Both, AnsweredBoth, Tables, sides_at}
use Rattle.jr_plans.proofs.BothWays.{frame_both}
use Rattle.jr_runs.specs.Keys.{Keys}
use Rattle.jr_runs.specs.Actions.{Event}
use Rattle.jr_runs.specs.Arithmetic.{Out}
use Rattle.jr_runs.specs.Core.{Program}
use Rattle.jr_runs.specs.Evaluation.{Flow, Call, invoke, construct, turn, table}
use Rattle.jr_runs.specs.KeyMaps.{KeyMap, Undoes, value_image, action_image}
use Rattle.jr_runs.specs.Images.{Spots, lists_alone, ProgramTo}
use Rattle.jr_runs.specs.Pairs.{Pair, Post}
use Rattle.jr_runs.proofs.ImageValues.{declarations, same_dispatch}
use Rattle.jr_runs.proofs.Matching.{Setting}
use Rattle.jr_runs.proofs.Guarded.{any_safe, unguarded}
use Rattle.jr_runs.proofs.GuardedPrograms.{Bodies, none_above, code_of_any, method_of_any, calls_known}
use Rattle.jr_runs.proofs.ImageStmts.{TurnsAnswered, SpotsOwed, any_turns, any_spots}

-- What the changed statement lists owe, wherever calls that belong together are answered alike. W relates an action and its image.
pub record Changes {K : Keys} (r q : KeyMap K) (Spot : Spots K) (n : ℕ) (W : List (Event K) → List (Event K) → Type 0) (P P' : Program K) : Type 1 where
  pub there : Undoes q r
  pub joins : Joins W
  pub images : (x y : Event K) → y.action ≡ action_image r x.action → W (x ∷ []) (y ∷ [])
  pub programs : ProgramTo r Spot P P'

abbrev pub setting : {K : Keys} (r q : KeyMap K) (Spot : Spots K) (n : ℕ) (W : List (Event K) → List (Event K) → Type 0) (P P' : Program K) → Changes r q Spot n W P P'
    → (Z : Sides (Event K) (Call K) (Out (Flow K)) (Call K) (Out (Flow K))) → AnsweredBoth n W (Pair r P.rows Spot) (Post r P.rows Spot) Z → Setting K
setting r q Spot n W P P' c Z answered = record {
  keys = r;
  back = q;
  there = c.there;
  more = n;
  relation = W;
  joins = c.joins;
  images = c.images;
  sides = Z;
  old = P.rows;
  new = P'.rows;
  rows = declarations r P.rows P'.rows c.programs.rows;
  dispatch = same_dispatch r P.rows P'.rows c.programs.rows;
  methods = λ m v vs has. answered (invoke m v vs) (invoke (r.method m) (value_image r v) (map (value_image r) vs)) (has, refl, refl, refl);
  constructors = λ k v vs has. answered (construct k v vs) (construct (r.constructor k) (value_image r v) (map (value_image r) vs)) (has, refl, refl, refl);
}

abbrev pub turns_in : {K : Keys} (r q : KeyMap K) (Spot : Spots K) (n : ℕ) (W : List (Event K) → List (Event K) → Type 0) (P P' : Program K) (c : Changes r q Spot n W P P') (Z : Sides (Event K) (Call K) (Out (Flow K)) (Call K) (Out (Flow K))) (answered : AnsweredBoth n W (Pair r P.rows Spot) (Post r P.rows Spot) Z)
    → TurnsAnswered (setting r q Spot n W P P' c Z answered) Spot
turns_in r q Spot n W P P' c Z answered = λ me x b l me' x' b' l' t. answered (turn me x b l) (turn me' x' b' l') t

abbrev pub SpotsMatch : {K : Keys} (r q : KeyMap K) (Spot : Spots K) (n : ℕ) (W : List (Event K) → List (Event K) → Type 0) (P P' : Program K) → Changes r q Spot n W P P' → Type 1
SpotsMatch {K = K} r q Spot n W P P' c = (Z : Sides (Event K) (Call K) (Out (Flow K)) (Call K) (Out (Flow K))) → Tables (table P) (table P') Z → (answered : AnsweredBoth n W (Pair r P.rows Spot) (Post r P.rows Spot) Z) → SpotsOwed (setting r q Spot n W P P' c Z answered) Spot (turns_in r q Spot n W P P' c Z answered)

pub programs_match : {K : Keys} (r q : KeyMap K) (Spot : Spots K) (n : ℕ) (W : List (Event K) → List (Event K) → Type 0) (P P' : Program K) (c : Changes r q Spot n W P P') → SpotsMatch r q Spot n W P P' c
    → (fuel : ℕ) → AnsweredBoth n W (Pair r P.rows Spot) (Post r P.rows Spot) (sides_at (table P) (table P') fuel)
programs_match {K = K} r q Spot n W P P' c spots = frame_both n W c.joins (table P) (table P') (Pair r P.rows Spot) (Post r P.rows Spot) each
  where
    bodies : Bodies r (lists_alone Spot) P P' (λ d. Unit {0})
    bodies = record {
      owner = λ m. None;
      method = λ m has. method_of_any r P.rows Spot (P.method m) (P'.method (r.method m)) (c.programs.methods m has);
      method_mine = λ m me args made. none_above P.rows me;
      constructor_owner = λ k. None;
      constructor = λ k has. code_of_any r P.rows Spot (P.constructor k) (P'.constructor (r.constructor k)) (c.programs.constructors k has);
      constructor_mine = λ k me args made. none_above P.rows me;
    }

    each : (Z : Sides (Event K) (Call K) (Out (Flow K)) (Call K) (Out (Flow K))) → Tables (table P) (table P') Z → AnsweredBoth n W (Pair r P.rows Spot) (Post r P.rows Spot) Z → (d d' : Call K) (pair : Pair r P.rows Spot d d') → Both n W Z (Post r P.rows Spot d d' pair) (table P d) (table P' d')
    each Z t answered d d' pair =
        let g : Setting K = setting r q Spot n W P P' c Z answered in
        let turns : TurnsAnswered (setting r q Spot n W P P' c Z answered) Spot = turns_in r q Spot n W P P' c Z answered in
        calls_known P P' (unguarded g) (lists_alone Spot) (any_turns g Spot turns) (any_spots g Spot turns (spots Z t answered)) bodies d d' pair tt (any_safe (table P d)) (any_safe (table P' d'))
