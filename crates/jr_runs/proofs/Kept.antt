-- Code that is kept as it is, inside what is changed.
use Rattle.std.proofs.Common.{List}
use Rattle.jr_runs.specs.Keys.{Keys}
use Rattle.jr_runs.specs.Values.{Value}
use Rattle.jr_runs.specs.Rows.{Rows}
use Rattle.jr_runs.specs.Core.{Exp, Stmt, Stmts}
use Rattle.jr_runs.specs.Evaluation.{stmts}
use Rattle.jr_runs.specs.KeyMaps.{KeyMap}
use Rattle.jr_runs.specs.Standing.{Standing, Stands, Frame, Holding, Shifted}
use Rattle.jr_runs.specs.Sets.{NumberSet}
use Rattle.jr_runs.specs.Images.{Spots, NoSpot, lists_alone, StmtTo, to_declare, to_eval, to_branch, to_loop, to_return, to_return_nothing, to_block, to_sync, to_empty, StmtsTo, to_no_more, to_list, to_spot}
use Rattle.jr_runs.specs.Pairs.{FlowRel, SomeReturns, TurnTo}
use Rattle.jr_runs.proofs.Matching.{Setting, Matches}
use Rattle.jr_runs.proofs.ImageStmts.{TurnsAnswered, stmts_match}
use Rattle.jr_runs.proofs.Guarded.{Guarded, Matched, OldSafe, NewSafe}
use Rattle.jr_runs.proofs.GuardedStmts.{TurnsKnown, SpotsKnown, stmts_known}

module _ {K : Keys} (r : KeyMap K) (R : Rows K) (Spot : Spots K) (s : Standing K) where
  -- an image without changed lists is one with them
  mutual
    pub kept_stmt : {A B : NumberSet} (a a' : Stmt K) → StmtTo r R NoSpot s A a a' B → StmtTo r R Spot s A a a' B
    kept_stmt a a' (to_declare A B C p q n e e' free d w) = to_declare A B C p q n e e' free d w
    kept_stmt a a' (to_eval A B p q e e' d) = to_eval A B p q e e' d
    kept_stmt a a' (to_branch A B C D E p q c c' x x' y y' d f g u v) = to_branch A B C D E p q c c' x x' y y' d (kept_stmt x x' f) (kept_stmt y y' g) u v
    kept_stmt a a' (to_loop A H B C p q c c' b b' u d f w) = to_loop A H B C p q c c' b b' u d (kept_stmt b b' f) w
    kept_stmt a a' (to_return A B C p q e e' d) = to_return A B C p q e e' d
    kept_stmt a a' (to_return_nothing A B p q) = to_return_nothing A B p q
    kept_stmt a a' (to_block A B C p q ns ns' b b' d w f) = to_block A B C p q ns ns' b b' d w (kept_stmts b b' f)
    kept_stmt a a' (to_sync A B C p q p' q' e e' b b' d f) = to_sync A B C p q p' q' e e' b b' d (kept_stmts b b' f)
    kept_stmt a a' (to_empty A p q) = to_empty A p q

    pub kept_stmts : {A B : NumberSet} (b b' : Stmts K) → StmtsTo r R NoSpot s A b b' B → StmtsTo r R Spot s A b b' B
    kept_stmts b b' (to_no_more A) = to_no_more A
    kept_stmts b b' (to_list A B C x x' y y' f g) = to_list A B C x x' y y' (kept_stmt x x' f) (kept_stmts y y' g)
    kept_stmts b b' (to_spot A B x x' f) = absurd f

abbrev kept_turn : {K : Keys} (r : KeyMap K) (R : Rows K) (Spot : Spots K) (me : Value K) (c : Exp K) (b : Stmt K) (l : List (Value K)) (me' : Value K) (c' : Exp K) (b' : Stmt K) (l' : List (Value K)) → TurnTo r R NoSpot me c b l me' c' b' l' → TurnTo r R Spot me c b l me' c' b' l'
kept_turn r R Spot me c b l me' c' b' l' t = record { at = t.at; stands = t.stands; frame = t.frame; self = t.self; head = t.head; tested = t.tested; behind = t.behind; condition = t.condition; body = kept_stmt r R Spot t.at b b' t.body; again = t.again; locals = t.locals }

module _ {K : Keys} (g : Setting K) (Spot : Spots K) where
  pub kept_turns : TurnsAnswered g Spot → TurnsAnswered g NoSpot
  kept_turns turns me c b l me' c' b' l' t = turns me c b l me' c' b' l' (kept_turn g.keys g.old Spot me c b l me' c' b' l' t)

  -- kept code matches, wherever it stands
  pub kept_match : TurnsAnswered g Spot → (s : Standing K) → Stands s → (frame : Frame K) (me me' : Value K) → Holding g.old g.keys s.code frame me me' → (A : NumberSet) (b b' : Stmts K) (B : NumberSet) → StmtsTo g.keys g.old NoSpot s A b b' B
      → (l l' : List (Value K)) → Shifted g.keys s frame A l l' → Matches g (FlowRel g.keys (Shifted g.keys s frame B) (SomeReturns b)) (stmts g.old me b l) (stmts g.new me' b' l')
  kept_match turns s stands frame me me' im A b b' B d l l' h = stmts_match g NoSpot (kept_turns turns) (λ a t f m m' i A1 x x' B1 none. absurd none) s stands frame me me' im A B b b' d l l' h

-- nothing is changed
pub nothing_changed : {K : Keys} {keys : KeyMap K} {R R' : Rows K} (g : Guarded keys R R') → SpotsKnown g (lists_alone NoSpot)
nothing_changed g = record {
  exps = λ s stands frame me me' im A B e e' none l l' h o o'. absurd none;
  lists = λ s stands frame me me' im A b b' B none l l' h o o'. absurd none;
}

-- the same where calls are made as they should be
module _ {K : Keys} {keys : KeyMap K} {R R' : Rows K} (g : Guarded keys R R') (Spot : Spots K) where
  pub kept_turns_known : TurnsKnown g (lists_alone Spot) → TurnsKnown g (lists_alone NoSpot)
  kept_turns_known turns me c b l me' c' b' l' t made made' = turns me c b l me' c' b' l' (kept_turn keys R Spot me c b l me' c' b' l' t) made made'

  pub kept_known : TurnsKnown g (lists_alone Spot) → (s : Standing K) → Stands s → (frame : Frame K) (me me' : Value K) → Holding R keys s.code frame me me' → (A : NumberSet) (b b' : Stmts K) (B : NumberSet) → StmtsTo keys R NoSpot s A b b' B
      → (l l' : List (Value K)) → Shifted keys s frame A l l' → OldSafe g (stmts R me b l) → NewSafe g (stmts R' me' b' l') → Matched g (FlowRel keys (Shifted keys s frame B) (SomeReturns b)) (stmts R me b l) (stmts R' me' b' l')
  kept_known turns s stands frame me me' im A b b' B d l l' h o o' = stmts_known g (lists_alone NoSpot) (kept_turns_known turns) s stands frame me me' im (nothing_changed g) A B b b' d l l' h o o'
