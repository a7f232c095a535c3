-- The runs of a statement match those of its image: `GuardedStmts`, where nothing is known of any call.
use Rattle.std.proofs.Common.{◌⊎◌, ℕ, List, refl}
use Rattle.jr_plans.specs.Plan.{done, call}
use Rattle.jr_plans.specs.Follow.{CallBoth}
use Rattle.jr_runs.specs.Keys.{Keys, At}
use Rattle.jr_runs.specs.Values.{Value}
use Rattle.jr_runs.specs.Arithmetic.{Out}
use Rattle.jr_runs.specs.Core as core
use Rattle.jr_runs.specs.Core.{Exp, Stmt, Stmts}
use Rattle.jr_runs.specs.Evaluation.{Flow, turn, Step, on_flow, leaving, stmt, stmts}
use Rattle.jr_runs.specs.KeyMaps.{value_image}
use Rattle.jr_runs.specs.Standing.{IsFree, Standing, Stands, Frame, Holding, Shifted}
use Rattle.jr_runs.specs.Sets.{NumberSet, with_one, Within}
use Rattle.jr_runs.specs.Images.{ExpTo, Spots, lists_alone, StmtTo, StmtsTo}
use Rattle.jr_runs.specs.Pairs.{OutRel, FlowRel, Returns, SomeReturns, TurnTo}
use Rattle.jr_runs.proofs.Matching.{Setting, Matches}
use Rattle.jr_runs.proofs.Guarded.{any_safe, unguarded}
use Rattle.jr_runs.proofs.GuardedExps.{exp_known}
use Rattle.jr_runs.proofs.GuardedStmts as guarded
use Rattle.jr_runs.proofs.GuardedStmts.{TurnsKnown, SpotsKnown}

-- turns of loops that belong together are answered alike
abbrev pub TurnsAnswered : {K : Keys} (g : Setting K) → Spots K → Type 0
TurnsAnswered {K = K} g Spot = (me : Value K) (c : Exp K) (b : Stmt K) (l : List (Value K)) (me' : Value K) (c' : Exp K) (b' : Stmt K) (l' : List (Value K)) (t : TurnTo g.keys g.old Spot me c b l me' c' b' l')
    → CallBoth g.more g.relation g.sides (OutRel (FlowRel g.keys (Shifted g.keys t.at t.frame t.tested) (Returns b))) (turn me c b l) (turn me' c' b' l')

-- they are so, whatever is known of calls
pub any_turns : {K : Keys} (g : Setting K) (Spot : Spots K) → TurnsAnswered g Spot → TurnsKnown (unguarded g) (lists_alone Spot)
any_turns g Spot turns me c b l me' c' b' l' t made made' = turns me c b l me' c' b' l' t

module _ {K : Keys} (g : Setting K) where
  -- code that may return by more ways, and behind which less agrees
  pub wider : (L L' : List (Value K) → List (Value K) → Type 0) (M N : Type 0) → ((l l' : List (Value K)) → L l l' → L' l l') → (M → N) → (o o' : Out (Flow K)) → OutRel (FlowRel g.keys L M) o o' → OutRel (FlowRel g.keys L' N) o o'
  wider L L' M N j i o o' h = guarded.wider g.keys L L' M N j i o o' h

  module _ (s : Standing K) (stands : Stands s) (frame : Frame K) (me me' : Value K) (im : Holding g.old g.keys s.code frame me me') where
    abbrev Shift : NumberSet → List (Value K) → List (Value K) → Type 0
    Shift A l l' = Shifted g.keys s frame A l l'

    abbrev pub FlowTo : NumberSet → Type 0 → Flow K → Flow K → Type 0
    FlowTo B M x x' = FlowRel g.keys (Shift B) M x x'

    -- two pieces of code match from locals on of which A agree, to where B do; M: may the old one return?
    abbrev pub Follow : NumberSet → Type 0 → NumberSet → (List (Value K) → Step K (Flow K)) → (List (Value K) → Step K (Flow K)) → Type 0
    Follow A M B p p' = (l l' : List (Value K)) → Shift A l l' → Matches g (FlowTo B M) (p l) (p' l')

    pub looser : (B C : NumberSet) → Within C B → (M N : Type 0) → (M → N) → (p p' : Step K (Flow K)) → Matches g (FlowTo B M) p p' → Matches g (FlowTo C N) p p'
    looser B C w M N i p p' x = guarded.looser (unguarded g) s stands frame me me' im B C w M N i p p' x

    pub match_flow : (B C : NumberSet) (M N : Type 0) (x x' : Flow K) → FlowTo B M x x' → (k k' : List (Value K) → Step K (Flow K)) → Follow B N C k k' → Matches g (FlowTo C (M ⊎ N)) (on_flow x k) (on_flow x' k')
    match_flow B C M N x x' h k k' d = guarded.match_flow (unguarded g) s stands frame me me' im B C M N x x' h k k' (any_safe (on_flow x k)) (any_safe (on_flow x' k')) (λ l l' i o o'. d l l' i)

    pub listed_match : (A B C : NumberSet) (a a' : Stmt K) (b b' : Stmts K) (M N : Type 0) → Follow A M B (stmt g.old me a) (stmt g.new me' a') → Follow B N C (stmts g.old me b) (stmts g.new me' b')
        → Follow A (M ⊎ N) C (stmts g.old me (core.Stmts.more a b)) (stmts g.new me' (core.Stmts.more a' b'))
    listed_match A B C a a' b b' M N x d l l' h = guarded.listed_known (unguarded g) s stands frame me me' im A B C a a' b b' M N (λ m m' i o o'. x m m' i) (λ m m' i o o'. d m m' i) l l' h
        (any_safe (stmts g.old me (core.Stmts.more a b) l)) (any_safe (stmts g.new me' (core.Stmts.more a' b') l'))

    pub leaving_match : (B : NumberSet) (M : Type 0) (p q : At K) (o : Value K) (x x' : Step K (Flow K)) → Matches g (FlowTo B M) x x' → Matches g (FlowTo B M) (leaving p o x) (leaving q (value_image g.keys o) x')
    leaving_match B M p q o x x' y = guarded.leaving_known (unguarded g) s stands frame me me' im B M p q o (value_image g.keys o) refl x x' (any_safe (leaving p o x)) (any_safe (leaving q (value_image g.keys o) x')) (λ i i'. y)

    pub declare_match : (A B C : NumberSet) (p q : At K) (n : ℕ) (e e' : Exp K) → IsFree s.code n → ExpTo g.keys g.old s.code A e e' B → Within C (with_one B n)
        → Follow A ⊥ C (stmt g.old me (core.declare p n e)) (stmt g.new me' (core.declare q (s.code.at n) e'))
    declare_match A B C p q n e e' free d w l l' h = guarded.declare_known (unguarded g) s stands frame me me' im A B C p q n e e' free (exp_known (unguarded g) s stands frame me me' im A B e e' d) w l l' h
        (any_safe (stmt g.old me (core.declare p n e) l)) (any_safe (stmt g.new me' (core.declare q (s.code.at n) e') l'))

    pub eval_match : (A B : NumberSet) (p q : At K) (e e' : Exp K) → ExpTo g.keys g.old s.code A e e' B → Follow A ⊥ B (stmt g.old me (core.eval p e)) (stmt g.new me' (core.eval q e'))
    eval_match A B p q e e' d l l' h = guarded.eval_known (unguarded g) s stands frame me me' im A B p q e e' (exp_known (unguarded g) s stands frame me me' im A B e e' d) l l' h (any_safe (stmt g.old me (core.eval p e) l)) (any_safe (stmt g.new me' (core.eval q e') l'))

    -- behind it nothing is run, so any set will do
    pub return_match : (A B C : NumberSet) (p q : At K) (e e' : Exp K) → ExpTo g.keys g.old s.code A e e' B → Follow A (Unit {0}) C (stmt g.old me (core.return p e)) (stmt g.new me' (core.return q e'))
    return_match A B C p q e e' d l l' h = guarded.return_known (unguarded g) s stands frame me me' im A B C p q e e' (exp_known (unguarded g) s stands frame me me' im A B e e' d) l l' h (any_safe (stmt g.old me (core.return p e) l)) (any_safe (stmt g.new me' (core.return q e') l'))

module _ {K : Keys} (g : Setting K) (Spot : Spots K) (turns : TurnsAnswered g Spot) where
  -- a turn of a loop is a call that is answered
  pub turn_match : (s : Standing K) (stands : Stands s) (frame : Frame K) (me me' : Value K) (im : Holding g.old g.keys s.code frame me me') (H B C : NumberSet) (c c' : Exp K) (b b' : Stmt K) → ExpTo g.keys g.old s.code H c c' B → StmtTo g.keys g.old Spot s B b b' C → Within H C
      → Follow g s stands frame me me' im H (Returns b) B (λ l. call (turn me c b l) (λ o. done o)) (λ l. call (turn me' c' b' l) (λ o. done o))
  turn_match s stands frame me me' im H B C c c' b b' d t w l l' h =
      let p : Step K (Flow K) = call (turn me c b l) (λ o. done o) in
      let p' : Step K (Flow K) = call (turn me' c' b' l') (λ o. done o) in
      guarded.turn_known (unguarded g) (lists_alone Spot) (any_turns g Spot turns) s stands frame me me' im H B C c c' b b' d t w l l' h (any_safe p) (any_safe p')

  abbrev pub SpotsOwed : Type 0
  SpotsOwed = (s : Standing K) (stands : Stands s) (frame : Frame K) (me me' : Value K) (im : Holding g.old g.keys s.code frame me me') (A : NumberSet) (b b' : Stmts K) (B : NumberSet) → Spot s A b b' B
      → (l l' : List (Value K)) → Shifted g.keys s frame A l l' → Matches g (FlowRel g.keys (Shifted g.keys s frame B) (SomeReturns b)) (stmts g.old me b l) (stmts g.new me' b' l')

  module _ (spots : SpotsOwed) where
    pub any_spots : SpotsKnown (unguarded g) (lists_alone Spot)
    any_spots = record {
      exps = λ s stands frame me me' im A B e e' none l l' h o o'. absurd none;
      lists = λ s stands frame me me' im A b b' B t l l' h o o'. spots s stands frame me me' im A b b' B t l l' h;
    }

    module _ (s : Standing K) (stands : Stands s) (frame : Frame K) (me me' : Value K) (im : Holding g.old g.keys s.code frame me me') where
      pub stmt_match : (A B : NumberSet) (a a' : Stmt K) → StmtTo g.keys g.old Spot s A a a' B → (l l' : List (Value K)) → Shifted g.keys s frame A l l' → Matches g (FlowRel g.keys (Shifted g.keys s frame B) (Returns a)) (stmt g.old me a l) (stmt g.new me' a' l')
      stmt_match A B a a' t l l' h = guarded.stmt_known (unguarded g) (lists_alone Spot) (any_turns g Spot turns) s stands frame me me' im any_spots A B a a' t l l' h (any_safe (stmt g.old me a l)) (any_safe (stmt g.new me' a' l'))

      pub stmts_match : (A B : NumberSet) (b b' : Stmts K) → StmtsTo g.keys g.old Spot s A b b' B → (l l' : List (Value K)) → Shifted g.keys s frame A l l' → Matches g (FlowRel g.keys (Shifted g.keys s frame B) (SomeReturns b)) (stmts g.old me b l) (stmts g.new me' b' l')
      stmts_match A B b b' t l l' h = guarded.stmts_known (unguarded g) (lists_alone Spot) (any_turns g Spot turns) s stands frame me me' im any_spots A B b b' t l l' h (any_safe (stmts g.old me b l)) (any_safe (stmts g.new me' b' l'))
