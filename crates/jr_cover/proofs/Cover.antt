-- In each run of a program that has a member, its actions follow its edges.
use Rattle.std.proofs.Common.{◌≡◌, ℕ, zero, suc, ◌+◌, Bool, true, false, List, [], ◌∷◌, ◌++◌, length, Option, Some, None, IsTrue, nat_eq, refl, sym, ap, subst, ◌∙◌, inl, inr, ⊎_elim, arith}
use Rattle.std.proofs.lemmas.Bool.{eq-eqb}
use Rattle.jr_plans.specs.Plan.{done, act, call}
use Rattle.jr_plans.specs.Numbered.{Numbered}
use Rattle.jr_ast.specs.Tree as tree
use Rattle.jr_ast.specs.Tree.{Word}
use Rattle.jr_ast.specs.StatementTree as statement
use Rattle.jr_runs.specs.Keys.{Keys}
use Rattle.jr_runs.specs.Values.{Value, int, truth, null, text, class_object, object}
use Rattle.jr_runs.specs.Actions.{part, store, enter, Event, placed}
use Rattle.jr_runs.specs.Rows.{Rows}
use Rattle.jr_runs.specs.Arithmetic.{Out, value, thrown, started_before}
use Rattle.jr_runs.specs.Core as core
use Rattle.jr_runs.specs.Core.{Exp, Stmt, Stmts, Code, Method, written, starts, Program}
use Rattle.jr_runs.specs.Evaluation.{Flow, goes_on, returns, Call, invoke, construct, turn, Step, on_value, next, non_null, on_truth, on_flow, leaving, first_locals, constructed, exp, exps, stmt, stmts, run_code, run_start, run_method, table}
use Rattle.jr_runs.specs.MemberTranslation.{is_synchronized, monitor, locked, in_front}
use Rattle.jr_cover.specs.MemberTranslation.{is_static, initializer_code, Parent, parent_args, constructed_by}
use Rattle.jr_cover.specs.Translation.{exp_code}
use Rattle.jr_cover.specs.StatementTranslation.{stmts_code}
use Rattle.jr_runs.specs.Running.{Start, of_method, of_constructor, call_of, is_activation, run_of}
use Rattle.jr_runs.specs.TypedRuns.{OutHas}
use Rattle.jr_cover.specs.Paths.{Path}
use Rattle.jr_cover.specs.Ways.{Way, pass, one, row, fork, leave, turns, inside, sites_of, size, Edge}
use Rattle.jr_cover.specs.Visiting.{Leads, Visits, MovesOwn, Follows}
use Rattle.jr_cover.specs.Sites.{What, Site, at_place, Known, unless, exp_way, exps_way, stmt_way, else_way, stmts_way, locked_way, method_way}
use Rattle.jr_cover.specs.Covering.{DoneAt, IsOutside, site_at, FollowEdges}
use Rattle.jr_cover.specs.Elsewhere.{StmtOutside, StmtsOutside, EachOutside}
use Rattle.jr_cover.specs.Members.{super_way, constructor_way, initializer_way, IsOf, outside, MethodIsOf, HasMember, ActionsFollowEdges}
use Rattle.jr_cover.specs.Members as held
use Rattle.jr_cover.proofs.WayLaws.{Fair, joined}
use Rattle.jr_cover.proofs.Visits.{visits_and, visits_more, visits_run}
use Rattle.jr_cover.proofs.Parts.{Part, Stands, row_ready, part_first, part_second, straight_fair}
use Rattle.jr_cover.proofs.Going as going
use Rattle.jr_cover.proofs.Going.{TurnAt, FlowPost, goes_row, goes_end, goes_non_null, goes_act, goes_construct}
use Rattle.jr_cover.proofs.StraightWays.{exp_straight, exps_straight}
use Rattle.jr_cover.proofs.ExpGoes.{exp_goes, exps_goes}
use Rattle.jr_cover.proofs.StmtGoes.{GoesS, exp_ends, unless_null, monitor_goes, stmts_goes, turn_goes}
use Rattle.jr_cover.proofs.OutsideGoes.{QuietTurn, stmt_quiet, stmts_quiet, quiet_turn}

-- ---- a way's sites have their numbers

append_assoc : {S : Type 0} (a b c : List S) → (a ++ b) ++ c ≡ a ++ (b ++ c)
append_assoc [] b c = refl
append_assoc (x ∷ a) b c = ap (λ l. x ∷ l) (append_assoc a b c)

site_behind : {S : Type 0} (front : List S) (s : S) (rest : List S) (n : ℕ) → n ≡ length front → site_at (front ++ (s ∷ rest)) n ≡ Some s
site_behind [] s rest zero e = refl
site_behind [] s rest (suc n) e = absurd (omega (arith, e))
site_behind (x ∷ front) s rest zero e = absurd (omega (arith, e))
site_behind (x ∷ front) s rest (suc n) e = site_behind front s rest n (omega (arith, e))

length_both : {S : Type 0} (a b : List S) → length (a ++ b) ≡ length a + length b
length_both [] b = omega arith
length_both (x ∷ a) b = let h = length_both a b in omega (arith, h)

size_length : {S : Type 0} (w : Way S) → length (sites_of w) ≡ size w
size_length pass = refl
size_length (one s) = refl
size_length (row a b) = let h = size_length a in let g = size_length b in let k = length_both (sites_of a) (sites_of b) in omega (arith, h, g, k)
size_length (fork a b) = let h = size_length a in let g = size_length b in let k = length_both (sites_of a) (sites_of b) in omega (arith, h, g, k)
size_length leave = refl
size_length (turns s c b) = let h = size_length c in let g = size_length b in let k = length_both (sites_of c) (sites_of b) in omega (arith, h, g, k)
size_length (inside e b x) = let g = size_length b in let k = length_both (sites_of b) (x ∷ []) in omega (arith, g, k)

module _ {S : Type 0} (all : List S) where
  abbrev Is : ℕ → S → Type 0
  Is i s = site_at all i ≡ Some s

  next_in : (s : S) (front rest : List S) (n : ℕ) → n ≡ length front → all ≡ front ++ (s ∷ rest) → Is n s
  next_in s front rest n e i = subst (λ l. site_at l n ≡ Some s) (sym i) (site_behind front s rest n e)

  longer : (w : Way S) (front : List S) (n : ℕ) → n ≡ length front → n + size w ≡ length (front ++ sites_of w)
  longer w front n e = let h = size_length w in let k = length_both front (sites_of w) in omega (arith, e, h, k)

  two_in : (a b : Way S) (front rest : List S) (n : ℕ) → n ≡ length front → all ≡ front ++ ((sites_of a ++ sites_of b) ++ rest)
      → ((front rest : List S) (n : ℕ) → n ≡ length front → all ≡ front ++ (sites_of a ++ rest) → Stands Is n a) → ((front rest : List S) (n : ℕ) → n ≡ length front → all ≡ front ++ (sites_of b ++ rest) → Stands Is n b) → Stands Is n a × Stands Is (n + size a) b
  two_in a b front rest n e i f g = (
    f front (sites_of b ++ rest) n e (i ∙ ap (λ l. front ++ l) (append_assoc (sites_of a) (sites_of b) rest)),
    g (front ++ sites_of a) rest (n + size a) (longer a front n e) (i ∙ ap (λ l. front ++ l) (append_assoc (sites_of a) (sites_of b) rest) ∙ sym (append_assoc front (sites_of a) (sites_of b ++ rest))),
  )

  one_longer : (s : S) (front : List S) (n : ℕ) → n ≡ length front → suc n ≡ length (front ++ (s ∷ []))
  one_longer s front n e = let k = length_both front (s ∷ []) in omega (arith, e, k)

  -- a piece whose sites stand behind `front` and in front of `rest`
  pub stands_in : (w : Way S) (front rest : List S) (n : ℕ) → n ≡ length front → all ≡ front ++ (sites_of w ++ rest) → Stands Is n w
  stands_in pass front rest n e i = tt
  stands_in (one s) front rest n e i = next_in s front rest n e i
  stands_in (row a b) front rest n e i = two_in a b front rest n e i (λ f r m j k. stands_in a f r m j k) (λ f r m j k. stands_in b f r m j k)
  stands_in (fork a b) front rest n e i = two_in a b front rest n e i (λ f r m j k. stands_in a f r m j k) (λ f r m j k. stands_in b f r m j k)
  stands_in leave front rest n e i = tt
  stands_in (turns s c b) front rest n e i =
      let two = two_in c b (front ++ (s ∷ [])) rest (suc n) (one_longer s front n e) (i ∙ sym (append_assoc front (s ∷ []) ((sites_of c ++ sites_of b) ++ rest))) (λ f r m j k. stands_in c f r m j k) (λ f r m j k. stands_in b f r m j k) in
      (next_in s front ((sites_of c ++ sites_of b) ++ rest) n e i, two.0, two.1)
  stands_in (inside s b x) front rest n e i =
      let j : all ≡ (front ++ (s ∷ [])) ++ (sites_of b ++ (x ∷ rest)) = i ∙ ap (λ l. front ++ (s ∷ l)) (append_assoc (sites_of b) (x ∷ []) rest) ∙ sym (append_assoc front (s ∷ []) (sites_of b ++ (x ∷ rest))) in (
        next_in s front ((sites_of b ++ (x ∷ [])) ++ rest) n e i,
        stands_in b (front ++ (s ∷ [])) (x ∷ rest) (suc n) (one_longer s front n e) j,
        next_in x ((front ++ (s ∷ [])) ++ sites_of b) rest (suc n + size b) (longer b (front ++ (s ∷ [])) (suc n) (one_longer s front n e)) (j ∙ sym (append_assoc (front ++ (s ∷ [])) (sites_of b) (x ∷ rest))),
      )

-- ---- conditions of loops have no return

module _ {K : Keys} {A : Type 0} (X : Known K A) where
  pub exp_fair : (e : tree.Exp A) → Fair (exp_way X e)
  exp_fair e = straight_fair (λ i j. ⊥) (λ i s. ⊥) (exp_way X e) (exp_straight X e)

  check_fair : (b : Bool) (p : K.place) → Fair (unless {K = K} b (at_place {K = K} p What.checks))
  check_fair true p = tt
  check_fair false p = tt

  mutual
    stmt_fair : (s : statement.Stmt A) → Fair (stmt_way X s)
    stmt_fair (statement.local a is_final t w e) = (exp_fair e, tt)
    stmt_fair (statement.eval a e) = exp_fair e
    stmt_fair (statement.branch a c s o) = (exp_fair c, (stmt_fair s, else_fair o))
    stmt_fair (statement.loop a c s) = (exp_straight X c, exp_fair c, stmt_fair s)
    stmt_fair (statement.return a None) = tt
    stmt_fair (statement.return a (Some e)) = (exp_fair e, tt)
    stmt_fair (statement.block a b) = stmts_fair b
    stmt_fair (statement.sync a e b) = (exp_fair e, (check_fair (X.never_null e) (X.facts.first a), stmts_fair b))
    stmt_fair (statement.empty a) = tt

    else_fair : (o : statement.Else A) → Fair (else_way X o)
    else_fair statement.no_else = tt
    else_fair (statement.otherwise s) = stmt_fair s

    pub stmts_fair : (b : statement.Stmts A) → Fair (stmts_way X b)
    stmts_fair statement.end = tt
    stmts_fair (statement.more s b) = (stmt_fair s, stmts_fair b)

  method_fair : (b : Bool) (p q : K.place) (body : statement.Stmts A) → Fair (locked_way b p q (stmts_way X body))
  method_fair true p q body = stmts_fair body
  method_fair false p q body = stmts_fair body

  constructor_fair : (p : K.place) (args : Option (tree.Exps A)) (body : statement.Stmts A) → Fair (constructor_way X p args body)
  constructor_fair p None body = ((tt, tt), stmts_fair body)
  constructor_fair p (Some es) body = ((straight_fair (λ i j. ⊥) (λ i s. ⊥) (exps_way X es) (exps_straight X es), tt), stmts_fair body)

-- a whole member is a piece of itself
whole : {S : Type 0} (w : Way S) → Fair w → Part (Edge 0 w) (λ i s. site_at (sites_of w) i ≡ Some s) 0 w
whole w f = record { edges = λ i j e. e; sites = stands_in (sites_of w) w [] [] 0 refl (sym (append_nil (sites_of w))); fair = f }
  where
    append_nil : {T : Type 0} (l : List T) → l ++ [] ≡ l
    append_nil [] = refl
    append_nil (x ∷ l) = ap (λ t. x ∷ t) (append_nil l)

-- ---- each method and constructor visits its sites from the beginning on

module _ {K : Keys} {A : Type 0} (R : Rows K) (X : Known K A) (Outside : K.place → Type 0) (me : Value K) where
  abbrev IsIn : Way (Site K) → ℕ → Site K → Type 0
  IsIn w i s = site_at (sites_of w) i ≡ Some s

  abbrev Turn : Way (Site K) → Exp K → Stmt K → Type 0
  Turn w c b = QuietTurn R X (Edge 0 w) (IsIn w) Outside c b

  -- it visits sites of w, wherever it ends
  abbrev Begun : Way (Site K) → Step K (Flow K) → Option ℕ → Type 0
  Begun w x p = going.Visiting R X (Edge 0 w) (IsIn w) (IsOutside K Outside) (Turn w) (λ (o : Out (Flow K)) q. Unit {0}) x p

  module _ (w : Way (Site K)) where
    abbrev MovesIn : Event K → Option ℕ → Option ℕ → Type 0
    MovesIn x p q = going.Moves R X (Edge 0 w) (IsIn w) (IsOutside K Outside) x p q

    abbrev PreIn : Call K → Option ℕ → Type 0
    PreIn c p = going.Pre R X (Edge 0 w) (IsIn w) (IsOutside K Outside) (Turn w) c p

    abbrev PostIn : (c : Call K) (p : Option ℕ) → PreIn c p → Out (Flow K) → Option ℕ → Type 0
    PostIn c p h r q = going.Post R X (Edge 0 w) (IsIn w) (IsOutside K Outside) (Turn w) c p h r q

    abbrev FlowsIn : ℕ → Way (Site K) → Option ℕ → Out (Flow K) → Option ℕ → Type 0
    FlowsIn n v p o q = FlowPost R X (Edge 0 w) (IsIn w) (IsOutside K Outside) n v p o q

    abbrev PartIn : ℕ → Way (Site K) → Type 0
    PartIn n v = Part (Edge 0 w) (IsIn w) n v

    abbrev GoesIn : ℕ → Way (Site K) → Step K (Flow K) → Type 0
    GoesIn n v x = GoesS R X (Edge 0 w) (IsIn w) (IsOutside K Outside) (Turn w) n v x

    begun_and : (Q : Out (Flow K) → Option ℕ → Type 0) (x : Step K (Flow K)) (k : List (Value K) → Step K (Flow K)) (p : Option ℕ) → going.Visiting R X (Edge 0 w) (IsIn w) (IsOutside K Outside) (Turn w) Q x p
        → ((m : List (Value K)) (q : Option ℕ) → Q (value (goes_on m)) q → Begun w (k m) q) → Begun w (next x (λ f. on_flow f k)) p
    begun_and Q x k p g h = visits_and MovesIn PreIn PostIn Q (λ o q. Unit {0}) x (on_value (λ f. on_flow f k)) p g go
      where
        go : (o : Out (Flow K)) (q : Option ℕ) → Q o q → Begun w (on_value (λ f. on_flow f k) o) q
        go (value (goes_on m)) q i = h m q i
        go (value (returns v)) q i = tt
        go (thrown f) q i = tt

    begun : (Q : Out (Flow K) → Option ℕ → Type 0) (x : Step K (Flow K)) (p : Option ℕ) → going.Visiting R X (Edge 0 w) (IsIn w) (IsOutside K Outside) (Turn w) Q x p → Begun w x p
    begun Q x p g = visits_more MovesIn PreIn PostIn Q (λ o q. Unit {0}) (λ o q i. tt) x p g

    quiet_begun : (b : Stmts K) → StmtsOutside K Outside b → (l : List (Value K)) (p : Option ℕ) → Begun w (stmts R me b l) p
    quiet_begun b i l p = begun (λ o q. q ≡ p) (stmts R me b l) p (stmts_quiet R X (Edge 0 w) (IsIn w) Outside me b l i p)

    -- initializers that stand elsewhere, and then a body
    in_front_begun : (fields : List (Stmt K)) (b : Stmts K) (p : Option ℕ) → EachOutside K Outside fields → ((l : List (Value K)) → Begun w (stmts R me b l) p) → (l : List (Value K)) → Begun w (stmts R me (in_front fields b) l) p
    in_front_begun [] b p i g l = g l
    in_front_begun (s ∷ ss) b p i g l = begun_and (λ o q. q ≡ p) (stmt R me s l) (λ m. stmts R me (in_front ss b) m) p (stmt_quiet R X (Edge 0 w) (IsIn w) Outside me s l i.0 p)
        (λ m q e. subst (λ z. Begun w (stmts R me (in_front ss b) m) z) (sym e) (in_front_begun ss b p i.1 g m))

    quiet_then : (s : Stmt K) (b : Stmts K) (p : Option ℕ) → StmtOutside K Outside s → ((l : List (Value K)) → Begun w (stmts R me b l) p) → (l : List (Value K)) → Begun w (stmts R me (core.Stmts.more s b) l) p
    quiet_then s b p i g l = begun_and (λ o q. q ≡ p) (stmt R me s l) (λ m. stmts R me b m) p (stmt_quiet R X (Edge 0 w) (IsIn w) Outside me s l i p) (λ m q e. subst (λ z. Begun w (stmts R me b m) z) (sym e) (g m))

  -- ---- a method

  locked_begun : (b s : Bool) (class : K.class) (p q : K.place) (body : statement.Stmts A) (l : List (Value K))
      → Begun (locked_way b p q (stmts_way X body)) (stmts R me (locked b (Some p) (Some q) (monitor class s) (stmts_code X.facts body)) l) None
  locked_begun false s class p q body l = begun w (λ o r. FlowsIn w 0 w None o r) (stmts R me (stmts_code X.facts body) l) None (stmts_goes R X (Edge 0 w) (IsIn w) (IsOutside K Outside) (Turn w) me body 0 l None (whole w (stmts_fair X body)) (λ f i. tt))
    where
      w : Way (Site K)
      w = stmts_way X body
  locked_begun true s class p q body l = begun_and w (λ o r. FlowsIn w 0 w None o r) (stmt R me (core.sync (Some p) (Some q) (monitor class s) (stmts_code X.facts body)) l) (λ m. done (value (goes_on m))) None (by_monitor s) (λ m r i. tt)
    where
      w : Way (Site K)
      w = locked_way true p q (stmts_way X body)

      held_by : (v : Value K) → going.Visiting R X (Edge 0 w) (IsIn w) (IsOutside K Outside) (Turn w) (λ o r. FlowsIn w 0 w None o r) (non_null v (act (placed (Some p) (enter v)) (leaving (Some q) v (stmts R me (stmts_code X.facts body) l)))) None
      held_by v = unless_null R X (Edge 0 w) (IsIn w) (IsOutside K Outside) (Turn w) 0 w v (act (placed (Some p) (enter v)) (leaving (Some q) v (stmts R me (stmts_code X.facts body) l)))
          (monitor_goes R X (Edge 0 w) (IsIn w) (IsOutside K Outside) (Turn w) 0 p q (stmts_way X body) v (stmts R me (stmts_code X.facts body) l) (stmts_goes R X (Edge 0 w) (IsIn w) (IsOutside K Outside) (Turn w) me body 1 l)) None (whole w (stmts_fair X body)) (λ f i. tt)

      by_monitor : (s : Bool) → going.Visiting R X (Edge 0 w) (IsIn w) (IsOutside K Outside) (Turn w) (λ o r. FlowsIn w 0 w None o r) (stmt R me (core.sync (Some p) (Some q) (monitor class s) (stmts_code X.facts body)) l) None
      by_monitor true = held_by (class_object class)
      by_monitor false = held_by me

  -- ---- a constructor

  super_exp : (p : Parent K) (called : K.place) (args : Option (tree.Exps A)) (body : statement.Stmts A) (l : List (Value K))
      → going.Goes R X (Edge 0 (constructor_way X called args body)) (IsIn (constructor_way X called args body)) (IsOutside K Outside) (Turn (constructor_way X called args body)) 0 (row (super_way X args) (at_place called What.calls)) (λ (r : Value K × List (Value K)). Unit {0})
      (exp R me (core.super_constructor p.at (core.this None) p.constructor (parent_args X.facts args)) l)
  super_exp p called args body l = goes_row R X (Edge 0 w) (IsIn w) (IsOutside K Outside) (Turn w) 0 (super_way X args) (at_place called What.calls) (λ (r : List (Value K) × List (Value K)). Unit {0}) (λ (r : Value K × List (Value K)). Unit {0})
      (exps R me (parent_args X.facts args) l) (λ z. non_null me (call (construct p.constructor me z.0) (λ a. done (constructed me z.1 a)))) (args_go args)
      (λ z u. goes_non_null R X (Edge 0 w) (IsIn w) (IsOutside K Outside) (Turn w) (λ (r : Value K × List (Value K)). Unit {0}) (0 + size (super_way X args)) (at_place called What.calls) me (call (construct p.constructor me z.0) (λ a. done (constructed me z.1 a)))
      (goes_construct R X (Edge 0 w) (IsIn w) (IsOutside K Outside) (Turn w) (λ (r : Value K × List (Value K)). Unit {0}) (0 + size (super_way X args)) (record { at = called; what = What.calls }) p.constructor me z.0 (λ a. constructed me z.1 a) (λ a. any_constructed z.1 a)))
    where
      w : Way (Site K)
      w = constructor_way X called args body

      any_constructed : (m : List (Value K)) (a : Out (Flow K)) → OutHas (λ (r : Value K × List (Value K)). Unit {0}) (constructed me m a)
      any_constructed m (value f) = tt
      any_constructed m (thrown f) = tt

      args_go : (args' : Option (tree.Exps A)) → going.Goes R X (Edge 0 w) (IsIn w) (IsOutside K Outside) (Turn w) 0 (super_way X args') (λ (r : List (Value K) × List (Value K)). Unit {0}) (exps R me (parent_args X.facts args') l)
      args_go None = exps_goes R X (Edge 0 w) (IsIn w) (IsOutside K Outside) (Turn w) me tree.end 0 l
      args_go (Some es) = exps_goes R X (Edge 0 w) (IsIn w) (IsOutside K Outside) (Turn w) me es 0 l

  constructor_begun : (p : Parent K) (called : K.place) (fields : List (Stmt K)) (args : Option (tree.Exps A)) (body : statement.Stmts A) → EachOutside K Outside fields → (l : List (Value K))
      → Begun (constructor_way X called args body) (stmts R me (constructed_by p (parent_args X.facts args) fields (stmts_code X.facts body)) l) None
  constructor_begun p called fields args body i l = begun_and w (λ o r. FlowsIn w 0 front None o r) (stmt R me (core.eval p.at (core.super_constructor p.at (core.this None) p.constructor (parent_args X.facts args))) l)
      (λ m. stmts R me (in_front fields (stmts_code X.facts body)) m) None
      (exp_ends R X (Edge 0 w) (IsIn w) (IsOutside K Outside) (Turn w) 0 front (exp R me (core.super_constructor p.at (core.this None) p.constructor (parent_args X.facts args)) l) (λ r. r.1) (super_exp p called args body l) None (part_first (Edge 0 w) (IsIn w) 0 front (stmts_way X body) part) (λ f j. tt))
      (λ m q d. in_front_begun w fields (stmts_code X.facts body) q i (λ k. begun w (λ o r. FlowsIn w (0 + size front) (stmts_way X body) q o r) (stmts R me (stmts_code X.facts body) k) q
      (stmts_goes R X (Edge 0 w) (IsIn w) (IsOutside K Outside) (Turn w) me body (0 + size front) k q (part_second (Edge 0 w) (IsIn w) 0 front (stmts_way X body) part)
      (row_ready (Edge 0 w) (IsIn w) 0 front (stmts_way X body) None q part (λ f j. tt) d.0))) m)
    where
      w : Way (Site K)
      w = constructor_way X called args body

      front : Way (Site K)
      front = row (super_way X args) (at_place called What.calls)

      part : PartIn w 0 w
      part = whole w (constructor_fair X called args body)

  -- ---- a field's initializer

  initializer_begun : (f : K.field) (name : Word A) (e : tree.Exp A) (l : List (Value K)) → Begun (initializer_way X f name e) (stmt R me (initializer_code X.facts f name e) l) None
  initializer_begun f name e l = begun w (λ o r. FlowsIn w 0 w None o r) (stmt R me (initializer_code X.facts f name e) l) None
      (exp_ends R X (Edge 0 w) (IsIn w) (IsOutside K Outside) (Turn w) 0 w (next (exp R me (exp_code X.facts e) l) (λ z. next (non_null me (act (placed (Some p) (store (R.field_kind f) (part me f) z.0)) (done (value z.1)))) (λ m. done (value (z.0, m))))) (λ r. r.1) goes None (whole w (exp_fair X e, tt)) (λ i j. tt))
    where
      w : Way (Site K)
      w = initializer_way X f name e

      p : K.place
      p = X.facts.first name.mark

      stored : (z : Value K × List (Value K)) → going.Goes R X (Edge 0 w) (IsIn w) (IsOutside K Outside) (Turn w) (0 + size (exp_way X e)) (at_place p (What.stores f)) (λ (m : List (Value K)). Unit {0}) (non_null me (act (placed (Some p) (store (R.field_kind f) (part me f) z.0)) (done (value z.1))))
      stored z = goes_non_null R X (Edge 0 w) (IsIn w) (IsOutside K Outside) (Turn w) (λ (m : List (Value K)). Unit {0}) (0 + size (exp_way X e)) (at_place p (What.stores f)) me (act (placed (Some p) (store (R.field_kind f) (part me f) z.0)) (done (value z.1)))
          (goes_act R X (Edge 0 w) (IsIn w) (IsOutside K Outside) (Turn w) (λ (m : List (Value K)). Unit {0}) (0 + size (exp_way X e)) (record { at = p; what = What.stores f }) (placed (Some p) (store (R.field_kind f) (part me f) z.0)) z.1 (refl, (refl, refl)) tt)

      goes : going.Goes R X (Edge 0 w) (IsIn w) (IsOutside K Outside) (Turn w) 0 w (λ (r : Value K × List (Value K)). Unit {0}) (next (exp R me (exp_code X.facts e) l) (λ z. next (non_null me (act (placed (Some p) (store (R.field_kind f) (part me f) z.0)) (done (value z.1)))) (λ m. done (value (z.0, m)))))
      goes = goes_row R X (Edge 0 w) (IsIn w) (IsOutside K Outside) (Turn w) 0 (exp_way X e) (at_place p (What.stores f)) (λ (r : Value K × List (Value K)). Unit {0}) (λ (r : Value K × List (Value K)). Unit {0}) (exp R me (exp_code X.facts e) l)
          (λ z. next (non_null me (act (placed (Some p) (store (R.field_kind f) (part me f) z.0)) (done (value z.1)))) (λ m. done (value (z.0, m)))) (exp_goes R X (Edge 0 w) (IsIn w) (IsOutside K Outside) (Turn w) me e 0 l)
          (λ z u. goes_end R X (Edge 0 w) (IsIn w) (IsOutside K Outside) (Turn w) (0 + size (exp_way X e)) (at_place p (What.stores f)) (λ (m : List (Value K)). Unit {0}) (λ (r : Value K × List (Value K)). Unit {0})
          (non_null me (act (placed (Some p) (store (R.field_kind f) (part me f) z.0)) (done (value z.1)))) (λ m. value (z.0, m)) (stored z) (λ m v. tt))

  field_begun : (before after : List (Stmt K)) (first : Stmt K) (f : K.field) (name : Word A) (e : tree.Exp A) (rest : Stmts K) → StmtOutside K Outside first → EachOutside K Outside before → EachOutside K Outside after → StmtsOutside K Outside rest
      → (l : List (Value K)) → Begun (initializer_way X f name e) (stmts R me (core.Stmts.more first (in_front before (core.Stmts.more (initializer_code X.facts f name e) (in_front after rest)))) l) None
  field_begun before after first f name e rest i j k h l = quiet_then w first (in_front before (core.Stmts.more (initializer_code X.facts f name e) (in_front after rest))) None i
      (λ m. in_front_begun w before (core.Stmts.more (initializer_code X.facts f name e) (in_front after rest)) None j
      (λ n. begun_and w (λ o q. Unit {0}) (stmt R me (initializer_code X.facts f name e) n) (λ o. stmts R me (in_front after rest) o) None (initializer_begun f name e n)
      (λ o q d. in_front_begun w after rest q k (λ r. quiet_begun w rest h r q) o)) m) l
    where
      w : Way (Site K)
      w = initializer_way X f name e

  -- ---- whichever it is

  code_begun : (c : Code K) (w : Way (Site K)) → IsOf X Outside c w → (args : List (Value K)) → Begun w (run_code R me c args) None
  code_begun c w (outside i) args = quiet_begun w c.body i (first_locals c.params args) None
  code_begun c w (held.of_method class a modifiers name params body e f) args =
      subst (λ v. Begun v (run_code R me c args) None) (sym f) (subst (λ d. Begun (method_way X a modifiers name body) (run_code R me d args) None) (sym e)
      (locked_begun (is_synchronized modifiers) (is_static modifiers) class (X.facts.first name.mark) (X.facts.last a) body (first_locals (length params) args)))
  code_begun c w (held.of_constructor p called fields params args' body i j e f) args =
      subst (λ v. Begun v (run_code R me c args) None) (sym f) (subst (λ d. Begun (constructor_way X called args' body) (run_code R me d args) None) (sym e)
      (constructor_begun p called fields args' body j (first_locals (length params) args)))
  code_begun c w (held.of_field before after first f name e rest i j k h q r) args =
      subst (λ v. Begun v (run_code R me c args) None) (sym r) (subst (λ b. Begun (initializer_way X f name e) (stmts R me b (first_locals c.params args)) None) (sym q)
      (field_begun before after first f name e rest i j k h (first_locals c.params args)))

  start_begun : (w : Way (Site K)) → Begun w (run_start me) None
  start_begun w = λ v t. (None, inl (tt, refl), started v)
    where
      started : (v : Value K) → Begun w (on_truth v (done (thrown started_before)) (done (value (returns None)))) None
      started (truth true) = tt
      started (truth false) = tt
      started null = tt
      started (int z) = tt
      started (text t) = tt
      started (class_object c) = tt
      started (object i c) = tt

  method_begun : (m : Method K) (w : Way (Site K)) → MethodIsOf X Outside m w → (args : List (Value K)) → Begun w (run_method R me m args) None
  method_begun (written c) w h args = code_begun c w h args
  method_begun starts w h args = start_begun w

-- ---- the law

module _ {K : Keys} {A : Type 0} (X : Known K A) (Outside : K.place → Type 0) (w : Way (Site K)) (P : Program K) (has : HasMember X Outside P w) where
  E : ℕ → ℕ → Type 0
  E = Edge 0 w

  abbrev In : ℕ → Site K → Type 0
  In i s = site_at (sites_of w) i ≡ Some s

  abbrev MovesOf : Event K → Option ℕ → Option ℕ → Type 0
  MovesOf x p q = going.Moves P.rows X (Edge 0 w) In (IsOutside K Outside) x p q

  abbrev PreOf : Call K → Option ℕ → Type 0
  PreOf c p = going.Pre P.rows X (Edge 0 w) In (IsOutside K Outside) (QuietTurn P.rows X (Edge 0 w) In Outside) c p

  abbrev PostOf : (c : Call K) (p : Option ℕ) → PreOf c p → Out (Flow K) → Option ℕ → Type 0
  PostOf c p h r q = going.Post P.rows X (Edge 0 w) In (IsOutside K Outside) (QuietTurn P.rows X (Edge 0 w) In Outside) c p h r q

  no : {B : Type 0} → true ≡ false → B
  no e = absurd (true_is_not_false e)
    where
      true_is_not_false : true ≡ false → ⊥
      true_is_not_false i = cc

  no' : {B : Type 0} → false ≡ true → B
  no' e = no (sym e)

  begins : (c : Call K) → is_activation c ≡ true → Visits MovesOf PreOf PostOf (λ r q. Unit {0}) (table P c) None
  begins (invoke m me args) e = method_begun P.rows X Outside me (P.method m) w (has.methods m) args
  begins (construct k me args) e = code_begun P.rows X Outside me (P.constructor k) w (has.constructors k) args
  begins (turn me c b l) e = no' e

  for_caller : (c : Call K) → is_activation c ≡ true → (p : Option ℕ) (h : PreOf c p) (r : Out (Flow K)) → PostOf c p h r p
  for_caller (invoke m me args) e p h r = refl
  for_caller (construct k me args) e p h r = refl
  for_caller (turn me c b l) e p h r = no' e

  turns_go : (c : Call K) → is_activation c ≡ false → (p : Option ℕ) (h : PreOf c p) → Visits MovesOf PreOf PostOf (λ r q. PostOf c p h r q) (table P c) p
  turns_go (invoke m me args) e p h = no e
  turns_go (construct k me args) e p h = no e
  turns_go (turn me c b l) e p (inl t) = turn_goes P.rows X (Edge 0 w) In (IsOutside K Outside) (QuietTurn P.rows X (Edge 0 w) In Outside) me c b l p t
  turns_go (turn me c b l) e p (inr t) = quiet_turn P.rows X (Edge 0 w) In Outside me c b l t p

  activation_follows : (c : Start K) (answers : List (Value K)) (fuel k : ℕ) → (r : Option ℕ) × Follows MovesOf k (run_of P c answers fuel).trace None r
  activation_follows c answers fuel k = visits_run MovesOf PreOf PostOf is_activation (table P) for_caller turns_go begins fuel (call_of c) (is_start c) answers k
    where
      is_start : (c : Start K) → is_activation (call_of c) ≡ true
      is_start (of_method m me args) = refl
      is_start (of_constructor k me args) = refl

  -- behind a site: it, or one to which a path leads
  abbrev Behind : ℕ → Option ℕ → Type 0
  Behind i q = (j : ℕ) → Leads (Edge 0 w) q j → Path (Edge 0 w) i j

  moved_on : (i : ℕ) (x : Event K) (p q : Option ℕ) → Behind i p → MovesOf x p q → Behind i q
  moved_on i x p q h m = ⊎_elim
      (λ d. subst (λ z. Behind i z) (sym d.1) h)
      (λ d. subst (λ z. Behind i z) (sym d.5) (λ j l. joined i d.0 j (h d.0 d.4) l)) m

  follows_on : (k i : ℕ) (t : List (Numbered (Event K))) (p r : Option ℕ) → Behind i p → Follows MovesOf k t p r → Behind i r
  follows_on k i [] p r h f = subst (λ z. Behind i z) (sym f) h
  follows_on k i (x ∷ t) p r h f = follows_on k i t f.0 r (by_number (nat_eq x.activation k) f.1) f.2
    where
      by_number : (b : Bool) → MovesOwn MovesOf k b x.action p f.0 → Behind i f.0
      by_number true m = moved_on i x.action p f.0 h m
      by_number false e = subst (λ z. Behind i z) (sym e) h

  split : (k : ℕ) (t u : List (Numbered (Event K))) (p r : Option ℕ) → Follows MovesOf k (t ++ u) p r → (q : Option ℕ) × Follows MovesOf k t p q × Follows MovesOf k u q r
  split k [] u p r f = (p, refl, f)
  split k (x ∷ t) u p r f = let d = split k t u f.0 r f.2 in (d.0, (f.0, f.1, d.1), d.2)

  own_moves : (x : Numbered (Event K)) (k : ℕ) (p q : Option ℕ) → x.activation ≡ k → MovesOwn MovesOf k (nat_eq x.activation k) x.action p q → MovesOf x.action p q
  own_moves x k p q e m = subst (λ b. MovesOwn MovesOf k b x.action p q) (eq-eqb x.activation k e) m

  -- what is done at a site of the member
  at_own : (x : Event K) (p q : Option ℕ) → (IsOutside K Outside x.at → ⊥) → MovesOf x p q → (i : ℕ) × (s : Site K) × In i s × DoneAt P.rows s x × Leads (Edge 0 w) p i × (q ≡ Some i)
  at_own x p q n m = ⊎_elim (λ d. absurd (n d.0)) (λ d. d) m

  pub follow_edges : (c : Start K) (answers : List (Value K)) (fuel : ℕ) → FollowEdges P.rows Outside w (run_of P c answers fuel).trace
  follow_edges c answers fuel t u v x y e same nx ny =
      let k = x.activation in
      let all = activation_follows c answers fuel k in
      let f : Follows MovesOf k (t ++ x ∷ (u ++ y ∷ v)) None all.0 = subst (λ z. Follows MovesOf k z None all.0) e all.1 in
      let one = split k t (x ∷ (u ++ y ∷ v)) None all.0 f in
      let here = at_own x.action one.0 one.2.0 nx (own_moves x k one.0 one.2.0 refl one.2.1) in
      let two = split k u (y ∷ v) one.2.0 all.0 one.2.2 in
      let there = at_own y.action two.0 two.2.0 ny (own_moves y k two.0 two.2.0 (sym same) two.2.1) in
      let behind = follows_on k here.0 u one.2.0 two.0 (λ j l. subst (λ z. Leads (Edge 0 w) z j) here.5 l) two.1 in
      (here.0, there.0, here.1, there.1, here.2, there.2, here.3, there.3, behind there.0 there.4)

pub actions_follow_edges : {C F M N L A : Type 0} → ActionsFollowEdges C F M N L A
actions_follow_edges X is_outside w P has c answers fuel = follow_edges X (λ p. IsTrue (is_outside p)) w P has c answers fuel
