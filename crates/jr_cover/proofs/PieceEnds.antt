-- A piece without calls and loops comes to its end. Its plan visits its sites in rising order, so it
-- has at most as many actions as accesses stand ahead.
use Rattle.std.proofs.Common.{◌≡◌, ◌≤◌, ◌<◌, ℕ, zero, suc, ◌-◌, Bool, true, false, List, [], ◌∷◌, Option, Some, None, refl, sym, ap, subst, ◌∙◌, ⊎_elim, arith, append-nil}
use Rattle.jr_plans.specs.Plan.{Plan, done, act, ask, call}
use Rattle.jr_plans.specs.Finite.{Finite}
use Rattle.jr_plans.proofs.Finishing.{finite_within}
use Rattle.jr_ast.specs.Tree as tree
use Rattle.jr_ast.specs.StatementTree as statement
use Rattle.jr_runs.specs.Keys.{Keys, At}
use Rattle.jr_runs.specs.Values.{Value}
use Rattle.jr_runs.specs.Actions.{Event}
use Rattle.jr_runs.specs.Rows.{Rows}
use Rattle.jr_runs.specs.Arithmetic.{Out}
use Rattle.jr_runs.specs.Core.{Exp, Stmt}
use Rattle.jr_runs.specs.Evaluation.{Flow, Call, exp, stmts}
use Rattle.jr_cover.specs.Translation.{exp_code}
use Rattle.jr_cover.specs.StatementTranslation.{stmts_code}
use Rattle.jr_cover.specs.Ways.{Way, sites_of}
use Rattle.jr_cover.specs.Visiting.{Leads, Visits}
use Rattle.jr_cover.specs.Sites.{What, reads, writes, loads, stores, enters, exits, creates, checks, calls, loops, Site, at_place, Known, unless, exp_way, stmt_way, else_way, stmts_way}
use Rattle.jr_cover.specs.Covering.{DoneAt, site_at}
use Rattle.jr_cover.specs.Dependences.{Access, access_of}
use Rattle.jr_cover.specs.Finishing.{NoCallNoLoop, access_count, accesses, AtSomeSite, ExpressionsComeToTheirEnd, StatementsComeToTheirEnd}
use Rattle.jr_cover.proofs.WayLaws.{Fair}
use Rattle.jr_cover.proofs.Parts.{Part}
use Rattle.jr_cover.proofs.Going as going
use Rattle.jr_cover.proofs.StraightWays.{exp_straight}
use Rattle.jr_cover.proofs.ExpGoes.{exp_goes}
use Rattle.jr_cover.proofs.StmtGoes.{stmts_goes}
use Rattle.jr_cover.proofs.Cover.{stands_in, exp_fair, stmts_fair}
use Rattle.jr_cover.proofs.Depending.{accessed}
use Rattle.jr_cover.proofs.Touching.{Any, Sees, SeesAll, ListSees, whole_sees, exp_by_sites, stmts_by_sites}
use Rattle.jr_cover.proofs.Rising.{Loopless, straight_loopless, rises, path_rises}
use Rattle.jr_cover.proofs.Unstopped.{Unstopped, exp_ends, stmts_end}
use Rattle.jr_cover.proofs.Apart.{none_some, same_one}

-- ---- how many accesses stand ahead

module _ {K : Keys} where
  abbrev accesses_from : ℕ → List (Site K) → ℕ
  accesses_from zero all = accesses all
  accesses_from (suc k) [] = 0
  accesses_from (suc k) (s ∷ all) = accesses_from k all

  one_less : (all : List (Site K)) (k i : ℕ) (s : Site K) → site_at all i ≡ Some s → access_count s.what ≡ 1 → k ≤ i → suc (accesses_from (suc i) all) ≤ accesses_from k all
  one_less [] k i s e a h = none_some s e
  one_less (t ∷ all) zero zero s e a h =
      let b : access_count t.what ≡ 1 = ap (λ z. access_count z.what) (same_one t s e) ∙ a in
      omega (arith, b)
  one_less (t ∷ all) zero (suc i) s e a h =
      let g : suc (accesses_from (suc i) all) ≤ accesses all = one_less all zero i s e a (omega arith) in
      omega (arith, g)
  one_less (t ∷ all) (suc k) zero s e a h = absurd (omega (arith, h))
  one_less (t ∷ all) (suc k) (suc i) s e a h = one_less all k i s e a (omega (arith, h))

  is_one : (R : Rows K) (w : What K) (x : Access K) → access_of R w ≡ Some x → access_count w ≡ 1
  is_one R (reads n) x e = none_some x e
  is_one R (writes n) x e = none_some x e
  is_one R (loads f) x e = refl
  is_one R (stores f) x e = refl
  is_one R enters x e = refl
  is_one R exits x e = refl
  is_one R creates x e = refl
  is_one R checks x e = none_some x e
  is_one R calls x e = none_some x e
  is_one R loops x e = none_some x e

  done_is_access : (R : Rows K) (s : Site K) (x : Event K) → DoneAt R s x → access_count s.what ≡ 1
  done_is_access R s x d = let m = accessed R s.what x.action d.1 in is_one R s.what _ m.is

  -- ---- the plan of a piece whose sites are these

  module _ {A : Type 0} (R : Rows K) (X : Known K A) (all : List (Site K)) where
    abbrev Higher : ℕ → ℕ → Type 0
    Higher i j = i < j

    abbrev In : ℕ → Site K → Type 0
    In i s = site_at all i ≡ Some s

    abbrev Nowhere : At K → Type 0
    Nowhere p = ⊥

    abbrev NoTurn : Exp K → Stmt K → Type 0
    NoTurn c b = ⊥

    abbrev MovesOf : Event K → Option ℕ → Option ℕ → Type 0
    MovesOf x p q = going.Moves R X Higher In Nowhere x p q

    abbrev PreOf : Call K → Option ℕ → Type 0
    PreOf c p = going.Pre R X Higher In Nowhere NoTurn c p

    abbrev PostOf : (c : Call K) (p : Option ℕ) → PreOf c p → Out (Flow K) → Option ℕ → Type 0
    PostOf c p h r q = going.Post R X Higher In Nowhere NoTurn c p h r q

    abbrev behind : Option ℕ → ℕ
    behind None = 0
    behind (Some i) = suc i

    abbrev ahead : Option ℕ → ℕ
    ahead p = accesses_from (behind p) all

    not_passed : (p : Option ℕ) (i : ℕ) → Leads Higher p i → behind p ≤ i
    not_passed None i h = omega arith
    not_passed (Some j) i h = let k : j < i = path_rises j i h in omega (arith, k)

    moved : (x : Event K) (p q : Option ℕ) → MovesOf x p q → AtSomeSite R all x × (suc (ahead q) ≤ ahead p)
    moved x p q m = ⊎_elim
        (λ n. absurd n.0)
        (λ d. ((d.0, d.1, d.2, d.3), subst (λ z. suc (ahead z) ≤ ahead p) (sym d.5) (one_less all (behind p) d.0 d.1 d.2 (done_is_access R d.1 x d.3) (not_passed p d.0 d.4))))
        m

    bounded : {B : Type 0} (Q : B → Option ℕ → Type 0) (x : Plan (Value K) (Event K) (Call K) (Out (Flow K)) B) (p : Option ℕ) → Unstopped x → Visits MovesOf PreOf PostOf Q x p → Finite (AtSomeSite R all) x (ahead p)
    bounded Q (done a) p u v = tt
    bounded Q (act e x) p u v =
        let m = moved e p v.0 v.1 in
        finite_within (AtSomeSite R all) (AtSomeSite R all) (act e x) (suc (ahead v.0)) (ahead p) m.1 (λ a h. h) (m.0, bounded Q x v.0 u v.2)
    bounded Q (ask f s x) p u v =
        let d = v u.0.0 u.0.1 in
        let m = moved (s u.0.0) p d.0 d.1 in
        let e : suc (ahead p - 1) ≡ ahead p = omega (arith, m.1) in
        subst (λ n. Finite (AtSomeSite R all) (ask f s x) n) e (
          u.0,
          λ w i. (let b = v w i in
              let g = moved (s w) p b.0 b.1 in
              (g.0, finite_within (AtSomeSite R all) (AtSomeSite R all) (x w) (ahead b.0) (ahead p - 1) (omega (arith, g.1)) (λ a h. h) (bounded Q (x w) b.0 (u.1 w) b.2))),
        )
    bounded Q (call c x) p u v = absurd u

  -- ---- pieces

  module _ {A : Type 0} (R : Rows K) (X : Known K A) (me : Value K) where
    whole : (w : Way (Site K)) → Loopless w → Fair w → Part (Higher R X (sites_of w)) (In R X (sites_of w)) 0 w
    whole w h f = record {
      edges = λ i j e. rises 0 w h i j e;
      sites = stands_in (sites_of w) w [] [] 0 refl (sym (append-nil (sites_of w)));
      fair = f;
    }

    check_loopless : (b : Bool) (p : K.place) → Loopless (unless {K = K} b (at_place {K = K} p checks))
    check_loopless true p = tt
    check_loopless false p = tt

    pub exp_comes : (e : tree.Exp A) → ListSees Any Any ⊥ ⊥ (sites_of (exp_way X e)) → (l : List (Value K))
        → Finite (AtSomeSite R (sites_of (exp_way X e))) (exp R me (exp_code X.facts e) l) (accesses (sites_of (exp_way X e)))
    exp_comes e h l =
        let w = exp_way X e in
        let all = sites_of w in
        bounded R X all (going.ExpPost R X (Higher R X all) (In R X all) (Nowhere R X all) (NoTurn R X all) 0 w (λ (r : Value K × List (Value K)). Unit {0}) None) (exp R me (exp_code X.facts e) l) None
        (exp_ends R me (exp_code X.facts e) (exp_by_sites Any Any ⊥ ⊥ X e h) l)
        (exp_goes R X (Higher R X all) (In R X all) (Nowhere R X all) (NoTurn R X all) me e 0 l None (whole w (straight_loopless w (exp_straight X e)) (exp_fair X e)) (λ f i. tt))

    mutual
      stmt_loopless : (s : statement.Stmt A) → SeesAll Any Any ⊥ ⊥ (stmt_way X s) → Loopless (stmt_way X s)
      stmt_loopless (statement.local a is_final t w e) h = (straight_loopless (exp_way X e) (exp_straight X e), tt)
      stmt_loopless (statement.eval a e) h = straight_loopless (exp_way X e) (exp_straight X e)
      stmt_loopless (statement.branch a c s o) h = (straight_loopless (exp_way X c) (exp_straight X c), (stmt_loopless s h.1.0, else_loopless o h.1.1))
      stmt_loopless (statement.loop a c s) h = absurd h.0
      stmt_loopless (statement.return a None) h = tt
      stmt_loopless (statement.return a (Some e)) h = (straight_loopless (exp_way X e) (exp_straight X e), tt)
      stmt_loopless (statement.block a b) h = stmts_loopless b h
      stmt_loopless (statement.sync a e b) h = (straight_loopless (exp_way X e) (exp_straight X e), (check_loopless (X.never_null e) (X.facts.first a), stmts_loopless b h.1.1))
      stmt_loopless (statement.empty a) h = tt

      else_loopless : (o : statement.Else A) → SeesAll Any Any ⊥ ⊥ (else_way X o) → Loopless (else_way X o)
      else_loopless statement.no_else h = tt
      else_loopless (statement.otherwise s) h = stmt_loopless s h

      stmts_loopless : (b : statement.Stmts A) → SeesAll Any Any ⊥ ⊥ (stmts_way X b) → Loopless (stmts_way X b)
      stmts_loopless statement.end h = tt
      stmts_loopless (statement.more s b) h = (stmt_loopless s h.0, stmts_loopless b h.1)

    pub stmts_come : (b : statement.Stmts A) → ListSees Any Any ⊥ ⊥ (sites_of (stmts_way X b)) → (l : List (Value K))
        → Finite (AtSomeSite R (sites_of (stmts_way X b))) (stmts R me (stmts_code X.facts b) l) (accesses (sites_of (stmts_way X b)))
    stmts_come b h l =
        let w = stmts_way X b in
        let all = sites_of w in
        bounded R X all (going.FlowPost R X (Higher R X all) (In R X all) (Nowhere R X all) 0 w None) (stmts R me (stmts_code X.facts b) l) None
        (stmts_end R me (stmts_code X.facts b) (stmts_by_sites Any Any ⊥ ⊥ X b h) l)
        (stmts_goes R X (Higher R X all) (In R X all) (Nowhere R X all) (NoTurn R X all) me b 0 l None (whole w (stmts_loopless b (whole_sees Any Any ⊥ ⊥ w h)) (stmts_fair X b)) (λ f i. tt))

  neither : (w : What K) → (w ≡ calls → ⊥) × (w ≡ loops → ⊥) → Sees Any Any ⊥ ⊥ w
  neither (reads n) g = tt
  neither (writes n) g = tt
  neither (loads f) g = tt
  neither (stores f) g = tt
  neither enters g = tt
  neither exits g = tt
  neither creates g = tt
  neither checks g = tt
  neither calls g = g.0 refl
  neither loops g = g.1 refl

  pub all_see : (all : List (Site K)) → NoCallNoLoop all → ListSees Any Any ⊥ ⊥ all
  all_see all h i s e = neither s.what (h i s e)

pub expressions_come_to_their_end : {C F M N L A : Type 0} → ExpressionsComeToTheirEnd C F M N L A
expressions_come_to_their_end X R e h me l = exp_comes R X me e (all_see (sites_of (exp_way X e)) h) l

pub statements_come_to_their_end : {C F M N L A : Type 0} → StatementsComeToTheirEnd C F M N L A
statements_come_to_their_end X R b h me l = stmts_come R X me b (all_see (sites_of (stmts_way X b)) h) l
