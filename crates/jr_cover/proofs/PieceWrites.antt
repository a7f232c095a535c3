-- A piece leaves each local as it is of which it has no `Write` site.
use Rattle.std.proofs.Common.{◌≡◌, ℕ, Bool, true, false, List, [], ◌∷◌, refl}
use Rattle.jr_ast.specs.Tree as tree
use Rattle.jr_ast.specs.StatementTree as statement
use Rattle.jr_runs.specs.Keys.{Keys}
use Rattle.jr_runs.specs.Core as core
use Rattle.jr_runs.specs.Core.{Exp, Target, Exps, Stmt, Stmts}
use Rattle.jr_cover.specs.Translation.{exp_code, exps_code}
use Rattle.jr_cover.specs.StatementTranslation.{stmts_code}
use Rattle.jr_runs.specs.Evaluation.{goes_on, local_at, exp, stmts}
use Rattle.jr_cover.specs.Ways.{sites_of}
use Rattle.jr_cover.specs.Sites.{What, reads, writes, loads, stores, enters, exits, creates, checks, calls, loops, Site, Known, exp_way, exps_way, stmts_way}
use Rattle.jr_cover.specs.NeverNull.{IsFree, CarefulExp, CarefulTarget, CarefulExps}
use Rattle.jr_cover.specs.Footprints.{WritesNone, ExpressionsWriteTheirLocals, StatementsWriteTheirLocals}
use Rattle.jr_cover.proofs.Touching.{Any, NotOf, WrittenBy, AllWritten, Touches, TargetTouches, AllTouch, StmtTouches, StmtsTouch, Sees, ListSees, exp_by_sites, exps_by_sites, stmts_by_sites}
use Rattle.jr_cover.proofs.Sparing.{SparedBy, SparingStmt, SparingStmts}
use Rattle.jr_cover.proofs.KeepsLocals.{Untouched, exp_keeps, stmts_spare}
use Rattle.jr_cover.proofs.NeverNullRuns.{given}

spared_by : (N : ℕ → Bool) (ns : List ℕ) → AllWritten (NotOf N) ns → SparedBy N ns
spared_by N [] h = tt
spared_by N (n ∷ ns) h = (h.0, spared_by N ns h.1)

module _ {K : Keys} (N : ℕ → Bool) where
  -- ---- code that writes no local of N

  free_of : (t : Target K) → WrittenBy Any (NotOf N) (Unit {0}) (Unit {0}) t → IsFree N t
  free_of (core.local p n) h = h
  free_of (core.static_field p f) h = tt
  free_of (core.field_of p e f) h = tt

  mutual
    exp_careful : (e : Exp K) → Touches Any (NotOf N) (Unit {0}) (Unit {0}) e → CarefulExp N e
    exp_careful (core.literal p v) h = tt
    exp_careful (core.this p) h = tt
    exp_careful (core.read p t) h = target_careful t h.1
    exp_careful (core.assign p t e) h = (free_of t h.0, target_careful t h.1, exp_careful e h.2)
    exp_careful (core.compound p o t e) h = (free_of t h.1, target_careful t h.2, exp_careful e h.3)
    exp_careful (core.bump p o t) h = (free_of t h.1, target_careful t h.2)
    exp_careful (core.signed p o e) h = exp_careful e h
    exp_careful (core.binary p o a b) h = (exp_careful a h.0, exp_careful b h.1)
    exp_careful (core.both p a b) h = (exp_careful a h.0, exp_careful b h.1)
    exp_careful (core.either p a b) h = (exp_careful a h.0, exp_careful b h.1)
    exp_careful (core.cast p c e) h = exp_careful e h
    exp_careful (core.static_call p m es) h = exps_careful es h.1
    exp_careful (core.instance_call p e m es) h = (exp_careful e h.1, exps_careful es h.2)
    exp_careful (core.super_call p e m es) h = (exp_careful e h.1, exps_careful es h.2)
    exp_careful (core.create p c k es) h = exps_careful es h.1
    exp_careful (core.super_constructor p e k es) h = (exp_careful e h.1, exps_careful es h.2)

    target_careful : (t : Target K) → TargetTouches Any (NotOf N) (Unit {0}) (Unit {0}) t → CarefulTarget N t
    target_careful (core.local p n) h = tt
    target_careful (core.static_field p f) h = tt
    target_careful (core.field_of p e f) h = exp_careful e h

    exps_careful : (es : Exps K) → AllTouch Any (NotOf N) (Unit {0}) (Unit {0}) es → CarefulExps N es
    exps_careful core.Exps.end h = tt
    exps_careful (core.Exps.more e es) h = (exp_careful e h.0, exps_careful es h.1)

  mutual
    stmt_sparing : (s : Stmt K) → StmtTouches Any (NotOf N) (Unit {0}) (Unit {0}) s → SparingStmt N s
    stmt_sparing (core.declare p n e) h = (exp_careful e h.0, h.1)
    stmt_sparing (core.eval p e) h = exp_careful e h
    stmt_sparing (core.branch p c a b) h = (exp_careful c h.0, stmt_sparing a h.1, stmt_sparing b h.2)
    stmt_sparing (core.loop p c b) h = (exp_careful c h.1, stmt_sparing b h.2)
    stmt_sparing (core.return p e) h = exp_careful e h
    stmt_sparing (core.return_nothing p) h = tt
    stmt_sparing (core.block p ns b) h = (spared_by N ns h.0, stmts_sparing b h.1)
    stmt_sparing (core.sync p q e b) h = (exp_careful e h.0, stmts_sparing b h.1)
    stmt_sparing (core.empty p) h = tt

    stmts_sparing : (b : Stmts K) → StmtsTouch Any (NotOf N) (Unit {0}) (Unit {0}) b → SparingStmts N b
    stmts_sparing core.Stmts.end h = tt
    stmts_sparing (core.Stmts.more s b) h = (stmt_sparing s h.0, stmts_sparing b h.1)

  -- ---- from the list of sites

  spares : (w : What K) → ((n : ℕ) → w ≡ writes n → N n ≡ false) → Sees Any (NotOf N) (Unit {0}) (Unit {0}) w
  spares (reads n) g = tt
  spares (writes n) g = g n refl
  spares (loads f) g = tt
  spares (stores f) g = tt
  spares enters g = tt
  spares exits g = tt
  spares creates g = tt
  spares checks g = tt
  spares calls g = tt
  spares loops g = tt

  all_spare : (all : List (Site K)) → WritesNone N all → ListSees Any (NotOf N) (Unit {0}) (Unit {0}) all
  all_spare all h i s e = spares s.what (λ n q. h i s n e q)

  pub exp_spares : {A : Type 0} (X : Known K A) (e : tree.Exp A) → WritesNone N (sites_of (exp_way X e)) → CarefulExp N (exp_code X.facts e)
  exp_spares X e h = exp_careful (exp_code X.facts e) (exp_by_sites Any (NotOf N) (Unit {0}) (Unit {0}) X e (all_spare (sites_of (exp_way X e)) h))

  pub exps_spare : {A : Type 0} (X : Known K A) (es : tree.Exps A) → WritesNone N (sites_of (exps_way X es)) → CarefulExps N (exps_code X.facts es)
  exps_spare X es h = exps_careful (exps_code X.facts es) (exps_by_sites Any (NotOf N) (Unit {0}) (Unit {0}) X es (all_spare (sites_of (exps_way X es)) h))

  pub stmts_are_sparing : {A : Type 0} (X : Known K A) (b : statement.Stmts A) → WritesNone N (sites_of (stmts_way X b)) → SparingStmts N (stmts_code X.facts b)
  stmts_are_sparing X b h = stmts_sparing (stmts_code X.facts b) (stmts_by_sites Any (NotOf N) (Unit {0}) (Unit {0}) X b (all_spare (sites_of (stmts_way X b)) h))

pub expressions_write_their_locals : {C F M Q L A : Type 0} → ExpressionsWriteTheirLocals C F M Q L A
expressions_write_their_locals X P e N h me l m v g i t = given P N (λ r. (i : ℕ) → N i ≡ true → local_at r.1 i ≡ local_at l i) me (exp P.rows me (exp_code X.facts e) l) (v, m)
    (exp_keeps P.rows N me (exp_code X.facts e) l (exp_spares N X e h)) g i t

pub statements_write_their_locals : {C F M Q L A : Type 0} → StatementsWriteTheirLocals C F M Q L A
statements_write_their_locals X P b N h me l m g = given P N (λ f. Untouched P.rows N l f) me (stmts P.rows me (stmts_code X.facts b) l) (goes_on m)
    (stmts_spare P.rows N me (stmts_code X.facts b) (stmts_are_sparing N X b h) l) g
