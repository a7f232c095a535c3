-- A piece that has no `Read` site of some locals does the same whatever these hold.
use Rattle.std.proofs.Common.{◌≡◌, ℕ, Bool, false, List, refl}
use Rattle.jr_runs.specs.Keys.{Keys}
use Rattle.jr_runs.specs.Values.{Value}
use Rattle.jr_runs.specs.Core.{Program}
use Rattle.jr_runs.specs.Evaluation.{Step, exp, stmts, table}
use Rattle.jr_cover.specs.Translation.{exp_code}
use Rattle.jr_cover.specs.StatementTranslation.{stmts_code}
use Rattle.jr_runs.specs.Pairs.{OutRel}
use Rattle.jr_runs.specs.Running.{is_activation}
use Rattle.jr_cover.specs.Ways.{sites_of}
use Rattle.jr_cover.specs.Sites.{What, reads, writes, loads, stores, enters, exits, creates, checks, calls, loops, Site, exp_way, stmts_way}
use Rattle.jr_cover.specs.Footprints.{piece_run}
use Rattle.jr_cover.specs.Unread.{ReadsNone, SameRuns, ExpressionsReadTheirLocals, StatementsReadTheirLocals}
use Rattle.jr_cover.proofs.Touching.{Any, NotOf, Sees, ListSees, exp_by_sites, stmts_by_sites}
use Rattle.jr_cover.proofs.SideBySide.{pieces_go}
use Rattle.jr_cover.proofs.UnreadLocals.{Go, Back, Both, Val, Flo, exp_both, stmts_both, tables_go, same_opening}

module _ {K : Keys} (N : ℕ → Bool) where
  spares : (w : What K) → ((n : ℕ) → w ≡ reads n → N n ≡ false) → Sees (NotOf N) Any (Unit {0}) (Unit {0}) w
  spares (reads n) g = g n refl
  spares (writes n) g = tt
  spares (loads f) g = tt
  spares (stores f) g = tt
  spares enters g = tt
  spares exits g = tt
  spares creates g = tt
  spares checks g = tt
  spares calls g = tt
  spares loops g = tt

  pub all_spare : (all : List (Site K)) → ReadsNone N all → ListSees (NotOf N) Any (Unit {0}) (Unit {0}) all
  all_spare all h i s e = spares s.what (λ n q. h i s n e q)

  pub runs_same : {A : Type 0} (P : Program K) (Q : A → A → Type 0) (x y : Step K A) → Both N Q x y → (own next fuel : ℕ) (answers : List (Value K))
      → SameRuns (OutRel Q) (piece_run P x own next answers fuel) (piece_run P y own next answers fuel)
  runs_same P Q x y h own next fuel answers = pieces_go (Go N) (Back N) is_activation (table P) (same_opening N) (tables_go N P) (OutRel Q) fuel x y h own next answers

pub expressions_read_their_locals : {C F M Q L A : Type 0} → ExpressionsReadTheirLocals C F M Q L A
expressions_read_their_locals X P e N h me l m s own next fuel answers = runs_same N P (Val N) (exp P.rows me (exp_code X.facts e) l) (exp P.rows me (exp_code X.facts e) m)
    (exp_both N P.rows me (exp_code X.facts e) (exp_by_sites (NotOf N) Any (Unit {0}) (Unit {0}) X e (all_spare N (sites_of (exp_way X e)) h)) l m s) own next fuel answers

pub statements_read_their_locals : {C F M Q L A : Type 0} → StatementsReadTheirLocals C F M Q L A
statements_read_their_locals X P b N h me l m s own next fuel answers = runs_same N P (Flo N) (stmts P.rows me (stmts_code X.facts b) l) (stmts P.rows me (stmts_code X.facts b) m)
    (stmts_both N P.rows me (stmts_code X.facts b) (stmts_by_sites (NotOf N) Any (Unit {0}) (Unit {0}) X b (all_spare N (sites_of (stmts_way X b)) h)) l m s) own next fuel answers
