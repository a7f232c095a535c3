-- A piece reads the locals of its `Read` sites alone: whatever the others hold, its runs do the
-- same, and come to the same.
use Rattle.std.specs.Prelude.{◌≡◌, ℕ, Bool, false, List, Some}
use Rattle.jr_plans.specs.Run.{End, ended, cut, ill_typed}
use Rattle.jr_plans.specs.Numbered.{NumberedRun}
use Rattle.jr_ast.specs.Tree as tree
use Rattle.jr_ast.specs.StatementTree as statement
use Rattle.jr_runs.specs.Keys.{Keys, keys_of}
use Rattle.jr_runs.specs.Values.{Value}
use Rattle.jr_runs.specs.Core.{Program}
use Rattle.jr_runs.specs.Evaluation.{Flow, goes_on, returns, local_at, exp, stmts}
use Rattle.jr_cover.specs.Translation.{exp_code}
use Rattle.jr_cover.specs.StatementTranslation.{stmts_code}
use Rattle.jr_runs.specs.Pairs.{OutRel}
use Rattle.jr_cover.specs.Ways.{sites_of}
use Rattle.jr_cover.specs.Sites.{Site, reads, Known, exp_way, stmts_way}
use Rattle.jr_cover.specs.Covering.{site_at}
use Rattle.jr_cover.specs.Footprints.{piece_run}

-- no site reads a local of N
abbrev pub ReadsNone : {K : Keys} → (N : ℕ → Bool) → List (Site K) → Type 0
ReadsNone {K = K} N all = (i : ℕ) (s : Site K) (n : ℕ) → site_at all i ≡ Some s
    → s.what ≡ reads n → N n ≡ false

-- each local that isn't of N has one value in both
abbrev pub SameBut : {K : Keys} → (N : ℕ → Bool) → List (Value K) → List (Value K) → Type 0
SameBut N l m = (i : ℕ) → N i ≡ false → local_at m i ≡ local_at l i

-- one value, beside such locals
abbrev pub SameValues : {K : Keys} → (N : ℕ → Bool) → Value K × List (Value K)
    → Value K × List (Value K) → Type 0
SameValues N a b = (a.0 ≡ b.0) × SameBut N a.1 b.1

-- both go on, with such locals, or both return the same
abbrev pub SameFlows : {K : Keys} → (N : ℕ → Bool) → Flow K → Flow K → Type 0
SameFlows N (goes_on l) (goes_on m) = SameBut N l m
SameFlows N (returns v) (returns w) = v ≡ w
SameFlows N (goes_on l) (returns w) = ⊥
SameFlows N (returns v) (goes_on m) = ⊥

-- both come to results, of which Q holds; or both are cut; or both met an answer that doesn't fit
abbrev pub EndRel : {A B : Type 0} → (A → B → Type 0) → End A → End B → Type 0
EndRel Q (ended a) (ended b) = Q a b
EndRel Q (ended a) cut = ⊥
EndRel Q (ended a) ill_typed = ⊥
EndRel Q cut (ended b) = ⊥
EndRel Q cut cut = Unit {0}
EndRel Q cut ill_typed = ⊥
EndRel Q ill_typed (ended b) = ⊥
EndRel Q ill_typed cut = ⊥
EndRel Q ill_typed ill_typed = Unit {0}

-- two runs that do the same, and end alike
pub record SameRuns {V E A B : Type 0} (Q : A → B → Type 0) (x : NumberedRun V E A)
    (y : NumberedRun V E B) : Type 0 where
  pub traces : y.trace ≡ x.trace
  pub ends : EndRel Q x.end y.end
  pub answers : y.left ≡ x.left
  pub numbers : y.next ≡ x.next

-- ---- the laws

abbrev pub ExpressionsReadTheirLocals : (C F M N L A : Type 0) → Type 0
ExpressionsReadTheirLocals C F M N L A = (X : Known (keys_of C F M N L) A)
    (P : Program (keys_of C F M N L)) (e : tree.Exp A) (unread : ℕ → Bool)
    → ReadsNone unread (sites_of (exp_way X e))
    → (me : Value (keys_of C F M N L)) (l m : List (Value (keys_of C F M N L)))
    → SameBut unread l m
    → (own next fuel : ℕ) (answers : List (Value (keys_of C F M N L)))
    → SameRuns (OutRel (SameValues unread))
    (piece_run P (exp P.rows me (exp_code X.facts e) l) own next answers fuel)
    (piece_run P (exp P.rows me (exp_code X.facts e) m) own next answers fuel)

-- also of lists that return: both return the same
abbrev pub StatementsReadTheirLocals : (C F M N L A : Type 0) → Type 0
StatementsReadTheirLocals C F M N L A = (X : Known (keys_of C F M N L) A)
    (P : Program (keys_of C F M N L)) (b : statement.Stmts A) (unread : ℕ → Bool)
    → ReadsNone unread (sites_of (stmts_way X b))
    → (me : Value (keys_of C F M N L)) (l m : List (Value (keys_of C F M N L)))
    → SameBut unread l m
    → (own next fuel : ℕ) (answers : List (Value (keys_of C F M N L)))
    → SameRuns (OutRel (SameFlows unread))
    (piece_run P (stmts P.rows me (stmts_code X.facts b) l) own next answers fuel)
    (piece_run P (stmts P.rows me (stmts_code X.facts b) m) own next answers fuel)
