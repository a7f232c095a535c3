-- Code that writes no local of N.
use Rattle.std.proofs.Common.{◌≡◌, ℕ, Bool, false, List, [], ◌∷◌}
use Rattle.jr_runs.specs.Keys.{Keys}
use Rattle.jr_runs.specs.Core as core
use Rattle.jr_runs.specs.Core.{Exp, Stmt, Stmts}
use Rattle.jr_cover.specs.NeverNull.{CarefulExp}

abbrev pub SparedBy : (ℕ → Bool) → List ℕ → Type 0
SparedBy N [] = Unit {0}
SparedBy N (n ∷ ns) = (N n ≡ false) × SparedBy N ns

module _ {K : Keys} (N : ℕ → Bool) where
  abbrev pub SparingExp : Exp K → Type 0
  SparingExp e = CarefulExp N e

  abbrev mutual
    pub SparingStmt : Stmt K → Type 0
    SparingStmt (core.declare p n e) = CarefulExp N e × (N n ≡ false)
    SparingStmt (core.eval p e) = CarefulExp N e
    SparingStmt (core.branch p c a b) = CarefulExp N c × SparingStmt a × SparingStmt b
    SparingStmt (core.loop p c b) = CarefulExp N c × SparingStmt b
    SparingStmt (core.return p e) = CarefulExp N e
    SparingStmt (core.return_nothing p) = Unit {0}
    SparingStmt (core.block p ns b) = SparedBy N ns × SparingStmts b
    SparingStmt (core.sync p q e b) = CarefulExp N e × SparingStmts b
    SparingStmt (core.empty p) = Unit {0}

    pub SparingStmts : Stmts K → Type 0
    SparingStmts core.Stmts.end = Unit {0}
    SparingStmts (core.Stmts.more s b) = SparingStmt s × SparingStmts b
