-- Resolved code that runs alike where of its locals some agree: which of them do before each part
-- and behind it. What is read agrees, and what is written does so behind.
use Rattle.std.specs.Prelude.{◌≡◌}
use Rattle.jr_runs.specs.Keys.{Keys}
use Rattle.jr_runs.specs.Core as core
use Rattle.jr_runs.specs.Core.{Exp, Target, Exps, Stmt, Stmts}
use Rattle.jr_runs.specs.Sets.{NumberSet, with_one, with_all, Within}
use Rattle.jr_runs.specs.Images.{Readable, behind_write}

abbrev mutual
  pub ExpAgrees : {K : Keys} → Exp K → (before behind : NumberSet) → Type 0
  ExpAgrees (core.literal p v) A B = A ≡ B
  ExpAgrees (core.this p) A B = A ≡ B
  ExpAgrees (core.read p t) A B = TargetAgrees t A B × Readable B t
  ExpAgrees (core.assign p t e) A D = (B C : NumberSet) × TargetAgrees t A B × ExpAgrees e B C
      × Within D (behind_write C t)
  ExpAgrees (core.compound p op t e) A D = (B C : NumberSet) × TargetAgrees t A B × Readable B t
      × ExpAgrees e B C × Within D (behind_write C t)
  ExpAgrees (core.bump p op t) A C = (B : NumberSet) × TargetAgrees t A B × Readable B t
      × Within C (behind_write B t)
  ExpAgrees (core.signed p op e) A B = ExpAgrees e A B
  ExpAgrees (core.binary p op a b) A C = (B : NumberSet) × ExpAgrees a A B × ExpAgrees b B C
  ExpAgrees (core.both p a b) A D = (B C : NumberSet) × ExpAgrees a A B × ExpAgrees b B C
      × Within D B × Within D C
  ExpAgrees (core.either p a b) A D = (B C : NumberSet) × ExpAgrees a A B × ExpAgrees b B C
      × Within D B × Within D C
  ExpAgrees (core.cast p c e) A B = ExpAgrees e A B
  ExpAgrees (core.static_call p m es) A B = ExpsAgree es A B
  ExpAgrees (core.instance_call p e m es) A C =
      (B : NumberSet) × ExpAgrees e A B × ExpsAgree es B C
  ExpAgrees (core.super_call p e m es) A C =
      (B : NumberSet) × ExpAgrees e A B × ExpsAgree es B C
  ExpAgrees (core.create p c k es) A B = ExpsAgree es A B
  ExpAgrees (core.super_constructor p e k es) A C =
      (B : NumberSet) × ExpAgrees e A B × ExpsAgree es B C

  -- of what is read, assigned or bumped its receiver alone
  pub TargetAgrees : {K : Keys} → Target K → (before behind : NumberSet) → Type 0
  TargetAgrees (core.local p n) A B = A ≡ B
  TargetAgrees (core.static_field p f) A B = A ≡ B
  TargetAgrees (core.field_of p e f) A B = ExpAgrees e A B

  pub ExpsAgree : {K : Keys} → Exps K → (before behind : NumberSet) → Type 0
  ExpsAgree core.Exps.end A B = A ≡ B
  ExpsAgree (core.Exps.more e es) A C = (B : NumberSet) × ExpAgrees e A B × ExpsAgree es B C

-- A loop has a set of locals that agree wherever its condition begins. Behind a return any will do.
abbrev mutual
  pub StmtAgrees : {K : Keys} → Stmt K → (before behind : NumberSet) → Type 0
  StmtAgrees (core.declare p n e) A C =
      (B : NumberSet) × ExpAgrees e A B × Within C (with_one B n)
  StmtAgrees (core.eval p e) A B = ExpAgrees e A B
  StmtAgrees (core.branch p c a b) A E = (B C D : NumberSet) × ExpAgrees c A B
      × StmtAgrees a B C × StmtAgrees b B D × Within E C × Within E D
  StmtAgrees (core.loop p c b) A B = (H C : NumberSet) × Within H A × ExpAgrees c H B
      × StmtAgrees b B C × Within H C
  StmtAgrees (core.return p e) A C = (B : NumberSet) × ExpAgrees e A B
  StmtAgrees (core.return_nothing p) A B = Unit {0}
  StmtAgrees (core.block p ns b) A C =
      (B : NumberSet) × Within B (with_all A ns) × StmtsAgree b B C
  StmtAgrees (core.sync p q e b) A C = (B : NumberSet) × ExpAgrees e A B × StmtsAgree b B C
  StmtAgrees (core.empty p) A B = A ≡ B

  pub StmtsAgree : {K : Keys} → Stmts K → (before behind : NumberSet) → Type 0
  StmtsAgree core.Stmts.end A B = A ≡ B
  StmtsAgree (core.Stmts.more a b) A C =
      (B : NumberSet) × StmtAgrees a A B × StmtsAgree b B C
