-- Code of which no action stands in a given member: by the places of its accesses, allocations and
-- monitors.
use Rattle.std.specs.Prelude.{List, [], ◌∷◌}
use Rattle.jr_runs.specs.Keys.{Keys}
use Rattle.jr_runs.specs.Core as core
use Rattle.jr_runs.specs.Core.{Exp, Target, Exps, Stmt, Stmts}
use Rattle.jr_cover.specs.Covering.{IsOutside}

module _ (K : Keys) (Outside : K.place → Type 0) where
  abbrev mutual
    pub ExpOutside : Exp K → Type 0
    ExpOutside (core.literal at v) = Unit {0}
    ExpOutside (core.this at) = Unit {0}
    ExpOutside (core.read at t) = TargetOutside t
    ExpOutside (core.assign at t e) = TargetOutside t × ExpOutside e
    ExpOutside (core.compound at op t e) = TargetOutside t × ExpOutside e
    ExpOutside (core.bump at op t) = TargetOutside t
    ExpOutside (core.signed at op e) = ExpOutside e
    ExpOutside (core.binary at op a b) = ExpOutside a × ExpOutside b
    ExpOutside (core.both at a b) = ExpOutside a × ExpOutside b
    ExpOutside (core.either at a b) = ExpOutside a × ExpOutside b
    ExpOutside (core.cast at c e) = ExpOutside e
    ExpOutside (core.static_call at m es) = ExpsOutside es
    ExpOutside (core.instance_call at e m es) = ExpOutside e × ExpsOutside es
    ExpOutside (core.super_call at e m es) = ExpOutside e × ExpsOutside es
    ExpOutside (core.create at c k es) = IsOutside K Outside at × ExpsOutside es
    ExpOutside (core.super_constructor at e k es) = ExpOutside e × ExpsOutside es

    pub TargetOutside : Target K → Type 0
    TargetOutside (core.local at n) = Unit {0}
    TargetOutside (core.static_field at f) = IsOutside K Outside at
    TargetOutside (core.field_of at e f) = IsOutside K Outside at × ExpOutside e

    pub ExpsOutside : Exps K → Type 0
    ExpsOutside core.Exps.end = Unit {0}
    ExpsOutside (core.Exps.more e es) = ExpOutside e × ExpsOutside es

  abbrev mutual
    pub StmtOutside : Stmt K → Type 0
    StmtOutside (core.declare at n e) = ExpOutside e
    StmtOutside (core.eval at e) = ExpOutside e
    StmtOutside (core.branch at c a b) = ExpOutside c × StmtOutside a × StmtOutside b
    StmtOutside (core.loop at c b) = ExpOutside c × StmtOutside b
    StmtOutside (core.return at e) = ExpOutside e
    StmtOutside (core.return_nothing at) = Unit {0}
    StmtOutside (core.block at ns b) = StmtsOutside b
    StmtOutside (core.sync entered exited e b) = IsOutside K Outside entered
        × IsOutside K Outside exited × ExpOutside e × StmtsOutside b
    StmtOutside (core.empty at) = Unit {0}

    pub StmtsOutside : Stmts K → Type 0
    StmtsOutside core.Stmts.end = Unit {0}
    StmtsOutside (core.Stmts.more s b) = StmtOutside s × StmtsOutside b

  abbrev pub EachOutside : List (Stmt K) → Type 0
  EachOutside [] = Unit {0}
  EachOutside (s ∷ ss) = StmtOutside s × EachOutside ss
