-- Images of code in which not the same locals agree everywhere: an image between any two sets of
-- locals that the old code goes between, where a refactoring says of lists of statements which sets
-- may be in front of them and behind. So a local may stop agreeing at a list that changes, and
-- agree again behind a later write. `SetImages` has one set for a member.
use Rattle.std.specs.Prelude.{◌≡◌}
use Rattle.jr_runs.specs.Core as core
use Rattle.jr_runs.specs.Rows as core_rows
use Rattle.jr_runs.specs.KeyMaps.{KeyMap}
use Rattle.jr_runs.specs.Sets.{NumberSet, with_one, with_all, Within}
use Rattle.jr_runs.specs.Standing.{itself, Standing, In}
use Rattle.jr_runs.specs.Images.{
  Readable,
  behind_write,
  AllSpots,
  BlockTo,
  ExpImage,
  TargetImage,
  ExpsImage,
  StmtImage,
  StmtsImage,
}
use Rattle.jr_code.specs.RunKeys.{RunKeys}
use Rattle.jr_code.specs.Coded.{Code, TargetCode}
use Rattle.jr_code.specs.CodedStatements.{StatementCode, ListCode}
use Rattle.jr_image_code.specs.CodeRelations.{Relations}

-- ---- which sets old code goes between, as in `jr_runs: Images`

unfoldable mutual
  pub FlowExp : NumberSet → Code → NumberSet → Type 0
  FlowExp A (core.literal p v) B = B ≡ A
  FlowExp A (core.this p) B = B ≡ A
  FlowExp A (core.read p t) B = FlowTarget A t B × Readable {K = RunKeys} B t
  FlowExp A (core.assign p t e) D = (B C : NumberSet) × FlowTarget A t B × FlowExp B e C
      × Within D (behind_write {K = RunKeys} C t)
  FlowExp A (core.compound p op t e) D = (B C : NumberSet) × FlowTarget A t B
      × Readable {K = RunKeys} B t × FlowExp B e C × Within D (behind_write {K = RunKeys} C t)
  FlowExp A (core.bump p op t) C = (B : NumberSet) × FlowTarget A t B
      × Readable {K = RunKeys} B t × Within C (behind_write {K = RunKeys} B t)
  FlowExp A (core.signed p op e) B = FlowExp A e B
  FlowExp A (core.binary p op e f) C = (B : NumberSet) × FlowExp A e B × FlowExp B f C
  FlowExp A (core.both p e f) D = (B C : NumberSet) × FlowExp A e B × FlowExp B f C
      × Within D B × Within D C
  FlowExp A (core.either p e f) D = (B C : NumberSet) × FlowExp A e B × FlowExp B f C
      × Within D B × Within D C
  FlowExp A (core.cast p k e) B = FlowExp A e B
  FlowExp A (core.static_call p k es) B = FlowExps A es B
  FlowExp A (core.instance_call p e k es) C =
      (B : NumberSet) × FlowExp A e B × FlowExps B es C
  FlowExp A (core.super_call p e k es) C = (B : NumberSet) × FlowExp A e B × FlowExps B es C
  FlowExp A (core.create p k c es) B = FlowExps A es B
  FlowExp A (core.super_constructor p e c es) C =
      (B : NumberSet) × FlowExp A e B × FlowExps B es C

  pub FlowTarget : NumberSet → TargetCode → NumberSet → Type 0
  FlowTarget A (core.local p n) B = B ≡ A
  FlowTarget A (core.static_field p f) B = B ≡ A
  FlowTarget A (core.field_of p e f) B = FlowExp A e B

  pub FlowExps : NumberSet → core.Exps RunKeys → NumberSet → Type 0
  FlowExps A core.Exps.end B = B ≡ A
  FlowExps A (core.Exps.more e es) C = (B : NumberSet) × FlowExp A e B × FlowExps B es C

-- what may be in front of a list and behind it
abbrev pub Bounds : Type 1
Bounds = NumberSet → ListCode → NumberSet → Type 0

module _ (May : Bounds) where
  unfoldable mutual
    pub FlowStmt : NumberSet → StatementCode → NumberSet → Type 0
    FlowStmt A (core.declare p n e) C =
        (B : NumberSet) × FlowExp A e B × Within C (with_one B n)
    FlowStmt A (core.eval p e) B = FlowExp A e B
    FlowStmt A (core.branch p e s t) E = (B C D : NumberSet) × FlowExp A e B × FlowStmt B s C
        × FlowStmt B t D × Within E C × Within E D
    FlowStmt A (core.loop p e s) B = (H C : NumberSet) × Within H A × FlowExp H e B
        × FlowStmt B s C × Within H C
    FlowStmt A (core.return p e) C = (B : NumberSet) × FlowExp A e B
    FlowStmt A (core.return_nothing p) B = Unit {0}
    FlowStmt A (core.block p ns u) C =
        (B : NumberSet) × Within B (with_all A ns) × FlowList B u C
    FlowStmt A (core.sync p q e u) C = (B : NumberSet) × FlowExp A e B × FlowList B u C
    FlowStmt A (core.empty p) B = B ≡ A

    pub FlowList : NumberSet → ListCode → NumberSet → Type 0
    FlowList A core.Stmts.end B = May A core.Stmts.end B × (B ≡ A)
    FlowList A (core.Stmts.more s u) C = May A (core.Stmts.more s u) C
        × ((B : NumberSet) × FlowStmt A s B × FlowList B u C)

-- ---- images between them

-- where these changed expressions and lists are allowed
module _ (r : KeyMap RunKeys) (R : core_rows.Rows RunKeys) (Spot : AllSpots RunKeys)
    (s : Standing RunKeys) (May : Bounds) where
  abbrev pub ExpFlows : Code → Code → Type 0
  ExpFlows x z = (A B : NumberSet) → FlowExp A x B → ExpImage r R (Spot.exps s) s.code A x z B

  abbrev pub TargetFlows : TargetCode → TargetCode → Type 0
  TargetFlows t u =
      (A B : NumberSet) → FlowTarget A t B → TargetImage r R (Spot.exps s) s.code A t u B

  abbrev pub ExpsFlow : core.Exps RunKeys → core.Exps RunKeys → Type 0
  ExpsFlow es fs =
      (A B : NumberSet) → FlowExps A es B → ExpsImage r R (Spot.exps s) s.code A es fs B

  abbrev pub StmtFlows : StatementCode → StatementCode → Type 0
  StmtFlows x z = (A B : NumberSet) → FlowStmt May A x B → StmtImage r R Spot s A x z B

  abbrev pub StmtsFlow : ListCode → ListCode → Type 0
  StmtsFlow xs zs = (A B : NumberSet) → FlowList May A xs B → StmtsImage r R Spot s A xs zs B

  abbrev pub flowing : Relations
  flowing = record {
    exp = ExpFlows;
    target = TargetFlows;
    exps = ExpsFlow;
    stmt = StmtFlows;
    stmts = StmtsFlow;
    own = s.code.self ≡ itself;
    mine = λ n. In n s.code.mine;
    free = λ n. In n s.code.known → ⊥;
    at = s.code.at;
    block = BlockTo s;
  }
