-- Images with sets of agreeing locals (`jr_runs: Images`), as relations: the code stands so in the
-- new member, and of its locals some agree throughout. Whichever agree before, if these are among
-- them, some with these agree behind.
use Rattle.std.specs.Prelude.{◌≡◌, ℕ, List, IsTrue}
use Rattle.jr_runs.specs.Core as core
use Rattle.jr_runs.specs.Rows as core_rows
use Rattle.jr_runs.specs.KeyMaps.{KeyMap}
use Rattle.jr_runs.specs.Sets.{NumberSet, Within}
use Rattle.jr_runs.specs.Standing.{itself, Standing, In}
use Rattle.jr_runs.specs.Images.{
  Readable,
  AllSpots,
  BlockTo,
  ExpImage,
  TargetImage,
  ExpsImage,
  StmtImage,
  StmtsImage,
}
use Rattle.jr_code.specs.RunKeys.{RunKeys}
use Rattle.jr_code.specs.Coded.{Code, TargetCode}
use Rattle.jr_code.specs.CodedStatements.{StatementCode, ListCode}
use Rattle.jr_image_code.specs.CodeRelations.{Relations}

-- from any set that holds these locals to one that holds them
abbrev pub Through : NumberSet → (NumberSet → NumberSet → Type 0) → Type 0
Through K Image = (A : NumberSet) → Within K A → (B : NumberSet) × Within K B × Image A B

-- where these changed expressions and lists are allowed
module _ (r : KeyMap RunKeys) (R : core_rows.Rows RunKeys) (Spot : AllSpots RunKeys)
    (s : Standing RunKeys) (K : NumberSet) where
  abbrev pub ExpThrough : Code → Code → Type 0
  ExpThrough x z = Through K (λ A B. ExpImage r R (Spot.exps s) s.code A x z B)

  -- what is read agrees when it is read
  abbrev pub TargetThrough : TargetCode → TargetCode → Type 0
  TargetThrough t u = Through K (λ A B. TargetImage r R (Spot.exps s) s.code A t u B × Readable B t)

  abbrev pub ExpsThrough : core.Exps RunKeys → core.Exps RunKeys → Type 0
  ExpsThrough es fs = Through K (λ A B. ExpsImage r R (Spot.exps s) s.code A es fs B)

  abbrev pub StmtThrough : StatementCode → StatementCode → Type 0
  StmtThrough x z = Through K (λ A B. StmtImage r R Spot s A x z B)

  abbrev pub StmtsThrough : ListCode → ListCode → Type 0
  StmtsThrough xs zs = Through K (λ A B. StmtsImage r R Spot s A xs zs B)

  abbrev pub through : Relations
  through = record {
    exp = ExpThrough;
    target = TargetThrough;
    exps = ExpsThrough;
    stmt = StmtThrough;
    stmts = StmtsThrough;
    own = s.code.self ≡ itself;
    mine = λ n. In n s.code.mine × IsTrue (K n);
    free = λ n. In n s.code.known → ⊥;
    at = s.code.at;
    block = BlockTo s;
  }
