-- Pieces in which nothing is called and no loop stands come to their end, by a value, a return or a
-- throw, with at most as many actions as they have sites for actions.
use Rattle.std.specs.Prelude.{◌≡◌, ℕ, ◌+◌, List, [], ◌∷◌, Some}
use Rattle.jr_plans.specs.Finite.{Finite}
use Rattle.jr_ast.specs.Tree as tree
use Rattle.jr_ast.specs.StatementTree as statement
use Rattle.jr_runs.specs.Keys.{Keys, keys_of}
use Rattle.jr_runs.specs.Values.{Value}
use Rattle.jr_runs.specs.Actions.{Event}
use Rattle.jr_runs.specs.Rows.{Rows}
use Rattle.jr_runs.specs.Evaluation.{exp, stmts}
use Rattle.jr_cover.specs.Translation.{exp_code}
use Rattle.jr_cover.specs.StatementTranslation.{stmts_code}
use Rattle.jr_cover.specs.Ways.{sites_of}
use Rattle.jr_cover.specs.Sites.{
  What,
  reads,
  writes,
  loads,
  stores,
  enters,
  exits,
  creates,
  checks,
  calls,
  loops,
  Site,
  Known,
  exp_way,
  stmts_way,
}
use Rattle.jr_cover.specs.Covering.{site_at, DoneAt}

-- no site is a call or a loop
abbrev pub NoCallNoLoop : {K : Keys} → List (Site K) → Type 0
NoCallNoLoop {K = K} all = (i : ℕ) (s : Site K) → site_at all i ≡ Some s
    → (s.what ≡ calls → ⊥) × (s.what ≡ loops → ⊥)

-- 1 for an access, 0 for what shows no action of its own
abbrev pub access_count : {K : Keys} → What K → ℕ
access_count (reads n) = 0
access_count (writes n) = 0
access_count (loads f) = 1
access_count (stores f) = 1
access_count enters = 1
access_count exits = 1
access_count creates = 1
access_count checks = 0
access_count calls = 0
access_count loops = 0

-- how many sites are accesses
abbrev pub accesses : {K : Keys} → List (Site K) → ℕ
accesses [] = 0
accesses (s ∷ all) = access_count s.what + accesses all

abbrev pub AtSomeSite : {K : Keys} → Rows K → List (Site K) → Event K → Type 0
AtSomeSite {K = K} R all x = (i : ℕ) × (s : Site K) × (site_at all i ≡ Some s) × DoneAt R s x

-- ---- the laws

abbrev pub ExpressionsComeToTheirEnd : (C F M N L A : Type 0) → Type 0
ExpressionsComeToTheirEnd C F M N L A = (X : Known (keys_of C F M N L) A)
    (R : Rows (keys_of C F M N L)) (e : tree.Exp A) → NoCallNoLoop (sites_of (exp_way X e))
    → (me : Value (keys_of C F M N L)) (l : List (Value (keys_of C F M N L)))
    → Finite (AtSomeSite R (sites_of (exp_way X e))) (exp R me (exp_code X.facts e) l)
    (accesses (sites_of (exp_way X e)))

abbrev pub StatementsComeToTheirEnd : (C F M N L A : Type 0) → Type 0
StatementsComeToTheirEnd C F M N L A = (X : Known (keys_of C F M N L) A)
    (R : Rows (keys_of C F M N L)) (b : statement.Stmts A)
    → NoCallNoLoop (sites_of (stmts_way X b))
    → (me : Value (keys_of C F M N L)) (l : List (Value (keys_of C F M N L)))
    → Finite (AtSomeSite R (sites_of (stmts_way X b))) (stmts R me (stmts_code X.facts b) l)
    (accesses (sites_of (stmts_way X b)))
