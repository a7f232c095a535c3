-- Plain expressions, whose sites are reads of locals alone: they come to a value, which depends on
-- these locals, do nothing else, and leave the locals as they are.
use Rattle.std.specs.Prelude.{◌≡◌, ℕ, zero, suc, Bool, true, false, List, [], ◌∷◌, Some, pos}
use Rattle.jr_ast.specs.Tree as tree
use Rattle.jr_runs.specs.Keys.{Keys, keys_of}
use Rattle.jr_runs.specs.Rows.{Rows}
use Rattle.jr_runs.specs.Arithmetic.{wrapped, is_zero}
use Rattle.jr_cover.specs.Translation.{exp_code}
use Rattle.jr_runs_held.specs.Held.{Silent}
use Rattle.jr_cover.specs.Ways.{sites_of}
use Rattle.jr_cover.specs.Sites.{
  What,
  reads,
  writes,
  loads,
  stores,
  enters,
  exits,
  creates,
  checks,
  calls,
  loops,
  Site,
  Known,
  divides,
  exp_way,
}
use Rattle.jr_cover.specs.Covering.{site_at}

abbrev pub IsRead : {K : Keys} → What K → Type 0
IsRead (reads n) = Unit {0}
IsRead (writes n) = ⊥
IsRead (loads f) = ⊥
IsRead (stores f) = ⊥
IsRead enters = ⊥
IsRead exits = ⊥
IsRead creates = ⊥
IsRead checks = ⊥
IsRead calls = ⊥
IsRead loops = ⊥

abbrev pub IsPlain : {K : Keys} → List (Site K) → Type 0
IsPlain {K = K} all = (i : ℕ) (s : Site K) → site_at all i ≡ Some s → IsRead s.what

abbrev pub with_read : {K : Keys} → What K → List ℕ → List ℕ
with_read (reads n) ns = n ∷ ns
with_read (writes n) ns = ns
with_read (loads f) ns = ns
with_read (stores f) ns = ns
with_read enters ns = ns
with_read exits ns = ns
with_read creates ns = ns
with_read checks ns = ns
with_read calls ns = ns
with_read loops ns = ns

-- the locals that are read
abbrev pub reads_of : {K : Keys} → List (Site K) → List ℕ
reads_of [] = []
reads_of (s ∷ all) = with_read s.what (reads_of all)

-- a literal divisor other than 0 is no 0 as an int; no text has a literal from 2 ^ 32 on
abbrev pub DivisorFits : {A : Type 0} → Bool → tree.Exp A → Type 0
DivisorFits false e = Unit {0}
DivisorFits true (tree.number a zero) = Unit {0}
DivisorFits true (tree.number a (suc n)) = is_zero (wrapped (pos (suc n))) ≡ false
DivisorFits true (tree.truth a b) = Unit {0}
DivisorFits true (tree.null a) = Unit {0}
DivisorFits true (tree.string a s) = Unit {0}
DivisorFits true (tree.name a w) = Unit {0}
DivisorFits true (tree.field a e w) = Unit {0}
DivisorFits true (tree.super_field a w) = Unit {0}
DivisorFits true (tree.this a) = Unit {0}
DivisorFits true (tree.class_literal a t) = Unit {0}
DivisorFits true (tree.call a t w es) = Unit {0}
DivisorFits true (tree.super_call a w es) = Unit {0}
DivisorFits true (tree.create a t es) = Unit {0}
DivisorFits true (tree.paren a e) = Unit {0}
DivisorFits true (tree.cast a t e) = Unit {0}
DivisorFits true (tree.unary a op e) = Unit {0}
DivisorFits true (tree.bump a op t) = Unit {0}
DivisorFits true (tree.binary a op l r) = Unit {0}
DivisorFits true (tree.assign a t e) = Unit {0}
DivisorFits true (tree.compound a op t e) = Unit {0}

-- so of each divisor in operators, their operands, parentheses and casts
abbrev pub DivisorsFit : {A : Type 0} → tree.Exp A → Type 0
DivisorsFit (tree.paren a e) = DivisorsFit e
DivisorsFit (tree.cast a t e) = DivisorsFit e
DivisorsFit (tree.unary a op e) = DivisorsFit e
DivisorsFit (tree.binary a op l r) = DivisorFits (divides op) r × DivisorsFit l × DivisorsFit r
DivisorsFit (tree.number a n) = Unit {0}
DivisorsFit (tree.truth a b) = Unit {0}
DivisorsFit (tree.null a) = Unit {0}
DivisorsFit (tree.string a s) = Unit {0}
DivisorsFit (tree.name a w) = Unit {0}
DivisorsFit (tree.field a e w) = Unit {0}
DivisorsFit (tree.super_field a w) = Unit {0}
DivisorsFit (tree.this a) = Unit {0}
DivisorsFit (tree.class_literal a t) = Unit {0}
DivisorsFit (tree.call a t w es) = Unit {0}
DivisorsFit (tree.super_call a w es) = Unit {0}
DivisorsFit (tree.create a t es) = Unit {0}
DivisorsFit (tree.bump a op t) = Unit {0}
DivisorsFit (tree.assign a t e) = Unit {0}
DivisorsFit (tree.compound a op t e) = Unit {0}

-- ---- the law

abbrev pub PlainExpressionsAreSilent : (C F M N L A : Type 0) → Type 0
PlainExpressionsAreSilent C F M N L A = (X : Known (keys_of C F M N L) A)
    (R : Rows (keys_of C F M N L)) (e : tree.Exp A) → IsPlain (sites_of (exp_way X e))
    → DivisorsFit e → Silent R (exp_code X.facts e) (reads_of (sites_of (exp_way X e)))
