-- What a piece of a member does, it does at its sites. So the actions of two pieces whose
-- footprints cross may change places, pair by pair.
use Rattle.std.specs.Prelude.{◌≡◌, ◌<◌, ℕ, Bool, true, false, List, ◌∷◌, ◌++◌, map, Some, None}
use Rattle.jr_sync.specs.declared.kinds.Kind.TheVariants.{Enter, Exit, Still}
use Rattle.jr_plans.specs.Numbered.{Numbered, NumberedRun, numbered_run, numbered_runner}
use Rattle.jr_ast.specs.Tree as tree
use Rattle.jr_ast.specs.StatementTree as statement
use Rattle.jr_runs.specs.Keys.{Keys, keys_of}
use Rattle.jr_runs.specs.Values.{Value}
use Rattle.jr_runs.specs.Actions.{Event}
use Rattle.jr_runs.specs.Rows.{Rows}
use Rattle.jr_runs.specs.Arithmetic.{Out}
use Rattle.jr_runs.specs.Core.{Program}
use Rattle.jr_runs.specs.Evaluation.{goes_on, Step, local_at, exp, stmts, table}
use Rattle.jr_cover.specs.Translation.{exp_code}
use Rattle.jr_cover.specs.StatementTranslation.{stmts_code}
use Rattle.jr_runs.specs.Reordering.{Free, load_kind, store_kind}
use Rattle.jr_runs.specs.Running.{is_activation}
use Rattle.jr_cover.specs.Ways.{sites_of}
use Rattle.jr_cover.specs.Sites as sites
use Rattle.jr_cover.specs.Sites.{What, Known, exp_way, stmts_way}
use Rattle.jr_cover.specs.Covering.{DoneAt, site_at}
use Rattle.jr_cover.specs.Evaluated.{Gives}
use Rattle.jr_cover.specs.Crossing as crossing
use Rattle.jr_cover.specs.Crossing.{Crosses}

-- A run of a piece's code in an activation that has the number `own`, whose calls have the numbers
-- from `next` on.
abbrev pub piece_run : {K : Keys} {B : Type 0} → Program K → Step K B → (own next : ℕ)
    → (answers : List (Value K)) → (fuel : ℕ) → NumberedRun (Value K) (Event K) (Out B)
piece_run P x own next answers fuel =
    numbered_run (numbered_runner is_activation (table P) fuel) x own next answers

-- each action of that activation is done at one of these sites
abbrev pub DoneAmong : {K : Keys} → Rows K → List (sites.Site K) → (own : ℕ)
    → List (Numbered (Event K)) → Type 0
DoneAmong {K = K} R all own trace =
    (t u : List (Numbered (Event K))) (x : Numbered (Event K)) → trace ≡ t ++ x ∷ u
    → x.activation ≡ own
    → (i : ℕ) × (a : sites.Site K) × (site_at all i ≡ Some a) × DoneAt R a x.action

-- ---- the laws

abbrev pub ExpressionsActAtTheirSites : (C F M N L A : Type 0) → Type 0
ExpressionsActAtTheirSites C F M N L A = (X : Known (keys_of C F M N L) A)
    (P : Program (keys_of C F M N L)) (e : tree.Exp A) (me : Value (keys_of C F M N L))
    (l answers : List (Value (keys_of C F M N L))) (own next fuel : ℕ) → own < next
    → DoneAmong P.rows (sites_of (exp_way X e)) own
    (piece_run P (exp P.rows me (exp_code X.facts e) l) own next answers fuel).trace

abbrev pub StatementsActAtTheirSites : (C F M N L A : Type 0) → Type 0
StatementsActAtTheirSites C F M N L A = (X : Known (keys_of C F M N L) A)
    (P : Program (keys_of C F M N L)) (b : statement.Stmts A) (me : Value (keys_of C F M N L))
    (l answers : List (Value (keys_of C F M N L))) (own next fuel : ℕ) → own < next
    → DoneAmong P.rows (sites_of (stmts_way X b)) own
    (piece_run P (stmts P.rows me (stmts_code X.facts b) l) own next answers fuel).trace

-- no site writes a local of N
abbrev pub WritesNone : {K : Keys} → (N : ℕ → Bool) → List (sites.Site K) → Type 0
WritesNone {K = K} N all = (i : ℕ) (s : sites.Site K) (n : ℕ) → site_at all i ≡ Some s
    → s.what ≡ sites.writes n → N n ≡ false

-- where an expression comes to a value, the locals that no site of it writes are as before
abbrev pub ExpressionsWriteTheirLocals : (C F M N L A : Type 0) → Type 0
ExpressionsWriteTheirLocals C F M N L A = (X : Known (keys_of C F M N L) A)
    (P : Program (keys_of C F M N L)) (e : tree.Exp A) (spared : ℕ → Bool)
    → WritesNone spared (sites_of (exp_way X e))
    → (me : Value (keys_of C F M N L)) (l m : List (Value (keys_of C F M N L)))
    (v : Value (keys_of C F M N L)) → Gives P me (exp P.rows me (exp_code X.facts e) l) (v, m)
    → (i : ℕ) → spared i ≡ true → local_at m i ≡ local_at l i

-- the same where a list of statements goes on
abbrev pub StatementsWriteTheirLocals : (C F M N L A : Type 0) → Type 0
StatementsWriteTheirLocals C F M N L A = (X : Known (keys_of C F M N L) A)
    (P : Program (keys_of C F M N L)) (b : statement.Stmts A) (spared : ℕ → Bool)
    → WritesNone spared (sites_of (stmts_way X b))
    → (me : Value (keys_of C F M N L)) (l m : List (Value (keys_of C F M N L)))
    → Gives P me (stmts P.rows me (stmts_code X.facts b) l) (goes_on m)
    → (i : ℕ) → spared i ≡ true → local_at m i ≡ local_at l i

-- a site as crossing sees it
abbrev pub seen : {K : Keys} → Rows K → What K → crossing.Site K.field ℕ
seen R (sites.reads n) = crossing.reads n
seen R (sites.writes n) = crossing.writes n
seen R (sites.loads f) = crossing.access (load_kind (R.field_kind f)) (Some f)
seen R (sites.stores f) = crossing.access (store_kind (R.field_kind f)) (Some f)
seen R sites.enters = crossing.access Enter None
seen R sites.exits = crossing.access Exit None
seen R sites.creates = crossing.access Still None
seen R sites.checks = crossing.checks
seen R sites.calls = crossing.calls
seen R sites.loops = crossing.loops

abbrev pub footprint : {K : Keys} → Rows K → List (sites.Site K)
    → List (crossing.Site K.field ℕ)
footprint R all = map (λ s. seen R s.what) all

abbrev pub CrossingPiecesAreFree : (C F M N L : Type 0) → Type 0
CrossingPiecesAreFree C F M N L = (R : Rows (keys_of C F M N L))
    (before behind : List (sites.Site (keys_of C F M N L)))
    → Crosses (footprint R before) (footprint R behind)
    → (i j : ℕ) (a b : sites.Site (keys_of C F M N L)) (x y : Event (keys_of C F M N L))
    → site_at before i ≡ Some a → site_at behind j ≡ Some b → DoneAt R a x → DoneAt R b y
    → Free x.action y.action
