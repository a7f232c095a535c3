-- Programs of which the second writes to a local behind a piece where the first doesn't.
use Rattle.std.specs.Prelude.{◌≡◌, ◌⊎◌, ◌<◌, ◌≤◌, ℕ, false, IsTrue}
use Rattle.jr_ast.specs.StatementTree as statement
use Rattle.jr_runs.specs.Keys.{Keys, keys_of, At}
use Rattle.jr_runs.specs.Values.{Value}
use Rattle.jr_runs.specs.Rows.{Rows}
use Rattle.jr_runs.specs.Core as core
use Rattle.jr_runs.specs.Core.{literal, assign, local, Stmt, eval, Stmts, Code, Method, written, starts, Program}
use Rattle.jr_runs.specs.KeyMaps.{same_keys}
use Rattle.jr_cover.specs.StatementTranslation.{stmt_code, stmts_code}
use Rattle.jr_runs.specs.Sets.{NumberSet, Within}
use Rattle.jr_runs.specs.Standing.{In, Standing, whole}
use Rattle.jr_runs.specs.Images.{Spots, NoSpot, StmtTo, StmtsTo, CodeTo, SameRows}
use Rattle.jr_runs.specs.Alike.{AlikeExactly}
use Rattle.jr_cover.specs.Ways.{size}
use Rattle.jr_cover.specs.Sites.{Known, stmts_way}
use Rattle.jr_unused_locals.specs.Agreement.{Stays}
use Rattle.jr_unused_locals.specs.Bindings.{StmtsBind}
use Rattle.jr_unused_locals.specs.Pieces.{nothing, StmtImage, StmtsImage, StmtsHold}
use Rattle.jr_unused_locals.specs.Unused.{IsUsed}

-- `k = v;`
abbrev pub write_stmt : {K : Keys} → (p q u w : At K) → (k : ℕ) → Value K → Stmt K
write_stmt p q u w k v = eval p (assign q (local u k) (literal w v))

-- The new list is the image of the old one, but that behind its front it writes to old local x:
-- over resolved code, with sets, by which x needn't agree behind the front.
pub data WritesBehind {K : Keys} (R : Rows K) (s : Standing K) (x : ℕ)
    : NumberSet → Stmts K → Stmts K → NumberSet → Type 0 where
  writes_here : (ends behind B : NumberSet) (p q u w : At K) (v : Value K) (rest rest' : Stmts K)
      → Within behind ends → behind x ≡ false
      → StmtsTo same_keys R (NoSpot {K = K}) s behind rest rest' B
      → WritesBehind R s x ends rest
      (core.Stmts.more (write_stmt p q u w (s.code.at x) v) rest') B
  writes_later : (A B C : NumberSet) (a a' : Stmt K) (b b' : Stmts K)
      → StmtTo same_keys R (NoSpot {K = K}) s A a a' B → WritesBehind R s x B b b' C
      → WritesBehind R s x A (core.Stmts.more a b) (core.Stmts.more a' b') C

abbrev pub LaterWrite : {K : Keys} → Rows K → Spots K
LaterWrite R s A b b' B = (x : ℕ) × In x s.code.mine × WritesBehind R s x A b b' B

-- the same of trees, without sets: behind the piece the new list writes to x, and then goes on
module _ {K : Keys} {A : Type 0} (X : Known K A) (R : Rows K) (s : Standing K) (x : ℕ)
    (rest : statement.Stmts A) where
  pub data AlsoWrites : statement.Stmts A → Stmts K → Type 0 where
    also_here : (p q u w : At K) (v : Value K) (rest' : Stmts K)
        → StmtsImage same_keys R s (stmts_code X.facts rest) rest'
        → AlsoWrites statement.end (core.Stmts.more (write_stmt p q u w (s.code.at x) v) rest')
    also_later : (a : statement.Stmt A) (a' : Stmt K) (b : statement.Stmts A) (b' : Stmts K)
        → StmtImage same_keys R s (stmt_code X.facts a) a' → AlsoWrites b b'
        → AlsoWrites (statement.more a b) (core.Stmts.more a' b')

-- The code of a body in which behind a piece a further value is written to a local, of which no
-- path from the piece reaches a read past its writes.
pub record WritesUnused {K : Keys} {A : Type 0} (X : Known K A) (R : Rows K) (old new : Code K)
    : Type 0 where
  pub locals : ℕ
  pub at : ℕ → ℕ
  pub injective : (i j : ℕ) → i < locals → j < locals → at i ≡ at j → i ≡ j
  pub same_params : new.params ≡ old.params
  pub params_below : old.params ≤ locals
  pub params_stay : (i : ℕ) → i < old.params → at i ≡ i
  -- the body's tree, the piece, and what stands behind it in its list
  pub body : statement.Stmts A
  pub piece : statement.Stmts A
  pub rest : statement.Stmts A
  pub old_is : old.body ≡ stmts_code X.facts body
  pub binds : StmtsBind X body
  pub no_return : Stays (stmts_way X piece)
  pub has_sites : 0 < size (stmts_way X piece)
  pub new_list : Stmts K
  pub holds : StmtsHold X same_keys R (whole locals at) piece rest new_list body new.body
  pub written_local : ℕ
  pub is_local : written_local < locals
  pub writes : AlsoWrites X R (whole locals at) written_local rest piece new_list
  pub unused : IsUsed X same_keys R (whole locals at) piece rest new_list nothing holds
      written_local → ⊥

abbrev pub MethodMayWrite : {K : Keys} {A : Type 0} → Known K A → Rows K → (old new : Method K)
    → Type 0
MethodMayWrite {K = K} X R (written c) (written d) =
    CodeTo same_keys R (NoSpot {K = K}) c d ⊎ WritesUnused X R c d
MethodMayWrite X R starts starts = Unit {0}
MethodMayWrite X R (written c) starts = ⊥
MethodMayWrite X R starts (written d) = ⊥

-- Where the two programs are the same but for such writes, in any number of methods, they run
-- alike.
abbrev pub UnusedLocalsPlayNoPart : (C F M N L A : Type 0) → Type 0
UnusedLocalsPlayNoPart C F M N L A = (X : Known (keys_of C F M N L) A)
    (P Q : Program (keys_of C F M N L))
    → SameRows same_keys P.rows Q.rows
    → ((m : M) → IsTrue (P.rows.has_method m)
    → MethodMayWrite X P.rows (P.method m) (Q.method m))
    → ((k : N) → IsTrue (P.rows.has_constructor k)
    → CodeTo same_keys P.rows (NoSpot {K = keys_of C F M N L}) (P.constructor k) (Q.constructor k))
    → AlikeExactly same_keys P Q
