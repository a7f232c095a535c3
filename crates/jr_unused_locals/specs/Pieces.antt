-- A piece of a member, some statements of one list, and the member's new code, in which that list
-- has changed from the piece's first statement on, and of all else the image stands.
use Rattle.std.specs.Prelude.{ℕ, suc, ◌+◌, List}
use Rattle.jr_ast.specs.Tree as tree
use Rattle.jr_ast.specs.StatementTree as statement
use Rattle.jr_runs.specs.Keys.{Keys, At}
use Rattle.jr_runs.specs.Rows.{Rows}
use Rattle.jr_runs.specs.Core as core
use Rattle.jr_runs.specs.KeyMaps.{KeyMap}
use Rattle.jr_cover.specs.Translation.{exp_code}
use Rattle.jr_cover.specs.StatementTranslation.{all_declared, stmt_code, else_code, stmts_code}
use Rattle.jr_runs.specs.Sets.{NumberSet}
use Rattle.jr_runs.specs.Standing.{Standing}
use Rattle.jr_runs.specs.Images.{ExpTo, StmtTo, StmtsTo, BlockTo, NoSpot}
use Rattle.jr_cover.specs.Ways.{Way, row, fork, turns, inside, size}
use Rattle.jr_cover.specs.Sites.{
  What,
  Site,
  at_place,
  Known,
  unless,
  exp_way,
  stmt_way,
  else_way,
  stmts_way,
}
use Rattle.jr_unused_locals.specs.Agreement.{
  Stands,
  here,
  in_first,
  in_second,
  in_left,
  in_right,
  in_body,
  in_monitor,
}

-- one list behind another
abbrev pub joined : {A : Type 0} → (first second : statement.Stmts A) → statement.Stmts A
joined statement.end b = b
joined (statement.more s a) b = statement.more s (joined a b)

-- the new code is the image of the old, whichever locals are said to agree
abbrev pub ExpImage : {K : Keys} → KeyMap K → Rows K → Standing K → (old new : core.Exp K) → Type 0
ExpImage r R s e e' = (A B : NumberSet) × ExpTo r R s.code A e e' B

abbrev pub StmtImage : {K : Keys} → KeyMap K → Rows K → Standing K → (old new : core.Stmt K)
    → Type 0
StmtImage {K = K} r R s a a' = (A B : NumberSet) × StmtTo r R (NoSpot {K = K}) s A a a' B

abbrev pub StmtsImage : {K : Keys} → KeyMap K → Rows K → Standing K → (old new : core.Stmts K)
    → Type 0
StmtsImage {K = K} r R s b b' = (A B : NumberSet) × StmtsTo r R (NoSpot {K = K}) s A b b' B

-- what stands around a member's body: nothing, the call of the superclass's constructor with its
-- arguments in front, or the monitor of a synchronized method
pub data Surround (S : Type 0) : Type 0 where
  nothing : Surround S
  front : (before : Way S) → Surround S
  monitor : (entered exited : S) → Surround S

abbrev pub surrounded : {S : Type 0} → Surround S → (body : Way S) → Way S
surrounded nothing w = w
surrounded (front f) w = row f w
surrounded (monitor e x) w = inside e w x

-- the number of the body's first site
abbrev pub body_begin : {S : Type 0} → Surround S → ℕ
body_begin nothing = 0
body_begin (front f) = 0 + size f
body_begin (monitor e x) = 1

-- what stands in the body stands in the member
abbrev pub stands_in_member : {S : Type 0} (u : Surround S) {a : ℕ} {p w : Way S}
    → Stands a p (body_begin u) w → Stands a p 0 (surrounded u w)
stands_in_member nothing t = t
stands_in_member (front f) {w = w} t = in_second 0 f w t
stands_in_member (monitor e x) {w = w} t = in_monitor 0 e x w t

-- the sites of a loop and of a monitor themselves, by the statement's mark
module _ {K : Keys} {A : Type 0} (X : Known K A) where
  abbrev pub loop_site : A → Site K
  loop_site a = record { at = X.facts.first a; what = What.loops }

  abbrev pub lock_check : A → tree.Exp A → Way (Site K)
  lock_check a e = unless (X.never_null e) (at_place (X.facts.first a) What.checks)

  abbrev pub enter_site : A → Site K
  enter_site a = record { at = X.facts.first a; what = What.enters }

  abbrev pub exit_site : A → Site K
  exit_site a = record { at = X.facts.last a; what = What.exits }

module _ {K : Keys} {A : Type 0} (X : Known K A) (r : KeyMap K) (R : Rows K) (s : Standing K)
    (piece rest : statement.Stmts A) (new_list : core.Stmts K) where
  -- The tree holds the list `piece rest`, the code has `new_list` in its place, and else the image.
  mutual
    pub data StmtHolds : statement.Stmt A → core.Stmt K → Type 0 where
      holds_then : (a : A) (p : At K) (c : tree.Exp A) (c' : core.Exp K) (t : statement.Stmt A)
          (t' : core.Stmt K) (o : statement.Else A) (o' : core.Stmt K)
          → ExpImage r R s (exp_code X.facts c) c' → StmtHolds t t'
          → StmtImage r R s (else_code X.facts o) o'
          → StmtHolds (statement.branch a c t o) (core.branch p c' t' o')
      holds_else : (a : A) (p : At K) (c : tree.Exp A) (c' : core.Exp K) (t : statement.Stmt A)
          (t' : core.Stmt K) (o : statement.Stmt A) (o' : core.Stmt K)
          → ExpImage r R s (exp_code X.facts c) c' → StmtImage r R s (stmt_code X.facts t) t'
          → StmtHolds o o'
          → StmtHolds (statement.branch a c t (statement.otherwise o)) (core.branch p c' t' o')
      holds_turned : (a : A) (p : At K) (c : tree.Exp A) (c' : core.Exp K) (b : statement.Stmt A)
          (b' : core.Stmt K) → ExpImage r R s (exp_code X.facts c) c' → StmtHolds b b'
          → StmtHolds (statement.loop a c b) (core.loop p c' b')
      holds_within : (a : A) (p : At K) (ns : List ℕ) (b : statement.Stmts A) (b' : core.Stmts K)
          → BlockTo s (all_declared X.facts b) ns → StmtsHold b b'
          → StmtHolds (statement.block a b) (core.block p ns b')
      holds_locked : (a : A) (p q : At K) (e : tree.Exp A) (e' : core.Exp K)
          (b : statement.Stmts A) (b' : core.Stmts K)
          → ExpImage r R s (exp_code X.facts e) e' → StmtsHold b b'
          → StmtHolds (statement.sync a e b) (core.sync p q e' b')

    pub data StmtsHold : statement.Stmts A → core.Stmts K → Type 0 where
      holds_here : StmtsHold (joined piece rest) new_list
      holds_first : (t : statement.Stmt A) (t' : core.Stmt K) (b : statement.Stmts A)
          (b' : core.Stmts K) → StmtHolds t t' → StmtsImage r R s (stmts_code X.facts b) b'
          → StmtsHold (statement.more t b) (core.Stmts.more t' b')
      holds_later : (t : statement.Stmt A) (t' : core.Stmt K) (b : statement.Stmts A)
          (b' : core.Stmts K) → StmtImage r R s (stmt_code X.facts t) t' → StmtsHold b b'
          → StmtsHold (statement.more t b) (core.Stmts.more t' b')

  -- The tree's way, in which the piece is one part. Its sites and edges are those of the tree.
  abbrev mutual
    pub stmt_around : {a : statement.Stmt A} {a' : core.Stmt K} → StmtHolds a a' → Way (Site K)
    stmt_around (holds_then a p c c' t t' o o' x h y) =
        row (exp_way X c) (fork (stmt_around h) (else_way X o))
    stmt_around (holds_else a p c c' t t' o o' x y h) =
        row (exp_way X c) (fork (stmt_way X t) (stmt_around h))
    stmt_around (holds_turned a p c c' b b' x h) =
        turns (loop_site X a) (exp_way X c) (stmt_around h)
    stmt_around (holds_within a p ns b b' d h) = stmts_around h
    stmt_around (holds_locked a p q e e' b b' x h) =
        row (exp_way X e) (row (lock_check X a e)
        (inside (enter_site X a) (stmts_around h) (exit_site X a)))

    pub stmts_around : {b : statement.Stmts A} {b' : core.Stmts K} → StmtsHold b b' → Way (Site K)
    stmts_around holds_here = row (stmts_way X piece) (stmts_way X rest)
    stmts_around (holds_first t t' b b' h y) = row (stmt_around h) (stmts_way X b)
    stmts_around (holds_later t t' b b' y h) = row (stmt_way X t) (stmts_around h)

  -- the number of the piece's first site, where the tree's sites have the numbers from n on
  abbrev mutual
    pub stmt_begin : {a : statement.Stmt A} {a' : core.Stmt K} → StmtHolds a a' → (n : ℕ) → ℕ
    stmt_begin (holds_then a p c c' t t' o o' x h y) n = stmt_begin h (n + size (exp_way X c))
    stmt_begin (holds_else a p c c' t t' o o' x y h) n =
        stmt_begin h (n + size (exp_way X c) + size (stmt_way X t))
    stmt_begin (holds_turned a p c c' b b' x h) n = stmt_begin h (suc n + size (exp_way X c))
    stmt_begin (holds_within a p ns b b' d h) n = stmts_begin h n
    stmt_begin (holds_locked a p q e e' b b' x h) n =
        stmts_begin h (suc (n + size (exp_way X e) + size (lock_check X a e)))

    pub stmts_begin : {b : statement.Stmts A} {b' : core.Stmts K} → StmtsHold b b' → (n : ℕ) → ℕ
    stmts_begin holds_here n = n
    stmts_begin (holds_first t t' b b' h y) n = stmt_begin h n
    stmts_begin (holds_later t t' b b' y h) n = stmts_begin h (n + size (stmt_way X t))

  -- where it stands in that way
  abbrev mutual
    pub stmt_stands : {a : statement.Stmt A} {a' : core.Stmt K} (h : StmtHolds a a') → (n : ℕ)
        → Stands (stmt_begin h n) (stmts_way X piece) n (stmt_around h)
    stmt_stands (holds_then a p c c' t t' o o' x h y) n =
        in_second n (exp_way X c) (fork (stmt_around h) (else_way X o))
        (in_left (n + size (exp_way X c)) (stmt_around h) (else_way X o)
        (stmt_stands h (n + size (exp_way X c))))
    stmt_stands (holds_else a p c c' t t' o o' x y h) n =
        in_second n (exp_way X c) (fork (stmt_way X t) (stmt_around h))
        (in_right (n + size (exp_way X c)) (stmt_way X t) (stmt_around h)
        (stmt_stands h (n + size (exp_way X c) + size (stmt_way X t))))
    stmt_stands (holds_turned a p c c' b b' x h) n =
        in_body n (loop_site X a) (exp_way X c) (stmt_around h)
        (stmt_stands h (suc n + size (exp_way X c)))
    stmt_stands (holds_within a p ns b b' d h) n = stmts_stands h n
    stmt_stands (holds_locked a p q e e' b b' x h) n =
        in_second n (exp_way X e)
        (row (lock_check X a e) (inside (enter_site X a) (stmts_around h) (exit_site X a)))
        (in_second (n + size (exp_way X e)) (lock_check X a e)
        (inside (enter_site X a) (stmts_around h) (exit_site X a))
        (in_monitor (n + size (exp_way X e) + size (lock_check X a e)) (enter_site X a) (exit_site X a)
        (stmts_around h)
        (stmts_stands h (suc (n + size (exp_way X e) + size (lock_check X a e))))))

    pub stmts_stands : {b : statement.Stmts A} {b' : core.Stmts K} (h : StmtsHold b b') → (n : ℕ)
        → Stands (stmts_begin h n) (stmts_way X piece) n (stmts_around h)
    stmts_stands holds_here n = in_first n (stmts_way X piece) (stmts_way X rest) here
    stmts_stands (holds_first t t' b b' h y) n =
        in_first n (stmt_around h) (stmts_way X b) (stmt_stands h n)
    stmts_stands (holds_later t t' b b' y h) n =
        in_second n (stmt_way X t) (stmts_around h) (stmts_stands h (n + size (stmt_way X t)))
