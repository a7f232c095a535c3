-- What is left where the front of a statement has been walked.
use Rattle.std.proofs.Common.{◌≡◌, ℕ, suc, ◌+◌, ◌*◌, ◌<◌, ◌≤◌, List, [], ◌∷◌, ◌++◌, length, Option, refl, sym, ap, subst, ◌∙◌, arith}
use Rattle.jr_text.specs.declared.spans.Span.{Span}
use Rattle.jr_ast.specs.Tree as tree
use Rattle.jr_ast.specs.StatementTree as statement
use Rattle.jr_ast.proofs.Sizes.{stmt_size, stmts_size, else_size}
use Rattle.jr_table.specs.Context.{Context, after, locals_in, locals_in_else, locals_in_row}
use Rattle.jr_table.specs.Binding.{value}
use Rattle.jr_rewrite.specs.Spots.{level}
use Rattle.jr_rewrite.specs.Rewrites.{TransformsStmt}
use Rattle.jr_new_words.specs.Spelled.{spelling}
use Rattle.jr_new_bodies.specs.declared.here.Here as raw
use Rattle.jr_new_bodies.specs.Known.{context_of, IsKnown}
use Rattle.jr_new_bodies.specs.Spotting.{spots_of}
use Rattle.jr_new_bodies.specs.SpotView.{spotting_of}
use Rattle.jr_new_bodies.specs.Walks.{choosing, spotted, PartGathers}
use Rattle.jr_new_bodies.specs.Effects.{Effect, Gathers}
use Rattle.jr_new_bodies.specs.Bodies.{StmtGathers, ElseGathers}
use Rattle.jr_new_bodies.specs.Ready.{StmtReady, ElseReady}
use Rattle.jr_new_bodies.specs.Moves.{Goes, Passes, cut, own_key, StmtPasses, InnerPasses}
use Rattle.jr_new_bodies.specs.Lasts.{IsLastOf, IsLast, Leaves}
use Rattle.jr_new_bodies.proofs.Bodying.{moved, then_goes, goes_as, stays_here, else_moved, in_else, no_else_gives, else_gives, inner_passes}

-- ---- the statement that stands last

pub last_smaller : {A : Type 0} (y x : statement.Stmt A) → IsLast y x → suc (stmt_size y) ≤ stmt_size x
unfolding stmt_size stmts_size else_size
last_smaller y (statement.branch m e x statement.no_else) is = let s = ap stmt_size is in omega (arith, s)
last_smaller y (statement.branch m e x (statement.otherwise z)) is = let s = ap stmt_size is in omega (arith, s)
last_smaller y (statement.loop m e x) is = let s = ap stmt_size is in omega (arith, s)
last_smaller y (statement.local m f t w e) is = absurd is
last_smaller y (statement.eval m e) is = absurd is
last_smaller y (statement.«return» m e) is = absurd is
last_smaller y (statement.block m body) is = absurd is
last_smaller y (statement.sync m e body) is = absurd is
last_smaller y (statement.empty m) is = absurd is

-- nothing stays in scope behind what ends in another statement
pub last_after : {A : Type 0} (n : ℕ) (c : Context) (y x : statement.Stmt A) → IsLast y x → after n c x ≡ c
last_after n c y (statement.branch m e x other) is = refl
last_after n c y (statement.loop m e x) is = refl
last_after n c y (statement.local m f t w e) is = absurd is
last_after n c y (statement.eval m e) is = absurd is
last_after n c y (statement.«return» m e) is = absurd is
last_after n c y (statement.block m body) is = absurd is
last_after n c y (statement.sync m e body) is = absurd is
last_after n c y (statement.empty m) is = absurd is

-- ---- from one to the next

module _ {A : Type 0} (tells : A → ℕ → Span) (F : A → ℕ → Type 0) (h : raw.Here) where
  pub leaves_all : (n : ℕ) (path : List ℕ) (at : ℕ) (x : statement.Stmt A) (old : Effect) → IsKnown h → StmtReady tells F h n path at x
      → Leaves tells F h (n + locals_in x) (λ new. StmtGathers tells h n at x old new) x n path at h old
  leaves_all n path at x old known ready = record { goes = stays_here h known; count = refl; ready = ready; gives = λ new g. g }

  module _ (behind : ℕ) (Gives : Effect → Type 0) (y : statement.Stmt A) (n : ℕ) (path : List ℕ) (at : ℕ) (i : raw.Here) (now : Effect) (a : Leaves tells F h behind Gives y n path at i now) where
    pub leaves_then : (z : statement.Stmt A) (k : ℕ) (down : List ℕ) (base : ℕ) (j : raw.Here) (next : Effect) → Leaves tells F i (n + locals_in y) (λ new. StmtGathers tells i n at y now new) z k down base j next
        → Leaves tells F h behind Gives z k down base j next
    leaves_then z k down base j next b = record {
      goes = goes_as h j (context_of i) (context_of h) (then_goes h i j (context_of h) (context_of i) a.goes b.goes) a.goes.context;
      count = b.count ∙ a.count;
      ready = b.ready;
      gives = λ new g. a.gives new (b.gives new g);
    }

    pub leaves_behind : (k : ℕ) (j : raw.Here) (new : Effect) → InnerPasses tells n i at y k j now new → Passes h j k behind (context_of h) (Gives new)
    leaves_behind k j new p = record {
      number = p.number ∙ a.count;
      goes = goes_as h j (context_of i) (context_of h) (then_goes h i j (context_of h) (context_of i) a.goes p.goes) a.goes.context;
      gives = a.gives new p.gives;
    }

-- ---- a condition

module _ {A : Type 0} (tells : A → ℕ → Span) (F : A → ℕ → Type 0) (h : raw.Here) (n : ℕ) (path : List ℕ) (at : ℕ) (e : tree.Exp A) (x : statement.Stmt A) where
  abbrev pub Branching : statement.Else A → (old new : Effect) → Type 0
  Branching other old new = (one : Effect) × (two : Effect) × PartGathers tells h (level 0) value at e old one × StmtGathers tells h n at x one two × ElseGathers tells h (n + locals_in x) at other two new

  pub yes_left : (old one : Effect) → IsKnown h → PartGathers tells h (level 0) value at e old one → StmtReady tells F h n (path ++ 1 ∷ []) at x
      → IsLastOf x x statement.no_else × Leaves tells F h (n + locals_in x + locals_in_else {A = A} statement.no_else) (Branching statement.no_else old) x n (path ++ 1 ∷ []) at h one
  unfolding locals_in locals_in_else locals_in_row
  yes_left old one known test ready = (
    refl,
    record {
      goes = stays_here h known;
      count = plus_none (n + locals_in x);
      ready = ready;
      gives = λ new g. (one, new, test, g, no_else_gives tells h (n + locals_in x) at new);
    },
  )
    where
      plus_none : (a : ℕ) → a ≡ a + 0
      plus_none a = omega arith

  pub no_left : (z : statement.Stmt A) (k : ℕ) (i : raw.Here) (old one two : Effect) → PartGathers tells h (level 0) value at e old one → ElseReady tells F h (n + locals_in x) (path ++ 2 ∷ []) at (statement.otherwise z) → InnerPasses tells n h at x k i one two
      → IsLastOf z x (statement.otherwise z) × Leaves tells F h (n + locals_in x + locals_in_else (statement.otherwise z)) (Branching (statement.otherwise z) old) z k (path ++ 2 ∷ []) at i two
  unfolding locals_in locals_in_else locals_in_row
  no_left z k i old one two test ready p = (
    refl,
    record {
      goes = p.goes;
      count = ap (λ (j : ℕ). j + locals_in z) p.number;
      ready = subst (λ j. StmtReady tells F i j (path ++ 2 ∷ []) at z) (sym p.number) (in_else tells F i (n + locals_in x) (path ++ 2 ∷ []) at z (else_moved tells F h i p.goes (n + locals_in x) (path ++ 2 ∷ []) at (statement.otherwise z) ready));
      gives = λ new g. (
        one,
        two,
        test,
        p.gives,
        else_gives tells h (n + locals_in x) at z two new
            (λ s. subst (λ j. Gathers (TransformsStmt tells (choosing tells h s.super_at) (spotted tells h s) j (context_of h) at z) two new) p.number
            (moved (λ rs d v c. Gathers (TransformsStmt tells (spelling (λ m b. (tells m b).from) rs d s.super_at) (spots_of tells s (spotting_of v)) k c at z) two new) h i (context_of h) p.goes (g s))),
      );
    },
  )

-- ---- the whole

module _ {A : Type 0} (tells : A → ℕ → Span) (F : A → ℕ → Type 0) (h : raw.Here) (n base : ℕ) (x : statement.Stmt A) (old : Effect) (y : statement.Stmt A) (k : ℕ) (path : List ℕ) (at : ℕ) (i : raw.Here) (now : Effect) where
  abbrev pub Left : Type 0
  Left = Leaves tells F h (n + locals_in x) (λ new. StmtGathers tells h n base x old new) y k path at i now

  pub stmt_passes : IsLast y x → Left → (m : ℕ) (j : raw.Here) (new : Effect) → InnerPasses tells k i at y m j now new → StmtPasses tells n h base x m j old new
  stmt_passes last left m j new p =
      let q = leaves_behind tells F h (n + locals_in x) (λ new. StmtGathers tells h n base x old new) y k path at i now left m j new p in
      record { number = q.number; goes = goes_as h j (context_of h) (after n (context_of h) x) q.goes (sym (last_after n (context_of h) y x last)); gives = q.gives }

  pub inner_ends : (depth : ℕ) (own : Option ℕ) → depth ≡ length (context_of h).locals → (context_of h).own ≡ own_key (context_of h).member own → Left
      → (m : ℕ) (j l : raw.Here) (new : Effect) → StmtPasses tells k i at y m j now new → Goes j l (cut depth own (context_of j)) → InnerPasses tells n h base x m l old new
  inner_ends depth own deep is left m j l new p cuts =
      let same = left.goes.context in
      leaves_behind tells F h (n + locals_in x) (λ new. StmtGathers tells h n base x old new) y k path at i now left m l new
      (inner_passes tells k i at y m j l now new depth own (deep ∙ ap (λ (c : Context). length c.locals) (sym same)) (subst (λ (c : Context). c.own ≡ own_key c.member own) (sym same) is) p cuts)
