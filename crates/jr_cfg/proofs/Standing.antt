-- Statements that stand last in others: what is left where the front of a statement has been walked.
use Rattle.std.proofs.Common.{◌≡◌, ℕ, suc, ◌+◌, ◌≤◌, List, [], ◌∷◌, ◌++◌, length, refl, sym, ap, subst, ◌∙◌, append_assoc, arith}
use Rattle.std.proofs.lemmas.List.{append-nil}
use Rattle.jr_text.specs.declared.spans.Span.{Span}
use Rattle.jr_ast.specs.Tree as tree
use Rattle.jr_ast.specs.StatementTree as statement
use Rattle.jr_ast.specs.View.{stmt_of}
use Rattle.jr_ast.proofs.Sizes.{stmt_size, stmts_size, else_size}
use Rattle.jr_table.specs.Context.{locals_in, locals_in_else, locals_in_row}
use Rattle.jr_bind_expr.specs.Fits.{FitsStmt, FitsElse, FitsStmts}
use Rattle.jr_cover.specs.Spots.{spot_stmt, spot_else, spot_stmts}
use Rattle.jr_cfg.specs.Numbering.{NumbersStmt, NumbersElse, NumbersStmts}
use Rattle.jr_cfg.specs.declared.statements.Ending.{Ending}
use Rattle.jr_cfg.specs.declared.statements.Last.{Last}
use Rattle.jr_expr_sites.specs.Steps.{steps_of}
use Rattle.jr_expr_sites.specs.Steps as step
use Rattle.jr_expr_sites.specs.StepView.{steps_in}
use Rattle.jr_expr_sites.specs.KnownFacts.{Given, Others}
use Rattle.jr_expr_sites.specs.Routes.{Route, Steps, Walked, exp}
use Rattle.jr_cfg.specs.StatementRoutes.{ending_steps, onto, endings_steps, Passed, stmt, Numbered, NumberedElse, Leaves, LeavesLast, IsLastOf, IsLast, branch}
use Rattle.jr_expr_sites.proofs.Walking.{Seen}

-- ---- endings

onto_append : (es : List Ending) (e : Ending) (l : Seen) → onto (es ++ e ∷ []) l ≡ ending_steps e ++ onto es l
onto_append [] e l = refl
onto_append (d ∷ es) e l = onto_append es e (ending_steps d ++ l)

pub one_ending : (es fs : List Ending) (e : Ending) → fs ≡ es ++ e ∷ [] → endings_steps fs ≡ ending_steps e ++ endings_steps es
one_ending es fs e is = ap endings_steps is ∙ onto_append es e []

-- ---- the statement that stands last

pub last_smaller : {A : Type 0} (tells : A → ℕ → Span) (y x : statement.Stmt A) → IsLast tells y x → suc (stmt_size y) ≤ stmt_size x
unfolding stmt_size stmts_size else_size
last_smaller tells y (statement.branch m e x statement.no_else) is = let s = ap stmt_size is in omega (arith, s)
last_smaller tells y (statement.branch m e x (statement.otherwise z)) is = let s = ap stmt_size is in omega (arith, s)
last_smaller tells y (statement.loop m e x) is = let s = ap stmt_size is in omega (arith, s)
last_smaller tells y (statement.local m f t w e) is = absurd is
last_smaller tells y (statement.eval m e) is = absurd is
last_smaller tells y (statement.«return» m e) is = absurd is
last_smaller tells y (statement.block m body) is = absurd is
last_smaller tells y (statement.sync m e body) is = absurd is
last_smaller tells y (statement.empty m) is = absurd is

module _ {A : Type 0} (tells : A → ℕ → Span) (F : A → ℕ → Type 0) (g : Given) where
  pub leaves_all : (n : ℕ) (path : List ℕ) (at : ℕ) (x : statement.Stmt A) (old : Steps) → FitsStmt (λ m b. (tells m b).from) F at x
      → Leaves tells F g (n + locals_in x) (Numbered tells n path at x) (stmt tells path at x) x n path at [] old old
  leaves_all n path at x old fits = record {
    count = refl;
    fits = fits;
    numbers = λ o h. h;
    walked = λ o h. ap (λ (l : Seen). steps_in g.member old ++ l) (append-nil (steps_of (stmt tells path at x g o)));
  }

  module _ (behind : ℕ) (IsSo : Others → Type 0) (r : Route) (y : statement.Stmt A) (n : ℕ) (path : List ℕ) (at : ℕ) (ends : Seen) (old now : Steps) (a : Leaves tells F g behind IsSo r y n path at ends old now) where
    pub leaves_then : (l : Last A) (next : Steps) (more : Seen) (down : List ℕ) → more ≡ ending_steps l.ending ++ ends → down ≡ path ++ l.step ∷ [] → LeavesLast tells F g path (n + locals_in y) (Numbered tells n path at y) (stmt tells path at y) l now next
        → Leaves tells F g behind IsSo r (stmt_of l.of.now) l.number down l.at more old next
    leaves_then l next more down e d b =
        subst (λ (s : Seen). Leaves tells F g behind IsSo r (stmt_of l.of.now) l.number down l.at s old next) (sym e)
        (subst (λ (p : List ℕ). Leaves tells F g behind IsSo r (stmt_of l.of.now) l.number p l.at (ending_steps l.ending ++ ends) old next) (sym d)
        (record {
          count = b.count ∙ a.count;
          fits = b.fits;
          numbers = λ o h. b.numbers o (a.numbers o h);
          walked = λ o h.
              let z = steps_of (stmt tells (path ++ l.step ∷ []) l.at (stmt_of l.of.now) g o) in
              let w = ending_steps l.ending in
              let t = steps_in g.member next in
              let v = steps_of (stmt tells path at y g o) in
              sym (append_assoc t (z ++ w) ends ∙ ap (λ (s : Seen). t ++ s) (append_assoc z w ends))
              ∙ ap (λ (s : Seen). s ++ ends) (b.walked o (a.numbers o h)) ∙ append_assoc (steps_in g.member now) v ends ∙ a.walked o h;
        }))

    pub leaves_behind : (k : ℕ) (next final : Steps) → steps_in g.member final ≡ steps_in g.member next ++ ends → Passed g (Numbered tells n path at y) (stmt tells path at y) (n + locals_in y) k now next → Passed g IsSo r behind k old final
    leaves_behind k next final ended p = record {
      number = p.number ∙ a.count;
      walked = λ o h.
          ended ∙ ap (λ (s : Seen). s ++ ends) (p.walked o (a.numbers o h)) ∙ append_assoc (steps_in g.member now) (steps_of (stmt tells path at y g o)) ends ∙ a.walked o h;
    }

-- ---- a condition

yes_steps : (o c s : Seen) → (o ++ c) ++ (s ++ (step.pass ∷ step.fork ∷ step.row ∷ [])) ≡ o ++ (c ++ ((s ++ ((step.pass ∷ []) ++ step.fork ∷ [])) ++ step.row ∷ []))
yes_steps o c s =
    append_assoc o c (s ++ (step.pass ∷ step.fork ∷ step.row ∷ [])) ∙ ap (λ (l : Seen). o ++ (c ++ l)) (sym (append_assoc s (step.pass ∷ step.fork ∷ []) (step.row ∷ [])))

no_steps : (o c s t : Seen) → ((o ++ c) ++ s) ++ (t ++ (step.fork ∷ step.row ∷ [])) ≡ o ++ (c ++ ((s ++ (t ++ step.fork ∷ [])) ++ step.row ∷ []))
no_steps o c s t =
    append_assoc (o ++ c) s (t ++ (step.fork ∷ step.row ∷ [])) ∙ append_assoc o c (s ++ (t ++ (step.fork ∷ step.row ∷ [])))
    ∙ ap (λ (l : Seen). o ++ (c ++ l)) (sym (append_assoc s (t ++ step.fork ∷ []) (step.row ∷ []) ∙ ap (λ (l : Seen). s ++ l) (append_assoc t (step.fork ∷ []) (step.row ∷ []))))

module _ {A : Type 0} (tells : A → ℕ → Span) (F : A → ℕ → Type 0) (g : Given) (n : ℕ) (path : List ℕ) (at : ℕ) (e : tree.Exp A) (x : statement.Stmt A) where
  abbrev pub Branching : statement.Else A → Others → Type 0
  Branching other o = Numbered tells n (path ++ 1 ∷ []) at x o × NumberedElse tells (n + locals_in x) (path ++ 2 ∷ []) at other o

  pub yes_left : (old one : Steps) → Walked g (exp tells (path ++ 0 ∷ []) at e) old one → FitsStmt (λ m b. (tells m b).from) F at x
      → IsLastOf tells x x statement.no_else × Leaves tells F g (n + locals_in x + locals_in_else {A = A} statement.no_else) (Branching statement.no_else) (branch tells path at e x statement.no_else) x n (path ++ 1 ∷ []) at (step.pass ∷ step.fork ∷ step.row ∷ []) old one
  unfolding locals_in locals_in_else locals_in_row spot_stmt spot_else spot_stmts NumbersStmt NumbersElse NumbersStmts
  yes_left old one test fits = (
    refl,
    record {
      count = plus_none (n + locals_in x);
      fits = fits;
      numbers = λ o h. h.0;
      walked = λ o h.
          let s = steps_of (stmt tells (path ++ 1 ∷ []) at x g o) in
          ap (λ (l : Seen). l ++ (s ++ (step.pass ∷ step.fork ∷ step.row ∷ []))) (test o) ∙ yes_steps (steps_in g.member old) (steps_of (exp tells (path ++ 0 ∷ []) at e g o)) s;
    },
  )
    where
      plus_none : (a : ℕ) → a ≡ a + 0
      plus_none a = omega arith

  pub no_left : (z : statement.Stmt A) (k : ℕ) (old one two : Steps) → Walked g (exp tells (path ++ 0 ∷ []) at e) old one → FitsElse (λ m b. (tells m b).from) F at (statement.otherwise z)
      → Passed g (Numbered tells n (path ++ 1 ∷ []) at x) (stmt tells (path ++ 1 ∷ []) at x) (n + locals_in x) k one two
      → IsLastOf tells z x (statement.otherwise z) × Leaves tells F g (n + locals_in x + locals_in_else (statement.otherwise z)) (Branching (statement.otherwise z)) (branch tells path at e x (statement.otherwise z)) z k (path ++ 2 ∷ []) at (step.fork ∷ step.row ∷ []) old two
  unfolding locals_in locals_in_else locals_in_row FitsStmt FitsElse FitsStmts NumbersStmt NumbersElse NumbersStmts spot_stmt spot_else spot_stmts
  no_left z k old one two test fits p = (
    refl,
    record {
      count = ap (λ (j : ℕ). j + locals_in z) p.number;
      fits = fits;
      numbers = λ o h. subst (λ (j : ℕ). Numbered tells j (path ++ 2 ∷ []) at z o) (sym p.number) h.1;
      walked = λ o h.
          let c = steps_of (exp tells (path ++ 0 ∷ []) at e g o) in
          let s = steps_of (stmt tells (path ++ 1 ∷ []) at x g o) in
          let t = steps_of (stmt tells (path ++ 2 ∷ []) at z g o) in
          ap (λ (l : Seen). l ++ (t ++ (step.fork ∷ step.row ∷ []))) (p.walked o h.0 ∙ ap (λ (l : Seen). l ++ s) (test o)) ∙ no_steps (steps_in g.member old) c s t;
    },
  )

-- ---- endings are put

pub no_items : {X : Type 0} (xs : List X) → length xs ≡ 0 → xs ≡ []
no_items [] e = refl
no_items (x ∷ xs) e = absurd (omega (arith, e))
