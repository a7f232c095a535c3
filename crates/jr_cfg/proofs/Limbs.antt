-- Each kind of statement from its parts, where a place and a part are shown as they are; lists of
-- statements one by one.
use Rattle.std.proofs.Common.{◌≡◌, ℕ, zero, suc, ◌+◌, ◌*◌, ◌<◌, ◌≤◌, Bool, List, [], ◌∷◌, ◌++◌, length, get_or, drop, Option, Some, None, refl, sym, ap, subst, ◌∙◌, append_assoc, add-one, arith}
use Rattle.std.proofs.lemmas.List.{append-nil, drop_all}
use Rattle.jr_text.specs.declared.spans.Span.{Span}
use Rattle.jr_ast.specs.Tree as tree
use Rattle.jr_ast.specs.StatementTree as statement
use Rattle.jr_ast.specs.declared.stmts.Stmt.{Stmt}
use Rattle.jr_ast.specs.View.{stmt_of, stmts_of}
use Rattle.jr_ast.specs.Marks.{stmt_mark}
use Rattle.jr_ast.proofs.Rows.{stmt_mark_is}
use Rattle.jr_ast.proofs.Sizes.{stmt_size, stmts_size, else_size}
use Rattle.jr_table.specs.Context.{locals_in, locals_in_else, locals_in_row}
use Rattle.jr_bind_expr.specs.Fits.{FitsExp, FitsMaybe, FitsStmt, FitsElse, FitsStmts}
use Rattle.jr_bind_expr.proofs.Steps.{left_is}
use Rattle.jr_code.specs.RunKeys.{RunKeys}
use Rattle.jr_cover.specs.Ways as way
use Rattle.jr_cover.specs.Sites as sites
use Rattle.jr_cover.specs.Spots.{spot_stmt, spot_else, spot_stmts}
use Rattle.jr_cfg.specs.declared.statements.Last.{Last}
use Rattle.jr_cfg.specs.declared.statements.Ending.TheVariants as ending
use Rattle.jr_cfg.specs.declared.statements.Reached.TheVariants as reached
use Rattle.jr_expr_sites.specs.Steps.{steps_of, rows}
use Rattle.jr_expr_sites.specs.Steps as step
use Rattle.jr_expr_sites.specs.StepView.{steps_in}
use Rattle.jr_expr_sites.specs.KnownFacts.{Given, Others, place}
use Rattle.jr_cfg.specs.Numbering.{NumbersStmt, NumbersElse, NumbersStmts}
use Rattle.jr_expr_sites.specs.Routes.{Steps, Walked, begins_by, ends_by, exp, nothing}
use Rattle.jr_cfg.specs.StatementRoutes as route
use Rattle.jr_cfg.specs.StatementRoutes.{Passed, Numbered, NumberedAll, HeadWalked, BranchWalked, ending_steps}
use Rattle.jr_expr_sites.proofs.Walking.{Seen, rows_front}

-- ---- measures

pub falls_both : (total a b x t : ℕ) → x ≡ a → total ≡ suc (a + b) → 5 * total ≡ t → 5 * (x + b) + 3 < t
falls_both total a b x t e w h = omega (arith, e, w, h)

pub falls_one : (total a x n t : ℕ) → x ≡ a → total ≡ suc a → 5 * total ≡ t → n < 5 → 5 * x + n < t
falls_one total a x n t e w h l = omega (arith, e, w, h, l)

size_within : {A : Type 0} (row : List (Stmt A)) (i : ℕ) (x : Stmt A) → i < length row → x ≡ get_or row i x → stmt_size (stmt_of x) ≤ stmts_size (stmts_of row)
unfolding stmt_size stmts_size else_size
size_within [] i x lt e = absurd (omega arith)
size_within (y ∷ ys) zero x lt e = let s = ap (λ (z : Stmt _). stmt_size (stmt_of z)) e in omega arith
size_within (y ∷ ys) (suc i) x lt e = let h = size_within ys i x (omega arith) e in omega arith

pub falls_item : {A : Type 0} (row : List (Stmt A)) (i : ℕ) (x : Stmt A) (t : ℕ) → i < length row → x ≡ get_or row i x → 5 * stmts_size (stmts_of row) + 2 ≡ t → 5 * stmt_size (stmt_of x) + 1 < t
falls_item row i x t lt e h = let s = size_within row i x lt e in omega (arith, s, h)

plus_nothing : (n : ℕ) → n ≡ n + 0
plus_nothing n = omega arith

plus_sum : (n a b k : ℕ) → k ≡ n + a + b → k ≡ n + (a + b)
plus_sum n a b k e = omega (arith, e)

-- ---- what fits

mark_fits : {A : Type 0} (B : A → ℕ → ℕ) (F : A → ℕ → Type 0) (base : ℕ) (s : statement.Stmt A) → FitsStmt B F base s → F (stmt_mark s) base
unfolding FitsStmt FitsElse FitsStmts
mark_fits B F base (statement.local m f t w e) h = h.0
mark_fits B F base (statement.eval m e) h = h.0
mark_fits B F base (statement.branch m e x other) h = h.0
mark_fits B F base (statement.loop m e x) h = h.0
mark_fits B F base (statement.«return» m e) h = h.0
mark_fits B F base (statement.block m body) h = h.0
mark_fits B F base (statement.sync m e body) h = h.0
mark_fits B F base (statement.empty m) h = h

pub own_fits_stmt : {A : Type 0} (B : A → ℕ → ℕ) (F : A → ℕ → Type 0) (base : ℕ) (x : Stmt A) → FitsStmt B F base (stmt_of x) → F x.mark base
own_fits_stmt B F base x h = subst (λ (m : _). F m base) (stmt_mark_is x) (mark_fits B F base (stmt_of x) h)

module _ {A : Type 0} (tells : A → ℕ → Span) (F : A → ℕ → Type 0) (base : ℕ) (m : A) (at : ℕ) (start : at ≡ (tells m base).from) where
  abbrev B : A → ℕ → ℕ
  B = begins_by tells

  abbrev Fits : statement.Stmt A → Type 0
  Fits s = FitsStmt B F base s

  there : (P : ℕ → Type 0) → P (B m base) → P at
  there P x = subst P (sym start) x

  pub local_fits : (f : Bool) (u : tree.TypeName A) (w : tree.Word A) (e : tree.Exp A) → Fits (statement.local m f u w e) → FitsExp B F at e × F w.mark at
  unfolding FitsStmt FitsElse FitsStmts
  local_fits f u w e h = (there (λ k. FitsExp B F k e) h.3, there (λ k. F w.mark k) h.2)

  pub eval_fits : (e : tree.Exp A) → Fits (statement.eval m e) → FitsExp B F at e
  unfolding FitsStmt FitsElse FitsStmts
  eval_fits e h = there (λ k. FitsExp B F k e) h.1

  pub branch_fits : (e : tree.Exp A) (x y : Stmt A) (other : statement.Else A) → x ≡ y → Fits (statement.branch m e (stmt_of y) other) → FitsExp B F at e × FitsStmt B F at (stmt_of x) × FitsElse B F at other
  unfolding FitsStmt FitsElse FitsStmts
  branch_fits e x y other same h = (
    there (λ k. FitsExp B F k e) h.1,
    there (λ k. FitsStmt B F k (stmt_of x)) (subst (λ (z : Stmt A). FitsStmt B F (B m base) (stmt_of z)) (sym same) h.2),
    there (λ k. FitsElse B F k other) h.3,
  )

  pub loop_fits : (e : tree.Exp A) (x y : Stmt A) → x ≡ y → Fits (statement.loop m e (stmt_of y)) → FitsExp B F at e × FitsStmt B F at (stmt_of x)
  unfolding FitsStmt FitsElse FitsStmts
  loop_fits e x y same h = (there (λ k. FitsExp B F k e) h.1, there (λ k. FitsStmt B F k (stmt_of x)) (subst (λ (z : Stmt A). FitsStmt B F (B m base) (stmt_of z)) (sym same) h.2))

  pub return_fits : (e : Option (tree.Exp A)) → Fits (statement.«return» m e) → FitsMaybe B F at e
  unfolding FitsStmt FitsElse FitsStmts
  return_fits e h = there (λ k. FitsMaybe B F k e) h.1

  pub block_fits : (x y : List (Stmt A)) → x ≡ y → Fits (statement.block m (stmts_of y)) → FitsStmts B F at (stmts_of x)
  unfolding FitsStmt FitsElse FitsStmts
  block_fits x y same h = there (λ k. FitsStmts B F k (stmts_of x)) (subst (λ (z : List (Stmt A)). FitsStmts B F (B m base) (stmts_of z)) (sym same) h.1)

  pub sync_fits : (e : tree.Exp A) (x y : List (Stmt A)) → x ≡ y → Fits (statement.sync m e (stmts_of y)) → FitsExp B F at e × FitsStmts B F at (stmts_of x)
  unfolding FitsStmt FitsElse FitsStmts
  sync_fits e x y same h = (there (λ k. FitsExp B F k e) h.1, there (λ k. FitsStmts B F k (stmts_of x)) (subst (λ (z : List (Stmt A)). FitsStmts B F (B m base) (stmts_of z)) (sym same) h.2))

-- ---- what is put

module _ {A : Type 0} (tells : A → ℕ → Span) (F : A → ℕ → Type 0) (g : Given) (n : ℕ) (path : List ℕ) (base : ℕ) (m : A) (at : ℕ) (start : at ≡ (tells m base).from) (old : Steps) where
  here : (P : ℕ → Type 0) → P at → P (begins_by tells m base)
  here P x = subst P start x

  abbrev pub Gives : statement.Stmt A → (k : ℕ) → (new : Steps) → Type 0
  Gives s k new = Passed g (Numbered tells n path base s) (route.stmt tells path base s) (n + locals_in s) k old new

  pub local_gives : (f : Bool) (u : tree.TypeName A) (w : tree.Word A) (e : tree.Exp A) (k : ℕ) (new : Steps) → k ≡ n + 1 → Walked g (route.local tells n path at (begins_by tells w.mark at) e) old new → Gives (statement.local m f u w e) k new
  unfolding locals_in locals_in_else locals_in_row spot_stmt spot_else spot_stmts NumbersStmt NumbersElse NumbersStmts
  local_gives f u w e k new more h =
      let put = here (λ j. Walked g (route.local tells n path j (begins_by tells w.mark j) e) old new) h in
      record {
        number = more;
        walked = λ o is.
            put o ∙ ap (λ (j : ℕ). steps_in g.member old ++ steps_of (way.row (exp tells (path ++ 2 ∷ []) (begins_by tells m base) e g o) (sites.at_place (place g (begins_by tells w.mark (begins_by tells m base))) (sites.writes j)))) (sym is);
      }

  pub eval_gives : (e : tree.Exp A) (new : Steps) → Walked g (exp tells (path ++ 0 ∷ []) at e) old new → Gives (statement.eval m e) n new
  unfolding locals_in locals_in_else locals_in_row spot_stmt spot_else spot_stmts
  eval_gives e new h =
      let put = here (λ j. Walked g (exp tells (path ++ 0 ∷ []) j e) old new) h in
      record { number = plus_nothing n; walked = λ o is. put o }

  returned_is : (e : Option (tree.Exp A)) (o : Others) → route.returned tells path (begins_by tells m base) e g o ≡ route.stmt tells path base (statement.«return» m e) g o
  unfolding spot_stmt spot_else spot_stmts
  returned_is None o = refl
  returned_is (Some e) o = refl

  pub return_gives : (e : Option (tree.Exp A)) (new : Steps) → Walked g (route.returned tells path at e) old new → Gives (statement.«return» m e) n new
  unfolding locals_in locals_in_else locals_in_row
  return_gives e new h =
      let put = here (λ j. Walked g (route.returned tells path j e) old new) h in
      record { number = plus_nothing n; walked = λ o is. put o ∙ ap (λ w. steps_in g.member old ++ steps_of w) (returned_is e o) }

  pub block_gives : (x y : List (Stmt A)) (k : ℕ) (new : Steps) → x ≡ y → Passed g (NumberedAll tells n path 0 at (stmts_of x)) (route.stmts tells path 0 at (stmts_of x)) (n + locals_in_row (stmts_of x)) k old new → Gives (statement.block m (stmts_of y)) k new
  unfolding locals_in locals_in_else locals_in_row spot_stmt spot_else spot_stmts NumbersStmt NumbersElse NumbersStmts
  block_gives x y k new same p =
      let q = here (λ j. Passed g (NumberedAll tells n path 0 j (stmts_of y)) (route.stmts tells path 0 j (stmts_of y)) (n + locals_in_row (stmts_of y)) k old new)
      (subst (λ (z : List (Stmt A)). Passed g (NumberedAll tells n path 0 at (stmts_of z)) (route.stmts tells path 0 at (stmts_of z)) (n + locals_in_row (stmts_of z)) k old new) same p) in
      record { number = q.number; walked = λ o is. q.walked o is }

  pub sync_gives : (last : ℕ) → last ≡ ends_by tells m base → (e : tree.Exp A) (x y : List (Stmt A)) (k : ℕ) (new : Steps) → x ≡ y → Passed g (NumberedAll tells n path 1 at (stmts_of x)) (route.sync tells path at last e (stmts_of x)) (n + locals_in_row (stmts_of x)) k old new → Gives (statement.sync m e (stmts_of y)) k new
  unfolding locals_in locals_in_else locals_in_row spot_stmt spot_else spot_stmts NumbersStmt NumbersElse NumbersStmts
  sync_gives last there e x y k new same p =
      let q = here (λ j. Passed g (NumberedAll tells n path 1 j (stmts_of y)) (route.sync tells path j (ends_by tells m base) e (stmts_of y)) (n + locals_in_row (stmts_of y)) k old new)
      (subst (λ (l : ℕ). Passed g (NumberedAll tells n path 1 at (stmts_of y)) (route.sync tells path at l e (stmts_of y)) (n + locals_in_row (stmts_of y)) k old new) there
      (subst (λ (z : List (Stmt A)). Passed g (NumberedAll tells n path 1 at (stmts_of z)) (route.sync tells path at last e (stmts_of z)) (n + locals_in_row (stmts_of z)) k old new) same p)) in
      record { number = q.number; walked = λ o is. q.walked o is }

  pub empty_gives : (new : Steps) → Walked g nothing old new → Gives (statement.empty m) n new
  unfolding locals_in locals_in_else locals_in_row spot_stmt spot_else spot_stmts
  empty_gives new h = record { number = plus_nothing n; walked = λ o is. h o }

  -- ---- where a statement is left

  abbrev pub Reaches : statement.Stmt A → Last A → (now : Steps) → Type 0
  Reaches s l now = HeadWalked tells F g n path base s (reached.To l) old now

  pub branch_reaches : (e : tree.Exp A) (x y : Stmt A) (other : statement.Else A) (l : Last A) (now : Steps) → x ≡ y → BranchWalked tells F g n path at e (stmt_of x) other l old now → Reaches (statement.branch m e (stmt_of y) other) l now
  unfolding locals_in locals_in_else locals_in_row spot_stmt spot_else spot_stmts NumbersStmt NumbersElse NumbersStmts
  branch_reaches e x y other l now same b =
      let q = here (λ j. BranchWalked tells F g n path j e (stmt_of y) other l old now) (subst (λ (z : Stmt A). BranchWalked tells F g n path at e (stmt_of z) other l old now) same b) in (
        q.0,
        record {
          count = plus_sum n (locals_in (stmt_of y)) (locals_in_else other) (l.number + locals_in (stmt_of l.of.now)) q.1.count;
          fits = q.1.fits;
          numbers = λ o is. q.1.numbers o is;
          walked = λ o is. q.1.walked o is;
        },
      )

  turn_steps : (o c s : Seen) (s0 : sites.Site RunKeys) → ((o ++ step.opens s0 ∷ []) ++ c) ++ (s ++ (step.turns ∷ [])) ≡ o ++ (step.opens s0 ∷ (c ++ (s ++ step.turns ∷ [])))
  turn_steps o c s s0 = append_assoc (o ++ step.opens s0 ∷ []) c (s ++ (step.turns ∷ [])) ∙ append_assoc o (step.opens s0 ∷ []) (c ++ (s ++ (step.turns ∷ [])))

  pub loop_reaches : (e : tree.Exp A) (l : Last A) (y : Stmt A) (one now : Steps) → l.of.now ≡ y → l.step ≡ 1 → l.at ≡ at → l.number ≡ n → l.ending ≡ ending.Turn
      → FitsStmt (begins_by tells) F at (stmt_of y) → steps_in g.member one ≡ steps_in g.member old ++ step.opens (record { at = place g at; what = sites.loops }) ∷ [] → Walked g (exp tells (path ++ 0 ∷ []) at e) one now → Reaches (statement.loop m e (stmt_of y)) l now
  unfolding locals_in locals_in_else locals_in_row spot_stmt spot_else spot_stmts NumbersStmt NumbersElse NumbersStmts
  loop_reaches e l y one now same first there number end fits opened test = (
    ap (λ (z : Stmt A). stmt_of z) same,
    record {
      count = λ i. number i + locals_in (stmt_of (same i));
      fits = subst (λ (k : ℕ). FitsStmt (begins_by tells) F k (stmt_of l.of.now)) (sym there) (subst (λ (z : Stmt A). FitsStmt (begins_by tells) F at (stmt_of z)) (sym same) fits);
      numbers = λ o is. shown o (here' (λ j. Numbered tells n (path ++ 1 ∷ []) j (stmt_of y) o) is);
      walked = λ o is.
          let c = steps_of (exp tells (path ++ 0 ∷ []) at e g o) in
          let s = steps_of (route.stmt tells (path ++ 1 ∷ []) at (stmt_of y) g o) in
          (λ i. steps_in g.member now ++ (steps_of (route.stmt tells (path ++ first i ∷ []) (there i) (stmt_of (same i)) g o) ++ ending_steps (end i)))
          ∙ ap (λ (q : Seen). q ++ (s ++ (step.turns ∷ []))) (test o ∙ ap (λ (q : Seen). q ++ c) opened)
          ∙ turn_steps (steps_in g.member old) c s (record { at = place g at; what = sites.loops })
          ∙ (λ i. steps_in g.member old ++ (step.opens (record { at = place g (start i); what = sites.loops }) ∷ (steps_of (exp tells (path ++ 0 ∷ []) (start i) e g o) ++ (steps_of (route.stmt tells (path ++ 1 ∷ []) (start i) (stmt_of y) g o) ++ step.turns ∷ []))));
    },
  )
    where
      here' : (P : ℕ → Type 0) → P (begins_by tells m base) → P at
      here' P x = subst P (sym start) x

      shown : (o : Others) → Numbered tells n (path ++ 1 ∷ []) at (stmt_of y) o → Numbered tells l.number (path ++ l.step ∷ []) l.at (stmt_of l.of.now) o
      shown o h =
          subst (λ (k : ℕ). Numbered tells k (path ++ l.step ∷ []) l.at (stmt_of l.of.now) o) (sym number)
          (subst (λ (k : ℕ). Numbered tells n (path ++ k ∷ []) l.at (stmt_of l.of.now) o) (sym first)
          (subst (λ (k : ℕ). Numbered tells n (path ++ 1 ∷ []) k (stmt_of l.of.now) o) (sym there)
          (subst (λ (z : Stmt A). Numbered tells n (path ++ 1 ∷ []) at (stmt_of z) o) (sym same) h)))

-- ---- a lock

lock_steps : (o e k b : Seen) (s0 s1 : sites.Site RunKeys) → ((((((o ++ e) ++ k) ++ step.opens s0 ∷ []) ++ b) ++ step.closes s1 ∷ []) ++ step.row ∷ []) ++ step.row ∷ [] ≡ o ++ (e ++ ((k ++ ((step.opens s0 ∷ (b ++ step.closes s1 ∷ [])) ++ step.row ∷ [])) ++ step.row ∷ []))
lock_steps o e k b s0 s1 =
    let in_lock : Seen = step.opens s0 ∷ (b ++ step.closes s1 ∷ []) in
    let locked : (((((o ++ e) ++ k) ++ step.opens s0 ∷ []) ++ b) ++ step.closes s1 ∷ []) ≡ ((o ++ e) ++ k) ++ in_lock = append_assoc (((o ++ e) ++ k) ++ step.opens s0 ∷ []) b (step.closes s1 ∷ []) ∙ append_assoc ((o ++ e) ++ k) (step.opens s0 ∷ []) (b ++ step.closes s1 ∷ []) in
    ap (λ (l : Seen). (l ++ step.row ∷ []) ++ step.row ∷ []) locked
    ∙ ap (λ (l : Seen). l ++ step.row ∷ []) (append_assoc ((o ++ e) ++ k) in_lock (step.row ∷ []) ∙ append_assoc (o ++ e) k (in_lock ++ step.row ∷ []))
    ∙ append_assoc (o ++ e) (k ++ (in_lock ++ step.row ∷ [])) (step.row ∷ []) ∙ append_assoc o e ((k ++ (in_lock ++ step.row ∷ [])) ++ step.row ∷ [])

pub sync_walked : {A : Type 0} (tells : A → ℕ → Span) (g : Given) (n : ℕ) (path : List ℕ) (at last : ℕ) (e : tree.Exp A) (ss : statement.Stmts A) (k : ℕ) (old s1 s2 s3 s4 s5 s6 s7 : Steps)
    → Walked g (exp tells (path ++ 0 ∷ []) at e) old s1 → Walked g (route.lock_check tells (path ++ 0 ∷ []) at e) s1 s2 → steps_in g.member s3 ≡ steps_in g.member s2 ++ step.opens (record { at = place g at; what = sites.enters }) ∷ []
    → Passed g (NumberedAll tells n path 1 at ss) (route.stmts tells path 1 at ss) (n + locals_in_row ss) k s3 s4 → steps_in g.member s5 ≡ steps_in g.member s4 ++ step.closes (record { at = place g last; what = sites.exits }) ∷ []
    → steps_in g.member s6 ≡ steps_in g.member s5 ++ step.row ∷ [] → steps_in g.member s7 ≡ steps_in g.member s6 ++ step.row ∷ []
    → Passed g (NumberedAll tells n path 1 at ss) (route.sync tells path at last e ss) (n + locals_in_row ss) k old s7
sync_walked tells g n path at last e ss k old s1 s2 s3 s4 s5 s6 s7 a b opened p closed r1 r2 = record {
  number = p.number;
  walked = λ o is.
      let E = steps_of (exp tells (path ++ 0 ∷ []) at e g o) in
      let K = steps_of (route.lock_check tells (path ++ 0 ∷ []) at e g o) in
      let W = steps_of (route.stmts tells path 1 at ss g o) in
      let row = step.row ∷ [] in
      r2 ∙ ap (λ (l : Seen). l ++ row) (r1 ∙ ap (λ (l : Seen). l ++ row) (closed ∙ ap (λ (l : Seen). l ++ step.closes (record { at = place g last; what = sites.exits }) ∷ []) (p.walked o is ∙ ap (λ (l : Seen). l ++ W) (opened ∙ ap (λ (l : Seen). l ++ step.opens (record { at = place g at; what = sites.enters }) ∷ []) (b o ∙ ap (λ (l : Seen). l ++ K) (a o))))))
      ∙ lock_steps (steps_in g.member old) E K W (record { at = place g at; what = sites.enters }) (record { at = place g last; what = sites.exits });
}

-- ---- lists

turn : (n e r q : Seen) → (n ++ e) ++ (r ++ (step.row ∷ q)) ≡ n ++ ((e ++ (r ++ step.row ∷ [])) ++ q)
turn n e r q =
    append_assoc n e (r ++ (step.row ∷ q))
    ∙ ap (λ (l : Seen). n ++ l) (sym (append_assoc e (r ++ step.row ∷ []) q ∙ ap (λ (l : Seen). e ++ l) (append_assoc r (step.row ∷ []) q)))

module _ {A : Type 0} (tells : A → ℕ → Span) (F : A → ℕ → Type 0) (g : Given) (number : ℕ) (path : List ℕ) (first at : ℕ) (body : List (Stmt A)) where
  -- what is left, and the ends of those that are done, make the whole
  pub record Going (old now : Steps) (after next i : ℕ) : Type 0 where
    pub fits : FitsStmts (begins_by tells) F at (stmts_of (drop i body))
    pub count : after + locals_in_row (stmts_of (drop i body)) ≡ number + locals_in_row (stmts_of body)
    pub numbers : (o : Others) → NumberedAll tells number path first at (stmts_of body) o → NumberedAll tells after path next at (stmts_of (drop i body)) o
    pub walked : (o : Others) → NumberedAll tells number path first at (stmts_of body) o
        → steps_in g.member now ++ (steps_of (route.stmts tells path next at (stmts_of (drop i body)) g o) ++ rows i) ≡ steps_in g.member old ++ steps_of (route.stmts tells path first at (stmts_of body) g o)

  pub going_all : (old : Steps) → FitsStmts (begins_by tells) F at (stmts_of body) → Going old old number first 0
  going_all old fits = record {
    fits = fits;
    count = refl;
    numbers = λ o h. h;
    walked = λ o h. ap (λ (l : Seen). steps_in g.member old ++ l) (append-nil (steps_of (route.stmts tells path first at (stmts_of body) g o)));
  }

  shown : (i : ℕ) (x : Stmt A) → i < length body → x ≡ get_or body i x → (P : statement.Stmts A → Type 0) → P (stmts_of (drop i body)) → P (statement.more (stmt_of x) (stmts_of (drop (i + 1) body)))
  shown i x lt is P h = subst (λ (l : List (Stmt A)). P (stmts_of l)) (left_is body i x lt is) h

  pub item_fits : (i : ℕ) (x : Stmt A) → i < length body → x ≡ get_or body i x → FitsStmts (begins_by tells) F at (stmts_of (drop i body)) → FitsStmt (begins_by tells) F at (stmt_of x) × FitsStmts (begins_by tells) F at (stmts_of (drop (i + 1) body))
  unfolding FitsStmt FitsElse FitsStmts
  item_fits i x lt is h = shown i x lt is (λ s. FitsStmts (begins_by tells) F at s) h

  sum_on : (a b c d n : ℕ) → a ≡ b + c → b + (c + d) ≡ n → a + d ≡ n
  sum_on a b c d n e f = omega (arith, e, f)

  pub going_more : (old now new : Steps) (after k next further i : ℕ) (x : Stmt A) → i < length body → x ≡ get_or body i x → further ≡ next + 1 → Going old now after next i
      → Passed g (Numbered tells after (path ++ next ∷ []) at (stmt_of x)) (route.stmt tells (path ++ next ∷ []) at (stmt_of x)) (after + locals_in (stmt_of x)) k now new → Going old new k further (i + 1)
  unfolding spot_stmt spot_else spot_stmts NumbersStmt NumbersElse NumbersStmts locals_in locals_in_else locals_in_row
  going_more old now new after k next further i x lt is more h p =
      let rest = stmts_of (drop (i + 1) body) in
      let there : further ≡ suc next = more ∙ add-one next in
      let both = λ (o : Others) (t : NumberedAll tells number path first at (stmts_of body) o). shown i x lt is (λ s. NumberedAll tells after path next at s o) (h.numbers o t) in
      record {
        fits = (item_fits i x lt is h.fits).1;
        count = sum_on k after (locals_in (stmt_of x)) (locals_in_row rest) (number + locals_in_row (stmts_of body)) p.number (shown i x lt is (λ s. after + locals_in_row s ≡ number + locals_in_row (stmts_of body)) h.count);
        numbers = λ o t. subst (λ (j : ℕ). NumberedAll tells j path further at rest o) (sym p.number) (subst (λ (j : ℕ). NumberedAll tells (after + locals_in (stmt_of x)) path j at rest o) (sym there) (both o t).1);
        walked = λ o t.
            let e = steps_of (route.stmt tells (path ++ next ∷ []) at (stmt_of x) g o) in
            let r = steps_of (route.stmts tells path (suc next) at rest g o) in
            let n = steps_in g.member now in
            (λ j. p.walked o ((both o t).0) j ++ (steps_of (route.stmts tells path (there j) at rest g o) ++ rows_front i j))
            ∙ turn n e r (rows i)
            ∙ ap (λ (l : List (Stmt A)). n ++ (steps_of (route.stmts tells path next at (stmts_of l) g o) ++ rows i)) (sym (left_is body i x lt is))
            ∙ h.walked o t;
      }

  pub going_done : (old now mid new : Steps) (after next i count : ℕ) → length body ≤ i → i ≤ length body → count ≡ length body → Going old now after next i → Walked g nothing now mid → steps_in g.member new ≡ steps_in g.member mid ++ rows count
      → Passed g (NumberedAll tells number path first at (stmts_of body)) (route.stmts tells path first at (stmts_of body)) (number + locals_in_row (stmts_of body)) after old new
  unfolding spot_stmt spot_else spot_stmts locals_in locals_in_else locals_in_row
  going_done old now mid new after next i count past within all h none ends =
      let same : count ≡ i = omega (arith, past, within, all) in
      let over = drop_all i body past in
      record {
        number = plus_nothing after ∙ subst (λ (l : List (Stmt A)). after + locals_in_row (stmts_of l) ≡ number + locals_in_row (stmts_of body)) over h.count;
        walked = λ o t.
            let n = steps_in g.member now in
            ends ∙ (λ j. none o j ++ rows (same j)) ∙ append_assoc n (step.pass ∷ []) (rows i)
            ∙ ap (λ (l : List (Stmt A)). n ++ (steps_of (route.stmts tells path next at (stmts_of l) g o) ++ rows i)) (sym over)
            ∙ h.walked o t;
      }
