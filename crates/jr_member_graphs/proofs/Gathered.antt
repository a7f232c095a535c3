-- What is gathered, put together: each kind of statement from its parts, where a place is shown as it
-- is; lists of statements one by one.
use Rattle.std.proofs.Common.{◌≡◌, ℕ, zero, suc, ◌+◌, ◌*◌, ◌<◌, ◌≤◌, Bool, List, [], ◌∷◌, ◌++◌, map, length, get_or, drop, Option, refl, sym, ap, subst, ◌∙◌, append_assoc, arith}
use Rattle.std.proofs.lemmas.List.{append-nil, map-append, drop_all}
use Rattle.jr_text.specs.declared.spans.Span.{Span}
use Rattle.jr_ast.specs.Tree as tree
use Rattle.jr_ast.specs.StatementTree as statement
use Rattle.jr_ast.specs.declared.stmts.Stmt.{Stmt}
use Rattle.jr_ast.specs.View.{stmt_of, stmts_of}
use Rattle.jr_ast.specs.Marks.{stmt_mark}
use Rattle.jr_ast.proofs.Rows.{stmt_mark_is}
use Rattle.jr_ast.proofs.Sizes.{stmt_size, stmts_size, else_size}
use Rattle.jr_table.specs.Decls.{MemberKey}
use Rattle.jr_bind_expr.specs.Fits.{FitsExp, FitsMaybe, FitsStmt, FitsElse, FitsStmts}
use Rattle.jr_bind_expr.proofs.Steps.{left_is}
use Rattle.jr_code.specs.RunKeys.{RunKeys}
use Rattle.jr_cover.specs.Sites.{Site}
use Rattle.jr_cover.specs.Ways.{Way}
use Rattle.jr_expr_sites.specs.KnownFacts.{Given, meaning_at}
use Rattle.jr_expr_sites.specs.Meanings.{Meaning}
use Rattle.jr_expr_sites.specs.Routes.{Steps, Walked, begins_by, exp, exps}
use Rattle.jr_expr_sites.specs.Steps.{sites_in, steps_of}
use Rattle.jr_expr_sites.specs.StepView.{steps_in}
use Rattle.jr_cfg.specs.StatementRoutes.{IsLast, IsLastOf}
use Rattle.jr_cfg.proofs.StepLaws.{sites_append, sites_of_steps}
use Rattle.jr_member_graphs.specs.Gathering.{Leaves, HeadGathered, BranchGathered}
use Rattle.jr_member_graphs.specs.Notes.{Notes, none, wrote, both, exp_locals, exps_locals, maybe_locals, stmt_notes, else_notes, stmts_notes}
use Rattle.jr_member_graphs.specs.NotesView.{written, noted, begin_of, notes_in}
use Rattle.jr_member_graphs.specs.OwnFlags.{no_others}
use Rattle.jr_member_graphs.specs.declared.gather.Begin as raw
use Rattle.jr_member_graphs.specs.declared.gather.Last.{Last}
use Rattle.jr_member_graphs.specs.declared.gather.Reached.TheVariants as reached
use Rattle.jr_member_graphs.proofs.Writes.{Written, written_append, exp_written, exps_written}

-- ---- notes

module _ {A : Type 0} where
  pub both_assoc : (x y z : Notes A) → both (both x y) z ≡ both x (both y z)
  both_assoc x y z = λ i. record { writes = append_assoc x.writes y.writes z.writes i; begins = append_assoc x.begins y.begins z.begins i }

  pub both_none : (x : Notes A) → both x none ≡ x
  both_none x = λ i. record { writes = append-nil x.writes i; begins = append-nil x.begins i }

  -- an expression alone
  pub wrote_more : (key : MemberKey) (old new : Steps) (begins : List (raw.Begin A)) (ns : List ℕ) → noted key new ≡ noted key old ++ ns → notes_in key new begins ≡ both (notes_in key old begins) (wrote ns)
  wrote_more key old new begins ns e = λ i. record { writes = e i; begins = sym (append-nil (map begin_of begins)) i }

  -- an expression, and the local that it is the initializer of
  pub begun_more : (key : MemberKey) (old new : Steps) (begins ends : List (raw.Begin A)) (b : raw.Begin A) (ns : List ℕ) → noted key new ≡ noted key old ++ ns → ends ≡ begins ++ b ∷ []
      → notes_in key new ends ≡ both (notes_in key old begins) (record { writes = ns; begins = begin_of b ∷ [] })
  begun_more key old new begins ends b ns e f = λ i. record { writes = e i; begins = (ap (map begin_of) f ∙ map-append begin_of begins (b ∷ [])) i }

  -- two pieces
  pub then_more : (old one two a b : Notes A) → one ≡ both old a → two ≡ both one b → two ≡ both old (both a b)
  then_more old one two a b e f = f ∙ ap (λ (x : Notes A). both x b) e ∙ both_assoc old a b

-- ---- expressions

module _ (g : Given) where
  way_noted : (w : Way (Site RunKeys)) (ns : List ℕ) (old new : Steps) → steps_in g.member new ≡ steps_in g.member old ++ steps_of w → Written w ns → noted g.member new ≡ noted g.member old ++ ns
  way_noted w ns old new put h =
      ap (λ (l : List _). written (sites_in l)) put ∙ ap written (sites_append (steps_in g.member old) (steps_of w)) ∙ written_append (sites_in (steps_in g.member old)) (sites_in (steps_of w))
      ∙ ap (λ (l : List ℕ). noted g.member old ++ l) (ap written (sites_of_steps w) ∙ h.is)

  pub exp_noted : {A : Type 0} (tells : A → ℕ → Span) (path : List ℕ) (base : ℕ) (e : tree.Exp A) (old new : Steps) → Walked g (exp tells path base e) old new → noted g.member new ≡ noted g.member old ++ exp_locals tells (meaning_at g) base e
  exp_noted tells path base e old new h = way_noted (exp tells path base e g no_others) (exp_locals tells (meaning_at g) base e) old new (h no_others) (exp_written tells g no_others e base path)

  pub exps_noted : {A : Type 0} (tells : A → ℕ → Span) (path : List ℕ) (first at : ℕ) (es : tree.Exps A) (old new : Steps) → Walked g (exps tells path first at es) old new → noted g.member new ≡ noted g.member old ++ exps_locals tells (meaning_at g) at es
  exps_noted tells path first at es old new h = way_noted (exps tells path first at es g no_others) (exps_locals tells (meaning_at g) at es) old new (h no_others) (exps_written tells g no_others es at path first)

-- ---- measures

pub falls_both : (total a b x t : ℕ) → x ≡ a → total ≡ suc (a + b) → 5 * total ≡ t → 5 * (x + b) + 3 < t
falls_both total a b x t e w h = omega (arith, e, w, h)

pub falls_one : (total a x n t : ℕ) → x ≡ a → total ≡ suc a → 5 * total ≡ t → n < 5 → 5 * x + n < t
falls_one total a x n t e w h l = omega (arith, e, w, h, l)

size_within : {A : Type 0} (row : List (Stmt A)) (i : ℕ) (x : Stmt A) → i < length row → x ≡ get_or row i x → stmt_size (stmt_of x) ≤ stmts_size (stmts_of row)
unfolding stmt_size stmts_size else_size
size_within [] i x lt e = absurd (omega arith)
size_within (y ∷ ys) zero x lt e = let s = ap (λ (z : Stmt _). stmt_size (stmt_of z)) e in omega arith
size_within (y ∷ ys) (suc i) x lt e = let h = size_within ys i x (omega arith) e in omega arith

pub falls_item : {A : Type 0} (row : List (Stmt A)) (i : ℕ) (x : Stmt A) (t : ℕ) → i < length row → x ≡ get_or row i x → 5 * stmts_size (stmts_of row) + 2 ≡ t → 5 * stmt_size (stmt_of x) + 1 < t
falls_item row i x t lt e h = let s = size_within row i x lt e in omega (arith, s, h)

pub last_smaller : {A : Type 0} (tells : A → ℕ → Span) (y x : statement.Stmt A) → IsLast tells y x → suc (stmt_size y) ≤ stmt_size x
unfolding stmt_size stmts_size else_size
last_smaller tells y (statement.branch m e x statement.no_else) is = let s = ap stmt_size is in omega (arith, s)
last_smaller tells y (statement.branch m e x (statement.otherwise z)) is = let s = ap stmt_size is in omega (arith, s)
last_smaller tells y (statement.loop m e x) is = let s = ap stmt_size is in omega (arith, s)
last_smaller tells y (statement.local m f t w e) is = absurd is
last_smaller tells y (statement.eval m e) is = absurd is
last_smaller tells y (statement.«return» m e) is = absurd is
last_smaller tells y (statement.block m body) is = absurd is
last_smaller tells y (statement.sync m e body) is = absurd is
last_smaller tells y (statement.empty m) is = absurd is

-- ---- what fits

mark_fits : {A : Type 0} (B : A → ℕ → ℕ) (F : A → ℕ → Type 0) (base : ℕ) (s : statement.Stmt A) → FitsStmt B F base s → F (stmt_mark s) base
unfolding FitsStmt FitsElse FitsStmts
mark_fits B F base (statement.local m f t w e) h = h.0
mark_fits B F base (statement.eval m e) h = h.0
mark_fits B F base (statement.branch m e x other) h = h.0
mark_fits B F base (statement.loop m e x) h = h.0
mark_fits B F base (statement.«return» m e) h = h.0
mark_fits B F base (statement.block m body) h = h.0
mark_fits B F base (statement.sync m e body) h = h.0
mark_fits B F base (statement.empty m) h = h

pub own_fits_stmt : {A : Type 0} (B : A → ℕ → ℕ) (F : A → ℕ → Type 0) (base : ℕ) (x : Stmt A) → FitsStmt B F base (stmt_of x) → F x.mark base
own_fits_stmt B F base x h = subst (λ (m : _). F m base) (stmt_mark_is x) (mark_fits B F base (stmt_of x) h)

module _ {A : Type 0} (tells : A → ℕ → Span) (F : A → ℕ → Type 0) (base : ℕ) (m : A) (at : ℕ) (start : at ≡ (tells m base).from) where
  abbrev B : A → ℕ → ℕ
  B = begins_by tells

  abbrev Fits : statement.Stmt A → Type 0
  Fits s = FitsStmt B F base s

  there : (P : ℕ → Type 0) → P (B m base) → P at
  there P x = subst P (sym start) x

  pub local_fits : (f : Bool) (u : tree.TypeName A) (w : tree.Word A) (e : tree.Exp A) → Fits (statement.local m f u w e) → FitsExp B F at e
  unfolding FitsStmt FitsElse FitsStmts
  local_fits f u w e h = there (λ k. FitsExp B F k e) h.3

  pub eval_fits : (e : tree.Exp A) → Fits (statement.eval m e) → FitsExp B F at e
  unfolding FitsStmt FitsElse FitsStmts
  eval_fits e h = there (λ k. FitsExp B F k e) h.1

  pub branch_fits : (e : tree.Exp A) (x y : Stmt A) (other : statement.Else A) → x ≡ y → Fits (statement.branch m e (stmt_of y) other) → FitsExp B F at e × FitsStmt B F at (stmt_of x) × FitsElse B F at other
  unfolding FitsStmt FitsElse FitsStmts
  branch_fits e x y other same h = (
    there (λ k. FitsExp B F k e) h.1,
    there (λ k. FitsStmt B F k (stmt_of x)) (subst (λ (z : Stmt A). FitsStmt B F (B m base) (stmt_of z)) (sym same) h.2),
    there (λ k. FitsElse B F k other) h.3,
  )

  pub loop_fits : (e : tree.Exp A) (x y : Stmt A) → x ≡ y → Fits (statement.loop m e (stmt_of y)) → FitsExp B F at e × FitsStmt B F at (stmt_of x)
  unfolding FitsStmt FitsElse FitsStmts
  loop_fits e x y same h = (there (λ k. FitsExp B F k e) h.1, there (λ k. FitsStmt B F k (stmt_of x)) (subst (λ (z : Stmt A). FitsStmt B F (B m base) (stmt_of z)) (sym same) h.2))

  pub return_fits : (e : Option (tree.Exp A)) → Fits (statement.«return» m e) → FitsMaybe B F at e
  unfolding FitsStmt FitsElse FitsStmts
  return_fits e h = there (λ k. FitsMaybe B F k e) h.1

  pub block_fits : (x y : List (Stmt A)) → x ≡ y → Fits (statement.block m (stmts_of y)) → FitsStmts B F at (stmts_of x)
  unfolding FitsStmt FitsElse FitsStmts
  block_fits x y same h = there (λ k. FitsStmts B F k (stmts_of x)) (subst (λ (z : List (Stmt A)). FitsStmts B F (B m base) (stmts_of z)) (sym same) h.1)

  pub sync_fits : (e : tree.Exp A) (x y : List (Stmt A)) → x ≡ y → Fits (statement.sync m e (stmts_of y)) → FitsExp B F at e × FitsStmts B F at (stmts_of x)
  unfolding FitsStmt FitsElse FitsStmts
  sync_fits e x y same h = (there (λ k. FitsExp B F k e) h.1, there (λ k. FitsStmts B F k (stmts_of x)) (subst (λ (z : List (Stmt A)). FitsStmts B F (B m base) (stmts_of z)) (sym same) h.2))

  -- ---- what is gathered

  module _ (means : ℕ → Meaning) (old now : Notes A) where
    shown : (f : ℕ → Notes A) → now ≡ both old (f at) → now ≡ both old (f (B m base))
    shown f h = h ∙ ap (λ (k : ℕ). both old (f k)) start

    abbrev pub Gives : statement.Stmt A → Type 0
    Gives s = now ≡ both old (stmt_notes tells means base s)

    pub local_gives : (f : Bool) (u : tree.TypeName A) (w : tree.Word A) (e : tree.Exp A) → now ≡ both old (record { writes = exp_locals tells means at e; begins = (record { base = at; of = e }) ∷ [] }) → Gives (statement.local m f u w e)
    unfolding stmt_notes else_notes stmts_notes
    local_gives f u w e h = shown (λ k. record { writes = exp_locals tells means k e; begins = (record { base = k; of = e }) ∷ [] }) h

    pub eval_gives : (e : tree.Exp A) → now ≡ both old (wrote (exp_locals tells means at e)) → Gives (statement.eval m e)
    unfolding stmt_notes else_notes stmts_notes
    eval_gives e h = shown (λ k. wrote (exp_locals tells means k e)) h

    pub return_gives : (v : Option (tree.Exp A)) → now ≡ both old (wrote (maybe_locals tells means at v)) → Gives (statement.«return» m v)
    unfolding stmt_notes else_notes stmts_notes
    return_gives v h = shown (λ k. wrote (maybe_locals tells means k v)) h

    pub block_gives : (x y : List (Stmt A)) → x ≡ y → now ≡ both old (stmts_notes tells means at (stmts_of x)) → Gives (statement.block m (stmts_of y))
    unfolding stmt_notes else_notes stmts_notes
    block_gives x y same h = shown (λ k. stmts_notes tells means k (stmts_of y)) (h ∙ ap (λ (z : List (Stmt A)). both old (stmts_notes tells means at (stmts_of z))) same)

    pub sync_gives : (e : tree.Exp A) (x y : List (Stmt A)) → x ≡ y → now ≡ both old (both (wrote (exp_locals tells means at e)) (stmts_notes tells means at (stmts_of x))) → Gives (statement.sync m e (stmts_of y))
    unfolding stmt_notes else_notes stmts_notes
    sync_gives e x y same h =
        shown (λ k. both (wrote (exp_locals tells means k e)) (stmts_notes tells means k (stmts_of y))) (h ∙ ap (λ (z : List (Stmt A)). both old (both (wrote (exp_locals tells means at e)) (stmts_notes tells means at (stmts_of z)))) same)

    pub empty_gives : now ≡ old → Gives (statement.empty m)
    unfolding stmt_notes else_notes stmts_notes
    empty_gives h = h ∙ sym (both_none old)

    -- ---- where a statement is left

    abbrev pub Reaches : statement.Stmt A → Last A → Type 0
    Reaches s l = HeadGathered tells F means base s (reached.To l) old now

    pub branch_reaches : (e : tree.Exp A) (x y : Stmt A) (other : statement.Else A) (l : Last A) → x ≡ y → BranchGathered tells F means at e (stmt_of x) other l old now → Reaches (statement.branch m e (stmt_of y) other) l
    unfolding stmt_notes else_notes stmts_notes
    branch_reaches e x y other l same b =
        let q = subst (λ (k : ℕ). BranchGathered tells F means k e (stmt_of y) other l old now) start (subst (λ (z : Stmt A). BranchGathered tells F means at e (stmt_of z) other l old now) same b) in
        (q.0, record { fits = q.1.fits; notes = q.1.notes })

    pub loop_reaches : (e : tree.Exp A) (l : Last A) (y : Stmt A) → l.of.now ≡ y → l.at ≡ at → FitsStmt B F at (stmt_of y) → now ≡ both old (wrote (exp_locals tells means at e)) → Reaches (statement.loop m e (stmt_of y)) l
    unfolding stmt_notes else_notes stmts_notes
    loop_reaches e l y same at_is fits h = (
      ap (λ (z : Stmt A). stmt_of z) same,
      record {
        fits = subst (λ (k : ℕ). FitsStmt B F k (stmt_of l.of.now)) (sym at_is) (subst (λ (z : Stmt A). FitsStmt B F at (stmt_of z)) (sym same) fits);
        notes = (λ i. both (h i) (stmt_notes tells means (at_is i) (stmt_of (same i)))) ∙ both_assoc old (wrote (exp_locals tells means at e)) (stmt_notes tells means at (stmt_of y))
            ∙ ap (λ (k : ℕ). both old (both (wrote (exp_locals tells means k e)) (stmt_notes tells means k (stmt_of y)))) start;
      },
    )

-- ---- a condition

module _ {A : Type 0} (tells : A → ℕ → Span) (F : A → ℕ → Type 0) (means : ℕ → Meaning) (at : ℕ) (e : tree.Exp A) (x : statement.Stmt A) (old one : Notes A) (test : one ≡ both old (wrote (exp_locals tells means at e))) where
  abbrev pub LeavesOf : statement.Else A → (now : Notes A) → statement.Stmt A → Type 0
  LeavesOf other now y =
      IsLastOf tells y x other × Leaves tells F means (both old (both (wrote (exp_locals tells means at e)) (both (stmt_notes tells means at x) (else_notes tells means at other)))) now at y

  pub yes_left : FitsStmt (begins_by tells) F at x → LeavesOf statement.no_else one x
  unfolding stmt_notes else_notes stmts_notes
  yes_left fits = (
    refl,
    record {
      fits = fits;
      notes = ap (λ (n : Notes A). both n (stmt_notes tells means at x)) test ∙ both_assoc old (wrote (exp_locals tells means at e)) (stmt_notes tells means at x)
          ∙ ap (λ (n : Notes A). both old (both (wrote (exp_locals tells means at e)) n)) (sym (both_none (stmt_notes tells means at x)));
    },
  )

  pub no_left : (z : statement.Stmt A) (two : Notes A) → FitsElse (begins_by tells) F at (statement.otherwise z) → two ≡ both one (stmt_notes tells means at x) → LeavesOf (statement.otherwise z) two z
  unfolding stmt_notes else_notes stmts_notes FitsStmt FitsElse FitsStmts
  no_left z two fits h = (
    refl,
    record {
      fits = fits;
      notes = ap (λ (n : Notes A). both n (stmt_notes tells means at z)) (then_more old one two (wrote (exp_locals tells means at e)) (stmt_notes tells means at x) test h)
          ∙ both_assoc old (both (wrote (exp_locals tells means at e)) (stmt_notes tells means at x)) (stmt_notes tells means at z)
          ∙ ap (λ (n : Notes A). both old n) (both_assoc (wrote (exp_locals tells means at e)) (stmt_notes tells means at x) (stmt_notes tells means at z));
    },
  )

-- ---- lists

module _ {A : Type 0} (tells : A → ℕ → Span) (F : A → ℕ → Type 0) (means : ℕ → Meaning) (at : ℕ) (body : List (Stmt A)) where
  -- what is left makes the whole
  pub record Going (old now : Notes A) (i : ℕ) : Type 0 where
    pub fits : FitsStmts (begins_by tells) F at (stmts_of (drop i body))
    pub notes : both now (stmts_notes tells means at (stmts_of (drop i body))) ≡ both old (stmts_notes tells means at (stmts_of body))

  over : (i : ℕ) (x : Stmt A) → i < length body → x ≡ get_or body i x → (P : statement.Stmts A → Type 0) → P (stmts_of (drop i body)) → P (statement.more (stmt_of x) (stmts_of (drop (i + 1) body)))
  over i x lt is P h = subst (λ (l : List (Stmt A)). P (stmts_of l)) (left_is body i x lt is) h

  pub item_fits : (i : ℕ) (x : Stmt A) → i < length body → x ≡ get_or body i x → FitsStmts (begins_by tells) F at (stmts_of (drop i body)) → FitsStmt (begins_by tells) F at (stmt_of x) × FitsStmts (begins_by tells) F at (stmts_of (drop (i + 1) body))
  unfolding FitsStmt FitsElse FitsStmts
  item_fits i x lt is h = over i x lt is (λ s. FitsStmts (begins_by tells) F at s) h

  pub going_more : (old now new : Notes A) (i : ℕ) (x : Stmt A) → i < length body → x ≡ get_or body i x → Going old now i → new ≡ both now (stmt_notes tells means at (stmt_of x)) → Going old new (i + 1)
  unfolding stmt_notes else_notes stmts_notes
  going_more old now new i x lt is h p = record {
    fits = (item_fits i x lt is h.fits).1;
    notes = ap (λ (n : Notes A). both n (stmts_notes tells means at (stmts_of (drop (i + 1) body)))) p
        ∙ both_assoc now (stmt_notes tells means at (stmt_of x)) (stmts_notes tells means at (stmts_of (drop (i + 1) body)))
        ∙ over i x lt is (λ s. both now (stmts_notes tells means at s) ≡ both old (stmts_notes tells means at (stmts_of body))) h.notes;
  }

  pub going_done : (old now : Notes A) (i : ℕ) → length body ≤ i → Going old now i → now ≡ both old (stmts_notes tells means at (stmts_of body))
  unfolding stmt_notes else_notes stmts_notes
  going_done old now i past h =
      sym (both_none now) ∙ ap (λ (l : List (Stmt A)). both now (stmts_notes tells means at (stmts_of l))) (sym (drop_all i body past)) ∙ h.notes
