-- What is known of casts and of declared locals by their spans and by their spots, in all statements of
-- a list: if each way to a cast has the cast's path, and each declared word its number.
use Rattle.std.proofs.Common.{◌≡◌, ℕ, zero, suc, ◌+◌, List, [], ◌∷◌, ◌++◌, length, Option, Some, None, refl, sym, ap, ◌∙◌, append_assoc, append-nil, length-append, arith}
use Rattle.std.specs.Prelude.{slice_get}
use Rattle.jr_text.specs.declared.spans.Span.{Span}
use Rattle.jr_ast.specs.Tree as tree
use Rattle.jr_ast.specs.StatementTree as statement
use Rattle.jr_runs.specs.Keys.{Keys}
use Rattle.jr_table.specs.Context.{locals_in, locals_in_else, locals_in_row}
use Rattle.jr_cover.specs.Sites.{Known}
use Rattle.jr_cover.specs.Spots.{Spot, onto, spot}
use Rattle.jr_cfg.specs.Numbering.{NumbersStmt, NumbersElse, NumbersStmts}
use Rattle.jr_pieces.specs.Ways.{ExpWay, here, in_front, in_target, in_argument, in_super_argument, in_created, in_paren, in_cast, in_unary, in_bump, in_left, in_right, in_assigned, in_value, in_changed, in_change, ExpsWay, first_argument, later_argument}
use Rattle.jr_pieces.specs.Ways.{StmtWay, in_init, in_eval, in_condition, in_then, in_else, in_turning, in_body, in_returned, in_block, in_lock, in_locked, ListWay, first, later}
use Rattle.jr_pieces.specs.Finding.{exp_path, exps_path, stmt_path, list_path}
use Rattle.jr_local_moves.specs.SpotWays.{IsSameCast, ExpCasts, RowCasts, MaybeCasts, StmtCasts, ElseCasts, ListCasts}
use Rattle.jr_local.specs.BodyFacts.{words_of, words_behind, words_in}

-- ---- rows of words

get_left : {Z : Type 0} (xs ys : List Z) (i : ℕ) (z : Z) → slice_get xs i ≡ Some z → slice_get (xs ++ ys) i ≡ Some z
get_left {Z = Z} [] ys i z e = absurd (apart e)
  where
    apart : ◌≡◌ {A = Option Z} None (Some z) → ⊥
    apart h = cc
get_left (x ∷ xs) ys zero z e = e
get_left (x ∷ xs) ys (suc i) z e = get_left xs ys i z e

get_right : {Z : Type 0} (xs ys : List Z) (i j : ℕ) (z : Z) → j ≡ length xs + i → slice_get ys i ≡ Some z → slice_get (xs ++ ys) j ≡ Some z
get_right [] ys i j z e h = ap (slice_get ys) (let same : j ≡ i = omega (arith, e) in same) ∙ h
get_right (x ∷ xs) ys i zero z e h = absurd (omega (arith, e))
get_right (x ∷ xs) ys i (suc j) z e h = get_right xs ys i j z (omega (arith, e)) h

mutual
  unfolding locals_in locals_in_else locals_in_row

  words_long : (s : statement.Stmt Span) → length (words_of s) ≡ locals_in s
  words_long (statement.local m f t w e) = refl
  words_long (statement.eval m e) = refl
  words_long (statement.branch m c s o) = let a = length-append (words_of s) (words_behind o) in let b = words_long s in let d = behind_long o in omega (arith, a, b, d)
  words_long (statement.loop m c s) = words_long s
  words_long (statement.return m e) = refl
  words_long (statement.block m b) = list_long b
  words_long (statement.sync m e b) = list_long b
  words_long (statement.empty m) = refl

  behind_long : (o : statement.Else Span) → length (words_behind o) ≡ locals_in_else o
  behind_long statement.no_else = refl
  behind_long (statement.otherwise s) = words_long s

  list_long : (b : statement.Stmts Span) → length (words_in b) ≡ locals_in_row b
  list_long statement.end = refl
  list_long (statement.more s ss) = let a = length-append (words_of s) (words_in ss) in let b = words_long s in let d = list_long ss in omega (arith, a, b, d)

-- ---- a list in all of which ways have their paths

module _ {K : Keys} (B E : Span → ℕ → ℕ) (X : Known K Span) (Y : Known K Spot) (whole : statement.Stmts Span) (front : ℕ) where
  abbrev ExpIn : tree.Exp Span → List ℕ → Type 0
  ExpIn e p = (f : tree.Exp Span) (w : ExpWay f e) → (d : ListWay f whole) × (list_path front d ≡ p ++ exp_path w)

  abbrev ExpsIn : tree.Exps Span → List ℕ → ℕ → Type 0
  ExpsIn es p n = (f : tree.Exp Span) (w : ExpsWay f es) → (d : ListWay f whole) × (list_path front d ≡ p ++ exps_path n w)

  abbrev StmtIn : statement.Stmt Span → List ℕ → Type 0
  StmtIn s p = (f : tree.Exp Span) (w : StmtWay f s) → (d : ListWay f whole) × (list_path front d ≡ p ++ stmt_path w)

  abbrev ListIn : statement.Stmts Span → List ℕ → ℕ → Type 0
  ListIn b p n = (f : tree.Exp Span) (w : ListWay f b) → (d : ListWay f whole) × (list_path front d ≡ p ++ list_path n w)

  -- a step further
  step : (p : List ℕ) (i : ℕ) (q r : List ℕ) → r ≡ p ++ i ∷ q → r ≡ onto p i ++ q
  step p i q r e = e ∙ sym (append_assoc p (i ∷ []) q)

  abbrev CastsKnown : Type 0
  CastsKnown = (m : Span) (t : tree.TypeName Span) (e : tree.Exp Span) (d : ListWay (tree.cast m t e) whole) (base : ℕ) → IsSameCast B E X Y m base (list_path front d)

  module _ (casts : CastsKnown) where
    cast_known : (m : Span) (t : tree.TypeName Span) (e : tree.Exp Span) (base : ℕ) (p : List ℕ) → ExpIn (tree.cast m t e) p → IsSameCast B E X Y m base p
    cast_known m t e base p leads =
        let r = leads (tree.cast m t e) here in
        let is : list_path front r.0 ≡ p = r.1 ∙ append-nil p in
        casts m t e r.0 base ∙ ap (λ (q : List ℕ). Y.facts.is_checked (spot B E m base q)) is

    mutual
      pub exp_casts : (e : tree.Exp Span) (base : ℕ) (p : List ℕ) → ExpIn e p → ExpCasts B E X Y e base p
      exp_casts (tree.number m v) base p l = tt
      exp_casts (tree.truth m v) base p l = tt
      exp_casts (tree.null m) base p l = tt
      exp_casts (tree.string m t) base p l = tt
      exp_casts (tree.name m w) base p l = tt
      exp_casts (tree.field m e w) base p l = exp_casts e (B m base) (onto p 0) (λ f d. let r = l f (in_front m e w d) in (r.0, step p 0 (exp_path d) (list_path front r.0) r.1))
      exp_casts (tree.super_field m w) base p l = tt
      exp_casts (tree.this m) base p l = tt
      exp_casts (tree.class_literal m t) base p l = tt
      exp_casts (tree.call m tree.no_target w es) base p l = row_casts es (B m base) p 1 (λ f d. l f (in_argument m tree.no_target w es d))
      exp_casts (tree.call m (tree.on e) w es) base p l = (
        exp_casts e (B m base) (onto p 0) (λ f d. let r = l f (in_target m e w es d) in (r.0, step p 0 (exp_path d) (list_path front r.0) r.1)),
        row_casts es (B m base) p 2 (λ f d. l f (in_argument m (tree.on e) w es d)),
      )
      exp_casts (tree.super_call m w es) base p l = row_casts es (B m base) p 1 (λ f d. l f (in_super_argument m w es d))
      exp_casts (tree.create m t es) base p l = row_casts es (B m base) p 1 (λ f d. l f (in_created m t es d))
      exp_casts (tree.paren m e) base p l = exp_casts e (B m base) (onto p 0) (λ f d. let r = l f (in_paren m e d) in (r.0, step p 0 (exp_path d) (list_path front r.0) r.1))
      exp_casts (tree.cast m t e) base p l = (
        cast_known m t e base p l,
        exp_casts e (B m base) (onto p 1) (λ f d. let r = l f (in_cast m t e d) in (r.0, step p 1 (exp_path d) (list_path front r.0) r.1)),
      )
      exp_casts (tree.unary m o e) base p l = exp_casts e (B m base) (onto p 0) (λ f d. let r = l f (in_unary m o e d) in (r.0, step p 0 (exp_path d) (list_path front r.0) r.1))
      exp_casts (tree.bump m o e) base p l = exp_casts e (B m base) (onto p 0) (λ f d. let r = l f (in_bump m o e d) in (r.0, step p 0 (exp_path d) (list_path front r.0) r.1))
      exp_casts (tree.binary m o x y) base p l = (
        exp_casts x (B m base) (onto p 0) (λ f d. let r = l f (in_left m o x y d) in (r.0, step p 0 (exp_path d) (list_path front r.0) r.1)),
        exp_casts y (B m base) (onto p 1) (λ f d. let r = l f (in_right m o x y d) in (r.0, step p 1 (exp_path d) (list_path front r.0) r.1)),
      )
      exp_casts (tree.assign m x y) base p l = (
        exp_casts x (B m base) (onto p 0) (λ f d. let r = l f (in_assigned m x y d) in (r.0, step p 0 (exp_path d) (list_path front r.0) r.1)),
        exp_casts y (B m base) (onto p 1) (λ f d. let r = l f (in_value m x y d) in (r.0, step p 1 (exp_path d) (list_path front r.0) r.1)),
      )
      exp_casts (tree.compound m o x y) base p l = (
        exp_casts x (B m base) (onto p 0) (λ f d. let r = l f (in_changed m o x y d) in (r.0, step p 0 (exp_path d) (list_path front r.0) r.1)),
        exp_casts y (B m base) (onto p 1) (λ f d. let r = l f (in_change m o x y d) in (r.0, step p 1 (exp_path d) (list_path front r.0) r.1)),
      )

      row_casts : (es : tree.Exps Span) (base : ℕ) (p : List ℕ) (n : ℕ) → ExpsIn es p n → RowCasts B E X Y es base p n
      row_casts tree.end base p n l = tt
      row_casts (tree.more e es) base p n l = (
        exp_casts e base (onto p n) (λ f d. let r = l f (first_argument e es d) in (r.0, step p n (exp_path d) (list_path front r.0) r.1)),
        row_casts es base p (suc n) (λ f d. l f (later_argument e es d)),
      )

    -- ---- statements; number: what gives the locals their numbers on spots

    -- the words have the numbers from this one on
    abbrev NumbersFrom : ℕ → List Span → Type 0
    NumbersFrom n ws = (i : ℕ) (w : Span) → slice_get ws i ≡ Some w → X.facts.number w ≡ n + i

    numbers_left : (n : ℕ) (ws vs : List Span) → NumbersFrom n (ws ++ vs) → NumbersFrom n ws
    numbers_left n ws vs h i w e = h i w (get_left ws vs i w e)

    numbers_right : (n k : ℕ) (ws vs : List Span) → length ws ≡ k → NumbersFrom n (ws ++ vs) → NumbersFrom (n + k) vs
    numbers_right n k ws vs long h i w e = let a = h (k + i) w (get_right ws vs i (k + i) w (omega (arith, long)) e) in omega (arith, a)

    maybe_casts : (v : Option (tree.Exp Span)) (m : Span) (base : ℕ) (p : List ℕ) → StmtIn (statement.return m v) p → MaybeCasts B E X Y v (B m base) (onto p 0)
    maybe_casts None m base p l = tt
    maybe_casts (Some e) m base p l = exp_casts e (B m base) (onto p 0) (λ f d. let r = l f (in_returned m e d) in (r.0, step p 0 (exp_path d) (list_path front r.0) r.1))

    mutual
      unfolding NumbersStmt NumbersElse NumbersStmts

      stmt_casts : (n : ℕ) (s : statement.Stmt Span) (base : ℕ) (p : List ℕ) → NumbersStmt B E Y.facts.number n s base p → NumbersFrom n (words_of s) → StmtIn s p → StmtCasts B E X Y s base p
      stmt_casts n (statement.local m is_final t w e) base p k h l = (
        (let a = h 0 w.mark refl in let c : Y.facts.number (spot B E w.mark (B m base) (onto p 1)) ≡ n = k in let same : X.facts.number w.mark ≡ Y.facts.number (spot B E w.mark (B m base) (onto p 1)) = omega (arith, a, c) in same),
        exp_casts e (B m base) (onto p 2) (λ f d. let r = l f (in_init m is_final t w e d) in (r.0, step p 2 (exp_path d) (list_path front r.0) r.1)),
      )
      stmt_casts n (statement.eval m e) base p k h l = exp_casts e (B m base) (onto p 0) (λ f d. let r = l f (in_eval m e d) in (r.0, step p 0 (exp_path d) (list_path front r.0) r.1))
      stmt_casts n (statement.branch m c s o) base p k h l = (
        exp_casts c (B m base) (onto p 0) (λ f d. let r = l f (in_condition m c s o d) in (r.0, step p 0 (exp_path d) (list_path front r.0) r.1)),
        stmt_casts n s (B m base) (onto p 1) k.0 (numbers_left n (words_of s) (words_behind o) h) (λ f d. let r = l f (in_then m c s o d) in (r.0, step p 1 (stmt_path d) (list_path front r.0) r.1)),
        else_casts n m c s o base p k.1 (numbers_right n (locals_in s) (words_of s) (words_behind o) (words_long s) h) l,
      )
      stmt_casts n (statement.loop m c s) base p k h l = (
        exp_casts c (B m base) (onto p 0) (λ f d. let r = l f (in_turning m c s d) in (r.0, step p 0 (exp_path d) (list_path front r.0) r.1)),
        stmt_casts n s (B m base) (onto p 1) k h (λ f d. let r = l f (in_body m c s d) in (r.0, step p 1 (stmt_path d) (list_path front r.0) r.1)),
      )
      stmt_casts n (statement.return m v) base p k h l = maybe_casts v m base p l
      stmt_casts n (statement.block m b) base p k h l = list_casts n b (B m base) p 0 k h (λ f d. l f (in_block m b d))
      stmt_casts n (statement.sync m e b) base p k h l = (
        exp_casts e (B m base) (onto p 0) (λ f d. let r = l f (in_lock m e b d) in (r.0, step p 0 (exp_path d) (list_path front r.0) r.1)),
        list_casts n b (B m base) p 1 k h (λ f d. l f (in_locked m e b d)),
      )
      stmt_casts n (statement.empty m) base p k h l = tt

      else_casts : (n : ℕ) (m : Span) (c : tree.Exp Span) (s : statement.Stmt Span) (o : statement.Else Span) (base : ℕ) (p : List ℕ) → NumbersElse B E Y.facts.number (n + locals_in s) o (B m base) (onto p 2)
          → NumbersFrom (n + locals_in s) (words_behind o) → StmtIn (statement.branch m c s o) p → ElseCasts B E X Y o (B m base) (onto p 2)
      else_casts n m c s statement.no_else base p k h l = tt
      else_casts n m c s (statement.otherwise y) base p k h l = stmt_casts (n + locals_in s) y (B m base) (onto p 2) k h (λ f d. let r = l f (in_else m c s y d) in (r.0, step p 2 (stmt_path d) (list_path front r.0) r.1))

      pub list_casts : (n : ℕ) (b : statement.Stmts Span) (base : ℕ) (p : List ℕ) (i : ℕ) → NumbersStmts B E Y.facts.number n b base p i → NumbersFrom n (words_in b) → ListIn b p i → ListCasts B E X Y b base p i
      list_casts n statement.end base p i k h l = tt
      list_casts n (statement.more s ss) base p i k h l = (
        stmt_casts n s base (onto p i) k.0 (numbers_left n (words_of s) (words_in ss) h) (λ f d. let r = l f (first s ss d) in (r.0, step p i (stmt_path d) (list_path front r.0) r.1)),
        list_casts (n + locals_in s) ss base p (suc i) k.1 (numbers_right n (locals_in s) (words_of s) (words_in ss) (words_long s) h) (λ f d. l f (later s ss d)),
      )
