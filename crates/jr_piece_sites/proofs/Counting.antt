-- How many sites steps have.
use Rattle.std.proofs.Common.{◌≡◌, ℕ, zero, suc, pred, ◌+◌, ◌-◌, false, List, [], ◌∷◌, ◌++◌, length, take, refl, sym, ap, ◌∙◌, arith}
use Rattle.std.proofs.lemmas.List.{length-append}
use Rattle.jr_ast.specs.declared.exprs.Expr.{Expr}
use Rattle.jr_ast.specs.declared.stmts.Stmt.{Stmt}
use Rattle.jr_ast.specs.View.{expr_of, exprs_of, stmt_of, stmts_of}
use Rattle.jr_code.specs.RunKeys.{RunKeys}
use Rattle.jr_cover.specs.Ways.{Way, size}
use Rattle.jr_cover.specs.Sites.{Known, Site, exp_way, exps_way, stmt_way, stmts_way}
use Rattle.jr_table.specs.Context.{locals_in, locals_in_row}
use Rattle.jr_bind_expr.specs.Fits.{FitsExps, FitsStmts}
use Rattle.jr_cfg.specs.Numbering.{NumbersStmts}
use Rattle.jr_piece_sites.specs.Pieces.{locals_up_to}
use Rattle.jr_cover.specs.Spots.{Spot, onto, spot_exp, spot_exps, spot_stmt, spot_stmts}
use Rattle.jr_expr_sites.specs.Steps.{Step, steps_of, sites_in}
use Rattle.jr_expr_sites.specs.StepView.{steps_in}
use Rattle.jr_expr_sites.specs.KnownFacts.{Given, Others}
use Rattle.jr_expr_sites.specs.Routes.{Route, Steps, Walked}
use Rattle.jr_cfg.specs.StatementRoutes.{WalkedSo}
use Rattle.jr_cfg.proofs.StepLaws.{sites_append, steps_size}
use Rattle.jr_piece_sites.specs.Fronts.{one_if, behind_first, exps_front, stmts_front}
use Rattle.jr_piece_sites.specs.Growth.{count, Grows, GrowsSo}

module _ (g : Given) where
  more_sites : (old new : Steps) (l : List (Step (Site RunKeys))) → steps_in g.member new ≡ steps_in g.member old ++ l → count g new ≡ count g old + length (sites_in l)
  more_sites old new l e = ap (λ (s : List (Step (Site RunKeys))). length (sites_in s)) e ∙ ap length (sites_append (steps_in g.member old) l) ∙ length-append (sites_in (steps_in g.member old)) (sites_in l)

  pub way_grows : (old new : Steps) (w : Way (Site RunKeys)) → steps_in g.member new ≡ steps_in g.member old ++ steps_of w → count g new ≡ count g old + size w
  way_grows old new w e = more_sites old new (steps_of w) e ∙ ap (λ (n : ℕ). count g old + n) (steps_size w)

  pub walk_grows : (r : Route) (old new : Steps) → Walked g r old new → Grows g (λ o. size (r g o)) old new
  walk_grows r old new h o = way_grows old new (r g o) (h o)

  pub walk_grows_so : (P : Others → Type 0) (r : Route) (old new : Steps) → WalkedSo g P r old new → GrowsSo g P (λ o. size (r g o)) old new
  walk_grows_so P r old new h o is = way_grows old new (r g o) (h o is)

  pub stays : (old : Steps) → Grows g (λ o. 0) old old
  stays old o = omega arith

  -- what was put, where nothing stood before
  pub only_these : (old new : Steps) {n : ℕ} → old ≡ [] → count g new ≡ count g old + n → count g new ≡ n
  only_these old new none h = let a : count g old ≡ 0 = ap (count g) none in omega (arith, a, h)

  pub grows_as : (n m : Others → ℕ) (old new : Steps) → ((o : Others) → n o ≡ m o) → Grows g n old new → Grows g m old new
  grows_as n m old new same h o = h o ∙ ap (λ (k : ℕ). count g old + k) (same o)

  pub grows_both : (n m : Others → ℕ) (old mid new : Steps) → Grows g n old mid → Grows g m mid new → Grows g (λ o. n o + m o) old new
  grows_both n m old mid new a b o = let x = a o in let y = b o in omega (arith, x, y)

-- ---- lists, of which the first so many are walked

module _ {A : Type 0} (X : Known RunKeys Spot) (begins ends : A → ℕ → ℕ) (at : ℕ) (p : List ℕ) where
  pub first_exps : (xs : List (Expr A)) (k n : ℕ) → size (exps_way X (spot_exps begins ends (exprs_of (take n xs)) at p k)) ≡ exps_front X (spot_exps begins ends (exprs_of xs) at p k) n
  unfolding spot_exps
  first_exps [] k zero = refl
  first_exps [] k (suc n) = refl
  first_exps (x ∷ xs) k zero = refl
  first_exps (x ∷ xs) k (suc n) = ap (λ (m : ℕ). size (exp_way X (spot_exp begins ends (expr_of x) at (onto p k))) + m) (first_exps xs (suc k) n)

  pub first_stmts : (xs : List (Stmt A)) (k n : ℕ) → size (stmts_way X (spot_stmts begins ends (stmts_of (take n xs)) at p k)) ≡ stmts_front X (spot_stmts begins ends (stmts_of xs) at p k) n
  unfolding spot_stmts
  first_stmts [] k zero = refl
  first_stmts [] k (suc n) = refl
  first_stmts (x ∷ xs) k zero = refl
  first_stmts (x ∷ xs) k (suc n) = ap (λ (m : ℕ). size (stmt_way X (spot_stmt begins ends (stmt_of x) at (onto p k))) + m) (first_stmts xs (suc k) n)

module _ {A : Type 0} where
  pub first_locals : (xs : List (Stmt A)) (n : ℕ) → locals_in_row (stmts_of (take n xs)) ≡ locals_up_to (stmts_of xs) n
  unfolding locals_in_row
  first_locals [] zero = refl
  first_locals [] (suc n) = refl
  first_locals (x ∷ xs) zero = refl
  first_locals (x ∷ xs) (suc n) = ap (λ (m : ℕ). locals_in (stmt_of x) + m) (first_locals xs n)

module _ {A : Type 0} (begins ends : A → ℕ → ℕ) (number : Spot → ℕ) (at : ℕ) (p : List ℕ) where
  pub first_numbers : (xs : List (Stmt A)) (n k c : ℕ) → NumbersStmts begins ends number n (stmts_of xs) at p k → NumbersStmts begins ends number n (stmts_of (take c xs)) at p k
  unfolding NumbersStmts
  first_numbers [] n k zero h = tt
  first_numbers [] n k (suc c) h = tt
  first_numbers (x ∷ xs) n k zero h = tt
  first_numbers (x ∷ xs) n k (suc c) h = (h.0, first_numbers xs (n + locals_in (stmt_of x)) (suc k) c h.1)

module _ {A : Type 0} (B : A → ℕ → ℕ) (F : A → ℕ → Type 0) (at : ℕ) where
  pub first_exps_fit : (xs : List (Expr A)) (n : ℕ) → FitsExps B F at (exprs_of xs) → FitsExps B F at (exprs_of (take n xs))
  unfolding FitsExps
  first_exps_fit [] zero h = tt
  first_exps_fit [] (suc n) h = tt
  first_exps_fit (x ∷ xs) zero h = tt
  first_exps_fit (x ∷ xs) (suc n) h = (h.0, first_exps_fit xs n h.1)

  pub first_stmts_fit : (xs : List (Stmt A)) (n : ℕ) → FitsStmts B F at (stmts_of xs) → FitsStmts B F at (stmts_of (take n xs))
  unfolding FitsStmts
  first_stmts_fit [] zero h = tt
  first_stmts_fit [] (suc n) h = tt
  first_stmts_fit (x ∷ xs) zero h = tt
  first_stmts_fit (x ∷ xs) (suc n) h = (h.0, first_stmts_fit xs n h.1)

-- ---- numbers of parts

pub pred_is : (n : ℕ) → n - 1 ≡ pred n
pred_is zero = refl
pred_is (suc n) = omega arith

pub pred_pred_is : (n : ℕ) → n - 2 ≡ pred (pred n)
pred_pred_is zero = refl
pred_pred_is (suc zero) = refl
pred_pred_is (suc (suc n)) = omega arith

pub none_first : (i n : ℕ) → i ≡ 0 → 0 ≡ behind_first i n
none_first i n e = ap (λ (j : ℕ). behind_first j n) (sym e)

pub all_behind : (i n : ℕ) → (i ≡ 0 → ⊥) → n ≡ behind_first i n
all_behind zero n h = absurd (h refl)
all_behind (suc i) n h = refl

-- where no object is made
pub none_made : (n m : ℕ) → n + m ≡ n + (one_if false + m)
none_made n m = omega arith

pub one_more : (n : ℕ) → 1 + n ≡ suc n
one_more n = omega arith
