-- Walks over what stands in front of a part, one behind the other.
use Rattle.std.proofs.Common.{◌≡◌, ℕ, zero, suc, pred, ◌+◌, ◌-◌, ◌≤◌, Bool, true, false, not, refl, sym, ap, ◌∙◌, arith}
use Rattle.std.specs.Prelude.{Result, Ok, Err, IfOk}
use Rattle.jr_ast.specs.Tree as tree
use Rattle.jr_ast.specs.StatementTree as statement
use Rattle.jr_table.specs.Context.{locals_in}
use Rattle.jr_code.specs.RunKeys.{RunKeys, Place}
use Rattle.jr_cover.specs.Spots.{Spot}
use Rattle.jr_cover.specs.Ways.{size}
use Rattle.jr_cover.specs.Sites.{Known, What, at_place, unless, exp_way, stmt_way}
use Rattle.jr_expr_sites.specs.KnownFacts.{Given, Others}
use Rattle.jr_expr_sites.specs.Routes.{Route, Steps}
use Rattle.jr_cfg.specs.StatementRoutes.{Passed}
use Rattle.jr_piece_sites.specs.Fronts.{one_if, behind_first, branch_front}
use Rattle.jr_piece_sites.specs.Growth.{count, Grows, GrownTo}
use Rattle.jr_piece_sites.specs.Pieces.{locals_up_to, branch_locals}
use Rattle.jr_piece_sites.proofs.Counting.{way_grows, stays}

pub if_ok_then : {X E : Type 0} (r : Result X E) {P Q : X → Type 0} → ((x : X) → P x → Q x) → IfOk r P → IfOk r Q
if_ok_then (Ok x) to h = to x h
if_ok_then (Err e) to h = h

module _ (g : Given) where
  pub not_moved : (P : Others → Type 0) (n : ℕ) (old : Steps) → GrownTo g P (λ o. 0) n n old old
  not_moved P n old = record { number = refl; grown = λ o h. stays g old o }

  pub walked_to : (P : Others → Type 0) (n : Others → ℕ) (k : ℕ) (old new : Steps) → Grows g n old new → GrownTo g P n k k old new
  walked_to P n k old new h = record { number = refl; grown = λ o is. h o }

  pub passed_to : (P : Others → Type 0) (r : Route) (next k : ℕ) (old new : Steps) → Passed g P r next k old new → GrownTo g P (λ o. size (r g o)) next k old new
  passed_to P r next k old new p = record { number = p.number; grown = λ o is. way_grows g old new (r g o) (p.walked o is) }

  pub after_walk : (P : Others → Type 0) (n m : Others → ℕ) (next k : ℕ) (old mid new : Steps) → Grows g n old mid → GrownTo g P m next k mid new → GrownTo g P (λ o. n o + m o) next k old new
  after_walk P n m next k old mid new a b = record {
    number = b.number;
    grown = λ o is. let x = a o in let y = b.grown o is in omega (arith, x, y);
  }

  pub to_as : (P Q : Others → Type 0) (n m : Others → ℕ) (next other k : ℕ) (old new : Steps) → ((o : Others) → Q o → P o) → ((o : Others) → n o ≡ m o) → next ≡ other → GrownTo g P n next k old new → GrownTo g Q m other k old new
  to_as P Q n m next other k old new so same is h = record {
    number = h.number ∙ is;
    grown = λ o q. h.grown o (so o q) ∙ ap (λ (j : ℕ). count g old + j) (same o);
  }

-- ---- kinds of statements

module _ (X : Known RunKeys Spot) (c : tree.Exp Spot) (s : statement.Stmt Spot) where
  pub branch_more : (i : ℕ) → (i ≡ 0 → ⊥) → (i ≡ 1 → ⊥) → size (exp_way X c) + size (stmt_way X s) ≡ branch_front X c s i
  branch_more zero h k = absurd (h refl)
  branch_more (suc zero) h k = absurd (k refl)
  branch_more (suc (suc i)) h k = refl

module _ {A : Type 0} where
  pub more_locals : (s : statement.Stmt A) (n i : ℕ) → (i ≡ 0 → ⊥) → (i ≡ 1 → ⊥) → n + locals_in s ≡ n + branch_locals s i
  more_locals s n zero h k = absurd (h refl)
  more_locals s n (suc zero) h k = absurd (k refl)
  more_locals s n (suc (suc i)) h k = refl

  pub no_locals_0 : (s : statement.Stmt A) (n i : ℕ) → i ≡ 0 → n ≡ n + branch_locals s i
  no_locals_0 s n i e = let none : n ≡ n + 0 = omega arith in none ∙ ap (λ (j : ℕ). n + branch_locals s j) (sym e)

  pub no_locals_1 : (s : statement.Stmt A) (n i : ℕ) → i ≡ 1 → n ≡ n + branch_locals s i
  no_locals_1 s n i e = let none : n ≡ n + 0 = omega arith in none ∙ ap (λ (j : ℕ). n + branch_locals s j) (sym e)

  none_up_to : (ss : statement.Stmts A) → 0 ≡ locals_up_to ss 0
  none_up_to statement.end = refl
  none_up_to (statement.more s ss) = refl

  pub no_locals_first : (ss : statement.Stmts A) (n i : ℕ) → i ≡ 0 → n ≡ n + locals_up_to ss (pred i)
  no_locals_first ss n i e =
      let none : n ≡ n + 0 = omega arith in
      none ∙ ap (λ (j : ℕ). n + j) (none_up_to ss) ∙ ap (λ (j : ℕ). n + locals_up_to ss (pred j)) (sym e)

-- the test of a lock is a site, unless it isn't null
pub test_size : (b : Bool) (p : Place) (w : What RunKeys) → one_if (not b) ≡ size (unless {K = RunKeys} b (at_place p w))
test_size true p w = refl
test_size false p w = refl

pub is_zero : (i : ℕ) → (1 ≤ i → ⊥) → i ≡ 0
is_zero zero h = refl
is_zero (suc i) h = absurd (h (omega arith))

pub sync_sum : (i a b : ℕ) (m : ℕ → ℕ) (n : ℕ) → 1 ≤ i → n ≡ i - 1 → a + (b + 1 + m n) ≡ behind_first i (a + (b + (1 + m (pred i))))
sync_sum zero a b m n le is = absurd (omega (arith, le))
sync_sum (suc i) a b m n le is =
    let same : n ≡ i = omega (arith, is) in
    let sum : a + (b + 1 + m n) ≡ a + (b + (1 + m n)) = omega arith in
    sum ∙ ap (λ (j : ℕ). a + (b + (1 + m j))) same

pub pred_of : (i n : ℕ) → 1 ≤ i → n ≡ i - 1 → n ≡ pred i
pred_of zero n le is = absurd (omega (arith, le))
pred_of (suc i) n le is = omega (arith, is)
