-- Pieces are put behind one another.
use Rattle.std.proofs.Common.{◌≡◌, ℕ, zero, suc, ◌+◌, Bool, true, false, cond, subst, List, [], ◌∷◌, ◌++◌, refl, ap, ◌∙◌, append_assoc, arith}
use Rattle.std.specs.Prelude.{Result, Ok, Err, OnOk}
use Rattle.jr_table.specs.Decls.{MemberKey}
use Rattle.jr_code.specs.RunKeys.{RunKeys}
use Rattle.jr_cover.specs.Ways as way
use Rattle.jr_cover.specs.Ways.{Way}
use Rattle.jr_cover.specs.Sites as sites
use Rattle.jr_cover.specs.Sites.{Site}
use Rattle.jr_expr_sites.specs.declared.step.Step as raw
use Rattle.jr_expr_sites.specs.Steps.{Step, steps_of, rows}
use Rattle.jr_expr_sites.specs.Steps as step
use Rattle.jr_expr_sites.specs.StepView.{step_of, steps_in}
use Rattle.jr_expr_sites.specs.KnownFacts.{Given, Others}
use Rattle.jr_expr_sites.specs.Routes.{Route, Steps, Walked, seq, is_lazy}
use Rattle.jr_ast.specs.declared.operators.BinOp.{BinOp}
use Rattle.jr_ast.specs.declared.operators.BinOp.TheVariants as op

pub on_ok_then : {X E P Q : Type 0} (r : Result X E) → (P → Q) → OnOk r P → OnOk r Q
on_ok_then (Ok x) to h = to h
on_ok_then (Err e) to h = h

abbrev pub Seen : Type 0
Seen = List (Step (Site RunKeys))

pub steps_append : (k : MemberKey) (xs ys : Steps) → steps_in k (xs ++ ys) ≡ steps_in k xs ++ steps_in k ys
steps_append k [] ys = refl
steps_append k (x ∷ xs) ys = ap (λ (l : Seen). step_of k x ∷ l) (steps_append k xs ys)

pub one_more : (k : MemberKey) (old new : Steps) (x : raw.Step) → new ≡ old ++ x ∷ [] → steps_in k new ≡ steps_in k old ++ step_of k x ∷ []
one_more k old new x e = ap (steps_in k) e ∙ steps_append k old (x ∷ [])

-- (o ++ a) ++ b, and then c
pub three : (o a b c : Seen) → ((o ++ a) ++ b) ++ c ≡ o ++ (a ++ (b ++ c))
three o a b c = append_assoc (o ++ a) b c ∙ append_assoc o a (b ++ c)

module _ (g : Given) where
  abbrev seen : Steps → Seen
  seen l = steps_in g.member l

  -- where a step that ends two pieces is put behind them
  end_goes : (end : Step (Site RunKeys)) (r s : Route) (old one two new : Steps) → Walked g r old one → Walked g s one two → seen new ≡ seen two ++ end ∷ [] → (o : Others) → seen new ≡ seen old ++ (steps_of (r g o) ++ (steps_of (s g o) ++ end ∷ []))
  end_goes end r s old one two new a b c o =
      c ∙ ap (λ (l : Seen). l ++ end ∷ []) (b o ∙ ap (λ (l : Seen). l ++ steps_of (s g o)) (a o)) ∙ three (seen old) (steps_of (r g o)) (steps_of (s g o)) (end ∷ [])

  pub row_goes : (r s : Route) (old one two new : Steps) → Walked g r old one → Walked g s one two → seen new ≡ seen two ++ step.row ∷ [] → Walked g (seq r s) old new
  row_goes r s old one two new a b c = end_goes step.row r s old one two new a b c

  pub fork_goes : (r s : Route) (old one two new : Steps) → Walked g r old one → Walked g s one two → seen new ≡ seen two ++ step.fork ∷ [] → Walked g (λ g o. way.fork (r g o) (s g o)) old new
  fork_goes r s old one two new a b c = end_goes step.fork r s old one two new a b c

  -- the same way, said otherwise
  pub walked_as : (r s : Route) (old new : Steps) → ((o : Others) → r g o ≡ s g o) → Walked g r old new → Walked g s old new
  walked_as r s old new same a o = a o ∙ ap (λ (w : Way (Site RunKeys)). seen old ++ steps_of w) (same o)

-- ---- rows of ends

pub rows_more : (n : ℕ) → rows {S = Site RunKeys} (n + 1) ≡ rows n ++ step.row ∷ []
rows_more zero = refl
rows_more (suc n) = ap (λ (k : ℕ). rows {S = Site RunKeys} k) (further n) ∙ ap (λ (l : Seen). step.row ∷ l) (rows_more n)
  where
    further : (k : ℕ) → suc k + 1 ≡ suc (k + 1)
    further k = omega arith

pub rows_front : (n : ℕ) → rows {S = Site RunKeys} (n + 1) ≡ step.row ∷ rows n
rows_front n = ap (λ (k : ℕ). rows {S = Site RunKeys} k) (add_one n)
  where
    add_one : (k : ℕ) → k + 1 ≡ suc k
    add_one k = omega arith

-- ---- binary operators

apart : {R : Type 0} → false ≡ true → R
apart e = absurd (subst (λ (b : Bool). cond b ⊥ (Unit {0})) e tt)

apart_back : {R : Type 0} → true ≡ false → R
apart_back e = absurd (subst (λ (b : Bool). cond b (Unit {0}) ⊥) e tt)

pub lazy_is : (o : BinOp) (l r c : Way (Site RunKeys)) → is_lazy o ≡ true → way.row l (way.fork r way.pass) ≡ sites.operands o l r c
lazy_is op.Or l r c h = refl
lazy_is op.And l r c h = refl
lazy_is op.Eq l r c h = apart h
lazy_is op.Ne l r c h = apart h
lazy_is op.Lt l r c h = apart h
lazy_is op.Gt l r c h = apart h
lazy_is op.Le l r c h = apart h
lazy_is op.Ge l r c h = apart h
lazy_is op.Add l r c h = apart h
lazy_is op.Sub l r c h = apart h
lazy_is op.Mul l r c h = apart h
lazy_is op.Div l r c h = apart h
lazy_is op.Rem l r c h = apart h

pub eager_is : (o : BinOp) (l r c : Way (Site RunKeys)) → is_lazy o ≡ false → way.row l (way.row r c) ≡ sites.operands o l r c
eager_is op.Or l r c h = apart_back h
eager_is op.And l r c h = apart_back h
eager_is op.Eq l r c h = refl
eager_is op.Ne l r c h = refl
eager_is op.Lt l r c h = refl
eager_is op.Gt l r c h = refl
eager_is op.Le l r c h = refl
eager_is op.Ge l r c h = refl
eager_is op.Add l r c h = refl
eager_is op.Sub l r c h = refl
eager_is op.Mul l r c h = refl
eager_is op.Div l r c h = refl
eager_is op.Rem l r c h = refl
