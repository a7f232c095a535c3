-- Steps of the walk over an expression.
use Rattle.std.proofs.Common.{◌≡◌, ℕ, zero, suc, ◌+◌, ◌*◌, ◌<◌, ◌≤◌, List, [], ◌∷◌, ◌++◌, length, get_or, drop, refl, sym, ap, subst, ◌∙◌, arith}
use Rattle.std.proofs.lemmas.List.{drop_all}
use Rattle.jr_text.specs.declared.spans.Span.{Span}
use Rattle.jr_ast.specs.Tree as tree
use Rattle.jr_ast.specs.declared.exprs.Expr.{Expr}
use Rattle.jr_ast.specs.Marks.{exp_mark}
use Rattle.jr_ast.specs.View.{expr_of, exprs_of}
use Rattle.jr_ast.proofs.Rows.{expr_mark_is}
use Rattle.jr_ast.proofs.Sizes.{exp_size, exps_size, target_size}
use Rattle.jr_table.specs.Binding.{value, left}
use Rattle.jr_rewrite.specs.Respellings.{Choice, front_of}
use Rattle.jr_rewrite.specs.Spots.{level, operand_asks}
use Rattle.jr_bind_expr.proofs.Steps.{left_is}
use Rattle.jr_new_bodies.specs.declared.here.Here as raw
use Rattle.jr_new_bodies.specs.declared.outputs.Start as raw_start
use Rattle.jr_new_bodies.specs.Effects.{Effect, both, effect_of}
use Rattle.jr_new_bodies.specs.OutputView.{IsStart, in_front, behind}
use Rattle.jr_new_bodies.specs.Known.{ExpReady, RowReady}
use Rattle.jr_new_bodies.specs.Walks.{PartGathers, DottedGathers, RowGathers}
use Rattle.jr_new_bodies.proofs.Joining.{both_assoc}
use Rattle.jr_new_bodies.proofs.Readying.{in_row}
use Rattle.jr_new_bodies.proofs.Giving.{row_ends, row_goes}

module _ {A : Type 0} (tells : A → ℕ → Span) (h : raw.Here) (c : Choice) (at : ℕ) (word : Span) (part : Expr A) where
  -- an operand, with what is put around it
  pub dotted_goes : (operand : Span) (from : raw_start.Start) (old mid inside new : Effect) → operand ≡ tells part.mark at → mid ≡ both old (in_front c operand) → IsStart from mid
      → PartGathers tells h (operand_asks (front_of c)) left at (expr_of part) mid inside
      → ((first more : Effect) → IsStart from first → inside ≡ both first more → new ≡ both first (behind c operand word more))
      → DottedGathers tells h c at word (expr_of part) old new
  dotted_goes operand from old mid inside new is front begun walked ends = λ s.
      let e = walked s in
      let same : operand ≡ tells (exp_mark (expr_of part)) at = is ∙ ap (λ m. tells m at) (sym (expr_mark_is part)) in (
        e.0,
        e.1,
        ends mid (effect_of e.0) begun e.2 ∙ ap (λ d. both d (behind c operand word (effect_of e.0))) front ∙ both_assoc old (in_front c operand) (behind c operand word (effect_of e.0))
            ∙ ap (λ o. both old (both (in_front c o) (behind c o word (effect_of e.0)))) same,
      )

-- arguments, one by one
module _ {A : Type 0} (tells : A → ℕ → Span) (Fits : A → ℕ → Type 0) (h : raw.Here) (path : List ℕ) (at : ℕ) (parts : List (Expr A)) where
  abbrev pub Left : (start now : Effect) (rest : List (Expr A)) → Type 0
  Left start now rest = (new : Effect) → RowGathers tells h at (exprs_of rest) now new → RowGathers tells h at (exprs_of parts) start new

  pub item_ready : (step k : ℕ) (x : Expr A) → k < length parts → x ≡ get_or parts k x → RowReady tells Fits h path step at (exprs_of (drop k parts))
      → ExpReady tells Fits h value (path ++ step ∷ []) at (expr_of x) × RowReady tells Fits h path (step + 1) at (exprs_of (drop (k + 1) parts))
  item_ready step k x lt is r = in_row tells Fits h path at step (expr_of x) (exprs_of (drop (k + 1) parts)) (subst (λ z. RowReady tells Fits h path step at (exprs_of z)) (left_is parts k x lt is) r)

  pub item_goes : (k : ℕ) (x : Expr A) → k < length parts → x ≡ get_or parts k x → (start now next : Effect) → Left start now (drop k parts) → PartGathers tells h (level 0) value at (expr_of x) now next → Left start next (drop (k + 1) parts)
  item_goes k x lt is start now next so_far one = λ new rest.
      so_far new (subst (λ z. RowGathers tells h at (exprs_of z) now new) (sym (left_is parts k x lt is)) (row_goes tells h at (expr_of x) (exprs_of (drop (k + 1) parts)) now next new one rest))

  pub row_done : (k : ℕ) → length parts ≤ k → (start now : Effect) → Left start now (drop k parts) → RowGathers tells h at (exprs_of parts) start now
  row_done k past start now so_far = so_far now (subst (λ z. RowGathers tells h at (exprs_of z) now now) (sym (drop_all k parts past)) (row_ends tells h at now))

size_within : {A : Type 0} (row : List (Expr A)) (i : ℕ) (x : Expr A) → i < length row → x ≡ get_or row i x → exp_size (expr_of x) ≤ exps_size (exprs_of row)
unfolding exp_size exps_size target_size
size_within [] i x lt e = absurd (omega arith)
size_within (y ∷ ys) zero x lt e = let s = ap (λ (z : Expr _). exp_size (expr_of z)) e in omega arith
size_within (y ∷ ys) (suc i) x lt e = let h = size_within ys i x (omega arith) e in omega arith

pub falls_item : {A : Type 0} (row : List (Expr A)) (i : ℕ) (x : Expr A) (t : ℕ) → i < length row → x ≡ get_or row i x → 6 * exps_size (exprs_of row) + 3 ≡ t → 6 * exp_size (expr_of x) + 2 < t
falls_item row i x t lt e h = let s = size_within row i x lt e in omega (arith, s, h)
