-- The loop over the statements of a list.
use Rattle.std.proofs.Common.{◌≡◌, ℕ, suc, ◌+◌, ◌<◌, ◌≤◌, true, false, List, ◌∷◌, length, get_or, drop, Some, None, if◌then◌else◌, ap, sym, ◌∙◌}
use Rattle.std.proofs.lemmas.List.{drop_all}
use Rattle.jr_text.specs.declared.spans.Span.{Span}
use Rattle.jr_ast.specs.declared.stmts.Stmt.{Stmt}
use Rattle.jr_ast.specs.Marks.{stmt_mark}
use Rattle.jr_ast.specs.View.{stmt_of, stmts_of}
use Rattle.jr_grammar.specs.Layout.{itself}
use Rattle.jr_pieces.specs.Finding.{is_behind}
use Rattle.jr_piece_search.specs.StatementSteps.{choose}
use Rattle.jr_piece_search.proofs.Choosing.{then_is, else_is, left_is}

module _ (s : Span) (xs : List (Stmt Span)) (i : ℕ) where
  choose_step : (x : Stmt Span) (n : ℕ) → i < length xs → x ≡ get_or xs i x
      → choose s n (stmts_of (drop i xs)) ≡ (if is_behind itself s (stmt_mark (stmt_of x)) then choose s (suc n) (stmts_of (drop (i + 1) xs)) else Some (record { number = n; stmt = stmt_of x; list = stmts_of (x ∷ drop (i + 1) xs) }))
  unfolding choose
  choose_step x n lt is = ap (λ z. choose s n (stmts_of z)) (left_is xs i x lt is)

  pub choose_goes : (x : Stmt Span) (n : ℕ) → i < length xs → x ≡ get_or xs i x → is_behind itself s (stmt_mark (stmt_of x)) ≡ true
      → choose s n (stmts_of (drop i xs)) ≡ choose s (suc n) (stmts_of (drop (i + 1) xs))
  choose_goes x n lt is passed = choose_step x n lt is ∙ sym (then_is (is_behind itself s (stmt_mark (stmt_of x))) (choose s (suc n) (stmts_of (drop (i + 1) xs))) (Some (record { number = n; stmt = stmt_of x; list = stmts_of (x ∷ drop (i + 1) xs) })) passed)

  pub choose_here : (x : Stmt Span) (n : ℕ) → i < length xs → x ≡ get_or xs i x → is_behind itself s (stmt_mark (stmt_of x)) ≡ false
      → choose s n (stmts_of (drop i xs)) ≡ Some (record { number = n; stmt = stmt_of x; list = stmts_of (drop i xs) })
  choose_here x n lt is passed = choose_step x n lt is
      ∙ sym (else_is (is_behind itself s (stmt_mark (stmt_of x))) (choose s (suc n) (stmts_of (drop (i + 1) xs))) (Some (record { number = n; stmt = stmt_of x; list = stmts_of (x ∷ drop (i + 1) xs) })) passed)
      ∙ ap (λ (ys : List (Stmt Span)). Some (record { number = n; stmt = stmt_of x; list = stmts_of ys })) (sym (left_is xs i x lt is))

  pub choose_ends : (n : ℕ) → length xs ≤ i → choose s n (stmts_of (drop i xs)) ≡ None
  unfolding choose
  choose_ends n past = ap (λ z. choose s n (stmts_of z)) (drop_all i xs past)
