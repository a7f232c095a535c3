-- Loops over statements, as walks over what is left of them.
use Rattle.std.proofs.Common.{◌≡◌, ℕ, ◌+◌, ◌<◌, ◌≤◌, List, ◌∷◌, length, get_or, drop, ap, sym, ◌∙◌, suc, add-one}
use Rattle.std.proofs.Math.Seq.{drop-cons}
use Rattle.std.proofs.lemmas.List.{drop_all}
use Rattle.jr_text.specs.declared.spans.Span.{Span}
use Rattle.jr_ast.specs.declared.stmts.Stmt.{Stmt}
use Rattle.jr_ast.specs.View.{stmt_of, stmts_of}
use Rattle.jr_cursor.specs.declared.searches.Search.{Search}
use Rattle.jr_cursor.specs.Searches.{in_stmt, in_else, in_stmts}

left_is : {T : Type 0} (xs : List T) (i : ℕ) (x : T) → i < length xs → x ≡ get_or xs i x → drop i xs ≡ x ∷ drop (i + 1) xs
left_is xs i x lt is = drop-cons xs i x lt ∙ ap (λ z. z ∷ drop (suc i) xs) (sym is) ∙ ap (λ n. x ∷ drop n xs) (sym (add-one i))

pub search_goes : (at : ℕ) (body : List (Stmt Span)) (i : ℕ) (x : Stmt Span) (b : Search) → i < length body → x ≡ get_or body i x
    → in_stmts at b (stmts_of (drop i body)) ≡ in_stmts at (in_stmt at b (stmt_of x)) (stmts_of (drop (i + 1) body))
unfolding in_stmt in_else in_stmts
search_goes at body i x b lt is = ap (λ z. in_stmts at b (stmts_of z)) (left_is body i x lt is)

pub search_ends : (at : ℕ) (body : List (Stmt Span)) (i : ℕ) (b : Search) → length body ≤ i → in_stmts at b (stmts_of (drop i body)) ≡ b
unfolding in_stmt in_else in_stmts
search_ends at body i b past = ap (λ z. in_stmts at b (stmts_of z)) (drop_all i body past)
