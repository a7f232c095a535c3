-- A piece that stands in a whole has a range of its sites.
use Rattle.std.proofs.Common.{◌≡◌, ℕ, ◌+◌, List, [], ◌++◌, length, append_assoc, length-append, refl, sym, ap, ◌∙◌, arith}
use Rattle.std.proofs.lemmas.List.{append-nil}
use Rattle.jr_ast.specs.StatementTree as statement
use Rattle.jr_ast.specs.Tree as tree
use Rattle.jr_table.specs.Keys.{ClassKey, FieldKey, MethodKey, CtorKey}
use Rattle.jr_code.specs.RunKeys.{RunKeys, Place}
use Rattle.jr_cover.specs.Sites.{Known, Site, exp_way, stmt_way}
use Rattle.jr_cover.specs.Ways.{Way, size, sites_of}
use Rattle.jr_effect.specs.Within.{Within}
use Rattle.jr_effect.proofs.Standing as standing
use Rattle.jr_effect.proofs.Standing.{size_is}
use Rattle.jr_pieces.specs.Before.{StandsBehind, StmtEvaluated, stmt_before}
use Rattle.jr_pieces.specs.Ways.{StmtWay, first}
use Rattle.jr_pieces.proofs.InFront.{what_comes_before_stands_in_front}
use Rattle.jr_piece_sites.specs.Extents.{HasRange}

module _ {S : Type 0} where
  made : (whole piece : List S) (k from to : ℕ) → from ≡ k → to ≡ from + length piece → (before after : List S) × (whole ≡ before ++ (piece ++ after)) × (length before ≡ k) → HasRange whole piece from to
  made whole piece k from to begin end (before, after, is, size) = record {
    before = before;
    after = after;
    stands = is;
    begins = size ∙ sym begin;
    ends = end;
  }

  pub within_has : (piece w : Way S) (k from to : ℕ) → Within piece w k → from ≡ k → to ≡ from + size piece → HasRange (sites_of w) (sites_of piece) from to
  within_has piece w k from to at begin end =
      made (sites_of w) (sites_of piece) k from to begin (end ∙ ap (λ (n : ℕ). from + n) (sym (size_is piece))) (standing.stands piece w k at)

  -- a piece of a piece
  inner : (all whole piece front : List S) (k from to : ℕ) → HasRange all whole k (k + length whole) → (rest : List S) → whole ++ [] ≡ front ++ (piece ++ rest) → from ≡ k + length front → to ≡ from + length piece → HasRange all piece from to
  inner all whole piece front k from to h rest is begin end = record {
    before = h.before ++ front;
    after = rest ++ h.after;
    stands = h.stands ∙ ap (λ l. h.before ++ (l ++ h.after)) (sym (append-nil whole) ∙ is)
        ∙ ap (λ l. h.before ++ l) (append_assoc front (piece ++ rest) h.after ∙ ap (λ l. front ++ l) (append_assoc piece rest h.after))
        ∙ sym (append_assoc h.before front (piece ++ (rest ++ h.after)));
    begins =
        let a = h.begins in
        let n = length-append h.before front in
        omega (arith, a, n, begin);
    ends = end;
  }

module _ {A : Type 0} (X : Known RunKeys A) {e : tree.Exp A} where
  pub expression_has : (s : statement.Stmt A) (d : StmtWay e s) → StmtEvaluated X d → (w : Way (Site RunKeys)) (k from to : ℕ) → Within (stmt_way X s) w k
      → from ≡ k + length (stmt_before X d) → to ≡ from + size (exp_way X e) → HasRange (sites_of w) (sites_of (exp_way X e)) from to
  expression_has s d evaluated w k from to at begin end =
      let front : StandsBehind (stmt_before X d) (sites_of (exp_way X e)) (sites_of (stmt_way X s) ++ []) =
      what_comes_before_stands_in_front {C = ClassKey} {F = FieldKey} {M = MethodKey} {N = CtorKey} {L = Place} {A = A} X e (statement.more s statement.end) (first s statement.end d) evaluated in
      let outer = within_has (stmt_way X s) w k k (k + size (stmt_way X s)) at refl refl in
      inner (sites_of w) (sites_of (stmt_way X s)) (sites_of (exp_way X e)) (stmt_before X d) k from to
      (record { before = outer.before; after = outer.after; stands = outer.stands; begins = outer.begins; ends = refl })
      front.rest front.is begin (end ∙ ap (λ (n : ℕ). from + n) (sym (size_is (exp_way X e))))
