-- The words that declare locals begin one behind the other, so each has one number.
use Rattle.std.proofs.Common.{◌≡◌, ◌⊎◌, inl, inr, ℕ, zero, suc, ◌+◌, ◌<◌, nat_eq, Bool, true, false, not, ◌&&◌, cond, List, [], ◌∷◌, ◌++◌, Option, Some, None, refl, sym, ap, subst, ◌∙◌, arith}
use Rattle.std.specs.Prelude.{slice_get}
use Rattle.std.specs.List.{position_or_len}
use Rattle.std.proofs.lemmas.Bool.{eq-eqb, ne_eqb}
use Rattle.std.proofs.lemmas.Option.{none-some, same_Some}
use Rattle.jr_text.specs.declared.spans.Span.{Span}
use Rattle.jr_ast.specs.Tree as tree
use Rattle.jr_ast.specs.StatementTree as statement
use Rattle.jr_grammar.specs.Stands.{Tokens, first_from, span_of, InOrder, Stands}
use Rattle.jr_grammar.specs.ExpressionLayout.{word_layout}
use Rattle.jr_grammar.specs.StatementLayout.{stmt_layout, else_layout, stmts_layout}
use Rattle.jr_program_laws.proofs.TokenOrder.{StartsIn, Rising, before, starts_first, rising_front, rising_back, in_front, in_back}
use Rattle.jr_program_laws.proofs.Filling.{word_fills}
use Rattle.jr_pieces.specs.Finding.{same_span}
use Rattle.jr_local.specs.BodyFacts.{words_of, words_behind, words_in}

-- each begins in front of those behind it
abbrev pub Ascending : List Span → Type 0
Ascending [] = Unit {0}
Ascending (w ∷ ws) = ((i : ℕ) (v : Span) → slice_get ws i ≡ Some v → w.from < v.from) × Ascending ws

-- words among tokens
record Worded (ws : List Span) (ps : Tokens) : Type 0 where
  starts : (i : ℕ) (w : Span) → slice_get ws i ≡ Some w → StartsIn ps w.from
  rise : Rising ps → Ascending ws

nobody : (ps : Tokens) → Worded [] ps
nobody ps = record { starts = λ i w e. absurd (none-some w e); rise = λ r. tt }

-- of one row behind another
in_one : {Z : Type 0} (xs ys : List Z) (i : ℕ) (z : Z) → slice_get (xs ++ ys) i ≡ Some z → ((j : ℕ) × (slice_get xs j ≡ Some z)) ⊎ ((j : ℕ) × (slice_get ys j ≡ Some z))
in_one [] ys i z e = inr (i, e)
in_one (x ∷ xs) ys zero z e = inl (zero, e)
in_one (x ∷ xs) ys (suc i) z e = elim (in_one xs ys i z e) [ inl h ↦ inl (suc h.0, h.1) | inr h ↦ inr h ]

ascend_both : (ws vs : List Span) → Ascending ws → Ascending vs → ((i j : ℕ) (w v : Span) → slice_get ws i ≡ Some w → slice_get vs j ≡ Some v → w.from < v.from) → Ascending (ws ++ vs)
ascend_both [] vs a b less = b
ascend_both (w ∷ ws) vs a b less = (
  λ i v e. elim (in_one ws vs i v e) [ inl h ↦ a.0 h.0 v h.1 | inr h ↦ less zero h.0 w v refl h.1 ],
  ascend_both ws vs a.1 b (λ i j x y d e. less (suc i) j x y d e),
)

module _ {P Q : Tokens → Type 0} (ps : Tokens) (h : InOrder P Q ps) where
  of_first : (ws : List Span) → ((qs : Tokens) → P qs → Worded ws qs) → Worded ws ps
  of_first ws go =
      let r = go h.front h.first in record {
        starts = λ i w e. subst (λ (x : Tokens). StartsIn x w.from) (sym h.whole) (in_front h.front h.back w.from (r.starts i w e));
        rise = λ rise. r.rise (rising_front h.front h.back (subst Rising h.whole rise));
      }

  of_rest : (ws : List Span) → ((qs : Tokens) → Q qs → Worded ws qs) → Worded ws ps
  of_rest ws go =
      let r = go h.back h.rest in record {
        starts = λ i w e. subst (λ (x : Tokens). StartsIn x w.from) (sym h.whole) (in_back h.front h.back w.from (r.starts i w e));
        rise = λ rise. r.rise (rising_back h.front h.back (subst Rising h.whole rise));
      }

  of_both : (ws vs : List Span) → ((qs : Tokens) → P qs → Worded ws qs) → ((qs : Tokens) → Q qs → Worded vs qs) → Worded (ws ++ vs) ps
  of_both ws vs go on =
      let a = go h.front h.first in
      let b = on h.back h.rest in record {
        starts = λ i w e. elim (in_one ws vs i w e) [
          | inl k ↦ (of_first ws go).starts k.0 w k.1
          | inr k ↦ (of_rest vs on).starts k.0 w k.1
        ];
        rise = λ rise.
            let all = subst Rising h.whole rise in
            ascend_both ws vs (a.rise (rising_front h.front h.back all)) (b.rise (rising_back h.front h.back all)) (λ i j w v d e. before h.front h.back all w.from v.from (a.starts i w d) (b.starts j v e));
      }

one_word : (w : tree.Word Span) (ps : Tokens) → Stands (word_layout w) ps → Worded (w.mark ∷ []) ps
one_word w ps h = record { starts = λ i v e. at i v e; rise = λ r. ((λ i v e. absurd (none-some v e)), tt) }
  where
    here : StartsIn ps w.mark.from
    here = subst (λ (s : Span). StartsIn ps s.from) (sym h.mark) (starts_first ps ((word_fills w).fills ps h))

    at : (i : ℕ) (v : Span) → slice_get (w.mark ∷ []) i ≡ Some v → StartsIn ps v.from
    at zero v e = subst (λ (s : Span). StartsIn ps s.from) (same_Some w.mark v e) here
    at (suc i) v e = absurd (none-some v e)

mutual
  stmt_worded : (s : statement.Stmt Span) (ps : Tokens) → Stands (stmt_layout s) ps → Worded (words_of s) ps
  stmt_worded (statement.local m f t w e) ps h = of_rest ps h.parts (w.mark ∷ []) (λ qs k. of_rest qs k (w.mark ∷ []) (λ rs l. of_first rs l (w.mark ∷ []) (one_word w)))
  stmt_worded (statement.eval m e) ps h = nobody ps
  stmt_worded (statement.branch m c s o) ps h =
      let ws = words_of s ++ words_behind o in
      of_rest ps h.parts ws (λ qs k. of_rest qs k ws (λ rs l. of_rest rs l ws (λ us i. of_rest us i ws (λ vs j. of_both vs j (words_of s) (words_behind o) (stmt_worded s) (λ xs a. of_first xs a (words_behind o) (else_worded o))))))
  stmt_worded (statement.loop m c s) ps h = let ws = words_of s in of_rest ps h.parts ws (λ qs k. of_rest qs k ws (λ rs l. of_rest rs l ws (λ us i. of_rest us i ws (λ vs j. of_first vs j ws (stmt_worded s)))))
  stmt_worded (statement.return m e) ps h = nobody ps
  stmt_worded (statement.block m b) ps h = let ws = words_in b in of_rest ps h.parts ws (λ qs k. of_first qs k ws (list_worded b))
  stmt_worded (statement.sync m e b) ps h =
      let ws = words_in b in
      of_rest ps h.parts ws (λ qs k. of_rest qs k ws (λ rs l. of_rest rs l ws (λ us i. of_rest us i ws (λ vs j. of_rest vs j ws (λ xs a. of_first xs a ws (list_worded b))))))
  stmt_worded (statement.empty m) ps h = nobody ps

  else_worded : (o : statement.Else Span) (ps : Tokens) → Stands (else_layout o) ps → Worded (words_behind o) ps
  else_worded statement.no_else ps h = nobody ps
  else_worded (statement.otherwise s) ps h = of_rest ps h (words_of s) (λ qs k. of_first qs k (words_of s) (stmt_worded s))

  list_worded : (b : statement.Stmts Span) (ps : Tokens) → Stands (stmts_layout b) ps → Worded (words_in b) ps
  list_worded statement.end ps h = nobody ps
  list_worded (statement.more s ss) ps h = of_both ps h (words_of s) (words_in ss) (stmt_worded s) (λ qs k. of_first qs k (words_in ss) (list_worded ss))

pub words_ascend : (b : statement.Stmts Span) (ps : Tokens) → Stands (stmts_layout b) ps → Rising ps → Ascending (words_in b)
words_ascend b ps h r = (list_worded b ps h).rise r

-- ---- each is found where it stands

same_test : (s : Span) → same_span s s ≡ true
same_test s = λ i. eq-eqb s.from s.from refl i && eq-eqb s.to s.to refl i

other_test : (s t : Span) → s.from < t.from → same_span t s ≡ false
other_test s t less = ap (λ (a : Bool). a && nat_eq t.to s.to) (ne_eqb t.from s.from (λ e. let f : t.from ≡ s.from = e in omega (arith, f, less)))

pub position_is : (ws : List Span) → Ascending ws → (i : ℕ) (w : Span) → slice_get ws i ≡ Some w → position_or_len (same_span w) ws ≡ i
position_is [] a i w e = absurd (none-some w e)
position_is (v ∷ ws) a zero w e = ap (λ (b : Bool). cond (not b) (1 + position_or_len (same_span w) ws) 0) (subst (λ (s : Span). same_span w s ≡ true) (sym (same_Some v w e)) (same_test w))
position_is (v ∷ ws) a (suc i) w e =
    let rest = position_is ws a.1 i w e in
    ap (λ (b : Bool). cond (not b) (1 + position_or_len (same_span w) ws) 0) (other_test v w (a.0 i w e)) ∙ omega (arith, rest)
