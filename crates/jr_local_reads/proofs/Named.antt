-- What finds a declared local behind its declaration has its name.
use Rattle.std.proofs.Common.{◌≡◌, ◌⊎◌, inl, inr, ℕ, ◌+◌, ◌<◌, Bool, List, [], ◌∷◌, ◌++◌, Option, Some, None, refl, sym, ap, subst, ◌∙◌, arith}
use Rattle.std.specs.Prelude.{slice_get, option_map}
use Rattle.std.proofs.lemmas.Option.{none-some, same_Some, slice_get-map}
use Rattle.jr_text.specs.declared.spans.Span.{Span}
use Rattle.jr_ast.specs.Tree as tree
use Rattle.jr_ast.specs.StatementTree as statement
use Rattle.jr_table.specs.Decls.{LocalKey}
use Rattle.jr_table.specs.Scope.{ScopeLocal, FindsLocal}
use Rattle.jr_table.specs.Context.{Context, Local, scope_local, scope_of, local_of, after, locals_in}
use Rattle.jr_pieces.specs.Ways.{StmtWay, in_init, in_eval, in_condition, in_then, in_else, in_turning, in_body, in_returned, in_block, in_lock, in_locked, ListWay, first, later}
use Rattle.jr_pieces.specs.Standings.{Standing, inside, behind, in_other, in_initializer, at_stmt, at_list}
use Rattle.jr_pieces.specs.Nearest.{nearest}
use Rattle.jr_way_places.proofs.Walked.{exp_context}
use Rattle.jr_bodies.specs.Bodies.{begins}
use Rattle.jr_local_reads.specs.BehindLaws.{IsBelow, LocalsHaveTheirNames}
use Rattle.jr_local_reads.proofs.Below.{at_end, near_below}

-- the local of the number has the name, wherever it is in scope, and further locals have higher numbers
abbrev IsNamed : (n : ℕ) (name : List ℕ) → Context → Type 0
IsNamed n name c = (i : ℕ) (l : Local) → slice_get c.locals i ≡ Some l → l.key.number ≡ n → l.name ≡ name

module _ (n : ℕ) (name : List ℕ) where
  one_more : (c : Context) (m : ℕ) (f : Bool) (t : tree.TypeName Span) (w : tree.Word Span) → n < m → IsNamed n name c
      → (i : ℕ) (l : Local) → slice_get (c.locals ++ local_of c m f t w ∷ []) i ≡ Some l → l.key.number ≡ n → l.name ≡ name
  one_more c m f t w lt h i l e is = by (at_end c.locals (local_of c m f t w) i l e)
    where
      by : (slice_get c.locals i ≡ Some l) ⊎ (local_of c m f t w ≡ l) → l.name ≡ name
      by (inl q) = h i l q is
      by (inr q) = let k : m ≡ l.key.number = ap (λ (x : Local). x.key.number) q in absurd (omega (arith, lt, k, is))

  after_named : (m : ℕ) (c : Context) (s : statement.Stmt Span) → n < m → IsNamed n name c → IsNamed n name (after m c s)
  after_named m c (statement.local k f t w e) lt h = one_more c m f t w lt h
  after_named m c (statement.eval k e) lt h = h
  after_named m c (statement.branch k e x o) lt h = h
  after_named m c (statement.loop k e x) lt h = h
  after_named m c (statement.return k e) lt h = h
  after_named m c (statement.block k b) lt h = h
  after_named m c (statement.sync k e b) lt h = h
  after_named m c (statement.empty k) lt h = h

  further : (m k : ℕ) → n < m → n < m + k
  further m k lt = omega (arith, lt)

  module _ {f : tree.Exp Span} where
    mutual
      stmt_named : {s : statement.Stmt Span} (p : Standing) (d : StmtWay f s) → n < p.next → IsNamed n name p.context → IsNamed n name (at_stmt begins p d).context
      stmt_named p (in_init m is_final t w v d) lt h = subst (IsNamed n name) (sym (exp_context begins (in_initializer begins m is_final t w p) d)) (one_more p.context p.next is_final t w lt h)
      stmt_named p (in_eval m v d) lt h = subst (IsNamed n name) (sym (exp_context begins (inside begins m p) d)) h
      stmt_named p (in_condition m c s o d) lt h = subst (IsNamed n name) (sym (exp_context begins (inside begins m p) d)) h
      stmt_named p (in_then m c s o d) lt h = stmt_named (inside begins m p) d lt h
      stmt_named p (in_else m c s o d) lt h = stmt_named (in_other begins m s p) d (further p.next (locals_in s) lt) h
      stmt_named p (in_turning m c s d) lt h = subst (IsNamed n name) (sym (exp_context begins (inside begins m p) d)) h
      stmt_named p (in_body m c s d) lt h = stmt_named (inside begins m p) d lt h
      stmt_named p (in_returned m v d) lt h = subst (IsNamed n name) (sym (exp_context begins (inside begins m p) d)) h
      stmt_named p (in_block m b d) lt h = list_named (inside begins m p) d lt h
      stmt_named p (in_lock m v b d) lt h = subst (IsNamed n name) (sym (exp_context begins (inside begins m p) d)) h
      stmt_named p (in_locked m v b d) lt h = list_named (inside begins m p) d lt h

      list_named : {b : statement.Stmts Span} (p : Standing) (d : ListWay f b) → n < p.next → IsNamed n name p.context → IsNamed n name (at_list begins p d).context
      list_named p (first s ss d) lt h = stmt_named p d lt h
      list_named p (later s ss d) lt h = list_named (behind begins s p) d (further p.next (locals_in s) lt) (after_named p.next p.context s lt h)

-- behind the declaration
declared_named : (p : Standing) (m : Span) (f : Bool) (t : tree.TypeName Span) (w : tree.Word Span) (v : tree.Exp Span) → IsBelow p → IsNamed p.next w.text (behind begins (statement.local m f t w v) p).context
declared_named p m f t w v below i l e is = by (at_end p.context.locals (local_of p.context p.next f t w) i l e)
  where
    by : (slice_get p.context.locals i ≡ Some l) ⊎ (local_of p.context p.next f t w ≡ l) → l.name ≡ w.text
    by (inl q) = let lt : l.key.number < p.next = below i l q in absurd (omega (arith, lt, is))
    by (inr q) = sym (ap (λ (x : Local). x.name) q)

behind_next : (p : Standing) (m : Span) (f : Bool) (t : tree.TypeName Span) (w : tree.Word Span) (v : tree.Exp Span) → p.next < (behind begins (statement.local m f t w v) p).next
unfolding locals_in
behind_next p m f t w v = let lt : p.next < p.next + 1 = omega arith in lt

-- what is found by its name has it
found_name : (c : Context) (n : ℕ) (text name : List ℕ) (k : LocalKey) → k.number ≡ n → IsNamed n text c → FindsLocal (scope_of c).locals name k → text ≡ name
found_name c n text name k is named h = by (slice_get c.locals h.place) refl
  where
    there : (o : Option Local) → slice_get c.locals h.place ≡ o → option_map scope_local o ≡ Some h.local
    there o e = ap (option_map scope_local) (sym e) ∙ sym (slice_get-map scope_local c.locals h.place) ∙ h.stands

    by : (o : Option Local) → slice_get c.locals h.place ≡ o → text ≡ name
    by None e = absurd (none-some h.local (there None e))
    by (Some l) e =
        let same : scope_local l ≡ h.local = same_Some (scope_local l) h.local (there (Some l) e) in
        let key : l.key.number ≡ n = ap (λ (x : ScopeLocal). x.key.number) same ∙ ap (λ (x : LocalKey). x.number) h.is ∙ is in
        sym (named h.place l e key) ∙ ap (λ (x : ScopeLocal). x.name) same ∙ h.named

pub locals_have_their_names : LocalsHaveTheirNames
locals_have_their_names b p below g d mark is_final type word is f e name k number found =
    let at = (nearest begins p d).at in
    let next = subst (λ (s : statement.Stmt Span). at.next < (behind begins s at).next) (sym is) (behind_next at mark is_final type word g) in
    let named = subst (λ (s : statement.Stmt Span). IsNamed at.next word.text (behind begins s at).context) (sym is) (declared_named at mark is_final type word g (near_below p d below)) in
    found_name (at_list begins (behind begins (nearest begins p d).stmt at) e).context at.next word.text name k number
    (list_named at.next word.text (behind begins (nearest begins p d).stmt at) e next named) found
