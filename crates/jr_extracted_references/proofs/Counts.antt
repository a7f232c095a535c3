-- How many locals are declared in what statements become: as many where no list in them is a spot, and one more
-- where one is that declares one more.
use Rattle.std.proofs.Common.{◌≡◌, ℕ, suc, ◌+◌, Option, Some, None, false, refl, sym, ap, subst, ◌∙◌, arith}
use Rattle.jr_text.specs.declared.spans.Span.{Span}
use Rattle.jr_ast.specs.Tree as tree
use Rattle.jr_ast.specs.StatementTree as statement
use Rattle.jr_grammar.specs.Layout.{itself}
use Rattle.jr_table.specs.Decls.{MemberKey}
use Rattle.jr_table.specs.Context.{Context, after, locals_in, locals_in_else, locals_in_row}
use Rattle.jr_rewrite.specs.Rewritten.{Rewritten}
use Rattle.jr_rewrite.specs.Spots.{Spotted, OrList}
use Rattle.jr_rewrite.specs.Rewrites.{Choosing, TransformsStmt, TransformsElse, TransformsStmts, TransformsList}
use Rattle.jr_pieces.specs.Ways.{StmtWay, in_init, in_eval, in_condition, in_then, in_else, in_turning, in_body, in_returned, in_block, in_lock, in_locked, ListWay, first, later}
use Rattle.jr_pieces.specs.Standings.{Standing, inside}
use Rattle.jr_pieces.specs.Nearest.{Element, or_element, element_within, nearest}
use Rattle.jr_bodies.specs.Bodies.{begins}
use Rattle.jr_untouched_parts.specs.Around.{held}
use Rattle.jr_untouched_parts.proofs.OneWay.{OneStmt, OneList, one_first, one_later, none_behind, none_in_front, one_then, none_else, one_else, none_then, one_body, one_block, one_locked, meets, not_later, not_further_in}

pub after_member : {A : Type 0} (n : ℕ) (c : Context) (s : statement.Stmt A) → (after n c s).member ≡ c.member
after_member n c (statement.local m is_final t w e) = refl
after_member n c (statement.eval m e) = refl
after_member n c (statement.branch m e x other) = refl
after_member n c (statement.loop m e x) = refl
after_member n c (statement.return m e) = refl
after_member n c (statement.block m body) = refl
after_member n c (statement.sync m e body) = refl
after_member n c (statement.empty m) = refl

-- what is known of statements and of lists, which goes down
pub record Down : Type 1 where
  pub Single : statement.Stmt Span → Type 0
  pub Lists : statement.Stmts Span → Type 0
  pub to_then : (m : Span) (e : tree.Exp Span) (x : statement.Stmt Span) (o : statement.Else Span) → Single (statement.branch m e x o) → Single x
  pub to_other : (m : Span) (e : tree.Exp Span) (x y : statement.Stmt Span) → Single (statement.branch m e x (statement.otherwise y)) → Single y
  pub to_body : (m : Span) (e : tree.Exp Span) (x : statement.Stmt Span) → Single (statement.loop m e x) → Single x
  pub to_block : (m : Span) (b : statement.Stmts Span) → Single (statement.block m b) → Lists b
  pub to_lock : (m : Span) (e : tree.Exp Span) (b : statement.Stmts Span) → Single (statement.sync m e b) → Lists b
  pub to_first : (x : statement.Stmt Span) (xs : statement.Stmts Span) → Lists (statement.more x xs) → Single x
  pub to_rest : (x : statement.Stmt Span) (xs : statement.Stmts Span) → Lists (statement.more x xs) → Lists xs

-- nothing is known
abbrev pub anywhere : Down
anywhere = record {
  Single = λ s. Unit {0};
  Lists = λ b. Unit {0};
  to_then = λ m e x o h. tt;
  to_other = λ m e x y h. tt;
  to_body = λ m e x h. tt;
  to_block = λ m b h. tt;
  to_lock = λ m e b h. tt;
  to_first = λ x xs h. tt;
  to_rest = λ x xs h. tt;
}

-- in the member no way leads to an expression
abbrev pub away : (Q : Type 0) (f : tree.Exp Span) → Down
away Q f = record {
  Single = λ s. Q → StmtWay f s → ⊥;
  Lists = λ b. Q → ListWay f b → ⊥;
  to_then = λ m e x o h q d. h q (in_then m e x o d);
  to_other = λ m e x y h q d. h q (in_else m e x y d);
  to_body = λ m e x h q d. h q (in_body m e x d);
  to_block = λ m b h q d. h q (in_block m b d);
  to_lock = λ m e b h q d. h q (in_locked m e b d);
  to_first = λ x xs h q d. h q (first x xs d);
  to_rest = λ x xs h q d. h q (later x xs d);
}

module _ (C : Choosing Span) (S : Spotted Span) (k : MemberKey) (K : Down)
    (node : (n : ℕ) (c : Context) (b : ℕ) (xs : statement.Stmts Span) (o : Rewritten (statement.Stmts Span)) (N : Type 0) → c.member ≡ k → K.Lists xs → OrList S n c b xs o N → N) where
  mutual
    unfolding TransformsStmt TransformsElse TransformsStmts locals_in locals_in_else locals_in_row

    pub same_locals : (n : ℕ) (c : Context) (b : ℕ) (x : statement.Stmt Span) (q : Rewritten (statement.Stmt Span)) → c.member ≡ k → K.Single x → TransformsStmt itself C S n c b x q → locals_in q.tree ≡ locals_in x
    same_locals n c b (statement.local m f t w e) q of h (p, v, y, types, declared, inner, is) = ap (λ (z : Rewritten (statement.Stmt Span)). locals_in z.tree) is
    same_locals n c b (statement.eval m e) q of h (p, inner, is) = ap (λ (z : Rewritten (statement.Stmt Span)). locals_in z.tree) is
    same_locals n c b (statement.branch m e x other) q of h (p, y, z, inner, one_side, other_side, is) =
        ap (λ (z : Rewritten (statement.Stmt Span)). locals_in z.tree) is
        ∙ (λ i. same_locals n c _ x y of (K.to_then m e x other h) one_side i + same_else (n + locals_in x) c _ other z of (λ s e2. K.to_other m e x s (subst (λ (l : statement.Else Span). K.Single (statement.branch m e x l)) e2 h)) other_side i)
    same_locals n c b (statement.loop m e x) q of h (p, y, inner, body, is) = ap (λ (z : Rewritten (statement.Stmt Span)). locals_in z.tree) is ∙ same_locals n c _ x y of (K.to_body m e x h) body
    same_locals n c b (statement.return m e) q of h (p, inner, is) = ap (λ (z : Rewritten (statement.Stmt Span)). locals_in z.tree) is
    same_locals n c b (statement.block m body) q of h (p, inner, is) =
        ap (λ (z : Rewritten (statement.Stmt Span)). locals_in z.tree) is ∙ same_row n c _ body p of (K.to_block m body h) (node n c _ body p (TransformsStmts itself C S n c _ body p) of (K.to_block m body h) inner)
    same_locals n c b (statement.sync m e body) q of h (p, y, inner, rest, is) =
        ap (λ (z : Rewritten (statement.Stmt Span)). locals_in z.tree) is ∙ same_row n c _ body y of (K.to_lock m e body h) (node n c _ body y (TransformsStmts itself C S n c _ body y) of (K.to_lock m e body h) rest)
    same_locals n c b (statement.empty m) q of h is = ap (λ (z : Rewritten (statement.Stmt Span)). locals_in z.tree) is

    pub same_else : (n : ℕ) (c : Context) (b : ℕ) (x : statement.Else Span) (q : Rewritten (statement.Else Span)) → c.member ≡ k → ((y : statement.Stmt Span) → x ≡ statement.otherwise y → K.Single y) → TransformsElse itself C S n c b x q → locals_in_else q.tree ≡ locals_in_else x
    same_else n c b statement.no_else q of h is = ap (λ (z : Rewritten (statement.Else Span)). locals_in_else z.tree) is
    same_else n c b (statement.otherwise x) q of h (p, inner, is) = ap (λ (z : Rewritten (statement.Else Span)). locals_in_else z.tree) is ∙ same_locals n c b x p of (h x refl) inner

    pub same_row : (n : ℕ) (c : Context) (b : ℕ) (xs : statement.Stmts Span) (q : Rewritten (statement.Stmts Span)) → c.member ≡ k → K.Lists xs → TransformsStmts itself C S n c b xs q → locals_in_row q.tree ≡ locals_in_row xs
    same_row n c b statement.end q of h is = ap (λ (z : Rewritten (statement.Stmts Span)). locals_in_row z.tree) is
    same_row n c b (statement.more x xs) q of h (p, y, inner, rest, is) =
        ap (λ (z : Rewritten (statement.Stmts Span)). locals_in_row z.tree) is
        ∙ (λ i. same_locals n c b x p of (K.to_first x xs h) inner i + same_row (n + locals_in x) (after n c x) b xs y (after_member n c x ∙ of) (K.to_rest x xs h) (node (n + locals_in x) (after n c x) b xs y (TransformsStmts itself C S (n + locals_in x) (after n c x) b xs y) (after_member n c x ∙ of) (K.to_rest x xs h) rest) i)

-- ---- on the way to an expression

abbrev pub place : ℕ → Context → ℕ → Standing
place n c b = record { next = n; context = c; base = b }

none_there : {f : tree.Exp Span} (x : Element f) → (let none : Option (Element f) = None in none ≡ Some x) → ⊥
none_there x e = cc

some_there : {f : tree.Exp Span} (x y : Element f) → Some x ≡ Some y → x ≡ y
some_there x y e = cc

module _ (C : Choosing Span) (S : Spotted Span) {f : tree.Exp Span} (x : Element f) (straight : meets x.way ≡ false)
    (other : (n : ℕ) (c : Context) (b : ℕ) (xs : statement.Stmts Span) (o : Rewritten (statement.Stmts Span)) (N : Type 0) → (xs ≡ held x → ⊥) → OrList S n c b xs o N → N)
    (put : (b : ℕ) (o : Rewritten (statement.Stmts Span)) (N : Type 0) → OrList S x.at.next x.at.context b (held x) o N → locals_in_row o.tree ≡ suc (locals_in_row (held x))) where
  none_leads : (k : MemberKey) (n : ℕ) (c : Context) (b : ℕ) (xs : statement.Stmts Span) (o : Rewritten (statement.Stmts Span)) (N : Type 0) → c.member ≡ k → (Unit {0} → ListWay f xs → ⊥) → OrList S n c b xs o N → N
  none_leads k n c b xs o N of h made = other n c b xs o N (λ e. h tt (subst (λ (ys : statement.Stmts Span). ListWay f ys) (sym e) (first x.stmt x.rest x.way))) made

  row_apart : (n : ℕ) (c : Context) (b : ℕ) (xs : statement.Stmts Span) (q : Rewritten (statement.Stmts Span)) → (ListWay f xs → ⊥) → TransformsList itself C S n c b xs q → locals_in_row q.tree ≡ locals_in_row xs
  row_apart n c b xs q none made = same_row C S c.member (away (Unit {0}) f) (none_leads c.member) n c b xs q refl (λ u d. none d) (none_leads c.member n c b xs q (TransformsStmts itself C S n c b xs q) refl (λ u d. none d) made)

  pub stmt_apart : (n : ℕ) (c : Context) (b : ℕ) (s : statement.Stmt Span) (q : Rewritten (statement.Stmt Span)) → (StmtWay f s → ⊥) → TransformsStmt itself C S n c b s q → locals_in q.tree ≡ locals_in s
  stmt_apart n c b s q none made = same_locals C S c.member (away (Unit {0}) f) (none_leads c.member) n c b s q refl (λ u d. none d) made

  -- the list itself, or one in it
  at_first : (n : ℕ) (c : Context) (b e : ℕ) (s : statement.Stmt Span) (ss : statement.Stmts Span) (q : Rewritten (statement.Stmts Span)) (d : StmtWay f s) → OneList (first s ss d) → TransformsList itself C S n c b (statement.more s ss) q
      → (element_within begins (place n c e) d ≡ Some x → (p : Rewritten (statement.Stmt Span)) → TransformsStmt itself C S n c b s p → locals_in p.tree ≡ suc (locals_in s))
      → (o : Option (Element f)) → element_within begins (place n c e) d ≡ o → or_element o (record { at = place n c e; stmt = s; rest = ss; way = d }) ≡ x → locals_in_row q.tree ≡ suc (locals_in_row (statement.more s ss))
  unfolding TransformsStmts locals_in_row
  at_first n c b e s ss q d one made go None is there = subst (λ (y : Element f). OrList S y.at.next y.at.context b (held y) q (TransformsStmts itself C S n c b (statement.more s ss) q) → locals_in_row q.tree ≡ suc (locals_in_row (held y))) (sym there) (λ h. put b q _ h) made
  at_first n c b e s ss q d one made go (Some y) is there =
      let within_is : element_within begins (place n c e) d ≡ Some x = subst (λ (z : Element f). element_within begins (place n c e) d ≡ Some z) there is in
      let by = other n c b (statement.more s ss) q (TransformsStmts itself C S n c b (statement.more s ss) q) (not_further_in begins x straight s ss (place n c e) d x within_is one) made in
      let all : locals_in_row q.tree ≡ locals_in by.0.tree + locals_in_row by.1.tree = ap (λ (z : Rewritten (statement.Stmts Span)). locals_in_row z.tree) by.4 in
      omega (arith, all, go within_is by.0 by.2, row_apart (n + locals_in s) (after n c s) b ss by.1 (none_behind d one) by.3)

  mutual
    unfolding TransformsStmt TransformsElse TransformsStmts locals_in locals_in_else locals_in_row

    pub on_stmt : {s : statement.Stmt Span} (n : ℕ) (c : Context) (b e : ℕ) (d : StmtWay f s) → OneStmt d → element_within begins (place n c e) d ≡ Some x → (q : Rewritten (statement.Stmt Span)) → TransformsStmt itself C S n c b s q → locals_in q.tree ≡ suc (locals_in s)
    on_stmt n c b e (in_init m is_final t w y d) one is q made = absurd (none_there x is)
    on_stmt n c b e (in_eval m y d) one is q made = absurd (none_there x is)
    on_stmt n c b e (in_condition m y s o d) one is q made = absurd (none_there x is)
    on_stmt n c b e (in_then m y s statement.no_else d) one is q (p, z, r, inner, one_side, other_side, made) =
        let all : locals_in q.tree ≡ locals_in z.tree + locals_in_else r.tree = ap (λ (u : Rewritten (statement.Stmt Span)). locals_in u.tree) made in
        let none : locals_in_else r.tree ≡ 0 = ap (λ (o : Rewritten (statement.Else Span)). locals_in_else o.tree) other_side in
        omega (arith, all, none, on_stmt n c _ (begins m e) d (one_then m y s statement.no_else d one) is z one_side)
    on_stmt n c b e (in_then m y s (statement.otherwise u) d) one is q (p, z, r, inner, one_side, (v, else_side, made_else), made) =
        let all : locals_in q.tree ≡ locals_in z.tree + locals_in_else r.tree = ap (λ (u : Rewritten (statement.Stmt Span)). locals_in u.tree) made in
        let back : locals_in_else r.tree ≡ locals_in v.tree = ap (λ (o : Rewritten (statement.Else Span)). locals_in_else o.tree) made_else in
        omega (arith, all, back, stmt_apart (n + locals_in s) c _ u v (none_else m y s u d one) else_side, on_stmt n c _ (begins m e) d (one_then m y s (statement.otherwise u) d one) is z one_side)
    on_stmt n c b e (in_else m y s u d) one is q (p, z, r, inner, one_side, (v, else_side, made_else), made) =
        let all : locals_in q.tree ≡ locals_in z.tree + locals_in_else r.tree = ap (λ (u : Rewritten (statement.Stmt Span)). locals_in u.tree) made in
        let back : locals_in_else r.tree ≡ locals_in v.tree = ap (λ (o : Rewritten (statement.Else Span)). locals_in_else o.tree) made_else in
        omega (arith, all, back, stmt_apart n c _ s z (none_then m y s u d one) one_side, on_stmt (n + locals_in s) c _ (begins m e) d (one_else m y s u d one) is v else_side)
    on_stmt n c b e (in_turning m y s d) one is q made = absurd (none_there x is)
    on_stmt n c b e (in_body m y s d) one is q (p, z, inner, body, made) = ap (λ (u : Rewritten (statement.Stmt Span)). locals_in u.tree) made ∙ on_stmt n c _ (begins m e) d (one_body m y s d one) is z body
    on_stmt n c b e (in_returned m y d) one is q made = absurd (none_there x is)
    on_stmt n c b e (in_block m u d) one is q (p, inner, made) =
        ap (λ (u : Rewritten (statement.Stmt Span)). locals_in u.tree) made ∙ on_list n c _ (begins m e) d (one_block m u d one) (some_there (nearest begins (inside begins m (place n c e)) d) x is) p inner
    on_stmt n c b e (in_lock m y u d) one is q made = absurd (none_there x is)
    on_stmt n c b e (in_locked m y u d) one is q (p, z, inner, rest, made) =
        ap (λ (u : Rewritten (statement.Stmt Span)). locals_in u.tree) made ∙ on_list n c _ (begins m e) d (one_locked m y u d one) (some_there (nearest begins (inside begins m (place n c e)) d) x is) z rest

    pub on_list : {xs : statement.Stmts Span} (n : ℕ) (c : Context) (b e : ℕ) (d : ListWay f xs) → OneList d → nearest begins (place n c e) d ≡ x → (q : Rewritten (statement.Stmts Span)) → TransformsList itself C S n c b xs q → locals_in_row q.tree ≡ suc (locals_in_row xs)
    on_list n c b e (first s ss d) one is q made = at_first n c b e s ss q d one made (λ within_is p h. on_stmt n c b e d (one_first d one) within_is p h) (element_within begins (place n c e) d) refl is
    on_list n c b e (later s ss d) one is q made =
        let by = other n c b (statement.more s ss) q (TransformsStmts itself C S n c b (statement.more s ss) q) (not_later begins x straight s ss d one) made in
        let all : locals_in_row q.tree ≡ locals_in by.0.tree + locals_in_row by.1.tree = ap (λ (z : Rewritten (statement.Stmts Span)). locals_in_row z.tree) by.4 in
        omega (arith, all, stmt_apart n c b s by.0 (none_in_front d one) by.2, on_list (n + locals_in s) (after n c s) b e d (one_later d one) is by.1 by.3)
