-- Along a way the member is the same, and classes that are known of locals have rows.
use Rattle.std.proofs.Common.{◌≡◌, ℕ, ◌+◌, Bool, List, [], ◌∷◌, ◌++◌, length, refl, sym, ap, subst, ◌∙◌, arith}
use Rattle.std.proofs.lemmas.List.{append-nil, length-append, nil_from_length}
use Rattle.jr_text.specs.declared.spans.Span.{Span}
use Rattle.jr_ast.specs.Tree as tree
use Rattle.jr_ast.specs.StatementTree as statement
use Rattle.jr_table.specs.Keys.{ClassKey, class}
use Rattle.jr_table.specs.Rows.{Row}
use Rattle.jr_table.specs.Decls.{MemberKey, class_decl}
use Rattle.jr_table.specs.Entries.{IsRowOf}
use Rattle.jr_table.specs.Context.{Context, Local, known, local_of, local_type}
use Rattle.jr_pieces.specs.Ways.{StmtWay, in_init, in_eval, in_condition, in_then, in_else, in_turning, in_body, in_returned, in_block, in_lock, in_locked, ListWay, first, later}
use Rattle.jr_pieces.specs.Standings.{Standing, inside, behind, in_other, in_initializer, at_stmt, at_list}
use Rattle.jr_way_places.proofs.Walked.{exp_context}
use Rattle.jr_bodies.specs.Bodies.{begins}
use Rattle.jr_local_ways.specs.Elements.{entered}
use Rattle.jr_local_walks.specs.Contexts.{Each, IsEarly, IsLate, IsOwn, IsTyped, InOrder}

-- what is written is no known class
written_typed : (rows : List Row) (t : tree.TypeName Span) (b : ClassKey) → local_type t ≡ known (class b) → (j : ℕ) × IsRowOf rows (class_decl b) j
written_typed rows (tree.int m) b e = absurd cc
written_typed rows (tree.boolean m) b e = absurd cc
written_typed rows (tree.named m o w) b e = absurd cc

each_both : {X : Type 0} (F : X → Type 0) (xs ys : List X) → Each F xs → Each F ys → Each F (xs ++ ys)
each_both F [] ys h k = k
each_both F (x ∷ xs) ys h k = (h.0, each_both F xs ys h.1 k)

module _ (rows : List Row) (k : MemberKey) where
  abbrev pub IsWithin : Context → Type 0
  IsWithin c = (c.member ≡ k) × Each (IsTyped rows) c.locals

  one_more : (c : Context) (n : ℕ) (f : Bool) (t : tree.TypeName Span) (w : tree.Word Span) → Each (IsTyped rows) c.locals → Each (IsTyped rows) (c.locals ++ local_of c n f t w ∷ [])
  one_more c n f t w h = each_both (IsTyped rows) c.locals (local_of c n f t w ∷ []) h (written_typed rows t, tt)

  within_behind : (s : statement.Stmt Span) (p : Standing) → IsWithin p.context → IsWithin (behind begins s p).context
  within_behind (statement.local m f t w e) p h = (h.0, one_more p.context p.next f t w h.1)
  within_behind (statement.eval m e) p h = h
  within_behind (statement.branch m c s o) p h = h
  within_behind (statement.loop m c s) p h = h
  within_behind (statement.return m e) p h = h
  within_behind (statement.block m b) p h = h
  within_behind (statement.sync m e b) p h = h
  within_behind (statement.empty m) p h = h

  module _ {f : tree.Exp Span} where
    mutual
      stmt_within : {s : statement.Stmt Span} (p : Standing) (d : StmtWay f s) → IsWithin p.context → IsWithin (at_stmt begins p d).context
      stmt_within p (in_init m is_final t w e d) h = subst IsWithin (sym (exp_context begins (in_initializer begins m is_final t w p) d)) (h.0, one_more p.context p.next is_final t w h.1)
      stmt_within p (in_eval m e d) h = subst IsWithin (sym (exp_context begins (inside begins m p) d)) h
      stmt_within p (in_condition m c s o d) h = subst IsWithin (sym (exp_context begins (inside begins m p) d)) h
      stmt_within p (in_then m c s o d) h = stmt_within (inside begins m p) d h
      stmt_within p (in_else m c s o d) h = stmt_within (in_other begins m s p) d h
      stmt_within p (in_turning m c s d) h = subst IsWithin (sym (exp_context begins (inside begins m p) d)) h
      stmt_within p (in_body m c s d) h = stmt_within (inside begins m p) d h
      stmt_within p (in_returned m e d) h = subst IsWithin (sym (exp_context begins (inside begins m p) d)) h
      stmt_within p (in_block m b d) h = list_within (inside begins m p) d h
      stmt_within p (in_lock m e b d) h = subst IsWithin (sym (exp_context begins (inside begins m p) d)) h
      stmt_within p (in_locked m e b d) h = list_within (inside begins m p) d h

      pub list_within : {b : statement.Stmts Span} (p : Standing) (d : ListWay f b) → IsWithin p.context → IsWithin (at_list begins p d).context
      list_within p (first s ss d) h = stmt_within p d h
      list_within p (later s ss d) h = list_within (behind begins s p) d (within_behind s p h)

  -- ---- at an element, and in its initializer

  module _ (n : ℕ) (c : Context) (o : InOrder rows k n (length c.locals) (IsLate k n) c) where
    -- nothing stands behind those in front
    none_late : o.late ≡ []
    none_late =
        let whole : length c.locals ≡ length (o.early ++ o.late) = ap length o.locals in
        let parts : length (o.early ++ o.late) ≡ length o.early + length o.late = length-append o.early o.late in
        let deep = o.depth_is in
        nil_from_length o.late (omega (arith, whole, parts, deep))

    all_early : Each (IsEarly k n) c.locals
    all_early = subst (λ (ls : List Local). Each (IsEarly k n) ls) (sym (o.locals ∙ ap (λ (ls : List Local). o.early ++ ls) none_late ∙ append-nil o.early)) o.are_early

    as_it_is : InOrder rows k n (length c.locals) (IsOwn k n) c
    as_it_is = record { member = o.member; early = c.locals; late = []; locals = sym (append-nil c.locals); depth_is = refl; are_early = all_early; are_late = tt; typed = o.typed }

    pub in_order : (s : statement.Stmt Span) → InOrder rows k n (length c.locals) (IsOwn k n) (entered n s c)
    in_order (statement.local m f t w e) = record {
      member = o.member;
      early = c.locals;
      late = local_of c n f t w ∷ [];
      locals = refl;
      depth_is = refl;
      are_early = all_early;
      are_late = ((o.member, refl), tt);
      typed = one_more c n f t w o.typed;
    }
    in_order (statement.eval m e) = as_it_is
    in_order (statement.branch m c s x) = as_it_is
    in_order (statement.loop m c s) = as_it_is
    in_order (statement.return m e) = as_it_is
    in_order (statement.block m b) = as_it_is
    in_order (statement.sync m e b) = as_it_is
    in_order (statement.empty m) = as_it_is
