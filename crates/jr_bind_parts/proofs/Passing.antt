-- What a walk knows behind each kind of statement, from what it knows behind its parts.
use Rattle.std.proofs.Common.{◌≡◌, ℕ, ◌+◌, List, ◌++◌, Option, Some, None, Bool, true, length, take, refl, sym, ap, subst, ◌∙◌, append_assoc, arith}
use Rattle.std.specs.Prelude.{not, ◌&&◌, ◌||◌}
use Rattle.jr_ast.specs.Tree as tree
use Rattle.jr_ast.specs.StatementTree as statement
use Rattle.jr_ast.specs.declared.stmts.Stmt.{Stmt}
use Rattle.jr_ast.specs.View.{stmt_of}
use Rattle.jr_ast.proofs.Rows.{stmt_mark_is}
use Rattle.jr_table.specs.Decls.{MemberKey}
use Rattle.jr_table.specs.Rows.{Row}
use Rattle.jr_table.specs.Context.{Context, local_of, in_own, with_local, locals_in, locals_in_else, locals_in_row}
use Rattle.jr_table.specs.Binding.{value}
use Rattle.jr_table.specs.Binding as role
use Rattle.jr_table.specs.declared.rules.Rule.TheVariants as rule
use Rattle.jr_table.specs.Notes.{Note, breaks, unless, own_stmt_notes, is_true_literal, completes, else_completes, list_completes}
use Rattle.jr_table.specs.Walks.{notes_of, maybe_notes, stmt_notes, else_notes, stmts_notes, body_notes}
use Rattle.jr_bind_parts.specs.declared.completing.Behind.{Behind}
use Rattle.jr_bind_expr.specs.declared.places.Place.{Place}
use Rattle.jr_scopes.specs.declared.locals.Locals.{Locals}
use Rattle.jr_scopes.specs.Tracked.{Tracked, locals_of}
use Rattle.jr_bind_expr.specs.declared.findings.Note as raw
use Rattle.jr_bind_expr.specs.Places.{member_of, context_of, Knows}
use Rattle.jr_bind_expr.specs.Logs.{Adds}
use Rattle.jr_bind_expr.specs.Logs as logs
use Rattle.jr_bind_parts.specs.Flow.{reached, unreached, behind_branches, behind_loop, behind_both, Passes, StmtPasses, InnerPasses, ElsePasses, BodyPasses, ItemPasses}
use Rattle.jr_bind_parts.specs.StmtArms.{checked_notes, looped_notes, locked_notes, returned_notes, local_notes}
use Rattle.jr_bind_expr.proofs.Adding.{adds_exact, adds_none, adds_then}
use Rattle.jr_bind_parts.proofs.Bodies.{Inside, inside_same, inside_after, cut_back, cut_context, cut_knows}

-- one context, one member
pub member_is : (p q : Place) → context_of q ≡ context_of p → member_of q ≡ member_of p
unfolding context_of
member_is p q h = ap (λ (c : Context). c.member) h

regroup_three : (a b c : List Note) → ((a ++ b) ++ c) ≡ (a ++ (b ++ c))
regroup_three a b c = append_assoc a b c

regroup_four : (a b c d : List Note) → (((a ++ b) ++ c) ++ d) ≡ (a ++ (b ++ (c ++ d)))
regroup_four a b c d = append_assoc (a ++ b) c d ∙ append_assoc a b (c ++ d)

other_sum : (n a b c : ℕ) → a ≡ n + b → a + c ≡ n + (b + c)
other_sum n a b c h = omega (arith, h)

module _ {A : Type 0} (B : A → ℕ → ℕ) (rows : List Row) (number : ℕ) (p : Place) (knows : Knows rows p) (base at : ℕ) (m : A) (start : at ≡ B m base) where
  abbrev k : MemberKey
  k = member_of p

  abbrev c : Context
  c = context_of p

  abbrev N : List raw.Note → List Note
  N log = logs.notes_of rows k log

  pub empty_passes : (old : List raw.Note) → StmtPasses B rows number p base (statement.empty m) old (reached number) p old
  unfolding locals_in completes stmt_notes own_stmt_notes
  empty_passes old = record {
    number_is = omega arith;
    completes_is = refl;
    context = refl;
    knows = knows;
    notes = adds_none (N old);
  }

  pub eval_passes : (e : tree.Exp A) (old new : List raw.Note) → Adds (N old) (notes_of B rows c role.statement at e) (N new) → StmtPasses B rows number p base (statement.eval m e) old (reached number) p new
  unfolding locals_in completes stmt_notes own_stmt_notes
  eval_passes e old new h = record {
    number_is = omega arith;
    completes_is = refl;
    context = refl;
    knows = knows;
    notes = subst (λ (a : ℕ). Adds (N old) (notes_of B rows c role.statement a e) (N new)) start h;
  }

  pub return_passes : (e : Option (tree.Exp A)) (old new : List raw.Note) → Adds (N old) (returned_notes B rows c at e ++ maybe_notes B rows c at e) (N new) → StmtPasses B rows number p base (statement.return m e) old (unreached number) p new
  unfolding locals_in completes stmt_notes own_stmt_notes context_of
  return_passes None old new h = record {
    number_is = omega arith;
    completes_is = refl;
    context = refl;
    knows = knows;
    notes = subst (λ (a : ℕ). Adds (N old) (returned_notes B rows c a None ++ maybe_notes B rows c a None) (N new)) start h;
  }
  return_passes (Some e) old new h = record {
    number_is = omega arith;
    completes_is = refl;
    context = refl;
    knows = knows;
    notes = subst (λ (a : ℕ). Adds (N old) (returned_notes B rows c a (Some e) ++ maybe_notes B rows c a (Some e)) (N new)) start h;
  }

  pub local_passes : (f : Bool) (t : tree.TypeName A) (w : tree.Word A) (e : tree.Exp A) (b : Behind) (q : Place) (old new : List raw.Note)
      → Passes rows k (number + 1) true (with_local c (local_of c number f t w)) (N old) (local_notes B rows c at number f t w e ++ notes_of B rows (in_own c (local_of c number f t w)) value at e) b q new
      → StmtPasses B rows number p base (statement.local m f t w e) old b q new
  unfolding locals_in completes stmt_notes own_stmt_notes
  local_passes f t w e b q old new h = record {
    number_is = h.number_is;
    completes_is = h.completes_is;
    context = h.context;
    knows = h.knows;
    notes = subst (λ (a : ℕ). Adds (N old) (local_notes B rows c a number f t w e ++ notes_of B rows (in_own c (local_of c number f t w)) value a e) (N new)) start h.notes;
  }

  pub loop_passes : (e : tree.Exp A) (x : statement.Stmt A) (b : Behind) (q : Place) (is_endless : Bool) (old mid new : List raw.Note)
      → Adds (N old) (looped_notes B rows c at e ++ notes_of B rows c value at e) (N mid)
      → InnerPasses B rows number p at x mid b q new
      → is_endless ≡ is_true_literal e
      → StmtPasses B rows number p base (statement.loop m e x) old (behind_loop b is_endless) q new
  unfolding locals_in completes stmt_notes own_stmt_notes
  loop_passes e x b q is_endless old mid new h inner is = record {
    number_is = inner.number_is;
    completes_is = ap not is;
    context = inner.context;
    knows = inner.knows;
    notes = subst (λ (a : ℕ). Adds (N old) (looped_notes B rows c a e ++ (notes_of B rows c value a e ++ stmt_notes B rows number c a x)) (N new)) start
        (subst (λ (ns : List Note). Adds (N old) ns (N new)) (regroup_three (looped_notes B rows c at e) (notes_of B rows c value at e) (stmt_notes B rows number c at x))
        (adds_then (N old) (N mid) (N new) _ _ h inner.notes));
  }

  pub branch_passes : (e : tree.Exp A) (x : statement.Stmt A) (other : statement.Else A) (left right : Behind) (q r : Place) (old first second new : List raw.Note)
      → Adds (N old) (checked_notes B rows c at e ++ notes_of B rows c value at e) (N first)
      → InnerPasses B rows number p at x first left q second
      → ElsePasses B rows left.number q at other second right r new
      → StmtPasses B rows number p base (statement.branch m e x other) old (behind_branches left right) r new
  unfolding locals_in locals_in_else completes else_completes stmt_notes else_notes own_stmt_notes
  branch_passes e x other left right q r old first second new h inner last =
      let same = member_is p q inner.context in
      let behind : Adds (N second) (else_notes B rows (number + locals_in x) c at other) (N new) =
      subst (λ (j : MemberKey). Adds (logs.notes_of rows j second) (else_notes B rows (number + locals_in x) c at other) (logs.notes_of rows j new)) same
      (subst (λ (d : Context). Adds (logs.notes_of rows (member_of q) second) (else_notes B rows (number + locals_in x) d at other) (logs.notes_of rows (member_of q) new)) inner.context
      (subst (λ (n : ℕ). Adds (logs.notes_of rows (member_of q) second) (else_notes B rows n (context_of q) at other) (logs.notes_of rows (member_of q) new)) inner.number_is last.notes)) in
      record {
        number_is = last.number_is ∙ other_sum number left.number (locals_in x) (locals_in_else other) inner.number_is;
        completes_is = λ i. last.completes_is i || inner.completes_is i;
        context = last.context ∙ inner.context;
        knows = last.knows;
        notes = subst (λ (a : ℕ). Adds (N old) (checked_notes B rows c a e ++ (notes_of B rows c value a e ++ (stmt_notes B rows number c a x ++ else_notes B rows (number + locals_in x) c a other))) (N new)) start
            (subst (λ (ns : List Note). Adds (N old) ns (N new)) (regroup_four (checked_notes B rows c at e) (notes_of B rows c value at e) (stmt_notes B rows number c at x) (else_notes B rows (number + locals_in x) c at other))
            (adds_then (N old) (N second) (N new) _ _ (adds_then (N old) (N first) (N second) _ _ h inner.notes) behind));
      }

  pub block_passes : (body : statement.Stmts A) (b : Behind) (q : Place) (old new : List raw.Note)
      → BodyPasses B rows number p at body old b q new → StmtPasses B rows number p base (statement.block m body) old b q new
  unfolding locals_in locals_in_row completes list_completes stmt_notes stmts_notes own_stmt_notes
  block_passes body b q old new h = record {
    number_is = h.number_is;
    completes_is = h.completes_is;
    context = h.context;
    knows = h.knows;
    notes = subst (λ (a : ℕ). Adds (N old) (body_notes B rows number c a body) (N new)) start h.notes;
  }

  pub sync_passes : (e : tree.Exp A) (body : statement.Stmts A) (b : Behind) (q : Place) (old mid new : List raw.Note)
      → Adds (N old) (locked_notes B rows c at e ++ notes_of B rows c value at e) (N mid)
      → BodyPasses B rows number p at body mid b q new → StmtPasses B rows number p base (statement.sync m e body) old b q new
  unfolding locals_in locals_in_row completes list_completes stmt_notes stmts_notes own_stmt_notes
  sync_passes e body b q old mid new h inner = record {
    number_is = inner.number_is;
    completes_is = inner.completes_is;
    context = inner.context;
    knows = inner.knows;
    notes = subst (λ (a : ℕ). Adds (N old) (locked_notes B rows c a e ++ (notes_of B rows c value a e ++ body_notes B rows number c a body)) (N new)) start
        (subst (λ (ns : List Note). Adds (N old) ns (N new)) (regroup_three (locked_notes B rows c at e) (notes_of B rows c value at e) (body_notes B rows number c at body))
        (adds_then (N old) (N mid) (N new) _ _ h inner.notes));
  }

module _ {A : Type 0} (B : A → ℕ → ℕ) (rows : List Row) (number : ℕ) (p : Place) where
  pub none_passes : Knows rows p → (at : ℕ) (old : List raw.Note) → ElsePasses B rows number p at statement.no_else old (reached number) p old
  unfolding locals_in locals_in_else completes else_completes stmt_notes else_notes
  none_passes knows at old = record {
    number_is = omega arith;
    completes_is = refl;
    context = refl;
    knows = knows;
    notes = adds_none (logs.notes_of rows (member_of p) old);
  }

  pub some_passes : (at : ℕ) (x : statement.Stmt A) (old : List raw.Note) (b : Behind) (q : Place) (new : List raw.Note) → InnerPasses B rows number p at x old b q new → ElsePasses B rows number p at (statement.otherwise x) old b q new
  unfolding locals_in locals_in_else completes else_completes stmt_notes else_notes
  some_passes at x old b q new h = record {
    number_is = h.number_is;
    completes_is = h.completes_is;
    context = h.context;
    knows = h.knows;
    notes = h.notes;
  }

  pub inner_passes : (at : ℕ) (x : statement.Stmt A) (old : List raw.Note) (b : Behind) (q : Place) (new : List raw.Note) (depth : ℕ) (v : Locals)
      → depth ≡ length (locals_of p.locals) → locals_of v ≡ take depth (locals_of q.locals) → Tracked v
      → StmtPasses B rows number p at x old b q new → InnerPasses B rows number p at x old b (cut_back q v p.own) new
  inner_passes at x old b q new depth v deep is tracked h =
      let inside = subst (λ (d : Context). Inside (context_of p) d) (sym h.context) (inside_after number (context_of p) (context_of p) x (inside_same (context_of p))) in
      let cut = is ∙ ap (λ (n : ℕ). take n (locals_of q.locals)) deep in
      record {
        number_is = h.number_is;
        completes_is = h.completes_is;
        context = cut_context p q v inside cut;
        knows = cut_knows rows q v (length (locals_of p.locals)) p.own cut tracked h.knows;
        notes = h.notes;
      }

-- a statement of a list, whose first byte is `begin`
module _ {A : Type 0} (B : A → ℕ → ℕ) (rows : List Row) (before : Behind) (p : Place) (at : ℕ) (x : Stmt A) (begin : ℕ) (start : begin ≡ B x.mark at) where
  pub item_passes : (old mid new : List raw.Note) (b : Behind) (q : Place)
      → logs.notes_of rows (member_of p) mid ≡ logs.notes_of rows (member_of p) old ++ unless before.completes (breaks begin rule.Unreachable)
      → StmtPasses B rows before.number p at (stmt_of x) mid b q new
      → ItemPasses B rows before.number p at before.completes (stmt_of x) old (behind_both before b) q new
  item_passes old mid new b q put h = record {
    number_is = h.number_is;
    completes_is = ap (λ t. before.completes && t) h.completes_is;
    context = h.context;
    knows = h.knows;
    notes = subst (λ (n : ℕ). Adds (logs.notes_of rows (member_of p) old) (unless before.completes (breaks n rule.Unreachable) ++ stmt_notes B rows before.number (context_of p) at (stmt_of x)) (logs.notes_of rows (member_of p) new))
        (start ∙ ap (λ (m : A). B m at) (sym (stmt_mark_is x)))
        (adds_then _ _ _ _ _ (adds_exact _ _ _ put) h.notes);
  }
