-- Behind a place from which on locals have numbers from one on, they stay in order.
use Rattle.std.proofs.Common.{◌≡◌, ℕ, ◌+◌, Bool, List, [], ◌∷◌, ◌++◌, refl, sym, ap, subst, ◌∙◌, arith}
use Rattle.std.proofs.lemmas.List.{append_assoc}
use Rattle.jr_text.specs.declared.spans.Span.{Span}
use Rattle.jr_ast.specs.Tree as tree
use Rattle.jr_ast.specs.StatementTree as statement
use Rattle.jr_table.specs.Keys.{ClassKey, class}
use Rattle.jr_table.specs.Decls.{MemberKey, class_decl}
use Rattle.jr_table.specs.Rows.{Row}
use Rattle.jr_table.specs.Entries.{IsRowOf}
use Rattle.jr_table.specs.Context.{Context, Local, known, local_of, local_type, locals_in}
use Rattle.jr_pieces.specs.Standings.{Standing, inside, behind, in_other, in_initializer}
use Rattle.jr_local_walks.specs.Contexts.{Each, IsOf, IsLate, IsTyped, InMember, InOrder, IsOrdered, IsWithin}
use Rattle.jr_local_walks.proofs.Lasts.{each_both}

-- what is written is no known class
pub written_typed : (rows : List Row) (t : tree.TypeName Span) (b : ClassKey) → local_type t ≡ known (class b) → (j : ℕ) × IsRowOf rows (class_decl b) j
written_typed rows (tree.int m) b e = absurd cc
written_typed rows (tree.boolean m) b e = absurd cc
written_typed rows (tree.named m o w) b e = absurd cc

module _ (begins : Span → ℕ → ℕ) (rows : List Row) (k : MemberKey) (n depth : ℕ) where
  -- ---- behind the number

  grown : (c d : Context) (l : Local) → d.member ≡ c.member → d.locals ≡ c.locals ++ l ∷ [] → IsLate k n l → IsTyped rows l → InOrder rows k n depth (IsLate k n) c → InOrder rows k n depth (IsLate k n) d
  grown c d l same more late typed o = record {
    member = same ∙ o.member;
    early = o.early;
    late = o.late ++ l ∷ [];
    locals = more ∙ ap (λ (ls : List Local). ls ++ l ∷ []) o.locals ∙ append_assoc o.early o.late (l ∷ []);
    depth_is = o.depth_is;
    are_early = o.are_early;
    are_late = each_both (IsLate k n) o.late (l ∷ []) o.are_late (late, tt);
    typed = subst (λ (ls : List Local). Each (IsTyped rows) ls) (sym more) (each_both (IsTyped rows) c.locals (l ∷ []) o.typed (typed, tt));
  }

  pub order_within : (m : Span) (p : Standing) → IsOrdered rows k n depth p → IsOrdered rows k n depth (inside begins m p)
  order_within m p h = h

  pub order_own : (m : Span) (f : Bool) (t : tree.TypeName Span) (w : tree.Word Span) (p : Standing) → IsOrdered rows k n depth p → IsOrdered rows k n depth (in_initializer begins m f t w p)
  order_own m f t w p (le, o) =
      (le, grown p.context (in_initializer begins m f t w p).context (local_of p.context p.next f t w) refl refl (o.member, le) (written_typed rows t) o)

  pub order_behind : (x : statement.Stmt Span) (p : Standing) → IsOrdered rows k n depth p → IsOrdered rows k n depth (behind begins x p)
  unfolding locals_in
  order_behind (statement.local m f t w e) p (le, o) =
      (omega (arith, le), grown p.context (behind begins (statement.local m f t w e) p).context (local_of p.context p.next f t w) refl refl (o.member, le) (written_typed rows t) o)
  order_behind (statement.eval m e) p (le, o) = (omega (arith, le), o)
  order_behind (statement.branch m e s x) p (le, o) = (omega (arith, le), o)
  order_behind (statement.loop m e s) p (le, o) = (omega (arith, le), o)
  order_behind (statement.return m e) p (le, o) = (omega (arith, le), o)
  order_behind (statement.block m b) p (le, o) = (omega (arith, le), o)
  order_behind (statement.sync m e b) p (le, o) = (omega (arith, le), o)
  order_behind (statement.empty m) p (le, o) = (omega (arith, le), o)

  pub order_other : (m : Span) (x : statement.Stmt Span) (p : Standing) → IsOrdered rows k n depth p → IsOrdered rows k n depth (in_other begins m x p)
  order_other m x p (le, o) = (omega (arith, le), o)

  -- ---- in a member

  spread : (c d : Context) (l : Local) → d.member ≡ c.member → d.locals ≡ c.locals ++ l ∷ [] → IsOf k l → IsTyped rows l → InMember rows k c → InMember rows k d
  spread c d l same more of typed x = record {
    member = same ∙ x.member;
    of = subst (λ (ls : List Local). Each (IsOf k) ls) (sym more) (each_both (IsOf k) c.locals (l ∷ []) x.of (of, tt));
    typed = subst (λ (ls : List Local). Each (IsTyped rows) ls) (sym more) (each_both (IsTyped rows) c.locals (l ∷ []) x.typed (typed, tt));
  }

  pub member_own : (m : Span) (f : Bool) (t : tree.TypeName Span) (w : tree.Word Span) (p : Standing) → IsWithin rows k p → IsWithin rows k (in_initializer begins m f t w p)
  member_own m f t w p x = spread p.context (in_initializer begins m f t w p).context (local_of p.context p.next f t w) refl refl x.member (written_typed rows t) x

  pub member_behind : (x : statement.Stmt Span) (p : Standing) → IsWithin rows k p → IsWithin rows k (behind begins x p)
  member_behind (statement.local m f t w e) p x = spread p.context (behind begins (statement.local m f t w e) p).context (local_of p.context p.next f t w) refl refl x.member (written_typed rows t) x
  member_behind (statement.eval m e) p x = x
  member_behind (statement.branch m e s o) p x = x
  member_behind (statement.loop m e s) p x = x
  member_behind (statement.return m e) p x = x
  member_behind (statement.block m b) p x = x
  member_behind (statement.sync m e b) p x = x
  member_behind (statement.empty m) p x = x
