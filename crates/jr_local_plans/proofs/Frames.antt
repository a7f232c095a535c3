-- A body but for what binding knows of it: what is found in it depends on no more.
use Rattle.std.proofs.Common.{◌≡◌, ℕ, Some, sym, ap, ◌∙◌}
use Rattle.jr_text.specs.declared.spans.Span.{Span}
use Rattle.jr_ast.specs.Tree as tree
use Rattle.jr_ast.specs.StatementTree as statement
use Rattle.jr_ast.specs.MemberTree as syntax
use Rattle.jr_table.specs.Decls.{MemberKey}
use Rattle.jr_table.specs.Errors.{Part, class_part, member_part}
use Rattle.jr_bind.specs.Bounds.{Bound}
use Rattle.jr_pieces.specs.Ways.{ListWay}
use Rattle.jr_pieces.specs.Standings.{Standing, at_list}
use Rattle.jr_pieces.specs.Nearest.{Element, nearest}
use Rattle.jr_local.specs.Bodies.{begins, Body, body_of}
use Rattle.jr_local_texts.proofs.StandingBodies.{no_body, same_body}

pub record Frame : Type 0 where
  pub key : MemberKey
  pub at : Standing
  pub list : statement.Stmts Span
  pub front : ℕ

abbrev pub frame_of : Body → Frame
frame_of b = record { key = b.key; at = b.at; list = b.list; front = b.front }

abbrev pub with_bound : Frame → Bound → Body
with_bound f x = record { key = f.key; at = f.at; list = f.list; front = f.front; bound = x }

-- an expression of a body, with the way to it
pub record Placed : Type 0 where
  pub frame : Frame
  pub value : tree.Exp Span
  pub way : ListWay value frame.list

abbrev pub placed : (b : Body) (f : tree.Exp Span) → ListWay f b.list → Placed
placed b f d = record { frame = frame_of b; value = f; way = d }

abbrev pub element_of : (c : Placed) → Element c.value
element_of c = nearest begins c.frame.at c.way

abbrev pub at_of : Placed → Standing
at_of c = at_list begins c.frame.at c.way

-- ---- of one part

module _ (k : MemberKey) (base : ℕ) (part : Part Span) where
  pub one_frame : (x y : Bound) (a b : Body) → body_of k base part x ≡ Some a → body_of k base part y ≡ Some b → frame_of a ≡ frame_of b
  one_frame x y a b e f = by part e f
    where
      by : (part : Part Span) → body_of k base part x ≡ Some a → body_of k base part y ≡ Some b → frame_of a ≡ frame_of b
      by (class_part c) e f = absurd (no_body a e)
      by (member_part (syntax.field m mods t w init)) e f = absurd (no_body a e)
      by (member_part (syntax.inner m c)) e f = absurd (no_body a e)
      by (member_part (syntax.method m mods t w ps body)) e f = sym (ap frame_of (same_body _ a e)) ∙ ap frame_of (same_body _ b f)
      by (member_part (syntax.constructor m mods w ps args body)) e f = sym (ap frame_of (same_body _ a e)) ∙ ap frame_of (same_body _ b f)

  pub bound_again : (x y : Bound) (a : Body) → body_of k base part x ≡ Some a → body_of k base part y ≡ Some (with_bound (frame_of a) y)
  bound_again x y a e = by part e
    where
      by : (part : Part Span) → body_of k base part x ≡ Some a → body_of k base part y ≡ Some (with_bound (frame_of a) y)
      by (class_part c) e = absurd (no_body a e)
      by (member_part (syntax.field m mods t w init)) e = absurd (no_body a e)
      by (member_part (syntax.inner m c)) e = absurd (no_body a e)
      by (member_part (syntax.method m mods t w ps body)) e = ap (λ (z : Body). Some (with_bound (frame_of z) y)) (same_body _ a e)
      by (member_part (syntax.constructor m mods w ps args body)) e = ap (λ (z : Body). Some (with_bound (frame_of z) y)) (same_body _ a e)

  pub has_bound : (x : Bound) (a : Body) → body_of k base part x ≡ Some a → a.bound ≡ x
  has_bound x a e = by part e
    where
      by : (part : Part Span) → body_of k base part x ≡ Some a → a.bound ≡ x
      by (class_part c) e = absurd (no_body a e)
      by (member_part (syntax.field m mods t w init)) e = absurd (no_body a e)
      by (member_part (syntax.inner m c)) e = absurd (no_body a e)
      by (member_part (syntax.method m mods t w ps body)) e = sym (ap (λ (z : Body). z.bound) (same_body _ a e))
      by (member_part (syntax.constructor m mods w ps args body)) e = sym (ap (λ (z : Body). z.bound) (same_body _ a e))

  pub has_key : (x : Bound) (a : Body) → body_of k base part x ≡ Some a → a.key ≡ k
  has_key x a e = by part e
    where
      by : (part : Part Span) → body_of k base part x ≡ Some a → a.key ≡ k
      by (class_part c) e = absurd (no_body a e)
      by (member_part (syntax.field m mods t w init)) e = absurd (no_body a e)
      by (member_part (syntax.inner m c)) e = absurd (no_body a e)
      by (member_part (syntax.method m mods t w ps body)) e = sym (ap (λ (z : Body). z.key) (same_body _ a e))
      by (member_part (syntax.constructor m mods w ps args body)) e = sym (ap (λ (z : Body). z.key) (same_body _ a e))
