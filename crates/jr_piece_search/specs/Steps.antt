-- The part of an expression into which a search by a span goes: exact.
use Rattle.std.specs.Prelude.{
  ℕ,
  suc,
  Bool,
  true,
  false,
  Option,
  Some,
  None,
  option_map,
  if◌then◌else◌,
}
use Rattle.jr_text.specs.declared.spans.Span.{Span}
use Rattle.jr_ast.specs.declared.operators.BinOp.{BinOp}
use Rattle.jr_ast.specs.declared.operators.BinOp.TheVariants.{
  Or,
  And,
  Eq,
  Ne,
  Lt,
  Gt,
  Le,
  Ge,
  Add,
  Sub,
  Mul,
  Div,
  Rem,
}
use Rattle.jr_ast.specs.Tree as tree
use Rattle.jr_ast.specs.Marks.{exp_mark}
use Rattle.jr_grammar.specs.Layout.{itself}
use Rattle.jr_pieces.specs.Finding.{is_behind}
use Rattle.jr_pieces.specs.Uses.{Use, valued, assigned, changed}

-- into a part by its number, which is used so, and which the operator may leave out
pub record Step : Type 0 where
  pub number : ℕ
  pub usage : Use
  pub lazy : Bool
  pub part : tree.Exp Span

-- an argument by its number
pub record Chosen : Type 0 where
  pub number : ℕ
  pub part : tree.Exp Span

abbrev pub into : ℕ → Use → Bool → tree.Exp Span → Option Step
into i u lazy e = Some (record { number = i; usage = u; lazy = lazy; part = e })

abbrev pub is_lazy : BinOp → Bool
is_lazy Or = true
is_lazy And = true
is_lazy Eq = false
is_lazy Ne = false
is_lazy Lt = false
is_lazy Gt = false
is_lazy Le = false
is_lazy Ge = false
is_lazy Add = false
is_lazy Sub = false
is_lazy Mul = false
is_lazy Div = false
is_lazy Rem = false

abbrev pub as_argument : Chosen → Step
as_argument c = record { number = c.number; usage = valued; lazy = false; part = c.part }

module _ (s : Span) where
  abbrev pub in_two : Use → (lazy : Bool) → (l r : tree.Exp Span) → Option Step
  in_two u lazy l r =
      if is_behind itself s (exp_mark l) then into 1 valued lazy r else into 0 u false l

  -- arguments have numbers from this one on
  unfoldable pub choose : (first : ℕ) → tree.Exps Span → Option Chosen
  choose i tree.end = None
  choose i (tree.more e es) = if is_behind itself s (exp_mark e) then choose (suc i) es
      else Some (record { number = i; part = e })

  abbrev pub in_row : (first : ℕ) → tree.Exps Span → Option Step
  in_row i es = option_map as_argument (choose i es)

  abbrev pub in_call : tree.Target Span → tree.Exps Span → Option Step
  in_call tree.no_target es = in_row 1 es
  in_call (tree.on e) es =
      if is_behind itself s (exp_mark e) then in_row 2 es else into 0 valued false e

  abbrev pub inward : tree.Exp Span → Option Step
  inward (tree.number m n) = None
  inward (tree.truth m b) = None
  inward (tree.null m) = None
  inward (tree.string m t) = None
  inward (tree.name m w) = None
  inward (tree.super_field m w) = None
  inward (tree.this m) = None
  inward (tree.class_literal m t) = None
  inward (tree.field m e w) = into 0 valued false e
  inward (tree.call m t w es) = in_call t es
  inward (tree.super_call m w es) = in_row 1 es
  inward (tree.create m t es) = in_row 1 es
  inward (tree.paren m e) = into 0 valued false e
  inward (tree.cast m t e) = into 1 valued false e
  inward (tree.unary m o e) = into 0 valued false e
  inward (tree.bump m o e) = into 0 changed false e
  inward (tree.binary m o l r) = in_two valued (is_lazy o) l r
  inward (tree.assign m l r) = in_two assigned false l r
  inward (tree.compound m o l r) = in_two changed false l r
