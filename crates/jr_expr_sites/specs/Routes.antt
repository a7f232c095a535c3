-- The ways of pieces of a member, where marks are spots: by what is known of the member and what
-- else resolved code needs. A node's parts begin at the byte `at`; `path` leads to the node.
use Rattle.std.specs.Prelude.{◌≡◌, ℕ, ◌-◌, List, [], ◌∷◌, ◌++◌, Bool, true, false, not}
use Rattle.jr_text.specs.declared.spans.Span.{Span}
use Rattle.jr_ast.specs.declared.operators.BinOp.{BinOp}
use Rattle.jr_ast.specs.declared.operators.BinOp.TheVariants as op
use Rattle.jr_ast.specs.Tree as tree
use Rattle.jr_code.specs.RunKeys.{RunKeys}
use Rattle.jr_cover.specs.Ways as way
use Rattle.jr_cover.specs.Ways.{Way}
use Rattle.jr_cover.specs.Sites as sites
use Rattle.jr_cover.specs.Sites.{
  What,
  Site,
  at_place,
  unless,
  is_class_name,
  exp_way,
  exps_way,
  stmt_way,
  stmts_way,
}
use Rattle.jr_cover.specs.Spots.{Spot, spot_exp, spot_exps}
use Rattle.jr_expr_sites.specs.declared.step.Step as raw
use Rattle.jr_expr_sites.specs.Steps.{steps_of}
use Rattle.jr_expr_sites.specs.StepView.{steps_in}
use Rattle.jr_expr_sites.specs.Meanings.{variable_of}
use Rattle.jr_expr_sites.specs.KnownFacts.{Given, Others, known_of, place, meaning_at, is_checked}

abbrev pub Route : Type 0
Route = Given → Others → Way (Site RunKeys)

abbrev pub Steps : Type 0
Steps = List raw.Step

-- The steps of a way have been written behind those that were there, whatever else is known.
abbrev pub Walked : Given → Route → (old new : Steps) → Type 0
Walked g r old new =
    (o : Others) → steps_in g.member new ≡ steps_in g.member old ++ steps_of (r g o)

-- the places of the first and the last byte of a node whose parent begins at a byte
abbrev pub begins_by : {A : Type 0} → (A → ℕ → Span) → A → ℕ → ℕ
begins_by tells m base = (tells m base).from

abbrev pub ends_by : {A : Type 0} → (A → ℕ → Span) → A → ℕ → ℕ
ends_by tells m base = (tells m base).to - 1

-- ---- single sites

abbrev pub nothing : Route
nothing g o = way.pass

abbrev pub done : What RunKeys → (at : ℕ) → Route
done w at g o = at_place (place g at) w

abbrev pub seq : Route → Route → Route
seq r s g o = way.row (r g o) (s g o)

abbrev pub load : (at : ℕ) → Route
load at g o = sites.load_of (place g at) (variable_of g.rows (meaning_at g at))

abbrev pub store : (at : ℕ) → Route
store at g o = sites.store_of (place g at) (variable_of g.rows (meaning_at g at))

abbrev pub field_load : (at : ℕ) → Route
field_load at g o = sites.field_load (place g at) (variable_of g.rows (meaning_at g at))

abbrev pub field_store : (at : ℕ) → Route
field_store at g o = sites.field_store (place g at) (variable_of g.rows (meaning_at g at))

abbrev pub cast_check : (path : List ℕ) → (at : ℕ) → Route
cast_check path at g o = unless
    (not (is_checked g.rows (g.types (path ++ 1 ∷ [])) (g.types path))) (done What.checks at g o)

-- the right operand may be left out
abbrev pub is_lazy : BinOp → Bool
is_lazy op.Or = true
is_lazy op.And = true
is_lazy op.Eq = false
is_lazy op.Ne = false
is_lazy op.Lt = false
is_lazy op.Gt = false
is_lazy op.Le = false
is_lazy op.Ge = false
is_lazy op.Add = false
is_lazy op.Sub = false
is_lazy op.Mul = false
is_lazy op.Div = false
is_lazy op.Rem = false

-- among the parts of a call
abbrev pub first_argument : {A : Type 0} → tree.Target A → ℕ
first_argument tree.no_target = 1
first_argument (tree.on e) = 2

module _ {A : Type 0} (tells : A → ℕ → Span) where
  abbrev pub spots : (path : List ℕ) → (at : ℕ) → tree.Exp A → tree.Exp Spot
  spots path at e = spot_exp (begins_by tells) (ends_by tells) e at path

  -- ---- expressions

  abbrev pub exp : (path : List ℕ) → (at : ℕ) → tree.Exp A → Route
  exp path at e g o = exp_way (known_of g o) (spots path at e)

  -- first: the number of the first of them
  abbrev pub exps : (path : List ℕ) → (first : ℕ) → (at : ℕ) → tree.Exps A → Route
  exps path first at es g o =
      exps_way (known_of g o) (spot_exps (begins_by tells) (ends_by tells) es at path first)

  -- in front of a dot: a class has no sites
  abbrev pub left : (path : List ℕ) → (at : ℕ) → tree.Exp A → Route
  left path at e g o =
      unless (is_class_name (known_of g o) (spots path at e)) (exp path at e g o)

  -- word: the byte of the name behind the dot
  abbrev pub null_check : (path : List ℕ) → (at : ℕ) → tree.Exp A → (word : ℕ) → Route
  null_check path at e word g o =
      sites.null_check (known_of g o) (spots path at e) (place g word)

  abbrev pub field_check : (path : List ℕ) → (at : ℕ) → tree.Exp A → (word : ℕ) → Route
  field_check path at e word g o = sites.field_check (null_check path at e word g o)
      (variable_of g.rows (meaning_at g word))

  abbrev pub checked_load : (path : List ℕ) → (at : ℕ) → tree.Exp A → (word : ℕ) → Route
  checked_load path at e word = seq (field_check path at e word) (field_load word)

  abbrev pub divisor_check : BinOp → (path : List ℕ) → (at : ℕ) → tree.Exp A → Route
  divisor_check of path at e g o = sites.divisor_check (known_of g o) of (spots path at e)

  -- ---- what is read, assigned or bumped

  abbrev pub target_operand : (path : List ℕ) → (at : ℕ) → tree.Exp A → Route
  target_operand path at e g o = sites.operand_way (known_of g o) (spots path at e)

  abbrev pub target_load : (path : List ℕ) → (at : ℕ) → tree.Exp A → Route
  target_load path at e g o = sites.target_load (known_of g o) (spots path at e)

  abbrev pub target_check : (path : List ℕ) → (at : ℕ) → tree.Exp A → Route
  target_check path at e g o = sites.target_check (known_of g o) (spots path at e)

  abbrev pub target_store : (path : List ℕ) → (at : ℕ) → tree.Exp A → Route
  target_store path at e g o = sites.target_store (known_of g o) (spots path at e)

  -- ---- kinds of expressions, by their parts

  abbrev pub field : (path : List ℕ) → (at : ℕ) → tree.Exp A → (word : ℕ) → Route
  field path at e word =
      seq (left (path ++ 0 ∷ []) at e) (checked_load (path ++ 0 ∷ []) at e word)

  abbrev pub receiver : (path : List ℕ) → (at : ℕ) → tree.Target A → Route
  receiver path at tree.no_target = nothing
  receiver path at (tree.on e) = left (path ++ 0 ∷ []) at e

  abbrev pub receiver_check : (path : List ℕ) → (at : ℕ) → tree.Target A → (word : ℕ) → Route
  receiver_check path at tree.no_target word = nothing
  receiver_check path at (tree.on e) word = null_check (path ++ 0 ∷ []) at e word

  abbrev pub called : (path : List ℕ) → (at : ℕ) → tree.Target A → (word : ℕ) → Route
  called path at to word = seq (receiver_check path at to word) (done What.calls word)

  abbrev pub call : (path : List ℕ) → (at : ℕ) → tree.Target A → (word : ℕ) → tree.Exps A → Route
  call path at to word es = seq (receiver path at to)
      (seq (exps path (first_argument to) at es) (called path at to word))

  abbrev pub super_call : (path : List ℕ) → (at : ℕ) → (word : ℕ) → tree.Exps A → Route
  super_call path at word es = seq (exps path 1 at es) (done What.calls word)

  abbrev pub create : (path : List ℕ) → (at : ℕ) → tree.Exps A → Route
  create path at es =
      seq (done What.creates at) (seq (exps path 1 at es) (done What.calls at))

  abbrev pub cast : (path : List ℕ) → (at : ℕ) → tree.Exp A → Route
  cast path at e = seq (exp (path ++ 1 ∷ []) at e) (cast_check path at)

  abbrev pub bump : (path : List ℕ) → (at : ℕ) → tree.Exp A → Route
  bump path at t = seq (target_operand (path ++ 0 ∷ []) at t)
      (seq (target_load (path ++ 0 ∷ []) at t) (target_store (path ++ 0 ∷ []) at t))

  abbrev pub binary : BinOp → (path : List ℕ) → (at : ℕ) → (l r : tree.Exp A) → Route
  binary of path at l r g o = sites.operands of (exp (path ++ 0 ∷ []) at l g o)
      (exp (path ++ 1 ∷ []) at r g o) (divisor_check of (path ++ 1 ∷ []) at r g o)

  abbrev pub assign : (path : List ℕ) → (at : ℕ) → (t e : tree.Exp A) → Route
  assign path at t e = seq (target_operand (path ++ 0 ∷ []) at t)
      (seq (exp (path ++ 1 ∷ []) at e)
      (seq (target_check (path ++ 0 ∷ []) at t) (target_store (path ++ 0 ∷ []) at t)))

  abbrev pub compound : BinOp → (path : List ℕ) → (at : ℕ) → (t e : tree.Exp A) → Route
  compound of path at t e = seq (target_operand (path ++ 0 ∷ []) at t)
      (seq (target_load (path ++ 0 ∷ []) at t) (seq (exp (path ++ 1 ∷ []) at e)
      (seq (divisor_check of (path ++ 1 ∷ []) at e) (target_store (path ++ 0 ∷ []) at t))))
