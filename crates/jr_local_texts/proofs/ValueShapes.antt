-- An expression that is put elsewhere is shaped there: where it stood behind a minus, it begins with
-- no 2147483648. (jr_images and jr_rewrite have the first two parts for themselves alone.)
use Rattle.std.proofs.Common.{◌≡◌, ◌≢◌, inl, inr, ℕ, ◌≤◌, Bool, true, false, List, ap, arith}
use Rattle.jr_text.specs.declared.spans.Span.{Span}
use Rattle.jr_ast.specs.declared.operators.BinOp.{BinOp}
use Rattle.jr_ast.specs.declared.operators.BinOp.TheVariants.{Or, And, Eq, Ne, Lt, Gt, Le, Ge, Add, Sub, Mul, Div, Rem}
use Rattle.jr_ast.specs.declared.operators.BumpOp.{BumpOp}
use Rattle.jr_ast.specs.declared.operators.BumpOp.TheVariants.{PreInc, PreDec, PostInc, PostDec}
use Rattle.jr_ast.specs.Tree as tree
use Rattle.jr_ast.specs.StatementTree as statement
use Rattle.jr_grammar.specs.Shape.{sign_level, rank_of, bump_level, level_of, IsPrimary, IsTarget, is_minus, ShapedBehind, ShapedTarget, AllShaped}
use Rattle.jr_grammar.specs.StatementShape.{StmtShaped, StmtsShaped}
use Rattle.jr_grammar.specs.Layout.{itself}
use Rattle.jr_table.specs.Keys.{ClassKey, int, class}
use Rattle.jr_table.specs.Decls.{Decl}
use Rattle.jr_table.specs.Rows.{Row}
use Rattle.jr_table.specs.Found.{Found, one, nothing}
use Rattle.jr_table.specs.Lookup.{FindsFieldIn, FindsMethodOf}
use Rattle.jr_table.specs.Context.{Context, scope_of}
use Rattle.jr_table.specs.Binding.{HasType, IsClassName, TargetFinds, HaveTypes, FindsIn, FindsFor, On, Role, value, left, statement as as_statement}
use Rattle.jr_rewrite.specs.Respellings.{Choice}
use Rattle.jr_rewrite.specs.Rewritten.{Rewritten}
use Rattle.jr_rewrite.specs.Suitable.{MayBeCast, IsPath}
use Rattle.jr_rewrite.specs.Spots.{nowhere}
use Rattle.jr_rewrite.specs.Rewrites.{TransformsExp, TransformsTarget, TransformsRow}
use Rattle.jr_images.specs.Regions.{Region}
use Rattle.jr_images.specs.Spelling.{ExpChoice, choosing}
use Rattle.jr_pieces.specs.Ways.{ExpWay, here, in_front, in_target, in_argument, in_super_argument, in_created, in_paren, in_cast, in_unary, in_bump, in_left, in_right, in_assigned, in_value, in_changed, in_change, ExpsWay, first_argument, later_argument, StmtWay, in_init, in_eval, in_condition, in_then, in_else, in_turning, in_body, in_returned, in_block, in_lock, in_locked, ListWay}
use Rattle.jr_pieces.specs.Ways as ways
use Rattle.jr_local.specs.Bodies.{begins}

nothing_apart : (d : Decl) → one d ≡ nothing → ⊥
nothing_apart d e = cc

found_in : (Has : ClassKey → Type 0) (Finds : ClassKey → Found → Type 0) (d : Decl) → FindsIn Has Finds (one d) → (k : ClassKey) × Has k × Finds k (one d)
found_in Has Finds d (inl h) = h
found_in Has Finds d (inr h) = absurd (nothing_apart d h.1)

-- ---- operands

int_apart : (k : ClassKey) → class k ≡ int → ⊥
int_apart k e = cc

module _ {A : Type 0} (rows : List Row) (c : Context) where
  class_path : (e : tree.Exp A) (k : ClassKey) → IsClassName rows c e k → IsPath e
  unfolding HasType IsClassName TargetFinds HaveTypes
  class_path (tree.name m w) k h = tt
  class_path (tree.field m e w) k h = class_path e h.0 h.1
  class_path (tree.number m n) k h = absurd h
  class_path (tree.truth m b) k h = absurd h
  class_path (tree.null m) k h = absurd h
  class_path (tree.string m s) k h = absurd h
  class_path (tree.super_field m w) k h = absurd h
  class_path (tree.this m) k h = absurd h
  class_path (tree.class_literal m t) k h = absurd h
  class_path (tree.call m to w args) k h = absurd h
  class_path (tree.super_call m w args) k h = absurd h
  class_path (tree.create m t args) k h = absurd h
  class_path (tree.paren m e) k h = absurd h
  class_path (tree.cast m t e) k h = absurd h
  class_path (tree.unary m op e) k h = absurd h
  class_path (tree.bump m op e) k h = absurd h
  class_path (tree.binary m op x y) k h = absurd h
  class_path (tree.assign m x y) k h = absurd h
  class_path (tree.compound m op x y) k h = absurd h

  path_cast : (e : tree.Exp A) → IsPath e → MayBeCast e
  path_cast (tree.name m w) h = tt
  path_cast (tree.field m e w) h = path_cast e h
  path_cast (tree.number m n) h = absurd h
  path_cast (tree.truth m b) h = absurd h
  path_cast (tree.null m) h = absurd h
  path_cast (tree.string m s) h = absurd h
  path_cast (tree.super_field m w) h = absurd h
  path_cast (tree.this m) h = absurd h
  path_cast (tree.class_literal m t) h = absurd h
  path_cast (tree.call m to w args) h = absurd h
  path_cast (tree.super_call m w args) h = absurd h
  path_cast (tree.create m t args) h = absurd h
  path_cast (tree.paren m e) h = absurd h
  path_cast (tree.cast m t e) h = absurd h
  path_cast (tree.unary m op e) h = absurd h
  path_cast (tree.bump m op e) h = absurd h
  path_cast (tree.binary m op x y) h = absurd h
  path_cast (tree.assign m x y) h = absurd h
  path_cast (tree.compound m op x y) h = absurd h

  -- a value of a class begins with no number
  typed_cast : (e : tree.Exp A) (k : ClassKey) → HasType rows c e (class k) → MayBeCast e
  unfolding HasType IsClassName TargetFinds HaveTypes
  typed_cast (tree.number m n) k h = absurd (int_apart k h)
  typed_cast (tree.field m e w) k h =
      let found = found_in (On (λ k. IsClassName rows c e k) (λ t. HasType rows c e t)) (λ k f. FindsFieldIn rows (scope_of c) k w.text f) h.0 h.1 in
      elim found.1 [ inl name ↦ path_cast e (class_path e found.0 name) | inr has ↦ typed_cast e found.0 has.1 ]
  typed_cast (tree.call m tree.no_target w args) k h = tt
  typed_cast (tree.call m (tree.on e) w args) k h =
      let found = found_in (On (λ k. IsClassName rows c e k) (λ t. HasType rows c e t)) (λ k. FindsFor (λ ts. HaveTypes rows c args ts) (λ ts f. FindsMethodOf rows (scope_of c) k w.text ts f)) h.0 h.1 in
      elim found.1 [ inl name ↦ path_cast e (class_path e found.0 name) | inr has ↦ typed_cast e found.0 has.1 ]
  typed_cast (tree.truth m b) k h = tt
  typed_cast (tree.null m) k h = tt
  typed_cast (tree.string m s) k h = tt
  typed_cast (tree.name m w) k h = tt
  typed_cast (tree.super_field m w) k h = tt
  typed_cast (tree.this m) k h = tt
  typed_cast (tree.class_literal m t) k h = tt
  typed_cast (tree.super_call m w args) k h = tt
  typed_cast (tree.create m t args) k h = tt
  typed_cast (tree.paren m e) k h = tt
  typed_cast (tree.cast m t e) k h = tt
  typed_cast (tree.unary m op e) k h = tt
  typed_cast (tree.bump m op e) k h = tt
  typed_cast (tree.binary m op x y) k h = tt
  typed_cast (tree.assign m x y) k h = tt
  typed_cast (tree.compound m op x y) k h = tt

-- ---- behind a minus or not

shaped_alone : {A : Type 0} (minus : Bool) (e : tree.Exp A) → MayBeCast e → IsPrimary e → ShapedBehind minus e → ShapedBehind false e
shaped_alone minus (tree.number m n) may primary h = absurd may
shaped_alone minus (tree.field m e w) may primary h = (h.0, shaped_alone minus e may h.0 h.1)
shaped_alone minus (tree.call m tree.no_target w args) may primary h = h
shaped_alone minus (tree.call m (tree.on e) w args) may primary h = ((h.0.0, shaped_alone minus e may h.0.0 h.0.1), h.1)
shaped_alone minus (tree.truth m b) may primary h = h
shaped_alone minus (tree.null m) may primary h = h
shaped_alone minus (tree.string m s) may primary h = h
shaped_alone minus (tree.name m w) may primary h = h
shaped_alone minus (tree.super_field m w) may primary h = h
shaped_alone minus (tree.this m) may primary h = h
shaped_alone minus (tree.class_literal m t) may primary h = h
shaped_alone minus (tree.super_call m w args) may primary h = h
shaped_alone minus (tree.create m t args) may primary h = h
shaped_alone minus (tree.paren m e) may primary h = h
shaped_alone minus (tree.cast m t e) may primary h = h
shaped_alone minus (tree.unary m op e) may primary h = h
shaped_alone minus (tree.bump m op e) may primary h = absurd (bump_looser op primary)
  where
    bump_looser : (op : BumpOp) → 10 ≤ bump_level op → ⊥
    bump_looser PreInc low = omega (arith, low)
    bump_looser PreDec low = omega (arith, low)
    bump_looser PostInc low = omega (arith, low)
    bump_looser PostDec low = omega (arith, low)
shaped_alone minus (tree.binary m op x y) may primary h = absurd (binary_looser op primary)
  where
    binary_looser : (op : BinOp) → 10 ≤ rank_of op → ⊥
    binary_looser Or low = omega (arith, low)
    binary_looser And low = omega (arith, low)
    binary_looser Eq low = omega (arith, low)
    binary_looser Ne low = omega (arith, low)
    binary_looser Lt low = omega (arith, low)
    binary_looser Gt low = omega (arith, low)
    binary_looser Le low = omega (arith, low)
    binary_looser Ge low = omega (arith, low)
    binary_looser Add low = omega (arith, low)
    binary_looser Sub low = omega (arith, low)
    binary_looser Mul low = omega (arith, low)
    binary_looser Div low = omega (arith, low)
    binary_looser Rem low = omega (arith, low)
shaped_alone minus (tree.assign m x y) may primary h = absurd (omega (arith, primary))
shaped_alone minus (tree.compound m op x y) may primary h = absurd (omega (arith, primary))

-- ---- behind no minus

-- where the token in front is a minus, what stands there binds so tightly as its operand has to
abbrev Tight : Bool → tree.Exp Span → Type 0
Tight minus e = minus ≡ true → sign_level ≤ level_of e

not_true : {T : Type 0} → false ≡ true → T
not_true e = absurd cc

loose_rank : (o : BinOp) → sign_level ≤ rank_of o → ⊥
loose_rank Or low = omega (arith, low)
loose_rank And low = omega (arith, low)
loose_rank Eq low = omega (arith, low)
loose_rank Ne low = omega (arith, low)
loose_rank Lt low = omega (arith, low)
loose_rank Gt low = omega (arith, low)
loose_rank Le low = omega (arith, low)
loose_rank Ge low = omega (arith, low)
loose_rank Add low = omega (arith, low)
loose_rank Sub low = omega (arith, low)
loose_rank Mul low = omega (arith, low)
loose_rank Div low = omega (arith, low)
loose_rank Rem low = omega (arith, low)

module _ (rows : List Row) (R : Region Span) (super_at : Context → ℕ) where
  -- what stands in front of a dot is a class's name, or a value of a class
  front_casts : (c : Context) (r : Role) (base : ℕ) (m : Span) (e : tree.Exp Span) (w : tree.Word Span) (h : Choice) → ExpChoice begins rows R c r base (tree.field m e w) h → MayBeCast e
  front_casts c r base m e w h (inl t) = elim t.2 [ inl x ↦ path_cast rows c e (class_path rows c e x.0 x.1) | inr x ↦ typed_cast rows c e x.1.0 x.1.1 ]
  front_casts c left base m e w h (inr t) = path_cast rows c e (class_path rows c e t.0 t.2)
  front_casts c value base m e w h (inr t) = absurd t
  front_casts c as_statement base m e w h (inr t) = absurd t

  target_casts : (c : Context) (r : Role) (base : ℕ) (m : Span) (e : tree.Exp Span) (w : tree.Word Span) (es : tree.Exps Span) (h : Choice) → ExpChoice begins rows R c r base (tree.call m (tree.on e) w es) h → MayBeCast e
  target_casts c r base m e w es h t = elim t.4 [ inl x ↦ path_cast rows c e (class_path rows c e x.0 x.1) | inr x ↦ typed_cast rows c e x.1.0 x.1.1 ]

  bump_shaped : (c : Context) (r : Role) (base : ℕ) (e : tree.Exp Span) (o : Rewritten (tree.Exp Span)) → TransformsExp itself (choosing begins rows R super_at) nowhere c r base e o → IsTarget e → ShapedBehind true e → ShapedBehind false e
  unfolding TransformsExp TransformsTarget TransformsRow
  bump_shaped c r base (tree.name m w) o t is h = tt
  bump_shaped c r base (tree.super_field m w) o t is h = tt
  bump_shaped c r base (tree.field m e w) o t is h = (h.0, shaped_alone true e (front_casts c r base m e w t.0 t.2) h.0 h.1)
  bump_shaped c r base (tree.number m n) o t is h = absurd is
  bump_shaped c r base (tree.truth m b) o t is h = absurd is
  bump_shaped c r base (tree.null m) o t is h = absurd is
  bump_shaped c r base (tree.string m s) o t is h = absurd is
  bump_shaped c r base (tree.this m) o t is h = absurd is
  bump_shaped c r base (tree.class_literal m k) o t is h = absurd is
  bump_shaped c r base (tree.call m to w es) o t is h = absurd is
  bump_shaped c r base (tree.super_call m w es) o t is h = absurd is
  bump_shaped c r base (tree.create m k es) o t is h = absurd is
  bump_shaped c r base (tree.paren m e) o t is h = absurd is
  bump_shaped c r base (tree.cast m k e) o t is h = absurd is
  bump_shaped c r base (tree.unary m op e) o t is h = absurd is
  bump_shaped c r base (tree.bump m op e) o t is h = absurd is
  bump_shaped c r base (tree.binary m op x y) o t is h = absurd is
  bump_shaped c r base (tree.assign m x y) o t is h = absurd is
  bump_shaped c r base (tree.compound m op x y) o t is h = absurd is

  -- an expression that is rewritten so, and isn't that literal, is shaped behind no minus, too
  pub behind_minus : (c : Context) (r : Role) (base : ℕ) (e : tree.Exp Span) (o : Rewritten (tree.Exp Span)) → TransformsExp itself (choosing begins rows R super_at) nowhere c r base e o → sign_level ≤ level_of e
      → ((m : Span) → e ≢ tree.number m 2147483648) → ShapedBehind true e → ShapedBehind false e
  unfolding TransformsExp TransformsTarget TransformsRow
  behind_minus c r base (tree.number m n) o t tight other h = fits n h (λ is. other m (ap (tree.number m) is))
    where
      fits : (n : ℕ) → n ≤ 2147483648 → (n ≡ 2147483648 → ⊥) → n ≤ 2147483647
      fits n le ne = omega (arith, le, ne)
  behind_minus c r base (tree.field m e w) o t tight other h = (h.0, shaped_alone true e (front_casts c r base m e w t.0 t.2) h.0 h.1)
  behind_minus c r base (tree.call m tree.no_target w es) o t tight other h = h
  behind_minus c r base (tree.call m (tree.on e) w es) o t tight other h = ((h.0.0, shaped_alone true e (target_casts c r base m e w es t.0 t.3) h.0.0 h.0.1), h.1)
  behind_minus c r base (tree.bump m PreInc e) o t tight other h = h
  behind_minus c r base (tree.bump m PreDec e) o t tight other h = h
  behind_minus c r base (tree.bump m PostInc e) o t tight other h = (h.0, bump_shaped c value m.from e t.0 t.1 h.0 h.1)
  behind_minus c r base (tree.bump m PostDec e) o t tight other h = (h.0, bump_shaped c value m.from e t.0 t.1 h.0 h.1)
  behind_minus c r base (tree.truth m b) o t tight other h = h
  behind_minus c r base (tree.null m) o t tight other h = h
  behind_minus c r base (tree.string m s) o t tight other h = h
  behind_minus c r base (tree.name m w) o t tight other h = h
  behind_minus c r base (tree.super_field m w) o t tight other h = h
  behind_minus c r base (tree.this m) o t tight other h = h
  behind_minus c r base (tree.class_literal m k) o t tight other h = h
  behind_minus c r base (tree.super_call m w es) o t tight other h = h
  behind_minus c r base (tree.create m k es) o t tight other h = h
  behind_minus c r base (tree.paren m e) o t tight other h = h
  behind_minus c r base (tree.cast m k e) o t tight other h = h
  behind_minus c r base (tree.unary m op e) o t tight other h = h
  behind_minus c r base (tree.binary m op x y) o t tight other h = absurd (loose_rank op tight)
  behind_minus c r base (tree.assign m x y) o t tight other h = absurd (omega (arith, tight))
  behind_minus c r base (tree.compound m op x y) o t tight other h = absurd (omega (arith, tight))

-- ---- expressions to which ways lead

pub record ShapedThere (f : tree.Exp Span) : Type 0 where
  pub minus : Bool
  pub shaped : ShapedBehind minus f
  pub tight : Tight minus f

loose : {f : tree.Exp Span} → ShapedBehind false f → ShapedThere f
loose h = record { minus = false; shaped = h; tight = not_true }

assigned : sign_level ≤ 1 → ⊥
assigned low = omega (arith, low)

target_tight : (e : tree.Exp Span) → IsTarget e → sign_level ≤ level_of e
target_tight (tree.name m w) h = omega arith
target_tight (tree.field m e w) h = omega arith
target_tight (tree.super_field m w) h = omega arith
target_tight (tree.number m n) h = absurd h
target_tight (tree.truth m b) h = absurd h
target_tight (tree.null m) h = absurd h
target_tight (tree.string m s) h = absurd h
target_tight (tree.this m) h = absurd h
target_tight (tree.class_literal m k) h = absurd h
target_tight (tree.call m to w es) h = absurd h
target_tight (tree.super_call m w es) h = absurd h
target_tight (tree.create m k es) h = absurd h
target_tight (tree.paren m e) h = absurd h
target_tight (tree.cast m k e) h = absurd h
target_tight (tree.unary m op e) h = absurd h
target_tight (tree.bump m op e) h = absurd h
target_tight (tree.binary m op x y) h = absurd h
target_tight (tree.assign m x y) h = absurd h
target_tight (tree.compound m op x y) h = absurd h

module _ (f : tree.Exp Span) where
  mutual
    exp_there : (e : tree.Exp Span) (d : ExpWay f e) (minus : Bool) → ShapedBehind minus e → Tight minus e → ShapedThere f
    exp_there e here minus h t = record { minus = minus; shaped = h; tight = t }
    exp_there _ (in_front m e w d) minus h t = exp_there e d minus h.1 (λ is. omega (arith, h.0))
    exp_there _ (in_target m e w es d) minus h t = exp_there e d minus h.0.1 (λ is. omega (arith, h.0.0))
    exp_there _ (in_argument m to w es d) minus h t = exps_there es d h.1
    exp_there _ (in_super_argument m w es d) minus h t = exps_there es d h
    exp_there _ (in_created m k es d) minus h t = exps_there es d h.1
    exp_there _ (in_paren m e d) minus h t = exp_there e d false h not_true
    exp_there _ (in_cast m k e d) minus h t = exp_there e d false h.2 not_true
    exp_there _ (in_unary m op e d) minus h t = exp_there e d (is_minus op) h.1 (λ is. h.0)
    exp_there _ (in_bump m PreInc e d) minus h t = exp_there e d false h.1 not_true
    exp_there _ (in_bump m PreDec e d) minus h t = exp_there e d false h.1 not_true
    exp_there _ (in_bump m PostInc e d) minus h t = exp_there e d minus h.1 (λ is. target_tight e h.0)
    exp_there _ (in_bump m PostDec e d) minus h t = exp_there e d minus h.1 (λ is. target_tight e h.0)
    exp_there _ (in_left m op l r d) minus h t = exp_there l d minus h.1 (λ is. absurd (loose_rank op (t is)))
    exp_there _ (in_right m op l r d) minus h t = exp_there r d false h.2 not_true
    exp_there _ (in_assigned m x y d) minus h t = exp_there x d minus h.1 (λ is. absurd (assigned (t is)))
    exp_there _ (in_value m x y d) minus h t = exp_there y d false h.2 not_true
    exp_there _ (in_changed m op x y d) minus h t = exp_there x d minus h.2 (λ is. absurd (assigned (t is)))
    exp_there _ (in_change m op x y d) minus h t = exp_there y d false h.3 not_true

    exps_there : (es : tree.Exps Span) (d : ExpsWay f es) → AllShaped es → ShapedThere f
    exps_there _ (first_argument e es d) h = exp_there e d false h.0 not_true
    exps_there _ (later_argument e es d) h = exps_there es d h.1

  mutual
    pub stmt_there : (s : statement.Stmt Span) (d : StmtWay f s) → StmtShaped s → ShapedThere f
    stmt_there _ (in_init m is_final t w e d) h = exp_there e d false h not_true
    stmt_there _ (in_eval m e d) h = exp_there e d false h.1 not_true
    stmt_there _ (in_condition m c s o d) h = exp_there c d false h.0 not_true
    stmt_there _ (in_then m c s o d) h = stmt_there s d h.2
    stmt_there _ (in_else m c s o d) h = stmt_there o d h.3.2
    stmt_there _ (in_turning m c s d) h = exp_there c d false h.0 not_true
    stmt_there _ (in_body m c s d) h = stmt_there s d h.2
    stmt_there _ (in_returned m e d) h = exp_there e d false h not_true
    stmt_there _ (in_block m b d) h = list_there b d h
    stmt_there _ (in_lock m e b d) h = exp_there e d false h.0 not_true
    stmt_there _ (in_locked m e b d) h = list_there b d h.1

    pub list_there : (b : statement.Stmts Span) (d : ListWay f b) → StmtsShaped b → ShapedThere f
    list_there _ (ways.first s ss d) h = stmt_there s d h.0
    list_there _ (ways.later s ss d) h = list_there ss d h.1

-- ---- what is shaped behind no minus, is behind one

mutual
  pub shaped_more : (minus : Bool) (e : tree.Exp Span) → ShapedBehind false e → ShapedBehind minus e
  shaped_more minus (tree.number m n) h = by minus
    where
      greater : (n : ℕ) → n ≤ 2147483647 → n ≤ 2147483648
      greater n le = omega (arith, le)

      by : (b : Bool) → ShapedBehind b (tree.number m n)
      by false = h
      by true = greater n h
  shaped_more minus (tree.field m e w) h = (h.0, shaped_more minus e h.1)
  shaped_more minus (tree.call m to w es) h = (target_more minus to h.0, h.1)
  shaped_more minus (tree.bump m PreInc e) h = h
  shaped_more minus (tree.bump m PreDec e) h = h
  shaped_more minus (tree.bump m PostInc e) h = (h.0, shaped_more minus e h.1)
  shaped_more minus (tree.bump m PostDec e) h = (h.0, shaped_more minus e h.1)
  shaped_more minus (tree.binary m op x y) h = (h.0, shaped_more minus x h.1, h.2)
  shaped_more minus (tree.assign m x y) h = (h.0, shaped_more minus x h.1, h.2)
  shaped_more minus (tree.compound m op x y) h = (h.0, h.1, shaped_more minus x h.2, h.3)
  shaped_more minus (tree.truth m b) h = h
  shaped_more minus (tree.null m) h = h
  shaped_more minus (tree.string m s) h = h
  shaped_more minus (tree.name m w) h = h
  shaped_more minus (tree.super_field m w) h = h
  shaped_more minus (tree.this m) h = h
  shaped_more minus (tree.class_literal m k) h = h
  shaped_more minus (tree.super_call m w es) h = h
  shaped_more minus (tree.create m k es) h = h
  shaped_more minus (tree.paren m e) h = h
  shaped_more minus (tree.cast m k e) h = h
  shaped_more minus (tree.unary m op e) h = h

  target_more : (minus : Bool) (to : tree.Target Span) → ShapedTarget false to → ShapedTarget minus to
  target_more minus tree.no_target h = h
  target_more minus (tree.on e) h = (h.0, shaped_more minus e h.1)
