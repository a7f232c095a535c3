-- What an expression is to its parts: which of them are expressions, by their numbers among all parts,
-- and in which way the sites of one stand in front of another.
use Rattle.std.specs.Prelude.{ℕ, zero, suc, Bool, true, false, Option, Some, None}
use Rattle.jr_ast.specs.Tree as tree

-- how the first of two parts is evaluated in front of the second: for its value; as what is assigned,
-- its operand alone; as what is changed, its operand, and then it is read (JLS 15.7, 15.26)
pub data Between : Type 0 where
  valued : Between
  assigned : Between
  changed : Between

pub data Parts (A : Type 0) : Type 0 where
  leaf : Parts A
  -- a simple name, or one behind `super`; a name behind a dot
  named : Parts A
  dotted : (front : tree.Exp A) → Parts A
  -- one part, of this number
  one : (number : ℕ) (of : tree.Exp A) → Parts A
  two : (between : Between) (first second : tree.Exp A) → Parts A
  -- a call or a creation, which makes its object before the arguments (JLS 15.9.4, 15.12.4)
  row : (is_created : Bool) (target : tree.Target A) (args : tree.Exps A) → Parts A

-- by a number that is counted from the one of the number k on; d: in front of that
abbrev pub behind : {X : Type 0} → (d : X) → (k : ℕ) → (ℕ → X) → ℕ → X
behind d zero f i = f i
behind d (suc k) f zero = d
behind d (suc k) f (suc i) = behind d k f i

module _ {A : Type 0} where
  abbrev pub parts_of : tree.Exp A → Parts A
  parts_of (tree.number m n) = leaf
  parts_of (tree.truth m b) = leaf
  parts_of (tree.null m) = leaf
  parts_of (tree.string m s) = leaf
  parts_of (tree.name m w) = named
  parts_of (tree.field m e w) = dotted e
  parts_of (tree.super_field m w) = named
  parts_of (tree.this m) = leaf
  parts_of (tree.class_literal m t) = leaf
  parts_of (tree.call m t w es) = row false t es
  parts_of (tree.super_call m w es) = row false tree.no_target es
  parts_of (tree.create m t es) = row true tree.no_target es
  parts_of (tree.paren m e) = one 0 e
  parts_of (tree.cast m t e) = one 1 e
  parts_of (tree.unary m op e) = one 0 e
  parts_of (tree.bump m op e) = one 0 e
  parts_of (tree.binary m op l r) = two valued l r
  parts_of (tree.assign m t e) = two assigned t e
  parts_of (tree.compound m op t e) = two changed t e

  abbrev pub nth : tree.Exps A → ℕ → Option (tree.Exp A)
  nth tree.end i = None
  nth (tree.more e es) zero = Some e
  nth (tree.more e es) (suc i) = nth es i

  -- the argument that stands behind so many parts
  abbrev pub nth_behind : tree.Exps A → (front number : ℕ) → Option (tree.Exp A)
  nth_behind es k i = behind None k (nth es) i

  abbrev pub only : (own : ℕ) → tree.Exp A → (number : ℕ) → Option (tree.Exp A)
  only k e i = nth_behind (tree.more e tree.end) k i

  -- arguments stand behind the target and the name
  abbrev pub in_call : tree.Exp A → tree.Exps A → ℕ → Option (tree.Exp A)
  in_call e es zero = Some e
  in_call e es (suc i) = nth_behind es 1 i

  abbrev pub in_row : tree.Target A → tree.Exps A → ℕ → Option (tree.Exp A)
  in_row tree.no_target es i = nth_behind es 1 i
  in_row (tree.on e) es i = in_call e es i

  abbrev pub in_two : (first second : tree.Exp A) → ℕ → Option (tree.Exp A)
  in_two l r zero = Some l
  in_two l r (suc zero) = Some r
  in_two l r (suc (suc i)) = None

  -- the part of this number, if it is an expression
  abbrev pub exp_in : Parts A → ℕ → Option (tree.Exp A)
  exp_in leaf i = None
  exp_in named i = None
  exp_in (dotted e) i = only 0 e i
  exp_in (one k e) i = only k e i
  exp_in (two b l r) i = in_two l r i
  exp_in (row c t es) i = in_row t es i
