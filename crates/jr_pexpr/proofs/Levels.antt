-- Levels of expressions, and of what waits for them.
use Rattle.std.proofs.Common.{◌≡◌, ℕ, ◌≤◌, Bool, true, List, [], ◌∷◌, Some, refl, arith}
use Rattle.std.proofs.lemmas.Bool.{le-ltb}
use Rattle.jr_ast.specs.declared.operators.UnOp.{UnOp}
use Rattle.jr_ast.specs.declared.operators.UnOp.TheVariants.{Plus, Minus, Not}
use Rattle.jr_ast.specs.declared.operators.BinOp.{BinOp}
use Rattle.jr_ast.specs.declared.operators.BinOp.TheVariants.{Or, Add, Sub, Mul, Div, Rem}
use Rattle.jr_ast.specs.declared.operators.BumpOp.{BumpOp}
use Rattle.jr_ast.specs.declared.operators.BumpOp.TheVariants.{PreInc, PreDec, PostInc, PostDec}
use Rattle.jr_ast.specs.Tree.{Exp, number, name, field, super_field, cast, unary, bump, binary, assign, compound}
use Rattle.jr_grammar.specs.Shape.{rank_of, unary_level, bump_level, level_of, IsTarget, IsCompound, greatest, FitsInt}
use Rattle.jr_pexpr.specs.Pieces.{a_number}
use Rattle.jr_pexpr.specs.Machine.{Frame, in_unary, in_bump, in_binary, in_assign, in_compound, in_cast, in_paren, in_args, State, needed, is_target, is_compound, at_most, atom_fits}

pub rank_low : (o : BinOp) → (2 ≤ rank_of o) × (rank_of o ≤ 7)
rank_low Or = omega arith
rank_low _ = omega arith

pub unary_low : (o : UnOp) → (8 ≤ unary_level o) × (unary_level o ≤ 9)
unary_low Plus = omega arith
unary_low Minus = omega arith
unary_low Not = omega arith

pub bump_low : (o : BumpOp) → (8 ≤ bump_level o) × (bump_level o ≤ 9)
bump_low PreInc = omega arith
bump_low PreDec = omega arith
bump_low PostInc = omega arith
bump_low PostDec = omega arith

pub level_pos : {A : Type 0} (e : Exp A) → 1 ≤ level_of e
level_pos (binary m o l r) = omega (arith, rank_low o)
level_pos (unary m o e) = omega (arith, unary_low o)
level_pos (bump m o e) = omega (arith, bump_low o)
level_pos (cast m t e) = omega arith
level_pos (assign m t e) = omega arith
level_pos (compound m o t e) = omega arith
level_pos _ = omega arith

pub needed_low : {A : Type 0} (fs : List (Frame A)) → needed fs ≤ 10
needed_low [] = omega arith
needed_low (in_binary o l ∷ fs) = omega (arith, rank_low o)
needed_low (in_unary m o ∷ fs) = omega arith
needed_low (in_bump m w ∷ fs) = omega arith
needed_low (in_assign t ∷ fs) = omega arith
needed_low (in_compound o t ∷ fs) = omega arith
needed_low (in_cast m t ∷ fs) = omega arith
needed_low (in_paren m ∷ fs) = omega arith
needed_low (in_args h es ∷ fs) = omega arith

pub target_level : {A : Type 0} (t : Exp A) → IsTarget t → 10 ≤ level_of t
target_level (name m w) h = omega arith
target_level (field m e w) h = omega arith
target_level (super_field m w) h = omega arith
target_level (number m n) h = absurd h
target_level _ h = absurd h

pub target_true : {A : Type 0} (t : Exp A) → IsTarget t → is_target t ≡ true
target_true (name m w) h = refl
target_true (field m e w) h = refl
target_true (super_field m w) h = refl
target_true _ h = absurd h

pub target_is : {A : Type 0} (t : Exp A) → is_target t ≡ true → IsTarget t
target_is (name m w) h = tt
target_is (field m e w) h = tt
target_is (super_field m w) h = tt
target_is _ h = absurd cc

pub compound_is : (o : BinOp) → is_compound o ≡ true → IsCompound o
compound_is Add h = tt
compound_is Sub h = tt
compound_is Mul h = tt
compound_is Div h = tt
compound_is Rem h = tt
compound_is _ h = absurd cc

pub at_most_is : {A : Type 0} (k : ℕ) (fs : List (Frame A)) (s : State A) → needed fs ≤ k → at_most k fs s ≡ Some s
at_most_is k fs s h = rw (le-ltb k (needed fs) h) refl

pub number_fits : (b : Bool) (n : ℕ) → FitsInt b n → atom_fits b (a_number n) ≡ true
number_fits b n h = rw (le-ltb (greatest b) n h) refl
