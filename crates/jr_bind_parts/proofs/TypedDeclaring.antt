-- The parts of a member's tree of types.
use Rattle.std.proofs.Common.{◌≡◌, ℕ, zero, suc, ◌+◌, List, ◌++◌, length, Option, Some, None, Bool, true, false, refl, sym, ap, ◌∙◌, arith}
use Rattle.std.proofs.lemmas.List.{append_assoc, append-nil}
use Rattle.jr_ast.specs.Tree as tree
use Rattle.jr_ast.specs.StatementTree as statement
use Rattle.jr_ast.specs.MemberTree as syntax
use Rattle.jr_table.specs.Decls.{MemberKey}
use Rattle.jr_table.specs.Rows.{Row}
use Rattle.jr_table.specs.Context.{Context}
use Rattle.jr_table.specs.Errors.{member_part}
use Rattle.jr_table.specs.HeadRules.{plain, with_parameters, is_static_member}
use Rattle.jr_expr_types.specs.Slots.{Slot}
use Rattle.jr_expr_types.specs.Trees.{Parts, node, none, count, flat, flats}
use Rattle.jr_expr_types.specs.TypedTrees.{leaf, put_leaf, put_leaves, put_args, put_maybe, put_stmts, put_type, part_tree}
use Rattle.jr_bind_parts.specs.TypedFlow.{named_count, args_count, args_slots}
use Rattle.jr_bind_expr.proofs.TypedParts.{row_flats, row_counted}

pub leaves_flats : (n : ℕ) (ps : Parts) → flats (put_leaves n ps) ≡ flats ps ++ flats (put_leaves n none)
unfolding flats
leaves_flats zero ps = sym (append-nil (flats ps))
leaves_flats (suc n) ps = ap (λ xs. xs ++ flat leaf) (leaves_flats n ps) ∙ append_assoc (flats ps) (flats (put_leaves n none)) (flat leaf)

pub leaves_counted : (n : ℕ) (ps : Parts) → count (put_leaves n ps) ≡ count ps + n
leaves_counted zero ps = omega arith
leaves_counted (suc n) ps = let h = leaves_counted n ps in omega (arith, h)

module _ {A : Type 0} (rows : List Row) (c : Context) where
  pub args_flats : (ps : Parts) (args : Option (tree.Exps A)) → flats (put_args rows c ps args) ≡ flats ps ++ args_slots rows c args
  args_flats ps None = sym (append-nil (flats ps))
  args_flats ps (Some args) = row_flats rows c ps args

  pub args_counted : (ps : Parts) (args : Option (tree.Exps A)) → count (put_args rows c ps args) ≡ count ps + args_count args
  args_counted ps None = omega arith
  args_counted ps (Some args) = row_counted rows c ps args

module _ {A : Type 0} (begins : A → ℕ → ℕ) (rows : List Row) (k : MemberKey) (m : A) (old new : List Slot) where
  pub field_typed : (mods : List (syntax.Modifier A)) (t : tree.TypeName A) (w : tree.Word A) (init : Option (tree.Exp A)) (s : Bool) (words : ℕ)
      → s ≡ is_static_member begins mods → words ≡ length mods
      → new ≡ old ++ flat (node None (put_maybe rows (plain k s) (put_leaves 2 (put_leaves words none)) init))
      → new ≡ old ++ flat (part_tree begins rows k (member_part (syntax.field m mods t w init)))
  field_typed mods t w init s words static many h =
      h ∙ (λ i. old ++ flat (node None (put_maybe rows (plain k (static i)) (put_leaves 2 (put_leaves (many i) none)) init)))

  named_is : (ps : Parts) (t : Option (tree.TypeName A)) → put_leaves (named_count t) ps ≡ put_leaf (put_type rows ps t)
  named_is ps None = refl
  named_is ps (Some t) = refl

  pub method_typed : (mods : List (syntax.Modifier A)) (t : Option (tree.TypeName A)) (w : tree.Word A) (ps : List (syntax.Param A)) (body : statement.Stmts A) (s : Bool) (words named params : ℕ)
      → s ≡ is_static_member begins mods → words ≡ length mods → named ≡ named_count t → params ≡ length ps
      → new ≡ old ++ flat (node None (put_stmts rows (put_leaves params (put_leaves named (put_leaves words none))) params (with_parameters k s ps) body))
      → new ≡ old ++ flat (part_tree begins rows k (member_part (syntax.method m mods t w ps body)))
  method_typed mods t w ps body s words named params static many two few h =
      h ∙ (λ i. old ++ flat (node None (put_stmts rows (put_leaves (few i) (put_leaves (two i) (put_leaves (many i) none))) (few i) (with_parameters k (static i) ps) body)))
      ∙ ap (λ (qs : Parts). old ++ flat (node None (put_stmts rows (put_leaves (length ps) qs) (length ps) (with_parameters k (is_static_member begins mods) ps) body))) (named_is (put_leaves (length mods) none) t)

  pub constructor_typed : (mods : List (syntax.Modifier A)) (w : tree.Word A) (ps : List (syntax.Param A)) (args : Option (tree.Exps A)) (body : statement.Stmts A) (words params : ℕ)
      → words ≡ length mods → params ≡ length ps
      → new ≡ old ++ flat (node None (put_stmts rows (put_args rows (with_parameters k true ps) (put_leaves params (put_leaves 1 (put_leaves words none))) args) params (with_parameters k false ps) body))
      → new ≡ old ++ flat (part_tree begins rows k (member_part (syntax.constructor m mods w ps args body)))
  constructor_typed mods w ps args body words params many few h =
      h ∙ (λ i. old ++ flat (node None (put_stmts rows (put_args rows (with_parameters k true ps) (put_leaves (few i) (put_leaves 1 (put_leaves (many i) none))) args) (few i) (with_parameters k false ps) body)))
