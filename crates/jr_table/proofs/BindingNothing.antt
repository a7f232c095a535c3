-- The lists of broken rules note no reference.
use Rattle.std.proofs.Common.{ℕ, List, ◌++◌, Option, Some, None, inl, inr}
use Rattle.std.specs.Prelude.{◌⊎◌, not, ◌&&◌}
use Rattle.jr_ast.specs.Tree as tree
use Rattle.jr_table.specs.Keys.{ClassKey, Ty, void}
use Rattle.jr_table.specs.Decls.{Decl}
use Rattle.jr_table.specs.Rows.{Row}
use Rattle.jr_table.specs.Found.{Found}
use Rattle.jr_table.specs.Context.{Context}
use Rattle.jr_table.specs.Binding.{Role}
use Rattle.jr_table.specs.Meanings.{class_name_of, at_word}
use Rattle.jr_table.specs.Notes.{Note, refers, breaks, Has, when, is_ty, test_found, is_static_decl, is_instance_decl, is_statement, is_object_method, through_notes, called_notes, object_notes, member_notes, operand_notes, final_notes, target_notes, forward_notes, call_notes}
use Rattle.jr_table.proofs.Breaking.{two, unless_binds_none, when_binds_none}
use Rattle.jr_table.specs.declared.rules.Rule.TheVariants as rule

-- a note that is in neither of two lists
pub none_of : (xs ys : List Note) (n : Note) → (Has xs n → ⊥) → (Has ys n → ⊥) → Has (xs ++ ys) n → ⊥
none_of xs ys n f g h = either ((two xs ys n ⊥ ⊥ (f, λ x. absurd x) (g, λ x. absurd x)).0 h)
  where
    either : (⊥ ⊎ ⊥) → ⊥
    either (inl x) = x
    either (inr x) = x

through_binds : (rows : List Row) (here : ℕ) (o : Option ClassKey) (f : Found) (at : ℕ) (d : Decl) → Has (through_notes rows here o f) (refers at d) → ⊥
through_binds rows here None f at d h = when_binds_none (test_found (is_static_decl rows) f) here at rule.StaticThroughValue d h
through_binds rows here (Some k) f at d h = when_binds_none (test_found (is_instance_decl rows) f) here at rule.InstanceThroughType d h

called_binds : (role : Role) (here : ℕ) (name : List ℕ) (t : Option Ty) (at : ℕ) (d : Decl) → Has (called_notes role here name t) (refers at d) → ⊥
called_binds role here name t at d h = none_of (when (not (is_statement role) && is_ty void t) (breaks here rule.VoidValue)) (when (is_object_method name) (breaks here rule.ObjectMethod)) (refers at d)
    (when_binds_none _ here at rule.VoidValue d) (when_binds_none _ here at rule.ObjectMethod d) h

module _ {A : Type 0} (begins : A → ℕ → ℕ) (rows : List Row) (c : Context) (role : Role) (base : ℕ) where
  pub objects_bind : (e : tree.Exp A) (at : ℕ) (d : Decl) → Has (object_notes begins rows c role base e) (refers at d) → ⊥
  objects_bind (tree.this m) at d h = when_binds_none _ _ at rule.StaticContext d h
  objects_bind (tree.super_field m w) at d h = when_binds_none _ _ at rule.StaticContext d h
  objects_bind (tree.super_call m w args) at d h = when_binds_none _ _ at rule.StaticContext d h
  objects_bind _ at d h = h

  pub members_bind : (e : tree.Exp A) (at : ℕ) (d : Decl) → Has (member_notes begins rows c role base e) (refers at d) → ⊥
  members_bind (tree.field m e w) at d h = through_binds rows (at_word begins m base w) (class_name_of rows c e) _ at d h
  members_bind (tree.super_field m w) at d h = through_binds rows (at_word begins m base w) None _ at d h
  members_bind (tree.call m (tree.on e) w args) at d h = through_binds rows (at_word begins m base w) (class_name_of rows c e) _ at d h
  members_bind (tree.super_call m w args) at d h = through_binds rows (at_word begins m base w) None _ at d h
  members_bind (tree.call m tree.no_target w args) at d h = h
  members_bind _ at d h = h

  pub operands_bind : (e : tree.Exp A) (at : ℕ) (d : Decl) → Has (operand_notes begins rows c role base e) (refers at d) → ⊥
  operands_bind (tree.assign m x y) at d h = unless_binds_none _ _ at rule.TypeMismatch d h
  operands_bind (tree.unary m o e) at d h = unless_binds_none _ _ at rule.Operands d h
  operands_bind (tree.bump m o e) at d h = unless_binds_none _ _ at rule.Operands d h
  operands_bind (tree.binary m o x y) at d h = unless_binds_none _ _ at rule.Operands d h
  operands_bind (tree.compound m o x y) at d h = unless_binds_none _ _ at rule.Operands d h
  operands_bind (tree.cast m of e) at d h = unless_binds_none _ _ at rule.BadCast d h
  operands_bind _ at d h = h

  finals_bind : (from : ℕ) (e : tree.Exp A) (at : ℕ) (d : Decl) → Has (final_notes begins rows c role base from e) (refers at d) → ⊥
  finals_bind from (tree.name m w) at d h = when_binds_none _ _ at rule.FinalAssigned d h
  finals_bind from (tree.field m e w) at d h = when_binds_none _ _ at rule.FinalAssigned d h
  finals_bind from (tree.super_field m w) at d h = when_binds_none _ _ at rule.FinalAssigned d h
  finals_bind from _ at d h = h

  pub targets_bind : (e : tree.Exp A) (at : ℕ) (d : Decl) → Has (target_notes begins rows c role base e) (refers at d) → ⊥
  targets_bind (tree.assign m x y) at d h = finals_bind (begins m base) x at d h
  targets_bind (tree.compound m o x y) at d h = finals_bind (begins m base) x at d h
  targets_bind (tree.bump m o e) at d h = finals_bind (begins m base) e at d h
  targets_bind _ at d h = h

  pub forwards_bind : (e : tree.Exp A) (at : ℕ) (d : Decl) → Has (forward_notes begins rows c role base e) (refers at d) → ⊥
  forwards_bind (tree.name m w) at d h = when_binds_none _ _ at rule.Forward d h
  forwards_bind _ at d h = h

  pub calls_bind : (e : tree.Exp A) (at : ℕ) (d : Decl) → Has (call_notes begins rows c role base e) (refers at d) → ⊥
  calls_bind (tree.call m to w args) at d h = called_binds role (at_word begins m base w) w.text _ at d h
  calls_bind (tree.super_call m w args) at d h = called_binds role (at_word begins m base w) w.text _ at d h
  calls_bind _ at d h = h
