-- Places of what an expression refers to and breaks: where its tokens begin.
use Rattle.std.proofs.Common.{◌≡◌, ℕ, List, Some, None}
use Rattle.jr_text.specs.declared.spans.Span.{Span}
use Rattle.jr_ast.specs.declared.operators.BumpOp.TheVariants.{PreInc, PreDec, PostInc, PostDec}
use Rattle.jr_ast.specs.Tree as tree
use Rattle.jr_ast.specs.Marks.{exp_mark, type_mark}
use Rattle.jr_grammar.specs.Stands.{Stands}
use Rattle.jr_grammar.specs.ExpressionLayout.{word_layout, type_layout, exp_layout, target_layout, args_layout, more_args_layout}
use Rattle.jr_table.specs.Rows.{Row}
use Rattle.jr_table.specs.Found.{Found}
use Rattle.jr_table.specs.Context.{Context}
use Rattle.jr_table.specs.Binding.{Role, value, left, Sought, TypeRefers, Refers}
use Rattle.jr_table.specs.ExpressionRules.{IsWordAt, NamesObject, Meets, MeetsAny, Mismatches, Operands, BadCast, FinalTarget, FinalAssigned, Forward, ObjectMethodCalled, ExpBreaks}
use Rattle.jr_table.specs.Somewhere.{Somewhere, InTarget, InRow}
use Rattle.jr_table.specs.declared.rules.Rule.{Rule}
use Rattle.jr_table.specs.declared.rules.Rule.TheVariants as rule
use Rattle.jr_program_laws.specs.FileParts.{begins}
use Rattle.jr_program_laws.proofs.Filling.{alone_fills, front_fills, word_fills, type_fills, exp_fills, back_fills}
use Rattle.jr_program_laws.proofs.Reaching.{Reach, in_first, in_rest, in_node, either, in_two, as_said, never, at_node}

module _ (at : ℕ) where
  pub word_place : (w : tree.Word Span) → Reach (Stands (word_layout w)) (at ≡ w.mark.from) at
  word_place w = at_node (front_fills alone_fills)

  -- where the node begins
  pub type_place : (t : tree.TypeName Span) → Reach (Stands (type_layout t)) (at ≡ (type_mark t).from) at
  type_place (tree.int m) = at_node (front_fills alone_fills)
  type_place (tree.boolean m) = at_node (front_fills alone_fills)
  type_place (tree.named m None w) = at_node (front_fills (word_fills w))
  type_place (tree.named m (Some o) w) = at_node (front_fills (word_fills o))

  pub exp_place : (e : tree.Exp Span) → Reach (Stands (exp_layout e)) (at ≡ (exp_mark e).from) at
  exp_place (tree.number m n) = at_node (front_fills alone_fills)
  exp_place (tree.truth m b) = at_node (front_fills alone_fills)
  exp_place (tree.null m) = at_node (front_fills alone_fills)
  exp_place (tree.string m s) = at_node (front_fills alone_fills)
  exp_place (tree.name m w) = at_node (front_fills (word_fills w))
  exp_place (tree.field m e w) = at_node (front_fills (exp_fills e))
  exp_place (tree.super_field m w) = at_node (front_fills alone_fills)
  exp_place (tree.this m) = at_node (front_fills alone_fills)
  exp_place (tree.class_literal m t) = at_node (front_fills (type_fills t))
  exp_place (tree.call m to w args) = at_node (back_fills (front_fills (word_fills w)))
  exp_place (tree.super_call m w args) = at_node (front_fills alone_fills)
  exp_place (tree.create m t args) = at_node (front_fills alone_fills)
  exp_place (tree.paren m e) = at_node (front_fills alone_fills)
  exp_place (tree.cast m t e) = at_node (front_fills alone_fills)
  exp_place (tree.unary m o e) = at_node (front_fills alone_fills)
  exp_place (tree.bump m PreInc e) = at_node (front_fills alone_fills)
  exp_place (tree.bump m PreDec e) = at_node (front_fills alone_fills)
  exp_place (tree.bump m PostInc e) = at_node (front_fills (exp_fills e))
  exp_place (tree.bump m PostDec e) = at_node (front_fills (exp_fills e))
  exp_place (tree.binary m o x y) = at_node (front_fills (exp_fills x))
  exp_place (tree.assign m x y) = at_node (front_fills (exp_fills x))
  exp_place (tree.compound m o x y) = at_node (front_fills (exp_fills x))

  -- ---- something in an expression

  module _ (P : Role → (base : ℕ) → tree.Exp Span → Type 0) (each : (r : Role) (base : ℕ) (e : tree.Exp Span) → Reach (Stands (exp_layout e)) (P r base e) at) where
    mutual
      unfolding Somewhere InTarget InRow

      pub somewhere_place : (r : Role) (base : ℕ) (e : tree.Exp Span) → Reach (Stands (exp_layout e)) (Somewhere begins P r base e) at
      somewhere_place r base (tree.number m n) = each r base (tree.number m n)
      somewhere_place r base (tree.truth m b) = each r base (tree.truth m b)
      somewhere_place r base (tree.null m) = each r base (tree.null m)
      somewhere_place r base (tree.string m s) = each r base (tree.string m s)
      somewhere_place r base (tree.name m w) = each r base (tree.name m w)
      somewhere_place r base (tree.field m e w) = either (each r base (tree.field m e w)) (in_node (in_first (somewhere_place left (begins m base) e)))
      somewhere_place r base (tree.super_field m w) = each r base (tree.super_field m w)
      somewhere_place r base (tree.this m) = each r base (tree.this m)
      somewhere_place r base (tree.class_literal m t) = each r base (tree.class_literal m t)
      somewhere_place r base (tree.call m to w args) = either (each r base (tree.call m to w args)) (in_node (in_two (target_places (begins m base) to) (in_rest (in_rest (in_first (args_places (begins m base) args))))))
      somewhere_place r base (tree.super_call m w args) = either (each r base (tree.super_call m w args)) (in_node (in_rest (in_rest (in_rest (in_rest (in_first (args_places (begins m base) args)))))))
      somewhere_place r base (tree.create m t args) = either (each r base (tree.create m t args)) (in_node (in_rest (in_rest (in_rest (in_first (args_places (begins m base) args))))))
      somewhere_place r base (tree.paren m e) = either (each r base (tree.paren m e)) (in_node (in_rest (in_first (somewhere_place value (begins m base) e))))
      somewhere_place r base (tree.cast m t e) = either (each r base (tree.cast m t e)) (in_node (in_rest (in_rest (in_rest (in_first (somewhere_place value (begins m base) e))))))
      somewhere_place r base (tree.unary m o e) = either (each r base (tree.unary m o e)) (in_node (in_rest (in_first (somewhere_place value (begins m base) e))))
      somewhere_place r base (tree.bump m PreInc e) = either (each r base (tree.bump m PreInc e)) (in_node (in_rest (in_first (somewhere_place value (begins m base) e))))
      somewhere_place r base (tree.bump m PreDec e) = either (each r base (tree.bump m PreDec e)) (in_node (in_rest (in_first (somewhere_place value (begins m base) e))))
      somewhere_place r base (tree.bump m PostInc e) = either (each r base (tree.bump m PostInc e)) (in_node (in_first (somewhere_place value (begins m base) e)))
      somewhere_place r base (tree.bump m PostDec e) = either (each r base (tree.bump m PostDec e)) (in_node (in_first (somewhere_place value (begins m base) e)))
      somewhere_place r base (tree.binary m o x y) = either (each r base (tree.binary m o x y)) (in_node (in_two (somewhere_place value (begins m base) x) (in_rest (in_first (somewhere_place value (begins m base) y)))))
      somewhere_place r base (tree.assign m x y) = either (each r base (tree.assign m x y)) (in_node (in_two (somewhere_place value (begins m base) x) (in_rest (in_first (somewhere_place value (begins m base) y)))))
      somewhere_place r base (tree.compound m o x y) = either (each r base (tree.compound m o x y)) (in_node (in_two (somewhere_place value (begins m base) x) (in_rest (in_first (somewhere_place value (begins m base) y)))))

      target_places : (here : ℕ) (to : tree.Target Span) → Reach (Stands (target_layout to)) (InTarget begins P here to) at
      target_places here tree.no_target = never (λ h. h)
      target_places here (tree.on e) = in_first (somewhere_place left here e)

      pub args_places : (here : ℕ) (args : tree.Exps Span) → Reach (Stands (args_layout args)) (InRow begins P here args) at
      args_places here tree.end = never (λ h. h)
      args_places here (tree.more e es) = in_two (somewhere_place value here e) (in_first (more_args_places here es))

      more_args_places : (here : ℕ) (args : tree.Exps Span) → Reach (Stands (more_args_layout args)) (InRow begins P here args) at
      more_args_places here tree.end = never (λ h. h)
      more_args_places here (tree.more e es) = in_rest (in_two (somewhere_place value here e) (in_first (more_args_places here es)))

  -- ---- references, and rules that an expression itself breaks

  module _ (rows : List Row) (c : Context) where
    pub type_refers_place : (base : ℕ) (t : tree.TypeName Span) (f : Found) → Reach (Stands (type_layout t)) (TypeRefers begins rows c base t at f) at
    type_refers_place base (tree.int m) f = never (λ h. h)
    type_refers_place base (tree.boolean m) f = never (λ h. h)
    type_refers_place base (tree.named m None w) f = in_node (in_first (as_said (word_place w) (λ h. h.0)))
    type_refers_place base (tree.named m (Some o) w) f = in_node (in_two (as_said (word_place o) (λ h. h.0)) (in_rest (in_first (as_said (word_place w) (λ h. h.0)))))

    module _ (r : Role) (base : ℕ) where
      named_place : (e : tree.Exp Span) → Reach (Stands (exp_layout e)) (IsWordAt begins rows c r base e at) at
      named_place (tree.name m w) = in_node (in_first (word_place w))
      named_place (tree.field m e w) = in_node (in_rest (in_rest (in_first (word_place w))))
      named_place (tree.super_field m w) = in_node (in_rest (in_rest (in_first (word_place w))))
      named_place (tree.call m to w args) = in_node (in_rest (in_first (word_place w)))
      named_place (tree.super_call m w args) = in_node (in_rest (in_rest (in_first (word_place w))))
      named_place _ = never (λ h. h)

      pub refers_place : (e : tree.Exp Span) (q : Sought) (f : Found) → Reach (Stands (exp_layout e)) (Refers begins rows c r base e at q f) at
      refers_place (tree.name m w) q f = as_said (named_place (tree.name m w)) (λ h. h.0)
      refers_place (tree.field m e w) q f = as_said (named_place (tree.field m e w)) (λ h. h.0)
      refers_place (tree.super_field m w) q f = as_said (named_place (tree.super_field m w)) (λ h. h.0)
      refers_place (tree.class_literal m t) q f = in_node (in_first (as_said (type_refers_place (begins m base) t f) (λ h. h.1)))
      refers_place (tree.call m to w args) q f = as_said (named_place (tree.call m to w args)) (λ h. h.0)
      refers_place (tree.super_call m w args) q f = as_said (named_place (tree.super_call m w args)) (λ h. h.0)
      refers_place (tree.create m t args) q f =
          either (as_said (exp_place (tree.create m t args)) (λ h. h.0)) (in_node (in_rest (in_first (as_said (type_refers_place (begins m base) t f) (λ h. h.1)))))
      refers_place (tree.cast m t e) q f = in_node (in_rest (in_first (as_said (type_refers_place (begins m base) t f) (λ h. h.1))))
      refers_place _ q f = never (λ h. h)

      meets_place : (e : tree.Exp Span) (q : Sought) (Is : Found → Type 0) → Reach (Stands (exp_layout e)) (Meets begins rows c r base e at q Is) at
      meets_place e q Is = record { reach = λ ps p h. (refers_place e q h.0).reach ps p h.1 }

      meets_any_place : (e : tree.Exp Span) (Is : Found → Type 0) → Reach (Stands (exp_layout e)) (MeetsAny begins rows c r base e at Is) at
      meets_any_place e Is = record { reach = λ ps p h. (meets_place e h.0 Is).reach ps p h.1 }

      object_place : (e : tree.Exp Span) → Reach (Stands (exp_layout e)) (NamesObject begins rows c r base e at) at
      object_place (tree.this m) = exp_place (tree.this m)
      object_place (tree.super_field m w) = exp_place (tree.super_field m w)
      object_place (tree.super_call m w args) = exp_place (tree.super_call m w args)
      object_place _ = never (λ h. h)

      mismatch_place : (e : tree.Exp Span) → Reach (Stands (exp_layout e)) (Mismatches begins rows c r base e at) at
      mismatch_place (tree.assign m x y) = in_node (in_rest (in_rest (in_first (as_said (exp_place y) (λ h. h.0)))))
      mismatch_place _ = never (λ h. h)

      operands_place : (e : tree.Exp Span) → Reach (Stands (exp_layout e)) (Operands begins rows c r base e at) at
      operands_place (tree.unary m o e) = as_said (exp_place (tree.unary m o e)) (λ h. h.0)
      operands_place (tree.bump m o e) = as_said (exp_place (tree.bump m o e)) (λ h. h.0)
      operands_place (tree.binary m o x y) = as_said (exp_place (tree.binary m o x y)) (λ h. h.0)
      operands_place (tree.compound m o x y) = as_said (exp_place (tree.compound m o x y)) (λ h. h.0)
      operands_place _ = never (λ h. h)

      cast_place : (e : tree.Exp Span) → Reach (Stands (exp_layout e)) (BadCast begins rows c r base e at) at
      cast_place (tree.cast m t e) = as_said (exp_place (tree.cast m t e)) (λ h. h.0)
      cast_place _ = never (λ h. h)

      target_place : (from : ℕ) (e : tree.Exp Span) → Reach (Stands (exp_layout e)) (FinalTarget begins rows c r base from (Some e) at) at
      target_place from (tree.name m w) = as_said (named_place (tree.name m w)) (λ h. h.0)
      target_place from (tree.field m e w) = as_said (named_place (tree.field m e w)) (λ h. h.0)
      target_place from (tree.super_field m w) = as_said (named_place (tree.super_field m w)) (λ h. h.0)
      target_place from _ = never (λ h. h)

      final_place : (e : tree.Exp Span) → Reach (Stands (exp_layout e)) (FinalAssigned begins rows c r base e at) at
      final_place (tree.assign m x y) = in_node (in_first (target_place m.from x))
      final_place (tree.compound m o x y) = in_node (in_first (target_place m.from x))
      final_place (tree.bump m PreInc e) = in_node (in_rest (in_first (target_place m.from e)))
      final_place (tree.bump m PreDec e) = in_node (in_rest (in_first (target_place m.from e)))
      final_place (tree.bump m PostInc e) = in_node (in_first (target_place m.from e))
      final_place (tree.bump m PostDec e) = in_node (in_first (target_place m.from e))
      final_place _ = never (λ h. h)

      forward_place : (e : tree.Exp Span) → Reach (Stands (exp_layout e)) (Forward begins rows c r base e at) at
      forward_place (tree.name m w) = as_said (named_place (tree.name m w)) (λ h. h.0)
      forward_place _ = never (λ h. h)

      object_method_place : (e : tree.Exp Span) → Reach (Stands (exp_layout e)) (ObjectMethodCalled begins rows c r base e at) at
      object_method_place (tree.call m to w args) = as_said (named_place (tree.call m to w args)) (λ h. h.0)
      object_method_place (tree.super_call m w args) = as_said (named_place (tree.super_call m w args)) (λ h. h.0)
      object_method_place _ = never (λ h. h)

      -- each rule's
      pub exp_breaks_place : (e : tree.Exp Span) (of : Rule) → Reach (Stands (exp_layout e)) (ExpBreaks begins rows c r base e at of) at
      exp_breaks_place e rule.NoVariable = meets_place e _ _
      exp_breaks_place e rule.NoType = meets_place e _ _
      exp_breaks_place e rule.NoMethod = meets_place e _ _
      exp_breaks_place e rule.Ambiguous = meets_any_place e _
      exp_breaks_place e rule.Private = meets_any_place e _
      exp_breaks_place e rule.StaticContext = either (meets_any_place e _) (as_said (object_place e) (λ h. h.1))
      exp_breaks_place e rule.StaticThroughValue = as_said (named_place e) (λ h. h.0)
      exp_breaks_place e rule.InstanceThroughType = as_said (named_place e) (λ h. h.0)
      exp_breaks_place e rule.TypeMismatch = mismatch_place e
      exp_breaks_place e rule.Operands = operands_place e
      exp_breaks_place e rule.BadCast = cast_place e
      exp_breaks_place e rule.FinalAssigned = final_place e
      exp_breaks_place e rule.Redeclared = never (λ h. h)
      exp_breaks_place e rule.Forward = forward_place e
      exp_breaks_place e rule.VoidValue = as_said (named_place e) (λ h. h.1)
      exp_breaks_place e rule.ReturnForm = never (λ h. h)
      exp_breaks_place e rule.MissingReturn = never (λ h. h)
      exp_breaks_place e rule.Unreachable = never (λ h. h)
      exp_breaks_place e rule.ConstantCondition = never (λ h. h)
      exp_breaks_place e rule.Override = never (λ h. h)
      exp_breaks_place e rule.SuperCtor = never (λ h. h)
      exp_breaks_place e rule.FinalClass = never (λ h. h)
      exp_breaks_place e rule.ObjectMethod = object_method_place e
      exp_breaks_place e rule.Deep = never (λ h. h)
