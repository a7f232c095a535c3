-- What an expression spells, and its shape, don't depend on its marks.
use Rattle.std.proofs.Common.{◌≡◌, ◌↔◌, ◌<◌, ◌≤◌, Bool, false, refl, sym, subst, ap, ◌∙◌}
use Rattle.jr_ast.specs.Tree.{TypeName, named, Exp, number, name, field, super_field, class_literal, call, super_call, create, paren, cast, unary, bump, binary, assign, compound, Target, no_target, on, Exps, end, more}
use Rattle.jr_grammar.specs.Spelling.{toks}
use Rattle.jr_grammar.specs.Layout.{laid}
use Rattle.jr_grammar.specs.ExpressionLayout.{exp_layout}
use Rattle.jr_grammar.proofs.Layouts.{laid-map}
use Rattle.jr_grammar.proofs.ExpressionLayouts.{exp_laid, exp_layout-map}
use Rattle.jr_grammar.specs.Shape.{rank_of, level_of, IsTarget, IsCompound, IsNamed, ShapedBehind, ShapedTarget, AllShaped, IsStatementForm, is_minus, behind_of}
use Rattle.jr_ast.specs.Remarked.{map_type, map_exp, map_target, map_exps}
use Rattle.jr_grammar.specs.IgnoresMarks.{ExpressionIgnoresMarks}

-- ---- spelling

toks-map : {A B : Type 0} (h : A → B) (e : Exp A) → toks (map_exp h e) ≡ toks e
toks-map h e = sym (exp_laid (map_exp h e)) ∙ ap laid (sym (exp_layout-map h e)) ∙ laid-map h (exp_layout e) ∙ exp_laid e

-- ---- shape

pub level_of-map : {A B : Type 0} (h : A → B) (e : Exp A) → level_of (map_exp h e) ≡ level_of e
unfolding map_exp map_exps map_target
level_of-map h (cast m t e) = refl
level_of-map h (unary m o e) = refl
level_of-map h (bump m o e) = refl
level_of-map h (binary m o l r) = refl
level_of-map h (assign m t e) = refl
level_of-map h (compound m o t e) = refl
level_of-map h _ = refl

IsTarget-map : {A B : Type 0} (h : A → B) (e : Exp A) → IsTarget (map_exp h e) ≡ IsTarget e
unfolding map_exp map_exps map_target
IsTarget-map h (name m w) = refl
IsTarget-map h (field m e w) = refl
IsTarget-map h (super_field m w) = refl
IsTarget-map h _ = refl

pub IsNamed-map : {A B : Type 0} (h : A → B) (t : TypeName A) → IsNamed (map_type h t) ≡ IsNamed t
unfolding map_exp map_exps map_target
IsNamed-map h (named m o w) = refl
IsNamed-map h _ = refl

pub IsStatementForm-map : {A B : Type 0} (h : A → B) (e : Exp A) → IsStatementForm (map_exp h e) ≡ IsStatementForm e
unfolding map_exp map_exps map_target
IsStatementForm-map h (assign m t e) = refl
IsStatementForm-map h (compound m o t e) = refl
IsStatementForm-map h (bump m o e) = refl
IsStatementForm-map h (call m t w es) = refl
IsStatementForm-map h (super_call m w es) = refl
IsStatementForm-map h (create m t es) = refl
IsStatementForm-map h _ = refl

mutual
  unfolding map_exp map_exps map_target

  pub ShapedBehind-map : {A B : Type 0} (h : A → B) (b : Bool) (e : Exp A) → ShapedBehind b (map_exp h e) ≡ ShapedBehind b e
  ShapedBehind-map h b (number m n) = refl
  ShapedBehind-map h b (field m e w) = λ i. (10 ≤ level_of-map h e i) × ShapedBehind-map h b e i
  ShapedBehind-map h b (class_literal m t) = IsNamed-map h t
  ShapedBehind-map h b (call m t w es) = λ i. ShapedTarget-map h b t i × AllShaped-map h es i
  ShapedBehind-map h b (super_call m w es) = AllShaped-map h es
  ShapedBehind-map h b (create m t es) = λ i. IsNamed-map h t i × AllShaped-map h es i
  ShapedBehind-map h b (paren m e) = ShapedBehind-map h false e
  ShapedBehind-map h b (cast m t e) = λ i. IsNamed-map h t i × (9 ≤ level_of-map h e i) × ShapedBehind-map h false e i
  ShapedBehind-map h b (unary m o e) = λ i. (8 ≤ level_of-map h e i) × ShapedBehind-map h (is_minus o) e i
  ShapedBehind-map h b (bump m o e) = λ i. IsTarget-map h e i × ShapedBehind-map h (behind_of b o) e i
  ShapedBehind-map h b (binary m o l r) = λ i. ((rank_of o ≤ level_of-map h l i) × (rank_of o < level_of-map h r i)) × ShapedBehind-map h b l i × ShapedBehind-map h false r i
  ShapedBehind-map h b (assign m t e) = λ i. IsTarget-map h t i × ShapedBehind-map h b t i × ShapedBehind-map h false e i
  ShapedBehind-map h b (compound m o t e) = λ i. IsCompound o × IsTarget-map h t i × ShapedBehind-map h b t i × ShapedBehind-map h false e i
  ShapedBehind-map h b _ = refl

  ShapedTarget-map : {A B : Type 0} (h : A → B) (b : Bool) (t : Target A) → ShapedTarget b (map_target h t) ≡ ShapedTarget b t
  ShapedTarget-map h b no_target = refl
  ShapedTarget-map h b (on e) = λ i. (10 ≤ level_of-map h e i) × ShapedBehind-map h b e i

  pub AllShaped-map : {A B : Type 0} (h : A → B) (es : Exps A) → AllShaped (map_exps h es) ≡ AllShaped es
  AllShaped-map h end = refl
  AllShaped-map h (more e es) = λ i. ShapedBehind-map h false e i × AllShaped-map h es i

-- ---- the law

-- equal types hold alike
pub holds_alike : (P Q : Type 0) → P ≡ Q → P ↔ Q
holds_alike P Q same = (subst (λ (X : Type 0). X) same, subst (λ (X : Type 0). X) (sym same))

pub expression_ignores_marks : {A B : Type 0} → ExpressionIgnoresMarks A B
expression_ignores_marks = record {
  spelling = toks-map;
  shape = λ h e. holds_alike _ _ (ShapedBehind-map h false e);
  statement_shape = λ h e. holds_alike _ _ (λ i. IsStatementForm-map h e i × ShapedBehind-map h false e i);
}
