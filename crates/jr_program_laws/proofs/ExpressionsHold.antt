-- References of expressions: each begins where a token of the expression does, and no two begin at one place.
use Rattle.std.proofs.Common.{◌≡◌, ℕ, List, Some, None, inl, inr}
use Rattle.std.specs.Prelude.{◌⊎◌}
use Rattle.jr_text.specs.declared.spans.Span.{Span}
use Rattle.jr_ast.specs.declared.operators.BumpOp.TheVariants.{PreInc, PreDec, PostInc, PostDec}
use Rattle.jr_ast.specs.Tree as tree
use Rattle.jr_grammar.specs.Stands.{Tokens, Stands}
use Rattle.jr_grammar.specs.ExpressionLayout.{word_layout, type_layout, exp_layout, target_layout, args_layout, more_args_layout}
use Rattle.jr_table.specs.Decls.{Decl}
use Rattle.jr_table.specs.Rows.{Row}
use Rattle.jr_table.specs.Conditions.{AreRows}
use Rattle.jr_table.specs.Found.{one}
use Rattle.jr_table.specs.LookupLaws.{EachHasOne}
use Rattle.jr_table.specs.BindingLaws.{IsBound}
use Rattle.jr_table.specs.Context.{Context}
use Rattle.jr_table.specs.Binding.{Role, value, left, Sought, CreationFinds, TypeRefers, BindsItself}
use Rattle.jr_table.specs.Somewhere.{Somewhere, InTarget, InRow}
use Rattle.jr_program_laws.specs.FileParts.{begins}
use Rattle.jr_program_laws.proofs.Holding.{Over, join, pass, only, node, turn, empty, leading, leading_with}
use Rattle.jr_program_laws.proofs.FoundOnce.{same_decl, type_named_once, type_behind_once, name_once, dotted_once, super_field_once, call_once, super_call_once, creation_once}

pub swapped : {A B : Type 0} → A ⊎ B → B ⊎ A
swapped (inl a) = inr a
swapped (inr b) = inl b

-- nothing of its own
pub without : {A B : Type 0} → (A → ⊥) → A ⊎ B → B
without none (inl a) = absurd (none a)
without none (inr b) = b

second_first : {A B C : Type 0} → A ⊎ (B ⊎ C) → B ⊎ (A ⊎ C)
second_first (inl a) = inr (inl a)
second_first (inr (inl b)) = inl b
second_first (inr (inr c)) = inr (inr c)

left_by : {A B C : Type 0} → (A → C) → A ⊎ B → C ⊎ B
left_by f (inl a) = inl (f a)
left_by f (inr b) = inr b

created : {A B C D : Type 0} {P Q : Sought → Type 0} → ((q : Sought) × ((A × P q × B) ⊎ (Q q × C))) ⊎ D → (A × B) ⊎ (C ⊎ D)
created (inl (q, inl h)) = inl (h.0, h.2)
created (inl (q, inr h)) = inr (inl h.1)
created (inr h) = inr (inr h)

module _ (all : Tokens) (rows : List Row) (fit : AreRows rows) (lookups : EachHasOne rows) (bounds : (c : Context) → IsBound Span rows c) where
  -- a word
  pub word_over : (w : tree.Word Span) {R : ℕ → Decl → Type 0} → ((at : ℕ) (d : Decl) → R at d → at ≡ w.mark.from) → ((at : ℕ) (d e : Decl) → R at d → R at e → d ≡ e) → Over all (Stands (word_layout w)) R
  word_over w there single = leading there single

  pub type_over : (c : Context) (base : ℕ) (t : tree.TypeName Span) → Over all (Stands (type_layout t)) (λ at d. TypeRefers begins rows c base t at (one d))
  type_over c base (tree.int m) = empty (λ at d h. h)
  type_over c base (tree.boolean m) = empty (λ at d h. h)
  type_over c base (tree.named m None w) = node (only (word_over w (λ at d h. h.0) (λ at d e h k. same_decl d e (type_named_once rows fit lookups c (bounds c) w.text (one d) (one e) h.1 k.1))))
  type_over c base (tree.named m (Some o) w) = node
      (join (word_over o (λ at d h. h.0) (λ at d e h k. same_decl d e (type_named_once rows fit lookups c (bounds c) o.text (one d) (one e) h.1 k.1)))
      (pass (only (word_over w (λ at d h. h.0) (λ at d e h k. same_decl d e (type_behind_once rows fit lookups c (bounds c) o.text w.text (one d) (one e) h.1 k.1))))))

  module _ (c : Context) where
    abbrev Own : Role → (base : ℕ) → tree.Exp Span → ℕ → Decl → Type 0
    Own r base e at d = BindsItself begins rows c r base e at d

    name_over : (r : Role) (base : ℕ) (m : Span) (w : tree.Word Span) → Over all (Stands (word_layout w)) (Own r base (tree.name m w))
    name_over r base m w = word_over w (λ at d h. h.1.0) (λ at d e h k. same_decl d e (name_once rows fit lookups c (bounds c) r w.text h.0 k.0 (one d) (one e) h.1.1 k.1.1))

    field_over : (r : Role) (base : ℕ) (m : Span) (of : tree.Exp Span) (w : tree.Word Span) → Over all (Stands (word_layout w)) (Own r base (tree.field m of w))
    field_over r base m of w = word_over w (λ at d h. h.1.0) (λ at d e h k. same_decl d e (dotted_once rows fit lookups c (bounds c) r of w.text h.0 k.0 (one d) (one e) h.1.1 k.1.1))

    super_field_over : (r : Role) (base : ℕ) (m : Span) (w : tree.Word Span) → Over all (Stands (word_layout w)) (Own r base (tree.super_field m w))
    super_field_over r base m w = word_over w (λ at d h. h.1.0) (λ at d e h k. same_decl d e (super_field_once rows fit lookups c (bounds c) w.text (one d) (one e) h.1.2 k.1.2))

    call_over : (r : Role) (base : ℕ) (m : Span) (to : tree.Target Span) (w : tree.Word Span) (args : tree.Exps Span) → Over all (Stands (word_layout w)) (Own r base (tree.call m to w args))
    call_over r base m to w args = word_over w (λ at d h. h.1.0) (λ at d e h k. same_decl d e (call_once rows fit lookups c (bounds c) to w.text args (one d) (one e) h.1.2 k.1.2))

    super_call_over : (r : Role) (base : ℕ) (m : Span) (w : tree.Word Span) (args : tree.Exps Span) → Over all (Stands (word_layout w)) (Own r base (tree.super_call m w args))
    super_call_over r base m w args = word_over w (λ at d h. h.1.0) (λ at d e h k. same_decl d e (super_call_once rows fit lookups c (bounds c) w.text args (one d) (one e) h.1.2 k.1.2))

    created_once : (m : Span) (t : tree.TypeName Span) (args : tree.Exps Span) (at : ℕ) (d e : Decl) → (at ≡ m.from) × CreationFinds rows c t args (one d) → (at ≡ m.from) × CreationFinds rows c t args (one e) → d ≡ e
    created_once m t args at d e h k = same_decl d e (creation_once rows fit lookups c (bounds c) t args (one d) (one e) h.1 k.1)

    -- an expression, itself or below
    mutual
      unfolding Somewhere InTarget InRow

      pub exp_over : (r : Role) (base : ℕ) (e : tree.Exp Span) → Over all (Stands (exp_layout e)) (λ at d. Somewhere begins (λ s b x. BindsItself begins rows c s b x at d) r base e)
      exp_over r base (tree.number m n) = empty (λ at d h. h.1)
      exp_over r base (tree.truth m b) = empty (λ at d h. h.1)
      exp_over r base (tree.null m) = empty (λ at d h. h.1)
      exp_over r base (tree.string m s) = empty (λ at d h. h.1)
      exp_over r base (tree.name m w) = node (only (name_over r base m w))
      exp_over r base (tree.field m e w) = turn (node (join (exp_over left (begins m base) e) (pass (only (field_over r base m e w))))) (λ at d. swapped)
      exp_over r base (tree.super_field m w) = node (pass (pass (only (super_field_over r base m w))))
      exp_over r base (tree.this m) = empty (λ at d h. h.1)
      exp_over r base (tree.class_literal m t) = turn (node (only (type_over c (begins m base) t))) (λ at d h. h.1.1)
      exp_over r base (tree.call m to w args) =
          turn (node (join (target_over (begins m base) to) (join (call_over r base m to w args) (pass (only (args_over (begins m base) args)))))) (λ at d. second_first)
      exp_over r base (tree.super_call m w args) = node (pass (pass (join (super_call_over r base m w args) (pass (only (args_over (begins m base) args))))))
      exp_over r base (tree.create m t args) =
          turn (leading_with (λ at d h. h.0) (created_once m t args) (join (type_over c (begins m base) t) (pass (only (args_over (begins m base) args))))) (λ at d. created)
      exp_over r base (tree.paren m e) = turn (node (pass (only (exp_over value (begins m base) e)))) (λ at d. without (λ h. h.1))
      exp_over r base (tree.cast m t e) = turn (node (pass (join (type_over c (begins m base) t) (pass (only (exp_over value (begins m base) e)))))) (λ at d. left_by (λ h. h.1.1))
      exp_over r base (tree.unary m o e) = turn (node (pass (only (exp_over value (begins m base) e)))) (λ at d. without (λ h. h.1))
      exp_over r base (tree.bump m PreInc e) = turn (node (pass (only (exp_over value (begins m base) e)))) (λ at d. without (λ h. h.1))
      exp_over r base (tree.bump m PreDec e) = turn (node (pass (only (exp_over value (begins m base) e)))) (λ at d. without (λ h. h.1))
      exp_over r base (tree.bump m PostInc e) = turn (node (only (exp_over value (begins m base) e))) (λ at d. without (λ h. h.1))
      exp_over r base (tree.bump m PostDec e) = turn (node (only (exp_over value (begins m base) e))) (λ at d. without (λ h. h.1))
      exp_over r base (tree.binary m o x y) = turn (node (join (exp_over value (begins m base) x) (pass (only (exp_over value (begins m base) y))))) (λ at d. without (λ h. h.1))
      exp_over r base (tree.assign m x y) = turn (node (join (exp_over value (begins m base) x) (pass (only (exp_over value (begins m base) y))))) (λ at d. without (λ h. h.1))
      exp_over r base (tree.compound m o x y) = turn (node (join (exp_over value (begins m base) x) (pass (only (exp_over value (begins m base) y))))) (λ at d. without (λ h. h.1))

      target_over : (at : ℕ) (to : tree.Target Span) → Over all (Stands (target_layout to)) (λ i d. InTarget begins (λ s b x. BindsItself begins rows c s b x i d) at to)
      target_over at tree.no_target = empty (λ i d h. h)
      target_over at (tree.on e) = only (exp_over left at e)

      pub args_over : (at : ℕ) (args : tree.Exps Span) → Over all (Stands (args_layout args)) (λ i d. InRow begins (λ s b x. BindsItself begins rows c s b x i d) at args)
      args_over at tree.end = empty (λ i d h. h)
      args_over at (tree.more e es) = join (exp_over value at e) (only (more_args_over at es))

      more_args_over : (at : ℕ) (args : tree.Exps Span) → Over all (Stands (more_args_layout args)) (λ i d. InRow begins (λ s b x. BindsItself begins rows c s b x i d) at args)
      more_args_over at tree.end = empty (λ i d h. h)
      more_args_over at (tree.more e es) = pass (join (exp_over value at e) (only (more_args_over at es)))
