-- A reference of an expression begins where a token of it does.
use Rattle.std.proofs.Common.{◌≡◌, ℕ, List, [], ◌∷◌, ◌++◌, ◌∙◌, Option, Some, None, refl, sym, ap, subst, inl, inr}
use Rattle.std.specs.Prelude.{◌⊎◌}
use Rattle.jr_text.specs.declared.spans.Span.{Span}
use Rattle.jr_ast.specs.declared.operators.BumpOp.TheVariants.{PreInc, PreDec, PostInc, PostDec}
use Rattle.jr_ast.specs.Tree as tree
use Rattle.jr_grammar.specs.Tokens.{Token}
use Rattle.jr_grammar.specs.ExpressionLayout.{type_layout, exp_layout, target_layout, args_layout, more_args_layout}
use Rattle.jr_grammar.specs.Stands.{Tokens, first_from, IsAlone, InOrder, IsNode, Stands}
use Rattle.jr_table.specs.Decls.{Decl}
use Rattle.jr_table.specs.Rows.{Row}
use Rattle.jr_table.specs.Found.{Found, one}
use Rattle.jr_table.specs.Context.{Context}
use Rattle.jr_table.specs.Binding.{Role, value, left, TypeRefers, BindsItself}
use Rattle.jr_table.specs.Somewhere.{Somewhere, InTarget, InRow}
use Rattle.jr_program_laws.specs.FileParts.{begins}
use Rattle.jr_program_laws.proofs.TokenOrder.{StartsIn}
use Rattle.jr_moved_references.proofs.Carrying.{AreNone, WordStands, word_starts}
use Rattle.jr_moved_references.proofs.Worded.{first_starts, rest_starts}

module _ (rows : List Row) (c : Context) where
  pub type_starts : (b : ℕ) (t : tree.TypeName Span) (at : ℕ) (f : Found) → TypeRefers begins rows c b t at f → (ps : Tokens) → Stands (type_layout t) ps → StartsIn ps at
  type_starts b (tree.int m) at f h ps l = absurd h
  type_starts b (tree.boolean m) at f h ps l = absurd h
  type_starts b (tree.named m None w) at f h ps l = subst (StartsIn ps) (sym h.0) (first_starts w.mark.from (word_starts w.mark w.text) ps l.parts)
  type_starts b (tree.named m (Some o) w) at f (inl h) ps l = subst (StartsIn ps) (sym h.0) (first_starts o.mark.from (word_starts o.mark o.text) ps l.parts)
  type_starts b (tree.named m (Some o) w) at f (inr h) ps l = subst (StartsIn ps) (sym h.0) (rest_starts w.mark.from (rest_starts w.mark.from (first_starts w.mark.from (word_starts w.mark w.text))) ps l.parts)

  module _ (x : Decl) where
    -- the reference of an expression itself, and one somewhere in it
    abbrev pub Own : Role → (base : ℕ) → tree.Exp Span → (at : ℕ) → Type 0
    Own r b e at = BindsItself begins rows c r b e at x

    abbrev pub Within : Role → (base : ℕ) → tree.Exp Span → (at : ℕ) → Type 0
    Within r b e at = Somewhere begins (λ r b e. Own r b e at) r b e

    abbrev pub WithinTarget : (base : ℕ) → tree.Target Span → (at : ℕ) → Type 0
    WithinTarget b to at = InTarget begins (λ r b e. Own r b e at) b to

    abbrev pub WithinRow : (base : ℕ) → tree.Exps Span → (at : ℕ) → Type 0
    WithinRow b es at = InRow begins (λ r b e. Own r b e at) b es

    -- `new` is the first token of a creation
    new_starts : (m : Span) {P : Tokens → Type 0} (t : Token) (ps : Tokens) → IsNode m (InOrder (IsAlone t) P) ps → StartsIn ps m.from
    new_starts m t ps h =
        let whole : ps ≡ h.parts.first.placed ∷ h.parts.back = h.parts.whole ∙ ap (λ (xs : Tokens). xs ++ h.parts.back) h.parts.first.alone in
        let first : m.from ≡ h.parts.first.placed.mark.from = ap (λ (s : Span). s.from) h.mark ∙ ap first_from whole in
        subst (λ (qs : Tokens). StartsIn qs m.from) (sym whole) (inl first)

    mutual
      unfolding Somewhere InTarget InRow

      pub exp_starts : (r : Role) (b : ℕ) (e : tree.Exp Span) (at : ℕ) → Within r b e at → (ps : Tokens) → Stands (exp_layout e) ps → StartsIn ps at
      exp_starts r b (tree.number m n) at h ps l = absurd h.1
      exp_starts r b (tree.truth m n) at h ps l = absurd h.1
      exp_starts r b (tree.null m) at h ps l = absurd h.1
      exp_starts r b (tree.string m n) at h ps l = absurd h.1
      exp_starts r b (tree.this m) at h ps l = absurd h.1
      exp_starts r b (tree.name m w) at h ps l = subst (StartsIn ps) (sym h.1.0) (first_starts w.mark.from (word_starts w.mark w.text) ps l.parts)
      exp_starts r b (tree.field m e w) at (inl h) ps l = subst (StartsIn ps) (sym h.1.0) (rest_starts w.mark.from (rest_starts w.mark.from (first_starts w.mark.from (word_starts w.mark w.text))) ps l.parts)
      exp_starts r b (tree.field m e w) at (inr h) ps l = first_starts at (exp_starts left m.from e at h) ps l.parts
      exp_starts r b (tree.super_field m w) at h ps l = subst (StartsIn ps) (sym h.1.0) (rest_starts w.mark.from (rest_starts w.mark.from (first_starts w.mark.from (word_starts w.mark w.text))) ps l.parts)
      exp_starts r b (tree.class_literal m t) at h ps l = first_starts at (type_starts m.from t at (one x) h.1.1) ps l.parts
      exp_starts r b (tree.call m to w args) at (inl h) ps l = subst (StartsIn ps) (sym h.1.0) (rest_starts w.mark.from (first_starts w.mark.from (word_starts w.mark w.text)) ps l.parts)
      exp_starts r b (tree.call m to w args) at (inr (inl h)) ps l = first_starts at (target_starts m.from to at h) ps l.parts
      exp_starts r b (tree.call m to w args) at (inr (inr h)) ps l = rest_starts at (rest_starts at (rest_starts at (first_starts at (args_starts m.from args at h)))) ps l.parts
      exp_starts r b (tree.super_call m w args) at (inl h) ps l = subst (StartsIn ps) (sym h.1.0) (rest_starts w.mark.from (rest_starts w.mark.from (first_starts w.mark.from (word_starts w.mark w.text))) ps l.parts)
      exp_starts r b (tree.super_call m w args) at (inr h) ps l = rest_starts at (rest_starts at (rest_starts at (rest_starts at (first_starts at (args_starts m.from args at h))))) ps l.parts
      exp_starts r b (tree.create m t args) at (inl (q, inl h)) ps l = subst (StartsIn ps) (sym h.0) (new_starts m _ ps l)
      exp_starts r b (tree.create m t args) at (inl (q, inr h)) ps l = rest_starts at (first_starts at (type_starts m.from t at (one x) h.1)) ps l.parts
      exp_starts r b (tree.create m t args) at (inr h) ps l = rest_starts at (rest_starts at (rest_starts at (first_starts at (args_starts m.from args at h)))) ps l.parts
      exp_starts r b (tree.paren m e) at (inl h) ps l = absurd h.1
      exp_starts r b (tree.paren m e) at (inr h) ps l = rest_starts at (first_starts at (exp_starts value m.from e at h)) ps l.parts
      exp_starts r b (tree.cast m t e) at (inl h) ps l = rest_starts at (first_starts at (type_starts m.from t at (one x) h.1.1)) ps l.parts
      exp_starts r b (tree.cast m t e) at (inr h) ps l = rest_starts at (rest_starts at (rest_starts at (first_starts at (exp_starts value m.from e at h)))) ps l.parts
      exp_starts r b (tree.unary m o e) at (inl h) ps l = absurd h.1
      exp_starts r b (tree.unary m o e) at (inr h) ps l = rest_starts at (first_starts at (exp_starts value m.from e at h)) ps l.parts
      exp_starts r b (tree.bump m o e) at (inl h) ps l = absurd h.1
      exp_starts r b (tree.bump m PreInc e) at (inr h) ps l = rest_starts at (first_starts at (exp_starts value m.from e at h)) ps l.parts
      exp_starts r b (tree.bump m PreDec e) at (inr h) ps l = rest_starts at (first_starts at (exp_starts value m.from e at h)) ps l.parts
      exp_starts r b (tree.bump m PostInc e) at (inr h) ps l = first_starts at (exp_starts value m.from e at h) ps l.parts
      exp_starts r b (tree.bump m PostDec e) at (inr h) ps l = first_starts at (exp_starts value m.from e at h) ps l.parts
      exp_starts r b (tree.binary m o e f) at (inl h) ps l = absurd h.1
      exp_starts r b (tree.binary m o e f) at (inr (inl h)) ps l = first_starts at (exp_starts value m.from e at h) ps l.parts
      exp_starts r b (tree.binary m o e f) at (inr (inr h)) ps l = rest_starts at (rest_starts at (first_starts at (exp_starts value m.from f at h))) ps l.parts
      exp_starts r b (tree.assign m e f) at (inl h) ps l = absurd h.1
      exp_starts r b (tree.assign m e f) at (inr (inl h)) ps l = first_starts at (exp_starts value m.from e at h) ps l.parts
      exp_starts r b (tree.assign m e f) at (inr (inr h)) ps l = rest_starts at (rest_starts at (first_starts at (exp_starts value m.from f at h))) ps l.parts
      exp_starts r b (tree.compound m o e f) at (inl h) ps l = absurd h.1
      exp_starts r b (tree.compound m o e f) at (inr (inl h)) ps l = first_starts at (exp_starts value m.from e at h) ps l.parts
      exp_starts r b (tree.compound m o e f) at (inr (inr h)) ps l = rest_starts at (rest_starts at (first_starts at (exp_starts value m.from f at h))) ps l.parts

      target_starts : (b : ℕ) (to : tree.Target Span) (at : ℕ) → WithinTarget b to at → (ps : Tokens) → Stands (target_layout to) ps → StartsIn ps at
      target_starts b tree.no_target at h ps l = absurd h
      target_starts b (tree.on e) at h ps l = first_starts at (exp_starts left b e at h) ps l

      args_starts : (b : ℕ) (es : tree.Exps Span) (at : ℕ) → WithinRow b es at → (ps : Tokens) → Stands (args_layout es) ps → StartsIn ps at
      args_starts b tree.end at h ps l = absurd h
      args_starts b (tree.more e es) at (inl h) ps l = first_starts at (exp_starts value b e at h) ps l
      args_starts b (tree.more e es) at (inr h) ps l = rest_starts at (first_starts at (more_args_starts b es at h)) ps l

      more_args_starts : (b : ℕ) (es : tree.Exps Span) (at : ℕ) → WithinRow b es at → (ps : Tokens) → Stands (more_args_layout es) ps → StartsIn ps at
      more_args_starts b tree.end at h ps l = absurd h
      more_args_starts b (tree.more e es) at (inl h) ps l = rest_starts at (first_starts at (exp_starts value b e at h)) ps l
      more_args_starts b (tree.more e es) at (inr h) ps l = rest_starts at (rest_starts at (first_starts at (more_args_starts b es at h))) ps l
