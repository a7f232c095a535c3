-- References of members, and of the heads of classes: each begins where a token of it does, and no two begin at one place.
use Rattle.std.proofs.Common.{◌≡◌, ℕ, List, [], ◌∷◌, Some, None, true, false, length, inl, inr}
use Rattle.std.specs.Prelude.{◌⊎◌, Option}
use Rattle.jr_text.specs.declared.spans.Span.{Span}
use Rattle.jr_ast.specs.Tree as tree
use Rattle.jr_ast.specs.StatementTree as statement
use Rattle.jr_ast.specs.MemberTree as syntax
use Rattle.jr_grammar.specs.Stands.{Tokens, Stands}
use Rattle.jr_grammar.specs.ExpressionLayout.{type_layout}
use Rattle.jr_grammar.specs.MemberLayout.{result_layout, param_layout, more_params_layout, params_layout, init_layout, member_layout}
use Rattle.jr_table.specs.Decls.{MemberKey, head, Decl}
use Rattle.jr_table.specs.Rows.{Row}
use Rattle.jr_table.specs.Conditions.{AreRows}
use Rattle.jr_table.specs.Found.{one}
use Rattle.jr_table.specs.LookupLaws.{EachHasOne}
use Rattle.jr_table.specs.BindingLaws.{IsBound}
use Rattle.jr_table.specs.Context.{Context}
use Rattle.jr_table.specs.Binding.{value, TypeRefers, SuperCtorFinds}
use Rattle.jr_table.specs.Prelude.{top_key}
use Rattle.jr_table.specs.Somewhere.{InMaybe}
use Rattle.jr_table.specs.HeadRules.{plain, with_parameters, is_static_member, MaybeTypeRefers, ParamsRefer, ParentRefers}
use Rattle.jr_program_laws.specs.FileParts.{begins}
use Rattle.jr_program_laws.proofs.Holding.{Over, join, pass, only, node, turn, empty}
use Rattle.jr_program_laws.proofs.Supers.{Knowing, knowing_node, beyond, beyond_with, within_with, super_leads, lacks_token, word_lacks, modifiers_lack, params_lack}
use Rattle.jr_program_laws.proofs.FoundOnce.{same_decl, top_once, super_ctor_once}
use Rattle.jr_program_laws.proofs.ExpressionsHold.{word_over, type_over, args_over}
use Rattle.jr_program_laws.proofs.MemberParts.{OnExp, OnStmt, OnList, MemberBinds}
use Rattle.jr_program_laws.proofs.StatementsHold.{exp, list_over}

-- the parts of a method in text order, and of a constructor
regroup : {A B C : Type 0} → (A ⊎ B) ⊎ C → A ⊎ (B ⊎ C)
regroup (inl (inl a)) = inl a
regroup (inl (inr b)) = inr (inl b)
regroup (inr c) = inr (inr c)

plain_parts : {A B C D : Type 0} → (B → ⊥) → (C → ⊥) → (A ⊎ B) ⊎ (C ⊎ D) → A ⊎ D
plain_parts f g (inl (inl a)) = inl a
plain_parts f g (inl (inr b)) = absurd (f b)
plain_parts f g (inr (inl c)) = absurd (g c)
plain_parts f g (inr (inr d)) = inr d

super_parts : {A B C D : Type 0} → (A ⊎ B) ⊎ (C ⊎ D) → A ⊎ ((B ⊎ C) ⊎ D)
super_parts (inl (inl a)) = inl a
super_parts (inl (inr b)) = inr (inl (inl b))
super_parts (inr (inl c)) = inr (inl (inr c))
super_parts (inr (inr d)) = inr (inr d)

module _ (all : Tokens) (rows : List Row) (fit : AreRows rows) (lookups : EachHasOne rows) (bounds : (c : Context) → IsBound Span rows c) where
  type : (c : Context) (base : ℕ) (t : tree.TypeName Span) → Over all (Stands (type_layout t)) (λ at d. TypeRefers begins rows c base t at (one d))
  type c base t = type_over all rows fit lookups bounds c base t

  result_over : (c : Context) (base : ℕ) (t : Option (tree.TypeName Span)) → Over all (Stands (result_layout t)) (λ at d. MaybeTypeRefers begins rows c base t at (one d))
  result_over c base None = empty (λ at d h. h)
  result_over c base (Some t) = only (type c base t)

  param_over : (c : Context) (p : syntax.Param Span) → Over all (Stands (param_layout p)) (λ at d. TypeRefers begins rows c p.mark.from p.type at (one d))
  param_over c p = node (pass (only (type c p.mark.from p.type)))

  more_params_over : (c : Context) (base : ℕ) (ps : List (syntax.Param Span)) → Over all (Stands (more_params_layout ps)) (λ at d. ParamsRefer begins rows c base ps at (one d))
  more_params_over c base [] = empty (λ at d h. h)
  more_params_over c base (p ∷ ps) = pass (join (param_over c p) (only (more_params_over c base ps)))

  params_over : (c : Context) (base : ℕ) (ps : List (syntax.Param Span)) → Over all (Stands (params_layout ps)) (λ at d. ParamsRefer begins rows c base ps at (one d))
  params_over c base [] = empty (λ at d h. h)
  params_over c base (p ∷ ps) = join (param_over c p) (only (more_params_over c base ps))

  pub init_over : (c : Context) (base : ℕ) (init : Option (tree.Exp Span)) → Over all (Stands (init_layout init)) (λ at d. InMaybe begins (OnExp rows at d) (OnStmt rows at d) (OnList rows at d) c base init)
  init_over c base None = empty (λ at d h. h)
  init_over c base (Some e) = pass (only (exp all rows fit lookups bounds c value base e))

  -- ---- members

  pub field_over : (super_at : ℕ) (k : MemberKey) (base : ℕ) (m : Span) (mods : List (syntax.Modifier Span)) (t : tree.TypeName Span) (w : tree.Word Span) (init : Option (tree.Exp Span))
      → Over all (Stands (member_layout (syntax.field m mods t w init))) (MemberBinds rows super_at k base (syntax.field m mods t w init))
  field_over super_at k base m mods t w init = node (pass (join (type (plain k false) (begins m base) t) (pass (only (init_over (plain k (is_static_member begins mods)) (begins m base) init)))))

  pub method_over : (super_at : ℕ) (k : MemberKey) (base : ℕ) (m : Span) (mods : List (syntax.Modifier Span)) (t : Option (tree.TypeName Span)) (w : tree.Word Span) (ps : List (syntax.Param Span)) (body : statement.Stmts Span)
      → Over all (Stands (member_layout (syntax.method m mods t w ps body))) (MemberBinds rows super_at k base (syntax.method m mods t w ps body))
  method_over super_at k base m mods t w ps body = turn
      (node (pass (join (result_over (plain k false) (begins m base) t) (pass (pass (join (params_over (plain k false) (begins m base) ps)
      (pass (pass (only (list_over all rows fit lookups bounds (length ps) (with_parameters k (is_static_member begins mods) ps) (begins m base) body))))))))))
      (λ at d. regroup)

  -- without a written `super(..)`
  pub plain_ctor_over : (super_at : ℕ) (k : MemberKey) (base : ℕ) (m : Span) (mods : List (syntax.Modifier Span)) (w : tree.Word Span) (ps : List (syntax.Param Span)) (body : statement.Stmts Span)
      → Over all (Stands (member_layout (syntax.constructor m mods w ps None body))) (MemberBinds rows super_at k base (syntax.constructor m mods w ps None body))
  plain_ctor_over super_at k base m mods w ps body = turn
      (node (pass (pass (pass (join (params_over (plain k false) (begins m base) ps)
      (pass (pass (pass (only (list_over all rows fit lookups bounds (length ps) (with_parameters k false ps) (begins m base) body))))))))))
      (λ at d. plain_parts (λ h. h.1) (λ h. h))

  -- with one, which is the first
  super_once : (k : MemberKey) (ps : List (syntax.Param Span)) (args : tree.Exps Span) (super_at at : ℕ) (d e : Decl) → (at ≡ super_at) × SuperCtorFinds rows (with_parameters k true ps) args (one d)
      → (at ≡ super_at) × SuperCtorFinds rows (with_parameters k true ps) args (one e) → d ≡ e
  super_once k ps args super_at at d e h j = same_decl d e (super_ctor_once rows fit lookups (with_parameters k true ps) (bounds (with_parameters k true ps)) args (one d) (one e) h.1 j.1)

  pub super_ctor_over : (super_at : ℕ) (k : MemberKey) (base : ℕ) (m : Span) (mods : List (syntax.Modifier Span)) (w : tree.Word Span) (ps : List (syntax.Param Span)) (args : tree.Exps Span) (body : statement.Stmts Span)
      → Over all (Knowing super_at (Stands (member_layout (syntax.constructor m mods w ps (Some args) body)))) (MemberBinds rows super_at k base (syntax.constructor m mods w ps (Some args) body))
  super_ctor_over super_at k base m mods w ps args body = turn
      (knowing_node (beyond (modifiers_lack mods) (beyond (word_lacks w) (beyond (lacks_token (λ e. cc)) (beyond_with (params_lack ps) (params_over (plain k false) (begins m base) ps)
      (beyond (lacks_token (λ e. cc)) (beyond (lacks_token (λ e. cc)) (within_with (super_leads (λ at d h. h.0) (super_once k ps args super_at) (pass (only (args_over all rows fit lookups bounds (with_parameters k true ps) (begins m base) args))))
      (only (list_over all rows fit lookups bounds (length ps) (with_parameters k false ps) (begins m base) body))))))))))
      (λ at d. super_parts)

  -- ---- heads of classes

  pub parent_over : (outer : Option (List ℕ)) (base : ℕ) (t : tree.TypeName Span) → Over all (Stands (type_layout t)) (λ at d. ParentRefers begins rows outer base t at (one d))
  parent_over (Some outer) base t = type (plain (head (top_key outer)) false) base t
  parent_over None base (tree.int m) = empty (λ at d h. h)
  parent_over None base (tree.boolean m) = empty (λ at d h. h)
  parent_over None base (tree.named m None w) = node (only (word_over all rows fit lookups bounds w (λ at d h. h.0) (λ at d e h k. top_once rows w.text d e h.1 k.1)))
  parent_over None base (tree.named m (Some o) w) = empty (λ at d h. h)
