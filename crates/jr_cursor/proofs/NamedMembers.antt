-- Names that members and heads of classes declare, beside what they refer to: each begins where a token does, and no two begin at one place.
use Rattle.std.proofs.Common.{◌≡◌, ℕ, List, Option, Some, None, true, false, length, inl, inr}
use Rattle.std.specs.Prelude.{◌⊎◌}
use Rattle.jr_text.specs.declared.spans.Span.{Span}
use Rattle.jr_ast.specs.Tree as tree
use Rattle.jr_ast.specs.StatementTree as statement
use Rattle.jr_ast.specs.MemberTree as syntax
use Rattle.jr_grammar.specs.Stands.{Tokens, Stands}
use Rattle.jr_grammar.specs.ExpressionLayout.{word_layout}
use Rattle.jr_grammar.specs.StatementLayout.{stmts_layout}
use Rattle.jr_grammar.specs.MemberLayout.{result_layout, params_layout, init_layout, member_layout}
use Rattle.jr_table.specs.Decls.{MemberKey, Decl}
use Rattle.jr_table.specs.Rows.{Row}
use Rattle.jr_table.specs.Conditions.{AreRows}
use Rattle.jr_table.specs.Found.{one}
use Rattle.jr_table.specs.LookupLaws.{EachHasOne}
use Rattle.jr_table.specs.BindingLaws.{IsBound}
use Rattle.jr_table.specs.Context.{Context}
use Rattle.jr_table.specs.Binding.{value, SuperCtorFinds}
use Rattle.jr_table.specs.HeadRules.{plain, with_parameters, is_static_member, MaybeTypeRefers}
use Rattle.jr_table.specs.Somewhere.{InMaybe}
use Rattle.jr_table.specs.Errors.{InMember}
use Rattle.jr_program_laws.specs.FileParts.{begins}
use Rattle.jr_program_laws.proofs.MemberParts.{OnExp, OnStmt, OnList, MemberBinds}
use Rattle.jr_program_laws.proofs.Holding.{Over, join, pass, only, node, turn, empty}
use Rattle.jr_program_laws.proofs.Supers.{Knowing, knowing_node, beyond, beyond_with, within_with, super_leads, lacks_token, word_lacks, modifiers_lack, params_lack}
use Rattle.jr_program_laws.proofs.FoundOnce.{same_decl, super_ctor_once}
use Rattle.jr_program_laws.proofs.ExpressionsHold.{type_over, args_over}
use Rattle.jr_program_laws.proofs.MembersHold.{init_over}
use Rattle.jr_images.specs.Targets.{StandsAt, MemberDeclares, LocalDeclares}
use Rattle.jr_rewrite.specs.Rewrites.{declared_by}
use Rattle.jr_cursor.proofs.Nowhere.{exp_none, row_none}
use Rattle.jr_cursor.proofs.NamedParts.{never, HasIn, stmts_declare, stmts_refer, name_over, stmts_over, HasParam, params_over}

-- ---- parts in text order

field_parts : {W L T I : Type 0} → (L → ⊥) → (W ⊎ L) ⊎ (T ⊎ I) → T ⊎ (W ⊎ I)
field_parts f (inl (inl w)) = inr (inl w)
field_parts f (inl (inr l)) = absurd (f l)
field_parts f (inr (inl t)) = inl t
field_parts f (inr (inr i)) = inr (inr i)

method_parts : {W P Q L M T B : Type 0} → (L → B) → (M → B) → ((W ⊎ P) ⊎ (⊥ ⊎ L)) ⊎ ((T ⊎ Q) ⊎ (⊥ ⊎ M)) → T ⊎ (W ⊎ ((P ⊎ Q) ⊎ B))
method_parts f g (inl (inl (inl w))) = inr (inl w)
method_parts f g (inl (inl (inr p))) = inr (inr (inl (inl p)))
method_parts f g (inl (inr (inl e))) = absurd e
method_parts f g (inl (inr (inr l))) = inr (inr (inr (f l)))
method_parts f g (inr (inl (inl t))) = inl t
method_parts f g (inr (inl (inr q))) = inr (inr (inl (inr q)))
method_parts f g (inr (inr (inl e))) = absurd e
method_parts f g (inr (inr (inr m))) = inr (inr (inr (g m)))

plain_parts : {W P Q S L R M B : Type 0} → (S → ⊥) → (R → ⊥) → (L → B) → (M → B) → ((W ⊎ P) ⊎ (R ⊎ (⊥ ⊎ L))) ⊎ ((Q ⊎ S) ⊎ (R ⊎ (⊥ ⊎ M))) → W ⊎ ((P ⊎ Q) ⊎ B)
plain_parts s r f g (inl (inl (inl w))) = inl w
plain_parts s r f g (inl (inl (inr p))) = inr (inl (inl p))
plain_parts s r f g (inl (inr (inl x))) = absurd (r x)
plain_parts s r f g (inl (inr (inr (inl e)))) = absurd e
plain_parts s r f g (inl (inr (inr (inr l)))) = inr (inr (f l))
plain_parts s r f g (inr (inl (inl q))) = inr (inl (inr q))
plain_parts s r f g (inr (inl (inr x))) = absurd (s x)
plain_parts s r f g (inr (inr (inl x))) = absurd (r x)
plain_parts s r f g (inr (inr (inr (inl e)))) = absurd e
plain_parts s r f g (inr (inr (inr (inr m)))) = inr (inr (g m))

super_parts : {W P Q S L E A M B : Type 0} → (E → ⊥) → (L → B) → (M → B) → ((W ⊎ P) ⊎ (E ⊎ (⊥ ⊎ L))) ⊎ ((Q ⊎ S) ⊎ (A ⊎ (⊥ ⊎ M))) → W ⊎ ((P ⊎ Q) ⊎ ((S ⊎ A) ⊎ B))
super_parts e f g (inl (inl (inl w))) = inl w
super_parts e f g (inl (inl (inr p))) = inr (inl (inl p))
super_parts e f g (inl (inr (inl x))) = absurd (e x)
super_parts e f g (inl (inr (inr (inl n)))) = absurd n
super_parts e f g (inl (inr (inr (inr l)))) = inr (inr (inr (f l)))
super_parts e f g (inr (inl (inl q))) = inr (inl (inr q))
super_parts e f g (inr (inl (inr s))) = inr (inr (inl (inl s)))
super_parts e f g (inr (inr (inl a))) = inr (inr (inl (inr a)))
super_parts e f g (inr (inr (inr (inl n)))) = absurd n
super_parts e f g (inr (inr (inr (inr m)))) = inr (inr (inr (g m)))

-- ---- members

-- a name that a member declares
abbrev pub MemberNames : MemberKey → (base : ℕ) → syntax.Member Span → ℕ → Decl → Type 0
MemberNames k base x at d = MemberDeclares begins k base x at d ⊎ InMember begins (λ c role b e. ⊥) (λ n c b s. LocalDeclares begins n c b s at d) (λ b ss. ⊥) k base x

-- or a reference of it
abbrev pub MemberHas : List Row → (s : ℕ) → MemberKey → (base : ℕ) → syntax.Member Span → ℕ → Decl → Type 0
MemberHas rows s k base x at d = MemberNames k base x at d ⊎ MemberBinds rows s k base x at d

init_none : (at : ℕ) (d : Decl) (c : Context) (base : ℕ) (e : Option (tree.Exp Span)) → InMaybe begins (λ c r b e. ⊥) (λ n c b s. LocalDeclares begins n c b s at d) (λ b ss. ⊥) c base e → ⊥
init_none at d c base None h = h
init_none at d c base (Some e) h = exp_none begins _ base e h

module _ (all : Tokens) (rows : List Row) (fit : AreRows rows) (lookups : EachHasOne rows) (bounds : (c : Context) → IsBound Span rows c) where
  result_over : (c : Context) (base : ℕ) (t : Option (tree.TypeName Span)) → Over all (Stands (result_layout t)) (λ at d. MaybeTypeRefers begins rows c base t at (one d))
  result_over c base None = empty (λ at d h. h)
  result_over c base (Some t) = only (type_over all rows fit lookups bounds c base t)

  name : (k : MemberKey) (base : ℕ) (w : tree.Word Span) → Over all (Stands (word_layout w)) (λ at d. StandsAt begins base w at × (d ≡ declared_by k))
  name k base w = name_over all rows fit lookups bounds base w (declared_by k)

  params : (k : MemberKey) (base : ℕ) (ps : List (syntax.Param Span)) → Over all (Stands (params_layout ps)) (HasParam rows k 0 (plain k false) base ps)
  params k base ps = params_over all rows fit lookups bounds k 0 (plain k false) base ps

  body_over : (number : ℕ) (c : Context) (base : ℕ) (body : statement.Stmts Span) → Over all (Stands (stmts_layout body)) (λ at d. HasIn rows at d number c base body)
  body_over number c base body = stmts_over all rows fit lookups bounds number c base body

  pub field_has : (s : ℕ) (k : MemberKey) (base : ℕ) (m : Span) (mods : List (syntax.Modifier Span)) (t : tree.TypeName Span) (w : tree.Word Span) (init : Option (tree.Exp Span))
      → Over all (Stands (member_layout (syntax.field m mods t w init))) (MemberHas rows s k base (syntax.field m mods t w init))
  field_has s k base m mods t w init = turn
      (node (pass (join (type_over all rows fit lookups bounds (plain k false) (begins m base) t) (join (name k (begins m base) w)
      (only (init_over all rows fit lookups bounds (plain k (is_static_member begins mods)) (begins m base) init))))))
      (λ at d. field_parts (init_none at d (plain k (is_static_member begins mods)) (begins m base) init))

  pub method_has : (s : ℕ) (k : MemberKey) (base : ℕ) (m : Span) (mods : List (syntax.Modifier Span)) (t : Option (tree.TypeName Span)) (w : tree.Word Span) (ps : List (syntax.Param Span)) (body : statement.Stmts Span)
      → Over all (Stands (member_layout (syntax.method m mods t w ps body))) (MemberHas rows s k base (syntax.method m mods t w ps body))
  method_has s k base m mods t w ps body = turn
      (node (pass (join (result_over (plain k false) (begins m base) t) (join (name k (begins m base) w) (pass (join (params k (begins m base) ps)
      (pass (pass (only (body_over (length ps) (with_parameters k (is_static_member begins mods) ps) (begins m base) body))))))))))
      (λ at d. method_parts (stmts_declare rows at d (length ps) (with_parameters k (is_static_member begins mods) ps) (begins m base) body)
      (stmts_refer rows at d (length ps) (with_parameters k (is_static_member begins mods) ps) (begins m base) body))

  -- without a written `super(..)`
  pub plain_ctor_has : (s : ℕ) (k : MemberKey) (base : ℕ) (m : Span) (mods : List (syntax.Modifier Span)) (w : tree.Word Span) (ps : List (syntax.Param Span)) (body : statement.Stmts Span)
      → Over all (Stands (member_layout (syntax.constructor m mods w ps None body))) (MemberHas rows s k base (syntax.constructor m mods w ps None body))
  plain_ctor_has s k base m mods w ps body = turn
      (node (pass (join (name k (begins m base) w) (pass (join (params k (begins m base) ps)
      (pass (pass (pass (only (body_over (length ps) (with_parameters k false ps) (begins m base) body))))))))))
      (λ at d. plain_parts (λ h. h.1) never (stmts_declare rows at d (length ps) (with_parameters k false ps) (begins m base) body) (stmts_refer rows at d (length ps) (with_parameters k false ps) (begins m base) body))

  -- with one, which is the first
  super_once : (k : MemberKey) (ps : List (syntax.Param Span)) (args : tree.Exps Span) (s at : ℕ) (d e : Decl) → (at ≡ s) × SuperCtorFinds rows (with_parameters k true ps) args (one d)
      → (at ≡ s) × SuperCtorFinds rows (with_parameters k true ps) args (one e) → d ≡ e
  super_once k ps args s at d e h j = same_decl d e (super_ctor_once rows fit lookups (with_parameters k true ps) (bounds (with_parameters k true ps)) args (one d) (one e) h.1 j.1)

  pub super_ctor_has : (s : ℕ) (k : MemberKey) (base : ℕ) (m : Span) (mods : List (syntax.Modifier Span)) (w : tree.Word Span) (ps : List (syntax.Param Span)) (args : tree.Exps Span) (body : statement.Stmts Span)
      → Over all (Knowing s (Stands (member_layout (syntax.constructor m mods w ps (Some args) body)))) (MemberHas rows s k base (syntax.constructor m mods w ps (Some args) body))
  super_ctor_has s k base m mods w ps args body = turn
      (knowing_node (beyond (modifiers_lack mods) (beyond_with (word_lacks w) (name k (begins m base) w) (beyond (lacks_token (λ e. cc)) (beyond_with (params_lack ps) (params k (begins m base) ps)
      (beyond (lacks_token (λ e. cc)) (beyond (lacks_token (λ e. cc)) (within_with (super_leads (λ at d h. h.0) (super_once k ps args s) (pass (only (args_over all rows fit lookups bounds (with_parameters k true ps) (begins m base) args))))
      (only (body_over (length ps) (with_parameters k false ps) (begins m base) body))))))))))
      (λ at d. super_parts (row_none begins (begins m base) args) (stmts_declare rows at d (length ps) (with_parameters k false ps) (begins m base) body)
      (stmts_refer rows at d (length ps) (with_parameters k false ps) (begins m base) body))
