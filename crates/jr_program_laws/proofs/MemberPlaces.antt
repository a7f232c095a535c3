-- Places of what a member, or the head of a class, refers to and breaks: where its tokens begin.
use Rattle.std.proofs.Common.{◌≡◌, ℕ, List, [], ◌∷◌, Some, None, true, false, length, sym, subst}
use Rattle.std.specs.Prelude.{Option}
use Rattle.jr_text.specs.declared.spans.Span.{Span}
use Rattle.jr_ast.specs.Tree as tree
use Rattle.jr_ast.specs.StatementTree as statement
use Rattle.jr_ast.specs.MemberTree as syntax
use Rattle.jr_ast.specs.Marks.{type_mark, member_mark}
use Rattle.jr_grammar.specs.Stands.{Tokens, Stands}
use Rattle.jr_grammar.specs.ExpressionLayout.{exp_layout, type_layout}
use Rattle.jr_grammar.specs.StatementLayout.{stmt_layout, stmts_layout}
use Rattle.jr_grammar.specs.MemberLayout.{result_layout, param_layout, more_params_layout, params_layout, class_layout, member_layout, members_layout}
use Rattle.jr_table.specs.Keys.{ClassKey}
use Rattle.jr_table.specs.Decls.{MemberKey, head, field, method}
use Rattle.jr_table.specs.Rows.{Row}
use Rattle.jr_table.specs.Found.{Found}
use Rattle.jr_table.specs.Context.{Context}
use Rattle.jr_table.specs.Binding.{Role, TypeRefers}
use Rattle.jr_table.specs.Prelude.{top_key}
use Rattle.jr_table.specs.HeadRules.{plain, with_parameters, is_static_member, MaybeTypeRefers, ParamsRefer, ParentRefers, HeadRefers, DeclarationRefers, HeadBreaks, DeclarationBreaks, SuperNoMethod, SuperAmbiguous, FieldMismatches, MissingReturn, Override, CtorSuperCtor, ObjectMethodDeclared}
use Rattle.jr_table.specs.Somewhere.{InList}
use Rattle.jr_table.specs.Errors.{InMember}
use Rattle.jr_table.specs.declared.rules.Rule.{Rule}
use Rattle.jr_table.specs.declared.rules.Rule.TheVariants as rule
use Rattle.jr_program_laws.specs.FileParts.{begins}
use Rattle.jr_program_laws.proofs.TokenOrder.{StartsIn}
use Rattle.jr_program_laws.proofs.Filling.{front_fills, back_fills, word_fills, type_fills, result_fills, class_fills}
use Rattle.jr_program_laws.proofs.Reaching.{Reach, in_first, in_rest, in_node, either, in_two, as_said, never, for_some, at_node, Ahead, between, ahead_in_rest, ahead_in_node, ahead_as_said}
use Rattle.jr_program_laws.proofs.ExpressionPlaces.{word_place, type_place, exp_place, type_refers_place}
use Rattle.jr_program_laws.proofs.StatementPlaces.{in_row_place, in_list_place, in_maybe_place}

-- ---- a written `super(..)`

-- where one is written, a token begins there
abbrev pub SuperStarts : (s : ℕ) → syntax.Member Span → Tokens → Type 0
SuperStarts s (syntax.constructor m mods w ps (Some args) body) qs = StartsIn qs s
SuperStarts s _ qs = Unit {0}

pub record Known (s : ℕ) (x : syntax.Member Span) (ps : Tokens) : Type 0 where
  pub is : Stands (member_layout x) ps
  pub starts : SuperStarts s x ps

module _ (at : ℕ) where
  pub known : {s : ℕ} {x : syntax.Member Span} {T : Type 0} → Reach (Stands (member_layout x)) T at → Reach (Known s x) T at
  known f = record { reach = λ ps h t. f.reach ps h.is t }

  super_place : (s : ℕ) (m : Span) (mods : List (syntax.Modifier Span)) (w : tree.Word Span) (ps : List (syntax.Param Span)) (args : tree.Exps Span) (body : statement.Stmts Span)
      → Reach (Known s (syntax.constructor m mods w ps (Some args) body)) (at ≡ s) at
  super_place s m mods w ps args body = record { reach = λ qs h e. subst (StartsIn qs) (sym e) h.starts }

  -- where the node begins
  pub member_place : (x : syntax.Member Span) → Reach (Stands (member_layout x)) (at ≡ (member_mark x).from) at
  member_place (syntax.field m mods t w init) = at_node (back_fills (front_fills (type_fills t)))
  member_place (syntax.method m mods t w ps body) = at_node (back_fills (front_fills (result_fills t)))
  member_place (syntax.constructor m mods w ps args body) = at_node (back_fills (front_fills (word_fills w)))
  member_place (syntax.inner m c) = at_node (front_fills (class_fills c))

  -- ---- something in a member

  module _ (OnExp : Context → Role → (base : ℕ) → tree.Exp Span → Type 0) (OnStmt : (number : ℕ) → Context → (base : ℕ) → statement.Stmt Span → Type 0) (OnList : (base : ℕ) → statement.Stmts Span → Type 0)
      (exps : (c : Context) (r : Role) (base : ℕ) (e : tree.Exp Span) → Reach (Stands (exp_layout e)) (OnExp c r base e) at)
      (stmts : (number : ℕ) (c : Context) (base : ℕ) (x : statement.Stmt Span) → Reach (Stands (stmt_layout x)) (OnStmt number c base x) at)
      (lists : (base : ℕ) (xs : statement.Stmts Span) → Reach (Stands (stmts_layout xs)) (OnList base xs) at) where
    list_place : (number : ℕ) (c : Context) (base : ℕ) (xs : statement.Stmts Span) → Reach (Stands (stmts_layout xs)) (InList begins OnExp OnStmt OnList number c base xs) at
    list_place number c base xs = in_list_place at OnExp OnStmt OnList exps stmts lists number c base xs

    pub in_member_place : (k : MemberKey) (base : ℕ) (x : syntax.Member Span) → Reach (Stands (member_layout x)) (InMember begins OnExp OnStmt OnList k base x) at
    in_member_place k base (syntax.field m mods t w None) = never (λ h. h)
    in_member_place k base (syntax.field m mods t w (Some e)) =
        in_node (in_rest (in_rest (in_rest (in_first (in_rest (in_first (in_maybe_place at OnExp OnStmt OnList exps stmts lists (plain k (is_static_member begins mods)) (begins m base) e)))))))
    in_member_place k base (syntax.method m mods t w ps body) =
        in_node (in_rest (in_rest (in_rest (in_rest (in_rest (in_rest (in_rest (in_first (list_place (length ps) (with_parameters k (is_static_member begins mods) ps) (begins m base) body)))))))))
    in_member_place k base (syntax.constructor m mods w ps None body) =
        either (never (λ h. h)) (in_node (in_rest (in_rest (in_rest (in_rest (in_rest (in_rest (in_rest (in_first (list_place (length ps) (with_parameters k false ps) (begins m base) body))))))))))
    in_member_place k base (syntax.constructor m mods w ps (Some args) body) =
        in_node (in_rest (in_rest (in_rest (in_rest (in_rest (in_rest (in_two (in_rest (in_rest (in_first (in_row_place at OnExp OnStmt OnList exps stmts lists (with_parameters k true ps) (begins m base) args))))
        (in_first (list_place (length ps) (with_parameters k false ps) (begins m base) body)))))))))
    in_member_place k base (syntax.inner m c) = never (λ h. h)

  -- ---- references, and rules that a declaration or a head itself breaks

  module _ (rows : List Row) where
    result_place : (c : Context) (base : ℕ) (t : Option (tree.TypeName Span)) (f : Found) → Reach (Stands (result_layout t)) (MaybeTypeRefers begins rows c base t at f) at
    result_place c base None f = never (λ h. h)
    result_place c base (Some t) f = in_first (type_refers_place at rows c base t f)

    param_place : (c : Context) (p : syntax.Param Span) (f : Found) → Reach (Stands (param_layout p)) (TypeRefers begins rows c p.mark.from p.type at f) at
    param_place c p f = in_node (in_rest (in_first (type_refers_place at rows c p.mark.from p.type f)))

    more_params_place : (c : Context) (base : ℕ) (ps : List (syntax.Param Span)) (f : Found) → Reach (Stands (more_params_layout ps)) (ParamsRefer begins rows c base ps at f) at
    more_params_place c base [] f = never (λ h. h)
    more_params_place c base (p ∷ ps) f = in_rest (in_two (param_place c p f) (in_first (more_params_place c base ps f)))

    params_place : (c : Context) (base : ℕ) (ps : List (syntax.Param Span)) (f : Found) → Reach (Stands (params_layout ps)) (ParamsRefer begins rows c base ps at f) at
    params_place c base [] f = never (λ h. h)
    params_place c base (p ∷ ps) f = in_two (param_place c p f) (in_first (more_params_place c base ps f))

    module _ (s : ℕ) (k : MemberKey) (base : ℕ) where
      pub declaration_place : (x : syntax.Member Span) (f : Found) → Reach (Known s x) (DeclarationRefers begins rows s k base x at f) at
      declaration_place (syntax.field m mods t w init) f = known (in_node (in_rest (in_first (type_refers_place at rows (plain k false) (begins m base) t f))))
      declaration_place (syntax.method m mods t w ps body) f =
          known (in_node (in_rest (in_two (result_place (plain k false) (begins m base) t f) (in_rest (in_rest (in_first (params_place (plain k false) (begins m base) ps f)))))))
      declaration_place (syntax.constructor m mods w ps None body) f =
          either (known (in_node (in_rest (in_rest (in_rest (in_first (params_place (plain k false) (begins m base) ps f))))))) (never (λ h. h.1))
      declaration_place (syntax.constructor m mods w ps (Some args) body) f =
          either (known (in_node (in_rest (in_rest (in_rest (in_first (params_place (plain k false) (begins m base) ps f))))))) (as_said (super_place s m mods w ps args body) (λ h. h.0))
      declaration_place (syntax.inner m c) f = never (λ h. h)

      none_place : (x : syntax.Member Span) → Reach (Known s x) (SuperNoMethod begins rows s k x at) at
      none_place (syntax.constructor m mods w ps None body) = never (λ h. h.1)
      none_place (syntax.constructor m mods w ps (Some args) body) = as_said (super_place s m mods w ps args body) (λ h. h.0)
      none_place _ = never (λ h. h)

      several_place : (x : syntax.Member Span) → Reach (Known s x) (SuperAmbiguous begins rows s k x at) at
      several_place (syntax.constructor m mods w ps None body) = never (λ h. h.1.2)
      several_place (syntax.constructor m mods w ps (Some args) body) = as_said (super_place s m mods w ps args body) (λ h. h.0)
      several_place _ = never (λ h. h)

    field_place : (k : MemberKey) (base : ℕ) (x : syntax.Member Span) → Reach (Stands (member_layout x)) (FieldMismatches begins rows k base x at) at
    field_place (field k) base (syntax.field m mods t w (Some e)) = in_node (in_rest (in_rest (in_rest (in_first (in_rest (in_first (as_said (exp_place at e) (λ h. h.0))))))))
    field_place _ base _ = never (λ h. h)

    method_name_place : (m : Span) (mods : List (syntax.Modifier Span)) (t : Option (tree.TypeName Span)) (w : tree.Word Span) (ps : List (syntax.Param Span)) (body : statement.Stmts Span)
        → Reach (Stands (member_layout (syntax.method m mods t w ps body))) (at ≡ w.mark.from) at
    method_name_place m mods t w ps body = in_node (in_rest (in_rest (in_first (word_place at w))))

    missing_place : (base : ℕ) (x : syntax.Member Span) → Reach (Stands (member_layout x)) (MissingReturn begins rows base x at) at
    missing_place base (syntax.method m mods (Some t) w ps body) = as_said (method_name_place m mods (Some t) w ps body) (λ h. h.0)
    missing_place base _ = never (λ h. h)

    override_place : (k : MemberKey) (base : ℕ) (x : syntax.Member Span) → Reach (Stands (member_layout x)) (Override begins rows k base x at) at
    override_place (method k) base (syntax.method m mods t w ps body) = as_said (method_name_place m mods t w ps body) (λ h. h.0)
    override_place _ base _ = never (λ h. h)

    ctor_place : (k : MemberKey) (base : ℕ) (x : syntax.Member Span) → Reach (Stands (member_layout x)) (CtorSuperCtor begins rows k base x at) at
    ctor_place k base (syntax.constructor m mods w ps None body) = in_node (in_rest (in_first (as_said (word_place at w) (λ h. h.0))))
    ctor_place k base _ = never (λ h. h)

    object_place : (base : ℕ) (x : syntax.Member Span) → Reach (Stands (member_layout x)) (ObjectMethodDeclared begins rows base x at) at
    object_place base (syntax.method m mods t w ps body) = as_said (method_name_place m mods t w ps body) (λ h. h.0)
    object_place base _ = never (λ h. h)

    -- each rule's
    pub declaration_breaks_place : (s : ℕ) (k : MemberKey) (base : ℕ) (x : syntax.Member Span) (of : Rule) → Reach (Known s x) (DeclarationBreaks begins rows s k base x at of) at
    declaration_breaks_place s k base x rule.NoMethod = none_place s k base x
    declaration_breaks_place s k base x rule.Ambiguous = several_place s k base x
    declaration_breaks_place s k base x rule.Private = for_some (λ d. declaration_place s k base x _)
    declaration_breaks_place s k base x rule.TypeMismatch = known (field_place k base x)
    declaration_breaks_place s k base x rule.MissingReturn = known (missing_place base x)
    declaration_breaks_place s k base x rule.Override = known (override_place k base x)
    declaration_breaks_place s k base x rule.SuperCtor = known (ctor_place k base x)
    declaration_breaks_place s k base x rule.ObjectMethod = known (object_place base x)
    declaration_breaks_place s k base x _ = never (λ h. h)

    -- ---- heads of classes

    parent_place : (outer : Option (List ℕ)) (base : ℕ) (t : tree.TypeName Span) (f : Found) → Reach (Stands (type_layout t)) (ParentRefers begins rows outer base t at f) at
    parent_place (Some outer) base t f = type_refers_place at rows (plain (head (top_key outer)) false) base t f
    parent_place None base (tree.int m) f = never (λ h. h)
    parent_place None base (tree.boolean m) f = never (λ h. h)
    parent_place None base (tree.named m None w) f = in_node (in_first (as_said (word_place at w) (λ h. h.0)))
    parent_place None base (tree.named m (Some o) w) f = never (λ h. h)

-- the first member begins there
abbrev pub FirstAt : syntax.Members Span → ℕ → Type 0
FirstAt syntax.end at = ⊥
FirstAt (syntax.more x xs) at = at ≡ (member_mark x).from

first_place : (ms : syntax.Members Span) (at : ℕ) → Reach (Stands (members_layout ms)) (FirstAt ms at) at
first_place syntax.end at = never (λ h. h)
first_place (syntax.more x xs) at = in_first (member_place at x)

module _ (rows : List Row) (k : ClassKey) (base : ℕ) (m : Span) (mods : List (syntax.Modifier Span)) (w : tree.Word Span) (ms : syntax.Members Span) where
  abbrev Whole : Option (tree.TypeName Span) → syntax.Class Span
  Whole t = syntax.class m mods w t ms

  -- what a part of the superclass's name says
  extends_place : (t : tree.TypeName Span) (T : ℕ → Type 0) → ((at : ℕ) → Reach (Stands (type_layout t)) (T at) at) → (at : ℕ) → Reach (Stands (class_layout (Whole (Some t)))) (T at) at
  extends_place t T f at = in_node (in_rest (in_rest (in_rest (in_first (in_rest (in_first (f at)))))))

  extends_ahead : (t : tree.TypeName Span) (T : ℕ → Type 0) → ((at : ℕ) → Reach (Stands (type_layout t)) (T at) at) → Ahead (Stands (class_layout (Whole (Some t)))) T (FirstAt ms)
  extends_ahead t T f = ahead_in_node (ahead_in_rest (ahead_in_rest (ahead_in_rest (between (λ i. in_rest (in_first (f i))) (λ j. in_rest (in_first (first_place ms j)))))))

  name_ahead : (t : Option (tree.TypeName Span)) → Ahead (Stands (class_layout (Whole t))) (λ i. i ≡ w.mark.from) (FirstAt ms)
  name_ahead t = ahead_in_node (ahead_in_rest (ahead_in_rest (between (λ i. word_place i w) (λ j. in_rest (in_rest (in_first (first_place ms j)))))))

  never_ahead : {P : Tokens → Type 0} {T U : ℕ → Type 0} → ((i : ℕ) → T i → ⊥) → Ahead P T U
  never_ahead none = record { less = λ ps rising h i j t u. absurd (none i t) }

  pub head_refers_place : (t : Option (tree.TypeName Span)) (f : Found) (at : ℕ) → Reach (Stands (class_layout (Whole t))) (HeadRefers begins rows k base (Whole t) at f) at
  head_refers_place None f at = never (λ h. h)
  head_refers_place (Some t) f at = extends_place t (λ i. ParentRefers begins rows k.outer (begins m base) t i f) (λ i. parent_place i rows k.outer (begins m base) t f) at

  pub head_refers_ahead : (t : Option (tree.TypeName Span)) (f : Found) → Ahead (Stands (class_layout (Whole t))) (λ i. HeadRefers begins rows k base (Whole t) i f) (FirstAt ms)
  head_refers_ahead None f = never_ahead (λ i h. h)
  head_refers_ahead (Some t) f = extends_ahead t (λ i. ParentRefers begins rows k.outer (begins m base) t i f) (λ i. parent_place i rows k.outer (begins m base) t f)

  pub head_breaks_place : (t : Option (tree.TypeName Span)) (of : Rule) (at : ℕ) → Reach (Stands (class_layout (Whole t))) (HeadBreaks begins rows k base (Whole t) at of) at
  head_breaks_place t rule.Private at = for_some (λ d. head_refers_place t _ at)
  head_breaks_place t rule.SuperCtor at = in_node (in_rest (in_rest (in_first (as_said (word_place at w) (λ h. h.0)))))
  head_breaks_place None rule.FinalClass at = never (λ h. h)
  head_breaks_place (Some t) rule.FinalClass at = as_said (extends_place t (λ i. i ≡ (type_mark t).from) (λ i. type_place i t) at) (λ h. h.0)
  head_breaks_place t _ at = never (λ h. h)

  pub head_breaks_ahead : (t : Option (tree.TypeName Span)) (of : Rule) → Ahead (Stands (class_layout (Whole t))) (λ i. HeadBreaks begins rows k base (Whole t) i of) (FirstAt ms)
  head_breaks_ahead t rule.Private = record { less = λ ps rising h i j b f. (head_refers_ahead t _).less ps rising h i j b.1 f }
  head_breaks_ahead t rule.SuperCtor = ahead_as_said (name_ahead t) (λ i h. h.0)
  head_breaks_ahead None rule.FinalClass = never_ahead (λ i h. h)
  head_breaks_ahead (Some t) rule.FinalClass = ahead_as_said (extends_ahead t (λ i. i ≡ (type_mark t).from) (λ i. type_place i t)) (λ i h. h.0)
  head_breaks_ahead t _ = never_ahead (λ i h. h)
