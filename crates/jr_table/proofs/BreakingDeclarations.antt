-- Rules that the declaration of a member breaks, and what its references are bound to: what is noted is what the relations say.
use Rattle.std.proofs.Common.{◌≡◌, ℕ, List, [], ◌∷◌, ◌++◌, Option, Some, None, true, false, refl, sym, subst, inl, inr}
use Rattle.std.specs.Prelude.{◌⊎◌, ◌↔◌}
use Rattle.jr_ast.specs.Tree as tree
use Rattle.jr_ast.specs.StatementTree as statement
use Rattle.jr_ast.specs.MemberTree as syntax
use Rattle.jr_ast.specs.Marks.{exp_mark}
use Rattle.jr_table.specs.Decls.{MemberKey, head, field, method, constructor, Decl, field_decl}
use Rattle.jr_table.specs.Rows.{Row}
use Rattle.jr_table.specs.Conditions.{AreRows}
use Rattle.jr_table.specs.Found.{Found, one, nothing, many, not_accessible, from_static}
use Rattle.jr_table.specs.LookupLaws.{KeysAreFound}
use Rattle.jr_table.specs.Context.{Context, IsTypeOf}
use Rattle.jr_table.specs.Binding.{HasType, HaveTypes, FindsIn, Sought, type, TypeRefers, SuperCtorFinds}
use Rattle.jr_table.specs.Binding as sought
use Rattle.jr_table.specs.ExpressionRules.{Suits, IsObjectMethod}
use Rattle.jr_table.specs.Completing.{ListCompletes}
use Rattle.jr_table.specs.HeadRules.{plain, with_parameters, is_static_member, LacksSuperCtor, OverridesBadly, ParamsRefer, SuperNoMethod, SuperAmbiguous, DeclarationPrivate, FieldMismatches, MissingReturn, Override, CtorSuperCtor, ObjectMethodDeclared, DeclarationBreaks}
use Rattle.jr_table.specs.Meanings.{type_of, type_of_decl, Reference, reference, type_references}
use Rattle.jr_table.specs.Notes.{Note, breaks, Has, reference_notes, suits, list_completes, is_object_method}
use Rattle.jr_table.specs.HeadNotes.{overrides_badly, lacks_super_ctor, override_notes, declared_notes, param_references, result_references, init_notes, missing_return_notes, declaration_notes}
use Rattle.jr_table.proofs.RowTypes.{chain, decl_type_iff}
use Rattle.jr_table.proofs.Typing.{typed}
use Rattle.jr_table.proofs.DeclarationTests.{object_method_iff}
use Rattle.jr_table.proofs.TypeTests.{suits_iff}
use Rattle.jr_table.proofs.Referring.{type_iff}
use Rattle.jr_table.proofs.Breaking.{two, unless_iff, rule_when}
use Rattle.jr_table.proofs.BreakingReferences.{references_break, IsRuleOf}
use Rattle.jr_table.proofs.TypeNotes.{declared_breaks}
use Rattle.jr_table.proofs.DeclaredReferences.{params_iff, MethodRefers, method_iff, written_super, only_super, super_answer}
use Rattle.jr_table.proofs.FlowTests.{list_test}
use Rattle.jr_table.proofs.OverrideTests.{overrides_iff}
use Rattle.jr_table.proofs.BreakingHeads.{lacks_iff}
use Rattle.jr_table.specs.declared.rules.Rule.{Rule}
use Rattle.jr_table.specs.declared.rules.Rule.TheVariants as rule

module _ {A : Type 0} (begins : A → ℕ → ℕ) (rows : List Row) (super_at : ℕ) (k : MemberKey) (base : ℕ) where
  data DeclarationRule (x : syntax.Member A) (at : ℕ) (r : Rule) : Type 0 where
    missing : (is : r ≡ rule.NoMethod) (has : SuperNoMethod begins rows super_at k x at) → DeclarationRule x at r
    several : (is : r ≡ rule.Ambiguous) (has : SuperAmbiguous begins rows super_at k x at) → DeclarationRule x at r
    hidden : (is : r ≡ rule.Private) (has : DeclarationPrivate begins rows super_at k base x at) → DeclarationRule x at r
    mismatch : (is : r ≡ rule.TypeMismatch) (has : FieldMismatches begins rows k base x at) → DeclarationRule x at r
    ends : (is : r ≡ rule.MissingReturn) (has : MissingReturn begins rows base x at) → DeclarationRule x at r
    under : (is : r ≡ rule.Override) (has : Override begins rows k base x at) → DeclarationRule x at r
    lacking : (is : r ≡ rule.SuperCtor) (has : CtorSuperCtor begins rows k base x at) → DeclarationRule x at r
    object : (is : r ≡ rule.ObjectMethod) (has : ObjectMethodDeclared begins rows base x at) → DeclarationRule x at r

  one_rule : (x : syntax.Member A) (at : ℕ) (r : Rule) → DeclarationRule x at r ↔ DeclarationBreaks begins rows super_at k base x at r
  one_rule x at r = (to, back r)
    where
      carry : (q : Rule) → r ≡ q → DeclarationBreaks begins rows super_at k base x at q → DeclarationBreaks begins rows super_at k base x at r
      carry q is h = subst (λ p. DeclarationBreaks begins rows super_at k base x at p) (sym is) h

      to : DeclarationRule x at r → DeclarationBreaks begins rows super_at k base x at r
      to (missing is h) = carry rule.NoMethod is h
      to (several is h) = carry rule.Ambiguous is h
      to (hidden is h) = carry rule.Private is h
      to (mismatch is h) = carry rule.TypeMismatch is h
      to (ends is h) = carry rule.MissingReturn is h
      to (under is h) = carry rule.Override is h
      to (lacking is h) = carry rule.SuperCtor is h
      to (object is h) = carry rule.ObjectMethod is h

      back : (q : Rule) → DeclarationBreaks begins rows super_at k base x at q → DeclarationRule x at q
      back rule.NoMethod h = missing refl h
      back rule.Ambiguous h = several refl h
      back rule.Private h = hidden refl h
      back rule.TypeMismatch h = mismatch refl h
      back rule.MissingReturn h = ends refl h
      back rule.Override h = under refl h
      back rule.SuperCtor h = lacking refl h
      back rule.ObjectMethod h = object refl h
      back _ h = absurd h

  -- which members may break two of them
  abbrev IsMethod : syntax.Member A → Type 0
  IsMethod (syntax.method m mods t w ps body) = Unit {0}
  IsMethod _ = ⊥

  abbrev IsField : syntax.Member A → Type 0
  IsField (syntax.field m mods t w init) = Unit {0}
  IsField _ = ⊥

  under_method : (j : MemberKey) (x : syntax.Member A) (at : ℕ) → Override begins rows j base x at → IsMethod x
  under_method (method f) (syntax.method m mods t w ps body) at h = tt
  under_method (method f) (syntax.field m mods t w init) at h = h
  under_method (method f) (syntax.constructor m mods w ps args body) at h = h
  under_method (method f) (syntax.inner m of) at h = h
  under_method (head f) x at h = absurd h
  under_method (field f) x at h = absurd h
  under_method (constructor f) x at h = absurd h

  mismatch_field : (j : MemberKey) (x : syntax.Member A) (at : ℕ) → FieldMismatches begins rows j base x at → IsField x
  mismatch_field (field f) (syntax.field m mods t w init) at h = tt
  mismatch_field (field f) (syntax.method m mods t w ps body) at h = h
  mismatch_field (field f) (syntax.constructor m mods w ps args body) at h = h
  mismatch_field (field f) (syntax.inner m of) at h = h
  mismatch_field (head f) x at h = absurd h
  mismatch_field (method f) x at h = absurd h
  mismatch_field (constructor f) x at h = absurd h

  module _ (fit : AreRows rows) (found : KeysAreFound rows) where
    -- fields

    abbrev field_init : A → List (syntax.Modifier A) → Option (tree.Exp A) → List Note
    field_init m mods init = init_notes begins rows k (is_static_member begins mods) (begins m base) init

    init_iff : (j : MemberKey) (m : A) (mods : List (syntax.Modifier A)) (t : tree.TypeName A) (w : tree.Word A) (init : Option (tree.Exp A)) (at : ℕ) (r : Rule)
        → Has (init_notes begins rows j (is_static_member begins mods) (begins m base) init) (breaks at r) ↔ ((r ≡ rule.TypeMismatch) × FieldMismatches begins rows j base (syntax.field m mods t w init) at)
    init_iff (field f) m mods t w (Some e) at r = chain
        (unless_iff (suits rows (type_of rows c e) (type_of_decl rows c (field_decl f))) (Suits rows c e (IsTypeOf rows c (field_decl f)))
        (suits_iff rows fit (type_of rows c e) (type_of_decl rows c (field_decl f)) (HasType rows c e) (IsTypeOf rows c (field_decl f)) (typed rows fit found c e) (decl_type_iff rows fit found c (field_decl f))) (begins (exp_mark e) (begins m base)) at rule.TypeMismatch r)
        (λ h. (h.1, (h.0, h.2)), λ h. (h.1.0, h.0, h.1.1))
      where
        c : Context
        c = plain (field f) (is_static_member begins mods)
    init_iff (field f) m mods t w None at r = (λ h. absurd h, λ h. h.1)
    init_iff (head f) m mods t w init at r = (λ h. absurd h, λ h. h.1)
    init_iff (method f) m mods t w init at r = (λ h. absurd h, λ h. h.1)
    init_iff (constructor f) m mods t w init at r = (λ h. absurd h, λ h. h.1)

    -- what isn't accessible, of references that are those of a relation
    abbrev Hides : (ℕ → Found → Type 0) → ℕ → Rule → Type 0
    Hides Refer at r = (r ≡ rule.Private) × ((d : Decl) × Refer at (not_accessible d))

    abbrev FieldRefers : A → tree.TypeName A → ℕ → Found → Type 0
    FieldRefers m t at f = TypeRefers begins rows (plain k false) (begins m base) t at f

    field_rules : (m : A) (mods : List (syntax.Modifier A)) (t : tree.TypeName A) (w : tree.Word A) (init : Option (tree.Exp A)) (at : ℕ) (r : Rule)
        → Has (declaration_notes begins rows super_at k base (syntax.field m mods t w init)) (breaks at r) ↔ DeclarationRule (syntax.field m mods t w init) at r
    field_rules m mods t w init at r = chain
        (two (declared_notes (type_references begins rows (plain k false) (begins m base) t)) (field_init m mods init) (breaks at r) (Hides (FieldRefers m t) at r) ((r ≡ rule.TypeMismatch) × FieldMismatches begins rows k base (syntax.field m mods t w init) at)
        (declared_breaks (type_references begins rows (plain k false) (begins m base) t) (FieldRefers m t) (type_iff rows fit found (plain k false) begins (begins m base) t) at r) (init_iff k m mods t w init at r)) (to, back)
      where
        to : (Hides (FieldRefers m t) at r ⊎ ((r ≡ rule.TypeMismatch) × FieldMismatches begins rows k base (syntax.field m mods t w init) at)) → DeclarationRule (syntax.field m mods t w init) at r
        to (inl h) = hidden h.0 h.1
        to (inr h) = mismatch h.0 h.1

        back : DeclarationRule (syntax.field m mods t w init) at r → Hides (FieldRefers m t) at r ⊎ ((r ≡ rule.TypeMismatch) × FieldMismatches begins rows k base (syntax.field m mods t w init) at)
        back (hidden is h) = inl (is, h)
        back (mismatch is h) = inr (is, h)
        back (missing is h) = absurd h
        back (several is h) = absurd h
        back (ends is h) = absurd h
        back (under is h) = absurd (under_method k (syntax.field m mods t w init) at h)
        back (lacking is h) = absurd h
        back (object is h) = absurd h

    -- methods

    abbrev EndRule : syntax.Member A → ℕ → Rule → Type 0
    EndRule x at r = (r ≡ rule.MissingReturn) × MissingReturn begins rows base x at

    missing_iff : (m : A) (mods : List (syntax.Modifier A)) (t : Option (tree.TypeName A)) (w : tree.Word A) (ps : List (syntax.Param A)) (body : statement.Stmts A) (at : ℕ) (r : Rule)
        → Has (missing_return_notes begins rows (begins w.mark (begins m base)) t body) (breaks at r) ↔ EndRule (syntax.method m mods t w ps body) at r
    missing_iff m mods None w ps body at r = (λ h. absurd h, λ h. h.1)
    missing_iff m mods (Some t) w ps body at r = rule_when (list_completes body) (ListCompletes body) (list_test body) (begins w.mark (begins m base)) at rule.MissingReturn r

    abbrev UnderRule : MemberKey → syntax.Member A → ℕ → Rule → Type 0
    UnderRule j x at r = (r ≡ rule.Override) × Override begins rows j base x at

    override_iff : (j : MemberKey) (m : A) (mods : List (syntax.Modifier A)) (t : Option (tree.TypeName A)) (w : tree.Word A) (ps : List (syntax.Param A)) (body : statement.Stmts A) (at : ℕ) (r : Rule)
        → Has (override_notes rows j (begins w.mark (begins m base))) (breaks at r) ↔ UnderRule j (syntax.method m mods t w ps body) at r
    override_iff (method f) m mods t w ps body at r = rule_when (overrides_badly rows f) (OverridesBadly rows f) (overrides_iff rows fit f) (begins w.mark (begins m base)) at rule.Override r
    override_iff (head f) m mods t w ps body at r = (λ h. absurd h, λ h. h.1)
    override_iff (field f) m mods t w ps body at r = (λ h. absurd h, λ h. h.1)
    override_iff (constructor f) m mods t w ps body at r = (λ h. absurd h, λ h. h.1)

    abbrev MemberRefers : A → Option (tree.TypeName A) → List (syntax.Param A) → ℕ → Found → Type 0
    MemberRefers m t ps at f = MethodRefers rows fit found begins (plain k false) (begins m base) t ps at f

    abbrev NameRules : syntax.Member A → ℕ → Rule → Type 0
    NameRules x at r = EndRule x at r ⊎ (UnderRule k x at r ⊎ ((r ≡ rule.ObjectMethod) × ObjectMethodDeclared begins rows base x at))

    method_rules : (m : A) (mods : List (syntax.Modifier A)) (t : Option (tree.TypeName A)) (w : tree.Word A) (ps : List (syntax.Param A)) (body : statement.Stmts A) (at : ℕ) (r : Rule)
        → Has (declaration_notes begins rows super_at k base (syntax.method m mods t w ps body)) (breaks at r) ↔ DeclarationRule (syntax.method m mods t w ps body) at r
    method_rules m mods t w ps body at r = chain
        (two (declared_notes (result_references begins rows (plain k false) (begins m base) t ++ param_references begins rows (plain k false) (begins m base) ps)) _ (breaks at r) (Hides (MemberRefers m t ps) at r) (NameRules x at r)
        (declared_breaks _ (MemberRefers m t ps) (method_iff rows fit found begins (plain k false) (begins m base) t ps) at r)
        (two (missing_return_notes begins rows here t body) _ (breaks at r) (EndRule x at r) _ (missing_iff m mods t w ps body at r)
        (two (override_notes rows k here) _ (breaks at r) (UnderRule k x at r) _ (override_iff k m mods t w ps body at r)
        (rule_when (is_object_method w.text) (IsObjectMethod w.text) (object_method_iff w.text) here at rule.ObjectMethod r)))) (to, back)
      where
        here : ℕ
        here = begins w.mark (begins m base)

        x : syntax.Member A
        x = syntax.method m mods t w ps body

        to : (Hides (MemberRefers m t ps) at r ⊎ NameRules x at r) → DeclarationRule x at r
        to (inl h) = hidden h.0 h.1
        to (inr (inl h)) = ends h.0 h.1
        to (inr (inr (inl h))) = under h.0 h.1
        to (inr (inr (inr h))) = object h.0 h.1

        back : DeclarationRule x at r → Hides (MemberRefers m t ps) at r ⊎ NameRules x at r
        back (hidden is h) = inl (is, h)
        back (ends is h) = inr (inl (is, h))
        back (under is h) = inr (inr (inl (is, h)))
        back (object is h) = inr (inr (inr (is, h)))
        back (missing is h) = absurd h
        back (several is h) = absurd h
        back (mismatch is h) = absurd (mismatch_field k x at h)
        back (lacking is h) = absurd h

    -- constructors

    abbrev CtorRefers : A → List (syntax.Param A) → ℕ → Found → Type 0
    CtorRefers m ps at f = ParamsRefer begins rows (plain k false) (begins m base) ps at f

    ctor_params : (m : A) (ps : List (syntax.Param A)) (at : ℕ) (r : Rule) → Has (declared_notes (param_references begins rows (plain k false) (begins m base) ps)) (breaks at r) ↔ Hides (CtorRefers m ps) at r
    ctor_params m ps at r = declared_breaks (param_references begins rows (plain k false) (begins m base) ps) (CtorRefers m ps) (params_iff rows fit found begins (plain k false) (begins m base) ps) at r

    -- by what a written `super(..)` finds
    abbrev SuperRefers : List (syntax.Param A) → tree.Exps A → ℕ → Sought → Found → Type 0
    SuperRefers ps args at q f = (at ≡ super_at) × (q ≡ sought.method) × SuperCtorFinds rows (with_parameters k true ps) args f

    abbrev super_reference : List (syntax.Param A) → tree.Exps A → List Reference
    super_reference ps args = reference super_at sought.method (written_super rows fit found begins k ps args) ∷ []

    super_rules : (m : A) (mods : List (syntax.Modifier A)) (w : tree.Word A) (ps : List (syntax.Param A)) (args : tree.Exps A) (body : statement.Stmts A) (at : ℕ) (r : Rule)
        → (q : Sought) (f : Found) → SuperRefers ps args at q f → IsRuleOf q f r → DeclarationRule (syntax.constructor m mods w ps (Some args) body) at r
    super_rules m mods w ps args body at r q (one d) h is = absurd is
    super_rules m mods w ps args body at r sought.method nothing h is = missing is (h.0, h.2)
    super_rules m mods w ps args body at r sought.variable nothing h is = let e = h.1 in absurd cc
    super_rules m mods w ps args body at r sought.type nothing h is = let e = h.1 in absurd cc
    super_rules m mods w ps args body at r q (many d e) h is = several is (h.0, (d, e, h.2))
    super_rules m mods w ps args body at r q (not_accessible d) h is = hidden is (d, inr (h.0, h.2))
    super_rules m mods w ps args body at r q (from_static d) h is = absurd (super_answer rows fit found begins k ps args d h.2)

    ctor_rules : (m : A) (mods : List (syntax.Modifier A)) (w : tree.Word A) (ps : List (syntax.Param A)) (args : Option (tree.Exps A)) (body : statement.Stmts A) (at : ℕ) (r : Rule)
        → Has (declaration_notes begins rows super_at k base (syntax.constructor m mods w ps args body)) (breaks at r) ↔ DeclarationRule (syntax.constructor m mods w ps args body) at r
    ctor_rules m mods w ps None body at r = chain
        (two (declared_notes (param_references begins rows (plain k false) (begins m base) ps)) _ (breaks at r) (Hides (CtorRefers m ps) at r) Lacks (ctor_params m ps at r)
        (rule_when (lacks_super_ctor rows (plain k false)) (LacksSuperCtor rows (plain k false)) (lacks_iff rows fit found (plain k false)) (begins w.mark (begins m base)) at rule.SuperCtor r)) (to, back)
      where
        Lacks : Type 0
        Lacks = (r ≡ rule.SuperCtor) × ((at ≡ begins w.mark (begins m base)) × LacksSuperCtor rows (plain k false))

        x : syntax.Member A
        x = syntax.constructor m mods w ps None body

        to : (Hides (CtorRefers m ps) at r ⊎ Lacks) → DeclarationRule x at r
        to (inl h) = hidden h.0 (h.1.0, inl h.1.1)
        to (inr h) = lacking h.0 h.1

        at_private : r ≡ rule.Private → DeclarationPrivate begins rows super_at k base x at → Hides (CtorRefers m ps) at r ⊎ Lacks
        at_private is (d, inl h) = inl (is, (d, h))
        at_private is (d, inr h) = absurd h.1

        back : DeclarationRule x at r → Hides (CtorRefers m ps) at r ⊎ Lacks
        back (hidden is h) = at_private is h
        back (lacking is h) = inr (is, h)
        back (missing is h) = absurd h.1
        back (several is h) = absurd h.1.2
        back (mismatch is h) = absurd (mismatch_field k x at h)
        back (ends is h) = absurd h
        back (under is h) = absurd (under_method k x at h)
        back (object is h) = absurd h
    ctor_rules m mods w ps (Some args) body at r = chain
        (two (declared_notes (param_references begins rows (plain k false) (begins m base) ps)) (reference_notes (super_reference ps args)) (breaks at r) (Hides (CtorRefers m ps) at r) Super (ctor_params m ps at r)
        (references_break (super_reference ps args) (SuperRefers ps args) (only_super rows fit found begins super_at k ps args) at r)) (to, back)
      where
        Super : Type 0
        Super = (q : Sought) × (f : Found) × SuperRefers ps args at q f × IsRuleOf q f r

        x : syntax.Member A
        x = syntax.constructor m mods w ps (Some args) body

        to : (Hides (CtorRefers m ps) at r ⊎ Super) → DeclarationRule x at r
        to (inl h) = hidden h.0 (h.1.0, inl h.1.1)
        to (inr h) = super_rules m mods w ps args body at r h.0 h.1 h.2 h.3

        at_private : r ≡ rule.Private → DeclarationPrivate begins rows super_at k base x at → Hides (CtorRefers m ps) at r ⊎ Super
        at_private is (d, inl h) = inl (is, (d, h))
        at_private is (d, inr h) = inr (sought.method, not_accessible d, (h.0, refl, h.1), is)

        back : DeclarationRule x at r → Hides (CtorRefers m ps) at r ⊎ Super
        back (hidden is h) = at_private is h
        back (missing is h) = inr (sought.method, nothing, (h.0, refl, h.1), is)
        back (several is h) = inr (sought.method, many h.1.0 h.1.1, (h.0, refl, h.1.2), is)
        back (lacking is h) = absurd h
        back (mismatch is h) = absurd (mismatch_field k x at h)
        back (ends is h) = absurd h
        back (under is h) = absurd (under_method k x at h)
        back (object is h) = absurd h

    own_rules : (x : syntax.Member A) (at : ℕ) (r : Rule) → Has (declaration_notes begins rows super_at k base x) (breaks at r) ↔ DeclarationRule x at r
    own_rules (syntax.field m mods t w init) at r = field_rules m mods t w init at r
    own_rules (syntax.method m mods t w ps body) at r = method_rules m mods t w ps body at r
    own_rules (syntax.constructor m mods w ps args body) at r = ctor_rules m mods w ps args body at r
    own_rules (syntax.inner m of) at r = (λ h. absurd h, back)
      where
        back : DeclarationRule (syntax.inner m of) at r → ⊥
        back (hidden is h) = h.1
        back (missing is h) = h
        back (several is h) = h
        back (lacking is h) = h
        back (mismatch is h) = mismatch_field k (syntax.inner m of) at h
        back (ends is h) = h
        back (under is h) = under_method k (syntax.inner m of) at h
        back (object is h) = h

    -- what a member's declaration notes is what it breaks
    pub declaration_breaks : (x : syntax.Member A) (at : ℕ) (r : Rule) → Has (declaration_notes begins rows super_at k base x) (breaks at r) ↔ DeclarationBreaks begins rows super_at k base x at r
    declaration_breaks x at r = chain (own_rules x at r) (one_rule x at r)
