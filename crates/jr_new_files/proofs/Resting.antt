-- What a walk over a member rests on, from what holds of the whole part.
use Rattle.std.proofs.Common.{◌≡◌, ℕ, zero, suc, ◌+◌, ◌<◌, ◌≤◌, List, [], ◌∷◌, ◌++◌, length, Option, Some, None, Bool, true, false, refl, sym, ap, subst, ◌∙◌, inl, inr, arith}
use Rattle.std.specs.Prelude.{◌⊎◌, ◌↔◌}
use Rattle.jr_text.specs.declared.spans.Span.{Span}
use Rattle.jr_ast.specs.Tree as tree
use Rattle.jr_ast.specs.StatementTree as statement
use Rattle.jr_ast.specs.MemberTree as syntax
use Rattle.jr_table.specs.Keys.{ClassKey, Ty}
use Rattle.jr_table.specs.Decls.{MemberKey, head, field, method, constructor, Decl, class_decl}
use Rattle.jr_table.specs.Rows.{Row}
use Rattle.jr_table.specs.Prelude.{top_key}
use Rattle.jr_table.specs.Found.{Found, nothing, many, not_accessible}
use Rattle.jr_table.specs.LookupLaws.{EachHasOne}
use Rattle.jr_table.specs.Context.{Context, scope_of}
use Rattle.jr_table.specs.Binding.{value, BindsItself}
use Rattle.jr_table.specs.Somewhere.{InStmts}
use Rattle.jr_table.specs.HeadRules.{plain, with_parameters, is_static_member, DeclarationBreaks, ParentRefers, HeadRefers}
use Rattle.jr_table.specs.Errors.{Part, class_part, member_part, Breaks, Binds, InMember}
use Rattle.jr_table.specs.ExpressionRules.{ExpBreaks}
use Rattle.jr_table.specs.StatementRules.{StmtBreaks, ListBreaks, StmtBindsItself}
use Rattle.jr_table.specs.TypesAt.{TypeAt, TypeBelow, TypeInMaybe, TypeInRow, TypeInSuper, TypeInStmts, count_args, count_type, count_super}
use Rattle.jr_table.specs.declared.rules.Rule.{Rule}
use Rattle.jr_table.specs.declared.rules.Rule.TheVariants as rule
use Rattle.jr_expr_types.specs.Slots.{find_type}
use Rattle.jr_bind.specs.Bounds.{Bound}
use Rattle.jr_bind_parts.specs.DeclaredTypes.{FitsMaybeType}
use Rattle.jr_bind.specs.Programs.{Program}
use Rattle.jr_program_laws.specs.FileParts.{begins}
use Rattle.jr_program_laws.specs.FoundTypes.{MaybeParentIsFound}
use Rattle.jr_new_files.specs.Ready.{Anywhere, IsReady, MaybeParentReady, HeadReady, MemberReady, HasSuperAt, PartReady, FieldReady, MethodReady, CtorReady, MaybeSuperReady, InitReady}
use Rattle.jr_new_files.proofs.Finding.{type_ready, result_ready, params_ready, ctor_bound}

-- the head of a class has the written name in its key; a member class is no member of its own
abbrev pub IsKeyed : MemberKey → Part Span → Type 0
IsKeyed k (class_part (syntax.class m mods w t ms)) = (j : ClassKey) × (k ≡ head j) × (j.name ≡ w.text)
IsKeyed k (member_part (syntax.field m mods t w init)) = Unit {0}
IsKeyed k (member_part (syntax.method m mods t w ps body)) = Unit {0}
IsKeyed k (member_part (syntax.constructor m mods w ps args body)) = Unit {0}
IsKeyed k (member_part (syntax.inner m of)) = ⊥

-- where a written `super(..)` of the part stands
abbrev pub StandsIn : Program Span → (file : ℕ) → Part Span → (at : ℕ) → Type 0
StandsIn p file (class_part of) at = Unit {0}
StandsIn p file (member_part x) at = HasSuperAt p file x at

-- whatever key a member has
module _ (rows : List Row) (n : ℕ) (base : ℕ) (x : syntax.Member Span) (at : ℕ) where
  declares : (k : MemberKey) (r : Rule) → DeclarationBreaks begins rows n k base x at r → Breaks begins rows n k base (member_part x) at r
  declares (head k) r h = inl h
  declares (field k) r h = inl h
  declares (method k) r h = inl h
  declares (constructor k) r h = inl h

  abbrev Broken : MemberKey → Rule → Type 0
  Broken k r = InMember begins (λ c role b e. ExpBreaks begins rows c role b e at r) (λ i c b s. StmtBreaks begins rows i c b s at r) (λ b ss. ListBreaks begins b ss at r) k base x

  breaks : (k : MemberKey) (r : Rule) → Broken k r → Breaks begins rows n k base (member_part x) at r
  breaks (head k) r h = inr h
  breaks (field k) r h = inr h
  breaks (method k) r h = inr h
  breaks (constructor k) r h = inr h

  abbrev Bound_in : MemberKey → Decl → Type 0
  Bound_in k d = InMember begins (λ c role b e. BindsItself begins rows c role b e at d) (λ i c b s. StmtBindsItself begins rows i c b s at d) (λ b ss. ⊥) k base x

  binds : (k : MemberKey) (d : Decl) → Bound_in k d → Binds begins rows n k base (member_part x) at d
  binds (head k) d h = inr h
  binds (field k) d h = inr h
  binds (method k) d h = inr h
  binds (constructor k) d h = inr h

-- ---- numbers of parts

same_step : (a i j : ℕ) → a + i ≡ a + j → j ≡ i
same_step a i j e = omega (arith, e)

module _ (rows : List Row) (c : Context) where
  past_row : (es : tree.Exps Span) (step more : ℕ) (q : List ℕ) (t : Ty) → step ≡ count_args rows es + more → TypeInRow rows c es step q t → ⊥
  past_row tree.end step more q t e h = absurd h
  past_row (tree.more x es) zero more q t e h = absurd (omega (arith, e))
  past_row (tree.more x es) (suc step) more q t e h = past_row es step more q t (omega (arith, e)) h

  past_super : (args : Option (tree.Exps Span)) (step more : ℕ) (q : List ℕ) (t : Ty) → step ≡ count_super rows args + more → TypeInSuper rows c args step q t → ⊥
  past_super None step more q t e h = absurd h
  past_super (Some args) step more q t e h = past_row args step more q t e h

module _ (rows : List Row) (has : EachHasOne rows) (b : Bound) (from n : ℕ) (k : MemberKey) (base : ℕ) where
  abbrev Whole : syntax.Member Span → Type 0
  Whole x = IsReady rows b from n k base (member_part x)

  -- ---- fields

  init_ready : (m : Span) (mods : List (syntax.Modifier Span)) (t : tree.TypeName Span) (w : tree.Word Span) (init : Option (tree.Exp Span)) → Whole (syntax.field m mods t w init)
      → InitReady rows b from (plain k (is_static_member begins mods)) (length mods + 2) m.from init
  init_ready m mods t w None whole = tt
  init_ready m mods t w (Some e) whole = (
    whole.fits.1.2,
    (λ at r h. whole.sound at r (breaks rows n base x at k r h)),
    (λ at d h. whole.refers at d (binds rows n base x at k d h)),
    λ q u. ((λ found. first q u ((whole.types ((length mods + 2) ∷ q) u).0 found)), (λ there. (whole.types ((length mods + 2) ∷ q) u).1 (zero, plus_none (length mods + 2), there))),
  )
    where
      x : syntax.Member Span
      x = syntax.field m mods t w (Some e)

      plus_none : (i : ℕ) → i ≡ i + 0
      plus_none i = omega arith

      first : (q : List ℕ) (u : Ty) → TypeAt begins rows k (syntax.field m mods t w (Some e)) ((length mods + 2) ∷ q) u → TypeBelow rows (plain k (is_static_member begins mods)) e q u
      first q u (zero, is, there) = there
      first q u (suc step, is, there) = absurd there

  field_ready : (m : Span) (mods : List (syntax.Modifier Span)) (t : tree.TypeName Span) (w : tree.Word Span) (init : Option (tree.Exp Span)) → Whole (syntax.field m mods t w init)
      → FieldReady rows b from k m.from mods t init
  field_ready m mods t w init whole = (
    type_ready rows has (plain k false) m.from t whole.fits.1.1 whole.found (λ i d h. whole.sound i rule.Private (declares rows n base (syntax.field m mods t w init) i k rule.Private (d, h))),
    init_ready m mods t w init whole,
  )

  -- ---- methods

  method_ready : (m : Span) (mods : List (syntax.Modifier Span)) (t : Option (tree.TypeName Span)) (w : tree.Word Span) (ps : List (syntax.Param Span)) (body : statement.Stmts Span)
      → Whole (syntax.method m mods t w ps body) → MethodReady rows b from k m.from mods t ps body
  method_ready m mods t w ps body whole = (
    result_ready rows has (plain k false) m.from t whole.fits.1.1 whole.found.0 (λ i d h. whole.sound i rule.Private (declares rows n base x i k rule.Private (d, inl h))),
    (
      params_ready rows has (plain k false) m.from ps whole.fits.1.3 whole.found.1 (λ i d h. whole.sound i rule.Private (declares rows n base x i k rule.Private (d, inr h))),
      (
        whole.fits.1.4,
        (λ at r h. whole.sound at r (breaks rows n base x at k r (inr h))),
        (λ at d h. whole.refers at d (binds rows n base x at k d (inr h))),
        λ i step is q u. (
          (λ found. there i step is q u ((whole.types (i ∷ q) u).0 found)),
          (λ h. (whole.types (i ∷ q) u).1 (step, is, h)),
        ),
      ),
    ),
  )
    where
      x : syntax.Member Span
      x = syntax.method m mods t w ps body

      there : (i step : ℕ) → i ≡ length mods + count_type rows t + 1 + length ps + step → (q : List ℕ) (u : Ty) → TypeAt begins rows k (syntax.method m mods t w ps body) (i ∷ q) u
          → TypeInStmts rows (length ps) (with_parameters k (is_static_member begins mods) ps) body step q u
      there i step is q u (j, other, h) =
          subst (λ (s : ℕ). TypeInStmts rows (length ps) (with_parameters k (is_static_member begins mods) ps) body s q u) (same_step (length mods + count_type rows t + 1 + length ps) step j (sym is ∙ other)) h

  -- ---- constructors

  module _ (m : Span) (mods : List (syntax.Modifier Span)) (w : tree.Word Span) (ps : List (syntax.Param Span)) (args : Option (tree.Exps Span)) (body : statement.Stmts Span)
      (whole : Whole (syntax.constructor m mods w ps args body)) where
    abbrev Ctor : syntax.Member Span
    Ctor = syntax.constructor m mods w ps args body

    abbrev Calls : Context
    Calls = with_parameters k true ps

    abbrev Inside : Context
    Inside = with_parameters k false ps

    abbrev Front : ℕ
    Front = length mods + 1 + length ps

    abbrev Types : ℕ → List ℕ → Ty → Type 0
    Types i q u = ((step : ℕ) × (i ≡ Front + step) × TypeInSuper rows Calls args step q u) ⊎ ((step : ℕ) × (i ≡ Front + count_super rows args + step) × TypeInStmts rows (length ps) Inside body step q u)

    in_super : (i step : ℕ) → i ≡ Front + step → step < count_super rows args → (q : List ℕ) (u : Ty) → Types i q u → TypeInSuper rows Calls args step q u
    in_super i step is lt q u (inl (j, other, h)) = subst (λ (s : ℕ). TypeInSuper rows Calls args s q u) (same_step Front step j (sym is ∙ other)) h
    in_super i step is lt q u (inr (j, other, h)) = absurd (omega (arith, is, other, lt))

    in_body : (i step : ℕ) → i ≡ Front + count_super rows args + step → (q : List ℕ) (u : Ty) → Types i q u → TypeInStmts rows (length ps) Inside body step q u
    in_body i step is q u (inl (j, other, h)) = absurd (past_super rows Calls args j step q u (omega (arith, is, other)) h)
    in_body i step is q u (inr (j, other, h)) = subst (λ (s : ℕ). TypeInStmts rows (length ps) Inside body s q u) (same_step (Front + count_super rows args) step j (sym is ∙ other)) h

    body_types : (i step : ℕ) → i ≡ Front + count_super rows args + step → (q : List ℕ) (u : Ty) → (find_type b.types (i ∷ q) ≡ Some u) ↔ TypeInStmts rows (length ps) Inside body step q u
    body_types i step is q u = ((λ found. in_body i step is q u ((whole.types (i ∷ q) u).0 found)), (λ h. (whole.types (i ∷ q) u).1 (inr (step, is, h))))

    super_types : (i step : ℕ) → i ≡ Front + step → step < count_super rows args → (q : List ℕ) (u : Ty) → (find_type b.types (i ∷ q) ≡ Some u) ↔ TypeInSuper rows Calls args step q u
    super_types i step is lt q u = ((λ found. in_super i step is lt q u ((whole.types (i ∷ q) u).0 found)), (λ h. (whole.types (i ∷ q) u).1 (inl (step, is, h))))

  super_ready : (m : Span) (mods : List (syntax.Modifier Span)) (w : tree.Word Span) (ps : List (syntax.Param Span)) (args : Option (tree.Exps Span)) (body : statement.Stmts Span)
      → Whole (syntax.constructor m mods w ps args body) → MaybeSuperReady rows b from (with_parameters k true ps) (length mods + 1 + length ps) m.from args
  super_ready m mods w ps None body whole = tt
  super_ready m mods w ps (Some args) body whole = (
    (
      whole.fits.1.3,
      (λ at r h. whole.sound at r (breaks rows n base x at k r (inl h))),
      (λ at d h. whole.refers at d (binds rows n base x at k d (inl h))),
      λ i step is lt q u. super_types m mods w ps (Some args) body whole i step is lt q u,
    ),
    ctor_bound rows (with_parameters k true ps) args (λ h. whole.sound n rule.NoMethod (declares rows n base x n k rule.NoMethod (refl, h))) (λ d e h. whole.sound n rule.Ambiguous (declares rows n base x n k rule.Ambiguous (refl, (d, e, h))))
        (λ d h. whole.sound n rule.Private (declares rows n base x n k rule.Private (d, inr (refl, h)))),
  )
    where
      x : syntax.Member Span
      x = syntax.constructor m mods w ps (Some args) body

  ctor_ready : (m : Span) (mods : List (syntax.Modifier Span)) (w : tree.Word Span) (ps : List (syntax.Param Span)) (args : Option (tree.Exps Span)) (body : statement.Stmts Span)
      → Whole (syntax.constructor m mods w ps args body) → CtorReady rows b from k m.from mods ps args body
  ctor_ready m mods w ps args body whole = (
    params_ready rows has (plain k false) m.from ps whole.fits.1.2 whole.found (λ i d h. whole.sound i rule.Private (declares rows n base x i k rule.Private (d, inl h))),
    (
      super_ready m mods w ps args body whole,
      (
        whole.fits.1.4,
        (λ at r h. whole.sound at r (breaks rows n base x at k r (inr (inr h)))),
        (λ at d h. whole.refers at d (binds rows n base x at k d (inr (inr h)))),
        λ i step is q u. body_types m mods w ps args body whole i step is q u,
      ),
    ),
  )
    where
      x : syntax.Member Span
      x = syntax.constructor m mods w ps args body

  pub member_ready : (x : syntax.Member Span) → IsKeyed k (member_part x) → Whole x → MemberReady rows b from k x
  member_ready (syntax.field m mods t w init) keyed whole = field_ready m mods t w init whole
  member_ready (syntax.method m mods t w ps body) keyed whole = method_ready m mods t w ps body whole
  member_ready (syntax.constructor m mods w ps args body) keyed whole = ctor_ready m mods w ps args body whole
  member_ready (syntax.inner m of) keyed whole = absurd keyed

-- ---- heads

-- what the superclass's name finds, if one is written
abbrev MaybeParentRefers : List Row → Option (List ℕ) → (at : ℕ) → Option (tree.TypeName Span) → (i : ℕ) → Found → Type 0
MaybeParentRefers rows outer at None i f = ⊥
MaybeParentRefers rows outer at (Some t) i f = ParentRefers begins rows outer at t i f

module _ (rows : List Row) (has : EachHasOne rows) (b : Bound) (from n : ℕ) (j : ClassKey) (base : ℕ) where
  parent_ready : (outer : Option (List ℕ)) (at : ℕ) (t : Option (tree.TypeName Span)) → FitsMaybeType begins Anywhere at t → MaybeParentIsFound rows outer t
      → ((i : ℕ) (d : Decl) → MaybeParentRefers rows outer at t i (not_accessible d) → ⊥) → MaybeParentReady rows outer at t
  parent_ready outer at None fits found seen = tt
  parent_ready (Some outer) at (Some t) fits found seen = type_ready rows has (plain (head (top_key outer)) false) at t fits found seen
  parent_ready None at (Some (tree.int m)) fits found seen = absurd found
  parent_ready None at (Some (tree.boolean m)) fits found seen = absurd found
  parent_ready None at (Some (tree.named m None w)) fits found seen = found
  parent_ready None at (Some (tree.named m (Some v) w)) fits found seen = absurd found

  pub head_ready : (m : Span) (mods : List (syntax.Modifier Span)) (w : tree.Word Span) (t : Option (tree.TypeName Span)) (ms : syntax.Members Span) → j.name ≡ w.text
      → IsReady rows b from n (head j) base (class_part (syntax.class m mods w t ms)) → HeadReady rows (head j) (syntax.class m mods w t ms)
  head_ready m mods w t ms named whole = (j, refl, named, parent_ready j.outer m.from t whole.fits.1.2 whole.found (λ i d h. whole.sound i rule.Private (d, refers t i d h)))
    where
      refers : (t : Option (tree.TypeName Span)) (i : ℕ) (d : Decl) → MaybeParentRefers rows j.outer m.from t i (not_accessible d) → HeadRefers begins rows j base (syntax.class m mods w t ms) i (not_accessible d)
      refers None i d h = absurd h
      refers (Some t) i d h = h

-- ---- parts of a file

module _ (p : Program Span) (file : ℕ) (rows : List Row) (has : EachHasOne rows) (b : Bound) (from : ℕ) (k : MemberKey) (base : ℕ) where
  pub part_ready : (part : Part Span) → IsKeyed k part → IsReady rows b from (p.super_at k) k base part → StandsIn p file part (p.super_at k) → PartReady p file rows b from k part
  part_ready (class_part (syntax.class m mods w t ms)) (j, is, named) ready stands =
      subst (λ (l : MemberKey). HeadReady rows l (syntax.class m mods w t ms)) (sym is)
      (head_ready rows has b from (p.super_at k) j base m mods w t ms named (subst (λ (l : MemberKey). IsReady rows b from (p.super_at k) l base (class_part (syntax.class m mods w t ms))) is ready))
  part_ready (member_part x) keyed ready stands = (member_ready rows has b from (p.super_at k) k base x keyed ready, stands)
