-- Members of classes, and heads of classes, in which no rule is broken are rewritten to themselves but
-- for what becomes of a body.
use Rattle.std.proofs.Common.{◌≡◌, ℕ, suc, List, [], ◌∷◌, Option, Some, None, Bool, true, false, length, refl, ap, subst, inl, inr, arith}
use Rattle.std.specs.Prelude.{◌⊎◌}
use Rattle.jr_text.specs.declared.spans.Span.{Span}
use Rattle.jr_ast.specs.Tree as tree
use Rattle.jr_ast.specs.StatementTree as statement
use Rattle.jr_ast.specs.MemberTree as syntax
use Rattle.jr_grammar.specs.Layout.{itself}
use Rattle.jr_table.specs.declared.rules.Rule.{Rule}
use Rattle.jr_table.specs.declared.rules.Rule.TheVariants as rule
use Rattle.jr_table.specs.Keys.{ClassKey}
use Rattle.jr_table.specs.Decls.{MemberKey, head, field, method, constructor, class_decl, local_decl}
use Rattle.jr_table.specs.Rows.{Row}
use Rattle.jr_table.specs.Prelude.{top_key}
use Rattle.jr_table.specs.Entries.{class_of_member}
use Rattle.jr_table.specs.Found.{Found, not_accessible}
use Rattle.jr_table.specs.Context.{Context, scope_of}
use Rattle.jr_table.specs.HeadRules.{plain as no_locals, with_parameters, is_static_member, ParamsRefer, MaybeTypeRefers, ParentRefers, HeadRefers, DeclarationBreaks}
use Rattle.jr_table.specs.DeclaredItems.{class_key}
use Rattle.jr_table.specs.Somewhere.{InMaybe, InStmts}
use Rattle.jr_table.specs.ExpressionRules.{ExpBreaks}
use Rattle.jr_table.specs.StatementRules.{StmtBreaks, ListBreaks}
use Rattle.jr_table.specs.Errors.{Part, class_part, member_part, Breaks, Error, InMember}
use Rattle.jr_program_laws.specs.FoundTypes.{MaybeTypeIsFound, ParamTypesAreFound, MaybeParentIsFound, ParentIsFound, DeclaresFound}
use Rattle.jr_rewrite.specs.Respellings.{stays}
use Rattle.jr_rewrite.specs.Rewritten.{Rewritten, plain, joined}
use Rattle.jr_rewrite.specs.Spots.{Spotted}
use Rattle.jr_rewrite.specs.Rewrites.{Choosing, declared_by, RewritesType, RewritesParams, RewritesResult, RewritesParent, RewritesHead, TransformsMaybe, TransformsSuper, TransformsList, TransformsMember}
use Rattle.jr_images.specs.Regions.{Region}
use Rattle.jr_new_bodies.specs.Effects.{Effect, no_effect, effect_of}
use Rattle.jr_new_files.proofs.NothingBroken.{TypeMeans, found_means}
use Rattle.jr_bodies.specs.Bodies.{begins}
use Rattle.jr_untouched_parts.specs.Sights.{SeesTheSame}
use Rattle.jr_untouched_parts.specs.Staying.{Beside, GoesDown, MayStay}
use Rattle.jr_untouched_parts.proofs.Effects.{behind_untouched}
use Rattle.jr_untouched_parts.proofs.TypesStay.{ParentMeans}
use Rattle.jr_untouched_parts.proofs.SoundWords.{Keeps, BrokenExp, BrokenStmt, BrokenList, C as choices, declared_stays, written_stays, superclass_stays, super_stays}
use Rattle.jr_untouched_parts.proofs.TreesStay.{type_stays, row_stays, maybe_stays, list_stays}

-- ---- what comes of a written part

-- with this effect; no written part is a class within a class
abbrev pub MemberGoes : Choosing Span → Spotted Span → MemberKey → (base : ℕ) → syntax.Member Span → Effect → Type 0
MemberGoes C S k base x e = (o : Rewritten (syntax.Member Span)) × TransformsMember itself C S k base x o × (effect_of o ≡ e)

abbrev pub PartGoes : Choosing Span → Spotted Span → MemberKey → (base : ℕ) → Part Span → Effect → Type 0
PartGoes C S k base (class_part c) e = (o : Rewritten (tree.Word Span × Option (tree.TypeName Span))) × RewritesHead itself C (class_of_member k).outer base c o × (effect_of o ≡ e)
PartGoes C S k base (member_part (syntax.inner m of)) e = Unit {0}
PartGoes C S k base (member_part (syntax.field m mods t w init)) e = MemberGoes C S k base (syntax.field m mods t w init) e
PartGoes C S k base (member_part (syntax.method m mods t w ps body)) e = MemberGoes C S k base (syntax.method m mods t w ps body) e
PartGoes C S k base (member_part (syntax.constructor m mods w ps args body)) e = MemberGoes C S k base (syntax.constructor m mods w ps args body) e

-- ---- heads of members

module _ (rows : List Row) (super_of : MemberKey → ℕ) (R : Region Span) (keeps : Keeps Span rows R) where
  abbrev pub at_super : Context → ℕ
  at_super c = super_of c.member

  abbrev pub C : Choosing Span
  C = choices begins rows at_super R keeps

  -- a member breaks no rule
  abbrev pub SoundMember : MemberKey → (base : ℕ) → syntax.Member Span → Type 0
  SoundMember k base x = (at : ℕ) (r : Rule) → (DeclarationBreaks begins rows (super_of k) k base x at r
      ⊎ InMember begins (λ d o b y. ExpBreaks begins rows d o b y at r) (λ n d b s. StmtBreaks begins rows n d b s at r) (λ b ss. ListBreaks begins b ss at r) k base x) → ⊥

  module _ (k : MemberKey) (sees : SeesTheSame R (no_locals k false)) where
    abbrev c0 : Context
    c0 = no_locals k false

    declared_type : (base : ℕ) (t : tree.TypeName Span) → TypeMeans rows (scope_of c0) t → RewritesType itself C c0 base t (plain t)
    declared_type base t means = type_stays itself C (C.qualifier c0 base t) (C.type c0 base t) base t (written_stays begins rows at_super R keeps c0 sees base t means)

    result_stays : (base : ℕ) (t : Option (tree.TypeName Span)) → MaybeTypeIsFound rows (scope_of c0) t → ((at : ℕ) (d : _) → MaybeTypeRefers begins rows c0 base t at (not_accessible d) → ⊥) → RewritesResult itself C k base t (plain t)
    result_stays base None found seen = refl
    result_stays base (Some t) found seen = (plain t, declared_type base t (found_means begins rows c0 base t found seen), refl)

    params_stay : (n base : ℕ) (ps : List (syntax.Param Span)) → ParamTypesAreFound rows (scope_of c0) ps → ((at : ℕ) (d : _) → ParamsRefer begins rows c0 base ps at (not_accessible d) → ⊥) → RewritesParams itself C k n base ps (plain ps)
    params_stay n base [] found seen = refl
    params_stay n base (p ∷ ps) found seen = (
      plain p.type,
      plain p.name,
      plain ps,
      declared_type (begins p.mark base) p.type (found_means begins rows c0 (begins p.mark base) p.type found.0 (λ at d h. seen at d (inl h))),
      (stays, declared_stays begins rows at_super R keeps (local_decl (record { member = k; number = n })) p.name, refl),
      params_stay (suc n) base ps found.1 (λ at d h. seen at d (inr h)),
      refl,
    )

    -- ---- members by what becomes of their bodies

    module _ (S : Spotted Span) where
      method_goes : (base : ℕ) (m : Span) (mods : List (syntax.Modifier Span)) (t : Option (tree.TypeName Span)) (w : tree.Word Span) (ps : List (syntax.Param Span)) (body : statement.Stmts Span) → SoundMember k base (syntax.method m mods t w ps body)
          → DeclaresFound rows k (member_part (syntax.method m mods t w ps body)) → (z : Rewritten (statement.Stmts Span)) → TransformsList itself C S (length ps) (with_parameters k (is_static_member begins mods) ps) (begins m base) body z
          → PartGoes C S k base (member_part (syntax.method m mods t w ps body)) (effect_of z)
      method_goes base m mods t w ps body sound found z list =
          let two : Option (tree.TypeName Span) → tree.Word Span → Option (tree.TypeName Span) × tree.Word Span = (λ u x. (u, x)) in
          let other : List (syntax.Param Span) → statement.Stmts Span → List (syntax.Param Span) × statement.Stmts Span = (λ u x. (u, x)) in
          let whole : Option (tree.TypeName Span) × tree.Word Span → List (syntax.Param Span) × statement.Stmts Span → syntax.Member Span = (λ u x. syntax.method m mods u.0 u.1 x.0 x.1) in
          let front = joined two (plain t) (plain w) in
          let back = joined other (plain ps) z in (
            joined whole front back,
            (
              plain t,
              plain w,
              plain ps,
              z,
              result_stays (begins m base) t found.0 (λ at d h. sound at rule.Private (inl (d, inl h))),
              (stays, declared_stays begins rows at_super R keeps (declared_by k) w, refl),
              params_stay 0 (begins m base) ps found.1 (λ at d h. sound at rule.Private (inl (d, inr h))),
              list,
              refl,
            ),
            behind_untouched whole front back z refl (behind_untouched other (plain ps) z z refl refl),
          )

      ctor_goes : (base : ℕ) (m : Span) (mods : List (syntax.Modifier Span)) (w : tree.Word Span) (ps : List (syntax.Param Span)) (args : Option (tree.Exps Span)) (body : statement.Stmts Span) → SoundMember k base (syntax.constructor m mods w ps args body)
          → DeclaresFound rows k (member_part (syntax.constructor m mods w ps args body)) → TransformsSuper itself C S (with_parameters k true ps) (begins m base) args (plain args)
          → (z : Rewritten (statement.Stmts Span)) → TransformsList itself C S (length ps) (with_parameters k false ps) (begins m base) body z
          → PartGoes C S k base (member_part (syntax.constructor m mods w ps args body)) (effect_of z)
      ctor_goes base m mods w ps args body sound found first z list =
          let two : tree.Word Span → List (syntax.Param Span) → tree.Word Span × List (syntax.Param Span) = (λ u x. (u, x)) in
          let other : Option (tree.Exps Span) → statement.Stmts Span → Option (tree.Exps Span) × statement.Stmts Span = (λ u x. (u, x)) in
          let whole : tree.Word Span × List (syntax.Param Span) → Option (tree.Exps Span) × statement.Stmts Span → syntax.Member Span = (λ u x. syntax.constructor m mods u.0 u.1 x.0 x.1) in
          let front = joined two (plain w) (plain ps) in
          let back = joined other (plain args) z in (
            joined whole front back,
            (
              plain w,
              plain ps,
              plain args,
              z,
              (stays, declared_stays begins rows at_super R keeps (declared_by k) w, refl),
              params_stay 0 (begins m base) ps found (λ at d h. sound at rule.Private (inl (d, inl h))),
              first,
              list,
              refl,
            ),
            behind_untouched whole front back z refl (behind_untouched other (plain args) z z refl refl),
          )

  -- ---- members in which all stays

  module _ (S : Spotted Span) (k : MemberKey) (K : Beside Span) (down : GoesDown K) (may : MayStay begins C S (BrokenExp begins rows at_super) (BrokenStmt begins rows at_super) K) (sees : (c : Context) → K.Here c → SeesTheSame R c)
      (here : (b : Bool) → K.Here (no_locals k b)) where
    super_stays_here : (base : ℕ) (m : Span) (mods : List (syntax.Modifier Span)) (w : tree.Word Span) (ps : List (syntax.Param Span)) (args : Option (tree.Exps Span)) (body : statement.Stmts Span) → K.Here (with_parameters k true ps)
        → SoundMember k base (syntax.constructor m mods w ps args body) → TransformsSuper itself C S (with_parameters k true ps) (begins m base) args (plain args)
    super_stays_here base m mods w ps None body inside sound = refl
    super_stays_here base m mods w ps (Some args) body inside sound =
        let c = with_parameters k true ps in (
          stays,
          plain args,
          super_stays begins rows at_super R keeps c (sees c inside) args (λ x. sound (super_of k) rule.NoMethod (inl (refl, x))) (λ d e x. sound (super_of k) rule.Ambiguous (inl (refl, (d, e, x)))) (λ d x. sound (super_of k) rule.Private (inl (d, inr (refl, x)))),
          row_stays itself C S (BrokenExp begins rows at_super) (BrokenStmt begins rows at_super) (BrokenList begins rows at_super) K down may c inside (begins m base) args (λ i z. sound i.at i.rule (inr (inl z))),
          refl,
        )

    -- a constructor whose body becomes this
    pub ctor_with : (base : ℕ) (m : Span) (mods : List (syntax.Modifier Span)) (w : tree.Word Span) (ps : List (syntax.Param Span)) (args : Option (tree.Exps Span)) (body : statement.Stmts Span) → K.Here (with_parameters k true ps)
        → SoundMember k base (syntax.constructor m mods w ps args body) → DeclaresFound rows k (member_part (syntax.constructor m mods w ps args body))
        → (z : Rewritten (statement.Stmts Span)) → TransformsList itself C S (length ps) (with_parameters k false ps) (begins m base) body z
        → PartGoes C S k base (member_part (syntax.constructor m mods w ps args body)) (effect_of z)
    ctor_with base m mods w ps args body inside sound found z list =
        ctor_goes k (sees (no_locals k false) (here false)) S base m mods w ps args body sound found (super_stays_here base m mods w ps args body inside sound) z list

    pub method_with : (base : ℕ) (m : Span) (mods : List (syntax.Modifier Span)) (t : Option (tree.TypeName Span)) (w : tree.Word Span) (ps : List (syntax.Param Span)) (body : statement.Stmts Span) → SoundMember k base (syntax.method m mods t w ps body)
        → DeclaresFound rows k (member_part (syntax.method m mods t w ps body)) → (z : Rewritten (statement.Stmts Span)) → TransformsList itself C S (length ps) (with_parameters k (is_static_member begins mods) ps) (begins m base) body z
        → PartGoes C S k base (member_part (syntax.method m mods t w ps body)) (effect_of z)
    method_with = method_goes k (sees (no_locals k false) (here false)) S

    module _ (free : (n : ℕ) → K.Declares n) (lists : (b : statement.Stmts Span) → K.Lists b) (inside : (b : Bool) (ps : List (syntax.Param Span)) → K.Here (with_parameters k b ps)) where
      body_stays : (n : ℕ) (c : Context) (base : ℕ) (body : statement.Stmts Span) → K.Here c
          → ((i : Error) → InStmts begins (λ d o b x. BrokenExp begins rows at_super i d o b x) (λ j d b x. BrokenStmt begins rows at_super i j d b x) (λ b ys. BrokenList begins rows at_super i b ys) n c base body → ⊥) → TransformsList itself C S n c base body (plain body)
      body_stays n c base body h sound =
          list_stays itself C S (BrokenExp begins rows at_super) (BrokenStmt begins rows at_super) (BrokenList begins rows at_super) K down may n c base body h (lists body) (λ i a b. free i) sound

      pub member_stays : (base : ℕ) (x : syntax.Member Span) → SoundMember k base x → DeclaresFound rows k (member_part x) → PartGoes C S k base (member_part x) no_effect
      member_stays base (syntax.field m mods t w init) sound found =
          let c = no_locals k (is_static_member begins mods) in (
            plain (syntax.field m mods t w init),
            (
              plain t,
              plain w,
              plain init,
              declared_type k (sees (no_locals k false) (here false)) (begins m base) t (found_means begins rows (no_locals k false) (begins m base) t found (λ at d h. sound at rule.Private (inl (d, h)))),
              (stays, declared_stays begins rows at_super R keeps (declared_by k) w, refl),
              init_stays c (here (is_static_member begins mods)) (begins m base) init (λ i z. sound i.at i.rule (inr z)),
              refl,
            ),
            refl,
          )
        where
          init_stays : (c : Context) → K.Here c → (at : ℕ) (e : Option (tree.Exp Span))
              → ((i : Error) → InMaybe begins (λ d o b x. BrokenExp begins rows at_super i d o b x) (λ j d b x. BrokenStmt begins rows at_super i j d b x) (λ b ys. BrokenList begins rows at_super i b ys) c at e → ⊥) → TransformsMaybe itself C S c at e (plain e)
          init_stays c h at None sound = refl
          init_stays c h at (Some e) sound = maybe_stays itself C S (BrokenExp begins rows at_super) (BrokenStmt begins rows at_super) (BrokenList begins rows at_super) K down may c h at (Some e) sound
      member_stays base (syntax.method m mods t w ps body) sound found =
          let c = with_parameters k (is_static_member begins mods) ps in
          method_with base m mods t w ps body sound found (plain body) (body_stays (length ps) c (begins m base) body (inside (is_static_member begins mods) ps) (λ i z. sound i.at i.rule (inr (inr z))))
      member_stays base (syntax.constructor m mods w ps args body) sound found =
          ctor_with base m mods w ps args body (inside true ps) sound found (plain body) (body_stays (length ps) (with_parameters k false ps) (begins m base) body (inside false ps) (λ i z. sound i.at i.rule (inr (inr (inr z)))))
      member_stays base (syntax.inner m of) sound found = tt

  -- ---- heads of classes

  parent_means : (outer : Option (List ℕ)) (base : ℕ) (t : tree.TypeName Span) → ParentIsFound rows outer t → ((at : ℕ) (d : _) → ParentRefers begins rows outer base t at (not_accessible d) → ⊥) → ParentMeans begins rows keeps.dots R outer t
  parent_means (Some o) base t found seen = found_means begins rows (no_locals (head (top_key o)) false) base t found seen
  parent_means None base (tree.int m) found seen = absurd found
  parent_means None base (tree.boolean m) found seen = absurd found
  parent_means None base (tree.named m None w) found seen = found
  parent_means None base (tree.named m (Some v) w) found seen = absurd found

  abbrev MaybeRefers : Option (List ℕ) → (base : ℕ) → Option (tree.TypeName Span) → (at : ℕ) → Found → Type 0
  MaybeRefers outer base None at f = ⊥
  MaybeRefers outer base (Some t) at f = ParentRefers begins rows outer base t at f

  module _ (sees : (o : List ℕ) → SeesTheSame R (no_locals (head (top_key o)) false)) where
    parent_stays : (outer : Option (List ℕ)) (base : ℕ) (t : Option (tree.TypeName Span)) → MaybeParentIsFound rows outer t → ((at : ℕ) (d : _) → MaybeRefers outer base t at (not_accessible d) → ⊥) → RewritesParent itself C outer base t (plain t)
    parent_stays outer base None found seen = refl
    parent_stays outer base (Some t) found seen =
        (plain t, type_stays itself C (C.parent_qualifier outer base t) (C.parent outer base t) base t (superclass_stays begins rows at_super R keeps outer sees base t (parent_means outer base t found seen)), refl)

    head_stays : (outer : Option (List ℕ)) (base : ℕ) (m : Span) (mods : List (syntax.Modifier Span)) (w : tree.Word Span) (t : Option (tree.TypeName Span)) (ms : syntax.Members Span) → MaybeParentIsFound rows outer t
        → ((at : ℕ) (d : _) → MaybeRefers outer (begins m base) t at (not_accessible d) → ⊥) → RewritesHead itself C outer base (syntax.class m mods w t ms) (plain (w, t))
    head_stays outer base m mods w t ms found seen =
        (plain w, plain t, (stays, declared_stays begins rows at_super R keeps (class_decl (class_key begins outer w.text)) w, refl), parent_stays outer (begins m base) t found seen, refl)

    head_refers : (q : ClassKey) (base : ℕ) (m : Span) (mods : List (syntax.Modifier Span)) (w : tree.Word Span) (t : Option (tree.TypeName Span)) (ms : syntax.Members Span) (at : ℕ) (f : Found) → MaybeRefers q.outer (begins m base) t at f → HeadRefers begins rows q base (syntax.class m mods w t ms) at f
    head_refers q base m mods w None ms at f h = absurd h
    head_refers q base m mods w (Some t) ms at f h = h

    pub class_stays : (S : Spotted Span) (k : MemberKey) (base : ℕ) (c : syntax.Class Span) → (q : ClassKey) × (k ≡ head q) → ((at : ℕ) (r : Rule) → Breaks begins rows (super_of k) k base (class_part c) at r → ⊥) → DeclaresFound rows k (class_part c) → PartGoes C S k base (class_part c) no_effect
    class_stays S k base (syntax.class m mods w t ms) (q, is) sound found =
        let outer : (class_of_member k).outer ≡ q.outer = ap (λ (j : MemberKey). (class_of_member j).outer) is in
        let here : (at : ℕ) (r : Rule) → Breaks begins rows (super_of k) (head q) base (class_part (syntax.class m mods w t ms)) at r → ⊥ = subst (λ (j : MemberKey). (at : ℕ) (r : Rule) → Breaks begins rows (super_of k) j base (class_part (syntax.class m mods w t ms)) at r → ⊥) is sound in (
          plain (w, t),
          head_stays (class_of_member k).outer base m mods w t ms found
              (λ at d h. here at rule.Private (d, head_refers q base m mods w t ms at (not_accessible d) (subst (λ (o : Option (List ℕ)). MaybeRefers o (begins m base) t at (not_accessible d)) outer h))),
          refl,
        )

  -- a member's own rules, by its key
  pub by_key : (k : MemberKey) (base : ℕ) (x : syntax.Member Span) → ((at : ℕ) (r : Rule) → Breaks begins rows (super_of k) k base (member_part x) at r → ⊥) → SoundMember k base x
  by_key (head q) base x sound = sound
  by_key (field q) base x sound = sound
  by_key (method q) base x sound = sound
  by_key (constructor q) base x sound = sound
