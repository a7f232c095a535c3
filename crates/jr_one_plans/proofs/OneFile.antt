-- Where what is chosen for each word is one thing, and where spots make one thing, a file is
-- rewritten in one way.
use Rattle.std.proofs.Common.{◌≡◌, ℕ, zero, suc, List, [], ◌∷◌, length, Option, Some, None, true, false, refl, sym, subst, ◌∙◌, inl, inr}
use Rattle.std.specs.Prelude.{◌⊎◌, slice_get}
use Rattle.jr_text.specs.declared.spans.Span.{Span}
use Rattle.jr_ast.specs.Tree as tree
use Rattle.jr_ast.specs.StatementTree as statement
use Rattle.jr_ast.specs.MemberTree as syntax
use Rattle.jr_grammar.specs.Layout.{itself}
use Rattle.jr_table.specs.Keys.{ClassKey}
use Rattle.jr_table.specs.Decls.{MemberKey, class_decl, local_decl}
use Rattle.jr_table.specs.LookupLaws.{HasOne}
use Rattle.jr_table.specs.Context.{Context}
use Rattle.jr_table.specs.HeadRules.{plain as no_locals, with_parameters, is_static_member}
use Rattle.jr_table.specs.DeclaredItems.{DeclaredItem, class_key}
use Rattle.jr_table.specs.Errors.{Part, member_part, Declares, InClass, InMembers, InInner, InClasses}
use Rattle.jr_members.proofs.Anywhere.{IsAt}
use Rattle.jr_rewrite.specs.Respellings.{Choice}
use Rattle.jr_rewrite.specs.Rewritten.{Rewritten, within, joined}
use Rattle.jr_rewrite.specs.Spots.{Spotted}
use Rattle.jr_rewrite.specs.Rewrites.{Choosing, declared_by, with_losses, RewritesParams, RewritesResult, RewritesParent, RewritesHead, TransformsSuper, TransformsMember, TransformsByKey, TransformsClass, TransformsMembers, TransformsOne, TransformsClasses, TransformsUnit}
use Rattle.jr_plan.specs.Transforms.{TransformsFiles}
use Rattle.jr_one_plans.proofs.OneSpot.{SpottedAgree, or_members, or_class}
use Rattle.jr_one_plans.proofs.OneTree.{Agree, of_one, of_two, of_three, of_four, word_one, type_out, type_one, row_one, maybe_one, list_one}

module _ {A : Type 0} (tells : A → ℕ → Span) (Fine : MemberKey → Part A → Type 0) (C D : Choosing A) (K L : Spotted A) (agree : Agree Fine C D) (spots : SpottedAgree K L) where
  abbrev begins : A → ℕ → ℕ
  begins m base = (tells m base).from

  abbrev Es : Type 0
  Es = Rewritten (tree.Exps A)

  abbrev T : Type 0
  T = Rewritten (tree.TypeName A)

  abbrev W : Type 0
  W = Rewritten (tree.Word A)

  abbrev Ss : Type 0
  Ss = Rewritten (statement.Stmts A)

  -- ---- members

  abbrev Ps : Type 0
  Ps = Rewritten (List (syntax.Param A))

  params_one : (k : MemberKey) (n base : ℕ) (ps : List (syntax.Param A)) (o p : Ps) → RewritesParams tells C k n base ps o → RewritesParams tells D k n base ps p → o ≡ p
  params_one k n base [] o p x y = x ∙ sym y
  params_one k n base (q ∷ qs) o p x y =
      of_three (λ (t : T) (v : W) (r : Ps). joined (λ z zs. z ∷ zs) (joined (λ u w. record { mark = q.mark; is_final = q.is_final; type = u; name = w }) t v) r)
      (type_one tells Fine C D K L agree spots (no_locals k false) (begins q.mark base) q.type x.0 y.0 x.3 y.3) (word_one tells Fine C D K L agree spots (local_decl (record { member = k; number = n })) (begins q.mark base) q.name x.1 y.1 x.4 y.4) (params_one k (suc n) base qs x.2 y.2 x.5 y.5) x.6 y.6

  result_one : (k : MemberKey) (base : ℕ) (t : Option (tree.TypeName A)) (o p : Rewritten (Option (tree.TypeName A))) → RewritesResult tells C k base t o → RewritesResult tells D k base t p → o ≡ p
  result_one k base None o p x y = x ∙ sym y
  result_one k base (Some t) o p x y = of_one (λ (q : T). within (λ (u : tree.TypeName A). Some u) q) (type_one tells Fine C D K L agree spots (no_locals k false) base t x.0 y.0 x.1 y.1) x.2 y.2

  super_one : (c : Context) (base : ℕ) (args : Option (tree.Exps A)) → ((es : tree.Exps A) → args ≡ Some es → (h i : Choice) → C.super_call c es h → D.super_call c es i → h ≡ i) → (o p : Rewritten (Option (tree.Exps A)))
      → TransformsSuper tells C K c base args o → TransformsSuper tells D L c base args p → o ≡ p
  super_one c base None one o p x y = x ∙ sym y
  super_one c base (Some args) one o p x y =
      of_two (λ (h : Choice) (q : Es). with_losses tells C h (within (λ (zs : tree.Exps A). Some zs) q)) (one args refl x.0 y.0 x.2 y.2) (row_one tells Fine C D K L agree spots c base args x.1 y.1 x.3 y.3) x.4 y.4

  member_one : (k : MemberKey) (base : ℕ) (q : syntax.Member A) → Fine k (member_part q) → (o p : Rewritten (syntax.Member A)) → TransformsMember tells C K k base q o → TransformsMember tells D L k base q p → o ≡ p
  member_one k base (syntax.field m mods t w init) fine o p x y =
      of_three (λ (q : T) (v : W) (r : Rewritten (Option (tree.Exp A))). joined (λ (u : tree.TypeName A × tree.Word A) z. syntax.field m mods u.0 u.1 z) (joined (λ u z. (u, z)) q v) r)
      (type_one tells Fine C D K L agree spots (no_locals k false) (begins m base) t x.0 y.0 x.3 y.3) (word_one tells Fine C D K L agree spots (declared_by k) (begins m base) w x.1 y.1 x.4 y.4) (maybe_one tells Fine C D K L agree spots (no_locals k (is_static_member begins mods)) (begins m base) init x.2 y.2 x.5 y.5) x.6 y.6
  member_one k base (syntax.method m mods t w ps body) fine o p x y =
      of_four (λ (q : Rewritten (Option (tree.TypeName A))) (v : W) (r : Ps) (s : Ss).
      joined (λ (u : Option (tree.TypeName A) × tree.Word A) (z : List (syntax.Param A) × statement.Stmts A). syntax.method m mods u.0 u.1 z.0 z.1) (joined (λ u z. (u, z)) q v) (joined (λ u z. (u, z)) r s))
      (result_one k (begins m base) t x.0 y.0 x.4 y.4) (word_one tells Fine C D K L agree spots (declared_by k) (begins m base) w x.1 y.1 x.5 y.5) (params_one k 0 (begins m base) ps x.2 y.2 x.6 y.6)
      (list_one tells Fine C D K L agree spots (length ps) (with_parameters k (is_static_member begins mods) ps) (begins m base) body x.3 y.3 x.7 y.7) x.8 y.8
  member_one k base (syntax.constructor m mods w ps args body) fine o p x y =
      of_four (λ (v : W) (q : Ps) (r : Rewritten (Option (tree.Exps A))) (s : Ss).
      joined (λ (u : tree.Word A × List (syntax.Param A)) (z : Option (tree.Exps A) × statement.Stmts A). syntax.constructor m mods u.0 u.1 z.0 z.1) (joined (λ u z. (u, z)) v q) (joined (λ u z. (u, z)) r s))
      (word_one tells Fine C D K L agree spots (declared_by k) (begins m base) w x.0 y.0 x.4 y.4) (params_one k 0 (begins m base) ps x.1 y.1 x.5 y.5) (super_one (with_parameters k true ps) (begins m base) args
      (λ es e. agree.super_call k m mods w ps es body (subst (λ (given : Option (tree.Exps A)). Fine k (member_part (syntax.constructor m mods w ps given body))) e fine)) x.2 y.2 x.6 y.6)
      (list_one tells Fine C D K L agree spots (length ps) (with_parameters k false ps) (begins m base) body x.3 y.3 x.7 y.7) x.8 y.8
  member_one k base (syntax.inner m of) fine o p x y = absurd x

  parent_one : (outer : Option (List ℕ)) (base : ℕ) (t : Option (tree.TypeName A)) (o p : Rewritten (Option (tree.TypeName A))) → RewritesParent tells C outer base t o → RewritesParent tells D outer base t p → o ≡ p
  parent_one outer base None o p x y = x ∙ sym y
  parent_one outer base (Some t) o p x y = of_one (λ (q : T). within (λ (u : tree.TypeName A). Some u) q)
      (type_out tells Fine C D K L agree spots (C.parent_qualifier outer base t) (D.parent_qualifier outer base t) (C.parent outer base t) (D.parent outer base t) (agree.parent_qualifier outer base t) (agree.parent outer base t) base t x.0 y.0 x.1 y.1) x.2 y.2

  abbrev H : Type 0
  H = Rewritten (tree.Word A × Option (tree.TypeName A))

  head_one : (outer : Option (List ℕ)) (base : ℕ) (q : syntax.Class A) (o p : H) → RewritesHead tells C outer base q o → RewritesHead tells D outer base q p → o ≡ p
  head_one outer base (syntax.class m mods w t ms) o p x y =
      of_two (λ (v : W) (q : Rewritten (Option (tree.TypeName A))). joined (λ u z. (u, z)) v q) (word_one tells Fine C D K L agree spots (class_decl (class_key begins outer w.text)) (begins m base) w x.0 y.0 x.2 y.2) (parent_one outer (begins m base) t x.1 y.1 x.3 y.3) x.4 y.4

  -- ---- programs

  module _ (declarations : List DeclaredItem) (keys : (base : ℕ) (of : ClassKey) (q : syntax.Member A) → HasOne (Declares begins declarations base of q)) where
    keyed : (base : ℕ) (of : ClassKey) (q : syntax.Member A) → ((k : MemberKey) → Declares begins declarations base of q k → Fine k (member_part q)) → (o p : Rewritten (syntax.Member A))
        → TransformsByKey tells C K declarations base of q o → TransformsByKey tells D L declarations base of q p → o ≡ p
    keyed base of q fine o p x y = member_one x.0 base q (fine x.0 x.1) o p x.2 (subst (λ (k : MemberKey). TransformsMember tells D L k base q p) (sym (keys base of q x.0 y.0 x.1 y.1)) y.2)

    -- each member that is written there is fine
    abbrev pub AllFine : ((MemberKey → ℕ → Part A → Type 0) → MemberKey → Type 0) → Type 0
    AllFine In = (k : MemberKey) (base : ℕ) (part : Part A) → In (IsAt base part) k → Fine k part

    mutual
      unfolding TransformsClass TransformsMembers TransformsOne InClass InMembers InInner

      class_one : (base : ℕ) (outer : Option (List ℕ)) (q : syntax.Class A) → AllFine (λ P. InClass begins declarations P base outer q) → (o p : Rewritten (syntax.Class A)) → TransformsClass tells C K declarations base outer q o → TransformsClass tells D L declarations base outer q p → o ≡ p
      class_one base outer (syntax.class m mods w t ms) fine o p x y =
          of_two (λ (q : H) (r : Rewritten (syntax.Members A)). joined (λ (u : tree.Word A × Option (tree.TypeName A)) zs. syntax.class m mods u.0 u.1 zs) q r)
          (head_one outer base (syntax.class m mods w t ms) x.0 y.0 x.2 y.2) (or_members K L spots (begins m base) (class_key begins outer w.text) ms x.1 y.1 x.3 y.3 (members_one (begins m base) (class_key begins outer w.text) ms (λ k b part h. fine k b part (inr h)) x.1 y.1)) x.4 y.4

      members_one : (base : ℕ) (of : ClassKey) (q : syntax.Members A) → AllFine (λ P. InMembers begins declarations P base of q) → (o p : Rewritten (syntax.Members A)) → TransformsMembers tells C K declarations base of q o → TransformsMembers tells D L declarations base of q p → o ≡ p
      members_one base of syntax.end fine o p x y = x ∙ sym y
      members_one base of (syntax.more q qs) fine o p x y =
          of_two (λ (r : Rewritten (syntax.Member A)) (s : Rewritten (syntax.Members A)). joined (λ z zs. syntax.more z zs) r s)
          (one_one base of q (λ k b part h. fine k b part (inl h)) x.0 y.0 x.2 y.2) (or_members K L spots base of qs x.1 y.1 x.3 y.3 (members_one base of qs (λ k b part h. fine k b part (inr h)) x.1 y.1)) x.4 y.4

      one_one : (base : ℕ) (of : ClassKey) (q : syntax.Member A) → AllFine (λ P k. (Declares begins declarations base of q k × P k base (member_part q)) ⊎ InInner begins declarations P base of q k) → (o p : Rewritten (syntax.Member A))
          → TransformsOne tells C K declarations base of q o → TransformsOne tells D L declarations base of q p → o ≡ p
      one_one base of (syntax.inner m c) fine o p x y =
          of_one (λ (r : Rewritten (syntax.Class A)). within (λ z. syntax.inner m z) r) (or_class K L spots (begins m base) (Some of.name) c x.0 y.0 x.1 y.1 (class_one (begins m base) (Some of.name) c (λ k b part h. fine k b part (inr h)) x.0 y.0)) x.2 y.2
      one_one base of (syntax.field m mods t w init) fine o p x y = keyed base of (syntax.field m mods t w init) (λ k d. fine k base _ (inl (d, (refl, refl)))) o p x y
      one_one base of (syntax.method m mods t w ps body) fine o p x y = keyed base of (syntax.method m mods t w ps body) (λ k d. fine k base _ (inl (d, (refl, refl)))) o p x y
      one_one base of (syntax.constructor m mods w ps args body) fine o p x y = keyed base of (syntax.constructor m mods w ps args body) (λ k d. fine k base _ (inl (d, (refl, refl)))) o p x y

    classes_one : (base : ℕ) (cs : List (syntax.Class A)) → AllFine (λ P. InClasses begins declarations P base cs) → (o p : Rewritten (List (syntax.Class A))) → TransformsClasses tells C K declarations base cs o → TransformsClasses tells D L declarations base cs p → o ≡ p
    classes_one base [] fine o p x y = x ∙ sym y
    classes_one base (c ∷ cs) fine o p x y =
        of_two (λ (q : Rewritten (syntax.Class A)) (r : Rewritten (List (syntax.Class A))). joined (λ z zs. z ∷ zs) q r)
        (or_class K L spots base None c x.0 y.0 x.2 y.2 (class_one base None c (λ k b part h. fine k b part (inl h)) x.0 y.0)) (classes_one base cs (λ k b part h. fine k b part (inr h)) x.1 y.1 x.3 y.3) x.4 y.4

    abbrev pub UnitFine : syntax.Unit A → Type 0
    UnitFine u = AllFine (λ P. InClasses begins declarations P (begins u.mark 0) u.classes)

    pub unit_one : (u : syntax.Unit A) → UnitFine u → (o p : Rewritten (syntax.Unit A)) → TransformsUnit tells C K declarations u o → TransformsUnit tells D L declarations u p → o ≡ p
    unit_one u fine o p x y = of_one (λ (q : Rewritten (List (syntax.Class A))). within (λ cs. record { mark = u.mark; package_name = u.package_name; classes = cs }) q) (classes_one (begins u.mark 0) u.classes fine x.0 y.0 x.1 y.1) x.2 y.2

-- ---- all files of a program, each by the spots of its own

module _ (Fine : MemberKey → Part Span → Type 0) (C D : Choosing Span) (agree : Agree Fine C D) (declarations : List DeclaredItem)
    (keys : (base : ℕ) (of : ClassKey) (q : syntax.Member Span) → HasOne (Declares (λ (m : Span) b. m.from) declarations base of q)) where
  -- each member that the file writes is fine
  abbrev pub FileFine : syntax.Unit Span → Type 0
  FileFine u = (k : MemberKey) (base : ℕ) (part : Part Span) → InClasses (λ (m : Span) b. m.from) declarations (IsAt base part) u.mark.from u.classes k → Fine k part

  pub files_one : (us : List (syntax.Unit Span)) (S T : ℕ → Spotted Span) → ((n : ℕ) → SpottedAgree (S n) (T n)) → ((n : ℕ) (u : syntax.Unit Span) → slice_get us n ≡ Some u → FileFine u) → (os ps : List (Rewritten (syntax.Unit Span)))
      → TransformsFiles C declarations S us os → TransformsFiles D declarations T us ps → os ≡ ps
  files_one [] S T spots fine os ps x y = x ∙ sym y
  files_one (u ∷ us) S T spots fine os ps x y =
      of_two (λ (o : Rewritten (syntax.Unit Span)) (rest : List (Rewritten (syntax.Unit Span))). o ∷ rest)
      (unit_one itself Fine C D (S 0) (T 0) agree (spots 0) declarations keys u (fine zero u refl) x.0 y.0 x.2 y.2)
      (files_one us (λ n. S (suc n)) (λ n. T (suc n)) (λ n. spots (suc n)) (λ n v e. fine (suc n) v e) x.1 y.1 x.3 y.3) x.4 y.4
