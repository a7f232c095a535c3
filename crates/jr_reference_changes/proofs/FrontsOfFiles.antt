-- Members, classes and files side by side: what stands in front of each reference.
use Rattle.std.proofs.Common.{◌≡◌, ℕ, suc, List, [], ◌∷◌, ◌++◌, Option, Some, None, true, false, refl, sym, ap, subst, ◌∙◌}
use Rattle.std.specs.Prelude.{slice_get, map, length}
use Rattle.jr_text.specs.declared.spans.Span.{Span}
use Rattle.jr_ast.specs.Tree as tree
use Rattle.jr_ast.specs.StatementTree as statement
use Rattle.jr_ast.specs.MemberTree as syntax
use Rattle.jr_table.specs.Keys.{ClassKey}
use Rattle.jr_table.specs.Decls.{MemberKey}
use Rattle.jr_table.specs.Rows.{Row}
use Rattle.jr_table.specs.DeclaredItems.{DeclaredItem, class_key}
use Rattle.jr_table.specs.Context.{Context}
use Rattle.jr_table.specs.HeadRules.{plain as no_locals, with_parameters, is_static_member}
use Rattle.jr_table.specs.Binding.{Role}
use Rattle.jr_rewrite.specs.Rewritten.{Rewritten, within, joined, losses_of}
use Rattle.jr_rewrite.specs.Rewrites.{Choosing, RewritesParams, RewritesResult, RewritesSuper, RewritesMember, RewritesParent, RewritesOne, RewritesMembers, RewritesClass, RewritesClasses, RewritesUnit, RewritesUnits, TransformsClass, TransformsMembers, TransformsOne}
use Rattle.jr_rewrite.specs.AlongMembers.{AlongParams, AlongResult, AlongSuper, AlongMember, AlongParent, AlongOne, AlongMembers, AlongClass, AlongClasses, AlongUnit, AlongUnits}
use Rattle.jr_images.specs.Regions.{Region}
use Rattle.jr_images.proofs.Chosen.{left_none, right_none, lost_none}
use Rattle.jr_reference_changes.proofs.FrontsAlong.{at_mark, Chosen, Fronted, AnyType, along_row}
use Rattle.jr_reference_changes.proofs.FrontsOfStatements.{maybe_along, stmts_along}

-- `to`: what a member's key has become
module _ {A : Type 0} (tells : A → ℕ → Span) (rows : List Row) (R : Region A) (super_at : Context → ℕ) (to : MemberKey → MemberKey) where
  abbrev begins : A → ℕ → ℕ
  begins = at_mark tells rows R super_at

  abbrev Fronts : Context → Context → Role → (base : ℕ) → tree.Exp A → (base' : ℕ) → tree.Exp A → Type 0
  Fronts = Fronted tells rows R super_at

  abbrev Types : Context → Context → (base : ℕ) → tree.TypeName A → (base' : ℕ) → tree.TypeName A → Type 0
  Types = AnyType tells rows R super_at

  abbrev AnySuper : Context → Context → tree.Exps A → tree.Exps A → Type 0
  AnySuper c d es ys = Unit {0}

  abbrev AnyParent : Option (List ℕ) → (base : ℕ) → tree.TypeName A → (base' : ℕ) → tree.TypeName A → Type 0
  AnyParent o b t i u = Unit {0}

  abbrev Choices : Choosing A
  Choices = Chosen tells rows R super_at

  -- ---- parts of members

  params_along : (k : MemberKey) (n b i : ℕ) (ps : List (syntax.Param A)) (q : Rewritten (List (syntax.Param A))) → RewritesParams tells Choices k n b ps q → q.losses ≡ []
      → AlongParams begins begins Fronts Types AnySuper AnyParent to k b i ps q.tree
  params_along k n b i [] q is none = ap (λ (x : Rewritten (List (syntax.Param A))). x.tree) is
  params_along k n b i (p ∷ ps) q (t, v, rest, types, declared, made, is) none =
      let all = lost_none q (joined (λ x xs. x ∷ xs) (joined (λ u w. record { mark = p.mark; is_final = p.is_final; type = u; name = w }) t v) rest) is none in (
        record { mark = p.mark; is_final = p.is_final; type = t.tree; name = v.tree },
        rest.tree,
        ap (λ (x : Rewritten (List (syntax.Param A))). x.tree) is,
        refl,
        tt,
        params_along k (suc n) b i ps rest made (right_none (t.losses ++ v.losses) rest.losses all),
      )

  result_along : (k : MemberKey) (b i : ℕ) (t : Option (tree.TypeName A)) (q : Rewritten (Option (tree.TypeName A))) → RewritesResult tells Choices k b t q → q.losses ≡ []
      → AlongResult begins begins Fronts Types AnySuper AnyParent to k b i t q.tree
  result_along k b i None q is none = ap (λ (x : Rewritten (Option (tree.TypeName A))). x.tree) is
  result_along k b i (Some t) q (p, made, is) none = (p.tree, ap (λ (x : Rewritten (Option (tree.TypeName A))). x.tree) is, tt)

  super_along : (c d : Context) → (b i : ℕ) (args : Option (tree.Exps A)) (q : Rewritten (Option (tree.Exps A))) → RewritesSuper tells Choices c b args q → q.losses ≡ []
      → AlongSuper begins begins Fronts Types AnySuper AnyParent to c d b i args q.tree
  super_along c d b i None q is none = ap (λ (x : Rewritten (Option (tree.Exps A))). x.tree) is
  super_along c d b i (Some args) q (h, p, chosen, made, is) none =
      let all = lost_none q _ is none in (
        p.tree,
        ap (λ (x : Rewritten (Option (tree.Exps A))). x.tree) is,
        tt,
        along_row tells rows R super_at c d b i args p made (right_none (losses_of h) p.losses all),
      )

  -- ---- members

  pub member_along : (k : MemberKey) (b i : ℕ) (x : syntax.Member A) (q : Rewritten (syntax.Member A)) → RewritesMember tells Choices k b x q → q.losses ≡ []
      → AlongMember begins begins Fronts Types AnySuper AnyParent to k b i x q.tree
  member_along k b i (syntax.field m mods t w init) q (p, v, z, types, declared, made, is) none =
      let all = lost_none q (joined (λ (u : tree.TypeName A × tree.Word A) x. syntax.field m mods u.0 u.1 x) (joined (λ u z. (u, z)) p v) z) is none in (
        m,
        mods,
        p.tree,
        v.tree,
        z.tree,
        ap (λ (x : Rewritten (syntax.Member A)). x.tree) is,
        refl,
        tt,
        maybe_along tells rows R super_at (no_locals k (is_static_member begins mods)) (no_locals (to k) (is_static_member begins mods)) _ _ init z made
            (right_none (p.losses ++ v.losses) z.losses all),
      )
  member_along k b i (syntax.method m mods t w ps body) o (p, v, q, z, result, declared, params, made, is) none =
      let all = lost_none o (joined (λ (u : Option (tree.TypeName A) × tree.Word A) (x : List (syntax.Param A) × statement.Stmts A). syntax.method m mods u.0 u.1 x.0 x.1) (joined (λ u x. (u, x)) p v) (joined (λ u x. (u, x)) q z)) is none in
      let front = left_none (p.losses ++ v.losses) (q.losses ++ z.losses) all in
      let back = right_none (p.losses ++ v.losses) (q.losses ++ z.losses) all in (
        m,
        mods,
        p.tree,
        v.tree,
        q.tree,
        z.tree,
        ap (λ (x : Rewritten (syntax.Member A)). x.tree) is,
        refl,
        result_along k ((tells m b).from) ((tells m i).from) t p result (left_none p.losses v.losses front),
        params_along k 0 ((tells m b).from) ((tells m i).from) ps q params (left_none q.losses z.losses back),
        stmts_along tells rows R super_at (length ps) (with_parameters k (is_static_member begins mods) ps) (with_parameters (to k) (is_static_member begins mods) q.tree) _ _ body z made (right_none q.losses z.losses back),
      )
  member_along k b i (syntax.constructor m mods w ps args body) o (v, q, p, z, declared, params, super_part, made, is) none =
      let all = lost_none o (joined (λ (u : tree.Word A × List (syntax.Param A)) (x : Option (tree.Exps A) × statement.Stmts A). syntax.constructor m mods u.0 u.1 x.0 x.1) (joined (λ u x. (u, x)) v q) (joined (λ u x. (u, x)) p z)) is none in
      let front = left_none (v.losses ++ q.losses) (p.losses ++ z.losses) all in
      let back = right_none (v.losses ++ q.losses) (p.losses ++ z.losses) all in (
        m,
        mods,
        v.tree,
        q.tree,
        p.tree,
        z.tree,
        ap (λ (x : Rewritten (syntax.Member A)). x.tree) is,
        refl,
        params_along k 0 ((tells m b).from) ((tells m i).from) ps q params (right_none v.losses q.losses front),
        super_along (with_parameters k true ps) (with_parameters (to k) true q.tree) _ _ args p super_part (left_none p.losses z.losses back),
        stmts_along tells rows R super_at (length ps) (with_parameters k false ps) (with_parameters (to k) false q.tree) _ _ body z made (right_none p.losses z.losses back),
      )
  member_along k b i (syntax.inner m of) q made none = absurd made

  -- ---- heads of classes

  parent_along : (outer : Option (List ℕ)) (b i : ℕ) (t : Option (tree.TypeName A)) (q : Rewritten (Option (tree.TypeName A))) → RewritesParent tells Choices outer b t q → q.losses ≡ []
      → AlongParent begins begins Fronts Types AnySuper AnyParent to outer b i t q.tree
  parent_along outer b i None q is none = ap (λ (x : Rewritten (Option (tree.TypeName A))). x.tree) is
  parent_along outer b i (Some t) q (p, made, is) none = (p.tree, ap (λ (x : Rewritten (Option (tree.TypeName A))). x.tree) is, tt)

  -- ---- classes and files

  module _ (declarations : List DeclaredItem) where
    mutual
      unfolding TransformsClass TransformsMembers TransformsOne AlongClass AlongMembers AlongOne

      pub class_along : (b i : ℕ) (outer : Option (List ℕ)) (x : syntax.Class A) (q : Rewritten (syntax.Class A)) → RewritesClass tells Choices declarations b outer x q → q.losses ≡ []
          → AlongClass begins begins Fronts Types AnySuper AnyParent to declarations b i outer x q.tree
      class_along b i outer (syntax.class m mods w t ms) q (p, z, (v, u, declared, parent, word), members, is) none =
          let all = lost_none q (joined (λ (u : tree.Word A × Option (tree.TypeName A)) xs. syntax.class m mods u.0 u.1 xs) p z) is none in
          let front = lost_none p (joined (λ u x. (u, x)) v u) word (left_none p.losses z.losses all) in (
            m,
            mods,
            v.tree,
            u.tree,
            z.tree,
            ap (λ (x : Rewritten (syntax.Class A)). x.tree) is ∙ ap (λ (y : Rewritten (tree.Word A × Option (tree.TypeName A))). syntax.class m mods y.tree.0 y.tree.1 z.tree) word,
            refl,
            parent_along outer ((tells m b).from) ((tells m i).from) t u parent (right_none v.losses u.losses front),
            members_along _ _ (class_key begins outer w.text) ms z members (right_none p.losses z.losses all),
          )

      pub members_along : (b i : ℕ) (of : ClassKey) (xs : syntax.Members A) (q : Rewritten (syntax.Members A)) → RewritesMembers tells Choices declarations b of xs q → q.losses ≡ []
          → AlongMembers begins begins Fronts Types AnySuper AnyParent to declarations b i of xs q.tree
      members_along b i of syntax.end q is none = ap (λ (x : Rewritten (syntax.Members A)). x.tree) is
      members_along b i of (syntax.more x xs) q (p, z, made, rest, is) none = let all = lost_none q (joined (λ y ys. syntax.more y ys) p z) is none in
          (p.tree, z.tree, ap (λ (x : Rewritten (syntax.Members A)). x.tree) is, one_along b i of x p made (left_none p.losses z.losses all), members_along b i of xs z rest (right_none p.losses z.losses all))

      one_along : (b i : ℕ) (of : ClassKey) (x : syntax.Member A) (q : Rewritten (syntax.Member A)) → RewritesOne tells Choices declarations b of x q → q.losses ≡ []
          → AlongOne begins begins Fronts Types AnySuper AnyParent to declarations b i of x q.tree
      one_along b i of (syntax.inner m c) q (p, made, is) none =
          (m, p.tree, ap (λ (x : Rewritten (syntax.Member A)). x.tree) is, class_along _ _ (Some of.name) c p made (lost_none q (within (λ d. syntax.inner m d) p) is none))
      one_along b i of (syntax.field m mods t w init) q (k, declares, made) none = (k, declares, member_along k b i (syntax.field m mods t w init) q made none)
      one_along b i of (syntax.method m mods t w ps body) q (k, declares, made) none = (k, declares, member_along k b i (syntax.method m mods t w ps body) q made none)
      one_along b i of (syntax.constructor m mods w ps args body) q (k, declares, made) none = (k, declares, member_along k b i (syntax.constructor m mods w ps args body) q made none)

    classes_along : (b i : ℕ) (cs : List (syntax.Class A)) (q : Rewritten (List (syntax.Class A))) → RewritesClasses tells Choices declarations b cs q → q.losses ≡ []
        → AlongClasses begins begins Fronts Types AnySuper AnyParent to declarations b i cs q.tree
    classes_along b i [] q is none = ap (λ (x : Rewritten (List (syntax.Class A))). x.tree) is
    classes_along b i (c ∷ cs) q (p, z, made, rest, is) none = let all = lost_none q (joined (λ d ds. d ∷ ds) p z) is none in
        (p.tree, z.tree, ap (λ (x : Rewritten (List (syntax.Class A))). x.tree) is, class_along b i None c p made (left_none p.losses z.losses all), classes_along b i cs z rest (right_none p.losses z.losses all))

    unit_along : (u : syntax.Unit A) (q : Rewritten (syntax.Unit A)) → RewritesUnit tells Choices declarations u q → q.losses ≡ [] → AlongUnit begins begins Fronts Types AnySuper AnyParent to declarations u q.tree
    unit_along u q (p, made, is) none = subst (λ (x : Rewritten (syntax.Unit A)). AlongUnit begins begins Fronts Types AnySuper AnyParent to declarations u x.tree) (sym is)
        (classes_along _ _ u.classes p made (lost_none q (within (λ cs. record { mark = u.mark; package_name = u.package_name; classes = cs }) p) is none))

    -- whole programs
    pub units_along : (us : List (syntax.Unit A)) (files : List (Rewritten (syntax.Unit A))) → RewritesUnits tells Choices declarations us files
        → ((i : ℕ) (o : Rewritten (syntax.Unit A)) → slice_get files i ≡ Some o → o.losses ≡ [])
        → AlongUnits begins begins Fronts Types AnySuper AnyParent to declarations us (map (λ (o : Rewritten (syntax.Unit A)). o.tree) files)
    units_along [] files is none = ap (map (λ (o : Rewritten (syntax.Unit A)). o.tree)) is
    units_along (u ∷ us) files (o, rest, made, others, is) none =
        let each : (i : ℕ) (x : Rewritten (syntax.Unit A)) → slice_get (o ∷ rest) i ≡ Some x → x.losses ≡ [] = λ i x e. none i x (ap (λ (fs : List (Rewritten (syntax.Unit A))). slice_get fs i) is ∙ e) in (
          o.tree,
          map (λ (o : Rewritten (syntax.Unit A)). o.tree) rest,
          ap (map (λ (o : Rewritten (syntax.Unit A)). o.tree)) is,
          unit_along u o made (each 0 o refl),
          units_along us rest others (λ i x e. each (suc i) x e),
        )
