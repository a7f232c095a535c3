-- Members, classes and files side by side.
use Rattle.std.proofs.Common.{◌≡◌, ℕ, zero, suc, List, [], ◌∷◌, ◌++◌, Option, Some, None, Bool, true, false, refl, sym, ap, subst, ◌∙◌, inl, inr}
use Rattle.std.specs.Prelude.{slice_get, map, length}
use Rattle.jr_text.specs.declared.spans.Span.{Span}
use Rattle.jr_ast.specs.Tree as tree
use Rattle.jr_ast.specs.StatementTree as statement
use Rattle.jr_ast.specs.MemberTree as syntax
use Rattle.jr_table.specs.Keys.{ClassKey, Ty}
use Rattle.jr_table.specs.Decls.{MemberKey, head, class_decl, constructor_decl, local_decl}
use Rattle.jr_table.specs.Decls as member
use Rattle.jr_table.specs.Rows.{Row}
use Rattle.jr_table.specs.Prelude.{top_key}
use Rattle.jr_table.specs.Found.{one}
use Rattle.jr_table.specs.Scope.{Scope}
use Rattle.jr_table.specs.DeclaredItems.{DeclaredItem, class_key}
use Rattle.jr_table.specs.Context.{Context, Local, scope_of, parameters}
use Rattle.jr_table.specs.HeadRules.{plain as no_locals, with_parameters, types_of, is_static_member, TopFinds}
use Rattle.jr_table.specs.Binding.{Role, HaveTypes, SuperCtorFinds}
use Rattle.jr_spell.specs.declared.references.RefForm.TheVariants as ref
use Rattle.jr_spell.specs.Binds.{Binds}
use Rattle.jr_rewrite.specs.Respellings.{Choice, front_of, text_of}
use Rattle.jr_rewrite.specs.Rewritten.{Rewritten, within, joined, word_to, losses_of, qualifier_to, simple_type_out}
use Rattle.jr_rewrite.specs.Rewrites.{Choosing, TypeOut, RewritesType, RewritesParams, RewritesResult, RewritesSuper, RewritesMember, RewritesParent, RewritesOne, RewritesMembers, RewritesClass, RewritesClasses, RewritesUnit, RewritesUnits, TransformsClass, TransformsMembers, TransformsOne}
use Rattle.jr_rewrite.specs.AlongMembers.{AlongParams, AlongResult, AlongSuper, AlongMember, AlongParent, AlongOne, AlongMembers, AlongClass, AlongClasses, AlongUnit, AlongUnits}
use Rattle.jr_images.specs.Images.{Renaming, class_to, ctor_to, name_to, type_to, types_to, member_to, rows_to}
use Rattle.jr_images.specs.Spelling.{reference, spelling, SuperCtorSpells, ParentSpells}
use Rattle.jr_images.specs.Standing.{LocalsTo, ContextTo}
use Rattle.jr_images.specs.Keeping.{IsKept, IsWritten, IsSuperKept, IsTopKept, IsParentKept}
use Rattle.jr_images.proofs.Chosen.{renamed_text, renamed_front, lost_some, left_none, right_none, lost_none}
use Rattle.jr_images.proofs.Forms.{one_form}
use Rattle.jr_images.proofs.World.{World}
use Rattle.jr_images.proofs.Types.{to_scope, written_kept}
use Rattle.jr_images.proofs.Kept.{kept_row}
use Rattle.jr_images.proofs.Alongside.{along_row}
use Rattle.jr_images.proofs.Sides.{maybe_along, stmts_along}

types_of_image : (g : Renaming) (k : MemberKey) → types_of (member_to g k) ≡ types_to g (types_of k)
types_of_image g (member.head k) = refl
types_of_image g (member.field k) = refl
types_of_image g (member.method k) = refl
types_of_image g (member.constructor k) = refl

-- the parameters are the member's
params_own : {A : Type 0} (k : MemberKey) (n : ℕ) (ps : List (syntax.Param A)) (ts : List Ty) (i : ℕ) (l : Local) → slice_get (parameters k n ps ts) i ≡ Some l → l.key.member ≡ k
params_own k n [] ts i l e = absurd cc
params_own k n (p ∷ ps) [] i l e = absurd cc
params_own k n (p ∷ ps) (t ∷ ts) zero l e = sym (ap (λ (x : Option Local). own x) e)
  where
    own : Option Local → MemberKey
    own None = k
    own (Some x) = x.key.member
params_own k n (p ∷ ps) (t ∷ ts) (suc i) l e = params_own k (suc n) ps ts i l e

module _ {A : Type 0} (tells : A → ℕ → Span) (rows : List Row) (g : Renaming) (super_at : Context → ℕ) (worlds : (c d : Context) → ContextTo g rows c d → World A rows g c d) where
  abbrev Chosen : Choosing A
  Chosen = spelling (λ m b. (tells m b).from) rows g super_at

  abbrev at_mark : A → ℕ → ℕ
  at_mark m b = (tells m b).from

  abbrev Keeps : Context → Context → Role → (base : ℕ) → tree.Exp A → (base' : ℕ) → tree.Exp A → Type 0
  Keeps = IsKept (λ m b. (tells m b).from) (λ m b. (tells m b).from) g rows

  abbrev Writes : Context → Context → (base : ℕ) → tree.TypeName A → (base' : ℕ) → tree.TypeName A → Type 0
  Writes = IsWritten (λ m b. (tells m b).from) (λ m b. (tells m b).from) g rows

  abbrev Supers : Context → Context → tree.Exps A → tree.Exps A → Type 0
  Supers = IsSuperKept g rows

  abbrev Parents : Option (List ℕ) → (base : ℕ) → tree.TypeName A → (base' : ℕ) → tree.TypeName A → Type 0
  Parents = IsParentKept g rows

  -- ---- what is known at the beginning of a member

  pub plain_to : (k : MemberKey) (is_static : Bool) → ContextTo g rows (no_locals k is_static) (no_locals (member_to g k) is_static)
  plain_to k is_static = record { member = refl; static = refl; locals = tt; own = λ i l e. absurd cc }

  params_to : (s z : Scope) (k : MemberKey) (n b : ℕ) (ps : List (syntax.Param A)) (ts : List Ty) (q : Rewritten (List (syntax.Param A))) → RewritesParams tells Chosen k n b ps q
      → LocalsTo g rows s z (parameters k n ps ts) (parameters (member_to g k) n q.tree (types_to g ts))
  params_to s z k n b [] ts q is = subst (λ (x : Rewritten (List (syntax.Param A))). LocalsTo g rows s z [] (parameters (member_to g k) n x.tree (types_to g ts))) (sym is) tt
  params_to s z k n b (p ∷ ps) [] q (t, v, rest, types, declared, made, is) = subst (λ (x : Rewritten (List (syntax.Param A))). LocalsTo g rows s z [] (parameters (member_to g k) n x.tree [])) (sym is) tt
  params_to s z k n b (p ∷ ps) (ty ∷ ts) q (t, v, rest, types, (h, declared, word), made, is) =
      subst (λ (x : Rewritten (List (syntax.Param A))). LocalsTo g rows s z (parameters k n (p ∷ ps) (ty ∷ ts)) (parameters (member_to g k) n x.tree (types_to g (ty ∷ ts)))) (sym is) (
        record {
          named = ap (λ (x : Rewritten (tree.Word A)). x.tree.text) word ∙ ap (λ (x : Choice). text_of x p.name.text) declared
              ∙ renamed_text p.name.text (name_to g (local_decl (record { member = k; number = n })) p.name.text);
          key = refl;
          final = refl;
          init = refl;
          type = λ u e. ap (type_to g) e;
        },
        params_to s z k (suc n) b ps ts rest made,
      )

  pub with_params_to : (k : MemberKey) (is_static : Bool) (b : ℕ) (ps : List (syntax.Param A)) (q : Rewritten (List (syntax.Param A))) → RewritesParams tells Chosen k 0 b ps q
      → ContextTo g rows (with_parameters k is_static ps) (with_parameters (member_to g k) is_static q.tree)
  with_params_to k is_static b ps q made = record {
    member = refl;
    static = refl;
    locals = subst (λ (ts : List Ty). LocalsTo g rows (scope_of (with_parameters k is_static ps)) (scope_of (with_parameters (member_to g k) is_static q.tree)) (parameters k 0 ps (types_of k)) (parameters (member_to g k) 0 q.tree ts))
        (sym (types_of_image g k)) (params_to (scope_of (with_parameters k is_static ps)) (scope_of (with_parameters (member_to g k) is_static q.tree)) k 0 b ps (types_of k) q made);
    own = params_own k 0 ps (types_of k);
  }

  types_kept : (c d : Context) → ContextTo g rows c d → (b i : ℕ) (t : tree.TypeName A) (p : Rewritten (tree.TypeName A)) → RewritesType tells Chosen c b t p → p.losses ≡ [] → Writes c d b t i p.tree
  types_kept c d stand b i t p made none = written_kept tells rows g c d (worlds c d stand) super_at b t p made none

  -- ---- parts of members

  params_along : (k : MemberKey) (n b i : ℕ) (ps : List (syntax.Param A)) (q : Rewritten (List (syntax.Param A))) → RewritesParams tells Chosen k n b ps q → q.losses ≡ []
      → AlongParams at_mark at_mark Keeps Writes Supers Parents (member_to g) k b i ps q.tree
  params_along k n b i [] q is none = ap (λ (x : Rewritten (List (syntax.Param A))). x.tree) is
  params_along k n b i (p ∷ ps) q (t, v, rest, types, declared, made, is) none =
      let all = lost_none q (joined (λ x xs. x ∷ xs) (joined (λ u w. record { mark = p.mark; is_final = p.is_final; type = u; name = w }) t v) rest) is none in (
        record { mark = p.mark; is_final = p.is_final; type = t.tree; name = v.tree },
        rest.tree,
        ap (λ (x : Rewritten (List (syntax.Param A))). x.tree) is,
        refl,
        types_kept (no_locals k false) (no_locals (member_to g k) false) (plain_to k false) _ 0 p.type t types (left_none t.losses v.losses (left_none (t.losses ++ v.losses) rest.losses all)),
        params_along k (suc n) b i ps rest made (right_none (t.losses ++ v.losses) rest.losses all),
      )

  result_along : (k : MemberKey) (b i : ℕ) (t : Option (tree.TypeName A)) (q : Rewritten (Option (tree.TypeName A))) → RewritesResult tells Chosen k b t q → q.losses ≡ []
      → AlongResult at_mark at_mark Keeps Writes Supers Parents (member_to g) k b i t q.tree
  result_along k b i None q is none = ap (λ (x : Rewritten (Option (tree.TypeName A))). x.tree) is
  result_along k b i (Some t) q (p, made, is) none = (
    p.tree,
    ap (λ (x : Rewritten (Option (tree.TypeName A))). x.tree) is,
    types_kept (no_locals k false) (no_locals (member_to g k) false) (plain_to k false) b i t p made (lost_none q (within (λ (u : tree.TypeName A). Some u) p) is none),
  )

  -- the constructor of a written `super(..)`
  super_kept : (c d : Context) (stand : ContextTo g rows c d) (args es : tree.Exps A) → ((ts : List Ty) → HaveTypes rows c args ts → HaveTypes (rows_to g rows) d es (types_to g ts))
      → (h : Choice) → SuperCtorSpells (λ m b. (tells m b).from) rows g (super_at c) c args h → losses_of h ≡ [] → Supers c d args es
  super_kept c d stand args es args_to h (q, ts, finds, types, inl (f, taken, is)) none = (
    q,
    finds,
    one_form (λ f. Binds (rows_to g rows) (scope_of d) (reference ref.AsAsked [] None (types_to g ts)) (constructor_decl (ctor_to g q)) f → NewFinds)
        (λ (p, over, found). inl (p, over, inl (types_to g ts, args_to ts types, found)))
        taken.place f taken.stands (to_scope tells rows g c d (worlds c d stand) (reference ref.AsAsked [] None (types_to g ts)) (constructor_decl (ctor_to g q)) f taken.binds),
  )
    where
      NewFinds : Type 0
      NewFinds = SuperCtorFinds (rows_to g rows) d es (one (constructor_decl (ctor_to g q)))
  super_kept c d stand args es args_to h (q, ts, finds, types, inr (none_binds, (f, found, is))) none = absurd (lost_some _ (sym (ap losses_of is) ∙ none))

  super_along : (c d : Context) → ContextTo g rows c d → (b i : ℕ) (args : Option (tree.Exps A)) (q : Rewritten (Option (tree.Exps A))) → RewritesSuper tells Chosen c b args q → q.losses ≡ []
      → AlongSuper at_mark at_mark Keeps Writes Supers Parents (member_to g) c d b i args q.tree
  super_along c d stand b i None q is none = ap (λ (x : Rewritten (Option (tree.Exps A))). x.tree) is
  super_along c d stand b i (Some args) q (h, p, spells, made, is) none =
      let all = lost_none q _ is none in
      let inner = right_none (losses_of h) p.losses all in (
        p.tree,
        ap (λ (x : Rewritten (Option (tree.Exps A))). x.tree) is,
        super_kept c d stand args p.tree (λ ts have. kept_row tells rows g c d (worlds c d stand) super_at b args p made inner ts have) h spells (left_none (losses_of h) p.losses all),
        along_row tells rows g c d (worlds c d stand) super_at b i args p made inner,
      )

  -- ---- members

  pub member_along : (k : MemberKey) (b i : ℕ) (x : syntax.Member A) (q : Rewritten (syntax.Member A)) → RewritesMember tells Chosen k b x q → q.losses ≡ []
      → AlongMember at_mark at_mark Keeps Writes Supers Parents (member_to g) k b i x q.tree
  member_along k b i (syntax.field m mods t w init) q (p, v, z, types, declared, made, is) none =
      let all = lost_none q (joined (λ (u : tree.TypeName A × tree.Word A) x. syntax.field m mods u.0 u.1 x) (joined (λ u z. (u, z)) p v) z) is none in (
        m,
        mods,
        p.tree,
        v.tree,
        z.tree,
        ap (λ (x : Rewritten (syntax.Member A)). x.tree) is,
        refl,
        types_kept (no_locals k false) (no_locals (member_to g k) false) (plain_to k false) _ 0 t p types (left_none p.losses v.losses (left_none (p.losses ++ v.losses) z.losses all)),
        maybe_along tells rows g super_at worlds (no_locals k (is_static_member at_mark mods)) (no_locals (member_to g k) (is_static_member at_mark mods)) (plain_to k (is_static_member at_mark mods)) _ _ init z made
            (right_none (p.losses ++ v.losses) z.losses all),
      )
  member_along k b i (syntax.method m mods t w ps body) o (p, v, q, z, result, declared, params, made, is) none =
      let all = lost_none o (joined (λ (u : Option (tree.TypeName A) × tree.Word A) (x : List (syntax.Param A) × statement.Stmts A). syntax.method m mods u.0 u.1 x.0 x.1) (joined (λ u x. (u, x)) p v) (joined (λ u x. (u, x)) q z)) is none in
      let front = left_none (p.losses ++ v.losses) (q.losses ++ z.losses) all in
      let back = right_none (p.losses ++ v.losses) (q.losses ++ z.losses) all in (
        m,
        mods,
        p.tree,
        v.tree,
        q.tree,
        z.tree,
        ap (λ (x : Rewritten (syntax.Member A)). x.tree) is,
        refl,
        result_along k ((tells m b).from) ((tells m i).from) t p result (left_none p.losses v.losses front),
        params_along k 0 ((tells m b).from) ((tells m i).from) ps q params (left_none q.losses z.losses back),
        stmts_along tells rows g super_at worlds (length ps) (with_parameters k (is_static_member at_mark mods) ps) (with_parameters (member_to g k) (is_static_member at_mark mods) q.tree)
            (with_params_to k (is_static_member at_mark mods) _ ps q params) _ _ body z made (right_none q.losses z.losses back),
      )
  member_along k b i (syntax.constructor m mods w ps args body) o (v, q, p, z, declared, params, super_part, made, is) none =
      let all = lost_none o (joined (λ (u : tree.Word A × List (syntax.Param A)) (x : Option (tree.Exps A) × statement.Stmts A). syntax.constructor m mods u.0 u.1 x.0 x.1) (joined (λ u x. (u, x)) v q) (joined (λ u x. (u, x)) p z)) is none in
      let front = left_none (v.losses ++ q.losses) (p.losses ++ z.losses) all in
      let back = right_none (v.losses ++ q.losses) (p.losses ++ z.losses) all in (
        m,
        mods,
        v.tree,
        q.tree,
        p.tree,
        z.tree,
        ap (λ (x : Rewritten (syntax.Member A)). x.tree) is,
        refl,
        params_along k 0 ((tells m b).from) ((tells m i).from) ps q params (right_none v.losses q.losses front),
        super_along (with_parameters k true ps) (with_parameters (member_to g k) true q.tree) (with_params_to k true _ ps q params) _ _ args p super_part (left_none p.losses z.losses back),
        stmts_along tells rows g super_at worlds (length ps) (with_parameters k false ps) (with_parameters (member_to g k) false q.tree)
            (with_params_to k false _ ps q params) _ _ body z made (right_none p.losses z.losses back),
      )
  member_along k b i (syntax.inner m of) q made none = absurd made

  -- ---- heads of classes

  one_top : (name : List ℕ) (j k : ClassKey) → TopFinds rows name (one (class_decl j)) → TopFinds rows name (one (class_decl k)) → j ≡ k
  one_top name j k (inl (i, row, is)) (inl (o, other, was)) = cc
  one_top name j k (inl h) (inr (none, was)) = absurd cc
  one_top name j k (inr (none, is)) h = absurd cc

  top_kept : (b : ℕ) (m : A) (w : tree.Word A) (h : Choice) → ParentSpells at_mark rows g None b (tree.named m None w) h → losses_of h ≡ []
      → IsTopKept g rows (tree.named m None w) (tree.named m (qualifier_to m (front_of h) None) (word_to h w))
  top_kept b m w h (k, found, inl (leads, is)) none = (
    m,
    word_to h w,
    ap (λ (x : Choice). tree.named m (qualifier_to m (front_of x) None) (word_to h w)) is ∙ ap (λ front. tree.named m (qualifier_to m front None) (word_to h w)) (renamed_front w.text (class_to g k).name),
    λ j other. subst (λ (x : ClassKey). TopFinds (rows_to g rows) (text_of h w.text) (one (class_decl (class_to g x)))) (one_top w.text k j found other)
        (subst (λ (name : List ℕ). TopFinds (rows_to g rows) name (one (class_decl (class_to g k)))) (sym (ap (λ (x : Choice). text_of x w.text) is ∙ renamed_text w.text (class_to g k).name)) leads),
  )
  top_kept b m w h (k, found, inr (not_leads, (f, finds, is))) none = absurd (lost_some _ (sym (ap losses_of is) ∙ none))

  parent_kept : (outer : Option (List ℕ)) (b i : ℕ) (t : tree.TypeName A) (p : Rewritten (tree.TypeName A)) → TypeOut tells Chosen (Chosen.parent_qualifier outer b t) (Chosen.parent outer b t) b t p
      → p.losses ≡ [] → Parents outer b t i p.tree
  parent_kept (Some o) b i t p made none = types_kept (no_locals (head (top_key o)) false) (no_locals (member_to g (head (top_key o))) false) (plain_to (head (top_key o)) false) b i t p made none
  parent_kept None b i (tree.int m) p made none = tt
  parent_kept None b i (tree.boolean m) p made none = tt
  parent_kept None b i (tree.named m None w) p (h, spells, is) none = subst (λ (x : Rewritten (tree.TypeName A)). IsTopKept g rows (tree.named m None w) x.tree) (sym is)
      (top_kept b m w h spells (lost_none p (simple_type_out tells h m b w) is none))
  parent_kept None b i (tree.named m (Some o) w) p (q, h, qualifier, spells, is) none = absurd spells

  parent_along : (outer : Option (List ℕ)) (b i : ℕ) (t : Option (tree.TypeName A)) (q : Rewritten (Option (tree.TypeName A))) → RewritesParent tells Chosen outer b t q → q.losses ≡ []
      → AlongParent at_mark at_mark Keeps Writes Supers Parents (member_to g) outer b i t q.tree
  parent_along outer b i None q is none = ap (λ (x : Rewritten (Option (tree.TypeName A))). x.tree) is
  parent_along outer b i (Some t) q (p, made, is) none = (
    p.tree,
    ap (λ (x : Rewritten (Option (tree.TypeName A))). x.tree) is,
    parent_kept outer b i t p made (lost_none q (within (λ (u : tree.TypeName A). Some u) p) is none),
  )

  -- ---- classes and files

  module _ (declarations : List DeclaredItem) where
    mutual
      unfolding TransformsClass TransformsMembers TransformsOne AlongClass AlongMembers AlongOne

      pub class_along : (b i : ℕ) (outer : Option (List ℕ)) (x : syntax.Class A) (q : Rewritten (syntax.Class A)) → RewritesClass tells Chosen declarations b outer x q → q.losses ≡ []
          → AlongClass at_mark at_mark Keeps Writes Supers Parents (member_to g) declarations b i outer x q.tree
      class_along b i outer (syntax.class m mods w t ms) q (p, z, (v, u, declared, parent, word), members, is) none =
          let all = lost_none q (joined (λ (u : tree.Word A × Option (tree.TypeName A)) xs. syntax.class m mods u.0 u.1 xs) p z) is none in
          let front = lost_none p (joined (λ u x. (u, x)) v u) word (left_none p.losses z.losses all) in (
            m,
            mods,
            v.tree,
            u.tree,
            z.tree,
            ap (λ (x : Rewritten (syntax.Class A)). x.tree) is ∙ ap (λ (y : Rewritten (tree.Word A × Option (tree.TypeName A))). syntax.class m mods y.tree.0 y.tree.1 z.tree) word,
            refl,
            parent_along outer _ _ t u parent (right_none v.losses u.losses front),
            members_along _ _ (class_key at_mark outer w.text) ms z members (right_none p.losses z.losses all),
          )

      pub members_along : (b i : ℕ) (of : ClassKey) (xs : syntax.Members A) (q : Rewritten (syntax.Members A)) → RewritesMembers tells Chosen declarations b of xs q → q.losses ≡ []
          → AlongMembers at_mark at_mark Keeps Writes Supers Parents (member_to g) declarations b i of xs q.tree
      members_along b i of syntax.end q is none = ap (λ (x : Rewritten (syntax.Members A)). x.tree) is
      members_along b i of (syntax.more x xs) q (p, z, made, rest, is) none = let all = lost_none q (joined (λ y ys. syntax.more y ys) p z) is none in
          (p.tree, z.tree, ap (λ (x : Rewritten (syntax.Members A)). x.tree) is, one_along b i of x p made (left_none p.losses z.losses all), members_along b i of xs z rest (right_none p.losses z.losses all))

      one_along : (b i : ℕ) (of : ClassKey) (x : syntax.Member A) (q : Rewritten (syntax.Member A)) → RewritesOne tells Chosen declarations b of x q → q.losses ≡ []
          → AlongOne at_mark at_mark Keeps Writes Supers Parents (member_to g) declarations b i of x q.tree
      one_along b i of (syntax.inner m c) q (p, made, is) none =
          (m, p.tree, ap (λ (x : Rewritten (syntax.Member A)). x.tree) is, class_along _ _ (Some of.name) c p made (lost_none q (within (λ d. syntax.inner m d) p) is none))
      one_along b i of (syntax.field m mods t w init) q (k, declares, made) none = (k, declares, member_along k b i (syntax.field m mods t w init) q made none)
      one_along b i of (syntax.method m mods t w ps body) q (k, declares, made) none = (k, declares, member_along k b i (syntax.method m mods t w ps body) q made none)
      one_along b i of (syntax.constructor m mods w ps args body) q (k, declares, made) none = (k, declares, member_along k b i (syntax.constructor m mods w ps args body) q made none)

    classes_along : (b i : ℕ) (cs : List (syntax.Class A)) (q : Rewritten (List (syntax.Class A))) → RewritesClasses tells Chosen declarations b cs q → q.losses ≡ []
        → AlongClasses at_mark at_mark Keeps Writes Supers Parents (member_to g) declarations b i cs q.tree
    classes_along b i [] q is none = ap (λ (x : Rewritten (List (syntax.Class A))). x.tree) is
    classes_along b i (c ∷ cs) q (p, z, made, rest, is) none = let all = lost_none q (joined (λ d ds. d ∷ ds) p z) is none in
        (p.tree, z.tree, ap (λ (x : Rewritten (List (syntax.Class A))). x.tree) is, class_along b i None c p made (left_none p.losses z.losses all), classes_along b i cs z rest (right_none p.losses z.losses all))

    unit_along : (u : syntax.Unit A) (q : Rewritten (syntax.Unit A)) → RewritesUnit tells Chosen declarations u q → q.losses ≡ [] → AlongUnit at_mark at_mark Keeps Writes Supers Parents (member_to g) declarations u q.tree
    unit_along u q (p, made, is) none = subst (λ (x : Rewritten (syntax.Unit A)). AlongUnit at_mark at_mark Keeps Writes Supers Parents (member_to g) declarations u x.tree) (sym is)
        (classes_along _ _ u.classes p made (lost_none q (within (λ cs. record { mark = u.mark; package_name = u.package_name; classes = cs }) p) is none))

    -- whole programs
    pub units_along : (us : List (syntax.Unit A)) (files : List (Rewritten (syntax.Unit A))) → RewritesUnits tells Chosen declarations us files
        → ((i : ℕ) (o : Rewritten (syntax.Unit A)) → slice_get files i ≡ Some o → o.losses ≡ [])
        → AlongUnits at_mark at_mark Keeps Writes Supers Parents (member_to g) declarations us (map (λ (o : Rewritten (syntax.Unit A)). o.tree) files)
    units_along [] files is none = ap (map (λ (o : Rewritten (syntax.Unit A)). o.tree)) is
    units_along (u ∷ us) files (o, rest, made, others, is) none =
        let each : (i : ℕ) (x : Rewritten (syntax.Unit A)) → slice_get (o ∷ rest) i ≡ Some x → x.losses ≡ [] = λ i x e. none i x (ap (λ (fs : List (Rewritten (syntax.Unit A))). slice_get fs i) is ∙ e) in (
          o.tree,
          map (λ (o : Rewritten (syntax.Unit A)). o.tree) rest,
          ap (map (λ (o : Rewritten (syntax.Unit A)). o.tree)) is,
          unit_along u o made (each 0 o refl),
          units_along us rest others (λ i x e. each (suc i) x e),
        )
