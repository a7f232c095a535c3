-- Members, classes and files of a region side by side, as in jr_kept_references (`RegionMembers`), beside
-- lists of which `L` tells what a spot makes.
use Rattle.std.proofs.Common.{◌≡◌, ℕ, suc, List, [], ◌∷◌, ◌++◌, Option, Some, None, true, false, refl, sym, ap, subst, ◌∙◌, inl, inr}
use Rattle.std.specs.Prelude.{◌⊎◌, length}
use Rattle.jr_text.specs.declared.spans.Span.{Span}
use Rattle.jr_ast.specs.Tree as tree
use Rattle.jr_ast.specs.StatementTree as statement
use Rattle.jr_ast.specs.MemberTree as syntax
use Rattle.jr_table.specs.Keys.{ClassKey, Ty}
use Rattle.jr_table.specs.Decls.{MemberKey, head, class_decl, constructor_decl}
use Rattle.jr_table.specs.Rows.{Row}
use Rattle.jr_table.specs.Prelude.{top_key}
use Rattle.jr_table.specs.Found.{one}
use Rattle.jr_table.specs.DeclaredItems.{DeclaredItem, class_key}
use Rattle.jr_table.specs.Context.{Context, scope_of}
use Rattle.jr_table.specs.HeadRules.{plain as no_locals, with_parameters, is_static_member, TopFinds}
use Rattle.jr_table.specs.Binding.{Role, HaveTypes, SuperCtorFinds}
use Rattle.jr_spell.specs.declared.references.RefForm.TheVariants as ref
use Rattle.jr_spell.specs.Binds.{Binds}
use Rattle.jr_rewrite.specs.Respellings.{Choice, front_of, text_of}
use Rattle.jr_rewrite.specs.Rewritten.{Rewritten, within, joined, word_to, losses_of, qualifier_to, simple_type_out}
use Rattle.jr_rewrite.specs.Spots.{Spotted, nowhere, spotted, OrMembers, OrClass}
use Rattle.jr_rewrite.specs.Rewrites.{Choosing, TypeOut, RewritesType, RewritesParams, RewritesResult, RewritesParent, TransformsList, TransformsSuper, TransformsMember, TransformsClass, TransformsMembers, TransformsOne, TransformsClasses, TransformsUnit}
use Rattle.jr_rewrite.specs.AlongMembers.{AlongParams, AlongResult, AlongParent}
use Rattle.jr_images.specs.Regions.{Region}
use Rattle.jr_images.specs.Spelling.{reference, choosing, SuperCtorChoice, ParentChoice}
use Rattle.jr_images.proofs.Chosen.{renamed_text, renamed_front, lost_some, left_none, right_none, lost_none}
use Rattle.jr_images.proofs.Forms.{one_form}
use Rattle.jr_kept_references.specs.InRegions.{rows_in, class_in, ctor_in, member_in, StandsFor}
use Rattle.jr_kept_references.specs.KeptInRegions.{IsTypeKeptIn, IsKeptIn, IsSuperKeptIn, IsTopKeptIn, IsParentKeptIn, PartsBecome}
use Rattle.jr_kept_references.specs.AlongSpots.{SpotStands}
use Rattle.jr_kept_references.specs.StatementsAlong.{ListSpotStands, ListBeside}
use Rattle.jr_kept_references.specs.MembersAlong.{MembersSpotStands, ClassSpotStands, MembersStay, ClassStays, SuperBeside, MemberBeside, ClassBeside, MembersBeside, OneBeside, ClassesBeside, UnitBeside}
use Rattle.jr_kept_references.specs.RegionPlaces.{Standing, AreStanding, AreBeginning, AreWalked, AllWalked}
use Rattle.jr_kept_references.proofs.RegionWorlds.{RegionWorld}
use Rattle.jr_kept_references.proofs.RegionTypes.{to_scope, written_kept}
use Rattle.jr_kept_references.proofs.RegionExpressions.{kept_row}
use Rattle.jr_kept_references.proofs.RegionAlong.{along_row}
use Rattle.jr_extracted_references.proofs.SpotStatements.{maybe_beside, list_side, stmts_beside}

module _ {A : Type 0} (tells : A → ℕ → Span) (rows : List Row) (R : Region A) (super_at : Context → ℕ) (S : Spotted A) (At : Standing A)
    (stands : AreStanding tells rows R (choosing (λ m b. (tells m b).from) rows R super_at) S At) (begins : AreBeginning tells rows R (choosing (λ m b. (tells m b).from) rows R super_at) S At)
    (parts : (c d : Context) → At.Known c d → PartsBecome (λ m b. (tells m b).from) rows R S c d)
    (worlds : (c d : Context) → StandsFor R rows c d → RegionWorld A rows R c d)
    (L : (next next2 : ℕ) → Context → Context → (base : ℕ) → statement.Stmts A → (base2 : ℕ) → statement.Stmts A → Type 0)
    (meets : (n z : ℕ) (c d : Context) (b i : ℕ) (xs : statement.Stmts A) (q : Rewritten (statement.Stmts A)) → At.Lists n z c d xs → ListSpotStands S n z c d b xs i q.tree → L n z c d b xs i q.tree) where
  abbrev Chosen : Choosing A
  Chosen = choosing (λ m b. (tells m b).from) rows R super_at

  abbrev at_mark : A → ℕ → ℕ
  at_mark m b = (tells m b).from

  abbrev Keeps : Context → Context → Role → (base : ℕ) → tree.Exp A → (base' : ℕ) → tree.Exp A → Type 0
  Keeps c d r b e i y = IsKeptIn (λ m b. (tells m b).from) rows R c d r b e i y

  abbrev Writes : Context → Context → (base : ℕ) → tree.TypeName A → (base' : ℕ) → tree.TypeName A → Type 0
  Writes c d b t i u = IsTypeKeptIn R rows (scope_of c) (scope_of d) t u

  abbrev Supers : Context → Context → tree.Exps A → tree.Exps A → Type 0
  Supers c d args es = IsSuperKeptIn (λ m b. (tells m b).from) rows R c d args es

  abbrev Parents : Option (List ℕ) → (base : ℕ) → tree.TypeName A → (base' : ℕ) → tree.TypeName A → Type 0
  Parents = IsParentKeptIn rows R

  -- what is known of two programs at a place that is known
  world : (c d : Context) → At.Known c d → RegionWorld A rows R c d
  world c d stand = worlds c d (stands.stand c d stand)

  types_kept : (c d : Context) → At.Known c d → (b i : ℕ) (t : tree.TypeName A) (p : Rewritten (tree.TypeName A)) → RewritesType tells Chosen c b t p → p.losses ≡ [] → Writes c d b t i p.tree
  types_kept c d stand b i t p made none = written_kept tells rows R c d (world c d stand) super_at b t p made none

  -- ---- parts of members

  params_along : (k : MemberKey) → At.Known (no_locals k false) (no_locals (member_in R k) false) → (n b i : ℕ) (ps : List (syntax.Param A)) (q : Rewritten (List (syntax.Param A))) → RewritesParams tells Chosen k n b ps q → q.losses ≡ []
      → AlongParams at_mark at_mark Keeps Writes Supers Parents (member_in R) k b i ps q.tree
  params_along k at n b i [] q is none = ap (λ (x : Rewritten (List (syntax.Param A))). x.tree) is
  params_along k at n b i (p ∷ ps) q (t, v, rest, types, declared, made, is) none =
      let all = lost_none q (joined (λ x xs. x ∷ xs) (joined (λ u w. record { mark = p.mark; is_final = p.is_final; type = u; name = w }) t v) rest) is none in (
        record { mark = p.mark; is_final = p.is_final; type = t.tree; name = v.tree },
        rest.tree,
        ap (λ (x : Rewritten (List (syntax.Param A))). x.tree) is,
        refl,
        types_kept (no_locals k false) (no_locals (member_in R k) false) at _ 0 p.type t types (left_none t.losses v.losses (left_none (t.losses ++ v.losses) rest.losses all)),
        params_along k at (suc n) b i ps rest made (right_none (t.losses ++ v.losses) rest.losses all),
      )

  result_along : (k : MemberKey) → At.Known (no_locals k false) (no_locals (member_in R k) false) → (b i : ℕ) (t : Option (tree.TypeName A)) (q : Rewritten (Option (tree.TypeName A))) → RewritesResult tells Chosen k b t q → q.losses ≡ []
      → AlongResult at_mark at_mark Keeps Writes Supers Parents (member_in R) k b i t q.tree
  result_along k at b i None q is none = ap (λ (x : Rewritten (Option (tree.TypeName A))). x.tree) is
  result_along k at b i (Some t) q (p, made, is) none = (
    p.tree,
    ap (λ (x : Rewritten (Option (tree.TypeName A))). x.tree) is,
    types_kept (no_locals k false) (no_locals (member_in R k) false) at b i t p made (lost_none q (within (λ (u : tree.TypeName A). Some u) p) is none),
  )

  -- the constructor of a written `super(..)`
  super_kept : (c d : Context) (stand : At.Known c d) (args es : tree.Exps A) → ((ts : List Ty) → HaveTypes rows c args ts → HaveTypes (rows_in R) d es (R.types_now c args ts))
      → (h : Choice) → SuperCtorChoice (λ m b. (tells m b).from) rows R (super_at c) c args h → losses_of h ≡ [] → Supers c d args es
  super_kept c d stand args es args_to h (q, ts, finds, types, inl (f, taken, is)) none = (
    q,
    finds,
    one_form (λ f. Binds (rows_in R) (scope_of d) (reference ref.AsAsked [] None (R.types_now c args ts)) (constructor_decl (ctor_in R q)) f → NewFinds)
        (λ (p, over, found). inl (p, over, inl (R.types_now c args ts, args_to ts types, found)))
        taken.place f taken.stands (to_scope tells rows R c d (world c d stand) (reference ref.AsAsked [] None (R.types_now c args ts)) (constructor_decl (ctor_in R q)) f taken.binds),
  )
    where
      NewFinds : Type 0
      NewFinds = SuperCtorFinds (rows_in R) d es (one (constructor_decl (ctor_in R q)))
  super_kept c d stand args es args_to h (q, ts, finds, types, inr (none_binds, (f, found, is))) none = absurd (lost_some _ (sym (ap losses_of is) ∙ none))

  super_along : (c d : Context) → At.Known c d → (b i : ℕ) (args : Option (tree.Exps A)) (q : Rewritten (Option (tree.Exps A))) → TransformsSuper tells Chosen S c b args q → q.losses ≡ []
      → SuperBeside at_mark at_mark Keeps Writes (SpotStands S) L Supers Parents (MembersSpotStands S) (ClassSpotStands S) (member_in R) c d b i args q.tree
  super_along c d stand b i None q is none = ap (λ (x : Rewritten (Option (tree.Exps A))). x.tree) is
  super_along c d stand b i (Some args) q (h, p, spells, made, is) none =
      let all = lost_none q _ is none in
      let inner = right_none (losses_of h) p.losses all in
      let w = world c d stand in (
        p.tree,
        ap (λ (x : Rewritten (Option (tree.Exps A))). x.tree) is,
        super_kept c d stand args p.tree (λ ts have. kept_row tells rows R c d w super_at S (parts c d stand) b args p made inner ts (R.types_now c args ts) (w.args c args ts) have) h spells (left_none (losses_of h) p.losses all),
        along_row tells rows R c d w super_at S (parts c d stand) b i args p made inner,
      )

  -- ---- members

  abbrev SideMember : MemberKey → (b i : ℕ) → syntax.Member A → syntax.Member A → Type 0
  SideMember = MemberBeside at_mark at_mark Keeps Writes (SpotStands S) L Supers Parents (MembersSpotStands S) (ClassSpotStands S) (member_in R)

  body_along : (n : ℕ) (c d : Context) (b i : ℕ) (xs : statement.Stmts A) → At.Lists n n c d xs → (q : Rewritten (statement.Stmts A)) → TransformsList tells Chosen S n c b xs q → q.losses ≡ []
      → ListBeside at_mark at_mark Keeps Writes (SpotStands S) L n n c d b i xs q.tree
  body_along n c d b i xs at q made none = list_side tells rows R super_at S At stands parts worlds L meets n n c d b i xs at q made none (λ x stays. stmts_beside tells rows R super_at S At stands parts worlds L meets n n c d b i xs at stays q x none)

  pub member_along : (k : MemberKey) (b i : ℕ) (x : syntax.Member A) → At.Written k b x → (q : Rewritten (syntax.Member A)) → TransformsMember tells Chosen S k b x q → q.losses ≡ [] → SideMember k b i x q.tree
  member_along k b i (syntax.field m mods t w init) at q (p, v, z, types, declared, made, is) none =
      let all = lost_none q (joined (λ (u : tree.TypeName A × tree.Word A) x. syntax.field m mods u.0 u.1 x) (joined (λ u z. (u, z)) p v) z) is none in (
        m,
        mods,
        p.tree,
        v.tree,
        z.tree,
        ap (λ (x : Rewritten (syntax.Member A)). x.tree) is,
        refl,
        types_kept (no_locals k false) (no_locals (member_in R k) false) (begins.heads k b (syntax.field m mods t w init) false at) _ 0 t p types (left_none p.losses v.losses (left_none (p.losses ++ v.losses) z.losses all)),
        maybe_beside tells rows R super_at S At stands parts worlds L meets (no_locals k (is_static_member at_mark mods)) (no_locals (member_in R k) (is_static_member at_mark mods)) (begins.heads k b (syntax.field m mods t w init) (is_static_member at_mark mods) at) _ _ init z made
            (right_none (p.losses ++ v.losses) z.losses all),
      )
  member_along k b i (syntax.method m mods t w ps body) at o (p, v, q, z, result, declared, params, made, is) none =
      let all = lost_none o (joined (λ (u : Option (tree.TypeName A) × tree.Word A) (x : List (syntax.Param A) × statement.Stmts A). syntax.method m mods u.0 u.1 x.0 x.1) (joined (λ u x. (u, x)) p v) (joined (λ u x. (u, x)) q z)) is none in
      let front = left_none (p.losses ++ v.losses) (q.losses ++ z.losses) all in
      let back = right_none (p.losses ++ v.losses) (q.losses ++ z.losses) all in (
        m,
        mods,
        p.tree,
        v.tree,
        q.tree,
        z.tree,
        ap (λ (x : Rewritten (syntax.Member A)). x.tree) is,
        refl,
        result_along k (begins.heads k b (syntax.method m mods t w ps body) false at) ((tells m b).from) ((tells m i).from) t p result (left_none p.losses v.losses front),
        params_along k (begins.heads k b (syntax.method m mods t w ps body) false at) 0 ((tells m b).from) ((tells m i).from) ps q params (left_none q.losses z.losses back),
        body_along (length ps) (with_parameters k (is_static_member at_mark mods) ps) (with_parameters (member_in R k) (is_static_member at_mark mods) q.tree)
            ((tells m b).from) ((tells m i).from) body (begins.method k b m mods t w ps body q at params) z made (right_none q.losses z.losses back),
      )
  member_along k b i (syntax.constructor m mods w ps args body) at o (v, q, p, z, declared, params, super_part, made, is) none =
      let all = lost_none o (joined (λ (u : tree.Word A × List (syntax.Param A)) (x : Option (tree.Exps A) × statement.Stmts A). syntax.constructor m mods u.0 u.1 x.0 x.1) (joined (λ u x. (u, x)) v q) (joined (λ u x. (u, x)) p z)) is none in
      let front = left_none (v.losses ++ q.losses) (p.losses ++ z.losses) all in
      let back = right_none (v.losses ++ q.losses) (p.losses ++ z.losses) all in (
        m,
        mods,
        v.tree,
        q.tree,
        p.tree,
        z.tree,
        ap (λ (x : Rewritten (syntax.Member A)). x.tree) is,
        refl,
        params_along k (begins.heads k b (syntax.constructor m mods w ps args body) false at) 0 ((tells m b).from) ((tells m i).from) ps q params (right_none v.losses q.losses front),
        super_along (with_parameters k true ps) (with_parameters (member_in R k) true q.tree)
            (begins.super_args k b m mods w ps args body q at params) ((tells m b).from) ((tells m i).from) args p super_part
            (left_none p.losses z.losses back),
        body_along (length ps) (with_parameters k false ps) (with_parameters (member_in R k) false q.tree) ((tells m b).from) ((tells m i).from) body (begins.constructor k b m mods w ps args body q at params) z made
            (right_none p.losses z.losses back),
      )
  member_along k b i (syntax.inner m of) at q made none = absurd made

  -- ---- heads of classes

  one_top : (name : List ℕ) (j k : ClassKey) → TopFinds rows name (one (class_decl j)) → TopFinds rows name (one (class_decl k)) → j ≡ k
  one_top name j k (inl (i, row, is)) (inl (o, other, was)) = cc
  one_top name j k (inl h) (inr (none, was)) = absurd cc
  one_top name j k (inr (none, is)) h = absurd cc

  top_kept : (b : ℕ) (m : A) (w : tree.Word A) (h : Choice) → ParentChoice at_mark rows R None b (tree.named m None w) h → losses_of h ≡ []
      → IsTopKeptIn rows R (tree.named m None w) (tree.named m (qualifier_to m (front_of h) None) (word_to h w))
  top_kept b m w h (k, found, inl (leads, is)) none = (
    m,
    word_to h w,
    ap (λ (x : Choice). tree.named m (qualifier_to m (front_of x) None) (word_to h w)) is ∙ ap (λ front. tree.named m (qualifier_to m front None) (word_to h w)) (renamed_front w.text (class_in R k).name),
    λ j other. subst (λ (x : ClassKey). TopFinds (rows_in R) (text_of h w.text) (one (class_decl (class_in R x)))) (one_top w.text k j found other)
        (subst (λ (name : List ℕ). TopFinds (rows_in R) name (one (class_decl (class_in R k)))) (sym (ap (λ (x : Choice). text_of x w.text) is ∙ renamed_text w.text (class_in R k).name)) leads),
  )
  top_kept b m w h (k, found, inr (not_leads, (f, finds, is))) none = absurd (lost_some _ (sym (ap losses_of is) ∙ none))

  parent_kept : (outer : Option (List ℕ)) → ((o : List ℕ) → outer ≡ Some o → At.Known (no_locals (head (top_key o)) false) (no_locals (member_in R (head (top_key o))) false)) → (b i : ℕ) (t : tree.TypeName A) (p : Rewritten (tree.TypeName A)) → TypeOut tells Chosen (Chosen.parent_qualifier outer b t) (Chosen.parent outer b t) b t p
      → p.losses ≡ [] → Parents outer b t i p.tree
  parent_kept (Some o) at b i t p made none = types_kept (no_locals (head (top_key o)) false) (no_locals (member_in R (head (top_key o))) false) (at o refl) b i t p made none
  parent_kept None at b i (tree.int m) p made none = tt
  parent_kept None at b i (tree.boolean m) p made none = tt
  parent_kept None at b i (tree.named m None w) p (h, spells, is) none = subst (λ (x : Rewritten (tree.TypeName A)). IsTopKeptIn rows R (tree.named m None w) x.tree) (sym is)
      (top_kept b m w h spells (lost_none p (simple_type_out tells h m b w) is none))
  parent_kept None at b i (tree.named m (Some o) w) p (q, h, qualifier, spells, is) none = absurd spells

  parent_along : (outer : Option (List ℕ)) → ((o : List ℕ) → outer ≡ Some o → At.Known (no_locals (head (top_key o)) false) (no_locals (member_in R (head (top_key o))) false)) → (b i : ℕ) (t : Option (tree.TypeName A)) (q : Rewritten (Option (tree.TypeName A))) → RewritesParent tells Chosen outer b t q → q.losses ≡ []
      → AlongParent at_mark at_mark Keeps Writes Supers Parents (member_in R) outer b i t q.tree
  parent_along outer at b i None q is none = ap (λ (x : Rewritten (Option (tree.TypeName A))). x.tree) is
  parent_along outer at b i (Some t) q (p, made, is) none = (
    p.tree,
    ap (λ (x : Rewritten (Option (tree.TypeName A))). x.tree) is,
    parent_kept outer at b i t p made (lost_none q (within (λ (u : tree.TypeName A). Some u) p) is none),
  )

  -- ---- classes and files

  module _ (declarations : List DeclaredItem) (walked : AreWalked tells rows R (choosing (λ m b. (tells m b).from) rows R super_at) S declarations At) where
    abbrev SideClass : (b i : ℕ) → Option (List ℕ) → syntax.Class A → syntax.Class A → Type 0
    SideClass = ClassBeside at_mark at_mark Keeps Writes (SpotStands S) L Supers Parents (MembersSpotStands S) (ClassSpotStands S) (member_in R) declarations

    abbrev SideMembers : (b i : ℕ) → ClassKey → syntax.Members A → syntax.Members A → Type 0
    SideMembers = MembersBeside at_mark at_mark Keeps Writes (SpotStands S) L Supers Parents (MembersSpotStands S) (ClassSpotStands S) (member_in R) declarations

    abbrev SideOne : (b i : ℕ) → ClassKey → syntax.Member A → syntax.Member A → Type 0
    SideOne = OneBeside at_mark at_mark Keeps Writes (SpotStands S) L Supers Parents (MembersSpotStands S) (ClassSpotStands S) (member_in R) declarations

    -- node by node, or as a spot has it
    members_side : (b i : ℕ) (of : ClassKey) (xs : syntax.Members A) (q : Rewritten (syntax.Members A)) (N : Type 0) → OrMembers S b of xs q N → q.losses ≡ [] → (N → MembersStay S b of xs → SideMembers b i of xs q.tree)
        → SideMembers b i of xs q.tree ⊎ MembersSpotStands S b of xs q.tree
    members_side b i of xs q N made none by_node = by S made (λ stays. stays) (λ spot. spot)
      where
        by : (s : Spotted A) → OrMembers s b of xs q N → (MembersStay s b of xs → MembersStay S b of xs) → (MembersSpotStands s b of xs q.tree → MembersSpotStands S b of xs q.tree) → SideMembers b i of xs q.tree ⊎ MembersSpotStands S b of xs q.tree
        by nowhere inner to is = inl (by_node inner (to tt))
        by (spotted s) (inl (stays, inner)) to is = inl (by_node inner (to stays))
        by (spotted s) (inr spot) to is = inr (is (q, spot, none, refl))

    class_side : (b i : ℕ) (outer : Option (List ℕ)) (x : syntax.Class A) (q : Rewritten (syntax.Class A)) (N : Type 0) → OrClass S b outer x q N → q.losses ≡ [] → (N → ClassStays S b outer x → SideClass b i outer x q.tree)
        → SideClass b i outer x q.tree ⊎ ClassSpotStands S b outer x q.tree
    class_side b i outer x q N made none by_node = by S made (λ stays. stays) (λ spot. spot)
      where
        by : (s : Spotted A) → OrClass s b outer x q N → (ClassStays s b outer x → ClassStays S b outer x) → (ClassSpotStands s b outer x q.tree → ClassSpotStands S b outer x q.tree) → SideClass b i outer x q.tree ⊎ ClassSpotStands S b outer x q.tree
        by nowhere inner to is = inl (by_node inner (to tt))
        by (spotted s) (inl (stays, inner)) to is = inl (by_node inner (to stays))
        by (spotted s) (inr spot) to is = inr (is (q, spot, none, refl))

    mutual
      unfolding TransformsClass TransformsMembers TransformsOne ClassBeside MembersBeside OneBeside

      pub class_along : (b i : ℕ) (outer : Option (List ℕ)) (x : syntax.Class A) → At.Classes b outer x → ClassStays S b outer x → (q : Rewritten (syntax.Class A)) → TransformsClass tells Chosen S declarations b outer x q → q.losses ≡ [] → SideClass b i outer x q.tree
      class_along b i outer (syntax.class m mods w t ms) at stays q (p, z, (v, u, declared, parent, word), members, is) none =
          let all = lost_none q (joined (λ (u : tree.Word A × Option (tree.TypeName A)) xs. syntax.class m mods u.0 u.1 xs) p z) is none in
          let front = lost_none p (joined (λ u x. (u, x)) v u) word (left_none p.losses z.losses all) in
          let back = right_none p.losses z.losses all in (
            m,
            mods,
            v.tree,
            u.tree,
            z.tree,
            ap (λ (x : Rewritten (syntax.Class A)). x.tree) is ∙ ap (λ (y : Rewritten (tree.Word A × Option (tree.TypeName A))). syntax.class m mods y.tree.0 y.tree.1 z.tree) word,
            refl,
            parent_along outer (λ o is_in. walked.around b o (syntax.class m mods w t ms) (subst (λ (l : Option (List ℕ)). At.Classes b l (syntax.class m mods w t ms)) is_in at) (subst (λ (l : Option (List ℕ)). ClassStays S b l (syntax.class m mods w t ms)) is_in stays)) ((tells m b).from) ((tells m i).from) t u parent (right_none v.losses u.losses front),
            members_side ((tells m b).from) ((tells m i).from) (class_key at_mark outer w.text) ms z _ members back (λ x there. members_along ((tells m b).from) ((tells m i).from) (class_key at_mark outer w.text) ms (walked.members b outer m mods w t ms at stays) there z x back),
          )

      pub members_along : (b i : ℕ) (of : ClassKey) (xs : syntax.Members A) → At.Members b of xs → MembersStay S b of xs → (q : Rewritten (syntax.Members A)) → TransformsMembers tells Chosen S declarations b of xs q → q.losses ≡ [] → SideMembers b i of xs q.tree
      members_along b i of syntax.end at stays q is none = ap (λ (x : Rewritten (syntax.Members A)). x.tree) is
      members_along b i of (syntax.more x xs) at stays q (p, z, made, rest, is) none =
          let all = lost_none q (joined (λ y ys. syntax.more y ys) p z) is none in let back = right_none p.losses z.losses all in
          (p.tree, z.tree, ap (λ (x : Rewritten (syntax.Members A)). x.tree) is, one_along b i of x xs at stays p made (left_none p.losses z.losses all), members_side b i of xs z _ rest back (λ y there. members_along b i of xs (walked.more b of x xs at stays) there z y back))

      one_along : (b i : ℕ) (of : ClassKey) (x : syntax.Member A) (xs : syntax.Members A) → At.Members b of (syntax.more x xs) → MembersStay S b of (syntax.more x xs) → (q : Rewritten (syntax.Member A)) → TransformsOne tells Chosen S declarations b of x q → q.losses ≡ [] → SideOne b i of x q.tree
      one_along b i of (syntax.inner m c) xs at stays q (p, made, is) none = let all = lost_none q (within (λ d. syntax.inner m d) p) is none in
          (m, p.tree, ap (λ (x : Rewritten (syntax.Member A)). x.tree) is, class_side ((tells m b).from) ((tells m i).from) (Some of.name) c p _ made all (λ x there. class_along ((tells m b).from) ((tells m i).from) (Some of.name) c (walked.inner b of m c xs at stays) there p x all))
      one_along b i of (syntax.field m mods t w init) xs at stays q (k, declares, made) none = (k, declares, member_along k b i (syntax.field m mods t w init) (walked.declared b of (syntax.field m mods t w init) xs k at stays declares) q made none)
      one_along b i of (syntax.method m mods t w ps body) xs at stays q (k, declares, made) none = (k, declares, member_along k b i (syntax.method m mods t w ps body) (walked.declared b of (syntax.method m mods t w ps body) xs k at stays declares) q made none)
      one_along b i of (syntax.constructor m mods w ps args body) xs at stays q (k, declares, made) none = (k, declares, member_along k b i (syntax.constructor m mods w ps args body) (walked.declared b of (syntax.constructor m mods w ps args body) xs k at stays declares) q made none)

    classes_along : (b i : ℕ) (cs : List (syntax.Class A)) → AllWalked At b cs → (q : Rewritten (List (syntax.Class A))) → TransformsClasses tells Chosen S declarations b cs q → q.losses ≡ []
        → ClassesBeside at_mark at_mark Keeps Writes (SpotStands S) L Supers Parents (MembersSpotStands S) (ClassSpotStands S) (member_in R) declarations b i cs q.tree
    classes_along b i [] at q is none = ap (λ (x : Rewritten (List (syntax.Class A))). x.tree) is
    classes_along b i (c ∷ cs) at q (p, z, made, rest, is) none =
        let all = lost_none q (joined (λ d ds. d ∷ ds) p z) is none in let front = left_none p.losses z.losses all in
        (p.tree, z.tree, ap (λ (x : Rewritten (List (syntax.Class A))). x.tree) is, class_side b i None c p _ made front (λ x stays. class_along b i None c at.0 stays p x front), classes_along b i cs at.1 z rest (right_none p.losses z.losses all))

    -- a whole file
    pub unit_along : (u : syntax.Unit A) → AllWalked At ((tells u.mark 0).from) u.classes → (q : Rewritten (syntax.Unit A)) → TransformsUnit tells Chosen S declarations u q → q.losses ≡ []
        → UnitBeside at_mark at_mark Keeps Writes (SpotStands S) L Supers Parents (MembersSpotStands S) (ClassSpotStands S) (member_in R) declarations u q.tree
    unit_along u at q (p, made, is) none =
        subst (λ (x : Rewritten (syntax.Unit A)). UnitBeside at_mark at_mark Keeps Writes (SpotStands S) L Supers Parents (MembersSpotStands S) (ClassSpotStands S) (member_in R) declarations u x.tree) (sym is)
        (classes_along ((tells u.mark 0).from) ((tells u.mark 0).from) u.classes at p made (lost_none q (within (λ cs. record { mark = u.mark; package_name = u.package_name; classes = cs }) p) is none))
