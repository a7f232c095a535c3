-- Heads of classes and of members are rewritten to themselves, and so are initializers of fields:
-- each of their words may stay, and one thing is chosen for it.
use Rattle.std.proofs.Common.{◌≡◌, ℕ, suc, List, [], ◌∷◌, Option, Some, None, Bool, true, false, refl, ap, subst, ◌∙◌, inl, inr}
use Rattle.jr_text.specs.declared.spans.Span.{Span}
use Rattle.jr_ast.specs.Tree as tree
use Rattle.jr_ast.specs.StatementTree as statement
use Rattle.jr_ast.specs.MemberTree as syntax
use Rattle.jr_grammar.specs.Layout.{itself}
use Rattle.jr_table.specs.declared.rules.Rule.TheVariants as rule
use Rattle.jr_table.specs.Keys.{ClassKey}
use Rattle.jr_table.specs.Prelude.{top_key}
use Rattle.jr_table.specs.Decls.{MemberKey, head, Decl, class_decl, local_decl}
use Rattle.jr_table.specs.Found.{Found, not_accessible}
use Rattle.jr_table.specs.LookupLaws.{KeysFound, OneAnswer}
use Rattle.jr_table.specs.BindingLaws.{AreBound}
use Rattle.jr_table.specs.Context.{Context, scope_of}
use Rattle.jr_table.specs.Binding.{Role}
use Rattle.jr_table.specs.HeadRules.{plain as no_locals, is_static_member, ParamsRefer, MaybeTypeRefers, ParentRefers, HeadRefers}
use Rattle.jr_table.specs.DeclaredItems.{class_key}
use Rattle.jr_table.specs.Errors.{Part, class_part, member_part}
use Rattle.jr_members.specs.WrittenMembers.{WrittenMember}
use Rattle.jr_members.specs.WrittenLaws.{IsWritten, MembersAreWritten}
use Rattle.jr_bind.specs.Programs.{Program, IsProgram, units_of}
use Rattle.jr_bind.specs.SuperPlaces.{writes_super}
use Rattle.jr_program_laws.specs.FoundTypes.{MaybeTypeIsFound, ParamTypesAreFound, MaybeParentIsFound, ParentIsFound}
use Rattle.jr_rewrite.specs.Respellings.{stays}
use Rattle.jr_rewrite.specs.Rewritten.{Rewritten, plain}
use Rattle.jr_rewrite.specs.Spots.{Asks, Spotted}
use Rattle.jr_rewrite.specs.Rewrites.{Choosing, declared_by, DeclaredOut, RewritesType, RewritesParams, RewritesResult, RewritesParent, RewritesHead, TransformsMaybe, TransformsMember}
use Rattle.jr_images.specs.TextLaws.{RowsAreNamed}
use Rattle.jr_kept_references.specs.MembersAlong.{MembersStay, ClassStays}
use Rattle.jr_plan.specs.Transforms.{Transform, choosing_of}
use Rattle.jr_new_files.specs.PartLaws.{WrittenAreSound, IsSoundMember}
use Rattle.jr_new_files.proofs.NothingBroken.{TypeMeans, found_means}
use Rattle.jr_local_texts.proofs.KeptNames.{rows_undotted}
use Rattle.jr_one_plans.proofs.RegionsAgree.{regions_agree}
use Rattle.jr_one_plans.proofs.OneSpot.{SpottedAgree}
use Rattle.jr_one_plans.proofs.OneTree.{Agree, word_one, type_out, type_one, maybe_one}
use Rattle.jr_one_plans.proofs.DoAlike.{MakeAlike}
use Rattle.jr_bodies.specs.Bodies.{begins}
use Rattle.jr_untouched_parts.specs.Sights.{KeepsKeys, SeesTheSame}
use Rattle.jr_untouched_parts.specs.Staying.{PartStays, ThisStays, Beside, GoesDown, MayStay}
use Rattle.jr_untouched_parts.proofs.TypesStay.{ParentMeans}
use Rattle.jr_untouched_parts.proofs.SoundWords.{Keeps, BrokenExp, BrokenStmt, BrokenList, declared_stays, written_stays, superclass_stays, itself_stays, local_type_stays}
use Rattle.jr_untouched_parts.proofs.TreesStay.{type_stays, maybe_stays}
use Rattle.jr_untouched_parts.proofs.MembersStay.{SoundMember, by_key}

-- what this stands on
pub record Laws : Type 0 where
  pub written : MembersAreWritten Span
  pub sound : WrittenAreSound
  pub keys : KeysFound
  pub one : OneAnswer
  pub bound : AreBound Span
  pub named : RowsAreNamed Span

-- Keys and rows stay, and places without locals see what they saw; no expression, no members and no
-- class have to be used as a spot.
pub record LeavesHeads (p : Program Span) (t : Transform) : Type 0 where
  pub keys : KeepsKeys p.rows t.region
  pub sees : (k : MemberKey) (b : Bool) → SeesTheSame t.region (no_locals k b)
  pub part : (n : ℕ) (k : Asks) (c : Context) (r : Role) (base : ℕ) (e : tree.Exp Span) → PartStays (t.spots n) k c r base e
  pub this : (n : ℕ) → ThisStays (t.spots n)
  pub members : (n base : ℕ) (of : ClassKey) (xs : syntax.Members Span) → MembersStay (t.spots n) base of xs
  pub whole : (n base : ℕ) (outer : Option (List ℕ)) (c : syntax.Class Span) → ClassStays (t.spots n) base outer c

-- a member that is no class is as it was, but for a body and the arguments of a written `super(..)`
abbrev pub Kept : syntax.Member Span → syntax.Member Span → Type 0
Kept (syntax.field m mods t w init) y = y ≡ syntax.field m mods t w init
Kept (syntax.method m mods t w ps body) y = (z : statement.Stmts Span) × (y ≡ syntax.method m mods t w ps z)
Kept (syntax.constructor m mods w ps args body) y = (a : Option (tree.Exps Span)) × (z : statement.Stmts Span) × (y ≡ syntax.constructor m mods w ps a z)
Kept (syntax.inner m c) y = Unit {0}

module _ (laws : Laws) (p : Program Span) (program : IsProgram itself (λ m b. Unit {0}) p) (t : Transform) (leaves : LeavesHeads p t) (alike : MakeAlike t t) where
  abbrev sup : Context → ℕ
  sup c = p.super_at c.member

  abbrev C : Choosing Span
  C = choosing_of p t

  pub keeps : Keeps Span p.rows t.region
  keeps = record {
    are = program.are_rows;
    found = laws.keys p.rows program.are_rows;
    bound = λ c. laws.bound p.rows program.are_rows (laws.keys p.rows program.are_rows) c;
    dots = rows_undotted laws.named p program;
    keys = leaves.keys;
  }

  abbrev Fine : MemberKey → Part Span → Type 0
  Fine k part = writes_super part ≡ true → p.super_at k ≡ p.super_at k

  agree : Agree Fine C C
  agree = regions_agree p.rows program.are_rows (laws.one p.rows program.are_rows) (laws.bound p.rows program.are_rows (laws.keys p.rows program.are_rows)) t.region alike.seen t.region alike.regions p.super_at p.super_at

  module _ (n : ℕ) where
    abbrev S : Spotted Span
    S = t.spots n

    spots : SpottedAgree S S
    spots = alike.spots n

    -- ---- words

    word_kept : (d : Decl) (at : ℕ) (w : tree.Word Span) (v : Rewritten (tree.Word Span)) → DeclaredOut itself C d at w v → v ≡ plain w
    word_kept d at w v made = word_one itself Fine C C S S agree spots d at w v (plain w) made (stays, declared_stays begins p.rows sup t.region keeps d w, refl)

    module _ (k : MemberKey) where
      abbrev c0 : Context
      c0 = no_locals k false

      type_kept : (base : ℕ) (u : tree.TypeName Span) → TypeMeans p.rows (scope_of c0) u → (o : Rewritten (tree.TypeName Span)) → RewritesType itself C c0 base u o → o ≡ plain u
      type_kept base u means o made =
          type_one itself Fine C C S S agree spots c0 base u o (plain u) made (type_stays itself C (C.qualifier c0 base u) (C.type c0 base u) base u (written_stays begins p.rows sup t.region keeps c0 (leaves.sees k false) base u means))

      result_kept : (base : ℕ) (u : Option (tree.TypeName Span)) → MaybeTypeIsFound p.rows (scope_of c0) u → ((at : ℕ) (d : Decl) → MaybeTypeRefers begins p.rows c0 base u at (not_accessible d) → ⊥) → (o : Rewritten (Option (tree.TypeName Span)))
          → RewritesResult itself C k base u o → o.tree ≡ u
      result_kept base None found seen o made = ap (λ (x : Rewritten (Option (tree.TypeName Span))). x.tree) made
      result_kept base (Some u) found seen o (q, typed, is) =
          ap (λ (x : Rewritten (Option (tree.TypeName Span))). x.tree) is ∙ ap (λ (x : Rewritten (tree.TypeName Span)). Some x.tree) (type_kept base u (found_means begins p.rows c0 base u found seen) q typed)

      params_kept : (j base : ℕ) (ps : List (syntax.Param Span)) → ParamTypesAreFound p.rows (scope_of c0) ps → ((at : ℕ) (d : Decl) → ParamsRefer begins p.rows c0 base ps at (not_accessible d) → ⊥) → (o : Rewritten (List (syntax.Param Span)))
          → RewritesParams itself C k j base ps o → o.tree ≡ ps
      params_kept j base [] found seen o made = ap (λ (x : Rewritten (List (syntax.Param Span))). x.tree) made
      params_kept j base (q ∷ qs) found seen o (u, v, rest, typed, named, more, is) =
          let a = type_kept (begins q.mark base) q.type (found_means begins p.rows c0 (begins q.mark base) q.type found.0 (λ at d h. seen at d (inl h))) u typed in
          let b = word_kept (local_decl (record { member = k; number = j })) (begins q.mark base) q.name v named in
          let c = params_kept (suc j) base qs found.1 (λ at d h. seen at d (inr h)) rest more in
          ap (λ (x : Rewritten (List (syntax.Param Span))). x.tree) is ∙ (λ i. record { mark = q.mark; is_final = q.is_final; type = (a i).tree; name = (b i).tree } ∷ c i)

    -- ---- initializers

    -- where no statement is
    abbrev alone : Beside Span
    alone = record { Here = λ c. SeesTheSame t.region c; Declares = λ i. ⊥; Single = λ s. ⊥; Lists = λ b. ⊥ }

    alone_down : GoesDown alone
    alone_down = record {
      to_own = λ c i f u w h d. absurd d;
      to_behind = λ c i f u w h d. absurd d;
      to_then = λ m e x o h. h;
      to_other = λ m e x y h. h;
      to_body = λ m e x h. h;
      to_block = λ m b h. h;
      to_lock = λ m e b h. h;
      to_first = λ x xs h. h;
      to_rest = λ x xs h. h;
    }

    alone_stays : MayStay begins C S (BrokenExp begins p.rows sup) (BrokenStmt begins p.rows sup) alone
    alone_stays = record {
      own_words = λ c r base e h sound. itself_stays begins p.rows sup t.region keeps c h r base e sound;
      written = λ i c base m f u w e h sound. local_type_stays begins p.rows sup t.region keeps c h i base m f u w e sound;
      declared = λ c i w h d. absurd d;
      part = λ k c r base e h. leaves.part n k c r base e;
      list = λ i c base xs h l. absurd l;
      this = leaves.this n;
    }

    module _ (k : MemberKey) (base : ℕ) (m : Span) (mods : List (syntax.Modifier Span)) (u : tree.TypeName Span) (w : tree.Word Span) where
      abbrev c1 : Context
      c1 = no_locals k (is_static_member begins mods)

      init_kept : (init : Option (tree.Exp Span)) → SoundMember p.rows p.super_at t.region keeps k base (syntax.field m mods u w init) → (o : Rewritten (Option (tree.Exp Span))) → TransformsMaybe itself C S c1 (begins m base) init o → o.tree ≡ init
      init_kept None sound o made = ap (λ (x : Rewritten (Option (tree.Exp Span))). x.tree) made
      init_kept (Some e) sound o made =
          ap (λ (x : Rewritten (Option (tree.Exp Span))). x.tree)
          (maybe_one itself Fine C C S S agree spots c1 (begins m base) (Some e) o (plain (Some e)) made
          (maybe_stays itself C S (BrokenExp begins p.rows sup) (BrokenStmt begins p.rows sup) (BrokenList begins p.rows sup) alone alone_down alone_stays c1 (leaves.sees k (is_static_member begins mods)) (begins m base) (Some e) (λ i z. sound i.at i.rule (inr z))))

    -- ---- superclasses

    parent_means : (outer : Option (List ℕ)) (base : ℕ) (u : tree.TypeName Span) → ParentIsFound p.rows outer u → ((at : ℕ) (d : Decl) → ParentRefers begins p.rows outer base u at (not_accessible d) → ⊥) → ParentMeans begins p.rows keeps.dots t.region outer u
    parent_means (Some o) base u found seen = found_means begins p.rows (no_locals (head (top_key o)) false) base u found seen
    parent_means None base (tree.int m) found seen = absurd found
    parent_means None base (tree.boolean m) found seen = absurd found
    parent_means None base (tree.named m None w) found seen = found
    parent_means None base (tree.named m (Some v) w) found seen = absurd found

    abbrev MaybeRefers : Option (List ℕ) → (base : ℕ) → Option (tree.TypeName Span) → (at : ℕ) → Found → Type 0
    MaybeRefers outer base None at f = ⊥
    MaybeRefers outer base (Some u) at f = ParentRefers begins p.rows outer base u at f

    parent_kept : (outer : Option (List ℕ)) (base : ℕ) (u : Option (tree.TypeName Span)) → MaybeParentIsFound p.rows outer u → ((at : ℕ) (d : Decl) → MaybeRefers outer base u at (not_accessible d) → ⊥) → (o : Rewritten (Option (tree.TypeName Span)))
        → RewritesParent itself C outer base u o → o.tree ≡ u
    parent_kept outer base None found seen o made = ap (λ (x : Rewritten (Option (tree.TypeName Span))). x.tree) made
    parent_kept outer base (Some u) found seen o (q, typed, is) =
        let means = parent_means outer base u found seen in
        let here = type_stays itself C (C.parent_qualifier outer base u) (C.parent outer base u) base u (superclass_stays begins p.rows sup t.region keeps outer (λ x. leaves.sees (head (top_key x)) false) base u means) in
        ap (λ (x : Rewritten (Option (tree.TypeName Span))). x.tree) is
        ∙ ap (λ (x : Rewritten (tree.TypeName Span)). Some x.tree)
        (type_out itself Fine C C S S agree spots (C.parent_qualifier outer base u) (C.parent_qualifier outer base u) (C.parent outer base u) (C.parent outer base u) (agree.parent_qualifier outer base u) (agree.parent outer base u) base u q (plain u) typed here)

    -- ---- what the file writes

    abbrev pub Good : MemberKey → (base : ℕ) → Part Span → Type 0
    Good k base part = IsWritten begins (units_of p) n k base part

    abbrev SoundAt : MemberKey → (base : ℕ) → Part Span → Type 0
    SoundAt k base part = (row : ℕ) × IsSoundMember p (record { file = n; key = k; row = row; base = base; part = part })

    sound_at : (k : MemberKey) (base : ℕ) (part : Part Span) → Good k base part → SoundAt k base part
    sound_at k base part is =
        let a = (laws.written begins (units_of p) p.rows program.are_rows program.rows).all n k base part is in
        (a.0.row, subst (λ (w : WrittenMember Span). IsSoundMember p w) (λ i. record { file = a.2 i; key = a.3 i; row = a.0.row; base = a.4 i; part = a.5 i }) (laws.sound p program a.0 a.1))

    sound_member : (k : MemberKey) (base : ℕ) (y : syntax.Member Span) → SoundAt k base (member_part y) → SoundMember p.rows p.super_at t.region keeps k base y
    sound_member k base y s = by_key p.rows p.super_at t.region keeps k base y (λ at r h. s.1.sound at r h)

    pub head_kept : (outer : Option (List ℕ)) (base : ℕ) (m : Span) (mods : List (syntax.Modifier Span)) (w : tree.Word Span) (u : Option (tree.TypeName Span)) (ms : syntax.Members Span)
        → Good (head (class_key begins outer w.text)) base (class_part (syntax.class m mods w u ms)) → (o : Rewritten (tree.Word Span × Option (tree.TypeName Span))) → RewritesHead itself C outer base (syntax.class m mods w u ms) o → (o.tree.0 ≡ w) × (o.tree.1 ≡ u)
    head_kept outer base m mods w u ms good o (v, q, named, parent, is) =
        let s = sound_at (head (class_key begins outer w.text)) base (class_part (syntax.class m mods w u ms)) good in
        let a = word_kept (class_decl (class_key begins outer w.text)) (begins m base) w v named in
        let b = parent_kept outer (begins m base) u s.1.found (λ at d h. s.1.sound at rule.Private (d, refers u at (not_accessible d) h)) q parent in (
          ap (λ (x : Rewritten (tree.Word Span × Option (tree.TypeName Span))). x.tree.0) is ∙ ap (λ (x : Rewritten (tree.Word Span)). x.tree) a,
          ap (λ (x : Rewritten (tree.Word Span × Option (tree.TypeName Span))). x.tree.1) is ∙ b,
        )
      where
        refers : (z : Option (tree.TypeName Span)) (at : ℕ) (f : Found) → MaybeRefers outer (begins m base) z at f → HeadRefers begins p.rows (class_key begins outer w.text) base (syntax.class m mods w z ms) at f
        refers None at f h = absurd h
        refers (Some z) at f h = h

    pub member_kept : (k : MemberKey) (base : ℕ) (y : syntax.Member Span) → Good k base (member_part y) → (o : Rewritten (syntax.Member Span)) → TransformsMember itself C S k base y o → Kept y o.tree
    member_kept k base (syntax.field m mods u w init) good o (q, v, z, typed, named, value, is) =
        let s = sound_at k base (member_part (syntax.field m mods u w init)) good in
        let sound = sound_member k base (syntax.field m mods u w init) s in
        let a = type_kept k (begins m base) u (found_means begins p.rows (no_locals k false) (begins m base) u s.1.found (λ at d h. sound at rule.Private (inl (d, h)))) q typed in
        let b = word_kept (declared_by k) (begins m base) w v named in
        let c = init_kept k base m mods u w init sound z value in
        ap (λ (x : Rewritten (syntax.Member Span)). x.tree) is ∙ (λ i. syntax.field m mods (a i).tree (b i).tree (c i))
    member_kept k base (syntax.method m mods u w ps body) good o (q, v, r, z, typed, named, params, inside, is) =
        let s = sound_at k base (member_part (syntax.method m mods u w ps body)) good in
        let sound = sound_member k base (syntax.method m mods u w ps body) s in
        let a = result_kept k (begins m base) u s.1.found.0 (λ at d h. sound at rule.Private (inl (d, inl h))) q typed in
        let b = word_kept (declared_by k) (begins m base) w v named in
        let c = params_kept k 0 (begins m base) ps s.1.found.1 (λ at d h. sound at rule.Private (inl (d, inr h))) r params in
        (z.tree, ap (λ (x : Rewritten (syntax.Member Span)). x.tree) is ∙ (λ i. syntax.method m mods (a i) (b i).tree (c i) z.tree))
    member_kept k base (syntax.constructor m mods w ps args body) good o (v, r, q, z, named, params, super, inside, is) =
        let s = sound_at k base (member_part (syntax.constructor m mods w ps args body)) good in
        let sound = sound_member k base (syntax.constructor m mods w ps args body) s in
        let b = word_kept (declared_by k) (begins m base) w v named in
        let c = params_kept k 0 (begins m base) ps s.1.found (λ at d h. sound at rule.Private (inl (d, inl h))) r params in
        (q.tree, z.tree, ap (λ (x : Rewritten (syntax.Member Span)). x.tree) is ∙ (λ i. syntax.constructor m mods (b i).tree (c i) q.tree z.tree))
    member_kept k base (syntax.inner m c) good o made = tt
