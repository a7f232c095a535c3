-- Members stay, and the heads of classes.
use Rattle.std.proofs.Common.{◌≡◌, ℕ, suc, List, [], ◌∷◌, length, Option, Some, None, true, false, refl, sym, ap, subst, inl, inr}
use Rattle.std.specs.Prelude.{◌⊎◌}
use Rattle.jr_text.specs.declared.spans.Span.{Span}
use Rattle.jr_ast.specs.Tree as tree
use Rattle.jr_ast.specs.StatementTree as statement
use Rattle.jr_ast.specs.MemberTree as syntax
use Rattle.jr_table.specs.declared.rules.Rule.{Rule}
use Rattle.jr_table.specs.declared.rules.Rule.TheVariants as rule
use Rattle.jr_table.specs.Keys.{ClassKey}
use Rattle.jr_table.specs.Decls.{MemberKey, head, field, method, constructor, class_decl, local_decl}
use Rattle.jr_table.specs.Rows.{Row}
use Rattle.jr_table.specs.Prelude.{top_key}
use Rattle.jr_table.specs.Entries.{class_of_member}
use Rattle.jr_table.specs.Found.{Found, not_accessible}
use Rattle.jr_table.specs.Context.{Context, scope_of}
use Rattle.jr_table.specs.HeadRules.{plain as no_locals, with_parameters, is_static_member, ParamsRefer, MaybeTypeRefers, ParentRefers, HeadRefers, DeclarationBreaks}
use Rattle.jr_table.specs.DeclaredItems.{class_key}
use Rattle.jr_table.specs.ExpressionRules.{ExpBreaks}
use Rattle.jr_table.specs.StatementRules.{StmtBreaks, ListBreaks}
use Rattle.jr_table.specs.Errors.{Part, class_part, member_part, Breaks, InMember}
use Rattle.jr_mentions.specs.Apart.{IsCleanMember}
use Rattle.jr_mentions.specs.Avoids.{AvoidsMember, AvoidsArgs, AvoidsPart}
use Rattle.jr_program_laws.specs.FoundTypes.{MaybeTypeIsFound, ParamTypesAreFound, MaybeParentIsFound, ParentIsFound, DeclaresFound}
use Rattle.jr_rewrite.specs.Respellings.{stays}
use Rattle.jr_rewrite.specs.Rewritten.{plain, within, joined}
use Rattle.jr_rewrite.specs.Rewrites.{declared_by, with_losses, RewritesType, RewritesParams, RewritesResult, RewritesSuper, RewritesMember, RewritesParent, RewritesHead}
use Rattle.jr_images.specs.Images.{Renaming, is_renamed}
use Rattle.jr_new_bodies.specs.Effects.{no_effect}
use Rattle.jr_new_files.specs.Files.{PartGives}
use Rattle.jr_new_files.specs.Spared.{IsKeyed}
use Rattle.jr_new_files.proofs.ImagesStay.{within_plain, within_parameters, scope_same}
use Rattle.jr_new_files.proofs.Unmoved.{GivesNothing, both_none}
use Rattle.jr_new_files.proofs.Passing.{Known}
use Rattle.jr_new_files.proofs.NothingBroken.{TypeMeans, found_means}
use Rattle.jr_new_files.proofs.WordsOfTypes.{ParentMeans, type_stays, parent_stays}
use Rattle.jr_new_files.proofs.WordsOfCalls.{super_ctor_stays}
use Rattle.jr_new_files.proofs.TreesStay.{C, row_stays}
use Rattle.jr_new_files.proofs.BodiesStay.{declared_stays, maybe_stays, stmts_stay}

module _ {A : Type 0} (tells : A → ℕ → Span) (rows : List Row) (g : Renaming) (names : List (List ℕ)) (k : MemberKey) (known : Known A rows g names k) (super_at : MemberKey → ℕ) where
  abbrev begins : A → ℕ → ℕ
  begins m base = (tells m base).from

  abbrev at_super : Context → ℕ
  at_super c = super_at c.member

  abbrev c0 : Context
  c0 = no_locals k false

  declared_type : (base : ℕ) (t : tree.TypeName A) → TypeMeans rows (scope_of c0) t → GivesNothing (λ o. RewritesType tells (C tells rows g names k known at_super) c0 base t o)
  declared_type base t means = type_stays tells rows g names k known at_super c0 (scope_same g names k known.spared known.own c0 (within_plain k false)) base t means

  result_stays : (base : ℕ) (t : Option (tree.TypeName A)) → MaybeTypeIsFound rows (scope_of c0) t → ((at : ℕ) (d : _) → MaybeTypeRefers begins rows c0 base t at (not_accessible d) → ⊥)
      → GivesNothing (λ o. RewritesResult tells (C tells rows g names k known at_super) k base t o)
  result_stays base None found seen = (plain None, refl, refl)
  result_stays base (Some t) found seen = let p = declared_type base t (found_means begins rows c0 base t found seen) in (within (λ (u : tree.TypeName A). Some u) p.0, (p.0, p.1, refl), p.2)

  params_stay : (n base : ℕ) (ps : List (syntax.Param A)) → ParamTypesAreFound rows (scope_of c0) ps → ((at : ℕ) (d : _) → ParamsRefer begins rows c0 base ps at (not_accessible d) → ⊥)
      → GivesNothing (λ o. RewritesParams tells (C tells rows g names k known at_super) k n base ps o)
  params_stay n base [] found seen = (plain [], refl, refl)
  params_stay n base (p ∷ ps) found seen =
      let t = declared_type (begins p.mark base) p.type (found_means begins rows c0 (begins p.mark base) p.type found.0 (λ at d h. seen at d (inl h))) in
      let v = declared_stays tells rows g names k known at_super (local_decl (record { member = k; number = n })) (begins p.mark base) p.name (known.spared.local n) in
      let q = params_stay (suc n) base ps found.1 (λ at d h. seen at d (inr h)) in (
        joined (λ x xs. x ∷ xs) (joined (λ u w. record { mark = p.mark; is_final = p.is_final; type = u; name = w }) t.0 v.0) q.0,
        (t.0, v.0, q.0, t.1, v.1, q.1, refl),
        both_none (both_none t.2 v.2) q.2,
      )

  -- the member's name
  name_kept : (j : MemberKey) → IsCleanMember names j → is_renamed g (declared_by j) ≡ false
  name_kept (head q) own = known.spared.class q
  name_kept (field q) own = known.spared.field q own
  name_kept (method q) own = known.spared.method q own
  name_kept (constructor q) own = known.spared.class q.class

  -- ---- members

  -- no rule is broken in it
  abbrev SoundMember : (base : ℕ) → syntax.Member A → Type 0
  SoundMember base x = (at : ℕ) (r : Rule) → (DeclarationBreaks begins rows (super_at k) k base x at r
      ⊎ InMember begins (λ d o b y. ExpBreaks begins rows d o b y at r) (λ n d b s. StmtBreaks begins rows n d b s at r) (λ b ss. ListBreaks begins b ss at r) k base x) → ⊥

  super_stays : (base : ℕ) (m : A) (mods : List (syntax.Modifier A)) (w : tree.Word A) (ps : List (syntax.Param A)) (args : Option (tree.Exps A)) (body : statement.Stmts A) → SoundMember base (syntax.constructor m mods w ps args body) → AvoidsArgs names args
      → GivesNothing (λ o. RewritesSuper tells (C tells rows g names k known at_super) (with_parameters k true ps) (begins m base) args o)
  super_stays base m mods w ps None body sound avoids = (plain None, refl, refl)
  super_stays base m mods w ps (Some args) body sound avoids =
      let c = with_parameters k true ps in
      let inside = within_parameters k true ps in
      let h = super_ctor_stays begins rows g names k known c inside (super_at k) args (λ x. sound (super_at k) rule.NoMethod (inl (refl, x))) (λ d e x. sound (super_at k) rule.Ambiguous (inl (refl, (d, e, x)))) (λ d x. sound (super_at k) rule.Private (inl (d, inr (refl, x)))) in
      let p = row_stays tells rows g names k known at_super c inside (begins m base) args (λ x y z. sound x y (inr (inl z))) avoids in (
        with_losses tells (C tells rows g names k known at_super) stays (within (λ (xs : tree.Exps A). Some xs) p.0),
        (stays, p.0, h, p.1, refl),
        both_none refl p.2,
      )

  pub member_stays : (base : ℕ) (x : syntax.Member A) → SoundMember base x → AvoidsMember names x → DeclaresFound rows k (member_part x) → GivesNothing (λ o. RewritesMember tells (C tells rows g names k known at_super) k base x o)
  member_stays base (syntax.field m mods t w init) sound avoids found =
      let c = no_locals k (is_static_member begins mods) in
      let p = declared_type (begins m base) t (found_means begins rows c0 (begins m base) t found (λ at d h. sound at rule.Private (inl (d, h)))) in
      let v = declared_stays tells rows g names k known at_super (declared_by k) (begins m base) w (name_kept k known.own) in
      let q = maybe_stays tells rows g names k known at_super c (within_plain k (is_static_member begins mods)) (begins m base) init (λ x y z. sound x y (inr z)) avoids in (
        joined (λ (u : tree.TypeName A × tree.Word A) x. syntax.field m mods u.0 u.1 x) (joined (λ u z. (u, z)) p.0 v.0) q.0,
        (p.0, v.0, q.0, p.1, v.1, q.1, refl),
        both_none (both_none p.2 v.2) q.2,
      )
  member_stays base (syntax.method m mods t w ps body) sound avoids found =
      let c = with_parameters k (is_static_member begins mods) ps in
      let p = result_stays (begins m base) t found.0 (λ at d h. sound at rule.Private (inl (d, inl h))) in
      let v = declared_stays tells rows g names k known at_super (declared_by k) (begins m base) w (name_kept k known.own) in
      let q = params_stay 0 (begins m base) ps found.1 (λ at d h. sound at rule.Private (inl (d, inr h))) in
      let z = stmts_stay tells rows g names k known at_super (length ps) c (within_parameters k (is_static_member begins mods) ps) (begins m base) body (λ x y h. sound x y (inr (inr h))) avoids in (
        joined (λ (u : Option (tree.TypeName A) × tree.Word A) (x : List (syntax.Param A) × statement.Stmts A). syntax.method m mods u.0 u.1 x.0 x.1)
            (joined (λ u x. (u, x)) p.0 v.0) (joined (λ u x. (u, x)) q.0 z.0),
        (p.0, v.0, q.0, z.0, p.1, v.1, q.1, z.1, refl),
        both_none (both_none p.2 v.2) (both_none q.2 z.2),
      )
  member_stays base (syntax.constructor m mods w ps args body) sound avoids found =
      let v = declared_stays tells rows g names k known at_super (declared_by k) (begins m base) w (name_kept k known.own) in
      let q = params_stay 0 (begins m base) ps found (λ at d h. sound at rule.Private (inl (d, inl h))) in
      let p = super_stays base m mods w ps args body sound avoids.0 in
      let z = stmts_stay tells rows g names k known at_super (length ps) (with_parameters k false ps) (within_parameters k false ps) (begins m base) body (λ x y h. sound x y (inr (inr (inr h)))) avoids.1 in (
        joined (λ (u : tree.Word A × List (syntax.Param A)) (x : Option (tree.Exps A) × statement.Stmts A). syntax.constructor m mods u.0 u.1 x.0 x.1)
            (joined (λ u x. (u, x)) v.0 q.0) (joined (λ u x. (u, x)) p.0 z.0),
        (v.0, q.0, p.0, z.0, v.1, q.1, p.1, z.1, refl),
        both_none (both_none v.2 q.2) (both_none p.2 z.2),
      )
  member_stays base (syntax.inner m of) sound avoids found = absurd avoids

  -- ---- heads of classes

  parent_means : (outer : Option (List ℕ)) (base : ℕ) (t : tree.TypeName A) → ParentIsFound rows outer t → ((at : ℕ) (d : _) → ParentRefers begins rows outer base t at (not_accessible d) → ⊥) → ParentMeans tells rows g names k known at_super outer t
  parent_means (Some o) base t found seen = found_means begins rows (no_locals (head (top_key o)) false) base t found seen
  parent_means None base (tree.int m) found seen = absurd found
  parent_means None base (tree.boolean m) found seen = absurd found
  parent_means None base (tree.named m None w) found seen = found
  parent_means None base (tree.named m (Some v) w) found seen = absurd found

  abbrev MaybeRefers : Option (List ℕ) → (base : ℕ) → Option (tree.TypeName A) → (at : ℕ) → Found → Type 0
  MaybeRefers outer base None at f = ⊥
  MaybeRefers outer base (Some t) at f = ParentRefers begins rows outer base t at f

  superclass_stays : (outer : Option (List ℕ)) (base : ℕ) (t : Option (tree.TypeName A)) → MaybeParentIsFound rows outer t → ((at : ℕ) (d : _) → MaybeRefers outer base t at (not_accessible d) → ⊥)
      → GivesNothing (λ o. RewritesParent tells (C tells rows g names k known at_super) outer base t o)
  superclass_stays outer base None found seen = (plain None, refl, refl)
  superclass_stays outer base (Some t) found seen = parent_stays tells rows g names k known at_super outer base t (parent_means outer base t found seen)

  head_stays : (outer : Option (List ℕ)) (base : ℕ) (m : A) (mods : List (syntax.Modifier A)) (w : tree.Word A) (t : Option (tree.TypeName A)) (ms : syntax.Members A) → MaybeParentIsFound rows outer t
      → ((at : ℕ) (d : _) → MaybeRefers outer (begins m base) t at (not_accessible d) → ⊥) → GivesNothing (λ o. RewritesHead tells (C tells rows g names k known at_super) outer base (syntax.class m mods w t ms) o)
  head_stays outer base m mods w t ms found seen =
      let v = declared_stays tells rows g names k known at_super (class_decl (class_key begins outer w.text)) (begins m base) w (known.spared.class (class_key begins outer w.text)) in
      let p = superclass_stays outer (begins m base) t found seen in
      (joined (λ u x. (u, x)) v.0 p.0, (v.0, p.0, v.1, p.1, refl), both_none v.2 p.2)

  -- what is known of the key of a head
  head_refers : (q : ClassKey) (base : ℕ) (m : A) (mods : List (syntax.Modifier A)) (w : tree.Word A) (t : Option (tree.TypeName A)) (ms : syntax.Members A) (at : ℕ) (f : Found) → MaybeRefers q.outer (begins m base) t at f → HeadRefers begins rows q base (syntax.class m mods w t ms) at f
  head_refers q base m mods w None ms at f h = absurd h
  head_refers q base m mods w (Some t) ms at f h = h

  -- ---- parts

  abbrev SoundPart : MemberKey → (base : ℕ) → Part A → Type 0
  SoundPart j base part = (at : ℕ) (r : Rule) → Breaks begins rows (super_at k) j base part at r → ⊥

  by_key : (j : MemberKey) (base : ℕ) (x : syntax.Member A) → SoundPart j base (member_part x) → (at : ℕ) (r : Rule) → (DeclarationBreaks begins rows (super_at k) j base x at r
      ⊎ InMember begins (λ d o b y. ExpBreaks begins rows d o b y at r) (λ n d b s. StmtBreaks begins rows n d b s at r) (λ b ss. ListBreaks begins b ss at r) j base x) → ⊥
  by_key (head q) base x sound = sound
  by_key (field q) base x sound = sound
  by_key (method q) base x sound = sound
  by_key (constructor q) base x sound = sound

  pub part_gives : (base : ℕ) (part : Part A) → IsKeyed k part → AvoidsPart names part → SoundPart k base part → DeclaresFound rows k part → PartGives tells (C tells rows g names k known at_super) k base part no_effect
  part_gives base (class_part (syntax.class m mods w t ms)) (q, is) avoids sound found =
      let outer : (class_of_member k).outer ≡ q.outer = ap (λ (j : MemberKey). (class_of_member j).outer) is in
      let here : SoundPart (head q) base (class_part (syntax.class m mods w t ms)) = subst (λ (j : MemberKey). SoundPart j base (class_part (syntax.class m mods w t ms))) is sound in
      let p = head_stays (class_of_member k).outer base m mods w t ms found
      (λ at d h. here at rule.Private (d, head_refers q base m mods w t ms at (not_accessible d) (subst (λ (o : Option (List ℕ)). MaybeRefers o (begins m base) t at (not_accessible d)) outer h))) in
      (p.0, p.1, sym p.2)
  part_gives base (member_part x) keyed avoids sound found = let p = member_stays base x (by_key k base x sound) avoids found in (p.0, p.1, sym p.2)
