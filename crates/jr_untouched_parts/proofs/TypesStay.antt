-- Where keys and rows stay, and a place sees what it saw, the names of written types and superclasses
-- may stay.
use Rattle.std.proofs.Common.{◌≡◌, ℕ, List, [], Option, Some, None, false, refl, sym, ap, subst, inl, inr}
use Rattle.std.specs.Cmp.Lexicographic.{bytes_decides}
use Rattle.std.specs.Prelude.{if◌then◌else◌}
use Rattle.jr_ast.specs.Tree as tree
use Rattle.jr_table.specs.Keys.{ClassKey}
use Rattle.jr_table.specs.Decls.{head, class_decl}
use Rattle.jr_table.specs.Rows.{Row}
use Rattle.jr_table.specs.Prelude.{top_key}
use Rattle.jr_table.specs.Entries.{IsRowOf, top_class}
use Rattle.jr_table.specs.Found.{one}
use Rattle.jr_table.specs.Scope.{Scope}
use Rattle.jr_table.specs.Lookup.{FindsTypeNamed, FindsTypeOf}
use Rattle.jr_table.specs.Context.{Context, scope_of}
use Rattle.jr_table.specs.HeadRules.{plain as no_locals, TopFinds}
use Rattle.jr_spell.specs.declared.references.RefForm.TheVariants as ref
use Rattle.jr_spell.specs.declared.spellings.Form.TheVariants.{Asked}
use Rattle.jr_spell.specs.Taken.{IsTaken}
use Rattle.jr_rewrite.specs.Respellings.{stays, same}
use Rattle.jr_images.specs.Regions.{Images, Region}
use Rattle.jr_images.specs.Spelling.{renamed, respelled, reference, dotted, TypeChoice, QualifierChoice, ParentChoice, ParentQualifierChoice}
use Rattle.jr_images.proofs.Dotted.{IsWhole}
use Rattle.jr_local.specs.Scopes.{same_images, scope_with}
use Rattle.jr_local.specs.Soundness.{HaveNoDots}
use Rattle.jr_new_files.proofs.Namesakes.{type_named, inner_named, type_row}
use Rattle.jr_new_files.proofs.AskedBinds.{class_taken, inner_taken}
use Rattle.jr_new_files.proofs.NothingBroken.{TypeMeans}
use Rattle.jr_untouched_parts.specs.Sights.{SeesTheSame}
use Rattle.jr_untouched_parts.specs.Staying.{TypeMayStay}

-- the same name is no other
pub stays_so : (old new : List ℕ) → new ≡ old → stays ≡ renamed old new
stays_so old new e = sym (ap (λ b. if b then stays else respelled new same) ((bytes_decides old new).1 (sym e)))

-- what is seen in a region, with other images
abbrev pub with_images : {A : Type 0} → Region A → Images → Region A
with_images R m = record {
  seen = record { images = m; scope = R.seen.scope; local_to = R.seen.local_to; HasClass = R.seen.HasClass };
  type_now = R.type_now;
  types_now = R.types_now;
  receiver = R.receiver;
}

-- the region with the identity on keys
abbrev pub keeping : {A : Type 0} → List Row → Region A → Region A
keeping rows R = with_images R (same_images rows)

-- what a relation says of the identity on keys, it says of the region that keeps them
pub of_images : {A : Type 0} (rows : List Row) (R : Region A) → R.seen.images ≡ same_images rows → (P : Region A → Type 0) → P (keeping rows R) → P R
of_images rows R keys P x = subst (λ (m : Images). P (with_images R m)) (sym keys) x

module _ {A : Type 0} (begins : A → ℕ → ℕ) (rows : List Row) (dots : HaveNoDots rows) (R : Region A) where
  abbrev Q : Region A
  Q = keeping rows R

  whole : (s : Scope) (name : List ℕ) (q : ClassKey) → FindsTypeNamed rows s name (one (class_decl q)) → IsWhole q.name
  whole s name q h = let j = type_row rows s name q h in dots q j.0 j.1

  named : (s : Scope) (name : List ℕ) (q : ClassKey) → FindsTypeNamed rows s name (one (class_decl q)) → FindsTypeNamed rows s q.name (one (class_decl q))
  named s name q h = subst (λ (n : List ℕ). FindsTypeNamed rows s n (one (class_decl q))) (sym (type_named rows s name q h)) h

  inner : (s : Scope) (o : ClassKey) (name : List ℕ) (q : ClassKey) → FindsTypeOf rows s o name (one (class_decl q)) → FindsTypeOf rows s o q.name (one (class_decl q))
  inner s o name q h = subst (λ (n : List ℕ). FindsTypeOf rows s o n (one (class_decl q))) (sym (inner_named rows s o name q h)) h

  module _ (c : Context) (sees : SeesTheSame R c) where
    here : scope_with c sees.locals ≡ R.seen.scope c
    here = sym sees.scope

    simple_stays : (base : ℕ) (m : A) (w : tree.Word A) → TypeMeans rows (scope_of c) (tree.named m None w) → TypeChoice begins rows Q c base (tree.named m None w) stays
    simple_stays base m w (q, h) =
        let taken = class_taken rows (scope_with c sees.locals) q (whole (scope_of c) w.text q h) (named (scope_of c) w.text q h) in
        let image = subst (λ (s : Scope). IsTaken rows s (reference ref.ClassName q.name None []) (class_decl q) Asked) here taken in
        (q, h, inl (Asked, image, stays_so w.text q.name (type_named rows (scope_of c) w.text q h)))

    inner_stays : (base : ℕ) (m : A) (v w : tree.Word A) → TypeMeans rows (scope_of c) (tree.named m (Some v) w) → TypeChoice begins rows Q c base (tree.named m (Some v) w) stays
    inner_stays base m v w (o, q, h, i) =
        let taken = inner_taken rows (scope_with c sees.locals) o q (whole (scope_of c) v.text o h) (named (scope_of c) v.text o h) (inner (scope_of c) o w.text q i) in
        let image = subst (λ (s : Scope). IsTaken rows s (reference ref.ClassName (dotted o.name q.name) None []) (class_decl q) Asked) here taken in
        (o, q, h, i, inl (Asked, image, stays_so w.text q.name (inner_named rows (scope_of c) o w.text q i)))

    qualifier_stays : (base : ℕ) (m : A) (v w : tree.Word A) → TypeMeans rows (scope_of c) (tree.named m (Some v) w) → QualifierChoice begins rows Q c base (tree.named m (Some v) w) stays
    qualifier_stays base m v w (o, q, h, i) =
        let leads = subst (λ (s : Scope). FindsTypeNamed rows s o.name (one (class_decl o))) here (named (scope_of c) v.text o h) in
        (o, h, inl (leads, stays_so v.text o.name (type_named rows (scope_of c) v.text o h)))

    -- a written type
    pub type_stays : (base : ℕ) (t : tree.TypeName A) → TypeMeans rows (scope_of c) t → TypeMayStay (QualifierChoice begins rows Q c base t) (TypeChoice begins rows Q c base t) t
    type_stays base (tree.int m) h = tt
    type_stays base (tree.boolean m) h = tt
    type_stays base (tree.named m None w) h = simple_stays base m w h
    type_stays base (tree.named m (Some v) w) h = (qualifier_stays base m v w h, inner_stays base m v w h)

  -- ---- superclasses

  -- each name finds its class
  abbrev pub ParentMeans : Option (List ℕ) → tree.TypeName A → Type 0
  ParentMeans (Some outer) t = TypeMeans rows (scope_of (no_locals (head (top_key outer)) false)) t
  ParentMeans None (tree.int m) = ⊥
  ParentMeans None (tree.boolean m) = ⊥
  ParentMeans None (tree.named m None w) = (q : ClassKey) × TopFinds rows w.text (one (class_decl q))
  ParentMeans None (tree.named m (Some v) w) = ⊥

  top_there : (name : List ℕ) (q : ClassKey) → TopFinds rows name (one (class_decl q)) → (q ≡ top_key name) × ((j : ℕ) × IsRowOf rows (top_class name) j)
  top_there name q (inl (j, is, e)) = (cc, (j, is))
  top_there name q (inr (none, e)) = absurd cc

  top_stays : (base : ℕ) (m : A) (w : tree.Word A) → ParentMeans None (tree.named m None w) → ParentChoice begins rows Q None base (tree.named m None w) stays
  top_stays base m w (q, h) =
      let top = top_there w.text q h in
      let there : TopFinds rows w.text (one (class_decl (top_key w.text))) = inl (top.1.0, top.1.1, refl) in
      let own : TopFinds rows q.name (one (class_decl q)) = subst (λ (x : ClassKey). TopFinds rows x.name (one (class_decl x))) (sym top.0) there in
      (q, h, inl (own, stays_so w.text q.name (ap (λ (x : ClassKey). x.name) top.0)))

  pub parent_stays : (outer : Option (List ℕ)) → ((k : List ℕ) → SeesTheSame R (no_locals (head (top_key k)) false)) → (base : ℕ) (t : tree.TypeName A) → ParentMeans outer t
      → TypeMayStay (ParentQualifierChoice begins rows Q outer base t) (ParentChoice begins rows Q outer base t) t
  parent_stays (Some outer) sees base t h = type_stays (no_locals (head (top_key outer)) false) (sees outer) base t h
  parent_stays None sees base (tree.int m) h = absurd h
  parent_stays None sees base (tree.boolean m) h = absurd h
  parent_stays None sees base (tree.named m None w) h = top_stays base m w h
  parent_stays None sees base (tree.named m (Some v) w) h = absurd h
