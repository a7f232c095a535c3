-- Written types stay, and superclasses.
use Rattle.std.proofs.Common.{◌≡◌, ℕ, List, [], Option, Some, None, false, refl, sym, ap, subst, ◌∙◌, inl, inr}
use Rattle.jr_text.specs.declared.spans.Span.{Span}
use Rattle.jr_ast.specs.Tree as tree
use Rattle.jr_table.specs.Keys.{ClassKey}
use Rattle.jr_table.specs.Decls.{MemberKey, head, class_decl}
use Rattle.jr_table.specs.Rows.{Row}
use Rattle.jr_table.specs.Prelude.{top_key}
use Rattle.jr_table.specs.Entries.{IsRowOf, top_class}
use Rattle.jr_table.specs.Found.{one}
use Rattle.jr_table.specs.Lookup.{FindsTypeNamed, FindsTypeOf}
use Rattle.jr_table.specs.Context.{Context, scope_of}
use Rattle.jr_table.specs.HeadRules.{plain as no_locals, TopFinds}
use Rattle.jr_spell.specs.declared.references.RefForm.TheVariants as ref
use Rattle.jr_spell.specs.declared.spellings.Form.TheVariants.{Asked}
use Rattle.jr_spell.specs.Taken.{IsTaken}
use Rattle.jr_rewrite.specs.Respellings.{stays}
use Rattle.jr_rewrite.specs.Rewritten.{plain, within, simple_type_out, qualified_type_out}
use Rattle.jr_rewrite.specs.Rewrites.{RewritesType, RewritesParent, TypeOut}
use Rattle.jr_images.specs.Images.{Renaming, class_to, rows_to, scope_to}
use Rattle.jr_images.specs.Spelling.{spelling, reference, dotted, TypeSpells, QualifierSpells, ParentSpells, ParentQualifierSpells}
use Rattle.jr_images.proofs.Dotted.{IsWhole}
use Rattle.jr_new_files.proofs.ImagesStay.{plain_scope_same}
use Rattle.jr_new_files.proofs.Unmoved.{GivesNothing, stays_so}
use Rattle.jr_new_files.proofs.Namesakes.{type_named, inner_named, type_row}
use Rattle.jr_new_files.proofs.Passing.{Known, type_goes, inner_goes, row_goes, class_keeps}
use Rattle.jr_new_files.proofs.AskedBinds.{class_taken, inner_taken}
use Rattle.jr_new_files.proofs.NothingBroken.{TypeMeans}

pub moved : {X Y : Type 0} → X ≡ Y → X → Y
moved e x = subst (λ (Z : Type 0). Z) e x

module _ {A : Type 0} (tells : A → ℕ → Span) (rows : List Row) (g : Renaming) (names : List (List ℕ)) (k : MemberKey) (known : Known A rows g names k) (super_at : Context → ℕ) where
  abbrev begins : A → ℕ → ℕ
  begins m base = (tells m base).from

  module _ (c : Context) (same : scope_to g c ≡ scope_of c) where
    -- the name of a class finds it in the new program
    named_after : (name : List ℕ) (q : ClassKey) → FindsTypeNamed rows (scope_of c) name (one (class_decl q)) → FindsTypeNamed (rows_to g rows) (scope_of c) q.name (one (class_decl q))
    named_after name q h = subst (λ (n : List ℕ). FindsTypeNamed (rows_to g rows) (scope_of c) n (one (class_decl q))) (sym (type_named rows (scope_of c) name q h)) (type_goes rows g names k known (scope_of c) name (one (class_decl q)) h)

    whole : (name : List ℕ) (q : ClassKey) → FindsTypeNamed rows (scope_of c) name (one (class_decl q)) → IsWhole q.name
    whole name q h = let j = type_row rows (scope_of c) name q h in known.words q j.0 j.1

    -- and so does its image
    pub finds_image : (name : List ℕ) (q : ClassKey) → FindsTypeNamed rows (scope_of c) name (one (class_decl q)) → FindsTypeNamed (rows_to g rows) (scope_to g c) (class_to g q).name (one (class_decl (class_to g q)))
    finds_image name q h =
        let p : q ≡ class_to g q = sym (class_keeps rows g names k known q) in
        let s : scope_of c ≡ scope_to g c = sym same in
        moved (λ i. FindsTypeNamed (rows_to g rows) (s i) (p i).name (one (class_decl (p i)))) (named_after name q h)

    new_name : (name : List ℕ) (q : ClassKey) → q.name ≡ name → (class_to g q).name ≡ name
    new_name name q e = ap (λ (x : ClassKey). x.name) (class_keeps rows g names k known q) ∙ e

    simple_spells : (base : ℕ) (m : A) (w : tree.Word A) → TypeMeans rows (scope_of c) (tree.named m None w) → TypeSpells begins rows g c base (tree.named m None w) stays
    simple_spells base m w (q, h) =
        let p : q ≡ class_to g q = sym (class_keeps rows g names k known q) in
        let s : scope_of c ≡ scope_to g c = sym same in
        let taken = class_taken (rows_to g rows) (scope_of c) q (whole w.text q h) (named_after w.text q h) in
        let image = moved (λ i. IsTaken (rows_to g rows) (s i) (reference ref.ClassName (p i).name None []) (class_decl (p i)) Asked) taken in
        (q, h, inl (Asked, image, stays_so w.text (class_to g q).name (new_name w.text q (type_named rows (scope_of c) w.text q h))))

    inner_spells : (base : ℕ) (m : A) (v w : tree.Word A) → TypeMeans rows (scope_of c) (tree.named m (Some v) w) → TypeSpells begins rows g c base (tree.named m (Some v) w) stays
    inner_spells base m v w (o, q, h, inner) =
        let p : q ≡ class_to g q = sym (class_keeps rows g names k known q) in
        let r : o ≡ class_to g o = sym (class_keeps rows g names k known o) in
        let s : scope_of c ≡ scope_to g c = sym same in
        let named = inner_named rows (scope_of c) o w.text q inner in
        let there = subst (λ (n : List ℕ). FindsTypeOf (rows_to g rows) (scope_of c) o n (one (class_decl q))) (sym named) (inner_goes rows g names k known (scope_of c) o w.text (one (class_decl q)) inner) in
        let taken = inner_taken (rows_to g rows) (scope_of c) o q (whole v.text o h) (named_after v.text o h) there in
        let image = moved (λ i. IsTaken (rows_to g rows) (s i) (reference ref.ClassName (dotted (r i).name (p i).name) None []) (class_decl (p i)) Asked) taken in
        (o, q, h, inner, inl (Asked, image, stays_so w.text (class_to g q).name (new_name w.text q named)))

    qualifier_spells : (base : ℕ) (m : A) (v w : tree.Word A) → TypeMeans rows (scope_of c) (tree.named m (Some v) w) → QualifierSpells begins rows g c base (tree.named m (Some v) w) stays
    qualifier_spells base m v w (o, q, h, inner) = (o, h, inl (finds_image v.text o h, stays_so v.text (class_to g o).name (new_name v.text o (type_named rows (scope_of c) v.text o h))))

    -- a written type
    pub type_stays : (base : ℕ) (t : tree.TypeName A) → TypeMeans rows (scope_of c) t → GivesNothing (λ o. RewritesType tells (spelling begins rows g super_at) c base t o)
    type_stays base (tree.int m) h = (plain (tree.int m), refl, refl)
    type_stays base (tree.boolean m) h = (plain (tree.boolean m), refl, refl)
    type_stays base (tree.named m None w) h = (simple_type_out tells stays m base w, (stays, simple_spells base m w h, refl), refl)
    type_stays base (tree.named m (Some v) w) h = (qualified_type_out tells stays stays m base v w, (stays, stays, qualifier_spells base m v w h, inner_spells base m v w h, refl), refl)

  -- ---- superclasses

  -- each name finds its class
  abbrev pub ParentMeans : Option (List ℕ) → tree.TypeName A → Type 0
  ParentMeans (Some outer) t = TypeMeans rows (scope_of (no_locals (head (top_key outer)) false)) t
  ParentMeans None (tree.int m) = ⊥
  ParentMeans None (tree.boolean m) = ⊥
  ParentMeans None (tree.named m None w) = (q : ClassKey) × TopFinds rows w.text (one (class_decl q))
  ParentMeans None (tree.named m (Some v) w) = ⊥

  top_there : (name : List ℕ) (q : ClassKey) → TopFinds rows name (one (class_decl q)) → (q ≡ top_key name) × ((j : ℕ) × IsRowOf rows (top_class name) j)
  top_there name q (inl (j, is, e)) = (cc, (j, is))
  top_there name q (inr (none, e)) = absurd cc

  top_spells : (base : ℕ) (m : A) (w : tree.Word A) → ParentMeans None (tree.named m None w) → ParentSpells begins rows g None base (tree.named m None w) stays
  top_spells base m w (q, h) =
      let top = top_there w.text q h in
      let p : q ≡ class_to g q = sym (class_keeps rows g names k known q) in
      let row = row_goes rows g names k known (top_class w.text) top.1.0 (ap class_decl (class_keeps rows g names k known (top_key w.text))) top.1.1 in
      let there : TopFinds (rows_to g rows) w.text (one (class_decl (top_key w.text))) = inl (top.1.0, row, refl) in
      let own : TopFinds (rows_to g rows) q.name (one (class_decl q)) = subst (λ (x : ClassKey). TopFinds (rows_to g rows) x.name (one (class_decl x))) (sym top.0) there in
      (q, h, inl (moved (λ i. TopFinds (rows_to g rows) (p i).name (one (class_decl (p i)))) own, stays_so w.text (class_to g q).name (ap (λ (x : ClassKey). x.name) (sym p ∙ top.0))))

  parent_type : (outer : Option (List ℕ)) (base : ℕ) (t : tree.TypeName A) → ParentMeans outer t
      → GivesNothing (λ o. TypeOut tells (spelling begins rows g super_at) (ParentQualifierSpells begins rows g outer base t) (ParentSpells begins rows g outer base t) base t o)
  parent_type (Some outer) base t h = type_stays (no_locals (head (top_key outer)) false) (plain_scope_same g known.spared.class (head (top_key outer)) false) base t h
  parent_type None base (tree.int m) h = absurd h
  parent_type None base (tree.boolean m) h = absurd h
  parent_type None base (tree.named m None w) h = (simple_type_out tells stays m base w, (stays, top_spells base m w h, refl), refl)
  parent_type None base (tree.named m (Some v) w) h = absurd h

  pub parent_stays : (outer : Option (List ℕ)) (base : ℕ) (t : tree.TypeName A) → ParentMeans outer t → GivesNothing (λ o. RewritesParent tells (spelling begins rows g super_at) outer base (Some t) o)
  parent_stays outer base t h = let p = parent_type outer base t h in (within (λ (u : tree.TypeName A). Some u) p.0, (p.0, p.1, refl), p.2)
