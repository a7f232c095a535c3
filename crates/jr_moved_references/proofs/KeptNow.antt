-- What a rename keeps at a place that stands for another: its references and written types.
use Rattle.std.proofs.Common.{◌≡◌, ℕ, List, [], ◌∷◌, Option, Some, None, refl, sym, ap, ◌∙◌, subst, inl, inr}
use Rattle.std.specs.Prelude.{◌⊎◌, slice_get}
use Rattle.jr_text.specs.declared.spans.Span.{Span}
use Rattle.jr_ast.specs.Tree as tree
use Rattle.jr_grammar.specs.Layout.{itself}
use Rattle.jr_table.specs.Keys.{ClassKey}
use Rattle.jr_table.specs.Decls.{class_decl}
use Rattle.jr_table.specs.Rows.{Row}
use Rattle.jr_table.specs.Found.{one}
use Rattle.jr_table.specs.Lookup.{FindsTypeNamed}
use Rattle.jr_table.specs.Scope.{Scope}
use Rattle.jr_table.specs.Context.{Context, scope_of}
use Rattle.jr_table.specs.Binding.{Role, value, left, IsClassName}
use Rattle.jr_table.specs.Binding as role
use Rattle.jr_spell.specs.declared.spellings.Form.{Form}
use Rattle.jr_spell.specs.declared.spellings.Form.TheVariants.{Asked, OnClass, OnOuterClass, ClassInFront, OuterClassInFront}
use Rattle.jr_rewrite.specs.Respellings.{Front, same, alone, by_class, by_outer_class, by_cast, Choice, front_of, text_of}
use Rattle.jr_rewrite.specs.Rewritten.{losses_of}
use Rattle.jr_rewrite.specs.Spots.{nowhere}
use Rattle.jr_images.specs.Images.{Renaming, class_to, rows_to, scope_to}
use Rattle.jr_images.specs.Regions.{Region, region_of}
use Rattle.jr_images.specs.RenameLaws.{IsFair}
use Rattle.jr_images.specs.Spelling.{spelled as formed, outer_front, outer_type}
use Rattle.jr_images.specs.Standing.{ContextTo}
use Rattle.jr_images.proofs.Chosen.{renamed_text, renamed_front, lost_some}
use Rattle.jr_images.proofs.Forms.{three_forms, front_forms}
use Rattle.jr_images.proofs.Places.{scope_image}
use Rattle.jr_images.proofs.Types.{written_kept}
use Rattle.jr_images.proofs.World.{World}
use Rattle.jr_kept_references.specs.InRegions.{class_in, field_in, method_in}
use Rattle.jr_kept_references.proofs.RegionExpressions.{kept}
use Rattle.jr_kept_references.proofs.Renamed.{world_of, renamed_kept}
use Rattle.jr_moved_references.proofs.KeptAt.{spelled, KeptAt}
use Rattle.jr_moved_references.proofs.TypePlaces.{TypesAt}

-- ---- which fronts are no cast

same_cast : (name : List ℕ) → same ≡ by_cast name → ⊥
same_cast name e = cc

alone_cast : (name : List ℕ) → alone ≡ by_cast name → ⊥
alone_cast name e = cc

class_cast : (k name : List ℕ) → by_class k ≡ by_cast name → ⊥
class_cast k name e = cc

outer_cast : (o k name : List ℕ) → by_outer_class o k ≡ by_cast name → ⊥
outer_cast o k name e = cc

front_cast : (outer : Option (List ℕ)) (k name : List ℕ) → outer_front (record { outer = outer; name = k }) ≡ by_cast name → ⊥
front_cast None k name e = class_cast k name e
front_cast (Some o) k name e = outer_cast o k name e

type_cast : (outer : Option (List ℕ)) (k name : List ℕ) → outer_type (record { outer = outer; name = k }) ≡ by_cast name → ⊥
type_cast None k name e = alone_cast name e
type_cast (Some o) k name e = class_cast o name e

through_cast : (old new name : List ℕ) (k : ClassKey) (place : ℕ) (f : Form) → slice_get (Asked ∷ OnClass ∷ OnOuterClass ∷ []) place ≡ Some f → front_of (formed old new k f) ≡ by_cast name → ⊥
through_cast old new name k place f there = three_forms (λ f. front_of (formed old new k f) ≡ by_cast name → ⊥) (λ e. same_cast name (sym (renamed_front old new) ∙ e)) (λ e. class_cast k.name name e) (λ e. front_cast k.outer k.name name e) place f there

member_cast : (old new name : List ℕ) (k : ClassKey) (place : ℕ) (f : Form) → slice_get (Asked ∷ ClassInFront ∷ OuterClassInFront ∷ []) place ≡ Some f → front_of (formed old new k f) ≡ by_cast name → ⊥
member_cast old new name k place f there = front_forms (λ f. front_of (formed old new k f) ≡ by_cast name → ⊥) (λ e. same_cast name (sym (renamed_front old new) ∙ e)) (λ e. alone_cast name e) (λ e. type_cast k.outer k.name name e) place f there

module _ (rows : List Row) (g : Renaming) (super_at : Context → ℕ) (fair : IsFair rows g) (c d : Context) (stand : ContextTo g rows c d) (w : World Span rows g c d) where
  abbrev R : Region Span
  R = region_of rows g

  field_no_class : (r : Role) (b : ℕ) (m : Span) (e : tree.Exp Span) (v : tree.Word Span) (h : Choice) (name : List ℕ) → (spelled rows g super_at).expression c r b (tree.field m e v) h → front_of h ≡ by_cast name → (k : ClassKey) → IsClassName rows c e k → ⊥
  field_no_class r b m e v h name (inl (q, finds, inl (o, named, (text, words, inl (f, taken, is))))) front k there = through_cast v.text (field_in R q).name name (field_in R q).class taken.place f taken.stands (sym (ap front_of is) ∙ front)
  field_no_class r b m e v h name (inl (q, finds, inl (o, named, (text, words, inr (none_binds, (f, found, is)))))) front k there = same_cast name (sym (ap front_of is) ∙ front)
  field_no_class r b m e v h name (inl (q, finds, inr (not, others))) front k there = not k there
  field_no_class left b m e v h name (inr (o, q, owner, free, finds, first, before, words, stands, inl (f, taken, is))) front k there = member_cast v.text (class_in R q).name name (class_in R q) taken.place f taken.stands (sym (ap front_of is) ∙ front)
  field_no_class left b m e v h name (inr (o, q, owner, free, finds, first, before, words, stands, inr (none_binds, (f, found, is)))) front k there = same_cast name (sym (ap front_of is) ∙ front)
  field_no_class value b m e v h name (inr spells) front k there = absurd spells
  field_no_class role.statement b m e v h name (inr spells) front k there = absurd spells

  call_no_class : (r : Role) (b : ℕ) (m : Span) (e : tree.Exp Span) (v : tree.Word Span) (args : tree.Exps Span) (h : Choice) (name : List ℕ) → (spelled rows g super_at).expression c r b (tree.call m (tree.on e) v args) h → front_of h ≡ by_cast name
      → (k : ClassKey) → IsClassName rows c e k → ⊥
  call_no_class r b m e v args h name (q, ts, finds, types, inl (o, named, (text, words, inl (f, taken, is)))) front k there = through_cast v.text (method_in R q).name name (method_in R q).class taken.place f taken.stands (sym (ap front_of is) ∙ front)
  call_no_class r b m e v args h name (q, ts, finds, types, inl (o, named, (text, words, inr (none_binds, (f, found, is))))) front k there = same_cast name (sym (ap front_of is) ∙ front)
  call_no_class r b m e v args h name (q, ts, finds, types, inr (not, others)) front k there = not k there

  pub kept_at : KeptAt rows g super_at c d
  kept_at = record {
    own = λ r b e o made none i. renamed_kept rows g c d stand itself super_at fair w r b e o made none b i;
    apart = λ r b e o made none. (kept itself rows R c d (world_of rows g c d stand fair w) super_at nowhere refl r b e o made none).becomes.apart;
    field_value = field_no_class;
    call_value = call_no_class;
  }

  -- ---- written types

  qualifier_found : (b : ℕ) (m : Span) (o v : tree.Word Span) (q : Choice) → (spelled rows g super_at).qualifier c b (tree.named m (Some o) v) q → losses_of q ≡ [] → (k : ClassKey) → FindsTypeNamed rows (scope_of c) o.text (one (class_decl k))
      → FindsTypeNamed (rows_to g rows) (scope_of d) (text_of q o.text) (one (class_decl (class_to g k)))
  qualifier_found b m o v q (i, other, inl (finds, is)) none k named =
      let both = w.one_old.type_named (scope_of c) o.text (one (class_decl i)) (one (class_decl k)) other named in
      let same_class : i ≡ k = cc in
      let text : text_of q o.text ≡ (class_to g i).name = ap (λ (x : Choice). text_of x o.text) is ∙ renamed_text o.text (class_to g i).name in
      subst (λ (s : Scope). FindsTypeNamed (rows_to g rows) s (text_of q o.text) (one (class_decl (class_to g k)))) (sym (scope_image g rows c d stand))
      (subst (λ (x : ClassKey). FindsTypeNamed (rows_to g rows) (scope_to g c) (text_of q o.text) (one (class_decl (class_to g x)))) same_class
      (subst (λ (t : List ℕ). FindsTypeNamed (rows_to g rows) (scope_to g c) t (one (class_decl (class_to g i)))) (sym text) finds))
  qualifier_found b m o v q (i, other, inr (never_finds, (f, found, is))) none k named = absurd (lost_some _ (sym (ap losses_of is) ∙ none))

  pub types_at : TypesAt rows g super_at c d
  types_at = record { means = λ b t p made none k h. (written_kept itself rows g c d w super_at b t p made none).means k h; front = qualifier_found }
