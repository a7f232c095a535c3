-- A rename has one plan, or is refused for one reason: what two programs of the same files make of it.
use Rattle.std.proofs.Common.{◌≡◌, ℕ, List, Some, true, refl, sym, ap, subst, ◌∙◌, inl, inr}
use Rattle.std.specs.Prelude.{◌⊎◌, slice_get}
use Rattle.jr_text.specs.declared.spans.Span.{Span}
use Rattle.jr_lex.specs.Replacing.{IsName}
use Rattle.jr_ast.specs.MemberTree as syntax
use Rattle.jr_grammar.specs.Layout.{itself}
use Rattle.jr_grammar.specs.Reads.{Reads}
use Rattle.jr_table.specs.Decls.{MemberKey, Decl}
use Rattle.jr_table.specs.Errors.{Part}
use Rattle.jr_names.specs.Refusals.{Refusal, prelude_method, clash}
use Rattle.jr_members.specs.WrittenLaws.{IsWritten}
use Rattle.jr_bind.specs.Bounds.{Bound}
use Rattle.jr_bind.specs.SuperPlaces.{writes_super}
use Rattle.jr_bind.specs.Programs.{File, Program, units_of}
use Rattle.jr_program_laws.specs.FileParts.{begins}
use Rattle.jr_images.specs.Clashes.{ClashesWith, IsClear}
use Rattle.jr_images.specs.Families.{AreRenamed}
use Rattle.jr_images.specs.RenameLaws.{IsFair}
use Rattle.jr_images.specs.Renames.{Clashes}
use Rattle.jr_images.specs.Targets.{IsTarget}
use Rattle.jr_images.specs.TextLaws.{RowsAreNamed, NamesHaveNoDot}
use Rattle.jr_plan.specs.Reasons.{HasOnePlan}
use Rattle.jr_plan.specs.Renaming.{IsOfPrelude, RefusesRename, IsFound, renaming}
use Rattle.jr_plan.proofs.Alone as alone
use Rattle.jr_plan.proofs.Rename.{rewrite_back, same_pairs}
use Rattle.jr_cursor.specs.TargetLaws.{OneIsTarget}
use Rattle.jr_rename_laws.specs.ImageLaws.{RenamingsStayFair}
use Rattle.jr_rename_laws.specs.OnePlan.{AreAlike, RewritingIsOne}
use Rattle.jr_rename_laws.proofs.Alike.{renamed_alike, become_same}
use Rattle.jr_rename_laws.proofs.OneClash.{one_clash}
use Rattle.jr_rename_laws.proofs.OneProgram.{beside, IsWhole, file_at, target_to}
use Rattle.jr_rename_laws.proofs.OneRefusal.{one_told, one_change, change_to, other_way}

module _ (p : Program Span) (t : MemberKey → ℕ) (bs : List Bound) (program : IsWhole p) (also : IsWhole (beside p t bs)) (fair_law : RenamingsStayFair Span) (named : RowsAreNamed Span) (dots : NamesHaveNoDot) (rewriting : RewritingIsOne)
    (supers : (file : ℕ) (k : MemberKey) (base : ℕ) (part : Part Span) → IsWritten begins (units_of p) file k base part → writes_super part ≡ true → p.super_at k ≡ t k)
    (targets : OneIsTarget) (file at : ℕ) (f : File Span) (stands : slice_get p.files file ≡ Some f) (new : List ℕ) (name : IsName new) where
  abbrev units : List (syntax.Unit Span)
  units = units_of p

  abbrev q : Program Span
  q = beside p t bs

  reads : (n : ℕ) (unit : syntax.Unit Span) → slice_get units n ≡ Some unit → (bytes : List ℕ) × Reads bytes unit
  reads n unit e =
      let x = file_at p n unit e in
      let r = program.reads n x.0 x.1 in
      (x.0.text, subst (Reads x.0.text) x.2 (record { items = r.items; lexes = r.lexes; is = r.is }))

  -- ---- the target

  abbrev Names : (MemberKey → ℕ) → Decl → Type 0
  Names s d = IsTarget begins p.rows s units f.text file at d

  here : (d : Decl) → Names t d → Names p.super_at d
  here d x = target_to p.rows units t p.super_at (λ n k base part w e. sym (supers n k base part w e)) f.text file at d x

  there : (d : Decl) → Names p.super_at d → Names t d
  there d x = target_to p.rows units p.super_at t supers f.text file at d x

  same_target : (d e : Decl) → Names p.super_at d → Names t e → e ≡ d
  same_target d e x y = targets p program file at f stands e d (here e y) x

  -- ---- its own reasons

  abbrev Spares : Decl → Type 0
  Spares d = (r : Refusal) → IsOfPrelude p f.text file at new d r → ⊥

  abbrev Collides : Decl → Refusal → Type 0
  Collides d r = Clashes itself p.rows p.super_at units d new r

  -- a method of the prelude would change, or else the name collides
  abbrev Why : Decl → Refusal → Type 0
  Why d r = IsOfPrelude p f.text file at new d r ⊎ (Spares d × Collides d r)

  one_why : (d : Decl) (r s : Refusal) → Why d r → Why d s → r ≡ s
  one_why d r s (inl a) (inl b) = a.2 ∙ ap prelude_method (one_told p.rows program.are_rows d new a.0 b.0 a.1 b.1) ∙ sym b.2
  one_why d r s (inl a) (inr b) = absurd (b.0 r a)
  one_why d r s (inr a) (inl b) = absurd (a.0 s b)
  one_why d r s (inr a) (inr b) = a.1.2 ∙ ap clash (one_clash p.rows units d new a.1.0 b.1.0 a.1.1 b.1.1) ∙ sym b.1.2

  clear_none : (d : Decl) → IsClear begins p.rows units d new → (r : Refusal) → Collides d r → ⊥
  clear_none d clear r x = of x.1
    where
      of : ClashesWith begins p.rows units d new x.0 → ⊥
      of (inl h) = clear.other h.0
      of (inr h) = clear.alone x.0 h.1.collides

  no_why : (d : Decl) (r : Refusal) → Why d r → Spares d → IsClear begins p.rows units d new → ⊥
  no_why d r (inl a) spares clear = spares r a
  no_why d r (inr a) spares clear = clear_none d clear r a.1

  own : (r s : Refusal) → RefusesRename p f.text file at new r → RefusesRename q f.text file at new s → r ≡ s
  own r s (inl u) (inl v) = u.1 ∙ sym v.1
  own r s (inl u) (inr v) = absurd (u.0 v.0 (here v.0 v.2.target))
  own r s (inr u) (inl v) = absurd (v.0 u.0 (there u.0 u.2.target))
  own r s (inr u) (inr v) = one_why u.0 r s u.3 (subst (λ (d : Decl). Why d s) (same_target u.0 v.0 u.2.target v.2.target) v.3)

  found_there : (r : Refusal) → RefusesRename p f.text file at new r → IsFound q f.text file at new → ⊥
  found_there r (inl u) x = u.0 x.target (here x.target x.renames.target)
  found_there r (inr u) x =
      let same : x.target ≡ u.0 = same_target u.0 x.target u.2.target x.renames.target in
      no_why u.0 r u.3 (subst Spares same x.no_prelude) (subst (λ (d : Decl). IsClear begins p.rows units d new) same x.clear)

  found_here : (r : Refusal) → RefusesRename q f.text file at new r → IsFound p f.text file at new → ⊥
  found_here r (inl u) x = u.0 x.target (there x.target x.renames.target)
  found_here r (inr u) x =
      let same : u.0 ≡ x.target = same_target x.target u.0 x.renames.target u.2.target in
      no_why x.target r (subst (λ (d : Decl). Why d r) same u.3) x.no_prelude x.clear

  -- ---- what is renamed

  module _ (x : IsFound p f.text file at new) (y : IsFound q f.text file at new) where
    alike : AreAlike x.g y.g
    alike = renamed_alike p.rows x.target x.g y.g x.renames.renamed (subst (λ (d : Decl). AreRenamed p.rows d y.g.decls) (same_target x.target y.target x.renames.target y.renames.target) y.renames.renamed) (x.renames.name ∙ sym y.renames.name)

    fair : IsFair p.rows x.g
    fair = fair_law begins p.rows units x.target x.g program.are_rows program.rows x.renames.renamed x.renames.target.own (λ told s. x.no_prelude (prelude_method told) (told, inl s, refl))
        (subst (λ (n : List ℕ). IsClear begins p.rows units x.target n) (sym x.renames.name) x.clear) (named begins p.rows units reads program.rows).1 (dots x.g.name (subst (λ (n : List ℕ). IsName n) (sym x.renames.name) name))

  do_alike : alone.DoAlike p q (renaming p f.text file at new) (renaming q f.text file at new)
  do_alike = record {
    own = own;
    found_there = found_there;
    found_here = found_here;
    first = λ x y k l m n a b. one_change p.rows x.g y.g (alike x y) k l m n a b;
    keep_there = λ x y keeps k m c. keeps k m (change_to p.rows x.g y.g (alike x y) k m c);
    keep_here = λ x y keeps k m c. keeps k m (change_to p.rows y.g x.g (other_way x.g y.g (alike x y)) k m c);
    files = λ x y a b. rewriting p q program also refl x.g y.g (alike x y) (fair x y) a.files b.files (rewrite_back p x.g a) (rewrite_back q y.g b);
    lost = λ x y a b. a.also ∙ sym b.also;
    pairs = λ x y. same_pairs p x.g ∙ (become_same x.g y.g (alike x y) p.rows).pairs ∙ sym (same_pairs q y.g);
    crossings = λ x y k l i j m n pair other. absurd pair;
    crossed = λ x y k i j pair. pair;
  }

  pub one_plan : HasOnePlan p q (renaming p f.text file at new) (renaming q f.text file at new)
  one_plan = alone.one_plan p q (renaming p f.text file at new) (renaming q f.text file at new) do_alike
