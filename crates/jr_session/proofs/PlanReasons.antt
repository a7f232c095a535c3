-- A reason of a plan, against what was found of the plan by another program of the same files.
use Rattle.std.proofs.Common.{◌≡◌, ◌⊎◌, ℕ, ◌<◌, ◌≤◌, List, map, refl, true, sym, ap, subst, ◌∙◌, inl, inr, arith}
use Rattle.std.specs.Prelude.{Some, slice_get}
use Rattle.jr_text.specs.declared.spans.Span.{Span}
use Rattle.jr_text.specs.Edits.{Entry}
use Rattle.jr_lex.specs.Replacing.{IsName}
use Rattle.jr_ast.specs.MemberTree as syntax
use Rattle.jr_grammar.specs.Layout.{itself}
use Rattle.jr_grammar.specs.Reads.{Reads}
use Rattle.jr_table.specs.Decls.{MemberKey, Decl}
use Rattle.jr_table.specs.Errors.{Part}
use Rattle.jr_names.specs.declared.steps.Step.TheVariants as step
use Rattle.jr_names.specs.Refusals.{Refusal, bad_target, prelude_method, clash, override_changed, lost_binding}
use Rattle.jr_members.specs.WrittenLaws.{IsWritten, MembersAreWritten}
use Rattle.jr_bind.specs.Bounds.{Bound}
use Rattle.jr_bind.specs.Programs.{File, Program, units_of}
use Rattle.jr_bind.specs.SuperPlaces.{writes_super}
use Rattle.jr_program_laws.specs.FileParts.{begins}
use Rattle.jr_rewrite.specs.Edited.{entries_of}
use Rattle.jr_rewrite.specs.Rewritten.{Rewritten}
use Rattle.jr_images.specs.Clashes.{IsClear}
use Rattle.jr_images.specs.Families.{AreRenamed}
use Rattle.jr_rename_laws.specs.ImageLaws.{RenamingsStayFair}
use Rattle.jr_images.specs.Images.{Renaming}
use Rattle.jr_images.specs.RenameLaws.{IsFair}
use Rattle.jr_images.specs.Renames as renames
use Rattle.jr_plan.specs.Reasons.{Overrides, KeepsDispatch, Loses, by_itself, overrides, loses}
use Rattle.jr_plan.specs.Renaming.{rename_of, IsFound}
use Rattle.jr_plan.proofs.Rename.{rewrite_back}
use Rattle.jr_images.specs.TextLaws.{RowsAreNamed, NamesHaveNoDot}
use Rattle.jr_cursor.specs.TargetLaws.{OneIsTarget}
use Rattle.jr_rename_laws.specs.OnePlan.{AreAlike, RewritingIsOne, PlansSo, RefusesSo}
use Rattle.jr_rename_laws.proofs.Alike.{renamed_alike}
use Rattle.jr_rename_laws.proofs.OneProgram.{beside, IsWhole, file_at, is_beside, super_same, target_to}
use Rattle.jr_rename_laws.proofs.OneRefusal.{change_to}
use Rattle.jr_session.specs.Refusing.{rank_of}
use Rattle.jr_session.specs.RenameReasons as reason
use Rattle.jr_session.specs.RenameReasons.{Targets, IsPlanReason}

-- ---- ranks

module _ (file : List ℕ) (at : ℕ) (new : List ℕ) where
  abbrev pub ranked : Refusal → ℕ
  ranked r = rank_of (step.Rename file at new) r

  pub of_same : (r q : Refusal) → r ≡ q → ranked r ≡ ranked q
  of_same r q e = ap ranked e

module _ (p : Program Span) (name : List ℕ) (place : ℕ) (text : List ℕ) (number at : ℕ) (new : List ℕ) where
  pub refused_rank : (r : Refusal) → RefusesSo text number at new p r → ranked name place new r ≤ 32
  refused_rank r (by_itself (inl x)) = let e = of_same name place new r (bad_target _ _) x.1 in omega (arith, e)
  refused_rank r (by_itself (inr (d, g, x, inl a))) = let e = of_same name place new r (prelude_method a.0) a.2 in omega (arith, e)
  refused_rank r (by_itself (inr (d, g, x, inr (none, a)))) = let e = of_same name place new r (clash a.0) a.2 in omega (arith, e)
  refused_rank r (overrides x a) = let e = of_same name place new r (override_changed a.0 a.1) a.3 in omega (arith, e)
  refused_rank r (loses x keeps a) = let e = of_same name place new r (lost_binding _ _ _) a.3 in omega (arith, e)

  pub reason_rank : (r : Refusal) → IsPlanReason p text number at new r → 10 ≤ ranked name place new r
  reason_rank r (reason.no_target x) = let e = of_same name place new r (bad_target _ _) x.1 in omega (arith, e)
  reason_rank r (reason.of_prelude d g x a) = let e = of_same name place new r (prelude_method a.0) a.2 in omega (arith, e)
  reason_rank r (reason.clashes d g x a) = let e = of_same name place new r (clash a.0) a.2 in omega (arith, e)
  reason_rank r (reason.overrides d g x a) = let e = of_same name place new r (override_changed a.0 a.1) a.3 in omega (arith, e)
  reason_rank r (reason.loses d g x a) = let e = of_same name place new r (lost_binding _ _ _) a.3 in omega (arith, e)

  -- what a plan is refused for is a reason
  pub reason_of : (r : Refusal) → RefusesSo text number at new p r → IsPlanReason p text number at new r
  reason_of r (by_itself (inl x)) = reason.no_target x
  reason_of r (by_itself (inr (d, g, x, inl a))) = reason.of_prelude d g x a
  reason_of r (by_itself (inr (d, g, x, inr (none, a)))) = reason.clashes d g x a
  reason_of r (overrides x a) = reason.overrides x.target x.g x.renames a
  reason_of r (loses x keeps a) = reason.loses x.target x.g x.renames a

-- ---- two programs of the same files

module _ (p : Program Span) (t : MemberKey → ℕ) (bs : List Bound) (program : IsWhole p) (targets : OneIsTarget)
    (supers : (file : ℕ) (k : MemberKey) (base : ℕ) (part : Part Span) → IsWritten begins (units_of p) file k base part → writes_super part ≡ true → p.super_at k ≡ t k)
    (number at : ℕ) (new : List ℕ) (f : File Span) (stands : slice_get p.files number ≡ Some f) (name : List ℕ) (place : ℕ) where
  abbrev units : List (syntax.Unit Span)
  units = units_of p

  abbrev other : Program Span
  other = beside p t bs

  back : (file : ℕ) (k : MemberKey) (base : ℕ) (part : Part Span) → IsWritten begins units file k base part → writes_super part ≡ true → t k ≡ p.super_at k
  back n k base part w e = sym (supers n k base part w e)

  module _ (d e : Decl) (g h : Renaming) (x : Targets p f.text number at new d g) (y : Targets other f.text number at new e h) where
    same : d ≡ e
    same = sym (targets p program number at f stands e d (target_to p.rows units t p.super_at back f.text number at e y.target) x.target)

    alike : AreAlike g h
    alike = renamed_alike p.rows d g h x.renamed (subst (λ (k : Decl). AreRenamed p.rows k h.decls) (sym same) y.renamed) (x.name ∙ sym y.name)

    spares_to : ((z : Refusal) → renames.OfPrelude itself p.rows p.super_at units d new z → ⊥) → (z : Refusal) → renames.OfPrelude itself p.rows t units e new z → ⊥
    spares_to none z o = none z (subst (λ (k : Decl). renames.OfPrelude itself p.rows p.super_at units k new z) (sym same) o)

    clear_to : IsClear begins p.rows units d new → IsClear begins p.rows units e new
    clear_to clear = subst (λ (k : Decl). IsClear begins p.rows units k new) same clear

    keeps_to : KeepsDispatch p (rename_of p g) → KeepsDispatch other (rename_of other h)
    keeps_to none k m c = none k m (change_to p.rows g h alike k m c)

  -- it comes behind what the plan is refused for, or the plan is refused for it
  abbrev Against : Refusal → Refusal → Type 0
  Against r q = (ranked name place new r < ranked name place new q) ⊎ RefusesSo f.text number at new other q

  -- what is found, where the target is found by the other program
  module _ (x : IsFound p f.text number at new) (e : Decl) (h : Renaming) (y : Targets other f.text number at new e h) where
    spared : (z : Refusal) → renames.OfPrelude itself p.rows t units e new z → ⊥
    spared = spares_to x.target e x.g h x.renames y x.no_prelude

    abbrev found : IsFound other f.text number at new
    found = record { target = e; g = h; renames = y; no_prelude = spared; clear = clear_to x.target e x.g h x.renames y x.clear }

    dispatched : KeepsDispatch p (rename_of p x.g) → KeepsDispatch other (rename_of other h)
    dispatched = keeps_to x.target e x.g h x.renames y

  module _ (r q : Refusal) (e : Decl) (h : Renaming) (y : Targets other f.text number at new e h) where
    to_clash : renames.Clashes itself p.rows t units e new q → RefusesSo f.text number at new p r → Against r q
    to_clash a (by_itself (inl x)) = let i = of_same name place new r (bad_target _ _) x.1 in let j = of_same name place new q (clash a.0) a.2 in inl (omega (arith, i, j))
    to_clash a (by_itself (inr (d, g, x, inl b))) = let i = of_same name place new r (prelude_method b.0) b.2 in let j = of_same name place new q (clash a.0) a.2 in inl (omega (arith, i, j))
    to_clash a (by_itself (inr (d, g, x, inr (none, b)))) = inr (by_itself (inr (e, h, y, inr (spares_to d e g h x y none, a))))
    to_clash a (overrides x b) = inr (by_itself (inr (e, h, y, inr (spared x e h y, a))))
    to_clash a (loses x keeps b) = inr (by_itself (inr (e, h, y, inr (spared x e h y, a))))

    to_override : Overrides other (rename_of other h) q → RefusesSo f.text number at new p r → Against r q
    to_override a (by_itself (inl x)) = let i = of_same name place new r (bad_target _ _) x.1 in let j = of_same name place new q (override_changed a.0 a.1) a.3 in inl (omega (arith, i, j))
    to_override a (by_itself (inr (d, g, x, inl b))) = let i = of_same name place new r (prelude_method b.0) b.2 in let j = of_same name place new q (override_changed a.0 a.1) a.3 in inl (omega (arith, i, j))
    to_override a (by_itself (inr (d, g, x, inr (none, b)))) = let i = of_same name place new r (clash b.0) b.2 in let j = of_same name place new q (override_changed a.0 a.1) a.3 in inl (omega (arith, i, j))
    to_override a (overrides x b) = inr (overrides (found x e h y) a)
    to_override a (loses x keeps b) = inr (overrides (found x e h y) a)

    to_loss : Loses other (rename_of other h) q → RefusesSo f.text number at new p r → Against r q
    to_loss a (by_itself (inl x)) = let i = of_same name place new r (bad_target _ _) x.1 in let j = of_same name place new q (lost_binding _ _ _) a.3 in inl (omega (arith, i, j))
    to_loss a (by_itself (inr (d, g, x, inl b))) = let i = of_same name place new r (prelude_method b.0) b.2 in let j = of_same name place new q (lost_binding _ _ _) a.3 in inl (omega (arith, i, j))
    to_loss a (by_itself (inr (d, g, x, inr (none, b)))) = let i = of_same name place new r (clash b.0) b.2 in let j = of_same name place new q (lost_binding _ _ _) a.3 in inl (omega (arith, i, j))
    to_loss a (overrides x b) = let i = of_same name place new r (override_changed b.0 b.1) b.3 in let j = of_same name place new q (lost_binding _ _ _) a.3 in inl (omega (arith, i, j))
    to_loss a (loses x keeps b) = inr (loses (found x e h y) (dispatched x e h y keeps) a)

  against_so : (r q : Refusal) → RefusesSo f.text number at new p r → IsPlanReason other f.text number at new q → Against r q
  against_so r q u (reason.no_target a) = inr (by_itself (inl a))
  against_so r q u (reason.of_prelude e h y a) = inr (by_itself (inr (e, h, y, inl a)))
  against_so r q u (reason.clashes e h y a) = to_clash r q e h y a u
  against_so r q u (reason.overrides e h y a) = to_override r q e h y a u
  against_so r q u (reason.loses e h y a) = to_loss r q e h y a u

  -- where there is a plan, it would be refused for the reason too
  planned_so : (edits : List (List Entry)) (renaming : List (Decl × Decl)) (respelled : ℕ) (q : Refusal) → PlansSo f.text number at new p edits renaming respelled → IsPlanReason other f.text number at new q → RefusesSo f.text number at new other q
  planned_so edits renaming respelled q u (reason.no_target a) = by_itself (inl a)
  planned_so edits renaming respelled q u (reason.of_prelude e h y a) = by_itself (inr (e, h, y, inl a))
  planned_so edits renaming respelled q u (reason.clashes e h y a) = by_itself (inr (e, h, y, inr (spared u.found e h y, a)))
  planned_so edits renaming respelled q u (reason.overrides e h y a) = overrides (found u.found e h y) a
  planned_so edits renaming respelled q u (reason.loses e h y a) = loses (found u.found e h y) (dispatched u.found e h y u.dispatch) a

  -- ---- a plan's files are those of the target renamed, in whatever order

  module _ (also : IsWhole (beside p t bs)) (fair_law : RenamingsStayFair Span) (named : RowsAreNamed Span) (dots : NamesHaveNoDot) (rewriting : RewritingIsOne) (word : IsName new) where
    reads : (n : ℕ) (unit : syntax.Unit Span) → slice_get units n ≡ Some unit → (bytes : List ℕ) × Reads bytes unit
    reads n unit e =
        let x = file_at p n unit e in
        let r = program.reads n x.0 x.1 in
        (x.0.text, subst (Reads x.0.text) x.2 (record { items = r.items; lexes = r.lexes; is = r.is }))

    fair : (d : Decl) (g : Renaming) → Targets p f.text number at new d g → ((z : Refusal) → renames.OfPrelude itself p.rows p.super_at units d new z → ⊥) → IsClear begins p.rows units d new → IsFair p.rows g
    fair d g x spares clear = fair_law begins p.rows units d g program.are_rows program.rows x.renamed x.target.own (λ w h. spares (prelude_method w) (w, inl h, refl))
        (subst (λ (n : List ℕ). IsClear begins p.rows units d n) (sym x.name) clear) (named begins p.rows units reads program.rows).1 (dots g.name (subst (λ (n : List ℕ). IsName n) (sym x.name) word))

    files_so : (edits : List (List Entry)) (renaming : List (Decl × Decl)) (respelled : ℕ) → (u : PlansSo f.text number at new p edits renaming respelled) → (e : Decl) (h : Renaming) → Targets other f.text number at new e h
        → (files : List (Rewritten (syntax.Unit Span))) → renames.Rewrite itself p.rows t units h files → edits ≡ map (λ (o : Rewritten (syntax.Unit Span)). entries_of o.changes) files
    files_so edits renaming respelled u e h y files w =
        let x = u.found in
        let same_files = rewriting p other program also refl x.g h (alike x.target e x.g h x.renames y) (fair x.target x.g x.renames x.no_prelude x.clear) u.becomes.files files (rewrite_back p x.g u.becomes) w in
        u.edits_are ∙ ap (map (λ (o : Rewritten (syntax.Unit Span)). entries_of o.changes)) same_files

module _ (law : MembersAreWritten Span) (targets : OneIsTarget) (p q : Program Span) (is : IsWhole p) (also : IsWhole q) (same : p.files ≡ q.files) (number at : ℕ) (new : List ℕ) (f : File Span) (stands : slice_get p.files number ≡ Some f) (name : List ℕ) (place : ℕ) where
  next_to : beside p q.super_at q.bounds ≡ q
  next_to = is_beside p q is also same

  supers_are : (file : ℕ) (k : MemberKey) (base : ℕ) (part : Part Span) → IsWritten begins (units_of p) file k base part → writes_super part ≡ true → p.super_at k ≡ q.super_at k
  supers_are = super_same law p q.super_at q.bounds is (subst IsWhole (sym next_to) also)

  pub against : (r x : Refusal) → RefusesSo f.text number at new p r → IsPlanReason q f.text number at new x → (ranked name place new r < ranked name place new x) ⊎ RefusesSo f.text number at new q x
  against = subst (λ (z : Program Span). (r x : Refusal) → RefusesSo f.text number at new p r → IsPlanReason z f.text number at new x → (ranked name place new r < ranked name place new x) ⊎ RefusesSo f.text number at new z x) next_to
      (λ r x. against_so p q.super_at q.bounds is targets supers_are number at new f stands name place r x)

  pub planned_against : (edits : List (List Entry)) (renaming : List (Decl × Decl)) (respelled : ℕ) (x : Refusal) → PlansSo f.text number at new p edits renaming respelled → IsPlanReason q f.text number at new x → RefusesSo f.text number at new q x
  planned_against = subst (λ (z : Program Span). (edits : List (List Entry)) (renaming : List (Decl × Decl)) (respelled : ℕ) (x : Refusal) → PlansSo f.text number at new p edits renaming respelled → IsPlanReason z f.text number at new x → RefusesSo f.text number at new z x) next_to
      (λ edits renaming respelled x. planned_so p q.super_at q.bounds is targets supers_are number at new f stands name place edits renaming respelled x)

  pub files_against : RenamingsStayFair Span → RowsAreNamed Span → NamesHaveNoDot → RewritingIsOne → IsName new → (edits : List (List Entry)) (renaming : List (Decl × Decl)) (respelled : ℕ) → PlansSo f.text number at new p edits renaming respelled → (e : Decl) (h : Renaming)
      → Targets q f.text number at new e h → (files : List (Rewritten (syntax.Unit Span))) → renames.Rewrite itself q.rows q.super_at (units_of q) h files → edits ≡ map (λ (o : Rewritten (syntax.Unit Span)). entries_of o.changes) files
  files_against fair_law named dots rewriting word edits renaming respelled u = subst (λ (z : Program Span). (e : Decl) (h : Renaming) → Targets z f.text number at new e h → (files : List (Rewritten (syntax.Unit Span))) → renames.Rewrite itself z.rows z.super_at (units_of z) h files
      → edits ≡ map (λ (o : Rewritten (syntax.Unit Span)). entries_of o.changes) files) next_to
      (λ e h. files_so p q.super_at q.bounds is targets supers_are number at new f stands name place (subst IsWhole (sym next_to) also) fair_law named dots rewriting word edits renaming respelled u e h)
