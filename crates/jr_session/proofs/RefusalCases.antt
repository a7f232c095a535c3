-- Which refusals may apply to an edit, to an undoing, and to a redoing.
use Rattle.std.proofs.Common.{◌≡◌, ◌⊎◌, ℕ, List, [], refl, ap, subst, inl, inr}
use Rattle.jr_names.specs.declared.steps.Step.TheVariants as step
use Rattle.jr_names.specs.declared.steps.What.{What}
use Rattle.jr_names.specs.declared.steps.What.TheVariants as what
use Rattle.jr_names.specs.Refusals.{Refusal, no_such_file, bad_place, bad_name, source_error, bad_target, prelude_method, conditional, has_return, two_results, many_targets, may_be_null, recursive, assigned, clash, override_changed, lost_binding, would_not_compile, lost_dependence, bad_span, too_long, nothing_to_undo, nothing_to_redo, report_full, too_many_sites}
use Rattle.jr_sources.specs.Sources.{LacksFile}
use Rattle.jr_session.specs.States.{State}
use Rattle.jr_session.specs.Lengths.{AreTooLong}
use Rattle.jr_session.specs.Refusing.{Applies, CutsBadly, WouldMake}

-- ---- edits

abbrev pub MayRefuseEdit : State → (file : List ℕ) → (from to : ℕ) → (text : List ℕ) → Refusal → Type 0
MayRefuseEdit s file from to text r =
    ((r ≡ no_such_file file) × LacksFile s.files file)
    ⊎ (((r ≡ bad_span from to) × CutsBadly s (step.Edit file from to text) from to)
    ⊎ ((len : ℕ) × (r ≡ too_long len) × ((texts : List (List ℕ)) × WouldMake s (step.Edit file from to text) texts × AreTooLong texts len)))

same_span : (file file' : List ℕ) (from to from' to' : ℕ) (text text' : List ℕ) → step.Edit file from to text ≡ step.Edit file' from' to' text' → (from' ≡ from) × (to' ≡ to)
same_span file file' from to from' to' text text' e = (cc, cc)

bad_edit : (s : State) (file text : List ℕ) (from to f t : ℕ) → CutsBadly s (step.Edit file from to text) f t → MayRefuseEdit s file from to text (bad_span f t)
bad_edit s file text from to f t h =
    let same = same_span file h.edit.file from to f t text h.text h.edit.is in
    by same.0 same.1 h
  where
    by : f ≡ from → t ≡ to → CutsBadly s (step.Edit file from to text) f t → MayRefuseEdit s file from to text (bad_span f t)
    by p q c = inr (inl (λ i. bad_span (p i) (q i), subst (λ (n : ℕ). CutsBadly s (step.Edit file from to text) from n) q (subst (λ (n : ℕ). CutsBadly s (step.Edit file from to text) n t) p c)))

no_show : (file text shown : List ℕ) (of : What) (from to : ℕ) → step.Edit file from to text ≡ step.Show shown of → ⊥
no_show file text shown of from to e = cc

pub no_undo : (file text : List ℕ) (from to : ℕ) → step.Edit file from to text ≡ step.Undo → ⊥
no_undo file text from to e = cc

pub no_redo : (file text : List ℕ) (from to : ℕ) → step.Edit file from to text ≡ step.Redo → ⊥
no_redo file text from to e = cc

pub edit_refusals : (s : State) (file text : List ℕ) (from to : ℕ) (r : Refusal) → Applies s (step.Edit file from to text) r → MayRefuseEdit s file from to text r
edit_refusals s file text from to (no_such_file a) h = inl (ap no_such_file h.0, subst (LacksFile s.files) h.0 h.1)
edit_refusals s file text from to (bad_place a b) h = absurd h
edit_refusals s file text from to (bad_name a) h = absurd h
edit_refusals s file text from to (source_error a b d) h = absurd h.0
edit_refusals s file text from to (bad_target a b) h = absurd h
edit_refusals s file text from to (prelude_method a) h = absurd h
edit_refusals s file text from to (conditional a) h = absurd h
edit_refusals s file text from to (has_return a) h = absurd h
edit_refusals s file text from to (two_results a b) h = absurd h
edit_refusals s file text from to (many_targets a b) h = absurd h
edit_refusals s file text from to (may_be_null a) h = absurd h
edit_refusals s file text from to (recursive a) h = absurd h
edit_refusals s file text from to (assigned a b) h = absurd h
edit_refusals s file text from to (clash a) h = absurd h
edit_refusals s file text from to (override_changed a b) h = absurd h
edit_refusals s file text from to (lost_binding a b d) h = absurd h
edit_refusals s file text from to (would_not_compile a b) h = absurd h
edit_refusals s file text from to (lost_dependence a b d) h = absurd h
edit_refusals s file text from to (bad_span f t) h = bad_edit s file text from to f t h
edit_refusals s file text from to (too_long len) h = inr (inr (len, refl, h))
edit_refusals s file text from to nothing_to_undo h = absurd (no_undo file text from to h.0)
edit_refusals s file text from to nothing_to_redo h = absurd (no_redo file text from to h.0)
edit_refusals s file text from to (report_full a) h = absurd (no_show file text h.1.shows.file h.1.shown from to h.1.shows.is)
edit_refusals s file text from to (too_many_sites a b) h = absurd (no_show file text h.shows.file what.Dependences from to h.shows.is)

-- ---- undoing

pub undo_no_edit : (file text : List ℕ) (from to : ℕ) → step.Undo ≡ step.Edit file from to text → ⊥
undo_no_edit file text from to e = cc

undo_no_show : (shown : List ℕ) (of : What) → step.Undo ≡ step.Show shown of → ⊥
undo_no_show shown of e = cc

undo_no_other : step.Undo ≡ step.Redo → ⊥
undo_no_other e = cc

pub undo_refusals : (s : State) (r : Refusal) → Applies s step.Undo r → (r ≡ nothing_to_undo) × (s.undo ≡ [])
undo_refusals s (no_such_file a) h = absurd h.0
undo_refusals s (bad_place a b) h = absurd h
undo_refusals s (bad_name a) h = absurd h
undo_refusals s (source_error a b d) h = absurd h.0
undo_refusals s (bad_target a b) h = absurd h
undo_refusals s (prelude_method a) h = absurd h
undo_refusals s (conditional a) h = absurd h
undo_refusals s (has_return a) h = absurd h
undo_refusals s (two_results a b) h = absurd h
undo_refusals s (many_targets a b) h = absurd h
undo_refusals s (may_be_null a) h = absurd h
undo_refusals s (recursive a) h = absurd h
undo_refusals s (assigned a b) h = absurd h
undo_refusals s (clash a) h = absurd h
undo_refusals s (override_changed a b) h = absurd h
undo_refusals s (lost_binding a b d) h = absurd h
undo_refusals s (would_not_compile a b) h = absurd h
undo_refusals s (lost_dependence a b d) h = absurd h
undo_refusals s (bad_span f t) h = absurd (undo_no_edit h.edit.file h.text f t h.edit.is)
undo_refusals s (too_long len) h = absurd (undo_no_edit h.1.edit.file h.1.text h.1.span.from h.1.span.to h.1.edit.is)
undo_refusals s nothing_to_undo h = (refl, h.1)
undo_refusals s nothing_to_redo h = absurd (undo_no_other h.0)
undo_refusals s (report_full a) h = absurd (undo_no_show h.1.shows.file h.1.shown h.1.shows.is)
undo_refusals s (too_many_sites a b) h = absurd (undo_no_show h.shows.file what.Dependences h.shows.is)

-- ---- redoing

pub redo_no_edit : (file text : List ℕ) (from to : ℕ) → step.Redo ≡ step.Edit file from to text → ⊥
redo_no_edit file text from to e = cc

redo_no_show : (shown : List ℕ) (of : What) → step.Redo ≡ step.Show shown of → ⊥
redo_no_show shown of e = cc

redo_no_other : step.Redo ≡ step.Undo → ⊥
redo_no_other e = cc

pub redo_refusals : (s : State) (r : Refusal) → Applies s step.Redo r → (r ≡ nothing_to_redo) × (s.redo ≡ [])
redo_refusals s (no_such_file a) h = absurd h.0
redo_refusals s (bad_place a b) h = absurd h
redo_refusals s (bad_name a) h = absurd h
redo_refusals s (source_error a b d) h = absurd h.0
redo_refusals s (bad_target a b) h = absurd h
redo_refusals s (prelude_method a) h = absurd h
redo_refusals s (conditional a) h = absurd h
redo_refusals s (has_return a) h = absurd h
redo_refusals s (two_results a b) h = absurd h
redo_refusals s (many_targets a b) h = absurd h
redo_refusals s (may_be_null a) h = absurd h
redo_refusals s (recursive a) h = absurd h
redo_refusals s (assigned a b) h = absurd h
redo_refusals s (clash a) h = absurd h
redo_refusals s (override_changed a b) h = absurd h
redo_refusals s (lost_binding a b d) h = absurd h
redo_refusals s (would_not_compile a b) h = absurd h
redo_refusals s (lost_dependence a b d) h = absurd h
redo_refusals s (bad_span f t) h = absurd (redo_no_edit h.edit.file h.text f t h.edit.is)
redo_refusals s (too_long len) h = absurd (redo_no_edit h.1.edit.file h.1.text h.1.span.from h.1.span.to h.1.edit.is)
redo_refusals s nothing_to_undo h = absurd (redo_no_other h.0)
redo_refusals s nothing_to_redo h = (refl, h.1)
redo_refusals s (report_full a) h = absurd (redo_no_show h.1.shows.file h.1.shown h.1.shows.is)
redo_refusals s (too_many_sites a b) h = absurd (redo_no_show h.shows.file what.Dependences h.shows.is)
