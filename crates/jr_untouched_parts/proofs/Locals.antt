-- Extract and inline local leave all but the list of their statement.
use Rattle.std.proofs.Common.{◌≡◌, ◌≢◌, ℕ, ◌≤◌, List, Some, Bool, true, false, refl, sym, ap, subst, ◌∙◌, inl, inr, arith}
use Rattle.std.specs.Prelude.{slice_get, nat_eq}
use Rattle.std.proofs.lemmas.Bool.{eq-eqb, eqb-true}
use Rattle.jr_text.specs.declared.spans.Span.{Span}
use Rattle.jr_ast.specs.StatementTree as statement
use Rattle.jr_grammar.specs.Layout.{itself}
use Rattle.jr_table.specs.Decls.{LocalKey}
use Rattle.jr_table.specs.Context.{Context, Local, locals_in, locals_in_else, locals_in_row}
use Rattle.jr_bind.specs.Programs.{Program}
use Rattle.jr_rewrite.specs.Spots.{Spotted, nowhere, spotted}
use Rattle.jr_rewrite.specs.Rewrites.{TransformsList}
use Rattle.jr_plan.specs.Transforms.{Transform, choosing_of}
use Rattle.jr_local.specs.Extracted as extracted
use Rattle.jr_local.specs.Inlined as inlined
use Rattle.jr_local.specs.Inlining.{Declared}
use Rattle.jr_untouched_parts.specs.Around.{Place, element, held, IsOutside, IsAround, IsThere, OneSpot, NoSpot, LeavesRest, ListBecomes}
use Rattle.jr_untouched_parts.specs.Locals.{ExtractsAreWhole, InlinesAreWhole}
use Rattle.jr_untouched_parts.proofs.LocalSights.{around_sees, without_sees}
use Rattle.jr_untouched_parts.proofs.WholeProgram.{Laws, list_is_whole}

pub other_number : (m n : ℕ) → m ≢ n → nat_eq m n ≡ false
other_number m n apart = by (nat_eq m n) refl
  where
    by : (b : Bool) → nat_eq m n ≡ b → nat_eq m n ≡ false
    by true e = absurd (apart (eqb-true m n e))
    by false e = e

pub no_spot : NoSpot nowhere
no_spot = record {
  part = λ k c r base e. tt;
  list = λ n c base xs. tt;
  members = λ base of xs. tt;
  whole = λ base outer d. tt;
  this = tt;
}

-- ---- extract local

module _ (p : Program Span) (file from to : ℕ) (name : List ℕ) (f : extracted.Found p file from to name) where
  abbrev selected_at : Place p file
  selected_at = record { body = f.selected.body; has = f.selected.has; value = f.selected.value; way = f.selected.way }

  abbrev extracts : Transform
  extracts = (extracted.extract_local p file from to name).transform f

  abbrev put_spot : Spotted Span
  put_spot = spotted (extracted.list_spot p file from to name f.selected f.text f.items f.type)

  extract_spot : extracts.spots file ≡ put_spot
  extract_spot = ap (λ (b : Bool). extracted.spots_if p file from to name f.selected f.text f.items f.type b) (eq-eqb file file refl)

  extract_elsewhere : (n : ℕ) → n ≢ file → extracts.spots n ≡ nowhere
  extract_elsewhere n apart = ap (λ (b : Bool). extracted.spots_if p file from to name f.selected f.text f.items f.type b) (other_number n file apart)

  extract_held : (n : ℕ) (c : Context) (xs : statement.Stmts Span) → extracted.IsHeld p file from to name f.selected n c xs → IsThere selected_at n c xs
  extract_held n c statement.end h = absurd h
  extract_held n c (statement.more s ss) h = record { next = h.0; context = h.1; list = λ i. statement.more (h.2 i) (h.3 i) }

  extract_leaves : LeavesRest extracts selected_at
  extract_leaves = record {
    keys = refl;
    sees = λ c around. around_sees p.rows (extracted.made p file from to name f.selected) name f.selected.type c;
    spot = subst (λ (S : Spotted Span). OneSpot selected_at S) (sym extract_spot) (record {
      part = λ k c r base e. tt;
      list = λ n c base xs apart h. apart (extract_held n c xs h);
      members = λ base of xs. tt;
      whole = λ base outer d. tt;
      this = tt;
    });
    others = λ n apart. subst (λ (S : Spotted Span). NoSpot S) (sym (extract_elsewhere n apart)) no_spot;
  }

pub extracts_are_whole : Laws → ExtractsAreWhole
extracts_are_whole laws p program file from to name f o puts =
    let x = selected_at p file from to name f in
    let t = extracts p file from to name f in
    let becomes : ListBecomes t x o = subst (λ (S : Spotted Span). TransformsList itself (choosing_of p t) S (element x).at.next (element x).at.context (element x).at.base (held (element x)) o) (sym (extract_spot p file from to name f)) (inr ((refl, refl, refl, refl), puts)) in
    list_is_whole laws p program t file x (extract_leaves p file from to name f) o becomes (extracted.lost_type p file from to name f) refl

-- ---- inline local

module _ (p : Program Span) (file at : ℕ) (f : inlined.Found p file at) where
  abbrev declared : Declared p file f.asked.key
  declared = f.asked.declared

  abbrev declared_at : Place p file
  declared_at = record { body = declared.body; has = declared.has; value = declared.init; way = declared.declares.way }

  abbrev inlines : Transform
  inlines = (inlined.inline_local p file at).transform f

  abbrev gone_spot : Spotted Span
  gone_spot = spotted (inlined.list_spot p file at f.asked f.type f.text f.items f.copies f.gone)

  inline_spot : inlines.spots file ≡ gone_spot
  inline_spot = ap (λ (b : Bool). inlined.spots_if p file at f.asked f.type f.text f.items f.copies b f.gone) (eq-eqb file file refl)

  inline_elsewhere : (n : ℕ) → n ≢ file → inlines.spots n ≡ nowhere
  inline_elsewhere n apart = ap (λ (b : Bool). inlined.spots_if p file at f.asked f.type f.text f.items f.copies b f.gone) (other_number n file apart)

  inline_held : (n : ℕ) (c : Context) (xs : statement.Stmts Span) → inlined.IsHeld p file at f.asked f.type n c xs → IsThere declared_at n c xs
  inline_held n c statement.end h = absurd h
  inline_held n c (statement.more s ss) h = record { next = h.0; context = h.1; list = λ i. statement.more (h.2 i) (h.3 i) }

  -- the list declares one local at least
  declares_some : 1 ≤ locals_in_row (held (element declared_at))
  unfolding locals_in locals_in_else locals_in_row
  declares_some =
      let one : locals_in (element declared_at).stmt ≡ 1 = ap (λ (s : statement.Stmt Span). locals_in s) declared.declares.is in
      omega (arith, one)

  -- so it is one of the list's
  not_outside : (k : LocalKey) → k ≡ f.asked.key → IsOutside (element declared_at) k.number → ⊥
  not_outside k is (inl less) = omega (arith, less, ap (λ (l : LocalKey). l.number) is, declared.declares.number)
  not_outside k is (inr more) = omega (arith, more, ap (λ (l : LocalKey). l.number) is, declared.declares.number, declares_some)

  not_in_scope : (c : Context) → IsAround declared_at c → (i : ℕ) (l : Local) → slice_get c.locals i ≡ Some l → l.key ≢ f.asked.key
  not_in_scope c around i l stands = λ e. not_outside l.key e (around i l stands (ap (λ (k : LocalKey). k.member) e ∙ sym declared.member))

  inline_leaves : LeavesRest inlines declared_at
  inline_leaves = record {
    keys = refl;
    sees = λ c around. without_sees p.rows f.asked.key f.type c (not_in_scope c around);
    spot = subst (λ (S : Spotted Span). OneSpot declared_at S) (sym inline_spot) (record {
      part = λ k c r base e. tt;
      list = λ n c base xs apart h. apart (inline_held n c xs h);
      members = λ base of xs. tt;
      whole = λ base outer d. tt;
      this = tt;
    });
    others = λ n apart. subst (λ (S : Spotted Span). NoSpot S) (sym (inline_elsewhere n apart)) no_spot;
  }

pub inlines_are_whole : Laws → InlinesAreWhole
inlines_are_whole laws p program file at f o goes =
    let x = declared_at p file at f in
    let t = inlines p file at f in
    let becomes : ListBecomes t x o = subst (λ (S : Spotted Span). TransformsList itself (choosing_of p t) S (element x).at.next (element x).at.context (element x).at.base (held (element x)) o) (sym (inline_spot p file at f)) (inr ((refl, refl, refl, refl), goes)) in
    list_is_whole laws p program t file x (inline_leaves p file at f) o becomes (inlined.lost_copies p file at f) refl
