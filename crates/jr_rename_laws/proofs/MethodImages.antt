-- The program that the renaming of a family of methods makes.
use Rattle.std.proofs.Common.{◌≡◌, ℕ, List, [], ◌∷◌, Some, true, false, refl, sym, ap, subst, ◌∙◌, arith}
use Rattle.std.specs.Prelude.{codes, option_map, slice_get}
use Rattle.std.proofs.lemmas.Option.{slice_get-map, same_Some}
use Rattle.jr_ast.specs.MemberTree as syntax
use Rattle.jr_ast.specs.declared.operators.ModWord.TheVariants as word
use Rattle.jr_table.specs.declared.entries.Entry.{Entry}
use Rattle.jr_table.specs.Keys.{MethodKey}
use Rattle.jr_table.specs.Decls.{class_decl, field_decl, method_decl, local_decl}
use Rattle.jr_table.specs.Rows.{Row}
use Rattle.jr_table.specs.Entries.{IsRowOf, name_of, entry_of, entries_of}
use Rattle.jr_table.specs.Keyed.{Overrides}
use Rattle.jr_table.specs.Conditions.{AreRows}
use Rattle.jr_table.specs.Prelude.{thread_key, thread_row}
use Rattle.jr_table.specs.DeclaredItems.{declarations_of}
use Rattle.jr_names.specs.DeclTexts.{decl_text}
use Rattle.jr_images.specs.Targets.{IsOfPrelude}
use Rattle.jr_images.specs.Families.{InFamily, itself, above, below, AreRenamed}
use Rattle.jr_images.specs.Images.{Renaming, is_renamed}
use Rattle.jr_images.specs.Clashes.{IsClear}
use Rattle.jr_images.specs.Refusals.{HasPreludeMethod}
use Rattle.jr_rename_laws.specs.ImageLaws.{MethodsGiveImages}
use Rattle.jr_rename_laws.proofs.DeclarationRows.{early}
use Rattle.jr_rename_laws.proofs.Still.{IsStill, with_target, without_target}
use Rattle.jr_rename_laws.proofs.MemberNames.{OfMembers, member_names}
use Rattle.jr_rename_laws.proofs.Apart.{members_apart}
use Rattle.jr_rename_laws.proofs.StillImages.{still_images}

-- ---- a family has one name

method_named : (rows : List Row) (j : ℕ) (e : Entry) (m : MethodKey) → slice_get (entries_of rows) j ≡ Some e → IsRowOf rows (method_decl m) j → m.name ≡ e.name
unfolding entries_of
method_named rows j e m at is =
    let there : Some (entry_of rows is.row) ≡ Some e = sym (ap (option_map (entry_of rows)) is.stands) ∙ sym (slice_get-map (entry_of rows) rows j) ∙ at in
    ap name_of (sym is.declares) ∙ ap (λ (x : Entry). x.name) (same_Some _ _ there)

one_name : (rows : List Row) (m n : MethodKey) → Overrides rows m n → m.name ≡ n.name
one_name rows m n o =
    let up = o.overrides.over.declared in
    let down = o.overrides.under.declared in
    method_named rows o.j up.row m up.stands o.over ∙ up.named ∙ sym (method_named rows o.k down.row n down.stands o.under ∙ down.named)

family_named : (rows : List Row) (m n : MethodKey) → InFamily rows m n → m.name ≡ n.name
family_named rows m n itself = refl
family_named rows m n (above {n = k} o h) = one_name rows m k o ∙ family_named rows k n h
family_named rows m n (below {n = k} o h) = sym (one_name rows k m o) ∙ family_named rows k n h

module _ (rows : List Row) (k : MethodKey) (g : Renaming) (are : AreRenamed rows (method_decl k) g.decls) where
  named_so : (m : MethodKey) → is_renamed g (method_decl m) ≡ true → k.name ≡ m.name
  named_so m h =
      let r = with_target rows (method_decl k) g are (method_decl m) h in
      let e = r.1 in
      let same : m ≡ r.0 = cc in
      family_named rows k r.0 r.2 ∙ ap (λ (z : MethodKey). z.name) (sym same)

  pub of_method : {A : Type 0} (begins : A → ℕ → ℕ) (units : List (syntax.Unit A)) → IsClear begins rows units (method_decl k) g.name → OfMembers g rows
  of_method begins units clear = record {
    local = λ l. without_target rows (method_decl k) g are (local_decl l) (λ h. absurd (let e = h.1 in cc));
    fields = λ f h p q. absurd (let r = with_target rows (method_decl k) g are (field_decl f) p in let e = r.1 in cc);
    methods = λ m n p q. sym (named_so m p) ∙ named_so n q;
    clear_field = λ f d p row takes. absurd (let r = with_target rows (method_decl k) g are (field_decl f) p in let e = r.1 in cc);
    clear_method = λ m d p row takes. clear.alone d (row, (method_decl m, with_target rows (method_decl k) g are (method_decl m) p, takes));
  }

  -- none of the prelude's is in the family
  module _ (of_rows : AreRows rows) (never : (text : List ℕ) → HasPreludeMethod rows (method_decl k) text → ⊥) where
    apart : (m : MethodKey) → IsOfPrelude rows (method_decl m) → is_renamed g (method_decl m) ≡ false
    apart m old = without_target rows (method_decl k) g are (method_decl m) (λ h.
        let e = h.1 in
        let same : m ≡ h.0 = cc in
        never (decl_text (method_decl h.0)) (h.0, h.2, subst (λ (z : MethodKey). IsOfPrelude rows (method_decl z)) same old, refl))

    run_row : IsOfPrelude rows (method_decl (thread_key (codes "run")))
    run_row = (6, early 6 8 refl (omega arith), record { row = thread_row (word.Public ∷ []) (codes "run"); stands = ap (λ (xs : List Row). slice_get xs 6) of_rows.prelude; declares = refl })

    start_row : IsOfPrelude rows (method_decl (thread_key (codes "start")))
    start_row = (7, early 7 8 refl (omega arith), record { row = thread_row (word.Public ∷ []) (codes "start"); stands = ap (λ (xs : List Row). slice_get xs 7) of_rows.prelude; declares = refl })

    pub method_still : IsStill g
    method_still = record {
      class = λ j. without_target rows (method_decl k) g are (class_decl j) (λ h. absurd (let e = h.1 in cc));
      run = apart (thread_key (codes "run")) run_row;
      start = apart (thread_key (codes "start")) start_row;
    }

pub method_images : {A B : Type 0} → MethodsGiveImages A B
method_images tells begins' k packages rows super_at units g news b =
    still_images tells begins' (method_decl k) packages rows super_at units g news b (method_still rows k g b.renamed b.are b.no_prelude) (members_apart g rows (of_method rows k g b.renamed (λ m base. (tells m base).from) units b.clear))
    (λ ts to. member_names g rows (of_method rows k g b.renamed (λ m base. (tells m base).from) units b.clear) packages (declarations_of (λ m base. (tells m base).from) units) b.clean b.of_declarations ts to)
