-- A simple name that finds the same variable in both programs, which keeps its name, stays.
use Rattle.std.proofs.Common.{◌≡◌, ℕ, List, [], Some, None, cond, refl, sym, ap, subst, ◌∙◌, arith, inl, inr}
use Rattle.std.specs.Prelude.{Option, option_map}
use Rattle.std.specs.Cmp.Lexicographic.{bytes_decides}
use Rattle.jr_table.specs.declared.answers.Answer.{Answer}
use Rattle.jr_table.specs.declared.answers.Answer.TheVariants as number
use Rattle.jr_table.specs.Keys.{FieldKey}
use Rattle.jr_table.specs.Decls.{LocalKey, Decl, class_decl, field_decl, method_decl, constructor_decl, local_decl}
use Rattle.jr_table.specs.Rows.{Row}
use Rattle.jr_table.specs.Entries.{class_number, entries_of}
use Rattle.jr_table.specs.Found.{one}
use Rattle.jr_table.specs.Fields.{find_field}
use Rattle.jr_table.specs.Scope.{Scope, last_named}
use Rattle.jr_table.specs.Lookup.{FindsVariable, find_variable, local_or, shown, shown_one, decl_at}
use Rattle.jr_table.specs.LookupLaws.{KeysAreFound}
use Rattle.jr_table.specs.Context.{scope_of}
use Rattle.jr_scopes.specs.Helds.{key_of, last_number}
use Rattle.jr_spell.specs.declared.spellings.Form.TheVariants.{Asked}
use Rattle.jr_rewrite.specs.Respellings.{stays, same}
use Rattle.jr_images.specs.Spelling.{renamed, respelled, OfImage}
use Rattle.jr_new_words.specs.Mappings.{KeyMapping, Mapping, field_by, decl_by, numbered_key, name_to, field_to, member_to, local_to}
use Rattle.jr_new_words.specs.declared.scopes.Scopes as raw
use Rattle.jr_new_words.specs.Scopes.{rows_of, mapping_of, rows_to, member_of, locals_in, context_of, place_to, IsKept}
use Rattle.jr_new_words.specs.Chosen.{VariableIsChosen}
use Rattle.jr_new_words.specs.Ways.{local, SpellsTo, Gone}
use Rattle.jr_new_words.proofs.Images.{local_is}
use Rattle.jr_new_words.specs.Staying.{FindsRow, LocalStays, FieldStays}
use Rattle.jr_new_words.proofs.Kept.{image_last, own_last, moved, moved_old}
use Rattle.jr_new_words.proofs.SimpleNames.{finds_local, finds_bare}

-- what a row declares is found where the answer is that row
module _ (rows : List Row) (keys : KeysAreFound rows) (s : Scope) (name : List ℕ) where
  abbrev bare : Scope
  bare = record { class = s.class; is_static = s.is_static; locals = [] }

  no_last : last_named name [] ≡ None
  unfolding last_named
  no_last = refl

  row_is : (a : Answer) → a ≡ find_field (entries_of rows) (class_number rows s.class) s.is_static name → find_variable rows bare name ≡ shown rows a
  unfolding find_variable
  row_is a is =
      ap (local_or rows (find_field (entries_of rows) (class_number rows s.class) s.is_static name)) no_last ∙ ap (shown rows) (sym is)

  one_is : (j : ℕ) (d : Decl) → decl_at rows j ≡ Some d → shown rows (number.One j) ≡ one d
  unfolding shown
  one_is j d at = ap (shown_one one) at

  pub finds_row : (a : Answer) → a ≡ find_field (entries_of rows) (class_number rows s.class) s.is_static name → (j : ℕ) → a ≡ number.One j → FindsRow rows s name j
  finds_row a is j one_row = λ d at. (keys.variable bare name (one d)).0 (row_is a is ∙ ap (shown rows) one_row ∙ one_is j d at)

-- a declaration whose image is a field is one
field_before : (x : KeyMapping) (d : Decl) (k : FieldKey) → decl_by x d ≡ field_decl k → (f : FieldKey) × (d ≡ field_decl f) × (field_by x f ≡ k)
field_before x (class_decl c) k e = absurd cc
field_before x (field_decl f) k e = (f, refl, cc)
field_before x (method_decl m) k e = absurd cc
field_before x (constructor_decl q) k e = absurd cc
field_before x (local_decl l) k e = absurd cc

-- the same name is no other
pub stays_so : (old new : List ℕ) → new ≡ old → stays ≡ renamed old new
stays_so old new e = sym (ap (λ b. cond b stays (respelled new same)) ((bytes_decides old new).1 (sym e)))

module _ (s : raw.Scopes) (kept : IsKept s) (name : List ℕ) (at : ℕ) (own : KeysAreFound (rows_of s)) (new : KeysAreFound (rows_to s)) where
  abbrev g : Mapping
  g = mapping_of s

  pub local_chosen : (n : ℕ) → Some n ≡ last_number name (locals_in s) → LocalStays s name n → VariableIsChosen (rows_of s) g (context_of s) at name (Some stays)
  local_chosen n last h =
      let k = key_of (member_of s) n in
      let image = key_of (member_to g (member_of s)) h.to in
      let kept_is : local_to g k ≡ Some image = local_is g.keys g.locals k ∙ ap (option_map (numbered_key g.keys k)) h.kept in
      let there = finds_local (rows_of s) own (scope_of (context_of s)) name k (own_last s name ∙ ap (option_map (key_of (member_of s))) (sym last)) in
      let here = finds_local (rows_to s) new (place_to s) name image (image_last s kept name ∙ ap (option_map (key_of (member_to g (member_of s)))) h.image) in
      let is : name_to g (local_decl k) name ≡ name = h.keeps in
      let binds = subst (λ n. FindsVariable (rows_to s) (place_to s) n (one (local_decl image))) (sym is) here in
      inl (
        k,
        (
          there,
          subst (λ (o : Option LocalKey). OfImage o (λ (i : LocalKey). SpellsTo (rows_of s) g (context_of s) (local_decl i) local [] at name (local_decl k) stays) (Gone (rows_of s) g (context_of s) local [] at name (local_decl k) stays)) (sym kept_is)
              (inl (
                Asked,
                record { place = 0; stands = refl; binds = binds; first = λ i f below at b. omega arith },
                stays_so name (name_to g (local_decl k) name) is,
              )),
        ),
      )

  pub field_chosen : None ≡ last_number name (locals_in s) → FieldStays s name → VariableIsChosen (rows_of s) g (context_of s) at name (Some stays)
  field_chosen last h =
      let S = scope_of (context_of s) in
      let i = h.number in
      let j = h.image in
      let k = h.declares.0 in
      let old = h.becomes (field_decl k) h.declares.1 in
      let before = field_before g.keys old.0 k old.2 in
      let f = before.0 in
      let old_at : decl_at (rows_of s) i ≡ Some (field_decl f) = old.1 ∙ ap Some before.1 in
      let new_at : decl_at (rows_to s) j ≡ Some (field_decl k) = moved s kept (λ rows x. decl_at rows j ≡ Some (field_decl k)) h.declares.1 in
      let no_own = own_last s name ∙ ap (option_map (key_of (member_of s))) (sym last) in
      let no_new = image_last s kept name ∙ ap (option_map (key_of (member_to g (member_of s)))) h.no_image in
      let there = finds_bare (rows_of s) own S name no_own (one (field_decl f)) (moved_old s kept (λ x. FindsRow (rows_of s) x name i) h.before (field_decl f) old_at) in
      let here = finds_bare (rows_to s) new (place_to s) name no_new (one (field_decl k)) (moved s kept (λ rows x. FindsRow rows x name j) h.after (field_decl k) new_at) in
      let is : (field_to g f).name ≡ name = ap (λ (x : FieldKey). x.name) before.2 ∙ h.declares.2 in
      let asked = subst (λ n. FindsVariable (rows_to s) (place_to s) n (one (field_decl k))) (sym is) here in
      let binds = subst (λ (x : FieldKey). FindsVariable (rows_to s) (place_to s) (field_to g f).name (one (field_decl x))) (sym before.2) asked in
      inr (
        f,
        (
          there,
          inl (
            Asked,
            record { place = 0; stands = refl; binds = binds; first = λ i f below at b. omega arith },
            stays_so name (field_to g f).name is,
          ),
        ),
      )
