-- What a rename leaves alone in a member that avoids its names; and such a member gives nothing.
use Rattle.std.proofs.Common.{◌≡◌, ℕ, List, [], ◌∷◌, refl, sym, ap, ◌∙◌, true≢false, inl, inr, eqb-true, eq-eqb}
use Rattle.std.specs.Prelude.{◌⊎◌, Option, Some, None, true, false, ◌||◌, ◌==◌, slice_get, Contains}
use Rattle.std.specs.List.{list_any}
use Rattle.std.proofs.lemmas.Bool.{false_from_ne_true, cases_Bool}
use Rattle.std.proofs.lemmas.Option.{slice_get_within, get_or_from_slice_get}
use Rattle.jr_text.specs.declared.spans.Span.{Span}
use Rattle.jr_table.specs.Keys.{ClassKey, FieldKey, MethodKey}
use Rattle.jr_table.specs.Decls.{MemberKey, LocalKey, Decl, class_decl, field_decl, method_decl, constructor_decl, local_decl}
use Rattle.jr_table.specs.SameDecls.{same_decl, decl_decides}
use Rattle.jr_table.specs.Rows.{Row}
use Rattle.jr_table.specs.Context.{Context}
use Rattle.jr_table.specs.Errors.{Part, class_part, member_part}
use Rattle.jr_members.specs.WrittenMembers.{WrittenMember}
use Rattle.jr_bind.specs.Programs.{Program}
use Rattle.jr_program_laws.specs.FileParts.{begins}
use Rattle.jr_grammar.specs.Layout.{itself}
use Rattle.jr_images.specs.Images.{Renaming, rows_to}
use Rattle.jr_images.specs.Spelling as rename
use Rattle.jr_new_words.specs.Mappings.{KeyMapping, same_keys, renamed, Mapping, HaveImages}
use Rattle.jr_new_words.specs.Spelled.{spelling}
use Rattle.jr_new_bodies.specs.Effects.{Effect, no_effect}
use Rattle.jr_new_files.specs.Files.{PartGives, OneGives}
use Rattle.jr_mentions.specs.Apart.{is_among, IsOther}
use Rattle.jr_new_files.specs.Spared.{IsSpared, IsKeyed}
use Rattle.jr_new_files.specs.PartLaws.{HasHeadKey}
use Rattle.jr_new_files.specs.FileEffects.{IsPut}
use Rattle.jr_new_files.specs.Unaffected.{IsAmong, AreAmong, AreAvoidable, IsUnaffectedBy, IsUnaffected, IsOfOther}
use Rattle.jr_new_files.specs.declared.unaffected.Unaffected as raw
use Rattle.jr_new_files.proofs.Gathering.{both_nothing}
use Rattle.jr_new_files.proofs.Mapped.{with_keys, as_mapping}

not_same : (d x : Decl) → (d ≡ x → ⊥) → same_decl d x ≡ false
not_same d x other = false_from_ne_true (same_decl d x) (λ t. other ((decl_decides d x).0 t))

module _ (names : List (List ℕ)) (d : Decl) (other : (x : Decl) → IsAmong names x → d ≡ x → ⊥) where
  none_among : (ds : List Decl) → AreAmong names ds → list_any (same_decl d) ds ≡ false
  none_among [] h = refl
  none_among (x ∷ ds) h = λ i. not_same d x (other x h.0) i || none_among ds h.1 i

only_other : (d : Decl) (l : LocalKey) (ds : List Decl) → ds ≡ local_decl l ∷ [] → (d ≡ local_decl l → ⊥) → list_any (same_decl d) ds ≡ false
only_other d l ds is other = ap (list_any (same_decl d)) is ∙ (λ i. not_same d (local_decl l) other i || false)

module _ (names : List (List ℕ)) where
  no_class : (q : ClassKey) (x : Decl) → IsAmong names x → class_decl q ≡ x → ⊥
  no_class q (class_decl k) h e = h
  no_class q (field_decl k) h e = absurd cc
  no_class q (method_decl k) h e = absurd cc
  no_class q (constructor_decl k) h e = h
  no_class q (local_decl k) h e = h

  no_local : (q : LocalKey) (x : Decl) → IsAmong names x → local_decl q ≡ x → ⊥
  no_local q (class_decl k) h e = h
  no_local q (field_decl k) h e = absurd cc
  no_local q (method_decl k) h e = absurd cc
  no_local q (constructor_decl k) h e = h
  no_local q (local_decl k) h e = h

  -- one of the names is none of the others
  among_other : (a b : List ℕ) → a ≡ b → IsOther names a → is_among names b ≡ true → ⊥
  among_other a b e other among = true≢false (sym among ∙ ap (is_among names) (sym e) ∙ other)

  field_name : (q k : FieldKey) → field_decl q ≡ field_decl k → q.name ≡ k.name
  field_name q k e = cc

  method_name : (q k : MethodKey) → method_decl q ≡ method_decl k → q.name ≡ k.name
  method_name q k e = cc

  no_field : (q : FieldKey) → IsOther names q.name → (x : Decl) → IsAmong names x → field_decl q ≡ x → ⊥
  no_field q other (class_decl k) h e = h
  no_field q other (field_decl k) h e = among_other q.name k.name (field_name q k e) other h
  no_field q other (method_decl k) h e = absurd cc
  no_field q other (constructor_decl k) h e = h
  no_field q other (local_decl k) h e = h

  no_method : (q : MethodKey) → IsOther names q.name → (x : Decl) → IsAmong names x → method_decl q ≡ x → ⊥
  no_method q other (class_decl k) h e = h
  no_method q other (field_decl k) h e = absurd cc
  no_method q other (method_decl k) h e = among_other q.name k.name (method_name q k e) other h
  no_method q other (constructor_decl k) h e = h
  no_method q other (local_decl k) h e = h

  local_member : (q l : LocalKey) → local_decl q ≡ local_decl l → q.member ≡ l.member
  local_member q l e = cc

  pub spared : (local : Option LocalKey) (ds : List Decl) (name : List ℕ) (k : MemberKey) → AreAvoidable names local ds → IsOfOther local k → IsSpared (record { decls = ds; name = name }) names k
  spared None ds name k among other = record {
    class = λ q. none_among names (class_decl q) (no_class q) ds among;
    local = λ n. none_among names (local_decl (record { member = k; number = n })) (no_local (record { member = k; number = n })) ds among;
    field = λ q o. none_among names (field_decl q) (no_field q o) ds among;
    method = λ q o. none_among names (method_decl q) (no_method q o) ds among;
  }
  spared (Some l) ds name k is other = record {
    class = λ q. only_other (class_decl q) l ds is (λ e. absurd cc);
    local = λ n. only_other (local_decl (record { member = k; number = n })) l ds is (λ e. other (sym (local_member (record { member = k; number = n }) l e)));
    field = λ q o. only_other (field_decl q) l ds is (λ e. absurd cc);
    method = λ q o. only_other (method_decl q) l ds is (λ e. absurd cc);
  }

pub contained : {X : Type 0} (xs : List X) (n : ℕ) (x : X) → slice_get xs n ≡ Some x → Contains xs x
contained xs n x e = (n, slice_get_within xs n x e, get_or_from_slice_get xs n x x e)

pub is_keyed : (k : MemberKey) (part : Part Span) → HasHeadKey k part → IsKeyed k part
is_keyed k (class_part c) h = h
is_keyed k (member_part x) h = tt

-- where a rename gives nothing for a member, its mapping doesn't
module _ (p : Program Span) (w : WrittenMember Span) (new : List Row) (u : raw.Unaffected) where
  abbrev super_at : Context → ℕ
  super_at c = p.super_at c.member

  pub nothing_by : (x : KeyMapping) → HaveImages x p.rows new → IsUnaffected x p.rows u
      → ((g : Renaming) → new ≡ rows_to g p.rows → IsUnaffectedBy p.rows g u → PartGives itself (rename.spelling begins p.rows g super_at) w.key w.base w.part no_effect)
      → PartGives itself (spelling begins p.rows (with_keys x new) super_at) w.key w.base w.part no_effect
  nothing_by same_keys images un gives = absurd un
  nothing_by (renamed g) images un gives = as_mapping p.rows g new super_at (λ C. PartGives itself C w.key w.base w.part no_effect) (gives g images un)

-- a member that gives nothing leaves what is gathered
pub put_nothing : (p : Program Span) (g : Mapping) (w : WrittenMember Span) → PartGives itself (spelling begins p.rows g (λ (c : Context). p.super_at c.member)) w.key w.base w.part no_effect
    → (es : List Effect) → IsPut p g w es es
put_nothing p g w gives es = record { as_many = refl; each = λ file e s. (e, no_effect, s, of file (cases_Bool (w.file == file)), sym (both_nothing e)) }
  where
    of : (file : ℕ) → ((w.file == file) ≡ true) ⊎ ((w.file == file) ≡ false) → OneGives itself (spelling begins p.rows g (λ (c : Context). p.super_at c.member)) file w no_effect
    of file (inl same) = inl (eqb-true w.file file same, gives)
    of file (inr apart) = inr ((λ at. let t = eq-eqb w.file file at in absurd cc), refl)
