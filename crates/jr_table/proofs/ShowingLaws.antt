-- What is found by numbers, shown by keys.
use Rattle.std.proofs.Common.{◌≡◌, ℕ, List, Option, Some, None, Bool, refl, sym, ap, subst, ◌∙◌, inl, inr}
use Rattle.std.specs.Prelude.{◌⊎◌, ◌↔◌, slice_get, option_map}
use Rattle.jr_table.specs.declared.entries.Kind.{Kind}
use Rattle.jr_table.specs.declared.entries.Entry.{Entry}
use Rattle.jr_table.specs.declared.answers.Answer.{Answer}
use Rattle.jr_table.specs.declared.answers.Answer.TheVariants.{One, Nothing, Many, NotAccessible, FromStatic}
use Rattle.jr_table.specs.Decls.{Decl}
use Rattle.jr_table.specs.Rows.{Row}
use Rattle.jr_table.specs.Found.{Found, one, nothing, many, not_accessible, from_static}
use Rattle.jr_table.specs.Entries.{IsRowOf, top_class, entries_of}
use Rattle.jr_table.specs.Members.{DeclaresField, DeclaresType, DeclaresMethod, IsMemberField, IsMemberType, IsMemberMethod}
use Rattle.jr_table.specs.Access.{IsAccessible}
use Rattle.jr_table.specs.Choice.{Chooses}
use Rattle.jr_table.specs.Fields.{FindsField, FindsMember, FindsFieldOf, FindsMemberType}
use Rattle.jr_table.specs.TypeNames.{FindsType}
use Rattle.jr_table.specs.Calls.{IsMethodCandidate, DeclaresCtor, IsCtorCandidate, IsAsSpecific, FindsMethod, FindsCtor, FindsCall}
use Rattle.jr_table.specs.Lookup.{Shows, ByKeys, decl_at, shown_one, shown_two, shown}
use Rattle.jr_table.proofs.RowLaws.{RowAt, row_at, some_inside}
use Rattle.jr_table.proofs.Border.{member_declares}

module _ (rows : List Row) where
  abbrev es : List Entry
  es = entries_of rows

  abbrev Stands : ℕ → Type 0
  Stands j = (r : Row) × (slice_get rows j ≡ Some r)

  -- each number of an answer is that of a row
  abbrev pub AllStand : Answer → Type 0
  AllStand (One j) = Stands j
  AllStand Nothing = Unit {0}
  AllStand (Many j k) = Stands j × Stands k
  AllStand (NotAccessible j) = Stands j
  AllStand (FromStatic j) = Stands j

  row_of : (j : ℕ) (s : Stands j) → IsRowOf rows s.0.decl j
  row_of j s = record { row = s.0; stands = s.1; declares = refl }

  decl_is : (j : ℕ) (s : Stands j) → decl_at rows j ≡ Some s.0.decl
  decl_is j s = ap (option_map (λ (r : Row). r.decl)) s.1

  is_decl : (d : Decl) (j : ℕ) → IsRowOf rows d j → decl_at rows j ≡ Some d
  is_decl d j r = ap (option_map (λ (x : Row). x.decl)) r.stands ∙ ap Some r.declares

  shows : (a : Answer) → AllStand a → Shows rows a (shown rows a)
  unfolding shown
  shows (One j) s = subst (λ o. Shows rows (One j) (shown_one one o)) (sym (decl_is j s)) (row_of j s)
  shows Nothing s = tt
  shows (Many j k) (s, t) = subst (λ o. Shows rows (Many j k) (shown_two o (decl_at rows k))) (sym (decl_is j s)) (subst (λ o. Shows rows (Many j k) (shown_two (Some s.0.decl) o)) (sym (decl_is k t)) (row_of j s, row_of k t))
  shows (NotAccessible j) s = subst (λ o. Shows rows (NotAccessible j) (shown_one not_accessible o)) (sym (decl_is j s)) (row_of j s)
  shows (FromStatic j) s = subst (λ o. Shows rows (FromStatic j) (shown_one from_static o)) (sym (decl_is j s)) (row_of j s)

  shown_is : (a : Answer) (f : Found) → Shows rows a f → shown rows a ≡ f
  unfolding shown
  shown_is (One j) (one d) r = ap (shown_one one) (is_decl d j r)
  shown_is Nothing nothing h = refl
  shown_is (Many j k) (many d e) (r, s) = ap (λ o. shown_two o (decl_at rows k)) (is_decl d j r) ∙ ap (shown_two (Some d)) (is_decl e k s)
  shown_is (NotAccessible j) (not_accessible d) r = ap (shown_one not_accessible) (is_decl d j r)
  shown_is (FromStatic j) (from_static d) r = ap (shown_one from_static) (is_decl d j r)
  shown_is _ _ h = absurd h

  -- a relation by numbers that has one answer, whose rows stand, by keys
  pub by_keys : (Finds : Answer → Type 0) (a : Answer) → ((b : Answer) → (a ≡ b) ↔ Finds b) → AllStand a → (f : Found) → (shown rows a ≡ f) ↔ ByKeys rows Finds f
  by_keys Finds a law stand f = (
    λ e. (a, (law a).0 refl, subst (Shows rows a) e (shows a stand)),
    λ k. ap (shown rows) ((law k.0).1 k.1) ∙ shown_is k.0 f k.2,
  )

  -- rows that stand
  entry_stands : (j : ℕ) (e : Entry) → slice_get es j ≡ Some e → Stands j
  entry_stands j e h = let r = row_at rows j e h in (r.row, r.stands)

  field_stands : (name : List ℕ) (c j : ℕ) → IsMemberField es name c j → Stands j
  field_stands name c j m = let d = (member_declares es (DeclaresField es name) m.chain j m.among).1 in entry_stands j d.row d.stands

  type_stands : (name : List ℕ) (c j : ℕ) → IsMemberType es name c j → Stands j
  type_stands name c j m = let d = (member_declares es (DeclaresType es name) m.chain j m.among).1 in entry_stands j d.row d.stands

  method_stands : (c : ℕ) (name : List ℕ) (args : List Kind) (j : ℕ) → IsMethodCandidate es c name args j → Stands j
  method_stands c name args j k = let m = k.own in let d = (member_declares es (DeclaresMethod es name k.params) m.chain j m.among).1 in entry_stands j d.row d.stands

  ctor_stands : (c : ℕ) (args : List Kind) (j : ℕ) → IsCtorCandidate es c args j → Stands j
  ctor_stands c args j k = entry_stands j k.own.row k.own.stands

  pub field_all : (c : ℕ) (is_static : Bool) (name : List ℕ) (a : Answer) → FindsField es c is_static name a → AllStand a
  field_all c is_static name (One j) (e, inner, m, has) = field_stands name e j m
  field_all c is_static name (FromStatic j) (e, inner, m, lacking) = field_stands name e j m
  field_all c is_static name Nothing h = tt
  field_all c is_static name (Many j k) h = absurd h
  field_all c is_static name (NotAccessible j) h = absurd h

  member_all : (place : ℕ) (Member : ℕ → Type 0) → ((j : ℕ) → Member j → Stands j) → (a : Answer) → FindsMember es place Member a → AllStand a
  member_all place Member stand (One j) h = stand j h.0
  member_all place Member stand (NotAccessible j) h = stand j h.0
  member_all place Member stand Nothing h = tt
  member_all place Member stand (Many j k) h = absurd h
  member_all place Member stand (FromStatic j) h = absurd h

  pub field_of_all : (place c : ℕ) (name : List ℕ) (a : Answer) → FindsFieldOf es place c name a → AllStand a
  field_of_all place c name a h = member_all place (IsMemberField es name c) (field_stands name c) a h

  pub member_type_all : (place c : ℕ) (name : List ℕ) (a : Answer) → FindsMemberType es place c name a → AllStand a
  member_type_all place c name a h = member_all place (IsMemberType es name c) (type_stands name c) a h

  pub type_all : (c : ℕ) (name : List ℕ) (a : Answer) → FindsType rows c name a → AllStand a
  type_all c name (One j) (inl (e, inner, m)) = type_stands name e j m
  type_all c name (One j) (inr (none, r)) = (r.row, r.stands)
  type_all c name Nothing h = tt
  type_all c name (Many j k) h = absurd h
  type_all c name (NotAccessible j) h = absurd h
  type_all c name (FromStatic j) h = absurd h

  chosen_all : (place : ℕ) (Candidate : ℕ → Type 0) → ((j : ℕ) → Candidate j → Stands j) → (a : Answer) → Chooses Candidate (λ j. Candidate j × IsAccessible es place j) (IsAsSpecific es) a → AllStand a
  chosen_all place Candidate stand (One j) h = stand j h.best.own.0
  chosen_all place Candidate stand (Many j k) h = (stand j h.0.0.0, stand k h.0.1.0)
  chosen_all place Candidate stand (NotAccessible j) h = stand j h.0.0
  chosen_all place Candidate stand Nothing h = tt
  chosen_all place Candidate stand (FromStatic j) h = absurd h

  pub method_all : (place c : ℕ) (name : List ℕ) (args : List Kind) (a : Answer) → FindsMethod es place c name args a → AllStand a
  method_all place c name args a h = chosen_all place (IsMethodCandidate es c name args) (method_stands c name args) a h

  pub ctor_all : (place c : ℕ) (args : List Kind) (a : Answer) → FindsCtor es place c args a → AllStand a
  ctor_all place c args a h = chosen_all place (IsCtorCandidate es c args) (ctor_stands c args) a h

  pub call_all : (c : ℕ) (is_static : Bool) (name : List ℕ) (args : List Kind) (a : Answer) → FindsCall es c is_static name args a → AllStand a
  call_all c is_static name args (One j) (e, inner, m, has) = method_all c e name args (One j) m
  call_all c is_static name args (FromStatic j) (e, inner, m, lacking) = method_all c e name args (One j) m
  call_all c is_static name args (Many j k) (e, inner, m) = method_all c e name args (Many j k) m
  call_all c is_static name args (NotAccessible j) (e, inner, m) = method_all c e name args (NotAccessible j) m
  call_all c is_static name args Nothing h = tt
