-- What a lookup of another name than these finds by number has none of them, and so has what a lookup
-- of a type or a constructor finds.
use Rattle.std.proofs.Common.{ℕ, List, Bool, inl, inr}
use Rattle.jr_table.specs.declared.entries.Kind.{Kind}
use Rattle.jr_table.specs.declared.answers.Answer.{Answer}
use Rattle.jr_table.specs.declared.answers.Answer.TheVariants.{One, Nothing, Many, NotAccessible, FromStatic}
use Rattle.jr_table.specs.Rows.{Row}
use Rattle.jr_table.specs.Entries.{entries_of}
use Rattle.jr_table.specs.Members.{DeclaresField, DeclaresMethod, DeclaresType, IsMemberField, IsMemberMethod, IsMemberType}
use Rattle.jr_table.specs.Fields.{FindsField, FindsMember, FindsFieldOf, FindsMemberType}
use Rattle.jr_table.specs.TypeNames.{FindsType}
use Rattle.jr_table.specs.Calls.{IsMethodCandidate, IsCtorCandidate, ChoosesAt, FindsMethod, FindsCtor, FindsCall}
use Rattle.jr_mentions.specs.Apart.{IsOther}
use Rattle.jr_mentions.proofs.CleanRows.{CleanAt, CleanAnswer, field_clean, method_clean, type_clean, ctor_clean, class_clean, member_clean}

module _ (names : List (List ℕ)) (rows : List Row) where
  -- members of the name
  module _ (name : List ℕ) (other : IsOther names name) where
    field_member : (c j : ℕ) → IsMemberField (entries_of rows) name c j → CleanAt names rows j
    field_member c j m = member_clean names rows (DeclaresField (entries_of rows) name) (field_clean names rows name other) c j m

    method_member : (params : List Kind) (c j : ℕ) → IsMemberMethod (entries_of rows) name params c j
        → CleanAt names rows j
    method_member params c j m = member_clean names rows (DeclaresMethod (entries_of rows) name params)
        (method_clean names rows name other params) c j m

  type_member : (name : List ℕ) (c j : ℕ) → IsMemberType (entries_of rows) name c j → CleanAt names rows j
  type_member name c j m = member_clean names rows (DeclaresType (entries_of rows) name) (type_clean names rows name) c j m

  access_clean : (place : ℕ) (Member : ℕ → Type 0) → ((j : ℕ) → Member j → CleanAt names rows j) → (a : Answer)
      → FindsMember (entries_of rows) place Member a → CleanAnswer names rows a
  access_clean place Member clean (One j) h = clean j h.0
  access_clean place Member clean Nothing h = tt
  access_clean place Member clean (Many j k) h = absurd h
  access_clean place Member clean (NotAccessible j) h = clean j h.0
  access_clean place Member clean (FromStatic j) h = absurd h

  choice_clean : (place : ℕ) (Candidate : ℕ → Type 0) → ((j : ℕ) → Candidate j → CleanAt names rows j) → (a : Answer)
      → ChoosesAt (entries_of rows) place Candidate a → CleanAnswer names rows a
  choice_clean place Candidate clean (One j) h = clean j h.best.own.0
  choice_clean place Candidate clean Nothing h = tt
  choice_clean place Candidate clean (Many j k) h = (clean j h.0.0.0, clean k h.0.1.0)
  choice_clean place Candidate clean (NotAccessible j) h = clean j h.0.0
  choice_clean place Candidate clean (FromStatic j) h = absurd h

  pub field_answer : (name : List ℕ) → IsOther names name → (c : ℕ) (is_static : Bool) (a : Answer)
      → FindsField (entries_of rows) c is_static name a → CleanAnswer names rows a
  field_answer name other c is_static (One j) h = field_member name other h.0 j h.2
  field_answer name other c is_static Nothing h = tt
  field_answer name other c is_static (Many j k) h = absurd h
  field_answer name other c is_static (NotAccessible j) h = absurd h
  field_answer name other c is_static (FromStatic j) h = field_member name other h.0 j h.2

  pub field_of_answer : (name : List ℕ) → IsOther names name → (place c : ℕ) (a : Answer)
      → FindsFieldOf (entries_of rows) place c name a → CleanAnswer names rows a
  field_of_answer name other place c a h =
      access_clean place (IsMemberField (entries_of rows) name c) (field_member name other c) a h

  pub member_type_answer : (name : List ℕ) (place c : ℕ) (a : Answer)
      → FindsMemberType (entries_of rows) place c name a → CleanAnswer names rows a
  member_type_answer name place c a h =
      access_clean place (IsMemberType (entries_of rows) name c) (type_member name c) a h

  pub type_answer : (name : List ℕ) (c : ℕ) (a : Answer) → FindsType rows c name a → CleanAnswer names rows a
  type_answer name c (One j) (inl h) = type_member name h.0 j h.2
  type_answer name c (One j) (inr h) = class_clean names rows name j h.1
  type_answer name c Nothing h = tt
  type_answer name c (Many j k) h = absurd h
  type_answer name c (NotAccessible j) h = absurd h
  type_answer name c (FromStatic j) h = absurd h

  pub method_answer : (name : List ℕ) → IsOther names name → (place c : ℕ) (args : List Kind) (a : Answer)
      → FindsMethod (entries_of rows) place c name args a → CleanAnswer names rows a
  method_answer name other place c args a h = choice_clean place (IsMethodCandidate (entries_of rows) c name args)
      (λ j m. method_member name other m.params c j m.own) a h

  pub ctor_answer : (place c : ℕ) (args : List Kind) (a : Answer)
      → FindsCtor (entries_of rows) place c args a → CleanAnswer names rows a
  ctor_answer place c args a h = choice_clean place (IsCtorCandidate (entries_of rows) c args)
      (λ j m. ctor_clean names rows m.params c j m.own) a h

  pub call_answer : (name : List ℕ) → IsOther names name → (c : ℕ) (is_static : Bool) (args : List Kind) (a : Answer)
      → FindsCall (entries_of rows) c is_static name args a → CleanAnswer names rows a
  call_answer name other c is_static args (One j) h = method_answer name other c h.0 args (One j) h.2
  call_answer name other c is_static args Nothing h = tt
  call_answer name other c is_static args (Many j k) h = method_answer name other c h.0 args (Many j k) h.2
  call_answer name other c is_static args (NotAccessible j) h = method_answer name other c h.0 args (NotAccessible j) h.2
  call_answer name other c is_static args (FromStatic j) h = method_answer name other c h.0 args (One j) h.2
