-- Each lookup of a name that is none of these answers the same where rows are the same but for these
-- names, and finds what has none of them.
use Rattle.std.proofs.Common.{◌≡◌, ℕ, List, [], map, Option, Some, None, refl, ◌∙◌}
use Rattle.jr_table.specs.declared.answers.Answer.{Answer}
use Rattle.jr_table.specs.Keys.{ClassKey, Ty}
use Rattle.jr_table.specs.Decls.{LocalKey}
use Rattle.jr_table.specs.Rows.{Row}
use Rattle.jr_table.specs.Entries.{class_number, kind_of, top_class, entries_of}
use Rattle.jr_table.specs.Scope.{Scope, last_named}
use Rattle.jr_table.specs.Chains.{outer_of}
use Rattle.jr_table.specs.Looking.{member, is_type, first_of}
use Rattle.jr_table.specs.Fields.{find_field, find_field_of, find_member_type}
use Rattle.jr_table.specs.TypeNames.{member_in, one_or_nothing, find_type}
use Rattle.jr_table.specs.Calls.{find_call, find_method, find_ctor}
use Rattle.jr_table.specs.LookupLaws.{NumbersAreFound}
use Rattle.jr_table.specs.Lookup.{local_or, shown, find_variable, find_type_named, find_type_of, find_field_in, find_method_named, find_method_of, find_ctor_of}
use Rattle.jr_mentions.specs.Apart.{IsOther, AreApart}
use Rattle.jr_mentions.specs.Alike.{Finds, LookAlike}
use Rattle.jr_mentions.proofs.KeptFindings.{field_found, field_of_found, type_found, types, types_around}
use Rattle.jr_mentions.proofs.KeptCalls.{method_found, ctor_found, call_found}
use Rattle.jr_mentions.proofs.Normal.{normal, keeps, keeps_name, keeps_types}
use Rattle.jr_mentions.proofs.RowPairs.{number, row}
use Rattle.jr_mentions.proofs.EntryPairs.{class_numbers, all_kinds, stays}
use Rattle.jr_mentions.proofs.CleanRows.{finds}
use Rattle.jr_mentions.proofs.CleanAnswers.{field_answer, field_of_answer, member_type_answer, type_answer, method_answer, ctor_answer, call_answer}
use Rattle.jr_mentions.proofs.SameOverriding.{below, overrides}

module _ (names : List (List ℕ)) (rows after : List Row) (apart : AreApart names rows after)
    (exact : NumbersAreFound rows) where
  -- the number of a class in both
  at : (k : ClassKey) → class_number rows k ≡ class_number after k
  at k = class_numbers names rows after apart k

  field_in : (s : Scope) (of : ClassKey) (name : List ℕ) → IsOther names name
      → Finds names (find_field_in rows s of name) (find_field_in after s of name)
  unfolding find_field_in
  field_in s of name other = finds names rows after apart
      (find_field_of (entries_of rows) (class_number rows s.class) (class_number rows of) name)
      (find_field_of (entries_of after) (class_number after s.class) (class_number after of) name)
      (stays names name rows after apart (λ es. find_field_of es (class_number rows s.class) (class_number rows of) name)
      (λ es. field_of_found name (normal names name) (keeps names name) (keeps_name names name other) es
      (class_number rows s.class) (class_number rows of))
      ∙ (λ i. find_field_of (entries_of after) (at s.class i) (at of i) name))
      (field_of_answer names rows name other (class_number rows s.class) (class_number rows of) _
      ((exact.field_of (class_number rows s.class) (class_number rows of) name
      (find_field_of (entries_of rows) (class_number rows s.class) (class_number rows of) name)).0 refl))

  field_shown : (s : Scope) (name : List ℕ) → IsOther names name
      → Finds names (shown rows (find_field (entries_of rows) (class_number rows s.class) s.is_static name))
      (shown after (find_field (entries_of after) (class_number after s.class) s.is_static name))
  field_shown s name other = finds names rows after apart
      (find_field (entries_of rows) (class_number rows s.class) s.is_static name)
      (find_field (entries_of after) (class_number after s.class) s.is_static name)
      (stays names name rows after apart (λ es. find_field es (class_number rows s.class) s.is_static name)
      (λ es. field_found name (normal names name) (keeps names name) (keeps_name names name other) es
      (class_number rows s.class) s.is_static)
      ∙ (λ i. find_field (entries_of after) (at s.class i) s.is_static name))
      (field_answer names rows name other (class_number rows s.class) s.is_static _
      ((exact.field (class_number rows s.class) s.is_static name
      (find_field (entries_of rows) (class_number rows s.class) s.is_static name)).0 refl))

  local_shown : (a b : Answer) → Finds names (shown rows a) (shown after b) → (o : Option LocalKey)
      → Finds names (local_or rows a o) (local_or after b o)
  local_shown a b found None = found
  local_shown a b found (Some k) = record { same = refl; clean = tt }

  variable : (s : Scope) (name : List ℕ) → IsOther names name
      → Finds names (find_variable rows s name) (find_variable after s name)
  unfolding find_variable
  variable s name other = local_shown
      (find_field (entries_of rows) (class_number rows s.class) s.is_static name)
      (find_field (entries_of after) (class_number after s.class) s.is_static name)
      (field_shown s name other) (last_named name s.locals)

  method_named : (s : Scope) (name : List ℕ) (args : List Ty) → IsOther names name
      → Finds names (find_method_named rows s name args) (find_method_named after s name args)
  unfolding find_method_named
  method_named s name args other = finds names rows after apart
      (find_call (entries_of rows) (class_number rows s.class) s.is_static name (map (kind_of rows) args))
      (find_call (entries_of after) (class_number after s.class) s.is_static name (map (kind_of after) args))
      (stays names name rows after apart
      (λ es. find_call es (class_number rows s.class) s.is_static name (map (kind_of rows) args))
      (λ es. call_found name (normal names name) (keeps names name) (keeps_name names name other) es
      (class_number rows s.class) s.is_static (map (kind_of rows) args))
      ∙ (λ i. find_call (entries_of after) (at s.class i) s.is_static name (all_kinds names rows after apart args i)))
      (call_answer names rows name other (class_number rows s.class) s.is_static (map (kind_of rows) args) _
      ((exact.call (class_number rows s.class) s.is_static name (map (kind_of rows) args)
      (find_call (entries_of rows) (class_number rows s.class) s.is_static name (map (kind_of rows) args))).0 refl))

  method_of : (s : Scope) (of : ClassKey) (name : List ℕ) (args : List Ty) → IsOther names name
      → Finds names (find_method_of rows s of name args) (find_method_of after s of name args)
  unfolding find_method_of
  method_of s of name args other = finds names rows after apart
      (find_method (entries_of rows) (class_number rows s.class) (class_number rows of) name (map (kind_of rows) args))
      (find_method (entries_of after) (class_number after s.class) (class_number after of) name (map (kind_of after) args))
      (stays names name rows after apart
      (λ es. find_method es (class_number rows s.class) (class_number rows of) name (map (kind_of rows) args))
      (λ es. method_found name (normal names name) (keeps names name) (keeps_name names name other) es
      (class_number rows s.class) (class_number rows of) (map (kind_of rows) args))
      ∙ (λ i. find_method (entries_of after) (at s.class i) (at of i) name (all_kinds names rows after apart args i)))
      (method_answer names rows name other (class_number rows s.class) (class_number rows of) (map (kind_of rows) args) _
      ((exact.method (class_number rows s.class) (class_number rows of) name (map (kind_of rows) args)
      (find_method (entries_of rows) (class_number rows s.class) (class_number rows of) name (map (kind_of rows) args))).0 refl))

  ctor_of : (s : Scope) (of : ClassKey) (args : List Ty)
      → Finds names (find_ctor_of rows s of args) (find_ctor_of after s of args)
  unfolding find_ctor_of
  ctor_of s of args = finds names rows after apart
      (find_ctor (entries_of rows) (class_number rows s.class) (class_number rows of) (map (kind_of rows) args))
      (find_ctor (entries_of after) (class_number after s.class) (class_number after of) (map (kind_of after) args))
      (stays names [] rows after apart
      (λ es. find_ctor es (class_number rows s.class) (class_number rows of) (map (kind_of rows) args))
      (λ es. ctor_found (normal names []) (keeps names []) es
      (class_number rows s.class) (class_number rows of) (map (kind_of rows) args))
      ∙ (λ i. find_ctor (entries_of after) (at s.class i) (at of i) (all_kinds names rows after apart args i)))
      (ctor_answer names rows (class_number rows s.class) (class_number rows of) (map (kind_of rows) args) _
      ((exact.ctor (class_number rows s.class) (class_number rows of) (map (kind_of rows) args)
      (find_ctor (entries_of rows) (class_number rows s.class) (class_number rows of) (map (kind_of rows) args))).0 refl))

  -- types, of whatever name
  type_same : (c : ℕ) (name : List ℕ) → find_type rows c name ≡ find_type after c name
  unfolding find_type
  type_same c name = λ i. one_or_nothing (first_of
      (stays names [] rows after apart (λ es. member es (is_type name) c)
      (λ es. types name (normal names []) (keeps names []) (keeps_types names [] name) es c) i)
      (first_of (stays names [] rows after apart (λ es. member_in es name (outer_of es c))
      (λ es. types_around name (normal names []) (keeps names []) (keeps_types names [] name) es c) i)
      (number names rows after apart (top_class name) tt i)))

  type_named : (s : Scope) (name : List ℕ) → find_type_named rows s name ≡ find_type_named after s name
  unfolding find_type_named
  type_named s name = (finds names rows after apart
      (find_type rows (class_number rows s.class) name) (find_type after (class_number after s.class) name)
      (type_same (class_number rows s.class) name ∙ (λ i. find_type after (at s.class i) name))
      (type_answer names rows name (class_number rows s.class) _
      ((exact.type (class_number rows s.class) name (find_type rows (class_number rows s.class) name)).0 refl))).same

  type_of : (s : Scope) (of : ClassKey) (name : List ℕ) → find_type_of rows s of name ≡ find_type_of after s of name
  unfolding find_type_of
  type_of s of name = (finds names rows after apart
      (find_member_type (entries_of rows) (class_number rows s.class) (class_number rows of) name)
      (find_member_type (entries_of after) (class_number after s.class) (class_number after of) name)
      (stays names [] rows after apart
      (λ es. find_member_type es (class_number rows s.class) (class_number rows of) name)
      (λ es. type_found name (normal names []) (keeps names []) (keeps_types names [] name) es
      (class_number rows s.class) (class_number rows of))
      ∙ (λ i. find_member_type (entries_of after) (at s.class i) (at of i) name))
      (member_type_answer names rows name (class_number rows s.class) (class_number rows of) _
      ((exact.member_type (class_number rows s.class) (class_number rows of) name
      (find_member_type (entries_of rows) (class_number rows s.class) (class_number rows of) name)).0 refl))).same

  pub look_alike : LookAlike names rows after
  look_alike = record {
    variable = variable;
    field_in = field_in;
    method_named = method_named;
    method_of = method_of;
    ctor_of = ctor_of;
    type_named = type_named;
    type_of = type_of;
    number = number names rows after apart;
    row = row names rows after apart;
    below = below names rows after apart;
    overrides = overrides names rows after apart;
  }
