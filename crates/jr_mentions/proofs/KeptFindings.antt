-- What a name finds is at the same row where names alone change, and not the one that is looked for.
use Rattle.std.proofs.Common.{◌≡◌, ℕ, zero, suc, List, [], ◌∷◌, map, refl, ap, ◌∙◌, Option, Some, None, Bool, not, ◌&&◌, ◌||◌, ◌==◌}
use Rattle.std.specs.Prelude.{option_map}
use Rattle.std.specs.Prelude.{slice_get, unwrap_or, if◌then◌else◌}
use Rattle.jr_table.specs.declared.entries.Entry.{Entry}
use Rattle.jr_table.specs.declared.answers.Answer.TheVariants.{One, NotAccessible, FromStatic}
use Rattle.jr_table.specs.Chains.{outer_of}
use Rattle.jr_table.specs.Looking.{is_field, is_type, member}
use Rattle.jr_table.specs.Access.{top_around, is_within_entry, is_within, is_accessible, is_instance_at, lacks_object}
use Rattle.jr_table.specs.TypeNames.{member_in}
use Rattle.jr_table.specs.Fields.{object_answer, field_in, field_around, field_from, find_field, access_answer, find_field_of, find_member_type}
use Rattle.jr_mentions.proofs.Keeping.{Keeps, KeepsName, outer, get_map}
use Rattle.jr_mentions.proofs.KeptMembers.{field, private, member_same}

module _ (h : Entry → Entry) (k : Keeps h) where
  instance : (rows : List Entry) (j : ℕ) → is_instance_at (map h rows) j ≡ is_instance_at rows j
  instance [] j = refl
  instance (x ∷ xs) zero = ap not (k.is_static x)
  instance (x ∷ xs) (suc j) = instance xs j

module _ (h : Entry → Entry) (k : Keeps h) (rows : List Entry) where
  top : (c : ℕ) → top_around (map h rows) c ≡ top_around rows c
  top c = ap (λ o. unwrap_or o c) (outer h k rows c)

  within_of : (place : ℕ) (o : Option Entry)
      → is_within_entry (map h rows) place (option_map h o) ≡ is_within_entry rows place o
  within_of place None = refl
  within_of place (Some e) = ap (λ c. top_around (map h rows) c == top_around (map h rows) place) (k.class e)
      ∙ (λ i. top e.class i == top place i)

  within : (place j : ℕ) → is_within (map h rows) place j ≡ is_within rows place j
  within place j = ap (is_within_entry (map h rows) place) (get_map h rows j) ∙ within_of place (slice_get rows j)

  pub accessible : (place j : ℕ) → is_accessible (map h rows) place j ≡ is_accessible rows place j
  unfolding is_accessible
  accessible place j = λ i. not (private h k rows j i) || within place j i

  pub lacks : (place : ℕ) (is_static : Bool) (e j : ℕ)
      → lacks_object (map h rows) place is_static e j ≡ lacks_object rows place is_static e j
  unfolding lacks_object
  lacks place is_static e j = λ i. instance h k rows j i && (is_static || not (e == place))

  object : (c : ℕ) (is_static : Bool) (e j : ℕ)
      → object_answer (map h rows) c is_static e j ≡ object_answer rows c is_static e j
  object c is_static e j = ap (λ b. if b then FromStatic j else One j) (lacks c is_static e j)

  inside : (c : ℕ) (is_static : Bool) (e : ℕ) (o : Option ℕ)
      → field_in (map h rows) c is_static e o ≡ field_in rows c is_static e o
  inside c is_static e None = refl
  inside c is_static e (Some j) = object c is_static e j

  pub answer : (place : ℕ) (o : Option ℕ) → access_answer (map h rows) place o ≡ access_answer rows place o
  answer place None = refl
  answer place (Some j) = ap (λ b. if b then One j else NotAccessible j) (accessible place j)

module _ (name : List ℕ) (h : Entry → Entry) (k : Keeps h) (n : KeepsName name h) (rows : List Entry) where
  fields : (c : ℕ) → member (map h rows) (is_field name) c ≡ member rows (is_field name) c
  fields c = member_same h k rows (is_field name) (field name h k n) c

  around : (c : ℕ) (is_static : Bool) (o : Option ℕ)
      → field_around (map h rows) c is_static name o ≡ field_around rows c is_static name o
  around c is_static None = refl
  around c is_static (Some e) = ap (field_in (map h rows) c is_static e) (fields e)
      ∙ inside h k rows c is_static e (member rows (is_field name) e)

  from : (c : ℕ) (is_static : Bool) (o : Option ℕ)
      → field_from (map h rows) c is_static name o ≡ field_from rows c is_static name o
  from c is_static (Some j) = object h k rows c is_static c j
  from c is_static None = ap (field_around (map h rows) c is_static name) (outer h k rows c)
      ∙ around c is_static (outer_of rows c)

  pub field_found : (c : ℕ) (is_static : Bool)
      → find_field (map h rows) c is_static name ≡ find_field rows c is_static name
  unfolding find_field
  field_found c is_static = ap (field_from (map h rows) c is_static name) (fields c)
      ∙ from c is_static (member rows (is_field name) c)

  pub field_of_found : (place c : ℕ) → find_field_of (map h rows) place c name ≡ find_field_of rows place c name
  unfolding find_field_of
  field_of_found place c = ap (access_answer (map h rows) place) (fields c)
      ∙ answer h k rows place (member rows (is_field name) c)

-- a change under which classes are tested alike
module _ (name : List ℕ) (h : Entry → Entry) (k : Keeps h)
    (same : (c : ℕ) (e : Entry) → is_type name c (h e) ≡ is_type name c e) (rows : List Entry) where
  pub types : (c : ℕ) → member (map h rows) (is_type name) c ≡ member rows (is_type name) c
  types c = member_same h k rows (is_type name) same c

  pub type_found : (place c : ℕ) → find_member_type (map h rows) place c name ≡ find_member_type rows place c name
  unfolding find_member_type
  type_found place c = ap (access_answer (map h rows) place) (types c)
      ∙ answer h k rows place (member rows (is_type name) c)

  pub types_in : (o : Option ℕ) → member_in (map h rows) name o ≡ member_in rows name o
  types_in None = refl
  types_in (Some e) = types e

  pub types_around : (c : ℕ) → member_in (map h rows) name (outer_of (map h rows) c) ≡ member_in rows name (outer_of rows c)
  types_around c = ap (member_in (map h rows) name) (outer h k rows c) ∙ types_in (outer_of rows c)
