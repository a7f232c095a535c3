-- Entries of which fields and methods that have one of some names have another one: what stands
-- behind two programs that are the same but for these names.
use Rattle.std.proofs.Common.{◌≡◌, ℕ, List, [], ◌∷◌, Option, refl, sym, ◌∙◌, Bool, true, false, ◌&&◌, subst}
use Rattle.std.specs.Prelude.{if◌then◌else◌}
use Rattle.std.specs.Str.{bytes_eq}
use Rattle.std.proofs.lemmas.Slice.Eq.{bytes_eq-Decides}
use Rattle.std.proofs.lemmas.Bool.{false_from_ne_true}
use Rattle.jr_table.specs.declared.entries.Sort.{Sort}
use Rattle.jr_table.specs.declared.entries.Sort.TheVariants as sort
use Rattle.jr_table.specs.declared.entries.Entry.{Entry}
use Rattle.jr_table.specs.Looking.{is_sort, is_number, is_type}
use Rattle.jr_mentions.specs.Apart.{is_among, IsOther}
use Rattle.jr_mentions.proofs.Keeping.{Keeps, KeepsName}

-- what may have another name
abbrev pub may_differ : Sort → Bool
may_differ sort.Class = false
may_differ sort.Field = true
may_differ sort.Method = true
may_differ sort.Ctor = false
may_differ sort.Local = false

-- some name that isn't this one
abbrev pub other_than : List ℕ → List ℕ
other_than [] = 0 ∷ []
other_than (x ∷ xs) = []

abbrev pub normal_name : (names : List (List ℕ)) (name : List ℕ) → Sort → List ℕ → List ℕ
normal_name names name s own = if may_differ s && is_among names own then other_than name else own

-- an entry, for one who looks for this name
abbrev pub normal : (names : List (List ℕ)) (name : List ℕ) → Entry → Entry
normal names name e = record {
  sort = e.sort;
  class = e.class;
  name = normal_name names name e.sort e.name;
  params = e.params;
  kind = e.kind;
  parent = e.parent;
  outer = e.outer;
  is_static = e.is_static;
  is_private = e.is_private;
}

pub keeps : (names : List (List ℕ)) (name : List ℕ) → Keeps (normal names name)
keeps names name = record {
  sort = λ e. refl;
  class = λ e. refl;
  params = λ e. refl;
  parent = λ e. refl;
  outer = λ e. refl;
  is_static = λ e. refl;
  is_private = λ e. refl;
}

other_name : (name : List ℕ) → bytes_eq (other_than name) name ≡ false
other_name [] = refl
other_name (x ∷ xs) = refl

pub and_right : (a b : Bool) → (a && b) ≡ true → b ≡ true
and_right true b h = h
and_right false b h = absurd cc

pub contradict : (b : Bool) → b ≡ true → b ≡ false → ⊥
contradict true t f = absurd cc
contradict false t f = absurd cc

-- one of the names isn't another one
pub name_of_other : (names : List (List ℕ)) (name own : List ℕ) → IsOther names name → is_among names own ≡ true
    → bytes_eq own name ≡ false
name_of_other names name own other among = false_from_ne_true (bytes_eq own name)
    (λ h. contradict (is_among names name) (subst (λ x. is_among names x ≡ true) ((bytes_eq-Decides own name).0 h) among) other)

name_test : (name own : List ℕ) (b : Bool) → (b ≡ true → bytes_eq own name ≡ false)
    → bytes_eq (if b then other_than name else own) name ≡ bytes_eq own name
name_test name own true differs = other_name name ∙ sym (differs refl)
name_test name own false differs = refl

pub keeps_name : (names : List (List ℕ)) (name : List ℕ) → IsOther names name → KeepsName name (normal names name)
keeps_name names name other e = name_test name e.name (may_differ e.sort && is_among names e.name)
    (λ h. name_of_other names name e.name other (and_right (may_differ e.sort) (is_among names e.name) h))

-- classes have their own names, whatever the names are
type_kept : (names : List (List ℕ)) (name sought own : List ℕ) (s : Sort) (o : Option ℕ) (c : ℕ)
    → (is_sort s sort.Class && is_number o c && bytes_eq (normal_name names name s own) sought)
    ≡ (is_sort s sort.Class && is_number o c && bytes_eq own sought)
type_kept names name sought own sort.Class o c = refl
type_kept names name sought own sort.Field o c = refl
type_kept names name sought own sort.Method o c = refl
type_kept names name sought own sort.Ctor o c = refl
type_kept names name sought own sort.Local o c = refl

pub keeps_types : (names : List (List ℕ)) (name sought : List ℕ) (c : ℕ) (e : Entry)
    → is_type sought c (normal names name e) ≡ is_type sought c e
keeps_types names name sought c e = type_kept names name sought e.name e.sort e.outer c
