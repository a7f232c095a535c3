-- Rows of matches, by their ids.
use Rattle.std.proofs.Common.{◌≡◌, ◌∙◌, ◌||◌, Bool, cond, true, false, refl, sym, ap, List, [], ◌∷◌, ◌++◌, Option, Some, None}
use Rattle.std.specs.List.{find, list_any}
use Rattle.std.specs.Str.{bytes_eq}
use Rattle.std.specs.Option.{option_map, option_map_or}
use Rattle.std.proofs.lemmas.Bool.{true≢false}
use Rattle.clap.specs.Walk.{Row, Text, at_row, has_row, with_values, without, more_values}
use Rattle.clap.specs.declared.builder.value_parser.Reading.{Reading}
use Rattle.clap.specs.declared.parser.matches.ValueSource.TheVariants.{CommandLine}

abbrev pub find_row : Text → List Row → Option Row
find_row id rows = find (λ r. bytes_eq r.id id) rows

-- values that come from words
abbrev pub row_for : Text → Reading → List Text → Row
row_for id how values = record { id = id; values = values; count = None; source = Some CommandLine; reading = how }

-- what is found is found of an id alone
found_id : (id : Text) (rows : List Row) (r : Row) → find_row id rows ≡ Some r → bytes_eq r.id id ≡ true
found_id id [] r e = absurd cc
found_id id (x ∷ xs) r e = go (bytes_eq x.id id) refl e (found_id id xs r)
  where
    go : (b : Bool) → bytes_eq x.id id ≡ b → cond b (Some x) (find_row id xs) ≡ Some r → (find_row id xs ≡ Some r → bytes_eq r.id id ≡ true) → bytes_eq r.id id ≡ true
    go true t h below = let same : x ≡ r = cc in ap (λ (y : Row). bytes_eq y.id id) (sym same) ∙ t
    go false t h below = below h

pub no_row : (id : Text) (rows : List Row) → find_row id rows ≡ None → has_row id rows ≡ false
no_row id [] e = refl
no_row id (x ∷ xs) e = go (bytes_eq x.id id) e (no_row id xs)
  where
    go : (b : Bool) → cond b (Some x) (find_row id xs) ≡ None → (find_row id xs ≡ None → has_row id xs ≡ false) → (b || has_row id xs) ≡ false
    go true h below = absurd cc
    go false h below = below h

pub a_row : (id : Text) (rows : List Row) (r : Row) → find_row id rows ≡ Some r → has_row id rows ≡ true
a_row id [] r e = absurd cc
a_row id (x ∷ xs) r e = go (bytes_eq x.id id) e (a_row id xs r)
  where
    go : (b : Bool) → cond b (Some x) (find_row id xs) ≡ Some r → (find_row id xs ≡ Some r → has_row id xs ≡ true) → (b || has_row id xs) ≡ true
    go true h below = refl
    go false h below = below h

-- ---- a change at one id

module _ (id : Text) (change : Row → List Row) (new : Row) where
  -- where there is none, the new row is found
  pub added : (rows : List Row) → bytes_eq new.id id ≡ true → find_row id rows ≡ None → find_row id (at_row id change (new ∷ []) rows) ≡ Some new
  added [] is none = rw is refl
  added (x ∷ xs) is none = go (bytes_eq x.id id) refl none (added xs is)
    where
      go : (b : Bool) → bytes_eq x.id id ≡ b → cond b (Some x) (find_row id xs) ≡ None
          → (find_row id xs ≡ None → find_row id (at_row id change (new ∷ []) xs) ≡ Some new)
          → find_row id (cond b (change x ++ xs) (x ∷ at_row id change (new ∷ []) xs)) ≡ Some new
      go true t h below = absurd cc
      go false t h below = rw t (below h)

  -- where there is one, what it becomes is found
  pub changed : (rows : List Row) (r r' : Row) → change r ≡ r' ∷ [] → bytes_eq r'.id id ≡ true → find_row id rows ≡ Some r → find_row id (at_row id change (new ∷ []) rows) ≡ Some r'
  changed [] r r' becomes is found = absurd cc
  changed (x ∷ xs) r r' becomes is found = go (bytes_eq x.id id) refl found (changed xs r r' becomes is)
    where
      go : (b : Bool) → bytes_eq x.id id ≡ b → cond b (Some x) (find_row id xs) ≡ Some r
          → (find_row id xs ≡ Some r → find_row id (at_row id change (new ∷ []) xs) ≡ Some r')
          → find_row id (cond b (change x ++ xs) (x ∷ at_row id change (new ∷ []) xs)) ≡ Some r'
      go true t h below =
          let same : x ≡ r = cc in
          let now : change x ≡ r' ∷ [] = ap change same ∙ becomes in
          ap (λ (rs : List Row). find_row id (rs ++ xs)) now ∙ ap (λ (b : Bool). cond b (Some r') (find_row id xs)) is
      go false t h below = rw t (below h)

  -- no other id sees it
  pub unseen : (rows : List Row) (other : Text) → ((r : Row) → bytes_eq r.id id ≡ true → bytes_eq r.id other ≡ false)
      → bytes_eq new.id id ≡ true → ((r : Row) → (r' : Row) × (change r ≡ r' ∷ []) × (r'.id ≡ r.id))
      → find_row other (at_row id change (new ∷ []) rows) ≡ find_row other rows
  unseen [] other apart is keeps = rw (apart new is) refl
  unseen (x ∷ xs) other apart is keeps = go (bytes_eq x.id id) refl (unseen xs other apart is keeps)
    where
      go : (b : Bool) → bytes_eq x.id id ≡ b → find_row other (at_row id change (new ∷ []) xs) ≡ find_row other xs
          → find_row other (cond b (change x ++ xs) (x ∷ at_row id change (new ∷ []) xs)) ≡ cond (bytes_eq x.id other) (Some x) (find_row other xs)
      go true t below =
          let now : bytes_eq (keeps x).0.id other ≡ false = ap (λ (t : Text). bytes_eq t other) (keeps x).2 ∙ apart x t in
          ap (λ (rs : List Row). find_row other (rs ++ xs)) (keeps x).1 ∙ ap (λ (b : Bool). cond b (Some (keeps x).0) (find_row other xs)) now
          ∙ sym (ap (λ (b : Bool). cond b (Some x) (find_row other xs)) (apart x t))
      go false t below = ap (cond (bytes_eq x.id other) (Some x)) below

-- where there is none, nothing is taken out
pub none_out : (id : Text) (rows : List Row) → find_row id rows ≡ None → without id rows ≡ rows
none_out id [] none = refl
none_out id (x ∷ xs) none = go (bytes_eq x.id id) none (none_out id xs)
  where
    go : (b : Bool) → cond b (Some x) (find_row id xs) ≡ None → (find_row id xs ≡ None → without id xs ≡ xs) → cond b ([] ++ xs) (x ∷ without id xs) ≡ x ∷ xs
    go true h below = absurd cc
    go false h below = ap (λ (rs : List Row). x ∷ rs) (below h)
