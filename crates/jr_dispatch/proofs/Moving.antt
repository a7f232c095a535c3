-- Rows of whose names it is known which change.
use Rattle.std.proofs.Common.{◌≡◌, ◌≢◌, ℕ, ◌+◌, ◌<◌, List, [], ◌∷◌, ◌++◌, Option, Some, None, Bool, true, false, refl, sym, ap, subst, ◌∙◌, inl, inr, arith}
use Rattle.std.specs.Prelude.{◌⊎◌, ◌&&◌, ◌||◌, slice_get}
use Rattle.std.specs.List.{list_any}
use Rattle.std.specs.Str.{bytes_eq}
use Rattle.std.specs.Cmp.Lexicographic.{bytes_decides}
use Rattle.jr_table.specs.declared.entries.Entry.{Entry}
use Rattle.jr_table.specs.Chains.{In}
use Rattle.jr_table.proofs.RowLaws.{some_inside}
use Rattle.jr_table.proofs.Testing.{and_both}
use Rattle.jr_table.proofs.Assigning.{any_in, in_any}
use Rattle.jr_table.proofs.Ascending.{in_left, in_right}
use Rattle.jr_dispatch.specs.Moves.{IsNamed, GoesFrom, AreMoves, has_name, is_named, goes_from, is_either, is_asked}
use Rattle.jr_dispatch.proofs.Rounds.{below_next}

named_is : (rows : List Entry) (name : List ℕ) (i : ℕ) → is_named rows name i ≡ true → IsNamed rows name i
named_is rows name i h = of (slice_get rows i) refl h
  where
    of : (o : Option Entry) → slice_get rows i ≡ o → has_name name o ≡ true → IsNamed rows name i
    of None e h = absurd cc
    of (Some r) e h = record { row = r; stands = e; named = (bytes_decides r.name name).0 h }

is_named_is : (rows : List Entry) (name : List ℕ) (i : ℕ) → IsNamed rows name i → is_named rows name i ≡ true
is_named_is rows name i h = ap (has_name name) h.stands ∙ (bytes_decides h.row.name name).1 h.named

module _ (old new : List Entry) where
  abbrev pub One : (was now : List ℕ) → List ℕ → Type 0
  One was now numbers = (i : ℕ) × In numbers i × GoesFrom old new was now i

  goes_is : (was now : List ℕ) (i : ℕ) → goes_from old new was now i ≡ true → GoesFrom old new was now i
  goes_is was now i h =
      let b = and_both (is_named old was i) (is_named new now i) h in
      record { before = named_is old was i b.0; after = named_is new now i b.1 }

  -- the names of a row are these
  names_are : (was now before after : List ℕ) (n : ℕ) (e f : Entry) → slice_get old n ≡ Some e → slice_get new n ≡ Some f → e.name ≡ before → f.name ≡ after
      → GoesFrom old new was now n → (before ≡ was) × (after ≡ now)
  names_are was now before after n e f at bt a b g = (
    sym a ∙ ap (λ (x : Entry). x.name) (some_inside (slice_get old n) e g.before.row at g.before.stands) ∙ g.before.named,
    sym b ∙ ap (λ (x : Entry). x.name) (some_inside (slice_get new n) f g.after.row bt g.after.stands) ∙ g.after.named,
  )

  next : (n : ℕ) (xs ys : List ℕ) → ((j : ℕ) → In xs j → In ys j)
      → ((was now : List ℕ) → GoesFrom old new was now n → was ≢ now → One was now ys)
      → AreMoves old new n xs → AreMoves old new (n + 1) ys
  next n xs ys keeps here h j was now l goes differs = of (below_next j n l)
    where
      of : ((j < n) ⊎ (j ≡ n)) → One was now ys
      of (inl k) = let m = h j was now k goes differs in (m.0, keeps m.0 m.1, m.2)
      of (inr s) = here was now (subst (GoesFrom old new was now) s goes) differs

  -- a row that isn't there
  pub no_old : (n : ℕ) (xs : List ℕ) → slice_get old n ≡ None → AreMoves old new n xs → AreMoves old new (n + 1) xs
  no_old n xs none = next n xs xs (λ j i. i) (λ was now g differs. let z = sym none ∙ g.before.stands in absurd cc)

  pub no_new : (n : ℕ) (xs : List ℕ) → slice_get new n ≡ None → AreMoves old new n xs → AreMoves old new (n + 1) xs
  no_new n xs none = next n xs xs (λ j i. i) (λ was now g differs. let z = sym none ∙ g.after.stands in absurd cc)

  module _ (n : ℕ) (e f : Entry) (at : slice_get old n ≡ Some e) (bt : slice_get new n ≡ Some f) (before after : List ℕ) (a : e.name ≡ before) (b : f.name ≡ after) (xs : List ℕ) where
    -- a row that keeps its name
    pub stays : bytes_eq before after ≡ true → AreMoves old new n xs → AreMoves old new (n + 1) xs
    stays h = next n xs xs (λ j i. i)
        (λ was now g differs. let s = names_are was now before after n e f at bt a b g in absurd (differs (sym s.0 ∙ (bytes_decides before after).0 h ∙ s.1)))

    -- one of those there has both names
    pub is_there : list_any (goes_from old new before after) xs ≡ true → AreMoves old new n xs → AreMoves old new (n + 1) xs
    is_there h = next n xs xs (λ j i. i)
        (λ was now g differs.
        let s = names_are was now before after n e f at bt a b g in
        let m = any_in (goes_from old new before after) xs h in
        (m.0, m.1, subst (λ (q : List ℕ). GoesFrom old new was q m.0) s.1 (subst (λ (q : List ℕ). GoesFrom old new q after m.0) s.0 (goes_is before after m.0 m.2))))

    pub is_put : (ys : List ℕ) → ys ≡ xs ++ n ∷ [] → AreMoves old new n xs → AreMoves old new (n + 1) ys
    is_put ys is = next n xs ys (λ j i. subst (λ (l : List ℕ). In l j) (sym is) (in_left xs (n ∷ []) j i))
        (λ was now g differs. (n, subst (λ (l : List ℕ). In l n) (sym is) (in_right xs (n ∷ []) n (inl refl)), g))

  -- what is asked
  either_is : (name : List ℕ) (i : ℕ) → (IsNamed old name i ⊎ IsNamed new name i) → is_either old new name i ≡ true
  either_is name i (inl h) = ap (λ b. b || is_named new name i) (is_named_is old name i h)
  either_is name i (inr h) = of (is_named old name i) (is_named_is new name i h)
    where
      of : (b : Bool) → is_named new name i ≡ true → (b || is_named new name i) ≡ true
      of true e = refl
      of false e = e

  pub asked_is : (numbers : List ℕ) (name : List ℕ) (i : ℕ) → In numbers i → (IsNamed old name i ⊎ IsNamed new name i) → is_asked old new numbers name ≡ true
  asked_is numbers name i h named = in_any (is_either old new name) numbers i h (either_is name i named)

-- no row is before the first
pub none_moved : (old new : List Entry) (xs : List ℕ) → AreMoves old new 0 xs
none_moved old new xs j was now l = absurd (omega (arith, l))
