-- What a choice makes of a word.
use Rattle.std.proofs.Common.{◌≡◌, ℕ, List, [], ◌∷◌, ◌++◌, Option, Some, None, Bool, true, false, refl, sym, ap, ◌∙◌}
use Rattle.std.specs.Prelude.{if◌then◌else◌}
use Rattle.std.specs.Cmp.Lexicographic.{bytes_decides}
use Rattle.jr_table.specs.SameKeys.{same_name}
use Rattle.jr_rewrite.specs.Respellings.{same, by_outer_class, by_class, stays, loses, Loss, front_of, text_of}
use Rattle.jr_rewrite.specs.Rewritten.{Rewritten, losses_of}
use Rattle.jr_images.specs.Spelling.{respelled, renamed, outer_front, outer_type}

-- a word that gets a name has it
pub renamed_text : (old new : List ℕ) → text_of (renamed old new) old ≡ new
renamed_text old new = by (same_name old new) refl
  where
    by : (b : Bool) → same_name old new ≡ b → text_of (if b then stays else respelled new same) old ≡ new
    by true h = (bytes_decides old new).0 h
    by false h = refl

-- and nothing in front of it
pub renamed_front : (old new : List ℕ) → front_of (renamed old new) ≡ same
renamed_front old new = by (same_name old new)
  where
    by : (b : Bool) → front_of (if b then stays else respelled new same) ≡ same
    by true = refl
    by false = refl

pub renamed_losses : (old new : List ℕ) → losses_of (renamed old new) ≡ []
renamed_losses old new = by (same_name old new)
  where
    by : (b : Bool) → losses_of (if b then stays else respelled new same) ≡ []
    by true = refl
    by false = refl

-- where nothing is lost of what is made, nothing is
pub lost_none : {T : Type 0} (o p : Rewritten T) → o ≡ p → o.losses ≡ [] → p.losses ≡ []
lost_none {T} o p is none = sym (ap (λ (z : Rewritten T). z.losses) is) ∙ none

-- what is lost isn't nothing
pub lost_some : (l : Loss) → losses_of (loses l) ≡ [] → ⊥
lost_some l e = cc

pub outer_front_is : (outer : Option (List ℕ)) (name o : List ℕ) → outer ≡ Some o → outer_front (record { outer = outer; name = name }) ≡ by_outer_class o name
outer_front_is None name o e = absurd cc
outer_front_is (Some x) name o e = let p : x ≡ o = cc in ap (λ (y : List ℕ). by_outer_class y name) p

pub outer_type_is : (outer : Option (List ℕ)) (name o : List ℕ) → outer ≡ Some o → outer_type (record { outer = outer; name = name }) ≡ by_class o
outer_type_is None name o e = absurd cc
outer_type_is (Some x) name o e = let p : x ≡ o = cc in ap by_class p

-- of two lists that together have nothing, neither has anything
pub left_none : {T : Type 0} (xs ys : List T) → xs ++ ys ≡ [] → xs ≡ []
left_none [] ys e = refl
left_none (x ∷ xs) ys e = absurd cc

pub right_none : {T : Type 0} (xs ys : List T) → xs ++ ys ≡ [] → ys ≡ []
right_none [] ys e = e
right_none (x ∷ xs) ys e = absurd cc
