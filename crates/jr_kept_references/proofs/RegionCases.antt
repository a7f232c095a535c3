-- A small region, in which a member's first local is gone: a place where it was known, and the place
-- that stands for that.
use Rattle.std.proofs.Common.{◌≡◌, ℕ, zero, suc, List, [], ◌∷◌, drop, map, Option, Some, None, false, refl, sym, ap, ◌∙◌}
use Rattle.std.specs.Prelude.{slice_get, codes}
use Rattle.jr_table.specs.Keys.{Ty, int}
use Rattle.jr_table.specs.Decls.{MemberKey, LocalKey, local_decl}
use Rattle.jr_table.specs.Rows.{Row}
use Rattle.jr_table.specs.Entries.{class_of_member}
use Rattle.jr_table.specs.Scope.{ScopeLocal}
use Rattle.jr_table.specs.Context.{Context, Local, known, Knows, IsTypeOf, scope_local}
use Rattle.jr_table.specs.HeadRules.{plain}
use Rattle.jr_images.specs.Regions.{Images, image_at, itself, Region}
use Rattle.jr_kept_references.specs.InRegions.{StandsFor}

-- nothing gets another key
abbrev same_images : List Row → Images
same_images rows = record {
  class_to = λ k. k;
  field_to = λ k. k;
  method_to = λ k. k;
  ctor_to = λ k. k;
  name_to = λ d old. old;
  rows = rows;
}

-- each later local has the number in front of its own
abbrev lower : LocalKey → Option LocalKey
lower k = by k.number
  where
    by : ℕ → Option LocalKey
    by zero = None
    by (suc n) = Some (record { member = k.member; number = n })

abbrev lower_local : Local → ScopeLocal
lower_local l = by l.key.number
  where
    by : ℕ → ScopeLocal
    by zero = scope_local l
    by (suc n) = record { name = l.name; key = record { member = l.key.member; number = n } }

abbrev first_gone : {A : Type 0} → List Row → Region A
first_gone rows = record {
  seen = record {
    images = same_images rows;
    scope = λ c. record { class = class_of_member c.member; is_static = c.is_static; locals = map lower_local (drop 1 c.locals) };
    local_to = λ c k. lower k;
    HasClass = λ c k b. ⊥;
  };
  type_now = λ c e t. t;
  types_now = λ c es ts. ts;
  receiver = itself;
}

module _ (k : MemberKey) where
  abbrev held : Local
  held = record { name = codes "t"; key = record { member = k; number = 0 }; is_final = false; type = known int; has_init = false }

  abbrev there : Context
  there = record { member = k; is_static = false; locals = held ∷ []; own = None }

  one_number : (j : LocalKey) (l : Local) → Knows there j l → (n : ℕ) → j.number ≡ suc n → ⊥
  one_number j l h n e = by h.number h.stands
    where
      by : (i : ℕ) → slice_get (held ∷ []) i ≡ Some l → ⊥
      by zero at = let is : held ≡ l = cc in let m : 0 ≡ suc n = ap (λ (x : Local). x.key.number) is ∙ ap (λ (x : LocalKey). x.number) h.is ∙ e in cc
      by (suc i) at = absurd cc

module _ (A : Type 0) (rows : List Row) (k : MemberKey) where
  -- it has no image
  pub it_is_gone : image_at (first_gone {A = A} rows).seen (there k) (local_decl (held k).key) ≡ None
  it_is_gone = refl

  -- the place without it stands for the one with it
  pub it_stands_without : StandsFor (first_gone {A = A} rows) rows (there k) (plain k false)
  it_stands_without = record { scope = refl; local_types = λ j m t is h. absurd (later j m t is h (j.number) refl) }
    where
      later : (j m : LocalKey) (t : Ty) → lower j ≡ Some m → IsTypeOf rows (there k) (local_decl j) t → (n : ℕ) → j.number ≡ n → ⊥
      later j m t is (l, knows, type) zero e = (let none : lower j ≡ None = ap (λ i. lower (record { member = j.member; number = i })) e in none_some m (sym none ∙ is))
        where
          none_some : (m : LocalKey) → (let none : Option LocalKey = None in none ≡ Some m) → ⊥
          none_some m q = cc
      later j m t is (l, knows, type) (suc n) e = one_number k j l knows n e
