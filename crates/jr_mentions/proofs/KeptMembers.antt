-- Members of a class are found at the same rows where names alone change, and not the one that is
-- looked for.
use Rattle.std.proofs.Common.{◌≡◌, ℕ, zero, suc, List, [], ◌∷◌, map, refl, ap, ◌∙◌, Option, Some, None, Bool, ◌&&◌, ◌==◌}
use Rattle.std.specs.Prelude.{if◌then◌else◌}
use Rattle.jr_table.specs.declared.entries.Kind.{Kind}
use Rattle.jr_table.specs.declared.entries.Sort.TheVariants as sort
use Rattle.jr_table.specs.declared.entries.Entry.{Entry}
use Rattle.jr_table.specs.Looking.{is_sort, is_field, is_method, same_kinds, is_private_at, first_of, inherited, own_row, nearest_among, member_among, nearest, member}
use Rattle.jr_table.specs.Chains.{chain_of}
use Rattle.jr_mentions.proofs.Keeping.{Keeps, KeepsName, first_map, chain}

module _ (name : List ℕ) (h : Entry → Entry) (k : Keeps h) (n : KeepsName name h) where
  pub field : (c : ℕ) (e : Entry) → is_field name c (h e) ≡ is_field name c e
  field c e = λ i. is_sort (k.sort e i) sort.Field && (k.class e i == c) && n e i

  pub method : (params : List Kind) (c : ℕ) (e : Entry)
      → is_method name params c (h e) ≡ is_method name params c e
  method params c e = λ i. is_sort (k.sort e i) sort.Method && (k.class e i == c) && n e i
      && same_kinds (k.params e i) params

module _ (h : Entry → Entry) (k : Keeps h) where
  pub private : (rows : List Entry) (j : ℕ) → is_private_at (map h rows) j ≡ is_private_at rows j
  private [] j = refl
  private (x ∷ xs) zero = k.is_private x
  private (x ∷ xs) (suc j) = private xs j

module _ (h : Entry → Entry) (k : Keeps h) (rows : List Entry)
    (test : ℕ → Entry → Bool) (same : (c : ℕ) (e : Entry) → test c (h e) ≡ test c e) where
  pub own : (c : ℕ) → own_row (map h rows) test c ≡ own_row rows test c
  unfolding own_row
  own c = first_map h (test c) (test c) (same c) rows

  pub inherits : (o : Option ℕ) → inherited (map h rows) o ≡ inherited rows o
  inherits None = refl
  inherits (Some j) = ap (λ b. if b then None else Some j) (private h k rows j)

  pub nearest_of : (cs : List ℕ) → nearest_among (map h rows) test cs ≡ nearest_among rows test cs
  nearest_of [] = refl
  nearest_of (c ∷ cs) = λ i. first_of (own c i) (nearest_of cs i)

  pub member_of : (cs : List ℕ) → member_among (map h rows) test cs ≡ member_among rows test cs
  member_of [] = refl
  member_of (c ∷ cs) = λ i. first_of (own c i)
      ((ap (inherited (map h rows)) (nearest_of cs) ∙ inherits (nearest_among rows test cs)) i)

  pub nearest_same : (c : ℕ) → nearest (map h rows) test c ≡ nearest rows test c
  unfolding nearest
  nearest_same c = ap (nearest_among (map h rows) test) (chain h k rows c) ∙ nearest_of (chain_of rows c)

  pub member_same : (c : ℕ) → member (map h rows) test c ≡ member rows test c
  unfolding member
  member_same c = ap (member_among (map h rows) test) (chain h k rows c) ∙ member_of (chain_of rows c)
