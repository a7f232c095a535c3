-- Where a path leads from its last member, and from its last statement.
use Rattle.std.proofs.Common.{◌≡◌, ℕ, zero, suc, ◌+◌, ◌-◌, ◌<◌, ◌≤◌, List, [], ◌∷◌, ◌++◌, length, take, drop, Option, Some, None, option_and_then, refl, sym, ap, ◌∙◌, arith}
use Rattle.std.proofs.Math.Seq.{take-add}
use Rattle.std.proofs.lemmas.List.{take-take}
use Rattle.std.specs.Option.{IsSome}
use Rattle.jr_ast.specs.MemberTree as declared
use Rattle.jr_ast.specs.Nodes.{Node, unit, class, node_at, child_of, as_class, member_at}
use Rattle.jr_paths.specs.PathKinds.{IsLast}
use Rattle.jr_paths_nodes.proofs.WithLaws.{at_append}
use Rattle.jr_paths_nodes.proofs.PathSplits.{unit_member}

length-take-bound : {X : Type 0} (count : ℕ) (xs : List X) → length (take count xs) ≤ count
length-take-bound zero xs = omega arith
length-take-bound (suc count) [] = omega arith
length-take-bound (suc count) (x ∷ xs) = let h = length-take-bound count xs in omega (h, arith)

-- no first part of the path leads to such a node
pub none_at_all : {X : Type 0} (at : List ℕ → Option X) (steps : List ℕ) (last : ℕ) → IsLast at steps (length steps) last → None ≡ at (take last steps)
    → (k : ℕ) → 1 ≤ k → k ≤ length steps → at (take k steps) ≡ None
none_at_all at steps zero h none k low high = h.2 k low high
none_at_all at steps (suc last) h none k low high = absurd (not_some (at (take (suc last) steps)) (sym none) (h.1 (omega arith)))
  where
    not_some : {X : Type 0} (o : Option X) → o ≡ None → IsSome o → ⊥
    not_some None e some = cc some
    not_some (Some x) e some = cc e

-- the steps from one place to another
pub between : {X : Type 0} (m s : ℕ) (steps : List X) → m ≤ s → take m steps ++ take (s - m) (drop m steps) ≡ take s steps
between m s steps h = sym (take-add m (s - m) steps) ∙ ap (λ n. take n steps) (omega (h, arith))

module _ {A : Type 0} where
  class_is : (o : Option (Node A)) (d : declared.Class A) → option_and_then as_class o ≡ Some d → o ≡ Some (class d)
  class_is (Some (class e)) d h = ap (λ x. Some (class x)) (cc h)
  class_is None d h = absurd (cc h)
  class_is (Some c) d h = absurd (cc h)

  pub class_child : (n : Node A) (i : ℕ) (d : declared.Class A) → Some d ≡ option_and_then as_class (child_of n i) → child_of n i ≡ Some (class d)
  class_child n i d h = class_is (child_of n i) d (sym h)

  pub unit_inject : {d e : declared.Unit A} → unit d ≡ unit e → d ≡ e
  unit_inject h = cc h

  pub empty_member : (u : declared.Unit A) (steps : List ℕ) → length steps ≡ 0 → None ≡ member_at (unit u) steps
  unfolding node_at
  empty_member u [] h = refl
  empty_member u (i ∷ is) h = absurd (omega (h, arith))

  pub member_first : (u : declared.Unit A) (d : declared.Class A) (i : ℕ) (q steps : List ℕ) → i ∷ q ≡ steps → Some d ≡ option_and_then as_class (child_of (unit u) i)
      → member_at (class d) q ≡ member_at (unit u) steps
  member_first u d i q steps join at = ap (option_and_then (λ c. member_at (class c) q)) at ∙ sym (unit_member u i q) ∙ ap (member_at (unit u)) join

  pub no_member_first : (u : declared.Unit A) (i : ℕ) (q steps : List ℕ) → i ∷ q ≡ steps → None ≡ option_and_then as_class (child_of (unit u) i) → None ≡ member_at (unit u) steps
  no_member_first u i q steps join at = ap (option_and_then (λ c. member_at (class c) q)) at ∙ sym (unit_member u i q) ∙ ap (member_at (unit u)) join

  -- below a node on the path: what comes after it on the path
  module _ {X : Type 0} (kind : Node A → Option X) (u n : Node A) (steps : List ℕ) (place : ℕ) (at : node_at u (take place steps) ≡ Some n) where
    pub at_below : (q rest : List ℕ) → take place steps ++ q ≡ rest → option_and_then kind (node_at n q) ≡ option_and_then kind (node_at u rest)
    at_below q rest join =
        ap (λ o. option_and_then kind (option_and_then (λ c. node_at c q) o)) (sym at) ∙ ap (option_and_then kind) (sym (at_append u (take place steps) q)) ∙ ap (λ r. option_and_then kind (node_at u r)) join

    pub none_below : (count : ℕ) → place + count ≤ length steps → ((k : ℕ) → place < k → k ≤ length steps → option_and_then kind (node_at u (take k steps)) ≡ None)
        → (k : ℕ) → 1 ≤ k → k ≤ length (take count (drop place steps)) → option_and_then kind (node_at n (take k (take count (drop place steps)))) ≡ None
    none_below count fits none k low high =
        let q = take count (drop place steps) in
        let small : k ≤ count = omega (high, length-take-bound count (drop place steps), arith) in
        at_below (take k q) (take (place + k) steps) (ap (λ l. take place steps ++ l) (take-take k count (drop place steps) small) ∙ sym (take-add place k steps))
        ∙ none (place + k) (omega (low, arith)) (omega (small, fits, arith))
