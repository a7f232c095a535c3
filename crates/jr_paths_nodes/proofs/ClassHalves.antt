-- Members at the end of a path that is walked in two parts with a step between them.
use Rattle.std.proofs.Common.{◌≡◌, ◌≤◌, ◌<◌, ◌*◌, ◌/◌, ◌%◌, ◌+◌, ◌-◌, ℕ, zero, suc, List, [], ◌∷◌, ◌++◌, length, take, drop, get_or, Option, Some, None, option_and_then, refl, sym, ap, subst, ◌∙◌, arith}
use Rattle.std.proofs.lemmas.List.{length-take-le, length-drop}
use Rattle.jr_ast.specs.MemberTree as declared
use Rattle.jr_ast.specs.Nodes.{Node, class, member, node_at, child_of, as_member, as_class, member_at}
use Rattle.jr_paths_nodes.specs.With.{member_with_class, with_child, with_found, with_node}
use Rattle.jr_paths_nodes.proofs.WithLaws.{child_same}
use Rattle.jr_paths_nodes.proofs.PathSplits.{class_split, class_even}
use Rattle.jr_paths_nodes.proofs.Halves.{rest_is, node_of_member, write_join, same_join}

module _ {A : Type 0} where
  member_is : (o : Option (Node A)) (d : declared.Member A) → Some d ≡ option_and_then as_member o → o ≡ Some (member d)
  member_is (Some (member e)) d h = ap (λ x. Some (member x)) (sym (cc h))
  member_is None d h = absurd (cc h)
  member_is (Some c) d h = absurd (cc h)

  class_is : (o : Option (Node A)) (d : declared.Class A) → Some d ≡ option_and_then as_class o → o ≡ Some (class d)
  class_is (Some (class e)) d h = ap (λ x. Some (class x)) (sym (cc h))
  class_is None d h = absurd (cc h)
  class_is (Some c) d h = absurd (cc h)

  pub member_at_child : (n : Node A) (i : ℕ) (d : declared.Member A) → Some d ≡ option_and_then as_member (child_of n i) → child_of n i ≡ Some (member d)
  member_at_child n i d h = member_is (child_of n i) d h

  pub class_inject : {d e : declared.Class A} → class d ≡ class e → d ≡ e
  class_inject h = cc h

  pub one_member : (n : Node A) (i : ℕ) (steps : List ℕ) → steps ≡ i ∷ [] → option_and_then as_member (child_of n i) ≡ member_at n steps
  unfolding node_at
  one_member n i steps is = go (child_of n i) ∙ ap (member_at n) (sym is)
    where
      go : (o : Option (Node A)) → option_and_then as_member o ≡ option_and_then as_member (option_and_then (λ c. Some c) o)
      go None = refl
      go (Some c) = refl

  -- no member stands at the end of a path of no step or of two
  pub none_but_one : (c : declared.Class A) (steps : List ℕ) → (length steps ≡ 1 → ⊥) → length steps ≤ 2 → None ≡ member_at (class c) steps
  none_but_one c [] other short = sym (class_even c [] 0 refl)
  none_but_one c (i ∷ []) other short = absurd (other refl)
  none_but_one c (i ∷ (j ∷ [])) other short = sym (class_even c (i ∷ (j ∷ [])) 1 refl)
  none_but_one c (i ∷ (j ∷ (k ∷ steps))) other short = absurd (omega (short, arith))

  pub none_at_even : (c : declared.Class A) (steps : List ℕ) → length steps % 2 ≡ 0 → None ≡ member_at (class c) steps
  none_at_even c steps even = sym (class_even c steps (length steps / 2) (omega (even, arith)))

  -- the first steps p lead to a member, of which the child of the number j is a class, where the rest q begins
  module _ (c : declared.Class A) (p : List ℕ) (j : ℕ) (q steps : List ℕ) (k : ℕ) (join : p ++ (j ∷ q) ≡ steps) (odd : length p ≡ 1 + 2 * k) where
    abbrev behind : declared.Member A → Option (declared.Member A)
    behind x = option_and_then (λ d. member_at (class d) q) (option_and_then as_class (child_of (member x) j))

    whole : option_and_then behind (member_at (class c) p) ≡ member_at (class c) steps
    whole = sym (class_split c p j q k odd) ∙ ap (member_at (class c)) join

    pub upper_missing : None ≡ member_at (class c) p → None ≡ member_at (class c) steps
    upper_missing found = ap (option_and_then behind) found ∙ whole

    pub inner_missing : (m : declared.Member A) → Some m ≡ member_at (class c) p → None ≡ option_and_then as_class (child_of (member m) j) → None ≡ member_at (class c) steps
    inner_missing m found entered = ap (option_and_then (λ d. member_at (class d) q)) entered ∙ ap (option_and_then behind) found ∙ whole

    pub member_joined : (m : declared.Member A) (d : declared.Class A) → Some m ≡ member_at (class c) p → Some d ≡ option_and_then as_class (child_of (member m) j)
        → member_at (class d) q ≡ member_at (class c) steps
    member_joined m d found entered = ap (option_and_then (λ e. member_at (class e) q)) entered ∙ ap (option_and_then behind) found ∙ whole

  step_write : (m : declared.Member A) (d e : declared.Class A) (j : ℕ) (q : List ℕ) (x : Node A) → child_of (member m) j ≡ Some (class d) → class e ≡ with_node (class d) q x
      → member (member_with_class m j e) ≡ with_node (member m) (j ∷ q) x
  unfolding with_node
  step_write m d e j q x entered below = ap (with_child (member m) j) below ∙ sym (ap (with_found (member m) j (λ c. with_node c q x)) entered)

  -- f ends as the class c in which m has become `new`, with e for its class d
  pub class_write_join : (c f e d : declared.Class A) (m new : declared.Member A) (x : Node A) (p : List ℕ) (j : ℕ) (q steps : List ℕ) → p ++ (j ∷ q) ≡ steps
      → Some m ≡ member_at (class c) p → Some d ≡ option_and_then as_class (child_of (member m) j)
      → class f ≡ with_node (class c) p (member new) → new ≡ member_with_class m j e → class e ≡ with_node (class d) q x → class f ≡ with_node (class c) steps x
  class_write_join c f e d m new x p j q steps join found entered first second third =
      write_join (class c) (member m) (class f) (member new) x p (j ∷ q) steps join (node_of_member (class c) p m found) first
      (ap member second ∙ step_write m d e j q x (class_is (child_of (member m) j) d entered) third)

  pub class_same_join : (c f e d : declared.Class A) (m new : declared.Member A) (p : List ℕ) (j : ℕ)
      → Some m ≡ member_at (class c) p → Some d ≡ option_and_then as_class (child_of (member m) j)
      → class f ≡ with_node (class c) p (member new) → new ≡ member_with_class m j e → e ≡ d → f ≡ c
  class_same_join c f e d m new p j found entered first second same =
      class_inject (same_join (class c) (member m) (class f) (member new) p (node_of_member (class c) p m found) first
      (ap member second ∙ ap (λ b. member (member_with_class m j b)) same ∙ child_same (member m) (class d) j (class_is (child_of (member m) j) d entered)))

  pub member_same_join : (c f : declared.Class A) (m new : declared.Member A) (p : List ℕ) → Some m ≡ member_at (class c) p → class f ≡ with_node (class c) p (member new) → new ≡ m → f ≡ c
  member_same_join c f m new p found first same =
      class_inject (same_join (class c) (member m) (class f) (member new) p (node_of_member (class c) p m found) first (ap member same))

-- the steps behind the first ones and the one that follows them, as the code cuts them
cut : (steps : List ℕ) (k : ℕ) → k < length steps → take k steps ++ (get_or steps k 0 ∷ drop (suc k) steps) ≡ steps
cut [] k h = absurd (omega (h, arith))
cut (i ∷ steps) zero h = refl
cut (i ∷ steps) (suc k) h = ap (λ l. i ∷ l) (cut steps k (omega (h, arith)))

cut_at : (steps : List ℕ) (k b : ℕ) → suc k ≡ b → b ≤ length steps → take k steps ++ (get_or steps k 0 ∷ take (length steps - b) (drop b steps)) ≡ steps
cut_at steps k b next fits =
    ap (λ q. take k steps ++ (get_or steps k 0 ∷ q)) (rest_is steps b) ∙ sym (ap (λ n. take k steps ++ (get_or steps k 0 ∷ drop n steps)) next)
    ∙ cut steps k (omega (next, fits, arith))

-- how many members the upper half passes
abbrev pub upper_of : List ℕ → ℕ
upper_of steps = (length steps / 2 + 1) / 2

module _ (steps : List ℕ) (odd : length steps % 2 ≡ 0 → ⊥) where
  odd_is : length steps ≡ 1 + 2 * (length steps / 2)
  odd_is = go (length steps % 2) refl odd
    where
      go : (r : ℕ) → length steps % 2 ≡ r → (length steps % 2 ≡ 0 → ⊥) → length steps ≡ 1 + 2 * (length steps / 2)
      go zero e o = absurd (o e)
      go (suc r) e o = omega (e, arith)

  module _ (some : 1 ≤ upper_of steps) where
    fits : 2 * upper_of steps ≤ length steps
    fits = omega (odd_is, some, arith)

    pub halves_join : take (2 * upper_of steps - 1) steps ++ (get_or steps (2 * upper_of steps - 1) 0 ∷ take (length steps - 2 * upper_of steps) (drop (2 * upper_of steps) steps)) ≡ steps
    halves_join = cut_at steps (2 * upper_of steps - 1) (2 * upper_of steps) (omega (some, arith)) fits

    upper_length : length (take (2 * upper_of steps - 1) steps) ≡ 2 * upper_of steps - 1
    upper_length = length-take-le (2 * upper_of steps - 1) steps (omega (fits, arith))

    pub upper_odd : length (take (2 * upper_of steps - 1) steps) ≡ 1 + 2 * (upper_of steps - 1)
    upper_odd = upper_length ∙ omega (some, arith)

    pub upper_within : (reach : ℕ) → length steps ≤ 2 * (2 * reach) → length (take (2 * upper_of steps - 1) steps) ≤ 2 * reach
    upper_within reach within = subst (λ n. n ≤ 2 * reach) (sym upper_length) (omega (odd_is, within, arith))

    pub lower_within : (reach : ℕ) → length steps ≤ 2 * (2 * reach) → length (take (length steps - 2 * upper_of steps) (drop (2 * upper_of steps) steps)) ≤ 2 * reach
    lower_within reach within =
        subst (λ n. n ≤ 2 * reach) (sym (ap length (rest_is steps (2 * upper_of steps)) ∙ length-drop (2 * upper_of steps) steps)) (omega (odd_is, within, arith))

  -- a path to a member of the class itself
  pub only_within : (reach : ℕ) → upper_of steps ≡ 0 → length steps ≤ 2 * (2 * reach) → length steps ≤ 2 * reach
  only_within reach none within = omega (odd_is, none, within, arith)
