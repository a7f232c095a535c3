-- Nodes at the end of a path that is walked in two parts, or in one step.
use Rattle.std.proofs.Common.{◌≡◌, ◌≤◌, ◌<◌, ◌*◌, ◌/◌, ◌-◌, ℕ, List, [], ◌∷◌, ◌++◌, length, take, drop, get_or, Option, Some, None, option_and_then, refl, sym, ap, subst, ◌∙◌, arith}
use Rattle.std.proofs.lemmas.List.{length-take-le, length-drop, take_all, take-append-drop}
use Rattle.jr_ast.specs.Tree as tree
use Rattle.jr_ast.specs.StatementTree as statement
use Rattle.jr_ast.specs.MemberTree as declared
use Rattle.jr_ast.specs.Nodes.{Node, member, stmt, exp, node_at, child_of, as_exp, as_stmt, as_member, exp_at, stmt_at, member_at}
use Rattle.jr_paths_nodes.specs.With.{with_child, with_found, with_node}
use Rattle.jr_paths_nodes.specs.Reaches.{IsWithin}
use Rattle.jr_paths_nodes.proofs.WithLaws.{with_append, with_same, child_same}
use Rattle.jr_paths_nodes.proofs.PathSplits.{exp_split, stmt_split}

-- one step
pub one_step : (steps : List ℕ) → 1 ≤ length steps → length steps < 2 → steps ≡ get_or steps 0 0 ∷ []
one_step [] h k = absurd (omega (h, arith))
one_step (i ∷ []) h k = refl
one_step (i ∷ (j ∷ is)) h k = absurd (omega (k, arith))

module _ {A : Type 0} where
  -- a node of a kind
  exp_is : (o : Option (Node A)) (d : tree.Exp A) → option_and_then as_exp o ≡ Some d → o ≡ Some (exp d)
  exp_is (Some (exp e)) d h = ap (λ x. Some (exp x)) (cc h)
  exp_is None d h = absurd (cc h)
  exp_is (Some c) d h = absurd (cc h)

  stmt_is : (o : Option (Node A)) (d : statement.Stmt A) → option_and_then as_stmt o ≡ Some d → o ≡ Some (stmt d)
  stmt_is (Some (stmt e)) d h = ap (λ x. Some (stmt x)) (cc h)
  stmt_is None d h = absurd (cc h)
  stmt_is (Some c) d h = absurd (cc h)

  member_is : (o : Option (Node A)) (d : declared.Member A) → option_and_then as_member o ≡ Some d → o ≡ Some (member d)
  member_is (Some (member e)) d h = ap (λ x. Some (member x)) (cc h)
  member_is None d h = absurd (cc h)
  member_is (Some c) d h = absurd (cc h)

  pub exp_inject : {d e : tree.Exp A} → exp d ≡ exp e → d ≡ e
  exp_inject h = cc h

  pub stmt_inject : {d e : statement.Stmt A} → stmt d ≡ stmt e → d ≡ e
  stmt_inject h = cc h

  pub member_inject : {d e : declared.Member A} → member d ≡ member e → d ≡ e
  member_inject h = cc h

  pub node_of_exp : (n : Node A) (p : List ℕ) (d : tree.Exp A) → Some d ≡ exp_at n p → node_at n p ≡ Some (exp d)
  node_of_exp n p d h = exp_is (node_at n p) d (sym h)

  pub node_of_stmt : (n : Node A) (p : List ℕ) (d : statement.Stmt A) → Some d ≡ stmt_at n p → node_at n p ≡ Some (stmt d)
  node_of_stmt n p d h = stmt_is (node_at n p) d (sym h)

  pub node_of_member : (n : Node A) (p : List ℕ) (d : declared.Member A) → Some d ≡ member_at n p → node_at n p ≡ Some (member d)
  node_of_member n p d h = member_is (node_at n p) d (sym h)

  -- a write below c, which stands at p below n
  pub write_join : (n c f g x : Node A) (p q steps : List ℕ) → p ++ q ≡ steps → node_at n p ≡ Some c → f ≡ with_node n p g → g ≡ with_node c q x → f ≡ with_node n steps x
  write_join n c f g x p q steps join at first second =
      first ∙ ap (with_node n p) second ∙ sym (with_append n c x p q at) ∙ ap (λ s. with_node n s x) join

  -- no write below c
  pub same_join : (n c f g : Node A) (p : List ℕ) → node_at n p ≡ Some c → f ≡ with_node n p g → g ≡ c → f ≡ n
  same_join n c f g p at first same = first ∙ ap (with_node n p) same ∙ with_same n c p at

  -- a first step to c, and a write below it
  pub first_then : (n c f g x : Node A) (i : ℕ) (q steps : List ℕ) → i ∷ q ≡ steps → child_of n i ≡ Some c → f ≡ with_child n i g → g ≡ with_node c q x → f ≡ with_node n steps x
  unfolding with_node
  first_then n c f g x i q steps join at first second =
      first ∙ ap (with_child n i) second ∙ sym (ap (with_found n i (λ d. with_node d q x)) at) ∙ ap (λ s. with_node n s x) join

  pub first_same : (n c f g : Node A) (i : ℕ) → child_of n i ≡ Some c → f ≡ with_child n i g → g ≡ c → f ≡ n
  first_same n c f g i at first same = first ∙ ap (with_child n i) same ∙ child_same n c i at

  pub empty_exp : (s : statement.Stmt A) (steps : List ℕ) → length steps ≡ 0 → None ≡ exp_at (stmt s) steps
  unfolding node_at
  empty_exp s [] h = refl
  empty_exp s (i ∷ is) h = absurd (omega (h, arith))

  pub empty_exp_member : (m : declared.Member A) (steps : List ℕ) → length steps ≡ 0 → None ≡ exp_at (member m) steps
  unfolding node_at
  empty_exp_member m [] h = refl
  empty_exp_member m (i ∷ is) h = absurd (omega (h, arith))

  pub empty_stmt_member : (m : declared.Member A) (steps : List ℕ) → length steps ≡ 0 → None ≡ stmt_at (member m) steps
  unfolding node_at
  empty_stmt_member m [] h = refl
  empty_stmt_member m (i ∷ is) h = absurd (omega (h, arith))

  pub exp_joined : (e d : tree.Exp A) (p q steps : List ℕ) → p ++ q ≡ steps → Some d ≡ exp_at (exp e) p → exp_at (exp d) q ≡ exp_at (exp e) steps
  exp_joined e d p q steps join at = ap (option_and_then (λ x. exp_at (exp x) q)) at ∙ sym (exp_split e p q) ∙ ap (exp_at (exp e)) join

  pub exp_missing : (e : tree.Exp A) (p q steps : List ℕ) → p ++ q ≡ steps → None ≡ exp_at (exp e) p → None ≡ exp_at (exp e) steps
  exp_missing e p q steps join at = ap (option_and_then (λ x. exp_at (exp x) q)) at ∙ sym (exp_split e p q) ∙ ap (exp_at (exp e)) join

  pub stmt_joined : (e d : statement.Stmt A) (p q steps : List ℕ) → p ++ q ≡ steps → Some d ≡ stmt_at (stmt e) p → stmt_at (stmt d) q ≡ stmt_at (stmt e) steps
  stmt_joined e d p q steps join at = ap (option_and_then (λ x. stmt_at (stmt x) q)) at ∙ sym (stmt_split e p q) ∙ ap (stmt_at (stmt e)) join

  pub stmt_missing : (e : statement.Stmt A) (p q steps : List ℕ) → p ++ q ≡ steps → None ≡ stmt_at (stmt e) p → None ≡ stmt_at (stmt e) steps
  stmt_missing e p q steps join at = ap (option_and_then (λ x. stmt_at (stmt x) q)) at ∙ sym (stmt_split e p q) ∙ ap (stmt_at (stmt e)) join

  pub one_exp : (n : Node A) (i : ℕ) (steps : List ℕ) → steps ≡ i ∷ [] → option_and_then as_exp (child_of n i) ≡ exp_at n steps
  unfolding node_at
  one_exp n i steps is = go (child_of n i) ∙ ap (exp_at n) (sym is)
    where
      go : (o : Option (Node A)) → option_and_then as_exp o ≡ option_and_then as_exp (option_and_then (λ c. Some c) o)
      go None = refl
      go (Some c) = refl

  pub one_stmt : (n : Node A) (i : ℕ) (steps : List ℕ) → steps ≡ i ∷ [] → option_and_then as_stmt (child_of n i) ≡ stmt_at n steps
  unfolding node_at
  one_stmt n i steps is = go (child_of n i) ∙ ap (stmt_at n) (sym is)
    where
      go : (o : Option (Node A)) → option_and_then as_stmt o ≡ option_and_then as_stmt (option_and_then (λ c. Some c) o)
      go None = refl
      go (Some c) = refl

  pub one_write : (n c x : Node A) (i : ℕ) (steps : List ℕ) → steps ≡ i ∷ [] → child_of n i ≡ Some c → with_child n i x ≡ with_node n steps x
  unfolding with_node
  one_write n c x i steps is at = sym (ap (λ o. with_found_const o) at) ∙ ap (λ s. with_node n s x) (sym is)
    where
      with_found_const : Option (Node A) → Node A
      with_found_const None = n
      with_found_const (Some d) = with_child n i x

  pub exp_child : (n : Node A) (i : ℕ) (d : tree.Exp A) → Some d ≡ option_and_then as_exp (child_of n i) → child_of n i ≡ Some (exp d)
  exp_child n i d h = exp_is (child_of n i) d (sym h)

  pub stmt_child : (n : Node A) (i : ℕ) (d : statement.Stmt A) → Some d ≡ option_and_then as_stmt (child_of n i) → child_of n i ≡ Some (stmt d)
  stmt_child n i d h = stmt_is (child_of n i) d (sym h)

-- both halves are within half the reach
pub upper_half : (reach : ℕ) (steps : List ℕ) → 1 ≤ length steps / 2 → IsWithin (2 * reach) steps → IsWithin reach (take (length steps / 2) steps)
upper_half reach steps some within =
    let half = length steps / 2 in
    let fits : half ≤ length steps = omega arith in
    let same : length (take half steps) ≡ half = length-take-le half steps fits in
    (subst (λ n. 1 ≤ n) (sym same) some, subst (λ n. n ≤ reach) (sym same) (omega (within.1, arith)))

-- the steps behind the first ones, as the code cuts them
pub rest_is : (steps : List ℕ) (k : ℕ) → take (length steps - k) (drop k steps) ≡ drop k steps
rest_is steps k = take_all (length steps - k) (drop k steps) (subst (λ n. n ≤ length steps - k) (sym (length-drop k steps)) (omega arith))

pub joined : (steps : List ℕ) (k : ℕ) → take k steps ++ take (length steps - k) (drop k steps) ≡ steps
joined steps k = ap (λ q. take k steps ++ q) (rest_is steps k) ∙ take-append-drop k steps

pub lower_half : (reach : ℕ) (steps : List ℕ) → 1 ≤ length steps / 2 → IsWithin (2 * reach) steps
    → IsWithin reach (take (length steps - length steps / 2) (drop (length steps / 2) steps))
lower_half reach steps some within =
    let half = length steps / 2 in
    let same : length (take (length steps - half) (drop half steps)) ≡ length steps - half = ap length (rest_is steps half) ∙ length-drop half steps in
    (subst (λ n. 1 ≤ n) (sym same) (omega (some, arith)), subst (λ n. n ≤ reach) (sym same) (omega (within.1, arith)))

-- a path of one step is within half the reach
pub first_step : (steps : List ℕ) → 1 ≤ length steps → get_or steps 0 0 ∷ take (length steps - 1) (drop 1 steps) ≡ steps
first_step [] h = absurd (omega (h, arith))
first_step (i ∷ is) h = ap (λ q. i ∷ q) (rest_is (i ∷ is) 1)

pub rest_short : {bound : ℕ} (steps : List ℕ) → length steps ≤ bound → length (take (length steps - 1) (drop 1 steps)) ≤ bound
rest_short {bound} steps h = subst (λ n. n ≤ bound) (sym (ap length (rest_is steps 1) ∙ length-drop 1 steps)) (omega (h, arith))

pub rest_within : (reach : ℕ) (steps : List ℕ) → 2 ≤ length steps → length steps ≤ reach → IsWithin reach (take (length steps - 1) (drop 1 steps))
rest_within reach steps h k =
    let same : length (take (length steps - 1) (drop 1 steps)) ≡ length steps - 1 = ap length (rest_is steps 1) ∙ length-drop 1 steps in
    (subst (λ n. 1 ≤ n) (sym same) (omega (h, arith)), subst (λ n. n ≤ reach) (sym same) (omega (k, arith)))

pub short_within : (reach : ℕ) (steps : List ℕ) → length steps / 2 ≡ 0 → IsWithin (2 * reach) steps → IsWithin reach steps
short_within reach steps short within =
    let one : length steps ≤ 1 = omega (short, arith) in
    (within.0, omega (within, one, arith))
