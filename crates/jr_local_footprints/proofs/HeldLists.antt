-- Where the nearest element of a way stands on the member's spots: behind which path, and among which
-- children of the node there.
use Rattle.std.proofs.Common.{◌≡◌, ℕ, zero, suc, ◌+◌, List, [], ◌∷◌, ◌++◌, length, take, drop, Option, Some, None, refl, sym, ap, subst, ◌∙◌, arith, append_assoc, append-nil, length-append}
use Rattle.std.specs.Prelude.{slice_get, option_and_then, option_map}
use Rattle.std.proofs.lemmas.Option.{none-some, same_Some}
use Rattle.jr_ast.specs.Tree as tree
use Rattle.jr_ast.specs.StatementTree as statement
use Rattle.jr_ast.specs.Nodes as nodes
use Rattle.jr_ast.specs.Nodes.{Node, node_at, exp_at, stmt_at, child_of, children_of}
use Rattle.jr_runs.specs.Keys.{Keys}
use Rattle.jr_cover.specs.Sites.{Known}
use Rattle.jr_cover.specs.Spots.{Spot, onto, spot_exp, spot_stmt, spot_else, spot_stmts}
use Rattle.jr_pieces.specs.Ways.{StmtWay, in_init, in_eval, in_condition, in_then, in_else, in_turning, in_body, in_returned, in_block, in_lock, in_locked, ListWay, first, later}
use Rattle.jr_pieces.specs.Standings.{Standing, inside, behind, in_other}
use Rattle.jr_pieces.specs.Nearest.{Element, or_element, element_within, nearest}
use Rattle.jr_pieces.specs.Finding.{stmt_path, list_path}
use Rattle.jr_local_moves.specs.SpotWays.{IsSame, StmtCasts, ListCasts}
use Rattle.jr_piece_sites.specs.Pieces as piece
use Rattle.jr_piece_sites.specs.Pieces.{node_of, nth_stmt}
use Rattle.jr_piece_sites.proofs.Leading.{node_leads}
use Rattle.jr_piece_sites.proofs.WayPaths.{list_leads}
use Rattle.jr_local_footprints.proofs.SpottedWays.{further, ListSpotted, list_spotted}

-- ---- rows

pub head_of : {Z : Type 0} (xs : List Z) (n : ℕ) (y : Z) (ys : List Z) → drop n xs ≡ y ∷ ys → slice_get xs n ≡ Some y
head_of {Z = Z} [] n y ys e = absurd (apart (drop_none n) e)
  where
    drop_none : (k : ℕ) → (let none : List Z = [] in drop k none ≡ none)
    drop_none zero = refl
    drop_none (suc k) = refl

    apart : {l : List Z} → l ≡ [] → l ≡ y ∷ ys → ⊥
    apart {l} f g = let h : [] ≡ y ∷ ys = sym f ∙ g in cc
head_of {Z = Z} (x ∷ xs) zero y ys e = same x xs e
  where
    same : (z : Z) (zs : List Z) → z ∷ zs ≡ y ∷ ys → Some z ≡ Some y
    same z zs h = cc
head_of (x ∷ xs) (suc n) y ys e = head_of xs n y ys e

pub tail_of : {Z : Type 0} (xs : List Z) (n : ℕ) (y : Z) (ys : List Z) → drop n xs ≡ y ∷ ys → drop (suc n) xs ≡ ys
tail_of {Z = Z} [] n y ys e = absurd (apart (drop_none n) e)
  where
    drop_none : (k : ℕ) → (let none : List Z = [] in drop k none ≡ none)
    drop_none zero = refl
    drop_none (suc k) = refl

    apart : {l : List Z} → l ≡ [] → l ≡ y ∷ ys → ⊥
    apart {l} f g = let h : [] ≡ y ∷ ys = sym f ∙ g in cc
tail_of {Z = Z} (x ∷ xs) zero y ys e = same x xs e
  where
    same : (z : Z) (zs : List Z) → z ∷ zs ≡ y ∷ ys → zs ≡ ys
    same z zs h = cc
tail_of (x ∷ xs) (suc n) y ys e = tail_of xs n y ys e

pub get_behind : {Z : Type 0} (xs : List Z) (n i j : ℕ) → j ≡ n + i → slice_get (drop n xs) i ≡ slice_get xs j
get_behind xs zero i j e = ap (slice_get xs) (let same : i ≡ j = omega (arith, e) in same)
get_behind [] (suc n) i j e = refl
get_behind (x ∷ xs) (suc n) i zero e = absurd (omega (arith, e))
get_behind (x ∷ xs) (suc n) i (suc j) e = get_behind xs n i j (omega (arith, e))

-- ---- nodes

module _ {A : Type 0} where
  pub node_here : (n : Node A) → node_at n [] ≡ Some n
  unfolding node_at
  node_here n = refl

  -- a child of the node at a path
  pub node_onto : (p : List ℕ) (i : ℕ) (m n c : Node A) → node_at m p ≡ Some n → child_of n i ≡ Some c → node_at m (onto p i) ≡ Some c
  unfolding node_at
  node_onto [] i m n c e h = ap (option_and_then (λ d. node_at d [])) (ap (λ (x : Node A). child_of x i) (same_Some m n e) ∙ h)
  node_onto (j ∷ p) i m n c e h = go (child_of m j) (λ d. node_onto p i d n c) e
    where
      go : (o : Option (Node A)) → ((d : Node A) → node_at d p ≡ Some n → child_of n i ≡ Some c → node_at d (onto p i) ≡ Some c) → option_and_then (λ d. node_at d p) o ≡ Some n
          → option_and_then (λ d. node_at d (onto p i)) o ≡ Some c
      go None on f = absurd (none-some n f)
      go (Some d) on f = on d f h

  nth_node : (ss : statement.Stmts A) (i : ℕ) (s : statement.Stmt A) → nth_stmt ss i ≡ Some (piece.stmt s) → slice_get (nodes.stmts ss) i ≡ Some (nodes.stmt s)
  nth_node statement.end i s e = absurd (none-some (piece.stmt s) e)
  nth_node (statement.more x xs) zero s e = ap (option_map node_of) e
  nth_node (statement.more x xs) (suc i) s e = nth_node xs i s e

  -- From a node, a way into its children that are a list leads to its expression.
  pub way_leads : (n : Node A) (ss : statement.Stmts A) (i : ℕ) → drop i (children_of n) ≡ nodes.stmts ss → (f : tree.Exp A) (d : ListWay f ss) → exp_at n (list_path i d) ≡ Some f
  unfolding node_at
  way_leads n ss i are f d =
      let r = list_leads f ss d i in
      let number : ℕ = i + r.at in
      let child : child_of n number ≡ Some (nodes.stmt r.to) = sym (get_behind (children_of n) i r.at number refl) ∙ ap (λ (l : List (Node A)). slice_get l r.at) are ∙ nth_node ss r.at r.to r.is in
      let there : node_at (nodes.stmt r.to) r.rest ≡ Some (nodes.exp f) = node_leads r.rest (piece.stmt r.to) (piece.exp f) r.leads in
      let split : list_path i d ≡ number ∷ r.rest = r.path number refl in
      ap (exp_at n) split ∙ ap (λ (o : Option (Node A)). option_and_then nodes.as_exp (option_and_then (λ c. node_at c r.rest) o)) child ∙ ap (option_and_then nodes.as_exp) there

module _ {K : Keys} {A : Type 0} (B E : A → ℕ → ℕ) (X : Known K A) (Y : Known K Spot) (whole : Node Spot) {f : tree.Exp A} where
  -- q: the path of the way
  pub record Held (el : Element f) (q : List ℕ) : Type 0 where
    pub around : List ℕ
    pub step : ℕ
    pub base : ℕ
    pub path : q ≡ around ++ step ∷ stmt_path el.way
    pub node : Node Spot
    pub at : node_at whole around ≡ Some node
    pub are : drop step (children_of node) ≡ nodes.stmts (spot_stmts B E (statement.more el.stmt el.rest) base around step)
    pub casts : ListCasts B E X Y (statement.more el.stmt el.rest) base around step

  -- the same, by another name of the path
  moved : (el : Element f) (q r : List ℕ) → q ≡ r → Held el q → Held el r
  moved el q r e h = subst (Held el) e h

  no_element : {Z : Type 0} (el : Element f) → (let none : Option (Element f) = None in none ≡ Some el) → Z
  no_element el e = absurd (none-some el e)

  mutual
    unfolding spot_stmt spot_else spot_stmts nodes.stmt_children

    stmt_held : (s : statement.Stmt A) (d : StmtWay f s) (st : Standing) (base : ℕ) (p : List ℕ) → node_at whole p ≡ Some (nodes.stmt (spot_stmt B E s base p)) → StmtCasts B E X Y s base p
        → (el : Element f) → element_within B st d ≡ Some el → Held el (p ++ stmt_path d)
    stmt_held _ (in_init m is_final t w e d) st base p at c el is = no_element el is
    stmt_held _ (in_eval m e d) st base p at c el is = no_element el is
    stmt_held _ (in_condition m x s o d) st base p at c el is = no_element el is
    stmt_held _ (in_then m x s o d) st base p at c el is =
        moved el (onto p 1 ++ stmt_path d) (p ++ 1 ∷ stmt_path d) (append_assoc p (1 ∷ []) (stmt_path d))
        (stmt_held s d (inside B m st) (B m base) (onto p 1) (node_onto p 1 whole (nodes.stmt (spot_stmt B E (statement.branch m x s o) base p)) (nodes.stmt (spot_stmt B E s (B m base) (onto p 1))) at refl) c.1 el is)
    stmt_held _ (in_else m x s o d) st base p at c el is =
        moved el (onto p 2 ++ stmt_path d) (p ++ 2 ∷ stmt_path d) (append_assoc p (2 ∷ []) (stmt_path d))
        (stmt_held o d (in_other B m s st) (B m base) (onto p 2) (node_onto p 2 whole (nodes.stmt (spot_stmt B E (statement.branch m x s (statement.otherwise o)) base p)) (nodes.stmt (spot_stmt B E o (B m base) (onto p 2))) at refl) c.2 el is)
    stmt_held _ (in_turning m x s d) st base p at c el is = no_element el is
    stmt_held _ (in_body m x s d) st base p at c el is =
        moved el (onto p 1 ++ stmt_path d) (p ++ 1 ∷ stmt_path d) (append_assoc p (1 ∷ []) (stmt_path d))
        (stmt_held s d (inside B m st) (B m base) (onto p 1) (node_onto p 1 whole (nodes.stmt (spot_stmt B E (statement.loop m x s) base p)) (nodes.stmt (spot_stmt B E s (B m base) (onto p 1))) at refl) c.1 el is)
    stmt_held _ (in_returned m e d) st base p at c el is = no_element el is
    stmt_held _ (in_block m b d) st base p at c el is =
        subst (λ (x : Element f). Held x (p ++ list_path 0 d)) (same_Some _ el is) (list_held b d (inside B m st) (B m base) p 0 (nodes.stmt (spot_stmt B E (statement.block m b) base p)) at refl c)
    stmt_held _ (in_lock m e b d) st base p at c el is = no_element el is
    stmt_held _ (in_locked m e b d) st base p at c el is =
        subst (λ (x : Element f). Held x (p ++ list_path 1 d)) (same_Some _ el is) (list_held b d (inside B m st) (B m base) p 1 (nodes.stmt (spot_stmt B E (statement.sync m e b) base p)) at refl c.1)

    pub list_held : (b : statement.Stmts A) (d : ListWay f b) (st : Standing) (base : ℕ) (p : List ℕ) (n : ℕ) (node : Node Spot) → node_at whole p ≡ Some node
        → drop n (children_of node) ≡ nodes.stmts (spot_stmts B E b base p n) → ListCasts B E X Y b base p n → Held (nearest B st d) (p ++ list_path n d)
    list_held _ (first s ss d) st base p n node at are c = by (element_within B st d) refl (λ el is. stmt_held s d st base (onto p n) there c.0 el is)
      where
        there : node_at whole (onto p n) ≡ Some (nodes.stmt (spot_stmt B E s base (onto p n)))
        there = node_onto p n whole node (nodes.stmt (spot_stmt B E s base (onto p n))) at (head_of (children_of node) n (nodes.stmt (spot_stmt B E s base (onto p n))) (nodes.stmts (spot_stmts B E ss base p (suc n))) are)

        by : (o : Option (Element f)) → element_within B st d ≡ o → ((el : Element f) → element_within B st d ≡ Some el → Held el (onto p n ++ stmt_path d))
            → Held (or_element o (record { at = st; stmt = s; rest = ss; way = d })) (p ++ n ∷ stmt_path d)
        by None e go = record { around = p; step = n; base = base; path = refl; node = node; at = at; are = are; casts = c }
        by (Some el) e go = moved el (onto p n ++ stmt_path d) (p ++ n ∷ stmt_path d) (append_assoc p (n ∷ []) (stmt_path d)) (go el e)
    list_held _ (later s ss d) st base p n node at are c =
        list_held ss d (behind B s st) base p (suc n) node at (tail_of (children_of node) n (nodes.stmt (spot_stmt B E s base (onto p n))) (nodes.stmts (spot_stmts B E ss base p (suc n))) are) c.1

-- ---- a path and where its last part begins

pub same_front : (a b q : List ℕ) (i j : ℕ) → a ++ i ∷ q ≡ b ++ j ∷ q → (a ≡ b) × (i ≡ j)
same_front [] [] q i j e = (refl, same i j q q e)
  where
    same : (k l : ℕ) (r s : List ℕ) → k ∷ r ≡ l ∷ s → k ≡ l
    same k l r s h = cc
same_front [] (y ∷ b) q i j e = absurd (let n : length (i ∷ q) ≡ length ((y ∷ b) ++ j ∷ q) = ap length e in let m = length-append b (j ∷ q) in omega (arith, n, m))
same_front (x ∷ a) [] q i j e = absurd (let n : length ((x ∷ a) ++ i ∷ q) ≡ length (j ∷ q) = ap length e in let m = length-append a (i ∷ q) in omega (arith, n, m))
same_front (x ∷ a) (y ∷ b) q i j e =
    let r = same_front a b q i j (tail x y _ _ e) in
    (λ k. head x y _ _ e k ∷ r.0 k, r.1)
  where
    head : (k l : ℕ) (r s : List ℕ) → k ∷ r ≡ l ∷ s → k ≡ l
    head k l r s h = cc

    tail : (k l : ℕ) (r s : List ℕ) → k ∷ r ≡ l ∷ s → r ≡ s
    tail k l r s h = cc
