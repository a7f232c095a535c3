-- Where the parts of a node stand among its children.
use Rattle.std.proofs.Common.{◌≡◌, ℕ, zero, suc, ◌-◌, ◌<◌, ◌≤◌, List, [], ◌∷◌, ◌++◌, length, get_or, map, Some, refl, sym, ap, ◌∙◌, arith}
use Rattle.std.specs.List.{slice_get}
use Rattle.jr_ast.specs.declared.exprs.Expr.{Expr}
use Rattle.jr_ast.specs.declared.stmts.Stmt.{Stmt}
use Rattle.jr_ast.specs.declared.members.Member.{Member}
use Rattle.jr_paths_nodes.specs.declared.seeks.Seek.{Seek}
use Rattle.jr_paths_nodes.specs.declared.seeks.Seek.TheVariants.{Found, Left}
use Rattle.jr_ast.specs.View.{expr_of, exprs_of, stmt_of, stmts_of, member_of, members_of}
use Rattle.jr_paths_nodes.specs.NodeView.{node_of}
use Rattle.jr_paths_nodes.specs.Seeks.{sought}
use Rattle.jr_paths_nodes.specs.declared.nodes.Node.{Node}
use Rattle.jr_ast.specs.Nodes as pure

pub exps-exprs_of : {A : Type 0} (xs : List (Expr A)) → pure.exps (exprs_of xs) ≡ map (λ x. pure.exp (expr_of x)) xs
exps-exprs_of [] = refl
exps-exprs_of (x ∷ xs) = ap (λ l. pure.exp (expr_of x) ∷ l) (exps-exprs_of xs)

pub stmts-stmts_of : {A : Type 0} (xs : List (Stmt A)) → pure.stmts (stmts_of xs) ≡ map (λ x. pure.stmt (stmt_of x)) xs
stmts-stmts_of [] = refl
stmts-stmts_of (x ∷ xs) = ap (λ l. pure.stmt (stmt_of x) ∷ l) (stmts-stmts_of xs)

pub members-members_of : {A : Type 0} (xs : List (Member A)) → pure.members (members_of xs) ≡ map (λ x. pure.member (member_of x)) xs
members-members_of [] = refl
members-members_of (x ∷ xs) = ap (λ l. pure.member (member_of x) ∷ l) (members-members_of xs)

pub map-map : {X Y Z : Type 0} (f : Y → Z) (g : X → Y) (xs : List X) → map f (map g xs) ≡ map (λ x. f (g x)) xs
map-map f g [] = refl
map-map f g (x ∷ xs) = ap (λ l. f (g x) ∷ l) (map-map f g xs)

pub kept_found : {A : Type 0} (s : Seek A) (n : Node A) → s ≡ Found n → (L rest : List (pure.Node A)) → Some (node_of n) ≡ sought s (L ++ rest)
kept_found s n is L rest = sym (ap (λ t. sought t (L ++ rest)) is)

module _ {A X : Type 0} (f : X → pure.Node A) where
  get-in : (xs : List X) (k : ℕ) (x : X) (rest : List (pure.Node A)) → k < length xs → x ≡ get_or xs k x → Some (f x) ≡ slice_get (map f xs ++ rest) k
  get-in [] k x rest h e = absurd (omega arith)
  get-in (y ∷ ys) zero x rest h e = ap (λ z. Some (f z)) e
  get-in (y ∷ ys) (suc k) x rest h e = get-in ys k x rest (omega arith) e

  get-past : (xs : List X) (k : ℕ) (rest : List (pure.Node A)) → length xs ≤ k → slice_get rest (k - length xs) ≡ slice_get (map f xs ++ rest) k
  get-past [] k rest h = ap (slice_get rest) (omega arith)
  get-past (y ∷ ys) zero rest h = absurd (omega arith)
  get-past (y ∷ ys) (suc k) rest h =
      let e : suc k - suc (length ys) ≡ k - length ys = omega arith in
      ap (slice_get rest) e ∙ get-past ys k rest (omega arith)

  -- a search among the parts L, which are the nodes of xs
  pub found_in : (L : List (pure.Node A)) (xs : List X) → L ≡ map f xs → (s : Seek A) (k : ℕ) → s ≡ Left k → (x : X) → k < length xs → x ≡ get_or xs k x
      → (rest : List (pure.Node A)) → Some (f x) ≡ sought s (L ++ rest)
  found_in L xs same s k is x h e rest = get-in xs k x rest h e ∙ sym (ap (λ l. slice_get (l ++ rest) k) same) ∙ sym (ap (λ t. sought t (L ++ rest)) is)

  pub passed_over : (L : List (pure.Node A)) (xs : List X) → L ≡ map f xs → (s : Seek A) (k : ℕ) → s ≡ Left k → length xs ≤ k
      → (rest : List (pure.Node A)) → slice_get rest (k - length xs) ≡ sought s (L ++ rest)
  passed_over L xs same s k is h rest = get-past xs k rest h ∙ sym (ap (λ l. slice_get (l ++ rest) k) same) ∙ sym (ap (λ t. sought t (L ++ rest)) is)
