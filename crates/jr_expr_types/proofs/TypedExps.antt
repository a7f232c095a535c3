-- In the tree of types of an expression a path leads to the type of the expression to which it
-- leads there.
use Rattle.std.proofs.Common.{◌≡◌, ℕ, zero, suc, List, [], ◌∷◌, ◌++◌, map, Option, Some, None, refl, sym, ap, subst, ◌∙◌}
use Rattle.std.specs.Prelude.{◌↔◌, slice_get, option_and_then, option_map}
use Rattle.jr_ast.specs.Tree as tree
use Rattle.jr_ast.specs.Nodes.{Node, unit, class, modifier, word, type, param, member, stmt, exp, exps, type_children, exp_children, node_at, as_exp, exp_at}
use Rattle.jr_table.specs.Keys.{Ty}
use Rattle.jr_table.specs.Rows.{Row}
use Rattle.jr_table.specs.Context.{Context}
use Rattle.jr_table.specs.Meanings.{type_of}
use Rattle.jr_expr_types.specs.Trees as trees
use Rattle.jr_expr_types.specs.Trees.{Tree, Parts, none, put, type_at, part_at, parts_of}
use Rattle.jr_expr_types.specs.TypedTrees.{leaf, put_leaf, exp_tree, exp_parts, target_parts, put_row}
use Rattle.jr_expr_types.proofs.Listing.{listed, listed_at}

pub leaf_typeless : (path : List ℕ) → type_at leaf path ≡ None
unfolding type_at
leaf_typeless [] = refl
leaf_typeless (i ∷ is) = refl

module _ {A : Type 0} (rows : List Row) (c : Context) where
  abbrev node_tree : Node A → Tree
  node_tree (exp e) = exp_tree rows c e
  node_tree (unit u) = leaf
  node_tree (class k) = leaf
  node_tree (modifier m) = leaf
  node_tree (word w) = leaf
  node_tree (type t) = leaf
  node_tree (param p) = leaf
  node_tree (member m) = leaf
  node_tree (stmt s) = leaf

  -- what stands in expressions
  abbrev IsPlain : Node A → Type 0
  IsPlain (exp e) = Unit {0}
  IsPlain (word w) = Unit {0}
  IsPlain (type t) = Unit {0}
  IsPlain (unit u) = ⊥
  IsPlain (class k) = ⊥
  IsPlain (modifier m) = ⊥
  IsPlain (param p) = ⊥
  IsPlain (member m) = ⊥
  IsPlain (stmt s) = ⊥

  abbrev ArePlain : List (Node A) → Type 0
  ArePlain [] = Unit {0}
  ArePlain (n ∷ ns) = IsPlain n × ArePlain ns

  row_plain : (es : tree.Exps A) → ArePlain (exps es)
  row_plain tree.end = tt
  row_plain (tree.more e es) = (tt, row_plain es)

  plain : (e : tree.Exp A) → ArePlain (exp_children e)
  unfolding exp_children
  plain (tree.number m n) = tt
  plain (tree.truth m b) = tt
  plain (tree.null m) = tt
  plain (tree.string m s) = tt
  plain (tree.name m w) = (tt, tt)
  plain (tree.field m e w) = (tt, (tt, tt))
  plain (tree.super_field m w) = (tt, tt)
  plain (tree.this m) = tt
  plain (tree.class_literal m t) = (tt, tt)
  plain (tree.call m tree.no_target w args) = (tt, row_plain args)
  plain (tree.call m (tree.on e) w args) = (tt, (tt, row_plain args))
  plain (tree.super_call m w args) = (tt, row_plain args)
  plain (tree.create m t args) = (tt, row_plain args)
  plain (tree.paren m e) = (tt, tt)
  plain (tree.cast m t e) = (tt, (tt, tt))
  plain (tree.unary m o e) = (tt, tt)
  plain (tree.bump m o e) = (tt, tt)
  plain (tree.binary m o x y) = (tt, (tt, tt))
  plain (tree.assign m x y) = (tt, (tt, tt))
  plain (tree.compound m o x y) = (tt, (tt, tt))

  one_plain : (ns : List (Node A)) (i : ℕ) (n : Node A) → ArePlain ns → slice_get ns i ≡ Some n → IsPlain n
  one_plain [] i n h e = absurd cc
  one_plain (x ∷ ns) zero n h e = subst IsPlain (let f : x ≡ n = cc in f) h.0
  one_plain (x ∷ ns) (suc i) n h e = one_plain ns i n h.1 e

  -- the parts of an expression are its children
  pub row_listed : (ps : Parts) (es : tree.Exps A) → put_row rows c ps es ≡ listed ps (map node_tree (exps es))
  unfolding exp_parts target_parts put_row
  row_listed ps tree.end = refl
  row_listed ps (tree.more e es) = row_listed (put ps (exp_tree rows c e)) es

  listed_parts : (e : tree.Exp A) → exp_parts rows c e ≡ listed none (map node_tree (exp_children e))
  unfolding exp_parts target_parts put_row exp_children
  listed_parts (tree.number m n) = refl
  listed_parts (tree.truth m b) = refl
  listed_parts (tree.null m) = refl
  listed_parts (tree.string m s) = refl
  listed_parts (tree.name m w) = refl
  listed_parts (tree.field m e w) = refl
  listed_parts (tree.super_field m w) = refl
  listed_parts (tree.this m) = refl
  listed_parts (tree.class_literal m t) = refl
  listed_parts (tree.call m tree.no_target w args) = row_listed (put_leaf none) args
  listed_parts (tree.call m (tree.on e) w args) = row_listed (put_leaf (put none (exp_tree rows c e))) args
  listed_parts (tree.super_call m w args) = row_listed (put_leaf none) args
  listed_parts (tree.create m t args) = row_listed (put_leaf none) args
  listed_parts (tree.paren m e) = refl
  listed_parts (tree.cast m t e) = refl
  listed_parts (tree.unary m o e) = refl
  listed_parts (tree.bump m o e) = refl
  listed_parts (tree.binary m o x y) = refl
  listed_parts (tree.assign m x y) = refl
  listed_parts (tree.compound m o x y) = refl

  get_mapped : (ns : List (Node A)) (i : ℕ) → slice_get (map node_tree ns) i ≡ option_map node_tree (slice_get ns i)
  get_mapped [] i = refl
  get_mapped (n ∷ ns) zero = refl
  get_mapped (n ∷ ns) (suc i) = get_mapped ns i

  exp_part : (e : tree.Exp A) (i : ℕ) → part_at (exp_parts rows c e) i ≡ option_map node_tree (slice_get (exp_children e) i)
  exp_part e i = ap (λ ps. part_at ps i) (listed_parts e) ∙ listed_at (map node_tree (exp_children e)) i ∙ get_mapped (exp_children e) i

  no_exp_in_word : (w : tree.Word A) (path : List ℕ) → exp_at (word w) path ≡ None
  unfolding node_at
  no_exp_in_word w [] = refl
  no_exp_in_word w (i ∷ is) = refl

  no_exp_under : (o : Option (Node A)) (is : List ℕ) → ((n : Node A) → o ≡ Some n → exp_at n is ≡ None) → option_and_then as_exp (option_and_then (λ n. node_at n is) o) ≡ None
  no_exp_under None is h = refl
  no_exp_under (Some n) is h = h n refl

  word_of_type : (t : tree.TypeName A) (i : ℕ) (n : Node A) → slice_get (type_children t) i ≡ Some n → (w : tree.Word A) × (n ≡ word w)
  word_of_type (tree.int m) i n e = absurd cc
  word_of_type (tree.boolean m) i n e = absurd cc
  word_of_type (tree.named m None w) zero n e = (w, let f : word w ≡ n = cc in sym f)
  word_of_type (tree.named m None w) (suc i) n e = absurd cc
  word_of_type (tree.named m (Some o) w) zero n e = (o, let f : word o ≡ n = cc in sym f)
  word_of_type (tree.named m (Some o) w) (suc zero) n e = (w, let f : word w ≡ n = cc in sym f)
  word_of_type (tree.named m (Some o) w) (suc (suc i)) n e = absurd cc

  no_exp_in_type : (t : tree.TypeName A) (path : List ℕ) → exp_at (type t) path ≡ None
  unfolding node_at
  no_exp_in_type t [] = refl
  no_exp_in_type t (i ∷ is) = no_exp_under (slice_get (type_children t) i) is (λ n e. (let w = word_of_type t i n e in ap (λ x. exp_at x is) w.1 ∙ no_exp_in_word w.0 is))

  typed_node : (n : Node A) (is : List ℕ) → IsPlain n → ((e : tree.Exp A) → type_at (exp_tree rows c e) is ≡ option_and_then (type_of rows c) (exp_at (exp e) is))
      → type_at (node_tree n) is ≡ option_and_then (type_of rows c) (exp_at n is)
  typed_node (exp e) is h more = more e
  typed_node (word w) is h more = leaf_typeless is ∙ sym (ap (option_and_then (type_of rows c)) (no_exp_in_word w is))
  typed_node (type t) is h more = leaf_typeless is ∙ sym (ap (option_and_then (type_of rows c)) (no_exp_in_type t is))
  typed_node (unit u) is h more = absurd h
  typed_node (class k) is h more = absurd h
  typed_node (modifier m) is h more = absurd h
  typed_node (param p) is h more = absurd h
  typed_node (member m) is h more = absurd h
  typed_node (stmt s) is h more = absurd h

  typed_child : (o : Option (Node A)) (is : List ℕ) → ((n : Node A) → o ≡ Some n → IsPlain n) → ((e : tree.Exp A) → type_at (exp_tree rows c e) is ≡ option_and_then (type_of rows c) (exp_at (exp e) is))
      → option_and_then (λ t. type_at t is) (option_map node_tree o) ≡ option_and_then (type_of rows c) (option_and_then as_exp (option_and_then (λ n. node_at n is) o))
  typed_child None is h more = refl
  typed_child (Some n) is h more = typed_node n is (h n refl) more

  pub typed_exp : (path : List ℕ) (e : tree.Exp A) → type_at (exp_tree rows c e) path ≡ option_and_then (type_of rows c) (exp_at (exp e) path)
  unfolding type_at node_at exp_parts target_parts put_row
  typed_exp [] e = refl
  typed_exp (i ∷ is) e = ap (option_and_then (λ t. type_at t is)) (exp_part e i)
      ∙ typed_child (slice_get (exp_children e) i) is (λ n f. one_plain (exp_children e) i n (plain e) f) (λ x. typed_exp is x)
