-- How places of the new program stand for those of the tree in a region: relations of what is known
-- at both, which a refactoring says. They go down the tree with what is rewritten node by node, so
-- nothing is asked of a place that the tree doesn't have, nor of one within a spot.
use Rattle.std.specs.Prelude.{
  ◌≡◌,
  ℕ,
  ◌+◌,
  List,
  [],
  ◌∷◌,
  length,
  Option,
  Some,
  None,
  Bool,
  true,
  false,
}
use Rattle.jr_text.specs.declared.spans.Span.{Span}
use Rattle.jr_ast.specs.Tree as tree
use Rattle.jr_ast.specs.StatementTree as statement
use Rattle.jr_ast.specs.MemberTree as syntax
use Rattle.jr_table.specs.Keys.{ClassKey, Ty}
use Rattle.jr_table.specs.Decls.{MemberKey, head, local_decl}
use Rattle.jr_table.specs.Prelude.{top_key}
use Rattle.jr_table.specs.Rows.{Row}
use Rattle.jr_table.specs.DeclaredItems.{DeclaredItem, class_key}
use Rattle.jr_table.specs.Errors.{Declares}
use Rattle.jr_table.specs.Context.{
  Context,
  scope_of,
  local_of,
  local_key,
  in_own,
  after,
  locals_in,
  WritesType,
}
use Rattle.jr_table.specs.HeadRules.{plain, with_parameters, is_static_member}
use Rattle.jr_rewrite.specs.Rewritten.{Rewritten}
use Rattle.jr_rewrite.specs.Spots.{Spotted}
use Rattle.jr_rewrite.specs.Rewrites.{Choosing, RewritesParams, TransformsStmt}
use Rattle.jr_images.specs.Regions.{Region}
use Rattle.jr_kept_references.specs.InRegions.{
  rows_in,
  member_in,
  name_in,
  type_in,
  StandsFor,
}
use Rattle.jr_kept_references.specs.StatementsAlong.{ListStays}
use Rattle.jr_kept_references.specs.MembersAlong.{MembersStay, ClassStays}

-- What is known of a place and of the one that stands for it. `Known`: where an expression or a
-- written type is. `Lists`: where a list of statements begins, node by node or a spot, and the next
-- locals have these numbers. `Single`: where a statement is that is rewritten node by node.
-- `Classes`, `Members`: that a class is walked, and the rest of one's members, node by node or a
-- spot. `Written`: that a member is, of this key.
pub record Standing (A : Type 0) : Type 1 where
  pub Known : Context → Context → Type 0
  pub Lists : (next next' : ℕ) → Context → Context → statement.Stmts A → Type 0
  pub Single : (next next' : ℕ) → Context → Context → statement.Stmt A → Type 0
  pub Classes : (base : ℕ) → Option (List ℕ) → syntax.Class A → Type 0
  pub Members : (base : ℕ) → ClassKey → syntax.Members A → Type 0
  pub Written : MemberKey → (base : ℕ) → syntax.Member A → Type 0

module _ {A : Type 0} (tells : A → ℕ → Span) (rows : List Row) (R : Region A) (C : Choosing A)
    (S : Spotted A) where
  -- a statement is rewritten without a loss
  abbrev pub Becomes : ℕ → Context → (base : ℕ) → statement.Stmt A
      → Rewritten (statement.Stmt A) → Type 0
  Becomes n c b x q = TransformsStmt tells C S n c b x q × (q.losses ≡ [])

  -- Places that are known stand for one another. What stays of a list is walked: its first
  -- statement, and the list behind it. In a statement so are its parts; behind one side of a branch
  -- the other, and in a declaration the initializer, with the image's name and type in scope.
  pub record AreStanding (At : Standing A) : Type 0 where
    pub stand : (c d : Context) → At.Known c d → StandsFor R rows c d
    pub first : (n z : ℕ) (c d : Context) (b : ℕ) (x : statement.Stmt A) (xs : statement.Stmts A)
        → At.Lists n z c d (statement.more x xs) → ListStays S n c b (statement.more x xs)
        → At.Single n z c d x
    pub behind : (n z : ℕ) (c d : Context) (b : ℕ) (x : statement.Stmt A)
        (xs : statement.Stmts A) (q : Rewritten (statement.Stmt A))
        → At.Lists n z c d (statement.more x xs) → ListStays S n c b (statement.more x xs)
        → Becomes n c b x q
        → At.Lists (n + locals_in x) (z + locals_in q.tree) (after n c x) (after z d q.tree) xs
    pub known : (n z : ℕ) (c d : Context) (x : statement.Stmt A) → At.Single n z c d x
        → At.Known c d
    pub in_initializer : (n z : ℕ) (c d : Context) (m : A) (f : Bool) (t u : tree.TypeName A)
        (w v : tree.Word A) (e : tree.Exp A) → At.Single n z c d (statement.local m f t w e)
        → ((k : Ty) → WritesType rows (scope_of c) t k
        → WritesType (rows_in R) (scope_of d) u (type_in R k))
        → v.text ≡ name_in R (local_decl (local_key c n)) w.text
        → At.Known (in_own c (local_of c n f t w)) (in_own d (local_of d z f u v))
    pub in_block : (n z : ℕ) (c d : Context) (m : A) (xs : statement.Stmts A)
        → At.Single n z c d (statement.block m xs) → At.Lists n z c d xs
    pub in_sync : (n z : ℕ) (c d : Context) (m : A) (e : tree.Exp A) (xs : statement.Stmts A)
        → At.Single n z c d (statement.sync m e xs) → At.Lists n z c d xs
    pub in_loop : (n z : ℕ) (c d : Context) (m : A) (e : tree.Exp A) (x : statement.Stmt A)
        → At.Single n z c d (statement.loop m e x) → At.Single n z c d x
    pub in_branch : (n z : ℕ) (c d : Context) (m : A) (e : tree.Exp A) (x : statement.Stmt A)
        (other : statement.Else A) → At.Single n z c d (statement.branch m e x other)
        → At.Single n z c d x
    pub in_else : (n z : ℕ) (c d : Context) (b : ℕ) (m : A) (e : tree.Exp A)
        (x y : statement.Stmt A) (q : Rewritten (statement.Stmt A))
        → At.Single n z c d (statement.branch m e x (statement.otherwise y))
        → Becomes n c b x q
        → At.Single (n + locals_in x) (z + locals_in q.tree) c d y

  -- places of the head of a member that is written, of its initializer, of its `super(..)`, and of
  -- its statements, behind its parameters
  pub record AreBeginning (At : Standing A) : Type 0 where
    pub heads : (k : MemberKey) (b : ℕ) (x : syntax.Member A) (is_static : Bool)
        → At.Written k b x → At.Known (plain k is_static) (plain (member_in R k) is_static)
    pub method : (k : MemberKey) (b : ℕ) (m : A) (mods : List (syntax.Modifier A))
        (t : Option (tree.TypeName A)) (w : tree.Word A) (ps : List (syntax.Param A))
        (body : statement.Stmts A) (q : Rewritten (List (syntax.Param A)))
        → At.Written k b (syntax.method m mods t w ps body)
        → RewritesParams tells C k 0 ((tells m b).from) ps q
        → At.Lists (length ps) (length ps)
        (with_parameters k (is_static_member (λ m b. (tells m b).from) mods) ps)
        (with_parameters (member_in R k) (is_static_member (λ m b. (tells m b).from) mods) q.tree)
        body
    pub constructor : (k : MemberKey) (b : ℕ) (m : A) (mods : List (syntax.Modifier A))
        (w : tree.Word A) (ps : List (syntax.Param A)) (args : Option (tree.Exps A))
        (body : statement.Stmts A) (q : Rewritten (List (syntax.Param A)))
        → At.Written k b (syntax.constructor m mods w ps args body)
        → RewritesParams tells C k 0 ((tells m b).from) ps q
        → At.Lists (length ps) (length ps) (with_parameters k false ps)
        (with_parameters (member_in R k) false q.tree) body
    pub super_args : (k : MemberKey) (b : ℕ) (m : A) (mods : List (syntax.Modifier A))
        (w : tree.Word A) (ps : List (syntax.Param A)) (args : Option (tree.Exps A))
        (body : statement.Stmts A) (q : Rewritten (List (syntax.Param A)))
        → At.Written k b (syntax.constructor m mods w ps args body)
        → RewritesParams tells C k 0 ((tells m b).from) ps q
        → At.Known (with_parameters k true ps) (with_parameters (member_in R k) true q.tree)

  -- What stays of a class is walked: its superclass, as it is seen from the class around, and its
  -- members; of members the first, by the key that it declares, and those behind it.
  pub record AreWalked (declarations : List DeclaredItem) (At : Standing A) : Type 0 where
    pub around : (b : ℕ) (o : List ℕ) (x : syntax.Class A) → At.Classes b (Some o) x
        → ClassStays S b (Some o) x
        → At.Known (plain (head (top_key o)) false) (plain (member_in R (head (top_key o))) false)
    pub members : (b : ℕ) (outer : Option (List ℕ)) (m : A) (mods : List (syntax.Modifier A))
        (w : tree.Word A) (t : Option (tree.TypeName A)) (ms : syntax.Members A)
        → At.Classes b outer (syntax.class m mods w t ms)
        → ClassStays S b outer (syntax.class m mods w t ms)
        → At.Members ((tells m b).from) (class_key (λ m b. (tells m b).from) outer w.text) ms
    pub more : (b : ℕ) (of : ClassKey) (x : syntax.Member A) (xs : syntax.Members A)
        → At.Members b of (syntax.more x xs) → MembersStay S b of (syntax.more x xs)
        → At.Members b of xs
    pub inner : (b : ℕ) (of : ClassKey) (m : A) (x : syntax.Class A) (xs : syntax.Members A)
        → At.Members b of (syntax.more (syntax.inner m x) xs)
        → MembersStay S b of (syntax.more (syntax.inner m x) xs)
        → At.Classes ((tells m b).from) (Some of.name) x
    pub declared : (b : ℕ) (of : ClassKey) (x : syntax.Member A) (xs : syntax.Members A)
        (k : MemberKey) → At.Members b of (syntax.more x xs)
        → MembersStay S b of (syntax.more x xs)
        → Declares (λ m b. (tells m b).from) declarations b of x k → At.Written k b x

-- the top-level classes of a file are walked
abbrev pub AllWalked : {A : Type 0} → Standing A → (base : ℕ) → List (syntax.Class A) → Type 0
AllWalked At b [] = Unit {0}
AllWalked At b (c ∷ cs) = At.Classes b None c × AllWalked At b cs
