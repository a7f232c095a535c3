-- What is known of nodes by marks of their own, and by their spots, is the same.
use Rattle.std.specs.Prelude.{◌≡◌, ℕ, suc, List, Option, Some, None}
use Rattle.jr_ast.specs.Tree as tree
use Rattle.jr_ast.specs.StatementTree as statement
use Rattle.jr_runs.specs.Keys.{Keys, keys_of}
use Rattle.jr_cover.specs.Sites.{Known, exp_way, stmt_way, stmts_way}
use Rattle.jr_cover.specs.Spots.{Spot, onto, spot, spot_exp, spot_stmt, spot_stmts}

-- begins, ends: the first and the last byte of a node with the mark, whose parent begins at a byte
module _ {K : Keys} {A : Type 0} (begins ends : A → ℕ → ℕ) (X : Known K A) (Y : Known K Spot) where
  pub record IsSameAt (m : A) (s : Spot) : Type 0 where
    pub first : X.facts.first m ≡ Y.facts.first s
    pub last : X.facts.last m ≡ Y.facts.last s
    pub variable : X.facts.variable m ≡ Y.facts.variable s
    pub is_class : X.is_class m ≡ Y.is_class s

  -- of each node wherever it stands, but for casts and declared locals
  pub record IsSame : Type 0 where
    pub marks : (m : A) (base : ℕ) (path : List ℕ) → IsSameAt m (spot begins ends m base path)
    pub never_null : (e : tree.Exp A) (base : ℕ) (path : List ℕ)
        → X.never_null e ≡ Y.never_null (spot_exp begins ends e base path)

  -- whether a cast may fail
  abbrev pub IsSameCast : A → (base : ℕ) → (path : List ℕ) → Type 0
  IsSameCast m base p = X.facts.is_checked m ≡ Y.facts.is_checked (spot begins ends m base p)

  -- of each cast in an expression
  abbrev mutual
    pub ExpCasts : tree.Exp A → (base : ℕ) → (path : List ℕ) → Type 0
    ExpCasts (tree.number m v) base p = Unit {0}
    ExpCasts (tree.truth m v) base p = Unit {0}
    ExpCasts (tree.null m) base p = Unit {0}
    ExpCasts (tree.string m t) base p = Unit {0}
    ExpCasts (tree.name m w) base p = Unit {0}
    ExpCasts (tree.field m e w) base p = ExpCasts e (begins m base) (onto p 0)
    ExpCasts (tree.super_field m w) base p = Unit {0}
    ExpCasts (tree.this m) base p = Unit {0}
    ExpCasts (tree.class_literal m t) base p = Unit {0}
    ExpCasts (tree.call m tree.no_target w es) base p = RowCasts es (begins m base) p 1
    ExpCasts (tree.call m (tree.on e) w es) base p =
        ExpCasts e (begins m base) (onto p 0) × RowCasts es (begins m base) p 2
    ExpCasts (tree.super_call m w es) base p = RowCasts es (begins m base) p 1
    ExpCasts (tree.create m t es) base p = RowCasts es (begins m base) p 1
    ExpCasts (tree.paren m e) base p = ExpCasts e (begins m base) (onto p 0)
    ExpCasts (tree.cast m t e) base p = IsSameCast m base p × ExpCasts e (begins m base) (onto p 1)
    ExpCasts (tree.unary m o e) base p = ExpCasts e (begins m base) (onto p 0)
    ExpCasts (tree.bump m o e) base p = ExpCasts e (begins m base) (onto p 0)
    ExpCasts (tree.binary m o l r) base p =
        ExpCasts l (begins m base) (onto p 0) × ExpCasts r (begins m base) (onto p 1)
    ExpCasts (tree.assign m t e) base p =
        ExpCasts t (begins m base) (onto p 0) × ExpCasts e (begins m base) (onto p 1)
    ExpCasts (tree.compound m o t e) base p =
        ExpCasts t (begins m base) (onto p 0) × ExpCasts e (begins m base) (onto p 1)

    pub RowCasts : tree.Exps A → (base : ℕ) → (path : List ℕ) → (first : ℕ) → Type 0
    RowCasts tree.end base p i = Unit {0}
    RowCasts (tree.more e es) base p i =
        ExpCasts e base (onto p i) × RowCasts es base p (suc i)

  abbrev pub MaybeCasts : Option (tree.Exp A) → (base : ℕ) → (path : List ℕ) → Type 0
  MaybeCasts None base p = Unit {0}
  MaybeCasts (Some e) base p = ExpCasts e base p

  -- the number of a local that a word declares
  abbrev pub IsSameLocal : tree.Word A → (base : ℕ) → (path : List ℕ) → Type 0
  IsSameLocal w base p = X.facts.number w.mark ≡ Y.facts.number (spot begins ends w.mark base p)

  -- of each cast and each declared local in statements
  abbrev mutual
    pub StmtCasts : statement.Stmt A → (base : ℕ) → (path : List ℕ) → Type 0
    StmtCasts (statement.local m is_final t w e) base p =
        IsSameLocal w (begins m base) (onto p 1) × ExpCasts e (begins m base) (onto p 2)
    StmtCasts (statement.eval m e) base p = ExpCasts e (begins m base) (onto p 0)
    StmtCasts (statement.branch m c s o) base p = ExpCasts c (begins m base) (onto p 0)
        × StmtCasts s (begins m base) (onto p 1) × ElseCasts o (begins m base) (onto p 2)
    StmtCasts (statement.loop m c s) base p =
        ExpCasts c (begins m base) (onto p 0) × StmtCasts s (begins m base) (onto p 1)
    StmtCasts (statement.return m v) base p = MaybeCasts v (begins m base) (onto p 0)
    StmtCasts (statement.block m b) base p = ListCasts b (begins m base) p 0
    StmtCasts (statement.sync m e b) base p =
        ExpCasts e (begins m base) (onto p 0) × ListCasts b (begins m base) p 1
    StmtCasts (statement.empty m) base p = Unit {0}

    pub ElseCasts : statement.Else A → (base : ℕ) → (path : List ℕ) → Type 0
    ElseCasts statement.no_else base p = Unit {0}
    ElseCasts (statement.otherwise s) base p = StmtCasts s base p

    pub ListCasts : statement.Stmts A → (base : ℕ) → (path : List ℕ) → (first : ℕ) → Type 0
    ListCasts statement.end base p i = Unit {0}
    ListCasts (statement.more s ss) base p i =
        StmtCasts s base (onto p i) × ListCasts ss base p (suc i)

-- Then pieces have the same ways, and so the same sites.
abbrev pub SpotsHaveTheWays : (C F M N L A : Type 0) → Type 0
SpotsHaveTheWays C F M N L A = (begins ends : A → ℕ → ℕ) (X : Known (keys_of C F M N L) A)
    (Y : Known (keys_of C F M N L) Spot) → IsSame begins ends X Y
    → ((e : tree.Exp A) (base : ℕ) (p : List ℕ) → ExpCasts begins ends X Y e base p
    → exp_way X e ≡ exp_way Y (spot_exp begins ends e base p))
    × ((s : statement.Stmt A) (base : ℕ) (p : List ℕ) → StmtCasts begins ends X Y s base p
    → stmt_way X s ≡ stmt_way Y (spot_stmt begins ends s base p))
    × ((b : statement.Stmts A) (base : ℕ) (p : List ℕ) (first : ℕ)
    → ListCasts begins ends X Y b base p first
    → stmts_way X b ≡ stmts_way Y (spot_stmts begins ends b base p first))
