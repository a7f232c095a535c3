-- The dependences of two programs, all of them.
use Rattle.std.specs.Prelude.{◌≡◌, ◌⊎◌, ℕ, Bool, true, false, [], ◌∷◌, Some, None, nat_eq}
use Rattle.jr_sync.specs.declared.sites.DepKind.{DepKind}
use Rattle.jr_sync.specs.declared.sites.DepKind.TheVariants.{Order, Field, Sync}
use Rattle.jr_ast.specs.declared.operators.BinOp.TheVariants.{Add}
use Rattle.jr_ast.specs.Tree as tree
use Rattle.jr_ast.specs.StatementTree as statement
use Rattle.jr_cover.specs.Facts.{is_instance_field}
use Rattle.jr_cover.specs.Ways.{Way, sites_of, Edge}
use Rattle.jr_cover.specs.Sites as sites
use Rattle.jr_cover.specs.Sites.{loads, stores, loops, Known, stmts_way}
use Rattle.jr_cover.specs.Dependences.{Depends}
use Rattle.jr_cover_cases.specs.Samples.{K, X, rows, word, name, only, at, edges}

-- ---- `class A{int f;volatile int v;int m(){return this.v+this.f;}}`

-- places are bytes of the file; the word at 49 means v, which is field 21, that at 56 f, field 20
abbrev pub field_by : Bool → ℕ
field_by true = 21
field_by false = 20

abbrev pub by_bytes : Known K ℕ
by_bytes = record {
  facts = record {
    first = λ a. a;
    last = λ a. a;
    variable = λ a. Some (is_instance_field (field_by (nat_eq a 49)));
    called = λ a. None;
    created = λ a. None;
    class = λ a. None;
    is_checked = λ a. false;
    number = λ a. a;
  };
  is_class = λ a. false;
  never_null = X.never_null;
}

abbrev pub two_loads : Way (sites.Site K)
two_loads = stmts_way by_bytes (only (statement.return 37 (Some (tree.binary 44 Add
    (tree.field 44 (tree.this 44) (word 49)) (tree.field 51 (tree.this 51) (word 56))))))

abbrev pub DependsIn : Way (sites.Site K) → DepKind → (i j : ℕ) → Type 0
DependsIn w kind i j = Depends rows (sites_of w) (Edge 0 w) kind i j

-- `A.m() Sync 49 56`, and no more
pub record TwoLoads : Type 0 where
  pub sites_are : sites_of two_loads ≡ at 49 (loads 21) ∷ at 56 (loads 20) ∷ []
  pub sync : DependsIn two_loads Sync 0 1
  pub no_more : (kind : DepKind) (i j : ℕ) → DependsIn two_loads kind i j
      → (kind ≡ Sync) × (i ≡ 0) × (j ≡ 1)

-- ---- `class A{int f;void m(){while(true){f=1;}}}`

-- the word at 35 means f, field 35
abbrev pub endless : Way (sites.Site K)
endless = stmts_way X (only (statement.loop 23 (tree.truth 29 true) (statement.block 34
    (only (statement.eval 35 (tree.assign 35 (name 35) (tree.number 37 1)))))))

-- `A.m() Order 23 23`, `Order 23 35`, `Order 35 23`, `Field 35 35`, and no more: the store depends
-- on itself, as an edge leads from the loop's body back
pub record Endless : Type 0 where
  pub sites_are : sites_of endless ≡ at 23 loops ∷ at 35 (stores 35) ∷ []
  pub edges_are : edges endless ≡ (0, 1) ∷ (1, 0) ∷ []
  pub loop_with_itself : DependsIn endless Order 0 0
  pub loop_with_store : DependsIn endless Order 0 1
  pub store_with_loop : DependsIn endless Order 1 0
  pub store_with_itself : DependsIn endless Field 1 1
  pub no_more : (kind : DepKind) (i j : ℕ) → DependsIn endless kind i j
      → ((kind ≡ Order) × ((i ≡ 0) ⊎ (j ≡ 0))) ⊎ ((kind ≡ Field) × (i ≡ 1) × (j ≡ 1))
