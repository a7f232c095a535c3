-- Small pieces of code, their sites and edges. Keys and marks are numbers; a node's first byte is
-- its mark, its last one the mark and 100.
use Rattle.std.specs.Prelude.{ℕ, ◌+◌, Bool, true, false, List, [], Option, Some, None, nat_lt, nat_eq}
use Rattle.jr_ast.specs.Tree as tree
use Rattle.jr_ast.specs.Tree.{Word, TypeName}
use Rattle.jr_ast.specs.StatementTree as statement
use Rattle.jr_runs.specs.Keys.{Keys, keys_of}
use Rattle.jr_runs.specs.Values.{int_type}
use Rattle.jr_runs.specs.Actions.{FieldKind, plain, volatile}
use Rattle.jr_runs.specs.Rows.{Rows}
use Rattle.jr_cover.specs.Facts.{Variable, is_local, is_static_field, is_instance_field, Facts}
use Rattle.jr_cover.specs.Ways.{Way, sites_of}
use Rattle.jr_cover.specs.Flows.{flow_of}
use Rattle.jr_cover.specs.Sites.{What, Site, Known, exp_way, stmt_way, stmts_way}

abbrev pub K : Keys
K = keys_of ℕ ℕ ℕ ℕ ℕ

-- Words with marks below 10 mean locals, from 10 on static fields, from 20 on instance fields, and
-- from 40 on nothing, but for classes from 90 on.
abbrev pub variable_at : (local static_one own : Bool) → ℕ → Option (Variable K)
variable_at true b c a = Some (is_local a)
variable_at false true c a = Some (is_static_field a)
variable_at false false true a = Some (is_instance_field a)
variable_at false false false a = None

-- casts with marks below 60 may fail
abbrev pub facts : Facts K ℕ
facts = record {
  first = λ a. a;
  last = λ a. a + 100;
  variable = λ a. variable_at (nat_lt a 10) (nat_lt a 20) (nat_lt a 40) a;
  called = λ a. None;
  created = λ a. None;
  class = λ a. None;
  is_checked = λ a. nat_lt a 60;
  number = λ a. a;
}

-- local 1 holds a value that is never null
abbrev pub never_null_at : tree.Exp ℕ → Bool
never_null_at (tree.this a) = true
never_null_at (tree.name a w) = nat_eq w.mark 1
never_null_at e = false

abbrev pub X : Known K ℕ
X = record { facts = facts; is_class = λ a. nat_lt 89 a; never_null = never_null_at }

-- field 21 is volatile, all others are plain
abbrev pub kind_by : Bool → FieldKind
kind_by true = volatile
kind_by false = plain

abbrev pub rows : Rows K
rows = record {
  same_class = nat_eq;
  is_subclass = nat_eq;
  text_class = 1;
  class_class = 2;
  field_kind = λ f. kind_by (nat_eq f 21);
  field_type = λ f. int_type;
  dispatch = λ c m. None;
  has_method = λ m. true;
  owner = λ m. None;
  params = λ m. [];
  result = λ m. None;
  has_constructor = λ k. true;
  constructor_class = λ k. 4;
  constructor_params = λ k. [];
}

-- ---- trees

abbrev pub word : ℕ → Word ℕ
word a = record { mark = a; text = [] }

abbrev pub name : ℕ → tree.Exp ℕ
name a = tree.name a (word a)

-- `e.x`
abbrev pub dot : tree.Exp ℕ → ℕ → tree.Exp ℕ
dot e a = tree.field 50 e (word a)

abbrev pub args : tree.Exp ℕ → tree.Exps ℕ
args e = tree.more e tree.end

abbrev pub class_type : TypeName ℕ
class_type = tree.named 70 None (word 70)

-- a local is read, in a statement of its own
abbrev pub reading : ℕ → statement.Stmt ℕ
reading a = statement.eval 70 (name a)

abbrev pub only : statement.Stmt ℕ → statement.Stmts ℕ
only s = statement.more s statement.end

abbrev pub two : statement.Stmt ℕ → statement.Stmt ℕ → statement.Stmts ℕ
two s t = statement.more s (only t)

-- ---- their sites and edges

abbrev pub at : ℕ → What K → Site K
at p w = record { at = p; what = w }

abbrev pub sites : tree.Exp ℕ → List (Site K)
sites e = sites_of (exp_way X e)

abbrev pub stmt_sites : statement.Stmt ℕ → List (Site K)
stmt_sites s = sites_of (stmt_way X s)

abbrev pub edges : Way (Site K) → List (ℕ × ℕ)
edges w = (flow_of 0 w).edges

abbrev pub stmt_edges : statement.Stmt ℕ → List (ℕ × ℕ)
stmt_edges s = edges (stmt_way X s)

abbrev pub list_edges : statement.Stmts ℕ → List (ℕ × ℕ)
list_edges b = edges (stmts_way X b)
