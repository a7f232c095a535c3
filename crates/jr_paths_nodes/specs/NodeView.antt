-- The pure node that a reference to a node stands for.
use Rattle.jr_paths_nodes.specs.declared.nodes.Node.{Node}
use Rattle.jr_paths_nodes.specs.declared.nodes.Node.TheVariants as rust
use Rattle.jr_ast.specs.Nodes as pure
use Rattle.jr_ast.specs.View.{word_of, modifier_of, type_of, param_of, expr_of, stmt_of, class_of}
use Rattle.jr_ast.specs.View.{member_of, unit_of}

abbrev pub node_of : {A : Type 0} → Node A → pure.Node A
node_of (rust.Unit r) = pure.unit (unit_of r.now)
node_of (rust.Class r) = pure.class (class_of r.now)
node_of (rust.Modifier r) = pure.modifier (modifier_of r.now)
node_of (rust.Word r) = pure.word (word_of r.now)
node_of (rust.Type r) = pure.type (type_of r.now)
node_of (rust.Param r) = pure.param (param_of r.now)
node_of (rust.Member r) = pure.member (member_of r.now)
node_of (rust.Stmt r) = pure.stmt (stmt_of r.now)
node_of (rust.Expr r) = pure.exp (expr_of r.now)
