-- Where an expression stands: the ways to it, a constructor for each step, from the outermost on.
-- What is asked of a place is a function of its way, and no spans are compared.
use Rattle.std.specs.Prelude.{Bool, Some}
use Rattle.jr_ast.specs.declared.operators.UnOp.{UnOp}
use Rattle.jr_ast.specs.declared.operators.BinOp.{BinOp}
use Rattle.jr_ast.specs.declared.operators.BumpOp.{BumpOp}
use Rattle.jr_ast.specs.Tree as tree
use Rattle.jr_ast.specs.StatementTree as statement

mutual
  -- from an expression
  pub data ExpWay {A : Type 0} (f : tree.Exp A) : tree.Exp A → Type 0 where
    here : ExpWay f f
    -- what stands in front of a dot
    in_front : (m : A) (e : tree.Exp A) (w : tree.Word A) → ExpWay f e
        → ExpWay f (tree.field m e w)
    in_target : (m : A) (e : tree.Exp A) (w : tree.Word A) (es : tree.Exps A) → ExpWay f e
        → ExpWay f (tree.call m (tree.on e) w es)
    in_argument : (m : A) (t : tree.Target A) (w : tree.Word A) (es : tree.Exps A) → ExpsWay f es
        → ExpWay f (tree.call m t w es)
    in_super_argument : (m : A) (w : tree.Word A) (es : tree.Exps A) → ExpsWay f es
        → ExpWay f (tree.super_call m w es)
    in_created : (m : A) (t : tree.TypeName A) (es : tree.Exps A) → ExpsWay f es
        → ExpWay f (tree.create m t es)
    in_paren : (m : A) (e : tree.Exp A) → ExpWay f e → ExpWay f (tree.paren m e)
    in_cast : (m : A) (t : tree.TypeName A) (e : tree.Exp A) → ExpWay f e
        → ExpWay f (tree.cast m t e)
    in_unary : (m : A) (o : UnOp) (e : tree.Exp A) → ExpWay f e → ExpWay f (tree.unary m o e)
    in_bump : (m : A) (o : BumpOp) (e : tree.Exp A) → ExpWay f e → ExpWay f (tree.bump m o e)
    in_left : (m : A) (o : BinOp) (l r : tree.Exp A) → ExpWay f l → ExpWay f (tree.binary m o l r)
    in_right : (m : A) (o : BinOp) (l r : tree.Exp A) → ExpWay f r → ExpWay f (tree.binary m o l r)
    in_assigned : (m : A) (t e : tree.Exp A) → ExpWay f t → ExpWay f (tree.assign m t e)
    in_value : (m : A) (t e : tree.Exp A) → ExpWay f e → ExpWay f (tree.assign m t e)
    in_changed : (m : A) (o : BinOp) (t e : tree.Exp A) → ExpWay f t
        → ExpWay f (tree.compound m o t e)
    in_change : (m : A) (o : BinOp) (t e : tree.Exp A) → ExpWay f e
        → ExpWay f (tree.compound m o t e)

  -- from a row of arguments
  pub data ExpsWay {A : Type 0} (f : tree.Exp A) : tree.Exps A → Type 0 where
    first_argument : (e : tree.Exp A) (es : tree.Exps A) → ExpWay f e → ExpsWay f (tree.more e es)
    later_argument : (e : tree.Exp A) (es : tree.Exps A) → ExpsWay f es
        → ExpsWay f (tree.more e es)

mutual
  -- from a statement
  pub data StmtWay {A : Type 0} (f : tree.Exp A) : statement.Stmt A → Type 0 where
    in_init : (m : A) (is_final : Bool) (t : tree.TypeName A) (w : tree.Word A) (e : tree.Exp A)
        → ExpWay f e → StmtWay f (statement.local m is_final t w e)
    in_eval : (m : A) (e : tree.Exp A) → ExpWay f e → StmtWay f (statement.eval m e)
    in_condition : (m : A) (c : tree.Exp A) (s : statement.Stmt A) (o : statement.Else A)
        → ExpWay f c → StmtWay f (statement.branch m c s o)
    in_then : (m : A) (c : tree.Exp A) (s : statement.Stmt A) (o : statement.Else A)
        → StmtWay f s → StmtWay f (statement.branch m c s o)
    in_else : (m : A) (c : tree.Exp A) (s o : statement.Stmt A) → StmtWay f o
        → StmtWay f (statement.branch m c s (statement.otherwise o))
    in_turning : (m : A) (c : tree.Exp A) (s : statement.Stmt A) → ExpWay f c
        → StmtWay f (statement.loop m c s)
    in_body : (m : A) (c : tree.Exp A) (s : statement.Stmt A) → StmtWay f s
        → StmtWay f (statement.loop m c s)
    in_returned : (m : A) (e : tree.Exp A) → ExpWay f e → StmtWay f (statement.return m (Some e))
    in_block : (m : A) (b : statement.Stmts A) → ListWay f b → StmtWay f (statement.block m b)
    in_lock : (m : A) (e : tree.Exp A) (b : statement.Stmts A) → ExpWay f e
        → StmtWay f (statement.sync m e b)
    in_locked : (m : A) (e : tree.Exp A) (b : statement.Stmts A) → ListWay f b
        → StmtWay f (statement.sync m e b)

  -- from a list of statements
  pub data ListWay {A : Type 0} (f : tree.Exp A) : statement.Stmts A → Type 0 where
    first : (s : statement.Stmt A) (ss : statement.Stmts A) → StmtWay f s
        → ListWay f (statement.more s ss)
    later : (s : statement.Stmt A) (ss : statement.Stmts A) → ListWay f ss
        → ListWay f (statement.more s ss)
