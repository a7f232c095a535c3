-- What holds of each child, told by the kinds of the children.
use Rattle.std.proofs.Common.{List, [], ◌∷◌, ◌++◌, map, Option, Some, None, option_map}
use Rattle.jr_ast.specs.Tree as tree
use Rattle.jr_ast.specs.StatementTree as statement
use Rattle.jr_ast.specs.MemberTree as declared
use Rattle.jr_ast.specs.Nodes as pure
use Rattle.jr_ast.specs.Nodes.{Node, modifier, word, type, param, member, stmt, exp}
use Rattle.jr_paths_nodes.proofs.Picks.{Each, each-nil, each-cons, each-append, each-map}

module _ {A : Type 0} (P : Node A → Type 0) where
  pub each-exps : ((e : tree.Exp A) → P (exp e)) → (es : tree.Exps A) → Each P (pure.exps es)
  each-exps p tree.end = each-nil P
  each-exps p (tree.more e es) = each-cons P (exp e) (pure.exps es) (p e) (each-exps p es)

  pub each-stmts : ((s : statement.Stmt A) → P (stmt s)) → (ss : statement.Stmts A) → Each P (pure.stmts ss)
  each-stmts p statement.end = each-nil P
  each-stmts p (statement.more s ss) = each-cons P (stmt s) (pure.stmts ss) (p s) (each-stmts p ss)

  pub each-members : ((m : declared.Member A) → P (member m)) → (ms : declared.Members A) → Each P (pure.members ms)
  each-members p declared.end = each-nil P
  each-members p (declared.more m ms) = each-cons P (member m) (pure.members ms) (p m) (each-members p ms)

  pub each-args : ((e : tree.Exp A) → P (exp e)) → (args : Option (tree.Exps A)) → Each P (pure.args_children args)
  each-args p None = each-nil P
  each-args p (Some es) = each-exps p es

  pub each-maybe : {X : Type 0} (f : X → Node A) → ((x : X) → P (f x)) → (o : Option X) → Each P (pure.maybe (option_map f o))
  each-maybe f p None = each-nil P
  each-maybe f p (Some x) = each-cons P (f x) [] (p x) (each-nil P)

  pub each-one : (n : Node A) → P n → Each P (n ∷ [])
  each-one n p = each-cons P n [] p (each-nil P)

  pub each-two : (n m : Node A) → P n → P m → Each P (n ∷ m ∷ [])
  each-two n m p q = each-cons P n (m ∷ []) p (each-one m q)

  -- the children of a field, of a method, of a constructor
  module _ (modifiers : (m : declared.Modifier A) → P (modifier m)) (words : (w : tree.Word A) → P (word w)) where
    pub each-field : ((t : tree.TypeName A) → P (type t)) → ((e : tree.Exp A) → P (exp e))
        → (mods : List (declared.Modifier A)) (t : tree.TypeName A) (w : tree.Word A) (e : Option (tree.Exp A))
        → Each P (map modifier mods ++ (type t ∷ (word w ∷ pure.maybe (option_map exp e))))
    each-field types exps mods t w e =
        let init = pure.maybe (option_map exp e) in
        each-append P (map modifier mods) (type t ∷ (word w ∷ init)) (each-map P modifier mods modifiers)
        (each-cons P (type t) (word w ∷ init) (types t) (each-cons P (word w) init (words w) (each-maybe exp exps e)))

    pub each-method : ((t : tree.TypeName A) → P (type t)) → ((p : declared.Param A) → P (param p)) → ((s : statement.Stmt A) → P (stmt s))
        → (mods : List (declared.Modifier A)) (t : Option (tree.TypeName A)) (w : tree.Word A) (ps : List (declared.Param A)) (body : statement.Stmts A)
        → Each P (map modifier mods ++ (pure.maybe (option_map type t) ++ (word w ∷ (map param ps ++ pure.stmts body))))
    each-method types params stmts mods t w ps body =
        let rest = map param ps ++ pure.stmts body in
        each-append P (map modifier mods) (pure.maybe (option_map type t) ++ (word w ∷ rest)) (each-map P modifier mods modifiers)
        (each-append P (pure.maybe (option_map type t)) (word w ∷ rest) (each-maybe type types t)
        (each-cons P (word w) rest (words w) (each-append P (map param ps) (pure.stmts body) (each-map P param ps params) (each-stmts stmts body))))

    pub each-constructor : ((p : declared.Param A) → P (param p)) → ((e : tree.Exp A) → P (exp e)) → ((s : statement.Stmt A) → P (stmt s))
        → (mods : List (declared.Modifier A)) (w : tree.Word A) (ps : List (declared.Param A)) (args : Option (tree.Exps A)) (body : statement.Stmts A)
        → Each P (map modifier mods ++ (word w ∷ (map param ps ++ (pure.args_children args ++ pure.stmts body))))
    each-constructor params exps stmts mods w ps args body =
        let rest = pure.args_children args ++ pure.stmts body in
        each-append P (map modifier mods) (word w ∷ (map param ps ++ rest)) (each-map P modifier mods modifiers)
        (each-cons P (word w) (map param ps ++ rest) (words w)
        (each-append P (map param ps) rest (each-map P param ps params)
        (each-append P (pure.args_children args) (pure.stmts body) (each-args exps args) (each-stmts stmts body))))
