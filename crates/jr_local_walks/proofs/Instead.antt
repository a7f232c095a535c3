-- What is rewritten by some choices and spots is rewritten so by others, too, where these follow from
-- those at each expression to which a way leads, and at each written type.
use Rattle.std.proofs.Common.{ℕ, suc, Bool, Some, None}
use Rattle.jr_text.specs.declared.spans.Span.{Span}
use Rattle.jr_ast.specs.Tree as tree
use Rattle.jr_ast.specs.StatementTree as statement
use Rattle.jr_table.specs.Decls.{Decl}
use Rattle.jr_table.specs.Binding.{Role, value, left}
use Rattle.jr_table.specs.Binding as role
use Rattle.jr_table.specs.Context.{Context}
use Rattle.jr_grammar.specs.Shape.{unsigned_level, sign_level, rank_of}
use Rattle.jr_rewrite.specs.Respellings.{Choice, front_of}
use Rattle.jr_rewrite.specs.Rewritten.{Rewritten}
use Rattle.jr_rewrite.specs.Spots.{Asks, level, a_target, a_statement, operand_asks, Spotted, OrThis, OrPart, OrList}
use Rattle.jr_rewrite.specs.Rewrites.{Choosing, RewritesType, TransformsExp, TransformsTarget, TransformsRow, TransformsPart, TransformsStmt, TransformsElse, TransformsStmts, TransformsList}
use Rattle.jr_pieces.specs.Ways.{ExpWay, here, in_front, in_target, in_argument, in_super_argument, in_created, in_paren, in_cast, in_unary, in_bump, in_left, in_right, in_assigned, in_value, in_changed, in_change, ExpsWay, first_argument, later_argument, StmtWay, in_init, in_eval, in_condition, in_then, in_else, in_turning, in_body, in_returned, in_block, in_lock, in_locked, ListWay, first, later}
use Rattle.jr_pieces.specs.Standings.{Standing, inside, behind, in_other, in_initializer, at_exp, at_exps, at_stmt, at_list}

module _ {A : Type 0} (tells : A → ℕ → Span) (C D : Choosing A) (S T : Spotted A) where
  abbrev begins : A → ℕ → ℕ
  begins m base = (tells m base).from

  -- at one expression
  pub record At (p : Standing) (f : tree.Exp A) : Type 1 where
    pub expression : (r : Role) (h : Choice) → C.expression p.context r p.base f h → D.expression p.context r p.base f h
    pub creation : (h : Choice) → C.creation p.context p.base f h → D.creation p.context p.base f h
    pub part : (k : Asks) (r : Role) (o : Rewritten (tree.Exp A)) (N M : Type 0) → (N → M) → OrPart S k p.context r p.base f o N → OrPart T k p.context r p.base f o M

  -- `K` is what is known at each place
  module _ (K : Standing → Type 0) where
    -- wherever a way leads
    abbrev pub InExp : Standing → tree.Exp A → Type 1
    InExp p e = (f : tree.Exp A) (w : ExpWay f e) → K (at_exp begins p w) → At (at_exp begins p w) f

    abbrev pub InRow : Standing → tree.Exps A → Type 1
    InRow p es = (f : tree.Exp A) (w : ExpsWay f es) → K (at_exps begins p w) → At (at_exps begins p w) f

    abbrev pub InStmt : Standing → statement.Stmt A → Type 1
    InStmt p x = (f : tree.Exp A) (w : StmtWay f x) → K (at_stmt begins p w) → At (at_stmt begins p w) f

    abbrev pub InList : Standing → statement.Stmts A → Type 1
    InList p xs = (f : tree.Exp A) (w : ListWay f xs) → K (at_list begins p w) → At (at_list begins p w) f

  module _ (K : Standing → Type 0) (within : (m : A) (p : Standing) → K p → K (inside begins m p))
      (types : (p : Standing) → K p → (t : tree.TypeName A) (o : Rewritten (tree.TypeName A)) → RewritesType tells C p.context p.base t o → RewritesType tells D p.context p.base t o)
      (this : (N : Type 0) → OrThis S N → OrThis T N) where
    -- as a spot has it, or node by node
    in_part : (p : Standing) → K p → (k : Asks) (r : Role) (e : tree.Exp A) (o : Rewritten (tree.Exp A)) → InExp K p e → (TransformsExp tells C S p.context r p.base e o → TransformsExp tells D T p.context r p.base e o)
        → TransformsPart tells C S k p.context r p.base e o → TransformsPart tells D T k p.context r p.base e o
    in_part p known k r e o x go w = (x e here known).part k r o (TransformsExp tells C S p.context r p.base e o) (TransformsExp tells D T p.context r p.base e o) go w

    mutual
      unfolding TransformsExp TransformsTarget TransformsRow

      pub exp : (p : Standing) (r : Role) (e : tree.Exp A) (o : Rewritten (tree.Exp A)) → K p → InExp K p e → TransformsExp tells C S p.context r p.base e o → TransformsExp tells D T p.context r p.base e o
      exp p r (tree.number m n) o k x w = w
      exp p r (tree.truth m b) o k x w = w
      exp p r (tree.null m) o k x w = w
      exp p r (tree.string m s) o k x w = w
      exp p r (tree.this m) o k x w = this _ w
      exp p r (tree.name m v) o k x (h, chosen, is) = (h, (x _ here k).expression r h chosen, is)
      exp p r (tree.field m e v) o k x (h, q, chosen, part, is) = (
        h,
        q,
        (x _ here k).expression r h chosen,
        in_part (inside begins m p) (within m p k) (operand_asks (front_of h)) left e q (λ f w. x f (in_front m e v w)) (exp (inside begins m p) left e q (within m p k) (λ f w. x f (in_front m e v w))) part,
        is,
      )
      exp p r (tree.super_field m v) o k x (h, chosen, is) = (h, (x _ here k).expression r h chosen, is)
      exp p r (tree.class_literal m t) o k x (q, type, is) = (q, types (inside begins m p) (within m p k) t q type, is)
      exp p r (tree.call m tree.no_target v args) o k x (h, q, z, chosen, to, rest, is) =
          (h, q, z, (x _ here k).expression r h chosen, to, row (inside begins m p) args z (within m p k) (λ f w. x f (in_argument m tree.no_target v args w)) rest, is)
      exp p r (tree.call m (tree.on e) v args) o k x (h, q, z, chosen, (u, part, same), rest, is) = (
        h,
        q,
        z,
        (x _ here k).expression r h chosen,
        (u, in_part (inside begins m p) (within m p k) (operand_asks (front_of h)) left e u (λ f w. x f (in_target m e v args w)) (exp (inside begins m p) left e u (within m p k) (λ f w. x f (in_target m e v args w))) part, same),
        row (inside begins m p) args z (within m p k) (λ f w. x f (in_argument m (tree.on e) v args w)) rest,
        is,
      )
      exp p r (tree.super_call m v args) o k x (h, z, chosen, rest, is) = (h, z, (x _ here k).expression r h chosen, row (inside begins m p) args z (within m p k) (λ f w. x f (in_super_argument m v args w)) rest, is)
      exp p r (tree.create m t args) o k x (h, q, z, chosen, type, rest, is) =
          (h, q, z, (x _ here k).creation h chosen, types (inside begins m p) (within m p k) t q type, row (inside begins m p) args z (within m p k) (λ f w. x f (in_created m t args w)) rest, is)
      exp p r (tree.paren m e) o k x (q, part, is) = (q, in_part (inside begins m p) (within m p k) (level 0) value e q (λ f w. x f (in_paren m e w)) (exp (inside begins m p) value e q (within m p k) (λ f w. x f (in_paren m e w))) part, is)
      exp p r (tree.cast m t e) o k x (q, z, type, part, is) = (
        q,
        z,
        types (inside begins m p) (within m p k) t q type,
        in_part (inside begins m p) (within m p k) (level unsigned_level) value e z (λ f w. x f (in_cast m t e w)) (exp (inside begins m p) value e z (within m p k) (λ f w. x f (in_cast m t e w))) part,
        is,
      )
      exp p r (tree.unary m op e) o k x (q, part, is) =
          (q, in_part (inside begins m p) (within m p k) (level sign_level) value e q (λ f w. x f (in_unary m op e w)) (exp (inside begins m p) value e q (within m p k) (λ f w. x f (in_unary m op e w))) part, is)
      exp p r (tree.bump m op e) o k x (q, part, is) = (q, in_part (inside begins m p) (within m p k) a_target value e q (λ f w. x f (in_bump m op e w)) (exp (inside begins m p) value e q (within m p k) (λ f w. x f (in_bump m op e w))) part, is)
      exp p r (tree.binary m op a b) o k x (q, z, one, other, is) = (
        q,
        z,
        in_part (inside begins m p) (within m p k) (level (rank_of op)) value a q (λ f w. x f (in_left m op a b w)) (exp (inside begins m p) value a q (within m p k) (λ f w. x f (in_left m op a b w))) one,
        in_part (inside begins m p) (within m p k) (level (suc (rank_of op))) value b z (λ f w. x f (in_right m op a b w)) (exp (inside begins m p) value b z (within m p k) (λ f w. x f (in_right m op a b w))) other,
        is,
      )
      exp p r (tree.assign m a b) o k x (q, z, one, other, is) = (
        q,
        z,
        in_part (inside begins m p) (within m p k) a_target value a q (λ f w. x f (in_assigned m a b w)) (exp (inside begins m p) value a q (within m p k) (λ f w. x f (in_assigned m a b w))) one,
        in_part (inside begins m p) (within m p k) (level 0) value b z (λ f w. x f (in_value m a b w)) (exp (inside begins m p) value b z (within m p k) (λ f w. x f (in_value m a b w))) other,
        is,
      )
      exp p r (tree.compound m op a b) o k x (q, z, one, other, is) = (
        q,
        z,
        in_part (inside begins m p) (within m p k) a_target value a q (λ f w. x f (in_changed m op a b w)) (exp (inside begins m p) value a q (within m p k) (λ f w. x f (in_changed m op a b w))) one,
        in_part (inside begins m p) (within m p k) (level 0) value b z (λ f w. x f (in_change m op a b w)) (exp (inside begins m p) value b z (within m p k) (λ f w. x f (in_change m op a b w))) other,
        is,
      )

      pub row : (p : Standing) (es : tree.Exps A) (o : Rewritten (tree.Exps A)) → K p → InRow K p es → TransformsRow tells C S p.context p.base es o → TransformsRow tells D T p.context p.base es o
      row p tree.end o k x w = w
      row p (tree.more e es) o k x (q, z, part, rest, is) = (
        q,
        z,
        in_part p k (level 0) value e q (λ f w. x f (first_argument e es w)) (exp p value e q k (λ f w. x f (first_argument e es w))) part,
        row p es z k (λ f w. x f (later_argument e es w)) rest,
        is,
      )

    -- an expression of which so much is asked
    pub asked : (p : Standing) (k : Asks) (r : Role) (e : tree.Exp A) (o : Rewritten (tree.Exp A)) → K p → InExp K p e → TransformsPart tells C S k p.context r p.base e o → TransformsPart tells D T k p.context r p.base e o
    asked p k r e o known x w = in_part p known k r e o x (exp p r e o known x) w

    module _ (own : (m : A) (is_final : Bool) (t : tree.TypeName A) (v : tree.Word A) (p : Standing) → K p → K (in_initializer begins m is_final t v p))
        (goes_on : (x : statement.Stmt A) (p : Standing) → K p → K (behind begins x p)) (other : (m : A) (x : statement.Stmt A) (p : Standing) → K p → K (in_other begins m x p))
        (declared : (d : Decl) (v : tree.Word A) (h : Choice) → C.declared d v h → D.declared d v h)
        (lists : (n : ℕ) (c : Context) (base : ℕ) (xs : statement.Stmts A) (o : Rewritten (statement.Stmts A)) (N M : Type 0) → (N → M) → OrList S n c base xs o N → OrList T n c base xs o M) where
      in_list : (p : Standing) (xs : statement.Stmts A) (o : Rewritten (statement.Stmts A)) → (TransformsStmts tells C S p.next p.context p.base xs o → TransformsStmts tells D T p.next p.context p.base xs o)
          → TransformsList tells C S p.next p.context p.base xs o → TransformsList tells D T p.next p.context p.base xs o
      in_list p xs o go w = lists p.next p.context p.base xs o (TransformsStmts tells C S p.next p.context p.base xs o) (TransformsStmts tells D T p.next p.context p.base xs o) go w

      mutual
        unfolding TransformsStmt TransformsElse TransformsStmts

        pub stmt : (p : Standing) (x : statement.Stmt A) (o : Rewritten (statement.Stmt A)) → K p → InStmt K p x → TransformsStmt tells C S p.next p.context p.base x o → TransformsStmt tells D T p.next p.context p.base x o
        stmt p (statement.local m f t v e) o k x (q, u, z, type, (h, chosen, named), init, is) = (
          q,
          u,
          z,
          types (inside begins m p) (within m p k) t q type,
          (h, declared _ v h chosen, named),
          asked (in_initializer begins m f t v p) (level 0) value e z (own m f t v p k) (λ g w. x g (in_init m f t v e w)) init,
          is,
        )
        stmt p (statement.eval m e) o k x (q, part, is) = (q, asked (inside begins m p) a_statement role.statement e q (within m p k) (λ g w. x g (in_eval m e w)) part, is)
        stmt p (statement.branch m e y statement.no_else) o k x (q, u, z, test, first_is, other_is, is) = (
          q,
          u,
          z,
          asked (inside begins m p) (level 0) value e q (within m p k) (λ g w. x g (in_condition m e y statement.no_else w)) test,
          stmt (inside begins m p) y u (within m p k) (λ g w. x g (in_then m e y statement.no_else w)) first_is,
          other_is,
          is,
        )
        stmt p (statement.branch m e y (statement.otherwise n)) o k x (q, u, z, test, first_is, (v, other_is, same), is) = (
          q,
          u,
          z,
          asked (inside begins m p) (level 0) value e q (within m p k) (λ g w. x g (in_condition m e y (statement.otherwise n) w)) test,
          stmt (inside begins m p) y u (within m p k) (λ g w. x g (in_then m e y (statement.otherwise n) w)) first_is,
          (v, stmt (in_other begins m y p) n v (other m y p k) (λ g w. x g (in_else m e y n w)) other_is, same),
          is,
        )
        stmt p (statement.loop m e y) o k x (q, u, test, body, is) =
            (q, u, asked (inside begins m p) (level 0) value e q (within m p k) (λ g w. x g (in_turning m e y w)) test, stmt (inside begins m p) y u (within m p k) (λ g w. x g (in_body m e y w)) body, is)
        stmt p (statement.return m None) o k x w = w
        stmt p (statement.return m (Some e)) o k x (q, (u, part, same), is) = (q, (u, asked (inside begins m p) (level 0) value e u (within m p k) (λ g w. x g (in_returned m e w)) part, same), is)
        stmt p (statement.block m b) o k x (q, body, is) = (q, in_list (inside begins m p) b q (stmts (inside begins m p) b q (within m p k) (λ g w. x g (in_block m b w))) body, is)
        stmt p (statement.sync m e b) o k x (q, u, lock, body, is) = (
          q,
          u,
          asked (inside begins m p) (level 0) value e q (within m p k) (λ g w. x g (in_lock m e b w)) lock,
          in_list (inside begins m p) b u (stmts (inside begins m p) b u (within m p k) (λ g w. x g (in_locked m e b w))) body,
          is,
        )
        stmt p (statement.empty m) o k x w = w

        pub stmts : (p : Standing) (xs : statement.Stmts A) (o : Rewritten (statement.Stmts A)) → K p → InList K p xs → TransformsStmts tells C S p.next p.context p.base xs o → TransformsStmts tells D T p.next p.context p.base xs o
        stmts p statement.end o k x w = w
        stmts p (statement.more y ys) o k x (q, u, one, rest, is) = (
          q,
          u,
          stmt p y q k (λ g w. x g (first y ys w)) one,
          in_list (behind begins y p) ys u (stmts (behind begins y p) ys u (goes_on y p k) (λ g w. x g (later y ys w))) rest,
          is,
        )

      pub list : (p : Standing) (xs : statement.Stmts A) (o : Rewritten (statement.Stmts A)) → K p → InList K p xs → TransformsList tells C S p.next p.context p.base xs o → TransformsList tells D T p.next p.context p.base xs o
      list p xs o k x w = in_list p xs o (stmts p xs o k x) w
