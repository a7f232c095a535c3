-- The notes on a part that avoids the names.
use Rattle.std.proofs.Common.{◌≡◌, ℕ, ◌+◌, List, ◌++◌, length, refl, Option, Some, None, true, false}
use Rattle.jr_ast.specs.Tree as tree
use Rattle.jr_ast.specs.StatementTree as statement
use Rattle.jr_ast.specs.MemberTree as syntax
use Rattle.jr_table.specs.Decls.{MemberKey, head, field, method, constructor}
use Rattle.jr_table.specs.Rows.{Row}
use Rattle.jr_table.specs.Context.{Context, local_of, in_own, locals_in}
use Rattle.jr_table.specs.Context as context
use Rattle.jr_table.specs.Binding.{Role, value, left}
use Rattle.jr_table.specs.Binding as role
use Rattle.jr_table.specs.HeadRules.{plain, with_parameters, is_static_member}
use Rattle.jr_table.specs.Errors.{Part, class_part, member_part}
use Rattle.jr_table.specs.Notes.{list_notes}
use Rattle.jr_table.specs.Walks.{notes_of, target_notes, args_notes, maybe_notes, stmt_notes, else_notes, stmts_notes, body_notes, super_args_notes, member_notes, part_notes}
use Rattle.jr_mentions.specs.Apart.{IsCleanMember}
use Rattle.jr_mentions.specs.Alike.{LookAlike}
use Rattle.jr_mentions.specs.Avoids.{AvoidsExp, AvoidsTarget, AvoidsRow, AvoidsMaybe, AvoidsStmt, AvoidsElse, AvoidsStmts, AvoidsArgs, AvoidsMember, AvoidsPart}
use Rattle.jr_mentions.proofs.SameOwnNotes.{own}
use Rattle.jr_mentions.proofs.SameStatementNotes.{own_stmt}
use Rattle.jr_mentions.proofs.SameHeadNotes.{heads, declarations}

-- behind a statement the member is the same
kept : {A : Type 0} (names : List (List ℕ)) (number : ℕ) (c : Context) (x : statement.Stmt A) → IsCleanMember names c.member → IsCleanMember names (context.after number c x).member
kept names number c (statement.local m f t w e) this = this
kept names number c (statement.eval m e) this = this
kept names number c (statement.branch m e x other) this = this
kept names number c (statement.loop m e x) this = this
kept names number c (statement.return m e) this = this
kept names number c (statement.block m body) this = this
kept names number c (statement.sync m e body) this = this
kept names number c (statement.empty m) this = this

module _ (names : List (List ℕ)) (rows after : List Row) (alike : LookAlike names rows after) where
  module _ {A : Type 0} (begins : A → ℕ → ℕ) (c : Context) (this : IsCleanMember names c.member) where
    mutual
      unfolding notes_of target_notes args_notes AvoidsExp AvoidsTarget AvoidsRow

      pub walked : (r : Role) (base : ℕ) (e : tree.Exp A) → AvoidsExp names e → notes_of begins rows c r base e ≡ notes_of begins after c r base e
      walked r base (tree.number m n) h = own names rows after alike begins c this r base (tree.number m n) h
      walked r base (tree.truth m b) h = own names rows after alike begins c this r base (tree.truth m b) h
      walked r base (tree.null m) h = own names rows after alike begins c this r base (tree.null m) h
      walked r base (tree.string m s) h = own names rows after alike begins c this r base (tree.string m s) h
      walked r base (tree.name m w) h = own names rows after alike begins c this r base (tree.name m w) h
      walked r base (tree.field m e w) h = λ i. own names rows after alike begins c this r base (tree.field m e w) h i ++ walked left (begins m base) e h.0 i
      walked r base (tree.super_field m w) h = own names rows after alike begins c this r base (tree.super_field m w) h
      walked r base (tree.this m) h = own names rows after alike begins c this r base (tree.this m) h
      walked r base (tree.class_literal m t) h = own names rows after alike begins c this r base (tree.class_literal m t) h
      walked r base (tree.call m to w args) h = λ i. own names rows after alike begins c this r base (tree.call m to w args) h i
          ++ (walked_target (begins m base) to h.0 i ++ walked_row (begins m base) args h.2 i)
      walked r base (tree.super_call m w args) h = λ i. own names rows after alike begins c this r base (tree.super_call m w args) h i ++ walked_row (begins m base) args h.1 i
      walked r base (tree.create m t args) h = λ i. own names rows after alike begins c this r base (tree.create m t args) h i ++ walked_row (begins m base) args h i
      walked r base (tree.paren m e) h = λ i. own names rows after alike begins c this r base (tree.paren m e) h i ++ walked value (begins m base) e h i
      walked r base (tree.cast m t e) h = λ i. own names rows after alike begins c this r base (tree.cast m t e) h i ++ walked value (begins m base) e h i
      walked r base (tree.unary m o e) h = λ i. own names rows after alike begins c this r base (tree.unary m o e) h i ++ walked value (begins m base) e h i
      walked r base (tree.bump m o e) h = λ i. own names rows after alike begins c this r base (tree.bump m o e) h i ++ walked value (begins m base) e h i
      walked r base (tree.binary m o x y) h = λ i. own names rows after alike begins c this r base (tree.binary m o x y) h i
          ++ (walked value (begins m base) x h.0 i ++ walked value (begins m base) y h.1 i)
      walked r base (tree.assign m x y) h = λ i. own names rows after alike begins c this r base (tree.assign m x y) h i
          ++ (walked value (begins m base) x h.0 i ++ walked value (begins m base) y h.1 i)
      walked r base (tree.compound m o x y) h = λ i. own names rows after alike begins c this r base (tree.compound m o x y) h i
          ++ (walked value (begins m base) x h.0 i ++ walked value (begins m base) y h.1 i)

      walked_target : (at : ℕ) (to : tree.Target A) → AvoidsTarget names to → target_notes begins rows c at to ≡ target_notes begins after c at to
      walked_target at tree.no_target h = refl
      walked_target at (tree.on e) h = walked left at e h

      pub walked_row : (at : ℕ) (args : tree.Exps A) → AvoidsRow names args → args_notes begins rows c at args ≡ args_notes begins after c at args
      walked_row at tree.end h = refl
      walked_row at (tree.more e es) h = λ i. walked value at e h.0 i ++ walked_row at es h.1 i

  module _ {A : Type 0} (begins : A → ℕ → ℕ) where
    walked_maybe : (c : Context) → IsCleanMember names c.member → (at : ℕ) (e : Option (tree.Exp A)) → AvoidsMaybe names e → maybe_notes begins rows c at e ≡ maybe_notes begins after c at e
    walked_maybe c this at None h = refl
    walked_maybe c this at (Some e) h = walked begins c this value at e h

    mutual
      unfolding stmt_notes else_notes stmts_notes AvoidsStmt AvoidsElse AvoidsStmts

      walked_stmt : (number : ℕ) (c : Context) → IsCleanMember names c.member → (base : ℕ) (x : statement.Stmt A) → AvoidsStmt names x → stmt_notes begins rows number c base x ≡ stmt_notes begins after number c base x
      walked_stmt number c this base (statement.local m f t w e) h = λ i. own_stmt names rows after alike begins number c this base (statement.local m f t w e) h i
          ++ walked begins (in_own c (local_of c number f t w)) this value (begins m base) e h i
      walked_stmt number c this base (statement.eval m e) h = λ i. own_stmt names rows after alike begins number c this base (statement.eval m e) h i
          ++ walked begins c this role.statement (begins m base) e h i
      walked_stmt number c this base (statement.branch m e x other) h = λ i. own_stmt names rows after alike begins number c this base (statement.branch m e x other) h i
          ++ (walked begins c this value (begins m base) e h.0 i ++ (walked_stmt number c this (begins m base) x h.1 i ++ walked_else (number + locals_in x) c this (begins m base) other h.2 i))
      walked_stmt number c this base (statement.loop m e x) h = λ i. own_stmt names rows after alike begins number c this base (statement.loop m e x) h i
          ++ (walked begins c this value (begins m base) e h.0 i ++ walked_stmt number c this (begins m base) x h.1 i)
      walked_stmt number c this base (statement.return m e) h = λ i. own_stmt names rows after alike begins number c this base (statement.return m e) h i
          ++ walked_maybe c this (begins m base) e h i
      walked_stmt number c this base (statement.block m body) h = λ i. own_stmt names rows after alike begins number c this base (statement.block m body) h i
          ++ (list_notes begins (begins m base) body ++ walked_stmts number c this (begins m base) body h i)
      walked_stmt number c this base (statement.sync m e body) h = λ i. own_stmt names rows after alike begins number c this base (statement.sync m e body) h i
          ++ (walked begins c this value (begins m base) e h.0 i ++ (list_notes begins (begins m base) body ++ walked_stmts number c this (begins m base) body h.1 i))
      walked_stmt number c this base (statement.empty m) h = own_stmt names rows after alike begins number c this base (statement.empty m) h

      walked_else : (number : ℕ) (c : Context) → IsCleanMember names c.member → (base : ℕ) (x : statement.Else A) → AvoidsElse names x → else_notes begins rows number c base x ≡ else_notes begins after number c base x
      walked_else number c this base statement.no_else h = refl
      walked_else number c this base (statement.otherwise x) h = walked_stmt number c this base x h

      walked_stmts : (number : ℕ) (c : Context) → IsCleanMember names c.member → (base : ℕ) (xs : statement.Stmts A) → AvoidsStmts names xs → stmts_notes begins rows number c base xs ≡ stmts_notes begins after number c base xs
      walked_stmts number c this base statement.end h = refl
      walked_stmts number c this base (statement.more x xs) h = λ i. walked_stmt number c this base x h.0 i
          ++ walked_stmts (number + locals_in x) (context.after number c x) (kept names number c x this) base xs h.1 i

    walked_body : (number : ℕ) (c : Context) → IsCleanMember names c.member → (base : ℕ) (xs : statement.Stmts A) → AvoidsStmts names xs → body_notes begins rows number c base xs ≡ body_notes begins after number c base xs
    walked_body number c this base xs h = λ i. list_notes begins base xs ++ walked_stmts number c this base xs h i

    walked_args : (c : Context) → IsCleanMember names c.member → (base : ℕ) (args : Option (tree.Exps A)) → AvoidsArgs names args → super_args_notes begins rows c base args ≡ super_args_notes begins after c base args
    walked_args c this base None h = refl
    walked_args c this base (Some args) h = walked_row begins c this base args h

    -- the notes on a member
    walked_member : (super_at : ℕ) (k : MemberKey) → IsCleanMember names k → (base : ℕ) (x : syntax.Member A) → AvoidsMember names x → member_notes begins rows super_at k base x ≡ member_notes begins after super_at k base x
    unfolding member_notes
    walked_member super_at k this base (syntax.field m mods t w init) h = λ i. declarations names rows after alike begins super_at k base (syntax.field m mods t w init) this h i
        ++ walked_maybe (plain k (is_static_member begins mods)) this (begins m base) init h i
    walked_member super_at k this base (syntax.method m mods t w ps body) h = λ i. declarations names rows after alike begins super_at k base (syntax.method m mods t w ps body) this h i
        ++ walked_body (length ps) (with_parameters k (is_static_member begins mods) ps) this (begins m base) body h i
    walked_member super_at k this base (syntax.constructor m mods w ps args body) h = λ i. declarations names rows after alike begins super_at k base (syntax.constructor m mods w ps args body) this h i
        ++ (walked_args (with_parameters k true ps) this (begins m base) args h.0 i ++ walked_body (length ps) (with_parameters k false ps) this (begins m base) body h.1 i)
    walked_member super_at k this base (syntax.inner m of) h = refl

    -- and on any part
    pub same_part_notes : (super_at : ℕ) (k : MemberKey) → IsCleanMember names k → (base : ℕ) (part : Part A) → AvoidsPart names part → part_notes begins rows super_at k base part ≡ part_notes begins after super_at k base part
    same_part_notes super_at (head k) this base (class_part c) h = heads names rows after alike begins k base c
    same_part_notes super_at (field k) this base (class_part c) h = refl
    same_part_notes super_at (method k) this base (class_part c) h = refl
    same_part_notes super_at (constructor k) this base (class_part c) h = refl
    same_part_notes super_at (head k) this base (member_part x) h = walked_member super_at (head k) this base x h
    same_part_notes super_at (field k) this base (member_part x) h = walked_member super_at (field k) this base x h
    same_part_notes super_at (method k) this base (member_part x) h = walked_member super_at (method k) this base x h
    same_part_notes super_at (constructor k) this base (member_part x) h = walked_member super_at (constructor k) this base x h
