-- The types of expressions in a member that avoids the names, from some rows to others.
use Rattle.std.proofs.Common.{ℕ, zero, suc, ◌+◌, List, [], ◌∷◌, length, Option, Some, None, inl, inr, sym, ◌∙◌}
use Rattle.std.specs.Prelude.{true, false}
use Rattle.jr_ast.specs.Tree as tree
use Rattle.jr_ast.specs.StatementTree as statement
use Rattle.jr_ast.specs.MemberTree as syntax
use Rattle.jr_table.specs.Keys.{Ty}
use Rattle.jr_table.specs.Decls.{MemberKey}
use Rattle.jr_table.specs.Rows.{Row}
use Rattle.jr_table.specs.Context.{Context, local_of, in_own, after, locals_in}
use Rattle.jr_table.specs.Binding.{HasType}
use Rattle.jr_table.specs.HeadRules.{plain, with_parameters, is_static_member}
use Rattle.jr_table.specs.TypesAt.{TypeBelow, TypeInMaybe, TypeInRow, TypeInStmt, TypeInElse, TypeInStmts, TypeInSuper, TypeAt}
use Rattle.jr_table.specs.BindingLaws.{AreBound}
use Rattle.jr_table.specs.LookupLaws.{KeysFound}
use Rattle.jr_mentions.specs.Avoids.{AvoidsExp, AvoidsRow, AvoidsMaybe, AvoidsStmt, AvoidsElse, AvoidsStmts, AvoidsArgs, AvoidsMember}
use Rattle.jr_mentions.specs.Lasting.{TypesLast}
use Rattle.jr_mentions.proofs.SameMeanings.{types}
use Rattle.jr_mentions.proofs.PartsAvoid.{part_avoids}

-- an expression that avoids the names has each of its types by the other rows too
abbrev Carries : (A : Type 0) → List (List ℕ) → (rows others : List Row) → Type 0
Carries A names rows others = (c : Context) (e : tree.Exp A) → AvoidsExp names e → (t : Ty)
    → HasType rows c e t → HasType others c e t

module _ {A : Type 0} (names : List (List ℕ)) (rows others : List Row)
    (carry : Carries A names rows others) where
  below : (c : Context) (e : tree.Exp A) → AvoidsExp names e → (path : List ℕ) (t : Ty)
      → TypeBelow rows c e path t → TypeBelow others c e path t
  below c e a path t (x, at, h) = (x, at, carry c x (part_avoids names e a path x at) t h)

  in_maybe : (c : Context) (e : Option (tree.Exp A)) → AvoidsMaybe names e → (step : ℕ)
      (path : List ℕ) (t : Ty) → TypeInMaybe rows c e step path t
      → TypeInMaybe others c e step path t
  in_maybe c None a step path t h = absurd h
  in_maybe c (Some e) a zero path t h = below c e a path t h
  in_maybe c (Some e) a (suc step) path t h = absurd h

  in_row : (c : Context) (es : tree.Exps A) → AvoidsRow names es → (step : ℕ) (path : List ℕ)
      (t : Ty) → TypeInRow rows c es step path t → TypeInRow others c es step path t
  unfolding AvoidsRow
  in_row c tree.end a step path t h = absurd h
  in_row c (tree.more e es) a zero path t h = below c e a.0 path t h
  in_row c (tree.more e es) a (suc step) path t h = in_row c es a.1 step path t h

  in_super : (c : Context) (args : Option (tree.Exps A)) → AvoidsArgs names args → (step : ℕ)
      (path : List ℕ) (t : Ty) → TypeInSuper rows c args step path t
      → TypeInSuper others c args step path t
  in_super c None a step path t h = absurd h
  in_super c (Some es) a step path t h = in_row c es a step path t h

  mutual
    unfolding TypeInStmt TypeInElse TypeInStmts AvoidsStmt AvoidsElse AvoidsStmts

    in_stmt : (number : ℕ) (c : Context) (x : statement.Stmt A) → AvoidsStmt names x
        → (path : List ℕ) (t : Ty) → TypeInStmt rows number c x path t
        → TypeInStmt others number c x path t
    in_stmt number c (statement.local m f u w e) a (suc (suc zero) ∷ path) t h =
        below (in_own c (local_of c number f u w)) e a path t h
    in_stmt number c (statement.eval m e) a (zero ∷ path) t h = below c e a path t h
    in_stmt number c (statement.branch m e x other) a (zero ∷ path) t h = below c e a.0 path t h
    in_stmt number c (statement.branch m e x other) a (suc zero ∷ path) t h =
        in_stmt number c x a.1 path t h
    in_stmt number c (statement.branch m e x other) a (suc (suc zero) ∷ path) t h =
        in_else (number + locals_in x) c other a.2 path t h
    in_stmt number c (statement.loop m e x) a (zero ∷ path) t h = below c e a.0 path t h
    in_stmt number c (statement.loop m e x) a (suc zero ∷ path) t h =
        in_stmt number c x a.1 path t h
    in_stmt number c (statement.return m (Some e)) a (zero ∷ path) t h = below c e a path t h
    in_stmt number c (statement.block m body) a (step ∷ path) t h =
        in_stmts number c body a step path t h
    in_stmt number c (statement.sync m e body) a (zero ∷ path) t h = below c e a.0 path t h
    in_stmt number c (statement.sync m e body) a (suc step ∷ path) t h =
        in_stmts number c body a.1 step path t h
    in_stmt number c _ a _ t h = absurd h

    in_else : (number : ℕ) (c : Context) (x : statement.Else A) → AvoidsElse names x
        → (path : List ℕ) (t : Ty) → TypeInElse rows number c x path t
        → TypeInElse others number c x path t
    in_else number c statement.no_else a path t h = absurd h
    in_else number c (statement.otherwise x) a path t h = in_stmt number c x a path t h

    in_stmts : (number : ℕ) (c : Context) (xs : statement.Stmts A) → AvoidsStmts names xs
        → (step : ℕ) (path : List ℕ) (t : Ty) → TypeInStmts rows number c xs step path t
        → TypeInStmts others number c xs step path t
    in_stmts number c statement.end a step path t h = absurd h
    in_stmts number c (statement.more x xs) a zero path t h = in_stmt number c x a.0 path t h
    in_stmts number c (statement.more x xs) a (suc step) path t h =
        in_stmts (number + locals_in x) (after number c x) xs a.1 step path t h

  in_member : (begins : A → ℕ → ℕ) (k : MemberKey) (x : syntax.Member A) → AvoidsMember names x
      → (path : List ℕ) (t : Ty) → TypeAt begins rows k x path t → TypeAt begins others k x path t
  in_member begins k x a [] t h = absurd h
  in_member begins k (syntax.field m mods u w init) a (first ∷ path) t (step, is, h) =
      (step, is, in_maybe (plain k (is_static_member begins mods)) init a step path t h)
  in_member begins k (syntax.method m mods u w ps body) a (first ∷ path) t (step, is, h) = (
    step,
    is,
    in_stmts (length ps) (with_parameters k (is_static_member begins mods) ps) body a
        step path t h,
  )
  in_member begins k (syntax.constructor m mods w ps args body) a (first ∷ path) t (inl h) =
      inl (h.0, h.1, in_super (with_parameters k true ps) args a.0 h.0 path t h.2)
  in_member begins k (syntax.constructor m mods w ps args body) a (first ∷ path) t (inr h) =
      inr (h.0, h.1, in_stmts (length ps) (with_parameters k false ps) body a.1 h.0 path t h.2)
  in_member begins k (syntax.inner m of) a (first ∷ path) t h = absurd h

-- the types are those that are computed, which are the same
module _ (A : Type 0) (bound : AreBound A) (found : KeysFound) where
  pub types_last : TypesLast A
  types_last begins names rows others are others_are alike k x a path t =
      (in_member names rows others to begins k x a path t, in_member names others rows back begins k x a path t)
    where
      to : Carries A names rows others
      to c e a t h = ((bound others others_are (found others others_are) c).types e t).0
          (sym (types names rows others alike c e a) ∙ ((bound rows are (found rows are) c).types e t).1 h)

      back : Carries A names others rows
      back c e a t h = ((bound rows are (found rows are) c).types e t).0
          (types names rows others alike c e a ∙ ((bound others others_are (found others others_are) c).types e t).1 h)
