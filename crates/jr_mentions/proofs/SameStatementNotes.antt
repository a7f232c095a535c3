-- The notes on a statement itself that avoids the names.
use Rattle.std.proofs.Common.{◌≡◌, ℕ, List, ◌++◌, refl, ap, ◌∙◌, Option, Some, None, false}
use Rattle.std.specs.Prelude.{◌&&◌, not, is_some}
use Rattle.jr_ast.specs.Tree as tree
use Rattle.jr_ast.specs.StatementTree as statement
use Rattle.jr_ast.specs.Marks.{exp_mark}
use Rattle.jr_table.specs.Keys.{Ty, boolean}
use Rattle.jr_table.specs.Decls.{MemberKey, head, field, method, constructor, method_decl}
use Rattle.jr_table.specs.Rows.{Row}
use Rattle.jr_table.specs.Scope.{last_named}
use Rattle.jr_table.specs.Context.{Context, scope_of, in_own, local_of}
use Rattle.jr_table.specs.HeadRules.{plain}
use Rattle.jr_table.specs.Meanings.{written_type, type_of}
use Rattle.jr_table.specs.Notes.{breaks, reference_notes, unless, when, is_ty, is_true_literal, value_type, returned_type, is_class_type, value_return_notes, return_notes, condition_notes, own_stmt_notes}
use Rattle.jr_table.specs.declared.rules.Rule.TheVariants as rule
use Rattle.jr_mentions.specs.Apart.{IsCleanMember}
use Rattle.jr_mentions.specs.Alike.{LookAlike}
use Rattle.jr_mentions.specs.Avoids.{AvoidsExp, AvoidsMaybe, AvoidsStmt}
use Rattle.jr_mentions.proofs.SameMeanings.{writtens, decl_types, types, type_refs}
use Rattle.jr_mentions.proofs.SameTests.{suiting, suits_at}
use Rattle.jr_mentions.proofs.SameOwnNotes.{constants}

module _ (names : List (List ℕ)) (rows after : List Row) (alike : LookAlike names rows after) where
  returned : (k : MemberKey) → IsCleanMember names k → returned_type rows k ≡ returned_type after k
  returned (method k) this = ap value_type (decl_types names rows after alike (plain (method k) false) (method_decl k) this)
  returned (head k) this = refl
  returned (field k) this = refl
  returned (constructor k) this = refl

  value_returned : (at place : ℕ) (t u : Option Ty) → value_return_notes rows at place t u ≡ value_return_notes after at place t u
  value_returned at place t None = refl
  value_returned at place t (Some u) = λ i. unless (suiting names rows after alike t (Some u) i) (breaks place rule.TypeMismatch)

  value_returned_at : (at place : ℕ) (t u p q : Option Ty) → t ≡ p → u ≡ q → value_return_notes rows at place t u ≡ value_return_notes after at place p q
  value_returned_at at place t u p q d e = value_returned at place t u ∙ (λ i. value_return_notes after at place (d i) (e i))

  module _ {A : Type 0} (begins : A → ℕ → ℕ) (number : ℕ) (c : Context) (this : IsCleanMember names c.member) (base : ℕ) where
    returns_same : (m : A) (e : Option (tree.Exp A)) → AvoidsMaybe names e → return_notes begins rows number c base m e ≡ return_notes begins after number c base m e
    returns_same m None h = λ i. when (is_some (returned c.member this i)) (breaks (begins m base) rule.ReturnForm)
    returns_same m (Some e) h = value_returned_at (begins m base) (begins (exp_mark e) (begins m base)) (type_of rows c e) (returned_type rows c.member) (type_of after c e) (returned_type after c.member)
        (types names rows after alike c e h) (returned c.member this)

    conditions : (m : A) (e : tree.Exp A) → AvoidsExp names e → condition_notes begins rows number c base m e ≡ condition_notes begins after number c base m e
    conditions m e h = λ i. unless (is_ty boolean (types names rows after alike c e h i)) (breaks (begins (exp_mark e) (begins m base)) rule.TypeMismatch)

    -- the notes on a statement itself
    pub own_stmt : (x : statement.Stmt A) → AvoidsStmt names x → own_stmt_notes begins rows number c base x ≡ own_stmt_notes begins after number c base x
    unfolding own_stmt_notes AvoidsStmt
    own_stmt (statement.local m f t w e) h = λ i. reference_notes (type_refs names rows after alike begins c (begins m base) t i)
        ++ (when (is_some (last_named w.text (scope_of c).locals)) (breaks (begins w.mark (begins m base)) rule.Redeclared)
        ++ unless (suits_at names rows after alike (type_of rows (in_own c (local_of c number f t w)) e) (written_type rows (scope_of c) t) (type_of after (in_own c (local_of c number f t w)) e) (written_type after (scope_of c) t)
        (types names rows after alike (in_own c (local_of c number f t w)) e h) (writtens names rows after alike (scope_of c) t) i) (breaks (begins (exp_mark e) (begins m base)) rule.TypeMismatch))
    own_stmt (statement.eval m e) h = refl
    own_stmt (statement.branch m e x other) h = conditions m e h.0
    own_stmt (statement.loop m e x) h = λ i. conditions m e h.0 i
        ++ when (not (is_true_literal e) && constants names rows after alike c e h.0 i) (breaks (begins (exp_mark e) (begins m base)) rule.ConstantCondition)
    own_stmt (statement.return m e) h = returns_same m e h
    own_stmt (statement.block m body) h = refl
    own_stmt (statement.sync m e body) h = λ i. unless (is_class_type (types names rows after alike c e h.0 i)) (breaks (begins (exp_mark e) (begins m base)) rule.TypeMismatch)
    own_stmt (statement.empty m) h = refl
