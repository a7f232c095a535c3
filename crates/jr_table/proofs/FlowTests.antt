-- Conditions, completing normally and what isn't reached: the tests and notes are what the relations say.
use Rattle.std.proofs.Common.{◌≡◌, ℕ, List, Option, Some, None, Bool, true, false, refl, inl, inr}
use Rattle.std.specs.Prelude.{◌⊎◌, ◌↔◌, ◌&&◌, is_some}
use Rattle.jr_ast.specs.Tree as tree
use Rattle.jr_ast.specs.StatementTree as statement
use Rattle.jr_ast.specs.Marks.{stmt_mark}
use Rattle.jr_table.specs.Keys.{ClassKey}
use Rattle.jr_table.specs.Decls.{Decl}
use Rattle.jr_table.specs.Rows.{Row}
use Rattle.jr_table.specs.Found.{Found, one}
use Rattle.jr_table.specs.Conditions.{AreRows}
use Rattle.jr_table.specs.Lookup.{FindsVariable, find_variable}
use Rattle.jr_table.specs.LookupLaws.{Decided, KeysAreFound}
use Rattle.jr_table.specs.Context.{Context, scope_of}
use Rattle.jr_table.specs.Binding.{IsClassName, FieldFinds}
use Rattle.jr_table.specs.ExpressionRules.{IsConstantVariable, IsConstant}
use Rattle.jr_table.specs.Completing.{IsTrueLiteral, Completes, ElseCompletes, ListCompletes, StandsIn, UnreachedIn}
use Rattle.jr_table.specs.StatementRules.{ListBreaks}
use Rattle.jr_table.specs.Meanings.{class_name_of, class_on, field_found}
use Rattle.jr_table.specs.Notes.{refers, breaks, Has, unless, is_final_decl, has_init_decl, is_constant_found, is_constant, is_true_literal, completes, else_completes, list_completes, unreached, list_notes}
use Rattle.jr_table.proofs.RowTypes.{chain}
use Rattle.jr_table.proofs.Typing.{named}
use Rattle.jr_table.proofs.ReferenceLaws.{field_finds}
use Rattle.jr_table.proofs.TypeTests.{and_iff, or_iff, not_iff}
use Rattle.jr_table.proofs.DeclarationTests.{found_test, constant_iff}
use Rattle.jr_table.proofs.Breaking.{has_append, one_iff, unless_binds_none}
use Rattle.jr_table.specs.declared.rules.Rule.{Rule}
use Rattle.jr_table.specs.declared.rules.Rule.TheVariants as rule

pub some_test : {X : Type 0} (o : Option X) (P : X → Type 0) → ((x : X) → (o ≡ Some x) ↔ P x) → (is_some o ≡ true) ↔ ((x : X) × P x)
some_test None P is = (λ h. absurd cc, λ h. let e = (is h.0).1 h.1 in absurd cc)
some_test (Some x) P is = (λ h. (x, (is x).0 refl), λ h. refl)

holds : (true ≡ true) ↔ Unit {0}
holds = (λ h. tt, λ h. refl)

fails : (false ≡ true) ↔ ⊥
fails = (λ h. absurd cc, λ h. absurd h)

module _ (rows : List Row) (fit : AreRows rows) (found : KeysAreFound rows) (c : Context) where
  -- the variable that is found is constant
  found_constant : (f : Found) (Finds : Found → Type 0) → Decided f Finds → (is_constant_found rows c f ≡ true) ↔ ((d : Decl) × Finds (one d) × IsConstantVariable rows c d)
  found_constant f Finds is = found_test f Finds is (λ d. is_final_decl rows c d && has_init_decl rows c d) (IsConstantVariable rows c) (constant_iff rows fit c)

  module _ {A : Type 0} where
    constant_field : (e : tree.Exp A) (name : List ℕ) → ((is_some (class_name_of rows c e) && is_constant_found rows c (field_found rows c (class_on rows c e) name)) ≡ true)
        ↔ ((k : ClassKey) × (d : Decl) × IsClassName rows c e k × FieldFinds rows c e name (one d) × IsConstantVariable rows c d)
    constant_field e name = chain (and_iff _ _ ((k : ClassKey) × IsClassName rows c e k) ((d : Decl) × FieldFinds rows c e name (one d) × IsConstantVariable rows c d)
        (some_test (class_name_of rows c e) (IsClassName rows c e) (named rows fit found c e))
        (found_constant (field_found rows c (class_on rows c e) name) (FieldFinds rows c e name) (field_finds rows fit found c e name)))
        (λ h. (h.0.0, h.1.0, h.0.1, h.1.1, h.1.2), λ h. ((h.0, h.2), (h.1, h.3, h.4)))

    pub constant_test : (e : tree.Exp A) → (is_constant rows c e ≡ true) ↔ IsConstant rows c e
    unfolding is_constant IsConstant
    constant_test (tree.number m n) = holds
    constant_test (tree.truth m b) = holds
    constant_test (tree.null m) = holds
    constant_test (tree.string m s) = holds
    constant_test (tree.name m w) = found_constant (find_variable rows (scope_of c) w.text) (FindsVariable rows (scope_of c) w.text) (found.variable (scope_of c) w.text)
    constant_test (tree.field m e w) = constant_field e w.text
    constant_test (tree.super_field m w) = fails
    constant_test (tree.this m) = fails
    constant_test (tree.class_literal m t) = fails
    constant_test (tree.call m to w args) = fails
    constant_test (tree.super_call m w args) = fails
    constant_test (tree.create m t args) = fails
    constant_test (tree.paren m e) = constant_test e
    constant_test (tree.cast m t e) = constant_test e
    constant_test (tree.unary m o e) = constant_test e
    constant_test (tree.bump m o e) = fails
    constant_test (tree.binary m o x y) = and_iff (is_constant rows c x) (is_constant rows c y) (IsConstant rows c x) (IsConstant rows c y) (constant_test x) (constant_test y)
    constant_test (tree.assign m x y) = fails
    constant_test (tree.compound m o x y) = fails

module _ {A : Type 0} where
  pub literal_test : (e : tree.Exp A) → (is_true_literal e ≡ true) ↔ IsTrueLiteral e
  unfolding is_true_literal IsTrueLiteral
  literal_test (tree.truth m b) = (λ h. h, λ h. h)
  literal_test (tree.paren m e) = literal_test e
  literal_test (tree.number m n) = fails
  literal_test (tree.null m) = fails
  literal_test (tree.string m s) = fails
  literal_test (tree.name m w) = fails
  literal_test (tree.field m e w) = fails
  literal_test (tree.super_field m w) = fails
  literal_test (tree.this m) = fails
  literal_test (tree.class_literal m t) = fails
  literal_test (tree.call m to w args) = fails
  literal_test (tree.super_call m w args) = fails
  literal_test (tree.create m t args) = fails
  literal_test (tree.cast m t e) = fails
  literal_test (tree.unary m o e) = fails
  literal_test (tree.bump m o e) = fails
  literal_test (tree.binary m o x y) = fails
  literal_test (tree.assign m x y) = fails
  literal_test (tree.compound m o x y) = fails

  mutual
    unfolding completes else_completes list_completes Completes ElseCompletes ListCompletes

    pub completes_test : (x : statement.Stmt A) → (completes x ≡ true) ↔ Completes x
    completes_test (statement.local m f t w e) = holds
    completes_test (statement.eval m e) = holds
    completes_test (statement.branch m e x other) = or_iff (else_completes other) (completes x) (ElseCompletes other) (Completes x) (else_test other) (completes_test x)
    completes_test (statement.loop m e x) = not_iff (is_true_literal e) (IsTrueLiteral e) (literal_test e)
    completes_test (statement.return m e) = fails
    completes_test (statement.block m body) = list_test body
    completes_test (statement.sync m e body) = list_test body
    completes_test (statement.empty m) = holds

    else_test : (x : statement.Else A) → (else_completes x ≡ true) ↔ ElseCompletes x
    else_test statement.no_else = holds
    else_test (statement.otherwise x) = completes_test x

    pub list_test : (xs : statement.Stmts A) → (list_completes xs ≡ true) ↔ ListCompletes xs
    list_test statement.end = holds
    list_test (statement.more x xs) = and_iff (completes x) (list_completes xs) (Completes x) (ListCompletes xs) (completes_test x) (list_test xs)

  incomplete : (x : statement.Stmt A) → (completes x ≡ false) ↔ (Completes x → ⊥)
  incomplete x = (λ e h. let t = (completes_test x).1 h in absurd cc, λ none. is_false (completes x) (λ e. none ((completes_test x).0 e)))
    where
      is_false : (b : Bool) → (b ≡ true → ⊥) → b ≡ false
      is_false true n = absurd (n refl)
      is_false false n = refl

  module _ (begins : A → ℕ → ℕ) (base : ℕ) where
    module _ (at : ℕ) (r : Rule) where
      -- what is noted where it is known whether the list itself is reached
      abbrev Unreached : Bool → statement.Stmts A → Type 0
      Unreached b xs = (r ≡ rule.Unreachable) × (((b ≡ false) × StandsIn begins base xs at) ⊎ UnreachedIn begins base xs at)

      abbrev IsNoted : Bool → statement.Stmts A → Type 0
      IsNoted b xs = Has (unreached begins base b xs) (breaks at r) ↔ Unreached b xs

      more_reached : (x : statement.Stmt A) (xs : statement.Stmts A) → IsNoted (completes x) xs → IsNoted true (statement.more x xs)
      more_reached x xs again = (λ h. to (again.0 h), λ h. again.1 (back h))
        where
          to : Unreached (completes x) xs → Unreached true (statement.more x xs)
          to (e, inl (f, s)) = (e, inr (inl ((incomplete x).0 f, s)))
          to (e, inr u) = (e, inr (inr u))

          back : Unreached true (statement.more x xs) → Unreached (completes x) xs
          back (e, inl (f, s)) = absurd cc
          back (e, inr (inl (n, s))) = (e, inl ((incomplete x).1 n, s))
          back (e, inr (inr u)) = (e, inr u)

      more_unreached : (x : statement.Stmt A) (xs : statement.Stmts A) → IsNoted false xs → IsNoted false (statement.more x xs)
      more_unreached x xs again = chain (has_append (unless false (breaks (begins (stmt_mark x) base) rule.Unreachable)) (unreached begins base false xs) (breaks at r)) (to, back)
        where
          here : Has (unless false (breaks (begins (stmt_mark x) base) rule.Unreachable)) (breaks at r) ↔ ((at ≡ begins (stmt_mark x) base) × (r ≡ rule.Unreachable))
          here = one_iff (begins (stmt_mark x) base) at rule.Unreachable r

          below : Unreached false xs → Unreached false (statement.more x xs)
          below (e, inl (f, s)) = (e, inl (refl, inr s))
          below (e, inr u) = (e, inr (inr u))

          to : (Has (unless false (breaks (begins (stmt_mark x) base) rule.Unreachable)) (breaks at r) ⊎ Has (unreached begins base false xs) (breaks at r)) → Unreached false (statement.more x xs)
          to (inl h) = let g = here.0 h in (g.1, inl (refl, inl g.0))
          to (inr h) = below (again.0 h)

          back : Unreached false (statement.more x xs) → Has (unless false (breaks (begins (stmt_mark x) base) rule.Unreachable)) (breaks at r) ⊎ Has (unreached begins base false xs) (breaks at r)
          back (e, inl (f, inl a)) = inl (here.1 (a, e))
          back (e, inl (f, inr s)) = inr (again.1 (e, inl (refl, s)))
          back (e, inr (inl (n, s))) = inr (again.1 (e, inl (refl, s)))
          back (e, inr (inr u)) = inr (again.1 (e, inr u))

      unreached_noted : (b : Bool) (xs : statement.Stmts A) → IsNoted b xs
      unreached_noted b statement.end = (λ h. absurd h, back)
        where
          back : Unreached b statement.end → ⊥
          back (e, inl h) = h.1
          back (e, inr h) = h
      unreached_noted true (statement.more x xs) = more_reached x xs (unreached_noted (completes x) xs)
      unreached_noted false (statement.more x xs) = more_unreached x xs (unreached_noted false xs)

      -- what is noted of a list is what isn't reached in it
      pub list_breaks : (xs : statement.Stmts A) → Has (list_notes begins base xs) (breaks at r) ↔ ListBreaks begins base xs at r
      list_breaks xs = chain (unreached_noted true xs) (to, λ h. (h.0, inr h.1))
        where
          to : Unreached true xs → ListBreaks begins base xs at r
          to (e, inl (f, s)) = absurd cc
          to (e, inr u) = (e, u)

    unreached_binds : (b : Bool) (xs : statement.Stmts A) (at : ℕ) (d : Decl) → Has (unreached begins base b xs) (refers at d) → ⊥
    unreached_binds b statement.end at d h = h
    unreached_binds b (statement.more x xs) at d h = of ((has_append (unless b (breaks (begins (stmt_mark x) base) rule.Unreachable)) (unreached begins base (b && completes x) xs) (refers at d)).0 h) (λ g. unreached_binds (b && completes x) xs at d g)
      where
        of : (Has (unless b (breaks (begins (stmt_mark x) base) rule.Unreachable)) (refers at d) ⊎ Has (unreached begins base (b && completes x) xs) (refers at d)) → (Has (unreached begins base (b && completes x) xs) (refers at d) → ⊥) → ⊥
        of (inl g) none = unless_binds_none b (begins (stmt_mark x) base) at rule.Unreachable d g
        of (inr g) none = none g

    pub list_binds : (xs : statement.Stmts A) (at : ℕ) (d : Decl) → Has (list_notes begins base xs) (refers at d) → ⊥
    list_binds xs at d h = unreached_binds true xs at d h
