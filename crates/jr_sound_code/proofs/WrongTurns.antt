-- What is not well typed, and what doesn't complete normally, as theorems: the turns that an account of types could take wrong.
use Rattle.std.proofs.Common.{◌≡◌, ℕ, List, [], ◌∷◌, Option, Some, None, true, false, refl, sym, subst, ◌∙◌}
use Rattle.std.specs.Prelude.{IsTrue}
use Rattle.jr_ast.specs.Tree as tree
use Rattle.jr_ast.specs.StatementTree as statement
use Rattle.jr_runs.specs.Keys.{Keys}
use Rattle.jr_runs.specs.Values.{truth, Ty, int_type, reference}
use Rattle.jr_runs.specs.Rows.{Rows}
use Rattle.jr_runs.specs.Core as core
use Rattle.jr_runs.specs.Typing.{Gives, HasType, MayComplete, CodeTyped}
use Rattle.jr_table.specs.Completing.{IsTrueLiteral, Completes}

module _ {K : Keys} (R : Rows K) where
  -- `while (true) ..` doesn't complete normally, in code and in sources; `while (false) ..` does
  while_true : (p q : Option K.place) (b : core.Stmt K) → MayComplete (core.loop p (core.literal q (truth true)) b) → ⊥
  while_true p q b h = cc

  while_false : (p q : Option K.place) (b : core.Stmt K) → MayComplete (core.loop p (core.literal q (truth false)) b)
  while_false p q b = refl

  source_true : {A : Type 0} (m n : A) (x : statement.Stmt A) → Completes (statement.loop m (tree.paren n (tree.truth n true)) x) → ⊥
  unfolding Completes IsTrueLiteral
  source_true m n x h = h refl

  -- a call without a result is no value
  void_value : (G : List (ℕ × Ty K)) (C : Option K.class) (p : Option K.place) (m : K.method) (es : core.Exps K) (U : Ty K) → R.result m ≡ None → HasType R G C (core.static_call p m es) (Some U) → ⊥
  void_value G C p m es U none h = subst (λ (o : Option (Ty K)). Gives R o (Some U)) none h.3

  -- a body that ends without a return isn't one of a member with a result
  missing_return : (C : Option K.class) (U : Ty K) → CodeTyped R C [] (Some U) (record { params = 0; body = core.Stmts.end }) → ⊥
  missing_return C U h = h.completes U refl tt

  -- a value of a superclass isn't assigned to a local of a subclass
  down_assigned : (C : Option K.class) (sub super : K.class) (p q : Option K.place) (T : Option (Ty K)) → R.is_subclass super sub ≡ false
      → HasType R ((0, reference sub) ∷ (1, reference super) ∷ []) C (core.assign p (core.local p 0) (core.read q (core.local q 1))) T → ⊥
  down_assigned C sub super p q T not (U, has, (V, reads, gives), rest) =
      let first : Some (reference sub) ≡ Some U = has in
      let second : Some (reference super) ≡ Some V = reads in
      let u : reference sub ≡ U = cc in
      let v : reference super ≡ V = cc in
      let h : IsTrue (R.is_subclass super sub) = subst (λ (x : Ty K). Gives R (Some x) (Some (reference sub))) (sym v) (subst (λ (x : Ty K). Gives R (Some V) (Some x)) (sym u) gives) in
      let e = sym not ∙ h in
      cc

  -- nor an int to one of a class
  int_assigned : (C : Option K.class) (k : K.class) (p q : Option K.place) (T : Option (Ty K))
      → HasType R ((0, reference k) ∷ (1, int_type) ∷ []) C (core.assign p (core.local p 0) (core.read q (core.local q 1))) T → ⊥
  int_assigned C k p q T (U, has, (V, reads, gives), rest) =
      let first : Some (reference k) ≡ Some U = has in
      let second : Some int_type ≡ Some V = reads in
      let u : reference k ≡ U = cc in
      let v : int_type ≡ V = cc in
      let e = subst (λ (x : Ty K). Gives R (Some x) (Some (reference k))) (sym v) (subst (λ (x : Ty K). Gives R (Some V) (Some x)) (sym u) gives) in
      cc
