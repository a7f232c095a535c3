-- There is a function that gives the locals of a list of statements their numbers by their spots:
-- the path to a declared word leads to its number. (`jr_cfg: NumberAt` has the same for itself.)
use Rattle.std.proofs.Common.{◌≡◌, ℕ, suc, ◌+◌, ◌≤◌, cond, nat_eq, List, [], ◌∷◌, ◌++◌, length, None, refl, ap, ◌∙◌, append_assoc, arith}
use Rattle.std.proofs.lemmas.Bool.{eq-eqb, ne_eqb}
use Rattle.jr_text.specs.declared.spans.Span.{Span}
use Rattle.jr_ast.specs.StatementTree as statement
use Rattle.jr_ast.specs.MemberTree as declared
use Rattle.jr_table.specs.Keys.{FieldKey}
use Rattle.jr_table.specs.Decls.{MemberKey}
use Rattle.jr_table.specs.Context.{locals_in}
use Rattle.jr_cover.specs.Spots.{Spot, spot, onto}
use Rattle.jr_expr_sites.specs.KnownFacts.{Others}
use Rattle.jr_cfg.specs.MemberRoutes.{NumbersMember, HasKey, IsKeyOf, method_front, constructor_front, arguments}
use Rattle.jr_expr_sites.specs.Routes.{begins_by, ends_by}
use Rattle.jr_cfg.specs.Numbering.{NumbersStmt, NumbersElse, NumbersStmts}

module _ {A : Type 0} where
  unfoldable mutual
    -- the number of the local that the word at the path from here declares; n: that of the first
    pub at_stmt : ℕ → statement.Stmt A → List ℕ → ℕ
    at_stmt n (statement.local m f t w e) q = n
    at_stmt n (statement.eval m e) q = n
    at_stmt n (statement.branch m e s other) [] = n
    at_stmt n (statement.branch m e s other) (k ∷ q) = cond (nat_eq k 1) (at_stmt n s q) (at_else (n + locals_in s) other q)
    at_stmt n (statement.loop m e s) [] = n
    at_stmt n (statement.loop m e s) (k ∷ q) = at_stmt n s q
    at_stmt n (statement.return m e) q = n
    at_stmt n (statement.block m body) q = at_stmts n body 0 q
    at_stmt n (statement.sync m e body) q = at_stmts n body 1 q
    at_stmt n (statement.empty m) q = n

    pub at_else : ℕ → statement.Else A → List ℕ → ℕ
    at_else n statement.no_else q = n
    at_else n (statement.otherwise s) q = at_stmt n s q

    pub at_stmts : ℕ → statement.Stmts A → (i : ℕ) → List ℕ → ℕ
    at_stmts n statement.end i q = n
    at_stmts n (statement.more s ss) i [] = n
    at_stmts n (statement.more s ss) i (k ∷ q) = cond (nat_eq k i) (at_stmt n s q) (at_stmts (n + locals_in s) ss (suc i) (k ∷ q))

module _ {A : Type 0} (begins ends : A → ℕ → ℕ) (number : Spot → ℕ) where
  abbrev Tells : (path : List ℕ) → (List ℕ → ℕ) → Type 0
  Tells path f = (s : Spot) (q : List ℕ) → s.path ≡ path ++ q → number s ≡ f q

  further : (path : List ℕ) (k : ℕ) (f g : List ℕ → ℕ) → Tells path f → ((q : List ℕ) → f (k ∷ q) ≡ g q) → Tells (onto path k) g
  further path k f g told same s q is = told s (k ∷ q) (is ∙ append_assoc path (k ∷ []) q) ∙ same q

  mutual
    unfolding at_stmt at_else at_stmts NumbersStmt NumbersElse NumbersStmts

    pub numbers_stmt : (n : ℕ) (s : statement.Stmt A) (base : ℕ) (path : List ℕ) → Tells path (at_stmt n s) → NumbersStmt begins ends number n s base path
    numbers_stmt n (statement.local m f t w e) base path told = told (spot begins ends w.mark (begins m base) (onto path 1)) (1 ∷ []) refl
    numbers_stmt n (statement.eval m e) base path told = tt
    numbers_stmt n (statement.branch m e s other) base path told = (
      numbers_stmt n s (begins m base) (onto path 1) (further path 1 (at_stmt n (statement.branch m e s other)) (at_stmt n s) told (λ q. refl)),
      numbers_else (n + locals_in s) other (begins m base) (onto path 2) (further path 2 (at_stmt n (statement.branch m e s other)) (at_else (n + locals_in s) other) told (λ q. refl)),
    )
    numbers_stmt n (statement.loop m e s) base path told = numbers_stmt n s (begins m base) (onto path 1) (further path 1 (at_stmt n (statement.loop m e s)) (at_stmt n s) told (λ q. refl))
    numbers_stmt n (statement.return m e) base path told = tt
    numbers_stmt n (statement.block m body) base path told = numbers_stmts n body (begins m base) path 0 (λ s k q le is. told s (k ∷ q) is)
    numbers_stmt n (statement.sync m e body) base path told = numbers_stmts n body (begins m base) path 1 (λ s k q le is. told s (k ∷ q) is)
    numbers_stmt n (statement.empty m) base path told = tt

    pub numbers_else : (n : ℕ) (s : statement.Else A) (base : ℕ) (path : List ℕ) → Tells path (at_else n s) → NumbersElse begins ends number n s base path
    numbers_else n statement.no_else base path told = tt
    numbers_else n (statement.otherwise s) base path told = numbers_stmt n s base path told

    pub numbers_stmts : (n : ℕ) (ss : statement.Stmts A) (base : ℕ) (path : List ℕ) (i : ℕ) → ((s : Spot) (k : ℕ) (q : List ℕ) → i ≤ k → s.path ≡ path ++ k ∷ q → number s ≡ at_stmts n ss i (k ∷ q)) → NumbersStmts begins ends number n ss base path i
    numbers_stmts n statement.end base path i told = tt
    numbers_stmts n (statement.more s ss) base path i told = (
      numbers_stmt n s base (onto path i) (λ z q is. told z i q (omega arith) (is ∙ append_assoc path (i ∷ []) q) ∙ ap (λ b. cond b (at_stmt n s q) (at_stmts (n + locals_in s) ss (suc i) (i ∷ q))) (eq-eqb i i refl)),
      numbers_stmts (n + locals_in s) ss base path (suc i) (λ z k q le is. told z k q (omega (arith, le)) is ∙ ap (λ b. cond b (at_stmt n s q) (at_stmts (n + locals_in s) ss (suc i) (k ∷ q))) (ne_eqb k i (λ e. omega (arith, e, le)))),
    )

-- ---- of a member

module _ {A : Type 0} (tells : A → ℕ → Span) where
  abbrev others : (Spot → ℕ) → Others
  others number = record { called = λ s. None; created = λ s. None; class = λ s. None; number = number }

  list_numbers : (n : ℕ) (ss : statement.Stmts A) (base i : ℕ) → NumbersStmts (begins_by tells) (ends_by tells) (λ s. at_stmts n ss i s.path) n ss base [] i
  list_numbers n ss base i = numbers_stmts (begins_by tells) (ends_by tells) (λ s. at_stmts n ss i s.path) n ss base [] i (λ s k q le is. ap (at_stmts n ss i) is)

  pub has_others : (base : ℕ) (m : declared.Member A) → (o : Others) × NumbersMember tells base m o
  has_others base (declared.field m mods t w init) = (others (λ s. 0), tt)
  has_others base (declared.method m mods t w ps body) = (others (λ s. at_stmts (length ps) body (method_front tells mods t ps) s.path), list_numbers (length ps) body (begins_by tells m base) (method_front tells mods t ps))
  has_others base (declared.constructor m mods w ps args body) =
      (others (λ s. at_stmts (length ps) body (constructor_front tells mods ps + arguments tells args) s.path), list_numbers (length ps) body (begins_by tells m base) (constructor_front tells mods ps + arguments tells args))
  has_others base (declared.inner m c) = (others (λ s. 0), tt)

some_key : FieldKey
some_key = record { class = record { outer = None; name = [] }; name = [] }

pub has_key : {A : Type 0} (key : MemberKey) (m : declared.Member A) → HasKey key m → (k : FieldKey) × IsKeyOf key k m
has_key key (declared.field m mods t w init) h = h
has_key key (declared.method m mods t w ps body) h = (some_key, tt)
has_key key (declared.constructor m mods w ps args body) h = (some_key, tt)
has_key key (declared.inner m c) h = (some_key, tt)
