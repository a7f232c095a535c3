-- Names that statements and parameters declare, beside what they refer to: each begins where a token does, and no two begin at one place.
use Rattle.std.proofs.Common.{◌≡◌, ℕ, suc, ◌+◌, List, [], ◌∷◌, Option, Some, None, sym, ◌∙◌, inl, inr}
use Rattle.std.specs.Prelude.{◌⊎◌}
use Rattle.jr_text.specs.declared.spans.Span.{Span}
use Rattle.jr_ast.specs.Tree as tree
use Rattle.jr_ast.specs.StatementTree as statement
use Rattle.jr_ast.specs.MemberTree as syntax
use Rattle.jr_grammar.specs.Stands.{Tokens, Stands}
use Rattle.jr_grammar.specs.ExpressionLayout.{word_layout}
use Rattle.jr_grammar.specs.StatementLayout.{stmt_layout, else_layout, stmts_layout}
use Rattle.jr_grammar.specs.MemberLayout.{param_layout, more_params_layout, params_layout}
use Rattle.jr_table.specs.Decls.{MemberKey, Decl, local_decl}
use Rattle.jr_table.specs.Rows.{Row}
use Rattle.jr_table.specs.Conditions.{AreRows}
use Rattle.jr_table.specs.Found.{one}
use Rattle.jr_table.specs.LookupLaws.{EachHasOne}
use Rattle.jr_table.specs.BindingLaws.{IsBound}
use Rattle.jr_table.specs.Context.{Context, local_of, local_key, in_own, after, locals_in}
use Rattle.jr_table.specs.Binding.{Role, value, TypeRefers}
use Rattle.jr_table.specs.Binding as role
use Rattle.jr_table.specs.HeadRules.{ParamsRefer}
use Rattle.jr_table.specs.Somewhere.{InExp, InMaybe, InStmt, InElse, InStmts}
use Rattle.jr_program_laws.specs.FileParts.{begins}
use Rattle.jr_program_laws.proofs.MemberParts.{OnExp, OnStmt, OnList}
use Rattle.jr_program_laws.proofs.Holding.{Over, join, pass, only, node, turn, empty}
use Rattle.jr_program_laws.proofs.ExpressionsHold.{without, type_over, word_over}
use Rattle.jr_program_laws.proofs.StatementsHold.{behind_none, around_none, exp}
use Rattle.jr_images.specs.Targets.{StandsAt, LocalDeclares, ParamDeclares}
use Rattle.jr_cursor.proofs.Nowhere.{neither, exp_none}

pub never : ⊥ → ⊥
never h = h

pub nothing : ⊥ ⊎ ⊥ → ⊥
nothing h = neither never never h

-- ---- walks over statements

-- a walk of which no expression and no list is asked
abbrev pub DeclaredIn : (at : ℕ) → Decl → (number : ℕ) → Context → (base : ℕ) → statement.Stmt Span → Type 0
DeclaredIn at d = InStmt begins (λ c r b e. ⊥) (λ n c b s. LocalDeclares begins n c b s at d) (λ b ss. ⊥)

module _ (rows : List Row) where
  -- what a statement declares itself, or refers to
  abbrev pub HasStmt : (at : ℕ) → Decl → (number : ℕ) → Context → (base : ℕ) → statement.Stmt Span → Type 0
  HasStmt at d n c b s = LocalDeclares begins n c b s at d ⊎ OnStmt rows at d n c b s

  abbrev pub HasIn : (at : ℕ) → Decl → (number : ℕ) → Context → (base : ℕ) → statement.Stmts Span → Type 0
  HasIn at d = InStmts begins (OnExp rows at d) (HasStmt at d) (OnList rows at d)

  -- parameters, and their types
  abbrev pub HasParam : MemberKey → (number : ℕ) → Context → (base : ℕ) → List (syntax.Param Span) → (at : ℕ) → Decl → Type 0
  HasParam k n c base ps at d = ParamDeclares begins k n base ps at d ⊎ ParamsRefer begins rows c base ps at (one d)

  -- ---- a walk for one of the two is a walk for both

  module _ (at : ℕ) (d : Decl) where
    none_in : {X : Type 0} (c : Context) (r : Role) (base : ℕ) (e : tree.Exp Span) → InExp begins (λ c r b e. ⊥) (λ n c b s. LocalDeclares begins n c b s at d) (λ b ss. ⊥) c r base e → X
    none_in c r base e h = absurd (exp_none begins r base e h)

    none_maybe : {X : Type 0} (c : Context) (base : ℕ) (e : Option (tree.Exp Span)) → InMaybe begins (λ c r b e. ⊥) (λ n c b s. LocalDeclares begins n c b s at d) (λ b ss. ⊥) c base e → X
    none_maybe c base None h = absurd h
    none_maybe c base (Some e) h = none_in c value base e h

    mutual
      unfolding InStmt InElse InStmts

      stmt_declares : (n : ℕ) (c : Context) (base : ℕ) (x : statement.Stmt Span) → DeclaredIn at d n c base x → InStmt begins (OnExp rows at d) (HasStmt at d) (OnList rows at d) n c base x
      stmt_declares n c base (statement.local m f t w e) (inl h) = inl (inl h)
      stmt_declares n c base (statement.local m f t w e) (inr h) = none_in (in_own c (local_of c n f t w)) value (begins m base) e h
      stmt_declares n c base (statement.eval m e) (inl h) = absurd h
      stmt_declares n c base (statement.eval m e) (inr h) = none_in c role.statement (begins m base) e h
      stmt_declares n c base (statement.branch m e x other) (inl h) = absurd h
      stmt_declares n c base (statement.branch m e x other) (inr (inl h)) = none_in c value (begins m base) e h
      stmt_declares n c base (statement.branch m e x other) (inr (inr (inl h))) = inr (inr (inl (stmt_declares n c (begins m base) x h)))
      stmt_declares n c base (statement.branch m e x other) (inr (inr (inr h))) = inr (inr (inr (else_declares (n + locals_in x) c (begins m base) other h)))
      stmt_declares n c base (statement.loop m e x) (inl h) = absurd h
      stmt_declares n c base (statement.loop m e x) (inr (inl h)) = none_in c value (begins m base) e h
      stmt_declares n c base (statement.loop m e x) (inr (inr h)) = inr (inr (stmt_declares n c (begins m base) x h))
      stmt_declares n c base (statement.return m e) (inl h) = absurd h
      stmt_declares n c base (statement.return m e) (inr h) = none_maybe c (begins m base) e h
      stmt_declares n c base (statement.block m body) (inl h) = absurd h
      stmt_declares n c base (statement.block m body) (inr (inl h)) = absurd h
      stmt_declares n c base (statement.block m body) (inr (inr h)) = inr (inr (stmts_declare n c (begins m base) body h))
      stmt_declares n c base (statement.sync m e body) (inl h) = absurd h
      stmt_declares n c base (statement.sync m e body) (inr (inl h)) = none_in c value (begins m base) e h
      stmt_declares n c base (statement.sync m e body) (inr (inr (inl h))) = absurd h
      stmt_declares n c base (statement.sync m e body) (inr (inr (inr h))) = inr (inr (inr (stmts_declare n c (begins m base) body h)))
      stmt_declares n c base (statement.empty m) h = absurd h

      else_declares : (n : ℕ) (c : Context) (base : ℕ) (x : statement.Else Span) → InElse begins (λ c r b e. ⊥) (λ n c b s. LocalDeclares begins n c b s at d) (λ b ss. ⊥) n c base x
          → InElse begins (OnExp rows at d) (HasStmt at d) (OnList rows at d) n c base x
      else_declares n c base statement.no_else h = h
      else_declares n c base (statement.otherwise x) h = stmt_declares n c base x h

      pub stmts_declare : (n : ℕ) (c : Context) (base : ℕ) (xs : statement.Stmts Span) → InStmts begins (λ c r b e. ⊥) (λ n c b s. LocalDeclares begins n c b s at d) (λ b ss. ⊥) n c base xs → HasIn at d n c base xs
      stmts_declare n c base statement.end h = h
      stmts_declare n c base (statement.more x xs) (inl h) = inl (stmt_declares n c base x h)
      stmts_declare n c base (statement.more x xs) (inr h) = inr (stmts_declare (n + locals_in x) (after n c x) base xs h)

    mutual
      unfolding InStmt InElse InStmts

      stmt_refers : (n : ℕ) (c : Context) (base : ℕ) (x : statement.Stmt Span) → InStmt begins (OnExp rows at d) (OnStmt rows at d) (OnList rows at d) n c base x → InStmt begins (OnExp rows at d) (HasStmt at d) (OnList rows at d) n c base x
      stmt_refers n c base (statement.local m f t w e) (inl h) = inl (inr h)
      stmt_refers n c base (statement.local m f t w e) (inr h) = inr h
      stmt_refers n c base (statement.eval m e) (inl h) = absurd h
      stmt_refers n c base (statement.eval m e) (inr h) = inr h
      stmt_refers n c base (statement.branch m e x other) (inl h) = absurd h
      stmt_refers n c base (statement.branch m e x other) (inr (inl h)) = inr (inl h)
      stmt_refers n c base (statement.branch m e x other) (inr (inr (inl h))) = inr (inr (inl (stmt_refers n c (begins m base) x h)))
      stmt_refers n c base (statement.branch m e x other) (inr (inr (inr h))) = inr (inr (inr (else_refers (n + locals_in x) c (begins m base) other h)))
      stmt_refers n c base (statement.loop m e x) (inl h) = absurd h
      stmt_refers n c base (statement.loop m e x) (inr (inl h)) = inr (inl h)
      stmt_refers n c base (statement.loop m e x) (inr (inr h)) = inr (inr (stmt_refers n c (begins m base) x h))
      stmt_refers n c base (statement.return m e) (inl h) = absurd h
      stmt_refers n c base (statement.return m e) (inr h) = inr h
      stmt_refers n c base (statement.block m body) (inl h) = absurd h
      stmt_refers n c base (statement.block m body) (inr (inl h)) = inr (inl h)
      stmt_refers n c base (statement.block m body) (inr (inr h)) = inr (inr (stmts_refer n c (begins m base) body h))
      stmt_refers n c base (statement.sync m e body) (inl h) = absurd h
      stmt_refers n c base (statement.sync m e body) (inr (inl h)) = inr (inl h)
      stmt_refers n c base (statement.sync m e body) (inr (inr (inl h))) = inr (inr (inl h))
      stmt_refers n c base (statement.sync m e body) (inr (inr (inr h))) = inr (inr (inr (stmts_refer n c (begins m base) body h)))
      stmt_refers n c base (statement.empty m) h = absurd h

      else_refers : (n : ℕ) (c : Context) (base : ℕ) (x : statement.Else Span) → InElse begins (OnExp rows at d) (OnStmt rows at d) (OnList rows at d) n c base x → InElse begins (OnExp rows at d) (HasStmt at d) (OnList rows at d) n c base x
      else_refers n c base statement.no_else h = h
      else_refers n c base (statement.otherwise x) h = stmt_refers n c base x h

      pub stmts_refer : (n : ℕ) (c : Context) (base : ℕ) (xs : statement.Stmts Span) → InStmts begins (OnExp rows at d) (OnStmt rows at d) (OnList rows at d) n c base xs → HasIn at d n c base xs
      stmts_refer n c base statement.end h = h
      stmts_refer n c base (statement.more x xs) (inl h) = inl (stmt_refers n c base x h)
      stmts_refer n c base (statement.more x xs) (inr h) = inr (stmts_refer (n + locals_in x) (after n c x) base xs h)

-- ---- over tokens

-- what stands in front of a part, in text order
local_parts : {A B C : Type 0} → (A ⊎ B) ⊎ C → B ⊎ (A ⊎ C)
local_parts (inl (inl a)) = inr (inl a)
local_parts (inl (inr b)) = inl b
local_parts (inr c) = inr (inr c)

-- the name of a parameter in front of its type, and the others behind both
param_parts : {A B C D : Type 0} → (A ⊎ B) ⊎ (C ⊎ D) → (C ⊎ A) ⊎ (B ⊎ D)
param_parts (inl (inl a)) = inl (inr a)
param_parts (inl (inr b)) = inr (inl b)
param_parts (inr (inl c)) = inl (inl c)
param_parts (inr (inr d)) = inr (inr d)

module _ (all : Tokens) (rows : List Row) (fit : AreRows rows) (lookups : EachHasOne rows) (bounds : (c : Context) → IsBound Span rows c) where
  -- a word that declares one thing
  pub name_over : (base : ℕ) (w : tree.Word Span) (x : Decl) → Over all (Stands (word_layout w)) (λ at d. StandsAt begins base w at × (d ≡ x))
  name_over base w x = word_over all rows fit lookups bounds w (λ at d h. h.0) (λ at d e h k. h.1 ∙ sym k.1)

  mutual
    unfolding InStmt InElse InStmts

    stmt_over : (number : ℕ) (c : Context) (base : ℕ) (x : statement.Stmt Span) → Over all (Stands (stmt_layout x)) (λ at d. InStmt begins (OnExp rows at d) (HasStmt rows at d) (OnList rows at d) number c base x)
    stmt_over number c base (statement.local m f t w e) = turn
        (node (pass (join (type_over all rows fit lookups bounds c (begins m base) t) (join (name_over (begins m base) w (local_decl (local_key c number)))
        (pass (only (exp all rows fit lookups bounds (in_own c (local_of c number f t w)) value (begins m base) e)))))))
        (λ at d. local_parts)
    stmt_over number c base (statement.eval m e) = turn (node (only (exp all rows fit lookups bounds c role.statement (begins m base) e))) (λ at d. without nothing)
    stmt_over number c base (statement.branch m e x other) = turn
        (node (pass (pass (join (exp all rows fit lookups bounds c value (begins m base) e) (pass (join (stmt_over number c (begins m base) x) (only (else_over (number + locals_in x) c (begins m base) other))))))))
        (λ at d. without nothing)
    stmt_over number c base (statement.loop m e x) =
        turn (node (pass (pass (join (exp all rows fit lookups bounds c value (begins m base) e) (pass (only (stmt_over number c (begins m base) x))))))) (λ at d. without nothing)
    stmt_over number c base (statement.return m None) = empty (λ at d. neither nothing never)
    stmt_over number c base (statement.return m (Some e)) = turn (node (pass (only (exp all rows fit lookups bounds c value (begins m base) e)))) (λ at d. without nothing)
    stmt_over number c base (statement.block m body) = turn (node (pass (only (stmts_over number c (begins m base) body)))) (λ at d. behind_none nothing never)
    stmt_over number c base (statement.sync m e body) =
        turn (node (pass (pass (join (exp all rows fit lookups bounds c value (begins m base) e) (pass (pass (only (stmts_over number c (begins m base) body)))))))) (λ at d. around_none nothing never)
    stmt_over number c base (statement.empty m) = empty (λ at d. nothing)

    else_over : (number : ℕ) (c : Context) (base : ℕ) (x : statement.Else Span) → Over all (Stands (else_layout x)) (λ at d. InElse begins (OnExp rows at d) (HasStmt rows at d) (OnList rows at d) number c base x)
    else_over number c base statement.no_else = empty (λ at d h. h)
    else_over number c base (statement.otherwise x) = pass (only (stmt_over number c base x))

    pub stmts_over : (number : ℕ) (c : Context) (base : ℕ) (xs : statement.Stmts Span) → Over all (Stands (stmts_layout xs)) (λ at d. HasIn rows at d number c base xs)
    stmts_over number c base statement.end = empty (λ at d h. h)
    stmts_over number c base (statement.more x xs) = join (stmt_over number c base x) (only (stmts_over (number + locals_in x) (after number c x) base xs))

  -- ---- parameters

  param_over : (k : MemberKey) (n : ℕ) (c : Context) (base : ℕ) (p : syntax.Param Span)
      → Over all (Stands (param_layout p)) (λ at d. TypeRefers begins rows c p.mark.from p.type at (one d) ⊎ (StandsAt begins (begins p.mark base) p.name at × (d ≡ local_decl (record { member = k; number = n }))))
  param_over k n c base p =
      node (pass (join (type_over all rows fit lookups bounds c p.mark.from p.type) (only (name_over (begins p.mark base) p.name (local_decl (record { member = k; number = n }))))))

  more_params_over : (k : MemberKey) (n : ℕ) (c : Context) (base : ℕ) (ps : List (syntax.Param Span)) → Over all (Stands (more_params_layout ps)) (HasParam rows k n c base ps)
  more_params_over k n c base [] = empty (λ at d. nothing)
  more_params_over k n c base (p ∷ ps) = turn (pass (join (param_over k n c base p) (only (more_params_over k (suc n) c base ps)))) (λ at d. param_parts)

  pub params_over : (k : MemberKey) (n : ℕ) (c : Context) (base : ℕ) (ps : List (syntax.Param Span)) → Over all (Stands (params_layout ps)) (HasParam rows k n c base ps)
  params_over k n c base [] = empty (λ at d. nothing)
  params_over k n c base (p ∷ ps) = turn (join (param_over k n c base p) (only (more_params_over k (suc n) c base ps))) (λ at d. param_parts)
