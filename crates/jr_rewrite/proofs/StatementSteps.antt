-- Steps of statements.
use Rattle.std.proofs.Common.{◌≡◌, inl, inr, ℕ, ◌+◌, Bool, true, false, List, [], ◌∷◌, ◌++◌, Some, None, refl, sym, subst, append_assoc}
use Rattle.jr_text.specs.declared.spans.Span.{Span}
use Rattle.jr_lex.specs.declared.items.Symbol.TheVariants.{OpenParen, CloseParen, OpenBrace, CloseBrace, Semicolon, Equals}
use Rattle.jr_lex.specs.declared.items.Keyword.TheVariants.{If}
use Rattle.jr_ast.specs.Tree as tree
use Rattle.jr_ast.specs.StatementTree as statement
use Rattle.jr_grammar.specs.Tokens.{Token, word, keyword, symbol}
use Rattle.jr_grammar.specs.Spelling.{toks, type_toks}
use Rattle.jr_grammar.specs.StatementSpelling.{final_toks, stmt_toks, else_toks, stmts_toks}
use Rattle.jr_grammar.specs.Layout.{spans_from}
use Rattle.jr_grammar.specs.ExpressionLayout.{type_layout, exp_layout}
use Rattle.jr_grammar.specs.StatementLayout.{final_layout, stmt_layout, else_layout, stmts_layout}
use Rattle.jr_grammar.specs.Stands.{Tokens, IsAlone, InOrder, IsNode, Stands}
use Rattle.jr_table.specs.Decls.{Decl, local_decl}
use Rattle.jr_table.specs.Binding.{Role, value}
use Rattle.jr_table.specs.Binding as role
use Rattle.jr_table.specs.Context.{Context, local_of, local_key, in_own, after, locals_in}
use Rattle.jr_rewrite.specs.Respellings.{Change, text_of}
use Rattle.jr_rewrite.specs.Rewritten.{Rewritten, word_changes}
use Rattle.jr_rewrite.specs.Suitable.{AreSuitable}
use Rattle.jr_rewrite.specs.Spots.{Asks, level, a_statement, Spotted, nowhere, spotted, OrList}
use Rattle.jr_rewrite.specs.Rewrites.{Choosing, DeclaredOut, RewritesType, TransformsPart, TransformsStmt, TransformsElse, TransformsStmts, TransformsList}
use Rattle.jr_rewrite.specs.Woven.{Weaving}
use Rattle.jr_rewrite.specs.SuitableSpots.{SpotsSuit}
use Rattle.jr_rewrite.proofs.Steps.{Stepped, loosened}
use Rattle.jr_rewrite.proofs.Stepping.{list_woven, stepped_as, none_steps, both_steps, token_steps, closing_steps, last_steps, end_steps}
use Rattle.jr_rewrite.proofs.ExpressionSteps.{alone_word_steps, type_in, part_steps}

module _ {A : Type 0} (tells : A → ℕ → Span) where
  pub final_steps : {W : Weaving} (base : ℕ) (f : Bool) (ps : Tokens) → Stands (spans_from tells base (final_layout f)) ps → Stepped W true ps [] (final_toks f)
  final_steps base true ps h = end_steps ps h
  final_steps base false ps h = none_steps ps h

  -- what a spot makes of a list, or the other way
  or_list : (S : Spotted A) (C : Choosing A) (W : Weaving) → SpotsSuit tells C W S → {N : Type 0} (n : ℕ) (c : Context) (base : ℕ) (xs : statement.Stmts A) (o : Rewritten (statement.Stmts A)) (ps : Tokens)
      → OrList S n c base xs o N → Stands (spans_from tells base (stmts_layout xs)) ps → (N → Stepped W true ps o.changes (stmts_toks o.tree)) → Stepped W true ps o.changes (stmts_toks o.tree)
  or_list nowhere C W suit n c base xs o ps w h go = go w
  or_list (spotted s) C W suit n c base xs o ps w h go =
      elim w [ inl x ↦ go x.1 | inr x ↦ list_woven ps o.changes (stmts_toks o.tree) (suit.list n c base xs o ps x h) ]

  module _ (C : Choosing A) (S : Spotted A) (W : Weaving) (fit : AreSuitable C) (suit : SpotsSuit tells C W S) where
    in_list : {N : Type 0} (n : ℕ) (c : Context) (base : ℕ) (xs : statement.Stmts A) (o : Rewritten (statement.Stmts A)) (ps : Tokens) → OrList S n c base xs o N
        → Stands (spans_from tells base (stmts_layout xs)) ps → (N → Stepped W true ps o.changes (stmts_toks o.tree)) → Stepped W true ps o.changes (stmts_toks o.tree)
    in_list n c base xs o ps w h go = or_list S C W suit n c base xs o ps w h go

    pub in_value : (k : Asks) (c : Context) (r : Role) (base : ℕ) (e : tree.Exp A) (o : Rewritten (tree.Exp A)) (ps : Tokens) → TransformsPart tells C S k c r base e o
        → Stands (spans_from tells base (exp_layout e)) ps → Stepped W true ps o.changes (toks o.tree)
    in_value k c r base e o ps w h = loosened ps o.changes (toks o.tree) (part_steps tells C S W fit suit k c r base e o ps w h)

    pub in_type : (c : Context) (base : ℕ) (t : tree.TypeName A) (o : Rewritten (tree.TypeName A)) (ps : Tokens) → RewritesType tells C c base t o
        → Stands (spans_from tells base (type_layout t)) ps → Stepped W true ps o.changes (type_toks o.tree)
    in_type c base t o ps w h = loosened ps o.changes (type_toks o.tree) (type_in tells C S W fit suit c base t o ps w h)

    -- changes of three parts
    pub three : (ps : Tokens) (cs ds es : List Change) (ts : List Token) → Stepped W true ps (cs ++ (ds ++ es)) ts → Stepped W true ps ((cs ++ ds) ++ es) ts
    three ps cs ds es ts s = stepped_as ps ps (cs ++ (ds ++ es)) ((cs ++ ds) ++ es) ts ts refl (sym (append_assoc cs ds es)) refl s

    -- the span of a word, and how it stands
    abbrev Word : Span → List ℕ → Tokens → Type 0
    Word s t ps = IsNode s (InOrder (IsAlone (word t)) (λ qs. qs ≡ [])) ps

    pub declared_steps : (d : Decl) (at : ℕ) (w : tree.Word A) (o : Rewritten (tree.Word A)) (ps : Tokens) → DeclaredOut tells C d at w o → Word (tells w.mark at) w.text ps
        → Stepped W true ps o.changes (word o.tree.text ∷ [])
    declared_steps d at w o ps k h = subst (λ z. Stepped W true ps z.changes (word z.tree.text ∷ [])) (sym k.2) (loosened ps (word_changes k.0 (tells w.mark at)) (word (text_of k.0 w.text) ∷ []) (alone_word_steps tells C S W fit suit at w k.0 ps (fit.declared d w k.0 k.1) h))

    mutual
      unfolding TransformsStmt TransformsElse TransformsStmts

      pub stmt_steps : (n : ℕ) (c : Context) (base : ℕ) (s : statement.Stmt A) (o : Rewritten (statement.Stmt A)) (ps : Tokens) → TransformsStmt tells C S n c base s o
          → Stands (spans_from tells base (stmt_layout s)) ps → Stepped W true ps o.changes (stmt_toks o.tree)
      stmt_steps n c base (statement.local m f t v e) o ps w h =
          let at : ℕ = (tells m base).from in
          let rest : List Token = toks w.2.tree ++ (symbol Semicolon ∷ []) in
          let name : List Token = word w.1.tree.text ∷ symbol Equals ∷ rest in
          subst (λ z. Stepped W true ps z.changes (stmt_toks z.tree)) (sym w.6)
          (three ps w.0.changes w.1.changes w.2.changes (final_toks f ++ (type_toks w.0.tree ++ name))
          (both_steps ps [] (w.0.changes ++ (w.1.changes ++ w.2.changes)) (final_toks f) (type_toks w.0.tree ++ name) h.parts (final_steps at f)
          (λ qs k. both_steps qs w.0.changes (w.1.changes ++ w.2.changes) (type_toks w.0.tree) name k (λ rs l. in_type c at t w.0 rs w.3 l)
          (λ rs l. both_steps rs w.1.changes w.2.changes (word w.1.tree.text ∷ []) (symbol Equals ∷ rest) l
          (λ xs i. declared_steps (local_decl (local_key c n)) at v w.1 xs w.4 i)
          (λ xs i. token_steps xs w.2.changes rest i
          (λ ys j. closing_steps ys w.2.changes (toks w.2.tree) (symbol Semicolon ∷ []) j (λ zs g. in_value (level 0) (in_own c (local_of c n f t v)) value at e w.2 zs w.5 g) end_steps))))))
      stmt_steps n c base (statement.eval m e) o ps w h =
          subst (λ z. Stepped W true ps z.changes (stmt_toks z.tree)) (sym w.2)
          (closing_steps ps w.0.changes (toks w.0.tree) (symbol Semicolon ∷ []) h.parts (λ qs k. in_value a_statement c role.statement (tells m base).from e w.0 qs w.1 k) end_steps)
      stmt_steps n c base (statement.branch m e x other) o ps w h =
          let at : ℕ = (tells m base).from in
          let rest : List Token = symbol CloseParen ∷ (stmt_toks w.1.tree ++ else_toks w.2.tree) in
          subst (λ z. Stepped W true ps z.changes (stmt_toks z.tree)) (sym w.6)
          (three ps w.0.changes w.1.changes w.2.changes (keyword If ∷ symbol OpenParen ∷ (toks w.0.tree ++ rest))
          (token_steps ps (w.0.changes ++ (w.1.changes ++ w.2.changes)) (symbol OpenParen ∷ (toks w.0.tree ++ rest)) h.parts
          (λ qs k. token_steps qs (w.0.changes ++ (w.1.changes ++ w.2.changes)) (toks w.0.tree ++ rest) k
          (λ rs l. both_steps rs w.0.changes (w.1.changes ++ w.2.changes) (toks w.0.tree) rest l (λ xs i. in_value (level 0) c value at e w.0 xs w.3 i)
          (λ xs i. token_steps xs (w.1.changes ++ w.2.changes) (stmt_toks w.1.tree ++ else_toks w.2.tree) i
          (λ ys j. both_steps ys w.1.changes w.2.changes (stmt_toks w.1.tree) (else_toks w.2.tree) j (λ zs g. stmt_steps n c at x w.1 zs w.4 g)
          (λ zs g. last_steps zs w.2.changes (else_toks w.2.tree) g (λ us b. else_steps (n + locals_in x) c at other w.2 us w.5 b))))))))
      stmt_steps n c base (statement.loop m e x) o ps w h =
          let at : ℕ = (tells m base).from in
          let rest : List Token = symbol CloseParen ∷ stmt_toks w.1.tree in
          subst (λ z. Stepped W true ps z.changes (stmt_toks z.tree)) (sym w.4)
          (token_steps ps (w.0.changes ++ w.1.changes) (symbol OpenParen ∷ (toks w.0.tree ++ rest)) h.parts
          (λ qs k. token_steps qs (w.0.changes ++ w.1.changes) (toks w.0.tree ++ rest) k
          (λ rs l. both_steps rs w.0.changes w.1.changes (toks w.0.tree) rest l (λ xs i. in_value (level 0) c value at e w.0 xs w.2 i)
          (λ xs i. token_steps xs w.1.changes (stmt_toks w.1.tree) i (λ ys j. last_steps ys w.1.changes (stmt_toks w.1.tree) j (λ zs g. stmt_steps n c at x w.1 zs w.3 g))))))
      stmt_steps n c base (statement.return m None) o ps w h =
          subst (λ z. Stepped W true ps z.changes (stmt_toks z.tree)) (sym w.2)
          (subst (λ z. Stepped W true ps z.changes (stmt_toks (statement.return m z.tree))) (sym w.1) (token_steps ps [] (symbol Semicolon ∷ []) h.parts end_steps))
      stmt_steps n c base (statement.return m (Some e)) o ps w h =
          let p = w.1.0 in
          subst (λ z. Stepped W true ps z.changes (stmt_toks z.tree)) (sym w.2)
          (subst (λ z. Stepped W true ps z.changes (stmt_toks (statement.return m z.tree))) (sym w.1.2)
          (token_steps ps p.changes (toks p.tree ++ (symbol Semicolon ∷ [])) h.parts
          (λ qs k. closing_steps qs p.changes (toks p.tree) (symbol Semicolon ∷ []) k (λ rs l. in_value (level 0) c value (tells m base).from e p rs w.1.1 l) end_steps)))
      stmt_steps n c base (statement.block m body) o ps w h =
          subst (λ z. Stepped W true ps z.changes (stmt_toks z.tree)) (sym w.2)
          (token_steps ps w.0.changes (stmts_toks w.0.tree ++ (symbol CloseBrace ∷ [])) h.parts
          (λ qs k. closing_steps qs w.0.changes (stmts_toks w.0.tree) (symbol CloseBrace ∷ []) k (λ rs l. in_list n c (tells m base).from body w.0 rs w.1 l (λ x0. stmts_steps n c (tells m base).from body w.0 rs x0 l)) end_steps))
      stmt_steps n c base (statement.sync m e body) o ps w h =
          let at : ℕ = (tells m base).from in
          let inner : List Token = stmts_toks w.1.tree ++ (symbol CloseBrace ∷ []) in
          let rest : List Token = symbol CloseParen ∷ symbol OpenBrace ∷ inner in
          subst (λ z. Stepped W true ps z.changes (stmt_toks z.tree)) (sym w.4)
          (token_steps ps (w.0.changes ++ w.1.changes) (symbol OpenParen ∷ (toks w.0.tree ++ rest)) h.parts
          (λ qs k. token_steps qs (w.0.changes ++ w.1.changes) (toks w.0.tree ++ rest) k
          (λ rs l. both_steps rs w.0.changes w.1.changes (toks w.0.tree) rest l (λ xs i. in_value (level 0) c value at e w.0 xs w.2 i)
          (λ xs i. token_steps xs w.1.changes (symbol OpenBrace ∷ inner) i
          (λ ys j. token_steps ys w.1.changes inner j
          (λ zs g. closing_steps zs w.1.changes (stmts_toks w.1.tree) (symbol CloseBrace ∷ []) g (λ us b. in_list n c at body w.1 us w.3 b (λ x0. stmts_steps n c at body w.1 us x0 b)) end_steps))))))
      stmt_steps n c base (statement.empty m) o ps w h = subst (λ z. Stepped W true ps z.changes (stmt_toks z.tree)) (sym w) (end_steps ps h.parts)

      else_steps : (n : ℕ) (c : Context) (base : ℕ) (s : statement.Else A) (o : Rewritten (statement.Else A)) (ps : Tokens) → TransformsElse tells C S n c base s o
          → Stands (spans_from tells base (else_layout s)) ps → Stepped W true ps o.changes (else_toks o.tree)
      else_steps n c base statement.no_else o ps w h = subst (λ z. Stepped W true ps z.changes (else_toks z.tree)) (sym w) (none_steps ps h)
      else_steps n c base (statement.otherwise x) o ps w h =
          subst (λ z. Stepped W true ps z.changes (else_toks z.tree)) (sym w.2)
          (token_steps ps w.0.changes (stmt_toks w.0.tree) h (λ qs k. last_steps qs w.0.changes (stmt_toks w.0.tree) k (λ rs l. stmt_steps n c base x w.0 rs w.1 l)))

      pub stmts_steps : (n : ℕ) (c : Context) (base : ℕ) (s : statement.Stmts A) (o : Rewritten (statement.Stmts A)) (ps : Tokens) → TransformsStmts tells C S n c base s o
          → Stands (spans_from tells base (stmts_layout s)) ps → Stepped W true ps o.changes (stmts_toks o.tree)
      stmts_steps n c base statement.end o ps w h = subst (λ z. Stepped W true ps z.changes (stmts_toks z.tree)) (sym w) (none_steps ps h)
      stmts_steps n c base (statement.more x xs) o ps w h =
          subst (λ z. Stepped W true ps z.changes (stmts_toks z.tree)) (sym w.4)
          (both_steps ps w.0.changes w.1.changes (stmt_toks w.0.tree) (stmts_toks w.1.tree) h (λ qs k. stmt_steps n c base x w.0 qs w.2 k)
          (λ qs k. last_steps qs w.1.changes (stmts_toks w.1.tree) k (λ rs l. in_list (n + locals_in x) (after n c x) base xs w.1 rs w.3 l (λ x0. stmts_steps (n + locals_in x) (after n c x) base xs w.1 rs x0 l))))

    pub list_steps : (n : ℕ) (c : Context) (base : ℕ) (xs : statement.Stmts A) (o : Rewritten (statement.Stmts A)) (ps : Tokens) → TransformsList tells C S n c base xs o
        → Stands (spans_from tells base (stmts_layout xs)) ps → Stepped W true ps o.changes (stmts_toks o.tree)
    list_steps n c base xs o ps w h = in_list n c base xs o ps w h (λ x. stmts_steps n c base xs o ps x h)
