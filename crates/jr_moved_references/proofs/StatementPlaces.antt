-- The references of statements that are rewritten by a rename.
use Rattle.std.proofs.Common.{◌≡◌, ℕ, ◌+◌, Bool, true, false, List, [], ◌∷◌, ◌++◌, Option, Some, None, refl, sym, ap, ◌∙◌, subst, inl, inr}
use Rattle.std.specs.Prelude.{◌⊎◌}
use Rattle.std.proofs.lemmas.List.{append_assoc}
use Rattle.jr_text.specs.declared.spans.Span.{Span}
use Rattle.jr_lex.specs.declared.items.Keyword.TheVariants.{If, Else as ElseWord, While, Return, Synchronized, Final}
use Rattle.jr_lex.specs.declared.items.Symbol.TheVariants.{OpenParen, CloseParen, OpenBrace, CloseBrace, Equals, Semicolon}
use Rattle.jr_ast.specs.Tree as tree
use Rattle.jr_ast.specs.StatementTree as statement
use Rattle.jr_ast.specs.Remarked.{map_stmt, map_else, map_stmts}
use Rattle.jr_grammar.specs.Bare.{Bare, bare, bare_word, bare_type, bare_stmt, bare_stmts}
use Rattle.jr_grammar.specs.Tokens.{Token, word, keyword, symbol, kinds}
use Rattle.jr_grammar.specs.Layout.{itself}
use Rattle.jr_grammar.specs.ExpressionLayout.{word_layout, type_layout, exp_layout}
use Rattle.jr_grammar.specs.StatementLayout.{final_layout, stmt_layout, else_layout, stmts_layout}
use Rattle.jr_grammar.specs.Stands.{Tokens, Stands}
use Rattle.jr_table.specs.Decls.{Decl, local_decl}
use Rattle.jr_table.specs.Rows.{Row}
use Rattle.jr_table.specs.Found.{one}
use Rattle.jr_table.specs.Context.{Context, scope_of, local_of, local_key, in_own, after, locals_in}
use Rattle.jr_table.specs.Binding.{Role, value, TypeRefers, BindsItself}
use Rattle.jr_table.specs.Binding as role
use Rattle.jr_table.specs.Somewhere.{InMaybe, InStmt, InElse, InStmts}
use Rattle.jr_table.specs.StatementRules.{StmtBindsItself}
use Rattle.jr_program_laws.specs.FileParts.{begins}
use Rattle.jr_rewrite.specs.Respellings.{Choice, text_of, Change}
use Rattle.jr_rewrite.specs.Rewritten.{Rewritten, plain, within, joined, word_to, word_out}
use Rattle.jr_rewrite.specs.Suitable.{AreSuitable}
use Rattle.jr_rewrite.specs.Spots.{nowhere}
use Rattle.jr_rewrite.specs.Rewrites.{Choosing, DeclaredOut, RewritesExp, RewritesType, RewritesMaybe, RewritesStmt, RewritesElse, RewritesStmts, TransformsStmt, TransformsElse, TransformsStmts}
use Rattle.jr_rewrite.proofs.BareForms.{bare_else, bare_maybe, none_back, some_back, local_back_stmt, eval_back_stmt, branch_back_stmt, loop_back_stmt, return_back_stmt, block_back_stmt, sync_back_stmt, empty_back_stmt, no_else_back, otherwise_back, end_back_stmts, more_back_stmts}
use Rattle.jr_rewrite.proofs.StatementSteps.{declared_steps}
use Rattle.jr_rewrite.proofs.Steps.{Stepped}
use Rattle.jr_rewrite.proofs.Stepping.{stepped_new}
use Rattle.jr_images.specs.Images.{Renaming, decl_to, rows_to}
use Rattle.jr_images.specs.Regions.{region_of}
use Rattle.jr_images.specs.RenameLaws.{IsFair}
use Rattle.jr_images.specs.Standing.{ContextTo}
use Rattle.jr_images.proofs.Chosen.{renamed_text, left_none, right_none, lost_none}
use Rattle.jr_images.proofs.Types.{written_kept}
use Rattle.jr_images.proofs.World.{World}
use Rattle.jr_kept_references.specs.InRegions.{name_in}
use Rattle.jr_kept_references.proofs.RegionWorlds.{RegionWorld}
use Rattle.jr_kept_references.proofs.RegionTypes.{written_kept as region_written}
use Rattle.jr_kept_references.proofs.Renamed.{world_of}
use Rattle.jr_kept_references.proofs.RenamedPlaces.{renamed_stand}
use Rattle.jr_moved_tokens.proofs.StepRuns.{never}
use Rattle.jr_moved_references.proofs.Carrying.{Carries, Nothing, AreNone, WordStands, idle, nothing, a_token, alike, turn, node, both, pass, only, last, loose, word_kinds}
use Rattle.jr_moved_references.proofs.Starting.{Within}
use Rattle.jr_moved_references.proofs.SameContexts.{local_bare, after_bare, locals_bare}
use Rattle.jr_moved_references.proofs.KeptAt.{spelled}
use Rattle.jr_moved_references.proofs.KeptNow.{kept_at, types_at}
use Rattle.jr_moved_references.proofs.TypePlaces.{type_carries}
use Rattle.jr_moved_references.proofs.ExpressionPlaces.{exp_carries}

module _ (rows : List Row) (g : Renaming) (super_at : Context → ℕ) (fit : AreSuitable (spelled rows g super_at)) (fair : IsFair rows g) (worlds : (c d : Context) → ContextTo g rows c d → World Span rows g c d) (x : Decl) where
  abbrev pub C : Choosing Span
  C = spelled rows g super_at

  -- places of the two programs that stand for one another, where the next locals have these numbers
  abbrev pub Here : (n z : ℕ) → Context → Context → Type 0
  Here n z c d = (n ≡ z) × ContextTo g rows c d

  abbrev pub WasExp : Context → Role → (base : ℕ) → tree.Exp Span → ℕ → Type 0
  WasExp c r b e at = Within rows c x r b e at

  abbrev pub IsExp : Context → Role → (base : ℕ) → tree.Exp Span → ℕ → Type 0
  IsExp d r b e at = Within (rows_to g rows) d (decl_to g x) r b e at

  abbrev pub WasMaybe : Context → (base : ℕ) → Option (tree.Exp Span) → ℕ → Type 0
  WasMaybe c b e at = InMaybe begins (λ c r b e. BindsItself begins rows c r b e at x) (λ n c b s. StmtBindsItself begins rows n c b s at x) (λ b ss. ⊥) c b e

  abbrev pub IsMaybe : Context → (base : ℕ) → Option (tree.Exp Span) → ℕ → Type 0
  IsMaybe d b e at = InMaybe begins (λ c r b e. BindsItself begins (rows_to g rows) c r b e at (decl_to g x)) (λ n c b s. StmtBindsItself begins (rows_to g rows) n c b s at (decl_to g x)) (λ b ss. ⊥) d b e

  abbrev pub WasStmt : ℕ → Context → (base : ℕ) → statement.Stmt Span → ℕ → Type 0
  WasStmt n c b s at = InStmt begins (λ c r b e. BindsItself begins rows c r b e at x) (λ n c b s. StmtBindsItself begins rows n c b s at x) (λ b ss. ⊥) n c b s

  abbrev pub IsStmt : ℕ → Context → (base : ℕ) → statement.Stmt Span → ℕ → Type 0
  IsStmt n c b s at = InStmt begins (λ c r b e. BindsItself begins (rows_to g rows) c r b e at (decl_to g x)) (λ n c b s. StmtBindsItself begins (rows_to g rows) n c b s at (decl_to g x)) (λ b ss. ⊥) n c b s

  abbrev pub WasElse : ℕ → Context → (base : ℕ) → statement.Else Span → ℕ → Type 0
  WasElse n c b s at = InElse begins (λ c r b e. BindsItself begins rows c r b e at x) (λ n c b s. StmtBindsItself begins rows n c b s at x) (λ b ss. ⊥) n c b s

  abbrev pub IsElse : ℕ → Context → (base : ℕ) → statement.Else Span → ℕ → Type 0
  IsElse n c b s at = InElse begins (λ c r b e. BindsItself begins (rows_to g rows) c r b e at (decl_to g x)) (λ n c b s. StmtBindsItself begins (rows_to g rows) n c b s at (decl_to g x)) (λ b ss. ⊥) n c b s

  abbrev pub WasStmts : ℕ → Context → (base : ℕ) → statement.Stmts Span → ℕ → Type 0
  WasStmts n c b s at = InStmts begins (λ c r b e. BindsItself begins rows c r b e at x) (λ n c b s. StmtBindsItself begins rows n c b s at x) (λ b ss. ⊥) n c b s

  abbrev pub IsStmts : ℕ → Context → (base : ℕ) → statement.Stmts Span → ℕ → Type 0
  IsStmts n c b s at = InStmts begins (λ c r b e. BindsItself begins (rows_to g rows) c r b e at (decl_to g x)) (λ n c b s. StmtBindsItself begins (rows_to g rows) n c b s at (decl_to g x)) (λ b ss. ⊥) n c b s

  -- ---- expressions, types and declared names

  pub exp_moves : (c d : Context) → ContextTo g rows c d → (r : Role) (b i : ℕ) (e y : tree.Exp Span) (o : Rewritten (tree.Exp Span)) → RewritesExp itself C c r b e o → o.losses ≡ [] → bare y ≡ bare o.tree
      → Carries true (Stands (exp_layout e)) (Stands (exp_layout y)) o.changes (WasExp c r b e) (IsExp d r i y)
  exp_moves c d at r b i e y o made none eq = loose (exp_carries rows g super_at fit x c d (kept_at rows g super_at fair c d at (worlds c d at)) (type_carries rows g super_at fit x c d (types_at rows g super_at fair c d at (worlds c d at))) r b i e y o made none eq)

  pub type_moves : (c d : Context) → ContextTo g rows c d → (b i : ℕ) (t u : tree.TypeName Span) (o : Rewritten (tree.TypeName Span)) → RewritesType itself C c b t o → o.losses ≡ [] → bare_type u ≡ bare_type o.tree
      → Carries true (Stands (type_layout t)) (Stands (type_layout u)) o.changes (λ at. TypeRefers begins rows c b t at (one x)) (λ to. TypeRefers begins (rows_to g rows) d i u to (one (decl_to g x)))
  type_moves c d at b i t u o made none eq = loose (type_carries rows g super_at fit x c d (types_at rows g super_at fair c d at (worlds c d at)) b i t u o made none eq)

  pub declared_moves : (k : Decl) (b : ℕ) (w v : tree.Word Span) (o : Rewritten (tree.Word Span)) → DeclaredOut itself C k b w o → bare_word v ≡ bare_word o.tree → Carries true (Stands (word_layout w)) (Stands (word_layout v)) o.changes Nothing Nothing
  declared_moves k b w v o made eq =
      idle (λ ps ps' l n. stepped_new ps o.changes (word o.tree.text ∷ []) (kinds ps') (sym (word_kinds v.mark v.text ps' n ∙ ap (λ (z : tree.Word Bare). word z.text ∷ []) eq)) (declared_steps itself C nowhere never fit tt k b w o ps made l)) (λ at o. o)

  pub final_moves : (f : Bool) → Carries true (Stands (final_layout f)) (Stands (final_layout f)) [] Nothing Nothing
  final_moves true = last (a_token (keyword Final))
  final_moves false = nothing

  -- the same of a result that is equal
  pub moved : {L L' : Tokens → Type 0} {P N : ℕ → Type 0} {T : Type 0} (o p : Rewritten T) → o ≡ p → Carries true L L' p.changes P N → Carries true L L' o.changes P N
  moved {L = L} {L' = L'} {P = P} {N = N} o p is h = subst (λ z. Carries true L L' z.changes P N) (sym is) h

  -- in what is known of a declared local
  initialized : (n z : ℕ) (c d : Context) → Here n z c d → (m : Span) (f : Bool) (t u : tree.TypeName Span) (w v : tree.Word Span) (e : tree.Exp Span) (b : ℕ) (p : Rewritten (tree.TypeName Span)) (q : Rewritten (tree.Word Span)) → RewritesType itself C c b t p → p.losses ≡ []
      → DeclaredOut itself C (local_decl (local_key c n)) b w q → bare_type u ≡ bare_type p.tree → bare_word v ≡ bare_word q.tree → ContextTo g rows (in_own c (local_of c n f t w)) (in_own d (local_of d z f u v))
  initialized n z c d at m f t u w v e b p q types none (h, declared, is) e1 e2 =
      let world = world_of rows g c d at.1 fair (worlds c d at.1) in
      let goes = region_written itself rows (region_of rows g) c d world super_at b t p types none in
      let named = ap (λ (y : Choice). text_of y w.text) declared ∙ renamed_text w.text (name_in {A = Span} (region_of rows g) (local_decl (local_key c n)) w.text) in
      let planned = (renamed_stand itself rows g super_at worlds).in_initializer n z c d m f t p.tree w (word_to h w) e at goes.means named in
      let words : bare_word v ≡ bare_word (word_to h w) = e2 ∙ ap (λ (y : Rewritten (tree.Word Span)). bare_word y.tree) is in
      subst (λ l. ContextTo g rows (in_own c (local_of c n f t w)) (in_own d l)) (sym (local_bare d z f u p.tree v (word_to h w) e1 words)) planned

  -- behind a statement
  behind : (n z : ℕ) (c d : Context) → Here n z c d → (b : ℕ) (s y : statement.Stmt Span) (ss : statement.Stmts Span) (q : Rewritten (statement.Stmt Span)) → RewritesStmt itself C n c b s q → q.losses ≡ [] → bare_stmt y ≡ bare_stmt q.tree → Here (n + locals_in s) (z + locals_in y) (after n c s) (after z d y)
  behind n z c d at b s y ss q made none eq =
      let planned = (renamed_stand itself rows g super_at worlds).behind n z c d b s ss q at tt (made, none) in
      let count : locals_in q.tree ≡ locals_in y = sym (locals_bare y q.tree eq) in
      (planned.0 ∙ ap (λ k. z + k) count, subst (λ k. ContextTo g rows (after n c s) k) (sym (after_bare z d y q.tree eq)) planned.1)

  -- ---- statements

  pub maybe_moves : (c d : Context) → ContextTo g rows c d → (b i : ℕ) (e y : tree.Exp Span) (o : Rewritten (Option (tree.Exp Span))) (p : Rewritten (tree.Exp Span)) → RewritesExp itself C c value b e p → o ≡ within (λ (z : tree.Exp Span). Some z) p → o.losses ≡ [] → bare y ≡ bare p.tree
      → Carries true (Stands (exp_layout e)) (Stands (exp_layout y)) o.changes (WasExp c value b e) (IsExp d value i y)
  maybe_moves c d at b i e y o p made is none eq = moved o (within (λ (z : tree.Exp Span). Some z) p) is (exp_moves c d at value b i e y p made (lost_none o (within (λ (z : tree.Exp Span). Some z) p) is none) eq)

  abbrev Stmt : (n z : ℕ) → (c d : Context) → (b i : ℕ) → (s y : statement.Stmt Span) → List Change → Type 0
  Stmt n z c d b i s y cs = Carries true (Stands (stmt_layout s)) (Stands (stmt_layout y)) cs (WasStmt n c b s) (IsStmt z d i y)

  as_stmt : (n z : ℕ) (c d : Context) (b i : ℕ) (s y u : statement.Stmt Span) (cs : List Change) → y ≡ u → Stmt n z c d b i s u cs → Stmt n z c d b i s y cs
  as_stmt n z c d b i s y u cs is h = subst (λ (v : statement.Stmt Span). Stmt n z c d b i s v cs) (sym is) h

  mutual
    unfolding TransformsStmt TransformsElse TransformsStmts InStmt InElse InStmts map_stmt map_else map_stmts

    pub stmt_moves : (n z : ℕ) (c d : Context) → Here n z c d → (b i : ℕ) (s y : statement.Stmt Span) (o : Rewritten (statement.Stmt Span)) → RewritesStmt itself C n c b s o → o.losses ≡ [] → bare_stmt y ≡ bare_stmt o.tree → Stmt n z c d b i s y o.changes
    stmt_moves n z c d at b i (statement.local m f t w e) y o (p, v, q, types, declared, inner, is) none eq =
        let out : Rewritten (statement.Stmt Span) = joined (λ (u : tree.TypeName Span × tree.Word Span) a. statement.local m f u.0 u.1 a) (joined (λ u a. (u, a)) p v) q in
        let all = lost_none o out is none in
        let k = local_back_stmt y f (bare_type p.tree) (bare_word v.tree) (bare q.tree) (eq ∙ ap (λ (u : Rewritten (statement.Stmt Span)). bare_stmt u.tree) is) in
        let types_none : p.losses ≡ [] = left_none p.losses v.losses (left_none (p.losses ++ v.losses) q.losses all) in
        let own : Context = in_own c (local_of c n f t w) in
        let there : Context = in_own d (local_of d z f k.1 k.2) in
        let inside = initialized n z c d at m f t k.1 w k.2 e m.from p v types types_none declared k.5 k.6 in
        moved o out is (as_stmt n z c d b i (statement.local m f t w e) y (statement.local k.0 f k.1 k.2 k.3) out.changes k.4
        (node (alike (p.changes ++ (v.changes ++ q.changes)) out.changes (sym (append_assoc p.changes v.changes q.changes)) (λ to a. a) (λ to a. elim a [ inl l ↦ inl l | inr l ↦ elim l [ inl none ↦ absurd none | inr r ↦ inr r ] ])
        (pass (final_moves f) (alike (p.changes ++ (v.changes ++ q.changes)) (p.changes ++ (v.changes ++ q.changes)) refl (λ to a. elim a [ inl l ↦ inl l | inr l ↦ inr (inr l) ]) (λ to a. a)
        (both (type_moves c d at.1 m.from k.0.from t k.1 p types types_none k.5)
        (both (declared_moves (local_decl (local_key c n)) m.from w k.2 v declared k.6)
        (pass (a_token (symbol Equals)) (only (exp_moves own there inside value m.from k.0.from e k.3 q inner (right_none (p.losses ++ v.losses) q.losses all) k.7) (last (a_token (symbol Semicolon))))))))))))
    stmt_moves n z c d at b i (statement.eval m e) y o (p, inner, is) none eq =
        let out : Rewritten (statement.Stmt Span) = within (λ a. statement.eval m a) p in
        let k = eval_back_stmt y (bare p.tree) (eq ∙ ap (λ (u : Rewritten (statement.Stmt Span)). bare_stmt u.tree) is) in
        moved o out is (as_stmt n z c d b i (statement.eval m e) y (statement.eval k.0 k.1) p.changes k.2
        (node (alike p.changes p.changes refl (λ to a. elim a [ inl l ↦ absurd l | inr r ↦ r ]) (λ to a. inr a)
        (only (exp_moves c d at.1 role.statement m.from k.0.from e k.1 p inner (lost_none o out is none) k.3) (last (a_token (symbol Semicolon)))))))
    stmt_moves n z c d at b i (statement.branch m e s other) y o (p, q, r, inner, one_side, other_side, is) none eq =
        let out : Rewritten (statement.Stmt Span) = joined (λ (u : tree.Exp Span × statement.Stmt Span) v. statement.branch m u.0 u.1 v) (joined (λ u v. (u, v)) p q) r in
        let all = lost_none o out is none in
        let front = left_none (p.losses ++ q.losses) r.losses all in
        let q_none = right_none p.losses q.losses front in
        let k = branch_back_stmt y (bare p.tree) (bare_stmt q.tree) (bare_else r.tree) (eq ∙ ap (λ (u : Rewritten (statement.Stmt Span)). bare_stmt u.tree) is) in
        let count : n + locals_in s ≡ z + locals_in k.2 = (behind n z c d at m.from s k.2 statement.end q one_side q_none k.6).0 in
        moved o out is (as_stmt n z c d b i (statement.branch m e s other) y (statement.branch k.0 k.1 k.2 k.3) out.changes k.4
        (node (alike (p.changes ++ (q.changes ++ r.changes)) out.changes (sym (append_assoc p.changes q.changes r.changes)) (λ to a. elim a [ inl l ↦ absurd l | inr t ↦ t ]) (λ to a. inr a)
        (pass (a_token (keyword If)) (pass (a_token (symbol OpenParen)) (both (exp_moves c d at.1 value m.from k.0.from e k.1 p inner (left_none p.losses q.losses front) k.5)
        (pass (a_token (symbol CloseParen)) (both (stmt_moves n z c d at m.from k.0.from s k.2 q one_side q_none k.6)
        (last (else_moves (n + locals_in s) (z + locals_in k.2) c d (count, at.1) m.from k.0.from other k.3 r other_side (right_none (p.losses ++ q.losses) r.losses all) k.7))))))))))
    stmt_moves n z c d at b i (statement.loop m e s) y o (p, q, inner, body, is) none eq =
        let out : Rewritten (statement.Stmt Span) = joined (λ u v. statement.loop m u v) p q in
        let all = lost_none o out is none in
        let k = loop_back_stmt y (bare p.tree) (bare_stmt q.tree) (eq ∙ ap (λ (u : Rewritten (statement.Stmt Span)). bare_stmt u.tree) is) in
        moved o out is (as_stmt n z c d b i (statement.loop m e s) y (statement.loop k.0 k.1 k.2) out.changes k.3
        (node (alike (p.changes ++ q.changes) (p.changes ++ q.changes) refl (λ to a. elim a [ inl l ↦ absurd l | inr t ↦ t ]) (λ to a. inr a)
        (pass (a_token (keyword While)) (pass (a_token (symbol OpenParen)) (both (exp_moves c d at.1 value m.from k.0.from e k.1 p inner (left_none p.losses q.losses all) k.4)
        (pass (a_token (symbol CloseParen)) (last (stmt_moves n z c d at m.from k.0.from s k.2 q body (right_none p.losses q.losses all) k.5)))))))))
    stmt_moves n z c d at b i (statement.return m None) y o (p, inner, is) none eq =
        let out : Rewritten (statement.Stmt Span) = within (λ a. statement.return m a) p in
        let same_tree : p.tree ≡ None = ap (λ (u : Rewritten (Option (tree.Exp Span))). u.tree) inner in
        let k = return_back_stmt y (bare_maybe p.tree) (eq ∙ ap (λ (u : Rewritten (statement.Stmt Span)). bare_stmt u.tree) is) in
        let gone : k.1 ≡ None = none_back k.1 (k.3 ∙ ap bare_maybe same_tree) in
        moved o out is (moved p (plain None) inner
        (as_stmt n z c d b i (statement.return m None) y (statement.return k.0 None) [] (k.2 ∙ ap (λ (u : Option (tree.Exp Span)). statement.return k.0 u) gone)
        (node (alike [] [] refl (λ to a. elim a [ inl l ↦ absurd l | inr t ↦ absurd t ]) (λ to a. absurd a) (pass (a_token (keyword Return)) (last (a_token (symbol Semicolon))))))))
    stmt_moves n z c d at b i (statement.return m (Some e)) y o (p, (q, inner, within_is), is) none eq =
        let out : Rewritten (statement.Stmt Span) = within (λ a. statement.return m a) p in
        let same_tree : p.tree ≡ Some q.tree = ap (λ (u : Rewritten (Option (tree.Exp Span))). u.tree) within_is in
        let k = return_back_stmt y (bare_maybe p.tree) (eq ∙ ap (λ (u : Rewritten (statement.Stmt Span)). bare_stmt u.tree) is) in
        let some = some_back k.1 (bare q.tree) (k.3 ∙ ap bare_maybe same_tree) in
        moved o out is (as_stmt n z c d b i (statement.return m (Some e)) y (statement.return k.0 (Some some.0)) p.changes (k.2 ∙ ap (λ (u : Option (tree.Exp Span)). statement.return k.0 u) some.1)
        (node (alike p.changes p.changes refl (λ to a. elim a [ inl l ↦ absurd l | inr t ↦ t ]) (λ to a. inr a)
        (pass (a_token (keyword Return)) (only (maybe_moves c d at.1 m.from k.0.from e some.0 p q inner within_is (lost_none o out is none) some.2) (last (a_token (symbol Semicolon))))))))
    stmt_moves n z c d at b i (statement.block m body) y o (p, inner, is) none eq =
        let out : Rewritten (statement.Stmt Span) = within (λ a. statement.block m a) p in
        let k = block_back_stmt y (bare_stmts p.tree) (eq ∙ ap (λ (u : Rewritten (statement.Stmt Span)). bare_stmt u.tree) is) in
        moved o out is (as_stmt n z c d b i (statement.block m body) y (statement.block k.0 k.1) p.changes k.2
        (node (alike p.changes p.changes refl (λ to a. elim a [ inl l ↦ absurd l | inr t ↦ elim t [ inl l ↦ absurd l | inr t ↦ t ] ]) (λ to a. inr (inr a))
        (pass (a_token (symbol OpenBrace)) (only (stmts_moves n z c d at m.from k.0.from body k.1 p inner (lost_none o out is none) k.3) (last (a_token (symbol CloseBrace))))))))
    stmt_moves n z c d at b i (statement.sync m e body) y o (p, q, inner, rest, is) none eq =
        let out : Rewritten (statement.Stmt Span) = joined (λ u v. statement.sync m u v) p q in
        let all = lost_none o out is none in
        let k = sync_back_stmt y (bare p.tree) (bare_stmts q.tree) (eq ∙ ap (λ (u : Rewritten (statement.Stmt Span)). bare_stmt u.tree) is) in
        moved o out is (as_stmt n z c d b i (statement.sync m e body) y (statement.sync k.0 k.1 k.2) out.changes k.3
        (node (alike (p.changes ++ q.changes) (p.changes ++ q.changes) refl (λ to a. elim a [ inl l ↦ absurd l | inr t ↦ elim t [ inl l ↦ inl l | inr t ↦ elim t [ inl l ↦ absurd l | inr t ↦ inr t ] ] ]) (λ to a. elim a [ inl l ↦ inr (inl l) | inr t ↦ inr (inr (inr t)) ])
        (pass (a_token (keyword Synchronized)) (pass (a_token (symbol OpenParen)) (both (exp_moves c d at.1 value m.from k.0.from e k.1 p inner (left_none p.losses q.losses all) k.4)
        (pass (a_token (symbol CloseParen)) (pass (a_token (symbol OpenBrace)) (only (stmts_moves n z c d at m.from k.0.from body k.2 q rest (right_none p.losses q.losses all) k.5) (last (a_token (symbol CloseBrace))))))))))))
    stmt_moves n z c d at b i (statement.empty m) y o is none eq =
        let k = empty_back_stmt y (eq ∙ ap (λ (u : Rewritten (statement.Stmt Span)). bare_stmt u.tree) is) in
        moved o (plain (statement.empty m)) is (as_stmt n z c d b i (statement.empty m) y (statement.empty k.0) [] k.1 (node (last (a_token (symbol Semicolon)))))

    else_moves : (n z : ℕ) (c d : Context) → Here n z c d → (b i : ℕ) (s y : statement.Else Span) (o : Rewritten (statement.Else Span)) → RewritesElse itself C n c b s o → o.losses ≡ [] → bare_else y ≡ bare_else o.tree
        → Carries true (Stands (else_layout s)) (Stands (else_layout y)) o.changes (WasElse n c b s) (IsElse z d i y)
    else_moves n z c d at b i statement.no_else y o is none eq =
        let k = no_else_back y (eq ∙ ap (λ (u : Rewritten (statement.Else Span)). bare_else u.tree) is) in
        moved o (plain statement.no_else) is (subst (λ (u : statement.Else Span). Carries true (Stands (else_layout {A = Span} statement.no_else)) (Stands (else_layout u)) [] Nothing (IsElse z d i u)) (sym k) nothing)
    else_moves n z c d at b i (statement.otherwise s) y o (p, inner, is) none eq =
        let out : Rewritten (statement.Else Span) = within (λ u. statement.otherwise u) p in
        let k = otherwise_back y (bare_stmt p.tree) (eq ∙ ap (λ (u : Rewritten (statement.Else Span)). bare_else u.tree) is) in
        moved o out is (subst (λ (u : statement.Else Span). Carries true (Stands (else_layout (statement.otherwise s))) (Stands (else_layout u)) p.changes (WasStmt n c b s) (IsElse z d i u)) (sym k.1)
        (pass (a_token (keyword ElseWord)) (last (stmt_moves n z c d at b i s k.0 p inner (lost_none o out is none) k.2))))

    pub stmts_moves : (n z : ℕ) (c d : Context) → Here n z c d → (b i : ℕ) (ss ys : statement.Stmts Span) (o : Rewritten (statement.Stmts Span)) → RewritesStmts itself C n c b ss o → o.losses ≡ [] → bare_stmts ys ≡ bare_stmts o.tree
        → Carries true (Stands (stmts_layout ss)) (Stands (stmts_layout ys)) o.changes (WasStmts n c b ss) (IsStmts z d i ys)
    stmts_moves n z c d at b i statement.end ys o is none eq =
        let k = end_back_stmts ys (eq ∙ ap (λ (u : Rewritten (statement.Stmts Span)). bare_stmts u.tree) is) in
        moved o (plain statement.end) is (subst (λ (u : statement.Stmts Span). Carries true (Stands (stmts_layout {A = Span} statement.end)) (Stands (stmts_layout u)) [] Nothing (IsStmts z d i u)) (sym k) nothing)
    stmts_moves n z c d at b i (statement.more s ss) ys o (p, q, inner, rest, is) none eq =
        let out : Rewritten (statement.Stmts Span) = joined (λ u us. statement.more u us) p q in
        let all = lost_none o out is none in
        let p_none = left_none p.losses q.losses all in
        let k = more_back_stmts ys (bare_stmt p.tree) (bare_stmts q.tree) (eq ∙ ap (λ (u : Rewritten (statement.Stmts Span)). bare_stmts u.tree) is) in
        let next : Here (n + locals_in s) (z + locals_in k.0) (after n c s) (after z d k.0) = behind n z c d at b s k.0 ss p inner p_none k.3 in
        moved o out is (subst (λ (u : statement.Stmts Span). Carries true (Stands (stmts_layout (statement.more s ss))) (Stands (stmts_layout u)) (p.changes ++ q.changes) (WasStmts n c b (statement.more s ss)) (IsStmts z d i u)) (sym k.2)
        (both (stmt_moves n z c d at b i s k.0 p inner p_none k.3) (last (stmts_moves (n + locals_in s) (z + locals_in k.0) (after n c s) (after z d k.0) next b i ss k.1 q rest (right_none p.losses q.losses all) k.4))))
