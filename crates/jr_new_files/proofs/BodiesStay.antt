-- Statements stay, and the names of the locals that they declare.
use Rattle.std.proofs.Common.{◌≡◌, ℕ, ◌+◌, List, Option, Some, None, false, refl, inl, inr}
use Rattle.jr_text.specs.declared.spans.Span.{Span}
use Rattle.jr_ast.specs.Tree as tree
use Rattle.jr_ast.specs.StatementTree as statement
use Rattle.jr_table.specs.declared.rules.Rule.{Rule}
use Rattle.jr_table.specs.declared.rules.Rule.TheVariants as rule
use Rattle.jr_table.specs.Decls.{MemberKey, Decl, local_decl}
use Rattle.jr_table.specs.Rows.{Row}
use Rattle.jr_table.specs.Context.{Context, local_of, local_key, in_own, after, locals_in}
use Rattle.jr_table.specs.Binding.{value}
use Rattle.jr_table.specs.Binding as role
use Rattle.jr_table.specs.Somewhere.{InMaybe, InStmt, InElse, InStmts}
use Rattle.jr_table.specs.ExpressionRules.{ExpBreaks}
use Rattle.jr_table.specs.StatementRules.{StmtBreaks, ListBreaks}
use Rattle.jr_mentions.specs.Avoids.{AvoidsMaybe, AvoidsStmt, AvoidsElse, AvoidsStmts}
use Rattle.jr_rewrite.specs.Respellings.{stays}
use Rattle.jr_rewrite.specs.Rewritten.{plain, within, joined, word_out}
use Rattle.jr_rewrite.specs.Rewrites.{DeclaredOut, RewritesType, RewritesMaybe, RewritesStmt, RewritesElse, RewritesStmts, TransformsStmt, TransformsElse, TransformsStmts}
use Rattle.jr_images.specs.Images.{Renaming, is_renamed, name_to}
use Rattle.jr_images.proofs.KeyImages.{keeps_name}
use Rattle.jr_new_files.proofs.ImagesStay.{IsWithin, within_own, within_after, local_kept, scope_same}
use Rattle.jr_new_files.proofs.Unmoved.{GivesNothing, both_none, stays_so}
use Rattle.jr_new_files.proofs.Passing.{Known}
use Rattle.jr_new_files.proofs.NothingBroken.{type_means}
use Rattle.jr_new_files.proofs.WordsOfTypes.{type_stays}
use Rattle.jr_new_files.proofs.TreesStay.{C, exp_stays}

module _ {A : Type 0} (tells : A → ℕ → Span) (rows : List Row) (g : Renaming) (names : List (List ℕ)) (k : MemberKey) (known : Known A rows g names k) (super_at : Context → ℕ) where
  abbrev begins : A → ℕ → ℕ
  begins m base = (tells m base).from

  -- a declared name
  pub declared_stays : (d : Decl) (at : ℕ) (w : tree.Word A) → is_renamed g d ≡ false → GivesNothing (λ o. DeclaredOut tells (C tells rows g names k known super_at) d at w o)
  declared_stays d at w kept = (word_out tells stays at w, (stays, stays_so w.text (name_to g d w.text) (keeps_name g d w.text kept), refl), refl)

  -- no rule is broken in it
  abbrev SoundMaybe : Context → (at : ℕ) → Option (tree.Exp A) → Type 0
  SoundMaybe c from e = (at : ℕ) (r : Rule) → InMaybe begins (λ d o b x. ExpBreaks begins rows d o b x at r) (λ n d b s. StmtBreaks begins rows n d b s at r) (λ b ss. ListBreaks begins b ss at r) c from e → ⊥

  abbrev SoundStmt : (number : ℕ) → Context → (base : ℕ) → statement.Stmt A → Type 0
  SoundStmt n c base s = (at : ℕ) (r : Rule) → InStmt begins (λ d o b x. ExpBreaks begins rows d o b x at r) (λ i d b x. StmtBreaks begins rows i d b x at r) (λ b ss. ListBreaks begins b ss at r) n c base s → ⊥

  abbrev SoundElse : (number : ℕ) → Context → (base : ℕ) → statement.Else A → Type 0
  SoundElse n c base s = (at : ℕ) (r : Rule) → InElse begins (λ d o b x. ExpBreaks begins rows d o b x at r) (λ i d b x. StmtBreaks begins rows i d b x at r) (λ b ss. ListBreaks begins b ss at r) n c base s → ⊥

  abbrev pub SoundStmts : (number : ℕ) → Context → (base : ℕ) → statement.Stmts A → Type 0
  SoundStmts n c base s = (at : ℕ) (r : Rule) → InStmts begins (λ d o b x. ExpBreaks begins rows d o b x at r) (λ i d b x. StmtBreaks begins rows i d b x at r) (λ b ss. ListBreaks begins b ss at r) n c base s → ⊥

  pub maybe_stays : (c : Context) → IsWithin k c → (at : ℕ) (e : Option (tree.Exp A)) → SoundMaybe c at e → AvoidsMaybe names e → GivesNothing (λ o. RewritesMaybe tells (C tells rows g names k known super_at) c at e o)
  maybe_stays c inside at None sound avoids = (plain None, refl, refl)
  maybe_stays c inside at (Some e) sound avoids =
      let p = exp_stays tells rows g names k known super_at c inside value at e (λ x y z. sound x y z) avoids in (within (λ (x : tree.Exp A). Some x) p.0, (p.0, p.1, refl), p.2)

  -- the type of a local
  local_type : (n : ℕ) (c : Context) → IsWithin k c → (base : ℕ) (m : A) (f : _) (t : tree.TypeName A) (w : tree.Word A) (e : tree.Exp A) → SoundStmt n c base (statement.local m f t w e)
      → GivesNothing (λ o. RewritesType tells (C tells rows g names k known super_at) c (begins m base) t o)
  unfolding InStmt InElse InStmts
  local_type n c inside base m f t w e sound = type_stays tells rows g names k known super_at c (scope_same g names k known.spared known.own c inside) (begins m base) t
      (type_means begins rows known.keys c (begins m base) t (λ at h. sound at rule.NoType (inl h)) (λ at d h. sound at rule.Private (inl (d, h))))

  mutual
    unfolding TransformsStmt TransformsElse TransformsStmts InStmt InElse InStmts AvoidsStmt AvoidsElse AvoidsStmts

    pub stmt_stays : (n : ℕ) (c : Context) → IsWithin k c → (base : ℕ) (s : statement.Stmt A) → SoundStmt n c base s → AvoidsStmt names s → GivesNothing (λ o. RewritesStmt tells (C tells rows g names k known super_at) n c base s o)
    stmt_stays n c inside base (statement.local m f t w e) sound avoids =
        let p = local_type n c inside base m f t w e sound in
        let v = declared_stays (local_decl (local_key c n)) (begins m base) w (local_kept g names k known.spared known.own (local_key c n) inside.member) in
        let q = exp_stays tells rows g names k known super_at (in_own c (local_of c n f t w)) (within_own k c inside n f t w) value (begins m base) e (λ x y z. sound x y (inr z)) avoids in (
          joined (λ (u : tree.TypeName A × tree.Word A) x. statement.local m f u.0 u.1 x) (joined (λ u z. (u, z)) p.0 v.0) q.0,
          (p.0, v.0, q.0, p.1, v.1, q.1, refl),
          both_none (both_none p.2 v.2) q.2,
        )
    stmt_stays n c inside base (statement.eval m e) sound avoids =
        let p = exp_stays tells rows g names k known super_at c inside role.statement (begins m base) e (λ x y z. sound x y (inr z)) avoids in (within (λ x. statement.eval m x) p.0, (p.0, p.1, refl), p.2)
    stmt_stays n c inside base (statement.branch m e s other) sound avoids =
        let p = exp_stays tells rows g names k known super_at c inside value (begins m base) e (λ x y z. sound x y (inr (inl z))) avoids.0 in
        let q = stmt_stays n c inside (begins m base) s (λ x y z. sound x y (inr (inr (inl z)))) avoids.1 in
        let z = else_stays (n + locals_in s) c inside (begins m base) other (λ x y h. sound x y (inr (inr (inr h)))) avoids.2 in (
          joined (λ (u : tree.Exp A × statement.Stmt A) v. statement.branch m u.0 u.1 v) (joined (λ u v. (u, v)) p.0 q.0) z.0,
          (p.0, q.0, z.0, p.1, q.1, z.1, refl),
          both_none (both_none p.2 q.2) z.2,
        )
    stmt_stays n c inside base (statement.loop m e s) sound avoids =
        let p = exp_stays tells rows g names k known super_at c inside value (begins m base) e (λ x y z. sound x y (inr (inl z))) avoids.0 in
        let q = stmt_stays n c inside (begins m base) s (λ x y z. sound x y (inr (inr z))) avoids.1 in
        (joined (λ u v. statement.loop m u v) p.0 q.0, (p.0, q.0, p.1, q.1, refl), both_none p.2 q.2)
    stmt_stays n c inside base (statement.return m e) sound avoids =
        let p = maybe_stays c inside (begins m base) e (λ x y z. sound x y (inr z)) avoids in (within (λ x. statement.return m x) p.0, (p.0, p.1, refl), p.2)
    stmt_stays n c inside base (statement.block m body) sound avoids =
        let p = stmts_stay n c inside (begins m base) body (λ x y z. sound x y (inr (inr z))) avoids in (within (λ x. statement.block m x) p.0, (p.0, p.1, refl), p.2)
    stmt_stays n c inside base (statement.sync m e body) sound avoids =
        let p = exp_stays tells rows g names k known super_at c inside value (begins m base) e (λ x y z. sound x y (inr (inl z))) avoids.0 in
        let q = stmts_stay n c inside (begins m base) body (λ x y z. sound x y (inr (inr (inr z)))) avoids.1 in
        (joined (λ u v. statement.sync m u v) p.0 q.0, (p.0, q.0, p.1, q.1, refl), both_none p.2 q.2)
    stmt_stays n c inside base (statement.empty m) sound avoids = (plain (statement.empty m), refl, refl)

    pub else_stays : (n : ℕ) (c : Context) → IsWithin k c → (base : ℕ) (s : statement.Else A) → SoundElse n c base s → AvoidsElse names s → GivesNothing (λ o. RewritesElse tells (C tells rows g names k known super_at) n c base s o)
    else_stays n c inside base statement.no_else sound avoids = (plain statement.no_else, refl, refl)
    else_stays n c inside base (statement.otherwise s) sound avoids = let p = stmt_stays n c inside base s (λ x y z. sound x y z) avoids in (within (λ y. statement.otherwise y) p.0, (p.0, p.1, refl), p.2)

    pub stmts_stay : (n : ℕ) (c : Context) → IsWithin k c → (base : ℕ) (s : statement.Stmts A) → SoundStmts n c base s → AvoidsStmts names s → GivesNothing (λ o. RewritesStmts tells (C tells rows g names k known super_at) n c base s o)
    stmts_stay n c inside base statement.end sound avoids = (plain statement.end, refl, refl)
    stmts_stay n c inside base (statement.more s ss) sound avoids =
        let p = stmt_stays n c inside base s (λ x y z. sound x y (inl z)) avoids.0 in
        let q = stmts_stay (n + locals_in s) (after n c s) (within_after k c inside n s) base ss (λ x y z. sound x y (inr z)) avoids.1 in
        (joined (λ y ys. statement.more y ys) p.0 q.0, (p.0, q.0, p.1, q.1, refl), both_none p.2 q.2)
