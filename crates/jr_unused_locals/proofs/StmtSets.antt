-- The same of statements.
use Rattle.std.proofs.Common.{◌≡◌, ℕ, suc, ◌+◌, Bool, Option, Some, None, subst}
use Rattle.jr_ast.specs.Tree as tree
use Rattle.jr_ast.specs.StatementTree as statement
use Rattle.jr_runs.specs.Keys.{Keys}
use Rattle.jr_cover.specs.Translation.{exp_code}
use Rattle.jr_cover.specs.StatementTranslation.{all_declared, return_at, stmt_code, else_code, stmts_code}
use Rattle.jr_runs.specs.Sets.{NumberSet}
use Rattle.jr_runs.proofs.Locals.{within_all}
use Rattle.jr_cover.specs.Ways.{Way, row, fork, leave, inside, size}
use Rattle.jr_cover.specs.Sites.{What, Site, at_place, Known, exp_way, returned_way, stmt_way, else_way, stmts_way}
use Rattle.jr_unused_locals.specs.Bindings.{ValueBinds, StmtBinds, ElseBinds, StmtsBind}
use Rattle.jr_unused_locals.specs.CodeAgreement.{ExpAgrees, StmtAgrees, StmtsAgree}
use Rattle.jr_unused_locals.specs.Pieces.{loop_site, lock_check, enter_site, exit_site}
use Rattle.jr_unused_locals.proofs.Families.{Told, Oks, oks_pass, oks_row, oks_fork, oks_turns, oks_inside, oks_write, oks_check}
use Rattle.jr_unused_locals.proofs.ExpSets.{exp_keeps}

module _ {K : Keys} {A : Type 0} (X : Known K A) (r w : ℕ → ℕ → Bool) where
  returned : (p : A) (v : Option (tree.Exp A)) → ValueBinds X v → (n : ℕ) → Told r w n (returned_way X v) → (B C : NumberSet) → Oks r w n (returned_way X v) B C → StmtAgrees (return_at X.facts p v) B C
  returned p None b n t B C h = tt
  returned p (Some e) b n t B C h =
      let x = oks_row r w n (exp_way X e) leave B C h in
      (x.0, exp_keeps X r w e b n t.0 B x.0 x.1)

  mutual
    pub stmt_keeps : (a : statement.Stmt A) → StmtBinds X a → (n : ℕ) → Told r w n (stmt_way X a) → (B C : NumberSet) → Oks r w n (stmt_way X a) B C → StmtAgrees (stmt_code X.facts a) B C
    stmt_keeps (statement.local a is_final u v e) b = λ n t B C h.
        let d : Way (Site K) = at_place (X.facts.first v.mark) (What.writes (X.facts.number v.mark)) in
        let x = oks_row r w n (exp_way X e) d B C h in
        (x.0, exp_keeps X r w e b n t.0 B x.0 x.1, oks_write r w (n + size (exp_way X e)) (X.facts.first v.mark) (X.facts.number v.mark) t.1 x.0 C x.2)
    stmt_keeps (statement.eval a e) b = exp_keeps X r w e b
    stmt_keeps (statement.branch a c s o) b = λ n t B C h.
        let x = oks_row r w n (exp_way X c) (fork (stmt_way X s) (else_way X o)) B C h in
        let f = oks_fork r w (n + size (exp_way X c)) (stmt_way X s) (else_way X o) x.0 C x.2 in
        (x.0, f.0, f.1, exp_keeps X r w c b.0 n t.0 B x.0 x.1, stmt_keeps s b.1 (n + size (exp_way X c)) t.1.0 x.0 f.0 f.2, else_keeps o b.2 (n + size (exp_way X c) + size (stmt_way X s)) t.1.1 x.0 f.1 f.3, f.4, f.5)
    stmt_keeps (statement.loop a c s) b = λ n t B C h.
        let x = oks_turns r w n (loop_site X a) (exp_way X c) (stmt_way X s) B C h in
        (x.0, x.1, x.2, exp_keeps X r w c b.0 (suc n) t.1 x.0 C x.3, stmt_keeps s b.1 (suc n + size (exp_way X c)) t.2 C x.1 x.4, x.5)
    stmt_keeps (statement.return a v) b = returned a v b
    stmt_keeps (statement.block a s) b = λ n t B C h. (B, within_all B (all_declared X.facts s), stmts_keep s b n t B C h)
    stmt_keeps (statement.sync a e s) b = λ n t B C h.
        let m : Way (Site K) = inside (enter_site X a) (stmts_way X s) (exit_site X a) in
        let x = oks_row r w n (exp_way X e) (row (lock_check X a e) m) B C h in
        let y = oks_row r w (n + size (exp_way X e)) (lock_check X a e) m x.0 C x.2 in
        let q : x.0 ≡ y.0 = oks_check r w (n + size (exp_way X e)) (X.never_null e) (X.facts.first a) t.1.0 x.0 y.0 y.1 in (
          y.0,
          subst (λ (Z : NumberSet). ExpAgrees (exp_code X.facts e) B Z) q (exp_keeps X r w e b.0 n t.0 B x.0 x.1),
          stmts_keep s b.1 (suc (n + size (exp_way X e) + size (lock_check X a e))) t.1.1.2 y.0 C
              (oks_inside r w (n + size (exp_way X e) + size (lock_check X a e)) (enter_site X a) (exit_site X a) (stmts_way X s) y.0 C y.2),
        )
    stmt_keeps (statement.empty a) b = λ n t B C h. oks_pass r w n B C h

    pub else_keeps : (o : statement.Else A) → ElseBinds X o → (n : ℕ) → Told r w n (else_way X o) → (B C : NumberSet) → Oks r w n (else_way X o) B C → StmtAgrees (else_code X.facts o) B C
    else_keeps statement.no_else b = λ n t B C h. oks_pass r w n B C h
    else_keeps (statement.otherwise s) b = stmt_keeps s b

    pub stmts_keep : (b : statement.Stmts A) → StmtsBind X b → (n : ℕ) → Told r w n (stmts_way X b) → (B C : NumberSet) → Oks r w n (stmts_way X b) B C → StmtsAgree (stmts_code X.facts b) B C
    stmts_keep statement.end b = λ n t B C h. oks_pass r w n B C h
    stmts_keep (statement.more s ss) b = λ n t B C h.
        let x = oks_row r w n (stmt_way X s) (stmts_way X ss) B C h in
        (x.0, stmt_keeps s b.0 n t.0 B x.0 x.1, stmts_keep ss b.1 (n + size (stmt_way X s)) t.1 x.0 C x.2)
