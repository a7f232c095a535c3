use Rattle.std.proofs.Common.{◌≡◌, ◌∙◌, ap, sym, ℕ, ◌+◌, List, drop, Some}
use Rattle.jr_text.specs.declared.spans.Span.{Span}
use Rattle.jr_ast.specs.declared.stmts.Stmt.{Stmt}
use Rattle.jr_ast.specs.View.{stmt_of, stmts_of}
use Rattle.jr_piece_search.specs.StatementSteps.{choose}
use Rattle.jr_piece_search.proofs.ChoosingStatements.{choose_goes, choose_here, choose_ends}
use Rattle.jr_piece_search.proofs.statement_steps.choose_stmt.Goals as goal

pub returns-else-passes_stmt : goal.returns-else-passes_stmt
returns-else-passes_stmt c =
    let l = c.loop-of in
    let xs = c.args.list.now in
    let list : c.behind-list.result.now ≡ drop l.of-index xs = c.behind-list.ensures ∙ ap (λ (n : ℕ). drop n xs) l.invariant.count in
    ap (λ (ys : List (Stmt Span)). Some (record { number = l.number; stmt = stmt_of c.of-item.result; list = stmts_of ys })) list
    ∙ sym (choose_here c.args.span.now xs l.of-index c.of-item.result l.number c.loop-of-test.true c.of-item.is (sym c.passes_stmt.ensures ∙ c.if-passes_stmt.false)) ∙ l.invariant.left

pub loop-of-preserved : goal.loop-of-preserved
loop-of-preserved c =
    let l = c.loop-of in
    record {
      left = ap (λ (n : ℕ). choose c.args.span.now n (stmts_of (drop (l.of-index + 1) c.args.list.now))) c.in_ok-number.ensures
          ∙ sym (choose_goes c.args.span.now c.args.list.now l.of-index c.of-item.result l.number c.loop-of-test.true c.of-item.is (sym c.passes_stmt.ensures ∙ c.if-passes_stmt.true)) ∙ l.invariant.left;
      count = ap (λ (n : ℕ). n + 1) l.invariant.count;
    }

pub returns : goal.returns
returns c =
    let l = c.loop-of in
    sym (choose_ends c.args.span.now c.args.list.now l.of-index l.number c.loop-of-test.false) ∙ l.invariant.left
