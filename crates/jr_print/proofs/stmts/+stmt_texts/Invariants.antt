use Rattle.std.proofs.Common.{◌+◌, ◌*◌, ◌≡◌, ◌++◌, drop}
use Rattle.std.specs.Prelude.{string_bytes}
use Rattle.jr_ast.specs.View.{stmt_of, stmts_of, else_of}
use Rattle.jr_ast.proofs.Sizes.{stmt_size, stmts_size, else_size}
use Rattle.jr_print.specs.StatementText.{printed_stmts}
use Rattle.jr_print.proofs.stmts.+stmt_texts.Given as goal

abbrev pub decreases-stmt : goal.decreases-stmt
decreases-stmt g l = 4 * stmt_size (stmt_of l.of.now)

abbrev pub decreases-otherwise : goal.decreases-otherwise
decreases-otherwise g l = 4 * else_size (else_of l.of.now) + 1

abbrev pub decreases-block : goal.decreases-block
decreases-block g l = 4 * stmts_size (stmts_of l.body.now) + 2

abbrev pub decreases-stmts : goal.decreases-stmts
decreases-stmts g l = 4 * stmts_size (stmts_of l.parts.now) + 1

-- what is printed, with what is left, is all
abbrev pub invariant-stmts-loop-part : goal.invariant-stmts-loop-part
invariant-stmts-loop-part g l = string_bytes l.out ++ printed_stmts (stmts_of (drop l.part-index l.parts)) ≡ string_bytes l.initial.out ++ printed_stmts (stmts_of l.parts)
