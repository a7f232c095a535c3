use Rattle.std.proofs.Common.{◌≡◌, ◌++◌, drop, map}
use Rattle.std.specs.Prelude.{string_bytes}
use Rattle.jr_ast.specs.View.{modifier_of}
use Rattle.jr_print.specs.MemberText.{printed_modifiers}
use Rattle.jr_print.proofs.parts.modifiers.Given as goal

-- what is printed, with what is left, is all
abbrev pub invariant-loop-word : goal.invariant-loop-word
invariant-loop-word g l = string_bytes l.out ++ printed_modifiers (map modifier_of (drop l.word-index l.words)) ≡ string_bytes l.initial.out ++ printed_modifiers (map modifier_of l.words)
