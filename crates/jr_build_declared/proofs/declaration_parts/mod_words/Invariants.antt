use Rattle.std.proofs.Common.{◌≡◌, ◌++◌, drop, map}
use Rattle.jr_ast.specs.View.{modifier_of}
use Rattle.jr_table.specs.DeclaredItems.{words}
use Rattle.jr_build_declared.specs.Fitting.{begins_by}
use Rattle.jr_build_declared.proofs.declaration_parts.mod_words.Given as goal

-- the words so far, with those that are left, are all
abbrev pub invariant-loop-modifier : goal.invariant-loop-modifier
invariant-loop-modifier g l = l.list.items ++ words (begins_by g.A.Mark.span_from) (map modifier_of (drop l.modifier-index l.modifiers)) ≡ words (begins_by g.A.Mark.span_from) (map modifier_of l.modifiers)
