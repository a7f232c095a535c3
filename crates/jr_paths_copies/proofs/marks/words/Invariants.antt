use Rattle.std.proofs.Common.{◌≡◌, take, map, Option}
use Rattle.std.specs.Fn.{FnReturnsAt}
use Rattle.jr_ast.specs.View.{word_of}
use Rattle.jr_ast.specs.Remarked as maps
use Rattle.jr_paths_copies.specs.Same as same
use Rattle.jr_paths_copies.proofs.marks.words.Given as goal

-- the copies so far are those of the parts so far
abbrev pub invariant-loop-part : goal.invariant-loop-part
invariant-loop-part g l =
    (h : g.row.B.Denot → Option g.row.B.Denot) (k : g.row.A.Denot → Option g.row.B.Denot) → same.Agree (FnReturnsAt g.F.Fn l.f) h k
    → map (λ x. maps.map_word h (word_of x)) l.copies.items ≡ map (λ x. maps.map_word k (word_of x)) (take l.part-index l.parts)
