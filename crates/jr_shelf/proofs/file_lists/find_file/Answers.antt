use Rattle.std.proofs.Common.{List, ℕ, Some, sym, ap, ◌∙◌}
use Rattle.std.specs.Str.{bytes_eq}
use Rattle.jr_shelf.proofs.Lookups.{found_here, found_further}
use Rattle.jr_shelf.proofs.file_lists.find_file.Goals as goal

pub returns-then-eq : goal.returns-then-eq
returns-then-eq c =
    let same = ap (λ (name : List ℕ). bytes_eq c.args.name.now name) (sym c.as_str.ensures.value) ∙ sym c.eq.ensures ∙ c.if-eq.true in
    sym (found_here c.args.name.now c.args.files.now c.loop-file.file-index c.loop-file-item.result _ c.loop-file-test.true c.loop-file-item.is c.loop-file.invariant same ∙ ap (λ (bytes : List ℕ). Some bytes) (sym c.as_slice.ensures.value))

pub loop-file-preserved : goal.loop-file-preserved
loop-file-preserved c =
    let other = ap (λ (name : List ℕ). bytes_eq c.args.name.now name) (sym c.as_str.ensures.value) ∙ sym c.eq.ensures ∙ c.if-eq.false in
    found_further c.args.name.now c.args.files.now c.loop-file.file-index c.loop-file-item.result _ c.loop-file-test.true c.loop-file-item.is c.loop-file.invariant other
