use Rattle.std.proofs.Common.{sym, ap, ◌∙◌}
use Rattle.jr_table.specs.Lookup.{shown}
use Rattle.jr_table.specs.Notes.{found_note}
use Rattle.jr_bind_expr.specs.declared.findings.Finding.{Finding}
use Rattle.jr_bind_expr.specs.declared.findings.Note as raw
use Rattle.jr_bind_expr.specs.Findings.{note_of, sought_of, found_of}
use Rattle.jr_bind.specs.Targets.{note_decl}
use Rattle.jr_bind.proofs.Bounding.{declared_noted}
use Rattle.jr_bind.proofs.references.target_of.Goals as goal

pub returns-in-Rows : goal.returns-in-Rows
returns-in-Rows c = λ rows k.
    let at = c.in-Finds.at in
    let q = sought_of c.in-Finds.sought in
    c.row_target.ensures rows k ∙ declared_noted at q (shown rows c.in-Rows.answer)
    ∙ sym (ap (λ (n : raw.Note). note_decl (note_of rows k n)) c.in-Finds.is ∙ ap (λ (f : Finding). note_decl (found_note at q (found_of rows k f))) c.in-Rows.is)
