use Rattle.std.proofs.Common.{sym, ◌∙◌}
use Rattle.jr_cache.specs.HadBack.{bounds_before}
use Rattle.jr_sources.specs.HadBack.{table_before}
use Rattle.jr_sources.proofs.analyses.FormerAnalysis.restore.Goals as goal

pub returns : goal.returns
returns c =
    let later = c.parts-parts.ensures in
    let own = c.parts-own.ensures in
    record {
      table = sym (c.earlier_table-table.ensures ∙ (λ i. table_before (own.table i) (later.table i)));
      members = sym (c.restore-members.ensures ∙ (λ i. bounds_before (own.members i) (later.members i).items));
    }
