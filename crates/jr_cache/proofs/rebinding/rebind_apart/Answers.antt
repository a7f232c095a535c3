use Rattle.std.proofs.Common.{map, subst, sym, ap, ◌∙◌}
use Rattle.jr_members.specs.PartView.{written_of}
use Rattle.jr_mentions.specs.ApartView.{names_in}
use Rattle.jr_program.specs.Members.{AreEachBound}
use Rattle.jr_cache.specs.HadBack.{with_replaced}
use Rattle.jr_cache.specs.RebindSteps.{AreOfSameFiles}
use Rattle.jr_cache.proofs.OneByOne.{as_many}
use Rattle.jr_cache.proofs.Lasting.{are_rebound}
use Rattle.jr_cache.proofs.rebinding.rebind_apart.Goals as goal

pub rebind_each-requires-clause-count : goal.rebind_each-requires-clause-count
rebind_each-requires-clause-count g c = as_many written_of c.args.program.now.written.now c.args.earlier.items (subst (AreOfSameFiles (map written_of c.args.program.now.written.now)) c.as_slice.ensures.value (c.same_files.ensures c.if-not-same_files.false))

pub returns-clause-each : goal.returns-clause-each
returns-clause-each g c = subst (λ bs. AreEachBound c.args.program.now.table.now c.args.program.now.tokens.now (map written_of c.args.program.now.written.now) bs) (sym c.parts.ensures.bounds)
    (are_rebound c.bounds_last.ensures.bounds (names_in c.args.names.now) c.args.program.now.before.now c.args.program.now.table.now c.keeps_rows.ensures c.keeps_rows-2.ensures c.requires.apart c.args.program.now.tokens.now (map written_of c.args.program.now.written.now) c.args.program.now.stays.now c.args.earlier.items _ c.requires.comes
    (subst (AreOfSameFiles (map written_of c.args.program.now.written.now)) c.as_slice.ensures.value (c.same_files.ensures c.if-not-same_files.false)) c.in_ok-rebind_each.ensures.rebinds)

pub returns-clause-back : goal.returns-clause-back
returns-clause-back g c = c.parts.ensures.back ∙ c.in_ok-rebind_each.ensures.back ∙ ap (λ rs. with_replaced rs c.args.earlier.items) c.new.ensures.items
