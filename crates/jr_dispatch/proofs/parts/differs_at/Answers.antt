use Rattle.std.proofs.Common.{◌≡◌, ◌≢◌, ℕ, Option, subst}
use Rattle.std.specs.Prelude.{◌↔◌, IsTrue}
use Rattle.jr_table.specs.Entries.{entries_of}
use Rattle.jr_table.specs.Looking.{own_row}
use Rattle.jr_table.specs.Wanted.{passes}
use Rattle.jr_dispatch.proofs.parts.differs_at.Goals as goal

pub returns : goal.returns
returns c =
    subst (λ (o : Option ℕ). IsTrue c.differ.result ↔ (o ≢ own_row (entries_of c.args.new.now) (passes c.args.now.now) c.args.class)) c.own.ensures
    (subst (λ (o : Option ℕ). IsTrue c.differ.result ↔ (c.own.result ≢ o)) c.own-2.ensures c.differ.ensures)
