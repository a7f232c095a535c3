use Rattle.std.proofs.Common.{◌≡◌, ◌∙◌, ap, sym, map, option_map, Some, None}
use Rattle.jr_local_search.specs.Namings.{Naming, first_read as pure}
use Rattle.jr_local_search.specs.NamingView.{naming_of}
use Rattle.jr_local_search.proofs.NameRows.{no_read, is_only, not_only}
use Rattle.jr_local_search.proofs.names.only_read.Goals as goal

pub returns-in-None : goal.returns-in-None
returns-in-None c = no_read (map naming_of c.args.namings.now) (sym c.first_read.ensures ∙ ap (option_map (λ x. naming_of x.now)) c.in-None.is)

pub returns-then-all_read_at : goal.returns-then-all_read_at
returns-then-all_read_at c =
    is_only (map naming_of c.args.namings.now) (naming_of c.in-Some.first.now) (sym c.first_read.ensures ∙ ap (option_map (λ x. naming_of x.now)) c.in-Some.is) (sym c.all_read_at.ensures ∙ c.if-all_read_at.true)

pub returns-else-all_read_at : goal.returns-else-all_read_at
returns-else-all_read_at c =
    not_only (map naming_of c.args.namings.now) (naming_of c.in-Some.first.now) (sym c.first_read.ensures ∙ ap (option_map (λ x. naming_of x.now)) c.in-Some.is) (sym c.all_read_at.ensures ∙ c.if-all_read_at.false)
