use Rattle.std.proofs.Common.{◌≡◌, ◌∙◌, ap, sym}
use Rattle.jr_local_search.specs.Walking.{wanted_of, declaration_of}
use Rattle.jr_local_search.proofs.Walks as walks
use Rattle.jr_local_search.proofs.declarations.declared.Goals as goal

pub returns-then-is_wanted : goal.returns-then-is_wanted
returns-then-is_wanted c = walks.one_met (wanted_of c.args.wanted) (declaration_of c.args.declaration) (sym c.is_wanted.ensures ∙ c.if-is_wanted.true)

pub returns : goal.returns
returns c = (walks.one_passed (wanted_of c.args.wanted) (declaration_of c.args.declaration) (sym c.is_wanted.ensures ∙ c.if-is_wanted.false), c.in_ok-next.ensures)
