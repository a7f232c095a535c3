use Rattle.std.proofs.Common.{refl}
use Rattle.jr_new_files.proofs.beginnings.plain_here.Goals as goal

pub returns : goal.returns
returns c = record {
  known = c.in_ok-scopes.ensures.kept;
  context = c.in_ok-scopes.ensures.context;
  rows = c.in_ok-scopes.ensures.rows;
  mapping = c.in_ok-scopes.ensures.mapping;
  bound = refl;
  from_is = refl;
  spots = refl;
}
