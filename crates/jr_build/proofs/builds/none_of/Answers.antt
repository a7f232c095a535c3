use Rattle.std.proofs.Common.{Option, Some, None, option_map, ap, sym, subst}
use Rattle.jr_table.specs.Faults.{HasFault}
use Rattle.jr_build_places.specs.Places.{place_of, IsEarliest}
use Rattle.jr_build.proofs.Cleaning.{next_clean, first_fault}
use Rattle.jr_build.proofs.builds.none_of.Goals as goal

pub returns-in-None : goal.returns-in-None
returns-in-None c = record {
  clean = λ packages declarations below earliest. next_clean packages declarations c.args.kind below
      (subst (λ o. IsEarliest (HasFault packages declarations c.args.kind) (option_map place_of o)) c.in-None.is earliest);
  fault = λ packages declarations below earliest. tt;
}

pub returns-in-Some : goal.returns-in-Some
returns-in-Some c = record {
  clean = λ packages declarations below earliest. tt;
  fault = λ packages declarations below earliest. first_fault packages declarations c.args.kind (place_of c.in-Some.place) below
      (subst (λ o. IsEarliest (HasFault packages declarations c.args.kind) (option_map place_of o)) c.in-Some.is earliest);
}
