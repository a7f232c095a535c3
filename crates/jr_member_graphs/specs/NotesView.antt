-- What a walk has gathered, as contracts see it.
use Rattle.std.specs.Prelude.{ℕ, List, [], ◌∷◌, map}
use Rattle.jr_ast.specs.View.{expr_of}
use Rattle.jr_runs.specs.Keys.{Keys}
use Rattle.jr_table.specs.Decls.{MemberKey}
use Rattle.jr_cover.specs.Sites as sites
use Rattle.jr_cover.specs.Sites.{What, Site}
use Rattle.jr_expr_sites.specs.Routes.{Steps}
use Rattle.jr_expr_sites.specs.Steps.{sites_in}
use Rattle.jr_expr_sites.specs.StepView.{steps_in}
use Rattle.jr_member_graphs.specs.declared.gather.Begin as raw
use Rattle.jr_member_graphs.specs.Notes.{Begin, Notes}

-- the locals that are written at sites
abbrev pub with_written : {K : Keys} → What K → List ℕ → List ℕ
with_written (sites.reads n) l = l
with_written (sites.writes n) l = n ∷ l
with_written (sites.loads f) l = l
with_written (sites.stores f) l = l
with_written sites.enters l = l
with_written sites.exits l = l
with_written sites.creates l = l
with_written sites.checks l = l
with_written sites.calls l = l
with_written sites.loops l = l

abbrev pub written : {K : Keys} → List (Site K) → List ℕ
written [] = []
written (s ∷ ss) = with_written s.what (written ss)

abbrev pub noted : MemberKey → Steps → List ℕ
noted key steps = written (sites_in (steps_in key steps))

abbrev pub begin_of : {A : Type 0} → raw.Begin A → Begin A
begin_of b = record { base = b.base; of = expr_of b.of.now }

abbrev pub notes_in : {A : Type 0} → MemberKey → Steps → List (raw.Begin A) → Notes A
notes_in key steps begins = record { writes = noted key steps; begins = map begin_of begins }
