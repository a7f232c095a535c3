-- A throw in a monitor: the actions of its run, and the way to the exit (JLS 14.19).
use Rattle.std.specs.Prelude.{◌≡◌, ℕ, [], ◌∷◌, Some}
use Rattle.jr_plans.specs.Run.{ended}
use Rattle.jr_ast.specs.Tree as tree
use Rattle.jr_ast.specs.StatementTree as statement
use Rattle.jr_runs.specs.Values.{Value, object}
use Rattle.jr_runs.specs.Actions.{Event, enter, exit}
use Rattle.jr_runs.specs.Arithmetic.{thrown, null_reference}
use Rattle.jr_runs.specs.Core.{written, Program}
use Rattle.jr_cover.specs.StatementTranslation.{stmts_code}
use Rattle.jr_runs.specs.Running.{of_method, run_of}
use Rattle.jr_cover.specs.Paths.{Path}
use Rattle.jr_cover.specs.Ways.{Way, sites_of, Edge}
use Rattle.jr_cover.specs.Sites.{
  reads,
  stores,
  enters,
  exits,
  checks,
  Site,
  stmts_way,
}
use Rattle.jr_cover.specs.Covering.{DoneAt}
use Rattle.jr_cover_cases.specs.Samples.{K, facts, X, rows, name, dot, only, at, edges}

-- `synchronized(this){p.f=a;}`: Enter 0, p 1, a 2, Check 3, Store 4, Exit 5
abbrev pub guarded : statement.Stmts ℕ
guarded = only (statement.sync 50 (tree.this 51)
    (only (statement.eval 52 (tree.assign 53 (dot (name 3) 24) (name 4)))))

abbrev pub guarded_way : Way (Site K)
guarded_way = stmts_way X guarded

-- a method with that body and no parameters, so p is null
abbrev pub throwing : Program K
throwing = record {
  rows = rows;
  method = λ m. written (record { params = 0; body = stmts_code facts guarded });
  constructor = λ k. record { params = 0; body = stmts_code facts statement.end };
}

abbrev pub receiver : Value K
receiver = object 1 4

abbrev pub enter_event : Event K
enter_event = record { at = Some 50; action = enter receiver }

abbrev pub exit_event : Event K
exit_event = record { at = Some 150; action = exit receiver }

pub record ThrowCases : Type 0 where
  pub guarded_sites : sites_of guarded_way ≡ at 50 enters ∷ at 3 (reads 3) ∷ at 4 (reads 4)
      ∷ at 24 checks ∷ at 24 (stores 24) ∷ at 150 exits ∷ []
  -- no edge leads from the `Check`, which throws, to the `Exit`, and none is needed
  pub guarded_edges :
      edges guarded_way ≡ (3, 4) ∷ (2, 3) ∷ (1, 2) ∷ (0, 1) ∷ (4, 5) ∷ []
  pub exit_behind_the_check : Path (Edge 0 guarded_way) 3 5
  -- the run throws in the monitor, and exits it
  pub trace_is : (run_of throwing (of_method 0 receiver []) [] 1).trace
      ≡ record { activation = 0; action = enter_event }
      ∷ record { activation = 0; action = exit_event } ∷ []
  pub end_is : (run_of throwing (of_method 0 receiver []) [] 1).end
      ≡ ended (thrown null_reference)
  -- both actions are done at sites, and a path leads from the one to the other
  pub entered_at : DoneAt rows (at 50 enters) enter_event
  pub exited_at : DoneAt rows (at 150 exits) exit_event
  pub path_is : Path (Edge 0 guarded_way) 0 5
