-- The machine without marks.
use Rattle.std.specs.Prelude.{List, [], ◌∷◌, Option}
use Rattle.jr_ast.specs.Tree.{Exp}
use Rattle.jr_grammar.specs.Tokens.{Token}
use Rattle.jr_grammar.specs.Bare.{Bare, bare_word, bare_type, bare, bare_target, bare_args}
use Rattle.jr_pexpr.specs.Machine.{
  Head,
  call_head,
  super_head,
  create_head,
  Frame,
  in_unary,
  in_bump,
  in_binary,
  in_assign,
  in_compound,
  in_cast,
  in_paren,
  in_args,
  State,
  want,
  have,
  dotted,
  at_super,
  super_dotted,
  at_new,
  new_named,
  new_dotted,
  step,
  whole,
  statement_step,
  statement_whole,
}
use Rattle.jr_pexpr.specs.Runs.{run}

abbrev pub no_join : Bare → Bare → Bare
no_join m n = tt

abbrev pub bare_step : State Bare → Token → Option (State Bare)
bare_step s t = step no_join s tt t

abbrev pub bare_whole : State Bare → Option (Exp Bare)
bare_whole s = whole no_join s

abbrev pub bare_run : State Bare → List Token → Option (State Bare)
bare_run s ts = run (State Bare) Token (Exp Bare) bare_step bare_whole s ts

-- the same for statement expressions
abbrev pub bare_statement_step : State Bare → Token → Option (State Bare)
bare_statement_step s t = statement_step no_join s tt t

abbrev pub bare_statement_whole : State Bare → Option (Exp Bare)
bare_statement_whole s = statement_whole no_join s

abbrev pub bare_statement_run : State Bare → List Token → Option (State Bare)
bare_statement_run s ts =
    run (State Bare) Token (Exp Bare) bare_statement_step bare_statement_whole s ts

-- ---- states without marks

abbrev pub bare_head : {A : Type 0} → Head A → Head Bare
bare_head (call_head m t w) = call_head tt (bare_target t) (bare_word w)
bare_head (super_head m w) = super_head tt (bare_word w)
bare_head (create_head m t) = create_head tt (bare_type t)

abbrev pub bare_frame : {A : Type 0} → Frame A → Frame Bare
bare_frame (in_unary m o) = in_unary tt o
bare_frame (in_bump m w) = in_bump tt w
bare_frame (in_binary o l) = in_binary o (bare l)
bare_frame (in_assign t) = in_assign (bare t)
bare_frame (in_compound o t) = in_compound o (bare t)
bare_frame (in_cast m t) = in_cast tt (bare_type t)
bare_frame (in_paren m) = in_paren tt
bare_frame (in_args d es) = in_args (bare_head d) (bare_args es)

abbrev pub bare_stack : {A : Type 0} → List (Frame A) → List (Frame Bare)
bare_stack [] = []
bare_stack (f ∷ fs) = bare_frame f ∷ bare_stack fs

abbrev pub bare_state : {A : Type 0} → State A → State Bare
bare_state (want fs) = want (bare_stack fs)
bare_state (have fs e) = have (bare_stack fs) (bare e)
bare_state (dotted fs e) = dotted (bare_stack fs) (bare e)
bare_state (at_super fs m) = at_super (bare_stack fs) tt
bare_state (super_dotted fs m) = super_dotted (bare_stack fs) tt
bare_state (at_new fs m) = at_new (bare_stack fs) tt
bare_state (new_named fs m t) = new_named (bare_stack fs) tt (bare_type t)
bare_state (new_dotted fs m o) = new_dotted (bare_stack fs) tt (bare_word o)
