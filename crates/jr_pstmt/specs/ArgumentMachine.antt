-- Reading arguments, token by token: expressions with a comma between two (JLS 15.12).
use Rattle.std.specs.Prelude.{[], Option, Some, None, option_map, option_and_then}
use Rattle.jr_ast.specs.Tree.{Exp, Exps, end, more}
use Rattle.jr_grammar.specs.Tokens.{Token}
use Rattle.jr_pexpr.specs.Machine as E
use Rattle.jr_pstmt.specs.Cues.{Cue, at_comma, cue_of}
use Rattle.jr_pstmt.specs.Inside.{inner}

-- in an argument, behind others of which each has its comma
pub record State (A : Type 0) : Type 0 where
  pub args : Exps A
  pub last : E.State A

abbrev pub in_argument : {A : Type 0} → Exps A → E.State A → State A
in_argument es s = record { args = es; last = s }

abbrev pub start : {A : Type 0} → State A
start = in_argument end (E.want [])

-- a comma behind an argument
abbrev pub next_argument : {A : Type 0} → Exps A → Cue → Exp A → Option (State A)
next_argument es c e = at_comma c (in_argument (E.with_last es e) (E.want []))

abbrev pub step : {A : Type 0} → (A → A → A) → State A → A → Token → Option (State A)
step join s at t =
    inner (in_argument s.args)
    (option_and_then (next_argument s.args (cue_of t)) (E.whole join s.last))
    (E.step join s.last at t)

-- no argument at all
abbrev pub whole_none : {A : Type 0} → E.State A → Option (Exps A)
whole_none (E.want []) = Some end
whole_none _ = None

abbrev pub whole_first : {A : Type 0} → Option (Exp A) → E.State A → Option (Exps A)
whole_first (Some e) s = Some (more e end)
whole_first None s = whole_none s

abbrev pub whole_behind : {A : Type 0} → Exps A → Option (Exp A) → E.State A → Option (Exps A)
whole_behind end o s = whole_first o s
whole_behind (more d es) o s = option_map (E.with_last (more d es)) o

abbrev pub whole : {A : Type 0} → (A → A → A) → State A → Option (Exps A)
whole join s = whole_behind s.args (E.whole join s.last) s.last
