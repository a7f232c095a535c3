-- What is needed of the machines for expressions and statement expressions: each reads every tree, and stops at what stands behind
-- one; each builds but what it read; and what it has read begins some tree.
use Rattle.std.proofs.Common.{◌≡◌, false, List, [], Some, None, refl, sym, ap, ◌∙◌, arith}
use Rattle.std.proofs.lemmas.List.{append-nil}
use Rattle.std.specs.Prelude.{option_map}
use Rattle.jr_text.specs.declared.spans.Span.{Span}
use Rattle.std.proofs.lemmas.Option.{same_Some}
use Rattle.jr_lex.specs.declared.items.Symbol.TheVariants.{CloseParen, Comma, Semicolon}
use Rattle.jr_ast.specs.Tree.{TypeName, named, Exp, name, field}
use Rattle.jr_grammar.specs.Tokens.{Token, symbol}
use Rattle.jr_grammar.specs.Spelling.{type_toks, toks}
use Rattle.jr_grammar.specs.Shape.{Shaped, ShapedStatement}
use Rattle.jr_grammar.specs.Readings.{Begins}
use Rattle.jr_pexpr.specs.Machine.{State, closed, continued, extended, name_type, step, whole, statement_step, statement_whole}
use Rattle.jr_pexpr.specs.Marked.{join}
use Rattle.jr_pexpr.proofs.EraseSteps.{step-bare, whole-bare, statement_step-bare, statement_whole-bare}
use Rattle.jr_ast.specs.Remarked.{map_exp}
use Rattle.jr_grammar.specs.Bare.{Bare, bare_type, bare}
use Rattle.jr_pexpr.specs.BareMachine.{no_join, bare_state, bare_step, bare_run, bare_whole, bare_statement_step, bare_statement_run, bare_statement_whole}
use Rattle.jr_pexpr.proofs.Levels.{level_pos}
use Rattle.jr_pexpr.proofs.Complete.{unwound}
use Rattle.jr_pexpr.proofs.Sound.{RunSound, run_sound}
use Rattle.jr_pexpr.proofs.Found.{at_some}
use Rattle.jr_pexpr.proofs.Reading.{start, after, toks_run, whole_after, sound, closes, from_nothing}
use Rattle.jr_pexpr.proofs.Statements.{statement_toks_run, statement_whole_after, statement_sound, statement_closes, run_kept}

pub record ExpRead (e : Exp Bare) : Type 0 where
  pub last : State Bare
  pub runs : bare_run start (toks e) ≡ Some last
  pub is_whole : bare_whole last ≡ Some e
  pub at_semicolon : bare_step last (symbol Semicolon) ≡ None
  pub at_close : bare_step last (symbol CloseParen) ≡ None
  pub at_comma : bare_step last (symbol Comma) ≡ None

pub exp_read : (e : Exp Bare) → Shaped e → ExpRead e
unfolding extended
exp_read e h = record {
  last = after e;
  runs = toks_run e h;
  is_whole = whole_after e h;
  at_semicolon = refl;
  at_close = ap (closed no_join tt) (unwound e false [] 1 h (omega arith) (level_pos e));
  at_comma = ap continued (unwound e false [] 1 h (omega arith) (level_pos e));
}

pub exp_sound : (ts : List Token) (n : State Bare) (e : Exp Bare) → bare_run start ts ≡ Some n → bare_whole n ≡ Some e → Shaped e × (toks e ≡ ts)
exp_sound ts n e h k = sound ts n e h k

pub exp_closes : (ts : List Token) (n : State Bare) → bare_run start ts ≡ Some n → (e : Exp Bare) × Begins (Exp Bare) toks Shaped ts e
exp_closes ts n h = closes ts n h

pub record EvalRead (e : Exp Bare) : Type 0 where
  pub last : State Bare
  pub runs : bare_statement_run start (toks e) ≡ Some last
  pub is_whole : bare_statement_whole last ≡ Some e
  pub at_semicolon : bare_statement_step last (symbol Semicolon) ≡ None

pub eval_read : (e : Exp Bare) → ShapedStatement e → EvalRead e
unfolding extended
eval_read e h = record { last = after e; runs = statement_toks_run e h; is_whole = statement_whole_after e h; at_semicolon = refl }

pub eval_sound : (ts : List Token) (n : State Bare) (e : Exp Bare) → bare_statement_run start ts ≡ Some n → bare_statement_whole n ≡ Some e → ShapedStatement e × (toks e ≡ ts)
eval_sound ts n e h k = statement_sound ts n e h k

pub eval_closes : (ts : List Token) (n : State Bare) → bare_statement_run start ts ≡ Some n → (e : Exp Bare) × Begins (Exp Bare) toks ShapedStatement ts e
eval_closes ts n h = statement_closes ts n h

-- what is read as a statement expression is read as an expression
pub eval_runs : (ts : List Token) (n : State Bare) → bare_statement_run start ts ≡ Some n → bare_run start ts ≡ Some n
eval_runs ts n h = (run_kept start ts n h refl).0

-- a name, as a type
pub name_toks : (e : Exp Bare) (t : TypeName Bare) → name_type e ≡ Some t → toks e ≡ type_toks t
name_toks (name m w) t h = let k : named tt None w ≡ t = same_Some _ _ h in ap type_toks k
name_toks (field m (name n o) w) t h = let k : named tt (Some o) w ≡ t = same_Some _ _ h in ap type_toks k
name_toks _ t h = absurd cc

-- where nothing is begun, nothing was read
pub exp_unread : (ts : List Token) → bare_run start ts ≡ Some start → ts ≡ []
exp_unread ts h = let r = at_some (bare_run start ts) start (RunSound start ts) h (run_sound start ts from_nothing) in sym (append-nil ts) ∙ r.spelled []

-- ---- with places

pub exp_step-bare : (s : State Span) (at : Span) (t : Token) → option_map bare_state (step join s at t) ≡ bare_step (bare_state s) t
exp_step-bare s at t = step-bare join s at t

pub eval_step-bare : (s : State Span) (at : Span) (t : Token) → option_map bare_state (statement_step join s at t) ≡ bare_statement_step (bare_state s) t
eval_step-bare s at t = statement_step-bare join s at t

pub exp_whole-bare : (s : State Span) → option_map bare (whole join s) ≡ bare_whole (bare_state s)
exp_whole-bare s = whole-bare join s

pub eval_whole-bare : (s : State Span) → option_map bare (statement_whole join s) ≡ bare_statement_whole (bare_state s)
eval_whole-bare s = statement_whole-bare join s

pub name_type-bare : (e : Exp Span) → name_type (bare e) ≡ option_map bare_type (name_type e)
unfolding map_exp
name_type-bare (name m w) = refl
name_type-bare (field m (name n o) w) = refl
name_type-bare _ = refl
