-- What the machine for types reads.
use Rattle.std.proofs.Common.{◌≡◌, Bool, true, false, List, [], ◌∷◌, ◌++◌, Option, Some, None, refl, subst}
use Rattle.std.specs.Prelude.{IfSome}
use Rattle.jr_lex.specs.declared.items.Symbol.TheVariants.{Dot}
use Rattle.jr_ast.specs.Tree.{Word, TypeName, int, boolean, named}
use Rattle.jr_grammar.specs.Tokens.{Token, word, symbol}
use Rattle.jr_grammar.specs.Spelling.{type_toks}
use Rattle.jr_grammar.specs.Shape.{IsNamed}
use Rattle.jr_grammar.specs.Bare.{Bare}
use Rattle.jr_pexpr.specs.BareMachine.{no_join}
use Rattle.jr_pexpr.specs.Runs as Runs
use Rattle.jr_pstmt.specs.Cues.{an_int, a_boolean, Cue, a_word, a_primitive, a_dot, cue_token, cue_of}
use Rattle.jr_pstmt.specs.TypeMachine.{State, want, have, dotted, step, cue_step, whole, from_want, from_have, from_dotted, dot_behind}
use Rattle.jr_pstmt.proofs.CueTokens.{cue_back}

abbrev pub type_step : State Bare → Token → Option (State Bare)
type_step s t = step no_join s tt t

abbrev pub type_run : State Bare → List Token → Option (State Bare)
type_run s ts = Runs.run (State Bare) Token (TypeName Bare) type_step whole s ts

-- ---- every type is read

pub any_read : (t : TypeName Bare) → type_run (want true) (type_toks t) ≡ Some (have t)
any_read (int m) = refl
any_read (boolean m) = refl
any_read (named m None w) = refl
any_read (named m (Some o) w) = refl

pub named_read : (b : Bool) (t : TypeName Bare) → IsNamed t → type_run (want b) (type_toks t) ≡ Some (have t)
named_read b (int m) h = absurd h
named_read b (boolean m) h = absurd h
named_read b (named m None w) h = refl
named_read b (named m (Some o) w) h = refl

-- ---- what has been read

abbrev pub spell_state : State Bare → List Token → List Token
spell_state (want b) x = x
spell_state (have t) x = type_toks t ++ x
spell_state (dotted o) x = word o.text ∷ symbol Dot ∷ x

-- what may stand where b says whether `int` and `boolean` may
abbrev pub Admitted : Bool → TypeName Bare → Type 0
Admitted true t = Unit {0}
Admitted false t = IsNamed t

abbrev pub Good : Bool → State Bare → Type 0
Good b (want c) = b ≡ c
Good b (have t) = Admitted b t
Good b (dotted o) = Unit {0}

pub record Sound (b : Bool) (s : State Bare) (t : Token) (n : State Bare) : Type 0 where
  pub good : Good b n
  pub spelled : (x : List Token) → spell_state s (t ∷ x) ≡ spell_state n x

abbrev pub StepSound : Bool → State Bare → Token → Option (State Bare) → Type 0
StepSound b s t o = IfSome o (Sound b s t)

admitted_named : (b : Bool) (o : Option (Word Bare)) (w : Word Bare) → Admitted b (named tt o w)
admitted_named true o w = tt
admitted_named false o w = tt

want_sound : (b c : Bool) (q : Cue) → b ≡ c → StepSound b (want c) (cue_token q) (from_want c tt q)
want_sound b c (a_word w) e = record { good = admitted_named b None (record { mark = tt; text = w }); spelled = λ x. refl }
want_sound true true (a_primitive an_int) e = record { good = tt; spelled = λ x. refl }
want_sound true true (a_primitive a_boolean) e = record { good = tt; spelled = λ x. refl }
want_sound false true (a_primitive p) e = absurd cc
want_sound b false (a_primitive p) e = tt
want_sound b c _ e = tt

dot_sound : (b : Bool) (t : TypeName Bare) → StepSound b (have t) (symbol Dot) (dot_behind t)
dot_sound b (int m) = tt
dot_sound b (boolean m) = tt
dot_sound b (named m None w) = record { good = tt; spelled = λ x. refl }
dot_sound b (named m (Some o) w) = tt

have_sound : (b : Bool) (t : TypeName Bare) (q : Cue) → StepSound b (have t) (cue_token q) (from_have t q)
have_sound b t a_dot = dot_sound b t
have_sound b t _ = tt

dotted_sound : (b : Bool) (o : Word Bare) (q : Cue) → StepSound b (dotted o) (cue_token q) (from_dotted no_join o tt q)
dotted_sound b o (a_word w) = record { good = admitted_named b (Some o) (record { mark = tt; text = w }); spelled = λ x. refl }
dotted_sound b o _ = tt

pub cue_sound : (b : Bool) (s : State Bare) (q : Cue) → Good b s → StepSound b s (cue_token q) (cue_step no_join s tt q)
cue_sound b (want c) q g = want_sound b c q g
cue_sound b (have t) q g = have_sound b t q
cue_sound b (dotted o) q g = dotted_sound b o q

pub step_sound : (b : Bool) (s : State Bare) (t : Token) → Good b s → StepSound b s t (type_step s t)
step_sound b s t g = subst (λ (u : Token). StepSound b s u (type_step s t)) (cue_back t) (cue_sound b s (cue_of t) g)

-- ---- what has been begun can be ended

pub record Ends (b : Bool) (s : State Bare) : Type 0 where
  pub rest : List Token
  pub tree : TypeName Bare
  pub admitted : Admitted b tree
  pub spelled : (x : List Token) → spell_state s (rest ++ x) ≡ type_toks tree ++ x

abbrev pub a_name : Word Bare
a_name = record { mark = tt; text = 97 ∷ [] }

pub ends : (b : Bool) (s : State Bare) → Good b s → Ends b s
ends b (want c) g = record { rest = word (97 ∷ []) ∷ []; tree = named tt None a_name; admitted = admitted_named b None a_name; spelled = λ x. refl }
ends b (have t) g = record { rest = []; tree = t; admitted = g; spelled = λ x. refl }
ends b (dotted o) g = record { rest = word (97 ∷ []) ∷ []; tree = named tt (Some o) a_name; admitted = admitted_named b (Some o) a_name; spelled = λ x. refl }
