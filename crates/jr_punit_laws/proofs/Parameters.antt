-- What the machine for parameters reads.
use Rattle.std.proofs.Common.{◌≡◌, Bool, true, false, List, [], ◌∷◌, ◌++◌, Option, Some, None, refl, sym, ap, ◌∙◌, append_assoc}
use Rattle.std.specs.Prelude.{option_and_then, option_map, IfSome}
use Rattle.std.proofs.lemmas.List.{append-nil}
use Rattle.std.proofs.lemmas.Option.{same_Some}
use Rattle.jr_lex.specs.declared.items.Symbol.TheVariants.{CloseParen, Comma}
use Rattle.jr_ast.specs.declared.operators.ModWord.{ModWord}
use Rattle.jr_ast.specs.declared.operators.ModWord.TheVariants.{Final}
use Rattle.jr_ast.specs.Tree.{Word, TypeName, int, boolean, named as named_type}
use Rattle.jr_ast.specs.MemberTree.{Param}
use Rattle.jr_grammar.specs.Tokens.{Token, word, symbol}
use Rattle.jr_grammar.specs.Spelling.{type_toks}
use Rattle.jr_grammar.specs.StatementSpelling.{final_toks}
use Rattle.jr_grammar.specs.MemberSpelling.{param_toks, params_toks, more_params_toks}
use Rattle.jr_grammar.specs.Bare.{Bare}
use Rattle.jr_pexpr.specs.Runs as Runs
use Rattle.jr_pexpr.specs.BareMachine.{no_join}
use Rattle.jr_pstmt.specs.Cues.{Cue, a_word, a_modifier, cue_token, cue_of}
use Rattle.jr_pstmt.specs.Inside.{inner}
use Rattle.jr_pstmt.specs.TypeMachine as T
use Rattle.jr_pstmt.specs.ParameterMachine.{State, want, in_type, have, start, begin_type, begin_final, from_want, named, from_type, cue_step, step, whole}
use Rattle.jr_pstmt.proofs.CueTokens.{comma_both}
use Rattle.jr_pstmt.proofs.Inside.{read_in}
use Rattle.jr_punit_laws.proofs.Types as Types
use Rattle.jr_punit_laws.proofs.Types.{type_step, any_read, a_name}

abbrev pub Params : Type 0
Params = List (Param Bare)

abbrev pub params_step : State Bare → Token → Option (State Bare)
params_step s t = step no_join s tt t

abbrev pub params_run : State Bare → List Token → Option (State Bare)
params_run s ts = Runs.run (State Bare) Token Params params_step whole s ts

-- ---- all parameters are read

abbrev taken : Params → Bool → T.State Bare → Token → Option (State Bare)
taken ps f s t = option_and_then (named no_join ps tt f tt (cue_of t)) (T.whole s)

abbrev param : Bool → TypeName Bare → Word Bare → Param Bare
param f t w = record { mark = tt; is_final = f; type = t; name = w }

param_read : (ps : Params) (f : Bool) (t : TypeName Bare) (w : Word Bare) (x : List Token) → params_run (want ps) (final_toks f ++ (type_toks t ++ (word w.text ∷ x))) ≡ params_run (have (ps ++ (param f t w ∷ []))) x
param_read ps true t w x =
    read_in (T.State Bare) (TypeName Bare) (State Bare) Params type_step T.whole params_step whole (in_type ps tt true) (taken ps true) (λ s u. refl)
    (type_toks t) (T.want true) (T.have t) (word w.text) x (have (ps ++ (param true t w ∷ []))) (any_read t) refl refl
param_read ps false (int m) w x = refl
param_read ps false (boolean m) w x = refl
param_read ps false (named_type m None v) w x = refl
param_read ps false (named_type m (Some o) v) w x = refl

param_toks-is : (p : Param Bare) (x : List Token) → param_toks p ++ x ≡ final_toks p.is_final ++ (type_toks p.type ++ (word p.name.text ∷ x))
param_toks-is p x = append_assoc (final_toks p.is_final) (type_toks p.type ++ (word p.name.text ∷ [])) x ∙ ap (λ (y : List Token). final_toks p.is_final ++ y) (append_assoc (type_toks p.type) (word p.name.text ∷ []) x)

one_read : (ps : Params) (p : Param Bare) (x : List Token) → params_run (want ps) (param_toks p ++ x) ≡ params_run (have (ps ++ (p ∷ []))) x
one_read ps p x = ap (params_run (want ps)) (param_toks-is p x) ∙ param_read ps p.is_final p.type p.name x

more_read : (qs ps : Params) → params_run (have ps) (more_params_toks qs) ≡ Some (have (ps ++ qs))
more_read [] ps = ap (λ (rs : Params). Some (have rs)) (sym (append-nil ps))
more_read (q ∷ qs) ps = one_read ps q (more_params_toks qs) ∙ more_read qs (ps ++ (q ∷ [])) ∙ ap (λ (rs : Params). Some (have rs)) (append_assoc ps (q ∷ []) qs)

pub record ParamsRead (ps : Params) : Type 0 where
  pub last : State Bare
  pub runs : params_run start (params_toks ps) ≡ Some last
  pub is_whole : whole last ≡ Some ps
  pub at_close : params_step last (symbol CloseParen) ≡ None

pub params_read : (ps : Params) → ParamsRead ps
params_read [] = record { last = start; runs = refl; is_whole = refl; at_close = refl }
params_read (p ∷ ps) = record { last = have (p ∷ ps); runs = one_read [] p (more_params_toks ps) ∙ more_read ps (p ∷ []); is_whole = refl; at_close = refl }

-- ---- what has been read

-- parameters, each with a comma behind it
abbrev pub spell_each : Params → List Token → List Token
spell_each [] x = x
spell_each (p ∷ ps) x = param_toks p ++ (symbol Comma ∷ spell_each ps x)

more-one : (ps : Params) (p : Param Bare) (x : List Token) → more_params_toks (ps ++ (p ∷ [])) ++ x ≡ symbol Comma ∷ spell_each ps (param_toks p ++ x)
more-one [] p x = ap (λ (y : List Token). symbol Comma ∷ (y ++ x)) (append-nil (param_toks p))
more-one (q ∷ ps) p x =
    ap (λ (y : List Token). symbol Comma ∷ y) (append_assoc (param_toks q) (more_params_toks (ps ++ (p ∷ []))) x ∙ ap (λ (y : List Token). param_toks q ++ y) (more-one ps p x))

params-one : (ps : Params) (p : Param Bare) (x : List Token) → params_toks (ps ++ (p ∷ [])) ++ x ≡ spell_each ps (param_toks p ++ x)
params-one [] p x = ap (λ (y : List Token). y ++ x) (append-nil (param_toks p))
params-one (q ∷ ps) p x = append_assoc (param_toks q) (more_params_toks (ps ++ (p ∷ []))) x ∙ ap (λ (y : List Token). param_toks q ++ y) (more-one ps p x)

more-comma : (ps : Params) (x : List Token) → more_params_toks ps ++ (symbol Comma ∷ x) ≡ symbol Comma ∷ spell_each ps x
more-comma [] x = refl
more-comma (p ∷ ps) x = ap (λ (y : List Token). symbol Comma ∷ y) (append_assoc (param_toks p) (more_params_toks ps) (symbol Comma ∷ x) ∙ ap (λ (y : List Token). param_toks p ++ y) (more-comma ps x))

abbrev pub IsMore : Params → Type 0
IsMore [] = ⊥
IsMore (p ∷ ps) = Unit {0}

more_behind : (ps : Params) (p : Param Bare) → IsMore (ps ++ (p ∷ []))
more_behind [] p = tt
more_behind (q ∷ ps) p = tt

params-comma : (ps : Params) (x : List Token) → IsMore ps → params_toks ps ++ (symbol Comma ∷ x) ≡ spell_each ps x
params-comma [] x h = absurd h
params-comma (p ∷ ps) x h = append_assoc (param_toks p) (more_params_toks ps) (symbol Comma ∷ x) ∙ ap (λ (y : List Token). param_toks p ++ y) (more-comma ps x)

abbrev pub spell_state : State Bare → List Token → List Token
spell_state (want ps) x = spell_each ps x
spell_state (in_type ps m f s) x = spell_each ps (final_toks f ++ Types.spell_state s x)
spell_state (have ps) x = params_toks ps ++ x

abbrev pub Good : State Bare → Type 0
Good (want ps) = Unit {0}
Good (in_type ps m f s) = Types.Good true s
Good (have ps) = IsMore ps

pub record Sound (s : State Bare) (t : Token) (n : State Bare) : Type 0 where
  pub good : Good n
  pub spelled : (x : List Token) → spell_state s (t ∷ x) ≡ spell_state n x

abbrev pub StepSound : State Bare → Token → Option (State Bare) → Type 0
StepSound s t o = IfSome o (Sound s t)

type_begun_sound : (ps : Params) (q : Cue) → StepSound (want ps) (cue_token q) (begin_type ps tt q)
type_begun_sound ps q = go (T.from_want true tt q) (Types.cue_sound true (T.want true) q refl)
  where
    go : (o : Option (T.State Bare)) → Types.StepSound true (T.want true) (cue_token q) o → StepSound (want ps) (cue_token q) (option_map (in_type ps tt false) o)
    go None h = tt
    go (Some n) h = record { good = h.good; spelled = λ x. ap (spell_each ps) (h.spelled x) }

final_sound : (ps : Params) (m : ModWord) → StepSound (want ps) (cue_token (a_modifier m)) (begin_final ps tt m)
final_sound ps Final = record { good = refl; spelled = λ x. refl }
final_sound ps _ = tt

want_sound : (ps : Params) (q : Cue) → StepSound (want ps) (cue_token q) (from_want ps tt q)
want_sound ps (a_modifier m) = final_sound ps m
want_sound ps q = type_begun_sound ps q

named_sound : (ps : Params) (m : Bare) (f : Bool) (s : T.State Bare) (q : Cue) → StepSound (in_type ps m f s) (cue_token q) (option_and_then (named no_join ps m f tt q) (T.whole s))
named_sound ps m f (T.have t) (a_word w) =
    let p = param f t (record { mark = tt; text = w }) in
    record { good = more_behind ps p; spelled = λ x. ap (spell_each ps) (sym (param_toks-is p x)) ∙ sym (params-one ps p x) }
named_sound ps m f (T.have t) _ = tt
named_sound ps m f (T.want c) q = tt
named_sound ps m f (T.dotted o) q = tt

type_sound : (ps : Params) (m : Bare) (f : Bool) (s : T.State Bare) (q : Cue) → Types.Good true s → StepSound (in_type ps m f s) (cue_token q) (from_type no_join ps m f s tt q)
type_sound ps m f s q g = go (T.cue_step no_join s tt q) (Types.cue_sound true s q g)
  where
    go : (o : Option (T.State Bare)) → Types.StepSound true s (cue_token q) o → StepSound (in_type ps m f s) (cue_token q) (inner (in_type ps m f) (option_and_then (named no_join ps m f tt q) (T.whole s)) o)
    go None h = named_sound ps m f s q
    go (Some n) h = record { good = h.good; spelled = λ x. ap (λ (y : List Token). spell_each ps (final_toks f ++ y)) (h.spelled x) }

pub cue_sound : (s : State Bare) (q : Cue) → Good s → StepSound s (cue_token q) (cue_step no_join s tt q)
cue_sound (want ps) q g = want_sound ps q
cue_sound (in_type ps m f s) q g = type_sound ps m f s q g
cue_sound (have ps) q g = comma_both q (want ps) (StepSound (have ps)) (record { good = tt; spelled = λ x. params-comma ps x g }) (λ u. tt)

-- ---- what is whole, and what can be ended

pub whole_is : (s : State Bare) (ps : Params) → whole s ≡ Some ps → (x : List Token) → spell_state s x ≡ params_toks ps ++ x
whole_is (want []) ps h x = ap (λ (rs : Params). params_toks rs ++ x) (same_Some [] ps h)
whole_is (want (q ∷ qs)) ps h x = absurd cc
whole_is (in_type qs m f s) ps h x = absurd cc
whole_is (have qs) ps h x = ap (λ (rs : Params). params_toks rs ++ x) (same_Some qs ps h)

pub record Ends (s : State Bare) : Type 0 where
  pub rest : List Token
  pub tree : Params
  pub spelled : (x : List Token) → spell_state s (rest ++ x) ≡ params_toks tree ++ x

with_param : (ps : Params) (f : Bool) (t : TypeName Bare) (x : List Token) → spell_each ps (final_toks f ++ (type_toks t ++ (word (97 ∷ []) ∷ x))) ≡ params_toks (ps ++ (param f t a_name ∷ [])) ++ x
with_param ps f t x = ap (spell_each ps) (sym (param_toks-is (param f t a_name) x)) ∙ sym (params-one ps (param f t a_name) x)

pub ends : (s : State Bare) → Good s → Ends s
ends (want ps) g = record { rest = word (97 ∷ []) ∷ word (97 ∷ []) ∷ []; tree = ps ++ (param false (named_type tt None a_name) a_name ∷ []); spelled = with_param ps false (named_type tt None a_name) }
ends (in_type ps m f s) g =
    let c = Types.ends true s g in
    record {
      rest = c.rest ++ (word (97 ∷ []) ∷ []);
      tree = ps ++ (param f c.tree a_name ∷ []);
      spelled = λ x.
          ap (λ (y : List Token). spell_each ps (final_toks f ++ Types.spell_state s y)) (append_assoc c.rest (word (97 ∷ []) ∷ []) x)
          ∙ ap (λ (y : List Token). spell_each ps (final_toks f ++ y)) (c.spelled (word (97 ∷ []) ∷ x))
          ∙ with_param ps f c.tree x;
    }
ends (have ps) g = record { rest = []; tree = ps; spelled = λ x. refl }
