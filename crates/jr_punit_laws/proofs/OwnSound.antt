-- What the machine has read of a member that is no class.
use Rattle.std.proofs.Common.{◌≡◌, ℕ, true, List, [], ◌∷◌, ◌++◌, Option, Some, None, refl, sym, ap, subst, ◌∙◌, append_assoc}
use Rattle.std.specs.Prelude.{option_and_then, option_map, IfSome}
use Rattle.std.specs.Str.{bytes_eq}
use Rattle.std.proofs.lemmas.Slice.Eq.{bytes_eq-Decides}
use Rattle.std.proofs.lemmas.Bool.{cond_both}
use Rattle.jr_lex.specs.declared.items.Keyword.TheVariants.{Super, Void}
use Rattle.jr_lex.specs.declared.items.Symbol.TheVariants.{OpenParen, CloseParen, OpenBrace, CloseBrace, Semicolon, Equals}
use Rattle.jr_ast.specs.Tree.{Word, TypeName, int, boolean, named, Exp, Exps}
use Rattle.jr_ast.specs.StatementTree as S
use Rattle.jr_ast.specs.MemberTree.{Param, field}
use Rattle.jr_grammar.specs.Tokens.{Token, word, keyword, symbol}
use Rattle.jr_grammar.specs.Spelling.{type_toks, args_toks}
use Rattle.jr_grammar.specs.Shape.{AllShaped}
use Rattle.jr_grammar.specs.MemberSpelling.{modifiers_toks, params_toks, result_toks, super_toks}
use Rattle.jr_grammar.specs.MemberShape.{ShapedArgs, MemberShaped}
use Rattle.jr_grammar.specs.Bare.{Bare}
use Rattle.jr_pexpr.specs.Machine as E
use Rattle.jr_pexpr.specs.Machine.{begun}
use Rattle.jr_pexpr.specs.BareMachine.{no_join, bare_step, bare_run, bare_whole}
use Rattle.jr_pstmt.specs.Cues.{Cue, a_word, a_modifier, a_void, a_super, an_open, a_semicolon, an_equals, cue_token, cue_of}
use Rattle.jr_pstmt.specs.Inside.{inner}
use Rattle.jr_pstmt.specs.TypeMachine as T
use Rattle.jr_pstmt.specs.ArgumentMachine as Arguments
use Rattle.jr_pstmt.specs.ParameterMachine as Parameters
use Rattle.jr_pstmt.specs.StatementMachine as Statements
use Rattle.jr_pstmt.specs.StatementMachine.{from_ready}
use Rattle.jr_pstmt.specs.OwnMachine.{Lead, Head, method_head, constructor_head, Constructor, Body, method_body, constructor_body, State, modified, in_type, voided, worded, in_value, in_params, headed, in_constructor, at_super, in_super, behind_super, in_body, done, from_modified, own_name, begin_constructor, behind_type, from_type, from_voided, from_worded, field_with, from_value, behind_params, from_params, body_of, built, body_closed, from_body, without_super, from_constructor, super_read, from_super, arguments_closed, from_arguments, with_super, cue_step}
use Rattle.jr_punit_laws.specs.Machines.{list_step, list_whole, list_run}
use Rattle.jr_pstmt.proofs.CueTokens.{cue_back, semicolon_both, close_both, open_brace_both, close_brace_both}
use Rattle.jr_pstmt.proofs.Inside.{inner_both, run_one}
use Rattle.jr_punit_laws.proofs.Expressions.{exp_sound}
use Rattle.jr_punit_laws.proofs.Types as Types
use Rattle.jr_punit_laws.proofs.Arguments.{args_step, args_whole, args_run, args_sound}
use Rattle.jr_punit_laws.proofs.Parameters as Params
use Rattle.jr_punit_laws.proofs.StatementEnds.{list_sound}
use Rattle.jr_punit_laws.proofs.MemberSpell.{spell_member, modifiers-one, super-is}
use Rattle.jr_punit_laws.proofs.OwnComplete.{own_step, Modifiers, lead}

-- ---- what has been read

abbrev pub spell_lead : Lead Bare → List Token → List Token
spell_lead l x = modifiers_toks l.modifiers ++ x

abbrev pub spell_head : Head Bare → List Token → List Token
spell_head (method_head l result w) x = spell_lead l (result_toks result ++ (word w.text ∷ symbol OpenParen ∷ x))
spell_head (constructor_head l w) x = spell_lead l (word w.text ∷ symbol OpenParen ∷ x)

abbrev pub spell_constructor : Constructor Bare → List Token → List Token
spell_constructor k x = spell_lead k.lead (word k.word.text ∷ symbol OpenParen ∷ (params_toks k.params ++ (symbol CloseParen ∷ symbol OpenBrace ∷ x)))

abbrev pub spell_body : Body Bare → List Token → List Token
spell_body (method_body l result w ps) x = spell_lead l (result_toks result ++ (word w.text ∷ symbol OpenParen ∷ (params_toks ps ++ (symbol CloseParen ∷ symbol OpenBrace ∷ x))))
spell_body (constructor_body k args) x = spell_constructor k (super_toks args ++ x)

-- b has what the machine inside has read
abbrev pub spell_state : State Bare → List Token → List Token → List Token
spell_state (modified ms) b x = modifiers_toks ms ++ x
spell_state (in_type l s) b x = spell_lead l (Types.spell_state s x)
spell_state (voided l) b x = spell_lead l (keyword Void ∷ x)
spell_state (worded l result w) b x = spell_lead l (result_toks result ++ (word w.text ∷ x))
spell_state (in_value l t w s) b x = spell_lead l (type_toks t ++ (word w.text ∷ symbol Equals ∷ (b ++ x)))
spell_state (in_params h s) b x = spell_head h (Params.spell_state s x)
spell_state (headed h ps) b x = spell_head h (params_toks ps ++ (symbol CloseParen ∷ x))
spell_state (in_constructor k) b x = spell_constructor k x
spell_state (at_super k m) b x = spell_constructor k (keyword Super ∷ x)
spell_state (in_super k s) b x = spell_constructor k (keyword Super ∷ symbol OpenParen ∷ (b ++ x))
spell_state (behind_super k es) b x = spell_constructor k (keyword Super ∷ symbol OpenParen ∷ (args_toks es ++ (symbol CloseParen ∷ x)))
spell_state (in_body body s) b x = spell_body body (b ++ x)
spell_state (done d) b x = spell_member d x

-- ---- what stands there is well formed, in the class that has the name

abbrev pub GoodHead : List ℕ → Head Bare → Type 0
GoodHead name (method_head l result w) = Unit {0}
GoodHead name (constructor_head l w) = w.text ≡ name

abbrev pub GoodConstructor : List ℕ → Constructor Bare → Type 0
GoodConstructor name k = k.word.text ≡ name

abbrev pub GoodBody : List ℕ → Body Bare → Type 0
GoodBody name (method_body l result w ps) = Unit {0}
GoodBody name (constructor_body k args) = GoodConstructor name k × ShapedArgs args

abbrev pub Good : List ℕ → State Bare → List Token → Type 0
Good name (modified ms) b = Unit {0}
Good name (in_type l s) b = Types.Good true s
Good name (voided l) b = Unit {0}
Good name (worded l result w) b = Unit {0}
Good name (in_value l t w s) b = bare_run (E.want []) b ≡ Some s
Good name (in_params h s) b = GoodHead name h × Params.Good s
Good name (headed h ps) b = GoodHead name h
Good name (in_constructor k) b = GoodConstructor name k
Good name (at_super k m) b = GoodConstructor name k
Good name (in_super k s) b = GoodConstructor name k × (args_run Arguments.start b ≡ Some s)
Good name (behind_super k es) b = GoodConstructor name k × AllShaped es
Good name (in_body body s) b = GoodBody name body × (list_run Statements.start b ≡ Some s)
Good name (done d) b = MemberShaped true name d

-- ---- one step

pub record Sound (name : List ℕ) (s : State Bare) (b : List Token) (t : Token) (n : State Bare) : Type 0 where
  pub inside : List Token
  pub good : Good name n inside
  pub spelled : (x : List Token) → spell_state s b (t ∷ x) ≡ spell_state n inside x

abbrev pub StepSound : List ℕ → State Bare → List Token → Token → Option (State Bare) → Type 0
StepSound name s b t o = IfSome o (Sound name s b t)

again : (name : List ℕ) (s r : State Bare) (b c : List Token) (t : Token) (o : Option (State Bare)) → ((x : List Token) → spell_state s b x ≡ spell_state r c x) → StepSound name r c t o → StepSound name s b t o
again name s r b c t None e h = tt
again name s r b c t (Some n) e h = record { inside = h.inside; good = h.good; spelled = λ x. e (t ∷ x) ∙ h.spelled x }

-- ---- modifiers, types and words

type_begun_sound : (name : List ℕ) (ms : Modifiers) (b : List Token) (q : Cue) → StepSound name (modified ms) b (cue_token q) (option_map (in_type (lead ms)) (T.from_want true tt q))
type_begun_sound name ms b q = go (T.from_want true tt q) (Types.cue_sound true (T.want true) q refl)
  where
    go : (o : Option (T.State Bare)) → Types.StepSound true (T.want true) (cue_token q) o → StepSound name (modified ms) b (cue_token q) (option_map (in_type (lead ms)) o)
    go None h = tt
    go (Some n) h = record { inside = []; good = h.good; spelled = λ x. ap (spell_lead (lead ms)) (h.spelled x) }

modified_sound : (name : List ℕ) (ms : Modifiers) (b : List Token) (q : Cue) → StepSound name (modified ms) b (cue_token q) (from_modified ms tt q)
modified_sound name ms b (a_modifier w) = record { inside = []; good = tt; spelled = λ x. sym (modifiers-one ms (record { mark = tt; word = w }) x) }
modified_sound name ms b a_void = record { inside = []; good = tt; spelled = λ x. refl }
modified_sound name ms b q = type_begun_sound name ms b q

-- behind a type stands a constructor's parenthesis only where the type is the class's name
constructor_sound : (name : List ℕ) (l : Lead Bare) (t : TypeName Bare) (b : List Token) → StepSound name (in_type l (T.have t)) b (symbol OpenParen) (option_map (begin_constructor l) (own_name name t))
constructor_sound name l (int m) b = tt
constructor_sound name l (boolean m) b = tt
constructor_sound name l (named m None w) b =
    cond_both (bytes_eq w.text name) (Some w) None (λ (o : Option (Word Bare)). StepSound name (in_type l (T.have (named m None w))) b (symbol OpenParen) (option_map (begin_constructor l) o))
    (λ h. record { inside = []; good = ((bytes_eq-Decides w.text name).0 h, tt); spelled = λ x. refl })
    (λ _. tt)
constructor_sound name l (named m (Some o) w) b = tt

behind_type_sound : (name : List ℕ) (l : Lead Bare) (s : T.State Bare) (b : List Token) (q : Cue) → StepSound name (in_type l s) b (cue_token q) (option_and_then (behind_type name l tt q) (T.whole s))
behind_type_sound name l (T.have t) b (a_word w) = record { inside = []; good = tt; spelled = λ x. refl }
behind_type_sound name l (T.have t) b an_open = constructor_sound name l t b
behind_type_sound name l (T.have t) b _ = tt
behind_type_sound name l (T.want c) b q = tt
behind_type_sound name l (T.dotted o) b q = tt

type_sound : (name : List ℕ) (l : Lead Bare) (s : T.State Bare) (b : List Token) (q : Cue) → Types.Good true s → StepSound name (in_type l s) b (cue_token q) (from_type no_join name l s tt q)
type_sound name l s b q g = go (T.cue_step no_join s tt q) (Types.cue_sound true s q g)
  where
    go : (o : Option (T.State Bare)) → Types.StepSound true s (cue_token q) o → StepSound name (in_type l s) b (cue_token q) (inner (in_type l) (option_and_then (behind_type name l tt q) (T.whole s)) o)
    go None h = behind_type_sound name l s b q
    go (Some n) h = record { inside = []; good = h.good; spelled = λ x. ap (spell_lead l) (h.spelled x) }

voided_sound : (name : List ℕ) (l : Lead Bare) (b : List Token) (q : Cue) → StepSound name (voided l) b (cue_token q) (from_voided l tt q)
voided_sound name l b (a_word w) = record { inside = []; good = tt; spelled = λ x. refl }
voided_sound name l b _ = tt

worded_sound : (name : List ℕ) (l : Lead Bare) (result : Option (TypeName Bare)) (w : Word Bare) (b : List Token) (q : Cue) → StepSound name (worded l result w) b (cue_token q) (from_worded no_join l result w tt q)
worded_sound name l (Some t) w b a_semicolon = record { inside = []; good = tt; spelled = λ x. refl }
worded_sound name l None w b a_semicolon = tt
worded_sound name l (Some t) w b an_equals = record { inside = []; good = refl; spelled = λ x. refl }
worded_sound name l None w b an_equals = tt
worded_sound name l (Some t) w b an_open = record { inside = []; good = (tt, tt); spelled = λ x. refl }
worded_sound name l None w b an_open = record { inside = []; good = (tt, tt); spelled = λ x. refl }
worded_sound name l result w b _ = tt

value_sound : (name : List ℕ) (l : Lead Bare) (t : TypeName Bare) (w : Word Bare) (s : E.State Bare) (b : List Token) (q : Cue) → bare_run (E.want []) b ≡ Some s
    → StepSound name (in_value l t w s) b (cue_token q) (from_value no_join l t w s tt (cue_token q) q)
value_sound name l t w s b q g =
    inner_both (in_value l t w) (option_and_then (field_with no_join l t w tt q) (bare_whole s)) (bare_step s (cue_token q)) (StepSound name (in_value l t w s) b (cue_token q))
    (λ n e. record {
      inside = b ++ (cue_token q ∷ []);
      good = run_one (E.State Bare) (Exp Bare) bare_step bare_whole (E.want []) s n b (cue_token q) g e;
      spelled = λ x. ap (λ (y : List Token). spell_lead l (type_toks t ++ (word w.text ∷ symbol Equals ∷ y))) (sym (append_assoc b (cue_token q ∷ []) x));
    })
    (λ _. go (bare_whole s) refl)
  where
    go : (o : Option (Exp Bare)) → bare_whole s ≡ o → StepSound name (in_value l t w s) b (cue_token q) (option_and_then (field_with no_join l t w tt q) o)
    go None e = tt
    go (Some d) e =
        let r = exp_sound b s d g e in
        semicolon_both q (done (field tt l.modifiers t w (Some d))) (StepSound name (in_value l t w s) b)
        (record { inside = []; good = r.0; spelled = λ x. ap (λ (ts : List Token). spell_lead l (type_toks t ++ (word w.text ∷ symbol Equals ∷ (ts ++ (symbol Semicolon ∷ x))))) (sym r.1) })
        (λ u. tt)

-- ---- parameters

head_spelled : (h : Head Bare) (y z : List Token) → y ≡ z → spell_head h y ≡ spell_head h z
head_spelled h y z e = ap (spell_head h) e

behind_params_sound : (name : List ℕ) (h : Head Bare) (s : Parameters.State Bare) (b : List Token) (q : Cue) → GoodHead name h → StepSound name (in_params h s) b (cue_token q) (option_and_then (behind_params h q) (Parameters.whole s))
behind_params_sound name h s b q g = go (Parameters.whole s) refl
  where
    go : (o : Option (List (Param Bare))) → Parameters.whole s ≡ o → StepSound name (in_params h s) b (cue_token q) (option_and_then (behind_params h q) o)
    go None e = tt
    go (Some ps) e =
        close_both q (headed h ps) (StepSound name (in_params h s) b)
        (record { inside = []; good = g; spelled = λ x. ap (spell_head h) (Params.whole_is s ps e (symbol CloseParen ∷ x)) })
        (λ u. tt)

params_sound : (name : List ℕ) (h : Head Bare) (s : Parameters.State Bare) (b : List Token) (q : Cue) → GoodHead name h → Params.Good s → StepSound name (in_params h s) b (cue_token q) (from_params no_join h s tt q)
params_sound name h s b q g k = go (Parameters.cue_step no_join s tt q) (Params.cue_sound s q k)
  where
    go : (o : Option (Parameters.State Bare)) → Params.StepSound s (cue_token q) o → StepSound name (in_params h s) b (cue_token q) (inner (in_params h) (option_and_then (behind_params h q) (Parameters.whole s)) o)
    go None h2 = behind_params_sound name h s b q g
    go (Some n) r = record { inside = []; good = (g, r.good); spelled = λ x. ap (spell_head h) (r.spelled x) }

body_begun_sound : (name : List ℕ) (h : Head Bare) (ps : List (Param Bare)) (b : List Token) → GoodHead name h → Sound name (headed h ps) b (symbol OpenBrace) (body_of h ps)
body_begun_sound name (method_head l result w) ps b g = record { inside = []; good = (tt, refl); spelled = λ x. refl }
body_begun_sound name (constructor_head l w) ps b g = record { inside = []; good = g; spelled = λ x. refl }

-- ---- bodies

built_sound : (name : List ℕ) (body : Body Bare) (s : Statements.State Bare) (b : List Token) (items : S.Stmts Bare) → GoodBody name body → list_run Statements.start b ≡ Some s → list_whole s ≡ Some items
    → Sound name (in_body body s) b (symbol CloseBrace) (done (built no_join body tt items))
built_sound name (method_body l result w ps) s b items g h k =
    let r = list_sound b s items h k in
    record { inside = []; good = r.0; spelled = λ x. ap (λ (ts : List Token). spell_body (method_body l result w ps) (ts ++ (symbol CloseBrace ∷ x))) (sym r.1) }
built_sound name (constructor_body c args) s b items g h k =
    let r = list_sound b s items h k in
    record { inside = []; good = (g.0, g.1, r.0); spelled = λ x. ap (λ (ts : List Token). spell_body (constructor_body c args) (ts ++ (symbol CloseBrace ∷ x))) (sym r.1) }

pub body_sound : (name : List ℕ) (body : Body Bare) (s : Statements.State Bare) (b : List Token) (q : Cue) → GoodBody name body → list_run Statements.start b ≡ Some s
    → StepSound name (in_body body s) b (cue_token q) (from_body no_join body s tt (cue_token q) q)
body_sound name body s b q g h =
    inner_both (in_body body) (option_and_then (body_closed no_join body tt q) (list_whole s)) (list_step s (cue_token q)) (StepSound name (in_body body s) b (cue_token q))
    (λ n e. record {
      inside = b ++ (cue_token q ∷ []);
      good = (g, run_one (Statements.State Bare) (S.Stmts Bare) list_step list_whole Statements.start s n b (cue_token q) h e);
      spelled = λ x. ap (spell_body body) (sym (append_assoc b (cue_token q ∷ []) x));
    })
    (λ _. go (list_whole s) refl)
  where
    go : (o : Option (S.Stmts Bare)) → list_whole s ≡ o → StepSound name (in_body body s) b (cue_token q) (option_and_then (body_closed no_join body tt q) o)
    go None e = tt
    go (Some items) e = close_brace_both q (done (built no_join body tt items)) (StepSound name (in_body body s) b) (built_sound name body s b items g h e) (λ u. tt)

-- ---- constructors

plain_sound : (name : List ℕ) (k : Constructor Bare) (b : List Token) (q : Cue) → GoodConstructor name k → StepSound name (in_constructor k) b (cue_token q) (from_body no_join (without_super k) Statements.start tt (cue_token q) q)
plain_sound name k b q g =
    again name (in_constructor k) (in_body (without_super k) Statements.start) b [] (cue_token q) (from_body no_join (without_super k) Statements.start tt (cue_token q) q) (λ x. refl)
    (body_sound name (without_super k) Statements.start [] q (g, tt) refl)

from_constructor_sound : (name : List ℕ) (k : Constructor Bare) (b : List Token) (q : Cue) → GoodConstructor name k → StepSound name (in_constructor k) b (cue_token q) (from_constructor no_join k tt (cue_token q) q)
from_constructor_sound name k b a_super g = record { inside = []; good = g; spelled = λ x. refl }
from_constructor_sound name k b q g = plain_sound name k b q g

super_runs : list_run Statements.start (keyword Super ∷ []) ≡ Some (super_read tt)
unfolding begun from_ready
super_runs = refl

super_statement_sound : (name : List ℕ) (k : Constructor Bare) (m : Bare) (b : List Token) (q : Cue) → GoodConstructor name k
    → StepSound name (at_super k m) b (cue_token q) (from_body no_join (without_super k) (super_read m) tt (cue_token q) q)
super_statement_sound name k m b q g =
    again name (at_super k m) (in_body (without_super k) (super_read m)) b (keyword Super ∷ []) (cue_token q) (from_body no_join (without_super k) (super_read m) tt (cue_token q) q) (λ x. refl)
    (body_sound name (without_super k) (super_read m) (keyword Super ∷ []) q (g, tt) super_runs)

from_super_sound : (name : List ℕ) (k : Constructor Bare) (m : Bare) (b : List Token) (q : Cue) → GoodConstructor name k → StepSound name (at_super k m) b (cue_token q) (from_super no_join k m tt (cue_token q) q)
from_super_sound name k m b an_open g = record { inside = []; good = (g, refl); spelled = λ x. refl }
from_super_sound name k m b q g = super_statement_sound name k m b q g

arguments_sound : (name : List ℕ) (k : Constructor Bare) (s : Arguments.State Bare) (b : List Token) (q : Cue) → GoodConstructor name k → args_run Arguments.start b ≡ Some s
    → StepSound name (in_super k s) b (cue_token q) (from_arguments no_join k s tt (cue_token q) q)
arguments_sound name k s b q g h =
    inner_both (in_super k) (option_and_then (arguments_closed k q) (args_whole s)) (args_step s (cue_token q)) (StepSound name (in_super k s) b (cue_token q))
    (λ n e. record {
      inside = b ++ (cue_token q ∷ []);
      good = (g, run_one (Arguments.State Bare) (Exps Bare) args_step args_whole Arguments.start s n b (cue_token q) h e);
      spelled = λ x. ap (λ (y : List Token). spell_constructor k (keyword Super ∷ symbol OpenParen ∷ y)) (sym (append_assoc b (cue_token q ∷ []) x));
    })
    (λ _. go (args_whole s) refl)
  where
    go : (o : Option (Exps Bare)) → args_whole s ≡ o → StepSound name (in_super k s) b (cue_token q) (option_and_then (arguments_closed k q) o)
    go None e = tt
    go (Some es) e =
        let r = args_sound b s es h e in
        close_both q (behind_super k es) (StepSound name (in_super k s) b)
        (record { inside = []; good = (g, r.0); spelled = λ x. ap (λ (ts : List Token). spell_constructor k (keyword Super ∷ symbol OpenParen ∷ (ts ++ (symbol CloseParen ∷ x)))) (sym r.1) })
        (λ u. tt)

with_super_spelled : (k : Constructor Bare) (es : Exps Bare) (x : List Token) → spell_constructor k (keyword Super ∷ symbol OpenParen ∷ (args_toks es ++ (symbol CloseParen ∷ symbol Semicolon ∷ x))) ≡ spell_constructor k (super_toks (Some es) ++ x)
with_super_spelled k es x = ap (spell_constructor k) (sym (super-is es x))

-- ---- the whole

cue_sound : (name : List ℕ) (s : State Bare) (b : List Token) (q : Cue) → Good name s b → StepSound name s b (cue_token q) (cue_step no_join name s tt (cue_token q) q)
cue_sound name (modified ms) b q g = modified_sound name ms b q
cue_sound name (in_type l s) b q g = type_sound name l s b q g
cue_sound name (voided l) b q g = voided_sound name l b q
cue_sound name (worded l result w) b q g = worded_sound name l result w b q
cue_sound name (in_value l t w s) b q g = value_sound name l t w s b q g
cue_sound name (in_params h s) b q g = params_sound name h s b q g.0 g.1
cue_sound name (headed h ps) b q g = open_brace_both q (body_of h ps) (StepSound name (headed h ps) b) (body_begun_sound name h ps b g) (λ u. tt)
cue_sound name (in_constructor k) b q g = from_constructor_sound name k b q g
cue_sound name (at_super k m) b q g = from_super_sound name k m b q g
cue_sound name (in_super k s) b q g = arguments_sound name k s b q g.0 g.1
cue_sound name (behind_super k es) b q g =
    semicolon_both q (with_super k es) (StepSound name (behind_super k es) b) (record { inside = []; good = ((g.0, g.1), refl); spelled = λ x. with_super_spelled k es x }) (λ u. tt)
cue_sound name (in_body body s) b q g = body_sound name body s b q g.0 g.1
cue_sound name (done d) b q g = tt

pub step_sound : (name : List ℕ) (s : State Bare) (b : List Token) (t : Token) → Good name s b → StepSound name s b t (own_step name s t)
step_sound name s b t g = subst (λ (u : Token). StepSound name s b u (cue_step no_join name s tt u (cue_of t))) (cue_back t) (cue_sound name s b (cue_of t) g)
