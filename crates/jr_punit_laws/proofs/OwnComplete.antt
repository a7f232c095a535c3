-- The machine reads every member that is no class.
use Rattle.std.proofs.Common.{◌≡◌, ℕ, true, List, [], ◌∷◌, ◌++◌, Option, Some, None, refl, sym, ap, ◌∙◌, append_assoc}
use Rattle.std.specs.Prelude.{option_and_then, option_map}
use Rattle.std.specs.Str.{bytes_eq}
use Rattle.std.proofs.lemmas.Slice.Eq.{bytes_eq-Decides}
use Rattle.std.proofs.lemmas.Bool.{cond-true}
use Rattle.std.proofs.lemmas.List.{append-nil}
use Rattle.jr_lex.specs.declared.items.Keyword.TheVariants.{Super, Void}
use Rattle.jr_lex.specs.declared.items.Symbol.TheVariants.{OpenParen, CloseParen, OpenBrace, CloseBrace, Semicolon}
use Rattle.jr_ast.specs.declared.operators.ModWord.{ModWord}
use Rattle.jr_ast.specs.declared.operators.ModWord.TheVariants.{Public, Protected, Private, Static, Final, Volatile, Synchronized}
use Rattle.jr_ast.specs.Tree.{Word, TypeName, int, boolean, named, Exp, Exps}
use Rattle.jr_ast.specs.StatementTree as S
use Rattle.jr_ast.specs.MemberTree.{Modifier, Member, field, method, constructor, inner as inner_member}
use Rattle.jr_grammar.specs.Tokens.{Token, word, keyword, symbol}
use Rattle.jr_grammar.specs.Spelling.{type_toks, toks, args_toks}
use Rattle.jr_grammar.specs.Shape.{AllShaped}
use Rattle.jr_grammar.specs.StatementSpelling.{stmts_toks}
use Rattle.jr_grammar.specs.StatementShape.{StmtsShaped, ShapedValue}
use Rattle.jr_grammar.specs.MemberSpelling.{modifier_keyword, modifiers_toks, params_toks, init_toks, result_toks, super_toks, member_toks}
use Rattle.jr_grammar.specs.MemberShape.{ShapedArgs, MemberShaped}
use Rattle.jr_grammar.specs.Bare.{Bare}
use Rattle.jr_pexpr.specs.Runs as Runs
use Rattle.jr_pexpr.specs.Machine as E
use Rattle.jr_pexpr.specs.Machine.{begun}
use Rattle.jr_pexpr.specs.BareMachine.{no_join, bare_step, bare_whole}
use Rattle.jr_pstmt.specs.Cues.{cue_of}
use Rattle.jr_pstmt.specs.ArgumentMachine as Arguments
use Rattle.jr_pstmt.specs.ParameterMachine as Parameters
use Rattle.jr_pstmt.specs.StatementMachine as Statements
use Rattle.jr_pstmt.specs.StatementMachine.{from_ready}
use Rattle.jr_pstmt.specs.OwnMachine.{Lead, Head, method_head, constructor_head, Constructor, Body, method_body, constructor_body, State, modified, worded, in_value, in_params, headed, in_constructor, in_super, behind_super, in_body, done, start, own_name, begin_constructor, field_with, behind_params, body_of, built, body_closed, without_super, arguments_closed, with_super, step, whole}
use Rattle.jr_punit_laws.specs.Machines.{list_step, list_whole, list_run}
use Rattle.jr_pstmt.proofs.Inside.{read_in}
use Rattle.jr_punit_laws.proofs.Expressions.{exp_read}
use Rattle.jr_punit_laws.proofs.Arguments.{args_step, args_whole, args_read}
use Rattle.jr_punit_laws.proofs.Parameters.{Params, params_step, params_read}
use Rattle.jr_punit_laws.proofs.StatementComplete.{list_reads}
use Rattle.jr_punit_laws.proofs.MemberSpell.{spell_member, spell_member-is, super-is}

abbrev pub own_step : List ℕ → State Bare → Token → Option (State Bare)
own_step name s t = step no_join name s tt t

abbrev pub own_run : List ℕ → State Bare → List Token → Option (State Bare)
own_run name s ts = Runs.run (State Bare) Token (Member Bare) (own_step name) whole s ts

abbrev pub Modifiers : Type 0
Modifiers = List (Modifier Bare)

abbrev pub lead : Modifiers → Lead Bare
lead ms = record { start = tt; modifiers = ms }

abbrev then_run : List ℕ → List Token → Option (State Bare) → Option (State Bare)
then_run name x o = option_and_then (λ (n : State Bare). own_run name n x) o

-- ---- modifiers

modifier_read : (name : List ℕ) (ds : Modifiers) (m : Modifier Bare) → own_step name (modified ds) (keyword (modifier_keyword m.word)) ≡ Some (modified (ds ++ (m ∷ [])))
modifier_read name ds m = go m.word refl
  where
    go : (w : ModWord) → m.word ≡ w → own_step name (modified ds) (keyword (modifier_keyword w)) ≡ Some (modified (ds ++ ((record { mark = tt; word = w }) ∷ [])))
    go Public e = refl
    go Protected e = refl
    go Private e = refl
    go Static e = refl
    go Final e = refl
    go Volatile e = refl
    go Synchronized e = refl

pub modifiers_read : (name : List ℕ) (ms ds : Modifiers) (x : List Token) → own_run name (modified ds) (modifiers_toks ms ++ x) ≡ own_run name (modified (ds ++ ms)) x
modifiers_read name [] ds x = ap (λ (r : Modifiers). own_run name (modified r) x) (sym (append-nil ds))
modifiers_read name (m ∷ ms) ds x =
    ap (then_run name (modifiers_toks ms ++ x)) (modifier_read name ds m) ∙ modifiers_read name ms (ds ++ (m ∷ [])) x ∙ ap (λ (r : Modifiers). own_run name (modified r) x) (append_assoc ds (m ∷ []) ms)

-- ---- a type or `void`, and a word

result_read : (name : List ℕ) (ms : Modifiers) (t : Option (TypeName Bare)) (w : Word Bare) (x : List Token) → own_run name (modified ms) (result_toks t ++ (word w.text ∷ x)) ≡ own_run name (worded (lead ms) t w) x
result_read name ms None w x = refl
result_read name ms (Some (int m)) w x = refl
result_read name ms (Some (boolean m)) w x = refl
result_read name ms (Some (named m None v)) w x = refl
result_read name ms (Some (named m (Some o) v)) w x = refl

-- ---- fields

abbrev value_taken : Modifiers → TypeName Bare → Word Bare → E.State Bare → Token → Option (State Bare)
value_taken ms t w s u = option_and_then (field_with no_join (lead ms) t w tt (cue_of u)) (bare_whole s)

field_read : (name : List ℕ) (ms : Modifiers) (t : TypeName Bare) (w : Word Bare) (init : Option (Exp Bare)) (x : List Token) → ShapedValue init
    → own_run name (worded (lead ms) (Some t) w) (init_toks init ++ (symbol Semicolon ∷ x)) ≡ own_run name (done (field tt ms t w init)) x
field_read name ms t w None x h = refl
field_read name ms t w (Some e) x h =
    let r = exp_read e h in
    read_in (E.State Bare) (Exp Bare) (State Bare) (Member Bare) bare_step bare_whole (own_step name) whole (in_value (lead ms) t w) (value_taken ms t w) (λ s u. refl)
    (toks e) (E.want []) r.last (symbol Semicolon) x (done (field tt ms t w (Some e))) r.runs r.at_semicolon (ap (option_and_then (field_with no_join (lead ms) t w tt (cue_of (symbol Semicolon)))) r.is_whole)

-- ---- parameters

abbrev params_taken : Head Bare → Parameters.State Bare → Token → Option (State Bare)
params_taken h s u = option_and_then (behind_params h (cue_of u)) (Parameters.whole s)

head_read : (name : List ℕ) (h : Head Bare) (ps : Params) (x : List Token) → own_run name (in_params h Parameters.start) (params_toks ps ++ (symbol CloseParen ∷ symbol OpenBrace ∷ x)) ≡ own_run name (body_of h ps) x
head_read name h ps x =
    let r = params_read ps in
    read_in (Parameters.State Bare) Params (State Bare) (Member Bare) params_step Parameters.whole (own_step name) whole (in_params h) (params_taken h) (λ s u. refl)
    (params_toks ps) Parameters.start r.last (symbol CloseParen) (symbol OpenBrace ∷ x) (headed h ps) r.runs r.at_close (ap (option_and_then (behind_params h (cue_of (symbol CloseParen)))) r.is_whole)

-- ---- bodies

abbrev body_taken : Body Bare → Statements.State Bare → Token → Option (State Bare)
body_taken b s u = option_and_then (body_closed no_join b tt (cue_of u)) (list_whole s)

body_read : (name : List ℕ) (b : Body Bare) (body : S.Stmts Bare) (x : List Token) → StmtsShaped body
    → own_run name (in_body b Statements.start) (stmts_toks body ++ (symbol CloseBrace ∷ x)) ≡ own_run name (done (built no_join b tt body)) x
body_read name b body x h =
    let r = list_reads body h in
    read_in (Statements.State Bare) (S.Stmts Bare) (State Bare) (Member Bare) list_step list_whole (own_step name) whole (in_body b) (body_taken b) (λ s u. refl)
    (stmts_toks body) Statements.start r.last (symbol CloseBrace) x (done (built no_join b tt body)) r.runs r.at_brace (ap (option_and_then (body_closed no_join b tt (cue_of (symbol CloseBrace)))) r.is_whole)

-- ---- constructors

-- the tokens begin, but not with `super(`
abbrev pub NoSuperCall : List Token → Type 0
NoSuperCall [] = ⊥
NoSuperCall (keyword Super ∷ []) = ⊥
NoSuperCall (keyword Super ∷ symbol OpenParen ∷ ts) = ⊥
NoSuperCall (t ∷ ts) = Unit {0}

-- where no `super(` stands first, a constructor's body is read as any other
constructor_goes : (name : List ℕ) (k : Constructor Bare) (z : List Token) → NoSuperCall z → own_run name (in_constructor k) z ≡ own_run name (in_body (without_super k) Statements.start) z
unfolding begun from_ready
constructor_goes name k [] h = absurd h
constructor_goes name k (keyword Super ∷ []) h = absurd h
constructor_goes name k (keyword Super ∷ symbol OpenParen ∷ ts) h = absurd h
constructor_goes name k (keyword Super ∷ keyword Void ∷ ts) h = refl
constructor_goes name k (keyword Super ∷ t ∷ ts) h = refl
constructor_goes name k (symbol OpenParen ∷ ts) h = refl
constructor_goes name k (t ∷ ts) h = refl

no_super_call : (ts x : List Token) (s : Statements.State Bare) → list_run Statements.start ts ≡ Some s → NoSuperCall (ts ++ (symbol CloseBrace ∷ x))
unfolding begun from_ready
no_super_call [] x s h = tt
no_super_call (keyword Super ∷ []) x s h = tt
no_super_call (keyword Super ∷ symbol OpenParen ∷ ts) x s h = absurd cc
no_super_call (keyword Super ∷ keyword Void ∷ ts) x s h = tt
no_super_call (keyword Super ∷ t ∷ ts) x s h = tt
no_super_call (symbol OpenParen ∷ ts) x s h = tt
no_super_call (t ∷ ts) x s h = tt

abbrev arguments_taken : Constructor Bare → Arguments.State Bare → Token → Option (State Bare)
arguments_taken k s u = option_and_then (arguments_closed k (cue_of u)) (args_whole s)

super_reads : (name : List ℕ) (k : Constructor Bare) (es : Exps Bare) (x : List Token) → AllShaped es → own_run name (in_constructor k) (super_toks (Some es) ++ x) ≡ own_run name (with_super k es) x
super_reads name k es x h =
    let r = args_read es h in
    ap (own_run name (in_constructor k)) (super-is es x)
    ∙ read_in (Arguments.State Bare) (Exps Bare) (State Bare) (Member Bare) args_step args_whole (own_step name) whole (in_super k) (arguments_taken k) (λ s u. refl)
    (args_toks es) Arguments.start r.last (symbol CloseParen) (symbol Semicolon ∷ x) (behind_super k es) r.runs r.at_close (ap (option_and_then (arguments_closed k (cue_of (symbol CloseParen)))) r.is_whole)

constructor_read : (name : List ℕ) (k : Constructor Bare) (args : Option (Exps Bare)) (body : S.Stmts Bare) (x : List Token) → ShapedArgs args → StmtsShaped body
    → own_run name (in_constructor k) (super_toks args ++ (stmts_toks body ++ (symbol CloseBrace ∷ x))) ≡ own_run name (done (constructor tt k.lead.modifiers k.word k.params args body)) x
constructor_read name k None body x g h =
    let r = list_reads body h in
    constructor_goes name k (stmts_toks body ++ (symbol CloseBrace ∷ x)) (no_super_call (stmts_toks body) x r.last r.runs) ∙ body_read name (without_super k) body x h
constructor_read name k (Some es) body x g h = super_reads name k es (stmts_toks body ++ (symbol CloseBrace ∷ x)) g ∙ body_read name (constructor_body k (Some es)) body x h

own_name_is : (name : List ℕ) (w : Word Bare) → w.text ≡ name → own_name name (named tt None w) ≡ Some w
own_name_is name w h = cond-true (bytes_eq w.text name) (Some w) None ((bytes_eq-Decides w.text name).1 h)

-- ---- the whole

pub own_complete : (name : List ℕ) (d : Member Bare) (x : List Token) → MemberShaped true name d → own_run name start (spell_member d x) ≡ own_run name (done d) x
own_complete name (field m ms t w init) x h =
    modifiers_read name ms [] (type_toks t ++ (word w.text ∷ (init_toks init ++ (symbol Semicolon ∷ x)))) ∙ result_read name ms (Some t) w (init_toks init ++ (symbol Semicolon ∷ x)) ∙ field_read name ms t w init x h
own_complete name (method m ms t w ps body) x h =
    let tail = stmts_toks body ++ (symbol CloseBrace ∷ x) in
    modifiers_read name ms [] (result_toks t ++ (word w.text ∷ symbol OpenParen ∷ (params_toks ps ++ (symbol CloseParen ∷ symbol OpenBrace ∷ tail))))
    ∙ result_read name ms t w (symbol OpenParen ∷ (params_toks ps ++ (symbol CloseParen ∷ symbol OpenBrace ∷ tail)))
    ∙ head_read name (method_head (lead ms) t w) ps tail
    ∙ body_read name (method_body (lead ms) t w ps) body x h
own_complete name (constructor m ms w ps args body) x h =
    let tail = super_toks args ++ (stmts_toks body ++ (symbol CloseBrace ∷ x)) in
    modifiers_read name ms [] (word w.text ∷ symbol OpenParen ∷ (params_toks ps ++ (symbol CloseParen ∷ symbol OpenBrace ∷ tail)))
    ∙ ap (λ (o : Option (Word Bare)). then_run name (params_toks ps ++ (symbol CloseParen ∷ symbol OpenBrace ∷ tail)) (option_map (begin_constructor (lead ms)) o)) (own_name_is name w h.0)
    ∙ head_read name (constructor_head (lead ms) w) ps tail
    ∙ constructor_read name (record { lead = lead ms; word = w; params = ps }) args body x h.1 h.2
own_complete name (inner_member m c) x h = absurd h.0

pub own_reads : (name : List ℕ) (d : Member Bare) → MemberShaped true name d → own_run name start (member_toks d) ≡ Some (done d)
own_reads name d h = ap (own_run name start) (sym (append-nil (member_toks d)) ∙ sym (spell_member-is d [])) ∙ own_complete name d [] h
