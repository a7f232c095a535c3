-- Members that are no classes: what the machine reads is the member, and what it has begun can be ended.
use Rattle.std.proofs.Common.{◌≡◌, ℕ, true, List, [], ◌∷◌, ◌++◌, Option, Some, None, refl, sym, ap, ◌∙◌, append_assoc}
use Rattle.std.specs.Prelude.{option_and_then, IfSome}
use Rattle.std.proofs.lemmas.List.{append-nil}
use Rattle.std.proofs.lemmas.Option.{same_Some}
use Rattle.jr_lex.specs.declared.items.Keyword.TheVariants.{Super}
use Rattle.jr_lex.specs.declared.items.Symbol.TheVariants.{OpenParen, CloseParen, OpenBrace, CloseBrace, Semicolon, Equals}
use Rattle.jr_ast.specs.Tree.{TypeName, named, Exps, end}
use Rattle.jr_ast.specs.StatementTree as S
use Rattle.jr_ast.specs.MemberTree.{Param, Member, field, method, constructor}
use Rattle.jr_grammar.specs.Tokens.{Token, word, keyword, symbol}
use Rattle.jr_grammar.specs.Spelling.{type_toks, toks, args_toks}
use Rattle.jr_grammar.specs.Shape.{AllShaped}
use Rattle.jr_grammar.specs.Readings.{Begins}
use Rattle.jr_grammar.specs.StatementSpelling.{stmts_toks}
use Rattle.jr_grammar.specs.StatementShape.{StmtsShaped}
use Rattle.jr_grammar.specs.MemberSpelling.{params_toks, super_toks, member_toks}
use Rattle.jr_grammar.specs.MemberShape.{MemberShaped}
use Rattle.jr_grammar.specs.Bare.{Bare}
use Rattle.jr_pexpr.proofs.Found.{at_some}
use Rattle.jr_pstmt.specs.OwnMachine.{Lead, Head, method_head, constructor_head, Constructor, Body, method_body, constructor_body, State, modified, in_type, voided, worded, in_value, in_params, headed, in_constructor, at_super, in_super, behind_super, in_body, done, start, whole}
use Rattle.jr_punit_laws.proofs.Expressions.{exp_closes}
use Rattle.jr_punit_laws.proofs.Types as Types
use Rattle.jr_punit_laws.proofs.Types.{a_name}
use Rattle.jr_punit_laws.proofs.Arguments.{args_closes}
use Rattle.jr_punit_laws.proofs.Parameters as Params
use Rattle.jr_punit_laws.proofs.StatementEnds.{list_closes}
use Rattle.jr_punit_laws.proofs.MemberSpell.{spell_member, spell_member-is, super-is}
use Rattle.jr_punit_laws.proofs.OwnComplete.{own_step, own_run}
use Rattle.jr_punit_laws.proofs.OwnSound.{spell_lead, spell_head, spell_constructor, spell_body, spell_state, GoodHead, GoodConstructor, GoodBody, Good, Sound, StepSound, step_sound}

-- ---- runs

pub record RunSound (name : List ℕ) (s : State Bare) (b : List Token) (ts : List Token) (n : State Bare) : Type 0 where
  pub inside : List Token
  pub good : Good name n inside
  pub spelled : (x : List Token) → spell_state s b (ts ++ x) ≡ spell_state n inside x

run_sound : (name : List ℕ) (s : State Bare) (b ts : List Token) → Good name s b → IfSome (own_run name s ts) (RunSound name s b ts)
run_sound name s b [] g = record { inside = b; good = g; spelled = λ x. refl }
run_sound name s b (t ∷ ts) g = go (λ n c h. run_sound name n c ts h) (own_step name s t) (step_sound name s b t g)
  where
    then : (n : State Bare) (h : Sound name s b t n) (o : Option (State Bare)) → IfSome o (RunSound name n h.inside ts) → IfSome o (RunSound name s b (t ∷ ts))
    then n h None k = tt
    then n h (Some m) k = record { inside = k.inside; good = k.good; spelled = λ x. h.spelled (ts ++ x) ∙ k.spelled x }

    go : ((n : State Bare) (c : List Token) → Good name n c → IfSome (own_run name n ts) (RunSound name n c ts)) → (o : Option (State Bare)) → StepSound name s b t o
        → IfSome (option_and_then (λ (n : State Bare). own_run name n ts) o) (RunSound name s b (t ∷ ts))
    go f None h = tt
    go f (Some n) h = then n h (own_run name n ts) (f n h.inside h.good)

pub own_run_is : (name : List ℕ) (ts : List Token) (n : State Bare) → own_run name start ts ≡ Some n → RunSound name start [] ts n
own_run_is name ts n h = at_some (own_run name start ts) n (RunSound name start [] ts) h (run_sound name start [] ts tt)

-- ---- what is whole

pub own_whole_is : (n : State Bare) (d : Member Bare) → whole n ≡ Some d → n ≡ done d
own_whole_is (done e) d h = ap done (same_Some e d h)
own_whole_is _ d h = absurd cc

pub own_sound : (name : List ℕ) (ts : List Token) (n : State Bare) (d : Member Bare) → own_run name start ts ≡ Some n → whole n ≡ Some d → MemberShaped true name d × (member_toks d ≡ ts)
own_sound name ts n d h k =
    let r = own_run_is name ts (done d) (h ∙ ap (λ (m : State Bare). Some m) (own_whole_is n d k)) in
    (r.good, sym (append-nil (member_toks d)) ∙ sym (spell_member-is d []) ∙ sym (r.spelled []) ∙ append-nil ts)

-- nothing stands behind a whole member
pub own_ended : (name : List ℕ) (n : State Bare) (d : Member Bare) (t : Token) → whole n ≡ Some d → own_step name n t ≡ None
own_ended name n d t h = ap (λ (m : State Bare). own_step name m t) (own_whole_is n d h)

-- where nothing is begun, nothing was read
pub own_unread : (name : List ℕ) (ts : List Token) → own_run name start ts ≡ Some start → ts ≡ []
own_unread name ts h = let r = own_run_is name ts start h in sym (append-nil ts) ∙ r.spelled []

-- ---- what has been begun can be ended

pub record Ends (name : List ℕ) (xs : List Token → List Token) : Type 0 where
  pub rest : List Token
  pub tree : Member Bare
  pub shaped : MemberShaped true name tree
  pub spelled : xs rest ≡ spell_member tree []

abbrev a_token : Token
a_token = word (97 ∷ [])

-- `;`, or a body that is empty
lead_ends : (name : List ℕ) (l : Lead Bare) (t : TypeName Bare) (xs : List Token → List Token) (front : List Token) → ((y : List Token) → xs (front ++ y) ≡ spell_lead l (type_toks t ++ (word (97 ∷ []) ∷ y))) → Ends name xs
lead_ends name l t xs front e = record { rest = front ++ (symbol Semicolon ∷ []); tree = field tt l.modifiers t a_name None; shaped = tt; spelled = e (symbol Semicolon ∷ []) }

head_ends : (name : List ℕ) (h : Head Bare) (ps : List (Param Bare)) (xs : List Token → List Token) (front : List Token) → GoodHead name h
    → ((y : List Token) → xs (front ++ y) ≡ spell_head h (params_toks ps ++ (symbol CloseParen ∷ y))) → Ends name xs
head_ends name (method_head l result w) ps xs front g e =
    record { rest = front ++ (symbol OpenBrace ∷ symbol CloseBrace ∷ []); tree = method tt l.modifiers result w ps S.end; shaped = tt; spelled = e (symbol OpenBrace ∷ symbol CloseBrace ∷ []) }
head_ends name (constructor_head l w) ps xs front g e =
    record { rest = front ++ (symbol OpenBrace ∷ symbol CloseBrace ∷ []); tree = constructor tt l.modifiers w ps None S.end; shaped = (g, tt, tt); spelled = e (symbol OpenBrace ∷ symbol CloseBrace ∷ []) }

super_ends : (name : List ℕ) (k : Constructor Bare) (es : Exps Bare) (xs : List Token → List Token) (front : List Token) → GoodConstructor name k → AllShaped es
    → ((y : List Token) → xs (front ++ y) ≡ spell_constructor k (super_toks (Some es) ++ y)) → Ends name xs
super_ends name k es xs front g h e =
    record { rest = front ++ (symbol CloseBrace ∷ []); tree = constructor tt k.lead.modifiers k.word k.params (Some es) S.end; shaped = (g, h, tt); spelled = e (symbol CloseBrace ∷ []) }

body_ends : (name : List ℕ) (body : Body Bare) (items : S.Stmts Bare) (xs : List Token → List Token) (front : List Token) → GoodBody name body → StmtsShaped items
    → ((y : List Token) → xs (front ++ y) ≡ spell_body body (stmts_toks items ++ y)) → Ends name xs
body_ends name (method_body l result w ps) items xs front g h e =
    record { rest = front ++ (symbol CloseBrace ∷ []); tree = method tt l.modifiers result w ps items; shaped = h; spelled = e (symbol CloseBrace ∷ []) }
body_ends name (constructor_body k args) items xs front g h e =
    record { rest = front ++ (symbol CloseBrace ∷ []); tree = constructor tt k.lead.modifiers k.word k.params args items; shaped = (g.0, g.1, h); spelled = e (symbol CloseBrace ∷ []) }

-- what goes on from b
goes_on : (b rest y ts : List Token) → ts ≡ b ++ rest → b ++ (rest ++ y) ≡ ts ++ y
goes_on b rest y ts h = sym (append_assoc b rest y) ∙ ap (λ (z : List Token). z ++ y) (sym h)

state_ends : (name : List ℕ) (s : State Bare) (b : List Token) → Good name s b → Ends name (spell_state s b)
state_ends name (modified ms) b g =
    lead_ends name (record { start = tt; modifiers = ms }) (named tt None a_name) (spell_state (modified ms) b) (a_token ∷ a_token ∷ []) (λ y. refl)
state_ends name (in_type l s) b g =
    let c = Types.ends true s g in
    lead_ends name l c.tree (spell_state (in_type l s) b) (c.rest ++ (a_token ∷ []))
    (λ y. ap (λ (z : List Token). spell_lead l (Types.spell_state s z)) (append_assoc c.rest (a_token ∷ []) y) ∙ ap (spell_lead l) (c.spelled (a_token ∷ y)))
state_ends name (voided l) b g = head_ends name (method_head l None a_name) [] (spell_state (voided l) b) (a_token ∷ symbol OpenParen ∷ symbol CloseParen ∷ []) tt (λ y. refl)
state_ends name (worded l result w) b g = head_ends name (method_head l result w) [] (spell_state (worded l result w) b) (symbol OpenParen ∷ symbol CloseParen ∷ []) tt (λ y. refl)
state_ends name (in_value l t w s) b g =
    let c = exp_closes b s g in
    record {
      rest = c.1.rest ++ (symbol Semicolon ∷ []);
      tree = field tt l.modifiers t w (Some c.0);
      shaped = c.1.meant;
      spelled = ap (λ (z : List Token). spell_lead l (type_toks t ++ (word w.text ∷ symbol Equals ∷ z))) (goes_on b c.1.rest (symbol Semicolon ∷ []) (toks c.0) c.1.spells);
    }
state_ends name (in_params h s) b g =
    let c = Params.ends s g.1 in
    head_ends name h c.tree (spell_state (in_params h s) b) (c.rest ++ (symbol CloseParen ∷ [])) g.0
    (λ y. ap (λ (z : List Token). spell_head h (Params.spell_state s z)) (append_assoc c.rest (symbol CloseParen ∷ []) y) ∙ ap (spell_head h) (c.spelled (symbol CloseParen ∷ y)))
state_ends name (headed h ps) b g = head_ends name h ps (spell_state (headed h ps) b) [] g (λ y. refl)
state_ends name (in_constructor k) b g = body_ends name (constructor_body k None) S.end (spell_state (in_constructor k) b) [] (g, tt) tt (λ y. refl)
state_ends name (at_super k m) b g =
    super_ends name k end (spell_state (at_super k m) b) (symbol OpenParen ∷ symbol CloseParen ∷ symbol Semicolon ∷ []) g tt (λ y. refl)
state_ends name (in_super k s) b g =
    let c = args_closes b s g.1 in
    super_ends name k c.0 (spell_state (in_super k s) b) (c.1.rest ++ (symbol CloseParen ∷ symbol Semicolon ∷ [])) g.0 c.1.meant
    (λ y. ap (λ (z : List Token). spell_constructor k (keyword Super ∷ symbol OpenParen ∷ (b ++ z))) (append_assoc c.1.rest (symbol CloseParen ∷ symbol Semicolon ∷ []) y)
    ∙ ap (λ (z : List Token). spell_constructor k (keyword Super ∷ symbol OpenParen ∷ z)) (goes_on b c.1.rest (symbol CloseParen ∷ symbol Semicolon ∷ y) (args_toks c.0) c.1.spells)
    ∙ ap (spell_constructor k) (sym (super-is c.0 y)))
state_ends name (behind_super k es) b g = super_ends name k es (spell_state (behind_super k es) b) (symbol Semicolon ∷ []) g.0 g.1 (λ y. ap (spell_constructor k) (sym (super-is es y)))
state_ends name (in_body body s) b g =
    let c = list_closes b s g.1 in
    body_ends name body c.0 (spell_state (in_body body s) b) c.1.rest g.0 c.1.meant (λ y. ap (spell_body body) (goes_on b c.1.rest y (stmts_toks c.0) c.1.spells))
state_ends name (done d) b g = record { rest = []; tree = d; shaped = g; spelled = refl }

pub own_closes : (name : List ℕ) (ts : List Token) (n : State Bare) → own_run name start ts ≡ Some n → (d : Member Bare) × Begins (Member Bare) member_toks (MemberShaped true name) ts d
own_closes name ts n h =
    let r = own_run_is name ts n h in
    let k = state_ends name n r.inside r.good in
    (k.tree, record { meant = k.shaped; rest = k.rest; spells = sym (append-nil (member_toks k.tree)) ∙ sym (spell_member-is k.tree []) ∙ sym k.spelled ∙ sym (r.spelled k.rest) })
