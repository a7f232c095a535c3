-- What the machine for members that are no classes builds over tokens with places has its spans.
use Rattle.std.proofs.Common.{◌≡◌, ℕ, true, List, [], ◌∷◌, ◌++◌, Option, Some, None, refl, sym, ap, subst, ◌∙◌, append_assoc}
use Rattle.std.specs.Prelude.{option_and_then, option_map, IfSome}
use Rattle.std.specs.Str.{bytes_eq}
use Rattle.std.proofs.lemmas.Bool.{cond_both}
use Rattle.std.proofs.lemmas.Option.{same_Some}
use Rattle.jr_text.specs.declared.spans.Span.{Span}
use Rattle.jr_lex.specs.declared.items.Keyword.TheVariants.{Super, Void}
use Rattle.jr_lex.specs.declared.items.Symbol.TheVariants.{OpenParen, CloseParen, OpenBrace, CloseBrace, Semicolon, Equals}
use Rattle.jr_ast.specs.declared.operators.ModWord.{ModWord}
use Rattle.jr_ast.specs.Tree.{Word, TypeName, int, boolean, named, Exp, Exps}
use Rattle.jr_ast.specs.StatementTree as S
use Rattle.jr_ast.specs.MemberTree.{Modifier, Param, Member, field}
use Rattle.jr_ast.specs.Marks.{member_mark}
use Rattle.jr_grammar.specs.Tokens.{Token, word, keyword, symbol, Placed}
use Rattle.jr_grammar.specs.MemberSpelling.{modifier_keyword}
use Rattle.jr_grammar.specs.Layout.{Layout, token, Layouts, done as nothing, ◌then◌}
use Rattle.jr_grammar.specs.Stands.{Tokens, first_from, InOrder, Stands, StandInOrder}
use Rattle.jr_grammar.specs.ExpressionLayout.{word_layout, type_layout, exp_layout, args_layout}
use Rattle.jr_grammar.specs.StatementLayout.{stmts_layout}
use Rattle.jr_grammar.specs.MemberLayout.{modifiers_layout, params_layout, init_layout, result_layout, parent_call_layout, member_layout}
use Rattle.jr_pexpr.specs.Machine as E
use Rattle.jr_pexpr.specs.Machine.{begun}
use Rattle.jr_pexpr.specs.Marked.{join, span_step, span_whole, span_run}
use Rattle.jr_pexpr.proofs.Found.{at_some}
use Rattle.jr_pstmt.specs.Cues.{Cue, a_word, a_modifier, a_void, a_super, an_open, a_semicolon, an_equals, cue_token, cue_of}
use Rattle.jr_pstmt.specs.TypeMachine as T
use Rattle.jr_pstmt.specs.ArgumentMachine as A
use Rattle.jr_pstmt.specs.ParameterMachine as P
use Rattle.jr_pstmt.specs.StatementMachine as M
use Rattle.jr_pstmt.specs.StatementMachine.{from_ready}
use Rattle.jr_pstmt.specs.OwnMachine.{Lead, Head, method_head, constructor_head, Constructor, Body, method_body, constructor_body, State, modified, in_type, voided, worded, in_value, in_params, headed, in_constructor, at_super, in_super, behind_super, in_body, done, modifier, begins_at, lead_of, from_modified, own_name, begin_constructor, begin_params, behind_type, from_type, from_voided, field_without, from_worded, field_with, from_value, behind_params, from_params, body_of, built, body_closed, from_body, without_super, from_constructor, super_read, from_super, arguments_closed, from_arguments, with_super, cue_step, step, whole}
use Rattle.jr_punit_laws.specs.Marked.{span_list_step, span_list_whole, span_list_run}
use Rattle.jr_pstmt.proofs.CueTokens.{cue_back, semicolon_both, close_both, open_brace_both, close_brace_both}
use Rattle.jr_pstmt.proofs.Inside.{inner_both}
use Rattle.jr_punit_laws.proofs.Standing.{IsMore, more_append, more_after, first_from-append, behind, grow, joined, mapped, first_mapped, both, stand_both, stand_token, stand_one, stand_last, last_stands, stand_word, Whole, Open, open_more, closes, opens, ended_at, alone}
use Rattle.jr_punit_laws.proofs.TypeStands.{StoodType, StoodTyped, type_begun, typed_more, typed_word}
use Rattle.jr_punit_laws.proofs.ParameterStands.{StoodParams, params_step_stands, params_whole_stands, span_args_step, span_args_whole, span_args_run, args_stand}
use Rattle.jr_punit_laws.proofs.StatementStands.{list_stands, list_whole_stands}
use Rattle.jr_punit_laws.proofs.ExpressionStands.{span_run_one, exp_whole_stands}

-- ---- modifiers

pub modifiers_one : (ms : List (Modifier Span)) (w : ModWord) (a : Tokens) (i : Placed Span) → i.token ≡ keyword (modifier_keyword w) → Stands (modifiers_layout ms) a → Stands (modifiers_layout (ms ++ (modifier i.mark w ∷ []))) (a ++ (i ∷ []))
modifiers_one [] w a i t h =
    subst (λ (x : Tokens). Stands (modifiers_layout (modifier i.mark w ∷ [])) (x ++ (i ∷ []))) (sym h) (alone (record { mark = refl; parts = stand_one (keyword (modifier_keyword w)) i t }) (behind [] [] refl refl))
modifiers_one (m ∷ ms) w a i t h = grow (i ∷ []) h (λ c g. stand_last (modifiers_layout (ms ++ (modifier i.mark w ∷ []))) (c ++ (i ∷ [])) (modifiers_one ms w c i t (last_stands (modifiers_layout ms) c g)))

token_first : {Q : Tokens → Type 0} (t : Token) (b : Tokens) → InOrder (Stands (token t)) Q b → IsMore b
token_first t b h = subst IsMore (sym h.whole) (more_append h.front h.back (subst IsMore (sym h.first.alone) tt))

-- where what has the modifiers begins
pub lead_begins : (ms : List (Modifier Span)) (a : Tokens) (i : Placed Span) → Stands (modifiers_layout ms) a → (begins_at ms i.mark).from ≡ first_from (a ++ (i ∷ []))
lead_begins [] a i h = subst (λ (x : Tokens). i.mark.from ≡ first_from (x ++ (i ∷ []))) (sym h) refl
lead_begins (m ∷ ms) a i h =
    let f = token_first (keyword (modifier_keyword m.word)) h.front h.first.parts in
    ap (λ (s : Span). s.from) h.first.mark ∙ sym (first_from-append h.front (h.back ++ (i ∷ [])) f) ∙ ap first_from (sym (ap (λ (x : Tokens). x ++ (i ∷ [])) h.whole ∙ append_assoc h.front h.back (i ∷ [])))

pub lead_open : (ms : List (Modifier Span)) (t : Token) (a : Tokens) (i : Placed Span) → i.token ≡ t → Stands (modifiers_layout ms) a → Open (begins_at ms i.mark) (modifiers_layout ms then token t then nothing) (a ++ (i ∷ []))
lead_open ms t a i u h = record { parts = behind a (i ∷ []) h (stand_one t i u); more = more_after a (i ∷ []) tt; from = lead_begins ms a i h }

-- ---- what has been read

abbrev mods : Lead Span → Layout Span
mods l = modifiers_layout l.modifiers

abbrev head_start : Head Span → Span
head_start (method_head l result w) = l.start
head_start (constructor_head l w) = l.start

abbrev head_parts : Head Span → Layouts Span
head_parts (method_head l result w) = mods l then result_layout result then word_layout w then token (symbol OpenParen) then nothing
head_parts (constructor_head l w) = mods l then word_layout w then token (symbol OpenParen) then nothing

abbrev constructor_parts : Constructor Span → Layouts Span
constructor_parts k = mods k.lead then word_layout k.word then token (symbol OpenParen) then params_layout k.params then token (symbol CloseParen) then token (symbol OpenBrace) then nothing

abbrev body_start : Body Span → Span
body_start (method_body l result w ps) = l.start
body_start (constructor_body k args) = k.lead.start

abbrev body_parts : Body Span → Layouts Span
body_parts (method_body l result w ps) =
    mods l then result_layout result then word_layout w then token (symbol OpenParen) then params_layout ps then token (symbol CloseParen) then token (symbol OpenBrace) then nothing
body_parts (constructor_body k args) =
    mods k.lead then word_layout k.word then token (symbol OpenParen) then params_layout k.params then token (symbol CloseParen) then token (symbol OpenBrace) then parent_call_layout args then nothing

abbrev super_open : Layouts Span
super_open = token (keyword Super) then token (symbol OpenParen) then nothing

abbrev super_closed : Exps Span → Layouts Span
super_closed es = token (keyword Super) then token (symbol OpenParen) then args_layout es then token (symbol CloseParen) then nothing

-- `super` alone
pub record IsSuper (m : Span) (b : Tokens) : Type 0 where
  pub placed : Placed Span
  pub alone : b ≡ placed ∷ []
  pub is : placed.token ≡ keyword Super
  pub mark : m ≡ placed.mark

abbrev pub StoodOwn : State Span → Tokens → Type 0
StoodOwn (modified ms) ps = Stands (modifiers_layout ms) ps
StoodOwn (in_type l s) ps = StoodTyped l.start (mods l) s ps
StoodOwn (voided l) ps = Open l.start (mods l then token (keyword Void) then nothing) ps
StoodOwn (worded l result w) ps = Open l.start (mods l then result_layout result then word_layout w then nothing) ps
StoodOwn (in_value l t w s) ps = InOrder (Open l.start (mods l then type_layout t then word_layout w then nothing)) (InOrder (Stands (token (symbol Equals))) (λ (b : Tokens). span_run (E.want []) b ≡ Some s)) ps
StoodOwn (in_params h s) ps = InOrder (Open (head_start h) (head_parts h)) (StoodParams s) ps
StoodOwn (headed h xs) ps = Open (head_start h) (both (head_parts h) (params_layout xs then token (symbol CloseParen) then nothing)) ps
StoodOwn (in_constructor k) ps = Open k.lead.start (constructor_parts k) ps
StoodOwn (at_super k m) ps = InOrder (Open k.lead.start (constructor_parts k)) (IsSuper m) ps
StoodOwn (in_super k s) ps = InOrder (Open k.lead.start (constructor_parts k)) (InOrder (StandInOrder super_open) (λ (b : Tokens). span_args_run A.start b ≡ Some s)) ps
StoodOwn (behind_super k es) ps = InOrder (Open k.lead.start (constructor_parts k)) (StandInOrder (super_closed es)) ps
StoodOwn (in_body b s) ps = InOrder (Open (body_start b) (body_parts b)) (λ (c : Tokens). span_list_run M.start c ≡ Some s) ps
StoodOwn (done d) ps = Whole (member_layout d) (member_mark d) ps

abbrev After : Tokens → Placed Span → Option (State Span) → Type 0
After ps i o = IfSome o (λ (n : State Span). StoodOwn n (ps ++ (i ∷ [])))

abbrev Next : Tokens → Placed Span → Token → Option (State Span) → Type 0
Next ps i k o = i.token ≡ k → After ps i o

-- ---- types and words

begun_stands : (ms : List (Modifier Span)) (i : Placed Span) (q : Cue) (ps : Tokens) → i.token ≡ cue_token q → Stands (modifiers_layout ms) ps → After ps i (option_map (in_type (lead_of ms i.mark)) (T.from_want true i.mark q))
begun_stands ms i q ps t h = go (T.from_want true i.mark q) (type_begun true i q t)
  where
    go : (o : Option (T.State Span)) → IfSome o (λ (n : T.State Span). StoodType n (i ∷ [])) → After ps i (option_map (in_type (lead_of ms i.mark)) o)
    go None k = tt
    go (Some n) k = record { parts = behind ps (i ∷ []) h k; more = more_after ps (i ∷ []) tt; from = lead_begins ms ps i h }

modified_stands : (ms : List (Modifier Span)) (i : Placed Span) (q : Cue) (ps : Tokens) → i.token ≡ cue_token q → Stands (modifiers_layout ms) ps → After ps i (from_modified ms i.mark q)
modified_stands ms i (a_modifier w) ps t h = modifiers_one ms w ps i t h
modified_stands ms i a_void ps t h = lead_open ms (keyword Void) ps i t h
modified_stands ms i q ps t h = begun_stands ms i q ps t h

params_begun : (h : Head Span) (i : Placed Span) (ps : Tokens) → Open (head_start h) (head_parts h) (ps ++ (i ∷ [])) → StoodOwn (begin_params h) (ps ++ (i ∷ []))
params_begun h i ps k = alone k refl

constructor_begun : (name : List ℕ) (l : Lead Span) (t : TypeName Span) (i : Placed Span) (ps : Tokens) → i.token ≡ symbol OpenParen → StoodTyped l.start (mods l) (T.have t) ps → After ps i (option_map (begin_constructor l) (own_name name t))
constructor_begun name l (int m) i ps t h = tt
constructor_begun name l (boolean m) i ps t h = tt
constructor_begun name l (named m None w) i ps t h =
    cond_both (bytes_eq w.text name) (Some w) None (λ (o : Option (Word Span)). After ps i (option_map (begin_constructor l) o))
    (λ _. params_begun (constructor_head l w) i ps
    (open_more {xs = mods l then word_layout w then nothing} (token (symbol OpenParen) then nothing) (i ∷ []) (record { parts = mapped h.parts (λ b g. g.stands.parts); more = h.more; from = h.from }) (stand_one (symbol OpenParen) i t)))
    (λ _. tt)
constructor_begun name l (named m (Some o) w) i ps t h = tt

-- a type as the result of a method
as_result : (l : Lead Span) (t : TypeName Span) (w : Word Span) (ps : Tokens) → Open l.start (mods l then type_layout t then word_layout w then nothing) ps → Open l.start (mods l then result_layout (Some t) then word_layout w then nothing) ps
as_result l t w ps h = record { parts = mapped h.parts (λ b g. first_mapped g (λ c k. stand_last (type_layout t) c k)); more = h.more; from = h.from }

as_type : (l : Lead Span) (t : TypeName Span) (w : Word Span) (ps : Tokens) → Open l.start (mods l then result_layout (Some t) then word_layout w then nothing) ps → Open l.start (mods l then type_layout t then word_layout w then nothing) ps
as_type l t w ps h = record { parts = mapped h.parts (λ b g. first_mapped g (λ c k. last_stands (type_layout t) c k)); more = h.more; from = h.from }

behind_type_stands : (name : List ℕ) (l : Lead Span) (s : T.State Span) (i : Placed Span) (q : Cue) (ps : Tokens) → i.token ≡ cue_token q → StoodOwn (in_type l s) ps → After ps i (option_and_then (behind_type name l i.mark q) (T.whole s))
behind_type_stands name l (T.have t) i (a_word w) ps u h = as_result l t (E.marked i.mark w) (ps ++ (i ∷ [])) (typed_word l.start (mods l) t w i ps u h)
behind_type_stands name l (T.have t) i an_open ps u h = constructor_begun name l t i ps u h
behind_type_stands name l (T.have t) i _ ps u h = tt
behind_type_stands name l (T.want c) i q ps u h = tt
behind_type_stands name l (T.dotted o) i q ps u h = tt

type_stands : (name : List ℕ) (l : Lead Span) (s : T.State Span) (i : Placed Span) (q : Cue) (ps : Tokens) → i.token ≡ cue_token q → StoodOwn (in_type l s) ps → After ps i (from_type join name l s i.mark q)
type_stands name l s i q ps t h =
    inner_both (in_type l) (option_and_then (behind_type name l i.mark q) (T.whole s)) (T.cue_step join s i.mark q) (After ps i) (λ n e. typed_more l.start (mods l) s n i q ps t e h) (λ _. behind_type_stands name l s i q ps t h)

word_parts : (w : List ℕ) (i : Placed Span) → i.token ≡ word w → StandInOrder (word_layout (E.marked i.mark w) then nothing) (i ∷ [])
word_parts w i t = stand_last (word_layout (E.marked i.mark w)) (i ∷ []) (stand_word (E.marked i.mark w) i t refl)

voided_stands : (l : Lead Span) (i : Placed Span) (q : Cue) (ps : Tokens) → i.token ≡ cue_token q → StoodOwn (voided l) ps → After ps i (from_voided l i.mark q)
voided_stands l i (a_word w) ps t h =
    let o = open_more (word_layout (E.marked i.mark w) then nothing) (i ∷ []) h (word_parts w i t) in
    record { parts = mapped o.parts (λ b g. first_mapped g (λ c k. stand_last (token (keyword Void)) c k)); more = o.more; from = o.from }
voided_stands l i _ ps t h = tt

-- ---- fields

no_value : (l : Lead Span) (t : TypeName Span) (w : Word Span) (i : Placed Span) (ps : Tokens) → i.token ≡ symbol Semicolon → StoodOwn (worded l (Some t) w) ps → StoodOwn (field_without join l w i.mark t) (ps ++ (i ∷ []))
no_value l t w i ps u h = closes i.mark (init_layout None then token (symbol Semicolon) then nothing) (behind ps (i ∷ []) (as_type l t w ps h) (ended_at i [] (behind [] (i ∷ []) refl (stand_one (symbol Semicolon) i u))))

worded_stands : (l : Lead Span) (result : Option (TypeName Span)) (w : Word Span) (i : Placed Span) (q : Cue) (ps : Tokens) → i.token ≡ cue_token q → StoodOwn (worded l result w) ps → After ps i (from_worded join l result w i.mark q)
worded_stands l (Some t) w i a_semicolon ps u h = no_value l t w i ps u h
worded_stands l None w i a_semicolon ps u h = tt
worded_stands l (Some t) w i an_equals ps u h = behind ps (i ∷ []) (as_type l t w ps h) (behind (i ∷ []) [] (stand_token (symbol Equals) i u) refl)
worded_stands l None w i an_equals ps u h = tt
worded_stands l result w i an_open ps u h = params_begun (method_head l result w) i ps (open_more (token (symbol OpenParen) then nothing) (i ∷ []) h (stand_one (symbol OpenParen) i u))
worded_stands l result w i _ ps u h = tt

value_stands : (l : Lead Span) (t : TypeName Span) (w : Word Span) (s : E.State Span) (i : Placed Span) (q : Cue) (ps : Tokens) → i.token ≡ cue_token q → StoodOwn (in_value l t w s) ps → After ps i (from_value join l t w s i.mark i.token q)
value_stands l t w s i q ps u h =
    inner_both (in_value l t w) (option_and_then (field_with join l t w i.mark q) (span_whole s)) (span_step s i) (After ps i)
    (λ n e. grow (i ∷ []) h (λ b k. grow (i ∷ []) k (λ c g. span_run_one (E.State Span) (Exp Span) span_step span_whole (E.want []) s n c i g e)))
    (λ _. go (span_whole s) refl)
  where
    value : (d : Exp Span) (b : Tokens) → span_whole s ≡ Some d → i.token ≡ symbol Semicolon → InOrder (Stands (token (symbol Equals))) (λ (b : Tokens). span_run (E.want []) b ≡ Some s) b
        → StandInOrder (init_layout (Some d) then token (symbol Semicolon) then nothing) (b ++ (i ∷ []))
    value d b e c k = behind b (i ∷ []) (mapped k (λ x r. stand_last (exp_layout d) x (exp_whole_stands x s d r e).stands)) (stand_one (symbol Semicolon) i c)

    go : (o : Option (Exp Span)) → span_whole s ≡ o → After ps i (option_and_then (field_with join l t w i.mark q) o)
    go None e = tt
    go (Some d) e =
        semicolon_both q (done (field (join l.start i.mark) l.modifiers t w (Some d))) (Next ps i)
        (λ c. closes i.mark (init_layout (Some d) then token (symbol Semicolon) then nothing) (grow (i ∷ []) h (λ b k. ended_at i b (value d b e c k))))
        (λ k c. tt) u

-- ---- parameters

params_stands : (h : Head Span) (s : P.State Span) (i : Placed Span) (q : Cue) (ps : Tokens) → i.token ≡ cue_token q → StoodOwn (in_params h s) ps → After ps i (from_params join h s i.mark q)
params_stands h s i q ps t k =
    inner_both (in_params h) (option_and_then (behind_params h q) (P.whole s)) (P.cue_step join s i.mark q) (After ps i)
    (λ n e. grow (i ∷ []) k (λ b g. at_some (P.cue_step join s i.mark q) n (λ (n : P.State Span). StoodParams n (b ++ (i ∷ []))) e (params_step_stands s i q b t g)))
    (λ _. go (P.whole s) refl)
  where
    go : (o : Option (List (Param Span))) → P.whole s ≡ o → After ps i (option_and_then (behind_params h q) o)
    go None e = tt
    go (Some xs) e =
        close_both q (headed h xs) (Next ps i)
        (λ c. opens (params_layout xs then token (symbol CloseParen) then nothing) (grow (i ∷ []) k (λ b g. behind b (i ∷ []) (params_whole_stands s xs b g e) (stand_one (symbol CloseParen) i c))))
        (λ k c. tt) t

headed_stands : (h : Head Span) (xs : List (Param Span)) (i : Placed Span) (ps : Tokens) → i.token ≡ symbol OpenBrace → StoodOwn (headed h xs) ps → StoodOwn (body_of h xs) (ps ++ (i ∷ []))
headed_stands (method_head l result w) xs i ps t h = alone (open_more (token (symbol OpenBrace) then nothing) (i ∷ []) h (stand_one (symbol OpenBrace) i t)) refl
headed_stands (constructor_head l w) xs i ps t h = open_more (token (symbol OpenBrace) then nothing) (i ∷ []) h (stand_one (symbol OpenBrace) i t)

-- ---- bodies

built_stands : (b : Body Span) (s : M.State Span) (items : S.Stmts Span) (i : Placed Span) (ps : Tokens) → i.token ≡ symbol CloseBrace → span_list_whole s ≡ Some items → StoodOwn (in_body b s) ps → StoodOwn (done (built join b i.mark items)) (ps ++ (i ∷ []))
built_stands b s items i ps t e h = go b h
  where
    closed : (c : Tokens) → span_list_run M.start c ≡ Some s → StandInOrder (stmts_layout items then token (symbol CloseBrace) then nothing) (c ++ (i ∷ []))
    closed c k = behind c (i ∷ []) (list_whole_stands s items c (list_stands c s k) e) (stand_one (symbol CloseBrace) i t)

    go : (b : Body Span) → StoodOwn (in_body b s) ps → StoodOwn (done (built join b i.mark items)) (ps ++ (i ∷ []))
    go (method_body l result w xs) h = closes i.mark (stmts_layout items then token (symbol CloseBrace) then nothing) (grow (i ∷ []) h (λ c k. ended_at i c (closed c k)))
    go (constructor_body k args) h = closes i.mark (stmts_layout items then token (symbol CloseBrace) then nothing) (grow (i ∷ []) h (λ c g. ended_at i c (closed c g)))

body_stands : (b : Body Span) (s : M.State Span) (i : Placed Span) (q : Cue) (ps : Tokens) → i.token ≡ cue_token q → StoodOwn (in_body b s) ps → After ps i (from_body join b s i.mark i.token q)
body_stands b s i q ps t h =
    inner_both (in_body b) (option_and_then (body_closed join b i.mark q) (span_list_whole s)) (span_list_step s i) (After ps i)
    (λ n e. grow (i ∷ []) h (λ c k. span_run_one (M.State Span) (S.Stmts Span) span_list_step span_list_whole M.start s n c i k e))
    (λ _. go (span_list_whole s) refl)
  where
    go : (o : Option (S.Stmts Span)) → span_list_whole s ≡ o → After ps i (option_and_then (body_closed join b i.mark q) o)
    go None e = tt
    go (Some items) e = close_brace_both q (done (built join b i.mark items)) (Next ps i) (λ c. built_stands b s items i ps c e h) (λ k c. tt) t

-- ---- constructors

plain_body : (k : Constructor Span) (ps : Tokens) → Open k.lead.start (constructor_parts k) ps → Open k.lead.start (body_parts (without_super k)) ps
plain_body k ps h = opens (parent_call_layout None then nothing) (alone h (behind [] [] refl refl))

constructor_stands : (k : Constructor Span) (i : Placed Span) (q : Cue) (ps : Tokens) → i.token ≡ cue_token q → StoodOwn (in_constructor k) ps → After ps i (from_constructor join k i.mark i.token q)
constructor_stands k i a_super ps t h = behind ps (i ∷ []) h (record { placed = i; alone = refl; is = t; mark = refl })
constructor_stands k i q ps t h = body_stands (without_super k) M.start i q ps t (alone (plain_body k ps h) refl)

super_steps : (at : Span) (t : Token) → t ≡ keyword Super → M.step join M.start at t ≡ Some (super_read at)
unfolding begun from_ready
super_steps at t e = subst (λ (u : Token). M.step join M.start at u ≡ Some (super_read at)) (sym e) refl

super_runs : (m : Span) (b : Tokens) → IsSuper m b → span_list_run M.start b ≡ Some (super_read m)
super_runs m b h =
    ap (span_list_run M.start) h.alone ∙ ap (option_and_then (λ (r : M.State Span). Some r)) (super_steps h.placed.mark h.placed.token h.is) ∙ ap (λ (x : Span). Some (super_read x)) (sym h.mark)

super_stands : (k : Constructor Span) (m : Span) (i : Placed Span) (q : Cue) (ps : Tokens) → i.token ≡ cue_token q → StoodOwn (at_super k m) ps → After ps i (from_super join k m i.mark i.token q)
super_stands k m i an_open ps t h =
    grow (i ∷ []) h (λ b g. alone
    (stand_both (token (keyword Super) then nothing) (token (symbol OpenParen) then nothing) b (i ∷ []) (subst (StandInOrder (token (keyword Super) then nothing)) (sym g.alone) (stand_one (keyword Super) g.placed g.is)) (stand_one (symbol OpenParen) i t))
    refl)
super_stands k m i q ps t h = body_stands (without_super k) (super_read m) i q ps t (mapped (first_mapped h (λ b g. plain_body k b g)) (λ b g. super_runs m b g))

arguments_stands : (k : Constructor Span) (s : A.State Span) (i : Placed Span) (q : Cue) (ps : Tokens) → i.token ≡ cue_token q → StoodOwn (in_super k s) ps → After ps i (from_arguments join k s i.mark i.token q)
arguments_stands k s i q ps t h =
    inner_both (in_super k) (option_and_then (arguments_closed k q) (span_args_whole s)) (span_args_step s i) (After ps i)
    (λ n e. grow (i ∷ []) h (λ b g. grow (i ∷ []) g (λ c r. span_run_one (A.State Span) (Exps Span) span_args_step span_args_whole A.start s n c i r e)))
    (λ _. go (span_args_whole s) refl)
  where
    closed : (es : Exps Span) (b : Tokens) → span_args_whole s ≡ Some es → i.token ≡ symbol CloseParen → InOrder (StandInOrder super_open) (λ (b : Tokens). span_args_run A.start b ≡ Some s) b → StandInOrder (super_closed es) (b ++ (i ∷ []))
    closed es b e c g =
        joined (StandInOrder (super_closed es))
        (grow {R = StandInOrder (args_layout es then token (symbol CloseParen) then nothing)} (i ∷ []) g (λ x r. behind x (i ∷ []) (args_stand x s es r e) (stand_one (symbol CloseParen) i c)))
        (λ x y f r. stand_both super_open (args_layout es then token (symbol CloseParen) then nothing) x y f r)

    go : (o : Option (Exps Span)) → span_args_whole s ≡ o → After ps i (option_and_then (arguments_closed k q) o)
    go None e = tt
    go (Some es) e = close_both q (behind_super k es) (Next ps i) (λ c. grow (i ∷ []) h (λ b g. closed es b e c g)) (λ k c. tt) t

with_super_stands : (k : Constructor Span) (es : Exps Span) (i : Placed Span) (ps : Tokens) → i.token ≡ symbol Semicolon → StoodOwn (behind_super k es) ps → StoodOwn (with_super k es) (ps ++ (i ∷ []))
with_super_stands k es i ps t h =
    alone
    (opens (parent_call_layout (Some es) then nothing)
    (grow (i ∷ []) h (λ b g. stand_last (parent_call_layout (Some es)) (b ++ (i ∷ [])) (stand_both (super_closed es) (token (symbol Semicolon) then nothing) b (i ∷ []) g (stand_one (symbol Semicolon) i t)))))
    refl

-- ---- the whole

cue_stands : (name : List ℕ) (s : State Span) (i : Placed Span) (q : Cue) (ps : Tokens) → i.token ≡ cue_token q → StoodOwn s ps → After ps i (cue_step join name s i.mark i.token q)
cue_stands name (modified ms) i q ps t h = modified_stands ms i q ps t h
cue_stands name (in_type l s) i q ps t h = type_stands name l s i q ps t h
cue_stands name (voided l) i q ps t h = voided_stands l i q ps t h
cue_stands name (worded l result w) i q ps t h = worded_stands l result w i q ps t h
cue_stands name (in_value l ty w s) i q ps t h = value_stands l ty w s i q ps t h
cue_stands name (in_params r s) i q ps t h = params_stands r s i q ps t h
cue_stands name (headed r xs) i q ps t h = open_brace_both q (body_of r xs) (Next ps i) (λ c. headed_stands r xs i ps c h) (λ k c. tt) t
cue_stands name (in_constructor k) i q ps t h = constructor_stands k i q ps t h
cue_stands name (at_super k m) i q ps t h = super_stands k m i q ps t h
cue_stands name (in_super k s) i q ps t h = arguments_stands k s i q ps t h
cue_stands name (behind_super k es) i q ps t h = semicolon_both q (with_super k es) (Next ps i) (λ c. with_super_stands k es i ps c h) (λ k c. tt) t
cue_stands name (in_body b s) i q ps t h = body_stands b s i q ps t h
cue_stands name (done d) i q ps t h = tt

pub own_step_stands : (name : List ℕ) (s : State Span) (i : Placed Span) (ps : Tokens) → StoodOwn s ps → IfSome (step join name s i.mark i.token) (λ (n : State Span). StoodOwn n (ps ++ (i ∷ [])))
own_step_stands name s i ps h = cue_stands name s i (cue_of i.token) ps (sym (cue_back i.token)) h

pub own_whole_stands : (s : State Span) (d : Member Span) (ps : Tokens) → StoodOwn s ps → whole s ≡ Some d → Stands (member_layout d) ps
own_whole_stands (done e) d ps h k = subst (λ (r : Member Span). Stands (member_layout r) ps) (same_Some e d k) h.stands
own_whole_stands _ d ps h k = absurd cc
