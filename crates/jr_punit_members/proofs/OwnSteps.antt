-- What is inside goes on, or is taken where it ends: what the code does at a token is the step of the machine.
use Rattle.std.proofs.Common.{◌≡◌, ◌∙◌, ◌&&◌, ◌||◌, ◌==◌, ◌++◌, ℕ, Bool, true, false, List, [], ◌∷◌, length, Bor, Option, Some, None, refl, sym, ap, arith}
use Rattle.std.proofs.lemmas.Bool.{ne_eqb}
use Rattle.std.specs.Prelude.{is_some, option_map, option_and_then}
use Rattle.jr_text.specs.declared.spans.Span.{Span}
use Rattle.jr_lex.specs.declared.items.Symbol.TheVariants.{CloseParen, CloseBrace, Semicolon, Comma}
use Rattle.jr_ast.specs.declared.exprs.Expr.{Expr}
use Rattle.jr_ast.specs.Tree.{Word, TypeName, Exp, Exps, end, more}
use Rattle.jr_ast.specs.View.{expr_of, exprs_of}
use Rattle.jr_ast.specs.StatementTree.{Stmts}
use Rattle.jr_ast.specs.MemberTree.{Param, field}
use Rattle.jr_grammar.specs.Tokens.{Token, symbol}
use Rattle.jr_pexpr.specs.Machine as E
use Rattle.jr_pexpr.specs.Machine.{begun, extended, have, closed, continued, reduced, whole_of}
use Rattle.jr_pexpr.specs.Stacks.{is_start}
use Rattle.jr_pexpr.specs.Marked.{join}
use Rattle.jr_pstmt.specs.Cues.{Cue, a_word, an_open, a_close, a_close_brace, a_semicolon, a_comma, a_super, cue_of, cue_token, at_semicolon}
use Rattle.jr_pstmt.specs.declared.cues.Cue.{Cue as RustCue}
use Rattle.jr_pstmt.specs.declared.cues.Cue.TheVariants as rust
use Rattle.jr_pstmt.specs.CueView.{cue_view}
use Rattle.jr_pstmt.specs.CueTests.{is_semicolon, is_comma, is_open, is_close, is_close_brace, is_super}
use Rattle.jr_pstmt.specs.Inside.{inner}
use Rattle.jr_pstmt.specs.TypeMachine as T
use Rattle.jr_pstmt.specs.ArgumentMachine as A
use Rattle.jr_pstmt.specs.ParameterMachine as P
use Rattle.jr_pstmt.specs.StatementMachine as S
use Rattle.jr_pstmt.specs.StatementMachine.{from_ready}
use Rattle.jr_pstmt.specs.OwnMachine as M
use Rattle.jr_pstmt.proofs.CueTokens.{cue_back}
use Rattle.jr_pstmt.proofs.Inside.{map_inner}

-- ---- tokens

pub token_is : (t : Token) (c : Cue) → cue_of t ≡ c → t ≡ cue_token c
token_is t c h = sym (cue_back t) ∙ ap cue_token h

pub semicolon_is : (c : Cue) → is_semicolon c ≡ true → c ≡ a_semicolon
semicolon_is a_semicolon h = refl
semicolon_is _ h = absurd cc

pub comma_is : (c : Cue) → is_comma c ≡ true → c ≡ a_comma
comma_is a_comma h = refl
comma_is _ h = absurd cc

pub close_is : (c : Cue) → is_close c ≡ true → c ≡ a_close
close_is a_close h = refl
close_is _ h = absurd cc

pub close_brace_is : (c : Cue) → is_close_brace c ≡ true → c ≡ a_close_brace
close_brace_is a_close_brace h = refl
close_brace_is _ h = absurd cc

pub open_is : (c : Cue) → is_open c ≡ true → c ≡ an_open
open_is an_open h = refl
open_is _ h = absurd cc

pub super_is : (c : Cue) → is_super c ≡ true → c ≡ a_super
super_is a_super h = refl
super_is _ h = absurd cc

-- ---- one machine inside another

none_then : {D N : Type 0} (f : D → Option N) (o : Option D) → ((d : D) → f d ≡ None) → option_and_then f o ≡ None
none_then f None h = refl
none_then f (Some d) h = h d

-- where what is whole isn't taken, what is inside goes on, or nothing does
pub goes_on : {S N : Type 0} (within : S → N) (taken : Option N) (n : Option S) → taken ≡ None → option_map within n ≡ inner within taken n
goes_on within taken n h = map_inner within n ∙ ap (λ t. inner within t n) (sym h)

-- where what is inside doesn't go on, what is whole is taken, if anything
pub taken_where : {S N : Type 0} (within : S → N) (taken : Option N) (n : Option S) → n ≡ None → taken ≡ inner within taken n
taken_where within taken n h = ap (λ m. inner within taken m) (sym h)

left_of : (a b : Bool) → (a && b) ≡ true → a ≡ true
left_of true b h = refl
left_of false b h = absurd cc

right_of : (a b : Bool) → (a && b) ≡ true → b ≡ true
right_of true b h = h
right_of false b h = absurd cc

-- where the code has left out some tokens

abbrev pub is_word : Cue → Bool
is_word (a_word w) = true
is_word _ = false

pub not_word : (q : RustCue) → ((w : Bor (List ℕ)) → q ≡ rust.Word w → ⊥) → is_word (cue_view q) ≡ false
not_word (rust.Word w) n = absurd (n w refl)
not_word _ n = refl

pub not_open : (q : RustCue) → (q ≡ rust.Open → ⊥) → is_open (cue_view q) ≡ false
not_open rust.Open n = absurd (n refl)
not_open _ n = refl

pub not_close : (q : RustCue) → (q ≡ rust.Close → ⊥) → is_close (cue_view q) ≡ false
not_close rust.Close n = absurd (n refl)
not_close _ n = refl

-- two tests at once, as the machine has them
pub both_are : (a b c d : Bool) → a ≡ c → b ≡ d → (c && d) ≡ (a && b)
both_are a b c d h k = sym (ap (λ (x : Bool). x && b) h ∙ ap (λ (x : Bool). c && x) k)

-- ---- the value of a field

-- no expression goes on with a semicolon
no_value : (s : E.State Span) (at : Span) → E.step join s at (symbol Semicolon) ≡ None
unfolding begun extended
no_value (E.want fs) at = refl
no_value (E.have fs e) at = refl
no_value (E.dotted fs e) at = refl
no_value (E.at_super fs m) at = refl
no_value (E.super_dotted fs m) at = refl
no_value (E.at_new fs m) at = refl
no_value (E.new_named fs m t) at = refl
no_value (E.new_dotted fs m o) at = refl

not_semicolon : {N : Type 0} (c : Cue) (n : N) → is_semicolon c ≡ false → at_semicolon c n ≡ None
not_semicolon a_semicolon n h = absurd cc
not_semicolon _ n h = refl

module _ (l : M.Lead Span) (t : TypeName Span) (w : Word Span) (s : E.State Span) (at : Span) (k : Token) where
  pub value_ends : is_semicolon (cue_of k) ≡ true → option_and_then (M.field_with join l t w at a_semicolon) (E.whole join s) ≡ M.from_value join l t w s at k (cue_of k)
  value_ends h =
      let c = semicolon_is (cue_of k) h in
      taken_where (M.in_value l t w) (option_and_then (M.field_with join l t w at a_semicolon) (E.whole join s)) (E.step join s at k) (ap (E.step join s at) (token_is k a_semicolon c) ∙ no_value s at)
      ∙ ap (M.from_value join l t w s at k) (sym c)

  pub value_goes : is_semicolon (cue_of k) ≡ false → option_map (M.in_value l t w) (E.step join s at k) ≡ M.from_value join l t w s at k (cue_of k)
  value_goes h =
      goes_on (M.in_value l t w) (option_and_then (M.field_with join l t w at (cue_of k)) (E.whole join s)) (E.step join s at k)
      (none_then (M.field_with join l t w at (cue_of k)) (E.whole join s) (λ e. not_semicolon (cue_of k) (M.done (field (join l.start at) l.modifiers t w (Some e))) h))

-- ---- arguments

pub exprs-append : (es : List (Expr Span)) (e : Expr Span) → exprs_of (es ++ e ∷ []) ≡ E.with_last (exprs_of es) (expr_of e)
exprs-append [] e = refl
exprs-append (d ∷ es) e = ap (more (expr_of d)) (exprs-append es e)

-- no whole expression goes on with a closing parenthesis or a comma

closed_none : (at : Span) (o : Option (E.State Span)) → is_some (whole_of o) ≡ true → closed join at o ≡ None
closed_none at (Some (have [] e)) h = refl
closed_none at (Some (have (f ∷ fs) e)) h = absurd cc
closed_none at (Some _) h = absurd cc
closed_none at None h = refl

continued_none : (o : Option (E.State Span)) → is_some (whole_of o) ≡ true → continued o ≡ None
continued_none (Some (have [] e)) h = refl
continued_none (Some (have (f ∷ fs) e)) h = absurd cc
continued_none (Some _) h = absurd cc
continued_none None h = refl

no_close_behind : (s : E.State Span) (at : Span) → is_some (E.whole join s) ≡ true → E.step join s at (symbol CloseParen) ≡ None
unfolding extended
no_close_behind (have fs e) at h = closed_none at (reduced join 1 fs e) h
no_close_behind _ at h = absurd cc

no_comma_behind : (s : E.State Span) (at : Span) → is_some (E.whole join s) ≡ true → E.step join s at (symbol Comma) ≡ None
unfolding extended
no_comma_behind (have fs e) at h = continued_none (reduced join 1 fs e) h
no_comma_behind _ at h = absurd cc

module _ (es : Exps Span) (s : E.State Span) (at : Span) (k : Token) where
  pub argument_ends : (is_comma (cue_of k) && is_some (E.whole join s)) ≡ true → option_and_then (A.next_argument es a_comma) (E.whole join s) ≡ A.step join (A.in_argument es s) at k
  argument_ends h =
      let c = comma_is (cue_of k) (left_of (is_comma (cue_of k)) (is_some (E.whole join s)) h) in
      taken_where (A.in_argument es) (option_and_then (A.next_argument es a_comma) (E.whole join s)) (E.step join s at k)
      (ap (E.step join s at) (token_is k a_comma c) ∙ no_comma_behind s at (right_of (is_comma (cue_of k)) (is_some (E.whole join s)) h))
      ∙ ap (λ (q : Cue). inner (A.in_argument es) (option_and_then (A.next_argument es q) (E.whole join s)) (E.step join s at k)) (sym c)

  no_comma : (c : Cue) (o : Option (Exp Span)) → (is_comma c && is_some o) ≡ false → option_and_then (A.next_argument es c) o ≡ None
  no_comma c None h = refl
  no_comma a_comma (Some e) h = absurd cc
  no_comma _ (Some e) h = refl

  pub argument_goes : (is_comma (cue_of k) && is_some (E.whole join s)) ≡ false → option_map (A.in_argument es) (E.step join s at k) ≡ A.step join (A.in_argument es s) at k
  argument_goes h = goes_on (A.in_argument es) (option_and_then (A.next_argument es (cue_of k)) (E.whole join s)) (E.step join s at k) (no_comma (cue_of k) (E.whole join s) h)

-- none at all don't go on with a closing parenthesis
none_closed : (s : E.State Span) (at : Span) → is_some (A.whole_none s) ≡ true → E.step join s at (symbol CloseParen) ≡ None
unfolding begun
none_closed (E.want []) at h = refl
none_closed (E.want (f ∷ fs)) at h = absurd cc
none_closed _ at h = absurd cc

first_closed : (s : E.State Span) (at : Span) (o : Option (Exp Span)) → E.whole join s ≡ o → is_some (A.whole_first o s) ≡ true → E.step join s at (symbol CloseParen) ≡ None
first_closed s at (Some e) q h = no_close_behind s at (ap is_some q)
first_closed s at None q h = none_closed s at h

behind_closed : (es : Exps Span) (s : E.State Span) (at : Span) (o : Option (Exp Span)) → E.whole join s ≡ o → is_some (A.whole_behind es o s) ≡ true → E.step join s at (symbol CloseParen) ≡ None
behind_closed end s at o q h = first_closed s at o q h
behind_closed (more d es) s at (Some e) q h = no_close_behind s at (ap is_some q)
behind_closed (more d es) s at None q h = absurd cc

-- whole arguments don't go on with a closing parenthesis
no_arguments : (s : A.State Span) (at : Span) → is_some (A.whole join s) ≡ true → A.step join s at (symbol CloseParen) ≡ None
no_arguments s at h =
    ap (λ (n : Option (E.State Span)). inner (A.in_argument s.args) (option_and_then (A.next_argument s.args a_close) (E.whole join s.last)) n) (behind_closed s.args s.last at (E.whole join s.last) refl h)
    ∙ none_then (A.next_argument s.args a_close) (E.whole join s.last) (λ e. refl)

module _ (of : M.Constructor Span) (s : A.State Span) (at : Span) (k : Token) where
  pub arguments_end : (is_close (cue_of k) && is_some (A.whole join s)) ≡ true → option_and_then (M.arguments_closed of a_close) (A.whole join s) ≡ M.from_arguments join of s at k (cue_of k)
  arguments_end h =
      let c = close_is (cue_of k) (left_of (is_close (cue_of k)) (is_some (A.whole join s)) h) in
      taken_where (M.in_super of) (option_and_then (M.arguments_closed of a_close) (A.whole join s)) (A.step join s at k)
      (ap (A.step join s at) (token_is k a_close c) ∙ no_arguments s at (right_of (is_close (cue_of k)) (is_some (A.whole join s)) h))
      ∙ ap (M.from_arguments join of s at k) (sym c)

  not_closed : (c : Cue) (o : Option (Exps Span)) → (is_close c && is_some o) ≡ false → option_and_then (M.arguments_closed of c) o ≡ None
  not_closed c None h = refl
  not_closed a_close (Some es) h = absurd cc
  not_closed _ (Some es) h = refl

  pub arguments_go : (is_close (cue_of k) && is_some (A.whole join s)) ≡ false → option_map (M.in_super of) (A.step join s at k) ≡ M.from_arguments join of s at k (cue_of k)
  arguments_go h = goes_on (M.in_super of) (option_and_then (M.arguments_closed of (cue_of k)) (A.whole join s)) (A.step join s at k) (not_closed (cue_of k) (A.whole join s) h)

-- ---- parameters

-- no parameters go on with a closing parenthesis
no_parameters : (s : P.State Span) (at : Span) → P.cue_step join s at a_close ≡ None
no_parameters (P.want ps) at = refl
no_parameters (P.in_type ps m f (T.want p)) at = refl
no_parameters (P.in_type ps m f (T.have t)) at = refl
no_parameters (P.in_type ps m f (T.dotted o)) at = refl
no_parameters (P.have ps) at = refl

taken_params : (h : M.Head Span) (o : Option (List (Param Span))) → option_map (M.headed h) o ≡ option_and_then (M.behind_params h a_close) o
taken_params h None = refl
taken_params h (Some ps) = refl

pub params_end : (h : M.Head Span) (s : P.State Span) (at : Span) → option_map (M.headed h) (P.whole s) ≡ M.from_params join h s at a_close
params_end h s at =
    taken_params h (P.whole s)
    ∙ taken_where (M.in_params h) (option_and_then (M.behind_params h a_close) (P.whole s)) (P.cue_step join s at a_close) (no_parameters s at)

not_behind : (h : M.Head Span) (c : Cue) (o : Option (List (Param Span))) → is_close c ≡ false → option_and_then (M.behind_params h c) o ≡ None
not_behind h c None k = refl
not_behind h a_close (Some ps) k = absurd cc
not_behind h _ (Some ps) k = refl

pub params_go : (h : M.Head Span) (s : P.State Span) (at : Span) (c : Cue) → is_close c ≡ false → option_map (M.in_params h) (P.cue_step join s at c) ≡ M.from_params join h s at c
params_go h s at c k = goes_on (M.in_params h) (option_and_then (M.behind_params h c) (P.whole s)) (P.cue_step join s at c) (not_behind h c (P.whole s) k)

-- ---- types

no_name : (ps : List (Param Span)) (m : Span) (f : Bool) (at : Span) (c : Cue) (t : TypeName Span) → is_word c ≡ false → P.named join ps m f at c t ≡ None
no_name ps m f at (a_word w) t h = absurd cc
no_name ps m f at _ t h = refl

pub param_goes : (ps : List (Param Span)) (m : Span) (f : Bool) (s : T.State Span) (at : Span) (c : Cue) → is_word c ≡ false → option_map (P.in_type ps m f) (T.cue_step join s at c) ≡ P.from_type join ps m f s at c
param_goes ps m f s at c h = goes_on (P.in_type ps m f) (option_and_then (P.named join ps m f at c) (T.whole s)) (T.cue_step join s at c) (none_then (P.named join ps m f at c) (T.whole s) (λ t. no_name ps m f at c t h))

nothing_behind : (name : List ℕ) (l : M.Lead Span) (at : Span) (c : Cue) (t : TypeName Span) → is_word c ≡ false → is_open c ≡ false → M.behind_type name l at c t ≡ None
nothing_behind name l at (a_word w) t h k = absurd cc
nothing_behind name l at an_open t h k = absurd cc
nothing_behind name l at _ t h k = refl

pub type_goes : (name : List ℕ) (l : M.Lead Span) (s : T.State Span) (at : Span) (c : Cue) → is_word c ≡ false → is_open c ≡ false → option_map (M.in_type l) (T.cue_step join s at c) ≡ M.from_type join name l s at c
type_goes name l s at c h k = goes_on (M.in_type l) (option_and_then (M.behind_type name l at c) (T.whole s)) (T.cue_step join s at c) (none_then (M.behind_type name l at c) (T.whole s) (λ t. nothing_behind name l at c t h k))

-- ---- bodies

no_place : (fs : List (S.Frame Span)) (all : Stmts Span) (at : Span) → is_some (S.whole_in fs all) ≡ true → S.from_ready join fs all at (symbol CloseBrace) a_close_brace ≡ None
unfolding from_ready
no_place [] all at h = refl
no_place (f ∷ fs) all at h = absurd cc

-- a whole list doesn't go on with a closing brace
no_list : (s : S.State Span) (at : Span) → is_some (S.whole join s) ≡ true → S.step join s at (symbol CloseBrace) ≡ None
no_list (S.ready fs all) at h = no_place fs all at h
no_list (S.done fs all d) at h = no_place (S.ended join fs all d).on (S.ended join fs all d).all at h
no_list _ at h = absurd cc

module _ (b : M.Body Span) (s : S.State Span) (at : Span) (k : Token) where
  pub body_ends : (is_close_brace (cue_of k) && is_some (S.whole join s)) ≡ true → option_and_then (M.body_closed join b at a_close_brace) (S.whole join s) ≡ M.from_body join b s at k (cue_of k)
  body_ends h =
      let c = close_brace_is (cue_of k) (left_of (is_close_brace (cue_of k)) (is_some (S.whole join s)) h) in
      taken_where (M.in_body b) (option_and_then (M.body_closed join b at a_close_brace) (S.whole join s)) (S.step join s at k)
      (ap (S.step join s at) (token_is k a_close_brace c) ∙ no_list s at (right_of (is_close_brace (cue_of k)) (is_some (S.whole join s)) h))
      ∙ ap (M.from_body join b s at k) (sym c)

  no_brace : (c : Cue) (o : Option (Stmts Span)) → (is_close_brace c && is_some o) ≡ false → option_and_then (M.body_closed join b at c) o ≡ None
  no_brace c None h = refl
  no_brace a_close_brace (Some ss) h = absurd cc
  no_brace _ (Some ss) h = refl

  pub body_goes : (is_close_brace (cue_of k) && is_some (S.whole join s)) ≡ false → option_map (M.in_body b) (S.step join s at k) ≡ M.from_body join b s at k (cue_of k)
  body_goes h = goes_on (M.in_body b) (option_and_then (M.body_closed join b at (cue_of k)) (S.whole join s)) (S.step join s at k) (no_brace (cue_of k) (S.whole join s) h)

-- ---- `super` first in a body

pub super_goes : (of : M.Constructor Span) (at : Span) (k : Token) (c : Cue) → is_super c ≡ false → M.from_body join (M.without_super of) S.start at k c ≡ M.from_constructor join of at k c
super_goes of at k a_super h = absurd cc
super_goes of at k _ h = refl

pub open_goes : (of : M.Constructor Span) (m at : Span) (k : Token) (c : Cue) → is_open c ≡ false → M.from_body join (M.without_super of) (M.super_read m) at k c ≡ M.from_super join of m at k c
open_goes of m at k an_open h = absurd cc
open_goes of m at k _ h = refl

-- ---- whether arguments are whole

abbrev pub is_none : List (Expr Span) → Bool
is_none [] = true
is_none (e ∷ es) = false

pub none_is : (es : List (Expr Span)) (n : ℕ) → n ≡ length es → (n == 0) ≡ is_none es
none_is [] n h = ap (λ (k : ℕ). k == 0) h
none_is (e ∷ es) n h = ne_eqb n 0 (λ k. absurd (omega arith))

first_whole : (s : E.State Span) (o : Option (Exp Span)) → (is_some o || is_start s) ≡ is_some (A.whole_first o s)
first_whole s (Some e) = refl
first_whole (E.want []) None = refl
first_whole (E.want (f ∷ fs)) None = refl
first_whole _ None = refl

behind_whole : (es : Exps Span) (e : Exp Span) (s : E.State Span) (o : Option (Exp Span)) → (is_some o || false) ≡ is_some (A.whole_behind (more e es) o s)
behind_whole es e s (Some d) = refl
behind_whole es e s None = refl

pub whole_where : (es : List (Expr Span)) (s : E.State Span) (o : Option (Exp Span)) → (is_some o || (is_none es && is_start s)) ≡ is_some (A.whole_behind (exprs_of es) o s)
whole_where [] s o = first_whole s o
whole_where (e ∷ es) s o = behind_whole (exprs_of es) (expr_of e) s o

first_last : (s : E.State Span) (o : Option (Exp Span)) → is_start s ≡ false → option_map (E.with_last end) o ≡ A.whole_first o s
first_last s (Some e) h = refl
first_last (E.want []) None h = absurd cc
first_last (E.want (f ∷ fs)) None h = refl
first_last _ None h = refl

pub last_where : (es : List (Expr Span)) (s : E.State Span) → (is_none es && is_start s) ≡ false → option_map (E.with_last (exprs_of es)) (E.whole join s) ≡ A.whole join (A.in_argument (exprs_of es) s)
last_where [] s h = first_last s (E.whole join s) h
last_where (e ∷ es) s h = refl

pub none_where : (es : List (Expr Span)) (s : E.State Span) → (is_none es && is_start s) ≡ true → Some (exprs_of es) ≡ A.whole join (A.in_argument (exprs_of es) s)
none_where [] (E.want []) h = refl
none_where [] (E.want (f ∷ fs)) h = absurd cc
none_where [] _ h = absurd cc
none_where (e ∷ es) s h = absurd cc
