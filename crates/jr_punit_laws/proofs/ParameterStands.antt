-- What the machines for parameters and arguments build over tokens with places has its spans.
use Rattle.std.proofs.Common.{◌≡◌, Bool, true, false, List, [], ◌∷◌, ◌++◌, Option, Some, None, refl, sym, ap, subst, ◌∙◌, append_assoc}
use Rattle.std.specs.Prelude.{option_and_then, option_map, IfSome}
use Rattle.std.proofs.lemmas.List.{append-nil}
use Rattle.std.proofs.lemmas.Option.{same_Some}
use Rattle.jr_text.specs.declared.spans.Span.{Span}
use Rattle.jr_lex.specs.declared.items.Keyword.TheVariants.{Final as FinalWord}
use Rattle.jr_lex.specs.declared.items.Symbol.TheVariants.{Comma}
use Rattle.jr_ast.specs.declared.operators.ModWord.{ModWord}
use Rattle.jr_ast.specs.declared.operators.ModWord.TheVariants.{Final}
use Rattle.jr_ast.specs.Tree.{Exp, Exps, end, more}
use Rattle.jr_ast.specs.MemberTree.{Param}
use Rattle.jr_grammar.specs.Tokens.{Token, keyword, symbol, Placed}
use Rattle.jr_grammar.specs.Layout.{token, row, Layouts, done as nothing, ◌then◌}
use Rattle.jr_grammar.specs.Stands.{Tokens, InOrder, Stands, StandInOrder}
use Rattle.jr_grammar.specs.ExpressionLayout.{exp_layout, args_layout, more_args_layout}
use Rattle.jr_grammar.specs.StatementLayout.{final_layout}
use Rattle.jr_grammar.specs.MemberLayout.{param_layout, params_layout, more_params_layout}
use Rattle.jr_pexpr.specs.Machine as E
use Rattle.jr_pexpr.specs.Marked.{join, span_step, span_whole, span_run}
use Rattle.jr_pexpr.specs.Runs as Runs
use Rattle.jr_pexpr.proofs.Found.{at_some}
use Rattle.jr_pstmt.specs.Cues.{Cue, a_word, a_modifier, cue_token, cue_of}
use Rattle.jr_pstmt.specs.Inside.{inner}
use Rattle.jr_pstmt.specs.TypeMachine as T
use Rattle.jr_pstmt.specs.ArgumentMachine as A
use Rattle.jr_pstmt.specs.ParameterMachine as P
use Rattle.jr_pstmt.proofs.CueTokens.{cue_back, comma_both}
use Rattle.jr_pstmt.proofs.Inside.{inner_both}
use Rattle.jr_punit_laws.proofs.Standing.{last_to-append, behind, grow, joined, stand_one, stand_last, last_stands, open_closed, alone}
use Rattle.jr_punit_laws.proofs.TypeStands.{StoodType, StoodTyped, type_begun, typed_more, typed_word}
use Rattle.jr_punit_laws.proofs.ExpressionStands.{span_run_one, exp_whole_stands, span_unread}

-- ---- parameters

abbrev Params : Type 0
Params = List (Param Span)

-- each with a comma behind it
abbrev each_parts : Params → Layouts Span
each_parts [] = nothing
each_parts (p ∷ ps) = param_layout p then token (symbol Comma) then each_parts ps

abbrev IsSomeParams : Params → Type 0
IsSomeParams [] = ⊥
IsSomeParams (p ∷ ps) = Unit {0}

some_params : (xs : Params) (p : Param Span) → IsSomeParams (xs ++ (p ∷ []))
some_params [] p = tt
some_params (x ∷ xs) p = tt

abbrev pub StoodParams : P.State Span → Tokens → Type 0
StoodParams (P.want xs) ps = StandInOrder (each_parts xs) ps
StoodParams (P.in_type xs m f s) ps = InOrder (StandInOrder (each_parts xs)) (StoodTyped m (final_layout f) s) ps
StoodParams (P.have xs) ps = IsSomeParams xs × Stands (params_layout xs) ps

abbrev ParamsAfter : Tokens → Placed Span → Option (P.State Span) → Type 0
ParamsAfter ps i o = IfSome o (λ (n : P.State Span). StoodParams n (ps ++ (i ∷ [])))

one_param : (p : Param Span) (b : Tokens) → Stands (param_layout p) b → StandInOrder (param_layout p then row nothing then nothing) b
one_param p b k = alone k (behind [] [] refl refl)

more_one : (xs : Params) (p : Param Span) (c b : Tokens) → StandInOrder (token (symbol Comma) then each_parts xs) c → Stands (param_layout p) b → Stands (more_params_layout (xs ++ (p ∷ []))) (c ++ b)
more_one [] p c b h k = grow b h (λ d g. subst (λ (x : Tokens). StandInOrder (param_layout p then row nothing then nothing) (x ++ b)) (sym g) (one_param p b k))
more_one (y ∷ ys) p c b h k = grow b h (λ d g. grow b g (λ e l. stand_last (more_params_layout (ys ++ (p ∷ []))) (e ++ b) (more_one ys p e b l k)))

params_one : (xs : Params) (p : Param Span) (a b : Tokens) → StandInOrder (each_parts xs) a → Stands (param_layout p) b → Stands (params_layout (xs ++ (p ∷ []))) (a ++ b)
params_one [] p a b h k = subst (λ (x : Tokens). Stands (params_layout (p ∷ [])) (x ++ b)) (sym h) (one_param p b k)
params_one (x ∷ xs) p a b h k = grow b h (λ c g. stand_last (more_params_layout (xs ++ (p ∷ []))) (c ++ b) (more_one xs p c b g k))

more_comma : (xs : Params) (c : Tokens) (i : Placed Span) → i.token ≡ symbol Comma → Stands (more_params_layout xs) c → StandInOrder (token (symbol Comma) then each_parts xs) (c ++ (i ∷ []))
more_comma [] c i t h = subst (λ (x : Tokens). StandInOrder (token (symbol Comma) then nothing) (x ++ (i ∷ []))) (sym h) (stand_one (symbol Comma) i t)
more_comma (y ∷ ys) c i t h = grow (i ∷ []) h (λ d g. grow (i ∷ []) g (λ e l. more_comma ys e i t (last_stands (more_params_layout ys) e l)))

params_comma : (xs : Params) (c : Tokens) (i : Placed Span) → i.token ≡ symbol Comma → IsSomeParams xs → Stands (params_layout xs) c → StandInOrder (each_parts xs) (c ++ (i ∷ []))
params_comma [] c i t n h = absurd n
params_comma (x ∷ xs) c i t n h = grow (i ∷ []) h (λ d g. more_comma xs d i t (last_stands (more_params_layout xs) d g))

begun_stands : (xs : Params) (i : Placed Span) (q : Cue) (ps : Tokens) → i.token ≡ cue_token q → StandInOrder (each_parts xs) ps → ParamsAfter ps i (P.begin_type xs i.mark q)
begun_stands xs i q ps t h = go (T.from_want true i.mark q) (type_begun true i q t)
  where
    go : (o : Option (T.State Span)) → IfSome o (λ (n : T.State Span). StoodType n (i ∷ [])) → ParamsAfter ps i (option_map (P.in_type xs i.mark false) o)
    go None k = tt
    go (Some n) k = behind ps (i ∷ []) h (record { parts = behind [] (i ∷ []) refl k; more = tt; from = refl })

final_stands : (xs : Params) (i : Placed Span) (w : ModWord) (ps : Tokens) → i.token ≡ cue_token (a_modifier w) → StandInOrder (each_parts xs) ps → ParamsAfter ps i (P.begin_final xs i.mark w)
final_stands xs i Final ps t h = behind ps (i ∷ []) h (record { parts = behind (i ∷ []) [] (stand_one (keyword FinalWord) i t) refl; more = tt; from = refl })
final_stands xs i _ ps t h = tt

want_stands : (xs : Params) (i : Placed Span) (q : Cue) (ps : Tokens) → i.token ≡ cue_token q → StandInOrder (each_parts xs) ps → ParamsAfter ps i (P.from_want xs i.mark q)
want_stands xs i (a_modifier w) ps t h = final_stands xs i w ps t h
want_stands xs i q ps t h = begun_stands xs i q ps t h

param_named : (xs : Params) (m : Span) (f : Bool) (s : T.State Span) (i : Placed Span) (q : Cue) (ps : Tokens) → i.token ≡ cue_token q → StoodParams (P.in_type xs m f s) ps
    → ParamsAfter ps i (option_and_then (P.named join xs m f i.mark q) (T.whole s))
param_named xs m f (T.have ty) i (a_word w) ps t h =
    let p = P.parameter join m f i.mark ty w in (
      some_params xs p,
      joined (Stands (params_layout (xs ++ (p ∷ []))))
          (grow {R = Stands (param_layout p)} (i ∷ []) h (λ b k. (open_closed i.mark (typed_word m (final_layout f) ty w i b t k) (sym (last_to-append b (i ∷ []) tt))).stands))
          (λ a b g l. params_one xs p a b g l),
    )
param_named xs m f (T.have ty) i _ ps t h = tt
param_named xs m f (T.want c) i q ps t h = tt
param_named xs m f (T.dotted o) i q ps t h = tt

pub params_step_stands : (s : P.State Span) (i : Placed Span) (q : Cue) (ps : Tokens) → i.token ≡ cue_token q → StoodParams s ps → IfSome (P.cue_step join s i.mark q) (λ (n : P.State Span). StoodParams n (ps ++ (i ∷ [])))
params_step_stands (P.want xs) i q ps t h = want_stands xs i q ps t h
params_step_stands (P.in_type xs m f s) i q ps t h =
    inner_both (P.in_type xs m f) (option_and_then (P.named join xs m f i.mark q) (T.whole s)) (T.cue_step join s i.mark q) (ParamsAfter ps i)
    (λ n e. grow (i ∷ []) h (λ b k. typed_more m (final_layout f) s n i q b t e k))
    (λ _. param_named xs m f s i q ps t h)
params_step_stands (P.have xs) i q ps t h =
    comma_both q (P.want xs) (λ (k : Token) (o : Option (P.State Span)). i.token ≡ k → ParamsAfter ps i o) (λ c. params_comma xs ps i c h.0 h.1) (λ k c. tt) t

pub params_whole_stands : (s : P.State Span) (xs : Params) (ps : Tokens) → StoodParams s ps → P.whole s ≡ Some xs → Stands (params_layout xs) ps
params_whole_stands (P.want []) xs ps h k = subst (λ (r : Params). Stands (params_layout r) ps) (same_Some [] xs k) h
params_whole_stands (P.want (y ∷ ys)) xs ps h k = absurd cc
params_whole_stands (P.in_type ys m f s) xs ps h k = absurd cc
params_whole_stands (P.have ys) xs ps h k = subst (λ (r : Params). Stands (params_layout r) ps) (same_Some ys xs k) h.1

-- ---- arguments

abbrev pub span_args_step : A.State Span → Placed Span → Option (A.State Span)
span_args_step s p = A.step join s p.mark p.token

abbrev pub span_args_whole : A.State Span → Option (Exps Span)
span_args_whole s = A.whole join s

abbrev pub span_args_run : A.State Span → Tokens → Option (A.State Span)
span_args_run s ps = Runs.run (A.State Span) (Placed Span) (Exps Span) span_args_step span_args_whole s ps

-- each with a comma behind it
abbrev done_parts : Exps Span → Layouts Span
done_parts end = nothing
done_parts (more e es) = exp_layout e then token (symbol Comma) then done_parts es

abbrev StoodArgs : A.State Span → Tokens → Type 0
StoodArgs s ps = InOrder (StandInOrder (done_parts s.args)) (λ (b : Tokens). span_run (E.want []) b ≡ Some s.last) ps

done_one : (es : Exps Span) (e : Exp Span) (a b : Tokens) → StandInOrder (done_parts es) a → StandInOrder (exp_layout e then token (symbol Comma) then nothing) b → StandInOrder (done_parts (E.with_last es e)) (a ++ b)
done_one end e a b h k = subst (λ (x : Tokens). StandInOrder (exp_layout e then token (symbol Comma) then nothing) (x ++ b)) (sym h) k
done_one (more d es) e a b h k = grow b h (λ c g. grow b g (λ x l. done_one es e x b l k))

one_arg : (e : Exp Span) (b : Tokens) → Stands (exp_layout e) b → StandInOrder (exp_layout e then row nothing then nothing) b
one_arg e b k = alone k (behind [] [] refl refl)

more_arg : (es : Exps Span) (e : Exp Span) (c b : Tokens) → StandInOrder (token (symbol Comma) then done_parts es) c → Stands (exp_layout e) b → Stands (more_args_layout (E.with_last es e)) (c ++ b)
more_arg end e c b h k = grow b h (λ d g. subst (λ (x : Tokens). StandInOrder (exp_layout e then row nothing then nothing) (x ++ b)) (sym g) (one_arg e b k))
more_arg (more d es) e c b h k = grow b h (λ x g. grow b g (λ y l. stand_last (more_args_layout (E.with_last es e)) (y ++ b) (more_arg es e y b l k)))

args_one : (es : Exps Span) (e : Exp Span) (a b : Tokens) → StandInOrder (done_parts es) a → Stands (exp_layout e) b → Stands (args_layout (E.with_last es e)) (a ++ b)
args_one end e a b h k = subst (λ (x : Tokens). Stands (args_layout (more e end)) (x ++ b)) (sym h) (one_arg e b k)
args_one (more d es) e a b h k = grow b h (λ c g. stand_last (more_args_layout (E.with_last es e)) (c ++ b) (more_arg es e c b g k))

args_cue_stands : (s : A.State Span) (i : Placed Span) (q : Cue) (ps : Tokens) → i.token ≡ cue_token q → StoodArgs s ps
    → IfSome (inner (A.in_argument s.args) (option_and_then (A.next_argument s.args q) (span_whole s.last)) (span_step s.last i)) (λ (n : A.State Span). StoodArgs n (ps ++ (i ∷ [])))
args_cue_stands s i q ps t h =
    inner_both (A.in_argument s.args) (option_and_then (A.next_argument s.args q) (span_whole s.last)) (span_step s.last i) P
    (λ n e. grow (i ∷ []) h (λ b k. span_run_one (E.State Span) (Exp Span) span_step span_whole (E.want []) s.last n b i k e))
    (λ _. go (span_whole s.last) refl)
  where
    P : Option (A.State Span) → Type 0
    P o = IfSome o (λ (n : A.State Span). StoodArgs n (ps ++ (i ∷ [])))

    go : (o : Option (Exp Span)) → span_whole s.last ≡ o → IfSome (option_and_then (A.next_argument s.args q) o) (λ (n : A.State Span). StoodArgs n (ps ++ (i ∷ [])))
    go None e = tt
    go (Some d) e =
        comma_both q (A.in_argument (E.with_last s.args d) (E.want [])) (λ (k : Token) (o : Option (A.State Span)). i.token ≡ k → IfSome o (λ (n : A.State Span). StoodArgs n (ps ++ (i ∷ []))))
        (λ c. alone
        (joined (StandInOrder (done_parts (E.with_last s.args d)))
        (grow {R = StandInOrder (exp_layout d then token (symbol Comma) then nothing)} (i ∷ []) h (λ b k. behind b (i ∷ []) (exp_whole_stands b s.last d k e).stands (stand_one (symbol Comma) i c)))
        (λ a b f g. done_one s.args d a b f g))
        refl)
        (λ k c. tt) t

args_step_stands : (s : A.State Span) (i : Placed Span) (ps : Tokens) → StoodArgs s ps → IfSome (span_args_step s i) (λ (n : A.State Span). StoodArgs n (ps ++ (i ∷ [])))
args_step_stands s i ps h = args_cue_stands s i (cue_of i.token) ps (sym (cue_back i.token)) h

-- what a run has read stands there, of any machine that steps so
module _ (S U : Type 0) (step : S → Placed Span → Option S) (whole : S → Option U) (Stood : S → Tokens → Type 0) (steps : (s : S) (i : Placed Span) (ps : Tokens) → Stood s ps → IfSome (step s i) (λ (n : S). Stood n (ps ++ (i ∷ [])))) where
  pub runs_stand : (s : S) (ps is : Tokens) → Stood s ps → IfSome (Runs.run S (Placed Span) U step whole s is) (λ (n : S). Stood n (ps ++ is))
  runs_stand s ps [] h = subst (Stood s) (sym (append-nil ps)) h
  runs_stand s ps (i ∷ is) h = go (λ n k. runs_stand n (ps ++ (i ∷ [])) is k) (step s i) (steps s i ps h)
    where
      onward : (o : Option S) → IfSome o (λ (n : S). Stood n ((ps ++ (i ∷ [])) ++ is)) → IfSome o (λ (n : S). Stood n (ps ++ (i ∷ is)))
      onward None k = tt
      onward (Some n) k = subst (Stood n) (append_assoc ps (i ∷ []) is) k

      go : ((n : S) → Stood n (ps ++ (i ∷ [])) → IfSome (Runs.run S (Placed Span) U step whole n is) (λ (m : S). Stood m ((ps ++ (i ∷ [])) ++ is))) → (o : Option S) → IfSome o (λ (n : S). Stood n (ps ++ (i ∷ [])))
          → IfSome (option_and_then (λ (n : S). Runs.run S (Placed Span) U step whole n is) o) (λ (n : S). Stood n (ps ++ (i ∷ is)))
      go f None k = tt
      go f (Some n) k = onward (Runs.run S (Placed Span) U step whole n is) (f n k)

  pub run_stands : (s n : S) (is : Tokens) → Stood s [] → Runs.run S (Placed Span) U step whole s is ≡ Some n → Stood n is
  run_stands s n is h e = at_some (Runs.run S (Placed Span) U step whole s is) n (λ (n : S). Stood n is) e (runs_stand s [] is h)

args_whole_is : (s : A.State Span) (es : Exps Span) (ps : Tokens) → StoodArgs s ps → span_args_whole s ≡ Some es → Stands (args_layout es) ps
args_whole_is s es ps h k = go s.args (span_whole s.last) h refl k
  where
    none_is : (l : E.State Span) (b : Tokens) → span_run (E.want []) b ≡ Some l → A.whole_none l ≡ Some es → (end ≡ es) × (b ≡ [])
    none_is (E.want []) b r q = (same_Some end es q, span_unread b r)
    none_is (E.want (f ∷ fs)) b r q = absurd cc
    none_is _ b r q = absurd cc

    go : (ds : Exps Span) (o : Option (Exp Span)) → InOrder (StandInOrder (done_parts ds)) (λ (b : Tokens). span_run (E.want []) b ≡ Some s.last) ps → span_whole s.last ≡ o → A.whole_behind ds o s.last ≡ Some es → Stands (args_layout es) ps
    go end (Some e) h w q =
        subst (λ (r : Exps Span). Stands (args_layout r) ps) (same_Some (more e end) es q) (joined (Stands (args_layout (more e end))) h (λ a b f g. args_one end e a b f (exp_whole_stands b s.last e g w).stands))
    go (more d ds) (Some e) h w q =
        subst (λ (r : Exps Span). Stands (args_layout r) ps) (same_Some (E.with_last (more d ds) e) es q) (joined (Stands (args_layout (E.with_last (more d ds) e))) h (λ a b f g. args_one (more d ds) e a b f (exp_whole_stands b s.last e g w).stands))
    go (more d ds) None h w q = absurd cc
    go end None h w q =
        let n = none_is s.last h.back h.rest q in
        subst (λ (r : Exps Span). Stands (args_layout r) ps) n.0 (h.whole ∙ ap (λ (x : Tokens). x ++ h.back) h.first ∙ n.1)

pub args_stand : (ps : Tokens) (s : A.State Span) (es : Exps Span) → span_args_run A.start ps ≡ Some s → span_args_whole s ≡ Some es → Stands (args_layout es) ps
args_stand ps s es h k = args_whole_is s es ps (run_stands (A.State Span) (Exps Span) span_args_step span_args_whole StoodArgs args_step_stands A.start s ps (alone refl refl) h) k
