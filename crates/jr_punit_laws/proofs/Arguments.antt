-- What the machine for arguments reads.
use Rattle.std.proofs.Common.{◌≡◌, List, [], ◌∷◌, ◌++◌, Option, Some, None, refl, sym, ap, subst, ◌∙◌, append_assoc}
use Rattle.std.specs.Prelude.{option_and_then, IfSome}
use Rattle.std.proofs.lemmas.List.{append-nil}
use Rattle.std.proofs.lemmas.Option.{same_Some}
use Rattle.jr_lex.specs.declared.items.Symbol.TheVariants.{CloseParen, Comma}
use Rattle.jr_ast.specs.Tree.{Exp, Exps, end, more}
use Rattle.jr_grammar.specs.Tokens.{Token, symbol}
use Rattle.jr_grammar.specs.Spelling.{toks, args_toks, more_toks}
use Rattle.jr_grammar.specs.Shape.{Shaped, AllShaped}
use Rattle.jr_grammar.specs.Readings.{Begins}
use Rattle.jr_grammar.specs.Bare.{Bare}
use Rattle.jr_pexpr.specs.Runs as Runs
use Rattle.jr_pexpr.specs.Machine as E
use Rattle.jr_pexpr.specs.Machine.{with_last, begun}
use Rattle.jr_pexpr.specs.BareMachine.{no_join, bare_step, bare_run, bare_whole}
use Rattle.jr_pexpr.proofs.Found.{at_some}
use Rattle.jr_pstmt.specs.Cues.{Cue, cue_of, cue_token}
use Rattle.jr_pstmt.specs.Inside.{inner}
use Rattle.jr_pstmt.specs.ArgumentMachine.{State, in_argument, start, next_argument, step, whole, whole_none, whole_behind}
use Rattle.jr_pstmt.proofs.CueTokens.{cue_back, comma_both}
use Rattle.jr_pstmt.proofs.Inside.{inner_both, run_one, driven, read_in}
use Rattle.jr_punit_laws.proofs.Expressions.{exp_read, exp_sound, exp_closes, exp_unread}

abbrev pub args_step : State Bare → Token → Option (State Bare)
args_step s t = step no_join s tt t

abbrev pub args_whole : State Bare → Option (Exps Bare)
args_whole s = whole no_join s

abbrev pub args_run : State Bare → List Token → Option (State Bare)
args_run s ts = Runs.run (State Bare) Token (Exps Bare) args_step args_whole s ts

-- ---- all arguments are read

abbrev joined : Exps Bare → Exps Bare → Exps Bare
joined end es = es
joined (more d ds) es = more d (joined ds es)

joined-with_last : (ds : Exps Bare) (e : Exp Bare) (es : Exps Bare) → joined (with_last ds e) es ≡ joined ds (more e es)
joined-with_last end e es = refl
joined-with_last (more d ds) e es = ap (more d) (joined-with_last ds e es)

joined-end : (ds : Exps Bare) → joined ds end ≡ ds
joined-end end = refl
joined-end (more d ds) = ap (more d) (joined-end ds)

behind_is : (ds : Exps Bare) (e : Exp Bare) (s : E.State Bare) → whole_behind ds (Some e) s ≡ Some (with_last ds e)
behind_is end e s = refl
behind_is (more d ds) e s = refl

abbrev taken : Exps Bare → E.State Bare → Token → Option (State Bare)
taken ds s t = option_and_then (next_argument ds (cue_of t)) (bare_whole s)

record RestRead (ds es : Exps Bare) (ts : List Token) : Type 0 where
  last : State Bare
  runs : args_run (in_argument ds (E.want [])) ts ≡ Some last
  is_whole : args_whole last ≡ Some (joined ds es)
  at_close : args_step last (symbol CloseParen) ≡ None

rest_read : (es : Exps Bare) (e : Exp Bare) (ds : Exps Bare) → Shaped e → AllShaped es → RestRead ds (more e es) (toks e ++ more_toks es)
rest_read end e ds h k =
    let r = exp_read e h in
    record {
      last = in_argument ds r.last;
      runs = driven (E.State Bare) (Exp Bare) (State Bare) (Exps Bare) bare_step bare_whole args_step args_whole (in_argument ds) (taken ds) (λ s t. refl) (toks e) (E.want []) r.last [] r.runs;
      is_whole = ap (λ (o : Option (Exp Bare)). whole_behind ds o r.last) r.is_whole ∙ behind_is ds e r.last ∙ ap (λ (rs : Exps Bare). Some rs) (sym (joined-end (with_last ds e)) ∙ joined-with_last ds e end);
      at_close = rw (r.at_close, r.is_whole) refl;
    }
rest_read (more g gs) e ds h k =
    let r = exp_read e h in
    let l = rest_read gs g (with_last ds e) k.0 k.1 in
    record {
      last = l.last;
      runs =
          read_in (E.State Bare) (Exp Bare) (State Bare) (Exps Bare) bare_step bare_whole args_step args_whole (in_argument ds) (taken ds) (λ s t. refl)
          (toks e) (E.want []) r.last (symbol Comma) (toks g ++ more_toks gs) (in_argument (with_last ds e) (E.want [])) r.runs r.at_comma (ap (option_and_then (next_argument ds (cue_of (symbol Comma)))) r.is_whole)
          ∙ l.runs;
      is_whole = l.is_whole ∙ ap (λ (rs : Exps Bare). Some rs) (joined-with_last ds e (more g gs));
      at_close = l.at_close;
    }

pub record ArgsRead (es : Exps Bare) : Type 0 where
  pub last : State Bare
  pub runs : args_run start (args_toks es) ≡ Some last
  pub is_whole : args_whole last ≡ Some es
  pub at_close : args_step last (symbol CloseParen) ≡ None

pub args_read : (es : Exps Bare) → AllShaped es → ArgsRead es
unfolding begun
args_read end h = record { last = start; runs = refl; is_whole = refl; at_close = refl }
args_read (more e es) h = let r = rest_read es e end h.0 h.1 in record { last = r.last; runs = r.runs; is_whole = r.is_whole; at_close = r.at_close }

-- ---- what has been read

-- arguments, each with a comma behind it
abbrev pub spell_done : Exps Bare → List Token → List Token
spell_done end x = x
spell_done (more e es) x = toks e ++ (symbol Comma ∷ spell_done es x)

done-with_last : (es : Exps Bare) (e : Exp Bare) (x : List Token) → spell_done (with_last es e) x ≡ spell_done es (toks e ++ (symbol Comma ∷ x))
done-with_last end e x = refl
done-with_last (more d es) e x = ap (λ (y : List Token). toks d ++ (symbol Comma ∷ y)) (done-with_last es e x)

more-with_last : (es : Exps Bare) (e : Exp Bare) (x : List Token) → more_toks (with_last es e) ++ x ≡ symbol Comma ∷ spell_done es (toks e ++ x)
more-with_last end e x = ap (λ (y : List Token). symbol Comma ∷ y) (ap (λ (y : List Token). y ++ x) (append-nil (toks e)))
more-with_last (more d es) e x = ap (λ (y : List Token). symbol Comma ∷ y) (append_assoc (toks d) (more_toks (with_last es e)) x ∙ ap (λ (y : List Token). toks d ++ y) (more-with_last es e x))

args-with_last : (es : Exps Bare) (e : Exp Bare) (x : List Token) → args_toks (with_last es e) ++ x ≡ spell_done es (toks e ++ x)
args-with_last end e x = ap (λ (y : List Token). y ++ x) (append-nil (toks e))
args-with_last (more d es) e x = append_assoc (toks d) (more_toks (with_last es e)) x ∙ ap (λ (y : List Token). toks d ++ y) (more-with_last es e x)

shaped-with_last : (es : Exps Bare) (e : Exp Bare) → AllShaped es → Shaped e → AllShaped (with_last es e)
shaped-with_last end e g h = (h, tt)
shaped-with_last (more d es) e g h = (g.0, shaped-with_last es e g.1 h)

-- b has what the machine for expressions has read
abbrev spell_state : State Bare → List Token → List Token → List Token
spell_state s b x = spell_done s.args (b ++ x)

abbrev Good : State Bare → List Token → Type 0
Good s b = AllShaped s.args × (bare_run (E.want []) b ≡ Some s.last)

record Sound (s : State Bare) (b : List Token) (t : Token) (n : State Bare) : Type 0 where
  inside : List Token
  good : Good n inside
  spelled : (x : List Token) → spell_state s b (t ∷ x) ≡ spell_state n inside x

abbrev StepSound : State Bare → List Token → Token → Option (State Bare) → Type 0
StepSound s b t o = IfSome o (Sound s b t)

next_sound : (s : State Bare) (b : List Token) (q : Cue) (e : Exp Bare) → Good s b → bare_whole s.last ≡ Some e → StepSound s b (cue_token q) (next_argument s.args q e)
next_sound s b q e g h =
    let w = exp_sound b s.last e g.1 h in
    comma_both q (in_argument (with_last s.args e) (E.want [])) (StepSound s b)
    (record {
      inside = [];
      good = (shaped-with_last s.args e g.0 w.0, refl);
      spelled = λ x. ap (λ (ts : List Token). spell_done s.args (ts ++ (symbol Comma ∷ x))) (sym w.1) ∙ sym (done-with_last s.args e x);
    })
    (λ u. tt)

cue_sound : (s : State Bare) (b : List Token) (q : Cue) → Good s b
    → StepSound s b (cue_token q) (inner (in_argument s.args) (option_and_then (next_argument s.args q) (bare_whole s.last)) (bare_step s.last (cue_token q)))
cue_sound s b q g =
    inner_both (in_argument s.args) (option_and_then (next_argument s.args q) (bare_whole s.last)) (bare_step s.last (cue_token q)) (StepSound s b (cue_token q))
    (λ n e. record {
      inside = b ++ (cue_token q ∷ []);
      good = (g.0, run_one (E.State Bare) (Exp Bare) bare_step bare_whole (E.want []) s.last n b (cue_token q) g.1 e);
      spelled = λ x. ap (spell_done s.args) (sym (append_assoc b (cue_token q ∷ []) x));
    })
    (λ _. go (bare_whole s.last) refl)
  where
    go : (o : Option (Exp Bare)) → bare_whole s.last ≡ o → StepSound s b (cue_token q) (option_and_then (next_argument s.args q) o)
    go None e = tt
    go (Some d) e = next_sound s b q d g e

step_sound : (s : State Bare) (b : List Token) (t : Token) → Good s b → StepSound s b t (args_step s t)
step_sound s b t g =
    subst (λ (u : Token). StepSound s b u (inner (in_argument s.args) (option_and_then (next_argument s.args (cue_of t)) (bare_whole s.last)) (bare_step s.last u))) (cue_back t) (cue_sound s b (cue_of t) g)

record RunSound (s : State Bare) (b : List Token) (ts : List Token) (n : State Bare) : Type 0 where
  inside : List Token
  good : Good n inside
  spelled : (x : List Token) → spell_state s b (ts ++ x) ≡ spell_state n inside x

run_sound : (s : State Bare) (b ts : List Token) → Good s b → IfSome (args_run s ts) (RunSound s b ts)
run_sound s b [] g = record { inside = b; good = g; spelled = λ x. refl }
run_sound s b (t ∷ ts) g = go (λ n c h. run_sound n c ts h) (args_step s t) (step_sound s b t g)
  where
    then : (n : State Bare) (h : Sound s b t n) (o : Option (State Bare)) → IfSome o (RunSound n h.inside ts) → IfSome o (RunSound s b (t ∷ ts))
    then n h None k = tt
    then n h (Some m) k = record { inside = k.inside; good = k.good; spelled = λ x. h.spelled (ts ++ x) ∙ k.spelled x }

    go : ((n : State Bare) (c : List Token) → Good n c → IfSome (args_run n ts) (RunSound n c ts)) → (o : Option (State Bare)) → StepSound s b t o → IfSome (option_and_then (λ (n : State Bare). args_run n ts) o) (RunSound s b (t ∷ ts))
    go f None h = tt
    go f (Some n) h = then n h (args_run n ts) (f n h.inside h.good)

run_is : (ts : List Token) (n : State Bare) → args_run start ts ≡ Some n → RunSound start [] ts n
run_is ts n h = at_some (args_run start ts) n (RunSound start [] ts) h (run_sound start [] ts (tt, refl))

-- ---- what is whole

record IsRead (xs : List Token → List Token) (es : Exps Bare) : Type 0 where
  shaped : AllShaped es
  spelled : (x : List Token) → xs x ≡ args_toks es ++ x

last_is : (ds : Exps Bare) (s : E.State Bare) (b : List Token) (e : Exp Bare) → AllShaped ds → bare_run (E.want []) b ≡ Some s → bare_whole s ≡ Some e → IsRead (λ x. spell_done ds (b ++ x)) (with_last ds e)
last_is ds s b e g r h =
    let w = exp_sound b s e r h in
    record { shaped = shaped-with_last ds e g w.0; spelled = λ x. ap (λ (ts : List Token). spell_done ds (ts ++ x)) (sym w.1) ∙ sym (args-with_last ds e x) }

none_is : (s : E.State Bare) (b : List Token) (es : Exps Bare) → bare_run (E.want []) b ≡ Some s → whole_none s ≡ Some es → IsRead (λ x. b ++ x) es
none_is (E.want []) b es r h =
    let e = same_Some end es h in
    let n = exp_unread b r in
    record { shaped = subst AllShaped e tt; spelled = λ x. ap (λ (ts : List Token). ts ++ x) n ∙ ap (λ (rs : Exps Bare). args_toks rs ++ x) e }
none_is _ b es r h = absurd cc

whole_is : (ds : Exps Bare) (s : E.State Bare) (b : List Token) (es : Exps Bare) → AllShaped ds → bare_run (E.want []) b ≡ Some s → whole_behind ds (bare_whole s) s ≡ Some es → IsRead (λ x. spell_done ds (b ++ x)) es
whole_is ds s b es g r h = go ds g (bare_whole s) refl h
  where
    go : (ds : Exps Bare) → AllShaped ds → (o : Option (Exp Bare)) → bare_whole s ≡ o → whole_behind ds o s ≡ Some es → IsRead (λ x. spell_done ds (b ++ x)) es
    go ds g (Some e) k h =
        let q = same_Some (with_last ds e) es (sym (behind_is ds e s) ∙ h) in subst (IsRead (λ x. spell_done ds (b ++ x))) q (last_is ds s b e g r k)
    go end g None k h = none_is s b es r h
    go (more d ds) g None k h = absurd cc

pub args_sound : (ts : List Token) (n : State Bare) (es : Exps Bare) → args_run start ts ≡ Some n → args_whole n ≡ Some es → AllShaped es × (args_toks es ≡ ts)
args_sound ts n es h k =
    let r = run_is ts n h in
    let w = whole_is n.args n.last r.inside es r.good.0 r.good.1 k in
    (w.shaped, sym (append-nil (args_toks es)) ∙ sym (w.spelled []) ∙ sym (r.spelled []) ∙ append-nil ts)

-- ---- what has been begun can be ended

pub args_closes : (ts : List Token) (n : State Bare) → args_run start ts ≡ Some n → (es : Exps Bare) × Begins (Exps Bare) args_toks AllShaped ts es
args_closes ts n h =
    let r = run_is ts n h in
    let c = exp_closes r.inside n.last r.good.1 in
    let es = with_last n.args c.0 in (
      es,
      record {
        meant = shaped-with_last n.args c.0 r.good.0 c.1.meant;
        rest = c.1.rest;
        spells = sym (append-nil (args_toks es)) ∙ args-with_last n.args c.0 [] ∙ ap (spell_done n.args) (append-nil (toks c.0) ∙ c.1.spells) ∙ sym (r.spelled c.1.rest);
      },
    )
