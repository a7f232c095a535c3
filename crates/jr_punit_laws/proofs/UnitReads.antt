-- Compilation units: what the machine reads is the unit, and what it has begun can be ended.
use Rattle.std.proofs.Common.{◌≡◌, Bool, true, false, cond, List, [], ◌∷◌, ◌++◌, Option, Some, None, refl, sym, ap, subst, ◌∙◌, append_assoc}
use Rattle.std.specs.Prelude.{option_and_then, option_map, unwrap_or, IfSome}
use Rattle.std.proofs.lemmas.List.{append-nil}
use Rattle.std.proofs.lemmas.Option.{same_Some}
use Rattle.jr_lex.specs.declared.items.Keyword.TheVariants.{Package}
use Rattle.jr_lex.specs.declared.items.Symbol.TheVariants.{Dot, Semicolon}
use Rattle.jr_ast.specs.Tree.{Word}
use Rattle.jr_ast.specs.MemberTree.{Class, Unit as UnitTree}
use Rattle.jr_grammar.specs.Tokens.{Token, word, keyword, symbol}
use Rattle.jr_grammar.specs.Readings.{Begins}
use Rattle.jr_grammar.specs.MemberSpelling.{class_toks, more_words_toks, package_toks, classes_toks, unit_toks}
use Rattle.jr_grammar.specs.MemberShape.{ClassShaped, ClassesShaped, UnitShaped}
use Rattle.jr_grammar.specs.Bare.{Bare}
use Rattle.jr_pexpr.specs.BareMachine.{no_join}
use Rattle.jr_pexpr.proofs.Found.{at_some}
use Rattle.jr_pstmt.specs.Cues.{Cue, a_word, a_package, a_dot, a_semicolon, cue_token, cue_of}
use Rattle.jr_punit_laws.specs.ClassMachine as C
use Rattle.jr_punit_laws.specs.MemberMachine as M
use Rattle.jr_punit_laws.specs.UnitMachine.{ClassState, State, start, in_package, worded, in_classes, behind_class, class_read, from_classes, from_start, from_package, from_worded, cue_step, is_between, unit_of}
use Rattle.jr_punit_laws.specs.Machines.{unit_step, unit_whole, unit_run}
use Rattle.jr_pstmt.proofs.CueTokens.{cue_back}
use Rattle.jr_pstmt.proofs.Inside.{run_one, map_inner, settles}
use Rattle.jr_punit_laws.proofs.Types.{a_name}
use Rattle.jr_punit_laws.proofs.Classes as Classes
use Rattle.jr_punit_laws.proofs.MemberReads.{member_laws}

-- ---- top-level classes

abbrev pub TopState : Type 0
TopState = ClassState Bare

abbrev pub top_step : TopState → Token → Option TopState
top_step s t = Classes.class_step false (M.State Bare) M.start M.is_start (M.step no_join false) M.whole member_laws s t

abbrev pub top_run : TopState → List Token → Option TopState
top_run s ts = Classes.class_run false (M.State Bare) M.start M.is_start (M.step no_join false) M.whole member_laws s ts

top_reads : (c : Class Bare) → ClassShaped false c → top_run C.start (class_toks c) ≡ Some (C.done c)
top_reads = Classes.class_reads false (M.State Bare) M.start M.is_start (M.step no_join false) M.whole member_laws

top_sound : (ts : List Token) (n : TopState) (c : Class Bare) → top_run C.start ts ≡ Some n → C.whole n ≡ Some c → ClassShaped false c × (class_toks c ≡ ts)
top_sound = Classes.class_sound false (M.State Bare) M.start M.is_start (M.step no_join false) M.whole member_laws

top_closes : (ts : List Token) (n : TopState) → top_run C.start ts ≡ Some n → (c : Class Bare) × Begins (Class Bare) class_toks (ClassShaped false) ts c
top_closes = Classes.class_closes false (M.State Bare) M.start M.is_start (M.step no_join false) M.whole member_laws

top_ended : (n : TopState) (c : Class Bare) (t : Token) → C.whole n ≡ Some c → top_step n t ≡ None
top_ended = Classes.class_ended false (M.State Bare) M.start M.is_start (M.step no_join false) M.whole member_laws

pub top_unread : (ts : List Token) → top_run C.start ts ≡ Some C.start → ts ≡ []
top_unread = Classes.class_unread false (M.State Bare) M.start M.is_start (M.step no_join false) M.whole member_laws

-- ---- every unit is read

abbrev Words : Type 0
Words = List (Word Bare)

abbrev AllClasses : Type 0
AllClasses = List (Class Bare)

classes_read : (cs ds : AllClasses) (ws : Words) → ClassesShaped cs → unit_run (in_classes ws ds C.start) (classes_toks cs) ≡ Some (in_classes ws (ds ++ cs) C.start)
classes_read [] ds ws h = ap (λ (es : AllClasses). Some (in_classes ws es C.start)) (sym (append-nil ds))
classes_read (c ∷ cs) ds ws h =
    settles TopState (Class Bare) (State Bare) (UnitTree Bare) top_step C.whole unit_step unit_whole (in_classes ws ds) (behind_class ws ds) (λ s t. None) (λ s t. map_inner (class_read ws ds) (top_step s t)) top_ended
    (class_toks c) C.start (C.done c) c (classes_toks cs) refl (top_reads c h.0) refl
    ∙ classes_read cs (ds ++ (c ∷ [])) ws h.1
    ∙ ap (λ (es : AllClasses). Some (in_classes ws es C.start)) (append_assoc ds (c ∷ []) cs)

words_read : (ws ds : Words) (x : List Token) → unit_run (worded ds) (more_words_toks ws ++ (symbol Semicolon ∷ x)) ≡ unit_run (in_classes (ds ++ ws) [] C.start) x
words_read [] ds x = ap (λ (r : Words). unit_run (in_classes r [] C.start) x) (sym (append-nil ds))
words_read (w ∷ ws) ds x = words_read ws (ds ++ (w ∷ [])) x ∙ ap (λ (r : Words). unit_run (in_classes r [] C.start) x) (append_assoc ds (w ∷ []) ws)

-- the tokens begin, but not with `package`
abbrev NoPackage : List Token → Type 0
NoPackage [] = ⊥
NoPackage (keyword Package ∷ ts) = ⊥
NoPackage (t ∷ ts) = Unit {0}

no_package : (ts y : List Token) (c : Class Bare) → top_run C.start ts ≡ Some (C.done c) → NoPackage (ts ++ y)
no_package [] y c h = absurd cc
no_package (keyword Package ∷ ts) y c h = absurd cc
no_package (symbol Dot ∷ ts) y c h = tt
no_package (t ∷ ts) y c h = tt

start_goes : (z : List Token) → NoPackage z → unit_run start z ≡ unit_run (in_classes [] [] C.start) z
start_goes [] h = absurd h
start_goes (keyword Package ∷ ts) h = absurd h
start_goes (symbol Dot ∷ ts) h = refl
start_goes (t ∷ ts) h = refl

record Read (u : UnitTree Bare) : Type 0 where
  last : State Bare
  runs : unit_run start (unit_toks u) ≡ Some last
  is_whole : unit_whole last ≡ Some u

unit_read : (ws : Words) (cs : AllClasses) → ClassesShaped cs → Read (unit_of tt ws cs)
unit_read [] [] h = record { last = start; runs = refl; is_whole = refl }
unit_read [] (c ∷ cs) h = record {
  last = in_classes [] (c ∷ cs) C.start;
  runs = start_goes (class_toks c ++ classes_toks cs) (no_package (class_toks c) (classes_toks cs) c (top_reads c h.0)) ∙ classes_read (c ∷ cs) [] [] h;
  is_whole = refl;
}
unit_read (w ∷ ws) cs h = record {
  last = in_classes (w ∷ ws) cs C.start;
  runs = ap (λ (y : List Token). unit_run (worded (w ∷ [])) y) (append_assoc (more_words_toks ws) (symbol Semicolon ∷ []) (classes_toks cs))
      ∙ words_read ws (w ∷ []) (classes_toks cs)
      ∙ classes_read cs [] (w ∷ ws) h;
  is_whole = refl;
}

pub unit_answers : (u : UnitTree Bare) → UnitShaped u → option_and_then unit_whole (unit_run start (unit_toks u)) ≡ Some u
unit_answers u h = let r = unit_read u.package_name u.classes h in ap (option_and_then unit_whole) r.runs ∙ r.is_whole

-- ---- what has been read

-- words, each with a dot behind it
abbrev spell_dotted : Words → List Token → List Token
spell_dotted [] x = x
spell_dotted (w ∷ ws) x = word w.text ∷ symbol Dot ∷ spell_dotted ws x

abbrev words_toks : Words → List Token
words_toks [] = []
words_toks (w ∷ ws) = word w.text ∷ more_words_toks ws

more-one : (ws : Words) (w : Word Bare) (x : List Token) → more_words_toks (ws ++ (w ∷ [])) ++ x ≡ symbol Dot ∷ spell_dotted ws (word w.text ∷ x)
more-one [] w x = refl
more-one (v ∷ ws) w x = ap (λ (y : List Token). symbol Dot ∷ word v.text ∷ y) (more-one ws w x)

words-one : (ws : Words) (w : Word Bare) (x : List Token) → words_toks (ws ++ (w ∷ [])) ++ x ≡ spell_dotted ws (word w.text ∷ x)
words-one [] w x = refl
words-one (v ∷ ws) w x = ap (λ (y : List Token). word v.text ∷ y) (more-one ws w x)

more-dot : (ws : Words) (x : List Token) → more_words_toks ws ++ (symbol Dot ∷ x) ≡ symbol Dot ∷ spell_dotted ws x
more-dot [] x = refl
more-dot (w ∷ ws) x = ap (λ (y : List Token). symbol Dot ∷ word w.text ∷ y) (more-dot ws x)

abbrev IsMore : Words → Type 0
IsMore [] = ⊥
IsMore (w ∷ ws) = Unit {0}

more_behind : (ws : Words) (w : Word Bare) → IsMore (ws ++ (w ∷ []))
more_behind [] w = tt
more_behind (v ∷ ws) w = tt

words-dot : (ws : Words) (x : List Token) → IsMore ws → words_toks ws ++ (symbol Dot ∷ x) ≡ spell_dotted ws x
words-dot [] x h = absurd h
words-dot (w ∷ ws) x h = ap (λ (y : List Token). word w.text ∷ y) (more-dot ws x)

package-is : (ws : Words) (x : List Token) → IsMore ws → keyword Package ∷ (words_toks ws ++ (symbol Semicolon ∷ x)) ≡ package_toks ws ++ x
package-is [] x h = absurd h
package-is (w ∷ ws) x h = ap (λ (y : List Token). keyword Package ∷ word w.text ∷ y) (sym (append_assoc (more_words_toks ws) (symbol Semicolon ∷ []) x))

classes-one : (cs : AllClasses) (c : Class Bare) (x : List Token) → classes_toks (cs ++ (c ∷ [])) ++ x ≡ classes_toks cs ++ (class_toks c ++ x)
classes-one [] c x = append_assoc (class_toks c) [] x
classes-one (d ∷ cs) c x =
    append_assoc (class_toks d) (classes_toks (cs ++ (c ∷ []))) x ∙ ap (λ (y : List Token). class_toks d ++ y) (classes-one cs c x) ∙ sym (append_assoc (class_toks d) (classes_toks cs) (class_toks c ++ x))

shaped-one : (cs : AllClasses) (c : Class Bare) → ClassesShaped cs → ClassShaped false c → ClassesShaped (cs ++ (c ∷ []))
shaped-one [] c h k = (k, tt)
shaped-one (d ∷ cs) c h k = (h.0, shaped-one cs c h.1 k)

-- b has what the machine for classes has read
abbrev spell_state : State Bare → List Token → List Token → List Token
spell_state start b x = x
spell_state (in_package ws) b x = keyword Package ∷ spell_dotted ws x
spell_state (worded ws) b x = keyword Package ∷ (words_toks ws ++ x)
spell_state (in_classes ws cs s) b x = package_toks ws ++ (classes_toks cs ++ (b ++ x))

abbrev Good : State Bare → List Token → Type 0
Good start b = Unit {0}
Good (in_package ws) b = Unit {0}
Good (worded ws) b = IsMore ws
Good (in_classes ws cs s) b = ClassesShaped cs × (top_run C.start b ≡ Some s)

record Sound (s : State Bare) (b : List Token) (t : Token) (n : State Bare) : Type 0 where
  inside : List Token
  good : Good n inside
  spelled : (x : List Token) → spell_state s b (t ∷ x) ≡ spell_state n inside x

abbrev StepSound : State Bare → List Token → Token → Option (State Bare) → Type 0
StepSound s b t o = IfSome o (Sound s b t)

again : (s r : State Bare) (b c : List Token) (t : Token) (o : Option (State Bare)) → ((x : List Token) → spell_state s b x ≡ spell_state r c x) → StepSound r c t o → StepSound s b t o
again s r b c t None e h = tt
again s r b c t (Some n) e h = record { inside = h.inside; good = h.good; spelled = λ x. e (t ∷ x) ∙ h.spelled x }

settled_sound : (ws : Words) (cs : AllClasses) (s n : TopState) (b : List Token) (t : Token) → Good (in_classes ws cs s) b → top_step s t ≡ Some n → Sound (in_classes ws cs s) b t (class_read ws cs n)
settled_sound ws cs s n b t g e = go (C.whole n) refl
  where
    reached : top_run C.start (b ++ (t ∷ [])) ≡ Some n
    reached = run_one TopState (Class Bare) top_step C.whole C.start s n b t g.1 e

    go : (o : Option (Class Bare)) → C.whole n ≡ o → Sound (in_classes ws cs s) b t (unwrap_or (option_map (behind_class ws cs) o) (in_classes ws cs n))
    go None k = record { inside = b ++ (t ∷ []); good = (g.0, reached); spelled = λ x. ap (λ (y : List Token). package_toks ws ++ (classes_toks cs ++ y)) (sym (append_assoc b (t ∷ []) x)) }
    go (Some c) k =
        let r = top_sound (b ++ (t ∷ [])) n c reached k in
        record {
          inside = [];
          good = (shaped-one cs c g.0 r.0, refl);
          spelled = λ x. ap (λ (y : List Token). package_toks ws ++ y)
              (ap (λ (y : List Token). classes_toks cs ++ y) (sym (append_assoc b (t ∷ []) x) ∙ ap (λ (y : List Token). y ++ x) (sym r.1)) ∙ sym (classes-one cs c x));
        }

classes_sound : (ws : Words) (cs : AllClasses) (s : TopState) (b : List Token) (t : Token) → Good (in_classes ws cs s) b → StepSound (in_classes ws cs s) b t (from_classes no_join ws cs s tt t)
classes_sound ws cs s b t g = go (top_step s t) refl
  where
    go : (o : Option TopState) → top_step s t ≡ o → StepSound (in_classes ws cs s) b t (option_map (class_read ws cs) o)
    go None e = tt
    go (Some n) e = settled_sound ws cs s n b t g e

first_sound : (b : List Token) (t : Token) → StepSound start b t (from_classes no_join [] [] C.start tt t)
first_sound b t = again start (in_classes [] [] C.start) b [] t (from_classes no_join [] [] C.start tt t) (λ x. refl) (classes_sound [] [] C.start [] t (tt, refl))

start_sound : (b : List Token) (q : Cue) → StepSound start b (cue_token q) (from_start no_join tt (cue_token q) q)
start_sound b a_package = record { inside = []; good = tt; spelled = λ x. refl }
start_sound b q = first_sound b (cue_token q)

package_sound : (ws : Words) (b : List Token) (q : Cue) → StepSound (in_package ws) b (cue_token q) (from_package ws tt q)
package_sound ws b (a_word w) =
    let v : Word Bare = record { mark = tt; text = w } in
    record { inside = []; good = more_behind ws v; spelled = λ x. ap (λ (y : List Token). keyword Package ∷ y) (sym (words-one ws v x)) }
package_sound ws b _ = tt

worded_sound : (ws : Words) (b : List Token) (q : Cue) → IsMore ws → StepSound (worded ws) b (cue_token q) (from_worded ws q)
worded_sound ws b a_dot g = record { inside = []; good = tt; spelled = λ x. ap (λ (y : List Token). keyword Package ∷ y) (words-dot ws x g) }
worded_sound ws b a_semicolon g = record { inside = []; good = (tt, refl); spelled = λ x. package-is ws x g }
worded_sound ws b _ g = tt

cue_sound : (s : State Bare) (b : List Token) (q : Cue) → Good s b → StepSound s b (cue_token q) (cue_step no_join s tt (cue_token q) q)
cue_sound start b q g = start_sound b q
cue_sound (in_package ws) b q g = package_sound ws b q
cue_sound (worded ws) b q g = worded_sound ws b q g
cue_sound (in_classes ws cs s) b q g = classes_sound ws cs s b (cue_token q) g

step_sound : (s : State Bare) (b : List Token) (t : Token) → Good s b → StepSound s b t (unit_step s t)
step_sound s b t g = subst (λ (u : Token). StepSound s b u (cue_step no_join s tt u (cue_of t))) (cue_back t) (cue_sound s b (cue_of t) g)

record RunSound (s : State Bare) (b : List Token) (ts : List Token) (n : State Bare) : Type 0 where
  inside : List Token
  good : Good n inside
  spelled : (x : List Token) → spell_state s b (ts ++ x) ≡ spell_state n inside x

run_sound : (s : State Bare) (b ts : List Token) → Good s b → IfSome (unit_run s ts) (RunSound s b ts)
run_sound s b [] g = record { inside = b; good = g; spelled = λ x. refl }
run_sound s b (t ∷ ts) g = go (λ n c h. run_sound n c ts h) (unit_step s t) (step_sound s b t g)
  where
    then : (n : State Bare) (h : Sound s b t n) (o : Option (State Bare)) → IfSome o (RunSound n h.inside ts) → IfSome o (RunSound s b (t ∷ ts))
    then n h None k = tt
    then n h (Some m) k = record { inside = k.inside; good = k.good; spelled = λ x. h.spelled (ts ++ x) ∙ k.spelled x }

    go : ((n : State Bare) (c : List Token) → Good n c → IfSome (unit_run n ts) (RunSound n c ts)) → (o : Option (State Bare)) → StepSound s b t o → IfSome (option_and_then (λ (n : State Bare). unit_run n ts) o) (RunSound s b (t ∷ ts))
    go f None h = tt
    go f (Some n) h = then n h (unit_run n ts) (f n h.inside h.good)

run_is : (ts : List Token) (n : State Bare) → unit_run start ts ≡ Some n → RunSound start [] ts n
run_is ts n h = at_some (unit_run start ts) n (RunSound start [] ts) h (run_sound start [] ts tt)

-- ---- what is whole

between_is : (s : TopState) → is_between s ≡ true → s ≡ C.start
between_is (C.modified []) h = refl
between_is (C.modified (m ∷ ms)) h = absurd cc
between_is _ h = absurd cc

abbrev IsRead : (List Token → List Token) → UnitTree Bare → Type 0
IsRead xs u = UnitShaped u × (unit_toks u ≡ xs [])

classes_whole : (ws : Words) (cs : AllClasses) (s : TopState) (b : List Token) (u : UnitTree Bare) → Good (in_classes ws cs s) b → unit_whole (in_classes ws cs s) ≡ Some u → IsRead (spell_state (in_classes ws cs s) b) u
classes_whole ws cs s b u g h = go (is_between s) refl h
  where
    nothing : is_between s ≡ true → b ≡ []
    nothing k = top_unread b (g.1 ∙ ap (λ (r : TopState). Some r) (between_is s k))

    go : (o : Bool) → is_between s ≡ o → cond o (Some (unit_of tt ws cs)) None ≡ Some u → IsRead (spell_state (in_classes ws cs s) b) u
    go false e q = absurd cc
    go true e q =
        subst (IsRead (spell_state (in_classes ws cs s) b)) (same_Some (unit_of tt ws cs) u q)
        (g.0, ap (λ (y : List Token). package_toks ws ++ y) (sym (append-nil (classes_toks cs)) ∙ ap (λ (ts : List Token). classes_toks cs ++ (ts ++ [])) (sym (nothing e))))

whole_is : (n : State Bare) (b : List Token) (u : UnitTree Bare) → Good n b → unit_whole n ≡ Some u → IsRead (spell_state n b) u
whole_is start b u g h = subst (IsRead (spell_state start b)) (same_Some (unit_of tt [] []) u h) (tt, refl)
whole_is (in_package ws) b u g h = absurd cc
whole_is (worded ws) b u g h = absurd cc
whole_is (in_classes ws cs s) b u g h = classes_whole ws cs s b u g h

pub unit_sound : (ts : List Token) (n : State Bare) (u : UnitTree Bare) → unit_run start ts ≡ Some n → unit_whole n ≡ Some u → UnitShaped u × (unit_toks u ≡ ts)
unit_sound ts n u h k =
    let r = run_is ts n h in
    let w = whole_is n r.inside u r.good k in
    (w.0, w.1 ∙ sym (r.spelled []) ∙ append-nil ts)

-- ---- what has been begun can be ended

record Ends (xs : List Token → List Token) : Type 0 where
  rest : List Token
  tree : UnitTree Bare
  shaped : UnitShaped tree
  spelled : xs rest ≡ unit_toks tree

state_ends : (s : State Bare) (b : List Token) → Good s b → Ends (spell_state s b)
state_ends start b g = record { rest = []; tree = unit_of tt [] []; shaped = tt; spelled = refl }
state_ends (in_package ws) b g = record {
  rest = word (97 ∷ []) ∷ symbol Semicolon ∷ [];
  tree = unit_of tt (ws ++ (a_name ∷ [])) [];
  shaped = tt;
  spelled = ap (λ (y : List Token). keyword Package ∷ y) (sym (words-one ws a_name (symbol Semicolon ∷ []))) ∙ package-is (ws ++ (a_name ∷ [])) [] (more_behind ws a_name);
}
state_ends (worded ws) b g = record { rest = symbol Semicolon ∷ []; tree = unit_of tt ws []; shaped = tt; spelled = package-is ws [] g }
state_ends (in_classes ws cs s) b g =
    let c = top_closes b s g.1 in
    record {
      rest = c.1.rest;
      tree = unit_of tt ws (cs ++ (c.0 ∷ []));
      shaped = shaped-one cs c.0 g.0 c.1.meant;
      spelled = ap (λ (y : List Token). package_toks ws ++ y)
          (ap (λ (y : List Token). classes_toks cs ++ y) (sym c.1.spells ∙ sym (append-nil (class_toks c.0))) ∙ sym (classes-one cs c.0 []) ∙ append-nil (classes_toks (cs ++ (c.0 ∷ []))));
    }

pub unit_closes : (ts : List Token) (n : State Bare) → unit_run start ts ≡ Some n → (u : UnitTree Bare) × Begins (UnitTree Bare) unit_toks UnitShaped ts u
unit_closes ts n h =
    let r = run_is ts n h in
    let k = state_ends n r.inside r.good in
    (k.tree, record { meant = k.shaped; rest = k.rest; spells = sym k.spelled ∙ sym (r.spelled k.rest) })
