-- Classes, over any machine that reads members.
use Rattle.std.proofs.Common.{◌≡◌, ℕ, Bool, true, false, List, [], ◌∷◌, ◌++◌, Option, Some, None, refl, sym, ap, subst, ◌∙◌, append_assoc}
use Rattle.std.specs.Prelude.{option_and_then, option_map, unwrap_or, IfSome}
use Rattle.std.proofs.lemmas.Bool.{cond_both}
use Rattle.std.proofs.lemmas.List.{append-nil}
use Rattle.std.proofs.lemmas.Option.{same_Some}
use Rattle.jr_lex.specs.declared.items.Keyword.TheVariants.{Class as ClassWord, Extends}
use Rattle.jr_lex.specs.declared.items.Symbol.TheVariants.{OpenBrace, CloseBrace}
use Rattle.jr_ast.specs.declared.operators.ModWord.{ModWord}
use Rattle.jr_ast.specs.declared.operators.ModWord.TheVariants.{Public, Protected, Private, Static, Final, Volatile, Synchronized}
use Rattle.jr_ast.specs.Tree.{Word, TypeName}
use Rattle.jr_ast.specs.MemberTree.{Modifier, Class, class, Member, Members, end, more}
use Rattle.jr_grammar.specs.Tokens.{Token, word, keyword, symbol}
use Rattle.jr_grammar.specs.Spelling.{type_toks}
use Rattle.jr_grammar.specs.Readings.{Begins}
use Rattle.jr_grammar.specs.MemberSpelling.{modifier_keyword, modifiers_toks, extends_toks, class_toks, member_toks}
use Rattle.jr_grammar.specs.MemberShape.{IsParent, ClassShaped, MemberShaped, MembersShaped}
use Rattle.jr_grammar.specs.Bare.{Bare}
use Rattle.jr_pexpr.specs.Runs as Runs
use Rattle.jr_pexpr.specs.BareMachine.{no_join}
use Rattle.jr_pexpr.proofs.Found.{at_some}
use Rattle.jr_pstmt.specs.Cues.{Cue, a_word, a_modifier, a_class, an_extends, an_open_brace, cue_token, cue_of, at_close_brace}
use Rattle.jr_pstmt.specs.Inside.{inner}
use Rattle.jr_pstmt.specs.TypeMachine as T
use Rattle.jr_pstmt.specs.OwnMachine.{Lead}
use Rattle.jr_punit_laws.specs.ClassMachine as C
use Rattle.jr_punit_laws.specs.ClassMachine.{Head, State, modified, at_class, named, in_parent, in_members, done, start, with_member, head_of, class_of, from_modified, from_class, whole}
use Rattle.jr_pstmt.proofs.CueTokens.{cue_back, open_brace_both, close_brace_both}
use Rattle.jr_pstmt.proofs.Inside.{inner_both, run_one, read_in, settles}
use Rattle.jr_punit_laws.proofs.Types as Types
use Rattle.jr_punit_laws.proofs.Types.{type_step, named_read, a_name}
use Rattle.jr_punit_laws.proofs.MemberSpell.{spell_class, spell_members, spell_class-is, spell_member-is, modifiers-one, members-with_member, shaped-with_member, joined_members, joined-with_member, joined_members-end}
use Rattle.jr_punit_laws.proofs.OwnComplete.{Modifiers, lead}
use Rattle.jr_punit_laws.proofs.OwnSound.{spell_lead}

-- what is needed of the machine for members
pub record MemberLaws (nested : Bool) (S : Type 0) (fresh : S) (is_fresh : S → Bool) (step : List ℕ → S → Bare → Token → Option S) (whole : S → Option (Member Bare)) : Type 0 where
  pub reads : (name : List ℕ) (d : Member Bare) → MemberShaped nested name d
      → (n : S) × (Runs.run S Token (Member Bare) (λ s t. step name s tt t) whole fresh (member_toks d) ≡ Some n) × (whole n ≡ Some d)
  pub sound : (name : List ℕ) (ts : List Token) (n : S) (d : Member Bare) → Runs.run S Token (Member Bare) (λ s t. step name s tt t) whole fresh ts ≡ Some n → whole n ≡ Some d → MemberShaped nested name d × (member_toks d ≡ ts)
  pub closes : (name : List ℕ) (ts : List Token) (n : S) → Runs.run S Token (Member Bare) (λ s t. step name s tt t) whole fresh ts ≡ Some n → (d : Member Bare) × Begins (Member Bare) member_toks (MemberShaped nested name) ts d
  -- nothing stands behind a whole member
  pub ended : (name : List ℕ) (n : S) (d : Member Bare) (t : Token) → whole n ≡ Some d → step name n tt t ≡ None
  -- where nothing is begun, nothing was read
  pub unread : (name : List ℕ) (ts : List Token) → Runs.run S Token (Member Bare) (λ s t. step name s tt t) whole fresh ts ≡ Some fresh → ts ≡ []
  pub fresh_is : (s : S) → is_fresh s ≡ true → s ≡ fresh
  pub fresh_true : is_fresh fresh ≡ true
  pub fresh_brace : (name : List ℕ) → step name fresh tt (symbol CloseBrace) ≡ None
  pub fresh_none : whole fresh ≡ None

module _ (nested : Bool) (S : Type 0) (fresh : S) (is_fresh : S → Bool) (step : List ℕ → S → Bare → Token → Option S) (member_whole : S → Option (Member Bare)) (laws : MemberLaws nested S fresh is_fresh step member_whole) where
  abbrev member_step : List ℕ → S → Token → Option S
  member_step name s t = step name s tt t

  abbrev member_run : List ℕ → S → List Token → Option S
  member_run name s ts = Runs.run S Token (Member Bare) (member_step name) member_whole s ts

  abbrev pub class_step : State Bare S → Token → Option (State Bare S)
  class_step s t = C.step Bare S no_join fresh is_fresh step member_whole s tt t

  abbrev pub class_run : State Bare S → List Token → Option (State Bare S)
  class_run s ts = Runs.run (State Bare S) Token (Class Bare) class_step whole s ts

  abbrev then_run : List Token → Option (State Bare S) → Option (State Bare S)
  then_run x o = option_and_then (λ (n : State Bare S). class_run n x) o

  -- ---- every class is read

  modifier_read : (ds : Modifiers) (m : Modifier Bare) → class_step (modified ds) (keyword (modifier_keyword m.word)) ≡ Some (modified (ds ++ (m ∷ [])))
  modifier_read ds m = go m.word
    where
      go : (w : ModWord) → class_step (modified ds) (keyword (modifier_keyword w)) ≡ Some (modified (ds ++ ((record { mark = tt; word = w }) ∷ [])))
      go Public = refl
      go Protected = refl
      go Private = refl
      go Static = refl
      go Final = refl
      go Volatile = refl
      go Synchronized = refl

  pub class_modifiers_read : (ms ds : Modifiers) (x : List Token) → class_run (modified ds) (modifiers_toks ms ++ x) ≡ class_run (modified (ds ++ ms)) x
  class_modifiers_read [] ds x = ap (λ (r : Modifiers). class_run (modified r) x) (sym (append-nil ds))
  class_modifiers_read (m ∷ ms) ds x =
      ap (then_run (modifiers_toks ms ++ x)) (modifier_read ds m) ∙ class_modifiers_read ms (ds ++ (m ∷ [])) x ∙ ap (λ (r : Modifiers). class_run (modified r) x) (append_assoc ds (m ∷ []) ms)

  abbrev opened : Lead Bare → Word Bare → Option (TypeName Bare) → State Bare S
  opened l w parent = in_members (head_of l w parent) end fresh

  abbrev parent_taken : Lead Bare → Word Bare → T.State Bare → Token → Option (State Bare S)
  parent_taken l w s t = option_and_then (C.behind_parent Bare S no_join fresh is_fresh step member_whole l w (cue_of t)) (T.whole s)

  parent_read : (l : Lead Bare) (w : Word Bare) (parent : Option (TypeName Bare)) (x : List Token) → IsParent parent → class_run (named l w) (extends_toks parent ++ (symbol OpenBrace ∷ x)) ≡ class_run (opened l w parent) x
  parent_read l w None x h = refl
  parent_read l w (Some t) x h =
      read_in (T.State Bare) (TypeName Bare) (State Bare S) (Class Bare) type_step T.whole class_step whole (in_parent l w) (parent_taken l w) (λ s u. refl)
      (type_toks t) (T.want false) (T.have t) (symbol OpenBrace) x (opened l w (Some t)) (named_read false t h) refl refl

  abbrev closed : Head Bare → Members Bare → S → Token → Option (State Bare S)
  closed h all s t = C.closed Bare S no_join fresh is_fresh step member_whole h all s tt (cue_of t)

  end_read : (h : Head Bare) (es : Members Bare) → class_step (in_members h es fresh) (symbol CloseBrace) ≡ Some (done (class_of no_join h tt es))
  end_read h es = rw (laws.fresh_brace h.word.text, laws.fresh_true) refl

  members_read : (ds es : Members Bare) (h : Head Bare) (x : List Token) → MembersShaped nested h.word.text ds
      → class_run (in_members h es fresh) (spell_members ds (symbol CloseBrace ∷ x)) ≡ class_run (done (class_of no_join h tt (joined_members es ds))) x
  members_read end es h x k = ap (then_run x) (end_read h es) ∙ ap (λ (rs : Members Bare). class_run (done (class_of no_join h tt rs)) x) (sym (joined_members-end es))
  members_read (more d ds) es h x k =
      let r = laws.reads h.word.text d k.0 in
      let y = spell_members ds (symbol CloseBrace ∷ x) in
      ap (class_run (in_members h es fresh)) (spell_member-is d y)
      ∙ settles S (Member Bare) (State Bare S) (Class Bare) (member_step h.word.text) member_whole class_step whole (in_members h es) (λ d. in_members h (with_member es d) fresh) (closed h es) (λ s u. refl) (laws.ended h.word.text)
      (member_toks d) fresh r.0 d y laws.fresh_none r.1 r.2
      ∙ members_read ds (with_member es d) h x k.1
      ∙ ap (λ (rs : Members Bare). class_run (done (class_of no_join h tt rs)) x) (joined-with_member es d ds)

  -- behind the word `class`
  pub class_rest_read : (ms : Modifiers) (w : Word Bare) (parent : Option (TypeName Bare)) (all : Members Bare) (x : List Token) → IsParent parent → MembersShaped nested w.text all
      → class_run (at_class (lead ms)) (word w.text ∷ (extends_toks parent ++ (symbol OpenBrace ∷ spell_members all (symbol CloseBrace ∷ x)))) ≡ class_run (done (class tt ms w parent all)) x
  class_rest_read ms w parent all x h k = parent_read (lead ms) w parent (spell_members all (symbol CloseBrace ∷ x)) h ∙ members_read all end (head_of (lead ms) w parent) x k

  class_complete : (c : Class Bare) (x : List Token) → ClassShaped nested c → class_run start (spell_class c x) ≡ class_run (done c) x
  class_complete (class m ms w parent all) x h =
      class_modifiers_read ms [] (keyword ClassWord ∷ word w.text ∷ (extends_toks parent ++ (symbol OpenBrace ∷ spell_members all (symbol CloseBrace ∷ x)))) ∙ class_rest_read ms w parent all x h.0 h.1

  pub class_reads : (c : Class Bare) → ClassShaped nested c → class_run start (class_toks c) ≡ Some (done c)
  class_reads c h = ap (class_run start) (sym (append-nil (class_toks c)) ∙ sym (spell_class-is c [])) ∙ class_complete c [] h

  -- ---- what has been read

  abbrev spell_head : Head Bare → List Token → List Token
  spell_head h y = spell_lead h.lead (keyword ClassWord ∷ word h.word.text ∷ (extends_toks h.parent ++ (symbol OpenBrace ∷ y)))

  -- b has what the machine for members has read
  abbrev spell_state : State Bare S → List Token → List Token → List Token
  spell_state (modified ms) b x = modifiers_toks ms ++ x
  spell_state (at_class l) b x = spell_lead l (keyword ClassWord ∷ x)
  spell_state (named l w) b x = spell_lead l (keyword ClassWord ∷ word w.text ∷ x)
  spell_state (in_parent l w s) b x = spell_lead l (keyword ClassWord ∷ word w.text ∷ keyword Extends ∷ Types.spell_state s x)
  spell_state (in_members h all s) b x = spell_head h (spell_members all (b ++ x))
  spell_state (done c) b x = spell_class c x

  abbrev Good : State Bare S → List Token → Type 0
  Good (modified ms) b = Unit {0}
  Good (at_class l) b = Unit {0}
  Good (named l w) b = Unit {0}
  Good (in_parent l w s) b = Types.Good false s
  Good (in_members h all s) b = IsParent h.parent × MembersShaped nested h.word.text all × (member_run h.word.text fresh b ≡ Some s)
  Good (done c) b = ClassShaped nested c

  record Sound (s : State Bare S) (b : List Token) (t : Token) (n : State Bare S) : Type 0 where
    inside : List Token
    good : Good n inside
    spelled : (x : List Token) → spell_state s b (t ∷ x) ≡ spell_state n inside x

  abbrev StepSound : State Bare S → List Token → Token → Option (State Bare S) → Type 0
  StepSound s b t o = IfSome o (Sound s b t)

  modified_sound : (ms : Modifiers) (b : List Token) (q : Cue) → StepSound (modified ms) b (cue_token q) (from_modified ms tt q)
  modified_sound ms b (a_modifier w) = record { inside = []; good = tt; spelled = λ x. sym (modifiers-one ms (record { mark = tt; word = w }) x) }
  modified_sound ms b a_class = record { inside = []; good = tt; spelled = λ x. refl }
  modified_sound ms b _ = tt

  at_class_sound : (l : Lead Bare) (b : List Token) (q : Cue) → StepSound (at_class l) b (cue_token q) (from_class l tt q)
  at_class_sound l b (a_word w) = record { inside = []; good = tt; spelled = λ x. refl }
  at_class_sound l b _ = tt

  named_sound : (l : Lead Bare) (w : Word Bare) (b : List Token) (q : Cue) → StepSound (named l w) b (cue_token q) (C.from_named Bare S no_join fresh is_fresh step member_whole l w q)
  named_sound l w b an_extends = record { inside = []; good = refl; spelled = λ x. refl }
  named_sound l w b an_open_brace = record { inside = []; good = (tt, tt, refl); spelled = λ x. refl }
  named_sound l w b _ = tt

  behind_parent_sound : (l : Lead Bare) (w : Word Bare) (s : T.State Bare) (b : List Token) (q : Cue) → Types.Good false s
      → StepSound (in_parent l w s) b (cue_token q) (option_and_then (C.behind_parent Bare S no_join fresh is_fresh step member_whole l w q) (T.whole s))
  behind_parent_sound l w (T.have t) b q g =
      open_brace_both q (opened l w (Some t)) (StepSound (in_parent l w (T.have t)) b) (record { inside = []; good = (g, tt, refl); spelled = λ x. refl }) (λ u. tt)
  behind_parent_sound l w (T.want c) b q g = tt
  behind_parent_sound l w (T.dotted o) b q g = tt

  parent_sound : (l : Lead Bare) (w : Word Bare) (s : T.State Bare) (b : List Token) (q : Cue) → Types.Good false s → StepSound (in_parent l w s) b (cue_token q) (C.from_parent Bare S no_join fresh is_fresh step member_whole l w s tt q)
  parent_sound l w s b q g = go (T.cue_step no_join s tt q) (Types.cue_sound false s q g)
    where
      go : (o : Option (T.State Bare)) → Types.StepSound false s (cue_token q) o
          → StepSound (in_parent l w s) b (cue_token q) (inner (in_parent l w) (option_and_then (C.behind_parent Bare S no_join fresh is_fresh step member_whole l w q) (T.whole s)) o)
      go None h = behind_parent_sound l w s b q g
      go (Some n) h = record { inside = []; good = h.good; spelled = λ x. ap (λ (y : List Token). spell_lead l (keyword ClassWord ∷ word w.text ∷ keyword Extends ∷ y)) (h.spelled x) }

  settled_sound : (h : Head Bare) (all : Members Bare) (s n : S) (b : List Token) (t : Token) → Good (in_members h all s) b → member_step h.word.text s t ≡ Some n
      → Sound (in_members h all s) b t (C.member_read Bare S no_join fresh is_fresh step member_whole h all n)
  settled_sound h all s n b t g e = go (member_whole n) refl
    where
      reached : member_run h.word.text fresh (b ++ (t ∷ [])) ≡ Some n
      reached = run_one S (Member Bare) (member_step h.word.text) member_whole fresh s n b t g.2 e

      go : (o : Option (Member Bare)) → member_whole n ≡ o → Sound (in_members h all s) b t (unwrap_or (option_map (C.behind_member Bare S no_join fresh is_fresh step member_whole h all) o) (in_members h all n))
      go None k = record { inside = b ++ (t ∷ []); good = (g.0, g.1, reached); spelled = λ x. ap (λ (y : List Token). spell_head h (spell_members all y)) (sym (append_assoc b (t ∷ []) x)) }
      go (Some d) k =
          let r = laws.sound h.word.text (b ++ (t ∷ [])) n d reached k in
          record {
            inside = [];
            good = (g.0, shaped-with_member nested h.word.text all d g.1 r.0, refl);
            spelled = λ x. ap (λ (y : List Token). spell_head h y)
                (ap (spell_members all) (sym (append_assoc b (t ∷ []) x) ∙ ap (λ (y : List Token). y ++ x) (sym r.1) ∙ sym (spell_member-is d x)) ∙ sym (members-with_member all d x));
          }

  members_sound : (h : Head Bare) (all : Members Bare) (s : S) (b : List Token) (q : Cue) → Good (in_members h all s) b
      → StepSound (in_members h all s) b (cue_token q) (C.from_members Bare S no_join fresh is_fresh step member_whole h all s tt (cue_token q) q)
  members_sound h all s b q g =
      inner_both (C.member_read Bare S no_join fresh is_fresh step member_whole h all) (C.closed Bare S no_join fresh is_fresh step member_whole h all s tt q) (member_step h.word.text s (cue_token q))
      (StepSound (in_members h all s) b (cue_token q))
      (λ n e. settled_sound h all s n b (cue_token q) g e)
      (λ _. cond_both (is_fresh s) (at_close_brace q (done (class_of no_join h tt all))) None (StepSound (in_members h all s) b (cue_token q)) closes (λ _. tt))
    where
      nothing : is_fresh s ≡ true → b ≡ []
      nothing k = laws.unread h.word.text b (g.2 ∙ ap (λ (r : S). Some r) (laws.fresh_is s k))

      closes : is_fresh s ≡ true → StepSound (in_members h all s) b (cue_token q) (at_close_brace q (done (class_of no_join h tt all)))
      closes k =
          close_brace_both q (done (class_of no_join h tt all)) (StepSound (in_members h all s) b)
          (record { inside = []; good = (g.0, g.1); spelled = λ x. ap (λ (ts : List Token). spell_head h (spell_members all (ts ++ (symbol CloseBrace ∷ x)))) (nothing k) })
          (λ u. tt)

  cue_sound : (s : State Bare S) (b : List Token) (q : Cue) → Good s b → StepSound s b (cue_token q) (C.cue_step Bare S no_join fresh is_fresh step member_whole s tt (cue_token q) q)
  cue_sound (modified ms) b q g = modified_sound ms b q
  cue_sound (at_class l) b q g = at_class_sound l b q
  cue_sound (named l w) b q g = named_sound l w b q
  cue_sound (in_parent l w s) b q g = parent_sound l w s b q g
  cue_sound (in_members h all s) b q g = members_sound h all s b q g
  cue_sound (done c) b q g = tt

  step_sound : (s : State Bare S) (b : List Token) (t : Token) → Good s b → StepSound s b t (class_step s t)
  step_sound s b t g = subst (λ (u : Token). StepSound s b u (C.cue_step Bare S no_join fresh is_fresh step member_whole s tt u (cue_of t))) (cue_back t) (cue_sound s b (cue_of t) g)

  record RunSound (s : State Bare S) (b : List Token) (ts : List Token) (n : State Bare S) : Type 0 where
    inside : List Token
    good : Good n inside
    spelled : (x : List Token) → spell_state s b (ts ++ x) ≡ spell_state n inside x

  run_sound : (s : State Bare S) (b ts : List Token) → Good s b → IfSome (class_run s ts) (RunSound s b ts)
  run_sound s b [] g = record { inside = b; good = g; spelled = λ x. refl }
  run_sound s b (t ∷ ts) g = go (λ n c h. run_sound n c ts h) (class_step s t) (step_sound s b t g)
    where
      then : (n : State Bare S) (h : Sound s b t n) (o : Option (State Bare S)) → IfSome o (RunSound n h.inside ts) → IfSome o (RunSound s b (t ∷ ts))
      then n h None k = tt
      then n h (Some m) k = record { inside = k.inside; good = k.good; spelled = λ x. h.spelled (ts ++ x) ∙ k.spelled x }

      go : ((n : State Bare S) (c : List Token) → Good n c → IfSome (class_run n ts) (RunSound n c ts)) → (o : Option (State Bare S)) → StepSound s b t o
          → IfSome (option_and_then (λ (n : State Bare S). class_run n ts) o) (RunSound s b (t ∷ ts))
      go f None h = tt
      go f (Some n) h = then n h (class_run n ts) (f n h.inside h.good)

  run_is : (ts : List Token) (n : State Bare S) → class_run start ts ≡ Some n → RunSound start [] ts n
  run_is ts n h = at_some (class_run start ts) n (RunSound start [] ts) h (run_sound start [] ts tt)

  whole_is : (n : State Bare S) (c : Class Bare) → whole n ≡ Some c → n ≡ done c
  whole_is (done e) c h = ap done (same_Some e c h)
  whole_is _ c h = absurd cc

  pub class_sound : (ts : List Token) (n : State Bare S) (c : Class Bare) → class_run start ts ≡ Some n → whole n ≡ Some c → ClassShaped nested c × (class_toks c ≡ ts)
  class_sound ts n c h k =
      let r = run_is ts (done c) (h ∙ ap (λ (m : State Bare S). Some m) (whole_is n c k)) in
      (r.good, sym (append-nil (class_toks c)) ∙ sym (spell_class-is c []) ∙ sym (r.spelled []) ∙ append-nil ts)

  -- nothing stands behind a whole class
  pub class_ended : (n : State Bare S) (c : Class Bare) (t : Token) → whole n ≡ Some c → class_step n t ≡ None
  class_ended n c t h = ap (λ (m : State Bare S). class_step m t) (whole_is n c h)

  -- where nothing is begun, nothing was read
  pub class_unread : (ts : List Token) → class_run start ts ≡ Some start → ts ≡ []
  class_unread ts h = let r = run_is ts start h in sym (append-nil ts) ∙ r.spelled []

  -- ---- what has been begun can be ended

  record Ends (xs : List Token → List Token) : Type 0 where
    rest : List Token
    tree : Class Bare
    shaped : ClassShaped nested tree
    spelled : xs rest ≡ spell_class tree []

  abbrev a_token : Token
  a_token = word (97 ∷ [])

  head_ends : (l : Lead Bare) (w : Word Bare) (parent : Option (TypeName Bare)) (xs : List Token → List Token) (front : List Token) → IsParent parent
      → ((y : List Token) → xs (front ++ y) ≡ spell_lead l (keyword ClassWord ∷ word w.text ∷ (extends_toks parent ++ y))) → Ends xs
  head_ends l w parent xs front g e =
      record { rest = front ++ (symbol OpenBrace ∷ symbol CloseBrace ∷ []); tree = class tt l.modifiers w parent end; shaped = (g, tt); spelled = e (symbol OpenBrace ∷ symbol CloseBrace ∷ []) }

  state_ends : (s : State Bare S) (b : List Token) → Good s b → Ends (spell_state s b)
  state_ends (modified ms) b g = head_ends (lead ms) a_name None (spell_state (modified ms) b) (keyword ClassWord ∷ a_token ∷ []) tt (λ y. refl)
  state_ends (at_class l) b g = head_ends l a_name None (spell_state (at_class l) b) (a_token ∷ []) tt (λ y. refl)
  state_ends (named l w) b g = head_ends l w None (spell_state (named l w) b) [] tt (λ y. refl)
  state_ends (in_parent l w s) b g =
      let c = Types.ends false s g in
      head_ends l w (Some c.tree) (spell_state (in_parent l w s) b) c.rest c.admitted (λ y. ap (λ (z : List Token). spell_lead l (keyword ClassWord ∷ word w.text ∷ keyword Extends ∷ z)) (c.spelled y))
  state_ends (in_members h all s) b g =
      let c = laws.closes h.word.text b s g.2 in
      record {
        rest = c.1.rest ++ (symbol CloseBrace ∷ []);
        tree = class_of no_join h tt (with_member all c.0);
        shaped = (g.0, shaped-with_member nested h.word.text all c.0 g.1 c.1.meant);
        spelled = ap (λ (y : List Token). spell_head h y)
            (ap (spell_members all) (sym (append_assoc b c.1.rest (symbol CloseBrace ∷ [])) ∙ ap (λ (y : List Token). y ++ (symbol CloseBrace ∷ [])) (sym c.1.spells) ∙ sym (spell_member-is c.0 (symbol CloseBrace ∷ [])))
            ∙ sym (members-with_member all c.0 (symbol CloseBrace ∷ [])));
      }
  state_ends (done c) b g = record { rest = []; tree = c; shaped = g; spelled = refl }

  pub class_closes : (ts : List Token) (n : State Bare S) → class_run start ts ≡ Some n → (c : Class Bare) × Begins (Class Bare) class_toks (ClassShaped nested) ts c
  class_closes ts n h =
      let r = run_is ts n h in
      let k = state_ends n r.inside r.good in
      (k.tree, record { meant = k.shaped; rest = k.rest; spells = sym (append-nil (class_toks k.tree)) ∙ sym (spell_class-is k.tree []) ∙ sym k.spelled ∙ sym (r.spelled k.rest) })
