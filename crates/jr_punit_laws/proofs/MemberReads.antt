-- One member, of a class of either kind: what the machine reads is the member, and what it has begun can be ended.
use Rattle.std.proofs.Common.{◌≡◌, ℕ, Bool, true, false, List, [], ◌∷◌, ◌++◌, Option, Some, None, refl, sym, ap, subst, ◌∙◌, append_assoc}
use Rattle.std.specs.Prelude.{option_and_then, option_map, IfSome}
use Rattle.std.proofs.lemmas.Bool.{cond_both}
use Rattle.std.proofs.lemmas.List.{append-nil}
use Rattle.std.proofs.lemmas.Option.{same_Some}
use Rattle.jr_lex.specs.declared.items.Keyword.TheVariants.{Class as ClassWord}
use Rattle.jr_lex.specs.declared.items.Symbol.TheVariants.{OpenBrace, CloseBrace}
use Rattle.jr_ast.specs.Tree.{Word, TypeName}
use Rattle.jr_ast.specs.MemberTree.{Class, class, Member, field, method, constructor, inner as inner_member, Members}
use Rattle.jr_grammar.specs.Tokens.{Token, word, keyword, symbol}
use Rattle.jr_grammar.specs.Readings.{Begins}
use Rattle.jr_grammar.specs.MemberSpelling.{modifiers_toks, extends_toks, class_toks, member_toks}
use Rattle.jr_grammar.specs.MemberShape.{IsParent, ClassShaped, MemberShaped, MembersShaped}
use Rattle.jr_grammar.specs.Bare.{Bare}
use Rattle.jr_pexpr.specs.BareMachine.{no_join}
use Rattle.jr_pexpr.proofs.Found.{at_some}
use Rattle.jr_pstmt.specs.Cues.{Cue, a_class, a_word, cue_token, cue_of}
use Rattle.jr_pstmt.specs.OwnMachine as Own
use Rattle.jr_punit_laws.specs.ClassMachine as C
use Rattle.jr_punit_laws.specs.MemberMachine.{State, own, in_class, start, class_begun, begin_class, class_member, step, whole, is_start}
use Rattle.jr_punit_laws.specs.Machines.{member_step, member_whole, member_run}
use Rattle.jr_pstmt.proofs.CueTokens.{cue_back}
use Rattle.jr_pstmt.proofs.Inside.{inner_both, run_one, driven, map_inner}
use Rattle.jr_punit_laws.proofs.MemberSpell.{spell_members, spell_class-is}
use Rattle.jr_punit_laws.proofs.OwnComplete.{own_step, own_run, Modifiers, lead, modifiers_read, own_reads}
use Rattle.jr_punit_laws.proofs.OwnEnds.{own_run_is, own_whole_is, own_sound, own_ended, own_unread, own_closes}
use Rattle.jr_punit_laws.proofs.Classes as Classes
use Rattle.jr_punit_laws.proofs.Classes.{MemberLaws}

-- ---- member classes

own_start_is : (s : Own.State Bare) → Own.is_start s ≡ true → s ≡ Own.start
own_start_is (Own.modified []) h = refl
own_start_is (Own.modified (m ∷ ms)) h = absurd cc
own_start_is _ h = absurd cc

own_laws : MemberLaws true (Own.State Bare) Own.start Own.is_start (Own.step no_join) Own.whole
own_laws = record {
  reads = λ name d h. (Own.done d, own_reads name d h, refl);
  sound = own_sound;
  closes = own_closes;
  ended = own_ended;
  unread = own_unread;
  fresh_is = own_start_is;
  fresh_true = refl;
  fresh_brace = λ name. refl;
  fresh_none = refl;
}

abbrev InnerState : Type 0
InnerState = C.State Bare (Own.State Bare)

abbrev inner_step : InnerState → Token → Option InnerState
inner_step s t = Classes.class_step true (Own.State Bare) Own.start Own.is_start (Own.step no_join) Own.whole own_laws s t

abbrev inner_run : InnerState → List Token → Option InnerState
inner_run s ts = Classes.class_run true (Own.State Bare) Own.start Own.is_start (Own.step no_join) Own.whole own_laws s ts

inner_sound : (ts : List Token) (n : InnerState) (c : Class Bare) → inner_run C.start ts ≡ Some n → C.whole n ≡ Some c → ClassShaped true c × (class_toks c ≡ ts)
inner_sound = Classes.class_sound true (Own.State Bare) Own.start Own.is_start (Own.step no_join) Own.whole own_laws

inner_closes : (ts : List Token) (n : InnerState) → inner_run C.start ts ≡ Some n → (c : Class Bare) × Begins (Class Bare) class_toks (ClassShaped true) ts c
inner_closes = Classes.class_closes true (Own.State Bare) Own.start Own.is_start (Own.step no_join) Own.whole own_laws

inner_ended : (n : InnerState) (c : Class Bare) (t : Token) → C.whole n ≡ Some c → inner_step n t ≡ None
inner_ended = Classes.class_ended true (Own.State Bare) Own.start Own.is_start (Own.step no_join) Own.whole own_laws

inner_rest : (ms : Modifiers) (w : Word Bare) (parent : Option (TypeName Bare)) (all : Members Bare) (x : List Token) → IsParent parent → MembersShaped true w.text all
    → inner_run (C.at_class (lead ms)) (word w.text ∷ (extends_toks parent ++ (symbol OpenBrace ∷ spell_members all (symbol CloseBrace ∷ x)))) ≡ inner_run (C.done (class tt ms w parent all)) x
inner_rest = Classes.class_rest_read true (Own.State Bare) Own.start Own.is_start (Own.step no_join) Own.whole own_laws

inner_modifiers : (ms ds : Modifiers) (x : List Token) → inner_run (C.modified ds) (modifiers_toks ms ++ x) ≡ inner_run (C.modified (ds ++ ms)) x
inner_modifiers = Classes.class_modifiers_read true (Own.State Bare) Own.start Own.is_start (Own.step no_join) Own.whole own_laws

-- ---- every member is read

record Read (nested : Bool) (name : List ℕ) (d : Member Bare) : Type 0 where
  last : State Bare
  runs : member_run nested name start (member_toks d) ≡ Some last
  is_whole : member_whole last ≡ Some d

own_read : (nested : Bool) (name : List ℕ) (d : Member Bare) → MemberShaped true name d → Read nested name d
own_read nested name d h = record {
  last = own (Own.done d);
  runs = ap (member_run nested name start) (sym (append-nil (member_toks d)))
      ∙ driven (Own.State Bare) (Member Bare) (State Bare) (Member Bare) (own_step name) Own.whole (member_step nested name) member_whole own (λ s t. begin_class nested s tt (cue_of t)) (λ s t. refl)
      (member_toks d) Own.start (Own.done d) [] (own_reads name d h);
  is_whole = refl;
}

modifiers_run : (name : List ℕ) (ms : Modifiers) → own_run name Own.start (modifiers_toks ms) ≡ Some (Own.modified ms)
modifiers_run name ms = ap (own_run name Own.start) (sym (append-nil (modifiers_toks ms))) ∙ modifiers_read name ms [] []

class_read : (name : List ℕ) (m : Bare) (c : Class Bare) → ClassShaped true c → Read false name (inner_member m c)
class_read name m (class k ms w parent all) h =
    let y = word w.text ∷ (extends_toks parent ++ (symbol OpenBrace ∷ spell_members all (symbol CloseBrace ∷ []))) in
    let c : Class Bare = class tt ms w parent all in
    record {
      last = in_class (C.done c);
      runs = ap (member_run false name start) (sym (append-nil (class_toks c)) ∙ sym (spell_class-is c []))
          ∙ driven (Own.State Bare) (Member Bare) (State Bare) (Member Bare) (own_step name) Own.whole (member_step false name) member_whole own (λ s t. begin_class false s tt (cue_of t)) (λ s t. refl)
          (modifiers_toks ms) Own.start (Own.modified ms) (keyword ClassWord ∷ y) (modifiers_run name ms)
          ∙ ap (member_run false name (in_class (C.at_class (lead ms)))) (sym (append-nil y))
          ∙ driven InnerState (Class Bare) (State Bare) (Member Bare) inner_step C.whole (member_step false name) member_whole in_class (λ s t. None) (λ s t. map_inner in_class (inner_step s t))
          y (C.at_class (lead ms)) (C.done c) [] (inner_rest ms w parent all [] h.0 h.1);
      is_whole = refl;
    }

member_read : (nested : Bool) (name : List ℕ) (d : Member Bare) → MemberShaped nested name d → Read nested name d
member_read nested name (field m ms t w init) h = own_read nested name (field m ms t w init) h
member_read nested name (method m ms t w ps body) h = own_read nested name (method m ms t w ps body) h
member_read nested name (constructor m ms w ps args body) h = own_read nested name (constructor m ms w ps args body) h
member_read true name (inner_member m c) h = absurd h.0
member_read false name (inner_member m c) h = class_read name m c h.1

-- ---- what has been read

abbrev Has : Bool → List ℕ → State Bare → List Token → Type 0
Has nested name (own s) ts = own_run name Own.start ts ≡ Some s
Has nested name (in_class s) ts = (nested ≡ false) × (inner_run C.start ts ≡ Some s)

abbrev StepHas : Bool → List ℕ → List Token → Token → Option (State Bare) → Type 0
StepHas nested name ts t o = IfSome o (λ (n : State Bare). Has nested name n (ts ++ (t ∷ [])))

modifiers_are : (name : List ℕ) (ts : List Token) (ms : Modifiers) → own_run name Own.start ts ≡ Some (Own.modified ms) → ts ≡ modifiers_toks ms
modifiers_are name ts ms h = let r = own_run_is name ts (Own.modified ms) h in sym (append-nil ts) ∙ r.spelled [] ∙ append-nil (modifiers_toks ms)

begun_has : (nested : Bool) (name : List ℕ) (s : Own.State Bare) (ts : List Token) → nested ≡ false → own_run name Own.start ts ≡ Some s → StepHas nested name ts (keyword ClassWord) (class_begun s tt)
begun_has nested name (Own.modified ms) ts f h = (f, ap (λ (us : List Token). inner_run C.start (us ++ (keyword ClassWord ∷ []))) (modifiers_are name ts ms h) ∙ inner_modifiers ms [] (keyword ClassWord ∷ []))
begun_has nested name _ ts f h = tt

class_has : (nested : Bool) (name : List ℕ) (s : Own.State Bare) (ts : List Token) (q : Cue) → own_run name Own.start ts ≡ Some s → StepHas nested name ts (cue_token q) (begin_class nested s tt q)
class_has nested name s ts a_class h = cond_both nested None (class_begun s tt) (StepHas nested name ts (keyword ClassWord)) (λ _. tt) (λ f. begun_has nested name s ts f h)
class_has nested name s ts _ h = tt

own_has : (nested : Bool) (name : List ℕ) (s : Own.State Bare) (ts : List Token) (t : Token) → own_run name Own.start ts ≡ Some s → StepHas nested name ts t (member_step nested name (own s) t)
own_has nested name s ts t h =
    inner_both own (begin_class nested s tt (cue_of t)) (own_step name s t) (StepHas nested name ts t)
    (λ n e. run_one (Own.State Bare) (Member Bare) (own_step name) Own.whole Own.start s n ts t h e)
    (λ _. subst (λ (u : Token). StepHas nested name ts u (begin_class nested s tt (cue_of t))) (cue_back t) (class_has nested name s ts (cue_of t) h))

step_has : (nested : Bool) (name : List ℕ) (s : State Bare) (ts : List Token) (t : Token) → Has nested name s ts → StepHas nested name ts t (member_step nested name s t)
step_has nested name (own s) ts t h = own_has nested name s ts t h
step_has nested name (in_class s) ts t h = go (inner_step s t) refl
  where
    go : (o : Option InnerState) → inner_step s t ≡ o → StepHas nested name ts t (option_map in_class o)
    go None e = tt
    go (Some n) e = (h.0, run_one InnerState (Class Bare) inner_step C.whole C.start s n ts t h.1 e)

run_has : (nested : Bool) (name : List ℕ) (s : State Bare) (us ts : List Token) → Has nested name s us → IfSome (member_run nested name s ts) (λ (n : State Bare). Has nested name n (us ++ ts))
run_has nested name s us [] h = subst (Has nested name s) (sym (append-nil us)) h
run_has nested name s us (t ∷ ts) h = go (λ n k. run_has nested name n (us ++ (t ∷ [])) ts k) (member_step nested name s t) (step_has nested name s us t h)
  where
    then : (o : Option (State Bare)) → IfSome o (λ (n : State Bare). Has nested name n ((us ++ (t ∷ [])) ++ ts)) → IfSome o (λ (n : State Bare). Has nested name n (us ++ (t ∷ ts)))
    then None k = tt
    then (Some n) k = subst (Has nested name n) (append_assoc us (t ∷ []) ts) k

    go : ((n : State Bare) → Has nested name n (us ++ (t ∷ [])) → IfSome (member_run nested name n ts) (λ (m : State Bare). Has nested name m ((us ++ (t ∷ [])) ++ ts))) → (o : Option (State Bare)) → StepHas nested name us t o
        → IfSome (option_and_then (λ (n : State Bare). member_run nested name n ts) o) (λ (n : State Bare). Has nested name n (us ++ (t ∷ ts)))
    go f None k = tt
    go f (Some n) k = then (member_run nested name n ts) (f n k)

has : (nested : Bool) (name : List ℕ) (ts : List Token) (n : State Bare) → member_run nested name start ts ≡ Some n → Has nested name n ts
has nested name ts n h = at_some (member_run nested name start ts) n (λ (n : State Bare). Has nested name n ts) h (run_has nested name start [] ts refl)

-- a member that is no class may stand in a class of either kind
any_shaped : (nested : Bool) (name : List ℕ) (d : Member Bare) → MemberShaped true name d → MemberShaped nested name d
any_shaped nested name (field m ms t w init) h = h
any_shaped nested name (method m ms t w ps body) h = h
any_shaped nested name (constructor m ms w ps args body) h = h
any_shaped nested name (inner_member m c) h = absurd h.0

class_shaped : (nested : Bool) (name : List ℕ) (c : Class Bare) → nested ≡ false → ClassShaped true c → MemberShaped nested name (class_member c)
class_shaped true name c f h = absurd cc
class_shaped false name c f h = (tt, h)

whole_sound : (nested : Bool) (name : List ℕ) (ts : List Token) (n : State Bare) (d : Member Bare) → Has nested name n ts → member_whole n ≡ Some d → MemberShaped nested name d × (member_toks d ≡ ts)
whole_sound nested name ts (own s) d h k = let r = own_sound name ts s d h k in (any_shaped nested name d r.0, r.1)
whole_sound nested name ts (in_class s) d h k = go (C.whole s) refl k
  where
    go : (o : Option (Class Bare)) → C.whole s ≡ o → option_map class_member o ≡ Some d → MemberShaped nested name d × (member_toks d ≡ ts)
    go None e q = absurd cc
    go (Some c) e q =
        let r = inner_sound ts s c h.1 e in
        subst (λ (d : Member Bare). MemberShaped nested name d × (member_toks d ≡ ts)) (same_Some (class_member c) d q) (class_shaped nested name c h.0 r.0, r.1)

pub member_sound : (nested : Bool) (name : List ℕ) (ts : List Token) (n : State Bare) (d : Member Bare) → member_run nested name start ts ≡ Some n → member_whole n ≡ Some d → MemberShaped nested name d × (member_toks d ≡ ts)
member_sound nested name ts n d h k = whole_sound nested name ts n d (has nested name ts n h) k

-- ---- what has been begun can be ended

has_closes : (nested : Bool) (name : List ℕ) (ts : List Token) (n : State Bare) → Has nested name n ts → (d : Member Bare) × Begins (Member Bare) member_toks (MemberShaped nested name) ts d
has_closes nested name ts (own s) h = let c = own_closes name ts s h in (c.0, record { meant = any_shaped nested name c.0 c.1.meant; rest = c.1.rest; spells = c.1.spells })
has_closes nested name ts (in_class s) h = let c = inner_closes ts s h.1 in (class_member c.0, record { meant = class_shaped nested name c.0 h.0 c.1.meant; rest = c.1.rest; spells = c.1.spells })

pub member_closes : (nested : Bool) (name : List ℕ) (ts : List Token) (n : State Bare) → member_run nested name start ts ≡ Some n → (d : Member Bare) × Begins (Member Bare) member_toks (MemberShaped nested name) ts d
member_closes nested name ts n h = has_closes nested name ts n (has nested name ts n h)

pub member_answers : (nested : Bool) (name : List ℕ) (d : Member Bare) → MemberShaped nested name d → option_and_then member_whole (member_run nested name start (member_toks d)) ≡ Some d
member_answers nested name d h = let r = member_read nested name d h in ap (option_and_then member_whole) r.runs ∙ r.is_whole

-- ---- what classes need of members

no_class : (nested : Bool) (d : Member Bare) (q : Cue) → begin_class nested (Own.done d) tt q ≡ None
no_class true d a_class = refl
no_class false d a_class = refl
no_class nested d (a_word w) = refl
no_class nested d _ = refl

whole_ended : (nested : Bool) (name : List ℕ) (n : State Bare) (d : Member Bare) (t : Token) → member_whole n ≡ Some d → member_step nested name n t ≡ None
whole_ended nested name (own s) d t h = ap (λ (r : Own.State Bare). member_step nested name (own r) t) (own_whole_is s d h) ∙ no_class nested d (cue_of t)
whole_ended nested name (in_class s) d t h = go (C.whole s) refl h
  where
    go : (o : Option (Class Bare)) → C.whole s ≡ o → option_map class_member o ≡ Some d → option_map in_class (inner_step s t) ≡ None
    go None e q = absurd cc
    go (Some c) e q = ap (option_map in_class) (inner_ended s c t e)

start_is : (s : State Bare) → is_start s ≡ true → s ≡ start
start_is (own s) h = ap own (own_start_is s h)
start_is (in_class s) h = absurd cc

pub member_laws : MemberLaws false (State Bare) start is_start (step no_join false) whole
member_laws = record {
  reads = λ name d h. let r = member_read false name d h in (r.last, r.runs, r.is_whole);
  sound = member_sound false;
  closes = member_closes false;
  ended = whole_ended false;
  unread = λ name ts h. own_unread name ts (has false name ts start h);
  fresh_is = start_is;
  fresh_true = refl;
  fresh_brace = λ name. refl;
  fresh_none = refl;
}
