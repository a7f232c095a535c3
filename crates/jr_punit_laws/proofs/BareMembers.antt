-- Members, classes and units: the machines with marks step as those without.
use Rattle.std.proofs.Common.{◌≡◌, ℕ, Bool, true, false, cond, List, [], ◌∷◌, Option, Some, None, refl, sym, ap, ◌∙◌}
use Rattle.std.specs.Prelude.{map, option_map, option_and_then}
use Rattle.std.specs.Str.{bytes_eq}
use Rattle.jr_text.specs.declared.spans.Span.{Span}
use Rattle.jr_ast.specs.Tree.{Word, TypeName, int, boolean, named, Exp}
use Rattle.jr_ast.specs.StatementTree as S
use Rattle.jr_ast.specs.MemberTree.{Modifier, Param, Class, class, Member, field, Members, end, more}
use Rattle.jr_ast.specs.Remarked.{map_modifier, map_word, map_class, map_exp, map_stmts, map_member, map_members}
use Rattle.jr_grammar.specs.Tokens.{Token}
use Rattle.jr_grammar.specs.Bare.{Bare, no_mark, bare_word, bare_type, bare, bare_args, bare_stmts, bare_class, bare_member, bare_unit}
use Rattle.jr_pexpr.specs.Machine as E
use Rattle.jr_pexpr.specs.Marked.{join}
use Rattle.jr_pexpr.specs.BareMachine.{no_join, bare_state, bare_whole}
use Rattle.jr_pstmt.specs.Cues.{Cue, a_word, a_modifier, a_void, a_class, a_super, an_open, a_semicolon, an_equals, an_extends, an_open_brace, a_package, a_dot, at_open_brace, at_close_brace, cue_of}
use Rattle.jr_pstmt.specs.Inside.{inner}
use Rattle.jr_pstmt.specs.TypeMachine as T
use Rattle.jr_pstmt.specs.ArgumentMachine as A
use Rattle.jr_pstmt.specs.ParameterMachine as P
use Rattle.jr_pstmt.specs.StatementMachine as M
use Rattle.jr_pstmt.specs.OwnMachine as Own
use Rattle.jr_pstmt.specs.OwnMachine.{Lead, lead_of}
use Rattle.jr_punit_laws.specs.ClassMachine as C
use Rattle.jr_punit_laws.specs.MemberMachine as Member
use Rattle.jr_punit_laws.specs.UnitMachine as Unit
use Rattle.jr_punit_laws.proofs.Expressions.{exp_step-bare, exp_whole-bare}
use Rattle.jr_punit_laws.proofs.MapSteps.{map-one, map-inner, map-and_then, map-map, map-settled, map-semicolon, map-close, map-open_brace, map-close_brace}
use Rattle.jr_punit_laws.proofs.BareParts.{bare_type_state, type_begun-bare, type_step-bare, type_whole-bare, bare_params, bare_params_state, params_step-bare, params_whole-bare, bare_args_state, args_step-bare, args_whole-bare}
use Rattle.jr_punit_laws.proofs.BareStatements.{bare_list_state, list_step-bare, list_whole-bare}

-- ---- members that are no classes

abbrev pub bare_modifiers : List (Modifier Span) → List (Modifier Bare)
bare_modifiers ms = map (map_modifier no_mark) ms

abbrev pub bare_lead : Lead Span → Lead Bare
bare_lead l = record { start = tt; modifiers = bare_modifiers l.modifiers }

abbrev bare_head : Own.Head Span → Own.Head Bare
bare_head (Own.method_head l result w) = Own.method_head (bare_lead l) (option_map bare_type result) (bare_word w)
bare_head (Own.constructor_head l w) = Own.constructor_head (bare_lead l) (bare_word w)

abbrev bare_constructor : Own.Constructor Span → Own.Constructor Bare
bare_constructor k = record { lead = bare_lead k.lead; word = bare_word k.word; params = bare_params k.params }

abbrev bare_body : Own.Body Span → Own.Body Bare
bare_body (Own.method_body l result w ps) = Own.method_body (bare_lead l) (option_map bare_type result) (bare_word w) (bare_params ps)
bare_body (Own.constructor_body k args) = Own.constructor_body (bare_constructor k) (option_map bare_args args)

abbrev pub bare_own : Own.State Span → Own.State Bare
bare_own (Own.modified ms) = Own.modified (bare_modifiers ms)
bare_own (Own.in_type l s) = Own.in_type (bare_lead l) (bare_type_state s)
bare_own (Own.voided l) = Own.voided (bare_lead l)
bare_own (Own.worded l result w) = Own.worded (bare_lead l) (option_map bare_type result) (bare_word w)
bare_own (Own.in_value l t w s) = Own.in_value (bare_lead l) (bare_type t) (bare_word w) (bare_state s)
bare_own (Own.in_params h s) = Own.in_params (bare_head h) (bare_params_state s)
bare_own (Own.headed h ps) = Own.headed (bare_head h) (bare_params ps)
bare_own (Own.in_constructor k) = Own.in_constructor (bare_constructor k)
bare_own (Own.at_super k m) = Own.at_super (bare_constructor k) tt
bare_own (Own.in_super k s) = Own.in_super (bare_constructor k) (bare_args_state s)
bare_own (Own.behind_super k es) = Own.behind_super (bare_constructor k) (bare_args es)
bare_own (Own.in_body b s) = Own.in_body (bare_body b) (bare_list_state s)
bare_own (Own.done d) = Own.done (bare_member d)

abbrev some : Option (Own.State Span) → Option (Own.State Bare)
some o = option_map bare_own o

own_begun-bare : (ms : List (Modifier Span)) (at : Span) (q : Cue) → some (option_map (Own.in_type (lead_of ms at)) (T.from_want true at q)) ≡ option_map (Own.in_type (bare_lead (lead_of ms at))) (T.from_want true tt q)
own_begun-bare ms at q =
    let w = Own.in_type (bare_lead (lead_of ms at)) in map-map bare_own bare_type_state (Own.in_type (lead_of ms at)) w (T.from_want true at q) (λ s. refl) ∙ ap (option_map w) (type_begun-bare true at q)

own_modified-bare : (ms : List (Modifier Span)) (at : Span) (q : Cue) → some (Own.from_modified ms at q) ≡ Own.from_modified (bare_modifiers ms) tt q
own_modified-bare ms at (a_modifier w) = ap (λ (r : List (Modifier Bare)). Some (Own.modified r)) (map-one (map_modifier no_mark) ms (Own.modifier at w))
own_modified-bare ms at a_void = refl
own_modified-bare ms at q = own_begun-bare ms at q

own_name-bare : (name : List ℕ) (t : TypeName Span) → option_map bare_word (Own.own_name name t) ≡ Own.own_name name (bare_type t)
own_name-bare name (int m) = refl
own_name-bare name (boolean m) = refl
own_name-bare name (named m None w) = go (bytes_eq w.text name)
  where
    go : (b : Bool) → option_map bare_word (cond b (Some w) None) ≡ cond b (Some (bare_word w)) None
    go true = refl
    go false = refl
own_name-bare name (named m (Some o) w) = refl

behind_type-bare : (name : List ℕ) (l : Lead Span) (at : Span) (q : Cue) (t : TypeName Span) → some (Own.behind_type name l at q t) ≡ Own.behind_type name (bare_lead l) tt q (bare_type t)
behind_type-bare name l at (a_word w) t = refl
behind_type-bare name l at an_open t =
    map-map bare_own bare_word (Own.begin_constructor l) (Own.begin_constructor (bare_lead l)) (Own.own_name name t) (λ w. refl) ∙ ap (option_map (Own.begin_constructor (bare_lead l))) (own_name-bare name t)
behind_type-bare name l at _ t = refl

own_type-bare : (name : List ℕ) (l : Lead Span) (s : T.State Span) (at : Span) (q : Cue) → some (Own.from_type join name l s at q) ≡ Own.from_type no_join name (bare_lead l) (bare_type_state s) tt q
own_type-bare name l s at q =
    let g = Own.behind_type name (bare_lead l) tt q in
    let k = option_and_then g (T.whole (bare_type_state s)) in
    map-inner bare_own bare_type_state (Own.in_type l) (Own.in_type (bare_lead l)) (option_and_then (Own.behind_type name l at q) (T.whole s)) k (T.cue_step join s at q) (λ r. refl)
    (map-and_then bare_own bare_type (Own.behind_type name l at q) g (T.whole s) (behind_type-bare name l at q) ∙ ap (option_and_then g) (type_whole-bare s))
    ∙ ap (inner (Own.in_type (bare_lead l)) k) (type_step-bare s at q)

own_voided-bare : (l : Lead Span) (at : Span) (q : Cue) → some (Own.from_voided l at q) ≡ Own.from_voided (bare_lead l) tt q
own_voided-bare l at (a_word w) = refl
own_voided-bare l at _ = refl

own_worded-bare : (l : Lead Span) (result : Option (TypeName Span)) (w : Word Span) (at : Span) (q : Cue) → some (Own.from_worded join l result w at q) ≡ Own.from_worded no_join (bare_lead l) (option_map bare_type result) (bare_word w) tt q
unfolding map_member
own_worded-bare l (Some t) w at a_semicolon = refl
own_worded-bare l None w at a_semicolon = refl
own_worded-bare l (Some t) w at an_equals = refl
own_worded-bare l None w at an_equals = refl
own_worded-bare l result w at an_open = refl
own_worded-bare l result w at _ = refl

field_with-bare : (l : Lead Span) (t : TypeName Span) (w : Word Span) (at : Span) (q : Cue) (e : Exp Span) → some (Own.field_with join l t w at q e) ≡ Own.field_with no_join (bare_lead l) (bare_type t) (bare_word w) tt q (bare e)
unfolding map_member
field_with-bare l t w at q e = map-semicolon bare_own q (Own.done (field (join l.start at) l.modifiers t w (Some e)))

own_value-bare : (l : Lead Span) (ty : TypeName Span) (w : Word Span) (s : E.State Span) (at : Span) (t : Token) (q : Cue)
    → some (Own.from_value join l ty w s at t q) ≡ Own.from_value no_join (bare_lead l) (bare_type ty) (bare_word w) (bare_state s) tt t q
own_value-bare l ty w s at t q =
    let v = Own.in_value (bare_lead l) (bare_type ty) (bare_word w) in
    let g = Own.field_with no_join (bare_lead l) (bare_type ty) (bare_word w) tt q in
    let k = option_and_then g (bare_whole (bare_state s)) in
    map-inner bare_own bare_state (Own.in_value l ty w) v (option_and_then (Own.field_with join l ty w at q) (E.whole join s)) k (E.step join s at t) (λ r. refl)
    (map-and_then bare_own bare (Own.field_with join l ty w at q) g (E.whole join s) (field_with-bare l ty w at q) ∙ ap (option_and_then g) (exp_whole-bare s))
    ∙ ap (inner v k) (exp_step-bare s at t)

own_params-bare : (h : Own.Head Span) (s : P.State Span) (at : Span) (q : Cue) → some (Own.from_params join h s at q) ≡ Own.from_params no_join (bare_head h) (bare_params_state s) tt q
own_params-bare h s at q =
    let g = Own.behind_params (bare_head h) q in
    let k = option_and_then g (P.whole (bare_params_state s)) in
    map-inner bare_own bare_params_state (Own.in_params h) (Own.in_params (bare_head h)) (option_and_then (Own.behind_params h q) (P.whole s)) k (P.cue_step join s at q) (λ r. refl)
    (map-and_then bare_own bare_params (Own.behind_params h q) g (P.whole s) (λ ps. map-close bare_own q (Own.headed h ps)) ∙ ap (option_and_then g) (params_whole-bare s))
    ∙ ap (inner (Own.in_params (bare_head h)) k) (params_step-bare s at q)

body_of-bare : (h : Own.Head Span) (ps : List (Param Span)) → bare_own (Own.body_of h ps) ≡ Own.body_of (bare_head h) (bare_params ps)
unfolding map_stmts
body_of-bare (Own.method_head l result w) ps = refl
body_of-bare (Own.constructor_head l w) ps = refl

built-bare : (b : Own.Body Span) (at : Span) (items : S.Stmts Span) → bare_member (Own.built join b at items) ≡ Own.built no_join (bare_body b) tt (bare_stmts items)
unfolding map_member
built-bare (Own.method_body l result w ps) at items = refl
built-bare (Own.constructor_body k args) at items = refl

body_closed-bare : (b : Own.Body Span) (at : Span) (q : Cue) (items : S.Stmts Span) → some (Own.body_closed join b at q items) ≡ Own.body_closed no_join (bare_body b) tt q (bare_stmts items)
body_closed-bare b at q items = map-close_brace bare_own q (Own.done (Own.built join b at items)) ∙ ap (λ (d : Member Bare). at_close_brace q (Own.done d)) (built-bare b at items)

own_body-bare : (b : Own.Body Span) (s : M.State Span) (at : Span) (t : Token) (q : Cue) → some (Own.from_body join b s at t q) ≡ Own.from_body no_join (bare_body b) (bare_list_state s) tt t q
own_body-bare b s at t q =
    let g = Own.body_closed no_join (bare_body b) tt q in
    let k = option_and_then g (M.whole no_join (bare_list_state s)) in
    map-inner bare_own bare_list_state (Own.in_body b) (Own.in_body (bare_body b)) (option_and_then (Own.body_closed join b at q) (M.whole join s)) k (M.step join s at t) (λ r. refl)
    (map-and_then bare_own bare_stmts (Own.body_closed join b at q) g (M.whole join s) (body_closed-bare b at q) ∙ ap (option_and_then g) (list_whole-bare s))
    ∙ ap (inner (Own.in_body (bare_body b)) k) (list_step-bare s at t)

own_constructor-bare : (k : Own.Constructor Span) (at : Span) (t : Token) (q : Cue) → some (Own.from_constructor join k at t q) ≡ Own.from_constructor no_join (bare_constructor k) tt t q
unfolding map_stmts
own_constructor-bare k at t a_super = refl
own_constructor-bare k at t q = own_body-bare (Own.without_super k) M.start at t q

own_super-bare : (k : Own.Constructor Span) (m at : Span) (t : Token) (q : Cue) → some (Own.from_super join k m at t q) ≡ Own.from_super no_join (bare_constructor k) tt tt t q
unfolding map_stmts map_exp
own_super-bare k m at t an_open = refl
own_super-bare k m at t q = own_body-bare (Own.without_super k) (Own.super_read m) at t q

own_arguments-bare : (c : Own.Constructor Span) (s : A.State Span) (at : Span) (t : Token) (q : Cue) → some (Own.from_arguments join c s at t q) ≡ Own.from_arguments no_join (bare_constructor c) (bare_args_state s) tt t q
own_arguments-bare c s at t q =
    let g = Own.arguments_closed (bare_constructor c) q in
    let k = option_and_then g (A.whole no_join (bare_args_state s)) in
    map-inner bare_own bare_args_state (Own.in_super c) (Own.in_super (bare_constructor c)) (option_and_then (Own.arguments_closed c q) (A.whole join s)) k (A.step join s at t) (λ r. refl)
    (map-and_then bare_own bare_args (Own.arguments_closed c q) g (A.whole join s) (λ es. map-close bare_own q (Own.behind_super c es)) ∙ ap (option_and_then g) (args_whole-bare s))
    ∙ ap (inner (Own.in_super (bare_constructor c)) k) (args_step-bare s at t)

own_cue-bare : (name : List ℕ) (s : Own.State Span) (at : Span) (t : Token) (q : Cue) → some (Own.cue_step join name s at t q) ≡ Own.cue_step no_join name (bare_own s) tt t q
unfolding map_stmts
own_cue-bare name (Own.modified ms) at t q = own_modified-bare ms at q
own_cue-bare name (Own.in_type l s) at t q = own_type-bare name l s at q
own_cue-bare name (Own.voided l) at t q = own_voided-bare l at q
own_cue-bare name (Own.worded l result w) at t q = own_worded-bare l result w at q
own_cue-bare name (Own.in_value l ty w s) at t q = own_value-bare l ty w s at t q
own_cue-bare name (Own.in_params h s) at t q = own_params-bare h s at q
own_cue-bare name (Own.headed h ps) at t q = map-open_brace bare_own q (Own.body_of h ps) ∙ ap (at_open_brace q) (body_of-bare h ps)
own_cue-bare name (Own.in_constructor k) at t q = own_constructor-bare k at t q
own_cue-bare name (Own.at_super k m) at t q = own_super-bare k m at t q
own_cue-bare name (Own.in_super k s) at t q = own_arguments-bare k s at t q
own_cue-bare name (Own.behind_super k es) at t q = map-semicolon bare_own q (Own.with_super k es)
own_cue-bare name (Own.in_body b s) at t q = own_body-bare b s at t q
own_cue-bare name (Own.done d) at t q = refl

pub own_step-bare : (name : List ℕ) (s : Own.State Span) (at : Span) (t : Token) → option_map bare_own (Own.step join name s at t) ≡ Own.step no_join name (bare_own s) tt t
own_step-bare name s at t = own_cue-bare name s at t (cue_of t)

pub own_whole-bare : (s : Own.State Span) → option_map bare_member (Own.whole s) ≡ Own.whole (bare_own s)
own_whole-bare (Own.done d) = refl
own_whole-bare _ = refl

own_start-bare : (s : Own.State Span) → Own.is_start (bare_own s) ≡ Own.is_start s
own_start-bare (Own.modified []) = refl
own_start-bare (Own.modified (m ∷ ms)) = refl
own_start-bare _ = refl

-- ---- classes, over any machine for members

with_member-bare : (ds : Members Span) (d : Member Span) → map_members no_mark (C.with_member ds d) ≡ C.with_member (map_members no_mark ds) (bare_member d)
unfolding map_members
with_member-bare end d = refl
with_member-bare (more e ds) d = ap (more (bare_member e)) (with_member-bare ds d)

abbrev bare_class_head : C.Head Span → C.Head Bare
bare_class_head h = C.head_of (bare_lead h.lead) (bare_word h.word) (option_map bare_type h.parent)

abbrev pub bare_class_state : {S S' : Type 0} → (S → S') → C.State Span S → C.State Bare S'
bare_class_state f (C.modified ms) = C.modified (bare_modifiers ms)
bare_class_state f (C.at_class l) = C.at_class (bare_lead l)
bare_class_state f (C.named l w) = C.named (bare_lead l) (bare_word w)
bare_class_state f (C.in_parent l w s) = C.in_parent (bare_lead l) (bare_word w) (bare_type_state s)
bare_class_state f (C.in_members h all s) = C.in_members (bare_class_head h) (map_members no_mark all) (f s)
bare_class_state f (C.done c) = C.done (bare_class c)

module _ (S S' : Type 0) (f : S → S') (fresh : S) (fresh' : S') (is_fresh : S → Bool) (is_fresh' : S' → Bool) (step : List ℕ → S → Span → Token → Option S) (step' : List ℕ → S' → Bare → Token → Option S')
    (member_whole : S → Option (Member Span)) (member_whole' : S' → Option (Member Bare)) (begins : f fresh ≡ fresh') (begins_alike : (s : S) → is_fresh' (f s) ≡ is_fresh s)
    (steps : (name : List ℕ) (s : S) (at : Span) (t : Token) → option_map f (step name s at t) ≡ step' name (f s) tt t) (wholes : (s : S) → option_map bare_member (member_whole s) ≡ member_whole' (f s)) where
  abbrev some_class : Option (C.State Span S) → Option (C.State Bare S')
  some_class o = option_map (bare_class_state f) o

  class_modified-bare : (ms : List (Modifier Span)) (at : Span) (q : Cue) → some_class (C.from_modified ms at q) ≡ C.from_modified (bare_modifiers ms) tt q
  class_modified-bare ms at (a_modifier w) = ap (λ (r : List (Modifier Bare)). Some (C.modified r)) (map-one (map_modifier no_mark) ms (Own.modifier at w))
  class_modified-bare ms at a_class = refl
  class_modified-bare ms at _ = refl

  at_class-bare : (l : Lead Span) (at : Span) (q : Cue) → some_class (C.from_class l at q) ≡ C.from_class (bare_lead l) tt q
  at_class-bare l at (a_word w) = refl
  at_class-bare l at _ = refl

  opened-bare : (l : Lead Span) (w : Word Span) (parent : Option (TypeName Span))
      → (bare_class_state f) (C.opened Span S join fresh is_fresh step member_whole l w parent) ≡ C.opened Bare S' no_join fresh' is_fresh' step' member_whole' (bare_lead l) (bare_word w) (option_map bare_type parent)
  unfolding map_members
  opened-bare l w parent = ap (C.in_members (C.head_of (bare_lead l) (bare_word w) (option_map bare_type parent)) end) begins

  named-bare : (l : Lead Span) (w : Word Span) (q : Cue) → some_class (C.from_named Span S join fresh is_fresh step member_whole l w q) ≡ C.from_named Bare S' no_join fresh' is_fresh' step' member_whole' (bare_lead l) (bare_word w) q
  named-bare l w an_extends = refl
  named-bare l w an_open_brace = ap (λ (n : C.State Bare S'). Some n) (opened-bare l w None)
  named-bare l w _ = refl

  parent-bare : (l : Lead Span) (w : Word Span) (s : T.State Span) (at : Span) (q : Cue)
      → some_class (C.from_parent Span S join fresh is_fresh step member_whole l w s at q) ≡ C.from_parent Bare S' no_join fresh' is_fresh' step' member_whole' (bare_lead l) (bare_word w) (bare_type_state s) tt q
  parent-bare l w s at q =
      let v = C.in_parent (bare_lead l) (bare_word w) in
      let g = C.behind_parent Bare S' no_join fresh' is_fresh' step' member_whole' (bare_lead l) (bare_word w) q in
      let k = option_and_then g (T.whole (bare_type_state s)) in
      map-inner (bare_class_state f) bare_type_state (C.in_parent l w) v (option_and_then (C.behind_parent Span S join fresh is_fresh step member_whole l w q) (T.whole s)) k (T.cue_step join s at q) (λ r. refl)
      (map-and_then (bare_class_state f) bare_type (C.behind_parent Span S join fresh is_fresh step member_whole l w q) g (T.whole s)
      (λ t. map-open_brace (bare_class_state f) q (C.opened Span S join fresh is_fresh step member_whole l w (Some t)) ∙ ap (at_open_brace q) (opened-bare l w (Some t)))
      ∙ ap (option_and_then g) (type_whole-bare s))
      ∙ ap (inner v k) (type_step-bare s at q)

  class_of-bare : (h : C.Head Span) (at : Span) (all : Members Span) → bare_class (C.class_of join h at all) ≡ C.class_of no_join (bare_class_head h) tt (map_members no_mark all)
  unfolding map_class
  class_of-bare h at all = refl

  closed-bare : (h : C.Head Span) (all : Members Span) (s : S) (at : Span) (q : Cue)
      → some_class (C.closed Span S join fresh is_fresh step member_whole h all s at q) ≡ C.closed Bare S' no_join fresh' is_fresh' step' member_whole' (bare_class_head h) (map_members no_mark all) (f s) tt q
  closed-bare h all s at q =
      go (is_fresh s)
      ∙ ap (λ (o : Option (C.State Bare S')). cond (is_fresh s) o None)
      (map-close_brace (bare_class_state f) q (C.done (C.class_of join h at all)) ∙ ap (λ (c : Class Bare). at_close_brace q (C.done c)) (class_of-bare h at all))
      ∙ ap (λ (b : Bool). cond b (at_close_brace q (C.done (C.class_of no_join (bare_class_head h) tt (map_members no_mark all)))) None) (sym (begins_alike s))
    where
      go : (b : Bool) → some_class (cond b (at_close_brace q (C.done (C.class_of join h at all))) None) ≡ cond b (some_class (at_close_brace q (C.done (C.class_of join h at all)))) None
      go true = refl
      go false = refl

  read-bare : (h : C.Head Span) (all : Members Span) (s : S)
      → (bare_class_state f) (C.member_read Span S join fresh is_fresh step member_whole h all s) ≡ C.member_read Bare S' no_join fresh' is_fresh' step' member_whole' (bare_class_head h) (map_members no_mark all) (f s)
  read-bare h all s =
      map-settled (bare_class_state f) f bare_member (C.in_members h all) (C.in_members (bare_class_head h) (map_members no_mark all)) (C.behind_member Span S join fresh is_fresh step member_whole h all)
      (C.behind_member Bare S' no_join fresh' is_fresh' step' member_whole' (bare_class_head h) (map_members no_mark all)) member_whole member_whole' s
      (λ r. refl)
      (λ d. ap (λ (ds : Members Bare). C.in_members (bare_class_head h) ds (f fresh)) (with_member-bare all d) ∙ ap (C.in_members (bare_class_head h) (C.with_member (map_members no_mark all) (bare_member d))) begins)
      (wholes s)

  members-bare : (h : C.Head Span) (all : Members Span) (s : S) (at : Span) (t : Token) (q : Cue)
      → some_class (C.from_members Span S join fresh is_fresh step member_whole h all s at t q) ≡ C.from_members Bare S' no_join fresh' is_fresh' step' member_whole' (bare_class_head h) (map_members no_mark all) (f s) tt t q
  members-bare h all s at t q =
      let v = C.member_read Bare S' no_join fresh' is_fresh' step' member_whole' (bare_class_head h) (map_members no_mark all) in
      let k = C.closed Bare S' no_join fresh' is_fresh' step' member_whole' (bare_class_head h) (map_members no_mark all) (f s) tt q in
      map-inner (bare_class_state f) f (C.member_read Span S join fresh is_fresh step member_whole h all) v (C.closed Span S join fresh is_fresh step member_whole h all s at q) k (step h.word.text s at t) (read-bare h all) (closed-bare h all s at q)
      ∙ ap (inner v k) (steps h.word.text s at t)

  class_cue-bare : (s : C.State Span S) (at : Span) (t : Token) (q : Cue)
      → some_class (C.cue_step Span S join fresh is_fresh step member_whole s at t q) ≡ C.cue_step Bare S' no_join fresh' is_fresh' step' member_whole' ((bare_class_state f) s) tt t q
  class_cue-bare (C.modified ms) at t q = class_modified-bare ms at q
  class_cue-bare (C.at_class l) at t q = at_class-bare l at q
  class_cue-bare (C.named l w) at t q = named-bare l w q
  class_cue-bare (C.in_parent l w s) at t q = parent-bare l w s at q
  class_cue-bare (C.in_members h all s) at t q = members-bare h all s at t q
  class_cue-bare (C.done c) at t q = refl

  pub class_step-bare : (s : C.State Span S) (at : Span) (t : Token)
      → option_map (bare_class_state f) (C.step Span S join fresh is_fresh step member_whole s at t) ≡ C.step Bare S' no_join fresh' is_fresh' step' member_whole' ((bare_class_state f) s) tt t
  class_step-bare s at t = class_cue-bare s at t (cue_of t)

  pub class_whole-bare : (s : C.State Span S) → option_map bare_class (C.whole s) ≡ C.whole ((bare_class_state f) s)
  class_whole-bare (C.done c) = refl
  class_whole-bare _ = refl

-- ---- members

abbrev bare_inner : C.State Span (Own.State Span) → C.State Bare (Own.State Bare)
bare_inner = bare_class_state bare_own

inner_step-bare : (s : C.State Span (Own.State Span)) (at : Span) (t : Token) → option_map bare_inner (Member.inner_step join s at t) ≡ Member.inner_step no_join (bare_inner s) tt t
inner_step-bare =
    class_step-bare (Own.State Span) (Own.State Bare) bare_own Own.start Own.start Own.is_start Own.is_start (Own.step join) (Own.step no_join) Own.whole Own.whole refl own_start-bare own_step-bare own_whole-bare

abbrev pub bare_member_state : Member.State Span → Member.State Bare
bare_member_state (Member.own s) = Member.own (bare_own s)
bare_member_state (Member.in_class s) = Member.in_class (bare_inner s)

class_begun-bare : (s : Own.State Span) (at : Span) → option_map bare_member_state (Member.class_begun s at) ≡ Member.class_begun (bare_own s) tt
class_begun-bare (Own.modified ms) at = refl
class_begun-bare _ at = refl

begin_class-bare : (nested : Bool) (s : Own.State Span) (at : Span) (q : Cue) → option_map bare_member_state (Member.begin_class nested s at q) ≡ Member.begin_class nested (bare_own s) tt q
begin_class-bare true s at a_class = refl
begin_class-bare false s at a_class = class_begun-bare s at
begin_class-bare nested s at _ = refl

pub member_step-bare : (nested : Bool) (name : List ℕ) (s : Member.State Span) (at : Span) (t : Token)
    → option_map bare_member_state (Member.step join nested name s at t) ≡ Member.step no_join nested name (bare_member_state s) tt t
member_step-bare nested name (Member.own s) at t =
    let k = Member.begin_class nested (bare_own s) tt (cue_of t) in
    map-inner bare_member_state bare_own Member.own Member.own (Member.begin_class nested s at (cue_of t)) k (Own.step join name s at t) (λ r. refl) (begin_class-bare nested s at (cue_of t)) ∙ ap (inner Member.own k) (own_step-bare name s at t)
member_step-bare nested name (Member.in_class s) at t =
    map-map bare_member_state bare_inner Member.in_class Member.in_class (Member.inner_step join s at t) (λ r. refl) ∙ ap (option_map Member.in_class) (inner_step-bare s at t)

class_member-bare : (c : Class Span) → bare_member (Member.class_member c) ≡ Member.class_member (bare_class c)
unfolding map_member
class_member-bare (class m ms w parent all) = refl

pub member_whole-bare : (s : Member.State Span) → option_map bare_member (Member.whole s) ≡ Member.whole (bare_member_state s)
member_whole-bare (Member.own s) = own_whole-bare s
member_whole-bare (Member.in_class (C.done c)) = ap (λ (d : Member Bare). Some d) (class_member-bare c)
member_whole-bare (Member.in_class (C.modified ms)) = refl
member_whole-bare (Member.in_class _) = refl

member_start-bare : (s : Member.State Span) → Member.is_start (bare_member_state s) ≡ Member.is_start s
member_start-bare (Member.own s) = own_start-bare s
member_start-bare (Member.in_class s) = refl

-- ---- units

abbrev pub bare_top : Unit.ClassState Span → Unit.ClassState Bare
bare_top = bare_class_state bare_member_state

pub top_step-bare : (s : Unit.ClassState Span) (at : Span) (t : Token) → option_map bare_top (Unit.class_step join s at t) ≡ Unit.class_step no_join (bare_top s) tt t
top_step-bare =
    class_step-bare (Member.State Span) (Member.State Bare) bare_member_state Member.start Member.start Member.is_start Member.is_start (Member.step join false) (Member.step no_join false) Member.whole Member.whole refl member_start-bare
    (member_step-bare false) member_whole-bare

pub top_whole-bare : (s : Unit.ClassState Span) → option_map bare_class (C.whole s) ≡ C.whole (bare_top s)
top_whole-bare =
    class_whole-bare (Member.State Span) (Member.State Bare) bare_member_state Member.start Member.start Member.is_start Member.is_start (Member.step join false) (Member.step no_join false) Member.whole Member.whole refl member_start-bare
    (member_step-bare false) member_whole-bare

abbrev bare_words : List (Word Span) → List (Word Bare)
bare_words ws = map (map_word no_mark) ws

abbrev bare_classes : List (Class Span) → List (Class Bare)
bare_classes cs = map (map_class no_mark) cs

abbrev pub bare_unit_state : Unit.State Span → Unit.State Bare
bare_unit_state Unit.start = Unit.start
bare_unit_state (Unit.in_package ws) = Unit.in_package (bare_words ws)
bare_unit_state (Unit.worded ws) = Unit.worded (bare_words ws)
bare_unit_state (Unit.in_classes ws cs s) = Unit.in_classes (bare_words ws) (bare_classes cs) (bare_top s)

class_read-bare : (ws : List (Word Span)) (cs : List (Class Span)) (s : Unit.ClassState Span) → bare_unit_state (Unit.class_read ws cs s) ≡ Unit.class_read (bare_words ws) (bare_classes cs) (bare_top s)
class_read-bare ws cs s =
    map-settled bare_unit_state bare_top bare_class (Unit.in_classes ws cs) (Unit.in_classes (bare_words ws) (bare_classes cs)) (Unit.behind_class ws cs) (Unit.behind_class (bare_words ws) (bare_classes cs)) C.whole C.whole s
    (λ r. refl) (λ c. ap (λ (ds : List (Class Bare)). Unit.in_classes (bare_words ws) ds C.start) (map-one (map_class no_mark) cs c)) (top_whole-bare s)

classes-bare : (ws : List (Word Span)) (cs : List (Class Span)) (s : Unit.ClassState Span) (at : Span) (t : Token)
    → option_map bare_unit_state (Unit.from_classes join ws cs s at t) ≡ Unit.from_classes no_join (bare_words ws) (bare_classes cs) (bare_top s) tt t
classes-bare ws cs s at t =
    let v = Unit.class_read (bare_words ws) (bare_classes cs) in
    map-map bare_unit_state bare_top (Unit.class_read ws cs) v (Unit.class_step join s at t) (class_read-bare ws cs) ∙ ap (option_map v) (top_step-bare s at t)

unit_start-bare : (at : Span) (t : Token) (q : Cue) → option_map bare_unit_state (Unit.from_start join at t q) ≡ Unit.from_start no_join tt t q
unit_start-bare at t a_package = refl
unit_start-bare at t _ = classes-bare [] [] C.start at t

unit_package-bare : (ws : List (Word Span)) (at : Span) (q : Cue) → option_map bare_unit_state (Unit.from_package ws at q) ≡ Unit.from_package (bare_words ws) tt q
unit_package-bare ws at (a_word w) = ap (λ (r : List (Word Bare)). Some (Unit.worded r)) (map-one (map_word no_mark) ws (E.marked at w))
unit_package-bare ws at _ = refl

unit_worded-bare : (ws : List (Word Span)) (q : Cue) → option_map bare_unit_state (Unit.from_worded ws q) ≡ Unit.from_worded (bare_words ws) q
unit_worded-bare ws a_dot = refl
unit_worded-bare ws a_semicolon = refl
unit_worded-bare ws _ = refl

unit_cue-bare : (s : Unit.State Span) (at : Span) (t : Token) (q : Cue) → option_map bare_unit_state (Unit.cue_step join s at t q) ≡ Unit.cue_step no_join (bare_unit_state s) tt t q
unit_cue-bare Unit.start at t q = unit_start-bare at t q
unit_cue-bare (Unit.in_package ws) at t q = unit_package-bare ws at q
unit_cue-bare (Unit.worded ws) at t q = unit_worded-bare ws q
unit_cue-bare (Unit.in_classes ws cs s) at t q = classes-bare ws cs s at t

pub unit_step-bare : (s : Unit.State Span) (at : Span) (t : Token) → option_map bare_unit_state (Unit.step join s at t) ≡ Unit.step no_join (bare_unit_state s) tt t
unit_step-bare s at t = unit_cue-bare s at t (cue_of t)

between-bare : (s : Unit.ClassState Span) → Unit.is_between (bare_top s) ≡ Unit.is_between s
between-bare (C.modified []) = refl
between-bare (C.modified (m ∷ ms)) = refl
between-bare _ = refl

pub unit_whole-bare : (file : Span) (s : Unit.State Span) → option_map bare_unit (Unit.whole file s) ≡ Unit.whole tt (bare_unit_state s)
unit_whole-bare file Unit.start = refl
unit_whole-bare file (Unit.in_package ws) = refl
unit_whole-bare file (Unit.worded ws) = refl
unit_whole-bare file (Unit.in_classes ws cs s) = go (Unit.is_between s) ∙ ap (λ (b : Bool). cond b (Some (Unit.unit_of tt (bare_words ws) (bare_classes cs))) None) (sym (between-bare s))
  where
    go : (b : Bool) → option_map bare_unit (cond b (Some (Unit.unit_of file ws cs)) None) ≡ cond b (Some (Unit.unit_of tt (bare_words ws) (bare_classes cs))) None
    go true = refl
    go false = refl
