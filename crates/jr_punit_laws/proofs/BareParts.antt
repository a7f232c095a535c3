-- Types, arguments, parameters and statements: the machines with marks step as those without.
use Rattle.std.proofs.Common.{◌≡◌, Bool, true, false, List, [], ◌∷◌, Option, Some, None, refl, ap, ◌∙◌}
use Rattle.std.specs.Prelude.{map, option_map, option_and_then}
use Rattle.jr_text.specs.declared.spans.Span.{Span}
use Rattle.jr_ast.specs.declared.operators.ModWord.{ModWord}
use Rattle.jr_ast.specs.declared.operators.ModWord.TheVariants.{Final}
use Rattle.jr_ast.specs.Tree.{TypeName, int, boolean, named as named_type, Exp, Exps, end, more}
use Rattle.jr_ast.specs.MemberTree.{Param}
use Rattle.jr_ast.specs.Remarked.{map_param, map_exp}
use Rattle.jr_grammar.specs.Tokens.{Token}
use Rattle.jr_grammar.specs.Bare.{Bare, no_mark, bare_word, bare_type, bare, bare_args}
use Rattle.jr_pexpr.specs.Machine as E
use Rattle.jr_pexpr.specs.Marked.{join}
use Rattle.jr_pexpr.specs.BareMachine.{no_join, bare_state, bare_whole}
use Rattle.jr_pstmt.specs.Cues.{an_int, a_boolean, Cue, a_word, a_primitive, a_modifier, a_dot, at_comma, cue_of}
use Rattle.jr_pstmt.specs.Inside.{inner}
use Rattle.jr_pstmt.specs.TypeMachine as T
use Rattle.jr_pstmt.specs.ArgumentMachine as A
use Rattle.jr_pstmt.specs.ParameterMachine as P
use Rattle.jr_punit_laws.proofs.Expressions.{exp_step-bare, exp_whole-bare}
use Rattle.jr_punit_laws.proofs.MapSteps.{map-one, map-inner, map-and_then, map-map, map-comma}

-- ---- types

abbrev pub bare_type_state : T.State Span → T.State Bare
bare_type_state (T.want b) = T.want b
bare_type_state (T.have t) = T.have (bare_type t)
bare_type_state (T.dotted o) = T.dotted (bare_word o)

abbrev some_type : Option (T.State Span) → Option (T.State Bare)
some_type o = option_map bare_type_state o

pub type_begun-bare : (b : Bool) (at : Span) (q : Cue) → option_map bare_type_state (T.from_want b at q) ≡ T.from_want b tt q
type_begun-bare b at (a_word w) = refl
type_begun-bare true at (a_primitive an_int) = refl
type_begun-bare true at (a_primitive a_boolean) = refl
type_begun-bare false at (a_primitive p) = refl
type_begun-bare b at _ = refl

type_dotted-bare : (t : TypeName Span) → option_map bare_type_state (T.dot_behind t) ≡ T.dot_behind (bare_type t)
type_dotted-bare (int m) = refl
type_dotted-bare (boolean m) = refl
type_dotted-bare (named_type m None w) = refl
type_dotted-bare (named_type m (Some o) w) = refl

pub type_step-bare : (s : T.State Span) (at : Span) (q : Cue) → option_map bare_type_state (T.cue_step join s at q) ≡ T.cue_step no_join (bare_type_state s) tt q
type_step-bare (T.want b) at q = type_begun-bare b at q
type_step-bare (T.have t) at a_dot = type_dotted-bare t
type_step-bare (T.have t) at _ = refl
type_step-bare (T.dotted o) at (a_word w) = refl
type_step-bare (T.dotted o) at _ = refl

pub type_whole-bare : (s : T.State Span) → option_map bare_type (T.whole s) ≡ T.whole (bare_type_state s)
type_whole-bare (T.want b) = refl
type_whole-bare (T.have t) = refl
type_whole-bare (T.dotted o) = refl

-- ---- arguments

abbrev pub bare_args_state : A.State Span → A.State Bare
bare_args_state s = A.in_argument (bare_args s.args) (bare_state s.last)

args-with_last : (es : Exps Span) (e : Exp Span) → bare_args (E.with_last es e) ≡ E.with_last (bare_args es) (bare e)
unfolding map_exp
args-with_last end e = refl
args-with_last (more d es) e = ap (more (bare d)) (args-with_last es e)

next-bare : (es : Exps Span) (q : Cue) (e : Exp Span) → option_map bare_args_state (A.next_argument es q e) ≡ A.next_argument (bare_args es) q (bare e)
next-bare es q e = map-comma bare_args_state q (A.in_argument (E.with_last es e) (E.want [])) ∙ ap (λ (ds : Exps Bare). at_comma q (A.in_argument ds (E.want []))) (args-with_last es e)

-- ---- parameters

abbrev pub bare_params : List (Param Span) → List (Param Bare)
bare_params ps = map (map_param no_mark) ps

abbrev pub bare_params_state : P.State Span → P.State Bare
bare_params_state (P.want ps) = P.want (bare_params ps)
bare_params_state (P.in_type ps m f s) = P.in_type (bare_params ps) tt f (bare_type_state s)
bare_params_state (P.have ps) = P.have (bare_params ps)

params_begun-bare : (ps : List (Param Span)) (at : Span) (q : Cue) → option_map bare_params_state (P.begin_type ps at q) ≡ P.begin_type (bare_params ps) tt q
params_begun-bare ps at q =
    map-map bare_params_state bare_type_state (P.in_type ps at false) (P.in_type (bare_params ps) tt false) (T.from_want true at q) (λ s. refl) ∙ ap (option_map (P.in_type (bare_params ps) tt false)) (type_begun-bare true at q)

params_final-bare : (ps : List (Param Span)) (at : Span) (w : ModWord) → option_map bare_params_state (P.begin_final ps at w) ≡ P.begin_final (bare_params ps) tt w
params_final-bare ps at Final = refl
params_final-bare ps at _ = refl

params_want-bare : (ps : List (Param Span)) (at : Span) (q : Cue) → option_map bare_params_state (P.from_want ps at q) ≡ P.from_want (bare_params ps) tt q
params_want-bare ps at (a_modifier w) = params_final-bare ps at w
params_want-bare ps at q = params_begun-bare ps at q

params_named-bare : (ps : List (Param Span)) (m : Span) (f : Bool) (at : Span) (q : Cue) (t : TypeName Span)
    → option_map bare_params_state (P.named join ps m f at q t) ≡ P.named no_join (bare_params ps) tt f tt q (bare_type t)
params_named-bare ps m f at (a_word w) t = ap (λ (rs : List (Param Bare)). Some (P.have rs)) (map-one (map_param no_mark) ps (P.parameter join m f at t w))
params_named-bare ps m f at _ t = refl

pub params_step-bare : (s : P.State Span) (at : Span) (q : Cue) → option_map bare_params_state (P.cue_step join s at q) ≡ P.cue_step no_join (bare_params_state s) tt q
params_step-bare (P.want ps) at q = params_want-bare ps at q
params_step-bare (P.in_type ps m f s) at q =
    let w = P.in_type (bare_params ps) tt f in
    map-inner bare_params_state bare_type_state (P.in_type ps m f) w (option_and_then (P.named join ps m f at q) (T.whole s)) (option_and_then (P.named no_join (bare_params ps) tt f tt q) (T.whole (bare_type_state s))) (T.cue_step join s at q)
    (λ s. refl)
    (map-and_then bare_params_state bare_type (P.named join ps m f at q) (P.named no_join (bare_params ps) tt f tt q) (T.whole s) (params_named-bare ps m f at q)
    ∙ ap (option_and_then (P.named no_join (bare_params ps) tt f tt q)) (type_whole-bare s))
    ∙ ap (inner w (option_and_then (P.named no_join (bare_params ps) tt f tt q) (T.whole (bare_type_state s)))) (type_step-bare s at q)
params_step-bare (P.have ps) at q = map-comma bare_params_state q (P.want ps)

pub params_whole-bare : (s : P.State Span) → option_map bare_params (P.whole s) ≡ P.whole (bare_params_state s)
params_whole-bare (P.want []) = refl
params_whole-bare (P.want (p ∷ ps)) = refl
params_whole-bare (P.in_type ps m f s) = refl
params_whole-bare (P.have ps) = refl

-- ---- arguments: the machine

pub args_step-bare : (s : A.State Span) (at : Span) (t : Token) → option_map bare_args_state (A.step join s at t) ≡ A.step no_join (bare_args_state s) tt t
args_step-bare s at t =
    let q = cue_of t in
    let w = A.in_argument (bare_args s.args) in
    let k = option_and_then (A.next_argument (bare_args s.args) q) (bare_whole (bare_state s.last)) in
    map-inner bare_args_state bare_state (A.in_argument s.args) w (option_and_then (A.next_argument s.args q) (E.whole join s.last)) k (E.step join s.last at t)
    (λ r. refl)
    (map-and_then bare_args_state bare (A.next_argument s.args q) (A.next_argument (bare_args s.args) q) (E.whole join s.last) (next-bare s.args q)
    ∙ ap (option_and_then (A.next_argument (bare_args s.args) q)) (exp_whole-bare s.last))
    ∙ ap (inner w k) (exp_step-bare s.last at t)

args_none-bare : (s : E.State Span) → option_map bare_args (A.whole_none s) ≡ A.whole_none (bare_state s)
unfolding map_exp
args_none-bare (E.want []) = refl
args_none-bare (E.want (f ∷ fs)) = refl
args_none-bare _ = refl

pub args_whole-bare : (s : A.State Span) → option_map bare_args (A.whole join s) ≡ A.whole no_join (bare_args_state s)
unfolding map_exp
args_whole-bare s = go s.args (E.whole join s.last) ∙ ap (λ (o : Option (Exp Bare)). A.whole_behind (bare_args s.args) o (bare_state s.last)) (exp_whole-bare s.last)
  where
    go : (es : Exps Span) (o : Option (Exp Span)) → option_map bare_args (A.whole_behind es o s.last) ≡ A.whole_behind (bare_args es) (option_map bare o) (bare_state s.last)
    go end (Some e) = refl
    go end None = args_none-bare s.last
    go (more d es) (Some e) = ap (λ (rs : Exps Bare). Some rs) (args-with_last (more d es) e)
    go (more d es) None = refl
