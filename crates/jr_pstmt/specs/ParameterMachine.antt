-- Reading parameters, token by token (JLS 8.4.1).
use Rattle.std.specs.Prelude.{
  ℕ,
  Bool,
  true,
  false,
  List,
  [],
  ◌∷◌,
  ◌++◌,
  Option,
  Some,
  None,
  option_map,
  option_and_then,
}
use Rattle.jr_ast.specs.declared.operators.ModWord.{ModWord}
use Rattle.jr_ast.specs.declared.operators.ModWord.TheVariants.{Final}
use Rattle.jr_ast.specs.Tree.{TypeName}
use Rattle.jr_ast.specs.MemberTree.{Param}
use Rattle.jr_grammar.specs.Tokens.{Token}
use Rattle.jr_pexpr.specs.Machine.{marked}
use Rattle.jr_pstmt.specs.Cues.{Cue, a_word, a_modifier, at_comma, cue_of}
use Rattle.jr_pstmt.specs.Inside.{inner}
use Rattle.jr_pstmt.specs.TypeMachine as T

pub data State (A : Type 0) : Type 0 where
  -- a parameter is to come: the first, or one behind a comma
  want : (params : List (Param A)) → State A
  -- in a parameter's type; `start` is the parameter's first token
  in_type : (params : List (Param A)) (start : A) (is_final : Bool) (type : T.State A) → State A
  -- behind a parameter
  have : (params : List (Param A)) → State A

abbrev pub start : {A : Type 0} → State A
start = want []

abbrev pub begin_type : {A : Type 0} → List (Param A) → A → Cue → Option (State A)
begin_type ps at c = option_map (in_type ps at false) (T.from_want true at c)

abbrev pub begin_final : {A : Type 0} → List (Param A) → A → ModWord → Option (State A)
begin_final ps at Final = Some (in_type ps at true (T.want true))
begin_final ps at _ = None

abbrev pub from_want : {A : Type 0} → List (Param A) → A → Cue → Option (State A)
from_want ps at (a_modifier m) = begin_final ps at m
from_want ps at c = begin_type ps at c

abbrev pub parameter : {A : Type 0} → (A → A → A) → A → Bool → A → TypeName A → List ℕ → Param A
parameter join m f at t w = record { mark = join m at; is_final = f; type = t; name = marked at w }

-- the parameter's word
abbrev pub named : {A : Type 0} → (A → A → A) → List (Param A) → A → Bool → A → Cue → TypeName A →
    Option (State A)
named join ps m f at (a_word w) t = Some (have (ps ++ (parameter join m f at t w ∷ [])))
named join ps m f at _ t = None

abbrev pub from_type : {A : Type 0} → (A → A → A) → List (Param A) → A → Bool → T.State A → A →
    Cue → Option (State A)
from_type join ps m f s at c =
    inner (in_type ps m f) (option_and_then (named join ps m f at c) (T.whole s))
    (T.cue_step join s at c)

abbrev pub cue_step : {A : Type 0} → (A → A → A) → State A → A → Cue → Option (State A)
cue_step join (want ps) at c = from_want ps at c
cue_step join (in_type ps m f s) at c = from_type join ps m f s at c
cue_step join (have ps) at c = at_comma c (want ps)

abbrev pub step : {A : Type 0} → (A → A → A) → State A → A → Token → Option (State A)
step join s at t = cue_step join s at (cue_of t)

-- none at all, but not behind a comma
abbrev pub whole_none : {A : Type 0} → List (Param A) → Option (List (Param A))
whole_none [] = Some []
whole_none (p ∷ ps) = None

abbrev pub whole : {A : Type 0} → State A → Option (List (Param A))
whole (want ps) = whole_none ps
whole (in_type ps m f s) = None
whole (have ps) = Some ps
