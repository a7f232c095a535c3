-- What has been read as a type: a name with nothing begun around it.
use Rattle.std.proofs.Common.{◌≡◌, Bool, true, false, List, [], ◌∷◌, None, refl}
use Rattle.jr_text.specs.declared.spans.Span.{Span}
use Rattle.jr_ast.specs.Tree.{Exp}
use Rattle.jr_pexpr.specs.Machine.{Frame, have, name_type}
use Rattle.jr_pexpr.specs.Stacks.{is_nil}
use Rattle.jr_pexpr.specs.Starts.{type_read}

pub read_alone : (fs : List (Frame Span)) (e : Exp Span) → is_nil fs ≡ true → name_type e ≡ type_read (have fs e)
read_alone [] e h = refl
read_alone (f ∷ fs) e h = absurd cc

pub not_read : (fs : List (Frame Span)) (e : Exp Span) → is_nil fs ≡ false → None ≡ type_read (have fs e)
not_read [] e h = absurd cc
not_read (f ∷ fs) e h = refl
