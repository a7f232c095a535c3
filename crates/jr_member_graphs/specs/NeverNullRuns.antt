-- Runs of a member's code, in which what is never null comes to no null.
use Rattle.std.specs.Prelude.{◌≡◌, ℕ, List, length, Option, Some, None}
use Rattle.jr_text.specs.declared.spans.Span.{Span}
use Rattle.jr_ast.specs.Tree as tree
use Rattle.jr_ast.specs.MemberTree as declared
use Rattle.jr_runs.specs.Values.{Value, Ty}
use Rattle.jr_runs.specs.Core.{Code, Program}
use Rattle.jr_runs.specs.Starting.{IsReceiver, ArgsFit}
use Rattle.jr_runs.specs.Typing.{SoundRows, CodeTyped}
use Rattle.jr_code.specs.RunKeys.{RunKeys}
use Rattle.jr_cover.specs.NeverNullMembers.{IsBound, HasBody, ComesToNoNull}
use Rattle.jr_cover.specs.Sites.{Known}
use Rattle.jr_cover.specs.Spots.{Spot}
use Rattle.jr_cover.specs.Translation.{exp_code}
use Rattle.jr_never_null.specs.Flags.{init_of}
use Rattle.jr_expr_sites.specs.KnownFacts.{Given, Others, known_of}
use Rattle.jr_cfg.specs.MemberRoutes.{NumbersMember}
use Rattle.jr_member_graphs.specs.MemberLocals.{inits}
use Rattle.jr_member_graphs.specs.OwnFlags.{spotted}

-- well-typed code, run on a receiver and arguments that fit
pub record Run : Type 0 where
  pub program : Program RunKeys
  pub sound : SoundRows program.rows
  pub code : Code RunKeys
  pub declaring : Option RunKeys.class
  pub types : List (Ty RunKeys)
  pub answer : Option (Ty RunKeys)
  pub typed : CodeTyped program.rows declaring types answer code
  pub me : Value RunKeys
  pub arguments : List (Value RunKeys)
  pub receiver : IsReceiver program.rows declaring me
  pub fits : ArgsFit program.rows types arguments

-- The code is that of the method or constructor. A field's initializer may be in any.
abbrev pub IsRunOf : Known RunKeys Spot → declared.Member Spot → Run → Type 0
IsRunOf X (declared.field m mods t w init) r = Unit {0}
IsRunOf X (declared.method m mods t w params body) r =
    HasBody X.facts None body r.code × (r.code.params ≡ length params)
IsRunOf X (declared.constructor m mods w params args body) r =
    HasBody X.facts args body r.code × (r.code.params ≡ length params)
IsRunOf X (declared.inner m c) r = ⊥

-- each `new` and class literal that a local begins with is bound, as in a sound program all are
abbrev pub AllBound : Known RunKeys Spot → declared.Member Spot → Type 0
AllBound X m = (n : ℕ) (e : tree.Exp Spot) → init_of (inits m) n ≡ Some e → IsBound X.facts e

-- In no run of the member's code the expression comes to null.
abbrev pub NoNullInRuns : Known RunKeys Spot → declared.Member Spot → tree.Exp Spot → Type 0
NoNullInRuns X m e = (r : Run) → IsRunOf X m r
    → ComesToNoNull r.program r.me r.code r.arguments (exp_code X.facts e)

-- Where binding gives the member's locals their numbers and each value is bound, the expression
-- comes to no null, whatever else resolved code needs.
abbrev pub GivesNoNull : {A : Type 0} → (tells : A → ℕ → Span) → (base : ℕ) → Given
    → declared.Member A → tree.Exp Spot → Type 0
GivesNoNull tells base g m e = (o : Others) → NumbersMember tells base m o
    → AllBound (known_of g o) (spotted tells base m) → IsBound (known_of g o).facts e
    → NoNullInRuns (known_of g o) (spotted tells base m) e
