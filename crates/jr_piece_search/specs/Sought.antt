-- What a search by a span finds: an expression, its way, how it is used, and what bars it.
use Rattle.std.specs.Prelude.{◌≡◌, ℕ, Bool, List, ◌++◌, Option, Some, None, if◌then◌else◌}
use Rattle.jr_text.specs.declared.spans.Span.{Span}
use Rattle.jr_ast.specs.Tree as tree
use Rattle.jr_ast.specs.Marks.{exp_mark}
use Rattle.jr_grammar.specs.Layout.{itself}
use Rattle.jr_pieces.specs.Ways.{ExpWay}
use Rattle.jr_pieces.specs.Finding.{find_exp, exp_path}
use Rattle.jr_pieces.specs.Uses.{Use, exp_use}
use Rattle.jr_pieces.specs.Bars.{exp_barred}

-- a node of this span begins there
abbrev pub begins : Span → ℕ → ℕ
begins m base = m.from

-- what bars a place, from where a search began, and from the innermost element of a list on
pub record Bars : Type 0 where
  pub outer : Option ℕ
  pub own : Option ℕ

-- behind a step into a part that the node, which begins there, may leave out
abbrev pub barred : Bars → (lazy : Bool) → (at : ℕ) → Bars
barred b lazy at = if lazy then record { outer = Some at; own = Some at } else b

pub record InExp : Type 0 where
  pub value : tree.Exp Span
  pub usage : Use
  pub bars : Bars

-- the place of an expression within one that is used so and has these bars, with the path to it
-- behind what stood there
pub record IsPlaceIn (u : Use) (b : Bars) (e : tree.Exp Span) (old new : List ℕ) (x : InExp)
    : Type 0 where
  pub way : ExpWay x.value e
  pub path : new ≡ old ++ exp_path way
  pub used : x.usage ≡ exp_use u way
  pub outer : (base : ℕ) → x.bars.outer ≡ exp_barred begins base b.outer way
  pub own : (base : ℕ) → x.bars.own ≡ exp_barred begins base b.own way

-- what a search within the expression answers
abbrev pub IsFoundIn : Span → Use → Bars → tree.Exp Span → (old new : List ℕ) → Option InExp
    → Type 0
IsFoundIn s u b e old new None = (base : ℕ) → find_exp itself s base e ≡ None
IsFoundIn s u b e old new (Some x) = (exp_mark x.value ≡ s) × IsPlaceIn u b e old new x
