-- What a walk over a written `super(..)` rests on at a place, and what it gathers there.
use Rattle.std.specs.Prelude.{◌≡◌, ℕ, List, Some, Bool, true, false}
use Rattle.jr_text.specs.declared.spans.Span.{Span}
use Rattle.jr_ast.specs.Tree as tree
use Rattle.jr_program_laws.specs.FileParts.{begins}
use Rattle.jr_rewrite.specs.Respellings.{Choice, stays, becomes, loses}
use Rattle.jr_rewrite.specs.Rewrites.{TransformsSuper}
use Rattle.jr_new_words.specs.Spelled.{SuperCtorSpells}
use Rattle.jr_new_bodies.specs.Effects.{Effect, both, Gathers}
use Rattle.jr_new_bodies.specs.OutputView.{lost}
use Rattle.jr_new_bodies.specs.declared.here.Here as raw
use Rattle.jr_new_bodies.specs.Known.{
  rows_of,
  mapping_of,
  context_of,
  RowReady,
  TypesRow,
  SuperCtorIsBound,
}
use Rattle.jr_new_bodies.specs.Spotting.{Unseen}
use Rattle.jr_new_bodies.specs.Walks.{choosing, spotted}
use Rattle.jr_grammar.specs.Layout.{itself}
use Rattle.jr_new_files.specs.Ready.{Anywhere}

abbrev pub is_lost : Choice → Bool
is_lost stays = false
is_lost (becomes r) = false
is_lost (loses l) = true

-- the constructor alone
abbrev pub CallReady : raw.Here → (path : List ℕ) → (first : ℕ) → tree.Exps Span → Type 0
CallReady h path first args =
    TypesRow h (context_of h) path first args × SuperCtorIsBound (rows_of h) (context_of h) args

abbrev pub CallGathers : raw.Here → (super_at : ℕ) → tree.Exps Span → (old new : Effect) → Type 0
CallGathers h n args old new = (c : Choice)
    × SuperCtorSpells begins (rows_of h) (mapping_of h) n (context_of h) args c
    × (new ≡ both old (lost c))

-- with its arguments, in a member that begins at `at`
abbrev pub WrittenReady : raw.Here → (path : List ℕ) → (first at : ℕ) → tree.Exps Span → Type 0
WrittenReady h path first at args = RowReady itself Anywhere h path first at args
    × SuperCtorIsBound (rows_of h) (context_of h) args

abbrev pub WrittenGathers : raw.Here → (super_at at : ℕ) → tree.Exps Span → (old new : Effect)
    → Type 0
WrittenGathers h n at args old new = (u : Unseen Span) → u.super_at (context_of h) ≡ n
    → Gathers (TransformsSuper itself (choosing itself h u.super_at) (spotted itself h u)
    (context_of h) at (Some args)) old new
