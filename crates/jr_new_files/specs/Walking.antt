-- A member that is walked, and its places at which no local is declared yet.
use Rattle.std.specs.Prelude.{◌≡◌, ℕ, ◌+◌, List, [], ◌∷◌, None, false}
use Rattle.jr_text.specs.declared.spans.Span.{Span}
use Rattle.jr_ast.specs.MemberTree as syntax
use Rattle.jr_table.specs.Keys.{Ty}
use Rattle.jr_table.specs.Decls.{MemberKey}
use Rattle.jr_table.specs.KeyView.{member_key_of}
use Rattle.jr_table.specs.Rows.{Row}
use Rattle.jr_table.specs.Context.{Context, known}
use Rattle.jr_scopes.specs.Helds.{Held}
use Rattle.jr_new_words.specs.Mappings.{Mapping}
use Rattle.jr_new_words.specs.MappingView.{mapping_in}
use Rattle.jr_new_words.specs.Scopes.{AreTables}
use Rattle.jr_new_bodies.specs.declared.here.Here as raw_here
use Rattle.jr_new_bodies.specs.Known as here
use Rattle.jr_new_bodies.specs.Spotting.{no_spots}
use Rattle.jr_new_bodies.specs.SpotView.{spotting_of}
use Rattle.jr_new_files.specs.declared.beginnings.Walked as raw

abbrev pub key_of : raw.Walked → MemberKey
key_of w = member_key_of w.key.now

abbrev pub rows_of : raw.Walked → List Row
rows_of w = w.programs.before.now

abbrev pub mapping_of : raw.Walked → Mapping
mapping_of w = mapping_in w.programs

abbrev pub CanWalk : raw.Walked → Type 0
CanWalk w = AreTables w.programs

-- a place of the member, where this is known
pub record Begins (w : raw.Walked) (h : raw_here.Here) (c : Context) : Type 0 where
  pub known : here.IsKnown h
  pub context : here.context_of h ≡ c
  pub rows : here.rows_of h ≡ rows_of w
  pub mapping : here.mapping_of h ≡ mapping_of w
  pub bound : h.bound.now ≡ w.bound.now
  pub from_is : h.from ≡ w.from
  pub spots : spotting_of h.spots ≡ no_spots

-- ---- parameters in scope, from this number on: exact

abbrev pub held_param : ℕ → syntax.Param Span → Ty → Held
held_param number p t = record {
  name = p.name.text;
  number = number;
  is_final = p.is_final;
  type = known t;
  has_init = false;
  kind = None;
}

abbrev pub held_params : ℕ → List (syntax.Param Span) → List Ty → List Held
held_params number (p ∷ ps) (t ∷ ts) = held_param number p t ∷ held_params (number + 1) ps ts
held_params number _ _ = []
