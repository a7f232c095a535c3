-- What extract local finds, or the first of its own refusals that applies.
use Rattle.std.specs.Prelude.{◌≡◌, ℕ, Bool, List}
use Rattle.jr_text.specs.declared.spans.Span.{Span}
use Rattle.jr_table.specs.Keys.{ClassKey}
use Rattle.jr_table.specs.Decls.{MemberKey, local_decl}
use Rattle.jr_table.specs.Binding.{HasType, IsClassName}
use Rattle.jr_names.specs.Refusals.{Refusal, conditional, clash}
use Rattle.jr_bind.specs.Programs.{Program}
use Rattle.jr_pieces.specs.Standings.{Standing, at_list}
use Rattle.jr_local_search.specs.Scopes.{AtElement, IsAt}
use Rattle.jr_local_search.specs.Places.{ExtractPlace, barred, taken, open_for, IsExtractPlace}
use Rattle.jr_bodies.specs.Bodies.{begins, entry}
use Rattle.jr_bodies.specs.CodedBodies.{body_with}
use Rattle.jr_bodies.specs.Selecting.{Selected, element, RefusesExtract, IsFree}
use Rattle.jr_local_finds.specs.Chosen.{Chosen, HasValue}

-- refused, or the expression and the number of the new local
pub data Extracted : Type 0 where
  refused : Refusal → Extracted
  found : Chosen → (number : ℕ) → Extracted

module _ (p : Program Span) (file from to : ℕ) where
  -- what is known where it stands
  abbrev pub there : {x : Chosen} → HasValue p file (record { from = from; to = to }) x → Standing
  there {x} h = at_list begins (entry h.key h.is_static h.base x.code.params) h.value.place.way

  -- the expression is selected, as this
  pub record IsSelected (x : Chosen) : Type 0 where
    pub has : HasValue p file (record { from = from; to = to }) x
    pub no_class : (k : ClassKey) → IsClassName p.rows (there has).context x.value.found.value k → ⊥
    pub typed : HasType p.rows (there has).context x.value.found.value x.value.type

  abbrev pub selected_of : {x : Chosen} → IsSelected x → Selected p file from to
  selected_of {x} h = record {
    body = body_with h.has.key h.has.is_static h.has.base x.code h.has.bound;
    has = h.has.has;
    value = x.value.found.value;
    way = h.has.value.place.way;
    span = h.has.value.suits.span;
    used = h.has.value.suits.used;
    no_class = h.no_class;
    type = x.value.type;
    typed = h.typed;
    no_void = h.has.value.suits.no_void;
    no_null = h.has.value.suits.no_null;
    no_greatest = h.has.value.suits.no_greatest;
  }

  module _ (name : List ℕ) where
    pub record IsFound (x : Chosen) (number : ℕ) : Type 0 where
      pub selected : IsSelected x
      pub free : IsFree p file from to name (selected_of selected)
      pub next : (element (selected_of selected)).at.next ≡ number

    abbrev pub Extracts : Extracted → Type 0
    Extracts (refused r) = RefusesExtract p file from to name r
    Extracts (found x n) = IsFound x n

-- ---- at the place of an expression of a member

-- what stands against it, by what is known where the member's code begins
pub record IsPlaced (name : List ℕ) (k : MemberKey) (x : Chosen) (r : ExtractPlace) : Type 0 where
  pub at : AtElement
  pub known : (is_static : Bool) (base : ℕ) → IsAt name (entry k is_static base x.code.params) at
  pub is : IsExtractPlace name at x.code.front x.code.list x.value.path x.value.found r

abbrev pub at_place : (file : ℕ) → MemberKey → Chosen → ExtractPlace → Extracted
at_place file k x (barred at) = refused (conditional (record { file = file; at = at }))
at_place file k x (taken n) = refused (clash (local_decl (record { member = k; number = n })))
at_place file k x (open_for n) = found x n

pub record IsAnswer (name : List ℕ) (file : ℕ) (k : MemberKey) (x : Chosen) (e : Extracted)
    : Type 0 where
  pub place : ExtractPlace
  pub placed : IsPlaced name k x place
  pub is : e ≡ at_place file k x place
