-- Places of a walk, one behind the other.
use Rattle.std.proofs.Common.{◌≡◌, ◌∙◌, refl, sym, subst}
use Rattle.jr_table.specs.Context.{Context}
use Rattle.jr_new_bodies.specs.declared.here.Here as raw
use Rattle.jr_new_bodies.specs.Known.{context_of, IsKnown}
use Rattle.jr_new_bodies.specs.Moves.{Goes}

pub stays : (h : raw.Here) → IsKnown h → Goes h h (context_of h)
stays h known = record { known = known; context = refl; rows = refl; mapping = refl; bound = refl; from_is = refl; spots = refl }

-- where what is known there is what was
pub stays_so : (h : raw.Here) → IsKnown h → (c : Context) → c ≡ context_of h → Goes h h c
stays_so h known c is = record { known = known; context = sym is; rows = refl; mapping = refl; bound = refl; from_is = refl; spots = refl }

module _ (h i : raw.Here) where
  pub goes_so : (c d : Context) → c ≡ d → Goes h i c → Goes h i d
  goes_so c d is goes = subst (λ (x : Context). Goes h i x) is goes

  -- there, whatever was known between
  pub goes_here : (c : Context) → Goes h i c → Goes h i (context_of i)
  goes_here c goes = goes_so c (context_of i) (sym goes.context) goes

pub goes_on : (h i j : raw.Here) (c d : Context) → Goes h i c → Goes i j d → Goes h j d
goes_on h i j c d one other = record {
  known = other.known;
  context = other.context;
  rows = other.rows ∙ one.rows;
  mapping = other.mapping ∙ one.mapping;
  bound = other.bound ∙ one.bound;
  from_is = other.from_is ∙ one.from_is;
  spots = other.spots ∙ one.spots;
}
