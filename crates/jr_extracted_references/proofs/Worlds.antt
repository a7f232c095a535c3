-- What is known of a program and of what extract local makes of it, at places that stand for one another: in
-- its regions rows, keys and types stay.
use Rattle.std.proofs.Common.{◌≡◌, List, Option, refl}
use Rattle.jr_text.specs.declared.spans.Span.{Span}
use Rattle.jr_table.specs.Keys.{ClassKey, Ty, int, boolean, void, null, class}
use Rattle.jr_table.specs.Decls.{LocalKey}
use Rattle.jr_table.specs.Rows.{Row}
use Rattle.jr_table.specs.Conditions.{AreRows}
use Rattle.jr_table.specs.Scope.{ScopeLocal}
use Rattle.jr_table.specs.LookupLaws.{KeysFound, OneAnswer}
use Rattle.jr_table.specs.BindingLaws.{AreBound}
use Rattle.jr_table.specs.Context.{Context}
use Rattle.jr_table.specs.Binding.{HasType}
use Rattle.jr_spell.specs.Rebound.{SpellingsRebind, ClassesRebind, FrontsRebind}
use Rattle.jr_members.specs.WrittenLaws.{MembersAreWritten}
use Rattle.jr_images.specs.Regions.{Region, IsSound}
use Rattle.jr_images.specs.TextLaws.{RowsAreNamed}
use Rattle.jr_told_ways.specs.Told.{OneWayHasASpan}
use Rattle.jr_bodies.specs.BodyLaws.{BodiesAreNested}
use Rattle.jr_local.specs.Scopes.{seen_by, plain_region}
use Rattle.jr_local.specs.Soundness.{RegionsAreSound}
use Rattle.jr_kept_references.specs.InRegions.{type_in, StandsFor, TellsTypes}
use Rattle.jr_kept_references.proofs.RegionWorlds.{RegionWorld}

-- what the laws stand on
pub record Laws : Type 0 where
  pub one : OneAnswer
  pub keys : KeysFound
  pub bound : AreBound Span
  pub rebind : SpellingsRebind Span
  pub classes : ClassesRebind Span
  pub fronts : FrontsRebind Span
  pub sound : RegionsAreSound
  pub named : RowsAreNamed Span
  pub written : MembersAreWritten Span
  pub nested : BodiesAreNested
  pub ways : OneWayHasASpan Span

module _ (rows : List Row) (to : LocalKey → Option LocalKey) (locals_to : List ScopeLocal → List ScopeLocal) (HasMade : LocalKey → ClassKey → Type 0) where
  abbrev R : Region Span
  R = plain_region (seen_by rows to locals_to HasMade)

  pub same_type : (t : Ty) → t ≡ type_in R t
  same_type int = refl
  same_type boolean = refl
  same_type void = refl
  same_type null = refl
  same_type (class k) = refl

  tells_types : TellsTypes rows R
  unfolding HasType
  tells_types = record {
    own = λ c e t own h. same_type t;
    this = λ c m t stays h. h;
    bound = λ c e t x y finds image type. same_type t;
    paren = λ c m e t. refl;
    assign = λ c m e f t. refl;
  }

  pub world_of : Laws → AreRows rows → IsSound rows R → (c d : Context) → StandsFor R rows c d → RegionWorld Span rows R c d
  world_of laws are sound c d stand = record {
    one_old = laws.one rows are;
    one_new = laws.one rows are;
    old = laws.bound rows are (laws.keys rows are) c;
    new = laws.bound rows are (laws.keys rows are) d;
    rebind = laws.rebind;
    classes = laws.classes;
    fronts = laws.fronts rows d;
    images = sound.images;
    args = sound.types;
    types = tells_types;
    stand = stand;
  }
