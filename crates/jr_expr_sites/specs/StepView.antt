-- What a walk knows, and what it writes, as contracts see them.
use Rattle.std.specs.Prelude.{ℕ, List, Option, map}
use Rattle.jr_table.specs.Keys.{Ty}
use Rattle.jr_table.specs.Decls.{MemberKey, Decl}
use Rattle.jr_table.specs.KeyView.{member_key_of, field_key_of}
use Rattle.jr_code.specs.RunKeys.{RunKeys}
use Rattle.jr_cover.specs.Sites as sites
use Rattle.jr_expr_sites.specs.declared.here.Here as raw_here
use Rattle.jr_expr_sites.specs.declared.here.Meaning as raw_meaning
use Rattle.jr_expr_sites.specs.declared.here.Meaning.TheVariants as meant
use Rattle.jr_expr_sites.specs.declared.step.What as raw_what
use Rattle.jr_expr_sites.specs.declared.step.What.TheVariants as what
use Rattle.jr_expr_sites.specs.declared.step.Site as raw_site
use Rattle.jr_expr_sites.specs.declared.step.Step as raw_step
use Rattle.jr_expr_sites.specs.declared.step.Step.TheVariants as raw
use Rattle.jr_expr_sites.specs.Meanings as pure
use Rattle.jr_expr_sites.specs.Steps as step
use Rattle.jr_expr_sites.specs.KnownFacts.{Given}

-- decls, types: the meanings of the facts
abbrev pub given : {F : Type 0} → (decls : F → ℕ → Option Decl)
    → (types : F → List ℕ → Option Ty) → raw_here.Here F → Given
given decls types here = record {
  rows = here.table.now;
  member = member_key_of here.member.now;
  start = here.start;
  decls = decls here.facts.now;
  types = types here.facts.now;
  never_null = here.never_null.now;
}

abbrev pub meaning_view : raw_meaning.Meaning → pure.Meaning
meaning_view (meant.Local n) = pure.local n
meaning_view (meant.Field k) = pure.field (field_key_of k.now)
meaning_view meant.Class = pure.class
meaning_view meant.Nothing = pure.nothing

abbrev pub what_of : raw_what.What → sites.What RunKeys
what_of (what.Reads n) = sites.reads n
what_of (what.Writes n) = sites.writes n
what_of (what.Loads k) = sites.loads (field_key_of k.now)
what_of (what.Stores k) = sites.stores (field_key_of k.now)
what_of what.Enters = sites.enters
what_of what.Exits = sites.exits
what_of what.Creates = sites.creates
what_of what.Checks = sites.checks
what_of what.Calls = sites.calls
what_of what.Loops = sites.loops

-- of this member
abbrev pub site_of : MemberKey → raw_site.Site → sites.Site RunKeys
site_of key s = record { at = record { member = key; at = s.at }; what = what_of s.what }

abbrev pub step_of : MemberKey → raw_step.Step → step.Step (sites.Site RunKeys)
step_of key raw.Pass = step.pass
step_of key (raw.Site s) = step.site (site_of key s)
step_of key (raw.Opens s) = step.opens (site_of key s)
step_of key raw.Row = step.row
step_of key raw.Fork = step.fork
step_of key raw.Leave = step.leave
step_of key raw.Turns = step.turns
step_of key (raw.Closes s) = step.closes (site_of key s)

abbrev pub steps_in : MemberKey → List raw_step.Step → List (step.Step (sites.Site RunKeys))
steps_in key steps = map (step_of key) steps
