-- Rows of sites read locals alone where the sites of a body do that they are.
use Rattle.std.proofs.Common.{◌≡◌, ℕ, true, List, map, Some, get_or, refl, sym, ap, subst, ◌∙◌}
use Rattle.std.specs.Prelude.{IsTrue, is_some, option_map, slice_get}
use Rattle.std.proofs.lemmas.Bool.{false≢true}
use Rattle.std.proofs.lemmas.Option.{slice_get_within, get_or_from_slice_get, slice_get-get_or, slice_get-map}
use Rattle.std.proofs.lemmas.List.Elements.{All-get_or}
use Rattle.jr_text.specs.declared.spans.Span.{Span}
use Rattle.jr_table.specs.declared.keys.FieldKey as raw_field
use Rattle.jr_table.specs.declared.decls.LocalKey as raw_local
use Rattle.jr_table.specs.Keys.{FieldKey}
use Rattle.jr_table.specs.Decls.{LocalKey}
use Rattle.jr_sync.specs.declared.sites.Site.{Site as Shown}
use Rattle.jr_sync.specs.declared.sites.Site.TheVariants as shown
use Rattle.jr_sync.specs.Sites.{read_of}
use Rattle.jr_sites.specs.declared.sites.PlacedSite as raw
use Rattle.jr_sites.specs.SiteView.{site_of, sites_in}
use Rattle.jr_bind.specs.Programs.{Program}
use Rattle.jr_program.proofs.Standing.{map_some}
use Rattle.jr_code.specs.RunKeys.{RunKeys}
use Rattle.jr_cover.specs.Sites.{What, reads, writes, loads, stores, enters, exits, creates, checks, calls, loops, Site}
use Rattle.jr_cover.specs.Plain as plain
use Rattle.jr_cover.specs.Plain.{IsRead}
use Rattle.jr_cfg.specs.Seen.{seen}
use Rattle.jr_runs.specs.Actions.{FieldKind}
use Rattle.jr_effect.specs.Plain as row
use Rattle.jr_effect.specs.Plain.{is_read}
use Rattle.jr_effect.proofs.Covered.{site_get}
use Rattle.jr_local.specs.Bodies.{Body}
use Rattle.jr_local.specs.Crossing.{action}

raw_read : (s : Shown raw_field.FieldKey raw_local.LocalKey) → is_some (read_of (site_of s)) ≡ is_some (read_of s)
raw_read (shown.Read l) = refl
raw_read (shown.Write l) = refl
raw_read (shown.Access k f) = refl
raw_read shown.Check = refl
raw_read shown.Call = refl
raw_read shown.Loop = refl

module _ (kind : FieldKey → FieldKind) (local : ℕ → LocalKey) where
  abbrev look : What RunKeys → Shown FieldKey LocalKey
  look w = seen kind (λ (f : FieldKey). f) local w

  read_there : (w : What RunKeys) → is_some (read_of (look w)) ≡ true → IsRead w
  read_there (reads n) e = tt
  read_there (writes n) e = absurd (false≢true e)
  read_there (loads f) e = absurd (false≢true e)
  read_there (stores f) e = absurd (false≢true e)
  read_there enters e = absurd (false≢true e)
  read_there exits e = absurd (false≢true e)
  read_there creates e = absurd (false≢true e)
  read_there checks e = absurd (false≢true e)
  read_there calls e = absurd (false≢true e)
  read_there loops e = absurd (false≢true e)

  read_seen : (w : What RunKeys) → IsRead w → is_some (read_of (look w)) ≡ true
  read_seen (reads n) h = refl
  read_seen (writes n) h = absurd h
  read_seen (loads f) h = absurd h
  read_seen (stores f) h = absurd h
  read_seen enters h = absurd h
  read_seen exits h = absurd h
  read_seen creates h = absurd h
  read_seen checks h = absurd h
  read_seen calls h = absurd h
  read_seen loops h = absurd h

module _ (p : Program Span) (file : ℕ) (b : Body) (kind : FieldKey → FieldKind) (local : ℕ → LocalKey) (same : (s : Site RunKeys) → action p file b s ≡ seen kind (λ (f : FieldKey). f) local s.what)
    (sites : List (Site RunKeys)) (list : List raw.PlacedSite) (are : map (action p file b) sites ≡ sites_in list) where
  abbrev act : Site RunKeys → Shown FieldKey LocalKey
  act = action p file b

  abbrev bare : raw.PlacedSite → Shown FieldKey LocalKey
  bare y = site_of y.site

  abbrev P : raw.PlacedSite → Type 0
  P y = IsTrue (is_read y)

  pub plain_sites : row.IsPlain list → plain.IsPlain sites
  plain_sites h i s at =
      let there : slice_get sites i ≡ Some s = sym (site_get sites i) ∙ at in
      let shown : slice_get (map act sites) i ≡ Some (act s) = slice_get-map act sites i ∙ ap (option_map act) there in
      let other : option_map bare (slice_get list i) ≡ Some (act s) = sym (slice_get-map bare list i) ∙ ap (λ (xs : List (Shown FieldKey LocalKey)). slice_get xs i) (sym are) ∙ shown in
      let y = map_some bare (slice_get list i) (act s) other in
      let reads_so : is_read y.0 ≡ true = subst P (get_or_from_slice_get list i y.0 y.0 y.1) (All-get_or P list i y.0 (slice_get_within list i y.0 y.1) h) in
      read_there kind local s.what (ap (λ (z : Shown FieldKey LocalKey). is_some (read_of z)) (sym (same s) ∙ sym y.2) ∙ raw_read y.0.site ∙ reads_so)

  pub plain_row : plain.IsPlain sites → row.IsPlain list
  plain_row h i d lt =
      let y = get_or list i d in
      let there : slice_get list i ≡ Some y = slice_get-get_or list i d lt in
      let shown : slice_get (sites_in list) i ≡ Some (bare y) = slice_get-map bare list i ∙ ap (option_map bare) there in
      let other : option_map act (slice_get sites i) ≡ Some (bare y) = sym (slice_get-map act sites i) ∙ ap (λ (xs : List (Shown FieldKey LocalKey)). slice_get xs i) are ∙ shown in
      let s = map_some act (slice_get sites i) (bare y) other in
      sym (raw_read y.site) ∙ ap (λ (z : Shown FieldKey LocalKey). is_some (read_of z)) (sym s.2 ∙ same s.0) ∙ read_seen kind local s.0.what (h i s.0 (site_get sites i ∙ s.1))
