-- An action is done at one site alone, so where no two sites of a member are equal its number is one.
use Rattle.std.proofs.Common.{◌≡◌, Some, refl, sym, ap, ◌∙◌}
use Rattle.jr_runs.specs.Keys.{Keys, At}
use Rattle.jr_runs.specs.Actions.{part, shared, Action, load, store, enter, exit, create, start, Event}
use Rattle.jr_runs.specs.Rows.{Rows}
use Rattle.jr_cover.specs.Sites.{What, loads, enters, exits, creates, Site}
use Rattle.jr_cover.specs.Sites as sites
use Rattle.jr_cover.specs.Covering.{Does, DoneAt}

module _ {K : Keys} (R : Rows K) where
  -- what is done at a site, by the action
  abbrev done_by : Action K → What K
  done_by (load kind (part o f) v) = loads f
  done_by (load kind (shared f) v) = loads f
  done_by (store kind (part o f) v) = sites.stores f
  done_by (store kind (shared f) v) = sites.stores f
  done_by (enter o) = enters
  done_by (exit o) = exits
  done_by (create o) = creates
  done_by (start o v) = creates

  is_done : (w : What K) (x : Action K) → Does R w x → w ≡ done_by x
  is_done (loads f) (load kind (part o g) v) d = ap loads (sym d.1)
  is_done (loads f) (load kind (shared g) v) d = ap loads (sym d.1)
  is_done (sites.stores f) (store kind (part o g) v) d = ap sites.stores (sym d.1)
  is_done (sites.stores f) (store kind (shared g) v) d = ap sites.stores (sym d.1)
  is_done enters (enter o) d = refl
  is_done exits (exit o) d = refl
  is_done creates (create o) d = refl
  is_done w x d = absurd d

  same_place : (p q : K.place) (at : At K) → at ≡ Some p → at ≡ Some q → p ≡ q
  same_place p q at e f = one (sym e ∙ f)
    where
      one : Some p ≡ Some q → p ≡ q
      one i = cc

  pub one_site : (a b : Site K) (x : Event K) → DoneAt R a x → DoneAt R b x → a ≡ b
  one_site a b x d e = λ i. record { at = same_place a.at b.at x.at d.0 e.0 i; what = (is_done a.what x.action d.1 ∙ sym (is_done b.what x.action e.1)) i }
