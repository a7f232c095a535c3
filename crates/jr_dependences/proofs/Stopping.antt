-- Paths between the same stops, and the stops as they are gathered.
use Rattle.std.proofs.Common.{◌≡◌, ◌⊎◌, ◌<◌, ℕ, ◌+◌, List, [], ◌∷◌, ◌++◌, Some, None, sym, subst, ◌∙◌, inl, inr, arith}
use Rattle.std.specs.Prelude.{Contains, ◌↔◌, slice_get}
use Rattle.std.proofs.lemmas.Bool.{cases_eq}
use Rattle.std.proofs.lemmas.List.Elements.{Contains-append_left, Contains-push, Contains-push_cases}
use Rattle.jr_flow.specs.Paths.{PathBetween, edge, onward}
use Rattle.jr_sync.specs.declared.sites.Site.{Site}
use Rattle.jr_sync.specs.declared.sites.DepKind.TheVariants.{Output}
use Rattle.jr_sync.specs.Relations.{Related}
use Rattle.jr_flow.specs.declared.reached.Reached.{Reached}
use Rattle.jr_flow.specs.Edges.{EdgeOf}
use Rattle.jr_flow.specs.Nodes.{TellsNodes}
use Rattle.jr_dependences.specs.Depends.{WritesAgain}
use Rattle.jr_dependences.specs.Known.{IsReadIn, TellsFlow}
use Rattle.jr_dependences.proofs.Leading.{same_item}

pub between_same : (E : ℕ → ℕ → Type 0) (S T : ℕ → Type 0) → ((n : ℕ) → (S n ↔ T n)) → (a b : ℕ) → PathBetween E S a b → PathBetween E T a b
between_same E S T same a b (edge x y e) = edge x y e
between_same E S T same a c (onward x b y e free rest) = onward x b y e (λ t. free ((same b).1 t)) (between_same E S T same b y rest)

pub between_both : (E : ℕ → ℕ → Type 0) (S T : ℕ → Type 0) → ((n : ℕ) → (S n ↔ T n)) → (a b : ℕ) → (PathBetween E S a b ↔ PathBetween E T a b)
between_both E S T same a b = (between_same E S T same a b, between_same E T S (λ n. ((same n).1, (same n).0)) a b)

-- those of P among the first so many numbers
abbrev pub Gathers : (P : ℕ → Type 0) → (count : ℕ) → List ℕ → Type 0
Gathers P count stops = (n : ℕ) → (Contains stops n ↔ ((n < count) × P n))

pub gathers_none : (P : ℕ → Type 0) → Gathers P 0 []
gathers_none P n = (λ at. let no : at.0 < 0 = at.1 in absurd (omega arith), λ p. let no : n < 0 = p.0 in absurd (omega arith))

pub gathers_past : (P : ℕ → Type 0) (count : ℕ) (stops : List ℕ) → (P count → ⊥) → Gathers P count stops → Gathers P (count + 1) stops
gathers_past P count stops never h n = (λ at. let p = (h n).0 at in let lt : n < count = p.0 in (omega arith, p.1), λ p. (h n).1 (lower p.0 p.1, p.1))
  where
    lower : (n < count + 1) → P n → n < count
    lower lt holds = by (cases_eq n count)
      where
        by : ((n ≡ count) ⊎ (n ≡ count → ⊥)) → n < count
        by (inl same) = absurd (never (subst P same holds))
        by (inr other) = omega arith

pub gathers_more : (P : ℕ → Type 0) (count : ℕ) (stops : List ℕ) → P count → Gathers P count stops → Gathers P (count + 1) (stops ++ count ∷ [])
gathers_more P count stops holds h n = (λ at. forth (Contains-push_cases stops count n at), λ p. back p.0 p.1 (cases_eq n count))
  where
    forth : (Contains stops n ⊎ (count ≡ n)) → (n < count + 1) × P n
    forth (inl at) = let p = (h n).0 at in let lt : n < count = p.0 in (omega arith, p.1)
    forth (inr is) = (omega arith, subst P is holds)

    back : n < count + 1 → P n → ((n ≡ count) ⊎ (n ≡ count → ⊥)) → Contains (stops ++ count ∷ []) n
    back lt p (inr other) = Contains-append_left stops (count ∷ []) n ((h n).1 (omega arith, p))
    back lt p (inl same) = subst (λ (m : ℕ). Contains (stops ++ count ∷ []) m) (sym same) (Contains-push stops count)

pub gathers_all : (P : ℕ → Type 0) (count : ℕ) (stops : List ℕ) → ((n : ℕ) → P n → n < count) → Gathers P count stops → (n : ℕ) → (Contains stops n ↔ P n)
gathers_all P count stops within h n = (λ at. ((h n).0 at).1, λ p. (h n).1 (within n p, p))

pub gathers_same : (P : ℕ → Type 0) (count : ℕ) (stops others : List ℕ) → others ≡ stops → Gathers P count stops → Gathers P count others
gathers_same P count stops others same h = subst (λ (ns : List ℕ). Gathers P count ns) (sym same) h

module _ {K L : Type 0} (F : K → K → Type 0) (M : L → L → Type 0) (sites : List (Site K L)) where
  pub stop_past : (a s : Site K L) (count : ℕ) (stops : List ℕ) → slice_get sites count ≡ Some s → (Related F M Output a s → ⊥) → Gathers (WritesAgain F M sites a) count stops
      → Gathers (WritesAgain F M sites a) (count + 1) stops
  stop_past a s count stops is never h = gathers_past (WritesAgain F M sites a) count stops (λ w. never (subst (λ (t : Site K L). Related F M Output a t) (same_item w.0 s (sym w.1 ∙ is)) w.2)) h

  pub stop_more : (a s : Site K L) (count : ℕ) (stops : List ℕ) → slice_get sites count ≡ Some s → Related F M Output a s → Gathers (WritesAgain F M sites a) count stops
      → Gathers (WritesAgain F M sites a) (count + 1) (stops ++ count ∷ [])
  stop_more a s count stops is again h = gathers_more (WritesAgain F M sites a) count stops (s, is, again) h

  -- the same stops
  pub stops_as : (a : Site K L) (ns ms : List ℕ) → ns ≡ ms → ((n : ℕ) → (Contains ns n ↔ WritesAgain F M sites a n)) → (n : ℕ) → (Contains ms n ↔ WritesAgain F M sites a n)
  stops_as a ns ms is h = subst (λ (l : List ℕ). (n : ℕ) → (Contains l n ↔ WritesAgain F M sites a n)) is h

  module _ (edges : List (ℕ × ℕ)) (first : ℕ) (site : Site K L) (is : slice_get sites first ≡ Some site) where
    pub flow_none : (IsReadIn F M sites site → ⊥) → TellsFlow F M sites edges first None
    flow_none unread a at read = unread (subst (IsReadIn F M sites) (same_item a site (sym at ∙ is)) read)

    pub flow_some : (stops : List ℕ) (reached : Reached) → ((n : ℕ) → (Contains stops n ↔ WritesAgain F M sites site n)) → TellsNodes (PathBetween (EdgeOf edges) (Contains stops) first) reached
        → TellsFlow F M sites edges first (Some reached)
    flow_some stops reached gathered tells a at node =
        let same : site ≡ a = same_item site a (sym is ∙ at) in
        let stopped : (n : ℕ) → (Contains stops n ↔ WritesAgain F M sites a n) = subst (λ (t : Site K L). (n : ℕ) → (Contains stops n ↔ WritesAgain F M sites t n)) same gathered in
        let both = between_both (EdgeOf edges) (Contains stops) (WritesAgain F M sites a) stopped first node in
        (λ r. both.0 ((tells node).0 r), λ p. (tells node).1 (both.1 p))
