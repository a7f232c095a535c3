-- The dependences of a graph are those of the way whose graph it is, and so are their lines.
use Rattle.std.proofs.Common.{◌≡◌, ◌+◌, ℕ, suc, List, [], ◌∷◌, ◌++◌, get_or, map, Option, Some, None, refl, sym, ap, subst, ◌∙◌, arith}
use Rattle.std.specs.Prelude.{◌↔◌, slice_get, option_map, codes, decimal, Contains}
use Rattle.std.specs.List.{AllZip}
use Rattle.std.proofs.lemmas.Option.{slice_get-map, get_or_from_slice_get}
use Rattle.jr_sync.specs.declared.sites.Site.{Site as BareSite}
use Rattle.jr_table.specs.Keys.{FieldKey}
use Rattle.jr_table.specs.Decls.{MemberKey, LocalKey}
use Rattle.jr_names.specs.DeclTexts.{member_text}
use Rattle.jr_code.specs.RunKeys.{RunKeys}
use Rattle.jr_flow.specs.Edges.{EdgeOf}
use Rattle.jr_cover.specs.Sites.{Site}
use Rattle.jr_cover.specs.Ways.{Way, Edge}
use Rattle.jr_sites.specs.declared.sites.PlacedSite as raw
use Rattle.jr_sites.specs.declared.sites.SiteGraph.{SiteGraph}
use Rattle.jr_sites.specs.SiteView.{PlacedSite, site_of, placed_of, sites_in}
use Rattle.jr_dependences.specs.declared.dependence.Dependence.{Dependence}
use Rattle.jr_dependences.specs.Depends.{DependsIn, DependsAlong}
use Rattle.jr_dependences.specs.KindNames.{kind_name}
use Rattle.jr_dependences.proofs.Mapped.{from_mapped}
use Rattle.jr_effect.specs.Plain.{Same}
use Rattle.jr_cfg.specs.Graphs.{IsGraph}
use Rattle.jr_expr_sites.specs.KnownFacts.{Given}
use Rattle.jr_dependence_lines.specs.Lines.{Line, line_text, texts_of}
use Rattle.jr_dependence_lines.specs.WayLines.{bare_sites, DependsOn, StandsAt, IsLineOf, AreWayLines}
use Rattle.jr_dependence_lines.specs.Tallies.{told, all_told, place_texts, AreAll}
use Rattle.jr_dependence_lines.proofs.Along.{depends_along}

map_twice : {X Y Z : Type 0} (f : Y → Z) (g : X → Y) (xs : List X) → map f (map g xs) ≡ map (λ x. f (g x)) xs
map_twice f g [] = refl
map_twice f g (x ∷ xs) = λ i. f (g x) ∷ map_twice f g xs i

-- where a site stands, if there is one
abbrev at_in : Option raw.PlacedSite → ℕ
at_in None = 0
at_in (Some s) = s.at

abbrev pub line_of : MemberKey → (start : ℕ) → List raw.PlacedSite → Dependence → Line
line_of key start items d = record {
  member = key;
  kind = d.kind;
  first = start + at_in (slice_get items d.first);
  second = start + at_in (slice_get items d.second);
}

-- ---- texts

place_is : (start : ℕ) (items : List raw.PlacedSite) (n : ℕ) (s : raw.PlacedSite) → slice_get items n ≡ Some s → get_or (place_texts start items) n [] ≡ decimal (start + at_in (slice_get items n))
place_is start items n s e =
    let there : slice_get (place_texts start items) n ≡ Some (decimal (start + s.at)) = slice_get-map (λ (p : raw.PlacedSite). decimal (start + p.at)) items n ∙ ap (option_map (λ (p : raw.PlacedSite). decimal (start + p.at))) e in
    get_or_from_slice_get (place_texts start items) n (decimal (start + s.at)) [] there ∙ ap (λ (o : Option raw.PlacedSite). decimal (start + at_in o)) (sym e)

module _ (of : SiteGraph) where
  abbrev Holds : Dependence → Type 0
  Holds d = DependsIn Same Same (sites_in of.sites.items) of.graph.edges.items d

  first_site : (d : Dependence) → Holds d → (s : raw.PlacedSite) × (slice_get of.sites.items d.first ≡ Some s)
  first_site d h =
      let p = from_mapped (λ (s : raw.PlacedSite). site_of s.site) (slice_get of.sites.items d.first) h.0 (sym (slice_get-map (λ (s : raw.PlacedSite). site_of s.site) of.sites.items d.first) ∙ h.2) in
      (p.0, p.1)

  second_site : (d : Dependence) → Holds d → (s : raw.PlacedSite) × (slice_get of.sites.items d.second ≡ Some s)
  second_site d h =
      let p = from_mapped (λ (s : raw.PlacedSite). site_of s.site) (slice_get of.sites.items d.second) h.1 (sym (slice_get-map (λ (s : raw.PlacedSite). site_of s.site) of.sites.items d.second) ∙ h.3) in
      (p.0, p.1)

  told_is : (key : MemberKey) (start : ℕ) (d : Dependence) → Holds d → told (member_text key) (place_texts start of.sites.items) d ≡ line_text (line_of key start of.sites.items d)
  told_is key start d h =
      let a = first_site d h in
      let b = second_site d h in
      let first = place_is start of.sites.items d.first a.0 a.1 in
      let second = place_is start of.sites.items d.second b.0 b.1 in
      λ i. member_text key ++ codes " " ++ kind_name d.kind ++ codes " " ++ first i ++ codes " " ++ second i

  pub all_told_is : (key : MemberKey) (start : ℕ) (list : List Dependence) → ((d : Dependence) → Contains list d → Holds d)
      → all_told (member_text key) (place_texts start of.sites.items) list ≡ texts_of (map (line_of key start of.sites.items) list)
  all_told_is key start [] holds = refl
  all_told_is key start (d ∷ ds) holds =
      let first = told_is key start d (holds d (0, omega arith, refl)) in
      let rest = all_told_is key start ds (λ e at. holds e (later e at)) in
      λ i. first i ∷ rest i
    where
      later : (e : Dependence) → Contains ds e → Contains (d ∷ ds) e
      later e (k, lt, is) = (suc k, omega (arith, lt), is)

-- ---- the way

module _ (g : Given) (w : Way (Site RunKeys)) (of : SiteGraph) (is : IsGraph g w of) where
  bare_is : sites_in of.sites.items ≡ bare_sites g w
  bare_is = sym (map_twice (λ (s : PlacedSite). s.site) placed_of of.sites.items) ∙ ap (map (λ (s : PlacedSite). s.site)) is.sites

  depends_is : (d : Dependence) → (Holds of d ↔ DependsOn g w d)
  depends_is d = subst (λ (l : List (BareSite FieldKey LocalKey)). Holds of d ↔ DependsAlong Same Same l (Edge 0 w) d.kind d.first d.second) bare_is
      (depends_along Same Same (sites_in of.sites.items) (EdgeOf of.graph.edges.items) (Edge 0 w) is.edges d.kind d.first d.second)

  stands : (n start : ℕ) (s : raw.PlacedSite) → start ≡ g.start → slice_get of.sites.items n ≡ Some s → StandsAt g w n (start + at_in (slice_get of.sites.items n))
  stands n start s begin e = (
    placed_of s,
    ap (λ (l : List PlacedSite). slice_get l n) (sym is.sites) ∙ slice_get-map placed_of of.sites.items n ∙ ap (option_map placed_of) e,
    (λ i. begin i + at_in (e i)),
  )

  line_is : (start : ℕ) (d : Dependence) → start ≡ g.start → Holds of d → IsLineOf g w d (line_of g.member start of.sites.items d)
  line_is start d begin h =
      let a = first_site of d h in
      let b = second_site of d h in
      record { member = refl; kind = refl; first = stands d.first start a.0 begin a.1; second = stands d.second start b.0 begin b.1 }

  each_is : (start : ℕ) (list : List Dependence) → start ≡ g.start → ((d : Dependence) → Contains list d → Holds of d) → AllZip (IsLineOf g w) list (map (line_of g.member start of.sites.items) list)
  each_is start [] begin holds = tt
  each_is start (d ∷ ds) begin holds = (line_is start d begin (holds d (0, omega arith, refl)), each_is start ds begin (λ e at. holds e (later e at)))
    where
      later : (e : Dependence) → Contains ds e → Contains (d ∷ ds) e
      later e (k, lt, is) = (suc k, omega (arith, lt), is)

  pub graph_lines : (start : ℕ) (list : List Dependence) → start ≡ g.start → AreAll of list → AreWayLines g w (map (line_of g.member start of.sites.items) list)
  graph_lines start list begin all = record {
    few = is.few;
    list = list;
    ordered = all.ordered;
    exact = λ d. (λ at. (depends_is d).0 ((all.exact d).0 at), λ h. (all.exact d).1 ((depends_is d).1 h));
    each = each_is start list begin (λ d at. (all.exact d).0 at);
  }
