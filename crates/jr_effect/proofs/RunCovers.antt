-- The list of a graph's dependences covers what runs do in the member.
use Rattle.std.proofs.Common.{◌≡◌, ℕ, List, map, Option, Some, None, refl, sym, ap, subst, ◌∙◌}
use Rattle.std.specs.Prelude.{◌↔◌, IsTrue, Contains, slice_get, option_map, option_and_then, unwrap_or}
use Rattle.jr_table.proofs.SameMaps.{map-map}
use Rattle.jr_sync.specs.declared.sites.DepKind.TheVariants.{Field, Sync}
use Rattle.jr_flow.specs.Edges.{EdgeOf}
use Rattle.jr_dependences.specs.declared.dependence.Dependence.{Dependence}
use Rattle.jr_dependences.specs.Depends.{DependsIn}
use Rattle.jr_plans.specs.Numbered.{Numbered}
use Rattle.jr_runs.specs.Actions.{Event, FieldKind, plain}
use Rattle.jr_runs.specs.Keys.{Keys}
use Rattle.jr_runs.specs.Rows.{Rows}
use Rattle.jr_sync.specs.declared.sites.Site as row
use Rattle.jr_table.specs.Decls.{MemberKey, LocalKey, field_decl}
use Rattle.jr_table.specs.Entries.{number_of}
use Rattle.jr_table.specs.Keys.{FieldKey}
use Rattle.jr_table.specs.Rows.{Row}
use Rattle.jr_table.proofs.RowLaws.{number_stands, number_none}
use Rattle.jr_code.specs.RunKeys.{RunKeys}
use Rattle.jr_code.specs.RunRows.{AreRunRows, kind_of_words}
use Rattle.jr_cover.specs.Dependences.{Cover}
use Rattle.jr_cover.specs.Sites.{Site}
use Rattle.jr_cover.specs.Ways.{Way, sites_of, Edge}
use Rattle.jr_cover.proofs.Cover as cover
use Rattle.jr_cover.proofs.Depending as depending
use Rattle.jr_sites.specs.declared.sites.SiteGraph.{SiteGraph}
use Rattle.jr_sites.specs.SiteView.{PlacedSite, placed_of, sites_in}
use Rattle.jr_expr_sites.specs.Meanings.{field_kind}
use Rattle.jr_cfg.specs.Placed.{placed, own_local}
use Rattle.jr_cfg.specs.Seen.{seen}
use Rattle.jr_effect.specs.Covers.{CoversTrace}
use Rattle.jr_effect.specs.MemberCovers.{CoversMembers}
use Rattle.jr_effect.specs.Plain.{Same}
use Rattle.jr_effect.proofs.Covered.{depends_tied, listed_either}

-- what depends on what is listed
module _ {K : Keys} (R : Rows K) {G H : Type 0} (key : K.field → G) (local : ℕ → H) (one_key : (f g : K.field) → key f ≡ key g → f ≡ g) (one_local : (m n : ℕ) → local m ≡ local n → m ≡ n) (w : Way (Site K)) (edges : List (ℕ × ℕ)) (same : (i j : ℕ) → (EdgeOf edges i j ↔ Edge 0 w i j)) (list : List Dependence)
    (exact : (d : Dependence) → (Contains list d ↔ DependsIn Same Same (map (λ s. seen R.field_kind key local s.what) (sites_of w)) edges d)) where
  pub trace_covered : (Outside : K.place → Type 0) (trace : List (Numbered (Event K))) → Cover R Outside w trace → CoversTrace R Outside w list trace
  trace_covered Outside trace covers t u v x y e own out other_out =
      let covered = covers t u v x y e own out other_out in
      let sync = depends_tied R key local one_key one_local (sites_of w) (Edge 0 w) edges same Sync covered.0 covered.1 in
      let field = depends_tied R key local one_key one_local (sites_of w) (Edge 0 w) edges same Field covered.0 covered.1 in (
        covered.0,
        covered.1,
        covered.2,
        covered.3,
        covered.4,
        covered.5,
        covered.6,
        covered.7,
        (λ no. (exact (record { kind = Sync; first = covered.0; second = covered.1 })).1 (sync.0 (covered.9 no))),
        (λ one. listed_either sync.0 field.0 (exact (record { kind = Sync; first = covered.0; second = covered.1 })).1 (exact (record { kind = Field; first = covered.0; second = covered.1 })).1 (covered.10 one)),
      )

-- the kind of a field in runs is that of its row
run_kind : (rows : List Row) (R : Rows RunKeys) → AreRunRows rows R → (k : FieldKey) → R.field_kind k ≡ field_kind rows k
run_kind rows R are k = by (number_of rows (field_decl k)) refl
  where
    kind_by : Option ℕ → FieldKind
    kind_by o = unwrap_or (option_map (λ (r : Row). kind_of_words r.modifiers) (option_and_then (λ j. slice_get rows j) o)) plain

    by : (o : Option ℕ) → number_of rows (field_decl k) ≡ o → R.field_kind k ≡ kind_by (number_of rows (field_decl k))
    by None e = (are.no_field k (λ h. number_none rows (field_decl k) e h.0 h.1)).0 ∙ ap kind_by (sym e)
    by (Some j) e =
        let r = number_stands rows (field_decl k) j e in
        are.field_kind k j r ∙ ap (λ o. unwrap_or (option_map (λ (q : Row). kind_of_words q.modifiers) o) plain) (sym r.stands) ∙ ap kind_by (sym e)

one_own_local : (m : MemberKey) (i j : ℕ) → own_local m i ≡ own_local m j → i ≡ j
one_own_local m i j e = ap (λ l. l.number) e

module _ (of : SiteGraph) (list : List Dependence) (exact : (d : Dependence) → (Contains list d ↔ DependsIn Same Same (sites_in of.sites.items) of.graph.edges.items d)) where
  pub members_covered : CoversMembers of list
  members_covered g w is X P is_outside rows has start answers fuel =
      trace_covered P.rows (λ f. f) (own_local g.member) (λ f h e. e) (one_own_local g.member) w of.graph.edges.items is.edges list
      (λ d. subst (λ l. Contains list d ↔ DependsIn Same Same l of.graph.edges.items d) shown (exact d))
      (λ p. IsTrue (is_outside p)) _ (depending.covers P.rows (λ p. IsTrue (is_outside p)) w _ (cover.actions_follow_edges X is_outside w P has start answers fuel))
    where
      view : (FieldKey → FieldKind) → Site RunKeys → row.Site FieldKey LocalKey
      view kinds s = seen kinds (λ f. f) (own_local g.member) s.what

      shown : sites_in of.sites.items ≡ map (view P.rows.field_kind) (sites_of w)
      shown =
          sym (map-map placed_of (λ (s : PlacedSite). s.site) of.sites.items)
          ∙ ap (map (λ (s : PlacedSite). s.site)) is.sites
          ∙ map-map (placed g) (λ (s : PlacedSite). s.site) (sites_of w)
          ∙ ap (λ kinds. map (view kinds) (sites_of w)) (λ i f. sym (run_kind g.rows P.rows rows f) i)
