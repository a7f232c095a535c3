-- The dependences of a row of sites are those of `jr_cover`, where each site is seen by the kind of
-- its access.
use Rattle.std.proofs.Common.{◌≡◌, ◌⊎◌, ℕ, zero, suc, Bool, false, List, [], ◌∷◌, map, Option, Some, None, sym, ap, subst, ◌∙◌, refl, inl, inr}
use Rattle.std.specs.Prelude.{◌↔◌, ◌&&◌, ◌||◌, IsTrue, slice_get, option_map}
use Rattle.std.proofs.lemmas.Bool.{and_parts, and_from, or_cases, or_left, or_right, false≢true}
use Rattle.std.proofs.lemmas.Option.{slice_get-map}
use Rattle.jr_sync.specs.declared.kinds.Kind.{Kind}
use Rattle.jr_sync.specs.declared.kinds.Kind.TheVariants.{Load, Store, VolatileLoad, VolatileStore, Enter, Exit, Still}
use Rattle.jr_sync.specs.declared.sites.Site as row
use Rattle.jr_sync.specs.declared.sites.DepKind.{DepKind}
use Rattle.jr_sync.specs.declared.sites.DepKind.TheVariants.{Order, Field, Sync, Flow, Anti, Output}
use Rattle.jr_sync.specs.Grid.{is_allowed}
use Rattle.jr_sync.specs.Sites.{is_wild, is_access, is_store_kind, is_store, kind_of, field_of, read_of, written_of}
use Rattle.jr_sync.specs.Relations as related
use Rattle.jr_sync.specs.Relations.{Agree, is_ordered}
use Rattle.jr_flow.specs.Edges.{EdgeOf}
use Rattle.jr_flow.specs.Paths as flow
use Rattle.jr_dependences.specs.Depends as row_of
use Rattle.jr_dependences.proofs.Mapped.{from_mapped}
use Rattle.jr_dependences.proofs.Leading.{same_item}
use Rattle.jr_runs.specs.Keys.{Keys}
use Rattle.jr_runs.specs.Rows.{Rows}
use Rattle.jr_cover.specs.Sites.{What, reads, writes, loads, enters, exits, creates, checks, calls, loops, Site}
use Rattle.jr_cover.specs.Sites as sites
use Rattle.jr_cover.specs.Covering.{site_at}
use Rattle.jr_cover.specs.Crossing.{IsStore}
use Rattle.jr_cover.specs.Dependences.{PathBetween, edge, onward, Access, access, access_of, IsWild, OneField, NotAllowed, Related, Stops, Depends}
use Rattle.jr_cfg.specs.Seen.{seen}
use Rattle.jr_effect.specs.Plain.{Same}

pub listed_either : {P Q R S T U : Type 0} → (P → R) → (Q → S) → (R → T) → (S → U) → (P ⊎ Q) → T ⊎ U
listed_either f g h k (inl p) = inl (h (f p))
listed_either f g h k (inr q) = inr (k (g q))

none_some : {X : Type 0} {x : X} → None ≡ Some x → ⊥
none_some e = cc

pub site_get : {S : Type 0} (l : List S) (i : ℕ) → site_at l i ≡ slice_get l i
site_get [] i = refl
site_get (s ∷ l) zero = refl
site_get (s ∷ l) (suc i) = site_get l i

-- ---- kinds

store_forth : (k : Kind) → IsStore k → IsTrue (is_store_kind k)
store_forth Load s = absurd s
store_forth Store s = refl
store_forth VolatileLoad s = absurd s
store_forth VolatileStore s = refl
store_forth Enter s = absurd s
store_forth Exit s = absurd s
store_forth Still s = absurd s

store_back : (k : Kind) → IsTrue (is_store_kind k) → IsStore k
store_back Load e = absurd (false≢true e)
store_back Store e = tt
store_back VolatileLoad e = absurd (false≢true e)
store_back VolatileStore e = tt
store_back Enter e = absurd (false≢true e)
store_back Exit e = absurd (false≢true e)
store_back Still e = absurd (false≢true e)

-- ---- what an access is, of both

either_forth : (k l : Kind) → (IsStore k ⊎ IsStore l) → IsTrue (is_store_kind k) ⊎ IsTrue (is_store_kind l)
either_forth k l (inl s) = inl (store_forth k s)
either_forth k l (inr s) = inr (store_forth l s)

either_back : (k l : Kind) → (IsTrue (is_store_kind k) ⊎ IsTrue (is_store_kind l)) → IsStore k ⊎ IsStore l
either_back k l (inl s) = inl (store_back k s)
either_back k l (inr s) = inr (store_back l s)

module _ {K : Keys} {F : Type 0} (key : K.field → F) where
  abbrev access_kind : Option (Access K) → Option Kind
  access_kind None = None
  access_kind (Some (access k f)) = Some k

  abbrev access_field : Option (Access K) → Option F
  access_field None = None
  access_field (Some (access k f)) = option_map key f

  abbrev access_stores : Option (Access K) → Bool
  access_stores None = false
  access_stores (Some (access k f)) = is_store_kind k

  abbrev InConflict : (x y : Option (Access K)) → Type 0
  InConflict x y = Agree Same (access_field x) (access_field y) × (IsTrue (access_stores x) ⊎ IsTrue (access_stores y))

  one_forth : (x y : Option (Access K)) → OneField x y → InConflict x y
  one_forth x y (k, l, f, is, there, store) =
      subst (λ (o : Option (Access K)). InConflict o y) (sym is)
      (subst (λ (o : Option (Access K)). InConflict (Some (access k (Some f))) o) (sym there) (refl, either_forth k l store))

  one_back : ((f g : K.field) → key f ≡ key g → f ≡ g) → (x y : Option (Access K)) → InConflict x y → OneField x y
  one_back one None y (a, s) = absurd a
  one_back one (Some (access k None)) y (a, s) = absurd a
  one_back one (Some (access k (Some f))) None (a, s) = absurd a
  one_back one (Some (access k (Some f))) (Some (access l None)) (a, s) = absurd a
  one_back one (Some (access k (Some f))) (Some (access l (Some g))) (a, s) =
      (k, l, f, refl, ap (λ h. Some (access l (Some h))) (sym (one f g a)), either_back k l s)

  abbrev Kept : (x y : Option (Access K)) → Type 0
  Kept x y = Agree (λ k l. is_allowed k l ≡ false) (access_kind x) (access_kind y)

  kept_forth : (x y : Option (Access K)) → NotAllowed x y → Kept x y
  kept_forth x y (k, l, f, g, is, there, never) =
      subst (λ (o : Option (Access K)). Kept o y) (sym is) (subst (λ (o : Option (Access K)). Kept (Some (access k f)) o) (sym there) never)

  kept_back : (x y : Option (Access K)) → Kept x y → NotAllowed x y
  kept_back None y a = absurd a
  kept_back (Some (access k f)) None a = absurd a
  kept_back (Some (access k f)) (Some (access l g)) a = (k, l, f, g, refl, refl, a)

-- ---- locals

abbrev read_in : {K : Keys} → What K → Option ℕ
read_in (reads n) = Some n
read_in (writes n) = None
read_in (loads f) = None
read_in (sites.stores f) = None
read_in enters = None
read_in exits = None
read_in creates = None
read_in checks = None
read_in calls = None
read_in loops = None

abbrev written_in : {K : Keys} → What K → Option ℕ
written_in (reads n) = None
written_in (writes n) = Some n
written_in (loads f) = None
written_in (sites.stores f) = None
written_in enters = None
written_in exits = None
written_in creates = None
written_in checks = None
written_in calls = None
written_in loops = None

read_is : {K : Keys} (a : What K) (m : ℕ) → read_in a ≡ Some m → a ≡ reads m
read_is (reads n) m e = ap reads (same_item n m e)
read_is (writes n) m e = absurd (none_some e)
read_is (loads f) m e = absurd (none_some e)
read_is (sites.stores f) m e = absurd (none_some e)
read_is enters m e = absurd (none_some e)
read_is exits m e = absurd (none_some e)
read_is creates m e = absurd (none_some e)
read_is checks m e = absurd (none_some e)
read_is calls m e = absurd (none_some e)
read_is loops m e = absurd (none_some e)

written_is : {K : Keys} (a : What K) (m : ℕ) → written_in a ≡ Some m → a ≡ writes m
written_is (reads n) m e = absurd (none_some e)
written_is (writes n) m e = ap writes (same_item n m e)
written_is (loads f) m e = absurd (none_some e)
written_is (sites.stores f) m e = absurd (none_some e)
written_is enters m e = absurd (none_some e)
written_is exits m e = absurd (none_some e)
written_is creates m e = absurd (none_some e)
written_is checks m e = absurd (none_some e)
written_is calls m e = absurd (none_some e)
written_is loops m e = absurd (none_some e)

module _ {L : Type 0} (local : ℕ → L) (one : (m n : ℕ) → local m ≡ local n → m ≡ n) where
  agree_locals : (x y : Option ℕ) → Agree Same (option_map local x) (option_map local y) → (n : ℕ) × (x ≡ Some n) × (y ≡ Some n)
  agree_locals None y a = absurd a
  agree_locals (Some m) None a = absurd a
  agree_locals (Some m) (Some n) a = (m, refl, ap (λ k. Some k) (sym (one m n a)))

-- ---- the two relations

module _ {K : Keys} (R : Rows K) {F L : Type 0} (key : K.field → F) (local : ℕ → L) where
  abbrev pub look : What K → row.Site F L
  look = seen R.field_kind key local

  kind_seen : (a : What K) → kind_of (look a) ≡ access_kind key (access_of R a)
  kind_seen (reads n) = refl
  kind_seen (writes n) = refl
  kind_seen (loads f) = refl
  kind_seen (sites.stores f) = refl
  kind_seen enters = refl
  kind_seen exits = refl
  kind_seen creates = refl
  kind_seen checks = refl
  kind_seen calls = refl
  kind_seen loops = refl

  field_seen : (a : What K) → field_of (look a) ≡ access_field key (access_of R a)
  field_seen (reads n) = refl
  field_seen (writes n) = refl
  field_seen (loads f) = refl
  field_seen (sites.stores f) = refl
  field_seen enters = refl
  field_seen exits = refl
  field_seen creates = refl
  field_seen checks = refl
  field_seen calls = refl
  field_seen loops = refl

  stores_seen : (a : What K) → is_store (look a) ≡ access_stores key (access_of R a)
  stores_seen (reads n) = refl
  stores_seen (writes n) = refl
  stores_seen (loads f) = refl
  stores_seen (sites.stores f) = refl
  stores_seen enters = refl
  stores_seen exits = refl
  stores_seen creates = refl
  stores_seen checks = refl
  stores_seen calls = refl
  stores_seen loops = refl

  read_seen : (a : What K) → read_of (look a) ≡ option_map local (read_in a)
  read_seen (reads n) = refl
  read_seen (writes n) = refl
  read_seen (loads f) = refl
  read_seen (sites.stores f) = refl
  read_seen enters = refl
  read_seen exits = refl
  read_seen creates = refl
  read_seen checks = refl
  read_seen calls = refl
  read_seen loops = refl

  written_seen : (a : What K) → written_of (look a) ≡ option_map local (written_in a)
  written_seen (reads n) = refl
  written_seen (writes n) = refl
  written_seen (loads f) = refl
  written_seen (sites.stores f) = refl
  written_seen enters = refl
  written_seen exits = refl
  written_seen creates = refl
  written_seen checks = refl
  written_seen calls = refl
  written_seen loops = refl

  wild_forth : (a : What K) → IsWild a → IsTrue (is_wild (look a))
  wild_forth (reads n) h = absurd h
  wild_forth (writes n) h = absurd h
  wild_forth (loads f) h = absurd h
  wild_forth (sites.stores f) h = absurd h
  wild_forth enters h = absurd h
  wild_forth exits h = absurd h
  wild_forth creates h = absurd h
  wild_forth checks h = refl
  wild_forth calls h = refl
  wild_forth loops h = refl

  wild_back : (a : What K) → IsTrue (is_wild (look a)) → IsWild a
  wild_back (reads n) h = absurd (false≢true h)
  wild_back (writes n) h = absurd (false≢true h)
  wild_back (loads f) h = absurd (false≢true h)
  wild_back (sites.stores f) h = absurd (false≢true h)
  wild_back enters h = absurd (false≢true h)
  wild_back exits h = absurd (false≢true h)
  wild_back creates h = absurd (false≢true h)
  wild_back checks h = tt
  wild_back calls h = tt
  wild_back loops h = tt

  access_forth : (a : What K) → (x : Access K) × (access_of R a ≡ Some x) → IsTrue (is_access (look a))
  access_forth (reads n) h = absurd (none_some h.1)
  access_forth (writes n) h = absurd (none_some h.1)
  access_forth (loads f) h = refl
  access_forth (sites.stores f) h = refl
  access_forth enters h = refl
  access_forth exits h = refl
  access_forth creates h = refl
  access_forth checks h = absurd (none_some h.1)
  access_forth calls h = absurd (none_some h.1)
  access_forth loops h = absurd (none_some h.1)

  access_back : (a : What K) → IsTrue (is_access (look a)) → (x : Access K) × (access_of R a ≡ Some x)
  access_back (reads n) h = absurd (false≢true h)
  access_back (writes n) h = absurd (false≢true h)
  access_back (loads f) h = (_, refl)
  access_back (sites.stores f) h = (_, refl)
  access_back enters h = (_, refl)
  access_back exits h = (_, refl)
  access_back creates h = (_, refl)
  access_back checks h = absurd (false≢true h)
  access_back calls h = absurd (false≢true h)
  access_back loops h = absurd (false≢true h)

  order_forth : (a b : What K) → Related R Order a b → IsTrue (is_ordered (look a) (look b))
  order_forth a b h = by h
    where
      by : Related R Order a b → IsTrue (is_ordered (look a) (look b))
      by (inl (w, v)) =
          or_left (is_wild (look a) && (is_wild (look b) || is_access (look b))) (is_access (look a) && is_wild (look b))
          (and_from (is_wild (look a)) (is_wild (look b) || is_access (look b)) (wild_forth a w) (or_left (is_wild (look b)) (is_access (look b)) (wild_forth b v)))
      by (inr (inl (w, x))) =
          or_left (is_wild (look a) && (is_wild (look b) || is_access (look b))) (is_access (look a) && is_wild (look b))
          (and_from (is_wild (look a)) (is_wild (look b) || is_access (look b)) (wild_forth a w) (or_right (is_wild (look b)) (is_access (look b)) (access_forth b x)))
      by (inr (inr (x, v))) =
          or_right (is_wild (look a) && (is_wild (look b) || is_access (look b))) (is_access (look a) && is_wild (look b))
          (and_from (is_access (look a)) (is_wild (look b)) (access_forth a x) (wild_forth b v))

  order_back : (a b : What K) → IsTrue (is_ordered (look a) (look b)) → Related R Order a b
  order_back a b e = by (or_cases (is_wild (look a) && (is_wild (look b) || is_access (look b))) (is_access (look a) && is_wild (look b)) e)
    where
      second : IsTrue (is_wild (look a)) → (IsTrue (is_wild (look b)) ⊎ IsTrue (is_access (look b))) → Related R Order a b
      second w (inl v) = inl (wild_back a w, wild_back b v)
      second w (inr x) = inr (inl (wild_back a w, access_back b x))

      by : (IsTrue (is_wild (look a) && (is_wild (look b) || is_access (look b))) ⊎ IsTrue (is_access (look a) && is_wild (look b))) → Related R Order a b
      by (inl t) = let p = and_parts (is_wild (look a)) (is_wild (look b) || is_access (look b)) t in second p.0 (or_cases (is_wild (look b)) (is_access (look b)) p.1)
      by (inr t) = let p = and_parts (is_access (look a)) (is_wild (look b)) t in inr (inr (access_back a p.0, wild_back b p.1))

  conflict_forth : (a b : What K) → InConflict key (access_of R a) (access_of R b) → related.AreInConflict Same (look a) (look b)
  conflict_forth a b (agree, store) =
      (subst (λ (o : Option F). Agree Same o (field_of (look b))) (sym (field_seen a)) (subst (λ (o : Option F). Agree Same (access_field key (access_of R a)) o) (sym (field_seen b)) agree), by store)
    where
      by : (IsTrue (access_stores key (access_of R a)) ⊎ IsTrue (access_stores key (access_of R b))) → IsTrue (is_store (look a)) ⊎ IsTrue (is_store (look b))
      by (inl s) = inl (stores_seen a ∙ s)
      by (inr s) = inr (stores_seen b ∙ s)

  conflict_back : (a b : What K) → related.AreInConflict Same (look a) (look b) → InConflict key (access_of R a) (access_of R b)
  conflict_back a b (agree, store) =
      (subst (λ (o : Option F). Agree Same o (access_field key (access_of R b))) (field_seen a) (subst (λ (o : Option F). Agree Same (field_of (look a)) o) (field_seen b) agree), by store)
    where
      by : (IsTrue (is_store (look a)) ⊎ IsTrue (is_store (look b))) → IsTrue (access_stores key (access_of R a)) ⊎ IsTrue (access_stores key (access_of R b))
      by (inl s) = inl (sym (stores_seen a) ∙ s)
      by (inr s) = inr (sym (stores_seen b) ∙ s)

  sync_forth : (a b : What K) → Kept key (access_of R a) (access_of R b) → related.AreKept (look a) (look b)
  sync_forth a b agree =
      subst (λ (o : Option Kind). Agree (λ k l. is_allowed k l ≡ false) o (kind_of (look b))) (sym (kind_seen a))
      (subst (λ (o : Option Kind). Agree (λ k l. is_allowed k l ≡ false) (access_kind key (access_of R a)) o) (sym (kind_seen b)) agree)

  sync_back : (a b : What K) → related.AreKept (look a) (look b) → Kept key (access_of R a) (access_of R b)
  sync_back a b agree =
      subst (λ (o : Option Kind). Agree (λ k l. is_allowed k l ≡ false) o (access_kind key (access_of R b))) (kind_seen a)
      (subst (λ (o : Option Kind). Agree (λ k l. is_allowed k l ≡ false) (kind_of (look a)) o) (kind_seen b) agree)

  module _ (one_key : (f g : K.field) → key f ≡ key g → f ≡ g) (one_local : (m n : ℕ) → local m ≡ local n → m ≡ n) where
    locals_back : (x y : Option L) (u v : Option ℕ) → x ≡ option_map local u → y ≡ option_map local v → Agree Same x y → (n : ℕ) × (u ≡ Some n) × (v ≡ Some n)
    locals_back x y u v is there agree =
        agree_locals local one_local u v (subst (λ (o : Option L). Agree Same o (option_map local v)) is (subst (λ (o : Option L). Agree Same x o) there agree))

    pub related_tied : (kind : DepKind) (a b : What K) → (Related R kind a b ↔ related.Related Same Same kind (look a) (look b))
    related_tied Order a b = (order_forth a b, order_back a b)
    related_tied Field a b = (λ h. conflict_forth a b (one_forth key (access_of R a) (access_of R b) h), λ h. one_back key one_key (access_of R a) (access_of R b) (conflict_back a b h))
    related_tied Sync a b = (λ h. sync_forth a b (kept_forth key (access_of R a) (access_of R b) h), λ h. kept_back key (access_of R a) (access_of R b) (sync_back a b h))
    related_tied Flow a b = (
      λ h. subst (λ (x : What K). Agree Same (written_of (look x)) (read_of (look b))) (sym h.1) (subst (λ (y : What K). Agree Same (Some (local h.0)) (read_of (look y))) (sym h.2) refl),
      λ h. let p = locals_back (written_of (look a)) (read_of (look b)) (written_in a) (read_in b) (written_seen a) (read_seen b) h in (p.0, written_is a p.0 p.1, read_is b p.0 p.2),
    )
    related_tied Anti a b = (
      λ h. subst (λ (x : What K). Agree Same (read_of (look x)) (written_of (look b))) (sym h.1) (subst (λ (y : What K). Agree Same (Some (local h.0)) (written_of (look y))) (sym h.2) refl),
      λ h. let p = locals_back (read_of (look a)) (written_of (look b)) (read_in a) (written_in b) (read_seen a) (written_seen b) h in (p.0, read_is a p.0 p.1, written_is b p.0 p.2),
    )
    related_tied Output a b = (
      λ h. subst (λ (x : What K). Agree Same (written_of (look x)) (written_of (look b))) (sym h.1) (subst (λ (y : What K). Agree Same (Some (local h.0)) (written_of (look y))) (sym h.2) refl),
      λ h. let p = locals_back (written_of (look a)) (written_of (look b)) (written_in a) (written_in b) (written_seen a) (written_seen b) h in (p.0, written_is a p.0 p.1, written_is b p.0 p.2),
    )

    -- ---- dependences

    module _ (all : List (Site K)) where
      abbrev view : Site K → row.Site F L
      view s = look s.what

      item_forth : (i : ℕ) (a : Site K) → site_at all i ≡ Some a → slice_get (map view all) i ≡ Some (view a)
      item_forth i a e = slice_get-map view all i ∙ ap (option_map view) (sym (site_get all i) ∙ e)

      item_back : (i : ℕ) (t : row.Site F L) → slice_get (map view all) i ≡ Some t → (a : Site K) × (site_at all i ≡ Some a) × (view a ≡ t)
      item_back i t e =
          let p = from_mapped view (slice_get all i) t (sym (slice_get-map view all i) ∙ e) in
          (p.0, site_get all i ∙ p.1, p.2)

      again_forth : (m i : ℕ) → Stops all Flow (writes m) i → row_of.WritesAgain Same Same (map view all) (look (writes m)) i
      again_forth m i (p, at) = (look (writes m), item_forth i (record { at = p; what = writes m }) at, refl)

      again_back : (m i : ℕ) → row_of.WritesAgain Same Same (map view all) (look (writes m)) i → Stops all Flow (writes m) i
      again_back m i (t, at, agree) =
          let p = item_back i t at in
          let near : Agree Same (Some (local m)) (written_of (view p.0)) = subst (λ (u : row.Site F L). Agree Same (Some (local m)) (written_of u)) (sym p.2) agree in
          let q = locals_back (Some (local m)) (written_of (view p.0)) (Some m) (written_in p.0.what) refl (written_seen p.0.what) near in
          let is : p.0.what ≡ writes m = written_is p.0.what q.0 q.2 ∙ ap writes (sym (same_item m q.0 q.1)) in
          (p.0.at, p.1 ∙ (λ j. Some (record { at = p.0.at; what = is j })))

      flow_stops : (w : What K) (i : ℕ) → (Stops all Flow w i ↔ row_of.WritesAgain Same Same (map view all) (look w) i)
      flow_stops (reads n) i = (λ e. absurd e, λ h. absurd h.2)
      flow_stops (writes n) i = (again_forth n i, again_back n i)
      flow_stops (loads f) i = (λ e. absurd e, λ h. absurd h.2)
      flow_stops (sites.stores f) i = (λ e. absurd e, λ h. absurd h.2)
      flow_stops enters i = (λ e. absurd e, λ h. absurd h.2)
      flow_stops exits i = (λ e. absurd e, λ h. absurd h.2)
      flow_stops creates i = (λ e. absurd e, λ h. absurd h.2)
      flow_stops checks i = (λ e. absurd e, λ h. absurd h.2)
      flow_stops calls i = (λ e. absurd e, λ h. absurd h.2)
      flow_stops loops i = (λ e. absurd e, λ h. absurd h.2)

      stops_tied : (kind : DepKind) (w : What K) (i : ℕ) → (Stops all kind w i ↔ row_of.Stops Same Same (map view all) kind (look w) i)
      stops_tied Flow w i = flow_stops w i
      stops_tied Order w i = (λ e. e, λ e. e)
      stops_tied Field w i = (λ e. e, λ e. e)
      stops_tied Sync w i = (λ e. e, λ e. e)
      stops_tied Anti w i = (λ e. e, λ e. e)
      stops_tied Output w i = (λ e. e, λ e. e)

      module _ (E : ℕ → ℕ → Type 0) (edges : List (ℕ × ℕ)) (same : (i j : ℕ) → (EdgeOf edges i j ↔ E i j)) where
        path_forth : (S T : ℕ → Type 0) → ((n : ℕ) → (S n ↔ T n)) → (i j : ℕ) → PathBetween E S i j → flow.PathBetween (EdgeOf edges) T i j
        path_forth S T stops i j (edge a b e) = flow.edge a b ((same a b).1 e)
        path_forth S T stops i j (onward a b c e free rest) = flow.onward a b c ((same a b).1 e) (λ t. free ((stops b).1 t)) (path_forth S T stops b c rest)

        path_back : (S T : ℕ → Type 0) → ((n : ℕ) → (S n ↔ T n)) → (i j : ℕ) → flow.PathBetween (EdgeOf edges) T i j → PathBetween E S i j
        path_back S T stops i j (flow.edge a b e) = edge a b ((same a b).0 e)
        path_back S T stops i j (flow.onward a b c e free rest) = onward a b c ((same a b).0 e) (λ t. free ((stops b).0 t)) (path_back S T stops b c rest)

        pub depends_tied : (kind : DepKind) (i j : ℕ) → (Depends R all E kind i j ↔ row_of.Depends Same Same (map view all) edges kind i j)
        depends_tied kind i j = (forth, back)
          where
            forth : Depends R all E kind i j → row_of.Depends Same Same (map view all) edges kind i j
            forth (a, b, is, there, tie, path) = (
              view a,
              view b,
              item_forth i a is,
              item_forth j b there,
              (related_tied kind a.what b.what).0 tie,
              path_forth (λ n. Stops all kind a.what n) (row_of.Stops Same Same (map view all) kind (view a)) (stops_tied kind a.what) i j path,
            )

            back : row_of.Depends Same Same (map view all) edges kind i j → Depends R all E kind i j
            back (u, v, is, there, tie, path) =
                let p = item_back i u is in
                let q = item_back j v there in
                let near : related.Related Same Same kind (view p.0) (view q.0) = subst (λ (x : row.Site F L). related.Related Same Same kind x (view q.0)) (sym p.2) (subst (λ (y : row.Site F L). related.Related Same Same kind u y) (sym q.2) tie) in
                let way : flow.PathBetween (EdgeOf edges) (row_of.Stops Same Same (map view all) kind (view p.0)) i j =
                subst (λ (x : row.Site F L). flow.PathBetween (EdgeOf edges) (row_of.Stops Same Same (map view all) kind x) i j) (sym p.2) path in (
                  p.0,
                  q.0,
                  p.1,
                  q.1,
                  (related_tied kind p.0.what q.0.what).1 near,
                  path_back (λ n. Stops all kind p.0.what n) (row_of.Stops Same Same (map view all) kind (view p.0)) (stops_tied kind p.0.what) i j way,
                )
