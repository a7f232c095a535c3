-- The dependences along listed edges; that there are no more by cases on kinds and sites.
use Rattle.std.proofs.Common.{◌≡◌, ◌⊎◌, ℕ, zero, suc, true, false, [], ◌∷◌, Option, Some, None, refl, sym, ap, subst, inl, inr, ⊎_elim, arith}
use Rattle.jr_sync.specs.declared.kinds.Kind.{Kind}
use Rattle.jr_sync.specs.declared.kinds.Kind.TheVariants.{Load, Store, VolatileLoad, Enter}
use Rattle.jr_sync.specs.declared.sites.DepKind.{DepKind}
use Rattle.jr_sync.specs.declared.sites.DepKind.TheVariants.{Order, Field, Sync, Flow, Anti, Output}
use Rattle.jr_sync.specs.Grid.{is_allowed}
use Rattle.jr_cover.specs.Ways.{Way, sites_of, Edge}
use Rattle.jr_cover.specs.Sites.{What, reads, writes, loads, stores, loops, Site}
use Rattle.jr_cover.specs.Covering.{site_at}
use Rattle.jr_cover.specs.Dependences.{PathBetween, edge, onward, Access, access, Related}
use Rattle.jr_cover.proofs.FlowLaws.{In, flow_is}
use Rattle.jr_cover_cases.specs.Samples.{K, rows, at, edges}
use Rattle.jr_cover_cases.specs.DependenceCases.{two_loads, DependsIn, TwoLoads, endless, Endless}

abbrev pair : ℕ → ℕ → ℕ × ℕ
pair i j = (i, j)

listed : (w : Way (Site K)) (i j : ℕ) → In (pair i j) (edges w) → Edge 0 w i j
listed w i j p = ((flow_is 0 w).edges i j).to p

some_is : {T : Type 0} (x y : T) → Some x ≡ Some y → x ≡ y
some_is x y e = cc

nothing_is : {T : Type 0} {B : Type 0} (x : T) → None ≡ Some x → B
nothing_is x e = absurd (no x e)
  where
    no : {U : Type 0} (y : U) → None ≡ Some y → ⊥
    no y d = cc

-- ---- accesses

abbrev field_number : Option (Access K) → ℕ
field_number None = 0
field_number (Some (access kind None)) = 0
field_number (Some (access kind (Some f))) = f

abbrev kind_in : Option (Access K) → Kind
kind_in None = Enter
kind_in (Some (access kind field)) = kind

-- ---- locals

abbrev doing : What K → What K → Type 0
doing w v = w ≡ v

loads_not_writes : (f n : ℕ) → doing (loads f) (writes n) → ⊥
loads_not_writes f n e = cc

loads_not_reads : (f n : ℕ) → doing (loads f) (reads n) → ⊥
loads_not_reads f n e = cc

stores_not_writes : (f n : ℕ) → doing (stores f) (writes n) → ⊥
stores_not_writes f n e = cc

stores_not_reads : (f n : ℕ) → doing (stores f) (reads n) → ⊥
stores_not_reads f n e = cc

loops_not_writes : (n : ℕ) → doing loops (writes n) → ⊥
loops_not_writes n e = cc

loops_not_reads : (n : ℕ) → doing loops (reads n) → ⊥
loops_not_reads n e = cc

-- ---- two loads

one_edge : (i j : ℕ) → Edge 0 two_loads i j → (i ≡ 0) × (j ≡ 1)
one_edge i j e = from (((flow_is 0 two_loads).edges i j).back e)
  where
    from : In (pair i j) (pair 0 1 ∷ []) → (i ≡ 0) × (j ≡ 1)
    from (inl p) = (ap (λ (q : ℕ × ℕ). q.0) p, ap (λ (q : ℕ × ℕ). q.1) p)
    from (inr p) = absurd p

module _ (Stops : ℕ → Type 0) where
  one_path : {i j : ℕ} → PathBetween (Edge 0 two_loads) Stops i j → (i ≡ 0) × (j ≡ 1)
  one_path (edge a b e) = one_edge a b e
  one_path (onward a b c e n p) =
      let q = one_edge a b e in
      let r = one_path p in
      let s : b ≡ 1 = q.1 in
      let t : b ≡ 0 = r.0 in
      absurd (omega (arith, s, t))

only_sync : (kind : DepKind) → Related rows kind (loads 21) (loads 20) → kind ≡ Sync
only_sync Order h = ⊎_elim (λ x. absurd x.0) (λ y. ⊎_elim (λ x. absurd x.0) (λ x. absurd x.1) y) h
only_sync Field h =
    let f : 21 ≡ h.2 = ap (λ o. field_number o) h.3 in
    let g : 20 ≡ h.2 = ap (λ o. field_number o) h.4 in
    absurd (omega (arith, f, g))
only_sync Sync h = refl
only_sync Flow h = absurd (loads_not_writes 21 h.0 h.1)
only_sync Anti h = absurd (loads_not_reads 21 h.0 h.1)
only_sync Output h = absurd (loads_not_writes 21 h.0 h.1)

no_more_loads : (kind : DepKind) (i j : ℕ) → DependsIn two_loads kind i j → (kind ≡ Sync) × (i ≡ 0) × (j ≡ 1)
no_more_loads kind i j d =
    let p = one_path _ d.5 in
    let a : at 49 (loads 21) ≡ d.0 = some_is (at 49 (loads 21)) d.0 (subst (λ n. site_at (sites_of two_loads) n ≡ Some d.0) p.0 d.2) in
    let b : at 56 (loads 20) ≡ d.1 = some_is (at 56 (loads 20)) d.1 (subst (λ n. site_at (sites_of two_loads) n ≡ Some d.1) p.1 d.3) in
    (only_sync kind (subst (λ s. Related rows kind s.what (loads 20)) (sym a) (subst (λ s. Related rows kind d.0.what s.what) (sym b) d.4)), p.0, p.1)

pub two_loads_depend : TwoLoads
two_loads_depend = record {
  sites_are = refl;
  sync = (at 49 (loads 21), at 56 (loads 20), refl, refl, (VolatileLoad, Load, Some 21, Some 20, refl, refl, refl), edge 0 1 (listed two_loads 0 1 (inl refl)));
  no_more = no_more_loads;
}

-- ---- an endless loop

into_body : Edge 0 endless 0 1
into_body = listed endless 0 1 (inl refl)

back_to_loop : Edge 0 endless 1 0
back_to_loop = listed endless 1 0 (inr (inl refl))

-- of the kinds of two sites, the loop's and the store's
loop_related : (kind : DepKind) (b : What K) → Related rows kind loops b → kind ≡ Order
loop_related Order b h = refl
loop_related Field b h = nothing_is (access h.0 (Some h.2)) h.3
loop_related Sync b h = nothing_is (access h.0 h.2) h.4
loop_related Flow b h = absurd (loops_not_writes h.0 h.1)
loop_related Anti b h = absurd (loops_not_reads h.0 h.1)
loop_related Output b h = absurd (loops_not_writes h.0 h.1)

store_loop_related : (kind : DepKind) → Related rows kind (stores 35) loops → kind ≡ Order
store_loop_related Order h = refl
store_loop_related Field h = nothing_is (access h.1 (Some h.2)) h.4
store_loop_related Sync h = nothing_is (access h.1 h.3) h.5
store_loop_related Flow h = absurd (stores_not_writes 35 h.0 h.1)
store_loop_related Anti h = absurd (stores_not_reads 35 h.0 h.1)
store_loop_related Output h = absurd (stores_not_writes 35 h.0 h.1)

store_related : (kind : DepKind) → Related rows kind (stores 35) (stores 35) → kind ≡ Field
store_related Order h = ⊎_elim (λ x. absurd x.0) (λ y. ⊎_elim (λ x. absurd x.0) (λ x. absurd x.1) y) h
store_related Field h = refl
store_related Sync h =
    let k : Store ≡ h.0 = ap (λ o. kind_in o) h.4 in
    let l : Store ≡ h.1 = ap (λ o. kind_in o) h.5 in
    absurd (no (subst (λ x. is_allowed x Store ≡ false) (sym k) (subst (λ x. is_allowed h.0 x ≡ false) (sym l) h.6)))
  where
    no : true ≡ false → ⊥
    no e = cc
store_related Flow h = absurd (stores_not_writes 35 h.0 h.1)
store_related Anti h = absurd (stores_not_reads 35 h.0 h.1)
store_related Output h = absurd (stores_not_writes 35 h.0 h.1)

abbrev OneOfThem : DepKind → ℕ → ℕ → Type 0
OneOfThem kind i j = ((kind ≡ Order) × ((i ≡ 0) ⊎ (j ≡ 0))) ⊎ ((kind ≡ Field) × (i ≡ 1) × (j ≡ 1))

abbrev SiteIs : ℕ → Site K → Type 0
SiteIs i a = site_at (at 23 loops ∷ at 35 (stores 35) ∷ []) i ≡ Some a

from_loop : (kind : DepKind) (j : ℕ) (a b : Site K) → SiteIs zero a → Related rows kind a.what b.what → OneOfThem kind zero j
from_loop kind j a b e h = inl (loop_related kind b.what (subst (λ s. Related rows kind s.what b.what) (sym (some_is (at 23 loops) a e)) h), inl refl)

from_store : (kind : DepKind) (j : ℕ) (a b : Site K) → SiteIs (suc zero) a → SiteIs j b → Related rows kind a.what b.what → OneOfThem kind (suc zero) j
from_store kind zero a b e f h =
    inl (store_loop_related kind (subst (λ s. Related rows kind s.what loops) (sym (some_is (at 35 (stores 35)) a e)) (subst (λ s. Related rows kind a.what s.what) (sym (some_is (at 23 loops) b f)) h)), inr refl)
from_store kind (suc zero) a b e f h =
    inr (store_related kind (subst (λ s. Related rows kind s.what (stores 35)) (sym (some_is (at 35 (stores 35)) a e)) (subst (λ s. Related rows kind a.what s.what) (sym (some_is (at 35 (stores 35)) b f)) h)), refl, refl)
from_store kind (suc (suc j)) a b e f h = nothing_is b f

from_each : (kind : DepKind) (i j : ℕ) (a b : Site K) → SiteIs i a → SiteIs j b → Related rows kind a.what b.what → OneOfThem kind i j
from_each kind zero j a b e f h = from_loop kind j a b e h
from_each kind (suc zero) j a b e f h = from_store kind j a b e f h
from_each kind (suc (suc i)) j a b e f h = nothing_is a e

pub endless_depends : Endless
endless_depends = record {
  sites_are = refl;
  edges_are = refl;
  loop_with_itself = (at 23 loops, at 23 loops, refl, refl, inl (tt, tt), onward 0 1 0 into_body (λ s. s) (edge 1 0 back_to_loop));
  loop_with_store = (at 23 loops, at 35 (stores 35), refl, refl, inr (inl (tt, (access Store (Some 35), refl))), edge 0 1 into_body);
  store_with_loop = (at 35 (stores 35), at 23 loops, refl, refl, inr (inr ((access Store (Some 35), refl), tt)), edge 1 0 back_to_loop);
  store_with_itself = (at 35 (stores 35), at 35 (stores 35), refl, refl, (Store, Store, 35, refl, refl, inl tt), onward 1 0 1 back_to_loop (λ s. s) (edge 0 1 into_body));
  no_more = λ kind i j d. from_each kind i j d.0 d.1 d.2 d.3 d.4;
}
