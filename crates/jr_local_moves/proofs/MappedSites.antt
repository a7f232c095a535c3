-- Where sites are seen in another way, and are related as before, the same pair of two pieces may
-- not change places.
use Rattle.std.proofs.Common.{◌≡◌, ◌⊎◌, inl, inr, ℕ, ◌<◌, List, map, Option, Some, None, sym, ap, subst, ◌∙◌}
use Rattle.std.specs.Prelude.{◌↔◌, slice_get, option_map}
use Rattle.std.proofs.lemmas.Option.{slice_get-map}
use Rattle.jr_sync.specs.declared.sites.Site.{Site}
use Rattle.jr_sync.specs.declared.sites.DepKind.{DepKind}
use Rattle.jr_sync.specs.declared.sites.DepKind.TheVariants.{Order, Field, Sync, Flow, Anti, Output}
use Rattle.jr_sync.specs.Relations.{Related}
use Rattle.jr_sync.specs.Crossing.{IsCrossing}
use Rattle.jr_dependences.proofs.Mapped.{from_mapped}

-- ---- what a test finds of two sites, by the relations alone

module _ {K L : Type 0} (F : K → K → Type 0) (G : L → L → Type 0) where
  abbrev Wild : DepKind → Site K L → Site K L → Type 0
  Wild kind a b = (kind ≡ Order) × Related F G Order a b

  abbrev Accesses : DepKind → Site K L → Site K L → Type 0
  Accesses kind a b = ((kind ≡ Field) × Related F G Field a b)
      ⊎ ((kind ≡ Sync) × (Related F G Field a b → ⊥) × Related F G Sync a b)

  abbrev Locals : DepKind → Site K L → Site K L → Type 0
  Locals kind a b = ((kind ≡ Flow) × Related F G Flow a b)
      ⊎ ((kind ≡ Anti) × Related F G Anti a b)
      ⊎ ((kind ≡ Output) × Related F G Output a b)

-- the test finds that kind at places of two pieces
module _ {S : Type 0} (R : DepKind → S → S → Type 0) (xs ys : List S) where
  abbrev At : (i j : ℕ) → DepKind → Type 0
  At i j kind = (a b : S) × (slice_get xs i ≡ Some a) × (slice_get ys j ≡ Some b) × R kind a b

  abbrev Nowhere : Type 0
  Nowhere = (i j : ℕ) (kind : DepKind) → At i j kind → ⊥

  abbrev FirstAt : (i j : ℕ) → DepKind → Type 0
  FirstAt i j kind = At i j kind × ((m n : ℕ) (other : DepKind) → At m n other → ((m < i) ⊎ ((m ≡ i) × (n < j))) → ⊥)

module _ {S T : Type 0} (f : S → T) (R : DepKind → S → S → Type 0) (Q : DepKind → T → T → Type 0)
    (forth : (kind : DepKind) (a b : S) → R kind a b → Q kind (f a) (f b)) (back : (kind : DepKind) (a b : S) → Q kind (f a) (f b) → R kind a b) (xs ys : List S) where
  at_forth : (i j : ℕ) (kind : DepKind) → At R xs ys i j kind → At Q (map f xs) (map f ys) i j kind
  at_forth i j kind (a, b, is, there, h) = (f a, f b, slice_get-map f xs i ∙ ap (option_map f) is, slice_get-map f ys j ∙ ap (option_map f) there, forth kind a b h)

  at_back : (i j : ℕ) (kind : DepKind) → At Q (map f xs) (map f ys) i j kind → At R xs ys i j kind
  at_back i j kind (u, v, is, there, h) =
      let p = from_mapped f (slice_get xs i) u (sym (slice_get-map f xs i) ∙ is) in
      let q = from_mapped f (slice_get ys j) v (sym (slice_get-map f ys j) ∙ there) in
      (p.0, q.0, p.1, q.1, back kind p.0 q.0 (subst (λ (x : T). Q kind x (f q.0)) (sym p.2) (subst (λ (y : T). Q kind u y) (sym q.2) h)))

  nowhere : Nowhere R xs ys → Nowhere Q (map f xs) (map f ys)
  nowhere none = λ i j kind h. none i j kind (at_back i j kind h)

  first_at : (i j : ℕ) (kind : DepKind) → FirstAt R xs ys i j kind → FirstAt Q (map f xs) (map f ys) i j kind
  first_at i j kind (there, first) = (at_forth i j kind there, λ m n other h less. first m n other (at_back m n other h) less)

-- ---- sites

module _ {K L M N : Type 0} (F : K → K → Type 0) (G : L → L → Type 0) (P : M → M → Type 0) (Q : N → N → Type 0) (f : Site K L → Site M N)
    (same : (kind : DepKind) (a b : Site K L) → (Related F G kind a b ↔ Related P Q kind (f a) (f b))) where
  wild_forth : (kind : DepKind) (a b : Site K L) → Wild F G kind a b → Wild P Q kind (f a) (f b)
  wild_forth kind a b (is, h) = (is, (same Order a b).0 h)

  wild_back : (kind : DepKind) (a b : Site K L) → Wild P Q kind (f a) (f b) → Wild F G kind a b
  wild_back kind a b (is, h) = (is, (same Order a b).1 h)

  accesses_forth : (kind : DepKind) (a b : Site K L) → Accesses F G kind a b → Accesses P Q kind (f a) (f b)
  accesses_forth kind a b (inl (is, h)) = inl (is, (same Field a b).0 h)
  accesses_forth kind a b (inr (is, never, h)) = inr (is, (λ k. never ((same Field a b).1 k)), (same Sync a b).0 h)

  accesses_back : (kind : DepKind) (a b : Site K L) → Accesses P Q kind (f a) (f b) → Accesses F G kind a b
  accesses_back kind a b (inl (is, h)) = inl (is, (same Field a b).1 h)
  accesses_back kind a b (inr (is, never, h)) = inr (is, (λ k. never ((same Field a b).0 k)), (same Sync a b).1 h)

  locals_forth : (kind : DepKind) (a b : Site K L) → Locals F G kind a b → Locals P Q kind (f a) (f b)
  locals_forth kind a b (inl (is, h)) = inl (is, (same Flow a b).0 h)
  locals_forth kind a b (inr (inl (is, h))) = inr (inl (is, (same Anti a b).0 h))
  locals_forth kind a b (inr (inr (is, h))) = inr (inr (is, (same Output a b).0 h))

  locals_back : (kind : DepKind) (a b : Site K L) → Locals P Q kind (f a) (f b) → Locals F G kind a b
  locals_back kind a b (inl (is, h)) = inl (is, (same Flow a b).1 h)
  locals_back kind a b (inr (inl (is, h))) = inr (inl (is, (same Anti a b).1 h))
  locals_back kind a b (inr (inr (is, h))) = inr (inr (is, (same Output a b).1 h))

  module _ (xs ys : List (Site K L)) where
    no_wild : Nowhere (Wild F G) xs ys → Nowhere (Wild P Q) (map f xs) (map f ys)
    no_wild = nowhere f (Wild F G) (Wild P Q) wild_forth wild_back xs ys

    no_accesses : Nowhere (Accesses F G) xs ys → Nowhere (Accesses P Q) (map f xs) (map f ys)
    no_accesses = nowhere f (Accesses F G) (Accesses P Q) accesses_forth accesses_back xs ys

    no_locals : Nowhere (Locals F G) xs ys → Nowhere (Locals P Q) (map f xs) (map f ys)
    no_locals = nowhere f (Locals F G) (Locals P Q) locals_forth locals_back xs ys

    pub crossing_mapped : (o : Option (ℕ × ℕ × DepKind)) → IsCrossing F G xs ys o → IsCrossing P Q (map f xs) (map f ys) o
    crossing_mapped None h = record { ordered = no_wild h.ordered; accesses = no_accesses h.accesses; locals = no_locals h.locals }
    crossing_mapped (Some p) (inl h) = inl (first_at f (Wild F G) (Wild P Q) wild_forth wild_back xs ys p.0 p.1 p.2 h)
    crossing_mapped (Some p) (inr (inl (wild, h))) = inr (inl (no_wild wild, first_at f (Accesses F G) (Accesses P Q) accesses_forth accesses_back xs ys p.0 p.1 p.2 h))
    crossing_mapped (Some p) (inr (inr (wild, accesses, h))) = inr (inr (no_wild wild, no_accesses accesses, first_at f (Locals F G) (Locals P Q) locals_forth locals_back xs ys p.0 p.1 p.2 h))
