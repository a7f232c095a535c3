-- Sites of one row depend on one another as those of another row, if they are related alike.
use Rattle.std.proofs.Common.{◌≡◌, ◌<◌, ℕ, suc, zero, List, [], ◌∷◌, ◌++◌, length, get_or, Some, refl, ap, subst, arith}
use Rattle.std.specs.Prelude.{◌↔◌, slice_get}
use Rattle.std.specs.List.{AllZip}
use Rattle.std.proofs.lemmas.Option.{slice_get-get_or, slice_get_within, get_or_from_slice_get}
use Rattle.jr_sync.specs.declared.sites.Site.{Site}
use Rattle.jr_sync.specs.declared.sites.Site.TheVariants.{Check}
use Rattle.jr_sync.specs.declared.sites.DepKind.{DepKind}
use Rattle.jr_sync.specs.declared.sites.DepKind.TheVariants.{Order, Field, Sync, Flow, Anti, Output}
use Rattle.jr_sync.specs.Relations.{Related}
use Rattle.jr_flow.specs.Edges.{EdgeOf}
use Rattle.jr_flow.specs.Paths.{PathBetween}
use Rattle.jr_dependences.specs.Depends.{WritesAgain, Stops, Depends}
use Rattle.jr_dependences.proofs.Stopping.{between_both}

-- ---- items at one place of two lists

module _ {X Y : Type 0} (R : X → Y → Type 0) where
  pub zip_push : (xs : List X) (ys : List Y) (x : X) (y : Y) → AllZip R xs ys → R x y → AllZip R (xs ++ x ∷ []) (ys ++ y ∷ [])
  zip_push [] [] x y h r = (r, tt)
  zip_push [] (b ∷ ys) x y h r = absurd h
  zip_push (a ∷ xs) [] x y h r = absurd h
  zip_push (a ∷ xs) (b ∷ ys) x y h r = (h.0, zip_push xs ys x y h.1 r)

  pub zip_count : (xs : List X) (ys : List Y) → AllZip R xs ys → length ys ≡ length xs
  zip_count [] [] h = refl
  zip_count [] (b ∷ ys) h = absurd h
  zip_count (a ∷ xs) [] h = absurd h
  zip_count (a ∷ xs) (b ∷ ys) h = ap suc (zip_count xs ys h.1)

  zip_at : (xs : List X) (ys : List Y) → AllZip R xs ys → (i : ℕ) (d : X) (e : Y) → i < length xs → R (get_or xs i d) (get_or ys i e)
  zip_at [] [] h i d e lt = absurd (omega (arith, lt))
  zip_at [] (b ∷ ys) h i d e lt = absurd h
  zip_at (a ∷ xs) [] h i d e lt = absurd h
  zip_at (a ∷ xs) (b ∷ ys) h zero d e lt = h.0
  zip_at (a ∷ xs) (b ∷ ys) h (suc i) d e lt = zip_at xs ys h.1 i d e (omega (arith, lt))

  pub zip_get : (xs : List X) (ys : List Y) → AllZip R xs ys → (i : ℕ) (x : X) (y : Y) → slice_get xs i ≡ Some x → slice_get ys i ≡ Some y → R x y
  zip_get xs ys h i x y at there =
      subst (λ (b : Y). R x b) (get_or_from_slice_get ys i y y there)
      (subst (λ (a : X). R a (get_or ys i y)) (get_or_from_slice_get xs i x x at) (zip_at xs ys h i x y (slice_get_within xs i x at)))

-- ---- two rows of sites

module _ {K L M N : Type 0} (F : K → K → Type 0) (G : L → L → Type 0) (P : M → M → Type 0) (Q : N → N → Type 0) (sites : List (Site K L)) (row : List (Site M N)) (count : length row ≡ length sites)
    (same : (kind : DepKind) (i j : ℕ) (a b : Site K L) (c d : Site M N) → slice_get sites i ≡ Some a → slice_get sites j ≡ Some b → slice_get row i ≡ Some c → slice_get row j ≡ Some d
    → (Related F G kind a b ↔ Related P Q kind c d)) where
  in_row : (i : ℕ) (a : Site K L) → slice_get sites i ≡ Some a → (c : Site M N) × (slice_get row i ≡ Some c)
  in_row i a is = (get_or row i Check, slice_get-get_or row i Check (omega (arith, slice_get_within sites i a is, count)))

  in_sites : (i : ℕ) (c : Site M N) → slice_get row i ≡ Some c → (a : Site K L) × (slice_get sites i ≡ Some a)
  in_sites i c is = (get_or sites i Check, slice_get-get_or sites i Check (omega (arith, slice_get_within row i c is, count)))

  module _ (i : ℕ) (a : Site K L) (c : Site M N) (is : slice_get sites i ≡ Some a) (there : slice_get row i ≡ Some c) where
    writes_alike : (n : ℕ) → (WritesAgain F G sites a n ↔ WritesAgain P Q row c n)
    writes_alike n = (forth, back)
      where
        forth : WritesAgain F G sites a n → WritesAgain P Q row c n
        forth (s, at, related) = let t = in_row n s at in (t.0, t.1, (same Output i n a s c t.0 is at there t.1).0 related)

        back : WritesAgain P Q row c n → WritesAgain F G sites a n
        back (t, at, related) = let s = in_sites n t at in (s.0, s.1, (same Output i n a s.0 c t is s.1 there at).1 related)

    stops_alike : (kind : DepKind) (n : ℕ) → (Stops F G sites kind a n ↔ Stops P Q row kind c n)
    stops_alike Flow n = writes_alike n
    stops_alike Order n = (λ e. e, λ e. e)
    stops_alike Field n = (λ e. e, λ e. e)
    stops_alike Sync n = (λ e. e, λ e. e)
    stops_alike Anti n = (λ e. e, λ e. e)
    stops_alike Output n = (λ e. e, λ e. e)

  pub depends_alike : (edges : List (ℕ × ℕ)) (kind : DepKind) (i j : ℕ) → (Depends P Q row edges kind i j ↔ Depends F G sites edges kind i j)
  depends_alike edges kind i j = (back, forth)
    where
      along : (a : Site K L) (c : Site M N) → slice_get sites i ≡ Some a → slice_get row i ≡ Some c
          → (PathBetween (EdgeOf edges) (Stops F G sites kind a) i j ↔ PathBetween (EdgeOf edges) (Stops P Q row kind c) i j)
      along a c is there = between_both (EdgeOf edges) (Stops F G sites kind a) (Stops P Q row kind c) (stops_alike i a c is there kind) i j

      forth : Depends F G sites edges kind i j → Depends P Q row edges kind i j
      forth (a, b, is, at, related, path) =
          let c = in_row i a is in
          let d = in_row j b at in
          (c.0, d.0, c.1, d.1, (same kind i j a b c.0 d.0 is at c.1 d.1).0 related, (along a c.0 is c.1).0 path)

      back : Depends P Q row edges kind i j → Depends F G sites edges kind i j
      back (c, d, is, at, related, path) =
          let a = in_sites i c is in
          let b = in_sites j d at in
          (a.0, b.0, a.1, b.1, (same kind i j a.0 b.0 c d a.1 b.1 is at).1 related, (along a.0 c a.1 is).1 path)
