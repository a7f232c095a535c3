-- What a search finds is what paths reach.
use Rattle.std.proofs.Common.{◌≡◌, ◌⊎◌, ◌<◌, ◌≤◌, ℕ, ◌+◌, ◌*◌, ◌/◌, Bool, List, [], length, refl, sym, ap, subst, ◌∙◌, inl, inr, arith}
use Rattle.std.specs.Prelude.{Contains, IsTrue, ◌↔◌}
use Rattle.jr_flow.specs.Edges.{EdgeOf, AreBelow}
use Rattle.jr_flow.specs.Paths as paths
use Rattle.jr_flow.specs.Paths.{PathBetween}
use Rattle.jr_flow.specs.Rows.{Has, Merges, width_of}
use Rattle.jr_flow.specs.Holding.{HoldsNumbers}
use Rattle.jr_flow.specs.Spreading.{Spread, at_once, onward, Starts}
use Rattle.jr_flow.specs.Searched.{IsSearched}
use Rattle.jr_flow.proofs.Filled.{contains_none, edge_ends}

-- a path, and one edge more
pub path_on : (E : ℕ → ℕ → Type 0) (S : ℕ → Type 0) (a b c : ℕ) → PathBetween E S a b → (S b → ⊥) → E b c → PathBetween E S a c
path_on E S a b c (paths.edge _ _ e) free f = paths.onward a b c e free (paths.edge b c f)
path_on E S a b c (paths.onward _ d _ e unshut p) free f = paths.onward a d c e unshut (path_on E S d b c p free f)

-- a node that has no row
pub starts_past : (width from : ℕ) (rows : List ℕ) → width ≤ from / 64 → Starts width (64 * width) from rows rows
starts_past width from rows past = record {
  others = λ a c apart lt h. h;
  kept = λ a c h. h;
  only = λ c lt h. inl h;
  has = λ c lt inside h. absurd (omega arith);
}

pub starts_merges : (width from : ℕ) (old new : List ℕ) → Merges width from (64 * width) width old new → Starts width (64 * width) from old new
starts_merges width from old new m = record {
  others = λ a c apart lt h. other a c apart (m.only a c lt h);
  kept = m.kept;
  only = λ c lt h. one c (m.only (64 * width) c lt h);
  has = λ c lt inside h. m.has c lt h;
}
  where
    other : (a c : ℕ) → (a ≡ 64 * width → ⊥) → (Has old width a c ⊎ ((a ≡ 64 * width) × Has old width from c)) → Has old width a c
    other a c apart (inl h) = h
    other a c apart (inr h) = absurd (apart h.0)

    one : (c : ℕ) → (Has old width (64 * width) c ⊎ ((64 * width ≡ 64 * width) × Has old width from c)) → Has old width (64 * width) c ⊎ Has old width from c
    one c (inl h) = inl h
    one c (inr h) = inr h.1

module _ (edges : List (ℕ × ℕ)) (size width : ℕ) (below : AreBelow size edges) (wide : width ≡ width_of size) (numbers : List ℕ) (from : ℕ) (none shut rows : List ℕ)
    (empty : HoldsNumbers width [] none) (stops : HoldsNumbers width numbers shut) (s : IsSearched width edges from none shut rows) where
  within : (n : ℕ) → n < size → n / 64 < width
  within n lt = omega arith

  before_last : (n : ℕ) → n / 64 < width → n ≡ 64 * width → ⊥
  before_last n lt e = omega arith

  edge_of : (a b : ℕ) → b / 64 < width → Has s.filled width a b → EdgeOf edges a b
  edge_of a b lt h = (s.holds.only a b lt h).0

  edge_has : (a b : ℕ) → EdgeOf edges a b → Has s.filled width a b
  edge_has a b e = s.holds.has a b e (λ h. contains_none b (empty.only b (within b (edge_ends edges size below a b e).1) h))

  last_is_empty : (c : ℕ) → c / 64 < width → Has s.filled width (64 * width) c → ⊥
  last_is_empty c lt h =
      let low = (edge_ends edges size below (64 * width) c (edge_of (64 * width) c lt h)).0 in
      before_last (64 * width) (within (64 * width) low) refl

  first_edge : (c : ℕ) → c / 64 < width → (Has s.filled width (64 * width) c ⊎ Has s.filled width from c) → PathBetween (EdgeOf edges) (Contains numbers) from c
  first_edge c lt (inl h) = absurd (last_is_empty c lt h)
  first_edge c lt (inr h) = paths.edge from c (edge_of from c lt h)

  path_to : (c : ℕ) → c / 64 < width → Spread width (64 * width) shut s.started c → PathBetween (EdgeOf edges) (Contains numbers) from c
  path_to c lt (at_once _ h) = first_edge c lt (s.starts.only c lt h)
  path_to c lt (onward b _ inside free d h) =
      path_on (EdgeOf edges) (Contains numbers) from b c (path_to b inside d) (λ stop. free (stops.has b inside stop))
      (edge_of b c lt (s.starts.others b c (before_last b inside) lt h))

  -- reached is what edges lead to from a node where the search goes on
  spread_to : (a c : ℕ) → ((b : ℕ) → EdgeOf edges a b → Spread width (64 * width) shut s.started b) → PathBetween (EdgeOf edges) (Contains numbers) a c
      → Spread width (64 * width) shut s.started c
  spread_to a c go (paths.edge _ _ e) = go c e
  spread_to a c go (paths.onward _ b _ e free p) =
      let inside = within b (edge_ends edges size below a b e).1 in
      spread_to b c
      (λ d f. onward b d inside (λ h. free (stops.only b inside h)) (go b e) (s.starts.kept b d (edge_has b d f))) p

  at_first : (b : ℕ) → EdgeOf edges from b → Spread width (64 * width) shut s.started b
  at_first b e =
      let ends = edge_ends edges size below from b e in
      at_once b (s.starts.has b (within b ends.1) (within from ends.0) (edge_has from b e))

  end_below : (a c : ℕ) → PathBetween (EdgeOf edges) (Contains numbers) a c → c < size
  end_below a c (paths.edge _ _ e) = (edge_ends edges size below a c e).1
  end_below a c (paths.onward _ b _ e free p) = end_below b c p

  pub finds : (c : ℕ) → ((c < size) × Has rows (width_of size) (64 * width_of size) c) ↔ PathBetween (EdgeOf edges) (Contains numbers) from c
  finds c = (
    λ h. path_to c (within c h.0) ((s.searches c (within c h.0)).0 (subst (λ (w : ℕ). Has rows w (64 * w) c) (sym wide) h.1)),
    λ p.
        let low = end_below from c p in
        (low, subst (λ (w : ℕ). Has rows w (64 * w) c) wide ((s.searches c (within c low)).1 (spread_to from c at_first p))),
  )

-- ---- what is read of the last row

pub inside_last : (size width node : ℕ) (words : List ℕ) → width ≡ width_of size → length words ≡ (64 * width_of size + 1) * width_of size → node < size
    → 64 * width * width + node / 64 < length words
inside_last size width node words wide whole low =
    let rows : length words ≡ (64 * width + 1) * width = whole ∙ sym (ap (λ w. (64 * w + 1) * w) wide) in
    omega arith

pub has_is : (words read : List ℕ) (size width node : ℕ) (r : Bool) → read ≡ words → width ≡ width_of size → node < size → (IsTrue r ↔ Has read width (64 * width) node)
    → (IsTrue r ↔ ((node < size) × Has words (width_of size) (64 * width_of size) node))
has_is words read size width node r is wide low h = (λ e. (low, forth (h.0 e)), λ p. h.1 (back p.1))
  where
    forth : Has read width (64 * width) node → Has words (width_of size) (64 * width_of size) node
    forth x = subst (λ (ws : List ℕ). Has ws (width_of size) (64 * width_of size) node) is (subst (λ (w : ℕ). Has read w (64 * w) node) wide x)

    back : Has words (width_of size) (64 * width_of size) node → Has read width (64 * width) node
    back x = subst (λ (w : ℕ). Has read w (64 * w) node) (sym wide) (subst (λ (ws : List ℕ). Has ws (width_of size) (64 * width_of size) node) (sym is) x)
