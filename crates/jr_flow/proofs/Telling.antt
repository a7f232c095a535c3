-- Closed rows of a graph's edges tell of its paths.
use Rattle.std.proofs.Common.{◌≡◌, ◌<◌, ℕ, ◌+◌, ◌*◌, ◌/◌, ◌%◌, Bool, List, [], length, sym, ap, subst, ◌∙◌, arith}
use Rattle.std.specs.Prelude.{Contains, IsTrue, ◌↔◌, slice_index}
use Rattle.std.specs.Int.{bit_at}
use Rattle.std.proofs.lemmas.Nat.{row_fits}
use Rattle.jr_flow.specs.Edges.{EdgeOf, AreBelow}
use Rattle.jr_flow.specs.Paths as paths
use Rattle.jr_flow.specs.Paths.{PathBetween, Path}
use Rattle.jr_flow.specs.Rows.{Has, width_of}
use Rattle.jr_flow.specs.Holding.{HoldsNumbers, HoldsEdges}
use Rattle.jr_flow.specs.Closure.{Derived, at_once, onward, Closes}
use Rattle.jr_flow.proofs.Filled.{contains_none, edge_ends}
use Rattle.jr_flow.proofs.Words.{has_word, word_has}

-- with fewer stops there are more paths
pub fewer_stops : (E : ℕ → ℕ → Type 0) (S T : ℕ → Type 0) → ((n : ℕ) → T n → S n) → (a c : ℕ) → PathBetween E S a c → PathBetween E T a c
fewer_stops E S T f a c (paths.edge _ _ e) = paths.edge a c e
fewer_stops E S T f a c (paths.onward _ b _ e free p) = paths.onward a b c e (λ t. free (f b t)) (fewer_stops E S T f b c p)

pub no_stops : (E : ℕ → ℕ → Type 0) (a c : ℕ) → PathBetween E (Contains []) a c ↔ Path E a c
no_stops E a c = (fewer_stops E (Contains []) (λ n. ⊥) (λ n none. absurd none) a c, fewer_stops E (λ n. ⊥) (Contains []) (λ n at. contains_none n at) a c)

module _ (edges : List (ℕ × ℕ)) (size width : ℕ) (below : AreBelow size edges) (wide : width ≡ width_of size) (numbers unshut shut steps base words : List ℕ)
    (none : HoldsNumbers width [] unshut) (stops : HoldsNumbers width numbers shut) (onwards : HoldsEdges width shut edges steps) (starts : HoldsEdges width unshut edges base)
    (closes : Closes width steps base words) where
  inside : (n : ℕ) → n < size → n / 64 < width
  inside n lt = omega arith

  ends_of : (a b : ℕ) → EdgeOf edges a b → (a < size) × (b < size)
  ends_of = edge_ends edges size below

  path_of : (a c : ℕ) → c / 64 < width → Derived width steps base a c → PathBetween (EdgeOf edges) (Contains numbers) a c
  path_of a c lt (at_once _ _ h) = paths.edge a c (starts.only a c lt h).0
  path_of a c lt (onward _ b _ within step d) =
      let e = onwards.only a b within step in
      paths.onward a b c e.0 (λ stop. e.1 (stops.has b within stop)) (path_of b c lt d)

  derived_of : (a c : ℕ) → PathBetween (EdgeOf edges) (Contains numbers) a c → Derived width steps base a c
  derived_of a c (paths.edge _ _ e) =
      at_once a c (starts.has a c e (λ h. contains_none c (none.only c (inside c (ends_of a c e).1) h)))
  derived_of a c (paths.onward _ b _ e free p) =
      let within = inside b (ends_of a b e).1 in
      onward a b c within (onwards.has a b e (λ h. free (stops.only b within h))) (derived_of b c p)

  ends : (a c : ℕ) → PathBetween (EdgeOf edges) (Contains numbers) a c → (a < size) × (c < size)
  ends a c (paths.edge _ _ e) = ends_of a c e
  ends a c (paths.onward _ b _ e free p) = ((ends_of a b e).0, (ends b c p).1)

  pub tells : (a c : ℕ) → ((a < size) × (c < size) × Has words (width_of size) a c) ↔ PathBetween (EdgeOf edges) (Contains numbers) a c
  tells a c = (
    λ h. path_of a c (inside c h.1) ((closes a c (inside a h.0) (inside c h.1)).0 (subst (λ (w : ℕ). Has words w a c) (sym wide) h.2)),
    λ p.
        let at = ends a c p in
        (at.0, at.1, subst (λ (w : ℕ). Has words w a c) wide ((closes a c (inside a at.0) (inside c at.1)).1 (derived_of a c p))),
  )

-- ---- what is read of the rows

pub inside_rows : (size width from to : ℕ) (words : List ℕ) → width ≡ width_of size → length words ≡ 64 * width_of size * width_of size → from < size → to < size
    → from * width + to / 64 < length words
inside_rows size width from to words wide whole low high =
    let rows : length words ≡ 64 * width * width = whole ∙ sym (ap (λ w. 64 * w * w) wide) in
    omega (arith, row_fits from width (64 * width) width (omega arith) (omega arith))

pub inside_word : (size width from word : ℕ) (words : List ℕ) → width ≡ width_of size → length words ≡ 64 * width_of size * width_of size → from < size → word < width
    → from * width + word < length words
inside_word size width from word words wide whole low lt =
    let rows : length words ≡ 64 * width * width = whole ∙ sym (ap (λ w. 64 * w * w) wide) in
    omega (arith, row_fits from width (64 * width) width (omega arith) (omega arith))

-- a word that was read has the bits of 64 nodes
pub word_is : (words read : List ℕ) (size width from to word r : ℕ) → read ≡ words → width ≡ width_of size → from < size → to / 64 ≡ word → r ≡ slice_index read (from * width + word)
    → (((from < size) × (to < size) × Has words (width_of size) from to) ↔ ((from < size) × (to < size) × (bit_at r (to % 64) ≡ 1)))
word_is words read size width from to word r is wide low at same = (λ p. (p.0, p.1, forth p.2), λ p. (p.0, p.1, back p.2))
  where
    forth : Has words (width_of size) from to → bit_at r (to % 64) ≡ 1
    forth x =
        ap (λ v. bit_at v (to % 64)) same
        ∙ has_word read width from word to at (subst (λ (w : ℕ). Has read w from to) (sym wide) (subst (λ (ws : List ℕ). Has ws (width_of size) from to) (sym is) x))

    back : bit_at r (to % 64) ≡ 1 → Has words (width_of size) from to
    back bit =
        subst (λ (ws : List ℕ). Has ws (width_of size) from to) is
        (subst (λ (w : ℕ). Has read w from to) wide (word_has read width from word to at (sym (ap (λ v. bit_at v (to % 64)) same) ∙ bit)))

pub comes_is : (words read : List ℕ) (size width from to : ℕ) (r : Bool) → read ≡ words → width ≡ width_of size → from < size → to < size → (IsTrue r ↔ Has read width from to)
    → (IsTrue r ↔ ((from < size) × (to < size) × Has words (width_of size) from to))
comes_is words read size width from to r is wide low high h = (λ e. (low, high, forth (h.0 e)), λ p. h.1 (back p.2))
  where
    forth : Has read width from to → Has words (width_of size) from to
    forth x = subst (λ (ws : List ℕ). Has ws (width_of size) from to) is (subst (λ (w : ℕ). Has read w from to) wide x)

    back : Has words (width_of size) from to → Has read width from to
    back x = subst (λ (w : ℕ). Has read w from to) (sym wide) (subst (λ (ws : List ℕ). Has ws (width_of size) from to) (sym is) x)
