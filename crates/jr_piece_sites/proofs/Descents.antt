-- A walk down a path of pieces, step by step.
use Rattle.std.proofs.Common.{◌≡◌, ℕ, ◌+◌, ◌<◌, ◌≤◌, List, [], ◌∷◌, ◌++◌, length, get_or, take, drop, Option, Some, None, option_map, refl, sym, ap, subst, ◌∙◌, arith, add-one, drop-cons}
use Rattle.std.specs.Prelude.{option_and_then, unwrap_or, IfSome}
use Rattle.std.proofs.lemmas.List.{drop_all, take_all, take_more}
use Rattle.jr_text.specs.declared.spans.Span.{Span}
use Rattle.jr_ast.specs.Nodes as nodes
use Rattle.jr_ast.specs.Nodes.{Node, child_of}
use Rattle.jr_cover.specs.Spots.{Spot, onto}
use Rattle.jr_expr_sites.specs.KnownFacts.{Given, Others, known_of}
use Rattle.jr_expr_sites.specs.Routes.{Steps, begins_by}
use Rattle.jr_piece_sites.specs.Descent.{Descended}
use Rattle.jr_piece_sites.specs.Fronts.{before, front}
use Rattle.jr_piece_sites.specs.Growth.{count, GrownTo}
use Rattle.jr_piece_sites.specs.Pieces as piece
use Rattle.jr_piece_sites.specs.Pieces.{Piece, node_of, mark_of, part_of, piece_at, spotted, first_number, FitsPiece, NumbersPiece, StartsAt}
use Rattle.jr_piece_sites.proofs.PartRows.{as_piece, child_is}
use Rattle.jr_piece_sites.proofs.Spotting.{part_same}
use Rattle.jr_piece_sites.proofs.Fitting.{Fits, part_fits}
use Rattle.jr_piece_sites.proofs.Numbers.{Numbers, part_numbers}

-- what is left of a path
pub left_of : (path : List ℕ) (i : ℕ) → i < length path → drop i path ≡ get_or path i 0 ∷ drop (i + 1) path
left_of path i h = drop-cons path i 0 h ∙ ap (λ (n : ℕ). get_or path i 0 ∷ drop n path) (sym (add-one i))

module _ {A : Type 0} where
  pub step_down : (x c : Piece A) (i : ℕ) (q : List ℕ) → part_of x i ≡ Some c → piece_at x (i ∷ q) ≡ piece_at c q
  unfolding piece_at
  step_down x c i q is = ap (λ (o : Option (Piece A)). option_and_then (λ z. piece_at z q) o) is

  pub step_off : (x : Piece A) (i : ℕ) (q : List ℕ) → part_of x i ≡ None → piece_at x (i ∷ q) ≡ None
  unfolding piece_at
  step_off x i q is = ap (λ (o : Option (Piece A)). option_and_then (λ z. piece_at z q) o) is

  pub step_end : (x : Piece A) → piece_at x [] ≡ Some x
  unfolding piece_at
  step_end x = refl

  -- one path behind another
  pub through : (p q : List ℕ) (x : Piece A) → piece_at x (p ++ q) ≡ option_and_then (λ y. piece_at y q) (piece_at x p)
  unfolding piece_at
  through [] q x = refl
  through (i ∷ p) q x = go (part_of x i) (λ c. through p q c)
    where
      go : (o : Option (Piece A)) → ((c : Piece A) → piece_at c (p ++ q) ≡ option_and_then (λ y. piece_at y q) (piece_at c p)) → option_and_then (λ c. piece_at c (p ++ q)) o ≡ option_and_then (λ y. piece_at y q) (option_and_then (λ c. piece_at c p) o)
      go None on = refl
      go (Some c) on = on c

  -- no part is a member
  abbrev NoMember : Option (Piece A) → Type 0
  NoMember None = Unit {0}
  NoMember (Some (piece.member m)) = ⊥
  NoMember (Some (piece.stmt s)) = Unit {0}
  NoMember (Some (piece.exp e)) = Unit {0}

  small : (o : Option (Node A)) → NoMember (option_and_then as_piece o)
  small None = tt
  small (Some (nodes.exp e)) = tt
  small (Some (nodes.stmt s)) = tt
  small (Some (nodes.unit u)) = tt
  small (Some (nodes.class c)) = tt
  small (Some (nodes.modifier m)) = tt
  small (Some (nodes.word w)) = tt
  small (Some (nodes.type t)) = tt
  small (Some (nodes.param p)) = tt
  small (Some (nodes.member m)) = tt

  part_small : (x : Piece A) (i : ℕ) → NoMember (part_of x i)
  part_small x i = subst NoMember (child_is x i) (small (child_of (node_of x) i))

module _ {A : Type 0} (tells : A → ℕ → Span) where
  starts : (at start : ℕ) (c : Piece A) → NoMember (Some c) → StartsAt tells at start c
  starts at start (piece.member m) h = absurd h
  starts at start (piece.stmt s) h = tt
  starts at start (piece.exp e) h = tt

  -- the parts on spots
  pub part_spots : (x c : Piece A) (b : ℕ) (p : List ℕ) (i : ℕ) → part_of x i ≡ Some c → part_of (spotted tells b p x) i ≡ Some (spotted tells (begins_by tells (mark_of x) b) (onto p i) c)
  part_spots x c b p i is = part_same tells x b p i ∙ ap (option_map (spotted tells (begins_by tells (mark_of x) b) (onto p i))) is

  pub part_off : (x : Piece A) (b : ℕ) (p : List ℕ) (i : ℕ) → part_of x i ≡ None → part_of (spotted tells b p x) i ≡ None
  part_off x b p i is = part_same tells x b p i ∙ ap (option_map (spotted tells (begins_by tells (mark_of x) b) (onto p i))) is

  -- ---- by the loop without fronts

  module _ (F : A → ℕ → Type 0) where
    pub piece_fits : (b : ℕ) (x c : Piece A) (i : ℕ) → FitsPiece tells F b x → part_of x i ≡ Some c → FitsPiece tells F (begins_by tells (mark_of x) b) c
    piece_fits b x c i f is = subst (Fits tells F (begins_by tells (mark_of x) b)) is (part_fits tells F b x f i)

  pub piece_step : (x c : Piece A) (b : ℕ) (path : List ℕ) (i : ℕ) → i < length path → part_of x (get_or path i 0) ≡ Some c
      → piece_at (spotted tells (begins_by tells (mark_of x) b) (take (i + 1) path) c) (drop (i + 1) path) ≡ piece_at (spotted tells b (take i path) x) (drop i path)
  piece_step x c b path i lt is =
      let p = take i path in
      let s = get_or path i 0 in
      let rest = drop (i + 1) path in
      ap (λ (q : List ℕ). piece_at (spotted tells (begins_by tells (mark_of x) b) q c) rest) (take_more path i 0 lt)
      ∙ sym (step_down (spotted tells b p x) (spotted tells (begins_by tells (mark_of x) b) (onto p s) c) s rest (part_spots x c b p s is))
      ∙ ap (piece_at (spotted tells b p x)) (sym (left_of path i lt))

  pub piece_off : (x : Piece A) (b : ℕ) (path : List ℕ) (i : ℕ) → i < length path → part_of x (get_or path i 0) ≡ None → piece_at (spotted tells b (take i path) x) (drop i path) ≡ None
  piece_off x b path i lt is =
      let p = take i path in
      ap (piece_at (spotted tells b p x)) (left_of path i lt) ∙ step_off (spotted tells b p x) (get_or path i 0) (drop (i + 1) path) (part_off x b p (get_or path i 0) is)

  pub piece_end : (x : Piece A) (b : ℕ) (path : List ℕ) (i : ℕ) → length path ≤ i → piece_at (spotted tells b (take i path) x) (drop i path) ≡ Some (spotted tells b path x)
  piece_end x b path i le =
      let all : piece_at (spotted tells b (take i path) x) (drop i path) ≡ piece_at (spotted tells b path x) [] = (λ j. piece_at (spotted tells b (take_all i path le j) x) (drop_all i path le j)) in
      all ∙ step_end (spotted tells b path x)

  -- ---- with fronts

  module _ (F : A → ℕ → Type 0) (g : Given) (n base : ℕ) (path : List ℕ) (x : Piece A) (whole : List ℕ) (old : Steps) where
    abbrev pub Down : (rest : List ℕ) → (k at : ℕ) → Piece A → (place : List ℕ) → (now : Steps) → Type 0
    Down rest k at y place now = Descended tells F g n base path x whole rest k at y place old now

    pub begun : FitsPiece tells F base x → StartsAt tells base g.start x → Down whole n base x path old
    begun f s = record { fits = f; start = s; leads = refl; numbers = λ o h. h; grown = λ o h. refl }

    down_before : (o : Others) (y c : Piece A) (at : ℕ) (place : List ℕ) (i : ℕ) (q : List ℕ) → part_of y i ≡ Some c
        → before (known_of g o) (spotted tells at place y) (i ∷ q) ≡ front (known_of g o) (spotted tells at place y) i + before (known_of g o) (spotted tells (begins_by tells (mark_of y) at) (onto place i) c) q
    unfolding before
    down_before o y c at place i q is =
        ap (λ (z : Option (Piece Spot)). front (known_of g o) (spotted tells at place y) i + unwrap_or (option_map (λ w. before (known_of g o) w q) z) 0) (part_spots y c at place i is)

    pub gone : (i : ℕ) (rest : List ℕ) (k at : ℕ) (y : Piece A) (place : List ℕ) (mid new : Steps) (c : Piece A) (l to : ℕ) (down : List ℕ) → Down (i ∷ rest) k at y place mid → part_of y i ≡ Some c
        → GrownTo g (NumbersPiece tells k at place y) (λ o. front (known_of g o) (spotted tells at place y) i) (first_number k y i) l mid new → to ≡ begins_by tells (mark_of y) at → down ≡ place ++ i ∷ [] → Down rest l to c down new
    gone i rest k at y place mid new c l to down d is h there onward =
        let B = begins_by tells (mark_of y) at in
        subst (λ (q : List ℕ). Down rest l to c q new) (sym onward) (subst (λ (b : ℕ). Down rest l b c (onto place i) new) (sym there) (record {
          fits = piece_fits F at y c i d.fits is;
          start = starts B g.start c (subst NoMember is (part_small y i));
          leads = sym (step_down (spotted tells at place y) (spotted tells B (onto place i) c) i rest (part_spots y c at place i is)) ∙ d.leads;
          numbers = λ o q.
              subst (λ (j : ℕ). NumbersPiece tells j B (onto place i) c o) (sym h.number)
              (subst (Numbers tells o B place (first_number k y i) i) is (part_numbers tells o k at place y (d.numbers o q) i));
          grown = λ o q.
              let a = d.grown o q in
              let b = h.grown o (d.numbers o q) in
              let e = down_before o y c at place i rest is in
              omega (arith, a, b, e);
        }))

    pub gone_off : (i : ℕ) (rest : List ℕ) (k at : ℕ) (y : Piece A) (place : List ℕ) (mid : Steps) → Down (i ∷ rest) k at y place mid → part_of y i ≡ None → None ≡ piece_at (spotted tells base path x) whole
    gone_off i rest k at y place mid d is = sym (step_off (spotted tells at place y) i rest (part_off y at place i is)) ∙ d.leads

-- what was put on the way, where the way began with nothing
pub counted : (g : Given) (o : Others) (old new : Steps) (x y : Piece Spot) (p : List ℕ) → old ≡ [] → count g new + before (known_of g o) y [] ≡ count g old + before (known_of g o) x p → count g new ≡ before (known_of g o) x p
unfolding before
counted g o old new x y p none h =
    let k : count g new + 0 ≡ count g old + before (known_of g o) x p = h in
    let a : count g old ≡ 0 = ap (count g) none in
    omega (arith, a, k)

-- what is there, is what it is said to be
pub some_there : {X : Type 0} {r : Option X} {P : X → Type 0} {Q : Type 0} → (None ≡ r → ⊥) → IfSome r P → ((x : X) → P x → Q) → Q
some_there {r = None} never h to = absurd (never refl)
some_there {r = Some x} never h to = to x h
