-- Package lines, file by file.
use Rattle.std.proofs.Common.{◌≡◌, ◌≢◌, ℕ, zero, suc, ◌+◌, ◌<◌, ◌≤◌, List, [], ◌∷◌, length, get_or, drop, map, Option, Some, None, Bool, true, false, refl, sym, ap, subst, ◌∙◌, inl, inr, arith}
use Rattle.std.specs.Prelude.{slice_get, ◌⊎◌, ◌↔◌, IsTrue}
use Rattle.jr_ast.specs.Tree as tree
use Rattle.jr_ast.specs.MemberTree as syntax
use Rattle.jr_ast.specs.View.{word_of, unit_of}
use Rattle.jr_ast.specs.declared.names.Ident.{Ident}
use Rattle.jr_ast.specs.declared.members.Unit.{Unit}
use Rattle.jr_table.specs.Faults.{Place, IsUpTo}
use Rattle.jr_table.specs.declared.kinds.DeclKind.TheVariants as kind
use Rattle.jr_build_places.specs.Places.{IsEarliest}
use Rattle.jr_table.specs.DeclaredItems.{DeclaredItem}
use Rattle.jr_table.specs.Faults.{PackageLine, names_of, line_at, HasFault}
use Rattle.jr_build_declared.specs.Packages.{package_names, line_of, lines_of}
use Rattle.jr_build_declared.proofs.Earliest.{inside}
use Rattle.jr_build_declared.proofs.DeclarationLists.{rest_is}

-- two lists with the same first name are equal exactly where the rests are
pub heads_same : (x y : List ℕ) (xs ys : List (List ℕ)) → x ≡ y → (x ∷ xs ≡ y ∷ ys) ↔ (xs ≡ ys)
heads_same x y xs ys e = (λ h. cc, λ h. λ i. e i ∷ h i)

pub heads_differ : (x y : List ℕ) (xs ys : List (List ℕ)) → (x ≡ y → ⊥) → x ∷ xs ≡ y ∷ ys → ⊥
heads_differ x y xs ys n h = n cc

pub same_length : {A : Type 0} (xs ys : List (Ident A)) → package_names (map word_of xs) ≡ package_names (map word_of ys) → length xs ≡ length ys
same_length xs ys e = sym (counts xs) ∙ ap length e ∙ counts ys
  where
    counts : {A : Type 0} (zs : List (Ident A)) → length (package_names (map word_of zs)) ≡ length zs
    counts [] = refl
    counts (z ∷ zs) = ap suc (counts zs)

-- the names of a line
pub names_are : {A : Type 0} (at : ℕ) (ws : List (tree.Word A)) → names_of (line_of at ws) ≡ package_names ws
names_are at [] = refl
names_are at (w ∷ ws) = refl

-- the line of a file
pub line_stands : {A : Type 0} (ats : List ℕ) (us : List (Unit A)) (i at : ℕ) (u : Unit A) → slice_get ats i ≡ Some at → slice_get us i ≡ Some u
    → slice_get (lines_of ats (map unit_of us)) i ≡ Some (line_of at (map word_of u.package.items))
line_stands [] us i at u h k = absurd cc
line_stands (x ∷ xs) [] i at u h k = absurd cc
line_stands (x ∷ xs) (y ∷ ys) zero at u h k =
    let e = inside x at h in let f = inside y u k in
    λ i. Some (line_of (e i) (map word_of (f i).package.items))
line_stands (x ∷ xs) (y ∷ ys) (suc i) at u h k = line_stands xs ys i at u h k

-- a line is that of a file
pub file_of_line : {A : Type 0} (ats : List ℕ) (us : List (Unit A)) (i : ℕ) (l : Option PackageLine) → slice_get (lines_of ats (map unit_of us)) i ≡ Some l
    → (at : ℕ) × (u : Unit A) × (slice_get ats i ≡ Some at) × (slice_get us i ≡ Some u) × (l ≡ line_of at (map word_of u.package.items))
file_of_line [] us i l h = absurd cc
file_of_line (x ∷ xs) [] i l h = absurd cc
file_of_line (x ∷ xs) (y ∷ ys) zero l h = (x, y, refl, refl, sym (inside _ _ h))
file_of_line (x ∷ xs) (y ∷ ys) (suc i) l h = file_of_line xs ys i l h

module _ {A : Type 0} (ats : List ℕ) (us : List (Unit A)) (declarations : List DeclaredItem) where
  -- the files so far have the first one's names
  abbrev pub SameSoFar : ℕ → Type 0
  SameSoFar n = (i : ℕ) (u v : Unit A) → i < n → slice_get us i ≡ Some u → slice_get us 0 ≡ Some v → package_names (map word_of u.package.items) ≡ package_names (map word_of v.package.items)

  named : (p : Place) → HasFault (lines_of ats (map unit_of us)) declarations kind.PackageDiffers p
      → (at : ℕ) × (u : Unit A) × (v : Unit A) × (slice_get ats p.file ≡ Some at) × (slice_get us p.file ≡ Some u) × (slice_get us 0 ≡ Some v)
      × (package_names (map word_of u.package.items) ≡ package_names (map word_of v.package.items) → ⊥) × (p.at ≡ line_at (line_of at (map word_of u.package.items)))
  named p (first, own, h, k, differ, place) =
      let f = file_of_line ats us 0 first h in
      let o = file_of_line ats us p.file own k in (
        o.0,
        o.1,
        f.1,
        o.2,
        o.3,
        f.3,
        (λ e. differ (ap names_of o.4 ∙ names_are o.0 (map word_of o.1.package.items) ∙ e ∙ sym (ap names_of f.4 ∙ names_are f.0 (map word_of f.1.package.items)))),
        place ∙ ap line_at o.4,
      )

  pub none_differ : (n : ℕ) → length us ≤ n → SameSoFar n → IsEarliest (HasFault (lines_of ats (map unit_of us)) declarations kind.PackageDiffers) None
  none_differ n past same p h = let d = named p h in d.6 (same p.file d.1 d.2 (let l = inside us p.file d.1 d.4 in omega (arith, l, past)) d.4 d.5)
    where
      inside : (xs : List (Unit A)) (i : ℕ) (x : Unit A) → slice_get xs i ≡ Some x → i < length xs
      inside [] i x h = absurd cc
      inside (z ∷ zs) zero x h = omega arith
      inside (z ∷ zs) (suc i) x h = let l = inside zs i x h in omega (arith, l)

  pub first_differs : (n at : ℕ) (u v : Unit A) → SameSoFar n → slice_get ats n ≡ Some at → slice_get us n ≡ Some u → slice_get us 0 ≡ Some v
      → (package_names (map word_of u.package.items) ≡ package_names (map word_of v.package.items) → ⊥)
      → IsEarliest (HasFault (lines_of ats (map unit_of us)) declarations kind.PackageDiffers) (Some (record { file = n; at = line_at (line_of at (map word_of u.package.items)) }))
  first_differs n at u v same has_at has_u has_v differ = (here, λ q h. later q (named q h) (order q.file n))
    where
      here : HasFault (lines_of ats (map unit_of us)) declarations kind.PackageDiffers (record { file = n; at = line_at (line_of at (map word_of u.package.items)) })
      here = let f = first_line ats us v has_v n at has_at in (
        line_of f.0 (map word_of v.package.items),
        line_of at (map word_of u.package.items),
        line_stands ats us 0 f.0 v f.1 has_v,
        line_stands ats us n at u has_at has_u,
        (λ e. differ (sym (names_are at (map word_of u.package.items)) ∙ e ∙ names_are f.0 (map word_of v.package.items))),
        refl,
      )
        where
          first_line : (xs : List ℕ) (ys : List (Unit A)) (y : Unit A) → slice_get ys 0 ≡ Some y → (i x : ℕ) → slice_get xs i ≡ Some x → (z : ℕ) × (slice_get xs 0 ≡ Some z)
          first_line [] ys y h i x k = absurd cc
          first_line (z ∷ zs) ys y h i x k = (z, refl)

      order : (a b : ℕ) → (a < b) ⊎ ((a ≡ b) ⊎ (b < a))
      order a b = grind arith

      later : (q : Place) → ((b : ℕ) × (w : Unit A) × (z : Unit A) × (slice_get ats q.file ≡ Some b) × (slice_get us q.file ≡ Some w) × (slice_get us 0 ≡ Some z)
          × (package_names (map word_of w.package.items) ≡ package_names (map word_of z.package.items) → ⊥) × (q.at ≡ line_at (line_of b (map word_of w.package.items))))
          → ((q.file < n) ⊎ ((q.file ≡ n) ⊎ (n < q.file))) → IsUpTo (record { file = n; at = line_at (line_of at (map word_of u.package.items)) }) q
      later q (b, w, z, hb, hw, hz, d, e) (inl lt) = absurd (d (same q.file w z lt hw hz))
      later q (b, w, z, hb, hw, hz, d, e) (inr (inr lt)) = inl lt
      later q (b, w, z, hb, hw, hz, d, e) (inr (inl is)) =
          let one = inside b at (sym hb ∙ ap (slice_get ats) is ∙ has_at) in
          let two = inside w u (sym hw ∙ ap (slice_get us) is ∙ has_u) in
          let place : q.at ≡ line_at (line_of at (map word_of u.package.items)) = e ∙ (λ i. line_at (line_of (one i) (map word_of (two i).package.items))) in
          inr (sym is, omega (arith, place))

-- names one after another
module _ {A : Type 0} (xs ys : List (Ident A)) (n : ℕ) (x y : Ident A) where
  abbrev Rest : ℕ → Type 0
  Rest i = package_names (map word_of (drop i xs)) ≡ package_names (map word_of (drop i ys))

  abbrev All : Type 0
  All = package_names (map word_of xs) ≡ package_names (map word_of ys)

  step : (zs : List (Ident A)) (z : Ident A) → n < length zs → z ≡ get_or zs n z
      → package_names (map word_of (drop n zs))
      ≡ z.name ∷ package_names (map word_of (drop (n + 1) zs))
  step zs z lt at = ap (λ r. package_names (map word_of r)) (rest_is zs n z lt at)

  module _ (in_xs : n < length xs) (in_ys : n < length ys) (at_x : x ≡ get_or xs n x)
      (at_y : y ≡ get_or ys n y) where
    heads : Rest n → x.name ∷ package_names (map word_of (drop (n + 1) xs))
        ≡ y.name ∷ package_names (map word_of (drop (n + 1) ys))
    heads rest = sym (step xs x in_xs at_x) ∙ rest ∙ step ys y in_ys at_y

    pub word_differs : (b : Bool) → (IsTrue b ↔ (x.name ≡ y.name)) → b ≡ false → (All ↔ Rest n)
        → IsTrue false ↔ All
    word_differs b h e so_far = (
      λ t. absurd cc,
      λ all. absurd (heads_differ x.name y.name _ _
          (λ same. let t = h.1 same in cc) (heads (so_far.0 all))),
    )

    pub word_same : (b : Bool) → (IsTrue b ↔ (x.name ≡ y.name)) → b ≡ true → (All ↔ Rest n)
        → All ↔ Rest (n + 1)
    word_same b h e so_far =
        let both = heads_same x.name y.name (package_names (map word_of (drop (n + 1) xs)))
        (package_names (map word_of (drop (n + 1) ys))) (h.0 e) in (
          λ all. both.0 (heads (so_far.0 all)),
          λ rest. so_far.1 (step xs x in_xs at_x ∙ both.1 rest ∙ sym (step ys y in_ys at_y)),
        )

-- files one after another
module _ {A : Type 0} (us : List (Unit A)) (n : ℕ) where
  abbrev Names : Unit A → List (List ℕ)
  Names u = package_names (map word_of u.package.items)

  abbrev Same : ℕ → Type 0
  Same m = (i : ℕ) (u v : Unit A) → i < m → slice_get us i ≡ Some u → slice_get us 0 ≡ Some v
      → Names u ≡ Names v

  split : (m : ℕ) → m < n + 1 → (m < n) ⊎ (m ≡ n)
  split m h = grind arith

  pub same_more : (x y : Unit A) → slice_get us n ≡ Some x → slice_get us 0 ≡ Some y
      → Names x ≡ Names y → Same n → Same (n + 1)
  same_more x y at_x at_y same so_far = λ i u v lt at_u at_v. by i u v at_u at_v (split i lt)
    where
      by : (i : ℕ) (u v : Unit A) → slice_get us i ≡ Some u → slice_get us 0 ≡ Some v
          → ((i < n) ⊎ (i ≡ n)) → Names u ≡ Names v
      by i u v at_u at_v (inl lt) = so_far i u v lt at_u at_v
      by i u v at_u at_v (inr e) =
          let one = inside x u (sym at_x ∙ ap (slice_get us) (sym e) ∙ at_u) in
          let two = inside y v (sym at_y ∙ at_v) in
          sym (ap Names one) ∙ same ∙ ap Names two
