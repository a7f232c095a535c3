-- Keys that are one have one number, so sites by numbers are related as those by keys.
use Rattle.std.proofs.Common.{◌≡◌, ◌⊎◌, ◌<◌, ◌≤◌, ◌+◌, ℕ, Bool, false, List, length, Option, Some, None, refl, sym, ap, subst, ◌∙◌, inl, inr, arith}
use Rattle.std.specs.Prelude.{◌↔◌, ◌&&◌, ◌||◌, ◌==◌, IsTrue, slice_get}
use Rattle.std.specs.List.{AllZip}
use Rattle.std.specs.Cmp.{IsEquivalence}
use Rattle.std.proofs.lemmas.Bool.{cases_eq, cases_lt, eq-eqb, eqb-true}
use Rattle.std.proofs.lemmas.Option.{slice_get_within}
use Rattle.jr_sync.specs.declared.kinds.Kind.{Kind}
use Rattle.jr_sync.specs.declared.sites.Site.{Site}
use Rattle.jr_sync.specs.declared.sites.Site.TheVariants.{Read, Write, Access, Check, Call, Loop}
use Rattle.jr_sync.specs.declared.sites.DepKind.{DepKind}
use Rattle.jr_sync.specs.declared.sites.DepKind.TheVariants.{Order, Field, Sync, Flow, Anti, Output}
use Rattle.jr_sync.specs.Grid.{is_allowed}
use Rattle.jr_sync.specs.Sites.{is_wild, is_access, is_store, kind_of, field_of, read_of, written_of}
use Rattle.jr_sync.specs.Relations.{Agree, is_ordered, Related}
use Rattle.jr_dependences.specs.Numbers.{SameNumber, local_of, IsFirst, IsFieldNumber, IsNumbered, IsRowOf}
use Rattle.jr_dependences.proofs.Alike.{depends_alike, zip_count, zip_get}
use Rattle.jr_dependences.proofs.Leading.{same_item}

-- ---- the first of some items

module _ {X : Type 0} (P : X → Type 0) (items : List X) where
  -- none of the first ones is such
  abbrev pub NotYet : ℕ → Type 0
  NotYet count = (n : ℕ) (x : X) → n < count → slice_get items n ≡ Some x → P x → ⊥

  pub not_first : NotYet 0
  not_first n x lt at p = omega (arith, lt)

  pub not_more : (count : ℕ) (y : X) → slice_get items count ≡ Some y → (P y → ⊥) → NotYet count → NotYet (count + 1)
  not_more count y there never before n x lt at p = by (cases_eq n count)
    where
      by : ((n ≡ count) ⊎ (n ≡ count → ⊥)) → ⊥
      by (inl same) = never (subst P (same_item x y (sym at ∙ ap (slice_get items) same ∙ there)) p)
      by (inr other) = before n x (omega (arith, lt, other)) at p

  pub is_first : (number : ℕ) (y : X) → NotYet number → slice_get items number ≡ Some y → P y → IsFirst P items number
  is_first number y before there holds n x at p = (least, y, there, holds)
    where
      by : ((n < number) ⊎ (number ≤ n)) → number ≤ n
      by (inl lt) = absurd (before n x lt at p)
      by (inr le) = le

      least : number ≤ n
      least = by (cases_lt n number)

  pub is_none : (count number : ℕ) → length items ≤ count → NotYet count → IsFirst P items number
  is_none count number le before n x at p = absurd (before n x (omega (arith, slice_get_within items n x at, le)) at p)

module _ {X : Type 0} (P Q : X → Type 0) (items : List X) (m n : ℕ) (first : IsFirst P items m) (other : IsFirst Q items n) where
  -- what is the same has one first
  pub one_first : ((x : X) → P x → Q x) → ((x : X) → Q x → P x) → (i : ℕ) (x : X) → slice_get items i ≡ Some x → P x → m ≡ n
  one_first forth back i x at p =
      let a = first i x at p in
      let b = other i x at (forth x p) in
      let above = (other m a.1 a.2 (forth a.1 a.3)).0 in
      let below = (first n b.1 b.2 (back b.1 b.3)).0 in
      omega (arith, above, below)

  -- and where there is one first, it is such in both ways
  pub both_first : m ≡ n → (i : ℕ) (x : X) → slice_get items i ≡ Some x → P x → (j : ℕ) (y : X) → slice_get items j ≡ Some y → Q y → (z : X) × P z × Q z
  both_first same i x at p j y there q =
      let a = first i x at p in
      let b = other j y there q in
      let one : b.1 ≡ a.1 = same_item b.1 a.1 (sym b.2 ∙ sym (ap (slice_get items) same) ∙ a.2) in
      (a.1, a.3, subst Q one b.3)

-- ---- keys

module _ {K : Type 0} (E : K → K → Bool) (laws : IsEquivalence E) where
  abbrev R : K → K → Type 0
  R x y = IsTrue (E x y)

  backward : (x y : K) → R x y → R y x
  backward x y r = laws.symm y x ∙ r

  onward : (x y z : K) → R x y → R y z → R x z
  onward x y z r s = laws.congr x y z r ∙ s

  agree_onward : (o : Option K) (x y : K) → R x y → Agree R o (Some x) → Agree R o (Some y)
  agree_onward None x y r h = h
  agree_onward (Some z) x y r h = onward z x y h r

  agree_both : (o : Option K) (x y : K) → Agree R o (Some x) → Agree R o (Some y) → R x y
  agree_both None x y h k = absurd h
  agree_both (Some z) x y h k = onward x z y (backward z x h) k

  module _ {S : Type 0} (pick : S → Option K) (items : List S) where
    -- the number of a key, if there is one
    abbrev pub IsKeyNumber : Option K → Option ℕ → Type 0
    IsKeyNumber None number = number ≡ None
    IsKeyNumber (Some key) number = (n : ℕ) × (number ≡ Some n) × IsFirst (λ s. Agree R (pick s) (Some key)) items n

    abbrev pub Stands : Option K → Type 0
    Stands None = Unit {0}
    Stands (Some key) = (i : ℕ) × (s : S) × (slice_get items i ≡ Some s) × (pick s ≡ Some key)

    its_own : (s : S) (key : K) → pick s ≡ Some key → Agree R (pick s) (Some key)
    its_own s key is = subst (λ (o : Option K). Agree R o (Some key)) (sym is) (laws.refl key)

    none_agrees : (u : Option ℕ) → Agree SameNumber u None → ⊥
    none_agrees None h = h
    none_agrees (Some n) h = h

    pub agree_numbers : (o p : Option K) (u v : Option ℕ) → IsKeyNumber o u → IsKeyNumber p v → Stands o → Stands p → (Agree R o p ↔ Agree SameNumber u v)
    agree_numbers None p u v is there at other = (λ h. absurd h, λ h. absurd (subst (λ (w : Option ℕ). Agree SameNumber w v) is h))
    agree_numbers (Some x) None u v is there at other = (λ h. absurd h, λ h. absurd (none_agrees u (subst (λ (w : Option ℕ). Agree SameNumber u w) there h)))
    agree_numbers (Some x) (Some y) u v (m, is, first) (n, there, second) (i, s, at, own) (j, t, other, its) = (forth, back)
      where
        Has : K → S → Type 0
        Has key a = Agree R (pick a) (Some key)

        forth : R x y → Agree SameNumber u v
        forth r =
            let same : m ≡ n = one_first (Has x) (Has y) items m n first second (λ a h. agree_onward (pick a) x y r h) (λ a h. agree_onward (pick a) y x (backward x y r) h) i s at (its_own s x own) in
            subst (λ (w : Option ℕ). Agree SameNumber w v) (sym is) (subst (λ (w : Option ℕ). Agree SameNumber (Some m) w) (sym there) (eq-eqb m n same))

        back : Agree SameNumber u v → R x y
        back h =
            let numbers : IsTrue (m == n) = subst (λ (w : Option ℕ). Agree SameNumber (Some m) w) there (subst (λ (w : Option ℕ). Agree SameNumber w v) is h) in
            let z = both_first (Has x) (Has y) items m n first second (eqb-true m n numbers) i s at (its_own s x own) j t other (its_own t y its) in
            agree_both (pick z.0) x y z.1 z.2

-- ---- sites

module _ {K L : Type 0} (E : K → K → Bool) (D : L → L → Bool) (one : IsEquivalence E) (two : IsEquivalence D) (sites : List (Site K L)) where
  abbrev F : K → K → Type 0
  F x y = IsTrue (E x y)

  abbrev M : L → L → Type 0
  M x y = IsTrue (D x y)

  abbrev Numbered : Site K L → Site ℕ ℕ → Type 0
  Numbered a s = IsNumbered F M sites a s

  wild_is : (a : Site K L) (s : Site ℕ ℕ) → Numbered a s → is_wild s ≡ is_wild a
  wild_is (Read l) s h = ap is_wild h.1
  wild_is (Write l) s h = ap is_wild h.1
  wild_is (Access k f) s h = ap is_wild h.1
  wild_is Check s h = ap is_wild h
  wild_is Call s h = ap is_wild h
  wild_is Loop s h = ap is_wild h

  access_is : (a : Site K L) (s : Site ℕ ℕ) → Numbered a s → is_access s ≡ is_access a
  access_is (Read l) s h = ap is_access h.1
  access_is (Write l) s h = ap is_access h.1
  access_is (Access k f) s h = ap is_access h.1
  access_is Check s h = ap is_access h
  access_is Call s h = ap is_access h
  access_is Loop s h = ap is_access h

  store_is : (a : Site K L) (s : Site ℕ ℕ) → Numbered a s → is_store s ≡ is_store a
  store_is (Read l) s h = ap is_store h.1
  store_is (Write l) s h = ap is_store h.1
  store_is (Access k f) s h = ap is_store h.1
  store_is Check s h = ap is_store h
  store_is Call s h = ap is_store h
  store_is Loop s h = ap is_store h

  kind_is : (a : Site K L) (s : Site ℕ ℕ) → Numbered a s → kind_of s ≡ kind_of a
  kind_is (Read l) s h = ap kind_of h.1
  kind_is (Write l) s h = ap kind_of h.1
  kind_is (Access k f) s h = ap kind_of h.1
  kind_is Check s h = ap kind_of h
  kind_is Call s h = ap kind_of h
  kind_is Loop s h = ap kind_of h

  abbrev FieldNumber : Option K → Option ℕ → Type 0
  FieldNumber o u = IsKeyNumber E one field_of sites o u

  abbrev LocalNumber : Option L → Option ℕ → Type 0
  LocalNumber o u = IsKeyNumber D two local_of sites o u

  number_of : (f : Option K) (u : Option ℕ) → IsFieldNumber F M sites f u → FieldNumber f u
  number_of None u h = h
  number_of (Some x) u h = h

  field_is : (a : Site K L) (s : Site ℕ ℕ) → Numbered a s → FieldNumber (field_of a) (field_of s)
  field_is (Read l) s h = ap field_of h.1
  field_is (Write l) s h = ap field_of h.1
  field_is (Access k f) s h = subst (λ (u : Option ℕ). FieldNumber f u) (sym (ap field_of h.1)) (number_of f h.0 h.2)
  field_is Check s h = ap field_of h
  field_is Call s h = ap field_of h
  field_is Loop s h = ap field_of h

  read_is : (a : Site K L) (s : Site ℕ ℕ) → Numbered a s → LocalNumber (read_of a) (read_of s)
  read_is (Read l) s h = (h.0, ap read_of h.1, h.2)
  read_is (Write l) s h = ap read_of h.1
  read_is (Access k f) s h = ap read_of h.1
  read_is Check s h = ap read_of h
  read_is Call s h = ap read_of h
  read_is Loop s h = ap read_of h

  written_is : (a : Site K L) (s : Site ℕ ℕ) → Numbered a s → LocalNumber (written_of a) (written_of s)
  written_is (Read l) s h = ap written_of h.1
  written_is (Write l) s h = (h.0, ap written_of h.1, h.2)
  written_is (Access k f) s h = ap written_of h.1
  written_is Check s h = ap written_of h
  written_is Call s h = ap written_of h
  written_is Loop s h = ap written_of h

  -- its field and its local stand where it stands
  field_stands : (a : Site K L) (i : ℕ) → slice_get sites i ≡ Some a → Stands E one field_of sites (field_of a)
  field_stands (Read l) i at = tt
  field_stands (Write l) i at = tt
  field_stands (Access k None) i at = tt
  field_stands (Access k (Some f)) i at = (i, Access k (Some f), at, refl)
  field_stands Check i at = tt
  field_stands Call i at = tt
  field_stands Loop i at = tt

  read_stands : (a : Site K L) (i : ℕ) → slice_get sites i ≡ Some a → Stands D two local_of sites (read_of a)
  read_stands (Read l) i at = (i, Read l, at, refl)
  read_stands (Write l) i at = tt
  read_stands (Access k f) i at = tt
  read_stands Check i at = tt
  read_stands Call i at = tt
  read_stands Loop i at = tt

  written_stands : (a : Site K L) (i : ℕ) → slice_get sites i ≡ Some a → Stands D two local_of sites (written_of a)
  written_stands (Read l) i at = tt
  written_stands (Write l) i at = (i, Write l, at, refl)
  written_stands (Access k f) i at = tt
  written_stands Check i at = tt
  written_stands Call i at = tt
  written_stands Loop i at = tt

  module _ (i j : ℕ) (a b : Site K L) (s t : Site ℕ ℕ) (at : slice_get sites i ≡ Some a) (there : slice_get sites j ≡ Some b) (h : Numbered a s) (k : Numbered b t) where
    ordered_is : is_ordered s t ≡ is_ordered a b
    ordered_is = λ x. (wild_is a s h x && (wild_is b t k x || access_is b t k x)) || (access_is a s h x && wild_is b t k x)

    stores_forth : (IsTrue (is_store a) ⊎ IsTrue (is_store b)) → IsTrue (is_store s) ⊎ IsTrue (is_store t)
    stores_forth (inl e) = inl (store_is a s h ∙ e)
    stores_forth (inr e) = inr (store_is b t k ∙ e)

    stores_back : (IsTrue (is_store s) ⊎ IsTrue (is_store t)) → IsTrue (is_store a) ⊎ IsTrue (is_store b)
    stores_back (inl e) = inl (sym (store_is a s h) ∙ e)
    stores_back (inr e) = inr (sym (store_is b t k) ∙ e)

    pub related_numbers : (kind : DepKind) → (Related F M kind a b ↔ Related SameNumber SameNumber kind s t)
    related_numbers Order = (λ e. ordered_is ∙ e, λ e. sym ordered_is ∙ e)
    related_numbers Field =
        let both = agree_numbers E one field_of sites (field_of a) (field_of b) (field_of s) (field_of t) (field_is a s h) (field_is b t k) (field_stands a i at) (field_stands b j there) in
        (λ p. (both.0 p.0, stores_forth p.1), λ p. (both.1 p.0, stores_back p.1))
    related_numbers Sync = (
      λ p. subst (λ (o : Option Kind). Agree (λ x y. is_allowed x y ≡ false) o (kind_of t)) (sym (kind_is a s h)) (subst (λ (o : Option Kind). Agree (λ x y. is_allowed x y ≡ false) (kind_of a) o) (sym (kind_is b t k)) p),
      λ p. subst (λ (o : Option Kind). Agree (λ x y. is_allowed x y ≡ false) o (kind_of b)) (kind_is a s h) (subst (λ (o : Option Kind). Agree (λ x y. is_allowed x y ≡ false) (kind_of s) o) (kind_is b t k) p),
    )
    related_numbers Flow = agree_numbers D two local_of sites (written_of a) (read_of b) (written_of s) (read_of t) (written_is a s h) (read_is b t k) (written_stands a i at) (read_stands b j there)
    related_numbers Anti = agree_numbers D two local_of sites (read_of a) (written_of b) (read_of s) (written_of t) (read_is a s h) (written_is b t k) (read_stands a i at) (written_stands b j there)
    related_numbers Output = agree_numbers D two local_of sites (written_of a) (written_of b) (written_of s) (written_of t) (written_is a s h) (written_is b t k) (written_stands a i at) (written_stands b j there)

  pub is_row : (row : List (Site ℕ ℕ)) → AllZip Numbered sites row → IsRowOf F M sites row
  is_row row zip edges d =
      depends_alike F M SameNumber SameNumber sites row (zip_count Numbered sites row zip)
      (λ kind i j a b s t at there is other. related_numbers i j a b s t at there (zip_get Numbered sites row zip i a s at is) (zip_get Numbered sites row zip j b t there other) kind)
      edges d.kind d.first d.second
