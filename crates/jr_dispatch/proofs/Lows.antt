-- Methods that are parted from others, and classes below them, as a walk over the rows finds them.
use Rattle.std.proofs.Common.{◌≡◌, ◌≢◌, ℕ, ◌+◌, ◌<◌, List, [], ◌∷◌, ◌++◌, Option, Some, None, Bool, true, false, refl, sym, ap, subst, ◌∙◌, inl, inr}
use Rattle.std.specs.Prelude.{◌⊎◌, ◌↔◌, IsTrue, slice_get, length}
use Rattle.jr_table.specs.declared.entries.Kind.{Kind}
use Rattle.jr_table.specs.declared.entries.Entry.{Entry}
use Rattle.jr_table.specs.Rows.{Row}
use Rattle.jr_table.specs.Entries.{entries_of}
use Rattle.jr_table.specs.Conditions.{AreRows}
use Rattle.jr_table.specs.Chains.{IsAcyclic, parent_of, In, IsSubclassAt}
use Rattle.jr_table.specs.Members.{DeclaresVirtual}
use Rattle.jr_table.specs.Looking.{is_virtual, own_row, nearest}
use Rattle.jr_table.proofs.RowLaws.{acyclic_rows, some_inside}
use Rattle.jr_table.proofs.OneEach.{one_virtual}
use Rattle.jr_table.proofs.StepsUp.{itself}
use Rattle.jr_dispatch.specs.Changes.{AreAlike, HasNames, ChangesAt, DiffersAbove, IsParted, ArePartedClasses, IsClassAt, IsLowClass, IsFirst, IsFirstChangeAt}
use Rattle.jr_dispatch.specs.Moves.{AreMoves, is_asked}
use Rattle.jr_dispatch.proofs.Upwards.{split, step, upwards}
use Rattle.jr_dispatch.proofs.Connected.{declared_at}
use Rattle.jr_dispatch.proofs.Parting.{Programs, own_is, image_of, IsUnder, change_is_under, under_changes}
use Rattle.jr_dispatch.proofs.Asking.{parted_is_asked}
use Rattle.jr_dispatch.proofs.Rounds.{has_row, in_more}

-- ---- class by class upwards

-- the climb has come to class at, below which no class differs
pub record IsAsFar (old new : List Entry) (t u : ℕ → Entry → Bool) (c at : ℕ) : Type 0 where
  pub reached : IsSubclassAt old c at
  pub rest : DiffersAbove old new t u c → DiffersAbove old new t u at

module _ (old new : List Entry) (t u : ℕ → Entry → Bool) (acyclic : IsAcyclic old) where
  pub begins : (c : ℕ) → IsAsFar old new t u c c
  begins c = record { reached = itself old acyclic c c refl; rest = λ d. d }

  further : (at : ℕ) → (own_row old t at ≢ own_row new u at → ⊥) → (d : DiffersAbove old new t u at) → (p : ℕ) × (parent_of old at ≡ Some p) × IsSubclassAt old p d.at
  further at same d = of (split old at d.at d.above)
    where
      of : ((at ≡ d.at) ⊎ ((p : ℕ) × (parent_of old at ≡ Some p) × IsSubclassAt old p d.at)) → (p : ℕ) × (parent_of old at ≡ Some p) × IsSubclassAt old p d.at
      of (inl e) = absurd (same (subst (λ (n : ℕ). own_row old t n ≢ own_row new u n) (sym e) d.differs))
      of (inr s) = s

  pub goes_on : (c at p : ℕ) → IsAsFar old new t u c at → (own_row old t at ≢ own_row new u at → ⊥) → parent_of old at ≡ Some p → IsAsFar old new t u c p
  goes_on c at p h same up = record {
    reached = upwards old c at p h.reached (step old at p p up (itself old acyclic p p refl));
    rest = λ d.
        let e = h.rest d in
        let f = further at same e in
        let z : Some f.0 ≡ Some p = sym f.1 ∙ up in
        let q : f.0 ≡ p = cc in
        record { at = e.at; above = subst (λ (n : ℕ). IsSubclassAt old n e.at) q f.2; differs = e.differs };
  }

  pub here : (c at : ℕ) → IsAsFar old new t u c at → own_row old t at ≢ own_row new u at → DiffersAbove old new t u c
  here c at h differs = record { at = at; above = h.reached; differs = differs }

  pub nowhere : (c at : ℕ) → IsAsFar old new t u c at → (own_row old t at ≢ own_row new u at → ⊥) → parent_of old at ≡ None → DiffersAbove old new t u c → ⊥
  nowhere c at h same top d = let f = further at same (h.rest d) in let z : None ≡ Some f.0 = sym top ∙ f.1 in absurd cc

-- ---- the names of a row

pub programs_of : (rows news : List Row) → AreRows rows → AreRows news → AreAlike (entries_of rows) (entries_of news) → Programs (entries_of rows) (entries_of news)
programs_of rows news are fit alike = record {
  alike = alike;
  old_acyclic = acyclic_rows rows are;
  new_acyclic = acyclic_rows news fit;
  one_old = one_virtual rows are;
  one_new = one_virtual news fit;
}

module _ (old new : List Entry) (ps : Programs old new) (j : ℕ) (e f : Entry) (at : slice_get old j ≡ Some e) (bt : slice_get new j ≡ Some f) where
  pub takes_too : f.params ≡ e.params
  takes_too = let g = ps.alike.there j e at in ap (λ (x : Entry). x.params) (some_inside (slice_get new j) f g.0 bt g.1) ∙ g.2.takes

  -- a row that is its class's own has its names
  pub own_names : own_row old (is_virtual e.name e.params) e.class ≡ Some j → HasNames old new e.name f.name e.params e.class j
  own_names own =
      let v = declared_at old e.name e.params e.class j own in
      let w = image_of old new ps e.name e.params e.class j v in
      let same : w.0 ≡ f.name = sym w.1.declared.named ∙ ap (λ (x : Entry). x.name) (some_inside (slice_get new j) w.1.declared.row f w.1.declared.stands bt) in
      record { before = v; after = subst (λ (n : List ℕ). DeclaresVirtual new n e.params e.class j) same w.1 }

  pub record AreNames (was now : List ℕ) (params : List Kind) (c : ℕ) : Type 0 where
    pub was_is : was ≡ e.name
    pub now_is : now ≡ f.name
    pub takes : params ≡ e.params
    pub takes_now : params ≡ f.params
    pub class : c ≡ e.class

  pub one_names : (was now : List ℕ) (params : List Kind) (c : ℕ) → HasNames old new was now params c j → AreNames was now params c
  one_names was now params c h =
      let s = some_inside (slice_get old j) h.before.declared.row e h.before.declared.stands at in
      let t = some_inside (slice_get new j) h.after.declared.row f h.after.declared.stands bt in
      record {
        was_is = sym h.before.declared.named ∙ ap (λ (x : Entry). x.name) s;
        now_is = sym h.after.declared.named ∙ ap (λ (x : Entry). x.name) t;
        takes = sym h.before.declared.takes ∙ ap (λ (x : Entry). x.params) s;
        takes_now = sym h.after.declared.takes ∙ ap (λ (x : Entry). x.params) t;
        class = sym h.before.declared.class ∙ ap (λ (x : Entry). x.class) s;
      }

  -- the row is its class's own
  pub names_own : (was now : List ℕ) (params : List Kind) (c : ℕ) → HasNames old new was now params c j → own_row old (is_virtual e.name e.params) e.class ≡ Some j
  names_own was now params c h =
      let s = one_names was now params c h in
      own_is old ps.old_acyclic ps.one_old e.name e.params e.class j
      (subst (λ (n : ℕ). DeclaresVirtual old e.name e.params n j) s.class
      (subst (λ (p : List Kind). DeclaresVirtual old e.name p c j) s.takes (subst (λ (n : List ℕ). DeclaresVirtual old n params c j) s.was_is h.before)))

  -- ---- parted

  pub is_parted : own_row old (is_virtual e.name e.params) e.class ≡ Some j → DiffersAbove old new (is_virtual e.name e.params) (is_virtual f.name f.params) e.class → IsParted old new e.class j
  is_parted own d = record {
    was = e.name;
    now = f.name;
    params = e.params;
    names = own_names own;
    differs = subst (λ (p : List Kind). DiffersAbove old new (is_virtual e.name e.params) (is_virtual f.name p) e.class) takes_too d;
  }

  pub parted_differs : (c : ℕ) → IsParted old new c j → DiffersAbove old new (is_virtual e.name e.params) (is_virtual f.name f.params) e.class
  parted_differs c h =
      let s = one_names h.was h.now h.params c h.names in
      let t : ℕ → Entry → Bool = is_virtual e.name e.params in
      let u : ℕ → Entry → Bool = is_virtual f.name f.params in
      let p : is_virtual h.was h.params ≡ t = λ i. is_virtual (s.was_is i) (s.takes i) in
      let q : is_virtual h.now h.params ≡ u = λ i. is_virtual (s.now_is i) (s.takes_now i) in
      subst (λ (n : ℕ). DiffersAbove old new t u n) s.class
      (subst (λ (x : ℕ → Entry → Bool). DiffersAbove old new t x c) q (subst (λ (x : ℕ → Entry → Bool). DiffersAbove old new x (is_virtual h.now h.params) c) p h.differs))

  pub parted_class : (c : ℕ) → IsParted old new c j → c ≡ e.class
  parted_class c h = (one_names h.was h.now h.params c h.names).class

  -- ---- changed

  pub is_change : (k : ℕ) → IsSubclassAt old k e.class → own_row old (is_virtual e.name e.params) e.class ≡ Some j
      → nearest old (is_virtual e.name e.params) k ≢ nearest new (is_virtual f.name f.params) k → ChangesAt old new k j
  is_change k below own d = record {
    was = e.name;
    now = f.name;
    params = e.params;
    class = e.class;
    names = own_names own;
    below = below;
    differs = subst (λ (p : List Kind). nearest old (is_virtual e.name e.params) k ≢ nearest new (is_virtual f.name p) k) takes_too d;
  }

  pub change_below : (k : ℕ) → ChangesAt old new k j → IsSubclassAt old k e.class
  change_below k h = subst (IsSubclassAt old k) (one_names h.was h.now h.params h.class h.names).class h.below

  pub change_own : (k : ℕ) → ChangesAt old new k j → own_row old (is_virtual e.name e.params) e.class ≡ Some j
  change_own k h = names_own h.was h.now h.params h.class h.names

  pub change_differs : (k : ℕ) → ChangesAt old new k j → nearest old (is_virtual e.name e.params) k ≢ nearest new (is_virtual f.name f.params) k
  change_differs k h =
      let s = one_names h.was h.now h.params h.class h.names in
      λ q. h.differs ((λ i. nearest old (is_virtual (s.was_is i) (s.takes i)) k) ∙ q ∙ sym (λ i. nearest new (is_virtual (s.now_is i) (s.takes_now i)) k))

-- ---- one row of the walk for methods that are parted

pub none_parted_here : (old new : List Entry) (n : ℕ) (xs : List ℕ) → ((c : ℕ) → IsParted old new c n → ⊥) → (c : ℕ) → In xs c ↔ (In xs c ⊎ IsParted old new c n)
none_parted_here old new n xs none c = (λ h. inl h, back)
  where
    back : (In xs c ⊎ IsParted old new c n) → In xs c
    back (inl h) = h
    back (inr h) = absurd (none c h)

pub one_parted_here : (old new : List Entry) (n d : ℕ) (xs ys : List ℕ) → ys ≡ xs ++ d ∷ [] → IsParted old new d n → ((c : ℕ) → IsParted old new c n → c ≡ d) → (c : ℕ) → In ys c ↔ (In xs c ⊎ IsParted old new c n)
one_parted_here old new n d xs ys is here one c = (λ h. to ((in_more xs ys d is c).0 h), λ h. (in_more xs ys d is c).1 (back h))
  where
    to : (In xs c ⊎ (d ≡ c)) → In xs c ⊎ IsParted old new c n
    to (inl h) = inl h
    to (inr e) = inr (subst (λ (x : ℕ). IsParted old new x n) e here)

    back : (In xs c ⊎ IsParted old new c n) → In xs c ⊎ (d ≡ c)
    back (inl h) = inl h
    back (inr h) = inr (sym (one c h))

-- a row without its names is not parted
pub without_old : (old new : List Entry) (n c : ℕ) → slice_get old n ≡ None → IsParted old new c n → ⊥
without_old old new n c none h = let z = sym none ∙ h.names.before.declared.stands in absurd cc

pub without_new : (old new : List Entry) (n c : ℕ) → slice_get new n ≡ None → IsParted old new c n → ⊥
without_new old new n c none h = let z = sym none ∙ h.names.after.declared.stands in absurd cc

pub asked : (rows news : List Row) (are : AreRows rows) (fit : AreRows news) (alike : AreAlike (entries_of rows) (entries_of news)) (moves : List ℕ)
    → AreMoves (entries_of rows) (entries_of news) (length rows) moves → (n c : ℕ) (e : Entry) → slice_get (entries_of rows) n ≡ Some e → IsParted (entries_of rows) (entries_of news) c n
    → is_asked (entries_of rows) (entries_of news) moves e.name ≡ true
asked rows news are fit alike moves all n c e at h =
    let t = parted_is_asked (entries_of rows) (entries_of news) (programs_of rows news are fit alike) (length rows) (has_row rows) moves all c n h in
    let s : h.was ≡ e.name = sym h.names.before.declared.named ∙ ap (λ (x : Entry). x.name) (some_inside (slice_get (entries_of rows) n) h.names.before.declared.row e h.names.before.declared.stands at) in
    subst (λ (q : List ℕ). is_asked (entries_of rows) (entries_of news) moves q ≡ true) s t

-- ---- classes and methods

module _ (old new : List Entry) (ps : Programs old new) (lows : List ℕ) (are : ArePartedClasses old new lows) where
  pub low_changes : (c : ℕ) → IsLowClass old lows c → (j : ℕ) × ChangesAt old new c j
  low_changes c h =
      let p = (are h.low).0 h.among in
      under_changes old new ps c (record { low = h.low; row = p.0; parted = p.1; below = h.below })

  pub change_low : (c j : ℕ) → IsClassAt old c → ChangesAt old new c j → IsLowClass old lows c
  change_low c j is h =
      let u = change_is_under old new ps c j h in
      record { is_class = is; low = u.low; among = (are u.low).1 (u.row, u.parted); below = u.below }

  pub first_is : (c j : ℕ) → IsFirst (IsLowClass old lows) c → IsFirst (ChangesAt old new c) j → IsFirstChangeAt old new c j
  first_is c j h k = record {
    is_class = h.has.is_class;
    changes = k.has;
    first_class = λ d i is x. h.first d (change_low d i is x);
    first_method = k.first;
  }
