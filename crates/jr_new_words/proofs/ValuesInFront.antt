-- Values in front of a dot: of locals by the classes that they are declared with, and of fields.
use Rattle.std.proofs.Common.{◌≡◌, ℕ, zero, suc, ◌<◌, List, [], ◌∷◌, map, Option, Some, None, Bool, true, false, cond, refl, sym, ap, subst, ◌∙◌, inl, inr, arith}
use Rattle.std.specs.Prelude.{◌⊎◌, ◌==◌, option_map, slice_get}
use Rattle.std.proofs.lemmas.Bool.{cases_order}
use Rattle.std.proofs.lemmas.Bool.Decides.{Decides-eqb}
use Rattle.std.proofs.lemmas.Option.{same_Some, slice_get-map}
use Rattle.jr_table.specs.Keys.{ClassKey, FieldKey, Ty, int, boolean, void, null, class}
use Rattle.jr_table.specs.Decls.{MemberKey, LocalKey, class_decl, field_decl, local_decl}
use Rattle.jr_table.specs.Rows.{Row}
use Rattle.jr_table.specs.Conditions.{AreRows}
use Rattle.jr_table.specs.Entries.{IsRowOf, number_of}
use Rattle.jr_table.specs.Found.{Found, one, nothing}
use Rattle.jr_table.specs.Lookup.{FindsTypeNamed, FindsTypeOf}
use Rattle.jr_table.specs.LookupLaws.{EachHasOne}
use Rattle.jr_table.specs.Context.{Context, Local, written, IsLocalType, NamesClass, scope_of}
use Rattle.jr_scopes.specs.Helds.{Held, key_of, local_of, or_later, numbered}
use Rattle.jr_images.specs.Images.{Renaming}
use Rattle.jr_images.specs.Words.{InFront, class_name, value_of, neither, HasImage}
use Rattle.jr_new_words.specs.Mappings.{KeyMapping, same_keys, renamed, LocalMapping, all_stay, renumbered, image_local, Mapping, HasClass, HasClassBy, IsLast, class_to, locals_to, rows_to, StandsSo}
use Rattle.jr_new_words.specs.Ways.{type_named, type_behind}
use Rattle.jr_new_words.specs.Valued.{of_type, IsValue, WritesFound}
use Rattle.jr_new_words.proofs.OneEach.{one_each}
use Rattle.jr_new_words.proofs.Parents.{row_stands, the_number}

class_is : (k t : ClassKey) → class k ≡ class t → t ≡ k
class_is k t e = cc

-- ---- the image of a class

module _ (rows : List Row) (g : Mapping) where
  -- another property of the same classes
  pub value_along : (H J : ClassKey → Type 0) → ((t : ClassKey) → H t → J t) → ((t : ClassKey) → J t → H t) → (w : InFront) → IsValue rows g H w → IsValue rows g J w
  value_along H J to from (class_name b) v = v
  value_along H J to from (value_of b) (t, j, has, row, is) = (t, j, to t has, row, is)
  value_along H J to from neither never = λ t j has row. never t j (from t has) row

  pub no_value : (H : ClassKey → Type 0) → ((t : ClassKey) → H t → ⊥) → IsValue rows g H neither
  no_value H never = λ t j has row. never t has

  pub no_row_value : AreRows rows → (k : ClassKey) → None ≡ number_of rows (class_decl k) → IsValue rows g (λ t. t ≡ k) neither
  no_row_value are k none = λ t j is row.
      let found = the_number rows are (class_decl t) j row in
      let e : None ≡ Some j = none ∙ ap (λ (x : ClassKey). number_of rows (class_decl x)) (sym is) ∙ found in
      cc

  -- of a class that has a row
  pub row_value : (k : ClassKey) (j : ℕ) → Some j ≡ number_of rows (class_decl k) → (w : InFront) → w ≡ value_of (class_to g k) → IsValue rows g (λ t. t ≡ k) w
  row_value k j has w same = subst (IsValue rows g (λ t. t ≡ k)) (sym same) (k, j, refl, row_stands rows (class_decl k) j (sym has), refl)

  -- of what is found
  pub found_class : (f : Found) (k : ClassKey) → f ≡ one (class_decl k) → (w : InFront) → IsValue rows g (λ t. t ≡ k) w → IsValue rows g (λ t. f ≡ one (class_decl t)) w
  found_class f k is w v = value_along (λ t. t ≡ k) (λ t. f ≡ one (class_decl t)) (λ t e. is ∙ ap (λ (x : ClassKey). one (class_decl x)) (sym e))
      (λ t e. let same : one (class_decl t) ≡ one (class_decl k) = sym e ∙ is in cc) w v

  -- of a type
  pub type_class : (k : ClassKey) (w : InFront) → IsValue rows g (λ t. t ≡ k) w → IsValue rows g (λ t. class k ≡ class t) w
  type_class k w v = value_along (λ t. t ≡ k) (λ t. class k ≡ class t) (λ t e. ap class (sym e)) (λ t e. class_is k t e) w v

  -- ---- of a local's type

  module _ (are : AreRows rows) (each : EachHasOne rows) (c : Context) where
    found_one : (outer : Option (List ℕ)) (name : List ℕ) (a b : Found) → WritesFound rows c outer name a → WritesFound rows c outer name b → a ≡ b
    found_one None name a b x y = one_each rows (scope_of c) are each type_named name [] a b x y
    found_one (Some outer) name a b x y = one_each rows (scope_of c) are each (type_behind outer) name [] a b x y

    names : (outer : Option (List ℕ)) (name : List ℕ) (f : Found) (t : ClassKey) → WritesFound rows c outer name f → f ≡ one (class_decl t) → NamesClass rows (scope_of c) outer name t
    names None name f t finds is = subst (λ (x : Found). FindsTypeNamed rows (scope_of c) name x) is finds
    names (Some outer) name f t (inl (k, front, back)) is = (k, front, subst (λ (x : Found). FindsTypeOf rows (scope_of c) k name x) is back)
    names (Some outer) name f t (inr (never, none)) is = let e : nothing ≡ one (class_decl t) = sym none ∙ is in absurd cc

    finds : (outer : Option (List ℕ)) (name : List ℕ) (t : ClassKey) → NamesClass rows (scope_of c) outer name t → WritesFound rows c outer name (one (class_decl t))
    finds None name t h = h
    finds (Some outer) name t (k, front, back) = inl (k, front, back)

    pub written_value : (outer : Option (List ℕ)) (name : List ℕ) (f : Found) (w : InFront) → WritesFound rows c outer name f → IsValue rows g (λ t. f ≡ one (class_decl t)) w
        → IsValue rows g (λ t. IsLocalType rows (scope_of c) (written outer name) (class t)) w
    written_value outer name f w found v = value_along (λ t. f ≡ one (class_decl t)) (λ t. IsLocalType rows (scope_of c) (written outer name) (class t))
        (λ t e. (t, names outer name f t found e, refl))
        (λ t (k, named, e). found_one outer name f (one (class_decl t)) found (subst (λ (x : ClassKey). WritesFound rows c outer name (one (class_decl x))) (sym (class_is k t (sym e))) (finds outer name k named)))
        w v

-- ---- the last local of a number

module _ (n : ℕ) where
  pub record Last (hs : List Held) (h : Held) : Type 0 where
    pub place : ℕ
    pub stands : slice_get hs place ≡ Some h
    pub numbers : h.number ≡ n
    pub later : (i : ℕ) (x : Held) → place < i → slice_get hs i ≡ Some x → x.number ≡ n → ⊥

  -- none has it
  abbrev pub Missing : List Held → Type 0
  Missing hs = (i : ℕ) (x : Held) → slice_get hs i ≡ Some x → x.number ≡ n → ⊥

  missing_in : (h : Held) (hs : List Held) → (numbered n hs ≡ None → Missing hs) → (o : Option Held) → numbered n hs ≡ o → (b : Bool) → (h.number == n) ≡ b → or_later o (cond b (Some h) None) ≡ None
      → Missing (h ∷ hs)
  missing_in h hs rest (Some y) e b t none i x at is = absurd cc
  missing_in h hs rest None e true t none i x at is = absurd cc
  missing_in h hs rest None e false t none zero x at is =
      let same : h ≡ x = same_Some h x at in
      let has : (h.number == n) ≡ true = (Decides-eqb h.number n).1 (ap (λ (y : Held). y.number) same ∙ is) in
      let f : true ≡ false = sym has ∙ t in
      absurd cc
  missing_in h hs rest None e false t none (suc i) x at is = rest e i x at is

  pub missing : (hs : List Held) → numbered n hs ≡ None → Missing hs
  missing [] none i x at is = absurd cc
  missing (h ∷ hs) none i x at is = missing_in h hs (missing hs) (numbered n hs) refl (h.number == n) refl none i x at is

  behind_last : (x : Held) (hs : List Held) (h : Held) (l : Last hs h) (i : ℕ) (z : Held) → suc l.place < i → slice_get (x ∷ hs) i ≡ Some z → z.number ≡ n → ⊥
  behind_last x hs h l zero z less at is = omega (arith, less)
  behind_last x hs h l (suc i) z less at is = l.later i z (omega (arith, less)) at is

  behind_first : (x : Held) (hs : List Held) → Missing hs → (i : ℕ) (z : Held) → 0 < i → slice_get (x ∷ hs) i ≡ Some z → z.number ≡ n → ⊥
  behind_first x hs none zero z less at is = omega (arith, less)
  behind_first x hs none (suc i) z less at is = none i z at is

  last_in : (x : Held) (hs : List Held) (h : Held) → ((y : Held) → numbered n hs ≡ Some y → Last hs y) → (o : Option Held) → numbered n hs ≡ o → (b : Bool) → (x.number == n) ≡ b
      → or_later o (cond b (Some x) None) ≡ Some h → Last (x ∷ hs) h
  last_in x hs h rest (Some y) e b t is =
      let l = rest h (e ∙ is) in
      record { place = suc l.place; stands = l.stands; numbers = l.numbers; later = behind_last x hs h l }
  last_in x hs h rest None e true t is = record {
    place = 0;
    stands = is;
    numbers = subst (λ (y : Held). y.number ≡ n) (same_Some x h is) ((Decides-eqb x.number n).0 t);
    later = behind_first x hs (missing hs e);
  }
  last_in x hs h rest None e false t is = absurd cc

  pub last_of_number : (hs : List Held) (h : Held) → numbered n hs ≡ Some h → Last hs h
  last_of_number [] h e = absurd cc
  last_of_number (x ∷ hs) h e = last_in x hs h (last_of_number hs) (numbered n hs) refl (x.number == n) refl e

-- ---- how the image of a local stands

module _ (rows : List Row) (g : Renaming) (c : Context) where
  -- a key is that of one local
  pub has_one : (k : LocalKey) (l m : Local) → HasImage rows g c k l → HasImage rows g c k m → l ≡ m
  has_one k l m x y = by (cases_order x.number y.number)
    where
      by : (x.number ≡ y.number) ⊎ ((x.number < y.number) ⊎ (y.number < x.number)) → l ≡ m
      by (inl e) = same_Some l m (sym x.stands ∙ ap (slice_get c.locals) e ∙ y.stands)
      by (inr (inl less)) = absurd (x.last y.number m less y.stands y.is)
      by (inr (inr less)) = absurd (y.last x.number l less x.stands x.is)

module _ (ls : List Local) where
  one_last : (k : LocalKey) (l m : Local) → IsLast ls k l → IsLast ls k m → l ≡ m
  one_last k l m x y = by (cases_order x.number y.number)
    where
      by : (x.number ≡ y.number) ⊎ ((x.number < y.number) ⊎ (y.number < x.number)) → l ≡ m
      by (inl e) = same_Some l m (sym x.stands ∙ ap (slice_get ls) e ∙ y.stands)
      by (inr (inl less)) = absurd (x.last y.number m less y.stands y.is)
      by (inr (inr less)) = absurd (y.last x.number l less x.stands x.is)

mapped : {X Y : Type 0} (f : X → Y) (y : Y) (o : Option X) → option_map f o ≡ Some y → (x : X) × (o ≡ Some x) × (f x ≡ y)
mapped f y None e = absurd cc
mapped f y (Some x) e = (x, refl, same_Some (f x) y e)

-- of which class a local is, by how keys and locals are mapped
module _ (rows : List Row) (c : Context) (k : LocalKey) (b : ClassKey) (new : List Row) where
  abbrev mapping : KeyMapping → LocalMapping → Mapping
  mapping x y = record { keys = x; locals = y; new = new }

  abbrev image : Renaming → Local → Local
  image g l = image_local (renamed g) l.key.number l

  -- the local whose image it is
  before : (g : Renaming) (i : ℕ) (m : Local) → slice_get (map (image g) c.locals) i ≡ Some m → (l : Local) × (slice_get c.locals i ≡ Some l) × (image g l ≡ m)
  before g i m at = mapped (image g) m (slice_get c.locals i) (sym (slice_get-map (image g) c.locals i) ∙ at)

  behind : (g : Renaming) (i : ℕ) (l : Local) → slice_get c.locals i ≡ Some l → slice_get (map (image g) c.locals) i ≡ Some (image g l)
  behind g i l at = slice_get-map (image g) c.locals i ∙ ap (option_map (image g)) at

  to_class : (x : KeyMapping) (y : LocalMapping) → HasClass rows (mapping x y) c k b → HasClassBy x y rows (mapping x y) c k b
  to_class same_keys y h = h
  to_class (renamed g) (renumbered r) h = h
  to_class (renamed g) all_stay (m, t, j, last, type, row, is) =
      let l = before g last.number m last.stands in (
        l.0,
        t,
        j,
        record {
          number = last.number;
          stands = l.1;
          is = ap (λ (z : Local). z.key) l.2 ∙ last.is;
          last = λ i other less at e. last.last i (image g other) less (behind g i other at) e;
        },
        subst (λ (z : Local). IsLocalType rows (scope_of c) z.type (class t)) (sym l.2) type,
        row,
        is,
      )

  of_class : (x : KeyMapping) (y : LocalMapping) → HasClassBy x y rows (mapping x y) c k b → HasClass rows (mapping x y) c k b
  of_class same_keys y h = h
  of_class (renamed g) (renumbered r) h = h
  of_class (renamed g) all_stay (l, t, j, last, type, row, is) = (
    image g l,
    t,
    j,
    record {
      number = last.number;
      stands = behind g last.number l last.stands;
      is = last.is;
      last = λ i other less at e. let z = before g i other at in last.last i z.0 less z.1 (ap (λ (z : Local). z.key) z.2 ∙ e);
    },
    type,
    row,
    is,
  )

-- the locals of the new place are those of a member
module _ (rows : List Row) (g : Mapping) (c : Context) (m : MemberKey) (hs : List Held) (are : locals_to g c ≡ map (local_of m) hs) where
  -- a local in scope is one of the member's
  held_at : (i : ℕ) (l : Local) → slice_get (locals_to g c) i ≡ Some l → (x : Held) × (slice_get hs i ≡ Some x) × (local_of m x ≡ l)
  held_at i l at = mapped (local_of m) l (slice_get hs i) (sym (slice_get-map (local_of m) hs i) ∙ ap (λ ls. slice_get ls i) (sym are) ∙ at)

  has_image : (n : ℕ) (h : Held) → Last n hs h → IsLast (locals_to g c) (key_of m n) (local_of m h)
  has_image n h l = record {
    number = l.place;
    stands = ap (λ ls. slice_get ls l.place) are ∙ slice_get-map (local_of m) hs l.place ∙ ap (option_map (local_of m)) l.stands;
    is = ap (key_of m) l.numbers;
    last = λ i other less at e. let x = held_at i other at in l.later i x.0 less x.1 (ap (λ (o : Local). o.key.number) x.2 ∙ ap (λ (k : LocalKey). k.number) e);
  }

  abbrev has_class : (k : LocalKey) (b : ClassKey) → HasClassBy g.keys g.locals rows g c k b → HasClass rows g c k b
  has_class k b v = of_class rows c k b g.new g.keys g.locals v

  pub local_value : (n : ℕ) (h : Held) → numbered n hs ≡ Some h → (w : InFront) → IsValue rows g (λ t. IsLocalType rows (scope_of c) h.type (class t)) w
      → StandsSo rows g c (one (local_decl (key_of m n))) w
  local_value n h e (class_name b) v = absurd v
  local_value n h e (value_of b) (t, j, type, row, is) = to_class rows c (key_of m n) b g.new g.keys g.locals (local_of m h, t, j, has_image n h (last_of_number n hs h e), type, row, is)
  local_value n h e neither never = (λ b q. cc, λ b v. by b (has_class (key_of m n) b v))
    where
      by : (b : ClassKey) → HasClass rows g c (key_of m n) b → ⊥
      by b (l, t, j, image, type, row, is) =
          never t j (subst (λ (x : Local). IsLocalType rows (scope_of c) x.type (class t)) (one_last (locals_to g c) (key_of m n) l (local_of m h) image (has_image n h (last_of_number n hs h e))) type) row

  pub no_local : (n : ℕ) → numbered n hs ≡ None → StandsSo rows g c (one (local_decl (key_of m n))) neither
  no_local n none = (λ b q. cc, λ b v. by b (has_class (key_of m n) b v))
    where
      by : (b : ClassKey) → HasClass rows g c (key_of m n) b → ⊥
      by b (l, t, j, image, type, row, is) =
          let x = held_at image.number l image.stands in
          missing n hs none image.number x.0 x.1 (ap (λ (o : Local). o.key.number) x.2 ∙ ap (λ (k : LocalKey). k.number) image.is)

  -- of another member
  pub foreign : (k : LocalKey) → (k.member ≡ m → ⊥) → StandsSo rows g c (one (local_decl k)) neither
  foreign k other = (λ b q. cc, λ b v. by b (has_class k b v))
    where
      by : (b : ClassKey) → HasClass rows g c k b → ⊥
      by b (l, t, j, image, type, row, is) =
          let x = held_at image.number l image.stands in
          other (ap (λ (q : LocalKey). q.member) (sym image.is) ∙ ap (λ (o : Local). o.key.member) (sym x.2))

-- ---- fields

module _ (rows : List Row) (g : Mapping) (c : Context) (are : AreRows (rows_to g rows)) (q : FieldKey) (j : ℕ) (row : Row) (stands : slice_get (rows_to g rows) j ≡ Some row) (is : row.decl ≡ field_decl q)
  where
    own : IsRowOf (rows_to g rows) (field_decl q) j
    own = record { row = row; stands = stands; declares = is }

    same_row : (n : ℕ) (i : IsRowOf (rows_to g rows) (field_decl q) n) → i.row ≡ row
    same_row n i = same_Some i.row row (sym i.stands ∙ ap (slice_get (rows_to g rows)) (are.one_each (field_decl q) n j i own) ∙ stands)

    no_class : (o : Option Ty) → row.type ≡ o → ((b : ClassKey) → o ≡ Some (class b) → ⊥) → StandsSo rows g c (one (field_decl q)) neither
    no_class o type never = (λ b e. cc, λ b (n, i, e). never b (sym type ∙ ap (λ (r : Row). r.type) (sym (same_row n i)) ∙ e))

    by_type : (o : Option Ty) → row.type ≡ o → StandsSo rows g c (one (field_decl q)) (of_type o)
    unfolding own
    by_type None e = no_class None e (λ b x. cc)
    by_type (Some int) e = no_class (Some int) e (λ b x. cc)
    by_type (Some boolean) e = no_class (Some boolean) e (λ b x. cc)
    by_type (Some void) e = no_class (Some void) e (λ b x. cc)
    by_type (Some null) e = no_class (Some null) e (λ b x. cc)
    by_type (Some (class k)) e = (j, own, e)

    pub field_value : (w : InFront) → w ≡ of_type row.type → StandsSo rows g c (one (field_decl q)) w
    field_value w e = subst (StandsSo rows g c (one (field_decl q))) (sym e) (by_type row.type refl)
