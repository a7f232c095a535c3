-- What overrides the highest method that a method overrides is its family.
use Rattle.std.proofs.Common.{◌≡◌, ◌≢◌, ℕ, ◌<◌, List, [], ◌∷◌, Option, Some, None, Bool, true, false, length, refl, sym, ap, subst, ◌∙◌, inl, inr, eqb-true, eq-eqb}
use Rattle.std.specs.Prelude.{◌⊎◌, ◌↔◌, ◌==◌, slice_get}
use Rattle.jr_table.specs.declared.entries.Kind.{Kind}
use Rattle.jr_table.specs.declared.entries.Sort.TheVariants as sort
use Rattle.jr_table.specs.declared.entries.Entry.{Entry}
use Rattle.jr_table.specs.Keys.{MethodKey}
use Rattle.jr_table.specs.Decls.{Decl, class_decl, field_decl, method_decl, constructor_decl, local_decl}
use Rattle.jr_table.specs.Rows.{Row}
use Rattle.jr_table.specs.Entries.{IsRowOf, number_of, sort_of, entry_of, entries_of}
use Rattle.jr_table.specs.Conditions.{AreRows}
use Rattle.jr_table.specs.Chains.{IsSubclassAt}
use Rattle.jr_table.specs.Members.{DeclaresVirtual, OverridesAt}
use Rattle.jr_table.specs.Keyed.{Overrides}
use Rattle.jr_table.specs.Looking.{is_virtual, own_row}
use Rattle.jr_table.specs.Virtual.{virtual_entry}
use Rattle.jr_table.proofs.RowLaws.{number_none, entry_stands, acyclic_rows, some_inside, within}
use Rattle.jr_table.proofs.OneEach.{one_virtual}
use Rattle.jr_table.proofs.MemberLaws.{Says}
use Rattle.jr_table.proofs.StepsUp as steps
use Rattle.jr_table.proofs.Testing.{virtual_says}
use Rattle.jr_table.proofs.Border.{MethodHere, method_here, VirtualAt, virtual_at, no_over, no_under}
use Rattle.jr_images.specs.Families.{InFamily, itself, above, below, Among, AreRenamed, IsRenamedWith}
use Rattle.jr_dispatch.specs.Highest.{Owns, IsHighest, IsBelow, HasBelow}
use Rattle.jr_dispatch.proofs.Upwards.{upwards, comparable}

-- equal or not
pub alike_or_not : (a b : ℕ) → (a ≡ b) ⊎ (a ≢ b)
alike_or_not a b = of (a == b) refl
  where
    of : (t : Bool) → (a == b) ≡ t → (a ≡ b) ⊎ (a ≢ b)
    of true e = inl (eqb-true a b e)
    of false e = inr (λ s. let t = eq-eqb a b s in absurd cc)

-- ---- methods by numbers

module _ (rows : List Entry) (name : List ℕ) (params : List Kind) where
  pub declared_at : (c j : ℕ) → own_row rows (is_virtual name params) c ≡ Some j → DeclaresVirtual rows name params c j
  declared_at c j e =
      let says : Says (DeclaresVirtual rows name params c) (Some j) = subst (Says (DeclaresVirtual rows name params c)) e (virtual_says rows name params c) in
      says

  pub owns : (c j : ℕ) → DeclaresVirtual rows name params c j → Owns rows (is_virtual name params) c
  owns c j v = of (own_row rows (is_virtual name params) c) refl (virtual_says rows name params c)
    where
      of : (o : Option ℕ) → own_row rows (is_virtual name params) c ≡ o → Says (DeclaresVirtual rows name params c) o → Owns rows (is_virtual name params) c
      of None e none = absurd (none j v)
      of (Some i) e d = (i, e)

-- what is known of a row by two declarations
pub record IsSame (name name' : List ℕ) (params params' : List Kind) (c d : ℕ) : Type 0 where
  pub named : name' ≡ name
  pub takes : params' ≡ params
  pub class : d ≡ c

pub same_row : (rows : List Entry) (name name' : List ℕ) (params params' : List Kind) (c d j : ℕ)
    → DeclaresVirtual rows name params c j → DeclaresVirtual rows name' params' d j → IsSame name name' params params' c d
same_row rows name name' params params' c d j v w =
    let e = some_inside (slice_get rows j) w.declared.row v.declared.row w.declared.stands v.declared.stands in
    record {
      named = sym w.declared.named ∙ ap (λ (x : Entry). x.name) e ∙ v.declared.named;
      takes = sym w.declared.takes ∙ ap (λ (x : Entry). x.params) e ∙ v.declared.takes;
      class = sym w.declared.class ∙ ap (λ (x : Entry). x.class) e ∙ v.declared.class;
    }

-- ---- keys

module _ (rows : List Row) (are : AreRows rows) where
  pub one_decl : (d e : Decl) (j : ℕ) → IsRowOf rows d j → IsRowOf rows e j → d ≡ e
  one_decl d e j r s = let same = some_inside (slice_get rows j) r.row s.row r.stands s.stands in sym r.declares ∙ ap (λ (x : Row). x.decl) same ∙ s.declares

  key_of : (j k : MethodKey) → method_decl j ≡ method_decl k → j ≡ k
  key_of j k e = cc

  pub one_key : (m n : MethodKey) (i j : ℕ) → IsRowOf rows (method_decl m) i → IsRowOf rows (method_decl n) j → i ≡ j → m ≡ n
  one_key m n i j r s e = key_of m n (one_decl (method_decl m) (method_decl n) j (subst (IsRowOf rows (method_decl m)) e r) s)

  -- an entry that is neither private nor static
  pub of_entry : (k : MethodKey) (j : ℕ) (e : Entry) → IsRowOf rows (method_decl k) j → virtual_entry (entries_of rows) j ≡ Some e → DeclaresVirtual (entries_of rows) e.name e.params e.class j
  of_entry k j e r h =
      let v = virtual_at rows j e h in
      let is : e ≡ entry_of rows r.row = some_inside (slice_get (entries_of rows) j) e (entry_of rows r.row) v.stands (entry_stands rows j r.row r.stands) in
      record {
        declared = record {
          row = e;
          stands = v.stands;
          method = ap (λ (x : Entry). x.sort) is ∙ ap sort_of r.declares;
          class = refl;
          named = refl;
          takes = refl;
        };
        visible = λ p. let t : e.is_private ≡ true = ap (λ (x : Entry). x.is_private) (some_inside (slice_get (entries_of rows) j) e p.row v.stands p.stands) ∙ p.private in let f = v.visible in absurd cc;
        instance = λ p. let t : e.is_static ≡ true = ap (λ (x : Entry). x.is_static) (some_inside (slice_get (entries_of rows) j) e p.row v.stands p.stands) ∙ p.static in let f = v.instance in absurd cc;
      }

  -- ---- the family of a method that may be overridden

  module _ (k : MethodKey) (j top : ℕ) (e : Entry) (own : IsRowOf rows (method_decl k) j) (at : virtual_entry (entries_of rows) j ≡ Some e)
      (highest : IsHighest (entries_of rows) (is_virtual e.name e.params) e.class top) where
    abbrev pub Below : ℕ → Type 0
    Below i = IsBelow (entries_of rows) e.name e.params top i

    itself_below : Below j
    itself_below = record { class = e.class; declared = of_entry k j e own at; below = highest.below }

    -- the highest method
    the_top : (i : ℕ) × DeclaresVirtual (entries_of rows) e.name e.params top i
    the_top = of highest.declares
      where
        of : ((top ≡ e.class) ⊎ Owns (entries_of rows) (is_virtual e.name e.params) top) → (i : ℕ) × DeclaresVirtual (entries_of rows) e.name e.params top i
        of (inl s) = (j, subst (λ (c : ℕ). DeclaresVirtual (entries_of rows) e.name e.params c j) (sym s) (of_entry k j e own at))
        of (inr o) = (o.0, declared_at (entries_of rows) e.name e.params top o.0 o.1)

    top_here : MethodHere rows the_top.0
    top_here = method_here rows e.name e.params top the_top.0 the_top.1.declared

    -- what is below is the highest method, or overrides it
    over_top : (m : MethodKey) (i : ℕ) → IsRowOf rows (method_decl m) i → Below i → (m ≡ top_here.key) ⊎ Overrides rows m top_here.key
    over_top m i r b = of (alike_or_not b.class top)
      where
        of : ((b.class ≡ top) ⊎ (b.class ≢ top)) → (m ≡ top_here.key) ⊎ Overrides rows m top_here.key
        of (inl s) = inl (one_key m top_here.key i the_top.0 r top_here.row
            (one_virtual rows are e.name e.params top i the_top.0 (subst (λ (c : ℕ). DeclaresVirtual (entries_of rows) e.name e.params c i) s b.declared) the_top.1))
        of (inr s) = inr (record {
          j = i;
          k = the_top.0;
          over = r;
          under = top_here.row;
          overrides = record { name = e.name; params = e.params; c = b.class; d = top; over = b.declared; under = the_top.1; below = b.below; strict = s };
        })

    from_top : (m : MethodKey) → ((m ≡ top_here.key) ⊎ Overrides rows m top_here.key) → InFamily rows top_here.key m
    from_top m (inl s) = subst (InFamily rows top_here.key) (sym s) itself
    from_top m (inr o) = below o itself

    to_top : (m : MethodKey) → ((k ≡ top_here.key) ⊎ Overrides rows k top_here.key) → InFamily rows top_here.key m → InFamily rows k m
    to_top m (inl s) h = subst (λ (n : MethodKey). InFamily rows n m) (sym s) h
    to_top m (inr o) h = above o h

    below_is : (d : Decl) (i : ℕ) → IsRowOf rows d i → Below i → IsRenamedWith rows (method_decl k) d
    below_is d i r b =
        let here = method_here rows e.name e.params b.class i b.declared.declared in (
          here.key,
          one_decl d (method_decl here.key) i r here.row,
          to_top here.key (over_top k j own itself_below) (from_top here.key (over_top here.key i here.row b)),
        )

    -- what is connected to what is below is below
    pub record IsFound (m : MethodKey) : Type 0 where
      pub number : ℕ
      pub row : IsRowOf rows (method_decl m) number
      pub is_below : Below number

    up : (m n : MethodKey) → IsFound m → Overrides rows m n → IsFound n
    up m n f o =
        let x = o.overrides in
        let over = subst (λ (i : ℕ). DeclaresVirtual (entries_of rows) x.name x.params x.c i) (are.one_each (method_decl m) o.j f.number o.over f.row) x.over in
        let same = same_row (entries_of rows) e.name x.name e.params x.params f.is_below.class x.c f.number f.is_below.declared over in
        let under = subst (λ (q : List ℕ). DeclaresVirtual (entries_of rows) q e.params x.d o.k) same.named (subst (λ (p : List Kind). DeclaresVirtual (entries_of rows) x.name p x.d o.k) same.takes x.under) in
        let over_class = subst (λ (c : ℕ). IsSubclassAt (entries_of rows) c x.d) same.class x.below in
        record {
          number = o.k;
          row = o.under;
          is_below = record { class = x.d; declared = under; below = of under (comparable (entries_of rows) f.is_below.class x.d top over_class f.is_below.below) };
        }
      where
        of : DeclaresVirtual (entries_of rows) e.name e.params o.overrides.d o.k → (IsSubclassAt (entries_of rows) o.overrides.d top ⊎ IsSubclassAt (entries_of rows) top o.overrides.d) → IsSubclassAt (entries_of rows) o.overrides.d top
        of v (inl s) = s
        of v (inr s) = steps.itself (entries_of rows) (acyclic_rows rows are) o.overrides.d top (highest.none_above o.overrides.d s (owns (entries_of rows) e.name e.params o.overrides.d o.k v))

    down : (m n : MethodKey) → IsFound m → Overrides rows n m → IsFound n
    down m n f o =
        let x = o.overrides in
        let under = subst (λ (i : ℕ). DeclaresVirtual (entries_of rows) x.name x.params x.d i) (are.one_each (method_decl m) o.k f.number o.under f.row) x.under in
        let same = same_row (entries_of rows) e.name x.name e.params x.params f.is_below.class x.d f.number f.is_below.declared under in
        let over = subst (λ (q : List ℕ). DeclaresVirtual (entries_of rows) q e.params x.c o.j) same.named (subst (λ (p : List Kind). DeclaresVirtual (entries_of rows) x.name p x.c o.j) same.takes x.over) in
        record {
          number = o.j;
          row = o.over;
          is_below = record { class = x.c; declared = over; below = upwards (entries_of rows) x.c x.d top x.below (subst (λ (c : ℕ). IsSubclassAt (entries_of rows) c top) (sym same.class) f.is_below.below) };
        }

    all : (m n : MethodKey) → IsFound m → InFamily rows m n → IsFound n
    all m n f itself = f
    all m n f (above {n = o} h more) = all o n (up m o f h) more
    all m n f (below {n = o} h more) = all o n (down m o f h) more

    pub are_all : (ds : List Decl) → ((d : Decl) → Among ds d ↔ HasBelow rows e.name e.params top (length rows) d) → AreRenamed rows (method_decl k) ds
    are_all ds h d = (λ a. to ((h d).0 a), λ r. (h d).1 (back r))
      where
        to : HasBelow rows e.name e.params top (length rows) d → IsRenamedWith rows (method_decl k) d
        to b = below_is d b.number b.row b.is_below

        back : IsRenamedWith rows (method_decl k) d → HasBelow rows e.name e.params top (length rows) d
        back r =
            let f = all k r.0 (record { number = j; row = own; is_below = itself_below }) r.2 in
            let row = subst (λ (x : Decl). IsRowOf rows x f.number) (sym r.1) f.row in
            record { number = f.number; before = within rows d f.number row; is_below = f.is_below; row = row }

  -- ---- declarations that are alone

  only_itself : (k m : MethodKey) → ((n : MethodKey) → Overrides rows k n → ⊥) → ((n : MethodKey) → Overrides rows n k → ⊥) → InFamily rows k m → m ≡ k
  only_itself k m no_up no_down itself = refl
  only_itself k m no_up no_down (above {n = o} h more) = absurd (no_up o h)
  only_itself k m no_up no_down (below {n = o} h more) = absurd (no_down o h)

  lone_method : (k : MethodKey) → ((n : MethodKey) → Overrides rows k n → ⊥) → ((n : MethodKey) → Overrides rows n k → ⊥) → (ds : List Decl) → ds ≡ method_decl k ∷ [] → AreRenamed rows (method_decl k) ds
  lone_method k no_up no_down ds e = subst (AreRenamed rows (method_decl k)) (sym e) (λ d. (to d, back d))
    where
      to : (d : Decl) → Among (method_decl k ∷ []) d → IsRenamedWith rows (method_decl k) d
      to d (inl s) = (k, sym s, itself)
      to d (inr h) = absurd h

      back : (d : Decl) → IsRenamedWith rows (method_decl k) d → Among (method_decl k ∷ []) d
      back d r = inl (sym (r.1 ∙ ap method_decl (only_itself k r.0 no_up no_down r.2)))

  pub without_row : (k : MethodKey) → number_of rows (method_decl k) ≡ None → (ds : List Decl) → ds ≡ method_decl k ∷ [] → AreRenamed rows (method_decl k) ds
  without_row k none = lone_method k (λ n o. number_none rows (method_decl k) none o.j o.over) (λ n o. number_none rows (method_decl k) none o.k o.under)

  pub not_virtual : (k : MethodKey) (j : ℕ) → number_of rows (method_decl k) ≡ Some j → virtual_entry (entries_of rows) j ≡ None → (ds : List Decl) → ds ≡ method_decl k ∷ [] → AreRenamed rows (method_decl k) ds
  not_virtual k j at none = lone_method k (λ n. no_over rows are k n j at none) (λ n. no_under rows are n k j at none)

single : (d e : Decl) → Among (d ∷ []) e ↔ (e ≡ d)
single d e = (to, λ s. inl (sym s))
  where
    to : Among (d ∷ []) e → e ≡ d
    to (inl s) = sym s
    to (inr h) = absurd h

-- what is no method
pub lone : (rows : List Row) (d : Decl) (ds : List Decl) → ((k : MethodKey) → d ≡ method_decl k → ⊥) → ds ≡ d ∷ [] → AreRenamed rows d ds
lone rows (class_decl k) ds other e = subst (AreRenamed rows (class_decl k)) (sym e) (λ d. single (class_decl k) d)
lone rows (field_decl k) ds other e = subst (AreRenamed rows (field_decl k)) (sym e) (λ d. single (field_decl k) d)
lone rows (constructor_decl k) ds other e = subst (AreRenamed rows (constructor_decl k)) (sym e) (λ d. single (constructor_decl k) d)
lone rows (local_decl k) ds other e = subst (AreRenamed rows (local_decl k)) (sym e) (λ d. single (local_decl k) d)
lone rows (method_decl k) ds other e = absurd (other k refl)
