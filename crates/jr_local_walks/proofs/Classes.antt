-- Of which class a local of the new place is: by the walk's mapping, and by a region in which kept
-- locals have these images.
use Rattle.std.proofs.Common.{◌≡◌, ℕ, List, [], ◌∷◌, ◌++◌, Option, Some, None, refl, sym, ap, subst, ◌∙◌, inl, inr}
use Rattle.std.specs.Prelude.{◌⊎◌}
use Rattle.jr_table.specs.Keys.{ClassKey, Ty, class}
use Rattle.jr_table.specs.Decls.{LocalKey, Decl, class_decl}
use Rattle.jr_table.specs.Rows.{Row}
use Rattle.jr_table.specs.Entries.{IsRowOf}
use Rattle.jr_table.specs.Found.{one}
use Rattle.jr_table.specs.Lookup.{Shows}
use Rattle.jr_table.specs.Scope.{Scope}
use Rattle.jr_table.specs.Context.{Context, Local, LocalType, known, written, IsLocalType, scope_of}
use Rattle.jr_table.specs.declared.answers.Answer.{Answer}
use Rattle.jr_table.specs.declared.answers.Answer.TheVariants as number
use Rattle.jr_new_words.specs.Mappings.{same_keys, Renumbering, renumbered, locals_by}
use Rattle.jr_new_words.specs.Mappings as walk
use Rattle.jr_local.specs.Scopes.{HasKeptClass}
use Rattle.jr_local_walks.specs.Mappings.{moved}
use Rattle.jr_local_walks.specs.Contexts.{Each, IsTyped}
use Rattle.jr_local_walks.proofs.Agreeing.{each_at}
use Rattle.jr_local_walks.proofs.Lasts.{NoneHas, LastHas, none_second, has_last, last_at, none_both, last_second, last_first, last_either, each_as, none_as, last_as}
use Rattle.jr_local_walks.proofs.Kept.{Agrees, kept, HasKey, Becomes, none_there, none_back, last_there, last_back}

class_is : (a b : ClassKey) → class a ≡ class b → a ≡ b
class_is a b e = cc

module _ (rows : List Row) where
  row_shown : (d : Decl) (a : Answer) → Shows rows a (one d) → (j : ℕ) × IsRowOf rows d j
  row_shown d (number.One j) shows = (j, shows)
  row_shown d number.Nothing shows = absurd shows
  row_shown d (number.Many i j) shows = absurd shows
  row_shown d (number.NotAccessible j) shows = absurd shows
  row_shown d (number.FromStatic j) shows = absurd shows

  row_of_type : (s : Scope) (t : LocalType) (b : ClassKey) → ((k : ClassKey) → t ≡ known (class k) → (j : ℕ) × IsRowOf rows (class_decl k) j) → IsLocalType rows s t (class b) → (j : ℕ) × IsRowOf rows (class_decl b) j
  row_of_type s (known u) b typed is = typed b (ap (λ (t : Ty). known t) (sym is))
  row_of_type s (written None name) b typed (k, (a, finds, shows), is) = subst (λ (q : ClassKey). (j : ℕ) × IsRowOf rows (class_decl q) j) (class_is k b (sym is)) (row_shown (class_decl k) a shows)
  row_of_type s (written (Some o) name) b typed (k, (q, outer, (a, finds, shows)), is) = subst (λ (q : ClassKey). (j : ℕ) × IsRowOf rows (class_decl q) j) (class_is k b (sym is)) (row_shown (class_decl k) a shows)

  -- the image in the region is the key
  abbrev pub GoesTo : (LocalKey → Option LocalKey) → LocalKey → Local → Type 0
  GoesTo to k l = to l.key ≡ Some k

  -- the local's image is none of these
  abbrev pub IsApart : (LocalKey → Option LocalKey) → List Local → Local → Type 0
  IsApart to ms l = (k : LocalKey) → to l.key ≡ Some k → NoneHas (HasKey k) ms

  module _ (c : Context) (r : Renumbering) (to : LocalKey → Option LocalKey) (early late ms : List Local) (HasMade : LocalKey → ClassKey → Type 0)
      (locals : c.locals ≡ early ++ late) (agree_early : Each (Agrees r to) early) (agree_late : Each (Agrees r to) late)
      (apart_early : Each (IsApart to ms) early) (apart_late : Each (IsApart to ms) late) (typed : Each (IsTyped rows) c.locals)
      (new_locals : locals_by same_keys (renumbered r) c.member c.locals ≡ kept r early ++ (ms ++ kept r late))
      (made_there : (k : LocalKey) (b : ClassKey) (m : Local) → LastHas (HasKey k) ms m → IsLocalType rows (scope_of c) m.type (class b) → HasMade k b)
      (made_back : (k : LocalKey) (b : ClassKey) → HasMade k b
      → (m : Local) × LastHas (HasKey k) ms m × IsLocalType rows (scope_of c) m.type (class b) × ((j : ℕ) × IsRowOf rows (class_decl b) j))
      (made_apart : (k : LocalKey) (b : ClassKey) → HasMade k b → NoneHas (Becomes r k) late) where
    region_late : (k : LocalKey) → Each (λ l. Becomes r k l → GoesTo to k l) late
    region_late k = each_as (Agrees r to) (λ l. Becomes r k l → GoesTo to k l) (λ l same is. sym same ∙ is) late agree_late

    walk_late : (k : LocalKey) → Each (λ l. GoesTo to k l → Becomes r k l) late
    walk_late k = each_as (Agrees r to) (λ l. GoesTo to k l → Becomes r k l) (λ l same is. same ∙ is) late agree_late

    region_early : (k : LocalKey) → Each (λ l. Becomes r k l → GoesTo to k l) early
    region_early k = each_as (Agrees r to) (λ l. Becomes r k l → GoesTo to k l) (λ l same is. sym same ∙ is) early agree_early

    walk_early : (k : LocalKey) → Each (λ l. GoesTo to k l → Becomes r k l) early
    walk_early k = each_as (Agrees r to) (λ l. GoesTo to k l → Becomes r k l) (λ l same is. same ∙ is) early agree_early

    abbrev In : LocalKey → ClassKey → Type 0
    In k b = HasKeptClass rows to c k b ⊎ HasMade k b

    -- ---- from the walk

    there_kept : (k : LocalKey) (b : ClassKey) (m l : Local) → IsLocalType rows (scope_of c) m.type (class b) → m.type ≡ l.type → LastHas (GoesTo to k) (early ++ late) l → In k b
    there_kept k b m l type same last =
        let at = last_at (GoesTo to k) c.locals l (subst (λ (ls : List Local). LastHas (GoesTo to k) ls l) (sym locals) last) in
        inl (l, record { number = at.number; stands = at.stands; is = at.is; last = at.last }, subst (λ (t : LocalType). IsLocalType rows (scope_of c) t (class b)) same type)

    there_late : (k : LocalKey) (b : ClassKey) (m : Local) → IsLocalType rows (scope_of c) m.type (class b) → LastHas (HasKey k) (kept r late) m → In k b
    there_late k b m type last =
        let x = last_there r k late m last in
        there_kept k b m x.0 type x.2 (last_second (GoesTo to k) early late x.0 (last_as (Becomes r k) (GoesTo to k) late x.0 (region_late k) (walk_late k) x.1))

    there_early : (k : LocalKey) (b : ClassKey) (m : Local) → IsLocalType rows (scope_of c) m.type (class b) → LastHas (HasKey k) (kept r early) m → NoneHas (HasKey k) (kept r late) → In k b
    there_early k b m type last none =
        let x = last_there r k early m last in
        there_kept k b m x.0 type x.2
        (last_first (GoesTo to k) early late x.0 (last_as (Becomes r k) (GoesTo to k) early x.0 (region_early k) (walk_early k) x.1)
        (none_as (Becomes r k) (GoesTo to k) late (walk_late k) (none_there r k late none)))

    pub class_there : (k : LocalKey) (b : ClassKey) → walk.HasClass rows (moved rows r) c k b → In k b
    class_there k b (l, t, j, last, type, row, is) =
        let has = has_last (HasKey k) (locals_by same_keys (renumbered r) c.member c.locals) l last.number last.stands last.is last.last in
        let typed_so = subst (λ (q : ClassKey). IsLocalType rows (scope_of c) l.type (class q)) (sym is) type in
        by typed_so (last_either (HasKey k) (kept r early) (ms ++ kept r late) l (subst (λ (ls : List Local). LastHas (HasKey k) ls l) new_locals has))
      where
        behind : IsLocalType rows (scope_of c) l.type (class b) → LastHas (HasKey k) (kept r late) l ⊎ (LastHas (HasKey k) ms l × NoneHas (HasKey k) (kept r late)) → In k b
        behind type (inl h) = there_late k b l type h
        behind type (inr h) = inr (made_there k b l h.0 type)

        by : IsLocalType rows (scope_of c) l.type (class b) → LastHas (HasKey k) (ms ++ kept r late) l ⊎ (LastHas (HasKey k) (kept r early) l × NoneHas (HasKey k) (ms ++ kept r late)) → In k b
        by type (inl h) = behind type (last_either (HasKey k) ms (kept r late) l h)
        by type (inr h) = there_early k b l type h.0 (none_second (HasKey k) ms (kept r late) h.1)

    -- ---- from the region

    abbrev Walks : LocalKey → ClassKey → Type 0
    Walks k b = walk.HasClass rows (moved rows r) c k b

    back : (k : LocalKey) (b : ClassKey) (m : Local) → LastHas (HasKey k) (kept r early ++ (ms ++ kept r late)) m → IsLocalType rows (scope_of c) m.type (class b) → (j : ℕ) × IsRowOf rows (class_decl b) j → Walks k b
    back k b m last type row =
        let at = last_at (HasKey k) (locals_by same_keys (renumbered r) c.member c.locals) m (subst (λ (ls : List Local). LastHas (HasKey k) ls m) (sym new_locals) last) in
        (m, b, row.0, record { number = at.number; stands = at.stands; is = at.is; last = at.last }, type, row.1, refl)

    back_kept : (k : LocalKey) (b : ClassKey) (l : Local) → IsLocalType rows (scope_of c) l.type (class b) → (j : ℕ) × IsRowOf rows (class_decl b) j
        → LastHas (GoesTo to k) late l ⊎ (LastHas (GoesTo to k) early l × NoneHas (GoesTo to k) late) → Walks k b
    back_kept k b l type row (inl h) =
        let x = last_back r k late l (last_as (GoesTo to k) (Becomes r k) late l (walk_late k) (region_late k) h) in
        back k b x.0 (last_second (HasKey k) (kept r early) (ms ++ kept r late) x.0 (last_second (HasKey k) ms (kept r late) x.0 x.1)) (subst (λ (t : LocalType). IsLocalType rows (scope_of c) t (class b)) (sym x.2) type) row
    back_kept k b l type row (inr (h, none)) =
        let x = last_back r k early l (last_as (GoesTo to k) (Becomes r k) early l (walk_early k) (region_early k) h) in
        let none_late = none_back r k late (none_as (GoesTo to k) (Becomes r k) late (region_late k) none) in
        back k b x.0 (last_first (HasKey k) (kept r early) (ms ++ kept r late) x.0 x.1 (none_both (HasKey k) ms (kept r late) (apart_of h) none_late))
        (subst (λ (t : LocalType). IsLocalType rows (scope_of c) t (class b)) (sym x.2) type) row
      where
        apart_in : (ls : List Local) → Each (IsApart to ms) ls → LastHas (GoesTo to k) ls l → NoneHas (HasKey k) ms
        apart_in [] e i = absurd i
        apart_in (x ∷ ls) e (inl i) = apart_in ls e.1 i
        apart_in (x ∷ ls) e (inr i) = e.0 k (subst (GoesTo to k) (sym i.0) i.1)

        apart_of : LastHas (GoesTo to k) early l → NoneHas (HasKey k) ms
        apart_of i = apart_in early apart_early i

    pub class_back : (k : LocalKey) (b : ClassKey) → In k b → Walks k b
    class_back k b (inl (l, last, type)) =
        let has = has_last (GoesTo to k) c.locals l last.number last.stands last.is last.last in
        back_kept k b l type (row_of_type (scope_of c) l.type b (each_at (IsTyped rows) c.locals last.number l typed last.stands) type)
        (last_either (GoesTo to k) early late l (subst (λ (ls : List Local). LastHas (GoesTo to k) ls l) locals has))
    class_back k b (inr made) =
        let x = made_back k b made in
        back k b x.0 (last_second (HasKey k) (kept r early) (ms ++ kept r late) x.0 (last_first (HasKey k) ms (kept r late) x.0 x.1 (none_back r k late (made_apart k b made)))) x.2 x.3
