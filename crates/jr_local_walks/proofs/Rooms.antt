-- Where a local is made: what the walk's mapping sees is what the regions of extract local see.
use Rattle.std.proofs.Common.{◌≡◌, ℕ, suc, ◌+◌, ◌-◌, ◌<◌, ◌≤◌, nat_lt, Bool, true, false, not, ◌&&◌, List, [], ◌∷◌, ◌++◌, map, length, take, drop, Option, Some, None, option_map, refl, sym, ap, subst, ◌∙◌, inl, inr, if◌then◌else◌, arith}
use Rattle.std.specs.Prelude.{unwrap_or}
use Rattle.std.proofs.lemmas.Bool.{lt-ltb, le-ltb, ltb-true, ltb-false}
use Rattle.std.proofs.Math.Seq.{take-append_seam, drop-append_seam}
use Rattle.jr_text.specs.declared.spans.Span.{Span}
use Rattle.jr_table.specs.Keys.{ClassKey, Ty, class}
use Rattle.jr_table.specs.Decls.{MemberKey, LocalKey, class_decl}
use Rattle.jr_table.specs.SameDecls.{same_member, member_decides}
use Rattle.jr_table.specs.Rows.{Row}
use Rattle.jr_table.specs.Entries.{IsRowOf}
use Rattle.jr_table.specs.Scope.{ScopeLocal}
use Rattle.jr_table.specs.Context.{Context, Local, IsLocalType, scope_of, scope_local}
use Rattle.jr_new_words.specs.Mappings.{same_keys, Renumbering, renumbered, renumber, numbered_key, made_local, locals_by, seen_local, region_of}
use Rattle.jr_new_words.specs.Mappings as walk
use Rattle.jr_local.specs.Scopes.{is_from, one_more, put_kept, with_made_local, room, earlier, IsOfMadeClass, around_made, with_made, in_made}
use Rattle.jr_local.specs.Scopes as region
use Rattle.jr_local_walks.specs.Mappings.{numbers_from, moved, made, around, behind, initializing}
use Rattle.jr_local_walks.specs.Contexts.{Each, IsOf, IsEarly, IsLate, IsOwn, InMember, InOrder}
use Rattle.jr_local_walks.proofs.Agreeing.{Agree}
use Rattle.jr_local_walks.proofs.Seeing.{agree_by}
use Rattle.jr_local_walks.proofs.Lasts.{NoneHas, LastHas, each_as, each_both}
use Rattle.jr_local_walks.proofs.Kept.{Agrees, kept, kept_alike, HasKey, Becomes}
use Rattle.jr_local_walks.proofs.Numbers.{count_is, first_number, none_past, first_before, gone_at}
use Rattle.jr_local_walks.proofs.Classes.{IsApart, class_there, class_back}

some_is : {X : Type 0} {x y : X} → (let a : Option X = Some x in a ≡ Some y) → x ≡ y
some_is e = cc

none_is : {X P : Type 0} {x : X} → (let a : Option X = None in a ≡ Some x) → P
none_is e = absurd cc

-- ---- which locals come behind the number

pub early_isnt : (k : MemberKey) (n : ℕ) (l : LocalKey) → l.number < n → is_from k n l ≡ false
early_isnt k n l less = by (same_member l.member k)
  where
    by : (b : Bool) → (b && not (nat_lt l.number n)) ≡ false
    by false = refl
    by true = ap not (lt-ltb l.number n less)

pub late_is : (k : MemberKey) (n : ℕ) (l : LocalKey) → l.member ≡ k → n ≤ l.number → is_from k n l ≡ true
late_is k n l of le =
    (λ i. (member_decides l.member k).1 of i && not (nat_lt l.number n)) ∙ ap not (le-ltb l.number n le)

module _ (n : ℕ) (name : List ℕ) (type : Ty) where
  -- ---- numbers

  early_number : (m : ℕ) → m < n → renumber (around n name type) m ≡ Some m
  early_number m less = ap (λ (o : Option (Option ℕ)). unwrap_or o (Some (suc n + (m - length (numbers_from 0 n))))) (first_number n m less)

  late_number : (m : ℕ) → n ≤ m → renumber (around n name type) m ≡ Some (suc m)
  late_number m le =
      ap (λ (o : Option (Option ℕ)). unwrap_or o (Some (suc n + (m - length (numbers_from 0 n))))) (none_past 0 n m le)
      ∙ ap (λ (k : ℕ). Some (suc n + (m - k))) (count_is 0 n)
      ∙ ap (λ (k : ℕ). Some k) (let e : suc n + (m - n) ≡ suc m = omega (arith, le) in e)

  early_kept : (m : ℕ) → m < n → renumber (initializing n name type 0) m ≡ Some m
  early_kept m less = ap (λ (o : Option (Option ℕ)). unwrap_or o (Some (suc n + (m - length (numbers_from 0 n ++ None ∷ []))))) (first_before n m less)

  own_gone : (m : ℕ) → m ≡ n → renumber (initializing n name type 0) m ≡ None
  own_gone m is =
      ap (λ (k : ℕ). renumber (initializing n name type 0) k) is
      ∙ ap (λ (o : Option (Option ℕ)). unwrap_or o (Some (suc n + (n - length (numbers_from 0 n ++ None ∷ []))))) (gone_at 0 n)

  module _ (rows : List Row) (k : MemberKey) where
    abbrev m_key : LocalKey
    m_key = record { member = k; number = n }

    -- ---- images

    early_agrees : (l : Local) → IsEarly k n l → Agrees (around n name type) (room rows m_key name type) l
    early_agrees l (of, less) =
        ap (option_map (numbered_key same_keys l.key)) (early_number l.key.number less)
        ∙ ap (λ (b : Bool). Some (if b then one_more l.key else l.key)) (sym (early_isnt k n l.key less))

    late_agrees : (l : Local) → IsLate k n l → Agrees (around n name type) (room rows m_key name type) l
    late_agrees l (of, le) =
        ap (option_map (numbered_key same_keys l.key)) (late_number l.key.number le)
        ∙ ap (λ (b : Bool). Some (if b then one_more l.key else l.key)) (sym (late_is k n l.key of le))

    each_agrees : (l : Local) → IsOf k l → Agrees (around n name type) (room rows m_key name type) l
    each_agrees l of = by (nat_lt l.key.number n) refl
      where
        by : (b : Bool) → nat_lt l.key.number n ≡ b → Agrees (around n name type) (room rows m_key name type) l
        by true is = early_agrees l (of, ltb-true l.key.number n is)
        by false is = late_agrees l (of, ltb-false l.key.number n is)

    early_stays : (l : Local) → IsEarly k n l → Agrees (initializing n name type 0) (earlier rows m_key name type) l
    early_stays l (of, less) =
        ap (option_map (numbered_key same_keys l.key)) (early_kept l.key.number less)
        ∙ ap (λ (b : Bool). (let o : Option LocalKey = if b then None else Some l.key in o)) (sym (early_isnt k n l.key less))

    own_goes : (l : Local) → IsOwn k n l → Agrees (initializing n name type 0) (earlier rows m_key name type) l
    own_goes l (of, is) =
        ap (option_map (numbered_key same_keys l.key)) (own_gone l.key.number is)
        ∙ ap (λ (b : Bool). (let o : Option LocalKey = if b then None else Some l.key in o)) (sym (late_is k n l.key of (omega (arith, is))))

    -- ---- what lookup sees

    abbrev m_local : ScopeLocal
    m_local = record { name = name; key = m_key }

    made_seen : (early late : List Local) → Each (IsEarly k n) early → Each (IsLate k n) late
        → map seen_local (kept (around n name type) early ++ (made_local k (made n name type) ∷ kept (around n name type) late)) ≡ with_made_local (room rows m_key name type) m_local (map scope_local (early ++ late))
    made_seen [] [] e f = refl
    made_seen [] (l ∷ late) e f =
        ap (λ (ls : List ScopeLocal). m_local ∷ ls) (kept_alike (around n name type) (room rows m_key name type) (l ∷ late) (each_as (IsLate k n) (Agrees (around n name type) (room rows m_key name type)) late_agrees (l ∷ late) f))
        ∙ ap
        (λ (b : Bool). (if b then m_local ∷ region.kept_locals (room rows m_key name type) (map scope_local (l ∷ late)) else put_kept l.name (room rows m_key name type l.key) (with_made_local (room rows m_key name type) m_local (map scope_local late))))
        (sym (late_is k n l.key f.0.0 f.0.1))
    made_seen (l ∷ early) late e f =
        ap (λ (o : Option ℕ). map seen_local ((walk.if_kept same_keys o l ++ kept (around n name type) early) ++ (made_local k (made n name type) ∷ kept (around n name type) late))) (early_number l.key.number e.0.1)
        ∙ ap (λ (ls : List ScopeLocal). put_kept l.name (Some l.key) ls) (made_seen early late e.1 f)
        ∙ ap
        (λ (b : Bool). (if b then m_local ∷ region.kept_locals (room rows m_key name type) (map scope_local (l ∷ (early ++ late))) else put_kept l.name (Some (if b then one_more l.key else l.key)) (with_made_local (room rows m_key name type) m_local (map scope_local (early ++ late)))))
        (sym (early_isnt k n l.key e.0.1))

    -- in the initializer: those in front, and the new one
    kept_seen : (early late : List Local) → Each (IsEarly k n) early → Each (IsOwn k n) late
        → map seen_local (kept (initializing n name type 0) early ++ (made_local k (made n name type) ∷ kept (initializing n name type 0) late)) ≡ region.kept_locals (earlier rows m_key name type) (map scope_local (early ++ late)) ++ m_local ∷ []
    kept_seen [] late e f = ap (λ (ls : List ScopeLocal). m_local ∷ ls) (kept_alike (initializing n name type 0) (earlier rows m_key name type) late (each_as (IsOwn k n) (Agrees (initializing n name type 0) (earlier rows m_key name type)) own_goes late f) ∙ none_left late f) ∙ ap (λ (ls : List ScopeLocal). ls ++ m_local ∷ []) (sym (none_left late f))
      where
        none_left : (ls : List Local) → Each (IsOwn k n) ls → region.kept_locals (earlier rows m_key name type) (map scope_local ls) ≡ []
        none_left [] g = refl
        none_left (l ∷ ls) g =
            ap (λ (b : Bool). put_kept l.name (let o : Option LocalKey = if b then None else Some l.key in o) (region.kept_locals (earlier rows m_key name type) (map scope_local ls))) (late_is k n l.key g.0.0 (let is = g.0.1 in omega (arith, is))) ∙ none_left ls g.1
    kept_seen (l ∷ early) late e f =
        ap (λ (o : Option ℕ). map seen_local ((walk.if_kept same_keys o l ++ kept (initializing n name type 0) early) ++ (made_local k (made n name type) ∷ kept (initializing n name type 0) late))) (early_kept l.key.number e.0.1)
        ∙ ap (λ (ls : List ScopeLocal). scope_local l ∷ ls) (kept_seen early late e.1 f)
        ∙ ap (λ (b : Bool). put_kept l.name (let o : Option LocalKey = if b then None else Some l.key in o) (region.kept_locals (earlier rows m_key name type) (map scope_local (early ++ late))) ++ m_local ∷ []) (sym (early_isnt k n l.key e.0.1))

    -- ---- what comes of each key

    some_key : (a b : LocalKey) → (let o : Option LocalKey = Some a in o ≡ Some b) → a.number ≡ b.number
    some_key a b e = ap (λ (x : LocalKey). x.number) (some_is e)

    abbrev made_here : Local
    made_here = made_local k (made n name type)

    early_apart : (l : Local) → IsEarly k n l → IsApart rows (room rows m_key name type) (made_here ∷ []) l
    early_apart l (of, less) q e =
        let same = some_key l.key q (ap (λ (b : Bool). Some (if b then one_more l.key else l.key)) (sym (early_isnt k n l.key less)) ∙ e) in
        (λ is. let other = ap (λ (x : LocalKey). x.number) is in absurd (omega (arith, less, same, other)), tt)

    late_apart : (l : Local) → IsLate k n l → IsApart rows (room rows m_key name type) (made_here ∷ []) l
    late_apart l (of, le) q e =
        let same = some_key (one_more l.key) q (ap (λ (b : Bool). Some (if b then one_more l.key else l.key)) (sym (late_is k n l.key of le)) ∙ e) in
        (λ is. let other = ap (λ (x : LocalKey). x.number) is in absurd (omega (arith, le, same, other)), tt)

    early_stays_apart : (l : Local) → IsEarly k n l → IsApart rows (earlier rows m_key name type) (made_here ∷ []) l
    early_stays_apart l (of, less) q e =
        let same = some_key l.key q (ap (λ (b : Bool). (let o : Option LocalKey = if b then None else Some l.key in o)) (sym (early_isnt k n l.key less)) ∙ e) in
        (λ is. let other = ap (λ (x : LocalKey). x.number) is in absurd (omega (arith, less, same, other)), tt)

    own_apart : (l : Local) → IsOwn k n l → IsApart rows (earlier rows m_key name type) (made_here ∷ []) l
    own_apart l (of, is) q e = none_is (ap (λ (b : Bool). (let o : Option LocalKey = if b then None else Some l.key in o)) (sym (late_is k n l.key of (omega (arith, is)))) ∙ e)

    none_late : (ls : List Local) → Each (IsLate k n) ls → NoneHas (Becomes (around n name type) m_key) ls
    none_late [] e = tt
    none_late (l ∷ ls) e = (
      λ becomes. let same = some_key (numbered_key same_keys l.key (suc l.key.number)) m_key (sym (ap (option_map (numbered_key same_keys l.key)) (late_number l.key.number e.0.1)) ∙ becomes) in
          let le = e.0.1 in absurd (omega (arith, same, le)),
      none_late ls e.1,
    )

    none_own : (ls : List Local) → Each (IsOwn k n) ls → NoneHas (Becomes (initializing n name type 0) m_key) ls
    none_own [] e = tt
    none_own (l ∷ ls) e = (λ becomes. none_is (sym (ap (option_map (numbered_key same_keys l.key)) (own_gone l.key.number e.0.1)) ∙ becomes), none_own ls e.1)

    -- ---- which class

    module _ (c : Context) (typed : (b : ClassKey) → type ≡ class b → (j : ℕ) × IsRowOf rows (class_decl b) j) where
      abbrev HasMade : LocalKey → ClassKey → Type 0
      HasMade q b = IsOfMadeClass rows m_key name type q b

      made_there : (r : Renumbering) (q : LocalKey) (b : ClassKey) (m : Local) → LastHas (HasKey q) (made_here ∷ []) m → IsLocalType rows (scope_of c) m.type (class b) → HasMade q b
      made_there r q b m (inl x) is = absurd x
      made_there r q b m (inr (same, has, none)) is =
          (sym (ap (λ (x : Local). x.key) same ∙ has), sym (subst (λ (x : Local). IsLocalType rows (scope_of c) x.type (class b)) (sym same) is))

      made_back : (r : Renumbering) (q : LocalKey) (b : ClassKey) → HasMade q b
          → (m : Local) × LastHas (HasKey q) (made_here ∷ []) m × IsLocalType rows (scope_of c) m.type (class b) × ((j : ℕ) × IsRowOf rows (class_decl b) j)
      made_back r q b (is, of) = (made_here, inr (refl, sym is, tt), sym of, typed b of)

      abbrev Order : (depth : ℕ) → (Local → Type 0) → Type 0
      Order depth Behind = InOrder rows k n depth Behind c

      -- the locals of the new place
      locals_there : (r : Renumbering) (depth : ℕ) (Behind : Local → Type 0) (o : Order depth Behind) → r.made ≡ made n name type ∷ [] → r.depth ≡ depth
          → locals_by same_keys (renumbered r) c.member c.locals ≡ kept r o.early ++ (made_here ∷ kept r o.late)
      locals_there r depth Behind o one deep =
          let at : r.depth ≡ length o.early = deep ∙ sym o.depth_is in
          (λ i. kept r (take (at i) (o.locals i)) ++ (map (made_local (o.member i)) (one i) ++ kept r (drop (at i) (o.locals i))))
          ∙ (λ i. kept r (take-append_seam o.early o.late i) ++ (made_here ∷ kept r (drop-append_seam o.early o.late i)))

      -- in its list from its declaration on
      pub behind_agrees : (begins : Span → ℕ → ℕ) (depth : ℕ) → Order depth (IsLate k n) → Agree begins rows (region_of rows (moved rows (behind n name type depth))) (with_made rows m_key name type) c
      behind_agrees begins depth o =
          let r = behind n name type depth in
          let to = room rows m_key name type in
          let new = locals_there r depth (IsLate k n) o refl refl in
          let agree_early = each_as (IsEarly k n) (Agrees r to) early_agrees o.early o.are_early in
          let agree_late = each_as (IsLate k n) (Agrees r to) late_agrees o.late o.are_late in
          let apart_early = each_as (IsEarly k n) (IsApart rows to (made_here ∷ [])) early_apart o.early o.are_early in
          let apart_late = each_as (IsLate k n) (IsApart rows to (made_here ∷ [])) late_apart o.late o.are_late in
          let apart = λ (q : LocalKey) (b : ClassKey) (h : HasMade q b). subst (λ (x : LocalKey). NoneHas (Becomes r x) o.late) (sym h.0) (none_late o.late o.are_late) in
          agree_by begins rows r to (with_made_local to m_local) HasMade c
          (ap (map seen_local) new ∙ made_seen o.early o.late o.are_early o.are_late ∙ ap (λ (ls : List Local). with_made_local to m_local (map scope_local ls)) (sym o.locals))
          (subst (λ (ls : List Local). Each (Agrees r to) ls) (sym o.locals) (each_both (Agrees r to) o.early o.late agree_early agree_late))
          (class_there rows c r to o.early o.late (made_here ∷ []) HasMade o.locals agree_early agree_late apart_early apart_late o.typed new (made_there r) (made_back r) apart)
          (class_back rows c r to o.early o.late (made_here ∷ []) HasMade o.locals agree_early agree_late apart_early apart_late o.typed new (made_there r) (made_back r) apart)
          refl

      -- in its initializer
      pub initializing_agrees : (begins : Span → ℕ → ℕ) (depth : ℕ) → Order depth (IsOwn k n) → Agree begins rows (region_of rows (moved rows (initializing n name type depth))) (in_made rows m_key name type) c
      initializing_agrees begins depth o =
          let r = initializing n name type depth in
          let to = earlier rows m_key name type in
          let new = locals_there r depth (IsOwn k n) o refl refl in
          let agree_early = each_as (IsEarly k n) (Agrees r to) early_stays o.early o.are_early in
          let agree_late = each_as (IsOwn k n) (Agrees r to) own_goes o.late o.are_late in
          let apart_early = each_as (IsEarly k n) (IsApart rows to (made_here ∷ [])) early_stays_apart o.early o.are_early in
          let apart_late = each_as (IsOwn k n) (IsApart rows to (made_here ∷ [])) own_apart o.late o.are_late in
          let apart = λ (q : LocalKey) (b : ClassKey) (h : HasMade q b). subst (λ (x : LocalKey). NoneHas (Becomes r x) o.late) (sym h.0) (none_own o.late o.are_late) in
          agree_by begins rows r to (λ ls. region.kept_locals to ls ++ m_local ∷ []) HasMade c
          (ap (map seen_local) new ∙ kept_seen o.early o.late o.are_early o.are_late ∙ ap (λ (ls : List Local). region.kept_locals to (map scope_local ls) ++ m_local ∷ []) (sym o.locals))
          (subst (λ (ls : List Local). Each (Agrees r to) ls) (sym o.locals) (each_both (Agrees r to) o.early o.late agree_early agree_late))
          (class_there rows c r to o.early o.late (made_here ∷ []) HasMade o.locals agree_early agree_late apart_early apart_late o.typed new (made_there r) (made_back r) apart)
          (class_back rows c r to o.early o.late (made_here ∷ []) HasMade o.locals agree_early agree_late apart_early apart_late o.typed new (made_there r) (made_back r) apart)
          refl

    -- outside of its list
    no_class : (c : Context) (r : Renumbering) (q : LocalKey) (b : ClassKey) (m : Local) → LastHas (HasKey q) [] m → IsLocalType rows (scope_of c) m.type (class b) → ⊥
    no_class c r q b m has is = absurd has

    pub around_agrees : (begins : Span → ℕ → ℕ) (c : Context) → InMember rows k c → Agree begins rows (region_of rows (moved rows (around n name type))) (around_made rows m_key name type) c
    around_agrees begins c x =
        let r = around n name type in
        let to = room rows m_key name type in
        let agree = each_as (IsOf k) (Agrees r to) each_agrees c.locals x.of in
        let apart = each_as (IsOf k) (IsApart rows to []) (λ l of q e. tt) c.locals x.of in
        agree_by begins rows r to (region.kept_locals to) (λ q b. ⊥) c (kept_alike r to c.locals agree) agree
        (class_there rows c r to [] c.locals [] (λ q b. ⊥) refl tt agree tt apart x.typed refl (no_class c r) (λ q b h. absurd h) (λ q b h. absurd h))
        (class_back rows c r to [] c.locals [] (λ q b. ⊥) refl tt agree tt apart x.typed refl (no_class c r) (λ q b h. absurd h) (λ q b h. absurd h))
        refl
