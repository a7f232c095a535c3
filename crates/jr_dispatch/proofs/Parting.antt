-- Where dispatch changes: below methods that have their name together in one program alone.
use Rattle.std.proofs.Common.{◌≡◌, ◌≢◌, ℕ, List, [], ◌∷◌, Option, Some, None, Bool, refl, sym, ap, subst, ◌∙◌, inl, inr}
use Rattle.std.specs.Prelude.{◌⊎◌, slice_get}
use Rattle.jr_table.specs.declared.entries.Kind.{Kind}
use Rattle.jr_table.specs.declared.entries.Entry.{Entry}
use Rattle.jr_table.specs.Chains.{IsChain, GoesUp, IsAcyclic, parent_of, chain_of, In, IsSubclassAt}
use Rattle.jr_table.specs.Members.{IsPrivate, IsStatic, DeclaresVirtual, NearestAmong, IsNearest, Dispatches}
use Rattle.jr_table.specs.Looking.{is_virtual, first_of, own_row, nearest_among, nearest}
use Rattle.jr_table.proofs.Chaining.{one_chain}
use Rattle.jr_table.proofs.RowLaws.{some_inside}
use Rattle.jr_table.proofs.MemberLaws.{Says, nearest_says, one_nearest}
use Rattle.jr_table.proofs.Testing.{virtual_says}
use Rattle.jr_dispatch.specs.Changes.{IsLike, AreAlike, HasNames, ChangesAt, DiffersAbove, IsParted}
use Rattle.jr_dispatch.proofs.Upwards.{upwards, comparable}
use Rattle.jr_dispatch.proofs.Connected.{alike_or_not, declared_at, owns, IsSame, same_row}

-- two programs that differ in names alone
pub record Programs (old new : List Entry) : Type 0 where
  pub alike : AreAlike old new
  pub old_acyclic : IsAcyclic old
  pub new_acyclic : IsAcyclic new
  pub one_old : (name : List ℕ) (params : List Kind) (c i j : ℕ) → DeclaresVirtual old name params c i → DeclaresVirtual old name params c j → i ≡ j
  pub one_new : (name : List ℕ) (params : List Kind) (c i j : ℕ) → DeclaresVirtual new name params c i → DeclaresVirtual new name params c j → i ≡ j

-- equal or not
pub same_or_not : (a b : Option ℕ) → (a ≡ b) ⊎ (a ≢ b)
same_or_not None None = inl refl
same_or_not None (Some b) = inr (λ e. absurd cc)
same_or_not (Some a) None = inr (λ e. absurd cc)
same_or_not (Some a) (Some b) = of (alike_or_not a b)
  where
    of : ((a ≡ b) ⊎ (a ≢ b)) → (Some a ≡ Some b) ⊎ (Some a ≢ Some b)
    of (inl e) = inl (ap Some e)
    of (inr h) = inr (λ e. h (let z : a ≡ b = cc in z))

-- ---- one program

module _ (rows : List Entry) (acyclic : IsAcyclic rows)
    (one : (name : List ℕ) (params : List Kind) (c i j : ℕ) → DeclaresVirtual rows name params c i → DeclaresVirtual rows name params c j → i ≡ j) where
  pub own_is : (name : List ℕ) (params : List Kind) (c j : ℕ) → DeclaresVirtual rows name params c j → own_row rows (is_virtual name params) c ≡ Some j
  own_is name params c j v =
      let o = owns rows name params c j v in
      o.1 ∙ ap Some (one name params c o.0 j (declared_at rows name params c o.0 o.1) v)

  nearest_there : (name : List ℕ) (params : List Kind) (c : ℕ) → Says (Dispatches rows name params c) (nearest rows (is_virtual name params) c)
  nearest_there name params c =
      nearest_says rows (DeclaresVirtual rows name params) (is_virtual name params) (virtual_says rows name params) (one name params) acyclic c

  -- the method of what is found
  among_declares : (name : List ℕ) (params : List Kind) (cs : List ℕ) (j : ℕ) → NearestAmong rows (DeclaresVirtual rows name params) cs j → (d : ℕ) × DeclaresVirtual rows name params d j
  among_declares name params [] j h = absurd h
  among_declares name params (d ∷ ds) j (inl v) = (d, v)
  among_declares name params (d ∷ ds) j (inr (none, h)) = among_declares name params ds j h

  pub nearest_declares : (name : List ℕ) (params : List Kind) (c j : ℕ) → nearest rows (is_virtual name params) c ≡ Some j → (d : ℕ) × DeclaresVirtual rows name params d j
  nearest_declares name params c j e =
      let h : Says (Dispatches rows name params c) (Some j) = subst (Says (Dispatches rows name params c)) e (nearest_there name params c) in
      among_declares name params h.chain j h.among

  -- what is found by relation is found
  pub nearest_is : (name : List ℕ) (params : List Kind) (c j : ℕ) → Dispatches rows name params c j → nearest rows (is_virtual name params) c ≡ Some j
  nearest_is name params c j d = of (nearest rows (is_virtual name params) c) refl (nearest_there name params c)
    where
      of : (o : Option ℕ) → nearest rows (is_virtual name params) c ≡ o → Says (Dispatches rows name params c) o → nearest rows (is_virtual name params) c ≡ Some j
      of None e none = absurd (none j d)
      of (Some i) e h = e ∙ ap Some (one_nearest rows (DeclaresVirtual rows name params) (is_virtual name params) (virtual_says rows name params) (one name params) acyclic c i j h d)

  -- where a superclass declares one, one is found
  first_among : (name : List ℕ) (params : List Kind) (cs : List ℕ) (d j : ℕ) → In cs d → own_row rows (is_virtual name params) d ≡ Some j → (k : ℕ) × (nearest_among rows (is_virtual name params) cs ≡ Some k)
  first_among name params [] d j i own = absurd i
  first_among name params (c ∷ cs) d j (inl e) own = (j, ap (λ o. first_of o (nearest_among rows (is_virtual name params) cs)) (ap (own_row rows (is_virtual name params)) e ∙ own))
  first_among name params (c ∷ cs) d j (inr i) own = of (own_row rows (is_virtual name params) c) refl (first_among name params cs d j i own)
    where
      of : (o : Option ℕ) → own_row rows (is_virtual name params) c ≡ o → ((k : ℕ) × (nearest_among rows (is_virtual name params) cs ≡ Some k)) → (k : ℕ) × (first_of (own_row rows (is_virtual name params) c) (nearest_among rows (is_virtual name params) cs) ≡ Some k)
      of None e m = (m.0, ap (λ o. first_of o (nearest_among rows (is_virtual name params) cs)) e ∙ m.1)
      of (Some k) e m = (k, ap (λ o. first_of o (nearest_among rows (is_virtual name params) cs)) e)

  pub nearest_some : (name : List ℕ) (params : List Kind) (c d j : ℕ) → IsSubclassAt rows c d → DeclaresVirtual rows name params d j → (k : ℕ) × (nearest rows (is_virtual name params) c ≡ Some k)
  unfolding nearest
  nearest_some name params c d j s v =
      first_among name params (chain_of rows c) d j (subst (λ (cs : List ℕ). In cs d) (one_chain rows c s.chain (chain_of rows c) s.goes_up (acyclic c)) s.among) (own_is name params d j v)

-- ---- two programs

goes_up : (o : Option ℕ) (ds : List ℕ) (P Q : ℕ → Type 0) → ((p : ℕ) → P p → Q p) → GoesUp o ds P → GoesUp o ds Q
goes_up None ds P Q f h = h
goes_up (Some p) ds P Q f h = f p h

pub chain_goes : (rs qs : List Entry) → ((c : ℕ) → parent_of qs c ≡ parent_of rs c) → (cs : List ℕ) (c : ℕ) → IsChain rs c cs → IsChain qs c cs
chain_goes rs qs same [] c h = absurd h
chain_goes rs qs same (d ∷ ds) c (e, h) = (
  e,
  subst (λ (o : Option ℕ). GoesUp o ds (λ p. IsChain qs p ds)) (sym (same c))
      (goes_up (parent_of rs c) ds (λ p. IsChain rs p ds) (λ p. IsChain qs p ds) (λ p x. chain_goes rs qs same ds p x) h),
)

pub subclass_goes : (rs qs : List Entry) → ((c : ℕ) → parent_of qs c ≡ parent_of rs c) → (c d : ℕ) → IsSubclassAt rs c d → IsSubclassAt qs c d
subclass_goes rs qs same c d s = record { chain = s.chain; goes_up = chain_goes rs qs same s.chain c s.goes_up; among = s.among }

-- a method of one program in the other, which is like it
pub virtual_goes : (rs qs : List Entry) (name : List ℕ) (params : List Kind) (c j : ℕ) (v : DeclaresVirtual rs name params c j) (f : Entry) → slice_get qs j ≡ Some f
    → f.sort ≡ v.declared.row.sort → f.class ≡ v.declared.row.class → f.params ≡ v.declared.row.params → f.is_private ≡ v.declared.row.is_private → f.is_static ≡ v.declared.row.is_static
    → DeclaresVirtual qs f.name params c j
virtual_goes rs qs name params c j v f at of_sort of_class takes private static = record {
  declared = record { row = f; stands = at; method = of_sort ∙ v.declared.method; class = of_class ∙ v.declared.class; named = refl; takes = takes ∙ v.declared.takes };
  visible = λ p. v.visible (record {
    row = v.declared.row;
    stands = v.declared.stands;
    private = sym private ∙ ap (λ (x : Entry). x.is_private) (some_inside (slice_get qs j) f p.row at p.stands) ∙ p.private;
  });
  instance = λ p. v.instance (record {
    row = v.declared.row;
    stands = v.declared.stands;
    static = sym static ∙ ap (λ (x : Entry). x.is_static) (some_inside (slice_get qs j) f p.row at p.stands) ∙ p.static;
  });
}

module _ (old new : List Entry) (ps : Programs old new) where
  pub image_of : (name : List ℕ) (params : List Kind) (c j : ℕ) → DeclaresVirtual old name params c j → (now : List ℕ) × DeclaresVirtual new now params c j
  image_of name params c j v =
      let f = ps.alike.there j v.declared.row v.declared.stands in
      (f.0.name, virtual_goes old new name params c j v f.0 f.1 f.2.of_sort f.2.of_class f.2.takes f.2.private f.2.static)

  pub was_of : (name : List ℕ) (params : List Kind) (c j : ℕ) → DeclaresVirtual new name params c j → (was : List ℕ) × DeclaresVirtual old was params c j
  was_of name params c j v =
      let e = ps.alike.back j v.declared.row v.declared.stands in
      (e.0.name, virtual_goes new old name params c j v e.0 e.1 (sym e.2.of_sort) (sym e.2.of_class) (sym e.2.takes) (sym e.2.private) (sym e.2.static))

  pub same_chain : (c : ℕ) → chain_of new c ≡ chain_of old c
  same_chain c = one_chain new c (chain_of new c) (chain_of old c) (ps.new_acyclic c) (chain_goes old new ps.alike.parents (chain_of old c) c (ps.old_acyclic c))

  -- a method of the class, with the name of the one program or of the other alone
  pub record HasPartner (was now : List ℕ) (params : List Kind) (c : ℕ) : Type 0 where
    pub row : ℕ
    pub before : List ℕ
    pub after : List ℕ
    pub names : HasNames old new before after params c row
    pub apart : ((before ≡ was) × (after ≢ now)) ⊎ ((after ≡ now) × (before ≢ was))

  pub partner : (was now : List ℕ) (params : List Kind) (c : ℕ) → own_row old (is_virtual was params) c ≢ own_row new (is_virtual now params) c → HasPartner was now params c
  partner was now params c differs = of (own_row old (is_virtual was params) c) (own_row new (is_virtual now params) c) refl refl
    where
      of : (o p : Option ℕ) → own_row old (is_virtual was params) c ≡ o → own_row new (is_virtual now params) c ≡ p → HasPartner was now params c
      of None None a b = absurd (differs (a ∙ sym b))
      of (Some i) p a b =
          let v = declared_at old was params c i a in
          let w = image_of was params c i v in
          record {
            row = i;
            before = was;
            after = w.0;
            names = record { before = v; after = w.1 };
            apart = inl (refl, λ s. differs (a ∙ sym (own_is new ps.new_acyclic ps.one_new now params c i (subst (λ (n : List ℕ). DeclaresVirtual new n params c i) s w.1))));
          }
      of None (Some i) a b =
          let v = declared_at new now params c i b in
          let w = was_of now params c i v in
          record {
            row = i;
            before = w.0;
            after = now;
            names = record { before = w.1; after = v };
            apart = inr (refl, λ s. differs (own_is old ps.old_acyclic ps.one_old was params c i (subst (λ (n : List ℕ). DeclaresVirtual old n params c i) s w.1) ∙ sym b));
          }

  pub apart_differ : (was now before after : List ℕ) (params : List Kind) (c i : ℕ) → HasNames old new before after params c i
      → (((before ≡ was) × (after ≢ now)) ⊎ ((after ≡ now) × (before ≢ was))) → own_row old (is_virtual was params) c ≢ own_row new (is_virtual now params) c
  apart_differ was now before after params c i names (inl (s, differs)) = λ e.
      let own = own_is old ps.old_acyclic ps.one_old was params c i (subst (λ (n : List ℕ). DeclaresVirtual old n params c i) s names.before) in
      let v = declared_at new now params c i (sym e ∙ own) in
      differs (same_row new now after params params c c i v names.after).named
  apart_differ was now before after params c i names (inr (s, differs)) = λ e.
      let own = own_is new ps.new_acyclic ps.one_new now params c i (subst (λ (n : List ℕ). DeclaresVirtual new n params c i) s names.after) in
      let v = declared_at old was params c i (e ∙ own) in
      differs (same_row old was before params params c c i v names.before).named

  -- ---- dispatch that changes

  differs_among : (t u : ℕ → Entry → Bool) (cs : List ℕ) → nearest_among old t cs ≢ nearest_among new u cs → (d : ℕ) × In cs d × (own_row old t d ≢ own_row new u d)
  differs_among t u [] h = absurd (h refl)
  differs_among t u (c ∷ cs) h = of (same_or_not (own_row old t c) (own_row new u c)) (λ s. differs_among t u cs s)
    where
      of : ((own_row old t c ≡ own_row new u c) ⊎ (own_row old t c ≢ own_row new u c)) → ((nearest_among old t cs ≢ nearest_among new u cs) → (d : ℕ) × In cs d × (own_row old t d ≢ own_row new u d))
          → (d : ℕ) × In (c ∷ cs) d × (own_row old t d ≢ own_row new u d)
      of (inr s) more = (c, inl refl, s)
      of (inl e) more = let m = more (λ s. h (λ i. first_of (e i) (s i))) in (m.0, inr m.1, m.2)

  differs_somewhere : (t u : ℕ → Entry → Bool) (c : ℕ) → nearest old t c ≢ nearest new u c → DiffersAbove old new t u c
  unfolding nearest
  differs_somewhere t u c h =
      let m = differs_among t u (chain_of old c) (λ s. h (s ∙ ap (nearest_among new u) (sym (same_chain c)))) in
      record { at = m.0; above = record { chain = chain_of old c; goes_up = ps.old_acyclic c; among = m.1 }; differs = m.2 }

  swap : (a b x y : List ℕ) → (((a ≡ x) × (b ≢ y)) ⊎ ((b ≡ y) × (a ≢ x))) → ((x ≡ a) × (y ≢ b)) ⊎ ((y ≡ b) × (x ≢ a))
  swap a b x y (inl (e, h)) = inl (sym e, λ s. h (sym s))
  swap a b x y (inr (e, h)) = inr (sym e, λ s. h (sym s))

  -- a class for which dispatch changes is below such a method
  pub record IsUnder (c : ℕ) : Type 0 where
    pub low : ℕ
    pub row : ℕ
    pub parted : IsParted old new low row
    pub below : IsSubclassAt old c low

  pub change_is_under : (c j : ℕ) → ChangesAt old new c j → IsUnder c
  change_is_under c j h = of (differs_somewhere (is_virtual h.was h.params) (is_virtual h.now h.params) c h.differs)
    where
      of : DiffersAbove old new (is_virtual h.was h.params) (is_virtual h.now h.params) c → IsUnder c
      of d = by (comparable old c d.at h.class d.above h.below)
        where
          by : (IsSubclassAt old d.at h.class ⊎ IsSubclassAt old h.class d.at) → IsUnder c
          by (inr up) = record {
            low = h.class;
            row = j;
            parted = record { was = h.was; now = h.now; params = h.params; names = h.names; differs = record { at = d.at; above = up; differs = d.differs } };
            below = h.below;
          }
          by (inl up) =
              let p = partner h.was h.now h.params d.at d.differs in
              record {
                low = d.at;
                row = p.row;
                parted = record {
                  was = p.before;
                  now = p.after;
                  params = h.params;
                  names = p.names;
                  differs = record { at = h.class; above = up; differs = apart_differ p.before p.after h.was h.now h.params h.class j h.names (swap p.before p.after h.was h.now p.apart) };
                };
                below = d.above;
              }

  -- and for a class below such a method dispatch changes
  -- two names are dispatched to two methods
  one_name : (rows : List Entry) (acyclic : IsAcyclic rows)
      (one : (name : List ℕ) (params : List Kind) (c i j : ℕ) → DeclaresVirtual rows name params c i → DeclaresVirtual rows name params c j → i ≡ j)
      (a b : List ℕ) (params : List Kind) (c d i : ℕ) → IsSubclassAt rows c d → DeclaresVirtual rows a params d i
      → nearest rows (is_virtual a params) c ≡ nearest rows (is_virtual b params) c → a ≡ b
  one_name rows acyclic one a b params c d i s v e =
      let m = nearest_some rows acyclic one a params c d i s v in
      let x = nearest_declares rows acyclic one a params c m.0 m.1 in
      let y = nearest_declares rows acyclic one b params c m.0 (sym e ∙ m.1) in
      (same_row rows b a params params y.0 x.0 m.0 y.1 x.1).named

  changes_of : (c x row : ℕ) (z : IsParted old new x row) → IsSubclassAt old c x → (j : ℕ) × ChangesAt old new c j
  changes_of c x row z under = of (partner z.was z.now z.params z.differs.at z.differs.differs)
    where
      above : IsSubclassAt old c z.differs.at
      above = upwards old c x z.differs.at under z.differs.above

      above_new : IsSubclassAt new c z.differs.at
      above_new = subclass_goes old new ps.alike.parents c z.differs.at above

      -- the method itself, or its partner
      own : nearest old (is_virtual z.was z.params) c ≢ nearest new (is_virtual z.now z.params) c → (j : ℕ) × ChangesAt old new c j
      own h = (row, record { was = z.was; now = z.now; params = z.params; class = x; names = z.names; below = under; differs = h })

      other : (p : HasPartner z.was z.now z.params z.differs.at) → nearest old (is_virtual p.before z.params) c ≢ nearest new (is_virtual p.after z.params) c → (j : ℕ) × ChangesAt old new c j
      other p h = (p.row, record { was = p.before; now = p.after; params = z.params; class = z.differs.at; names = p.names; below = above; differs = h })

      -- the partner has the old name
      with_old : (p : HasPartner z.was z.now z.params z.differs.at) → p.before ≡ z.was → p.after ≢ z.now
          → ((nearest old (is_virtual z.was z.params) c ≡ nearest new (is_virtual z.now z.params) c) ⊎ (nearest old (is_virtual z.was z.params) c ≢ nearest new (is_virtual z.now z.params) c)) → (j : ℕ) × ChangesAt old new c j
      with_old p s differs (inr h) = own h
      with_old p s differs (inl e) = other p (λ q. differs (one_name new ps.new_acyclic ps.one_new p.after z.now z.params c z.differs.at p.row above_new p.names.after
          (sym q ∙ ap (λ (n : List ℕ). nearest old (is_virtual n z.params) c) s ∙ e)))

      -- the partner has the new name
      with_new : (p : HasPartner z.was z.now z.params z.differs.at) → p.after ≡ z.now → p.before ≢ z.was
          → ((nearest old (is_virtual z.was z.params) c ≡ nearest new (is_virtual z.now z.params) c) ⊎ (nearest old (is_virtual z.was z.params) c ≢ nearest new (is_virtual z.now z.params) c)) → (j : ℕ) × ChangesAt old new c j
      with_new p s differs (inr h) = own h
      with_new p s differs (inl e) = other p (λ q. differs (one_name old ps.old_acyclic ps.one_old p.before z.was z.params c z.differs.at p.row above p.names.before
          (q ∙ ap (λ (n : List ℕ). nearest new (is_virtual n z.params) c) s ∙ sym e)))

      choose : (p : HasPartner z.was z.now z.params z.differs.at) → (((p.before ≡ z.was) × (p.after ≢ z.now)) ⊎ ((p.after ≡ z.now) × (p.before ≢ z.was))) → (j : ℕ) × ChangesAt old new c j
      choose p (inl (s, h)) = with_old p s h (same_or_not (nearest old (is_virtual z.was z.params) c) (nearest new (is_virtual z.now z.params) c))
      choose p (inr (s, h)) = with_new p s h (same_or_not (nearest old (is_virtual z.was z.params) c) (nearest new (is_virtual z.now z.params) c))

      of : HasPartner z.was z.now z.params z.differs.at → (j : ℕ) × ChangesAt old new c j
      of p = choose p p.apart

  pub under_changes : (c : ℕ) → IsUnder c → (j : ℕ) × ChangesAt old new c j
  under_changes c u = changes_of c u.low u.row u.parted u.below
