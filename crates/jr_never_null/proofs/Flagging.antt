-- Flags that are made one by one tell which expressions are never null.
use Rattle.std.proofs.Common.{◌≡◌, ◌⊎◌, ◌<◌, ◌≤◌, ℕ, zero, suc, ◌+◌, Bool, true, false, not, List, [], ◌∷◌, ◌++◌, length, Option, Some, None, refl, sym, ap, subst, ◌∙◌, inl, inr, append_assoc, length-append, arith}
use Rattle.std.specs.Prelude.{◌↔◌, ◌&&◌, IsTrue, slice_get, unwrap_or}
use Rattle.std.proofs.lemmas.Bool.{and_parts, and_from, false≢true, cases_lt}
use Rattle.std.proofs.lemmas.Option.{slice_get_past}
use Rattle.jr_ast.specs.Tree as tree
use Rattle.jr_runs.specs.Keys.{Keys}
use Rattle.jr_cover.specs.Facts.{Facts, Variable, is_local, is_static_field, is_instance_field}
use Rattle.jr_cover.specs.NeverNullTrees.{NamesLocal, NeverNull, this, create, string, class_literal, paren, local}
use Rattle.jr_never_null.specs.Flags.{local_flag, is_safe, next_flag, flags_behind, init_of}

-- ---- lists

front_kept : {X : Type 0} (xs ys : List X) (n : ℕ) → n < length xs → slice_get (xs ++ ys) n ≡ slice_get xs n
front_kept [] ys n lt = absurd (omega arith)
front_kept (x ∷ xs) ys zero lt = refl
front_kept (x ∷ xs) ys (suc n) lt = front_kept xs ys n (omega arith)

next_item : {X : Type 0} (xs : List X) (y : X) (ys : List X) → slice_get (xs ++ y ∷ ys) (length xs) ≡ Some y
next_item [] y ys = refl
next_item (x ∷ xs) y ys = next_item xs y ys

same_number : {K : Keys} (m n : ℕ) → ◌≡◌ {A = Option (Variable K)} (Some (is_local m)) (Some (is_local n)) → m ≡ n
same_number m n e = cc

not_none : {X : Type 0} {x : X} → None ≡ Some x → ⊥
not_none e = cc

not_static : {K : Keys} (f : K.field) (n : ℕ) → ◌≡◌ {A = Option (Variable K)} (Some (is_static_field f)) (Some (is_local n)) → ⊥
not_static f n e = cc

not_instance : {K : Keys} (f : K.field) (n : ℕ) → ◌≡◌ {A = Option (Variable K)} (Some (is_instance_field f)) (Some (is_local n)) → ⊥
not_instance f n e = cc

one_value : {X : Type 0} (x y : X) → Some x ≡ Some y → x ≡ y
one_value x y e = cc

negated : (b : Bool) → IsTrue (not b) → b ≡ false
negated true e = absurd (false≢true e)
negated false e = refl

negates : (b : Bool) → b ≡ false → IsTrue (not b)
negates b e = ap not e

module _ {K : Keys} {A : Type 0} (F : Facts K A) (is_assigned : ℕ → Bool) (inits : List (Option (tree.Exp A))) where
  abbrev Never : tree.Exp A → Type 0
  Never e = NeverNull F (init_of inits) is_assigned e

  -- what is asked of a local
  record Keeps (n : ℕ) : Type 0 where
    unassigned : is_assigned n ≡ false
    value : tree.Exp A
    begins : init_of inits n ≡ Some value
    lower : (m : ℕ) → NamesLocal F value m → m < n
    never : Never value

  keeps_of : (a : A) (w : tree.Word A) (n : ℕ) → F.variable w.mark ≡ Some (is_local n) → Never (tree.name a w) → Keeps n
  keeps_of a w n means (local b v m e tells free begins lower never) =
      subst Keeps (same_number m n (sym tells ∙ means)) (record { unassigned = free; value = e; begins = begins; lower = lower; never = never })

  means_local : (a : A) (w : tree.Word A) → Never (tree.name a w) → (n : ℕ) × (F.variable w.mark ≡ Some (is_local n))
  means_local a w (local b v m e tells free begins lower never) = (m, tells)

  inside_paren : (a : A) (e : tree.Exp A) → Never (tree.paren a e) → Never e
  inside_paren a e (paren b f h) = h

  named_keeps : (e : tree.Exp A) (m : ℕ) → Never e → NamesLocal F e m → Keeps m
  named_keeps e m (this a) names = absurd names
  named_keeps e m (create a t es) names = absurd names
  named_keeps e m (string a s) names = absurd names
  named_keeps e m (class_literal a t) names = absurd names
  named_keeps e m (paren a f h) names = named_keeps f m h names
  named_keeps e m (local a w n f tells free begins lower never) names = keeps_of a w m names (local a w n f tells free begins lower never)

  -- the first so many flags are right
  abbrev Right : List Bool → Type 0
  Right flags = (n : ℕ) → n < length flags → (IsTrue (unwrap_or (slice_get flags n) false) ↔ Keeps n)

  -- by the locals below a number alone
  abbrev NeverBelow : ℕ → tree.Exp A → Type 0
  NeverBelow count e = ((m : ℕ) → NamesLocal F e m → m < count) × Never e

  module _ (flags : List Bool) (right : Right flags) where
    local_told : (a : A) (w : tree.Word A) (n : ℕ) → F.variable w.mark ≡ Some (is_local n) → ((n < length flags) ⊎ (length flags ≤ n))
        → (IsTrue (unwrap_or (slice_get flags n) false) ↔ NeverBelow (length flags) (tree.name a w))
    local_told a w n is (inl lt) = (forth, λ p. (right n lt).1 (keeps_of a w n is p.1))
      where
        forth : IsTrue (unwrap_or (slice_get flags n) false) → NeverBelow (length flags) (tree.name a w)
        forth t =
            let k = (right n lt).0 t in
            (λ m names. subst (λ (i : ℕ). i < length flags) (same_number n m (sym is ∙ names)) lt, local a w n k.value is k.unassigned k.begins k.lower k.never)
    local_told a w n is (inr past) = (
      λ t. absurd (false≢true (sym (ap (λ o. unwrap_or o false) (slice_get_past flags n past)) ∙ t)),
      λ p. let low : n < length flags = p.0 n is in absurd (omega arith),
    )

    name_told : (a : A) (w : tree.Word A) (o : Option (Variable K)) → F.variable w.mark ≡ o → (IsTrue (local_flag flags o) ↔ NeverBelow (length flags) (tree.name a w))
    name_told a w None is = (λ t. absurd (false≢true t), λ p. absurd (not_none (sym is ∙ (means_local a w p.1).1)))
    name_told a w (Some (is_local n)) is = local_told a w n is (cases_lt n (length flags))
    name_told a w (Some (is_static_field f)) is = let no = not_static f in (λ t. absurd (false≢true t), λ p. let q = means_local a w p.1 in absurd (no q.0 (sym is ∙ q.1)))
    name_told a w (Some (is_instance_field f)) is = let no = not_instance f in (λ t. absurd (false≢true t), λ p. let q = means_local a w p.1 in absurd (no q.0 (sym is ∙ q.1)))

    told : (e : tree.Exp A) → (IsTrue (is_safe F flags e) ↔ NeverBelow (length flags) e)
    told (tree.number a n) = (λ holds. absurd (false≢true holds), λ p. elim p.1 [ ])
    told (tree.truth a b) = (λ holds. absurd (false≢true holds), λ p. elim p.1 [ ])
    told (tree.null a) = (λ holds. absurd (false≢true holds), λ p. elim p.1 [ ])
    told (tree.string a s) = (λ holds. (λ m h. absurd h, string a s), λ p. refl)
    told (tree.name a w) = name_told a w (F.variable w.mark) refl
    told (tree.field a e w) = (λ holds. absurd (false≢true holds), λ p. elim p.1 [ ])
    told (tree.super_field a w) = (λ holds. absurd (false≢true holds), λ p. elim p.1 [ ])
    told (tree.this a) = (λ holds. (λ m h. absurd h, this a), λ p. refl)
    told (tree.class_literal a t) = (λ holds. (λ m h. absurd h, class_literal a t), λ p. refl)
    told (tree.call a t w es) = (λ holds. absurd (false≢true holds), λ p. elim p.1 [ ])
    told (tree.super_call a w es) = (λ holds. absurd (false≢true holds), λ p. elim p.1 [ ])
    told (tree.create a t es) = (λ holds. (λ m h. absurd h, create a t es), λ p. refl)
    told (tree.paren a e) = let part = told e in (λ holds. let p = part.0 holds in (p.0, paren a e p.1), λ p. part.1 (p.0, inside_paren a e p.1))
    told (tree.cast a t e) = (λ holds. absurd (false≢true holds), λ p. elim p.1 [ ])
    told (tree.unary a op e) = (λ holds. absurd (false≢true holds), λ p. elim p.1 [ ])
    told (tree.bump a op t) = (λ holds. absurd (false≢true holds), λ p. elim p.1 [ ])
    told (tree.binary a op l r) = (λ holds. absurd (false≢true holds), λ p. elim p.1 [ ])
    told (tree.assign a t e) = (λ holds. absurd (false≢true holds), λ p. elim p.1 [ ])
    told (tree.compound a op t e) = (λ holds. absurd (false≢true holds), λ p. elim p.1 [ ])

    -- the flag of the next local
    next_told : (x : Option (tree.Exp A)) → init_of inits (length flags) ≡ x → (IsTrue (next_flag F is_assigned flags x) ↔ Keeps (length flags))
    next_told None is = (λ t. absurd (false≢true t), λ k. absurd (not_none (sym is ∙ k.begins)))
    next_told (Some e) is = (forth, back)
      where
        forth : IsTrue (not (is_assigned (length flags)) && is_safe F flags e) → Keeps (length flags)
        forth t =
            let p = and_parts (not (is_assigned (length flags))) (is_safe F flags e) t in
            let q = (told e).0 p.1 in
            record { unassigned = negated (is_assigned (length flags)) p.0; value = e; begins = is; lower = q.0; never = q.1 }

        back : Keeps (length flags) → IsTrue (not (is_assigned (length flags)) && is_safe F flags e)
        back k =
            let same : k.value ≡ e = one_value k.value e (sym k.begins ∙ is) in
            and_from (not (is_assigned (length flags))) (is_safe F flags e) (negates (is_assigned (length flags)) k.unassigned)
            ((told e).1 (subst (λ (f : tree.Exp A). NeverBelow (length flags) f) same (k.lower, k.never)))

    right_more : (y : Bool) → (IsTrue y ↔ Keeps (length flags)) → Right (flags ++ y ∷ [])
    right_more y is n lt = by (cases_lt n (length flags))
      where
        by : ((n < length flags) ⊎ (length flags ≤ n)) → (IsTrue (unwrap_or (slice_get (flags ++ y ∷ []) n) false) ↔ Keeps n)
        by (inl low) = subst (λ (o : Option Bool). IsTrue (unwrap_or o false) ↔ Keeps n) (sym (front_kept flags (y ∷ []) n low)) (right n low)
        by (inr past) =
            let last : length flags ≡ n = omega (arith, lt, length-append flags (y ∷ [])) in
            subst (λ (i : ℕ). IsTrue (unwrap_or (slice_get (flags ++ y ∷ []) i) false) ↔ Keeps i) last
            (subst (λ (o : Option Bool). IsTrue (unwrap_or o false) ↔ Keeps (length flags)) (sym (next_item flags y [])) is)

  all_right : (before xs : List (Option (tree.Exp A))) (flags : List Bool) → inits ≡ before ++ xs → length before ≡ length flags → Right flags
      → Right (flags_behind F is_assigned flags xs) × (length (flags_behind F is_assigned flags xs) ≡ length flags + length xs)
  all_right before [] flags is same right = (right, omega arith)
  all_right before (x ∷ xs) flags is same right =
      let y = next_flag F is_assigned flags x in
      let item : init_of inits (length flags) ≡ x =
      ap (λ l. unwrap_or (slice_get l (length flags)) None) is ∙ ap (λ n. unwrap_or (slice_get (before ++ x ∷ xs) n) None) (sym same) ∙ ap (λ o. unwrap_or o None) (next_item before x xs) in
      let size = length-append flags (y ∷ []) in
      let more = all_right (before ++ x ∷ []) xs (flags ++ y ∷ []) (is ∙ sym (append_assoc before (x ∷ []) xs)) (omega (arith, length-append before (x ∷ []), size, same)) (right_more flags right y (next_told flags right x item)) in
      (more.0, more.1 ∙ omega (arith, size))

  pub flags_tell : (e : tree.Exp A) → (IsTrue (is_safe F (flags_behind F is_assigned [] inits) e) ↔ Never e)
  flags_tell e =
      let all = all_right [] inits [] refl refl (λ n lt. absurd (omega arith)) in
      let whole = told (flags_behind F is_assigned [] inits) all.0 e in
      (λ t. (whole.0 t).1, λ h. whole.1 (λ m names. within m (all.1 ∙ omega arith) (named_keeps e m h names), h))
    where
      within : (m : ℕ) → length (flags_behind F is_assigned [] inits) ≡ length inits → Keeps m → m < length (flags_behind F is_assigned [] inits)
      within m size k = by (cases_lt m (length inits))
        where
          by : ((m < length inits) ⊎ (length inits ≤ m)) → m < length (flags_behind F is_assigned [] inits)
          by (inl lt) = omega (arith, size)
          by (inr past) = absurd (not_none (sym (ap (λ o. unwrap_or o None) (slice_get_past inits m past)) ∙ k.begins))
