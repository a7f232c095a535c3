-- The scope of a walk is that of the definition's context.
use Rattle.std.proofs.Common.{◌≡◌, ℕ, zero, suc, List, [], ◌∷◌, ◌++◌, Option, Some, None, Bool, true, false, not, map, refl, sym, ap, subst, ◌∙◌, inl, inr}
use Rattle.std.specs.Prelude.{◌⊎◌, ◌==◌, ◌&&◌, ◌||◌, ◌≢◌, slice_get, if◌then◌else◌}
use Rattle.std.specs.Cmp.Lexicographic.{bytes_decides}
use Rattle.std.proofs.lemmas.Bool.Decides.{Decides-eqb}
use Rattle.std.proofs.lemmas.Option.{none-some, same_Some}
use Rattle.jr_ast.specs.Tree as tree
use Rattle.jr_ast.specs.StatementTree as statement
use Rattle.jr_table.specs.Decls.{MemberKey, LocalKey}
use Rattle.jr_table.specs.Context.{Context, Local, local_key, local_of, after}
use Rattle.jr_table.specs.SameKeys.{same_name}
use Rattle.jr_images.specs.Clashes.{DeclaresUnder}
use Rattle.jr_rename.specs.Walks.{Asked, Held, least_of, if_so, is_met, named_in, has_number, met, is_declared}
use Rattle.jr_rename.specs.LocalAnswers.{asked_local}
use Rattle.jr_rename.proofs.Least.{numbered, LeastOf, least_to, least_both, least_one}

abbrev pub held_local : Local → Held
held_local l = record { number = l.key.number; name = l.name }

-- a context of the member, with those in scope
pub record Beside (m : MemberKey) (c : Context) (scope : List Held) : Type 0 where
  pub member : c.member ≡ m
  pub locals : map held_local c.locals ≡ scope
  pub each : (i : ℕ) (l : Local) → slice_get c.locals i ≡ Some l → l.key.member ≡ m

-- ---- tests

pub both_true : (a b : Bool) → (a && b) ≡ true → (a ≡ true) × (b ≡ true)
both_true true b e = (refl, e)
both_true false b e = absurd cc

pub true_both : (a b : Bool) → a ≡ true → b ≡ true → (a && b) ≡ true
true_both a b e f = cc

pub same_to : (x y : List ℕ) → same_name x y ≡ true → x ≡ y
same_to x y e = (bytes_decides x y).0 e

pub to_same : (x y : List ℕ) → x ≡ y → same_name x y ≡ true
to_same x y e = (bytes_decides x y).1 e

pub number_is : (m n : ℕ) → (m == n) ≡ true → m ≡ n
number_is m n e = (Decides-eqb m n).0 e

pub is_number : (m n : ℕ) → m ≡ n → (m == n) ≡ true
is_number m n e = (Decides-eqb m n).1 e

pub not_number : (m n : ℕ) → not (m == n) ≡ true → m ≡ n → ⊥
not_number m n e is = by (m == n) e (is_number m n is)
  where
    by : (b : Bool) → not b ≡ true → b ≡ true → ⊥
    by true g h = absurd cc
    by false g h = absurd cc

pub number_not : (m n : ℕ) → (m ≡ n → ⊥) → not (m == n) ≡ true
number_not m n lacks = by (m == n) refl
  where
    by : (b : Bool) → (m == n) ≡ b → not b ≡ true
    by true f = absurd (lacks (number_is m n f))
    by false f = refl

-- ---- one declaration

module _ {A : Type 0} (begins : A → ℕ → ℕ) (k : LocalKey) (new : List ℕ) where
  abbrev asked : Asked
  asked = asked_local k new

  -- one of the locals
  abbrev pub Among : List Local → LocalKey → (name : List ℕ) → Type 0
  Among ls j name = (i : ℕ) × (l : Local) × (slice_get ls i ≡ Some l) × (l.key ≡ j) × (l.name ≡ name)

  -- the local meets the other where the statement declares one of the two
  abbrev pub MeetsAt : LocalKey → (number : ℕ) → Context → statement.Stmt A → Type 0
  MeetsAt j n c s = (k ≢ j) × ((old : List ℕ) × (DeclaresUnder begins n c s k old j new ⊎ DeclaresUnder begins n c s j new k old))

  one_met : (l : Local) → l.key.member ≡ k.member → LeastOf k.member (λ j. (k ≢ j) × (l.key ≡ j) × (l.name ≡ new)) (if_so (is_met asked (held_local l)) l.key.number)
  one_met l of = least_one k.member (λ j. (k ≢ j) × (l.key ≡ j) × (l.name ≡ new)) (is_met asked (held_local l)) l.key.number to back
    where
      same : l.key ≡ numbered k.member l.key.number
      same = λ i. record { member = of i; number = l.key.number }

      to : is_met asked (held_local l) ≡ true → (k ≢ numbered k.member l.key.number) × (l.key ≡ numbered k.member l.key.number) × (l.name ≡ new)
      to e =
          let r = both_true (same_name l.name new) (not (l.key.number == k.number)) e in
          (λ is. not_number l.key.number k.number r.1 (ap (λ (x : LocalKey). x.number) (sym is)), same, same_to l.name new r.0)

      back : (j : LocalKey) → (k ≢ j) × (l.key ≡ j) × (l.name ≡ new) → (is_met asked (held_local l) ≡ true) × (j.number ≡ l.key.number)
      back j (other, is, named) = (
        true_both (same_name l.name new) (not (l.key.number == k.number)) (to_same l.name new named)
            (number_not l.key.number k.number (λ e. other ((λ i. record { member = sym of i; number = sym e i }) ∙ is))),
        ap (λ (x : LocalKey). x.number) (sym is),
      )

  all_met : (P : LocalKey → Type 0) (o : Option ℕ) (ls : List Local) → ((i : ℕ) (l : Local) → slice_get ls i ≡ Some l → l.key.member ≡ k.member) → LeastOf k.member P o
      → LeastOf k.member (λ j. P j ⊎ ((k ≢ j) × Among ls j new)) (named_in asked o (map held_local ls))
  all_met P o [] each h = least_to k.member P (λ j. P j ⊎ ((k ≢ j) × Among [] j new)) o (λ j p. inl p) (λ j q. elim q [ inl p ↦ p | inr x ↦ (let e = x.1.2 in absurd (none-some x.1.1 e)) ]) h
  all_met P o (l ∷ ls) each h =
      let One : LocalKey → Type 0 = λ j. (k ≢ j) × (l.key ≡ j) × (l.name ≡ new) in
      let here = least_both k.member P One o (if_so (is_met asked (held_local l)) l.key.number) h (one_met l (each 0 l refl)) in
      let rest = all_met (λ j. P j ⊎ One j) (least_of o (if_so (is_met asked (held_local l)) l.key.number)) ls (λ i x e. each (suc i) x e) here in
      least_to k.member (λ j. (P j ⊎ One j) ⊎ ((k ≢ j) × Among ls j new)) (λ j. P j ⊎ ((k ≢ j) × Among (l ∷ ls) j new)) (named_in asked (least_of o (if_so (is_met asked (held_local l)) l.key.number)) (map held_local ls)) to back rest
    where
      to : (j : LocalKey) → (P j ⊎ ((k ≢ j) × (l.key ≡ j) × (l.name ≡ new))) ⊎ ((k ≢ j) × Among ls j new) → P j ⊎ ((k ≢ j) × Among (l ∷ ls) j new)
      to j (inl (inl p)) = inl p
      to j (inl (inr (other, is, named))) = inr (other, (0, l, refl, is, named))
      to j (inr (other, (i, x, e, is, named))) = inr (other, (suc i, x, e, is, named))

      back : (j : LocalKey) → P j ⊎ ((k ≢ j) × Among (l ∷ ls) j new) → (P j ⊎ ((k ≢ j) × (l.key ≡ j) × (l.name ≡ new))) ⊎ ((k ≢ j) × Among ls j new)
      back j (inl p) = inl (inl p)
      back j (inr (other, (zero, x, e, is, named))) =
          let same = same_Some l x e in
          inl (inr (other, ap (λ (z : Local). z.key) same ∙ is, ap (λ (z : Local). z.name) same ∙ named))
      back j (inr (other, (suc i, x, e, is, named))) = inr (other, (i, x, e, is, named))

  -- whether the local is in scope
  held_more : (l : Local) (ls : List Local) → l.key.member ≡ k.member → (has_number k.number (map held_local ls) ≡ true → (name : List ℕ) × Among ls k name)
      → (b : Bool) → (l.key.number == k.number) ≡ b → (b || has_number k.number (map held_local ls)) ≡ true → (name : List ℕ) × Among (l ∷ ls) k name
  held_more l ls of go true is e = (l.name, (0, l, refl, (λ i. record { member = of i; number = number_is l.key.number k.number is i }), refl))
  held_more l ls of go false is e =
      let r = go e in
      (r.0, (suc r.1.0, r.1.1, r.1.2, r.1.3, r.1.4))

  held_among : (ls : List Local) → ((i : ℕ) (l : Local) → slice_get ls i ≡ Some l → l.key.member ≡ k.member) → has_number k.number (map held_local ls) ≡ true → (name : List ℕ) × Among ls k name
  held_among [] each e = absurd cc
  held_among (l ∷ ls) each e = held_more l ls (each 0 l refl) (λ h. held_among ls (λ i x g. each (suc i) x g) h) (l.key.number == k.number) refl e

  or_true : (a b : Bool) → b ≡ true → (a || b) ≡ true
  or_true true b e = refl
  or_true false b e = e

  among_held : (ls : List Local) (name : List ℕ) → Among ls k name → has_number k.number (map held_local ls) ≡ true
  among_held [] name (i, l, e, is, named) = absurd (none-some l e)
  among_held (l ∷ ls) name (zero, x, e, is, named) =
      let same : l ≡ x = same_Some l x e in
      let n : (l.key.number == k.number) ≡ true = is_number l.key.number k.number (ap (λ (z : Local). z.key.number) same ∙ ap (λ (z : LocalKey). z.number) is) in
      ap (λ (b : Bool). b || has_number k.number (map held_local ls)) n
  among_held (l ∷ ls) name (suc i, x, e, is, named) = or_true (l.key.number == k.number) (has_number k.number (map held_local ls)) (among_held ls name (i, x, e, is, named))

  -- what is met where a local is declared
  module _ (n : ℕ) (c : Context) (scope : List Held) (beside : Beside k.member c scope) (a : A) (f : Bool) (t : tree.TypeName A) (w : tree.Word A) (e : tree.Exp A) where
    abbrev s : statement.Stmt A
    s = statement.local a f t w e

    key_is : n ≡ k.number → local_key c n ≡ k
    key_is is = λ i. record { member = beside.member i; number = is i }

    itself_met : n ≡ k.number → LeastOf k.member (λ j. MeetsAt j n c s) (named_in asked None scope)
    itself_met is =
        let P : LocalKey → Type 0 = λ j. ⊥ in
        let all = all_met P None c.locals beside.each (λ j h. h) in
        let there = subst (λ (hs : List Held). LeastOf k.member (λ j. ⊥ ⊎ ((k ≢ j) × Among c.locals j new)) (named_in asked None hs)) beside.locals all in
        least_to k.member (λ j. ⊥ ⊎ ((k ≢ j) × Among c.locals j new)) (λ j. MeetsAt j n c s) (named_in asked None scope) to back there
      where
        to : (j : LocalKey) → ⊥ ⊎ ((k ≢ j) × Among c.locals j new) → MeetsAt j n c s
        to j (inl x) = absurd x
        to j (inr (other, there)) = (other, (w.text, inl (key_is is, refl, there)))

        back : (j : LocalKey) → MeetsAt j n c s → ⊥ ⊎ ((k ≢ j) × Among c.locals j new)
        back j (other, (old, inl (declared, named, there))) = inr (other, there)
        back j (other, (old, inr (declared, named, there))) = absurd (other (sym (key_is is) ∙ declared))

    other_met : (n ≡ k.number → ⊥) → LeastOf k.member (λ j. MeetsAt j n c s) (if_so (same_name w.text new && has_number k.number scope) n)
    other_met lacks = least_one k.member (λ j. MeetsAt j n c s) (same_name w.text new && has_number k.number scope) n to back
      where
        to : (same_name w.text new && has_number k.number scope) ≡ true → MeetsAt (numbered k.member n) n c s
        to is =
            let r = both_true (same_name w.text new) (has_number k.number scope) is in
            let h = held_among c.locals beside.each (ap (has_number k.number) beside.locals ∙ r.1) in
            (λ same. lacks (ap (λ (x : LocalKey). x.number) (sym same)), (h.0, inr ((λ i. record { member = beside.member i; number = n }), same_to w.text new r.0, h.1)))

        back : (j : LocalKey) → MeetsAt j n c s → ((same_name w.text new && has_number k.number scope) ≡ true) × (j.number ≡ n)
        back j (other, (old, inl (declared, named, there))) = absurd (lacks (ap (λ (x : LocalKey). x.number) declared))
        back j (other, (old, inr (declared, named, there))) = (
          true_both (same_name w.text new) (has_number k.number scope) (to_same w.text new named) (ap (has_number k.number) (sym beside.locals) ∙ among_held c.locals old there),
          ap (λ (x : LocalKey). x.number) (sym declared),
        )

    pub local_met : LeastOf k.member (λ j. MeetsAt j n c s) (met asked scope n w.text)
    local_met = by (n == k.number) refl
      where
        by : (b : Bool) → (n == k.number) ≡ b → LeastOf k.member (λ j. MeetsAt j n c s) (if b then named_in asked None scope else if_so (same_name w.text new && has_number k.number scope) n)
        by true is = itself_met (number_is n k.number is)
        by false is = other_met (λ e. let t = is_number n k.number e in absurd cc)

  -- the local's own declaration
  pub declared_to : (n : ℕ) (name : List ℕ) → is_declared asked n name ≡ true → (n ≡ k.number) × (name ≡ new)
  declared_to n name e = let r = both_true (n == k.number) (same_name name new) e in (number_is n k.number r.0, same_to name new r.1)

  pub to_declared : (n : ℕ) (name : List ℕ) → n ≡ k.number → name ≡ new → is_declared asked n name ≡ true
  to_declared n name e f = true_both (n == k.number) (same_name name new) (is_number n k.number e) (to_same name new f)

-- ---- scopes that grow

map_append : {X Y : Type 0} (f : X → Y) (xs ys : List X) → map f (xs ++ ys) ≡ map f xs ++ map f ys
map_append f [] ys = refl
map_append f (x ∷ xs) ys = ap (λ zs. f x ∷ zs) (map_append f xs ys)

pub last_or : {X : Type 0} (xs : List X) (y : X) (i : ℕ) (x : X) → slice_get (xs ++ y ∷ []) i ≡ Some x → (slice_get xs i ≡ Some x) ⊎ (y ≡ x)
last_or [] y zero x e = inr (same_Some y x e)
last_or [] y (suc i) x e = absurd (none-some x e)
last_or (z ∷ xs) y zero x e = inl e
last_or (z ∷ xs) y (suc i) x e = last_or xs y i x e

module _ {A : Type 0} (m : MemberKey) (n : ℕ) (c : Context) (scope : List Held) (beside : Beside m c scope) (a : A) (f : Bool) (t : tree.TypeName A) (w : tree.Word A) (e : tree.Exp A) where
  pub local_beside : Beside m (after n c (statement.local a f t w e)) (scope ++ record { number = n; name = w.text } ∷ [])
  local_beside = record {
    member = beside.member;
    locals = map_append held_local c.locals (local_of c n f t w ∷ []) ∙ ap (λ (hs : List Held). hs ++ record { number = n; name = w.text } ∷ []) beside.locals;
    each = λ i l h. elim (last_or c.locals (local_of c n f t w) i l h) [ inl g ↦ beside.each i l g | inr g ↦ ap (λ (x : Local). x.key.member) (sym g) ∙ beside.member ];
  }
