-- Images of locals where one comes into the member, and lists of those in scope.
use Rattle.std.proofs.Common.{◌≡◌, ◌≢◌, ℕ, ◌<◌, ◌≤◌, nat_lt, Bool, true, false, not, ◌&&◌, List, [], ◌∷◌, ◌++◌, map, Option, Some, None, refl, sym, ap, ◌∙◌, arith, if◌then◌else◌}
use Rattle.std.proofs.lemmas.Bool.{lt-ltb, le-ltb, ltb-false}
use Rattle.jr_table.specs.Keys.{Ty}
use Rattle.jr_table.specs.Decls.{MemberKey, LocalKey}
use Rattle.jr_table.specs.SameDecls.{same_member, member_decides}
use Rattle.jr_table.specs.Rows.{Row}
use Rattle.jr_table.specs.Scope.{ScopeLocal}
use Rattle.jr_table.specs.Context.{Local, scope_local}
use Rattle.jr_local.specs.Scopes.{is_from, one_more, made_room, put_kept, kept_locals, with_made_local, room, earlier}

not_both : {P : Type 0} (b : Bool) → b ≡ true → b ≡ false → P
not_both b p q = absurd (apart (sym p ∙ q))
  where
    apart : true ≡ false → ⊥
    apart j = cc

pub some_key : (j k : LocalKey) → (let a : Option LocalKey = Some j in a ≡ Some k) → j ≡ k
some_key j k e = cc

none_key : {P : Type 0} (m : LocalKey) → (let a : Option LocalKey = None in a ≡ Some m) → P
none_key m e = absurd (apart m e)
  where
    apart : (n : LocalKey) → (let a : Option LocalKey = None in a ≡ Some n) → ⊥
    apart n j = cc

-- ---- from a number on, or not

pub from_is : (k : MemberKey) (n : ℕ) (l : LocalKey) → l.member ≡ k → n ≤ l.number → is_from k n l ≡ true
from_is k n l of le = (λ i. (member_decides l.member k).1 of i && not (nat_lt l.number n)) ∙ ap not (le-ltb l.number n le)

pub from_not : (k : MemberKey) (n : ℕ) (l : LocalKey) → (l.member ≡ k → l.number < n) → is_from k n l ≡ false
from_not k n l less = by (same_member l.member k) refl
  where
    by : (b : Bool) → same_member l.member k ≡ b → (b && not (nat_lt l.number n)) ≡ false
    by false e = refl
    by true e = ap not (lt-ltb l.number n (less ((member_decides l.member k).0 e)))

pub from_says : (k : MemberKey) (n : ℕ) (l : LocalKey) → is_from k n l ≡ true → (l.member ≡ k) × (n ≤ l.number)
from_says k n l e = by (same_member l.member k) refl (nat_lt l.number n) refl e
  where
    by : (b : Bool) → same_member l.member k ≡ b → (a : Bool) → nat_lt l.number n ≡ a → (b && not a) ≡ true → (l.member ≡ k) × (n ≤ l.number)
    by true h false g e = ((member_decides l.member k).0 h, ltb-false l.number n g)
    by true h true g e = absurd cc
    by false h a g e = absurd cc

module _ (rows : List Row) (k : MemberKey) (n : ℕ) (name : List ℕ) (type : Ty) where
  abbrev pub made_key : LocalKey
  made_key = record { member = k; number = n }

  abbrev pub to : LocalKey → Option LocalKey
  to = room rows made_key name type

  pub room_from : (l : LocalKey) → is_from k n l ≡ true → to l ≡ Some (one_more l)
  room_from l e = ap (λ (b : Bool). Some (if b then one_more l else l)) e

  pub room_not : (l : LocalKey) → is_from k n l ≡ false → to l ≡ Some l
  room_not l e = ap (λ (b : Bool). Some (if b then one_more l else l)) e

  pub moved_key : (l : LocalKey) → is_from k n l ≡ true → one_more l ≡ made_room k n l
  moved_key l e = sym (ap (λ (b : Bool). if b then one_more l else l) e)

  pub kept_key : (l : LocalKey) → is_from k n l ≡ false → l ≡ made_room k n l
  kept_key l e = sym (ap (λ (b : Bool). if b then one_more l else l) e)

  -- ---- images

  pub fresh : (l : LocalKey) → to l ≢ Some made_key
  fresh l e = by (is_from k n l) refl
    where
      by : (b : Bool) → is_from k n l ≡ b → ⊥
      by true h = let same = some_key (one_more l) made_key (sym (room_from l h) ∙ e) in absurd (omega (arith, (from_says k n l h).1, ap (λ (x : LocalKey). x.number) same))
      by false h = let same = some_key l made_key (sym (room_not l h) ∙ e) in not_both (is_from k n l) (from_is k n l (ap (λ (x : LocalKey). x.member) same) (omega (arith, ap (λ (x : LocalKey). x.number) same))) h

  pub once : (i j m : LocalKey) → to i ≡ Some m → to j ≡ Some m → i ≡ j
  once i j m e f = by (is_from k n i) refl (is_from k n j) refl
    where
      -- a later one is no image of an earlier one
      apart : (a b : LocalKey) → is_from k n a ≡ true → is_from k n b ≡ false → one_more a ≡ b → ⊥
      apart a b h g same = not_both (is_from k n b) (from_is k n b (sym (ap (λ (x : LocalKey). x.member) same) ∙ (from_says k n a h).0) (omega (arith, (from_says k n a h).1, ap (λ (x : LocalKey). x.number) same))) g

      by : (a : Bool) → is_from k n i ≡ a → (b : Bool) → is_from k n j ≡ b → i ≡ j
      by false h false g = some_key i m (sym (room_not i h) ∙ e) ∙ sym (some_key j m (sym (room_not j g) ∙ f))
      by true h false g = absurd (apart i j h g (some_key (one_more i) m (sym (room_from i h) ∙ e) ∙ sym (some_key j m (sym (room_not j g) ∙ f))))
      by false h true g = absurd (apart j i g h (some_key (one_more j) m (sym (room_from j g) ∙ f) ∙ sym (some_key i m (sym (room_not i h) ∙ e))))
      by true h true g =
          let same = some_key (one_more i) m (sym (room_from i h) ∙ e) ∙ sym (some_key (one_more j) m (sym (room_from j g) ∙ f)) in
          let number : i.number ≡ j.number = omega (arith, ap (λ (x : LocalKey). x.number) same) in
          λ t. record { member = (same t).member; number = number t }

  -- ---- those in scope

  abbrev pub scope_at : ScopeLocal → LocalKey → ScopeLocal
  scope_at l m = record { name = l.name; key = m }

  one_kept : (x : ScopeLocal) (m : LocalKey) (rest : List ScopeLocal) → to x.key ≡ Some m → put_kept x.name (to x.key) rest ≡ scope_at x m ∷ rest
  one_kept x m rest e = ap (λ (o : Option LocalKey). put_kept x.name o rest) e

  pub kept_more : (ls : List ScopeLocal) (x : ScopeLocal) (m : LocalKey) → to x.key ≡ Some m → kept_locals to (ls ++ x ∷ []) ≡ kept_locals to ls ++ scope_at x m ∷ []
  kept_more [] x m e = one_kept x m [] e
  kept_more (l ∷ ls) x m e = ap (λ (rest : List ScopeLocal). scope_at l (made_room k n l.key) ∷ rest) (kept_more ls x m e)

  abbrev pub new : ScopeLocal
  new = record { name = name; key = made_key }

  abbrev first_of : Bool → ScopeLocal → List ScopeLocal → List ScopeLocal → List ScopeLocal
  first_of b l kept rest = if b then new ∷ scope_at l (made_room k n l.key) ∷ kept else scope_at l (made_room k n l.key) ∷ rest

  pub made_more : (ls : List ScopeLocal) (x : ScopeLocal) (m : LocalKey) → is_from k n x.key ≡ true → to x.key ≡ Some m → with_made_local to new (ls ++ x ∷ []) ≡ with_made_local to new ls ++ scope_at x m ∷ []
  made_more [] x m h e = ap (λ (b : Bool). if b then new ∷ kept_locals to (x ∷ []) else put_kept x.name (to x.key) (new ∷ [])) h ∙ ap (λ (rest : List ScopeLocal). new ∷ rest) (one_kept x m [] e)
  made_more (l ∷ ls) x m h e = by (is_from k n l.key) (made_more ls x m h e)
    where
      by : (b : Bool) → with_made_local to new (ls ++ x ∷ []) ≡ with_made_local to new ls ++ scope_at x m ∷ [] → first_of b l (kept_locals to (ls ++ x ∷ [])) (with_made_local to new (ls ++ x ∷ [])) ≡ first_of b l (kept_locals to ls) (with_made_local to new ls) ++ scope_at x m ∷ []
      by true rest_is = ap (λ (rest : List ScopeLocal). new ∷ scope_at l (made_room k n l.key) ∷ rest) (kept_more ls x m e)
      by false rest_is = ap (λ (rest : List ScopeLocal). scope_at l (made_room k n l.key) ∷ rest) rest_is

  -- all of these come in front of the number
  abbrev pub AllEarly : List Local → Type 0
  AllEarly [] = Unit {0}
  AllEarly (l ∷ ls) = (is_from k n l.key ≡ false) × AllEarly ls

  pub made_last : (ls : List Local) → AllEarly ls → with_made_local to new (map scope_local ls) ≡ kept_locals to (map scope_local ls) ++ new ∷ []
  made_last [] h = refl
  made_last (l ∷ ls) h = ap (λ (b : Bool). first_of b (scope_local l) (kept_locals to (map scope_local ls)) (with_made_local to new (map scope_local ls))) h.0
      ∙ ap (λ (rest : List ScopeLocal). scope_at (scope_local l) (made_room k n l.key) ∷ rest) (made_last ls h.1)

  -- ---- in the initializer

  abbrev pub before : LocalKey → Option LocalKey
  before = earlier rows made_key name type

  pub before_not : (l : LocalKey) → is_from k n l ≡ false → before l ≡ Some l
  before_not l e = ap (λ (b : Bool). (let o : Option LocalKey = if b then None else Some l in o)) e

  pub before_gone : (l : LocalKey) → is_from k n l ≡ true → before l ≡ None
  before_gone l e = ap (λ (b : Bool). (let o : Option LocalKey = if b then None else Some l in o)) e

  before_is : (l m : LocalKey) → before l ≡ Some m → (is_from k n l ≡ false) × (l ≡ m)
  before_is l m e = by (is_from k n l) refl
    where
      by : (b : Bool) → is_from k n l ≡ b → (is_from k n l ≡ false) × (l ≡ m)
      by true h = none_key m (sym (before_gone l h) ∙ e)
      by false h = (h, some_key l m (sym (before_not l h) ∙ e))

  pub before_once : (i j m : LocalKey) → before i ≡ Some m → before j ≡ Some m → i ≡ j
  before_once i j m e f = (before_is i m e).1 ∙ sym (before_is j m f).1

  pub before_fresh : (l : LocalKey) → before l ≢ Some made_key
  before_fresh l e =
      let h = before_is l made_key e in
      not_both (is_from k n l) (from_is k n l (ap (λ (x : LocalKey). x.member) h.1) (omega (arith, ap (λ (x : LocalKey). x.number) h.1))) h.0

  pub same_before : (ls : List Local) → AllEarly ls → kept_locals to (map scope_local ls) ≡ kept_locals before (map scope_local ls)
  same_before [] h = refl
  same_before (l ∷ ls) h = (λ i. put_kept l.name ((room_not l.key h.0 ∙ sym (before_not l.key h.0)) i) (same_before ls h.1 i))

  put_more : (name : List ℕ) (o : Option LocalKey) (rest : List ScopeLocal) → put_kept name o (rest ++ []) ≡ put_kept name o rest ++ []
  put_more name None rest = refl
  put_more name (Some m) rest = refl

  pub before_more : (ls : List ScopeLocal) (x : ScopeLocal) → before x.key ≡ None → kept_locals before (ls ++ x ∷ []) ≡ kept_locals before ls
  before_more [] x e = ap (λ (o : Option LocalKey). put_kept x.name o []) e
  before_more (l ∷ ls) x e = ap (put_kept l.name (before l.key)) (before_more ls x e)
