-- Locals in scope beside those of the old place: one is kept with its image and what its type means, one is
-- gone, one is made. So the new place stands for the old one in the region that says the same of scopes.
use Rattle.std.proofs.Common.{◌≡◌, ◌≢◌, ℕ, zero, suc, ◌<◌, List, [], ◌∷◌, ◌++◌, map, Option, Some, None, Bool, false, refl, sym, ap, subst, ◌∙◌, arith}
use Rattle.std.specs.Prelude.{slice_get}
use Rattle.jr_text.specs.declared.spans.Span.{Span}
use Rattle.jr_ast.specs.Tree as tree
use Rattle.jr_table.specs.Keys.{ClassKey, Ty}
use Rattle.jr_table.specs.Decls.{MemberKey, LocalKey}
use Rattle.jr_table.specs.Rows.{Row}
use Rattle.jr_table.specs.Entries.{class_of_member}
use Rattle.jr_table.specs.Scope.{Scope, ScopeLocal}
use Rattle.jr_table.specs.Context.{Context, Local, LocalType, known, written, IsLocalType, WritesType, local_type, scope_local, scope_of, local_of, local_key, in_own, with_local}
use Rattle.jr_local.specs.Scopes.{seen_by, plain_region}
use Rattle.jr_images.specs.Regions.{Region}
use Rattle.jr_images.proofs.Sides.{local_written, written_local}
use Rattle.jr_kept_references.specs.InRegions.{StandsFor}
use Rattle.jr_extracted_references.proofs.Worlds.{same_type}

-- types of locals look at the class around the place alone
pub same_scope : (rows : List Row) (s z : Scope) → z.class ≡ s.class → (u : LocalType) (t : Ty) → IsLocalType rows s u t → IsLocalType rows z u t
same_scope rows s z e u t h = subst (λ (k : ClassKey). IsLocalType rows (record { class = k; is_static = z.is_static; locals = z.locals }) u t) (sym e) (by u h)
  where
    by : (u : LocalType) → IsLocalType rows s u t → IsLocalType rows (record { class = s.class; is_static = z.is_static; locals = z.locals }) u t
    by (known k) h = h
    by (written None name) h = h
    by (written (Some o) name) h = h

module _ (rows : List Row) (to : LocalKey → Option LocalKey) where
  -- local l has become m, in a member of the class
  pub record Goes (s : Scope) (l m : Local) : Type 0 where
    pub named : m.name ≡ l.name
    pub key : to l.key ≡ Some m.key
    pub type : (t : Ty) → IsLocalType rows s l.type t → IsLocalType rows s m.type t

  module _ (s : Scope) (IsMade : Local → Type 0) where
    pub data LocalsAre : List Local → List Local → Type 0 where
      none : {xs ys : List Local} → (let e : List Local = [] in xs ≡ e) → (let e : List Local = [] in ys ≡ e) → LocalsAre xs ys
      kept : {x y : Local} {xs ys : List Local} → Goes s x y → LocalsAre xs ys → LocalsAre (x ∷ xs) (y ∷ ys)
      gone : {x : Local} {xs ys : List Local} → to x.key ≡ None → LocalsAre xs ys → LocalsAre (x ∷ xs) ys
      made : {y : Local} {xs ys : List Local} → IsMade y → LocalsAre xs ys → LocalsAre xs (y ∷ ys)

    pub one_more : {ls ms : List Local} (l m : Local) → LocalsAre ls ms → Goes s l m → LocalsAre (ls ++ l ∷ []) (ms ++ m ∷ [])
    one_more l m (none {xs} {ys} e f) g = subst (λ (ks : List Local). LocalsAre (ks ++ l ∷ []) (ys ++ m ∷ [])) (sym e) (subst (λ (ks : List Local). LocalsAre (l ∷ []) (ks ++ m ∷ [])) (sym f) (kept g (none refl refl)))
    one_more l m (kept h rest) g = kept h (one_more l m rest g)
    one_more l m (gone h rest) g = gone h (one_more l m rest g)
    one_more l m (made h rest) g = made h (one_more l m rest g)

    pub made_more : {ls ms : List Local} (m : Local) → LocalsAre ls ms → IsMade m → LocalsAre ls (ms ++ m ∷ [])
    made_more m (none {xs} {ys} e f) g = subst (λ (ks : List Local). LocalsAre xs (ks ++ m ∷ [])) (sym f) (made g (none e refl))
    made_more m (kept h rest) g = kept h (made_more m rest g)
    made_more m (gone h rest) g = gone h (made_more m rest g)
    made_more m (made h rest) g = made h (made_more m rest g)

    pub gone_more : {ls ms : List Local} (l : Local) → LocalsAre ls ms → to l.key ≡ None → LocalsAre (ls ++ l ∷ []) ms
    gone_more l (none {xs} {ys} e f) g = subst (λ (ks : List Local). LocalsAre (ks ++ l ∷ []) ys) (sym e) (gone g (none refl f))
    gone_more l (kept h rest) g = kept h (gone_more l rest g)
    gone_more l (gone h rest) g = gone h (gone_more l rest g)
    gone_more l (made h rest) g = made h (gone_more l rest g)

    -- ---- the last of a key

    pub record KnowsIn (ls : List Local) (k : LocalKey) (l : Local) : Type 0 where
      pub number : ℕ
      pub stands : slice_get ls number ≡ Some l
      pub is : l.key ≡ k
      pub last : (i : ℕ) (other : Local) → number < i → slice_get ls i ≡ Some other → other.key ≢ k

    nothing_there : {D : Type 0} (ms : List Local) → (let e : List Local = [] in ms ≡ e) → (i : ℕ) (x : Local) → slice_get ms i ≡ Some x → D
    nothing_there ms e i x at = absurd (by i (sym (ap (λ (xs : List Local). slice_get xs i) e) ∙ at))
      where
        by : (i : ℕ) → (let e : List Local = [] in slice_get e i ≡ Some x) → ⊥
        by zero at = cc
        by (suc i) at = cc

    one_local : (x y : Local) → Some x ≡ Some y → x ≡ y
    one_local x y e = cc

    some_none : (k : LocalKey) → (let e : Option LocalKey = None in e ≡ Some k) → ⊥
    some_none k e = cc

    one_key : (j k : LocalKey) → Some j ≡ Some k → j ≡ k
    one_key j k e = cc

    module _ (once : (j k m : LocalKey) → to j ≡ Some m → to k ≡ Some m → j ≡ k) (fresh : (m : Local) → IsMade m → (k : LocalKey) → to k ≢ Some m.key) (k m : LocalKey) (is : to k ≡ Some m) where
      absent : {ls ms : List Local} → LocalsAre ls ms → ((i : ℕ) (l : Local) → slice_get ls i ≡ Some l → l.key ≢ k) → (i : ℕ) (n : Local) → slice_get ms i ≡ Some n → n.key ≢ m
      absent (none {xs} {ys} e f) lacks i n at = nothing_there ys f i n at
      absent (kept {x} {y} g rest) lacks zero n at = λ e. lacks 0 x refl (once x.key k m (g.key ∙ ap (λ (z : Local). Some z.key) (one_local y n at) ∙ ap (λ (z : LocalKey). Some z) e) is)
      absent (kept g rest) lacks (suc i) n at = absent rest (λ j l s. lacks (suc j) l s) i n at
      absent (gone g rest) lacks i n at = absent rest (λ j l s. lacks (suc j) l s) i n at
      absent (made {y} g rest) lacks zero n at = λ e. fresh y g k (is ∙ ap (λ (z : LocalKey). Some z) (sym e ∙ ap (λ (z : Local). z.key) (sym (one_local y n at))))
      absent (made g rest) lacks (suc i) n at = absent rest lacks i n at

      abbrev There : Local → List Local → Type 0
      There l ms = (y : Local) × KnowsIn ms m y × ((t : Ty) → IsLocalType rows s l.type t → IsLocalType rows s y.type t)

      further : (l n : Local) (ms : List Local) → There l ms → There l (n ∷ ms)
      further l n ms (y, h, type) = (y, record { number = suc h.number; stands = h.stands; is = h.is; last = λ i other lt at. later i other lt at }, type)
        where
          later : (i : ℕ) (other : Local) → suc h.number < i → slice_get (n ∷ ms) i ≡ Some other → other.key ≢ m
          later zero other lt at = absurd (omega (arith, lt))
          later (suc i) other lt at = h.last i other (omega (arith, lt)) at

      found : {ls ms : List Local} → LocalsAre ls ms → (n : ℕ) (l : Local) → slice_get ls n ≡ Some l → l.key ≡ k → ((i : ℕ) (other : Local) → n < i → slice_get ls i ≡ Some other → other.key ≢ k) → There l ms
      found (none {xs} {ys} e f) n l at own last = nothing_there xs e n l at
      found (kept {x} {y} {xs} {ys} g rest) zero l at own last = (
        y,
        record { number = 0; stands = refl; is = one_key y.key m (sym g.key ∙ ap (λ (z : Local). to z.key) (one_local x l at) ∙ ap to own ∙ is); last = λ i other lt there. later i other lt there },
        subst (λ (z : Local). (t : Ty) → IsLocalType rows s z.type t → IsLocalType rows s y.type t) (one_local x l at) g.type,
      )
        where
          later : (i : ℕ) (other : Local) → 0 < i → slice_get (y ∷ ys) i ≡ Some other → other.key ≢ m
          later zero other lt there = absurd (omega (arith, lt))
          later (suc i) other lt there = absent rest (λ j z s. last (suc j) z (omega arith) s) i other there
      found (kept {x} {y} {xs} {ys} g rest) (suc n) l at own last = further l y ys (found rest n l at own (λ i other lt there. last (suc i) other (omega (arith, lt)) there))
      found (gone {x} g rest) zero l at own last = absurd (some_none m (sym g ∙ ap (λ (z : Local). to z.key) (one_local x l at) ∙ ap to own ∙ is))
      found (gone g rest) (suc n) l at own last = found rest n l at own (λ i other lt there. last (suc i) other (omega (arith, lt)) there)
      found (made {y} {xs} {ys} g rest) n l at own last = further l y ys (found rest n l at own last)

-- ---- places

pub map_more : (ls : List Local) (x : Local) → map scope_local (ls ++ x ∷ []) ≡ map scope_local ls ++ scope_local x ∷ []
map_more [] x = refl
map_more (l ∷ ls) x = ap (λ (ms : List ScopeLocal). scope_local l ∷ ms) (map_more ls x)

-- a scope of the class, by which types of locals mean what they mean in the member
abbrev pub bare : MemberKey → Scope
bare k = record { class = class_of_member k; is_static = false; locals = [] }

-- a local that is declared, and what is declared in its place
pub local_goes : (rows : List Row) (to : LocalKey → Option LocalKey) (c d : Context) → d.member ≡ c.member → (n z : ℕ) (f : Bool) (t u : tree.TypeName Span) (w v : tree.Word Span) → v.text ≡ w.text → to (local_key c n) ≡ Some (local_key d z)
    → ((s : Ty) → WritesType rows (scope_of c) t s → WritesType rows (scope_of d) u s) → Goes rows to (bare c.member) (local_of c n f t w) (local_of d z f u v)
local_goes rows to c d same n z f t u w v named key means = record {
  named = named;
  key = key;
  type = λ s h. same_scope rows (scope_of d) (bare c.member) (ap class_of_member (sym same)) (local_type u) s
      (written_local rows (scope_of d) u s (means s (local_written rows (scope_of c) t s (same_scope rows (bare c.member) (scope_of c) refl (local_type t) s h))));
}

module _ (rows : List Row) (to : LocalKey → Option LocalKey) (locals_to : List ScopeLocal → List ScopeLocal) (HasMade : LocalKey → ClassKey → Type 0) (IsMade : Local → Type 0) where
  abbrev R : Region Span
  R = plain_region (seen_by rows to locals_to HasMade)

  -- what is known at the new place that stands for one where c is known
  pub record Beside (c d : Context) : Type 0 where
    pub member : d.member ≡ c.member
    pub static : d.is_static ≡ c.is_static
    pub names : map scope_local d.locals ≡ locals_to (map scope_local c.locals)
    pub locals : LocalsAre rows to (bare c.member) IsMade c.locals d.locals

  pub stands_for : ((j k m : LocalKey) → to j ≡ Some m → to k ≡ Some m → j ≡ k) → ((m : Local) → IsMade m → (k : LocalKey) → to k ≢ Some m.key) → (c d : Context) → Beside c d → StandsFor R rows c d
  stands_for once fresh c d b = record {
    scope = λ i. record { class = class_of_member (b.member i); is_static = b.static i; locals = b.names i };
    local_types = λ k m t is (l, knows, type). (
        let there = found rows to (bare c.member) IsMade once fresh k m is b.locals knows.number l knows.stands knows.is knows.last in (
          there.0,
          record { number = there.1.number; stands = there.1.stands; is = there.1.is; last = there.1.last },
          subst (λ (u : Ty). IsLocalType rows (scope_of d) there.0.type u) (same_type rows to locals_to HasMade t)
              (same_scope rows (bare c.member) (scope_of d) (ap class_of_member b.member) there.0.type t (there.2 t (same_scope rows (scope_of c) (bare c.member) refl l.type t type))),
        ));
  }

  module _ (c d : Context) (b : Beside c d) (x y : Local) (goes : Goes rows to (bare c.member) x y) (put : (ls : List ScopeLocal) → locals_to (ls ++ scope_local x ∷ []) ≡ locals_to ls ++ scope_local y ∷ []) where
    more_names : map scope_local (d.locals ++ y ∷ []) ≡ locals_to (map scope_local (c.locals ++ x ∷ []))
    more_names = map_more d.locals y ∙ ap (λ (ms : List ScopeLocal). ms ++ scope_local y ∷ []) b.names ∙ sym (put (map scope_local c.locals)) ∙ ap locals_to (sym (map_more c.locals x))

    pub more_own : Beside (in_own c x) (in_own d y)
    more_own = record { member = b.member; static = b.static; names = more_names; locals = one_more rows to (bare c.member) IsMade x y b.locals goes }

    pub more_behind : Beside (with_local c x) (with_local d y)
    more_behind = record { member = b.member; static = b.static; names = more_names; locals = one_more rows to (bare c.member) IsMade x y b.locals goes }
