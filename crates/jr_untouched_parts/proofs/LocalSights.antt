-- Where extract and inline local move numbers of locals, each place at which all locals in scope have
-- images sees what it saw.
use Rattle.std.proofs.Common.{◌≡◌, ◌≢◌, ℕ, zero, suc, List, [], ◌∷◌, map, Option, Some, None, Bool, true, false, refl, sym, ap, subst, ◌∙◌, arith}
use Rattle.std.specs.Prelude.{slice_get, if◌then◌else◌}
use Rattle.jr_text.specs.declared.spans.Span.{Span}
use Rattle.jr_ast.specs.Tree as tree
use Rattle.jr_table.specs.Keys.{Ty}
use Rattle.jr_table.specs.Decls.{LocalKey}
use Rattle.jr_table.specs.SameDecls.{same_local, local_decides}
use Rattle.jr_table.specs.Rows.{Row}
use Rattle.jr_table.specs.Scope.{ScopeLocal, FindsLocal, HasNoLocal, last_named}
use Rattle.jr_table.specs.Context.{Context, Local, scope_local, scope_of}
use Rattle.jr_table.proofs.ScopeLaws.{SaysLast, last_is}
use Rattle.jr_local.specs.Scopes.{put_kept, kept_locals, around_made, room, made_room, closed_up, is_from, one_less, is_local, reads_it, type_then, types_then, without}
use Rattle.jr_untouched_parts.specs.Sights.{SeesTheSame}

-- ---- locals that all have images

module _ (to : LocalKey → Option LocalKey) where
  abbrev pub HasImage : LocalKey → Type 0
  HasImage k = (m : LocalKey) × (to k ≡ Some m)

  abbrev pub AllKept : List ScopeLocal → Type 0
  AllKept ls = (i : ℕ) (l : ScopeLocal) → slice_get ls i ≡ Some l → HasImage l.key

  abbrev renamed : ScopeLocal → LocalKey → ScopeLocal
  renamed l m = record { name = l.name; key = m }

  same_local_is : (l x : ScopeLocal) → Some l ≡ Some x → l ≡ x
  same_local_is l x e = cc

  -- the first of them is kept
  first_kept : (l : ScopeLocal) (ls : List ScopeLocal) (m : LocalKey) → to l.key ≡ Some m → kept_locals to (l ∷ ls) ≡ renamed l m ∷ kept_locals to ls
  first_kept l ls m e = ap (λ (o : Option LocalKey). put_kept l.name o (kept_locals to ls)) e

  kept_there : (ls : List ScopeLocal) → AllKept ls → (i : ℕ) (l : ScopeLocal) (m : LocalKey) → to l.key ≡ Some m → slice_get ls i ≡ Some l → slice_get (kept_locals to ls) i ≡ Some (renamed l m)
  kept_there [] all i l m e at = absurd cc
  kept_there (x ∷ ls) all zero l m e at =
      let same : x ≡ l = same_local_is x l at in
      let own : to x.key ≡ Some m = ap (λ (y : ScopeLocal). to y.key) same ∙ e in
      ap (λ (ys : List ScopeLocal). slice_get ys 0) (first_kept x ls m own) ∙ ap (λ (y : ScopeLocal). Some (renamed y m)) same
  kept_there (x ∷ ls) all (suc n) l m e at =
      let own = all 0 x refl in
      ap (λ (ys : List ScopeLocal). slice_get ys (suc n)) (first_kept x ls own.0 own.1) ∙ kept_there ls (λ i y s. all (suc i) y s) n l m e at

  -- each that is there is one of the old ones
  was_there : (ls : List ScopeLocal) → AllKept ls → (i : ℕ) (y : ScopeLocal) → slice_get (kept_locals to ls) i ≡ Some y → (l : ScopeLocal) × (slice_get ls i ≡ Some l) × (l.name ≡ y.name)
  was_there [] all i y at = absurd cc
  was_there (x ∷ ls) all zero y at =
      let own = all 0 x refl in
      let there : renamed x own.0 ≡ y = same_local_is (renamed x own.0) y (ap (λ (ys : List ScopeLocal). slice_get ys 0) (sym (first_kept x ls own.0 own.1)) ∙ at) in
      (x, refl, named x own.0 y there)
    where
      named : (x : ScopeLocal) (m : LocalKey) (y : ScopeLocal) → renamed x m ≡ y → x.name ≡ y.name
      named x m y e = ap (λ (z : ScopeLocal). z.name) e
  was_there (x ∷ ls) all (suc n) y at =
      let own = all 0 x refl in
      was_there ls (λ i z s. all (suc i) z s) n y (ap (λ (ys : List ScopeLocal). slice_get ys (suc n)) (sym (first_kept x ls own.0 own.1)) ∙ at)

  module _ (ls : List ScopeLocal) (all : AllKept ls) where
    pub finds_kept : (name : List ℕ) (k : LocalKey) → FindsLocal ls name k → (m : LocalKey) × (to k ≡ Some m) × FindsLocal (kept_locals to ls) name m
    finds_kept name k f =
        let image = all f.place f.local f.stands in (
          image.0,
          ap to (sym f.is) ∙ image.1,
          record {
            place = f.place;
            local = renamed f.local image.0;
            stands = kept_there ls all f.place f.local image.0 image.1 f.stands;
            named = f.named;
            is = refl;
            last = λ i y lt at. λ e. let w = was_there ls all i y at in f.last i w.0 lt w.1 (w.2 ∙ e);
          },
        )

    pub none_kept : (name : List ℕ) → HasNoLocal ls name → HasNoLocal (kept_locals to ls) name
    none_kept name none i y at = λ e. let w = was_there ls all i y at in none i w.0 w.1 (w.2 ∙ e)

-- of those in scope
pub scope_kept : (to : LocalKey → Option LocalKey) (ls : List Local) → ((i : ℕ) (l : Local) → slice_get ls i ≡ Some l → (m : LocalKey) × (to l.key ≡ Some m)) → AllKept to (map scope_local ls)
scope_kept to [] each i l at = absurd cc
scope_kept to (x ∷ ls) each zero l at = let e : scope_local x ≡ l = cc in subst (λ (y : ScopeLocal). (m : LocalKey) × (to y.key ≡ Some m)) e (each 0 x refl)
scope_kept to (x ∷ ls) each (suc n) l at = scope_kept to ls (λ i y s. each (suc i) y s) n l at

-- ---- where a local is made

pub around_sees : (rows : List Row) (made : LocalKey) (name : List ℕ) (type : Ty) (c : Context) → SeesTheSame (around_made rows made name type) c
around_sees rows made name type c =
    let to = room rows made name type in
    let all = scope_kept to c.locals (λ i l at. (made_room made.member made.number l.key, refl)) in
    record {
      locals = kept_locals to (scope_of c).locals;
      scope = refl;
      found = finds_kept to (scope_of c).locals all;
      none = none_kept to (scope_of c).locals all;
      type = λ e t. refl;
      types = λ es ts. refl;
    }

-- ---- where a local goes, and isn't in scope

module _ (rows : List Row) (t : LocalKey) (type : Ty) (c : Context) (apart : (i : ℕ) (l : Local) → slice_get c.locals i ≡ Some l → l.key ≢ t) where
  isnt : (k : LocalKey) → k ≢ t → same_local k t ≡ false
  isnt k other = by (same_local k t) refl
    where
      by : (b : Bool) → same_local k t ≡ b → same_local k t ≡ false
      by true e = absurd (other ((local_decides k t).0 e))
      by false e = e

  has_image : (i : ℕ) (l : Local) → slice_get c.locals i ≡ Some l → (m : LocalKey) × (closed_up t l.key ≡ Some m)
  has_image i l at =
      let m = (if is_from t.member t.number l.key then one_less l.key else l.key) in
      (m, ap (λ (b : Bool). if b then None else Some m) (isnt l.key (apart i l at)))

  apart_there : (ls : List Local) → ((i : ℕ) (l : Local) → slice_get ls i ≡ Some l → l.key ≢ t) → (i : ℕ) (l : ScopeLocal) → slice_get (map scope_local ls) i ≡ Some l → l.key ≢ t
  apart_there [] each i l at = absurd cc
  apart_there (x ∷ ls) each zero l at = let e : scope_local x ≡ l = cc in subst (λ (y : ScopeLocal). y.key ≢ t) e (each 0 x refl)
  apart_there (x ∷ ls) each (suc n) l at = apart_there ls (λ i y s. each (suc i) y s) n l at

  -- no name means it
  no_read_named : (name : List ℕ) → is_local t (last_named name (scope_of c).locals) ≡ false
  no_read_named name = by (last_named name (scope_of c).locals) (last_is (scope_of c).locals name)
    where
      by : (o : Option LocalKey) → SaysLast (scope_of c).locals name o → is_local t o ≡ false
      by None h = refl
      by (Some k) h = isnt k (subst (λ (z : LocalKey). z ≢ t) h.is (apart_there c.locals apart h.place h.local h.stands))

  no_read : (e : tree.Exp Span) → reads_it t c e ≡ false
  no_read (tree.name m w) = no_read_named w.text
  no_read (tree.paren m e) = no_read e
  no_read (tree.assign m e f) = no_read e
  no_read (tree.number m n) = refl
  no_read (tree.truth m b) = refl
  no_read (tree.null m) = refl
  no_read (tree.string m s) = refl
  no_read (tree.this m) = refl
  no_read (tree.field m e w) = refl
  no_read (tree.super_field m w) = refl
  no_read (tree.class_literal m u) = refl
  no_read (tree.call m u w args) = refl
  no_read (tree.super_call m w args) = refl
  no_read (tree.create m u args) = refl
  no_read (tree.cast m u e) = refl
  no_read (tree.unary m op e) = refl
  no_read (tree.bump m op e) = refl
  no_read (tree.binary m op x y) = refl
  no_read (tree.compound m op x y) = refl

  same_type : (e : tree.Exp Span) (u : Ty) → type_then rows t type c e u ≡ u
  same_type e u = ap (λ (b : Bool). if b then type else u) (no_read e)

  same_types : (es : tree.Exps Span) (us : List Ty) → types_then rows t type c es us ≡ us
  same_types tree.end us = refl
  same_types (tree.more e es) [] = refl
  same_types (tree.more e es) (u ∷ us) = λ i. same_type e u i ∷ same_types es us i

  pub without_sees : SeesTheSame (without rows t type) c
  without_sees =
      let all = scope_kept (closed_up t) c.locals has_image in
      record {
        locals = kept_locals (closed_up t) (scope_of c).locals;
        scope = refl;
        found = finds_kept (closed_up t) (scope_of c).locals all;
        none = none_kept (closed_up t) (scope_of c).locals all;
        type = same_type;
        types = same_types;
      }
