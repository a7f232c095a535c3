-- The regions are sound.
use Rattle.std.proofs.Common.{◌≡◌, ◌≢◌, ℕ, nat_lt, Bool, true, false, not, ◌&&◌, List, [], ◌∷◌, ◌++◌, map, filter, Option, Some, None, option_map, refl, sym, ◌∙◌, ap, subst, inl, arith, if◌then◌else◌}
use Rattle.std.proofs.lemmas.Bool.{ltb-false, le-ltb}
use Rattle.jr_text.specs.declared.spans.Span.{Span}
use Rattle.jr_ast.specs.Tree as tree
use Rattle.jr_table.specs.Keys.{ClassKey, Ty, int, boolean, void, null, class}
use Rattle.jr_table.specs.Decls.{LocalKey}
use Rattle.jr_table.specs.SameDecls.{same_member, member_decides}
use Rattle.jr_table.specs.Rows.{Row}
use Rattle.jr_table.specs.Conditions.{AreRows}
use Rattle.jr_table.specs.Scope.{ScopeLocal}
use Rattle.jr_table.specs.Context.{Context, Local, scope_local}
use Rattle.jr_images.specs.Regions.{image_of_type, IsImageRow, AreImages, Seen, LocalsTo, none, kept, gone, made, AreTypesNow, IsSound}
use Rattle.jr_local.specs.Scopes.{same_images, is_from, one_more, made_room, closed_up, put_kept, kept_locals, with_made_local, seen_by, plain_region, room, earlier, made_local, IsOfMadeClass, types_then, without_seen, without, later_there}
use Rattle.jr_local.specs.Soundness.{HaveNoDots, RegionsAreSound}

-- ---- images

same_type : (rows : List Row) (t : Ty) → t ≡ image_of_type (same_images rows) t
same_type rows int = refl
same_type rows boolean = refl
same_type rows void = refl
same_type rows null = refl
same_type rows (class k) = refl

same_maybe : (rows : List Row) (t : Option Ty) → t ≡ option_map (image_of_type (same_images rows)) t
same_maybe rows None = refl
same_maybe rows (Some t) = ap (λ (u : Ty). Some u) (same_type rows t)

same_parent : (k : Option ClassKey) → k ≡ option_map (λ (c : ClassKey). c) k
same_parent None = refl
same_parent (Some k) = refl

row_is_image : (rows : List Row) (r : Row) → IsImageRow (same_images rows) r r
row_is_image rows r = record {
  of_class = λ k e. e;
  of_field = λ k e. e;
  of_method = λ k e. e;
  of_constructor = λ k e. e;
  type = same_maybe rows r.type;
  parent = same_parent r.parent;
}

are_images : (rows : List Row) → AreRows rows → HaveNoDots rows → AreImages rows (same_images rows)
are_images rows are dots = record {
  are = are;
  images = λ r j e. (j, r, e, row_is_image rows r);
  string = refl;
  class = refl;
  names = dots;
}

-- ---- scopes

-- none of these is the image of a local
abbrev AllMade : (LocalKey → Option LocalKey) → List ScopeLocal → Type 0
AllMade to [] = Unit {0}
AllMade to (m ∷ ms) = ((k : LocalKey) → to k ≢ Some m.key) × AllMade to ms

module _ (rows : List Row) (to : LocalKey → Option LocalKey) (locals_to : List ScopeLocal → List ScopeLocal) (HasMade : LocalKey → ClassKey → Type 0) (c : Context) where
  -- these are all made
  made_to : (ms : List ScopeLocal) → AllMade to ms → LocalsTo (seen_by rows to locals_to HasMade) c [] ms
  made_to [] h = none refl refl
  made_to (m ∷ ms) h = made h.0 (made_to ms h.1)

  one_to : (l : Local) (ls : List Local) (o : Option LocalKey) (rest : List ScopeLocal) → to l.key ≡ o → LocalsTo (seen_by rows to locals_to HasMade) c ls rest
      → LocalsTo (seen_by rows to locals_to HasMade) c (l ∷ ls) (put_kept l.name o rest)
  one_to l ls None rest e t = gone e t
  one_to l ls (Some k) rest e t = kept e refl t

  -- the kept ones, and made ones behind them
  kept_to : (ls : List Local) (more : List ScopeLocal) → AllMade to more → LocalsTo (seen_by rows to locals_to HasMade) c ls (kept_locals to (map scope_local ls) ++ more)
  kept_to [] more h = made_to more h
  kept_to (l ∷ ls) more h = put_behind (to l.key) (one_to l ls (to l.key) (kept_locals to (map scope_local ls) ++ more) refl (kept_to ls more h))
    where
      put_behind : (o : Option LocalKey) → LocalsTo (seen_by rows to locals_to HasMade) c (l ∷ ls) (put_kept l.name o (kept_locals to (map scope_local ls) ++ more))
          → LocalsTo (seen_by rows to locals_to HasMade) c (l ∷ ls) (put_kept l.name o (kept_locals to (map scope_local ls)) ++ more)
      put_behind None t = t
      put_behind (Some k) t = t

  -- the kept ones alone
  all_to : (ls : List Local) → LocalsTo (seen_by rows to locals_to HasMade) c ls (kept_locals to (map scope_local ls))
  all_to [] = none refl refl
  all_to (l ∷ ls) = one_to l ls (to l.key) (kept_locals to (map scope_local ls)) refl (all_to ls)

  -- a made one among them
  within_to : (m : ScopeLocal) → ((k : LocalKey) → to k ≢ Some m.key) → (ls : List Local) → LocalsTo (seen_by rows to locals_to HasMade) c ls (with_made_local to m (map scope_local ls))
  within_to m h [] = made h (none refl refl)
  within_to m h (l ∷ ls) = by (is_from m.key.member m.key.number l.key) (within_to m h ls)
    where
      by : (b : Bool) → LocalsTo (seen_by rows to locals_to HasMade) c ls (with_made_local to m (map scope_local ls))
          → LocalsTo (seen_by rows to locals_to HasMade) c (l ∷ ls) (if b then m ∷ kept_locals to (map scope_local (l ∷ ls)) else put_kept l.name (to l.key) (with_made_local to m (map scope_local ls)))
      by true t = made h (all_to (l ∷ ls))
      by false t = one_to l ls (to l.key) (with_made_local to m (map scope_local ls)) refl t

-- ---- types

plain_types : (seen : Seen) (c : Context) (es : tree.Exps Span) (ts : List Ty) → AreTypesNow (plain_region seen) c es ts ts
plain_types seen c tree.end [] = refl
plain_types seen c tree.end (t ∷ ts) = tt
plain_types seen c (tree.more e es) [] = tt
plain_types seen c (tree.more e es) (t ∷ ts) = (ts, refl, plain_types seen c es ts)

types_without : (rows : List Row) (k : LocalKey) (type : Ty) (c : Context) (es : tree.Exps Span) (ts : List Ty)
    → AreTypesNow (without rows k type) c es ts (types_then rows k type c es ts)
types_without rows k type c tree.end [] = refl
types_without rows k type c tree.end (t ∷ ts) = tt
types_without rows k type c (tree.more e es) [] = tt
types_without rows k type c (tree.more e es) (t ∷ ts) = (types_then rows k type c es ts, refl, types_without rows k type c es ts)

-- ---- any of them

-- the locals in scope there stand for those of the old place
abbrev StandLocals : List Row → (LocalKey → Option LocalKey) → (List ScopeLocal → List ScopeLocal) → (LocalKey → ClassKey → Type 0) → Type 0
StandLocals rows to locals_to HasMade = (c : Context) → LocalsTo (seen_by rows to locals_to HasMade) c c.locals (locals_to (map scope_local c.locals))

plain_sound : (rows : List Row) → AreRows rows → HaveNoDots rows → (to : LocalKey → Option LocalKey) (locals_to : List ScopeLocal → List ScopeLocal)
    (HasMade : LocalKey → ClassKey → Type 0) → StandLocals rows to locals_to HasMade → IsSound rows (plain_region (seen_by rows to locals_to HasMade))
plain_sound rows are dots to locals_to HasMade h = record {
  images = are_images rows are dots;
  locals = h;
  classes = λ c l i m k j stands is last type row. inl (l, record { number = i; stands = stands; is = is; last = last }, type);
  types = plain_types (seen_by rows to locals_to HasMade);
}

-- ---- what isn't an image

not_both : {P : Type 0} (b : Bool) → b ≡ true → b ≡ false → P
not_both b p q = absurd (apart (sym p ∙ q))
  where
    apart : true ≡ false → ⊥
    apart j = cc

some_key : (k m : LocalKey) → (let a : Option LocalKey = Some k in a ≡ Some m) → k ≡ m
some_key k m e = cc

none_key : {P : Type 0} (m : LocalKey) → (let a : Option LocalKey = None in a ≡ Some m) → P
none_key m e = absurd (apart m e)
  where
    apart : (n : LocalKey) → (let a : Option LocalKey = None in a ≡ Some n) → ⊥
    apart n j = cc

second_of : (a b : Bool) → (a && b) ≡ true → b ≡ true
second_of true b e = e
second_of false b e = not_both false e refl

not_true : (b : Bool) → not b ≡ true → b ≡ false
not_true false e = refl
not_true true e = not_both false e refl

and_true : (a b : Bool) → a ≡ true → b ≡ true → (a && b) ≡ true
and_true true b p q = q
and_true false b p q = not_both false p refl

-- it counts itself
from_itself : (k : LocalKey) → is_from k.member k.number k ≡ true
from_itself k = and_true (same_member k.member k.member) (not (nat_lt k.number k.number)) ((member_decides k.member k.member).1 refl)
    (ap not (le-ltb k.number k.number (omega arith)))

-- from a number on, or not
at_least : (k l : LocalKey) → is_from k.member k.number l ≡ true → nat_lt l.number k.number ≡ false
at_least k l e = not_true (nat_lt l.number k.number) (second_of (same_member l.member k.member) (not (nat_lt l.number k.number)) e)

no_room : (k l : LocalKey) (b : Bool) → is_from k.member k.number l ≡ b → (if b then one_more l else l) ≡ k → ⊥
no_room k l true e same =
    let le = ltb-false l.number k.number (at_least k l e) in
    absurd (omega (arith, le, ap (λ (x : LocalKey). x.number) same))
no_room k l false e same = not_both (is_from k.member k.number l) (subst (λ (x : LocalKey). is_from k.member k.number x ≡ true) (sym same) (from_itself k)) e

made_by_room : (rows : List Row) (k : LocalKey) (name : List ℕ) (type : Ty) (l : LocalKey) → room rows k name type l ≢ Some k
made_by_room rows k name type l e = no_room k l (is_from k.member k.number l) refl (some_key (made_room k.member k.number l) k e)

-- one from the number on isn't among the earlier
not_earlier : (k l m : LocalKey) (b : Bool) → is_from k.member k.number l ≡ b → is_from k.member k.number m ≡ true
    → (let o : Option LocalKey = if b then None else Some l in o ≡ Some m) → ⊥
not_earlier k l m true e f same = none_key m same
not_earlier k l m false e f same =
    not_both (is_from k.member k.number l) (subst (λ (x : LocalKey). is_from k.member k.number x ≡ true) (sym (some_key l m same)) f) e

made_behind : (rows : List Row) (k : LocalKey) (name : List ℕ) (type : Ty) (m : LocalKey) → is_from k.member k.number m ≡ true
    → (l : LocalKey) → earlier rows k name type l ≢ Some m
made_behind rows k name type m f l e = not_earlier k l m (is_from k.member k.number l) refl f e

-- those that are left of a list
later_made : (rows : List Row) (k : LocalKey) (type : Ty) (ls : List ScopeLocal)
    → AllMade (earlier rows k [] type) (filter (λ (l : ScopeLocal). is_from k.member k.number l.key) ls)
later_made rows k type [] = tt
later_made rows k type (l ∷ ls) = by (is_from k.member k.number l.key) refl (later_made rows k type ls)
  where
    rest : List ScopeLocal
    rest = filter (λ (x : ScopeLocal). is_from k.member k.number x.key) ls

    by : (b : Bool) → is_from k.member k.number l.key ≡ b → AllMade (earlier rows k [] type) rest
        → AllMade (earlier rows k [] type) (if b then l ∷ rest else rest)
    by true e h = (made_behind rows k [] type l.key e, h)
    by false e h = h

-- ---- all

pub regions_are_sound : RegionsAreSound
regions_are_sound rows are dots k name type = record {
  around = plain_sound rows are dots to_room (kept_locals to_room) (λ l b. ⊥) (λ c. all_to rows to_room (kept_locals to_room) (λ l b. ⊥) c c.locals);
  from_there = plain_sound rows are dots to_room (with_made_local to_room local) HasMade
      (λ c. within_to rows to_room (with_made_local to_room local) HasMade c local (made_by_room rows k name type) c.locals);
  in_initializer = plain_sound rows are dots to_earlier (λ ls. kept_locals to_earlier ls ++ local ∷ []) HasMade
      (λ c. kept_to rows to_earlier (λ ls. kept_locals to_earlier ls ++ local ∷ []) HasMade c c.locals (local ∷ []) (made_behind rows k name type k (from_itself k), tt));
  left_out = record {
    images = are_images rows are dots;
    locals = λ c. all_to rows (closed_up k) (kept_locals (closed_up k)) (λ l b. ⊥) c c.locals;
    classes = λ c l i m b j stands is last kind row. inl (l, record { number = i; stands = stands; is = is; last = last }, kind);
    types = types_without rows k type;
  };
  copied = λ read. plain_sound rows are dots to_front (copied_locals read) (copied_class read)
      (λ c. kept_to rows to_front (copied_locals read) (copied_class read) c c.locals (later_there rows k type read)
      (later_made rows k type ((without_seen rows k type).scope read).locals));
}
  where
    to_room : LocalKey → Option LocalKey
    to_room = room rows k name type

    to_earlier : LocalKey → Option LocalKey
    to_earlier = earlier rows k name type

    to_front : LocalKey → Option LocalKey
    to_front = earlier rows k [] type

    local : ScopeLocal
    local = made_local rows k name type

    HasMade : LocalKey → ClassKey → Type 0
    HasMade l b = IsOfMadeClass rows k name type l b

    copied_locals : Context → List ScopeLocal → List ScopeLocal
    copied_locals read ls = kept_locals to_front ls ++ later_there rows k type read

    copied_class : Context → LocalKey → ClassKey → Type 0
    copied_class read l b = (is_from k.member k.number l ≡ true) × (without_seen rows k type).HasClass read l b
