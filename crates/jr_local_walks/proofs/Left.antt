-- Where a local goes: what the walk's mapping sees is what the region of inline local sees.
use Rattle.std.proofs.Common.{◌≡◌, ℕ, suc, ◌+◌, ◌-◌, ◌<◌, Bool, true, false, ◌&&◌, List, [], ◌∷◌, ◌++◌, map, length, Option, Some, None, option_map, refl, sym, ap, ◌∙◌, inl, inr, if◌then◌else◌, arith}
use Rattle.std.specs.Prelude.{◌⊎◌, unwrap_or, nat_eq}
use Rattle.std.specs.Str.{bytes_eq}
use Rattle.std.proofs.lemmas.Bool.{cases_order, eq-eqb, eqb-true}
use Rattle.std.proofs.Math.Bool.{and-true}
use Rattle.jr_text.specs.declared.spans.Span.{Span}
use Rattle.jr_ast.specs.Tree as tree
use Rattle.jr_table.specs.Keys.{Ty}
use Rattle.jr_table.specs.Decls.{MemberKey, LocalKey}
use Rattle.jr_table.specs.SameDecls.{same_member, same_local, member_decides}
use Rattle.jr_table.specs.Binding.{HaveTypes}
use Rattle.jr_table.specs.Rows.{Row}
use Rattle.jr_table.specs.Entries.{class_of_member}
use Rattle.jr_table.specs.Scope.{last_named, or_later, key_if_named}
use Rattle.jr_table.specs.Context.{Context, Local, scope_of, scope_local}
use Rattle.jr_new_words.specs.Mappings.{same_keys, renumber, numbered_key, GoneLocal, type_for, type_where, types_where, region_of}
use Rattle.jr_local.specs.Scopes.{is_from, one_less, closed_up, is_local, type_then, types_then}
use Rattle.jr_local.specs.Scopes as region
use Rattle.jr_local_walks.specs.Mappings.{numbers_from, moved, without}
use Rattle.jr_local_walks.specs.Contexts.{Each, IsOf, InMember}
use Rattle.jr_local_walks.proofs.Agreeing.{Agree}
use Rattle.jr_local_walks.proofs.Lasts.{each_as}
use Rattle.jr_local_walks.proofs.Kept.{Agrees, kept_alike}
use Rattle.jr_local_walks.proofs.Numbers.{first_before, gone_at, none_behind, one_more_is}
use Rattle.jr_local_walks.proofs.Classes.{IsApart, class_there, class_back}
use Rattle.jr_local_walks.proofs.Rooms.{early_isnt, late_is}
use Rattle.jr_local_walks.proofs.Seeing.{same_type, same_types}

some_is : {X : Type 0} {x y : X} → (let a : Option X = Some x in a ≡ Some y) → x ≡ y
some_is e = cc

unlike : (a b : ℕ) → (a ≡ b → ⊥) → nat_eq a b ≡ false
unlike a b apart = by (nat_eq a b) refl
  where
    by : (z : Bool) → nat_eq a b ≡ z → z ≡ false
    by false e = refl
    by true e = absurd (apart (eqb-true a b e))

module _ (n : ℕ) (type : Ty) where
  -- ---- numbers

  before : (m : ℕ) → m < n → renumber (without n type) m ≡ Some m
  before m less = ap (λ (o : Option (Option ℕ)). unwrap_or o (Some (n + (m - length (numbers_from 0 n ++ None ∷ []))))) (first_before n m less)

  own_goes : renumber (without n type) n ≡ None
  own_goes = ap (λ (o : Option (Option ℕ)). unwrap_or o (Some (n + (n - length (numbers_from 0 n ++ None ∷ []))))) (gone_at 0 n)

  behind : (m : ℕ) → n < m → renumber (without n type) m ≡ Some (m - 1)
  behind m less =
      ap (λ (o : Option (Option ℕ)). unwrap_or o (Some (n + (m - length (numbers_from 0 n ++ None ∷ []))))) (none_behind 0 n m less)
      ∙ ap (λ (k : ℕ). Some (n + (m - k))) (one_more_is 0 n)
      ∙ ap (λ (k : ℕ). Some k) (let e : n + (m - suc n) ≡ m - 1 = omega (arith, less) in e)

  module _ (rows : List Row) (k : MemberKey) where
    abbrev t : LocalKey
    t = record { member = k; number = n }

    -- ---- images

    own_is : (l : LocalKey) → l.member ≡ k → l.number ≡ n → same_local l t ≡ true
    own_is l of is = (λ i. eq-eqb l.number n is i && same_member l.member k) ∙ (member_decides l.member k).1 of

    other_isnt : (l : LocalKey) → (l.number ≡ n → ⊥) → same_local l t ≡ false
    other_isnt l apart = ap (λ (b : Bool). b && same_member l.member k) (unlike l.number n apart)

    agrees : (l : Local) → IsOf k l → Agrees (without n type) (closed_up t) l
    agrees l of = by (cases_order l.key.number n)
      where
        by : (l.key.number ≡ n) ⊎ ((l.key.number < n) ⊎ (n < l.key.number)) → Agrees (without n type) (closed_up t) l
        by (inl is) =
            ap (λ (m : ℕ). option_map (numbered_key same_keys l.key) (renumber (without n type) m)) is ∙ ap (option_map (numbered_key same_keys l.key)) own_goes
            ∙ ap (λ (b : Bool). (let o : Option LocalKey = if b then None else Some (if is_from k n l.key then one_less l.key else l.key) in o)) (sym (own_is l.key of is))
        by (inr (inl less)) =
            ap (option_map (numbered_key same_keys l.key)) (before l.key.number less)
            ∙ ap (λ (f : Bool). Some (if f then one_less l.key else l.key)) (sym (early_isnt k n l.key less))
            ∙ ap (λ (b : Bool). (let o : Option LocalKey = if b then None else Some (if is_from k n l.key then one_less l.key else l.key) in o)) (sym (other_isnt l.key (λ is. let e = is in absurd (omega (arith, less, e)))))
        by (inr (inr more)) =
            ap (option_map (numbered_key same_keys l.key)) (behind l.key.number more)
            ∙ ap (λ (f : Bool). Some (if f then one_less l.key else l.key)) (sym (late_is k n l.key of (let m = more in omega (arith, m))))
            ∙ ap (λ (b : Bool). (let o : Option LocalKey = if b then None else Some (if is_from k n l.key then one_less l.key else l.key) in o)) (sym (other_isnt l.key (λ is. let e = is in absurd (omega (arith, more, e)))))

    -- ---- types

    abbrev gone : GoneLocal
    gone = record { number = n; type = type }

    -- what a name finds is of the member
    found_of : (name : List ℕ) (ls : List Local) → Each (IsOf k) ls → (q : LocalKey) → last_named name (map scope_local ls) ≡ Some q → q.member ≡ k
    unfolding last_named
    found_of name [] e q is = absurd cc
    found_of name (l ∷ ls) e q is = by (λ more. found_of name ls e.1 q more) (last_named name (map scope_local ls)) refl is
      where
        first : (b : Bool) → (let o : Option LocalKey = if b then Some l.key else None in o ≡ Some q) → q.member ≡ k
        first true same = ap (λ (x : LocalKey). x.member) (sym (some_is same)) ∙ e.0
        first false same = absurd cc

        by : (last_named name (map scope_local ls) ≡ Some q → q.member ≡ k) → (o : Option LocalKey) → last_named name (map scope_local ls) ≡ o → or_later o (key_if_named name (scope_local l)) ≡ Some q → q.member ≡ k
        by more (Some x) at same = more (at ∙ same)
        by more None at same = first (bytes_eq l.name name) same

    read_type : (o : Option LocalKey) → ((q : LocalKey) → o ≡ Some q → q.member ≡ k) → (u : Ty) → unwrap_or (type_for gone o) u ≡ (if is_local t o then type else u)
    read_type None of u = refl
    read_type (Some q) of u = ap (λ (b : Bool). unwrap_or (let z : Option Ty = if b then Some type else None in z) u) (sym same) ∙ by (same_local q t)
      where
        same : same_local q t ≡ nat_eq q.number n
        same = ap (λ (b : Bool). nat_eq q.number n && b) ((member_decides q.member k).1 (of q refl)) ∙ and-true (nat_eq q.number n)

        by : (b : Bool) → unwrap_or (let z : Option Ty = if b then Some type else None in z) u ≡ (if b then type else u)
        by true = refl
        by false = refl

    module _ (c : Context) (each : Each (IsOf k) c.locals) where
      where_is : (e : tree.Exp Span) (u : Ty) → type_where (Some gone) c e u ≡ type_then rows t type c e u
      where_is (tree.name m w) u = read_type (last_named w.text (scope_of c).locals) (found_of w.text c.locals each) u
      where_is (tree.paren m e) u = where_is e u
      where_is (tree.assign m e f) u = where_is e u
      where_is (tree.number m v) u = refl
      where_is (tree.truth m b) u = refl
      where_is (tree.null m) u = refl
      where_is (tree.string m s) u = refl
      where_is (tree.field m e w) u = refl
      where_is (tree.super_field m w) u = refl
      where_is (tree.this m) u = refl
      where_is (tree.class_literal m x) u = refl
      where_is (tree.call m x w args) u = refl
      where_is (tree.super_call m w args) u = refl
      where_is (tree.create m x args) u = refl
      where_is (tree.cast m x e) u = refl
      where_is (tree.unary m op e) u = refl
      where_is (tree.bump m op e) u = refl
      where_is (tree.binary m op e f) u = refl
      where_is (tree.compound m op e f) u = refl

      all_are : (es : tree.Exps Span) (us : List Ty) → HaveTypes rows c es us → types_where (Some gone) c es us ≡ types_then rows t type c es us
      unfolding HaveTypes
      all_are tree.end [] have = refl
      all_are tree.end (u ∷ us) have = absurd cc
      all_are (tree.more e es) [] have = absurd have
      all_are (tree.more e es) (u ∷ us) have = λ i. where_is e u i ∷ all_are es us have.1 i

    -- ---- all

    pub left_agrees : (begins : Span → ℕ → ℕ) (c : Context) → InMember rows k c → Agree begins rows (region_of rows (moved rows (without n type))) (region.without rows t type) c
    left_agrees begins c x =
        let r = without n type in
        let to = closed_up t in
        let agree = each_as (IsOf k) (Agrees r to) agrees c.locals x.of in
        let apart = each_as (IsOf k) (IsApart rows to []) (λ l of q e. tt) c.locals x.of in
        record {
          images = refl;
          scope = λ i. record { class = class_of_member c.member; is_static = c.is_static; locals = kept_alike r to c.locals agree i };
          locals = agree;
          there = class_there rows c r to [] c.locals [] (λ q b. ⊥) refl tt agree tt apart x.typed refl (λ q b m has is. absurd has) (λ q b h. absurd h) (λ q b h. absurd h);
          back = class_back rows c r to [] c.locals [] (λ q b. ⊥) refl tt agree tt apart x.typed refl (λ q b m has is. absurd has) (λ q b h. absurd h) (λ q b h. absurd h);
          type = λ e u. same_type (type_where (Some gone) c e u) ∙ where_is c x.of e u;
          types = λ es us have. same_types (types_where (Some gone) c es us) ∙ all_are c x.of es us have;
        }
