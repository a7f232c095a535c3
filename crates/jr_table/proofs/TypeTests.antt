-- Tests of types: each is true exactly where the relation holds.
use Rattle.std.proofs.Common.{◌≡◌, ℕ, List, [], ◌∷◌, Option, Some, None, Bool, true, false, refl, sym, ap, subst, ◌∙◌, inl, inr, eq-eqb, eqb-true}
use Rattle.std.specs.Prelude.{◌⊎◌, ◌↔◌, ◌&&◌, ◌||◌, ◌==◌, not}
use Rattle.std.specs.List.{list_any}
use Rattle.jr_ast.specs.declared.operators.UnOp.{UnOp}
use Rattle.jr_ast.specs.declared.operators.UnOp.TheVariants as sign
use Rattle.jr_ast.specs.declared.operators.BinOp.{BinOp}
use Rattle.jr_ast.specs.declared.operators.BinOp.TheVariants as op
use Rattle.jr_ast.specs.Tree as tree
use Rattle.jr_table.specs.Keys.{ClassKey, Ty, int, boolean, void, null, class}
use Rattle.jr_table.specs.Decls.{class_decl}
use Rattle.jr_table.specs.Rows.{Row}
use Rattle.jr_table.specs.Conditions.{AreRows}
use Rattle.jr_table.specs.SameKeys.{same_ty, ty_decides}
use Rattle.jr_table.specs.Entries.{IsRowOf, number_of, entries_of}
use Rattle.jr_table.specs.Chains.{In, IsChain, chain_of}
use Rattle.jr_table.specs.Keyed.{IsSubclass, Widens, IsAssignable}
use Rattle.jr_table.specs.LookupLaws.{KeysAreFound}
use Rattle.jr_table.specs.Context.{Context, scope_of, WritesType}
use Rattle.jr_table.specs.Binding.{HasType}
use Rattle.jr_table.specs.ExpressionRules.{IsReference, AreComparable, Both, Equates, Takes, TakesOne, Suits, Casts}
use Rattle.jr_table.specs.Meanings.{type_of, written_type}
use Rattle.jr_table.specs.Notes.{is_ty, are_ty, is_reference, is_below, widens, assigns, suits, comparable, equates, takes, takes_one}
use Rattle.jr_table.proofs.Chaining.{one_chain}
use Rattle.jr_table.proofs.RowLaws.{number_stands, number_none, acyclic_rows}
use Rattle.jr_table.proofs.Assigning.{any_in, in_any}
use Rattle.jr_table.proofs.RowTypes.{chain, written_iff}
use Rattle.jr_table.proofs.Typing.{typed}

pub and_iff : (a b : Bool) (P Q : Type 0) → ((a ≡ true) ↔ P) → ((b ≡ true) ↔ Q) → ((a && b) ≡ true) ↔ (P × Q)
and_iff true b P Q f g = (λ h. (f.0 refl, g.0 h), λ h. g.1 h.1)
and_iff false b P Q f g = (λ h. absurd cc, λ h. let x = f.1 h.0 in absurd cc)

pub or_iff : (a b : Bool) (P Q : Type 0) → ((a ≡ true) ↔ P) → ((b ≡ true) ↔ Q) → ((a || b) ≡ true) ↔ (P ⊎ Q)
or_iff true b P Q f g = (λ h. inl (f.0 refl), λ h. refl)
or_iff false b P Q f g = (λ h. inr (g.0 h), back)
  where
    back : (P ⊎ Q) → b ≡ true
    back (inl p) = let x = f.1 p in absurd cc
    back (inr q) = g.1 q

pub not_iff : (a : Bool) (P : Type 0) → ((a ≡ true) ↔ P) → (not a ≡ true) ↔ (P → ⊥)
not_iff true P f = (λ h. absurd cc, λ h. absurd (h (f.0 refl)))
not_iff false P f = (λ h p. let x = f.1 p in absurd cc, λ h. refl)

pub is_ty_iff : (t : Ty) (o : Option Ty) → (is_ty t o ≡ true) ↔ (o ≡ Some t)
is_ty_iff t None = (λ h. absurd cc, λ h. absurd cc)
is_ty_iff t (Some u) = (λ h. ap Some ((ty_decides u t).0 h), λ h. let i : u ≡ t = cc in (ty_decides u t).1 i)

reference_iff : (t : Ty) → (is_reference t ≡ true) ↔ IsReference t
reference_iff int = (λ h. absurd cc, λ h. absurd h)
reference_iff boolean = (λ h. absurd cc, λ h. absurd h)
reference_iff void = (λ h. absurd cc, λ h. absurd h)
reference_iff null = (λ h. tt, λ h. refl)
reference_iff (class k) = (λ h. tt, λ h. refl)

module _ (rows : List Row) (fit : AreRows rows) where
  pub below_iff : (sub sup : ClassKey) → (is_below rows (number_of rows (class_decl sub)) (number_of rows (class_decl sup)) ≡ true) ↔ IsSubclass rows sub sup
  below_iff sub sup = (to (number_of rows (class_decl sub)) (number_of rows (class_decl sup)) refl refl, back (number_of rows (class_decl sub)) (number_of rows (class_decl sup)) refl refl)
    where
      to : (c d : Option ℕ) → number_of rows (class_decl sub) ≡ c → number_of rows (class_decl sup) ≡ d → is_below rows c d ≡ true → IsSubclass rows sub sup
      to None d ce de h = absurd cc
      to (Some c) None ce de h = absurd cc
      to (Some c) (Some d) ce de h =
          let m = any_in (λ x. x == d) (chain_of (entries_of rows) c) h in
          record {
            c = c;
            d = d;
            below = number_stands rows (class_decl sub) c ce;
            over = number_stands rows (class_decl sup) d de;
            climbs = record { chain = chain_of (entries_of rows) c; goes_up = acyclic_rows rows fit c; among = subst (In (chain_of (entries_of rows) c)) (eqb-true m.0 d m.2) m.1 };
          }

      same_chain : (s : IsSubclass rows sub sup) (c d : ℕ) → c ≡ s.c → d ≡ s.d → list_any (λ x. x == d) (chain_of (entries_of rows) c) ≡ true
      same_chain s c d ce de = in_any (λ x. x == d) (chain_of (entries_of rows) c) s.d
          (subst (λ (cs : List ℕ). In cs s.d) (one_chain (entries_of rows) s.c s.climbs.chain (chain_of (entries_of rows) c) s.climbs.goes_up (subst (λ x. IsChain (entries_of rows) x (chain_of (entries_of rows) c)) ce (acyclic_rows rows fit c))) s.climbs.among)
          (eq-eqb s.d d (sym de))

      back : (c d : Option ℕ) → number_of rows (class_decl sub) ≡ c → number_of rows (class_decl sup) ≡ d → IsSubclass rows sub sup → is_below rows c d ≡ true
      back None d ce de s = absurd (number_none rows (class_decl sub) ce s.c s.below)
      back (Some c) None ce de s = absurd (number_none rows (class_decl sup) de s.d s.over)
      back (Some c) (Some d) ce de s = same_chain s c d (fit.one_each (class_decl sub) c s.c (number_stands rows (class_decl sub) c ce) s.below) (fit.one_each (class_decl sup) d s.d (number_stands rows (class_decl sup) d de) s.over)

  widens_iff : (s t : Ty) → (widens rows s t ≡ true) ↔ Widens rows s t
  widens_iff null (class d) = (λ h. tt, λ h. refl)
  widens_iff (class c) (class d) = below_iff c d
  widens_iff _ _ = (λ h. absurd cc, λ h. absurd h)

  pub assigns_iff : (s t : Ty) → (assigns rows s t ≡ true) ↔ IsAssignable rows s t
  assigns_iff s t = or_iff (same_ty s t) (widens rows s t) (s ≡ t) (Widens rows s t) (ty_decides s t) (widens_iff s t)

  comparable_tys : (t u : Ty) → ((is_reference t && is_reference u && (assigns rows t u || assigns rows u t)) ≡ true) ↔ AreComparable rows t u
  comparable_tys t u = chain (and_iff (is_reference t && is_reference u) (assigns rows t u || assigns rows u t) (IsReference t × IsReference u) (IsAssignable rows t u ⊎ IsAssignable rows u t)
      (and_iff (is_reference t) (is_reference u) (IsReference t) (IsReference u) (reference_iff t) (reference_iff u))
      (or_iff (assigns rows t u) (assigns rows u t) (IsAssignable rows t u) (IsAssignable rows u t) (assigns_iff t u) (assigns_iff u t)))
      (λ h. (h.0.0, h.0.1, h.1), λ h. ((h.0, h.1), h.2))

  -- two types that there may be
  pub comparable_iff : (x y : Option Ty) (First Second : Ty → Type 0) → ((t : Ty) → (x ≡ Some t) ↔ First t) → ((t : Ty) → (y ≡ Some t) ↔ Second t)
      → (comparable rows x y ≡ true) ↔ ((t : Ty) × (u : Ty) × First t × Second u × AreComparable rows t u)
  comparable_iff None y First Second first second = (λ h. absurd cc, λ h. let e = (first h.0).1 h.2 in absurd cc)
  comparable_iff (Some t) None First Second first second = (λ h. absurd cc, λ h. let e = (second h.1).1 h.3 in absurd cc)
  comparable_iff (Some t) (Some u) First Second first second = (λ h. (t, u, (first t).0 refl, (second u).0 refl, (comparable_tys t u).0 h), back)
    where
      back : ((v : Ty) × (z : Ty) × First v × Second z × AreComparable rows v z) → (is_reference t && is_reference u && (assigns rows t u || assigns rows u t)) ≡ true
      back (v, z, a, b, h) =
          let e = (first v).1 a in let i : t ≡ v = cc in
          let f = (second z).1 b in let j : u ≡ z = cc in
          (comparable_tys t u).1 (subst (λ y. AreComparable rows t y) (sym j) (subst (λ y. AreComparable rows y z) (sym i) h))

  pub suits_iff : (x y : Option Ty) (First Second : Ty → Type 0) → ((t : Ty) → (x ≡ Some t) ↔ First t) → ((t : Ty) → (y ≡ Some t) ↔ Second t)
      → (suits rows x y ≡ true) ↔ ((s : Ty) × (t : Ty) × First s × Second t × IsAssignable rows s t)
  suits_iff None y First Second first second = (λ h. absurd cc, λ h. let e = (first h.0).1 h.2 in absurd cc)
  suits_iff (Some t) None First Second first second = (λ h. absurd cc, λ h. let e = (second h.1).1 h.3 in absurd cc)
  suits_iff (Some t) (Some u) First Second first second = (λ h. (t, u, (first t).0 refl, (second u).0 refl, (assigns_iff t u).0 h), back)
    where
      back : ((v : Ty) × (z : Ty) × First v × Second z × IsAssignable rows v z) → assigns rows t u ≡ true
      back (v, z, a, b, h) =
          let e = (first v).1 a in let i : t ≡ v = cc in
          let f = (second z).1 b in let j : u ≡ z = cc in
          (assigns_iff t u).1 (subst (λ y. IsAssignable rows t y) (sym j) (subst (λ y. IsAssignable rows y z) (sym i) h))

  module _ (found : KeysAreFound rows) (c : Context) where
    module _ {A : Type 0} where
      one_type : (t : Ty) (e : tree.Exp A) → (is_ty t (type_of rows c e) ≡ true) ↔ HasType rows c e t
      one_type t e = chain (is_ty_iff t (type_of rows c e)) (typed rows fit found c e t)

      pub both_iff : (t : Ty) (l r : tree.Exp A) → (are_ty t (type_of rows c l) (type_of rows c r) ≡ true) ↔ Both rows c t l r
      both_iff t l r = and_iff (is_ty t (type_of rows c l)) (is_ty t (type_of rows c r)) (HasType rows c l t) (HasType rows c r t) (one_type t l) (one_type t r)

      pub equates_iff : (l r : tree.Exp A) → (equates rows (type_of rows c l) (type_of rows c r) ≡ true) ↔ Equates rows c l r
      equates_iff l r = or_iff _ _ (Both rows c int l r) _ (both_iff int l r) (or_iff _ _ (Both rows c boolean l r) _ (both_iff boolean l r)
          (comparable_iff (type_of rows c l) (type_of rows c r) (HasType rows c l) (HasType rows c r) (typed rows fit found c l) (typed rows fit found c r)))

      -- what operators take, and what may be assigned and cast
      pub takes_iff : (o : BinOp) (l r : tree.Exp A) → (takes rows o (type_of rows c l) (type_of rows c r) ≡ true) ↔ Takes rows c o l r
      takes_iff op.Or l r = both_iff boolean l r
      takes_iff op.And l r = both_iff boolean l r
      takes_iff op.Eq l r = equates_iff l r
      takes_iff op.Ne l r = equates_iff l r
      takes_iff op.Lt l r = both_iff int l r
      takes_iff op.Gt l r = both_iff int l r
      takes_iff op.Le l r = both_iff int l r
      takes_iff op.Ge l r = both_iff int l r
      takes_iff op.Add l r = both_iff int l r
      takes_iff op.Sub l r = both_iff int l r
      takes_iff op.Mul l r = both_iff int l r
      takes_iff op.Div l r = both_iff int l r
      takes_iff op.Rem l r = both_iff int l r

      pub takes_one_iff : (o : UnOp) (e : tree.Exp A) → (takes_one o (type_of rows c e) ≡ true) ↔ TakesOne rows c o e
      takes_one_iff sign.Plus e = one_type int e
      takes_one_iff sign.Minus e = one_type int e
      takes_one_iff sign.Not e = one_type boolean e

      pub int_iff : (e : tree.Exp A) → (is_ty int (type_of rows c e) ≡ true) ↔ HasType rows c e int
      int_iff e = one_type int e

      pub assigned_iff : (l r : tree.Exp A) → (suits rows (type_of rows c r) (type_of rows c l) ≡ true) ↔ Suits rows c r (HasType rows c l)
      assigned_iff l r = suits_iff (type_of rows c r) (type_of rows c l) (HasType rows c r) (HasType rows c l) (typed rows fit found c r) (typed rows fit found c l)

      pub casts_iff : (of : tree.TypeName A) (e : tree.Exp A) → (comparable rows (written_type rows (scope_of c) of) (type_of rows c e) ≡ true) ↔ Casts rows c of e
      casts_iff of e = comparable_iff (written_type rows (scope_of c) of) (type_of rows c e) (WritesType rows (scope_of c) of) (HasType rows c e) (written_iff rows fit found (scope_of c) of) (typed rows fit found c e)
