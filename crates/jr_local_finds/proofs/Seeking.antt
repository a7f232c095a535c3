-- What a search in a list has found is the one expression of its span, so it suits or none does.
use Rattle.std.proofs.Common.{◌≡◌, ◌≢◌, ℕ, ◌==◌, ◌&&◌, not, Bool, true, false, List, [], Option, Some, None, if◌then◌else◌, refl, sym, ap, subst, ◌∙◌}
use Rattle.std.proofs.lemmas.Option.{none-some, same_Some}
use Rattle.std.proofs.lemmas.Bool.{eqb-true}
use Rattle.jr_text.specs.declared.spans.Span.{Span}
use Rattle.jr_ast.specs.Tree as tree
use Rattle.jr_ast.specs.StatementTree as statement
use Rattle.jr_ast.specs.Marks.{exp_mark}
use Rattle.jr_grammar.specs.Layout.{itself}
use Rattle.jr_table.specs.Keys.{Ty, int, boolean, void, null, class}
use Rattle.jr_expr_types.specs.Slots.{Slot, find_type}
use Rattle.jr_pieces.specs.Ways.{ListWay}
use Rattle.jr_pieces.specs.Uses.{Use, valued, assigned, changed, stated}
use Rattle.jr_told_ways.specs.Told.{In, OneWayHasASpan}
use Rattle.jr_piece_search.specs.SoughtStatements.{Found, IsPlace, IsFound, NoneHasTheSpan}
use Rattle.jr_local_search.proofs.Paths.{list_ends}
use Rattle.jr_bodies.specs.BodyLaws.{IsNested}
use Rattle.jr_local_finds.specs.SoughtValues.{Suits, IsValue, HasNoValue, IsSought, is_valued, is_greatest, is_taken, is_kept, with_type, chosen}

-- ---- tests

no_taken : {P : Type 0} → (let t : Bool = true in t ≡ false) → P
no_taken e = absurd cc

valued_of : (u : Use) → is_valued u ≡ true → u ≡ valued
valued_of valued e = refl
valued_of assigned e = absurd cc
valued_of changed e = absurd cc
valued_of stated e = absurd cc

not_greatest : (e : tree.Exp Span) → ((m : Span) → e ≢ tree.number m 2147483648) → is_greatest e ≡ false
not_greatest (tree.number m n) apart = by (n == 2147483648) refl
  where
    by : (b : Bool) → (n == 2147483648) ≡ b → (n == 2147483648) ≡ false
    by true e = absurd (apart m (ap (tree.number m) (eqb-true n 2147483648 e)))
    by false e = e
not_greatest (tree.truth m b) apart = refl
not_greatest (tree.null m) apart = refl
not_greatest (tree.string m t) apart = refl
not_greatest (tree.name m w) apart = refl
not_greatest (tree.field m e w) apart = refl
not_greatest (tree.super_field m w) apart = refl
not_greatest (tree.this m) apart = refl
not_greatest (tree.class_literal m t) apart = refl
not_greatest (tree.call m t w es) apart = refl
not_greatest (tree.super_call m w es) apart = refl
not_greatest (tree.create m t es) apart = refl
not_greatest (tree.paren m e) apart = refl
not_greatest (tree.cast m t e) apart = refl
not_greatest (tree.unary m o e) apart = refl
not_greatest (tree.bump m o e) apart = refl
not_greatest (tree.binary m o l r) apart = refl
not_greatest (tree.assign m l r) apart = refl
not_greatest (tree.compound m o l r) apart = refl

no_greatest : (e : tree.Exp Span) → is_greatest e ≡ false → (m : Span) → e ≢ tree.number m 2147483648
no_greatest e f m is =
    let t : is_greatest (tree.number m 2147483648) ≡ true = refl in
    no_taken (sym t ∙ ap is_greatest (sym is) ∙ f)

taken_of : (x : Found) → x.usage ≡ valued → ((m : Span) → x.value ≢ tree.number m 2147483648) → is_taken x ≡ true
taken_of x used apart = let g : is_greatest x.value ≡ false = not_greatest x.value apart in λ i. is_valued (used i) && not (g i)

-- both parts of the test
record Parts (x : Found) : Type 0 where
  used : x.usage ≡ valued
  apart : is_greatest x.value ≡ false

parts_of : (x : Found) → is_taken x ≡ true → Parts x
parts_of x e = by (is_valued x.usage) (is_greatest x.value) refl refl e
  where
    by : (v g : Bool) → is_valued x.usage ≡ v → is_greatest x.value ≡ g → (v && not g) ≡ true → Parts x
    by true false v g e = record { used = valued_of x.usage v; apart = g }
    by true true v g e = absurd cc
    by false true v g e = absurd cc
    by false false v g e = absurd cc

kept_of : (t : Ty) → t ≢ void → t ≢ null → is_kept t ≡ true
kept_of int v n = refl
kept_of boolean v n = refl
kept_of void v n = absurd (v refl)
kept_of null v n = absurd (n refl)
kept_of (class k) v n = refl

no_void : (t : Ty) → is_kept t ≡ true → t ≢ void
no_void t e is = no_taken (sym (sym (ap is_kept is) ∙ e))

no_null : (t : Ty) → is_kept t ≡ true → t ≢ null
no_null t e is = no_taken (sym (sym (ap is_kept is) ∙ e))

-- ---- the search

module _ (none : NoneHasTheSpan) (one : OneWayHasASpan Span) (b : statement.Stmts Span) (front : ℕ) (types : List Slot) (s : Span) where
  abbrev Here : Type 0
  Here = In (λ (h : tree.Exp Span). ListWay h b)

  abbrev here : {f : tree.Exp Span} → ListWay f b → Here
  here {f} way = record { value = f; way = way }

  abbrev SuitsHere : Ty → Here → Type 0
  SuitsHere t i = Suits b front types s i.way t

  one_here : IsNested b → {f g : tree.Exp Span} (d : ListWay f b) (e : ListWay g b) → exp_mark f ≡ s → exp_mark g ≡ s → here d ≡ here e
  one_here n {f} {g} d e df eg = one itself (record { from = 0; to = n.to }) 1 b n.nested f g d e (list_ends f b d 0 ∙ df ∙ sym eg ∙ sym (list_ends g b e 0))

  module _ (x : Found) (path : List ℕ) (span : exp_mark x.value ≡ s) (place : IsPlace b front [] path x) where
    not_suited : ((t : Ty) → SuitsHere t (here place.way) → ⊥) → HasNoValue b front types s
    not_suited apart n f way t h = apart t (subst (SuitsHere t) (one_here n way place.way h.span span) h)

    typed_so : (t : Ty) → SuitsHere t (here place.way) → find_type types path ≡ Some t
    typed_so t h = ap (find_type types) place.path ∙ h.typed

    suits : Parts x → (t : Ty) → find_type types path ≡ Some t → is_kept t ≡ true → IsValue b front types s (record { found = x; path = path; type = t })
    suits parts t e kept = record {
      place = place;
      suits = record {
        span = span;
        used = sym place.used ∙ parts.used;
        typed = ap (find_type types) (sym place.path) ∙ e;
        no_void = no_void t kept;
        no_null = no_null t kept;
        no_greatest = no_greatest x.value parts.apart;
      };
    }

    of_type : Parts x → (t : Ty) → find_type types path ≡ Some t → (kept : Bool) → is_kept t ≡ kept
        → IsSought b front types s (if kept then Some (record { found = x; path = path; type = t }) else None)
    of_type parts t e true kept = suits parts t e kept
    of_type parts t e false kept = not_suited (λ u h. no_taken (sym (kept_of u h.no_void h.no_null) ∙ ap is_kept (same_Some u t (sym (typed_so u h) ∙ e)) ∙ kept))

    of_taken : Parts x → (o : Option Ty) → find_type types path ≡ o → IsSought b front types s (with_type x path o)
    of_taken parts None e = not_suited (λ u h. none-some u (sym e ∙ typed_so u h))
    of_taken parts (Some t) e = of_type parts t e (is_kept t) refl

    of_found : (taken : Bool) → is_taken x ≡ taken → IsSought b front types s (if taken then with_type x path (find_type types path) else None)
    of_found true e = of_taken (parts_of x e) (find_type types path) refl
    of_found false e = not_suited (λ u h. no_taken (sym (taken_of x (place.used ∙ h.used) h.no_greatest) ∙ e))

  pub sought : (o : Option Found) (path : List ℕ) → IsFound s b front [] path o → IsSought b front types s (chosen types o path)
  sought None path h = λ n f way t k. none s (record { from = 0; to = n.to }) 1 front b n.nested h f way k.span
  sought (Some x) path h = of_found x path h.0 h.1 (is_taken x) refl
