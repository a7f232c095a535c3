-- A way has one list of lines.
use Rattle.std.proofs.Common.{◌≡◌, ◌<◌, ℕ, ◌+◌, List, [], ◌∷◌, refl, sym, ap, subst, ◌∙◌, arith, inl, inr}
use Rattle.std.specs.Prelude.{◌⊎◌}
use Rattle.std.specs.List.{AllZip}
use Rattle.std.proofs.lemmas.Option.{same_Some}
use Rattle.jr_code.specs.RunKeys.{RunKeys}
use Rattle.jr_cover.specs.Sites.{Site}
use Rattle.jr_cover.specs.Ways.{Way}
use Rattle.jr_sites.specs.SiteView.{PlacedSite}
use Rattle.jr_dependences.specs.declared.dependence.Dependence.{Dependence}
use Rattle.jr_dependences.specs.Listed.{rank, IsBefore}
use Rattle.jr_expr_sites.specs.KnownFacts.{Given}
use Rattle.jr_dependence_lines.specs.Lines.{Line}
use Rattle.jr_dependence_lines.specs.WayLines.{StandsAt, IsLineOf, AreWayLines}
use Rattle.jr_dependence_lines.proofs.OneOrder.{one_list}

abbrev Later : Dependence → Dependence → Type 0
Later d e = (d.second < e.second) ⊎ ((d.second ≡ e.second) × (rank d.kind < rank e.kind))

never_later : (d e : Dependence) → Later d e → Later e d → ⊥
never_later d e (inl a) (inl b) = omega (arith, a, b)
never_later d e (inl a) (inr b) = let x = b.0 in omega (arith, a, x)
never_later d e (inr a) (inl b) = let x = a.0 in omega (arith, b, x)
never_later d e (inr a) (inr b) = let x = a.1 in let y = b.1 in omega (arith, x, y)

pub never_before : (d e : Dependence) → IsBefore d e → IsBefore e d → ⊥
never_before d e (inl a) (inl b) = omega (arith, a, b)
never_before d e (inl a) (inr b) = let x = b.0 in omega (arith, a, x)
never_before d e (inr a) (inl b) = let x = a.0 in omega (arith, b, x)
never_before d e (inr a) (inr b) = never_later d e a.1 b.1

module _ (g : Given) (w : Way (Site RunKeys)) where
  one_place : (n a b : ℕ) → StandsAt g w n a → StandsAt g w n b → a ≡ b
  one_place n a b (s, is, e) (t, js, f) =
      let same : s ≡ t = same_Some s t (sym is ∙ js) in
      e ∙ ap (λ (p : PlacedSite). g.start + p.at) same ∙ sym f

  one_line : (d : Dependence) (l m : Line) → IsLineOf g w d l → IsLineOf g w d m → l ≡ m
  one_line d l m h k =
      let member : l.member ≡ m.member = h.member ∙ sym k.member in
      let kind : l.kind ≡ m.kind = h.kind ∙ sym k.kind in
      let first : l.first ≡ m.first = one_place d.first l.first m.first h.first k.first in
      let second : l.second ≡ m.second = one_place d.second l.second m.second h.second k.second in
      λ i. record { member = member i; kind = kind i; first = first i; second = second i }

  each_line : (list : List Dependence) (xs ys : List Line) → AllZip (IsLineOf g w) list xs → AllZip (IsLineOf g w) list ys → xs ≡ ys
  each_line [] [] [] h k = refl
  each_line [] [] (y ∷ ys) h k = absurd k
  each_line [] (x ∷ xs) ys h k = absurd h
  each_line (d ∷ ds) [] ys h k = absurd h
  each_line (d ∷ ds) (x ∷ xs) [] h k = absurd k
  each_line (d ∷ ds) (x ∷ xs) (y ∷ ys) h k = (λ i. one_line d x y h.0 k.0 i ∷ each_line ds xs ys h.1 k.1 i)

  pub one_way_lines : (xs ys : List Line) → AreWayLines g w xs → AreWayLines g w ys → xs ≡ ys
  one_way_lines xs ys h k =
      let same : h.list ≡ k.list = one_list IsBefore never_before h.list k.list h.ordered k.ordered (λ d. (λ at. (k.exact d).1 ((h.exact d).0 at), λ at. (h.exact d).1 ((k.exact d).0 at))) in
      each_line k.list xs ys (subst (λ (l : List Dependence). AllZip (IsLineOf g w) l xs) same h.each) k.each
