-- In a program without faults each type that is written means one type, so a member has one key.
use Rattle.std.proofs.Common.{◌≡◌, ℕ, zero, suc, ◌<◌, List, [], ◌∷◌, Option, Some, None, map, refl, sym, ap, subst, ◌∙◌, inl, inr}
use Rattle.std.specs.Prelude.{◌⊎◌, slice_get}
use Rattle.std.proofs.lemmas.Bool.{cases_order}
use Rattle.std.proofs.lemmas.Option.{same_Some}
use Rattle.jr_text.specs.declared.spans.Span.{Span}
use Rattle.jr_ast.specs.MemberTree as syntax
use Rattle.jr_table.specs.declared.kinds.DeclKind.TheVariants as kind
use Rattle.jr_table.specs.Keys.{ClassKey, Ty, class}
use Rattle.jr_table.specs.Decls.{method, constructor}
use Rattle.jr_table.specs.LookupLaws.{HasOne}
use Rattle.jr_table.specs.Prelude.{top_key}
use Rattle.jr_table.specs.DeclaredItems.{Written, int, boolean, named, DeclaredClass, DeclaredParam, DeclaredItem, class_item, param_declaration}
use Rattle.jr_table.specs.Resolving.{DeclaresClass, IsDeclared, IsPreludeClass, TopNames, TopParent, TopMemberType, HasTopMemberType, FindsInTop, MemberNames, TypeWithin, HasMemberType, IsParent, FindsAround, FindsType, Means}
use Rattle.jr_table.specs.ProgramRows.{MeanTypes}
use Rattle.jr_table.specs.Faults.{PackageLine, IsClean}
use Rattle.jr_table.specs.Errors.{Declares}
use Rattle.jr_program_laws.specs.FileParts.{begins}

module _ (packages : List (Option PackageLine)) (declarations : List DeclaredItem) (clean : IsClean packages declarations) where
  never_twice : (k : ClassKey) (a b : DeclaredClass) (x : DeclaresClass declarations k a) (y : DeclaresClass declarations k b) → x.number < y.number → ⊥
  never_twice k a b x y less =
      clean kind.TwiceClass (record { file = y.file; at = b.at }) (y.number, b, record { stands = y.stands }, refl, inl (x.number, x.file, a, less, record { stands = x.stands }, x.is ∙ sym y.is))

  one_declaration : (k : ClassKey) → HasOne (DeclaresClass declarations k)
  one_declaration k a b x y = by_order (cases_order x.number y.number)
    where
      by_order : (x.number ≡ y.number) ⊎ ((x.number < y.number) ⊎ (y.number < x.number)) → a ≡ b
      by_order (inl e) =
          let declaration = same_Some _ _ (sym x.stands ∙ ap (slice_get declarations) e ∙ y.stands) in
          let item : class_item a ≡ class_item b = ap (λ (s : DeclaredItem). s.item) declaration in
          cc
      by_order (inr (inl less)) = absurd (never_twice k a b x y less)
      by_order (inr (inr less)) = absurd (never_twice k b a y x less)

  not_prelude : (name : List ℕ) (at : DeclaredClass) → DeclaresClass declarations (top_key name) at → IsPreludeClass name → ⊥
  not_prelude name at x is =
      let same : name ≡ at.key.name = sym (ap (λ (k : ClassKey). k.name) x.is) in
      clean kind.PreludeName (record { file = x.file; at = at.at }) (x.number, at, record { stands = x.stands }, inl (subst IsPreludeClass same is), refl)

  top_names_once : (w : Option Written) → HasOne (TopNames declarations w)
  top_names_once None p q x y = x ∙ sym y
  top_names_once (Some int) p q x y = absurd x
  top_names_once (Some boolean) p q x y = absurd x
  top_names_once (Some (named at None name)) p q x y = x.0 ∙ sym y.0
  top_names_once (Some (named at (Some l) name)) p q x y = absurd x

  top_parent_once : (name : List ℕ) → HasOne (TopParent declarations name)
  top_parent_once name p q (inl x) (inl y) =
      let same = one_declaration (top_key name) x.0 y.0 x.1 y.1 in
      top_names_once y.0.parent p q (subst (λ (at : DeclaredClass). TopNames declarations at.parent p) same x.2) y.2
  top_parent_once name p q (inl x) (inr y) = absurd (not_prelude name x.0 x.1 (inr y.0))
  top_parent_once name p q (inr x) (inl y) = absurd (not_prelude name y.0 y.1 (inr x.0))
  top_parent_once name p q (inr x) (inr y) = x.1 ∙ sym y.1

  top_member_once : (u v : ℕ) (of name : List ℕ) (q r : ClassKey) → TopMemberType declarations u of name q → TopMemberType declarations v of name r → q ≡ r
  top_member_once zero zero of name q r x y = x.0 ∙ sym y.0
  top_member_once zero (suc v) of name q r x y = absurd (y.4 (subst (IsDeclared declarations) x.0 x.1))
  top_member_once (suc u) zero of name q r x y = absurd (x.4 (subst (IsDeclared declarations) y.0 y.1))
  top_member_once (suc u) (suc v) of name q r x y =
      let same : x.0 ≡ y.0 = ap (λ (k : ClassKey). k.name) (top_parent_once of (top_key x.0) (top_key y.0) x.1 y.1) in
      top_member_once u v x.0 name q r x.2 (subst (λ (p : List ℕ). TopMemberType declarations v p name r) (sym same) y.2)

  has_top_once : (of name : List ℕ) → HasOne (HasTopMemberType declarations of name)
  has_top_once of name q r x y = top_member_once x.0 y.0 of name q r x.1 y.1

  in_top_once : (of name : List ℕ) → HasOne (FindsInTop declarations of name)
  in_top_once of name q r (inl x) (inl y) = has_top_once of name q r x y
  in_top_once of name q r (inl x) (inr y) = absurd (y.0 q x)
  in_top_once of name q r (inr x) (inl y) = absurd (x.0 r y)
  in_top_once of name q r (inr x) (inr y) = x.1 ∙ sym y.1

  -- by two relations of member types that agree
  module _ (S T : ClassKey → List ℕ → ClassKey → Type 0) (agree : (c : ClassKey) (name : List ℕ) (q r : ClassKey) → S c name q → T c name r → q ≡ r) where
    member_names_once : (outer : List ℕ) (w : Option Written) (p q : ClassKey) → MemberNames declarations S outer w p → MemberNames declarations T outer w q → p ≡ q
    member_names_once outer None p q x y = x ∙ sym y
    member_names_once outer (Some int) p q x y = absurd x
    member_names_once outer (Some boolean) p q x y = absurd x
    member_names_once outer (Some (named at None name)) p q x y = in_top_once outer name p q x y
    member_names_once outer (Some (named at (Some l) name)) p q x y =
        let same = in_top_once outer l x.0 y.0 x.1 y.1 in
        agree x.0 name p q x.2 (subst (λ (c : ClassKey). T c name q) (sym same) y.2)

  type_within_once : (u v : ℕ) (o : Option (List ℕ)) (n name : List ℕ) (q r : ClassKey) → TypeWithin declarations u (record { outer = o; name = n }) name q → TypeWithin declarations v (record { outer = o; name = n }) name r → q ≡ r
  type_within_once zero v o n name q r x y = absurd x
  type_within_once (suc u) zero o n name q r x y = absurd y
  type_within_once (suc u) (suc v) None n name q r (inl x) (inl y) = has_top_once n name q r x.1 y.1
  type_within_once (suc u) (suc v) None n name q r (inl x) (inr y) = absurd y
  type_within_once (suc u) (suc v) None n name q r (inr x) y = absurd x
  type_within_once (suc u) (suc v) (Some o) n name q r (inl x) y = let never = x.0 in absurd cc
  type_within_once (suc u) (suc v) (Some o) n name q r (inr x) (inl y) = let never = y.0 in absurd cc
  type_within_once (suc u) (suc v) (Some o) n name q r (inr x) (inr y) =
      let declaration = one_declaration (record { outer = Some o; name = n }) x.0 y.0 x.2 y.2 in
      let parent = member_names_once (λ d. TypeWithin declarations u d) (λ d. TypeWithin declarations v d) (λ d m s t. type_within_once u v d.outer d.name m s t) o y.0.parent x.1 y.1
      (subst (λ (at : DeclaredClass). MemberNames declarations (λ d. TypeWithin declarations u d) o at.parent x.1) declaration x.3) y.3 in
      type_within_once u v x.1.outer x.1.name name q r x.4 (subst (λ (p : ClassKey). TypeWithin declarations v p name r) (sym parent) y.4)

  has_member_once : (c : ClassKey) (name : List ℕ) → HasOne (HasMemberType declarations c name)
  has_member_once c name q r x y = type_within_once x.0 y.0 c.outer c.name name q r x.1 y.1

  around_once : (o : Option (List ℕ)) (name : List ℕ) → HasOne (FindsAround declarations o name)
  around_once None name q r x y = x.0 ∙ sym y.0
  around_once (Some o) name q r x y = in_top_once o name q r x y

  finds_type_once : (c : ClassKey) (name : List ℕ) → HasOne (FindsType declarations c name)
  finds_type_once c name q r (inl x) (inl y) = has_member_once c name q r x y
  finds_type_once c name q r (inl x) (inr y) = absurd (y.0 q x)
  finds_type_once c name q r (inr x) (inl y) = absurd (x.0 r y)
  finds_type_once c name q r (inr x) (inr y) = around_once c.outer name q r x.1 y.1

  pub means_once : (c : ClassKey) (w : Written) → HasOne (Means declarations c w)
  means_once c int t u x y = x ∙ sym y
  means_once c boolean t u x y = x ∙ sym y
  means_once c (named at None name) t u x y = x.1 ∙ ap class (finds_type_once c name x.0 y.0 x.2 y.2) ∙ sym y.1
  means_once c (named at (Some l) name) t u x y =
      let outer = finds_type_once c l x.0 y.0 x.3 y.3 in
      let same = has_member_once x.0 name x.1 y.1 x.4 (subst (λ (o : ClassKey). HasMemberType declarations o name y.1) (sym outer) y.4) in
      x.2 ∙ ap class same ∙ sym y.2

  pub parent_once : (c : ClassKey) → HasOne (IsParent declarations c)
  parent_once c p q (inl x) (inl y) = top_parent_once c.name p q x.1 y.1
  parent_once c p q (inl x) (inr y) = let never : None ≡ Some y.0 = sym x.0 ∙ y.2 in absurd cc
  parent_once c p q (inr x) (inl y) = let never : None ≡ Some x.0 = sym y.0 ∙ x.2 in absurd cc
  parent_once c p q (inr x) (inr y) =
      let outer : x.0 ≡ y.0 = same_Some x.0 y.0 (sym x.2 ∙ y.2) in
      let declaration : x.1 ≡ y.1 = one_declaration c x.1 y.1 x.3 y.3 in
      member_names_once (HasMemberType declarations) (HasMemberType declarations) (λ d name s t. has_member_once d name s t) y.0 y.1.parent p q
      (subst (λ (at : DeclaredClass). MemberNames declarations (HasMemberType declarations) y.0 at.parent p) declaration (subst (λ (o : List ℕ). MemberNames declarations (HasMemberType declarations) o x.1.parent p) outer x.4)) y.4

  pub mean_types_once : (k : ClassKey) (ps : List DeclaredParam) → HasOne (MeanTypes declarations k ps)
  mean_types_once k [] [] [] x y = refl
  mean_types_once k [] [] (u ∷ us) x y = absurd y
  mean_types_once k [] (t ∷ ts) us x y = absurd x
  mean_types_once k (p ∷ ps) [] us x y = absurd x
  mean_types_once k (p ∷ ps) (t ∷ ts) [] x y = absurd y
  mean_types_once k (p ∷ ps) (t ∷ ts) (u ∷ us) x y = let first = means_once k p.type t u x.0 y.0 in let rest = mean_types_once k ps ts us x.1 y.1 in cc

  pub declares_once : (base : ℕ) (of : ClassKey) (x : syntax.Member Span) → HasOne (Declares begins declarations base of x)
  declares_once base of (syntax.field m mods t w init) k j x y = x ∙ sym y
  declares_once base of (syntax.method m mods t w ps body) k j x y =
      let same = mean_types_once of (map (param_declaration begins (begins m base)) ps) x.0 y.0 x.1 y.1 in
      x.2 ∙ ap (λ (ts : List Ty). method (record { class = of; name = w.text; params = ts })) same ∙ sym y.2
  declares_once base of (syntax.constructor m mods w ps args body) k j x y =
      let same = mean_types_once of (map (param_declaration begins (begins m base)) ps) x.0 y.0 x.1 y.1 in
      x.2 ∙ ap (λ (ts : List Ty). constructor (record { class = of; params = ts })) same ∙ sym y.2
  declares_once base of (syntax.inner m c) k j x y = absurd x
