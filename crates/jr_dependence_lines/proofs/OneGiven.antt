-- What is known of a member is one, and so is what its way has.
use Rattle.std.proofs.Common.{◌≡◌, ℕ, List, Option, Some, None, refl, sym, ap, subst, ◌∙◌}
use Rattle.std.specs.Prelude.{◌↔◌}
use Rattle.jr_text.specs.declared.spans.Span.{Span}
use Rattle.jr_lex.specs.declared.items.Item.{Item}
use Rattle.jr_ast.specs.MemberTree.{Member}
use Rattle.jr_table.specs.Keys.{FieldKey}
use Rattle.jr_table.specs.Decls.{MemberKey}
use Rattle.jr_table.specs.Rows.{Row}
use Rattle.jr_table.specs.Errors.{member_part}
use Rattle.jr_code.specs.RunKeys.{RunKeys}
use Rattle.jr_cover.specs.Sites.{Site}
use Rattle.jr_cover.specs.Ways.{Way}
use Rattle.jr_expr_sites.specs.KnownFacts.{Given}
use Rattle.jr_cfg.specs.MemberRoutes as routes
use Rattle.jr_member_graphs.specs.OwnFlags.{own}
use Rattle.jr_program.proofs.Binding.{with_super}
use Rattle.jr_dependence_lines.specs.MemberLines.{tells, IsKnown, OfWay, Has}
use Rattle.jr_dependence_lines.proofs.Numbered.{has_key, has_others}

-- two that are Some of the same are one
same_options : {X : Type 0} (a b : Option X) → ((x : X) → (a ≡ Some x) ↔ (b ≡ Some x)) → a ≡ b
same_options None None same = refl
same_options None (Some y) same = (same y).1 refl
same_options (Some x) b same = sym ((same x).0 refl)

module _ (rows : List Row) (items : List Item) (key : MemberKey) (base : ℕ) (x : Member Span) where
  one_place : (a b : ℕ) (g h : Given) → IsKnown rows items key base x a g → IsKnown rows items key base x b h → a ≡ b
  one_place a b g h k l = (with_super rows items (λ n. n ≡ b) (member_part x) a k.place).0 ((with_super rows items (λ n. n ≡ b) (member_part x) b l.place).1 refl)

  one_given : (at : ℕ) (g h : Given) → IsKnown rows items key base x at g → IsKnown rows items key base x at h → g ≡ h
  one_given at g h k l =
      let decls : k.decls ≡ l.decls =
      λ i n. same_options (k.decls n) (l.decls n) (λ d. (λ e. (l.binds n d).1 ((k.binds n d).0 e), λ e. (k.binds n d).1 ((l.binds n d).0 e))) i in
      let types : k.types ≡ l.types =
      λ i p. same_options (k.types p) (l.types p) (λ t. (λ e. (l.has p t).1 ((k.has p t).0 e), λ e. (k.has p t).1 ((l.has p t).0 e))) i in
      k.is ∙ (λ i. own tells rows key (decls i) (types i) base x) ∙ sym l.is

  -- the way of a member: with some numbers for its locals
  module _ (a : ℕ) (g : Given) (k : IsKnown rows items key base x a g) where
    pub key_is : g.member ≡ key
    key_is = ap (λ (h : Given). h.member) k.is

    pub some_key : (f : FieldKey) × routes.IsKeyOf g.member f x
    some_key = has_key g.member x (subst (λ (m : MemberKey). routes.HasKey m x) (sym key_is) k.is_key)

    abbrev pub some_way : Way (Site RunKeys)
    some_way = routes.member tells a base some_key.0 x g (has_others tells base x).0

    pub its_way : (P : Way (Site RunKeys) → Type 0) → OfWay rows items key base x a g P → P some_way
    its_way P holds = let o = has_others tells base x in holds some_key.0 o.0 some_key.1 o.1

  -- two properties of it hold of one way
  pub both_hold : (P Q : Given → Way (Site RunKeys) → Type 0) → Has rows items key base x P → Has rows items key base x Q → (g : Given) × (w : Way (Site RunKeys)) × P g w × Q g w
  both_hold P Q h k =
      let at : h.super_at ≡ k.super_at = one_place h.super_at k.super_at h.given k.given h.known k.known in
      let other : IsKnown rows items key base x k.super_at h.given = subst (λ (n : ℕ). IsKnown rows items key base x n h.given) at h.known in
      let given : h.given ≡ k.given = one_given k.super_at h.given k.given other k.known in
      let holds : OfWay rows items key base x k.super_at k.given (P k.given) =
      subst (λ (g : Given). OfWay rows items key base x k.super_at g (P g)) given (subst (λ (n : ℕ). OfWay rows items key base x n h.given (P h.given)) at h.holds) in (
        k.given,
        some_way k.super_at k.given k.known,
        its_way k.super_at k.given k.known (P k.given) holds,
        its_way k.super_at k.given k.known (Q k.given) k.holds,
      )
