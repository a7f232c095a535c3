-- Old and new expressions side by side: what stands in front of each reference.
use Rattle.std.proofs.Common.{◌≡◌, ℕ, List, [], ◌++◌, Option, Some, None, refl, sym, ap, subst, ◌∙◌, inl, inr}
use Rattle.std.specs.Prelude.{◌⊎◌}
use Rattle.jr_text.specs.declared.spans.Span.{Span}
use Rattle.jr_ast.specs.Tree as tree
use Rattle.jr_table.specs.Rows.{Row}
use Rattle.jr_table.specs.Context.{Context}
use Rattle.jr_table.specs.Binding.{Role, value, left}
use Rattle.jr_rewrite.specs.Respellings.{Front, same, alone, by_this, by_super, by_cast_this, by_class, by_outer_class, by_cast, Choice, front_of, text_of}
use Rattle.jr_rewrite.specs.Rewritten.{Rewritten, within, joined, word_to, variable_on, operand_to, target_of, losses_of, new_word, cast_tree, word_out, name_out, field_out, super_to, super_field_out, simple_call_out, dotted_call_out, operand_losses, Called}
use Rattle.jr_rewrite.specs.Rewrites.{Choosing, RewritesExp, RewritesRow, TransformsExp, TransformsTarget, TransformsRow}
use Rattle.jr_rewrite.specs.Along.{Along, AlongTarget, AlongRow}
use Rattle.jr_images.specs.Regions.{Region}
use Rattle.jr_images.specs.Spelling.{choosing}
use Rattle.jr_images.proofs.Chosen.{left_none, right_none, lost_none}
use Rattle.jr_reference_changes.specs.Fronts.{SimpleBecomes, IsFronted, IsCastOf, IsThis}
use Rattle.jr_reference_changes.proofs.FrontForms.{OfSimple, OfSuper, OfDotted, AlsoAlone, Leads, variable_front, class_front, super_front, method_front, field_front, call_front, member_class_front}
use Rattle.jr_reference_changes.proofs.FrontTrees.{operand_none, simple_becomes, operand_is, target_is}

module _ {A : Type 0} (tells : A → ℕ → Span) (rows : List Row) (R : Region A) (super_at : Context → ℕ) where
  abbrev pub at_mark : A → ℕ → ℕ
  at_mark m b = (tells m b).from

  abbrev pub Chosen : Choosing A
  Chosen = choosing at_mark rows R super_at

  abbrev pub Fronted : Context → Context → Role → (base : ℕ) → tree.Exp A → (base' : ℕ) → tree.Exp A → Type 0
  Fronted c d r b e i y = IsFronted tells R Chosen c r b e y

  abbrev pub AnyType : Context → Context → (base : ℕ) → tree.TypeName A → (base' : ℕ) → tree.TypeName A → Type 0
  AnyType c d b t i u = Unit {0}

  abbrev pub Side : Context → Context → Role → (b i : ℕ) → tree.Exp A → tree.Exp A → Type 0
  Side c d r b i e y = Along at_mark at_mark Fronted AnyType c d r b i e y

  abbrev pub SideRow : Context → Context → (b i : ℕ) → tree.Exps A → tree.Exps A → Type 0
  SideRow c d b i es ys = AlongRow at_mark at_mark Fronted AnyType c d b i es ys

  moved : (c d : Context) (r : Role) (b i : ℕ) (e : tree.Exp A) (o p : Rewritten (tree.Exp A)) → o ≡ p → Side c d r b i e p.tree → Side c d r b i e o.tree
  moved c d r b i e o p is side = subst (λ (z : Rewritten (tree.Exp A)). Side c d r b i e z.tree) (sym is) side

  -- a field by `super`
  super_is : (m : A) (front : Front) (w : tree.Word A) → OfSuper front → ((k : A) × (v : tree.Word A) × (super_to m front w ≡ tree.super_field k v))
      ⊎ ((k : A) × (x : tree.Exp A) × (v : tree.Word A) × (super_to m front w ≡ tree.field k x v) × IsCastOf (λ z. IsThis z) x)
  super_is m same w h = inl (m, w, refl)
  super_is m (by_cast_this k) w h = inr (m, cast_tree m k (tree.this m), w, refl, (m, m, m, new_word m k, tree.this m, refl, (m, refl)))
  super_is m alone w h = absurd h
  super_is m by_this w h = absurd h
  super_is m by_super w h = absurd h
  super_is m (by_class k) w h = absurd h
  super_is m (by_outer_class o k) w h = absurd h
  super_is m (by_cast k) w h = absurd h

  -- a class that loses what stood in front of it
  alone_is : (m : A) (x : tree.Exp A) (front : Front) (w : tree.Word A) → front ≡ alone → variable_on m (operand_to m front (Some x)) w ≡ tree.name m w
  alone_is m x front w is = ap (λ (f : Front). variable_on m (operand_to m f (Some x)) w) is

  -- with what stands in front of it, or without
  either_way : (c d : Context) (r : Role) (b i : ℕ) (e y : tree.Exp A) (h : Choice) (old : List ℕ) → (OfDotted R.seen.images.rows (R.seen.scope c) (front_of h) → Side c d r b i e y)
      → (r ≡ left → front_of h ≡ alone → Leads R.seen.images.rows (R.seen.scope c) None (text_of h old) → Side c d r b i e y) → (r ≡ left) × AlsoAlone at_mark rows R (R.seen.scope c) h old → Side c d r b i e y
  either_way c d r b i e y h old dotted by_itself (role, inl f) = dotted f
  either_way c d r b i e y h old dotted by_itself (role, inr f) = by_itself role f.0 f.1

  mutual
    unfolding TransformsExp TransformsTarget TransformsRow Along AlongTarget AlongRow

    pub along : (c d : Context) (r : Role) (b i : ℕ) (e : tree.Exp A) (o : Rewritten (tree.Exp A)) → RewritesExp tells Chosen c r b e o → o.losses ≡ [] → Side c d r b i e o.tree
    along c d r b i (tree.number m n) o is none = moved c d r b i (tree.number m n) o _ is (m, refl)
    along c d r b i (tree.truth m n) o is none = moved c d r b i (tree.truth m n) o _ is (m, refl)
    along c d r b i (tree.null m) o is none = moved c d r b i (tree.null m) o _ is (m, refl)
    along c d r b i (tree.string m s) o is none = moved c d r b i (tree.string m s) o _ is (m, refl)
    along c d r b i (tree.this m) o is none = moved c d r b i (tree.this m) o _ is (m, refl)
    along c d r b i (tree.name m v) o (h, chosen, is) none =
        let own = lost_none o (name_out tells h m b v) is none in
        let front : OfSimple R.seen.images.rows (R.seen.scope c) (front_of h) = elim chosen [ inl f ↦ variable_front at_mark rows R c _ v.text h own f | inr f ↦ class_front at_mark rows R c r _ v.text h own f ] in
        subst (λ (z : Rewritten (tree.Exp A)). SimpleBecomes tells R Chosen c z.tree) (sym is) (simple_becomes tells R Chosen c m (front_of h) (word_to h v) front)
    along c d r b i (tree.super_field m v) o (h, chosen, is) none =
        moved c d r b i (tree.super_field m v) o (super_field_out tells h m b v) is
        (super_is m (front_of h) (word_to h v) (super_front at_mark rows R c _ v.text h (lost_none o (super_field_out tells h m b v) is none) chosen))
    along c d r b i (tree.field m e v) o (h, p, chosen, inner, is) none =
        let all = lost_none o (field_out tells h m b e p v) is none in
        let own = right_none (operand_losses tells h p.losses) (losses_of h) all in
        let dotted : OfDotted R.seen.images.rows (R.seen.scope c) (front_of h) → Side c d r b i (tree.field m e v) o.tree = λ front.
        (let part = operand_is tells R Chosen c m ((tells m b).from) e p.tree (λ y. Side c d left ((tells m b).from) ((tells m i).from) e y) (front_of h) front
        (λ stays. along c d left _ _ e p inner (operand_none tells h p.losses all stays))
        (λ stays. (p, inner, operand_none tells h p.losses all stays, refl)) in
        inl (m, part.0, word_to h v, ap (λ (z : Rewritten (tree.Exp A)). z.tree) is ∙ ap (λ (z : Option (tree.Exp A)). variable_on m z (word_to h v)) part.1, part.2, inl (m, part.0, word_to h v, refl, part.3))) in
        let by_itself : r ≡ left → front_of h ≡ alone → Leads R.seen.images.rows (R.seen.scope c) None (text_of h v.text) → Side c d r b i (tree.field m e v) o.tree = λ role front leads.
        inr (m, word_to h v, role, ap (λ (z : Rewritten (tree.Exp A)). z.tree) is ∙ alone_is m p.tree (front_of h) (word_to h v) front, inr (role, (m, word_to h v, refl, leads))) in
        elim chosen [
          | inl f ↦ dotted (field_front at_mark rows R c _ e v.text h own f)
          | inr f ↦ either_way c d r b i (tree.field m e v) o.tree h v.text dotted by_itself (member_class_front at_mark rows R c r _ e v.text h own f)
        ]
    along c d r b i (tree.class_literal m t) o (p, types, is) none = moved c d r b i (tree.class_literal m t) o _ is (m, p.tree, refl, tt)
    along c d r b i (tree.call m tree.no_target v args) o (h, p, q, chosen, target, row, is) none =
        let out = is ∙ ap (λ (z : Rewritten (Called tells)). joined (λ (t : Called tells) es. tree.call m t.target t.word es) z q) target in
        let all = lost_none o (joined (λ (t : Called tells) es. tree.call m t.target t.word es) (simple_call_out tells h m b v) q) out none in
        let there = ap (λ (z : Rewritten (tree.Exp A)). z.tree) out in
        let to = target_is tells R Chosen c m (front_of h) (method_front at_mark rows R c _ v.text args h (left_none (losses_of h) q.losses all) chosen) in (
          m,
          target_of (operand_to m (front_of h) None),
          word_to h v,
          q.tree,
          there,
          to.0,
          along_row c d _ _ args q row (right_none (losses_of h) q.losses all),
          (m, target_of (operand_to m (front_of h) None), word_to h v, q.tree, refl, to.1),
        )
    along c d r b i (tree.call m (tree.on e) v args) o (h, p, q, chosen, (x, inner, target), row, is) none =
        let out = is ∙ ap (λ (z : Rewritten (Called tells)). joined (λ (t : Called tells) es. tree.call m t.target t.word es) z q) target in
        let all = lost_none o (joined (λ (t : Called tells) es. tree.call m t.target t.word es) (dotted_call_out tells h m b e x v) q) out none in
        let front = left_none (operand_losses tells h x.losses ++ losses_of h) q.losses all in
        let part = operand_is tells R Chosen c m ((tells m b).from) e x.tree (λ y. Side c d left ((tells m b).from) ((tells m i).from) e y) (front_of h)
        (call_front at_mark rows R c _ e v.text args h (right_none (operand_losses tells h x.losses) (losses_of h) front) chosen)
        (λ stays. along c d left _ _ e x inner (operand_none tells h x.losses front stays))
        (λ stays. (x, inner, operand_none tells h x.losses front stays, refl)) in
        let there = ap (λ (z : Rewritten (tree.Exp A)). z.tree) out ∙ ap (λ (z : Option (tree.Exp A)). tree.call m (target_of z) (word_to h v) q.tree) part.1 in (
          m,
          tree.on part.0,
          word_to h v,
          q.tree,
          there,
          (part.0, refl, part.2),
          along_row c d _ _ args q row (right_none (operand_losses tells h x.losses ++ losses_of h) q.losses all),
          (m, part.0, word_to h v, q.tree, refl, part.3),
        )
    along c d r b i (tree.super_call m v args) o (h, q, chosen, row, is) none =
        let all = lost_none o (joined (λ v es. tree.super_call m v es) (word_out tells h ((tells m b).from) v) q) is none in
        (m, word_to h v, q.tree, ap (λ (z : Rewritten (tree.Exp A)). z.tree) is, along_row c d _ _ args q row (right_none (losses_of h) q.losses all), tt)
    along c d r b i (tree.create m t args) o (h, p, q, chosen, types, row, is) none =
        let parts = right_none (losses_of h) (p.losses ++ q.losses) (lost_none o _ is none) in
        (m, p.tree, q.tree, ap (λ (z : Rewritten (tree.Exp A)). z.tree) is, tt, along_row c d _ _ args q row (right_none p.losses q.losses parts), tt)
    along c d r b i (tree.paren m e) o (p, inner, is) none = moved c d r b i (tree.paren m e) o (within (λ x. tree.paren m x) p) is (m, p.tree, refl, along c d value _ _ e p inner (lost_none o (within (λ x. tree.paren m x) p) is none))
    along c d r b i (tree.cast m t e) o (p, q, types, inner, is) none = let all = lost_none o (joined (λ u x. tree.cast m u x) p q) is none in
        moved c d r b i (tree.cast m t e) o (joined (λ u x. tree.cast m u x) p q) is (m, p.tree, q.tree, refl, tt, along c d value _ _ e q inner (right_none p.losses q.losses all))
    along c d r b i (tree.unary m s e) o (p, inner, is) none = moved c d r b i (tree.unary m s e) o (within (λ x. tree.unary m s x) p) is (m, p.tree, refl, along c d value _ _ e p inner (lost_none o (within (λ x. tree.unary m s x) p) is none))
    along c d r b i (tree.bump m s e) o (p, inner, is) none = moved c d r b i (tree.bump m s e) o (within (λ x. tree.bump m s x) p) is (m, p.tree, refl, along c d value _ _ e p inner (lost_none o (within (λ x. tree.bump m s x) p) is none))
    along c d r b i (tree.binary m s e f) o (p, q, one_side, other, is) none = let all = lost_none o (joined (λ u v. tree.binary m s u v) p q) is none in
        moved c d r b i (tree.binary m s e f) o (joined (λ u v. tree.binary m s u v) p q) is (m, p.tree, q.tree, refl, along c d value _ _ e p one_side (left_none p.losses q.losses all), along c d value _ _ f q other (right_none p.losses q.losses all))
    along c d r b i (tree.assign m e f) o (p, q, one_side, other, is) none = let all = lost_none o (joined (λ u v. tree.assign m u v) p q) is none in
        moved c d r b i (tree.assign m e f) o (joined (λ u v. tree.assign m u v) p q) is (m, p.tree, q.tree, refl, along c d value _ _ e p one_side (left_none p.losses q.losses all), along c d value _ _ f q other (right_none p.losses q.losses all))
    along c d r b i (tree.compound m s e f) o (p, q, one_side, other, is) none = let all = lost_none o (joined (λ u v. tree.compound m s u v) p q) is none in
        moved c d r b i (tree.compound m s e f) o (joined (λ u v. tree.compound m s u v) p q) is (m, p.tree, q.tree, refl, along c d value _ _ e p one_side (left_none p.losses q.losses all), along c d value _ _ f q other (right_none p.losses q.losses all))

    pub along_row : (c d : Context) (b i : ℕ) (es : tree.Exps A) (q : Rewritten (tree.Exps A)) → RewritesRow tells Chosen c b es q → q.losses ≡ [] → SideRow c d b i es q.tree
    along_row c d b i tree.end q is none = ap (λ (z : Rewritten (tree.Exps A)). z.tree) is
    along_row c d b i (tree.more e es) q (x, xs, inner, rest, is) none = let all = lost_none q (joined (λ y ys. tree.more y ys) x xs) is none in
        (x.tree, xs.tree, ap (λ (z : Rewritten (tree.Exps A)). z.tree) is, along c d value b i e x inner (left_none x.losses xs.losses all), along_row c d b i es xs rest (right_none x.losses xs.losses all))
