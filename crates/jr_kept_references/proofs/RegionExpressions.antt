-- All expressions of a region: one recursion, beside spots.
use Rattle.std.proofs.Common.{◌≡◌, ℕ, List, [], ◌∷◌, ◌++◌, Bool, false, refl, sym, ap, subst, ◌∙◌, inl, inr}
use Rattle.std.specs.Prelude.{if◌then◌else◌}
use Rattle.jr_text.specs.declared.spans.Span.{Span}
use Rattle.jr_ast.specs.Tree as tree
use Rattle.jr_ast.specs.declared.operators.UnOp.{UnOp}
use Rattle.jr_ast.specs.declared.operators.UnOp.TheVariants as sign
use Rattle.jr_ast.specs.declared.operators.BinOp.{BinOp}
use Rattle.jr_ast.specs.declared.operators.BinOp.TheVariants as op
use Rattle.jr_table.specs.Keys.{ClassKey, Ty, class}
use Rattle.jr_table.specs.Rows.{Row}
use Rattle.jr_table.specs.Scope.{Scope}
use Rattle.jr_table.specs.Context.{Context, scope_of, WritesType}
use Rattle.jr_table.specs.Binding.{HasType, IsClassName, HaveTypes, Role, value, left, sign_type, operator_type}
use Rattle.jr_rewrite.specs.Respellings.{Loss, Choice, front_of}
use Rattle.jr_rewrite.specs.Rewritten.{Rewritten, within, joined, drops_operand, losses_of, word_out, name_out, field_out, super_field_out, simple_call_out, dotted_call_out, operand_losses, Called}
use Rattle.jr_rewrite.specs.Spots.{Asks, level, a_target, operand_asks, Spotted, nowhere, spotted, OrThis, OrPart}
use Rattle.jr_rewrite.specs.Rewrites.{Choosing, TransformsExp, TransformsTarget, TransformsRow, TransformsPart}
use Rattle.jr_images.specs.Regions.{itself, Region, AreTypesNow}
use Rattle.jr_images.specs.Spelling.{choosing}
use Rattle.jr_images.proofs.Chosen.{left_none, right_none, lost_none}
use Rattle.jr_kept_references.specs.InRegions.{rows_in, type_in}
use Rattle.jr_kept_references.specs.KeptInRegions.{Becomes, IsKeptIn, KeptIn, PartsBecome}
use Rattle.jr_kept_references.proofs.RegionWorlds.{RegionWorld}
use Rattle.jr_kept_references.proofs.RegionTypes.{type_kept}
use Rattle.jr_kept_references.proofs.RegionKept.{local_kept, own_field_kept, class_kept, field_kept, member_class_kept, super_field_kept, simple_call_kept, call_kept, super_call_kept, creation_kept}

module _ {A : Type 0} (R : Region A) where
  sign_stays : (o : UnOp) → type_in R (sign_type o) ≡ sign_type o
  sign_stays sign.Plus = refl
  sign_stays sign.Minus = refl
  sign_stays sign.Not = refl

  operator_stays : (o : BinOp) → type_in R (operator_type o) ≡ operator_type o
  operator_stays op.Add = refl
  operator_stays op.Sub = refl
  operator_stays op.Mul = refl
  operator_stays op.Div = refl
  operator_stays op.Rem = refl
  operator_stays op.Or = refl
  operator_stays op.And = refl
  operator_stays op.Eq = refl
  operator_stays op.Ne = refl
  operator_stays op.Lt = refl
  operator_stays op.Gt = refl
  operator_stays op.Le = refl
  operator_stays op.Ge = refl

module _ {A : Type 0} (tells : A → ℕ → Span) (rows : List Row) (R : Region A) (c d : Context) (w : RegionWorld A rows R c d) where
  abbrev Keeps : Role → tree.Exp A → tree.Exp A → Type 0
  Keeps r x y = KeptIn (λ m b. (tells m b).from) rows R c d r x y

  abbrev Gives : tree.Exp A → tree.Exp A → Type 0
  Gives x y = Becomes (λ m b. (tells m b).from) rows R c d x y

  module _ (super_at : Context → ℕ) (S : Spotted A) (parts : PartsBecome (λ m b. (tells m b).from) rows R S c d) where
    abbrev Chosen : Choosing A
    Chosen = choosing (λ m b. (tells m b).from) rows R super_at

    move : (r : Role) (e : tree.Exp A) (o p : Rewritten (tree.Exp A)) → o ≡ p → Keeps r e p.tree → Keeps r e o.tree
    move r e o p is kept = subst (λ (z : Rewritten (tree.Exp A)). Keeps r e z.tree) (sym is) kept

    -- of an operand, where it stays
    pub operand_none : (h : Choice) (ls : List Loss) → operand_losses tells h ls ++ losses_of h ≡ [] → drops_operand (front_of h) ≡ false → ls ≡ []
    operand_none h ls none stays = sym (ap (λ (b : Bool). if b then [] else ls) stays) ∙ left_none (operand_losses tells h ls) (losses_of h) none

    -- node by node, or as a spot has it
    pub of_part : (k : Asks) (r : Role) (base : ℕ) (e : tree.Exp A) (p : Rewritten (tree.Exp A)) → TransformsPart tells Chosen S k c r base e p → p.losses ≡ [] → (TransformsExp tells Chosen S c r base e p → Gives e p.tree)
        → Gives e p.tree
    of_part k r base e p made none by_node = by S parts made
      where
        by : (s : Spotted A) → PartsBecome (λ m b. (tells m b).from) rows R s c d → OrPart s k c r base e p (TransformsExp tells Chosen S c r base e p) → Gives e p.tree
        by nowhere become inner = by_node inner
        by (spotted s) become (inl (stays, inner)) = by_node inner
        by (spotted s) become (inr spot) = become.1 k r base e p spot none

    -- where `this` stays, nothing else stands for it
    this_stays : (s : Spotted A) → PartsBecome (λ m b. (tells m b).from) rows R s c d → {N : Type 0} → OrThis s N → (R.receiver ≡ itself) × N
    this_stays nowhere become h = (become, h)
    this_stays (spotted s) become h = (become.0 h.0, h.1)

    -- what has a type by itself
    plain : (r : Role) (e y : tree.Exp A) → ((t : Ty) → HasType rows c e t → HasType (rows_in R) d y (R.type_now c e t)) → ((k : ClassKey) → IsClassName rows c e k → ⊥)
        → ((k : ClassKey) → IsClassName (rows_in R) d y k → ⊥) → ((b i : ℕ) → IsKeptIn (λ m b. (tells m b).from) rows R c d r b e i y) → Keeps r e y
    plain r e y typed no_name not bound = record { becomes = record { typed = typed; named = λ k h. absurd (no_name k h); apart = λ _ k h. not k h }; bound = bound }

    mutual
      unfolding TransformsExp TransformsTarget TransformsRow HasType IsClassName HaveTypes

      pub kept : (r : Role) (base : ℕ) (e : tree.Exp A) (o : Rewritten (tree.Exp A)) → TransformsExp tells Chosen S c r base e o → o.losses ≡ [] → Keeps r e o.tree
      kept r base (tree.number m n) o is none = move r _ o _ is (plain r _ _ (λ t h. w.types.own c (tree.number m n) t tt h ∙ ap (type_in R) h) (λ k h. h) (λ k h. h) (λ b i at x h. absurd h.1))
      kept r base (tree.truth m n) o is none = move r _ o _ is (plain r _ _ (λ t h. w.types.own c (tree.truth m n) t tt h ∙ ap (type_in R) h) (λ k h. h) (λ k h. h) (λ b i at x h. absurd h.1))
      kept r base (tree.null m) o is none = move r _ o _ is (plain r _ _ (λ t h. w.types.own c (tree.null m) t tt h ∙ ap (type_in R) h) (λ k h. h) (λ k h. h) (λ b i at x h. absurd h.1))
      kept r base (tree.string m s) o is none = move r _ o _ is
          (plain r _ _ (λ t h. w.types.own c (tree.string m s) t tt h ∙ ap (type_in R) h ∙ ap class w.images.string) (λ k h. h) (λ k h. h) (λ b i at x h. absurd h.1))
      kept r base (tree.this m) o made none = (let here = this_stays S parts made in move r _ o _ here.1
          (plain r _ _ (λ t h. w.types.this c m t here.0 h ∙ ap (λ (s : Scope). class s.class) (sym w.stand.scope)) (λ k h. h) (λ k h. h) (λ b i at x h. absurd h.1)))
      kept r base (tree.name m v) o (h, inl (inl (k, spells)), is) none = move r (tree.name m v) o (name_out tells h m base v) is (local_kept tells rows R c d w r m v _ h (lost_none o (name_out tells h m base v) is none) k spells)
      kept r base (tree.name m v) o (h, inl (inr (k, spells)), is) none = move r (tree.name m v) o (name_out tells h m base v) is (own_field_kept tells rows R c d w r m v _ h (lost_none o (name_out tells h m base v) is none) k spells)
      kept r base (tree.name m v) o (h, inr spells, is) none = move r (tree.name m v) o (name_out tells h m base v) is (class_kept tells rows R c d w r m v _ h (lost_none o (name_out tells h m base v) is none) r spells)
      kept r base (tree.field m e v) o (h, p, inl spells, inner, is) none = let all = lost_none o (field_out tells h m base e p v) is none in
          move r (tree.field m e v) o (field_out tells h m base e p v) is (field_kept tells rows R c d w r m e p.tree v _ h (right_none (operand_losses tells h p.losses) (losses_of h) all)
          (λ stays. of_part (operand_asks (front_of h)) left ((tells m base).from) e p inner (operand_none h p.losses all stays) (λ y. (kept left ((tells m base).from) e p y (operand_none h p.losses all stays)).becomes)) spells)
      kept r base (tree.field m e v) o (h, p, inr spells, inner, is) none = let all = lost_none o (field_out tells h m base e p v) is none in
          move r (tree.field m e v) o (field_out tells h m base e p v) is (member_class_kept tells rows R c d w r m e p.tree v _ h (right_none (operand_losses tells h p.losses) (losses_of h) all)
          (λ stays. of_part (operand_asks (front_of h)) left ((tells m base).from) e p inner (operand_none h p.losses all stays) (λ y. (kept left ((tells m base).from) e p y (operand_none h p.losses all stays)).becomes)) r spells)
      kept r base (tree.super_field m v) o (h, spells, is) none = move r (tree.super_field m v) o (super_field_out tells h m base v) is (super_field_kept tells rows R c d w r m v _ h (lost_none o (super_field_out tells h m base v) is none) spells)
      kept r base (tree.class_literal m t) o (p, types, is) none = move r (tree.class_literal m t) o _ is
          (plain r _ _ (λ u h. w.types.own c (tree.class_literal m t) u tt h ∙ ap (type_in R) h ∙ ap class w.images.class) (λ k h. h) (λ k h. h) (λ b i. tt))
      kept r base (tree.call m tree.no_target v args) o (h, p, q, spells, target, row, is) none =
          let out = is ∙ ap (λ (z : Rewritten (Called tells)). joined (λ (t : Called tells) es. tree.call m t.target t.word es) z q) target in
          let all = lost_none o (joined (λ (t : Called tells) es. tree.call m t.target t.word es) (simple_call_out tells h m base v) q) out none in
          move r (tree.call m tree.no_target v args) o (joined (λ (t : Called tells) es. tree.call m t.target t.word es) (simple_call_out tells h m base v) q) out
          (simple_call_kept tells rows R c d w r m v args q.tree (λ ts types. kept_row _ args q row (right_none (losses_of h) q.losses all) ts (R.types_now c args ts) (w.args c args ts) types) _ h (left_none (losses_of h) q.losses all) spells)
      kept r base (tree.call m (tree.on e) v args) o (h, p, q, spells, (x, inner, target), row, is) none =
          let out = is ∙ ap (λ (z : Rewritten (Called tells)). joined (λ (t : Called tells) es. tree.call m t.target t.word es) z q) target in
          let all = lost_none o (joined (λ (t : Called tells) es. tree.call m t.target t.word es) (dotted_call_out tells h m base e x v) q) out none in
          let front = left_none (operand_losses tells h x.losses ++ losses_of h) q.losses all in
          move r (tree.call m (tree.on e) v args) o (joined (λ (t : Called tells) es. tree.call m t.target t.word es) (dotted_call_out tells h m base e x v) q) out
          (call_kept tells rows R c d w r m v args q.tree (λ ts types. kept_row _ args q row (right_none (operand_losses tells h x.losses ++ losses_of h) q.losses all) ts (R.types_now c args ts) (w.args c args ts) types) _ h
          (right_none (operand_losses tells h x.losses) (losses_of h) front) e x.tree (λ stays. of_part (operand_asks (front_of h)) left ((tells m base).from) e x inner (operand_none h x.losses front stays) (λ y. (kept left ((tells m base).from) e x y (operand_none h x.losses front stays)).becomes)) spells)
      kept r base (tree.super_call m v args) o (h, q, spells, row, is) none =
          let all = lost_none o (joined (λ v es. tree.super_call m v es) (word_out tells h ((tells m base).from) v) q) is none in
          move r (tree.super_call m v args) o (joined (λ v es. tree.super_call m v es) (word_out tells h ((tells m base).from) v) q) is
          (super_call_kept tells rows R c d w r m v args q.tree (λ ts types. kept_row _ args q row (right_none (losses_of h) q.losses all) ts (R.types_now c args ts) (w.args c args ts) types) _ h (left_none (losses_of h) q.losses all) spells)
      kept r base (tree.create m t args) o (h, p, q, spells, types, row, is) none =
          let all = lost_none o _ is none in
          let inside = right_none (losses_of h) (p.losses ++ q.losses) all in
          move r (tree.create m t args) o _ is
          (creation_kept tells rows R c d w m t p.tree args q.tree (type_kept tells rows R c d w super_at _ t p types (left_none p.losses q.losses inside))
          (λ ts have. kept_row _ args q row (right_none p.losses q.losses inside) ts (R.types_now c args ts) (w.args c args ts) have)
          base h (left_none (losses_of h) (p.losses ++ q.losses) all) r spells)
      kept r base (tree.paren m e) o (p, inner, is) none =
          let none_lost = lost_none o (within (λ x. tree.paren m x) p) is none in
          let part = of_part (level 0) value ((tells m base).from) e p inner none_lost (λ x. (kept value ((tells m base).from) e p x none_lost).becomes) in
          move r (tree.paren m e) o (within (λ x. tree.paren m x) p) is
          (plain r _ _ (λ t h. subst (λ (s : Ty). HasType (rows_in R) d p.tree s) (sym (w.types.paren c m e t)) (part.typed t h)) (λ k h. h) (λ k h. h) (λ b i at x h. absurd h.1))
      kept r base (tree.cast m t e) o (p, q, types, inner, is) none = let all = lost_none o (joined (λ u x. tree.cast m u x) p q) is none in
          move r (tree.cast m t e) o (joined (λ u x. tree.cast m u x) p q) is
          (plain r _ _ (λ u h. subst (λ (s : Ty). WritesType (rows_in R) (scope_of d) p.tree s) (sym (w.types.own c (tree.cast m t e) u tt h)) (type_kept tells rows R c d w super_at _ t p types (left_none p.losses q.losses all) u h))
          (λ k h. h) (λ k h. h) (λ b i. tt))
      kept r base (tree.unary m s e) o (p, inner, is) none = move r (tree.unary m s e) o _ is
          (plain r _ _ (λ t h. w.types.own c (tree.unary m s e) t tt h ∙ ap (type_in R) h ∙ sign_stays R s) (λ k h. h) (λ k h. h) (λ b i at x h. absurd h.1))
      kept r base (tree.bump m s e) o (p, inner, is) none = move r (tree.bump m s e) o _ is
          (plain r _ _ (λ t h. w.types.own c (tree.bump m s e) t tt h ∙ ap (type_in R) h) (λ k h. h) (λ k h. h) (λ b i at x h. absurd h.1))
      kept r base (tree.binary m s e f) o (p, q, one_side, other, is) none = move r (tree.binary m s e f) o _ is
          (plain r _ _ (λ t h. w.types.own c (tree.binary m s e f) t tt h ∙ ap (type_in R) h ∙ operator_stays R s) (λ k h. h) (λ k h. h) (λ b i at x h. absurd h.1))
      kept r base (tree.assign m e f) o (p, q, one_side, other, is) none =
          let all = lost_none o (joined (λ u v. tree.assign m u v) p q) is none in
          let none_lost = left_none p.losses q.losses all in
          let part = of_part a_target value ((tells m base).from) e p one_side none_lost (λ x. (kept value ((tells m base).from) e p x none_lost).becomes) in
          move r (tree.assign m e f) o (joined (λ u v. tree.assign m u v) p q) is
          (plain r _ _ (λ t h. subst (λ (s : Ty). HasType (rows_in R) d p.tree s) (sym (w.types.assign c m e f t)) (part.typed t h)) (λ k h. h) (λ k h. h) (λ b i at x h. absurd h.1))
      kept r base (tree.compound m s e f) o (p, q, one_side, other, is) none = move r (tree.compound m s e f) o _ is
          (plain r _ _ (λ t h. w.types.own c (tree.compound m s e f) t tt h ∙ ap (type_in R) h) (λ k h. h) (λ k h. h) (λ b i at x h. absurd h.1))

      -- arguments have the types that the region tells
      pub kept_row : (at : ℕ) (es : tree.Exps A) (q : Rewritten (tree.Exps A)) → TransformsRow tells Chosen S c at es q → q.losses ≡ [] → (ts us : List Ty) → AreTypesNow R c es ts us → HaveTypes rows c es ts
          → HaveTypes (rows_in R) d q.tree us
      kept_row at tree.end q is none [] us now h = subst (λ (z : Rewritten (tree.Exps A)). HaveTypes (rows_in R) d z.tree us) (sym is) now
      kept_row at tree.end q is none (t ∷ ts) us now h = absurd cc
      kept_row at (tree.more e es) q (x, xs, inner, rest, is) none [] us now h = absurd h
      kept_row at (tree.more e es) q (x, xs, inner, rest, is) none (t ∷ ts) us (vs, are, now) h = let all = lost_none q (joined (λ y ys. tree.more y ys) x xs) is none in
          let none_lost = left_none x.losses xs.losses all in
          subst (λ (z : Rewritten (tree.Exps A)). HaveTypes (rows_in R) d z.tree us) (sym is)
          (subst (λ (zs : List Ty). HaveTypes (rows_in R) d (tree.more x.tree xs.tree) zs) (sym are)
          ((of_part (level 0) value at e x inner none_lost (λ y. (kept value at e x y none_lost).becomes)).typed t h.0, kept_row at es xs rest (right_none x.losses xs.losses all) ts vs now h.1))
