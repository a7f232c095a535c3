-- What stands in front of the words of a new expression, by what is chosen for them.
use Rattle.std.proofs.Common.{◌≡◌, ℕ, List, [], ◌++◌, Some, None, Bool, false, if◌then◌else◌, refl, sym, ap, ◌∙◌, inl, inr}
use Rattle.std.specs.Prelude.{◌⊎◌}
use Rattle.jr_text.specs.declared.spans.Span.{Span}
use Rattle.jr_ast.specs.Tree as tree
use Rattle.jr_table.specs.Context.{Context}
use Rattle.jr_table.specs.Binding.{left}
use Rattle.jr_rewrite.specs.Respellings.{Front, same, alone, by_this, by_super, by_cast_this, by_class, by_outer_class, by_cast, Choice, Loss, front_of}
use Rattle.jr_rewrite.specs.Rewritten.{variable_to, operand_to, target_of, drops_operand, losses_of, operand_losses, new_word, cast_tree}
use Rattle.jr_rewrite.specs.Rewrites.{Choosing}
use Rattle.jr_rewrite.specs.Along.{OperandAlong, IsClassWords}
use Rattle.jr_images.specs.Regions.{Region}
use Rattle.jr_images.proofs.Chosen.{left_none}
use Rattle.jr_reference_changes.specs.Fronts.{IsThis, Becomes, IsOperandOf, IsClassThere, SimpleBecomes}
use Rattle.jr_reference_changes.proofs.FrontForms.{OfSimple, OfMethod, OfDotted}

-- where what stood in front stays, nothing of it is lost
pub operand_none : {A : Type 0} (tells : A → ℕ → Span) (h : Choice) (ls : List Loss) → operand_losses tells h ls ++ losses_of h ≡ [] → drops_operand (front_of h) ≡ false → ls ≡ []
operand_none tells h ls none stays = sym (ap (λ (b : Bool). if b then [] else ls) stays) ∙ left_none (operand_losses tells h ls) (losses_of h) none

module _ {A : Type 0} (tells : A → ℕ → Span) (R : Region A) (C : Choosing A) (c : Context) (m : A) where
  abbrev Simple : Front → Type 0
  Simple = OfSimple R.seen.images.rows (R.seen.scope c)

  abbrev Dotted : Front → Type 0
  Dotted = OfDotted R.seen.images.rows (R.seen.scope c)

  abbrev Method : Front → Type 0
  Method = OfMethod R.seen.images.rows (R.seen.scope c)

  pub simple_becomes : (front : Front) (w : tree.Word A) → Simple front → SimpleBecomes tells R C c (variable_to m front None w)
  simple_becomes same w h = inl (m, w, refl)
  simple_becomes alone w h = inl (m, w, refl)
  simple_becomes by_this w h = inr (inr (m, tree.this m, w, refl, inl (m, refl)))
  simple_becomes by_super w h = inr (inl (m, w, refl))
  simple_becomes (by_cast_this k) w h = inr (inr (m, cast_tree m k (tree.this m), w, refl, inr (inl (m, m, m, new_word m k, tree.this m, refl, (m, refl)))))
  simple_becomes (by_class k) w h = inr (inr (m, tree.name m (new_word m k), w, refl, inr (inr h)))
  simple_becomes (by_outer_class o k) w h = inr (inr (m, tree.field m (tree.name m (new_word m o)) (new_word m k), w, refl, inr (inr h)))
  simple_becomes (by_cast k) w h = absurd h

  -- what stands in front of a dot, where x stands now for e
  module _ (base : ℕ) (e x : tree.Exp A) (Side : tree.Exp A → Type 0) where
    pub operand_is : (front : Front) → Dotted front → (drops_operand front ≡ false → Side x) → (drops_operand front ≡ false → Becomes tells R C c left base e x)
        → (z : tree.Exp A) × (operand_to m front (Some x) ≡ Some z) × OperandAlong Side z × IsOperandOf tells R C c base e z
    operand_is same h side stays = (x, refl, inl (side refl), inl (stays refl))
    operand_is (by_cast k) h side stays =
        (cast_tree m k x, refl, inr (inl (m, m, tree.named m None (new_word m k), x, refl, side refl)), inr (inl (m, m, m, new_word m k, x, refl, stays refl)))
    operand_is (by_class k) h side stays = (tree.name m (new_word m k), refl, inr (inr (inl (m, new_word m k, refl))), inr (inr h))
    operand_is (by_outer_class o k) h side stays =
        (tree.field m (tree.name m (new_word m o)) (new_word m k), refl, inr (inr (inr (m, m, new_word m o, new_word m k, refl))), inr (inr h))
    operand_is alone h side stays = absurd h
    operand_is by_this h side stays = absurd h
    operand_is by_super h side stays = absurd h
    operand_is (by_cast_this k) h side stays = absurd h

  -- in front of a method that had nothing in front of it
  abbrev pub MethodTarget : tree.Target A → Type 0
  MethodTarget to = (to ≡ tree.no_target) ⊎ ((x : tree.Exp A) × (to ≡ tree.on x) × (IsThis x ⊎ IsClassThere tells R C c x))

  abbrev pub TargetWords : tree.Target A → Type 0
  TargetWords to = (to ≡ tree.no_target) ⊎ (((k : A) × (to ≡ tree.on (tree.this k))) ⊎ ((x : tree.Exp A) × (to ≡ tree.on x) × IsClassWords x))

  pub target_is : (front : Front) → Method front → TargetWords (target_of (operand_to m front None)) × MethodTarget (target_of (operand_to m front None))
  target_is same h = (inl refl, inl refl)
  target_is by_this h = (inr (inl (m, refl)), inr (tree.this m, refl, inl (m, refl)))
  target_is (by_class k) h = (inr (inr (tree.name m (new_word m k), refl, inl (m, new_word m k, refl))), inr (tree.name m (new_word m k), refl, inr h))
  target_is (by_outer_class o k) h = (
    inr (inr (tree.field m (tree.name m (new_word m o)) (new_word m k), refl, inr (m, m, new_word m o, new_word m k, refl))),
    inr (tree.field m (tree.name m (new_word m o)) (new_word m k), refl, inr h),
  )
  target_is alone h = absurd h
  target_is by_super h = absurd h
  target_is (by_cast_this k) h = absurd h
  target_is (by_cast k) h = absurd h
