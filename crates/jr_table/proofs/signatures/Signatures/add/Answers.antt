use Rattle.std.proofs.Common.{◌≡◌, ◌||◌, Bor, List, [], ◌∷◌, not, Bool, true, false, refl, sym, ap, subst, ◌∙◌}
use Rattle.std.specs.Bool.{MatchBool}
use Rattle.std.specs.List.{list_any}
use Rattle.std.specs.List.Sorted.{IsPermutation}
use Rattle.std.proofs.lemmas.List.Sorted.{list_any-IsPermutation}
use Rattle.std.specs.Cmp.Lexicographic.{pointwise}
use Rattle.jr_table.specs.declared.entries.Kind.{Kind}
use Rattle.jr_table.specs.contracts.entries.KindPartialEq.TheImpl.{ghosts}
use Rattle.jr_table.specs.Looking.{same_kinds}
use Rattle.jr_table.proofs.Testing.{kinds_same}
use Rattle.jr_table.proofs.SameKinds.{derived_is}
use Rattle.jr_table.proofs.signatures.Signatures.add.Goals as goal

pub returns : goal.returns
returns c = λ ps. by c.in_ok-_added._added refl c.in_ok-_added.ensures.keys ps
  where
    by : (b : Bool) → c.in_ok-_added._added ≡ b → MatchBool b (IsPermutation (c.args.list ∷ c.args.self.now.lists.keys) c.insert.new.self.keys) (c.insert.new.self.keys ≡ c.args.self.now.lists.keys) → (ps : List Kind)
        → list_any (λ k. same_kinds ps k.now) c.insert.new.self.keys ≡ (same_kinds ps c.args.list.now || list_any (λ k. same_kinds ps k.now) c.args.self.now.lists.keys)
    by true e p ps = sym (list_any-IsPermutation (λ k. same_kinds ps k.now) (c.args.list ∷ c.args.self.now.lists.keys) c.insert.new.self.keys p)
    by false e p ps = ap (list_any (λ k. same_kinds ps k.now)) p ∙ same (same_kinds ps c.args.list.now) refl
      where
        not_new : (b : Bool) → not b ≡ false → b ≡ true
        not_new true h = refl
        not_new false h = absurd cc

        was : list_any (λ k. same_kinds c.args.list.now k.now) c.args.self.now.lists.keys ≡ true
        was = not_new _ (sym (c.in_ok-_added.ensures.added ∙ ap not (derived_is c.args.self.now.lists.keys c.args.list.now)) ∙ e)

        same : (b : Bool) → same_kinds ps c.args.list.now ≡ b → list_any (λ k. same_kinds ps k.now) c.args.self.now.lists.keys ≡ (b || list_any (λ k. same_kinds ps k.now) c.args.self.now.lists.keys)
        same true s = subst (λ qs. list_any (λ k. same_kinds qs k.now) c.args.self.now.lists.keys ≡ true) (sym ((kinds_same ps c.args.list.now).0 s)) was
        same false s = refl
