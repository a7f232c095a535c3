-- Names of methods may stay, and constructors are found again.
use Rattle.std.proofs.Common.{◌≡◌, ℕ, List, [], Option, Some, None, refl, sym, subst, ◌∙◌, inl, inr}
use Rattle.jr_ast.specs.Tree as tree
use Rattle.jr_table.specs.declared.rules.Rule.TheVariants as rule
use Rattle.jr_table.specs.Keys.{ClassKey, MethodKey, CtorKey, Ty, class}
use Rattle.jr_table.specs.Decls.{Decl, method_decl, constructor_decl}
use Rattle.jr_table.specs.Rows.{Row}
use Rattle.jr_table.specs.Conditions.{AreRows}
use Rattle.jr_table.specs.Found.{Found, one, nothing, many, not_accessible, from_static}
use Rattle.jr_table.specs.Scope.{Scope}
use Rattle.jr_table.specs.Lookup.{FindsMethodNamed, FindsMethodOf, FindsCtorOf, find_ctor_of}
use Rattle.jr_table.specs.LookupLaws.{KeysAreFound}
use Rattle.jr_table.specs.BindingLaws.{IsBound}
use Rattle.jr_table.specs.Context.{Context, scope_of, IsSuperclass}
use Rattle.jr_table.specs.Binding.{Role, method, FindsIn, HaveTypes, TargetFinds, CallFinds, SuperCallFinds, CreationFinds, SuperCtorFinds, word_at}
use Rattle.jr_table.specs.Meanings.{types_of, target_found, call_found, ctor_found, created_class, own_superclass}
use Rattle.jr_table.proofs.Typing.{own_super_iff}
use Rattle.jr_spell.specs.declared.references.RefForm.TheVariants as ref
use Rattle.jr_spell.specs.declared.spellings.Form.TheVariants.{Asked}
use Rattle.jr_spell.specs.Taken.{IsTaken}
use Rattle.jr_rewrite.specs.Respellings.{stays}
use Rattle.jr_images.specs.Regions.{Region}
use Rattle.jr_images.specs.Words.{class_name, FindsBehind}
use Rattle.jr_images.specs.Spelling.{reference, behind_words, operand_of, on_type, FindsOn, TakenChoice, SimpleCallChoice, CallChoice, SuperCallChoice, CreationChoice, SuperCtorChoice, ExpChoice}
use Rattle.jr_new_files.proofs.Namesakes.{found_method, found_call, found_ctor, static_ctor}
use Rattle.jr_new_files.proofs.AskedBinds.{call_taken, method_taken, static_method_taken, super_method_taken, ctor_taken, super_ctor_taken}
use Rattle.jr_new_files.proofs.NothingBroken.{the_one, one_found, object_there, SoundItself, AreTyped, args_typed}
use Rattle.jr_untouched_parts.specs.Sights.{SeesTheSame}
use Rattle.jr_untouched_parts.proofs.TypesStay.{keeping, stays_so}
use Rattle.jr_untouched_parts.proofs.NamesStay.{there as there_of, place as place_of, words_stand, one_nothing}

module _ {A : Type 0} (begins : A → ℕ → ℕ) (rows : List Row) (R : Region A) (c : Context) (sees : SeesTheSame R c) where
  abbrev there : Scope
  there = there_of begins rows R c sees

  place : there ≡ R.seen.scope c
  place = place_of begins rows R c sees

  abbrev P : Region A
  P = keeping rows R

  -- the types that arguments have there are those that they had
  same_types : (args : tree.Exps A) (ts : List Ty) → ts ≡ R.types_now c args ts
  same_types args ts = sym (sees.types args ts)

  -- ---- calls

  -- what is chosen for a method of these argument types
  abbrev Simple : (at : ℕ) → (old : List ℕ) → MethodKey → List Ty → Type 0
  Simple at old q us = TakenChoice begins rows P (R.seen.scope c) at old q.name (method_decl q) (method_decl q) (reference ref.MethodSimple q.name None us) (FindsMethodNamed rows (R.seen.scope c) q.name us) stays

  simple_chosen : (at : ℕ) (old : List ℕ) (args : tree.Exps A) (d : Decl) → CallFinds rows c tree.no_target old args (one d) → SimpleCallChoice begins rows P c at old args stays
  unfolding TargetFinds
  simple_chosen at old args d (inl (ts, have, h)) =
      let f = found_call rows (scope_of c) old ts d h in
      let q = f.0 in
      let found = subst (λ x. FindsMethodNamed rows (scope_of c) old ts (one x)) f.1 h in
      let own : FindsMethodNamed rows there q.name ts (one (method_decl q)) = subst (λ (n : List ℕ). FindsMethodNamed rows there n ts (one (method_decl q))) (sym f.2) found in
      let image = subst (λ (s : Scope). IsTaken rows s (reference ref.MethodSimple q.name None ts) (method_decl q) Asked) place (call_taken rows there q ts own) in
      let chosen : Simple at old q ts = inl (Asked, image, stays_so old q.name f.2) in
      (q, ts, inl (ts, have, found), have, subst (Simple at old q) (same_types args ts) chosen)
  simple_chosen at old args d (inr (lacks, is)) = absurd (one_nothing d is)

  module _ (bound : IsBound A rows c) where
    pub simple_call_stays : (role : Role) (base : ℕ) (m : A) (w : tree.Word A) (args : tree.Exps A) → SoundItself begins rows c role base (tree.call m tree.no_target w args)
        → ExpChoice begins rows P c role base (tree.call m tree.no_target w args) stays
    simple_call_stays role base m w args none =
        let o = the_one (target_found rows c tree.no_target w.text (types_of rows c args)) (CallFinds rows c tree.no_target w.text args) (bound.calls tree.no_target w.text args)
        (λ f h. one_found begins rows c role base (tree.call m tree.no_target w args) none (word_at begins m base w) method f (refl, refl, h)) in
        simple_chosen (word_at begins m base w) w.text args o.0 o.1

    module _ (role : Role) (base : ℕ) (m : A) (e : tree.Exp A) (w : tree.Word A) (args : tree.Exps A) (none : SoundItself begins rows c role base (tree.call m (tree.on e) w args)) where
      abbrev Through : MethodKey → ClassKey → List Ty → Type 0
      Through q o us = TakenChoice begins rows P (R.seen.scope c) (word_at begins m base w) w.text q.name (method_decl q) (method_decl q) (behind_words (class_name o) (reference ref.ThroughClass q.name (operand_of o) us))
          (FindsBehind (class_name o) (λ k. FindsMethodOf rows (R.seen.scope c) k q.name us)) stays

      abbrev OnValue : MethodKey → List Ty → Ty → Type 0
      OnValue q us t = TakenChoice begins rows P (R.seen.scope c) (word_at begins m base w) w.text q.name (method_decl q) (method_decl q) (reference ref.MethodOn q.name (on_type t) us) (FindsOn t (λ k. FindsMethodOf rows (R.seen.scope c) k q.name us)) stays

      call_chosen : (d : Decl) → CallFinds rows c (tree.on e) w.text args (one d) → CallChoice begins rows P c (word_at begins m base w) e w.text args stays
      unfolding TargetFinds
      call_chosen d (inl (o, inl named, inl (ts, have, h))) =
          let f = found_method rows (scope_of c) o w.text ts d h in
          let q = f.0 in
          let found = subst (λ x. FindsMethodOf rows (scope_of c) o w.text ts (one x)) f.1 h in
          let own : FindsMethodOf rows there o q.name ts (one (method_decl q)) = subst (λ (n : List ℕ). FindsMethodOf rows there o n ts (one (method_decl q))) (sym f.2) found in
          let taken = static_method_taken rows there o q ts own
          (λ x. none (word_at begins m base w) rule.InstanceThroughType (refl, (method_decl q, (inl (o, inl named, inl (ts, have, found)), (o, named)), x))) in
          let image = subst (λ (s : Scope). IsTaken rows s (behind_words (class_name o) (reference ref.ThroughClass q.name (operand_of o) ts)) (method_decl q) Asked) place taken in
          let chosen : Through q o ts = inl (Asked, image, stays_so w.text q.name f.2) in
          (q, ts, inl (o, inl named, inl (ts, have, found)), have, inl (o, named, (class_name o, words_stand begins rows R c sees e o named, subst (Through q o) (same_types args ts) chosen)))
      call_chosen d (inl (o, inr (no_name, has), inl (ts, have, h))) =
          let f = found_method rows (scope_of c) o w.text ts d h in
          let q = f.0 in
          let found = subst (λ x. FindsMethodOf rows (scope_of c) o w.text ts (one x)) f.1 h in
          let own : FindsMethodOf rows there o q.name ts (one (method_decl q)) = subst (λ (n : List ℕ). FindsMethodOf rows there o n ts (one (method_decl q))) (sym f.2) found in
          let taken = method_taken rows there o q ts own
          (λ x. none (word_at begins m base w) rule.StaticThroughValue (refl, (method_decl q, (inl (o, inr (no_name, has), inl (ts, have, found)), no_name), x))) in
          let image = subst (λ (s : Scope). IsTaken rows s (reference ref.MethodOn q.name (operand_of o) ts) (method_decl q) Asked) place taken in
          let chosen : OnValue q ts (class o) = inl (Asked, image, stays_so w.text q.name f.2) in
          let typed : OnValue q ts (R.type_now c e (class o)) = subst (OnValue q ts) (sym (sees.type e (class o))) chosen in
          (q, ts, inl (o, inr (no_name, has), inl (ts, have, found)), have, inr (no_name, (o, has, subst (λ (us : List Ty). OnValue q us (R.type_now c e (class o))) (same_types args ts) typed)))
      call_chosen d (inl (o, on, inr (lacks, is))) = absurd (one_nothing d is)
      call_chosen d (inr (lacks, is)) = absurd (one_nothing d is)

      pub call_stays : ExpChoice begins rows P c role base (tree.call m (tree.on e) w args) stays
      call_stays =
          let o = the_one (target_found rows c (tree.on e) w.text (types_of rows c args)) (CallFinds rows c (tree.on e) w.text args) (bound.calls (tree.on e) w.text args)
          (λ f h. one_found begins rows c role base (tree.call m (tree.on e) w args) none (word_at begins m base w) method f (refl, refl, h)) in
          call_chosen o.0 o.1

    -- behind `super`
    abbrev Above : (at : ℕ) → (old : List ℕ) → MethodKey → List Ty → Type 0
    Above at old q us = TakenChoice begins rows P (R.seen.scope c) at old q.name (method_decl q) (method_decl q) (reference ref.AsAsked q.name None us)
        (FindsIn (IsSuperclass rows (R.seen.scope c).class) (λ k f. FindsMethodOf rows (R.seen.scope c) k q.name us f)) stays

    pub super_call_stays : (role : Role) (base : ℕ) (m : A) (w : tree.Word A) (args : tree.Exps A) → SoundItself begins rows c role base (tree.super_call m w args) → ExpChoice begins rows P c role base (tree.super_call m w args) stays
    super_call_stays role base m w args none =
        let o = the_one (call_found rows c (own_superclass rows c) w.text (types_of rows c args)) (SuperCallFinds rows c w.text args) (bound.super_calls w.text args)
        (λ f h. one_found begins rows c role base (tree.super_call m w args) none (word_at begins m base w) method f (refl, refl, h)) in
        by o.0 o.1
      where
        by : (d : Decl) → SuperCallFinds rows c w.text args (one d) → SuperCallChoice begins rows P c (word_at begins m base w) w.text args stays
        by d (inl (o, is, inl (ts, have, h))) =
            let f = found_method rows (scope_of c) o w.text ts d h in
            let q = f.0 in
            let found = subst (λ x. FindsMethodOf rows (scope_of c) o w.text ts (one x)) f.1 h in
            let own : FindsMethodOf rows there o q.name ts (one (method_decl q)) = subst (λ (n : List ℕ). FindsMethodOf rows there o n ts (one (method_decl q))) (sym f.2) found in
            let object = object_there begins rows c role base (tree.super_call m w args) (begins m base) refl none in
            let taken = super_method_taken rows there o q ts object is own (λ x. none (word_at begins m base w) rule.StaticThroughValue (refl, (method_decl q, inl (o, is, inl (ts, have, found)), x))) in
            let image = subst (λ (s : Scope). IsTaken rows s (reference ref.AsAsked q.name None ts) (method_decl q) Asked) place taken in
            let chosen : Above (word_at begins m base w) w.text q ts = inl (Asked, image, stays_so w.text q.name f.2) in
            (q, ts, inl (o, is, inl (ts, have, found)), have, subst (Above (word_at begins m base w) w.text q) (same_types args ts) chosen)
        by d (inl (o, is, inr (lacks, e))) = absurd (one_nothing d e)
        by d (inr (lacks, e)) = absurd (one_nothing d e)

    -- ---- constructors

    abbrev Created : (at : ℕ) → ClassKey → CtorKey → List Ty → Type 0
    Created at o q us = TakenChoice begins rows P (R.seen.scope c) at [] [] (constructor_decl q) (constructor_decl q) (reference ref.AsAsked [] (operand_of o) us) (FindsCtorOf rows (R.seen.scope c) o us) stays

    pub creation_stays : (role : Role) (base : ℕ) (m : A) (t : tree.TypeName A) (args : tree.Exps A) → SoundItself begins rows c role base (tree.create m t args) → CreationChoice begins rows P c base (tree.create m t args) stays
    creation_stays role base m t args none =
        let o = the_one (ctor_found rows c (created_class rows c t) (types_of rows c args)) (CreationFinds rows c t args) (bound.creations t args)
        (λ f h. one_found begins rows c role base (tree.create m t args) none (begins m base) method f (inl (refl, refl, h))) in
        by o.0 o.1
      where
        by : (d : Decl) → CreationFinds rows c t args (one d) → CreationChoice begins rows P c base (tree.create m t args) stays
        by d (inl (o, is, inl (ts, have, h))) =
            let f = found_ctor rows (scope_of c) o ts d h in
            let q = f.0 in
            let found : FindsCtorOf rows there o ts (one (constructor_decl q)) = subst (λ x. FindsCtorOf rows (scope_of c) o ts (one x)) f.1 h in
            let image = subst (λ (s : Scope). IsTaken rows s (reference ref.AsAsked [] (operand_of o) ts) (constructor_decl q) Asked) place (ctor_taken rows there o q ts found) in
            let chosen : Created (begins m base) o q ts = inl (Asked, image, stays_so [] [] refl) in
            (o, q, ts, is, inl (o, is, inl (ts, have, found)), have, subst (Created (begins m base) o q) (same_types args ts) chosen)
        by d (inl (o, is, inr (lacks, e))) = absurd (one_nothing d e)
        by d (inr (lacks, e)) = absurd (one_nothing d e)

    -- a written `super(..)`, which finds something that is accessible
    module _ (are : AreRows rows) (keys : KeysAreFound rows) (at : ℕ) (args : tree.Exps A) (some : SuperCtorFinds rows c args nothing → ⊥) (single : (d e : Decl) → SuperCtorFinds rows c args (many d e) → ⊥)
        (seen : (d : Decl) → SuperCtorFinds rows c args (not_accessible d) → ⊥) where
      abbrev Called : CtorKey → List Ty → Type 0
      Called q us = TakenChoice begins rows P (R.seen.scope c) at [] [] (constructor_decl q) (constructor_decl q) (reference ref.AsAsked [] None us) (FindsIn (IsSuperclass rows (R.seen.scope c).class) (λ k f. FindsCtorOf rows (R.seen.scope c) k us f)) stays

      super_ctor_chosen : (o : ClassKey) (ts : List Ty) → IsSuperclass rows (scope_of c).class o → HaveTypes rows c args ts → (f : Found) → FindsCtorOf rows (scope_of c) o ts f → SuperCtorChoice begins rows P at c args stays
      super_ctor_chosen o ts is have (one d) h =
          let f = found_ctor rows (scope_of c) o ts d h in
          let q = f.0 in
          let found : FindsCtorOf rows there o ts (one (constructor_decl q)) = subst (λ x. FindsCtorOf rows (scope_of c) o ts (one x)) f.1 h in
          let image = subst (λ (s : Scope). IsTaken rows s (reference ref.AsAsked [] None ts) (constructor_decl q) Asked) place (super_ctor_taken rows there o q ts is found) in
          let chosen : Called q ts = inl (Asked, image, stays_so [] [] refl) in
          (q, ts, inl (o, is, inl (ts, have, found)), have, subst (Called q) (same_types args ts) chosen)
      super_ctor_chosen o ts is have nothing h = absurd (some (inl (o, is, inl (ts, have, h))))
      super_ctor_chosen o ts is have (many d e) h = absurd (single d e (inl (o, is, inl (ts, have, h))))
      super_ctor_chosen o ts is have (not_accessible d) h = absurd (seen d (inl (o, is, inl (ts, have, h))))
      super_ctor_chosen o ts is have (from_static d) h = absurd (static_ctor rows (scope_of c) o ts d h)

      pub super_ctor_stays : SuperCtorChoice begins rows P at c args stays
      super_ctor_stays = by (own_superclass rows c) refl (args_typed rows c bound args)
        where
          by : (o : Option ClassKey) → own_superclass rows c ≡ o → AreTyped rows c args → SuperCtorChoice begins rows P at c args stays
          by (Some o) is (inl (ts, have)) = super_ctor_chosen o ts ((own_super_iff rows are keys c o).0 is) have (find_ctor_of rows (scope_of c) o ts) ((keys.ctor_of (scope_of c) o ts (find_ctor_of rows (scope_of c) o ts)).0 refl)
          by (Some o) is (inr never) = absurd (some (inl (o, (own_super_iff rows are keys c o).0 is, inr (never, refl))))
          by None is typed = absurd (some (inr ((λ o h. let p : None ≡ Some o = sym is ∙ (own_super_iff rows are keys c o).1 h in absurd cc), refl)))
