-- Names of methods stay, and constructors are found again.
use Rattle.std.proofs.Common.{◌≡◌, ℕ, List, [], Option, Some, None, true, false, refl, sym, ap, subst, ◌∙◌, inl, inr}
use Rattle.jr_ast.specs.Tree as tree
use Rattle.jr_table.specs.declared.rules.Rule.TheVariants as rule
use Rattle.jr_table.specs.Keys.{ClassKey, MethodKey, CtorKey, Ty}
use Rattle.jr_table.specs.Decls.{MemberKey, Decl, method_decl, constructor_decl}
use Rattle.jr_table.specs.Rows.{Row}
use Rattle.jr_table.specs.Entries.{is_static_word}
use Rattle.jr_table.specs.Found.{Found, one, nothing, many, not_accessible, from_static}
use Rattle.jr_table.specs.Lookup.{FindsMethodNamed, FindsMethodOf, FindsCtorOf, find_ctor_of}
use Rattle.jr_table.specs.Context.{Context, scope_of, IsSuperclass}
use Rattle.jr_table.specs.Binding.{Role, method, HaveTypes, TargetFinds, CallFinds, SuperCallFinds, CreationFinds, SuperCtorFinds, word_at}
use Rattle.jr_table.specs.Meanings.{types_of, target_found, call_found, ctor_found, created_class, own_superclass}
use Rattle.jr_table.proofs.Typing.{own_super_iff}
use Rattle.jr_spell.specs.declared.references.RefForm.TheVariants as ref
use Rattle.jr_spell.specs.declared.spellings.Form.TheVariants.{Asked}
use Rattle.jr_spell.specs.Taken.{IsTaken}
use Rattle.jr_rewrite.specs.Respellings.{stays}
use Rattle.jr_mentions.specs.Apart.{IsOther}
use Rattle.jr_mentions.specs.Avoids.{AvoidsExp}
use Rattle.jr_images.specs.Images.{Renaming, class_to, method_to, ctor_to, types_to, rows_to, scope_to}
use Rattle.jr_images.specs.Words.{class_name}
use Rattle.jr_images.specs.Spelling.{reference, behind_words, operand_of, SimpleCallSpells, CallSpells, SuperCallSpells, CreationSpells, SuperCtorSpells, ExpSpells}
use Rattle.jr_images.proofs.KeyImages.{types_same}
use Rattle.jr_new_files.proofs.ImagesStay.{IsWithin, ctor_same}
use Rattle.jr_new_files.proofs.Unmoved.{stays_so}
use Rattle.jr_new_files.proofs.Namesakes.{found_method, found_call, found_ctor, method_row, static_ctor}
use Rattle.jr_new_files.proofs.Passing.{Known, call_goes, call_clean, method_goes, method_clean, ctor_goes, method_keeps, superclass_goes, word_back}
use Rattle.jr_new_files.proofs.AskedBinds.{call_taken, method_taken, static_method_taken, super_method_taken, ctor_taken, super_ctor_taken}
use Rattle.jr_new_files.proofs.NothingBroken.{AreTyped, args_typed, the_one, one_found, object_there, SoundItself}
use Rattle.jr_new_files.proofs.WordsOfTypes.{moved}
use Rattle.jr_new_files.proofs.WordsOfNames.{place, image_class, words_stand, one_nothing}

module _ {A : Type 0} (begins : A → ℕ → ℕ) (rows : List Row) (g : Renaming) (names : List (List ℕ)) (k : MemberKey) (known : Known A rows g names k) (c : Context) (within : IsWithin k c) where
  abbrev after : List Row
  after = rows_to g rows

  here : scope_of c ≡ scope_to g c
  here = place begins rows g names k known c within

  of_image : (q : ClassKey) → q ≡ class_to g q
  of_image q = image_class begins rows g names k known c within q

  image_method : (q : MethodKey) → IsOther names q.name → q ≡ method_to g q
  image_method q clean = sym (method_keeps rows g names k known q clean)

  image_types : (ts : List Ty) → ts ≡ types_to g ts
  image_types ts = sym (types_same g known.spared.class ts)

  image_ctor : (q : CtorKey) → q ≡ ctor_to g q
  image_ctor q = sym (ctor_same g known.spared.class q)

  method_name : (q : MethodKey) (old : List ℕ) → IsOther names q.name → q.name ≡ old → (method_to g q).name ≡ old
  method_name q old clean named = ap (λ (x : MethodKey). x.name) (method_keeps rows g names k known q clean) ∙ named

  -- ---- calls

  simple_spells : (at : ℕ) (old : List ℕ) (args : tree.Exps A) → IsOther names old → (d : Decl) → CallFinds rows c tree.no_target old args (one d) → SimpleCallSpells begins rows g c at old args stays
  unfolding TargetFinds
  simple_spells at old args other d (inl (ts, have, h)) =
      let f = found_call rows (scope_of c) old ts d h in
      let q = f.0 in
      let found = subst (λ x. FindsMethodNamed rows (scope_of c) old ts (one x)) f.1 h in
      let clean = call_clean rows g names k known (scope_of c) old other ts (method_decl q) found in
      let p = image_method q clean in
      let us = image_types ts in
      let s = here in
      let there = subst (λ (n : List ℕ). FindsMethodNamed after (scope_of c) n ts (one (method_decl q))) (sym f.2) (call_goes rows g names k known (scope_of c) old other ts (one (method_decl q)) found) in
      let image = moved (λ i. IsTaken after (s i) (reference ref.MethodSimple (p i).name None (us i)) (method_decl (p i)) Asked) (call_taken after (scope_of c) q ts there) in
      (q, ts, inl (ts, have, found), have, inl (Asked, image, stays_so old (method_to g q).name (method_name q old clean f.2)))
  simple_spells at old args other d (inr (lacks, is)) = absurd (one_nothing d is)

  pub simple_call_stays : (role : Role) (base : ℕ) (m : A) (w : tree.Word A) (args : tree.Exps A) → SoundItself begins rows c role base (tree.call m tree.no_target w args) → IsOther names w.text
      → ExpSpells begins rows g c role base (tree.call m tree.no_target w args) stays
  simple_call_stays role base m w args none other =
      let o = the_one (target_found rows c tree.no_target w.text (types_of rows c args)) (CallFinds rows c tree.no_target w.text args) ((known.bound c).calls tree.no_target w.text args)
      (λ f h. one_found begins rows c role base (tree.call m tree.no_target w args) none (word_at begins m base w) method f (refl, refl, h)) in
      simple_spells (word_at begins m base w) w.text args other o.0 o.1

  module _ (role : Role) (base : ℕ) (m : A) (e : tree.Exp A) (w : tree.Word A) (args : tree.Exps A) (none : SoundItself begins rows c role base (tree.call m (tree.on e) w args)) (other : IsOther names w.text) (avoids : AvoidsExp names e) where
    call_spells : (d : Decl) → CallFinds rows c (tree.on e) w.text args (one d) → CallSpells begins rows g c (word_at begins m base w) e w.text args stays
    unfolding TargetFinds
    call_spells d (inl (o, inl named, inl (ts, have, h))) =
        let f = found_method rows (scope_of c) o w.text ts d h in
        let q = f.0 in
        let found = subst (λ x. FindsMethodOf rows (scope_of c) o w.text ts (one x)) f.1 h in
        let clean = method_clean rows g names k known (scope_of c) w.text other o ts (method_decl q) found in
        let p = image_method q clean in
        let r = of_image o in
        let us = image_types ts in
        let s = here in
        let there = subst (λ (n : List ℕ). FindsMethodOf after (scope_of c) o n ts (one (method_decl q))) (sym f.2) (method_goes rows g names k known (scope_of c) w.text other o ts (one (method_decl q)) found) in
        let row = method_row rows (scope_of c) o w.text ts q found in
        let same = ap method_decl (method_keeps rows g names k known q clean) in
        let taken = static_method_taken after (scope_of c) o q ts there
        (λ x. none (word_at begins m base w) rule.InstanceThroughType (refl, (method_decl q, (inl (o, inl named, inl (ts, have, found)), (o, named)), word_back rows g names k known (method_decl q) same row is_static_word false x))) in
        let image = moved (λ i. IsTaken after (s i) (behind_words (class_name (r i)) (reference ref.ThroughClass (p i).name (operand_of (r i)) (us i))) (method_decl (p i)) Asked) taken in (
          q,
          ts,
          inl (o, inl named, inl (ts, have, found)),
          have,
          inl (o, named, (class_name (class_to g o), words_stand begins rows g names k known c within e avoids o named, inl (Asked, image, stays_so w.text (method_to g q).name (method_name q w.text clean f.2)))),
        )
    call_spells d (inl (o, inr (no_name, has), inl (ts, have, h))) =
        let f = found_method rows (scope_of c) o w.text ts d h in
        let q = f.0 in
        let found = subst (λ x. FindsMethodOf rows (scope_of c) o w.text ts (one x)) f.1 h in
        let clean = method_clean rows g names k known (scope_of c) w.text other o ts (method_decl q) found in
        let p = image_method q clean in
        let r = of_image o in
        let us = image_types ts in
        let s = here in
        let there = subst (λ (n : List ℕ). FindsMethodOf after (scope_of c) o n ts (one (method_decl q))) (sym f.2) (method_goes rows g names k known (scope_of c) w.text other o ts (one (method_decl q)) found) in
        let row = method_row rows (scope_of c) o w.text ts q found in
        let same = ap method_decl (method_keeps rows g names k known q clean) in
        let taken = method_taken after (scope_of c) o q ts there
        (λ x. none (word_at begins m base w) rule.StaticThroughValue (refl, (method_decl q, (inl (o, inr (no_name, has), inl (ts, have, found)), no_name), word_back rows g names k known (method_decl q) same row is_static_word true x))) in
        let image = moved (λ i. IsTaken after (s i) (reference ref.MethodOn (p i).name (operand_of (r i)) (us i)) (method_decl (p i)) Asked) taken in
        (q, ts, inl (o, inr (no_name, has), inl (ts, have, found)), have, inr (no_name, (o, has, inl (Asked, image, stays_so w.text (method_to g q).name (method_name q w.text clean f.2)))))
    call_spells d (inl (o, on, inr (lacks, is))) = absurd (one_nothing d is)
    call_spells d (inr (lacks, is)) = absurd (one_nothing d is)

    pub call_stays : ExpSpells begins rows g c role base (tree.call m (tree.on e) w args) stays
    call_stays =
        let o = the_one (target_found rows c (tree.on e) w.text (types_of rows c args)) (CallFinds rows c (tree.on e) w.text args) ((known.bound c).calls (tree.on e) w.text args)
        (λ f h. one_found begins rows c role base (tree.call m (tree.on e) w args) none (word_at begins m base w) method f (refl, refl, h)) in
        call_spells o.0 o.1

  -- behind `super`
  pub super_call_stays : (role : Role) (base : ℕ) (m : A) (w : tree.Word A) (args : tree.Exps A) → SoundItself begins rows c role base (tree.super_call m w args) → IsOther names w.text
      → ExpSpells begins rows g c role base (tree.super_call m w args) stays
  super_call_stays role base m w args none other =
      let o = the_one (call_found rows c (own_superclass rows c) w.text (types_of rows c args)) (SuperCallFinds rows c w.text args) ((known.bound c).super_calls w.text args)
      (λ f h. one_found begins rows c role base (tree.super_call m w args) none (word_at begins m base w) method f (refl, refl, h)) in
      by o.0 o.1
    where
      by : (d : Decl) → SuperCallFinds rows c w.text args (one d) → SuperCallSpells begins rows g c (word_at begins m base w) w.text args stays
      by d (inl (o, is, inl (ts, have, h))) =
          let f = found_method rows (scope_of c) o w.text ts d h in
          let q = f.0 in
          let found = subst (λ x. FindsMethodOf rows (scope_of c) o w.text ts (one x)) f.1 h in
          let clean = method_clean rows g names k known (scope_of c) w.text other o ts (method_decl q) found in
          let p = image_method q clean in
          let us = image_types ts in
          let s = here in
          let there = subst (λ (n : List ℕ). FindsMethodOf after (scope_of c) o n ts (one (method_decl q))) (sym f.2) (method_goes rows g names k known (scope_of c) w.text other o ts (one (method_decl q)) found) in
          let row = method_row rows (scope_of c) o w.text ts q found in
          let same = ap method_decl (method_keeps rows g names k known q clean) in
          let object = object_there begins rows c role base (tree.super_call m w args) (begins m base) refl none in
          let taken = super_method_taken after (scope_of c) o q ts object (superclass_goes rows g names k known (scope_of c).class o is) there
          (λ x. none (word_at begins m base w) rule.StaticThroughValue (refl, (method_decl q, inl (o, is, inl (ts, have, found)), word_back rows g names k known (method_decl q) same row is_static_word true x))) in
          let image = moved (λ i. IsTaken after (s i) (reference ref.AsAsked (p i).name None (us i)) (method_decl (p i)) Asked) taken in
          (q, ts, inl (o, is, inl (ts, have, found)), have, inl (Asked, image, stays_so w.text (method_to g q).name (method_name q w.text clean f.2)))
      by d (inl (o, is, inr (lacks, e))) = absurd (one_nothing d e)
      by d (inr (lacks, e)) = absurd (one_nothing d e)

  -- ---- constructors

  pub creation_stays : (role : Role) (base : ℕ) (m : A) (t : tree.TypeName A) (args : tree.Exps A) → SoundItself begins rows c role base (tree.create m t args) → CreationSpells begins rows g c base (tree.create m t args) stays
  creation_stays role base m t args none =
      let o = the_one (ctor_found rows c (created_class rows c t) (types_of rows c args)) (CreationFinds rows c t args) ((known.bound c).creations t args)
      (λ f h. one_found begins rows c role base (tree.create m t args) none (begins m base) method f (inl (refl, refl, h))) in
      by o.0 o.1
    where
      by : (d : Decl) → CreationFinds rows c t args (one d) → CreationSpells begins rows g c base (tree.create m t args) stays
      by d (inl (o, is, inl (ts, have, h))) =
          let f = found_ctor rows (scope_of c) o ts d h in
          let q = f.0 in
          let found = subst (λ x. FindsCtorOf rows (scope_of c) o ts (one x)) f.1 h in
          let p = image_ctor q in
          let r = of_image o in
          let us = image_types ts in
          let s = here in
          let there = ctor_goes rows g names k known (scope_of c) o ts (one (constructor_decl q)) found in
          let image = moved (λ i. IsTaken after (s i) (reference ref.AsAsked [] (operand_of (r i)) (us i)) (constructor_decl (p i)) Asked) (ctor_taken after (scope_of c) o q ts there) in
          (o, q, ts, is, inl (o, is, inl (ts, have, found)), have, inl (Asked, image, stays_so [] [] refl))
      by d (inl (o, is, inr (lacks, e))) = absurd (one_nothing d e)
      by d (inr (lacks, e)) = absurd (one_nothing d e)

  -- a written `super(..)`, which finds something that is accessible
  module _ (at : ℕ) (args : tree.Exps A) (some : SuperCtorFinds rows c args nothing → ⊥) (single : (d e : Decl) → SuperCtorFinds rows c args (many d e) → ⊥) (seen : (d : Decl) → SuperCtorFinds rows c args (not_accessible d) → ⊥) where
    super_ctor_spells : (o : ClassKey) (ts : List Ty) → IsSuperclass rows (scope_of c).class o → HaveTypes rows c args ts → (f : Found) → FindsCtorOf rows (scope_of c) o ts f → SuperCtorSpells begins rows g at c args stays
    super_ctor_spells o ts is have (one d) h =
        let f = found_ctor rows (scope_of c) o ts d h in
        let q = f.0 in
        let found = subst (λ x. FindsCtorOf rows (scope_of c) o ts (one x)) f.1 h in
        let p = image_ctor q in
        let us = image_types ts in
        let s = here in
        let there = ctor_goes rows g names k known (scope_of c) o ts (one (constructor_decl q)) found in
        let image = moved (λ i. IsTaken after (s i) (reference ref.AsAsked [] None (us i)) (constructor_decl (p i)) Asked) (super_ctor_taken after (scope_of c) o q ts (superclass_goes rows g names k known (scope_of c).class o is) there) in
        (q, ts, inl (o, is, inl (ts, have, found)), have, inl (Asked, image, stays_so [] [] refl))
    super_ctor_spells o ts is have nothing h = absurd (some (inl (o, is, inl (ts, have, h))))
    super_ctor_spells o ts is have (many d e) h = absurd (single d e (inl (o, is, inl (ts, have, h))))
    super_ctor_spells o ts is have (not_accessible d) h = absurd (seen d (inl (o, is, inl (ts, have, h))))
    super_ctor_spells o ts is have (from_static d) h = absurd (static_ctor rows (scope_of c) o ts d h)

    pub super_ctor_stays : SuperCtorSpells begins rows g at c args stays
    super_ctor_stays = by (own_superclass rows c) refl (args_typed rows c (known.bound c) args)
      where
        by : (o : Option ClassKey) → own_superclass rows c ≡ o → AreTyped rows c args → SuperCtorSpells begins rows g at c args stays
        by (Some o) is (inl (ts, have)) = super_ctor_spells o ts ((own_super_iff rows known.are known.keys c o).0 is) have (find_ctor_of rows (scope_of c) o ts) ((known.keys.ctor_of (scope_of c) o ts (find_ctor_of rows (scope_of c) o ts)).0 refl)
        by (Some o) is (inr never) = absurd (some (inl (o, (own_super_iff rows known.are known.keys c o).0 is, inr (never, refl))))
        by None is typed = absurd (some (inr ((λ o h. let p : None ≡ Some o = sym is ∙ (own_super_iff rows known.are known.keys c o).1 h in absurd cc), refl)))
