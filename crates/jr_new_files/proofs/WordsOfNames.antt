-- Names of variables and fields stay, and those of classes in front of a dot.
use Rattle.std.proofs.Common.{◌≡◌, ℕ, List, [], Option, Some, None, true, false, refl, sym, ap, subst, ◌∙◌, inl, inr}
use Rattle.std.specs.Prelude.{◌⊎◌}
use Rattle.jr_ast.specs.Tree as tree
use Rattle.jr_table.specs.declared.rules.Rule.TheVariants as rule
use Rattle.jr_table.specs.Keys.{ClassKey, FieldKey}
use Rattle.jr_table.specs.Decls.{MemberKey, LocalKey, Decl, class_decl, field_decl, local_decl}
use Rattle.jr_table.specs.Rows.{Row}
use Rattle.jr_table.specs.Entries.{is_static_word}
use Rattle.jr_table.specs.Found.{Found, one, nothing, many, not_accessible, from_static}
use Rattle.jr_table.specs.Scope.{FindsLocal}
use Rattle.jr_table.specs.Lookup.{FindsVariable, FindsTypeNamed, FindsTypeOf, FindsFieldIn, find_variable, find_type_named, find_type_of, find_field_in}
use Rattle.jr_table.specs.Context.{Context, scope_of}
use Rattle.jr_table.specs.Binding.{Role, value, left, statement, variable, type, IsClassName, FieldFinds, SuperFieldFinds, word_at}
use Rattle.jr_table.specs.Meanings.{class_name_of, class_on, field_found, own_superclass}
use Rattle.jr_spell.specs.declared.references.RefForm.TheVariants as ref
use Rattle.jr_spell.specs.declared.spellings.Form.TheVariants.{Asked}
use Rattle.jr_spell.specs.Binds.{LeadsTo, LeadsIn}
use Rattle.jr_spell.specs.Taken.{IsTaken}
use Rattle.jr_rewrite.specs.Respellings.{stays}
use Rattle.jr_mentions.specs.Apart.{IsOther}
use Rattle.jr_mentions.specs.Avoids.{AvoidsExp, AvoidsTarget, AvoidsRow}
use Rattle.jr_images.specs.Images.{Renaming, name_to, class_to, field_to, local_to, rows_to, scope_to}
use Rattle.jr_images.specs.Words.{class_name, FirstStands, NextStands, WordsStand}
use Rattle.jr_images.specs.Spelling.{reference, behind_words, operand_of, LocalSpells, OwnFieldSpells, VariableSpells, FieldSpells, SuperFieldSpells, ExpSpells}
use Rattle.jr_images.proofs.KeyImages.{keeps_name}
use Rattle.jr_new_files.proofs.ImagesStay.{IsWithin, found_own, local_kept, local_same, scope_same}
use Rattle.jr_new_files.proofs.Unmoved.{stays_so}
use Rattle.jr_new_files.proofs.Namesakes.{IsField, found_variable, found_field, found_type, found_inner, type_named, inner_named, field_row}
use Rattle.jr_new_files.proofs.Passing.{Known, variable_goes, variable_clean, field_goes, field_clean, type_goes, inner_goes, class_keeps, field_keeps, superclass_goes, word_back}
use Rattle.jr_new_files.proofs.AskedBinds.{local_taken, variable_taken, field_taken, static_field_taken, super_field_taken, front_taken, inner_front_taken}
use Rattle.jr_new_files.proofs.NothingBroken.{IsOne, the_one, one_found, object_there, SoundItself}
use Rattle.jr_new_files.proofs.WordsOfTypes.{moved}

never_one : (f : Found) → f ≡ nothing → IsOne f → ⊥
never_one f e (d, is) = let p : nothing ≡ one d = sym e ∙ is in absurd cc

not_many : (d e : Decl) → IsOne (many d e) → ⊥
not_many d e (x, is) = absurd cc

not_seen : (d : Decl) → IsOne (not_accessible d) → ⊥
not_seen d (x, is) = absurd cc

not_static : (d : Decl) → IsOne (from_static d) → ⊥
not_static d (x, is) = absurd cc

pub one_nothing : (d : Decl) → one d ≡ nothing → ⊥
one_nothing d e = absurd cc

no_class : (q : ClassKey) (f : FieldKey) → class_decl q ≡ field_decl f → ⊥
no_class q f e = absurd cc

no_class_local : (q : ClassKey) (f : LocalKey) → class_decl q ≡ local_decl f → ⊥
no_class_local q f e = absurd cc

module _ {A : Type 0} (begins : A → ℕ → ℕ) (rows : List Row) (g : Renaming) (names : List (List ℕ)) (k : MemberKey) (known : Known A rows g names k) (c : Context) (within : IsWithin k c) where
  abbrev after : List Row
  after = rows_to g rows

  pub place : scope_of c ≡ scope_to g c
  place = sym (scope_same g names k known.spared known.own c within)

  pub image_class : (q : ClassKey) → q ≡ class_to g q
  image_class q = sym (class_keeps rows g names k known q)

  -- ---- variables

  local_spells : (at : ℕ) (old : List ℕ) (q : LocalKey) → FindsLocal (scope_of c).locals old q → LocalSpells begins rows g c at old q stays
  local_spells at old q finds =
      let own = found_own k c within old q finds in
      let n : old ≡ name_to g (local_decl q) old = sym (keeps_name g (local_decl q) old (local_kept g names k known.spared known.own q own)) in
      let p : q ≡ local_to g q = sym (local_same g names k known.spared known.own q own) in
      let s = place in
      let there : FindsVariable after (scope_of c) old (one (local_decl q)) = inl (q, finds, refl) in
      let image = moved (λ i. IsTaken after (s i) (reference ref.AsAsked (n i) None []) (local_decl (p i)) Asked) (local_taken after (scope_of c) old q there) in
      (inl (q, finds, refl), inl (Asked, image, stays_so old (name_to g (local_decl q) old) (sym n)))

  -- a field keeps its name
  image_field : (q : FieldKey) → IsOther names q.name → q ≡ field_to g q
  image_field q clean = sym (field_keeps rows g names k known q clean)

  field_name : (q : FieldKey) (old : List ℕ) → IsOther names q.name → q.name ≡ old → (field_to g q).name ≡ old
  field_name q old clean named = ap (λ (x : FieldKey). x.name) (field_keeps rows g names k known q clean) ∙ named

  own_field_spells : (at : ℕ) (old : List ℕ) → IsOther names old → (q : FieldKey) → q.name ≡ old → FindsVariable rows (scope_of c) old (one (field_decl q)) → OwnFieldSpells begins rows g c at old q stays
  own_field_spells at old other q named h =
      let clean = variable_clean rows g names k known (scope_of c) old other (field_decl q) h in
      let p = image_field q clean in
      let s = place in
      let there = subst (λ (n : List ℕ). FindsVariable after (scope_of c) n (one (field_decl q))) (sym named) (variable_goes rows g names k known (scope_of c) old other (one (field_decl q)) h) in
      let image = moved (λ i. IsTaken after (s i) (reference ref.FieldSimple (p i).name None []) (field_decl (p i)) Asked) (variable_taken after (scope_of c) q there) in
      (h, inl (Asked, image, stays_so old (field_to g q).name (field_name q old clean named)))

  variable_spells : (at : ℕ) (old : List ℕ) → IsOther names old → (d : Decl) → FindsVariable rows (scope_of c) old (one d) → VariableSpells begins rows g c at old stays
  variable_spells at old other d h = by (found_variable rows (scope_of c) old d h)
    where
      by : (((q : LocalKey) × (d ≡ local_decl q) × FindsLocal (scope_of c).locals old q) ⊎ IsField old d) → VariableSpells begins rows g c at old stays
      by (inl (q, is, finds)) = inl (q, local_spells at old q finds)
      by (inr (q, is, named)) = inr (q, own_field_spells at old other q named (subst (λ x. FindsVariable rows (scope_of c) old (one x)) is h))

  -- ---- classes in front of a dot

  first_leads : (old : List ℕ) → IsOther names old → (q : ClassKey) → FindsVariable rows (scope_of c) old nothing → FindsTypeNamed rows (scope_of c) old (one (class_decl q))
      → LeadsTo after (scope_to g c) None (class_to g q).name (class_to g q)
  first_leads old other q none h =
      let n : old ≡ q.name = sym (type_named rows (scope_of c) old q h) in
      let p = image_class q in
      let s = place in
      let own : LeadsTo after (scope_of c) None old q = (variable_goes rows g names k known (scope_of c) old other nothing none, type_goes rows g names k known (scope_of c) old (one (class_decl q)) h) in
      moved (λ i. LeadsTo after (s i) None (p i).name (p i)) (moved (λ i. LeadsTo after (scope_of c) None (n i) q) own)

  behind_leads : (o : ClassKey) (old : List ℕ) → IsOther names old → (q : ClassKey) → FindsFieldIn rows (scope_of c) o old nothing → FindsTypeOf rows (scope_of c) o old (one (class_decl q))
      → LeadsIn after (scope_to g c) (class_to g o) (class_to g q).name (class_to g q)
  behind_leads o old other q none h =
      let n : old ≡ q.name = sym (inner_named rows (scope_of c) o old q h) in
      let p = image_class q in
      let r = image_class o in
      let s = place in
      let own : LeadsIn after (scope_of c) o old q = (field_goes rows g names k known (scope_of c) old other o nothing none, inner_goes rows g names k known (scope_of c) o old (one (class_decl q)) h) in
      moved (λ i. LeadsIn after (s i) (r i) (p i).name (p i)) (moved (λ i. LeadsIn after (scope_of c) o (n i) q) own)

  class_named : (q : ClassKey) (old : List ℕ) → q.name ≡ old → (class_to g q).name ≡ old
  class_named q old named = ap (λ (x : ClassKey). x.name) (class_keeps rows g names k known q) ∙ named

  -- so they stand as its image's name
  first_stands : (old : List ℕ) → IsOther names old → (q : ClassKey) → FindsVariable rows (scope_of c) old nothing → FindsTypeNamed rows (scope_of c) old (one (class_decl q)) → FirstStands rows g c q (class_name (class_to g q))
  first_stands old other q none h = (one (class_decl (class_to g q)), inr (first_leads old other q none h), refl)

  next_stands : (o : ClassKey) (old : List ℕ) → IsOther names old → (q : ClassKey) → FindsFieldIn rows (scope_of c) o old nothing → FindsTypeOf rows (scope_of c) o old (one (class_decl q))
      → NextStands rows g c (class_name (class_to g o)) q (class_name (class_to g q))
  next_stands o old other q none h = (one (class_decl (class_to g q)), inr (behind_leads o old other q none h), refl)

  -- the words of a class in front of a dot
  pub words_stand : (e : tree.Exp A) → AvoidsExp names e → (q : ClassKey) → IsClassName rows c e q → WordsStand rows g c e q (class_name (class_to g q))
  unfolding IsClassName AvoidsExp AvoidsTarget AvoidsRow
  words_stand (tree.name m w) other q (inl (h, some)) = absurd (by (found_variable rows (scope_of c) w.text (class_decl q) h))
    where
      by : (((f : LocalKey) × (class_decl q ≡ local_decl f) × FindsLocal (scope_of c).locals w.text f) ⊎ IsField w.text (class_decl q)) → ⊥
      by (inl (f, is, finds)) = no_class_local q f is
      by (inr (f, is, named)) = no_class q f is
  words_stand (tree.name m w) other q (inr (none, h)) = first_stands w.text other q none h
  words_stand (tree.field m e w) avoids q (o, named, inl (h, some)) = let f = found_field rows (scope_of c) o w.text (class_decl q) h in absurd (no_class q f.0 f.1)
  words_stand (tree.field m e w) avoids q (o, named, inr (none, h)) = (o, named, class_name (class_to g o), words_stand e avoids.0 o named, next_stands o w.text avoids.1 q none h)
  words_stand (tree.number m n) avoids q h = absurd h
  words_stand (tree.truth m b) avoids q h = absurd h
  words_stand (tree.null m) avoids q h = absurd h
  words_stand (tree.string m t) avoids q h = absurd h
  words_stand (tree.super_field m w) avoids q h = absurd h
  words_stand (tree.this m) avoids q h = absurd h
  words_stand (tree.class_literal m t) avoids q h = absurd h
  words_stand (tree.call m to w args) avoids q h = absurd h
  words_stand (tree.super_call m w args) avoids q h = absurd h
  words_stand (tree.create m t args) avoids q h = absurd h
  words_stand (tree.paren m e) avoids q h = absurd h
  words_stand (tree.cast m t e) avoids q h = absurd h
  words_stand (tree.unary m op e) avoids q h = absurd h
  words_stand (tree.bump m op e) avoids q h = absurd h
  words_stand (tree.binary m op x y) avoids q h = absurd h
  words_stand (tree.assign m x y) avoids q h = absurd h
  words_stand (tree.compound m op x y) avoids q h = absurd h

  -- ---- simple names

  pub name_spells : (role : Role) (base : ℕ) (m : A) (w : tree.Word A) → SoundItself begins rows c role base (tree.name m w) → IsOther names w.text → ExpSpells begins rows g c role base (tree.name m w) stays
  name_spells value base m w none other =
      let o = the_one (find_variable rows (scope_of c) w.text) (FindsVariable rows (scope_of c) w.text) (known.keys.variable (scope_of c) w.text)
      (λ f h. one_found begins rows c value base (tree.name m w) none (word_at begins m base w) variable f (refl, (refl, h))) in
      inl (variable_spells (word_at begins m base w) w.text other o.0 o.1)
  name_spells statement base m w none other =
      let o = the_one (find_variable rows (scope_of c) w.text) (FindsVariable rows (scope_of c) w.text) (known.keys.variable (scope_of c) w.text)
      (λ f h. one_found begins rows c statement base (tree.name m w) none (word_at begins m base w) variable f (refl, (refl, h))) in
      inl (variable_spells (word_at begins m base w) w.text other o.0 o.1)
  name_spells left base m w none other = by (find_variable rows (scope_of c) w.text) ((known.keys.variable (scope_of c) w.text (find_variable rows (scope_of c) w.text)).0 refl)
    where
      by : (f : Found) → FindsVariable rows (scope_of c) w.text f → ExpSpells begins rows g c left base (tree.name m w) stays
      by (one d) h = inl (variable_spells (word_at begins m base w) w.text other d h)
      by nothing h =
          let o = the_one (find_type_named rows (scope_of c) w.text) (FindsTypeNamed rows (scope_of c) w.text) (known.keys.type_named (scope_of c) w.text)
          (λ f x. one_found begins rows c left base (tree.name m w) none (word_at begins m base w) type f (refl, (refl, inr (h, x)))) in
          let q = found_type rows (scope_of c) w.text o.0 o.1 in
          let is = subst (λ x. FindsTypeNamed rows (scope_of c) w.text (one x)) q.1 o.1 in
          inr (q.0, h, is, class_name (class_to g q.0), first_stands w.text other q.0 h is, inl (Asked, front_taken after (scope_to g c) (class_to g q.0), stays_so w.text (class_to g q.0).name (class_named q.0 w.text q.2)))
      by (many d e) h = absurd (not_many d e (one_found begins rows c left base (tree.name m w) none (word_at begins m base w) type (many d e) (refl, (refl, inl (h, λ x. absurd cc)))))
      by (not_accessible d) h = absurd (not_seen d (one_found begins rows c left base (tree.name m w) none (word_at begins m base w) type (not_accessible d) (refl, (refl, inl (h, λ x. absurd cc)))))
      by (from_static d) h = absurd (not_static d (one_found begins rows c left base (tree.name m w) none (word_at begins m base w) type (from_static d) (refl, (refl, inl (h, λ x. absurd cc)))))

  -- ---- fields

  module _ (role : Role) (base : ℕ) (m : A) (e : tree.Exp A) (w : tree.Word A) (none : SoundItself begins rows c role base (tree.field m e w)) (other : IsOther names w.text) (avoids : AvoidsExp names e) where
    at_word : ℕ
    at_word = word_at begins m base w

    field_spells : (d : Decl) → FieldFinds rows c e w.text (one d) → FieldSpells begins rows g c (word_at begins m base w) e w.text stays
    field_spells d (inl (o, inl named, h)) =
        let f = found_field rows (scope_of c) o w.text d h in
        let q = f.0 in
        let found = subst (λ x. FindsFieldIn rows (scope_of c) o w.text (one x)) f.1 h in
        let clean = field_clean rows g names k known (scope_of c) w.text other o (field_decl q) found in
        let p = image_field q clean in
        let r = image_class o in
        let s = place in
        let there = subst (λ (n : List ℕ). FindsFieldIn after (scope_of c) o n (one (field_decl q))) (sym f.2) (field_goes rows g names k known (scope_of c) w.text other o (one (field_decl q)) found) in
        let row = field_row rows (scope_of c) o w.text q found in
        let same = ap field_decl (field_keeps rows g names k known q clean) in
        let taken = static_field_taken after (scope_of c) o q there (λ x. none (word_at begins m base w) rule.InstanceThroughType (refl, (field_decl q, (inl (o, inl named, found), (o, named)), word_back rows g names k known (field_decl q) same row is_static_word false x))) in
        let image = moved (λ i. IsTaken after (s i) (behind_words (class_name (r i)) (reference ref.ThroughClass (p i).name (operand_of (r i)) [])) (field_decl (p i)) Asked) taken in
        (q, inl (o, inl named, found), inl (o, named, (class_name (class_to g o), words_stand e avoids o named, inl (Asked, image, stays_so w.text (field_to g q).name (field_name q w.text clean f.2)))))
    field_spells d (inl (o, inr (no_name, has), h)) =
        let f = found_field rows (scope_of c) o w.text d h in
        let q = f.0 in
        let found = subst (λ x. FindsFieldIn rows (scope_of c) o w.text (one x)) f.1 h in
        let clean = field_clean rows g names k known (scope_of c) w.text other o (field_decl q) found in
        let p = image_field q clean in
        let r = image_class o in
        let s = place in
        let there = subst (λ (n : List ℕ). FindsFieldIn after (scope_of c) o n (one (field_decl q))) (sym f.2) (field_goes rows g names k known (scope_of c) w.text other o (one (field_decl q)) found) in
        let row = field_row rows (scope_of c) o w.text q found in
        let same = ap field_decl (field_keeps rows g names k known q clean) in
        let taken = field_taken after (scope_of c) o q there (λ x. none (word_at begins m base w) rule.StaticThroughValue (refl, (field_decl q, (inl (o, inr (no_name, has), found), no_name), word_back rows g names k known (field_decl q) same row is_static_word true x))) in
        let image = moved (λ i. IsTaken after (s i) (reference ref.FieldOn (p i).name (operand_of (r i)) []) (field_decl (p i)) Asked) taken in
        (q, inl (o, inr (no_name, has), found), inr (no_name, (o, has, inl (Asked, image, stays_so w.text (field_to g q).name (field_name q w.text clean f.2)))))
    field_spells d (inr (lacks, is)) = absurd (one_nothing d is)

    -- where every role finds the field
    on_field : ((f : Found) → FieldFinds rows c e w.text f → IsOne f) → ExpSpells begins rows g c role base (tree.field m e w) stays
    on_field bound =
        let o = the_one (field_found rows c (class_on rows c e) w.text) (FieldFinds rows c e w.text) ((known.bound c).fields e w.text) bound in
        inl (field_spells o.0 o.1)

  pub field_stays : (role : Role) (base : ℕ) (m : A) (e : tree.Exp A) (w : tree.Word A) → SoundItself begins rows c role base (tree.field m e w) → IsOther names w.text → AvoidsExp names e → ExpSpells begins rows g c role base (tree.field m e w) stays
  field_stays value base m e w none other avoids =
      on_field value base m e w none other avoids (λ f h. one_found begins rows c value base (tree.field m e w) none (word_at begins m base w) variable f (refl, (refl, h)))
  field_stays statement base m e w none other avoids =
      on_field statement base m e w none other avoids (λ f h. one_found begins rows c statement base (tree.field m e w) none (word_at begins m base w) variable f (refl, (refl, h)))
  field_stays left base m e w none other avoids = by (class_name_of rows c e) refl
    where
      on_class : (o : ClassKey) → IsClassName rows c e o → (f : Found) → FindsFieldIn rows (scope_of c) o w.text f → ExpSpells begins rows g c left base (tree.field m e w) stays
      on_class o named (one d) h = inl (field_spells left base m e w none other avoids d (inl (o, inl named, h)))
      on_class o named nothing h =
          let t = the_one (find_type_of rows (scope_of c) o w.text) (FindsTypeOf rows (scope_of c) o w.text) (known.keys.type_of (scope_of c) o w.text)
          (λ f x. one_found begins rows c left base (tree.field m e w) none (word_at begins m base w) type f (refl, inl (o, named, refl, inr (h, x)))) in
          let q = found_inner rows (scope_of c) o w.text t.0 t.1 in
          let is = subst (λ x. FindsTypeOf rows (scope_of c) o w.text (one x)) q.1 t.1 in
          let taken = inner_front_taken after (scope_to g c) (class_to g o) (class_to g q.0) (behind_leads o w.text other q.0 h is) in
          inr (o, q.0, named, h, is, class_name (class_to g o), words_stand e avoids o named, class_name (class_to g q.0), next_stands o w.text other q.0 h is, inl (Asked, taken, stays_so w.text (class_to g q.0).name (class_named q.0 w.text q.2)))
      on_class o named (many d x) h = absurd (not_many d x (one_found begins rows c left base (tree.field m e w) none (word_at begins m base w) type (many d x) (refl, inl (o, named, refl, inl (h, λ y. absurd cc)))))
      on_class o named (not_accessible d) h = absurd (not_seen d (one_found begins rows c left base (tree.field m e w) none (word_at begins m base w) type (not_accessible d) (refl, inl (o, named, refl, inl (h, λ y. absurd cc)))))
      on_class o named (from_static d) h = absurd (not_static d (one_found begins rows c left base (tree.field m e w) none (word_at begins m base w) type (from_static d) (refl, inl (o, named, refl, inl (h, λ y. absurd cc)))))

      no_name : class_name_of rows c e ≡ None → (o : ClassKey) → IsClassName rows c e o → ⊥
      no_name is o named = let p : None ≡ Some o = sym is ∙ ((known.bound c).names e o).1 named in absurd cc

      by : (o : Option ClassKey) → class_name_of rows c e ≡ o → ExpSpells begins rows g c left base (tree.field m e w) stays
      by (Some o) is = on_class o (((known.bound c).names e o).0 is) (find_field_in rows (scope_of c) o w.text) ((known.keys.field_in (scope_of c) o w.text (find_field_in rows (scope_of c) o w.text)).0 refl)
      by None is = on_field left base m e w none other avoids (λ f h. one_found begins rows c left base (tree.field m e w) none (word_at begins m base w) variable f (refl, inr (no_name is, refl, h)))

  -- ---- fields behind `super`

  pub super_field_stays : (role : Role) (base : ℕ) (m : A) (w : tree.Word A) → SoundItself begins rows c role base (tree.super_field m w) → IsOther names w.text → ExpSpells begins rows g c role base (tree.super_field m w) stays
  super_field_stays role base m w none other =
      let o = the_one (field_found rows c (own_superclass rows c) w.text) (SuperFieldFinds rows c w.text) ((known.bound c).super_fields w.text)
      (λ f h. one_found begins rows c role base (tree.super_field m w) none (word_at begins m base w) variable f (refl, refl, h)) in
      by o.0 o.1
    where
      by : (d : Decl) → SuperFieldFinds rows c w.text (one d) → SuperFieldSpells begins rows g c (word_at begins m base w) w.text stays
      by d (inl (o, is, h)) =
          let f = found_field rows (scope_of c) o w.text d h in
          let q = f.0 in
          let found = subst (λ x. FindsFieldIn rows (scope_of c) o w.text (one x)) f.1 h in
          let clean = field_clean rows g names k known (scope_of c) w.text other o (field_decl q) found in
          let p = image_field q clean in
          let s = place in
          let there = subst (λ (n : List ℕ). FindsFieldIn after (scope_of c) o n (one (field_decl q))) (sym f.2) (field_goes rows g names k known (scope_of c) w.text other o (one (field_decl q)) found) in
          let row = field_row rows (scope_of c) o w.text q found in
          let same = ap field_decl (field_keeps rows g names k known q clean) in
          let object = object_there begins rows c role base (tree.super_field m w) (begins m base) refl none in
          let taken = super_field_taken after (scope_of c) o q object (superclass_goes rows g names k known (scope_of c).class o is) there
          (λ x. none (word_at begins m base w) rule.StaticThroughValue (refl, (field_decl q, inl (o, is, found), word_back rows g names k known (field_decl q) same row is_static_word true x))) in
          let image = moved (λ i. IsTaken after (s i) (reference ref.FieldSuper (p i).name None []) (field_decl (p i)) Asked) taken in
          (q, inl (o, is, found), inl (Asked, image, stays_so w.text (field_to g q).name (field_name q w.text clean f.2)))
      by d (inr (lacks, is)) = absurd (one_nothing d is)
