-- Names of variables and fields may stay, and those of classes in front of a dot.
use Rattle.std.proofs.Common.{◌≡◌, ℕ, List, [], Option, Some, None, refl, sym, subst, ◌∙◌, inl, inr}
use Rattle.std.specs.Prelude.{◌⊎◌}
use Rattle.jr_ast.specs.Tree as tree
use Rattle.jr_table.specs.declared.rules.Rule.TheVariants as rule
use Rattle.jr_table.specs.Keys.{ClassKey, FieldKey, Ty, class}
use Rattle.jr_table.specs.Decls.{LocalKey, Decl, class_decl, field_decl, local_decl}
use Rattle.jr_table.specs.Rows.{Row}
use Rattle.jr_table.specs.Found.{Found, one, nothing, many, not_accessible, from_static}
use Rattle.jr_table.specs.Scope.{Scope, FindsLocal}
use Rattle.jr_table.specs.Lookup.{FindsVariable, FindsTypeNamed, FindsTypeOf, FindsFieldIn, find_variable, find_type_named, find_type_of, find_field_in}
use Rattle.jr_table.specs.LookupLaws.{KeysAreFound}
use Rattle.jr_table.specs.BindingLaws.{IsBound}
use Rattle.jr_table.specs.Context.{Context, scope_of}
use Rattle.jr_table.specs.Binding.{Role, value, left, statement, variable, type, IsClassName, FieldFinds, SuperFieldFinds, word_at}
use Rattle.jr_table.specs.Meanings.{class_name_of, class_on, field_found, own_superclass}
use Rattle.jr_spell.specs.declared.references.RefForm.TheVariants as ref
use Rattle.jr_spell.specs.declared.spellings.Form.TheVariants.{Asked}
use Rattle.jr_spell.specs.Binds.{LeadsTo, LeadsIn}
use Rattle.jr_spell.specs.Taken.{IsTaken}
use Rattle.jr_rewrite.specs.Respellings.{stays}
use Rattle.jr_images.specs.Regions.{Region}
use Rattle.jr_images.specs.Words.{class_name, FirstWord, NextWord, AreWords}
use Rattle.jr_images.specs.Spelling.{reference, behind_words, operand_of, on_type, FindsOn, OfImage, lost, TakenChoice, LocalChoice, OwnFieldChoice, VariableChoice, FieldChoice, SuperFieldChoice, ExpChoice}
use Rattle.jr_local.specs.Scopes.{scope_with}
use Rattle.jr_new_files.proofs.Namesakes.{IsField, found_variable, found_field, found_type, found_inner, type_named, inner_named}
use Rattle.jr_new_files.proofs.AskedBinds.{local_taken, variable_taken, field_taken, static_field_taken, super_field_taken, front_taken, inner_front_taken}
use Rattle.jr_new_files.proofs.NothingBroken.{IsOne, the_one, one_found, object_there, SoundItself}
use Rattle.jr_untouched_parts.specs.Sights.{SeesTheSame}
use Rattle.jr_untouched_parts.proofs.TypesStay.{keeping, stays_so}

not_many : (d e : Decl) → IsOne (many d e) → ⊥
not_many d e (x, is) = absurd cc

not_seen : (d : Decl) → IsOne (not_accessible d) → ⊥
not_seen d (x, is) = absurd cc

not_static : (d : Decl) → IsOne (from_static d) → ⊥
not_static d (x, is) = absurd cc

pub one_nothing : (d : Decl) → one d ≡ nothing → ⊥
one_nothing d e = absurd cc

no_class : (q : ClassKey) (f : FieldKey) → class_decl q ≡ field_decl f → ⊥
no_class q f e = absurd cc

no_class_local : (q : ClassKey) (f : LocalKey) → class_decl q ≡ local_decl f → ⊥
no_class_local q f e = absurd cc

no_field_local : (q : FieldKey) (f : LocalKey) → one (field_decl q) ≡ one (local_decl f) → ⊥
no_field_local q f e = absurd cc

no_local : (f : LocalKey) → nothing ≡ one (local_decl f) → ⊥
no_local f e = absurd cc

module _ {A : Type 0} (begins : A → ℕ → ℕ) (rows : List Row) (R : Region A) (c : Context) (sees : SeesTheSame R c) where
  abbrev pub there : Scope
  there = scope_with c sees.locals

  pub place : there ≡ R.seen.scope c
  place = sym sees.scope

  abbrev P : Region A
  P = keeping rows R

  -- ---- variables

  local_stays : (at : ℕ) (old : List ℕ) (q : LocalKey) → FindsLocal (scope_of c).locals old q → LocalChoice begins rows P c at old q stays
  local_stays at old q finds =
      let m = sees.found old q finds in
      let own : FindsVariable rows there old (one (local_decl m.0)) = inl (m.0, m.2, refl) in
      let taken = local_taken rows there old m.0 own in
      let image = subst (λ (s : Scope). IsTaken rows s (reference ref.AsAsked old None []) (local_decl m.0) Asked) place taken in
      let Kept : LocalKey → Type 0 = (λ i. TakenChoice begins rows P (R.seen.scope c) at old old (local_decl q) (local_decl i) (reference ref.AsAsked old None []) (FindsVariable rows (R.seen.scope c) old) stays) in
      let Gone : Type 0 = (f : Found) × FindsVariable rows (R.seen.scope c) old f × (stays ≡ lost begins rows P at (local_decl q) f) in
      let kept : Kept m.0 = inl (Asked, image, stays_so old old refl) in
      (inl (q, finds, refl), subst (λ (o : Option LocalKey). OfImage o Kept Gone) (sym m.1) kept)

  -- what isn't a local is found as before
  variable_goes : (old : List ℕ) (q : FieldKey) → FindsVariable rows (scope_of c) old (one (field_decl q)) → FindsVariable rows there old (one (field_decl q))
  variable_goes old q (inl (k, finds, e)) = absurd (no_field_local q k e)
  variable_goes old q (inr (none, h)) = inr (sees.none old none, h)

  nothing_goes : (old : List ℕ) → FindsVariable rows (scope_of c) old nothing → FindsVariable rows there old nothing
  nothing_goes old (inl (k, finds, e)) = absurd (no_local k e)
  nothing_goes old (inr (none, h)) = inr (sees.none old none, h)

  own_field_stays : (at : ℕ) (old : List ℕ) (q : FieldKey) → q.name ≡ old → FindsVariable rows (scope_of c) old (one (field_decl q)) → OwnFieldChoice begins rows P c at old q stays
  own_field_stays at old q named h =
      let own = subst (λ (n : List ℕ). FindsVariable rows there n (one (field_decl q))) (sym named) (variable_goes old q h) in
      let image = subst (λ (s : Scope). IsTaken rows s (reference ref.FieldSimple q.name None []) (field_decl q) Asked) place (variable_taken rows there q own) in
      (h, inl (Asked, image, stays_so old q.name named))

  variable_stays : (at : ℕ) (old : List ℕ) (d : Decl) → FindsVariable rows (scope_of c) old (one d) → VariableChoice begins rows P c at old stays
  variable_stays at old d h = by (found_variable rows (scope_of c) old d h)
    where
      by : (((q : LocalKey) × (d ≡ local_decl q) × FindsLocal (scope_of c).locals old q) ⊎ IsField old d) → VariableChoice begins rows P c at old stays
      by (inl (q, is, finds)) = inl (q, local_stays at old q finds)
      by (inr (q, is, named)) = inr (q, own_field_stays at old q named (subst (λ x. FindsVariable rows (scope_of c) old (one x)) is h))

  -- ---- classes in front of a dot

  first_leads : (old : List ℕ) (q : ClassKey) → FindsVariable rows (scope_of c) old nothing → FindsTypeNamed rows (scope_of c) old (one (class_decl q)) → LeadsTo rows (R.seen.scope c) None q.name q
  first_leads old q none h =
      let own : LeadsTo rows there None old q = (nothing_goes old none, h) in
      subst (λ (s : Scope). LeadsTo rows s None q.name q) place (subst (λ (n : List ℕ). LeadsTo rows there None n q) (sym (type_named rows (scope_of c) old q h)) own)

  behind_leads : (o : ClassKey) (old : List ℕ) (q : ClassKey) → FindsFieldIn rows (scope_of c) o old nothing → FindsTypeOf rows (scope_of c) o old (one (class_decl q)) → LeadsIn rows (R.seen.scope c) o q.name q
  behind_leads o old q none h =
      let own : LeadsIn rows there o old q = (none, h) in
      subst (λ (s : Scope). LeadsIn rows s o q.name q) place (subst (λ (n : List ℕ). LeadsIn rows there o n q) (sym (inner_named rows (scope_of c) o old q h)) own)

  -- so they stand as its image's name
  first_stands : (old : List ℕ) (q : ClassKey) → FindsVariable rows (scope_of c) old nothing → FindsTypeNamed rows (scope_of c) old (one (class_decl q)) → FirstWord P.seen c q (class_name q)
  first_stands old q none h = (one (class_decl q), inr (first_leads old q none h), refl)

  next_stands : (o : ClassKey) (old : List ℕ) (q : ClassKey) → FindsFieldIn rows (scope_of c) o old nothing → FindsTypeOf rows (scope_of c) o old (one (class_decl q)) → NextWord P.seen c (class_name o) q (class_name q)
  next_stands o old q none h = (one (class_decl q), inr (behind_leads o old q none h), refl)

  -- the words of a class in front of a dot
  pub words_stand : (e : tree.Exp A) (q : ClassKey) → IsClassName rows c e q → AreWords rows P.seen c e q (class_name q)
  unfolding IsClassName
  words_stand (tree.name m w) q (inl (h, some)) = absurd (by (found_variable rows (scope_of c) w.text (class_decl q) h))
    where
      by : (((f : LocalKey) × (class_decl q ≡ local_decl f) × FindsLocal (scope_of c).locals w.text f) ⊎ IsField w.text (class_decl q)) → ⊥
      by (inl (f, is, finds)) = no_class_local q f is
      by (inr (f, is, named)) = no_class q f is
  words_stand (tree.name m w) q (inr (none, h)) = first_stands w.text q none h
  words_stand (tree.field m e w) q (o, named, inl (h, some)) = let f = found_field rows (scope_of c) o w.text (class_decl q) h in absurd (no_class q f.0 f.1)
  words_stand (tree.field m e w) q (o, named, inr (none, h)) = (o, named, class_name o, words_stand e o named, next_stands o w.text q none h)
  words_stand (tree.number m n) q h = absurd h
  words_stand (tree.truth m b) q h = absurd h
  words_stand (tree.null m) q h = absurd h
  words_stand (tree.string m t) q h = absurd h
  words_stand (tree.super_field m w) q h = absurd h
  words_stand (tree.this m) q h = absurd h
  words_stand (tree.class_literal m t) q h = absurd h
  words_stand (tree.call m to w args) q h = absurd h
  words_stand (tree.super_call m w args) q h = absurd h
  words_stand (tree.create m t args) q h = absurd h
  words_stand (tree.paren m e) q h = absurd h
  words_stand (tree.cast m t e) q h = absurd h
  words_stand (tree.unary m op e) q h = absurd h
  words_stand (tree.bump m op e) q h = absurd h
  words_stand (tree.binary m op x y) q h = absurd h
  words_stand (tree.assign m x y) q h = absurd h
  words_stand (tree.compound m op x y) q h = absurd h

  module _ (keys : KeysAreFound rows) (bound : IsBound A rows c) where
    -- ---- simple names

    pub name_stays : (role : Role) (base : ℕ) (m : A) (w : tree.Word A) → SoundItself begins rows c role base (tree.name m w) → ExpChoice begins rows P c role base (tree.name m w) stays
    name_stays value base m w none =
        let o = the_one (find_variable rows (scope_of c) w.text) (FindsVariable rows (scope_of c) w.text) (keys.variable (scope_of c) w.text)
        (λ f h. one_found begins rows c value base (tree.name m w) none (word_at begins m base w) variable f (refl, (refl, h))) in
        inl (variable_stays (word_at begins m base w) w.text o.0 o.1)
    name_stays statement base m w none =
        let o = the_one (find_variable rows (scope_of c) w.text) (FindsVariable rows (scope_of c) w.text) (keys.variable (scope_of c) w.text)
        (λ f h. one_found begins rows c statement base (tree.name m w) none (word_at begins m base w) variable f (refl, (refl, h))) in
        inl (variable_stays (word_at begins m base w) w.text o.0 o.1)
    name_stays left base m w none = by (find_variable rows (scope_of c) w.text) ((keys.variable (scope_of c) w.text (find_variable rows (scope_of c) w.text)).0 refl)
      where
        by : (f : Found) → FindsVariable rows (scope_of c) w.text f → ExpChoice begins rows P c left base (tree.name m w) stays
        by (one d) h = inl (variable_stays (word_at begins m base w) w.text d h)
        by nothing h =
            let o = the_one (find_type_named rows (scope_of c) w.text) (FindsTypeNamed rows (scope_of c) w.text) (keys.type_named (scope_of c) w.text)
            (λ f x. one_found begins rows c left base (tree.name m w) none (word_at begins m base w) type f (refl, (refl, inr (h, x)))) in
            let q = found_type rows (scope_of c) w.text o.0 o.1 in
            let is = subst (λ x. FindsTypeNamed rows (scope_of c) w.text (one x)) q.1 o.1 in
            inr (q.0, h, is, class_name q.0, first_stands w.text q.0 h is, inl (Asked, front_taken rows (R.seen.scope c) q.0, stays_so w.text q.0.name q.2))
        by (many d e) h = absurd (not_many d e (one_found begins rows c left base (tree.name m w) none (word_at begins m base w) type (many d e) (refl, (refl, inl (h, λ x. absurd cc)))))
        by (not_accessible d) h = absurd (not_seen d (one_found begins rows c left base (tree.name m w) none (word_at begins m base w) type (not_accessible d) (refl, (refl, inl (h, λ x. absurd cc)))))
        by (from_static d) h = absurd (not_static d (one_found begins rows c left base (tree.name m w) none (word_at begins m base w) type (from_static d) (refl, (refl, inl (h, λ x. absurd cc)))))

    -- ---- fields

    module _ (role : Role) (base : ℕ) (m : A) (e : tree.Exp A) (w : tree.Word A) (none : SoundItself begins rows c role base (tree.field m e w)) where
      abbrev OnValue : FieldKey → Ty → Type 0
      OnValue q t = TakenChoice begins rows P (R.seen.scope c) (word_at begins m base w) w.text q.name (field_decl q) (field_decl q) (reference ref.FieldOn q.name (on_type t) []) (FindsOn t (λ k. FindsFieldIn rows (R.seen.scope c) k q.name)) stays

      field_chosen : (d : Decl) → FieldFinds rows c e w.text (one d) → FieldChoice begins rows P c (word_at begins m base w) e w.text stays
      field_chosen d (inl (o, inl named, h)) =
          let f = found_field rows (scope_of c) o w.text d h in
          let q = f.0 in
          let found = subst (λ x. FindsFieldIn rows (scope_of c) o w.text (one x)) f.1 h in
          let own : FindsFieldIn rows there o q.name (one (field_decl q)) = subst (λ (n : List ℕ). FindsFieldIn rows there o n (one (field_decl q))) (sym f.2) found in
          let taken = static_field_taken rows there o q own (λ x. none (word_at begins m base w) rule.InstanceThroughType (refl, (field_decl q, (inl (o, inl named, found), (o, named)), x))) in
          let image = subst (λ (s : Scope). IsTaken rows s (behind_words (class_name o) (reference ref.ThroughClass q.name (operand_of o) [])) (field_decl q) Asked) place taken in
          (q, inl (o, inl named, found), inl (o, named, (class_name o, words_stand e o named, inl (Asked, image, stays_so w.text q.name f.2))))
      field_chosen d (inl (o, inr (no_name, has), h)) =
          let f = found_field rows (scope_of c) o w.text d h in
          let q = f.0 in
          let found = subst (λ x. FindsFieldIn rows (scope_of c) o w.text (one x)) f.1 h in
          let own : FindsFieldIn rows there o q.name (one (field_decl q)) = subst (λ (n : List ℕ). FindsFieldIn rows there o n (one (field_decl q))) (sym f.2) found in
          let taken = field_taken rows there o q own (λ x. none (word_at begins m base w) rule.StaticThroughValue (refl, (field_decl q, (inl (o, inr (no_name, has), found), no_name), x))) in
          let image = subst (λ (s : Scope). IsTaken rows s (reference ref.FieldOn q.name (operand_of o) []) (field_decl q) Asked) place taken in
          let chosen : OnValue q (class o) = inl (Asked, image, stays_so w.text q.name f.2) in
          (q, inl (o, inr (no_name, has), found), inr (no_name, (o, has, subst (OnValue q) (sym (sees.type e (class o))) chosen)))
      field_chosen d (inr (lacks, is)) = absurd (one_nothing d is)

      -- where every role finds the field
      on_field : ((f : Found) → FieldFinds rows c e w.text f → IsOne f) → ExpChoice begins rows P c role base (tree.field m e w) stays
      on_field single =
          let o = the_one (field_found rows c (class_on rows c e) w.text) (FieldFinds rows c e w.text) (bound.fields e w.text) single in
          inl (field_chosen o.0 o.1)

    pub field_stays : (role : Role) (base : ℕ) (m : A) (e : tree.Exp A) (w : tree.Word A) → SoundItself begins rows c role base (tree.field m e w) → ExpChoice begins rows P c role base (tree.field m e w) stays
    field_stays value base m e w none = on_field value base m e w none (λ f h. one_found begins rows c value base (tree.field m e w) none (word_at begins m base w) variable f (refl, (refl, h)))
    field_stays statement base m e w none = on_field statement base m e w none (λ f h. one_found begins rows c statement base (tree.field m e w) none (word_at begins m base w) variable f (refl, (refl, h)))
    field_stays left base m e w none = by (class_name_of rows c e) refl
      where
        on_class : (o : ClassKey) → IsClassName rows c e o → (f : Found) → FindsFieldIn rows (scope_of c) o w.text f → ExpChoice begins rows P c left base (tree.field m e w) stays
        on_class o named (one d) h = inl (field_chosen left base m e w none d (inl (o, inl named, h)))
        on_class o named nothing h =
            let t = the_one (find_type_of rows (scope_of c) o w.text) (FindsTypeOf rows (scope_of c) o w.text) (keys.type_of (scope_of c) o w.text)
            (λ f x. one_found begins rows c left base (tree.field m e w) none (word_at begins m base w) type f (refl, inl (o, named, refl, inr (h, x)))) in
            let q = found_inner rows (scope_of c) o w.text t.0 t.1 in
            let is = subst (λ x. FindsTypeOf rows (scope_of c) o w.text (one x)) q.1 t.1 in
            let taken = inner_front_taken rows (R.seen.scope c) o q.0 (behind_leads o w.text q.0 h is) in
            inr (o, q.0, named, h, is, class_name o, words_stand e o named, class_name q.0, next_stands o w.text q.0 h is, inl (Asked, taken, stays_so w.text q.0.name q.2))
        on_class o named (many d x) h = absurd (not_many d x (one_found begins rows c left base (tree.field m e w) none (word_at begins m base w) type (many d x) (refl, inl (o, named, refl, inl (h, λ y. absurd cc)))))
        on_class o named (not_accessible d) h = absurd (not_seen d (one_found begins rows c left base (tree.field m e w) none (word_at begins m base w) type (not_accessible d) (refl, inl (o, named, refl, inl (h, λ y. absurd cc)))))
        on_class o named (from_static d) h = absurd (not_static d (one_found begins rows c left base (tree.field m e w) none (word_at begins m base w) type (from_static d) (refl, inl (o, named, refl, inl (h, λ y. absurd cc)))))

        no_name : class_name_of rows c e ≡ None → (o : ClassKey) → IsClassName rows c e o → ⊥
        no_name is o named = let p : None ≡ Some o = sym is ∙ (bound.names e o).1 named in absurd cc

        by : (o : Option ClassKey) → class_name_of rows c e ≡ o → ExpChoice begins rows P c left base (tree.field m e w) stays
        by (Some o) is = on_class o ((bound.names e o).0 is) (find_field_in rows (scope_of c) o w.text) ((keys.field_in (scope_of c) o w.text (find_field_in rows (scope_of c) o w.text)).0 refl)
        by None is = on_field left base m e w none (λ f h. one_found begins rows c left base (tree.field m e w) none (word_at begins m base w) variable f (refl, inr (no_name is, refl, h)))

    -- ---- fields behind `super`

    pub super_field_stays : (role : Role) (base : ℕ) (m : A) (w : tree.Word A) → SoundItself begins rows c role base (tree.super_field m w) → ExpChoice begins rows P c role base (tree.super_field m w) stays
    super_field_stays role base m w none =
        let o = the_one (field_found rows c (own_superclass rows c) w.text) (SuperFieldFinds rows c w.text) (bound.super_fields w.text)
        (λ f h. one_found begins rows c role base (tree.super_field m w) none (word_at begins m base w) variable f (refl, refl, h)) in
        by o.0 o.1
      where
        by : (d : Decl) → SuperFieldFinds rows c w.text (one d) → SuperFieldChoice begins rows P c (word_at begins m base w) w.text stays
        by d (inl (o, is, h)) =
            let f = found_field rows (scope_of c) o w.text d h in
            let q = f.0 in
            let found = subst (λ x. FindsFieldIn rows (scope_of c) o w.text (one x)) f.1 h in
            let own : FindsFieldIn rows there o q.name (one (field_decl q)) = subst (λ (n : List ℕ). FindsFieldIn rows there o n (one (field_decl q))) (sym f.2) found in
            let object = object_there begins rows c role base (tree.super_field m w) (begins m base) refl none in
            let taken = super_field_taken rows there o q object is own (λ x. none (word_at begins m base w) rule.StaticThroughValue (refl, (field_decl q, inl (o, is, found), x))) in
            let image = subst (λ (s : Scope). IsTaken rows s (reference ref.FieldSuper q.name None []) (field_decl q) Asked) place taken in
            (q, inl (o, is, found), inl (Asked, image, stays_so w.text q.name f.2))
        by d (inr (lacks, is)) = absurd (one_nothing d is)
