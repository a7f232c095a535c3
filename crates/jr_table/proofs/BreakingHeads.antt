-- Rules that the head of a class breaks, and what its superclass's name is bound to: what is noted is what the relations say.
use Rattle.std.proofs.Common.{◌≡◌, ℕ, List, [], ◌++◌, Option, Some, None, true, false, refl, sym, subst, inl, inr}
use Rattle.std.specs.Prelude.{◌⊎◌, ◌↔◌, ◌&&◌, not, is_some, if◌then◌else◌}
use Rattle.jr_ast.specs.Tree as tree
use Rattle.jr_ast.specs.MemberTree as syntax
use Rattle.jr_ast.specs.Marks.{type_mark}
use Rattle.jr_table.specs.Keys.{ClassKey}
use Rattle.jr_table.specs.Decls.{head, Decl, class_decl}
use Rattle.jr_table.specs.Rows.{Row}
use Rattle.jr_table.specs.Conditions.{AreRows}
use Rattle.jr_table.specs.Entries.{number_of, top_class}
use Rattle.jr_table.specs.Prelude.{top_key}
use Rattle.jr_table.specs.DeclaredItems.{writes_ctor}
use Rattle.jr_table.specs.Found.{Found, one, nothing, not_accessible}
use Rattle.jr_table.specs.Lookup.{FindsCtorOf, find_ctor_of}
use Rattle.jr_table.specs.LookupLaws.{Decided, KeysAreFound}
use Rattle.jr_table.specs.Context.{Context, scope_of, IsSuperclass, HasWordAt, is_final_word}
use Rattle.jr_table.specs.Binding.{FindsIn, Sought, type}
use Rattle.jr_table.specs.HeadRules.{plain, LacksSuperCtor, TopFinds, ParentRefers, HeadRefers, FinalClass, HeadSuperCtor, HeadPrivate, HeadBreaks}
use Rattle.jr_table.specs.Meanings.{find_in, own_superclass, superclass_of, InReferences}
use Rattle.jr_table.specs.Notes.{Note, refers, breaks, Has, when, has_word, test_found}
use Rattle.jr_table.specs.HeadNotes.{lacks_super_ctor, top_found, is_final_super, declared_notes, parent_references, head_notes}
use Rattle.jr_table.proofs.RowLaws.{number_stands, number_none}
use Rattle.jr_table.proofs.RowTypes.{chain, test_iff, superclass_iff}
use Rattle.jr_table.proofs.Typing.{in_iff, own_super_iff}
use Rattle.jr_table.proofs.TypeTests.{and_iff, not_iff}
use Rattle.jr_table.proofs.DeclarationTests.{found_test, not_false}
use Rattle.jr_table.proofs.Referring.{only_iff, type_iff}
use Rattle.jr_table.proofs.Breaking.{has_append, when_iff, when_binds_none}
use Rattle.jr_table.proofs.TypeNotes.{declared_breaks, declared_binds}
use Rattle.jr_table.specs.declared.rules.Rule.{Rule}
use Rattle.jr_table.specs.declared.rules.Rule.TheVariants as rule

module _ (rows : List Row) (fit : AreRows rows) (found : KeysAreFound rows) where
  -- an implicit `super()` finds no constructor
  pub lacks_iff : (c : Context) → (lacks_super_ctor rows c ≡ true) ↔ LacksSuperCtor rows c
  lacks_iff c = chain (not_iff (test_found (λ d. true) (find_in (own_superclass rows c) (λ k. find_ctor_of rows (scope_of c) k []))) ((d : Decl) × Finds (one d) × Unit {0})
      (found_test (find_in (own_superclass rows c) (λ k. find_ctor_of rows (scope_of c) k [])) Finds decided (λ d. true) (λ d. Unit {0}) (λ d. (λ h. tt, λ h. refl))))
      (λ none d h. none (d, h, tt), λ none h. none h.0 h.1)
    where
      Finds : Found → Type 0
      Finds f = FindsIn (IsSuperclass rows (scope_of c).class) (λ k g. FindsCtorOf rows (scope_of c) k [] g) f

      decided : Decided (find_in (own_superclass rows c) (λ k. find_ctor_of rows (scope_of c) k [])) Finds
      decided = in_iff (own_superclass rows c) (λ k. find_ctor_of rows (scope_of c) k []) (IsSuperclass rows (scope_of c).class) (λ k g. FindsCtorOf rows (scope_of c) k [] g) (own_super_iff rows fit found c) (λ k. found.ctor_of (scope_of c) k [])

  -- the superclass is final
  final_super : (o : Option ClassKey) (Super : ClassKey → Type 0) → ((p : ClassKey) → (o ≡ Some p) ↔ Super p) → (is_final_super rows o ≡ true) ↔ ((p : ClassKey) × Super p × HasWordAt rows (class_decl p) is_final_word)
  final_super None Super is = (λ h. absurd cc, λ h. let e = (is h.0).1 h.1 in absurd cc)
  final_super (Some p) Super is = (λ h. (p, (is p).0 refl, (test_iff rows fit (has_word is_final_word) (class_decl p)).0 h), back)
    where
      back : ((q : ClassKey) × Super q × HasWordAt rows (class_decl q) is_final_word) → is_final_super rows (Some p) ≡ true
      back (q, s, h) = let e = (is q).1 s in let same : p ≡ q = cc in (test_iff rows fit (has_word is_final_word) (class_decl p)).1 (subst (λ x. HasWordAt rows (class_decl x) is_final_word) (sym same) h)

  top_decided : (name : List ℕ) → Decided (top_found rows name) (TopFinds rows name)
  top_decided name f = of (number_of rows (top_class name)) refl
    where
      of : (o : Option ℕ) → number_of rows (top_class name) ≡ o → ((if is_some o then one (top_class name) else nothing) ≡ f) ↔ TopFinds rows name f
      of None e = (λ h. inr (number_none rows (top_class name) e, sym h), back)
        where
          back : TopFinds rows name f → nothing ≡ f
          back (inl (j, r, h)) = absurd (number_none rows (top_class name) e j r)
          back (inr (none, h)) = sym h
      of (Some j) e = (λ h. inl (j, number_stands rows (top_class name) j e, sym h), back)
        where
          back : TopFinds rows name f → one (top_class name) ≡ f
          back (inl (i, r, h)) = sym h
          back (inr (none, h)) = absurd (none j (number_stands rows (top_class name) j e))

  module _ {A : Type 0} (begins : A → ℕ → ℕ) where
    parent_iff : (outer : Option (List ℕ)) (base : ℕ) (t : tree.TypeName A) (at : ℕ) (q : Sought) (f : Found) → InReferences (parent_references begins rows outer base t) at q f ↔ ((q ≡ type) × ParentRefers begins rows outer base t at f)
    parent_iff (Some outer) base t at q f = type_iff rows fit found (plain (head (top_key outer)) false) begins base t at q f
    parent_iff None base (tree.named m None w) at q f = chain (only_iff (begins w.mark (begins m base)) type (top_found rows w.text) (TopFinds rows w.text) (top_decided w.text) at q f) (λ h. (h.1, (h.0, h.2)), λ h. (h.1.0, h.0, h.1.1))
    parent_iff None base (tree.named m (Some o) w) at q f = (λ h. absurd h, λ h. h.1)
    parent_iff None base (tree.int m) at q f = (λ h. absurd h, λ h. h.1)
    parent_iff None base (tree.boolean m) at q f = (λ h. absurd h, λ h. h.1)

    module _ (k : ClassKey) (base : ℕ) where
      data HeadRule (of : syntax.Class A) (at : ℕ) (r : Rule) : Type 0 where
        hidden : (is : r ≡ rule.Private) (has : HeadPrivate begins rows k base of at) → HeadRule of at r
        lacking : (is : r ≡ rule.SuperCtor) (has : HeadSuperCtor begins rows k base of at) → HeadRule of at r
        final : (is : r ≡ rule.FinalClass) (has : FinalClass begins rows k base of at) → HeadRule of at r

      one_rule : (of : syntax.Class A) (at : ℕ) (r : Rule) → HeadRule of at r ↔ HeadBreaks begins rows k base of at r
      one_rule of at r = (to, back r)
        where
          carry : (q : Rule) → r ≡ q → HeadBreaks begins rows k base of at q → HeadBreaks begins rows k base of at r
          carry q is h = subst (λ p. HeadBreaks begins rows k base of at p) (sym is) h

          to : HeadRule of at r → HeadBreaks begins rows k base of at r
          to (hidden is h) = carry rule.Private is h
          to (lacking is h) = carry rule.SuperCtor is h
          to (final is h) = carry rule.FinalClass is h

          back : (q : Rule) → HeadBreaks begins rows k base of at q → HeadRule of at q
          back rule.Private h = hidden refl h
          back rule.SuperCtor h = lacking refl h
          back rule.FinalClass h = final refl h
          back _ h = absurd h

      -- where no constructor is written
      abbrev ctor_notes : A → tree.Word A → syntax.Members A → List Note
      ctor_notes m w ms = when (not (writes_ctor begins ms) && lacks_super_ctor rows (plain (head k) false)) (breaks (begins w.mark (begins m base)) rule.SuperCtor)

      abbrev NoCtor : syntax.Members A → Type 0
      NoCtor ms = (writes_ctor begins ms ≡ false) × LacksSuperCtor rows (plain (head k) false)

      ctors : (m : A) (w : tree.Word A) (ms : syntax.Members A) (at : ℕ) (r : Rule) → Has (ctor_notes m w ms) (breaks at r) ↔ ((at ≡ begins w.mark (begins m base)) × (r ≡ rule.SuperCtor) × NoCtor ms)
      ctors m w ms at r = when_iff (not (writes_ctor begins ms) && lacks_super_ctor rows (plain (head k) false)) (NoCtor ms)
          (and_iff (not (writes_ctor begins ms)) (lacks_super_ctor rows (plain (head k) false)) (writes_ctor begins ms ≡ false) (LacksSuperCtor rows (plain (head k) false)) (not_false (writes_ctor begins ms)) (lacks_iff (plain (head k) false)))
          (begins w.mark (begins m base)) at rule.SuperCtor r

      abbrev final_notes : A → tree.TypeName A → List Note
      final_notes m t = when (is_final_super rows (superclass_of rows k)) (breaks (begins (type_mark t) (begins m base)) rule.FinalClass)

      abbrev HasFinal : Type 0
      HasFinal = (p : ClassKey) × IsSuperclass rows k p × HasWordAt rows (class_decl p) is_final_word

      finals : (m : A) (t : tree.TypeName A) (at : ℕ) (r : Rule) → Has (final_notes m t) (breaks at r) ↔ ((at ≡ begins (type_mark t) (begins m base)) × (r ≡ rule.FinalClass) × HasFinal)
      finals m t at r = when_iff (is_final_super rows (superclass_of rows k)) HasFinal (final_super (superclass_of rows k) (IsSuperclass rows k) (superclass_iff rows fit k)) (begins (type_mark t) (begins m base)) at rule.FinalClass r

      head_rules : (of : syntax.Class A) (at : ℕ) (r : Rule) → Has (head_notes begins rows k base of) (breaks at r) ↔ HeadRule of at r
      head_rules (syntax.class m mods w None ms) at r = chain (ctors m w ms at r) (λ h. lacking h.1 (h.0, h.2.0, h.2.1), back)
        where
          back : HeadRule (syntax.class m mods w None ms) at r → (at ≡ begins w.mark (begins m base)) × (r ≡ rule.SuperCtor) × NoCtor ms
          back (hidden is h) = absurd h.1
          back (lacking is h) = (h.0, is, (h.1, h.2))
          back (final is h) = absurd h
      head_rules (syntax.class m mods w (Some t) ms) at r = chain (has_append (declared_notes (parent_references begins rows k.outer (begins m base) t) ++ final_notes m t) (ctor_notes m w ms) (breaks at r)) (to, back)
        where
          names : Has (declared_notes (parent_references begins rows k.outer (begins m base) t)) (breaks at r) ↔ ((r ≡ rule.Private) × ((d : Decl) × ParentRefers begins rows k.outer (begins m base) t at (not_accessible d)))
          names = declared_breaks (parent_references begins rows k.outer (begins m base) t) (λ a f. ParentRefers begins rows k.outer (begins m base) t a f) (λ a q f. parent_iff k.outer (begins m base) t a q f) at r

          parent : (Has (declared_notes (parent_references begins rows k.outer (begins m base) t)) (breaks at r) ⊎ Has (final_notes m t) (breaks at r)) → HeadRule (syntax.class m mods w (Some t) ms) at r
          parent (inl h) = let g = names.0 h in hidden g.0 g.1
          parent (inr h) = let g = (finals m t at r).0 h in final g.1 (g.0, g.2)

          split : Has (declared_notes (parent_references begins rows k.outer (begins m base) t) ++ final_notes m t) (breaks at r) ↔ (Has (declared_notes (parent_references begins rows k.outer (begins m base) t)) (breaks at r) ⊎ Has (final_notes m t) (breaks at r))
          split = has_append (declared_notes (parent_references begins rows k.outer (begins m base) t)) (final_notes m t) (breaks at r)

          to : (Has (declared_notes (parent_references begins rows k.outer (begins m base) t) ++ final_notes m t) (breaks at r) ⊎ Has (ctor_notes m w ms) (breaks at r)) → HeadRule (syntax.class m mods w (Some t) ms) at r
          to (inl h) = parent (split.0 h)
          to (inr h) = let g = (ctors m w ms at r).0 h in lacking g.1 (g.0, g.2.0, g.2.1)

          back : HeadRule (syntax.class m mods w (Some t) ms) at r → Has (declared_notes (parent_references begins rows k.outer (begins m base) t) ++ final_notes m t) (breaks at r) ⊎ Has (ctor_notes m w ms) (breaks at r)
          back (hidden is h) = inl (split.1 (inl (names.1 (is, h))))
          back (lacking is h) = inr ((ctors m w ms at r).1 (h.0, is, (h.1, h.2)))
          back (final is h) = inl (split.1 (inr ((finals m t at r).1 (h.0, is, h.1))))

      -- what the head of a class notes is what it breaks
      pub head_breaks : (of : syntax.Class A) (at : ℕ) (r : Rule) → Has (head_notes begins rows k base of) (breaks at r) ↔ HeadBreaks begins rows k base of at r
      head_breaks of at r = chain (head_rules of at r) (one_rule of at r)

      -- and what its superclass's name is bound to
      pub head_binds : (of : syntax.Class A) (at : ℕ) (d : Decl) → Has (head_notes begins rows k base of) (refers at d) ↔ HeadRefers begins rows k base of at (one d)
      head_binds (syntax.class m mods w None ms) at d = (λ h. when_binds_none (not (writes_ctor begins ms) && lacks_super_ctor rows (plain (head k) false)) (begins w.mark (begins m base)) at rule.SuperCtor d h, λ h. absurd h)
      head_binds (syntax.class m mods w (Some t) ms) at d = chain (has_append (declared_notes (parent_references begins rows k.outer (begins m base) t) ++ final_notes m t) (ctor_notes m w ms) (refers at d)) (to, λ h. inl (split.1 (inl (names.1 h))))
        where
          names : Has (declared_notes (parent_references begins rows k.outer (begins m base) t)) (refers at d) ↔ ParentRefers begins rows k.outer (begins m base) t at (one d)
          names = declared_binds (parent_references begins rows k.outer (begins m base) t) (λ a f. ParentRefers begins rows k.outer (begins m base) t a f) (λ a q f. parent_iff k.outer (begins m base) t a q f) at d

          split : Has (declared_notes (parent_references begins rows k.outer (begins m base) t) ++ final_notes m t) (refers at d) ↔ (Has (declared_notes (parent_references begins rows k.outer (begins m base) t)) (refers at d) ⊎ Has (final_notes m t) (refers at d))
          split = has_append (declared_notes (parent_references begins rows k.outer (begins m base) t)) (final_notes m t) (refers at d)

          parent : (Has (declared_notes (parent_references begins rows k.outer (begins m base) t)) (refers at d) ⊎ Has (final_notes m t) (refers at d)) → ParentRefers begins rows k.outer (begins m base) t at (one d)
          parent (inl h) = names.0 h
          parent (inr h) = absurd (when_binds_none (is_final_super rows (superclass_of rows k)) (begins (type_mark t) (begins m base)) at rule.FinalClass d h)

          to : (Has (declared_notes (parent_references begins rows k.outer (begins m base) t) ++ final_notes m t) (refers at d) ⊎ Has (ctor_notes m w ms) (refers at d)) → ParentRefers begins rows k.outer (begins m base) t at (one d)
          to (inl h) = parent (split.0 h)
          to (inr h) = absurd (when_binds_none (not (writes_ctor begins ms) && lacks_super_ctor rows (plain (head k) false)) (begins w.mark (begins m base)) at rule.SuperCtor d h)
