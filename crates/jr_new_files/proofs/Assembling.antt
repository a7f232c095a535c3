-- What comes of a file's written members is what comes of the file.
use Rattle.std.proofs.Common.{◌≡◌, ℕ, zero, suc, ◌+◌, ◌<◌, List, [], ◌∷◌, ◌++◌, Option, Some, None, refl, sym, ap, subst, ◌∙◌, inl, inr, arith}
use Rattle.std.specs.Prelude.{slice_get}
use Rattle.jr_text.specs.declared.spans.Span.{Span}
use Rattle.jr_ast.specs.Tree as tree
use Rattle.jr_ast.specs.MemberTree as syntax
use Rattle.jr_table.specs.Keys.{ClassKey}
use Rattle.jr_table.specs.Decls.{MemberKey, head}
use Rattle.jr_table.specs.DeclaredItems.{DeclaredItem, class_key}
use Rattle.jr_table.specs.Errors.{Part, class_part, member_part}
use Rattle.jr_members.specs.WrittenMembers.{WrittenMember}
use Rattle.jr_rewrite.specs.Rewritten.{Rewritten, plain, within, joined}
use Rattle.jr_rewrite.specs.Rewrites.{Choosing, ByKey, RewritesClass, RewritesMembers, RewritesOne, RewritesClasses, RewritesUnit, TransformsClass, TransformsMembers, TransformsOne}
use Rattle.jr_new_bodies.specs.Effects.{Effect, no_effect, both, effect_of}
use Rattle.jr_new_files.specs.Files.{PartGives, AllGive}
use Rattle.jr_new_bodies.proofs.Joining.{both_none, none_both, both_assoc}
use Rattle.jr_new_files.proofs.Ordered.{OfFile, IsAs, OfOne, OfClass, OfMembers, OfMember, OfClasses, OfUnits}

module _ {A : Type 0} (tells : A → ℕ → Span) (C : Choosing A) where
  abbrev begins : A → ℕ → ℕ
  begins m base = (tells m base).from

  -- of two lists, one behind the other
  record Split (file : ℕ) (us vs : List (WrittenMember A)) (e : Effect) : Type 0 where
    first : Effect
    second : Effect
    one : AllGive tells C file us first
    other : AllGive tells C file vs second
    is : e ≡ both first second

  split : (file : ℕ) (us vs : List (WrittenMember A)) (e : Effect) → AllGive tells C file (us ++ vs) e → Split file us vs e
  split file [] vs e h = record { first = no_effect; second = e; one = refl; other = h; is = sym (none_both e) }
  split file (u ∷ us) vs e (d, f, one, more, is) =
      let s = split file us vs f more in
      record {
        first = both d s.first;
        second = s.second;
        one = (d, s.first, one, s.one, refl);
        other = s.other;
        is = is ∙ ap (both d) s.is ∙ sym (both_assoc d s.first s.second);
      }

  -- members of another file give nothing
  pub none_of_others : (file other : ℕ) (ws : List (WrittenMember A)) (e : Effect) → (other ≡ file → ⊥) → OfFile other ws → AllGive tells C file ws e → e ≡ no_effect
  none_of_others file other [] e apart of h = h
  none_of_others file other (w ∷ ws) e apart of (d, f, inl one, more, is) = absurd (apart (sym of.0 ∙ one.0))
  none_of_others file other (w ∷ ws) e apart of (d, f, inr one, more, is) =
      is ∙ (λ i. both (one.1 i) (none_of_others file other ws f apart of.1 more i)) ∙ none_both no_effect

  part_as : (w : WrittenMember A) (k : MemberKey) (base : ℕ) (part : Part A) (e : Effect) → IsAs w k base part → PartGives tells C w.key w.base w.part e → PartGives tells C k base part e
  part_as w k base part e as_is h =
      subst (λ (p : Part A). PartGives tells C k base p e) as_is.tree
      (subst (λ (b : ℕ). PartGives tells C k b w.part e) as_is.place (subst (λ (j : MemberKey). PartGives tells C j w.base w.part e) as_is.key h))

  -- the first of a list that is of the file
  record First (file : ℕ) (k : MemberKey) (base : ℕ) (part : Part A) (ws : List (WrittenMember A)) (e : Effect) : Type 0 where
    own : Effect
    rest : Effect
    gives : PartGives tells C k base part own
    more : AllGive tells C file ws rest
    is : e ≡ both own rest

  first_gives : (file : ℕ) (w : WrittenMember A) (k : MemberKey) (base : ℕ) (part : Part A) (ws : List (WrittenMember A)) (e : Effect) → IsAs w k base part → OfFile file (w ∷ ws)
      → AllGive tells C file (w ∷ ws) e → First file k base part ws e
  first_gives file w k base part ws e as_is of (d, f, inl one, more, is) = record { own = d; rest = f; gives = part_as w k base part d as_is one.1; more = more; is = is }
  first_gives file w k base part ws e as_is of (d, f, inr one, more, is) = absurd (one.0 of.0)

  of_left : (file : ℕ) (us vs : List (WrittenMember A)) → OfFile file (us ++ vs) → OfFile file us
  of_left file [] vs h = tt
  of_left file (u ∷ us) vs h = (h.0, of_left file us vs h.1)

  of_right : (file : ℕ) (us vs : List (WrittenMember A)) → OfFile file (us ++ vs) → OfFile file vs
  of_right file [] vs h = h
  of_right file (u ∷ us) vs h = of_right file us vs h.1

  module _ (declarations : List DeclaredItem) (file : ℕ) where
    one_gives : (base : ℕ) (of : ClassKey) (x : syntax.Member A) (ws : List (WrittenMember A)) (e : Effect) → OfFile file ws → OfOne begins declarations base of x ws → AllGive tells C file ws e
        → (o : Rewritten (syntax.Member A)) × ByKey tells C declarations base of x o × (e ≡ effect_of o)
    one_gives base of x ws e own (w, k, is, declares, as_is) h =
        let f = first_gives file w k base (member_part x) [] e as_is (subst (OfFile file) is own) (subst (λ xs. AllGive tells C file xs e) is h) in
        let g = f.gives in
        (g.0, (k, declares, g.1), f.is ∙ ap (both f.own) f.more ∙ both_none f.own ∙ g.2)

    mutual
      unfolding OfClass OfMembers OfMember TransformsClass TransformsMembers TransformsOne

      class_gives : (base : ℕ) (outer : Option (List ℕ)) (c : syntax.Class A) (ws : List (WrittenMember A)) (e : Effect) → OfFile file ws → OfClass begins declarations base outer c ws → AllGive tells C file ws e
          → (o : Rewritten (syntax.Class A)) × RewritesClass tells C declarations base outer c o × (e ≡ effect_of o)
      class_gives base outer (syntax.class m mods w t ms) ws e own (h, rest, is, as_is, members) gives =
          let whole = subst (OfFile file) is own in
          let f = first_gives file h (head (class_key begins outer w.text)) base (class_part (syntax.class m mods w t ms)) rest e as_is whole (subst (λ xs. AllGive tells C file xs e) is gives) in
          let p = f.gives in
          let q = members_give (begins m base) (class_key begins outer w.text) ms rest f.rest whole.1 members f.more in (
            joined (λ (u : tree.Word A × Option (tree.TypeName A)) xs. syntax.class m mods u.0 u.1 xs) p.0 q.0,
            (p.0, q.0, p.1, q.1, refl),
            f.is ∙ (λ i. both (p.2 i) (q.2 i)),
          )

      members_give : (base : ℕ) (of : ClassKey) (xs : syntax.Members A) (ws : List (WrittenMember A)) (e : Effect) → OfFile file ws → OfMembers begins declarations base of xs ws → AllGive tells C file ws e
          → (o : Rewritten (syntax.Members A)) × RewritesMembers tells C declarations base of xs o × (e ≡ effect_of o)
      members_give base of syntax.end ws e own is gives = (plain syntax.end, refl, subst (λ xs. AllGive tells C file xs e) is gives)
      members_give base of (syntax.more x xs) ws e own (us, vs, is, one, more) gives =
          let whole = subst (OfFile file) is own in
          let s = split file us vs e (subst (λ ys. AllGive tells C file ys e) is gives) in
          let p = member_gives base of x us s.first (of_left file us vs whole) one s.one in
          let q = members_give base of xs vs s.second (of_right file us vs whole) more s.other in
          (joined (λ y ys. syntax.more y ys) p.0 q.0, (p.0, q.0, p.1, q.1, refl), s.is ∙ (λ i. both (p.2 i) (q.2 i)))

      member_gives : (base : ℕ) (of : ClassKey) (x : syntax.Member A) (ws : List (WrittenMember A)) (e : Effect) → OfFile file ws → OfMember begins declarations base of x ws → AllGive tells C file ws e
          → (o : Rewritten (syntax.Member A)) × RewritesOne tells C declarations base of x o × (e ≡ effect_of o)
      member_gives base of (syntax.inner m c) ws e own h gives =
          let p = class_gives (begins m base) (Some of.name) c ws e own h gives in
          (within (λ d. syntax.inner m d) p.0, (p.0, p.1, refl), p.2)
      member_gives base of (syntax.field m mods t w init) ws e own h gives = one_gives base of (syntax.field m mods t w init) ws e own h gives
      member_gives base of (syntax.method m mods t w ps body) ws e own h gives = one_gives base of (syntax.method m mods t w ps body) ws e own h gives
      member_gives base of (syntax.constructor m mods w ps args body) ws e own h gives = one_gives base of (syntax.constructor m mods w ps args body) ws e own h gives

    classes_give : (base : ℕ) (cs : List (syntax.Class A)) (ws : List (WrittenMember A)) (e : Effect) → OfFile file ws → OfClasses begins declarations base cs ws → AllGive tells C file ws e
        → (o : Rewritten (List (syntax.Class A))) × RewritesClasses tells C declarations base cs o × (e ≡ effect_of o)
    classes_give base [] ws e own is gives = (plain [], refl, subst (λ xs. AllGive tells C file xs e) is gives)
    classes_give base (c ∷ cs) ws e own (us, vs, is, one, more) gives =
        let whole = subst (OfFile file) is own in
        let s = split file us vs e (subst (λ ys. AllGive tells C file ys e) is gives) in
        let p = class_gives base None c us s.first (of_left file us vs whole) one s.one in
        let q = classes_give base cs vs s.second (of_right file us vs whole) more s.other in
        (joined (λ d ds. d ∷ ds) p.0 q.0, (p.0, q.0, p.1, q.1, refl), s.is ∙ (λ i. both (p.2 i) (q.2 i)))

    unit_gives : (u : syntax.Unit A) (ws : List (WrittenMember A)) (e : Effect) → OfFile file ws → OfClasses begins declarations (begins u.mark 0) u.classes ws → AllGive tells C file ws e
        → (o : Rewritten (syntax.Unit A)) × RewritesUnit tells C declarations u o × (e ≡ effect_of o)
    unit_gives u ws e own h gives =
        let p = classes_give (begins u.mark 0) u.classes ws e own h gives in
        (within (λ cs. record { mark = u.mark; package_name = u.package_name; classes = cs }) p.0, (p.0, p.1, refl), p.2)

  module _ (declarations : List DeclaredItem) where
    -- files behind one give nothing to it
    none_behind : (file first : ℕ) (us : List (syntax.Unit A)) (ws : List (WrittenMember A)) (e : Effect) → file < first → OfUnits begins declarations first us ws → AllGive tells C file ws e → e ≡ no_effect
    none_behind file first [] ws e less is h = subst (λ xs. AllGive tells C file xs e) is h
    none_behind file first (u ∷ us) ws e less (xs, ys, is, own, classes, rest) h =
        let s = split file xs ys e (subst (λ zs. AllGive tells C file zs e) is h) in
        let one = none_of_others file first xs s.first (λ same. omega (arith, less, same)) own s.one in
        let other = none_behind file (suc first) us ys s.second (omega (arith, less)) rest s.other in
        s.is ∙ (λ i. both (one i) (other i)) ∙ none_both no_effect

    inside : {X : Type 0} (x y : X) → Some x ≡ Some y → x ≡ y
    inside x y e = cc

    pub file_gives : (first i : ℕ) (us : List (syntax.Unit A)) (u : syntax.Unit A) (ws : List (WrittenMember A)) (e : Effect) → slice_get us i ≡ Some u → OfUnits begins declarations first us ws
        → AllGive tells C (first + i) ws e → (o : Rewritten (syntax.Unit A)) × RewritesUnit tells C declarations u o × (e ≡ effect_of o)
    file_gives first i [] u ws e at h gives = absurd cc
    file_gives first zero (v ∷ us) u ws e at (xs, ys, is, own, classes, rest) gives =
        let here : first + 0 ≡ first = omega arith in
        let s = split first xs ys e (subst (λ n. AllGive tells C n (xs ++ ys) e) here (subst (λ zs. AllGive tells C (first + 0) zs e) is gives)) in
        let p = unit_gives declarations first v xs s.first own classes s.one in
        let none = none_behind first (suc first) us ys s.second (omega arith) rest s.other in
        subst (λ (x : syntax.Unit A). (o : Rewritten (syntax.Unit A)) × RewritesUnit tells C declarations x o × (e ≡ effect_of o)) (inside v u at)
        (p.0, p.1, s.is ∙ ap (both s.first) none ∙ both_none s.first ∙ p.2)
    file_gives first (suc i) (v ∷ us) u ws e at (xs, ys, is, own, classes, rest) gives =
        let here : first + suc i ≡ suc first + i = omega arith in
        let s = split (first + suc i) xs ys e (subst (λ zs. AllGive tells C (first + suc i) zs e) is gives) in
        let none = none_of_others (first + suc i) first xs s.first (λ same. omega (arith, same)) own s.one in
        let p = file_gives (suc first) i us u ys s.second at rest (subst (λ n. AllGive tells C n ys s.second) here s.other) in
        (p.0, p.1, s.is ∙ ap (λ d. both d s.second) none ∙ none_both s.second ∙ p.2)
