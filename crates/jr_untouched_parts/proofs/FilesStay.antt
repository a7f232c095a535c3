-- What comes of a program's written members is what comes of its files, each by its own spots: all are
-- as they were but one.
use Rattle.std.proofs.Common.{◌≡◌, ◌⊎◌, ℕ, zero, suc, ◌+◌, List, [], ◌∷◌, ◌++◌, Option, Some, None, refl, sym, ap, subst, ◌∙◌, inl, inr, arith}
use Rattle.std.specs.Prelude.{slice_get}
use Rattle.jr_text.specs.declared.spans.Span.{Span}
use Rattle.jr_ast.specs.Tree as tree
use Rattle.jr_ast.specs.MemberTree as syntax
use Rattle.jr_grammar.specs.Layout.{itself}
use Rattle.jr_table.specs.Keys.{ClassKey}
use Rattle.jr_table.specs.Decls.{MemberKey, head}
use Rattle.jr_table.specs.DeclaredItems.{DeclaredItem, class_key}
use Rattle.jr_table.specs.Errors.{Part, class_part, member_part}
use Rattle.jr_members.specs.WrittenMembers.{WrittenMember}
use Rattle.jr_rewrite.specs.Rewritten.{Rewritten, plain, within, joined}
use Rattle.jr_rewrite.specs.Spots.{Spotted, nowhere, spotted, OrMembers, OrClass}
use Rattle.jr_rewrite.specs.Rewrites.{Choosing, TransformsByKey, TransformsClass, TransformsMembers, TransformsOne, TransformsClasses, TransformsUnit}
use Rattle.jr_kept_references.specs.MembersAlong.{MembersStay, ClassStays}
use Rattle.jr_new_bodies.specs.Effects.{Effect, no_effect, both, effect_of}
use Rattle.jr_new_bodies.proofs.Joining.{both_none, none_both, both_assoc}
use Rattle.jr_new_files.proofs.Ordered.{OfFile, IsAs, OfOne, OfClass, OfMembers, OfMember, OfClasses, OfUnits}
use Rattle.jr_plan.specs.Transforms.{TransformsFiles}
use Rattle.jr_bodies.specs.Bodies.{begins}
use Rattle.jr_untouched_parts.proofs.MembersStay.{MemberGoes, PartGoes}

-- ---- members and classes node by node

or_members : (S : Spotted Span) (base : ℕ) (of : ClassKey) (xs : syntax.Members Span) (o : Rewritten (syntax.Members Span)) (N : Type 0) → MembersStay S base of xs → N → OrMembers S base of xs o N
or_members nowhere base of xs o N h n = n
or_members (spotted s) base of xs o N h n = inl (h, n)

or_class : (S : Spotted Span) (base : ℕ) (outer : Option (List ℕ)) (c : syntax.Class Span) (o : Rewritten (syntax.Class Span)) (N : Type 0) → ClassStays S base outer c → N → OrClass S base outer c o N
or_class nowhere base outer c o N h n = n
or_class (spotted s) base outer c o N h n = inl (h, n)

-- no spot is made of members or of a class
pub record NoWholeSpot (S : Spotted Span) : Type 0 where
  pub members : (base : ℕ) (of : ClassKey) (xs : syntax.Members Span) → MembersStay S base of xs
  pub whole : (base : ℕ) (outer : Option (List ℕ)) (c : syntax.Class Span) → ClassStays S base outer c

-- ---- what comes of members, one behind the other

module _ (C : Choosing Span) (S : Spotted Span) where
  abbrev pub Goes : WrittenMember Span → Effect → Type 0
  Goes w e = PartGoes C S w.key w.base w.part e

  abbrev pub AllGo : List (WrittenMember Span) → Effect → Type 0
  AllGo [] e = e ≡ no_effect
  AllGo (w ∷ ws) e = (d : Effect) × (f : Effect) × Goes w d × AllGo ws f × (e ≡ both d f)

  record Split (us vs : List (WrittenMember Span)) (e : Effect) : Type 0 where
    first : Effect
    second : Effect
    one : AllGo us first
    other : AllGo vs second
    is : e ≡ both first second

  split : (us vs : List (WrittenMember Span)) (e : Effect) → AllGo (us ++ vs) e → Split us vs e
  split [] vs e h = record { first = no_effect; second = e; one = refl; other = h; is = sym (none_both e) }
  split (u ∷ us) vs e (d, f, one, more, is) =
      let s = split us vs f more in
      record {
        first = both d s.first;
        second = s.second;
        one = (d, s.first, one, s.one, refl);
        other = s.other;
        is = is ∙ ap (both d) s.is ∙ sym (both_assoc d s.first s.second);
      }

  goes_as : (w : WrittenMember Span) (k : MemberKey) (base : ℕ) (part : Part Span) (e : Effect) → IsAs w k base part → Goes w e → PartGoes C S k base part e
  goes_as w k base part e as_is h =
      subst (λ (p : Part Span). PartGoes C S k base p e) as_is.tree
      (subst (λ (b : ℕ). PartGoes C S k b w.part e) as_is.place (subst (λ (j : MemberKey). PartGoes C S j w.base w.part e) as_is.key h))

  module _ (no : NoWholeSpot S) (declarations : List DeclaredItem) where
    one_goes : (base : ℕ) (of : ClassKey) (x : syntax.Member Span) (ws : List (WrittenMember Span)) (e : Effect) → ((k : MemberKey) (d : Effect) → PartGoes C S k base (member_part x) d → MemberGoes C S k base x d) → OfOne begins declarations base of x ws → AllGo ws e
        → (o : Rewritten (syntax.Member Span)) × TransformsByKey itself C S declarations base of x o × (effect_of o ≡ e)
    one_goes base of x ws e as_member (w, k, is, declares, as_is) h =
        let f = subst (λ xs. AllGo xs e) is h in
        let g = as_member k f.0 (goes_as w k base (member_part x) f.0 as_is f.2) in
        (g.0, (k, declares, g.1), g.2 ∙ sym (both_none f.0) ∙ sym (f.4 ∙ ap (both f.0) f.3))

    mutual
      unfolding OfClass OfMembers OfMember TransformsClass TransformsMembers TransformsOne

      class_goes : (base : ℕ) (outer : Option (List ℕ)) (c : syntax.Class Span) (ws : List (WrittenMember Span)) (e : Effect) → OfClass begins declarations base outer c ws → AllGo ws e
          → (o : Rewritten (syntax.Class Span)) × TransformsClass itself C S declarations base outer c o × (effect_of o ≡ e)
      class_goes base outer (syntax.class m mods w t ms) ws e (h, rest, is, as_is, members) go =
          let of = class_key begins outer w.text in
          let f = subst (λ xs. AllGo xs e) is go in
          let p = goes_as h (head of) base (class_part (syntax.class m mods w t ms)) f.0 as_is f.2 in
          let q = members_go (begins m base) of ms rest f.1 members f.3 in (
            joined (λ (u : tree.Word Span × Option (tree.TypeName Span)) xs. syntax.class m mods u.0 u.1 xs) p.0 q.0,
            (p.0, q.0, p.1, or_members S (begins m base) of ms q.0 (TransformsMembers itself C S declarations (begins m base) of ms q.0) (no.members (begins m base) of ms) q.1, refl),
            (λ i. both (p.2 i) (q.2 i)) ∙ sym f.4,
          )

      members_go : (base : ℕ) (of : ClassKey) (xs : syntax.Members Span) (ws : List (WrittenMember Span)) (e : Effect) → OfMembers begins declarations base of xs ws → AllGo ws e
          → (o : Rewritten (syntax.Members Span)) × TransformsMembers itself C S declarations base of xs o × (effect_of o ≡ e)
      members_go base of syntax.end ws e is go = (plain syntax.end, refl, sym (subst (λ xs. AllGo xs e) is go))
      members_go base of (syntax.more x xs) ws e (us, vs, is, one, more) go =
          let s = split us vs e (subst (λ ys. AllGo ys e) is go) in
          let p = member_goes base of x us s.first one s.one in
          let q = members_go base of xs vs s.second more s.other in (
            joined (λ y ys. syntax.more y ys) p.0 q.0,
            (p.0, q.0, p.1, or_members S base of xs q.0 (TransformsMembers itself C S declarations base of xs q.0) (no.members base of xs) q.1, refl),
            (λ i. both (p.2 i) (q.2 i)) ∙ sym s.is,
          )

      member_goes : (base : ℕ) (of : ClassKey) (x : syntax.Member Span) (ws : List (WrittenMember Span)) (e : Effect) → OfMember begins declarations base of x ws → AllGo ws e
          → (o : Rewritten (syntax.Member Span)) × TransformsOne itself C S declarations base of x o × (effect_of o ≡ e)
      member_goes base of (syntax.inner m c) ws e h go =
          let p = class_goes (begins m base) (Some of.name) c ws e h go in
          (within (λ d. syntax.inner m d) p.0, (p.0, or_class S (begins m base) (Some of.name) c p.0 (TransformsClass itself C S declarations (begins m base) (Some of.name) c p.0) (no.whole (begins m base) (Some of.name) c) p.1, refl), p.2)
      member_goes base of (syntax.field m mods t w init) ws e h go = one_goes base of (syntax.field m mods t w init) ws e (λ k d z. z) h go
      member_goes base of (syntax.method m mods t w ps body) ws e h go = one_goes base of (syntax.method m mods t w ps body) ws e (λ k d z. z) h go
      member_goes base of (syntax.constructor m mods w ps args body) ws e h go = one_goes base of (syntax.constructor m mods w ps args body) ws e (λ k d z. z) h go

    classes_go : (base : ℕ) (cs : List (syntax.Class Span)) (ws : List (WrittenMember Span)) (e : Effect) → OfClasses begins declarations base cs ws → AllGo ws e
        → (o : Rewritten (List (syntax.Class Span))) × TransformsClasses itself C S declarations base cs o × (effect_of o ≡ e)
    classes_go base [] ws e is go = (plain [], refl, sym (subst (λ xs. AllGo xs e) is go))
    classes_go base (c ∷ cs) ws e (us, vs, is, one, more) go =
        let s = split us vs e (subst (λ ys. AllGo ys e) is go) in
        let p = class_goes base None c us s.first one s.one in
        let q = classes_go base cs vs s.second more s.other in (
          joined (λ d ds. d ∷ ds) p.0 q.0,
          (p.0, q.0, or_class S base None c p.0 (TransformsClass itself C S declarations base None c p.0) (no.whole base None c) p.1, q.1, refl),
          (λ i. both (p.2 i) (q.2 i)) ∙ sym s.is,
        )

    unit_goes : (u : syntax.Unit Span) (ws : List (WrittenMember Span)) (e : Effect) → OfClasses begins declarations (begins u.mark 0) u.classes ws → AllGo ws e
        → (o : Rewritten (syntax.Unit Span)) × TransformsUnit itself C S declarations u o × (effect_of o ≡ e)
    unit_goes u ws e of go =
        let p = classes_go (begins u.mark 0) u.classes ws e of go in
        (within (λ cs. record { mark = u.mark; package_name = u.package_name; classes = cs }) p.0, (p.0, p.1, refl), p.2)

-- ---- one of all members has an effect

module _ (C : Choosing Span) (spots : ℕ → Spotted Span) (file : ℕ) (q : Effect) where
  -- a member that is as it was, and the one
  abbrev pub IsLeft : WrittenMember Span → Type 0
  IsLeft w = PartGoes C (spots w.file) w.key w.base w.part no_effect

  abbrev pub IsOne : WrittenMember Span → Type 0
  IsOne w = (w.file ≡ file) × PartGoes C (spots file) w.key w.base w.part q

  abbrev pub AllLeft : List (WrittenMember Span) → Type 0
  AllLeft [] = Unit {0}
  AllLeft (w ∷ ws) = IsLeft w × AllLeft ws

  abbrev pub OneGoes : List (WrittenMember Span) → Type 0
  OneGoes [] = ⊥
  OneGoes (w ∷ ws) = (IsOne w × AllLeft ws) ⊎ (IsLeft w × OneGoes ws)

  left_split : (us vs : List (WrittenMember Span)) → AllLeft (us ++ vs) → AllLeft us × AllLeft vs
  left_split [] vs h = (tt, h)
  left_split (u ∷ us) vs h = let s = left_split us vs h.1 in ((h.0, s.0), s.1)

  one_split : (us vs : List (WrittenMember Span)) → OneGoes (us ++ vs) → (OneGoes us × AllLeft vs) ⊎ (AllLeft us × OneGoes vs)
  one_split [] vs h = inr (tt, h)
  one_split (u ∷ us) vs (inl (one, rest)) = let s = left_split us vs rest in inl (inl (one, s.0), s.1)
  one_split (u ∷ us) vs (inr (left, more)) = by (one_split us vs more)
    where
      by : (OneGoes us × AllLeft vs) ⊎ (AllLeft us × OneGoes vs) → (OneGoes (u ∷ us) × AllLeft vs) ⊎ (AllLeft (u ∷ us) × OneGoes vs)
      by (inl s) = inl (inr (left, s.0), s.1)
      by (inr s) = inr ((left, s.0), s.1)

  -- in one file
  left_there : (first : ℕ) (ws : List (WrittenMember Span)) → OfFile first ws → AllLeft ws → AllGo C (spots first) ws no_effect
  left_there first [] of h = refl
  left_there first (w ∷ ws) of h =
      (no_effect, no_effect, subst (λ (n : ℕ). PartGoes C (spots n) w.key w.base w.part no_effect) of.0 h.0, left_there first ws of.1 h.1, sym (none_both no_effect))

  one_there : (first : ℕ) (ws : List (WrittenMember Span)) → OfFile first ws → OneGoes ws → (first ≡ file) × AllGo C (spots first) ws q
  one_there first [] of h = absurd h
  one_there first (w ∷ ws) of (inl (one, rest)) =
      let here : first ≡ file = sym of.0 ∙ one.0 in
      (here, (q, no_effect, subst (λ (n : ℕ). PartGoes C (spots n) w.key w.base w.part q) (sym here) one.1, left_there first ws of.1 rest, sym (both_none q)))
  one_there first (w ∷ ws) of (inr (left, more)) =
      let s = one_there first ws of.1 more in
      (s.0, (no_effect, q, subst (λ (n : ℕ). PartGoes C (spots n) w.key w.base w.part no_effect) of.0 left, s.1, sym (none_both q)))

  -- ---- files

  module _ (no : (n : ℕ) → NoWholeSpot (spots n)) (declarations : List DeclaredItem) where
    shifted : (local : ℕ → Spotted Span) (first : ℕ) → ((i : ℕ) → local i ≡ spots (first + i)) → (i : ℕ) → local (suc i) ≡ spots (suc first + i)
    shifted local first same i = same (suc i) ∙ ap spots (omega arith)

    at_once : (local : ℕ → Spotted Span) (first : ℕ) → ((i : ℕ) → local i ≡ spots (first + i)) → local 0 ≡ spots first
    at_once local first same = same 0 ∙ ap spots (omega arith)

    pub record FilesLeft (local : ℕ → Spotted Span) (us : List (syntax.Unit Span)) : Type 0 where
      pub files : List (Rewritten (syntax.Unit Span))
      pub are : TransformsFiles C declarations local us files
      pub untouched : (i : ℕ) (o : Rewritten (syntax.Unit Span)) → slice_get files i ≡ Some o → effect_of o ≡ no_effect

    same_one : (x y : Rewritten (syntax.Unit Span)) → Some x ≡ Some y → x ≡ y
    same_one x y e = cc

    files_left : (first : ℕ) (us : List (syntax.Unit Span)) (ws : List (WrittenMember Span)) (local : ℕ → Spotted Span) → ((i : ℕ) → local i ≡ spots (first + i)) → OfUnits begins declarations first us ws → AllLeft ws → FilesLeft local us
    files_left first [] ws local same of h = record { files = []; are = refl; untouched = λ i o e. absurd cc }
    files_left first (u ∷ us) ws local same (xs, ys, is, own, classes, more) h =
        let s = left_split xs ys (subst AllLeft is h) in
        let p = unit_goes C (spots first) (no first) declarations u xs no_effect classes (left_there first xs own s.0) in
        let r = files_left (suc first) us ys (λ n. local (suc n)) (shifted local first same) more s.1 in
        record {
          files = p.0 ∷ r.files;
          are = (p.0, r.files, subst (λ (S : Spotted Span). TransformsUnit itself C S declarations u p.0) (sym (at_once local first same)) p.1, r.are, refl);
          untouched = each p.0 p.2 r.files r.untouched;
        }
      where
        each : (x : Rewritten (syntax.Unit Span)) → effect_of x ≡ no_effect → (os : List (Rewritten (syntax.Unit Span))) → ((i : ℕ) (o : Rewritten (syntax.Unit Span)) → slice_get os i ≡ Some o → effect_of o ≡ no_effect)
            → (i : ℕ) (o : Rewritten (syntax.Unit Span)) → slice_get (x ∷ os) i ≡ Some o → effect_of o ≡ no_effect
        each x none os rest zero o e = subst (λ (y : Rewritten (syntax.Unit Span)). effect_of y ≡ no_effect) (same_one x o e) none
        each x none os rest (suc i) o e = rest i o e

    pub record FilesGo (first : ℕ) (local : ℕ → Spotted Span) (us : List (syntax.Unit Span)) : Type 0 where
      pub files : List (Rewritten (syntax.Unit Span))
      pub are : TransformsFiles C declarations local us files
      pub number : ℕ
      pub is_file : first + number ≡ file
      pub own : Rewritten (syntax.Unit Span)
      pub stands : slice_get files number ≡ Some own
      pub effect : effect_of own ≡ q
      pub others : (i : ℕ) (o : Rewritten (syntax.Unit Span)) → (i ≡ number → ⊥) → slice_get files i ≡ Some o → effect_of o ≡ no_effect

    -- a file more in front, which has the effect, or in which all is left
    go_there : (first : ℕ) (u : syntax.Unit Span) (us : List (syntax.Unit Span)) (local : ℕ → Spotted Span) → first ≡ file → (p : (o : Rewritten (syntax.Unit Span)) × TransformsUnit itself C (local 0) declarations u o × (effect_of o ≡ q))
        → FilesLeft (λ n. local (suc n)) us → FilesGo first local (u ∷ us)
    go_there first u us local is p r = record {
      files = p.0 ∷ r.files;
      are = (p.0, r.files, p.1, r.are, refl);
      number = 0;
      is_file = omega (arith, is);
      own = p.0;
      stands = refl;
      effect = p.2;
      others = stays p.0 r.files r.untouched;
    }
      where
        stays : (x : Rewritten (syntax.Unit Span)) (os : List (Rewritten (syntax.Unit Span))) → ((i : ℕ) (o : Rewritten (syntax.Unit Span)) → slice_get os i ≡ Some o → effect_of o ≡ no_effect)
            → (i : ℕ) (o : Rewritten (syntax.Unit Span)) → (i ≡ 0 → ⊥) → slice_get (x ∷ os) i ≡ Some o → effect_of o ≡ no_effect
        stays x os rest zero o apart e = absurd (apart refl)
        stays x os rest (suc i) o apart e = rest i o e

    go_later : (first : ℕ) (u : syntax.Unit Span) (us : List (syntax.Unit Span)) (local : ℕ → Spotted Span) → (p : (o : Rewritten (syntax.Unit Span)) × TransformsUnit itself C (local 0) declarations u o × (effect_of o ≡ no_effect))
        → FilesGo (suc first) (λ n. local (suc n)) us → FilesGo first local (u ∷ us)
    go_later first u us local p r = record {
      files = p.0 ∷ r.files;
      are = (p.0, r.files, p.1, r.are, refl);
      number = suc r.number;
      is_file = omega (arith, r.is_file);
      own = r.own;
      stands = r.stands;
      effect = r.effect;
      others = others p.0 p.2 r.files r.number r.others;
    }
      where
        others : (x : Rewritten (syntax.Unit Span)) → effect_of x ≡ no_effect → (os : List (Rewritten (syntax.Unit Span))) (n : ℕ) → ((i : ℕ) (o : Rewritten (syntax.Unit Span)) → (i ≡ n → ⊥) → slice_get os i ≡ Some o → effect_of o ≡ no_effect)
            → (i : ℕ) (o : Rewritten (syntax.Unit Span)) → (i ≡ suc n → ⊥) → slice_get (x ∷ os) i ≡ Some o → effect_of o ≡ no_effect
        others x none os n rest zero o apart e = subst (λ (y : Rewritten (syntax.Unit Span)). effect_of y ≡ no_effect) (same_one x o e) none
        others x none os n rest (suc i) o apart e = rest i o (λ f. apart (ap suc f)) e

    -- what comes of a file by its own spots
    unit_here : (first : ℕ) (local : ℕ → Spotted Span) → ((i : ℕ) → local i ≡ spots (first + i)) → (u : syntax.Unit Span) (ws : List (WrittenMember Span)) (e : Effect) → OfClasses begins declarations (begins u.mark 0) u.classes ws → AllGo C (spots first) ws e
        → (o : Rewritten (syntax.Unit Span)) × TransformsUnit itself C (local 0) declarations u o × (effect_of o ≡ e)
    unit_here first local same u ws e of go =
        let p = unit_goes C (spots first) (no first) declarations u ws e of go in
        (p.0, subst (λ (S : Spotted Span). TransformsUnit itself C S declarations u p.0) (sym (at_once local first same)) p.1, p.2)

    one_file : (first : ℕ) (u : syntax.Unit Span) (us : List (syntax.Unit Span)) (xs ys : List (WrittenMember Span)) (local : ℕ → Spotted Span) → ((i : ℕ) → local i ≡ spots (first + i)) → OfFile first xs
        → OfClasses begins declarations (begins u.mark 0) u.classes xs → OfUnits begins declarations (suc first) us ys → (OneGoes ys → FilesGo (suc first) (λ n. local (suc n)) us)
        → (OneGoes xs × AllLeft ys) ⊎ (AllLeft xs × OneGoes ys) → FilesGo first local (u ∷ us)
    one_file first u us xs ys local same own classes more go (inl (one, left)) =
        let t = one_there first xs own one in
        go_there first u us local t.0 (unit_here first local same u xs q classes t.1) (files_left (suc first) us ys (λ n. local (suc n)) (shifted local first same) more left)
    one_file first u us xs ys local same own classes more go (inr (left, one)) =
        go_later first u us local (unit_here first local same u xs no_effect classes (left_there first xs own left)) (go one)

    pub files_go : (first : ℕ) (us : List (syntax.Unit Span)) (ws : List (WrittenMember Span)) (local : ℕ → Spotted Span) → ((i : ℕ) → local i ≡ spots (first + i)) → OfUnits begins declarations first us ws → OneGoes ws → FilesGo first local us
    files_go first [] ws local same is h = absurd (subst OneGoes is h)
    files_go first (u ∷ us) ws local same (xs, ys, is, own, classes, more) h =
        one_file first u us xs ys local same own classes more (λ one. files_go (suc first) us ys (λ n. local (suc n)) (shifted local first same) more one) (one_split xs ys (subst OneGoes is h))
