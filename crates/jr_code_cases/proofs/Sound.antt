-- What the members of one file of top-level classes break, computed: they are sound where nothing is noted that is broken.
use Rattle.std.proofs.lemmas.Bool.{and_parts}
use Rattle.std.proofs.Common.{◌≡◌, ℕ, ◌+◌, List, [], ◌∷◌, map, None, Bool, true, false, ◌&&◌, refl, subst, ◌∙◌, inl, inr}
use Rattle.jr_ast.specs.MemberTree as syntax
use Rattle.jr_table.specs.Keys.{ClassKey}
use Rattle.jr_table.specs.Decls.{MemberKey, head, field, method, constructor}
use Rattle.jr_table.specs.Rows.{Row}
use Rattle.jr_table.specs.Conditions.{AreRows}
use Rattle.jr_table.specs.LookupLaws.{KeysAreFound}
use Rattle.jr_table.specs.DeclaredItems.{DeclaredItem, param_declaration, class_key, declarations_of}
use Rattle.jr_table.specs.Notes.{Note, refers, breaks, Has}
use Rattle.jr_table.specs.Walks.{part_notes}
use Rattle.jr_table.specs.Errors.{Part, class_part, member_part, part_mark, Breaks, Declares, InClass, InMembers, InInner, InClasses, Error, IsSound}
use Rattle.jr_table.specs.declared.rules.Rule.{Rule}
use Rattle.jr_table.proofs.MemberNotes.{part_breaks}
use Rattle.jr_code_cases.proofs.TopTypes.{all_top, meanings, have_meanings, one_mean}
use Rattle.jr_code_cases.proofs.ComputedProgram.{method_key, ctor_key}

abbrev is_quiet : List Note → Bool
is_quiet [] = true
is_quiet (refers at d ∷ ns) = is_quiet ns
is_quiet (breaks at r ∷ ns) = false

quiet_has : (ns : List Note) → is_quiet ns ≡ true → (at : ℕ) (r : Rule) → Has ns (breaks at r) → ⊥
quiet_has [] e at r h = h
quiet_has (refers i d ∷ ns) e at r (inl same) = absurd cc
quiet_has (refers i d ∷ ns) e at r (inr h) = quiet_has ns e at r h
quiet_has (breaks i s ∷ ns) e at r h = absurd cc

module _ {A : Type 0} (begins : A → ℕ → ℕ) (rows : List Row) (ds : List DeclaredItem) (super_at : MemberKey → ℕ) where
  abbrev quiet : MemberKey → ℕ → Part A → Bool
  quiet k b p = is_quiet (part_notes begins rows (super_at k) k b p)

  abbrev member_quiet : (base : ℕ) → ClassKey → syntax.Member A → Bool
  member_quiet b of (syntax.field m mods t w init) = quiet (field (record { class = of; name = w.text })) b (member_part (syntax.field m mods t w init))
  member_quiet b of (syntax.method m mods t w ps body) = have_meanings ds (map (param_declaration begins (begins m b)) ps) && quiet (method (method_key begins begins rows b of m w ps)) b (member_part (syntax.method m mods t w ps body))
  member_quiet b of (syntax.constructor m mods w ps args body) = have_meanings ds (map (param_declaration begins (begins m b)) ps) && quiet (constructor (ctor_key begins begins rows b of m ps)) b (member_part (syntax.constructor m mods w ps args body))
  member_quiet b of (syntax.inner m c) = false

  abbrev members_quiet : (base : ℕ) → ClassKey → syntax.Members A → Bool
  members_quiet b of syntax.end = true
  members_quiet b of (syntax.more x xs) = member_quiet b of x && members_quiet b of xs

  abbrev pub classes_quiet : (base : ℕ) → List (syntax.Class A) → Bool
  classes_quiet b [] = true
  classes_quiet b (syntax.class m mods w t ms ∷ cs) =
      quiet (head (class_key begins None w.text)) b (class_part (syntax.class m mods w t ms)) && (members_quiet (begins m b) (class_key begins None w.text) ms && classes_quiet b cs)

  module _ (are : AreRows rows) (found : KeysAreFound rows) (top : all_top ds ≡ true) (e : Error) where
    abbrev Broken : MemberKey → (base : ℕ) → Part A → Type 0
    Broken k b p = Breaks begins rows (super_at k) k b p (begins (part_mark p) b + e.at) e.rule

    none_broken : (j k : MemberKey) → k ≡ j → (b : ℕ) (p : Part A) → quiet j b p ≡ true → Broken k b p → ⊥
    none_broken j k same b p q h =
        quiet_has (part_notes begins rows (super_at j) j b p) q (begins (part_mark p) b + e.at) e.rule
        ((part_breaks begins rows are found (super_at j) j b p (begins (part_mark p) b + e.at) e.rule).1 (subst (λ (i : MemberKey). Broken i b p) same h))

    member_sound : (b : ℕ) (of : ClassKey) → of.outer ≡ None → (x : syntax.Member A) → member_quiet b of x ≡ true → (k : MemberKey) → Declares begins ds b of x k → Broken k b (member_part x) → ⊥
    member_sound b of outer (syntax.field m mods t w init) q k d h = none_broken (field (record { class = of; name = w.text })) k d b (member_part (syntax.field m mods t w init)) q h
    member_sound b of outer (syntax.method m mods t w ps body) q k d h =
        let t2 = and_parts (have_meanings ds (map (param_declaration begins (begins m b)) ps)) _ q in
        let params : d.0 ≡ meanings (map (param_declaration begins (begins m b)) ps) = one_mean ds top of outer (map (param_declaration begins (begins m b)) ps) d.0 t2.0 d.1 in
        none_broken (method (method_key begins begins rows b of m w ps)) k (d.2 ∙ (λ i. method (record { class = of; name = w.text; params = params i }))) b (member_part (syntax.method m mods t w ps body)) t2.1 h
    member_sound b of outer (syntax.constructor m mods w ps args body) q k d h =
        let t2 = and_parts (have_meanings ds (map (param_declaration begins (begins m b)) ps)) _ q in
        let params : d.0 ≡ meanings (map (param_declaration begins (begins m b)) ps) = one_mean ds top of outer (map (param_declaration begins (begins m b)) ps) d.0 t2.0 d.1 in
        none_broken (constructor (ctor_key begins begins rows b of m ps)) k (d.2 ∙ (λ i. constructor (record { class = of; params = params i }))) b (member_part (syntax.constructor m mods w ps args body)) t2.1 h
    member_sound b of outer (syntax.inner m c) q k d h = d

    no_inner : (b : ℕ) (of : ClassKey) (x : syntax.Member A) → member_quiet b of x ≡ true → (k : MemberKey) → InInner begins ds Broken b of x k → ⊥
    unfolding InInner
    no_inner b of (syntax.field m mods t w init) q k h = h
    no_inner b of (syntax.method m mods t w ps body) q k h = h
    no_inner b of (syntax.constructor m mods w ps args body) q k h = h
    no_inner b of (syntax.inner m c) q k h = absurd cc

    members_sound : (b : ℕ) (of : ClassKey) → of.outer ≡ None → (xs : syntax.Members A) → members_quiet b of xs ≡ true → (k : MemberKey) → InMembers begins ds Broken b of xs k → ⊥
    unfolding InMembers
    members_sound b of outer syntax.end q k h = h
    members_sound b of outer (syntax.more x xs) q k (inl (inl (d, h))) = member_sound b of outer x (and_parts (member_quiet b of x) (members_quiet b of xs) q).0 k d h
    members_sound b of outer (syntax.more x xs) q k (inl (inr h)) = no_inner b of x (and_parts (member_quiet b of x) (members_quiet b of xs) q).0 k h
    members_sound b of outer (syntax.more x xs) q k (inr h) = members_sound b of outer xs (and_parts (member_quiet b of x) (members_quiet b of xs) q).1 k h

    classes_sound : (b : ℕ) (cs : List (syntax.Class A)) → classes_quiet b cs ≡ true → (k : MemberKey) → InClasses begins ds Broken b cs k → ⊥
    unfolding InClass
    classes_sound b [] q k h = h
    classes_sound b (syntax.class m mods w t ms ∷ cs) q k (inl (inl (is, h))) =
        let p = and_parts (quiet (head (class_key begins None w.text)) b (class_part (syntax.class m mods w t ms))) _ q in
        none_broken (head (class_key begins None w.text)) k is b (class_part (syntax.class m mods w t ms)) p.0 h
    classes_sound b (syntax.class m mods w t ms ∷ cs) q k (inl (inr h)) =
        let p = and_parts (quiet (head (class_key begins None w.text)) b (class_part (syntax.class m mods w t ms))) _ q in
        members_sound (begins m b) (class_key begins None w.text) refl ms (and_parts (members_quiet (begins m b) (class_key begins None w.text) ms) (classes_quiet b cs) p.1).0 k h
    classes_sound b (syntax.class m mods w t ms ∷ cs) q k (inr h) =
        let p = and_parts (quiet (head (class_key begins None w.text)) b (class_part (syntax.class m mods w t ms))) _ q in
        classes_sound b cs (and_parts (members_quiet (begins m b) (class_key begins None w.text) ms) (classes_quiet b cs) p.1).1 k h

module _ {A : Type 0} (begins : A → ℕ → ℕ) (rows : List Row) (are : AreRows rows) (found : KeysAreFound rows) (super_at : MemberKey → ℕ) (u : syntax.Unit A) where
  pub is_sound : all_top (declarations_of begins (u ∷ [])) ≡ true → classes_quiet begins rows (declarations_of begins (u ∷ [])) super_at (begins u.mark 0) u.classes ≡ true → IsSound begins rows super_at (u ∷ [])
  is_sound top q k e (inl h) = classes_sound begins rows (declarations_of begins (u ∷ [])) super_at are found top e (begins u.mark 0) u.classes q k h
  is_sound top q k e (inr h) = h
