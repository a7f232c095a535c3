-- The first place where a member of one file of top-level classes breaks a rule, computed: it is broken there.
use Rattle.std.proofs.Common.{◌≡◌, ℕ, ◌+◌, ◌-◌, List, [], ◌∷◌, map, Option, Some, None, Bool, true, false, refl, sym, ap, subst, inl, inr, eqb-true}
use Rattle.std.specs.Prelude.{◌⊎◌, nat_eq}
use Rattle.jr_ast.specs.MemberTree as syntax
use Rattle.jr_table.specs.Keys.{ClassKey}
use Rattle.jr_table.specs.Decls.{MemberKey, head, field, method, constructor}
use Rattle.jr_table.specs.Rows.{Row}
use Rattle.jr_table.specs.Conditions.{AreRows}
use Rattle.jr_table.specs.LookupLaws.{KeysAreFound}
use Rattle.jr_table.specs.DeclaredItems.{DeclaredItem, param_declaration, class_key, declarations_of}
use Rattle.jr_table.specs.Notes.{Note, refers, breaks, Has}
use Rattle.jr_table.specs.Walks.{part_notes}
use Rattle.jr_table.specs.Errors.{Part, class_part, member_part, part_mark, Breaks, Declares, InClass, InMembers, InClasses, HasError, rule_rank}
use Rattle.jr_table.specs.declared.rules.Rule.{Rule}
use Rattle.jr_table.proofs.MemberNotes.{part_breaks}
use Rattle.jr_code_cases.proofs.TopTypes.{all_top, meanings, have_meanings, mean}
use Rattle.jr_code_cases.proofs.ComputedProgram.{method_key, ctor_key}

-- a member, a place counted from its first byte, and a rule
pub record Wrong : Type 0 where
  pub key : MemberKey
  pub at : ℕ
  pub rule : Rule

abbrev first_some : Option Wrong → Option Wrong → Option Wrong
first_some None later = later
first_some (Some x) later = Some x

first_is : (o p : Option Wrong) (x : Wrong) (P Q : Type 0) → (o ≡ Some x → P) → (p ≡ Some x → Q) → first_some o p ≡ Some x → P ⊎ Q
first_is None p x P Q f g e = inr (g e)
first_is (Some y) p x P Q f g e = inl (f e)

abbrev if_wanted : Bool → ℕ → Rule → Option (ℕ × Rule) → Option (ℕ × Rule)
if_wanted true at r later = Some (at, r)
if_wanted false at r later = later

-- where the rule is first broken
abbrev first_broken : Rule → List Note → Option (ℕ × Rule)
first_broken wanted [] = None
first_broken wanted (refers at d ∷ ns) = first_broken wanted ns
first_broken wanted (breaks at r ∷ ns) = if_wanted (nat_eq (rule_rank r) (rule_rank wanted)) at r (first_broken wanted ns)

abbrev place_or : ℕ → Option (ℕ × Rule) → ℕ
place_or at None = at
place_or at (Some p) = p.0

abbrev rule_or : Rule → Option (ℕ × Rule) → Rule
rule_or r None = r
rule_or r (Some p) = p.1

wanted_has : (b : Bool) (i : ℕ) (s : Rule) (later : Option (ℕ × Rule)) (ns : List Note) (at : ℕ) (r : Rule) → (later ≡ Some (at, r) → Has ns (breaks at r)) → if_wanted b i s later ≡ Some (at, r) → Has (breaks i s ∷ ns) (breaks at r)
wanted_has true i s later ns at r again e = inl (λ j. breaks (ap (place_or i) e j) (ap (rule_or s) e j))
wanted_has false i s later ns at r again e = inr (again e)

broken_has : (wanted : Rule) (ns : List Note) (at : ℕ) (r : Rule) → first_broken wanted ns ≡ Some (at, r) → Has ns (breaks at r)
broken_has wanted [] at r e = absurd cc
broken_has wanted (refers i d ∷ ns) at r e = inr (broken_has wanted ns at r e)
broken_has wanted (breaks i s ∷ ns) at r e = wanted_has (nat_eq (rule_rank s) (rule_rank wanted)) i s (first_broken wanted ns) ns at r (λ h. broken_has wanted ns at r h) e

abbrev if_back : MemberKey → ℕ → ℕ → Rule → Bool → Option Wrong
if_back k from at r true = Some (record { key = k; at = at - from; rule = r })
if_back k from at r false = None

-- a place, counted from where the member begins
abbrev counted : MemberKey → ℕ → Option (ℕ × Rule) → Option Wrong
counted k from None = None
counted k from (Some p) = if_back k from p.0 p.1 (nat_eq (from + (p.0 - from)) p.0)

pub record IsCounted (k : MemberKey) (from : ℕ) (o : Option (ℕ × Rule)) (x : Wrong) : Type 0 where
  pub at : ℕ
  pub is : o ≡ Some (at, x.rule)
  pub key : x.key ≡ k
  pub sum : from + x.at ≡ at

counted_by : (k : MemberKey) (from : ℕ) (p : ℕ × Rule) (x : Wrong) (b : Bool) → nat_eq (from + (p.0 - from)) p.0 ≡ b → if_back k from p.0 p.1 b ≡ Some x → IsCounted k from (Some p) x
counted_by k from p x true is e = let same : record { key = k; at = p.0 - from; rule = p.1 } ≡ x = cc in subst (IsCounted k from (Some p)) same (record { at = p.0; is = refl; key = refl; sum = eqb-true (from + (p.0 - from)) p.0 is })
counted_by k from p x false is e = absurd cc

counted_is : (k : MemberKey) (from : ℕ) (o : Option (ℕ × Rule)) (x : Wrong) → counted k from o ≡ Some x → IsCounted k from o x
counted_is k from None x e = absurd cc
counted_is k from (Some p) x e = counted_by k from p x (nat_eq (from + (p.0 - from)) p.0) refl e

abbrev if_some : Bool → Option Wrong → Option Wrong
if_some true o = o
if_some false o = None

module _ {A : Type 0} (begins : A → ℕ → ℕ) (rows : List Row) (ds : List DeclaredItem) (super_at : MemberKey → ℕ) (wanted : Rule) where
  abbrev part_wrong : MemberKey → ℕ → Part A → Option Wrong
  part_wrong k b p = counted k (begins (part_mark p) b) (first_broken wanted (part_notes begins rows (super_at k) k b p))

  abbrev member_wrong : (base : ℕ) → ClassKey → syntax.Member A → Option Wrong
  member_wrong b of (syntax.field m mods t w init) = part_wrong (field (record { class = of; name = w.text })) b (member_part (syntax.field m mods t w init))
  member_wrong b of (syntax.method m mods t w ps body) =
      if_some (have_meanings ds (map (param_declaration begins (begins m b)) ps)) (part_wrong (method (method_key begins begins rows b of m w ps)) b (member_part (syntax.method m mods t w ps body)))
  member_wrong b of (syntax.constructor m mods w ps args body) =
      if_some (have_meanings ds (map (param_declaration begins (begins m b)) ps)) (part_wrong (constructor (ctor_key begins begins rows b of m ps)) b (member_part (syntax.constructor m mods w ps args body)))
  member_wrong b of (syntax.inner m c) = None

  abbrev members_wrong : (base : ℕ) → ClassKey → syntax.Members A → Option Wrong
  members_wrong b of syntax.end = None
  members_wrong b of (syntax.more x xs) = first_some (member_wrong b of x) (members_wrong b of xs)

  abbrev pub classes_wrong : (base : ℕ) → List (syntax.Class A) → Option Wrong
  classes_wrong b [] = None
  classes_wrong b (syntax.class m mods w t ms ∷ cs) =
      first_some (first_some (part_wrong (head (class_key begins None w.text)) b (class_part (syntax.class m mods w t ms))) (members_wrong (begins m b) (class_key begins None w.text) ms)) (classes_wrong b cs)

  module _ (are : AreRows rows) (found : KeysAreFound rows) (top : all_top ds ≡ true) (x : Wrong) where
    abbrev Here : MemberKey → (base : ℕ) → Part A → Type 0
    Here k b p = Breaks begins rows (super_at k) k b p (begins (part_mark p) b + x.at) x.rule

    part_is : (k : MemberKey) (b : ℕ) (p : Part A) → part_wrong k b p ≡ Some x → (x.key ≡ k) × Here x.key b p
    part_is k b p e =
        let c = counted_is k (begins (part_mark p) b) (first_broken wanted (part_notes begins rows (super_at k) k b p)) x e in
        let h : Here k b p = subst (λ (n : ℕ). Breaks begins rows (super_at k) k b p n x.rule) (sym c.sum) ((part_breaks begins rows are found (super_at k) k b p c.at x.rule).0 (broken_has wanted (part_notes begins rows (super_at k) k b p) c.at x.rule c.is)) in
        (c.key, subst (λ (j : MemberKey). Here j b p) (sym c.key) h)

    if_is : (b : Bool) (o : Option Wrong) → if_some b o ≡ Some x → (b ≡ true) × (o ≡ Some x)
    if_is true o e = (refl, e)
    if_is false o e = absurd cc

    member_is : (b : ℕ) (of : ClassKey) → of.outer ≡ None → (m : syntax.Member A) → member_wrong b of m ≡ Some x → Declares begins ds b of m x.key × Here x.key b (member_part m)
    member_is b of outer (syntax.field m mods t w init) e = part_is (field (record { class = of; name = w.text })) b (member_part (syntax.field m mods t w init)) e
    member_is b of outer (syntax.method m mods t w ps body) e =
        let i = if_is (have_meanings ds (map (param_declaration begins (begins m b)) ps)) _ e in
        let h = part_is (method (method_key begins begins rows b of m w ps)) b (member_part (syntax.method m mods t w ps body)) i.1 in
        ((meanings (map (param_declaration begins (begins m b)) ps), mean ds top of outer (map (param_declaration begins (begins m b)) ps) i.0, h.0), h.1)
    member_is b of outer (syntax.constructor m mods w ps args body) e =
        let i = if_is (have_meanings ds (map (param_declaration begins (begins m b)) ps)) _ e in
        let h = part_is (constructor (ctor_key begins begins rows b of m ps)) b (member_part (syntax.constructor m mods w ps args body)) i.1 in
        ((meanings (map (param_declaration begins (begins m b)) ps), mean ds top of outer (map (param_declaration begins (begins m b)) ps) i.0, h.0), h.1)
    member_is b of outer (syntax.inner m c) e = absurd cc

    members_are : (b : ℕ) (of : ClassKey) → of.outer ≡ None → (xs : syntax.Members A) → members_wrong b of xs ≡ Some x → InMembers begins ds Here b of xs x.key
    unfolding InMembers
    members_are b of outer syntax.end e = absurd cc
    members_are b of outer (syntax.more y ys) e =
        elim (first_is (member_wrong b of y) (members_wrong b of ys) x (Declares begins ds b of y x.key × Here x.key b (member_part y)) (InMembers begins ds Here b of ys x.key) (λ i. member_is b of outer y i) (λ i. members_are b of outer ys i) e) [
          | inl h ↦ inl (inl h)
          | inr h ↦ inr h
        ]

    classes_are : (b : ℕ) (cs : List (syntax.Class A)) → classes_wrong b cs ≡ Some x → InClasses begins ds Here b cs x.key
    unfolding InClass
    classes_are b [] e = absurd cc
    classes_are b (syntax.class m mods w t ms ∷ cs) e =
        let k = head (class_key begins None w.text) in
        elim (first_is (first_some (part_wrong k b (class_part (syntax.class m mods w t ms))) (members_wrong (begins m b) (class_key begins None w.text) ms)) (classes_wrong b cs) x (InClass begins ds Here b None (syntax.class m mods w t ms) x.key) (InClasses begins ds Here b cs x.key)
        (λ i. first_is (part_wrong k b (class_part (syntax.class m mods w t ms))) (members_wrong (begins m b) (class_key begins None w.text) ms) x ((x.key ≡ k) × Here x.key b (class_part (syntax.class m mods w t ms))) (InMembers begins ds Here (begins m b) (class_key begins None w.text) ms x.key)
        (λ j. part_is k b (class_part (syntax.class m mods w t ms)) j) (λ j. members_are (begins m b) (class_key begins None w.text) refl ms j) i)
        (λ i. classes_are b cs i) e) [
          | inl h ↦ inl h
          | inr h ↦ inr h
        ]

abbrev pub rule_of : Option Wrong → Option Rule
rule_of None = None
rule_of (Some x) = Some x.rule

module _ {A : Type 0} (begins : A → ℕ → ℕ) (rows : List Row) (are : AreRows rows) (found : KeysAreFound rows) (super_at : MemberKey → ℕ) (u : syntax.Unit A) (top : all_top (declarations_of begins (u ∷ [])) ≡ true) (wanted : Rule) where
  abbrev wrong : Option Wrong
  wrong = classes_wrong begins rows (declarations_of begins (u ∷ [])) super_at wanted (begins u.mark 0) u.classes

  pub has_error : rule_of wrong ≡ Some wanted → (k : MemberKey) × (at : ℕ) × HasError begins rows super_at (u ∷ []) k (record { at = at; rule = wanted })
  has_error e = by wrong refl e
    where
      by : (o : Option Wrong) → wrong ≡ o → rule_of o ≡ Some wanted → (k : MemberKey) × (at : ℕ) × HasError begins rows super_at (u ∷ []) k (record { at = at; rule = wanted })
      by None is e = absurd cc
      by (Some x) is e = let same : x.rule ≡ wanted = cc in
          (x.key, x.at, subst (λ (s : Rule). HasError begins rows super_at (u ∷ []) x.key (record { at = x.at; rule = s })) same (inl (classes_are begins rows (declarations_of begins (u ∷ [])) super_at wanted are found top x (begins u.mark 0) u.classes is)))
