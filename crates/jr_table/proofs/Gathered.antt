-- Member methods of a name, gathered row by row.
use Rattle.std.proofs.Common.{◌≡◌, Bool, true, false, cond, append_assoc, ℕ, zero, suc, ◌+◌, ◌<◌, ◌≤◌, List, [], ◌∷◌, ◌++◌, map, Option, Some, None, refl, sym, ap, subst, ◌∙◌, inl, inr, arith, length}
use Rattle.std.specs.Prelude.{slice_get, option_to_list, option_and_then, option_map, ◌⊎◌, ◌↔◌}
use Rattle.std.proofs.lemmas.Option.{slice_get_within}
use Rattle.jr_table.specs.declared.entries.Kind.{Kind}
use Rattle.jr_table.specs.declared.entries.Entry.{Entry}
use Rattle.jr_table.specs.Keys.{ClassKey, MethodKey}
use Rattle.jr_table.specs.Decls.{Decl, class_decl, method_decl, field_decl, constructor_decl, local_decl}
use Rattle.jr_table.specs.Rows.{Row}
use Rattle.jr_table.specs.Entries.{IsRowOf, number_of, kind_of, name_of, params_of, entry_of, entries_of, method_at, method_of}
use Rattle.jr_table.specs.Conditions.{AreRows}
use Rattle.jr_table.specs.Members.{DeclaresMethod, IsMemberMethod, IsMember, MemberAmong}
use Rattle.jr_table.specs.Keyed.{HasMethod}
use Rattle.jr_table.specs.MethodLists.{Among, StandInOrder, AreMethods}
use Rattle.jr_table.proofs.RowLaws.{number_stands, RowAt, row_at, entry_stands, some_inside, within}
use Rattle.std.specs.Str.{bytes_eq}
use Rattle.std.proofs.lemmas.Slice.Eq.{bytes_eq-Decides}
use Rattle.jr_table.specs.Calls as calls
use Rattle.jr_table.specs.Looking.{is_method, is_number, member}
use Rattle.jr_table.proofs.GatherLaws.{named_member}
use Rattle.jr_table.proofs.RowLaws.{acyclic_rows}
use Rattle.jr_table.proofs.OneEach.{one_method}
use Rattle.jr_table.proofs.MemberLaws.{Says, member_says, one_member}
use Rattle.jr_table.proofs.Testing.{method_says, and_true, is_number_is}
use Rattle.jr_table.proofs.Border.{member_declares, MethodHere, method_here, same_number}

-- a member method of the name
abbrev pub IsNamed : List Row → ℕ → List ℕ → ℕ → Type 0
IsNamed rows c name j = (params : List Kind) × IsMemberMethod (entries_of rows) name params c j

-- the keys' rows stand one behind the other, between two numbers
abbrev pub InOrder : List Row → ℕ → (end : ℕ) → List MethodKey → Type 0
InOrder rows from end [] = from ≤ end
InOrder rows from end (k ∷ ks) = (j : ℕ) × (from ≤ j) × IsRowOf rows (method_decl k) j × InOrder rows (suc j) end ks

-- these are the member methods of the name whose rows stand before number n
pub record Gathered (rows : List Row) (c : ℕ) (name : List ℕ) (n : ℕ) (keys : List MethodKey) : Type 0 where
  pub all : (j : ℕ) → j < n → IsNamed rows c name j → (m : MethodKey) × (method_at rows j ≡ Some m) × Among keys m
  pub only : (m : MethodKey) → Among keys m → (j : ℕ) × (j < n) × (method_at rows j ≡ Some m) × IsNamed rows c name j
  pub in_order : InOrder rows 0 n keys

among_left : (xs ys : List MethodKey) (m : MethodKey) → Among xs m → Among (xs ++ ys) m
among_left [] ys m h = absurd h
among_left (x ∷ xs) ys m (inl e) = inl e
among_left (x ∷ xs) ys m (inr h) = inr (among_left xs ys m h)

among_last : (xs : List MethodKey) (m : MethodKey) → Among (xs ++ m ∷ []) m
among_last [] m = inl refl
among_last (x ∷ xs) m = inr (among_last xs m)

among_either : (xs : List MethodKey) (k m : MethodKey) → Among (xs ++ k ∷ []) m → Among xs m ⊎ (k ≡ m)
among_either [] k m (inl e) = inr e
among_either [] k m (inr h) = absurd h
among_either (x ∷ xs) k m (inl e) = inl (inl e)
among_either (x ∷ xs) k m (inr h) = by (among_either xs k m h)
  where
    by : (Among xs m ⊎ (k ≡ m)) → Among (x ∷ xs) m ⊎ (k ≡ m)
    by (inl i) = inl (inr i)
    by (inr e) = inr e

module _ (rows : List Row) where
  further : (from n : ℕ) (ks : List MethodKey) → InOrder rows from n ks → InOrder rows from (n + 1) ks
  further from n [] h = omega (arith, h)
  further from n (k ∷ ks) (j, le, r, more) = (j, le, r, further (suc j) n ks more)

  one_behind : (from n : ℕ) (ks : List MethodKey) (m : MethodKey) → InOrder rows from n ks → IsRowOf rows (method_decl m) n → InOrder rows from (n + 1) (ks ++ m ∷ [])
  one_behind from n [] m h r = (n, h, r, omega arith)
  one_behind from n (k ∷ ks) m (j, le, s, more) r = (j, le, s, one_behind (suc j) n ks m more r)

  stand : (from n : ℕ) (ks : List MethodKey) → InOrder rows from n ks → StandInOrder rows from ks
  stand from n [] h = tt
  stand from n (k ∷ ks) (j, le, r, more) = (j, le, r, stand (suc j) n ks more)

  pub method_row : (j : ℕ) (m : MethodKey) → method_at rows j ≡ Some m → IsRowOf rows (method_decl m) j
  method_row j m h = by (slice_get rows j) refl h
    where
      is : (d : Decl) → method_of d ≡ Some m → d ≡ method_decl m
      is (method_decl k) h = let e : k ≡ m = cc in ap method_decl e
      is (class_decl k) h = absurd cc
      is (field_decl k) h = absurd cc
      is (constructor_decl k) h = absurd cc
      is (local_decl k) h = absurd cc

      by : (o : Option Row) → slice_get rows j ≡ o → option_and_then (λ (r : Row). method_of r.decl) o ≡ Some m → IsRowOf rows (method_decl m) j
      by None is' h = absurd cc
      by (Some r) is' h = record { row = r; stands = is'; declares = is r.decl h }

  pub row_method : (j : ℕ) (m : MethodKey) → IsRowOf rows (method_decl m) j → method_at rows j ≡ Some m
  row_method j m r = ap (option_and_then (λ (x : Row). method_of x.decl)) r.stands ∙ ap method_of r.declares

  -- a member method of the name is a method's row
  named_here : (c : ℕ) (name : List ℕ) (j : ℕ) → IsNamed rows c name j → MethodHere rows j
  named_here c name j (params, m) =
      let d = member_declares (entries_of rows) (DeclaresMethod (entries_of rows) name params) m.chain j m.among in
      method_here rows name params d.0 j d.1

  module _ (are : AreRows rows) where
    says : (name : List ℕ) (params : List Kind) (c : ℕ) → Says (IsMemberMethod (entries_of rows) name params c) (member (entries_of rows) (is_method name params) c)
    says name params c = member_says (entries_of rows) (DeclaresMethod (entries_of rows) name params) (is_method name params) (method_says (entries_of rows) name params) (one_method rows are name params) (acyclic_rows rows are) c

    pub record NamedEntry (c : ℕ) (name : List ℕ) (j : ℕ) : Type 0 where
      pub entry : Entry
      pub stands : slice_get (entries_of rows) j ≡ Some entry
      pub named : entry.name ≡ name
      pub found : member (entries_of rows) (is_method name entry.params) c ≡ Some j

    pub named_entry : (c : ℕ) (name : List ℕ) (j : ℕ) → IsNamed rows c name j → NamedEntry c name j
    named_entry c name j (params, m) =
        let d = member_declares (entries_of rows) (DeclaresMethod (entries_of rows) name params) m.chain j m.among in
        record { entry = d.1.row; stands = d.1.stands; named = d.1.named; found = ap (λ p. member (entries_of rows) (is_method name p) c) d.1.takes ∙ of (member (entries_of rows) (is_method name params) c) (says name params c) }
      where
        of : (o : Option ℕ) → Says (IsMemberMethod (entries_of rows) name params c) o → o ≡ Some j
        of None none = absurd (none j m)
        of (Some k) n = ap Some (one_member (entries_of rows) (DeclaresMethod (entries_of rows) name params) (is_method name params) (method_says (entries_of rows) name params) (one_method rows are name params) (acyclic_rows rows are) c k j n m)

    pub is_named : (c : ℕ) (name : List ℕ) (params : List Kind) (j : ℕ) → member (entries_of rows) (is_method name params) c ≡ Some j → IsNamed rows c name j
    is_named c name params j h = (params, let m : Says (IsMemberMethod (entries_of rows) name params c) (Some j) = subst (Says (IsMemberMethod (entries_of rows) name params c)) h (says name params c) in m)

  split : (a b : ℕ) → a < b + 1 → (a < b) ⊎ (a ≡ b)
  split a b h = grind arith

  pub gathered_none : (c : ℕ) (name : List ℕ) → Gathered rows c name 0 []
  gathered_none c name = record { all = λ j lt. absurd (omega (arith, lt)); only = λ m h. absurd h; in_order = omega arith }

  pub gathered_more : (c : ℕ) (name : List ℕ) (n : ℕ) (keys new : List MethodKey) → Gathered rows c name n keys → IsNamed rows c name n → new ≡ keys ++ option_to_list (method_at rows n) → Gathered rows c name (n + 1) new
  gathered_more c name n keys new g here is = subst (Gathered rows c name (n + 1)) (sym (is ∙ ap (λ o. keys ++ option_to_list o) m.at)) (record { all = all; only = only; in_order = one_behind 0 n keys m.key g.in_order m.row })
    where
      m : MethodHere rows n
      m = named_here c name n here

      all : (j : ℕ) → j < n + 1 → IsNamed rows c name j → (k : MethodKey) × (method_at rows j ≡ Some k) × Among (keys ++ m.key ∷ []) k
      all j lt h = by (split j n lt)
        where
          by : ((j < n) ⊎ (j ≡ n)) → (k : MethodKey) × (method_at rows j ≡ Some k) × Among (keys ++ m.key ∷ []) k
          by (inl less) = let k = g.all j less h in (k.0, k.1, among_left keys (m.key ∷ []) k.0 k.2)
          by (inr e) = (m.key, ap (method_at rows) e ∙ m.at, among_last keys m.key)

      only : (k : MethodKey) → Among (keys ++ m.key ∷ []) k → (j : ℕ) × (j < n + 1) × (method_at rows j ≡ Some k) × IsNamed rows c name j
      only k h = by (among_either keys m.key k h)
        where
          by : (Among keys k ⊎ (m.key ≡ k)) → (j : ℕ) × (j < n + 1) × (method_at rows j ≡ Some k) × IsNamed rows c name j
          by (inl i) = let o = g.only k i in (o.0, let lt = o.1 in omega (arith, lt), o.2, o.3)
          by (inr e) = (n, omega arith, m.at ∙ ap Some e, here)

  pub gathered_same : (c : ℕ) (name : List ℕ) (n : ℕ) (keys : List MethodKey) → Gathered rows c name n keys → (IsNamed rows c name n → ⊥) → Gathered rows c name (n + 1) keys
  gathered_same c name n keys g none = record { all = all; only = λ m h. let o = g.only m h in (o.0, let lt = o.1 in omega (arith, lt), o.2, o.3); in_order = further 0 n keys g.in_order }
    where
      all : (j : ℕ) → j < n + 1 → IsNamed rows c name j → (k : MethodKey) × (method_at rows j ≡ Some k) × Among keys k
      all j lt h = by (split j n lt)
        where
          by : ((j < n) ⊎ (j ≡ n)) → (k : MethodKey) × (method_at rows j ≡ Some k) × Among keys k
          by (inl less) = g.all j less h
          by (inr e) = absurd (none (subst (IsNamed rows c name) e h))

  -- what is gathered of all the rows
  pub are_methods : AreRows rows → (of : ClassKey) (c : ℕ) (name : List ℕ) (n : ℕ) (keys : List MethodKey) → number_of rows (class_decl of) ≡ Some c → length rows ≤ n → Gathered rows c name n keys → AreMethods rows of name keys
  are_methods are of c name n keys at le g = record { in_order = stand 0 n keys g.in_order; exact = λ m. (to m, back m) }
    where
      to : (m : MethodKey) → Among keys m → HasMethod rows of m × (m.name ≡ name)
      to m h =
          let o = g.only m h in
          let r = method_row o.0 m o.2 in
          let member = o.3.1 in
          let d = member_declares (entries_of rows) (DeclaresMethod (entries_of rows) name o.3.0) member.chain o.0 member.among in
          let is : d.1.row ≡ entry_of rows r.row = some_inside (slice_get (entries_of rows) o.0) d.1.row (entry_of rows r.row) d.1.stands (entry_stands rows o.0 r.row r.stands) in
          let named : m.name ≡ name = sym (ap (λ (x : Entry). x.name) is ∙ ap name_of r.declares) ∙ d.1.named in
          let takes : o.3.0 ≡ map (kind_of rows) m.params = sym d.1.takes ∙ ap (λ (x : Entry). x.params) is ∙ ap (λ x. map (kind_of rows) (params_of x)) r.declares in (
            record {
              c = c;
              j = o.0;
              place = number_stands rows (class_decl of) c at;
              row = r;
              member = subst (λ (p : List Kind). IsMemberMethod (entries_of rows) m.name p c o.0) takes (subst (λ (q : List ℕ). IsMemberMethod (entries_of rows) q o.3.0 c o.0) (sym named) member);
            },
            named,
          )

      inside : (j : ℕ) (m k : MethodKey) → method_at rows j ≡ Some m → method_at rows j ≡ Some k → Among keys k → Among keys m
      inside j m k e f h = subst (Among keys) (some_inside (method_at rows j) k m f e) h

      back : (m : MethodKey) → HasMethod rows of m × (m.name ≡ name) → Among keys m
      back m (h, named) =
          let lt = within rows (method_decl m) h.j h.row in
          let member : IsMemberMethod (entries_of rows) name (map (kind_of rows) m.params) c h.j =
          subst (λ (x : ℕ). IsMemberMethod (entries_of rows) name (map (kind_of rows) m.params) x h.j) (same_number rows are (class_decl of) c h.c at h.place)
          (subst (λ (q : List ℕ). IsMemberMethod (entries_of rows) q (map (kind_of rows) m.params) h.c h.j) named h.member) in
          let k = g.all h.j (omega (arith, lt, le)) (map (kind_of rows) m.params, member) in
          inside h.j m k.0 (row_method h.j m h.row) k.1 k.2

  -- a class without a row has no members
  pub no_methods : (of : ClassKey) (name : List ℕ) → ((n : ℕ) → IsRowOf rows (class_decl of) n → ⊥) → AreMethods rows of name []
  no_methods of name none = record { in_order = tt; exact = λ m. (λ h. absurd h, λ h. absurd (none h.0.c h.0.place)) }

-- the keys of the methods at these numbers
abbrev pub keys_at : List Row → List ℕ → List MethodKey
keys_at rows [] = []
keys_at rows (j ∷ js) = option_to_list (method_at rows j) ++ keys_at rows js

pub keys_more : (rows : List Row) (js : List ℕ) (j : ℕ) → keys_at rows (js ++ j ∷ []) ≡ keys_at rows js ++ option_to_list (method_at rows j)
keys_more rows [] j = nothing (option_to_list (method_at rows j))
  where
    nothing : (ks : List MethodKey) → ks ++ [] ≡ ks
    nothing [] = refl
    nothing (k ∷ ks) = ap (λ ls. k ∷ ls) (nothing ks)
keys_more rows (i ∷ js) j = ap (λ ks. option_to_list (method_at rows i) ++ ks) (keys_more rows js j) ∙ sym (append_assoc (option_to_list (method_at rows i)) (keys_at rows js) (option_to_list (method_at rows j)))

module _ (rows : List Row) (are : AreRows rows) (c : ℕ) (name : List ℕ) where
  tests_named : (j : ℕ) → calls.is_named (entries_of rows) name c j ≡ true → IsNamed rows c name j
  tests_named j h = is_named rows are c name (calls.params_at (entries_of rows) j) j (named_member rows are name c j h)

  named_tests : (j : ℕ) → IsNamed rows c name j → calls.is_named (entries_of rows) name c j ≡ true
  unfolding calls.is_named
  named_tests j h =
      let e = named_entry rows are c name j h in
      ap (calls.is_named_entry (entries_of rows) name c j) e.stands
      ∙ and_true (bytes_eq e.entry.name name) (is_number (member (entries_of rows) (is_method name e.entry.params) c) j) ((bytes_eq-Decides e.entry.name name).1 e.named) (is_number_is (member (entries_of rows) (is_method name e.entry.params) c) j e.found)

  -- those that pass are gathered
  pub passing_gathered : (n : ℕ) → Gathered rows c name n (keys_at rows (calls.passing (calls.is_named (entries_of rows) name c) n))
  passing_gathered zero = gathered_none rows c name
  passing_gathered (suc n) = by (calls.is_named (entries_of rows) name c n) refl (passing_gathered n)
    where
      js : List ℕ
      js = calls.passing (calls.is_named (entries_of rows) name c) n

      next : (m k : ℕ) (ks : List MethodKey) → m ≡ k → Gathered rows c name m ks → Gathered rows c name k ks
      next m k ks e g = subst (λ n. Gathered rows c name n ks) e g

      none_more : (js : List ℕ) → js ++ [] ≡ js
      none_more [] = refl
      none_more (j ∷ js) = ap (λ ks. j ∷ ks) (none_more js)

      by : (b : Bool) → calls.is_named (entries_of rows) name c n ≡ b → Gathered rows c name n (keys_at rows js) → Gathered rows c name (suc n) (keys_at rows (js ++ cond b (n ∷ []) []))
      by true e g = next (n + 1) (suc n) _ (omega arith) (gathered_more rows c name n (keys_at rows js) (keys_at rows (js ++ n ∷ [])) g (tests_named n e) (keys_more rows js n))
      by false e g = next (n + 1) (suc n) _ (omega arith) (subst (Gathered rows c name (n + 1)) (ap (keys_at rows) (sym (none_more js))) (gathered_same rows c name n (keys_at rows js) g (λ h. let t = named_tests n h in absurd cc)))
