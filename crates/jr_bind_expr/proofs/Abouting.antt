-- What is known of a variable, by numbers, is what is said by keys.
use Rattle.std.proofs.Common.{◌≡◌, ◌≢◌, ℕ, List, [], ◌∷◌, map, Option, Some, None, Bool, true, false, cond, refl, sym, ap, subst, ◌∙◌}
use Rattle.std.specs.Prelude.{slice_get, option_map, option_and_then, ◌==◌, ◌&&◌, not, nat_lt}
use Rattle.jr_table.specs.Keys.{ClassKey, FieldKey, MethodKey, CtorKey, class}
use Rattle.jr_table.specs.Decls.{MemberKey, head, field, method, constructor, LocalKey, Decl, class_decl, field_decl, method_decl, constructor_decl, local_decl}
use Rattle.jr_table.specs.Rows.{Row}
use Rattle.jr_table.specs.SameKeys.{same_class}
use Rattle.jr_table.specs.SameDecls.{same_local, local_decides, member_decides}
use Rattle.jr_table.specs.Entries.{number_of, class_number, kind_of, entry_of, entries_of, class_of, class_of_member, is_static_word}
use Rattle.jr_table.specs.Conditions.{AreRows, as_declarer}
use Rattle.jr_table.specs.Found.{Found, one, many, not_accessible, from_static}
use Rattle.jr_table.specs.Found as found
use Rattle.jr_table.specs.declared.answers.Answer.{Answer}
use Rattle.jr_table.specs.declared.answers.Answer.TheVariants.{One, Nothing, Many, NotAccessible, FromStatic}
use Rattle.jr_table.specs.Scope.{Scope}
use Rattle.jr_table.specs.TypeNames.{find_type}
use Rattle.jr_table.specs.Fields.{find_member_type}
use Rattle.jr_table.specs.Lookup.{decl_at, shown_one, shown_two, shown, find_type_named, find_type_of}
use Rattle.jr_table.specs.Context.{LocalType, known, written, Local, Context, scope_of, is_final_word}
use Rattle.jr_table.specs.Meanings.{first_some, row_of, test_row, class_found, type_of_local, local_of_key}
use Rattle.jr_table.specs.Notes as pure
use Rattle.jr_table.specs.Notes.{test_local, has_word}
use Rattle.jr_table.proofs.RowLaws.{the_number, entry_stands}
use Rattle.jr_bind_expr.specs.declared.places.Place.{Place}
use Rattle.jr_scopes.specs.Tracked.{locals_of}
use Rattle.jr_scopes.specs.Helds.{Held, held_of, key_of, local_of, or_later, numbered}
use Rattle.jr_bind_expr.specs.Places.{member_of, context_of, decl_of, bare, IsTyped, AreTyped, Knows}
use Rattle.jr_bind_expr.specs.Abouts.{IsAbout, nothing, is_own, facts_of, about_local, about_field, about_other, is_ctor, is_field, is_instance_of, kind_at, has_final}
use Rattle.jr_bind_expr.proofs.Scoped.{class_is}
use Rattle.jr_bind_expr.proofs.TypeTests.{classes_are}

regroup : (a b c : Bool) → ((a && b) && c) ≡ (a && (b && c))
regroup true b c = refl
regroup false b c = refl

and_true : (b : Bool) → (b && true) ≡ b
and_true true = refl
and_true false = refl

module _ (k : MemberKey) where
  same_key : (m n : ℕ) → same_local (key_of k m) (key_of k n) ≡ (m == n)
  same_key m n = ap (λ b. (m == n) && b) ((member_decides k k).1 refl) ∙ and_true (m == n)

  one_more : (o : Option Held) (h : Held) (b : Bool) → first_some (option_map (local_of k) o) (cond b (Some (local_of k h)) None) ≡ option_map (local_of k) (or_later o (cond b (Some h) None))
  one_more (Some x) h b = refl
  one_more None h true = refl
  one_more None h false = refl

  -- the last local of a number
  pub numbered_is : (n : ℕ) (hs : List Held) → local_of_key (key_of k n) (map (local_of k) hs) ≡ option_map (local_of k) (numbered n hs)
  numbered_is n [] = refl
  numbered_is n (h ∷ hs) = (λ i. first_some (numbered_is n hs i) (cond (same_key h.number n i) (Some (local_of k h)) None)) ∙ one_more (numbered n hs) h (h.number == n)

  foreign_test : (q : LocalKey) → q.member ≢ k → (m : ℕ) → same_local (key_of k m) q ≡ false
  foreign_test q differs m = by (same_local (key_of k m) q) refl
    where
      by : (b : Bool) → same_local (key_of k m) q ≡ b → b ≡ false
      by true e = absurd (differs (sym (ap (λ (x : LocalKey). x.member) ((local_decides (key_of k m) q).0 e))))
      by false e = refl

  -- a local of another member
  pub foreign : (q : LocalKey) → q.member ≢ k → (hs : List Held) → local_of_key q (map (local_of k) hs) ≡ None
  foreign q differs [] = refl
  foreign q differs (h ∷ hs) = λ i. first_some (foreign q differs hs i) (cond (foreign_test q differs h.number i) (Some (local_of k h)) None)

  own_is : (own : Option ℕ) (n : ℕ) → is_own own n ≡ pure.is_own (option_map (key_of k) own) (key_of k n)
  own_is None n = refl
  own_is (Some m) n = sym (same_key m n)

  foreign_own : (q : LocalKey) → q.member ≢ k → (own : Option ℕ) → false ≡ pure.is_own (option_map (key_of k) own) q
  foreign_own q differs None = refl
  foreign_own q differs (Some m) = sym (foreign_test q differs m)

module _ (rows : List Row) where
  typed_at : (k : MemberKey) (hs : List Held) → AreTyped rows k hs → (n : ℕ) (h : Held) → numbered n hs ≡ Some h → IsTyped rows k h
  typed_at k [] all n h e = absurd cc
  typed_at k (x ∷ hs) all n h e = by (numbered n hs) refl (x.number == n) e (typed_at k hs all.1 n h)
    where
      by : (o : Option Held) → numbered n hs ≡ o → (b : Bool) → or_later o (cond b (Some x) None) ≡ Some h → (numbered n hs ≡ Some h → IsTyped rows k h) → IsTyped rows k h
      by (Some y) f b g more = more (f ∙ g)
      by None f true g more = let same : x ≡ h = cc in subst (IsTyped rows k) same all.0
      by None f false g more = absurd cc

  -- a type's name means the same in all scopes of a class
  pub bare_type : (s : Scope) (k : MemberKey) → s.class ≡ class_of_member k → (t : LocalType) → type_of_local rows s t ≡ type_of_local rows (bare k) t
  unfolding find_type_named find_type_of
  bare_type s k e (known t) = refl
  bare_type s k e (written None name) = λ i. option_map class (class_found (shown rows (find_type rows (class_number rows (e i)) name)))
  bare_type s k e (written (Some outer) name) = λ i. option_map class (option_and_then (λ o. class_found (shown rows (find_member_type (entries_of rows) (class_number rows (e i)) (class_number rows o) name))) (class_found (shown rows (find_type rows (class_number rows (e i)) outer))))

  module _ (p : Place) (knows : Knows rows p) where
    pub local_about : (n : ℕ) → IsAbout rows (context_of p) (one (local_decl (key_of (member_of p) n))) (about_local (is_own p.own n) (option_map facts_of (numbered n (map held_of (locals_of p.locals)))))
    unfolding context_of
    local_about n = by (numbered n (map held_of (locals_of p.locals))) refl
      where
        by : (o : Option Held) → numbered n (map held_of (locals_of p.locals)) ≡ o → IsAbout rows (context_of p) (one (local_decl (key_of (member_of p) n))) (about_local (is_own p.own n) (option_map facts_of o))
        by None e =
            let found = numbered_is (member_of p) n (map held_of (locals_of p.locals)) ∙ ap (option_map (local_of (member_of p))) e in
            record {
              kind = sym (ap (λ x. option_map (kind_of rows) (option_and_then (λ (l : Local). type_of_local rows (scope_of (context_of p)) l.type) x)) found);
              final = sym (ap (test_local (λ l. l.is_final)) found);
              fixed = sym (ap (λ x. test_local (λ l. l.is_final) x && true) found);
              constant = sym (ap (λ x. test_local (λ l. l.is_final) x && test_local (λ l. l.has_init) x) found);
              forward = own_is (member_of p) p.own n;
            }
        by (Some h) e =
            let found = numbered_is (member_of p) n (map held_of (locals_of p.locals)) ∙ ap (option_map (local_of (member_of p))) e in
            let typed = typed_at (member_of p) (map held_of (locals_of p.locals)) knows.typed n h e in
            record {
              kind = typed.kind ∙ sym (ap (option_map (kind_of rows)) (bare_type (scope_of (context_of p)) (member_of p) refl h.type)) ∙ sym (ap (λ x. option_map (kind_of rows) (option_and_then (λ (l : Local). type_of_local rows (scope_of (context_of p)) l.type) x)) found);
              final = sym (ap (test_local (λ l. l.is_final)) found);
              fixed = sym (and_true h.is_final) ∙ sym (ap (λ x. test_local (λ l. l.is_final) x && true) found);
              constant = sym (ap (λ x. test_local (λ l. l.is_final) x && test_local (λ l. l.has_init) x) found);
              forward = own_is (member_of p) p.own n;
            }

    pub foreign_about : (q : LocalKey) → q.member ≢ member_of p → IsAbout rows (context_of p) (one (local_decl q)) nothing
    unfolding context_of
    foreign_about q differs =
        let found = foreign (member_of p) q differs (map held_of (locals_of p.locals)) in
        record {
          kind = sym (ap (λ x. option_map (kind_of rows) (option_and_then (λ (l : Local). type_of_local rows (scope_of (context_of p)) l.type) x)) found);
          final = sym (ap (test_local (λ l. l.is_final)) found);
          fixed = sym (ap (λ x. test_local (λ l. l.is_final) x && true) found);
          constant = sym (ap (λ x. test_local (λ l. l.is_final) x && test_local (λ l. l.has_init) x) found);
          forward = foreign_own (member_of p) q differs p.own;
        }

  module _ (are : AreRows rows) where
    -- the row of what row j declares
    pub row_is : (j : ℕ) (r : Row) → slice_get rows j ≡ Some r → row_of rows r.decl ≡ Some r
    unfolding row_of
    row_is j r at = ap (option_and_then (λ j. slice_get rows j)) (the_number rows are r.decl j (record { row = r; stands = at; declares = refl })) ∙ at

    kind_is : (j : ℕ) (r : Row) → slice_get rows j ≡ Some r → kind_at (slice_get (entries_of rows) j) ≡ option_map (kind_of rows) r.type
    kind_is j r at = ap kind_at (entry_stands rows j r at)

    pub shown_is : (j : ℕ) (r : Row) → slice_get rows j ≡ Some r → (d : Decl) → r.decl ≡ d → shown rows (One j) ≡ one d
    unfolding shown
    shown_is j r at d e = ap (λ o. shown_one one (option_map (λ (x : Row). x.decl) o)) at ∙ ap one e

    -- what declares no variable
    module _ (c : Context) (j : ℕ) (r : Row) (at : slice_get rows j ≡ Some r) where
      pub class_about : (k : ClassKey) → r.decl ≡ class_decl k → IsAbout rows c (shown rows (One j)) (about_other (slice_get (entries_of rows) j) r)
      class_about k e = subst (λ f. IsAbout rows c f (about_other (slice_get (entries_of rows) j) r)) (sym (shown_is j r at (class_decl k) e)) (of (ap (row_of rows) (sym e) ∙ row_is j r at))
        where
          of : row_of rows (class_decl k) ≡ Some r → IsAbout rows c (one (class_decl k)) (about_other (slice_get (entries_of rows) j) r)
          of is = record {
            kind = kind_is j r at ∙ sym (ap (λ o. option_map (kind_of rows) (option_and_then (λ (x : Row). x.type) o)) is);
            final = sym (ap (test_row (has_word is_final_word)) is);
            fixed = sym (and_true (has_final r)) ∙ sym (ap (λ o. test_row (has_word is_final_word) o && true) is);
            constant = sym (ap (λ o. test_row (has_word is_final_word) o && test_row (λ x. x.has_init) o) is);
            forward = refl;
          }

      pub method_about : (k : MethodKey) → r.decl ≡ method_decl k → IsAbout rows c (shown rows (One j)) (about_other (slice_get (entries_of rows) j) r)
      method_about k e = subst (λ f. IsAbout rows c f (about_other (slice_get (entries_of rows) j) r)) (sym (shown_is j r at (method_decl k) e)) (of (ap (row_of rows) (sym e) ∙ row_is j r at))
        where
          of : row_of rows (method_decl k) ≡ Some r → IsAbout rows c (one (method_decl k)) (about_other (slice_get (entries_of rows) j) r)
          of is = record {
            kind = kind_is j r at ∙ sym (ap (λ o. option_map (kind_of rows) (option_and_then (λ (x : Row). x.type) o)) is);
            final = sym (ap (test_row (has_word is_final_word)) is);
            fixed = sym (and_true (has_final r)) ∙ sym (ap (λ o. test_row (has_word is_final_word) o && true) is);
            constant = sym (ap (λ o. test_row (has_word is_final_word) o && test_row (λ x. x.has_init) o) is);
            forward = refl;
          }

      pub ctor_about : (k : CtorKey) → r.decl ≡ constructor_decl k → IsAbout rows c (shown rows (One j)) (about_other (slice_get (entries_of rows) j) r)
      ctor_about k e = subst (λ f. IsAbout rows c f (about_other (slice_get (entries_of rows) j) r)) (sym (shown_is j r at (constructor_decl k) e)) (of (ap (row_of rows) (sym e) ∙ row_is j r at))
        where
          of : row_of rows (constructor_decl k) ≡ Some r → IsAbout rows c (one (constructor_decl k)) (about_other (slice_get (entries_of rows) j) r)
          of is = record {
            kind = kind_is j r at ∙ sym (ap (λ o. option_map (kind_of rows) (option_and_then (λ (x : Row). x.type) o)) is);
            final = sym (ap (test_row (has_word is_final_word)) is);
            fixed = sym (and_true (has_final r)) ∙ sym (ap (λ o. test_row (has_word is_final_word) o && true) is);
            constant = sym (ap (λ o. test_row (has_word is_final_word) o && test_row (λ x. x.has_init) o) is);
            forward = refl;
          }

    module _ (p : Place) (knows : Knows rows p) where
      -- the class that declares a field is the place's
      module _ (q : FieldKey) (j : ℕ) (r : Row) (at : slice_get rows j ≡ Some r) (e : r.decl ≡ field_decl q) where
        same_class_is : (k : ClassKey) → number_of rows (class_decl k) ≡ Some p.class → (p.class == (entry_of rows r).class) ≡ same_class k q.class
        same_class_is k h =
            let row = are.named j r q.class at (as_declarer (ap class_of e)) in
            let number = the_number rows are (class_decl q.class) row.0 row.1 in
            ap (λ n. p.class == n) (ap (λ d. class_number rows (class_of d)) e ∙ class_is rows q.class row.0 number) ∙ classes_are rows k q.class p.class row.0 h number

        blank : (k : MemberKey) → number_of rows (class_decl (class_of_member k)) ≡ Some p.class
            → (is_ctor k && is_instance_of (Some (entry_of rows r)) p.class && not r.has_init) ≡ (pure.is_ctor_of k q.class && (not (has_word is_static_word r) && not r.has_init))
        blank (head k) h = refl
        blank (field k) h = refl
        blank (method k) h = refl
        blank (constructor k) h = ap (λ b. (b && not (has_word is_static_word r)) && not r.has_init) (same_class_is k.class h) ∙ regroup (same_class k.class q.class) (not (has_word is_static_word r)) (not r.has_init)

        behind : (k : MemberKey) → number_of rows (class_decl (class_of_member k)) ≡ Some p.class → number_of rows (decl_of k) ≡ Some p.row → number_of rows (field_decl q) ≡ Some j → row_of rows (field_decl q) ≡ Some r
            → (is_field k && is_instance_of (Some (entry_of rows r)) p.class && not (nat_lt j p.row)) ≡ pure.is_later_than rows k q
        behind (head k) h o n is = refl
        behind (method k) h o n is = refl
        behind (constructor k) h o n is = refl
        behind (field k) h o n is =
            (λ i. (same_class_is k.class h i && not (has_word is_static_word r)) && not (nat_lt j p.row))
            ∙ sym (λ i. same_class k.class q.class && test_row (λ x. not (has_word is_static_word x)) (is i) && pure.number_le (o i) (n i))

        field_here : row_of rows (field_decl q) ≡ Some r → number_of rows (field_decl q) ≡ Some j → IsAbout rows (context_of p) (one (field_decl q)) (about_field (Some (entry_of rows r)) (member_of p) p.is_static p.class p.row j r)
        unfolding context_of
        field_here is n = record {
          kind = sym (ap (λ o. option_map (kind_of rows) (option_and_then (λ (x : Row). x.type) o)) is);
          final = sym (ap (test_row (has_word is_final_word)) is);
          fixed = ap (λ b. has_final r && not b) (blank (member_of p) knows.class) ∙ sym (ap (λ o. test_row (has_word is_final_word) o && not (pure.is_ctor_of (member_of p) q.class && test_row (λ x. not (has_word is_static_word x) && not x.has_init) o)) is);
          constant = sym (ap (λ o. test_row (has_word is_final_word) o && test_row (λ x. x.has_init) o) is);
          forward = ap (λ b. not p.is_static && b) (behind (member_of p) knows.class knows.row n is);
        }

        pub field_about : IsAbout rows (context_of p) (shown rows (One j)) (about_field (slice_get (entries_of rows) j) (member_of p) p.is_static p.class p.row j r)
        field_about =
            let here = field_here (ap (row_of rows) (sym e) ∙ row_is j r at) (ap (number_of rows) (sym e) ∙ the_number rows are r.decl j (record { row = r; stands = at; declares = refl })) in
            subst (λ o. IsAbout rows (context_of p) (shown rows (One j)) (about_field o (member_of p) p.is_static p.class p.row j r)) (sym (entry_stands rows j r at))
            (subst (λ f. IsAbout rows (context_of p) f (about_field (Some (entry_of rows r)) (member_of p) p.is_static p.class p.row j r)) (sym (shown_is j r at (field_decl q) e)) here)

  -- where not one is found
  pub none_about : (c : Context) (j : ℕ) → slice_get rows j ≡ None → IsAbout rows c (shown rows (One j)) nothing
  unfolding shown
  none_about c j h = subst (λ o. IsAbout rows c (shown_one one (option_map (λ (x : Row). x.decl) o)) nothing) (sym h) (record { kind = refl; final = refl; fixed = refl; constant = refl; forward = refl })

  nothing_about : (c : Context) (f : Found) → ((d : Decl) → f ≡ one d → ⊥) → IsAbout rows c f nothing
  nothing_about c (one d) h = absurd (h d refl)
  nothing_about c found.nothing h = record { kind = refl; final = refl; fixed = refl; constant = refl; forward = refl }
  nothing_about c (many d e) h = record { kind = refl; final = refl; fixed = refl; constant = refl; forward = refl }
  nothing_about c (not_accessible d) h = record { kind = refl; final = refl; fixed = refl; constant = refl; forward = refl }
  nothing_about c (from_static d) h = record { kind = refl; final = refl; fixed = refl; constant = refl; forward = refl }

  pub answer_about : (c : Context) (a : Answer) → ((j : ℕ) → a ≡ One j → ⊥) → IsAbout rows c (shown rows a) nothing
  unfolding shown
  answer_about c (One j) h = absurd (h j refl)
  answer_about c Nothing h = nothing_about c found.nothing (λ d e. absurd cc)
  answer_about c (Many j k) h = two (decl_at rows j) (decl_at rows k)
    where
      two : (a b : Option Decl) → IsAbout rows c (shown_two a b) nothing
      two None None = nothing_about c found.nothing (λ d e. absurd cc)
      two None (Some e) = nothing_about c found.nothing (λ d e. absurd cc)
      two (Some d) None = nothing_about c found.nothing (λ d e. absurd cc)
      two (Some d) (Some e) = nothing_about c (many d e) (λ d e. absurd cc)
  answer_about c (NotAccessible j) h = by (decl_at rows j)
    where
      by : (a : Option Decl) → IsAbout rows c (shown_one not_accessible a) nothing
      by None = nothing_about c found.nothing (λ d e. absurd cc)
      by (Some d) = nothing_about c (not_accessible d) (λ d e. absurd cc)
  answer_about c (FromStatic j) h = by (decl_at rows j)
    where
      by : (a : Option Decl) → IsAbout rows c (shown_one from_static a) nothing
      by None = nothing_about c found.nothing (λ d e. absurd cc)
      by (Some d) = nothing_about c (from_static d) (λ d e. absurd cc)
