-- References in declarations, by numbers, are noted as is said by keys.
use Rattle.std.proofs.Common.{◌≡◌, ℕ, List, [], ◌∷◌, ◌++◌, ◌+◌, ◌<◌, ◌≤◌, length, drop, get_or, map, Option, Some, None, Bool, true, false, refl, sym, ap, subst, ◌∙◌, append_assoc}
use Rattle.std.proofs.lemmas.List.{append-nil, map-append, drop_more, drop_all}
use Rattle.std.specs.Prelude.{option_map}
use Rattle.jr_ast.specs.declared.parts.Param.{Param}
use Rattle.jr_ast.specs.View.{type_of, param_of}
use Rattle.jr_table.specs.declared.answers.Answer.{Answer}
use Rattle.jr_table.specs.declared.answers.Answer.TheVariants.{One, Nothing, Many, NotAccessible, FromStatic}
use Rattle.jr_table.specs.Decls.{MemberKey, Decl}
use Rattle.jr_table.specs.Rows.{Row}
use Rattle.jr_table.specs.Found.{Found, one, nothing, many, not_accessible, from_static}
use Rattle.jr_table.specs.Entries.{class_number, entries_of}
use Rattle.jr_table.specs.TypeNames.{find_type}
use Rattle.jr_table.specs.Fields.{find_member_type}
use Rattle.jr_table.specs.Lookup.{decl_at, shown_one, shown_two, shown, find_type_named, find_type_of}
use Rattle.jr_table.specs.Context.{Context, scope_of}
use Rattle.jr_table.specs.Binding.{type}
use Rattle.jr_table.specs.Meanings.{class_found, find_in, Reference, reference, type_references}
use Rattle.jr_table.specs.Notes.{found_note}
use Rattle.jr_table.specs.HeadNotes.{declared_note, declared_notes, param_references}
use Rattle.jr_bind_expr.specs.declared.findings.Note as raw
use Rattle.jr_bind_expr.specs.declared.findings.Note.TheVariants.{Finds}
use Rattle.jr_bind_expr.specs.declared.findings.Sought.TheVariants as sought
use Rattle.jr_bind_expr.specs.declared.findings.Finding.TheVariants as finding
use Rattle.jr_bind_expr.specs.Arms.{is_nothing}
use Rattle.jr_bind_expr.specs.Findings.{note_of}
use Rattle.jr_bind_expr.specs.Logs.{notes_of}
use Rattle.jr_bind_expr.specs.Numbered.{in_class}
use Rattle.jr_bind_parts.specs.DeclaredTypes.{is_told, PutsIf, PutsDeclared, PutsReferences, FitsParams}
use Rattle.jr_bind_expr.specs.Fits.{FitsType}
use Rattle.jr_bind_expr.proofs.Numbers.{named_is, types_are}

module _ (rows : List Row) where
  pub told_one : (j : ℕ) → is_nothing (shown rows (One j)) ≡ false → true ≡ is_told (shown rows (One j))
  unfolding shown
  told_one j = by (decl_at rows j)
    where
      by : (o : Option Decl) → is_nothing (shown_one one o) ≡ false → true ≡ is_told (shown_one one o)
      by None h = absurd cc
      by (Some d) h = refl

  pub told_private : (j : ℕ) → is_nothing (shown rows (NotAccessible j)) ≡ false → true ≡ is_told (shown rows (NotAccessible j))
  unfolding shown
  told_private j = by (decl_at rows j)
    where
      by : (o : Option Decl) → is_nothing (shown_one not_accessible o) ≡ false → true ≡ is_told (shown_one not_accessible o)
      by None h = absurd cc
      by (Some d) h = refl

  pub told_static : (j : ℕ) → false ≡ is_told (shown rows (FromStatic j))
  unfolding shown
  told_static j = by (decl_at rows j)
    where
      by : (o : Option Decl) → false ≡ is_told (shown_one from_static o)
      by None = refl
      by (Some d) = refl

  pub told_many : (j k : ℕ) → false ≡ is_told (shown rows (Many j k))
  unfolding shown
  told_many j k = by (decl_at rows j) (decl_at rows k)
    where
      by : (o p : Option Decl) → false ≡ is_told (shown_two o p)
      by None None = refl
      by None (Some d) = refl
      by (Some d) None = refl
      by (Some d) (Some e) = refl

  pub told_none : false ≡ is_told (shown rows Nothing)
  unfolding shown
  told_none = refl

pub told_nothing : (f : Found) → is_nothing f ≡ true → false ≡ is_told f
told_nothing nothing h = refl
told_nothing (one d) h = absurd cc
told_nothing (many d e) h = absurd cc
told_nothing (not_accessible d) h = absurd cc
told_nothing (from_static d) h = absurd cc

told_note : (at : ℕ) (f : Found) → is_told f ≡ true → found_note at type f ∷ [] ≡ declared_note at f
told_note at (one d) h = refl
told_note at (not_accessible d) h = refl
told_note at nothing h = absurd cc
told_note at (many d e) h = absurd cc
told_note at (from_static d) h = absurd cc

untold_note : (at : ℕ) (f : Found) → is_told f ≡ false → [] ≡ declared_note at f
untold_note at (one d) h = absurd cc
untold_note at (not_accessible d) h = absurd cc
untold_note at nothing h = refl
untold_note at (many d e) h = refl
untold_note at (from_static d) h = refl

pub declared_append : (xs ys : List Reference) → declared_notes (xs ++ ys) ≡ declared_notes xs ++ declared_notes ys
declared_append [] ys = refl
declared_append (x ∷ xs) ys = ap (λ ns. declared_note x.at x.found ++ ns) (declared_append xs ys) ∙ sym (append_assoc (declared_note x.at x.found) (declared_notes xs) (declared_notes ys))

module _ (rows : List Row) where
  pub puts_if : (at : ℕ) (a : Answer) (is : Bool) (old new : List raw.Note) → is ≡ is_told (shown rows a) → PutsIf is at a old new → PutsDeclared rows at (shown rows a) old new
  puts_if at a true old new h put = λ k.
      ap (map (note_of rows k)) put ∙ map-append (note_of rows k) old (Finds at sought.Type (finding.Rows a) ∷ [])
      ∙ ap (λ ns. notes_of rows k old ++ ns) (told_note at (shown rows a) (sym h))
  puts_if at a false old new h put = λ k.
      ap (map (note_of rows k)) put ∙ map-append (note_of rows k) old []
      ∙ ap (λ ns. notes_of rows k old ++ ns) (untold_note at (shown rows a) (sym h))

  -- none, one, and several
  pub no_references : (class : ℕ) (old : List raw.Note) → PutsReferences rows class (λ c. []) old old
  no_references class old = λ k c here. sym (append-nil (notes_of rows k old))

  pub both_references : (class : ℕ) (f g : Context → List Reference) (old mid new : List raw.Note) → PutsReferences rows class f old mid → PutsReferences rows class g mid new → PutsReferences rows class (λ c. f c ++ g c) old new
  both_references class f g old mid new h h' = λ k c here.
      h' k c here ∙ ap (λ ns. ns ++ declared_notes (g c)) (h k c here) ∙ append_assoc (notes_of rows k old) (declared_notes (f c)) (declared_notes (g c))
      ∙ ap (λ ns. notes_of rows k old ++ ns) (sym (declared_append (f c) (g c)))

  pub plain_reference : (class at : ℕ) (name : List ℕ) (old new : List raw.Note) → PutsDeclared rows at (shown rows (find_type rows class name)) old new
      → PutsReferences rows class (λ c. reference at type (find_type_named rows (scope_of c) name) ∷ []) old new
  plain_reference class at name old new h = λ k c here.
      h k ∙ ap (λ f. notes_of rows k old ++ declared_note at f) (named_is rows (scope_of c) class here name)
      ∙ ap (λ ns. notes_of rows k old ++ ns) (sym (append-nil (declared_note at (find_type_named rows (scope_of c) name))))

  pub dotted_references : (class first second : ℕ) (outer name : List ℕ) (o : Option ℕ) (old mid new : List raw.Note)
      → o ≡ option_map (class_number rows) (class_found (shown rows (find_type rows class outer)))
      → PutsDeclared rows first (shown rows (find_type rows class outer)) old mid
      → PutsDeclared rows second (shown rows (in_class o (λ c. find_member_type (entries_of rows) class c name))) mid new
      → PutsReferences rows class (λ c. reference first type (find_type_named rows (scope_of c) outer)
      ∷ reference second type (find_in (class_found (find_type_named rows (scope_of c) outer)) (λ j. find_type_of rows (scope_of c) j name)) ∷ []) old new
  dotted_references class first second outer name o old mid new is h h' = λ k c here.
      let named = named_is rows (scope_of c) class here outer in
      let inner : shown rows (in_class o (λ d. find_member_type (entries_of rows) class d name)) ≡ find_in (class_found (find_type_named rows (scope_of c) outer)) (λ j. find_type_of rows (scope_of c) j name) =
      ap (λ p. shown rows (in_class p (λ d. find_member_type (entries_of rows) class d name))) (is ∙ ap (λ f. option_map (class_number rows) (class_found f)) named)
      ∙ types_are rows (scope_of c) class here (class_found (find_type_named rows (scope_of c) outer)) name in
      h' k ∙ (λ i. h k i ++ declared_note second (inner i))
      ∙ append_assoc (notes_of rows k old) (declared_note first (shown rows (find_type rows class outer))) _
      ∙ (λ i. notes_of rows k old ++ (declared_note first (named i) ++ sym (append-nil (declared_note second (find_in (class_found (find_type_named rows (scope_of c) outer)) (λ j. find_type_of rows (scope_of c) j name)))) i))

  pub plain_found : (class at place : ℕ) (name : List ℕ) (a : Answer) (old new : List raw.Note) → at ≡ place → a ≡ find_type rows class name → PutsDeclared rows at (shown rows a) old new
      → PutsReferences rows class (λ c. reference place type (find_type_named rows (scope_of c) name) ∷ []) old new
  plain_found class at place name a old new e is h = plain_reference class place name old new
      (subst (λ n. PutsDeclared rows n (shown rows (find_type rows class name)) old new) e (subst (λ b. PutsDeclared rows at (shown rows b) old new) is h))

  pub dotted_found : (class first second at at' : ℕ) (outer name : List ℕ) (a b : Answer) (o : Option ℕ) (old mid new : List raw.Note)
      → at ≡ first → at' ≡ second → a ≡ find_type rows class outer → o ≡ option_map (class_number rows) (class_found (shown rows a))
      → b ≡ in_class o (λ c. find_member_type (entries_of rows) class c name)
      → PutsDeclared rows at (shown rows a) old mid → PutsDeclared rows at' (shown rows b) mid new
      → PutsReferences rows class (λ c. reference first type (find_type_named rows (scope_of c) outer)
      ∷ reference second type (find_in (class_found (find_type_named rows (scope_of c) outer)) (λ j. find_type_of rows (scope_of c) j name)) ∷ []) old new
  dotted_found class first second at at' outer name a b o old mid new e e' is within is' h h' =
      dotted_references class first second outer name o old mid new (within ∙ ap (λ x. option_map (class_number rows) (class_found (shown rows x))) is)
      (subst (λ n. PutsDeclared rows n (shown rows (find_type rows class outer)) old mid) e (subst (λ x. PutsDeclared rows at (shown rows x) old mid) is h))
      (subst (λ n. PutsDeclared rows n (shown rows (in_class o (λ c. find_member_type (entries_of rows) class c name))) mid new) e' (subst (λ x. PutsDeclared rows at' (shown rows x) mid new) is' h'))

-- the types of parameters, one by one
module _ {A : Type 0} (B : A → ℕ → ℕ) (F : A → ℕ → Type 0) (rows : List Row) (class base : ℕ) where
  params_left : (xs : List (Param A)) (i : ℕ) (x : Param A) → i < length xs → x ≡ get_or xs i x → map param_of (drop i xs) ≡ param_of x ∷ map param_of (drop (i + 1) xs)
  params_left xs i x lt is = ap (map param_of) (drop_more xs i x lt) ∙ ap (λ (y : Param A). param_of y ∷ map param_of (drop (i + 1) xs)) (sym is)

  -- what is still to be noted, and what is noted
  pub record Left (all : List (Param A)) (first log : List raw.Note) (rest : List (Param A)) : Type 0 where
    pub fits : FitsParams B F base (map param_of rest)
    pub noted : (k : MemberKey) (c : Context) → class_number rows (scope_of c).class ≡ class
        → notes_of rows k log ++ declared_notes (param_references B rows c base (map param_of rest))
        ≡ notes_of rows k first ++ declared_notes (param_references B rows c base (map param_of all))

  pub params_fit : (all : List (Param A)) (first log : List raw.Note) (i : ℕ) (x : Param A) → i < length all → x ≡ get_or all i x → Left all first log (drop i all)
      → F x.mark base × FitsType B F (B x.mark base) (type_of x.ty) × FitsParams B F base (map param_of (drop (i + 1) all))
  params_fit all first log i x lt is l = subst (FitsParams B F base) (params_left all i x lt is) l.fits

  pub params_step : (all : List (Param A)) (first log next : List raw.Note) (i at : ℕ) (x : Param A) → i < length all → x ≡ get_or all i x → Left all first log (drop i all)
      → at ≡ B x.mark base → PutsReferences rows class (λ c. type_references B rows c at (type_of x.ty)) log next → Left all first next (drop (i + 1) all)
  params_step all first log next i at x lt is l start h = record {
    fits = (params_fit all first log i x lt is l).2;
    noted = λ k c here.
        let rest = map param_of (drop (i + 1) all) in
        let one = type_references B rows c (B x.mark base) (type_of x.ty) in
        ap (λ ns. ns ++ declared_notes (param_references B rows c base rest)) (h k c here ∙ ap (λ n. notes_of rows k log ++ declared_notes (type_references B rows c n (type_of x.ty))) start)
        ∙ append_assoc (notes_of rows k log) (declared_notes one) (declared_notes (param_references B rows c base rest))
        ∙ ap (λ ns. notes_of rows k log ++ ns) (sym (declared_append one (param_references B rows c base rest)))
        ∙ ap (λ ps. notes_of rows k log ++ declared_notes (param_references B rows c base ps)) (sym (params_left all i x lt is))
        ∙ l.noted k c here;
  }

  pub params_end : (all : List (Param A)) (first log : List raw.Note) (i : ℕ) → length all ≤ i → Left all first log (drop i all) → PutsReferences rows class (λ c. param_references B rows c base (map param_of all)) first log
  params_end all first log i past l = λ k c here.
      sym (append-nil (notes_of rows k log))
      ∙ ap (λ ps. notes_of rows k log ++ declared_notes (param_references B rows c base (map param_of ps))) (sym (drop_all i all past))
      ∙ l.noted k c here
