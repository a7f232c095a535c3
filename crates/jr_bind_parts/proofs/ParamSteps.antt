-- Parameters come into scope, one by one.
use Rattle.std.proofs.Common.{◌≡◌, ℕ, ◌+◌, List, [], ◌∷◌, ◌++◌, map, Some, refl, sym, ap, subst, ◌∙◌, append_assoc, add-one, inl, inr, length, arith}
use Rattle.std.proofs.lemmas.List.{map-append, append-nil}
use Rattle.std.specs.Prelude.{slice_get}
use Rattle.jr_ast.specs.MemberTree as syntax
use Rattle.jr_table.specs.declared.entries.Entry.{Entry}
use Rattle.jr_table.specs.Keys.{ClassKey, Ty, int, boolean, void, null, class}
use Rattle.jr_table.specs.Decls.{MemberKey, head, field, method, constructor, class_decl, method_decl, constructor_decl}
use Rattle.jr_table.specs.Rows.{Row}
use Rattle.jr_table.specs.Conditions.{AreRows, Names, as_declarer, as_parameter, TypesName}
use Rattle.jr_table.specs.Entries.{number_of, class_number, class_of_member, class_of, params_of, entry_of, entries_of}
use Rattle.jr_table.specs.Context.{parameters}
use Rattle.jr_table.specs.HeadRules.{types_of}
use Rattle.jr_table.proofs.RowLaws.{number_stands, the_number, entry_stands, some_inside}
use Rattle.jr_scopes.specs.declared.helds.Held as raw
use Rattle.jr_scopes.specs.Helds.{Held, held_of, local_of}
use Rattle.jr_bind_expr.specs.Places.{decl_of, IsRowed, AreTyped}
use Rattle.jr_bind_parts.specs.Parameters.{held_parameter, held_parameters}
use Rattle.jr_bind_expr.proofs.Scoped.{class_is}

pub none_left : {X : Type 0} (xs : List X) → length xs ≡ 0 → xs ≡ []
none_left [] h = refl
none_left (x ∷ xs) h = absurd (omega (arith, h))

-- what is put in scope, with what is left, is all
module _ {A : Type 0} (rows : List Row) (whole : List Held) where
  abbrev pub Goes : List raw.Held → ℕ → List (syntax.Param A) → List Ty → Type 0
  Goes held number ps ts = (map held_of held ++ held_parameters rows number ps ts) ≡ whole

  pub goes_on : (held next : List raw.Held) (h : raw.Held) (number after : ℕ) (p : syntax.Param A) (ps : List (syntax.Param A)) (t : Ty) (ts : List Ty)
      → next ≡ held ++ h ∷ [] → held_of h ≡ held_parameter rows number p t → after ≡ number + 1 → Goes held number (p ∷ ps) (t ∷ ts) → Goes next after ps ts
  goes_on held next h number after p ps t ts pushed is later goes =
      ap (λ xs. map held_of xs ++ held_parameters rows after ps ts) pushed
      ∙ ap (λ xs. xs ++ held_parameters rows after ps ts) (map-append held_of held (h ∷ []))
      ∙ append_assoc (map held_of held) (held_of h ∷ []) (held_parameters rows after ps ts)
      ∙ (λ i. map held_of held ++ (is i ∷ held_parameters rows (later i) ps ts))
      ∙ goes

  pub goes_typeless : (held : List raw.Held) (number : ℕ) (p : syntax.Param A) (ps : List (syntax.Param A)) → Goes held number (p ∷ ps) [] → map held_of held ≡ whole
  goes_typeless held number p ps goes = sym (append-nil (map held_of held)) ∙ goes

  pub goes_end : (held : List raw.Held) (number : ℕ) (ps : List (syntax.Param A)) (ts : List Ty) → ps ≡ [] → Goes held number ps ts → map held_of held ≡ whole
  goes_end held number ps ts none goes = sym (ap (λ qs. map held_of held ++ held_parameters rows number qs ts) none ∙ append-nil (map held_of held)) ∙ goes

-- the types of a key have rows
abbrev AreRowed : List Row → List Ty → Type 0
AreRowed rows [] = Unit {0}
AreRowed rows (t ∷ ts) = IsRowed rows t × AreRowed rows ts

module _ {A : Type 0} (rows : List Row) where
  -- they are the context's
  pub held_are : (k : MemberKey) (number : ℕ) (ps : List (syntax.Param A)) (ts : List Ty) → map (local_of k) (held_parameters rows number ps ts) ≡ parameters k number ps ts
  held_are k number [] ts = refl
  held_are k number (p ∷ ps) [] = refl
  held_are k number (p ∷ ps) (t ∷ ts) = ap (λ ls. local_of k (held_parameter rows number p t) ∷ ls) (held_are k (number + 1) ps ts ∙ ap (λ n. parameters k n ps ts) (add-one number))

  held_typed : (k : MemberKey) (number : ℕ) (ps : List (syntax.Param A)) (ts : List Ty) → AreRowed rows ts → AreTyped rows k (held_parameters rows number ps ts)
  held_typed k number [] ts h = tt
  held_typed k number (p ∷ ps) [] h = tt
  held_typed k number (p ∷ ps) (t ∷ ts) h = (record { kind = refl; rowed = h.0 }, held_typed k (number + 1) ps ts h.1)

module _ (rows : List Row) (are : AreRows rows) where
  rowed_types : (j : ℕ) (r : Row) → slice_get rows j ≡ Some r → (ts : List Ty) → ((c : ClassKey) → TypesName ts c → Names r c) → AreRowed rows ts
  rowed_types j r at [] n = tt
  rowed_types j r at (int ∷ ts) n = (tt, rowed_types j r at ts (λ c m. n c (inr m)))
  rowed_types j r at (boolean ∷ ts) n = (tt, rowed_types j r at ts (λ c m. n c (inr m)))
  rowed_types j r at (void ∷ ts) n = (tt, rowed_types j r at ts (λ c m. n c (inr m)))
  rowed_types j r at (null ∷ ts) n = (tt, rowed_types j r at ts (λ c m. n c (inr m)))
  rowed_types j r at (class k ∷ ts) n =
      let m = are.named j r k at (n k (inl refl)) in
      ((m.0, the_number rows are (class_decl k) m.0 m.1), rowed_types j r at ts (λ c m. n c (inr m)))

  types_rowed : (k : MemberKey) (j : ℕ) → number_of rows (decl_of k) ≡ Some j → AreRowed rows (types_of k)
  types_rowed (head k) j h = tt
  types_rowed (field k) j h = tt
  types_rowed (method k) j h = let r = number_stands rows (method_decl k) j h in rowed_types j r.row r.stands k.params (λ c m. as_parameter (subst (λ d. TypesName (params_of d) c) (sym r.declares) m))
  types_rowed (constructor k) j h = let r = number_stands rows (constructor_decl k) j h in rowed_types j r.row r.stands k.params (λ c m. as_parameter (subst (λ d. TypesName (params_of d) c) (sym r.declares) m))

  pub parameters_typed : {A : Type 0} (k : MemberKey) (j : ℕ) → number_of rows (decl_of k) ≡ Some j → (ps : List (syntax.Param A)) → AreTyped rows k (held_parameters rows 0 ps (types_of k))
  parameters_typed k j h ps = held_typed rows k 0 ps (types_of k) (types_rowed k j h)

  class_of_decl : (k : MemberKey) → class_of (decl_of k) ≡ class_of_member k
  class_of_decl (head k) = refl
  class_of_decl (field k) = refl
  class_of_decl (method k) = refl
  class_of_decl (constructor k) = refl

  -- the class of a member's row
  pub class_here : (k : MemberKey) (j : ℕ) (e : Entry) → number_of rows (decl_of k) ≡ Some j → slice_get (entries_of rows) j ≡ Some e → number_of rows (class_decl (class_of_member k)) ≡ Some e.class
  class_here k j e h at =
      let r = number_stands rows (decl_of k) j h in
      let same : e ≡ entry_of rows r.row = some_inside (slice_get (entries_of rows) j) e (entry_of rows r.row) at (entry_stands rows j r.row r.stands) in
      let declarer : class_of r.row.decl ≡ class_of_member k = ap class_of r.declares ∙ class_of_decl k in
      let n = are.named j r.row (class_of_member k) r.stands (as_declarer declarer) in
      let stands = the_number rows are (class_decl (class_of_member k)) n.0 n.1 in
      stands ∙ ap Some (sym (class_is rows (class_of_member k) n.0 stands) ∙ sym (ap (class_number rows) declarer) ∙ sym (ap (λ (x : Entry). x.class) same))
