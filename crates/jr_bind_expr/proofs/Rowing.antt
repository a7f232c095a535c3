-- The class of each type has a row.
use Rattle.std.proofs.Common.{◌≡◌, ℕ, List, [], ◌∷◌, map, Option, Some, None, Bool, true, false, cond, refl, sym, ap, subst, ◌∙◌}
use Rattle.std.specs.Prelude.{slice_get, option_map, option_and_then, codes}
use Rattle.jr_ast.specs.Tree as tree
use Rattle.jr_ast.specs.declared.operators.UnOp.{UnOp}
use Rattle.jr_ast.specs.declared.operators.UnOp.TheVariants as sign
use Rattle.jr_ast.specs.declared.operators.BinOp.{BinOp}
use Rattle.jr_ast.specs.declared.operators.BinOp.TheVariants as op
use Rattle.jr_table.specs.declared.answers.Answer.{Answer}
use Rattle.jr_table.specs.declared.answers.Answer.TheVariants.{One, Nothing, Many, NotAccessible, FromStatic}
use Rattle.jr_table.specs.Keys.{ClassKey, Ty, int, boolean, void, null, class}
use Rattle.jr_table.specs.Decls.{MemberKey, LocalKey, Decl, class_decl, field_decl, method_decl, constructor_decl, local_decl}
use Rattle.jr_table.specs.Rows.{Row}
use Rattle.jr_table.specs.Prelude.{top_key}
use Rattle.jr_table.specs.SameDecls.{same_local}
use Rattle.jr_table.specs.declared.entries.Entry.{Entry}
use Rattle.jr_table.specs.Chains.{parent_of}
use Rattle.jr_table.specs.Entries.{IsRowOf, number_of, class_number, entries_of, class_of_member}
use Rattle.jr_table.specs.Conditions.{AreRows, as_type, as_superclass}
use Rattle.jr_table.specs.Found.{Found, one, nothing, many, not_accessible, from_static}
use Rattle.jr_table.specs.Scope.{Scope}
use Rattle.jr_table.specs.Lookup.{decl_at, shown_one, shown_two, shown, find_type_named, find_type_of}
use Rattle.jr_table.specs.Context.{LocalType, Local, scope_of, outer_text}
use Rattle.jr_table.specs.Binding.{sign_type, operator_type}
use Rattle.jr_table.specs.Meanings.{first_some, row_of, class_found, named_class, written_type, type_of_local, local_of_key, type_of_found, class_in, created, type_of, types_of, class_name_of, target_found, created_class, ctor_found, own_superclass}
use Rattle.jr_table.proofs.RowLaws.{the_number, number_stands, entry_stands}
use Rattle.jr_bind_expr.specs.declared.places.Place.{Place}
use Rattle.jr_scopes.specs.Tracked.{locals_of}
use Rattle.jr_scopes.specs.Helds.{Held, held_of, key_of, local_of}
use Rattle.jr_bind_expr.specs.Places.{member_of, context_of, IsRowed, IsRowedIf, bare, AreTyped, Knows}
use Rattle.jr_bind_expr.proofs.Scoped.{class_is}
use Rattle.jr_bind_expr.proofs.Numbers.{row_here}
use Rattle.jr_bind_expr.proofs.Abouting.{bare_type}

module _ (rows : List Row) (are : AreRows rows) where
  -- the class that is found
  found_class : (a : Answer) → IsRowedIf rows (option_map class (class_found (shown rows a)))
  unfolding shown
  found_class (One j) = by (decl_at rows j) refl
    where
      by : (o : Option Decl) → decl_at rows j ≡ o → IsRowedIf rows (option_map class (class_found (shown_one one o)))
      by None e = tt
      by (Some (class_decl k)) e = let r = row_here rows j (class_decl k) e in (j, the_number rows are (class_decl k) j (record { row = r.0; stands = r.1; declares = r.2 }))
      by (Some (field_decl k)) e = tt
      by (Some (method_decl k)) e = tt
      by (Some (constructor_decl k)) e = tt
      by (Some (local_decl k)) e = tt
  found_class Nothing = tt
  found_class (Many j k) = by (decl_at rows j) (decl_at rows k)
    where
      by : (o p : Option Decl) → IsRowedIf rows (option_map class (class_found (shown_two o p)))
      by None None = tt
      by None (Some d) = tt
      by (Some d) None = tt
      by (Some d) (Some e) = tt
  found_class (NotAccessible j) = by (decl_at rows j)
    where
      by : (o : Option Decl) → IsRowedIf rows (option_map class (class_found (shown_one not_accessible o)))
      by None = tt
      by (Some d) = tt
  found_class (FromStatic j) = by (decl_at rows j)
    where
      by : (o : Option Decl) → IsRowedIf rows (option_map class (class_found (shown_one from_static o)))
      by None = tt
      by (Some d) = tt

  then_class : (o : Option ClassKey) (f : ClassKey → Found) → ((k : ClassKey) → IsRowedIf rows (option_map class (class_found (f k)))) → IsRowedIf rows (option_map class (option_and_then (λ k. class_found (f k)) o))
  then_class None f h = tt
  then_class (Some k) f h = h k

  named_rowed : (s : Scope) (outer : Option (List ℕ)) (name : List ℕ) → IsRowedIf rows (option_map class (named_class rows s outer name))
  unfolding find_type_named find_type_of
  named_rowed s None name = found_class _
  named_rowed s (Some outer) name = then_class (class_found (find_type_named rows s outer)) (λ o. find_type_of rows s o name) (λ o. found_class _)

  pub written_rowed : {A : Type 0} (s : Scope) (of : tree.TypeName A) → IsRowedIf rows (written_type rows s of)
  written_rowed s (tree.int m) = tt
  written_rowed s (tree.boolean m) = tt
  written_rowed s (tree.named m outer w) = named_rowed s (outer_text outer) w.text

  -- the type of a row
  pub row_rowed : (d : Decl) → IsRowedIf rows (option_and_then (λ (r : Row). r.type) (row_of rows d))
  unfolding row_of
  row_rowed d = by (number_of rows d) refl
    where
      typed : (j : ℕ) (r : Row) → slice_get rows j ≡ Some r → (t : Option Ty) → r.type ≡ t → IsRowedIf rows t
      typed j r at None e = tt
      typed j r at (Some int) e = tt
      typed j r at (Some boolean) e = tt
      typed j r at (Some void) e = tt
      typed j r at (Some null) e = tt
      typed j r at (Some (class k)) e = let n = are.named j r k at (as_type e) in (n.0, the_number rows are (class_decl k) n.0 n.1)

      of : (j : ℕ) (o : Option Row) → slice_get rows j ≡ o → IsRowedIf rows (option_and_then (λ (r : Row). r.type) o)
      of j None e = tt
      of j (Some r) e = typed j r e r.type refl

      by : (o : Option ℕ) → number_of rows d ≡ o → IsRowedIf rows (option_and_then (λ (r : Row). r.type) (option_and_then (λ j. slice_get rows j) o))
      by None e = tt
      by (Some j) e = of j (slice_get rows j) refl

  local_rowed : (m : MemberKey) (s : Scope) → ((t : LocalType) → type_of_local rows s t ≡ type_of_local rows (bare m) t) → (hs : List Held) → AreTyped rows m hs → (k : LocalKey)
      → IsRowedIf rows (option_and_then (λ (l : Local). type_of_local rows s l.type) (local_of_key k (map (local_of m) hs)))
  local_rowed m s same [] all k = tt
  local_rowed m s same (h ∷ hs) all k = by (local_of_key k (map (local_of m) hs)) (same_local (key_of m h.number) k) (local_rowed m s same hs all.1 k)
    where
      by : (o : Option Local) (b : Bool) → IsRowedIf rows (option_and_then (λ (l : Local). type_of_local rows s l.type) o) → IsRowedIf rows (option_and_then (λ (l : Local). type_of_local rows s l.type) (first_some o (cond b (Some (local_of m h)) None)))
      by (Some l) b more = more
      by None true more = subst (IsRowedIf rows) (sym (same h.type)) all.0.rowed
      by None false more = tt

  created_rowed : (o : Option ClassKey) (f : Found) → IsRowedIf rows (option_map class o) → IsRowedIf rows (created o f)
  created_rowed o (one d) h = h
  created_rowed o nothing h = tt
  created_rowed o (many d e) h = tt
  created_rowed o (not_accessible d) h = tt
  created_rowed o (from_static d) h = tt

  class_rowed : (t : Option Ty) → IsRowedIf rows t → IsRowedIf rows (option_map class (class_in t))
  class_rowed None h = tt
  class_rowed (Some int) h = tt
  class_rowed (Some boolean) h = tt
  class_rowed (Some void) h = tt
  class_rowed (Some null) h = tt
  class_rowed (Some (class k)) h = h

  prelude_rowed : (j : ℕ) (k : ClassKey) → IsRowOf rows (class_decl k) j → IsRowed rows (class k)
  prelude_rowed j k r = (j, the_number rows are (class_decl k) j r)

  pub string_row : IsRowOf rows (class_decl (top_key (codes "String"))) 2
  string_row = subst (λ rs. IsRowOf rs (class_decl (top_key (codes "String"))) 2) (sym are.prelude) (record { row = _; stands = refl; declares = refl })

  pub class_row : IsRowOf rows (class_decl (top_key (codes "Class"))) 3
  class_row = subst (λ rs. IsRowOf rs (class_decl (top_key (codes "Class"))) 3) (sym are.prelude) (record { row = _; stands = refl; declares = refl })

  module _ (p : Place) (knows : Knows rows p) where
    found_rowed : (f : Found) → IsRowedIf rows (type_of_found rows (context_of p) f)
    unfolding context_of
    found_rowed (one (local_decl k)) = local_rowed (member_of p) (scope_of (context_of p)) (bare_type rows (scope_of (context_of p)) (member_of p) refl) (map held_of (locals_of p.locals)) knows.typed k
    found_rowed (one (class_decl k)) = row_rowed (class_decl k)
    found_rowed (one (field_decl k)) = row_rowed (field_decl k)
    found_rowed (one (method_decl k)) = row_rowed (method_decl k)
    found_rowed (one (constructor_decl k)) = row_rowed (constructor_decl k)
    found_rowed nothing = tt
    found_rowed (many d e) = tt
    found_rowed (not_accessible d) = tt
    found_rowed (from_static d) = tt

    -- the superclass of the place's class
    pub parent_is : parent_of (entries_of rows) p.class ≡ option_map (class_number rows) (own_superclass rows (context_of p))
    unfolding context_of row_of
    parent_is = by (number_stands rows (class_decl (class_of_member (member_of p))) p.class knows.class)
      where
        named : (r : Row) → slice_get rows p.class ≡ Some r → (o : Option ClassKey) → r.parent ≡ o → option_and_then (λ k. number_of rows (class_decl k)) o ≡ option_map (class_number rows) o
        named r at None e = refl
        named r at (Some k) e = let n = are.named p.class r k at (as_superclass e) in let is = the_number rows are (class_decl k) n.0 n.1 in is ∙ ap Some (sym (class_is rows k n.0 is))

        by : IsRowOf rows (class_decl (class_of_member (member_of p))) p.class → parent_of (entries_of rows) p.class ≡ option_map (class_number rows) (own_superclass rows (context_of p))
        by i = ap (option_and_then (λ (x : Entry). x.parent)) (entry_stands rows p.class i.row i.stands) ∙ named i.row i.stands i.row.parent refl
            ∙ sym (ap (λ o. option_map (class_number rows) (option_and_then (λ (r : Row). r.parent) (option_and_then (λ j. slice_get rows j) o))) knows.class ∙ ap (λ o. option_map (class_number rows) (option_and_then (λ (r : Row). r.parent) o)) i.stands)

    this_rowed : IsRowed rows (class (scope_of (context_of p)).class)
    unfolding context_of
    this_rowed = (p.class, knows.class)

    sign_rowed : (o : UnOp) → IsRowed rows (sign_type o)
    sign_rowed sign.Plus = tt
    sign_rowed sign.Minus = tt
    sign_rowed sign.Not = tt

    operator_rowed : (o : BinOp) → IsRowed rows (operator_type o)
    operator_rowed op.Add = tt
    operator_rowed op.Sub = tt
    operator_rowed op.Mul = tt
    operator_rowed op.Div = tt
    operator_rowed op.Rem = tt
    operator_rowed op.Or = tt
    operator_rowed op.And = tt
    operator_rowed op.Eq = tt
    operator_rowed op.Ne = tt
    operator_rowed op.Lt = tt
    operator_rowed op.Gt = tt
    operator_rowed op.Le = tt
    operator_rowed op.Ge = tt

    -- the type of each expression
    pub rowed : {A : Type 0} (e : tree.Exp A) → IsRowedIf rows (type_of rows (context_of p) e)
    unfolding type_of class_name_of target_found types_of
    rowed (tree.number m n) = tt
    rowed (tree.truth m b) = tt
    rowed (tree.null m) = tt
    rowed (tree.string m text) = prelude_rowed 2 (top_key (codes "String")) string_row
    rowed (tree.this m) = this_rowed
    rowed (tree.class_literal m of) = prelude_rowed 3 (top_key (codes "Class")) class_row
    rowed (tree.name m w) = found_rowed _
    rowed (tree.field m e w) = found_rowed _
    rowed (tree.super_field m w) = found_rowed _
    rowed (tree.call m to w args) = found_rowed _
    rowed (tree.super_call m w args) = found_rowed _
    rowed (tree.create m of args) = created_rowed (created_class rows (context_of p) of) (ctor_found rows (context_of p) (created_class rows (context_of p) of) (types_of rows (context_of p) args)) (class_rowed (written_type rows (scope_of (context_of p)) of) (written_rowed (scope_of (context_of p)) of))
    rowed (tree.paren m e) = rowed e
    rowed (tree.cast m of e) = written_rowed (scope_of (context_of p)) of
    rowed (tree.unary m o e) = sign_rowed o
    rowed (tree.bump m o e) = tt
    rowed (tree.binary m o l r) = operator_rowed o
    rowed (tree.assign m l r) = rowed l
    rowed (tree.compound m o l r) = tt
