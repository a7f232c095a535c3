-- What has a type is no class's name: a variable or field that is found is none.
use Rattle.std.proofs.Common.{◌≡◌, inl, inr, ℕ, List, Some, Bool, sym, ap, subst, ◌∙◌}
use Rattle.std.proofs.lemmas.Option.{same_Some}
use Rattle.jr_ast.specs.Tree as tree
use Rattle.jr_table.specs.declared.answers.Answer.{Answer}
use Rattle.jr_table.specs.declared.answers.Answer.TheVariants as number
use Rattle.jr_table.specs.declared.entries.Entry.{Entry}
use Rattle.jr_table.specs.Keys.{ClassKey, FieldKey, Ty}
use Rattle.jr_table.specs.Decls.{Decl, LocalKey, class_decl, field_decl, local_decl}
use Rattle.jr_table.specs.Rows.{Row}
use Rattle.jr_table.specs.Entries.{IsRowOf, class_number, entries_of}
use Rattle.jr_table.specs.Found.{Found, one, nothing}
use Rattle.jr_table.specs.Scope.{Scope}
use Rattle.jr_table.specs.Members.{DeclaresField, IsMemberField}
use Rattle.jr_table.specs.Fields.{FindsField, FindsFieldOf}
use Rattle.jr_table.specs.Lookup.{Shows, FindsVariable, FindsFieldIn, FindsLeft, FindsLeftOf}
use Rattle.jr_table.specs.LookupLaws.{KeysFound, EachHasOne, OneAnswer}
use Rattle.jr_table.specs.BindingLaws.{IsBound, AreBound}
use Rattle.jr_table.specs.Context.{Context, scope_of}
use Rattle.jr_table.specs.Binding.{FindsIn, On, HasType, IsClassName}
use Rattle.jr_table.proofs.OneEach.{is_field_decl}
use Rattle.jr_table.proofs.RowLaws.{row_at}
use Rattle.jr_table.proofs.Border.{member_declares}
use Rattle.jr_way_places.specs.PlacedWays.{TypedAreNoClasses}

no_field : (f : FieldKey) (k : ClassKey) → field_decl f ≡ class_decl k → ⊥
no_field f k e = cc

no_local : (f : LocalKey) (k : ClassKey) → (let o : Found = one (class_decl k) in o ≡ one (local_decl f)) → ⊥
no_local f k e = cc

nothing_found : (d : Decl) → (let o : Found = nothing in o ≡ one d) → ⊥
nothing_found d e = cc

same_class : (a b : ClassKey) → Some a ≡ Some b → a ≡ b
same_class a b e = cc

module _ (rows : List Row) where
  no_member : (name : List ℕ) (c j : ℕ) (k : ClassKey) → IsMemberField (entries_of rows) name c j → IsRowOf rows (class_decl k) j → ⊥
  no_member name c j k m is =
      let o = member_declares (entries_of rows) (DeclaresField (entries_of rows) name) m.chain j m.among in
      let r = row_at rows j o.1.row o.1.stands in
      let f = is_field_decl r.row.decl (sym (ap (λ (x : Entry). x.sort) r.is) ∙ o.1.field) in
      no_field f.0 k (sym f.1 ∙ ap (λ (x : Row). x.decl) (same_Some r.row is.row (sym r.stands ∙ is.stands)) ∙ is.declares)

  by_name : (a : Answer) (c : ℕ) (is_static : Bool) (name : List ℕ) (k : ClassKey) → FindsField (entries_of rows) c is_static name a → Shows rows a (one (class_decl k)) → ⊥
  by_name (number.One j) c is_static name k h s = no_member name h.0 j k h.2 s
  by_name number.Nothing c is_static name k h s = s
  by_name (number.Many i j) c is_static name k h s = s
  by_name (number.NotAccessible j) c is_static name k h s = s
  by_name (number.FromStatic j) c is_static name k h s = s

  in_class : (a : Answer) (place c : ℕ) (name : List ℕ) (k : ClassKey) → FindsFieldOf (entries_of rows) place c name a → Shows rows a (one (class_decl k)) → ⊥
  in_class (number.One j) place c name k h s = no_member name c j k h.0 s
  in_class number.Nothing place c name k h s = s
  in_class (number.Many i j) place c name k h s = s
  in_class (number.NotAccessible j) place c name k h s = s
  in_class (number.FromStatic j) place c name k h s = s

  no_variable : (s : Scope) (name : List ℕ) (k : ClassKey) → FindsVariable rows s name (one (class_decl k)) → ⊥
  no_variable s name k (inl h) = no_local h.0 k h.2
  no_variable s name k (inr h) = by_name h.1.0 (class_number rows s.class) s.is_static name k h.1.1 h.1.2

  pub no_field_in : (s : Scope) (of : ClassKey) (name : List ℕ) (k : ClassKey) → FindsFieldIn rows s of name (one (class_decl k)) → ⊥
  no_field_in s of name k h = in_class h.0 (class_number rows s.class) (class_number rows of) name k h.1 h.2

  module _ {A : Type 0} (each : EachHasOne rows) (c : Context) (bound : IsBound A rows c) where
    one_class : (e : tree.Exp A) (a b : ClassKey) → IsClassName rows c e a → IsClassName rows c e b → a ≡ b
    one_class e a b h k = same_class a b (sym ((bound.names e a).1 h) ∙ (bound.names e b).1 k)

    left_is_none : (name : List ℕ) (d : Decl) (k : ClassKey) → FindsVariable rows (scope_of c) name (one d) → FindsLeft rows (scope_of c) name (one (class_decl k)) → ⊥
    left_is_none name d k h (inl g) = no_variable (scope_of c) name k g.0
    left_is_none name d k h (inr g) = nothing_found d (each.variable (scope_of c) name nothing (one d) g.0 h)

    left_of_is_none : (o : ClassKey) (name : List ℕ) (d : Decl) (k : ClassKey) → FindsFieldIn rows (scope_of c) o name (one d) → FindsLeftOf rows (scope_of c) o name (one (class_decl k)) → ⊥
    left_of_is_none o name d k h (inl g) = no_field_in (scope_of c) o name k g.0
    left_of_is_none o name d k h (inr g) = nothing_found d (each.field_in (scope_of c) o name nothing (one d) g.0 h)

    -- the class in front of the dot is the one whose name stands there
    on_name : (e : tree.Exp A) (o a : ClassKey) → IsClassName rows c e o → On (λ k. IsClassName rows c e k) (λ t. HasType rows c e t) a → a ≡ o
    on_name e o a n (inl h) = one_class e a o h n
    on_name e o a n (inr h) = absurd (h.0 o n)

    dotted_is_none : (e : tree.Exp A) (name : List ℕ) (d : Decl) (o k : ClassKey)
        → FindsIn (On (λ k. IsClassName rows c e k) (λ t. HasType rows c e t)) (λ k f. FindsFieldIn rows (scope_of c) k name f) (one d) → IsClassName rows c e o
        → FindsLeftOf rows (scope_of c) o name (one (class_decl k)) → ⊥
    dotted_is_none e name d o k (inl h) n g = left_of_is_none o name d k (subst (λ a. FindsFieldIn rows (scope_of c) a name (one d)) (on_name e o h.0 n h.1) h.2) g
    dotted_is_none e name d o k (inr h) n g = h.0 o (inl n)

    no_class : (e : tree.Exp A) (t : Ty) (k : ClassKey) → HasType rows c e t → IsClassName rows c e k → ⊥
    unfolding HasType IsClassName
    no_class (tree.name m w) t k h n = left_is_none w.text h.0 k h.1 n
    no_class (tree.field m e w) t k h n = dotted_is_none e w.text h.0 n.0 k h.1 n.1 n.2
    no_class (tree.number m v) t k h n = n
    no_class (tree.truth m v) t k h n = n
    no_class (tree.null m) t k h n = n
    no_class (tree.string m v) t k h n = n
    no_class (tree.this m) t k h n = n
    no_class (tree.class_literal m of) t k h n = n
    no_class (tree.super_field m w) t k h n = n
    no_class (tree.call m to w es) t k h n = n
    no_class (tree.super_call m w es) t k h n = n
    no_class (tree.create m of es) t k h n = n
    no_class (tree.paren m e) t k h n = n
    no_class (tree.cast m of e) t k h n = n
    no_class (tree.unary m o e) t k h n = n
    no_class (tree.bump m o e) t k h n = n
    no_class (tree.binary m o l r) t k h n = n
    no_class (tree.assign m l r) t k h n = n
    no_class (tree.compound m o l r) t k h n = n

pub typed_are_no_classes : {A : Type 0} → KeysFound → OneAnswer → AreBound A → TypedAreNoClasses A
typed_are_no_classes found one_answer bound rows are c e t k h n = no_class rows (one_answer rows are) c (bound rows are (found rows are) c) e t k h n
