-- What each kind of expression notes, after what its parts note.
use Rattle.std.proofs.Common.{◌≡◌, ℕ, List, [], ◌∷◌, ◌++◌, Option, Some, None, Bool, refl, sym, ap, subst, ◌∙◌, append_assoc}
use Rattle.std.proofs.lemmas.List.{append-nil}
use Rattle.std.specs.Prelude.{option_map, not, ◌&&◌}
use Rattle.jr_ast.specs.Tree as tree
use Rattle.jr_ast.specs.Marks.{exp_mark}
use Rattle.jr_ast.specs.declared.operators.UnOp.{UnOp}
use Rattle.jr_ast.specs.declared.operators.BinOp.{BinOp}
use Rattle.jr_ast.specs.declared.operators.BumpOp.{BumpOp}
use Rattle.jr_table.specs.declared.entries.Kind.{Kind}
use Rattle.jr_table.specs.Keys.{ClassKey, Ty, int}
use Rattle.jr_table.specs.Rows.{Row}
use Rattle.jr_table.specs.Chains.{parent_of}
use Rattle.jr_table.specs.Conditions.{AreRows}
use Rattle.jr_table.specs.Entries.{class_number, kind_of, entries_of}
use Rattle.jr_table.specs.Found.{Found}
use Rattle.jr_table.specs.Scope.{Scope}
use Rattle.jr_table.specs.Lookup.{find_variable}
use Rattle.jr_table.specs.Context.{Context, scope_of}
use Rattle.jr_table.specs.Binding.{Role, value, left, statement, variable, type, sign_type, operator_type}
use Rattle.jr_table.specs.Binding as sought
use Rattle.jr_table.specs.Meanings as pure
use Rattle.jr_table.specs.Meanings.{class_found, type_of_found, or_type, find_left, find_left_of, find_in, find_for, field_found, call_found, plain_call_found, ctor_found, own_superclass, created_class, written_type, type_of, class_name_of, target_found, types_of, class_on, reference, type_references, references}
use Rattle.jr_table.specs.Notes.{Note, breaks, found_note, reference_notes, unless, when, test_found, is_final_decl, is_fixed, is_constant_found, is_forward, is_constant, is_this, own_notes, final_notes}
use Rattle.jr_table.specs.Notes as notes
use Rattle.jr_table.specs.Walks as walks
use Rattle.jr_table.specs.declared.rules.Rule.TheVariants as rule
use Rattle.jr_bind_expr.specs.declared.places.Place.{Place}
use Rattle.jr_bind_expr.specs.declared.meanings.Meaning.{Meaning}
use Rattle.jr_bind_expr.specs.Places.{context_of, Knows}
use Rattle.jr_bind_expr.specs.Logs.{Adds}
use Rattle.jr_bind_expr.proofs.Adding.{adds_exact, adds_none, adds_then, adds_before}
use Rattle.jr_bind_expr.proofs.Meant.{field_is, left_here, super_field_is}
use Rattle.jr_bind_expr.specs.Numbered.{on_class, is_int, is_void, are_int, suits, comparable, takes, takes_one}
use Rattle.jr_bind_expr.specs.Means.{Means, TargetMeans}
use Rattle.jr_bind_expr.specs.Arms as arm
use Rattle.jr_bind_expr.specs.Arms.{Says, NameSays, FieldSays, plain, field_at, left_at, call_answer, super_answer, ctor_answer, one_decl, created}
use Rattle.jr_bind_expr.proofs.Scoped.{place_class}
use Rattle.jr_bind_expr.proofs.TypeTests.{int_is, void_is, ints_are, suits_is, comparable_is, takes_is, takes_one_is}
use Rattle.jr_bind_expr.proofs.Rowing.{rowed, written_rowed}

-- one note more of a kind, with what is nothing behind it
exactly : (old more own new : List Note) → new ≡ old ++ more → more ≡ own → Adds old own new
exactly old more own new h e = adds_exact old own new (h ∙ ap (λ x. old ++ x) e)

-- behind what the parts note
behind : (old mid new more own parts : List Note) → Adds old parts mid → new ≡ mid ++ more → more ≡ own → Adds old (own ++ parts) new
behind old mid new more own parts f h e = adds_before old mid new parts own f (exactly mid more own new h e)

nil : (xs : List Note) → xs ≡ xs ++ []
nil xs = sym (append-nil xs)

module _ {A : Type 0} (B : A → ℕ → ℕ) (rows : List Row) (are : AreRows rows) (p : Place) (knows : Knows rows p) where
  abbrev c : Context
  c = context_of p

  abbrev s : Scope
  s = scope_of c

  here : class_number rows s.class ≡ p.class
  here = place_class rows p knows

  module _ (r : Role) (base : ℕ) (m : A) (old : List Note) where
    pub number_noted : (n : ℕ) → Adds old (walks.notes_of B rows c r base (tree.number m n)) old
    unfolding own_notes walks.notes_of walks.target_notes walks.args_notes
    number_noted n = adds_none old

    pub truth_noted : (b : Bool) → Adds old (walks.notes_of B rows c r base (tree.truth m b)) old
    unfolding own_notes walks.notes_of walks.target_notes walks.args_notes
    truth_noted b = adds_none old

    pub null_noted : Adds old (walks.notes_of B rows c r base (tree.null m)) old
    unfolding own_notes walks.notes_of walks.target_notes walks.args_notes
    null_noted = adds_none old

    pub string_noted : (text : List ℕ) → Adds old (walks.notes_of B rows c r base (tree.string m text)) old
    unfolding own_notes walks.notes_of walks.target_notes walks.args_notes
    string_noted text = adds_none old

  module _ (r : Role) (base : ℕ) (m : A) (begin : ℕ) (b : begin ≡ B m base) (old new : List Note) where
    pub this_noted : new ≡ old ++ when p.is_static (breaks begin rule.StaticContext) → Adds old (walks.notes_of B rows c r base (tree.this m)) new
    unfolding own_notes walks.notes_of walks.target_notes walks.args_notes context_of
    this_noted h = exactly old _ _ new h (ap (λ n. when p.is_static (breaks n rule.StaticContext)) b ∙ nil _)

    pub class_literal_noted : (of : tree.TypeName A) → new ≡ old ++ reference_notes (type_references B rows c begin of) → Adds old (walks.notes_of B rows c r base (tree.class_literal m of)) new
    unfolding own_notes walks.notes_of walks.target_notes walks.args_notes
    class_literal_noted of h = exactly old _ _ new h (ap (λ n. reference_notes (type_references B rows c n of)) b ∙ nil _)

    pub name_noted : (w : tree.Word A) (at : ℕ) → at ≡ B w.mark (B m base) → new ≡ old ++ arm.name_notes rows c r at w.text → Adds old (walks.notes_of B rows c r base (tree.name m w)) new
    unfolding own_notes walks.notes_of walks.target_notes walks.args_notes
    name_noted w at e h = exactly old _ _ new h (ap (λ n. arm.name_notes rows c r n w.text) e ∙ by r)
      where
        by : (q : Role) → arm.name_notes rows c q (B w.mark (B m base)) w.text ≡ own_notes B rows c q base (tree.name m w)
        by value = ap (λ xs. found_note (B w.mark (B m base)) variable (find_variable rows s w.text) ∷ xs) (nil _)
        by left = ap (λ xs. found_note (B w.mark (B m base)) type (find_left rows s w.text) ∷ xs) (nil _)
        by statement = ap (λ xs. found_note (B w.mark (B m base)) variable (find_variable rows s w.text) ∷ xs) (nil _)

    pub super_field_noted : (w : tree.Word A) (at : ℕ) → at ≡ B w.mark (B m base) → new ≡ old ++ arm.super_notes rows p.is_static begin at (field_at rows p.class (parent_of (entries_of rows) p.class) w.text) → Adds old (walks.notes_of B rows c r base (tree.super_field m w)) new
    unfolding own_notes walks.notes_of walks.target_notes walks.args_notes context_of
    super_field_noted w at e h = exactly old _ _ new h
        ((λ i. arm.super_notes rows p.is_static (b i) (e i) (super_field_is B rows are p knows w.text i))
        ∙ ap (λ xs. found_note (B w.mark (B m base)) variable (field_found rows c (own_superclass rows c) w.text) ∷ when p.is_static (breaks (B m base) rule.StaticContext) ++ xs) (nil _))

  -- how a member is named
  through_is : (at : ℕ) (o : Option ClassKey) (f : Found) → arm.through_notes rows at (option_map (class_number rows) o) f ≡ notes.through_notes rows at o f
  through_is at None f = refl
  through_is at (Some k) f = refl

  dotted_is : (r : Role) (at : ℕ) (e : tree.Exp A) (from : ℕ) (x : Meaning) (of : Means B rows c from e x) (name : List ℕ) → (let v = field_at rows p.class (on_class x.class x.kind) name in
      arm.dotted_note r at x.class v (left_at rows p.class x.class v name)) ≡ notes.found_note (pure.dotted_reference B rows c r at e name).at (pure.dotted_reference B rows c r at e name).sought (pure.dotted_reference B rows c r at e name).found
  dotted_is value at e from x of name = ap (found_note at variable) (field_is B rows are p knows e from x of name)
  dotted_is statement at e from x of name = ap (found_note at variable) (field_is B rows are p knows e from x of name)
  dotted_is left at e from x of name = by (class_name_of rows c e) refl
    where
      v : Found
      v = field_at rows p.class (on_class x.class x.kind) name

      by : (o : Option ClassKey) → class_name_of rows c e ≡ o → arm.dotted_note left at x.class v (left_at rows p.class x.class v name) ≡ notes.found_note (pure.left_reference B rows c at o (class_on rows c e) name).at (pure.left_reference B rows c at o (class_on rows c e) name).sought (pure.left_reference B rows c at o (class_on rows c e) name).found
      by None h = ap (λ k. arm.dotted_note left at k v (left_at rows p.class k v name)) (of.class ∙ ap (option_map (class_number rows)) h) ∙ ap (found_note at variable) (field_is B rows are p knows e from x of name)
      by (Some k) h = ap (λ k. arm.dotted_note left at k v (left_at rows p.class k v name)) (of.class ∙ ap (option_map (class_number rows)) h) ∙ ap (found_note at type) (left_here B rows are p knows e from x of name k h)

  -- fields and calls
  through_here : (at : ℕ) (e : tree.Exp A) (from : ℕ) (x : Meaning) (of : Means B rows c from e x) (f g : Found) → f ≡ g → arm.through_notes rows at x.class f ≡ notes.through_notes rows at (class_name_of rows c e) g
  through_here at e from x of f g h = (λ i. arm.through_notes rows at (of.class i) (h i)) ∙ through_is at (class_name_of rows c e) g

  called_is : (r : Role) (at : ℕ) (name : List ℕ) (k : Option Kind) (t : Option Ty) → k ≡ option_map (kind_of rows) t → arm.called_notes r at name k ≡ notes.called_notes r at name t
  called_is r at name k t h = ap (λ b. when (not (notes.is_statement r) && b) (breaks at rule.VoidValue) ++ when (notes.is_object_method name) (breaks at rule.ObjectMethod)) (ap is_void h ∙ void_is rows t)

  module _ (r : Role) (base : ℕ) (m : A) (begin : ℕ) (b : begin ≡ B m base) (w : tree.Word A) (at : ℕ) (a : at ≡ B w.mark (B m base)) where
    pub field_noted : (e : tree.Exp A) (x : Meaning) → Means B rows c (B m base) e x → (old mid new : List Note) → Adds old (walks.notes_of B rows c left (B m base) e) mid
        → (let v = field_at rows p.class (on_class x.class x.kind) w.text in new ≡ mid ++ arm.field_notes rows r at x.class v (left_at rows p.class x.class v w.text)) → Adds old (walks.notes_of B rows c r base (tree.field m e w)) new
    unfolding own_notes walks.notes_of walks.target_notes walks.args_notes
    field_noted e x of old mid new f h =
        let n = B w.mark (B m base) in
        behind old mid new _ (own_notes B rows c r base (tree.field m e w)) _ f h
        (ap (λ k. let v = field_at rows p.class (on_class x.class x.kind) w.text in arm.field_notes rows r k x.class v (left_at rows p.class x.class v w.text)) a
        ∙ (λ i. dotted_is r n e (B m base) x of w.text i ∷ through_here n e (B m base) x of _ _ (field_is B rows are p knows e (B m base) x of w.text) i)
        ∙ ap (λ xs. notes.found_note (pure.dotted_reference B rows c r n e w.text).at (pure.dotted_reference B rows c r n e w.text).sought (pure.dotted_reference B rows c r n e w.text).found ∷ xs) (nil _))

    pub call_noted : (to : tree.Target A) (args : tree.Exps A) (t : Option Meaning) → TargetMeans B rows c (B m base) to t → (y : Meaning) (f : Found) → f ≡ target_found rows c to w.text (types_of rows c args) → Means B rows c base (tree.call m to w args) y
        → (old mid last new : List Note) → Adds old (walks.target_notes B rows c (B m base) to) mid → Adds mid (walks.args_notes B rows c (B m base) args) last → new ≡ last ++ arm.call_notes rows r at t w.text y.kind f → Adds old (walks.notes_of B rows c r base (tree.call m to w args)) new
    unfolding own_notes walks.notes_of walks.target_notes walks.args_notes
    call_noted tree.no_target args None h y f is says old mid last new u v k =
        behind old last new _ (own_notes B rows c r base (tree.call m tree.no_target w args)) _ (adds_then old mid last _ _ u v) k
        (λ i. found_note (a i) sought.method (is i) ∷ called_is r (a i) w.text y.kind _ says.kind i)
    call_noted tree.no_target args (Some x) h y f is says old mid last new u v k = absurd h
    call_noted (tree.on e) args None h y f is says old mid last new u v k = absurd h
    call_noted (tree.on e) args (Some x) h y f is says old mid last new u v k =
        behind old last new _ (own_notes B rows c r base (tree.call m (tree.on e) w args)) _ (adds_then old mid last _ _ u v) k
        (λ i. found_note (a i) sought.method (is i) ∷ through_here (a i) e (B m base) x h f _ is i ++ called_is r (a i) w.text y.kind _ says.kind i)

    pub super_call_noted : (args : tree.Exps A) (y : Meaning) (f : Found) → f ≡ call_found rows c (own_superclass rows c) w.text (types_of rows c args) → Means B rows c base (tree.super_call m w args) y
        → (old mid new : List Note) → Adds old (walks.args_notes B rows c (B m base) args) mid → new ≡ mid ++ arm.super_call_notes rows r p.is_static begin at w.text y.kind f → Adds old (walks.notes_of B rows c r base (tree.super_call m w args)) new
    unfolding own_notes walks.notes_of walks.target_notes walks.args_notes context_of
    super_call_noted args y f is says old mid new u k =
        behind old mid new _ (own_notes B rows c r base (tree.super_call m w args)) _ u k
        (λ i. found_note (a i) sought.method (is i) ∷ when p.is_static (breaks (b i) rule.StaticContext) ++ (notes.through_notes rows (a i) None (is i) ++ called_is r (a i) w.text y.kind _ says.kind i))

  module _ (r : Role) (base : ℕ) (m : A) (begin : ℕ) (b : begin ≡ B m base) where
    pub create_noted : (of : tree.TypeName A) (args : tree.Exps A) (f : Found) → f ≡ ctor_found rows c (created_class rows c of) (types_of rows c args)
        → (old mid last new : List Note) → mid ≡ old ++ reference_notes (type_references B rows c begin of) → Adds mid (walks.args_notes B rows c (B m base) args) last → new ≡ last ++ found_note begin sought.method f ∷ [] → Adds old (walks.notes_of B rows c r base (tree.create m of args)) new
    unfolding own_notes walks.notes_of walks.target_notes walks.args_notes
    create_noted of args f is old mid last new u v k =
        let refs = reference_notes (type_references B rows c (B m base) of) in
        let inner = walks.args_notes B rows c (B m base) args in
        let note = found_note (B m base) sought.method (ctor_found rows c (created_class rows c of) (types_of rows c args)) in
        let first = exactly old _ refs mid u (ap (λ n. reference_notes (type_references B rows c n of)) b) in
        let own = adds_before old last new (refs ++ inner) (note ∷ []) (adds_then old mid last refs inner first v) (exactly last _ (note ∷ []) new k (λ i. found_note (b i) sought.method (is i) ∷ [])) in
        subst (λ xs. Adds old (note ∷ xs) new) (ap (λ xs. xs ++ inner) (nil refs)) own

    module _ (l : tree.Exp A) (x : Meaning) (of : Means B rows c (B m base) l x) where
      pub paren_noted : (old new : List Note) → Adds old (walks.notes_of B rows c value (B m base) l) new → Adds old (walks.notes_of B rows c r base (tree.paren m l)) new
      unfolding own_notes walks.notes_of walks.target_notes walks.args_notes
      paren_noted old new f = f

      pub cast_noted : (ty : tree.TypeName A) (t : Option Kind) → t ≡ option_map (kind_of rows) (written_type rows s ty)
          → (old mid last new : List Note) → mid ≡ old ++ reference_notes (type_references B rows c begin ty) → Adds mid (walks.notes_of B rows c value (B m base) l) last → new ≡ last ++ arm.cast_notes (entries_of rows) begin t x → Adds old (walks.notes_of B rows c r base (tree.cast m ty l)) new
      unfolding own_notes walks.notes_of walks.target_notes walks.args_notes
      cast_noted ty t k old mid last new u v h =
          let refs = reference_notes (type_references B rows c (B m base) ty) in
          let inner = walks.notes_of B rows c value (B m base) l in
          let own = unless (notes.comparable rows (written_type rows s ty) (type_of rows c l)) (breaks (B m base) rule.BadCast) in
          let first = exactly old _ refs mid u (ap (λ n. reference_notes (type_references B rows c n ty)) b) in
          let fits = (λ i. comparable (entries_of rows) (k i) (of.kind i)) ∙ comparable_is rows (written_type rows s ty) (type_of rows c l) (written_rowed rows are s ty) (rowed rows are p knows l) in
          let second = adds_before mid last new inner own v (exactly last _ own new h (λ i. unless (fits i) (breaks (b i) rule.BadCast))) in
          subst (λ xs. Adds old xs new) (sym (append_assoc refs (own ++ []) inner ∙ ap (λ xs. refs ++ (xs ++ inner)) (append-nil own))) (adds_then old mid new refs (own ++ inner) first second)

      pub unary_noted : (o : UnOp) (old mid new : List Note) → Adds old (walks.notes_of B rows c value (B m base) l) mid → new ≡ mid ++ arm.unary_notes (entries_of rows) o begin x → Adds old (walks.notes_of B rows c r base (tree.unary m o l)) new
      unfolding own_notes walks.notes_of walks.target_notes walks.args_notes
      unary_noted o old mid new f h = behind old mid new _ (own_notes B rows c r base (tree.unary m o l)) _ f h
          ((λ i. unless ((ap (takes_one o) of.kind ∙ takes_one_is rows o (type_of rows c l)) i) (breaks (b i) rule.Operands)) ∙ nil _)

      pub bump_noted : (o : BumpOp) (old mid new : List Note) → Adds old (walks.notes_of B rows c value (B m base) l) mid → new ≡ mid ++ arm.bump_notes (entries_of rows) begin x → Adds old (walks.notes_of B rows c r base (tree.bump m o l)) new
      unfolding own_notes walks.notes_of walks.target_notes walks.args_notes
      bump_noted o old mid new f h = behind old mid new _ (own_notes B rows c r base (tree.bump m o l)) _ f h
          ((λ i. unless ((ap is_int of.kind ∙ int_is rows (type_of rows c l)) i) (breaks (b i) rule.Operands) ++ of.fixed i) ∙ ap (λ xs. unless (notes.is_ty int (type_of rows c l)) (breaks (B m base) rule.Operands) ++ xs) (nil _))

      module _ (q : tree.Exp A) (y : Meaning) (with : Means B rows c (B m base) q y) (old mid last new : List Note) (f : Adds old (walks.notes_of B rows c value (B m base) l) mid) (g : Adds mid (walks.notes_of B rows c value (B m base) q) last) where
        pub binary_noted : (o : BinOp) → new ≡ last ++ arm.binary_notes (entries_of rows) o begin x y → Adds old (walks.notes_of B rows c r base (tree.binary m o l q)) new
        unfolding own_notes walks.notes_of walks.target_notes walks.args_notes
        binary_noted o h = behind old last new _ (own_notes B rows c r base (tree.binary m o l q)) _ (adds_then old mid last _ _ f g) h
            ((λ i. unless (((λ j. takes (entries_of rows) o (of.kind j) (with.kind j)) ∙ takes_is rows o (type_of rows c l) (type_of rows c q) (rowed rows are p knows l) (rowed rows are p knows q)) i) (breaks (b i) rule.Operands)) ∙ nil _)

        pub assign_noted : new ≡ last ++ arm.assign_notes (entries_of rows) x y → Adds old (walks.notes_of B rows c r base (tree.assign m l q)) new
        unfolding own_notes walks.notes_of walks.target_notes walks.args_notes
        assign_noted h = behind old last new _ (own_notes B rows c r base (tree.assign m l q)) _ (adds_then old mid last _ _ f g) h
            ((λ i. unless (((λ j. suits (entries_of rows) (with.kind j) (of.kind j)) ∙ suits_is rows (type_of rows c q) (type_of rows c l) (rowed rows are p knows q) (rowed rows are p knows l)) i) (breaks (with.at i) rule.TypeMismatch) ++ of.fixed i)
            ∙ ap (λ xs. unless (notes.suits rows (type_of rows c q) (type_of rows c l)) (breaks (B (exp_mark q) (B m base)) rule.TypeMismatch) ++ xs) (nil _))

        pub compound_noted : (o : BinOp) → new ≡ last ++ arm.compound_notes (entries_of rows) begin x y → Adds old (walks.notes_of B rows c r base (tree.compound m o l q)) new
        unfolding own_notes walks.notes_of walks.target_notes walks.args_notes
        compound_noted o h = behind old last new _ (own_notes B rows c r base (tree.compound m o l q)) _ (adds_then old mid last _ _ f g) h
            ((λ i. unless (((λ j. are_int (of.kind j) (with.kind j)) ∙ ints_are rows (type_of rows c l) (type_of rows c q)) i) (breaks (b i) rule.Operands) ++ of.fixed i)
            ∙ ap (λ xs. unless (notes.are_ty int (type_of rows c l) (type_of rows c q)) (breaks (B m base) rule.Operands) ++ xs) (nil _))
