-- What a part of a program notes, from what its own parts note.
use Rattle.std.proofs.Common.{◌≡◌, ℕ, List, ◌++◌, length, Option, Some, None, Bool, true, false, refl, sym, ap, subst, ◌∙◌, append_assoc}
use Rattle.std.specs.Prelude.{slice_get}
use Rattle.jr_ast.specs.Tree as tree
use Rattle.jr_ast.specs.StatementTree as statement
use Rattle.jr_ast.specs.MemberTree as syntax
use Rattle.jr_ast.specs.Marks.{exp_mark}
use Rattle.jr_table.specs.declared.entries.Kind.{Kind}
use Rattle.jr_table.specs.declared.rules.Rule.TheVariants as rule
use Rattle.jr_table.specs.Keys.{ClassKey, FieldKey, MethodKey, CtorKey}
use Rattle.jr_table.specs.Decls.{MemberKey, head, field, method, constructor, field_decl}
use Rattle.jr_table.specs.Rows.{Row}
use Rattle.jr_table.specs.Conditions.{AreRows}
use Rattle.jr_table.specs.Entries.{number_of, entries_of}
use Rattle.jr_table.specs.Context.{Context}
use Rattle.jr_table.specs.Binding.{value}
use Rattle.jr_table.specs.HeadRules.{plain, with_parameters}
use Rattle.jr_table.specs.Meanings.{type_of, type_of_decl, type_references}
use Rattle.jr_table.specs.Notes.{Note, breaks, unless, when, suits, is_object_method, list_completes}
use Rattle.jr_table.specs.HeadNotes.{declared_notes, param_references, init_notes, missing_return_notes}
use Rattle.jr_table.specs.HeadNotes as heads
use Rattle.jr_table.specs.Errors.{member_part}
use Rattle.jr_table.specs.Walks.{notes_of, maybe_notes, super_args_notes, body_notes, member_notes, part_notes}
use Rattle.jr_bind_parts.specs.declared.completing.Behind.{Behind}
use Rattle.jr_bind_expr.specs.declared.places.Place.{Place}
use Rattle.jr_bind_expr.specs.declared.findings.Note as raw
use Rattle.jr_bind_expr.specs.Abouts.{kind_at}
use Rattle.jr_bind_expr.specs.Places.{member_of, context_of}
use Rattle.jr_bind_expr.specs.Logs.{Adds}
use Rattle.jr_bind_expr.specs.Logs as logs
use Rattle.jr_bind_parts.specs.Flow.{BodyPasses}
use Rattle.jr_bind_parts.specs.StmtArms.{InitAdds}
use Rattle.jr_bind_parts.specs.DeclarationArms as arms
use Rattle.jr_bind_parts.specs.Supers as supers
use Rattle.jr_bind_parts.specs.PartNotes.{field_notes, method_notes, ctor_notes}
use Rattle.jr_bind_expr.proofs.Adding.{adds_exact, adds_then, adds_before}
use Rattle.jr_bind_expr.proofs.Rowing.{row_rowed}
use Rattle.jr_bind_parts.proofs.StmtArming.{row_kind}

-- the member of a place
pub member_here : (p : Place) (c : Context) → context_of p ≡ c → member_of p ≡ c.member
unfolding context_of
member_here p c h = ap (λ (d : Context). d.member) h

module _ {A : Type 0} (B : A → ℕ → ℕ) (rows : List Row) (k : MemberKey) where
  abbrev pub N : List raw.Note → List Note
  N log = logs.notes_of rows k log

  -- notes of a place, whose context this is
  pub adds_at : (p : Place) (c : Context) → context_of p ≡ c → c.member ≡ k → (f : Context → List Note) (old new : List raw.Note)
      → Adds (logs.notes_of rows (member_of p) old) (f (context_of p)) (logs.notes_of rows (member_of p) new) → Adds (N old) (f c) (N new)
  adds_at p c h is f old new adds =
      subst (λ (d : Context). Adds (N old) (f d) (N new)) h
      (subst (λ (j : MemberKey). Adds (logs.notes_of rows j old) (f (context_of p)) (logs.notes_of rows j new)) (member_here p c h ∙ is) adds)

  -- a field
  pub field_whole : (at : ℕ) (s : Bool) (t : tree.TypeName A) (init : Option (tree.Exp A)) (old mid new : List raw.Note)
      → N mid ≡ N old ++ declared_notes (type_references B rows (plain k false) at t)
      → Adds (N mid) (init_notes B rows k s at init ++ maybe_notes B rows (plain k s) at init) (N new)
      → Adds (N old) (field_notes B rows k at s t init) (N new)
  field_whole at s t init old mid new h g =
      subst (λ (ns : List Note). Adds (N old) ns (N new)) (sym (append_assoc (declared_notes (type_references B rows (plain k false) at t)) (init_notes B rows k s at init) (maybe_notes B rows (plain k s) at init)))
      (adds_then _ _ _ _ _ (adds_exact _ _ _ h) g)

  -- a body
  pub body_adds : (p q : Place) (s : Bool) (ps : List (syntax.Param A)) (number at : ℕ) (body : statement.Stmts A) (b : Behind) (old new : List raw.Note)
      → context_of p ≡ with_parameters k s ps → number ≡ length ps → BodyPasses B rows number p at body old b q new
      → Adds (N old) (body_notes B rows (length ps) (with_parameters k s ps) at body) (N new)
  body_adds p q s ps number at body b old new here many h =
      subst (λ (n : ℕ). Adds (N old) (body_notes B rows n (with_parameters k s ps) at body) (N new)) many
      (adds_at p (with_parameters k s ps) here refl (λ c. body_notes B rows number c at body) old new h.notes)

  missing_is : (at : ℕ) (t : Option (tree.TypeName A)) (body : statement.Stmts A) → arms.missing_notes at t (list_completes body) ≡ missing_return_notes B rows at t body
  missing_is at None body = refl
  missing_is at (Some t) body = refl

  -- a method, whose body is walked first
  pub method_whole : (at : ℕ) (s : Bool) (t : Option (tree.TypeName A)) (w : tree.Word A) (ps : List (syntax.Param A)) (body : statement.Stmts A) (completes : Bool) (old mid new : List raw.Note)
      → Adds (N old) (body_notes B rows (length ps) (with_parameters k s ps) at body) (N mid)
      → completes ≡ list_completes body → N new ≡ N mid ++ arms.method_notes B rows k at t w ps completes
      → Adds (N old) (method_notes B rows k at s t w ps body) (N new)
  method_whole at s t w ps body completes old mid new walked ends h =
      let last = heads.override_notes rows k (B w.mark at) ++ when (is_object_method w.text) (breaks (B w.mark at) rule.ObjectMethod) in
      let refs = declared_notes (heads.result_references B rows (plain k false) at t ++ param_references B rows (plain k false) at ps) in
      let missing = ap (arms.missing_notes (B w.mark at) t) ends ∙ missing_is (B w.mark at) t body in
      adds_before (N old) (N mid) (N new) _ _ walked (adds_exact (N mid) _ (N new) (h ∙ ap (λ ns. N mid ++ (refs ++ (ns ++ last))) missing))

  super_is : (super_at at : ℕ) (ps : List (syntax.Param A)) (args : Option (tree.Exps A)) → supers.super_notes rows (with_parameters k true ps) super_at at args ≡ heads.super_notes B rows super_at at k ps args
  super_is super_at at ps None = refl
  super_is super_at at ps (Some args) = refl

  regroup : (d s a b : List Note) → ((d ++ (s ++ a)) ++ b) ≡ ((d ++ s) ++ (a ++ b))
  regroup d s a b = ap (λ ns. ns ++ b) (sym (append_assoc d s a)) ∙ append_assoc (d ++ s) a b

  -- a constructor
  pub ctor_whole : (super_at at : ℕ) (w : tree.Word A) (ps : List (syntax.Param A)) (args : Option (tree.Exps A)) (body : statement.Stmts A) (old first second new : List raw.Note)
      → N first ≡ N old ++ declared_notes (param_references B rows (plain k false) at ps)
      → Adds (N first) (supers.super_notes rows (with_parameters k true ps) super_at (B w.mark at) args ++ super_args_notes B rows (with_parameters k true ps) at args) (N second)
      → Adds (N second) (body_notes B rows (length ps) (with_parameters k false ps) at body) (N new)
      → Adds (N old) (ctor_notes B rows k at super_at w ps args body) (N new)
  ctor_whole super_at at w ps args body old first second new h g walked =
      let declared = declared_notes (param_references B rows (plain k false) at ps) in
      let called = super_args_notes B rows (with_parameters k true ps) at args in
      let inner = body_notes B rows (length ps) (with_parameters k false ps) at body in
      subst (λ (ns : List Note). Adds (N old) ((declared ++ ns) ++ (called ++ inner)) (N new)) (super_is super_at (B w.mark at) ps args)
      (subst (λ (ns : List Note). Adds (N old) ns (N new)) (regroup declared (supers.super_notes rows (with_parameters k true ps) super_at (B w.mark at) args) called inner)
      (adds_then _ _ _ _ _ (adds_then _ _ _ _ _ (adds_exact _ _ _ h) g) walked))

-- a part that is no head
module _ {A : Type 0} (B : A → ℕ → ℕ) (rows : List Row) (super_at : ℕ) where
  pub part_member : (k : MemberKey) (base : ℕ) (x : syntax.Member A) → part_notes B rows super_at k base (member_part x) ≡ member_notes B rows super_at k base x
  part_member (head k) base x = refl
  part_member (field k) base x = refl
  part_member (method k) base x = refl
  part_member (constructor k) base x = refl

-- another member's
module _ {A : Type 0} (B : A → ℕ → ℕ) (rows : List Row) (k : MemberKey) (s : Bool) (at : ℕ) (e : tree.Exp A) (old new : List Note) (more : List Note) where
  pub init_head : (j : ClassKey) → k ≡ head j → Adds old more new → Adds old (init_notes B rows k s at (Some e) ++ more) new
  init_head j is h = subst (λ (m : MemberKey). Adds old (init_notes B rows m s at (Some e) ++ more) new) (sym is) h

  pub init_method : (j : MethodKey) → k ≡ method j → Adds old more new → Adds old (init_notes B rows k s at (Some e) ++ more) new
  init_method j is h = subst (λ (m : MemberKey). Adds old (init_notes B rows m s at (Some e) ++ more) new) (sym is) h

  pub init_ctor : (j : CtorKey) → k ≡ constructor j → Adds old more new → Adds old (init_notes B rows k s at (Some e) ++ more) new
  init_ctor j is h = subst (λ (m : MemberKey). Adds old (init_notes B rows m s at (Some e) ++ more) new) (sym is) h

-- a field's initializer
module _ {A : Type 0} (B : A → ℕ → ℕ) (rows : List Row) (p : Place) (at : ℕ) (e : tree.Exp A) (old new : List raw.Note) where
  pub init_field : AreRows rows → (k : MemberKey) (s : Bool) (j : FieldKey) → context_of p ≡ plain k s → k ≡ field j → number_of rows (field_decl j) ≡ Some p.row
      → (kind : Option Kind) → kind ≡ kind_at (slice_get (entries_of rows) p.row)
      → InitAdds B rows (context_of p) at kind e (logs.notes_of rows (member_of p) old) (logs.notes_of rows (member_of p) new)
      → Adds (logs.notes_of rows k old) (init_notes B rows k s at (Some e) ++ maybe_notes B rows (plain k s) at (Some e)) (logs.notes_of rows k new)
  init_field are k s j here is row kind has h =
      let t = type_of_decl rows (plain (field j) s) (field_decl j) in
      let whole = λ (c : Context). unless (suits rows (type_of rows c e) t) (breaks (B (exp_mark e) at) rule.TypeMismatch) ++ notes_of B rows c value at e in
      let there : context_of p ≡ plain (field j) s = here ∙ ap (λ (m : MemberKey). plain m s) is in
      subst (λ (m : MemberKey). Adds (logs.notes_of rows m old) (init_notes B rows m s at (Some e) ++ maybe_notes B rows (plain m s) at (Some e)) (logs.notes_of rows m new)) (sym is)
      (adds_at B rows (field j) p (plain (field j) s) there refl whole old new (h t (row_rowed rows are (field_decl j)) (has ∙ row_kind rows (field_decl j) p.row row)))
