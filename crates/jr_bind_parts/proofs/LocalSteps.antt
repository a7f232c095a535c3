-- Locals come into scope.
use Rattle.std.proofs.Common.{◌≡◌, ℕ, ◌+◌, List, [], ◌∷◌, ◌++◌, map, Option, Some, None, Bool, true, refl, sym, ap, subst, ◌∙◌, append_assoc}
use Rattle.std.proofs.lemmas.List.{map-append}
use Rattle.std.specs.Prelude.{option_map, is_some}
use Rattle.jr_ast.specs.Tree as tree
use Rattle.jr_table.specs.declared.rules.Rule.TheVariants as rule
use Rattle.jr_table.specs.declared.entries.Kind.{Kind}
use Rattle.jr_table.specs.Decls.{MemberKey}
use Rattle.jr_table.specs.Rows.{Row}
use Rattle.jr_table.specs.Conditions.{AreRows}
use Rattle.jr_table.specs.Entries.{kind_of}
use Rattle.jr_table.specs.Scope.{Scope, last_named}
use Rattle.jr_table.specs.Context.{LocalType, Local, Context, scope_of, scope_local, local_type, in_own, with_local}
use Rattle.jr_table.specs.Context as context
use Rattle.jr_table.specs.Binding.{value}
use Rattle.jr_table.specs.Meanings.{written_type, type_of_local, type_of, type_references}
use Rattle.jr_table.specs.Notes.{Note, reference_notes, unless, suits, breaks}
use Rattle.jr_table.specs.Walks.{notes_of}
use Rattle.jr_ast.specs.Marks.{exp_mark}
use Rattle.jr_bind_expr.specs.declared.places.Place.{Place}
use Rattle.jr_scopes.specs.declared.helds.Held as raw_held
use Rattle.jr_scopes.specs.declared.locals.Locals.{Locals}
use Rattle.jr_scopes.specs.Tracked.{Tracked, locals_of}
use Rattle.jr_bind_expr.specs.declared.findings.Note as raw
use Rattle.jr_scopes.specs.Helds.{Held, held_of, key_of, local_of, last_number, type_of as held_type_of}
use Rattle.jr_bind_expr.specs.Places.{member_of, context_of, IsRowedIf, bare, IsTyped, AreTyped, Knows}
use Rattle.jr_bind_expr.specs.Logs.{Adds}
use Rattle.jr_bind_expr.specs.Logs as logs
use Rattle.jr_bind_parts.specs.Flow.{reached}
use Rattle.jr_bind_parts.specs.StmtArms.{redeclared_notes, InitAdds, LocalPasses}
use Rattle.jr_bind_expr.proofs.Lasts.{last_is}
use Rattle.jr_bind_expr.proofs.Abouting.{bare_type}
use Rattle.jr_bind_expr.proofs.Rowing.{written_rowed}
use Rattle.jr_bind_expr.proofs.Adding.{adds_exact, adds_then}

is_some_of : {X Y : Type 0} (f : X → Y) (o : Option X) → is_some (option_map f o) ≡ is_some o
is_some_of f None = refl
is_some_of f (Some x) = refl

-- whether a local of the name is in scope
pub held_is : (p : Place) (name : List ℕ) → is_some (last_number name (map held_of (locals_of p.locals))) ≡ is_some (last_named name (scope_of (context_of p)).locals)
unfolding context_of
held_is p name = sym (ap is_some (last_is (member_of p) name (map held_of (locals_of p.locals))) ∙ is_some_of (key_of (member_of p)) (last_number name (map held_of (locals_of p.locals))))

-- the type that is written is the local's
written_local : {A : Type 0} (rows : List Row) (s : Scope) (t : tree.TypeName A) → written_type rows s t ≡ type_of_local rows s (local_type t)
written_local rows s (tree.int m) = refl
written_local rows s (tree.boolean m) = refl
written_local rows s (tree.named m o w) = refl

typed_push : (rows : List Row) (k : MemberKey) (hs : List Held) (h : Held) → AreTyped rows k hs → IsTyped rows k h → AreTyped rows k (hs ++ h ∷ [])
typed_push rows k [] h all is = (is, tt)
typed_push rows k (x ∷ hs) h all is = (all.0, typed_push rows k hs h all.1 is)

abbrev pub with_held : Place → Locals → Option ℕ → Place
with_held p v own = record { member = p.member; row = p.row; class = p.class; is_static = p.is_static; locals = v; own = own }

module _ {A : Type 0} (p : Place) (v : Locals) (h : raw_held.Held) (pushed : locals_of v ≡ locals_of p.locals ++ h ∷ []) (t : tree.TypeName A) (typed : held_type_of h.ty ≡ local_type t) where
  pub declared_context : (w : tree.Word A) → h.name.now ≡ w.text → h.has_init ≡ true
      → context_of (with_held p v (Some h.number)) ≡ in_own (context_of p) (context.local_of (context_of p) h.number h.is_final t w)
  unfolding context_of
  declared_context w name init =
      let k = member_of p in
      let last : local_of k (held_of h) ≡ context.local_of (context_of p) h.number h.is_final t w =
      λ i. record { name = name i; key = key_of k h.number; is_final = h.is_final; type = typed i; has_init = init i } in
      let all : map (local_of k) (map held_of (locals_of v)) ≡ map (local_of k) (map held_of (locals_of p.locals)) ++ context.local_of (context_of p) h.number h.is_final t w ∷ [] =
      ap (λ xs. map (local_of k) (map held_of xs)) pushed
      ∙ ap (map (local_of k)) (map-append held_of (locals_of p.locals) (h ∷ []))
      ∙ map-append (local_of k) (map held_of (locals_of p.locals)) (held_of h ∷ [])
      ∙ ap (λ l. map (local_of k) (map held_of (locals_of p.locals)) ++ l ∷ []) last in
      λ i. record { member = k; is_static = p.is_static; locals = all i; own = Some (key_of k h.number) }

  pub declared_knows : (rows : List Row) → AreRows rows → Tracked v → Knows rows p → (own : Option ℕ)
      → h.kind ≡ option_map (kind_of rows) (written_type rows (scope_of (context_of p)) t) → Knows rows (with_held p v own)
  unfolding context_of
  declared_knows rows are tracked knows own kind =
      let k = member_of p in
      let s = scope_of (context_of p) in
      let same : written_type rows s t ≡ type_of_local rows (bare k) (held_of h).type =
      written_local rows s t ∙ bare_type rows s k refl (local_type t) ∙ ap (type_of_local rows (bare k)) (sym typed) in
      let one : IsTyped rows k (held_of h) = record { kind = kind ∙ ap (option_map (kind_of rows)) same; rowed = subst (IsRowedIf rows) same (written_rowed rows are s t) } in
      record {
        row = knows.row;
        class = knows.class;
        typed = subst (AreTyped rows k) (sym (map-append held_of (locals_of p.locals) (h ∷ [])) ∙ ap (map held_of) (sym pushed)) (typed_push rows k (map held_of (locals_of p.locals)) (held_of h) knows.typed one);
        tracked = tracked;
      }

abbrev without_own : Context → Context
without_own c = record { member = c.member; is_static = c.is_static; locals = c.locals; own = None }

regroup : (a b x n : List Note) → ((a ++ b) ++ (x ++ n)) ≡ ((a ++ (b ++ x)) ++ n)
regroup a b x n = sym (append_assoc (a ++ b) x n) ∙ ap (λ z. z ++ n) (append_assoc a b x)

module _ {A : Type 0} (B : A → ℕ → ℕ) (rows : List Row) (are : AreRows rows) (p q : Place) (at number : ℕ) (f : Bool) (t : tree.TypeName A) (w : tree.Word A) (e : tree.Exp A) where
  abbrev l : Local
  l = context.local_of (context_of p) number f t w

  same_member : context_of q ≡ in_own (context_of p) l → member_of q ≡ member_of p
  unfolding context_of
  same_member h = ap (λ (c : Context). c.member) h

  pub local_whole : (kind : Option Kind) (next : ℕ) (old mid new : List raw.Note)
      → next ≡ number + 1
      → kind ≡ option_map (kind_of rows) (written_type rows (scope_of (context_of p)) t)
      → logs.notes_of rows (member_of p) mid ≡ logs.notes_of rows (member_of p) old ++ (reference_notes (type_references B rows (context_of p) at t) ++ redeclared_notes B rows (context_of p) at w)
      → context_of q ≡ in_own (context_of p) l → Knows rows q
      → InitAdds B rows (context_of q) at kind e (logs.notes_of rows (member_of q) mid) (logs.notes_of rows (member_of q) new)
      → LocalPasses B rows p at number f t w e old (reached next) (with_held q q.locals None) new
  unfolding context_of
  local_whole kind next old mid new step is head here knows init =
      let k = member_of p in
      let s = scope_of (context_of p) in
      let u = written_type rows s t in
      let c = in_own (context_of p) l in
      let own = unless (suits rows (type_of rows c e) u) (breaks (B (exp_mark e) at) rule.TypeMismatch) in
      let refs = reference_notes (type_references B rows (context_of p) at t) in
      let held = redeclared_notes B rows (context_of p) at w in
      let there : Adds (logs.notes_of rows k mid) (own ++ notes_of B rows c value at e) (logs.notes_of rows k new) =
      subst (λ (j : MemberKey). Adds (logs.notes_of rows j mid) (own ++ notes_of B rows c value at e) (logs.notes_of rows j new)) (same_member here)
      (subst (λ (d : Context). Adds (logs.notes_of rows (member_of q) mid) (unless (suits rows (type_of rows d e) u) (breaks (B (exp_mark e) at) rule.TypeMismatch) ++ notes_of B rows d value at e) (logs.notes_of rows (member_of q) new)) here
      (init u (written_rowed rows are s t) is)) in
      record {
        number_is = step;
        completes_is = refl;
        context = ap without_own here;
        knows = record { row = knows.row; class = knows.class; typed = knows.typed; tracked = knows.tracked };
        notes = subst (λ (ns : List Note). Adds (logs.notes_of rows k old) ns (logs.notes_of rows k new)) (regroup refs held own (notes_of B rows c value at e))
            (adds_then _ _ _ _ _ (adds_exact _ _ _ head) there);
      }
