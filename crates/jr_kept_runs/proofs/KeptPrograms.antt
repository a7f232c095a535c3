-- A rewritten program whose declarations are the images of the old ones keeps the runs of each method and constructor.
use Rattle.std.proofs.Common.{◌≡◌, ℕ, List, [], ◌∷◌, Some, IsTrue, refl, sym, ap, subst, ◌∙◌, inl, inr, map, arith}
use Rattle.std.specs.Prelude.{◌⊎◌, slice_get, option_map, codes}
use Rattle.std.proofs.lemmas.Option.{slice_get-map}
use Rattle.jr_text.specs.declared.spans.Span.{Span}
use Rattle.jr_ast.specs.declared.operators.ModWord.TheVariants as word
use Rattle.jr_ast.specs.MemberTree as syntax
use Rattle.jr_grammar.specs.Bare.{bare_unit}
use Rattle.jr_runs.specs.Core as core
use Rattle.jr_runs.specs.Rows as core_rows
use Rattle.jr_runs.specs.KeyMaps.{KeyMap}
use Rattle.jr_runs.specs.Images.{MethodTo, CodeTo, NoSpot}
use Rattle.jr_runs.specs.MemberTranslation.{no_code}
use Rattle.jr_table.specs.Keys.{ClassKey, MethodKey, CtorKey}
use Rattle.jr_table.specs.Decls.{MemberKey, method, constructor, method_decl, constructor_decl}
use Rattle.jr_table.specs.Rows.{Row}
use Rattle.jr_table.specs.Prelude.{prelude_rows, ctor_row, thread_row, top_key, object_key, thread_key}
use Rattle.jr_table.specs.Conditions.{AreRows}
use Rattle.jr_table.specs.DeclaredItems.{declarations_of}
use Rattle.jr_table.specs.ProgramRows.{AreProgramRows}
use Rattle.jr_table.specs.Context.{Context}
use Rattle.jr_table.specs.BindingLaws.{IsBound}
use Rattle.jr_spell.specs.Rebound.{AreFronts}
use Rattle.jr_members.specs.WrittenMembers.{written_members}
use Rattle.jr_members.specs.WrittenLaws.{AreWritten}
use Rattle.jr_members.proofs.DeclarationRows.{once, not_reserved}
use Rattle.jr_rewrite.specs.Rewritten.{Rewritten}
use Rattle.jr_rewrite.specs.Rewrites.{RewritesUnits}
use Rattle.jr_images.specs.Images.{Renaming, method_to, ctor_to, row_to, rows_to}
use Rattle.jr_images.specs.Spelling.{spelling}
use Rattle.jr_images.specs.Standing.{ContextTo}
use Rattle.jr_images.specs.RenameLaws.{IsFair}
use Rattle.jr_rename_laws.specs.Beside.{UnitsBeside}
use Rattle.jr_rename_laws.specs.ImageLaws.{IsClassImage, IsMemberImage}
use Rattle.jr_images.proofs.World.{World}
use Rattle.jr_rename_laws.proofs.DeclarationRows.{no_locals, no_local_at}
use Rattle.jr_code.specs.RunKeys.{RunKeys}
use Rattle.jr_code.specs.Exchanged.{exchanged}
use Rattle.jr_code.specs.Programs.{IsCodeOf}
use Rattle.jr_image_code.specs.KeysIn.{AreDeclared}
use Rattle.jr_kept_runs.specs.KeysTo.{keys_to}
use Rattle.jr_kept_runs.specs.TablesAgree.{TablesAgree}
use Rattle.jr_kept_runs.specs.KeepsRuns.{KeepsRuns}
use Rattle.jr_kept_runs.proofs.KeptCode.{ToCode, ToMethod, no_more_to, method_agrees, code_agrees}
use Rattle.jr_kept_runs.proofs.KnownTypes.{prelude_at, parameters_known, type_known}
use Rattle.jr_kept_runs.proofs.SameTables.{maps}
use Rattle.jr_kept_runs.proofs.SameCasts.{casts}
use Rattle.jr_kept_runs.proofs.Implicit.{implicit}
use Rattle.jr_kept_runs.proofs.ProgramImages.{OfUnits, AllKept, units_walk}
use Rattle.jr_kept_runs.proofs.RowsReached.{method_reached_in, ctor_reached_in, rowed, one_key}
use Rattle.jr_kept_runs.proofs.Renames.{runs_kept, declared}

-- code that does nothing is kept
nothing_kept : (r : KeyMap RunKeys) (R : core_rows.Rows RunKeys) → ToCode r R no_code no_code
nothing_kept r R = record { size = 0; params = refl; below = omega arith; body = no_more_to }

-- the prelude's rows stay
pub stays : (rows : List Row) (g : Renaming) → AreRows rows → AreRows (rows_to g rows) → (n : ℕ) (row : Row) → slice_get prelude_rows n ≡ Some row → row_to g row ≡ row
stays rows g are news n row e =
    let p : Some (row_to g row) ≡ Some row = sym (slice_get-map (row_to g) rows n ∙ ap (option_map (row_to g)) (prelude_at rows are n row e)) ∙ prelude_at (rows_to g rows) news n row e in cc

module _ (rows : List Row) (g : Renaming) (are : AreRows rows) (news : AreRows (rows_to g rows)) where
  pub run_stays : method_to g (thread_key (codes "run")) ≡ thread_key (codes "run")
  run_stays =
      let p : method_decl (method_to g (thread_key (codes "run"))) ≡ method_decl (thread_key (codes "run")) = ap (λ (z : Row). z.decl) (stays rows g are news 6 (thread_row (word.Public ∷ []) (codes "run")) refl) in cc

  start_stays : method_to g (thread_key (codes "start")) ≡ thread_key (codes "start")
  start_stays =
      let p : method_decl (method_to g (thread_key (codes "start"))) ≡ method_decl (thread_key (codes "start")) = ap (λ (z : Row). z.decl) (stays rows g are news 7 (thread_row (word.Public ∷ []) (codes "start")) refl) in cc

  ctor_stays : (k : ClassKey) (n : ℕ) → slice_get prelude_rows n ≡ Some (ctor_row [] k) → ctor_to g (record { class = k; params = [] }) ≡ record { class = k; params = [] }
  ctor_stays k n e =
      let p : constructor_decl (ctor_to g (record { class = k; params = [] })) ≡ constructor_decl (record { class = k; params = [] }) = ap (λ (z : Row). z.decl) (stays rows g are news n (ctor_row [] k) e) in cc

module _ {A : Type 0} (tells : A → ℕ → Span) (last : A → ℕ → ℕ) (rows : List Row) (g : Renaming) (super_at super_at' : MemberKey → ℕ) (units news : List (syntax.Unit A)) (files : List (Rewritten (syntax.Unit A)))
    (are : AreRows rows) (agree : TablesAgree rows g) (bound_old : (c : Context) → IsBound A rows c) (bound_new : (d : Context) → IsBound A (rows_to g rows) d) (fronts : (d : Context) → AreFronts A (rows_to g rows) d)
    (worlds : (c d : Context) → ContextTo g rows c d → World A rows g c d) (fair : IsFair rows g)
    (program : AreProgramRows (declarations_of (λ (m : A) b. (tells m b).from) units) rows) (written : AreWritten (λ (m : A) b. (tells m b).from) units rows (written_members (λ (m : A) b. (tells m b).from) rows units))
    (made : RewritesUnits tells (spelling (λ m b. (tells m b).from) rows g (λ (c : Context). super_at c.member)) (declarations_of (λ (m : A) b. (tells m b).from) units) units files) (kept : AllKept files)
    (read : map bare_unit news ≡ map (λ (o : Rewritten (syntax.Unit A)). bare_unit o.tree) files)
    (beside : UnitsBeside (λ (m : A) b. (tells m b).from) (λ (m : A) b. (tells m b).from) (IsClassImage tells (λ (m : A) b. (tells m b).from) g)
    (IsMemberImage tells (λ (m : A) b. (tells m b).from) g (declarations_of (λ (m : A) b. (tells m b).from) units) (declarations_of (λ (m : A) b. (tells m b).from) news)) units news) where
  abbrev begins : A → ℕ → ℕ
  begins m b = (tells m b).from

  module _ (P Q : core.Program RunKeys) (old : IsCodeOf (λ (m : A) b. (tells m b).from) last rows super_at units P) (new : IsCodeOf (λ (m : A) b. (tells m b).from) last (rows_to g rows) super_at' news Q) where
    has : AreDeclared rows P.rows
    has = declared rows P.rows old.declarations

    -- what is written, and constructors that aren't
    method_here : (k : MethodKey) → OfUnits begins (declarations_of begins units) units (method k) → ToMethod (exchanged (keys_to g) rows) P.rows (P.method k) (Q.method (method_to g k))
    method_here k here = units_walk tells last rows g (λ (c : Context). super_at c.member) worlds fair bound_old bound_new fronts (exchanged (keys_to g) rows) (maps rows g agree) P.rows has
        (λ l j i. no_local_at rows (no_locals (declarations_of begins units) rows program) j i.row i.stands l i.declares) (casts rows g agree) (λ c place e t h. type_known rows are c place e t h) super_at super_at'
        are (λ c d same q n x y. implicit rows g are agree.new c d same q n x y)
        (declarations_of begins units) (declarations_of begins news) (one_key begins (declarations_of begins units) (once (declarations_of begins units) rows are program) (not_reserved (declarations_of begins units) rows are program))
        P Q (λ l row t of. parameters_known rows are l row t of) units files news read made kept beside (rowed begins units rows program written) old.members new.members (method k) here

    ctor_here : (k : CtorKey) → OfUnits begins (declarations_of begins units) units (constructor k) → ToCode (exchanged (keys_to g) rows) P.rows (P.constructor k) (Q.constructor (ctor_to g k))
    ctor_here k here = units_walk tells last rows g (λ (c : Context). super_at c.member) worlds fair bound_old bound_new fronts (exchanged (keys_to g) rows) (maps rows g agree) P.rows has
        (λ l j i. no_local_at rows (no_locals (declarations_of begins units) rows program) j i.row i.stands l i.declares) (casts rows g agree) (λ c place e t h. type_known rows are c place e t h) super_at super_at'
        are (λ c d same q n x y. implicit rows g are agree.new c d same q n x y)
        (declarations_of begins units) (declarations_of begins news) (one_key begins (declarations_of begins units) (once (declarations_of begins units) rows are program) (not_reserved (declarations_of begins units) rows are program))
        P Q (λ l row t of. parameters_known rows are l row t of) units files news read made kept beside (rowed begins units rows program written) old.members new.members (constructor k) here

    -- the prelude's
    method_by : (k n : MethodKey) (x : core.Method RunKeys) → P.method k ≡ x → Q.method n ≡ x → ToMethod (exchanged (keys_to g) rows) P.rows x x → ToMethod (exchanged (keys_to g) rows) P.rows (P.method k) (Q.method n)
    method_by k n x a b h =
        subst (λ (z : core.Method RunKeys). ToMethod (exchanged (keys_to g) rows) P.rows z (Q.method n)) (sym a) (subst (λ (z : core.Method RunKeys). ToMethod (exchanged (keys_to g) rows) P.rows x z) (sym b) h)

    method_prelude : (k : MethodKey) → (k ≡ thread_key (codes "run")) ⊎ (k ≡ thread_key (codes "start")) → ToMethod (exchanged (keys_to g) rows) P.rows (P.method k) (Q.method (method_to g k))
    method_prelude k (inl is) = method_by k (method_to g k) (core.written no_code) (ap P.method is ∙ old.prelude.run) (ap (λ (z : MethodKey). Q.method (method_to g z)) is ∙ ap Q.method (run_stays rows g are agree.new) ∙ new.prelude.run) (nothing_kept (exchanged (keys_to g) rows) P.rows)
    method_prelude k (inr is) = method_by k (method_to g k) core.starts (ap P.method is ∙ old.prelude.start) (ap (λ (z : MethodKey). Q.method (method_to g z)) is ∙ ap Q.method (start_stays rows g are agree.new) ∙ new.prelude.start) tt

    ctor_by : (k n : CtorKey) → P.constructor k ≡ no_code → Q.constructor n ≡ no_code → ToCode (exchanged (keys_to g) rows) P.rows (P.constructor k) (Q.constructor n)
    ctor_by k n a b =
        subst (λ (z : core.Code RunKeys). ToCode (exchanged (keys_to g) rows) P.rows z (Q.constructor n)) (sym a) (subst (λ (z : core.Code RunKeys). ToCode (exchanged (keys_to g) rows) P.rows no_code z) (sym b) (nothing_kept (exchanged (keys_to g) rows) P.rows))

    ctor_prelude : (k : CtorKey) → (k ≡ record { class = object_key; params = [] }) ⊎ (k ≡ record { class = top_key (codes "Thread"); params = [] }) → ToCode (exchanged (keys_to g) rows) P.rows (P.constructor k) (Q.constructor (ctor_to g k))
    ctor_prelude k (inl is) = ctor_by k (ctor_to g k) (ap P.constructor is ∙ old.prelude.object) (ap (λ (z : CtorKey). Q.constructor (ctor_to g z)) is ∙ ap Q.constructor (ctor_stays rows g are agree.new object_key 1 refl) ∙ new.prelude.object)
    ctor_prelude k (inr is) = ctor_by k (ctor_to g k) (ap P.constructor is ∙ old.prelude.thread) (ap (λ (z : CtorKey). Q.constructor (ctor_to g z)) is ∙ ap Q.constructor (ctor_stays rows g are agree.new (top_key (codes "Thread")) 5 refl) ∙ new.prelude.thread)

    method_of : (k : MethodKey) → ((k ≡ thread_key (codes "run")) ⊎ (k ≡ thread_key (codes "start"))) ⊎ OfUnits begins (declarations_of begins units) units (method k) → ToMethod (exchanged (keys_to g) rows) P.rows (P.method k) (Q.method (method_to g k))
    method_of k (inl of) = method_prelude k of
    method_of k (inr here) = method_here k here

    ctor_of : (k : CtorKey) → ((k ≡ record { class = object_key; params = [] }) ⊎ (k ≡ record { class = top_key (codes "Thread"); params = [] })) ⊎ OfUnits begins (declarations_of begins units) units (constructor k)
        → ToCode (exchanged (keys_to g) rows) P.rows (P.constructor k) (Q.constructor (ctor_to g k))
    ctor_of k (inl of) = ctor_prelude k of
    ctor_of k (inr here) = ctor_here k here

    -- each that is declared
    method_goes : (k : MethodKey) → IsTrue (P.rows.has_method k) → MethodTo (exchanged (keys_to g) rows) P.rows NoSpot (P.method k) (Q.method ((exchanged (keys_to g) rows).method k))
    method_goes k has_it =
        let row = (old.declarations.has_method k).0 has_it in
        subst (λ (z : MethodKey). MethodTo (exchanged (keys_to g) rows) P.rows NoSpot (P.method k) (Q.method z)) (sym ((maps rows g agree).method k row.0 row.1))
        (method_agrees (exchanged (keys_to g) rows) P.rows (P.method k) (Q.method (method_to g k)) (method_of k (method_reached_in begins units rows program k row.0 row.1)))

    ctor_goes : (k : CtorKey) → IsTrue (P.rows.has_constructor k) → CodeTo (exchanged (keys_to g) rows) P.rows NoSpot (P.constructor k) (Q.constructor ((exchanged (keys_to g) rows).constructor k))
    ctor_goes k has_it =
        let row = (old.declarations.has_constructor k).0 has_it in
        subst (λ (z : CtorKey). CodeTo (exchanged (keys_to g) rows) P.rows NoSpot (P.constructor k) (Q.constructor z)) (sym ((maps rows g agree).constructor k row.0 row.1))
        (code_agrees (exchanged (keys_to g) rows) P.rows (P.constructor k) (Q.constructor (ctor_to g k)) (ctor_of k (ctor_reached_in begins units rows program k row.0 row.1)))

  pub runs_stay : KeepsRuns (keys_to g) (record { begins = λ (m : A) b. (tells m b).from; ends = last; rows = rows; super_at = super_at; units = units }) (record { begins = λ (m : A) b. (tells m b).from; ends = last; rows = rows_to g rows; super_at = super_at'; units = news })
  runs_stay P Q old new = runs_kept rows g agree P Q old.declarations new.declarations (method_goes P Q old new) (ctor_goes P Q old new)
