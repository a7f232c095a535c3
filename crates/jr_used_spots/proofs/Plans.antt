-- Whatever extract local, or inline local, makes of a program, the spot of its list is met.
use Rattle.std.proofs.Common.{◌≡◌, ℕ, suc, List, [], ◌∷◌, Some, refl, sym, ap, ◌∙◌, subst, inl, inr}
use Rattle.std.specs.Prelude.{slice_get, Contains}
use Rattle.std.proofs.lemmas.Bool.{eq-eqb}
use Rattle.jr_text.specs.declared.spans.Span.{Span}
use Rattle.jr_ast.specs.Tree as tree
use Rattle.jr_ast.specs.StatementTree as statement
use Rattle.jr_ast.specs.MemberTree as syntax
use Rattle.jr_ast.specs.Marks.{exp_mark, stmt_mark}
use Rattle.jr_grammar.specs.Layout.{itself}
use Rattle.jr_table.specs.Context.{Context}
use Rattle.jr_table.specs.DeclaredItems.{DeclaredItem, declarations_of}
use Rattle.jr_members.specs.WrittenMembers.{written_members}
use Rattle.jr_members.specs.WrittenLaws.{MembersAreWritten}
use Rattle.jr_bind.specs.Programs.{Program, IsProgram, units_of}
use Rattle.jr_program_laws.proofs.MeansOnce.{declares_once}
use Rattle.jr_rewrite.specs.Respellings.{Change}
use Rattle.jr_rewrite.specs.Rewritten.{Rewritten, change}
use Rattle.jr_rewrite.specs.Spots.{Spots, Spotted, spotted}
use Rattle.jr_rewrite.specs.Rewrites.{Choosing}
use Rattle.jr_rewrite.specs.Woven.{with_changes}
use Rattle.jr_plan.specs.Transforms.{TransformsFiles}
use Rattle.jr_local.specs.Bodies.{begins, Body, HasBody}
use Rattle.jr_local.specs.Selecting.{element}
use Rattle.jr_local.specs.Extracted as extracted
use Rattle.jr_local.specs.Inlined as inlined
use Rattle.jr_local_texts.proofs.StandingBodies.{contains_at}
use Rattle.jr_used_spots.specs.Plans.{ExtractsPut, InlinesTakeAway}
use Rattle.jr_used_spots.proofs.Lists.{Has, Meets}
use Rattle.jr_used_spots.proofs.Files.{OfLists, InBody, Comes, file_comes, unit_meets}

-- ---- among changes

it_stands : (c : Change) (xs : List Change) → Has c xs → (n : ℕ) × (slice_get xs n ≡ Some c)
it_stands c [] h = absurd h
it_stands c (d ∷ ds) (inl e) = (0, ap (λ (x : Change). Some x) e)
it_stands c (d ∷ ds) (inr h) = (let r = it_stands c ds h in (suc r.0, r.1))

contained : (c : Change) (xs : List Change) → Has c xs → Contains xs c
contained c xs h = (let r = it_stands c xs h in contains_at xs r.0 c r.1)

-- ---- in the file that writes the body

-- what comes of the file, with the list that a spot makes
record MeetsIn (s : Spots Span) (file : ℕ) (files : List (Rewritten (syntax.Unit Span))) : Type 0 where
  o : Rewritten (syntax.Unit Span)
  stands : slice_get files file ≡ Some o
  meets : Meets s o.changes

module _ (p : Program Span) (program : IsProgram itself (λ m b. Unit {0}) p) (written : MembersAreWritten Span) where
  abbrev declarations : List DeclaredItem
  declarations = declarations_of begins (units_of p)

  file_meets : (C : Choosing Span) (s : Spots Span) (only : OfLists s) (Held : ℕ → Context → statement.Stmts Span → Type 0)
      (barred : (n : ℕ) (c : Context) (base : ℕ) (xs : statement.Stmts Span) → Held n c xs → s.list_stays n c base xs → ⊥) (f : tree.Exp Span)
      (file : ℕ) (b : Body) → HasBody p file b → InBody C s only Held barred f b
      → (spots : ℕ → Spotted Span) → spots file ≡ spotted s → (files : List (Rewritten (syntax.Unit Span))) → TransformsFiles C declarations spots (units_of p) files → MeetsIn s file files
  file_meets C s only Held barred f file b h there spots is files w =
      let m = h.member in
      let writes = (written begins (units_of p) p.rows program.are_rows program.rows).each m (contains_at (written_members begins p.rows (units_of p)) h.number m h.written) in
      let at : slice_get (units_of p) file ≡ Some writes.unit = ap (slice_get (units_of p)) (sym h.in_file) ∙ writes.stands in
      let comes : Comes C declarations (spotted s) writes.unit file files =
      subst (λ (t : Spotted Span). Comes C declarations t writes.unit file files) is (file_comes C declarations (units_of p) files spots w file writes.unit at) in
      record {
        o = comes.o;
        stands = comes.stands;
        meets = unit_meets C s only Held barred f declarations (declares_once [] declarations program.clean) m.key m.base m.part b.bound b h.is there writes.unit writes.writes comes.o comes.becomes;
      }

-- ---- extract local

module _ (p : Program Span) (file from to : ℕ) (name : List ℕ) (f : extracted.Found p file from to name) where
  abbrev extracts : Spots Span
  extracts = extracted.list_spot p file from to name f.selected f.text f.items f.type

  abbrev put : (init gap : List ℕ) → Change
  put init gap = extracted.put_declaration name (stmt_mark (element f.selected).stmt) f.type.tree init gap

  -- what a spot makes of a list has the declaration
  has_put : (n : ℕ) (c : Context) (base : ℕ) (xs : statement.Stmts Span) (o : Rewritten (statement.Stmts Span)) → extracted.Extracts p file from to name f.selected f.text f.items f.type n c base xs o
      → (init : List ℕ) × (gap : List ℕ) × Has (put init gap) o.changes
  has_put n c base statement.end o w = absurd w
  has_put n c base (statement.more s ss) o w =
      let puts = w.1 in
      let init = with_changes f.text (exp_mark f.selected.value) puts.piece.changes in (
        init,
        puts.gap,
        subst (Has (put init puts.gap)) (sym puts.changes_are) (inl (ap (λ (t : statement.Stmt Span). extracted.put_declaration name (stmt_mark t) f.type.tree init puts.gap) w.0.2)),
      )

pub extracts_put : MembersAreWritten Span → ExtractsPut
extracts_put written p program file from to name f made =
    let met = file_meets p program written (extracted.choices p file from to name f.selected (extracted.around p file from to name f.selected)) (extracts p file from to name f)
    (record { members = λ base of xs o h. h; whole = λ base outer x o h. h }) (extracted.IsHeld p file from to name f.selected) (λ n c base xs held stays. stays held) f.selected.value
    file f.selected.body f.selected.has (f.selected.way, (refl, refl, refl, refl))
    (extracted.spots_of p file from to name f.selected f.text f.items f.type) (ap (λ b. extracted.spots_if p file from to name f.selected f.text f.items f.type b) (eq-eqb file file refl)) made.files made.rewritten in
    let has = has_put p file from to name f met.meets.next met.meets.context met.meets.base met.meets.list met.meets.made met.meets.is in
    record {
      o = met.o;
      stands = met.stands;
      init = has.0;
      gap = has.1;
      puts = contained (put p file from to name f has.0 has.1) met.o.changes (met.meets.has (put p file from to name f has.0 has.1) has.2);
    }

-- ---- inline local

module _ (p : Program Span) (file at : ℕ) (f : inlined.Found p file at) where
  abbrev inlines : Spots Span
  inlines = inlined.list_spot p file at f.asked f.type f.text f.items f.copies f.gone

  has_gone : (n : ℕ) (c : Context) (base : ℕ) (xs : statement.Stmts Span) (o : Rewritten (statement.Stmts Span))
      → inlined.Inlines p file at f.asked f.type f.text f.items f.copies f.gone n c base xs o → Has (change f.gone []) o.changes
  has_gone n c base statement.end o w = absurd w
  has_gone n c base (statement.more s ss) o w = subst (Has (change f.gone [])) (sym (ap (λ (r : Rewritten (statement.Stmts Span)). r.changes) w.1.is)) (inl refl)

pub inlines_take_away : MembersAreWritten Span → InlinesTakeAway
inlines_take_away written p program file at f made =
    let t = f.asked.declared in
    let met = file_meets p program written (inlined.choices p file at f.asked f.type (inlined.left_out p file at f.asked f.type)) (inlines p file at f)
    (record { members = λ base of xs o h. h; whole = λ base outer x o h. h }) (inlined.IsHeld p file at f.asked f.type) (λ n c base xs held stays. stays held) t.init
    file t.body t.has (t.declares.way, (refl, refl, refl, refl))
    (inlined.spots_of p file at f.asked f.type f.text f.items f.copies f.gone) (ap (λ b. inlined.spots_if p file at f.asked f.type f.text f.items f.copies b f.gone) (eq-eqb file file refl)) made.files made.rewritten in
    record {
      o = met.o;
      stands = met.stands;
      goes = contained (change f.gone []) met.o.changes (met.meets.has (change f.gone []) (has_gone p file at f met.meets.next met.meets.context met.meets.base met.meets.list met.meets.made met.meets.is));
    }
