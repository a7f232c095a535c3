-- The places at which a plan rewrites each file.
use Rattle.std.proofs.Common.{◌≡◌, ℕ, zero, suc, List, [], ◌∷◌, map, Some, true, refl, sym, ap, subst, ◌∙◌, inl, inr}
use Rattle.std.specs.Prelude.{slice_get, option_map}
use Rattle.std.proofs.lemmas.Option.{slice_get-map, none-some, same_Some}
use Rattle.jr_text.specs.declared.spans.Span.{Span}
use Rattle.jr_text.specs.Edits.{Entry}
use Rattle.jr_ast.specs.StatementTree as statement
use Rattle.jr_ast.specs.MemberTree.{Unit as UnitTree}
use Rattle.jr_lex.specs.Replacing.{IsName}
use Rattle.jr_lex.specs.Places.{ItemsPlaced}
use Rattle.jr_grammar.specs.Layout.{Layouts, itself}
use Rattle.jr_grammar.specs.MarksAreOne.{SpansTellThemselves}
use Rattle.jr_grammar.specs.MemberLayout.{unit_layouts}
use Rattle.jr_grammar.specs.Reads.{Reads}
use Rattle.jr_grammar.specs.Stands.{Tokens, StandInOrder}
use Rattle.jr_grammar.specs.Tokens.{placed_of}
use Rattle.jr_table.specs.Decls.{MemberKey, Decl}
use Rattle.jr_table.specs.BindingLaws.{AreBound}
use Rattle.jr_table.specs.Context.{Context}
use Rattle.jr_table.specs.DeclaredItems.{DeclaredItem, declarations_of}
use Rattle.jr_table.specs.LookupLaws.{KeysFound, OneAnswer}
use Rattle.jr_table.specs.Errors.{Part}
use Rattle.jr_bind.specs.Programs.{File, Program, IsProgram, units_of}
use Rattle.jr_bind.specs.SuperPlaces.{writes_super}
use Rattle.jr_program_laws.specs.FileParts.{begins}
use Rattle.jr_program_laws.proofs.MeansOnce.{declares_once}
use Rattle.jr_program_laws.proofs.ItemTokens.{tokens_rise}
use Rattle.jr_program_laws.proofs.TokenOrder.{Rising}
use Rattle.jr_rewrite.specs.Edited.{entries_from, entries_of}
use Rattle.jr_rewrite.specs.Respellings.{Choice, Change}
use Rattle.jr_rewrite.specs.Rewritten.{Rewritten}
use Rattle.jr_rewrite.specs.Rewrites.{Choosing}
use Rattle.jr_images.proofs.Imaging.{map_some}
use Rattle.jr_rename_laws.specs.OnePlan.{AreAlike}
use Rattle.jr_rename_laws.specs.ImageLaws.{RenamingsStayFair}
use Rattle.jr_rename_laws.specs.PlanLaws.{Anywhere, IsPlanIn}
use Rattle.jr_rename_laws.proofs.OneChoice.{choices_agree}
use Rattle.jr_rename_laws.proofs.Planning.{one_unit, is_fair}
use Rattle.jr_rename_laws.proofs.OneRewriting.{Agree}
use Rattle.jr_images.specs.Images.{Renaming, rows_to}
use Rattle.jr_images.specs.Spelling.{spelling}
use Rattle.jr_images.specs.TextLaws.{RowsAreNamed, NamesHaveNoDot}
use Rattle.jr_images.proofs.SuitableSpelling.{spelling_suits}
use Rattle.jr_plan.proofs.Rename.{rewrite_back}
use Rattle.jr_reference_changes.specs.Places.{Place, In, with_choice, edits_at, IsEditOf, of_expression, of_creation, of_super, of_qualifier, of_type, of_parent_qualifier, of_parent, of_declared}
use Rattle.jr_reference_changes.specs.PlacesInFiles.{UnitStays}
use Rattle.jr_reference_changes.proofs.PlacesJoined.{OneEach}
use Rattle.jr_reference_changes.proofs.PlacesApart.{AnyPlace, Placed}
use Rattle.jr_reference_changes.proofs.PlacesOfFiles.{unit_places}

pub alike_itself : (g : Renaming) → AreAlike g g
alike_itself g = record { members = λ e. (λ a. a, λ a. a); name = refl }

-- what is chosen at a place is one thing
pub one_each : (Fine : MemberKey → Part Span → Type 0) (C : Choosing Span) → Agree Fine C C → ((k : MemberKey) (x : Part Span) → Fine k x) → OneEach itself C
one_each Fine C agree fine (of_expression c r b e) h k x y = agree.expression c r b e h k x y
one_each Fine C agree fine (of_creation c b e) h k x y = agree.creation c b e h k x y
one_each Fine C agree fine (of_super key b ps args) h k x y =
    let m : Span = record { from = 0; to = 0 } in
    agree.super_call key m [] (record { mark = m; text = [] }) ps args statement.end (fine key _) h k x y
one_each Fine C agree fine (of_qualifier c b t) h k x y = agree.qualifier c b t h k x y
one_each Fine C agree fine (of_type c b t) h k x y = agree.type c b t h k x y
one_each Fine C agree fine (of_parent_qualifier o b t) h k x y = agree.parent_qualifier o b t h k x y
one_each Fine C agree fine (of_parent o b t) h k x y = agree.parent o b t h k x y
one_each Fine C agree fine (of_declared d at w) h k x y = agree.declared d w h k x y

-- each file has its edits
pub its_edits : (edits : List (List Entry)) (os : List (Rewritten (UnitTree Span))) → edits ≡ map (λ (o : Rewritten (UnitTree Span)). entries_of o.changes) os → (i : ℕ) (o : Rewritten (UnitTree Span)) → slice_get os i ≡ Some o → slice_get edits i ≡ Some (entries_of o.changes)
its_edits edits os are i o there = ap (λ (l : List (List Entry)). slice_get l i) are ∙ slice_get-map (λ (x : Rewritten (UnitTree Span)). entries_of x.changes) os i ∙ ap (option_map (λ (x : Rewritten (UnitTree Span)). entries_of x.changes)) there

-- ---- the tokens of a file

-- they rise, and the unit stands in them
pub record StandsInTokens (u : UnitTree Span) : Type 0 where
  pub tokens : Tokens
  pub rising : Rising tokens
  pub stands : StandInOrder (unit_layouts u) tokens

pub in_tokens : ItemsPlaced → SpansTellThemselves → (p : Program Span) → IsProgram itself Anywhere p → (i : ℕ) (u : UnitTree Span) → slice_get (units_of p) i ≡ Some u → StandsInTokens u
in_tokens placed tell p program i u there =
    let f = map_some (λ (x : File Span). x.unit) (slice_get p.files i) u (sym (slice_get-map (λ (x : File Span). x.unit) p.files i) ∙ there) in
    let r = program.reads i f.0 f.1 in
    let ps : Tokens = placed_of f.0.text r.items in
    record {
      tokens = ps;
      rising = tokens_rise f.0.text placed r.items r.lexes;
      stands = subst (λ (v : UnitTree Span). StandInOrder (unit_layouts v) ps) f.2 (subst (λ (x : Layouts Span). StandInOrder x ps) (tell.parts 0 (unit_layouts f.0.unit)) r.spans);
    }

-- ---- what is changed of a file

-- an edit is of some place
pub edit_of : (C : Choosing Span) (all : List (Place Span × Choice)) (y : Change) → IsEditOf itself C all y → (s : Place Span) × (h : Choice) × (In (with_choice s h) all × In y (edits_at itself C s h))
edit_of C [] y i = absurd i
edit_of C (x ∷ xs) y (inl i) = (x.0, x.1, (inl refl, i))
edit_of C (x ∷ xs) y (inr i) = (let r = edit_of C xs y i in (r.0, r.1, (inr r.2.0, r.2.1)))

-- an entry is of some change
pub entry_of : (cs : List Change) (n i : ℕ) (e : Entry) → slice_get (entries_from n cs) i ≡ Some e → (y : Change) × (In y cs × (y.span ≡ e.span))
entry_of [] n i e there = absurd (none-some e there)
entry_of (c ∷ cs) n zero e there = (c, (inl refl, ap (λ (x : Entry). x.span) (same_Some _ e there)))
entry_of (c ∷ cs) n (suc i) e there = (let r = entry_of cs (suc n) i e there in (r.0, (inr r.1.0, r.1.1)))

-- ---- a planned file

-- how a rename spells
abbrev pub spelled : Program Span → Renaming → Choosing Span
spelled p g = spelling begins p.rows g (λ (k : Context). p.super_at k.member)

module _ (named : RowsAreNamed Span) (stay : RenamingsStayFair Span) (dots : NamesHaveNoDot) (bound : AreBound Span) (keys : KeysFound) (single : OneAnswer)
    (p : Program Span) (text : List ℕ) (file at : ℕ) (new : List ℕ) (edits : List (List Entry)) (renaming : List (Decl × Decl)) (respelled : ℕ) (is : IsPlanIn p text file at new edits renaming respelled) where
  abbrev pub g : Renaming
  g = is.planned.found.g

  abbrev pub C : Choosing Span
  C = spelled p g

  abbrev pub declarations : List DeclaredItem
  declarations = declarations_of begins (units_of p)

  -- it is rewritten at these places, over whatever tokens the unit stands in
  pub record IsPlaced (i : ℕ) (u : UnitTree Span) : Type 0 where
    pub result : Rewritten (UnitTree Span)
    pub made : slice_get is.planned.becomes.files i ≡ Some result
    pub placed : Placed C AnyPlace (StandInOrder (unit_layouts u)) (UnitStays itself C declarations u) result

  reads : (i : ℕ) (u : UnitTree Span) → slice_get (units_of p) i ≡ Some u → (bytes : List ℕ) × Reads bytes u
  reads i u there =
      let f = map_some (λ (x : File Span). x.unit) (slice_get p.files i) u (sym (slice_get-map (λ (x : File Span). x.unit) p.files i) ∙ there) in
      let r = is.program.reads i f.0 f.1 in
      (f.0.text, subst (Reads f.0.text) f.2 (record { items = r.items; lexes = r.lexes; is = r.is }))

  pub planned_unit : (i : ℕ) (u : UnitTree Span) → slice_get (units_of p) i ≡ Some u → IsPlaced i u
  planned_unit i u there =
      let fit = is.program.are_rows in
      let fair = is_fair p text file at new edits renaming respelled is named stay dots in
      let agree = choices_agree p.rows fit (single p.rows fit) (bound p.rows fit (keys p.rows fit)) g g (alike_itself g) fair.are (single (rows_to g p.rows) fair.are) p.super_at p.super_at in
      let one = one_each (λ k part. writes_super part ≡ true → p.super_at k ≡ p.super_at k) C agree (λ k part e. refl) in
      let new_is = subst (λ (n : List ℕ). IsName n) (sym is.planned.found.renames.name) is.name in
      let suits = spelling_suits begins p.rows g new_is (named begins p.rows (units_of p) reads is.program.rows).0 (λ (k : Context). p.super_at k.member) in
      let o = one_unit C declarations (units_of p) is.planned.becomes.files (rewrite_back p g is.planned.becomes) i u there in
      record {
        result = o.0;
        made = o.1;
        placed = unit_places C one suits declarations (λ b of x j k. declares_once [] declarations is.program.clean b of x j k) u o.0 o.2;
      }
