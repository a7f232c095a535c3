-- What comes of the list from the statement on: the declaration, the statement and those behind it, each
-- reference bound to the image of its declaration.
use Rattle.std.proofs.Common.{◌≡◌, ◌≢◌, ℕ, zero, suc, ◌+◌, List, [], ◌∷◌, ◌++◌, Option, Some, None, Bool, true, false, refl, sym, ap, subst, ◌∙◌, inl, inr, arith, if◌then◌else◌}
use Rattle.std.specs.Cmp.Lexicographic.{bytes_decides}
use Rattle.jr_text.specs.declared.spans.Span.{Span}
use Rattle.jr_ast.specs.Tree as tree
use Rattle.jr_ast.specs.StatementTree as statement
use Rattle.jr_ast.specs.Marks.{exp_mark, stmt_mark}
use Rattle.jr_grammar.specs.Layout.{itself}
use Rattle.jr_table.specs.Keys.{ClassKey, Ty, int, boolean, void, null, class}
use Rattle.jr_table.specs.Decls.{MemberKey, LocalKey, class_decl, local_decl}
use Rattle.jr_table.specs.SameKeys.{same_name}
use Rattle.jr_table.specs.Rows.{Row}
use Rattle.jr_table.specs.Found.{one}
use Rattle.jr_table.specs.Entries.{IsRowOf, class_of_member}
use Rattle.jr_table.specs.Scope.{Scope, ScopeLocal, HasNoLocal}
use Rattle.jr_table.specs.Lookup.{FindsVariable}
use Rattle.jr_table.specs.Context.{Context, Local, WritesType, scope_of, scope_local, local_type, local_of, local_key, in_own, with_local, after, locals_in}
use Rattle.jr_table.specs.Binding.{HasType, IsClassName, value}
use Rattle.jr_bind.specs.Programs.{Program, IsProgram}
use Rattle.jr_spell.specs.declared.references.RefForm.TheVariants as ref
use Rattle.jr_spell.specs.Taken.{IsTaken}
use Rattle.jr_rewrite.specs.Respellings.{Choice, front_of}
use Rattle.jr_rewrite.specs.Rewritten.{Rewritten, losses_of, word_to, qualifier_to, simple_type_out}
use Rattle.jr_rewrite.specs.Spots.{Spotted, nowhere, spotted, OrList}
use Rattle.jr_images.specs.Regions.{Region}
use Rattle.jr_images.specs.Spelling.{reference}
use Rattle.jr_images.proofs.Chosen.{lost_some, left_none, right_none, lost_none}
use Rattle.jr_images.proofs.OneBound.{has_one_type, name_no_class}
use Rattle.jr_images.proofs.Sides.{local_written, written_local}
use Rattle.jr_pieces.specs.Declared.{declared_in_list, first_named}
use Rattle.jr_bodies.specs.Bodies.{begins}
use Rattle.jr_local.specs.Selecting.{Selected, at_value, element}
use Rattle.jr_local.specs.Scopes.{kept_locals, with_made_local, IsOfMadeClass}
use Rattle.jr_local.specs.Soundness.{AreSound}
use Rattle.jr_local.specs.Extracted as extracted
use Rattle.jr_local_texts.proofs.KeptNames.{rows_undotted}
use Rattle.jr_local_ways.specs.Elements.{entered, ElementsHoldIt}
use Rattle.jr_local_premises.specs.SelectedPremises.{SelectedAreReady}
use Rattle.jr_kept_references.specs.InRegions.{StandsFor}
use Rattle.jr_kept_references.specs.KeptInRegions.{Becomes, PartsBecome}
use Rattle.jr_kept_references.specs.AlongSpots.{SpotStands, AlongSpots}
use Rattle.jr_kept_references.specs.StatementsAlong.{ListSpotStands, StmtBeside, ListBeside}
use Rattle.jr_kept_references.proofs.RegionWorlds.{RegionWorld}
use Rattle.jr_kept_references.proofs.RegionAlong.{along}
use Rattle.jr_kept_references.proofs.RegionStatements.{stmt_beside, stmts_beside, list_side}
use Rattle.jr_kept_references.proofs.MadeReferences.{made_type}
use Rattle.jr_untouched_parts.specs.Around.{held}
use Rattle.jr_extracted_references.specs.References.{Keeps, Writes, InSpot}
use Rattle.jr_extracted_references.proofs.Worlds.{Laws, world_of}
use Rattle.jr_extracted_references.proofs.Locals as scopes
use Rattle.jr_extracted_references.proofs.Locals.{LocalsAre, bare, same_scope, Beside, stands_for, map_more, made_more, gone_more}
use Rattle.jr_extracted_references.proofs.Rooms.{to as room_to, before, new, from_is, from_not, room_not, before_not, before_gone, before_once, before_fresh, same_before, before_more, AllEarly, made_last}
use Rattle.jr_extracted_references.proofs.Around.{Below}
use Rattle.jr_extracted_references.proofs.Made.{With, AtMade, there_last, At, are_standing, entered_with, rest_with, name_finds, made_typed}

-- ---- names that aren't taken

one_scope : (x y : ScopeLocal) → Some x ≡ Some y → x ≡ y
one_scope x y e = cc

some_none : (k : LocalKey) → Some k ≡ None → ⊥
some_none k e = cc

apart : false ≡ true → ⊥
apart q = cc

not_first : (name : List ℕ) (x : ScopeLocal) (ls : List ScopeLocal) → (first_named name ls ≡ None → HasNoLocal ls name) → (b : Bool) → same_name x.name name ≡ b → (if b then Some x.key else first_named name ls) ≡ None → HasNoLocal (x ∷ ls) name
not_first name x ls go true h e i l at = absurd (some_none x.key e)
not_first name x ls go false h e zero l at = λ is. apart (sym h ∙ (bytes_decides x.name name).1 (ap (λ (y : ScopeLocal). y.name) (one_scope x l at) ∙ is))
not_first name x ls go false h e (suc i) l at = go e i l at

not_named : (name : List ℕ) (ls : List ScopeLocal) → first_named name ls ≡ None → HasNoLocal ls name
not_named name [] e i l at = absurd cc
not_named name (x ∷ ls) e i l at = not_first name x ls (λ h. not_named name ls h) (same_name x.name name) refl e i l at

-- of two lists
none_left : (name : List ℕ) (ls ms : List ScopeLocal) → HasNoLocal (ls ++ ms) name → HasNoLocal ls name
none_left name [] ms h i l at = absurd cc
none_left name (x ∷ ls) ms h zero l at = h 0 l at
none_left name (x ∷ ls) ms h (suc i) l at = none_left name ls ms (λ j o s. h (suc j) o s) i l at

none_and : (name : List ℕ) (ls : List ScopeLocal) (m : ScopeLocal) → HasNoLocal ls name → m.name ≢ name → HasNoLocal (ls ++ m ∷ []) name
none_and name [] m h other zero l at = λ e. other (ap (λ (y : ScopeLocal). y.name) (one_scope m l at) ∙ e)
none_and name [] m h other (suc i) l at = absurd cc
none_and name (x ∷ ls) m h other zero l at = h 0 l at
none_and name (x ∷ ls) m h other (suc i) l at = none_and name ls m (λ j o s. h (suc j) o s) other i l at

none_right : (name : List ℕ) (ls ms : List ScopeLocal) → HasNoLocal (ls ++ ms) name → HasNoLocal ms name
none_right name [] ms h = h
none_right name (x ∷ ls) ms h = none_right name ls ms (λ j o s. h (suc j) o s)

-- locals in front of the number have the same images in the initializer
rekeyed : (rows : List Row) (k : MemberKey) (n : ℕ) (name : List ℕ) (type : Ty) (s : Scope) (IsMade : Local → Type 0) {ls ms : List Local} → LocalsAre rows (room_to rows k n name type) s (λ l. ⊥) ls ms → AllEarly rows k n name type ls → LocalsAre rows (before rows k n name type) s IsMade ls ms
rekeyed rows k n name type s IsMade (scopes.none e f) early = scopes.none e f
rekeyed rows k n name type s IsMade (scopes.kept {x} {y} g rest) early =
    scopes.kept (record { named = g.named; key = before_not rows k n name type x.key early.0 ∙ sym (room_not rows k n name type x.key early.0) ∙ g.key; type = g.type }) (rekeyed rows k n name type s IsMade rest early.1)
rekeyed rows k n name type s IsMade (scopes.gone {x} g rest) early = absurd (some_none x.key (sym (room_not rows k n name type x.key early.0) ∙ g))
rekeyed rows k n name type s IsMade (scopes.made g rest) early = absurd g

-- and where the made local is in scope
widened : (rows : List Row) (k : MemberKey) (n : ℕ) (name : List ℕ) (type : Ty) (s : Scope) (IsMade : Local → Type 0) {ls ms : List Local} → LocalsAre rows (room_to rows k n name type) s (λ l. ⊥) ls ms → LocalsAre rows (room_to rows k n name type) s IsMade ls ms
widened rows k n name type s IsMade (scopes.none e f) = scopes.none e f
widened rows k n name type s IsMade (scopes.kept g rest) = scopes.kept g (widened rows k n name type s IsMade rest)
widened rows k n name type s IsMade (scopes.gone g rest) = scopes.gone g (widened rows k n name type s IsMade rest)
widened rows k n name type s IsMade (scopes.made g rest) = absurd g

all_early : (rows : List Row) (k : MemberKey) (n : ℕ) (name : List ℕ) (type : Ty) (ls : List Local) → Below n ls → AllEarly rows k n name type ls
all_early rows k n name type [] h = tt
all_early rows k n name type (l ∷ ls) h = (from_not k n l.key (λ of. h.0), all_early rows k n name type ls h.1)

-- as a local's type in a scope of the same class
same_written : (rows : List Row) (s z : Scope) → z.class ≡ s.class → (u : tree.TypeName Span) (t : Ty) → WritesType rows s u t → WritesType rows z u t
same_written rows s z e u t h = local_written rows z u t (same_scope rows s z e (local_type u) t (written_local rows s u t h))

module _ (laws : Laws) (ready : SelectedAreReady) (elements : ElementsHoldIt Span) (p : Program Span) (program : IsProgram itself (λ m b. Unit {0}) p) (file from to : ℕ) (name : List ℕ) (f : extracted.Found p file from to name) where
  abbrev x : Selected p file from to
  x = f.selected

  abbrev rows : List Row
  rows = p.rows

  abbrev k : MemberKey
  k = (element x).at.context.member

  abbrev n : ℕ
  n = (element x).at.next

  abbrev c : Context
  c = (element x).at.context

  abbrev made : LocalKey
  made = extracted.made p file from to name x

  abbrev at : Span
  at = stmt_mark (element x).stmt

  abbrev around : Region Span
  around = extracted.around p file from to name x

  abbrev from_there : Region Span
  from_there = extracted.from_there p file from to name x

  abbrev of_piece : Region Span
  of_piece = extracted.of_piece p file from to name x

  abbrev super_at : Context → ℕ
  super_at = λ (d : Context). p.super_at d.member

  abbrev image : LocalKey → Option LocalKey
  image = room_to rows k n name x.type

  abbrev earlier : LocalKey → Option LocalKey
  earlier = before rows k n name x.type

  abbrev made_scope : ScopeLocal
  made_scope = new rows k n name x.type

  abbrev scope_with_it : List ScopeLocal → List ScopeLocal
  scope_with_it = with_made_local image made_scope

  abbrev scope_in_it : List ScopeLocal → List ScopeLocal
  scope_in_it = λ ls. kept_locals earlier ls ++ made_scope ∷ []

  abbrev HasMade : LocalKey → ClassKey → Type 0
  HasMade = IsOfMadeClass rows made name x.type

  abbrev IsMade : Local → Type 0
  IsMade l = l.key ≡ made

  abbrev named : Spotted Span
  named = spotted (extracted.name_spot p file from to name x f.items)

  sound_all : AreSound rows made name x.type
  sound_all = laws.sound rows program.are_rows (rows_undotted laws.named p program) made name x.type

  worlds : (d e : Context) → StandsFor from_there rows d e → RegionWorld Span rows from_there d e
  worlds d e stand = world_of rows image scope_with_it HasMade laws program.are_rows sound_all.from_there d e stand

  -- ---- the name

  straight : (at_value x).context ≡ entered n (element x).stmt c
  straight = (elements begins x.body.at x.body.list x.value x.way).straight f.free.straight

  no_name : (s : statement.Stmt Span) (ss : statement.Stmts Span) → HasNoLocal ((scope_of c).locals ++ declared_in_list x.body.key n (statement.more s ss)) name → HasNoLocal (scope_of (entered n s c)).locals name
  no_name (statement.local m g t w y) ss h = subst (λ (ls : List ScopeLocal). HasNoLocal ls name) (sym (map_more c.locals (local_of c n g t w)))
      (none_and name (scope_of c).locals (scope_local (local_of c n g t w)) (none_left name (scope_of c).locals (declared_in_list x.body.key n (statement.more (statement.local m g t w y) ss)) h)
      (none_right name (scope_of c).locals (declared_in_list x.body.key n (statement.more (statement.local m g t w y) ss)) h 0 (record { name = w.text; key = record { member = x.body.key; number = n } }) refl))
  no_name (statement.eval m y) ss h = none_left name (scope_of c).locals (declared_in_list x.body.key n (statement.more (statement.eval m y) ss)) h
  no_name (statement.branch m y s o) ss h = none_left name (scope_of c).locals (declared_in_list x.body.key n (statement.more (statement.branch m y s o) ss)) h
  no_name (statement.loop m y s) ss h = none_left name (scope_of c).locals (declared_in_list x.body.key n (statement.more (statement.loop m y s) ss)) h
  no_name (statement.return m y) ss h = none_left name (scope_of c).locals (declared_in_list x.body.key n (statement.more (statement.return m y) ss)) h
  no_name (statement.block m b) ss h = none_left name (scope_of c).locals (declared_in_list x.body.key n (statement.more (statement.block m b) ss)) h
  no_name (statement.sync m y b) ss h = none_left name (scope_of c).locals (declared_in_list x.body.key n (statement.more (statement.sync m y b) ss)) h
  no_name (statement.empty m) ss h = none_left name (scope_of c).locals (declared_in_list x.body.key n (statement.more (statement.empty m) ss)) h

  lacks : HasNoLocal (scope_of (entered n (element x).stmt c)).locals name
  lacks = no_name (element x).stmt (element x).rest (not_named name ((scope_of c).locals ++ declared_in_list x.body.key n (statement.more (element x).stmt (element x).rest)) f.free.free)

  abbrev There : tree.Exp Span
  There = extracted.name_tree name (exp_mark x.value)

  module _ (d e : Context) (w : With rows super_at k n name x.type d e) (is : d ≡ (at_value x).context) where
    finds : FindsVariable rows (scope_of e) name (one (local_decl made))
    finds = name_finds rows super_at k n name x.type d e w (subst (λ (b : Context). HasNoLocal (scope_of b).locals name) (sym (is ∙ straight)) lacks)

    has_type : HasType rows e There x.type
    unfolding HasType
    has_type = (local_decl made, finds, made_typed rows super_at k n name x.type d e w)

    value_becomes : Becomes begins rows from_there d e x.value There
    value_becomes = record {
      typed = λ t h. subst (λ (u : Ty). HasType rows e There u)
          (has_one_type begins rows d (laws.one rows program.are_rows) (laws.bound rows program.are_rows (laws.keys rows program.are_rows) d) x.value x.type t (subst (λ (b : Context). HasType rows b x.value x.type) (sym is) x.typed) h) has_type;
      named = λ j h. absurd (x.no_class j (subst (λ (b : Context). IsClassName rows b x.value j) is h));
      apart = λ _ j h. name_no_class begins rows e (laws.one rows program.are_rows) (laws.bound rows program.are_rows (laws.keys rows program.are_rows) e) (local_decl made) (λ i q. cc) (exp_mark x.value) (record { mark = exp_mark x.value; text = name }) finds j h;
    }

  name_becomes : (d e : Context) → With rows super_at k n name x.type d e → PartsBecome begins rows from_there named d e
  name_becomes d e w = (
    (λ stays. refl),
    (λ q r base y o (val, is) none. subst (λ (z : tree.Exp Span). Becomes begins rows from_there d e y z) (sym (ap (λ (z : Rewritten (tree.Exp Span)). z.tree) is))
        (subst (λ (z : tree.Exp Span). Becomes begins rows from_there d e z There) (sym val.3) (value_becomes d e w val.2))),
  )

  named_node : (m : ℕ) (d : Context) (b : ℕ) (xs : statement.Stmts Span) (o : Rewritten (statement.Stmts Span)) (N : Type 0) → OrList named m d b xs o N → N
  named_node m d b xs o N (inl (stays, h)) = h
  named_node m d b xs o N (inr h) = absurd h

  none_node : (m : ℕ) (d : Context) (b : ℕ) (xs : statement.Stmts Span) (o : Rewritten (statement.Stmts Span)) (N : Type 0) → OrList nowhere m d b xs o N → N
  none_node m d b xs o N h = h

  -- ---- the type

  module _ (d : Context) (scope : scope_of d ≡ from_there.seen.scope c) where
    type_written : (t : Ty) → ((b : ClassKey) → t ≡ class b → (j : ℕ) × IsRowOf rows (class_decl b) j) → (o : Rewritten (tree.TypeName Span)) → extracted.WritesType rows from_there c from at t o → o.losses ≡ [] → WritesType rows (scope_of d) o.tree t
    type_written int row o is none = subst (λ (q : Rewritten (tree.TypeName Span)). WritesType rows (scope_of d) q.tree int) (sym is) refl
    type_written boolean row o is none = subst (λ (q : Rewritten (tree.TypeName Span)). WritesType rows (scope_of d) q.tree boolean) (sym is) refl
    type_written void row o is none = absurd is
    type_written null row o is none = absurd is
    type_written (class j) row o (h, inl (form, taken, words), is) none =
        let r = row j refl in
        subst (λ (q : Rewritten (tree.TypeName Span)). WritesType rows (scope_of d) q.tree (class j)) (sym is)
        (made_type rows d laws.classes at j (rows_undotted laws.named p program j r.0 r.1) (tree.named at (qualifier_to at (front_of h) None) (word_to h (extracted.word_of at j.name))) (
          form,
          subst (λ (s : Scope). IsTaken rows s (reference ref.ClassName j.name None []) (class_decl j) form) (sym scope) taken,
          ap (λ (g : Choice). tree.named at (qualifier_to at (front_of g) None) (word_to g (extracted.word_of at j.name))) words,
        ))
    type_written (class j) row o (h, inr (none_binds, (found, leads, is_lost)), is) none = absurd (lost_some _ (sym (ap losses_of is_lost) ∙ lost_none o (simple_type_out itself h at 0 (extracted.word_of at j.name)) is none))

  -- ---- all of it

  module _ (d : Context) (stand : Beside rows image (kept_locals image) (λ q b. ⊥) (λ l. ⊥) c d) (below : Below n c.locals) (whole : f.type.losses ≡ []) (b i : ℕ) (o : Rewritten (statement.Stmts Span))
      (puts : extracted.Puts p file from to name x f.text f.items f.type n c b (element x).stmt (element x).rest o) (lossless : o.losses ≡ []) where
    abbrev made_here : Local
    made_here = local_of d n false f.type.tree (extracted.word_of at name)

    abbrev behind_it : Context
    behind_it = with_local d made_here

    abbrev in_it : Context
    in_it = in_own d made_here

    key_is : made_here.key ≡ made
    key_is = λ j. record { member = stand.member j; number = n }

    scope_is : scope_local made_here ≡ made_scope
    scope_is = λ j. record { name = name; key = key_is j }

    early : AllEarly rows k n name x.type c.locals
    early = all_early rows k n name x.type c.locals below

    all : puts.piece.losses ++ (puts.first.losses ++ puts.rest.losses) ≡ []
    all = sym puts.losses_are ∙ lossless

    first_none : puts.first.losses ≡ []
    first_none = left_none puts.first.losses puts.rest.losses (right_none puts.piece.losses (puts.first.losses ++ puts.rest.losses) all)

    rest_none : puts.rest.losses ≡ []
    rest_none = right_none puts.first.losses puts.rest.losses (right_none puts.piece.losses (puts.first.losses ++ puts.rest.losses) all)

    behind_beside : Beside rows image scope_with_it HasMade IsMade c behind_it
    behind_beside = record {
      member = stand.member;
      static = stand.static;
      names = map_more d.locals made_here ∙ (λ j. stand.names j ++ scope_is j ∷ []) ∙ sym (made_last rows k n name x.type c.locals early);
      locals = made_more rows image (bare k) IsMade made_here (widened rows k n name x.type (bare k) IsMade stand.locals) key_is;
    }

    written : WritesType rows (scope_of behind_it) f.type.tree x.type
    written = type_written behind_it (λ j. record { class = class_of_member (stand.member j); is_static = stand.static j; locals = behind_beside.names j }) x.type (ready p program file from to name x).typed f.type f.writes whole

    behind_with_it : With rows super_at k n name x.type c behind_it
    behind_with_it = (let last = there_last d.locals made_here in record {
      beside = behind_beside;
      put = record {
        place = last.place;
        local = made_here;
        stands = last.stands;
        is = key_is;
        last = λ j l less there. absurd (last.last j l less there);
        means = written_local rows (bare k) f.type.tree x.type (same_written rows (scope_of behind_it) (bare k) (ap class_of_member (sym stand.member)) f.type.tree x.type written);
      };
      of = refl;
    })

    start : AtMade rows super_at k n name x.type n (suc n) c behind_it
    start = record { there = behind_with_it; number_is = refl; late = omega arith }

    -- in the initializer

    in_beside : Beside rows earlier scope_in_it HasMade IsMade c in_it
    in_beside = record {
      member = stand.member;
      static = stand.static;
      names = map_more d.locals made_here ∙ (λ j. (stand.names ∙ same_before rows k n name x.type c.locals early) j ++ scope_is j ∷ []);
      locals = made_more rows earlier (bare k) IsMade made_here (rekeyed rows k n name x.type (bare k) IsMade stand.locals early) key_is;
    }

    entered_beside : (s : statement.Stmt Span) → Beside rows earlier scope_in_it HasMade IsMade (entered n s c) in_it
    entered_beside (statement.local m g t w y) =
        let gone = before_gone rows k n name x.type (local_key c n) (from_is k n (local_key c n) refl (omega arith)) in
        let same = ap (kept_locals earlier) (map_more c.locals (local_of c n g t w)) ∙ before_more rows k n name x.type (scope_of c).locals (scope_local (local_of c n g t w)) gone in
        record {
          member = stand.member;
          static = stand.static;
          names = in_beside.names ∙ ap (λ (ls : List ScopeLocal). ls ++ made_scope ∷ []) (sym same);
          locals = gone_more rows earlier (bare k) IsMade (local_of c n g t w) in_beside.locals gone;
        }
    entered_beside (statement.eval m y) = in_beside
    entered_beside (statement.branch m y s o) = in_beside
    entered_beside (statement.loop m y s) = in_beside
    entered_beside (statement.return m y) = in_beside
    entered_beside (statement.block m b) = in_beside
    entered_beside (statement.sync m y b) = in_beside
    entered_beside (statement.empty m) = in_beside

    value_beside : Beside rows earlier scope_in_it HasMade IsMade (at_value x).context in_it
    value_beside = subst (λ (e : Context). Beside rows earlier scope_in_it HasMade IsMade e in_it) (sym straight) (entered_beside (element x).stmt)

    value_stands : StandsFor of_piece rows (at_value x).context in_it
    value_stands = stands_for rows earlier scope_in_it HasMade IsMade (before_once rows k n name x.type) (λ m is q e. before_fresh rows k n name x.type q (e ∙ ap (λ (l : LocalKey). Some l) is)) (at_value x).context in_it value_beside

    moved : (j : ℕ) → AlongSpots begins begins (Keeps p file from to name f of_piece) (Writes p file from to name f of_piece) (SpotStands nowhere) (at_value x).context in_it value (at_value x).base j x.value puts.piece.tree
    moved j = along itself rows of_piece (at_value x).context in_it (world_of rows earlier scope_in_it HasMade laws program.are_rows sound_all.in_initializer (at_value x).context in_it value_stands) super_at nowhere refl value (at_value x).base j x.value puts.piece puts.moves
        (left_none puts.piece.losses (puts.first.losses ++ puts.rest.losses) all)

    first_beside : StmtBeside begins begins (Keeps p file from to name f from_there) (Writes p file from to name f from_there) (SpotStands named) (ListSpotStands named) n (suc n) c behind_it b i (element x).stmt puts.first.tree
    first_beside = stmt_beside itself rows from_there super_at named (At rows super_at k n name x.type worlds named named_node) (are_standing rows super_at k n name x.type worlds named named_node) name_becomes worlds n (suc n) c behind_it b i (element x).stmt start puts.first puts.first_is first_none

    others_beside : ListBeside begins begins (Keeps p file from to name f from_there) (Writes p file from to name f from_there) (SpotStands nowhere) (ListSpotStands nowhere) (n + locals_in (element x).stmt) (suc n + locals_in puts.first.tree) (after n c (element x).stmt) (after (suc n) behind_it puts.first.tree) b i
        (element x).rest puts.rest.tree
    others_beside =
        let behind_first = rest_with rows super_at k n name x.type worlds named named_node n (suc n) c behind_it b (element x).stmt puts.first start puts.first_is first_none in
        list_side itself rows from_there super_at nowhere (At rows super_at k n name x.type worlds nowhere none_node) (are_standing rows super_at k n name x.type worlds nowhere none_node) (λ d e w. refl) worlds (n + locals_in (element x).stmt) (suc n + locals_in puts.first.tree) (after n c (element x).stmt)
        (after (suc n) behind_it puts.first.tree) b i (element x).rest puts.rest puts.rest_is rest_none
        (λ h stays. stmts_beside itself rows from_there super_at nowhere (At rows super_at k n name x.type worlds nowhere none_node) (are_standing rows super_at k n name x.type worlds nowhere none_node) (λ d e w. refl) worlds (n + locals_in (element x).stmt) (suc n + locals_in puts.first.tree)
        (after n c (element x).stmt) (after (suc n) behind_it puts.first.tree) b i (element x).rest behind_first stays puts.rest h rest_none)

    bound : FindsVariable rows (scope_of (entered (suc n) puts.first.tree behind_it)) name (one (local_decl (local_key d n)))
    bound = subst (λ (l : LocalKey). FindsVariable rows (scope_of (entered (suc n) puts.first.tree behind_it)) name (one (local_decl l))) (sym key_is)
        (name_finds rows super_at k n name x.type (entered n (element x).stmt c) (entered (suc n) puts.first.tree behind_it)
        (entered_with rows super_at k n name x.type worlds named named_node n (suc n) c behind_it b (element x).stmt puts.first start puts.first_is first_none) lacks)

    pub spot_kept : InSpot p file from to name f n n c d b (held (element x)) i o.tree
    spot_kept = record {
      next = refl;
      context = refl;
      list = refl;
      number = refl;
      member = stand.member;
      type = f.type.tree;
      init = puts.piece.tree;
      stmt = puts.first.tree;
      rest = puts.rest.tree;
      is = puts.tree_is;
      written = same_written rows (scope_of behind_it) (scope_of d) refl f.type.tree x.type written;
      moved = moved;
      first = first_beside;
      others = others_beside;
      bound = bound;
    }
