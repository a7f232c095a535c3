-- The arguments of a written `super(..)` name no local of the constructor's body: parameters alone are
-- in scope there (JLS 8.8.7.1).
use Rattle.std.proofs.Common.{◌≡◌, ◌⊎◌, inl, inr, ℕ, ◌+◌, ◌-◌, ◌<◌, ◌≤◌, Bool, true, false, List, length, map, Option, Some, None, refl, sym, ap, subst, ◌∙◌, arith}
use Rattle.std.specs.Prelude.{slice_get, option_map}
use Rattle.std.proofs.lemmas.Option.{none-some, same_Some, slice_get-map}
use Rattle.jr_text.specs.declared.spans.Span.{Span}
use Rattle.jr_ast.specs.Tree as tree
use Rattle.jr_ast.specs.StatementTree as statement
use Rattle.jr_ast.specs.MemberTree as syntax
use Rattle.jr_grammar.specs.Layout.{itself}
use Rattle.jr_table.specs.declared.answers.Answer.{Answer}
use Rattle.jr_table.specs.declared.answers.Answer.TheVariants as number
use Rattle.jr_table.specs.declared.entries.Entry.{Entry}
use Rattle.jr_table.specs.Keys.{FieldKey}
use Rattle.jr_table.specs.Decls.{MemberKey, head, field, method, constructor, Decl, LocalKey, class_decl, field_decl, method_decl, constructor_decl, local_decl}
use Rattle.jr_table.specs.Rows.{Row}
use Rattle.jr_table.specs.Entries.{IsRowOf, class_number, entries_of}
use Rattle.jr_table.specs.Found.{Found, one}
use Rattle.jr_table.specs.Scope.{ScopeLocal, FindsLocal}
use Rattle.jr_table.specs.Members.{DeclaresField, IsMemberField}
use Rattle.jr_table.specs.Fields.{FindsField}
use Rattle.jr_table.specs.Lookup.{Shows, FindsVariable}
use Rattle.jr_table.specs.LookupLaws.{KeysFound}
use Rattle.jr_table.specs.Context.{Context, Local, scope_local, scope_of}
use Rattle.jr_table.specs.HeadRules.{with_parameters}
use Rattle.jr_table.specs.Binding.{Role, value, left, BindsItself}
use Rattle.jr_table.specs.Somewhere.{Somewhere, InTarget, InRow}
use Rattle.jr_table.specs.ExpressionRules.{ExpBreaks}
use Rattle.jr_table.specs.Errors.{Part, member_part, part_mark, Binds, Breaks}
use Rattle.jr_table.specs.declared.rules.Rule.{Rule}
use Rattle.jr_table.proofs.OneEach.{is_field_decl}
use Rattle.jr_table.proofs.RowLaws.{row_at}
use Rattle.jr_table.proofs.Border.{member_declares}
use Rattle.jr_members.specs.WrittenMembers.{WrittenMember}
use Rattle.jr_members.specs.WrittenLaws.{MembersAreWritten}
use Rattle.jr_bind.specs.Bounds.{decl_in}
use Rattle.jr_bind.specs.Programs.{Program, IsProgram}
use Rattle.jr_expr_sites.specs.Meanings.{Meaning, meaning_of, local}
use Rattle.jr_program_laws.specs.PlaceLaws.{PartsArePlaced}
use Rattle.jr_pieces.specs.Ways.{ExpWay, here, in_front, in_target, in_argument, in_super_argument, in_created, in_paren, in_cast, in_unary, in_bump, in_left, in_right, in_assigned, in_value, in_changed, in_change, ExpsWay, first_argument, later_argument}
use Rattle.jr_pieces.specs.Standings.{Standing}
use Rattle.jr_way_places.specs.PlacedWays.{exp_role, exps_role}
use Rattle.jr_member_graphs.specs.FlagRows.{is_among}
use Rattle.jr_member_graphs.specs.Notes.{args_locals}
use Rattle.jr_bodies.proofs.Coded.{no_body, same_body}
use Rattle.jr_bodies.proofs.Typed.{is_bound}
use Rattle.jr_local_names.proofs.Finding.{finds_one, local_bound}
use Rattle.jr_local_names.proofs.Parts.{starts_there}
use Rattle.jr_local_names.proofs.NamesBound as names
use Rattle.jr_local_reads.specs.BehindLaws.{BodiesBeginBelow}
use Rattle.jr_local.specs.Bodies.{begins, Body, body_of, HasBody}
use Rattle.jr_local.specs.BodyFacts.{meaning_at}
use Rattle.jr_local_footprints.proofs.Assigns.{Among, nobody, ExpsAt, exps_at}
use Rattle.jr_local_footprints.proofs.Flags.{written_args, ArgsSpare}

-- ---- what stands in a row stands there somewhere

module _ (P : Role → (base : ℕ) → tree.Exp Span → Type 0) (mark : Span) (word : tree.Word Span) where
  abbrev x : tree.Exp Span
  x = tree.name mark word

  mutual
    unfolding Somewhere InTarget InRow

    exp_has : (r : Role) (base : ℕ) (e : tree.Exp Span) (d : ExpWay x e) → ((q : ℕ) → P (exp_role r d) q x) → Somewhere begins P r base e
    exp_has r base _ here h = h base
    exp_has r base _ (in_front m e w d) h = inr (exp_has left m.from e d h)
    exp_has r base _ (in_target m e w es d) h = inr (inl (exp_has left m.from e d h))
    exp_has r base _ (in_argument m t w es d) h = inr (inr (row_has m.from es d h))
    exp_has r base _ (in_super_argument m w es d) h = inr (row_has m.from es d h)
    exp_has r base _ (in_created m t es d) h = inr (row_has m.from es d h)
    exp_has r base _ (in_paren m e d) h = inr (exp_has value m.from e d h)
    exp_has r base _ (in_cast m t e d) h = inr (exp_has value m.from e d h)
    exp_has r base _ (in_unary m o e d) h = inr (exp_has value m.from e d h)
    exp_has r base _ (in_bump m o e d) h = inr (exp_has value m.from e d h)
    exp_has r base _ (in_left m o y z d) h = inr (inl (exp_has value m.from y d h))
    exp_has r base _ (in_right m o y z d) h = inr (inr (exp_has value m.from z d h))
    exp_has r base _ (in_assigned m y z d) h = inr (inl (exp_has value m.from y d h))
    exp_has r base _ (in_value m y z d) h = inr (inr (exp_has value m.from z d h))
    exp_has r base _ (in_changed m o y z d) h = inr (inl (exp_has value m.from y d h))
    exp_has r base _ (in_change m o y z d) h = inr (inr (exp_has value m.from z d h))

    row_has : (base : ℕ) (es : tree.Exps Span) (d : ExpsWay x es) → ((q : ℕ) → P (exps_role d) q x) → InRow begins P base es
    row_has base _ (first_argument e es d) h = inl (exp_has value base e d h)
    row_has base _ (later_argument e es d) h = inr (row_has base es d h)

-- ---- the local that a name finds is in scope

no_field : (f : FieldKey) (k : LocalKey) → field_decl f ≡ local_decl k → ⊥
no_field f k e = cc

same_key : (j k : LocalKey) → (let o : Found = one (local_decl k) in o ≡ one (local_decl j)) → k ≡ j
same_key j k e = cc

module _ (rows : List Row) where
  no_member : (name : List ℕ) (c j : ℕ) (k : LocalKey) → IsMemberField (entries_of rows) name c j → IsRowOf rows (local_decl k) j → ⊥
  no_member name c j k m is =
      let o = member_declares (entries_of rows) (DeclaresField (entries_of rows) name) m.chain j m.among in
      let r = row_at rows j o.1.row o.1.stands in
      let f = is_field_decl r.row.decl (sym (ap (λ (x : Entry). x.sort) r.is) ∙ o.1.field) in
      no_field f.0 k (sym f.1 ∙ ap (λ (x : Row). x.decl) (same_Some r.row is.row (sym r.stands ∙ is.stands)) ∙ is.declares)

  by_name : (a : Answer) (c : ℕ) (is_static : Bool) (name : List ℕ) (k : LocalKey) → FindsField (entries_of rows) c is_static name a → Shows rows a (one (local_decl k)) → ⊥
  by_name (number.One j) c is_static name k h s = no_member name h.0 j k h.2 s
  by_name number.Nothing c is_static name k h s = s
  by_name (number.Many i j) c is_static name k h s = s
  by_name (number.NotAccessible j) c is_static name k h s = s
  by_name (number.FromStatic j) c is_static name k h s = s

  local_below : (c : Context) (size : ℕ) → ((i : ℕ) (l : Local) → slice_get c.locals i ≡ Some l → l.key.number < size) → (name : List ℕ) (k : LocalKey) → FindsVariable rows (scope_of c) name (one (local_decl k)) → k.number < size
  local_below c size below name k (inr h) = absurd (by_name h.1.0 (class_number rows (scope_of c).class) (scope_of c).is_static name k h.1.1 h.1.2)
  local_below c size below name k (inl (j, found, is)) = by (slice_get c.locals found.place) refl
    where
      by : (o : Option Local) → slice_get c.locals found.place ≡ o → k.number < size
      by None e = absurd (none-some found.local (ap (option_map scope_local) (sym e) ∙ sym (slice_get-map scope_local c.locals found.place) ∙ found.stands))
      by (Some l) e =
          let same : scope_local l ≡ found.local = same_Some (scope_local l) found.local (ap (option_map scope_local) (sym e) ∙ sym (slice_get-map scope_local c.locals found.place) ∙ found.stands) in
          let key : l.key ≡ k = ap (λ (s : ScopeLocal). s.key) same ∙ found.is ∙ sym (same_key j k is) in
          subst (λ (z : LocalKey). z.number < size) key (below found.place l e)

-- ---- what arguments of a constructor bind or break, its part does

module _ (rows : List Row) (super_at : ℕ) (at base : ℕ) (m : Span) (mods : List (syntax.Modifier Span)) (w : tree.Word Span) (ps : List (syntax.Param Span)) (es : tree.Exps Span) (body : statement.Stmts Span) where
  abbrev ctor : Part Span
  ctor = member_part (syntax.constructor m mods w ps (Some es) body)

  args_bind : (k : MemberKey) (d : Decl) → InRow begins (λ r q e. BindsItself begins rows (with_parameters k true ps) r q e at d) m.from es → Binds begins rows super_at k base ctor at d
  args_bind (head q) d h = inr (inl h)
  args_bind (field q) d h = inr (inl h)
  args_bind (method q) d h = inr (inl h)
  args_bind (constructor q) d h = inr (inl h)

  args_break : (k : MemberKey) (b : Rule) → InRow begins (λ r q e. ExpBreaks begins rows (with_parameters k true ps) r q e at b) m.from es → Breaks begins rows super_at k base ctor at b
  args_break (head q) b h = inr (inl h)
  args_break (field q) b h = inr (inl h)
  args_break (method q) b h = inr (inl h)
  args_break (constructor q) b h = inr (inl h)

-- what means a local is one
local_meant : (o : Option Decl) (n : ℕ) → meaning_of o ≡ local n → (k : LocalKey) × (o ≡ Some (local_decl k)) × (k.number ≡ n)
local_meant (Some (local_decl k)) n e = (k, refl, same k.number e)
  where
    same : (j : ℕ) → local j ≡ local n → j ≡ n
    same j h = cc
local_meant None n e = absurd cc
local_meant (Some (class_decl k)) n e = absurd cc
local_meant (Some (field_decl k)) n e = absurd cc
local_meant (Some (method_decl k)) n e = absurd cc
local_meant (Some (constructor_decl k)) n e = absurd cc

module _ (written : MembersAreWritten Span) (placed : PartsArePlaced) (found : KeysFound) (below : BodiesBeginBelow) (p : Program Span) (program : IsProgram itself (λ m b. Unit {0}) p) (file : ℕ) (b : Body) (h : HasBody p file b) where
  abbrev wm : WrittenMember Span
  wm = h.member

  -- a name in the arguments that means a local means a parameter
  named_below : (m : Span) (mods : List (syntax.Modifier Span)) (w : tree.Word Span) (ps : List (syntax.Param Span)) (es : tree.Exps Span) (body : statement.Stmts Span)
      → wm.part ≡ member_part (syntax.constructor m mods w ps (Some es) body) → (mark : Span) (word : tree.Word Span) → ExpsWay (tree.name mark word) es → (k : LocalKey) → decl_in b.bound.references (word.mark.from - b.at.base) ≡ Some (local_decl k) → k.number < length ps
  named_below m mods w ps es body part mark word way k is =
      let key = wm.key in
      let c = with_parameters key true ps in
      let at = word.mark.from in
      let x = tree.name mark word in
      let r = exps_role way in
      let places = names.places written placed p program file b h in
      let calm : (n : ℕ) (q : Rule) → ExpBreaks begins p.rows c r 0 x n q → ⊥ = λ n q breaks.
      let all = subst (λ (z : Part Span). Breaks begins p.rows (p.super_at key) key wm.base z n q) (sym part) (args_break p.rows (p.super_at key) n wm.base m mods w ps es body key q (row_has (λ s i e. ExpBreaks begins p.rows c s i e n q) mark word m.from es way (λ i. breaks))) in
      let le = places.breaks_within n q all in
      let place : (part_mark wm.part).from + (n - (part_mark wm.part).from) ≡ n = omega (arith, le) in
      names.calm written placed p program file b h (n - (part_mark wm.part).from) q (subst (λ (i : ℕ). Breaks begins p.rows (p.super_at key) key wm.base wm.part i q) (sym place) all) in
      let o = finds_one begins p.rows c 0 mark word (found p.rows program.are_rows) r calm in
      let own = subst (λ (z : Part Span). Binds begins p.rows (p.super_at key) key wm.base z at o.0) (sym part) (args_bind p.rows (p.super_at key) at wm.base m mods w ps es body key o.0 (row_has (λ s i e. BindsItself begins p.rows c s i e at o.0) mark word m.from es way (λ i. o.1))) in
      let le = places.within at o.0 own in
      let start : (part_mark wm.part).from ≡ b.at.base = starts_there wm.key wm.base wm.part b.bound b h.is in
      let place : (part_mark wm.part).from + (at - b.at.base) ≡ at = omega (arith, le, start) in
      let bound = subst (λ (i : ℕ). Binds begins p.rows (p.super_at key) key wm.base wm.part i (local_decl k)) place (((is_bound p program file b h).declarations (at - b.at.base) (local_decl k)).0 is) in
      let same = places.one at o.0 (local_decl k) own bound in
      let finds = local_bound begins p.rows c 0 mark word r k (subst (λ (d : Decl). BindsItself begins p.rows c r 0 x at d) same o.1) in
      local_below p.rows c (length ps) (λ i l e. below key true 0 ps i l e) word.text k finds

  spare_of : (m : syntax.Member Span) → wm.part ≡ member_part m → body_of wm.key wm.base (member_part m) b.bound ≡ Some b → ArgsSpare (meaning_at p b) b m
  spare_of (syntax.field m mods t w init) part e n le a = nobody n a
  spare_of (syntax.method m mods t w ps body) part e n le a = nobody n a
  spare_of (syntax.inner m c) part e n le a = nobody n a
  spare_of (syntax.constructor m mods w ps None body) part e n le a = nobody n a
  spare_of (syntax.constructor m mods w ps (Some es) body) part e n le a =
      let r = exps_at (meaning_at p b) n es b.at.base a in
      let k = local_meant (decl_in b.bound.references (r.word.mark.from - b.at.base)) n r.means in
      let less = named_below m mods w ps es body part r.mark r.word r.way k.0 k.1 in
      let number = k.2 in
      let next : length ps ≡ b.at.next = λ i. (same_body _ b e i).at.next in
      omega (arith, less, number, next, le)

  pub spare : (m : syntax.Member Span) → wm.part ≡ member_part m → ArgsSpare (meaning_at p b) b m
  spare m part = spare_of m part (ap (λ (z : Part Span). body_of wm.key wm.base z b.bound) (sym part) ∙ h.is)
