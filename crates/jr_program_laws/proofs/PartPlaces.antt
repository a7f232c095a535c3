-- What a part has stands in it: of a member in its span, of a class in front of its first member.
use Rattle.std.proofs.Common.{◌≡◌, ℕ, ◌<◌, List, ◌++◌, Some, None, refl, sym, ap, subst, arith}
use Rattle.jr_text.specs.declared.spans.Span.{Span}
use Rattle.jr_lex.specs.declared.items.Item.{Item}
use Rattle.jr_ast.specs.Tree as tree
use Rattle.jr_ast.specs.StatementTree as statement
use Rattle.jr_ast.specs.MemberTree as syntax
use Rattle.jr_ast.specs.Marks.{member_mark}
use Rattle.jr_grammar.specs.Tokens.{placed_of}
use Rattle.jr_grammar.specs.Stands.{Tokens, first_from, last_to, span_of, Stands}
use Rattle.jr_grammar.specs.MemberLayout.{member_layout}
use Rattle.jr_table.specs.Decls.{MemberKey, head, field, method, constructor, Decl}
use Rattle.jr_table.specs.Rows.{Row}
use Rattle.jr_table.specs.Found.{one}
use Rattle.jr_table.specs.Conditions.{AreRows}
use Rattle.jr_table.specs.LookupLaws.{EachHasOne}
use Rattle.jr_table.specs.BindingLaws.{IsBound}
use Rattle.jr_table.specs.Context.{Context}
use Rattle.jr_table.specs.Errors.{Part, class_part, member_part, Breaks, Binds}
use Rattle.jr_table.specs.declared.rules.Rule.{Rule}
use Rattle.jr_program_laws.specs.FileParts.{begins, BeginsToken, SuperStands, BindsAt}
use Rattle.jr_program_laws.specs.PlaceLaws.{LiesWithin, BeforeMembers, Owns}
use Rattle.jr_program_laws.proofs.TokenOrder.{StartsIn, in_front, in_back, Rising, from_first, to_last, Piece}
use Rattle.jr_program_laws.proofs.Holding.{Over, pass, only, node}
use Rattle.jr_program_laws.proofs.Filling.{member_fills}
use Rattle.jr_program_laws.proofs.Supers.{super_starts, modifiers_lack, params_lack, word_lacks, lacks_token, HasSuper, token_is_super, node_has, first_has, rest_has}
use Rattle.jr_program_laws.proofs.ItemTokens.{first_of_span, span_of_first, stands_token}
use Rattle.jr_program_laws.proofs.Reaching.{Reach, either, for_some, never}
use Rattle.jr_program_laws.proofs.ExpressionPlaces.{refers_place, exp_breaks_place}
use Rattle.jr_program_laws.proofs.StatementPlaces.{local_refers_place, stmt_breaks_place, list_breaks_place}
use Rattle.jr_program_laws.proofs.MemberPlaces.{Known, known, in_member_place, declaration_place, declaration_breaks_place, FirstAt, head_refers_place, head_refers_ahead, head_breaks_place, head_breaks_ahead}
use Rattle.jr_program_laws.proofs.MemberParts.{OnExp, OnStmt, OnList, MemberBinds, MemberBreaks, member_binds, member_breaks}
use Rattle.jr_program_laws.proofs.FileOrder.{member_mark_is}
use Rattle.jr_program_laws.proofs.PartTokens.{StandsPart}
use Rattle.jr_program_laws.proofs.FileHolds.{part_over, head_over}

lies_within : (m : Span) (ps : Tokens) (at : ℕ) → m ≡ span_of ps → Rising ps → StartsIn ps at → LiesWithin m at
lies_within m ps at mark rising s =
    let from : m.from ≡ first_from ps = ap (λ (x : Span). x.from) mark in
    let to : m.to ≡ last_to ps = ap (λ (x : Span). x.to) mark in
    let first = from_first ps rising at s in
    let last = to_last ps rising at s in
    (omega arith, omega arith)

before_members : (ms : syntax.Members Span) (at : ℕ) → ((j : ℕ) → FirstAt ms j → at < j) → BeforeMembers ms at
before_members syntax.end at h = tt
before_members (syntax.more x xs) at h = h (member_mark x).from refl

module _ (rows : List Row) (s : ℕ) (k : MemberKey) (base : ℕ) where
  binds_place : (x : syntax.Member Span) (at : ℕ) (d : Decl) → Reach (Known s x) (MemberBinds rows s k base x at d) at
  binds_place x at d = either (declaration_place at rows s k base x (one d))
      (known at
      (in_member_place at (OnExp rows at d) (OnStmt rows at d) (OnList rows at d) (λ c r b e. for_some (λ q. refers_place at rows c r b e q (one d))) (λ n c b y. local_refers_place at rows n c b y (one d)) (λ b ys. never (λ h. h))
      k base x))

  breaks_place : (x : syntax.Member Span) (at : ℕ) (of : Rule) → Reach (Known s x) (MemberBreaks rows s k base x at of) at
  breaks_place x at of = either (declaration_breaks_place at rows s k base x of)
      (known at (in_member_place at _ _ _ (λ c r b e. exp_breaks_place at rows c r b e of) (λ n c b y. stmt_breaks_place at rows n c b y of) (λ b ys. list_breaks_place at b ys of) k base x))

module _ (text : List ℕ) (items : List Item) (rising : Rising (placed_of text items)) (s : ℕ) where
  known_there : (x : syntax.Member Span) (ps : Tokens) → Piece (placed_of text items) ps → Stands (member_layout x) ps → SuperStands items (member_part x) s → Known s x ps
  known_there (syntax.field m mods t w init) ps piece h is = record { is = h; starts = tt }
  known_there (syntax.method m mods t w qs body) ps piece h is = record { is = h; starts = tt }
  known_there (syntax.constructor m mods w qs None body) ps piece h is = record { is = h; starts = tt }
  known_there (syntax.constructor m mods w qs (Some args) body) ps piece h is =
      let filled = (member_fills (syntax.constructor m mods w qs (Some args) body)).fills ps h in
      record { is = h; starts = super_starts ps s (first_of_span text items ps m s rising piece filled h.mark is).has }
  known_there (syntax.inner m c) ps piece h is = record { is = h; starts = tt }

  module _ (rows : List Row) (base : ℕ) (ps : Tokens) (piece : Piece (placed_of text items) ps) (rises : Rising ps) where
    binds_start : (k : MemberKey) (part : Part Span) → StandsPart part ps → SuperStands items part s → (at : ℕ) (d : Decl) → Binds begins rows s k base part at d → StartsIn ps at
    binds_start (head k) (class_part (syntax.class m mods w t ms)) h is at d b = (head_refers_place rows k base m mods w ms t (one d) at).reach ps h b
    binds_start (field k) (class_part c) h is at d b = absurd b
    binds_start (method k) (class_part c) h is at d b = absurd b
    binds_start (constructor k) (class_part c) h is at d b = absurd b
    binds_start k (member_part x) h is at d b = (binds_place rows s k base x at d).reach ps (known_there x ps piece h is) ((member_binds rows s k base x at d).0 b)

    breaks_start : (k : MemberKey) (part : Part Span) → StandsPart part ps → SuperStands items part s → (at : ℕ) (of : Rule) → Breaks begins rows s k base part at of → StartsIn ps at
    breaks_start (head k) (class_part (syntax.class m mods w t ms)) h is at of b = (head_breaks_place rows k base m mods w ms t of at).reach ps h b
    breaks_start (field k) (class_part c) h is at of b = absurd b
    breaks_start (method k) (class_part c) h is at of b = absurd b
    breaks_start (constructor k) (class_part c) h is at of b = absurd b
    breaks_start k (member_part x) h is at of b = (breaks_place rows s k base x at of).reach ps (known_there x ps piece h is) ((member_breaks rows s k base x at of).0 b)

    -- in what the part owns

    pub binds_within : (k : MemberKey) (part : Part Span) → StandsPart part ps → SuperStands items part s → (at : ℕ) (d : Decl) → Binds begins rows s k base part at d → Owns part at
    binds_within (head k) (class_part (syntax.class m mods w t ms)) h is at d b = (
      lies_within m ps at h.mark rises (binds_start (head k) (class_part (syntax.class m mods w t ms)) h is at d b),
      before_members ms at (λ j f. (head_refers_ahead rows k base m mods w ms t (one d)).less ps rises h at j b f),
    )
    binds_within (field k) (class_part c) h is at d b = absurd b
    binds_within (method k) (class_part c) h is at d b = absurd b
    binds_within (constructor k) (class_part c) h is at d b = absurd b
    binds_within k (member_part x) h is at d b = lies_within (member_mark x) ps at (member_mark_is x ps h) rises (binds_start k (member_part x) h is at d b)

    pub breaks_within : (k : MemberKey) (part : Part Span) → StandsPart part ps → SuperStands items part s → (at : ℕ) (of : Rule) → Breaks begins rows s k base part at of → Owns part at
    breaks_within (head k) (class_part (syntax.class m mods w t ms)) h is at of b = (
      lies_within m ps at h.mark rises (breaks_start (head k) (class_part (syntax.class m mods w t ms)) h is at of b),
      before_members ms at (λ j f. (head_breaks_ahead rows k base m mods w ms t of).less ps rises h at j b f),
    )
    breaks_within (field k) (class_part c) h is at of b = absurd b
    breaks_within (method k) (class_part c) h is at of b = absurd b
    breaks_within (constructor k) (class_part c) h is at of b = absurd b
    breaks_within k (member_part x) h is at of b = lies_within (member_mark x) ps at (member_mark_is x ps h) rises (breaks_start k (member_part x) h is at of b)

    -- where a token of the file begins

    begins_token : (at : ℕ) → StartsIn ps at → BeginsToken items at
    begins_token at h = stands_token text items at (subst (λ (x : Tokens). StartsIn x at) (sym piece.whole) (in_back piece.front (ps ++ piece.back) at (in_front ps piece.back at h)))

    pub binds_token : (k : MemberKey) (part : Part Span) → StandsPart part ps → SuperStands items part s → (at : ℕ) (d : Decl) → Binds begins rows s k base part at d → BeginsToken items at
    binds_token k part h is at d b = begins_token at (binds_start k part h is at d b)

    pub breaks_token : (k : MemberKey) (part : Part Span) → StandsPart part ps → SuperStands items part s → (at : ℕ) (of : Rule) → Breaks begins rows s k base part at of → BeginsToken items at
    breaks_token k part h is at of b = begins_token at (breaks_start k part h is at of b)

-- ---- one declaration at a place of a part

module _ (text : List ℕ) (items : List Item) (rising : Rising (placed_of text items)) (rows : List Row) (fit : AreRows rows) (lookups : EachHasOne rows) (bounds : (c : Context) → IsBound Span rows c) where
  pub whole_over : (k : MemberKey) (base : ℕ) (part : Part Span) → Over (placed_of text items) (StandsPart part) (λ at d. BindsAt rows items k base part at d)
  whole_over k base (class_part (syntax.class m mods w t ms)) = node (pass (pass (pass (only (head_over text items rising rows fit lookups bounds k base m mods w t ms)))))
  whole_over k base (member_part x) = part_over text items rising rows fit lookups bounds k base x

-- ---- a written `super(..)` has its place

ctor_has_super : (m : Span) (mods : List (syntax.Modifier Span)) (w : tree.Word Span) (qs : List (syntax.Param Span)) (args : tree.Exps Span) (body : statement.Stmts Span) → HasSuper (Stands (member_layout (syntax.constructor m mods w qs (Some args) body)))
ctor_has_super m mods w qs args body = node_has (rest_has (modifiers_lack mods) (rest_has (word_lacks w) (rest_has (lacks_token (λ e. cc)) (rest_has (params_lack qs)
    (rest_has (lacks_token (λ e. cc)) (rest_has (lacks_token (λ e. cc)) (first_has (first_has token_is_super))))))))

module _ (text : List ℕ) (items : List Item) (rising : Rising (placed_of text items)) (ps : Tokens) (piece : Piece (placed_of text items) ps) (rises : Rising ps) where
  pub super_there : (part : Part Span) → StandsPart part ps → (s : ℕ) × SuperStands items part s
  super_there (class_part c) h = (0, tt)
  super_there (member_part (syntax.field m mods t w init)) h = (0, tt)
  super_there (member_part (syntax.method m mods t w qs body)) h = (0, tt)
  super_there (member_part (syntax.constructor m mods w qs None body)) h = (0, tt)
  super_there (member_part (syntax.constructor m mods w qs (Some args) body)) h =
      let r = (ctor_has_super m mods w qs args body).first ps rises h in
      (r.0, span_of_first text items ps m r.0 rising piece ((member_fills (syntax.constructor m mods w qs (Some args) body)).fills ps h) h.mark r.1)
  super_there (member_part (syntax.inner m c)) h = (0, tt)
