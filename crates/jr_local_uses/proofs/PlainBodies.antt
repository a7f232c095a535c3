-- Whether an expression of a body only reads locals, by the row of sites that the path to it gives.
--
-- There is one test for null, by the flags of the member's own locals, and for each test that tells
-- the same the row has the expression's sites (`has_sites`).
use Rattle.std.proofs.Common.{◌≡◌, ℕ, Bool, true, false, List, Option, Some, None, refl, sym, ap, subst, ◌∙◌}
use Rattle.std.specs.Prelude.{IsTrue, ◌↔◌}
use Rattle.std.proofs.lemmas.Bool.{false≢true}
use Rattle.jr_text.specs.declared.spans.Span.{Span}
use Rattle.jr_ast.specs.Tree as tree
use Rattle.jr_ast.specs.MemberTree as syntax
use Rattle.jr_ast.specs.StatementTree as statement
use Rattle.jr_ast.specs.Marks.{exp_mark}
use Rattle.jr_ast.specs.Nodes as nodes
use Rattle.jr_grammar.specs.Layout.{itself}
use Rattle.jr_grammar.specs.StatementShape.{StmtsShaped}
use Rattle.jr_table.specs.Decls.{MemberKey}
use Rattle.jr_table.specs.Rows.{Row}
use Rattle.jr_table.specs.Errors.{Part, member_part}
use Rattle.jr_expr_types.specs.Slots.{find_type}
use Rattle.jr_members.specs.WrittenMembers.{WrittenMember, written_members}
use Rattle.jr_members.specs.WrittenLaws.{MembersAreWritten}
use Rattle.jr_bind.specs.Bounds.{Bound, decl_in, FitsWhole}
use Rattle.jr_bind.specs.Programs.{Program, units_of}
use Rattle.jr_bind_parts.specs.PartFits.{FitsMaybeArgs}
use Rattle.jr_program.proofs.Standing.{at_contains}
use Rattle.jr_cover.specs.Sites.{exp_way}
use Rattle.jr_cover.specs.Spots.{Spot}
use Rattle.jr_cover.specs.Ways.{sites_of}
use Rattle.jr_expr_sites.specs.KnownFacts.{Given, Others}
use Rattle.jr_expr_sites.specs.Meanings.{field_kind}
use Rattle.jr_cfg.specs.MemberRoutes.{FitsArgs, FitsSites, NumbersMember, known}
use Rattle.jr_cfg.specs.Placed.{own_local}
use Rattle.jr_cfg.proofs.NumberAt.{has_others}
use Rattle.jr_member_graphs.specs.OwnFlags.{own_flags}
use Rattle.jr_sites.specs.declared.sites.PlacedSite as raw
use Rattle.jr_piece_sites.specs.Footprints.{IsFootprint}
use Rattle.jr_piece_sites.specs.Leads.{LeadsToExp, of_exp, spots_of}
use Rattle.jr_pieces.specs.Finding.{list_path}
use Rattle.jr_bodies.specs.Bodies.{begins, body_of}
use Rattle.jr_bodies.specs.BodyLaws.{BodiesAreNested}
use Rattle.jr_bodies.specs.MemberCode.{Code}
use Rattle.jr_bodies.proofs.Coded.{key_of}
use Rattle.jr_bodies.proofs.Typed.{is_bound}
use Rattle.jr_local.specs.Bodies.{body_of_member}
use Rattle.jr_local.specs.BodyFacts.{TellsNeverNull}
use Rattle.jr_local.specs.BodyFacts as facts
use Rattle.jr_local.specs.Crossing.{DoesReadAlone}
use Rattle.jr_local_texts.proofs.ShapedBodies.{list_shaped}
use Rattle.jr_local_footprints.specs.Givens.{IsMemberOf, FlagsTell, given_of}
use Rattle.jr_local_footprints.specs.LostPairs.{AreSitesOf}
use Rattle.jr_local_footprints.specs.Laws.{FootprintsAreOfBody}
use Rattle.jr_local_footprints.specs.NullTests.{OwnFlagsTell, TestsAreThere}
use Rattle.jr_effect.specs.Plain as row
use Rattle.jr_local_uses.specs.Paths.{IsPathOf}
use Rattle.jr_local_uses.specs.PlainValues.{HasValue, TellsPlain}
use Rattle.jr_local_uses.proofs.SpanRoots.{span_root, root_leads}
use Rattle.jr_local_uses.proofs.PlainSites.{plain_sites, plain_row}

abbrev Any : Span → ℕ → Type 0
Any m at = Unit {0}

-- ---- places of spans fit

args_fit : (at : ℕ) (args : Option (tree.Exps Span)) → FitsMaybeArgs begins Any at args → FitsArgs itself Any at args
args_fit at None h = tt
args_fit at (Some es) h = h

-- wherever the parent begins
sites_fit : (base other : ℕ) (x : syntax.Member Span) → FitsWhole begins Any base (member_part x) → FitsSites itself Any other x
sites_fit base other (syntax.field m mods t w init) h = (tt, tt, h.1.2)
sites_fit base other (syntax.method m mods t w ps body) h = (tt, tt, h.1.4)
sites_fit base other (syntax.constructor m mods w ps args body) h = (tt, tt, args_fit (begins m base) args h.1.3, h.1.4)
sites_fit base other (syntax.inner m c) h = tt

any_base : (k : MemberKey) (base other : ℕ) (m : syntax.Member Span) (bound : Bound) → body_of_member k base m bound ≡ body_of_member k other m bound
any_base k base other (syntax.field m mods t w init) bound = refl
any_base k base other (syntax.method m mods t w ps body) bound = refl
any_base k base other (syntax.constructor m mods w ps args body) bound = refl
any_base k base other (syntax.inner m c) bound = refl

module _ (p : Program Span) (bound : Bound) (m : syntax.Member Span) (c : Code) (e : tree.Exp Span) (x : HasValue p bound m c e) where
  abbrev w : WrittenMember Span
  w = x.has.member

  key_is : w.key ≡ x.body.key
  key_is = key_of w.key w.base w.part x.body.bound x.body x.has.is

  pub is_member : IsMemberOf x.body 0 m
  is_member =
      any_base x.body.key 0 w.base m x.body.bound
      ∙ ap (λ (k : MemberKey). body_of_member k w.base m x.body.bound) (sym key_is)
      ∙ ap (λ (q : Part Span). body_of w.key w.base q x.body.bound) (sym x.part)
      ∙ x.has.is

  pub fits : FitsSites itself Any 0 m
  fits = sites_fit w.base 0 m (subst (λ (q : Part Span). FitsWhole begins Any w.base q) x.part (x.program.members_fit w (at_contains (written_members begins p.rows (units_of p)) x.has.number w x.has.written)))

  -- ---- the path

  pub path_is : BodiesAreNested → (path : List ℕ) → IsPathOf c.list c.front (exp_mark e) path → path ≡ list_path x.body.front x.way
  path_is nested path is =
      let there = nested p x.program x.file x.body x.has in
      let told : IsPathOf x.body.list x.body.front (exp_mark e) path =
      subst (λ (n : ℕ). IsPathOf x.body.list n (exp_mark e) path) (sym x.front) (subst (λ (b : statement.Stmts Span). IsPathOf b c.front (exp_mark e) path) (sym x.list) is) in
      told (record { from = 0; to = there.to }) 1 there.nested e x.way refl

  pub leads : (path : List ℕ) → path ≡ list_path x.body.front x.way → LeadsToExp m path
  leads path is =
      let root = span_root x.body.key 0 m x.body.bound x.body is_member in
      (root.owner, (e, ap (nodes.exp_at (nodes.member m)) is ∙ root_leads x.body m root e x.way))

  -- ---- the sites

  module _ (written : MembersAreWritten Span) (own : OwnFlagsTell) (tests : TestsAreThere) (feet : FootprintsAreOfBody) where
    shaped : StmtsShaped x.body.list
    shaped = list_shaped p x.program written x.file x.body x.has

    tell : FlagsTell p x.body (own_flags itself p.rows x.body.key (decl_in x.body.bound.references) (find_type x.body.bound.types) 0 m) 0 m
    tell = own p x.program x.file x.body x.has shaped 0 m x.part is_member

    abbrev others : (o : Others) × NumbersMember itself 0 m o
    others = has_others itself 0 m

    module _ (flags : List Bool) (tells_so : FlagsTell p x.body flags 0 m) where
      -- what the call answers, whatever else resolved code needs
      abbrev Answers : List ℕ → List raw.PlacedSite → Type 0
      Answers path list = (f : tree.Exp Spot) → nodes.exp_at (nodes.member (spots_of itself 0 m)) path ≡ Some f → IsFootprint (given_of p x.body flags 0 m) others.0 (of_exp f) list

      has_sites : (list : List raw.PlacedSite) → Answers (list_path x.body.front x.way) list → (test : tree.Exp Span → Bool) → TellsNeverNull p x.body test
          → AreSitesOf p x.file x.body (sites_of (exp_way (facts.known p x.body test) e)) list
      has_sites list answers test tells =
          let foot = feet p x.program x.file x.body x.has 0 m is_member flags tells_so test tells others.0 others.1 in
          let at = foot.seen.exps e x.way in
          foot.of_expression e x.way (list_path x.body.front x.way) at list (answers at.exp at.at)

      does_read : (list : List raw.PlacedSite) → Answers (list_path x.body.front x.way) list → row.IsPlain list → DoesReadAlone p x.file x.body e
      does_read list answers h =
          let t = tests p x.program x.file x.body x.has shaped in
          let sites = has_sites list answers t.0 t.1 in
          record {
            never_null = t.0;
            tells = t.1;
            plain = plain_sites p x.file x.body (field_kind p.rows) (own_local x.body.key) (λ s. refl) (sites_of (exp_way (facts.known p x.body t.0) e)) list sites.are h;
          }

      row_reads : (list : List raw.PlacedSite) → Answers (list_path x.body.front x.way) list → DoesReadAlone p x.file x.body e → row.IsPlain list
      row_reads list answers d =
          let sites = has_sites list answers d.never_null d.tells in
          plain_row p x.file x.body (field_kind p.rows) (own_local x.body.key) (λ s. refl) (sites_of (exp_way (facts.known p x.body d.never_null) e)) list sites.are d.plain

      tells_plain : (path : List ℕ) → path ≡ list_path x.body.front x.way → (list : List raw.PlacedSite) → Answers path list → (q : Bool) → (IsTrue q ↔ row.IsPlain list) → TellsPlain p x q
      tells_plain path is list answers true h = does_read list (subst (λ (z : List ℕ). Answers z list) is answers) (h.0 refl)
      tells_plain path is list answers false h = λ d. absurd (false≢true (h.1 (row_reads list (subst (λ (z : List ℕ). Answers z list) is answers) d)))

    -- ---- by what the calls are given

    bound_to : bound ≡ x.body.bound
    bound_to = sym x.bound_is

    key_to : bound.member ≡ x.body.key
    key_to = ap (λ (b : Bound). b.member) bound_to ∙ (is_bound p x.program x.file x.body x.has).member ∙ key_is

    module _ (rows : List Row) (same : p.rows ≡ rows) where
      abbrev pub asked : List Bool → Given
      asked flags = known itself rows bound.member (λ at. decl_in bound.references at) (λ path. find_type bound.types path) flags 0 m

      given_is : (flags : List Bool) → asked flags ≡ given_of p x.body flags 0 m
      given_is flags = λ i. known itself (sym same i) (key_to i) (λ at. decl_in (bound_to i).references at) (λ path. find_type (bound_to i).types path) flags 0 m

      abbrev flags_of : List Row → MemberKey → Bound → List Bool
      flags_of rs k b = own_flags itself rs k (λ at. decl_in b.references at) (λ path. find_type b.types path) 0 m

      pub is_plain_so : (flags : List Bool) → flags ≡ flags_of rows bound.member bound → (path : List ℕ) → path ≡ list_path x.body.front x.way → (list : List raw.PlacedSite)
          → ((o : Others) (f : tree.Exp Spot) → nodes.exp_at (nodes.member (spots_of itself 0 m)) path ≡ Some f → IsFootprint (asked flags) o (of_exp f) list)
          → (q : Bool) → (IsTrue q ↔ row.IsPlain list) → TellsPlain p x q
      is_plain_so flags flags_are path is list answers q h =
          let all = flags_are ∙ (λ i. flags_of (sym same i) (key_to i) (bound_to i)) in
          let tells_so = subst (λ (f : List Bool). FlagsTell p x.body f 0 m) (sym all) tell in
          tells_plain flags tells_so path is list (λ f at. subst (λ (g : Given). IsFootprint g others.0 (of_exp f) list) (given_is flags) (answers others.0 f at)) q h
