-- Where the paths of a target lead in its member: to the expression, and to the list of its statement, of which that
-- one is the part of the number that the statement's place tells. So the calls that read by paths may be asked.
use Rattle.std.proofs.Common.{◌≡◌, ℕ, suc, ◌+◌, ◌-◌, ◌≤◌, Bool, List, [], ◌∷◌, ◌++◌, length, take, drop, Some, refl, sym, ap, subst, ◌∙◌, arith, append_assoc, length-append}
use Rattle.std.specs.Prelude.{slice_get}
use Rattle.std.proofs.lemmas.List.{take-append-drop}
use Rattle.std.proofs.lemmas.Option.{same_Some}
use Rattle.std.proofs.Math.Seq.{take-append_seam, drop-append_seam}
use Rattle.jr_text.specs.declared.spans.Span.{Span}
use Rattle.jr_ast.specs.StatementTree as statement
use Rattle.jr_ast.specs.MemberTree as syntax
use Rattle.jr_ast.specs.Marks.{member_mark}
use Rattle.jr_ast.specs.View.{member_of}
use Rattle.jr_ast.specs.Nodes as nodes
use Rattle.jr_ast.specs.Nodes.{exp_at, children_of}
use Rattle.jr_table.specs.Errors.{Part, member_part}
use Rattle.jr_members.specs.WrittenMembers.{WrittenMember}
use Rattle.jr_bind.specs.Bounds.{Bound}
use Rattle.jr_bind.specs.Programs.{Program}
use Rattle.jr_pieces.specs.Finding.{stmt_path, list_path}
use Rattle.jr_piece_sites.specs.Leads.{AreParts, Leads, LeadsToExp, LeadsToParts}
use Rattle.jr_piece_sites.specs.Pieces as piece
use Rattle.jr_piece_sites.specs.Pieces.{IsOwner, node_of}
use Rattle.jr_piece_sites.proofs.Reaching.{at_exp, to_exp}
use Rattle.jr_bodies.specs.Bodies.{Body, begins, body_of}
use Rattle.jr_local_finds.proofs.ExtractPlaces.{has_key, same_bound}
use Rattle.jr_local_footprints.specs.Givens.{IsMemberOf}
use Rattle.jr_local_footprints.proofs.HeldLists.{node_here, same_front, way_leads}
use Rattle.jr_local_footprints.proofs.Roots.{RootOf, root_of}
use Rattle.jr_extract_lists.specs.declared.targets.Target as raw
use Rattle.jr_extract_lists.specs.declared.walks.StatementPlace as raw_place
use Rattle.jr_extract_lists.specs.Targets.{IsTarget}
use Rattle.jr_extract_lists.specs.Walked.{it, held, IsPlaceOf, HasPlace}
use Rattle.jr_extract_local.proofs.MemberNodes.{Held, list_held, children_are, member_is}

-- ---- parts of a path

pub front_of : (path front : List ℕ) (step : ℕ) (rest : List ℕ) (count : ℕ) → path ≡ front ++ step ∷ rest → count ≡ length front → take count path ≡ front
front_of path front step rest count is many = (λ i. take (many i) (is i)) ∙ take-append_seam front (step ∷ rest)

long_front : (front : List ℕ) (step count : ℕ) → suc (length front) ≡ count → count ≡ length (front ++ step ∷ [])
long_front front step count many = let n = length-append front (step ∷ []) in omega (arith, n, many)

split_behind : (path front : List ℕ) (step : ℕ) (rest : List ℕ) → path ≡ front ++ step ∷ rest → path ≡ (front ++ step ∷ []) ++ rest
split_behind path front step rest is = is ∙ sym (append_assoc front (step ∷ []) rest)

pub front_with : (path front : List ℕ) (step : ℕ) (rest : List ℕ) (count : ℕ) → path ≡ front ++ step ∷ rest → suc (length front) ≡ count → take count path ≡ front ++ step ∷ []
front_with path front step rest count is many = (λ i. take (long_front front step count many i) (split_behind path front step rest is i)) ∙ take-append_seam (front ++ step ∷ []) rest

pub rest_of : (path front : List ℕ) (step : ℕ) (rest : List ℕ) (count : ℕ) → path ≡ front ++ step ∷ rest → suc (length front) ≡ count → drop count path ≡ rest
rest_of path front step rest count is many = (λ i. drop (long_front front step count many i) (split_behind path front step rest is i)) ∙ drop-append_seam (front ++ step ∷ []) rest

pub fits_in : (path front : List ℕ) (step : ℕ) (rest : List ℕ) (count : ℕ) → path ≡ front ++ step ∷ rest → suc (length front) ≡ count → count ≤ length path
fits_in path front step rest count is many =
    let whole = ap length is in
    let parts = length-append front (step ∷ rest) in
    omega (arith, whole, parts, many)

-- ---- the body

module _ (p : Program Span) (t : raw.Target) (x : IsTarget p t) where
  abbrev pub body : Body
  body = (it x).body

  abbrev pub m : syntax.Member Span
  m = member_of t.member.now

  pub bound_is : t.body.bound.now ≡ body.bound
  bound_is = same_bound p t.request.file t.request.from t.request.to x.chosen x.found.selected.has t.body.bound.now x.bound

  pub key_is : t.body.bound.now.member ≡ body.key
  key_is = ap (λ (b : Bound). b.member) bound_is ∙ has_key p x.program t.request.file t.request.from t.request.to x.chosen x.found.selected.has

  pub part_is : (it x).has.member.part ≡ member_part m
  part_is =
      let h = x.found.selected.has in
      let same : h.has.member ≡ x.written = same_Some h.has.member x.written (sym h.has.written ∙ ap (slice_get _) h.number ∙ x.member_is.stands) in
      ap (λ (w : WrittenMember Span). w.part) same ∙ x.part

  -- as the member has it
  has_so : body_of (it x).has.member.key (it x).has.member.base (member_part m) body.bound ≡ Some body
  has_so = subst (λ (q : Part Span). body_of (it x).has.member.key (it x).has.member.base q body.bound ≡ Some body) part_is (it x).has.is

  pub is_member : IsMemberOf body 0 m
  is_member = member_is (it x).has.member.key (it x).has.member.base m body.bound body has_so

  root : RootOf body 0 m
  root = root_of body.key 0 m body.bound body is_member

  pub owner : IsOwner m
  owner = root.owner

  pub from_is : t.body.from ≡ body.at.base
  from_is = x.from ∙ root.start

  -- ---- the expression

  pub path_is : t.path.now.steps.items ≡ list_path body.front (it x).way
  path_is = x.path ∙ x.found.selected.has.value.place.path

  exp_there : exp_at (nodes.member m) t.path.now.steps.items ≡ Some (it x).value
  exp_there =
      subst (λ (q : List ℕ). exp_at (nodes.member m) q ≡ Some (it x).value) (sym path_is)
      (way_leads (nodes.member m) body.list body.front (children_are body.key 0 m body.bound body is_member) (it x).value (it x).way)

  pub to_value : LeadsToExp m t.path.now.steps.items
  to_value = to_exp m owner t.path.now.steps.items (it x).value exp_there

  pub value_in : (outer inner : List ℕ) → t.path.now.steps.items ≡ outer ++ inner → Leads m (outer ++ inner)
  value_in outer inner split = subst (Leads m) split (at_exp m owner t.path.now.steps.items (it x).value exp_there)

  -- ---- the statement

  module _ (at : raw_place.StatementPlace) (h : IsPlaceOf x at) where
    abbrev front : List ℕ
    front = h.element_is.front

    abbrev step : ℕ
    step = at.element.step

    pub stands : list_path body.front (it x).way ≡ front ++ step ∷ stmt_path (held x).way
    stands = sym path_is ∙ h.element_is.path

    pub shallow : 1 ≤ at.element.depth
    shallow = let deep = h.element_is.steps in omega (arith, deep)

    pub path_fits : at.element.depth ≤ length t.path.now.steps.items
    path_fits = fits_in t.path.now.steps.items front step (stmt_path (held x).way) at.element.depth h.element_is.path h.element_is.steps

    pub around_fits : at.element.depth - 1 ≤ length t.path.now.steps.items
    around_fits = let le = path_fits in omega (arith, le)

    pub around_is : take (at.element.depth - 1) t.path.now.steps.items ≡ front
    around_is = let deep = h.element_is.steps in front_of t.path.now.steps.items front step (stmt_path (held x).way) (at.element.depth - 1) h.element_is.path (omega (arith, deep))

    pub outer_is : take at.element.depth t.path.now.steps.items ≡ front ++ step ∷ []
    outer_is = front_with t.path.now.steps.items front step (stmt_path (held x).way) at.element.depth h.element_is.path h.element_is.steps

    pub inner_is : drop at.element.depth t.path.now.steps.items ≡ stmt_path (held x).way
    inner_is = rest_of t.path.now.steps.items front step (stmt_path (held x).way) at.element.depth h.element_is.path h.element_is.steps

    there : Held begins (nodes.member m) (held x) (list_path body.front (it x).way)
    there = list_held begins (nodes.member m) body.list (it x).way body.at [] body.front (piece.member m) (node_here (nodes.member m)) (children_are body.key 0 m body.bound body is_member)

    same_place : (there.around ≡ front) × (there.step ≡ step)
    same_place = same_front there.around front (stmt_path (held x).way) there.step step (sym there.path ∙ stands)

    abbrev one : statement.Stmts Span
    one = statement.more (held x).stmt statement.end

    one_part : (k : ℕ) → drop k (children_of (node_of there.of)) ≡ nodes.stmts (statement.more (held x).stmt (held x).rest) → AreParts (node_of there.of) k (suc k) one
    one_part k are =
        let count : suc k - k ≡ 1 = omega arith in record {
          ordered = omega arith;
          are = (λ i. take (count i) (are i));
          all = sym count;
        }

    pub to_parts : (around : List ℕ) (from to : ℕ) → around ≡ front → from ≡ step → to ≡ suc step → LeadsToParts m around from to
    to_parts around from to around_same from_same to_same =
        let parts = one_part there.step there.are in
        let here : LeadsToParts m there.around there.step (suc there.step) = (owner, (there.of, there.at, (one, parts))) in
        let moved : LeadsToParts m front step (suc step) = subst (λ (k : ℕ). LeadsToParts m front k (suc k)) same_place.1 (subst (λ (q : List ℕ). LeadsToParts m q there.step (suc there.step)) same_place.0 here) in
        subst (λ (k : ℕ). LeadsToParts m around from k) (sym to_same) (subst (λ (k : ℕ). LeadsToParts m around k (suc step)) (sym from_same) (subst (λ (q : List ℕ). LeadsToParts m q step (suc step)) (sym around_same) moved))

-- ---- of some program, as calls ask it

module _ (t : raw.Target) (at : raw_place.StatementPlace) where
  pub is_shallow : HasPlace t at → 1 ≤ at.element.depth
  is_shallow (p, (x, h)) = shallow p t x at h

  pub around_in : HasPlace t at → at.element.depth - 1 ≤ length t.path.now.steps.items
  around_in (p, (x, h)) = around_fits p t x at h

  pub outer_in : HasPlace t at → at.element.depth ≤ length t.path.now.steps.items
  outer_in (p, (x, h)) = path_fits p t x at h

  pub leads_to_value : HasPlace t at → LeadsToExp (member_of t.member.now) t.path.now.steps.items
  leads_to_value (p, (x, h)) = to_value p t x

  pub leads_in : HasPlace t at → (outer inner : List ℕ) → outer ≡ take at.element.depth t.path.now.steps.items → inner ≡ drop at.element.depth t.path.now.steps.items → Leads (member_of t.member.now) (outer ++ inner)
  leads_in (p, (x, h)) outer inner outer_same inner_same =
      value_in p t x outer inner (sym (take-append-drop at.element.depth t.path.now.steps.items) ∙ (λ i. sym outer_same i ++ sym inner_same i))

  pub leads_to_parts : HasPlace t at → (around : List ℕ) (to : ℕ) → around ≡ take (at.element.depth - 1) t.path.now.steps.items → to ≡ at.element.step + 1 → LeadsToParts (member_of t.member.now) around at.element.step to
  leads_to_parts (p, (x, h)) around to around_same to_same =
      let behind : to ≡ suc at.element.step = omega (arith, to_same) in
      to_parts p t x at h around at.element.step to (around_same ∙ around_is p t x at h) refl behind
