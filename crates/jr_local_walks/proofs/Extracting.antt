-- What the walk gathers of the expression, of its statement and of those behind it is what extract
-- local asks of them.
use Rattle.std.proofs.Common.{◌≡◌, ℕ, ◌+◌, Bool, true, false, ◌&&◌, List, [], ◌∷◌, Option, Some, None, refl, sym, ap, ◌∙◌, inl, inr, arith}
use Rattle.std.specs.Prelude.{nat_eq, if◌then◌else◌}
use Rattle.std.proofs.lemmas.Bool.{eqb-true, eq-eqb}
use Rattle.jr_text.specs.declared.spans.Span.{Span}
use Rattle.jr_lex.specs.declared.items.Item.{Item}
use Rattle.jr_ast.specs.Tree as tree
use Rattle.jr_ast.specs.StatementTree as statement
use Rattle.jr_ast.specs.Marks.{exp_mark}
use Rattle.jr_grammar.specs.Layout.{itself}
use Rattle.jr_table.specs.Decls.{MemberKey}
use Rattle.jr_table.specs.Binding.{Role, value}
use Rattle.jr_table.specs.Context.{Context, locals_in, after}
use Rattle.jr_bind.specs.Programs.{Program}
use Rattle.jr_rewrite.specs.Rewritten.{Rewritten}
use Rattle.jr_rewrite.specs.Rewrites.{TransformsStmt, TransformsList}
use Rattle.jr_rewrite.specs.Spots.{Asks, level, a_target, a_statement, nowhere, spotted, OrPart, OrList}
use Rattle.jr_images.specs.Regions.{Region}
use Rattle.jr_pieces.specs.Standings.{Standing, at_stmt, at_list}
use Rattle.jr_pieces.specs.Standings as standing
use Rattle.jr_new_words.specs.Mappings.{region_of}
use Rattle.jr_new_bodies.specs.Spotting.{same_span, PartSpot, at_parts, part_out, Unseen, spots_of, PartStays}
use Rattle.jr_local.specs.Bodies.{begins}
use Rattle.jr_local.specs.Selecting.{Selected, at_value, element}
use Rattle.jr_local.specs.Extracted.{from_there, of_piece, named, name_spot, IsValue}
use Rattle.jr_local_walks.specs.Mappings.{moved, behind, initializing}
use Rattle.jr_local_walks.specs.Contexts.{IsLate, IsOwn, InOrder, IsOrdered}
use Rattle.jr_local_walks.specs.Walked.{number, there, base, HasTypeRow, NamesPiece, PieceLeads, ExtractIsWalked}
use Rattle.jr_local_walks.proofs.Agreeing.{Agree}
use Rattle.jr_local_walks.proofs.Rooms.{behind_agrees, initializing_agrees}
use Rattle.jr_local_walks.proofs.Orders.{order_within, order_own, order_behind, order_other}
use Rattle.jr_local_walks.proofs.Below.{nearest_below, below_ordered}
use Rattle.jr_local_walks.proofs.Instead as instead
use Rattle.jr_local_walks.proofs.Leading.{C, D, types_lead, expressions_lead}

-- ---- spans

both : (a b : Bool) → (a && b) ≡ true → (a ≡ true) × (b ≡ true)
both true true e = (refl, refl)
both true false e = absurd cc
both false b e = absurd cc

span_is : (s t : Span) → same_span s t ≡ true → s ≡ t
span_is s t e =
    let x = both (nat_eq s.from t.from) (nat_eq s.to t.to) e in
    λ i. record { from = eqb-true s.from t.from x.0 i; to = eqb-true s.to t.to x.1 i }

same_itself : (s : Span) → same_span s s ≡ true
same_itself s = (λ i. eq-eqb s.from s.from refl i && nat_eq s.to s.to) ∙ eq-eqb s.to s.to refl

some_is : {X : Type 0} {x y : X} → (let a : Option X = Some x in a ≡ Some y) → x ≡ y
some_is e = cc

module _ (p : Program Span) (file from to : ℕ) (name : List ℕ) (x : Selected p file from to) where
  abbrev n : ℕ
  n = number p file from to name x

  abbrev k : MemberKey
  k = (there p file from to name x).member

  -- ---- the expression

  pub piece_leads : PieceLeads p file from to name x
  piece_leads depth super_at o row order w =
      let R : Region Span = region_of p.rows (moved p.rows (initializing n name x.type depth)) in
      let Q : Region Span = of_piece p file from to name x in
      let Known = λ (q : Standing). InOrder p.rows k n depth (IsOwn k n) q.context in
      let agree = λ (q : Standing) (h : Known q). initializing_agrees n name x.type p.rows k q.context row begins depth h in
      instead.exp itself (C p.rows R Q super_at super_at) (D p.rows R Q super_at (λ c. p.super_at c.member)) nowhere nowhere Known (λ m q h. h)
      (λ q h t u. types_lead p.rows R Q super_at (λ c. p.super_at c.member) q (agree q h) t u) (λ N y. y) (at_value x) value x.value o order
      (λ f d h. expressions_lead p.rows R Q super_at (λ c. p.super_at c.member) nowhere nowhere (standing.at_exp begins (at_value x) d) f (agree (standing.at_exp begins (at_value x) d) h) (λ a r u N M go y. go y)) w

  -- ---- the statement, and those behind it

  module _ (depth : ℕ) (super_at : Context → ℕ) (row : HasTypeRow p file from to name x) where
    abbrev R : Region Span
    R = region_of p.rows (moved p.rows (behind n name x.type depth))

    abbrev Q : Region Span
    Q = from_there p file from to name x

    abbrev super_there : Context → ℕ
    super_there = λ c. p.super_at c.member

    abbrev Known : Standing → Type 0
    Known = IsOrdered p.rows k n depth

    agree : (q : Standing) → Known q → Agree begins p.rows R Q q.context
    agree q (le, o) = behind_agrees n name x.type p.rows k q.context row begins depth o

    module _ (items : List Item) (spot : PartSpot) (u : Unseen Span) (puts : NamesPiece p file from to name x items spot u) where
      abbrev IsAlone : Standing → tree.Exp Span → Type 0
      IsAlone q f = exp_mark f ≡ exp_mark x.value → (f ≡ x.value) × (q.context ≡ (at_value x).context)

      -- where the span isn't the piece's
      free : (a : Asks) (c : Context) (b : ℕ) (f : tree.Exp Span) → PartStays itself (at_parts (spot ∷ [])) a b f → IsValue p file from to name x a c f → ⊥
      free a_target c b f stays (least, is, at, same) = absurd cc
      free a_statement c b f stays (least, is, at, same) = absurd cc
      free (level l) c b f stays (least, is, at, same) = none (sym (ap (λ (z : Bool). if z then Some spot else None) found) ∙ stays)
        where
          found : same_span spot.at (exp_mark f) ≡ true
          found = ap (λ (s : Span). same_span spot.at s) (ap exp_mark same ∙ sym puts.at) ∙ same_itself spot.at

          none : (let o : Option PartSpot = Some spot in o ≡ None) → ⊥
          none e = absurd cc

      put : (q : Standing) (f : tree.Exp Span) → IsAlone q f → (a : Asks) (r : Role) (o : Rewritten (tree.Exp Span)) (N M : Type 0) → (N → M)
          → OrPart (spots_of itself u (at_parts (spot ∷ []))) a q.context r q.base f o N → OrPart (spotted (name_spot p file from to name x items)) a q.context r q.base f o M
      put q f alone a r o N M go (inl (stays, y)) = inl (free a q.context q.base f stays, go y)
      put q f alone a_target r o N M go (inr comes) = absurd comes
      put q f alone a_statement r o N M go (inr comes) = absurd comes
      put q f alone (level l) r o N M go (inr (s, at, is)) = inr (by (same_span spot.at (exp_mark f)) refl at)
        where
          by : (z : Bool) → same_span spot.at (exp_mark f) ≡ z → (let found : Option PartSpot = if z then Some spot else None in found ≡ Some s)
              → IsValue p file from to name x (level l) q.context f × (o ≡ named name items (exp_mark x.value))
          by false e found = absurd cc
          by true e found =
              let here = alone (sym (span_is spot.at (exp_mark f) e) ∙ puts.at) in
              ((l, refl, here.1, here.0), is ∙ ap (λ (z : PartSpot). part_out z l (u.part z.at l)) (sym (some_is found)) ∙ puts.puts l)

      first_leads : (o : Rewritten (statement.Stmt Span)) → InOrder p.rows k n depth (IsLate k n) (there p file from to name x)
          → TransformsStmt itself (C p.rows R Q super_at super_there) (spots_of itself u (at_parts (spot ∷ []))) n (there p file from to name x) (base p file from to name x) (element x).stmt o
          → TransformsStmt itself (D p.rows R Q super_at super_there) (spotted (name_spot p file from to name x items)) n (there p file from to name x) (base p file from to name x) (element x).stmt o
      first_leads o order w =
          instead.stmt itself (C p.rows R Q super_at super_there) (D p.rows R Q super_at super_there) (spots_of itself u (at_parts (spot ∷ []))) (spotted (name_spot p file from to name x items)) Known
          (order_within begins p.rows k n depth) (λ q h t v. types_lead p.rows R Q super_at super_there q (agree q h) t v) (λ N y. (y.0, y.1)) (order_own begins p.rows k n depth) (order_behind begins p.rows k n depth) (order_other begins p.rows k n depth)
          (λ d v h y. y) lists (element x).at (element x).stmt o (omega arith, order)
          (λ f d h. expressions_lead p.rows R Q super_at super_there (spots_of itself u (at_parts (spot ∷ []))) (spotted (name_spot p file from to name x items)) (at_stmt begins (element x).at d) f
          (agree (at_stmt begins (element x).at d) h) (put (at_stmt begins (element x).at d) f (puts.alone f d))) w
        where
          lists : (i : ℕ) (c : Context) (b : ℕ) (xs : statement.Stmts Span) (q : Rewritten (statement.Stmts Span)) (N M : Type 0) → (N → M)
              → OrList (spots_of itself u (at_parts (spot ∷ []))) i c b xs q N → OrList (spotted (name_spot p file from to name x items)) i c b xs q M
          lists i c b xs q N M go (inl y) = inl (tt, go y.1)
          lists i c b xs q N M go (inr y) = absurd y

    rest_leads : (o : Rewritten (statement.Stmts Span)) → InOrder p.rows k n depth (IsLate k n) (there p file from to name x)
        → TransformsList itself (C p.rows R Q super_at super_there) nowhere (n + locals_in (element x).stmt) (after n (there p file from to name x) (element x).stmt) (base p file from to name x) (element x).rest o
        → TransformsList itself (D p.rows R Q super_at super_there) nowhere (n + locals_in (element x).stmt) (after n (there p file from to name x) (element x).stmt) (base p file from to name x) (element x).rest o
    rest_leads o order w =
        let q = standing.behind begins (element x).stmt (element x).at in
        instead.list itself (C p.rows R Q super_at super_there) (D p.rows R Q super_at super_there) nowhere nowhere Known
        (order_within begins p.rows k n depth) (λ s h t v. types_lead p.rows R Q super_at super_there s (agree s h) t v) (λ N y. y) (order_own begins p.rows k n depth) (order_behind begins p.rows k n depth) (order_other begins p.rows k n depth)
        (λ d v h y. y) (λ i c b xs r N M go y. go y) q (element x).rest o (order_behind begins p.rows k n depth (element x).stmt (element x).at (omega arith, order))
        (λ f d h. expressions_lead p.rows R Q super_at super_there nowhere nowhere (at_list begins q d) f (agree (at_list begins q d) h) (λ a r v N M go y. go y)) w

pub extract_is_walked : ExtractIsWalked
extract_is_walked p file from to name x = (
  piece_leads p file from to name x,
  λ depth super_at items spot u o row order puts w. first_leads p file from to name x depth super_at row items spot u puts o order w,
  λ depth super_at o row order w. rest_leads p file from to name x depth super_at row o order w,
  λ below. let there = nearest_below begins p.rows x.body.key x.body.at x.way below in below_ordered begins p.rows x.body.key (element x).at there,
)
