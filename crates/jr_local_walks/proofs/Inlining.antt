-- What the walk gathers of the statements behind a declaration is what inline local asks of them.
use Rattle.std.proofs.Common.{◌≡◌, ℕ, List, sym, subst, inl, inr}
use Rattle.jr_text.specs.declared.spans.Span.{Span}
use Rattle.jr_lex.specs.declared.items.Item.{Item}
use Rattle.jr_ast.specs.Tree as tree
use Rattle.jr_ast.specs.StatementTree as statement
use Rattle.jr_grammar.specs.Layout.{itself}
use Rattle.jr_table.specs.Keys.{Ty}
use Rattle.jr_table.specs.Binding.{Role}
use Rattle.jr_table.specs.Context.{Context}
use Rattle.jr_bind.specs.Programs.{Program}
use Rattle.jr_rewrite.specs.Rewritten.{Rewritten}
use Rattle.jr_rewrite.specs.Spots.{Asks, level, a_target, a_statement, spotted, OrPart, OrList}
use Rattle.jr_images.specs.Regions.{Region}
use Rattle.jr_pieces.specs.Ways.{ListWay}
use Rattle.jr_pieces.specs.Standings.{Standing, at_list}
use Rattle.jr_new_words.specs.Mappings.{region_of}
use Rattle.jr_new_bodies.specs.Spotting.{PartSpot, at_parts, Unseen, spots_of, PartStays}
use Rattle.jr_local.specs.Bodies.{begins}
use Rattle.jr_local.specs.Inlining.{Asked}
use Rattle.jr_local.specs.Inlined.{Copy, IsNoRead, read_spot, left_out}
use Rattle.jr_local_walks.specs.Mappings.{moved, without}
use Rattle.jr_local_walks.specs.Contexts.{IsWithin}
use Rattle.jr_local_walks.specs.Walked.{rest, place, PutsCopies, InlineLeads, InlineIsWalked}
use Rattle.jr_local_walks.proofs.Agreeing.{Agree}
use Rattle.jr_local_walks.proofs.Left.{left_agrees}
use Rattle.jr_local_walks.proofs.Orders.{member_own, member_behind}
use Rattle.jr_local_walks.proofs.Instead as instead
use Rattle.jr_local_walks.proofs.Leading.{C, D, types_lead, expressions_lead}

other : {P : Type 0} {least : ℕ} → a_target ≡ level least → P
other e = absurd cc

another : {P : Type 0} {least : ℕ} → a_statement ≡ level least → P
another e = absurd cc

module _ (p : Program Span) (file at : ℕ) (x : Asked p file at) (type : Ty) where
  abbrev R : Region Span
  R = region_of p.rows (moved p.rows (without x.key.number type))

  abbrev Q : Region Span
  Q = left_out p file at x type

  abbrev Known : Standing → Type 0
  Known = IsWithin p.rows x.key.member

  agree : (q : Standing) → Known q → Agree begins p.rows R Q q.context
  agree q h = left_agrees x.key.number type p.rows x.key.member begins q.context h

  module _ (text : List ℕ) (items : List Item) (cs : List Copy) (ps : List PartSpot) (u : Unseen Span) (puts : PutsCopies p file at x type text items cs ps u) where
    free : (f : tree.Exp Span) (w : ListWay f (rest p file at x type)) (a : Asks) → PartStays itself (at_parts ps) a (at_list begins (place p file at x type) w).base f → IsNoRead p file at x type text items cs a (at_list begins (place p file at x type) w).context f
    free f w (level l) stays = puts.stays f w l stays
    free f w a_target stays = λ n there. other there.2
    free f w a_statement stays = λ n there. another there.2

    put : (f : tree.Exp Span) (w : ListWay f (rest p file at x type)) (a : Asks) (r : Role) (o : Rewritten (tree.Exp Span)) (N M : Type 0) → (N → M)
        → OrPart (spots_of itself u (at_parts ps)) a (at_list begins (place p file at x type) w).context r (at_list begins (place p file at x type) w).base f o N
        → OrPart (spotted (read_spot p file at x type text items cs)) a (at_list begins (place p file at x type) w).context r (at_list begins (place p file at x type) w).base f o M
    put f w a r o N M go (inl (stays, y)) = inl (free f w a stays, go y)
    put f w a_target r o N M go (inr comes) = absurd comes
    put f w a_statement r o N M go (inr comes) = absurd comes
    put f w (level l) r o N M go (inr (s, stands, is)) =
        inr (subst (λ (z : Rewritten (tree.Exp Span)). (read_spot p file at x type text items cs).part (level l) (at_list begins (place p file at x type) w).context r (at_list begins (place p file at x type) w).base f z) (sym is) (puts.comes f w l s stands))

    lists : (i : ℕ) (c : Context) (b : ℕ) (xs : statement.Stmts Span) (q : Rewritten (statement.Stmts Span)) (N M : Type 0) → (N → M)
        → OrList (spots_of itself u (at_parts ps)) i c b xs q N → OrList (spotted (read_spot p file at x type text items cs)) i c b xs q M
    lists i c b xs q N M go (inl y) = inl (tt, go y.1)
    lists i c b xs q N M go (inr y) = absurd y

  pub inline_leads : InlineLeads p file at x type
  inline_leads super_at text items cs ps u o within puts w =
      let there = λ (c : Context). p.super_at c.member in
      instead.list itself (C p.rows R Q super_at there) (D p.rows R Q super_at there) (spots_of itself u (at_parts ps)) (spotted (read_spot p file at x type text items cs)) Known
      (λ m q h. h) (λ q h t v. types_lead p.rows R Q super_at there q (agree q h) t v) (λ N y. (y.0, y.1)) (member_own begins p.rows x.key.member 0 0) (member_behind begins p.rows x.key.member 0 0) (λ m y q h. h)
      (λ d v h y. y) (lists text items cs ps u puts) (place p file at x type) (rest p file at x type) o within
      (λ f d h. expressions_lead p.rows R Q super_at there (spots_of itself u (at_parts ps)) (spotted (read_spot p file at x type text items cs)) (at_list begins (place p file at x type) d) f (agree (at_list begins (place p file at x type) d) h) (put text items cs ps u puts f d)) w

pub inline_is_walked : InlineIsWalked
inline_is_walked p file at x type = inline_leads p file at x type
