-- What is selected, its statement and those behind it may be walked.
use Rattle.std.proofs.Common.{◌≡◌, ℕ, List, [], None, length, sym, ap, subst}
use Rattle.jr_text.specs.declared.spans.Span.{Span}
use Rattle.jr_grammar.specs.Layout.{itself}
use Rattle.jr_table.specs.Decls.{MemberKey}
use Rattle.jr_table.specs.Entries.{class_of_member}
use Rattle.jr_table.specs.Context.{Context}
use Rattle.jr_members.specs.WrittenLaws.{MembersAreWritten}
use Rattle.jr_bind.specs.Programs.{Program, IsProgram}
use Rattle.jr_pieces.specs.Standings.{Standing}
use Rattle.jr_bodies.specs.BodyLaws.{BodiesAreNested}
use Rattle.jr_local.specs.Selecting.{Selected, at_value, bar, element}
use Rattle.jr_local_ways.specs.ReadyWays.{WaysAreReady, ValuesAreReady}
use Rattle.jr_local_ways.specs.Elements.{ElementsHoldIt, OneHasTheSpan}
use Rattle.jr_local_walks.specs.Contexts.{IsLate, IsOwn, InOrder}
use Rattle.jr_local_walks.specs.Walked.{number, HasTypeRow, ExtractIsWalked}
use Rattle.jr_local_premises.specs.BodyPremises.{BodiesAreReady, BodiesAreBelow}
use Rattle.jr_local_premises.specs.SelectedPremises.{SelectedReady, SelectedAreReady}
use Rattle.jr_local_premises.proofs.Bodies.{HasRow, class_of_body}
use Rattle.jr_local_premises.proofs.Rows.{type_rows}
use Rattle.jr_local_premises.proofs.Within.{IsWithin, list_within, in_order}

module _ (ready : BodiesAreReady) (below : BodiesAreBelow) (nested : BodiesAreNested) (written : MembersAreWritten Span) (ways : WaysAreReady) (values : ValuesAreReady) (holds : ElementsHoldIt Span) (one : OneHasTheSpan) (walked : ExtractIsWalked) (p : Program Span)
    (program : IsProgram itself (λ m n. Unit {0}) p) (file from to : ℕ) (name : List ℕ) (x : Selected p file from to) where
  abbrev at : Standing
  at = (element x).at

  abbrev n : ℕ
  n = number p file from to name x

  abbrev depth : ℕ
  depth = length at.context.locals

  ordered_by_key : InOrder p.rows x.body.key n depth (IsLate x.body.key n) at.context
  ordered_by_key = (walked p file from to name x).3 (below p program file x.body x.has)

  ordered : InOrder p.rows at.context.member n depth (IsLate at.context.member n) at.context
  ordered = subst (λ (k : MemberKey). InOrder p.rows k n depth (IsLate k n) at.context) (sym ordered_by_key.member) ordered_by_key

  inside : bar x ≡ None → InOrder p.rows at.context.member n depth (IsOwn at.context.member n) (at_value x).context
  inside free =
      subst (λ (c : Context). InOrder p.rows at.context.member n depth (IsOwn at.context.member n) c) (sym ((holds _ x.body.at x.body.list x.value x.way).straight free))
      (in_order p.rows at.context.member n at.context ordered (element x).stmt)

  -- the member is that of the body
  within : IsWithin p.rows x.body.key (at_value x).context
  within = let b = below p program file x.body x.has in list_within p.rows x.body.key x.body.at x.way (b.0, b.2)

  typed : HasTypeRow p file from to name x
  typed =
      type_rows p.rows program.are_rows (at_value x).context within.1
      (subst (λ (k : MemberKey). HasRow p.rows (class_of_member k)) (sym within.0) (class_of_body written p program file x.body x.has)) x.value x.type x.typed

  selected_ready : SelectedReady p file from to name x
  selected_ready =
      let may = ready p program file x.body x.has in
      let way = ways p.rows x.body.bound x.body.at.base x.body.at [] x.body.front x.body.list may x.value x.way in
      record {
        typed = typed;
        ordered = ordered;
        inside = inside;
        alone = λ f w same.
            let is = one x.body.list (nested p program file x.body x.has) x.body.at x.value x.way f w same in
            (is.value, ap (λ (q : Standing). q.context) is.at);
        element_ready = way.element;
        piece = values p.rows program.are_rows x.body.bound x.body.at.base x.body.at [] x.body.front x.body.list may x.value x.way x.used x.type x.typed;
      }

pub selected_are_ready : BodiesAreReady → BodiesAreBelow → BodiesAreNested → MembersAreWritten Span → WaysAreReady → ValuesAreReady → ElementsHoldIt Span → OneHasTheSpan → ExtractIsWalked → SelectedAreReady
selected_are_ready ready below nested written ways values holds one walked p program file from to name x = selected_ready ready below nested written ways values holds one walked p program file from to name x
