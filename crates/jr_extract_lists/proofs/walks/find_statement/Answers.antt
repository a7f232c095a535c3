use Rattle.std.proofs.Common.{ap, subst}
use Rattle.std.proofs.lemmas.Result.{IfOk-weaker}
use Rattle.jr_new_words.specs.Mappings.{Renumbering}
use Rattle.jr_new_words.specs.MappingView.{renumbering_of}
use Rattle.jr_local_parts.specs.Begun.{BeginsBody}
use Rattle.jr_extract_lists.proofs.Places.{known_tables}
use Rattle.jr_extract_lists.proofs.walks.find_statement.Goals as goal

pub begin_body-requires : goal.begin_body-requires
begin_body-requires c = record {
  tables = known_tables c.args.of.now c.requires;
  bare = (ap (λ (r : Renumbering). r.made) c.renumbered-numbers.ensures, ap (λ (r : Renumbering). r.depth) c.renumbered-numbers.ensures);
}

pub go-at-requires : goal.go-at-requires
go-at-requires c = c.in_ok-here.ensures.known

pub returns : goal.returns
returns c = λ p x.
    let w = c.args.of.now.body in
    let r = renumbering_of c.renumbered-numbers.result in
    let begins = subst (λ (q : Renumbering). BeginsBody w q c.in_ok-here.here) (λ i. let q = c.renumbered-numbers.ensures i in record { firsts = r.firsts; next = r.next; made = q.made; depth = q.depth; gone = r.gone }) c.in_ok-here.ensures in
    IfOk-weaker c.go-at.result _ _ (λ at h. h.place) (c.go-at.ensures p x r begins)
