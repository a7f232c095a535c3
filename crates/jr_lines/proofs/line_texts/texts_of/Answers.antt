use Rattle.std.proofs.Common.{◌≡◌, ◌++◌, ◌+◌, ◌∷◌, [], map, drop, sym, ap, ◌∙◌, append_assoc}
use Rattle.std.proofs.lemmas.List.{append-nil, drop_all, drop_more}
use Rattle.jr_lines.specs.Lines.{line_text}
use Rattle.jr_lines.specs.LineView.{line_of, lines_of}
use Rattle.jr_lines.proofs.line_texts.texts_of.Goals as goal

pub loop-line-init : goal.loop-line-init
loop-line-init c = ap (λ ts. ts ++ map line_text (lines_of c.args.lines.now)) c.new-texts.ensures.items

pub loop-line-preserved : goal.loop-line-preserved
loop-line-preserved c =
    let lines = c.args.lines.now in
    let i = c.loop-line.line-index in
    let texts = c.loop-line.texts.items in
    let rest = map line_text (lines_of (drop (i + 1) lines)) in
    ap (λ ts. ts ++ rest) (c.in_ok-push.ensures.items ∙ ap (λ t. texts ++ t ∷ []) c.in_ok-text.ensures) ∙ append_assoc texts _ rest
    ∙ ap (λ xs. texts ++ map line_text (lines_of xs)) (sym (drop_more lines i c.line-item.result c.loop-line-test.true ∙ ap (λ x. x ∷ drop (i + 1) lines) (sym c.line-item.is)))
    ∙ c.loop-line.invariant

pub returns : goal.returns
returns c =
    let lines = c.args.lines.now in
    let texts = c.loop-line.texts.items in
    sym (append-nil texts) ∙ ap (λ xs. texts ++ map line_text (lines_of xs)) (sym (drop_all c.loop-line.line-index lines c.loop-line-test.false)) ∙ c.loop-line.invariant
