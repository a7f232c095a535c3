use Rattle.std.proofs.Common.{◌≡◌, ◌∙◌, ◌∷◌, ◌<◌, ap, arith, length, map, refl, rules, subst, sym}
use Rattle.std.proofs.lemmas.Bool.{false≢true}
use Rattle.std.proofs.lemmas.Result.{err_from_is_err_and}
use Rattle.jr_words.specs.Asked.{operand_of}
use Rattle.jr_words.specs.Words.{Differ, HaveOperands}
use Rattle.jr_words.proofs.RunLaws.{headed, is_run, made_operands, same_files, some_operands, some_same, widened}
use Rattle.jr_words.proofs.arguments.read_run.Goals as goal

pub returns-in_err-matches-clause-fault : goal.returns-in_err-matches-clause-fault
returns-in_err-matches-clause-fault c =
    let p = err_from_is_err_and c.from_residual.result c.from_residual.ensures.1 in
    rw (p.1, p.2) (widened _ c.requires _ c.in_err-matches.ensures.fault)

pub returns-then-is_empty-clause-fault : goal.returns-then-is_empty-clause-fault
returns-then-is_empty-clause-fault c = λ command mean.
    let (rest, begins, texts, values, some, have) = c.in_ok-matches.ensures.ok in
    let same = some_same _ _ (c.in-Some.ensures ∙ values) in
    let more = some_operands c.in_ok-operands.operands.items _ texts _ c.in_ok-operands.ensures same some in
    let none : length c.in_ok-operands.operands.items ≡ 0 = search rules in
    omega (arith, more, none)

pub returns-then-not-branch-clause-fault : goal.returns-then-not-branch-clause-fault
returns-then-not-branch-clause-fault c =
    let (rest, begins, texts, values, some, have) = c.in_ok-matches.ensures.ok in
    let same = some_same _ _ (c.in-Some.ensures ∙ values) in
    let more = some_operands c.in_ok-operands.operands.items _ texts _ c.in_ok-operands.ensures same some in
    let all = made_operands _ rest _ texts _ _ (map operand_of c.in_ok-operands.operands.items) begins have same c.option_place.ensures c.in_ok-operands.ensures in
    let first = headed c.in_ok-operands.operands.items c.remove-script.result c.remove-script.new.self.items more c.remove-script.ensures.value c.remove-script.ensures.items in
    same_files _ rest _ (operand_of c.remove-script.result) (map operand_of c.remove-script.new.self.items) begins (subst (HaveOperands rest _) first all)
    (λ differ. false≢true (sym c.if-not-branch.true ∙ c.in_ok-differ.ensures.1 (subst (λ os. Differ (map operand_of os)) (sym c.as_slice.ensures.value) differ)))

pub returns-clause-ok : goal.returns-clause-ok
returns-clause-ok c =
    let (rest, begins, texts, values, some, have) = c.in_ok-matches.ensures.ok in
    let same = some_same _ _ (c.in-Some.ensures ∙ values) in
    let more = some_operands c.in_ok-operands.operands.items _ texts _ c.in_ok-operands.ensures same some in
    let all = made_operands _ rest _ texts _ _ (map operand_of c.in_ok-operands.operands.items) begins have same c.option_place.ensures c.in_ok-operands.ensures in
    let first = headed c.in_ok-operands.operands.items c.remove-script.result c.remove-script.new.self.items more c.remove-script.ensures.value c.remove-script.ensures.items in
    let differ = subst (λ os. Differ (map operand_of os)) c.as_slice.ensures.value (c.in_ok-differ.ensures.0 c.if-not-branch.false) in
    is_run _ rest _ (operand_of c.remove-script.result) (map operand_of c.remove-script.new.self.items) begins c.requires.well_formed
    (subst (λ out. HaveOperands rest out (operand_of c.remove-script.result ∷ map operand_of c.remove-script.new.self.items)) (sym c.get_str.ensures) (subst (HaveOperands rest _) first all)) differ
