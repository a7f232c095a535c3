use Rattle.std.proofs.Common.{sym, ◌∙◌}
use Rattle.std.proofs.lemmas.Result.{IfOk-weaker}
use Rattle.jr_table.specs.FoundView.{found_of}
use Rattle.jr_new_words.specs.Scopes.{rows_to, place_to}
use Rattle.jr_new_words.specs.Ways.{way_of, Finds}
use Rattle.jr_new_words.proofs.Kept.{moved}
use Rattle.jr_new_words.proofs.OneEach.{simple_finds, bare_finds}
use Rattle.jr_new_words.proofs.looking.look_up_after.Goals as goal

pub returns-then-is_simple : goal.returns-then-is_simple
returns-then-is_simple c =
    let s = c.args.scopes.now in
    let w = way_of c.args.way.now in
    IfOk-weaker c.variable_to.result _ _ (λ f h. simple_finds (rows_to s) (place_to s) w (sym c.is_simple.ensures ∙ c.if-is_simple.true) c.args.name.now c.args.args.now (found_of f) h) c.variable_to.ensures

pub returns-else-is_simple : goal.returns-else-is_simple
returns-else-is_simple c =
    let s = c.args.scopes.now in
    let w = way_of c.args.way.now in
    let name = c.args.name.now in
    let ts = c.args.args.now in
    IfOk-weaker c.look_up.result _ _ (λ f h. bare_finds (rows_to s) (place_to s) w (sym c.is_simple.ensures ∙ c.if-is_simple.false) name ts (found_of f) (moved s c.requires (λ R S. Finds R S w name ts (found_of f)) h)) c.look_up.ensures
