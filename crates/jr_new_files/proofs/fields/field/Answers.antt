use Rattle.std.proofs.Common.{◌≡◌, ℕ, ◌+◌, Bool, length, map, sym, ap, subst, ◌∙◌}
use Rattle.std.proofs.lemmas.List.{length-map}
use Rattle.std.proofs.lemmas.Result.{IfOk-weaker}
use Rattle.std.specs.Prelude.{option_map}
use Rattle.jr_ast.specs.View.{expr_of, modifier_of}
use Rattle.jr_table.specs.HeadRules.{plain, is_static_member}
use Rattle.jr_program_laws.specs.FileParts.{begins}
use Rattle.jr_new_bodies.specs.OutputView.{gathered}
use Rattle.jr_new_files.specs.Walking.{key_of, rows_of, mapping_of}
use Rattle.jr_new_files.specs.Ready.{InitReady}
use Rattle.jr_new_files.specs.PartEffects.{InitGathers}
use Rattle.jr_new_files.proofs.fields.field.Goals as goal

pub declared_type-requires : goal.declared_type-requires
declared_type-requires c = record { walked = c.requires.walked; ready = c.requires.ready.0 }

pub initializer-requires : goal.initializer-requires
initializer-requires c =
    let w = c.args.of.now in
    let init = option_map expr_of c.args.init.now in
    let step : c.in_ok-step.step ≡ length (map modifier_of c.args.modifiers.now) + 2 = c.in_ok-step.ensures ∙ ap (λ (n : ℕ). n + 2) (c.in_ok-before.ensures ∙ sym (length-map c.args.modifiers.now modifier_of)) in
    record {
      walked = c.requires.walked;
      ready = subst (λ (b : Bool). InitReady (rows_of w) w.bound.now w.from (plain (key_of w) b) c.in_ok-step.step c.args.at init) (sym c.is_static.ensures)
          (subst (λ (n : ℕ). InitReady (rows_of w) w.bound.now w.from (plain (key_of w) (is_static_member begins (map modifier_of c.args.modifiers.now))) n c.args.at init) (sym step) c.requires.ready.1);
    }

pub returns : goal.returns
returns c =
    let w = c.args.of.now in
    let init = option_map expr_of c.args.init.now in
    IfOk-weaker c.initializer.result _ _ (λ _ x. (
      gathered c.declared_type.new.out,
      gathered c.member_word.new.out,
      c.in_ok-declared_type.ensures,
      c.in_ok-member_word.ensures,
      subst (λ (b : Bool). InitGathers (rows_of w) (mapping_of w) (plain (key_of w) b) c.args.at init (gathered c.member_word.new.out) (gathered c.initializer.new.out)) c.is_static.ensures x,
    )) c.initializer.ensures
