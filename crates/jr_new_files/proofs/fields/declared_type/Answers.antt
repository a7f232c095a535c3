use Rattle.std.proofs.Common.{false, sym, ap, subst}
use Rattle.jr_text.specs.declared.spans.Span.{Span}
use Rattle.jr_ast.specs.Tree as tree
use Rattle.jr_ast.specs.View.{type_kind}
use Rattle.jr_table.specs.HeadRules.{plain}
use Rattle.jr_new_bodies.specs.OutputView.{gathered}
use Rattle.jr_new_bodies.proofs.Joining.{gathers_none}
use Rattle.jr_new_files.specs.Walking.{key_of, rows_of, mapping_of}
use Rattle.jr_new_files.specs.PartEffects.{TypeGathers}
use Rattle.jr_new_files.proofs.fields.declared_type.Goals as goal

pub returns-in-Int : goal.returns-in-Int
returns-in-Int c =
    let w = c.args.of.now in
    let m = c.args.ty.now.mark in
    let old = gathered c.args.out.now in
    subst (λ (t : tree.TypeName Span). TypeGathers (rows_of w) (mapping_of w) (plain (key_of w) false) c.args.at t old old) (sym (ap (type_kind m) c.in-Int.is)) (λ s. gathers_none (tree.int m) old)

pub returns-in-Boolean : goal.returns-in-Boolean
returns-in-Boolean c =
    let w = c.args.of.now in
    let m = c.args.ty.now.mark in
    let old = gathered c.args.out.now in
    subst (λ (t : tree.TypeName Span). TypeGathers (rows_of w) (mapping_of w) (plain (key_of w) false) c.args.at t old old) (sym (ap (type_kind m) c.in-Boolean.is)) (λ s. gathers_none (tree.boolean m) old)

pub returns-in-Named : goal.returns-in-Named
returns-in-Named c = c.class_type.ensures
