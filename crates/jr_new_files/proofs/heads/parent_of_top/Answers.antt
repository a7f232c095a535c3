use Rattle.std.proofs.Common.{◌≡◌, Option, None, refl, sym, ap, subst, ◌∙◌}
use Rattle.std.proofs.lemmas.Result.{IfOk-weaker}
use Rattle.std.specs.Prelude.{option_map}
use Rattle.jr_text.specs.declared.spans.Span.{Span}
use Rattle.jr_ast.specs.Tree as tree
use Rattle.jr_ast.specs.View.{word_of, type_of, type_kind}
use Rattle.jr_new_bodies.specs.OutputView.{gathered}
use Rattle.jr_new_bodies.proofs.Joining.{gathers_none}
use Rattle.jr_new_files.specs.Walking.{rows_of, mapping_of}
use Rattle.jr_new_files.specs.Ready.{TopReady}
use Rattle.jr_new_files.specs.PartEffects.{TopParentGathers}
use Rattle.jr_new_files.proofs.Giving.{top_named}
use Rattle.jr_new_files.proofs.Finding.{top_alone}
use Rattle.jr_new_files.proofs.heads.parent_of_top.Goals as goal

pub top_name-requires : goal.top_name-requires
top_name-requires c =
    let w = c.args.of.now in
    let m = c.args.ty.now.mark in
    let ready = subst (λ (t : tree.TypeName Span). TopReady (rows_of w) t) (ap (type_kind m) c.in-Named.is) c.requires.ready in
    record { walked = c.requires.walked; ready = (top_alone (rows_of w) m (option_map word_of c.in-Named._outer) (word_of c.in-Named.name) ready).1 }

pub returns-in-Named : goal.returns-in-Named
returns-in-Named c =
    let w = c.args.of.now in
    let m = c.args.ty.now.mark in
    let old = gathered c.args.out.now in
    let new = gathered c.top_name.new.out in
    let v = word_of c.in-Named.name in
    let ready = subst (λ (t : tree.TypeName Span). TopReady (rows_of w) t) (ap (type_kind m) c.in-Named.is) c.requires.ready in
    let whole : type_of c.args.ty.now ≡ tree.named m None v =
    ap (type_kind m) c.in-Named.is ∙ ap (λ (o : Option (tree.Word Span)). tree.named m o v) (top_alone (rows_of w) m (option_map word_of c.in-Named._outer) v ready).0 in
    IfOk-weaker c.top_name.result _ _ (λ _ x. subst (λ (t : tree.TypeName Span). TopParentGathers (rows_of w) (mapping_of w) c.args.at t old new) (sym whole) (top_named (rows_of w) (mapping_of w) c.args.at m v old new x)) c.top_name.ensures

pub returns-in-Int : goal.returns-in-Int
returns-in-Int c =
    let w = c.args.of.now in
    let m = c.args.ty.now.mark in
    let old = gathered c.args.out.now in
    subst (λ (t : tree.TypeName Span). TopParentGathers (rows_of w) (mapping_of w) c.args.at t old old) (sym (ap (type_kind m) c.in-Int.is)) (λ s. gathers_none (tree.int m) old)

pub returns-in-Boolean : goal.returns-in-Boolean
returns-in-Boolean c =
    let w = c.args.of.now in
    let m = c.args.ty.now.mark in
    let old = gathered c.args.out.now in
    subst (λ (t : tree.TypeName Span). TopParentGathers (rows_of w) (mapping_of w) c.args.at t old old) (sym (ap (type_kind m) c.in-Boolean.is)) (λ s. gathers_none (tree.boolean m) old)
