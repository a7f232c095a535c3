use Rattle.std.proofs.Common.{suc, None, length, map, option_map, ap, sym, ◌∙◌}
use Rattle.jr_ast.specs.View.{expr_of, stmts_of, args_of, type_of, modifier_of, param_of}
use Rattle.jr_piece_sites.specs.Pieces as pure
use Rattle.jr_ast.specs.View.{member_kind, class_of, member_row}
use Rattle.jr_piece_sites.specs.Parts.{behind}
use Rattle.jr_piece_sites.proofs.pieces.member_part.Goals as goal

pub returns-in-Field : goal.returns-in-Field
unfolding member_kind class_of member_row
returns-in-Field g c =
    let m = c.args.of.now.mark in
    let at = c.in-Field in
    c.field_part.ensures ∙ (λ i. behind None (suc (suc (length (map modifier_of (c.deref.ensures.value i))))) (pure.maybe_at 0 (option_map expr_of at.init)) c.args.number)
    ∙ sym (ap (λ k. pure.member_part (member_kind m k) c.args.number) at.is)

pub returns-in-Method : goal.returns-in-Method
unfolding member_kind class_of member_row
returns-in-Method g c =
    let m = c.args.of.now.mark in
    let at = c.in-Method in
    c.method_part.ensures
    ∙ (λ i. behind None (pure.method_front (map modifier_of (c.deref-in-Method.ensures.value i)) (option_map type_of at.ret) (map param_of (c.deref-in-Method-2.ensures.value i))) (pure.nth_stmt (stmts_of (c.deref-in-Method-3.ensures.value i))) c.args.number)
    ∙ sym (ap (λ k. pure.member_part (member_kind m k) c.args.number) at.is)

pub returns-in-Ctor : goal.returns-in-Ctor
unfolding member_kind class_of member_row
returns-in-Ctor g c =
    let m = c.args.of.now.mark in
    let at = c.in-Ctor in
    c.constructor_part.ensures
    ∙ (λ i. behind None (pure.constructor_front (map modifier_of (c.deref-in-Ctor.ensures.value i)) (map param_of (c.deref-in-Ctor-2.ensures.value i))) (pure.in_constructor (args_of at.parent_args) (stmts_of (c.deref-in-Ctor-3.ensures.value i))) c.args.number)
    ∙ sym (ap (λ k. pure.member_part (member_kind m k) c.args.number) at.is)
