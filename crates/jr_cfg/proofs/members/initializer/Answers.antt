use Rattle.std.proofs.Common.{◌≡◌, ℕ, List, [], ◌∷◌, ◌++◌, Bool, ap, sym, subst, ◌∙◌}
use Rattle.jr_text.specs.declared.spans.Span.{Span}
use Rattle.jr_ast.specs.View.{expr_of}
use Rattle.jr_table.specs.Decls as decls
use Rattle.jr_table.specs.KeyView.{field_key_of, member_key_of}
use Rattle.jr_table.specs.TypeView.{class_key_of}
use Rattle.jr_cover.specs.Sites as sites
use Rattle.jr_expr_sites.specs.StepView.{given}
use Rattle.jr_expr_sites.specs.Routes.{Walked, begins_by, exp}
use Rattle.jr_expr_sites.specs.Routes as plain
use Rattle.jr_cfg.specs.MemberRoutes as route
use Rattle.jr_expr_sites.proofs.Walking.{on_ok_then, row_goes}
use Rattle.jr_cfg.proofs.members.initializer.Goals as goal

pub operand-requires : goal.operand-requires
operand-requires g c = record { fits = c.requires.fits }

pub returns-then-is_static : goal.returns-then-is_static
returns-then-is_static g c k is =
    let T = g.A.Mark.span_from in
    let G = given g.F.Facts.decls g.F.Facts.types c.args.here.now in
    let at = c.args.here.now.start in
    let old = c.args.out.now.items in
    let e = expr_of c.args.init.now in
    let new = c.operand.new.out.items in
    let word = begins_by T c.args.name.now.mark at in
    subst (λ (b : Bool). Walked G (route.initializer T b c.args.step at word k e) old new) (sym c.if-is_static.true)
    (subst (λ (p : List ℕ). Walked G (exp T (p ++ c.args.step ∷ []) at e) old new) c.top-path.ensures c.in_ok-operand.ensures)

pub returns-in-Field : goal.returns-in-Field
returns-in-Field g c k is =
    let T = g.A.Mark.span_from in
    let F = g.A.Mark.fits_at in
    let G = given g.F.Facts.decls g.F.Facts.types c.args.here.now in
    let at = c.args.here.now.start in
    let old = c.args.out.now.items in
    let e = expr_of c.args.init.now in
    let n = c.args.step in
    let word = begins_by T c.args.name.now.mark at in
    let mid = c.operand.new.out.items in
    let new = c.put_row.new.out.items in
    let first = subst (λ (p : List ℕ). Walked G (exp T (p ++ n ∷ []) at e) old mid) c.top-path.ensures c.in_ok-operand.ensures in
    let there : c.span.result.from ≡ word = ap (λ (z : Span). z.from) c.span.ensures in
    let named : decls.field (field_key_of c.in-Field.key) ≡ decls.field k = sym (ap member_key_of c.in-Field.is) ∙ is in
    let key : field_key_of c.in-Field.key ≡ k = cc in
    let site = subst (λ (X : Type 0). X) (λ i. Walked G (plain.done (sites.stores (key i)) (there i)) mid c.put_site.new.out.items) (c.in_ok-put_site-in-Field.ensures G) in
    on_ok_then c.put_row.result (λ h. subst (λ (b : Bool). Walked G (route.initializer T b n at word k e) old new) (sym c.if-is_static.false)
    (row_goes G (exp T (n ∷ []) at e) (plain.done (sites.stores k) word) old mid c.put_site.new.out.items new first site h)) (c.put_row.ensures G.member)

pub returns-in-Head : goal.returns-in-Head
returns-in-Head g c k is = let e : decls.head (class_key_of c.in-Head.field-0) ≡ decls.field k = sym (ap member_key_of c.in-Head.is) ∙ is in absurd cc

pub returns-in-Method : goal.returns-in-Method
returns-in-Method g c k is = let e = sym (ap member_key_of c.in-Method.is) ∙ is in absurd cc

pub returns : goal.returns
returns g c k is = let e = sym (ap member_key_of c.in-Ctor.is) ∙ is in absurd cc
