use Rattle.std.proofs.Common.{[], ◌∷◌, ◌++◌, ap, sym, ◌∙◌}
use Rattle.jr_ast.specs.View.{expr_of}
use Rattle.jr_cover.specs.Ways.{size}
use Rattle.jr_expr_sites.specs.StepView.{given}
use Rattle.jr_expr_sites.specs.KnownFacts.{Others, known_of}
use Rattle.jr_expr_sites.specs.Routes.{spots}
use Rattle.jr_expr_sites.specs.Routes as route
use Rattle.jr_expr_sites.proofs.Walking.{on_ok_then}
use Rattle.jr_piece_sites.specs.Fronts.{in_front_of_second}
use Rattle.jr_piece_sites.specs.Parts as parts
use Rattle.jr_piece_sites.specs.PartsView.{parts_view}
use Rattle.jr_piece_sites.proofs.Counting as counting
use Rattle.jr_piece_sites.proofs.ExprKinds as kind
use Rattle.jr_piece_sites.proofs.fronts.put_read.Goals as goal

pub operand-requires : goal.operand-requires
operand-requires g c = record { fits = c.requires.fits }

pub returns-in-Named : goal.returns-in-Named
returns-in-Named g c =
    let T = g.A.Mark.span_from in
    let G = given g.F.Facts.decls g.F.Facts.types c.args.here.now in
    let path = c.args.path.now.steps.items in
    let old = c.args.out.now.items in
    let e = expr_of c.args.to.now in
    let new = c.operand.new.out.items in
    let is = sym c.parts_of.ensures ∙ ap parts_view c.in-Named.is in
    let w = λ (o : Others). size (route.exp T (path ++ 0 ∷ []) c.args.at e G o) in
    on_ok_then c.operand.result (λ h. counting.grows_as G w (λ o. in_front_of_second (known_of G o) parts.changed (spots T (path ++ 0 ∷ []) c.args.at e)) old new
    (λ o. sym (kind.read_spots T G o (path ++ 0 ∷ []) c.args.at e ∙ ap (kind.read_by T G o (path ++ 0 ∷ []) c.args.at (w o)) is)) (counting.walk_grows G (route.exp T (path ++ 0 ∷ []) c.args.at e) old new h)) c.operand.ensures

pub operand-requires-in-Dotted : goal.operand-requires-in-Dotted
operand-requires-in-Dotted g c = record { fits = c.requires.fits }

pub returns-in-Dotted : goal.returns-in-Dotted
returns-in-Dotted g c =
    let T = g.A.Mark.span_from in
    let G = given g.F.Facts.decls g.F.Facts.types c.args.here.now in
    let path = c.args.path.now.steps.items in
    let old = c.args.out.now.items in
    let e = expr_of c.args.to.now in
    let new = c.operand-in-Dotted.new.out.items in
    let is = sym c.parts_of.ensures ∙ ap parts_view c.in-Dotted.is in
    let w = λ (o : Others). size (route.exp T (path ++ 0 ∷ []) c.args.at e G o) in
    on_ok_then c.operand-in-Dotted.result (λ h. counting.grows_as G w (λ o. in_front_of_second (known_of G o) parts.changed (spots T (path ++ 0 ∷ []) c.args.at e)) old new
    (λ o. sym (kind.read_spots T G o (path ++ 0 ∷ []) c.args.at e ∙ ap (kind.read_by T G o (path ++ 0 ∷ []) c.args.at (w o)) is)) (counting.walk_grows G (route.exp T (path ++ 0 ∷ []) c.args.at e) old new h)) c.operand-in-Dotted.ensures

pub returns-in-Leaf : goal.returns-in-Leaf
returns-in-Leaf g c =
    let T = g.A.Mark.span_from in
    let G = given g.F.Facts.decls g.F.Facts.types c.args.here.now in
    let path = c.args.path.now.steps.items in
    let old = c.args.out.now.items in
    let e = expr_of c.args.to.now in
    let is = sym c.parts_of.ensures ∙ ap parts_view c.in-Leaf.is in
    counting.grows_as G (λ o. 0) (λ o. in_front_of_second (known_of G o) parts.changed (spots T (path ++ 0 ∷ []) c.args.at e)) old old
    (λ o. sym (kind.read_spots T G o (path ++ 0 ∷ []) c.args.at e ∙ ap (kind.read_by T G o (path ++ 0 ∷ []) c.args.at (size (route.exp T (path ++ 0 ∷ []) c.args.at e G o))) is)) (counting.stays G old)

pub returns-in-One : goal.returns-in-One
returns-in-One g c =
    let T = g.A.Mark.span_from in
    let G = given g.F.Facts.decls g.F.Facts.types c.args.here.now in
    let path = c.args.path.now.steps.items in
    let old = c.args.out.now.items in
    let e = expr_of c.args.to.now in
    let is = sym c.parts_of.ensures ∙ ap parts_view c.in-One.is in
    counting.grows_as G (λ o. 0) (λ o. in_front_of_second (known_of G o) parts.changed (spots T (path ++ 0 ∷ []) c.args.at e)) old old
    (λ o. sym (kind.read_spots T G o (path ++ 0 ∷ []) c.args.at e ∙ ap (kind.read_by T G o (path ++ 0 ∷ []) c.args.at (size (route.exp T (path ++ 0 ∷ []) c.args.at e G o))) is)) (counting.stays G old)

pub returns-in-Two : goal.returns-in-Two
returns-in-Two g c =
    let T = g.A.Mark.span_from in
    let G = given g.F.Facts.decls g.F.Facts.types c.args.here.now in
    let path = c.args.path.now.steps.items in
    let old = c.args.out.now.items in
    let e = expr_of c.args.to.now in
    let is = sym c.parts_of.ensures ∙ ap parts_view c.in-Two.is in
    counting.grows_as G (λ o. 0) (λ o. in_front_of_second (known_of G o) parts.changed (spots T (path ++ 0 ∷ []) c.args.at e)) old old
    (λ o. sym (kind.read_spots T G o (path ++ 0 ∷ []) c.args.at e ∙ ap (kind.read_by T G o (path ++ 0 ∷ []) c.args.at (size (route.exp T (path ++ 0 ∷ []) c.args.at e G o))) is)) (counting.stays G old)

pub returns-in-Row : goal.returns-in-Row
returns-in-Row g c =
    let T = g.A.Mark.span_from in
    let G = given g.F.Facts.decls g.F.Facts.types c.args.here.now in
    let path = c.args.path.now.steps.items in
    let old = c.args.out.now.items in
    let e = expr_of c.args.to.now in
    let is = sym c.parts_of.ensures ∙ ap parts_view c.in-Row.is in
    counting.grows_as G (λ o. 0) (λ o. in_front_of_second (known_of G o) parts.changed (spots T (path ++ 0 ∷ []) c.args.at e)) old old
    (λ o. sym (kind.read_spots T G o (path ++ 0 ∷ []) c.args.at e ∙ ap (kind.read_by T G o (path ++ 0 ∷ []) c.args.at (size (route.exp T (path ++ 0 ∷ []) c.args.at e G o))) is)) (counting.stays G old)

pub returns-in-On : goal.returns-in-On
returns-in-On g c =
    let T = g.A.Mark.span_from in
    let G = given g.F.Facts.decls g.F.Facts.types c.args.here.now in
    let path = c.args.path.now.steps.items in
    let old = c.args.out.now.items in
    let e = expr_of c.args.to.now in
    let is = sym c.parts_of.ensures ∙ ap parts_view c.in-On.is in
    counting.grows_as G (λ o. 0) (λ o. in_front_of_second (known_of G o) parts.changed (spots T (path ++ 0 ∷ []) c.args.at e)) old old
    (λ o. sym (kind.read_spots T G o (path ++ 0 ∷ []) c.args.at e ∙ ap (kind.read_by T G o (path ++ 0 ∷ []) c.args.at (size (route.exp T (path ++ 0 ∷ []) c.args.at e G o))) is)) (counting.stays G old)
