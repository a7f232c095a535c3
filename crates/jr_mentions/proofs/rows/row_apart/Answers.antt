use Rattle.std.proofs.Common.{◌≡◌, [], ◌∷◌, sym, ◌∙◌}
use Rattle.std.proofs.lemmas.Bool.Decides.{not_from_Decides}
use Rattle.jr_table.specs.SameRows.{same_row, row_decides}
use Rattle.jr_table.specs.RowView.{row_of}
use Rattle.jr_mentions.specs.Apart.{DeclsApart, RowApart}
use Rattle.jr_mentions.specs.ApartView.{names_in}
use Rattle.jr_mentions.specs.Settling.{Settles, RulesOut}
use Rattle.jr_mentions.specs.RowSteps.{DeclStep, RowStep}
use Rattle.jr_mentions.proofs.RowTests.{some_to}
use Rattle.jr_mentions.proofs.Stepping.{itself, same_row_apart, other_row_apart}
use Rattle.jr_mentions.proofs.Settling.{none_to, row_rest, decls_of, decl_differs}
use Rattle.jr_mentions.proofs.rows.row_apart.Goals as goal

pub returns-then-eq-clause-some : goal.returns-then-eq-clause-some
returns-then-eq-clause-some c =
    let names = names_in c.args.apart.now in
    (itself names, same_row_apart names (row_of c.args.row.now) (row_of c.args.other.now) ((row_decides (row_of c.args.row.now) (row_of c.args.other.now)).0 (sym c.eq.ensures ∙ c.if-eq.true)))

pub returns-then-eq-clause-settles : goal.returns-then-eq-clause-settles
returns-then-eq-clause-settles c = λ x y allowed p. allowed

pub returns-then-same_rest-clause-some : goal.returns-then-same_rest-clause-some
returns-then-same_rest-clause-some c =
    let names = names_in c.args.apart.now in
    let r = row_of c.args.row.now in
    let s = row_of c.args.other.now in
    let rest = c.same_rest.ensures.0 c.if-same_rest.true in
    some_to (λ a. DeclStep names (names_in a) r.decl s.decl) (λ a. RowStep names (names_in a) r s) c.decls_apart.result (λ a h. other_row_apart names (names_in a) r s rest h) c.decls_apart.ensures.some

pub returns-then-same_rest-clause-settles : goal.returns-then-same_rest-clause-settles
returns-then-same_rest-clause-settles c =
    let names = names_in c.args.apart.now in
    let r = row_of c.args.row.now in
    let s = row_of c.args.other.now in
    let rest = c.same_rest.ensures.0 c.if-same_rest.true in
    let differ : r ≡ s → ⊥ = not_from_Decides (same_row r s) (row_decides r s) (sym c.eq.ensures ∙ c.if-eq.false) in
    some_to (λ a. (r.decl ≡ s.decl → ⊥) → Settles names (names_in a) (λ ns. DeclsApart ns r.decl s.decl)) (λ a. Settles names (names_in a) (λ ns. RowApart ns r s)) c.decls_apart.result
    (λ a h x y allowed p. h (decl_differs r s differ rest) x y allowed (decls_of (x ∷ y ∷ []) r s differ p)) c.decls_apart.ensures.settles

pub returns-then-same_rest-clause-none : goal.returns-then-same_rest-clause-none
returns-then-same_rest-clause-none c =
    let names = names_in c.args.apart.now in
    let r = row_of c.args.row.now in
    let s = row_of c.args.other.now in
    let differ : r ≡ s → ⊥ = not_from_Decides (same_row r s) (row_decides r s) (sym c.eq.ensures ∙ c.if-eq.false) in
    none_to (RulesOut names (λ ns. DeclsApart ns r.decl s.decl)) (RulesOut names (λ ns. RowApart ns r s)) c.decls_apart.result
    (λ h x y allowed p. h x y allowed (decls_of (x ∷ y ∷ []) r s differ p)) c.decls_apart.ensures.none

pub returns-else-same_rest-clause-none : goal.returns-else-same_rest-clause-none
returns-else-same_rest-clause-none c = λ x y allowed p.
    not_from_Decides c.same_rest.result c.same_rest.ensures c.if-same_rest.false (row_rest (x ∷ y ∷ []) (row_of c.args.row.now) (row_of c.args.other.now) p)
