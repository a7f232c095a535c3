use Rattle.std.proofs.Common.{◌≡◌, ◌+◌, ◌∷◌, ◌++◌, [], map, take, sym, ap, subst, ◌∙◌, arith}
use Rattle.std.specs.Prelude.{IsTrue}
use Rattle.std.specs.List.{AllZip}
use Rattle.std.proofs.lemmas.List.{length-map, take_more, take_all}
use Rattle.std.proofs.lemmas.Option.{get_or_from_slice_get}
use Rattle.jr_dependences.specs.Numbers.{IsNumbered}
use Rattle.jr_dependences.proofs.Alike.{zip_push, zip_count}
use Rattle.jr_dependences.proofs.Numbering.{is_row}
use Rattle.jr_dependences.proofs.Pointing.{item_at}
use Rattle.jr_dependences.proofs.numbers.numbered.Goals as goal

pub loop-n-init : goal.loop-n-init
loop-n-init g c =
    subst (λ l. AllZip (IsNumbered (λ x y. IsTrue (g.K.PartialEq.eq x y)) (λ x y. IsTrue (g.L.PartialEq.eq x y)) (map (λ s. s.now) c.args.sites.now)) [] l) (sym c.in_ok-row.ensures.items) tt

pub loop-n-preserved : goal.loop-n-preserved
loop-n-preserved g c =
    let sites = map (λ s. s.now) c.args.sites.now in
    let n = c.loop-n.n in
    let site = c.index-sites-n.result.now in
    let Numbered = IsNumbered (λ x y. IsTrue (g.K.PartialEq.eq x y)) (λ x y. IsTrue (g.L.PartialEq.eq x y)) sites in
    let at = item_at (λ s. s.now) c.args.sites.now n c.index-sites-n.result c.index-sites-n.result c.loop-n-test.true c.index-sites-n.is in
    let lt = c.loop-n-test.true in
    let count = length-map c.args.sites.now (λ s. s.now) in
    let more : take (n + 1) sites ≡ take n sites ++ site ∷ [] = take_more sites n site (omega (arith, lt, count)) ∙ ap (λ s. take n sites ++ s ∷ []) (get_or_from_slice_get sites n site site at) in
    subst (λ l. AllZip Numbered (take (n + 1) sites) l) (sym c.in_ok-push.ensures.items)
    (subst (λ l. AllZip Numbered l (c.loop-n.row.items ++ c.numbered_site.result ∷ [])) (sym more) (zip_push Numbered (take n sites) c.loop-n.row.items site c.numbered_site.result c.loop-n.invariant c.numbered_site.ensures))

pub returns-clause-count : goal.returns-clause-count
returns-clause-count g c =
    let sites = map (λ s. s.now) c.args.sites.now in
    let le = c.loop-n-test.false in
    let count = length-map c.args.sites.now (λ s. s.now) in
    zip_count (IsNumbered (λ x y. IsTrue (g.K.PartialEq.eq x y)) (λ x y. IsTrue (g.L.PartialEq.eq x y)) sites) sites c.loop-n.row.items
    (subst (λ l. AllZip (IsNumbered (λ x y. IsTrue (g.K.PartialEq.eq x y)) (λ x y. IsTrue (g.L.PartialEq.eq x y)) sites) l c.loop-n.row.items) (take_all c.loop-n.n sites (omega (arith, le, count))) c.loop-n.invariant) ∙ count

pub returns-clause-depend : goal.returns-clause-depend
returns-clause-depend g c =
    let sites = map (λ s. s.now) c.args.sites.now in
    let le = c.loop-n-test.false in
    let count = length-map c.args.sites.now (λ s. s.now) in
    is_row g.K.PartialEq.eq g.L.PartialEq.eq g.met.K.Eq.laws g.met.L.Eq.laws sites c.loop-n.row.items
    (subst (λ l. AllZip (IsNumbered (λ x y. IsTrue (g.K.PartialEq.eq x y)) (λ x y. IsTrue (g.L.PartialEq.eq x y)) sites) l c.loop-n.row.items) (take_all c.loop-n.n sites (omega (arith, le, count))) c.loop-n.invariant)
