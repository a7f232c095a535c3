use Rattle.std.specs.Prelude.{◌≡◌, ◌&&◌}
use Rattle.std.proofs.lemmas.Bool.Decides.{Decides-and, not_from_Decides}
use Rattle.jr_table.specs.KeyView.{method_key_of}
use Rattle.jr_mentions.specs.Apart.{MethodsApart, AreAmong}
use Rattle.jr_mentions.specs.ApartView.{names_in, Adds}
use Rattle.jr_mentions.specs.Settling.{Settles, RulesOut}
use Rattle.jr_mentions.specs.RowSteps.{MethodStep}
use Rattle.jr_mentions.proofs.RowTests.{some_to, both_hold}
use Rattle.jr_mentions.proofs.Settling.{none_to, method_differs}
use Rattle.jr_mentions.proofs.rows.methods_apart.Goals as goal

pub returns-then-same-clause-some : goal.returns-then-same-clause-some
returns-then-same-clause-some c =
    let names = names_in c.args.apart.now in
    let j = method_key_of c.args.key.now in
    let k = method_key_of c.args.other.now in
    let same = both_hold c.eq.result c.eq-2.result c.eq.ensures c.eq-2.ensures c.if-same.true in
    some_to (λ a. Adds names (names_in a) j.name k.name) (λ a. MethodStep names (names_in a) j k) c.adding.result
    (λ a h. (h.within, record { class = same.0; params = same.1; named = h.named })) c.adding.ensures.some

pub returns-then-same-clause-settles : goal.returns-then-same-clause-settles
returns-then-same-clause-settles c =
    let names = names_in c.args.apart.now in
    let j = method_key_of c.args.key.now in
    let k = method_key_of c.args.other.now in
    some_to (λ a. (j.name ≡ k.name → ⊥) → Settles names (names_in a) (λ ns. AreAmong ns j.name k.name)) (λ a. (j ≡ k → ⊥) → Settles names (names_in a) (λ ns. MethodsApart ns j k)) c.adding.result
    (λ a h differ x y allowed p. h (method_differs j k differ p.class p.params) x y allowed p.named) c.adding.ensures.settles

pub returns-then-same-clause-none : goal.returns-then-same-clause-none
returns-then-same-clause-none c =
    let names = names_in c.args.apart.now in
    let j = method_key_of c.args.key.now in
    let k = method_key_of c.args.other.now in
    none_to (RulesOut names (λ ns. AreAmong ns j.name k.name)) (RulesOut names (λ ns. MethodsApart ns j k)) c.adding.result
    (λ h x y allowed p. h x y allowed p.named) c.adding.ensures.none

pub returns-else-same-clause-none : goal.returns-else-same-clause-none
returns-else-same-clause-none c = λ x y allowed p.
    not_from_Decides (c.eq.result && c.eq-2.result) (Decides-and c.eq.result c.eq-2.result c.eq.ensures c.eq-2.ensures) c.if-same.false (p.class, p.params)
