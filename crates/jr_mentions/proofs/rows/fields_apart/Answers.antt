use Rattle.std.specs.Prelude.{◌≡◌}
use Rattle.std.proofs.lemmas.Bool.Decides.{not_from_Decides}
use Rattle.jr_table.specs.KeyView.{field_key_of}
use Rattle.jr_mentions.specs.Apart.{FieldsApart, AreAmong}
use Rattle.jr_mentions.specs.ApartView.{names_in, Adds}
use Rattle.jr_mentions.specs.Settling.{Settles, RulesOut}
use Rattle.jr_mentions.specs.RowSteps.{FieldStep}
use Rattle.jr_mentions.proofs.RowTests.{some_to}
use Rattle.jr_mentions.proofs.Settling.{none_to, field_differs}
use Rattle.jr_mentions.proofs.rows.fields_apart.Goals as goal

pub returns-then-same-clause-some : goal.returns-then-same-clause-some
returns-then-same-clause-some c =
    let names = names_in c.args.apart.now in
    let j = field_key_of c.args.key.now in
    let k = field_key_of c.args.other.now in
    some_to (λ a. Adds names (names_in a) j.name k.name) (λ a. FieldStep names (names_in a) j k) c.adding.result
    (λ a h. (h.within, record { class = c.eq-same.ensures.0 c.if-same.true; named = h.named })) c.adding.ensures.some

pub returns-then-same-clause-settles : goal.returns-then-same-clause-settles
returns-then-same-clause-settles c =
    let names = names_in c.args.apart.now in
    let j = field_key_of c.args.key.now in
    let k = field_key_of c.args.other.now in
    some_to (λ a. (j.name ≡ k.name → ⊥) → Settles names (names_in a) (λ ns. AreAmong ns j.name k.name)) (λ a. (j ≡ k → ⊥) → Settles names (names_in a) (λ ns. FieldsApart ns j k)) c.adding.result
    (λ a h differ x y allowed p. h (field_differs j k differ p.class) x y allowed p.named) c.adding.ensures.settles

pub returns-then-same-clause-none : goal.returns-then-same-clause-none
returns-then-same-clause-none c =
    let names = names_in c.args.apart.now in
    let j = field_key_of c.args.key.now in
    let k = field_key_of c.args.other.now in
    none_to (RulesOut names (λ ns. AreAmong ns j.name k.name)) (RulesOut names (λ ns. FieldsApart ns j k)) c.adding.result
    (λ h x y allowed p. h x y allowed p.named) c.adding.ensures.none

pub returns-else-same-clause-none : goal.returns-else-same-clause-none
returns-else-same-clause-none c = λ x y allowed p. not_from_Decides c.eq-same.result c.eq-same.ensures c.if-same.false p.class
