use Rattle.std.proofs.Common.{◌≡◌, ◌<◌, ◌≤◌, ◌+◌, ◌/◌, ◌%◌, ◌^◌, ◌++◌, [], ◌∷◌, decimal, ap, sym, subst, ◌∙◌, append_assoc, arith}
use Rattle.std.proofs.lemmas.Fmt.{decimal_step, decimal_digit}
use Rattle.jr_shelf.specs.Sink.{Puts}
use Rattle.jr_top.proofs.messages.+put_number.Goals as goal

pub returns-then-number-lt10 : goal.returns-then-number-lt10
returns-then-number-lt10 g t c = λ before faults_before bytes puts.
    let n = c.args.number in
    let below : n < 10 = omega arith in
    let same : n % 10 ≡ n = omega arith in
    let digit : (48 + n % 10) ∷ [] ≡ decimal n = ap (λ k. (48 + k) ∷ []) same ∙ sym (decimal_digit n below) in
    subst (λ more. Puts c.put_behind.result before (g.E.Sink.taken c.put_behind.new.errors) faults_before (g.E.Sink.faults c.put_behind.new.errors) (bytes ++ more)) digit (c.put_behind.ensures before faults_before bytes puts)

pub returns : goal.returns
returns g t c = λ before faults_before bytes puts.
    let n = c.args.number in
    let least : 10 ≤ n = omega arith in
    let small : n < 2 ^ 64 = omega (arith, c.ranges.number.fits) in
    let whole : (bytes ++ decimal (n / 10)) ++ ((48 + n % 10) ∷ []) ≡ bytes ++ decimal n =
    append_assoc bytes (decimal (n / 10)) ((48 + n % 10) ∷ []) ∙ ap (λ more. bytes ++ more) (sym (decimal_step n least small)) in
    subst (λ all. Puts c.put_behind-2.result before (g.E.Sink.taken c.put_behind-2.new.errors) faults_before (g.E.Sink.faults c.put_behind-2.new.errors) all) whole
    (c.put_behind-2.ensures before faults_before (bytes ++ decimal (n / 10)) (c.put_number-front.ensures before faults_before bytes puts))
