use Rattle.std.proofs.Common.{◌<◌, length, ◌+◌, sym, ap, subst, ◌∙◌}
use Rattle.jr_index.specs.Linked.{IsFirstFrom, first_of}
use Rattle.jr_table.specs.KeyView.{method_key_of}
use Rattle.jr_table.proofs.MemberWalk.{Walked, left, walk_starts, walk_goes_on, fewer_left, first_named, next_named}
use Rattle.jr_images.proofs.MethodWalks.{place_in, is_named, is_key, any_here, placed, not_found, tested}
use Rattle.jr_images.proofs.method_index.MethodIndex.has_under.Goals as goal

pub loop-at-init : goal.loop-at-init
loop-at-init c =
    let ds = c.args.decls.now in
    let x = c.args.self.now in
    let k = method_key_of c.args.key.now in
    let named = is_named x c.args.owner k.class.name in
    let first = first_named (place_in x.outers x.top) ds (length ds + 1) x.classes c.requires.finds.classes c.args.owner k.class.name in
    walk_starts named (is_key k) ds _ (subst (IsFirstFrom named ds 0) (sym (c.first-at.ensures ∙ ap (first_of x.classes c.args.owner) c.as_str.ensures)) first)

pub returns-in_default : goal.returns-in_default
returns-in_default c =
    let ds = c.args.decls.now in
    let x = c.args.self.now in
    let k = method_key_of c.args.key.now in
    sym (not_found ds x k c.args.owner c.requires.owner (subst (Walked (is_named x c.args.owner k.class.name) (is_key k) ds) c.in_default.is c.loop-at.invariant))

pub returns-then-is_at : goal.returns-then-is_at
returns-then-is_at c =
    let ds = c.args.decls.now in
    let x = c.args.self.now in
    let k = method_key_of c.args.key.now in
    let here = subst (Walked (is_named x c.args.owner k.class.name) (is_key k) ds) c.in-Some.is c.loop-at.invariant in
    let d = here.next.1.element in
    let passes = tested ds x k c.in-Some.number d c.is_at.result here.next.1.stands c.is_at.ensures ∙ c.if-is_at.true in
    sym (any_here (is_key k) ds c.in-Some.number d here.next.1.stands passes)

pub loop-at-smaller : goal.loop-at-smaller
loop-at-smaller c =
    let ds = c.args.decls.now in
    let x = c.args.self.now in
    let k = method_key_of c.args.key.now in
    let named = is_named x c.args.owner k.class.name in
    let here = subst (Walked named (is_key k) ds) c.in-Some.is c.loop-at.invariant in
    let next = next_named (place_in x.outers x.top) ds (length ds + 1) x.classes c.requires.finds.classes c.args.owner k.class.name c.in-Some.number here.next.1 in
    let follows = subst (IsFirstFrom named ds _) (sym c.next-at.ensures) next in
    subst (λ o. left ds c.next-at.result < left ds o) (sym c.in-Some.is) (fewer_left named (is_key k) ds here.from c.in-Some.number c.next-at.result here.next follows)

pub loop-at-preserved : goal.loop-at-preserved
loop-at-preserved c =
    let ds = c.args.decls.now in
    let x = c.args.self.now in
    let k = method_key_of c.args.key.now in
    let named = is_named x c.args.owner k.class.name in
    let here = subst (Walked named (is_key k) ds) c.in-Some.is c.loop-at.invariant in
    let d = here.next.1.element in
    let next = next_named (place_in x.outers x.top) ds (length ds + 1) x.classes c.requires.finds.classes c.args.owner k.class.name c.in-Some.number here.next.1 in
    let fails = tested ds x k c.in-Some.number d c.is_at.result here.next.1.stands c.is_at.ensures ∙ c.if-is_at.false in
    walk_goes_on named (is_key k) ds (placed ds x k c.args.owner c.requires.owner) c.in-Some.number d c.next-at.result here here.next.1.stands fails
    (subst (IsFirstFrom named ds _) (sym c.next-at.ensures) next)
