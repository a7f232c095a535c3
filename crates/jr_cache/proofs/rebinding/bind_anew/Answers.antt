use Rattle.std.proofs.Common.{List, [], ◌∷◌, ◌++◌, map, subst, sym}
use Rattle.std.specs.List.{AllZip}
use Rattle.std.proofs.lemmas.Result.{on_ok_weaker}
use Rattle.jr_members.specs.PartView.{written_of}
use Rattle.jr_program.specs.Members.{CanBind, EachOf, IsEachBound}
use Rattle.jr_cache.proofs.rebinding.bind_anew.Goals as goal

-- the last of those that stand beside one alone
only_one : {A B : Type 0} (P : A → B → Type 0) (a : A) (front : List B) (b : B) → AllZip P (a ∷ []) (front ++ b ∷ []) → P a b
only_one P a [] b zip = zip.0
only_one P a (x ∷ []) b zip = absurd zip.1
only_one P a (x ∷ y ∷ ys) b zip = absurd zip.1

pub bind_members-requires : goal.bind_members-requires
bind_members-requires g c = subst (λ ws. EachOf (CanBind c.args.table.now c.args.tokens.now) (map written_of ws)) (sym c.from_ref.ensures.value) (c.requires.can, tt)

pub returns-clause-puts : goal.returns-clause-puts
returns-clause-puts g c =
    let each : AllZip (IsEachBound c.args.table.now c.args.tokens.now) (written_of c.args.member.now ∷ []) c.in_ok-one.one.items = subst (λ ws. AllZip (IsEachBound c.args.table.now c.args.tokens.now) (map written_of ws) c.in_ok-one.one.items) c.from_ref.ensures.value c.in_ok-one.ensures.each in
    let bound = only_one (IsEachBound c.args.table.now c.args.tokens.now) (written_of c.args.member.now) c.pop.new.self.items c.in-Some.bound (subst (AllZip (IsEachBound c.args.table.now c.args.tokens.now) (written_of c.args.member.now ∷ [])) c.in-Some.ensures.items each) in
    on_ok_weaker c.put.result (λ is. (c.in-Some.bound, bound, is)) c.put.ensures.bounds
