use Rattle.std.proofs.Common.{sym, ap, ◌∙◌}
use Rattle.std.specs.Prelude.{option_map}
use Rattle.std.proofs.lemmas.Result.{IfOk-weaker}
use Rattle.jr_members.specs.PartView.{part_of}
use Rattle.jr_bodies.specs.CodeView.{code_of as seen}
use Rattle.jr_local_asked.specs.DeclaredView.{declared_of}
use Rattle.jr_local_asked.proofs.Declares.{without_code, with_code}
use Rattle.jr_local_asked.proofs.declarations.in_part.Goals as goal

pub returns-in-None : goal.returns-in-None
returns-in-None c = without_code c.args.member c.args.local (part_of c.args.part.now) (sym c.in_ok-code.ensures ∙ ap (option_map seen) c.in-None.is)

pub returns-in-Some : goal.returns-in-Some
returns-in-Some c =
    IfOk-weaker c.in_code.result _ _ (λ o h. with_code c.args.member c.args.local (part_of c.args.part.now) (seen c.in-Some.code) (sym c.in_ok-code.ensures ∙ ap (option_map seen) c.in-Some.is) (option_map declared_of o) h) c.in_code.ensures
