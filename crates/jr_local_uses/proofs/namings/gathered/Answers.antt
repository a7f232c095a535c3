use Rattle.std.proofs.Common.{ℕ, ◌+◌, ◌<◌, ◌^◌, Some, List, map, subst}
use Rattle.std.specs.Prelude.{slice_get, ◌≡◌}
use Rattle.std.proofs.lemmas.Result.{IfOk-weaker}
use Rattle.jr_ast.specs.View.{stmts_of}
use Rattle.jr_local_search.specs.Namings as search
use Rattle.jr_local_search.specs.NamingView.{naming_of}
use Rattle.jr_local_uses.proofs.namings.gathered.Goals as goal

pub returns : goal.returns
returns c =
    let size = c.args.size in
    let b = stmts_of c.args.list.now in
    IfOk-weaker c.namings.result _ _ (λ v h. record {
      fit = subst (λ (ns : List ℕ). (i n : ℕ) → slice_get ns i ≡ Some n → n + size < 2 ^ 32) c.as_slice.ensures.value c.in_ok-all_fit.ensures;
      are = subst (λ (ns : List ℕ). search.AreNamings ns size b (map naming_of v.items)) c.as_slice-2.ensures.value h;
    }) c.namings.ensures
