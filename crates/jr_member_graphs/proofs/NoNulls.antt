-- What is never null in a member comes to no null in its runs.
use Rattle.std.proofs.Common.{◌≡◌, ◌⊎◌, ℕ, suc, ◌+◌, ◌<◌, Bool, true, List, [], length, Option, Some, None, subst, inl, inr}
use Rattle.jr_text.specs.declared.spans.Span.{Span}
use Rattle.jr_ast.specs.Tree as tree
use Rattle.jr_ast.specs.StatementTree as statement
use Rattle.jr_ast.specs.MemberTree as declared
use Rattle.jr_code.specs.RunKeys.{RunKeys}
use Rattle.jr_cover.specs.NeverNullMembers.{IsBound, LocalsAre, HasBody, ComesToNoNull, ArgsAssign, StmtsAssign, StmtsDeclare}
use Rattle.jr_cover.specs.Sites.{Known}
use Rattle.jr_cover.specs.Spots.{Spot, spot_params, spot_args, spot_stmts, spot_member, spot_class, spot_members, result_count, args_count}
use Rattle.jr_cover.specs.Translation.{exp_code}
use Rattle.jr_cover.specs.NeverNullTrees.{NeverNull}
use Rattle.jr_cover.proofs.NeverNullMembers.{never_null_gives_no_null, initializers_give_no_null}
use Rattle.jr_never_null.specs.Flags.{init_of}
use Rattle.jr_expr_sites.specs.KnownFacts.{Given, Others, known_of}
use Rattle.jr_expr_sites.specs.Routes.{begins_by, ends_by}
use Rattle.jr_cfg.specs.MemberRoutes.{NumbersMember}
use Rattle.jr_member_graphs.specs.MemberLocals.{body_inits, NeverNullIn}
use Rattle.jr_member_graphs.specs.NeverNullRuns.{Run, AllBound, NoNullInRuns}
use Rattle.jr_member_graphs.specs.OwnFlags.{spotted}
use Rattle.jr_member_graphs.proofs.NumberedLocals.{of_parameter, of_local, params_length}

module _ (X : Known RunKeys Spot) (ps : List (declared.Param Spot)) (args : Option (tree.Exps Spot)) (body : statement.Stmts Spot) where
  abbrev begins : ℕ → Option (tree.Exp Spot)
  begins = init_of (body_inits ps body)

  -- in a method or constructor
  no_null : (is_assigned : ℕ → Bool) → ((n : ℕ) → ArgsAssign X n args ⊎ StmtsAssign X n body → is_assigned n ≡ true) → ((n : ℕ) (e : tree.Exp Spot) → StmtsDeclare X.facts n e body → begins n ≡ Some e)
      → ((n : ℕ) (e : tree.Exp Spot) → begins n ≡ Some e → IsBound X.facts e) → (e : tree.Exp Spot) → NeverNull X.facts begins is_assigned e → IsBound X.facts e
      → (r : Run) → HasBody X.facts args body r.code → r.code.params ≡ length ps → ComesToNoNull r.program r.me r.code r.arguments (exp_code X.facts e)
  no_null is_assigned assigns declares bound e never is_bound r has count =
      let locals : LocalsAre X begins is_assigned r.code.params args body = record {
        declares = declares;
        assigns = assigns;
        parameters = λ n lt. of_parameter ps body n (subst (λ (k : ℕ). n < k) count lt);
        bound = bound;
      } in
      never_null_gives_no_null r.program r.sound X begins is_assigned args body r.code has locals r.declaring r.types r.answer r.typed e never is_bound r.me r.arguments r.receiver r.fits

pub no_null_in_runs : {A : Type 0} (tells : A → ℕ → Span) (g : Given) (o : Others) (base : ℕ) (m : declared.Member A) → NumbersMember tells base m o → AllBound (known_of g o) (spotted tells base m)
    → (e : tree.Exp Spot) → NeverNullIn (known_of g o) (spotted tells base m) e → IsBound (known_of g o).facts e → NoNullInRuns (known_of g o) (spotted tells base m) e
unfolding spot_member spot_class spot_members
no_null_in_runs tells g o base (declared.field m mods t w init) numbers bound e h is_bound r run =
    initializers_give_no_null r.program r.sound (known_of g o).facts h.is_assigned r.code r.declaring r.types r.answer r.typed e h.never_null is_bound r.me r.arguments r.receiver r.fits
no_null_in_runs tells g o base (declared.method m mods t w ps body) numbers bound e h is_bound r run =
    let B = begins_by tells in
    let E = ends_by tells in
    let at = B m base in
    let first = suc (length mods + result_count B E t) in
    no_null (known_of g o) (spot_params B E ps at [] first) None (spot_stmts B E body at [] (first + length ps)) h.is_assigned (λ n a. alone n a)
    (λ n x d. of_local B E (known_of g o).facts (spot_params B E ps at [] first) (length ps) body at [] (first + length ps) (params_length B E ps at [] first) numbers n x d) bound e h.never_null is_bound r run.0 run.1
  where
    alone : (n : ℕ) → (⊥ ⊎ StmtsAssign (known_of g o) n (spot_stmts (begins_by tells) (ends_by tells) body (begins_by tells m base) [] (suc (length mods + result_count (begins_by tells) (ends_by tells) t) + length ps))) → h.is_assigned n ≡ true
    alone n (inl none) = absurd none
    alone n (inr a) = (h.tells n).1 a
no_null_in_runs tells g o base (declared.constructor m mods w ps args body) numbers bound e h is_bound r run =
    let B = begins_by tells in
    let E = ends_by tells in
    let at = B m base in
    let first = suc (length mods) in
    let next = first + length ps + args_count B E args in
    no_null (known_of g o) (spot_params B E ps at [] first) (spot_args B E args at [] (first + length ps)) (spot_stmts B E body at [] next) h.is_assigned (λ n a. (h.tells n).1 a)
    (λ n x d. of_local B E (known_of g o).facts (spot_params B E ps at [] first) (length ps) body at [] next (params_length B E ps at [] first) numbers n x d) bound e h.never_null is_bound r run.0 run.1
no_null_in_runs tells g o base (declared.inner m c) numbers bound e h is_bound r run = absurd run
