-- How far a statement falls to what it holds, as it is dropped.
use Prim.Native.Nat.{max}
use Rattle.std.proofs.Common.{◌≡◌, ◌+◌, ◌<◌, ◌≤◌, ℕ, arith, subst, sym}
use denote.Hole.Carrier.{out}
use denote.Hole.Rolled.{depth, depth_falls}
use denote.Hole.Weighs.{depth-Weighs}
use denote.Param.Weighed.{max_none, none_max}
use Rattle.jr_ast.specs.declared.stmts.Stmt.{Stmt}
use Rattle.jr_ast.specs.declared.stmts.StmtKind.TheBlock as block

pub falls_to_kind : (A : Type 0) (s : Stmt A) → block.the_depth A block.member-StmtKind s.kind < block.the_depth A block.member-Stmt s
unfolding block.the_depth depth out
falls_to_kind A s =
    let whole = block.the_depth A block.member-Stmt s in
    let none_above : whole ≤ whole = omega arith in
    let parts : (block.the_depth A block.member-StmtKind s.kind < whole) × Unit {0} = depth_falls _ _ _ block.member-Stmt s whole none_above in
    parts.0

-- what a kind holds weighs less than any bound on its depth
pub holds_less : (A : Type 0) (kind form : block.the_data A) (bound : ℕ)
    → kind ≡ form
    → block.the_depth A block.member-StmtKind kind ≤ bound
    → (block.weighs-StmtKind A).weight (block.the_carrier A).T (block.the_depth A) (out _ _ (block.the_carrier A) block.member-StmtKind form) + 1 ≤ bound
unfolding block.the_depth
holds_less A kind form bound same least =
    let heavy = (block.weighs-StmtKind A).weight (block.the_carrier A).T (block.the_depth A) in
    subst (λ k. heavy (out _ _ (block.the_carrier A) block.member-StmtKind k) + 1 ≤ bound) same
    (subst (λ n. n ≤ bound) (depth-Weighs _ _ (block.the_carrier A) block.member-StmtKind (block.weighs-StmtKind A) kind) least)

pub only_falls : (part whole : ℕ) → max part 0 + 1 ≤ whole → part < whole
only_falls part whole least =
    let part_fits : part + 1 ≤ whole = subst (λ n. n + 1 ≤ whole) (max_none part) least in
    omega arith

pub last_falls : (part whole : ℕ) → max 0 (max part 0) + 1 ≤ whole → part < whole
last_falls part whole least = only_falls part whole (subst (λ n. n + 1 ≤ whole) (sym (none_max (max part 0))) least)
