-- `int m(){x=f;x=2;return x;}`, of which the piece is `x=f;`: x isn't used behind it, so the program
-- that has `x=9;` there runs alike. The premises of the laws can be met.
use Rattle.std.proofs.Common.{◌≡◌, ◌<◌, ℕ, zero, suc, true, false, [], ◌∷◌, Option, Some, None, nat_eq, pos, refl, ap, subst, inl, inr, arith}
use Rattle.jr_ast.specs.Tree as tree
use Rattle.jr_ast.specs.StatementTree as statement
use Rattle.jr_runs.specs.Keys.{Keys, keys_of}
use Rattle.jr_runs.specs.Values.{Value, int, int_type}
use Rattle.jr_runs.specs.Actions.{plain}
use Rattle.jr_runs.specs.Rows.{Rows}
use Rattle.jr_cover.specs.Facts.{Variable, is_local, is_static_field}
use Rattle.jr_runs.specs.Core as core
use Rattle.jr_runs.specs.Core.{Exp, literal, read, assign, local, static_field, Stmt, eval, return, Stmts, Code, written, Program}
use Rattle.jr_runs.specs.KeyMaps.{same_keys}
use Rattle.jr_cover.specs.StatementTranslation.{stmts_code}
use Rattle.jr_runs.specs.Sets.{everything}
use Rattle.jr_runs.specs.Standing.{Standing, whole}
use Rattle.jr_runs.specs.Images.{NoSpot, ExpTo, to_literal, to_read, to_assign, to_local, to_static_field, StmtTo, to_eval, to_return, StmtsTo, to_no_more, to_list}
use Rattle.jr_runs.specs.Alike.{AlikeExactly}
use Rattle.jr_runs.proofs.Locals.{within_one}
use Rattle.jr_cover.specs.Ways.{Way, sites_of, Edge}
use Rattle.jr_cover.specs.Sites.{Site, Known, stmts_way}
use Rattle.jr_cover.proofs.FlowLaws.{In, flow_is}
use Rattle.jr_unused_locals.specs.Agreement.{Comes, reads_here, onward}
use Rattle.jr_unused_locals.specs.SiteLocals.{reads_at, writes_at}
use Rattle.jr_unused_locals.specs.Pieces.{nothing, joined, StmtsHold, holds_here, stmts_around, stmts_stands}
use Rattle.jr_unused_locals.specs.Unused.{IsUsed}
use Rattle.jr_unused_locals.specs.LaterWrites.{write_stmt, also_here, also_later, WritesUnused}
use Rattle.jr_unused_locals.proofs.Regrouped.{edges_are_in_or_round}
use Rattle.jr_unused_locals.proofs.LaterWrites.{unused_locals_play_no_part}

abbrev J : Keys
J = keys_of ℕ ℕ ℕ ℕ ℕ

-- the word with mark 0 is x, local 0; others are the static field f
abbrev meant : ℕ → Option (Variable J)
meant zero = Some (is_local 0)
meant (suc a) = Some (is_static_field 1)

abbrev X : Known J ℕ
X = record {
  facts = record {
    first = λ a. a;
    last = λ a. a;
    variable = meant;
    called = λ a. None;
    created = λ a. None;
    class = λ a. None;
    is_checked = λ a. false;
    number = λ a. a;
  };
  is_class = λ a. false;
  never_null = λ e. false;
}

abbrev rows : Rows J
rows = record {
  same_class = nat_eq;
  is_subclass = nat_eq;
  text_class = 1;
  class_class = 2;
  field_kind = λ f. plain;
  field_type = λ f. int_type;
  dispatch = λ c m. None;
  has_method = λ m. true;
  owner = λ m. None;
  params = λ m. [];
  result = λ m. Some int_type;
  has_constructor = λ k. false;
  constructor_class = λ k. 4;
  constructor_params = λ k. [];
}

-- ---- the trees, and their code

abbrev name : ℕ → tree.Exp ℕ
name a = tree.name a (record { mark = a; text = [] })

abbrev x_is : tree.Exp ℕ → statement.Stmt ℕ
x_is e = statement.eval 5 (tree.assign 5 (name 0) e)

abbrev piece : statement.Stmts ℕ
piece = statement.more (x_is (name 1)) statement.end

abbrev rest : statement.Stmts ℕ
rest = statement.more (x_is (tree.number 5 2)) (statement.more (statement.return 5 (Some (name 0))) statement.end)

abbrev code_of : statement.Stmts ℕ → Stmts J
code_of b = stmts_code X.facts b

abbrev put_x : Exp J → Stmt J
put_x e = eval (Some 5) (assign (Some 5) (local (Some 0) 0) e)

abbrev load_f : Exp J
load_f = read (Some 1) (static_field (Some 1) 1)

abbrev nine : Value J
nine = int (pos 9)

-- `x=f;x=9;x=2;return x;`
abbrev new_list : Stmts J
new_list = core.Stmts.more (put_x load_f) (core.Stmts.more (write_stmt None None None None 0 nine) (code_of rest))

abbrev old_code : Code J
old_code = record { params = 0; body = code_of (joined piece rest) }

abbrev new_code : Code J
new_code = record { params = 0; body = new_list }

abbrev P : Program J
P = record { rows = rows; method = λ m. written old_code; constructor = λ k. record { params = 0; body = core.Stmts.end } }

abbrev Q : Program J
Q = record { rows = rows; method = λ m. written new_code; constructor = λ k. record { params = 0; body = core.Stmts.end } }

-- ---- images: all locals agree

abbrev S : Standing J
S = whole 1 (λ i. i)

put_to : (e : Exp J) → ExpTo same_keys rows S.code everything e e everything → StmtTo same_keys rows (NoSpot {K = J}) S everything (put_x e) (put_x e) everything
put_to e d = to_eval everything everything (Some 5) (Some 5) (assign (Some 5) (local (Some 0) 0) e) (assign (Some 5) (local (Some 0) 0) e)
    (to_assign everything everything everything everything (Some 5) (Some 5) (local (Some 0) 0) (local (Some 0) 0) e e (to_local everything (Some 0) (Some 0) 0 (inl refl)) (λ h. h) d (within_one everything 0))

load_to : ExpTo same_keys rows S.code everything load_f load_f everything
load_to = to_read everything everything (Some 1) (Some 1) (static_field (Some 1) 1) (static_field (Some 1) 1) (to_static_field everything (Some 1) (Some 1) 1) tt

abbrev two : Value J
two = int (pos 2)

rest_to : StmtsTo same_keys rows (NoSpot {K = J}) S everything (code_of rest) (code_of rest) everything
rest_to = to_list everything everything everything (put_x (literal (Some 5) two)) (put_x (literal (Some 5) two)) _ _ (put_to (literal (Some 5) two) (to_literal everything (Some 5) (Some 5) two))
    (to_list everything everything everything (return (Some 5) (read (Some 0) (local (Some 0) 0))) (return (Some 5) (read (Some 0) (local (Some 0) 0))) core.Stmts.end core.Stmts.end
    (to_return everything everything everything (Some 5) (Some 5) (read (Some 0) (local (Some 0) 0)) (read (Some 0) (local (Some 0) 0)) (to_read everything everything (Some 0) (Some 0) (local (Some 0) 0) (local (Some 0) 0) (to_local everything (Some 0) (Some 0) 0 (inl refl)) refl))
    (to_no_more everything))

-- ---- x isn't used

abbrev here : StmtsHold X same_keys rows S piece rest new_list (joined piece rest) new_list
here = holds_here

abbrev way : Way (Site J)
way = stmts_around X same_keys rows S piece rest new_list here

abbrev ComesIn : ℕ → Type 0
ComesIn j = Comes (reads_at (sites_of way) 0) (writes_at (sites_of way) 0) (Edge 0 way) j

no_truth : false ≡ true → ⊥
no_truth e = cc

no_falsehood : true ≡ false → ⊥
no_falsehood e = cc

-- both writes stand before the read
never_one : ComesIn 1 → ⊥
never_one (reads_here j e) = no_truth e
never_one (onward j k w e c) = no_falsehood w

never_two : ComesIn 2 → ⊥
never_two (reads_here j e) = no_truth e
never_two (onward j k w e c) = no_falsehood w

abbrev pair : ℕ → ℕ → ℕ × ℕ
pair i j = (i, j)

-- load of f 0, write 1, write 2, read 3
from_edges : (i j : ℕ) → i < 2 → In (pair i j) (pair 0 1 ∷ pair 2 3 ∷ pair 1 2 ∷ []) → ComesIn j → ⊥
from_edges i j h (inl e) c = never_one (subst (λ n. ComesIn n) (ap (λ (p : ℕ × ℕ). p.1) e) c)
from_edges i j h (inr (inl e)) c = let k : i ≡ 2 = ap (λ (p : ℕ × ℕ). p.0) e in omega (arith, k, h)
from_edges i j h (inr (inr (inl e))) c = never_two (subst (λ n. ComesIn n) (ap (λ (p : ℕ × ℕ). p.1) e) c)
from_edges i j h (inr (inr (inr e))) c = e

unused : IsUsed X same_keys rows S piece rest new_list nothing here 0 → ⊥
unused u = from_edges u.from u.to u.in_piece.1 (((flow_is 0 way).edges u.from u.to).back ((edges_are_in_or_round way 0 (stmts_way X piece) (stmts_stands X same_keys rows S piece rest new_list here 0) u.from u.to).1 (inr u.round))) u.comes

-- ---- the programs

writes_nine : WritesUnused X rows old_code new_code
writes_nine = record {
  locals = 1;
  at = λ i. i;
  injective = λ i j a b e. e;
  same_params = refl;
  params_below = omega arith;
  params_stay = λ i h. refl;
  body = joined piece rest;
  piece = piece;
  rest = rest;
  old_is = refl;
  binds = ((tt, tt), ((tt, tt), (tt, tt)));
  no_return = ((tt, (tt, (tt, tt))), tt);
  has_sites = omega arith;
  new_list = new_list;
  holds = here;
  written_local = 0;
  is_local = omega arith;
  writes = also_later (x_is (name 1)) (put_x load_f) statement.end _ (everything, everything, put_to load_f load_to) (also_here None None None None nine (code_of rest) (everything, everything, rest_to));
  unused = unused;
}

pub example_is_alike : AlikeExactly same_keys P Q
example_is_alike = unused_locals_play_no_part X P Q record {
  same_class = λ c d. refl;
  is_subclass = λ c d. refl;
  text_class = refl;
  class_class = refl;
  field_kind = λ f. refl;
  field_type = λ f. refl;
  dispatch = λ c m h. refl;
  found = λ c m k h e. refl;
} (λ m h. inr writes_nine) (λ k h. absurd (no_truth h))
