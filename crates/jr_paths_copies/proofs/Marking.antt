-- Copies with other marks.
use Rattle.std.proofs.Common.{◌≡◌, ℕ, ◌+◌, ◌<◌, ◌≤◌, List, [], ◌∷◌, ◌++◌, length, get_or, take, map, refl, sym, ap, ◌∙◌}
use Rattle.std.proofs.lemmas.List.{take_more, take_all, map-append}
use Rattle.jr_ast.specs.declared.exprs.Expr.{Expr}
use Rattle.jr_ast.specs.declared.stmts.Stmt.{Stmt}
use Rattle.jr_ast.specs.declared.members.Member.{Member}
use Rattle.jr_ast.specs.Tree as tree
use Rattle.jr_ast.specs.StatementTree as statement
use Rattle.jr_ast.specs.MemberTree as member
use Rattle.jr_ast.specs.View.{expr_of, exprs_of, stmt_of, stmts_of, member_of, members_of}
use Rattle.jr_ast.specs.Remarked.{map_exp, map_exps, map_target, map_stmt, map_stmts, map_else, map_member, map_members, map_class}
use Rattle.jr_paths_copies.specs.Same.{Agree}

map-map : {X Y Z : Type 0} (f : Y → Z) (g : X → Y) (xs : List X) → map f (map g xs) ≡ map (λ x. f (g x)) xs
map-map f g [] = refl
map-map f g (x ∷ xs) = ap (λ l. f (g x) ∷ l) (map-map f g xs)

pub mark_agrees : {A B C : Type 0} {R : A → B → Type 0} {h : B → C} {k : A → C} {a : A} {b : B} → Agree R h k → R a b → h b ≡ k a
mark_agrees {a = a} {b = b} agree r = agree a b r

-- a copy x of d, kept in b
pub kept : {T U V : Type 0} (p : T → V) (q : U → V) {b x : T} {d y : U} → b ≡ x → p x ≡ q d → d ≡ y → p b ≡ q y
kept p q e f g = ap p e ∙ f ∙ ap q g

-- a list of copies, one more
module _ {X Y Z : Type 0} (p : X → Z) (q : Y → Z) where
  pub none_yet : (out : List X) (row : List Y) → out ≡ [] → map p out ≡ map q (take 0 row)
  none_yet out row e = ap (map p) e

  pub one_more : (out new : List X) (x : X) (row : List Y) (i : ℕ) (y : Y) → i < length row → y ≡ get_or row i y → new ≡ out ++ x ∷ [] → map p out ≡ map q (take i row) → p x ≡ q y
      → map p new ≡ map q (take (i + 1) row)
  one_more out new x row i y lt at is so_far same =
      ap (map p) is ∙ map-append p out (x ∷ []) ∙ (λ j. so_far j ++ (same j ∷ [])) ∙ sym (map-append q (take i row) (y ∷ [])) ∙ ap (map q) (sym (take_more row i y lt ∙ ap (λ z. take i row ++ z ∷ []) (sym at)))

  pub all_done : (out : List X) (row : List Y) (i : ℕ) → length row ≤ i → map p out ≡ map q (take i row) → map p out ≡ map q row
  all_done out row i ge so_far = so_far ∙ ap (map q) (take_all i row ge)

-- rows of copies, of each sort of tree
rows : {A : Type 0} → List (tree.Exp A) → tree.Exps A
rows [] = tree.end
rows (e ∷ es) = tree.more e (rows es)

map_exps-rows : {A B : Type 0} (h : A → B) (xs : List (Expr A)) → map_exps h (exprs_of xs) ≡ rows (map (λ x. map_exp h (expr_of x)) xs)
unfolding map_exp map_exps map_target rows
map_exps-rows h [] = refl
map_exps-rows h (x ∷ xs) = ap (tree.more (map_exp h (expr_of x))) (map_exps-rows h xs)

pub same_rows : {A B C : Type 0} (h : B → C) (k : A → C) (xs : List (Expr B)) (ys : List (Expr A)) → map (λ x. map_exp h (expr_of x)) xs ≡ map (λ x. map_exp k (expr_of x)) ys → map_exps h (exprs_of xs) ≡ map_exps k (exprs_of ys)
same_rows h k xs ys e = map_exps-rows h xs ∙ ap rows e ∙ sym (map_exps-rows k ys)

stmt_rows : {A : Type 0} → List (statement.Stmt A) → statement.Stmts A
stmt_rows [] = statement.end
stmt_rows (x ∷ xs) = statement.more x (stmt_rows xs)

map_stmts-rows : {A B : Type 0} (h : A → B) (xs : List (Stmt A)) → map_stmts h (stmts_of xs) ≡ stmt_rows (map (λ x. map_stmt h (stmt_of x)) xs)
unfolding map_stmt map_stmts map_else stmt_rows
map_stmts-rows h [] = refl
map_stmts-rows h (x ∷ xs) = ap (statement.more (map_stmt h (stmt_of x))) (map_stmts-rows h xs)

pub same_stmt_rows : {A B C : Type 0} (h : B → C) (k : A → C) (xs : List (Stmt B)) (ys : List (Stmt A)) → map (λ x. map_stmt h (stmt_of x)) xs ≡ map (λ x. map_stmt k (stmt_of x)) ys → map_stmts h (stmts_of xs) ≡ map_stmts k (stmts_of ys)
same_stmt_rows h k xs ys e = map_stmts-rows h xs ∙ ap stmt_rows e ∙ sym (map_stmts-rows k ys)

member_rows : {A : Type 0} → List (member.Member A) → member.Members A
member_rows [] = member.end
member_rows (x ∷ xs) = member.more x (member_rows xs)

map_members-rows : {A B : Type 0} (h : A → B) (xs : List (Member A)) → map_members h (members_of xs) ≡ member_rows (map (λ x. map_member h (member_of x)) xs)
unfolding map_member map_members map_class member_rows
map_members-rows h [] = refl
map_members-rows h (x ∷ xs) = ap (member.more (map_member h (member_of x))) (map_members-rows h xs)

pub same_member_rows : {A B C : Type 0} (h : B → C) (k : A → C) (xs : List (Member B)) (ys : List (Member A)) → map (λ x. map_member h (member_of x)) xs ≡ map (λ x. map_member k (member_of x)) ys
    → map_members h (members_of xs) ≡ map_members k (members_of ys)
same_member_rows h k xs ys e = map_members-rows h xs ∙ ap member_rows e ∙ sym (map_members-rows k ys)

pub same_maps : {X Y X' Y' Z : Type 0} (p : X' → Z) (u : X → X') (q : Y' → Z) (v : Y → Y') (xs : List X) (ys : List Y) → map (λ x. p (u x)) xs ≡ map (λ y. q (v y)) ys → map p (map u xs) ≡ map q (map v ys)
same_maps p u q v xs ys e = map-map p u xs ∙ e ∙ sym (map-map q v ys)
