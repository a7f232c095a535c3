-- Places of a rename stand as its region asks.
use Rattle.std.proofs.Common.{◌≡◌, ℕ, ◌+◌, List, Bool, true, false, refl, sym, ap, subst, ◌∙◌}
use Rattle.jr_text.specs.declared.spans.Span.{Span}
use Rattle.jr_ast.specs.StatementTree as statement
use Rattle.jr_ast.specs.MemberTree as syntax
use Rattle.jr_table.specs.Keys.{Ty}
use Rattle.jr_table.specs.Decls.{MemberKey, head, field, method, constructor}
use Rattle.jr_table.specs.Rows.{Row}
use Rattle.jr_table.specs.Context.{Context, scope_of, local_of, after, locals_in, locals_in_else, locals_in_row, WritesType}
use Rattle.jr_table.specs.HeadRules.{plain, with_parameters, is_static_member}
use Rattle.jr_table.specs.Prelude.{top_key}
use Rattle.jr_table.specs.DeclaredItems.{DeclaredItem}
use Rattle.jr_rewrite.specs.Rewritten.{Rewritten}
use Rattle.jr_rewrite.specs.Spots.{nowhere}
use Rattle.jr_rewrite.specs.Rewrites.{Choosing, RewritesParams, TransformsStmt, TransformsElse, TransformsStmts}
use Rattle.jr_images.specs.Images.{Renaming, type_to, member_to, rows_to}
use Rattle.jr_images.specs.Regions.{image_of_member, images_of, region_of}
use Rattle.jr_images.specs.Spelling.{choosing}
use Rattle.jr_images.specs.Standing.{ContextTo}
use Rattle.jr_images.proofs.World.{World}
use Rattle.jr_images.proofs.Sides.{local_written, written_local, own_more, after_to}
use Rattle.jr_images.proofs.Members.{plain_to, with_params_to}
use Rattle.jr_kept_references.specs.RegionPlaces.{Standing, AreStanding, AreBeginning, AreWalked}
use Rattle.jr_kept_references.proofs.Renamed.{same_type, stands_for}

-- without spots, no local comes or goes
module _ {A : Type 0} (tells : A → ℕ → Span) (C : Choosing A) where
  mutual
    unfolding TransformsStmt TransformsElse TransformsStmts locals_in locals_in_else locals_in_row

    same_locals : (n : ℕ) (c : Context) (b : ℕ) (x : statement.Stmt A) (q : Rewritten (statement.Stmt A)) → TransformsStmt tells C nowhere n c b x q → locals_in x ≡ locals_in q.tree
    same_locals n c b (statement.local m f t w e) q (p, v, y, types, declared, inner, is) = sym (ap (λ (z : Rewritten (statement.Stmt A)). locals_in z.tree) is)
    same_locals n c b (statement.eval m e) q (p, inner, is) = sym (ap (λ (z : Rewritten (statement.Stmt A)). locals_in z.tree) is)
    same_locals n c b (statement.branch m e x other) q (p, y, z, inner, one_side, other_side, is) =
        (λ i. same_locals n c _ x y one_side i + same_else (n + locals_in x) c _ other z other_side i) ∙ sym (ap (λ (z : Rewritten (statement.Stmt A)). locals_in z.tree) is)
    same_locals n c b (statement.loop m e x) q (p, y, inner, body, is) = same_locals n c _ x y body ∙ sym (ap (λ (z : Rewritten (statement.Stmt A)). locals_in z.tree) is)
    same_locals n c b (statement.return m e) q (p, inner, is) = sym (ap (λ (z : Rewritten (statement.Stmt A)). locals_in z.tree) is)
    same_locals n c b (statement.block m body) q (p, inner, is) = same_row n c _ body p inner ∙ sym (ap (λ (z : Rewritten (statement.Stmt A)). locals_in z.tree) is)
    same_locals n c b (statement.sync m e body) q (p, y, inner, rest, is) = same_row n c _ body y rest ∙ sym (ap (λ (z : Rewritten (statement.Stmt A)). locals_in z.tree) is)
    same_locals n c b (statement.empty m) q is = sym (ap (λ (z : Rewritten (statement.Stmt A)). locals_in z.tree) is)

    same_else : (n : ℕ) (c : Context) (b : ℕ) (x : statement.Else A) (q : Rewritten (statement.Else A)) → TransformsElse tells C nowhere n c b x q → locals_in_else x ≡ locals_in_else q.tree
    same_else n c b statement.no_else q is = sym (ap (λ (z : Rewritten (statement.Else A)). locals_in_else z.tree) is)
    same_else n c b (statement.otherwise x) q (p, inner, is) = same_locals n c b x p inner ∙ sym (ap (λ (z : Rewritten (statement.Else A)). locals_in_else z.tree) is)

    same_row : (n : ℕ) (c : Context) (b : ℕ) (xs : statement.Stmts A) (q : Rewritten (statement.Stmts A)) → TransformsStmts tells C nowhere n c b xs q → locals_in_row xs ≡ locals_in_row q.tree
    same_row n c b statement.end q is = sym (ap (λ (z : Rewritten (statement.Stmts A)). locals_in_row z.tree) is)
    same_row n c b (statement.more x xs) q (p, y, inner, rest, is) =
        (λ i. same_locals n c b x p inner i + same_row (n + locals_in x) (after n c x) b xs y rest i) ∙ sym (ap (λ (z : Rewritten (statement.Stmts A)). locals_in_row z.tree) is)

module _ {A : Type 0} (tells : A → ℕ → Span) (rows : List Row) (g : Renaming) (super_at : Context → ℕ) (worlds : (c d : Context) → ContextTo g rows c d → World A rows g c d) where
  -- the next locals have the same number, and all places stand for one another
  abbrev pub At : Standing A
  At = record {
    Known = ContextTo g rows;
    Lists = λ n z c d xs. (n ≡ z) × ContextTo g rows c d;
    Single = λ n z c d x. (n ≡ z) × ContextTo g rows c d;
    Classes = λ b outer x. Unit {0};
    Members = λ b of xs. Unit {0};
    Written = λ k b x. Unit {0};
  }

  abbrev Chosen : Choosing A
  Chosen = choosing (λ m b. (tells m b).from) rows (region_of rows g) super_at

  pub renamed_stand : AreStanding tells rows (region_of rows g) Chosen nowhere At
  renamed_stand = record {
    stand = λ c d at. stands_for rows g c d at;
    first = λ n z c d b x xs at stays. at;
    behind = λ n z c d b x xs q at stays made. (
      (λ i. at.0 i + same_locals tells Chosen n c b x q made.0 i),
      subst (λ (k : ℕ). ContextTo g rows (after n c x) (after k d q.tree)) at.0 (after_to tells rows g super_at worlds c d at.1 n b x q made.0 made.1),
    );
    known = λ n z c d x at. at.1;
    in_initializer = λ n z c d m f t u w v e at goes named. own_more g rows c d (local_of c n f t w) (local_of d z f u v) at.1 (record {
      named = named;
      key = λ i. record { member = at.1.member i; number = sym at.0 i };
      final = refl;
      init = refl;
      type = λ k typing. written_local (rows_to g rows) (scope_of d) u (type_to g k)
          (subst (λ (s : Ty). WritesType (rows_to g rows) (scope_of d) u s) (sym (same_type rows g k)) (goes k (local_written rows (scope_of c) t k typing)));
    }) refl;
    in_block = λ n z c d m xs at. at;
    in_sync = λ n z c d m e xs at. at;
    in_loop = λ n z c d m e x at. at;
    in_branch = λ n z c d m e x other at. at;
    in_else = λ n z c d b m e x y q at made. ((λ i. at.0 i + same_locals tells Chosen n c b x q made.0 i), at.1);
  }

  same_member : (k : MemberKey) → member_to g k ≡ image_of_member (images_of rows g) k
  same_member (head k) = refl
  same_member (field k) = refl
  same_member (method k) = refl
  same_member (constructor k) = refl

  plain_stands : (k : MemberKey) (is_static : Bool) → ContextTo g rows (plain k is_static) (plain (image_of_member (images_of rows g) k) is_static)
  plain_stands k is_static = subst (λ (j : MemberKey). ContextTo g rows (plain k is_static) (plain j is_static)) (same_member k) (plain_to tells rows g super_at worlds k is_static)

  parameters_stand : (k : MemberKey) (is_static : Bool) (b : ℕ) (ps : List (syntax.Param A)) (q : Rewritten (List (syntax.Param A))) → RewritesParams tells Chosen k 0 b ps q
      → ContextTo g rows (with_parameters k is_static ps) (with_parameters (image_of_member (images_of rows g) k) is_static q.tree)
  parameters_stand k is_static b ps q made =
      subst (λ (j : MemberKey). ContextTo g rows (with_parameters k is_static ps) (with_parameters j is_static q.tree)) (same_member k) (with_params_to tells rows g super_at worlds k is_static b ps q made)

  pub renamed_begin : AreBeginning tells rows (region_of rows g) Chosen nowhere At
  renamed_begin = record {
    heads = λ k b x is_static here. plain_stands k is_static;
    method = λ k b m mods t w ps body q here made. (refl, parameters_stand k (is_static_member (λ m b. (tells m b).from) mods) _ ps q made);
    constructor = λ k b m mods w ps args body q here made. (refl, parameters_stand k false _ ps q made);
    super_args = λ k b m mods w ps args body q here made. parameters_stand k true _ ps q made;
  }

  pub renamed_walk : (declarations : List DeclaredItem) → AreWalked tells rows (region_of rows g) Chosen nowhere declarations At
  renamed_walk declarations = record {
    around = λ b o x at stays. plain_stands (head (top_key o)) false;
    members = λ b outer m mods w t ms at stays. tt;
    more = λ b of x xs at stays. tt;
    inner = λ b of m x xs at stays. tt;
    declared = λ b of x xs k at stays declares. tt;
  }
