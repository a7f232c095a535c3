-- Expressions stay.
use Rattle.std.proofs.Common.{ℕ, List, refl, inl, inr}
use Rattle.jr_text.specs.declared.spans.Span.{Span}
use Rattle.jr_ast.specs.Tree as tree
use Rattle.jr_table.specs.Decls.{MemberKey}
use Rattle.jr_table.specs.Rows.{Row}
use Rattle.jr_table.specs.Context.{Context}
use Rattle.jr_table.specs.Binding.{Role, value, left, type}
use Rattle.jr_table.specs.Somewhere.{Somewhere, InTarget, InRow}
use Rattle.jr_mentions.specs.Avoids.{AvoidsExp, AvoidsTarget, AvoidsRow}
use Rattle.jr_rewrite.specs.Respellings.{stays}
use Rattle.jr_rewrite.specs.Rewritten.{plain, within, joined, word_out, name_out, field_out, super_field_out, Called, simple_call_out, dotted_call_out}
use Rattle.jr_rewrite.specs.Rewrites.{Choosing, RewritesType, RewritesExp, RewritesRow, with_losses, TransformsExp, TransformsTarget, TransformsRow}
use Rattle.jr_images.specs.Images.{Renaming}
use Rattle.jr_images.specs.Spelling.{spelling}
use Rattle.jr_new_files.proofs.ImagesStay.{IsWithin, scope_same}
use Rattle.jr_new_files.proofs.Unmoved.{GivesNothing, both_none, dotted_none}
use Rattle.jr_new_files.proofs.Passing.{Known}
use Rattle.jr_new_files.proofs.NothingBroken.{Sound, SoundRow, one_found, type_within}
use Rattle.jr_new_files.proofs.WordsOfTypes.{type_stays}
use Rattle.jr_new_files.proofs.WordsOfNames.{name_spells, field_stays, super_field_stays}
use Rattle.jr_new_files.proofs.WordsOfCalls.{simple_call_stays, call_stays, super_call_stays, creation_stays}

module _ {A : Type 0} (tells : A → ℕ → Span) (rows : List Row) (g : Renaming) (names : List (List ℕ)) (k : MemberKey) (known : Known A rows g names k) (super_at : Context → ℕ) where
  abbrev begins : A → ℕ → ℕ
  begins m base = (tells m base).from

  abbrev pub C : Choosing A
  C = spelling begins rows g super_at

  module _ (c : Context) (inside : IsWithin k c) where
    abbrev TypeGives : (base : ℕ) → tree.TypeName A → Type 0
    TypeGives base t = GivesNothing (λ o. RewritesType tells C c base t o)

    abbrev pub ExpGives : Role → (base : ℕ) → tree.Exp A → Type 0
    ExpGives r base e = GivesNothing (λ o. RewritesExp tells C c r base e o)

    abbrev pub RowGives : (at : ℕ) → tree.Exps A → Type 0
    RowGives at es = GivesNothing (λ o. RewritesRow tells C c at es o)

    -- the type in an expression
    literal_type : (r : Role) (base : ℕ) (m : A) (t : tree.TypeName A) → Sound begins rows c r base (tree.class_literal m t) → TypeGives (begins m base) t
    unfolding Somewhere InTarget InRow
    literal_type r base m t sound = type_stays tells rows g names k known super_at c (scope_same g names k known.spared known.own c inside) (begins m base) t
        (type_within begins rows known.keys c (begins m base) t (λ at f h. one_found begins rows c r base (tree.class_literal m t) (λ x y z. sound x y z) at type f (refl, h)))

    cast_type : (r : Role) (base : ℕ) (m : A) (t : tree.TypeName A) (e : tree.Exp A) → Sound begins rows c r base (tree.cast m t e) → TypeGives (begins m base) t
    unfolding Somewhere InTarget InRow
    cast_type r base m t e sound = type_stays tells rows g names k known super_at c (scope_same g names k known.spared known.own c inside) (begins m base) t
        (type_within begins rows known.keys c (begins m base) t (λ at f h. one_found begins rows c r base (tree.cast m t e) (λ x y z. sound x y (inl z)) at type f (refl, h)))

    created_type : (r : Role) (base : ℕ) (m : A) (t : tree.TypeName A) (args : tree.Exps A) → Sound begins rows c r base (tree.create m t args) → TypeGives (begins m base) t
    unfolding Somewhere InTarget InRow
    created_type r base m t args sound = type_stays tells rows g names k known super_at c (scope_same g names k known.spared known.own c inside) (begins m base) t
        (type_within begins rows known.keys c (begins m base) t (λ at f h. one_found begins rows c r base (tree.create m t args) (λ x y z. sound x y (inl z)) at type f (inr (refl, h))))

    mutual
      unfolding TransformsExp TransformsTarget TransformsRow Somewhere InTarget InRow AvoidsExp AvoidsTarget AvoidsRow

      pub exp_stays : (r : Role) (base : ℕ) (e : tree.Exp A) → Sound begins rows c r base e → AvoidsExp names e → ExpGives r base e
      exp_stays r base (tree.number m n) sound avoids = (plain (tree.number m n), refl, refl)
      exp_stays r base (tree.truth m b) sound avoids = (plain (tree.truth m b), refl, refl)
      exp_stays r base (tree.null m) sound avoids = (plain (tree.null m), refl, refl)
      exp_stays r base (tree.string m s) sound avoids = (plain (tree.string m s), refl, refl)
      exp_stays r base (tree.this m) sound avoids = (plain (tree.this m), refl, refl)
      exp_stays r base (tree.name m w) sound avoids = (name_out tells stays m base w, (stays, name_spells begins rows g names k known c inside r base m w (λ x y z. sound x y z) avoids, refl), refl)
      exp_stays r base (tree.field m e w) sound avoids =
          let p = exp_stays left (begins m base) e (λ x y z. sound x y (inr z)) avoids.0 in
          (field_out tells stays m base e p.0 w, (stays, p.0, field_stays begins rows g names k known c inside r base m e w (λ x y z. sound x y (inl z)) avoids.1 avoids.0, p.1, refl), dotted_none p.2)
      exp_stays r base (tree.super_field m w) sound avoids =
          (super_field_out tells stays m base w, (stays, super_field_stays begins rows g names k known c inside r base m w (λ x y z. sound x y z) avoids, refl), refl)
      exp_stays r base (tree.class_literal m t) sound avoids = let p = literal_type r base m t sound in (within (λ u. tree.class_literal m u) p.0, (p.0, p.1, refl), p.2)
      exp_stays r base (tree.call m tree.no_target w args) sound avoids =
          let p = simple_call_out tells stays m base w in
          let q = row_stays (begins m base) args (λ x y z. sound x y (inr (inr z))) avoids.2 in (
            joined (λ (t : Called tells) es. tree.call m t.target t.word es) p q.0,
            (stays, p, q.0, simple_call_stays begins rows g names k known c inside r base m w args (λ x y z. sound x y (inl z)) avoids.1, refl, q.1, refl),
            both_none refl q.2,
          )
      exp_stays r base (tree.call m (tree.on e) w args) sound avoids =
          let p = exp_stays left (begins m base) e (λ x y z. sound x y (inr (inl z))) avoids.0 in
          let o = dotted_call_out tells stays m base e p.0 w in
          let q = row_stays (begins m base) args (λ x y z. sound x y (inr (inr z))) avoids.2 in (
            joined (λ (t : Called tells) es. tree.call m t.target t.word es) o q.0,
            (stays, o, q.0, call_stays begins rows g names k known c inside r base m e w args (λ x y z. sound x y (inl z)) avoids.1 avoids.0, (p.0, p.1, refl), q.1, refl),
            both_none (dotted_none p.2) q.2,
          )
      exp_stays r base (tree.super_call m w args) sound avoids =
          let q = row_stays (begins m base) args (λ x y z. sound x y (inr z)) avoids.1 in (
            joined (λ v es. tree.super_call m v es) (word_out tells stays (begins m base) w) q.0,
            (stays, q.0, super_call_stays begins rows g names k known c inside r base m w args (λ x y z. sound x y (inl z)) avoids.0, q.1, refl),
            both_none refl q.2,
          )
      exp_stays r base (tree.create m t args) sound avoids =
          let p = created_type r base m t args sound in
          let q = row_stays (begins m base) args (λ x y z. sound x y (inr z)) avoids in (
            with_losses tells C stays (joined (λ u es. tree.create m u es) p.0 q.0),
            (stays, p.0, q.0, creation_stays begins rows g names k known c inside r base m t args (λ x y z. sound x y (inl z)), p.1, q.1, refl),
            both_none refl (both_none p.2 q.2),
          )
      exp_stays r base (tree.paren m e) sound avoids = let p = exp_stays value (begins m base) e (λ x y z. sound x y (inr z)) avoids in (within (λ x. tree.paren m x) p.0, (p.0, p.1, refl), p.2)
      exp_stays r base (tree.cast m t e) sound avoids =
          let p = cast_type r base m t e sound in
          let q = exp_stays value (begins m base) e (λ x y z. sound x y (inr z)) avoids in
          (joined (λ u x. tree.cast m u x) p.0 q.0, (p.0, q.0, p.1, q.1, refl), both_none p.2 q.2)
      exp_stays r base (tree.unary m op e) sound avoids = let p = exp_stays value (begins m base) e (λ x y z. sound x y (inr z)) avoids in (within (λ x. tree.unary m op x) p.0, (p.0, p.1, refl), p.2)
      exp_stays r base (tree.bump m op e) sound avoids = let p = exp_stays value (begins m base) e (λ x y z. sound x y (inr z)) avoids in (within (λ x. tree.bump m op x) p.0, (p.0, p.1, refl), p.2)
      exp_stays r base (tree.binary m op a b) sound avoids =
          let p = exp_stays value (begins m base) a (λ x y z. sound x y (inr (inl z))) avoids.0 in
          let q = exp_stays value (begins m base) b (λ x y z. sound x y (inr (inr z))) avoids.1 in
          (joined (λ u v. tree.binary m op u v) p.0 q.0, (p.0, q.0, p.1, q.1, refl), both_none p.2 q.2)
      exp_stays r base (tree.assign m a b) sound avoids =
          let p = exp_stays value (begins m base) a (λ x y z. sound x y (inr (inl z))) avoids.0 in
          let q = exp_stays value (begins m base) b (λ x y z. sound x y (inr (inr z))) avoids.1 in
          (joined (λ u v. tree.assign m u v) p.0 q.0, (p.0, q.0, p.1, q.1, refl), both_none p.2 q.2)
      exp_stays r base (tree.compound m op a b) sound avoids =
          let p = exp_stays value (begins m base) a (λ x y z. sound x y (inr (inl z))) avoids.0 in
          let q = exp_stays value (begins m base) b (λ x y z. sound x y (inr (inr z))) avoids.1 in
          (joined (λ u v. tree.compound m op u v) p.0 q.0, (p.0, q.0, p.1, q.1, refl), both_none p.2 q.2)

      pub row_stays : (at : ℕ) (es : tree.Exps A) → SoundRow begins rows c at es → AvoidsRow names es → RowGives at es
      row_stays at tree.end sound avoids = (plain tree.end, refl, refl)
      row_stays at (tree.more e es) sound avoids =
          let p = exp_stays value at e (λ x y z. sound x y (inl z)) avoids.0 in
          let q = row_stays at es (λ x y z. sound x y (inr z)) avoids.1 in
          (joined (λ x xs. tree.more x xs) p.0 q.0, (p.0, q.0, p.1, q.1, refl), both_none p.2 q.2)
