-- The files of a program, one after the other.
use Rattle.std.proofs.Common.{◌≡◌, ℕ, zero, suc, ◌+◌, List, [], ◌∷◌, length, map, Some, refl, sym, subst, arith}
use Rattle.std.specs.Prelude.{slice_get}
use Rattle.jr_text.specs.declared.spans.Span.{Span}
use Rattle.jr_ast.specs.MemberTree as syntax
use Rattle.jr_table.specs.Decls.{MemberKey}
use Rattle.jr_table.specs.Rows.{Row}
use Rattle.jr_table.specs.Context.{Context}
use Rattle.jr_table.specs.DeclaredItems.{DeclaredItem, declarations_of}
use Rattle.jr_table.specs.ProgramRows.{AreProgramRows}
use Rattle.jr_members.specs.WrittenMembers.{written_members}
use Rattle.jr_rewrite.specs.Rewritten.{Rewritten}
use Rattle.jr_rewrite.specs.Rewrites.{Choosing, RewritesUnit, RewritesUnits}
use Rattle.jr_new_words.specs.Mappings.{Mapping}
use Rattle.jr_new_words.specs.Spelled.{spelling}
use Rattle.jr_new_bodies.specs.Effects.{Effect, effect_of}
use Rattle.jr_new_files.specs.Files.{AllGive}
use Rattle.jr_new_files.specs.FileLaws.{AreGathered, AreRewritten}
use Rattle.jr_new_files.proofs.Ordered.{members_in_order}
use Rattle.jr_new_files.proofs.Assembling.{file_gives}

module _ {A : Type 0} (tells : A → ℕ → Span) (C : Choosing A) (declarations : List DeclaredItem) where
  abbrev Gives : syntax.Unit A → Effect → Type 0
  Gives u e = (o : Rewritten (syntax.Unit A)) × RewritesUnit tells C declarations u o × (e ≡ effect_of o)

  -- one behind the other
  units_give : (us : List (syntax.Unit A)) (es : List Effect) → length es ≡ length us
      → ((i : ℕ) (u : syntax.Unit A) (e : Effect) → slice_get us i ≡ Some u → slice_get es i ≡ Some e → Gives u e)
      → (os : List (Rewritten (syntax.Unit A))) × RewritesUnits tells C declarations us os × (map (λ (o : Rewritten (syntax.Unit A)). effect_of o) os ≡ es)
  units_give [] [] same each = ([], refl, refl)
  units_give [] (e ∷ es) same each = absurd (omega (arith, same))
  units_give (u ∷ us) [] same each = absurd (omega (arith, same))
  units_give (u ∷ us) (e ∷ es) same each =
      let p = each zero u e refl refl in
      let q = units_give us es (omega (arith, same)) (λ i v d at_v at_d. each (suc i) v d at_v at_d) in
      (p.0 ∷ q.0, (p.0, q.0, p.1, q.1, refl), λ i. sym p.2 i ∷ q.2 i)

module _ {A : Type 0} (tells : A → ℕ → Span) (rows : List Row) (super_at : MemberKey → ℕ) (units : List (syntax.Unit A)) (g : Mapping) where
  abbrev begins : A → ℕ → ℕ
  begins m b = (tells m b).from

  abbrev C : Choosing A
  C = spelling begins rows g (λ (c : Context). super_at c.member)

  pub are_rewritten : (es : List Effect) → AreProgramRows (declarations_of begins units) rows → AreGathered tells rows super_at units g es → AreRewritten tells rows super_at units g es
  are_rewritten es program gathered =
      let ordered = members_in_order begins units rows program in
      let all = units_give tells C (declarations_of begins units) units es gathered.one_each
      (λ i u e at_u at_e. file_gives tells C (declarations_of begins units) 0 i units u (written_members begins rows units) e at_u ordered
      (subst (λ n. AllGive tells C n (written_members begins rows units) e) (counted i) (gathered.each i e at_e))) in
      record { files = all.0; are = all.1; effects = all.2 }
    where
      counted : (i : ℕ) → i ≡ 0 + i
      counted i = omega arith
