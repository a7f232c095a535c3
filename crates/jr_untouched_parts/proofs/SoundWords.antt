-- At a place that sees what it saw, each word of what breaks no rule may stay.
use Rattle.std.proofs.Common.{◌≡◌, ℕ, List, Option, Bool, false, refl, inr}
use Rattle.jr_ast.specs.Tree as tree
use Rattle.jr_ast.specs.StatementTree as statement
use Rattle.jr_table.specs.declared.rules.Rule.{Rule}
use Rattle.jr_table.specs.declared.rules.Rule.TheVariants as rule
use Rattle.jr_table.specs.Prelude.{top_key}
use Rattle.jr_table.specs.Decls.{Decl, head}
use Rattle.jr_table.specs.Rows.{Row}
use Rattle.jr_table.specs.Conditions.{AreRows}
use Rattle.jr_table.specs.Found.{Found, nothing, many, not_accessible}
use Rattle.jr_table.specs.LookupLaws.{KeysAreFound}
use Rattle.jr_table.specs.BindingLaws.{IsBound}
use Rattle.jr_table.specs.Context.{Context, scope_of}
use Rattle.jr_table.specs.Binding.{Role, type, Refers, TypeRefers, SuperCtorFinds}
use Rattle.jr_table.specs.ExpressionRules.{ExpBreaks}
use Rattle.jr_table.specs.StatementRules.{StmtBreaks, ListBreaks}
use Rattle.jr_table.specs.HeadRules.{plain as no_locals}
use Rattle.jr_table.specs.Errors.{Error}
use Rattle.jr_rewrite.specs.Respellings.{stays}
use Rattle.jr_rewrite.specs.Rewrites.{Choosing}
use Rattle.jr_images.specs.Regions.{Region}
use Rattle.jr_images.specs.Spelling.{choosing, ExpChoice, CreationChoice, SuperCtorChoice, TypeChoice, QualifierChoice, ParentChoice, ParentQualifierChoice, DeclaredChoice}
use Rattle.jr_local.specs.Soundness.{HaveNoDots}
use Rattle.jr_new_files.proofs.NothingBroken.{TypeMeans, type_means, type_within, one_found, SoundItself}
use Rattle.jr_untouched_parts.specs.Sights.{KeepsKeys, SeesTheSame}
use Rattle.jr_untouched_parts.specs.Staying.{TypeMayStay, WrittenMayStay, ItselfMayStay}
use Rattle.jr_untouched_parts.proofs.TypesStay.{keeping, of_images, stays_so, type_stays, parent_stays, ParentMeans}
use Rattle.jr_untouched_parts.proofs.NamesStay.{name_stays, field_stays, super_field_stays}
use Rattle.jr_untouched_parts.proofs.CallsStay.{simple_call_stays, call_stays, super_call_stays, creation_stays, super_ctor_stays}

-- a region of a program in which keys and rows stay
pub record Keeps (A : Type 0) (rows : List Row) (R : Region A) : Type 0 where
  pub are : AreRows rows
  pub found : KeysAreFound rows
  pub bound : (c : Context) → IsBound A rows c
  pub dots : HaveNoDots rows
  pub keys : KeepsKeys rows R

module _ {A : Type 0} (begins : A → ℕ → ℕ) (rows : List Row) (super_at : Context → ℕ) where
  -- an expression, a statement or a list breaks a rule
  abbrev pub BrokenExp : Error → Context → Role → (base : ℕ) → tree.Exp A → Type 0
  BrokenExp i c r base e = ExpBreaks begins rows c r base e i.at i.rule

  abbrev pub BrokenStmt : Error → (number : ℕ) → Context → (base : ℕ) → statement.Stmt A → Type 0
  BrokenStmt i n c base s = StmtBreaks begins rows n c base s i.at i.rule

  abbrev pub BrokenList : Error → (base : ℕ) → statement.Stmts A → Type 0
  BrokenList i base xs = ListBreaks begins base xs i.at i.rule

  module _ (R : Region A) (keeps : Keeps A rows R) where
    abbrev pub C : Choosing A
    C = choosing begins rows R super_at

    -- ---- written types and declared names

    pub declared_stays : (d : Decl) (w : tree.Word A) → C.declared d w stays
    declared_stays d w = of_images rows R keeps.keys (λ X. DeclaredChoice begins rows X d w stays) (stays_so w.text w.text refl)

    pub written_stays : (c : Context) → SeesTheSame R c → (base : ℕ) (t : tree.TypeName A) → TypeMeans rows (scope_of c) t → WrittenMayStay begins C c base t
    written_stays c sees base t means =
        of_images rows R keeps.keys (λ X. TypeMayStay (QualifierChoice begins rows X c base t) (TypeChoice begins rows X c base t) t) (type_stays begins rows keeps.dots R c sees base t means)

    pub superclass_stays : (outer : Option (List ℕ)) → ((k : List ℕ) → SeesTheSame R (no_locals (head (top_key k)) false)) → (base : ℕ) (t : tree.TypeName A) → ParentMeans begins rows keeps.dots R outer t
        → TypeMayStay (C.parent_qualifier outer base t) (C.parent outer base t) t
    superclass_stays outer sees base t means =
        of_images rows R keeps.keys (λ X. TypeMayStay (ParentQualifierChoice begins rows X outer base t) (ParentChoice begins rows X outer base t) t) (parent_stays begins rows keeps.dots R outer sees base t means)

    module _ (c : Context) (sees : SeesTheSame R c) where
      -- a type in an expression
      type_there : (r : Role) (base : ℕ) (e : tree.Exp A) → SoundItself begins rows c r base e → (from : ℕ) (t : tree.TypeName A) → ((at : ℕ) (f : Found) → TypeRefers begins rows c from t at f → Refers begins rows c r base e at type f)
          → WrittenMayStay begins C c from t
      type_there r base e none from t refers = written_stays c sees from t (type_within begins rows keeps.found c from t (λ at f h. one_found begins rows c r base e none at type f (refers at f h)))

      chosen : (r : Role) (base : ℕ) (e : tree.Exp A) → ExpChoice begins rows (keeping rows R) c r base e stays → C.expression c r base e stays
      chosen r base e x = of_images rows R keeps.keys (λ X. ExpChoice begins rows X c r base e stays) x

      pub itself_stays : (r : Role) (base : ℕ) (e : tree.Exp A) → ((i : Error) → BrokenExp i c r base e → ⊥) → ItselfMayStay begins C c r base e
      itself_stays r base e sound = by e (λ at k h. sound (record { at = at; rule = k }) h)
        where
          by : (e : tree.Exp A) → SoundItself begins rows c r base e → ItselfMayStay begins C c r base e
          by (tree.number m n) none = tt
          by (tree.truth m b) none = tt
          by (tree.null m) none = tt
          by (tree.string m s) none = tt
          by (tree.this m) none = tt
          by (tree.name m w) none = chosen r base (tree.name m w) (name_stays begins rows R c sees keeps.found (keeps.bound c) r base m w none)
          by (tree.field m e w) none = chosen r base (tree.field m e w) (field_stays begins rows R c sees keeps.found (keeps.bound c) r base m e w none)
          by (tree.super_field m w) none = chosen r base (tree.super_field m w) (super_field_stays begins rows R c sees keeps.found (keeps.bound c) r base m w none)
          by (tree.class_literal m t) none = type_there r base (tree.class_literal m t) none (begins m base) t (λ at f h. (refl, h))
          by (tree.call m tree.no_target w args) none = chosen r base (tree.call m tree.no_target w args) (simple_call_stays begins rows R c sees (keeps.bound c) r base m w args none)
          by (tree.call m (tree.on e) w args) none = chosen r base (tree.call m (tree.on e) w args) (call_stays begins rows R c sees (keeps.bound c) r base m e w args none)
          by (tree.super_call m w args) none = chosen r base (tree.super_call m w args) (super_call_stays begins rows R c sees (keeps.bound c) r base m w args none)
          by (tree.create m t args) none = (
            of_images rows R keeps.keys (λ X. CreationChoice begins rows X c base (tree.create m t args) stays) (creation_stays begins rows R c sees (keeps.bound c) r base m t args none),
            type_there r base (tree.create m t args) none (begins m base) t (λ at f h. inr (refl, h)),
          )
          by (tree.paren m e) none = tt
          by (tree.cast m t e) none = type_there r base (tree.cast m t e) none (begins m base) t (λ at f h. (refl, h))
          by (tree.unary m op e) none = tt
          by (tree.bump m op e) none = tt
          by (tree.binary m op x y) none = tt
          by (tree.assign m x y) none = tt
          by (tree.compound m op x y) none = tt

      -- the type of a local
      pub local_type_stays : (n base : ℕ) (m : A) (f : Bool) (t : tree.TypeName A) (w : tree.Word A) (e : tree.Exp A) → ((i : Error) → BrokenStmt i n c base (statement.local m f t w e) → ⊥) → WrittenMayStay begins C c (begins m base) t
      local_type_stays n base m f t w e sound =
          written_stays c sees (begins m base) t
          (type_means begins rows keeps.found c (begins m base) t (λ at h. sound (record { at = at; rule = rule.NoType }) h) (λ at d h. sound (record { at = at; rule = rule.Private }) (d, h)))

      -- the constructor of a written `super(..)`, which finds something that is accessible
      pub super_stays : (args : tree.Exps A) → (SuperCtorFinds rows c args nothing → ⊥) → ((d e : Decl) → SuperCtorFinds rows c args (many d e) → ⊥) → ((d : Decl) → SuperCtorFinds rows c args (not_accessible d) → ⊥) → C.super_call c args stays
      super_stays args some single seen =
          of_images rows R keeps.keys (λ X. SuperCtorChoice begins rows X (super_at c) c args stays) (super_ctor_stays begins rows R c sees (keeps.bound c) keeps.are keeps.found (super_at c) args some single seen)
