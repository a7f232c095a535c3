-- By two regions that are alike one thing is chosen for each word.
use Rattle.std.proofs.Common.{◌≡◌, ℕ, List, true, refl, sym, ap, subst, ◌∙◌}
use Rattle.jr_text.specs.declared.spans.Span.{Span}
use Rattle.jr_ast.specs.Tree as tree
use Rattle.jr_table.specs.Decls.{MemberKey}
use Rattle.jr_table.specs.Rows.{Row}
use Rattle.jr_table.specs.Conditions.{AreRows}
use Rattle.jr_table.specs.LookupLaws.{HasOne, EachHasOne}
use Rattle.jr_table.specs.BindingLaws.{IsBound}
use Rattle.jr_table.specs.Context.{Context}
use Rattle.jr_table.specs.Binding.{Role}
use Rattle.jr_table.specs.HeadRules.{with_parameters}
use Rattle.jr_images.specs.Regions.{Region}
use Rattle.jr_images.specs.Spelling.{renamed, ExpChoice, SuperCtorChoice, choosing}
use Rattle.jr_bind.specs.SuperPlaces.{writes_super}
use Rattle.jr_program_laws.specs.FileParts.{begins}
use Rattle.jr_one_plans.proofs.WordsOnce.{SeenOnce}
use Rattle.jr_one_plans.proofs.NamesOnce.{name_once, dotted_once, super_field_once}
use Rattle.jr_one_plans.proofs.CallsOnce.{simple_call_once, call_once, super_call_once, creation_once, super_ctor_once}
use Rattle.jr_one_plans.proofs.TypesOnce.{type_once, qualifier_once, parent_once, parent_qualifier_once}
use Rattle.jr_one_plans.proofs.Like.{Made, AreLike, exp_back, creation_back, super_back, type_back, qualifier_back, parent_back, parent_qualifier_back}
use Rattle.jr_one_plans.proofs.OneTree.{Agree}

module _ (rows : List Row) (fit : AreRows rows) (each : EachHasOne rows) (bounds : (c : Context) → IsBound Span rows c) (R : Region Span) (seen : SeenOnce R.seen) where
  exp_once : (c : Context) (r : Role) (base : ℕ) (e : tree.Exp Span) → HasOne (ExpChoice begins rows R c r base e)
  exp_once c r base (tree.name m w) a b x y = name_once rows fit each bounds R seen c r _ w.text a b x y
  exp_once c r base (tree.field m e w) a b x y = dotted_once rows fit each bounds R seen c r _ e w.text a b x y
  exp_once c r base (tree.super_field m w) a b x y = super_field_once rows fit each bounds R seen c _ w.text a b x y
  exp_once c r base (tree.call m tree.no_target w args) a b x y = simple_call_once rows fit each bounds R seen c _ w.text args a b x y
  exp_once c r base (tree.call m (tree.on e) w args) a b x y = call_once rows fit each bounds R seen c _ w.text args e a b x y
  exp_once c r base (tree.super_call m w args) a b x y = super_call_once rows fit each bounds R seen c _ w.text args a b x y
  exp_once c r base e a b x y = absurd x

  -- where a written `super(..)` stands, it stands in both
  pub regions_agree : (Q : Region Span) → AreLike R Q → (s t : MemberKey → ℕ) → Agree (λ k part. writes_super part ≡ true → s k ≡ t k) (choosing begins rows R (λ (c : Context). s c.member)) (choosing begins rows Q (λ (c : Context). t c.member))
  regions_agree Q like s t = record {
    expression = λ c r base e a b x y. exp_once c r base e a b x (exp_back rows R Q like c r base e b y);
    creation = λ c base e a b x y. creation_once rows fit each bounds R seen c base e a b x (creation_back rows R Q like c base e b y);
    super_call = λ k m mods w ps args body fine a b x y.
        super_ctor_once rows fit each bounds R seen (with_parameters k true ps) (s k) args a b x
        (super_back rows R Q like (s k) (with_parameters k true ps) args b (subst (λ (n : ℕ). SuperCtorChoice begins rows Q n (with_parameters k true ps) args b) (sym (fine refl)) y));
    qualifier = λ c base t a b x y. qualifier_once rows each R seen c base t a b x (qualifier_back rows R Q like c base t b y);
    type = λ c base t a b x y. type_once rows each R seen c base t a b x (type_back rows R Q like c base t b y);
    parent_qualifier = λ outer base t a b x y. parent_qualifier_once rows each R seen outer base t a b x (parent_qualifier_back rows R Q like outer base t b y);
    parent = λ outer base t a b x y. parent_once rows each R seen outer base t a b x (parent_back rows R Q like outer base t b y);
    declared = λ d w a b x y. x ∙ ap (λ (m : Made Span). renamed w.text (m.images.name_to d w.text)) like.made ∙ sym y;
  }
