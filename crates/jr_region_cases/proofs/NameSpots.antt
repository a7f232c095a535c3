-- The name that extract local puts in the expression's place has the type that the region tells, where the place is known to have the made local
-- in scope, with the expression's type.
use Rattle.std.proofs.Common.{ℕ, List, refl, sym, ap, subst}
use Rattle.jr_text.specs.declared.spans.Span.{Span}
use Rattle.jr_lex.specs.declared.items.Item.{Item}
use Rattle.jr_ast.specs.Tree as tree
use Rattle.jr_ast.specs.Marks.{exp_mark}
use Rattle.jr_table.specs.Keys.{ClassKey, Ty}
use Rattle.jr_table.specs.Decls.{local_decl}
use Rattle.jr_table.specs.LookupLaws.{EachHasOne}
use Rattle.jr_table.specs.BindingLaws.{IsBound}
use Rattle.jr_table.specs.Found.{one}
use Rattle.jr_table.specs.Lookup.{FindsVariable}
use Rattle.jr_table.specs.Context.{Context, scope_of, IsTypeOf}
use Rattle.jr_table.specs.Binding.{HasType, IsClassName}
use Rattle.jr_bind.specs.Programs.{Program}
use Rattle.jr_rewrite.specs.Rewritten.{Rewritten}
use Rattle.jr_rewrite.specs.Spots.{spotted}
use Rattle.jr_images.proofs.OneBound.{has_one_type, name_no_class}
use Rattle.jr_local.specs.Bodies.{begins}
use Rattle.jr_local.specs.Selecting.{Selected}
use Rattle.jr_local.specs.Extracted.{made, from_there, name_tree, name_spot}
use Rattle.jr_kept_references.specs.KeptInRegions.{Becomes, PartsBecome}

module _ (p : Program Span) (file from to : ℕ) (name : List ℕ) (x : Selected p file from to) (items : List Item) (c d : Context) (each : EachHasOne p.rows) (old : IsBound Span p.rows c) (new : IsBound Span p.rows d)
    (finds : FindsVariable p.rows (scope_of d) name (one (local_decl (made p file from to name x)))) (typed : IsTypeOf p.rows d (local_decl (made p file from to name x)) x.type)
    (of_value : HasType p.rows c x.value x.type) (no_name : (k : ClassKey) → IsClassName p.rows c x.value k → ⊥) where
  abbrev There : tree.Exp Span
  There = name_tree name (exp_mark x.value)

  has_type : HasType p.rows d There x.type
  unfolding HasType
  has_type = (local_decl (made p file from to name x), finds, typed)

  value_becomes : Becomes begins p.rows (from_there p file from to name x) c d x.value There
  value_becomes = record {
    typed = λ t h. subst (λ (u : Ty). HasType p.rows d There u) (has_one_type begins p.rows c each old x.value x.type t of_value h) has_type;
    named = λ k h. absurd (no_name k h);
    apart = λ _ k h. name_no_class begins p.rows d each new (local_decl (made p file from to name x)) (λ j e. cc) (exp_mark x.value) (record { mark = exp_mark x.value; text = name }) finds k h;
  }

  name_becomes : PartsBecome begins p.rows (from_there p file from to name x) (spotted (name_spot p file from to name x items)) c d
  name_becomes = (
    (λ stays. refl),
    (λ k r base e o (value, is) none. subst (λ (z : tree.Exp Span). Becomes begins p.rows (from_there p file from to name x) c d e z) (sym (ap (λ (q : Rewritten (tree.Exp Span)). q.tree) is))
        (subst (λ (z : tree.Exp Span). Becomes begins p.rows (from_there p file from to name x) c d z There) (sym value.3) value_becomes)),
  )
