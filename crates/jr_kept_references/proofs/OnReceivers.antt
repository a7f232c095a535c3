-- Where a local stands for `this`, a member that is asked on it is bound to its image.
use Rattle.std.proofs.Common.{ℕ, List, refl, sym, subst}
use Rattle.jr_text.specs.declared.spans.Span.{Span}
use Rattle.jr_ast.specs.Tree as tree
use Rattle.jr_table.specs.Keys.{ClassKey, Ty, class}
use Rattle.jr_table.specs.Decls.{LocalKey, field_decl, method_decl, local_decl}
use Rattle.jr_table.specs.Rows.{Row}
use Rattle.jr_table.specs.Context.{Context}
use Rattle.jr_table.specs.Binding.{HasType, IsClassName, Role}
use Rattle.jr_images.specs.Regions.{Region}
use Rattle.jr_images.proofs.OneBound.{name_no_class}
use Rattle.jr_images.proofs.Rebound.{Stands, field_on_value, call_on_value}
use Rattle.jr_kept_references.specs.InRegions.{rows_in, field_in, method_in}
use Rattle.jr_kept_references.specs.KeptInRegions.{KeptIn}
use Rattle.jr_kept_references.specs.Receivers.{StandsIn, receiver_name, OnReceiver}
use Rattle.jr_kept_references.proofs.RegionWorlds.{RegionWorld}
use Rattle.jr_kept_references.proofs.RegionKept.{kept_name, kept_call}

module _ {A : Type 0} (tells : A → ℕ → Span) (rows : List Row) (R : Region A) (c d : Context) (w : RegionWorld A rows R c d) (k : LocalKey) (name : List ℕ) (o : ClassKey) (s : StandsIn rows R c d k name o) (m : A) where
  -- the local is a value of the class
  has_class : HasType (rows_in R) d (receiver_name rows R c d m name o) (class o)
  unfolding HasType
  has_class = (local_decl k, s.finds, s.type)

  no_name : (z : ClassKey) → IsClassName (rows_in R) d (receiver_name rows R c d m name o) z → ⊥
  no_name = name_no_class (λ m b. (tells m b).from) (rows_in R) d w.one_new w.new (local_decl k) (λ j e. cc) m (record { mark = m; text = name }) s.finds

  pub on_receiver : (r : Role) (e y : tree.Exp A) → OnReceiver rows R c d m name o e y → KeptIn (λ m b. (tells m b).from) rows R c d r e y
  unfolding IsClassName
  on_receiver r (tree.this n) y is = subst (λ (z : tree.Exp A). KeptIn (λ m b. (tells m b).from) rows R c d r (tree.this n) z) (sym is) (record {
    becomes = record {
      typed = λ t h. subst (λ (u : Ty). HasType (rows_in R) d (receiver_name rows R c d m name o) u) (sym (s.told n t h)) has_class;
      named = λ z h. absurd h;
      apart = λ _ z h. no_name z h;
    };
    bound = λ b i at x h. absurd h.1;
  })
  on_receiver r (tree.name n v) y (q, finds, (f, taken, is)) = kept_name tells rows R c d w r n v y (field_decl q) (field_decl (field_in R q)) refl finds (λ j e. cc) (λ j e. cc)
      (subst (λ (z : tree.Exp A). Stands (λ m b. (tells m b).from) (rows_in R) w.images.are w.one_new d w.new w.rebind w.fronts (field_decl (field_in R q)) z) (sym is)
      (field_on_value (λ m b. (tells m b).from) (rows_in R) w.images.are w.one_new d w.new w.rebind w.fronts m m (field_in R q).name (field_in R q) (receiver_name rows R c d m name o) o has_class no_name
      taken.place f taken.stands taken.binds))
  on_receiver r (tree.call n tree.no_target v args) y (q, ts, es, finds, types, (f, taken, is)) =
      kept_call tells rows R c d w r n tree.no_target v args y (method_decl q) (method_decl (method_in R q)) refl finds (λ j e. cc) (λ j e. cc)
      (subst (λ (z : tree.Exp A). Stands (λ m b. (tells m b).from) (rows_in R) w.images.are w.one_new d w.new w.rebind w.fronts (method_decl (method_in R q)) z) (sym is)
      (call_on_value (λ m b. (tells m b).from) (rows_in R) w.images.are w.one_new d w.new w.rebind w.fronts m m (method_in R q).name (method_in R q) es ts types (receiver_name rows R c d m name o) o has_class no_name
      taken.place f taken.stands taken.binds))
  on_receiver r (tree.call n (tree.on e) v args) y h = absurd h
  on_receiver r _ y h = absurd h
