-- A type that has a spelling is written in identifiers.
use Rattle.std.proofs.Common.{◌≡◌, inl, inr, ℕ, zero, suc, Bool, true, false, List, [], ◌∷◌, Option, Some, None, sym, ap, ◌∙◌, subst}
use Rattle.std.specs.Prelude.{slice_get, if◌then◌else◌}
use Rattle.jr_text.specs.declared.spans.Span.{Span}
use Rattle.jr_lex.specs.Replacing.{IsName}
use Rattle.jr_ast.specs.Tree as tree
use Rattle.jr_grammar.specs.Layout.{itself}
use Rattle.jr_table.specs.declared.answers.Answer.{Answer}
use Rattle.jr_table.specs.declared.answers.Answer.TheVariants as number
use Rattle.jr_table.specs.Keys.{ClassKey, Ty, int, boolean, void, null, class}
use Rattle.jr_table.specs.Decls.{Decl, class_decl}
use Rattle.jr_table.specs.SameKeys.{same_name}
use Rattle.jr_table.specs.Rows.{Row}
use Rattle.jr_table.specs.Entries.{IsRowOf}
use Rattle.jr_table.specs.Found.{Found, one}
use Rattle.jr_table.specs.Scope.{Scope}
use Rattle.jr_table.specs.Lookup.{Shows, ByKeys}
use Rattle.jr_table.specs.Context.{Context, NamesClass}
use Rattle.jr_spell.specs.declared.references.RefForm.TheVariants as ref
use Rattle.jr_spell.specs.declared.spellings.Form.{Form}
use Rattle.jr_spell.specs.declared.spellings.Form.TheVariants.{Asked, Class, OuterClass}
use Rattle.jr_spell.specs.Spellings.{forms}
use Rattle.jr_spell.specs.Binds.{Binds}
use Rattle.jr_images.specs.Regions.{Region}
use Rattle.jr_images.specs.Spelling.{respelled, renamed, outer_type, spelled, reference, there, lost as lost_choice}
use Rattle.jr_images.specs.TextLaws.{IsOuterName, IsNamedClass, AreNamed}
use Rattle.jr_rewrite.specs.Respellings.{Choice, stays, same, Loss}
use Rattle.jr_rewrite.specs.Rewritten.{Rewritten, losses_of, simple_type_out}
use Rattle.jr_local.specs.Bodies.{begins}
use Rattle.jr_local.specs.Extracted.{word_of, WritesType}
use Rattle.jr_local_texts.specs.Fitting.{IsNamedType}

-- ---- classes that are found have rows

keys_row : (rows : List Row) (Finds : Answer → Type 0) (d : Decl) → ByKeys rows Finds (one d) → (j : ℕ) × IsRowOf rows d j
keys_row rows Finds d h = by_answer h.0 h.2
  where
    by_answer : (a : Answer) → Shows rows a (one d) → (j : ℕ) × IsRowOf rows d j
    by_answer (number.One j) s = (j, s)
    by_answer number.Nothing s = absurd s
    by_answer (number.Many j k) s = absurd s
    by_answer (number.NotAccessible j) s = absurd s
    by_answer (number.FromStatic j) s = absurd s

module _ (rows : List Row) (named : AreNamed rows) where
  class_named : (s : Scope) (outer : Option (List ℕ)) (name : List ℕ) (k : ClassKey) → NamesClass rows s outer name k → IsNamedClass k
  class_named s None name k h = (let row = keys_row rows _ (class_decl k) h in named (class_decl k) row.0 row.1)
  class_named s (Some o) name k h = (let row = keys_row rows _ (class_decl k) h.2 in named (class_decl k) row.0 row.1)

  -- ---- the spellings of a class

  abbrev Written : Span → ClassKey → Choice → Type 0
  Written m k h = IsNamedType (simple_type_out itself h m 0 (word_of m k.name)).tree

  asked_named : (m : Span) (k : ClassKey) → IsNamedClass k → Written m k (renamed k.name k.name)
  asked_named m k h = by (same_name k.name k.name)
    where
      by : (b : Bool) → Written m k (if b then stays else respelled k.name same)
      by true = h.1
      by false = h.1

  outer_named : (m : Span) (outer : Option (List ℕ)) (name : List ℕ) → IsOuterName outer → IsName name → (let k : ClassKey = record { outer = outer; name = name } in Written m k (respelled name (outer_type k)))
  outer_named m None name o n = n
  outer_named m (Some outer) name o n = (o, n)

  by_form : (s : Scope) (m : Span) (k : ClassKey) (n : ℕ) (f : Form) → slice_get (forms ref.ClassName (class_decl k)) n ≡ Some f → Binds rows s (reference ref.ClassName k.name None []) (class_decl k) f → Written m k (spelled k.name k.name k f)
  by_form s m k zero f e b =
      let is : Asked ≡ f = cc in
      let binds = subst (Binds rows s (reference ref.ClassName k.name None []) (class_decl k)) (sym is) b in
      subst (λ g. Written m k (spelled k.name k.name k g)) is (asked_named m k (class_named s _ _ k binds))
  by_form s m k (suc zero) f e b =
      let is : Class ≡ f = cc in
      let binds = subst (Binds rows s (reference ref.ClassName k.name None []) (class_decl k)) (sym is) b in
      subst (λ g. Written m k (spelled k.name k.name k g)) is (class_named s None k.name k binds).1
  by_form s m k (suc (suc zero)) f e b =
      let is : OuterClass ≡ f = cc in
      let binds = subst (Binds rows s (reference ref.ClassName k.name None []) (class_decl k)) (sym is) b in
      let of = class_named s (Some binds.0) k.name k binds.2 in
      subst (λ g. Written m k (spelled k.name k.name k g)) is (outer_named m k.outer k.name of.0 of.1)
  by_form s m k (suc (suc (suc n))) f e b = absurd cc

  -- ---- a written type

  some_loss : (l : Loss) → (let none : List Loss = [] in l ∷ [] ≡ none) → ⊥
  some_loss l e = cc

  pub type_named : (R : Region Span) → R.seen.images.rows ≡ rows → (c : Context) (at : ℕ) (m : Span) (t : Ty) (o : Rewritten (tree.TypeName Span)) → WritesType rows R c at m t o → o.losses ≡ [] → IsNamedType o.tree
  type_named R rows_are c at m int o w none = subst (λ z. IsNamedType z.tree) (sym w) tt
  type_named R rows_are c at m boolean o w none = subst (λ z. IsNamedType z.tree) (sym w) tt
  type_named R rows_are c at m void o w none = absurd w
  type_named R rows_are c at m null o w none = absurd w
  type_named R rows_are c at m (class k) o w none = elim w.1 [
    | inl t ↦ subst (λ (z : Rewritten (tree.TypeName Span)). IsNamedType z.tree) (sym w.2)
        (subst (Written m k) (sym t.2) (by_form (there begins rows R c) m k t.1.place t.0 t.1.stands
        (subst (λ rs. Binds rs (there begins rows R c) (reference ref.ClassName k.name None []) (class_decl k) t.0) rows_are t.1.binds)))
    | inr t ↦ absurd (lost t.1.0 t.1.2)
  ]
    where
      lost : (f : Found) → w.0 ≡ lost_choice begins rows R at (class_decl k) f → ⊥
      lost f e = some_loss _ (sym (ap losses_of e) ∙ sym (ap (λ (z : Rewritten (tree.TypeName Span)). z.losses) w.2) ∙ none)
