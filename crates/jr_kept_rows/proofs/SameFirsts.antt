-- Where fields have the trees that they had, and rows stay, static fields begin with what they began
-- with: what they begin with in the new program they may begin with in the old one, and that is one.
use Rattle.std.proofs.Common.{◌≡◌, ℕ, List, [], ◌∷◌, map, Option, Some, None, Bool, true, false, refl, sym, ap, subst, ◌∙◌, inl, inr}
use Rattle.std.proofs.lemmas.Option.{same_Some}
use Rattle.jr_text.specs.declared.spans.Span.{Span}
use Rattle.jr_ast.specs.Tree as tree
use Rattle.jr_ast.specs.MemberTree as syntax
use Rattle.jr_ast.specs.Remarked.{map_modifier, map_member}
use Rattle.jr_grammar.specs.Layout.{itself}
use Rattle.jr_grammar.specs.Bare.{bare}
use Rattle.jr_runs.specs.FirstValues.{First, gives, makes, default_of}
use Rattle.jr_runs.specs.KeyMaps.{KeyMap, same_keys, value_image}
use Rattle.jr_runs.specs.Rows as core_rows
use Rattle.jr_runs.specs.Values as core_value
use Rattle.jr_table.specs.Keys.{ClassKey, FieldKey}
use Rattle.jr_table.specs.Decls.{field_decl}
use Rattle.jr_table.specs.Rows.{Row}
use Rattle.jr_table.specs.SameKeys.{same_class, same_field, same_method, same_ctor}
use Rattle.jr_table.specs.DeclaredItems.{class_key}
use Rattle.jr_table.specs.HeadRules.{is_static_member}
use Rattle.jr_bind.specs.Programs.{Program, IsProgram, units_of}
use Rattle.jr_program_laws.specs.FileParts.{begins}
use Rattle.jr_histories.specs.Laws.{first_image}
use Rattle.jr_code.specs.RunKeys.{RunKeys}
use Rattle.jr_code.specs.RunRows.{AreRunRows}
use Rattle.jr_code.specs.CodedFields.{FirstOf, StaticFirst, ClassFirsts, MembersFirsts, MemberFirst, ClassesFirsts, UnitsFirsts, HasFirst, AreFirstValues}
use Rattle.jr_code.specs.Exchanged.{exchanged, exchange, or_image, first as first_that, keys_by, class_in, field_in, method_in, ctor_in}
use Rattle.jr_code.proofs.RunRowsStand.{row_or}
use Rattle.jr_first_values.specs.Laws.{FirstValuesAreOne}
use Rattle.jr_first_values.proofs.Forms.{first_value, same_value}
use Rattle.jr_image_code.specs.KeysIn.{keys_by as map_by}
use Rattle.jr_kept_runs.specs.KeepsRuns.{KeepsFirstValues}
use Rattle.jr_kept_runs.specs.Laws.{sources_of}
use Rattle.jr_kept_runs.proofs.SameBodies.{static_same}
use Rattle.jr_local.specs.Scopes.{same_images}
use Rattle.jr_rename_laws.specs.ImageLaws.{no_mark}
use Rattle.jr_rename_laws.specs.Beside.{ClassBeside, MembersBeside, MemberBeside, ClassesBeside, UnitsBeside}
use Rattle.jr_kept_rows.proofs.BareTrees.{mods_in, name_in, init_in}
use Rattle.jr_kept_rows.proofs.ItemsBeside.{Head, Both, SameField}

-- ---- keys that stay

abbrev kept : KeyMap RunKeys
kept = same_keys

stays_so : {X : Type 0} (k : X) (o : Option X) → or_image (λ (x : X). x) k o o ≡ k
stays_so k None = refl
stays_so k (Some x) = refl

exchanges_none : {X : Type 0} (same : X → X → Bool) (xs : List X) (k : X) → exchange same (λ (x : X). x) xs k ≡ k
exchanges_none same xs k = stays_so k (first_that (λ x. same x k) xs)

keys_same : (rows : List Row) → exchanged (map_by (same_images rows)) rows ≡ kept
keys_same rows = λ i. record {
  class = λ k. exchanges_none same_class (keys_by class_in rows) k i;
  field = λ k. exchanges_none same_field (keys_by field_in rows) k i;
  method = λ k. exchanges_none same_method (keys_by method_in rows) k i;
  constructor = λ k. exchanges_none same_ctor (keys_by ctor_in rows) k i;
}

value_same : (v : core_value.Value RunKeys) → value_image kept v ≡ v
value_same (core_value.int z) = refl
value_same (core_value.truth b) = refl
value_same core_value.null = refl
value_same (core_value.text s) = refl
value_same (core_value.class_object c) = refl
value_same (core_value.object n c) = refl

first_same : (x : First RunKeys) → first_image kept x ≡ x
first_same (gives v) = ap gives (value_same v)
first_same (makes c) = refl

-- ---- initializers

module _ (first first' : FieldKey → First RunKeys) where
  -- of one form, and so of one value
  form_back : (e d : tree.Exp Span) → bare d ≡ bare e → (x y : First RunKeys) → FirstOf e x → FirstOf d y → FirstOf e y
  form_back e d same x y mine yours = subst (λ (z : First RunKeys). FirstOf e z) (first_value e x mine ∙ sym (same_value d e same) ∙ sym (first_value d y yours)) mine

  static_back : (b : Bool) (of of' : ClassKey) (w v : tree.Word Span) (e d : tree.Exp Span) → of' ≡ of → v.text ≡ w.text → bare d ≡ bare e → StaticFirst begins first b of w e → StaticFirst begins first' b of' v d → StaticFirst begins first' b of w e
  static_back true of of' w v e d same name bares mine yours =
      let key : record { class = of'; name = v.text } ≡ record { class = of; name = w.text } = λ i. record { class = same i; name = name i } in
      form_back e d bares (first (record { class = of; name = w.text })) (first' (record { class = of; name = w.text })) mine (subst (λ (k : FieldKey). FirstOf d (first' k)) key yours)
  static_back false of of' w v e d same name bares mine yours = tt

  field_back : (b i : ℕ) (of of' : ClassKey) (m : Span) (mods : List (syntax.Modifier Span)) (t : tree.TypeName Span) (w : tree.Word Span) (e : tree.Exp Span) (y : syntax.Member Span) → SameField of of' (syntax.field m mods t w (Some e)) y
      → MemberFirst begins first b of (syntax.field m mods t w (Some e)) → MemberFirst begins first' i of' y → MemberFirst begins first' b of (syntax.field m mods t w (Some e))
  unfolding MemberFirst map_member
  field_back b i of of' m mods t w e (syntax.field k nods u v (Some d)) same mine yours =
      let bares : map_member no_mark (syntax.field k nods u v (Some d)) ≡ map_member no_mark (syntax.field m mods t w (Some e)) = same.1 in
      let modifiers : map (map_modifier no_mark) nods ≡ map (map_modifier no_mark) mods = ap mods_in bares in
      let inits : bare d ≡ bare e = same_Some _ _ (ap init_in bares) in
      let name : v.text ≡ w.text = ap name_in bares in
      let is_static : is_static_member begins nods ≡ is_static_member begins mods = static_same begins nods mods modifiers in
      static_back (is_static_member begins mods) of of' w v e d same.0 name inits mine (subst (λ (s : Bool). StaticFirst begins first' s of' v d) is_static yours)
  field_back b i of of' m mods t w e (syntax.field k nods u v None) same mine yours = (let bares = same.1 in absurd cc)
  field_back b i of of' m mods t w e (syntax.method k nods u v ps body) same mine yours = (let bares = same.1 in absurd cc)
  field_back b i of of' m mods t w e (syntax.constructor k nods v ps args body) same mine yours = (let bares = same.1 in absurd cc)
  field_back b i of of' m mods t w e (syntax.inner k c) same mine yours = (let bares = same.1 in absurd cc)

  mutual
    unfolding ClassBeside MembersBeside MemberBeside ClassFirsts MembersFirsts MemberFirst

    class_back : (b i : ℕ) (o p : Option (List ℕ)) (c d : syntax.Class Span) → ClassBeside begins begins Head Both b i o p c d → ClassFirsts begins first b o c → ClassFirsts begins first' i p d → ClassFirsts begins first' b o c
    class_back b i o p (syntax.class m mods w t ms) (syntax.class k nods v u ns) h mine yours =
        members_back (begins m b) (begins k i) (class_key begins o w.text) (class_key begins p v.text) ms ns h.1 mine yours

    members_back : (b i : ℕ) (of of' : ClassKey) (xs ys : syntax.Members Span) → MembersBeside begins begins Head Both b i of of' xs ys → MembersFirsts begins first b of xs → MembersFirsts begins first' i of' ys → MembersFirsts begins first' b of xs
    members_back b i of of' syntax.end ys h mine yours = tt
    members_back b i of of' (syntax.more x xs) syntax.end h mine yours = absurd h
    members_back b i of of' (syntax.more x xs) (syntax.more y ys) h mine yours = (one_back b i of of' x y h.0 mine.0 yours.0, members_back b i of of' xs ys h.1 mine.1 yours.1)

    one_back : (b i : ℕ) (of of' : ClassKey) (x y : syntax.Member Span) → MemberBeside begins begins Head Both b i of of' x y → MemberFirst begins first b of x → MemberFirst begins first' i of' y → MemberFirst begins first' b of x
    one_back b i of of' (syntax.field m mods t w (Some e)) y h mine yours = field_back b i of of' m mods t w e y h.1 mine yours
    one_back b i of of' (syntax.field m mods t w None) y h mine yours = tt
    one_back b i of of' (syntax.method m mods t w ps body) y h mine yours = tt
    one_back b i of of' (syntax.constructor m mods w ps args body) y h mine yours = tt
    one_back b i of of' (syntax.inner m c) (syntax.inner k d) h mine yours = class_back (begins m b) (begins k i) (Some of.name) (Some of'.name) c d h mine yours
    one_back b i of of' (syntax.inner m c) (syntax.field k nods u v init) h mine yours = absurd h
    one_back b i of of' (syntax.inner m c) (syntax.method k nods u v ps body) h mine yours = absurd h
    one_back b i of of' (syntax.inner m c) (syntax.constructor k nods v ps args body) h mine yours = absurd h

  classes_back : (b i : ℕ) (cs ds : List (syntax.Class Span)) → ClassesBeside begins begins Head Both b i cs ds → ClassesFirsts begins first b cs → ClassesFirsts begins first' i ds → ClassesFirsts begins first' b cs
  classes_back b i [] ds h mine yours = tt
  classes_back b i (c ∷ cs) [] h mine yours = absurd h
  classes_back b i (c ∷ cs) (d ∷ ds) h mine yours = (class_back b i None None c d h.0 mine.0 yours.0, classes_back b i cs ds h.1 mine.1 yours.1)

  pub units_back : (us vs : List (syntax.Unit Span)) → UnitsBeside begins begins Head Both us vs → UnitsFirsts begins first us → UnitsFirsts begins first' vs → UnitsFirsts begins first' us
  units_back [] vs h mine yours = tt
  units_back (u ∷ us) [] h mine yours = absurd h
  units_back (u ∷ us) (v ∷ vs) h mine yours = (classes_back (begins u.mark 0) (begins v.mark 0) u.classes v.classes h.0 mine.0 yours.0, units_back us vs h.1 mine.1 yours.1)

-- ---- types of fields

same_types : (rows : List Row) (R S : core_rows.Rows RunKeys) → AreRunRows rows R → AreRunRows rows S → (k : FieldKey) → R.field_type k ≡ S.field_type k
same_types rows R S mine yours k = elim (row_or rows (field_decl k)) [
  | inl (j, i) ↦ mine.field_type k j i ∙ sym (yours.field_type k j i)
  | inr not ↦ (mine.no_field k not).1 ∙ sym (yours.no_field k not).1
]

-- ---- of two programs

module _ (one : FirstValuesAreOne Span) (p q : Program Span) (program : IsProgram itself (λ m b. Unit {0}) p)
    (beside : UnitsBeside begins begins Head Both (units_of p) (units_of q)) (rows : q.rows ≡ p.rows) where
  module _ (R S : core_rows.Rows RunKeys) (old : AreRunRows p.rows R) (new : AreRunRows q.rows S) (first first' : FieldKey → First RunKeys) (mine : AreFirstValues begins p.rows (units_of p) R first) (yours : AreFirstValues begins q.rows (units_of q) S first') where
    -- what the new fields begin with, the old ones may begin with
    also : AreFirstValues begins p.rows (units_of p) R first'
    also = record {
      initializers = units_back first first' (units_of p) (units_of q) beside mine.initializers yours.initializers;
      default = λ k none. yours.default k (λ h. none (subst (λ (z : List Row). HasFirst z k) rows h))
          ∙ ap (λ (t : core_value.Ty RunKeys). gives (default_of t)) (same_types p.rows S R (subst (λ (z : List Row). AreRunRows z S) rows new) old k);
    }

    same_first : (k : FieldKey) → first' k ≡ first k
    same_first k = one begins (units_of p) p.rows program.are_rows program.rows R first' first also mine k

    image : (k : FieldKey) → first' (kept.field k) ≡ first_image kept (first k)
    image k = same_first k ∙ sym (first_same (first k))

  pub firsts_kept : KeepsFirstValues (map_by (same_images p.rows)) (sources_of p) (sources_of q)
  firsts_kept P Q old new first first' mine yours k =
      subst (λ (r : KeyMap RunKeys). first' (r.field k) ≡ first_image r (first k)) (sym (keys_same p.rows)) (image P.rows Q.rows old.declarations new.declarations first first' mine yours k)
