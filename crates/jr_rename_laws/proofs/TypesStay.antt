-- Written types stay as they are where no class is renamed: the spelling that was asked binds.
use Rattle.std.proofs.Common.{◌≡◌, ℕ, zero, suc, ◌<◌, List, [], ◌∷◌, ◌++◌, length, Option, Some, None, false, refl, sym, ap, subst, ◌∙◌, inl, inr, arith}
use Rattle.std.specs.Prelude.{option_map, slice_get, if◌then◌else◌}
use Rattle.std.specs.List.{position_or_len}
use Rattle.std.proofs.lemmas.Option.{slice_get-map, same_Some}
use Rattle.jr_text.specs.declared.spans.Span.{Span}
use Rattle.jr_ast.specs.Tree as tree
use Rattle.jr_ast.specs.Remarked.{map_word, map_type}
use Rattle.jr_table.specs.declared.entries.Entry.{Entry}
use Rattle.jr_table.specs.declared.answers.Answer.TheVariants as number
use Rattle.jr_table.specs.Keys.{ClassKey}
use Rattle.jr_table.specs.Decls.{class_decl, head}
use Rattle.jr_table.specs.Rows.{Row}
use Rattle.jr_table.specs.Prelude.{top_key}
use Rattle.jr_table.specs.Entries.{IsRowOf, name_of, entry_of, entries_of, class_of_member}
use Rattle.jr_table.specs.Members.{DeclaresType, MemberAmong}
use Rattle.jr_table.specs.Found.{Found, one}
use Rattle.jr_table.specs.Scope.{Scope}
use Rattle.jr_table.specs.Lookup.{FindsTypeNamed, FindsTypeOf}
use Rattle.jr_table.specs.Context.{Context, scope_of, NamesClass}
use Rattle.jr_table.specs.HeadRules.{plain, TopFinds}
use Rattle.jr_spell.specs.declared.references.RefForm.TheVariants as ref
use Rattle.jr_spell.specs.declared.spellings.Form.{Form}
use Rattle.jr_spell.specs.declared.spellings.Form.TheVariants.{Asked, Class, OuterClass}
use Rattle.jr_spell.specs.Binds.{Binds, is_dot, front_word, last_word}
use Rattle.jr_spell.specs.Taken.{IsTaken}
use Rattle.jr_rewrite.specs.Respellings.{Front, same, Choice, front_of, text_of}
use Rattle.jr_rewrite.specs.Rewritten.{Rewritten, word_to, qualifier_to, losses_of, drops_qualifier}
use Rattle.jr_rewrite.specs.Rewrites.{Choosing, TypeOut, RewritesType}
use Rattle.jr_images.specs.Images.{Renaming, class_to, rows_to, scope_to}
use Rattle.jr_rename_laws.specs.ImageLaws.{no_mark}
use Rattle.jr_images.specs.Spelling.{renamed, spelled, reference, dotted, spelling, Spells, TypeSpells, QualifierSpells, ParentSpells, ParentQualifierSpells}
use Rattle.jr_images.proofs.Chosen.{renamed_text, renamed_front, lost_some, left_none, right_none}
use Rattle.jr_images.proofs.Dotted.{whole_front, whole_last, dotted_front, dotted_last}
use Rattle.jr_rename_laws.proofs.Still.{IsStill, class_same}

-- ---- what is found by a name has it

row_named : (rows : List Row) (j : ℕ) (e : Entry) (k : ClassKey) → slice_get (entries_of rows) j ≡ Some e → IsRowOf rows (class_decl k) j → k.name ≡ e.name
unfolding entries_of
row_named rows j e k at is =
    let there : Some (entry_of rows is.row) ≡ Some e = sym (ap (option_map (entry_of rows)) is.stands) ∙ sym (slice_get-map (entry_of rows) rows j) ∙ at in
    ap name_of (sym is.declares) ∙ ap (λ (x : Entry). x.name) (same_Some _ _ there)

among_named : (rows : List Row) (name : List ℕ) (j : ℕ) (k : ClassKey) → IsRowOf rows (class_decl k) j → (chain : List ℕ) → MemberAmong (entries_of rows) (DeclaresType (entries_of rows) name) chain j → k.name ≡ name
among_named rows name j k is [] h = absurd h
among_named rows name j k is (c ∷ cs) (inl own) = row_named rows j own.row k own.stands is ∙ own.named
among_named rows name j k is (c ∷ cs) (inr (none, among, free)) = among_named rows name j k is cs among

pub named_is : (rows : List Row) (s : Scope) (name : List ℕ) (k : ClassKey) → FindsTypeNamed rows s name (one (class_decl k)) → k.name ≡ name
named_is rows s name k (number.One j, inl (e, inner, member), shows) = among_named rows name j k shows member.chain member.among
named_is rows s name k (number.One j, inr (none, is), shows) =
    let a = shows.stands in
    let b = is.stands in
    let row : shows.row ≡ is.row = same_Some _ _ (sym a ∙ b) in
    ap name_of (sym shows.declares ∙ ap (λ (r : Row). r.decl) row ∙ is.declares)
named_is rows s name k (number.Nothing, finds, shows) = absurd shows
named_is rows s name k (number.Many i j, finds, shows) = absurd shows
named_is rows s name k (number.NotAccessible j, finds, shows) = absurd shows
named_is rows s name k (number.FromStatic j, finds, shows) = absurd shows

pub member_is : (rows : List Row) (s : Scope) (o : ClassKey) (name : List ℕ) (k : ClassKey) → FindsTypeOf rows s o name (one (class_decl k)) → k.name ≡ name
member_is rows s o name k (number.One j, (member, free), shows) = among_named rows name j k shows member.chain member.among
member_is rows s o name k (number.Nothing, finds, shows) = absurd shows
member_is rows s o name k (number.Many i j, finds, shows) = absurd shows
member_is rows s o name k (number.NotAccessible j, finds, shows) = absurd shows
member_is rows s o name k (number.FromStatic j, finds, shows) = absurd shows

pub found_at : (rows : List Row) (s : Scope) (name : List ℕ) (k : ClassKey) → FindsTypeNamed rows s name (one (class_decl k)) → (j : ℕ) × IsRowOf rows (class_decl k) j
found_at rows s name k (number.One j, finds, shows) = (j, shows)
found_at rows s name k (number.Nothing, finds, shows) = absurd shows
found_at rows s name k (number.Many i j, finds, shows) = absurd shows
found_at rows s name k (number.NotAccessible j, finds, shows) = absurd shows
found_at rows s name k (number.FromStatic j, finds, shows) = absurd shows

-- ---- a choice by which a word stays

abbrev pub Stays : Choice → List ℕ → Type 0
Stays h old = (front_of h ≡ same) × (text_of h old ≡ old)

renamed_stays : (old new : List ℕ) (h : Choice) → h ≡ renamed old new → new ≡ old → Stays h old
renamed_stays old new h is e = (ap front_of is ∙ renamed_front old new, ap (λ (x : Choice). text_of x old) is ∙ renamed_text old new ∙ e)

-- what is known of the two programs
pub record TypesKeep (rows : List Row) (g : Renaming) : Type 0 where
  pub still : IsStill g
  pub named : (s : Scope) (name : List ℕ) (k : ClassKey) → FindsTypeNamed rows s name (one (class_decl k)) → FindsTypeNamed (rows_to g rows) s name (one (class_decl k))
  pub member : (s : Scope) (o : ClassKey) (name : List ℕ) (k : ClassKey) → FindsTypeOf rows s o name (one (class_decl k)) → FindsTypeOf (rows_to g rows) s o name (one (class_decl k))
  pub whole : (k : ClassKey) (j : ℕ) → IsRowOf rows (class_decl k) j → position_or_len is_dot k.name ≡ length k.name

module _ (rows : List Row) (g : Renaming) (keep : TypesKeep rows g) where
  to_named : (c : Context) (name : List ℕ) (k : ClassKey) → FindsTypeNamed rows (scope_of c) name (one (class_decl k)) → FindsTypeNamed (rows_to g rows) (scope_to g c) name (one (class_decl k))
  to_named c name k h = subst (λ (z : ClassKey). FindsTypeNamed (rows_to g rows) (record { class = z; is_static = false; locals = [] }) name (one (class_decl k)))
      (sym (class_same g keep.still (class_of_member c.member))) (keep.named (scope_of c) name k h)

  to_member : (c : Context) (o : ClassKey) (name : List ℕ) (k : ClassKey) → FindsTypeOf rows (scope_of c) o name (one (class_decl k)) → FindsTypeOf (rows_to g rows) (scope_to g c) o name (one (class_decl k))
  to_member c o name k h = subst (λ (z : ClassKey). FindsTypeOf (rows_to g rows) (record { class = z; is_static = false; locals = [] }) o name (one (class_decl k)))
      (sym (class_same g keep.still (class_of_member c.member))) (keep.member (scope_of c) o name k h)

  whole_of : (c : Context) (name : List ℕ) (k : ClassKey) → FindsTypeNamed rows (scope_of c) name (one (class_decl k)) → position_or_len is_dot k.name ≡ length k.name
  whole_of c name k h = let j = found_at rows (scope_of c) name k h in keep.whole k j.0 j.1

  -- a class that is asked by this text binds so, and the asked spelling is the first
  module _ (s : Scope) (text : List ℕ) (k : ClassKey) (binds : NamesClass (rows_to g rows) s (front_word text) (last_word text) k) where
    first_asked : (f : Form) (n : ℕ) → slice_get (Asked ∷ Class ∷ OuterClass ∷ []) n ≡ Some f
        → ((i : ℕ) (x : Form) → i < n → slice_get (Asked ∷ Class ∷ OuterClass ∷ []) i ≡ Some x → Binds (rows_to g rows) s (reference ref.ClassName text None []) (class_decl k) x → ⊥) → f ≡ Asked
    first_asked f zero at none = sym (same_Some _ _ at)
    first_asked f (suc n) at none = absurd (none 0 Asked (omega arith) refl binds)

    taken_asked : (f : Form) → IsTaken (rows_to g rows) s (reference ref.ClassName text None []) (class_decl k) f → f ≡ Asked
    taken_asked f t = first_asked f t.place t.stands t.first

  simple_binds : (c : Context) (name : List ℕ) (k : ClassKey) → FindsTypeNamed rows (scope_of c) name (one (class_decl k)) → NamesClass (rows_to g rows) (scope_to g c) (front_word k.name) (last_word k.name) k
  simple_binds c name k h =
      let whole = whole_of c name k h in
      let own = subst (λ (n : List ℕ). FindsTypeNamed (rows_to g rows) (scope_to g c) n (one (class_decl k))) (sym (named_is rows (scope_of c) name k h)) (to_named c name k h) in
      subst (λ (o : Option (List ℕ)). NamesClass (rows_to g rows) (scope_to g c) o (last_word k.name) k) (sym (whole_front k.name whole))
      (subst (λ (n : List ℕ). NamesClass (rows_to g rows) (scope_to g c) None n k) (sym (whole_last k.name whole)) own)

  qualified_binds : (c : Context) (front name : List ℕ) (o k : ClassKey) → FindsTypeNamed rows (scope_of c) front (one (class_decl o)) → FindsTypeOf rows (scope_of c) o name (one (class_decl k))
      → NamesClass (rows_to g rows) (scope_to g c) (front_word (dotted o.name k.name)) (last_word (dotted o.name k.name)) k
  qualified_binds c front name o k h i =
      let whole = whole_of c front o h in
      let outer = subst (λ (n : List ℕ). FindsTypeNamed (rows_to g rows) (scope_to g c) n (one (class_decl o))) (sym (named_is rows (scope_of c) front o h)) (to_named c front o h) in
      let own = subst (λ (n : List ℕ). FindsTypeOf (rows_to g rows) (scope_to g c) o n (one (class_decl k))) (sym (member_is rows (scope_of c) o name k i)) (to_member c o name k i) in
      subst (λ (x : Option (List ℕ)). NamesClass (rows_to g rows) (scope_to g c) x (last_word (dotted o.name k.name)) k) (sym (dotted_front o.name k.name whole))
      (subst (λ (n : List ℕ). NamesClass (rows_to g rows) (scope_to g c) (Some o.name) n k) (sym (dotted_last o.name k.name whole)) (o, outer, own))

  module _ {A : Type 0} (tells : A → ℕ → Span) where
    abbrev begins : A → ℕ → ℕ
    begins m b = (tells m b).from

    -- spelled as a class's name
    spelled_stays : (s : Scope) (at : ℕ) (old text : List ℕ) (k : ClassKey) (Finds : Found → Type 0) (h : Choice) → k.name ≡ old
        → NamesClass (rows_to g rows) s (front_word text) (last_word text) (class_to g k)
        → Spells begins rows g s at old (class_to g k).name (class_decl k) (reference ref.ClassName text None []) Finds h → losses_of h ≡ [] → Stays h old
    spelled_stays s at old text k Finds h named binds (inl (f, taken, is)) none =
        let asked = taken_asked s text (class_to g k) binds f taken in
        renamed_stays old (class_to g k).name h (is ∙ ap (spelled old (class_to g k).name (class_to g k)) asked) (ap (λ (x : ClassKey). x.name) (class_same g keep.still k) ∙ named)
    spelled_stays s at old text k Finds h named binds (inr (never, (f, finds, is))) none = absurd (lost_some _ (sym (ap losses_of is) ∙ none))

    -- the word of a type, and the one in front of its dot
    abbrev pub back_of : tree.TypeName A → List ℕ
    back_of (tree.int m) = []
    back_of (tree.boolean m) = []
    back_of (tree.named m o w) = w.text

    abbrev pub left_of : tree.TypeName A → List ℕ
    left_of (tree.int m) = []
    left_of (tree.boolean m) = []
    left_of (tree.named m None w) = []
    left_of (tree.named m (Some v) w) = v.text

    name_stays : (c : Context) (base : ℕ) (t : tree.TypeName A) (h : Choice) → TypeSpells begins rows g c base t h → losses_of h ≡ [] → Stays h (back_of t)
    name_stays c base (tree.int m) h x none = absurd x
    name_stays c base (tree.boolean m) h x none = absurd x
    name_stays c base (tree.named m None w) h (k, names, spells) none =
        spelled_stays (scope_to g c) _ w.text (class_to g k).name k _ h (named_is rows (scope_of c) w.text k names)
        (subst (λ (j : ClassKey). NamesClass (rows_to g rows) (scope_to g c) (front_word j.name) (last_word j.name) j) (sym (class_same g keep.still k)) (simple_binds c w.text k names))
        spells none
    name_stays c base (tree.named m (Some v) w) h (o, k, front, back, spells) none =
        spelled_stays (scope_to g c) _ w.text (dotted (class_to g o).name (class_to g k).name) k _ h (member_is rows (scope_of c) o w.text k back)
        (subst (λ (i : ClassKey). NamesClass (rows_to g rows) (scope_to g c) (front_word (dotted i.name (class_to g k).name)) (last_word (dotted i.name (class_to g k).name)) (class_to g k)) (sym (class_same g keep.still o))
        (subst (λ (j : ClassKey). NamesClass (rows_to g rows) (scope_to g c) (front_word (dotted o.name j.name)) (last_word (dotted o.name j.name)) j) (sym (class_same g keep.still k)) (qualified_binds c v.text w.text o k front back)))
        spells none

    left_stays : (c : Context) (base : ℕ) (t : tree.TypeName A) (h : Choice) → QualifierSpells begins rows g c base t h → losses_of h ≡ [] → Stays h (left_of t)
    left_stays c base (tree.int m) h x none = absurd x
    left_stays c base (tree.boolean m) h x none = absurd x
    left_stays c base (tree.named m None w) h x none = absurd x
    left_stays c base (tree.named m (Some v) w) h (o, finds, inl (leads, is)) none =
        renamed_stays v.text (class_to g o).name h is (ap (λ (x : ClassKey). x.name) (class_same g keep.still o) ∙ named_is rows (scope_of c) v.text o finds)
    left_stays c base (tree.named m (Some v) w) h (o, finds, inr (never, (f, found, is))) none = absurd (lost_some _ (sym (ap losses_of is) ∙ none))

    top_named : (name : List ℕ) (k : ClassKey) → TopFinds rows name (one (class_decl k)) → k.name ≡ name
    top_named name k (inl (j, is, e)) = let p : k ≡ top_key name = cc in ap (λ (x : ClassKey). x.name) p
    top_named name k (inr (none, e)) = absurd cc

    parent_stays : (outer : Option (List ℕ)) (base : ℕ) (t : tree.TypeName A) (h : Choice) → ParentSpells begins rows g outer base t h → losses_of h ≡ [] → Stays h (back_of t)
    parent_stays (Some o) base t h x none = name_stays (plain (head (top_key o)) false) base t h x none
    parent_stays None base (tree.int m) h x none = absurd x
    parent_stays None base (tree.boolean m) h x none = absurd x
    parent_stays None base (tree.named m (Some v) w) h x none = absurd x
    parent_stays None base (tree.named m None w) h (k, finds, inl (leads, is)) none =
        renamed_stays w.text (class_to g k).name h is (ap (λ (x : ClassKey). x.name) (class_same g keep.still k) ∙ top_named w.text k finds)
    parent_stays None base (tree.named m None w) h (k, finds, inr (never, (f, found, is))) none = absurd (lost_some _ (sym (ap losses_of is) ∙ none))

    parent_left_stays : (outer : Option (List ℕ)) (base : ℕ) (t : tree.TypeName A) (h : Choice) → ParentQualifierSpells begins rows g outer base t h → losses_of h ≡ [] → Stays h (left_of t)
    parent_left_stays (Some o) base t h x none = left_stays (plain (head (top_key o)) false) base t h x none
    parent_left_stays None base t h x none = absurd x

    -- ---- whole types

    abbrev bare : tree.TypeName A → tree.TypeName (Unit {0})
    bare t = map_type no_mark t

    abbrev bare_word : tree.Word A → tree.Word (Unit {0})
    bare_word w = map_word no_mark w

    pub out_stays : (C : Choosing A) (Q N : Choice → Type 0) (base : ℕ) (t : tree.TypeName A) (o : Rewritten (tree.TypeName A))
        → ((h : Choice) → Q h → losses_of h ≡ [] → Stays h (left_of t)) → ((h : Choice) → N h → losses_of h ≡ [] → Stays h (back_of t))
        → TypeOut tells C Q N base t o → o.losses ≡ [] → bare o.tree ≡ bare t
    out_stays C Q N base (tree.int m) o q n is none = ap (λ (x : Rewritten (tree.TypeName A)). bare x.tree) is
    out_stays C Q N base (tree.boolean m) o q n is none = ap (λ (x : Rewritten (tree.TypeName A)). bare x.tree) is
    out_stays C Q N base (tree.named m None w) o q n (h, name, is) none =
        let s = n h name (sym (ap (λ (x : Rewritten (tree.TypeName A)). x.losses) is) ∙ none) in
        ap (λ (x : Rewritten (tree.TypeName A)). bare x.tree) is
        ∙ ap (λ (f : Front). bare (tree.named m (qualifier_to m f None) (word_to h w))) s.0
        ∙ (λ i. tree.named tt None (record { mark = tt; text = s.1 i }))
    out_stays C Q N base (tree.named m (Some v) w) o q n (p, h, left, name, is) none =
        let all : (if drops_qualifier tells (front_of h) then [] else losses_of p) ++ losses_of h ≡ [] = sym (ap (λ (x : Rewritten (tree.TypeName A)). x.losses) is) ∙ none in
        let s = n h name (right_none (if drops_qualifier tells (front_of h) then [] else losses_of p) (losses_of h) all) in
        let z = q p left (sym (ap (λ (f : Front). if drops_qualifier tells f then [] else losses_of p) s.0) ∙ left_none (if drops_qualifier tells (front_of h) then [] else losses_of p) (losses_of h) all) in
        ap (λ (x : Rewritten (tree.TypeName A)). bare x.tree) is
        ∙ ap (λ (f : Front). bare (tree.named m (qualifier_to m f (Some (word_to p v))) (word_to h w))) s.0
        ∙ (λ i. tree.named tt (Some (record { mark = tt; text = z.1 i })) (record { mark = tt; text = s.1 i }))

    -- where nothing is lost a written type stays, and a superclass
    pub type_stays : (super_at : Context → ℕ) (c : Context) (base : ℕ) (t : tree.TypeName A) (o : Rewritten (tree.TypeName A)) → RewritesType tells (spelling begins rows g super_at) c base t o → o.losses ≡ [] → bare o.tree ≡ bare t
    type_stays super_at c base t o is none = out_stays (spelling begins rows g super_at) (QualifierSpells begins rows g c base t) (TypeSpells begins rows g c base t) base t o (left_stays c base t) (name_stays c base t) is none

    pub superclass_stays : (super_at : Context → ℕ) (outer : Option (List ℕ)) (base : ℕ) (t : tree.TypeName A) (o : Rewritten (tree.TypeName A))
        → TypeOut tells (spelling begins rows g super_at) (ParentQualifierSpells begins rows g outer base t) (ParentSpells begins rows g outer base t) base t o → o.losses ≡ [] → bare o.tree ≡ bare t
    superclass_stays super_at outer base t o is none = out_stays (spelling begins rows g super_at) (ParentQualifierSpells begins rows g outer base t) (ParentSpells begins rows g outer base t) base t o (parent_left_stays outer base t) (parent_stays outer base t) is none
