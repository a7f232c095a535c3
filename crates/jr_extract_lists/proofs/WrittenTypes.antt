-- How a type is written: by what is chosen for its class.
use Rattle.std.proofs.Common.{◌≡◌, ℕ, zero, suc, Bool, true, false, List, [], ◌∷◌, length, ◌≤◌, map, Option, Some, None, codes, refl, sym, ap, subst, ◌∙◌, inl, inr, arith}
use Rattle.std.specs.Prelude.{slice_get, if◌then◌else◌}
use Rattle.jr_ast.specs.Tree as tree
use Rattle.jr_grammar.specs.Layout.{itself}
use Rattle.jr_table.specs.Keys.{ClassKey, int, boolean, class}
use Rattle.jr_table.specs.Decls.{class_decl}
use Rattle.jr_table.specs.Rows.{Row}
use Rattle.jr_table.specs.Context.{Context}
use Rattle.jr_spell.specs.declared.references.RefForm.TheVariants as ref
use Rattle.jr_spell.specs.declared.spellings.Form.{Form}
use Rattle.jr_spell.specs.Spellings.{forms}
use Rattle.jr_rewrite.specs.Respellings.{Front, same, alone, by_this, by_super, by_cast_this, by_class, by_outer_class, by_cast, Respelling, Choice, stays, becomes, loses}
use Rattle.jr_rewrite.specs.Rewritten.{plain, simple_type_out}
use Rattle.jr_table.specs.SameKeys.{same_name}
use Rattle.jr_images.specs.Spelling.{respelled, spelled, outer_type}
use Rattle.jr_new_words.specs.declared.choices.Lost as raw_lost
use Rattle.jr_new_words.specs.ChoiceView.{lost_of}
use Rattle.jr_new_words.specs.Mappings.{Mapping}
use Rattle.jr_new_words.specs.Ways.{MakesType}
use Rattle.jr_local.specs.Extracted.{word_of}
use Rattle.jr_extract_lists.specs.declared.written_types.WrittenType as raw
use Rattle.jr_extract_lists.specs.WrittenTypes.{IsAsIs, IsRespelled, IsTypeFront, SpellsType, IsOfChoice, IsWritten}

some_is : {X : Type 0} {x y : X} → (let a : Option X = Some x in a ≡ Some y) → x ≡ y
some_is e = cc

none_is : {X P : Type 0} {x : X} → (let a : Option X = None in a ≡ Some x) → P
none_is e = absurd cc

-- ---- what is chosen for a made type

abbrev key : Option (List ℕ) → List ℕ → ClassKey
key o name = record { outer = o; name = name }

named_so : (b : Bool) (new : List ℕ) → SpellsType (let h : Choice = if b then stays else respelled new same in h)
named_so true new = tt
named_so false new = tt

of_outer : (o : Option (List ℕ)) (name : List ℕ) → IsTypeFront (outer_type (key o name))
of_outer None name = tt
of_outer (Some o) name = tt

of_form : (old new : List ℕ) (o : Option (List ℕ)) (name : List ℕ) (f : Form) (n : ℕ) → slice_get (forms ref.ClassName (class_decl (key o name))) n ≡ Some f → SpellsType (spelled old new (key o name) f)
of_form old new o name f zero is = subst (λ (g : Form). SpellsType (spelled old new (key o name) g)) (some_is is) (named_so (same_name old new) new)
of_form old new o name f (suc zero) is = subst (λ (g : Form). SpellsType (spelled old new (key o name) g)) (some_is is) tt
of_form old new o name f (suc (suc zero)) is = subst (λ (g : Form). SpellsType (spelled old new (key o name) g)) (some_is is) (of_outer o name)
of_form old new o name f (suc (suc (suc n))) is = none_is is

pub made_spells : (rows : List Row) (g : Mapping) (c : Context) (at : ℕ) (k : ClassKey) (h : Choice) → MakesType rows g c at k h → SpellsType h
made_spells rows g c at k h (inl (f, taken, is)) = subst SpellsType (sym is) (of_form k.name _ _ _ f taken.place taken.stands)
made_spells rows g c at k h (inr (none, (f, finds, is))) = subst SpellsType (sym is) tt

-- ---- what is written

-- the losses of one
module _ (ls : List raw_lost.Lost) where
  lost_one : (l : raw_lost.Lost) → ls ≡ l ∷ [] → map lost_of ls ≡ lost_of l ∷ []
  lost_one l e = ap (map lost_of) e

  lost_none : ls ≡ [] → map lost_of ls ≡ []
  lost_none e = ap (map lost_of) e

  one_few : (l : raw_lost.Lost) → ls ≡ l ∷ [] → length ls ≤ 1
  one_few l e = let n : length ls ≡ 1 = ap length e in omega (arith, n)

  none_few : ls ≡ [] → length ls ≤ 1
  none_few e = let n : length ls ≡ 0 = ap length e in omega (arith, n)

-- in other words
pub as_is_so : (text : List ℕ) (ls : List raw_lost.Lost) (w : raw.WrittenType) (new : List ℕ) (now : List raw_lost.Lost) → text ≡ new → ls ≡ now → IsAsIs text ls w → IsAsIs new now w
as_is_so text ls w new now one two (a, b, c) = (a ∙ one, b, c ∙ two)

pub stays_so : (k : ClassKey) (w : raw.WrittenType) → IsAsIs k.name [] w → IsOfChoice k stays w
stays_so k w (text, count, lost) m = record { text = text; respelled = count; losses = lost_none w.losses.items lost; few = none_few w.losses.items lost }

pub loses_so : (k : ClassKey) (l : raw_lost.Lost) (w : raw.WrittenType) → IsAsIs k.name (l ∷ []) w → IsOfChoice k (loses (lost_of l)) w
loses_so k l w (text, count, lost) m = record { text = text; respelled = count; losses = lost_one w.losses.items l lost; few = one_few w.losses.items l lost }

becomes_so : (f : Front) → IsTypeFront f → (text : List ℕ) (k : ClassKey) (w : raw.WrittenType) → IsRespelled (record { text = text; front = f }) w → IsOfChoice k (becomes (record { text = text; front = f })) w
becomes_so same is text k w (as_text, count, lost) m = record { text = as_text; respelled = count; losses = lost_none w.losses.items lost; few = none_few w.losses.items lost }
becomes_so alone is text k w (as_text, count, lost) m = record { text = as_text; respelled = count; losses = lost_none w.losses.items lost; few = none_few w.losses.items lost }
becomes_so (by_class o) is text k w (as_text, count, lost) m = record { text = as_text; respelled = count; losses = lost_none w.losses.items lost; few = none_few w.losses.items lost }
becomes_so by_this is text k w h m = absurd is
becomes_so by_super is text k w h m = absurd is
becomes_so (by_cast_this q) is text k w h m = absurd is
becomes_so (by_outer_class o q) is text k w h m = absurd is
becomes_so (by_cast q) is text k w h m = absurd is

pub respelled_so : (r : Respelling) → IsTypeFront r.front → (k : ClassKey) (w : raw.WrittenType) → IsRespelled r w → IsOfChoice k (becomes r) w
respelled_so r is k w h = becomes_so r.front is r.text k w h

-- ---- of each type

module _ (rows : List Row) (g : Mapping) (c : Context) (at : ℕ) (w : raw.WrittenType) where
  pub int_so : IsAsIs (codes "int") [] w → IsWritten rows g c at int w
  int_so (text, count, lost) m = (plain (tree.int m), refl, record { text = text; respelled = count; losses = lost_none w.losses.items lost; few = none_few w.losses.items lost })

  pub boolean_so : IsAsIs (codes "boolean") [] w → IsWritten rows g c at boolean w
  boolean_so (text, count, lost) m = (plain (tree.boolean m), refl, record { text = text; respelled = count; losses = lost_none w.losses.items lost; few = none_few w.losses.items lost })

  pub class_so : (k : ClassKey) (h : Choice) → MakesType rows g c at k h → IsOfChoice k h w → IsWritten rows g c at (class k) w
  class_so k h made tells m = (simple_type_out itself h m 0 (word_of m k.name), (h, made, refl), tells m)
