-- How a type is written where the new local is in scope, by the words of a walk.
use Rattle.std.specs.Prelude.{
  ◌≡◌,
  ℕ,
  List,
  ◌++◌,
  map,
  [],
  length,
  ◌≤◌,
  string_bytes,
}
use Rattle.jr_text.specs.declared.spans.Span.{Span}
use Rattle.jr_ast.specs.Tree as tree
use Rattle.jr_grammar.specs.Layout.{itself}
use Rattle.jr_print.specs.ExpressionText.{printed_type}
use Rattle.jr_table.specs.Keys.{ClassKey, Ty, int, boolean, void, null, class}
use Rattle.jr_table.specs.Rows.{Row}
use Rattle.jr_table.specs.Context.{Context}
use Rattle.jr_rewrite.specs.Respellings.{
  Front,
  same,
  alone,
  by_this,
  by_super,
  by_cast_this,
  by_class,
  by_outer_class,
  by_cast,
  front_text,
  Respelling,
  Choice,
  stays,
  becomes,
  loses,
}
use Rattle.jr_rewrite.specs.Rewritten.{Rewritten, plain, count_of, simple_type_out}
use Rattle.jr_new_words.specs.declared.choices.Lost as raw_lost
use Rattle.jr_new_words.specs.ChoiceView.{lost_of}
use Rattle.jr_new_words.specs.Mappings.{Mapping}
use Rattle.jr_new_words.specs.Ways.{MakesType}
use Rattle.jr_local.specs.Extracted.{word_of}
use Rattle.jr_extract_lists.specs.declared.written_types.WrittenType as raw

-- a local can have the type
abbrev pub CanBeWritten : Ty → Type 0
CanBeWritten int = Unit {0}
CanBeWritten boolean = Unit {0}
CanBeWritten void = ⊥
CanBeWritten null = ⊥
CanBeWritten (class k) = Unit {0}

-- the text, the count and the loss of a type that is written so
pub record Tells (o : Rewritten (tree.TypeName Span)) (w : raw.WrittenType) : Type 0 where
  pub text : string_bytes w.text ≡ printed_type o.tree
  pub respelled : w.respelled ≡ o.respelled
  pub losses : map lost_of w.losses.items ≡ o.losses
  pub few : length w.losses.items ≤ 1

-- it has this text, and nothing is respelled
abbrev pub IsAsIs : List ℕ → List raw_lost.Lost → raw.WrittenType → Type 0
IsAsIs text losses w =
    (string_bytes w.text ≡ text) × (w.respelled ≡ 0) × (w.losses.items ≡ losses)

-- it has the front and the word, which is respelled where that has a front of its own
abbrev pub IsRespelled : Respelling → raw.WrittenType → Type 0
IsRespelled r w = (string_bytes w.text ≡ front_text r.front ++ r.text)
    × (w.respelled ≡ count_of (becomes r)) × (w.losses.items ≡ [])

-- ---- what is chosen for a class as a type

-- what may stand in front of its name
abbrev pub IsTypeFront : Front → Type 0
IsTypeFront same = Unit {0}
IsTypeFront alone = Unit {0}
IsTypeFront by_this = ⊥
IsTypeFront by_super = ⊥
IsTypeFront (by_cast_this k) = ⊥
IsTypeFront (by_class k) = Unit {0}
IsTypeFront (by_outer_class o k) = ⊥
IsTypeFront (by_cast k) = ⊥

abbrev pub SpellsType : Choice → Type 0
SpellsType stays = Unit {0}
SpellsType (becomes r) = IsTypeFront r.front
SpellsType (loses l) = Unit {0}

-- whatever mark it has
abbrev pub IsOfChoice : ClassKey → Choice → raw.WrittenType → Type 0
IsOfChoice k h w = (m : Span) → Tells (simple_type_out itself h m 0 (word_of m k.name)) w

module _ (rows : List Row) (g : Mapping) (c : Context) (at : ℕ) where
  -- `jr_local: WritesType` by the words of a walk
  abbrev pub WritesBy : Span → Ty → Rewritten (tree.TypeName Span) → Type 0
  WritesBy m int o = o ≡ plain (tree.int m)
  WritesBy m boolean o = o ≡ plain (tree.boolean m)
  WritesBy m (class k) o = (h : Choice) × MakesType rows g c at k h
      × (o ≡ simple_type_out itself h m 0 (word_of m k.name))
  WritesBy m void o = ⊥
  WritesBy m null o = ⊥

  abbrev pub IsWritten : Ty → raw.WrittenType → Type 0
  IsWritten type w =
      (m : Span) → (o : Rewritten (tree.TypeName Span)) × WritesBy m type o × Tells o w
