-- What a walk has gathered, as contracts see it, and what is put for one word.
use Rattle.std.specs.Prelude.{
  ◌≡◌,
  ℕ,
  ◌+◌,
  List,
  [],
  ◌∷◌,
  ◌++◌,
  map,
  length,
  if◌then◌else◌,
}
use Rattle.jr_text.specs.declared.spans.Span.{Span}
use Rattle.jr_rewrite.specs.Respellings.{
  Front,
  Respelling,
  Choice,
  stays,
  becomes,
  loses,
  is_respelled,
  Loss,
  Change,
}
use Rattle.jr_rewrite.specs.Rewritten.{
  change,
  count_of,
  losses_of,
  word_changes,
  drops_operand,
}
use Rattle.jr_rewrite.specs.Puts.{
  before_changes,
  behind_changes,
  super_parts,
  class_changes,
  drops_class,
}
use Rattle.jr_rewrite.specs.ChangeView.{changes_of}
use Rattle.jr_new_words.specs.declared.choices.Lost as raw_lost
use Rattle.jr_new_words.specs.declared.choices.Chosen as raw_chosen
use Rattle.jr_new_words.specs.ChoiceView as view
use Rattle.jr_new_words.specs.ChoiceView.{lost_of}
use Rattle.jr_new_bodies.specs.declared.outputs.Output as raw
use Rattle.jr_new_bodies.specs.declared.outputs.Start as raw_start
use Rattle.jr_new_bodies.specs.Effects.{Effect, no_effect, both}
use Rattle.jr_new_bodies.specs.Spotting.{PartSpot, text_of}

abbrev pub chosen_of : raw_chosen.Chosen → Respelling
chosen_of r = view.chosen_of r

abbrev pub becoming : raw_chosen.Chosen → Choice
becoming r = becomes (view.chosen_of r)

abbrev pub losses_in : List raw_lost.Lost → List Loss
losses_in ls = map lost_of ls

abbrev pub gathered : raw.Output → Effect
gathered o = record {
  changes = changes_of o.changes.items;
  respelled = o.respelled;
  losses = losses_in o.losses.items;
}

-- so much was gathered when a part began
abbrev pub IsStart : raw_start.Start → Effect → Type 0
IsStart s e = (s.changes ≡ length e.changes) × (s.respelled ≡ e.respelled)
    × (s.losses ≡ length e.losses)

-- a word with nothing in front of it
abbrev pub alone : Choice → (word : Span) → Effect
alone h word = record {
  changes = word_changes h word;
  respelled = count_of h;
  losses = losses_of h;
}

-- `super.x`, in a node
abbrev pub behind_super : Choice → (node word : Span) → Effect
behind_super (becomes r) node word = record {
  changes = super_parts r node word;
  respelled = if is_respelled r.front then 1 else 0;
  losses = [];
}
behind_super stays node word = no_effect
behind_super (loses l) node word = record { changes = []; respelled = 0; losses = l ∷ [] }

-- what is put in front of an operand
abbrev pub in_front : Choice → (operand : Span) → Effect
in_front (becomes r) operand = record {
  changes = before_changes r.front operand;
  respelled = 0;
  losses = [];
}
in_front _ operand = no_effect

-- what is put behind an operand
abbrev pub put_behind : Respelling → (operand word : Span) → Effect
put_behind r operand word = record {
  changes = behind_changes r operand word;
  respelled = if is_respelled r.front then 1 else 0;
  losses = [];
}

-- what is left of it
abbrev pub left_of : Respelling → (inside : Effect) → Effect
left_of r inside = if drops_operand r.front then no_effect else inside

-- both
abbrev pub behind : Choice → (operand word : Span) → (inside : Effect) → Effect
behind (becomes r) operand word inside = both (left_of r inside) (put_behind r operand word)
behind stays operand word inside = inside
behind (loses l) operand word inside = both inside (record
    { changes = []; respelled = 0; losses = l ∷ [] })

-- a class as a type, behind the name of the class that it is a member of: what is left of that
-- one's name, and what is put behind it
abbrev pub class_left : Respelling → (inside : Effect) → Effect
class_left r inside = if drops_class r.front then no_effect else inside

abbrev pub put_class : Respelling → (outer word : Span) → Effect
put_class r outer word = record {
  changes = class_changes r outer word;
  respelled = if is_respelled r.front then 1 else 0;
  losses = [];
}

abbrev pub class_end : Choice → (outer word : Span) → (inside : Effect) → Effect
class_end (becomes r) outer word inside = both (class_left r inside) (put_class r outer word)
class_end stays outer word inside = inside
class_end (loses l) outer word inside = both inside (record
    { changes = []; respelled = 0; losses = l ∷ [] })

-- both, where `p` is chosen for the name in front
abbrev pub qualified : (p h : Choice) → (outer word : Span) → Effect
qualified p h outer word = class_end h outer word (alone p outer)

-- what comes in place of an expression, of which so much is asked
abbrev pub in_place : PartSpot → (least : ℕ) → Effect
in_place p least = record {
  changes = change p.at (text_of p least) ∷ [];
  respelled = p.respelled;
  losses = [];
}

-- what a choice loses alone
abbrev pub lost : Choice → Effect
lost h = record { changes = []; respelled = 0; losses = losses_of h }
