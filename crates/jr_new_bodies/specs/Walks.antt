-- What a walk gathers of each part of a tree at a place: exactly what a rewriting of it gives, as
-- `jr_new_words: spelling` chooses and the place's spots have it, wherever a written `super(..)`
-- stands and whichever trees come at spots.
use Rattle.std.specs.Prelude.{◌≡◌, ℕ, Option, Some, None}
use Rattle.jr_text.specs.declared.spans.Span.{Span}
use Rattle.jr_ast.specs.Tree as tree
use Rattle.jr_ast.specs.Marks.{exp_mark}
use Rattle.jr_table.specs.Context.{Context}
use Rattle.jr_table.specs.Binding.{Role, value, left}
use Rattle.jr_grammar.specs.Shape.{unsigned_level}
use Rattle.jr_rewrite.specs.Respellings.{Choice, front_of}
use Rattle.jr_rewrite.specs.Rewritten.{Rewritten}
use Rattle.jr_rewrite.specs.Spots.{Asks, level, Spotted, operand_asks}
use Rattle.jr_rewrite.specs.Rewrites.{
  Choosing,
  RewritesType,
  TransformsExp,
  TransformsPart,
  TransformsRow,
}
use Rattle.jr_new_words.specs.Spelled.{
  spelling,
  SuperFieldSpells,
  SimpleCallSpells,
  CallSpells,
  SuperCallSpells,
}
use Rattle.jr_new_words.specs.Chosen.{
  unmarked,
  TypeIsChosen,
  QualifierIsChosen,
  QualifiedTypeIsChosen,
}
use Rattle.jr_new_bodies.specs.declared.here.Here as raw
use Rattle.jr_new_bodies.specs.Effects.{Effect, both, effect_of, Gathers}
use Rattle.jr_new_bodies.specs.Spotting.{Unseen, spots_of}
use Rattle.jr_new_bodies.specs.SpotView.{spotting_of}
use Rattle.jr_new_bodies.specs.OutputView.{alone, behind_super, in_front, behind, lost, qualified}
use Rattle.jr_new_bodies.specs.Known.{
  rows_of,
  mapping_of,
  context_of,
  NameSpells,
  DottedSpells,
  Creates,
}

module _ {A : Type 0} (tells : A → ℕ → Span) (h : raw.Here) where
  abbrev pub begins : A → ℕ → ℕ
  begins m b = (tells m b).from

  abbrev pub choosing : (Context → ℕ) → Choosing A
  choosing s = spelling (λ m b. (tells m b).from) (rows_of h) (mapping_of h) s

  abbrev pub spotted : Unseen A → Spotted A
  spotted u = spots_of tells u (spotting_of h.spots)

  abbrev pub ExpGathers : Role → (base : ℕ) → tree.Exp A → (old new : Effect) → Type 0
  ExpGathers role base e old new = (u : Unseen A) → Gathers
      (TransformsExp tells (choosing u.super_at) (spotted u) (context_of h) role base e) old new

  -- of which so much is asked
  abbrev pub PartGathers : Asks → Role → (base : ℕ) → tree.Exp A → (old new : Effect) → Type 0
  PartGathers k role base e old new = (u : Unseen A) → Gathers
      (TransformsPart tells (choosing u.super_at) (spotted u) k (context_of h) role base e) old new

  -- an operand and the word behind its dot, for which h is chosen
  abbrev pub DottedGathers : Choice → (at : ℕ) → (word : Span) → tree.Exp A → (old new : Effect)
      → Type 0
  DottedGathers c at word e old new = (u : Unseen A) → (p : Rewritten (tree.Exp A))
      × TransformsPart tells (choosing u.super_at) (spotted u) (operand_asks (front_of c))
      (context_of h) left at e p
      × (new ≡ both old (both (in_front c (tells (exp_mark e) at))
      (behind c (tells (exp_mark e) at) word (effect_of p))))

  abbrev pub RowGathers : (at : ℕ) → tree.Exps A → (old new : Effect) → Type 0
  RowGathers at es old new = (u : Unseen A) → Gathers
      (TransformsRow tells (choosing u.super_at) (spotted u) (context_of h) at es) old new

  abbrev pub TypeGathers : (base : ℕ) → tree.TypeName A → (old new : Effect) → Type 0
  TypeGathers base t old new = (s : Context → ℕ)
      → Gathers (RewritesType tells (choosing s) (context_of h) base t) old new

  -- ---- in a node that begins at `at`

  -- two operands, of each of which so much is asked; a type and an operand
  abbrev pub PairGathers : (j k : Asks) → (at : ℕ) → (x y : tree.Exp A) → (old new : Effect)
      → Type 0
  PairGathers j k at x y old new =
      (mid : Effect) × PartGathers j value at x old mid × PartGathers k value at y mid new

  abbrev pub CastGathers : (at : ℕ) → tree.TypeName A → tree.Exp A → (old new : Effect) → Type 0
  CastGathers at t e old new =
      (mid : Effect) × TypeGathers at t old mid
      × PartGathers (level unsigned_level) value at e mid new

  -- a simple name
  abbrev pub SimpleGathers : Role → (at : ℕ) → tree.Word A → (old new : Effect) → Type 0
  SimpleGathers role at w old new = (c : Choice)
      × NameSpells (rows_of h) (mapping_of h) (context_of h) role (begins w.mark at) w.text c
      × (new ≡ both old (alone c (tells w.mark at)))

  -- a field behind `super`, in a node of this span
  abbrev pub SuperGathers : (node : Span) → tree.Word A → (old new : Effect) → Type 0
  SuperGathers node w old new = (c : Choice)
      × SuperFieldSpells unmarked (rows_of h) (mapping_of h) (context_of h)
      (begins w.mark node.from) w.text c
      × (new ≡ both old (behind_super c node (tells w.mark node.from)))

  -- a name behind an operand and a dot
  abbrev pub FieldGathers : Role → (at : ℕ) → tree.Exp A → tree.Word A → (old new : Effect)
      → Type 0
  FieldGathers role at e w old new = (c : Choice)
      × DottedSpells begins (rows_of h) (mapping_of h) (context_of h) role (begins w.mark at) e
      w.text c
      × DottedGathers c at (tells w.mark at) e old new

  -- the word of a call without a target; that of a call on an operand, with the operand; both
  abbrev pub CalledGathers : (at : ℕ) → tree.Word A → tree.Exps A → (old new : Effect) → Type 0
  CalledGathers at w args old new = (c : Choice)
      × SimpleCallSpells begins (rows_of h) (mapping_of h) (context_of h) (begins w.mark at)
      w.text args c
      × (new ≡ both old (alone c (tells w.mark at)))

  abbrev pub CallOnGathers : (at : ℕ) → tree.Exp A → tree.Word A → tree.Exps A
      → (old new : Effect) → Type 0
  CallOnGathers at e w args old new = (c : Choice)
      × CallSpells begins (rows_of h) (mapping_of h) (context_of h) (begins w.mark at) e w.text
      args c
      × DottedGathers c at (tells w.mark at) e old new

  abbrev pub TargetGathers : (at : ℕ) → tree.Target A → tree.Word A → tree.Exps A
      → (old new : Effect) → Type 0
  TargetGathers at tree.no_target w args old new = CalledGathers at w args old new
  TargetGathers at (tree.on e) w args old new = CallOnGathers at e w args old new

  abbrev pub CallGathers : (at : ℕ) → tree.Target A → tree.Word A → tree.Exps A
      → (old new : Effect) → Type 0
  CallGathers at to w args old new =
      (mid : Effect) × TargetGathers at to w args old mid × RowGathers at args mid new

  -- a call behind `super`: its word, the whole
  abbrev pub SuperCalledGathers : (at : ℕ) → tree.Word A → tree.Exps A → (old new : Effect)
      → Type 0
  SuperCalledGathers at w args old new = (c : Choice)
      × SuperCallSpells begins (rows_of h) (mapping_of h) (context_of h) (begins w.mark at)
      w.text args c
      × (new ≡ both old (alone c (tells w.mark at)))

  abbrev pub SuperCallGathers : (at : ℕ) → tree.Word A → tree.Exps A → (old new : Effect) → Type 0
  SuperCallGathers at w args old new =
      (mid : Effect) × SuperCalledGathers at w args old mid × RowGathers at args mid new

  -- a creation: constructor and type, the whole
  abbrev pub CreatedGathers : (at : ℕ) → tree.TypeName A → tree.Exps A → (old new : Effect)
      → Type 0
  CreatedGathers at t args old new = (c : Choice) × (mid : Effect)
      × Creates begins (rows_of h) (mapping_of h) (context_of h) at t args c
      × (mid ≡ both old (lost c)) × TypeGathers at t mid new

  abbrev pub CreateGathers : (at : ℕ) → tree.TypeName A → tree.Exps A → (old new : Effect)
      → Type 0
  CreateGathers at t args old new =
      (mid : Effect) × CreatedGathers at t args old mid × RowGathers at args mid new

  -- the names of a class as a type
  abbrev pub NamedGathers : (at : ℕ) → Option (tree.Word A) → tree.Word A → (old new : Effect)
      → Type 0
  NamedGathers at None w old new = (c : Choice)
      × TypeIsChosen (rows_of h) (mapping_of h) (context_of h) (begins w.mark at) w.text (Some c)
      × (new ≡ both old (alone c (tells w.mark at)))
  NamedGathers at (Some v) w old new = (p : Choice) × (c : Choice)
      × QualifierIsChosen (rows_of h) (mapping_of h) (context_of h) (begins v.mark at) v.text
      (Some p)
      × QualifiedTypeIsChosen (rows_of h) (mapping_of h) (context_of h) (begins w.mark at) v.text
      w.text (Some c)
      × (new ≡ both old (qualified p c (tells v.mark at) (tells w.mark at)))
