-- The files of a program that is known: their tokens, their members with what is bound of them, and
-- where the word of a written `super(..)` stands.
use Rattle.std.proofs.Common.{◌≡◌, ℕ, zero, suc, ◌≤◌, List, [], ◌∷◌, Option, Some, None, true, refl, subst}
use Rattle.std.specs.Prelude.{slice_get, Contains, option_map}
use Rattle.std.proofs.lemmas.Option.{none-some, same_Some, slice_get_within, get_or_from_slice_get}
use Rattle.jr_text.specs.declared.spans.Span.{Span}
use Rattle.jr_lex.specs.declared.items.Item.{Item}
use Rattle.jr_lex.specs.declared.items.TokenKind.TheVariants as token
use Rattle.jr_lex.specs.declared.items.Keyword.TheVariants as keyword
use Rattle.jr_ast.specs.MemberTree as syntax
use Rattle.jr_grammar.specs.Layout.{Layouts, itself}
use Rattle.jr_grammar.specs.MemberLayout.{unit_layouts}
use Rattle.jr_grammar.specs.Reads.{ReadsWithSpans}
use Rattle.jr_grammar.specs.Stands.{StandInOrder}
use Rattle.jr_grammar.specs.Tokens.{placed_of}
use Rattle.jr_grammar.proofs.Layouts.{all_spans_from-span}
use Rattle.jr_table.specs.Decls.{MemberKey}
use Rattle.jr_table.specs.Rows.{Row}
use Rattle.jr_table.specs.Errors.{Part, class_part, member_part, part_mark}
use Rattle.jr_members.specs.WrittenMembers.{WrittenMember}
use Rattle.jr_bind.specs.Bounds.{Bound, IsBound}
use Rattle.jr_bind.specs.Programs.{AreBound}
use Rattle.jr_bind.specs.SuperPlaces as bind
use Rattle.jr_program_laws.specs.FileParts.{begins, HasTokenAt, IsSuperAt, SuperStands}
use Rattle.jr_program_laws.specs.PlaceLaws.{IsFile, Owns}

pub at_contains : {X : Type 0} (xs : List X) (n : ℕ) (x : X) → slice_get xs n ≡ Some x → Contains xs x
at_contains xs n x e = (n, slice_get_within xs n x e, get_or_from_slice_get xs n x x e)

pub map_some : {X Y : Type 0} (f : X → Y) (o : Option X) (y : Y) → option_map f o ≡ Some y → (x : X) × (o ≡ Some x) × (f x ≡ y)
map_some f None y e = absurd (none-some y e)
map_some f (Some x) y e = (x, refl, same_Some (f x) y e)

-- ---- a file of a program

pub marked_file : (units : List (syntax.Unit Span)) (file : ℕ) (text : List ℕ) (u : syntax.Unit Span) → slice_get units file ≡ Some u
    → (r : ReadsWithSpans itself text u) → IsFile units file text r.items
marked_file units file text u e r = record {
  unit = u;
  stands = e;
  lexes = r.lexes;
  is = record {
    shaped = r.is.shaped;
    spells = r.is.spells;
    marks = subst (λ (ys : Layouts Span). StandInOrder ys (placed_of text r.items)) (all_spans_from-span 0 (unit_layouts u)) r.spans;
    file = r.file;
  };
}

-- ---- where a written `super(..)` stands

pub begins_super : (items : List Item) (at : ℕ) → bind.BeginsSuper items at → HasTokenAt items (token.Keyword keyword.Super) at
begins_super items at h = record { number = h.number; token = h.token; stands = h.stands; is = h.is; place = h.place }

pub super_begins : (items : List Item) (at : ℕ) → HasTokenAt items (token.Keyword keyword.Super) at → bind.BeginsSuper items at
super_begins items at h = record { number = h.number; token = h.token; stands = h.stands; is = h.is; place = h.place }

pub super_at : (items : List Item) (span : Span) (at : ℕ) → bind.IsSuperAt items span at → IsSuperAt items span at
super_at items span at h = record { there = begins_super items at h.there; within = h.within; first = λ other t from. h.first other (super_begins items other t) from }

pub super_stands : (items : List Item) (part : Part Span) (at : ℕ) → (bind.writes_super part ≡ true → bind.IsSuperAt items (part_mark part) at) → SuperStands items part at
super_stands items (class_part c) at h = tt
super_stands items (member_part (syntax.field m mods t w init)) at h = tt
super_stands items (member_part (syntax.method m mods t w ps body)) at h = tt
super_stands items (member_part (syntax.constructor m mods w ps None body)) at h = tt
super_stands items (member_part (syntax.constructor m mods w ps (Some args) body)) at h = super_at items m at (h refl)
super_stands items (member_part (syntax.inner m of)) at h = tt

pub owns_from : (part : Part Span) (at : ℕ) → Owns part at → (part_mark part).from ≤ at
owns_from (class_part (syntax.class m mods w t ms)) at h = h.0.0
owns_from (member_part x) at h = h.0

-- ---- members with what is known of them

pub bound_at : (rows : List Row) (places : MemberKey → ℕ) (ws : List (WrittenMember Span)) (bs : List Bound) → AreBound itself (λ m b. Unit {0}) rows places ws bs
    → (n : ℕ) (w : WrittenMember Span) → slice_get ws n ≡ Some w → (b : Bound) × (slice_get bs n ≡ Some b) × IsBound begins rows (places w.key) w.key w.base w.part b
bound_at rows places [] bs h n w e = absurd (none-some w e)
bound_at rows places (x ∷ ws) [] h n w e = absurd h
bound_at rows places (x ∷ ws) (b ∷ bs) h zero w e = (b, refl, subst (λ (z : WrittenMember Span). IsBound begins rows (places z.key) z.key z.base z.part b) (same_Some x w e) h.0)
bound_at rows places (x ∷ ws) (b ∷ bs) h (suc n) w e = bound_at rows places ws bs h.1 n w e
