-- The numbers of locals, as the calls have them.
use Rattle.std.proofs.Common.{◌≡◌, ℕ, ◌+◌, List, [], ◌∷◌, ◌++◌, Option, None, add-one, sym, ap, subst, ◌∙◌}
use Rattle.jr_text.specs.declared.spans.Span.{Span}
use Rattle.jr_bind.specs.Programs.{Program}
use Rattle.jr_new_words.specs.Mappings.{MadeLocal, Renumbering}
use Rattle.jr_new_bodies.specs.declared.here.Here as raw_here
use Rattle.jr_new_bodies.specs.Effects.{Effect}
use Rattle.jr_new_bodies.specs.Spotting.{PartSpot}
use Rattle.jr_local_walks.specs.Mappings.{numbers_from}
use Rattle.jr_local_parts.specs.Begun.{BeginsBody}
use Rattle.jr_extract_lists.specs.declared.targets.Target as raw
use Rattle.jr_extract_lists.specs.declared.walks.StatementPlace.{StatementPlace}
use Rattle.jr_extract_lists.specs.Targets.{IsTarget}
use Rattle.jr_new_words.specs.Mappings.{renumbered}
use Rattle.jr_new_words.specs.Scopes.{IsBare}
use Rattle.jr_extract_lists.specs.Walked.{CanWalk, HasPlace, HasPiece, WalksPiece, WalksList, FramesPiece, FramesList, PutsName, bare, made_by, depth, in_initializer, from_there}

abbrev pub numbers : (firsts : List (Option ℕ)) (next : ℕ) (made : List MadeLocal) (deep : ℕ) → Renumbering
numbers firsts next made deep = record { firsts = firsts; next = next; made = made; depth = deep; gone = None }

module _ (p : Program Span) (t : raw.Target) (x : IsTarget p t) (firsts : List (Option ℕ)) (next : ℕ) (behind_it : next ≡ t.number + 1) where
  pub outer_piece : firsts ≡ numbers_from 0 t.number ++ None ∷ [] → numbers firsts next [] 0 ≡ bare (in_initializer x)
  outer_piece are = λ i. numbers (are i) ((behind_it ∙ add-one t.number) i) [] 0

  pub inner_piece : firsts ≡ numbers_from 0 t.number ++ None ∷ [] → (deep : ℕ) → deep ≡ depth x → numbers firsts next (made_by t ∷ []) deep ≡ in_initializer x
  inner_piece are deep is = λ i. numbers (are i) ((behind_it ∙ add-one t.number) i) (made_by t ∷ []) (is i)

  pub outer_list : firsts ≡ numbers_from 0 t.number → numbers firsts next [] 0 ≡ bare (from_there x)
  outer_list are = λ i. numbers (are i) ((behind_it ∙ add-one t.number) i) [] 0

  pub inner_list : firsts ≡ numbers_from 0 t.number → (deep : ℕ) → deep ≡ depth x → numbers firsts next (made_by t ∷ []) deep ≡ from_there x
  inner_list are deep is = λ i. numbers (are i) ((behind_it ∙ add-one t.number) i) (made_by t ∷ []) (is i)

pub piece_can : (t : raw.Target) (at : StatementPlace) (e : Effect) → HasPiece t at e → CanWalk t
piece_can t at e (p, (x, (h, moves))) = (p, (x, tt))

-- ---- of the calls' numbers, from where the body begins

module _ (t : raw.Target) (o r : Renumbering) where
  pub frames_piece_can : FramesPiece t o r → CanWalk t
  frames_piece_can (p, (x, (outer, inner))) = (p, (x, tt))

  pub frames_piece_bare : FramesPiece t o r → IsBare (renumbered o)
  frames_piece_bare (p, (x, (outer, inner))) = (ap (λ (q : Renumbering). q.made) outer, ap (λ (q : Renumbering). q.depth) outer)

  pub frames_piece_walks : (h : raw_here.Here) → BeginsBody t.body o h → FramesPiece t o r → WalksPiece t h r
  frames_piece_walks h begun (p, (x, (outer, inner))) = (p, (x, (subst (λ (q : Renumbering). BeginsBody t.body q h) outer begun, inner)))

  module _ (ps : List PartSpot) (e : Effect) where
    pub frames_list_can : FramesList t o r ps e → CanWalk t
    frames_list_can (p, (x, (outer, inner, puts, moves))) = (p, (x, tt))

    pub frames_list_bare : FramesList t o r ps e → IsBare (renumbered o)
    frames_list_bare (p, (x, (outer, inner, puts, moves))) = (ap (λ (q : Renumbering). q.made) outer, ap (λ (q : Renumbering). q.depth) outer)

    pub frames_list_walks : (h : raw_here.Here) → BeginsBody t.body o h → FramesList t o r ps e → WalksList t h r ps e
    frames_list_walks h begun (p, (x, (outer, inner, puts, moves))) = (p, (x, (subst (λ (q : Renumbering). BeginsBody t.body q h) outer begun, inner, puts, moves)))

-- ---- of a place at the statement

module _ (t : raw.Target) (firsts : List (Option ℕ)) (next : ℕ) (behind_it : next ≡ t.number + 1) (at : StatementPlace) where
  pub place_frames : firsts ≡ numbers_from 0 t.number ++ None ∷ [] → HasPlace t at → FramesPiece t (numbers firsts next [] 0) (numbers firsts next (made_by t ∷ []) at.depth)
  place_frames are (p, (x, place)) = (p, (x, (outer_piece p t x firsts next behind_it are, inner_piece p t x firsts next behind_it are at.depth (sym place.scope))))

  pub piece_frames : (e : Effect) (ps : List PartSpot) → firsts ≡ numbers_from 0 t.number → ((p : Program Span) (x : IsTarget p t) → PutsName x ps) → HasPiece t at e → FramesList t (numbers firsts next [] 0) (numbers firsts next (made_by t ∷ []) at.depth) ps e
  piece_frames e ps are puts (p, (x, (place, moves))) = (p, (x, (outer_list p t x firsts next behind_it are, inner_list p t x firsts next behind_it are at.depth (sym place.scope), puts p x, moves)))
