-- The sites in front of the expression, and the pair that is told of them and its own.
use Rattle.std.specs.Prelude.{Bool, List, Option}
use Rattle.jr_text.specs.declared.spans.Span.{Span}
use Rattle.jr_ast.specs.View.{member_of}
use Rattle.jr_grammar.specs.Layout.{itself}
use Rattle.jr_bind.specs.Programs.{Program}
use Rattle.jr_names.specs.Sites.{DepPair}
use Rattle.jr_expr_sites.specs.KnownFacts.{Others}
use Rattle.jr_cfg.specs.MemberRoutes.{NumbersMember}
use Rattle.jr_pieces.specs.Finding.{stmt_path}
use Rattle.jr_sites.specs.declared.sites.PlacedSite as raw
use Rattle.jr_plan.specs.Reasons.{TellsLost}
use Rattle.jr_local.specs.Extracted.{Crosses}
use Rattle.jr_local_crossings.specs.Calls.{AnswersBefore}
use Rattle.jr_extract_lists.specs.declared.targets.Target as raw_target
use Rattle.jr_extract_lists.specs.declared.walks.StatementPlace as raw_place
use Rattle.jr_extract_lists.specs.Targets.{IsTarget}
use Rattle.jr_extract_lists.specs.Walked.{it, held, IsPlaceOf}

module _ {p : Program Span} {t : raw_target.Target} (x : IsTarget p t) where
  -- By flags of locals that are never null they are the first sites of the statement, as many as
  -- stand in front of the expression's, whatever else resolved code needs.
  abbrev pub AreInFront : {at : raw_place.StatementPlace} → IsPlaceOf x at → List Bool
      → List raw.PlacedSite → Type 0
  AreInFront {at} h flags list = (o : Others) → NumbersMember itself 0 (member_of t.member.now) o
      → AnswersBefore p (it x).body flags 0 (member_of t.member.now) o h.element_is.front
      at.element.step (stmt_path (held x).way) list

  -- the pair of `jr_local: Crosses`, or that there is none
  abbrev pub IsLost : Option DepPair → Type 0
  IsLost o =
      TellsLost (Crosses p t.request.file t.request.from t.request.to t.request.name.now (it x)) o
