-- What holds of any transform: its changes are edits in order that fit each file's text, and the
-- spliced text reads as the new tree, and as no other.
use Rattle.std.proofs.Common.{◌≡◌, ℕ, zero, suc, List, [], ◌∷◌, map, Option, Some, None, sym, ap, ◌∙◌, subst}
use Rattle.std.specs.Prelude.{slice_get}
use Rattle.jr_text.specs.declared.spans.Span.{Span}
use Rattle.jr_ast.specs.MemberTree as syntax
use Rattle.jr_grammar.specs.Layout.{itself}
use Rattle.jr_grammar.specs.Reads.{ReadsWithSpans}
use Rattle.jr_table.specs.DeclaredItems.{DeclaredItem, declarations_of}
use Rattle.jr_table.specs.Context.{Context}
use Rattle.jr_bind.specs.Programs.{File, Program, units_of}
use Rattle.jr_rewrite.specs.Rewritten.{Rewritten}
use Rattle.jr_rewrite.specs.RewriteLaws.{IsRewritten}
use Rattle.jr_rewrite.specs.Spots.{Spotted}
use Rattle.jr_rewrite.specs.Rewrites.{Choosing, TransformsUnit}
use Rattle.jr_rewrite.proofs.Rewriting.{transformed_reads}
use Rattle.jr_images.proofs.SuitableSpelling.{choosing_suits}
use Rattle.jr_plan.specs.Transforms.{TransformsFiles, Transform, Transformed, choosing_of, IsFit}

none_some : {T : Type 0} (x : T) → (let none : Option T = None in none ≡ Some x) → ⊥
none_some x e = cc

same_item : {T : Type 0} (x y : T) → (let a : Option T = Some x in a ≡ Some y) → x ≡ y
same_item x y e = cc

-- the rewritten file of a number
file_transforms : (C : Choosing Span) (ds : List DeclaredItem) (fs : List (File Span)) (os : List (Rewritten (syntax.Unit Span))) (spots : ℕ → Spotted Span)
    → TransformsFiles C ds spots (map (λ (f : File Span). f.unit) fs) os
    → (n : ℕ) (f : File Span) (o : Rewritten (syntax.Unit Span)) → slice_get fs n ≡ Some f → slice_get os n ≡ Some o → TransformsUnit itself C (spots n) ds f.unit o
file_transforms C ds [] os spots w n f o e g = absurd (none_some f e)
file_transforms C ds (x ∷ fs) os spots w zero f o e g =
    let first : w.0 ≡ o = same_item w.0 o (ap (λ xs. slice_get xs 0) (sym w.4) ∙ g) in
    subst (λ (y : File Span). TransformsUnit itself C (spots 0) ds y.unit o) (same_item x f e) (subst (TransformsUnit itself C (spots 0) ds x.unit) first w.2)
file_transforms C ds (x ∷ fs) os spots w (suc n) f o e g =
    file_transforms C ds fs w.1 (λ i. spots (suc i)) w.3 n f o e (ap (λ xs. slice_get xs (suc n)) (sym w.4) ∙ g)

pub plans_read : (p : Program Span) (t : Transform) → IsFit p t → (to : Transformed p t) → (n : ℕ) (f : File Span) (o : Rewritten (syntax.Unit Span)) → slice_get p.files n ≡ Some f → slice_get to.files n ≡ Some o
    → ReadsWithSpans itself f.text f.unit → IsRewritten f.text o
plans_read p t fit to n f o e g h =
    transformed_reads itself (choosing_of p t) (t.spots n) (t.fronts n) f.text (choosing_suits (λ (m : Span) b. m.from) p.rows t.region fit.named (λ (c : Context). p.super_at c.member)) (fit.spots n f e) (declarations_of (λ (m : Span) b. m.from) (units_of p)) f.unit o h
    (fit.fronted n f h.items e h.lexes) (file_transforms (choosing_of p t) (declarations_of (λ (m : Span) b. m.from) (units_of p)) p.files to.files t.spots to.rewritten n f o e g)
