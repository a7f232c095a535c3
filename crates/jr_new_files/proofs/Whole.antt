-- What is gathered of all files, as the rewritten program.
use Rattle.std.proofs.Common.{◌≡◌, ℕ, zero, suc, ◌+◌, ◌<◌, ◌≤◌, List, [], ◌∷◌, ◌++◌, Option, Some, None, refl, sym, ap, subst, ◌∙◌, inl, inr, arith}
use Rattle.std.specs.Prelude.{slice_get, option_map, map, sum_by, All, IfSome, IfNone, nat_lt, fold}
use Rattle.std.proofs.lemmas.Bool.{cases_Bool, ltb-true, ltb-false}
use Rattle.std.proofs.lemmas.List.{length-map}
use Rattle.std.proofs.lemmas.List.Elements.{All-cons}
use Rattle.std.proofs.lemmas.Option.{slice_get-map}
use Rattle.jr_text.specs.declared.spans.Span.{Span}
use Rattle.jr_text.specs.Edits.{Entry}
use Rattle.jr_ast.specs.MemberTree as syntax
use Rattle.jr_grammar.specs.Reads.{Reads, ReadsWithSpans}
use Rattle.jr_table.specs.Context.{Context}
use Rattle.jr_table.specs.DeclaredItems.{DeclaredItem, declarations_of}
use Rattle.jr_bind.specs.Programs.{File, Program, IsProgram, units_of}
use Rattle.jr_program_laws.specs.FileParts.{begins}
use Rattle.jr_rewrite.specs.Respellings.{Loss}
use Rattle.jr_rewrite.specs.Rewritten.{Rewritten}
use Rattle.jr_rewrite.specs.Rewrites.{RewritesUnit, RewritesUnits}
use Rattle.jr_rewrite.specs.Edited.{entries_of, AreInOrder}
use Rattle.jr_rewrite.proofs.Rewriting.{rewritten_reads}
use Rattle.jr_new_words.specs.declared.choices.Lost as raw
use Rattle.jr_new_words.specs.ChoiceView.{lost_of}
use Rattle.jr_new_words.specs.Mappings.{Mapping, images_of, region_of}
use Rattle.jr_new_words.specs.Spelled.{spelling}
use Rattle.jr_images.specs.Refusals as refusals
use Rattle.jr_images.specs.RenameLaws.{KeepsAll}
use Rattle.jr_images.specs.NamedImages.{AreNamedImages}
use Rattle.jr_images.proofs.SuitableSpelling.{choosing_suits}
use Rattle.jr_images.proofs.Imaging.{map_some}
use Rattle.jr_new_bodies.specs.Effects.{Effect, effect_of}
use Rattle.jr_new_files.specs.FileLaws.{AreGathered, AreRewritten}
use Rattle.jr_grammar.specs.Layout.{itself}
use Rattle.jr_new_files.specs.FileEffects.{members_of, AreSoFar, AllInOrder}
use Rattle.jr_new_files.specs.Lost.{IsFirstLoss, LoseNothing}
use Rattle.jr_new_files.specs.Rewritings.{IsRewriting}

some_same : (x y : ℕ × Loss) → Some x ≡ Some y → x ≡ y
some_same x y e = cc

pub none_of : {X Y P : Type 0} (f : X → Y) (o : Option X) → IfNone o P → option_map f o ≡ None → P
none_of f None h e = h
none_of f (Some x) h e = absurd cc

pub first_of : (es : List Effect) (o : Option (ℕ × raw.Lost)) → IfSome o (λ q. IsFirstLoss es q.0 (lost_of q.1)) → (file : ℕ) (l : Loss) → option_map {U = ℕ × Loss} (λ (q : ℕ × raw.Lost). (q.0, lost_of q.1)) o ≡ Some (file, l) → IsFirstLoss es file l
first_of es None h file l e = absurd cc
first_of es (Some x) h file l e =
    let same : (x.0, lost_of x.1) ≡ (file, l) = some_same (x.0, lost_of x.1) (file, l) e in
    subst (λ (q : ℕ × Loss). IsFirstLoss es q.0 q.1) same h

-- ---- edits and numbers

edits_same : {T : Type 0} (os : List (Rewritten T)) → map (λ (e : Effect). entries_of e.changes) (map (λ (o : Rewritten T). effect_of o) os) ≡ map (λ (o : Rewritten T). entries_of o.changes) os
edits_same [] = refl
edits_same {T} (o ∷ os) = ap (λ (es : List (List Entry)). entries_of o.changes ∷ es) (edits_same {T = T} os)

counts_from : {T : Type 0} (n : ℕ) (os : List (Rewritten T)) → fold (λ a (e : Effect). a + e.respelled) n (map (λ (o : Rewritten T). effect_of o) os) ≡ fold (λ a (o : Rewritten T). a + o.respelled) n os
counts_from n [] = refl
counts_from {T} n (o ∷ os) = counts_from {T = T} (n + o.respelled) os

counts_same : {T : Type 0} (os : List (Rewritten T)) → sum_by (λ (e : Effect). e.respelled) (map (λ (o : Rewritten T). effect_of o) os) ≡ sum_by (λ (o : Rewritten T). o.respelled) os
counts_same {T} os = counts_from {T = T} 0 os

-- ---- losses

not_empty : (front back : List Loss) (m : Loss) → front ++ m ∷ back ≡ [] → ⊥
not_empty [] back m e = absurd cc
not_empty (x ∷ front) back m e = absurd cc

-- a list around its least loss
parts_of : (ls : List Loss) (n : ℕ) (l : Loss) → slice_get ls n ≡ Some l → ((i : ℕ) (m : Loss) → i < n → slice_get ls i ≡ Some m → l.at < m.at) → ((i : ℕ) (m : Loss) → slice_get ls i ≡ Some m → l.at ≤ m.at)
    → (front : List Loss) × (back : List Loss) × (ls ≡ front ++ l ∷ back) × All (λ (m : Loss). l.at < m.at) front × All (λ (m : Loss). l.at ≤ m.at) back
parts_of [] n l e before behind = absurd cc
parts_of (x ∷ ls) zero l e before behind =
    let same : x ≡ l = cc in
    ([], ls, ap (λ (y : Loss). y ∷ ls) same, (λ k d h. absurd (omega (arith, h))), all_of ls (λ (m : Loss). l.at ≤ m.at) (λ i m s. behind (suc i) m s))
  where
    all_of : (xs : List Loss) (P : Loss → Type 0) → ((i : ℕ) (m : Loss) → slice_get xs i ≡ Some m → P m) → All P xs
    all_of [] P f = λ k d h. absurd (omega (arith, h))
    all_of (y ∷ ys) P f = All-cons P y ys (f 0 y refl) (all_of ys P (λ i m s. f (suc i) m s))
parts_of (x ∷ ls) (suc n) l e before behind =
    let r = parts_of ls n l e (λ i m k s. before (suc i) m (omega (arith, k)) s) (λ i m s. behind (suc i) m s) in
    (x ∷ r.0, r.1, ap (λ (ys : List Loss). x ∷ ys) r.2, All-cons (λ (m : Loss). l.at < m.at) x r.0 (before 0 x (omega arith) refl) r.3, r.4)

module _ {T : Type 0} (os : List (Rewritten T)) (es : List Effect) (same : map (λ (o : Rewritten T). effect_of o) os ≡ es) where
  -- the rewritten file of a number
  file_of : (i : ℕ) (e : Effect) → slice_get es i ≡ Some e → (o : Rewritten T) × (slice_get os i ≡ Some o) × (effect_of o ≡ e)
  file_of i e s =
      map_some (λ (o : Rewritten T). effect_of o) (slice_get os i) e (sym (slice_get-map (λ (o : Rewritten T). effect_of o) os i) ∙ ap (λ (xs : List Effect). slice_get xs i) same ∙ s)

  effect_at : (i : ℕ) (o : Rewritten T) → slice_get os i ≡ Some o → slice_get es i ≡ Some (effect_of o)
  effect_at i o s = ap (λ (xs : List Effect). slice_get xs i) (sym same) ∙ slice_get-map (λ (o : Rewritten T). effect_of o) os i ∙ ap (option_map (λ (o : Rewritten T). effect_of o)) s

  keeps : LoseNothing es → KeepsAll os
  keeps none i o s = none i (effect_of o) (effect_at i o s)

  first_loss : (file : ℕ) (l : Loss) → IsFirstLoss es file l → refusals.IsFirstLoss os file l
  first_loss file l (number, h) =
      let o = file_of file h.effect h.stands in
      let mine : o.0.losses ≡ h.effect.losses = ap (λ (x : Effect). x.losses) o.2 in
      let r = parts_of h.effect.losses number l h.least.stands h.least.before h.least.behind in
      record {
        lost = record { of = o.0; stands = o.1; front = r.0; back = r.1; parts = mine ∙ r.2 };
        first_file = λ i m is. at_least i m is;
        first_place = r.3;
        others = r.4;
      }
    where
      at_least : (i : ℕ) (m : Loss) → refusals.IsLost os i m → file ≤ i
      at_least i m is =
          elim (cases_Bool (nat_lt i file)) [
            | inl less ↦ (let inside : i < file = ltb-true i file less in
                let none : is.of.losses ≡ [] = h.before i (effect_of is.of) inside (effect_at i is.of is.stands) in
                absurd (not_empty is.front is.back m (sym is.parts ∙ none)))
            | inr more ↦ ltb-false i file more
          ]

module _ (p : Program Span) (g : Mapping) where
  pub gathered_all : (es : List Effect) → AreSoFar p g (members_of p) es → AreGathered itself p.rows p.super_at (units_of p) g es
  gathered_all es so = record { one_each = so.as_many ∙ sym (length-map p.files (λ (f : File Span). f.unit)); each = so.each }

  each_unit : (declarations : List DeclaredItem) (us : List (syntax.Unit Span)) (os : List (Rewritten (syntax.Unit Span))) → RewritesUnits itself (spelling begins p.rows g (λ (c : Context). p.super_at c.member)) declarations us os
      → (i : ℕ) (o : Rewritten (syntax.Unit Span)) → slice_get os i ≡ Some o
      → (u : syntax.Unit Span) × (slice_get us i ≡ Some u) × RewritesUnit itself (spelling begins p.rows g (λ (c : Context). p.super_at c.member)) declarations u o
  each_unit declarations [] os h i o s = absurd (none os h i s)
    where
      none : (os : List (Rewritten (syntax.Unit Span))) → os ≡ [] → (i : ℕ) → slice_get os i ≡ Some o → ⊥
      none [] e i t = absurd cc
      none (x ∷ xs) e i t = absurd cc
  each_unit declarations (u ∷ us) os (q, qs, one, rest, is) zero o s =
      let t : slice_get (q ∷ qs) zero ≡ Some o = ap (λ (xs : List (Rewritten (syntax.Unit Span))). slice_get xs zero) (sym is) ∙ s in
      let same : q ≡ o = cc in
      (u, refl, subst (RewritesUnit itself (spelling begins p.rows g (λ (c : Context). p.super_at c.member)) declarations u) same one)
  each_unit declarations (u ∷ us) os (q, qs, one, rest, is) (suc i) o s = each_unit declarations us qs rest i o (ap (λ (xs : List (Rewritten (syntax.Unit Span))). slice_get xs (suc i)) (sym is) ∙ s)

  pub reads_there : {tells : Span → ℕ → Span} {Fits : Span → ℕ → Type 0} → IsProgram tells Fits p → (file : ℕ) (unit : syntax.Unit Span) → slice_get (units_of p) file ≡ Some unit → (bytes : List ℕ) × ReadsWithSpans tells bytes unit
  reads_there {tells} h file unit e =
      let f = map_some (λ (x : File Span). x.unit) (slice_get p.files file) unit (sym (slice_get-map (λ (x : File Span). x.unit) p.files file) ∙ e) in
      (f.0.text, subst (ReadsWithSpans tells f.0.text) f.2 (h.reads file f.0 f.1))

  pub reads_plainly : {tells : Span → ℕ → Span} {Fits : Span → ℕ → Type 0} → IsProgram tells Fits p → (file : ℕ) (unit : syntax.Unit Span) → slice_get (units_of p) file ≡ Some unit → (bytes : List ℕ) × Reads bytes unit
  reads_plainly h file unit e = let r = reads_there h file unit e in (r.0, record { items = r.1.items; lexes = r.1.lexes; is = r.1.is })

  -- the changes of each file are in order
  pub in_order : AreNamedImages p.rows (images_of p.rows g) → ((file : ℕ) (unit : syntax.Unit Span) → slice_get (units_of p) file ≡ Some unit → (bytes : List ℕ) × ReadsWithSpans itself bytes unit)
      → (es : List Effect) → AreRewritten itself p.rows p.super_at (units_of p) g es → AllInOrder es
  in_order named reads es w i e s =
      let o = file_of w.files es w.effects i e s in
      let u = each_unit (declarations_of begins (units_of p)) (units_of p) w.files w.are i o.0 o.1 in
      let r = reads i u.0 u.1 in
      subst (λ (x : Effect). AreInOrder 0 x.changes) o.2 (rewritten_reads itself (spelling begins p.rows g (λ (c : Context). p.super_at c.member)) (choosing_suits begins p.rows (region_of p.rows g) named (λ (c : Context). p.super_at c.member)) (declarations_of begins (units_of p)) r.0 u.0 o.0 r.1 u.2).in_order

  pub rewriting : (es : List Effect) (edits : List (List Entry)) (respelled : ℕ) (lost : Option (ℕ × Loss)) → AreRewritten itself p.rows p.super_at (units_of p) g es
      → edits ≡ map (λ (e : Effect). entries_of e.changes) es → respelled ≡ sum_by (λ (e : Effect). e.respelled) es → (lost ≡ None → LoseNothing es) → ((file : ℕ) (l : Loss) → lost ≡ Some (file, l) → IsFirstLoss es file l)
      → IsRewriting p g edits respelled lost
  rewriting es edits respelled lost w edits_are respelled_is none first = record {
    files = w.files;
    are = w.are;
    edits_are = edits_are ∙ ap (map (λ (e : Effect). entries_of e.changes)) (sym w.effects) ∙ edits_same w.files;
    respelled_is = respelled_is ∙ ap (sum_by (λ (e : Effect). e.respelled)) (sym w.effects) ∙ counts_same w.files;
    none = λ h. keeps w.files es w.effects (none h);
    first = λ file l h. first_loss w.files es w.effects file l (first file l h);
  }
