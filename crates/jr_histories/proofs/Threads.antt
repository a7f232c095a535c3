-- Where the declarations are the same but for their keys, a started thread runs the image of what it ran.
use Rattle.std.proofs.Common.{◌≡◌, [], Option, Some, None, option_map, unwrap_or, IsTrue, refl, sym, ap, ◌∙◌}
use Rattle.jr_runs.specs.Keys.{Keys}
use Rattle.jr_runs.specs.Values.{Value}
use Rattle.jr_runs.specs.Rows.{Rows}
use Rattle.jr_runs.specs.Running.{Start, of_method}
use Rattle.jr_runs.specs.KeyMaps.{KeyMap, value_image, start_image}
use Rattle.jr_runs.specs.Images.{SameRows}
use Rattle.jr_runs.specs.FirstValues.{First}
use Rattle.jr_runs.proofs.ImageValues.{declarations, class_of_image}
use Rattle.jr_histories.specs.Histories.{started, Runs}
use Rattle.jr_histories.specs.Laws.{first_image, KeepsBeginnings}

module _ {K : Keys} (r : KeyMap K) (R R' : Rows K) (rows : SameRows r R R') where
  one : (x y : K.class) → Some x ≡ Some y → x ≡ y
  one x y e = cc

  pub found_to : (m : K.method) (o : Option K.method) → unwrap_or (option_map r.method o) (r.method m) ≡ r.method (unwrap_or o m)
  found_to m None = refl
  found_to m (Some k) = refl

  pub same_runs : (run : K.method) → IsTrue (R.has_method run) → (o : Value K) (c d : Start K) → Runs R run (started o) c → Runs R' (r.method run) (started (value_image r o)) d → d ≡ start_image r c
  same_runs run has o c d p q =
      let k : q.0 ≡ r.class p.0 = one q.0 (r.class p.0) (sym q.1 ∙ class_of_image r R R' (declarations r R R' rows) o ∙ ap (option_map r.class) p.1) in
      let m : unwrap_or (R'.dispatch q.0 (r.method run)) (r.method run) ≡ r.method (unwrap_or (R.dispatch p.0 run) run) =
      ap (λ x. unwrap_or (R'.dispatch x (r.method run)) (r.method run)) k ∙ ap (λ x. unwrap_or x (r.method run)) (rows.dispatch p.0 run has) ∙ found_to run (R.dispatch p.0 run) in
      q.2 ∙ ap (λ x. of_method x (value_image r o) []) m ∙ sym (ap (start_image r) p.2)

  pub beginnings_are_kept : (run : K.method) → IsTrue (R.has_method run) → (first first' : K.field → First K) → ((f : K.field) → first' (r.field f) ≡ first_image r (first f)) → KeepsBeginnings r R R' run (r.method run) first first'
  beginnings_are_kept run has first first' firsts = record {
    field_type = rows.field_type;
    first_value = firsts;
    runs = same_runs run has;
  }
