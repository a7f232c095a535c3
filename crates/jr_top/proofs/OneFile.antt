-- A session of one file, and what a rename in it puts.
use Rattle.std.proofs.Common.{◌≡◌, ◌≢◌, ◌∙◌, ℕ, zero, suc, ap, arith, refl, sym, subst, List, [], ◌∷◌, ◌++◌, length, All, Bool, true, false, String, string_bytes}
use Rattle.jr_names.specs.declared.replies.Reply as raw
use Rattle.jr_names.specs.declared.replies.Reply.TheVariants as reply
use Rattle.jr_names.specs.declared.steps.Step.TheVariants.{Rename}
use Rattle.jr_names.specs.declared.refusals.Refusal as raw_refusal
use Rattle.jr_names.specs.RefusalView.{refusal_of}
use Rattle.jr_names.specs.ReplyView.{reply_of}
use Rattle.jr_names.specs.Replies.{Reply, refused}
use Rattle.jr_script.specs.RefusalTexts.{ArePlacesIn}
use Rattle.jr_script.specs.Reports.{reply_places}
use Rattle.jr_sources.specs.Sources.{Source, IsFile, LacksFile, names_of}
use Rattle.jr_sources.specs.SourceView.{sources_of}
use Rattle.jr_session.specs.Promises.{Promises}
use Rattle.jr_session.specs.States.{State}
use Rattle.jr_session.specs.Stepping.{Steps}
use Rattle.jr_top.specs.Lines.{refusal_line}
use Rattle.jr_top.specs.Renames.{IsAnswered, IsGranted, IsPutFor, IsRefusalLine, opened}
use Rattle.jr_top.specs.Scripts.{IsRefusal}
use Rattle.jr_session.proofs.StepFiles.{step_keeps_names}
use Rattle.jr_top.proofs.Following.{step_places}

pub only_file : (files : List Source) (file : List ℕ) (number : ℕ) (text : List ℕ) → names_of files ≡ file ∷ [] → IsFile files number file text → IsFile files 0 file text
only_file [] file number text names is = absurd cc
only_file (f ∷ []) file zero text names is = is
only_file (f ∷ []) file (suc number) text names is = absurd cc
only_file (f ∷ g ∷ fs) file number text names is = let e = ap length names in absurd (omega (arith, e))

pub is_there : (files : List Source) (file : List ℕ) → names_of files ≡ file ∷ [] → LacksFile files file → ⊥
is_there files file names lacks =
    let none : All (λ (other : List ℕ). other ≢ file) (file ∷ []) = subst (λ ns. All (λ (other : List ℕ). other ≢ file) ns) names lacks in
    none 0 file (omega arith) refl

module _ (file source : List ℕ) (at : ℕ) (name : List ℕ) (reply : Reply) (after : State) (steps : Steps (opened file source) (Rename file at name) reply after) where
  pub one_name : names_of after.files ≡ file ∷ []
  one_name = step_keeps_names (opened file source) (Rename file at name) reply after steps

  pub its_places : ArePlacesIn (file ∷ []) (reply_places reply)
  its_places = step_places (opened file source) (Rename file at name) reply after steps

  pub answered : Promises (opened file source) (Rename file at name) reply after → (b : Bool) (output : List ℕ) → IsPutFor after file reply b output → IsAnswered file source at name b output
  answered promise true output put = record { refusal = put.0; after = after; steps = subst (λ (r : Reply). Steps (opened file source) (Rename file at name) r after) put.1 steps; line = put.2 }
  answered promise false output put = record {
    reply = reply;
    after = after;
    steps = steps;
    granted = put.0;
    keeps = promise (λ r e. put.0 (subst IsRefusal (sym e) tt));
    text = put.1;
  }

-- any other reply is no refusal
no_refusal : (r : raw.Reply) → ((x : raw_refusal.Refusal) → r ≡ reply.Refused x → ⊥) → ¬ IsRefusal (reply_of r)
no_refusal reply.Edited other refusal = refusal
no_refusal (reply.Refactored files respelled) other refusal = refusal
no_refusal (reply.Shown lines) other refusal = refusal
no_refusal reply.Undone other refusal = refusal
no_refusal reply.Redone other refusal = refusal
no_refusal (reply.Refused x) other refusal = other x refl

pub as_text : (s : State) (file : List ℕ) (r : raw.Reply) → ((x : raw_refusal.Refusal) → r ≡ reply.Refused x → ⊥) → (b : Bool) (output : List ℕ) → (b ≡ false) × IsFile s.files 0 file output → IsPutFor s file (reply_of r) b output
as_text s file r other b output h = subst (λ c. IsPutFor s file (reply_of r) c output) (sym h.0) (no_refusal r other, h.1)

pub as_line : (s : State) (file : List ℕ) (r : raw.Reply) (x : raw_refusal.Refusal) → r ≡ reply.Refused x → (b : Bool) (output : List ℕ) → (b ≡ true) × (output ≡ refusal_line (file ∷ []) (refusal_of x)) → IsPutFor s file (reply_of r) b output
as_line s file r x is b output h =
    subst (λ (q : raw.Reply). IsPutFor s file (reply_of q) b output) (sym is) (subst (λ c. IsPutFor s file (refused (refusal_of x)) c output) (sym h.0) (refusal_of x, refl, h.1))

-- the one file that was fetched
pub one_source : {Y : Type 0} (files files' : List (String Y × List ℕ)) (name : String Y) (source file : List ℕ) → files ≡ [] → files' ≡ files ++ (name, source) ∷ [] → string_bytes name ≡ file
    → sources_of files' ≡ record { name = file; text = source } ∷ []
one_source files files' name source file none pushed named =
    ap sources_of (pushed ∙ ap (λ fs. fs ++ (name, source) ∷ []) none) ∙ (λ i. record { name = named i; text = source } ∷ [])

pub granted_of : (file source : List ℕ) (at : ℕ) (name : List ℕ) (b : Bool) (output : List ℕ) → b ≡ false → IsAnswered file source at name b output → IsGranted file source at name output
granted_of file source at name b output is answer = subst (λ b. IsAnswered file source at name b output) is answer

pub refused_of : (file source : List ℕ) (at : ℕ) (name : List ℕ) (b : Bool) (output : List ℕ) → b ≡ true → IsAnswered file source at name b output → IsRefusalLine file source at name output
refused_of file source at name b output is answer = subst (λ b. IsAnswered file source at name b output) is answer
