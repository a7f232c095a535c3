-- Replies have no refusal or one, and what is done or refused by them.
use Rattle.std.proofs.Common.{◌⊎◌, inl, inr, List, [], ◌∷◌}
use Rattle.jr_names.specs.Replies.{Reply, edited, refactored, shown, undone, redone, refused}
use Rattle.jr_top.specs.declared.statuses.Status.{Status}
use Rattle.jr_top.specs.declared.statuses.Status.TheVariants.{Done, Refused, Usage, ReadFault, WriteFault, BadScript, BadSource, NoMemory}
use Rattle.jr_top.specs.Scripts.{HasNoRefusal, HasRefusal, IsRefusal}
use Rattle.jr_top.specs.Statuses.{OnDone, OnRefused}

settled_reply : (reply : Reply) → (IsRefusal reply → ⊥) ⊎ IsRefusal reply
settled_reply edited = inl (λ r. r)
settled_reply (refactored files respelled) = inl (λ r. r)
settled_reply (shown lines) = inl (λ r. r)
settled_reply undone = inl (λ r. r)
settled_reply redone = inl (λ r. r)
settled_reply (refused refusal) = inr tt

pub settled : (replies : List Reply) → HasNoRefusal replies ⊎ HasRefusal replies
settled [] = inl tt
settled (r ∷ rs) = elim (settled_reply r) [ inr is ↦ inr (inl is) | inl granted ↦ elim (settled rs) [ inl none ↦ inl (granted, none) | inr some ↦ inr (inr some) ] ]

pub on_done : (end : Status) (P Q : Type 0) → (P → Q) → OnDone end P → OnDone end Q
on_done Done P Q f p = f p
on_done Refused P Q f p = tt
on_done Usage P Q f p = tt
on_done (ReadFault word) P Q f p = tt
on_done (WriteFault stored) P Q f p = tt
on_done (BadScript fault) P Q f p = tt
on_done (BadSource word fault) P Q f p = tt
on_done NoMemory P Q f p = tt

pub on_refused : (end : Status) (P Q : Type 0) → (P → Q) → OnRefused end P → OnRefused end Q
on_refused Done P Q f p = tt
on_refused Refused P Q f p = f p
on_refused Usage P Q f p = tt
on_refused (ReadFault word) P Q f p = tt
on_refused (WriteFault stored) P Q f p = tt
on_refused (BadScript fault) P Q f p = tt
on_refused (BadSource word fault) P Q f p = tt
on_refused NoMemory P Q f p = tt
