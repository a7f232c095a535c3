-- Whether a reply is a refusal, one reply after another.
use Rattle.std.proofs.Common.{◌≡◌, ◌<◌, ◌≤◌, ℕ, suc, ap, arith, inl, inr, refl, sym, subst, List, [], ◌∷◌, drop, drop_of_length-le, get_or, length, map}
use Rattle.std.proofs.Math.Seq.{drop-cons}
use Rattle.jr_names.specs.declared.replies.Reply as raw
use Rattle.jr_names.specs.ReplyView.{reply_of}
use Rattle.jr_top.specs.Scripts.{HasNoRefusal, HasRefusal, IsRefusal}

-- what holds of the replies from i on holds of all
pub record NoneYet (replies : List raw.Reply) (i : ℕ) : Type 0 where
  pub granted : HasNoRefusal (map reply_of (drop i replies)) → HasNoRefusal (map reply_of replies)
  pub refused : HasRefusal (map reply_of (drop i replies)) → HasRefusal (map reply_of replies)

pub none_yet : (replies : List raw.Reply) → NoneYet replies 0
none_yet replies = record { granted = λ h. h; refused = λ h. h }

at : (replies : List raw.Reply) (i : ℕ) (d : raw.Reply) → i < length replies → map reply_of (drop i replies) ≡ reply_of (get_or replies i d) ∷ map reply_of (drop (suc i) replies)
at replies i d below = ap (map reply_of) (drop-cons replies i d below)

pub none_more : (replies : List raw.Reply) (i : ℕ) (d : raw.Reply) → i < length replies → NoneYet replies i → (IsRefusal (reply_of (get_or replies i d)) → ⊥) → NoneYet replies (suc i)
none_more replies i d below so_far no_refusal = record {
  granted = λ h. so_far.granted (subst HasNoRefusal (sym (at replies i d below)) (no_refusal, h));
  refused = λ h. so_far.refused (subst HasRefusal (sym (at replies i d below)) (inr h));
}

pub one_refusal : (replies : List raw.Reply) (i : ℕ) (d : raw.Reply) → i < length replies → NoneYet replies i → IsRefusal (reply_of (get_or replies i d)) → HasRefusal (map reply_of replies)
one_refusal replies i d below so_far refusal = so_far.refused (subst HasRefusal (sym (at replies i d below)) (inl refusal))

pub no_refusal : (replies : List raw.Reply) (i : ℕ) → length replies ≤ i → NoneYet replies i → HasNoRefusal (map reply_of replies)
no_refusal replies i past so_far = so_far.granted (subst (λ (rs : List raw.Reply). HasNoRefusal (map reply_of rs)) (sym (drop_of_length-le replies past)) tt)
