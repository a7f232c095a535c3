-- Notes upon notes.
use Rattle.std.proofs.Common.{◌≡◌, List, [], ◌++◌, sym, subst, inl, inr}
use Rattle.std.specs.Prelude.{◌⊎◌, ◌↔◌}
use Rattle.jr_table.specs.Notes.{Note, Has}
use Rattle.jr_table.proofs.Breaking.{has_append}
use Rattle.jr_bind_expr.specs.Logs.{Adds}

pub adds_exact : (old more new : List Note) → new ≡ old ++ more → Adds old more new
adds_exact old more new h = record { each = λ n. subst (λ xs. Has xs n ↔ (Has old n ⊎ Has more n)) (sym h) (has_append old more n) }

pub adds_none : (old : List Note) → Adds old [] old
adds_none old = record { each = λ n. (λ h. inl h, back n) }
  where
    back : (n : Note) → (Has old n ⊎ ⊥) → Has old n
    back n (inl h) = h
    back n (inr h) = absurd h

module _ (a b c x y : List Note) (f : Adds a x b) (g : Adds b y c) (n : Note) where
  split : Has c n → (Has a n ⊎ Has x n) ⊎ Has y n
  split h = by ((g.each n).0 h)
    where
      by : (Has b n ⊎ Has y n) → (Has a n ⊎ Has x n) ⊎ Has y n
      by (inl i) = inl ((f.each n).0 i)
      by (inr i) = inr i

  join : ((Has a n ⊎ Has x n) ⊎ Has y n) → Has c n
  join (inl h) = (g.each n).1 (inl ((f.each n).1 h))
  join (inr h) = (g.each n).1 (inr h)

pub adds_then : (a b c x y : List Note) → Adds a x b → Adds b y c → Adds a (x ++ y) c
adds_then a b c x y f g = record { each = λ n. (λ h. to n (split a b c x y f g n h), λ h. back n h) }
  where
    to : (n : Note) → ((Has a n ⊎ Has x n) ⊎ Has y n) → Has a n ⊎ Has (x ++ y) n
    to n (inl (inl h)) = inl h
    to n (inl (inr h)) = inr ((has_append x y n).1 (inl h))
    to n (inr h) = inr ((has_append x y n).1 (inr h))

    of : (n : Note) → (Has x n ⊎ Has y n) → (Has a n ⊎ Has x n) ⊎ Has y n
    of n (inl h) = inl (inr h)
    of n (inr h) = inr h

    back : (n : Note) → (Has a n ⊎ Has (x ++ y) n) → Has c n
    back n (inl h) = join a b c x y f g n (inl (inl h))
    back n (inr h) = join a b c x y f g n (of n ((has_append x y n).0 h))

-- what is put behind may stand in front
pub adds_before : (a b c x y : List Note) → Adds a x b → Adds b y c → Adds a (y ++ x) c
adds_before a b c x y f g = record { each = λ n. (λ h. to n (split a b c x y f g n h), λ h. back n h) }
  where
    to : (n : Note) → ((Has a n ⊎ Has x n) ⊎ Has y n) → Has a n ⊎ Has (y ++ x) n
    to n (inl (inl h)) = inl h
    to n (inl (inr h)) = inr ((has_append y x n).1 (inr h))
    to n (inr h) = inr ((has_append y x n).1 (inl h))

    of : (n : Note) → (Has y n ⊎ Has x n) → (Has a n ⊎ Has x n) ⊎ Has y n
    of n (inl h) = inr h
    of n (inr h) = inl (inr h)

    back : (n : Note) → (Has a n ⊎ Has (y ++ x) n) → Has c n
    back n (inl h) = join a b c x y f g n (inl (inl h))
    back n (inr h) = join a b c x y f g n (of n ((has_append y x n).0 h))
