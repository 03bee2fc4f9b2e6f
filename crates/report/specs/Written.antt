-- Texts one behind the other in a space.
use Rattle.std.proofs.Common.{◌≡◌, ℕ, ◌+◌, ◌-◌, ◌≤◌, List, [], ◌++◌, length, take, drop, ap, ◌∙◌, append_assoc, arith, length-append, length-take}
use Rattle.std.proofs.lemmas.Grind.{common_steps}
use Rattle.std.proofs.lemmas.List.{take_at}
use Rattle.std.proofs.lemmas.Slice.{drop-append-drop}

-- a text stands in a space from a place on, up to an end; what lies before and behind it is as it was
pub record Written (before : List ℕ) (at : ℕ) (text after : List ℕ) (end : ℕ) : Type 0 where
  pub ends : end ≡ at + length text
  pub is : after ≡ take at before ++ text ++ drop end before

pub written_room : (before : List ℕ) (at : ℕ) (text after : List ℕ) (end : ℕ) → at ≤ length before → Written before at text after end → length text ≤ length before - at → length after ≡ length before
written_room before at text after end inside w fits = grind (arith, common_steps, w.is)

pub written_none : (space : List ℕ) (at : ℕ) → Written space at [] space at
written_none space at = record { ends = omega arith; is = grind (arith, common_steps) }

pub written_both : (before : List ℕ) (at : ℕ) (one mid : List ℕ) (then : ℕ) (other after : List ℕ) (end : ℕ) → at ≤ length before → Written before at one mid then → Written mid then other after end → Written before at (one ++ other) after end
written_both before at one mid then other after end inside first second =
    let front : List ℕ = take at before ++ one in
    let long : length front ≡ then = omega (arith, length-append (take at before) one, length-take at before, first.ends) in
    record {
      ends = omega (arith, first.ends, second.ends, length-append one other);
      is =
          second.is
          ∙ ap (λ (l : List ℕ). l ++ other ++ drop end mid) (ap (take then) first.is ∙ take_at front (drop then before) then long)
          ∙ ap (λ (l : List ℕ). front ++ other ++ l) (ap (drop end) first.is ∙ drop-append-drop then before front end (omega (arith, second.ends)) long)
          ∙ simp append_assoc;
    }
