-- What `==` says of two classes.
use Rattle.std.proofs.Common.{◌≡◌, ◌&&◌, Bool, nat_eq, Decides, ap}
use Rattle.std.specs.Ordering.{int_eq}
use Rattle.std.specs.Cmp.Lexicographic.{pointwise}
use Rattle.std.proofs.lemmas.Bool.Decides.{Decides-eqb, Decides-and, Decides-like, Decides-at}
use Rattle.profile.proofs.Equal.{profile_eq_decides}
use Rattle.register.specs.declared.row.Class.{Class}

class_same : (a b : Class) → (a.chart ≡ b.chart) × (a.profile ≡ b.profile) → a ≡ b
class_same a b e = λ i. record { chart = e.0 i; profile = e.1 i }

pub class_eq_decides : (a b : Class) (r : Bool) → r ≡ (nat_eq a.chart b.chart && pointwise int_eq a.profile.entries b.profile.entries) → Decides r (a ≡ b)
class_eq_decides a b r computed =
    Decides-at r _ computed
    (Decides-like _ (class_same a b) (λ e. (ap (λ (c : Class). c.chart) e, ap (λ (c : Class). c.profile) e))
    (Decides-and _ _ (Decides-eqb _ _) (profile_eq_decides a.profile b.profile)))
