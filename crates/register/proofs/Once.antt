-- What it means to enter a row leaves no choice: the list, the capacity and the row fix the answer and the list after it.
use Rattle.std.proofs.Common.{◌≡◌, ℕ, List, sym, refl, ap, ◌∙◌, ⊎_elim, arith}
use Rattle.std.proofs.lemmas.Bool.{cases_order}
use Rattle.register.specs.declared.row.Class.{Class}
use Rattle.register.specs.declared.row.Row.{Row}
use Rattle.register.specs.declared.interface.Entered.{Entered}
use Rattle.register.specs.declared.interface.Entered.TheVariants.{Known, New, Full}
use Rattle.register.specs.Meaning.{FirstAt, Enters}

first_once : (rows : List Row) (class : Class) (i j : ℕ) → FirstAt rows class i → FirstAt rows class j → i ≡ j
first_once rows class i j p q =
    ⊎_elim
    (λ same. same)
    (⊎_elim (λ less. absurd (q.2 i less p.1)) (λ more. absurd (p.2 j more q.1)))
    (cases_order i j)

pub enters_once : (capacity : ℕ) (rows : List Row) (row : Row) (a b : Entered) (s t : List Row) → Enters capacity rows row a s → Enters capacity rows row b t → (a ≡ b) × (s ≡ t)
enters_once capacity rows row (Known i) (Known j) s t p q =
    (ap Known (first_once rows row.class i j p.0 q.0), p.1 ∙ sym q.1)
enters_once capacity rows row (Known i) (New j) s t p q = absurd (q.0 i p.0.0 p.0.1)
enters_once capacity rows row (Known i) Full s t p q = absurd (q.0 i p.0.0 p.0.1)
enters_once capacity rows row (New i) (Known j) s t p q = absurd (p.0 j q.0.0 q.0.1)
enters_once capacity rows row (New i) (New j) s t p q = (ap New (p.2 ∙ sym q.2), p.3 ∙ sym q.3)
enters_once capacity rows row (New i) Full s t p q = let l = p.1 in let h = q.1 in absurd (omega arith)
enters_once capacity rows row Full (Known j) s t p q = absurd (p.0 j q.0.0 q.0.1)
enters_once capacity rows row Full (New j) s t p q = let l = p.1 in let h = q.1 in absurd (omega arith)
enters_once capacity rows row Full Full s t p q = (refl, p.2 ∙ sym q.2)
