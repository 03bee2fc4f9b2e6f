-- A view is told by its book and by what it is of a walk.
use Rattle.std.proofs.Common.{◌≡◌, ℕ, List, [], ◌∷◌, map, length, Some, None, Option, sym, refl, ap, ◌∙◌}
use lib.ListN.{length-map, get_or-map}
use Rattle.bookformat.specs.Values.{BookValue}
use Rattle.register.specs.declared.row.Origin.{Origin}
use Rattle.register.specs.declared.row.Row.{Row}
use Rattle.register.specs.Meaning.{no_row, row_at}
use Rattle.search.specs.Rows.{Origin as WalkOrigin, Row as WalkRow, at}
use Rattle.search.specs.Walks as walk
use Rattle.classes.specs.Ranged.{ranged}
use Rattle.history.specs.declared.phase.Phase.{Phase}
use Rattle.history.specs.declared.phase.Phase.TheVariants.{Idle, Open, Runs, Empty, Spent}
use Rattle.history.specs.States.{code}
use Rattle.history.specs.Views.{View, Same, state_of, phase_of, origin_of, row_of, rows_of}

-- the rows as rows of a walk
pub length_rows_of : (b : BookValue) (rows : List Row) → length (rows_of b rows) ≡ length rows
length_rows_of b rows = length-map rows (row_of b)

pub at_rows_of : (b : BookValue) (rows : List Row) (k : ℕ) → at (rows_of b rows) k ≡ row_of b (row_at rows k)
at_rows_of b rows k = get_or-map (row_of b) rows k no_row

-- and back
phase_back : walk.Phase → Phase
phase_back walk.Idle = Idle
phase_back (walk.Open p l) = Open p l
phase_back (walk.Runs k) = Runs k
phase_back walk.Empty = Empty
phase_back walk.Spent = Spent

phase_again : (f : Phase) → phase_back (phase_of f) ≡ f
unfolding phase_back
phase_again Idle = refl
phase_again (Open p l) = refl
phase_again (Runs k) = refl
phase_again Empty = refl
phase_again Spent = refl

origin_back : Option WalkOrigin → Option Origin
origin_back None = None
origin_back (Some o) = Some (record { row = o.row; link = o.link })

origin_again : (o : Option Origin) → origin_back (origin_of o) ≡ o
unfolding origin_back
origin_again None = refl
origin_again (Some o) = refl

abbrev row_back : (b : BookValue) → WalkRow (ranged b) → Row
row_back b r = record { class = r.class; origin = origin_back r.origin }

rows_again : (b : BookValue) (rows : List Row) → map (row_back b) (rows_of b rows) ≡ rows
rows_again b [] = refl
rows_again b (r ∷ rows) =
    let first : row_back b (row_of b r) ≡ r = λ i. record { class = r.class; origin = origin_again r.origin i } in
    λ i. first i ∷ rows_again b rows i

-- so no two are one there
pub phase_one : (f g : Phase) → phase_of f ≡ phase_of g → f ≡ g
phase_one f g e = sym (phase_again f) ∙ ap phase_back e ∙ phase_again g

pub rows_one : (b : BookValue) (rows other : List Row) → rows_of b rows ≡ rows_of b other → rows ≡ other
rows_one b rows other e = sym (rows_again b rows) ∙ ap (map (row_back b)) e ∙ rows_again b other

-- the number of a state is that of its phase in the walk
pub code_phase : (f : Phase) → code (state_of f) ≡ walk.code (phase_of f)
code_phase Idle = refl
code_phase (Open p l) = refl
code_phase (Runs k) = refl
code_phase Empty = refl
code_phase Spent = refl

pub same_view : (v w : View) → v.book ≡ w.book → v.phase ≡ w.phase → v.rows ≡ w.rows → v ≡ w
same_view v w p q r = λ i. record { book = p i; phase = q i; rows = r i }

pub kept : (v w : View) → Same v w → w ≡ v
kept v w s = same_view w v s.book s.phase s.rows
