-- What the calls of a register do to its list of rows.
use Rattle.std.specs.Prelude.{◌≡◌, ℕ, ◌<◌, ◌≤◌, Bool, true, false, List, [], ◌∷◌, ◌++◌, length, Some, None, Option, ◌≢◌, slice_index_or}
use Rattle.profile.specs.Blank.{no_profile}
use Rattle.register.specs.declared.row.Class.{Class}
use Rattle.register.specs.declared.row.Row.{Row}
use Rattle.register.specs.declared.interface.Entered.{Entered}
use Rattle.register.specs.declared.interface.Entered.TheVariants.{Known, New, Full}

-- the largest capacity
abbrev pub most_rows : ℕ
most_rows = 4096

-- what `row_at` gives where no row is held
abbrev pub no_row : Row
no_row = record { class = record { chart = 0; profile = no_profile }; origin = None }

abbrev pub row_at : List Row → ℕ → Row
row_at rows i = slice_index_or rows i no_row

-- no place below n holds a row with that class
abbrev pub NoneBelow : List Row → Class → ℕ → Type 0
NoneBelow rows class n = (k : ℕ) → k < n → (row_at rows k).class ≢ class

abbrev pub Absent : List Row → Class → Type 0
Absent rows class = NoneBelow rows class (length rows)

-- i is the first place that holds a row with that class
abbrev pub FirstAt : List Row → Class → ℕ → Type 0
FirstAt rows class i = (i < length rows) × ((row_at rows i).class ≡ class) × NoneBelow rows class i

-- the answer to where the first such place is
abbrev pub Finds : List Row → Class → Option ℕ → Type 0
Finds rows class None = Absent rows class
Finds rows class (Some i) = FirstAt rows class i

-- A row is entered into a list of at most `capacity` rows: the answer and the list after it.
abbrev pub Enters : ℕ → List Row → Row → Entered → List Row → Type 0
Enters capacity rows row (Known i) after = FirstAt rows row.class i × (after ≡ rows)
Enters capacity rows row (New i) after =
    Absent rows row.class × (length rows < capacity) × (i ≡ length rows) × (after ≡ rows ++ (row ∷ []))
Enters capacity rows row Full after = Absent rows row.class × (capacity ≤ length rows) × (after ≡ rows)

-- A place is read: `before` and `after` are what the lent row holds.
abbrev pub Reads : List Row → ℕ → Row → Bool → Row → Type 0
Reads rows place before true after = (place < length rows) × (after ≡ row_at rows place)
Reads rows place before false after = (length rows ≤ place) × (after ≡ before)
