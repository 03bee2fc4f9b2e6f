-- What a clause reads of a store.
use Rattle.std.specs.Prelude.{ℕ, List, vec_items, vec_capacity}
use Rattle.register.specs.declared.row.Row.{Row}
use Rattle.rowstore.specs.declared.Store.{Store}

abbrev pub store_rows : Store → List Row
store_rows store = vec_items store.rows

abbrev pub store_capacity : Store → ℕ
store_capacity store = vec_capacity store.rows
