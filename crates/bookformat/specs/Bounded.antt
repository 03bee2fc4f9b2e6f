-- What a contract sees of a list that has room for N items and no more: its items, in order, what fills the room behind them,
-- and that the items fit.
use Rattle.std.specs.Prelude.{ℕ, ◌≤◌, List, length, take, refl}
use Rattle.std.proofs.Common.{arith, length-take}
use Rattle.std.specs.Coded.{Coded, code_by, coded_list, coded×, le_prop}
use base.Stored.{coded_sub}

pub record Bounded (T : Type 0) (N : ℕ) : Type 0 where
  pub items : List T
  pub spare : List T
  pub fits : length items ≤ N

-- it is stored as the two lists
abbrev pub bounded_code : {T : Type 0} {N : ℕ} → Coded T → Coded (Bounded T N)
bounded_code {T} {N} code =
    code_by ((p : List T × List T) × (length p.0 ≤ N)) (coded_sub (coded× (coded_list code) (coded_list code)) (λ p. length p.0 ≤ N) (λ p. le_prop))
    (λ v. ((v.items, v.spare), v.fits)) (λ p. record { items = p.0.0; spare = p.0.1; fits = p.1 }) (λ _. refl)

abbrev pub bounded_len : {T : Type 0} {N : ℕ} → Bounded T N → ℕ
bounded_len v = length v.items

-- a front of so many cells has no more items
pub take_fits : {T : Type 0} (n N : ℕ) (cells : List T) → n ≤ N → length (take n cells) ≤ N
take_fits n N cells le = omega (arith, length-take n cells, le)
