-- The greatest delay stays small, of the limits that are served and of each profile.
use Prim.Native.Nat.{ℕ, zero, suc, ◌*◌, ◌/◌, ◌≤◌}
use native.Mathlib.Omega.{arith}
use native.Mathlib.Nat.{mul-le-mul}
use Rattle.rules.specs.Setting.{profile_of}

pub places_small : (limit tfaw : ℕ) → limit ≤ 32768 → tfaw ≤ 65535 → limit / 4 * tfaw ≤ 8192 * 65535
places_small limit tfaw h k = mul-le-mul {n₂ = 8192} {m₂ = 65535} (omega arith) k

own_history_lem : (mark : ℕ) → (profile_of mark).history ≤ 2147483648
own_history_lem zero = omega arith
own_history_lem (suc zero) = omega arith
own_history_lem (suc (suc mark)) = omega arith

pub own_small : (mark tfaw : ℕ) → tfaw ≤ 65535 → (profile_of mark).history / 4 * tfaw ≤ 536870912 * 65535
own_small mark tfaw k = mul-le-mul {n₂ = 536870912} {m₂ = 65535} (omega (arith, own_history_lem mark)) k
