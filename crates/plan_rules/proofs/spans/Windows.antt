-- The bound for whole windows: in k of them 2k + 1 epochs meet, so N × (k + 1) activations are free of the delay.
use mathlib.Core.Path.{◌≡◌, ap, ◌∙◌}
use mathlib.Core.List.{List}
use Prim.Native.Nat.{ℕ, ◌+◌, ◌-◌, ◌*◌, ◌/◌, ◌≤◌, ◌<◌}
use native.Mathlib.Omega.{arith}
use native.Mathlib.Nat.{mul_assoc, mul_comm, add-mul, one-mul, mul-sub, mul-le-mul_left, mul-le-mul_right, le-div_iff_mul-le, div-lt_iff_lt-mul}
use lib.Dec.{leb, le→leb}
use Rattle.rules.specs.declared.Setting.{Setting}
use Rattle.rules.specs.declared.Limits.{Limits}
use Rattle.rules.specs.Cells.{ceil_div}
use Rattle.rules.specs.Setting.{epoch_length, row_bound}
use Rattle.rules.specs.Claims.{free_most, span_bound}
use Rattle.rules.specs.Tested.{Accepted}
use Rattle.rules.proofs.Tests.{cond_yes}
use Rattle.rules.proofs.Accept.{epoch_long}

windows_epochs : (d k : ℕ) → 2 ≤ d → 1 ≤ k → ceil_div (ceil_div (k * (2 * d) - 1) d + 1) 2 ≡ k + 1
windows_epochs d k h k1 =
    let all = k * (2 * d) - 1 + (d - 1) in
    let e : k * (2 * d) ≡ 2 * k * d = rw (← mul_assoc k 2 d, mul_comm k 2) in
    let some : 1 * d ≤ 2 * k * d = mul-le-mul_right d (omega arith) in
    let lo : 2 * k ≤ all / d = (le-div_iff_mul-le {k = d} {x = 2 * k} {y = all} (omega arith)).1 (omega arith) in
    let more : (2 * k + 1) * d ≡ 2 * k * d + d = rw (add-mul (2 * k) 1 d, one-mul d) in
    let hi : all / d < 2 * k + 1 = (div-lt_iff_lt-mul {k = d} {x = all} {y = 2 * k + 1} (omega arith)).1 (omega arith) in
    let both : all / d ≡ 2 * k = omega arith in
    rw both (omega arith)

-- two bursts fit in a window, so k + 1 fit in k windows
windows_room : (n trc w k : ℕ) → 1 ≤ k → 2 * n * trc ≤ w - 1 → n * (k + 1) * trc ≤ k * w - 1
windows_room n trc w k k1 h =
    let b = n * trc in
    let named : n * (k + 1) * trc ≡ (k + 1) * b = rw (mul_comm n (k + 1), mul_assoc (k + 1) n trc) in
    let sum : (k + 1) * b ≡ k * b + b = rw (add-mul k 1 b, one-mul b) in
    let two : 2 * n * trc ≡ 2 * b = mul_assoc 2 n trc in
    let each : k * (2 * b) ≤ k * (w - 1) = mul-le-mul_left k (omega arith) in
    let twice : k * (2 * b) ≡ 2 * (k * b) = rw (← mul_assoc k 2 b, mul_comm k 2, mul_assoc 2 k b) in
    let less : k * (w - 1) ≡ k * w - k * 1 = mul-sub k w 1 in
    let one : 1 * b ≤ k * b = mul-le-mul_right b k1 in
    omega arith

module _ (m : Limits) (s : Setting) (seeds : List ℕ) (ok : Accepted m s seeds) where
  free_in : (k : ℕ) → 1 ≤ k → free_most s (k * s.w) ≡ s.n * (k + 1)
  free_in k k1 =
      let halves : s.w ≡ 2 * epoch_length s = omega (arith, ok.ranges.even) in
      ap (λ w. s.n * ceil_div (ceil_div (k * w - 1) (epoch_length s) + 1) 2) halves ∙ ap (λ c. s.n * c) (windows_epochs (epoch_length s) k (epoch_long ok) k1)

  pub in_windows : (k : ℕ) → 1 ≤ k → span_bound s (k * s.w) ≡ s.n * (k + 1) + 1 + (k * s.w - 1 - s.n * (k + 1) * s.trc) / s.td
  unfolding span_bound
  in_windows k k1 =
      let f = s.n * (k + 1) in
      let y = k * s.w - 1 in
      let long = f + 1 + (y - f * s.trc) / s.td in
      let short = 1 + y / s.trc in
      rw (free_in k k1, cond_yes (leb (f * s.trc) y) long short (le→leb (f * s.trc) y (windows_room s.n s.trc s.w k k1 ok.room)))

  pub in_one_window : span_bound s s.w ≡ row_bound s
  unfolding row_bound
  in_one_window =
      let one : 1 * s.w ≡ s.w = one-mul s.w in
      let two : s.n * (1 + 1) ≡ 2 * s.n = mul_comm s.n 2 in
      rw (one, two) at (in_windows 1 (omega arith))
