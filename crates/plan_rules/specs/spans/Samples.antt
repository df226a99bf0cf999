-- The bound against the length of the span, computed: for document 01's setting S, and for BlockHammer's Table 1 with an N and a tD that are accepted under
-- L 16,384. Each line has X and the bound.
use Rattle.std.specs.Prelude.{◌≡◌, ◌+◌, ◌-◌, ◌^◌, Ok, Err}
use Rattle.rules.specs.declared.Setting.{Setting}
use Rattle.rules.specs.Samples.{S, setting_s, table_one}
use Rattle.widths.specs.Claims.{greatest_n}
use Rattle.refused.specs.declared.Refusal.TheVariants.{OutOfRange, AboveLimit}
use Rattle.plan_rules.specs.spans.Spans.{span_of}

-- the accepted setting of Table 1
abbrev pub accepted : Setting
accepted = table_one 4096 31065 16384

pub record Cases : Type 0 where
  -- S: E is 20, N 2, tRC 1, tD 6
  pub s1 : span_of S 1 ≡ Ok 1
  pub s2 : span_of S 2 ≡ Ok 2
  pub s3 : span_of S 3 ≡ Ok 3
  pub s8 : span_of S 8 ≡ Ok 3
  pub s9 : span_of S 9 ≡ Ok 4
  pub s20 : span_of S 20 ≡ Ok 5
  -- E + 1, and one tick more: three epochs can meet such a span
  pub s21 : span_of S 21 ≡ Ok 6
  pub s22 : span_of S 22 ≡ Ok 7
  -- W: B is 10
  pub s40 : span_of S 40 ≡ Ok 10
  pub s41 : span_of S 41 ≡ Ok 11
  pub s62 : span_of S 62 ≡ Ok 16
  pub s80 : span_of S 80 ≡ Ok 19
  pub s400 : span_of S 400 ≡ Ok 85
  -- the longest span that 64 bits hold
  pub s_longest : span_of S (2 ^ 64 - 1) ≡ Ok 3843071682022823255
  -- the accepted setting of Table 1: E is 128,000,000
  pub one : span_of accepted 1 ≡ Ok 1
  pub gap : span_of accepted 185 ≡ Ok 1
  pub gap_past : span_of accepted 186 ≡ Ok 2
  -- N activations tRC apart, and then one every tD ticks
  pub burst : span_of accepted 757760 ≡ Ok 4096
  pub burst_past : span_of accepted 757761 ≡ Ok 4097
  pub eighth : span_of accepted 32000000 ≡ Ok 5102
  pub quarter : span_of accepted 64000000 ≡ Ok 6132
  pub half : span_of accepted 128000000 ≡ Ok 8192
  -- E + 1, and one tick more
  pub epoch_one : span_of accepted 128000001 ≡ Ok 8193
  pub epoch_past : span_of accepted 128000002 ≡ Ok 12264
  -- W: B is L
  pub window : span_of accepted 256000000 ≡ Ok 16384
  pub window_past : span_of accepted 256000001 ≡ Ok 16385
  pub windows2 : span_of accepted 512000000 ≡ Ok 28697
  pub windows4 : span_of accepted 1024000000 ≡ Ok 53322
  pub windows16 : span_of accepted 4096000000 ≡ Ok 201070
  pub longest : span_of accepted (2 ^ 64 - 1) ≡ Ok 887201396613024
  -- refusals: X 0, whatever the setting; the setting's own
  pub none : span_of accepted 0 ≡ Err OutOfRange
  pub none_refused : span_of (setting_s 9 4) 0 ≡ Err OutOfRange
  pub refused : span_of (setting_s 9 4) 40 ≡ Err AboveLimit
  -- the limits are those of 32-bit counters: BlockHammer's Table 1 for a chip with L 1,024, and the greatest N
  pub weak : span_of (table_one 400 1142197 1024) 256000000 ≡ Ok 1024
  pub greatest : span_of (greatest_n (2 ^ 20)) (2 ^ 64 - 1) ≡ Ok 267051286013220034
  pub greater : span_of (greatest_n (2 ^ 20 + 1)) (2 ^ 64 - 1) ≡ Err OutOfRange
