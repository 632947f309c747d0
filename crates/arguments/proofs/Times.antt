-- A time that no setting names may be granted.
use Rattle.std.proofs.Common.{◌≡◌, ℕ, ◌≤◌, min, max, Bool, true, false, List, arith}
use Rattle.std.specs.List.{list_any}
use Rattle.arguments.specs.declared.setting.Setting.{Setting}
use Rattle.arguments.specs.declared.choices.Numbers.{Numbers}
use Rattle.arguments.specs.Choices.{names_default_time, names_refer_time, fitting, fitted, TimesFit}

between : (least most time : ℕ) → least ≤ most → (least ≤ max (min time most) least) × (max (min time most) least ≤ most)
between least most time le = (omega (arith, le), omega (arith, le))

fits : (n : Numbers) (time : ℕ) (b : Bool) → b ≡ false → n.min_time ≤ n.max_time → (n.min_time ≤ fitting n time b) × (fitting n time b ≤ n.max_time)
fits n time true e le = absurd cc
fits n time false e le = between n.min_time n.max_time time le

pub times_fit : (settings : List Setting) (n : Numbers) → TimesFit settings (fitted settings n)
times_fit settings n = record {
  default_time = λ unnamed le. fits n n.default_time (list_any names_default_time settings) unnamed le;
  refer_time = λ unnamed le. fits n n.refer_time (list_any names_refer_time settings) unnamed le;
}
