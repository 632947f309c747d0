-- The numbers that bound a notifier, each with the range in which it must be: of times the one between `--min-time` and `--max-time`.
use Rattle.std.specs.Prelude.{◌≡◌, ℕ, List, [], ◌∷◌, ◌++◌}
use Rattle.std.specs.List.{All}
use Rattle.notifier_model.specs.Limits.{IsWithin}
use Rattle.arguments.specs.declared.flag.Bound.{Bound}
use Rattle.arguments.specs.declared.flag.Bound.TheVariants as bound
use Rattle.arguments.specs.declared.choices.Numbers.{Numbers}
use Rattle.plans.specs.declared.ranged.Ranged.{Ranged}

abbrev pub ranged : Bound → ℕ → ℕ → ℕ → Ranged
ranged option value least most = record { option = option; value = value; least = least; most = most }

abbrev pub ranges : Numbers → List Ranged
ranges n =
    ranged bound.MinTime n.min_time 1 3600
    ∷ ranged bound.MaxTime n.max_time n.min_time 4294967295
    ∷ ranged bound.DefaultTime n.default_time n.min_time n.max_time
    ∷ ranged bound.ReferTime n.refer_time n.min_time n.max_time
    ∷ ranged bound.MaxCseq n.max_cseq 1 2147483647
    ∷ ranged bound.Table n.table 1 65536
    ∷ ranged bound.Serials n.serials 1 4294967295
    ∷ ranged bound.Kept n.kept 1 4096
    ∷ ranged bound.Inbox n.inbox 1 65536
    ∷ ranged bound.Outbox n.outbox 1 65536
    ∷ []

-- the number is in its range
abbrev pub Fits : Ranged → Type 0
Fits r = IsWithin r.least r.most r.value

-- it is the first of these that is out of its range
pub record IsFirstOut (ranges : List Ranged) (r : Ranged) : Type 0 where
  pub before : List Ranged
  pub behind : List Ranged
  pub stands : ranges ≡ before ++ r ∷ behind
  pub fit : All Fits before
  pub out : ¬ (Fits r)
