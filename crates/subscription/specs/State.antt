-- A live subscription of a notifier (RFC 6665 section 4.2).
use Rattle.std.specs.Prelude.{ℕ}
use Rattle.subscription.specs.declared.terms.Usage.{Usage}
use Rattle.subscription.specs.declared.terms.Want.{Want}

-- how many NOTIFYs it had, and the second in which its time is up
pub record State : Type 0 where
  pub usage : Usage
  pub want : Want
  pub count : ℕ
  pub due : ℕ
