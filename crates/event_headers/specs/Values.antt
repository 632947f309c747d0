-- What the event headers say, as values: texts are lists of bytes.
use Rattle.std.specs.Prelude.{ℕ, List, Option}

-- Event (RFC 6665 section 8.2.1): the event package, and the id that tells apart the subscriptions of one dialog
pub record EventValue : Type 0 where
  pub «package» : List ℕ
  pub id : Option (List ℕ)

-- Subscription-State (RFC 6665 section 8.2.3): times are seconds
pub record StateValue : Type 0 where
  pub word : List ℕ
  pub expires : Option ℕ
  pub reason : Option (List ℕ)
  pub retry_after : Option ℕ

-- a range of Accept (RFC 3261 section 20.1): `*` stands for any type
pub record Range : Type 0 where
  pub main : List ℕ
  pub sub : List ℕ
