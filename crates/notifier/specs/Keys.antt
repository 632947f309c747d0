-- A key whose texts stand in one, one behind the other.
use Rattle.std.specs.Prelude.{◌≡◌, ℕ, true, List, take, drop}
use Rattle.std.specs.Str.{is_utf8}
use Rattle.notifier_model.specs.declared.row.Key.{Key}

-- the branch and the sent-by have so many bytes; the method is what is left
abbrev pub parted : ℕ → ℕ → List ℕ → Key
parted branch sent_by texts = record {
  branch = take branch texts;
  sent_by = take sent_by (drop branch texts);
  method = drop sent_by (drop branch texts);
}

-- each of the three is a text
pub record AreTexts (key : Key) : Type 0 where
  pub branch : is_utf8 key.branch ≡ true
  pub sent_by : is_utf8 key.sent_by ≡ true
  pub method : is_utf8 key.method ≡ true
