-- What has been heard of a script so far.
use Rattle.std.specs.Prelude.{◌≡◌, ℕ, List, length}
use Rattle.std.specs.List.{filter_map}
use Rattle.scripts.specs.declared.script.Block.{Block}
use Rattle.server.specs.declared.hearing.HeardScript.{HeardScript}
use Rattle.server.specs.Page.{Readings, AreReadings, octets_in, events_of, unread_lines, IsShortScript}

-- just these blocks
pub record HasHeard (blocks : List Block) (hearing : HeardScript) : Type 0 where
  pub events : (readings : Readings) → AreReadings readings → hearing.events.items ≡ events_of readings blocks
  pub unread : (readings : Readings) → AreReadings readings → hearing.unread ≡ unread_lines readings blocks
  pub datagrams : hearing.datagrams ≡ length (filter_map octets_in blocks)

-- all of the script that these bytes are
pub record IsHeard (bytes : List ℕ) (hearing : HeardScript) : Type 0 where
  pub blocks : List Block
  pub is_script : IsShortScript bytes blocks
  pub heard : HasHeard blocks hearing
