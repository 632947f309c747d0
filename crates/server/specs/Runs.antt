-- What a run reads and writes. Readers and writers are seen as the bytes that they have left and hold, where those are known.
use Rattle.std.specs.Prelude.{◌≡◌, ◌≢◌, ℕ, ◌<◌, true, List, length, map, Option, Result, Err, OnOk, OnErr, ◌⊎◌, Vec}
use Rattle.std.specs.List.{enumerate_from}
use Rattle.std.specs.declared.alloc.Global.{Global}
use Rattle.std.specs.Io.KnownBytes.{Consumes, Appends, IsAtEnd}
use Rattle.scripts.specs.declared.script.Block.{Block}
use Rattle.scripts.specs.declared.error.ScriptError.{ScriptError}
use Rattle.scripts.specs.declared.error.ScriptError.TheVariants.{BadScript, Device}
use Rattle.transport.specs.Devices.{SourceSeen, SinkSeen, one_more, AppendsFront}
use Rattle.package.specs.Content.{Seen}
use Rattle.notifier_model.specs.declared.place.Setup.{Setup}
use Rattle.notifier_model.specs.Start.{Start, place_of}
use Rattle.server.specs.Page.{most_bytes, IsShortScript, IsPage}

-- workers numbered from 0, each with its boxes
abbrev pub starts_on : Setup → List (List Seen) → List Start
starts_on setup boxes = map (λ numbered. let s : Start = record { place = place_of setup numbered.0; boxes = numbered.1 } in s) (enumerate_from 0 boxes)

abbrev pub starts_of : {P : Type 0} → (P → Seen) → Setup → List (Vec P Global) → List Start
starts_of seen setup boxes = starts_on setup (map (λ held. map seen held.items) boxes)

-- what was read is too long, or it is all there was and no script
pub record ReadsNoScript {R : Type 0} (remaining : R → Option (List ℕ)) (before after : SourceSeen R) : Type 0 where
  pub bytes : List ℕ
  pub was_read : Consumes (remaining before.reader) (remaining after.reader) bytes
  pub is_none : (most_bytes < length bytes) ⊎ (IsAtEnd (remaining after.reader) × ((blocks : List Block) → IsShortScript bytes blocks → ⊥))

-- all was read and is a script, and nothing was written: so it is where a thread could not be started
pub record StartsNoThread {R W : Type 0} (remaining : R → Option (List ℕ)) (source source' : SourceSeen R) (sink sink' : SinkSeen W) : Type 0 where
  pub bytes : List ℕ
  pub blocks : List Block
  pub was_read : Consumes (remaining source.reader) (remaining source'.reader) bytes
  pub is_all : IsAtEnd (remaining source'.reader)
  pub is_script : IsShortScript bytes blocks
  pub no_read_failed : source'.failures ≡ source.failures
  pub unwritten : sink' ≡ sink

module _ {R W : Type 0} (remaining : R → Option (List ℕ)) (contents : W → Option (List ℕ)) where
  -- all was read, and what was written is its page
  pub record WritesPage (starts : List Start) (source source' : SourceSeen R) (sink sink' : SinkSeen W) : Type 0 where
    pub bytes : List ℕ
    pub page : List ℕ
    pub was_read : Consumes (remaining source.reader) (remaining source'.reader) bytes
    pub is_all : IsAtEnd (remaining source'.reader)
    pub is_page : IsPage starts bytes page
    pub was_written : Appends (contents sink.writer) (contents sink'.writer) page

  -- all was read, and what was written is a front of its page
  pub record WritesFront (starts : List Start) (source source' : SourceSeen R) (sink sink' : SinkSeen W) : Type 0 where
    pub bytes : List ℕ
    pub page : List ℕ
    pub was_read : Consumes (remaining source.reader) (remaining source'.reader) bytes
    pub is_all : IsAtEnd (remaining source'.reader)
    pub is_page : IsPage starts bytes page
    pub was_written : AppendsFront (contents sink.writer) (contents sink'.writer) page

  -- a read failed and nothing was written, or a write failed
  abbrev pub MeetsFault : List Start → SourceSeen R → SourceSeen R → SinkSeen W → SinkSeen W → Type 0
  MeetsFault starts source source' sink sink' =
      ((source'.failures ≡ one_more source.failures) × (sink' ≡ sink))
      ⊎ ((source'.failures ≡ source.failures) × (sink'.failures ≡ one_more sink.failures) × WritesFront starts source source' sink sink')

  -- a read or a write failed, or threads were to be started and one could not be
  abbrev pub IsHindered : Type 0 → List Start → SourceSeen R → SourceSeen R → SinkSeen W → SinkSeen W → Type 0
  IsHindered threads starts source source' sink sink' =
      MeetsFault starts source source' sink sink' ⊎ (threads × StartsNoThread remaining source source' sink sink')

  -- how a run of a script from these starts ends, and what it read and wrote. `threads` says when it starts threads
  pub record Runs (threads : Type 0) (starts : List Start) (result : Result (Unit {0}) ScriptError) (source source' : SourceSeen R) (sink sink' : SinkSeen W) : Type 0 where
    -- what was written is the page of all that was read
    pub page : OnOk result (WritesPage starts source source' sink sink')
    pub flushed : OnOk result (sink'.is_flushed ≡ true)
    -- only bytes that are no script, or too many, are a bad script
    pub bad_script : result ≡ Err BadScript → ReadsNoScript remaining source source'
    pub unwritten : result ≢ Err Device → OnErr result (sink' ≡ sink)
    -- only a read or a write that failed in this call, or a thread that could not be started, is a device fault
    pub device : result ≡ Err Device → IsHindered threads starts source source' sink sink'
    pub no_failure : result ≢ Err Device → (source'.failures ≡ source.failures) × (sink'.failures ≡ sink.failures)
