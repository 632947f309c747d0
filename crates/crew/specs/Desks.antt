-- With which desks workers can begin.
use Rattle.std.specs.Prelude.{◌≡◌, ◌<◌, ℕ, false, List, [], length, get_or, Option, None, Some, unwrap_or}
use Rattle.package.specs.Content.{Seen}
use Rattle.notifier.specs.Held.{Held, seen_by}
use Rattle.notifier.specs.Standing.{Standing}

-- what a spent desk is taken for. No clause speaks of a worker that began with one
abbrev pub nowhere : Standing
nowhere = record {
  place = record {
    limits = record {
      min_time = 0;
      max_time = 0;
      default_time = 0;
      refer_time = 0;
      max_cseq = 0;
      table = 0;
      serials = 0;
      kept = 0;
      inbox = 0;
      outbox = 0;
    };
    seed = [];
    me = record { ip = []; port = 0 };
    stop = false;
    worker = 0;
  };
  book = record { clock = 0; next = 0; rows = []; boxes = []; ring = [] };
}

-- what a desk that isn't spent is seen as
abbrev pub standing_of : {P : Type 0} → (P → Seen) → Option (Held P) → Standing
standing_of seen desk = unwrap_or (seen_by seen desk) nowhere

-- A worker of this number can begin with this desk: neither it nor the first one is spent, it is this worker's, and its limits give the
-- outbox the room that those of the first give it.
abbrev pub MayBegin : Option Standing → ℕ → Option Standing → Type 0
MayBegin None worker desk = ⊥
MayBegin (Some first) worker None = ⊥
MayBegin (Some first) worker (Some desk) = (desk.place.worker ≡ worker) × (desk.place.limits.outbox ≡ first.place.limits.outbox)

-- each of these desks is one of its worker, by their order
abbrev pub AllMayBegin : {P : Type 0} → (P → Seen) → List (Option (Held P)) → Type 0
AllMayBegin {P} seen desks =
    (k : ℕ) (d : Option (Held P)) → k < length desks → MayBegin (seen_by seen (get_or desks 0 d)) k (seen_by seen (get_or desks k d))

-- the first of these desks with which no worker can begin
pub record IsUnfit {P : Type 0} (seen : P → Seen) (desks : List (Option (Held P))) (worker : ℕ) : Type 0 where
  pub within : worker < length desks
  pub unfit : (d : Option (Held P)) → MayBegin (seen_by seen (get_or desks 0 d)) worker (seen_by seen (get_or desks worker d)) → ⊥
  pub first : (k : ℕ) (d : Option (Held P)) → k < worker → MayBegin (seen_by seen (get_or desks 0 d)) k (seen_by seen (get_or desks k d))
