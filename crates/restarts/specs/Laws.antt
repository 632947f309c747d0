-- What holds of desks that go on after a restart.
use Rattle.std.specs.Prelude.{ℕ, ◌≡◌, ◌+◌, ◌-◌, ◌<◌, ◌≤◌, ◌^◌, Bool, true, false, List, ◌++◌, Some, All, filter}
use Rattle.std.specs.List.{Contains}
use Rattle.notifier_model.specs.declared.event.Event.{Event}
use Rattle.notifier_model.specs.declared.event.Out.{Out}
use Rattle.notifier_model.specs.declared.event.Out.TheVariants.{Notify}
use Rattle.notifier_model.specs.declared.place.Place.{Place}
use Rattle.notifier_model.specs.declared.row.Row.{Row}
use Rattle.notifier_model.specs.declared.saved.Saved.{Saved}
use Rattle.notifier_model.specs.Book.{Book}
use Rattle.notifier_model.specs.Out.{Notifies, out_of}
use Rattle.notifier_model.specs.Rows.{Telling, mailbox_of, notify}
use Rattle.notifier_model.specs.Run.{made, made_from, run, run_from}
use Rattle.notifier_model.specs.Saved.{book_with}
use Rattle.notifier_model.specs.Start.{Start, tag_of}
use Rattle.package.specs.Content.{Seen, finite_maps}
use Rattle.sip_write.specs.Notify.{notify_text}
use Rattle.subscription.specs.declared.notify.Notice.{Notice}
use Rattle.subscription.specs.declared.notify.Phase.TheVariants.{Active}
use Rattle.life.specs.Laws.{IsStart}
use Rattle.life.specs.Life.{Life, is_gone}
use Rattle.life.specs.Lives.{life}
use Rattle.life.specs.Notices.{newest_first}
use Rattle.life.specs.Sentences as sentences
use Rattle.notifier.specs.Awaiting.{is_unanswered}
use Rattle.notifier.specs.Resumed.{MayGoOn}
use Rattle.notifier.specs.Sound.{IsLive}
use Rattle.notifier.specs.Written.{saved_of}
use Rattle.restarts.specs.Ahead.{ahead, book_ahead, leap, serial_ahead}
use Rattle.restarts.specs.Living.{known}
use Rattle.restarts.specs.Restarts.{is_open}
use Rattle.restarts.specs.Withdrawn.{book_where}

-- ---- a restart goes on

-- what a notifier with this start leaves after these events: the book that its desk saves, and what its boxes hold
pub record IsLeftBy (start : Start) (es : List Event) (book : Saved) (boxes : List Seen) : Type 0 where
  pub book_is : book ≡ saved_of (run start es)
  pub boxes_are : boxes ≡ (run start es).boxes

-- where a desk stands that went on from this over these events
abbrev pub restarted : Start → Saved → List Seen → List Event → Book
restarted start book boxes events = run_from start.place (book_with book boxes) events

-- it stands where one desk stands after all of these events
abbrev pub StandsLaw : Type 0
StandsLaw = (start : Start) (es events : List Event) (book : Saved) (boxes : List Seen) → IsLeftBy start es book boxes →
    restarted start book boxes events ≡ run start (es ++ events)

-- for any further events it sends what one desk sends for all of them, behind what that one sent before
abbrev pub SendsLaw : Type 0
SendsLaw = (start : Start) (es events more : List Event) (book : Saved) (boxes : List Seen) → IsLeftBy start es book boxes →
    made start (es ++ (events ++ more)) ≡ made start (es ++ events) ++ made_from start.place (restarted start book boxes events) more

-- ---- what is sent again

-- each was sent before, and a row waits for its answer
abbrev pub AgainLaw : Type 0
AgainLaw = (rows : List Row) (outs : List Out) → All (Contains outs) (filter (is_open rows) outs) × All (λ out. is_open rows out ≡ true) (filter (is_open rows) outs)

-- the NOTIFY with this tag and this number is that of a subscription that lives, and no final answer to it came: what that is says
-- the law `unanswered` of lives
pub record IsOpenInLife (start : Start) (es : List Event) (tag : List ℕ) (number : ℕ) : Type 0 where
  pub serial : ℕ
  pub its_life : Life
  pub born : life start (newest_first es) serial ≡ Some its_life
  pub lives : is_gone start.place.limits its_life ≡ false
  pub tagged : tag_of start.place serial ≡ tag
  pub is_open : sentences.is_open start.place.limits its_life number ≡ true

-- where a row waits for the answer to a NOTIFY
abbrev pub UnansweredLaw : Type 0
UnansweredLaw = (start : Start) (es : List Event) (tag : List ℕ) (number : ℕ) → IsStart start → is_unanswered (run start es).rows tag number ≡ true → IsOpenInLife start es tag number

-- ---- books that are changed still go on

abbrev pub PartLaw : Type 0
PartLaw = (place : Place) (book : Saved) (test : Row → Bool) → MayGoOn place book → MayGoOn place (book_where test book)

abbrev pub AheadLaw : Type 0
AheadLaw = (place : Place) (book : Saved) → MayGoOn place book → MayGoOn place (book_ahead book)

-- the next number of a row that is ahead is above all of its numbers up to a leap further
abbrev pub NumbersLaw : Type 0
NumbersLaw = (row : Row) (lost number : ℕ) → lost ≤ leap → number ≤ row.sub.count + lost → number < (ahead row).sub.count + 1

-- the next serial of a book that is ahead is above all that may have been given up to a leap further
abbrev pub SerialsLaw : Type 0
SerialsLaw = (next lost serial : ℕ) → lost ≤ leap → serial < next + lost → serial < 2 ^ 32 → serial < serial_ahead next

-- ---- what is known of a row

-- a NOTIFY at this moment that tells a subscription goes on, with the number of its last one
abbrev pub notice_at : ℕ → Row → Notice
notice_at clock row = record { number = row.sub.count; phase = Active (row.sub.due - clock) }

-- what is known of a row of a desk, at the moment of its book, is what is noted with such a NOTIFY
abbrev pub NoteLaw : Type 0
NoteLaw = (t : Telling finite_maps) (row : Row) → IsLive t.clock row →
    let text = notify t row.sub.usage row.sub.want (notice_at t.clock row) in
    let its = known t.clock row in
    out_of (Notifies row.sub.want.to (mailbox_of row.sub.want) text) ≡ Notify its.to its.number false its.tag its.note (notify_text text)
