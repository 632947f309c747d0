-- A desk that was restarted from what a journal says of its worker.
use Rattle.std.proofs.Common.{◌≡◌, ◌∙◌, ℕ, List, [], ◌∷◌, ◌++◌, map, filter, Option, Some, ap}
use Rattle.std.proofs.lemmas.List.{map-append}
use Rattle.package.specs.Content.{Seen}
use Rattle.notifier_model.specs.declared.event.Event.{Event}
use Rattle.notifier_model.specs.declared.event.Out.{Out}
use Rattle.notifier_model.specs.declared.place.Setup.{Setup}
use Rattle.notifier_model.specs.declared.saved.Saved.{Saved}
use Rattle.notifier_model.specs.Out.{out_of}
use Rattle.notifier_model.specs.Run.{made_from, run_from}
use Rattle.notifier_model.specs.Saved.{book_with}
use Rattle.notifier_model.specs.Start.{place_of}
use Rattle.notifier.specs.Standing.{Standing}
use Rattle.restarts.specs.Restarts.{is_open}
use Rattle.journal.specs.declared.file.Account.{Account}
use Rattle.resumption.specs.declared.desks.Worked.{Worked}
use Rattle.resumption.specs.Accounts.{boxes_then, events_since, stands, unanswered}

-- where it stands
abbrev pub restarted : Setup → ℕ → Saved → List Seen → List Event → Standing
restarted setup w book boxes es = record { place = place_of setup w; book = run_from (place_of setup w) (book_with book boxes) es }

abbrev pub still_open : Setup → ℕ → Saved → List Seen → List Event → List Out
still_open setup w book boxes es =
    filter (is_open (restarted setup w book boxes es).book.rows) (map out_of (made_from (place_of setup w) (book_with book boxes) es))

-- it is what its worker left
pub record IsLeft (worked : Worked) (a : Account) (n w : ℕ) (book : Saved) (boxes : List Seen) (es : List Event) : Type 0 where
  pub worker_is : w ≡ n
  pub book_is : book ≡ a.book.saved
  pub boxes_are : boxes ≡ boxes_then worked.no_refer a.book
  pub events_are : es ≡ events_since a

pub stands_there : (worked : Worked) (a : Account) (n w : ℕ) (book : Saved) (boxes : List Seen) (es : List Event) → IsLeft worked a n w book boxes es
    → restarted worked.setup w book boxes es ≡ stands worked n a
stands_there worked a n w book boxes es left =
    ap (λ (i : ℕ). restarted worked.setup i book boxes es) left.worker_is
    ∙ ap (λ (b : Saved). restarted worked.setup n b boxes es) left.book_is
    ∙ ap (λ (bs : List Seen). restarted worked.setup n a.book.saved bs es) left.boxes_are
    ∙ ap (restarted worked.setup n a.book.saved (boxes_then worked.no_refer a.book)) left.events_are

pub open_there : (worked : Worked) (a : Account) (n w : ℕ) (book : Saved) (boxes : List Seen) (es : List Event) → IsLeft worked a n w book boxes es
    → still_open worked.setup w book boxes es ≡ unanswered worked n a
open_there worked a n w book boxes es left =
    ap (λ (i : ℕ). still_open worked.setup i book boxes es) left.worker_is
    ∙ ap (λ (b : Saved). still_open worked.setup n b boxes es) left.book_is
    ∙ ap (λ (bs : List Seen). still_open worked.setup n a.book.saved bs es) left.boxes_are
    ∙ ap (still_open worked.setup n a.book.saved (boxes_then worked.no_refer a.book)) left.events_are

-- one desk behind others
pub desk_more : {D : Type 0} (seen : D → Option Standing) (desks after : List D) (desk : D) (s t : Standing)
    → after ≡ desks ++ desk ∷ [] → seen desk ≡ Some s → s ≡ t → map seen after ≡ map seen desks ++ Some t ∷ []
desk_more seen desks after desk s t behind it is =
    ap (map seen) behind
    ∙ map-append seen desks (desk ∷ [])
    ∙ ap (λ (o : Option Standing). map seen desks ++ o ∷ []) (it ∙ ap (λ (x : Standing). Some x) is)
