use Rattle.std.proofs.Common.{◌≡◌, ◌∙◌, List, ◌++◌, sym, ap, append_assoc}
use Rattle.notifier_model.specs.declared.event.Event.{Event}
use Rattle.notifier_model.specs.declared.saved.Saved.{Saved}
use Rattle.notifier_model.specs.Book.{Book}
use Rattle.notifier_model.specs.Run.{empty, made, made_from, run, run_from}
use Rattle.notifier_model.specs.Saved.{book_with}
use Rattle.notifier_model.specs.Start.{Start}
use Rattle.package.specs.Content.{Seen}
use Rattle.notifier.specs.Written.{saved_of}
use Rattle.notifier.proofs.Joined.{run_joined, made_joined}
use Rattle.restarts.specs.Laws.{IsLeftBy, restarted, StandsLaw, SendsLaw}
use Rattle.restarts.proofs.laws.a_restart_goes_on.Goals as goal

left_so : (start : Start) (es : List Event) (book : Saved) (boxes : List Seen) → IsLeftBy start es book boxes → book_with book boxes ≡ run start es
left_so start es book boxes left = ap (λ (s : Saved). book_with s boxes) left.book_is ∙ ap (λ (bs : List Seen). book_with (saved_of (run start es)) bs) left.boxes_are

stands : StandsLaw
unfolding run
stands start es events book boxes left =
    ap (λ (b : Book). run_from start.place b events) (left_so start es book boxes left) ∙ sym (run_joined start.place (empty start) es events)

sends : SendsLaw
unfolding made run
sends start es events more book boxes left =
    ap (λ (all : List Event). made_from start.place (empty start) all) (sym (append_assoc es events more))
    ∙ made_joined start.place (empty start) (es ++ events) more
    ∙ ap (λ (b : Book). made_from start.place (empty start) (es ++ events) ++ made_from start.place b more) (sym (stands start es events book boxes left))

pub returns-clause-stands : goal.returns-clause-stands
returns-clause-stands c = stands

pub returns-clause-sends : goal.returns-clause-sends
returns-clause-sends c = sends
