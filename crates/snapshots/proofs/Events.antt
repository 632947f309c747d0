-- Events are read again.
use Rattle.std.proofs.Common.{◌≡◌, ◌∙◌, ℕ, Bool, true, false, cond, List, [], ◌∷◌, ◌++◌, Option, Some, None, eqb, refl, sym, ap, subst}
use Rattle.sip_text.specs.declared.address.Addr.{Addr}
use Rattle.sip_text.specs.Addresses.{IsAddr}
use Rattle.sip_read.specs.declared.message.Request.{Request}
use Rattle.notifier_model.specs.declared.event.Event.{Event}
use Rattle.notifier_model.specs.declared.event.Event.TheVariants.{Request as Comes, Reply, Mail, Progress as Step, Tick, Shut}
use Rattle.snapshots.specs.Forms.{IsForm, address_text, address_at, both_at}
use Rattle.snapshots.specs.Messages.{request_text, request_at, IsRequest, IsSound}
use Rattle.snapshots.specs.Events.{event_text, event_at, comes_at, reply_at, changed_at, stepped_at, tick_at, EventFits, is_sound, IsEvent}
use Rattle.snapshots.proofs.Forms.{number_form, address_form, both_form, two_texts, AreBoth}
use Rattle.snapshots.proofs.Messages.{IsWhole, request_form, response_form}
use Rattle.snapshots.proofs.Changes.{mail_form, progress_form}
use Rattle.snapshots.proofs.Choices.{pick, case_again, case_takes, alone_takes}

came_form : IsForm (two_texts address_text request_text) (AreBoth IsAddr IsWhole) (both_at address_at request_at)
came_form = both_form address_form request_form

abbrev came : Addr × Request → Event
came p = Comes p.0 p.1

event_again : (e : Event) (rest : List ℕ) → IsEvent e → event_at (event_text e ++ rest) ≡ Some (e, rest)
unfolding event_at comes_at reply_at changed_at stepped_at tick_at
event_again (Comes from request) rest h = case_again came event_text IsEvent came_form (from, request) rest (h.fits.0, (h.fits.1, h.sound))
event_again (Reply response) rest h = case_again (λ r. Reply r) event_text IsEvent response_form response rest h.fits
event_again (Mail change) rest h = case_again (λ m. Mail m) event_text IsEvent mail_form change rest h.fits
event_again (Step progress) rest h = case_again (λ p. Step p) event_text IsEvent progress_form progress rest h.fits
event_again (Tick second) rest h = case_again (λ n. Tick n) event_text IsEvent number_form second rest h.fits
event_again Shut rest h = refl

event_takes : (t : List ℕ) (v : Event) (rest : List ℕ) → event_at t ≡ Some (v, rest) → (t ≡ event_text v ++ rest) × IsEvent v
unfolding event_at comes_at reply_at changed_at stepped_at tick_at
event_takes [] v rest e = absurd cc
event_takes (x ∷ xs) v rest e =
    pick x 113 _ _ (v, rest) e (λ is e. case_takes came event_text IsEvent came_form x 113 xs v rest (λ p. refl) (λ p h. record { fits = (h.0, h.1.0); sound = h.1.1 }) is e)
    (λ e. pick x 114 _ _ (v, rest) e (λ is e. case_takes (λ r. Reply r) event_text IsEvent response_form x 114 xs v rest (λ r. refl) (λ r h. record { fits = h; sound = refl }) is e)
    (λ e. pick x 109 _ _ (v, rest) e (λ is e. case_takes (λ m. Mail m) event_text IsEvent mail_form x 109 xs v rest (λ m. refl) (λ m h. record { fits = h; sound = refl }) is e)
    (λ e. pick x 112 _ _ (v, rest) e (λ is e. case_takes (λ p. Step p) event_text IsEvent progress_form x 112 xs v rest (λ p. refl) (λ p h. record { fits = h; sound = refl }) is e)
    (λ e. pick x 116 _ _ (v, rest) e (λ is e. case_takes (λ n. Tick n) event_text IsEvent number_form x 116 xs v rest (λ n. refl) (λ n h. record { fits = h; sound = refl }) is e)
    (λ e. pick x 115 _ _ (v, rest) e (λ is e. alone_takes event_text IsEvent x 115 xs Shut v rest refl (record { fits = tt; sound = refl }) is e) (λ e. absurd cc))))))

pub event_form : IsForm event_text IsEvent event_at
event_form = record { again = event_again; takes = event_takes }
