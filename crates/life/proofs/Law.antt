-- The law of a life: the NOTIFYs that a run makes of one subscription are those of its life.
--
-- What the book is after a list of events says `Invariant`. It holds at first, and each event keeps it and makes of each
-- subscription the NOTIFYs of what befell it there (`step_goes`); the law is one induction on the events. Each kind of event
-- has its file: `RepliesAndTicks`, `MailChanges`, `Progresses`, and for requests `RefusedRequests`, `InDialogs` and
-- `OutsideDialogs`. All but a birth go by one rule for all rows (`AllRows`). Of the maps of packages they use the facts of
-- `Maps` alone, of local tags those of `Tags`.
use Rattle.std.proofs.Common.{◌≡◌, ℕ, ◌<◌, ◌^◌, List, [], ◌∷◌, ◌++◌, Option, Some, None, Bool, true, false, ◌&&◌, refl, sym, ◌∙◌, ap, append_assoc}
use Prim.Native.Nat.{zero, suc}
use Rattle.std.proofs.lemmas.List.{append-nil}
use Rattle.std.specs.Prelude.{if◌then◌else◌, take, is_none, bytes_eq}
use Rattle.package.specs.Content.{Content, OfMail, OfStatus, mail_package}
use Rattle.life.proofs.Texts.{Bytes, and-false, if_is}
use Rattle.sip_text.specs.declared.address.Addr.{Addr}
use Rattle.sip_read.specs.declared.message.Request.{Request}
use Rattle.package.specs.Boxes.{content_in}
use Rattle.notifier_model.specs.Start.{Start, tag_of}
use Rattle.notifier_model.specs.declared.event.Event.{Event}
use Rattle.notifier_model.specs.declared.event.Event.TheVariants.{Request as Comes, Reply as Replies, Mail as Mails, Progress as Progresses, Tick as Ticks, Shut as Shuts}
use Rattle.notifier_model.specs.declared.refusal.Refusal.{Refusal}
use Rattle.notifier_model.specs.Requests.{is_ack, key_of_request, misfit}
use Rattle.notifier_model.specs.declared.row.Key.{Key}
use Rattle.notifier_model.specs.Book.{Book, Silent, nothing, step, served, unless, by_kept as by_kept_answer, by_to_tag, verdict, refused}
use Rattle.notifier_model.specs.Answers.{kept_answer}
use Rattle.notifier_model.specs.Out.{Answers, notifications}
use Rattle.notifier_model.specs.Run.{made, made_from, empty}
use Rattle.life.specs.Past.{now, content, mail_content, last_counts, is_fresh, is_placed, fits, keys}
use Rattle.life.specs.Lives.{lives, births, befell}
use Rattle.life.specs.Notices.{notices_at, notices, onto}
use Rattle.life.specs.Laws.{IsStart, NoticesLaw}
use Rattle.life.proofs.Rows.{rows_to, notifications-append}
use Rattle.life.proofs.NextLives.{Ranges, ranges, no_life_yet}
use Rattle.life.proofs.Invariant.{Holds, Goes}
use Rattle.life.proofs.RepliesAndTicks.{reply_goes, shut_goes, tick_goes}
use Rattle.life.proofs.MailChanges.{mail_goes}
use Rattle.life.proofs.Progresses.{progress_goes}
use Rattle.life.proofs.RefusedRequests.{refused_goes, stale_goes, fresh-kept, birth-unfit, unfit-denial}
use Rattle.life.proofs.InDialogs.{dialog_goes}
use Rattle.life.proofs.OutsideDialogs.{outside_goes}

-- one that doesn't fit, whatever else holds
misfit_goes : (start : Start) (past : List Event) (b : Book) (source : Addr) (r : Request) (cause : Refusal) → Ranges start.place.limits → Holds start past b → is_fresh start.place.limits past r ≡ true → is_none (misfit r) ≡ false → Goes start past (Comes source r) (refused start.place b source r cause)
misfit_goes start past b source r cause ok h fresh bad = refused_goes start past b source r cause ok h fresh (birth-unfit start past source r unfit) (unfit-denial start past r denial)
  where
    denial : (is_fresh start.place.limits past r && is_none (misfit r)) ≡ false
    denial = rw bad (and-false (is_fresh start.place.limits past r))

    unfit : fits start past r ≡ false
    unfit = unfold fits in (ap (λ (d : Bool). is_fresh start.place.limits past r && (d && is_placed start r r.head.to.tag)) bad ∙ and-false (is_fresh start.place.limits past r))

request_goes : (start : Start) (past : List Event) (source : Addr) (r : Request) (b : Book) → Ranges start.place.limits → Holds start past b → Goes start past (Comes source r) (step start.place b (Comes source r))
unfolding step verdict
request_goes start past source r b ok h = by_ack (is_ack r) refl
  where
    by_tag : is_fresh start.place.limits past r ≡ true → is_none (misfit r) ≡ true → (o : Option Bytes) → r.head.to.tag ≡ o → Goes start past (Comes source r) (served start.place b source r (by_to_tag start.place.limits b r o))
    by_tag fresh good None e = unfold by_to_tag in outside_goes start past b source r ok h fresh good e
    by_tag fresh good (Some tag) e = unfold by_to_tag in dialog_goes start past b source r tag ok h fresh good e

    by_misfit : is_fresh start.place.limits past r ≡ true → (o : Option Refusal) → misfit r ≡ o → Goes start past (Comes source r) (served start.place b source r (unless o (by_to_tag start.place.limits b r r.head.to.tag)))
    by_misfit fresh (Some cause) e = unfold unless served in misfit_goes start past b source r cause ok h fresh (ap is_none e)
    by_misfit fresh None e = unfold unless in by_tag fresh (ap is_none e) r.head.to.tag refl

    by_kept : (o : Option Bytes) → is_fresh start.place.limits past r ≡ is_none o → Goes start past (Comes source r) (served start.place b source r (by_kept_answer start.place.limits b r o))
    by_kept (Some bytes) e = unfold by_kept_answer served in stale_goes start past b source r (Answers source bytes ∷ []) ok h e (λ tag. unfold notifications in refl)
    by_kept None e = unfold by_kept_answer in by_misfit e (misfit r) refl

    by_ack : (d : Bool) → is_ack r ≡ d → Goes start past (Comes source r) (served start.place b source r (if d then Silent else by_kept_answer start.place.limits b r (kept_answer b.ring (key_of_request r))))
    by_ack true e = unfold served nothing in stale_goes start past b source r [] ok h (unfold is_fresh in (rw e refl)) (λ tag. unfold notifications in refl)
    by_ack false e = by_kept (kept_answer b.ring (key_of_request r)) (fresh-kept start past b r h e)

pub step_goes : (start : Start) (past : List Event) (e : Event) (b : Book) → Ranges start.place.limits → Holds start past b → Goes start past e (step start.place b e)
step_goes start past (Comes source r) b ok h = request_goes start past source r b ok h
step_goes start past (Replies r) b ok h = reply_goes start past r b ok h
step_goes start past (Mails m) b ok h = mail_goes start past m b ok h
step_goes start past (Progresses p) b ok h = progress_goes start past p b ok h
step_goes start past (Ticks t) b ok h = tick_goes start past t b ok h
step_goes start past Shuts b ok h = shut_goes start past b ok h

-- at first a package holds what it holds in the start
content-first : (start : Start) (name resource : Bytes) → content_in start.boxes name resource ≡ content start [] name resource
unfolding content
content-first start name resource = if_is (λ (c : Option Content). content_in start.boxes name resource ≡ c) (bytes_eq name mail_package) (mail_content resource [] (content_in start.boxes name resource)) (content_in start.boxes name resource) (λ e. by_content (content_in start.boxes name resource)) (λ e. refl)
  where
    by_content : (o : Option Content) → o ≡ mail_content resource [] o
    by_content None = unfold mail_content in refl
    by_content (Some (OfStatus code reason)) = unfold mail_content in refl
    by_content (Some (OfMail counts)) = unfold mail_content last_counts in refl

pub empty_holds : (start : Start) → IsStart start → Holds start [] (empty start)
unfolding empty now births lives keys rows_to
empty_holds start ok = record {
  clock_is = refl;
  next_is = refl;
  rows_are = refl;
  boxes_hold = record {
    types = λ name. refl;
    contents = λ name resource f. content-first start name resource;
    transfers = λ s l is alive refers. absurd (let none = no_life_yet start s in cc);
    not_begun = λ s later small. ok.no_transfer (tag_of start.place s);
  };
  ring_is = none start.place.limits.kept;
}
  where
    none : (n : ℕ) → [] ≡ take {A = Key} n []
    none zero = refl
    none (suc n) = refl

from_here : (start : Start) (k : ℕ) (past es : List Event) (b : Book) → Ranges start.place.limits → k < 2 ^ 64 → Holds start past b → notices start k (onto past es) ≡ notices start k past ++ notifications (tag_of start.place k) (made_from start.place b es)
unfolding made_from notifications notices
from_here start k past [] b ok small h = sym (append-nil (notices start k past))
from_here start k past (e ∷ es) b ok small h =
    let goes = step_goes start past e b ok h in
    from_here start k (e ∷ past) es (step start.place b e).book ok small goes.book
    ∙ rw (notifications-append (tag_of start.place k) (step start.place b e).outs (made_from start.place (step start.place b e).book es), goes.notices k small)
    (append_assoc (notices start k past) (notices_at start (e ∷ past) (befell start past e k)) (notifications (tag_of start.place k) (made_from start.place (step start.place b e).book es)))

pub notices_law : NoticesLaw
unfolding made
notices_law start k es ok small = sym (from_here start k [] es (empty start) (ranges start.place.limits ok.limits) small (empty_holds start ok) ∙ (unfold notices in refl))
