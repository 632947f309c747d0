-- A request in a dialog is refused for no place.
use Rattle.std.proofs.Common.{◌≡◌, ℕ, List, [], ◌∷◌, Option, Some, None, false, refl}
use Rattle.std.specs.Prelude.{not, ◌||◌, nat_lt, find}
use Rattle.std.specs.Fmt
use Rattle.std.specs.List.{All, list_any}
use Rattle.std.proofs.lemmas.List.Elements.{All-nil, All-cons, All-append}
use Rattle.sip_text.specs.declared.address.Addr.{Addr}
use Rattle.sip_read.specs.declared.message.Request.{Request}
use Rattle.sip_write.specs.Answer.{answer_text, answer_lines}
use Rattle.sip_write.specs.Lines.{joined}
use Rattle.event_headers.specs.Values.{EventValue}
use Rattle.subscription.specs.declared.terms.Want.{Want}
use Rattle.subscription.specs.declared.life.Step.{Step}
use Rattle.subscription.specs.declared.life.Step.TheVariants.{Live, Over}
use Rattle.subscription.specs.State.{State}
use Rattle.package.specs.Content.{Seen}
use Rattle.notifier_model.specs.declared.place.Place.{Place}
use Rattle.notifier_model.specs.declared.row.Row.{Row}
use Rattle.notifier_model.specs.declared.refusal.Refusal.{Refusal}
use Rattle.notifier_model.specs.declared.refusal.Refusal.TheVariants as refusal
use Rattle.notifier_model.specs.Answers.{kept_answer, refusal_answer, refusal_text, renewal_answer}
use Rattle.notifier_model.specs.Fields.{same_event}
use Rattle.notifier_model.specs.Limits.{Limits}
use Rattle.notifier_model.specs.Out.{Send, Answers}
use Rattle.notifier_model.specs.Requests.{is_ack, is_subscribe, is_refer, is_sip_uri, is_strange, is_malformed, is_too_brief, event_of, misfit, denial, key_of_request}
use Rattle.notifier_model.specs.Rows.{Turned, stays, wherever, with_sub, turned, sweep, has_serial, only, counted, renewed, renewed_sub, is_dialog}
use Rattle.notifier_model.specs.Book.{Book, Verdict, Silent, Repeated, Refused, Denied, Renewed, Born, unless, unless_denied, in_dialog, by_to_tag, by_kept, verdict, nothing, keeping, telling, refused, denied, accepted, all_rows, served, step}
use Rattle.life.specs.NeverFull.{is_503, NeverFullLaw}
use Rattle.life.proofs.Texts.{if_is}
use Rattle.life.proofs.Rows.{said}
use Rattle.life.proofs.Turns.{told_from}

abbrev Fair : Send → Type 0
Fair out = is_503 out ≡ false

-- ---- the rows say nothing but NOTIFYs

abbrev Quiet : (Row → Turned) → Type 0
Quiet rule = (row : Row) → All Fair (rule row).notifies

turned-fair : (place : Place) (boxes : List Seen) (clock : ℕ) (to : Addr) (mk : State → Row) (next : Step) → All Fair (turned (told_from place boxes clock) to mk next).notifies
unfolding turned
turned-fair place boxes clock to mk (Live sub notice) = All-cons Fair _ [] refl (All-nil Fair)
turned-fair place boxes clock to mk (Over usage asked notice) = All-cons Fair _ [] refl (All-nil Fair)

only-fair : (serial : ℕ) (rule : Row → Turned) → Quiet rule → Quiet (only serial rule)
unfolding only wherever stays
only-fair serial rule quiet row =
    if_is (λ (t : Turned). All Fair t.notifies) (has_serial serial row) (rule row) (stays row) (λ e. quiet row) (λ e. All-nil Fair)

counted-fair : (r : Request) → Quiet (counted r)
unfolding counted stays
counted-fair r row = All-nil Fair

renewed-fair : (place : Place) (boxes : List Seen) (clock : ℕ) (source : Addr) (r : Request) → Quiet (renewed (told_from place boxes clock) source r)
unfolding renewed
renewed-fair place boxes clock source r row =
    turned-fair place boxes clock source (with_sub (record row { last_cseq = r.head.cseq })) (renewed_sub place clock source r row.sub)

said-fair : (rule : Row → Turned) → Quiet rule → (rows : List Row) → All Fair (said rule rows)
unfolding sweep
said-fair rule quiet [] = All-nil Fair
said-fair rule quiet (row ∷ rows) = All-append Fair (rule row).notifies (said rule rows) (quiet row) (said-fair rule quiet rows)

-- ---- the causes

abbrev FairCause : Refusal → Type 0
FairCause cause = cause ≡ refusal.Full → ⊥

refusal-fair : (place : Place) (boxes : List Seen) (source to : Addr) (r : Request) (cause : Refusal) → FairCause cause → Fair (Answers to (answer_text (refusal_answer place boxes source r cause)))
unfolding answer_text answer_lines joined refusal_answer refusal_text Fmt.digits
refusal-fair place boxes source to r refusal.OtherMethod fair = refl
refusal-fair place boxes source to r refusal.OtherScheme fair = refl
refusal-fair place boxes source to r refusal.UnmetRequire fair = refl
refusal-fair place boxes source to r refusal.Malformed fair = refl
refusal-fair place boxes source to r refusal.NoDialog fair = refl
refusal-fair place boxes source to r refusal.OldCseq fair = refl
refusal-fair place boxes source to r refusal.ReferInDialog fair = refl
refusal-fair place boxes source to r refusal.OtherEvent fair = refl
refusal-fair place boxes source to r refusal.NoPackage fair = refl
refusal-fair place boxes source to r refusal.OnlyByRefer fair = refl
refusal-fair place boxes source to r refusal.NotAcceptable fair = refl
refusal-fair place boxes source to r refusal.NoResource fair = refl
refusal-fair place boxes source to r refusal.TooBrief fair = refl
refusal-fair place boxes source to r refusal.Full fair = absurd (fair refl)

renewal-fair : (place : Place) (source to : Addr) (r : Request) → Fair (Answers to (answer_text (renewal_answer place source r)))
unfolding answer_text answer_lines joined renewal_answer Fmt.digits
renewal-fair place source to r = refl

-- ---- the verdict

abbrev FairVerdict : Verdict → Type 0
FairVerdict Silent = Unit {0}
FairVerdict (Repeated bytes) = ⊥
FairVerdict (Refused cause) = FairCause cause
FairVerdict (Denied serial cause) = FairCause cause
FairVerdict (Renewed serial) = Unit {0}
FairVerdict (Born kind) = ⊥

abbrev FairCauses : Option Refusal → Type 0
FairCauses None = Unit {0}
FairCauses (Some cause) = FairCause cause

misfit-fair : (r : Request) → FairCauses (misfit r)
unfolding misfit
misfit-fair r =
    if_is FairCauses (not (is_subscribe r || is_refer r)) _ _ (λ e full. cc)
    (λ e. if_is FairCauses (not (is_sip_uri r.uri)) _ _ (λ e full. cc)
    (λ e. if_is FairCauses (list_any is_strange r.require) _ _ (λ e full. cc)
    (λ e. if_is FairCauses (is_malformed r) _ _ (λ e full. cc) (λ e. tt))))

denial-fair : (limits : Limits) (event : EventValue) (r : Request) → FairCauses (denial limits event r)
unfolding denial
denial-fair limits event r =
    if_is FairCauses (is_refer r) _ _ (λ e full. cc)
    (λ e. if_is FairCauses (not (same_event (event_of r) event)) _ _ (λ e full. cc)
    (λ e. if_is FairCauses (is_too_brief limits r) _ _ (λ e full. cc) (λ e. tt)))

unless-fair : (o : Option Refusal) (rest : Verdict) → FairCauses o → FairVerdict rest → FairVerdict (unless o rest)
unfolding unless
unless-fair None rest o fair = fair
unless-fair (Some cause) rest o fair = o

denied-fair : (serial : ℕ) (o : Option Refusal) → FairCauses o → FairVerdict (unless_denied serial o)
unfolding unless_denied
denied-fair serial None fair = tt
denied-fair serial (Some cause) fair = fair

in_dialog-fair : (limits : Limits) (r : Request) (o : Option Row) → FairVerdict (in_dialog limits r o)
unfolding in_dialog
in_dialog-fair limits r None = λ full. cc
in_dialog-fair limits r (Some row) =
    if_is FairVerdict (nat_lt row.last_cseq r.head.cseq) _ _
    (λ e. denied-fair row.serial (denial limits row.sub.want.event r) (denial-fair limits row.sub.want.event r))
    (λ e full. cc)

by_to_tag-fair : (limits : Limits) (b : Book) (r : Request) (tag : List ℕ) (o : Option (List ℕ)) → o ≡ Some tag → FairVerdict (by_to_tag limits b r o)
unfolding by_to_tag
by_to_tag-fair limits b r tag None is = absurd (cc)
by_to_tag-fair limits b r tag (Some own) is = in_dialog-fair limits r (find (is_dialog r own) b.rows)

by_kept-fair : (limits : Limits) (b : Book) (r : Request) (tag : List ℕ) (o : Option (List ℕ)) → r.head.to.tag ≡ Some tag → o ≡ None → FairVerdict (by_kept limits b r o)
unfolding by_kept
by_kept-fair limits b r tag None tagged is =
    unless-fair (misfit r) (by_to_tag limits b r r.head.to.tag) (misfit-fair r) (by_to_tag-fair limits b r tag r.head.to.tag tagged)
by_kept-fair limits b r tag (Some bytes) tagged is = absurd (cc)

verdict-fair : (limits : Limits) (b : Book) (r : Request) (tag : List ℕ) → r.head.to.tag ≡ Some tag → kept_answer b.ring (key_of_request r) ≡ None → FairVerdict (verdict limits b r)
unfolding verdict
verdict-fair limits b r tag tagged fresh =
    if_is FairVerdict (is_ack r) _ _ (λ e. tt) (λ e. by_kept-fair limits b r tag (kept_answer b.ring (key_of_request r)) tagged fresh)

-- ---- what goes out

served-fair : (place : Place) (b : Book) (source : Addr) (r : Request) (v : Verdict) → FairVerdict v → All Fair (served place b source r v).outs
unfolding served nothing keeping refused denied accepted all_rows
served-fair place b source r Silent fair = All-nil Fair
served-fair place b source r (Repeated bytes) fair = absurd fair
served-fair place b source r (Refused cause) fair = All-cons Fair _ [] (refusal-fair place b.boxes source source r cause fair) (All-nil Fair)
served-fair place b source r (Denied serial cause) fair =
    All-cons Fair _ (said (only serial (counted r)) b.rows) (refusal-fair place b.boxes source source r cause fair)
    (said-fair (only serial (counted r)) (only-fair serial (counted r) (counted-fair r)) b.rows)
served-fair place b source r (Renewed serial) fair =
    All-cons Fair _ (said (only serial (renewed (telling place b) source r)) b.rows) (renewal-fair place source source r)
    (said-fair (only serial (renewed (telling place b) source r)) (only-fair serial (renewed (telling place b) source r) (renewed-fair place b.boxes b.clock source r)) b.rows)
served-fair place b source r (Born kind) fair = absurd fair

pub never_full_law : NeverFullLaw
unfolding step
never_full_law place b source r tag tagged fresh = served-fair place b source r (verdict place.limits b r) (verdict-fair place.limits b r tag tagged fresh)
