-- How a service goes on from its journal.
--
-- Phones know a service by their dialogs (RFC 3261 section 12): by its local tags, which come from its seed and its number of workers, and by its
-- contact, their remote target. In a dialog no CSeq may stand in front of two NOTIFYs (section 12.2.1.1).
use Rattle.std.specs.Prelude.{◌≡◌, ◌≢◌, ◌⊎◌, ◌↔◌, ℕ, Bool, true, false, List, [], ◌++◌, length, take, Option, if◌then◌else◌}
use Rattle.sip_text.specs.declared.address.Addr.{Addr}
use Rattle.std.specs.List.{list_any, list_all, flat_map}
use Rattle.notifier_model.specs.declared.event.Out.{Out}
use Rattle.notifier_model.specs.declared.event.Out.TheVariants as out
use Rattle.notifier.specs.Standing.{Standing}
use Rattle.notifier.specs.Awaiting.{is_awaited}
use Rattle.journal.specs.declared.file.Account.{Account}
use Rattle.journal.specs.declared.header.Header.{Header}
use Rattle.control_lines.specs.Told.{is_held}
use Rattle.arguments.specs.declared.syncing.Syncing.{Syncing as Said}
use Rattle.arguments.specs.declared.syncing.Syncing.TheVariants as said
use Rattle.resumption.specs.declared.found.Found.{Found}
use Rattle.resumption.specs.declared.terms.Terms.{Terms}
use Rattle.resumption.specs.declared.desks.Worked.{Worked}
use Rattle.resumption.specs.declared.changed.Wish.{Wish}
use Rattle.resumption.specs.Accounts.{all_unanswered, all_kept}
use Rattle.resumption.specs.Changed.{all_carried, all_carried_outs, all_mails, all_shut}
use Rattle.resumption.specs.Reloaded.{stood}
use Rattle.resumption.specs.Told.{held_names}
use Rattle.service.specs.declared.begins.Begins.{Begins}
use Rattle.service.specs.declared.journaling.Syncing.{Syncing as Kept}
use Rattle.service.specs.declared.journaling.Syncing.TheVariants as kept
use Rattle.plans.specs.declared.plan.Plan.{Plan}
use Rattle.plans.specs.Plans.{reached, setup_of}
use Rattle.keeper.specs.Told.{Kept as Known}
use Rattle.keeper.specs.Keeping.{State}
use Rattle.commands.specs.Anew.{AreNew}
use Rattle.commands.specs.Begun.{BeginsOver}
use Rattle.commands.specs.Runs.{all_unheld, kept_also}
use Rattle.commands.specs.declared.journal_start.Course.{Course}
use Rattle.commands.specs.declared.journal_start.Course.TheVariants as course

-- ---- what a service is to be

-- under what its desks work that is planned so and hears SIP here
abbrev pub worked_here : Plan → Addr → Worked
worked_here plan local = record { setup = setup_of plan local; no_refer = plan.choices.no_refer }

-- the terms of that, as its journal says them
abbrev pub terms_of : Plan → Terms
terms_of plan = record { limits = plan.limits; no_refer = plan.choices.no_refer }

-- what its journal begins with: who knows it knows the next service that begins so. Which start of the machine it is no contract can tell
pub record IsHeaderOf (plan : Plan) (local : Addr) (header : Header) : Type 0 where
  pub seed : header.seed ≡ plan.seed
  pub workers : header.workers ≡ plan.workers
  pub listen : header.listen ≡ local
  pub contact : header.contact ≡ reached plan.choices.contact local

-- ---- what was found

-- under what the desks worked that wrote it. Whether a stop ends subscriptions stands in no file
abbrev pub worked_then : Found → Bool → Worked
worked_then found stop = record {
  setup = record { limits = found.terms.limits; seed = found.generation.header.seed; me = found.generation.header.contact; stop = stop };
  no_refer = found.terms.no_refer;
}

-- who knows the service that wrote the file knows this one
pub record IsOwn (was is : Header) : Type 0 where
  pub seed : was.seed ≡ is.seed
  pub workers : was.workers ≡ is.workers
  pub contact : was.contact ≡ is.contact

-- all that was handled stands there: no record is torn, and the machine wasn't started anew since, as far as the system tells
pub record IsComplete (found : Found) (is : Header) : Type 0 where
  pub whole : found.is_torn ≡ false
  pub told : is.boot ≢ []
  pub same_boot : is.boot ≡ found.generation.header.boot

-- the mailboxes that the workers held
abbrev pub held_by_all : List Account → List (List ℕ)
held_by_all accounts = flat_map (λ (a : Account). held_names a.book.told.mail) accounts

-- these are the same names, in any order
abbrev pub AreSameNames : List (List ℕ) → List (List ℕ) → Type 0
AreSameNames names others = (name : List ℕ) → is_held names name ≡ is_held others name

-- it is complete, and tells of these mailboxes, under these terms
pub record IsAsItStood (names : List (List ℕ)) (terms : Terms) (is : Header) (found : Found) : Type 0 where
  pub complete : IsComplete found is
  pub same_terms : found.terms ≡ terms
  pub same_mailboxes : AreSameNames names (held_by_all found.generation.accounts)

-- ---- how it goes on

-- Subscriptions end where nobody would know the service. They go on as they stood where nothing else is, and else in a new file: with a leap of
-- their numbers, where something may be lost
abbrev pub GoesOn : List (List ℕ) → Terms → Header → Found → Course → Type 0
GoesOn names terms is found course.Straight = IsOwn found.generation.header is × IsAsItStood names terms is found
GoesOn names terms is found (course.Renewed lost) =
    IsOwn found.generation.header is × ¬ (IsAsItStood names terms is found) × ((lost ≡ false) ↔ IsComplete found is)
GoesOn names terms is found course.Ended = ¬ (IsOwn found.generation.header is)

-- one of the desks that stand so waits for the answer to the NOTIFY with this local tag and this number (RFC 3261 section 17.1.2)
abbrev pub awaits_any : List (Option Standing) → List ℕ → ℕ → Bool
awaits_any desks tag number = list_any (λ desk. is_awaited desk tag number) desks

-- the same of an out, if it is a NOTIFY
abbrev pub awaited_by : List (Option Standing) → Out → Bool
awaited_by desks (out.Answer to octets) = false
awaited_by desks (out.Notify to number terminated tag note octets) = awaits_any desks tag number
awaited_by desks (out.Start tag refer_to) = false

-- NOTIFYs that earlier files tell of stand in front of those of the newest one, and a desk waits for the answer to each of them. Which files are
-- read no contract tells
abbrev pub AreSentFirst : List (Option Standing) → List Out → List Out → Type 0
AreSentFirst desks newest outs = (earlier : List Out) × (list_all (awaited_by desks) earlier ≡ true) × (outs ≡ earlier ++ newest)

-- ---- from what it goes on

-- where the desks stood that wrote what was found, over all that they handled
abbrev pub stood_then : Found → Bool → List (Option Standing)
stood_then found stop = stood (worked_then found stop) found.generation.accounts

-- the NOTIFYs of theirs to which nobody had answered
abbrev pub unanswered_then : Found → Bool → List Out
unanswered_then found stop = all_unanswered (worked_then found stop) found.generation.accounts

-- what is kept of what they were told, also of mailboxes that lines made since
abbrev pub kept_then : Plan → Found → List Known
kept_then plan found = (kept_also (all_unheld plan found) (all_kept found.generation.accounts)).workers

-- desks stand there again, with these NOTIFYs and with what is kept
pub record IsReplayed (found : Found) (stop : Bool) (desks : List (Option Standing)) (unanswered : List Out) (kept : State) : Type 0 where
  pub stand : desks ≡ stood_then found stop
  pub awaited : AreSentFirst (stood_then found stop) (unanswered_then found stop) unanswered
  pub told : kept ≡ all_kept found.generation.accounts

-- ---- with what it goes on

-- a service is wished as it is planned, and works so
pub record IsWishOf (plan : Plan) (work : Worked) (wish : Wish) : Type 0 where
  pub workers : wish.workers ≡ plan.workers
  pub mailboxes : wish.mailboxes.now ≡ plan.mailboxes.items
  pub works : wish.work.now ≡ work

-- The desks that stood so are carried on as it is wished, with what is kept of what their workers were told. These NOTIFYs are sent first, unless
-- the numbers leap, and then the last ones of those subscriptions that end
pub record IsCarriedOn (wish : Wish) (is_lost : Bool) (former : List (Option Standing)) (unanswered : List Out) (kept : List Known)
    (desks : List (Option Standing)) (begins : Begins) : Type 0 where
  pub stand : desks ≡ all_carried wish is_lost former kept
  pub begins_so : BeginsOver desks ((if is_lost then [] else unanswered) ++ all_carried_outs wish is_lost former kept) begins

-- all their subscriptions end, of which each is told first, and new desks begin with what their workers were told of mailboxes
pub record IsEnded (wish : Wish) (former : List (Option Standing)) (kept : List Known) (desks : List (Option Standing)) (begins : Begins) : Type 0 where
  pub stand : AreNew wish (all_mails (take (length former) kept)) desks
  pub begins_so : BeginsOver desks (all_shut former) begins

-- a service that is planned so and works so starts by this course, where desks stood so and these NOTIFYs are unanswered
abbrev pub StartsBy : Plan → Worked → Course → List (Option Standing) → List Out → List Known → List (Option Standing) → Begins → Type 0
StartsBy plan work course.Straight former unanswered kept desks begins = (desks ≡ former) × BeginsOver desks unanswered begins
StartsBy plan work (course.Renewed is_lost) former unanswered kept desks begins =
    (wish : Wish) × IsWishOf plan work wish × IsCarriedOn wish is_lost former unanswered kept desks begins
StartsBy plan work course.Ended former unanswered kept desks begins =
    (wish : Wish) × IsWishOf plan work wish × IsEnded wish former kept desks begins

-- a service that is planned so and works so goes on from what was found: its desks stand so, and it begins with this beside them
pub record IsGoneOn (plan : Plan) (work : Worked) (terms : Terms) (header : Header) (found : Found) (desks : List (Option Standing)) (begins : Begins) : Type 0 where
  pub course : Course
  pub goes_on : GoesOn plan.mailboxes.items terms header found course
  pub unanswered : List Out
  pub awaited : AreSentFirst (stood_then found work.setup.stop) (unanswered_then found work.setup.stop) unanswered
  pub starts : StartsBy plan work course (stood_then found work.setup.stop) unanswered (kept_then plan found) desks begins

-- it begins with new desks
pub record IsBegunAnew (plan : Plan) (work : Worked) (desks : List (Option Standing)) (begins : Begins) : Type 0 where
  pub wish : Wish
  pub is_wish : IsWishOf plan work wish
  pub stand : AreNew wish plan.changes.items desks
  pub begins_so : BeginsOver desks [] begins

-- it goes on from what was found in its folder. Which files stand there, and what they hold, no contract tells
pub record IsFromJournal (plan : Plan) (local : Addr) (desks : List (Option Standing)) (begins : Begins) : Type 0 where
  pub header : Header
  pub is_header : IsHeaderOf plan local header
  pub found : Found
  pub gone_on : IsGoneOn plan (worked_here plan local) (terms_of plan) header found desks begins

-- a service with a journal goes on from that, or begins with new desks
abbrev pub StartsThere : Plan → Addr → List (Option Standing) → Begins → Type 0
StartsThere plan local desks begins = IsFromJournal plan local desks begins ⊎ IsBegunAnew plan (worked_here plan local) desks begins

-- ---- how its journal is kept

-- when it is brought to the disk, as the words say
abbrev pub kept_as : Said → Kept
kept_as said.Never = kept.Never
kept_as (said.Each seconds) = kept.Each seconds
kept_as said.Always = kept.Always
