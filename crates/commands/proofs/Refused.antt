-- Why a service is refused.
use Rattle.std.proofs.Common.{◌≡◌, ◌<◌, ◌≤◌, ◌⊎◌, inl, inr, ⊎_elim, true, [], ◌∷◌, length, get_or, sym, ap, ◌∙◌, subst, arith}
use Rattle.std.specs.Prelude.{IfErr, OnOk, IfSome, Result, Ok, Err, Option, Some, None, ℕ, List, false}
use Rattle.arguments.specs.declared.flag.AddressFlag.{AddressFlag}
use Rattle.plans.specs.Plans.{IsJournal}
use Rattle.commands.specs.declared.error.ServeError.{ServeError}
use Rattle.commands.specs.declared.error.ServeError.TheVariants as error
use Rattle.transport.specs.Devices.{SinkSeen}
use Rattle.service.specs.declared.running.ServiceEnd.{ServiceEnd}
use Rattle.service.specs.Running.{is_faulty}
use Rattle.service.proofs.Faults.{unfailed}
use Rattle.udp_command.specs.UdpEnds.{all_closed, Tells}
use Rattle.commands.specs.Serving.{Serves, EndedWell, CanEndWell}
use Rattle.commands.specs.Refused.{IsOther, IsNoSocket, IsOfJournal, IsListened, IsRefusal, asks_for_text, AskForText, IsStatus, status_of, status_after}

pub other_is : (words : List (List ℕ)) (e : ServeError) → IsOther e → IsRefusal words e
other_is words (error.Plan e) is = absurd is
other_is words (error.JournalInUse path) is = absurd is
other_is words (error.Address which) is = is
other_is words (error.NotHere which) is = is
other_is words (error.Denied which) is = is
other_is words error.Descriptors is = tt
other_is words error.System is = tt
other_is words error.Device is = tt
other_is words error.NoMemory is = tt

pub no_socket_is : (which : AddressFlag) (e : ServeError) → IsNoSocket which e → IsListened which → IsOther e
no_socket_is which (error.Plan e) is listened = absurd is
no_socket_is which (error.JournalInUse path) is listened = absurd is
no_socket_is which (error.Address named) is listened = subst IsListened (sym is) listened
no_socket_is which (error.NotHere named) is listened = subst IsListened (sym is) listened
no_socket_is which (error.Denied named) is listened = subst IsListened (sym is) listened
no_socket_is which error.Descriptors is listened = tt
no_socket_is which error.System is listened = tt
no_socket_is which error.Device is listened = absurd is
no_socket_is which error.NoMemory is listened = absurd is

no_memory_is : (words : List (List ℕ)) (e : ServeError) → e ≡ error.NoMemory → IsRefusal words e
no_memory_is words e is = subst (IsRefusal words) (sym is) tt

pub of_journal_is : (words : List (List ℕ)) (journal : Option (List ℕ)) (e : ServeError) → IsJournal words journal → IsOfJournal journal e → IsRefusal words e
of_journal_is words journal e is (inl none) = no_memory_is words e none
of_journal_is words journal e is (inr of) = subst (IsRefusal words) (sym of.2) (subst (IsJournal words) of.1 is)

-- a service that ran and was closed off so ended well
pub ended_well : {W : Type 0} (contents : W → Option (List ℕ)) (words : List (List ℕ)) (before between after : SinkSeen W) (o : ServiceEnd)
    → Serves contents words before between o → is_faulty o ≡ false → all_closed o.report.workers.items ≡ true
    → Tells contents o.report.workers.items between after → EndedWell contents words before after o
ended_well contents words before between after o served no_fault closed told = record {
  between = between;
  serves = served;
  sip_hears = (unfailed o served.as_planned.faults no_fault).0;
  lines_hear = (unfailed o served.as_planned.faults no_fault).1;
  clock_failures = (unfailed o served.as_planned.faults no_fault).2;
  no_fault = no_fault;
  closed = closed;
  told = told;
}

-- a sink by what its writer tells
abbrev as_told : {W : Type 0} → (W → Option (List ℕ)) → SinkSeen W → SinkSeen (Option (List ℕ))
as_told contents sink = record { writer = contents sink.writer; failures = sink.failures; is_flushed = sink.is_flushed }

-- what ended well could
pub can_end_well : {W : Type 0} (contents : W → Option (List ℕ)) (words : List (List ℕ)) (before after : SinkSeen W) (o : ServiceEnd)
    → EndedWell contents words before after o → CanEndWell words
can_end_well contents words before after o ended = record {
  before = as_told contents before;
  after = as_told contents after;
  outcome = o;
  well = record {
    between = as_told contents ended.between;
    serves = let run = ended.serves.as_planned in record {
      plan = ended.serves.plan;
      is_plan = ended.serves.is_plan;
      as_planned = record {
        local = run.local;
        is_at = run.is_at;
        begins = run.begins;
        begins_as = run.begins_as;
        opened = run.opened;
        opens_as = run.opens_as;
        ran = record { wire = run.ran.wire; wire' = run.ran.wire'; runs = run.ran.runs };
        faults = run.faults;
      };
    };
    sip_hears = ended.sip_hears;
    lines_hear = ended.lines_hear;
    clock_failures = ended.clock_failures;
    no_fault = ended.no_fault;
    closed = ended.closed;
    told = record { written = ended.told.written; flushed = ended.told.flushed; no_failure = ended.told.no_failure };
  };
}

-- the status of an attempt
pub status_came : {T : Type 0} (words : List (List ℕ)) (came : Result T ServeError) (status : ℕ)
    → OnOk came (CanEndWell words) → IfErr came (IsRefusal words) → status ≡ status_after came → IsStatus words status
status_came words (Ok s) status well refused is = inl (is, inr well)
status_came words (Err e) status well refused is = inr (e, refused, is)

-- memory ran out before the words were read
pub wants_memory : (words : List (List ℕ)) (status : ℕ) → status ≡ status_of error.NoMemory → IsStatus words status
wants_memory words status is = inr (error.NoMemory, tt, is)

-- a text that was printed, or could not be
pub printed : (words : List (List ℕ)) (status : ℕ) → AskForText words → (status ≡ 0) ⊎ (status ≡ status_of error.Device) → IsStatus words status
printed words status asked came = ⊎_elim (λ (done : status ≡ 0). inl (done, inl asked)) (λ (failed : status ≡ status_of error.Device). inr (error.Device, tt, failed)) came

-- words that are one word
pub only_word : (words : List (List ℕ)) (word : List ℕ) → 1 ≤ length words → length words < 2 → word ≡ get_or words 0 word → words ≡ word ∷ []
only_word [] word some one at = absurd (omega (arith, some))
only_word (x ∷ []) word some one at = ap (λ l. l ∷ []) (sym at)
only_word (x ∷ y ∷ more) word some one at = absurd (omega (arith, one))

pub asked_alone : {X : Type 0} (words : List (List ℕ)) (word : List ℕ) (r : Option X) → words ≡ word ∷ [] → IfSome r (λ _. asks_for_text word ≡ true) → IfSome r (λ _. AskForText words)
asked_alone words word (Some x) alone asks = (word, alone, asks)
asked_alone words word None alone asks = tt

first_is : (x y : List ℕ) → ◌≡◌ {A = List (List ℕ)} (x ∷ []) (y ∷ []) → x ≡ y
first_is x y e = cc

-- what asks for a text alone is that word
pub alone_asks : (words : List (List ℕ)) (word : List ℕ) → words ≡ word ∷ [] → AskForText words → asks_for_text word ≡ true
alone_asks words word alone asked = subst (λ (w : List ℕ). asks_for_text w ≡ true) (first_is asked.0 word (sym asked.1 ∙ alone)) asked.2

pub one_long : (words : List (List ℕ)) → AskForText words → length words ≡ 1
one_long words asked = ap length asked.1
