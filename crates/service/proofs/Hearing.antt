-- The SIP datagrams that were heard so far.
use Rattle.std.proofs.Common.{◌≡◌, ◌≤◌, inl, Bool, true, false, ◌||◌, ℕ, List, [], ◌∷◌, ◌++◌, length, take, Option, refl, ap, sym, ◌∙◌, subst}
use Rattle.std.specs.Prelude.{nat_le}
use Rattle.std.specs.List.{filter}
use Rattle.std.proofs.lemmas.List.{append-nil, length-take-le}
use Rattle.std.proofs.lemmas.List.Elements.{filter-append, filter_map-append}
use Rattle.std.proofs.lemmas.List.Folds.{list_any-append}
use Rattle.sip_text.specs.declared.address.Addr.{Addr}
use Rattle.notifier_model.specs.declared.event.Event.{Event}
use Rattle.crew.specs.Ports.{PortSeats}
use Rattle.transport.specs.Devices.{rises}
use Rattle.transport.specs.declared.datagram.Datagram.{Datagram}
use Rattle.transport.specs.Wires.{datagram, Grows}
use Rattle.feeds.proofs.SendingHome.{sends_none, sends_more}
use Rattle.feeds.proofs.Telling.{grows_none, grows_more, grows_same}
use Rattle.feeds.specs.declared.hearing.Heard.{Heard}
use Rattle.feeds.specs.declared.hearing.Heard.TheVariants as heard
use Rattle.feeds.specs.declared.hearing.Language.TheVariants as language
use Rattle.feeds.specs.declared.feeding.FeedEnd.{FeedEnd}
use Rattle.feeds.specs.declared.feeding.FeedEnd.TheVariants.{Done, Fault, Gone}
use Rattle.service.specs.Listening.{EndsListening}
use Rattle.feeds.specs.declared.feeding.Told.{Told}
use Rattle.feeds.specs.declared.feeding.Told.TheVariants as told
use Rattle.feeds.specs.Heard.{Says}
use Rattle.feeds.specs.Fed.{Log, AllSay, IsPassedOn, Sends, event_heard, events, is_close, closes}
use Rattle.admission.specs.declared.judging.Admission.{Admission}
use Rattle.service.specs.Admitted.{Case, IsTaken, PassesOn, IsJudged, AreJudged, arrived, is_allowed, admitted, AreHeard, refusals, unsent, AreRefused}
use Rattle.service.specs.Served.{is_gone, is_short, AreServed}
use Rattle.service.proofs.Judging.{case, one_refused, moment_after, moment_more, judged_more, arrived_more, admitted_more, admitted_same, refused_none, refused_more}

-- ---- too long, or not

-- the first bytes of a buffer are as many as were received
pub short_is : (longest n : ℕ) (source : Addr) (buffer : List ℕ) (b : Bool) → n ≤ length buffer → b ≡ nat_le n longest
    → is_short longest (datagram source (take n buffer)) ≡ b
short_is longest n source buffer b within is = ap (λ k. nat_le k longest) (length-take-le n buffer within) ∙ sym is

one_short : (longest : ℕ) (d : Datagram) → is_short longest d ≡ true → filter (is_short longest) (d ∷ []) ≡ d ∷ []
one_short longest d is = rw is refl

one_long : (longest : ℕ) (d : Datagram) → is_short longest d ≡ false → filter (is_short longest) (d ∷ []) ≡ []
one_long longest d is = rw is refl

module _ (longest : ℕ) (came : List Datagram) (d : Datagram) where
  short_more : is_short longest d ≡ true → filter (is_short longest) (came ++ d ∷ []) ≡ filter (is_short longest) came ++ d ∷ []
  short_more is = filter-append (is_short longest) came (d ∷ []) ∙ ap (λ l. filter (is_short longest) came ++ l) (one_short longest d is)

  long_more : is_short longest d ≡ false → filter (is_short longest) (came ++ d ∷ []) ≡ filter (is_short longest) came
  long_more is =
      filter-append (is_short longest) came (d ∷ []) ∙ ap (λ l. filter (is_short longest) came ++ l) (one_long longest d is)
      ∙ append-nil (filter (is_short longest) came)

-- ---- what the port was fed with

pub record Serving (log : Log) (old now : PortSeats) : Type 0 where
  pub say : AllSay language.Sip log
  pub unclosed : closes log ≡ false
  pub sends : Sends old (events log) now

serving_none : (p : PortSeats) → Serving [] p p
serving_none p = record { say = tt; unclosed = refl; sends = sends_none p }

abbrev one : Datagram → Heard → Log
one d h = (d, h) ∷ []

all_more : (log more : Log) → AllSay language.Sip log → AllSay language.Sip more → AllSay language.Sip (log ++ more)
all_more [] more a b = b
all_more (x ∷ log) more a b = (a.0, all_more log more a.1 b)

events_more : (log more : Log) → events (log ++ more) ≡ events log ++ events more
events_more log more = filter_map-append (λ (x : Datagram × Heard). event_heard x.1) log more

none_of_both : (a b : Bool) → a ≡ false → b ≡ false → (a || b) ≡ false
none_of_both true b e f = absurd cc
none_of_both false b e f = f

-- no SIP datagram closes a server
no_close : (d : Datagram) (h : Heard) (old new : PortSeats) → Says language.Sip d h → IsPassedOn h old new told.Close → ⊥
no_close d (heard.Event e) old new says is = is
no_close d heard.Unread old new says is = is
no_close d heard.Close old new says is = says

module _ {log : Log} {old now : PortSeats} (was : Serving log old now) (next : PortSeats) (d : Datagram) where
  serving_with : (h : Heard) → Says language.Sip d h → closes (one d h) ≡ false → Sends now (events (one d h)) next → Serving (log ++ one d h) old next
  serving_with h says open_still sent =
      let P : List Event → Type 0 = λ es. Sends old es next in record {
        say = all_more log (one d h) was.say (says, tt);
        unclosed = list_any-append (λ (x : Datagram × Heard). is_close x.1) log (one d h) ∙ none_of_both (closes log) (closes (one d h)) was.unclosed open_still;
        sends = subst P (sym (events_more log (one d h))) (sends_more old now next (events log) (events (one d h)) was.sends sent);
      }

  serving_sent : (h : Heard) → Says language.Sip d h → IsPassedOn h now next told.Sent → Serving (log ++ one d h) old next
  serving_sent (heard.Event e) says is = serving_with (heard.Event e) says refl is
  serving_sent heard.Unread says is = absurd is
  serving_sent heard.Close says is = absurd is

  serving_unread : (h : Heard) → Says language.Sip d h → IsPassedOn h now next told.Unread → Serving (log ++ one d h) old next
  serving_unread (heard.Event e) says is = absurd is
  serving_unread heard.Unread says is =
      let P : PortSeats → Type 0 = λ p. Sends now [] p in serving_with heard.Unread says refl (subst P (sym is) (sends_none now))
  serving_unread heard.Close says is = absurd is

  served_missed : (h : Heard) → Says language.Sip d h → IsPassedOn h now next told.Gone → AreServed (log ++ one d h) old next Gone
  served_missed (heard.Event e) says is = record {
    say = all_more log (one d (heard.Event e)) was.say (says, tt);
    ends = record { before = log; last = d; event = e; mid = now; whole = refl; unclosed = was.unclosed; sent = was.sends; missed = is };
  }
  served_missed heard.Unread says is = absurd is
  served_missed heard.Close says is = absurd is

  serving_more : (h : Heard) → Says language.Sip d h → (t : Told) → IsPassedOn h now next t → is_gone t ≡ false → Serving (log ++ one d h) old next
  serving_more h says told.Sent is on = serving_sent h says is
  serving_more h says told.Unread is on = serving_unread h says is
  serving_more h says told.Close is on = absurd (no_close d h now next says is)
  serving_more h says told.Gone is on = absurd cc

  served_last : (h : Heard) → Says language.Sip d h → (t : Told) → IsPassedOn h now next t → is_gone t ≡ true → AreServed (log ++ one d h) old next Gone
  served_last h says told.Sent is at = absurd cc
  served_last h says told.Unread is at = absurd cc
  served_last h says told.Close is at = absurd cc
  served_last h says told.Gone is at = served_missed h says is

-- ---- all of them

-- these came; those that are not too long were judged, and the port was fed with those that are allowed
pub record Hearing (longest : ℕ) (a b : Admission) (moment : ℕ) (old now : PortSeats) (given given' taken taken' : Option (List Datagram)) (failures failures' : ℕ) : Type 0 where
  pub came : List Datagram
  pub cases : List Case
  pub gave : Grows given given' came
  pub short : arrived cases ≡ filter (is_short longest) came
  pub judged : AreJudged a 0 cases b
  pub last : moment_after 0 cases ≡ moment
  pub refused : AreRefused cases taken taken' failures failures'
  pub serving : Serving (admitted cases) old now

pub hearing_none : (longest : ℕ) (a : Admission) (p : PortSeats) (given taken : Option (List Datagram)) (failures : ℕ)
    → Hearing longest a a 0 p p given given taken taken failures failures
hearing_none longest a p given taken failures = record {
  came = [];
  cases = [];
  gave = grows_none given;
  short = refl;
  judged = refl;
  last = refl;
  refused = refused_none taken failures;
  serving = serving_none p;
}

-- what came of all that came
abbrev pub Serves : ℕ → Admission → Admission → PortSeats → PortSeats → Option (List Datagram) → Option (List Datagram) → Option (List Datagram) → Option (List Datagram)
    → ℕ → ℕ → FeedEnd → Type 0
Serves longest a b old new given given' taken taken' failures failures' end =
    (came : List Datagram) × (cases : List Case) × Grows given given' came × (arrived cases ≡ filter (is_short longest) came)
    × AreHeard a cases b old new end × AreRefused cases taken taken' failures failures'

module _ {longest : ℕ} {a b : Admission} {moment : ℕ} {old now : PortSeats} {given given' taken taken' : Option (List Datagram)} {failures failures' : ℕ}
    (was : Hearing longest a b moment old now given given' taken taken' failures failures') where
  pub hearing_silent : (after : Option (List Datagram)) → Grows given' after [] → Hearing longest a b moment old now given after taken taken' failures failures'
  hearing_silent after none = record {
    came = was.came;
    cases = was.cases;
    gave = grows_same given given' after was.came was.gave none;
    short = was.short;
    judged = was.judged;
    last = was.last;
    refused = was.refused;
    serving = was.serving;
  }

  pub hearing_long : (after : Option (List Datagram)) (d : Datagram) → Grows given' after (d ∷ []) → is_short longest d ≡ false
      → Hearing longest a b moment old now given after taken taken' failures failures'
  hearing_long after d more is = record {
    came = was.came ++ d ∷ [];
    cases = was.cases;
    gave = grows_more given given' after was.came (d ∷ []) was.gave more;
    short = was.short ∙ sym (long_more longest was.came d is);
    judged = was.judged;
    last = was.last;
    refused = was.refused;
    serving = was.serving;
  }

  -- after a datagram that was judged
  module _ (c : Case) (d : Admission) (after sent : Option (List Datagram)) (count : ℕ) (more : Grows given' after (c.came ∷ []))
      (is : is_short longest c.came ≡ true) (judged : IsJudged b moment c d) (took : Grows taken' sent (refusals (c ∷ []))) (counted : count ≡ rises (unsent (c ∷ [])) failures') where
    gave_after : Grows given after (was.came ++ c.came ∷ [])
    gave_after = grows_more given given' after was.came (c.came ∷ []) was.gave more

    short_after : arrived (was.cases ++ c ∷ []) ≡ filter (is_short longest) (was.came ++ c.came ∷ [])
    short_after = arrived_more was.cases c ∙ ap (λ l. l ++ c.came ∷ []) was.short ∙ sym (short_more longest was.came c.came is)

    judged_after : AreJudged a 0 (was.cases ++ c ∷ []) d
    judged_after =
        let P : ℕ → Type 0 = λ m. IsJudged b m c d in judged_more a 0 was.cases b c d was.judged (subst P (sym was.last) judged)

    refused_after : AreRefused (was.cases ++ c ∷ []) taken sent failures count
    refused_after = refused_more was.refused c sent count took counted

    pub hearing_refused : is_allowed c.verdict ≡ false → Hearing longest a d c.moment old now given after taken sent failures count
    hearing_refused denied =
        let P : Log → Type 0 = λ l. Serving l old now in record {
          came = was.came ++ c.came ∷ [];
          cases = was.cases ++ c ∷ [];
          gave = gave_after;
          short = short_after;
          judged = judged_after;
          last = moment_more 0 was.cases c;
          refused = refused_after;
          serving = subst P (sym (admitted_same was.cases c denied)) was.serving;
        }

    module _ (passes : is_allowed c.verdict ≡ true) (next : PortSeats) (t : Told) (is_told : IsPassedOn c.says now next t) where
      pub hearing_sent : is_gone t ≡ false → Hearing longest a d c.moment old next given after taken sent failures count
      hearing_sent on =
          let P : Log → Type 0 = λ l. Serving l old next in record {
            came = was.came ++ c.came ∷ [];
            cases = was.cases ++ c ∷ [];
            gave = gave_after;
            short = short_after;
            judged = judged_after;
            last = moment_more 0 was.cases c;
            refused = refused_after;
            serving = subst P (sym (admitted_more was.cases c passes)) (serving_more was.serving next c.came c.says judged.speaks t is_told on);
          }

      pub served_gone : is_gone t ≡ true → Serves longest a d old next given after taken sent failures count Gone
      served_gone at =
          let P : Log → Type 0 = λ l. AreServed l old next Gone in (
            was.came ++ c.came ∷ [],
            was.cases ++ c ∷ [],
            gave_after,
            short_after,
            record {
              judged = judged_after;
              served = subst P (sym (admitted_more was.cases c passes)) (served_last was.serving next c.came c.says judged.speaks t is_told at);
            },
            refused_after,
          )

  -- after a datagram that was taken
  module _ (source : Addr) (octets : List ℕ) (m : ℕ) (d : Admission) (next : PortSeats) (after sent : Option (List Datagram)) (count : ℕ) (gone : Bool)
      (more : Grows given' after (datagram source octets ∷ [])) (is : is_short longest (datagram source octets) ≡ true) (later : moment ≤ m)
      (took : IsTaken source octets m b d now next taken' sent failures' count gone) where
    fate : (f : Bool) × Grows taken' sent (refusals (case (datagram source octets) took.says m took.verdict f ∷ []))
        × (count ≡ rises (unsent (case (datagram source octets) took.says m took.verdict f ∷ [])) failures')
    fate = one_refused (datagram source octets) took.says m taken' sent failures' count took.verdict took.refuses

    abbrev this : Case
    this = case (datagram source octets) took.says m took.verdict fate.0

    judged_this : IsJudged b moment this d
    judged_this = record {
      speaks = took.speaks;
      later = later;
      arrival = took.arrival;
      told = record { octets = took.of_octets; source = took.of_source; moment = took.of_moment; reads = took.reads };
      meets = took.meets;
    }

    goes_on : (k : Bool) → is_allowed took.verdict ≡ k → PassesOn k took.says now next gone → gone ≡ false
        → Hearing longest a d m old next given after taken sent failures count
    goes_on true e p on = hearing_sent this d after sent count more is judged_this fate.1 fate.2 e next p.0 p.1 (sym p.2 ∙ on)
    goes_on false e p on =
        let P : PortSeats → Type 0 = λ x. Hearing longest a d m old x given after taken sent failures count in
        subst P (sym p.0) (hearing_refused this d after sent count more is judged_this fate.1 fate.2 e)

    ends_here : (k : Bool) → is_allowed took.verdict ≡ k → PassesOn k took.says now next gone → gone ≡ true
        → Serves longest a d old next given after taken sent failures count Gone
    ends_here true e p at = served_gone this d after sent count more is judged_this fate.1 fate.2 e next p.0 p.1 (sym p.2 ∙ at)
    ends_here false e p at = absurd cc

    pub hearing_taken : gone ≡ false → Hearing longest a d m old next given after taken sent failures count
    hearing_taken on = goes_on (is_allowed took.verdict) refl took.passes on

    pub served_taken : gone ≡ true → Serves longest a d old next given after taken sent failures count Gone
    served_taken at = ends_here (is_allowed took.verdict) refl took.passes at

  served_done : Serves longest a b old now given given' taken taken' failures failures' Done
  served_done =
      let f = was.serving in (
        was.came,
        was.cases,
        was.gave,
        was.short,
        record { judged = was.judged; served = record { say = f.say; ends = (f.sends, inl (refl, f.unclosed)) } },
        was.refused,
      )

  served_fault : Serves longest a b old now given given' taken taken' failures failures' Fault
  served_fault =
      let f = was.serving in (
        was.came,
        was.cases,
        was.gave,
        was.short,
        record { judged = was.judged; served = record { say = f.say; ends = (f.sends, f.unclosed) } },
        was.refused,
      )

  pub served_end : (end : FeedEnd) → EndsListening end → Serves longest a b old now given given' taken taken' failures failures' end
  served_end Done stops = served_done
  served_end Fault stops = served_fault
  served_end Gone stops = absurd stops

  pub hearing_open : now.is_open ≡ old.is_open
  hearing_open = was.serving.sends.still_open
