-- What a port was fed with, datagram by datagram.
use Rattle.std.proofs.Common.{◌≡◌, ⊎_elim, inr, ℕ, ◌<◌, ◌≤◌, ◌+◌, Bool, true, false, ◌||◌, List, [], ◌∷◌, ◌++◌, length, Option, refl, ap, sym, ◌∙◌, subst, arith, length-append}
use Rattle.std.specs.List.{filter}
use Rattle.std.proofs.lemmas.List.{map-append}
use Rattle.std.proofs.lemmas.List.Elements.{filter-append, filter_map-append}
use Rattle.std.proofs.lemmas.List.Folds.{list_any-append}
use Rattle.notifier_model.specs.declared.event.Event.{Event}
use Rattle.crew.specs.Ports.{PortSeats}
use Rattle.transport.specs.declared.datagram.Datagram.{Datagram}
use Rattle.transport.specs.Wires.{Grows}
use Rattle.feeds.proofs.Telling.{grows_none, grows_more}
use Rattle.feeds.specs.declared.hearing.Heard.{Heard}
use Rattle.feeds.specs.declared.hearing.Heard.TheVariants as heard
use Rattle.feeds.specs.declared.hearing.Language.{Language}
use Rattle.feeds.specs.declared.hearing.Language.TheVariants as language
use Rattle.feeds.specs.declared.feeding.FeedEnd.{FeedEnd}
use Rattle.feeds.specs.declared.feeding.Told.TheVariants as came
use Rattle.feeds.specs.declared.feeding.FeedReport.{FeedReport}
use Rattle.feeds.specs.declared.feeding.FeedEnd.TheVariants.{Done, Gone}
use Rattle.feeds.specs.Heard.{Says}
use Rattle.feeds.specs.Fed.{Log, datagrams, event_heard, events, is_unread, unread, is_close, closes, AllSay, Sends, Misses, IsPassedOn, Ends, IsFed}
use Rattle.feeds.proofs.SendingHome.{sends_none, sends_more}

-- ---- a log, and one datagram more

abbrev pub one : Datagram → Heard → Log
one d h = (d, h) ∷ []

all_more : (language : Language) (log more : Log) → AllSay language log → AllSay language more → AllSay language (log ++ more)
all_more language [] more a b = b
all_more language (x ∷ log) more a b = (a.0, all_more language log more a.1 b)

datagrams_more : (log more : Log) → datagrams (log ++ more) ≡ datagrams log ++ datagrams more
datagrams_more log more = map-append (λ (x : Datagram × Heard). x.0) log more

events_more : (log more : Log) → events (log ++ more) ≡ events log ++ events more
events_more log more = filter_map-append (λ (x : Datagram × Heard). event_heard x.1) log more

unread_more : (log more : Log) → unread (log ++ more) ≡ unread log + unread more
unread_more log more =
    ap length (filter-append (λ (x : Datagram × Heard). is_unread x.1) log more)
    ∙ length-append (filter (λ (x : Datagram × Heard). is_unread x.1) log) (filter (λ (x : Datagram × Heard). is_unread x.1) more)

closes_more : (log more : Log) → closes (log ++ more) ≡ (closes log || closes more)
closes_more log more = list_any-append (λ (x : Datagram × Heard). is_close x.1) log more

none_of_both : (a b : Bool) → a ≡ false → b ≡ false → (a || b) ≡ false
none_of_both true b e f = absurd cc
none_of_both false b e f = f

-- ---- the loop

-- the port was fed with these datagrams so far: none was a CLOSE, and each event was sent
pub record Feeding (language : Language) (old now : PortSeats) (told told' : Option (List Datagram)) (seen missed : ℕ) : Type 0 where
  pub log : Log
  pub given : Grows told told' (datagrams log)
  pub say : AllSay language log
  pub unclosed : closes log ≡ false
  pub seen_are : seen ≡ length log
  pub missed_are : missed ≡ unread log
  pub few : missed ≤ seen
  pub sends : Sends old (events log) now

pub feeding_none : (language : Language) (p : PortSeats) (told : Option (List Datagram)) → Feeding language p p told told 0 0
feeding_none language p told = record {
  log = [];
  given = grows_none told;
  say = tt;
  unclosed = refl;
  seen_are = refl;
  missed_are = refl;
  few = omega arith;
  sends = sends_none p;
}

module _ {language : Language} {old now : PortSeats} {told told' : Option (List Datagram)} {seen missed : ℕ}
    (was : Feeding language old now told told' seen missed) where
  given_more : (after : Option (List Datagram)) (d : Datagram) (h : Heard) → Grows told' after (d ∷ []) → Grows told after (datagrams (was.log ++ one d h))
  given_more after d h more =
      let P : List Datagram → Type 0 = λ l. Grows told after l in
      subst P (sym (datagrams_more was.log (one d h))) (grows_more told told' after (datagrams was.log) (d ∷ []) was.given more)

  say_more : (d : Datagram) (h : Heard) → Says language d h → AllSay language (was.log ++ one d h)
  say_more d h says = all_more language was.log (one d h) was.say (says, tt)

  seen_more : (d : Datagram) (h : Heard) → seen + 1 ≡ length (was.log ++ one d h)
  seen_more d h = let l : length (was.log ++ one d h) ≡ length was.log + 1 = length-append was.log (one d h) in let s = was.seen_are in omega arith

  few_more : (count : ℕ) → seen < count → (d : Datagram) (h : Heard) → length (was.log ++ one d h) ≤ count
  few_more count low d h = let s = seen_more d h in omega arith

  missed_more : (d : Datagram) (h : Heard) → missed + unread (one d h) ≡ unread (was.log ++ one d h)
  missed_more d h = let l = unread_more was.log (one d h) in let s = was.missed_are in omega arith

  sends_with : (next : PortSeats) (d : Datagram) (h : Heard) → Sends now (events (one d h)) next → Sends old (events (was.log ++ one d h)) next
  sends_with next d h sent =
      let P : List Event → Type 0 = λ es. Sends old es next in
      subst P (sym (events_more was.log (one d h))) (sends_more old now next (events was.log) (events (one d h)) was.sends sent)

  pub feeding_event : (next : PortSeats) (after : Option (List Datagram)) (d : Datagram) (e : Event) → Grows told' after (d ∷ [])
      → Says language d (heard.Event e) → Sends now (e ∷ []) next → Feeding language old next told after (seen + 1) missed
  feeding_event next after d e more says sent =
      let h : Heard = heard.Event e in record {
        log = was.log ++ one d h;
        given = given_more after d h more;
        say = say_more d h says;
        unclosed = closes_more was.log (one d h) ∙ none_of_both (closes was.log) false was.unclosed refl;
        seen_are = seen_more d h;
        missed_are = (let m : missed + 0 ≡ unread (was.log ++ one d h) = missed_more d h in omega arith);
        few = (let f = was.few in omega arith);
        sends = sends_with next d h sent;
      }

  pub feeding_unread : (next : PortSeats) (after : Option (List Datagram)) (d : Datagram) → Grows told' after (d ∷ [])
      → Says language d heard.Unread → next ≡ now → Feeding language old next told after (seen + 1) (missed + 1)
  feeding_unread next after d more says same =
      let h : Heard = heard.Unread in
      let P : PortSeats → Type 0 = λ p. Sends now [] p in record {
        log = was.log ++ one d h;
        given = given_more after d h more;
        say = say_more d h says;
        unclosed = closes_more was.log (one d h) ∙ none_of_both (closes was.log) false was.unclosed refl;
        seen_are = seen_more d h;
        missed_are = missed_more d h;
        few = (let f = was.few in omega arith);
        sends = sends_with next d h (subst P (sym same) (sends_none now));
      }

  -- ---- how it ends

  pub fed_close : (count : ℕ) → seen < count → (next : PortSeats) (after : Option (List Datagram)) (d : Datagram) → Grows told' after (d ∷ [])
      → Says language d heard.Close → next ≡ now
      → (log : Log) × Grows told after (datagrams log) × IsFed language count log old next (record { seen = seen + 1; unread = missed; end = Done })
  fed_close count low next after d more says same =
      let h : Heard = heard.Close in
      let P : PortSeats → Type 0 = λ p. Sends now [] p in (
        was.log ++ one d h,
        given_more after d h more,
        record {
          say = say_more d h says;
          seen = seen_more d h;
          few = few_more count low d h;
          unread_are = (let m : missed + 0 ≡ unread (was.log ++ one d h) = missed_more d h in omega arith);
          ends = (sends_with next d h (subst P (sym same) (sends_none now)), inr (record { before = was.log; last = d; whole = refl; unclosed = was.unclosed }));
        },
      )

  pub fed_gone : (count : ℕ) → seen < count → (next : PortSeats) (after : Option (List Datagram)) (d : Datagram) (e : Event) → Grows told' after (d ∷ [])
      → Says language d (heard.Event e) → Misses now e next
      → (log : Log) × Grows told after (datagrams log) × IsFed language count log old next (record { seen = seen + 1; unread = missed; end = Gone })
  fed_gone count low next after d e more says missing =
      let h : Heard = heard.Event e in (
        was.log ++ one d h,
        given_more after d h more,
        record {
          say = say_more d h says;
          seen = seen_more d h;
          few = few_more count low d h;
          unread_are = (let m : missed + 0 ≡ unread (was.log ++ one d h) = missed_more d h in omega arith);
          ends = record { before = was.log; last = d; event = e; mid = now; whole = refl; unclosed = was.unclosed; sent = was.sends; missed = missing };
        },
      )

  -- ---- by what came of the datagram

  pub step_sent : (next : PortSeats) (after : Option (List Datagram)) (d : Datagram) (h : Heard) → Grows told' after (d ∷ [])
      → Says language d h → IsPassedOn h now next came.Sent → Feeding language old next told after (seen + 1) missed
  step_sent next after d (heard.Event e) more says is = feeding_event next after d e more says is
  step_sent next after d heard.Unread more says is = absurd is
  step_sent next after d heard.Close more says is = absurd is

  pub step_unread : (next : PortSeats) (after : Option (List Datagram)) (d : Datagram) (h : Heard) → Grows told' after (d ∷ [])
      → Says language d h → IsPassedOn h now next came.Unread → Feeding language old next told after (seen + 1) (missed + 1)
  step_unread next after d (heard.Event e) more says is = absurd is
  step_unread next after d heard.Unread more says is = feeding_unread next after d more says is
  step_unread next after d heard.Close more says is = absurd is

  pub step_close : (count : ℕ) → seen < count → (next : PortSeats) (after : Option (List Datagram)) (d : Datagram) (h : Heard) → Grows told' after (d ∷ [])
      → Says language d h → IsPassedOn h now next came.Close
      → (log : Log) × Grows told after (datagrams log) × IsFed language count log old next (record { seen = seen + 1; unread = missed; end = Done })
  step_close count low next after d (heard.Event e) more says is = absurd is
  step_close count low next after d heard.Unread more says is = absurd is
  step_close count low next after d heard.Close more says is = fed_close count low next after d more says is

  pub step_gone : (count : ℕ) → seen < count → (next : PortSeats) (after : Option (List Datagram)) (d : Datagram) (h : Heard) → Grows told' after (d ∷ [])
      → Says language d h → IsPassedOn h now next came.Gone
      → (log : Log) × Grows told after (datagrams log) × IsFed language count log old next (record { seen = seen + 1; unread = missed; end = Gone })
  step_gone count low next after d (heard.Event e) more says is = fed_gone count low next after d e more says is
  step_gone count low next after d heard.Unread more says is = absurd is
  step_gone count low next after d heard.Close more says is = absurd is

-- ---- SIP datagrams close nothing

sip_open : (before : Log) (d : Datagram) → AllSay language.Sip (before ++ one d heard.Close) → ⊥
sip_open [] d say = say.0
sip_open (x ∷ before) d say = sip_open before d say.1

pub done_law : (count : ℕ) (log : Log) (old new : PortSeats) (report : FeedReport) → IsFed language.Sip count log old new report
    → report.end ≡ Done → report.seen ≡ count
done_law count log old new report fed done =
    let P : FeedEnd → Type 0 = λ e. Ends count log old new e in
    let ends : Ends count log old new Done = subst P done fed.ends in
    let Q : Log → Type 0 = λ l. AllSay language.Sip l in
    ⊎_elim (λ all. fed.seen ∙ all.0) (λ k. absurd (sip_open k.before k.last (subst Q k.whole fed.say))) ends.1
