-- The control lines that were taken so far.
use Rattle.std.proofs.Common.{◌≡◌, inl, inr, ◌⊎◌, ⊎_elim, Bool, true, false, ◌&&◌, ℕ, ◌+◌, suc, List, [], ◌∷◌, ◌++◌, length, Option, Some, None, refl, ap, sym, ◌∙◌, subst, arith, length-append}
use Rattle.std.specs.List.{filter, AllByRecursion}
use Rattle.std.proofs.lemmas.List.{append-nil, map-append}
use Rattle.std.proofs.lemmas.List.Elements.{filter-append, filter_map-append}
use Rattle.sip_text.specs.declared.address.Addr.{Addr}
use Rattle.notifier_model.specs.declared.event.Event.{Event}
use Rattle.crew.specs.Ports.{PortSeats}
use Rattle.transport.specs.Devices.{one_more, rises}
use Rattle.transport.specs.declared.datagram.Datagram.{Datagram}
use Rattle.transport.specs.Wires.{Grows}
use Rattle.feeds.proofs.Telling.{grows_none, grows_more, grows_same}
use Rattle.feeds.specs.declared.feeding.FeedEnd.{FeedEnd}
use Rattle.feeds.specs.declared.feeding.FeedEnd.TheVariants as ends
use Rattle.service.specs.Listening.{EndsListening}
use Rattle.feeds.specs.Fed.{Sends}
use Rattle.feeds.proofs.SendingHome.{sends_none, sends_more}
use Rattle.service.specs.declared.lines.Handled.{Handled}
use Rattle.service.specs.declared.lines.Handled.TheVariants as did
use Rattle.control_lines.specs.Kept.{kept_answer}
use Rattle.control_lines.specs.Tokens.{token, line}
use Rattle.control_lines.specs.Told.{Row}
use Rattle.service.specs.Taken.{DeskSeen, Line, is_near, IsForeign, IsLine, IsMeant, Reaches, IsDone, IsAgain, IsNews, IsPassed, IsTaken, kept_with, desk_after, desk_then, AreLines, end_after, MayReply, Replies, gets_answer, has_none, failures_then, datagrams_of, events, replies, reply_to, unanswered, AllGoOn, EndsTaking, EndsWith, AreTaken, AreAnswered}

pub all_more : (P : Line → Type 0) (log more : List Line) → AllByRecursion P log → AllByRecursion P more → AllByRecursion P (log ++ more)
all_more P [] more a b = b
all_more P (x ∷ log) more a b = (a.0, all_more P log more a.1 b)

pub came_more : (log more : List Line) → datagrams_of (log ++ more) ≡ datagrams_of log ++ datagrams_of more
came_more log more = map-append (λ (l : Line). l.came) log more

events_more : (log more : List Line) → events (log ++ more) ≡ events log ++ events more
events_more log more = filter_map-append (λ (l : Line). l.event) log more

replies_more : (log more : List Line) → replies (log ++ more) ≡ replies log ++ replies more
replies_more log more = filter_map-append (λ (l : Line). reply_to l.came.peer l.reply) log more

unanswered_more : (log more : List Line) → unanswered (log ++ more) ≡ unanswered log + unanswered more
unanswered_more log more = ap length (filter-append has_none log more) ∙ length-append (filter has_none log) (filter has_none more)

one_unanswered : (l : Line) → has_none l ≡ true → unanswered (l ∷ []) ≡ 1
one_unanswered l is = rw is refl

one_answered : (l : Line) → has_none l ≡ false → unanswered (l ∷ []) ≡ 0
one_answered l is = rw is refl

and_true : (b : Bool) → (b && true) ≡ b
and_true true = refl
and_true false = refl

and_false : (b : Bool) → (b && false) ≡ false
and_false true = refl
and_false false = refl

end_is : (x y : FeedEnd) → Some x ≡ Some y → x ≡ y
end_is x y e = cc

-- ---- what a desk knows

lines_more : (desk : DeskSeen) (log : List Line) (l : Line) → AreLines desk log → IsLine (desk_then log desk) l → AreLines desk (log ++ l ∷ [])
lines_more desk [] l are is = (is, tt)
lines_more desk (x ∷ log) l are is = (are.0, lines_more (desk_after x desk) log l are.1 is)

then_more : (desk : DeskSeen) (log : List Line) (l : Line) → desk_then (log ++ l ∷ []) desk ≡ desk_after l (desk_then log desk)
then_more desk [] l = refl
then_more desk (x ∷ log) l = then_more (desk_after x desk) log l

-- what a desk knows after a line that tells nothing, with which this was done
abbrev undone : List ℕ → DeskSeen → Handled → DeskSeen
undone octets desk x = record { workers = desk.workers; hearing = desk.hearing; most = desk.most; rows = desk.rows; kept = kept_with false (token octets) x desk.kept }

-- ---- the lines, and what two wires gave and took of them

-- no line changes whose lines are heard
pub taken_hearing : (source : Addr) (octets : List ℕ) (desk desk' : DeskSeen) (old new : PortSeats) (d : Handled) → IsTaken source octets desk desk' old new d
    → desk'.hearing ≡ desk.hearing
taken_hearing source octets desk desk' old new d is =
    ⊎_elim (λ (p : IsPassed source desk desk' old new d). ap (λ (s : DeskSeen). s.hearing) p.2)
    (λ (h : (is_near desk source ≡ true) × (IsAgain octets desk desk' old new d ⊎ IsNews octets desk desk' old new d)).
    ⊎_elim (λ (a : IsAgain octets desk desk' old new d). ap (λ (s : DeskSeen). s.hearing) a.3) (λ (n : IsNews octets desk desk' old new d). ap (λ (s : DeskSeen). s.hearing) n.3) h.1)
    is

pub record Book (desk : DeskSeen) (given given' taken taken' : Option (List Datagram)) (failures failures' : ℕ) (log : List Line) : Type 0 where
  pub each : AreLines desk log
  pub came_are : Grows given given' (datagrams_of log)
  pub answered : AreAnswered log taken taken' failures failures'

book_none : (desk : DeskSeen) (given taken : Option (List Datagram)) (failures : ℕ) → Book desk given given taken taken failures failures []
book_none desk given taken failures = record {
  each = tt;
  came_are = grows_none given;
  answered = record { taken = grows_none taken; counted = refl };
}

module _ (log : List Line) (d : Datagram) (e : Option Event) (x : Handled) (k : Bool) (taken taken' after : Option (List Datagram)) (failures failures' more : ℕ)
    (was : AreAnswered log taken taken' failures failures') where
  none_more : (due : Bool) → gets_answer x ≡ due → more ≡ failures_then due failures' → more ≡ rises (unanswered (log ++ record { came = d; event = e; done = x; is_kept = k; reply = None } ∷ [])) failures
  none_more true is e' =
      let l : Line = record { came = d; event = e; done = x; is_kept = k; reply = None } in
      let u = unanswered_more log (l ∷ []) in
      let o : unanswered (l ∷ []) ≡ 1 = one_unanswered l (and_true (gets_answer x) ∙ is) in
      let count : unanswered (log ++ l ∷ []) ≡ suc (unanswered log) = omega arith in
      e' ∙ ap one_more was.counted ∙ ap (λ n. rises n failures) (sym count)
  none_more false is e' =
      let l : Line = record { came = d; event = e; done = x; is_kept = k; reply = None } in
      let u = unanswered_more log (l ∷ []) in
      let o : unanswered (l ∷ []) ≡ 0 = one_answered l (and_true (gets_answer x) ∙ is) in
      let count : unanswered (log ++ l ∷ []) ≡ unanswered log = omega arith in
      e' ∙ was.counted ∙ ap (λ n. rises n failures) (sym count)

  pub answered_more : (reply : Option (List ℕ)) → Replies (gets_answer x) d.peer reply taken' after failures' more
      → AreAnswered (log ++ record { came = d; event = e; done = x; is_kept = k; reply = reply } ∷ []) taken after failures more
  answered_more None is =
      let l : Line = record { came = d; event = e; done = x; is_kept = k; reply = None } in
      let P : List Datagram → Type 0 = λ ds. Grows taken after ds in record {
        taken = subst P (sym (replies_more log (l ∷ []))) (grows_more taken taken' after (replies log) [] was.taken is.0);
        counted = none_more (gets_answer x) refl is.1;
      }
  answered_more (Some octets) is =
      let l : Line = record { came = d; event = e; done = x; is_kept = k; reply = Some octets } in
      let P : List Datagram → Type 0 = λ ds. Grows taken after ds in
      let u = unanswered_more log (l ∷ []) in
      let o : unanswered (l ∷ []) ≡ 0 = one_answered l (and_false (gets_answer x)) in
      let count : unanswered (log ++ l ∷ []) ≡ unanswered log = omega arith in record {
        taken = subst P (sym (replies_more log (l ∷ []))) (grows_more taken taken' after (replies log) _ was.taken is.0);
        counted = is.1 ∙ was.counted ∙ ap (λ n. rises n failures) (sym count);
      }

-- the lines that were taken, whose events the port has sent, and what the desk knows of them
pub record Taking (desk at : DeskSeen) (old now : PortSeats) (given given' taken taken' : Option (List Datagram)) (failures failures' : ℕ) : Type 0 where
  pub log : List Line
  pub book : Book desk given given' taken taken' failures failures' log
  pub on : AllGoOn log
  pub sends : Sends old (events log) now
  pub knows : at ≡ desk_then log desk

pub taking_none : (desk : DeskSeen) (p : PortSeats) (given taken : Option (List Datagram)) (failures : ℕ)
    → Taking desk desk p p given given taken taken failures failures
taking_none desk p given taken failures = record { log = []; book = book_none desk given taken failures; on = tt; sends = sends_none p; knows = refl }

-- one line more
module _ {desk at : DeskSeen} {old now : PortSeats} {given given' taken taken' : Option (List Datagram)} {failures failures' : ℕ}
    (was : Taking desk at old now given given' taken taken' failures failures')
    (next : PortSeats) (after after' : Option (List Datagram)) (more : ℕ) (d : Datagram) (reply : Option (List ℕ)) (gave : Grows given' after (d ∷ [])) where
  book_more : (e : Option Event) (x : Handled) (k : Bool) (at' : DeskSeen) → at' ≡ desk_after (record { came = d; event = e; done = x; is_kept = k; reply = reply }) at
      → IsForeign at d.peer e x ⊎ ((is_near at d.peer ≡ true) × IsMeant at d.octets e x) → MayReply at' x reply → Replies (gets_answer x) d.peer reply taken' after' failures' more
      → Book desk given after taken after' failures more (was.log ++ record { came = d; event = e; done = x; is_kept = k; reply = reply } ∷ [])
  book_more e x k at' knows meant may replied =
      let l : Line = record { came = d; event = e; done = x; is_kept = k; reply = reply } in
      let P : List Datagram → Type 0 = λ ds. Grows given after ds in
      let Q : DeskSeen → Type 0 = λ s. IsLine s l in record {
        each = lines_more desk was.log l was.book.each (subst Q was.knows (record { meant = meant; answered = subst (λ (s : DeskSeen). MayReply s x reply) knows may }));
        came_are = subst P (sym (came_more was.log (l ∷ []))) (grows_more given given' after (datagrams_of was.log) (d ∷ []) was.book.came_are gave);
        answered = answered_more was.log d e x k taken taken' after' failures failures' more was.book.answered reply replied;
      }

  knows_more : (e : Option Event) (x : Handled) (k : Bool) (at' : DeskSeen) → at' ≡ desk_after (record { came = d; event = e; done = x; is_kept = k; reply = reply }) at
      → at' ≡ desk_then (was.log ++ record { came = d; event = e; done = x; is_kept = k; reply = reply } ∷ []) desk
  knows_more e x k at' is =
      let l : Line = record { came = d; event = e; done = x; is_kept = k; reply = reply } in
      is ∙ ap (desk_after l) was.knows ∙ sym (then_more desk was.log l)

  sends_event : (e : Event) (x : Handled) (k : Bool) → Sends now (e ∷ []) next → Sends old (events (was.log ++ record { came = d; event = Some e; done = x; is_kept = k; reply = reply } ∷ [])) next
  sends_event e x k sent =
      let l : Line = record { came = d; event = Some e; done = x; is_kept = k; reply = reply } in
      let P : List Event → Type 0 = λ es. Sends old es next in
      subst P (sym (events_more was.log (l ∷ []))) (sends_more old now next (events was.log) (e ∷ []) was.sends sent)

  sends_same : (x : Handled) (k : Bool) → next ≡ now → Sends old (events (was.log ++ record { came = d; event = None; done = x; is_kept = k; reply = reply } ∷ [])) next
  sends_same x k same =
      let l : Line = record { came = d; event = None; done = x; is_kept = k; reply = reply } in
      let P : List Event → Type 0 = λ es. Sends old es now in
      let Q : PortSeats → Type 0 = λ p. Sends old (events (was.log ++ l ∷ [])) p in
      subst Q (sym same) (subst P (sym (events_more was.log (l ∷ []) ∙ append-nil (events was.log))) was.sends)

  sends_reached : (event : Option Event) (x : Handled) (k : Bool) → (end_after x ≡ Some ends.Gone → ⊥) → Reaches event x now next
      → Sends old (events (was.log ++ record { came = d; event = event; done = x; is_kept = k; reply = reply } ∷ [])) next
  sends_reached None x k stays same = sends_same x k same
  sends_reached (Some e) did.Gone k stays missed = absurd (stays refl)
  sends_reached (Some e) x k stays sent = sends_event e x k sent

  module _ (at' : DeskSeen) where
    passed : (x : Handled) → IsPassed d.peer at at' now next x → end_after x ≡ None → MayReply at' x reply → Replies (gets_answer x) d.peer reply taken' after' failures' more
        → Taking desk at' old next given after taken after' failures more
    passed x is on may replied =
        let l : Line = record { came = d; event = None; done = x; is_kept = false; reply = reply } in
        let stays : at' ≡ desk_after l at = is.2 ∙ ap (undone d.octets at) (sym is.1) in record {
          log = was.log ++ l ∷ [];
          book = book_more None x false at' stays (inl (is.0, refl, is.1)) may replied;
          on = all_more (λ (y : Line). end_after y.done ≡ None) was.log (l ∷ []) was.on (on, tt);
          sends = sends_same x false is.3;
          knows = knows_more None x false at' stays;
        }

    again : is_near at d.peer ≡ true → (x : Handled) → IsAgain d.octets at at' now next x → end_after x ≡ None → MayReply at' x reply → Replies (gets_answer x) d.peer reply taken' after' failures' more
        → Taking desk at' old next given after taken after' failures more
    again near x is on may replied =
        let l : Line = record { came = d; event = None; done = x; is_kept = false; reply = reply } in
        let stays : at' ≡ desk_after l at = is.3 ∙ ap (undone d.octets at) (sym is.1) in record {
          log = was.log ++ l ∷ [];
          book = book_more None x false at' stays (inr (near, inl (is.0, refl, is.1, is.2))) may replied;
          on = all_more (λ (y : Line). end_after y.done ≡ None) was.log (l ∷ []) was.on (on, tt);
          sends = sends_same x false is.4;
          knows = knows_more None x false at' stays;
        }

    news : is_near at d.peer ≡ true → (x : Handled) → kept_answer at.kept.lines.items (token d.octets) ≡ None → (k : Bool) (rows' : List Row)
        → at' ≡ record { workers = at.workers; hearing = at.hearing; most = at.most; rows = rows'; kept = kept_with k (token d.octets) x at.kept }
        → IsDone at.most (line d.octets) at.rows rows' now next x → MayReply at' x reply → Replies (gets_answer x) d.peer reply taken' after' failures' more
        → end_after x ≡ None → Taking desk at' old next given after taken after' failures more
    news near x new k rows' knows is may replied on =
        let l : Line = record { came = d; event = is.0; done = x; is_kept = k; reply = reply } in
        let K : List Row → DeskSeen = λ rs. record { workers = at.workers; hearing = at.hearing; most = at.most; rows = rs; kept = kept_with k (token d.octets) x at.kept } in record {
          log = was.log ++ l ∷ [];
          book = book_more is.0 x k at' (knows ∙ ap K is.2) (inr (near, inr (new, is.1))) may replied;
          on = all_more (λ (y : Line). end_after y.done ≡ None) was.log (l ∷ []) was.on (on, tt);
          sends = sends_reached is.0 x k (λ gone. absurd (let z = sym on ∙ gone in cc)) is.3;
          knows = knows_more is.0 x k at' (knows ∙ ap K is.2);
        }

    pub taking_more : (x : Handled) → IsTaken d.peer d.octets at at' now next x → MayReply at' x reply → Replies (gets_answer x) d.peer reply taken' after' failures' more
        → end_after x ≡ None → Taking desk at' old next given after taken after' failures more
    taking_more x is may replied on =
        ⊎_elim (λ p. passed x p on may replied)
        (λ (h : (is_near at d.peer ≡ true) × (IsAgain d.octets at at' now next x ⊎ IsNews d.octets at at' now next x)).
        ⊎_elim (λ a. again h.0 x a on may replied) (λ n. news h.0 x n.0 n.1 n.2 n.3 n.4 may replied on) h.1)
        is

  -- by a CLOSE or a RELOAD
  taken_close : is_near at d.peer ≡ true → (x : Handled) → end_after x ≡ Some ends.Done → ((log : List Line) → EndsWith x log → EndsTaking log ends.Done)
      → (k : Bool) (rows' : List Row) (at' : DeskSeen) → at' ≡ record { workers = at.workers; hearing = at.hearing; most = at.most; rows = rows'; kept = kept_with k (token d.octets) x at.kept }
      → kept_answer at.kept.lines.items (token d.octets) ≡ None → IsDone at.most (line d.octets) at.rows rows' now next x
      → MayReply at' x reply → Replies (gets_answer x) d.peer reply taken' after' failures' more
      → (log : List Line) × Grows given after (datagrams_of log) × AreTaken desk log old next ends.Done × AreAnswered log taken after' failures more × (at' ≡ desk_then log desk)
  taken_close near x ends_it stops k rows' at' knows new is may replied =
      let l : Line = record { came = d; event = is.0; done = x; is_kept = k; reply = reply } in
      let K : List Row → DeskSeen = λ rs. record { workers = at.workers; hearing = at.hearing; most = at.most; rows = rs; kept = kept_with k (token d.octets) x at.kept } in
      let book = book_more is.0 x k at' (knows ∙ ap K is.2) (inr (near, inr (new, is.1))) may replied in
      let last : EndsWith x (was.log ++ l ∷ []) = record { before = was.log; last = l; whole = refl; on = was.on; is = refl } in (
        was.log ++ l ∷ [],
        book.came_are,
        record { each = book.each; stops = stops (was.log ++ l ∷ []) last; sends = sends_reached is.0 x k (λ gone. absurd (let z = sym ends_it ∙ gone in cc)) is.3 },
        book.answered,
        knows_more is.0 x k at' (knows ∙ ap K is.2),
      )

  taken_gone : is_near at d.peer ≡ true → (k : Bool) (rows' : List Row) (at' : DeskSeen) → at' ≡ record { workers = at.workers; hearing = at.hearing; most = at.most; rows = rows'; kept = kept_with k (token d.octets) did.Gone at.kept }
      → kept_answer at.kept.lines.items (token d.octets) ≡ None → IsDone at.most (line d.octets) at.rows rows' now next did.Gone
      → MayReply at' did.Gone reply → Replies true d.peer reply taken' after' failures' more
      → (log : List Line) × Grows given after (datagrams_of log) × AreTaken desk log old next ends.Gone × AreAnswered log taken after' failures more × (at' ≡ desk_then log desk)
  taken_gone near k rows' at' knows new is may replied =
      let l : Line = record { came = d; event = is.0; done = did.Gone; is_kept = k; reply = reply } in
      let K : List Row → DeskSeen = λ rs. record { workers = at.workers; hearing = at.hearing; most = at.most; rows = rs; kept = kept_with k (token d.octets) did.Gone at.kept } in
      let P : Option Event → Type 0 = λ e. Reaches e did.Gone now next in
      let book = book_more is.0 did.Gone k at' (knows ∙ ap K is.2) (inr (near, inr (new, is.1))) may replied in (
        was.log ++ l ∷ [],
        book.came_are,
        record {
          each = book.each;
          stops = record { before = was.log; last = l; whole = refl; on = was.on; is = refl };
          sends = record { before = was.log; last = l; event = is.1.0; mid = now; whole = refl; is = is.1.1; sent = was.sends; missed = subst P is.1.1 is.3 };
        },
        book.answered,
        knows_more is.0 did.Gone k at' (knows ∙ ap K is.2),
      )

  last_news : is_near at d.peer ≡ true → (x : Handled) (end : FeedEnd) (k : Bool) (rows' : List Row) (at' : DeskSeen)
      → at' ≡ record { workers = at.workers; hearing = at.hearing; most = at.most; rows = rows'; kept = kept_with k (token d.octets) x at.kept } → end_after x ≡ Some end → kept_answer at.kept.lines.items (token d.octets) ≡ None
      → IsDone at.most (line d.octets) at.rows rows' now next x → MayReply at' x reply → Replies (gets_answer x) d.peer reply taken' after' failures' more
      → (log : List Line) × Grows given after (datagrams_of log) × AreTaken desk log old next end × AreAnswered log taken after' failures more × (at' ≡ desk_then log desk)
  last_news near (did.Answered a) end k rows' at' knows e new is may replied = absurd cc
  last_news near (did.Repeated a) end k rows' at' knows e new is may replied = absurd cc
  last_news near did.Unanswered end k rows' at' knows e new is may replied = absurd cc
  last_news near did.Foreign end k rows' at' knows e new is may replied = absurd cc
  last_news near did.Counters end k rows' at' knows e new is may replied = absurd cc
  last_news near (did.Shown n) end k rows' at' knows e new is may replied = absurd cc
  last_news near (did.Dumped n) end k rows' at' knows e new is may replied = absurd cc
  last_news near (did.Watched m n) end k rows' at' knows e new is may replied = absurd cc
  last_news near did.Refused end k rows' at' knows e new is may replied = absurd cc
  last_news near did.Closing end k rows' at' knows e new is may replied =
      let P : FeedEnd → Type 0 = λ z. (log : List Line) × Grows given after (datagrams_of log) × AreTaken desk log old next z × AreAnswered log taken after' failures more × (at' ≡ desk_then log desk) in
      subst P (end_is ends.Done end e) (taken_close near did.Closing refl (λ log with. inl with) k rows' at' knows new is may replied)
  last_news near did.Ending end k rows' at' knows e new is may replied =
      let P : FeedEnd → Type 0 = λ z. (log : List Line) × Grows given after (datagrams_of log) × AreTaken desk log old next z × AreAnswered log taken after' failures more × (at' ≡ desk_then log desk) in
      subst P (end_is ends.Done end e) (taken_close near did.Ending refl (λ log with. inr (inl with)) k rows' at' knows new is may replied)
  last_news near did.Gone end k rows' at' knows e new is may replied =
      let P : FeedEnd → Type 0 = λ z. (log : List Line) × Grows given after (datagrams_of log) × AreTaken desk log old next z × AreAnswered log taken after' failures more × (at' ≡ desk_then log desk) in
      subst P (end_is ends.Gone end e) (taken_gone near k rows' at' knows new is may replied)

  -- a line after which no more are taken
  pub taken_last : (x : Handled) (end : FeedEnd) (at' : DeskSeen) → end_after x ≡ Some end → IsTaken d.peer d.octets at at' now next x → MayReply at' x reply
      → Replies (gets_answer x) d.peer reply taken' after' failures' more
      → (log : List Line) × Grows given after (datagrams_of log) × AreTaken desk log old next end × AreAnswered log taken after' failures more × (at' ≡ desk_then log desk)
  taken_last x end at' e is may replied =
      ⊎_elim (λ p. absurd (let z = ap end_after p.1 in cc))
      (λ (h : (is_near at d.peer ≡ true) × (IsAgain d.octets at at' now next x ⊎ IsNews d.octets at at' now next x)).
      ⊎_elim (λ a. absurd (let z = ap end_after a.1 in cc)) (λ n. last_news h.0 x end n.1 n.2 at' n.3 e n.0 n.4 may replied) h.1)
      is

module _ {desk at : DeskSeen} {old now : PortSeats} {given given' taken taken' : Option (List Datagram)} {failures failures' : ℕ}
    (was : Taking desk at old now given given' taken taken' failures failures') where
  -- nothing came yet
  pub taking_silent : (after : Option (List Datagram)) → Grows given' after [] → Taking desk at old now given after taken taken' failures failures'
  taking_silent after none = record {
    log = was.log;
    book = record {
      each = was.book.each;
      came_are = grows_same given given' after (datagrams_of was.log) was.book.came_are none;
      answered = was.book.answered;
    };
    on = was.on;
    sends = was.sends;
    knows = was.knows;
  }

  -- the service closed for another cause than a line
  taken_done : (log : List Line) × Grows given given' (datagrams_of log) × AreTaken desk log old now ends.Done × AreAnswered log taken taken' failures failures' × (at ≡ desk_then log desk)
  taken_done = (was.log, was.book.came_are, record { each = was.book.each; stops = inr (inr was.on); sends = was.sends }, was.book.answered, was.knows)

  pub taking_open : now.is_open ≡ old.is_open
  taking_open = was.sends.still_open

  taken_fault : (after : Option (List Datagram)) → Grows given' after []
      → (log : List Line) × Grows given after (datagrams_of log) × AreTaken desk log old now ends.Fault × AreAnswered log taken taken' failures failures' × (at ≡ desk_then log desk)
  taken_fault after none = (
    was.log,
    grows_same given given' after (datagrams_of was.log) was.book.came_are none,
    record { each = was.book.each; stops = was.on; sends = was.sends },
    was.book.answered,
    was.knows,
  )

-- listening ended, behind a look that gave nothing
pub taken_end : {desk at : DeskSeen} {old now : PortSeats} {given given' taken taken' : Option (List Datagram)} {failures failures' : ℕ}
    → Taking desk at old now given given' taken taken' failures failures' → (after : Option (List Datagram)) → Grows given' after [] → (end : FeedEnd) → EndsListening end
    → (log : List Line) × Grows given after (datagrams_of log) × AreTaken desk log old now end × AreAnswered log taken taken' failures failures' × (at ≡ desk_then log desk)
taken_end was after none ends.Done stops = taken_done (taking_silent was after none)
taken_end was after none ends.Fault stops = taken_fault was after none
taken_end was after none ends.Gone stops = absurd stops
