-- How a worker ends.
use Rattle.std.proofs.Common.{◌≡◌, ℕ, ◌+◌, ◌<◌, true, false, List, [], ◌∷◌, ◌++◌, length, Option, Some, refl, ap, sym, ◌∙◌, subst, append-nil, append_assoc}
use Rattle.queues.specs.declared.items.Item.{Item}
use Rattle.queues.specs.Ended.{AllEnded}
use Rattle.queues.specs.Values.{values, end_item}
use Rattle.notifier_model.specs.declared.event.Event.{Event}
use Rattle.notifier_model.specs.declared.event.Event.TheVariants.{Shut}
use Rattle.notifier_model.specs.declared.event.Out.{Out}
use Rattle.notifier.specs.Standing.{Standing}
use Rattle.notifier_model.specs.Home.{at_the_stop}
use Rattle.queues.specs.InboxEvents.{events_of}
use Rattle.queues.specs.InboxSeats.{ReceiverSeat}
use Rattle.queues.proofs.InboxEvents.{events_ended, events_open}
use Rattle.queues.specs.OutboxSeats.{PosterSeat, with_posted}
use Rattle.crew.specs.Worked.{KeepsQueues, AllFrom, IsWorked}
use Rattle.crew.specs.Loop.{desk_after, HandlesOne, Serving, Stopped, Halted, Halts}
use Rattle.crew.specs.declared.end.End.{End}
use Rattle.crew.specs.declared.end.End.TheVariants as end
use Rattle.crew.specs.declared.hand.Stop.{Stop}
use Rattle.crew.specs.declared.hand.Stop.TheVariants as stop
use Rattle.crew.proofs.Folds.{values-append}
use Rattle.crew.proofs.Loops.{served, stopped_whole, stopped_before, stopped_rest}

-- all events were handled
whole : (w n h c : ℕ) (stands : Standing) (xs : List (Item Event)) (es : List Event) (d : Option Standing) (ps : List (Item Out)) → events_of stands.place.stop n xs ≡ es → Serving w stands es d ps h c
    → Stopped w stands (events_of stands.place.stop n xs) ps h c × (h ≡ length (events_of stands.place.stop n xs))
whole w n h c stands xs es d ps is k =
    let P : List Event → Type 0 = λ l. Stopped w stands l ps h c × (h ≡ length l) in subst P (sym is) (stopped_whole w h c stands es d ps k, k.number)

-- all ports have ended, and no stop is planned
pub closed : (w n h c : ℕ) (stands : Standing) (xs : List (Item Event)) (d : Option Standing) (ps : List (Item Out)) → Serving w stands (values xs) d ps h c × AllEnded n xs
    → stands.place.stop ≡ false → Halts w n stands xs ps h c end.Closed
closed w n h c stands xs d ps at none =
    let is : events_of stands.place.stop n xs ≡ values xs = events_ended stands.place.stop n xs at.1 ∙ ap (λ b. values xs ++ at_the_stop b) none ∙ append-nil (values xs) in
    let r = whole w n h c stands xs (values xs) d ps is at.0 in record { stopped = r.0; ends = (at.1, r.1) }

-- the events with the planned stop
with_shut : (stands : Standing) (n : ℕ) (xs : List (Item Event)) → AllEnded n xs → stands.place.stop ≡ true → events_of stands.place.stop n xs ≡ values xs ++ Shut ∷ []
with_shut stands n xs all planned = events_ended stands.place.stop n xs all ∙ ap (λ b. values xs ++ at_the_stop b) planned

-- the planned stop was handled
pub shut : (w n h h' c c' : ℕ) (stands : Standing) (xs : List (Item Event)) (d d' : Option Standing) (p p' : PosterSeat) → Serving w stands (values xs) d p.posted h c × AllEnded n xs
    → stands.place.stop ≡ true → p.number ≡ w → ((b : Standing) → d ≡ Some b → HandlesOne b Shut d' p p' c c') → h' ≡ h + 1 → Halts w n stands xs p'.posted h' c' end.Closed
shut w n h h' c c' stands xs d d' p p' at planned same one next =
    let is = with_shut stands n xs at.1 planned in
    let now : Serving w stands (values xs ++ Shut ∷ []) d' p'.posted h' c' =
    served w h h' c c' stands (values xs) (values xs ++ Shut ∷ []) Shut d d' p p' refl same at.0 (one (desk_after stands (values xs)) at.0.book) next in
    let r = whole w n h' c' stands xs (values xs ++ Shut ∷ []) d' p'.posted is now in record { stopped = r.0; ends = (at.1, r.1) }

-- memory ran out at the planned stop
pub shut_full : (w n h h' c c' : ℕ) (stands : Standing) (xs : List (Item Event)) (d : Option Standing) (p p' : PosterSeat) → Serving w stands (values xs) d p.posted h c × AllEnded n xs
    → stands.place.stop ≡ true → (p' ≡ p) × (h' ≡ h) × (c' ≡ c) → Halts w n stands xs p'.posted h' c' (end.NoMemory h')
shut_full w n h h' c c' stands xs d p p' at planned same =
    let r = stopped_before w h h' c c' stands (values xs) (events_of stands.place.stop n xs) Shut d p.posted p'.posted at.0 (with_shut stands n xs at.1 planned) (ap (λ (q : PosterSeat). q.posted) same.0, same.1, same.2) in
    record { stopped = r.0; ends = (at.1, refl, r.1) }

-- the ports went away
pub deserted_end : (w n h c : ℕ) (stands : Standing) (xs : List (Item Event)) (d : Option Standing) (ps : List (Item Out)) (s : Stop) → s ≡ stop.Deserted → Halted w n stands xs d ps h c s
    → Halts w n stands xs ps h c (end.Abandoned false)
deserted_end w n h c stands xs d ps s is k =
    let P : Stop → Type 0 = λ t. Halted w n stands xs d ps h c t in let at = subst P is k in
    let r = whole w n h c stands xs (values xs) d ps (events_open stands.place.stop n xs at.1) at.0 in record { stopped = r.0; ends = (at.1, r.1) }

-- after want of memory and the draining
pub drained_full : (w n h c : ℕ) (stands : Standing) (xs ys rest : List (Item Event)) (d : Option Standing) (ps : List (Item Out)) (s : Stop) (more : List Event) → s ≡ stop.Full → Halted w n stands xs d ps h c s
    → ys ≡ xs ++ rest → events_of stands.place.stop n ys ≡ values ys ++ more
    → Stopped w stands (events_of stands.place.stop n ys) ps h c × (h < length (events_of stands.place.stop n ys))
drained_full w n h c stands xs ys rest d ps s more full k later is =
    let P : Stop → Type 0 = λ t. Halted w n stands xs d ps h c t in let at = subst P full k in
    let all : events_of stands.place.stop n ys ≡ values xs ++ (values rest ++ more) =
    is ∙ ap (λ l. values l ++ more) later ∙ ap (λ l. l ++ more) (values-append xs rest) ∙ append_assoc (values xs) (values rest) more in
    stopped_rest w h c stands (values xs) (events_of stands.place.stop n ys) (values rest ++ more) ps at.0 at.1 all

pub full_ended : (w n h c : ℕ) (stands : Standing) (xs ys rest : List (Item Event)) (d : Option Standing) (ps : List (Item Out)) (s : Stop) → s ≡ stop.Full → Halted w n stands xs d ps h c s → ys ≡ xs ++ rest
    → AllEnded n ys → Halts w n stands ys ps h c (end.NoMemory h)
full_ended w n h c stands xs ys rest d ps s full k later all =
    let r = drained_full w n h c stands xs ys rest d ps s (at_the_stop stands.place.stop) full k later (events_ended stands.place.stop n ys all) in record { stopped = r.0; ends = (all, refl, r.1) }

pub full_open : (w n h c : ℕ) (stands : Standing) (xs ys rest : List (Item Event)) (d : Option Standing) (ps : List (Item Out)) (s : Stop) → s ≡ stop.Full → Halted w n stands xs d ps h c s → ys ≡ xs ++ rest
    → (AllEnded n ys → ⊥) → Halts w n stands ys ps h c (end.Abandoned true)
full_open w n h c stands xs ys rest d ps s full k later some =
    let r = drained_full w n h c stands xs ys rest d ps s [] full k later (events_open stands.place.stop n ys some ∙ sym (append-nil (values ys))) in record { stopped = r.0; ends = (some, r.1) }

pub halted_at : (w v n m h c : ℕ) (stands : Standing) (xs : List (Item Event)) (d : Option Standing) (ps : List (Item Out)) (s : Stop) → w ≡ v → n ≡ m → Halted v m stands xs d ps h c s → Halted w n stands xs d ps h c s
halted_at w v n m h c stands xs d ps s number ports k = let P : ℕ × ℕ → Type 0 = λ q. Halted q.0 q.1 stands xs d ps h c s in subst P (λ i. (sym number i, sym ports i)) k

pub worked : (stands : Standing) (r0 r1 r2 : ReceiverSeat) (p0 p1 p1' p2 : PosterSeat) (h c : ℕ) (e : End) → KeepsQueues r0 r1 p0 p1 → AllFrom r0.ports r1.taken
    → r2.inbox ≡ r1.inbox → r2.ports ≡ r1.ports → (AllFrom r1.ports r1.taken → AllFrom r1.ports r2.taken) → (p1'.outbox ≡ p1.outbox) × (p1'.number ≡ p1.number)
    → Halts p1.number r1.ports stands r2.taken p1'.posted h c e → p2 ≡ with_posted p1' (end_item p1'.number) → IsWorked stands r0 p0 (record { receiver = r2; poster = p2; handled = h; made = c; end = e })
worked stands r0 r1 r2 p0 p1 p1' p2 h c e same among inbox ports more again k mark =
    let H : ℕ × ℕ → Type 0 = λ n. Halts n.0 n.1 stands r2.taken p1'.posted h c e in
    let at : H (p0.number, r0.ports) = subst H (λ i. (same.number i, same.ports i)) k in
    let last : p2.posted ≡ p1'.posted ++ end_item p1'.number ∷ [] = ap (λ (q : PosterSeat). q.posted) mark in
    let number : p1'.number ≡ p0.number = again.1 ∙ same.number in record {
      same = record {
        inbox = inbox ∙ same.inbox;
        ports = ports ∙ same.ports;
        outbox = ap (λ (q : PosterSeat). q.outbox) mark ∙ again.0 ∙ same.outbox;
        number = ap (λ (q : PosterSeat). q.number) mark ∙ number;
      };
      among = subst (λ n. AllFrom n r2.taken) same.ports (more (subst (λ n. AllFrom n r1.taken) (sym same.ports) among));
      posted = last ∙ ap (λ n. p1'.posted ++ end_item n ∷ []) number ∙ ap (λ l. l ++ end_item p0.number ∷ []) at.stopped.posts;
      total = at.stopped.total;
      ends = at.ends;
    }
