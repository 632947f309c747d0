-- What was taken of the outbox, and what has left of that.
use Rattle.std.proofs.Common.{◌≡◌, ℕ, ◌+◌, ◌<◌, Bool, true, false, List, [], ◌∷◌, ◌++◌, map, Option, refl, ap, sym, ◌∙◌, subst, append_assoc, arith}
use Rattle.std.proofs.lemmas.List.{append-nil, map-append}
use Rattle.std.proofs.lemmas.List.Elements.{All-nil, All-push, All-append, filter_map-append}
use Rattle.queues.specs.declared.items.Item.{Item}
use Rattle.queues.specs.Values.{values, value_item, end_item}
use Rattle.queues.specs.Ended.{count_ended, AllEnded}
use Rattle.queues.specs.OutboxSeats.{TakerSeat}
use Rattle.queues.proofs.Ended.{ended_value, ended_more, all_ended}
use Rattle.crew.specs.Whole.{AllBy}
use Rattle.crew.proofs.Folds.{values-append}
use Rattle.notifier_model.specs.declared.event.Out.{Out}
use Rattle.transport.specs.Devices.{rises}
use Rattle.transport.specs.declared.datagram.Datagram.{Datagram}
use Rattle.transport.specs.Wires.{Grows}
use Rattle.feeds.specs.declared.sending.Fate.{Fate}
use Rattle.feeds.specs.declared.sending.EmitReport.{EmitReport}
use Rattle.feeds.specs.declared.sending.Next.{Next}
use Rattle.feeds.specs.declared.sending.Next.TheVariants as next
use Rattle.feeds.specs.Waiting.{IsNext}
use Rattle.feeds.specs.Emitted.{Fates, WireSeen, WriterSeen, AreMet, MayMeet, Writes, count, counted, fails_to_start}
use Rattle.feeds.proofs.Emitting.{one, meeting_none, meeting_out}
use Rattle.feeds.proofs.Telling.{grows_none, grows_same}
use Rattle.transactions.specs.Machine.{State}
use Rattle.service.specs.Departing.{Takes, next_outs}
use Rattle.service.specs.Sending.{Act, fate_of, fates, taking, Does, EachWasHeld, NoneOvertakes, IsSentOut}
use Rattle.service.proofs.Acts.{taken_fates}

-- ---- what is taken

pub takes_none : (t : TakerSeat) (left : ℕ) → Takes t t left left []
takes_none t left = record {
  outbox = refl;
  workers = refl;
  left_is = refl;
  got = ([], sym (append-nil t.got), refl, All-nil (λ (x : Item Out). x.from < t.workers));
}

-- what a take found
pub takes_next : (t u : TakerSeat) (left left' : ℕ) (found : Next) → IsNext t u left left' found → Takes t u left left' (next_outs found)
takes_next t u left left' (next.Out o) is =
    let got : u.got ≡ t.got ++ value_item is.0 o ∷ [] = ap (λ (x : TakerSeat). x.got) is.1.0 in
    let ended : count_ended t.workers u.got ≡ count_ended t.workers t.got = ap (count_ended t.workers) got ∙ ended_value t.workers t.got (value_item is.0 o) refl in
    let as_many = is.2 in record {
      outbox = ap (λ (x : TakerSeat). x.outbox) is.1.0;
      workers = ap (λ (x : TakerSeat). x.workers) is.1.0;
      left_is = omega arith;
      got = (value_item is.0 o ∷ [], got, refl, All-push (λ (x : Item Out). x.from < t.workers) [] (value_item is.0 o) (All-nil (λ (x : Item Out). x.from < t.workers)) is.1.1.0);
    }
takes_next t u left left' next.Ended is =
    let got : u.got ≡ t.got ++ end_item is.0 ∷ [] = ap (λ (x : TakerSeat). x.got) is.1.0 in
    let ended : count_ended t.workers u.got ≡ count_ended t.workers t.got + 1 =
    ap (count_ended t.workers) got ∙ ended_more t.workers t.got (end_item is.0) refl is.1.1.0 is.1.1.1 in
    let one_less = is.2 in record {
      outbox = ap (λ (x : TakerSeat). x.outbox) is.1.0;
      workers = ap (λ (x : TakerSeat). x.workers) is.1.0;
      left_is = omega arith;
      got = (end_item is.0 ∷ [], got, refl, All-push (λ (x : Item Out). x.from < t.workers) [] (end_item is.0) (All-nil (λ (x : Item Out). x.from < t.workers)) is.1.1.0);
    }
takes_next t u left left' next.Nothing is =
    let P : TakerSeat → Type 0 = λ x. Takes t x left left' [] in
    let Q : ℕ → Type 0 = λ n. Takes t t left n [] in
    subst P (sym is.0) (subst Q (sym is.1) (takes_none t left))

pub takes_more : {a b c : TakerSeat} {l m n : ℕ} {xs ys : List Out} → Takes a b l m xs → Takes b c m n ys → Takes a c l n (xs ++ ys)
takes_more {a = a} {b = b} {c = c} {l = l} {m = m} {n = n} {xs = xs} {ys = ys} first then =
    let P : ℕ → Type 0 = λ k. n + count_ended k c.got ≡ m + count_ended k b.got in
    let Q : ℕ → Type 0 = λ k. AllBy k then.got.0 in
    let late : n + count_ended a.workers c.got ≡ m + count_ended a.workers b.got = subst P first.workers then.left_is in
    let early = first.left_is in
    let rest = subst Q first.workers then.got.3 in record {
      outbox = then.outbox ∙ first.outbox;
      workers = then.workers ∙ first.workers;
      left_is = omega arith;
      got = (
        first.got.0 ++ then.got.0,
        then.got.1 ∙ ap (λ l. l ++ then.got.0) first.got.1 ∙ append_assoc a.got first.got.0 then.got.0,
        values-append first.got.0 then.got.0 ∙ ap (λ l. l ++ values then.got.0) first.got.2 ∙ ap (λ l. xs ++ l) then.got.2,
        All-append (λ (x : Item Out). x.from < a.workers) first.got.0 then.got.0 first.got.3 rest,
      );
    }

-- what was taken now wasn't written
pub unwritten_now : {A : Type 0} {written : Bool} → written ≡ false → written ≡ true → A
unwritten_now not is = absurd (clash (sym not ∙ is)) where
  clash : false ≡ true → ⊥
  clash e = absurd cc

-- ---- what has left

-- these acts became of outs that were taken, in order, and these outs were taken behind them and haven't left
pub record Ahead (acts : List Act) (outs : List Out) (t0 t : TakerSeat) (left : ℕ) (told told' : Option (List Datagram)) (writer writer' : WriterSeen) (report : EmitReport) : Type 0 where
  pub takes : Takes t0 t t0.workers left (map (λ (x : Out × Fate). x.0) (fates acts) ++ outs)
  pub none_ended : count_ended t0.workers t0.got ≡ 0
  pub given : Grows told told' []
  -- whatever the items were by which they came
  pub met : (items : List (Item Out)) × AreMet 1 (fates acts) [] items writer writer' report

pub ahead_first : (t : TakerSeat) (told : Option (List Datagram)) (writer : WriterSeen) (outs : List Out) → outs ≡ [] → count_ended t.workers t.got ≡ 0
    → (left : ℕ) → left ≡ t.workers → Ahead [] outs t t left told told writer writer (record { sent = 0; starts = 0; failed = 0; held = 0 })
ahead_first t told writer outs none none_ended left all =
    let P : List Out → Type 0 = λ l. Takes t t t.workers left l in
    let Q : ℕ → Type 0 = λ n. Takes t t t.workers n [] in record {
      takes = subst P (sym none) (subst Q (sym all) (takes_none t t.workers));
      none_ended = none_ended;
      given = grows_none told;
      met = ([], meeting_none 1 [] writer);
    }

module _ {acts : List Act} {outs : List Out} {t0 t : TakerSeat} {left : ℕ} {told told' : Option (List Datagram)} {writer writer' : WriterSeen} {report : EmitReport}
    (was : Ahead acts outs t0 t left told told' writer writer' report) where
  -- what was done is no out
  pub ahead_on : (more : List Act) (told'' : Option (List Datagram)) → fates more ≡ [] → Grows told' told'' []
      → Ahead (acts ++ more) outs t0 t left told told'' writer writer' report
  ahead_on more told'' none same =
      let same_fates : fates acts ≡ fates (acts ++ more) = sym (filter_map-append fate_of acts more ∙ ap (λ l. fates acts ++ l) none ∙ append-nil (fates acts)) in
      let P : Fates → Type 0 = λ l. Takes t0 t t0.workers left (map (λ (x : Out × Fate). x.0) l ++ outs) in
      let Q : Fates → Type 0 = λ l. AreMet 1 l [] was.met.0 writer writer' report in record {
        takes = subst P same_fates was.takes;
        none_ended = was.none_ended;
        given = grows_same told told' told'' [] was.given same;
        met = (was.met.0, subst Q same_fates was.met.1);
      }

  -- further ones were taken
  pub ahead_took : (u : TakerSeat) (left' : ℕ) (more all : List Out) → Takes t u left left' more → outs ++ more ≡ all
      → Ahead acts all t0 u left' told told' writer writer' report
  ahead_took u left' more all took are =
      let P : List Out → Type 0 = λ l. Takes t0 u t0.workers left' l in
      let front : List Out = map (λ (x : Out × Fate). x.0) (fates acts) in record {
        takes = subst P (append_assoc front outs more ∙ ap (λ l. front ++ l) are) (takes_more was.takes took);
        none_ended = was.none_ended;
        given = was.given;
        met = was.met;
      }

  -- the first of them left
  pub ahead_left : (now : ℕ) (o : Out) (rest : List Out) (f : Fate) (told'' : Option (List Datagram)) (after' : WriterSeen)
      → outs ≡ o ∷ rest → MayMeet o f → Grows told' told'' []
      → after'.failures ≡ rises (count fails_to_start (one o f)) writer'.failures
      → Writes writer'.contents after'.contents o f
      → Ahead (acts ++ taking now o f ∷ []) rest t0 t left told told'' writer after' (counted report f)
  ahead_left now o rest f told'' after' are may same failed wrote =
      let more_fates : fates (acts ++ taking now o f ∷ []) ≡ fates acts ++ one o f = filter_map-append fate_of acts (taking now o f ∷ []) ∙ ap (λ l. fates acts ++ l) (taken_fates now o f) in
      let P : List Out → Type 0 = λ l. Takes t0 t t0.workers left l in
      let Q : Fates → Type 0 = λ l. AreMet 1 l [] (was.met.0 ++ value_item 0 o ∷ []) writer after' (counted report f) in
      let front : List Out = map (λ (x : Out × Fate). x.0) (fates acts) in
      let outs_of : map (λ (x : Out × Fate). x.0) (fates (acts ++ taking now o f ∷ [])) ≡ front ++ o ∷ [] =
      ap (λ l. map (λ (x : Out × Fate). x.0) l) more_fates ∙ map-append (λ (x : Out × Fate). x.0) (fates acts) (one o f) in record {
        takes = subst P (ap (λ l. front ++ l) are ∙ sym (append_assoc front (o ∷ []) rest) ∙ ap (λ l. l ++ rest) (sym outs_of)) was.takes;
        none_ended = was.none_ended;
        given = grows_same told told' told'' [] was.given same;
        met = (was.met.0 ++ value_item 0 o ∷ [], subst Q (sym more_fates) (meeting_out was.met.1 (was.met.0 ++ value_item 0 o ∷ []) 0 o f after' (omega arith) refl may failed wrote));
      }

  pub ahead_done : left ≡ 0 → AllEnded t0.workers t.got
  ahead_done none = all_ended t0.workers t.got (let l = was.takes.left_is in let n = was.none_ended in omega arith)

-- all that was taken has left
pub sent_out : {t0 t : TakerSeat} {left : ℕ} {told told' : Option (List Datagram)} {acts : List Act} {outs : List Out} {s u : State} {wire wire' : WireSeen}
    {writer writer' : WriterSeen} {report : EmitReport} → Ahead acts outs t0 t left told told' writer writer' report → outs ≡ []
    → Does acts s u wire wire' → EachWasHeld acts → NoneOvertakes acts → IsSentOut s t0.workers acts t0.got t.got (record { wire = wire; wire' = wire'; writer = writer; writer' = writer' }) report
sent_out {acts = acts} was none did each order =
    let got = was.takes.got in let met = was.met.1 in
    let front : List Out = map (λ (x : Out × Fate). x.0) (fates acts) in record {
      met = record {
        outs = (got.0, got.1, got.2 ∙ ap (λ l. front ++ l) none ∙ append-nil front, got.3);
        meet = met.meet;
        counts = met.counts;
        writer_failures = met.writer_failures;
        wrote = met.wrote;
        written = met.written;
      };
      does = record { taken = did.taken; failed = did.failed; asked = did.asked; open_now = refl };
      was_held = each;
      in_order = order;
    }
